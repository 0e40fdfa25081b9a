-- A scope that holds over one table of methods holds over another that has the same methods for all types that are reached.
use Rattle.std.proofs.Common.{◌≡◌, ℕ, ◌≤◌, List, [], ◌∷◌, ◌++◌, map, length, inl, inr, refl, sym, subst, Option, Some, None, Bool as Truth, true, false}
use Rattle.wy_text.specs.Members.{In, Within, Apart}
use Rattle.wy_text.proofs.Lists.{In-left, In-right, In-cases, length-apart}
use Rattle.wy_effects.proofs.Closure.{Closes, closure}
use Rattle.wy_effects.specs.Bounds.{Bounds, IsUnder, IsWithin}
use Rattle.wy_types.specs.declared.types.TypeRef.{TypeRef}
use Rattle.wy_types.specs.declared.types.TypeRef.TheVariants.{Int, Bool, Text, Unit as Nothing, Named, At, Own}
use Rattle.wy_types.specs.declared.resolved.Field.{Field}
use Rattle.wy_types.specs.declared.code.UnaryOperator.{UnaryOperator}
use Rattle.wy_types.specs.declared.code.UnaryOperator.TheVariants.{Negate, Not}
use Rattle.wy_types.specs.declared.code.BinaryOperator.{BinaryOperator}
use Rattle.wy_types.specs.declared.code.BinaryOperator.TheVariants.{Add, Subtract, Multiply, Divide, Remainder, Join, Less, LessOrEqual, Greater, GreaterOrEqual, Equal, NotEqual, And, Or}
use Rattle.wy_types.specs.declared.code.TextOperator.{TextOperator}
use Rattle.wy_types.specs.declared.code.TextOperator.TheVariants.{Size, Part, Code, Byte, Show}
use Rattle.wy_types.specs.Code.{Expr, Number, Quoted, Truth as TruthOf, Nothing as NothingOf, This, Name, Unary, Binary, TextCall, Call, New, Ascribe, Assign, Value, Plain, If, Values, none, more, Block, Last, Then, Val}
use Rattle.wy_types.specs.Program.{Program, Scope, Body, Start, Init, Run}
use Rattle.wy_types.specs.Signature.{Signature, find_method}
use Rattle.wy_types.specs.Types.{IsObject, is_plain, methods_of}
use Rattle.wy_types.specs.Subtyping.{ParamsIn, HasCover, IsClosed, AnyEffect}
use Rattle.wy_types.specs.Written.{expr_types, value_types, values_types, block_types, written_types}
use Rattle.wy_types.specs.Reached.{start_types}
use Rattle.wy_types.proofs.Deciding.{decide_type, decide_pair}
use Rattle.wy_types.proofs.Closing.{find_in}
use Rattle.wy_rules.specs.Readings.{Reading, IsBelow}
use Rattle.wy_rules.specs.Operators.{Row, Operation, operation_of, equality_rows, two, unary_rows, binary_rows, text_rows}
use Rattle.wy_rules.specs.Derivations.{Derivation, T-Lit, T-Var, T-This, T-Call, T-New, T-If, T-Set, T-Op, T-Asc, T-Sub, Derivations, none as no_derivations, more as one_more, BlockDerivation, Result, T-Seq, T-Val, Block-Sub, BodyDerivation, T-Body, T-Body-Init}
use Rattle.wy_types.specs.declared.code.Variable.TheVariants.{Parameter, Local}
use Rattle.wy_types.specs.declared.code.Binding.{Binding}
use Rattle.wy_types.specs.declared.code.Binding.TheVariants as to
use Rattle.std.specs.Prelude.{if◌then◌else◌}
use Rattle.wy_rules.specs.Typing.{IsValType, binding_type, field_at, if_mutable, field_types, var_field, Derives, DerivesAll, DerivesBlock, DerivesStart, DerivesBodies, ScopeHolds}
use Rattle.wy_types.specs.Core.{ScopeFits}
use Rattle.wy_types.specs.Bounds.{bounds_of}
use Rattle.wy_rules.specs.Acceptance.{reading_of}
use Rattle.wy_rules.specs.Canonical.{same_type, canonical_locals, canonical_start, canonical_body}
use Rattle.wy_rules.proofs.Forms.{Lawful}
use Rattle.wy_rules.proofs.Lawfulness.{annotated_lawful, plain_lawful}
use Rattle.wy_rules.proofs.Writing.{Exact}
use Rattle.wy_rules.proofs.SameTypes.{kinds_exact}
use Rattle.wy_rules.proofs.WritingScopes.{scope_written, scope_settled, settled_ready}
use Rattle.wy_rules.proofs.Reaching.{IsKept, locals_hold, scope_names, reached_closed, reached_in_start, reached_in_bodies, bodies_reached}
use Rattle.wy_rules.specs.Reached.{IsReached, Each, Names, NamesAll, NamesBlock, NamesBody, NamesBodies}
use Rattle.wy_rules.specs.Transfer.{AgreesIn, ScopesHoldWhereMethodsAgree}

abbrev Two : Type 0
Two = TypeRef × TypeRef

-- the pairs that a pair asks for
abbrev zipped : List TypeRef → List TypeRef → List Two
zipped (a ∷ xs) (b ∷ zs) = (b, a) ∷ zipped xs zs
zipped xs zs = []

abbrev ask_one : Option (Signature TypeRef) → Signature TypeRef → List Two
ask_one None r = []
ask_one (Some l) r = (l.result, r.result) ∷ zipped l.params r.params

abbrev asks : List (Signature TypeRef) → List (Signature TypeRef) → List Two
asks ls [] = []
asks ls (r ∷ rs) = ask_one (find_method r.name ls) r ++ asks ls rs

asked_of : (ls rs : List (Signature TypeRef)) (q : Two) → In {X = Two} q (asks ls rs) → (r : Signature TypeRef) × In r rs × In {X = Two} q (ask_one (find_method r.name ls) r)
asked_of ls [] q i = absurd i
asked_of ls (r ∷ rs) q i = elim (In-cases {X = Two} q (ask_one (find_method r.name ls) r) (asks ls rs) i) [
  | inl j ↦ (r, inl refl, j)
  | inr j ↦ (let a = asked_of ls rs q j in (a.0, inr a.1, a.2))
]

of_asked : (ls rs : List (Signature TypeRef)) (r : Signature TypeRef) (q : Two) → In r rs → In {X = Two} q (ask_one (find_method r.name ls) r) → In {X = Two} q (asks ls rs)
of_asked ls [] r q i j = absurd i
of_asked ls (a ∷ rs) r q (inl e) j = In-left {X = Two} q (ask_one (find_method a.name ls) a) (asks ls rs) (let P : Signature TypeRef → Type 0 = λ v. In {X = Two} q (ask_one (find_method v.name ls) v) in subst P (sym e) j)
of_asked ls (a ∷ rs) r q (inr i) j = In-right {X = Two} q (ask_one (find_method a.name ls) a) (asks ls rs) (of_asked ls rs r q i j)

-- of parameter pairs
zip_in : (ps : List Two) (P : TypeRef → Type 0) (xs zs : List TypeRef) → ParamsIn ps xs zs → Each P xs → Each P zs → (q : Two) → In {X = Two} q (zipped xs zs) → In {X = Two} q ps × P q.0 × P q.1
zip_in ps P [] zs h f g q i = absurd i
zip_in ps P (a ∷ xs) [] h f g q i = absurd i
zip_in ps P (a ∷ xs) (b ∷ zs) h f g q (inl e) = let Q : Two → Type 0 = λ v. In {X = Two} v ps × P v.0 × P v.1 in subst Q e (h.0, g.0, f.0)
zip_in ps P (a ∷ xs) (b ∷ zs) h f g q (inr i) = zip_in ps P xs zs h.1 f.1 g.1 q i

in_zip : (ps qs : List Two) (xs zs : List TypeRef) → ParamsIn ps xs zs → ((q : Two) → In {X = Two} q (zipped xs zs) → In {X = Two} q qs) → ParamsIn qs xs zs
in_zip ps qs [] [] h f = tt
in_zip ps qs [] (b ∷ zs) h f = absurd h
in_zip ps qs (a ∷ xs) [] h f = absurd h
in_zip ps qs (a ∷ xs) (b ∷ zs) h f = (f (b, a) (inl refl), in_zip ps qs xs zs h.1 (λ q i. f q (inr i)))

-- the tests of effects of a reading
pub record Tests : Type 1 where
  pub Includes : List ℕ → List ℕ → Type 0
  pub Allows : List ℕ → List ℕ → Type 0
  pub Under : List ℕ → ℕ → Type 0

abbrev over : (TypeRef → List (Signature TypeRef)) → Tests → Reading
over m Inc = record { Kind = TypeRef; read = λ t. t; effect = λ e. e; methods = m; IsObject = IsObject; Includes = Inc.Includes; Allows = Inc.Allows; Under = Inc.Under }

------------------------------------------------------------
-- Subtyping

module _ (m n : TypeRef → List (Signature TypeRef)) (Inc : Tests) (P : TypeRef → Type 0)
    (params : (t : TypeRef) → P t → (x : Signature TypeRef) → In x (m t) → Each P x.params) (result : (t : TypeRef) → P t → (x : Signature TypeRef) → In x (m t) → P x.result)
    (agree : (t : TypeRef) → P t → m t ≡ n t) (bases : (t : TypeRef) → (IsObject t → ⊥) → m t ≡ []) where
  module _ (ps : List Two) (closed : (q : Two) → In {X = Two} q ps → IsClosed TypeRef m IsObject Inc.Allows ps q) where
    abbrev Kept : Two → Type 0
    Kept q = In {X = Two} q ps × P q.0 × P q.1

    abbrev next : Two → List Two
    next q = asks (m q.0) (m q.1)

    asked_kept : (q v : Two) → Kept q → (r : Signature TypeRef) → In r (m q.1) → (o : Option (Signature TypeRef)) → find_method r.name (m q.0) ≡ o → HasCover TypeRef m IsObject Inc.Allows ps o r → In {X = Two} v (ask_one o r) → Kept v
    asked_kept q v k r j None e h i = absurd h
    asked_kept q v k r j (Some l) e h (inl f) =
        let Q : Two → Type 0 = Kept in
        subst Q f (h.result, result q.0 k.1 l (find_in r.name (m q.0) l e), result q.1 k.2 r j)
    asked_kept q v k r j (Some l) e h (inr i) = zip_in ps P l.params r.params h.params (params q.0 k.1 l (find_in r.name (m q.0) l e)) (params q.1 k.2 r j) v i

    goes_on : (q v : Two) → Kept q → In {X = Two} v (next q) → Kept v
    goes_on q v k i =
        let a = asked_of (m q.0) (m q.1) v i in
        elim (closed q k.0) [
          | inl base ↦ absurd (let e = bases q.1 (λ o. base.1 (subst IsObject (sym base.0) o)) in subst (λ rs. In a.0 rs) e a.1)
          | inr object ↦ asked_kept q v k a.0 a.1 (find_method a.0.name (m q.0)) refl (object.2 a.0 a.1) a.2
        ]

    few : (qs : List Two) → Apart qs → ((q : Two) → In {X = Two} q qs → Kept q) → length qs ≤ length ps
    few qs d f = length-apart qs ps d (λ q i. (f q i).0)

    all_of : (q : Two) → Kept q → Closes Two next Kept [] (q ∷ [])
    all_of q k = closure Two (decide_pair decide_type decide_type) next Kept goes_on (length ps) few q k

    cover_over : (qs : List Two) (q : Two) (r : Signature TypeRef) (o : Option (Signature TypeRef)) → ((v : Two) → In {X = Two} v (ask_one o r) → In {X = Two} v qs) → HasCover TypeRef m IsObject Inc.Allows ps o r → HasCover TypeRef n IsObject Inc.Allows qs o r
    cover_over qs q r None f h = absurd h
    cover_over qs q r (Some l) f h = record { params = in_zip ps qs l.params r.params h.params (λ v i. f v (inr i)); effect = h.effect; result = f (l.result, r.result) (inl refl) }

    closed_over : (qs : List Two) → ((q : Two) → In {X = Two} q qs → Kept q) → ((q : Two) → In {X = Two} q qs → Within {X = Two} (next q) qs) → (q : Two) → In {X = Two} q qs → IsClosed TypeRef n IsObject Inc.Allows qs q
    closed_over qs each going q i =
        let k = each q i in
        elim (closed q k.0) [
          | inl base ↦ inl base
          | inr object ↦ inr (
            object.0,
            object.1,
            λ r j.
                let j2 = subst (λ rs. In r rs) (sym (agree q.1 k.2)) j in
                subst (λ ls. HasCover TypeRef n IsObject Inc.Allows qs (find_method r.name ls) r) (agree q.0 k.1)
                (cover_over qs q r (find_method r.name (m q.0)) (λ v l. going q i v (of_asked (m q.0) (m q.1) r v j2 l)) (object.2 r j2)),
          )
        ]

  -- a subtyping over one table is one over the other
  pub below_over : (a b : TypeRef) → P a → P b → IsBelow (over m Inc) a b → IsBelow (over n Inc) a b
  below_over a b f g h =
      let l = all_of h.pairs h.closed (a, b) (h.first, f, g) in
      record { pairs = l.list; first = l.new (a, b) (inl refl); closed = closed_over h.pairs h.closed l.list l.each l.closed }

------------------------------------------------------------
-- Derivations

module _ (m n : TypeRef → List (Signature TypeRef)) (Inc : Tests) (s : Scope) (P : TypeRef → Type 0) (c : IsKept (over m Inc) s P)
    (agree : (t : TypeRef) → P t → m t ≡ n t) (bases : (t : TypeRef) → (IsObject t → ⊥) → m t ≡ []) where
  one_row : (a r : Row) → Each P a.operands → In r (a ∷ []) → Each P r.operands
  one_row a r h (inl e) = subst (λ (v : Row). Each P v.operands) e h
  one_row a r h (inr i) = absurd i

  equal_rows : (r : Row) → In r equality_rows → Each P r.operands
  equal_rows r (inl e) = subst (λ (v : Row). Each P v.operands) e (c.number, (c.number, tt))
  equal_rows r (inr (inl e)) = subst (λ (v : Row). Each P v.operands) e (c.truth, (c.truth, tt))
  equal_rows r (inr (inr i)) = one_row (two Text Bool) r (c.text, (c.text, tt)) i

  unary_holds : (op : UnaryOperator) (r : Row) → In r (unary_rows op) → Each P r.operands
  unary_holds Negate r i = one_row _ r (c.number, tt) i
  unary_holds Not r i = one_row _ r (c.truth, tt) i

  text_holds : (op : TextOperator) (r : Row) → In r (text_rows op) → Each P r.operands
  text_holds Size r i = one_row _ r (c.text, tt) i
  text_holds Part r i = one_row _ r (c.text, (c.number, (c.number, tt))) i
  text_holds Code r i = one_row _ r (c.text, (c.number, tt)) i
  text_holds Byte r i = one_row _ r (c.number, tt) i
  text_holds Show r i = one_row _ r (c.number, tt) i

  binary_holds : (op : BinaryOperator) (r : Row) → In r (binary_rows op) → Each P r.operands
  binary_holds Add r i = one_row _ r (c.number, (c.number, tt)) i
  binary_holds Subtract r i = one_row _ r (c.number, (c.number, tt)) i
  binary_holds Multiply r i = one_row _ r (c.number, (c.number, tt)) i
  binary_holds Divide r i = one_row _ r (c.number, (c.number, tt)) i
  binary_holds Remainder r i = one_row _ r (c.number, (c.number, tt)) i
  binary_holds Join r i = one_row _ r (c.text, (c.text, tt)) i
  binary_holds Less r i = one_row _ r (c.number, (c.number, tt)) i
  binary_holds LessOrEqual r i = one_row _ r (c.number, (c.number, tt)) i
  binary_holds Greater r i = one_row _ r (c.number, (c.number, tt)) i
  binary_holds GreaterOrEqual r i = one_row _ r (c.number, (c.number, tt)) i
  binary_holds Equal r i = equal_rows r i
  binary_holds NotEqual r i = equal_rows r i
  binary_holds And r i = one_row _ r (c.truth, (c.truth, tt)) i
  binary_holds Or r i = one_row _ r (c.truth, (c.truth, tt)) i

  types_left : (ts us : List TypeRef) → Each P (ts ++ us) → Each P ts
  types_left [] us h = tt
  types_left (t ∷ ts) us h = (h.0, types_left ts us h.1)

  types_right : (ts us : List TypeRef) → Each P (ts ++ us) → Each P us
  types_right [] us h = h
  types_right (t ∷ ts) us h = types_right ts us h.1

  each_id : (ts : List TypeRef) → Each P ts → Each P (map (λ t. t) ts)
  each_id [] h = tt
  each_id (t ∷ ts) h = (h.0, each_id ts h.1)

  each_none : (ts : List TypeRef) → Each P ts → Each P (ts ++ [])
  each_none [] h = tt
  each_none (t ∷ ts) h = (h.0, each_none ts h.1)

  each_two : (ts us : List TypeRef) → Each P (ts ++ us) → Each P (ts ++ (us ++ []))
  each_two [] us h = each_none us h
  each_two (t ∷ ts) us h = (h.0, each_two ts us h.1)

  some_operation : (a b : Operation) → ◌≡◌ {A = Option Operation} (Some a) (Some b) → a ≡ b
  some_operation a b e = cc

  abbrev OperationHolds : Operation → Type 0
  OperationHolds o = ((r : Row) → In r o.rows → Each P r.operands) × Each P (values_types o.operands)

  operation_holds : (x : Expr) (o : Operation) → operation_of x ≡ Some o → Each P (expr_types x) → OperationHolds o
  operation_holds (Unary q op x) o e h = subst OperationHolds (some_operation _ o e) (unary_holds op, each_none (expr_types x) h)
  operation_holds (Binary q op x v) o e h = subst OperationHolds (some_operation _ o e) (binary_holds op, each_two (expr_types x) (expr_types v) h)
  operation_holds (TextCall q op xs) o e h = subst OperationHolds (some_operation _ o e) (text_holds op, h)
  operation_holds (Number q i) o e h = absurd (cc)
  operation_holds (Quoted q bytes) o e h = absurd (cc)
  operation_holds (TruthOf q b) o e h = absurd (cc)
  operation_holds (NothingOf q) o e h = absurd (cc)
  operation_holds (This q) o e h = absurd (cc)
  operation_holds (Name q name) o e h = absurd (cc)
  operation_holds (Call q x name xs) o e h = absurd (cc)
  operation_holds (New q l xs) o e h = absurd (cc)
  operation_holds (Ascribe q x t) o e h = absurd (cc)
  operation_holds (Assign q name x) o e h = absurd (cc)

  mutable_holds : (owner : Option ℕ) (i : ℕ) (o : Option Field) (v : Field) → field_at s owner i ≡ o → if_mutable o ≡ Some v → P v.typ
  mutable_holds owner i None v e f = absurd (cc)
  mutable_holds owner i (Some g) v e f =
      elim g.mutable as (λ b. (if b then Some g else None) ≡ Some v → P v.typ) [
        | true ↦ λ a. (let same : g ≡ v = cc in subst (λ (u : Field). P u.typ) same (c.field owner i g e))
        | false ↦ λ a. absurd (cc)
      ] f

  var_holds : (owner : Option ℕ) (name : Binding) (v : Field) → var_field s owner name ≡ Some v → P v.typ
  var_holds owner (to.Variable a) v e = absurd (cc)
  var_holds owner (to.Field i) v e = mutable_holds owner i (field_at s owner i) v refl e
  var_holds owner (to.Own k) v e = absurd (cc)

  module _ (locals : List TypeRef) (owner : Option ℕ) where
    binding_over : (name : Binding) (t : TypeRef) → binding_type (over m Inc) s locals owner name ≡ Some t → binding_type (over n Inc) s locals owner name ≡ Some t
    binding_over (to.Variable (Parameter k i)) t e = e
    binding_over (to.Variable (Local i)) t e = e
    binding_over (to.Field i) t e = e
    binding_over (to.Own k) t e = e

    val_over : (typ : Option TypeRef) (x : Value) (k : TypeRef) → IsValType (over m Inc) s locals owner typ x k → IsValType (over n Inc) s locals owner typ x k
    val_over None (Plain x) k h = tt
    val_over None (If q test first second) k h = h
    val_over (Some u) x k h = h

    mutual
      value_over : (d : Derivation TypeRef) (x : Value) (t : TypeRef) (f : List ℕ) → Derives (over m Inc) s locals owner d x t f → Names P d → P t → Each P (value_types x) → Derives (over n Inc) s locals owner d x t f
      value_over (T-Lit q) (Plain x) t f h a b g = h
      value_over (T-Var q) (Plain (Name i name)) t f h a b g = (h.0, binding_over name t h.1, h.2)
      value_over (T-This q) (Plain (This i)) t f h a b g = h
      value_over (T-Call q d k e ds) (Plain (Call i x name xs)) t f h a b g = (
        h.0,
        h.1,
        value_over d (Plain x) k e h.2 a.0 a.1 (types_left (expr_types x) (values_types xs) g),
        h.3,
        subst (λ ms. find_method name ms ≡ Some h.0) (agree k a.1) h.4,
        all_over ds xs h.0.params h.5 a.2 (c.params k a.1 h.0 (find_in name (m k) h.0 h.4)) (types_right (expr_types x) (values_types xs) g),
        h.6,
        h.7,
      )
      value_over (T-New q ds) (Plain (New i l xs)) t f h a b g = (h.0, all_over ds xs (map (λ t. t) (field_types s l)) h.1 a (c.fields l) g, h.2, h.3)
      value_over (T-If q d e u i v j) (If r test first second) t f h a b g =
          let l = types_right (expr_types test) (block_types first ++ block_types second) g in (
            h.0,
            value_over d (Plain test) Bool e h.1 a.0 c.truth (types_left (expr_types test) (block_types first ++ block_types second) g),
            block_over u first t i h.2 a.1 b (types_left (block_types first) (block_types second) l),
            block_over v second t j h.3 a.2 b (types_right (block_types first) (block_types second) l),
            h.4,
          )
      value_over (T-Set q d) (Plain (Assign i name x)) t f h a b g = (h.0, h.1, h.2, value_over d x h.0.typ f h.3 a (var_holds owner name h.0 h.2) g, h.4)
      value_over (T-Op q r ds) (Plain x) t f h a b g =
          let o = operation_holds x h.0 h.2 g in
          (h.0, h.1, h.2, h.3, all_over ds h.0.operands (map (λ t. t) r.operands) h.4 a (each_id r.operands (o.0 r h.3)) o.1, h.5, h.6)
      value_over (T-Asc q d) (Plain (Ascribe i x u)) t f h a b g = (h.0, value_over d x u f h.1 a (types_right (value_types x) (u ∷ []) g).0 (types_left (value_types x) (u ∷ []) g), h.2)
      value_over (T-Sub q d k e) x t f h a b g = (h.0, value_over d x k e h.1 a.0 a.1 g, below_over m n Inc P c.params c.result agree bases k t a.1 b h.2, h.3)
      value_over d x t f h a b g = absurd h

      all_over : (ds : Derivations TypeRef) (xs : Values) (ts : List TypeRef) → DerivesAll (over m Inc) s locals owner ds xs ts → NamesAll P ds → Each P ts → Each P (values_types xs) → DerivesAll (over n Inc) s locals owner ds xs ts
      all_over no_derivations none [] h a b g = tt
      all_over (one_more d e ds) (more x xs) (t ∷ ts) h a b g =
          (value_over d x t e h.0 a.0 b.0 (types_left (value_types x) (values_types xs) g), all_over ds xs ts h.1 a.1 b.1 (types_right (value_types x) (values_types xs) g))
      all_over ds xs ts h a b g = absurd h

      block_over : (d : BlockDerivation TypeRef) (x : Block) (t : TypeRef) (f : List ℕ) → DerivesBlock (over m Inc) s locals owner d x t f → NamesBlock P d → P t → Each P (block_types x) → DerivesBlock (over n Inc) s locals owner d x t f
      block_over (Result d) (Last x) t f h a b g = value_over d x t f h a b g
      block_over (T-Seq q d e ds i) (Then x rest) t f h a b g =
          (h.0, value_over d x Nothing e h.1 a.0 c.nothing (types_left (value_types x) (block_types rest) g), block_over ds rest t i h.2 a.1 b (types_right (value_types x) (block_types rest) g), h.3)
      block_over (T-Val q d k e ds i) (Val j l typ x rest) t f h a b g =
          let r = types_right (written_types typ) (value_types x ++ block_types rest) g in
          (h.0, h.1, val_over typ x k h.2, value_over d x k e h.3 a.0 a.1 (types_left (value_types x) (block_types rest) r), block_over ds rest t i h.4 a.2 b (types_right (value_types x) (block_types rest) r), h.5)
      block_over (Block-Sub q ds k e) x t f h a b g = (h.0, block_over ds x k e h.1 a.0 a.1 g, below_over m n Inc P c.params c.result agree bases k t a.1 b h.2, h.3)
      block_over d x t f h a b g = absurd h

  start_over : (locals : List TypeRef) (st : Start) (d : BodyDerivation TypeRef) → DerivesStart (over m Inc) s locals d st → NamesBody P d → Each P (start_types st) → DerivesStart (over n Inc) s locals d st
  start_over locals (Init values) (T-Body-Init q ds) h a g = (h.0, all_over locals None ds values (map (λ t. t) (field_types s 0)) h.1 a (c.fields 0) g, h.2)
  start_over locals (Run block) (T-Body q d f) h a g = (h.0, block_over locals None d block Nothing f h.1 a c.nothing g, h.2)
  start_over locals (Init values) (T-Body q d f) h a g = absurd h
  start_over locals (Run block) (T-Body-Init q ds) h a g = absurd h

  bodies_over : (locals : List TypeRef) (bs : List Body) (ds : List (BodyDerivation TypeRef)) → DerivesBodies (over m Inc) s locals ds bs → NamesBodies P ds → ((b : Body) → In b bs → P b.signature.result × Each P (block_types b.block)) → DerivesBodies (over n Inc) s locals ds bs
  bodies_over locals [] [] h a g = tt
  bodies_over locals [] (d ∷ ds) h a g = absurd h
  bodies_over locals (b ∷ bs) [] h a g = absurd h
  bodies_over locals (b ∷ bs) (T-Body-Init q e ∷ ds) h a g = absurd h.0
  bodies_over locals (b ∷ bs) (T-Body q d f ∷ ds) h a g =
      let r = g b (inl refl) in
      ((h.0.0, block_over locals (Some b.owner) d b.block b.signature.result f h.0.1 a.0 r.0 r.1, h.0.2), bodies_over locals bs ds h.1 a.1 (λ v i. g v (inr i)))

-- what holds over one table holds over the other
each_kept : (P : TypeRef → Type 0) (ts : List TypeRef) → Each P (map (λ t. t) ts) → Each P ts
each_kept P [] h = tt
each_kept P (t ∷ ts) h = (h.0, each_kept P ts h.1)

transferred : (m n : TypeRef → List (Signature TypeRef)) (Inc : Tests) (w : Lawful (over m Inc)) (z : Exact (over m Inc) same_type) (p : Program) (s : Scope) → ScopeFits p s →
    ((t : TypeRef) → IsReached (over m Inc) s t → m t ≡ n t) → ((t : TypeRef) → (IsObject t → ⊥) → m t ≡ []) → ScopeHolds (over m Inc) s → ScopeHolds (over n Inc) s
transferred m n Inc w z p s fits agree bases h =
    let y = over m Inc in
    let least = canonical_locals y same_type s in
    let a = scope_settled y same_type p s fits in
    let d = (scope_written y w same_type z p s least h.derivation.locals fits h.derivation.start h.derivation.bodies h.derives.0 h.derives.1 (settled_ready y w same_type z p s least h.derivation.locals a)).derives in
    let P = IsReached y s in
    let c = reached_closed y s in
    let found = locals_hold y same_type p s P c fits.starts.1 (reached_in_start y s) (bodies_reached y s p fits) in
    let names = scope_names y same_type p s P c fits.starts.1 (reached_in_start y s) (bodies_reached y s p fits) least found in
    record {
      derivation = record { locals = least; start = canonical_start y same_type s least s.start; bodies = map (canonical_body y same_type s least) s.bodies };
      derives = (
        start_over m n Inc s P c agree bases least s.start (canonical_start y same_type s least s.start) d.0 names.1 (each_kept P (start_types s.start) (reached_in_start y s)),
        bodies_over m n Inc s P c agree bases least s.bodies (map (canonical_body y same_type s least) s.bodies) d.1 names.2
            (λ b i. (let r = reached_in_bodies y s b i in (r.0, each_kept P (block_types b.block) r.1))),
      );
    }

pub base_methods : (p : Program) (k : ℕ) (t : TypeRef) → (IsObject t → ⊥) → methods_of p k t ≡ []
base_methods p k Int o = refl
base_methods p k Bool o = refl
base_methods p k Text o = refl
base_methods p k Nothing o = refl
base_methods p k (Named d es) o = absurd (o tt)
base_methods p k (At d e) o = absurd (o tt)
base_methods p k (Own l) o = absurd (o tt)

abbrev pub plain_tests : Tests
plain_tests = record { Includes = AnyEffect; Allows = AnyEffect; Under = λ f a. Unit {0} }

abbrev pub tests_over : Bounds → Tests
tests_over bounds = record { Includes = Within; Allows = IsWithin bounds; Under = IsUnder bounds }

pub transferred_in : (p other : Program) (k : ℕ) (s : Scope) (plain : Truth) → ScopeFits p s → bounds_of p k ≡ bounds_of other k → AgreesIn p other k s plain → ScopeHolds (reading_of p k plain) s → ScopeHolds (reading_of other k plain) s
transferred_in p other k s true fits same agree h = transferred (methods_of p k) (methods_of other k) plain_tests (plain_lawful p k) (kinds_exact p k true) p s fits agree (base_methods p k) h
transferred_in p other k s false fits same agree h =
    subst (λ b. ScopeHolds (over (methods_of other k) (tests_over b)) s) same
    (transferred (methods_of p k) (methods_of other k) (tests_over (bounds_of p k)) (annotated_lawful p k) (kinds_exact p k false) p s fits agree (base_methods p k) h)

pub scopes_hold_where_methods_agree : ScopesHoldWhereMethodsAgree
scopes_hold_where_methods_agree p other k s fits same agree h = transferred_in p other k s (is_plain s.kind) fits same agree h
