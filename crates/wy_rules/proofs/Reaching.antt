-- What is written for a scope names only types that are reached from those that the scope writes.
use Rattle.std.proofs.Common.{◌≡◌, ℕ, length, zero, suc, List, [], ◌∷◌, ◌++◌, map, inl, inr, refl, subst, Option, Some, None, Bool as Truth, true, false}
use Rattle.std.specs.Prelude.{slice_get, if◌then◌else◌}
use Rattle.std.specs.Option.{option_map}
use Rattle.wy_text.specs.declared.fault.Place.{Place}
use Rattle.wy_text.specs.Members.{In}
use Rattle.wy_text.proofs.Lists.{In-map, In-at, In-slice_get}
use Rattle.wy_types.specs.declared.types.TypeRef.{TypeRef}
use Rattle.wy_types.specs.declared.types.TypeRef.TheVariants.{Int, Bool, Text, Unit as Nothing, Own}
use Rattle.wy_types.specs.declared.code.Variable.{Variable}
use Rattle.wy_types.specs.declared.code.Variable.TheVariants.{Parameter, Local}
use Rattle.wy_types.specs.Core.{ScopeFits, StartFits, ExprFits, ValueFits, ValuesFit, BlockFits}
use Rattle.wy_types.specs.declared.code.Binding.{Binding}
use Rattle.wy_types.specs.declared.code.Binding.TheVariants as to
use Rattle.wy_types.specs.declared.code.UnaryOperator.{UnaryOperator}
use Rattle.wy_types.specs.declared.code.UnaryOperator.TheVariants.{Negate, Not}
use Rattle.wy_types.specs.declared.code.BinaryOperator.{BinaryOperator}
use Rattle.wy_types.specs.declared.code.BinaryOperator.TheVariants.{Add, Subtract, Multiply, Divide, Remainder, Join, Less, LessOrEqual, Greater, GreaterOrEqual, Equal, NotEqual, And, Or}
use Rattle.wy_types.specs.declared.code.TextOperator.{TextOperator}
use Rattle.wy_types.specs.declared.code.TextOperator.TheVariants.{Size, Part, Code, Byte, Show}
use Rattle.wy_types.specs.declared.resolved.Field.{Field}
use Rattle.wy_types.specs.declared.resolved.OwnName.{OwnName}
use Rattle.wy_types.specs.Code.{Expr, Number, Quoted, Truth as TruthOf, Nothing as NothingOf, This, Name, Unary, Binary, TextCall, Call, New, Ascribe, Assign, Value, Plain, If, Values, none, more, Block, Last, Then, Val}
use Rattle.wy_types.specs.Program.{Program, Scope, Body, Start, Init, Run}
use Rattle.wy_types.specs.Types.{is_plain}
use Rattle.wy_types.specs.Signature.{Signature, find_method}
use Rattle.wy_types.specs.Written.{expr_types, value_types, values_types, block_types, written_types}
use Rattle.wy_types.specs.Reached.{start_types, own_types}
use Rattle.wy_types.proofs.Closing.{find_in}
use Rattle.wy_rules.specs.Readings.{Reading}
use Rattle.wy_rules.specs.Operators.{Row, unary_rows, binary_rows, text_rows}
use Rattle.wy_rules.specs.Derivations.{expr_mark, mark, block_mark}
use Rattle.wy_rules.specs.Typing.{fields_of, field_types, field_at, if_mutable, var_field, parameter_type, binding_type}
use Rattle.wy_rules.specs.Acceptance.{scope_reading}
use Rattle.wy_rules.specs.Canonical.{Typed, TypedBlock, subsumed_unless, block_subsumed_unless, found_type, object_type, method_params, method_result, field_type, row_or, row_of, first_row, at_type, block_at_type, canonical_expr, canonical_value, canonical_values, canonical_block, val_type, with_local, settle_expr, settle_value, settle_values, settle_block, settle_start, settle_bodies, canonical_start, canonical_body, canonical_scope, canonical_locals, same_read}
use Rattle.wy_rules.specs.Reached.{CanonicalTypesAreReached, IsReached, of_number, of_truth, of_text, of_nothing, of_own, of_field, of_parameter, of_answer, of_name, of_start, of_body, of_argument, of_result, NamesBody, NamesBodies, NamesScope, Each, Names, NamesAll, NamesBlock}
use Rattle.wy_rules.proofs.OwnTypes.{own_in, owner_in}

each_in : {X : Type 0} (P : X → Type 0) (xs : List X) → Each P xs → (x : X) → In x xs → P x
each_in P [] h x i = absurd i
each_in P (a ∷ xs) h x (inl e) = subst P e h.0
each_in P (a ∷ xs) h x (inr i) = each_in P xs h.1 x i

-- what each type of a list has, the one at a number has
pub each_at : {X : Type 0} (P : X → Type 0) (xs : List X) → Each P xs → (n : ℕ) (x : X) → slice_get xs n ≡ Some x → P x
each_at P xs h n x e = each_in P xs h x (In-slice_get xs n x e)

module _ {K : Type 0} (P : K → Type 0) where
  each_left : (xs ys : List K) → Each P (xs ++ ys) → Each P xs
  each_left [] ys h = tt
  each_left (x ∷ xs) ys h = (h.0, each_left xs ys h.1)

  each_right : (xs ys : List K) → Each P (xs ++ ys) → Each P ys
  each_right [] ys h = h
  each_right (x ∷ xs) ys h = each_right xs ys h.1

  names_placed : (b : Truth) (q : Place) (m : Typed K) → P m.typ → Names P m.derivation → Names P (subsumed_unless b q m)
  names_placed true q m h n = n
  names_placed false q m h n = (n, h)

  names_block_placed : (b : Truth) (q : Place) (m : TypedBlock K) → P m.typ → NamesBlock P m.derivation → NamesBlock P (block_subsumed_unless b q m)
  names_block_placed true q m h n = n
  names_block_placed false q m h n = (n, h)

-- it holds of base types, own types and all types that a scope writes outside its code, and of what the methods name of a type of which it holds
pub record IsKept (y : Reading) (s : Scope) (P : y.Kind → Type 0) : Type 0 where
  pub number : P (y.read Int)
  pub truth : P (y.read Bool)
  pub text : P (y.read Text)
  pub nothing : P (y.read Nothing)
  pub own : (t : TypeRef) → In t (own_types s.kind (length s.literals)) → P (y.read t)
  pub fields : (l : ℕ) → Each P (map y.read (field_types s l))
  pub field : (owner : Option ℕ) (i : ℕ) (f : Field) → field_at s owner i ≡ Some f → P (y.read f.typ)
  pub parameter : (k i : ℕ) (t : TypeRef) → parameter_type (slice_get s.bodies k) i ≡ Some t → P (y.read t)
  pub name : (k : ℕ) (n : OwnName) → slice_get s.names k ≡ Some n → P (y.read n.typ)
  pub params : (k : y.Kind) → P k → (m : Signature y.Kind) → In m (y.methods k) → Each P m.params
  pub result : (k : y.Kind) → P k → (m : Signature y.Kind) → In m (y.methods k) → P m.result

-- .. and of those that a body writes, its result among them
abbrev pub WritesOnly : (y : Reading) → (y.Kind → Type 0) → List TypeRef → Type 0
WritesOnly y P ts = Each P (map y.read ts)

module _ (y : Reading) (same : y.Kind → y.Kind → Truth) (p : Program) (s : Scope) (P : y.Kind → Type 0) (c : IsKept y s P) where
  types_left : (ts us : List TypeRef) → WritesOnly y P (ts ++ us) → WritesOnly y P ts
  types_left [] us h = tt
  types_left (t ∷ ts) us h = (h.0, types_left ts us h.1)

  types_right : (ts us : List TypeRef) → WritesOnly y P (ts ++ us) → WritesOnly y P us
  types_right [] us h = h
  types_right (t ∷ ts) us h = types_right ts us h.1

  -- base types are the results of operators
  unary_base : (op : UnaryOperator) → P (y.read (first_row (unary_rows op)).result)
  unary_base Negate = c.number
  unary_base Not = c.truth

  text_base : (op : TextOperator) → P (y.read (first_row (text_rows op)).result)
  text_base Size = c.number
  text_base Part = c.text
  text_base Code = c.number
  text_base Byte = c.text
  text_base Show = c.text

  text_operands : (op : TextOperator) → Each P (map y.read (first_row (text_rows op)).operands)
  text_operands Size = (c.text, tt)
  text_operands Part = (c.text, (c.number, (c.number, tt)))
  text_operands Code = (c.text, (c.number, tt))
  text_operands Byte = (c.number, tt)
  text_operands Show = (c.number, tt)

  picked : (b : Truth) (r a : Row) → P (y.read r.result) → P (y.read a.result) → P (y.read (row_or b r a).result)
  picked true r a h i = h
  picked false r a h i = i

  binary_base : (op : BinaryOperator) (k : y.Kind) → P (y.read (row_of y same (binary_rows op) k).result)
  binary_base Add k = c.number
  binary_base Subtract k = c.number
  binary_base Multiply k = c.number
  binary_base Divide k = c.number
  binary_base Remainder k = c.number
  binary_base Join k = c.text
  binary_base Less k = c.truth
  binary_base LessOrEqual k = c.truth
  binary_base Greater k = c.truth
  binary_base GreaterOrEqual k = c.truth
  binary_base Equal k = picked (same k (y.read Int)) _ _ c.truth (picked (same k (y.read Bool)) _ _ c.truth c.truth)
  binary_base NotEqual k = picked (same k (y.read Int)) _ _ c.truth (picked (same k (y.read Bool)) _ _ c.truth c.truth)
  binary_base And k = c.truth
  binary_base Or k = c.truth

  -- of a type that is found, or else that of `()`
  found_kind : (o : Option y.Kind) → ((t : y.Kind) → o ≡ Some t → P t) → P (found_type y o)
  found_kind None h = c.nothing
  found_kind (Some t) h = h t refl

  found_owner : (o : Option ℕ) → ((l : ℕ) → o ≡ Some l → In (Own l) (own_types s.kind (length s.literals))) → P (object_type y o)
  found_owner None h = c.nothing
  found_owner (Some l) h = c.own (Own l) (h l refl)

  found_params : (k : y.Kind) → P k → (o : Option (Signature y.Kind)) → ((m : Signature y.Kind) → o ≡ Some m → In m (y.methods k)) → Each P (method_params y o)
  found_params k h None f = tt
  found_params k h (Some m) f = c.params k h m (f m refl)

  found_result : (k : y.Kind) → P k → (o : Option (Signature y.Kind)) → ((m : Signature y.Kind) → o ≡ Some m → In m (y.methods k)) → P (method_result y o)
  found_result k h None f = c.nothing
  found_result k h (Some m) f = c.result k h m (f m refl)

  mutable_field : (owner : Option ℕ) (i : ℕ) (o : Option Field) → ((f : Field) → o ≡ Some f → P (y.read f.typ)) → P (field_type y (if_mutable o))
  mutable_field owner i None h = c.nothing
  mutable_field owner i (Some f) h = elim f.mutable as (λ b. P (field_type y (if b then Some f else None))) [ true ↦ h f refl | false ↦ c.nothing ]

  assigned : (owner : Option ℕ) (name : Binding) → P (field_type y (var_field s owner name))
  assigned owner (to.Variable v) = c.nothing
  assigned owner (to.Field i) = mutable_field owner i (field_at s owner i) (c.field owner i)
  assigned owner (to.Own k) = c.nothing

  read_kind : (o : Option TypeRef) → ((t : TypeRef) → o ≡ Some t → P (y.read t)) → P (found_type y (option_map y.read o))
  read_kind None h = c.nothing
  read_kind (Some t) h = h t refl

  field_read : (o : Option Field) → ((f : Field) → o ≡ Some f → P (y.read f.typ)) → P (found_type y (option_map (λ (f : Field). y.read f.typ) o))
  field_read None h = c.nothing
  field_read (Some f) h = h f refl

  name_read : (o : Option OwnName) → ((n : OwnName) → o ≡ Some n → P (y.read n.typ)) → P (found_type y (option_map (λ (n : OwnName). y.read n.typ) o))
  name_read None h = c.nothing
  name_read (Some n) h = h n refl

  -- every type in the list
  abbrev pub Holds : List y.Kind → Type 0
  Holds us = (n : ℕ) (t : y.Kind) → slice_get us n ≡ Some t → P t

  module _ (owner : Option ℕ) (mine : (l : ℕ) → owner ≡ Some l → In (Own l) (own_types s.kind (length s.literals))) where
    module _ (locals : List y.Kind) (ok : Holds locals) where
      name_kind : (name : Binding) → P (found_type y (binding_type y s locals owner name))
      name_kind (to.Variable (Parameter k i)) = read_kind (parameter_type (slice_get s.bodies k) i) (c.parameter k i)
      name_kind (to.Variable (Local n)) = found_kind (slice_get locals n) (ok n)
      name_kind (to.Field i) = field_read (field_at s owner i) (c.field owner i)
      name_kind (to.Own k) = name_read (slice_get s.names k) (c.name k)

      abbrev pub TypedHolds : Typed y.Kind → Type 0
      TypedHolds m = P m.typ × Names P m.derivation

      abbrev pub BlockHolds : TypedBlock y.Kind → Type 0
      BlockHolds m = P m.typ × NamesBlock P m.derivation

      at_holds : (q : Place) (m : Typed y.Kind) (t : y.Kind) → TypedHolds m → Names P (at_type y same q m t)
      at_holds q m t h = names_placed P (same m.typ t) q m h.0 h.1

      block_at_holds : (q : Place) (m : TypedBlock y.Kind) (t : y.Kind) → BlockHolds m → NamesBlock P (block_at_type y same q m t)
      block_at_holds q m t h = names_block_placed P (same m.typ t) q m h.0 h.1

      mutual
        -- the type of each part has the property, and so have all types that are named in it
        pub expr_holds : (x : Expr) (seen : List Variable) → ExprFits p s owner seen x → WritesOnly y P (expr_types x) → TypedHolds (canonical_expr y same s locals owner x)
        expr_holds (Number q n) seen fit h = (c.number, tt)
        expr_holds (Quoted q bytes) seen fit h = (c.text, tt)
        expr_holds (TruthOf q b) seen fit h = (c.truth, tt)
        expr_holds (NothingOf q) seen fit h = (c.nothing, tt)
        expr_holds (This q) seen fit h = (found_owner owner mine, tt)
        expr_holds (Name q name) seen fit h = (name_kind name, tt)
        expr_holds (Unary q op x) seen fit h = (let m = expr_holds x seen fit h in (unary_base op, (at_holds (expr_mark x) _ _ m, tt)))
        expr_holds (Binary q op x v) seen fit h =
            let m = expr_holds x seen fit.0 (types_left (expr_types x) (expr_types v) h) in
            let n = expr_holds v seen fit.1 (types_right (expr_types x) (expr_types v) h) in
            (binary_base op (canonical_expr y same s locals owner x).typ, (at_holds (expr_mark x) _ _ m, (at_holds (expr_mark v) _ _ n, tt)))
        expr_holds (TextCall q op xs) seen fit h = (text_base op, values_holds xs (map y.read (first_row (text_rows op)).operands) seen fit.1 (text_operands op) h)
        expr_holds (Call q x name xs) seen fit h =
            let k = (canonical_expr y same s locals owner x).typ in
            let m = expr_holds x seen fit.0 (types_left (expr_types x) (values_types xs) h) in
            let o = find_method name (y.methods k) in
            let f : (a : Signature y.Kind) → o ≡ Some a → In a (y.methods k) = λ a e. find_in name (y.methods k) a e in
            (found_result k m.0 o f, (m.1, m.0, values_holds xs (method_params y o) seen fit.1 (found_params k m.0 o f) (types_right (expr_types x) (values_types xs) h)))
        expr_holds (New q l xs) seen fit h = (c.own (Own l) (own_in s.kind (length s.literals) l (λ e. fit.0) fit.1), values_holds xs (map y.read (field_types s l)) seen fit.4 (c.fields l) h)
        expr_holds (Ascribe q x t) seen fit h =
            let a = (types_right (value_types x) (t ∷ []) h).0 in
            (a, at_holds (mark x) _ _ (value_holds x (y.read t) seen fit.0 a (types_left (value_types x) (t ∷ []) h)))
        expr_holds (Assign q name x) seen fit h = (c.nothing, at_holds (mark x) _ _ (value_holds x (field_type y (var_field s owner name)) seen fit.1 (assigned owner name) h))

        pub value_holds : (x : Value) (t : y.Kind) (seen : List Variable) → ValueFits p s owner seen x → P t → WritesOnly y P (value_types x) → TypedHolds (canonical_value y same s locals owner x t)
        value_holds (Plain x) t seen fit a h = expr_holds x seen fit h
        value_holds (If q test first second) t seen fit a h =
            let r = types_right (expr_types test) (block_types first ++ block_types second) h in (
              a,
              (
                at_holds (expr_mark test) _ _ (expr_holds test seen fit.0 (types_left (expr_types test) (block_types first ++ block_types second) h)),
                block_at_holds (block_mark first) _ _ (block_holds first t seen fit.1 a (types_left (block_types first) (block_types second) r)),
                block_at_holds (block_mark second) _ _ (block_holds second t seen fit.2 a (types_right (block_types first) (block_types second) r)),
              ),
            )

        pub values_holds : (xs : Values) (ts : List y.Kind) (seen : List Variable) → ValuesFit p s owner seen xs → Each P ts → WritesOnly y P (values_types xs) → NamesAll P (canonical_values y same s locals owner xs ts)
        values_holds none ts seen fit a h = tt
        values_holds (more x xs) [] seen fit a h = tt
        values_holds (more x xs) (t ∷ ts) seen fit a h =
            (at_holds (mark x) _ _ (value_holds x t seen fit.0 a.0 (types_left (value_types x) (values_types xs) h)), values_holds xs ts seen fit.1 a.1 (types_right (value_types x) (values_types xs) h))

        pub block_holds : (b : Block) (t : y.Kind) (seen : List Variable) → BlockFits p s owner seen b → P t → WritesOnly y P (block_types b) → BlockHolds (canonical_block y same s locals owner b t)
        block_holds (Last x) t seen fit a h = value_holds x t seen fit a h
        block_holds (Then x rest) t seen fit a h =
            let m = value_holds x (y.read Nothing) seen fit.0 c.nothing (types_left (value_types x) (block_types rest) h) in
            let n = block_holds rest t seen fit.1 a (types_right (value_types x) (block_types rest) h) in
            (n.0, (at_holds (mark x) _ _ m, n.1))
        block_holds (Val q n typ x rest) t seen fit a h =
            let r = types_right (written_types typ) (value_types x ++ block_types rest) h in
            let k = found_kind (slice_get locals n) (ok n) in
            let m = value_holds x (found_type y (slice_get locals n)) seen fit.1 k (types_left (value_types x) (block_types rest) r) in
            let i = block_holds rest t (Local n ∷ seen) fit.2 a (types_right (value_types x) (block_types rest) r) in
            (i.0, (at_holds (mark x) _ _ m, k, i.1))

    -- what is found one after the other
    kind_holds : (us : List y.Kind) → Holds us → (typ : Option TypeRef) (x : Value) (seen : List Variable) → ValueFits p s owner seen x → WritesOnly y P (written_types typ) → WritesOnly y P (value_types x) → P (val_type y same s us owner typ x)
    kind_holds us ok None (Plain x) seen fit h i = (expr_holds us ok x seen fit i).0
    kind_holds us ok None (If q test first second) seen fit h i = c.nothing
    kind_holds us ok (Some t) x seen fit h i = h.0

    with_local_holds : (n : ℕ) (k : y.Kind) (us : List y.Kind) → P k → Holds us → Holds (with_local n k us)
    with_local_holds zero k [] a h zero t e = subst P (some_same k t e) a
      where
        some_same : (a b : y.Kind) → ◌≡◌ {A = Option y.Kind} (Some a) (Some b) → a ≡ b
        some_same a b e = cc
    with_local_holds zero k [] a h (suc m) t e = absurd (cc)
    with_local_holds zero k (u ∷ us) a h zero t e = subst P (some_same k t e) a
      where
        some_same : (a b : y.Kind) → ◌≡◌ {A = Option y.Kind} (Some a) (Some b) → a ≡ b
        some_same a b e = cc
    with_local_holds zero k (u ∷ us) a h (suc m) t e = h (suc m) t e
    with_local_holds (suc n) k [] a h zero t e = subst P (some_same k t e) a
      where
        some_same : (a b : y.Kind) → ◌≡◌ {A = Option y.Kind} (Some a) (Some b) → a ≡ b
        some_same a b e = cc
    with_local_holds (suc n) k [] a h (suc m) t e = with_local_holds n k [] a (λ i v f. absurd (nothing i v f)) m t e
      where
        nothing : (i : ℕ) (v : y.Kind) → ◌≡◌ {A = Option y.Kind} (slice_get [] i) (Some v) → ⊥
        nothing i v f = absurd (cc)
    with_local_holds (suc n) k (u ∷ us) a h zero t e = h zero t e
    with_local_holds (suc n) k (u ∷ us) a h (suc m) t e = with_local_holds n k us a (λ i v f. h (suc i) v f) m t e

    mutual
      settle_expr_holds : (x : Expr) (us : List y.Kind) (seen : List Variable) → ExprFits p s owner seen x → WritesOnly y P (expr_types x) → Holds us → Holds (settle_expr y same s owner x us)
      settle_expr_holds (Number q n) us seen fit h ok = ok
      settle_expr_holds (Quoted q bytes) us seen fit h ok = ok
      settle_expr_holds (TruthOf q b) us seen fit h ok = ok
      settle_expr_holds (NothingOf q) us seen fit h ok = ok
      settle_expr_holds (This q) us seen fit h ok = ok
      settle_expr_holds (Name q name) us seen fit h ok = ok
      settle_expr_holds (Unary q op x) us seen fit h ok = settle_expr_holds x us seen fit h ok
      settle_expr_holds (Binary q op x v) us seen fit h ok = settle_expr_holds v _ seen fit.1 (types_right (expr_types x) (expr_types v) h) (settle_expr_holds x us seen fit.0 (types_left (expr_types x) (expr_types v) h) ok)
      settle_expr_holds (TextCall q op xs) us seen fit h ok = settle_values_holds xs us seen fit.1 h ok
      settle_expr_holds (Call q x name xs) us seen fit h ok = settle_values_holds xs _ seen fit.1 (types_right (expr_types x) (values_types xs) h) (settle_expr_holds x us seen fit.0 (types_left (expr_types x) (values_types xs) h) ok)
      settle_expr_holds (New q l xs) us seen fit h ok = settle_values_holds xs us seen fit.4 h ok
      settle_expr_holds (Ascribe q x t) us seen fit h ok = settle_value_holds x us seen fit.0 (types_left (value_types x) (t ∷ []) h) ok
      settle_expr_holds (Assign q name x) us seen fit h ok = settle_value_holds x us seen fit.1 h ok

      settle_value_holds : (x : Value) (us : List y.Kind) (seen : List Variable) → ValueFits p s owner seen x → WritesOnly y P (value_types x) → Holds us → Holds (settle_value y same s owner x us)
      settle_value_holds (Plain x) us seen fit h ok = settle_expr_holds x us seen fit h ok
      settle_value_holds (If q test first second) us seen fit h ok =
          let r = types_right (expr_types test) (block_types first ++ block_types second) h in
          settle_block_holds second _ seen fit.2 (types_right (block_types first) (block_types second) r)
          (settle_block_holds first _ seen fit.1 (types_left (block_types first) (block_types second) r) (settle_expr_holds test us seen fit.0 (types_left (expr_types test) (block_types first ++ block_types second) h) ok))

      settle_values_holds : (xs : Values) (us : List y.Kind) (seen : List Variable) → ValuesFit p s owner seen xs → WritesOnly y P (values_types xs) → Holds us → Holds (settle_values y same s owner xs us)
      settle_values_holds none us seen fit h ok = ok
      settle_values_holds (more x xs) us seen fit h ok = settle_values_holds xs _ seen fit.1 (types_right (value_types x) (values_types xs) h) (settle_value_holds x us seen fit.0 (types_left (value_types x) (values_types xs) h) ok)

      settle_block_holds : (b : Block) (us : List y.Kind) (seen : List Variable) → BlockFits p s owner seen b → WritesOnly y P (block_types b) → Holds us → Holds (settle_block y same s owner b us)
      settle_block_holds (Last x) us seen fit h ok = settle_value_holds x us seen fit h ok
      settle_block_holds (Then x rest) us seen fit h ok = settle_block_holds rest _ seen fit.1 (types_right (value_types x) (block_types rest) h) (settle_value_holds x us seen fit.0 (types_left (value_types x) (block_types rest) h) ok)
      settle_block_holds (Val q n typ x rest) us seen fit h ok =
          let r = types_right (written_types typ) (value_types x ++ block_types rest) h in
          let xs = types_left (value_types x) (block_types rest) r in
          let a = settle_value_holds x us seen fit.1 xs ok in
          settle_block_holds rest _ (Local n ∷ seen) fit.2 (types_right (value_types x) (block_types rest) r)
          (with_local_holds n (val_type y same s (settle_value y same s owner x us) owner typ x) (settle_value y same s owner x us)
          (kind_holds (settle_value y same s owner x us) a typ x seen fit.1 (types_left (written_types typ) (value_types x ++ block_types rest) h) xs) a)

  -- the current object of a body
  own_of : (b : Body) → In (Own b.owner) (own_types s.kind (length s.literals)) → (l : ℕ) → Some b.owner ≡ Some l → In (Own l) (own_types s.kind (length s.literals))
  own_of b h l e = (let same : b.owner ≡ l = cc in subst (λ v. In (Own v) (own_types s.kind (length s.literals))) same h)

  none_own : (l : ℕ) → ◌≡◌ {A = Option ℕ} None (Some l) → In (Own l) (own_types s.kind (length s.literals))
  none_own l e = absurd (cc)

  -- what is asked of a body
  abbrev pub BodyHolds : Body → Type 0
  BodyHolds b = (seen : List Variable) × In (Own b.owner) (own_types s.kind (length s.literals)) × BlockFits p s (Some b.owner) seen b.block × P (y.read b.signature.result) × WritesOnly y P (block_types b.block)

  -- the bodies of a scope
  start_holds : (locals : List y.Kind) → Holds locals → (st : Start) → StartFits p s st → WritesOnly y P (start_types st) → NamesBody P (canonical_start y same s locals st)
  start_holds locals ok (Init values) fit h = values_holds None none_own locals ok values (map y.read (field_types s 0)) [] fit.1 (c.fields 0) h
  start_holds locals ok (Run block) fit h = block_at_holds None none_own locals ok (block_mark block) _ _ (block_holds None none_own locals ok block (y.read Nothing) [] fit c.nothing h)

  bodies_holds : (locals : List y.Kind) → Holds locals → (bs : List Body) → ((b : Body) → In b bs → BodyHolds b) → NamesBodies P (map (canonical_body y same s locals) bs)
  bodies_holds locals ok [] h = tt
  bodies_holds locals ok (b ∷ bs) h =
      let a = h b (inl refl) in
      (block_at_holds (Some b.owner) (own_of b a.1) locals ok (block_mark b.block) _ _ (block_holds (Some b.owner) (own_of b a.1) locals ok b.block (y.read b.signature.result) a.0 a.2 a.3 a.4), bodies_holds locals ok bs (λ d i. h d (inr i)))

  no_types : Holds []
  no_types n t e = absurd (cc)

  settle_start_holds : (st : Start) → StartFits p s st → WritesOnly y P (start_types st) → Holds (settle_start y same s st)
  settle_start_holds (Init values) fit h = settle_values_holds None none_own values [] [] fit.1 h no_types
  settle_start_holds (Run block) fit h = settle_block_holds None none_own block [] [] fit h no_types

  settle_bodies_holds : (bs : List Body) (us : List y.Kind) → ((b : Body) → In b bs → BodyHolds b) → Holds us → Holds (settle_bodies y same s bs us)
  settle_bodies_holds [] us h ok = ok
  settle_bodies_holds (b ∷ bs) us h ok = settle_bodies_holds bs _ (λ d i. h d (inr i)) (let a = h b (inl refl) in settle_block_holds (Some b.owner) (own_of b a.1) b.block us a.0 a.2 a.4 ok)

  each_held : (us : List y.Kind) → Holds us → Each P us
  each_held [] h = tt
  each_held (u ∷ us) h = (h 0 u refl, each_held us (λ n t e. h (suc n) t e))

  -- a property of what the scope writes that is kept by methods holds of the types of `val`s that are found
  pub locals_hold : StartFits p s s.start → WritesOnly y P (start_types s.start) → ((b : Body) → In b s.bodies → BodyHolds b) → Each P (canonical_locals y same s)
  locals_hold fit h k = each_held (canonical_locals y same s) (settle_bodies_holds s.bodies (settle_start y same s s.start) k (settle_start_holds s.start fit h))

  -- .. and over any types of `val`s of which it holds, of all that is named
  pub scope_names : StartFits p s s.start → WritesOnly y P (start_types s.start) → ((b : Body) → In b s.bodies → BodyHolds b) → (locals : List y.Kind) → Each P locals →
      NamesScope P (canonical_scope y same s locals)
  scope_names fit h k locals each =
      let ok : Holds locals = λ n t e. each_at P locals each n t e in
      (each, start_holds locals ok s.start fit h, bodies_holds locals ok s.bodies k)

------------------------------------------------------------
-- What is reached is closed so

module _ (y : Reading) (s : Scope) where
  each_read : (ts : List TypeRef) → ((t : TypeRef) → In t ts → IsReached y s (y.read t)) → Each (IsReached y s) (map y.read ts)
  each_read [] h = tt
  each_read (t ∷ ts) h = (h t (inl refl), each_read ts (λ u i. h u (inr i)))

  each_kind : (ts : List y.Kind) → ((t : y.Kind) → In t ts → IsReached y s t) → Each (IsReached y s) ts
  each_kind [] h = tt
  each_kind (t ∷ ts) h = (h t (inl refl), each_kind ts (λ u i. h u (inr i)))

  a_field : (owner : Option ℕ) (i : ℕ) (f : Field) → field_at s owner i ≡ Some f → IsReached y s (y.read f.typ)
  a_field None i f e = absurd (cc)
  a_field (Some l) i f e = of_field l f.typ (In-map (λ (g : Field). g.typ) f (fields_of s l) (In-slice_get (fields_of s l) i f e))

  a_parameter : (k i : ℕ) (t : TypeRef) (o : Option Body) → slice_get s.bodies k ≡ o → parameter_type o i ≡ Some t → IsReached y s (y.read t)
  a_parameter k i t None e f = absurd (cc)
  a_parameter k i t (Some b) e f = of_parameter b (In-slice_get s.bodies k b e) t (In-slice_get b.signature.params i t f)

  -- what is reached has the property
  pub reached_closed : IsKept y s (IsReached y s)
  reached_closed = record {
    number = of_number;
    truth = of_truth;
    text = of_text;
    nothing = of_nothing;
    own = of_own;
    fields = λ l. each_read (field_types s l) (λ t i. of_field l t i);
    field = a_field;
    parameter = λ k i t e. a_parameter k i t (slice_get s.bodies k) refl e;
    name = λ k n e. of_name n (In-slice_get s.names k n e);
    params = λ k h m i. each_kind m.params (λ u j. of_argument k h m i u j);
    result = λ k h m i. of_result k h m i;
  }

  -- all types that bodies and the start write are reached
  pub reached_in_bodies : (b : Body) → In b s.bodies → IsReached y s (y.read b.signature.result) × WritesOnly y (IsReached y s) (block_types b.block)
  reached_in_bodies b i = (of_answer b i, each_read (block_types b.block) (λ t j. of_body b i t j))

  -- .. and that is what is asked of a body
  pub bodies_reached : (p : Program) → ScopeFits p s → (b : Body) → In b s.bodies → (seen : List Variable) × In (Own b.owner) (own_types s.kind (length s.literals)) × BlockFits p s (Some b.owner) seen b.block × IsReached y s (y.read b.signature.result) × WritesOnly y (IsReached y s) (block_types b.block)
  bodies_reached p fits b i =
      let n = In-at b s.bodies i in
      let f = fits.bodies n.0 b n.2 in
      let r = reached_in_bodies b i in
      (_, owner_in p s fits b i f.0, f.1, r.0, r.1)

  pub reached_in_start : WritesOnly y (IsReached y s) (start_types s.start)
  reached_in_start = each_read (start_types s.start) (λ t j. of_start t j)

pub canonical_types_are_reached : CanonicalTypesAreReached
canonical_types_are_reached p k s fits =
    let y = scope_reading p k s in
    let same = same_read p k (is_plain s.kind) in (
      locals_hold y same p s (IsReached y s) (reached_closed y s) fits.starts.1 (reached_in_start y s) (bodies_reached y s p fits),
      scope_names y same p s (IsReached y s) (reached_closed y s) fits.starts.1 (reached_in_start y s) (bodies_reached y s p fits),
    )
