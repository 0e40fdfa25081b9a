-- Least types and effects, form by form.
use Rattle.std.proofs.Common.{◌≡◌, ℕ, ℤ, List, [], ◌∷◌, inl, inr, refl, sym, ◌∙◌, ap, subst, Option, Some, None, map}
use Rattle.wy_text.specs.Members.{In}
use Rattle.wy_effects.specs.EffSet.{union}
use Rattle.wy_types.specs.declared.types.TypeRef.{TypeRef}
use Rattle.wy_types.specs.declared.types.TypeRef.TheVariants.{Int, Bool, Text, Unit as Nothing, Own}
use Rattle.wy_types.specs.declared.code.Binding.{Binding}
use Rattle.wy_text.specs.declared.fault.Place.{Place}
use Rattle.wy_types.specs.Code.{Expr, Number, Quoted, Truth, Nothing as NothingOf, This, Name, Call, Value, Plain, If, Values, none, more, Block, Last, Unary, Binary, TextCall, New, Ascribe, Assign, Then, Val}
use Rattle.wy_types.specs.Program.{Scope}
use Rattle.wy_types.specs.Signature.{Signature, find_method}
use Rattle.wy_types.specs.Subtyping.{ParamsIn, Covers, HasCover, IsClosed}
use Rattle.wy_types.proofs.Closing.{find_in, find_named}
use Rattle.std.specs.Prelude.{slice_get}
use Rattle.wy_types.specs.declared.resolved.Field.{Field}
use Rattle.wy_types.specs.declared.code.UnaryOperator.{UnaryOperator}
use Rattle.wy_types.specs.declared.code.BinaryOperator.{BinaryOperator}
use Rattle.wy_types.specs.declared.code.TextOperator.{TextOperator}
use Rattle.wy_rules.specs.Readings.{Reading, IsBelow}
use Rattle.wy_rules.specs.Operators.{literal_type, Row, Operation, operation_of, unary_rows, binary_rows, text_rows}
use Rattle.wy_rules.specs.Derivations.{expr_mark, T-Lit, T-Var, T-This, T-Call, T-Sub, Derivations, none as no_derivations, more as one_more, Result, Block-Sub, effects_of, mark, block_mark, T-New, T-If, T-Set, T-Op, T-Asc, T-Seq, T-Val}
use Rattle.wy_rules.specs.Typing.{binding_type, DerivesAll, Has, HasAt, AllHave, BlockHas, BlockHasAt, field_types, var_field, IsValType}
use Rattle.wy_rules.specs.Failing.{IsLeast, IsLeastAt, AreLeastAt}
use Rattle.wy_rules.proofs.Forms.{Lawful, Above, Bare, bare, block_bare, ExprFormed}

module _ (y : Reading) (w : Lawful y) where
  ------------------------------------------------------------
  -- The methods of a subtype

  -- a subtype's method of a name: its parameters are larger, its effect and result smaller
  pub record Under (m n : Signature y.Kind) : Type 0 where
    pub pairs : List (y.Kind × y.Kind)
    pub closed : (q : y.Kind × y.Kind) → In q pairs → IsClosed y.Kind y.methods y.IsObject y.Allows pairs q
    pub covers : Covers y.Kind y.methods y.IsObject y.Allows pairs m n

  cover_of : (ps : List (y.Kind × y.Kind)) (o : Option (Signature y.Kind)) (m n : Signature y.Kind) → o ≡ Some m →
      HasCover y.Kind y.methods y.IsObject y.Allows ps o n → Covers y.Kind y.methods y.IsObject y.Allows ps m n
  cover_of ps None m n e h = absurd (cc)
  cover_of ps (Some l) m n e h = let same : l ≡ m = cc in subst (λ v. Covers y.Kind y.methods y.IsObject y.Allows ps v n) same h

  pub under : (t u : y.Kind) (name : List ℕ) (m n : Signature y.Kind) → IsBelow y t u → y.IsObject u → find_method name (y.methods t) ≡ Some m → find_method name (y.methods u) ≡ Some n → Under m n
  under t u name m n b o e f =
      elim (b.closed (t, u) b.first) [
        | inl base ↦ absurd (base.1 (subst y.IsObject (sym base.0) o))
        | inr object ↦ record {
          pairs = b.pairs;
          closed = b.closed;
          covers = cover_of b.pairs (find_method n.name (y.methods t)) m n
              (ap (λ v. find_method v (y.methods t)) (find_named name (y.methods u) n f) ∙ e)
              (object.2 n (find_in name (y.methods u) n f));
        }
      ]

  module _ (s : Scope) (locals : List y.Kind) (owner : Option ℕ) where
    ------------------------------------------------------------
    -- Raising

    pub raise : (x : Value) (t u : y.Kind) (e : List ℕ) → Above y t u → Has y s locals owner x t e → Has y s locals owner x u e
    raise x t u e (inl same) h = subst (λ v. Has y s locals owner x v e) same h
    raise x t u e (inr b) h = record { derivation = T-Sub (mark x) h.derivation t e; derives = (refl, h.derives, b, w.same e) }

    pub raise_block : (x : Block) (t u : y.Kind) (e : List ℕ) → Above y t u → BlockHas y s locals owner x t e → BlockHas y s locals owner x u e
    raise_block x t u e (inl same) h = subst (λ v. BlockHas y s locals owner x v e) same h
    raise_block x t u e (inr b) h = record { derivation = Block-Sub (block_mark x) h.derivation t e; derives = (refl, h.derives, b, w.same e) }

    -- all values, at larger types
    pub raise_all : (ps : List (y.Kind × y.Kind)) → ((q : y.Kind × y.Kind) → In q ps → IsClosed y.Kind y.methods y.IsObject y.Allows ps q) →
        (ds : Derivations y.Kind) (xs : Values) (ts us : List y.Kind) → ParamsIn ps us ts → DerivesAll y s locals owner ds xs ts →
        (es : Derivations y.Kind) × DerivesAll y s locals owner es xs us × (effects_of es ≡ effects_of ds)
    raise_all ps c no_derivations none [] [] i h = (no_derivations, tt, refl)
    raise_all ps c (one_more d e ds) (more x xs) (t ∷ ts) (u ∷ us) i h =
        let r = raise_all ps c ds xs ts us i.1 h.1 in
        let b : IsBelow y t u = record { pairs = ps; first = i.0; closed = c } in
        (one_more (T-Sub (mark x) d t e) e r.0, ((refl, h.0, b, w.same e), r.1), ap (union e) r.2)
    raise_all ps c no_derivations none [] (u ∷ us) i h = absurd i
    raise_all ps c (one_more d e ds) (more x xs) (t ∷ ts) [] i h = absurd i
    raise_all ps c ds xs ts us i h = absurd h

    pub all_raised : (ps : List (y.Kind × y.Kind)) → ((q : y.Kind × y.Kind) → In q ps → IsClosed y.Kind y.methods y.IsObject y.Allows ps q) →
        (xs : Values) (ts us : List y.Kind) (f : List ℕ) → ParamsIn ps us ts → AllHave y s locals owner xs ts f → AllHave y s locals owner xs us f
    all_raised ps c xs ts us f i h =
        let r = raise_all ps c h.derivations xs ts us i h.derives in
        record { derivations = r.0; derives = r.1; effects = h.effects ∙ sym r.2 }

    ------------------------------------------------------------
    -- Least effects at a type

    pub record LeastAt (x : Value) (t : y.Kind) (f : List ℕ) : Type 0 where
      pub has : Has y s locals owner x t f
      pub least : (g : List ℕ) → Has y s locals owner x t g → y.Allows f g

    pub at_type : (x : Value) (t u : y.Kind) (f : List ℕ) → IsLeast y s locals owner x t f → Above y t u → LeastAt x u f
    at_type x t u f l a = record { has = raise x t u f a l.has; least = λ g h. (l.least u g h).1 }

    below_of : (t v u : y.Kind) → t ≡ v → IsBelow y t t → Above y v u → IsBelow y t u
    below_of t v u e r (inl same) = subst (λ z. IsBelow y t z) (e ∙ same) r
    below_of t v u e r (inr b) = subst (λ z. IsBelow y z u) (sym e) b

    includes_of : (f e g : List ℕ) → f ≡ e → y.Allows e g → y.Allows f g
    includes_of f e g s i = subst (λ v. y.Allows v g) (sym s) i

    ------------------------------------------------------------
    -- Literals and names

    pub name_least : (q : Place) (name : Binding) (t : y.Kind) → binding_type y s locals owner name ≡ Some t → IsBelow y t t → IsLeast y s locals owner (Plain (Name q name)) t []
    name_least q name t e r = record {
      has = record { derivation = T-Var q; derives = (refl, e, refl) };
      least = λ u g h.
          let b = bare y w s locals owner (Plain (Name q name)) u g h in
          let same : t ≡ b.typ = some_same t b.typ (sym e ∙ b.formed.0) in
          (below_of t b.typ u same r b.above, includes_of [] b.effect g (sym b.formed.1) b.within);
    }
      where
        some_same : (a b : y.Kind) → ◌≡◌ {A = Option y.Kind} (Some a) (Some b) → a ≡ b
        some_same a b p = cc

    pub this_least : (q : Place) (l : ℕ) → owner ≡ Some l → IsBelow y (y.read (Own l)) (y.read (Own l)) → IsLeast y s locals owner (Plain (This q)) (y.read (Own l)) []
    this_least q l e r = record {
      has = record { derivation = T-This q; derives = (l, refl, e, refl, refl) };
      least = λ u g h.
          let b = bare y w s locals owner (Plain (This q)) u g h in
          let k = b.formed in
          let same : y.read (Own l) ≡ b.typ = ap (λ v. y.read (Own v)) (some_same l k.0 (sym e ∙ k.1)) ∙ sym k.2 in
          (below_of (y.read (Own l)) b.typ u same r b.above, includes_of [] b.effect g (sym k.3) b.within);
    }
      where
        some_same : (a b : ℕ) → ◌≡◌ {A = Option ℕ} (Some a) (Some b) → a ≡ b
        some_same a b p = cc

    simple_least : (x : Expr) (k : TypeRef) → literal_type x ≡ Some k →
        ((t : y.Kind) (f : List ℕ) → (b : Bare y w s locals owner (Plain x) t f) → (b.typ ≡ y.read k) × (b.effect ≡ [])) →
        IsBelow y (y.read k) (y.read k) → IsLeast y s locals owner (Plain x) (y.read k) []
    simple_least x k e f r = record {
      has = record { derivation = T-Lit (expr_mark x); derives = (k, refl, e, refl, refl) };
      least = λ u g h.
          let b = bare y w s locals owner (Plain x) u g h in
          let c = f u g b in
          (below_of (y.read k) b.typ u (sym c.0) r b.above, includes_of [] b.effect g (sym c.1) b.within);
    }

    pub number_least : (q : Place) (n : ℤ) → IsBelow y (y.read Int) (y.read Int) → IsLeast y s locals owner (Plain (Number q n)) (y.read Int) []
    number_least q n r = simple_least (Number q n) Int refl (λ t f b. b.formed) r

    pub text_least : (q : Place) (bytes : List ℕ) → IsBelow y (y.read Text) (y.read Text) → IsLeast y s locals owner (Plain (Quoted q bytes)) (y.read Text) []
    text_least q bytes r = simple_least (Quoted q bytes) Text refl (λ t f b. b.formed) r

    pub truth_least : (q : Place) (v : _) → IsBelow y (y.read Bool) (y.read Bool) → IsLeast y s locals owner (Plain (Truth q v)) (y.read Bool) []
    truth_least q v r = simple_least (Truth q v) Bool refl (λ t f b. b.formed) r

    pub nothing_least : (q : Place) → IsBelow y (y.read Nothing) (y.read Nothing) → IsLeast y s locals owner (Plain (NothingOf q)) (y.read Nothing) []
    nothing_least q r = simple_least (NothingOf q) Nothing refl (λ t f b. b.formed) r

    ------------------------------------------------------------
    -- Values in their order

    none_effect : (ds : Derivations y.Kind) → DerivesAll y s locals owner ds none [] → effects_of ds ≡ []
    none_effect no_derivations h = refl
    none_effect (one_more d e ds) h = absurd h

    pub no_values : AreLeastAt y s locals owner none [] []
    no_values = record { have = record { derivations = no_derivations; derives = tt; effects = refl }; least = λ g h. includes_of [] g g (sym (h.effects ∙ none_effect h.derivations h.derives)) (w.allows g g (w.same g)) }

    -- the first value and the others
    pub record Split (x : Value) (xs : Values) (t : y.Kind) (ts : List y.Kind) (f : List ℕ) : Type 0 where
      pub effect : List ℕ
      pub effects : List ℕ
      pub first : Has y s locals owner x t effect
      pub others : AllHave y s locals owner xs ts effects
      pub whole : f ≡ union effect effects

    split_from : (ds : Derivations y.Kind) (x : Value) (xs : Values) (t : y.Kind) (ts : List y.Kind) → DerivesAll y s locals owner ds (more x xs) (t ∷ ts) → Split x xs t ts (effects_of ds)
    split_from no_derivations x xs t ts h = absurd h
    split_from (one_more d e ds) x xs t ts h =
        record { effect = e; effects = effects_of ds; first = record { derivation = d; derives = h.0 }; others = record { derivations = ds; derives = h.1; effects = refl }; whole = refl }

    pub split : (x : Value) (xs : Values) (t : y.Kind) (ts : List y.Kind) (f : List ℕ) → AllHave y s locals owner (more x xs) (t ∷ ts) f → Split x xs t ts f
    split x xs t ts f h = subst (λ v. Split x xs t ts v) (sym h.effects) (split_from h.derivations x xs t ts h.derives)

    pub joined : (x : Value) (xs : Values) (t : y.Kind) (ts : List y.Kind) (e f : List ℕ) → Has y s locals owner x t e → AllHave y s locals owner xs ts f → AllHave y s locals owner (more x xs) (t ∷ ts) (union e f)
    joined x xs t ts e f h k = record { derivations = one_more h.derivation e k.derivations; derives = (h.derives, k.derives); effects = ap (union e) k.effects }

    pub more_values : (x : Value) (xs : Values) (t : y.Kind) (ts : List y.Kind) (e f : List ℕ) → LeastAt x t e → AreLeastAt y s locals owner xs ts f → AreLeastAt y s locals owner (more x xs) (t ∷ ts) (union e f)
    more_values x xs t ts e f l k = record {
      have = joined x xs t ts e f l.has k.have;
      least = λ g h.
          let c = split x xs t ts g h in
          subst (λ v. y.Allows (union e f) v) (sym c.whole) (w.unite e f c.effect c.effects (l.least c.effect c.first) (k.least c.effects c.others));
    }

    ------------------------------------------------------------
    -- Calls

    pub call_least : (q : Place) (x : Expr) (name : List ℕ) (xs : Values) (k : y.Kind) (e : List ℕ) (m : Signature y.Kind) (h : List ℕ) →
        IsLeast y s locals owner (Plain x) k e → y.IsObject k → find_method name (y.methods k) ≡ Some m → AreLeastAt y s locals owner xs m.params h → IsBelow y m.result m.result →
        IsLeast y s locals owner (Plain (Call q x name xs)) m.result (union e (union h m.effect))
    call_least q x name xs k e m h l o f a r = record {
      has = record {
        derivation = T-Call q l.has.derivation k e a.have.derivations;
        derives = (m, refl, l.has.derives, o, f, a.have.derives, refl, ap (λ v. union e (union v m.effect)) a.have.effects);
      };
      least = λ u g d.
          let b = bare y w s locals owner (Plain (Call q x name xs)) u g d in
          let c = b.formed in
          let receiver = l.least c.0 c.1 c.4 in
          let n = under k c.0 name m c.2 receiver.0 c.5 f c.6 in
          let args = a.least c.3 (all_raised n.pairs n.closed xs c.2.params m.params c.3 n.covers.params c.7) in
          let result : IsBelow y m.result c.2.result = record { pairs = n.pairs; first = n.covers.result; closed = n.closed } in (
            above_result m.result c.2.result b.typ u result (sym c.8) b.above,
            w.onward (union e (union h m.effect)) b.effect g
                (subst (λ v. y.Allows (union e (union h m.effect)) v) (sym c.9) (w.unite e (union h m.effect) c.1 (union c.3 c.2.effect) receiver.1 (w.unite h m.effect c.3 c.2.effect args n.covers.effect)))
                b.within,
          );
    }
      where
        above_result : (a c v u : y.Kind) → IsBelow y a c → c ≡ v → Above y v u → IsBelow y a u
        above_result a c v u i e (inl same) = subst (λ z. IsBelow y a z) (e ∙ same) i
        above_result a c v u i e (inr j) = w.below a v u (subst (λ z. IsBelow y a z) e i) j

    ------------------------------------------------------------
    -- Blocks

    pub last_least : (x : Value) (t : y.Kind) (f : List ℕ) → LeastAt x t f → IsLeastAt y s locals owner (Last x) t f
    last_least x t f l = record {
      has = record { derivation = Result l.has.derivation; derives = l.has.derives };
      least = λ g h. (let b = block_bare y w s locals owner (Last x) t g h in w.onward f b.effect g (l.least b.effect (raise x b.typ t b.effect b.above b.formed)) b.within);
    }

    ------------------------------------------------------------
    -- Choices

    -- what the premises of T-If say, where an `if` has a type
    pub record ChoiceParts (test : Expr) (first second : Block) (t : y.Kind) : Type 0 where
      pub test_has : HasAt y s locals owner (Plain test) (y.read Bool)
      pub first_has : BlockHasAt y s locals owner first t
      pub second_has : BlockHasAt y s locals owner second t

    pub choice_parts : (q : Place) (test : Expr) (first second : Block) (t : y.Kind) → HasAt y s locals owner (If q test first second) t → ChoiceParts test first second t
    choice_parts q test first second t h =
        let b = bare y w s locals owner (If q test first second) t h.effect h.has in
        let c = b.formed in
        record {
          test_has = record { effect = c.0; has = c.3 };
          first_has = record { effect = c.1; has = raise_block first b.typ t c.1 b.above c.4 };
          second_has = record { effect = c.2; has = raise_block second b.typ t c.2 b.above c.5 };
        }

    pub last_has : (x : Value) (t : y.Kind) → BlockHasAt y s locals owner (Last x) t → HasAt y s locals owner x t
    last_has x t h =
        let b = block_bare y w s locals owner (Last x) t h.effect h.has in
        record { effect = b.effect; has = raise x b.typ t b.effect b.above b.formed }

    pub last_at : (x : Value) (t : y.Kind) → HasAt y s locals owner x t → BlockHasAt y s locals owner (Last x) t
    last_at x t h = record { effect = h.effect; has = record { derivation = Result h.has.derivation; derives = h.has.derives } }

    -- at its least type alone and what is above it
    pub not_at : (x : Value) (t u : y.Kind) (f : List ℕ) → IsLeast y s locals owner x t f → (IsBelow y t u → ⊥) → HasAt y s locals owner x u → ⊥
    not_at x t u f l n h = n (l.least u h.effect h.has).0

    pub has_at : (x : Value) (t : y.Kind) (f : List ℕ) → IsLeast y s locals owner x t f → HasAt y s locals owner x t
    has_at x t f l = record { effect = f; has = l.has }

    ------------------------------------------------------------
    -- Other forms

    pub ascription_least : (q : Place) (x : Value) (t : TypeRef) (f : List ℕ) → LeastAt x (y.read t) f → IsBelow y (y.read t) (y.read t) → IsLeast y s locals owner (Plain (Ascribe q x t)) (y.read t) f
    ascription_least q x t f l r = record {
      has = record { derivation = T-Asc q l.has.derivation; derives = (refl, l.has.derives, refl) };
      least = λ u g h.
          let b = bare y w s locals owner (Plain (Ascribe q x t)) u g h in
          (below_of (y.read t) b.typ u (sym b.formed.1) r b.above, w.onward f b.effect g (l.least b.effect b.formed.0) b.within);
    }

    pub assignment_least : (q : Place) (name : Binding) (x : Value) (v : Field) (f : List ℕ) → var_field s owner name ≡ Some v → LeastAt x (y.read v.typ) f → IsBelow y (y.read Nothing) (y.read Nothing) →
        IsLeast y s locals owner (Plain (Assign q name x)) (y.read Nothing) f
    assignment_least q name x v f e l r = record {
      has = record { derivation = T-Set q l.has.derivation; derives = (v, refl, e, l.has.derives, refl) };
      least = λ u g h.
          let b = bare y w s locals owner (Plain (Assign q name x)) u g h in
          let same = same_field v b.formed.0 (sym e ∙ b.formed.1) in (
            below_of (y.read Nothing) b.typ u (sym b.formed.3) r b.above,
            w.onward f b.effect g (l.least b.effect (subst (λ (k : Field). Has y s locals owner x (y.read k.typ) b.effect) (sym same) b.formed.2)) b.within,
          );
    }
      where
        same_field : (a b : Field) → ◌≡◌ {A = Option Field} (Some a) (Some b) → a ≡ b
        same_field a b p = cc

    pub new_least : (q : Place) (l : ℕ) (xs : Values) (f : List ℕ) → AreLeastAt y s locals owner xs (map y.read (field_types s l)) f → IsBelow y (y.read (Own l)) (y.read (Own l)) →
        IsLeast y s locals owner (Plain (New q l xs)) (y.read (Own l)) f
    new_least q l xs f a r = record {
      has = record { derivation = T-New q a.have.derivations; derives = (refl, a.have.derives, refl, a.have.effects) };
      least = λ u g h.
          let b = bare y w s locals owner (Plain (New q l xs)) u g h in
          (below_of (y.read (Own l)) b.typ u (sym b.formed.1) r b.above, w.onward f b.effect g (a.least b.effect b.formed.0) b.within);
    }

    -- an operation whose operands fit one row of its table alone
    abbrev pub OneRow : List Row → Values → Row → Type 0
    OneRow rows xs k = In k rows × ((r : Row) (f : List ℕ) → In r rows → AllHave y s locals owner xs (map y.read r.operands) f → k ≡ r)

    op_least : (x : Expr) (o : Operation) (k : Row) (f : List ℕ) → operation_of x ≡ Some o → OneRow o.rows o.operands k → AreLeastAt y s locals owner o.operands (map y.read k.operands) f →
        ((t : y.Kind) (g : List ℕ) → ExprFormed y w s locals owner x t g → (r : Row) × In r o.rows × AllHave y s locals owner o.operands (map y.read r.operands) g × (t ≡ y.read r.result)) →
        IsBelow y (y.read k.result) (y.read k.result) → IsLeast y s locals owner (Plain x) (y.read k.result) f
    op_least x o k f e one a formed r = record {
      has = record { derivation = T-Op (expr_mark x) k a.have.derivations; derives = (o, refl, e, one.0, a.have.derives, refl, a.have.effects) };
      least = λ u g h.
          let b = bare y w s locals owner (Plain x) u g h in
          let c = formed b.typ b.effect b.formed in
          let same = one.1 c.0 b.effect c.1 c.2 in (
            below_of (y.read k.result) b.typ u (ap (λ (v : Row). y.read v.result) same ∙ sym c.3) r b.above,
            w.onward f b.effect g (a.least b.effect (subst (λ (v : Row). AllHave y s locals owner o.operands (map y.read v.operands) b.effect) (sym same) c.2)) b.within,
          );
    }

    pub unary_least : (q : Place) (op : UnaryOperator) (x : Expr) (k : Row) (f : List ℕ) → OneRow (unary_rows op) (more (Plain x) none) k → AreLeastAt y s locals owner (more (Plain x) none) (map y.read k.operands) f →
        IsBelow y (y.read k.result) (y.read k.result) → IsLeast y s locals owner (Plain (Unary q op x)) (y.read k.result) f
    unary_least q op x k f one a r = op_least (Unary q op x) (record { rows = unary_rows op; operands = more (Plain x) none }) k f refl one a (λ t g h. h) r

    pub binary_least : (q : Place) (op : BinaryOperator) (x z : Expr) (k : Row) (f : List ℕ) → OneRow (binary_rows op) (more (Plain x) (more (Plain z) none)) k →
        AreLeastAt y s locals owner (more (Plain x) (more (Plain z) none)) (map y.read k.operands) f →
        IsBelow y (y.read k.result) (y.read k.result) → IsLeast y s locals owner (Plain (Binary q op x z)) (y.read k.result) f
    binary_least q op x z k f one a r = op_least (Binary q op x z) (record { rows = binary_rows op; operands = more (Plain x) (more (Plain z) none) }) k f refl one a (λ t g h. h) r

    pub text_call_least : (q : Place) (op : TextOperator) (xs : Values) (k : Row) (f : List ℕ) → OneRow (text_rows op) xs k → AreLeastAt y s locals owner xs (map y.read k.operands) f →
        IsBelow y (y.read k.result) (y.read k.result) → IsLeast y s locals owner (Plain (TextCall q op xs)) (y.read k.result) f
    text_call_least q op xs k f one a r = op_least (TextCall q op xs) (record { rows = text_rows op; operands = xs }) k f refl one a (λ t g h. h) r

    -- a choice and a block at a type
    pub choice_least : (q : Place) (test : Expr) (first second : Block) (t : y.Kind) (e f g : List ℕ) → LeastAt (Plain test) (y.read Bool) e → IsLeastAt y s locals owner first t f → IsLeastAt y s locals owner second t g →
        LeastAt (If q test first second) t (union e (union f g))
    choice_least q test first second t e f g l m n = record {
      has = record {
        derivation = T-If q l.has.derivation e m.has.derivation f n.has.derivation g;
        derives = (refl, l.has.derives, m.has.derives, n.has.derives, refl);
      };
      least = λ h d.
          let b = bare y w s locals owner (If q test first second) t h d in
          let c = b.formed in
          w.onward (union e (union f g)) b.effect h
          (subst (λ v. y.Allows (union e (union f g)) v) (sym c.6)
          (w.unite e (union f g) c.0 (union c.1 c.2) (l.least c.0 c.3)
          (w.unite f g c.1 c.2 (m.least c.1 (raise_block first b.typ t c.1 b.above c.4)) (n.least c.2 (raise_block second b.typ t c.2 b.above c.5)))))
          b.within;
    }

    pub then_least : (x : Value) (b : Block) (t : y.Kind) (e f : List ℕ) → LeastAt x (y.read Nothing) e → IsLeastAt y s locals owner b t f → IsLeastAt y s locals owner (Then x b) t (union e f)
    then_least x b t e f l m = record {
      has = record { derivation = T-Seq (mark x) l.has.derivation e m.has.derivation f; derives = (refl, l.has.derives, m.has.derives, refl) };
      least = λ h d.
          let c = block_bare y w s locals owner (Then x b) t h d in
          let k = c.formed in
          w.onward (union e f) c.effect h
          (subst (λ v. y.Allows (union e f) v) (sym k.4) (w.unite e f k.0 k.1 (l.least k.0 k.2) (m.least k.1 (raise_block b c.typ t k.1 c.above k.3))))
          c.within;
    }

    pub val_least : (q : Place) (n : ℕ) (typ : Option TypeRef) (x : Value) (b : Block) (k t : y.Kind) (e f : List ℕ) → slice_get locals n ≡ Some k → IsValType y s locals owner typ x k → LeastAt x k e → IsLeastAt y s locals owner b t f →
        IsLeastAt y s locals owner (Val q n typ x b) t (union e f)
    val_least q n typ x b k t e f i v l m = record {
      has = record { derivation = T-Val q l.has.derivation k e m.has.derivation f; derives = (refl, i, v, l.has.derives, m.has.derives, refl) };
      least = λ h d.
          let c = block_bare y w s locals owner (Val q n typ x b) t h d in
          let j = c.formed in
          let same = same_kind k j.0 (sym i ∙ j.3) in
          w.onward (union e f) c.effect h
          (subst (λ u. y.Allows (union e f) u) (sym j.7)
          (w.unite e f j.1 j.2 (l.least j.1 (subst (λ u. Has y s locals owner x u j.1) (sym same) j.5)) (m.least j.2 (raise_block b c.typ t j.2 c.above j.6))))
          c.within;
    }
      where
        same_kind : (a c : y.Kind) → ◌≡◌ {A = Option y.Kind} (Some a) (Some c) → a ≡ c
        same_kind a c p = cc
