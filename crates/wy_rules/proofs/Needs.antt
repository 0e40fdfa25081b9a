-- What a form that has a derivation tells of its parts at their least types: each premise of its rule.
use Rattle.std.proofs.Common.{◌≡◌, ℕ, List, [], ◌∷◌, inl, inr, refl, sym, ap, subst, Option, Some, None, map}
use Rattle.wy_text.specs.Members.{In}
use Rattle.wy_text.specs.declared.fault.Place.{Place}
use Rattle.wy_types.specs.declared.types.TypeRef.{TypeRef}
use Rattle.wy_types.specs.declared.code.Binding.{Binding}
use Rattle.wy_types.specs.declared.code.UnaryOperator.{UnaryOperator}
use Rattle.wy_types.specs.declared.code.BinaryOperator.{BinaryOperator}
use Rattle.wy_types.specs.declared.code.TextOperator.{TextOperator}
use Rattle.wy_types.specs.declared.resolved.Field.{Field}
use Rattle.wy_types.specs.Code.{Expr, Unary, Binary, TextCall, Call, New, Ascribe, Assign, Value, Plain, Values, none, more}
use Rattle.wy_types.specs.Program.{Scope}
use Rattle.wy_types.specs.Signature.{Signature, find_method}
use Rattle.wy_types.specs.Subtyping.{HasCover}
use Rattle.wy_types.proofs.Closing.{find_in, find_named}
use Rattle.wy_rules.specs.Readings.{Reading, IsBelow}
use Rattle.wy_rules.specs.Operators.{Row, unary_rows, binary_rows, text_rows}
use Rattle.wy_rules.specs.Derivations.{Derivations, none as no_derivations, more as one_more}
use Rattle.wy_rules.specs.Typing.{field_types, var_field, DerivesAll, HasAt, HasSome, AllHaveAt}
use Rattle.wy_rules.specs.Failing.{IsLeast}
use Rattle.wy_rules.proofs.Forms.{Lawful, bare}
use Rattle.wy_rules.proofs.Least.{Under, split, all_raised}

module _ (y : Reading) (w : Lawful y) where
  -- a subtype of an object type is one, and has each method of it
  pub record HasUnder (t : y.Kind) (name : List ℕ) (n : Signature y.Kind) : Type 0 where
    pub object : y.IsObject t
    pub method : Signature y.Kind
    pub found : find_method name (y.methods t) ≡ Some method
    pub under : Under y w method n

  covered : (t u : y.Kind) (b : IsBelow y t u) (name : List ℕ) (n : Signature y.Kind) (o : Option (Signature y.Kind)) → y.IsObject t → find_method name (y.methods t) ≡ o → HasCover y.Kind y.methods y.IsObject y.Allows b.pairs o n → HasUnder t name n
  covered t u b name n None o e h = absurd h
  covered t u b name n (Some m) o e h = record { object = o; method = m; found = e; under = record { pairs = b.pairs; closed = b.closed; covers = h } }

  pub has_under : (t u : y.Kind) (name : List ℕ) (n : Signature y.Kind) → IsBelow y t u → y.IsObject u → find_method name (y.methods u) ≡ Some n → HasUnder t name n
  has_under t u name n b o f =
      elim (b.closed (t, u) b.first) [
        | inl base ↦ absurd (base.1 (subst y.IsObject (sym base.0) o))
        | inr object ↦ covered t u b name n (find_method n.name (y.methods t)) object.0
            (ap (λ v. find_method v (y.methods t)) (sym (find_named name (y.methods u) n f)))
            (object.2 n (find_in name (y.methods u) n f))
      ]

  -- base types that differ are no subtypes of each other
  pub not_below : (t u : y.Kind) → (t ≡ u → ⊥) → (y.IsObject u → ⊥) → IsBelow y t u → ⊥
  not_below t u n o b = elim (b.closed (t, u) b.first) [ inl base ↦ n base.0 | inr object ↦ o object.1 ]

  module _ (s : Scope) (locals : List y.Kind) (owner : Option ℕ) where
    pub first_has : (x : Value) (xs : Values) (t : y.Kind) (ts : List y.Kind) → AllHaveAt y s locals owner (more x xs) (t ∷ ts) → HasAt y s locals owner x t
    first_has x xs t ts h = let c = split y w s locals owner x xs t ts h.effect h.have in record { effect = c.effect; has = c.first }

    pub others_have : (x : Value) (xs : Values) (t : y.Kind) (ts : List y.Kind) → AllHaveAt y s locals owner (more x xs) (t ∷ ts) → AllHaveAt y s locals owner xs ts
    others_have x xs t ts h = let c = split y w s locals owner x xs t ts h.effect h.have in record { effect = c.effects; have = c.others }

    too_few : (ds : Derivations y.Kind) (t : y.Kind) (ts : List y.Kind) → DerivesAll y s locals owner ds none (t ∷ ts) → ⊥
    too_few no_derivations t ts h = h
    too_few (one_more d e ds) t ts h = h

    pub none_too_few : (t : y.Kind) (ts : List y.Kind) → AllHaveAt y s locals owner none (t ∷ ts) → ⊥
    none_too_few t ts h = too_few h.have.derivations t ts h.have.derives

    pub all_at : (x : Value) (xs : Values) (t : y.Kind) (ts : List y.Kind) → HasAt y s locals owner x t → AllHaveAt y s locals owner xs ts → AllHaveAt y s locals owner (more x xs) (t ∷ ts)
    all_at x xs t ts h k = record {
      effect = _;
      have = record { derivations = one_more h.has.derivation h.effect k.have.derivations; derives = (h.has.derives, k.have.derives); effects = refl };
    }

    pub none_at : AllHaveAt y s locals owner none []
    none_at = record { effect = []; have = record { derivations = no_derivations; derives = tt; effects = refl } }

    -- T-Call at the receiver's least type
    pub record CallNeeds (k : y.Kind) (name : List ℕ) (xs : Values) : Type 0 where
      pub object : y.IsObject k
      pub method : Signature y.Kind
      pub found : find_method name (y.methods k) ≡ Some method
      pub arguments : AllHaveAt y s locals owner xs method.params

    pub call_needs : (q : Place) (x : Expr) (name : List ℕ) (xs : Values) (k : y.Kind) (e : List ℕ) → IsLeast y s locals owner (Plain x) k e → HasSome y s locals owner (Plain (Call q x name xs)) → CallNeeds k name xs
    call_needs q x name xs k e l h =
        let c = (bare y w s locals owner (Plain (Call q x name xs)) h.typ h.effect h.has).formed in
        let n = has_under k c.0 name c.2 (l.least c.0 c.1 c.4).0 c.5 c.6 in
        record {
          object = n.object;
          method = n.method;
          found = n.found;
          arguments = record { effect = c.3; have = all_raised y w s locals owner n.under.pairs n.under.closed xs c.2.params n.method.params c.3 n.under.covers.params c.7 };
        }

    pub new_needs : (q : Place) (l : ℕ) (xs : Values) → HasSome y s locals owner (Plain (New q l xs)) → AllHaveAt y s locals owner xs (map y.read (field_types s l))
    new_needs q l xs h = let b = bare y w s locals owner (Plain (New q l xs)) h.typ h.effect h.has in record { effect = b.effect; have = b.formed.0 }

    pub ascription_needs : (q : Place) (x : Value) (t : TypeRef) → HasSome y s locals owner (Plain (Ascribe q x t)) → HasAt y s locals owner x (y.read t)
    ascription_needs q x t h = let b = bare y w s locals owner (Plain (Ascribe q x t)) h.typ h.effect h.has in record { effect = b.effect; has = b.formed.0 }

    pub assignment_needs : (q : Place) (name : Binding) (x : Value) → HasSome y s locals owner (Plain (Assign q name x)) → (v : Field) × (var_field s owner name ≡ Some v) × HasAt y s locals owner x (y.read v.typ)
    assignment_needs q name x h =
        let b = bare y w s locals owner (Plain (Assign q name x)) h.typ h.effect h.has in
        (b.formed.0, b.formed.1, record { effect = b.effect; has = b.formed.2 })

    -- the operands have the types of one row
    abbrev pub RowHas : List Row → Values → Type 0
    RowHas rows xs = (r : Row) × In r rows × AllHaveAt y s locals owner xs (map y.read r.operands)

    pub unary_needs : (q : Place) (op : UnaryOperator) (x : Expr) → HasSome y s locals owner (Plain (Unary q op x)) → RowHas (unary_rows op) (more (Plain x) none)
    unary_needs q op x h =
        let b = bare y w s locals owner (Plain (Unary q op x)) h.typ h.effect h.has in
        (b.formed.0, b.formed.1, record { effect = b.effect; have = b.formed.2 })

    pub binary_needs : (q : Place) (op : BinaryOperator) (x z : Expr) → HasSome y s locals owner (Plain (Binary q op x z)) → RowHas (binary_rows op) (more (Plain x) (more (Plain z) none))
    binary_needs q op x z h =
        let b = bare y w s locals owner (Plain (Binary q op x z)) h.typ h.effect h.has in
        (b.formed.0, b.formed.1, record { effect = b.effect; have = b.formed.2 })

    pub text_needs : (q : Place) (op : TextOperator) (xs : Values) → HasSome y s locals owner (Plain (TextCall q op xs)) → RowHas (text_rows op) xs
    text_needs q op xs h =
        let b = bare y w s locals owner (Plain (TextCall q op xs)) h.typ h.effect h.has in
        (b.formed.0, b.formed.1, record { effect = b.effect; have = b.formed.2 })
