-- What has a derivation over some types of the `val`s has one over their least types, of no larger effect.
use Rattle.std.proofs.Common.{◌≡◌, ℕ, List, [], ◌∷◌, ◌++◌, map, inl, inr, refl, sym, ◌∙◌, ap, subst, Option, Some, None}
use Rattle.std.specs.Prelude.{slice_get}
use Rattle.wy_text.specs.Members.{In}
use Rattle.wy_effects.specs.EffSet.{union}
use Rattle.wy_text.proofs.Lists.{In-left, In-right, In-cases}
use Rattle.wy_types.specs.declared.types.TypeRef.{TypeRef}
use Rattle.wy_types.specs.declared.types.TypeRef.TheVariants.{Int, Bool, Text, Unit as Nothing}
use Rattle.wy_types.specs.declared.code.Variable.{Variable}
use Rattle.wy_types.specs.declared.code.Variable.TheVariants.{Parameter, Local}
use Rattle.wy_types.specs.declared.code.Binding.TheVariants as to
use Rattle.wy_types.specs.Code.{Expr, Number, Quoted, Truth, Nothing as NothingOf, This, Name, Unary, Binary, TextCall, Call, New, Ascribe, Assign, Value, Plain, If, Values, none, more, Block, Last, Then, Val}
use Rattle.wy_types.specs.Program.{Program, Scope}
use Rattle.wy_types.specs.Core.{ExprFits, ValueFits, ValuesFit, BlockFits}
use Rattle.wy_types.specs.Vals.{expr_vals, value_vals, values_vals, block_vals}
use Rattle.wy_rules.specs.Readings.{Reading, IsBelow}
use Rattle.wy_rules.specs.Operators.{Row, Operation, operation_of, literal_type, unary_rows, binary_rows, text_rows}
use Rattle.wy_rules.specs.Derivations.{T-Lit, T-Var, T-This, T-Call, T-New, T-If, T-Set, T-Op, T-Asc, Derivations, none as no_derivations, more as one_more, Result, T-Seq, T-Val, effects_of, expr_mark, mark}
use Rattle.wy_rules.specs.Typing.{field_types, Has, AllHave, BlockHas, DerivesAll, IsValType}
use Rattle.wy_rules.specs.Failing.{ValSettles}
use Rattle.wy_rules.proofs.Forms.{Lawful, Above, Bare, bare, BlockBare, block_bare}
use Rattle.wy_rules.proofs.Least.{raise, raise_block, split, joined}

module _ (y : Reading) (w : Lawful y) (p : Program) (s : Scope) (least given : List y.Kind) where
  -- the `val`'s type is given, and its least type is that or a subtype of it
  abbrev pub Narrower : ℕ → Type 0
  Narrower n = (u : y.Kind) → slice_get given n ≡ Some u → (t : y.Kind) × (slice_get least n ≡ Some t) × Above y t u

  abbrev pub AllNarrower : List Variable → Type 0
  AllNarrower seen = (n : ℕ) → In (Local n) seen → Narrower n

  module _ (owner : Option ℕ) where
    -- each `val` inside has settled
    abbrev mutual
      pub ExprReady : Expr → Type 0
      ExprReady (Number q n) = Unit {0}
      ExprReady (Quoted q bytes) = Unit {0}
      ExprReady (Truth q b) = Unit {0}
      ExprReady (NothingOf q) = Unit {0}
      ExprReady (This q) = Unit {0}
      ExprReady (Name q name) = Unit {0}
      ExprReady (Unary q op x) = ExprReady x
      ExprReady (Binary q op x z) = ExprReady x × ExprReady z
      ExprReady (TextCall q op xs) = ValuesReady xs
      ExprReady (Call q x name xs) = ExprReady x × ValuesReady xs
      ExprReady (New q l xs) = ValuesReady xs
      ExprReady (Ascribe q x t) = ValueReady x
      ExprReady (Assign q name x) = ValueReady x

      pub ValueReady : Value → Type 0
      ValueReady (Plain x) = ExprReady x
      ValueReady (If q test first second) = ExprReady test × BlockReady first × BlockReady second

      pub ValuesReady : Values → Type 0
      ValuesReady none = Unit {0}
      ValuesReady (more x xs) = ValueReady x × ValuesReady xs

      pub BlockReady : Block → Type 0
      BlockReady (Last x) = ValueReady x
      BlockReady (Then x b) = ValueReady x × BlockReady b
      BlockReady (Val q n typ x b) = ValueReady x × ValSettles y s least owner n typ x × BlockReady b

    pub record Narrowed (x : Value) (vals : List ℕ) (t : y.Kind) (f : List ℕ) : Type 0 where
      pub effect : List ℕ
      pub has : Has y s least owner x t effect
      pub within : y.Allows effect f
      pub narrower : (n : ℕ) → In n vals → Narrower n

    pub record AllNarrowed (xs : Values) (vals : List ℕ) (ts : List y.Kind) (f : List ℕ) : Type 0 where
      pub effect : List ℕ
      pub have : AllHave y s least owner xs ts effect
      pub within : y.Allows effect f
      pub narrower : (n : ℕ) → In n vals → Narrower n

    pub record BlockNarrowed (b : Block) (vals : List ℕ) (t : y.Kind) (f : List ℕ) : Type 0 where
      pub effect : List ℕ
      pub has : BlockHas y s least owner b t effect
      pub within : y.Allows effect f
      pub narrower : (n : ℕ) → In n vals → Narrower n

    lift : (x : Value) (vals : List ℕ) (u : y.Kind) (g : List ℕ) (b : Bare y w s given owner x u g) → Narrowed x vals b.typ b.effect → Narrowed x vals u g
    lift x vals u g b n = record { effect = n.effect; has = raise y w s least owner x b.typ u n.effect b.above n.has; within = w.onward n.effect b.effect g n.within b.within; narrower = n.narrower }

    lift_block : (x : Block) (vals : List ℕ) (u : y.Kind) (g : List ℕ) (b : BlockBare y w s given owner x u g) → BlockNarrowed x vals b.typ b.effect → BlockNarrowed x vals u g
    lift_block x vals u g b n = record { effect = n.effect; has = raise_block y w s least owner x b.typ u n.effect b.above n.has; within = w.onward n.effect b.effect g n.within b.within; narrower = n.narrower }

    either_vals : (xs ys : List ℕ) → ((n : ℕ) → In n xs → Narrower n) → ((n : ℕ) → In n ys → Narrower n) → (n : ℕ) → In n (xs ++ ys) → Narrower n
    either_vals xs ys f g n i = elim (In-cases n xs ys i) [ inl j ↦ f n j | inr j ↦ g n j ]

    leaf : (x : Value) (t : y.Kind) (f : List ℕ) → f ≡ [] → Has y s least owner x t [] → Narrowed x [] t f
    leaf x t f e h = record { effect = []; has = h; within = subst (λ v. y.Allows [] v) (sym e) (w.allows [] [] (w.same [])); narrower = λ n i. absurd i }

    literal : (x : Expr) (k : TypeRef) (t : y.Kind) (f : List ℕ) → literal_type x ≡ Some k → t ≡ y.read k → f ≡ [] → Narrowed (Plain x) [] t f
    literal x k t f e h g = leaf (Plain x) t f g (record { derivation = T-Lit (expr_mark x); derives = (k, refl, e, h, refl) })

    nothing_left : (ds : Derivations y.Kind) (t : y.Kind) (ts : List y.Kind) → DerivesAll y s given owner ds none (t ∷ ts) → ⊥
    nothing_left no_derivations t ts h = h
    nothing_left (one_more d e ds) t ts h = h

    nothing_more : (ds : Derivations y.Kind) (x : Value) (xs : Values) → DerivesAll y s given owner ds (more x xs) [] → ⊥
    nothing_more no_derivations x xs h = h
    nothing_more (one_more d e ds) x xs h = h

    no_effect : (ds : Derivations y.Kind) → DerivesAll y s given owner ds none [] → effects_of ds ≡ []
    no_effect no_derivations h = refl
    no_effect (one_more d e ds) h = absurd h

    none_narrowed : (ts : List y.Kind) (f : List ℕ) → AllHave y s given owner none ts f → AllNarrowed none [] ts f
    none_narrowed [] f h = record {
      effect = [];
      have = record { derivations = no_derivations; derives = tt; effects = refl };
      within = subst (λ v. y.Allows [] v) (sym (h.effects ∙ no_effect h.derivations h.derives)) (w.allows [] [] (w.same []));
      narrower = λ n i. absurd i;
    }
    none_narrowed (t ∷ ts) f h = absurd (nothing_left h.derivations t ts h.derives)

    cons_narrowed : (x : Value) (xs : Values) (us vs : List ℕ) → ((t : y.Kind) (e : List ℕ) → Has y s given owner x t e → Narrowed x us t e) →
        ((ts : List y.Kind) (g : List ℕ) → AllHave y s given owner xs ts g → AllNarrowed xs vs ts g) → (ts : List y.Kind) (f : List ℕ) → AllHave y s given owner (more x xs) ts f → AllNarrowed (more x xs) (us ++ vs) ts f
    cons_narrowed x xs us vs one all [] f h = absurd (nothing_more h.derivations x xs h.derives)
    cons_narrowed x xs us vs one all (t ∷ ts) f h =
        let c = split y w s given owner x xs t ts f h in
        let a = one t c.effect c.first in
        let b = all ts c.effects c.others in
        record {
          effect = union a.effect b.effect;
          have = joined y w s least owner x xs t ts a.effect b.effect a.has b.have;
          within = subst (λ v. y.Allows (union a.effect b.effect) v) (sym c.whole) (w.unite a.effect b.effect c.effect c.effects a.within b.within);
          narrower = either_vals us vs a.narrower b.narrower;
        }

    -- an operation, once its operands are narrowed
    operated : (x : Expr) (o : Operation) (r : Row) (vals : List ℕ) (t : y.Kind) (f : List ℕ) → operation_of x ≡ Some o → In r o.rows → t ≡ y.read r.result → AllNarrowed o.operands vals (map y.read r.operands) f → Narrowed (Plain x) vals t f
    operated x o r vals t f e i k n = record {
      effect = n.effect;
      has = record { derivation = T-Op (expr_mark x) r n.have.derivations; derives = (o, refl, e, i, n.have.derives, k, n.have.effects) };
      within = n.within;
      narrower = n.narrower;
    }

    -- what is seen after a `val`
    pub one_more_seen : (n : ℕ) (seen : List Variable) → Narrower n → AllNarrower seen → AllNarrower (Local n ∷ seen)
    one_more_seen n seen h ok m (inl e) = subst Narrower (same_number n m e) h
      where
        same_number : (a b : ℕ) → Local a ≡ Local b → a ≡ b
        same_number a b e = cc
    one_more_seen n seen h ok m (inr i) = ok m i

    -- the initialiser at the type that has settled, and that this type is narrower
    pub record Settled (n : ℕ) (typ : Option TypeRef) (x : Value) (e : List ℕ) : Type 0 where
      pub kind : y.Kind
      pub effect : List ℕ
      pub there : slice_get least n ≡ Some kind
      pub is_type : IsValType y s least owner typ x kind
      pub has : Has y s least owner x kind effect
      pub within : y.Allows effect e
      pub narrower : Narrower n

    pub settled : (n : ℕ) (typ : Option TypeRef) (x : Value) (k : y.Kind) (e : List ℕ) → slice_get given n ≡ Some k → IsValType y s given owner typ x k → ValSettles y s least owner n typ x →
        (g : List ℕ) → Has y s least owner x k g → y.Allows g e → Settled n typ x e
    settled n None (If q test first second) k e i v l g h j = absurd v
    settled n None (Plain x) k e i v l g h j =
        let b = l.2.least k g h in
        record {
          kind = l.0;
          effect = l.1;
          there = l.3;
          is_type = tt;
          has = l.2.has;
          within = w.onward l.1 g e b.1 j;
          narrower = λ u f. (l.0, l.3, inr (subst (λ v. IsBelow y l.0 v) (same_kind k u (sym i ∙ f)) b.0));
        }
      where
        same_kind : (a b : y.Kind) → ◌≡◌ {A = Option y.Kind} (Some a) (Some b) → a ≡ b
        same_kind a b p = cc
    settled n (Some t) x k e i v l g h j = record {
      kind = y.read t;
      effect = g;
      there = l;
      is_type = refl;
      has = subst (λ u. Has y s least owner x u g) v h;
      within = j;
      narrower = λ u f. (y.read t, l, inl (sym v ∙ same_kind k u (sym i ∙ f)));
    }
      where
        same_kind : (a b : y.Kind) → ◌≡◌ {A = Option y.Kind} (Some a) (Some b) → a ≡ b
        same_kind a b p = cc

    ------------------------------------------------------------
    -- Values and blocks

    mutual
      pub narrow_expr : (x : Expr) (seen : List Variable) → ExprFits p s owner seen x → AllNarrower seen → ExprReady x → (t : y.Kind) (f : List ℕ) → Has y s given owner (Plain x) t f → Narrowed (Plain x) (expr_vals x) t f
      narrow_expr (Number q n) seen fit ok ready t f h = let b = bare y w s given owner (Plain (Number q n)) t f h in lift (Plain (Number q n)) [] t f b (literal (Number q n) Int b.typ b.effect refl b.formed.0 b.formed.1)
      narrow_expr (Quoted q bytes) seen fit ok ready t f h = let b = bare y w s given owner (Plain (Quoted q bytes)) t f h in lift (Plain (Quoted q bytes)) [] t f b (literal (Quoted q bytes) Text b.typ b.effect refl b.formed.0 b.formed.1)
      narrow_expr (Truth q v) seen fit ok ready t f h = let b = bare y w s given owner (Plain (Truth q v)) t f h in lift (Plain (Truth q v)) [] t f b (literal (Truth q v) Bool b.typ b.effect refl b.formed.0 b.formed.1)
      narrow_expr (NothingOf q) seen fit ok ready t f h = let b = bare y w s given owner (Plain (NothingOf q)) t f h in lift (Plain (NothingOf q)) [] t f b (literal (NothingOf q) Nothing b.typ b.effect refl b.formed.0 b.formed.1)
      narrow_expr (This q) seen fit ok ready t f h =
          let b = bare y w s given owner (Plain (This q)) t f h in
          lift (Plain (This q)) [] t f b (leaf (Plain (This q)) b.typ b.effect b.formed.3 (record { derivation = T-This q; derives = (b.formed.0, refl, b.formed.1, b.formed.2, refl) }))
      narrow_expr (Name q (to.Variable (Local n))) seen fit ok ready t f h =
          let b = bare y w s given owner (Plain (Name q (to.Variable (Local n)))) t f h in
          let r = ok n fit b.typ b.formed.0 in
          lift (Plain (Name q (to.Variable (Local n)))) [] t f b
          (leaf (Plain (Name q (to.Variable (Local n)))) b.typ b.effect b.formed.1 (raise y w s least owner (Plain (Name q (to.Variable (Local n)))) r.0 b.typ [] r.2 (record { derivation = T-Var q; derives = (refl, r.1, refl) })))
      narrow_expr (Name q (to.Variable (Parameter k i))) seen fit ok ready t f h =
          let b = bare y w s given owner (Plain (Name q (to.Variable (Parameter k i)))) t f h in
          lift (Plain (Name q (to.Variable (Parameter k i)))) [] t f b (leaf (Plain (Name q (to.Variable (Parameter k i)))) b.typ b.effect b.formed.1 (record { derivation = T-Var q; derives = (refl, b.formed.0, refl) }))
      narrow_expr (Name q (to.Field i)) seen fit ok ready t f h =
          let b = bare y w s given owner (Plain (Name q (to.Field i))) t f h in
          lift (Plain (Name q (to.Field i))) [] t f b (leaf (Plain (Name q (to.Field i))) b.typ b.effect b.formed.1 (record { derivation = T-Var q; derives = (refl, b.formed.0, refl) }))
      narrow_expr (Name q (to.Own k)) seen fit ok ready t f h =
          let b = bare y w s given owner (Plain (Name q (to.Own k))) t f h in
          lift (Plain (Name q (to.Own k))) [] t f b (leaf (Plain (Name q (to.Own k))) b.typ b.effect b.formed.1 (record { derivation = T-Var q; derives = (refl, b.formed.0, refl) }))
      narrow_expr (Unary q op x) seen fit ok ready t f h =
          let b = bare y w s given owner (Plain (Unary q op x)) t f h in
          let c = b.formed in
          let n = cons_narrowed (Plain x) none (expr_vals x) [] (λ u e g. narrow_expr x seen fit ok ready u e g) none_narrowed (map y.read c.0.operands) b.effect c.2 in
          let m = operated (Unary q op x) (record { rows = unary_rows op; operands = more (Plain x) none }) c.0 (expr_vals x ++ []) b.typ b.effect refl c.1 c.3 n in
          lift (Plain (Unary q op x)) (expr_vals x) t f b (record { effect = m.effect; has = m.has; within = m.within; narrower = λ k i. m.narrower k (In-left k (expr_vals x) [] i) })
      narrow_expr (Binary q op x z) seen fit ok ready t f h =
          let b = bare y w s given owner (Plain (Binary q op x z)) t f h in
          let c = b.formed in
          let n = cons_narrowed (Plain x) (more (Plain z) none) (expr_vals x) (expr_vals z ++ []) (λ u e g. narrow_expr x seen fit.0 ok ready.0 u e g)
          (cons_narrowed (Plain z) none (expr_vals z) [] (λ u e g. narrow_expr z seen fit.1 ok ready.1 u e g) none_narrowed) (map y.read c.0.operands) b.effect c.2 in
          let m = operated (Binary q op x z) (record { rows = binary_rows op; operands = more (Plain x) (more (Plain z) none) }) c.0 (expr_vals x ++ (expr_vals z ++ [])) b.typ b.effect refl c.1 c.3 n in
          lift (Plain (Binary q op x z)) (expr_vals x ++ expr_vals z) t f b (record {
            effect = m.effect;
            has = m.has;
            within = m.within;
            narrower = either_vals (expr_vals x) (expr_vals z) (λ k i. m.narrower k (In-left k (expr_vals x) (expr_vals z ++ []) i)) (λ k i. m.narrower k (In-right k (expr_vals x) (expr_vals z ++ []) (In-left k (expr_vals z) [] i)));
          })
      narrow_expr (TextCall q op xs) seen fit ok ready t f h =
          let b = bare y w s given owner (Plain (TextCall q op xs)) t f h in
          let c = b.formed in
          let n = narrow_values xs seen fit.1 ok ready (map y.read c.0.operands) b.effect c.2 in
          lift (Plain (TextCall q op xs)) (values_vals xs) t f b (operated (TextCall q op xs) (record { rows = text_rows op; operands = xs }) c.0 (values_vals xs) b.typ b.effect refl c.1 c.3 n)
      narrow_expr (Call q x name xs) seen fit ok ready t f h =
          let b = bare y w s given owner (Plain (Call q x name xs)) t f h in
          let c = b.formed in
          let r = narrow_expr x seen fit.0 ok ready.0 c.0 c.1 c.4 in
          let n = narrow_values xs seen fit.1 ok ready.1 c.2.params c.3 c.7 in
          lift (Plain (Call q x name xs)) (expr_vals x ++ values_vals xs) t f b (record {
            effect = union r.effect (union n.effect c.2.effect);
            has = record {
              derivation = T-Call q r.has.derivation c.0 r.effect n.have.derivations;
              derives = (c.2, refl, r.has.derives, c.5, c.6, n.have.derives, c.8, ap (λ v. union r.effect (union v c.2.effect)) n.have.effects);
            };
            within = subst (λ v. y.Allows (union r.effect (union n.effect c.2.effect)) v) (sym c.9)
                (w.unite r.effect (union n.effect c.2.effect) c.1 (union c.3 c.2.effect) r.within (w.unite n.effect c.2.effect c.3 c.2.effect n.within (w.allows c.2.effect c.2.effect (w.same c.2.effect))));
            narrower = either_vals (expr_vals x) (values_vals xs) r.narrower n.narrower;
          })
      narrow_expr (New q l xs) seen fit ok ready t f h =
          let b = bare y w s given owner (Plain (New q l xs)) t f h in
          let n = narrow_values xs seen fit.4 ok ready (map y.read (field_types s l)) b.effect b.formed.0 in
          lift (Plain (New q l xs)) (values_vals xs) t f b (record {
            effect = n.effect;
            has = record { derivation = T-New q n.have.derivations; derives = (refl, n.have.derives, b.formed.1, n.have.effects) };
            within = n.within;
            narrower = n.narrower;
          })
      narrow_expr (Ascribe q x u) seen fit ok ready t f h =
          let b = bare y w s given owner (Plain (Ascribe q x u)) t f h in
          let n = narrow_value x seen fit.0 ok ready (y.read u) b.effect b.formed.0 in
          lift (Plain (Ascribe q x u)) (value_vals x) t f b (record {
            effect = n.effect;
            has = record { derivation = T-Asc q n.has.derivation; derives = (refl, n.has.derives, b.formed.1) };
            within = n.within;
            narrower = n.narrower;
          })
      narrow_expr (Assign q name x) seen fit ok ready t f h =
          let b = bare y w s given owner (Plain (Assign q name x)) t f h in
          let c = b.formed in
          let n = narrow_value x seen fit.1 ok ready (y.read c.0.typ) b.effect c.2 in
          lift (Plain (Assign q name x)) (value_vals x) t f b (record {
            effect = n.effect;
            has = record { derivation = T-Set q n.has.derivation; derives = (c.0, refl, c.1, n.has.derives, c.3) };
            within = n.within;
            narrower = n.narrower;
          })

      pub narrow_value : (x : Value) (seen : List Variable) → ValueFits p s owner seen x → AllNarrower seen → ValueReady x → (t : y.Kind) (f : List ℕ) → Has y s given owner x t f → Narrowed x (value_vals x) t f
      narrow_value (Plain x) seen fit ok ready t f h = narrow_expr x seen fit ok ready t f h
      narrow_value (If q test first second) seen fit ok ready t f h =
          let b = bare y w s given owner (If q test first second) t f h in
          let c = b.formed in
          let l = narrow_expr test seen fit.0 ok ready.0 (y.read Bool) c.0 c.3 in
          let m = narrow_block first seen fit.1 ok ready.1 b.typ c.1 c.4 in
          let n = narrow_block second seen fit.2 ok ready.2 b.typ c.2 c.5 in
          lift (If q test first second) (expr_vals test ++ (block_vals first ++ block_vals second)) t f b (record {
            effect = union l.effect (union m.effect n.effect);
            has = record {
              derivation = T-If q l.has.derivation l.effect m.has.derivation m.effect n.has.derivation n.effect;
              derives = (refl, l.has.derives, m.has.derives, n.has.derives, refl);
            };
            within = subst (λ v. y.Allows (union l.effect (union m.effect n.effect)) v) (sym c.6)
                (w.unite l.effect (union m.effect n.effect) c.0 (union c.1 c.2) l.within (w.unite m.effect n.effect c.1 c.2 m.within n.within));
            narrower = either_vals (expr_vals test) (block_vals first ++ block_vals second) l.narrower (either_vals (block_vals first) (block_vals second) m.narrower n.narrower);
          })

      pub narrow_values : (xs : Values) (seen : List Variable) → ValuesFit p s owner seen xs → AllNarrower seen → ValuesReady xs → (ts : List y.Kind) (f : List ℕ) → AllHave y s given owner xs ts f → AllNarrowed xs (values_vals xs) ts f
      narrow_values none seen fit ok ready ts f h = none_narrowed ts f h
      narrow_values (more x xs) seen fit ok ready ts f h =
          cons_narrowed x xs (value_vals x) (values_vals xs) (λ u e g. narrow_value x seen fit.0 ok ready.0 u e g) (λ us e g. narrow_values xs seen fit.1 ok ready.1 us e g) ts f h

      pub narrow_block : (b : Block) (seen : List Variable) → BlockFits p s owner seen b → AllNarrower seen → BlockReady b → (t : y.Kind) (f : List ℕ) → BlockHas y s given owner b t f → BlockNarrowed b (block_vals b) t f
      narrow_block (Last x) seen fit ok ready t f h =
          let b = block_bare y w s given owner (Last x) t f h in
          let n = narrow_value x seen fit ok ready b.typ b.effect b.formed in
          lift_block (Last x) (value_vals x) t f b (record { effect = n.effect; has = record { derivation = Result n.has.derivation; derives = n.has.derives }; within = n.within; narrower = n.narrower })
      narrow_block (Then x rest) seen fit ok ready t f h =
          let b = block_bare y w s given owner (Then x rest) t f h in
          let c = b.formed in
          let l = narrow_value x seen fit.0 ok ready.0 (y.read Nothing) c.0 c.2 in
          let m = narrow_block rest seen fit.1 ok ready.1 b.typ c.1 c.3 in
          lift_block (Then x rest) (value_vals x ++ block_vals rest) t f b (record {
            effect = union l.effect m.effect;
            has = record { derivation = T-Seq (mark x) l.has.derivation l.effect m.has.derivation m.effect; derives = (refl, l.has.derives, m.has.derives, refl) };
            within = subst (λ v. y.Allows (union l.effect m.effect) v) (sym c.4) (w.unite l.effect m.effect c.0 c.1 l.within m.within);
            narrower = either_vals (value_vals x) (block_vals rest) l.narrower m.narrower;
          })
      narrow_block (Val q n typ x rest) seen fit ok ready t f h =
          let b = block_bare y w s given owner (Val q n typ x rest) t f h in
          let c = b.formed in
          let l = narrow_value x seen fit.1 ok ready.0 c.0 c.1 c.5 in
          let v = settled n typ x c.0 c.1 c.3 c.4 ready.1 l.effect l.has l.within in
          let m = narrow_block rest (Local n ∷ seen) fit.2 (one_more_seen n seen v.narrower ok) ready.2 b.typ c.2 c.6 in
          lift_block (Val q n typ x rest) (n ∷ (value_vals x ++ block_vals rest)) t f b (record {
            effect = union v.effect m.effect;
            has = record { derivation = T-Val q v.has.derivation v.kind v.effect m.has.derivation m.effect; derives = (refl, v.there, v.is_type, v.has.derives, m.has.derives, refl) };
            within = subst (λ u. y.Allows (union v.effect m.effect) u) (sym c.7) (w.unite v.effect m.effect c.1 c.2 v.within m.within);
            narrower = λ k i. elim i [ inl e ↦ subst Narrower e v.narrower | inr j ↦ either_vals (value_vals x) (block_vals rest) l.narrower m.narrower k j ];
          })
