-- The first false premise of a node over two lists of the types of `val`s: it has one number, where what has a type over one list has
-- it over the other.
use Rattle.std.proofs.Common.{◌≡◌, ℕ, zero, suc, ◌+◌, ◌-◌, ◌≤◌, ◌⊎◌, List, [], ◌∷◌, inl, inr, refl, sym, ◌∙◌, ap, subst, Option, Some, None, map, take, length, Bool as Truth, true, false, le_antisymm, arith}
use Rattle.std.proofs.lemmas.Bool.{cases_lt}
use Rattle.wy_effects.specs.Bounds.{GoDown, IsLeastMissing}
use Rattle.wy_effects.proofs.Ordering.{one_missing}
use Rattle.wy_types.specs.declared.types.TypeRef.{TypeRef}
use Rattle.wy_types.specs.declared.types.TypeRef.TheVariants.{Bool}
use Rattle.wy_types.specs.declared.code.Binding.{Binding}
use Rattle.wy_types.specs.Code.{Expr, Call, New, Ascribe, Assign, Value, Plain, If, Values, none, more, Block}
use Rattle.wy_types.specs.Program.{Program, Scope}
use Rattle.wy_types.specs.Signature.{Signature, find_method}
use Rattle.wy_types.specs.Subtyping.{ParamsIn}
use Rattle.wy_types.specs.Vals.{value_count}
use Rattle.wy_types.specs.Bounds.{bounds_of}
use Rattle.wy_rules.specs.Readings.{Reading, IsBelow}
use Rattle.wy_rules.specs.Operators.{Operation, operation_of}
use Rattle.wy_rules.specs.Derivations.{Derivations, none as no_derivations, more as one_more}
use Rattle.wy_rules.specs.Typing.{field_types, DerivesAll, HasAt, BlockHas, BlockHasAt, AllHave, AllHaveAt}
use Rattle.wy_rules.specs.Failing.{FirstFalse, IsLeast, IsTarget, HasMethod, HasNumber, HasArguments, CallFails, IfFails, IsVar, IsFieldValue, SetFails, first_values, OperandsHave, OperationFails, ExprFails, ValFails, BodyStands, BodyFails, InitStands, InitFails}
use Rattle.wy_rules.specs.Acceptance.{reading_of}
use Rattle.wy_rules.proofs.Forms.{Lawful, Above}
use Rattle.wy_rules.proofs.Least.{raise, raise_block, all_raised}
use Rattle.wy_rules.proofs.Needs.{has_under, first_has, others_have, none_too_few, all_at, none_at}

-- of premises that say the same, two by two, the first false one has one number
pub first_same : (k : ℕ) (A B C D : Type 0) (m n : ℕ) → (A → B) → (B → A) → (A → B → C → D → m ≡ n) → FirstFalse k A C m → FirstFalse k B D n → m ≡ n
first_same k A B C D m n f g h (inl a) (inl b) = a.1 ∙ sym b.1
first_same k A B C D m n f g h (inl a) (inr b) = absurd (a.0 (g b.0))
first_same k A B C D m n f g h (inr a) (inl b) = absurd (b.0 (f a.0))
first_same k A B C D m n f g h (inr a) (inr b) = h a.0 b.0 a.1 b.1

-- .. of one premise
pub only_same : (A B : Type 0) (m n : ℕ) → (A → B) → (B → A) → FirstFalse 1 A ⊥ m → FirstFalse 1 B ⊥ n → m ≡ n
only_same A B m n f g a b = first_same 1 A B ⊥ ⊥ m n f g (λ x y c d. absurd c) a b

-- of two effects that may each stand for the other the least missing atoms are one, or each effect may stand for each
abbrev pub Tells : Reading → Type 0
Tells y =
    ((e f g : List ℕ) (a b : ℕ) → y.Allows e f → y.Allows f e → IsLeastMissing y.Under a e g → IsLeastMissing y.Under b f g → a ≡ b) ⊎
    ((e f : List ℕ) → y.Allows e f)

pub reading_tells : (p : Program) (k : ℕ) → GoDown (bounds_of p k) → (plain : Truth) → Tells (reading_of p k plain)
reading_tells p k down true = inr (λ e f. tt)
reading_tells p k down false = inl (one_missing (bounds_of p k) down)

-- as many parameters
pub as_many : {K : Type 0} (ps : List (K × K)) (xs ys : List K) → ParamsIn ps xs ys → length xs ≡ length ys
as_many ps [] [] h = refl
as_many ps [] (z ∷ ys) h = absurd h
as_many ps (x ∷ xs) [] h = absurd h
as_many ps (x ∷ xs) (z ∷ ys) h = ap suc (as_many ps xs ys h.1)

module _ (y : Reading) (w : Lawful y) (s : Scope) (owner : Option ℕ) where
  ------------------------------------------------------------
  -- Methods of types that are below each other

  pub object_below : (t u : y.Kind) → IsBelow y t u → y.IsObject u → y.IsObject t
  object_below t u b o = elim (b.closed (t, u) b.first) [ inl base ↦ absurd (base.1 (subst y.IsObject (sym base.0) o)) | inr object ↦ object.0 ]

  pub same_method : (t : y.Kind) (name : List ℕ) (a b : Signature y.Kind) → find_method name (y.methods t) ≡ Some a → find_method name (y.methods t) ≡ Some b → a ≡ b
  same_method t name a b e f = some_same a b (sym e ∙ f)
    where
      some_same : (a b : Signature y.Kind) → ◌≡◌ {A = Option (Signature y.Kind)} (Some a) (Some b) → a ≡ b
      some_same a b e = cc

  method_below : (t u : y.Kind) (name : List ℕ) → IsBelow y t u → y.IsObject u → HasMethod y s [] owner u name → HasMethod y s [] owner t name
  method_below t u name b o h = let r = has_under y w t u name h.0 b o h.1 in (r.method, r.found)

  number_above : (t u : y.Kind) (name : List ℕ) (arity : ℕ) → IsBelow y t u → y.IsObject u → HasNumber y s [] owner t name arity → HasNumber y s [] owner u name arity
  number_above t u name arity b o h m e =
      let r = has_under y w t u name m b o e in
      sym (as_many r.under.pairs r.method.params m.params r.under.covers.params) ∙ h r.method r.found

  pub target_below : (from into : List y.Kind) (t u : y.Kind) (name : List ℕ) (arity : ℕ) (m : Signature y.Kind) → IsBelow y t u → IsTarget y s from owner u name arity m → (n : Signature y.Kind) × IsTarget y s into owner t name arity n
  target_below from into t u name arity m b g =
      let r = has_under y w t u name m b g.object g.found in
      (r.method, record { object = r.object; found = r.found; number = as_many r.under.pairs r.method.params m.params r.under.covers.params ∙ g.number })

  ------------------------------------------------------------
  -- What has a type over one list has it over the other

  module _ (from into : List y.Kind) where
    abbrev pub Moves : Value → Type 0
    Moves x = (t : y.Kind) → HasAt y s from owner x t → HasAt y s into owner x t

    abbrev pub BlockMoves : Block → Type 0
    BlockMoves b = (t : y.Kind) → BlockHasAt y s from owner b t → BlockHasAt y s into owner b t

    abbrev pub EachMoves : Values → Type 0
    EachMoves none = Unit {0}
    EachMoves (more x xs) = Moves x × EachMoves xs

    nothing_given : (ds : Derivations y.Kind) (x : Value) (xs : Values) → DerivesAll y s from owner ds (more x xs) [] → ⊥
    nothing_given no_derivations x xs h = h
    nothing_given (one_more d e ds) x xs h = h

    none_moves : (ts : List y.Kind) → AllHaveAt y s from owner none ts → AllHaveAt y s into owner none ts
    none_moves [] h = none_at y w s into owner
    none_moves (t ∷ ts) h = absurd (none_too_few y w s from owner t ts h)

    pub all_move : (xs : Values) → EachMoves xs → (ts : List y.Kind) → AllHaveAt y s from owner xs ts → AllHaveAt y s into owner xs ts
    all_move none m ts h = none_moves ts h
    all_move (more x xs) m [] h = absurd (nothing_given h.have.derivations x xs h.have.derives)
    all_move (more x xs) m (t ∷ ts) h = all_at y w s into owner x xs t ts (m.0 t (first_has y w s from owner x xs t ts h)) (all_move xs m.1 ts (others_have y w s from owner x xs t ts h))

    -- the first of them
    first_move : (n : ℕ) (xs : Values) → EachMoves xs → (ts : List y.Kind) → AllHaveAt y s from owner (first_values y s from owner n xs) ts → AllHaveAt y s into owner (first_values y s into owner n xs) ts
    first_move zero xs m ts h = none_moves ts h
    first_move (suc n) none m ts h = none_moves ts h
    first_move (suc n) (more x xs) m [] h = absurd (nothing_given h.have.derivations x (first_values y s from owner n xs) h.have.derives)
    first_move (suc n) (more x xs) m (t ∷ ts) h =
        all_at y w s into owner x (first_values y s into owner n xs) t ts (m.0 t (first_has y w s from owner x (first_values y s from owner n xs) t ts h))
        (first_move n xs m.1 ts (others_have y w s from owner x (first_values y s from owner n xs) t ts h))

    block_raised : (b : Block) (t u : y.Kind) → BlockMoves b → Above y t u → BlockHasAt y s from owner b t → BlockHasAt y s into owner b u
    block_raised b t u m a h = let g = m t h in record { effect = g.effect; has = raise_block y w s into owner b t u g.effect a g.has }

    pub raised : (x : Value) (t u : y.Kind) → Moves x → Above y t u → HasAt y s from owner x t → HasAt y s into owner x u
    raised x t u m a h = let g = m t h in record { effect = g.effect; has = raise y w s into owner x t u g.effect a g.has }

    -- the least types of a value are below each other
    pub least_below : (x : Value) (t u : y.Kind) (f g : List ℕ) → Moves x → IsLeast y s from owner x t f → IsLeast y s into owner x u g → IsBelow y u t
    least_below x t u f g m h k = let r = m t (record { effect = f; has = h.has }) in (k.least t r.effect r.has).0

    arguments_move : (t u : y.Kind) (name : List ℕ) (xs : Values) → EachMoves xs → IsBelow y t u → IsBelow y u t → y.IsObject t → y.IsObject u → HasArguments y s from owner t name xs → HasArguments y s into owner u name xs
    arguments_move t u name xs m below above o q h n e =
        let r = has_under y w t u name n below q e in
        let l = has_under y w u t name r.method above o r.found in
        let same : l.method ≡ n = same_method u name l.method n l.found e in
        let have = all_move xs m r.method.params (h r.method r.found) in
        let high = all_raised y w s into owner l.under.pairs l.under.closed xs r.method.params l.method.params have.effect l.under.covers.params have.have in
        subst (λ (v : Signature y.Kind). AllHaveAt y s into owner xs v.params) same (record { effect = have.effect; have = high })

    ------------------------------------------------------------
    -- Operations

    abbrev pub OperandsMove : Option Operation → Type 0
    OperandsMove None = Unit {0}
    OperandsMove (Some o) = EachMoves o.operands

    -- what an expression's premises ask of its parts
    abbrev pub PartsMove : Expr → Type 0
    PartsMove (Call q x name xs) = Moves (Plain x) × EachMoves xs
    PartsMove (New q l xs) = EachMoves xs
    PartsMove (Ascribe q x t) = Moves x
    PartsMove (Assign q name x) = Moves x
    PartsMove x = OperandsMove (operation_of x)

    operands_move : (o : Operation) (n : ℕ) → EachMoves o.operands → OperandsHave y s from owner o n → OperandsHave y s into owner o n
    operands_move o n m h = (h.0, h.1, first_move n o.operands m (map y.read (take n h.0.operands)) h.2)

  fewer_have : (locals : List y.Kind) (n : ℕ) (xs : Values) (ts : List TypeRef) → AllHaveAt y s locals owner (first_values y s locals owner (suc n) xs) (map y.read (take (suc n) ts)) →
      AllHaveAt y s locals owner (first_values y s locals owner n xs) (map y.read (take n ts))
  fewer_have locals zero xs ts h = none_at y w s locals owner
  fewer_have locals (suc n) none [] h = none_at y w s locals owner
  fewer_have locals (suc n) none (t ∷ ts) h = absurd (none_too_few y w s locals owner (y.read t) (map y.read (take (suc n) ts)) h)
  fewer_have locals (suc n) (more x xs) [] h = absurd (nothing_given locals locals h.have.derivations x (first_values y s locals owner (suc n) xs) h.have.derives)
  fewer_have locals (suc n) (more x xs) (t ∷ ts) h =
      all_at y w s locals owner x (first_values y s locals owner n xs) (y.read t) (map y.read (take n ts))
      (first_has y w s locals owner x (first_values y s locals owner (suc n) xs) (y.read t) (map y.read (take (suc n) ts)) h)
      (fewer_have locals n xs ts (others_have y w s locals owner x (first_values y s locals owner (suc n) xs) (y.read t) (map y.read (take (suc n) ts)) h))

  fewer_operands : (locals : List y.Kind) (o : Operation) (n d : ℕ) → OperandsHave y s locals owner o (n + d) → OperandsHave y s locals owner o n
  fewer_operands locals o n zero h = (let same : n + 0 ≡ n = omega arith in subst (OperandsHave y s locals owner o) same h)
  fewer_operands locals o n (suc d) h =
      let same : n + suc d ≡ suc (n + d) = omega arith in
      let g = subst (OperandsHave y s locals owner o) same h in
      fewer_operands locals o n d (g.0, g.1, fewer_have locals (n + d) o.operands g.0.operands g.2)

  not_fewer : (from into : List y.Kind) (o : Operation) (m n : ℕ) → EachMoves from into o.operands → OperandsHave y s from owner o m → (OperandsHave y s into owner o (n + 1) → ⊥) → m ≤ n
  not_fewer from into o m n e h k =
      elim (cases_lt n m) [
        | inl less ↦ (
            let same : m ≡ n + 1 + (m - (n + 1)) = omega arith in
            absurd (k (operands_move from into o (n + 1) e (fewer_operands from o (n + 1) (m - (n + 1)) (subst (OperandsHave y s from owner o) same h))))
            )
        | inr at_most ↦ at_most
      ]

  ------------------------------------------------------------
  -- The first false premise has one number

  module _ (one other : List y.Kind) where
    operation_same : (o : Option Operation) (m n : ℕ) → OperandsMove one other o → OperandsMove other one o → OperationFails y s one owner o m → OperationFails y s other owner o n → m ≡ n
    operation_same None m n a b h k = absurd h
    operation_same (Some o) m n a b h k =
        let same : h.0 ≡ k.0 = le_antisymm (not_fewer one other o h.0 k.0 a h.2 k.3) (not_fewer other one o k.0 h.0 b k.2 h.3) in
        h.1 ∙ ap (λ v. v + 1) same ∙ sym k.1

    call_same : (x : Expr) (name : List ℕ) (xs : Values) (t u : y.Kind) (f g : List ℕ) (m n : ℕ) → Moves one other (Plain x) → Moves other one (Plain x) → EachMoves one other xs → EachMoves other one xs →
        IsLeast y s one owner (Plain x) t f → IsLeast y s other owner (Plain x) u g → CallFails y s one owner t name xs m → CallFails y s other owner u name xs n → m ≡ n
    call_same x name xs t u f g m n there back all_there all_back h k a b =
        let above = least_below one other (Plain x) t u f g there h k in
        let below = least_below other one (Plain x) u t g f back k h in
        first_same 1 (y.IsObject t) (y.IsObject u) _ _ m n (object_below u t above) (object_below t u below)
        (λ o q. first_same 2 (HasMethod y s one owner t name) (HasMethod y s other owner u name) _ _ m n (method_below u t name above o) (method_below t u name below q)
        (λ i j. first_same 3 (HasNumber y s one owner t name (value_count xs)) (HasNumber y s other owner u name (value_count xs)) _ _ m n (number_above t u name (value_count xs) below q) (number_above u t name (value_count xs) above o)
        (λ v z. first_same 4 (HasArguments y s one owner t name xs) (HasArguments y s other owner u name xs) ⊥ ⊥ m n
        (arguments_move one other t u name xs all_there below above o q) (arguments_move other one u t name xs all_back above below q o) (λ c d e l. absurd e))))
        a b

    pub if_same : (test : Expr) (first second : Block) (t u : y.Kind) (m n : ℕ) → Moves one other (Plain test) → Moves other one (Plain test) → BlockMoves one other first → BlockMoves other one first →
        BlockMoves one other second → BlockMoves other one second → Above y t u → Above y u t → IfFails y s one owner test first second t m → IfFails y s other owner test first second u n → m ≡ n
    if_same test first second t u m n a b c d e f up down h k =
        first_same 1 (HasAt y s one owner (Plain test) (y.read Bool)) (HasAt y s other owner (Plain test) (y.read Bool)) _ _ m n (a (y.read Bool)) (b (y.read Bool))
        (λ i j. first_same 2 (BlockHasAt y s one owner first t) (BlockHasAt y s other owner first u) _ _ m n (block_raised one other first t u c up) (block_raised other one first u t d down)
        (λ v z. first_same 3 (BlockHasAt y s one owner second t) (BlockHasAt y s other owner second u) ⊥ ⊥ m n (block_raised one other second t u e up) (block_raised other one second u t f down) (λ p q r l. absurd r)))
        h k

    field_value_moves : (from into : List y.Kind) (name : Binding) (x : Value) → Moves from into x → IsFieldValue y s from owner name x → IsFieldValue y s into owner name x
    field_value_moves from into name x m h v e = m (y.read v.typ) (h v e)

    set_same : (name : Binding) (x : Value) (m n : ℕ) → Moves one other x → Moves other one x → SetFails y s one owner name x m → SetFails y s other owner name x n → m ≡ n
    set_same name x m n a b h k =
        first_same 1 (IsVar y s one owner name) (IsVar y s other owner name) _ _ m n (λ v. v) (λ v. v)
        (λ i j. first_same 2 (IsFieldValue y s one owner name x) (IsFieldValue y s other owner name x) ⊥ ⊥ m n (field_value_moves one other name x a) (field_value_moves other one name x b) (λ p q r l. absurd r))
        h k

    pub expr_same : (x : Expr) (m n : ℕ) → PartsMove one other x → PartsMove other one x → ExprFails y s one owner x m → ExprFails y s other owner x n → m ≡ n
    expr_same (Call q x name xs) m n a b h k = call_same x name xs h.0 k.0 h.1 k.1 m n a.0 b.0 a.1 b.1 h.2 k.2 h.3 k.3
    expr_same (New q l xs) m n a b h k =
        let ts = map y.read (field_types s l) in
        only_same (AllHaveAt y s one owner xs ts) (AllHaveAt y s other owner xs ts) m n (all_move one other xs a ts) (all_move other one xs b ts) h k
    expr_same (Ascribe q x t) m n a b h k = only_same (HasAt y s one owner x (y.read t)) (HasAt y s other owner x (y.read t)) m n (a (y.read t)) (b (y.read t)) h k
    expr_same (Assign q name x) m n a b h k = set_same name x m n a b h k
    expr_same x m n a b h k = operation_same (operation_of x) m n a b h k

    -- the node of a `val`
    pub val_same : (typ : Option TypeRef) (x : Value) (m n : ℕ) → Moves one other x → Moves other one x → ValFails y s one owner typ x m → ValFails y s other owner typ x n → m ≡ n
    val_same None (Plain x) m n a b h k = absurd h
    val_same None (If q test first second) m n a b h k = h ∙ sym k
    val_same (Some t) x m n a b h k = only_same (HasAt y s one owner x (y.read t)) (HasAt y s other owner x (y.read t)) m n (a (y.read t)) (b (y.read t)) h k

  ------------------------------------------------------------
  -- Effects

  -- something in the second place with no larger effect, for what is in the first
  abbrev pub Shrinks : (List ℕ → Type 0) → (List ℕ → Type 0) → Type 0
  Shrinks P Q = (f : List ℕ) → P f → (g : List ℕ) × Q g × y.Allows g f

  -- the atom that a declared effect lacks is one, where effects are told apart; else no effect lacks one
  lacks_same : Tells y → (P Q : List ℕ → Type 0) → Shrinks P Q → Shrinks Q P → (e f g : List ℕ) (a b : ℕ) → ((h : List ℕ) → P h → y.Allows h (y.effect e) → ⊥) →
      P f → ((h : List ℕ) → P h → y.Allows f h) → Q g → ((h : List ℕ) → Q h → y.Allows g h) → IsLeastMissing y.Under a f (y.effect e) → IsLeastMissing y.Under b g (y.effect e) → a ≡ b
  lacks_same (inr any) P Q there back e f g a b n h l k m i j = absurd (n f h (any f (y.effect e)))
  lacks_same (inl tells) P Q there back e f g a b n h l k m i j =
      let r = there f h in
      let q = back g k in
      tells f g (y.effect e) a b (w.onward f q.0 g (l q.0 q.1) q.2) (w.onward g r.0 f (m r.0 r.1) r.2) i j

  not_false : (A : Type 0) (m : ℕ) → FirstFalse 1 A ⊥ m → A → ⊥
  not_false A m (inl h) a = h.0 a
  not_false A m (inr h) a = h.1

  module _ (one other : List y.Kind) (tells : Tells y) where
    pub body_same : (b : Block) (t : TypeRef) (e : List ℕ) (m n : ℕ) (i j : Option ℕ) → Shrinks (BlockHas y s one owner b (y.read t)) (BlockHas y s other owner b (y.read t)) →
        Shrinks (BlockHas y s other owner b (y.read t)) (BlockHas y s one owner b (y.read t)) → (BodyStands y s one owner b t e → ⊥) → BodyFails y s one owner b t e m i → BodyFails y s other owner b t e n j → (m ≡ n) × (i ≡ j)
    body_same b t e m n i j there back false_there (inl h) (inl k) = (
      only_same (BlockHasAt y s one owner b (y.read t)) (BlockHasAt y s other owner b (y.read t)) m n
          (λ v. (let r = there v.effect v.has in record { effect = r.0; has = r.1 })) (λ v. (let r = back v.effect v.has in record { effect = r.0; has = r.1 })) h.0 k.0,
      h.1 ∙ sym k.1,
    )
    body_same b t e m n i j there back false_there (inl h) (inr k) = (let r = back k.0 k.2.has in absurd (not_false (BlockHasAt y s one owner b (y.read t)) m h.0 (record { effect = r.0; has = r.1 })))
    body_same b t e m n i j there back false_there (inr h) (inl k) = (let r = there h.0 h.2.has in absurd (not_false (BlockHasAt y s other owner b (y.read t)) n k.0 (record { effect = r.0; has = r.1 })))
    body_same b t e m n i j there back false_there (inr h) (inr k) =
        let same = lacks_same tells (BlockHas y s one owner b (y.read t)) (BlockHas y s other owner b (y.read t)) there back e h.0 k.0 h.1 k.1 (λ f v l. false_there (f, v, l)) h.2.has h.2.least k.2.has k.2.least h.3 k.3 in
        (h.4 ∙ sym k.4, h.5 ∙ ap (λ v. Some v) same ∙ sym k.5)

    pub init_same : (xs : Values) (e : List ℕ) (m n : ℕ) (i j : Option ℕ) → Shrinks (AllHave y s one owner xs (map y.read (field_types s 0))) (AllHave y s other owner xs (map y.read (field_types s 0))) →
        Shrinks (AllHave y s other owner xs (map y.read (field_types s 0))) (AllHave y s one owner xs (map y.read (field_types s 0))) → (InitStands y s one owner xs e → ⊥) → InitFails y s one owner xs e m i → InitFails y s other owner xs e n j →
        (m ≡ n) × (i ≡ j)
    init_same xs e m n i j there back false_there (inl h) (inl k) = (
      only_same (AllHaveAt y s one owner xs (map y.read (field_types s 0))) (AllHaveAt y s other owner xs (map y.read (field_types s 0))) m n
          (λ v. (let r = there v.effect v.have in record { effect = r.0; have = r.1 })) (λ v. (let r = back v.effect v.have in record { effect = r.0; have = r.1 })) h.0 k.0,
      h.1 ∙ sym k.1,
    )
    init_same xs e m n i j there back false_there (inl h) (inr k) = (let r = back k.0 k.2.have in absurd (not_false (AllHaveAt y s one owner xs (map y.read (field_types s 0))) m h.0 (record { effect = r.0; have = r.1 })))
    init_same xs e m n i j there back false_there (inr h) (inl k) = (let r = there h.0 h.2.have in absurd (not_false (AllHaveAt y s other owner xs (map y.read (field_types s 0))) n k.0 (record { effect = r.0; have = r.1 })))
    init_same xs e m n i j there back false_there (inr h) (inr k) =
        let same = lacks_same tells (AllHave y s one owner xs (map y.read (field_types s 0))) (AllHave y s other owner xs (map y.read (field_types s 0))) there back e h.0 k.0 h.1 k.1 (λ f v l. false_there (f, v, l)) h.2.have h.2.least k.2.have k.2.least h.3 k.3 in
        (h.4 ∙ sym k.4, h.5 ∙ ap (λ v. Some v) same ∙ sym k.5)
