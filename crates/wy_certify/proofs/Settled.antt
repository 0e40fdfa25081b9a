-- What each part adds to the types of `val`s that are known.
use Rattle.std.proofs.Common.{◌≡◌, ℕ, ℤ, zero, suc, ◌+◌, ◌<◌, ◌≤◌, List, [], ◌∷◌, ◌++◌, map, length, get_or, drop, Option, Some, None, Bool as Truth, true, false, refl, sym, ap, ◌∙◌, arith}
use Rattle.std.specs.Prelude.{slice_get, slice_set}
use Rattle.std.proofs.lemmas.List.{drop_more, drop_all}
use Rattle.wy_subtype.proofs.Places.{slice_get-mapped}
use Rattle.wy_text.specs.declared.fault.Place.{Place}
use Rattle.wy_types.specs.declared.types.TypeRef.{TypeRef}
use Rattle.wy_types.specs.declared.types.TypeRef.TheVariants.{Unit as Nothing}
use Rattle.wy_types.specs.declared.code.Value as v
use Rattle.wy_types.specs.declared.code.Stmt as st
use Rattle.wy_types.specs.declared.code.UnaryOperator.{UnaryOperator}
use Rattle.wy_types.specs.declared.code.BinaryOperator.{BinaryOperator}
use Rattle.wy_types.specs.declared.code.TextOperator.{TextOperator}
use Rattle.wy_types.specs.declared.code.Binding.{Binding}
use Rattle.wy_types.specs.declared.resolved.Body as own
use Rattle.wy_types.specs.Code.{Expr, Number, Quoted, Truth as TruthOf, Nothing as NothingOf, This, Name, Unary, Binary, TextCall, Call, New, Ascribe, Assign, Value, Plain, If, Values, none, more, Block, Last}
use Rattle.wy_types.specs.View.{value_of, values_of, stmt_block, stmts_block}
use Rattle.wy_types.specs.Program.{Program, Scope, Body, Start, Init, Run, body_of}
use Rattle.wy_types.specs.Types.{is_plain}
use Rattle.wy_rules.specs.Acceptance.{reading_of}
use Rattle.wy_rules.specs.Canonical.{same_type, same_read, with_local, settle_values, settle_block, settle_start, canonical_locals}
use Rattle.wy_proving.specs.WrittenLaws.{AreFound}
use Rattle.wy_proving.specs.OneReading.{reading_at}
use Rattle.wy_certify.specs.Written.{Context, reading, expr_typ}
use Rattle.wy_certify.specs.Settling.{knowing, val_typ, expr_settled, value_settled, values_settled, block_settled, stmt_settled, front_settled, start_settled, bodies_settled}
use Rattle.wy_certify.specs.LocalsAt.{locals_at}
use Rattle.wy_certify.proofs.Bodies.{with_owner}

------------------------------------------------------------
-- A type that is put in

-- over one that is there
pub put_over : {K : Type 0} (us : List K) (n : ℕ) (k : K) → n < length us → slice_set us n k ≡ with_local n k us
put_over [] n k lt = absurd (omega arith)
put_over (u ∷ us) zero k lt = refl
put_over (u ∷ us) (suc n) k lt = ap (λ l. u ∷ l) (put_over us n k (omega (arith, lt)))

-- at the end
pub put_after : {K : Type 0} (us : List K) (n : ℕ) (k : K) → length us ≡ n → us ++ k ∷ [] ≡ with_local n k us
put_after [] zero k is = refl
put_after [] (suc n) k is = absurd (omega (arith, is))
put_after (u ∷ us) zero k is = absurd (omega (arith, is))
put_after (u ∷ us) (suc n) k is = ap (λ l. u ∷ l) (put_after us n k (omega (arith, is)))

-- .. and in front of its number
pub filled : {K : Type 0} (us : List K) (n : ℕ) (k : K) → length us < n → with_local n k (us ++ k ∷ []) ≡ with_local n k us
filled us zero k lt = absurd (omega (arith, lt))
filled [] (suc n) k lt = refl
filled (u ∷ us) (suc n) k lt = ap (λ l. u ∷ l) (filled us n k (omega (arith, lt)))

------------------------------------------------------------
-- What stands at a number of a mapped list

pub same_mapped : {X Y : Type 0} (f : X → Y) (xs : List X) (i : ℕ) (x : X) (y : Y) → slice_get xs i ≡ Some x → slice_get (map f xs) i ≡ Some y → f x ≡ y
same_mapped f xs i x y there is =
    let both : Some (f x) ≡ Some y = sym (slice_get-mapped f xs i x there) ∙ is in
    cc

pub none_mapped : {X Y : Type 0} (f : X → Y) (xs : List X) (i : ℕ) (y : Y) → slice_get xs i ≡ None → slice_get (map f xs) i ≡ Some y → ⊥
none_mapped f [] zero y gone is = cc
none_mapped f [] (suc i) y gone is = cc
none_mapped f (x ∷ xs) zero y gone is = cc
none_mapped f (x ∷ xs) (suc i) y gone is = none_mapped f xs i y gone is

------------------------------------------------------------
-- Loops

drop_at : {X : Type 0} (xs : List X) (i : ℕ) (x : X) → i < length xs → x ≡ get_or xs i x → drop i xs ≡ x ∷ drop (i + 1) xs
drop_at xs i x lt is = drop_more xs i x lt ∙ ap (λ y. y ∷ drop (i + 1) xs) (sym is)

module _ (c : Context) where
  ------------------------------------------------------------
  -- The type of a `val`

  pub written_typ : (t : TypeRef) (x : Value) → val_typ c (Some t) x ≡ t
  unfolding val_typ
  written_typ t x = refl

  pub initial_typ : (x : Expr) → val_typ c None (Plain x) ≡ expr_typ c x
  unfolding val_typ expr_typ
  initial_typ x = refl

  pub if_typ : (q : Place) (x : Expr) (a b : Block) → val_typ c None (If q x a b) ≡ Nothing
  unfolding val_typ
  if_typ q x a b = refl

  ------------------------------------------------------------
  -- Expressions and values

  pub number_settled : (q : Place) (n : ℤ) (us : List TypeRef) → expr_settled c (Number q n) us ≡ us
  unfolding expr_settled
  number_settled q n us = refl

  pub text_settled : (q : Place) (bytes : List ℕ) (us : List TypeRef) → expr_settled c (Quoted q bytes) us ≡ us
  unfolding expr_settled
  text_settled q bytes us = refl

  pub truth_settled : (q : Place) (b : Truth) (us : List TypeRef) → expr_settled c (TruthOf q b) us ≡ us
  unfolding expr_settled
  truth_settled q b us = refl

  pub nothing_settled : (q : Place) (us : List TypeRef) → expr_settled c (NothingOf q) us ≡ us
  unfolding expr_settled
  nothing_settled q us = refl

  pub this_settled : (q : Place) (us : List TypeRef) → expr_settled c (This q) us ≡ us
  unfolding expr_settled
  this_settled q us = refl

  pub name_settled : (q : Place) (name : Binding) (us : List TypeRef) → expr_settled c (Name q name) us ≡ us
  unfolding expr_settled
  name_settled q name us = refl

  pub unary_settled : (q : Place) (op : UnaryOperator) (x : Expr) (us : List TypeRef) → expr_settled c (Unary q op x) us ≡ expr_settled c x us
  unfolding expr_settled
  unary_settled q op x us = refl

  pub binary_settled : (q : Place) (op : BinaryOperator) (x z : Expr) (us : List TypeRef) → expr_settled c (Binary q op x z) us ≡ expr_settled c z (expr_settled c x us)
  unfolding expr_settled
  binary_settled q op x z us = refl

  pub text_call_settled : (q : Place) (op : TextOperator) (xs : Values) (us : List TypeRef) → expr_settled c (TextCall q op xs) us ≡ values_settled c xs us
  unfolding expr_settled values_settled
  text_call_settled q op xs us = refl

  pub call_settled : (q : Place) (x : Expr) (name : List ℕ) (xs : Values) (us : List TypeRef) → expr_settled c (Call q x name xs) us ≡ values_settled c xs (expr_settled c x us)
  unfolding expr_settled values_settled
  call_settled q x name xs us = refl

  pub new_settled : (q : Place) (l : ℕ) (xs : Values) (us : List TypeRef) → expr_settled c (New q l xs) us ≡ values_settled c xs us
  unfolding expr_settled values_settled
  new_settled q l xs us = refl

  pub ascribe_settled : (q : Place) (x : Value) (t : TypeRef) (us : List TypeRef) → expr_settled c (Ascribe q x t) us ≡ value_settled c x us
  unfolding expr_settled value_settled
  ascribe_settled q x t us = refl

  pub assign_settled : (q : Place) (name : Binding) (x : Value) (us : List TypeRef) → expr_settled c (Assign q name x) us ≡ value_settled c x us
  unfolding expr_settled value_settled
  assign_settled q name x us = refl

  pub plain_settled : (x : Expr) (us : List TypeRef) → value_settled c (Plain x) us ≡ expr_settled c x us
  unfolding value_settled expr_settled
  plain_settled x us = refl

  pub if_settled : (q : Place) (x : Expr) (a b : Block) (us : List TypeRef) → value_settled c (If q x a b) us ≡ block_settled c b (block_settled c a (expr_settled c x us))
  unfolding value_settled expr_settled block_settled
  if_settled q x a b us = refl

  ------------------------------------------------------------
  -- Statements, and one after the other

  pub val_settled : (q : Place) (n : ℕ) (typ : Option TypeRef) (x : v.Value) (us : List TypeRef) →
      stmt_settled c (st.Val q n typ x) us ≡ (let vs = value_settled c (value_of x) us in with_local n (val_typ (knowing c vs) typ (value_of x)) vs)
  unfolding stmt_settled
  val_settled q n typ x us = refl

  pub do_settled : (x : v.Value) (us : List TypeRef) → stmt_settled c (st.Do x) us ≡ value_settled c (value_of x) us
  unfolding stmt_settled
  do_settled x us = refl

  values_none : (us : List TypeRef) → values_settled c none us ≡ us
  unfolding values_settled
  values_none us = refl

  values_more : (x : Value) (xs : Values) (us : List TypeRef) → values_settled c (more x xs) us ≡ values_settled c xs (value_settled c x us)
  unfolding values_settled value_settled
  values_more x xs us = refl

  bodies_none : (us : List TypeRef) → bodies_settled c [] us ≡ us
  unfolding bodies_settled
  bodies_none us = refl

  bodies_more : (b : Body) (bs : List Body) (us : List TypeRef) → bodies_settled c (b ∷ bs) us ≡ bodies_settled c bs (block_settled (with_owner c (Some b.owner)) b.block us)
  unfolding bodies_settled block_settled
  bodies_more b bs us = refl

  first_settled : (x : st.Stmt) (b : Block) (us : List TypeRef) → block_settled c (stmt_block x b) us ≡ block_settled c b (stmt_settled c x us)
  unfolding block_settled stmt_settled value_settled val_typ
  first_settled (st.Val q n typ x) b us = refl
  first_settled (st.Do x) b us = refl

  -- a block is its statements, and then its last value
  pub all_settled : (xs : List st.Stmt) (z : Value) (us : List TypeRef) → block_settled c (stmts_block xs (Last z)) us ≡ value_settled c z (front_settled c xs us)
  unfolding front_settled block_settled value_settled
  all_settled [] z us = refl
  all_settled (x ∷ xs) z us = first_settled x (stmts_block xs (Last z)) us ∙ all_settled xs z (stmt_settled c x us)

  -- one more value, and none is left
  module _ (xs : List v.Value) (i : ℕ) where
    pub value_turn : (x : v.Value) → i < length xs → x ≡ get_or xs i x → (old mid new : List TypeRef) → values_settled c (values_of (drop i xs)) mid ≡ old → new ≡ value_settled c (value_of x) mid →
        values_settled c (values_of (drop (i + 1) xs)) new ≡ old
    value_turn x lt is old mid new h n =
        let rest = values_of (drop (i + 1) xs) in
        ap (values_settled c rest) n ∙ sym (ap (λ (l : List v.Value). values_settled c (values_of l) mid) (drop_at xs i x lt is) ∙ values_more (value_of x) rest mid) ∙ h

    pub values_end : length xs ≤ i → (old mid : List TypeRef) → values_settled c (values_of (drop i xs)) mid ≡ old → mid ≡ old
    values_end short old mid h = sym (ap (λ (l : List v.Value). values_settled c (values_of l) mid) (drop_all i xs short) ∙ values_none mid) ∙ h

  -- .. statement
  module _ (xs : List st.Stmt) (i : ℕ) where
    pub stmt_turn : (x : st.Stmt) → i < length xs → x ≡ get_or xs i x → (old mid new : List TypeRef) → front_settled c (drop i xs) mid ≡ old → new ≡ stmt_settled c x mid → front_settled c (drop (i + 1) xs) new ≡ old
    unfolding front_settled
    stmt_turn x lt is old mid new h n =
        ap (front_settled c (drop (i + 1) xs)) n ∙ sym (ap (λ (l : List st.Stmt). front_settled c l mid) (drop_at xs i x lt is)) ∙ h

    pub front_end : length xs ≤ i → (old mid : List TypeRef) → front_settled c (drop i xs) mid ≡ old → mid ≡ old
    unfolding front_settled
    front_end short old mid h = sym (ap (λ (l : List st.Stmt). front_settled c l mid) (drop_all i xs short)) ∙ h

  -- .. body
  module _ (xs : List own.Body) (i : ℕ) where
    pub body_turn : (x : own.Body) → i < length xs → x ≡ get_or xs i x → (old mid new : List TypeRef) → bodies_settled c (map body_of (drop i xs)) mid ≡ old →
        new ≡ block_settled (with_owner c (Some x.owner)) (body_of x).block mid → bodies_settled c (map body_of (drop (i + 1) xs)) new ≡ old
    body_turn x lt is old mid new h n =
        let rest = map body_of (drop (i + 1) xs) in
        ap (bodies_settled c rest) n ∙ sym (ap (λ (l : List own.Body). bodies_settled c (map body_of l) mid) (drop_at xs i x lt is) ∙ bodies_more (body_of x) rest mid) ∙ h

    pub bodies_end : length xs ≤ i → (old mid : List TypeRef) → bodies_settled c (map body_of (drop i xs)) mid ≡ old → mid ≡ old
    bodies_end short old mid h = sym (ap (λ (l : List own.Body). bodies_settled c (map body_of l) mid) (drop_all i xs short) ∙ bodies_none mid) ∙ h

  ------------------------------------------------------------
  -- The whole scope

  pub init_settled : (xs : Values) → c.owner ≡ None → c.scope.start ≡ Init xs → start_settled c ≡ values_settled c xs []
  unfolding start_settled values_settled
  init_settled xs unowned is =
      ap (λ (v : Start). settle_start (reading c) same_type c.scope v) is ∙ sym (ap (λ (o : Option ℕ). settle_values (reading c) same_type c.scope o xs []) unowned)

  pub run_settled : (b : Block) → c.owner ≡ None → c.scope.start ≡ Run b → start_settled c ≡ block_settled c b []
  unfolding start_settled block_settled
  run_settled b unowned is =
      ap (λ (v : Start). settle_start (reading c) same_type c.scope v) is ∙ sym (ap (λ (o : Option ℕ). settle_block (reading c) same_type c.scope o b []) unowned)

  pub scope_settled : locals_at c.program c.number c.scope ≡ bodies_settled c c.scope.bodies (start_settled c)
  unfolding start_settled bodies_settled
  scope_settled = refl

as_they_are : (us : List TypeRef) → map (λ (t : TypeRef). t) us ≡ us
as_they_are [] = refl
as_they_are (u ∷ us) = ap (λ (l : List TypeRef). u ∷ l) (as_they_are us)

by_kind : (p : Program) (k : ℕ) (s : Scope) (plain : Truth) (us : List TypeRef) → us ≡ canonical_locals (reading_at p k plain) same_type s →
    map (reading_of p k plain).read us ≡ canonical_locals (reading_of p k plain) (same_read p k plain) s
by_kind p k s true us is = as_they_are us ∙ is
by_kind p k s false us is = as_they_are us ∙ is

-- they are found, over the reading of the scope's kind
pub are_found : (p : Program) (k : ℕ) (s : Scope) (us : List TypeRef) → us ≡ locals_at p k s → AreFound p k s us
are_found p k s us is = by_kind p k s (is_plain s.kind) us is
