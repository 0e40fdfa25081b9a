-- The types of `val`s that are found one after the other are as many as the `val`s.
use Rattle.std.proofs.Common.{◌≡◌, ℕ, zero, suc, ◌<◌, ◌≤◌, List, [], ◌∷◌, ◌++◌, length, inl, inr, refl, Option, Some, None, Bool as Truth, arith}
use Rattle.std.specs.Prelude.{slice_get, ◌-◌}
use Rattle.std.proofs.lemmas.Option.{slice_get_within}
use Rattle.wy_text.specs.Members.{In}
use Rattle.wy_text.proofs.Lists.{In-left, In-right, In-slice_get}
use Rattle.wy_types.specs.Code.{Expr, Number, Quoted, Truth as TruthOf, Nothing as NothingOf, This, Name, Unary, Binary, TextCall, Call, New, Ascribe, Assign, Value, Plain, If, Values, none, more, Block, Last, Then, Val}
use Rattle.wy_types.specs.Program.{Program, Scope, Body, Start, Init, Run}
use Rattle.wy_types.specs.Types.{is_plain}
use Rattle.wy_types.specs.Core.{IsCore, ScopeFits}
use Rattle.wy_types.specs.Vals.{expr_vals, value_vals, values_vals, block_vals, start_vals, bodies_vals, scope_vals}
use Rattle.wy_rules.specs.Readings.{Reading}
use Rattle.wy_rules.specs.Typing.{ScopeHolds}
use Rattle.wy_rules.specs.Acceptance.{scope_reading}
use Rattle.wy_rules.specs.Canonical.{with_local, val_type, settle_expr, settle_value, settle_values, settle_block, settle_start, settle_bodies, canonical_locals, same_read, locals_of}
use Rattle.wy_rules.proofs.LeastTypes.{canonical_types_are_least}

put_short : {K : Type 0} (n m : ℕ) (k : K) (us : List K) → m < n → length us ≤ n → length (with_local m k us) ≤ n
put_short n zero k [] h g = omega (arith, h)
put_short n zero k (u ∷ us) h g = g
put_short n (suc m) k [] h g = (let r = put_short (n - 1) m k [] (omega (arith, h)) (omega arith) in omega (arith, h, r))
put_short n (suc m) k (u ∷ us) h g = (let r = put_short (n - 1) m k us (omega (arith, h)) (omega (arith, g)) in omega (arith, h, r))

abbrev AreBelow : ℕ → List ℕ → Type 0
AreBelow n ms = (m : ℕ) → In m ms → m < n

below_left : (n : ℕ) (ks ms : List ℕ) → AreBelow n (ks ++ ms) → AreBelow n ks
below_left n ks ms h m i = h m (In-left m ks ms i)

below_right : (n : ℕ) (ks ms : List ℕ) → AreBelow n (ks ++ ms) → AreBelow n ms
below_right n ks ms h m i = h m (In-right m ks ms i)

module _ (y : Reading) (same : y.Kind → y.Kind → Truth) (s : Scope) (n : ℕ) where
  module _ (owner : Option ℕ) where
    mutual
      expr_short : (x : Expr) (us : List y.Kind) → AreBelow n (expr_vals x) → length us ≤ n → length (settle_expr y same s owner x us) ≤ n
      expr_short (Number q i) us h g = g
      expr_short (Quoted q bytes) us h g = g
      expr_short (TruthOf q b) us h g = g
      expr_short (NothingOf q) us h g = g
      expr_short (This q) us h g = g
      expr_short (Name q name) us h g = g
      expr_short (Unary q op x) us h g = expr_short x us h g
      expr_short (Binary q op x v) us h g = expr_short v _ (below_right n (expr_vals x) (expr_vals v) h) (expr_short x us (below_left n (expr_vals x) (expr_vals v) h) g)
      expr_short (TextCall q op xs) us h g = values_short xs us h g
      expr_short (Call q x name xs) us h g = values_short xs _ (below_right n (expr_vals x) (values_vals xs) h) (expr_short x us (below_left n (expr_vals x) (values_vals xs) h) g)
      expr_short (New q l xs) us h g = values_short xs us h g
      expr_short (Ascribe q x t) us h g = value_short x us h g
      expr_short (Assign q name x) us h g = value_short x us h g

      value_short : (x : Value) (us : List y.Kind) → AreBelow n (value_vals x) → length us ≤ n → length (settle_value y same s owner x us) ≤ n
      value_short (Plain x) us h g = expr_short x us h g
      value_short (If q test first second) us h g =
          let r = below_right n (expr_vals test) (block_vals first ++ block_vals second) h in
          block_short second _ (below_right n (block_vals first) (block_vals second) r)
          (block_short first _ (below_left n (block_vals first) (block_vals second) r) (expr_short test us (below_left n (expr_vals test) (block_vals first ++ block_vals second) h) g))

      values_short : (xs : Values) (us : List y.Kind) → AreBelow n (values_vals xs) → length us ≤ n → length (settle_values y same s owner xs us) ≤ n
      values_short none us h g = g
      values_short (more x xs) us h g = values_short xs _ (below_right n (value_vals x) (values_vals xs) h) (value_short x us (below_left n (value_vals x) (values_vals xs) h) g)

      block_short : (b : Block) (us : List y.Kind) → AreBelow n (block_vals b) → length us ≤ n → length (settle_block y same s owner b us) ≤ n
      block_short (Last x) us h g = value_short x us h g
      block_short (Then x b) us h g = block_short b _ (below_right n (value_vals x) (block_vals b) h) (value_short x us (below_left n (value_vals x) (block_vals b) h) g)
      block_short (Val q i typ x b) us h g =
          let others : AreBelow n (value_vals x ++ block_vals b) = λ m j. h m (inr j) in
          let vs = settle_value y same s owner x us in
          block_short b _ (below_right n (value_vals x) (block_vals b) others)
          (put_short n i (val_type y same s vs owner typ x) vs (h i (inl refl)) (value_short x us (below_left n (value_vals x) (block_vals b) others) g))

  start_short : (st : Start) → AreBelow n (start_vals st) → length (settle_start y same s st) ≤ n
  start_short (Init values) h = values_short None values [] h (omega arith)
  start_short (Run block) h = block_short None block [] h (omega arith)

  bodies_short : (bs : List Body) (us : List y.Kind) → AreBelow n (bodies_vals bs) → length us ≤ n → length (settle_bodies y same s bs us) ≤ n
  bodies_short [] us h g = g
  bodies_short (b ∷ bs) us h g = bodies_short bs _ (below_right n (block_vals b.block) (bodies_vals bs) h) (block_short (Some b.owner) b.block us (below_left n (block_vals b.block) (bodies_vals bs) h) g)

  locals_short : AreBelow n (scope_vals s) → length (canonical_locals y same s) ≤ n
  locals_short h = bodies_short s.bodies (settle_start y same s s.start) (below_right n (start_vals s.start) (bodies_vals s.bodies) h) (start_short s.start (below_left n (start_vals s.start) (bodies_vals s.bodies) h))

all_there : {X : Type 0} (xs : List X) (n : ℕ) → ((m : ℕ) → m < n → (x : X) × (slice_get xs m ≡ Some x)) → n ≤ length xs
all_there xs zero h = omega arith
all_there xs (suc n) h = (let r = h n (omega arith) in let l = slice_get_within xs n r.0 r.1 in omega (arith, l))

-- of a scope that holds
pub locals_counted : (p : Program) (core : IsCore p) (k : ℕ) (s : Scope) → slice_get p.scopes k ≡ Some s → ScopeHolds (scope_reading p k s) s → length (locals_of p k s) ≡ length (scope_vals s)
locals_counted p core k s at h =
    let fits : ScopeFits p s = core.scopes s (In-slice_get p.scopes k s at) in
    let n = length (scope_vals s) in
    let short = locals_short (scope_reading p k s) (same_read p k (is_plain s.kind)) s n (λ m i. (fits.numbered m).0 i) in
    let long = all_there (locals_of p k s) n (λ m l. (let r = (canonical_types_are_least p k s core at h).1 m ((fits.numbered m).1 l) in (r.0, r.1))) in
    omega (arith, short, long)
