-- The open widths, by the stack and by the lines before.
use Rattle.std.proofs.Common.{◌≡◌, ◌↔◌, ℕ, zero, suc, ◌+◌, ◌<◌, ◌≤◌, ◌==◌, nat_lt, Bool, true, false, cond, List, [], ◌∷◌, ◌++◌, length, refl, sym, ap, subst, ◌∙◌, arith, inl, inr, ◌⊎◌, ltb-true, ltb-false}
use Rattle.std.specs.List.{AllByRecursion, filter}
use Rattle.wy_layout.specs.Widths.{IsOpen, below, opens, above, rest, is_top, Step, deeper, back, wrong, not_open, step_of, Stands}
use Rattle.wy_layout.specs.Laws.{Has, Descend}
use Rattle.wy_layout.specs.Lexed.{pushed, stack_after}
use Rattle.wy_layout.proofs.Scanning.{eq_is}

below_keeps : (w v : ℕ) (st : List ℕ) → Has v st → v < w → Has v (below w st)
below_keeps w v [] h lt = h
below_keeps w v (x ∷ st) h lt = go (nat_lt x w) refl h (λ k. below_keeps w v st k lt)
  where
    go : (b : Bool) → nat_lt x w ≡ b → (v ≡ x) ⊎ Has v st → (Has v st → Has v (below w st)) → Has v (cond b (x ∷ st) (below w st))
    go true e h ih = h
    go false e (inl h) ih = absurd (let le : w ≤ x = ltb-false x w e in omega arith)
    go false e (inr h) ih = ih h

below_from : (w v : ℕ) (st : List ℕ) → Has v (below w st) → Has v st
below_from w v [] h = h
below_from w v (x ∷ st) h = go (nat_lt x w) h (λ k. below_from w v st k)
  where
    go : (b : Bool) → Has v (cond b (x ∷ st) (below w st)) → (Has v (below w st) → Has v st) → (v ≡ x) ⊎ Has v st
    go true h ih = h
    go false h ih = inr (ih h)

below_less : (w v : ℕ) (st : List ℕ) → Descend st → Has v (below w st) → v < w
below_less w v [] f h = absurd h
below_less w v (x ∷ st) f h = go (nat_lt x w) refl h (λ k. below_less w v st f.1 k)
  where
    go : (b : Bool) → nat_lt x w ≡ b → Has v (cond b (x ∷ st) (below w st)) → (Has v (below w st) → v < w) → v < w
    go true e (inl h) ih = let lt : x < w = ltb-true x w e in omega arith
    go true e (inr h) ih = let lt : x < w = ltb-true x w e in let k = f.0 v h in omega arith
    go false e h ih = ih h

below_descends : (w : ℕ) (st : List ℕ) → Descend st → Descend (below w st)
below_descends w [] f = f
below_descends w (x ∷ st) f = go (nat_lt x w) (below_descends w st f.1)
  where
    go : (b : Bool) → Descend (below w st) → Descend (cond b (x ∷ st) (below w st))
    go true ih = f
    go false ih = ih

pub opens_descend : (ws : List ℕ) → Descend (opens ws)
opens_descend [] = ((λ (v : ℕ) (h : Has v []). absurd h), tt)
opens_descend (w ∷ ws) = ((λ (v : ℕ) (h : Has v (below w (opens ws))). below_less w v (opens ws) (opens_descend ws) h), below_descends w (opens ws) (opens_descend ws))

-- where no width is greater none is left
none_greater : (w : ℕ) (st : List ℕ) → ((v : ℕ) → Has v st → v ≤ w) → filter (λ v. nat_lt w v) st ≡ []
none_greater w [] h = refl
none_greater w (x ∷ st) h = go (nat_lt w x) refl (none_greater w st (λ v k. h v (inr k)))
  where
    go : (b : Bool) → nat_lt w x ≡ b → filter (λ v. nat_lt w v) st ≡ [] → cond b (x ∷ filter (λ v. nat_lt w v) st) (filter (λ v. nat_lt w v) st) ≡ []
    go true e ih = absurd (let lt : w < x = ltb-true w x e in let le = h x (inl refl) in omega arith)
    go false e ih = ih

-- of descending widths the greater ones stand first
greater_first : (w : ℕ) (st : List ℕ) → Descend st → above w st ≡ length (filter (λ v. nat_lt w v) st)
greater_first w [] d = refl
greater_first w (x ∷ st) d = go (nat_lt w x) refl (greater_first w st d.1)
  where
    go : (b : Bool) → nat_lt w x ≡ b → above w st ≡ length (filter (λ v. nat_lt w v) st) → cond b (suc (above w st)) 0 ≡ length (cond b (x ∷ filter (λ v. nat_lt w v) st) (filter (λ v. nat_lt w v) st))
    go true e ih = ap (λ (n : ℕ). suc n) ih
    go false e ih =
        let le : x ≤ w = ltb-false w x e in
        sym (ap (λ (u : List ℕ). length u) (none_greater w st (λ v k. let lt = d.0 v k in omega arith)))

pub one_out_for_each : (w : ℕ) (ws : List ℕ) → above w (opens ws) ≡ length (filter (λ v. nat_lt w v) (opens ws))
one_out_for_each w ws = greater_first w (opens ws) (opens_descend ws)

apart_cases : (a b : ℕ) → a ≤ b → (a ≡ b) ⊎ (a < b)
apart_cases a b h = grind arith

zero_cases : (w : ℕ) → (0 ≡ w) ⊎ (0 < w)
zero_cases zero = inl refl
zero_cases (suc w) = inr (omega arith)

has_zero : (ws : List ℕ) → Has 0 (opens ws)
has_zero [] = inl refl
has_zero (w ∷ ws) = elim (zero_cases w) [ inl e ↦ inl e | inr lt ↦ inr (below_keeps w 0 (opens ws) (has_zero ws) lt) ]

abbrev Before : ℕ → List ℕ → Type 0
Before v ws = (later : List ℕ) × (before : List ℕ) × (ws ≡ later ++ v ∷ before) × AllByRecursion (λ x. v ≤ x) later

-- Has v (opens ws), for a width that a line before has
before_has : (v : ℕ) (ws later before : List ℕ) → ws ≡ later ++ v ∷ before → AllByRecursion (λ x. v ≤ x) later → Has v (opens ws)
before_has v [] [] before e all = absurd cc
before_has v [] (x ∷ later) before e all = absurd cc
before_has v (w ∷ ws) [] before e all = inl (head w v ws before e)
  where
    head : (x y : ℕ) (u t : List ℕ) → x ∷ u ≡ y ∷ t → y ≡ x
    head x y u t e = cc
before_has v (w ∷ ws) (x ∷ later) before e all =
    let k = parts w x ws (later ++ v ∷ before) e in
    let ih = before_has v ws later before k.1 all.1 in
    let le : v ≤ w = subst (λ (z : ℕ). v ≤ z) (sym k.0) all.0 in
    elim (apart_cases v w le) [ inl same ↦ inl same | inr lt ↦ inr (below_keeps w v (opens ws) ih lt) ]
  where
    parts : (x y : ℕ) (u t : List ℕ) → x ∷ u ≡ y ∷ t → (x ≡ y) × (u ≡ t)
    parts x y u t e = (cc, cc)

pub has_open : (v : ℕ) (ws : List ℕ) → IsOpen v ws → Has v (opens ws)
has_open v ws (inl e) = subst (λ (z : ℕ). Has z (opens ws)) (sym e) (has_zero ws)
has_open v ws (inr (later, before, parts, all)) = before_has v ws later before parts all

pub open_has : (v : ℕ) (ws : List ℕ) → Has v (opens ws) → IsOpen v ws
open_has v [] (inl e) = inl e
open_has v [] (inr h) = absurd h
open_has v (w ∷ ws) (inl e) = inr ([], ws, ap (λ (z : ℕ). z ∷ ws) (sym e), tt)
open_has v (w ∷ ws) (inr h) = longer (below_less w v (opens ws) (opens_descend ws) h) (open_has v ws (below_from w v (opens ws) h))
  where
    longer : v < w → IsOpen v ws → IsOpen v (w ∷ ws)
    longer lt (inl e) = inl e
    longer lt (inr (later, before, parts, all)) = inr (w ∷ later, before, ap (λ (z : List ℕ). w ∷ z) parts, (omega arith, all))

pub open_is : (v : ℕ) (ws : List ℕ) → Has v (opens ws) ↔ IsOpen v ws
open_is v ws = (open_has v ws, has_open v ws)

-- ---- a step

top_has : (w : ℕ) (st : List ℕ) → is_top w (rest w st) ≡ true → Has w st
top_has w [] e = absurd cc
top_has w (x ∷ st) e = go (nat_lt w x) e (λ k. top_has w st k)
  where
    eq_is : (n k : ℕ) → (n == k) ≡ true → n ≡ k
    eq_is n k e = grind arith

    go : (b : Bool) → is_top w (cond b (rest w st) (x ∷ st)) ≡ true → (is_top w (rest w st) ≡ true → Has w st) → (w ≡ x) ⊎ Has w st
    go true e ih = inr (ih e)
    go false e ih = inl (eq_is w x e)

has_top : (w : ℕ) (st : List ℕ) → Descend st → Has w st → is_top w (rest w st) ≡ true
has_top w [] f h = absurd h
has_top w (x ∷ st) f h = go (nat_lt w x) refl h (λ k. has_top w st f.1 k)
  where
    eq_self : (n k : ℕ) → n ≡ k → (n == k) ≡ true
    eq_self n k e = grind arith

    go : (b : Bool) → nat_lt w x ≡ b → (w ≡ x) ⊎ Has w st → (Has w st → is_top w (rest w st) ≡ true) → is_top w (cond b (rest w st) (x ∷ st)) ≡ true
    go true e (inl h) ih = let lt : w < x = ltb-true w x e in absurd (omega arith)
    go true e (inr h) ih = ih h
    go false e (inl h) ih = eq_self w x h
    go false e (inr h) ih = let le : x ≤ w = ltb-false w x e in let k = f.0 w h in absurd (omega arith)

-- what stands before a line is as the lines before it say
pub step_stands : (w : ℕ) (ws : List ℕ) → Stands (step_of w (opens ws)) w ws
step_stands w ws = go (is_top w (rest w (opens ws))) refl (above w (opens ws)) refl
  where
    head_low : (st : List ℕ) → Descend st → above w st ≡ 0 → (is_top w (rest w st) ≡ false) → (v : ℕ) → Has v st → v < w
    head_low [] f a t v h = absurd h
    head_low (x ∷ st) f a t v h = low (nat_lt w x) refl a t h
      where
        neq : (n k : ℕ) → (n == k) ≡ false → n ≡ k → ⊥
        neq n k e h = grind arith

        low : (b : Bool) → nat_lt w x ≡ b → cond b (suc (above w st)) 0 ≡ 0 → is_top w (cond b (rest w st) (x ∷ st)) ≡ false → (v ≡ x) ⊎ Has v st → v < w
        low true e a t h = absurd (omega arith)
        low false e a t (inl h) = let le : x ≤ w = ltb-false w x e in elim (apart_cases x w le) [ inl same ↦ absurd (neq w x t (sym same)) | inr lt ↦ omega arith ]
        low false e a t (inr h) = let le : x ≤ w = ltb-false w x e in let k = f.0 v h in omega arith

    head_high : (st : List ℕ) (n : ℕ) → above w st ≡ suc n → (v : ℕ) × Has v st × (w < v)
    head_high [] n a = absurd (omega arith)
    head_high (x ∷ st) n a = high (nat_lt w x) refl a
      where
        high : (b : Bool) → nat_lt w x ≡ b → cond b (suc (above w st)) 0 ≡ suc n → (v : ℕ) × Has v (x ∷ st) × (w < v)
        high true e a = (x, inl refl, ltb-true w x e)
        high false e a = absurd (omega arith)

    go : (b : Bool) → is_top w (rest w (opens ws)) ≡ b → (n : ℕ) → above w (opens ws) ≡ n → Stands (cond b (back n) (not_open n)) w ws
    go true t n a = record { is_open = open_has w ws (top_has w (opens ws) t); count = sym a }
    go false t zero a = record { wider = λ v o. head_low (opens ws) (opens_descend ws) a t v (has_open v ws o) }
    go false t (suc n) a = let k = head_high (opens ws) n a in record {
      closed = λ o. let e = has_top w (opens ws) (opens_descend ws) (has_open w ws o) in cc;
      wider = (k.0, open_has k.0 ws k.1, k.2);
      count = sym a;
    }

-- ---- the stack behind a line

-- under a width that is open stand the lesser ones
top_below : (w : ℕ) (st : List ℕ) → Descend st → is_top w (rest w st) ≡ true → rest w st ≡ w ∷ below w st
top_below w [] f h = absurd (let t : false ≡ true = h in cc)
top_below w (v ∷ st) f h = go (nat_lt w v) refl (nat_lt v w) refl h (λ k. top_below w st f.1 k)
  where
    less : (u : ℕ) → u < w → nat_lt u w ≡ true
    less u h = grind arith

    under : (st : List ℕ) → Descend (v ∷ st) → w ≡ v → st ≡ below w st
    under [] f e = refl
    under (u ∷ st) f e = let l : nat_lt u w ≡ true = less u (let a : u < v = f.0 u (inl refl) in omega arith) in rw l refl

    go : (a : Bool) → nat_lt w v ≡ a → (b : Bool) → nat_lt v w ≡ b → is_top w (cond a (rest w st) (v ∷ st)) ≡ true → (is_top w (rest w st) ≡ true → rest w st ≡ w ∷ below w st) →
        cond a (rest w st) (v ∷ st) ≡ w ∷ cond b (v ∷ st) (below w st)
    go true ea true eb h ih = absurd (let x = ltb-true w v ea in let y = ltb-true v w eb in omega arith)
    go true ea false eb h ih = ih h
    go false ea true eb h ih = absurd (let y = ltb-true v w eb in let e : w ≡ v = eq_is w v h in omega arith)
    go false ea false eb h ih = let e : w ≡ v = eq_is w v h in ap (λ (z : ℕ). z ∷ st) (sym e) ∙ ap (λ (z : List ℕ). w ∷ z) (under st f e)

-- over all open widths
all_below : (w : ℕ) (st : List ℕ) → above w st ≡ 0 → is_top w (rest w st) ≡ false → rest w st ≡ below w st
all_below w [] a t = refl
all_below w (v ∷ st) a t = go (nat_lt w v) refl (nat_lt v w) refl a t
  where
    neq : (n k : ℕ) → (n == k) ≡ false → n ≡ k → ⊥
    neq n k e h = grind arith

    go : (x : Bool) → nat_lt w v ≡ x → (y : Bool) → nat_lt v w ≡ y → cond x (suc (above w st)) 0 ≡ 0 → is_top w (cond x (rest w st) (v ∷ st)) ≡ false →
        cond x (rest w st) (v ∷ st) ≡ cond y (v ∷ st) (below w st)
    go true ex y ey a t = absurd (omega arith)
    go false ex true ey a t = refl
    go false ex false ey a t = absurd (let p = ltb-false w v ex in let q = ltb-false v w ey in neq w v t (omega arith))

abbrev pub IsClosed : Step → Type 0
IsClosed deeper = ⊥
IsClosed (back n) = ⊥
IsClosed (wrong n) = Unit {0}

-- the stack after a line has the widths that are then open
pub stack_is : (w : ℕ) (ws : List ℕ) → (IsClosed (step_of w (opens ws)) → ⊥) → stack_after w (opens ws) ≡ opens (w ∷ ws)
stack_is w ws ok = go (is_top w (rest w (opens ws))) refl (above w (opens ws)) refl ok
  where
    go : (b : Bool) → is_top w (rest w (opens ws)) ≡ b → (n : ℕ) → above w (opens ws) ≡ n → (IsClosed (cond b (back n) (not_open n)) → ⊥) →
        cond b (rest w (opens ws)) (pushed n w (rest w (opens ws))) ≡ w ∷ below w (opens ws)
    go true t n a ok = top_below w (opens ws) (opens_descend ws) t
    go false t zero a ok = ap (λ (z : List ℕ). w ∷ z) (all_below w (opens ws) a t)
    go false t (suc n) a ok = absurd (ok tt)

-- how many are open behind a line
pub rest_count : (w : ℕ) (st : List ℕ) → length (rest w st) + above w st ≡ length st
rest_count w [] = omega arith
rest_count w (v ∷ st) = go (nat_lt w v) (rest_count w st)
  where
    go : (b : Bool) → length (rest w st) + above w st ≡ length st → length (cond b (rest w st) (v ∷ st)) + cond b (suc (above w st)) 0 ≡ length (v ∷ st)
    go true h = omega arith
    go false h = omega arith
