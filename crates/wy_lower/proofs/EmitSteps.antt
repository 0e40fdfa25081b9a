-- Instructions that were added, step by step, are the code of a form.
use Rattle.std.proofs.Common.{◌≡◌, ℕ, suc, ◌+◌, List, [], ◌∷◌, ◌++◌, length, sym, ap, ap₂, ◌∙◌, arith, append_assoc, append-nil, length-append}
use Rattle.std.specs.Prelude.{slice_set}
use Rattle.std.proofs.Math.Seq.{set-append_seam}
use Rattle.wy_text.specs.declared.fault.Place.{Place}
use Rattle.wy_code.specs.declared.instruction.Instruction.{Instruction}
use Rattle.wy_code.specs.declared.instruction.Instruction.TheVariants.{Jump, JumpFalse}
use Rattle.wy_code.specs.declared.instruction.Placed.{Placed}
use Rattle.wy_lower.specs.Collected.{Collected}
use Rattle.wy_lower.specs.Listing.{placed, one, sides, followed}
use Rattle.wy_lower.specs.Emits.{Emits, Becomes, Finds}

-- two forms, one after the other
pub emits_then : (a b c : Collected Placed) (f g : ℕ → List Placed) → Emits a b f → Emits b c g → Emits a c (λ at. followed at (f at) g)
emits_then a b c f g x y = record {
  enough = λ whole. x.enough (y.enough whole);
  by = λ whole.
      let first = x.by (y.enough whole) in
      let here = length a.list in
      let long : length b.list ≡ here + length (f here) = ap length first ∙ length-append a.list (f here) in
      y.by whole ∙ ap₂ (λ l n. l ++ g n) first long ∙ append_assoc a.list (f here) (g (here + length (f here)));
}

-- a form with the same code
pub emits_as : (a b : Collected Placed) (f g : ℕ → List Placed) → ((at : ℕ) → f at ≡ g at) → Emits a b f → Emits a b g
emits_as a b f g same x = record {
  enough = x.enough;
  by = λ whole. x.by whole ∙ ap (λ l. a.list ++ l) (same (length a.list));
}

-- something is found, and an instruction with it is added
pub emits_found : {X : Type 0} (a b c : Collected Placed) (place : Place) (of : X → Instruction) (n m : X) → Finds a b n m → Emits b c (λ at. one place (of n)) → Emits a c (λ at. one place (of m))
emits_found a b c place of n m x y = record {
  enough = λ whole. x.enough (y.enough whole);
  by = λ whole.
      let found = y.enough whole in
      y.by whole ∙ ap (λ l. l ++ one place (of n)) (x.same found) ∙ ap (λ k. a.list ++ one place (of k)) (x.is found);
}

------------------------------------------------------------
-- Several forms in a loop

-- what is left, from here on, is the whole code
pub record Leaves (start now : Collected Placed) (left all : ℕ → List Placed) : Type 0 where
  pub after : (end : Collected Placed) → Emits now end left → Emits start end all

pub leaves_all : (start : Collected Placed) (all : ℕ → List Placed) → Leaves start start all all
leaves_all start all = record { after = λ end x. x }

-- one form more
pub leaves_less : (start now next : Collected Placed) (f left all : ℕ → List Placed) → Leaves start now (λ at. followed at (f at) left) all → Emits now next f → Leaves start next left all
leaves_less start now next f left all x y = record { after = λ end z. x.after end (emits_then now next end f left y z) }

-- the last one
pub leaves_last : (start now next : Collected Placed) (f all : ℕ → List Placed) → Leaves start now f all → Emits now next f → Emits start next all
leaves_last start now next f all x y = x.after next y

pub leaves_none : (start now : Collected Placed) (all : ℕ → List Placed) → Leaves start now (λ at. []) all → Emits start now all
leaves_none start now all x = x.after now (record { enough = λ whole. whole; by = λ whole. sym (append-nil now.list) })

pub leaves_as : (start now : Collected Placed) (f g all : ℕ → List Placed) → ((at : ℕ) → f at ≡ g at) → Leaves start now f all → Leaves start now g all
leaves_as start now f g all same x = record { after = λ end y. x.after end (emits_as now end g f (λ at. sym (same at)) y) }

------------------------------------------------------------
-- Two sides

-- the jump over the second side is added, and that to it is written
pub turns : (a b c d : Collected Placed) (place : Place) (test next n : ℕ) → Emits a b (λ at. one place (Jump 0)) → next ≡ length b.list → Finds b c n next →
    Becomes c d (slice_set c.list test (placed place (JumpFalse n))) → Becomes a d (slice_set (a.list ++ one place (Jump 0)) test (placed place (JumpFalse (length a.list + 1))))
turns a b c d place test next n x long y z = record {
  enough = λ whole. x.enough (y.enough (z.enough whole));
  is = λ whole.
      let found = z.enough whole in
      let added = x.by (y.enough found) in
      let after = y.is found ∙ long ∙ ap length added ∙ length-append a.list (one place (Jump 0)) in
      z.is whole ∙ ap₂ (λ l k. slice_set l test (placed place (JumpFalse k))) (y.same found ∙ added) after;
}

-- the jump over the second side is written
pub ends : (a b c : Collected Placed) (place : Place) (first next n : ℕ) → next ≡ length a.list → Finds a b n next →
    Becomes b c (slice_set b.list first (placed place (Jump n))) → Becomes a c (slice_set a.list first (placed place (Jump (length a.list))))
ends a b c place first next n long y z = record {
  enough = λ whole. y.enough (z.enough whole);
  is = λ whole.
      let found = z.enough whole in
      z.is whole ∙ ap₂ (λ l k. slice_set l first (placed place (Jump k))) (y.same found) (y.is found ∙ long);
}

-- the jump to the second side, the first side, the jump over the second, and the second
sides_are : (place : Place) (c1 c2 c3 c4 c5 c6 : List Placed) (n m : ℕ) (first second : ℕ → List Placed) →
    n ≡ length c1 → c2 ≡ c1 ++ one place (JumpFalse 0) → c3 ≡ c2 ++ first (length c2) →
    m ≡ length c3 → c4 ≡ slice_set (c3 ++ one place (Jump 0)) n (placed place (JumpFalse (length c3 + 1))) → c5 ≡ c4 ++ second (length c4) →
    c6 ≡ slice_set c5 m (placed place (Jump (length c5))) → c6 ≡ c1 ++ sides place (length c1) first second
sides_are place c1 c2 c3 c4 c5 c6 n m first second n1 e2 e3 n3 e4 e5 e6 =
    let at : ℕ = length c1 in
    let long2 : length c2 ≡ at + 1 = ap length e2 ∙ length-append c1 (one place (JumpFalse 0)) in
    let a = first (at + 1) in
    let side : c3 ≡ c1 ++ (placed place (JumpFalse 0) ∷ a) =
    e3 ∙ ap₂ (λ l k. l ++ first k) e2 long2 ∙ append_assoc c1 (one place (JumpFalse 0)) a in
    let x = placed place (JumpFalse 0) in
    let y = placed place (Jump 0) in
    let long3 : length c3 ≡ at + 1 + length a = ap length side ∙ length-append c1 (x ∷ a) ∙ (let z : length c1 + suc (length a) ≡ at + 1 + length a = omega arith in z) in
    let otherwise : ℕ = at + 1 + length a + 1 in
    let i = placed place (JumpFalse otherwise) in
    let turned : c4 ≡ c1 ++ (i ∷ (a ++ y ∷ [])) =
    e4 ∙ ap₂ (λ l k. slice_set (l ++ y ∷ []) n (placed place (JumpFalse (k + 1)))) side long3
    ∙ ap₂ (λ l k. slice_set l k i) (append_assoc c1 (x ∷ a) (y ∷ [])) n1 ∙ set-append_seam c1 x (a ++ y ∷ []) i in
    let long4 : length c4 ≡ otherwise =
    ap length turned ∙ length-append c1 (i ∷ (a ++ y ∷ [])) ∙ ap (λ k. length c1 + suc k) (length-append a (y ∷ []))
    ∙ (let z : length c1 + suc (length a + 1) ≡ otherwise = omega arith in z) in
    let b = second otherwise in
    let front = c1 ++ i ∷ a in
    let ended : c5 ≡ front ++ (y ∷ b) =
    e5 ∙ ap₂ (λ l k. l ++ second k) turned long4 ∙ ap (λ l. l ++ b) (sym (append_assoc c1 (i ∷ a) (y ∷ []))) ∙ append_assoc front (y ∷ []) b in
    let long5 : length c5 ≡ otherwise + length b =
    ap length e5 ∙ length-append c4 (second (length c4)) ∙ ap₂ (λ k l. k + length (second l)) long4 long4 in
    let here : m ≡ length front = n3 ∙ long3 ∙ sym (length-append c1 (i ∷ a) ∙ (let z : length c1 + suc (length a) ≡ at + 1 + length a = omega arith in z)) in
    let j = placed place (Jump (otherwise + length b)) in
    e6 ∙ ap₂ (λ l k. slice_set l m (placed place (Jump k))) ended long5 ∙ ap (λ k. slice_set (front ++ (y ∷ b)) k j) here
    ∙ set-append_seam front y b j ∙ append_assoc c1 (i ∷ a) (j ∷ b)

pub emits_sides : (place : Place) (c1 c2 c3 c4 c5 c6 : Collected Placed) (n m : ℕ) (first second : ℕ → List Placed) →
    n ≡ length c1.list → Emits c1 c2 (λ at. one place (JumpFalse 0)) → Emits c2 c3 first →
    m ≡ length c3.list → Becomes c3 c4 (slice_set (c3.list ++ one place (Jump 0)) n (placed place (JumpFalse (length c3.list + 1)))) → Emits c4 c5 second →
    Becomes c5 c6 (slice_set c5.list m (placed place (Jump (length c5.list)))) → Emits c1 c6 (λ at. sides place at first second)
emits_sides place c1 c2 c3 c4 c5 c6 n m first second n1 e2 e3 n3 e4 e5 e6 = record {
  enough = λ whole. e2.enough (e3.enough (e4.enough (e5.enough (e6.enough whole))));
  by = λ whole.
      let w5 = e6.enough whole in
      let w4 = e5.enough w5 in
      let w3 = e4.enough w4 in
      let w2 = e3.enough w3 in
      sides_are place c1.list c2.list c3.list c4.list c5.list c6.list n m first second n1 (e2.by w2) (e3.by w3) n3 (e4.is w4) (e5.by w5) (e6.is whole);
}
