-- Slots and operands among the words of all open bodies.
use Rattle.std.proofs.Common.{◌≡◌, ℕ, zero, suc, ◌+◌, ◌-◌, ◌<◌, ◌≤◌, List, [], ◌∷◌, ◌++◌, length, take, drop, set, get_or, reverse, replicate, Some, refl, sym, ap, ap₂, ◌∙◌, arith}
use Rattle.std.proofs.lemmas.List.{length-append, length-take, length-drop, length-reverse, length-replicate, reverse-append, reverse-reverse, take-append-drop, take-take, take_all, take-append-le, take-set-le, drop_at, drop_all, drop-drop, drop-take, drop-append-le, drop-set-lt, drop-set-add, set_split}
use Rattle.std.proofs.lemmas.Slice.{between_is}
use Rattle.wy_code.specs.Machine.{first_of}
use Rattle.wy_code.specs.Stores.{Word, Nothing}
use Rattle.wy_machine.specs.Stacks.{open_body, open_bodies, with_operands, entered, left_to}
use Rattle.wy_machine.specs.OpenBodies.{StackState}
use Rattle.wy_machine.specs.declared.stack.Frame.{Frame}
use Rattle.wy_machine.specs.declared.stack.Limits.{Limits}

------------------------------------------------------------
-- Lists

reverse-take : (n : ℕ) (xs : List Word) → reverse (take n xs) ≡ drop (length xs - n) (reverse xs)
reverse-take n xs =
    let parts : reverse xs ≡ reverse (drop n xs) ++ reverse (take n xs) = ap reverse (sym (take-append-drop n xs)) ∙ reverse-append (take n xs) (drop n xs) in
    let size : length (reverse (drop n xs)) ≡ length xs - n = length-reverse (drop n xs) ∙ length-drop n xs in
    sym (ap (drop (length xs - n)) parts ∙ drop_at (reverse (drop n xs)) (reverse (take n xs)) (length xs - n) size)

take-set : (n : ℕ) (xs : List Word) (i : ℕ) (w : Word) → take n (set xs i w) ≡ set (take n xs) i w
take-set zero xs i w = refl
take-set (suc n) [] i w = refl
take-set (suc n) (x ∷ xs) zero w = refl
take-set (suc n) (x ∷ xs) (suc i) w = ap (λ l. x ∷ l) (take-set n xs i w)

-- the last of a list is replaced
pub set_last : {X : Type 0} (xs : List X) (n : ℕ) (w : X) → length xs ≡ n + 1 → set xs n w ≡ take n xs ++ w ∷ []
set_last xs n w e =
    let lt : n < length xs = omega arith in
    let all : length xs ≤ suc n = omega arith in
    set_split xs n w lt ∙ ap (λ l. take n xs ++ w ∷ l) (drop_all (suc n) xs all)

------------------------------------------------------------
-- The words of one body

same_below : (n m : ℕ) (xs ys : List Word) → n ≤ m → take m xs ≡ take m ys → take n xs ≡ take n ys
same_below n m xs ys le e = sym (take-take n m xs le) ∙ ap (take n) e ∙ take-take n m ys le

same_slots : (b t : ℕ) (xs ys : List Word) → take t xs ≡ take t ys → take (t - b) (drop b xs) ≡ take (t - b) (drop b ys)
same_slots b t xs ys e = between_is xs b t ∙ ap (drop b) e ∙ sym (between_is ys b t)

operands_pushed : (t : ℕ) (xs : List Word) (w : Word) → t ≤ length xs → reverse (drop t (xs ++ w ∷ [])) ≡ w ∷ reverse (drop t xs)
operands_pushed t xs w le = ap reverse (drop-append-le t xs (w ∷ []) le) ∙ reverse-append (drop t xs) (w ∷ [])

operands_dropped : (t n k : ℕ) (xs : List Word) → t + n + k ≡ length xs → reverse (drop t (take (t + n) xs)) ≡ drop k (reverse (drop t xs))
operands_dropped t n k xs e =
    let size : length (drop t xs) - n ≡ k = omega (arith, length-drop t xs) in
    ap reverse (drop-take t n xs) ∙ reverse-take n (drop t xs) ∙ ap (λ k. drop k (reverse (drop t xs))) size

-- the topmost operands, in the order in which they were pushed
pub arguments_are : (t k n : ℕ) (xs : List Word) → t ≤ length xs → k ≤ length (reverse (drop t xs)) → n ≡ length xs - k → drop n xs ≡ reverse (take k (reverse (drop t xs)))
arguments_are t k n xs top few e =
    let size : length (reverse (drop t xs)) - k ≡ n - t = omega (arith, length-reverse (drop t xs), length-drop t xs) in
    let at : t + (n - t) ≡ n = omega (arith, length-reverse (drop t xs), length-drop t xs) in
    sym (reverse-take k (reverse (drop t xs))
    ∙ ap₂ drop size (reverse-reverse (drop t xs))
    ∙ drop-drop (n - t) t xs
    ∙ ap (λ n. drop n xs) at)

-- the first of the words from a place on
pub first_at : (b n : ℕ) (xs : List Word) (d : Word) → 0 < n → b < length xs → first_of (take n (drop b xs)) ≡ get_or xs b d
first_at zero zero xs d some lt = absurd (omega (arith, some))
first_at zero (suc n) [] d some lt = absurd (omega (arith, lt))
first_at zero (suc n) (x ∷ xs) d some lt = refl
first_at (suc b) n [] d some lt = absurd (omega (arith, lt))
first_at (suc b) n (x ∷ xs) d some lt = let less : b < length xs = omega (arith, lt) in first_at b n xs d some less

pub length-open_bodies : (fs : List Frame) (words : List Word) → length (open_bodies fs words) ≡ length fs
length-open_bodies [] words = refl
length-open_bodies (f ∷ fs) words = ap suc (length-open_bodies fs (take f.base words))

-- the words that are left are those below, and one more
pub cut_back : (b : ℕ) (xs : List Word) (w : Word) → b < length xs → set (take (b + 1) xs) b w ≡ take b xs ++ w ∷ []
cut_back b xs w lt =
    let size : length (take (b + 1) xs) ≡ b + 1 = omega (arith, length-take (b + 1) xs) in
    let le : b ≤ b + 1 = omega arith in
    set_last (take (b + 1) xs) b w size ∙ ap (λ l. l ++ w ∷ []) (take-take b (b + 1) xs le)

module _ (limits : Limits) where
  abbrev pub stack_of : Frame → List Frame → List Word → StackState
  stack_of f fs words = record { running = open_body f words; callers = open_bodies fs (take f.base words); limits = limits }

  abbrev pub stack_with : Frame → List Frame → List Word → List Word → List Word → StackState
  stack_with f fs slots operands below = record {
    running = record { instance = f.instance; body = f.body; at = f.at; slots = slots; operands = operands };
    callers = open_bodies fs below;
    limits = limits;
  }

  -- where the words below the operands stay, only the operands change
  kept : (f : Frame) (fs : List Frame) (xs ys : List Word) → f.base ≤ f.top → take f.top ys ≡ take f.top xs → stack_of f fs ys ≡ with_operands (reverse (drop f.top ys)) (stack_of f fs xs)
  kept f fs xs ys le e =
      ap₂ (λ slots below. stack_with f fs slots (reverse (drop f.top ys)) below) (same_slots f.base f.top ys xs e) (same_below f.base f.top ys xs le e)

  ------------------------------------------------------------
  -- Operands

  pub dropped : (f : Frame) (fs : List Frame) (k n : ℕ) (xs : List Word) → f.base ≤ f.top → f.top ≤ length xs → k ≤ length (reverse (drop f.top xs)) → n ≡ length xs - k → stack_of f fs (take n xs) ≡ with_operands (drop k (reverse (drop f.top xs))) (stack_of f fs xs)
  dropped f fs k n xs le top few e =
      let many : f.top + (n - f.top) + k ≡ length xs = omega (arith, length-reverse (drop f.top xs), length-drop f.top xs) in
      let above : f.top ≤ n = omega (arith, length-reverse (drop f.top xs), length-drop f.top xs) in
      let same : n ≡ f.top + (n - f.top) = omega arith in
      kept f fs xs (take n xs) le (take-take f.top n xs above)
      ∙ ap (λ ops. with_operands ops (stack_of f fs xs)) (ap (λ n. reverse (drop f.top (take n xs))) same ∙ operands_dropped f.top (n - f.top) k xs many)

  pub pushed_on : (f : Frame) (fs : List Frame) (xs : List Word) (w : Word) → f.base ≤ f.top → f.top ≤ length xs → stack_of f fs (xs ++ w ∷ []) ≡ with_operands (w ∷ reverse (drop f.top xs)) (stack_of f fs xs)
  pushed_on f fs xs w le top =
      kept f fs xs (xs ++ w ∷ []) le (take-append-le f.top xs (w ∷ []) top)
      ∙ ap (λ ops. with_operands ops (stack_of f fs xs)) (operands_pushed f.top xs w top)

  -- the topmost operand is replaced
  pub replaced : (f : Frame) (fs : List Frame) (xs : List Word) (w : Word) (n : ℕ) → f.base ≤ f.top → f.top ≤ length xs → 0 < length (reverse (drop f.top xs)) → n ≡ length xs - 1 → stack_of f fs (set xs n w) ≡ with_operands (w ∷ drop 1 (reverse (drop f.top xs))) (stack_of f fs xs)
  replaced f fs xs w n le top some e =
      let few : 1 ≤ length (reverse (drop f.top xs)) = omega arith in
      let many : length xs ≡ n + 1 = omega (arith, length-reverse (drop f.top xs), length-drop f.top xs) in
      let above : f.top ≤ length (take n xs) = omega (arith, length-take n xs, length-reverse (drop f.top xs), length-drop f.top xs) in
      ap (stack_of f fs) (set_last xs n w many)
      ∙ pushed_on f fs (take n xs) w le above
      ∙ ap (λ (s : StackState). with_operands (w ∷ s.running.operands) s) (dropped f fs 1 n xs le top few e)

  ------------------------------------------------------------
  -- Slots

  pub slot_set : (f : Frame) (fs : List Frame) (xs : List Word) (i : ℕ) (w : Word) → f.base ≤ f.top → f.top ≤ length xs → i < length (take (f.top - f.base) (drop f.base xs)) → stack_of f fs (set xs (f.base + i) w) ≡ stack_with f fs (set (take (f.top - f.base) (drop f.base xs)) i w) (reverse (drop f.top xs)) (take f.base xs)
  slot_set f fs xs i w le top within =
      let low : f.base + i < f.top = omega (arith, length-take (f.top - f.base) (drop f.base xs)) in
      let base : f.base ≤ f.base + i = omega arith in
      ap (λ slots. stack_with f fs slots (reverse (drop f.top (set xs (f.base + i) w))) (take f.base (set xs (f.base + i) w)))
      (ap (take (f.top - f.base)) (drop-set-add f.base xs i w) ∙ take-set (f.top - f.base) (drop f.base xs) i w)
      ∙ ap₂ (λ operands below. stack_with f fs (set (take (f.top - f.base) (drop f.base xs)) i w) (reverse operands) below)
      (drop-set-lt f.top xs (f.base + i) w low) (take-set-le f.base xs (f.base + i) w base)

  ------------------------------------------------------------
  -- Calls

  pub left_is : (f : Frame) (fs : List Frame) (xs : List Word) (w : Word) → f.base ≤ f.top → f.top ≤ length xs → left_to w limits (open_bodies (f ∷ fs) xs) ≡ Some (stack_of f fs (xs ++ w ∷ []))
  left_is f fs xs w le top = ap Some (sym (pushed_on f fs xs w le top))

  called : ℕ → ℕ → List Word → List Word → StackState → StackState
  called instance body slots operands s = record {
    running = record { instance = instance; body = body; at = 0; slots = slots; operands = operands };
    callers = s.running ∷ s.callers;
    limits = s.limits;
  }

  pub entered_is : (f : Frame) (fs : List Frame) (xs : List Word) (instance body k vals base top : ℕ) → f.base ≤ f.top → f.top ≤ length xs → k < length (reverse (drop f.top xs)) → base ≡ length xs - (k + 1) → top ≡ length xs + vals →
      stack_of (record { instance = instance; body = body; at = 0; base = base; top = top }) (f ∷ fs) (xs ++ replicate vals Nothing) ≡ entered instance body k vals (stack_of f fs xs)
  unfolding called
  entered_is f fs xs instance body k vals base top le within few eb et =
      let units = replicate vals Nothing in
      let lu : length units ≡ vals = length-replicate vals Nothing in
      let lb : base ≤ length xs = omega arith in
      let many : k + 1 ≤ length (reverse (drop f.top xs)) = omega arith in
      let size : length (drop base xs ++ units) ≤ top - base = omega (arith, length-append (drop base xs) units, length-drop base xs, length-reverse (drop f.top xs), length-drop f.top xs) in
      let all : length (xs ++ units) ≤ top = omega (arith, length-append xs units) in
      let slots : take (top - base) (drop base (xs ++ units)) ≡ reverse (take (k + 1) (reverse (drop f.top xs))) ++ units =
      ap (take (top - base)) (drop-append-le base xs units lb) ∙ take_all (top - base) (drop base xs ++ units) size ∙ ap (λ l. l ++ units) (arguments_are f.top (k + 1) base xs within many eb) in
      let operands : reverse (drop top (xs ++ units)) ≡ [] = ap reverse (drop_all top (xs ++ units) all) in
      ap₂ (λ slots operands. called instance body slots operands (stack_of f fs (take base (xs ++ units)))) slots operands
      ∙ ap (called instance body (reverse (take (k + 1) (reverse (drop f.top xs))) ++ units) []) (ap (stack_of f fs) (take-append-le base xs units lb) ∙ dropped f fs (k + 1) base xs le within many eb)
