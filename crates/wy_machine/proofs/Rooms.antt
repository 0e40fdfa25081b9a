-- What is reserved is enough for the bodies that are open.
use Rattle.std.proofs.Common.{◌≡◌, ℕ, suc, ◌+◌, ◌-◌, ◌*◌, ◌<◌, ◌≤◌, List, [], ◌∷◌, length, take, drop, reverse, arith}
use Rattle.std.proofs.lemmas.List.{length-take, length-drop, length-reverse}
use Rattle.std.proofs.lemmas.Nat.{mul-le}
use Rattle.wy_code.specs.Stores.{Word}
use Rattle.wy_machine.specs.Stacks.{AreWaiting, IsStacked}
use Rattle.wy_machine.specs.declared.stack.Frame.{Frame}
use Rattle.wy_machine.specs.declared.stack.Limits.{Limits}

-- how many words the body that runs has
pub words_above : (f : Frame) (xs : List Word) → f.base < f.top → f.top ≤ length xs → length (take (f.top - f.base) (drop f.base xs)) + length (reverse (drop f.top xs)) ≡ length xs - f.base
words_above f xs low top = omega (arith, length-take (f.top - f.base) (drop f.base xs), length-drop f.base xs, length-reverse (drop f.top xs), length-drop f.top xs)

-- the bodies that wait have no more words than each may have
waiting_fit : (words : ℕ) (fs : List Frame) (size : ℕ) → AreWaiting words fs size → size ≤ words * length fs
waiting_fit words [] size h = omega (arith, h)
waiting_fit words (f ∷ fs) size h =
    let below = waiting_fit words fs f.base h.2 in
    let more : words * suc (length fs) ≡ words + words * length fs = grind arith in
    omega (arith, h.3, below, more)

-- there is room for one body above those that wait
pub room_above : (words depth size : ℕ) (fs : List Frame) → AreWaiting words fs size → length fs ≤ depth → size + words ≤ words * (depth + 1)
room_above words depth size fs h few =
    let below = waiting_fit words fs size h in
    let all : words * length fs ≤ words * depth = mul-le words (length fs) words depth (omega arith) few in
    let more : words * (depth + 1) ≡ words * depth + words = grind arith in
    omega (arith, below, all, more)

module _ (limits : Limits) (f : Frame) (fs : List Frame) (size words frames : ℕ) (h : IsStacked limits f fs size words frames) where
  -- the body that calls waits, with fewer words than before
  pub waits : (arguments : ℕ) → arguments < size - f.top → AreWaiting limits.words (f ∷ fs) (size - (arguments + 1))
  waits arguments few =
      let above : f.top ≤ size - (arguments + 1) = omega (arith, few) in
      let less : size - (arguments + 1) < f.base + limits.words = omega (arith, few, h.0, h.1, h.3) in
      (h.0, above, h.2, less)

  -- there is room for the body that it calls
  pub room_to_call : (arguments : ℕ) → arguments < size - f.top → length fs < limits.depth → size - (arguments + 1) + limits.words ≤ words
  room_to_call arguments few shallow =
      let deep : length (f ∷ fs) ≤ limits.depth = omega (arith, shallow) in
      let room = room_above limits.words limits.depth (size - (arguments + 1)) (f ∷ fs) (waits arguments few) deep in
      omega (arith, room, h.5)
