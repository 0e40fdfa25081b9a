-- The room that `load` makes for bodies.
use Rattle.std.proofs.Common.{◌≡◌, ℕ, zero, suc, ◌+◌, ◌<◌, ◌≤◌, true, List, [], ◌∷◌, Option, Some, None, refl, sym, subst, nat_lt, arith}
use Rattle.std.specs.Prelude.{slice_get, max}
use Rattle.std.proofs.lemmas.Option.{same_Some}
use Rattle.wy_code.specs.declared.code.Body.{Body}
use Rattle.wy_code.specs.declared.code.Code.{Code}
use Rattle.wy_code.specs.Machine.{has_room}
use Rattle.wy_code.specs.Stores.{Thing}
use Rattle.wy_machine.specs.Loading.{words_of_body, most_words, IsLoaded}
use Rattle.wy_machine.specs.Stacks.{words_in}
use Rattle.wy_machine.specs.OpenBodies.{StackState}
use Rattle.wy_machine.specs.States.{body_or_none, body_at, frame_of}
use Rattle.wy_machine.specs.declared.stack.Limits.{Limits}

-- each body's words are among the most
most_covers : (bs : List Body) (i : ℕ) (b : Body) → slice_get bs i ≡ Some b → words_of_body b ≤ most_words bs
most_covers [] i b e = cc
most_covers (x ∷ bs) zero b e =
    let here : words_of_body x ≤ most_words (x ∷ bs) = grind arith in
    subst (λ b. words_of_body b ≤ most_words (x ∷ bs)) (same_Some x b e) here
most_covers (x ∷ bs) (suc i) b e =
    let later = most_covers bs i b e in
    let more : most_words bs ≤ most_words (x ∷ bs) = grind arith in
    omega (arith, later, more)

-- there is room for at least one word
pub some_words : (bs : List Body) → 1 ≤ most_words bs
some_words [] = omega arith
some_words (b ∷ bs) = let some = some_words bs in grind arith

pub no_more : (n : ℕ) → 1 ≤ n → max 1 n ≡ n
no_more n h = grind arith

module _ (code : Code) (limits : Limits) (things : List Thing) (loaded : IsLoaded code limits things) where
  -- a body has room from its first instruction on
  pub room_at_first : (i : ℕ) (b : Body) → slice_get code.bodies i ≡ Some b → 1 + b.parameters + b.vals ≤ limits.words
  room_at_first i b e =
      let covered = most_covers code.bodies i b e in
      let first : 1 + b.parameters + b.vals ≤ words_of_body b = grind arith in
      omega (arith, covered, first, loaded.room)

  slots_fit : (o : Option Body) (i : ℕ) → slice_get code.bodies i ≡ o → (body_or_none o).slots ≤ limits.words
  slots_fit None i e = omega arith
  slots_fit (Some b) i e =
      let covered = most_covers code.bodies i b e in
      let all : b.slots ≤ words_of_body b = grind arith in
      omega (arith, covered, all, loaded.room)

-- where the code has room for one more operand, so has the stack
pub room_left : (code : Code) (s : StackState) (things : List Thing) → IsLoaded code s.limits things → has_room (frame_of code s.running) ≡ true → words_in s < s.limits.words
room_left code s things loaded e =
    let fit = slots_fit code s.limits things loaded (slice_get code.bodies s.running.body) s.running.body refl in
    let lt = is_below (words_in s) (body_at code s.running.body).slots e in
    omega (arith, fit, lt)
  where
    is_below : (m n : ℕ) → nat_lt m n ≡ true → m < n
    is_below m n e = grind arith

-- what is loaded stays so while the room and the instances' first objects do
pub still_loaded : (code : Code) (limits limits' : Limits) (things things' : List Thing) → limits' ≡ limits → things' ≡ things → IsLoaded code limits things → IsLoaded code limits' things'
still_loaded code limits limits' things things' e f h = subst (λ l. IsLoaded code l things') (sym e) (subst (IsLoaded code limits) (sym f) h)
