-- The instruction that comes next.
use Rattle.std.proofs.Common.{◌≡◌, ℕ, ◌+◌, ◌<◌, List, ◌∷◌, length, drop, Some, ap, ◌∙◌, ⊎_elim}
use Rattle.std.specs.Prelude.{slice_get}
use Rattle.std.proofs.lemmas.Bool.{cases_lt}
use Rattle.std.proofs.lemmas.List.{drop_all, drop_more}
use Rattle.std.proofs.lemmas.Option.{slice_get_within, get_or_from_slice_get}
use Rattle.wy_device.specs.Tapes.{Tapes}
use Rattle.wy_code.specs.declared.code.Code.{Code}
use Rattle.wy_code.specs.declared.instruction.Placed.{Placed}
use Rattle.wy_code.specs.Machine.{step, act_first}
use Rattle.wy_machine.specs.Stacks.{at_address}
use Rattle.wy_machine.specs.OpenBodies.{StackState}
use Rattle.wy_machine.specs.States.{body_at, state_of}
use Rattle.wy_machine.specs.Steps.{acting, stepping, IsNotStuck}
use Rattle.wy_machine.specs.StoreState.{StoreState}
use Rattle.wy_machine.specs.Wanting.{takes_memory, first_takes, next_takes}
use Rattle.wy_machine.proofs.Acts.{no_tapes}

module _ (code : Code) (depth : ℕ) (s : StackState) (w : StoreState) where
  abbrev instructions : List Placed
  instructions = (body_at code s.running.body).instructions

  pub next_there : IsNotStuck (stepping code depth s w) → s.running.at < length instructions
  unfolding step
  next_there h = ⊎_elim
      (λ lt. lt)
      (λ le. absurd (h.holds no_tapes (ap (λ l. act_first code depth l (state_of code s w no_tapes)) (drop_all s.running.at instructions le))))
      (cases_lt s.running.at (length instructions))

  next_is : (placed : Placed) → slice_get instructions s.running.at ≡ Some placed → drop s.running.at instructions ≡ placed ∷ drop (s.running.at + 1) instructions
  next_is placed e =
      drop_more instructions s.running.at placed (slice_get_within instructions s.running.at placed e)
      ∙ ap (λ x. x ∷ drop (s.running.at + 1) instructions) (get_or_from_slice_get instructions s.running.at placed placed e)

  -- a step does the instruction that was fetched
  pub fetched : (placed : Placed) → slice_get instructions s.running.at ≡ Some placed → (t : Tapes) → stepping code depth s w t ≡ acting code depth placed.place (at_address (s.running.at + 1) s) w placed.instruction t
  unfolding step
  fetched placed e t =
      ap (λ l. act_first code depth l (state_of code s w t)) (next_is placed e)

  -- and takes memory where that does
  pub takes_as : (placed : Placed) → slice_get instructions s.running.at ≡ Some placed → next_takes code s ≡ takes_memory placed.instruction s.running.operands
  takes_as placed e = ap (λ l. first_takes l s.running.operands) (next_is placed e)
