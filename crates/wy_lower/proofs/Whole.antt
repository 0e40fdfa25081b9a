-- A whole run of the code does what the program means, and a run that is cut short the first of it.
use Rattle.std.proofs.Common.{◌≡◌, ◌≢◌, ◌⊎◌, inl, inr, ℕ, ◌+◌, ◌-◌, ◌<◌, ◌≤◌, refl, sym, ap, ◌∙◌, arith, ⊎_elim}
use Rattle.std.proofs.lemmas.Bool.{cases_lt}
use Rattle.wy_types.specs.Program.{Program}
use Rattle.wy_device.specs.RunEnds.{RunEnd, Ended, Trap, TooDeep, DeviceFailed, Waiting, Spent, Wrong}
use Rattle.wy_code.specs.Laws.{IsContinued}
use Rattle.wy_code.specs.Running.{Ran, machine, NeverStuck}
use Rattle.wy_code.proofs.Continuing.{more_steps_continue, few_steps_are_taken}
use Rattle.wy_code.proofs.Spending.{spent_takes_all}
use Rattle.wy_meaning.specs.Start.{meaning}
use Rattle.wy_meaning.specs.Starts.{Starts}
use Rattle.wy_lower.specs.Correct.{Compiles, NeverWrong}
use Rattle.wy_lower.specs.Lowerable.{Lowerable}
use Rattle.wy_lower.specs.Lowering.{lowered}
use Rattle.wy_lower.proofs.Beginning.{runs_meant}

is_spent : (e : RunEnd) → (e ≡ Spent) ⊎ (e ≢ Spent)
is_spent Spent = inl refl
is_spent Ended = inr (λ e. cc)
is_spent (Trap kind place) = inr (λ e. cc)
is_spent TooDeep = inr (λ e. cc)
is_spent (DeviceFailed grant op) = inr (λ e. cc)
is_spent Waiting = inr (λ e. cc)
is_spent Wrong = inr (λ e. cc)

pub compiles : (p : Program) (s : Starts) → Lowerable p s → Compiles p s (lowered p s)
compiles p s ok n k tapes fair = record {
  whole = λ le.
      let z : k ≡ (meaning n p s tapes).steps + (k - (meaning n p s tapes).steps) = omega arith in
      ap (λ (j : ℕ). machine (lowered p s) n j tapes) z ∙ runs_meant p s ok n tapes fair (k - (meaning n p s tapes).steps);
  cut = λ lt.
      let more : ℕ = (meaning n p s tapes).steps - k in
      let z : (meaning n p s tapes).steps + 0 ≡ k + more = omega arith in
      let all : machine (lowered p s) n
      (k + more) tapes ≡ record { end = (meaning n p s tapes).end; events = (meaning n p s tapes).events; taken = (meaning n p s tapes).steps } =
      ap (λ (j : ℕ). machine (lowered p s) n j tapes) (sym z) ∙ runs_meant p s ok n tapes fair 0 in
      let c : IsContinued (machine (lowered p s) n k tapes) (machine (lowered p s) n (k + more) tapes) = more_steps_continue
      (lowered p s) n k more tapes in
      let few : (machine (lowered p s) n k tapes).taken ≤ k = few_steps_are_taken (lowered p s) n k tapes in
      let spent : (machine (lowered p s) n k tapes).end ≡ Spent = ⊎_elim
      (λ (e : (machine (lowered p s) n k tapes).end ≡ Spent). e)
      (λ (ne : (machine (lowered p s) n k tapes).end ≢ Spent).
      let y : (meaning n p s tapes).steps ≡ (machine (lowered p s) n k tapes).taken = ap (λ (r : Ran). r.taken) (sym all)
      ∙ ap (λ (r : Ran). r.taken) (c.ends ne) in
      absurd (omega arith))
      (is_spent (machine (lowered p s) n k tapes).end) in
      let first = c.spent spent in
      (spent, spent_takes_all (lowered p s) n k tapes spent, (first.0, ap (λ (r : Ran). r.events) (sym all) ∙ first.1));
}

spent_is_fair : (e : RunEnd) → e ≡ Spent → e ≢ Wrong
spent_is_fair e h w = cc

pub never_stuck : (p : Program) (s : Starts) → Lowerable p s → NeverWrong p s → NeverStuck (lowered p s)
never_stuck p s ok fair n k tapes = ⊎_elim
    (λ (lt : k < (meaning n p s tapes).steps). spent_is_fair _ ((compiles p s ok n k tapes (fair n tapes)).cut lt).0)
    (λ (le : (meaning n p s tapes).steps ≤ k). λ e. fair n tapes
    (sym (ap (λ (r : Ran). r.end) ((compiles p s ok n k tapes (fair n tapes)).whole le)) ∙ e))
    (cases_lt k (meaning n p s tapes).steps)
