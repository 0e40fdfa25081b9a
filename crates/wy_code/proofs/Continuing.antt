-- More steps continue a run.
use Rattle.std.proofs.Common.{◌≡◌, ◌≤◌, ℕ, zero, suc, ◌+◌, List, [], ◌++◌, refl, sym, ap, ◌∙◌, subst, arith, append_assoc, append-nil}
use Rattle.wy_device.specs.declared.deed.Event.{Event}
use Rattle.wy_code.specs.declared.code.Code.{Code}
use Rattle.wy_code.specs.Machine.{State, Next, Go, Halt, step, begin_next}
use Rattle.wy_code.specs.Running.{Ran, and_then, steps, enter_first, store_at_first, machine}
use Rattle.wy_code.specs.Laws.{IsContinued, MoreStepsContinue, FewStepsAreTaken}

module _ (code : Code) (n : ℕ) where
  -- after the same step
  stepped : (x : Next) (r s : State → Ran) → ((t : State) → IsContinued (r t) (s t)) → IsContinued (and_then x r) (and_then x s)
  stepped (Go es t) r s k = record {
    spent = λ e. let c = (k t).spent e in (c.0, ap (λ (x : List Event). es ++ x) c.1 ∙ sym (append_assoc es (r t).events c.0));
    ends = λ ne. ap (λ (x : Ran). let y : Ran = record { end = x.end; events = es ++ x.events; taken = suc x.taken } in y) ((k t).ends ne);
  }
  stepped (Halt e es) r s k = record { spent = λ h. ([], sym (append-nil es)); ends = λ ne. refl }

  steps_continue : (k m : ℕ) (s : State) → IsContinued (steps code n k s) (steps code n (k + m) s)
  unfolding steps
  steps_continue zero m s = record { spent = λ e. ((steps code n (0 + m) s).events, refl); ends = λ ne. absurd (ne refl) }
  steps_continue (suc k) m s =
      subst (λ (j : ℕ). IsContinued (steps code n (suc k) s) (steps code n j s)) sum (stepped (step code n s) (steps code n k) (steps code n (k + m)) (λ t. steps_continue k m t))
    where
      sum : suc (k + m) ≡ suc k + m
      sum = omega arith

  entered : (x : Next) (r s : State → Ran) → ((t : State) → IsContinued (r t) (s t)) → IsContinued (enter_first x r) (enter_first x s)
  entered (Go es t) r s k = record {
    spent = λ e. let c = (k t).spent e in (c.0, ap (λ (x : List Event). es ++ x) c.1 ∙ sym (append_assoc es (r t).events c.0));
    ends = λ ne. ap (λ (x : Ran). let y : Ran = record { end = x.end; events = es ++ x.events; taken = x.taken } in y) ((k t).ends ne);
  }
  entered (Halt e es) r s k = record { spent = λ h. ([], sym (append-nil es)); ends = λ ne. refl }

  taken_at_most : (k : ℕ) (s : State) → (steps code n k s).taken ≤ k
  unfolding steps
  taken_at_most zero s = omega arith
  taken_at_most (suc k) s = of_next (step code n s) (λ t. taken_at_most k t)
    where
      of_next : (x : Next) → ((t : State) → (steps code n k t).taken ≤ k) → (and_then x (steps code n k)).taken ≤ suc k
      of_next (Go es t) h = let l = h t in omega arith
      of_next (Halt e es) h = omega arith

  first_at_most : (k : ℕ) (x : Next) → (enter_first x (steps code n k)).taken ≤ k
  first_at_most k (Go es t) = taken_at_most k t
  first_at_most k (Halt e es) = omega arith

pub more_steps_continue : (code : Code) → MoreStepsContinue code
unfolding machine
more_steps_continue code n k more tapes = entered code n (begin_next code [] (store_at_first code tapes)) (steps code n k) (steps code n (k + more)) (λ s. steps_continue code n k more s)

pub few_steps_are_taken : (code : Code) → FewStepsAreTaken code
unfolding machine
few_steps_are_taken code n k tapes = first_at_most code n k (begin_next code [] (store_at_first code tapes))
