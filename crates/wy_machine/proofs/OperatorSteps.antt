-- What an operator does.
use Rattle.std.proofs.Common.{◌≡◌, ℕ, ◌<◌, ◌≤◌, ℤ, Bool, true, false, List, [], ◌∷◌, ◌++◌, length, take, drop, reverse, map, Ok, Err, refl, sym, ap, ap₂, ◌∙◌, nat_lt, append_assoc, arith}
use Rattle.std.specs.Prelude.{if◌then◌else◌}
use Rattle.std.proofs.lemmas.List.{length_push}
use Rattle.wy_text.specs.declared.fault.Place.{Place}
use Rattle.wy_device.specs.Devices.{DevicesState}
use Rattle.wy_device.specs.Operators as meant
use Rattle.wy_device.specs.Operators.{GivesNumber, GivesTruth, Builds, Traps, Misfits, operate}
use Rattle.wy_device.specs.RunEnds as ends
use Rattle.wy_device.specs.Tapes.{Tapes}
use Rattle.wy_device.specs.Traps.{most_texts, Crowded as TrapCrowded}
use Rattle.wy_code.specs.declared.code.Code.{Code}
use Rattle.wy_code.specs.declared.instruction.Operator.{Operator}
use Rattle.wy_code.specs.declared.instruction.Instruction.TheVariants.{Op as Operate}
use Rattle.wy_code.specs.Operations.{operator_meant, operand_count, operated, computed}
use Rattle.wy_code.specs.Stores.{Word, Int, Truth, Nothing, Text, Object, Grant, Store, operand, ended, replied, with_text}
use Rattle.wy_code.specs.Machine.{Next, push_reply}
use Rattle.wy_machine.specs.declared.run_end.RunEnd.TheVariants.{Trap}
use Rattle.wy_machine.specs.declared.run_end.TrapKind.{TrapKind}
use Rattle.wy_machine.specs.declared.run_end.TrapKind.TheVariants.{Crowded}
use Rattle.wy_machine.specs.Computing.{IsGiven}
use Rattle.wy_machine.specs.Stacks.{pushed, with_operands}
use Rattle.wy_machine.specs.OpenBodies.{StackState}
use Rattle.wy_machine.specs.States.{store_of, state_of}
use Rattle.wy_machine.specs.Steps.{acting, IsNotStuck, IsStep}
use Rattle.wy_machine.specs.StoreState.{StoreState}
use Rattle.wy_machine.specs.TrapKinds.{trap_meant}
use Rattle.wy_machine.proofs.Acts.{no_tapes, operands_there, operands_taken, pushes}
use Rattle.wy_machine.proofs.Quiet.{traps}

pub below : (m n : ℕ) → m < n → nat_lt m n ≡ true
below m n h = grind arith

pub not_below : (m n : ℕ) → n ≤ m → nat_lt m n ≡ false
not_below m n h = grind arith

abbrev pub with_built : List ℕ → StoreState → StoreState
with_built bytes w = record w { texts = w.texts ++ bytes ∷ [] }

-- one more text that was built
pub text_added : (code : Code) (bytes : List ℕ) (w : StoreState) (t : Tapes) → with_text bytes (store_of code w t) ≡ store_of code (with_built bytes w) t
text_added code bytes w t =
    ap₂ (λ texts built. let v : Store = record { objects = w.objects; made = w.made; texts = texts; built = built; tapes = t; next = w.next } in v)
    (append_assoc code.texts w.texts (bytes ∷ [])) (sym (length_push w.texts bytes))

module _ (code : Code) (place : Place) (s : StackState) (w : StoreState) (o : Operator) where
  abbrev pub operating : Tapes → Next
  operating = acting code 0 place s w (Operate o)

  abbrev pub after : StackState
  after = with_operands (drop (operand_count o) s.running.operands) s

  pub given_there : IsNotStuck operating → operand_count o ≤ length s.running.operands
  given_there = operands_there code s w (operand_count o) operating (λ t vs s. push_reply (operated place o vs s.store) s) (λ t. refl)

  abbrev pub Gives : meant.Computed → Type 0
  Gives c = (t : Tapes) → c ≡ operate (operator_meant o) (map (operand (store_of code w t)) (reverse (take (operand_count o) s.running.operands)))

  gives : (c : meant.Computed) → Gives c → operand_count o ≤ length s.running.operands → (t : Tapes) → operating t ≡ push_reply (computed place (store_of code w t) c) (state_of code after w t)
  gives c e le t =
      operands_taken code s w (operand_count o) t (λ vs s. push_reply (operated place o vs s.store) s) le
      ∙ ap (λ c. push_reply (computed place (store_of code w t) c) (state_of code after w t)) (sym (e t))

  pub no_misfit : IsNotStuck operating → Gives Misfits → ⊥
  no_misfit h e = h.holds no_tapes (gives _ e (given_there h) no_tapes)

  module _ (h : IsNotStuck operating) (d : DevicesState) where
    pub number_step : (n : ℤ) → Gives (GivesNumber n) → IsStep code (pushed (Int n) after) w operating d d (Ok tt)
    number_step n e = pushes code after w (Int n) operating (gives _ e (given_there h)) h d

    pub truth_step : (b : Bool) → Gives (GivesTruth b) → IsStep code (pushed (Truth b) after) w operating d d (Ok tt)
    truth_step b e = pushes code after w (Truth b) operating (gives _ e (given_there h)) h d

    -- what an operator gives is a number or a truth value, as a word
    pub plain_step : (v : Word) → ((u : Store) → IsGiven v (operate (operator_meant o) (map (operand u) (reverse (take (operand_count o) s.running.operands))))) → IsStep code (pushed v after) w operating d d (Ok tt)
    plain_step (Int n) e = number_step n (λ t. e (store_of code w t))
    plain_step (Truth b) e = truth_step b (λ t. e (store_of code w t))
    plain_step Nothing e = absurd (e (store_of code w no_tapes))
    plain_step (Text t) e = absurd (e (store_of code w no_tapes))
    plain_step (Object a) e = absurd (e (store_of code w no_tapes))
    plain_step (Grant g) e = absurd (e (store_of code w no_tapes))

    pub trap_step : (kind : TrapKind) → Gives (Traps (trap_meant kind)) → (s' : StackState) (w' : StoreState) → IsStep code s' w' operating d d (Err (Trap kind place))
    trap_step kind e s' w' = traps code s' w' operating d kind place (gives _ e (given_there h))

    pub text_step : (bytes : List ℕ) → Gives (Builds bytes) → length w.texts < most_texts → IsStep code (pushed (Text (length (code.texts ++ w.texts))) after) (with_built bytes w) operating d d (Ok tt)
    text_step bytes e few =
        pushes code after (with_built bytes w) (Text (length (code.texts ++ w.texts))) operating
        (λ t.
        gives _ e (given_there h) t
        ∙ ap (λ b. push_reply (if b then replied (Text (length (code.texts ++ w.texts))) (with_text bytes (store_of code w t)) else ended (ends.Trap TrapCrowded place)) (state_of code after w t)) (below (length w.texts) most_texts few)
        ∙ ap (λ v. push_reply (replied (Text (length (code.texts ++ w.texts))) v) (state_of code after w t)) (text_added code bytes w t))
        h d

    pub crowded_step : (bytes : List ℕ) → Gives (Builds bytes) → most_texts ≤ length w.texts → (s' : StackState) (w' : StoreState) → IsStep code s' w' operating d d (Err (Trap Crowded place))
    crowded_step bytes e many s' w' =
        traps code s' w' operating d Crowded place
        (λ t.
        gives _ e (given_there h) t
        ∙ ap (λ b. push_reply (if b then replied (Text (length (code.texts ++ w.texts))) (with_text bytes (store_of code w t)) else ended (ends.Trap TrapCrowded place)) (state_of code after w t)) (not_below (length w.texts) most_texts many))
