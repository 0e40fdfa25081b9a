-- What is said of a scope of an accepted program proves it.
use Rattle.std.proofs.Common.{◌≡◌, ℕ, List, map, refl, sym, ap, ◌∙◌, subst, Some}
use Rattle.std.specs.Prelude.{slice_get}
use Rattle.wy_types.specs.declared.types.TypeRef.{TypeRef}
use Rattle.wy_types.specs.Program.{Program, Scope}
use Rattle.wy_types.specs.Core.{IsCore}
use Rattle.wy_rules.specs.Acceptance.{Accepted}
use Rattle.wy_subtype.specs.declared.verdict.Mode.{Mode}
use Rattle.wy_subtype.specs.declared.verdict.Mode.TheVariants.{Annotated, Plain}
use Rattle.wy_cert.specs.declared.certificate.CertScope.{CertScope}
use Rattle.wy_proving.specs.Certified.{Pair}
use Rattle.wy_proving.specs.Steps.{Step}
use Rattle.wy_proving.specs.Proving.{ScopeProof}
use Rattle.wy_proving.specs.Written.{written_steps}
use Rattle.wy_proving.specs.WrittenLaws.{AreFound, AskedStand}
use Rattle.wy_proving.proofs.AcceptedCertified.{written_is_proof, what_is_asked_stands}
use Rattle.wy_certify.specs.declared.step.Step as own
use Rattle.wy_certify.specs.Asking.{asks_in}
use Rattle.wy_certify.specs.Certificates.{IsPart}
use Rattle.wy_certify.specs.Closed.{AllHold, IsClosedList}
use Rattle.wy_certify.specs.Numbering.{part_types}
use Rattle.wy_certify.specs.LocalsAt.{locals_at}
use Rattle.wy_certify.specs.Step.{step_of, steps_of}
use Rattle.wy_certify.proofs.ListsWhole.{asks_hold, plain_asks_hold, lists_whole}
use Rattle.wy_certify.proofs.Settled.{are_found}

-- the scope of a number in an accepted program
module _ (p : Program) (k : ℕ) (s : Scope) (at : slice_get p.scopes k ≡ Some s) (core : IsCore p) (accepted : Accepted p) where
  found : AreFound p k s (locals_at p k s)
  found = are_found p k s (locals_at p k s) refl

  stands : AskedStand p k s (locals_at p k s)
  stands = what_is_asked_stands p k s core at (accepted.scopes k s at) (locals_at p k s) found

  -- what is said of it proves it
  pub part_proves : (c : CertScope) → IsPart p k s c → ScopeProof p k s c
  unfolding part_types
  part_proves c part =
      let us = locals_at p k s in
      subst (λ (v : CertScope). ScopeProof p k s v) (sym part.is)
      (written_is_proof p k s core at (accepted.scopes k s at) us part.types part.pairs part.bares found
      (lists_whole p k s us stands part.types part.pairs part.bares part.closed part.closed_plainly (λ t. (part.once.only t, part.once.all t))))

  ------------------------------------------------------------
  -- As code has it

  holds : (mode : Mode) → AllHold p k mode (asks_in mode p k s (written_steps p k s (locals_at p k s)))
  holds Annotated = asks_hold p k s (locals_at p k s) stands at
  holds Plain = plain_asks_hold p k s (locals_at p k s) stands at

  -- the types of its `val`s that are found, and the steps over them
  module _ (us slice : List TypeRef) (same : slice ≡ us) (are : us ≡ locals_at p k s) (steps : List own.Step) (written : map step_of steps ≡ written_steps p k s slice) where
    pub steps_are : steps_of steps ≡ written_steps p k s (locals_at p k s)
    unfolding steps_of
    steps_are = written ∙ ap (λ (l : List TypeRef). written_steps p k s l) (same ∙ are)

    asks_are : (mode : Mode) (given : List own.Step) → given ≡ steps → asks_in mode p k s (steps_of given) ≡ asks_in mode p k s (written_steps p k s (locals_at p k s))
    asks_are mode given e = ap (λ (l : List own.Step). asks_in mode p k s (steps_of l)) e ∙ ap (λ (l : List (Step TypeRef)). asks_in mode p k s l) steps_are

    -- what is asked holds
    pub asked_hold : (mode : Mode) (given : List own.Step) → given ≡ steps → AllHold p k mode (asks_in mode p k s (steps_of given))
    asked_hold mode given e = subst (λ (l : List Pair). AllHold p k mode l) (sym (asks_are mode given e)) (holds mode)

    -- .. and a closed list of it is one of what the definition asks
    pub closed_of_asked : (mode : Mode) (given : List own.Step) → given ≡ steps → (list : List Pair) → IsClosedList p k s mode (asks_in mode p k s (steps_of given)) list → IsClosedList p k s mode (asks_in mode p k s (written_steps p k s (locals_at p k s))) list
    closed_of_asked mode given e list h = subst (λ (l : List Pair). IsClosedList p k s mode l list) (asks_are mode given e) h
