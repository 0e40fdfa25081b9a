-- A whole program, once its modules go on: what a limit, a line or its own block make of it.
use Rattle.std.proofs.Common.{◌≡◌, ℕ, List, inl, inr, sym, subst, ◌∙◌}
use Rattle.wy_text.specs.declared.fault.Fault.{Fault}
use Rattle.wy_text.specs.declared.limit.LimitName.{LimitName}
use Rattle.wy_types.specs.declared.types.TypeRef.{TypeRef}
use Rattle.wy_types.specs.Program.{Program}
use Rattle.wy_rules.specs.Failing.{IsLineFault}
use Rattle.wy_rules.specs.Refusals.{plain_modules, other_modules, the_program, scopes_of, ScopePasses, FirstFault, LinesPassFrom}
use Rattle.wy_rules.specs.Ends.{ReachesTooMany, StartsTooMany, AllGoOn, SomeReachTooMany, IsAccepted}
use Rattle.wy_judge.specs.declared.checking.CheckRefusal.{CheckRefusal}
use Rattle.wy_judge.specs.declared.checking.CheckRefusal.TheVariants.{Fails, Limit, Memory}
use Rattle.wy_judge.specs.declared.scopes.Judged.TheVariants as judged
use Rattle.wy_judge.specs.Checking.{IsLimitRefusal, IsRefusalOf}
use Rattle.wy_judge.specs.Walking.{IsJudgedAt}
use Rattle.wy_judge.proofs.Checks.{fault_there}
use Rattle.wy_judge.proofs.Deciding.{accepted_by}
use Rattle.wy_judge.proofs.Programs.{IsLastAt}
use Rattle.wy_link.specs.declared.linking.LinkRefusal.{LinkRefusal}
use Rattle.wy_link.specs.declared.linking.LinkRefusal.TheVariants as linking
use Rattle.wy_link.specs.Linking.{IsLinkRefusal}
use Rattle.wy_link.specs.Checking.{IsBeforeLines}

module _ (p : Program) (k : ℕ) (last : IsLastAt p k) where
  ------------------------------------------------------------
  -- The limits

  module _ (plain : AllGoOn p (scopes_of plain_modules 0 p.scopes)) (others : AllGoOn p (scopes_of other_modules 0 p.scopes)) where
    pub types_refused : (r : CheckRefusal) → IsLimitRefusal p k r → IsRefusalOf p r
    types_refused (Fails fault) h = absurd h
    types_refused (Limit name) h = inr (plain, inr (others, inl (inl (h.0, subst (SomeReachTooMany p) (sym last.alone) (inl h.1)))))
    types_refused Memory h = tt

    none_reach : (ReachesTooMany p k → ⊥) → SomeReachTooMany p (scopes_of the_program 0 p.scopes) → ⊥
    none_reach h = subst (λ ns. SomeReachTooMany p ns → ⊥) (sym last.alone) (λ many. elim many [ inl m ↦ h m | inr m ↦ absurd m ])

    pub instances_refused : (name : LimitName) (r : LinkRefusal) → r ≡ linking.Limit name → (ReachesTooMany p k → ⊥) → IsLinkRefusal p r → IsRefusalOf p (Limit name)
    instances_refused name r is within h = (let l = subst (IsLinkRefusal p) is h in inr (plain, inr (others, inl (inr (none_reach within, l.0, l.1)))))

    pub before_lines : (ReachesTooMany p k → ⊥) → (StartsTooMany p → ⊥) → IsBeforeLines p
    before_lines within few = record { plain = plain; others = others; limits = (none_reach within, few) }

  ------------------------------------------------------------
  -- Lines, and the program's own block

  module _ (before : IsBeforeLines p) where
    pub line_refused : (fault : Fault) → IsLineFault p fault → IsRefusalOf p (Fails fault)
    line_refused fault h = inr (before.plain, inr (before.others, inr (before.limits, inl h)))

    pub block_refused : (fault : Fault) → LinesPassFrom p 0 p.scopes → IsJudgedAt p k (judged.Fails fault) → IsRefusalOf p (Fails fault)
    block_refused fault lines h =
        let body = subst (λ ns. FirstFault p ns fault) (sym last.alone) (inl (fault_there p k last.scope fault last.there h)) in
        inr (before.plain, inr (before.others, inr (before.limits, inr (lines, body))))

    program_within : ReachesTooMany p k → ⊥
    program_within many = before.limits.0 (subst (SomeReachTooMany p) (sym last.alone) (inl many))

    block_passes : (types : List TypeRef) → IsJudgedAt p k (judged.Passes types) → ScopePasses p k last.scope
    block_passes types h =
        let same : h.0 ≡ last.scope = (let e = sym h.1 ∙ last.there in cc) in
        subst (ScopePasses p k) same (record { locals = _; nodes = h.2.nodes })

    pub all_accepted : LinesPassFrom p 0 p.scopes → (types : List TypeRef) → IsJudgedAt p k (judged.Passes types) → IsAccepted p
    all_accepted lines types h =
        accepted_by p before.plain before.others (subst (AllGoOn p) (sym last.alone) (record { within = program_within; passes = block_passes types h }, tt)) lines before.limits.1
