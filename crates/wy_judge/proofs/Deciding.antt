-- What judging a program comes to where it is decided of each part whether it passes.
use Rattle.std.proofs.Common.{◌≡◌, ℕ, zero, suc, ◌+◌, List, [], ◌∷◌, ◌⊎◌, inl, inr, length, refl, subst, Some, arith}
use Rattle.std.specs.Prelude.{slice_get}
use Rattle.std.proofs.lemmas.Bool.{cases_lt}
use Rattle.wy_text.specs.declared.fault.Fault.{Fault}
use Rattle.wy_text.specs.declared.limit.LimitName.TheVariants.{ReachedTypes, Instances}
use Rattle.wy_text.specs.Members.{In}
use Rattle.wy_types.specs.Ground.{start_list}
use Rattle.wy_types.specs.Program.{Program, Scope}
use Rattle.wy_rules.specs.Nodes.{lines_nodes}
use Rattle.wy_rules.specs.Failing.{AllPass, IsLineFault}
use Rattle.wy_rules.specs.Refusals.{Turn, plain_modules, other_modules, the_program, turn_of, Numbered, scopes_of, FirstFault, LinesPassFrom}
use Rattle.wy_rules.specs.ProgramRefusal.{AllScopesPass}
use Rattle.wy_rules.specs.Ends.{End, limited, refused, StartsTooMany, FirstEnd, AllGoOn, SomeReachTooMany, IsEnd, IsAccepted}
use Rattle.wy_rules.proofs.Passing.{passing_is_accepted}
use Rattle.wy_rules.proofs.Unrefused.{each_of_turn}
use Rattle.wy_judge.specs.Accepting.{IsScopeDecided, IsDecided}
use Rattle.wy_judge.proofs.Checks.{its_turn}
use Rattle.wy_judge.proofs.Programs.{each_goes_on}
use Rattle.wy_judge.proofs.ReachDecided.{reach_decided}

-- the lines of one scope, where those of all pass
lines_pass_from : (p : Program) (j : ℕ) (ss : List Scope) → LinesPassFrom p j ss → (i : ℕ) (s : Scope) (n : ℕ) → slice_get ss i ≡ Some s → n ≡ j + i → AllPass p n s [] (lines_nodes s.names)
lines_pass_from p j [] h i s n there e = cc
lines_pass_from p j (t ∷ ss) h zero s n there e =
    let same : t ≡ s = cc in
    let number : j ≡ n = omega arith in
    subst (λ v. AllPass p v s [] (lines_nodes s.names)) number (subst (λ (v : Scope). AllPass p j v [] (lines_nodes v.names)) same h.0)
lines_pass_from p j (t ∷ ss) h (suc i) s n there e = lines_pass_from p (j + 1) ss h.1 i s n there (omega arith)

module _ (p : Program) where
  -- a program is accepted of which all scopes go on, all lines pass and not too many instances start
  pub accepted_by : AllGoOn p (scopes_of plain_modules 0 p.scopes) → AllGoOn p (scopes_of other_modules 0 p.scopes) → AllGoOn p (scopes_of the_program 0 p.scopes) →
      LinesPassFrom p 0 p.scopes → (StartsTooMany p → ⊥) → IsAccepted p
  accepted_by plain others program lines few =
      let all = λ (turn : Turn). elim turn as (λ v. AllGoOn p (scopes_of v 0 p.scopes)) [ plain_modules ↦ plain | other_modules ↦ others | the_program ↦ program ] in
      let goes_on = λ (i : ℕ) (t : Scope) (at : slice_get p.scopes i ≡ Some t). each_goes_on p (turn_of t.kind) (all (turn_of t.kind)) i t at (its_turn t.kind) in
      record {
        accepted = passing_is_accepted p (record {
          bodies = λ i t at. (let passes = (goes_on i t at).passes in (passes.locals, passes.nodes));
          lines = λ i t at. lines_pass_from p 0 p.scopes lines i t i at (omega arith);
        });
        within = record { types = λ i t at. (goes_on i t at).within; instances = few };
      }

  ------------------------------------------------------------
  -- Several scopes

  abbrev AreDecided : List Numbered → Type 0
  AreDecided ns = (n : Numbered) → In n ns → IsScopeDecided p n.number n.scope

  goes_on_or_ends : (ns : List Numbered) → AreDecided ns → AllGoOn p ns ⊎ ((end : End) × FirstEnd p ns end)
  goes_on_or_ends [] h = inl tt
  goes_on_or_ends (n ∷ ns) h = elim (reach_decided p n.number) [
    | inl many ↦ inr (limited ReachedTypes, inl (refl, many))
    | inr within ↦ elim (h n (inl refl)) [
      | inl passes ↦ elim (goes_on_or_ends ns (λ m i. h m (inr i))) [
        | inl rest ↦ inl (record { within = within; passes = passes }, rest)
        | inr end ↦ inr (end.0, inr (record { within = within; passes = passes }, end.1))
      ]
      | inr fault ↦ inr (refused fault.0, inl (within, fault.1))
    ]
  ]

  some_reach_or_none : (ns : List Numbered) → SomeReachTooMany p ns ⊎ (SomeReachTooMany p ns → ⊥)
  some_reach_or_none [] = inr (λ many. many)
  some_reach_or_none (n ∷ ns) = elim (reach_decided p n.number) [
    | inl many ↦ inl (inl many)
    | inr within ↦ elim (some_reach_or_none ns) [
      | inl many ↦ inl (inr many)
      | inr few ↦ inr (λ many. elim many [ inl first ↦ within first | inr later ↦ few later ])
    ]
  ]

  pass_or_fault : (ns : List Numbered) → AreDecided ns → AllScopesPass p ns ⊎ ((fault : Fault) × FirstFault p ns fault)
  pass_or_fault [] h = inl tt
  pass_or_fault (n ∷ ns) h = elim (h n (inl refl)) [
    | inl passes ↦ elim (pass_or_fault ns (λ m i. h m (inr i))) [
      | inl rest ↦ inl (passes, rest)
      | inr fault ↦ inr (fault.0, inr (passes, fault.1))
    ]
    | inr fault ↦ inr (fault.0, inl fault.1)
  ]

  all_go_on_within : (ns : List Numbered) → (SomeReachTooMany p ns → ⊥) → AllScopesPass p ns → AllGoOn p ns
  all_go_on_within [] few h = tt
  all_go_on_within (n ∷ ns) few h = (record { within = λ many. few (inl many); passes = h.0 }, all_go_on_within ns (λ many. few (inr many)) h.1)

  ------------------------------------------------------------
  -- The program

  -- .. of which each scope is decided, and the lines where the plain modules go on
  module _ (nodes : (k : ℕ) (s : Scope) → slice_get p.scopes k ≡ Some s → IsScopeDecided p k s)
      (lines : AllGoOn p (scopes_of plain_modules 0 p.scopes) → LinesPassFrom p 0 p.scopes ⊎ ((fault : Fault) × IsLineFault p fault)) where
    of_turn_decided : (turn : Turn) → AreDecided (scopes_of turn 0 p.scopes)
    of_turn_decided turn = each_of_turn (IsScopeDecided p) turn 0 p.scopes (λ j s e. (let same : j ≡ 0 + j = omega arith in subst (λ v. IsScopeDecided p v s) same (nodes j s e)))

    pub decided_by : IsAccepted p ⊎ ((end : End) × IsEnd p end)
    decided_by = elim (goes_on_or_ends (scopes_of plain_modules 0 p.scopes) (of_turn_decided plain_modules)) [
      | inr end ↦ inr (end.0, inl end.1)
      | inl plain ↦ elim (goes_on_or_ends (scopes_of other_modules 0 p.scopes) (of_turn_decided other_modules)) [
        | inr end ↦ inr (end.0, inr (plain, inl end.1))
        | inl others ↦ elim (some_reach_or_none (scopes_of the_program 0 p.scopes)) [
          | inl many ↦ inr (limited ReachedTypes, inr (plain, inr (others, inl (inl (refl, many)))))
          | inr few ↦ elim (cases_lt 1024 (length (start_list p))) [
            | inl starts ↦ inr (limited Instances, inr (plain, inr (others, inl (inr (few, refl, starts)))))
            | inr within ↦
                let limits : StartsTooMany p → ⊥ = λ starts. omega arith in
                elim (lines plain) [
                  | inr fault ↦ inr (refused fault.0, inr (plain, inr (others, inr ((few, limits), inl fault.1))))
                  | inl lines ↦ elim (pass_or_fault (scopes_of the_program 0 p.scopes) (of_turn_decided the_program)) [
                    | inr fault ↦ inr (refused fault.0, inr (plain, inr (others, inr ((few, limits), inr (lines, fault.1)))))
                    | inl passes ↦ inl (accepted_by plain others (all_go_on_within (scopes_of the_program 0 p.scopes) few passes) lines limits)
                  ]
                ]
          ]
        ]
      ]
    ]

  pub accepted_or_ends : IsDecided p → IsAccepted p ⊎ ((end : End) × IsEnd p end)
  accepted_or_ends d = decided_by d.nodes (λ plain. d.lines)
