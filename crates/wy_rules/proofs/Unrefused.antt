-- An accepted program has no fault.
use Rattle.std.proofs.Common.{◌≡◌, ℕ, suc, ◌+◌, List, [], ◌∷◌, refl, inl, inr, subst, Some, true, false, arith}
use Rattle.std.specs.Prelude.{slice_get, if◌then◌else◌}
use Rattle.wy_text.specs.declared.fault.Fault.{Fault}
use Rattle.wy_text.specs.Members.{In}
use Rattle.wy_text.proofs.Lists.{In-slice_get}
use Rattle.wy_types.specs.Program.{Program, Scope}
use Rattle.wy_types.specs.Core.{IsCore, ScopeFits}
use Rattle.wy_rules.specs.Acceptance.{Accepted, ScopeAccepted}
use Rattle.wy_rules.specs.Refusals.{Turn, plain_modules, other_modules, the_program, turn_of, is_its_turn, Numbered, scopes_of, FirstFault}
use Rattle.wy_rules.specs.ProgramRefusal.{AcceptedHasNoFault}
use Rattle.wy_rules.proofs.Holding.{accepted_scopes_hold}
use Rattle.wy_rules.proofs.Passing.{accepted_lines_hold}

-- what holds of each scope by its number holds of each of a turn
pub each_of_turn : (Ok : ℕ → Scope → Type 0) (turn : Turn) (k : ℕ) (ss : List Scope) → ((j : ℕ) (s : Scope) → slice_get ss j ≡ Some s → Ok (k + j) s) → (n : Numbered) → In n (scopes_of turn k ss) → Ok n.number n.scope
each_of_turn Ok turn k [] h n i = absurd i
each_of_turn Ok turn k (s ∷ ss) h n i =
    let rest : In n (scopes_of turn (k + 1) ss) → Ok n.number n.scope = each_of_turn Ok turn (k + 1) ss (λ j t e. (let same : k + suc j ≡ k + 1 + j = omega arith in subst (λ v. Ok v t) same (h (suc j) t e))) n in
    let first : Ok k s = (let same : k + 0 ≡ k = omega arith in subst (λ v. Ok v s) same (h 0 s refl)) in
    elim (is_its_turn turn (turn_of s.kind)) as (λ b. In n (if b then record { number = k; scope = s } ∷ scopes_of turn (k + 1) ss else scopes_of turn (k + 1) ss) → Ok n.number n.scope) [
      | true ↦ λ j. elim j [ inl e ↦ subst (λ (v : Numbered). Ok v.number v.scope) e first | inr l ↦ rest l ]
      | false ↦ λ j. rest j
    ] i

pub no_first_fault : (p : Program) (ns : List Numbered) (fault : Fault) → ((n : Numbered) → In n ns → ScopeFits p n.scope × ScopeAccepted p n.number n.scope) → FirstFault p ns fault → ⊥
no_first_fault p [] fault h f = f
no_first_fault p (n ∷ ns) fault h (inl f) = let o = h n (inl refl) in accepted_scopes_hold p n.number n.scope fault o.0 o.1 f
no_first_fault p (n ∷ ns) fault h (inr f) = no_first_fault p ns fault (λ m i. h m (inr i)) f.1

-- the scopes of a turn are the core's, and accepted
pub accepted_of_turn : (p : Program) (turn : Turn) → IsCore p → Accepted p → (n : Numbered) → In n (scopes_of turn 0 p.scopes) → ScopeFits p n.scope × ScopeAccepted p n.number n.scope
accepted_of_turn p turn core a =
    each_of_turn (λ k s. ScopeFits p s × ScopeAccepted p k s) turn 0 p.scopes
    (λ j s e. (let same : j ≡ 0 + j = omega arith in subst (λ v. ScopeFits p s × ScopeAccepted p v s) same (core.scopes s (In-slice_get p.scopes j s e), a.scopes j s e)))

pub accepted_has_no_fault : AcceptedHasNoFault
accepted_has_no_fault p fault core a f =
    let ok = λ (turn : Turn). accepted_of_turn p turn core a in
    elim f [
      | inl g ↦ no_first_fault p (scopes_of plain_modules 0 p.scopes) fault (ok plain_modules) g
      | inr g ↦ elim g.1 [
        | inl h ↦ no_first_fault p (scopes_of other_modules 0 p.scopes) fault (ok other_modules) h
        | inr h ↦ elim h.1 [
          | inl i ↦ accepted_lines_hold p fault a i
          | inr i ↦ no_first_fault p (scopes_of the_program 0 p.scopes) fault (ok the_program) i.1
        ]
      ]
    ]
