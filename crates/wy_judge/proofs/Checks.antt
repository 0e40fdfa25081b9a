-- What checking comes to: the limit on a scope's types, and the turns of the modules.
use Rattle.std.proofs.Common.{◌≡◌, ℕ, List, refl, sym, subst, ◌∙◌, Some, Ok, true, arith}
use Rattle.std.specs.Prelude.{slice_get}
use Rattle.wy_text.specs.declared.fault.Fault.{Fault}
use Rattle.wy_text.proofs.Lists.{length-apart}
use Rattle.wy_types.specs.declared.types.TypeRef.{TypeRef}
use Rattle.wy_types.specs.declared.resolved.ScopeKind.{ScopeKind}
use Rattle.wy_types.specs.declared.resolved.ScopeKind.TheVariants.{Pure, Resource, Plain, Program as Main}
use Rattle.wy_types.specs.Program.{Program, Scope}
use Rattle.wy_types.specs.Reached.{Reach}
use Rattle.wy_rules.specs.Failing.{IsScopeFault}
use Rattle.wy_rules.specs.Refusals.{Turn, turn_of, is_its_turn, scopes_of}
use Rattle.wy_rules.specs.Ends.{limited, refused, ReachesTooMany, ScopeGoesOn}
use Rattle.wy_judge.specs.declared.checking.Checked.{Checked}
use Rattle.wy_judge.specs.declared.checking.CheckRefusal.{CheckRefusal}
use Rattle.wy_judge.specs.declared.checking.CheckRefusal.TheVariants.{Fails, Limit, Memory}
use Rattle.wy_judge.specs.Checking.{IsChecked, IsCheckRefusal, IsFirstRefusal}
use Rattle.wy_judge.proofs.Programs.{GoOnBefore, ends_at}

-- each scope is of its own turn
pub its_turn : (kind : ScopeKind) → is_its_turn (turn_of kind) (turn_of kind) ≡ true
its_turn Pure = refl
its_turn Resource = refl
its_turn Plain = refl
its_turn Main = refl

------------------------------------------------------------
-- A scope

-- types that are reached, each once and all of them, are the most that can be named
pub reached_within : (p : Program) (k : ℕ) (ts : List TypeRef) → Reach p k (Ok ts) → ReachesTooMany p k → ⊥
reached_within p k ts h many =
    let us = many.1.0 in
    let fewer = length-apart us ts many.1.1 (λ u i. (h.2 u).1 (many.1.3 u i)) in
    omega (arith, many.1.2, h.1)

module _ (p : Program) where
  -- a scope that is checked goes on
  pub checked_goes_on : (k : ℕ) (s : Scope) (c : Checked) → slice_get p.scopes k ≡ Some s → IsChecked p k c → ScopeGoesOn p (record { number = k; scope = s })
  checked_goes_on k s c there h =
      let same : h.scope ≡ s = (let e = sym h.there ∙ there in cc) in
      subst (λ v. ScopeGoesOn p (record { number = k; scope = v })) same (record { within = h.within; passes = record { locals = _; nodes = h.passes.nodes } })

  pub fault_there : (k : ℕ) (s : Scope) (fault : Fault) → slice_get p.scopes k ≡ Some s → ((t : Scope) × (slice_get p.scopes k ≡ Some t) × IsScopeFault p k t fault) → IsScopeFault p k s fault
  fault_there k s fault there h =
      let same : h.0 ≡ s = (let e = sym h.1 ∙ there in cc) in
      subst (λ v. IsScopeFault p k v fault) same h.2

  ------------------------------------------------------------
  -- The modules of a turn

  -- the first one that is refused
  pub first_refusal : (turn : Turn) (k : ℕ) (s : Scope) (r : CheckRefusal) → slice_get p.scopes k ≡ Some s → is_its_turn turn (turn_of s.kind) ≡ true → GoOnBefore p turn k →
      IsCheckRefusal p k r → IsFirstRefusal p (scopes_of turn 0 p.scopes) r
  first_refusal turn k s (Fails fault) there its before h = ends_at p turn k s (refused fault) there its before (h.0, fault_there k s fault there h.1)
  first_refusal turn k s (Limit name) there its before h = ends_at p turn k s (limited name) there its before h
  first_refusal turn k s Memory there its before h = tt
