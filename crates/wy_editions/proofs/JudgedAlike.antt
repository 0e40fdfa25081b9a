-- Two programs that differ in one declared type, which no scope writes, are accepted within the limits or not, both of them, and
-- have the same authority.
use Rattle.std.proofs.Common.{◌≡◌, ℕ, List, refl, ap, subst, Some}
use Rattle.std.specs.Prelude.{slice_get}
use Rattle.wy_types.specs.Program.{Program, Scope}
use Rattle.wy_authority.specs.Authority.{authority_of}
use Rattle.wy_rules.specs.Acceptance.{Accepted}
use Rattle.wy_rules.specs.Ends.{IsWithinLimits}
use Rattle.wy_rules.specs.Transfer.{DiffersAt, LeavesOut}
use Rattle.wy_rules.proofs.AcceptedWithoutType.{accepted_without_type}
use Rattle.wy_editions.proofs.InstancesKept.{authority_same}
use Rattle.wy_editions.proofs.LimitsKept.{limits_kept}

-- what the one program has of the other
pub record GoesOver (p other : Program) : Type 0 where
  pub accepted : Accepted p → Accepted other
  pub within : IsWithinLimits p → IsWithinLimits other
  pub authority : authority_of p ≡ authority_of other

pub goes_over : (i : ℕ) (p other : Program) → DiffersAt i p other → ((k : ℕ) (s : Scope) → slice_get p.scopes k ≡ Some s → LeavesOut i p s) → GoesOver p other
goes_over i p other w left =
    let same : record { declarations = other.declarations; scopes = p.scopes } ≡ other =
    ap (λ (ss : List Scope). let q : Program = record { declarations = other.declarations; scopes = ss } in q) w.scopes in
    let onward : DiffersAt i p (record { declarations = other.declarations; scopes = p.scopes }) =
    record { scopes = refl; declarations = w.declarations; named_not = w.named_not } in
    record {
      accepted = accepted_without_type i p other w left;
      within = subst (λ (q : Program). IsWithinLimits p → IsWithinLimits q) same (limits_kept i p.declarations other.declarations p.scopes onward left);
      authority = subst (λ (q : Program). authority_of p ≡ authority_of q) same (authority_same i p.declarations other.declarations p.scopes onward left);
    }
