-- What is told of the rules of the scope that was found is told of the scope of the number.
use Rattle.std.proofs.Common.{◌≡◌, ℕ, List, Some, map, ap, ◌∙◌, subst}
use Rattle.std.specs.Prelude.{slice_get}
use Rattle.wy_types.specs.declared.resolved.Scope as sc
use Rattle.wy_types.specs.declared.resolved.Core.{Core}
use Rattle.wy_types.specs.Program.{Scope, program_of, scope_of}
use Rattle.wy_cert.specs.declared.certificate.CertScope.{CertScope}
use Rattle.wy_proving.specs.declared.proof.CertTest.TheVariants.{Lines}
use Rattle.wy_proving.specs.Proving.{AllStand, RuleStands, scope_rules, LinesHold}
use Rattle.wy_proving.specs.Proving.{LineRule as Rule}
use Rattle.wy_proving.specs.Unproved.{IsFirstWithout, FailsAt}
use Rattle.wy_recheck.specs.declared.failure.Failure.{Failure}
use Rattle.wy_recheck.specs.declared.lines.LineRule.{LineRule}
use Rattle.wy_recheck.specs.Rules.{rule_of}
use Rattle.wy_recheck.specs.Standing.{FailsFirst}
use Rattle.wy_recheck.proofs.ScopeFound.{scope_is}

module _ (core : Core) (k : ℕ) (x : sc.Scope) (there : slice_get core.scopes k ≡ Some x) (s : Scope) (at : slice_get (program_of core).scopes k ≡ Some s) (part : CertScope) where
  module _ (rules slice : List LineRule) (same : slice ≡ rules) (are : map rule_of rules ≡ scope_rules (scope_of x)) where
    asked : map rule_of slice ≡ scope_rules (scope_of x)
    asked = ap (map rule_of) same ∙ are

    pub lines_hold : AllStand (RuleStands (program_of core) k (scope_of x) part) (map rule_of slice) → LinesHold (program_of core) k s part
    lines_hold h =
        let P : Scope → Type 0 = λ v. LinesHold (program_of core) k v part in
        let Q : List Rule → Type 0 = AllStand (RuleStands (program_of core) k (scope_of x) part) in
        subst P (scope_is core k x there s at) (subst Q asked h)

    pub lines_fail : (f : Failure) → FailsFirst (IsFirstWithout (RuleStands (program_of core) k (scope_of x) part) (map rule_of slice)) f → FailsFirst (FailsAt (program_of core) k s part Lines) f
    lines_fail f h =
        let P : Scope → Type 0 = λ v. FailsFirst (FailsAt (program_of core) k v part Lines) f in
        let Q : List Rule → Type 0 = λ l. FailsFirst (IsFirstWithout (RuleStands (program_of core) k (scope_of x) part) l) f in
        subst P (scope_is core k x there s at) (subst Q asked h)
