-- Bytes that begin with no rule's.
use Rattle.std.proofs.Common.{◌≡◌, ℕ, ◌<◌, ◌≤◌, List, [], length, get_or, refl, ap, arith, lit≤}
use Rattle.wy_spelling.specs.Spelling.{IsStuck}
use Rattle.wy_spelling.proofs.Fronts.{stuck_at_first}
use Rattle.wy_cert.specs.RuleLaws.{IsRuleSpelled, one_byte}
use Rattle.wy_cert.specs.Spelled.{rule_byte}
use Rattle.wy_cert.specs.declared.certificate.Rule.{Rule}
use Rattle.wy_cert.specs.declared.certificate.Rule.TheVariants as rule

rule_bound : (r : Rule) → rule_byte r ≤ 12
rule_bound rule.Lit = lit≤ tt
rule_bound rule.Var = lit≤ tt
rule_bound rule.This = lit≤ tt
rule_bound rule.Call = lit≤ tt
rule_bound rule.New = lit≤ tt
rule_bound rule.If = lit≤ tt
rule_bound rule.Seq = lit≤ tt
rule_bound rule.Val = lit≤ tt
rule_bound rule.Set = lit≤ tt
rule_bound rule.Op = lit≤ tt
rule_bound rule.Asc = lit≤ tt
rule_bound rule.Body = lit≤ tt
rule_bound rule.Sub = lit≤ tt

pub no_byte : (bytes : List ℕ) → length bytes < 1 → IsStuck IsRuleSpelled one_byte bytes 0
no_byte bytes none =
    let nothing : length bytes ≡ 0 = omega arith in
    rw nothing at (stuck_at_first IsRuleSpelled one_byte bytes (rule.Lit, 0, [], tt, refl) (λ next behind at r others is e. omega (arith, nothing, ap (λ (t : List ℕ). length t) at)))

pub no_rule : (bytes : List ℕ) → 12 < get_or bytes 0 0 → IsStuck IsRuleSpelled one_byte bytes (length bytes)
no_rule bytes more =
    stuck_at_first IsRuleSpelled one_byte bytes (rule.Lit, 0, [], tt, refl)
    (λ next behind at r others is e. omega (arith, more, rule_bound r, ap (λ (t : List ℕ). get_or t 0 0) at, ap (λ (t : List ℕ). get_or t 0 0) e))
