-- Rules: a byte each.
use Rattle.std.proofs.Common.{◌≡◌, ℕ, ◌≤◌, List, [], ◌∷◌, length, get_or, refl, sym, ap, ◌∙◌, lit≤}
use Rattle.wy_spelling.specs.Spelling.{AreApart}
use Rattle.wy_cert.specs.Spelled.{rule_byte}
use Rattle.wy_cert.specs.declared.certificate.Rule.{Rule}
use Rattle.wy_cert.specs.declared.certificate.Rule.TheVariants as rule

abbrev pub one_byte : Rule → List ℕ
one_byte r = rule_byte r ∷ []

abbrev pub IsRuleSpelled : Rule → Type 0
IsRuleSpelled r = Unit {0}

pub rules_filled : (r : Rule) → 1 ≤ length (one_byte r)
rules_filled r = lit≤ tt

-- the rules, each at the place of its byte
abbrev rules : List Rule
rules = rule.Lit ∷ rule.Var ∷ rule.This ∷ rule.Call ∷ rule.New ∷ rule.If ∷ rule.Seq ∷ rule.Val ∷ rule.Set ∷ rule.Op ∷ rule.Asc ∷ rule.Body ∷ rule.Sub ∷ []

rule_at : (r : Rule) → get_or rules (rule_byte r) rule.Lit ≡ r
rule_at rule.Lit = refl
rule_at rule.Var = refl
rule_at rule.This = refl
rule_at rule.Call = refl
rule_at rule.New = refl
rule_at rule.If = refl
rule_at rule.Seq = refl
rule_at rule.Val = refl
rule_at rule.Set = refl
rule_at rule.Op = refl
rule_at rule.Asc = refl
rule_at rule.Body = refl
rule_at rule.Sub = refl

pub rules_apart : AreApart IsRuleSpelled one_byte
rules_apart x y others more is_x is_y e =
    let same : rule_byte x ≡ rule_byte y = cc in
    (sym (rule_at x) ∙ ap (λ byte. get_or rules byte rule.Lit) same ∙ rule_at y, cc)
