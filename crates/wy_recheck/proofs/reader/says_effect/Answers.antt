use Rattle.std.proofs.Common.{◌≡◌, ◌↔◌, List, ℕ, Some, sym, subst, true}
use Rattle.wy_effects.specs.EffSet.{IsSet}
use Rattle.wy_rules.specs.Canonical.{same_numbers}
use Rattle.wy_recheck.specs.Standing.{StandsAs}
use Rattle.wy_recheck.proofs.NodesTested.{same_answer, answers_no, numbers_are}
use Rattle.wy_recheck.proofs.reader.says_effect.Goals as goal

pub returns-in-None : goal.returns-in-None
returns-in-None c =
    let e = c.args.node.now.effect in
    let f = c.args.effect.now in
    let P : List ℕ → Type 0 = λ l. IsSet 512 l → ⊥ in
    let fails = subst P c.as_slice.ensures (rw c.in-None.is at c.in_ok-standing_set.ensures) in
    sym (answers_no (same_numbers e f) (e ≡ f) (numbers_are e f) (λ h. fails (subst (λ l. IsSet 512 l) (sym h) c.is_set.ensures)))

pub returns-in-Some : goal.returns-in-Some
returns-in-Some c =
    let e = c.args.node.now.effect in
    let f = c.args.effect.now in
    let P : List ℕ → Type 0 = λ l. StandsAs (IsSet 512) l (Some c.in-Some.listed) in
    let stands = subst P c.as_slice.ensures (rw c.in-Some.is at c.in_ok-standing_set.ensures) in
    same_answer c.same.result (same_numbers e f) (e ≡ f) (subst (λ l. (c.same.result ≡ true) ↔ (l ≡ f)) stands.0 c.same.ensures) (numbers_are e f)
