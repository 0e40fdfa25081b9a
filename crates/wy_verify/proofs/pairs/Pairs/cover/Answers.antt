use Rattle.std.proofs.Common.{◌≡◌, ◌∙◌, List, true, false, subst, sym}
use Rattle.wy_verified.specs.Kinds.{Pair}
use Rattle.wy_verify.specs.Closing.{IsGrown, IsUncovered, rests_on}
use Rattle.wy_verify.proofs.Covering.{covering_missing, covering_count, covering_effect, covering_added}
use Rattle.wy_verify.proofs.pairs.Pairs.cover.Goals as goal

pub returns-in_default-method : goal.returns-in_default-method
returns-in_default-method c =
    let P : List Pair → Type 0 = λ l. IsUncovered c.args.judged.now c.args.left c.args.right c.args.self.now l in
    subst P (sym c.in_ok-spend.ensures)
    (covering_missing c.args.judged.now c.args.left c.args.right c.args.number c.in-Some.asked c.args.self.now
    (sym c.method-2.ensures ∙ c.in_default-method.is) (sym c.method.ensures ∙ c.in-Some.is))

pub returns-then-parameter_count : goal.returns-then-parameter_count
returns-then-parameter_count c =
    let P : List Pair → Type 0 = λ l. IsUncovered c.args.judged.now c.args.left c.args.right c.args.self.now l in
    subst P (sym c.in_ok-spend.ensures)
    (covering_count c.args.judged.now c.args.left c.args.right c.args.number c.in-Some-method.found c.in-Some.asked c.args.self.now
    (sym c.method-2.ensures ∙ c.in-Some-method.is) (sym c.method.ensures ∙ c.in-Some.is)
    (λ same. c.if-parameter_count.true (c.parameter_count.ensures ∙ same ∙ sym c.parameter_count-2.ensures)))

pub returns-then-not-is_within_method : goal.returns-then-not-is_within_method
returns-then-not-is_within_method c =
    let P : List Pair → Type 0 = λ l. IsUncovered c.args.judged.now c.args.left c.args.right c.args.self.now l in
    subst P (sym c.in_ok-spend.ensures)
    (covering_effect c.args.judged.now c.args.left c.args.right c.args.number c.in-Some-method.found c.in-Some.asked c.args.self.now
    (sym c.method-2.ensures ∙ c.in-Some-method.is) (sym c.method.ensures ∙ c.in-Some.is)
    (λ w. let z : true ≡ false = sym (c.is_within_method.ensures.1 w) ∙ c.if-not-is_within_method.true in cc))

pub returns : goal.returns
returns c =
    covering_added c.args.judged.now c.args.left c.args.right c.args.number c.in-Some-method.found c.in-Some.asked c.args.self.now c.add_rests.new.self
    (sym c.method-2.ensures ∙ c.in-Some-method.is) (sym c.method.ensures ∙ c.in-Some.is)
    (sym c.parameter_count.ensures ∙ c.if-parameter_count.false ∙ c.parameter_count-2.ensures) (c.is_within_method.ensures.0 c.if-not-is_within_method.false)
    (let P : List Pair → Type 0 = λ l. IsGrown l c.add_rests.new.self (rests_on c.in-Some-method.found c.in-Some.asked) in subst P c.in_ok-spend.ensures c.in_ok-add_rests.ensures)
