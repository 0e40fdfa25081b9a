use Rattle.std.proofs.Common.{subst}
use Rattle.std.specs.Prelude.{◌↔◌, IfOk}
use Rattle.wy_subtype.specs.Verdict.{IsYes, IsSubtypeIn}
use Rattle.wy_subtype.specs.Decided.{Decided}
use Rattle.wy_subtype.proofs.one_pair.subtype.Goals as goal

pub returns-clause-exact : goal.returns-clause-exact
returns-clause-exact c =
    let P : Decided → Type 0 = λ d. IfOk c.verdict.result (λ v. IsYes v ↔ IsSubtypeIn d.about.program d.about.scope d.about.mode c.args.s.now c.args.t.now) in
    subst P c.new-table.ensures c.verdict.ensures.exact
