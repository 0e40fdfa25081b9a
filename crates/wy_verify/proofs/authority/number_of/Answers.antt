use Rattle.std.proofs.Common.{ℕ, ◌+◌, ap, ◌∙◌}
use Rattle.wy_verify.proofs.authority.number_of.Goals as goal
use Rattle.wy_verify.proofs.authority.number_of.Goals.{in-Some, in-None}
use Rattle.wy_verify.proofs.Numbering.{first_some, first_none}

pub returns : goal.returns
returns c =
    let firsts = c.args.firsts.now in
    let k = c.args.atom.grant in
    ap (λ (n : ℕ). n + c.args.atom.member) (elim c.match-get.branch [
      | in-Some w ↦ w.first-is ∙ first_some firsts k w.in-Some.first.now w.in-Some.ensures
      | in-None w ↦ w.first-is ∙ first_none firsts k w.in-None.ensures
    ])
