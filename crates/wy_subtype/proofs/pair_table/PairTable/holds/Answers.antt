use Rattle.std.proofs.Common.{◌≡◌, Bool, true, subst, sym}
use Rattle.std.specs.Prelude.{◌↔◌}
use Rattle.wy_subtype.specs.Verdict.{IsSubtypeIn}
use Rattle.wy_subtype.proofs.Working.{yes_exact}
use Rattle.wy_subtype.proofs.pair_table.PairTable.holds.Goals as goal

pub returns-clause-exact : goal.returns-clause-exact
returns-clause-exact c =
    let about = c.args.self.now.about in
    let P : Bool → Type 0 = λ b. (b ≡ true) ↔ IsSubtypeIn about.program about.scope about.mode c.args.s.now c.args.t.now in
    subst P (sym c.is_yes.ensures) (yes_exact c.in_ok-verdict.verdict _ c.in_ok-verdict.ensures.exact)
