use Rattle.wy_verify.proofs.Reading.{short_target}
use Rattle.wy_verify.proofs.site.Site.target.Goals as goal

pub returns-clause-short : goal.returns-clause-short
returns-clause-short c =
    short_target c.self.inside.bounds.now.targets c.in-Some.number c.get.result c.get.ensures c.self.invariant.targets
