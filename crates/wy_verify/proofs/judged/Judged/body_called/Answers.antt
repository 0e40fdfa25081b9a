use Rattle.std.proofs.Common.{◌∙◌, ap}
use Rattle.wy_verified.specs.Images.{Image}
use Rattle.wy_verify.proofs.Finding.{called_is_found}
use Rattle.wy_verify.proofs.judged.Judged.body_called.Goals as goal

pub returns : goal.returns
returns c =
    called_is_found c.self.inside.code c.self.inside.tables.called.bodies c.self.invariant.2.called_is c.args.self.now.code (c.self.invariant.0 ∙ ap (λ (i : Image). i.code) c.self.view_is)
    c.args.instance c.in_ok-scope.scope c.args.literal c.args.number c.find.result c.find.ensures (c.in_ok-scope.ensures c.args.literal)
