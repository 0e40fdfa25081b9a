use Rattle.std.proofs.Common.{sym, ap, ◌∙◌}
use Rattle.std.specs.Option.{option_copied}
use Rattle.wy_premises.proofs.ScopeKinds.{kind_there, kind_nowhere}
use Rattle.wy_premises.proofs.arguments.is_of_kind.Goals as goal

pub returns-in-Some : goal.returns-in-Some
returns-in-Some c =
    kind_there c.args.core.now c.args.kind c.args.target c.in-Some.scope.now c.eq.result (sym c.get.ensures ∙ ap option_copied c.in-Some.is) c.eq.ensures

pub returns-in-None : goal.returns-in-None
returns-in-None c = kind_nowhere c.args.core.now c.args.kind c.args.target (sym c.get.ensures ∙ ap option_copied c.in-None.is)
