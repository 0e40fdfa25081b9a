use Rattle.wy_syntax.specs.Tokens.{toks}
use Rattle.wy_syntax.specs.Views.{part_tree}
use Rattle.wy_parser.proofs.Turns.{gives_view}
use Rattle.wy_parser.proofs.statements.part_node.Goals as goal

pub returns : goal.returns
returns c = gives_view part_tree c.boxed.result c.args.part (toks c.args.rest.now) c.boxed.ensures
