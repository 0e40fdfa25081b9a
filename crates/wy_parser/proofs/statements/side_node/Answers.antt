use Rattle.wy_syntax.specs.Tokens.{toks}
use Rattle.wy_syntax.specs.Views.{rhs_tree}
use Rattle.wy_parser.proofs.Turns.{gives_view}
use Rattle.wy_parser.proofs.statements.side_node.Goals as goal

pub returns : goal.returns
returns c = gives_view rhs_tree c.boxed.result c.args.side (toks c.args.rest.now) c.boxed.ensures
