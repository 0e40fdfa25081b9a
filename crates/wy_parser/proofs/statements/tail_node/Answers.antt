use Rattle.wy_syntax.specs.Tokens.{toks}
use Rattle.wy_syntax.specs.Views.{tail_tree}
use Rattle.wy_parser.proofs.Turns.{gives_view}
use Rattle.wy_parser.proofs.statements.tail_node.Goals as goal

pub returns : goal.returns
returns c = gives_view tail_tree c.boxed.result c.args.tail (toks c.args.rest.now) c.boxed.ensures
