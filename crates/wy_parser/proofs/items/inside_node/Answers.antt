use Rattle.wy_syntax.specs.Tokens.{toks}
use Rattle.wy_syntax.specs.Views.{inside_tree}
use Rattle.wy_parser.proofs.Turns.{gives_view}
use Rattle.wy_parser.proofs.items.inside_node.Goals as goal

pub returns : goal.returns
returns c = gives_view inside_tree c.boxed.result c.args.inside (toks c.args.rest.now) c.boxed.ensures
