use Rattle.wy_syntax.specs.Tokens.{toks}
use Rattle.wy_syntax.specs.Views.{item_tree}
use Rattle.wy_parser.proofs.Turns.{gives_view}
use Rattle.wy_parser.proofs.items.item_node.Goals as goal

pub returns : goal.returns
returns c = gives_view item_tree c.boxed.result c.args.item (toks c.args.rest.now) c.boxed.ensures
