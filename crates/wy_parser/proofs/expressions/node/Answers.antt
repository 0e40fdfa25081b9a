use Rattle.wy_syntax.specs.Tokens.{toks}
use Rattle.wy_syntax.specs.Views.{expr_tree}
use Rattle.wy_parser.proofs.Turns.{gives_view}
use Rattle.wy_parser.proofs.expressions.node.Goals as goal

pub returns : goal.returns
returns c = gives_view expr_tree c.boxed.result c.args.e (toks c.args.rest.now) c.boxed.ensures
