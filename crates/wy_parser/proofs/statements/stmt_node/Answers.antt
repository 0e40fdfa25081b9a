use Rattle.wy_syntax.specs.Tokens.{toks}
use Rattle.wy_syntax.specs.Views.{stmt_tree}
use Rattle.wy_parser.proofs.Turns.{gives_view}
use Rattle.wy_parser.proofs.statements.stmt_node.Goals as goal

pub returns : goal.returns
returns c = gives_view stmt_tree c.boxed.result c.args.stmt (toks c.args.rest.now) c.boxed.ensures
