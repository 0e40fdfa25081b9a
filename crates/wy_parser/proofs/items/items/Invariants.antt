use Rattle.std.proofs.Common.{◌≡◌, ◌-◌, map}
use Rattle.wy_syntax.specs.Tokens.{code, toks}
use Rattle.wy_syntax.specs.Views.{item_tree}
use Rattle.wy_parser.specs.Reading.{fold_many}
use Rattle.wy_parser.specs.ItemParsing.{item_first, item, items}
use Rattle.wy_parser.specs.Parsing.{snoc}
use Rattle.wy_parser.proofs.items.items.Given as goal

abbrev pub invariant-loop : goal.invariant-loop
invariant-loop l = fold_many code (l.turns - l.counter) item_first (item l.turns) snoc (map item_tree l.items.items) (toks l.rest) ≡ items l.turns (toks l.tokens)
