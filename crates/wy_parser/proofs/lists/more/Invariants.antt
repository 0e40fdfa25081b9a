use Rattle.std.proofs.Common.{◌≡◌, ◌-◌}
use Rattle.wy_syntax.specs.Tokens.{code, toks}
use Rattle.wy_parser.specs.Reading.{fold_many}
use Rattle.wy_parser.specs.Parsing.{snoc}
use Rattle.wy_parser.specs.Sorts.{numbers}
use Rattle.wy_parser.proofs.lists.more.Given as goal

abbrev pub invariant-loop : goal.invariant-loop
invariant-loop t l = fold_many code (l.turns - l.counter) (numbers l.set) (t.E.Entry.reads l.entry) snoc l.items (toks l.rest) ≡ fold_many code l.turns (numbers l.set) (t.E.Entry.reads l.entry) snoc l.fn.items (toks l.tokens)
