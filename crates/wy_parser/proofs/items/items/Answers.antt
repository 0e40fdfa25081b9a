use Rattle.std.proofs.Common.{◌+◌, ◌-◌, arith, sym, ◌∙◌, subst, map}
use Rattle.std.proofs.lemmas.Result.{err_from_is_err_and}
use Rattle.wy_syntax.specs.Tokens.{toks}
use Rattle.wy_syntax.specs.Views.{item_tree}
use Rattle.wy_parser.specs.declared.stop.Stop.{Stop}
use Rattle.wy_parser.specs.ItemParsing.{item_first, item, items}
use Rattle.wy_parser.specs.Parsing.{snoc}
use Rattle.wy_parser.specs.Sorts.{Halts}
use Rattle.wy_parser.proofs.Turns.{part_turn, part_halts, fold_ends, gives_err, pushed}
use Rattle.wy_parser.proofs.items.items.Goals as goal

pub loop-preserved : goal.loop-preserved
loop-preserved c = part_turn (c.args.turns - c.loop.counter) (c.args.turns - (c.loop.counter + 1)) item_first (item c.args.turns) snoc (map item_tree c.loop.items.items) (map item_tree c.push.new.self.items) (item_tree c.in_ok-item.item.value) (toks c.loop.rest.now) (toks c.in_ok-item.after.now) _ (omega arith) (sym c.begins.ensures ∙ c.if-not-begins.false) c.in_ok-item.ensures (pushed item_tree c.loop.items.items c.push.new.self.items c.into_inner.result c.in_ok-item.item.value c.in_ok-push.ensures.items c.into_inner.ensures) c.loop.invariant

pub returns-then-not-begins : goal.returns-then-not-begins
returns-then-not-begins c = sym c.loop.invariant ∙ fold_ends (c.args.turns - c.loop.counter) item_first (item c.args.turns) snoc (map item_tree c.loop.items.items) (toks c.loop.rest.now) (omega arith) (sym c.begins.ensures ∙ c.if-not-begins.true)

pub returns-in_err-item : goal.returns-in_err-item
returns-in_err-item c =
    let p = err_from_is_err_and c.from_residual.result c.from_residual.ensures.1 in
    let h = part_halts (c.args.turns - c.loop.counter) item_first (item c.args.turns) snoc (map item_tree c.loop.items.items) (toks c.loop.rest.now) _ c.in_err-item.field-0.0 (omega arith) (sym c.begins.ensures ∙ c.if-not-begins.false) c.in_err-item.ensures c.loop.invariant in
    gives_err (λ v. map item_tree v.items) c.from_residual.result p.0 _ p.1 (subst (λ (e : Stop). Halts e (items c.args.turns (toks c.args.tokens.now))) (sym p.2) h)
