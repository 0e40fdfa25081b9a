use Rattle.std.proofs.Common.{◌+◌, ◌-◌, arith, sym, ◌∙◌, subst}
use Rattle.std.proofs.lemmas.Result.{err_from_is_err_and}
use Rattle.wy_syntax.specs.Tokens.{code, toks}
use Rattle.wy_parser.specs.declared.stop.Stop.{Stop}
use Rattle.wy_parser.specs.Reading.{fold_many}
use Rattle.wy_parser.specs.Parsing.{snoc}
use Rattle.wy_parser.specs.Sorts.{Halts, numbers}
use Rattle.wy_parser.proofs.Turns.{part_turn, part_halts, fold_ends, gives_err}
use Rattle.wy_parser.proofs.lists.more.Goals as goal

pub loop-preserved : goal.loop-preserved
loop-preserved t c = part_turn (c.args.turns - c.loop.counter) (c.args.turns - (c.loop.counter + 1)) (numbers c.args.set.now) (t.E.Entry.reads c.args.entry.now) snoc c.loop.items c.push.new.self c.in_ok-item.item (toks c.loop.rest.now) (toks c.in_ok-item.after.now) _ (omega arith) (sym c.begins.ensures ∙ c.if-not-begins.false) c.in_ok-item.ensures c.in_ok-push.ensures.ok c.loop.invariant

pub returns-then-not-begins : goal.returns-then-not-begins
returns-then-not-begins t c = sym c.loop.invariant ∙ fold_ends (c.args.turns - c.loop.counter) (numbers c.args.set.now) (t.E.Entry.reads c.args.entry.now) snoc c.loop.items (toks c.loop.rest.now) (omega arith) (sym c.begins.ensures ∙ c.if-not-begins.true)

pub returns-in_err-item : goal.returns-in_err-item
returns-in_err-item t c =
    let p = err_from_is_err_and c.from_residual.result c.from_residual.ensures.1 in
    let h = part_halts (c.args.turns - c.loop.counter) (numbers c.args.set.now) (t.E.Entry.reads c.args.entry.now) snoc c.loop.items (toks c.loop.rest.now) _ c.in_err-item.field-0.0 (omega arith) (sym c.begins.ensures ∙ c.if-not-begins.false) c.in_err-item.ensures c.loop.invariant in
    gives_err (λ l. l) c.from_residual.result p.0 _ p.1 (subst (λ (e : Stop). Halts e (fold_many code c.args.turns (numbers c.args.set.now) (t.E.Entry.reads c.args.entry.now) snoc c.args.items (toks c.args.tokens.now))) (sym p.2) h)
