use Rattle.std.proofs.Common.{◌≡◌, ◌<◌, ◌+◌, ◌++◌, ap, sym, ◌∙◌, rules, drop, take, length, arith, map}
use Rattle.std.specs.Prelude.{Some, slice_get}
use Rattle.wy_symbols.specs.Atoms.{head_names, line_owner}
use Rattle.wy_heads.specs.Lines.{line_refusals, lines_refusals}
use Rattle.wy_symbols.proofs.Turns.{next_of}
use Rattle.wy_symbols.proofs.Leasts.{noted_turn}
use Rattle.wy_symbols.specs.Lent.{module_tree}
use Rattle.wy_heads.proofs.Places.{at_place, take_next}
use Rattle.wy_heads.proofs.lines.note_lines.Goals as goal

pub loop-i-preserved : goal.loop-i-preserved
loop-i-preserved c =
    let lt : c.loop-i.i < length c.args.lines.now = search rules in
    let o = c.args.owners.now in
    let modules = map module_tree c.args.modules.now in
    let own = line_owner (head_names o.heads) modules in
    let x = c.index-lines-i.result in
    let n = c.args.first + c.loop-i.i in
    let left = drop (c.loop-i.i + 1) c.args.lines.now in
    let refusals = lines_refusals o.heads modules o.atoms in
    let at : slice_get o.owners n ≡ Some (own x) = at_place own o.owners c.args.lines.now c.args.first c.loop-i.i x c.requires.there lt c.index-lines-i.is in
    let more : c.args.first + (c.loop-i.i + 1) ≡ n + 1 = omega arith in
    let before = ap (λ k. take k o.owners) more ∙ take_next o.owners n (own x) at in
    let one = line_refusals o.heads modules o.atoms (take n o.owners) x in
    noted_turn c.loop-i.least c.note_line.new.least c.args.least.now one
    (refusals (take (c.args.first + (c.loop-i.i + 1)) o.owners) left) (refusals (take n o.owners) (drop c.loop-i.i c.args.lines.now)) (refusals (take c.args.first o.owners) c.args.lines.now)
    c.note_line.ensures
    (ap (refusals (take n o.owners)) (next_of c.args.lines.now c.loop-i.i x lt c.index-lines-i.is) ∙ ap (λ b. one ++ refusals b left) (sym before))
    c.loop-i.invariant
