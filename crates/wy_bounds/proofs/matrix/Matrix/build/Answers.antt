use Rattle.std.proofs.Common.{◌≡◌, ◌∙◌, [], List, Bool as Truth, true, false, drop, sym, ap}
use Rattle.wy_effects.proofs.Walks.{drop_none}
use Rattle.wy_types.specs.Program.{program_of}
use Rattle.wy_types.proofs.Bounding.{go_down}
use Rattle.wy_bounds.specs.declared.entry.Entry.{Entry}
use Rattle.wy_bounds.specs.declared.matrix.Side.{Side}
use Rattle.wy_bounds.specs.Matrix.{no_effects, side_of, IsSide}
use Rattle.wy_bounds.proofs.Sides.{side_is}
use Rattle.wy_bounds.proofs.matrix.Matrix.build.Goals as goal

pub returns : goal.returns
returns c =
    let program = program_of c.args.core.now in
    let scope = c.args.scope in
    let whole = c.in_ok-table.ensures in
    let items = c.as_slice-entry-items.result.now in
    let ended : drop c.loop-entry.entry-index items ≡ [] = drop_none items c.loop-entry.entry-index c.loop-entry-test.false in
    let side : (positive : Truth) (s : Side) → side_of program scope positive (drop c.loop-entry.entry-index items) s ≡ side_of program scope positive items no_effects → IsSide program scope c.args.t.now positive s =
    λ positive s eq. side_is program scope positive c.args.t.now c.in_ok-table.table whole s
    (sym (ap (λ (l : List Entry). side_of program scope positive l s) ended) ∙ eq ∙ ap (λ (l : List Entry). side_of program scope positive l no_effects) c.as_slice-entry-items.ensures) in
    record {
      down = go_down program c.requires.core scope;
      whole = whole;
      positive_is = side true c.loop-entry.positive c.loop-entry.invariant.0;
      negative_is = side false c.loop-entry.negative c.loop-entry.invariant.1;
    }
