use Rattle.std.proofs.Common.{sym, ap, ◌∙◌}
use Rattle.std.proofs.lemmas.Result.{on_ok_weaker}
use Rattle.wy_types.specs.View.{values_of, block_of}
use Rattle.wy_types.specs.Program.{start_of}
use Rattle.wy_certify.specs.Settling.{standing_of, values_settled, block_settled}
use Rattle.wy_certify.proofs.Settled.{init_settled, run_settled}
use Rattle.wy_certify.proofs.settling.Settler.settle_start.Goals as goal

pub returns-in-Init : goal.returns-in-Init
unfolding standing_of
returns-in-Init c =
    let w = standing_of c.args.self.now in
    let xs = values_of c.in-Init.values.items in
    on_ok_weaker c.settle_values.result (λ h. h ∙ ap (values_settled w xs) c.requires.first ∙ sym (init_settled w xs c.requires.none (ap start_of c.in-Init.is))) c.settle_values.ensures

pub returns-in-Run : goal.returns-in-Run
unfolding standing_of
returns-in-Run c =
    let w = standing_of c.args.self.now in
    let b = block_of c.in-Run.block in
    on_ok_weaker c.settle_block.result (λ h. h ∙ ap (block_settled w b) c.requires.first ∙ sym (run_settled w b c.requires.none (ap start_of c.in-Run.is))) c.settle_block.ensures
