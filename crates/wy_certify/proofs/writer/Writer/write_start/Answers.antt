use Rattle.std.proofs.Common.{◌≡◌, ◌++◌, ◌∷◌, [], List, ℕ, None, length, sym, ap, ◌∙◌, rules}
use Rattle.wy_types.specs.declared.types.TypeRef.{TypeRef}
use Rattle.wy_types.specs.View.{values_of, block_of}
use Rattle.wy_types.specs.Program.{start_of}
use Rattle.wy_cert.specs.declared.certificate.Rule.TheVariants.{Body}
use Rattle.wy_proving.specs.Steps.{Step, step}
use Rattle.wy_certify.specs.Written.{field_typs, all_steps}
use Rattle.wy_certify.specs.Writer.{context_of}
use Rattle.wy_certify.proofs.Bodies.{init_written, run_written}
use Rattle.wy_certify.proofs.Gathering.{so, two}
use Rattle.wy_certify.proofs.Turns.{counted}
use Rattle.wy_certify.proofs.writer.Writer.write_start.Goals as goal

pub returns-in-Init : goal.returns-in-Init
unfolding context_of
returns-in-Init c =
    let w = context_of c.args.self.now in
    let xs = values_of c.in-Init.values.items in
    let long : c.len.result ≡ length c.in-Init.values.items = search rules in
    let number = long ∙ sym (counted c.in-Init.values.items) in
    let own : ℕ → List (Step TypeRef) = λ (n : ℕ). step Body c.args.self.now.scope.now.start_place n None [] ∷ [] in
    so (two (c.take_types-types.ensures (field_typs w 0) c.field_types.ensures) (two c.write_values.ensures c.add_body.ensures)) (λ g. (
      ap (λ (ts : List TypeRef). all_steps w xs ts ++ own c.len.result) (c.as_slice.ensures ∙ g.0) ∙ ap (λ (n : ℕ). all_steps w xs (field_typs w 0) ++ own n) number ∙
          sym (init_written w xs c.requires (ap start_of c.in-Init.is)),
      tt,
    ))

pub returns-in-Run : goal.returns-in-Run
unfolding context_of
returns-in-Run c =
    let w = context_of c.args.self.now in
    so (two c.write_block_at.ensures c.add_body-in-Run.ensures) (λ g. (sym (run_written w (block_of c.in-Run.block) c.requires (ap start_of c.in-Run.is)), tt))
