use Rattle.std.proofs.Common.{List, sym, subst}
use Rattle.wy_certify.specs.declared.step.Step as own
use Rattle.wy_certify.specs.PartTable.{AreNumbers}
use Rattle.wy_certify.specs.Step.{steps_of}
use Rattle.wy_certify.proofs.listing.written_by.Goals as goal

pub cert_nodes_of-requires : goal.cert_nodes_of-requires
cert_nodes_of-requires c = subst (λ (l : List own.Step). AreNumbers c.args.table.now (steps_of l)) (sym c.as_slice-5.ensures) c.requires
