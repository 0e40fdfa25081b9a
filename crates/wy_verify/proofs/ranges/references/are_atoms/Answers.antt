use Rattle.wy_verified.specs.Ranges.{AtomInRange}
use Rattle.wy_image.specs.declared.typing.Atom.{Atom}
use Rattle.wy_verify.proofs.RangeTests.{one_fails, one_more, none_fails}
use Rattle.wy_verify.proofs.ranges.references.are_atoms.Goals as goal

pub returns-then-not-is_atom : goal.returns-then-not-is_atom
returns-then-not-is_atom c =
    let d : Atom = record { grant = 0; member = 0 } in one_fails (AtomInRange c.args.file.now) c.args.atoms.now c.loop-atom.atom-index d c.is_atom.result c.loop-atom-test.true c.if-not-is_atom.true
    c.is_atom.ensures

pub loop-atom-preserved : goal.loop-atom-preserved
loop-atom-preserved c =
    let d : Atom = record { grant = 0; member = 0 } in one_more (AtomInRange c.args.file.now) c.args.atoms.now c.loop-atom.atom-index d c.is_atom.result c.loop-atom-test.true c.loop-atom.invariant
    c.if-not-is_atom.false c.is_atom.ensures

pub returns : goal.returns
returns c = none_fails (AtomInRange c.args.file.now) c.args.atoms.now c.loop-atom.atom-index c.loop-atom-test.false c.loop-atom.invariant
