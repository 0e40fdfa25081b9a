use Rattle.std.proofs.Common.{◌↔◌, IsTrue, List, subst}
use Rattle.wy_text.specs.Members.{In}
use Rattle.wy_image.specs.declared.typing.Atom.{Atom}
use Rattle.wy_image.specs.declared.typing.Reference.{Reference}
use Rattle.wy_verified.specs.Ranges.{AreInRange, AtomInRange}
use Rattle.wy_verify.proofs.RangeJoins.{bounds_of, bounds_name, bounds_types, bounds_stored}
use Rattle.wy_verify.proofs.RangeTests.{refuted, reworded}
use Rattle.wy_verify.proofs.ranges.bounds.is_bounds.Goals as goal

pub returns-then-not-has_its_name : goal.returns-then-not-has_its_name
returns-then-not-has_its_name c =
    refuted c.has_its_name.result c.if-not-has_its_name.true
    (c.has_its_name.ensures c.args.writer.now.file.now c.requires.tables)
    (bounds_name c.args.writer.now.file.now c.args.writer.now.instance c.args.writer.now.scope.now c.args.body.now c.args.bounds.now)

pub returns-then-not-are_atoms : goal.returns-then-not-are_atoms
returns-then-not-are_atoms c =
    refuted c.are_atoms.result c.if-not-are_atoms.true
    (subst (λ (l : List Atom). IsTrue c.are_atoms.result ↔ ((a : Atom) → In a l → AtomInRange c.args.writer.now.file.now a)) c.as_slice-effect.ensures c.are_atoms.ensures)
    (λ h. h.atoms)

pub returns-then-not-has_its_types : goal.returns-then-not-has_its_types
returns-then-not-has_its_types c =
    refuted c.has_its_types.result c.if-not-has_its_types.true
    (c.has_its_types.ensures)
    (bounds_types c.args.writer.now.file.now c.args.writer.now.instance c.args.writer.now.scope.now c.args.body.now c.args.bounds.now)

pub returns-then-not-has_vals : goal.returns-then-not-has_vals
returns-then-not-has_vals c =
    refuted c.has_vals.result c.if-not-has_vals.true
    (c.has_vals.ensures c.args.writer.now.file.now c.args.body.now c.requires.tables c.requires.body)
    (bounds_stored c.args.writer.now.file.now c.args.writer.now.instance c.args.writer.now.scope.now c.args.body.now c.args.bounds.now)

pub returns-then-not-are_references : goal.returns-then-not-are_references
returns-then-not-are_references c =
    refuted c.are_references.result c.if-not-are_references.true
    (subst (λ (l : List Reference). IsTrue c.are_references.result ↔ AreInRange c.args.writer.now.file.now c.args.writer.now.instance c.args.writer.now.scope.now l) c.as_slice-vals.ensures c.are_references.ensures)
    (λ h. h.vals)

pub returns : goal.returns
returns c =
    reworded c.has_targets.result
    (c.has_targets.ensures)
    (λ p. bounds_of c.args.writer.now.file.now c.args.writer.now.instance c.args.writer.now.scope.now c.args.body.now c.args.bounds.now ((c.has_its_name.ensures c.args.writer.now.file.now c.requires.tables).0 c.if-not-has_its_name.false) ((subst (λ (l : List Atom). IsTrue c.are_atoms.result ↔ ((a : Atom) → In a l → AtomInRange c.args.writer.now.file.now a)) c.as_slice-effect.ensures c.are_atoms.ensures).0 c.if-not-are_atoms.false) ((c.has_its_types.ensures).0 c.if-not-has_its_types.false) ((c.has_vals.ensures c.args.writer.now.file.now c.args.body.now c.requires.tables c.requires.body).0 c.if-not-has_vals.false) ((subst (λ (l : List Reference). IsTrue c.are_references.result ↔ AreInRange c.args.writer.now.file.now c.args.writer.now.instance c.args.writer.now.scope.now l) c.as_slice-vals.ensures c.are_references.ensures).0 c.if-not-are_references.false) p)
    (λ h. h.targets)
