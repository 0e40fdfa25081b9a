use Rattle.std.proofs.Common.{get_or, sym, ap, ◌∙◌, Some}
use Rattle.wy_image.specs.declared.typing.Reference.TheVariants as written
use Rattle.wy_verify.proofs.Reading.{read_default, written_there}
use Rattle.wy_verify.proofs.kinds.kind_there.Goals as goal

pub kind_of-requires : goal.kind_of-requires
kind_of-requires c =
    c.requires.short c.args.at (get_or c.args.references.now c.args.at written.Int)
    (read_default c.args.references.now c.args.at written.Int c.requires.inside)

pub returns : goal.returns
returns c =
    written_there c.args.x c.args.references.now c.args.at (get_or c.args.references.now c.args.at written.Int)
    (read_default c.args.references.now c.args.at written.Int c.requires.inside) ∙ ap Some (sym c.kind_of.ensures)
