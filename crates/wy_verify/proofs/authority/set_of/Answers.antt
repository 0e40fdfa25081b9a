use Rattle.std.proofs.Common.{List, get_or, subst, arith}
use Rattle.wy_text.specs.Members.{In}
use Rattle.wy_text.proofs.Lists.{In-get}
use Rattle.wy_image.specs.declared.typing.Atom.{Atom}
use Rattle.wy_verify.proofs.authority.set_of.Goals as goal

pub number_of-requires : goal.number_of-requires
number_of-requires c =
    let d : Atom = record { grant = 0; member = 0 } in
    let items = c.as_slice-atom-items.result.now in
    let P : List Atom → Type 0 = λ l. In (get_or items c.loop-atom.atom-index d) l in
    c.requires (get_or items c.loop-atom.atom-index d) (subst P c.as_slice-atom-items.ensures (In-get items c.loop-atom.atom-index d c.loop-atom-test.true))

pub insert-requires : goal.insert-requires
insert-requires c =
    let d : Atom = record { grant = 0; member = 0 } in
    let items = c.as_slice-atom-items.result.now in
    let P : List Atom → Type 0 = λ l. In (get_or items c.loop-atom.atom-index d) l in
    let s = c.requires (get_or items c.loop-atom.atom-index d) (subst P c.as_slice-atom-items.ensures (In-get items c.loop-atom.atom-index d c.loop-atom-test.true)) in
    let e = c.number_of.ensures in
    omega (arith, e, s)
