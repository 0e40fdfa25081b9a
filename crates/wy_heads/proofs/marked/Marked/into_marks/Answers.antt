use Rattle.std.proofs.Common.{false, get_or, subst}
use Rattle.std.specs.Prelude.{◌↔◌, IsTrue}
use Rattle.wy_text.specs.Members.{In}
use Rattle.wy_heads.specs.Leading.{Numbers}
use Rattle.wy_heads.proofs.MarksPut.{marked_in}
use Rattle.wy_heads.proofs.marked.Marked.into_marks.Goals as goal

pub returns : goal.returns
returns c = λ k.
    let P : Numbers → Type 0 = λ n. IsTrue (get_or c.self.inside.marks k false) ↔ In k n.list in
    subst P c.self.view_is (marked_in c.self.inside.list c.self.inside.marks c.self.invariant k)
