use Rattle.std.proofs.Common.{[], ◌∷◌, None}
use Rattle.wy_verified.specs.Ranges.{literal_roles}
use Rattle.wy_verify.specs.Tables.{same_pair, Adds, role_notes, code_roles}
use Rattle.wy_verify.proofs.Finding.{on_ok}
use Rattle.wy_verify.proofs.Noting.{adds_then}
use Rattle.wy_verify.proofs.tables.Owners.add_scope.Goals as goal

pub returns : goal.returns
returns c =
    let n = c.args.number in
    let x = c.args.scope.now in
    let old = c.args.self.now.owners in
    let m = c.note.new.self.owners in
    let new = c.add_literals.new.self.owners in
    let rest = role_notes n (literal_roles 0 x.literals) in
    on_ok c.add_literals.result (Adds same_pair m new rest) (Adds same_pair old new (role_notes n (code_roles x)))
    (λ b. adds_then same_pair old m new (role_notes n ((None, x.start) ∷ [])) rest c.in_ok-note.ensures b)
    c.add_literals.ensures
