use Rattle.std.proofs.Common.{◌≡◌, true, false, rules}
use Rattle.std.proofs.lemmas.Result.{IfOk-weaker}
use Rattle.wy_types.specs.Program.{program_of, scope_of}
use Rattle.wy_recheck.proofs.NodesTested.{annotated_listed, plain_listed}
use Rattle.wy_recheck.proofs.reader.Reader.lists.Goals as goal

pub returns-then-not-self : goal.returns-then-not-self
returns-then-not-self c =
    let r = c.args.self.now in
    let say = c.lists_are_exact.ensures (program_of r.core.now) r.number (scope_of r.scope.now) r.part.now c.requires.reader.core c.requires.reader.there in
    let bare : r.plain ≡ false = search rules in
    let st = rw bare at c.requires.reader.listed in
    rw bare (IfOk-weaker c.contains.result _ _ (λ t h. annotated_listed (program_of r.core.now) r.number (scope_of r.scope.now) r.part.now say r.listed.now c.args.left.now c.args.right.now t st h) c.contains.ensures)

pub returns : goal.returns
returns c =
    let r = c.args.self.now in
    let say = c.lists_are_exact.ensures (program_of r.core.now) r.number (scope_of r.scope.now) r.part.now c.requires.reader.core c.requires.reader.there in
    let bare : r.plain ≡ true = search rules in
    let st = rw bare at c.requires.reader.listed in
    rw bare (IfOk-weaker c.contains_erased.result _ _ (λ t h. plain_listed (program_of r.core.now) r.number (scope_of r.scope.now) r.part.now say r.listed.now c.args.left.now c.args.right.now t st h) c.contains_erased.ensures)
