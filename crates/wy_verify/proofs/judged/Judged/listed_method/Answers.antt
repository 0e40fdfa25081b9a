use Rattle.std.proofs.Common.{◌∙◌}
use Rattle.wy_verify.proofs.Finding.{listed_absent, listed_lost, listed_is_found, listed_is_ready}
use Rattle.wy_verify.proofs.judged.Judged.listed_method.Goals as goal

pub returns-in_err-entry : goal.returns-in_err-entry
returns-in_err-entry c =
    c.from_residual.ensures ∙
    listed_absent c.self.inside.file.now c.args.self.now c.self.view_is c.self.inside.tables.listed.entries c.self.invariant.2.listed_is c.args.listed c.args.number c.in_err-entry.ensures

pub returns-in_err-signature : goal.returns-in_err-signature
returns-in_err-signature c =
    absurd (listed_lost c.self.inside.file.now c.args.self.now c.self.view_is c.self.inside.tables.listed.entries c.self.invariant.2.listed_is c.args.listed c.args.number
    c.in_ok-entry.entry.now c.in_ok-signatures.signatures.now c.in_ok-entry.ensures c.in_ok-signatures.ensures c.in_err-signature.ensures)

pub invariant_of-result : goal.invariant_of-result
invariant_of-result c =
    listed_is_ready c.self.inside.file.now c.args.self.now c.self.view_is c.self.inside.tables.listed.entries c.self.invariant.2.listed_is c.args.listed c.args.number
    c.in_ok-entry.entry.now c.in_ok-signatures.signatures.now c.in_ok-signature.signature.now c.in_ok-entry.ensures c.in_ok-signatures.ensures c.in_ok-signature.ensures c.self.invariant.1

pub returns : goal.returns
returns c =
    listed_is_found c.self.inside.file.now c.args.self.now c.self.view_is c.self.inside.tables.listed.entries c.self.invariant.2.listed_is c.args.listed c.args.number
    c.in_ok-entry.entry.now c.in_ok-signatures.signatures.now c.in_ok-signature.signature.now c.in_ok-entry.ensures c.in_ok-signatures.ensures c.in_ok-signature.ensures
