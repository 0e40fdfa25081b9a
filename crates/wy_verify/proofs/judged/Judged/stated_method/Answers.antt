use Rattle.std.proofs.Common.{◌∙◌}
use Rattle.wy_verify.proofs.Finding.{stated_absent, stated_lost, stated_is_found, stated_is_ready}
use Rattle.wy_verify.proofs.judged.Judged.stated_method.Goals as goal

pub returns-in_err-entry : goal.returns-in_err-entry
returns-in_err-entry c =
    c.from_residual.ensures ∙
    stated_absent c.self.inside.file.now c.args.self.now c.self.view_is c.self.inside.tables.stated.entries c.self.invariant.2.stated_is c.args.instance c.args.body c.in_err-entry.ensures

pub returns-in_err-bounds : goal.returns-in_err-bounds
returns-in_err-bounds c =
    absurd (stated_lost c.self.inside.file.now c.args.self.now c.self.view_is c.self.inside.tables.stated.entries c.self.invariant.2.stated_is c.args.instance c.args.body
    c.in_ok-entry.entry.now c.in_ok-typing.typing.now c.in_ok-entry.ensures c.in_ok-typing.ensures c.in_err-bounds.ensures)

pub invariant_of-result : goal.invariant_of-result
invariant_of-result c =
    stated_is_ready c.self.inside.file.now c.args.self.now c.self.view_is c.self.inside.tables.stated.entries c.self.invariant.2.stated_is c.args.instance c.args.body
    c.in_ok-entry.entry.now c.in_ok-typing.typing.now c.in_ok-bounds.bounds.now c.in_ok-entry.ensures c.in_ok-typing.ensures c.in_ok-bounds.ensures c.self.invariant.1

pub returns : goal.returns
returns c =
    stated_is_found c.self.inside.file.now c.args.self.now c.self.view_is c.self.inside.tables.stated.entries c.self.invariant.2.stated_is c.args.instance c.args.body
    c.in_ok-entry.entry.now c.in_ok-typing.typing.now c.in_ok-bounds.bounds.now c.in_ok-entry.ensures c.in_ok-typing.ensures c.in_ok-bounds.ensures
