use Rattle.std.proofs.Common.{◌∙◌, sym, ap, subst}
use Rattle.std.specs.Prelude.{slice_get}
use Rattle.wy_verified.specs.Kinds.{MethodType}
use Rattle.wy_verify.specs.declared.methods.Found.{Found}
use Rattle.wy_verify.specs.Found.{IsReadyFound, method_found}
use Rattle.wy_verify.proofs.Finding.{plain_read, kind_read}
use Rattle.wy_verify.proofs.methods.FoundMethod.parameter.Goals as goal

pub plain_kind-requires : goal.plain_kind-requires
plain_kind-requires c =
    let r = subst IsReadyFound c.in-Listed.is c.self.invariant in
    plain_read c.in-Listed.signature.now.parameters c.args.at c.item_at.result.now r.plain c.item_at.ensures

pub plain_kind-requires-in-Stated : goal.plain_kind-requires-in-Stated
plain_kind-requires-in-Stated c =
    let r = subst IsReadyFound c.in-Stated.is c.self.invariant in
    plain_read c.in-Stated.bounds.now.parameters c.args.at c.item_at-in-Stated.result.now r.plain c.item_at-in-Stated.ensures

pub returns-in-Listed : goal.returns-in-Listed
returns-in-Listed c =
    sym (ap (λ (t : MethodType). slice_get t.params c.args.at) c.self.view_is) ∙ ap (λ (f : Found). slice_get (method_found f).params c.args.at) c.in-Listed.is ∙
    kind_read 0 c.args.at c.in-Listed.signature.now.parameters c.item_at.result.now c.plain_kind.result c.item_at.ensures c.plain_kind.ensures

pub returns-in-Stated : goal.returns-in-Stated
returns-in-Stated c =
    sym (ap (λ (t : MethodType). slice_get t.params c.args.at) c.self.view_is) ∙ ap (λ (f : Found). slice_get (method_found f).params c.args.at) c.in-Stated.is ∙
    kind_read c.in-Stated.instance c.args.at c.in-Stated.bounds.now.parameters c.item_at-in-Stated.result.now c.plain_kind-in-Stated.result c.item_at-in-Stated.ensures c.plain_kind-in-Stated.ensures
