use Rattle.std.proofs.Common.{◌≡◌, ap, ◌∙◌}
use Rattle.std.proofs.lemmas.Result.{IfOk-weaker}
use Rattle.wy_types.specs.View.{expr_of, values_of}
use Rattle.wy_types.proofs.Rows.{expr_call}
use Rattle.wy_certify.specs.Written.{expr_typ, result_typ}
use Rattle.wy_certify.specs.Writer.{context_of}
use Rattle.wy_certify.proofs.Parts.{binary_typ, call_typ}
use Rattle.wy_certify.proofs.writer.Writer.+expr_type.Goals as goal

pub returns-in_ok-first-in-Binary : goal.returns-in_ok-first-in-Binary
returns-in_ok-first-in-Binary t c =
    let w = context_of c.args.self.now in
    let op = c.in-Binary.operator in
    let at = ap expr_of c.deref.ensures in
    let first : c.in_ok-first-in-Binary.first ≡ expr_typ w (expr_of c.deref.result.now) = c.in_ok-first-in-Binary.ensures in
    let row : c.binary_row.result.result ≡ result_typ w op c.in_ok-first-in-Binary.first = c.binary_row.ensures.result w in
    let whole = ap (expr_typ w) (ap expr_of c.in-Binary.is) ∙ binary_typ w c.in-Binary.field-0 op (expr_of c.in-Binary.x.value) (expr_of c.in-Binary.field-3.value) in
    cc

pub returns-in_ok-receiver-in-Call : goal.returns-in_ok-receiver-in-Call
returns-in_ok-receiver-in-Call t c =
    let w = context_of c.args.self.now in
    let name = c.in-Call.name in
    let at = ap expr_of c.deref-in-Call.ensures in
    let typ : c.in_ok-receiver-in-Call.receiver ≡ expr_typ w (expr_of c.deref-in-Call.result.now) = c.in_ok-receiver-in-Call.ensures in
    let form = ap expr_of c.in-Call.is ∙ expr_call c.in-Call.field-0 c.in-Call.x name c.in-Call.field-3 in
    let whole = ap (expr_typ w) form ∙ call_typ w c.in-Call.field-0 (expr_of c.in-Call.x.value) name (values_of c.in-Call.field-3.items) in
    IfOk-weaker c.call_type.result _ _ (λ t result. cc) c.call_type.ensures
