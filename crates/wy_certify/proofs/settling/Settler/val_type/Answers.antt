use Rattle.std.proofs.Common.{◌≡◌, Option, None, sym, ap, ◌∙◌}
use Rattle.std.proofs.lemmas.Result.{IfOk-weaker}
use Rattle.wy_types.specs.declared.types.TypeRef.{TypeRef}
use Rattle.wy_types.specs.Code.{Value}
use Rattle.wy_types.specs.View.{expr_of, value_of}
use Rattle.wy_types.proofs.Rows.{value_if}
use Rattle.wy_types.specs.View.{block_of}
use Rattle.wy_certify.specs.Settling.{standing_of, knowing, val_typ}
use Rattle.wy_certify.specs.Writer.{context_of}
use Rattle.wy_certify.proofs.Settled.{written_typ, initial_typ, if_typ}
use Rattle.wy_certify.proofs.settling.Settler.val_type.Goals as goal

pub returns-in-Some : goal.returns-in-Some
returns-in-Some c =
    let w = knowing (standing_of c.args.self.now) c.args.known.now in
    let x = value_of c.args.value.now in
    IfOk-weaker c.copy.result _ _ (λ t h. h ∙ sym (ap (λ (o : Option TypeRef). val_typ w o x) c.in-Some.is ∙ written_typ w c.in-Some.typ x)) c.copy.ensures

pub returns-in-Plain : goal.returns-in-Plain
unfolding standing_of context_of
returns-in-Plain c =
    let w = knowing (standing_of c.args.self.now) c.args.known.now in
    let x = value_of c.args.value.now in
    let none : c.args.written.now ≡ None = c.in_default.is in
    let whole = ap (λ (o : Option TypeRef). val_typ w o x) none ∙ ap (λ (v : Value). val_typ w None v) (ap value_of c.in-Plain.is) ∙ initial_typ w (expr_of c.in-Plain.x) in
    IfOk-weaker c.expr_type.result _ _ (λ t h. h ∙ sym whole) c.expr_type.ensures

pub returns-in-If : goal.returns-in-If
returns-in-If c =
    let w = knowing (standing_of c.args.self.now) c.args.known.now in
    let x = value_of c.args.value.now in
    let none : c.args.written.now ≡ None = c.in_default.is in
    let form = ap value_of c.in-If.is ∙ value_if c.in-If.field-0 c.in-If.field-1 c.in-If.field-2 c.in-If.field-3 in
    sym (ap (λ (o : Option TypeRef). val_typ w o x) none ∙ ap (λ (v : Value). val_typ w None v) form ∙ if_typ w c.in-If.field-0 (expr_of c.in-If.field-1.value) (block_of c.in-If.field-2) (block_of c.in-If.field-3))
