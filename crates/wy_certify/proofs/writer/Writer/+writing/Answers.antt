use Rattle.std.proofs.Common.{◌≡◌, ◌+◌, ◌<◌, ◌≤◌, ◌++◌, ◌∷◌, [], List, ℕ, Some, None, length, take, refl, sym, ap, subst, ◌∙◌, append_assoc, rules}
use Rattle.std.proofs.lemmas.List.{append-nil, take_all}
use Rattle.wy_effects.specs.EffSet.{IsSet, union}
use Rattle.wy_text.specs.declared.fault.Place.{Place}
use Rattle.wy_types.specs.declared.types.TypeRef.{TypeRef}
use Rattle.wy_types.specs.declared.types.TypeRef.TheVariants.{Bool}
use Rattle.wy_types.specs.Code.{Expr, Value, Plain}
use Rattle.wy_types.specs.View.{expr_of, value_of, values_of, block_of}
use Rattle.wy_types.proofs.Rows.{expr_text_call, expr_call, expr_new, value_if}
use Rattle.wy_rules.specs.Derivations.{expr_mark}
use Rattle.wy_premises.specs.Operators.{text_operands}
use Rattle.wy_cert.specs.declared.certificate.Rule.TheVariants as by
use Rattle.wy_proving.specs.Steps.{Step, step}
use Rattle.wy_certify.specs.Step.{sub_steps}
use Rattle.wy_certify.specs.Written.{local_typ, var_typ, field_typs, method_at, params_of, result_of, operand_typ, result_typ, expr_steps, expr_typ, expr_effect, own_steps, own_typ, own_effect, at_steps, second_effect, second_steps, call_effect, call_steps, all_steps, all_effect, run_effect, run_at_steps, stmt_steps, stmt_effect, front_steps, back_steps, joined_effect}
use Rattle.wy_certify.specs.Writer.{context_of}
use Rattle.wy_certify.proofs.Adding.{node_as, sub_as}
use Rattle.wy_certify.proofs.Blocks.{block_typ, block_effect, all_block_steps, val_steps, do_steps, val_effect, do_effect}
use Rattle.wy_certify.proofs.Gathering.{behind, by_form, by_own_form, so, two}
use Rattle.wy_certify.proofs.Parts.{number_steps, text_steps, truth_steps, nothing_steps, this_steps, number_gives, text_gives, truth_gives, nothing_gives, this_gives, at_value, at_expr, at_block, unary_steps, unary_typ, unary_effect, binary_steps, binary_typ, binary_effect, text_call_steps, text_call_typ, text_call_effect, call_as_steps, call_typ, called_effect, new_steps, new_typ, new_effect, ascribe_steps, ascribe_typ, ascribe_effect, assign_steps, assign_typ, assign_effect, plain_steps, plain_typ, plain_effect, if_steps, if_typ, if_effect}
use Rattle.wy_certify.proofs.Turns.{counted, steps_turn, effect_turn, steps_end, effect_end, steps_untyped, effect_untyped, front_start, front_turn, effects_turn, effects_end}
use Rattle.wy_certify.proofs.writer.Writer.+writing.Goals as goal

pub write_expr-returns-in-Int : goal.write_expr-returns-in-Int
write_expr-returns-in-Int t c =
    let w = context_of c.args.self.now in
    let gives = number_gives w c.in-Int.place c.in-Int.field-1 in
    by_form w (ap expr_of c.in-Int.is) (number_steps w c.in-Int.place c.in-Int.field-1) gives.0 gives.1 c.leaf.ensures

pub write_expr-returns-in-Text : goal.write_expr-returns-in-Text
write_expr-returns-in-Text t c =
    let w = context_of c.args.self.now in
    let gives = text_gives w c.in-Text.place c.in-Text.field-1 in
    by_form w (ap expr_of c.in-Text.is) (text_steps w c.in-Text.place c.in-Text.field-1) gives.0 gives.1 c.leaf-in-Text.ensures

pub write_expr-returns-in-Bool : goal.write_expr-returns-in-Bool
write_expr-returns-in-Bool t c =
    let w = context_of c.args.self.now in
    let gives = truth_gives w c.in-Bool.place c.in-Bool.field-1 in
    by_form w (ap expr_of c.in-Bool.is) (truth_steps w c.in-Bool.place c.in-Bool.field-1) gives.0 gives.1 c.leaf-in-Bool.ensures

pub write_expr-returns-in-Unit : goal.write_expr-returns-in-Unit
write_expr-returns-in-Unit t c =
    let w = context_of c.args.self.now in
    let gives = nothing_gives w c.in-Unit.place in
    by_form w (ap expr_of c.in-Unit.is) (nothing_steps w c.in-Unit.place) gives.0 gives.1 c.leaf-in-Unit.ensures

pub write_expr-returns-in-This : goal.write_expr-returns-in-This
write_expr-returns-in-This t c =
    let w = context_of c.args.self.now in
    let q = c.in-This.place in
    let gives = this_gives w q in
    let typ = sym c.object_type.ensures in
    by_form w (ap expr_of c.in-This.is) (this_steps w q ∙ ap (λ (k : TypeRef). step by.This q 0 (Some k) [] ∷ []) typ) (gives.0 ∙ typ) gives.1 c.leaf-in-This.ensures

pub write_expr-returns-in-TextCall : goal.write_expr-returns-in-TextCall
write_expr-returns-in-TextCall t c =
    let w = context_of c.args.self.now in
    by_form w (ap expr_of c.in-TextCall.is ∙ expr_text_call c.in-TextCall.place c.in-TextCall.operator c.in-TextCall.values) refl refl refl c.write_text_call.ensures

pub write_expr-returns-in-New : goal.write_expr-returns-in-New
write_expr-returns-in-New t c =
    let w = context_of c.args.self.now in
    by_form w (ap expr_of c.in-New.is ∙ expr_new c.in-New.place c.in-New.literal c.in-New.values) refl refl refl c.write_new.ensures

pub write_expr-returns-in-Binary : goal.write_expr-returns-in-Binary
write_expr-returns-in-Binary t c =
    let w = context_of c.args.self.now in
    let x = expr_of c.in-Binary.x.value in
    let y = expr_of c.in-Binary.y.value in
    let q = c.in-Binary.place in
    let op = c.in-Binary.operator in
    let at = ap expr_of c.deref-in-Binary.ensures in
    let at3 = ap expr_of c.deref-in-Binary-3.ensures in
    let m = c.write_expr-first.result in
    let z = expr_of c.deref-in-Binary.result.now in
    let written = λ (v : Expr) (k : TypeRef) (e : List ℕ) (p : Place) (r : Expr). expr_steps w v ++ second_steps w q op k e p r in
    so (two c.write_expr-first.ensures c.write_second.ensures) (λ g.
    let typ = g.0.0 ∙ ap (expr_typ w) at in
    let effect = g.0.1 ∙ ap (expr_effect w) at in
    let form = ap expr_of c.in-Binary.is in (
      ap (written z m.typ m.effect c.expr_mark.result) at3 ∙ ap (λ (p : Place). written z m.typ m.effect p y) (c.expr_mark.ensures ∙ ap expr_mark (ap expr_of c.deref-in-Binary-2.ensures)) ∙
          ap (λ (e : List ℕ). written z m.typ e (expr_mark x) y) effect ∙ ap (λ (k : TypeRef). written z k (expr_effect w x) (expr_mark x) y) typ ∙
          ap (λ (v : Expr). written v (expr_typ w x) (expr_effect w x) (expr_mark x) y) at ∙ sym (ap (expr_steps w) form ∙ binary_steps w q op x y),
      (
        g.1.0 ∙ ap (result_typ w op) typ ∙ sym (ap (expr_typ w) form ∙ binary_typ w q op x y),
        g.1.1 ∙ ap (second_effect w m.effect) at3 ∙ ap (λ (e : List ℕ). second_effect w e y) effect ∙ sym (ap (expr_effect w) form ∙ binary_effect w q op x y),
      ),
    ))

pub write_expr-returns-in-Call : goal.write_expr-returns-in-Call
write_expr-returns-in-Call t c =
    let w = context_of c.args.self.now in
    let x = expr_of c.in-Call.x.value in
    let q = c.in-Call.place in
    let name = c.in-Call.name in
    let xs = values_of c.in-Call.values.items in
    let at = ap expr_of c.deref-in-Call.ensures in
    let m = c.write_expr-receiver.result in
    let z = expr_of c.deref-in-Call.result.now in
    let written = λ (v : Expr) (k : TypeRef) (e : List ℕ). expr_steps w v ++ call_steps w q k e name xs in
    so (two c.write_expr-receiver.ensures c.write_call.ensures) (λ g.
    let typ = g.0.0 ∙ ap (expr_typ w) at in
    let effect = g.0.1 ∙ ap (expr_effect w) at in
    let form = ap expr_of c.in-Call.is ∙ expr_call q c.in-Call.x name c.in-Call.values in (
      ap (written z m.typ) effect ∙ ap (λ (k : TypeRef). written z k (expr_effect w x)) typ ∙ ap (λ (v : Expr). written v (expr_typ w x) (expr_effect w x)) at ∙
          sym (ap (expr_steps w) form ∙ call_as_steps w q x name xs),
      (
        g.1.0 ∙ ap (λ (k : TypeRef). result_of w (method_at w k name)) typ ∙ sym (ap (expr_typ w) form ∙ call_typ w q x name xs),
        g.1.1 ∙ ap (λ (e : List ℕ). call_effect w m.typ e name xs) effect ∙ ap (λ (k : TypeRef). call_effect w k (expr_effect w x) name xs) typ ∙
            sym (ap (expr_effect w) form ∙ called_effect w q x name xs),
      ),
    ))

pub write_operand-returns : goal.write_operand-returns
write_operand-returns t c =
    let w = context_of c.args.self.now in
    let x = expr_of c.args.x.now in
    let u = c.args.expected.now in
    so (two c.write_expr-part.ensures c.subsumed.ensures.steps) (λ g. (sub_as _ u c.expr_mark.ensures g.0.0 g.0.1 (at_expr w x u), c.subsumed.ensures.effect ∙ g.0.1))

pub write_at-returns : goal.write_at-returns
write_at-returns t c =
    let w = context_of c.args.self.now in
    let x = value_of c.args.value.now in
    let u = c.args.expected.now in
    so (two c.write_value-part.ensures c.subsumed.ensures.steps) (λ g. (sub_as _ u c.mark.ensures g.0.0 g.0.1 (at_value w x u), c.subsumed.ensures.effect ∙ g.0.1))

pub write_block_at-returns : goal.write_block_at-returns
write_block_at-returns t c =
    let w = context_of c.args.self.now in
    let x = block_of c.args.block.now in
    let u = c.args.expected.now in
    so (two c.write_block-part.ensures c.subsumed.ensures.steps) (λ g. (sub_as _ u c.block_mark.ensures g.0.0 g.0.1 (at_block w x u), c.subsumed.ensures.effect ∙ g.0.1))

pub write_unary-returns : goal.write_unary-returns
write_unary-returns t c =
    let w = context_of c.args.self.now in
    let x = expr_of c.args.x.now in
    let row = c.unary_row-row.result in
    so (two c.write_operand-effect.ensures c.operation.ensures) (λ g.
    let effect = ap (λ (e : List ℕ). union e c.empty-none.result) g.0 ∙ ap (union (expr_effect w x)) c.empty-none.ensures in (
      node_as by.Op c.args.place refl refl refl effect (unary_steps w c.args.place c.args.operator x row.operand row.result c.unary_row-row.ensures),
      (g.1.0 ∙ sym (unary_typ w c.args.place c.args.operator x row.operand row.result c.unary_row-row.ensures), g.1.1 ∙ effect ∙ sym (unary_effect w c.args.place c.args.operator x)),
    ))

pub write_second-returns : goal.write_second-returns
unfolding second_steps second_effect
write_second-returns t c =
    let w = context_of c.args.self.now in
    let y = expr_of c.args.y.now in
    let k = c.args.first.typ in
    let operand = c.binary_row-row.ensures.operand w in
    let result = c.binary_row-row.ensures.result w in
    let row = c.binary_row-row.result in
    let first = c.subsumed-effect.result in
    let second = c.write_operand-second.result in
    let written = λ (u : TypeRef) (r : TypeRef) (e : List ℕ). sub_steps c.args.first_mark k u c.args.first.effect ++ (at_steps w (Plain y) u ++ step by.Op c.args.place 2 (Some r) e ∷ []) in
    so (two c.subsumed-effect.ensures.steps (two c.write_operand-second.ensures c.two_operands.ensures)) (λ g.
    let effect = ap (λ (f : List ℕ). union f (union c.write_operand-second.result [])) c.subsumed-effect.ensures.effect ∙ ap (λ (f : List ℕ). union c.args.first.effect (union f [])) g.1.0 in (
      ap (λ (u : TypeRef). written u row.result (union first (union second []))) operand ∙ ap (λ (r : TypeRef). written (operand_typ w c.args.operator k) r (union first (union second []))) result ∙
          ap (written (operand_typ w c.args.operator k) (result_typ w c.args.operator k)) effect,
      (g.1.1.0 ∙ result, g.1.1.1 ∙ effect),
    ))

pub write_text_call-returns : goal.write_text_call-returns
write_text_call-returns t c =
    let w = context_of c.args.self.now in
    let xs = values_of c.args.values.now.items in
    let long : c.len.result ≡ length c.args.values.now.items = search rules in
    let number = long ∙ sym (counted c.args.values.now.items) in
    so (two (c.take_types-types.ensures (text_operands c.args.operator) c.text_operands.ensures) (two c.write_values-effect.ensures c.given.ensures)) (λ g.
    let types = c.as_slice.ensures ∙ g.0 in
    let effect = g.1.0 ∙ ap (all_effect w xs) types in (
      node_as by.Op c.args.place (ap (all_steps w xs) types) number c.text_result-typ.ensures effect (text_call_steps w c.args.place c.args.operator xs),
      (g.1.1.0 ∙ c.text_result-typ.ensures ∙ sym (text_call_typ w c.args.place c.args.operator xs), g.1.1.1 ∙ effect ∙ sym (text_call_effect w c.args.place c.args.operator xs)),
    ))

pub write_call-returns : goal.write_call-returns
unfolding call_steps call_effect
write_call-returns t c =
    let w = context_of c.args.self.now in
    let xs = values_of c.args.values.now.items in
    let k = c.args.receiver in
    let o = method_at w k.typ c.args.name.now in
    let m = c.method_for-method.result in
    let long : c.len.result ≡ length c.args.values.now.items = search rules in
    let number = long ∙ sym (counted c.args.values.now.items) in
    so (two c.method_for-method.ensures (two c.write_values-arguments.ensures c.given.ensures)) (λ g.
    let types = c.as_slice.ensures ∙ g.0.0 in
    let effect = c.united-effect.ensures ∙ ap (union k.effect) (c.united.ensures ∙ ap (λ (e : List ℕ). union e m.effect) (g.1.0 ∙ ap (all_effect w xs) types) ∙ ap (union (all_effect w xs (params_of w o))) g.0.1) in
    (node_as by.Call c.args.place (ap (all_steps w xs) types) (ap (λ n. n + 1) number) g.0.2 effect refl, (g.1.1.0 ∙ g.0.2, g.1.1.1 ∙ effect)))

pub write_new-returns : goal.write_new-returns
write_new-returns t c =
    let w = context_of c.args.self.now in
    let xs = values_of c.args.values.now.items in
    let long : c.len.result ≡ length c.args.values.now.items = search rules in
    let number = long ∙ sym (counted c.args.values.now.items) in
    so (two (c.take_types-types.ensures (field_typs w c.args.literal) c.field_types.ensures) (two c.write_values-effect.ensures c.given.ensures)) (λ g.
    let types = c.as_slice.ensures ∙ g.0 in
    let effect = g.1.0 ∙ ap (all_effect w xs) types in (
      node_as by.New c.args.place (ap (all_steps w xs) types) number refl effect (new_steps w c.args.place c.args.literal xs),
      (g.1.1.0 ∙ sym (new_typ w c.args.place c.args.literal xs), g.1.1.1 ∙ effect ∙ sym (new_effect w c.args.place c.args.literal xs)),
    ))

pub write_ascription-returns : goal.write_ascription-returns
write_ascription-returns t c =
    let w = context_of c.args.self.now in
    let x = value_of c.args.value.now in
    let u = c.args.typ.now in
    so (two c.write_at-effect.ensures (two (c.take-given.ensures u c.copy.ensures) c.given.ensures)) (λ g. (
      node_as by.Asc c.args.place refl refl g.1.0 g.0 (ascribe_steps w c.args.place x u),
      (g.1.1.0 ∙ g.1.0 ∙ sym (ascribe_typ w c.args.place x u), g.1.1.1 ∙ g.0 ∙ sym (ascribe_effect w c.args.place x u)),
    ))

pub write_assignment-returns : goal.write_assignment-returns
write_assignment-returns t c =
    let w = context_of c.args.self.now in
    let x = value_of c.args.value.now in
    so (two (c.take-typ.ensures (var_typ w c.args.binding) c.var_type.ensures) (two c.write_at-effect.ensures c.given.ensures)) (λ g.
    let effect = g.1.0 ∙ ap (own_effect w x) g.0 in (
      node_as by.Set c.args.place (ap (at_steps w x) g.0) refl refl effect (assign_steps w c.args.place c.args.binding x),
      (g.1.1.0 ∙ sym (assign_typ w c.args.place c.args.binding x), g.1.1.1 ∙ effect ∙ sym (assign_effect w c.args.place c.args.binding x)),
    ))

pub write_value-returns-in-Plain : goal.write_value-returns-in-Plain
write_value-returns-in-Plain t c =
    let w = context_of c.args.self.now in
    let u = c.args.expected.now in
    let x = expr_of c.in-Plain.x in
    by_own_form w u (ap value_of c.in-Plain.is) (plain_steps w x u) (plain_typ w x u) (plain_effect w x u) c.write_expr.ensures

pub write_value-returns-in-If : goal.write_value-returns-in-If
write_value-returns-in-If t c =
    let w = context_of c.args.self.now in
    let x = expr_of c.in-If.test.value in
    let a = block_of c.in-If.first in
    let b = block_of c.in-If.second in
    let q = c.in-If.place in
    let u = c.args.expected.now in
    let at = ap expr_of c.deref.ensures in
    let written = λ (z : Expr) (e : List ℕ). at_steps w (Plain z) Bool ++ (run_at_steps w a u ++ (run_at_steps w b u ++ step by.If q 3 (Some u) e ∷ [])) in
    by_own_form w u (ap value_of c.in-If.is ∙ value_if q c.in-If.test c.in-If.first c.in-If.second) (if_steps w q x a b u) (if_typ w q x a b u) (if_effect w q x a b u)
    (so (two c.write_operand-test.ensures (two c.write_block_at-first.ensures (two c.write_block_at-second.ensures c.write_if.ensures))) (λ g.
    let effect = c.united-in-If.ensures ∙ ap (λ (e : List ℕ). union e c.united.result) (g.0 ∙ ap (expr_effect w) at) ∙
    ap (union (expr_effect w x)) (c.united.ensures ∙ ap (λ (e : List ℕ). union e c.write_block_at-second.result) g.1.0 ∙ ap (union (run_effect w a u)) g.1.1.0) in
    (ap (λ (z : Expr). written z c.united-in-If.result) at ∙ ap (written x) effect, (g.1.1.1.0, g.1.1.1.1 ∙ effect))))

pub write_values-loop-i-init : goal.write_values-loop-i-init
write_values-loop-i-init t c =
    let none : c.empty-sofar.result ≡ [] = c.empty-sofar.ensures in
    record {
      enough = λ whole. whole;
      steps = λ whole. refl;
      effect = λ whole. ap (λ (e : List ℕ). union e (all_effect (context_of c.args.self.now) (values_of c.args.values.now.items) c.args.types.now)) none;
      set = subst (λ (e : List ℕ). IsSet 512 e) (sym none) tt;
    }

pub write_values-loop-i-preserved : goal.write_values-loop-i-preserved
write_values-loop-i-preserved t c =
    let w = context_of c.args.self.now in
    let xs = c.args.values.now.items in
    let ts = c.args.types.now in
    let i = c.loop-i.i in
    let lx : i < length xs = search rules in
    let lt : i < length ts = search rules in
    let h = c.write_at-effect.ensures in
    record {
      enough = λ whole. c.loop-i.invariant.enough (h.enough whole);
      steps = λ whole. steps_turn w xs ts i c.index.result.now c.index-types-i.result lx c.index.ensures lt c.index-types-i.is _ c.loop-i.out.list _ (c.loop-i.invariant.steps (h.enough whole)) (h.added whole);
      effect = λ whole. effect_turn w xs ts i c.index.result.now c.index-types-i.result lx c.index.ensures lt c.index-types-i.is c.write_at-effect.result c.loop-i.sofar _ _ (c.loop-i.invariant.effect (h.enough whole)) (h.holds whole) c.unite.ensures;
      set = c.is_set.ensures;
    }

pub write_values-returns-then-i-types : goal.write_values-returns-then-i-types
write_values-returns-then-i-types t c =
    let w = context_of c.args.self.now in
    let xs = c.args.values.now.items in
    let ts = c.args.types.now in
    let short : length ts ≤ c.loop-i.i = search rules in
    record {
      enough = c.loop-i.invariant.enough;
      added = λ whole. steps_untyped w xs ts c.loop-i.i short _ c.loop-i.out.list (c.loop-i.invariant.steps whole);
      holds = λ whole. effect_untyped w xs ts c.loop-i.i short 512 c.loop-i.sofar _ c.loop-i.invariant.set (c.loop-i.invariant.effect whole);
    }

pub write_values-returns : goal.write_values-returns
write_values-returns t c =
    let w = context_of c.args.self.now in
    let xs = c.args.values.now.items in
    let ts = c.args.types.now in
    let short : length xs ≤ c.loop-i.i = search rules in
    record {
      enough = c.loop-i.invariant.enough;
      added = λ whole. steps_end w xs ts c.loop-i.i short _ c.loop-i.out.list (c.loop-i.invariant.steps whole);
      holds = λ whole. effect_end w xs ts c.loop-i.i short 512 c.loop-i.sofar _ c.loop-i.invariant.set (c.loop-i.invariant.effect whole);
    }

pub write_statement-returns-in-Do : goal.write_statement-returns-in-Do
write_statement-returns-in-Do t c =
    let w = context_of c.args.self.now in
    so c.write_at.ensures (λ g. (sym (ap (stmt_steps w) c.in-Do.is ∙ do_steps w c.in-Do.value), g ∙ sym (ap (stmt_effect w) c.in-Do.is ∙ do_effect w c.in-Do.value)))

pub write_statement-returns-in-Val : goal.write_statement-returns-in-Val
write_statement-returns-in-Val t c =
    let w = context_of c.args.self.now in
    let x = c.in-Val.value in
    let q = c.in-Val.place in
    let n = c.in-Val.number in
    let own = λ (e : List ℕ). at_steps w (value_of x) (local_typ w n) ++ step by.Val q 1 None e ∷ [] in
    so (two c.write_initialiser-effect.ensures c.add_untyped.ensures) (λ g.
    (ap own (c.copied.ensures ∙ g.0) ∙ sym (ap (stmt_steps w) c.in-Val.is ∙ val_steps w q n c.in-Val.field-2 x), g.0 ∙ sym (ap (stmt_effect w) c.in-Val.is ∙ val_effect w q n c.in-Val.field-2 x)))

pub write_initialiser-returns : goal.write_initialiser-returns
write_initialiser-returns t c =
    let w = context_of c.args.self.now in
    let x = value_of c.args.value.now in
    so (two (c.take-typ.ensures (local_typ w c.args.number) c.local_type.ensures) c.write_at.ensures) (λ g. (ap (at_steps w x) g.0, g.1 ∙ ap (own_effect w x) g.0))

pub write_statements-loop-i-init : goal.write_statements-loop-i-init
write_statements-loop-i-init t c =
    let w = context_of c.args.self.now in
    record {
      enough = λ whole. whole;
      added = λ whole. sym (ap (λ (l : List (Step TypeRef)). c.args.out.now.list ++ l) (front_start w) ∙ append-nil c.args.out.now.list);
      holds = λ whole. c.new-effects.ensures;
    }

pub write_statements-loop-i-preserved : goal.write_statements-loop-i-preserved
write_statements-loop-i-preserved t c =
    let w = context_of c.args.self.now in
    let xs = c.args.statements.now.items in
    let i = c.loop-i.i in
    let lt : i < length xs = search rules in
    let x = c.index.result.now in
    let sofar = front_steps w (take i xs) in
    so (two c.loop-i.invariant (two c.write_statement-effect.ensures c.keep.ensures)) (λ g. (
      ap (λ (l : List (Step TypeRef)). sofar ++ l) (append-nil (stmt_steps w x)) ∙ front_turn w xs i x lt c.index.ensures [] sofar (sofar ++ stmt_steps w x) refl refl,
      effects_turn w xs i x lt c.index.ensures c.loop-i.effects c.keep.new.effects c.write_statement-effect.result g.0 g.1.0 g.1.1,
    ))

pub write_statements-returns : goal.write_statements-returns
write_statements-returns t c =
    let w = context_of c.args.self.now in
    let xs = c.args.statements.now.items in
    let short : length xs ≤ c.loop-i.i = search rules in
    so c.loop-i.invariant (λ g. (ap (front_steps w) (take_all c.loop-i.i xs short), effects_end w xs c.loop-i.i short _ g))

pub write_block-returns : goal.write_block-returns
write_block-returns t c =
    let w = context_of c.args.self.now in
    let xs = c.args.block.now.statements.items in
    let z = value_of c.args.block.now.last.value in
    let u = c.args.expected.now in
    let at = ap value_of c.deref.ensures in
    let m = c.write_value-last.result in
    let closed = c.close_statements.ensures in
    so (behind (two c.write_statements-effects.ensures c.write_value-last.ensures) closed.enough (λ g. closed.whole (c.as_slice.ensures ∙ g.0))) (λ g.
    let typ = g.0.1.0 ∙ ap (λ (v : Value). own_typ w v u) at in
    let effect = g.0.1.1 ∙ ap (λ (v : Value). own_effect w v u) at in
    let own = ap (λ (v : Value). own_steps w v u) at in
    let front = front_steps w xs in (
      append_assoc front _ (back_steps w xs m.typ m.effect) ∙ ap (λ (l : List (Step TypeRef)). front ++ (l ++ back_steps w xs m.typ m.effect)) own ∙
          ap (λ (k : TypeRef). front ++ (own_steps w z u ++ back_steps w xs k m.effect)) typ ∙ ap (λ (e : List ℕ). front ++ (own_steps w z u ++ back_steps w xs (own_typ w z u) e)) effect ∙
          sym (all_block_steps w xs z u),
      (g.1.0 ∙ typ ∙ sym (block_typ w xs z u), g.1.1 ∙ ap (joined_effect w xs) effect ∙ sym (block_effect w xs z u)),
    ))
