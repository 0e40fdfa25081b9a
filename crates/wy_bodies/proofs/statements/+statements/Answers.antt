use Rattle.std.proofs.Common.{Vec, Global, ◌≡◌, ℕ, ◌<◌, ◌≤◌, ◌+◌, [], ◌∷◌, ◌++◌, map, length, take, drop, true, rules, arith, refl, sym, ap, ap₂, subst, ◌∙◌, Option}
use Rattle.std.proofs.lemmas.List.{drop_all}
use Rattle.std.proofs.lemmas.Result.{on_ok_weaker}
use Rattle.std.specs.Prelude.{OnOk, IfOk}
use Rattle.wy_text.specs.declared.fault.Place.{Place}
use Rattle.wy_types.specs.declared.types.Method.{Method}
use Rattle.wy_types.specs.declared.code.Value.{Value}
use Rattle.wy_types.specs.declared.code.Variable.TheVariants.{Local}
use Rattle.wy_types.specs.declared.resolved.Body as resolved
use Rattle.wy_types.specs.Code as code
use Rattle.wy_types.specs.View.{value_of, block_of}
use Rattle.wy_types.specs.Program.{Body, body_of}
use Rattle.wy_syntax.specs.Trees as trees
use Rattle.wy_syntax.specs.Views.{expr_tree, rhs_tree, stmt_tree, stmt_trees, part_tree, part_trees, tail_tree}
use Rattle.wy_symbols.specs.declared.refusal.Refusal.{Refusal}
use Rattle.wy_symbols.specs.Declarations.{texts}
use Rattle.wy_bodies.specs.Sight.{written_of}
use Rattle.wy_bodies.specs.InSight.{known, entries, Frame, frame, sight_of, known_params}
use Rattle.wy_bodies.specs.Lending.{lent_within}
use Rattle.wy_bodies.specs.Bodies.{stmts_block, part_values, rhs_value, tail_block}
use Rattle.wy_bodies.specs.BodyRefusals.{field_names, typed_refusals}
use Rattle.wy_bodies.specs.FoundBodies.{Found, found_of, noting, after_rhs, after_stmt, after_stmts, after_part, after_parts, named, alone, stmt_form, with_stmt}
use Rattle.wy_symbols.proofs.Turns.{next_of}
use Rattle.wy_syntax.proofs.Layers.{rhs_tree-Branch}
use Rattle.wy_bodies.proofs.TreeLayers.{rhs_tree-Value, stmt_tree-Val, stmt_tree-Assign, stmt_tree-Run, part_tree-Field, part_tree-Method}
use Rattle.wy_bodies.specs.ValueRows.{values_then}
use Rattle.wy_bodies.proofs.ValueRows.{values_turn, values_then-none, if_of}
use Rattle.wy_bodies.proofs.Walks.{on_ok, made, value_next, branch_next, val_next, assign_next, field_next, parts_turn, parts_end, method_turn, body_found, literal_turn, bodies_are, with_params_is, variables_are, inside_is}
use Rattle.wy_bodies.proofs.Blocks.{joined, joined_none, longer_none, longer_back, longer_start, found_end, block_longer, block_found, block_value, start_kept}
use Rattle.wy_bodies.proofs.statements.+statements.Goals as goal
use Rattle.wy_bodies.proofs.statements.+statements.Goals.{part_values-in-Field+in_ok-value-in-Field+in_ok-add-in-Field, part_values-in-Method+in_ok-method-in-Method}

abbrev body_with : ℕ → Place → Method → code.Block → Body
body_with owner place signature block = record { owner = owner; place = place; signature = signature; block = block }

pub block-loop-one-init : goal.block-loop-one-init
block-loop-one-init t c =
    let w = lent_within c.args.within.now in
    let fr = c.args.frame.now in
    let ks = c.args.variables.now in
    let s = sight_of fr ks in
    let f = found_of c.args.found.now in
    record {
      sight = longer_none ks;
      start = c.requires;
      found = refl;
      value = ap (λ d. joined w c.args.place d s f.count (stmt_trees c.args.statements.now)) c.new-done.ensures.items ∙ joined_none w c.args.place s f.count (stmt_trees c.args.statements.now);
    }

pub block-loop-one-preserved : goal.block-loop-one-preserved
block-loop-one-preserved t c =
    let w = lent_within c.args.within.now in
    let fr = c.args.frame.now in
    let ks = c.args.variables.now in
    let s = sight_of fr ks in
    let f = found_of c.args.found.now in
    let stmts = c.args.statements.now in
    let i = c.loop-one.one-index in
    let one = c.one-item.result in
    let lt : i < length stmts = search rules in
    let now = c.loop-one.variables in
    let next = c.statement.new.variables in
    let g = found_of c.loop-one.found in
    let h = found_of c.statement.new.found in
    let x = stmt_tree one in
    let q = stmt_trees (drop i stmts) in
    let left = stmt_trees (drop (i + 1) stmts) in
    let at = ap stmt_trees (next_of stmts i one lt c.one-item.is) in
    let le = c.loop-one.invariant.start in
    let hk = c.in_ok-statement.ensures.sight in
    let hf = c.in_ok-statement.ensures.found in
    record {
      sight = block_longer w fr ks now next g h x q left le at hk hf c.loop-one.invariant.sight;
      start = start_kept w fr now next g.count x le hk;
      found = block_found w fr ks now next g h x q left le at hk hf (after_stmts w s f (stmt_trees stmts)) c.loop-one.invariant.found;
      value = block_value w fr ks now next g h x q left le at hk hf c.args.place c.loop-one.done.items c.add.new.list.items c.in_ok-statement.field-0 (stmts_block w c.args.place s f.count (stmt_trees stmts))
          c.in_ok-add.ensures c.in_ok-statement.ensures.form c.loop-one.invariant.value;
    }

pub block-returns-clause-sight : goal.block-returns-clause-sight
block-returns-clause-sight t c =
    let w = lent_within c.args.within.now in
    let fr = c.args.frame.now in
    let ks = c.args.variables.now in
    let s = sight_of fr ks in
    let f = found_of c.args.found.now in
    on_ok c.ended.result (c.truncate.ensures ∙ ap (λ n. take n c.loop-one.variables) c.len-depth.ensures ∙ longer_back ks c.loop-one.variables c.loop-one.invariant.sight)

pub block-returns-clause-found : goal.block-returns-clause-found
block-returns-clause-found t c =
    let w = lent_within c.args.within.now in
    let fr = c.args.frame.now in
    let ks = c.args.variables.now in
    let s = sight_of fr ks in
    let f = found_of c.args.found.now in
    let now = c.loop-one.variables in
    let si = sight_of fr now in
    let g = found_of c.loop-one.found in
    let dropped = drop_all c.loop-one.one-index c.args.statements.now c.loop-one-test.false in
    on_ok c.ended.result (found_end w si g ∙ ap (λ l. after_stmts w si g (stmt_trees l)) (sym dropped) ∙ c.loop-one.invariant.found)

pub block-returns-clause-value : goal.block-returns-clause-value
block-returns-clause-value t c =
    let w = lent_within c.args.within.now in
    let fr = c.args.frame.now in
    let ks = c.args.variables.now in
    let s = sight_of fr ks in
    let f = found_of c.args.found.now in
    let now = c.loop-one.variables in
    let si = sight_of fr now in
    let g = found_of c.loop-one.found in
    let dropped = drop_all c.loop-one.one-index c.args.statements.now c.loop-one-test.false in
    let P : code.Block → Type 0 = λ y. IfOk c.ended.result (λ b. block_of b ≡ y) in
    subst P (ap (λ l. joined w c.args.place c.loop-one.done.items si g.count (stmt_trees l)) (sym dropped) ∙ c.loop-one.invariant.value) c.ended.ensures

pub rhs_value-returns-in_ok-second-in-Branch-clause-found : goal.rhs_value-returns-in_ok-second-in-Branch-clause-found
rhs_value-returns-in_ok-second-in-Branch-clause-found t c =
    let w = lent_within c.args.within.now in
    let fr = c.args.frame.now in
    let s = sight_of fr c.args.variables.now in
    let f = found_of c.args.found.now in
    let a = stmt_trees c.in-Branch.first.items in
    let b = stmt_trees c.in-Branch.second.items in
    let place = c.in-Branch.place in
    let first = c.in_ok-first-in-Branch.ensures.found
    ∙ ap₂ (λ l o. after_stmts w s (made f.count f.literals f.bodies o) (stmt_trees l)) c.deref-in-Branch.ensures.value c.in_ok-test-in-Branch.ensures.noted in
    let tree = sym (ap rhs_tree c.in-Branch.is ∙ rhs_tree-Branch place c.in-Branch.test c.in-Branch.first c.in-Branch.second) in
    c.in_ok-second-in-Branch.ensures.found
    ∙ ap (λ l. after_stmts w (sight_of fr c.block.new.variables) (found_of c.block.new.found) (stmt_trees l)) c.deref-in-Branch-2.ensures.value
    ∙ ap₂ (λ k g. after_stmts w (sight_of fr k) g b) c.in_ok-first-in-Branch.ensures.sight first
    ∙ branch_next w s f place (expr_tree c.in-Branch.test) a b
    ∙ ap (after_rhs w s f) tree

pub rhs_value-returns-in_ok-second-in-Branch-clause-value : goal.rhs_value-returns-in_ok-second-in-Branch-clause-value
rhs_value-returns-in_ok-second-in-Branch-clause-value t c =
    let w = lent_within c.args.within.now in
    let fr = c.args.frame.now in
    let s = sight_of fr c.args.variables.now in
    let f = found_of c.args.found.now in
    let a = stmt_trees c.in-Branch.first.items in
    let b = stmt_trees c.in-Branch.second.items in
    let place = c.in-Branch.place in
    let first = c.in_ok-first-in-Branch.ensures.found
    ∙ ap₂ (λ l o. after_stmts w s (made f.count f.literals f.bodies o) (stmt_trees l)) c.deref-in-Branch.ensures.value c.in_ok-test-in-Branch.ensures.noted in
    let tree = sym (ap rhs_tree c.in-Branch.is ∙ rhs_tree-Branch place c.in-Branch.test c.in-Branch.first c.in-Branch.second) in
    c.choice.ensures
    ∙ if_of place c.in_ok-test-in-Branch.ensures.value
    (c.in_ok-first-in-Branch.ensures.value ∙ ap (λ l. stmts_block w place s f.count (stmt_trees l)) c.deref-in-Branch.ensures.value)
    (c.in_ok-second-in-Branch.ensures.value
    ∙ ap (λ l. stmts_block w place (sight_of fr c.block.new.variables) (found_of c.block.new.found).count (stmt_trees l)) c.deref-in-Branch-2.ensures.value
    ∙ ap₂ (λ k (g : Found). stmts_block w place (sight_of fr k) g.count b) c.in_ok-first-in-Branch.ensures.sight first)
    ∙ ap (rhs_value w s f.count) tree

pub field_value-returns-clause-found : goal.field_value-returns-clause-found
field_value-returns-clause-found t c =
    let w = lent_within c.args.within.now in
    let fr = c.args.frame.now in
    let ks = c.args.variables.now in
    let s = sight_of fr ks in
    let f = found_of c.args.found.now in
    let P : Option Refusal → Type 0 = λ o. OnOk c.rhs_value.result (found_of c.rhs_value.new.found ≡ after_rhs w s (made f.count f.literals f.bodies o) (rhs_tree c.args.rhs.now)) in
    subst P c.in_ok-read_type.ensures.noted c.rhs_value.ensures.found

pub literal_value-part_values-requires : goal.literal_value-part_values-requires
literal_value-part_values-requires t c =
    let ks = c.args.variables.now in
    let start = ap (λ (f : Frame). f.start) c.in_ok-inner.ensures ∙ c.len.ensures in
    let inner : c.in_ok-inner.inner.start ≤ length ks = omega (arith, start) in
    (search rules, (c.requires, (inner, ap (λ (f : Frame). f.in_method) c.in_ok-inner.ensures)))

pub literal_value-returns-clause-found : goal.literal_value-returns-clause-found
literal_value-returns-clause-found t c =
    let w = lent_within c.args.within.now in
    let fr = c.args.frame.now in
    let ks = c.args.variables.now in
    let s = sight_of fr ks in
    let f = found_of c.args.found.now in
    let ps = part_trees c.args.parts.now in
    literal_turn w s (sight_of c.in_ok-inner.inner ks) f (found_of c.begin_literal.new.found) (found_of c.part_values.new.found) c.args.place ps (written_of (entries ks) ps)
    (ap (λ x. sight_of x ks) (c.in_ok-inner.ensures ∙ ap (λ n. frame n (texts (field_names ps)) true) c.len.ensures) ∙ inside_is fr ks ps)
    (ap (λ es. written_of es ps) (sym (variables_are fr ks)))
    c.in_ok-begin_literal.ensures c.in_ok-values.ensures.found

pub literal_value-returns-clause-value : goal.literal_value-returns-clause-value
literal_value-returns-clause-value t c =
    let w = lent_within c.args.within.now in
    let fr = c.args.frame.now in
    let ks = c.args.variables.now in
    let s = sight_of fr ks in
    let f = found_of c.args.found.now in
    let ps = part_trees c.args.parts.now in
    c.object.ensures
    ∙ ap (λ x. code.Plain (code.New c.args.place c.args.found.now.count.literals x))
    (c.in_ok-values.ensures.value ∙ ap (λ (g : Found). part_values w s g.count ps) c.in_ok-begin_literal.ensures)

pub method_body-tail_block-requires : goal.method_body-tail_block-requires
method_body-tail_block-requires t c =
    let ks = c.args.variables.now in
    let longer = longer_start c.args.frame.now.start ks c.push_params.new.variables c.requires.frame (record { more = known_params c.args.found.now.count.bodies 0 c.as_slice.result.now; is = c.in_ok-push_params.ensures }) in
    (search rules, longer)

pub method_body-returns-clause-sight : goal.method_body-returns-clause-sight
method_body-returns-clause-sight t c =
    let ks = c.args.variables.now in
    let more = known_params c.args.found.now.count.bodies 0 c.as_slice.result.now in
    c.truncate.ensures
    ∙ ap₂ (λ n l. take n l) c.len-depth.ensures (c.in_ok-block.ensures.sight ∙ c.in_ok-push_params.ensures)
    ∙ longer_back ks (ks ++ more) (record { more = more; is = refl })

pub method_body-returns-clause-found : goal.method_body-returns-clause-found
method_body-returns-clause-found t c =
    let w = lent_within c.args.within.now in
    let fr = c.args.frame.now in
    let ks = c.args.variables.now in
    let s = sight_of fr ks in
    let f = found_of c.args.found.now in
    let number = c.args.found.now.count.bodies in
    let g = c.args.signature.now in
    let pushed = c.in_ok-push_params.ensures ∙ ap (λ l. ks ++ known_params number 0 l) c.as_slice.ensures in
    let sight = ap (sight_of fr) pushed ∙ with_params_is fr ks number g.params c.requires.frame c.requires.in_method in
    body_found w (sight_of fr c.push_params.new.variables) s f (found_of c.tail_block.new.found) g (tail_tree c.args.body.now) c.in_ok-found.field-0 c.read_method.new.least
    sight c.in_ok-found.ensures c.in_ok-resolved.ensures.noted c.in_ok-block.ensures.found

pub method_body-returns-clause-body : goal.method_body-returns-clause-body
method_body-returns-clause-body t c =
    let w = lent_within c.args.within.now in
    let fr = c.args.frame.now in
    let ks = c.args.variables.now in
    let s = sight_of fr ks in
    let f = found_of c.args.found.now in
    let number = c.args.found.now.count.bodies in
    let g = c.args.signature.now in
    let b = tail_tree c.args.body.now in
    let pushed = c.in_ok-push_params.ensures ∙ ap (λ l. ks ++ known_params number 0 l) c.as_slice.ensures in
    let sight = ap (sight_of fr) pushed ∙ with_params_is fr ks number g.params c.requires.frame c.requires.in_method in
    ap₂ (body_with c.args.owner g.place) c.in_ok-resolved.ensures.value
    (c.in_ok-block.ensures.value ∙ ap₂ (λ x k. tail_block w g.place x (record { vals = f.count.vals; literals = f.count.literals; bodies = k }) b) sight c.in_ok-found.ensures)

pub method-returns-clause-found : goal.method-returns-clause-found
method-returns-clause-found t c =
    let w = lent_within c.args.within.now in
    let fr = c.args.frame.now in
    let ks = c.args.variables.now in
    let s = sight_of fr ks in
    let f = found_of c.args.found.now in
    let g = c.args.signature.now in
    let b = tail_tree c.args.body.now in
    let m = found_of c.method_body.new.found in
    let none = ap (λ (v : Vec resolved.Body Global). map body_of v.items) c.replace-before.ensures.after ∙ ap (map body_of) c.new.ensures.items in
    let all = bodies_are c.args.found.now.bodies.items c.replace-before.result.items c.method_body.new.found.bodies.items c.add.new.list.items c.append.new.self.items c.in_ok-done.done
    (ap (λ (v : Vec resolved.Body Global). v.items) c.replace-before.ensures.value) c.in_ok-add.ensures c.in_ok-append.ensures.items in
    λ round. method_turn w round s c.args.owner f m g b (map body_of c.replace-before.new.dest.items) (map body_of c.append.new.self.items) (body_of c.in_ok-done.done)
    none c.in_ok-done.ensures.found c.in_ok-done.ensures.body all

pub part_values-loop-part-preserved : goal.part_values-loop-part-preserved
part_values-loop-part-preserved t c =
    let w = lent_within c.args.within.now in
    let ks = c.args.variables.now in
    let now = c.loop-part.variables in
    let s = sight_of c.args.outer.now ks in
    let within = sight_of c.args.inner.now ks in
    let f = found_of c.args.found.now in
    let g = found_of c.loop-part.found in
    let owner = c.args.owner in
    let parts = c.args.parts.now in
    let i = c.loop-part.part-index in
    let one = c.part-item.result in
    let lt : i < length parts = search rules in
    let q = part_trees (drop i parts) in
    let left = part_trees (drop (i + 1) parts) in
    let at = ap part_trees (next_of parts i one lt c.part-item.is) in
    let all = after_parts w s within owner f (part_trees parts) in
    let values = part_values w s f.count (part_trees parts) in
    let same = c.loop-part.invariant.sight in
    elim c.match-part.branch [
      | part_values-in-Field+in_ok-value-in-Field+in_ok-add-in-Field d ↦
          let kind = d.in-Field._kind in
          let name = d.in-Field._name in
          let u = d.in-Field.type_use in
          let r = rhs_tree d.in-Field.rhs in
          let p = trees.field kind name u r in
          let tree = ap part_tree d.in-Field.is ∙ part_tree-Field kind name u d.in-Field.rhs in
          let here = at ∙ ap (λ x. trees.more_parts x left) tree in
          let hf = ap found_of d.found-is ∙ d.in_ok-value-in-Field.ensures.found
          ∙ ap (λ k. after_rhs w (sight_of c.args.outer.now k) (noting g (typed_refusals w u)) r) same ∙ field_next w s within owner g kind name u r in
          record {
            sight = d.variables-is ∙ d.in_ok-value-in-Field.ensures.sight ∙ same;
            found = parts_turn w s within owner g (found_of c.match-part.found) p q left all here hf c.loop-part.invariant.found;
            value = values_turn c.loop-part.values.items c.match-part.values.items d.in_ok-value-in-Field.value values (part_values w s g.count q) (part_values w s (found_of c.match-part.found).count left) (rhs_value w s g.count r)
                (ap (λ (v : Vec Value Global). v.items) d.values-is ∙ d.in_ok-add-in-Field.ensures)
                (d.in_ok-value-in-Field.ensures.value ∙ ap (λ k. rhs_value w (sight_of c.args.outer.now k) g.count r) same)
                (ap (part_values w s g.count) here ∙ ap (λ (x : Found). code.more (rhs_value w s g.count r) (part_values w s x.count left)) (sym hf))
                c.loop-part.invariant.value;
          }
      | part_values-in-Method+in_ok-method-in-Method d ↦
          let b = tail_tree d.in-Method.body in
          let p = trees.method d.in-Method.signature b in
          let tree = ap part_tree d.in-Method.is ∙ part_tree-Method d.in-Method.signature d.in-Method.body in
          let here = at ∙ ap (λ x. trees.more_parts x left) tree in
          let hf = ap found_of d.found-is ∙ d.in_ok-method-in-Method.ensures.found s
          ∙ ap (λ k. after_part w s (sight_of c.args.inner.now k) owner g p) same in
          record {
            sight = d.variables-is ∙ d.in_ok-method-in-Method.ensures.sight ∙ same;
            found = parts_turn w s within owner g (found_of c.match-part.found) p q left all here hf c.loop-part.invariant.found;
            value =
                ap₂ (λ (v : Vec Value Global) (x : Found). values_then v.items (part_values w s x.count left)) d.values-is hf
                ∙ ap (λ x. values_then c.loop-part.values.items (part_values w s g.count x)) (sym here) ∙ c.loop-part.invariant.value;
          }
    ]

pub part_values-returns-clause-found : goal.part_values-returns-clause-found
part_values-returns-clause-found t c =
    let w = lent_within c.args.within.now in
    let s = sight_of c.args.outer.now c.args.variables.now in
    let within = sight_of c.args.inner.now c.args.variables.now in
    let g = found_of c.loop-part.found in
    let dropped = drop_all c.loop-part.part-index c.args.parts.now c.loop-part-test.false in
    parts_end w s within c.args.owner g ∙ ap (λ l. after_parts w s within c.args.owner g (part_trees l)) (sym dropped) ∙ c.loop-part.invariant.found

pub part_values-returns-clause-value : goal.part_values-returns-clause-value
part_values-returns-clause-value t c =
    let w = lent_within c.args.within.now in
    let s = sight_of c.args.outer.now c.args.variables.now in
    let g = found_of c.loop-part.found in
    let dropped = drop_all c.loop-part.part-index c.args.parts.now c.loop-part-test.false in
    sym (values_then-none c.loop-part.values.items)
    ∙ ap (λ l. values_then c.loop-part.values.items (part_values w s g.count (part_trees l))) (sym dropped) ∙ c.loop-part.invariant.value

pub rhs_value-returns-in-Value-clause-found : goal.rhs_value-returns-in-Value-clause-found
rhs_value-returns-in-Value-clause-found t c =
    let w = lent_within c.args.within.now in
    let fr = c.args.frame.now in
    let ks = c.args.variables.now in
    let s = sight_of fr ks in
    let f = found_of c.args.found.now in
    let e = c.in-Value.e in
    on_ok_weaker c.expr_value.result
    (λ h. ap (made f.count f.literals f.bodies) h ∙ value_next w s f (expr_tree e) ∙ ap (after_rhs w s f) (sym (ap rhs_tree c.in-Value.is ∙ rhs_tree-Value e)))
    c.expr_value.ensures.noted

pub statement-returns-in_ok-push-in-Val-clause-sight : goal.statement-returns-in_ok-push-in-Val-clause-sight
statement-returns-in_ok-push-in-Val-clause-sight t c =
    let w = lent_within c.args.within.now in
    let fr = c.args.frame.now in
    let ks = c.args.variables.now in
    let s = sight_of fr ks in
    let f = found_of c.args.found.now in
    let x = c.in-Val.name in
    let u = c.in-Val.type_use in
    let r = rhs_tree c.in-Val.rhs in
    let tree = sym (ap stmt_tree c.in-Val.is ∙ stmt_tree-Val x u c.in-Val.rhs) in
    c.in_ok-push-in-Val.ensures
    ∙ ap (λ l. l ++ known x.text (Local f.count.vals) ∷ []) c.in_ok-value-in-Val.ensures.sight
    ∙ ap (with_stmt ks f.count) tree

pub statement-returns-in_ok-push-in-Val-clause-found : goal.statement-returns-in_ok-push-in-Val-clause-found
statement-returns-in_ok-push-in-Val-clause-found t c =
    let w = lent_within c.args.within.now in
    let fr = c.args.frame.now in
    let ks = c.args.variables.now in
    let s = sight_of fr ks in
    let f = found_of c.args.found.now in
    let x = c.in-Val.name in
    let u = c.in-Val.type_use in
    let r = rhs_tree c.in-Val.rhs in
    let tree = sym (ap stmt_tree c.in-Val.is ∙ stmt_tree-Val x u c.in-Val.rhs) in
    c.in_ok-value-in-Val.ensures.found
    ∙ ap₂ (λ n o. after_rhs w s (made (record { vals = n; literals = f.count.literals; bodies = f.count.bodies }) f.literals f.bodies o) r) c.in_ok-found-in-Val.ensures c.in_ok-typ-in-Val.ensures.noted
    ∙ val_next w s f x u r
    ∙ ap (after_stmt w s f) tree

pub statement-returns-in_ok-push-in-Val-clause-form : goal.statement-returns-in_ok-push-in-Val-clause-form
statement-returns-in_ok-push-in-Val-clause-form t c =
    let w = lent_within c.args.within.now in
    let fr = c.args.frame.now in
    let ks = c.args.variables.now in
    let s = sight_of fr ks in
    let f = found_of c.args.found.now in
    let x = c.in-Val.name in
    let u = c.in-Val.type_use in
    let r = rhs_tree c.in-Val.rhs in
    let tree = sym (ap stmt_tree c.in-Val.is ∙ stmt_tree-Val x u c.in-Val.rhs) in
    ap₂ (named x.place f.count.vals) c.in_ok-typ-in-Val.ensures.value
    (c.in_ok-value-in-Val.ensures.value ∙ ap (λ n. rhs_value w s (record { vals = n; literals = f.count.literals; bodies = f.count.bodies }) r) c.in_ok-found-in-Val.ensures)
    ∙ ap (stmt_form w s f.count) tree

pub statement-returns-in_ok-value-in-Assign-2-clause-sight : goal.statement-returns-in_ok-value-in-Assign-2-clause-sight
statement-returns-in_ok-value-in-Assign-2-clause-sight t c =
    let w = lent_within c.args.within.now in
    let fr = c.args.frame.now in
    let ks = c.args.variables.now in
    let s = sight_of fr ks in
    let f = found_of c.args.found.now in
    let x = c.in-Assign.name in
    let r = rhs_tree c.in-Assign.rhs in
    let tree = sym (ap stmt_tree c.in-Assign.is ∙ stmt_tree-Assign x c.in-Assign.rhs) in
    c.in_ok-value-in-Assign.ensures.sight ∙ ap (with_stmt ks f.count) tree

pub statement-returns-in_ok-value-in-Assign-2-clause-found : goal.statement-returns-in_ok-value-in-Assign-2-clause-found
statement-returns-in_ok-value-in-Assign-2-clause-found t c =
    let w = lent_within c.args.within.now in
    let fr = c.args.frame.now in
    let ks = c.args.variables.now in
    let s = sight_of fr ks in
    let f = found_of c.args.found.now in
    let x = c.in-Assign.name in
    let r = rhs_tree c.in-Assign.rhs in
    let tree = sym (ap stmt_tree c.in-Assign.is ∙ stmt_tree-Assign x c.in-Assign.rhs) in
    c.in_ok-value-in-Assign.ensures.found
    ∙ ap (λ o. after_rhs w s (made f.count f.literals f.bodies o) r) c.in_ok-bound-in-Assign.ensures.noted
    ∙ assign_next w s f x r
    ∙ ap (after_stmt w s f) tree

pub statement-returns-in_ok-value-in-Assign-2-clause-form : goal.statement-returns-in_ok-value-in-Assign-2-clause-form
statement-returns-in_ok-value-in-Assign-2-clause-form t c =
    let w = lent_within c.args.within.now in
    let fr = c.args.frame.now in
    let ks = c.args.variables.now in
    let s = sight_of fr ks in
    let f = found_of c.args.found.now in
    let x = c.in-Assign.name in
    let r = rhs_tree c.in-Assign.rhs in
    let tree = sym (ap stmt_tree c.in-Assign.is ∙ stmt_tree-Assign x c.in-Assign.rhs) in
    ap₂ (λ b v. alone (code.Plain (code.Assign x.place b v))) c.in_ok-bound-in-Assign.ensures.value
    (ap value_of c.in_ok-value-in-Assign-2.ensures ∙ c.in_ok-value-in-Assign.ensures.value)
    ∙ ap (stmt_form w s f.count) tree

pub statement-returns-in_ok-value-in-Run-clause-sight : goal.statement-returns-in_ok-value-in-Run-clause-sight
statement-returns-in_ok-value-in-Run-clause-sight t c =
    let w = lent_within c.args.within.now in
    let fr = c.args.frame.now in
    let ks = c.args.variables.now in
    let s = sight_of fr ks in
    let f = found_of c.args.found.now in
    let tree = sym (ap stmt_tree c.in-Run.is ∙ stmt_tree-Run c.in-Run.rhs) in
    c.in_ok-value-in-Run.ensures.sight ∙ ap (with_stmt ks f.count) tree

pub statement-returns-in_ok-value-in-Run-clause-found : goal.statement-returns-in_ok-value-in-Run-clause-found
statement-returns-in_ok-value-in-Run-clause-found t c =
    let w = lent_within c.args.within.now in
    let fr = c.args.frame.now in
    let ks = c.args.variables.now in
    let s = sight_of fr ks in
    let f = found_of c.args.found.now in
    let tree = sym (ap stmt_tree c.in-Run.is ∙ stmt_tree-Run c.in-Run.rhs) in
    c.in_ok-value-in-Run.ensures.found ∙ ap (after_stmt w s f) tree

pub statement-returns-in_ok-value-in-Run-clause-form : goal.statement-returns-in_ok-value-in-Run-clause-form
statement-returns-in_ok-value-in-Run-clause-form t c =
    let w = lent_within c.args.within.now in
    let fr = c.args.frame.now in
    let ks = c.args.variables.now in
    let s = sight_of fr ks in
    let f = found_of c.args.found.now in
    let tree = sym (ap stmt_tree c.in-Run.is ∙ stmt_tree-Run c.in-Run.rhs) in
    ap alone c.in_ok-value-in-Run.ensures.value ∙ ap (stmt_form w s f.count) tree
