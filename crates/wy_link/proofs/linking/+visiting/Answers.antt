use Rattle.std.proofs.Common.{◌≡◌, ◌-◌, ◌++◌, Err, length, refl, rules, sym, ap, ◌∙◌, subst}
use Rattle.std.specs.Prelude.{Result, codes, slice_get}
use Rattle.wy_types.specs.Program.{program_of}
use Rattle.wy_types.specs.Ground.{names_of, visit, visit_name}
use Rattle.wy_judge.proofs.Results.{handed_on}
use Rattle.wy_link.specs.declared.linking.LinkRefusal.{LinkRefusal}
use Rattle.wy_link.specs.Linking.{ComesTo, CanSettle, visited}
use Rattle.wy_link.proofs.Rooms.{next_visited, next_room, module_room_of}
use Rattle.wy_link.proofs.Visits.{name_refused, instance_comes, instance_refused, import_comes, import_refused}
use Rattle.wy_link.proofs.linking.+visiting.Goals as goal

pub visit-returns-in_err-visit_name : goal.visit-returns-in_err-visit_name
visit-returns-in_err-visit_name t c =
    let p = program_of c.args.core.now in
    let whole = visit p c.args.scopes c.args.outer.now c.args.prefix.now c.args.outer.now (visited c.args.started.now c.args.own.now) in
    let e : c.from_residual.result ≡ Err c.in_err-visit_name.field-0.0 = handed_on c.from_residual.result c.in_err-visit_name.field-0.0 c.from_residual.ensures.1 in
    let P : Result (Unit {0}) LinkRefusal → Type 0 = λ r. ComesTo whole c.visit_name.new.started c.visit_name.new.own r in
    subst P (sym e)
    (name_refused p (c.args.scopes - 1) c.args.outer.now c.args.prefix.now (visited c.loop-name.started c.loop-name.own) whole c.loop-name.name-index c.name-item.result c.loop-name-test.true c.name-item.is
    c.visit_name.new.started c.visit_name.new.started c.visit_name.new.own c.visit_name.new.own c.in_err-visit_name.field-0.0 c.loop-name.invariant.0 c.in_err-visit_name.ensures)

pub visit_name-returns-in_err-visit_module-in-Instance : goal.visit_name-returns-in_err-visit_module-in-Instance
visit_name-returns-in_err-visit_module-in-Instance t c =
    let p = program_of c.args.core.now in
    let n = c.args.name.now in
    let m = c.in-Instance.module in
    let whole = visit_name p (visit p c.args.scopes) c.args.outer.now c.args.prefix.now n n.origin (visited c.args.started.now c.args.own.now) in
    let refusal = c.in_err-visit_module-in-Instance.field-0.0 in
    let e : c.from_residual-in_err-visit_module-in-Instance.result ≡ Err refusal = handed_on c.from_residual-in_err-visit_module-in-Instance.result refusal c.from_residual-in_err-visit_module-in-Instance.ensures.1 in
    let P : Result (Unit {0}) LinkRefusal → Type 0 = λ r. ComesTo whole c.visit_module.new.started c.args.own.now r in
    subst P (sym e)
    (instance_refused p c.args.scopes c.args.outer.now c.args.prefix.now n m c.in-Instance.arguments c.as_slice.result.now c.args.started.now c.args.own.now c.in_ok-inner-in-Instance.inner
    (names_of (slice_get p.scopes m)) (c.args.prefix.now ++ (n.name ++ codes ".")) c.as_slice.ensures refl refl
    (c.in_ok-inner-in-Instance.ensures.actuals) (c.in_ok-inner-in-Instance.ensures.sets)
    c.visit_module.new.started c.visit_module.new.started c.visit_module.new.inner c.args.own.now n.origin refusal c.in-Instance.is c.in_err-visit_module-in-Instance.ensures)

pub visit_name-returns-in_ok-line-in-Instance : goal.visit_name-returns-in_ok-line-in-Instance
visit_name-returns-in_ok-line-in-Instance t c =
    let p = program_of c.args.core.now in
    let n = c.args.name.now in
    let m = c.in-Instance.module in
    instance_comes p c.args.scopes c.args.outer.now c.args.prefix.now n m c.in-Instance.arguments c.as_slice.result.now c.args.started.now c.args.own.now c.in_ok-inner-in-Instance.inner
    (names_of (slice_get p.scopes m)) (c.args.prefix.now ++ (n.name ++ codes ".")) c.as_slice.ensures refl refl
    (c.in_ok-inner-in-Instance.ensures.actuals) (c.in_ok-inner-in-Instance.ensures.sets)
    c.visit_module.new.started c.settle_line.new.started c.visit_module.new.inner c.settle_line.new.own n.origin c.settle_line.result c.in_ok-line-in-Instance.line c.in_ok-line-in-Instance.ensures c.in-Instance.is
    c.in_ok-visit_module-in-Instance.ensures.0 c.settle_line.ensures

pub visit_name-returns-in_err-visit_module-in-Import : goal.visit_name-returns-in_err-visit_module-in-Import
visit_name-returns-in_err-visit_module-in-Import t c =
    let p = program_of c.args.core.now in
    let n = c.args.name.now in
    let m = c.in-Import.module in
    let whole = visit_name p (visit p c.args.scopes) c.args.outer.now c.args.prefix.now n n.origin (visited c.args.started.now c.args.own.now) in
    let refusal = c.in_err-visit_module-in-Import.field-0.0 in
    let e : c.from_residual-in_err-visit_module-in-Import.result ≡ Err refusal = handed_on c.from_residual-in_err-visit_module-in-Import.result refusal c.from_residual-in_err-visit_module-in-Import.ensures.1 in
    let P : Result (Unit {0}) LinkRefusal → Type 0 = λ r. ComesTo whole c.visit_module-in-Import.new.started c.args.own.now r in
    subst P (sym e)
    (import_refused p c.args.scopes c.args.outer.now c.args.prefix.now n m c.in-Import.arguments c.as_slice-in-Import.result.now c.args.started.now c.args.own.now c.in_ok-inner-in-Import.inner
    (names_of (slice_get p.scopes m)) (c.args.prefix.now ++ (n.name ++ codes ".")) c.as_slice-in-Import.ensures refl refl
    (c.in_ok-inner-in-Import.ensures.actuals) (c.in_ok-inner-in-Import.ensures.sets)
    c.visit_module-in-Import.new.started c.visit_module-in-Import.new.started c.visit_module-in-Import.new.inner c.args.own.now n.origin c.in-Import.bound refusal c.in-Import.is c.in_err-visit_module-in-Import.ensures)

pub visit_name-returns-in_ok-line-in-Import : goal.visit_name-returns-in_ok-line-in-Import
visit_name-returns-in_ok-line-in-Import t c =
    let p = program_of c.args.core.now in
    let n = c.args.name.now in
    let m = c.in-Import.module in
    import_comes p c.args.scopes c.args.outer.now c.args.prefix.now n m c.in-Import.arguments c.as_slice-in-Import.result.now c.args.started.now c.args.own.now c.in_ok-inner-in-Import.inner
    (names_of (slice_get p.scopes m)) (c.args.prefix.now ++ (n.name ++ codes ".")) c.as_slice-in-Import.ensures refl refl
    (c.in_ok-inner-in-Import.ensures.actuals) (c.in_ok-inner-in-Import.ensures.sets)
    c.visit_module-in-Import.new.started c.settle_import.new.started c.visit_module-in-Import.new.inner c.settle_import.new.own n.origin c.in-Import.bound c.settle_import.result c.in_ok-line-in-Import.line c.in_ok-line-in-Import.ensures c.in-Import.is
    c.in_ok-visit_module-in-Import.ensures.0 c.settle_import.ensures

pub visit-loop-name-preserved : goal.visit-loop-name-preserved
visit-loop-name-preserved t c =
    let p = program_of c.args.core.now in
    let inside = visit p (c.args.scopes - 1) in
    let v = visited c.loop-name.started c.loop-name.own in
    let w = visited c.visit_name.new.started c.visit_name.new.own in
    let done = c.in_ok-visit_name.ensures in (
      next_visited p inside c.args.outer.now c.args.prefix.now c.loop-name.name-index c.name-item.result v w _ c.loop-name-test.true c.name-item.is c.loop-name.invariant.0 done.0,
      done.1,
      next_room p inside c.args.outer.now c.args.prefix.now c.loop-name.name-index c.name-item.result v w c.loop-name-test.true c.name-item.is c.loop-name.invariant.2 done.0,
    )

pub visit_name-visit_module-requires : goal.visit_name-visit_module-requires
visit_name-visit_module-requires t c =
    let p = program_of c.args.core.now in
    let n = c.args.name.now in
    let own = c.args.own.now in
    let of = subst (λ o. CanSettle p n o (length own.actuals) (length own.sets)) c.in-Instance.is c.requires.room in
    (search rules, (c.requires.core, (c.requires.few, of)))

pub visit_name-visit_module-requires-in-Import : goal.visit_name-visit_module-requires-in-Import
visit_name-visit_module-requires-in-Import t c =
    let p = program_of c.args.core.now in
    let n = c.args.name.now in
    let own = c.args.own.now in
    let of = subst (λ o. CanSettle p n o (length own.actuals) (length own.sets)) c.in-Import.is c.requires.room in
    (search rules, (c.requires.core, (c.requires.few, of)))

pub visit_module-visit-requires : goal.visit_module-visit-requires
visit_module-visit-requires t c =
    let inner = c.args.inner.now in
    let room = module_room_of (program_of c.args.core.now) c.requires.core c.args.scope c.names_of-names.result.now (length inner.actuals) (length inner.sets) c.requires.there c.names_of-names.ensures in
    (search rules, (c.requires.core, (c.requires.few, room)))

pub visit_module-returns : goal.visit_module-returns
visit_module-returns t c =
    let p = program_of c.args.core.now in
    let v = visited c.args.started.now c.args.inner.now in
    let e = ap (λ l. visit p c.args.scopes l c.in_ok-inside.inside l v) c.names_of-names.ensures ∙ ap (λ l. visit p c.args.scopes (names_of (slice_get p.scopes c.args.scope)) l (names_of (slice_get p.scopes c.args.scope)) v) c.in_ok-inside.ensures in
    subst (λ w. ComesTo w c.visit.new.started c.visit.new.own c.visit.result) e c.visit.ensures
