use Rattle.std.proofs.Common.{◌≡◌, ◌∷◌, [], ◌++◌, List, map, take, rules, sym, subst, Err}
use Rattle.std.specs.Prelude.{Result}
use Rattle.wy_types.specs.declared.types.TypeRef.{TypeRef}
use Rattle.wy_types.specs.declared.reach.ReachRefusal.{ReachRefusal}
use Rattle.wy_types.specs.Types.{signature}
use Rattle.wy_types.specs.Signature.{signature_types}
use Rattle.wy_types.specs.Gathering.{Gathers, IsGathered}
use Rattle.wy_types.proofs.Gathered.{gathered_more, gathers_refused, signature_types-take, params_within, result_within}
use Rattle.wy_types.proofs.reach.add_signatures.Goals as goal

pub loop-m-preserved : goal.loop-m-preserved
loop-m-preserved c =
    let m = c.m-item.result in
    let old : List TypeRef = signature_types (map signature (take c.loop-m.m-index c.args.methods.now)) in
    let params : IsGathered c.loop-m.seen m.params c.add_all.new.seen = rw (← c.as_slice.ensures) c.in_ok-add_all.ensures in
    let P : List TypeRef → Type 0 = λ l. IsGathered c.args.seen.now l c.add.new.self in
    subst P (sym (signature_types-take c.args.methods.now m c.loop-m.m-index c.loop-m-test.true c.m-item.is))
    (gathered_more c.args.seen.now old c.loop-m.seen (m.params ++ m.result ∷ []) c.add.new.self c.loop-m.invariant
    (gathered_more c.loop-m.seen m.params c.add_all.new.seen (m.result ∷ []) c.add.new.self params c.in_ok-add.ensures))

pub returns-in_err-add_all : goal.returns-in_err-add_all
returns-in_err-add_all c =
    let m = c.m-item.result in
    let whole : List TypeRef = signature_types (map signature c.args.methods.now) in
    let e : c.from_residual.result ≡ Err c.in_err-add_all.field-0.0 = search rules in
    let P : Result (Unit {0}) ReachRefusal → Type 0 = λ r. Gathers c.args.seen.now whole c.add_all.new.seen r in
    let Q : List TypeRef → Type 0 = λ l. Gathers c.loop-m.seen l c.add_all.new.seen (Err c.in_err-add_all.field-0.0) in
    let refused : Gathers c.loop-m.seen m.params c.add_all.new.seen (Err c.in_err-add_all.field-0.0) = subst Q c.as_slice.ensures c.in_err-add_all.ensures in
    subst P (sym e)
    (gathers_refused c.args.seen.now (signature_types (map signature (take c.loop-m.m-index c.args.methods.now))) c.loop-m.seen m.params whole c.add_all.new.seen c.in_err-add_all.field-0.0
    c.loop-m.invariant (params_within c.args.methods.now m c.loop-m.m-index c.loop-m-test.true c.m-item.is) refused c.add_all.new.seen)

pub returns-in_err-add : goal.returns-in_err-add
returns-in_err-add c =
    let m = c.m-item.result in
    let old : List TypeRef = signature_types (map signature (take c.loop-m.m-index c.args.methods.now)) in
    let whole : List TypeRef = signature_types (map signature c.args.methods.now) in
    let e : c.from_residual-in_err-add.result ≡ Err c.in_err-add.field-0.0 = search rules in
    let P : Result (Unit {0}) ReachRefusal → Type 0 = λ r. Gathers c.args.seen.now whole c.add.new.self r in
    let params : IsGathered c.loop-m.seen m.params c.add_all.new.seen = rw (← c.as_slice.ensures) c.in_ok-add_all.ensures in
    subst P (sym e)
    (gathers_refused c.args.seen.now (old ++ m.params) c.add_all.new.seen (m.result ∷ []) whole c.add.new.self c.in_err-add.field-0.0
    (gathered_more c.args.seen.now old c.loop-m.seen m.params c.add_all.new.seen c.loop-m.invariant params)
    (result_within c.args.methods.now m c.loop-m.m-index c.loop-m-test.true c.m-item.is) c.in_err-add.ensures c.add.new.self)
