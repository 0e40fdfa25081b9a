use Rattle.std.proofs.Common.{◌≡◌, ◌<◌, List, map, length, get_or, Ok, Err, sym, ap, ◌∙◌, subst, arith, rules}
use Rattle.std.specs.Prelude.{Result}
use Rattle.wy_types.specs.declared.types.TypeRef.{TypeRef}
use Rattle.wy_types.specs.declared.reach.ReachRefusal.{ReachRefusal}
use Rattle.wy_types.specs.Program.{program_of}
use Rattle.wy_types.specs.Signature.{Signature, signature_types}
use Rattle.wy_types.specs.Types.{signature, methods_of}
use Rattle.wy_types.specs.Reached.{Reach}
use Rattle.wy_types.specs.Gathering.{IsGathered, Gathers}
use Rattle.wy_types.proofs.Reaching.{work_start, work_more, work_done, work_refused, start_refused}
use Rattle.wy_types.proofs.reach.reach.Goals as goal

pub returns-in_err-seen : goal.returns-in_err-seen
returns-in_err-seen c =
    let e : c.from_residual.result ≡ Err c.in_err-seen.field-0.0 = search rules in
    let P : Result (List TypeRef) ReachRefusal → Type 0 = λ r. Reach (program_of c.args.core.now) c.args.scope r in
    subst P (sym e) (start_refused (program_of c.args.core.now) c.args.scope c.in_err-seen.field-0.0 c.in_err-seen.ensures)

pub loop-next-init : goal.loop-next-init
loop-next-init c = work_start (program_of c.args.core.now) c.args.scope c.in_ok-seen.seen c.in_ok-seen.ensures

pub returns-in_err-add_signatures : goal.returns-in_err-add_signatures
returns-in_err-add_signatures c =
    let p = program_of c.args.core.now in
    let t = c.index-as_slice-next.result in
    let S : List TypeRef → Type 0 = λ l. t ≡ get_or l c.loop-next.next t in
    let there : t ≡ get_or c.loop-next.seen c.loop-next.next t = subst S c.as_slice.ensures c.index-as_slice-next.is in
    let below : c.loop-next.next < length c.loop-next.seen = omega (arith, c.loop-next-test.true, c.len.ensures) in
    let found : map signature c.as_slice-in-loop-next.result.now ≡ methods_of p c.args.scope t = ap (map signature) c.as_slice-in-loop-next.ensures.value ∙ c.in_ok-found.ensures in
    let e : c.from_residual-in_err-add_signatures.result ≡ Err c.in_err-add_signatures.field-0.0 = search rules in
    let P : Result (List TypeRef) ReachRefusal → Type 0 = λ r. Reach p c.args.scope r in
    let Q : List (Signature TypeRef) → Type 0 = λ ms. Gathers c.loop-next.seen (signature_types ms) c.add_signatures.new.seen (Err c.in_err-add_signatures.field-0.0) in
    subst P (sym e) (work_refused p c.args.scope c.loop-next.seen c.add_signatures.new.seen c.loop-next.next t c.in_err-add_signatures.field-0.0 c.loop-next.invariant below there
    (subst Q found c.in_err-add_signatures.ensures))

pub loop-next-preserved : goal.loop-next-preserved
loop-next-preserved c =
    let p = program_of c.args.core.now in
    let t = c.index-as_slice-next.result in
    let S : List TypeRef → Type 0 = λ l. t ≡ get_or l c.loop-next.next t in
    let there : t ≡ get_or c.loop-next.seen c.loop-next.next t = subst S c.as_slice.ensures c.index-as_slice-next.is in
    let below : c.loop-next.next < length c.loop-next.seen = omega (arith, c.loop-next-test.true, c.len.ensures) in
    let found : map signature c.as_slice-in-loop-next.result.now ≡ methods_of p c.args.scope t = ap (map signature) c.as_slice-in-loop-next.ensures.value ∙ c.in_ok-found.ensures in
    let Q : List (Signature TypeRef) → Type 0 = λ ms. IsGathered c.loop-next.seen (signature_types ms) c.add_signatures.new.seen in
    work_more p c.args.scope c.loop-next.seen c.add_signatures.new.seen c.loop-next.next t c.loop-next.invariant below there (subst Q found c.in_ok-add_signatures.ensures)

pub returns : goal.returns
returns c =
    let P : List TypeRef → Type 0 = λ l. Reach (program_of c.args.core.now) c.args.scope (Ok l) in
    subst P (sym c.in_ok-into_list.ensures)
    (work_done (program_of c.args.core.now) c.args.scope c.loop-next.seen c.loop-next.next c.loop-next.invariant (omega (arith, c.loop-next-test.false, c.len.ensures)))
