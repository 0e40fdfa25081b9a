use Rattle.std.proofs.Common.{◌≡◌, ◌<◌, List, map, length, refl, sym, ap, ◌∙◌, subst, Some}
use Rattle.std.specs.Prelude.{slice_get}
use Rattle.std.proofs.lemmas.Option.{slice_get_read}
use Rattle.wy_types.specs.declared.resolved.Scope as sc
use Rattle.wy_types.specs.Program.{Scope, program_of, scope_of}
use Rattle.wy_subtype.specs.declared.verdict.Mode.TheVariants.{Annotated, Plain}
use Rattle.wy_subtype.proofs.Places.{slice_get-mapped}
use Rattle.wy_certify.specs.declared.finding.ScopePart.{ScopePart}
use Rattle.wy_certify.specs.Pair.{pair_of}
use Rattle.wy_certify.specs.Parts.{IsFound}
use Rattle.wy_certify.proofs.ScopesProved.{asked_hold, closed_of_asked, steps_are}
use Rattle.wy_certify.proofs.finding.found_part.Goals as goal

pub closed_pairs-requires-clause-hold : goal.closed_pairs-requires-clause-hold
closed_pairs-requires-clause-hold c =
    let x = c.index-as_slice-number.result in
    let scopes = c.as_slice.result.now in
    let k = c.args.number in
    let core = c.args.core.now in
    let below : k < length scopes = subst (λ (l : List sc.Scope). k < length l) (sym c.as_slice.ensures) c.requires.there in
    let there = ap (λ (l : List sc.Scope). slice_get l k) (sym c.as_slice.ensures) ∙ slice_get_read scopes _ k x refl below c.index-as_slice-number.is in
    let at = slice_get-mapped scope_of core.scopes k x there in
    asked_hold (program_of core) k (scope_of x) at c.requires.core c.requires.accepted c.in_ok-vals.vals c.as_slice-2.result.now c.as_slice-2.ensures (c.in_ok-vals.ensures (scope_of x) at) c.in_ok-steps.steps (c.in_ok-steps.ensures (scope_of x) at)
    Annotated c.as_slice-3.result.now c.as_slice-3.ensures

pub closed_pairs-requires-2-clause-hold : goal.closed_pairs-requires-2-clause-hold
closed_pairs-requires-2-clause-hold c =
    let x = c.index-as_slice-number.result in
    let scopes = c.as_slice.result.now in
    let k = c.args.number in
    let core = c.args.core.now in
    let below : k < length scopes = subst (λ (l : List sc.Scope). k < length l) (sym c.as_slice.ensures) c.requires.there in
    let there = ap (λ (l : List sc.Scope). slice_get l k) (sym c.as_slice.ensures) ∙ slice_get_read scopes _ k x refl below c.index-as_slice-number.is in
    let at = slice_get-mapped scope_of core.scopes k x there in
    asked_hold (program_of core) k (scope_of x) at c.requires.core c.requires.accepted c.in_ok-vals.vals c.as_slice-2.result.now c.as_slice-2.ensures (c.in_ok-vals.ensures (scope_of x) at) c.in_ok-steps.steps (c.in_ok-steps.ensures (scope_of x) at)
    Plain c.as_slice-4.result.now c.as_slice-4.ensures

pub returns : goal.returns
returns c =
    let x = c.index-as_slice-number.result in
    let scopes = c.as_slice.result.now in
    let k = c.args.number in
    let core = c.args.core.now in
    let p = program_of core in
    let below : k < length scopes = subst (λ (l : List sc.Scope). k < length l) (sym c.as_slice.ensures) c.requires.there in
    let there = ap (λ (l : List sc.Scope). slice_get l k) (sym c.as_slice.ensures) ∙ slice_get_read scopes _ k x refl below c.index-as_slice-number.is in
    let at = slice_get-mapped scope_of core.scopes k x there in
    let locals = c.in_ok-vals.ensures (scope_of x) at in
    let steps = c.in_ok-steps.ensures (scope_of x) at in
    let pairs = map pair_of c.in_ok-pairs.pairs in
    let bares = map pair_of c.in_ok-bares.bares in
    let vals = c.in_ok-vals.vals in
    let all = c.in_ok-steps.steps in
    let part : ScopePart = record { pairs = c.in_ok-pairs.pairs; bares = c.in_ok-bares.bares; vals = vals; steps = all } in
    λ s e.
    let same : scope_of x ≡ s = (let both : Some (scope_of x) ≡ Some s = sym at ∙ e in cc) in
    subst (λ (v : Scope). IsFound p k v part) same (record {
      vals = locals;
      steps = steps_are p k (scope_of x) at c.requires.core c.requires.accepted vals c.as_slice-2.result.now c.as_slice-2.ensures locals all steps;
      closed = closed_of_asked p k (scope_of x) at c.requires.core c.requires.accepted vals c.as_slice-2.result.now c.as_slice-2.ensures locals all steps
          Annotated c.as_slice-3.result.now c.as_slice-3.ensures pairs (c.in_ok-pairs.ensures (scope_of x) at);
      closed_plainly = closed_of_asked p k (scope_of x) at c.requires.core c.requires.accepted vals c.as_slice-2.result.now c.as_slice-2.ensures locals all steps
          Plain c.as_slice-4.result.now c.as_slice-4.ensures bares (c.in_ok-bares.ensures (scope_of x) at);
    })
