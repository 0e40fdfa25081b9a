use Rattle.std.proofs.Common.{◌≡◌, ◌<◌, List, length, refl, sym, ◌∙◌, subst, below_more, arith}
use Rattle.std.proofs.Math.ListN.{length-map}
use Rattle.std.proofs.lemmas.Option.{slice_get_read, slice_get_within}
use Rattle.wy_types.specs.declared.resolved.Scope.{Scope}
use Rattle.wy_types.specs.Program.{program_of, scope_of}
use Rattle.wy_cert.specs.declared.certificate.CertScope.{CertScope}
use Rattle.wy_proving.specs.Proving.{ScopesHold, ScopeProof, ProvesScope}
use Rattle.wy_recheck.specs.declared.rechecking.CertRefusal.{CertRefusal}
use Rattle.wy_recheck.specs.Rechecked.{StopsAt}
use Rattle.wy_recheck.proofs.ScopesTold.{found_at, stops_at}
use Rattle.wy_recheck.proofs.rechecking.prove_scopes.Goals as goal

pub returns-in-Err-clause-stopped : goal.returns-in-Err-clause-stopped
returns-in-Err-clause-stopped g c =
    let p = program_of c.args.core.now in
    let parts : List CertScope = c.args.parts.now in
    let scopes : List Scope = c.args.core.now.scopes in
    let k = c.loop-number.number in
    let part : CertScope = c.index-parts-number.result in
    let holds : ScopesHold p parts = c.requires.number ∙ sym (length-map scopes scope_of) in
    let below : k < length p.scopes = omega (arith, holds, c.loop-number-test.true) in
    let found = found_at p.scopes k below in
    let there = slice_get_read parts _ k part refl c.loop-number-test.true c.index-parts-number.is in
    let P : CertRefusal → Type 0 = StopsAt p parts in
    subst P (sym c.unproved.ensures) (stops_at p k found.0 part parts holds found.1 there c.loop-number.invariant c.in-Err.stop (c.in-Err.ensures.stopped found.0 found.1))

pub loop-number-preserved : goal.loop-number-preserved
loop-number-preserved g c =
    let p = program_of c.args.core.now in
    let parts : List CertScope = c.args.parts.now in
    let k = c.loop-number.number in
    let part : CertScope = c.index-parts-number.result in
    let there = slice_get_read parts _ k part refl c.loop-number-test.true c.index-parts-number.is in
    let here : ProvesScope p parts k = λ s v at e. (let same : part ≡ v = cc in let P : CertScope → Type 0 = ScopeProof p k s in subst P same (c.in_default.ensures.proved s at)) in
    below_more (λ j. ProvesScope p parts j) k c.loop-number.invariant here

pub returns-clause-proved : goal.returns-clause-proved
returns-clause-proved g c =
    let parts : List CertScope = c.args.parts.now in
    let scopes : List Scope = c.args.core.now.scopes in
    record {
      number = c.requires.number ∙ sym (length-map scopes scope_of);
      scopes = λ k s v at e. (let below : k < length parts = slice_get_within parts k v e in c.loop-number.invariant k (omega (arith, below, c.loop-number-test.false)) s v at e);
    }
