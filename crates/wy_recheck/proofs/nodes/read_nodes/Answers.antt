use Rattle.std.proofs.Common.{◌≡◌, ◌<◌, List, length, refl, sym, ap, ◌∙◌, subst, Some, true}
use Rattle.std.specs.Prelude.{slice_get, nat_eq}
use Rattle.std.proofs.lemmas.Option.{slice_get_read}
use Rattle.wy_types.specs.declared.types.TypeRef.{TypeRef}
use Rattle.wy_types.specs.declared.resolved.Scope as declared
use Rattle.wy_types.specs.Program.{Scope, program_of, scope_of}
use Rattle.wy_types.specs.Vals.{scope_vals}
use Rattle.wy_subtype.proofs.Places.{slice_get-mapped}
use Rattle.wy_cert.specs.declared.certificate.CertScope.{CertScope}
use Rattle.wy_proving.specs.Certified.{types_of, named_types}
use Rattle.wy_proving.specs.Reading.{bodies_fail}
use Rattle.wy_proving.specs.Proving.{nodes_read}
use Rattle.wy_recheck.proofs.NodesFailing.{first_weaker}
use Rattle.wy_recheck.proofs.NodesWhole.{whole_read, whole_holds, whole_fails}
use Rattle.wy_recheck.proofs.nodes.read_nodes.Goals as goal

pub read_scope-requires-clause-reader : goal.read_scope-requires-clause-reader
read_scope-requires-clause-reader c =
    let x : declared.Scope = c.index-as_slice-number.result in
    let scopes : List declared.Scope = c.as_slice.result.now in
    let k = c.args.number in
    let below : k < length scopes = subst (λ (l : List declared.Scope). k < length l) (sym c.as_slice.ensures) c.requires.there in
    let there = ap (λ (l : List declared.Scope). slice_get l k) (sym c.as_slice.ensures) ∙ slice_get_read scopes _ k x refl below c.index-as_slice-number.is in
    record {
      core = c.requires.core;
      there = slice_get-mapped scope_of c.args.core.now.scopes k x there;
      types = c.requires.types;
      listed = c.pairs_of.ensures c.args.part.now c.requires.pairs c.requires.plain;
    }

pub returns-clause-hold : goal.returns-clause-hold
returns-clause-hold c =
    let x : declared.Scope = c.index-as_slice-number.result in
    let scopes : List declared.Scope = c.as_slice.result.now in
    let p = program_of c.args.core.now in
    let k = c.args.number in
    let part : CertScope = c.args.part.now in
    let below : k < length scopes = subst (λ (l : List declared.Scope). k < length l) (sym c.as_slice.ensures) c.requires.there in
    let there = ap (λ (l : List declared.Scope). slice_get l k) (sym c.as_slice.ensures) ∙ slice_get_read scopes _ k x refl below c.index-as_slice-number.is in
    let yes : c.has_vals.result ≡ true = c.if-not-has_vals.false in
    let counted : nat_eq (length part.locals) (length (scope_vals (scope_of x))) ≡ true = ap (λ n. nat_eq n (length (scope_vals (scope_of x)))) (sym c.len.ensures) ∙ sym c.has_vals.ensures ∙ yes in
    let named : named_types (types_of part) part.locals ≡ Some c.in-Some.locals =
    ap (λ (ts : List TypeRef). named_types ts part.locals) (sym c.requires.types) ∙ ap (named_types c.args.types.now) (sym c.as_slice-2.ensures) ∙ sym c.in_ok-locals.ensures ∙ c.in-Some.is in
    let whole = whole_read p k (scope_of x) part counted c.in-Some.locals c.as_slice-3.result.now c.as_slice-4.result.now named c.as_slice-3.ensures c.as_slice-4.ensures c.is_plain-bare.result c.is_plain-bare.ensures in
    whole_holds _ c.read_scope.result c.read_scope.ensures _ (λ at e s is.
    let one : Some s ≡ Some (scope_of x) = sym is ∙ slice_get-mapped scope_of c.args.core.now.scopes k x there in
    let same : s ≡ scope_of x = cc in
    (at, ap (λ (v : Scope). nodes_read p k v part) same ∙ whole ∙ e))

pub returns-clause-first : goal.returns-clause-first
returns-clause-first c =
    let x : declared.Scope = c.index-as_slice-number.result in
    let scopes : List declared.Scope = c.as_slice.result.now in
    let p = program_of c.args.core.now in
    let k = c.args.number in
    let part : CertScope = c.args.part.now in
    let below : k < length scopes = subst (λ (l : List declared.Scope). k < length l) (sym c.as_slice.ensures) c.requires.there in
    let there = ap (λ (l : List declared.Scope). slice_get l k) (sym c.as_slice.ensures) ∙ slice_get_read scopes _ k x refl below c.index-as_slice-number.is in
    let yes : c.has_vals.result ≡ true = c.if-not-has_vals.false in
    let counted : nat_eq (length part.locals) (length (scope_vals (scope_of x))) ≡ true = ap (λ n. nat_eq n (length (scope_vals (scope_of x)))) (sym c.len.ensures) ∙ sym c.has_vals.ensures ∙ yes in
    let named : named_types (types_of part) part.locals ≡ Some c.in-Some.locals =
    ap (λ (ts : List TypeRef). named_types ts part.locals) (sym c.requires.types) ∙ ap (named_types c.args.types.now) (sym c.as_slice-2.ensures) ∙ sym c.in_ok-locals.ensures ∙ c.in-Some.is in
    let whole = whole_read p k (scope_of x) part counted c.in-Some.locals c.as_slice-3.result.now c.as_slice-4.result.now named c.as_slice-3.ensures c.as_slice-4.ensures c.is_plain-bare.result c.is_plain-bare.ensures in
    whole_fails _ c.read_scope.result c.read_scope.ensures _ (λ f h s is.
    let one : Some s ≡ Some (scope_of x) = sym is ∙ slice_get-mapped scope_of c.args.core.now.scopes k x there in
    let same : s ≡ scope_of x = cc in
    first_weaker _ (λ i. nodes_read p k s part ≡ bodies_fail i) (λ i g. ap (λ (v : Scope). nodes_read p k v part) same ∙ whole ∙ g) f h)
