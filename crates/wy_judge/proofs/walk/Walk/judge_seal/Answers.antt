use Rattle.std.proofs.Common.{sym, subst, ◌∙◌, Some}
use Rattle.wy_types.specs.declared.types.TypeRef.TheVariants.{Named, Own}
use Rattle.wy_types.specs.Fitting.{IsTypeOf}
use Rattle.wy_types.specs.Program.{program_of, scope_of}
use Rattle.wy_judge.specs.Walking.{IsSealFault, IsMembersFault}
use Rattle.wy_judge.proofs.Asked.{asked_type}
use Rattle.wy_judge.proofs.Contexts.{own_in_range, sealed_in_range, scope_fits}
use Rattle.wy_judge.specs.Results.{IfFault}
use Rattle.wy_judge.proofs.Results.{passed_weaker}
use Rattle.wy_judge.proofs.Seals.{never_sealed, sealed_below, seal_fails, seal_by_members}
use Rattle.wy_judge.proofs.walk.Walk.judge_seal.Goals as goal

pub holds-requires-clause-left : goal.holds-requires-clause-left
holds-requires-clause-left c =
    let p = program_of c.args.self.now.core.now in
    let k = c.args.self.now.number in
    let s = scope_of c.args.self.now.scope.now in
    asked_type p k _ c.args.pairs.now.about c.requires.asks (Own 0) (own_in_range p k s c.requires.walk.context 0 (scope_fits p k s c.requires.walk.context).own_literal)

pub holds-requires-clause-right : goal.holds-requires-clause-right
holds-requires-clause-right c =
    let p = program_of c.args.self.now.core.now in
    let k = c.args.self.now.number in
    let s = scope_of c.args.self.now.scope.now in
    let sets = c.in_ok-copy_sets.ensures ∙ c.as_slice.ensures in
    subst (λ m. IsTypeOf c.args.pairs.now.about.program c.args.pairs.now.about.scope (Named c.in-Some.decl m)) (sym sets)
    (asked_type p k _ c.args.pairs.now.about c.requires.asks (Named c.in-Some.decl s.definitions) (sealed_in_range p k s c.requires.walk.context c.in-Some.decl c.in-Some.is))

pub returns-in_default : goal.returns-in_default
returns-in_default c = never_sealed (program_of c.args.self.now.core.now) c.args.self.now.number (scope_of c.args.self.now.scope.now) c.in_default.not-Some

pub returns-then-not-below : goal.returns-then-not-below
returns-then-not-below c =
    let p = program_of c.args.self.now.core.now in
    let k = c.args.self.now.number in
    let s = scope_of c.args.self.now.scope.now in
    let d = c.in-Some.decl in
    let below = c.in_ok-below.below in
    let exact = sealed_below p k s d c.in-Some.is c.args.pairs.now.about c.in_ok-copy_sets.field-0 below c.requires.asks (c.in_ok-copy_sets.ensures ∙ c.as_slice.ensures) c.in_ok-below.ensures.exact in
    let fault = seal_fails p k s d c.in-Some.is c.requires.walk.context (λ q. let yes = exact.1 q in cc) in
    subst (λ e. IfFault e (λ f. IsSealFault p k s (Some f))) (sym c.fails.ensures) fault

pub returns : goal.returns
returns c =
    let p = program_of c.args.self.now.core.now in
    let k = c.args.self.now.number in
    let s = scope_of c.args.self.now.scope.now in
    let d = c.in-Some.decl in
    let below = c.in_ok-below.below in
    let exact = sealed_below p k s d c.in-Some.is c.args.pairs.now.about c.in_ok-copy_sets.field-0 below c.requires.asks (c.in_ok-copy_sets.ensures ∙ c.as_slice.ensures) c.in_ok-below.ensures.exact in
    passed_weaker c.judge_members.result (λ o. IsMembersFault p k s o) (λ o. IsSealFault p k s o)
    (λ o h. seal_by_members p k s d c.in-Some.is c.requires.walk.context (exact.0 c.if-not-below.false) o h)
    c.judge_members.ensures
