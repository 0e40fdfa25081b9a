-- What resolving makes and is accepted is lowerable, and its code does what it means.
use Rattle.std.proofs.Common.{◌≡◌, ℕ, zero, suc, List, [], ◌∷◌, map, refl, sym, ap, ◌∙◌, subst, Some, false}
use Rattle.std.specs.Prelude.{slice_get}
use Rattle.wy_text.specs.Members.{Apart}
use Rattle.wy_text.proofs.Lists.{In-slice_get}
use Rattle.wy_types.specs.declared.linked.Instance.{Instance}
use Rattle.wy_types.specs.declared.resolved.ScopeKind.{ScopeKind}
use Rattle.wy_types.specs.declared.resolved.ScopeKind.TheVariants.{Pure, Resource, Plain, Program as Main}
use Rattle.wy_types.specs.Program.{Program}
use Rattle.wy_types.specs.Ground.{names_of, program_number, start_list}
use Rattle.wy_rules.specs.Acceptance.{Accepted}
use Rattle.wy_rules.specs.OwnNames.{GrantsStandFirst}
use Rattle.wy_meaning.specs.Starts.{Started, started_of, scope_names, last_scope}
use Rattle.wy_sound.specs.Programs.{IsResolved, program_starts}
use Rattle.wy_sound.proofs.LinkingLaws.{accepted_modules}
use Rattle.wy_sound.proofs.Performing.{names_same, last_number}
use Rattle.wy_sound.proofs.Running.{never_wrong}
use Rattle.wy_lower.specs.Laws.{AcceptedIsLowerable, AcceptedCodeFollows, AcceptedIsNeverStuck}
use Rattle.wy_lower.specs.Lowerable.{IsModuleStarted}
use Rattle.wy_lower.specs.Lowering.{is_program}
use Rattle.wy_lower.proofs.LiteralsMade.{scope_made}
use Rattle.wy_lower.proofs.Whole.{compiles, never_stuck}

unmapped : (xs : List Instance) (k : ℕ) (s : Started) → slice_get (map started_of xs) k ≡ Some s →
    (i : Instance) × (slice_get xs k ≡ Some i) × (started_of i ≡ s)
unmapped [] k s e = absurd (cc)
unmapped (i ∷ xs) zero s e = (i, refl, cc)
unmapped (i ∷ xs) (suc k) s e = unmapped xs k s e

module_kind : (k : ScopeKind) → (k ≡ Main → ⊥) → is_program k ≡ false
module_kind Pure h = refl
module_kind Resource h = refl
module_kind Plain h = refl
module_kind Main h = absurd (h refl)

module_started : (p : Program) → IsResolved p → Accepted p → (x : ℕ) (s : Started) → slice_get (map started_of (start_list p)) x ≡ Some s → IsModuleStarted p s
module_started p r a x s e =
    let i = unmapped (start_list p) x s e in
    let fit = accepted_modules p r a x i.0 i.1 in
    subst (IsModuleStarted p) i.2
    (record { scope = fit.scope; stands = fit.there; is_module = module_kind fit.scope.kind fit.is_module; handed = fit.handed })

grants_first : (p : Program) → IsResolved p → GrantsStandFirst (scope_names (slice_get p.scopes (last_scope p.scopes)))
grants_first p r =
    let same : scope_names (slice_get p.scopes (last_scope p.scopes)) ≡ names_of (slice_get p.scopes (program_number p)) =
    ap (λ k. scope_names (slice_get p.scopes k)) (last_number p.scopes) ∙ names_same (slice_get p.scopes (program_number p)) in
    subst GrantsStandFirst (sym same) r.keeps.grants

pub accepted_is_lowerable : AcceptedIsLowerable
accepted_is_lowerable p r a = record {
  core = r.keeps.core;
  edition = refl;
  made = λ k s e. subst (λ (ls : List ℕ). Apart ls) (sym (scope_made s)) (r.keeps.once s (In-slice_get p.scopes k s e));
  bare = λ k s e. r.keeps.captures s (In-slice_get p.scopes k s e);
  instances = module_started p r a;
  main = refl;
  grants = grants_first p r;
}

pub accepted_code_follows : AcceptedCodeFollows
accepted_code_follows p r a n k tapes =
    compiles p (program_starts p) (accepted_is_lowerable p r a) n k tapes (never_wrong p r a n tapes)

pub accepted_is_never_stuck : AcceptedIsNeverStuck
accepted_is_never_stuck p r a =
    never_stuck p (program_starts p) (accepted_is_lowerable p r a) (never_wrong p r a)
