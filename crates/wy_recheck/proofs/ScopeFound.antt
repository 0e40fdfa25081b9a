-- What is told of the types of the scope that was found is told of the scope of the number.
use Rattle.std.proofs.Common.{◌≡◌, ℕ, ◌≤◌, List, length, Some, map, sym, ◌∙◌, subst}
use Rattle.std.specs.Prelude.{slice_get}
use Rattle.wy_text.proofs.Lists.{In-map, In-slice_get}
use Rattle.wy_types.specs.declared.resolved.Scope as sc
use Rattle.wy_types.specs.declared.resolved.Core.{Core}
use Rattle.wy_types.specs.Program.{Scope, program_of, scope_of}
use Rattle.wy_types.specs.Core.{IsCore}
use Rattle.wy_cert.specs.declared.certificate.CertType.{CertType}
use Rattle.wy_cert.specs.declared.certificate.CertScope.{CertScope}
use Rattle.wy_subtype.proofs.Places.{slice_get-mapped}
use Rattle.wy_proving.specs.declared.proof.CertTest.TheVariants.{Types}
use Rattle.wy_proving.specs.Certified.{typed}
use Rattle.wy_proving.specs.Proving.{AllStand, TypeStands, TypesHold}
use Rattle.wy_proving.specs.Unproved.{IsFirstWithout, FailsAt}
use Rattle.wy_recheck.specs.declared.failure.Failure.{Failure}
use Rattle.wy_recheck.specs.Standing.{FailsFirst}

-- the scope of a number
module _ (core : Core) (k : ℕ) (x : sc.Scope) (there : slice_get core.scopes k ≡ Some x) where
  pub few_atoms : IsCore (program_of core) → length x.atoms ≤ 512
  few_atoms h = (h.scopes (scope_of x) (In-map scope_of x core.scopes (In-slice_get core.scopes k x there))).atoms

  module _ (s : Scope) (at : slice_get (program_of core).scopes k ≡ Some s) where
    -- it is the scope of the program
    pub scope_is : scope_of x ≡ s
    scope_is = let e : Some (scope_of x) ≡ Some s = sym (slice_get-mapped scope_of core.scopes k x there) ∙ at in cc

    module _ (part : CertScope) (listed : List CertType) (same : listed ≡ part.types) where
      pub types_hold : AllStand (TypeStands (program_of core) (scope_of x)) (map typed listed) → TypesHold (program_of core) k s part
      types_hold h =
          let P : Scope → Type 0 = λ v. AllStand (TypeStands (program_of core) v) (map typed listed) in
          let Q : List CertType → Type 0 = λ l. AllStand (TypeStands (program_of core) s) (map typed l) in
          subst Q same (subst P scope_is h)

      pub types_fail : (f : Failure) → FailsFirst (IsFirstWithout (TypeStands (program_of core) (scope_of x)) (map typed listed)) f → FailsFirst (FailsAt (program_of core) k s part Types) f
      types_fail f h =
          let P : Scope → Type 0 = λ v. FailsFirst (IsFirstWithout (TypeStands (program_of core) v) (map typed listed)) f in
          let Q : List CertType → Type 0 = λ l. FailsFirst (IsFirstWithout (TypeStands (program_of core) s) (map typed l)) f in
          subst Q same (subst P scope_is h)
