-- Types of lines in range: those of arguments, those of parameters with sets put in, and both without effects.
use Rattle.std.proofs.Common.{◌≡◌, ℕ, List, [], ◌∷◌, length, map, inl, inr, refl, sym, ap, subst, ◌∙◌, arith, Option, Some, None, true, false}
use Rattle.std.specs.Prelude.{slice_get}
use Rattle.std.proofs.Math.ListN.{length-map}
use Rattle.wy_text.specs.Members.{In}
use Rattle.wy_effects.specs.EffSet.{AreSets, replace}
use Rattle.wy_text.proofs.Lists.{In-slice_get, In-at}
use Rattle.wy_effects.proofs.Replacing.{IsSet-replace, AreSets-map}
use Rattle.wy_types.specs.declared.types.TypeRef.{TypeRef}
use Rattle.wy_types.specs.declared.types.TypeRef.TheVariants.{Int, Bool as Truth, Text, Unit as Nothing, Named, At, Own}
use Rattle.wy_types.specs.declared.resolved.OwnName.{OwnName}
use Rattle.wy_types.specs.Program.{Program, Scope}
use Rattle.wy_types.specs.Core.{IsCore}
use Rattle.wy_types.specs.Types.{substituted, erased}
use Rattle.wy_types.specs.Fitting.{FitsType, IsTypeOf, own_count}
use Rattle.wy_types.specs.Ground.{type_of, names_of, arguments_sets}
use Rattle.wy_types.proofs.Kept.{Fits-wider}
use Rattle.wy_types.proofs.MemberSets.{arguments_are_sets}
use Rattle.wy_rules.specs.Acceptance.{is_parameter, parameters_until, parameters_among, parameters_of}
use Rattle.wy_judge.specs.Tables.{IsScopeOf}
use Rattle.wy_judge.proofs.Contexts.{name_in_range}
use Rattle.wy_premises.specs.Tried.{AreWritten}

module _ (p : Program) (owns : ℕ) where
  pub substituted_fits : (sets : List (List ℕ)) (t : TypeRef) → AreSets 512 sets → FitsType p 512 0 t → FitsType p 512 owns (substituted sets t)
  substituted_fits sets Int h f = tt
  substituted_fits sets Truth h f = tt
  substituted_fits sets Text h f = tt
  substituted_fits sets Nothing h f = tt
  substituted_fits sets (Named d members) h f =
      (f.0, elim f.1 [ inl e ↦ inl (length-map members (replace sets) ∙ e) | inr e ↦ inr (ap (map (replace sets)) e) ], AreSets-map 512 sets members h)
  substituted_fits sets (At d bound) h f = (f.0, IsSet-replace 512 sets bound h)
  substituted_fits sets (Own l) h f = absurd (omega arith)

  pub parameter_fits : (t : TypeRef) → FitsType p 512 0 t → FitsType p 512 owns t
  parameter_fits t f = Fits-wider p 512 owns t (omega arith) f

  pub erased_fits : (t : TypeRef) → FitsType p 512 owns t → FitsType p 512 owns (erased t)
  erased_fits Int f = tt
  erased_fits Truth f = tt
  erased_fits Text f = tt
  erased_fits Nothing f = tt
  erased_fits (Named d members) f = (f.0, inr refl, (λ s i. absurd i))
  erased_fits (At d bound) f = (f.0, inr refl, (λ s i. absurd i))
  erased_fits (Own l) f = f

module _ (p : Program) (k : ℕ) (s : Scope) (c : IsScopeOf p k s) where
  handed_type : (a : ℕ) (o : Option OwnName) → slice_get s.names a ≡ o → IsTypeOf p k (type_of o)
  handed_type a None e = tt
  handed_type a (Some n) e = name_in_range p k s c a n e

  -- an own name that is handed on
  pub argument_in_range : (a : ℕ) → IsTypeOf p k (type_of (slice_get s.names a))
  argument_in_range a = handed_type a (slice_get s.names a) refl

  -- .. as code has it
  pub handed_as : (outer : List OwnName) (a : ℕ) (t : TypeRef) → outer ≡ s.names → t ≡ type_of (slice_get outer a) → IsTypeOf p k t
  handed_as outer a t e is = subst (IsTypeOf p k) (sym (is ∙ ap (λ (l : List OwnName). type_of (slice_get l a)) e)) (argument_in_range a)

-- the parameters of a module are among its own names
among : (ns : List OwnName) (n : OwnName) → In n (parameters_among ns) → In n ns
among [] n i = i
among (m ∷ ns) n i =
    elim (is_parameter m.origin) as (λ b. In n (parameters_until b m (parameters_among ns)) → In n (m ∷ ns)) [
      | true ↦ λ j. elim j [ inl e ↦ inl e | inr h ↦ inr (among ns n h) ]
      | false ↦ λ j. absurd j
    ] i

module _ (p : Program) (c : IsCore p) where
  names_written : (m : ℕ) (o : Option Scope) → slice_get p.scopes m ≡ o → AreWritten p (names_of o)
  names_written m None e n i = absurd i
  names_written m (Some s) e n i =
      let fits = c.scopes s (In-slice_get p.scopes m s e) in
      let at = In-at n s.names i in
      Fits-wider p (length s.atoms) 0 n.typ fits.atoms (fits.names at.0 n at.2).0.0

  -- .. and have types that can be written
  pub parameters_written : (m : ℕ) → AreWritten p (parameters_of p m)
  parameters_written m n i = names_written m (slice_get p.scopes m) refl n (among (names_of (slice_get p.scopes m)) n i)

------------------------------------------------------------
-- The sets of arguments are sets

module _ (p : Program) (k : ℕ) (s : Scope) (c : IsScopeOf p k s) where
  pub handed_are_sets : (ns : List OwnName) (arguments : List ℕ) → AreSets 512 (arguments_sets p s.names ns arguments)
  handed_are_sets ns arguments = arguments_are_sets p 512 (own_count p k) s.names ns arguments (λ a i. argument_in_range p k s c a)
