-- What a core keeps of one of its scopes, as judging asks for it: the types that stand in the scope are in range, and a type in range
-- is a subtype of itself.
use Rattle.std.proofs.Common.{◌≡◌, ◌↔◌, ℕ, ◌<◌, List, [], ◌∷◌, ◌⊎◌, inl, inr, refl, sym, ap, subst, length, map, Option, Some, None, Bool as Truth, true, false}
use Rattle.std.specs.Prelude.{slice_get}
use Rattle.wy_text.specs.Members.{In}
use Rattle.wy_text.proofs.Lists.{In-slice_get, In-left, In-right, In-map}
use Rattle.wy_types.specs.declared.types.TypeRef.{TypeRef}
use Rattle.wy_types.specs.declared.types.TypeRef.TheVariants.{Int, Bool, Text, Unit as Nothing, Named, At, Own}
use Rattle.wy_types.specs.declared.resolved.Field.{Field}
use Rattle.wy_types.specs.declared.resolved.Literal.{Literal}
use Rattle.wy_types.specs.declared.resolved.OwnName.{OwnName}
use Rattle.wy_types.specs.declared.resolved.ScopeKind.{ScopeKind}
use Rattle.wy_types.specs.declared.resolved.ScopeKind.TheVariants.{Pure, Resource, Plain, Program as Main}
use Rattle.wy_types.specs.Program.{Program, Scope, Body}
use Rattle.wy_types.specs.Signature.{Signature, find_method}
use Rattle.wy_types.specs.Types.{IsObject, is_plain, methods_of}
use Rattle.wy_types.specs.Fitting.{FitsSignature, IsTypeOf, own_count, scope_literals}
use Rattle.wy_types.specs.MemberCount.{member_count}
use Rattle.wy_types.specs.Core.{ScopeFits, IsWritten, IsAscribed}
use Rattle.wy_types.specs.Vals.{literal_fields}
use Rattle.wy_types.specs.InRange.{IsInRange}
use Rattle.wy_types.proofs.Arities.{core_in_range}
use Rattle.wy_types.proofs.Closing.{find_in}
use Rattle.wy_types.proofs.Finite.{Fits-methods}
use Rattle.wy_types.proofs.Kept.{Fits-wider, core_signatures_fit}
use Rattle.wy_types.proofs.Reflecting.{reflexivity}
use Rattle.wy_subtype.specs.Verdict.{IsSubtypeIn}
use Rattle.wy_rules.specs.Readings.{IsBelow}
use Rattle.wy_rules.specs.Typing.{fields_of, field_types}
use Rattle.wy_rules.specs.Acceptance.{reading_of, scope_reading}
use Rattle.wy_rules.proofs.Forms.{Lawful}
use Rattle.wy_rules.proofs.Standing.{reading_lawful}
use Rattle.wy_judge.specs.Tables.{IsScopeOf}
use Rattle.wy_judge.specs.Targets.{mode_of}

-- subtyping in a scope's reading is that of its mode
below_in : (p : Program) (k : ℕ) (plain : Truth) (t u : TypeRef) → IsBelow (reading_of p k plain) ((reading_of p k plain).read t) ((reading_of p k plain).read u) → IsSubtypeIn p k (mode_of plain) t u
below_in p k true t u b = b
below_in p k false t u b = b

in_below : (p : Program) (k : ℕ) (plain : Truth) (t u : TypeRef) → IsSubtypeIn p k (mode_of plain) t u → IsBelow (reading_of p k plain) ((reading_of p k plain).read t) ((reading_of p k plain).read u)
in_below p k true t u b = b
in_below p k false t u b = b

-- a sealed scope's type, as it is kept for each kind
sealed_fits : (p : Program) (s : Scope) (kind : ScopeKind) (d : ℕ) → IsAscribed p s kind (Some d) → (d < length p.declarations) × ((length s.definitions ≡ member_count (slice_get p.declarations d)) ⊎ (s.definitions ≡ []))
sealed_fits p s Pure d a = (a.0, inl a.1)
sealed_fits p s Resource d a = (a.0, inl a.1)
sealed_fits p s Plain d a = (a.0, inr a.1)
sealed_fits p s Main d a = absurd a

pub lawful : (p : Program) (k : ℕ) (s : Scope) → Lawful (scope_reading p k s)
lawful p k s = reading_lawful p k (is_plain s.kind)

module _ (p : Program) (k : ℕ) (s : Scope) (c : IsScopeOf p k s) where
  pub scope_fits : ScopeFits p s
  scope_fits = c.core.scopes s (In-slice_get p.scopes k s c.there)

  pub in_range : IsInRange p
  in_range = core_in_range p c.core

  own_types : own_count p k ≡ length s.literals
  own_types = ap (λ o. length (scope_literals o)) c.there

  ------------------------------------------------------------
  -- Types that stand in the scope

  pub written_in_range : (t : TypeRef) → IsWritten p s t → IsTypeOf p k t
  written_in_range t w = Fits-wider p (length s.atoms) (own_count p k) t scope_fits.atoms w.0

  pub base_in_range : (t : TypeRef) → (IsObject t → ⊥) → IsTypeOf p k t
  base_in_range Int o = tt
  base_in_range Bool o = tt
  base_in_range Text o = tt
  base_in_range Nothing o = tt
  base_in_range (Named d members) o = absurd (o tt)
  base_in_range (At d bound) o = absurd (o tt)
  base_in_range (Own l) o = absurd (o tt)

  -- the scope's own types
  pub own_in_range : (l : ℕ) → l < length s.literals → IsTypeOf p k (Own l)
  own_in_range l below = subst (λ n. l < n) (sym own_types) below

  pub name_in_range : (i : ℕ) (n : OwnName) → slice_get s.names i ≡ Some n → IsTypeOf p k n.typ
  name_in_range i n e = written_in_range n.typ (scope_fits.names i n e).0

  -- the fields of the module and of its literals
  fields_written : (l : ℕ) (o : Option Literal) → slice_get s.literals l ≡ o → (t : TypeRef) → In t (map (λ (f : Field). f.typ) (literal_fields o)) → IsTypeOf p k t
  fields_written l None e t i = absurd i
  fields_written l (Some x) e t i = written_in_range t (scope_fits.fields x (In-slice_get s.literals l x e) t i)

  pub fields_in_range : (l : ℕ) (t : TypeRef) → In t (field_types s l) → IsTypeOf p k t
  fields_in_range l = fields_written l (slice_get s.literals l) refl

  pub field_in_range : (l i : ℕ) (f : Field) → slice_get (fields_of s l) i ≡ Some f → IsTypeOf p k f.typ
  field_in_range l i f e = fields_in_range l f.typ (In-map (λ (v : Field). v.typ) f (fields_of s l) (In-slice_get (fields_of s l) i f e))

  -- the parameters and the result of a body
  pub parameters_in_range : (b : Body) → In b s.bodies → (t : TypeRef) → In t b.signature.params → IsTypeOf p k t
  parameters_in_range b i t j = written_in_range t ((scope_fits.written b i).0 t (In-left t b.signature.params (b.signature.result ∷ []) j))

  pub result_in_range : (b : Body) → In b s.bodies → IsTypeOf p k b.signature.result
  result_in_range b i = written_in_range b.signature.result ((scope_fits.written b i).0 b.signature.result (In-right b.signature.result b.signature.params (b.signature.result ∷ []) (inl refl)))

  -- the type that the scope is sealed at
  pub sealed_in_range : (d : ℕ) → s.ascribed ≡ Some d → IsTypeOf p k (Named d s.definitions)
  sealed_in_range d e =
      let fits = sealed_fits p s s.kind d (subst (λ o. IsAscribed p s s.kind o) e scope_fits.ascribed) in
      Fits-wider p (length s.atoms) (own_count p k) (Named d s.definitions) scope_fits.atoms (fits.0, fits.1, scope_fits.definitions)

  ------------------------------------------------------------
  -- Methods of types in range

  pub method_in_range : (t : TypeRef) (name : List ℕ) (m : Signature TypeRef) → IsTypeOf p k t → find_method name (methods_of p k t) ≡ Some m → FitsSignature p 512 (own_count p k) m
  method_in_range t name m f e = Fits-methods p (core_signatures_fit p c.core) k t f m (find_in name (methods_of p k t) m e)

  ------------------------------------------------------------
  -- Subtyping in the scope

  pub below_in_mode : (t u : TypeRef) → IsBelow (scope_reading p k s) ((scope_reading p k s).read t) ((scope_reading p k s).read u) ↔ IsSubtypeIn p k (mode_of (is_plain s.kind)) t u
  below_in_mode t u = (below_in p k (is_plain s.kind) t u, in_below p k (is_plain s.kind) t u)

  reflexive_in : (plain : Truth) (t : TypeRef) → IsTypeOf p k t → IsBelow (reading_of p k plain) ((reading_of p k plain).read t) ((reading_of p k plain).read t)
  reflexive_in true t f = (reflexivity p c.core k t f).1
  reflexive_in false t f = (reflexivity p c.core k t f).0

  pub reflexive : (t : TypeRef) → IsTypeOf p k t → IsBelow (scope_reading p k s) ((scope_reading p k s).read t) ((scope_reading p k s).read t)
  reflexive t f = reflexive_in (is_plain s.kind) t f
