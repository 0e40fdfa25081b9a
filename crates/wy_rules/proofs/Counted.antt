-- Each type that a scope reaches is a base type, or one of those that the limit on types counts.
use Rattle.std.proofs.Common.{◌≡◌, ℕ, zero, suc, List, [], ◌∷◌, ◌++◌, map, length, inl, inr, refl, sym, ◌∙◌, ap, subst, Some, Bool as Truth, true, false}
use Rattle.std.specs.Prelude.{slice_get, nat_eq, if◌then◌else◌}
use Rattle.std.proofs.lemmas.Bool.{eq-eqb}
use Rattle.wy_text.specs.Members.{In}
use Rattle.wy_text.proofs.Lists.{In-left, In-right, In-map, In-at}
use Rattle.wy_types.specs.declared.types.TypeRef.{TypeRef}
use Rattle.wy_types.specs.declared.types.TypeRef.TheVariants.{Own}
use Rattle.wy_types.specs.declared.path.Part.{Part}
use Rattle.wy_types.specs.declared.path.Part.TheVariants.{Parameter, Result}
use Rattle.wy_types.specs.declared.resolved.Field.{Field}
use Rattle.wy_types.specs.declared.resolved.Literal.{Literal}
use Rattle.wy_types.specs.declared.resolved.OwnName.{OwnName}
use Rattle.wy_types.specs.Program.{Program, Scope, Body}
use Rattle.wy_types.specs.Signature.{Signature}
use Rattle.wy_types.specs.Types.{IsObject, is_plain, signature, methods_of, methods_of_owner, scope_bodies}
use Rattle.wy_types.specs.Paths.{IsPartOf}
use Rattle.wy_types.specs.Core.{ScopeFits}
use Rattle.wy_types.specs.Vals.{literal_fields}
use Rattle.wy_types.specs.Written.{block_types}
use Rattle.wy_types.specs.Reached.{sealed_types, own_types, field_types as all_field_types, start_types, body_types, first_types, scope_first_types, IsReached as IsCounted}
use Rattle.wy_types.proofs.Reaching.{walks_more, object_of}
use Rattle.wy_rules.specs.Readings.{Reading}
use Rattle.wy_rules.specs.Reached.{IsReached, of_number, of_truth, of_text, of_nothing, of_own, of_field, of_parameter, of_answer, of_name, of_start, of_body, of_argument, of_result, IsBaseOrCounted, EachReached, ReachedTypesAreCounted}
use Rattle.wy_rules.proofs.OwnTypes.{owner_in}

-- of a body's own object, its method is one
pub owned : (l : ℕ) (bs : List Body) (b : Body) → In b bs → b.owner ≡ l → In (signature b.signature) (methods_of_owner l bs)
owned l [] b i e = absurd i
owned l (a ∷ bs) b i e =
    elim (nat_eq a.owner l) as (λ v. nat_eq a.owner l ≡ v → In (signature b.signature) (if v then signature a.signature ∷ methods_of_owner l bs else methods_of_owner l bs)) [
      | true ↦ λ t. elim i [
        | inl q ↦ inl (ap (λ (v : Body). signature v.signature) q)
        | inr r ↦ inr (owned l bs b r e)
      ]
      | false ↦ λ t. elim i [
        | inl q ↦ absurd (let same = eq-eqb a.owner l (ap (λ (v : Body). v.owner) q ∙ e) in cc)
        | inr r ↦ owned l bs b r e
      ]
    ] refl

pub fields_in : (ls : List Literal) (l : ℕ) (t : TypeRef) → In t (map (λ (f : Field). f.typ) (literal_fields (slice_get ls l))) → In t (all_field_types ls)
fields_in [] l t i = absurd i
fields_in (a ∷ ls) zero t i = In-left t (map (λ (f : Field). f.typ) a.fields) (all_field_types ls) i
fields_in (a ∷ ls) (suc l) t i = In-right t (map (λ (f : Field). f.typ) a.fields) (all_field_types ls) (fields_in ls l t i)

pub bodies_in : (bs : List Body) (b : Body) (t : TypeRef) → In b bs → In t (block_types b.block) → In t (body_types bs)
bodies_in [] b t i j = absurd i
bodies_in (a ∷ bs) b t (inl e) j = In-left t (block_types a.block) (body_types bs) (subst (λ (v : Body). In t (block_types v.block)) (sym e) j)
bodies_in (a ∷ bs) b t (inr i) j = In-right t (block_types a.block) (body_types bs) (bodies_in bs b t i j)

module _ (p : Program) (k : ℕ) (s : Scope) (at : slice_get p.scopes k ≡ Some s) (fits : ScopeFits p s) (Includes Allows : List ℕ → List ℕ → Type 0) (Under : List ℕ → ℕ → Type 0) where
  abbrev over : Reading
  over = record { Kind = TypeRef; read = λ t. t; effect = λ e. e; methods = methods_of p k; IsObject = IsObject; Includes = Includes; Allows = Allows; Under = Under }

  abbrev of_names : List TypeRef
  of_names = map (λ (n : OwnName). n.typ) s.names

  abbrev of_seal : List TypeRef
  of_seal = of_names ++ sealed_types s.ascribed s.definitions

  abbrev of_owns : List TypeRef
  of_owns = of_seal ++ own_types s.kind (length s.literals)

  abbrev of_fields : List TypeRef
  of_fields = of_owns ++ all_field_types s.literals

  abbrev of_run : List TypeRef
  of_run = of_fields ++ start_types s.start

  first : (t : TypeRef) → In t (first_types s) → IsCounted p k t
  first t i = (t, subst (λ o. In t (scope_first_types o)) (sym at) i, ([], refl))

  from_fields : (t : TypeRef) → In t of_fields → IsCounted p k t
  from_fields t i = first t (In-left t of_run (body_types s.bodies) (In-left t of_fields (start_types s.start) i))

  from_owns : (t : TypeRef) → In t of_owns → IsCounted p k t
  from_owns t i = from_fields t (In-left t of_owns (all_field_types s.literals) i)

  own_counted : (t : TypeRef) → In t (own_types s.kind (length s.literals)) → IsCounted p k t
  own_counted t i = from_owns t (In-right t of_seal (own_types s.kind (length s.literals)) i)

  name_counted : (t : TypeRef) → In t of_names → IsCounted p k t
  name_counted t i = from_owns t (In-left t of_seal (own_types s.kind (length s.literals)) (In-left t of_names (sealed_types s.ascribed s.definitions) i))

  -- a step further
  counted_part : (t : TypeRef) → IsBaseOrCounted p k t → (m : Signature TypeRef) → In m (methods_of p k t) → (part : Part) (u : TypeRef) → IsPartOf TypeRef (methods_of p k) m part u → IsCounted p k u
  counted_part t (inl base) m i part u e = absurd (base (object_of p k t m i))
  counted_part t (inr c) m i part u e =
      (c.0, c.1, (c.2.0 ++ record { method = m.name; part = part } ∷ [], walks_more TypeRef (methods_of p k) c.2.0 (record { method = m.name; part = part }) c.0 t u c.2.1 (record { method = m; has = i; named = refl; part = e })))

  -- the methods of a body's own object
  method_counted : (b : Body) → In b s.bodies → (part : Part) (u : TypeRef) → IsPartOf TypeRef (methods_of p k) (signature b.signature) part u → IsCounted p k u
  method_counted b i part u e =
      let n = In-at b s.bodies i in
      let mine : In (signature b.signature) (methods_of p k (Own b.owner)) = subst (λ o. In (signature b.signature) (methods_of_owner b.owner (scope_bodies o))) (sym at) (owned b.owner s.bodies b i refl) in
      counted_part (Own b.owner) (inr (own_counted (Own b.owner) (owner_in p s fits b i (fits.bodies n.0 b n.2).0))) (signature b.signature) mine part u e

  counted : (t : TypeRef) → IsReached over s t → IsBaseOrCounted p k t
  counted t of_number = inl (λ h. h)
  counted t of_truth = inl (λ h. h)
  counted t of_text = inl (λ h. h)
  counted t of_nothing = inl (λ h. h)
  counted t (of_own u i) = inr (own_counted u i)
  counted t (of_field l u i) = inr (from_fields u (In-right u of_owns (all_field_types s.literals) (fields_in s.literals l u i)))
  counted t (of_parameter b i u j) = (let r = In-at u b.signature.params j in inr (method_counted b i (Parameter r.0) u r.2))
  counted t (of_answer b i) = inr (method_counted b i Result b.signature.result refl)
  counted t (of_name n i) = inr (name_counted n.typ (In-map (λ (v : OwnName). v.typ) n s.names i))
  counted t (of_start u i) = inr (first u (In-left u of_run (body_types s.bodies) (In-right u of_fields (start_types s.start) i)))
  counted t (of_body b i u j) = inr (first u (In-right u of_run (body_types s.bodies) (bodies_in s.bodies b u i j)))
  counted t (of_argument u h m i v j) = (let r = In-at v m.params j in inr (counted_part u (counted u h) m i (Parameter r.0) v r.2))
  counted t (of_result u h m i) = inr (counted_part u (counted u h) m i Result m.result refl)

counted_in : (p : Program) (k : ℕ) (s : Scope) → slice_get p.scopes k ≡ Some s → ScopeFits p s → (plain : Truth) → EachReached (IsBaseOrCounted p k) p k s plain
counted_in p k s at fits true = λ t h. counted p k s at fits _ _ _ t h
counted_in p k s at fits false = λ t h. counted p k s at fits _ _ _ t h

pub reached_types_are_counted : ReachedTypesAreCounted
reached_types_are_counted p k s at fits = counted_in p k s at fits (is_plain s.kind)
