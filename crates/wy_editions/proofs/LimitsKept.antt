-- A program in which a declared type is another, which none of its scopes writes, is within the limits on types and on instances
-- as before.
use Rattle.std.proofs.Common.{◌≡◌, ◌<◌, ◌-◌, ◌++◌, ℕ, List, [], ◌∷◌, map, length, inl, inr, refl, sym, subst, Option, Some, None}
use Rattle.std.specs.Prelude.{slice_get}
use Rattle.std.specs.List.{range_with_len}
use Rattle.wy_text.specs.Members.{In}
use Rattle.wy_text.proofs.Lists.{In-cases, In-unmap, In-at}
use Rattle.wy_types.specs.declared.types.TypeRef.{TypeRef}
use Rattle.wy_types.specs.declared.types.TypeRef.TheVariants.{Own}
use Rattle.wy_types.specs.declared.linked.Instance.{Instance as Started}
use Rattle.wy_types.specs.declared.resolved.Field.{Field}
use Rattle.wy_types.specs.declared.resolved.Literal.{Literal}
use Rattle.wy_types.specs.declared.resolved.OwnName.{OwnName}
use Rattle.wy_types.specs.declared.resolved.ScopeKind.{ScopeKind}
use Rattle.wy_types.specs.declared.resolved.ScopeKind.TheVariants.{Pure, Resource, Plain, Program as Main}
use Rattle.wy_types.specs.declared.resolved.TypeDecl.{TypeDecl}
use Rattle.wy_types.specs.Vals.{literal_fields}
use Rattle.wy_types.specs.Program.{Program, Scope, Body}
use Rattle.wy_types.specs.Written.{block_types}
use Rattle.wy_types.specs.Reached.{IsReached, body_types, field_types, first_types, own_types, scope_first_types, sealed_types}
use Rattle.wy_rules.specs.Ends.{IsWithinLimits, ReachesTooMany}
use Rattle.wy_rules.specs.Transfer.{DiffersAt, LeavesOut, NamesNot, WritesNot}
use Rattle.wy_rules.proofs.AcceptedWithoutType.{walks_back}
use Rattle.wy_editions.proofs.InstancesKept.{starts_same}

module _ (i : ℕ) (ds es : List TypeDecl) (ss : List Scope) where
  abbrev before : Program
  before = record { declarations = ds; scopes = ss }

  abbrev after : Program
  after = record { declarations = es; scopes = ss }

  module _ (w : DiffersAt i before after) (left : (k : ℕ) (s : Scope) → slice_get ss k ≡ Some s → LeavesOut i before s) where
    module _ (k : ℕ) (s : Scope) (at : slice_get ss k ≡ Some s) where
      abbrev writes : WritesNot i s
      writes = (left k s at).writes

      ------------------------------------------------------------
      -- The types at which reaching begins

      sealed_not : (o : Option ℕ) → s.ascribed ≡ o → (t : TypeRef) → In t (sealed_types o s.definitions) → NamesNot i t
      sealed_not None e t j = absurd j
      sealed_not (Some d) e t (inl q) = subst (NamesNot i) q ((left k s at).sealed d e)
      sealed_not (Some d) e t (inr j) = absurd j

      owns_not : (ns : List ℕ) (t : TypeRef) → In t (map (λ l. Own l) ns) → NamesNot i t
      owns_not ns t j = let r = In-unmap (λ l. Own l) t ns j in subst (NamesNot i) r.2 tt

      own_not : (kind : ScopeKind) (n : ℕ) (t : TypeRef) → In t (own_types kind n) → NamesNot i t
      own_not Pure n t j = owns_not (range_with_len 0 n) t j
      own_not Resource n t j = owns_not (range_with_len 0 n) t j
      own_not Plain n t j = owns_not (range_with_len 0 n) t j
      own_not Main n t j = owns_not (range_with_len 1 (n - 1)) t j

      -- a field's type is one of some literal's fields
      in_literal : (ls : List Literal) (t : TypeRef) → In t (field_types ls) → (l : Literal) × In l ls × In t (map (λ (f : Field). f.typ) l.fields)
      in_literal [] t j = absurd j
      in_literal (l ∷ ls) t j =
          elim (In-cases t (map (λ (f : Field). f.typ) l.fields) (field_types ls) j) [
            | inl q ↦ (l, inl refl, q)
            | inr q ↦ (let r = in_literal ls t q in (r.0, inr r.1, r.2))
          ]

      fields_not : (t : TypeRef) → In t (field_types s.literals) → NamesNot i t
      fields_not t j =
          let r = in_literal s.literals t j in
          let n = In-at r.0 s.literals r.1 in
          writes.fields n.0 t (subst (λ (o : Option Literal). In t (map (λ (f : Field). f.typ) (literal_fields o))) (sym n.2) r.2)

      in_body : (bs : List Body) (t : TypeRef) → In t (body_types bs) → (b : Body) × In b bs × In t (block_types b.block)
      in_body [] t j = absurd j
      in_body (b ∷ bs) t j =
          elim (In-cases t (block_types b.block) (body_types bs) j) [
            | inl q ↦ (b, inl refl, q)
            | inr q ↦ (let r = in_body bs t q in (r.0, inr r.1, r.2))
          ]

      bodies_not : (t : TypeRef) → In t (body_types s.bodies) → NamesNot i t
      bodies_not t j = let r = in_body s.bodies t j in writes.bodies r.0 r.1 t r.2

      names_not : (t : TypeRef) → In t (map (λ (n : OwnName). n.typ) s.names) → NamesNot i t
      names_not t j = let r = In-unmap (λ (n : OwnName). n.typ) t s.names j in subst (NamesNot i) r.2 (writes.names r.0 r.1)

      either : (xs ys : List TypeRef) → ((t : TypeRef) → In t xs → NamesNot i t) → ((t : TypeRef) → In t ys → NamesNot i t) → (t : TypeRef) → In t (xs ++ ys) → NamesNot i t
      either xs ys f g t j = elim (In-cases t xs ys j) [ inl q ↦ f t q | inr q ↦ g t q ]

      first_not : (t : TypeRef) → In t (first_types s) → NamesNot i t
      first_not =
          either _ _
          (either _ _ (either _ _ (either _ _ (either _ _ names_not (sealed_not s.ascribed refl)) (own_not s.kind (length s.literals))) fields_not) writes.start)
          bodies_not

      ------------------------------------------------------------
      -- What is reached

      reached_before : (u : TypeRef) → IsReached after k u → IsReached before k u
      reached_before u h =
          let first : In h.0 (first_types s) = subst (λ (o : Option Scope). In h.0 (scope_first_types o)) at h.1 in
          (h.0, h.1, (h.2.0, (walks_back i ds es ss w left k s at h.2.0 h.0 u (first_not h.0 first) h.2.1).0))

      reaches_before : ReachesTooMany after k → ReachesTooMany before k
      reaches_before h = (h.0, (h.1.0, h.1.1, h.1.2, λ u j. (let r = h.1.3 u j in (r.0, reached_before u r.1))))

    pub limits_kept : IsWithinLimits before → IsWithinLimits after
    limits_kept h = record {
      types = λ k s at r. h.types k s at (reaches_before k s at r);
      instances = λ r. h.instances (subst (λ (is : List Started). 1024 < length is) (sym (starts_same i ds es ss w left)) r);
    }
