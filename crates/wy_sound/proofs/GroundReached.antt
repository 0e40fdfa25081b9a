-- The types that a run reaches are those of the list, and no other type occurs in an instance.
use Rattle.std.proofs.Common.{◌≡◌, ℕ, zero, suc, ◌+◌, ◌<◌, List, [], ◌∷◌, ◌++◌, map, ◌⊎◌, inl, inr, length, refl, sym, ap, subst, arith, Option, Some, None, Bool as Truth, true, false}
use Rattle.std.specs.Prelude.{slice_get}
use Rattle.wy_text.specs.Members.{In}
use Rattle.wy_text.proofs.Lists.{In-left, In-right, In-cases, In-map, In-unmap, In-at, In-slice_get}
use Rattle.wy_types.specs.declared.types.TypeRef.{TypeRef}
use Rattle.wy_types.specs.declared.types.TypeRef.TheVariants as of
use Rattle.wy_types.specs.declared.linked.Instance.{Instance}
use Rattle.wy_types.specs.declared.resolved.Field.{Field}
use Rattle.wy_types.specs.declared.resolved.Literal.{Literal}
use Rattle.wy_types.specs.declared.resolved.OwnName.{OwnName}
use Rattle.wy_types.specs.declared.resolved.ScopeKind.{ScopeKind}
use Rattle.wy_types.specs.declared.resolved.ScopeKind.TheVariants.{Pure, Resource, Plain, Program as Main}
use Rattle.wy_types.specs.Program.{Program, Scope, Body}
use Rattle.wy_types.specs.Signature.{Signature, mapped_signature, signature_types}
use Rattle.wy_types.specs.Types.{is_plain, signature, methods_of_owner, scope_bodies}
use Rattle.wy_types.specs.Fitting.{FitsType, scope_literals}
use Rattle.wy_types.specs.Core.{IsCore, ScopeFits, IsAscribed}
use Rattle.wy_types.specs.Vals.{literal_fields}
use Rattle.wy_types.specs.Written.{block_types}
use Rattle.wy_types.specs.Reached.{sealed_types, own_types, field_types as all_field_types, start_types, body_types, first_types, scope_first_types}
use Rattle.wy_types.proofs.Kept.{Fits-wider}
use Rattle.wy_rules.specs.Readings.{Reading, plain_reading, annotated_reading}
use Rattle.wy_rules.specs.Reached.{IsReached, of_number, of_truth, of_text, of_nothing, of_own, of_field, of_parameter, of_answer, of_name, of_start, of_body, of_argument, of_result, Each, EachReached, IsWrittenOrOwn}
use Rattle.wy_rules.specs.Typing.{field_types}
use Rattle.wy_rules.specs.GroundTypes.{GroundType, Int, Bool, Text, Nothing, Own, type_at, read_by, effect_by, run_instances, own_methods, ground_methods, ground_reading}
use Rattle.wy_rules.specs.GroundTyping.{IsInstanceOf}
use Rattle.wy_rules.proofs.Counted.{owned, fields_in, bodies_in}
use Rattle.wy_rules.proofs.OwnTypes.{own_is, owner_in}
use Rattle.wy_rules.proofs.Reaching.{IsKept, reached_closed, reached_in_start, bodies_reached, locals_hold, scope_names}
use Rattle.wy_rules.proofs.WrittenOrOwn.{reached_types_are_written_or_own}
use Rattle.wy_sound.specs.GroundRange.{owns_of, IsOfRun, ground_bound}
use Rattle.wy_sound.specs.GroundReached.{same_ground, with_others, read_types, firsts_from, ground_firsts, ground_reached, IsListed, GroundReachedIs, OccursListed, NoOtherGroundTypeOccurs}
use Rattle.wy_sound.proofs.GroundLists.{each_once, Rounds, rounds, closed_walks}
use Rattle.wy_sound.proofs.GroundRange.{of_run, read_fits, next_stay, few_of_run}
use Rattle.wy_sound.proofs.LinkingLaws.{RunSets, run_sets}

------------------------------------------------------------
-- What a scope's reaching begins with

fields_out : (ls : List Literal) (t : TypeRef) → In t (all_field_types ls) → (l : ℕ) × In t (map (λ (f : Field). f.typ) (literal_fields (slice_get ls l)))
fields_out [] t i = absurd i
fields_out (a ∷ ls) t i = elim (In-cases t (map (λ (f : Field). f.typ) a.fields) (all_field_types ls) i) [
  | inl j ↦ (0, j)
  | inr j ↦ (let r = fields_out ls t j in (suc r.0, r.1))
]

bodies_out : (bs : List Body) (t : TypeRef) → In t (body_types bs) → (b : Body) × In b bs × In t (block_types b.block)
bodies_out [] t i = absurd i
bodies_out (a ∷ bs) t i = elim (In-cases t (block_types a.block) (body_types bs) i) [
  | inl j ↦ (a, inl refl, j)
  | inr j ↦ (let r = bodies_out bs t j in (r.0, inr r.1, r.2))
]

module _ (s : Scope) where
  abbrev of_names : List TypeRef
  of_names = map (λ (n : OwnName). n.typ) s.names

  abbrev of_seal : List TypeRef
  of_seal = of_names ++ sealed_types s.ascribed s.definitions

  abbrev of_owns : List TypeRef
  of_owns = of_seal ++ own_types s.kind (length s.literals)

  abbrev of_fields : List TypeRef
  of_fields = of_owns ++ all_field_types s.literals

  abbrev of_run_or_init : List TypeRef
  of_run_or_init = of_fields ++ start_types s.start

  -- each is reached, as any reading has it, but for what the module is sealed at
  first_reached : (y : Reading) (t : TypeRef) → In t (first_types s) → IsReached y s (y.read t) ⊎ In t (sealed_types s.ascribed s.definitions)
  first_reached y t i = elim (In-cases t of_run_or_init (body_types s.bodies) i) [
    | inr j ↦ (let r = bodies_out s.bodies t j in inl (of_body r.0 r.1 t r.2))
    | inl j ↦ elim (In-cases t of_fields (start_types s.start) j) [
      | inr k ↦ inl (of_start t k)
      | inl k ↦ elim (In-cases t of_owns (all_field_types s.literals) k) [
        | inr l ↦ (let r = fields_out s.literals t l in inl (of_field r.0 t r.1))
        | inl l ↦ elim (In-cases t of_seal (own_types s.kind (length s.literals)) l) [
          | inr m ↦ inl (of_own t m)
          | inl m ↦ elim (In-cases t of_names (sealed_types s.ascribed s.definitions) m) [
            | inr n ↦ inr n
            | inl n ↦ (let r = In-unmap (λ (v : OwnName). v.typ) t s.names n in inl (subst (λ v. IsReached y s (y.read v)) r.2 (of_name r.0 r.1)))
          ]
        ]
      ]
    ]
  ]

  -- the own types, those of fields and of own names, and those written in bodies are among them
  own_first : (t : TypeRef) → In t (own_types s.kind (length s.literals)) → In t (first_types s)
  own_first t i =
      In-left t of_run_or_init (body_types s.bodies) (In-left t of_fields (start_types s.start)
      (In-left t of_owns (all_field_types s.literals) (In-right t of_seal (own_types s.kind (length s.literals)) i)))

  name_first : (t : TypeRef) → In t of_names → In t (first_types s)
  name_first t i =
      In-left t of_run_or_init (body_types s.bodies) (In-left t of_fields (start_types s.start)
      (In-left t of_owns (all_field_types s.literals) (In-left t of_seal (own_types s.kind (length s.literals)) (In-left t of_names (sealed_types s.ascribed s.definitions) i))))

  field_first : (l : ℕ) (t : TypeRef) → In t (field_types s l) → In t (first_types s)
  field_first l t i =
      In-left t of_run_or_init (body_types s.bodies) (In-left t of_fields (start_types s.start) (In-right t of_owns (all_field_types s.literals) (fields_in s.literals l t i)))

  start_first : (t : TypeRef) → In t (start_types s.start) → In t (first_types s)
  start_first t i = In-left t of_run_or_init (body_types s.bodies) (In-right t of_fields (start_types s.start) i)

  body_first : (b : Body) → In b s.bodies → (t : TypeRef) → In t (block_types b.block) → In t (first_types s)
  body_first b i t j = In-right t of_run_or_init (body_types s.bodies) (bodies_in s.bodies b t i j)

-- what a module is sealed at can be written
sealed_written : (p : Program) (s : Scope) → ScopeFits p s → (kind : ScopeKind) (o : Option ℕ) → IsAscribed p s kind o → (t : TypeRef) → In t (sealed_types o s.definitions) → FitsType p 512 0 t
sealed_written p s fits kind None h t i = absurd i
sealed_written p s fits Main (Some d) h t i = absurd h
sealed_written p s fits Plain (Some d) h t (inl e) =
    subst (FitsType p 512 0) e (Fits-wider p (length s.atoms) 0 (of.Named d s.definitions) fits.atoms (h.0, inr h.1, fits.definitions))
sealed_written p s fits Pure (Some d) h t (inl e) =
    subst (FitsType p 512 0) e (Fits-wider p (length s.atoms) 0 (of.Named d s.definitions) fits.atoms (h.0, inl h.1, fits.definitions))
sealed_written p s fits Resource (Some d) h t (inl e) =
    subst (FitsType p 512 0) e (Fits-wider p (length s.atoms) 0 (of.Named d s.definitions) fits.atoms (h.0, inl h.1, fits.definitions))
sealed_written p s fits kind (Some d) h t (inr z) = absurd z

module _ (p : Program) (k : ℕ) (s : Scope) (core : IsCore p) (at : slice_get p.scopes k ≡ Some s) where
  first_written : (t : TypeRef) → In t (first_types s) → IsWrittenOrOwn p s t
  first_written t i = by_kind (is_plain s.kind) (reached_types_are_written_or_own p k s core at)
    where
      sealed : In t (sealed_types s.ascribed s.definitions) → IsWrittenOrOwn p s t
      sealed z = (let fits = core.scopes s (In-slice_get p.scopes k s at) in inl (sealed_written p s fits s.kind s.ascribed fits.ascribed t z))

      by_kind : (plain : Truth) → EachReached (IsWrittenOrOwn p s) p k s plain → IsWrittenOrOwn p s t
      by_kind true h = elim (first_reached s (plain_reading p k) t i) [ inl r ↦ h t r | inr z ↦ sealed z ]
      by_kind false h = elim (first_reached s (annotated_reading p k) t i) [ inl r ↦ h t r | inr z ↦ sealed z ]

------------------------------------------------------------
-- What a run begins with

-- base types and own types are read as they stand
read_int : (o : Option (List ℕ)) (sets : List (List ℕ)) → read_by o sets of.Int ≡ of.Int
read_int None sets = refl
read_int (Some b) sets = refl

read_bool : (o : Option (List ℕ)) (sets : List (List ℕ)) → read_by o sets of.Bool ≡ of.Bool
read_bool None sets = refl
read_bool (Some b) sets = refl

read_text : (o : Option (List ℕ)) (sets : List (List ℕ)) → read_by o sets of.Text ≡ of.Text
read_text None sets = refl
read_text (Some b) sets = refl

read_unit : (o : Option (List ℕ)) (sets : List (List ℕ)) → read_by o sets of.Unit ≡ of.Unit
read_unit None sets = refl
read_unit (Some b) sets = refl

read_own : (o : Option (List ℕ)) (sets : List (List ℕ)) (l : ℕ) → read_by o sets (of.Own l) ≡ of.Own l
read_own None sets l = refl
read_own (Some b) sets l = refl

module _ (p : Program) where
  firsts_out : (x : ℕ) (is : List Instance) (t : GroundType) → In t (firsts_from p x is) →
      (y : ℕ) × (i : Instance) × (slice_get is y ≡ Some i) × In t (read_types (y + x) i (scope_first_types (slice_get p.scopes i.scope)))
  firsts_out x [] t h = absurd h
  firsts_out x (i ∷ is) t h = elim (In-cases t (read_types x i (scope_first_types (slice_get p.scopes i.scope))) (firsts_from p (x + 1) is) h) [
    | inl j ↦ (let at : x ≡ 0 + x = omega arith in (0, i, refl, subst (λ n. In t (read_types n i (scope_first_types (slice_get p.scopes i.scope)))) at j))
    | inr j ↦
        let r = firsts_out (x + 1) is t j in
        let at : r.0 + (x + 1) ≡ suc r.0 + x = omega arith in
        (suc r.0, r.1, r.2, subst (λ n. In t (read_types n r.1 (scope_first_types (slice_get p.scopes r.1.scope)))) at r.3)
  ]

  firsts_in : (x y : ℕ) (is : List Instance) (i : Instance) (t : GroundType) → slice_get is y ≡ Some i →
      In t (read_types (y + x) i (scope_first_types (slice_get p.scopes i.scope))) → In t (firsts_from p x is)
  firsts_in x y [] i t e h = absurd (cc)
  firsts_in x zero (j ∷ is) i t e h =
      let same : i ≡ j = cc in
      let at : 0 + x ≡ x = omega arith in
      let P : ℕ → Instance → Type 0 = λ n v. In t (read_types n v (scope_first_types (slice_get p.scopes v.scope))) in
      In-left t (read_types x j (scope_first_types (slice_get p.scopes j.scope))) (firsts_from p (x + 1) is) (subst (P x) same (subst (λ n. P n i) at h))
  firsts_in x (suc y) (j ∷ is) i t e h =
      let at : suc y + x ≡ y + (x + 1) = omega arith in
      In-right t (read_types x j (scope_first_types (slice_get p.scopes j.scope))) (firsts_from p (x + 1) is)
      (firsts_in (x + 1) y is i t e (subst (λ n. In t (read_types n i (scope_first_types (slice_get p.scopes i.scope)))) at h))

  module _ (c : IsCore p) (run : RunSets p) where
    -- what can be written, or is one of the scope's own types, is a type of the run, as an instance reads it
    read_of_run : (x : ℕ) (i : Instance) (s : Scope) → slice_get (run_instances p) x ≡ Some i → slice_get p.scopes i.scope ≡ Some s → (t : TypeRef) → IsWrittenOrOwn p s t →
        IsOfRun p (type_at x (read_by i.bound i.ground t))
    read_of_run x i s there at t (inl f) = (let sets = run x i there in of_run p x (read_by i.bound i.ground t) (read_fits p 512 i.bound i.ground t sets.0 sets.1 f))
    read_of_run x i s there at t (inr o) =
        let r = own_is s.kind (length s.literals) t o in
        let few : r.0 < length (scope_literals (slice_get p.scopes i.scope)) = subst (λ v. r.0 < length (scope_literals v)) (sym at) r.1 in
        let own : IsOfRun p (Own x r.0) = subst (λ v. r.0 < owns_of p v) (sym there) few in
        let read : IsOfRun p (type_at x (read_by i.bound i.ground (of.Own r.0))) = subst (λ v. IsOfRun p (type_at x v)) (sym (read_own i.bound i.ground r.0)) own in
        subst (λ v. IsOfRun p (type_at x (read_by i.bound i.ground v))) r.2 read

    read_firsts : (x : ℕ) (i : Instance) → slice_get (run_instances p) x ≡ Some i → (o : Option Scope) → slice_get p.scopes i.scope ≡ o → (t : GroundType) →
        In t (read_types x i (scope_first_types o)) → IsOfRun p t
    read_firsts x i there None at t h = absurd h
    read_firsts x i there (Some s) at t h =
        let r = In-unmap (λ v. type_at x (read_by i.bound i.ground v)) t (first_types s) h in
        subst (IsOfRun p) r.2 (read_of_run x i s there at r.0 (first_written p i.scope s c at r.0 r.1))

    firsts_of_run : (t : GroundType) → In t (ground_firsts p) → IsOfRun p t
    firsts_of_run t (inl e) = subst (IsOfRun p) e tt
    firsts_of_run t (inr (inl e)) = subst (IsOfRun p) e tt
    firsts_of_run t (inr (inr (inl e))) = subst (IsOfRun p) e tt
    firsts_of_run t (inr (inr (inr (inl e)))) = subst (IsOfRun p) e tt
    firsts_of_run t (inr (inr (inr (inr h)))) =
        let r = firsts_out 0 (run_instances p) t h in
        let at : r.0 + 0 ≡ r.0 = omega arith in
        read_firsts r.0 r.1 r.2 (slice_get p.scopes r.1.scope) refl t (subst (λ n. In t (read_types n r.1 (scope_first_types (slice_get p.scopes r.1.scope)))) at r.3)

    -- the list is closed
    listed : Rounds p (IsOfRun p) (with_others [] (ground_firsts p)) (ground_reached p)
    unfolding ground_reached
    listed =
        let once = each_once (ground_firsts p) in
        rounds p (IsOfRun p) (next_stay p c run) (ground_bound p) (few_of_run p) (ground_bound p + 1) (with_others [] (ground_firsts p)) once.0
        (λ t i. firsts_of_run t (once.2 t i)) (omega arith)

    first_listed : (t : GroundType) → In t (ground_firsts p) → IsListed p t
    first_listed t i = listed.old t ((each_once (ground_firsts p)).1 t i)

pub ground_reached_is : GroundReachedIs
ground_reached_is p r a =
    let h = listed p r.keeps.core (run_sets p r.keeps.core r.keeps.lines r.names a) in
    let first = first_listed p r.keeps.core (run_sets p r.keeps.core r.keeps.lines r.names a) in
    let once = each_once (ground_firsts p) in (
      h.apart,
      λ t. (
        λ i. (let q = h.from t i in (q.0, once.2 q.0 q.1, q.2)),
        λ q. closed_walks p (ground_reached p) h.closed q.2.0 q.0 t (first q.0 q.1) q.2.1,
      ),
      h.each,
    )

------------------------------------------------------------
-- What occurs in an instance

in_signature : (ms : List (Signature GroundType)) (m : Signature GroundType) (u : GroundType) → In m ms → In u (m.params ++ m.result ∷ []) → In u (signature_types ms)
in_signature [] m u i j = absurd i
in_signature (n ∷ ms) m u (inl e) j = In-left u (n.params ++ n.result ∷ []) (signature_types ms) (subst (λ (v : Signature GroundType). In u (v.params ++ v.result ∷ [])) (sym e) j)
in_signature (n ∷ ms) m u (inr i) j = In-right u (n.params ++ n.result ∷ []) (signature_types ms) (in_signature ms m u i j)

module _ (p : Program) (c : IsCore p) (run : RunSets p) (x : ℕ) (i : Instance) (s : Scope) (is : IsInstanceOf p x i s) where
  abbrev y : Reading
  y = ground_reading p x i

  fits : ScopeFits p s
  fits = c.scopes s (In-slice_get p.scopes i.scope s is.scope)

  base : (t : GroundType) → In t (Int ∷ Bool ∷ Text ∷ Nothing ∷ []) → IsListed p t
  base t j = first_listed p c run t (In-left t (Int ∷ Bool ∷ Text ∷ Nothing ∷ []) (firsts_from p 0 (run_instances p)) j)

  -- what the scope's reaching begins with is listed as the instance reads it
  read_listed : (t : TypeRef) → In t (first_types s) → IsListed p (y.read t)
  read_listed t j =
      let at : x ≡ x + 0 = omega arith in
      let here : In (y.read t) (read_types x i (scope_first_types (slice_get p.scopes i.scope))) =
      subst (λ o. In (y.read t) (read_types x i (scope_first_types o))) (sym is.scope) (In-map y.read t (first_types s) j) in
      first_listed p c run (y.read t) (inr (inr (inr (inr (firsts_in p 0 x (run_instances p) i (y.read t) is.there
      (subst (λ n. In (y.read t) (read_types n i (scope_first_types (slice_get p.scopes i.scope)))) at here))))))

  named_listed : (t : GroundType) → IsListed p t → (m : Signature GroundType) → In m (ground_methods p t) → (u : GroundType) → In u (m.params ++ m.result ∷ []) → IsListed p u
  named_listed t h m j u k = (listed p c run).closed t u h (in_signature (ground_methods p t) m u j k)

  -- the types of a body's signature, as the instance reads them
  signed_listed : (b : Body) → In b s.bodies → (t : TypeRef) → In t (b.signature.params ++ b.signature.result ∷ []) → IsListed p (y.read t)
  signed_listed b j t k =
      let n = In-at b s.bodies j in
      let kind : TypeRef → GroundType = y.read in
      let m : Signature GroundType = mapped_signature kind (effect_by i.bound i.ground) (signature b.signature) in
      let own : IsListed p (Own x b.owner) = subst (λ v. IsListed p (type_at x v)) (read_own i.bound i.ground b.owner)
      (read_listed (of.Own b.owner) (own_first s (of.Own b.owner) (owner_in p s fits b j (fits.bodies n.0 b n.2).0))) in
      let mine : In m (map (mapped_signature kind (effect_by i.bound i.ground)) (methods_of_owner b.owner (scope_bodies (slice_get p.scopes i.scope)))) =
      In-map (mapped_signature kind (effect_by i.bound i.ground)) (signature b.signature) (methods_of_owner b.owner (scope_bodies (slice_get p.scopes i.scope)))
      (subst (λ o. In (signature b.signature) (methods_of_owner b.owner (scope_bodies o))) (sym is.scope) (owned b.owner s.bodies b j refl)) in
      let method : In m (ground_methods p (Own x b.owner)) = subst (λ o. In m (own_methods p x b.owner o)) (sym is.there) mine in
      named_listed (Own x b.owner) own m method (y.read t) (elim (In-cases t b.signature.params (b.signature.result ∷ []) k) [
        | inl l ↦ In-left (y.read t) m.params (m.result ∷ []) (In-map kind t b.signature.params l)
        | inr l ↦ In-right (y.read t) m.params (m.result ∷ []) (elim l [ inl e ↦ inl (ap kind e) | inr z ↦ absurd z ])
      ])

  reached_listed : (t : GroundType) → IsReached y s t → IsListed p t
  reached_listed t of_number = subst (λ v. IsListed p (type_at x v)) (sym (read_int i.bound i.ground)) (base Int (inl refl))
  reached_listed t of_truth = subst (λ v. IsListed p (type_at x v)) (sym (read_bool i.bound i.ground)) (base Bool (inr (inl refl)))
  reached_listed t of_text = subst (λ v. IsListed p (type_at x v)) (sym (read_text i.bound i.ground)) (base Text (inr (inr (inl refl))))
  reached_listed t of_nothing = subst (λ v. IsListed p (type_at x v)) (sym (read_unit i.bound i.ground)) (base Nothing (inr (inr (inr (inl refl)))))
  reached_listed t (of_own u j) = read_listed u (own_first s u j)
  reached_listed t (of_field l u j) = read_listed u (field_first s l u j)
  reached_listed t (of_parameter b j u k) = signed_listed b j u (In-left u b.signature.params (b.signature.result ∷ []) k)
  reached_listed t (of_answer b j) = signed_listed b j b.signature.result (In-right b.signature.result b.signature.params (b.signature.result ∷ []) (inl refl))
  reached_listed t (of_name n j) = read_listed n.typ (name_first s n.typ (In-map (λ (v : OwnName). v.typ) n s.names j))
  reached_listed t (of_start u j) = read_listed u (start_first s u j)
  reached_listed t (of_body b j u k) = read_listed u (body_first s b j u k)
  reached_listed t (of_argument u h m j v k) = named_listed u (reached_listed u h) m j v (In-left v m.params (m.result ∷ []) k)
  reached_listed t (of_result u h m j) = named_listed u (reached_listed u h) m j m.result (In-right m.result m.params (m.result ∷ []) (inl refl))

  each_listed : (ts : List GroundType) → Each (IsReached y s) ts → Each (IsListed p) ts
  each_listed [] h = tt
  each_listed (t ∷ ts) h = (reached_listed t h.0, each_listed ts h.1)

  all_listed : (ts : List GroundType) → ((t : GroundType) → In t ts → IsListed p t) → Each (IsListed p) ts
  all_listed [] h = tt
  all_listed (t ∷ ts) h = (h t (inl refl), all_listed ts (λ u j. h u (inr j)))

  kept : IsKept y s (IsListed p)
  kept =
      let r = reached_closed y s in
      record {
        number = reached_listed _ r.number;
        truth = reached_listed _ r.truth;
        text = reached_listed _ r.text;
        nothing = reached_listed _ r.nothing;
        own = λ t j. reached_listed _ (r.own t j);
        fields = λ l. each_listed _ (r.fields l);
        field = λ o n f e. reached_listed _ (r.field o n f e);
        parameter = λ k n t e. reached_listed _ (r.parameter k n t e);
        name = λ k n e. reached_listed _ (r.name k n e);
        params = λ k h m j. all_listed m.params (λ t l. named_listed k h m j t (In-left t m.params (m.result ∷ []) l));
        result = λ k h m j. named_listed k h m j m.result (In-right m.result m.params (m.result ∷ []) (inl refl));
      }

  occurs_listed : OccursListed p x i s
  occurs_listed =
      let start = each_listed _ (reached_in_start y s) in
      record {
        reached = reached_listed;
        locals = locals_hold y same_ground p s (IsListed p) kept fits.starts.1 start
            (λ b j. (let r = bodies_reached y s p fits b j in (r.0, r.1, r.2, reached_listed _ r.3, each_listed _ r.4)));
        named = scope_names y same_ground p s (IsListed p) kept fits.starts.1 start
            (λ b j. (let r = bodies_reached y s p fits b j in (r.0, r.1, r.2, reached_listed _ r.3, each_listed _ r.4)));
      }

pub no_other_ground_type_occurs : NoOtherGroundTypeOccurs
no_other_ground_type_occurs p r a x i s is = occurs_listed p r.keeps.core (run_sets p r.keeps.core r.keeps.lines r.names a) x i s is
