-- The types that a scope reaches, by a list that is worked off.
use Rattle.std.proofs.Common.{◌≡◌, ℕ, ◌+◌, ◌<◌, ◌≤◌, List, [], ◌∷◌, ◌++◌, take, inl, inr, length, get_or, Ok, Err, refl, sym, ap, ◌∙◌, subst, arith, length-append}
use Rattle.std.specs.Prelude.{slice_get}
use Rattle.std.proofs.lemmas.List.{take_more, take_all, take-append-le}
use Rattle.wy_text.specs.Members.{In, Apart}
use Rattle.wy_text.proofs.Lists.{In-left, In-right, In-cases, In-at, In-slice_get, In-read}
use Rattle.wy_types.specs.declared.types.TypeRef.{TypeRef}
use Rattle.wy_types.specs.declared.types.TypeRef.TheVariants.{Int, Bool, Text, Unit as Nothing, Named, At, Own}
use Rattle.wy_types.specs.declared.path.Part.{Part}
use Rattle.wy_types.specs.declared.path.Part.TheVariants.{Parameter, Result as ResultPart}
use Rattle.wy_types.specs.declared.path.Step.{Step}
use Rattle.wy_types.specs.declared.reach.ReachRefusal.{ReachRefusal}
use Rattle.wy_types.specs.declared.reach.ReachRefusal.TheVariants.{Limit, Memory}
use Rattle.wy_types.specs.Program.{Program}
use Rattle.wy_types.specs.Signature.{Signature, signature_types}
use Rattle.wy_types.specs.Types.{IsObject, methods_of}
use Rattle.wy_types.specs.Paths.{IsPartOf, Goes, Walks}
use Rattle.wy_types.specs.Reached.{scope_first_types, IsReached, Reach}
use Rattle.wy_types.specs.Gathering.{IsGathered, Gathers, Begins}
use Rattle.wy_types.proofs.Gathered.{gathered_old, gathered_cases}

-- the types in signatures are those at their parts
pub signature_types-part : (K : Type 0) (methods : K → List (Signature K)) (ms : List (Signature K)) (m : Signature K) (part : Part) (u : K) → In m ms → IsPartOf K methods m part u → In u (signature_types ms)
signature_types-part K methods [] m part u i p = absurd i
signature_types-part K methods (n ∷ ms) m ResultPart u (inl e) p =
    In-left u (n.params ++ n.result ∷ []) (signature_types ms) (In-right u n.params (n.result ∷ []) (inl (ap (λ (v : Signature K). v.result) e ∙ p)))
signature_types-part K methods (n ∷ ms) m (Parameter k) u (inl e) p =
    In-left u (n.params ++ n.result ∷ []) (signature_types ms) (In-left u n.params (n.result ∷ [])
    (In-slice_get n.params k u (ap (λ (v : Signature K). slice_get v.params k) e ∙ p)))
signature_types-part K methods (n ∷ ms) m part u (inr i) p = In-right u (n.params ++ n.result ∷ []) (signature_types ms) (signature_types-part K methods ms m part u i p)

pub part_of_signature : (K : Type 0) (methods : K → List (Signature K)) (ms : List (Signature K)) (u : K) → In u (signature_types ms) → (m : Signature K) × In m ms × ((part : Part) × IsPartOf K methods m part u)
part_of_signature K methods [] u i = absurd i
part_of_signature K methods (n ∷ ms) u i =
    elim (In-cases u (n.params ++ n.result ∷ []) (signature_types ms) i) [
      | inl j ↦ elim (In-cases u n.params (n.result ∷ []) j) [
        | inl k ↦ (let r = In-at u n.params k in (n, inl refl, (Parameter r.0, r.2)))
        | inr k ↦ elim k [ inl e ↦ (n, inl refl, (ResultPart, e)) | inr z ↦ absurd z ]
      ]
      | inr j ↦ (let r = part_of_signature K methods ms u j in (r.0, inr r.1, r.2))
    ]

-- a path and then one more step
pub walks_more : (K : Type 0) (methods : K → List (Signature K)) (path : List Step) (s : Step) (t u v : K) → Walks K methods t path u → Goes K methods u s v → Walks K methods t (path ++ s ∷ []) v
walks_more K methods [] s t u v w g = (v, (let P : K → Type 0 = λ x. Goes K methods x s v in subst P (sym w) g), refl)
walks_more K methods (r ∷ path) s t u v w g = (w.0, w.1, walks_more K methods path s w.0 u v w.2 g)

-- a type that has a method is an object type
pub object_of : (p : Program) (scope : ℕ) (t : TypeRef) (m : Signature TypeRef) → In m (methods_of p scope t) → IsObject t
object_of p scope Int m i = absurd i
object_of p scope Bool m i = absurd i
object_of p scope Text m i = absurd i
object_of p scope Nothing m i = absurd i
object_of p scope (Named d ms) m i = tt
object_of p scope (At d b) m i = tt
object_of p scope (Own l) m i = tt

-- a base type has no methods
pub no_methods : (p : Program) (scope : ℕ) (t : TypeRef) → (IsObject t → ⊥) → methods_of p scope t ≡ []
no_methods p scope Int n = refl
no_methods p scope Bool n = refl
no_methods p scope Text n = refl
no_methods p scope Nothing n = refl
no_methods p scope (Named d ms) n = absurd (n tt)
no_methods p scope (At d b) n = absurd (n tt)
no_methods p scope (Own l) n = absurd (n tt)

step_to : (p : Program) (scope : ℕ) (t u : TypeRef) → In u (signature_types (methods_of p scope t)) → (s : Step) × Goes TypeRef (methods_of p scope) t s u
step_to p scope t u i =
    let r = part_of_signature TypeRef (methods_of p scope) (methods_of p scope t) u i in
    (record { method = r.0.name; part = r.2.0 }, record { method = r.0; has = r.1; named = refl; part = r.2.1 })

reached_more : (p : Program) (scope : ℕ) (t u : TypeRef) → IsReached p scope t → In u (signature_types (methods_of p scope t)) → IsReached p scope u
reached_more p scope t u r i =
    let s = step_to p scope t u i in
    (r.0, r.1, (r.2.0 ++ s.0 ∷ [], walks_more TypeRef (methods_of p scope) r.2.0 s.0 r.0 t u r.2.1 s.1))

-- the work that is done and that is left: the types before `next` have all their parts in the list
pub record IsWork (p : Program) (scope : ℕ) (seen : List TypeRef) (next : ℕ) : Type 0 where
  pub apart : Apart seen
  pub small : length seen ≤ 1024
  pub reached : (u : TypeRef) → In u seen → IsObject u × IsReached p scope u
  pub first : (u : TypeRef) → In u (scope_first_types (slice_get p.scopes scope)) → IsObject u → In u seen
  pub closed : (t : TypeRef) → In t (take next seen) → (u : TypeRef) → In u (signature_types (methods_of p scope t)) → IsObject u → In u seen
  pub within : next ≤ length seen

pub work_start : (p : Program) (scope : ℕ) (seen : List TypeRef) → IsGathered [] (scope_first_types (slice_get p.scopes scope)) seen → IsWork p scope seen 0
work_start p scope seen g = record {
  apart = g.apart;
  small = g.small;
  reached = λ u i. elim (gathered_cases [] (scope_first_types (slice_get p.scopes scope)) seen g u i) [
    | inl j ↦ absurd j
    | inr r ↦ (r.1, (u, r.0, ([], refl)))
  ];
  first = λ u i o. g.all u i o;
  closed = λ t i. absurd i;
  within = omega arith;
}

pub work_more : (p : Program) (scope : ℕ) (seen new : List TypeRef) (next : ℕ) (t : TypeRef) → IsWork p scope seen next → next < length seen → t ≡ get_or seen next t →
    IsGathered seen (signature_types (methods_of p scope t)) new → IsWork p scope new (next + 1)
work_more p scope seen new next t w lt e g =
    let there : In t seen = In-read seen next t t lt e in
    let taken : take (next + 1) new ≡ take next seen ++ t ∷ [] =
    ap (take (next + 1)) g.grows ∙ take-append-le (next + 1) seen g.more (omega arith) ∙ take_more seen next t lt ∙ ap (λ x. take next seen ++ x ∷ []) (sym e) in
    record {
      apart = g.apart;
      small = g.small;
      reached = λ u i. elim (gathered_cases seen (signature_types (methods_of p scope t)) new g u i) [
        | inl j ↦ w.reached u j
        | inr r ↦ (r.1, reached_more p scope t u (w.reached t there).1 r.0)
      ];
      first = λ u i o. gathered_old seen (signature_types (methods_of p scope t)) new g u (w.first u i o);
      closed = λ v i u k o.
          let P : List TypeRef → Type 0 = λ l. In v l in
          elim (In-cases v (take next seen) (t ∷ []) (subst P taken i)) [
            | inl j ↦ gathered_old seen (signature_types (methods_of p scope t)) new g u (w.closed v j u k o)
            | inr j ↦ elim j [
              | inl f ↦ (let Q : TypeRef → Type 0 = λ x. In u (signature_types (methods_of p scope x)) in g.all u (subst Q (sym f) k) o)
              | inr z ↦ absurd z
            ]
          ];
      within = omega (arith, ap length g.grows, length-append seen g.more);
    }

-- what is reached from a listed type is in a list that is worked off
reached_in : (p : Program) (scope : ℕ) (seen : List TypeRef) → ((t : TypeRef) → In t seen → (u : TypeRef) → In u (signature_types (methods_of p scope t)) → IsObject u → In u seen) →
    (path : List Step) (t u : TypeRef) → (IsObject t → In t seen) → Walks TypeRef (methods_of p scope) t path u → IsObject u → In u seen
reached_in p scope seen closed [] t u there w o =
    let P : TypeRef → Type 0 = λ x. IsObject x in
    let Q : TypeRef → Type 0 = λ x. In x seen in
    subst Q w (there (subst P (sym w) o))
reached_in p scope seen closed (s ∷ path) t u there w o =
    let g : Goes TypeRef (methods_of p scope) t s w.0 = w.1 in
    let listed : In t seen = there (object_of p scope t g.method g.has) in
    reached_in p scope seen closed path w.0 u
    (λ h. closed t listed w.0 (signature_types-part TypeRef (methods_of p scope) (methods_of p scope t) g.method s.part w.0 g.has g.part) h) w.2 o

pub work_done : (p : Program) (scope : ℕ) (seen : List TypeRef) (next : ℕ) → IsWork p scope seen next → length seen ≤ next → Reach p scope (Ok seen)
work_done p scope seen next w le =
    let closed : (t : TypeRef) → In t seen → (u : TypeRef) → In u (signature_types (methods_of p scope t)) → IsObject u → In u seen =
    λ t i. w.closed t (let P : List TypeRef → Type 0 = λ l. In t l in subst P (sym (take_all next seen le)) i) in (
      w.apart,
      w.small,
      λ u. (
        (λ i. w.reached u i),
        λ r. reached_in p scope seen closed r.1.2.0 r.1.0 u (λ o. w.first r.1.0 r.1.1 o) r.1.2.1 r.0,
      ),
    )

-- a refusal while the work goes on
pub work_refused : (p : Program) (scope : ℕ) (seen new : List TypeRef) (next : ℕ) (t : TypeRef) (e : ReachRefusal) → IsWork p scope seen next → next < length seen → t ≡ get_or seen next t →
    Gathers seen (signature_types (methods_of p scope t)) new (Err e) → Reach p scope (Err e)
work_refused p scope seen new next t Memory w lt e h = tt
work_refused p scope seen new next t (Limit limit) w lt e h =
    let there : In t seen = In-read seen next t t lt e in (
      h.0,
      (
        h.1.0,
        h.1.1.apart,
        h.1.1.many,
        λ u i. elim (h.1.1.from u i) [
          | inl j ↦ w.reached u j
          | inr r ↦ (r.1, reached_more p scope t u (w.reached t there).1 r.0)
        ],
      ),
    )

pub start_refused : (p : Program) (scope : ℕ) (e : ReachRefusal) → Begins (scope_first_types (slice_get p.scopes scope)) (Err e) → Reach p scope (Err e)
start_refused p scope Memory h = tt
start_refused p scope (Limit limit) h = (
  h.0,
  (
    h.1.0,
    h.1.1.apart,
    h.1.1.many,
    λ u i. elim (h.1.1.from u i) [
      | inl j ↦ absurd j
      | inr r ↦ (r.1, (u, r.0, ([], refl)))
    ],
  ),
)
