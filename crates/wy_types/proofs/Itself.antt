-- A type in range is a subtype of itself, over any table of methods whose names differ, where few types are in range and their methods name such
-- types.
use Rattle.std.proofs.Common.{◌≡◌, ℕ, ◌≤◌, List, [], ◌∷◌, map, ◌⊎◌, inl, inr, length, refl, sym, ap, ◌∙◌, subst, Option, Some, true, false}
use Rattle.std.specs.Prelude.{bytes_eq, if◌then◌else◌}
use Rattle.std.proofs.lemmas.Slice.Eq.{bytes_eq-Decides}
use Rattle.wy_text.specs.Members.{In, Apart}
use Rattle.wy_effects.proofs.Closure.{Decided, Closes, closure}
use Rattle.wy_text.proofs.Lists.{In-at, In-map, In-unmap}
use Rattle.wy_types.specs.declared.path.Part.TheVariants.{Parameter, Result as ResultPart}
use Rattle.wy_types.specs.Signature.{Signature, mapped_signature, find_method, signature_types}
use Rattle.wy_types.specs.Subtyping.{ParamsIn, HasCover, IsClosed, IsSubtype}
use Rattle.wy_types.proofs.Reaching.{signature_types-part}

-- the names of signatures
abbrev pub names_of : {K : Type 0} → List (Signature K) → List (List ℕ)
names_of {K} ms = map (λ (m : Signature K). m.name) ms

pub names_of-mapped : {K L : Type 0} (kind : K → L) (effect : List ℕ → List ℕ) (ms : List (Signature K)) → names_of (map (mapped_signature kind effect) ms) ≡ names_of ms
names_of-mapped kind effect [] = refl
names_of-mapped kind effect (m ∷ ms) = ap (λ l. m.name ∷ l) (names_of-mapped kind effect ms)

-- where names differ, the method of a name is the method itself
pub find_once : {K : Type 0} (ms : List (Signature K)) (m : Signature K) → Apart (names_of ms) → In m ms → find_method m.name ms ≡ Some m
find_once [] m d i = absurd i
find_once {K} (x ∷ ms) m d (inl e) =
    ap (λ b. if b then Some x else find_method m.name ms) ((bytes_eq-Decides x.name m.name).1 (ap (λ (v : Signature K). v.name) e)) ∙ ap (λ (v : Signature K). Some v) e
find_once {K} (x ∷ ms) m d (inr i) =
    let differ : x.name ≡ m.name → ⊥ = λ e. d.0 (let P : List ℕ → Type 0 = λ v. In v (names_of ms) in subst P (sym e) (In-map (λ (v : Signature K). v.name) m ms i)) in
    elim (bytes_eq x.name m.name) as (λ b. bytes_eq x.name m.name ≡ b → (if b then Some x else find_method m.name ms) ≡ Some m) [
      | true ↦ λ t. absurd (differ ((bytes_eq-Decides x.name m.name).0 t))
      | false ↦ λ t. find_once ms m d.1 i
    ] refl

module _ (K : Type 0) (decide : (s t : K) → Decided (s ≡ t)) (methods : K → List (Signature K)) (IsObject : K → Type 0)
    (object_cases : (t : K) → IsObject t ⊎ (IsObject t → ⊥)) (P : K → Type 0)
    (kept : (t u : K) → P t → In u (signature_types (methods t)) → P u) (bound : ℕ)
    (few : (ts : List K) → Apart ts → ((t : K) → In t ts → P t) → length ts ≤ bound) (differ : (t : K) → Apart (names_of (methods t))) where
  next_types : K → List K
  next_types t = signature_types (methods t)

  kept_next : (t u : K) → P t → In u (next_types t) → P u
  unfolding next_types
  kept_next = kept

  -- all that a type reaches, in one list
  reached : (t : K) → P t → Closes K next_types P [] (t ∷ [])
  reached t f = closure K decide next_types P kept_next bound few t f

  params_same : (ps : List (K × K)) (ts : List K) → ((t : K) → In t ts → In {X = K × K} (t, t) ps) → ParamsIn ps ts ts
  params_same ps [] h = tt
  params_same ps (t ∷ ts) h = (h t (inl refl), params_same ps ts (λ u i. h u (inr i)))

  params_part : (ms : List (Signature K)) (m : Signature K) (u : K) → In m ms → In u m.params → In u (signature_types ms)
  params_part ms m u i j = (let r = In-at u m.params j in signature_types-part K methods ms m (Parameter r.0) u i r.2)

  module _ (Includes : List ℕ → List ℕ → Type 0) (same : (e : List ℕ) → Includes e e) where
    pub subtype_itself : (t : K) → P t → IsSubtype K methods IsObject Includes t t
    unfolding next_types
    subtype_itself t f =
        let r = reached t f in
        let twice : K → K × K = λ u. (u, u) in
        let ps : List (K × K) = map twice r.list in
        let there : (u : K) → In u r.list → In {X = K × K} (u, u) ps = λ u i. In-map twice u r.list i in
        let close : (u : K) → In u r.list → IsClosed K methods IsObject Includes ps (twice u) = λ u i.
        elim (object_cases u) [
          | inr base ↦ inl (refl, base)
          | inl object ↦ inr (
            object,
            object,
            λ n j.
                let C : Option (Signature K) → Type 0 = λ o. HasCover K methods IsObject Includes ps o n in
                subst C (sym (find_once (methods u) n (differ u) j)) (record {
                  params = params_same ps n.params (λ v k. there v (r.closed u i v (params_part (methods u) n v j k)));
                  effect = same n.effect;
                  result = there n.result (r.closed u i n.result (signature_types-part K methods (methods u) n ResultPart n.result j refl));
                }),
          )
        ] in
        record {
          pairs = ps;
          first = there t (r.new t (inl refl));
          closed = λ q i.
              let s = In-unmap twice q r.list i in
              let C : K × K → Type 0 = λ v. IsClosed K methods IsObject Includes ps v in
              subst C s.2 (close s.0 s.1);
        }
