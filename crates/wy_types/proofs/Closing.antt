-- Closed lists of pairs, over any types: what they contain, and that they stay closed in a larger list and under a reading of types.
use Rattle.std.proofs.Common.{◌≡◌, ℕ, zero, suc, List, [], ◌∷◌, map, inl, inr, refl, sym, ap, ◌∙◌, subst, Option, Some, None, true, false}
use Rattle.std.specs.Prelude.{slice_get, bytes_eq, if◌then◌else◌}
use Rattle.std.proofs.lemmas.Slice.Eq.{bytes_eq-Decides}
use Rattle.wy_text.specs.Members.{In, Within}
use Rattle.wy_text.proofs.Lists.{In-map, In-unmap}
use Rattle.wy_types.specs.declared.path.Part.{Part}
use Rattle.wy_types.specs.declared.path.Part.TheVariants.{Parameter, Result}
use Rattle.wy_types.specs.declared.path.Step.{Step}
use Rattle.wy_types.specs.Signature.{Signature, mapped_signature, find_method}
use Rattle.wy_types.specs.Subtyping.{ParamsIn, Covers, HasCover, IsClosed, IsSubtype, LeadsBy, IsStep, Leads}

-- the method that is found is one of the list, and has the name
pub find_in : {K : Type 0} (name : List ℕ) (ms : List (Signature K)) (m : Signature K) → find_method name ms ≡ Some m → In m ms
find_in name [] m e = cc
find_in name (x ∷ ms) m e =
    elim (bytes_eq x.name name) as (λ b. (if b then Some x else find_method name ms) ≡ Some m → In m (x ∷ ms)) [
      | true ↦ λ h. inl (cc)
      | false ↦ λ h. inr (find_in name ms m h)
    ] e

pub find_named : {K : Type 0} (name : List ℕ) (ms : List (Signature K)) (m : Signature K) → find_method name ms ≡ Some m → m.name ≡ name
find_named name [] m e = cc
find_named {K} name (x ∷ ms) m e =
    elim (bytes_eq x.name name) as (λ b. bytes_eq x.name name ≡ b → (if b then Some x else find_method name ms) ≡ Some m → m.name ≡ name) [
      | true ↦ λ t h. (let same : x ≡ m = cc in sym (ap (λ (v : Signature K). v.name) same) ∙ (bytes_eq-Decides x.name name).0 t)
      | false ↦ λ t h. find_named name ms m h
    ] refl e

-- in signatures that are read in another way the method of a name is the one read so
pub find-mapped : {K L : Type 0} (kind : K → L) (effect : List ℕ → List ℕ) (name : List ℕ) (ms : List (Signature K)) (m : Signature K) →
    find_method name ms ≡ Some m → find_method name (map (mapped_signature kind effect) ms) ≡ Some (mapped_signature kind effect m)
find-mapped kind effect name [] m h = cc
find-mapped {K} kind effect name (x ∷ ms) m h =
    elim (bytes_eq x.name name) as (λ b. (if b then Some x else find_method name ms) ≡ Some m →
    (if b then Some (mapped_signature kind effect x) else find_method name (map (mapped_signature kind effect) ms)) ≡ Some (mapped_signature kind effect m)) [
      | true ↦ λ g. (let f : x ≡ m = cc in ap (λ (v : Signature K). Some (mapped_signature kind effect v)) f)
      | false ↦ λ g. find-mapped kind effect name ms m g
    ] h

-- a parameter pair is among the pairs
params_at : {K : Type 0} (ps : List (K × K)) (xs ys : List K) (i : ℕ) (q : K × K) → ParamsIn ps xs ys → slice_get ys i ≡ Some q.0 → slice_get xs i ≡ Some q.1 → In q ps
params_at ps [] [] i q h e f = absurd (cc)
params_at ps [] (b ∷ bs) i q h e f = absurd h
params_at ps (a ∷ xs) [] i q h e f = absurd h
params_at {K} ps (a ∷ xs) (b ∷ bs) zero q h e f =
    let P : K → Type 0 = λ v. In {X = K × K} (v, q.1) ps in
    let Q : K → Type 0 = λ v. In {X = K × K} (b, v) ps in
    let e' : b ≡ q.0 = cc in
    let f' : a ≡ q.1 = cc in
    subst P e' (subst Q f' h.0)
params_at ps (a ∷ xs) (b ∷ bs) (suc i) q h e f = params_at ps xs bs i q h.1 e f

pub ParamsIn-more : {K : Type 0} (ps qs : List (K × K)) (xs ys : List K) → Within ps qs → ParamsIn ps xs ys → ParamsIn qs xs ys
ParamsIn-more ps qs [] [] w h = tt
ParamsIn-more ps qs [] (b ∷ bs) w h = absurd h
ParamsIn-more ps qs (a ∷ xs) [] w h = absurd h
ParamsIn-more ps qs (a ∷ xs) (b ∷ bs) w h = (w (b, a) h.0, ParamsIn-more ps qs xs bs w h.1)

module _ (K : Type 0) (methods : K → List (Signature K)) (IsObject : K → Type 0) (Includes : List ℕ → List ℕ → Type 0) where
  -- what covers a method
  pub cover_from : (ps : List (K × K)) (o : Option (Signature K)) (n : Signature K) → HasCover K methods IsObject Includes ps o n →
      (m : Signature K) × (o ≡ Some m) × Covers K methods IsObject Includes ps m n
  cover_from ps None n h = absurd h
  cover_from ps (Some m) n h = (m, refl, h)

  -- what a covered method leads to is among the pairs
  covered : (ps : List (K × K)) (left right : Signature K) (part : Part) (q : K × K) → Covers K methods IsObject Includes ps left right →
      LeadsBy K methods IsObject Includes left right part q → In q ps
  covered ps left right Result q c l =
      let P : K → Type 0 = λ v. In {X = K × K} (v, q.1) ps in
      let Q : K → Type 0 = λ v. In {X = K × K} (left.result, v) ps in
      subst P (sym l.0) (subst Q (sym l.1) c.result)
  covered ps left right (Parameter i) q c l = params_at ps left.params right.params i q c.params l.0 l.1

  pub HasCover-more : (ps qs : List (K × K)) (o : Option (Signature K)) (n : Signature K) → Within ps qs → HasCover K methods IsObject Includes ps o n → HasCover K methods IsObject Includes qs o n
  HasCover-more ps qs None n w h = absurd h
  HasCover-more ps qs (Some m) n w h = record {
    params = ParamsIn-more ps qs m.params n.params w h.params;
    effect = h.effect;
    result = w (m.result, n.result) h.result;
  }

  pub IsClosed-more : (ps qs : List (K × K)) (p : K × K) → Within ps qs → IsClosed K methods IsObject Includes ps p → IsClosed K methods IsObject Includes qs p
  IsClosed-more ps qs p w (inl base) = inl base
  IsClosed-more ps qs p w (inr h) = inr (h.0, h.1, λ n i. HasCover-more ps qs (find_method n.name (methods p.0)) n w (h.2 n i))

  module _ (none : (t : K) → (IsObject t → ⊥) → methods t ≡ []) where
    -- a closed pair's steps stay among the pairs
    pub closed_step : (ps : List (K × K)) (p : K × K) (s : Step) (q : K × K) → IsClosed K methods IsObject Includes ps p → IsStep K methods IsObject Includes p s q → In q ps
    closed_step ps p s q (inl base) step =
        let P : K → Type 0 = λ t. IsObject t → ⊥ in
        let Q : List (Signature K) → Type 0 = λ ms. In step.right ms in
        absurd (subst Q (none p.1 (subst P base.0 base.1)) step.asked)
    closed_step ps p s q (inr object) step =
        let P : Option (Signature K) → Type 0 = λ o. HasCover K methods IsObject Includes ps o step.right in
        covered ps step.left step.right s.part q (subst P step.found (object.2 step.right step.asked)) step.leads

    -- where a path leads from a pair of a closed list is in the list
    pub closed_path : (ps : List (K × K)) → ((p : K × K) → In p ps → IsClosed K methods IsObject Includes ps p) → (path : List Step) (p q : K × K) → In p ps → Leads K methods IsObject Includes p path q → In q ps
    closed_path ps all [] p q i l =
        let P : K → Type 0 = λ v. In {X = K × K} (v, q.1) ps in
        let Q : K → Type 0 = λ v. In {X = K × K} (p.0, v) ps in
        subst P l.0 (subst Q l.1 i)
    closed_path ps all (s ∷ path) p q i l = closed_path ps all path l.0 q (closed_step ps p s l.0 (all p i) l.1) l.2

-- subtyping is kept by a reading of types under which methods and tests of effects stay
module _ (K L : Type 0) (methods : K → List (Signature K)) (methods' : L → List (Signature L)) (IsObject : K → Type 0) (IsObject' : L → Type 0)
    (Includes Includes' : List ℕ → List ℕ → Type 0) (kind : K → L) (effect : List ℕ → List ℕ)
    (same : (t : K) → methods' (kind t) ≡ map (mapped_signature kind effect) (methods t))
    (object : (t : K) → IsObject t → IsObject' (kind t)) (base : (t : K) → IsObject' (kind t) → IsObject t)
    (included : (e f : List ℕ) → Includes e f → Includes' (effect e) (effect f)) where
  both : K × K → L × L
  both p = (kind p.0, kind p.1)

  ParamsIn-read : (ps : List (K × K)) (xs ys : List K) → ParamsIn ps xs ys → ParamsIn (map both ps) (map kind xs) (map kind ys)
  unfolding both
  ParamsIn-read ps [] [] h = tt
  ParamsIn-read ps [] (y ∷ ys) h = absurd h
  ParamsIn-read ps (x ∷ xs) [] h = absurd h
  ParamsIn-read ps (x ∷ xs) (y ∷ ys) h = (In-map both (y, x) ps h.0, ParamsIn-read ps xs ys h.1)

  closed_read : (ps : List (K × K)) (p : K × K) → IsClosed K methods IsObject Includes ps p → IsClosed L methods' IsObject' Includes' (map both ps) (both p)
  unfolding both
  closed_read ps p (inl b) = inl (ap kind b.0, λ o. b.1 (base p.0 o))
  closed_read ps p (inr h) =
      inr (
        object p.0 h.0,
        object p.1 h.1,
        λ n i.
            let P : List (Signature L) → Type 0 = λ l. In n l in
            let r = In-unmap (mapped_signature kind effect) n (methods p.1) (subst P (same p.1) i) in
            let c = cover_from K methods IsObject Includes ps (find_method r.0.name (methods p.0)) r.0 (h.2 r.0 r.1) in
            let Q : Signature L → Type 0 = λ v. HasCover L methods' IsObject' Includes' (map both ps) (find_method v.name (methods' (kind p.0))) v in
            let R : List (Signature L) → Type 0 = λ l. HasCover L methods' IsObject' Includes' (map both ps) (find_method r.0.name l) (mapped_signature kind effect r.0) in
            let S : Option (Signature L) → Type 0 = λ o. HasCover L methods' IsObject' Includes' (map both ps) o (mapped_signature kind effect r.0) in
            subst Q r.2 (subst R (sym (same p.0)) (subst S (sym (find-mapped kind effect r.0.name (methods p.0) c.0 c.1)) (record {
              params = ParamsIn-read ps c.0.params r.0.params c.2.params;
              effect = included c.0.effect r.0.effect c.2.effect;
              result = In-map both (c.0.result, r.0.result) ps c.2.result;
            }))),
      )

  pub subtype_read : (s t : K) → IsSubtype K methods IsObject Includes s t → IsSubtype L methods' IsObject' Includes' (kind s) (kind t)
  unfolding both
  subtype_read s t h = record {
    pairs = map both h.pairs;
    first = In-map both (s, t) h.pairs h.first;
    closed = λ q i.
        let r = In-unmap both q h.pairs i in
        let P : L × L → Type 0 = λ v. IsClosed L methods' IsObject' Includes' (map both h.pairs) v in
        subst P r.2 (closed_read h.pairs r.0 (h.closed r.0 r.1));
  }
