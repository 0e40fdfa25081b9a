-- Keys are read in one way, so a table of keys has a type exactly where it has the type's key.
use Rattle.std.proofs.Common.{◌≡◌, ℕ, ◌+◌, List, [], ◌∷◌, ◌++◌, map, inl, inr, refl, sym, ap, ◌∙◌, subst, arith, rules, append_assoc, Bool as Truth, true, false}
use Rattle.std.specs.Prelude.{◌||◌, if◌then◌else◌}
use Rattle.std.specs.List.{list_any}
use Rattle.wy_text.specs.Members.{In}
use Rattle.wy_text.proofs.Lists.{In-map, In-unmap}
use Rattle.wy_types.specs.declared.types.TypeRef.{TypeRef}
use Rattle.wy_types.specs.declared.types.TypeRef.TheVariants.{Int, Bool, Text, Unit as Nothing, Named, At, Own}
use Rattle.wy_types.specs.Keys.{set_key, sets_key, type_key, pair_key, mark_key}
use Rattle.wy_types.specs.contracts.key.KeyPartialEq.TheImpl as E

set_once : (s t xs ys : List ℕ) → set_key s ++ xs ≡ set_key t ++ ys → (s ≡ t) × (xs ≡ ys)
set_once [] [] xs ys e = (refl, cc)
set_once [] (b ∷ t) xs ys e = absurd (let h : 0 ≡ b + 1 = cc in omega arith)
set_once (a ∷ s) [] xs ys e = absurd (let h : a + 1 ≡ 0 = cc in omega arith)
set_once (a ∷ s) (b ∷ t) xs ys e =
    let first : a + 1 ≡ b + 1 = cc in
    let same : a ≡ b = omega arith in
    let rest : set_key s ++ xs ≡ set_key t ++ ys = cc in
    let r = set_once s t xs ys rest in
    (cc, r.1)

sets_once : (ss ts : List (List ℕ)) (xs ys : List ℕ) → sets_key ss ++ xs ≡ sets_key ts ++ ys → (ss ≡ ts) × (xs ≡ ys)
sets_once [] [] xs ys e = (refl, cc)
sets_once [] (t ∷ ts) xs ys e = absurd (cc)
sets_once (s ∷ ss) [] xs ys e = absurd (cc)
sets_once (s ∷ ss) (t ∷ ts) xs ys e =
    let rest : (set_key s ++ sets_key ss) ++ xs ≡ (set_key t ++ sets_key ts) ++ ys = cc in
    let r = set_once s t (sets_key ss ++ xs) (sets_key ts ++ ys) (sym (append_assoc (set_key s) (sets_key ss) xs) ∙ rest ∙ append_assoc (set_key t) (sets_key ts) ys) in
    let q = sets_once ss ts xs ys r.1 in
    (cc, q.1)

-- what begins with a type's key begins with the key of no other type
pub type_once : (s t : TypeRef) (xs ys : List ℕ) → type_key s ++ xs ≡ type_key t ++ ys → (s ≡ t) × (xs ≡ ys)
type_once Int Int xs ys e = (refl, cc)
type_once Bool Bool xs ys e = (refl, cc)
type_once Text Text xs ys e = (refl, cc)
type_once Nothing Nothing xs ys e = (refl, cc)
type_once (Named d ms) (Named f ns) xs ys e =
    let same : d ≡ f = cc in
    let rest : sets_key ms ++ xs ≡ sets_key ns ++ ys = cc in
    let r = sets_once ms ns xs ys rest in
    (cc, r.1)
type_once (At d b) (At f c) xs ys e =
    let same : d ≡ f = cc in
    let rest : set_key b ++ xs ≡ set_key c ++ ys = cc in
    let r = set_once b c xs ys rest in
    (cc, r.1)
type_once (Own l) (Own k) xs ys e = (cc, cc)
type_once s t xs ys e = absurd (cc)

-- equal keys are those of equal types
pub alone_once : (s t : TypeRef) → type_key s ≡ type_key t → s ≡ t
alone_once s t e = (type_once s t [] [] (ap (λ l. l ++ []) e)).0

pub pair_once : (p q : TypeRef × TypeRef) → pair_key p.0 p.1 ≡ pair_key q.0 q.1 → p ≡ q
pair_once p q e =
    let r = type_once p.0 q.0 (type_key p.1) (type_key q.1) e in
    let h : type_key p.1 ++ [] ≡ type_key q.1 ++ [] = ap (λ l. l ++ []) r.1 in
    let s = type_once p.1 q.1 [] [] h in
    ap (λ (t : TypeRef). let v : TypeRef × TypeRef = (t, p.1) in v) r.0 ∙ ap (λ (t : TypeRef). let v : TypeRef × TypeRef = (q.0, t) in v) s.0

truth_once : (a b : Truth) → ◌≡◌ {A = ℕ} (if a then 1 else 0) (if b then 1 else 0) → a ≡ b
truth_once true true e = refl
truth_once false false e = refl
truth_once true false e = absurd (cc)
truth_once false true e = absurd (cc)

pub mark_once : (p q : TypeRef × Truth) → mark_key p.0 p.1 ≡ mark_key q.0 q.1 → p ≡ q
mark_once p q e =
    let first : ◌≡◌ {A = ℕ} (if p.1 then 1 else 0) (if q.1 then 1 else 0) = cc in
    let rest : type_key p.0 ≡ type_key q.0 = cc in
    let h : type_key p.0 ++ [] ≡ type_key q.0 ++ [] = ap (λ l. l ++ []) rest in
    let s = type_once p.0 q.0 [] [] h in
    ap (λ (t : TypeRef). let v : TypeRef × Truth = (t, p.1) in v) s.0 ∙ ap (λ (b : Truth). let v : TypeRef × Truth = (q.0, b) in v) (truth_once p.1 q.1 first)

------------------------------------------------------------
-- Tables of keys

key_exact : (a b : List ℕ) → (E.eq-value).it a b ≡ true → b ≡ a
key_exact a b e = search rules

key_same : (a : List ℕ) → (E.eq-value).it a a ≡ true
key_same a = search rules

any_in : (k : List ℕ) (ks : List (List ℕ)) → list_any ((E.eq-value).it k) ks ≡ true → In k ks
any_in k [] e = absurd (cc)
any_in k (x ∷ ks) e =
    elim ((E.eq-value).it k x) as (λ b. (E.eq-value).it k x ≡ b → b || list_any ((E.eq-value).it k) ks ≡ true → In k (x ∷ ks)) [
      | true ↦ λ h g. inl (key_exact k x h)
      | false ↦ λ h g. inr (any_in k ks g)
    ] refl e

none_in : (k : List ℕ) (ks : List (List ℕ)) → list_any ((E.eq-value).it k) ks ≡ false → In k ks → ⊥
none_in k [] e i = i
none_in k (x ∷ ks) e i =
    elim ((E.eq-value).it k x) as (λ b. (E.eq-value).it k x ≡ b → b || list_any ((E.eq-value).it k) ks ≡ false → ⊥) [
      | true ↦ λ h g. cc
      | false ↦ λ h g. elim i [
        | inl same ↦ (let P : List ℕ → Type 0 = λ v. (E.eq-value).it k v ≡ true in let t : (E.eq-value).it k x ≡ true = subst P (sym same) (key_same k) in cc)
        | inr j ↦ none_in k ks g j
      ]
    ] refl e

-- a table's list of things, with the keys of all of them, before and after the key of one thing is put in
module _ {X : Type 0} (key : X → List ℕ) (once : (x y : X) → key x ≡ key y → x ≡ y) where
  pub met : (x : X) (xs : List X) (ks : List (List ℕ)) → ks ≡ map key xs → list_any ((E.eq-value).it (key x)) ks ≡ true → In x xs
  met x xs ks e h =
      let P : List (List ℕ) → Type 0 = λ l. In (key x) l in
      let r = In-unmap key (key x) xs (subst P e (any_in (key x) ks h)) in
      let Q : X → Type 0 = λ v. In v xs in
      subst Q (once r.0 x r.2) r.1

  pub not_met : (x : X) (xs : List X) (ks : List (List ℕ)) → ks ≡ map key xs → list_any ((E.eq-value).it (key x)) ks ≡ false → In x xs → ⊥
  not_met x xs ks e h i =
      let P : List (List ℕ) → Type 0 = λ l. In (key x) l in
      none_in (key x) ks h (subst P (sym e) (In-map key x xs i))
