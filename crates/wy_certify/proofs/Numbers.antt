-- Types, each once, and the place of one among them.
use Rattle.std.proofs.Common.{◌≡◌, ℕ, suc, ◌+◌, ◌<◌, ◌≤◌, List, [], ◌∷◌, ◌++◌, map, length, get_or, take, drop, inl, inr, refl, sym, ◌∙◌, ap, ap₂, subst, Option, Some, None, Bool as Truth, true, false, arith, rules}
use Rattle.std.specs.Prelude.{◌||◌, ◌⊎◌, not, cond, nat_lt, unwrap_or, if◌then◌else◌}
use Rattle.std.proofs.lemmas.Bool.{ltb-false}
use Rattle.std.proofs.lemmas.List.{length-map, map-append, take_more, drop_more, drop_all}
use Rattle.std.proofs.lemmas.List.Sums.{prefix_len-le-length}
use Rattle.std.specs.List.{list_any, position, position_or_len}
use Rattle.wy_text.specs.Members.{In, Apart}
use Rattle.wy_text.proofs.Lists.{In-left, In-push, In-cases, In-map, In-unmap, Apart-push}
use Rattle.wy_types.specs.declared.types.TypeRef.{TypeRef}
use Rattle.wy_types.specs.declared.types.TypeRef.TheVariants as to
use Rattle.wy_types.specs.Keys.{type_key}
use Rattle.wy_types.proofs.Keyed.{alone_once}
use Rattle.wy_types.specs.contracts.key.KeyPartialEq.TheImpl as E
use Rattle.wy_rules.specs.Canonical.{same_type}
use Rattle.wy_rules.proofs.SameTypes.{types_are_told_apart}
use Rattle.wy_cert.specs.declared.certificate.CertNode.{CertNode}
use Rattle.wy_spelling.specs.Spelling.{IsNumber}
use Rattle.wy_proving.specs.Certified.{typed, Pair}
use Rattle.wy_proving.specs.Steps.{Step}
use Rattle.wy_proving.specs.Written.{cert_type, listed_types, number_of, number, cert_node, pair_types, step_types, type_of}
use Rattle.wy_certify.specs.declared.step.Step as own
use Rattle.wy_certify.specs.Step.{step_of, steps_of}
use Rattle.wy_certify.specs.Numbering.{part_types, IsEachOnce}
use Rattle.wy_certify.specs.PartTable.{is_listed, type_added, each_once_after, each_once, part_table}

------------------------------------------------------------
-- Keys tell types apart

key_exact : (a b : List ℕ) → (E.eq-value).it a b ≡ true → b ≡ a
key_exact a b e = search rules

key_same : (a : List ℕ) → (E.eq-value).it a a ≡ true
key_same a = search rules

same_key : (t u : TypeRef) → (E.eq-value).it (type_key t) (type_key u) ≡ same_type u t
same_key t u =
    elim (same_type u t) as (λ b. same_type u t ≡ b → (E.eq-value).it (type_key t) (type_key u) ≡ b) [
      | true ↦ λ e. subst (λ (v : TypeRef). (E.eq-value).it (type_key t) (type_key v) ≡ true) (sym ((types_are_told_apart u t).0 e)) (key_same (type_key t))
      | false ↦ λ e.
          elim ((E.eq-value).it (type_key t) (type_key u)) as (λ b. (E.eq-value).it (type_key t) (type_key u) ≡ b → b ≡ false) [
            | true ↦ λ h. (let f = (types_are_told_apart u t).1 (alone_once u t (key_exact (type_key t) (type_key u) h)) in absurd (cc))
            | false ↦ λ h. refl
          ] refl
    ] refl

-- the keys of types have a type's key exactly where the type is listed
any_listed : (t : TypeRef) (ts : List TypeRef) → list_any ((E.eq-value).it (type_key t)) (map type_key ts) ≡ is_listed t ts
any_listed t [] = refl
any_listed t (u ∷ us) = ap₂ (λ (a b : Truth). a || b) (same_key t u) (any_listed t us)

------------------------------------------------------------
-- Places

place_is : (t : TypeRef) (ts : List TypeRef) → position_or_len ((E.eq-value).it (type_key t)) (map type_key ts) ≡ number_of ts t
place_is t [] = refl
place_is t (u ∷ us) =
    let rest = place_is t us in
    let next : (1 + number_of us t) ≡ suc (number_of us t) = omega arith in
    ap₂ (λ (b : Truth) (n : ℕ). cond (not b) (1 + n) 0) (same_key t u) rest ∙
    elim (same_type u t) as (λ b. cond (not b) (1 + number_of us t) 0 ≡ (if b then 0 else suc (number_of us t))) [ true ↦ refl | false ↦ next ]

-- the place that is found, or else the length, is the first place
unwrapped : (t : TypeRef) (ts : List TypeRef) → unwrap_or (position ((E.eq-value).it (type_key t)) (map type_key ts)) (length ts) ≡ number_of ts t
unwrapped t ts =
    let f = (E.eq-value).it (type_key t) in
    let keys = map type_key ts in
    let q = position_or_len f keys in
    let most : q ≤ length keys = prefix_len-le-length (λ x. not (f x)) keys in
    let many : length keys ≡ length ts = length-map ts type_key in
    elim (nat_lt q (length keys)) as (λ b. nat_lt q (length keys) ≡ b → unwrap_or (cond b (Some q) None) (length ts) ≡ number_of ts t) [
      | true ↦ λ e. place_is t ts
      | false ↦ λ e. (let past = ltb-false q (length keys) e in let end : length ts ≡ q = omega arith in end ∙ place_is t ts)
    ] refl

typed_back : (t : TypeRef) → typed (cert_type t) ≡ t
typed_back to.Int = refl
typed_back to.Bool = refl
typed_back to.Text = refl
typed_back to.Unit = refl
typed_back (to.Named d es) = refl
typed_back (to.At d e) = refl
typed_back (to.Own l) = refl

-- types that are listed and read back are the same
listed_back : (ts : List TypeRef) → listed_types ts ≡ ts
listed_back [] = refl
listed_back (t ∷ ts) = ap₂ (λ (u : TypeRef) (us : List TypeRef). u ∷ us) (typed_back t) (listed_back ts)

-- the place at which a key is found, or else the length, is the number of the type
pub number_found : (t : TypeRef) (ts : List TypeRef) (k : List ℕ) (keys : List (List ℕ)) (o : Option ℕ) → k ≡ type_key t → keys ≡ map type_key ts → o ≡ position ((E.eq-value).it k) keys → unwrap_or o (length ts) ≡ number ts t
number_found t ts k keys o is are at =
    ap (λ v. unwrap_or v (length ts)) (at ∙ ap₂ (λ (j : List ℕ) (js : List (List ℕ)). position ((E.eq-value).it j) js) is are) ∙ unwrapped t ts ∙ ap (λ v. number_of v t) (sym (listed_back ts))

------------------------------------------------------------
-- Lists that grow

in_listed : (t : TypeRef) (ts : List TypeRef) → is_listed t ts ≡ true → In t ts
in_listed t [] e = absurd (cc)
in_listed t (u ∷ us) e =
    elim (same_type u t) as (λ b. same_type u t ≡ b → b || is_listed t us ≡ true → In t (u ∷ us)) [
      | true ↦ λ h g. inl ((types_are_told_apart u t).0 h)
      | false ↦ λ h g. inr (in_listed t us g)
    ] refl e

not_listed : (t : TypeRef) (ts : List TypeRef) → is_listed t ts ≡ false → In t ts → ⊥
not_listed t [] e i = i
not_listed t (u ∷ us) e i =
    elim (same_type u t) as (λ b. same_type u t ≡ b → b || is_listed t us ≡ false → ⊥) [
      | true ↦ λ h g. cc
      | false ↦ λ h g. elim i [ inl same ↦ (let f = (types_are_told_apart u t).1 same in absurd (cc)) | inr j ↦ not_listed t us g j ]
    ] refl e

-- a type that is there already
pub added_there : (ts : List TypeRef) (t : TypeRef) → is_listed t ts ≡ true → type_added ts t ≡ ts
unfolding type_added
added_there ts t e = ap (λ (b : Truth). if b then ts else ts ++ t ∷ []) e

-- .. and one that is not
pub added_last : (ts : List TypeRef) (t : TypeRef) → is_listed t ts ≡ false → type_added ts t ≡ ts ++ t ∷ []
unfolding type_added
added_last ts t e = ap (λ (b : Truth). if b then ts else ts ++ t ∷ []) e

-- a property of both
added_cases : (P : List TypeRef → Type 0) (ts : List TypeRef) (t : TypeRef) → (In t ts → P ts) → ((In t ts → ⊥) → P (ts ++ t ∷ [])) → P (type_added ts t)
added_cases P ts t there last =
    elim (is_listed t ts) as (λ b. is_listed t ts ≡ b → P (type_added ts t)) [
      | true ↦ λ e. subst P (sym (added_there ts t e)) (there (in_listed t ts e))
      | false ↦ λ e. subst P (sym (added_last ts t e)) (last (not_listed t ts e))
    ] refl

-- types after types
after_both : (ts us vs : List TypeRef) → each_once_after ts (us ++ vs) ≡ each_once_after (each_once_after ts us) vs
after_both ts [] vs = refl
after_both ts (u ∷ us) vs = after_both (type_added ts u) us vs

after_old : (t : TypeRef) (ts us : List TypeRef) → In t ts → In t (each_once_after ts us)
after_old t ts [] i = i
after_old t ts (u ∷ us) i = after_old t (type_added ts u) us (added_cases (In t) ts u (λ j. i) (λ n. In-left t ts (u ∷ []) i))

after_new : (t : TypeRef) (ts us : List TypeRef) → In t us → In t (each_once_after ts us)
after_new t ts [] i = absurd i
after_new t ts (u ∷ us) (inl e) =
    after_old t (type_added ts u) us (subst (λ (v : TypeRef). In v (type_added ts u)) e (added_cases (In u) ts u (λ j. j) (λ n. In-push u ts)))
after_new t ts (u ∷ us) (inr i) = after_new t (type_added ts u) us i

after_only : (t : TypeRef) (ts us : List TypeRef) → In t (each_once_after ts us) → In t ts ⊎ In t us
after_only t ts [] i = inl i
after_only t ts (u ∷ us) i =
    elim (after_only t (type_added ts u) us i) [
      | inl j ↦ added_cases (λ l. In t l → In t ts ⊎ In t (u ∷ us)) ts u (λ there k. inl k) (λ n k. first (In-cases t ts (u ∷ []) k)) j
      | inr j ↦ inr (inr j)
    ]
  where
    first : In t ts ⊎ In t (u ∷ []) → In t ts ⊎ In t (u ∷ us)
    first (inl k) = inl k
    first (inr (inl e)) = inr (inl e)
    first (inr (inr none)) = absurd none

after_apart : (ts us : List TypeRef) → Apart ts → Apart (each_once_after ts us)
after_apart ts [] a = a
after_apart ts (u ∷ us) a = after_apart (type_added ts u) us (added_cases Apart ts u (λ j. a) (λ n. Apart-push u ts a n))

-- each once, and no others
pub each_is_once : (us : List TypeRef) → IsEachOnce us (each_once us)
each_is_once us = record {
  all = λ t i. after_new t [] us i;
  only = λ t i. elim (after_only t [] us i) [ inl j ↦ absurd j | inr j ↦ j ];
  apart = after_apart [] us tt;
}

------------------------------------------------------------
-- What calls of tables say

-- a key is found exactly where its type is listed
pub known : (t : TypeRef) (ts : List TypeRef) (k : List ℕ) (keys : List (List ℕ)) (b : Truth) → k ≡ type_key t → keys ≡ map type_key ts → b ≡ list_any ((E.eq-value).it k) keys → is_listed t ts ≡ b
known t ts k keys b is are at = sym (at ∙ ap₂ (λ (j : List ℕ) (js : List (List ℕ)). list_any ((E.eq-value).it j) js) is are ∙ any_listed t ts)

-- the list from a number on begins with what is read there
drop_at : {X : Type 0} (xs : List X) (i : ℕ) (x : X) → i < length xs → x ≡ get_or xs i x → drop i xs ≡ x ∷ drop (i + 1) xs
drop_at xs i x lt is = drop_more xs i x lt ∙ ap (λ y. y ∷ drop (i + 1) xs) (sym is)

take_at : {X : Type 0} (xs : List X) (i : ℕ) (x : X) → i < length xs → x ≡ get_or xs i x → take (i + 1) xs ≡ take i xs ++ x ∷ []
take_at xs i x lt is = take_more xs i x lt ∙ ap (λ y. take i xs ++ y ∷ []) (sym is)

-- the types of one more step
pub step_turn : (xs : List own.Step) (i : ℕ) (x : own.Step) → i < length xs → x ≡ get_or xs i x → (ts next whole : List TypeRef) →
    each_once_after ts (step_types (steps_of (drop i xs))) ≡ whole → next ≡ each_once_after ts (type_of x.typ) → each_once_after next (step_types (steps_of (drop (i + 1) xs))) ≡ whole
unfolding steps_of
step_turn xs i x lt is ts next whole h n =
    let rest = step_types (steps_of (drop (i + 1) xs)) in
    ap (λ (l : List TypeRef). each_once_after l rest) n ∙ sym (after_both ts (type_of x.typ) rest) ∙
    sym (ap (λ (l : List own.Step). each_once_after ts (step_types (steps_of l))) (drop_at xs i x lt is)) ∙ h

pub steps_end : (xs : List own.Step) (i : ℕ) → length xs ≤ i → (ts whole : List TypeRef) → each_once_after ts (step_types (steps_of (drop i xs))) ≡ whole → ts ≡ whole
unfolding steps_of
steps_end xs i short ts whole h = sym (ap (λ (l : List own.Step). each_once_after ts (step_types (steps_of l))) (drop_all i xs short)) ∙ h

-- how many parts a step of a list has
pub parts_said : (xs : List own.Step) → ((st : Step TypeRef) → In st (steps_of xs) → IsNumber st.parts) → (x : own.Step) → In x xs → IsNumber x.parts
unfolding steps_of
parts_said xs h x i = h (step_of x) (In-map step_of x xs i)

-- .. and the other way round
pub parts_all : (xs : List own.Step) → ((x : own.Step) → In x xs → IsNumber x.parts) → (st : Step TypeRef) → In st (steps_of xs) → IsNumber st.parts
unfolding steps_of
parts_all xs h st i =
    let r = In-unmap step_of st xs i in
    subst (λ (v : Step TypeRef). IsNumber v.parts) r.2 (h r.0 r.1)

-- one more step with parts that can be said
pub parts_turn : (xs : List own.Step) (i : ℕ) (y : own.Step) → i < length xs → y ≡ get_or xs i y → IsNumber y.parts → ((x : own.Step) → In x (take i xs) → IsNumber x.parts) →
    (x : own.Step) → In x (take (i + 1) xs) → IsNumber x.parts
parts_turn xs i y lt is few h x j =
    elim (In-cases x (take i xs) (y ∷ []) (subst (λ (l : List own.Step). In x l) (take_at xs i y lt is) j)) [
      | inl k ↦ h x k
      | inr k ↦ elim k [ inl e ↦ subst (λ (v : own.Step). IsNumber v.parts) e few | inr none ↦ absurd none ]
    ]

-- .. and node
pub node_turn : (ts : List TypeRef) (xs : List own.Step) (i : ℕ) (x : own.Step) → i < length xs → x ≡ get_or xs i x → (old new : List CertNode) (n : CertNode) →
    old ≡ map (cert_node ts) (steps_of (take i xs)) → n ≡ cert_node ts (step_of x) → new ≡ old ++ n ∷ [] → new ≡ map (cert_node ts) (steps_of (take (i + 1) xs))
unfolding steps_of
node_turn ts xs i x lt is old new n h m e =
    let f = cert_node ts in
    e ∙ ap₂ (λ (l : List CertNode) (v : CertNode). l ++ v ∷ []) h m ∙ sym (map-append f (map step_of (take i xs)) (step_of x ∷ [])) ∙
    sym (ap (map f) (map-append step_of (take i xs) (x ∷ []))) ∙ sym (ap (λ (l : List own.Step). map f (map step_of l)) (take_at xs i x lt is))

-- the table of the types of four lists, one after the other
pub table_made : (ps bs : List Pair) (us : List TypeRef) (sts : List (Step TypeRef)) (a b d e f : List TypeRef) →
    a ≡ [] → b ≡ each_once_after a (pair_types ps) → d ≡ each_once_after b (pair_types bs) → e ≡ each_once_after d (step_types sts) → f ≡ each_once_after e us → f ≡ part_table ps bs us sts
unfolding part_types
table_made ps bs us sts a b d e f g h i j k =
    let first : b ≡ each_once_after [] (pair_types ps) = h ∙ ap (λ (l : List TypeRef). each_once_after l (pair_types ps)) g in
    k ∙ ap (λ (l : List TypeRef). each_once_after l us) (j ∙ ap (λ (l : List TypeRef). each_once_after l (step_types sts)) (i ∙ ap (λ (l : List TypeRef). each_once_after l (pair_types bs)) first)) ∙
    sym (after_both [] (pair_types ps) (pair_types bs ++ (step_types sts ++ us)) ∙ after_both (each_once_after [] (pair_types ps)) (pair_types bs) (step_types sts ++ us) ∙
    after_both (each_once_after (each_once_after [] (pair_types ps)) (pair_types bs)) (step_types sts) us)

------------------------------------------------------------
-- What the table of a part has

-- what holds of the types of pairs
of_pairs : (P : TypeRef → Type 0) (ps : List Pair) → ((q : Pair) → In {X = Pair} q ps → P q.0 × P q.1) → (t : TypeRef) → In t (pair_types ps) → P t
of_pairs P [] h t i = absurd i
of_pairs P (q ∷ ps) h t (inl e) = subst P e (h q (inl refl)).0
of_pairs P (q ∷ ps) h t (inr (inl e)) = subst P e (h q (inl refl)).1
of_pairs P (q ∷ ps) h t (inr (inr i)) = of_pairs P ps (λ v j. h v (inr j)) t i

module _ (ps bs : List Pair) (us : List TypeRef) (sts : List (Step TypeRef)) (ts : List TypeRef) (table : IsEachOnce (part_types ps bs us sts) ts) where
  -- the types of its pairs, steps and `val`s
  pub table_lists : (t : TypeRef) → In t (pair_types ps ++ (pair_types bs ++ (step_types sts ++ us))) → In t ts
  unfolding part_types
  table_lists t i = table.all t i

  -- .. and no others: what holds of these holds of all its types
  pub table_stands : (P : TypeRef → Type 0) → ((q : Pair) → In {X = Pair} q ps → P q.0 × P q.1) → ((q : Pair) → In {X = Pair} q bs → P q.0 × P q.1) →
      ((t : TypeRef) → In t (step_types sts) → P t) → ((t : TypeRef) → In t us → P t) → (t : TypeRef) → In t ts → P t
  unfolding part_types
  table_stands P pairs bares steps vals t i =
      elim (In-cases t (pair_types ps) (pair_types bs ++ (step_types sts ++ us)) (table.only t i)) [
        | inl j ↦ of_pairs P ps pairs t j
        | inr j ↦ elim (In-cases t (pair_types bs) (step_types sts ++ us) j) [
          | inl k ↦ of_pairs P bs bares t k
          | inr k ↦ elim (In-cases t (step_types sts) us k) [ inl l ↦ steps t l | inr l ↦ vals t l ]
        ]
      ]
