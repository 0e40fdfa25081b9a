-- Turns of the loops over values and over statements.
use Rattle.std.proofs.Common.{◌≡◌, ℕ, ◌+◌, ◌<◌, ◌≤◌, List, [], ◌∷◌, ◌++◌, map, length, get_or, take, drop, refl, sym, ap, ◌∙◌, append_assoc, arith, Some}
use Rattle.std.specs.Prelude.{slice_get}
use Rattle.std.proofs.lemmas.Option.{slice_get_read}
use Rattle.wy_subtype.proofs.Places.{slice_get-mapped}
use Rattle.std.proofs.lemmas.List.{append-nil, drop_more, drop_all, take_more, take_all, map-append}
use Rattle.wy_effects.specs.EffSet.{IsSet, union}
use Rattle.wy_effects.proofs.Numbers.{union-turn, union-none}
use Rattle.wy_types.specs.declared.types.TypeRef.{TypeRef}
use Rattle.wy_types.specs.declared.code.Value as v
use Rattle.wy_types.specs.declared.code.Stmt as st
use Rattle.wy_types.specs.Vals.{value_count}
use Rattle.wy_types.specs.View.{value_of, values_of}
use Rattle.wy_cert.specs.declared.certificate.Rule.TheVariants as by
use Rattle.wy_proving.specs.Steps.{Step, step}
use Rattle.wy_certify.specs.Written.{Context, at_steps, own_effect, all_steps, all_effect, stmt_steps, stmt_effect, stmt_mark, front_steps, joined_effect, back_steps}
use Rattle.wy_certify.proofs.Parts.{none_steps, none_effect, untyped_steps, untyped_effect, more_steps, more_effect}

-- the list from a number on begins with what is read there
drop_at : {X : Type 0} (xs : List X) (i : ℕ) (x : X) → i < length xs → x ≡ get_or xs i x → drop i xs ≡ x ∷ drop (i + 1) xs
drop_at xs i x lt is = drop_more xs i x lt ∙ ap (λ y. y ∷ drop (i + 1) xs) (sym is)

take_at : {X : Type 0} (xs : List X) (i : ℕ) (x : X) → i < length xs → x ≡ get_or xs i x → take (i + 1) xs ≡ take i xs ++ x ∷ []
take_at xs i x lt is = take_more xs i x lt ∙ ap (λ y. take i xs ++ y ∷ []) (sym is)

-- there are as many values as the list has
pub counted : (xs : List v.Value) → value_count (values_of xs) ≡ length xs
counted [] = refl
counted (x ∷ xs) = omega (arith, counted xs)

module _ (c : Context) where
  ------------------------------------------------------------
  -- Values

  module _ (xs : List v.Value) (ts : List TypeRef) (i : ℕ) where
    steps_on : (x : v.Value) (t : TypeRef) → i < length xs → x ≡ get_or xs i x → i < length ts → t ≡ get_or ts i t →
        all_steps c (values_of (drop i xs)) (drop i ts) ≡ at_steps c (value_of x) t ++ all_steps c (values_of (drop (i + 1) xs)) (drop (i + 1) ts)
    steps_on x t lx ix lt it =
        ap (λ (l : List v.Value). all_steps c (values_of l) (drop i ts)) (drop_at xs i x lx ix) ∙ ap (all_steps c (values_of (x ∷ drop (i + 1) xs))) (drop_at ts i t lt it) ∙
        more_steps c (value_of x) (values_of (drop (i + 1) xs)) t (drop (i + 1) ts)

    effect_on : (x : v.Value) (t : TypeRef) → i < length xs → x ≡ get_or xs i x → i < length ts → t ≡ get_or ts i t →
        all_effect c (values_of (drop i xs)) (drop i ts) ≡ union (own_effect c (value_of x) t) (all_effect c (values_of (drop (i + 1) xs)) (drop (i + 1) ts))
    effect_on x t lx ix lt it =
        ap (λ (l : List v.Value). all_effect c (values_of l) (drop i ts)) (drop_at xs i x lx ix) ∙ ap (all_effect c (values_of (x ∷ drop (i + 1) xs))) (drop_at ts i t lt it) ∙
        more_effect c (value_of x) (values_of (drop (i + 1) xs)) t (drop (i + 1) ts)

    -- one more value
    pub steps_turn : (x : v.Value) (t : TypeRef) → i < length xs → x ≡ get_or xs i x → i < length ts → t ≡ get_or ts i t → (old mid new : List (Step TypeRef)) →
        mid ++ all_steps c (values_of (drop i xs)) (drop i ts) ≡ old → new ≡ mid ++ at_steps c (value_of x) t → new ++ all_steps c (values_of (drop (i + 1) xs)) (drop (i + 1) ts) ≡ old
    steps_turn x t lx ix lt it old mid new h n =
        let rest = all_steps c (values_of (drop (i + 1) xs)) (drop (i + 1) ts) in
        ap (λ (l : List (Step TypeRef)). l ++ rest) n ∙ append_assoc mid (at_steps c (value_of x) t) rest ∙ ap (λ (l : List (Step TypeRef)). mid ++ l) (sym (steps_on x t lx ix lt it)) ∙ h

    pub effect_turn : (x : v.Value) (t : TypeRef) → i < length xs → x ≡ get_or xs i x → i < length ts → t ≡ get_or ts i t → (e sofar next whole : List ℕ) →
        union sofar (all_effect c (values_of (drop i xs)) (drop i ts)) ≡ whole → e ≡ own_effect c (value_of x) t → next ≡ union e sofar →
        union next (all_effect c (values_of (drop (i + 1) xs)) (drop (i + 1) ts)) ≡ whole
    effect_turn x t lx ix lt it e sofar next whole h is n =
        let rest = all_effect c (values_of (drop (i + 1) xs)) (drop (i + 1) ts) in
        ap (λ (l : List ℕ). union l rest) n ∙ union-turn e sofar rest ∙ ap (λ (l : List ℕ). union sofar (union l rest)) is ∙ ap (union sofar) (sym (effect_on x t lx ix lt it)) ∙ h

    -- no value is left
    pub steps_end : length xs ≤ i → (old mid : List (Step TypeRef)) → mid ++ all_steps c (values_of (drop i xs)) (drop i ts) ≡ old → mid ≡ old
    steps_end short old mid h =
        let e = ap (λ (l : List v.Value). all_steps c (values_of l) (drop i ts)) (drop_all i xs short) ∙ none_steps c (drop i ts) in
        sym (append-nil mid) ∙ ap (λ (l : List (Step TypeRef)). mid ++ l) (sym e) ∙ h

    pub effect_end : length xs ≤ i → (n : ℕ) (sofar whole : List ℕ) → IsSet n sofar → union sofar (all_effect c (values_of (drop i xs)) (drop i ts)) ≡ whole → sofar ≡ whole
    effect_end short n sofar whole set h =
        let e = ap (λ (l : List v.Value). all_effect c (values_of l) (drop i ts)) (drop_all i xs short) ∙ none_effect c (drop i ts) in
        sym (union-none 0 n sofar set) ∙ ap (union sofar) (sym e) ∙ h

    -- no type is left
    steps_past : (l : List v.Value) → all_steps c (values_of l) [] ≡ []
    steps_past [] = none_steps c []
    steps_past (x ∷ l) = untyped_steps c (value_of x) (values_of l)

    effect_past : (l : List v.Value) → all_effect c (values_of l) [] ≡ []
    effect_past [] = none_effect c []
    effect_past (x ∷ l) = untyped_effect c (value_of x) (values_of l)

    pub steps_untyped : length ts ≤ i → (old mid : List (Step TypeRef)) → mid ++ all_steps c (values_of (drop i xs)) (drop i ts) ≡ old → mid ≡ old
    steps_untyped short old mid h =
        let e = ap (all_steps c (values_of (drop i xs))) (drop_all i ts short) ∙ steps_past (drop i xs) in
        sym (append-nil mid) ∙ ap (λ (l : List (Step TypeRef)). mid ++ l) (sym e) ∙ h

    pub effect_untyped : length ts ≤ i → (n : ℕ) (sofar whole : List ℕ) → IsSet n sofar → union sofar (all_effect c (values_of (drop i xs)) (drop i ts)) ≡ whole → sofar ≡ whole
    effect_untyped short n sofar whole set h =
        let e = ap (all_effect c (values_of (drop i xs))) (drop_all i ts short) ∙ effect_past (drop i xs) in
        sym (union-none 0 n sofar set) ∙ ap (union sofar) (sym e) ∙ h

  ------------------------------------------------------------
  -- Statements

  front_more : (xs : List st.Stmt) (x : st.Stmt) → front_steps c (xs ++ x ∷ []) ≡ front_steps c xs ++ stmt_steps c x
  unfolding front_steps
  front_more [] x = append-nil (stmt_steps c x)
  front_more (z ∷ xs) x = ap (λ (l : List (Step TypeRef)). stmt_steps c z ++ l) (front_more xs x) ∙ sym (append_assoc (stmt_steps c z) (front_steps c xs) (stmt_steps c x))

  pub front_start : front_steps c [] ≡ []
  unfolding front_steps
  front_start = refl

  module _ (xs : List st.Stmt) (i : ℕ) where
    pub front_turn : (x : st.Stmt) → i < length xs → x ≡ get_or xs i x → (old mid new : List (Step TypeRef)) → mid ≡ old ++ front_steps c (take i xs) → new ≡ mid ++ stmt_steps c x →
        new ≡ old ++ front_steps c (take (i + 1) xs)
    front_turn x lt is old mid new h n =
        n ∙ ap (λ (l : List (Step TypeRef)). l ++ stmt_steps c x) h ∙ append_assoc old (front_steps c (take i xs)) (stmt_steps c x) ∙
        ap (λ (l : List (Step TypeRef)). old ++ l) (sym (ap (front_steps c) (take_at xs i x lt is) ∙ front_more (take i xs) x))

    pub effects_turn : (x : st.Stmt) → i < length xs → x ≡ get_or xs i x → (es fs : List (List ℕ)) (e : List ℕ) → es ≡ map (stmt_effect c) (take i xs) → e ≡ stmt_effect c x → fs ≡ es ++ e ∷ [] →
        fs ≡ map (stmt_effect c) (take (i + 1) xs)
    effects_turn x lt is es fs e h is' n =
        n ∙ ap (λ (l : List (List ℕ)). l ++ e ∷ []) h ∙ ap (λ (f : List ℕ). map (stmt_effect c) (take i xs) ++ f ∷ []) is' ∙
        sym (ap (map (stmt_effect c)) (take_at xs i x lt is) ∙ map-append (stmt_effect c) (take i xs) (x ∷ []))

    pub effects_end : length xs ≤ i → (es : List (List ℕ)) → es ≡ map (stmt_effect c) (take i xs) → es ≡ map (stmt_effect c) xs
    effects_end short es h = h ∙ ap (map (stmt_effect c)) (take_all i xs short)

    -- from the last one back: there is none yet
    pub back_start : length xs ≤ i → (t : TypeRef) (f : List ℕ) (old : List (Step TypeRef)) → old ≡ old ++ back_steps c (drop i xs) t f
    unfolding back_steps
    back_start short t f old = sym (ap (λ (l : List st.Stmt). old ++ back_steps c l t f) (drop_all i xs short) ∙ append-nil old)

    pub joined_start : length xs ≤ i → (f : List ℕ) → f ≡ joined_effect c (drop i xs) f
    unfolding joined_effect
    joined_start short f = sym (ap (λ (l : List st.Stmt). joined_effect c l f) (drop_all i xs short))

    -- .. one more
    pub joined_turn : (x : st.Stmt) → i < length xs → x ≡ get_or xs i x → (f g h : List ℕ) → g ≡ joined_effect c (drop (i + 1) xs) f → h ≡ union (stmt_effect c x) g → h ≡ joined_effect c (drop i xs) f
    unfolding joined_effect
    joined_turn x lt is f g h e n =
        n ∙ ap (union (stmt_effect c x)) e ∙ sym (ap (λ (l : List st.Stmt). joined_effect c l f) (drop_at xs i x lt is))

    pub back_turn : (x : st.Stmt) → i < length xs → x ≡ get_or xs i x → (t : TypeRef) (f g : List ℕ) (old mid new : List (Step TypeRef)) → mid ≡ old ++ back_steps c (drop (i + 1) xs) t f →
        g ≡ joined_effect c (drop i xs) f → new ≡ mid ++ step by.Seq (stmt_mark x) 2 (Some t) g ∷ [] → new ≡ old ++ back_steps c (drop i xs) t f
    unfolding back_steps
    back_turn x lt is t f g old mid new h e n =
        let rest = back_steps c (drop (i + 1) xs) t f in
        let own : List ℕ → List (Step TypeRef) = λ (k : List ℕ). step by.Seq (stmt_mark x) 2 (Some t) k ∷ [] in
        let here = drop_at xs i x lt is in
        n ∙ ap (λ (l : List (Step TypeRef)). l ++ own g) h ∙ append_assoc old rest (own g) ∙ ap (λ (k : List ℕ). old ++ (rest ++ own k)) (e ∙ ap (λ (l : List st.Stmt). joined_effect c l f) here) ∙
        sym (ap (λ (l : List st.Stmt). old ++ back_steps c l t f) here)

    -- the effect of the statement of a number
    pub effect_at : (x : st.Stmt) (es : List (List ℕ)) (e : List ℕ) → i < length xs → x ≡ get_or xs i x → es ≡ map (stmt_effect c) xs → slice_get es i ≡ Some e → e ≡ stmt_effect c x
    effect_at x es e lt is all at =
        let there : slice_get xs i ≡ Some x = slice_get_read xs (length xs) i x refl lt is in
        let mapped : slice_get (map (stmt_effect c) xs) i ≡ Some (stmt_effect c x) = slice_get-mapped (stmt_effect c) xs i x there in
        let same : slice_get es i ≡ slice_get (map (stmt_effect c) xs) i = ap (λ (l : List (List ℕ)). slice_get l i) all in
        let both : Some e ≡ Some (stmt_effect c x) = sym at ∙ same ∙ mapped in
        cc
