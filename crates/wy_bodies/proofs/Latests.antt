-- The last variable of each name, as variables come into sight and go out of it.
use Rattle.std.proofs.Common.{◌≡◌, ℕ, suc, List, [], ◌∷◌, ◌++◌, map, length, Bool, true, false, cond, refl, sym, ap, ◌∙◌, Option, Some, None, if◌then◌else◌, append_assoc}
use Rattle.std.specs.Prelude.{Result, Ok, Err, OnOk, OnErr}
use Rattle.wy_bodies.specs.declared.sight.Latest.{Latest}
use Rattle.wy_bodies.specs.declared.sight.Known as code
use Rattle.wy_symbols.specs.Declarations.{same_name}
use Rattle.wy_bodies.specs.InSight.{Known, known_of, numbered, later, latest, held, KeepsHidden}
use Rattle.wy_symbols.proofs.Firsts.{same_exact, same_itself}

-- one variable more
pub latest_more : (ks : List Known) (k : Known) (x : List ℕ) → latest (ks ++ k ∷ []) x ≡ (if same_name k.name x then Some (numbered (length ks) k.variable) else latest ks x)
latest_more [] k x = refl
latest_more (j ∷ ks) k x =
    let P : Bool → Type 0 = λ b. later (if b then Some (numbered (length ks) k.variable) else latest ks x) j x ≡ (if b then Some (numbered (suc (length ks)) k.variable) else later (latest ks x) j x) in
    ap (λ o. later o j x) (latest_more ks k x) ∙ elim (same_name k.name x) as P [ true ↦ refl | false ↦ refl ]

put_held : (b : Bool) (g : Option (Option Latest)) (o v : Option Latest) → held g ≡ o → held (cond b (Some v) g) ≡ (if b then v else o)
put_held true g o v h = refl
put_held false g o v h = h

known_more : (ks : List code.Known) (k : code.Known) → map known_of (ks ++ k ∷ []) ≡ map known_of ks ++ known_of k ∷ []
known_more [] k = refl
known_more (j ∷ ks) k = ap (λ l. known_of j ∷ l) (known_more ks k)

length_known : (ks : List code.Known) → length (map known_of ks) ≡ length ks
length_known [] = refl
length_known (k ∷ ks) = ap (λ n. suc n) (length_known ks)

module _ (ks : List code.Known) (k : code.Known) (g g' : List ℕ → Option (Option Latest)) where
  -- a table with the new one put in
  pub found_more : (n : ℕ) → n ≡ length ks → ((x : List ℕ) → held (g x) ≡ latest (map known_of ks) x) →
      ((x : List ℕ) → g' x ≡ cond (same_name k.name x) (Some (Some (numbered n k.variable))) (g x)) → (x : List ℕ) → held (g' x) ≡ latest (map known_of (ks ++ k ∷ [])) x
  found_more n at h put x =
      ap held (put x)
      ∙ put_held (same_name k.name x) (g x) (latest (map known_of ks) x) (Some (numbered n k.variable)) (h x)
      ∙ ap (λ m. if same_name k.name x then Some (numbered m k.variable) else latest (map known_of ks) x) (at ∙ sym (length_known ks))
      ∙ sym (latest_more (map known_of ks) (known_of k) x)
      ∙ ap (λ l. latest l x) (sym (known_more ks k))

  -- a table with the one put back that was hidden
  found_fewer : k.hides ≡ latest (map known_of ks) k.name → ((x : List ℕ) → held (g x) ≡ latest (map known_of (ks ++ k ∷ [])) x) →
      ((x : List ℕ) → g' x ≡ cond (same_name k.name x) (Some k.hides) (g x)) → (x : List ℕ) → held (g' x) ≡ latest (map known_of ks) x
  found_fewer hid h put x =
      let before : held (g x) ≡ (if same_name k.name x then Some (numbered (length (map known_of ks)) k.variable) else latest (map known_of ks) x) =
      h x ∙ ap (λ l. latest l x) (known_more ks k) ∙ latest_more (map known_of ks) (known_of k) x in
      let P : Bool → Type 0 = λ b. same_name k.name x ≡ b → held (g x) ≡ (if b then Some (numbered (length (map known_of ks)) k.variable) else latest (map known_of ks) x) → held (cond b (Some k.hides) (g x)) ≡ latest (map known_of ks) x in
      ap held (put x) ∙ (elim (same_name k.name x) as P [
        | true ↦ λ e w. hid ∙ ap (latest (map known_of ks)) (sym (same_exact k.name x e))
        | false ↦ λ e w. w
      ]) refl before

  -- the last one's name is in the table
  found_last : ((x : List ℕ) → held (g x) ≡ latest (map known_of (ks ++ k ∷ [])) x) → g k.name ≡ None → ⊥
  found_last h absent =
      let there : held (g k.name) ≡ Some (numbered (length (map known_of ks)) k.variable) =
      h k.name ∙ ap (λ l. latest l k.name) (known_more ks k) ∙ latest_more (map known_of ks) (known_of k) k.name
      ∙ ap (λ b. if b then Some (numbered (length (map known_of ks)) k.variable) else latest (map known_of ks) k.name) (same_itself k.name) in
      let none : held (g k.name) ≡ None = ap held absent in
      cc

append_nil : (l : List Known) → l ++ [] ≡ l
append_nil [] = refl
append_nil (x ∷ xs) = ap (λ l. x ∷ l) (append_nil xs)

-- the one that each keeps
pub hidden_more : (before : List Known) (ks : List code.Known) (k : code.Known) → KeepsHidden before ks → k.hides ≡ latest (before ++ map known_of ks) k.name → KeepsHidden before (ks ++ k ∷ [])
hidden_more before [] k h e = (e ∙ ap (λ l. latest l k.name) (append_nil before), tt)
hidden_more before (j ∷ ks) k h e =
    (h.0, hidden_more (before ++ known_of j ∷ []) ks k h.1 (e ∙ ap (λ l. latest l k.name) (sym (append_assoc before (known_of j ∷ []) (map known_of ks)))))

hidden_fewer : (before : List Known) (ks : List code.Known) (k : code.Known) → KeepsHidden before (ks ++ k ∷ []) → KeepsHidden before ks × (k.hides ≡ latest (before ++ map known_of ks) k.name)
hidden_fewer before [] k h = (tt, h.0 ∙ ap (λ l. latest l k.name) (sym (append_nil before)))
hidden_fewer before (j ∷ ks) k h =
    let r = hidden_fewer (before ++ known_of j ∷ []) ks k h.1 in
    ((h.0, r.0), r.1 ∙ ap (λ l. latest l k.name) (append_assoc before (known_of j ∷ []) (map known_of ks)))

-- a call's outcome by what holds where it is done, and where it is not
either_way : {A B P Q : Type 0} (C : Type 0) (r : Result A B) → OnOk r P → OnErr r Q → (P → C) → (Q → C) → C
either_way C (Ok a) p q f g = f p
either_way C (Err b) p q f g = g q

-- what is kept where the last one has gone
pub popped : {A B P : Type 0} (r : Result A B) (ks : List code.Known) (k : code.Known) (g g' : List ℕ → Option (Option Latest)) →
    ((x : List ℕ) → held (g x) ≡ latest (map known_of (ks ++ k ∷ [])) x) × KeepsHidden [] (ks ++ k ∷ []) → OnErr r (g k.name ≡ None) → OnOk r P →
    (P → (x : List ℕ) → g' x ≡ cond (same_name k.name x) (Some k.hides) (g x)) → ((x : List ℕ) → held (g' x) ≡ latest (map known_of ks) x) × KeepsHidden [] ks
popped r ks k g g' before absent updates put =
    let hid = hidden_fewer [] ks k before.1 in
    either_way (((x : List ℕ) → held (g' x) ≡ latest (map known_of ks) x) × KeepsHidden [] ks) r updates absent
    (λ u. (found_fewer ks k g g' hid.1 before.0 (put u), hid.0))
    (λ a. absurd (found_last ks k g g' before.0 a))
