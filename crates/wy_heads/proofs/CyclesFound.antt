-- The refusals by what is reached are those of cycles.
use Rattle.std.proofs.Common.{◌≡◌, ◌<◌, ℕ, zero, suc, ◌+◌, List, [], ◌∷◌, ◌++◌, length, map, get_or, Option, Some, None, Bool, true, false, refl, sym, ap, ◌∙◌, subst, inl, inr, ◌⊎◌, slice_get, arith, if◌then◌else◌}
use Rattle.std.specs.Prelude.{◌↔◌, slice_index_or, option_to_list, IfSome, IsTrue}
use Rattle.std.proofs.Math.Seq.{get_or-append_seam}
use Rattle.std.proofs.lemmas.Bool.{cases_lt}
use Rattle.std.proofs.lemmas.List.{length-map, get_or_append_left}
use Rattle.wy_syntax.specs.declared.types.Name.{Name}
use Rattle.wy_text.specs.Members.{In}
use Rattle.wy_text.proofs.Lists.{In-left, In-right, In-cases}
use Rattle.wy_symbols.specs.declared.refusal.Cause.TheVariants.{Cycle}
use Rattle.wy_symbols.specs.declared.refusal.Refusal.{Refusal}
use Rattle.wy_symbols.specs.Least.{refusal_at}
use Rattle.wy_symbols.specs.Declarations.{ModuleTree, module_number, module_names, texts}
use Rattle.wy_heads.specs.Cycles.{named_modules, LeadsBy, IsCycle}
use Rattle.wy_heads.specs.Leading.{numbers_of, edges_of, Reached, LeadsInside}
use Rattle.wy_heads.specs.CycleRefusals.{AreReached, word_refusals, words_refusals, cycle_refusals}
use Rattle.wy_heads.proofs.Cycling.{path_goes, goes_path}
use Rattle.wy_symbols.proofs.Firsts.{number_below}

module_below : (modules : List ModuleTree) (x : List ℕ) (j : ℕ) → module_number modules x ≡ Some j → j < length modules
module_below modules x j h =
    let P : Option ℕ → Type 0 = λ o. IfSome o (λ r. r < length (texts (module_names modules))) in
    let lt : j < length (texts (module_names modules)) = subst P h (number_below (texts (module_names modules)) x) in
    let one = length-map modules (λ (m : ModuleTree). m.name) in
    let two = length-map (module_names modules) (λ (n : Name). n.text) in
    omega (arith, lt, one, two)

module _ (reached : List (List Bool)) (modules : List ModuleTree) (are : AreReached (edges_of modules) reached) where
  fits : (j : ℕ) → j < length modules → j < length (edges_of modules)
  fits j lt = (let l = length-map modules (λ (m : ModuleTree). numbers_of modules (named_modules m)) in omega (arith, lt, l))

  word_sound : (k : ℕ) (w : Name) (r : Refusal) (o : Option ℕ) → module_number modules w.text ≡ o → In r (word_refusals reached k w o) →
      (j : ℕ) × (module_number modules w.text ≡ Some j) × (path : List ℕ) × LeadsBy modules j path k × (r ≡ refusal_at w.place Cycle)
  word_sound k w r None e i = absurd i
  word_sound k w r (Some j) e i =
      let P : Bool → Type 0 = λ b. slice_index_or (slice_index_or reached j []) k false ≡ b → In r (if b then refusal_at w.place Cycle ∷ [] else []) →
      (j : ℕ) × (module_number modules w.text ≡ Some j) × (path : List ℕ) × LeadsBy modules j path k × (r ≡ refusal_at w.place Cycle) in
      (elim (slice_index_or (slice_index_or reached j []) k false) as P [
        | true ↦ λ h g. (
            let go = (are j k (fits j (module_below modules w.text j e))).0 h in
            (j, e, go.0, goes_path modules j go.0 k go.1, elim g [ inl s ↦ sym s | inr z ↦ absurd z ])
            )
        | false ↦ λ h g. absurd g
      ]) refl i

  words_sound : (k : ℕ) (ws : List Name) (r : Refusal) → In r (words_refusals reached modules k ws) →
      (w : Name) × In w ws × ((j : ℕ) × (module_number modules w.text ≡ Some j) × (path : List ℕ) × LeadsBy modules j path k × (r ≡ refusal_at w.place Cycle))
  words_sound k [] r i = absurd i
  words_sound k (w ∷ ws) r i =
      elim (In-cases r (word_refusals reached k w (module_number modules w.text)) (words_refusals reached modules k ws) i) [
        | inl h ↦ (w, inl refl, word_sound k w r (module_number modules w.text) refl h)
        | inr h ↦ (let q = words_sound k ws r h in (q.0, inr q.1, q.2))
      ]

  pub found_sound : (k : ℕ) (ms : List ModuleTree) → ((i : ℕ) → slice_get ms i ≡ slice_get modules (k + i)) → (r : Refusal) → In r (cycle_refusals reached modules k ms) → IsCycle modules r
  found_sound k [] at r i = absurd i
  found_sound k (m ∷ ms) at r i =
      elim (In-cases r (words_refusals reached modules k (named_modules m)) (cycle_refusals reached modules (k + 1) ms) i) [
        | inl h ↦ (
            let q = words_sound k (named_modules m) r h in
            let here : k + 0 ≡ k = omega arith in
            let there : slice_get modules k ≡ Some m = ap (λ (n : ℕ). slice_get modules n) (sym here) ∙ sym (at 0) in
            record {
              back = k;
              word = q.0;
              next = q.2.0;
              names = record { from = m; there = there; written = q.1; number = q.2.1 };
              path = q.2.2;
              leads = q.2.3;
              at = q.2.4;
            }
            )
        | inr h ↦ found_sound (k + 1) ms (λ n. (let next : k + suc n ≡ (k + 1) + n = omega arith in at (suc n) ∙ ap (λ (l : ℕ). slice_get modules l) next)) r h
      ]

  word_complete : (k j : ℕ) (w : Name) (path : List ℕ) → module_number modules w.text ≡ Some j → LeadsBy modules j path k → In (refusal_at w.place Cycle) (word_refusals reached k w (module_number modules w.text))
  word_complete k j w path e l =
      let there = (are j k (fits j (module_below modules w.text j e))).1 (path, path_goes modules j path k l) in
      let P : List Refusal → Type 0 = λ rs. In (refusal_at w.place Cycle) rs in
      subst P (sym (ap (word_refusals reached k w) e ∙ ap (λ b. if b then refusal_at w.place Cycle ∷ [] else []) there)) (inl refl)

  words_complete : (k j : ℕ) (ws : List Name) (w : Name) (path : List ℕ) → In w ws → module_number modules w.text ≡ Some j → LeadsBy modules j path k → In (refusal_at w.place Cycle) (words_refusals reached modules k ws)
  words_complete k j [] w path i e l = absurd i
  words_complete k j (v ∷ ws) w path (inl s) e l =
      let P : Name → Type 0 = λ x. In (refusal_at w.place Cycle) (word_refusals reached k x (module_number modules x.text)) in
      In-left (refusal_at w.place Cycle) (word_refusals reached k v (module_number modules v.text)) (words_refusals reached modules k ws) (subst P (sym s) (word_complete k j w path e l))
  words_complete k j (v ∷ ws) w path (inr i) e l =
      In-right (refusal_at w.place Cycle) (word_refusals reached k v (module_number modules v.text)) (words_refusals reached modules k ws) (words_complete k j ws w path i e l)

  modules_complete : (k b j : ℕ) (ms : List ModuleTree) (m : ModuleTree) (w : Name) (path : List ℕ) → slice_get ms b ≡ Some m → In w (named_modules m) → module_number modules w.text ≡ Some j → LeadsBy modules j path (k + b) →
      In (refusal_at w.place Cycle) (cycle_refusals reached modules k ms)
  modules_complete k b j [] m w path at i e l = cc
  modules_complete k zero j (n ∷ ms) m w path at i e l =
      let s : n ≡ m = cc in
      let here : k + 0 ≡ k = omega arith in
      let P : ModuleTree → Type 0 = λ x. In w (named_modules x) in
      let Q : ℕ → Type 0 = λ x. LeadsBy modules j path x in
      In-left (refusal_at w.place Cycle) (words_refusals reached modules k (named_modules n)) (cycle_refusals reached modules (k + 1) ms)
      (words_complete k j (named_modules n) w path (subst P (sym s) i) e (subst Q here l))
  modules_complete k (suc b) j (n ∷ ms) m w path at i e l =
      let next : k + suc b ≡ (k + 1) + b = omega arith in
      let Q : ℕ → Type 0 = λ x. LeadsBy modules j path x in
      In-right (refusal_at w.place Cycle) (words_refusals reached modules k (named_modules n)) (cycle_refusals reached modules (k + 1) ms)
      (modules_complete (k + 1) b j ms m w path at i e (subst Q next l))

  pub found_complete : (r : Refusal) → IsCycle modules r → In r (cycle_refusals reached modules 0 modules)
  found_complete r c =
      let here : 0 + c.back ≡ c.back = omega arith in
      let Q : ℕ → Type 0 = λ x. LeadsBy modules c.next c.path x in
      let P : Refusal → Type 0 = λ x. In x (cycle_refusals reached modules 0 modules) in
      subst P (sym c.at) (modules_complete 0 c.back c.next modules c.names.from c.word c.path c.names.there c.names.written c.names.number (subst Q (sym here) c.leads))

-- modules lead to modules
inside_numbers : (modules : List ModuleTree) (ws : List Name) (j : ℕ) → In j (numbers_of modules ws) → j < length modules
inside_numbers modules [] j i = absurd i
inside_numbers modules (w ∷ ws) j i =
    let P : Option ℕ → Type 0 = λ o. module_number modules w.text ≡ o → In j (option_to_list o ++ numbers_of modules ws) → j < length modules in
    (elim (module_number modules w.text) as P [
      | None ↦ λ e g. inside_numbers modules ws j g
      | Some k ↦ λ e g. elim g [
        | inl s ↦ (let lt = module_below modules w.text k e in omega (arith, lt, s))
        | inr h ↦ inside_numbers modules ws j h
      ]
    ]) refl i

inside_edges : (modules ms : List ModuleTree) (k j : ℕ) → In j (slice_index_or (map (λ (m : ModuleTree). numbers_of modules (named_modules m)) ms) k []) → j < length modules
inside_edges modules [] k j i = absurd i
inside_edges modules (m ∷ ms) zero j i = inside_numbers modules (named_modules m) j i
inside_edges modules (m ∷ ms) (suc k) j i = inside_edges modules ms k j i

pub leads_inside : (modules : List ModuleTree) → LeadsInside (edges_of modules)
leads_inside modules k j i =
    let lt = inside_edges modules modules k j i in
    let l = length-map modules (λ (m : ModuleTree). numbers_of modules (named_modules m)) in
    omega (arith, lt, l)

below_or : (j n : ℕ) → j < n + 1 → (j < n) ⊎ (j ≡ n)
below_or j n lt = elim (cases_lt j n) [ inl h ↦ inl h | inr h ↦ inr (omega (arith, h, lt)) ]

-- one module more whose reached ones are known
pub reached_more : (edges : List (List ℕ)) (xs ys : List (List Bool)) (y : List Bool) (n : ℕ) → length xs ≡ n → ys ≡ xs ++ y ∷ [] →
    ((j k : ℕ) → j < n → IsTrue (get_or (get_or xs j []) k false) ↔ Reached edges j k) → ((k : ℕ) → IsTrue (get_or y k false) ↔ Reached edges n k) →
    (j k : ℕ) → j < n + 1 → IsTrue (get_or (get_or ys j []) k false) ↔ Reached edges j k
reached_more edges xs ys y n len is before last j k lt =
    let P : List (List Bool) → Type 0 = λ l. IsTrue (get_or (get_or l j []) k false) ↔ Reached edges j k in
    let Q : List Bool → Type 0 = λ l. IsTrue (get_or l k false) ↔ Reached edges j k in
    let R : ℕ → Type 0 = λ i. IsTrue (get_or (get_or (xs ++ y ∷ []) i []) k false) ↔ Reached edges i k in
    let S : List Bool → Type 0 = λ l. IsTrue (get_or l k false) ↔ Reached edges (length xs) k in
    let T : ℕ → Type 0 = λ i. IsTrue (get_or y k false) ↔ Reached edges i k in
    subst P (sym is) (elim (below_or j n lt) [
      | inl h ↦ (let there : j < length xs = omega (arith, h, len) in subst Q (sym (get_or_append_left xs (y ∷ []) [] j there)) (before j k h))
      | inr h ↦ subst R (len ∙ sym h) (subst S (sym (get_or-append_seam xs y [] [])) (subst T (sym len) (last k)))
    ])
