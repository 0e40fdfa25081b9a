-- Leading by words is leading by numbers.
use Rattle.std.proofs.Common.{◌≡◌, ◌<◌, ℕ, zero, suc, ◌+◌, List, [], ◌∷◌, ◌++◌, length, map, take, get_or, Bor, Option, Some, None, refl, sym, ap, ◌∙◌, subst, inl, inr, slice_get, append_assoc}
use Rattle.std.specs.Prelude.{option_to_list, slice_index_or}
use Rattle.std.proofs.lemmas.List.{append-nil, map-append}
use Rattle.wy_syntax.specs.declared.types.Name.{Name}
use Rattle.wy_text.specs.Members.{In}
use Rattle.wy_text.proofs.Lists.{In-left, In-right, In-cases}
use Rattle.wy_symbols.specs.Declarations.{ModuleTree, module_number}
use Rattle.wy_heads.specs.Cycles.{named_modules, LeadsTo, LeadsBy}
use Rattle.wy_heads.specs.Leading.{numbers_of, edges_of, next_from, Goes}
use Rattle.wy_symbols.specs.Lent.{lent_name}
use Rattle.wy_symbols.proofs.Turns.{taken}

one_in : (o : Option ℕ) (j : ℕ) → In j (option_to_list o) → o ≡ Some j
one_in None j i = absurd i
one_in (Some x) j (inl e) = ap (λ (v : ℕ). Some v) e
one_in (Some x) j (inr z) = absurd z

in_one : (o : Option ℕ) (j : ℕ) → o ≡ Some j → In j (option_to_list o)
in_one None j e = cc
in_one (Some x) j e = let f : x ≡ j = cc in inl f

module _ (modules : List ModuleTree) where
  number_word : (ws : List Name) (j : ℕ) → In j (numbers_of modules ws) → (w : Name) × In w ws × (module_number modules w.text ≡ Some j)
  number_word [] j i = absurd i
  number_word (w ∷ ws) j i =
      elim (In-cases j (option_to_list (module_number modules w.text)) (numbers_of modules ws) i) [
        | inl h ↦ (w, inl refl, one_in (module_number modules w.text) j h)
        | inr h ↦ (let r = number_word ws j h in (r.0, inr r.1, r.2))
      ]

  word_number : (ws : List Name) (w : Name) (j : ℕ) → In w ws → module_number modules w.text ≡ Some j → In j (numbers_of modules ws)
  word_number [] w j i e = absurd i
  word_number (v ∷ ws) w j (inl s) e =
      In-left j (option_to_list (module_number modules v.text)) (numbers_of modules ws)
      (in_one (module_number modules v.text) j (ap (λ (x : Name). module_number modules x.text) s ∙ e))
  word_number (v ∷ ws) w j (inr h) e =
      In-right j (option_to_list (module_number modules v.text)) (numbers_of modules ws) (word_number ws w j h e)

  -- one word more
  numbers_more : (ws : List Name) (w : Name) → numbers_of modules (ws ++ w ∷ []) ≡ numbers_of modules ws ++ option_to_list (module_number modules w.text)
  numbers_more [] w = append-nil (option_to_list (module_number modules w.text))
  numbers_more (v ∷ ws) w =
      ap (λ l. option_to_list (module_number modules v.text) ++ l) (numbers_more ws w)
      ∙ sym (append_assoc (option_to_list (module_number modules v.text)) (numbers_of modules ws) (option_to_list (module_number modules w.text)))

  pub numbers_taken : (ns : List (Bor Name)) (i : ℕ) (n : Bor Name) → i < length ns → n ≡ get_or ns i n →
      numbers_of modules (map lent_name (take (i + 1) ns)) ≡ numbers_of modules (map lent_name (take i ns)) ++ option_to_list (module_number modules n.now.text)
  numbers_taken ns i n lt at =
      ap (λ l. numbers_of modules (map lent_name l)) (sym (taken ns i n lt at))
      ∙ ap (numbers_of modules) (map-append lent_name (take i ns) (n ∷ []))
      ∙ numbers_more (map lent_name (take i ns)) n.now

  edge : ModuleTree → List ℕ
  edge m = numbers_of modules (named_modules m)

  from_edge : (ms : List ModuleTree) (k j : ℕ) → In j (slice_index_or (map edge ms) k []) → (m : ModuleTree) × (slice_get ms k ≡ Some m) × In j (edge m)
  from_edge [] k j i = absurd i
  from_edge (m ∷ ms) zero j i = (m, refl, i)
  from_edge (m ∷ ms) (suc k) j i = from_edge ms k j i

  to_edge : (ms : List ModuleTree) (k j : ℕ) (m : ModuleTree) → slice_get ms k ≡ Some m → In j (edge m) → In j (slice_index_or (map edge ms) k [])
  to_edge [] k j m e i = cc
  to_edge (n ∷ ms) zero j m e i = (let f : n ≡ m = cc in let P : ModuleTree → Type 0 = λ x. In j (edge x) in subst P (sym f) i)
  to_edge (n ∷ ms) (suc k) j m e i = to_edge ms k j m e i

  -- a module leads to another exactly where its number does
  pub leads_number : (k j : ℕ) → LeadsTo modules k j → In j (next_from (edges_of modules) k)
  unfolding edge
  leads_number k j (w, n) = to_edge modules k j n.from n.there (word_number (named_modules n.from) w j n.written n.number)

  pub number_leads : (k j : ℕ) → In j (next_from (edges_of modules) k) → LeadsTo modules k j
  unfolding edge
  number_leads k j i =
      let r = from_edge modules k j i in
      let q = number_word (named_modules r.0) j r.2 in
      (q.0, record { from = r.0; there = r.1; written = q.1; number = q.2 })

  -- and so do paths
  pub path_goes : (k : ℕ) (path : List ℕ) (j : ℕ) → LeadsBy modules k path j → Goes (edges_of modules) k path j
  path_goes k [] j e = e
  path_goes k (i ∷ path) j h = (leads_number k i h.0, path_goes i path j h.1)

  pub goes_path : (k : ℕ) (path : List ℕ) (j : ℕ) → Goes (edges_of modules) k path j → LeadsBy modules k path j
  goes_path k [] j e = e
  goes_path k (i ∷ path) j h = (number_leads k i h.0, goes_path i path j h.1)
