-- One turn of a loop that goes on with what is left of a list.
use Rattle.std.proofs.Common.{◌≡◌, ℕ, ◌+◌, ◌<◌, ◌≤◌, List, [], ◌∷◌, ◌++◌, length, drop, get_or, sym, ap, subst, ◌∙◌, append_assoc, Option}
use Rattle.std.proofs.lemmas.List.{append-nil, drop_all}
use Rattle.wy_symbols.specs.declared.refusal.Refusal.{Refusal}
use Rattle.wy_symbols.specs.Least.{noted}
use Rattle.wy_syntax.specs.Collected.{Collected, Adds}
use Rattle.wy_symbols.proofs.Leasts.{noted_turn}
use Rattle.wy_symbols.proofs.Turns.{next_of}

-- one element's part is added to a list
pub added_turn : {Y : Type 0} (old new one rest left whole : List Y) → new ≡ old ++ one → left ≡ one ++ rest → old ++ left ≡ whole → new ++ rest ≡ whole
added_turn old new one rest left whole is at h = ap (λ l. l ++ rest) is ∙ append_assoc old one rest ∙ ap (λ l. old ++ l) (sym at) ∙ h

-- nothing is added
pub kept_turn : {Y : Type 0} (old new rest left whole : List Y) → new ≡ old → left ≡ rest → old ++ left ≡ whole → new ++ rest ≡ whole
kept_turn old new rest left whole is at h = ap (λ l. l ++ rest) is ∙ ap (λ l. old ++ l) (sym at) ∙ h

-- what is collected first, and then the rest
pub added_then : {Y : Type 0} (one rest : List Y) (old new end : Collected Y) → Adds one old new → Adds rest new end → Adds (one ++ rest) old end
added_then one rest old new end a b = record {
  enough = λ w. a.enough (b.enough w);
  added = λ w. b.added w ∙ ap (λ l. l ++ rest) (a.added (b.enough w)) ∙ append_assoc old.list one rest;
}

pub collected_turn : {Y : Type 0} (old new start : Collected Y) (one rest left whole : List Y) → Adds one old new → left ≡ one ++ rest →
    ((end : Collected Y) → Adds left old end → Adds whole start end) → (end : Collected Y) → Adds rest new end → Adds whole start end
collected_turn {Y} old new start one rest left whole a at h = λ end b.
    let P : List Y → Type 0 = λ l. Adds l old end in
    h end (subst P (sym at) (added_then one rest old new end a b))

pub collected_kept : {Y : Type 0} (old new start : Collected Y) (rest left whole : List Y) → new ≡ old → left ≡ rest →
    ((end : Collected Y) → Adds left old end → Adds whole start end) → (end : Collected Y) → Adds rest new end → Adds whole start end
collected_kept {Y} old new start rest left whole is at h = λ end b.
    let P : List Y → Type 0 = λ l. Adds l old end in
    let Q : Collected Y → Type 0 = λ n. Adds rest n end in
    h end (subst P (sym at) (subst Q is b))

module _ {X : Type 0} (xs : List X) (i : ℕ) (x : X) (lt : i < length xs) (at : x ≡ get_or xs i x) where
  -- the same, where `f` gives the parts of what is left
  pub added_next : {Y : Type 0} (f : List X → List Y) (old new one whole : List Y) →
      new ≡ old ++ one → f (x ∷ drop (i + 1) xs) ≡ one ++ f (drop (i + 1) xs) → old ++ f (drop i xs) ≡ whole → new ++ f (drop (i + 1) xs) ≡ whole
  added_next f old new one whole is more h = added_turn old new one (f (drop (i + 1) xs)) (f (drop i xs)) whole is (ap f (next_of xs i x lt at) ∙ more) h

  -- one element's refusals are noted
  pub noted_next : (f : List X → List Refusal) (old new start : Option Refusal) (one : List Refusal) →
      new ≡ noted old one → f (x ∷ drop (i + 1) xs) ≡ one ++ f (drop (i + 1) xs) → noted old (f (drop i xs)) ≡ noted start (f xs) → noted new (f (drop (i + 1) xs)) ≡ noted start (f xs)
  noted_next f old new start one is more h =
      noted_turn old new start one (f (drop (i + 1) xs)) (f (drop i xs)) (f xs) is (ap f (next_of xs i x lt at) ∙ more) h

  -- one element's part is collected: what follows from here follows from the start
  pub collected_next : {Y : Type 0} (f : List X → List Y) (old new start : Collected Y) (one : List Y) →
      Adds one old new → f (x ∷ drop (i + 1) xs) ≡ one ++ f (drop (i + 1) xs) →
      ((end : Collected Y) → Adds (f (drop i xs)) old end → Adds (f xs) start end) → (end : Collected Y) → Adds (f (drop (i + 1) xs)) new end → Adds (f xs) start end
  collected_next f old new start one a more h = collected_turn old new start one (f (drop (i + 1) xs)) (f (drop i xs)) (f xs) a (ap f (next_of xs i x lt at) ∙ more) h

-- nothing is left: all is collected
pub collected_end : {X Y : Type 0} (f : List X → List Y) (xs : List X) (i : ℕ) (old start : Collected Y) → length xs ≤ i → f [] ≡ [] →
    ((end : Collected Y) → Adds (f (drop i xs)) old end → Adds (f xs) start end) → Adds (f xs) start old
collected_end {X} {Y} f xs i old start le none h =
    let P : List Y → Type 0 = λ l. Adds l old old in
    h old (subst P (sym (ap f (drop_all i xs le) ∙ none)) (record { enough = λ w. w; added = λ w. sym (append-nil old.list) }))
