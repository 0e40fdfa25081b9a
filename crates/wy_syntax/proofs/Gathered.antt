-- Texts that are gathered one behind the other.
use Rattle.std.proofs.Common.{◌≡◌, ◌≤◌, ◌<◌, ◌+◌, ◌-◌, ℕ, List, [], ◌∷◌, ◌++◌, length, drop, take, get_or, refl, sym, ap, ◌∙◌, append_assoc, subst, arith}
use Rattle.std.proofs.lemmas.List.{append-nil, drop_all, drop_more, take_all}
use Rattle.wy_syntax.specs.Collected.{Collected, Adds}

-- one text behind another
pub before : {old mid new : Collected ℕ} {first second : List ℕ} → Adds first old mid → Adds second mid new → Adds (first ++ second) old new
before {old} {mid} {new} {first} {second} h k = record {
  enough = λ whole. h.enough (k.enough whole);
  added = λ whole. k.added whole ∙ ap (λ l. l ++ second) (h.added (k.enough whole)) ∙ append_assoc old.list first second;
}

-- nothing is added
pub nothing : {old : Collected ℕ} → Adds [] old old
nothing {old} = record { enough = λ whole. whole; added = λ whole. sym (append-nil old.list) }

-- what is gathered from here on follows from the start
abbrev pub Follows : Collected ℕ → List ℕ → Collected ℕ → List ℕ → Type 0
Follows start whole here rest = (new : Collected ℕ) → Adds rest here new → Adds whole start new

-- the first element and what stands behind it
pub next : {X : Type 0} (xs : List X) (i : ℕ) (x : X) → i < length xs → x ≡ get_or xs i x → drop i xs ≡ x ∷ drop (i + 1) xs
next xs i x lt at = drop_more xs i x lt ∙ ap (λ v. v ∷ drop (i + 1) xs) (sym at)

-- one turn of a loop adds one element's text
pub turn : {X : Type 0} {start old mid : Collected ℕ} {whole : List ℕ} (xs : List X) (i : ℕ) (x : X) (f : List X → List ℕ) (one : List ℕ) → i < length xs → x ≡ get_or xs i x →
    f (x ∷ drop (i + 1) xs) ≡ one ++ f (drop (i + 1) xs) → Adds one old mid → Follows start whole old (f (drop i xs)) → Follows start whole mid (f (drop (i + 1) xs))
turn {X} {start} {old} {mid} {whole} xs i x f one lt at more h follows new k =
    follows new (subst (λ l. Adds l old new) (sym (ap f (next xs i x lt at) ∙ more)) (before h k))

-- a loop that is through has added all
pub all_through : {X : Type 0} {start out : Collected ℕ} {whole : List ℕ} (xs : List X) (i : ℕ) (f : List X → List ℕ) → length xs ≤ i → f [] ≡ [] →
    Follows start whole out (f (drop i xs)) → Adds whole start out
all_through {X} {start} {out} {whole} xs i f past none follows =
    follows out (subst (λ l. Adds l out out) (sym (ap f (drop_all i xs past) ∙ none)) nothing)

-- what stands behind the first element
pub behind_first : {X : Type 0} (xs : List X) → take (length xs - 1) (drop 1 xs) ≡ drop 1 xs
behind_first [] = refl
behind_first (x ∷ xs) = take_all (length (x ∷ xs) - 1) xs (omega arith)
