-- One turn of a loop that notes repeated names.
use Rattle.std.proofs.Common.{◌≡◌, ℕ, ◌+◌, ◌<◌, List, [], ◌∷◌, ◌++◌, map, length, drop, take, get_or, sym, ap, ◌∙◌, if◌then◌else◌, append_assoc}
use Rattle.std.proofs.lemmas.List.{map-append}
use Rattle.wy_syntax.specs.declared.types.Name.{Name}
use Rattle.wy_symbols.specs.declared.refusal.Cause.TheVariants.{Twice}
use Rattle.wy_symbols.specs.Least.{refusal_at}
use Rattle.wy_symbols.specs.Declarations.{has_name, repeated, texts}
use Rattle.wy_symbols.proofs.Turns.{taken, next_of}

module _ {X : Type 0} (f : X → Name) (before : List (List ℕ)) (xs : List X) (i : ℕ) (x : X) (lt : i < length xs) (at : x ≡ get_or xs i x) where
  -- the texts of the names so far
  pub texts_more : (before ++ texts (map f (take i xs))) ++ (f x).text ∷ [] ≡ before ++ texts (map f (take (i + 1) xs))
  texts_more =
      append_assoc before (texts (map f (take i xs))) ((f x).text ∷ [])
      ∙ ap (λ l. before ++ l) (sym (map-append (λ (m : Name). m.text) (map f (take i xs)) (f x ∷ [])))
      ∙ ap (λ l. before ++ texts l) (sym (map-append f (take i xs) (x ∷ [])))
      ∙ ap (λ l. before ++ texts (map f l)) (taken xs i x lt at)

  pub repeated_more :
      repeated (before ++ texts (map f (take i xs))) (map f (drop i xs)) ≡
      (if has_name (f x).text (before ++ texts (map f (take i xs))) then refusal_at (f x).place Twice ∷ [] else []) ++
      repeated (before ++ texts (map f (take (i + 1) xs))) (map f (drop (i + 1) xs))
  repeated_more =
      ap (λ l. repeated (before ++ texts (map f (take i xs))) (map f l)) (next_of xs i x lt at)
      ∙ ap (λ l. (if has_name (f x).text (before ++ texts (map f (take i xs))) then refusal_at (f x).place Twice ∷ [] else []) ++ repeated l (map f (drop (i + 1) xs))) texts_more
