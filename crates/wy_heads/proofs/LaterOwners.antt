-- Owners that stand behind others: those of used modules, and then those of lines.
use Rattle.std.proofs.Common.{◌≡◌, ℕ, ◌+◌, List, ◌++◌, map, take, drop, length, sym, ap, ◌∙◌, append_assoc}
use Rattle.std.proofs.Math.Seq.{take-add, take-length}
use Rattle.std.proofs.lemmas.List.{length-map, take_at, drop_at, drop-drop}
use Rattle.wy_syntax.specs.declared.types.Name.{Name}
use Rattle.wy_syntax.specs.declared.items.Line.{Line}
use Rattle.wy_symbols.specs.declared.scoping.Owner.{Owner}

-- the first owners, and those of uses and lines behind them
pub front_is : (first uses lines owners : List Owner) (n : ℕ) → owners ≡ (first ++ uses) ++ lines → length first ≡ n → take n owners ≡ first
front_is first uses lines owners n is e = ap (take n) (is ∙ append_assoc first uses lines) ∙ take_at first (uses ++ lines) n e

pub behind_is : (first uses lines owners : List Owner) (n : ℕ) → owners ≡ (first ++ uses) ++ lines → length first ≡ n → drop n owners ≡ uses ++ lines
behind_is first uses lines owners n is e = ap (drop n) (is ∙ append_assoc first uses lines) ∙ drop_at first (uses ++ lines) n e

module _ (use_owner : Name → Owner) (line_owner : Line → Owner) (uses : List Name) (lines : List Line) (owners : List Owner) (before : ℕ)
    (behind : drop before owners ≡ map use_owner uses ++ map line_owner lines) where
  pub uses_there : take (length uses) (drop before owners) ≡ map use_owner uses
  uses_there = ap (take (length uses)) behind ∙ take_at (map use_owner uses) (map line_owner lines) (length uses) (length-map uses use_owner)

  pub early_are : take (before + length uses) owners ≡ take before owners ++ map use_owner uses
  early_are = take-add before (length uses) owners ∙ ap (λ os. take before owners ++ os) uses_there

  pub lines_there : take (length lines) (drop (before + length uses) owners) ≡ map line_owner lines
  lines_there =
      ap (take (length lines)) (sym (drop-drop (length uses) before owners) ∙ ap (drop (length uses)) behind
      ∙ drop_at (map use_owner uses) (map line_owner lines) (length uses) (length-map uses use_owner))
      ∙ ap (λ k. take k (map line_owner lines)) (sym (length-map lines line_owner)) ∙ take-length (map line_owner lines)
