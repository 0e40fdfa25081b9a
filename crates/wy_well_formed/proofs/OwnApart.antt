-- The names of a scope's own names are the written ones, one for each owner.
use Rattle.std.proofs.Common.{◌≡◌, ℕ, List, [], ◌∷◌, ◌++◌, map, length, Bool, true, false, refl, sym, ap, ◌∙◌, subst, arith}
use Rattle.std.proofs.lemmas.List.{map-append}
use Rattle.wy_text.specs.declared.fault.AtomName.{AtomName}
use Rattle.wy_syntax.specs.declared.types.Name.{Name}
use Rattle.wy_syntax.specs.declared.types.Param.{Param}
use Rattle.wy_syntax.specs.declared.items.Line.{Line}
use Rattle.wy_syntax.specs.declared.items.Line.TheVariants as line
use Rattle.wy_syntax.specs.declared.items.Grant.{Grant}
use Rattle.wy_text.specs.Members.{Apart}
use Rattle.wy_types.specs.declared.resolved.OwnName.{OwnName}
use Rattle.wy_symbols.specs.declared.scoping.Head.{Head}
use Rattle.wy_symbols.specs.declared.scoping.Owner.{Owner}
use Rattle.wy_symbols.specs.Declarations.{ModuleTree, repeated, texts}
use Rattle.wy_symbols.specs.Atoms.{AtomScope, head_names, line_owner}
use Rattle.wy_symbols.specs.TypeUses.{param_names}
use Rattle.wy_heads.specs.Lines.{param_name, grant_name, use_name, line_names}
use Rattle.wy_heads.specs.ScopeHeads.{grant_names, line_words}
use Rattle.wy_well_formed.proofs.Repeats.{repeated_apart}

abbrev pub own_texts : List OwnName → List (List ℕ)
own_texts ns = map (λ (n : OwnName). n.name) ns

pub param_texts : (s : AtomScope) (plain : Bool) (ps : List Param) → own_texts (map (param_name s plain) ps) ≡ texts (param_names ps)
param_texts s true [] = refl
param_texts s false [] = refl
param_texts s true (p ∷ ps) = ap (λ l. p.name.text ∷ l) (param_texts s true ps)
param_texts s false (p ∷ ps) = ap (λ l. p.name.text ∷ l) (param_texts s false ps)

pub grant_texts : (s : AtomScope) (gs : List Grant) → own_texts (map (grant_name s) gs) ≡ texts (grant_names gs)
grant_texts s [] = refl
grant_texts s (g ∷ gs) = ap (λ l. g.name.text ∷ l) (grant_texts s gs)

module _ (heads : List Head) (modules : List ModuleTree) (atoms : List AtomName) where
  use_texts : (us : List Name) → own_texts (map (use_name heads modules atoms) us) ≡ texts us
  use_texts [] = refl
  use_texts (u ∷ us) = ap (λ l. u.text ∷ l) (use_texts us)

  line_texts : (before : List Owner) (ls : List Line) → own_texts (line_names heads modules atoms before ls) ≡ texts (line_words ls)
  line_texts before [] = refl
  line_texts before (line.Instance x m ns ∷ ls) = ap (λ l. x.text ∷ l) (line_texts (before ++ line_owner (head_names heads) modules (line.Instance x m ns) ∷ []) ls)
  line_texts before (line.Import x m ns set ∷ ls) = ap (λ l. x.text ∷ l) (line_texts (before ++ line_owner (head_names heads) modules (line.Import x m ns set) ∷ []) ls)

  pub all_texts : (first : List OwnName) (names : List Name) (us : List Name) (before : List Owner) (ls : List Line) → own_texts first ≡ texts names →
      own_texts (first ++ (map (use_name heads modules atoms) us ++ line_names heads modules atoms before ls)) ≡ texts (names ++ (us ++ line_words ls))
  all_texts first names us before ls e =
      let uses = map (use_name heads modules atoms) us in
      let lines = line_names heads modules atoms before ls in
      let name = λ (n : OwnName). n.name in
      let text = λ (n : Name). n.text in
      map-append name first (uses ++ lines)
      ∙ ap (λ l. l ++ own_texts (uses ++ lines)) e
      ∙ ap (λ l. texts names ++ l) (map-append name uses lines
      ∙ ap (λ l. l ++ own_texts lines) (use_texts us)
      ∙ ap (λ l. texts us ++ l) (line_texts before ls)
      ∙ sym (map-append text us (line_words ls)))
      ∙ sym (map-append text names (us ++ line_words ls))

  -- names without a repeated one are apart
  pub own_apart : (first : List OwnName) (names : List Name) (us : List Name) (before : List Owner) (ls : List Line) → own_texts first ≡ texts names →
      repeated [] (names ++ (us ++ line_words ls)) ≡ [] → Apart (own_texts (first ++ (map (use_name heads modules atoms) us ++ line_names heads modules atoms before ls)))
  own_apart first names us before ls e r =
      let P : List (List ℕ) → Type 0 = λ l. Apart l in
      subst P (sym (all_texts first names us before ls e)) (repeated_apart [] (names ++ (us ++ line_words ls)) r)

  -- how many they are
  pub lines_length : (before : List Owner) (ls : List Line) → length (line_names heads modules atoms before ls) ≡ length ls
  lines_length before [] = refl
  lines_length before (l ∷ ls) = (let r = lines_length (before ++ line_owner (head_names heads) modules l ∷ []) ls in omega (arith, r))
