-- The modules that own names lead to are those that uses and lines name.
use Rattle.std.proofs.Common.{◌≡◌, ℕ, ◌<◌, List, [], ◌∷◌, ◌++◌, map, length, Bool, true, false, Option, Some, None, ◌⊎◌, inl, inr, refl, ap, subst, arith}
use Rattle.std.specs.Prelude.{IfSome}
use Rattle.std.proofs.lemmas.List.{length-map}
use Rattle.wy_syntax.specs.declared.types.Name.{Name}
use Rattle.wy_syntax.specs.declared.types.Param.{Param}
use Rattle.wy_syntax.specs.declared.items.Line.{Line}
use Rattle.wy_syntax.specs.declared.items.Line.TheVariants as line
use Rattle.wy_syntax.specs.declared.items.Grant.{Grant}
use Rattle.wy_text.specs.declared.fault.AtomName.{AtomName}
use Rattle.wy_text.specs.Members.{In}
use Rattle.wy_text.proofs.Lists.{In-left, In-right, In-cases}
use Rattle.wy_types.specs.declared.resolved.OwnName.{OwnName}
use Rattle.wy_types.specs.Core.{origin_modules, names_modules}
use Rattle.wy_symbols.specs.declared.scoping.Head.{Head}
use Rattle.wy_symbols.specs.declared.scoping.Owner.{Owner}
use Rattle.wy_symbols.specs.Declarations.{ModuleTree, module_number, module_names, texts}
use Rattle.wy_symbols.specs.Atoms.{AtomScope, head_names, line_owner}
use Rattle.wy_heads.specs.Lines.{number_or_zero, param_name, grant_name, use_name, line_name, line_names, line_module, unless_number, uses_refusals, line_refusals, lines_refusals}
use Rattle.wy_symbols.proofs.Firsts.{number_below}
use Rattle.wy_well_formed.proofs.Repeats.{append_empty}

-- what own names lead to, in lists put together
modules_cases : (j : ℕ) (xs ys : List OwnName) → In j (names_modules (xs ++ ys)) → In j (names_modules xs) ⊎ In j (names_modules ys)
modules_cases j [] ys i = inr i
modules_cases j (x ∷ xs) ys i =
    elim (In-cases j (origin_modules x.origin) (names_modules (xs ++ ys)) i) [
      | inl k ↦ inl (In-left j (origin_modules x.origin) (names_modules xs) k)
      | inr k ↦ elim (modules_cases j xs ys k) [ inl l ↦ inl (In-right j (origin_modules x.origin) (names_modules xs) l) | inr l ↦ inr l ]
    ]

-- parameters and grants lead to no module
pub params_lead_nowhere : (s : AtomScope) (plain : Bool) (ps : List Param) (j : ℕ) → In j (names_modules (map (param_name s plain) ps)) → ⊥
params_lead_nowhere s true [] j i = i
params_lead_nowhere s false [] j i = i
params_lead_nowhere s true (p ∷ ps) j i = params_lead_nowhere s true ps j i
params_lead_nowhere s false (p ∷ ps) j i = params_lead_nowhere s false ps j i

pub grants_lead_nowhere : (s : AtomScope) (gs : List Grant) (j : ℕ) → In j (names_modules (map (grant_name s) gs)) → ⊥
grants_lead_nowhere s [] j i = i
grants_lead_nowhere s (g ∷ gs) j i = grants_lead_nowhere s gs j i

-- a word among these names the module of a number
pub record IsNamed (modules : List ModuleTree) (words : List Name) (j : ℕ) : Type 0 where
  pub word : Name
  pub written : In word words
  pub number : module_number modules word.text ≡ Some j

module _ (heads : List Head) (modules : List ModuleTree) (atoms : List AtomName) where
  pub the_number : (word : Name) (o : Option ℕ) (j : ℕ) → unless_number heads modules atoms word o ≡ [] → number_or_zero o ≡ j → o ≡ Some j
  the_number word None j e f = cc
  the_number word (Some k) j e f = ap (λ (n : ℕ). Some n) f

  uses_named : (us : List Name) → uses_refusals heads modules atoms us ≡ [] → (j : ℕ) → In j (names_modules (map (use_name heads modules atoms) us)) → IsNamed modules us j
  uses_named [] e j i = absurd i
  uses_named (u ∷ us) e j (inl f) =
      let r = append_empty (unless_number heads modules atoms u (module_number modules u.text)) (uses_refusals heads modules atoms us) e in
      record { word = u; written = inl refl; number = the_number u (module_number modules u.text) j r.0 f }
  uses_named (u ∷ us) e j (inr i) =
      let n = uses_named us ((append_empty (unless_number heads modules atoms u (module_number modules u.text)) (uses_refusals heads modules atoms us) e).1) j i in
      record { word = n.word; written = inr n.written; number = n.number }

  line_named : (before : List Owner) (l : Line) (more : List ℕ) → line_refusals heads modules atoms before l ≡ [] → (j : ℕ) →
      In j (origin_modules ((line_name heads modules atoms before l).origin) ++ more) → (module_number modules (line_module l).text ≡ Some j) ⊎ In j more
  line_named before (line.Instance x m ns) more e j (inl f) = inl (the_number m (module_number modules m.text) j ((append_empty (unless_number heads modules atoms m (module_number modules m.text)) _ e).0) f)
  line_named before (line.Instance x m ns) more e j (inr i) = inr i
  line_named before (line.Import x m ns set) more e j (inl f) = inl (the_number m (module_number modules m.text) j ((append_empty (unless_number heads modules atoms m (module_number modules m.text)) _ e).0) f)
  line_named before (line.Import x m ns set) more e j (inr i) = inr i

  lines_named : (before : List Owner) (ls : List Line) → lines_refusals heads modules atoms before ls ≡ [] → (j : ℕ) →
      In j (names_modules (line_names heads modules atoms before ls)) → IsNamed modules (map line_module ls) j
  lines_named before [] e j i = absurd i
  lines_named before (l ∷ ls) e j i =
      let after = before ++ line_owner (head_names heads) modules l ∷ [] in
      let r = append_empty (line_refusals heads modules atoms before l) (lines_refusals heads modules atoms after ls) e in
      elim (line_named before l (names_modules (line_names heads modules atoms after ls)) r.0 j i) [
        | inl f ↦ record { word = line_module l; written = inl refl; number = f }
        | inr k ↦ (let n = lines_named after ls r.1 j k in record { word = n.word; written = inr n.written; number = n.number })
      ]

  -- own names lead to the modules that uses and lines name
  pub own_named : (first : List OwnName) (us : List Name) (before : List Owner) (ls : List Line) → ((j : ℕ) → In j (names_modules first) → ⊥) →
      uses_refusals heads modules atoms us ≡ [] → lines_refusals heads modules atoms before ls ≡ [] →
      (j : ℕ) → In j (names_modules (first ++ (map (use_name heads modules atoms) us ++ line_names heads modules atoms before ls))) → IsNamed modules (us ++ map line_module ls) j
  own_named first us before ls nowhere eu el j i =
      elim (modules_cases j first (map (use_name heads modules atoms) us ++ line_names heads modules atoms before ls) i) [
        | inl k ↦ absurd (nowhere j k)
        | inr k ↦ elim (modules_cases j (map (use_name heads modules atoms) us) (line_names heads modules atoms before ls) k) [
          | inl l ↦ (let n = uses_named us eu j l in record { word = n.word; written = In-left n.word us (map line_module ls) n.written; number = n.number })
          | inr l ↦ (let n = lines_named before ls el j l in record { word = n.word; written = In-right n.word us (map line_module ls) n.written; number = n.number })
        ]
      ]

-- a named module is there
pub named_below : (modules : List ModuleTree) (words : List Name) (j : ℕ) → IsNamed modules words j → j < length modules
named_below modules words j n =
    let one = length-map modules (λ (m : ModuleTree). m.name) in
    let two = length-map (module_names modules) (λ (n : Name). n.text) in
    let P : Option ℕ → Type 0 = λ o. IfSome o (λ r. r < length (texts (module_names modules))) in
    let below : j < length (texts (module_names modules)) = subst P n.number (number_below (texts (module_names modules)) (n.word).text) in
    omega (arith, one, two, below)
