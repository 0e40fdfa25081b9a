-- The limit that a program's names pass is the same over the table of primitive types of the edition before as over today's, where no
-- name of a type is that of the type in which the tables differ.
use Rattle.std.proofs.Common.{◌≡◌, ℕ, zero, suc, ◌+◌, Bool, List, [], ◌∷◌, ◌++◌, map, Option, Some, inl, inr, refl, sym, ap, ap₂, ◌∙◌, if◌then◌else◌}
use Rattle.std.specs.Prelude.{slice_index_or}
use Rattle.wy_text.specs.declared.limit.LimitName.{LimitName}
use Rattle.wy_text.specs.declared.limit.LimitName.TheVariants as limit
use Rattle.wy_text.specs.LimitName.{limit_number}
use Rattle.wy_syntax.specs.declared.items.TypeDecl.{TypeDecl}
use Rattle.wy_syntax.specs.Trees.{ItemTree}
use Rattle.wy_types.specs.declared.resolved.TypeDecl as core
use Rattle.wy_types.specs.Primitive.{former_types, primitive_types}
use Rattle.wy_symbols.specs.declared.scoping.Head.{Head}
use Rattle.wy_symbols.specs.declared.scoping.Opening.{Opening}
use Rattle.wy_symbols.specs.declared.scoping.Opening.TheVariants.{Members, Nothing, Missing}
use Rattle.wy_symbols.specs.declared.scoping.Owner.{Owner}
use Rattle.wy_symbols.specs.Declarations.{ModuleTree, ProgramTree, Declared, declared, modules_of, programs_of, texts, type_names}
use Rattle.wy_symbols.specs.Atoms.{head, head_names, heads_over, names_over}
use Rattle.wy_heads.specs.Counts.{abstract_counts, type_counts_over, opening_count, owners_count, module_count, program_count, counts_over, some_above, first_passed_over, limits, limit_over}
use Rattle.wy_heads.specs.ScopeHeads.{module_owners, program_owners}
use Rattle.wy_editions.proofs.TypeNames.{ModuleHas, ModulesHave, BlockHas, BlocksHave}
use Rattle.wy_editions.proofs.Alike.{OpensNot, OwnersOpenNot}
use Rattle.wy_editions.proofs.HeadsOver.{IsOld, heads_alike}
use Rattle.wy_editions.proofs.ScopesOver.{module_owners_same, module_owners_not, program_owners_same, program_owners_not}

-- the names of heads are those of the types
declared_names : (types : List TypeDecl) → head_names (map head types) ≡ texts (type_names types)
declared_names [] = refl
declared_names (d ∷ ds) = ap (λ (ns : List (List ℕ)). d.name.text ∷ ns) (declared_names ds)

former_names : (types : List TypeDecl) → head_names (heads_over former_types types) ≡ names_over former_types types
former_names types = ap (λ (ns : List (List ℕ)). map (λ (d : core.TypeDecl). d.name) former_types ++ ns) (declared_names types)

today_names : (types : List TypeDecl) → head_names (heads_over primitive_types types) ≡ names_over primitive_types types
today_names types = ap (λ (ns : List (List ℕ)). map (λ (d : core.TypeDecl). d.name) primitive_types ++ ns) (declared_names types)

------------------------------------------------------------
-- Atoms

count_same : (types : List TypeDecl) (d : ℕ) → (d ≡ 4 → ⊥) →
    slice_index_or (type_counts_over former_types types) d 0 ≡ slice_index_or (type_counts_over primitive_types types) d 0
count_same types zero n = refl
count_same types (suc zero) n = refl
count_same types (suc (suc zero)) n = refl
count_same types (suc (suc (suc zero))) n = refl
count_same types (suc (suc (suc (suc zero)))) n = absurd (n refl)
count_same types (suc (suc (suc (suc (suc d))))) n = refl

opening_same : (types : List TypeDecl) (o : Opening) → OpensNot IsOld 4 o →
    opening_count (type_counts_over former_types types) o ≡ opening_count (type_counts_over primitive_types types) o
opening_same types (Members d) n = count_same types d n
opening_same types Nothing n = refl
opening_same types Missing n = refl

owners_same : (types : List TypeDecl) (os : List Owner) → OwnersOpenNot IsOld 4 os →
    owners_count (type_counts_over former_types types) os ≡ owners_count (type_counts_over primitive_types types) os
owners_same types [] n = refl
owners_same types (o ∷ os) n = ap₂ (λ x y. x + y) (opening_same types o.opening (n o (inl refl))) (owners_same types os (λ p j. n p (inr j)))

module _ (types : List TypeDecl) (modules : List ModuleTree) (ok : ModulesHave IsOld modules) where
  abbrev former : List Head
  former = heads_over former_types types

  abbrev today : List Head
  today = heads_over primitive_types types

  abbrev module_over : List core.TypeDecl → ModuleTree → ℕ
  module_over table m = module_count (names_over table types) modules (type_counts_over table types) m

  abbrev program_over : List core.TypeDecl → ProgramTree → ℕ
  program_over table p = program_count (names_over table types) modules (type_counts_over table types) p

  module_same : (m : ModuleTree) → ModuleHas IsOld m → module_over former_types m ≡ module_over primitive_types m
  module_same m k =
      ap (λ (ns : List (List ℕ)). module_count ns modules (type_counts_over former_types types) m) (sym (former_names types))
      ∙ owners_same types (module_owners former modules m) (module_owners_not IsOld 4 former today (heads_alike types) modules ok m k)
      ∙ ap (owners_count (type_counts_over primitive_types types)) (module_owners_same IsOld 4 former today (heads_alike types) modules ok m k)
      ∙ ap (λ (ns : List (List ℕ)). module_count ns modules (type_counts_over primitive_types types) m) (today_names types)

  program_same : (p : ProgramTree) → BlockHas IsOld p → program_over former_types p ≡ program_over primitive_types p
  program_same p k =
      ap (λ (ns : List (List ℕ)). program_count ns modules (type_counts_over former_types types) p) (sym (former_names types))
      ∙ owners_same types (program_owners former modules p) (program_owners_not IsOld 4 former today (heads_alike types) modules ok p k)
      ∙ ap (owners_count (type_counts_over primitive_types types)) (program_owners_same IsOld 4 former today (heads_alike types) modules ok p k)
      ∙ ap (λ (ns : List (List ℕ)). program_count ns modules (type_counts_over primitive_types types) p) (today_names types)

  modules_same : (ms : List ModuleTree) → ModulesHave IsOld ms → map (module_over former_types) ms ≡ map (module_over primitive_types) ms
  modules_same [] k = refl
  modules_same (m ∷ ms) k = ap₂ ◌∷◌ (module_same m k.0) (modules_same ms k.1)

  programs_same : (ps : List ProgramTree) → BlocksHave IsOld ps → map (program_over former_types) ps ≡ map (program_over primitive_types) ps
  programs_same [] k = refl
  programs_same (p ∷ ps) k = ap₂ ◌∷◌ (program_same p k.0) (programs_same ps k.1)

------------------------------------------------------------
-- Limits

abbrev AreOld : Declared → Type 0
AreOld d = ModulesHave IsOld d.modules × BlocksHave IsOld d.programs

counts_same : (l : LimitName) (d : Declared) → AreOld d → counts_over former_types l d ≡ counts_over primitive_types l d
counts_same limit.Types d k = refl
counts_same limit.Modules d k = refl
counts_same limit.Grants d k = refl
counts_same limit.Methods d k = refl
counts_same limit.Fields d k = refl
counts_same limit.Parameters d k = refl
counts_same limit.Atoms d k =
    ap₂ (λ x y. abstract_counts d.types ++ (x ++ y)) (modules_same d.types d.modules k.0 d.modules k.0) (programs_same d.types d.modules k.0 d.programs k.1)
counts_same other d k = refl

first_same : (ls : List LimitName) (d : Declared) → AreOld d → first_passed_over former_types ls d ≡ first_passed_over primitive_types ls d
first_same [] d k = refl
first_same (l ∷ ls) d k =
    ap₂ (λ (b : Bool) (o : Option LimitName). if b then Some l else o) (ap (some_above (limit_number l)) (counts_same l d k)) (first_same ls d k)

pub limit_same : (items : List ItemTree) → ModulesHave IsOld (modules_of items) → BlocksHave IsOld (programs_of items) →
    limit_over former_types items ≡ limit_over primitive_types items
limit_same items modules blocks = first_same limits (declared items) (modules, blocks)
