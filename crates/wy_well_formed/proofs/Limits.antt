-- Where no limit is passed, each count is within its number.
use Rattle.std.proofs.Common.{◌≡◌, ℕ, ◌≤◌, List, [], ◌∷◌, map, length, Bool, true, false, Some, None, inl, inr, refl, sym, subst, arith}
use Rattle.std.specs.Prelude.{◌||◌, nat_lt, if◌then◌else◌}
use Rattle.std.proofs.lemmas.Bool.Decides.{nat_tests}
use Rattle.wy_text.specs.declared.limit.LimitName.{LimitName}
use Rattle.wy_text.specs.declared.limit.LimitName.TheVariants as limit
use Rattle.wy_text.specs.LimitName.{limit_number}
use Rattle.wy_syntax.specs.declared.items.TypeDecl.{TypeDecl}
use Rattle.wy_syntax.specs.Trees.{ItemTree, PartTrees}
use Rattle.wy_text.specs.Members.{In}
use Rattle.wy_text.proofs.Lists.{In-left, In-right, In-map}
use Rattle.wy_symbols.specs.Declarations.{ModuleTree, ProgramTree, Declared, declared, types_of, modules_of, programs_of}
use Rattle.wy_symbols.specs.Atoms.{all_names}
use Rattle.wy_heads.specs.Counts.{parts_literals, tail_literals, module_parts, program_parts, all_parts, field_count, method_count, part_params, parts_params, signature_count, abstract_count, member_params, types_params, abstract_counts, type_counts, module_count, program_count, counts_of, some_above, passes, first_passed, limits, limit_of}
use Rattle.wy_well_formed.proofs.Scoping.{FewIn, AllFew}
use Rattle.wy_well_formed.proofs.Declared.{FewMembers}

first_false : (a b : Bool) → a || b ≡ false → a ≡ false
first_false true b h = cc
first_false false b h = refl

second_false : (a b : Bool) → a || b ≡ false → b ≡ false
second_false true b h = cc
second_false false b h = h

not_above : (most n : ℕ) → nat_lt most n ≡ false → n ≤ most
not_above most n h = grind (arith, nat_tests, h)

-- no count passes the number
none_above : (most : ℕ) (ns : List ℕ) → some_above most ns ≡ false → (n : ℕ) → In n ns → n ≤ most
none_above most [] h n i = absurd i
none_above most (k ∷ ns) h n (inl e) =
    let l = not_above most k (first_false (nat_lt most k) (some_above most ns) h) in
    omega (arith, l, e)
none_above most (k ∷ ns) h n (inr i) = none_above most ns (second_false (nat_lt most k) (some_above most ns) h) n i

-- no limit is passed
none_passed : (ls : List LimitName) (d : Declared) → first_passed ls d ≡ None → (l : LimitName) → In l ls → passes l d ≡ false
none_passed [] d h l i = absurd i
none_passed (k ∷ ls) d h l i =
    let P : Bool → Type 0 = λ b. passes k d ≡ b → (if b then Some k else first_passed ls d) ≡ None → passes l d ≡ false in
    (elim (passes k d) as P [
      | true ↦ λ e g. cc
      | false ↦ λ e g. elim i [ inl s ↦ (let P : LimitName → Type 0 = λ v. passes v d ≡ false in subst P s e) | inr j ↦ none_passed ls d g l j ]
    ]) refl h

within : (d : Declared) → first_passed limits d ≡ None → (l : LimitName) → In l limits → (n : ℕ) → In n (counts_of l d) → n ≤ limit_number l
within d h l i n j = none_above (limit_number l) (counts_of l d) (none_passed limits d h l i) n j

types_limit : In limit.Types limits
types_limit = inl refl

modules_limit : In limit.Modules limits
modules_limit = inr (inl refl)

grants_limit : In limit.Grants limits
grants_limit = inr (inr (inl refl))

methods_limit : In limit.Methods limits
methods_limit = inr (inr (inr (inl refl)))

fields_limit : In limit.Fields limits
fields_limit = inr (inr (inr (inr (inl refl))))

parameters_limit : In limit.Parameters limits
parameters_limit = inr (inr (inr (inr (inr (inl refl)))))

atoms_limit : In limit.Atoms limits
atoms_limit = inr (inr (inr (inr (inr (inr (inl refl))))))

------------------------------------------------------------
-- Where counts stand

params_of_parts : (n : ℕ) (parts : PartTrees) (all : List PartTrees) → In parts all → In n (part_params parts) → In n (parts_params all)
params_of_parts n parts [] i j = absurd i
params_of_parts n parts (p ∷ all) (inl e) j =
    let P : PartTrees → Type 0 = λ v. In n (part_params v) in
    In-left n (part_params p) (parts_params all) (subst P (sym e) j)
params_of_parts n parts (p ∷ all) (inr i) j = In-right n (part_params p) (parts_params all) (params_of_parts n parts all i j)

params_of_type : (n : ℕ) (d : TypeDecl) (types : List TypeDecl) → In d types → In n (member_params d.members) → In n (types_params types)
params_of_type n d [] i j = absurd i
params_of_type n d (t ∷ types) (inl e) j =
    let P : TypeDecl → Type 0 = λ v. In n (member_params v.members) in
    In-left n (member_params t.members) (types_params types) (subst P (sym e) j)
params_of_type n d (t ∷ types) (inr i) j = In-right n (member_params t.members) (types_params types) (params_of_type n d types i j)

parts_of_module : (m : ModuleTree) (modules : List ModuleTree) (parts : PartTrees) → In m modules → In parts (m.parts ∷ parts_literals m.parts) → In parts (module_parts modules)
parts_of_module m [] parts i j = absurd i
parts_of_module m (k ∷ modules) parts (inl e) j =
    let P : ModuleTree → Type 0 = λ v. In parts (v.parts ∷ parts_literals v.parts) in
    In-left parts (k.parts ∷ parts_literals k.parts) (module_parts modules) (subst P (sym e) j)
parts_of_module m (k ∷ modules) parts (inr i) j = In-right parts (k.parts ∷ parts_literals k.parts) (module_parts modules) (parts_of_module m modules parts i j)

parts_of_program : (g : ProgramTree) (programs : List ProgramTree) (parts : PartTrees) → In g programs → In parts (tail_literals g.body) → In parts (program_parts programs)
parts_of_program g [] parts i j = absurd i
parts_of_program g (k ∷ programs) parts (inl e) j =
    let P : ProgramTree → Type 0 = λ v. In parts (tail_literals v.body) in
    In-left parts (tail_literals k.body) (program_parts programs) (subst P (sym e) j)
parts_of_program g (k ∷ programs) parts (inr i) j = In-right parts (tail_literals k.body) (program_parts programs) (parts_of_program g programs parts i j)

------------------------------------------------------------
-- What is within the limits

module _ (items : List ItemTree) (h : limit_of items ≡ None) where
  pub few_types : length (types_of items) ≤ 1024
  few_types = within (declared items) h limit.Types types_limit (length (types_of items)) (inl refl)

  pub few_modules : length (modules_of items) ≤ 256
  few_modules = within (declared items) h limit.Modules modules_limit (length (modules_of items)) (inl refl)

  few_in : (parts : PartTrees) → In parts (all_parts (declared items)) → FewIn parts
  few_in parts i =
      let ps = all_parts (declared items) in
      let types = types_of items in
      record {
        fields = within (declared items) h limit.Fields fields_limit (field_count parts) (In-map field_count parts ps i);
        methods = within (declared items) h limit.Methods methods_limit (method_count parts)
            (In-right (method_count parts) (map (λ (c : TypeDecl). signature_count c.members) types) (map method_count ps) (In-map method_count parts ps i));
        parameters = λ n j. within (declared items) h limit.Parameters parameters_limit n
            (In-right n (types_params types) _ (In-right n (map (λ (m : ModuleTree). length m.params) (modules_of items)) (parts_params ps) (params_of_parts n parts ps i j)));
      }

  pub few_module_parts : (m : ModuleTree) → In m (modules_of items) → AllFew (m.parts ∷ parts_literals m.parts)
  few_module_parts m i parts j =
      few_in parts (In-left parts (module_parts (modules_of items)) (program_parts (programs_of items)) (parts_of_module m (modules_of items) parts i j))

  pub few_program_parts : (g : ProgramTree) → In g (programs_of items) → AllFew (tail_literals g.body)
  few_program_parts g i parts j =
      few_in parts (In-right parts (module_parts (modules_of items)) (program_parts (programs_of items)) (parts_of_program g (programs_of items) parts i j))

  pub few_members : (d : TypeDecl) → In d (types_of items) → FewMembers d
  few_members d i =
      let types = types_of items in
      record {
        members = within (declared items) h limit.Atoms atoms_limit (abstract_count d.members)
            (In-left (abstract_count d.members) (abstract_counts types) _ (In-map (λ (t : TypeDecl). abstract_count t.members) d types i));
        methods = within (declared items) h limit.Methods methods_limit (signature_count d.members)
            (In-left (signature_count d.members) (map (λ (c : TypeDecl). signature_count c.members) types) _ (In-map (λ (c : TypeDecl). signature_count c.members) d types i));
        parameters = λ n j. within (declared items) h limit.Parameters parameters_limit n (In-left n (types_params types) _ (params_of_type n d types i j));
      }

  pub few_module_atoms : (m : ModuleTree) → In m (modules_of items) → module_count (all_names (types_of items)) (modules_of items) (type_counts (types_of items)) m ≤ 512
  few_module_atoms m i =
      let types = types_of items in
      let f = module_count (all_names types) (modules_of items) (type_counts types) in
      within (declared items) h limit.Atoms atoms_limit (f m)
      (In-right (f m) (abstract_counts types) _ (In-left (f m) (map f (modules_of items)) _ (In-map f m (modules_of items) i)))

  pub few_program_atoms : (g : ProgramTree) → In g (programs_of items) → program_count (all_names (types_of items)) (modules_of items) (type_counts (types_of items)) g ≤ 512
  few_program_atoms g i =
      let types = types_of items in
      let f = program_count (all_names types) (modules_of items) (type_counts types) in
      within (declared items) h limit.Atoms atoms_limit (f g)
      (In-right (f g) (abstract_counts types) _
      (In-right (f g) (map (module_count (all_names types) (modules_of items) (type_counts types)) (modules_of items)) _ (In-map f g (programs_of items) i)))

  pub few_module_params : (m : ModuleTree) → In m (modules_of items) → length m.params ≤ 16
  few_module_params m i =
      let count : ModuleTree → ℕ = λ v. length v.params in
      within (declared items) h limit.Parameters parameters_limit (length m.params)
      (In-right (length m.params) (types_params (types_of items)) _ (In-left (length m.params) (map count (modules_of items)) _ (In-map count m (modules_of items) i)))

  pub few_program_grants : (g : ProgramTree) → In g (programs_of items) → length g.grants ≤ 64
  few_program_grants g i =
      let count : ProgramTree → ℕ = λ v. length v.grants in
      within (declared items) h limit.Grants grants_limit (length g.grants) (In-map count g (programs_of items) i)
