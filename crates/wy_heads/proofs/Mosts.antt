-- The greatest counts of a walk are those of the lists of counts.
use Rattle.std.proofs.Common.{◌≤◌, ◌≡◌, ℕ, List, [], ◌∷◌, ◌++◌, map, length, refl, sym, ap, ◌∙◌, Bool, true, false, arith, append_assoc, Option, Some, if◌then◌else◌, None}
use Rattle.wy_text.specs.declared.limit.LimitName.{LimitName}
use Rattle.wy_text.specs.declared.limit.LimitName.TheVariants as limit
use Rattle.wy_syntax.specs.declared.items.TypeDecl.{TypeDecl}
use Rattle.wy_symbols.specs.Declarations.{ModuleTree, ProgramTree, Declared}
use Rattle.std.specs.Prelude.{max, nat_lt, ◌||◌}
use Rattle.std.proofs.lemmas.Grind.{common_steps}
use Rattle.wy_syntax.specs.Trees as t
use Rattle.wy_symbols.specs.Atoms.{all_names}
use Rattle.wy_heads.specs.declared.counts.Most.{Most}
use Rattle.wy_heads.specs.Counts.{rhs_literals, stmt_literals, stmts_literals, part_literals, parts_literals, tail_literals, method_count, field_count, part_params, parts_params, some_above, signature_count, member_params, types_params, module_parts, program_parts, all_parts, counts_of, passes, first_passed, early_limits, limits, abstract_counts, type_counts, module_count, program_count}
use Rattle.wy_heads.specs.Most.{greatest, with_parts, rhs_most, stmt_most, stmts_most, part_most, parts_most, tail_most, all_most, with_members, types_most, module_params, modules_most, programs_most, with_parameters, no_counts, declared_most, grant_counts, first_over}

pub greatest-append : (most : ℕ) (ms ns : List ℕ) → greatest most (ms ++ ns) ≡ greatest (greatest most ms) ns
greatest-append most [] ns = refl
greatest-append most (m ∷ ms) ns = greatest-append (max most m) ms ns

pub all_most-append : (most : Most) (ps qs : List t.PartTrees) → all_most most (ps ++ qs) ≡ all_most (all_most most ps) qs
all_most-append most [] qs = refl
all_most-append most (p ∷ ps) qs = all_most-append (with_parts most p) ps qs

mutual
  pub rhs_all : (most : Most) (r : t.RhsTree) → rhs_most most r ≡ all_most most (rhs_literals r)
  rhs_all most (t.literal p ps) = parts_all (with_parts most ps) ps
  rhs_all most (t.branch p c a b) =
      stmts_all (stmts_most most a) b ∙ ap (λ m. all_most m (stmts_literals b)) (stmts_all most a)
      ∙ sym (all_most-append most (stmts_literals a) (stmts_literals b))
  rhs_all most (t.value e) = refl

  pub stmt_all : (most : Most) (s : t.StmtTree) → stmt_most most s ≡ all_most most (stmt_literals s)
  stmt_all most (t.val x u r) = rhs_all most r
  stmt_all most (t.assign x r) = rhs_all most r
  stmt_all most (t.run r) = rhs_all most r

  pub stmts_all : (most : Most) (ss : t.StmtTrees) → stmts_most most ss ≡ all_most most (stmts_literals ss)
  stmts_all most t.no_stmts = refl
  stmts_all most (t.more_stmts s ss) =
      stmts_all (stmt_most most s) ss ∙ ap (λ m. all_most m (stmts_literals ss)) (stmt_all most s)
      ∙ sym (all_most-append most (stmt_literals s) (stmts_literals ss))

  pub part_all : (most : Most) (p : t.PartTree) → part_most most p ≡ all_most most (part_literals p)
  part_all most (t.field k x u r) = rhs_all most r
  part_all most (t.method g b) = tail_all most b

  pub parts_all : (most : Most) (ps : t.PartTrees) → parts_most most ps ≡ all_most most (parts_literals ps)
  parts_all most t.no_parts = refl
  parts_all most (t.more_parts p ps) =
      parts_all (part_most most p) ps ∙ ap (λ m. all_most m (parts_literals ps)) (part_all most p)
      ∙ sym (all_most-append most (part_literals p) (parts_literals ps))

  pub tail_all : (most : Most) (b : t.TailTree) → tail_most most b ≡ all_most most (tail_literals b)
  tail_all most (t.short r) = rhs_all most r
  tail_all most (t.long ss) = stmts_all most ss

pub all_methods : (most : Most) (ps : List t.PartTrees) → (all_most most ps).methods ≡ greatest most.methods (map method_count ps)
all_methods most [] = refl
all_methods most (p ∷ ps) = all_methods (with_parts most p) ps

pub all_fields : (most : Most) (ps : List t.PartTrees) → (all_most most ps).fields ≡ greatest most.fields (map field_count ps)
all_fields most [] = refl
all_fields most (p ∷ ps) = all_fields (with_parts most p) ps

pub all_parameters : (most : Most) (ps : List t.PartTrees) → (all_most most ps).parameters ≡ greatest most.parameters (parts_params ps)
all_parameters most [] = refl
all_parameters most (p ∷ ps) = all_parameters (with_parts most p) ps ∙ sym (greatest-append most.parameters (part_params p) (parts_params ps))

-- a number is above the greatest exactly where it is above one of them
above_either : (n m k : ℕ) → nat_lt n (max m k) ≡ nat_lt n m || nat_lt n k
above_either n m k = grind (arith, common_steps)

either_order : (a b c : Bool) → (a || b) || c ≡ a || (b || c)
either_order true b c = refl
either_order false b c = refl

pub greatest_above : (n most : ℕ) (ns : List ℕ) → nat_lt n (greatest most ns) ≡ nat_lt n most || some_above n ns
greatest_above n most [] = (let P : Bool → Type 0 = λ b. b ≡ b || false in elim (nat_lt n most) as P [ true ↦ refl | false ↦ refl ])
greatest_above n most (m ∷ ns) =
    greatest_above n (max most m) ns ∙ ap (λ b. b || some_above n ns) (above_either n most m)
    ∙ either_order (nat_lt n most) (nat_lt n m) (some_above n ns)

-- from nothing on
pub greatest_some : (n : ℕ) (ns : List ℕ) → nat_lt n (greatest 0 ns) ≡ some_above n ns
greatest_some n ns = greatest_above n 0 ns ∙ ap (λ b. b || some_above n ns) (none_above n)
  where
    none_above : (k : ℕ) → nat_lt k 0 ≡ false
    none_above k = grind (arith, common_steps)

------------------------------------------------------------
-- Over all declarations

types_methods : (most : Most) (ds : List TypeDecl) → (types_most most ds).methods ≡ greatest most.methods (map (λ (d : TypeDecl). signature_count d.members) ds)
types_methods most [] = refl
types_methods most (d ∷ ds) = types_methods (with_members most d.members) ds

types_fields : (most : Most) (ds : List TypeDecl) → (types_most most ds).fields ≡ most.fields
types_fields most [] = refl
types_fields most (d ∷ ds) = types_fields (with_members most d.members) ds

types_parameters : (most : Most) (ds : List TypeDecl) → (types_most most ds).parameters ≡ greatest most.parameters (types_params ds)
types_parameters most [] = refl
types_parameters most (d ∷ ds) =
    types_parameters (with_members most d.members) ds ∙ sym (greatest-append most.parameters (member_params d.members) (types_params ds))

modules_all : (most : Most) (ms : List ModuleTree) → modules_most most ms ≡ all_most most (module_parts ms)
modules_all most [] = refl
modules_all most (m ∷ ms) =
    modules_all (parts_most (with_parts most m.parts) m.parts) ms
    ∙ ap (λ k. all_most k (module_parts ms)) (parts_all (with_parts most m.parts) m.parts)
    ∙ sym (all_most-append (with_parts most m.parts) (parts_literals m.parts) (module_parts ms))

programs_all : (most : Most) (gs : List ProgramTree) → programs_most most gs ≡ all_most most (program_parts gs)
programs_all most [] = refl
programs_all most (g ∷ gs) =
    programs_all (tail_most most g.body) gs ∙ ap (λ k. all_most k (program_parts gs)) (tail_all most g.body)
    ∙ sym (all_most-append most (tail_literals g.body) (program_parts gs))

both_all : (most : Most) (ms : List ModuleTree) (gs : List ProgramTree) → programs_most (modules_most most ms) gs ≡ all_most most (module_parts ms ++ program_parts gs)
both_all most ms gs =
    programs_all (modules_most most ms) gs ∙ ap (λ k. all_most k (program_parts gs)) (modules_all most ms)
    ∙ sym (all_most-append most (module_parts ms) (program_parts gs))

module _ (d : Declared) where
  heads_most : Most
  heads_most = with_parameters (types_most no_counts d.types) (greatest ((types_most no_counts d.types).parameters) (module_params d.modules))

  most_methods : nat_lt 128 ((declared_most d).methods) ≡ passes limit.Methods d
  unfolding heads_most
  most_methods =
      ap (λ (m : Most). nat_lt 128 m.methods) (both_all heads_most d.modules d.programs)
      ∙ ap (nat_lt 128) (all_methods heads_most (all_parts d))
      ∙ ap (λ n. nat_lt 128 (greatest n (map method_count (all_parts d)))) (types_methods no_counts d.types)
      ∙ ap (nat_lt 128) (sym (greatest-append 0 (map (λ (c : TypeDecl). signature_count c.members) d.types) (map method_count (all_parts d))))
      ∙ greatest_some 128 (counts_of limit.Methods d)

  most_fields : nat_lt 128 ((declared_most d).fields) ≡ passes limit.Fields d
  unfolding heads_most
  most_fields =
      ap (λ (m : Most). nat_lt 128 m.fields) (both_all heads_most d.modules d.programs)
      ∙ ap (nat_lt 128) (all_fields heads_most (all_parts d))
      ∙ ap (λ n. nat_lt 128 (greatest n (map field_count (all_parts d)))) (types_fields no_counts d.types)
      ∙ greatest_some 128 (counts_of limit.Fields d)

  most_parameters : nat_lt 16 ((declared_most d).parameters) ≡ passes limit.Parameters d
  unfolding heads_most
  most_parameters =
      ap (λ (m : Most). nat_lt 16 m.parameters) (both_all heads_most d.modules d.programs)
      ∙ ap (nat_lt 16) (all_parameters heads_most (all_parts d))
      ∙ ap (λ n. nat_lt 16 (greatest (greatest n (module_params d.modules)) (parts_params (all_parts d)))) (types_parameters no_counts d.types)
      ∙ ap (λ n. nat_lt 16 (greatest n (parts_params (all_parts d)))) (sym (greatest-append 0 (types_params d.types) (module_params d.modules)))
      ∙ ap (nat_lt 16) (sym (greatest-append 0 (types_params d.types ++ module_params d.modules) (parts_params (all_parts d))))
      ∙ ap (λ l. nat_lt 16 (greatest 0 l)) (append_assoc (types_params d.types) (module_params d.modules) (parts_params (all_parts d)))
      ∙ greatest_some 16 (counts_of limit.Parameters d)

  most_grants : nat_lt 64 (greatest 0 (grant_counts d.programs)) ≡ passes limit.Grants d
  most_grants = greatest_some 64 (counts_of limit.Grants d)

  one_above : (n m : ℕ) → nat_lt n m ≡ some_above n (m ∷ [])
  one_above n m = (let P : Bool → Type 0 = λ b. b ≡ b || false in elim (nat_lt n m) as P [ true ↦ refl | false ↦ refl ])

  tried : (l : LimitName) (b c : Bool) (r s : Option LimitName) → b ≡ c → r ≡ s → (if b then Some l else r) ≡ (if c then Some l else s)
  tried l b c r s e f = ap (λ x. if x then Some l else r) e ∙ ap (λ y. if c then Some l else y) f

  -- the limits in their order, by one count for each
  abbrev pub greatest_counts : List (LimitName × ℕ)
  greatest_counts =
      (limit.Types, length d.types) ∷ (limit.Modules, length d.modules) ∷ (limit.Grants, greatest 0 (grant_counts d.programs)) ∷
      (limit.Methods, (declared_most d).methods) ∷ (limit.Fields, (declared_most d).fields) ∷ (limit.Parameters, (declared_most d).parameters) ∷ []

  pub first_limit : first_over greatest_counts ≡ first_passed early_limits d
  first_limit =
      tried limit.Types _ _ _ _ (one_above 1024 (length d.types))
      (tried limit.Modules _ _ _ _ (one_above 256 (length d.modules))
      (tried limit.Grants _ _ _ _ most_grants
      (tried limit.Methods _ _ _ _ most_methods
      (tried limit.Fields _ _ _ _ most_fields
      (tried limit.Parameters _ _ _ _ most_parameters refl)))))

  abbrev pub four_counts : ℕ → ℕ → ℕ → Most → List (LimitName × ℕ)
  four_counts a b g m =
      (limit.Types, a) ∷ (limit.Modules, b) ∷ (limit.Grants, g) ∷ (limit.Methods, m.methods) ∷ (limit.Fields, m.fields) ∷ (limit.Parameters, m.parameters) ∷ []

  pub first_counted : (a b g : ℕ) (m : Most) → a ≡ length d.types → b ≡ length d.modules → g ≡ greatest 0 (grant_counts d.programs) → m ≡ declared_most d →
      first_over (four_counts a b g m) ≡ first_passed early_limits d
  first_counted a b g m e f h k =
      ap (λ (x : ℕ). first_over (four_counts x b g m)) e ∙ ap (λ (x : ℕ). first_over (four_counts (length d.types) x g m)) f
      ∙ ap (λ (x : ℕ). first_over (four_counts (length d.types) (length d.modules) x m)) h
      ∙ ap (λ (x : Most). first_over (four_counts (length d.types) (length d.modules) (greatest 0 (grant_counts d.programs)) x)) k
      ∙ first_limit

------------------------------------------------------------
-- More limits behind others

pub passed_early : (ls more : List LimitName) (d : Declared) (l : LimitName) → first_passed ls d ≡ Some l → first_passed (ls ++ more) d ≡ Some l
passed_early [] more d l h = cc
passed_early (k ∷ ls) more d l h =
    let P : Bool → Type 0 = λ b. (if b then Some k else first_passed ls d) ≡ Some l → (if b then Some k else first_passed (ls ++ more) d) ≡ Some l in
    (elim (passes k d) as P [ true ↦ λ g. g | false ↦ λ g. passed_early ls more d l g ]) h

pub passed_late : (ls more : List LimitName) (d : Declared) → first_passed ls d ≡ None → first_passed (ls ++ more) d ≡ first_passed more d
passed_late [] more d h = refl
passed_late (k ∷ ls) more d h =
    let P : Bool → Type 0 = λ b. (if b then Some k else first_passed ls d) ≡ None → (if b then Some k else first_passed (ls ++ more) d) ≡ first_passed more d in
    (elim (passes k d) as P [ true ↦ λ g. cc | false ↦ λ g. passed_late ls more d g ]) h

-- where no limit is passed none of them is
first_is : (b : Bool) (k : LimitName) (r : Option LimitName) → (if b then Some k else r) ≡ None → b ≡ false
first_is true k r h = cc
first_is false k r h = refl

later_is : (b : Bool) (k : LimitName) (r : Option LimitName) → (if b then Some k else r) ≡ None → r ≡ None
later_is true k r h = cc
later_is false k r h = h

pub few_types : (d : Declared) → first_passed early_limits d ≡ None → length d.types ≤ 1024
few_types d h =
    let none : nat_lt 1024 (length d.types) ≡ false = one_above d 1024 (length d.types) ∙ first_is (passes limit.Types d) limit.Types _ h in
    grind (arith, common_steps, none)

-- of modules too
pub few_modules : (d : Declared) → first_passed early_limits d ≡ None → length d.modules ≤ 256
few_modules d h =
    let rest : first_passed (limit.Modules ∷ limit.Grants ∷ limit.Methods ∷ limit.Fields ∷ limit.Parameters ∷ []) d ≡ None = later_is (passes limit.Types d) limit.Types _ h in
    let none : nat_lt 256 (length d.modules) ≡ false = one_above d 256 (length d.modules) ∙ first_is (passes limit.Modules d) limit.Modules _ rest in
    grind (arith, common_steps, none)

pub some_above-append : (n : ℕ) (xs ys : List ℕ) → some_above n (xs ++ ys) ≡ some_above n xs || some_above n ys
some_above-append n [] ys = refl
some_above-append n (x ∷ xs) ys =
    ap (λ b. nat_lt n x || b) (some_above-append n xs ys) ∙ sym (either_order (nat_lt n x) (some_above n xs) (some_above n ys))

-- the three kinds of counts of atoms
pub atoms_above : (d : Declared) →
    passes limit.Atoms d ≡
    some_above 512 (abstract_counts d.types) ||
    (some_above 512 (map (module_count (all_names d.types) d.modules (type_counts d.types)) d.modules) ||
    some_above 512 (map (program_count (all_names d.types) d.modules (type_counts d.types)) d.programs))
atoms_above d =
    let ms = map (module_count (all_names d.types) d.modules (type_counts d.types)) d.modules in
    let gs = map (program_count (all_names d.types) d.modules (type_counts d.types)) d.programs in
    some_above-append 512 (abstract_counts d.types) (ms ++ gs) ∙ ap (λ b. some_above 512 (abstract_counts d.types) || b) (some_above-append 512 ms gs)

-- by what each kind has been found to do
pub atoms_found : (d : Declared) (names : List (List ℕ)) (counts : List ℕ) (a m g : Bool) → names ≡ all_names d.types → counts ≡ type_counts d.types →
    a ≡ some_above 512 (abstract_counts d.types) → m ≡ some_above 512 (map (module_count names d.modules counts) d.modules) →
    g ≡ some_above 512 (map (program_count names d.modules counts) d.programs) → a || (m || g) ≡ passes limit.Atoms d
atoms_found d names counts a m g en ec ea em eg =
    ap (λ (x : Bool). x || (m || g)) ea
    ∙ ap (λ (x : Bool). some_above 512 (abstract_counts d.types) || (x || g)) (em
    ∙ ap (λ (ns : List (List ℕ)). some_above 512 (map (module_count ns d.modules counts) d.modules)) en
    ∙ ap (λ (cs : List ℕ). some_above 512 (map (module_count (all_names d.types) d.modules cs) d.modules)) ec)
    ∙ ap (λ (x : Bool). some_above 512 (abstract_counts d.types) || (some_above 512 (map (module_count (all_names d.types) d.modules (type_counts d.types)) d.modules) || x)) (eg
    ∙ ap (λ (ns : List (List ℕ)). some_above 512 (map (program_count ns d.modules counts) d.programs)) en
    ∙ ap (λ (cs : List ℕ). some_above 512 (map (program_count (all_names d.types) d.modules cs) d.programs)) ec)
    ∙ sym (atoms_above d)

pub last_limit : (d : Declared) (b : Bool) → first_passed early_limits d ≡ None → passes limit.Atoms d ≡ b → first_passed limits d ≡ (if b then Some limit.Atoms else None)
last_limit d b h e = passed_late early_limits (limit.Atoms ∷ []) d h ∙ ap (λ c. if c then Some limit.Atoms else None) e
