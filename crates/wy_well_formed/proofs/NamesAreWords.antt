-- Own names are the words that the items give them, which are names among the tokens of these: so they are plain where those are words.
use Rattle.std.proofs.Common.{◌≡◌, ℕ, List, [], ◌∷◌, ◌++◌, map, inl, inr, refl, sym, subst}
use Rattle.std.specs.List.{AllByRecursion}
use Rattle.wy_syntax.specs.declared.types.Name.{Name}
use Rattle.wy_syntax.specs.Trees.{ItemTree, type_item, pure_item, resource_item, plain_item, program_item}
use Rattle.wy_text.specs.Members.{In}
use Rattle.wy_text.proofs.Lists.{In-map, In-unmap, In-cases}
use Rattle.wy_types.specs.declared.resolved.OwnName.{OwnName}
use Rattle.wy_types.specs.Types.{is_plain}
use Rattle.wy_types.specs.Program.{Program, Scope}
use Rattle.wy_symbols.specs.declared.scoping.Head.{Head}
use Rattle.wy_symbols.specs.Declarations.{ModuleTree, ProgramTree, texts, item_modules, item_programs, types_of, modules_of, programs_of}
use Rattle.wy_symbols.specs.Atoms.{heads_of}
use Rattle.wy_symbols.specs.TypeUses.{param_names}
use Rattle.wy_heads.specs.Lines.{param_name, grant_name}
use Rattle.wy_names.specs.Names.{Resolves}
use Rattle.wy_heads.specs.ScopeHeads.{grant_names, line_words, param_scope, module_own, module_atoms, early_owners, program_scope, program_own, program_atoms, grant_owners}
use Rattle.wy_syntax.specs.OwnWords.{IsWord, HaveWords}
use Rattle.wy_well_formed.specs.WellFormed.{ResolvedNamesAreWords}
use Rattle.wy_well_formed.proofs.EachScope.{each_scope}
use Rattle.wy_well_formed.proofs.OwnApart.{own_texts, param_texts, grant_texts, all_texts}
use Rattle.wy_well_formed.proofs.ItemWords.{own_words, AreNamed, named_append, own_named}

named_among : (ns : List Name) → AreNamed ns → (n : Name) → In n ns → IsWord n.text
named_among [] h n i = absurd i
named_among (m ∷ ns) h n (inl e) = subst (λ (v : Name). IsWord v.text) e h.0
named_among (m ∷ ns) h n (inr i) = named_among ns h.1 n i

abbrev IsUnbroken : List ℕ → Type 0
IsUnbroken bytes = AllByRecursion (λ b. (b ≡ 32 → ⊥) × (b ≡ 46 → ⊥)) bytes

no_space : (bytes : List ℕ) → IsUnbroken bytes → In 32 bytes → ⊥
no_space [] h i = i
no_space (b ∷ bytes) h (inl e) = h.0.0 e
no_space (b ∷ bytes) h (inr i) = no_space bytes h.1 i

pub no_stop : (bytes : List ℕ) → IsUnbroken bytes → In 46 bytes → ⊥
no_stop [] h i = i
no_stop (b ∷ bytes) h (inl e) = h.0.1 e
no_stop (b ∷ bytes) h (inr i) = no_stop bytes h.1 i

-- own names with the texts of words
are_words : (names : List OwnName) (ns : List Name) → own_texts names ≡ texts ns → AreNamed ns → (n : OwnName) → In n names → IsWord n.name
are_words names ns e h n i =
    let P : List (List ℕ) → Type 0 = λ l. In n.name l in
    let r = In-unmap (λ (m : Name). m.text) n.name ns (subst P e (In-map (λ (m : OwnName). m.name) n names i)) in
    subst (λ v. IsWord v) r.2 (named_among ns h r.0 r.1)

------------------------------------------------------------
-- Modules

abbrev module_words : ModuleTree → List Name
module_words m = param_names m.params ++ (m.uses ++ line_words m.lines)

item_module : (i : ItemTree) (m : ModuleTree) → In m (item_modules i) → AreNamed (own_words i) → AreNamed (module_words m)
item_module (type_item d) m i h = absurd i
item_module (pure_item place name sealed inside) m (inl e) h = let P : ModuleTree → Type 0 = λ v. AreNamed (module_words v) in subst P e h
item_module (pure_item place name sealed inside) m (inr i) h = absurd i
item_module (resource_item place name params sealed inside) m (inl e) h = let P : ModuleTree → Type 0 = λ v. AreNamed (module_words v) in subst P e h
item_module (resource_item place name params sealed inside) m (inr i) h = absurd i
item_module (plain_item place name params sealed parts) m (inl e) h =
    let P : ModuleTree → Type 0 = λ v. AreNamed (module_words v) in
    subst P e (named_append (param_names params) [] h tt)
item_module (plain_item place name params sealed parts) m (inr i) h = absurd i
item_module (program_item place grants uses lines run effect body) m i h = absurd i

words_of_module : (items : List ItemTree) (m : ModuleTree) → In m (modules_of items) → HaveWords items → AreNamed (module_words m)
words_of_module [] m i h = absurd i
words_of_module (x ∷ items) m i h =
    elim (In-cases m (item_modules x) (modules_of items) i) [ inl j ↦ item_module x m j (own_named x h.0) | inr j ↦ words_of_module items m j h.1 ]

module_names : (heads : List Head) (modules : List ModuleTree) (m : ModuleTree) → AreNamed (module_words m) → (n : OwnName) →
    In n (module_own heads modules m) → IsWord n.name
module_names heads modules m h =
    let first = map (param_name (param_scope heads modules m) (is_plain m.kind)) m.params in
    are_words (module_own heads modules m) (module_words m)
    (all_texts heads modules (module_atoms heads modules m) first (param_names m.params) m.uses (early_owners heads modules m) m.lines
    (param_texts (param_scope heads modules m) (is_plain m.kind) m.params)) h

------------------------------------------------------------
-- The program

abbrev program_words : ProgramTree → List Name
program_words g = grant_names g.grants ++ (g.uses ++ line_words g.lines)

item_program : (i : ItemTree) (g : ProgramTree) → In g (item_programs i) → AreNamed (own_words i) → AreNamed (program_words g)
item_program (type_item d) g i h = absurd i
item_program (pure_item place name sealed inside) g i h = absurd i
item_program (resource_item place name params sealed inside) g i h = absurd i
item_program (plain_item place name params sealed parts) g i h = absurd i
item_program (program_item place grants uses lines run effect body) g (inl e) h = let P : ProgramTree → Type 0 = λ v. AreNamed (program_words v) in subst P e h
item_program (program_item place grants uses lines run effect body) g (inr i) h = absurd i

words_of_program : (items : List ItemTree) (g : ProgramTree) → In g (programs_of items) → HaveWords items → AreNamed (program_words g)
words_of_program [] g i h = absurd i
words_of_program (x ∷ items) g i h =
    elim (In-cases g (item_programs x) (programs_of items) i) [ inl j ↦ item_program x g j (own_named x h.0) | inr j ↦ words_of_program items g j h.1 ]

program_names : (heads : List Head) (modules : List ModuleTree) (g : ProgramTree) → AreNamed (program_words g) → (n : OwnName) →
    In n (program_own heads modules g) → IsWord n.name
program_names heads modules g h =
    let first = map (grant_name (program_scope heads modules g)) g.grants in
    are_words (program_own heads modules g) (program_words g)
    (all_texts heads modules (program_atoms heads modules g) first (grant_names g.grants) g.uses (grant_owners heads modules g) g.lines
    (grant_texts (program_scope heads modules g) g.grants)) h

------------------------------------------------------------
-- All scopes

pub own_names : (items : List ItemTree) (p : Program) → Resolves items p → HaveWords items → (s : Scope) → In s p.scopes → (n : OwnName) → In n s.names → IsWord n.name
own_names items p r h =
    let modules = modules_of items in
    let heads = heads_of (types_of items) in
    let P : Scope → Type 0 = λ v. (n : OwnName) → In n v.names → IsWord n.name in
    let Q : List ProgramTree → Type 0 = λ gs. In r.program gs in
    let mine : In r.program (programs_of items) = subst Q (sym r.one) (inl refl) in
    each_scope items p r P
    (λ m i. module_names heads modules m (words_of_module items m i h))
    (program_names heads modules r.program (words_of_program items r.program mine h))

pub names_are_words : ResolvedNamesAreWords
names_are_words items p r h s i n j = let word = own_names items p r h s i n j in (no_space n.name word.0, no_stop n.name word.0)
