-- The methods of a scope have names among the tokens of its item, and its literals are no more than these: so both are ordinary where those are words.
use Rattle.std.proofs.Common.{◌≤◌, true, false, List, [], ◌∷◌, length, inl, inr, refl, sym, subst, arith}
use Rattle.wy_text.specs.declared.limit.LimitName.TheVariants.{Tokens}
use Rattle.wy_text.specs.LimitName.{limit_number}
use Rattle.wy_syntax.specs.Tokens.{Tok}
use Rattle.wy_syntax.specs.Trees.{InsideTree, ItemTree, PartTrees, TailTree, type_item, pure_item, resource_item, plain_item, program_item}
use Rattle.wy_syntax.specs.Grammar.{SpellsInside, SpellsItem}
use Rattle.wy_text.specs.Members.{In}
use Rattle.wy_text.proofs.Lists.{In-cases}
use Rattle.wy_types.specs.Program.{Scope}
use Rattle.wy_symbols.specs.declared.scoping.Head.{Head}
use Rattle.wy_symbols.specs.Declarations.{ModuleTree, ProgramTree, item_modules, item_programs, types_of, modules_of, programs_of}
use Rattle.wy_symbols.specs.Atoms.{heads_of}
use Rattle.wy_names.specs.Scopes.{module_within, program_within, scope_of_module, scope_of_program}
use Rattle.wy_bodies.specs.Sight.{outermost, inside}
use Rattle.wy_bodies.specs.Bodies.{Within, at_start, literal_of, parts_literals, parts_bodies, tail_literals, tail_bodies}
use Rattle.wy_syntax.specs.OwnWords.{HasWords, HaveWords}
use Rattle.wy_well_formed.specs.WellFormed.{ResolvedNamesAreOrdinary}
use Rattle.wy_well_formed.proofs.EachScope.{each_scope}
use Rattle.wy_well_formed.proofs.NamesAreWords.{no_stop, own_names}
use Rattle.wy_well_formed.proofs.SpelledBodies.{AreMethods, Tells, tells_none, of_first, of_second, of_literal, of_lines, parts_tell, indented_tells, tail_tells}

------------------------------------------------------------
-- Modules

-- what tokens tell of the parts of a module
abbrev PartsTell : Within → PartTrees → List Tok → Type 0
PartsTell w ps u = Tells (parts_literals w outermost (inside outermost ps) at_start ps) (parts_bodies w outermost (inside outermost ps) 0 at_start ps) u

-- and of the module, which is the first literal of its scope
abbrev ModuleTells : Within → PartTrees → List Tok → Type 0
ModuleTells w ps u =
    Tells (literal_of w outermost ps ∷ parts_literals w outermost (inside outermost ps) at_start ps) (parts_bodies w outermost (inside outermost ps) 0 at_start ps) u

inside_tells : (w : Within) (i : InsideTree) (u : List Tok) → SpellsInside i u → PartsTell w i.parts u
inside_tells w i u (inl h) = subst (λ (v : InsideTree). PartsTell w v.parts u) (sym h.0) tells_none
inside_tells w i u (inr x) =
    let a = x.second.first in
    let b = a.second in
    let c = b.second in
    let d = c.second in
    of_lines x (of_second a (of_second b (of_second c (of_second d (parts_tell w outermost (inside outermost i.parts) 0 at_start false i.parts d.back d.second)))))

item_module : (w : Within) (i : ItemTree) (m : ModuleTree) → In m (item_modules i) → (u : List Tok) → SpellsItem i u → ModuleTells w m.parts u
item_module w (type_item d) m i u x = absurd i
item_module w (pure_item p n sealed within) m (inl e) u x =
    let a = x.second in
    let b = a.second in
    let c = b.second in
    let d = c.second in
    subst (λ (v : ModuleTree). ModuleTells w v.parts u) e
    (of_literal (literal_of w outermost within.parts) x (of_second a (of_second b (of_second c (of_second d (inside_tells w within d.back d.second))))))
item_module w (pure_item p n sealed within) m (inr i) u x = absurd i
item_module w (resource_item p n params sealed within) m (inl e) u x =
    let a = x.second in
    let b = a.second in
    let c = b.second in
    let d = c.second in
    let f = d.second in
    let g = f.second in
    subst (λ (v : ModuleTree). ModuleTells w v.parts u) e
    (of_literal (literal_of w outermost within.parts) x (of_second a (of_second b (of_second c (of_second d (of_second f (of_second g (inside_tells w within g.back g.second))))))))
item_module w (resource_item p n params sealed within) m (inr i) u x = absurd i
item_module w (plain_item p n params sealed parts) m (inl e) u x =
    let a = x.second in
    let b = a.second in
    let c = b.second in
    let d = c.second in
    let f = d.second in
    let g = f.second in
    subst (λ (v : ModuleTree). ModuleTells w v.parts u) e
    (of_literal (literal_of w outermost parts) x (of_second a (of_second b (of_second c (of_second d (of_second f (of_second g
    (indented_tells w outermost (inside outermost parts) 0 at_start true parts g.back g.second))))))))
item_module w (plain_item p n params sealed parts) m (inr i) u x = absurd i
item_module w (program_item p grants uses lines run effect body) m i u x = absurd i

------------------------------------------------------------
-- The program

-- its first literal has no parts
abbrev ProgramTells : Within → TailTree → List Tok → Type 0
ProgramTells w b u = Tells (record { captures = []; fields = [] } ∷ tail_literals w outermost at_start b) (tail_bodies w outermost at_start b) u

item_program : (w : Within) (i : ItemTree) (g : ProgramTree) → In g (item_programs i) → (u : List Tok) → SpellsItem i u → ProgramTells w g.body u
item_program w (type_item d) g i u x = absurd i
item_program w (pure_item p n sealed within) g i u x = absurd i
item_program w (resource_item p n params sealed within) g i u x = absurd i
item_program w (plain_item p n params sealed parts) g i u x = absurd i
item_program w (program_item p grants uses lines run effect body) g (inl e) u x =
    let a = x.second in
    let b = a.second in
    let c = b.second in
    let d = c.second in
    let f = d.second in
    let j = f.second in
    let k = j.second in
    let l = k.second in
    let o = l.second in
    subst (λ (v : ProgramTree). ProgramTells w v.body u) e
    (of_literal (record { captures = []; fields = [] }) x (of_second a (of_second b (of_second c (of_second d (of_second f (of_second j (of_second k (of_second l (of_first o
    (tail_tells w outermost at_start false body o.front o.first)))))))))))
item_program w (program_item p grants uses lines run effect body) g (inr i) u x = absurd i

------------------------------------------------------------
-- All scopes

-- no more literals than a file may have tokens, and methods named by words
record IsTold (s : Scope) : Type 0 where
  few : length s.literals ≤ limit_number Tokens
  methods : AreMethods s.bodies

-- what the tokens of its item tell of a scope
told : (s : Scope) (i : ItemTree) → HasWords i → ((u : List Tok) → SpellsItem i u → Tells s.literals s.bodies u) → IsTold s
told s i h f = let t = f h.0 h.1 in record { few = (let a = t.few in let b = h.3 in omega (arith, a, b)); methods = t.methods h.2 }

module _ (heads : List Head) (modules : List ModuleTree) where
  module_told : (items : List ItemTree) (m : ModuleTree) → In m (modules_of items) → HaveWords items → IsTold (scope_of_module heads modules m)
  module_told [] m i h = absurd i
  module_told (x ∷ items) m i h = elim (In-cases m (item_modules x) (modules_of items) i) [
    | inl j ↦ told (scope_of_module heads modules m) x h.0 (item_module (module_within heads modules m) x m j)
    | inr j ↦ module_told items m j h.1
  ]

  program_told : (items : List ItemTree) (g : ProgramTree) → In g (programs_of items) → HaveWords items → IsTold (scope_of_program heads modules g)
  program_told [] g i h = absurd i
  program_told (x ∷ items) g i h = elim (In-cases g (item_programs x) (programs_of items) i) [
    | inl j ↦ told (scope_of_program heads modules g) x h.0 (item_program (program_within heads modules g) x g j)
    | inr j ↦ program_told items g j h.1
  ]

pub names_are_ordinary : ResolvedNamesAreOrdinary
names_are_ordinary items p r h =
    let modules = modules_of items in
    let heads = heads_of (types_of items) in
    let Q : List ProgramTree → Type 0 = λ gs. In r.program gs in
    let mine : In r.program (programs_of items) = subst Q (sym r.one) (inl refl) in
    let all = each_scope items p r IsTold (λ m i. module_told heads modules items m i h) (program_told heads modules items r.program mine h) in
    record {
      own_names = λ s i n j. (own_names items p r h s i n j).1;
      methods = λ s i b j. (let word = (all s i).methods b j in (no_stop b.signature.name word.0, word.2, word.3));
      literals = λ s i. (let few : length s.literals ≤ 262144 = (all s i).few in omega (arith, few));
    }
