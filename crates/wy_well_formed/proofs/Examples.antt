-- A small program resolved by hand: what its own names open, which types they have and that they are plain, where its grant stands, which
-- literals its bodies make and capture, that none of these is the program's own, and that this has no fields; and how `val`s are numbered.
--
--   type Log
--     effect Put
--   resource module log(disk: Folder): Log
--   program
--     grant disk: Folder
--     instance lg = log(disk)
--     import pl = log(disk) at {lg.Put}
use Rattle.std.proofs.Common.{◌≡◌, ℕ, zero, suc, ◌<◌, List, [], ◌∷◌, ◌++◌, true, false, Some, None, inl, inr, refl, ap, ◌∙◌, subst, arith}
use Rattle.std.specs.Prelude.{codes, slice_get, pos, replicate}
use Rattle.wy_text.specs.declared.fault.Place.{Place}
use Rattle.wy_syntax.specs.declared.types.Name.{Name}
use Rattle.wy_syntax.specs.declared.types.Signature.{Signature}
use Rattle.wy_syntax.specs.Trees as t
use Rattle.wy_text.specs.Members.{In}
use Rattle.wy_types.specs.declared.types.TypeRef.{TypeRef}
use Rattle.wy_types.specs.declared.types.TypeRef.TheVariants.{Int, Named, At}
use Rattle.wy_types.specs.declared.resolved.ScopeKind.TheVariants.{Resource, Program as Main}
use Rattle.wy_types.specs.declared.resolved.Origin.{Origin}
use Rattle.wy_types.specs.declared.resolved.Origin.TheVariants.{Parameter, Grant, Instance, Import}
use Rattle.wy_types.specs.declared.resolved.OwnName.{OwnName}
use Rattle.wy_types.specs.declared.resolved.Literal.{Literal}
use Rattle.wy_types.specs.declared.code.Variable.TheVariants.{Local}
use Rattle.wy_types.specs.Primitive.{primitive_type, primitive_types}
use Rattle.wy_types.specs.Code.{Plain, New, Nothing, none, more, Block, Last, Then, Val}
use Rattle.wy_types.specs.Program.{Program, Scope, Body, Init, Run}
use Rattle.wy_types.specs.Ground.{single_sets}
use Rattle.wy_types.specs.Core.{AreNumbered, ScopeFits}
use Rattle.wy_types.specs.Vals.{literal_captures, literal_fields, scope_vals}
use Rattle.wy_bodies.specs.Sight.{outermost}
use Rattle.wy_bodies.specs.Bodies.{Within, at_start, stmts_block, stmts_bodies}
use Rattle.wy_rules.specs.OwnNames.{names_bounds, opened_count, HasItsType, HaveTheirTypes, IsPlainName, GrantsStandFirst, ModulesCaptureNothing}
use Rattle.wy_rules.specs.News.{scope_news}
use Rattle.wy_rules.specs.Resolved.{MainHasNoFields}
use Rattle.wy_syntax.specs.OwnWords.{IsWord}
use Rattle.wy_well_formed.specs.ValPlaces.{val_at, stmts_val_places, block_vals_at, bodies_vals_at}

nowhere : Place
nowhere = record { file = 0; line = 0; column = 0 }

abbrev named : List ℕ → TypeRef → Origin → OwnName
named name typ origin = record { name = name; place = nowhere; typ = typ; origin = origin }

-- the folder has the atoms 0 to 3, the instance the atom 4
abbrev disk : OwnName
disk = named (codes "disk") (Named 1 ((0 ∷ []) ∷ (1 ∷ []) ∷ (2 ∷ []) ∷ (3 ∷ []) ∷ [])) Grant

abbrev lg : OwnName
lg = named (codes "lg") (Named 5 ((4 ∷ []) ∷ [])) (Instance 0 (0 ∷ []))

abbrev pl : OwnName
pl = named (codes "pl") (At 5 (4 ∷ [])) (Import 0 (0 ∷ []) (4 ∷ []))

-- a literal that captures nothing, and one that captures a `val`
abbrev nothing : Literal
nothing = record { captures = []; fields = [] }

abbrev captured : Literal
captured = record { captures = Local 0 ∷ []; fields = [] }

-- the module, whose own literal is given
abbrev log_with : Literal → Scope
log_with own = record {
  kind = Resource;
  name = codes "log";
  place = nowhere;
  atoms = [];
  bounds = [];
  names = named (codes "disk") (Named 1 (single_sets 0 (codes "Read" ∷ codes "Write" ∷ codes "Append" ∷ codes "List" ∷ []))) (Parameter true) ∷ [];
  ascribed = Some 5;
  definitions = [];
  literals = own ∷ [];
  start_place = nowhere;
  start_effect = [];
  start = Init none;
  bodies = [];
}

abbrev log : Scope
log = log_with nothing

-- two literals are made one in the other, and one in a `val`
abbrev made : Block
made = Then (Plain (New nowhere 1 (more (Plain (New nowhere 2 none)) none))) (Val nowhere 0 None (Plain (New nowhere 3 none)) (Last (Plain (Nothing nowhere))))

-- the program's scope with these bodies
abbrev main_with : List Body → Scope
main_with methods = record {
  kind = Main;
  name = codes "main";
  place = nowhere;
  atoms = [];
  bounds = [];
  names = disk ∷ lg ∷ pl ∷ [];
  ascribed = None;
  definitions = [];
  literals = nothing ∷ captured ∷ nothing ∷ nothing ∷ [];
  start_place = nowhere;
  start_effect = [];
  start = Run made;
  bodies = methods;
}

abbrev main : Scope
main = main_with []

abbrev program : Program
program = record { declarations = primitive_types ++ primitive_type (codes "Log") (codes "Put" ∷ []) [] ∷ []; scopes = log ∷ main ∷ [] }

names_open : opened_count program (main.names) ≡ 5
names_open = refl

names_have_types : HaveTheirTypes program 0 (main.names)
names_have_types = ((1, refl), (refl, (((omega arith, omega arith, tt), refl), tt)))

-- with the grant's atoms the instance has not its type
other_atoms : HasItsType program 4 (named (codes "lg") (Named 5 ((0 ∷ []) ∷ [])) (Instance 0 (0 ∷ []))) (Instance 0 (0 ∷ [])) → ⊥
other_atoms e = cc

-- where the type has a second member below the first, that atom of the instance is bounded by the first one's
abbrev bounded : Program
bounded = record {
  declarations = primitive_types ++ record { name = codes "Log"; members = codes "Put" ∷ codes "All" ∷ []; bounds = None ∷ Some (0 ∷ []) ∷ []; defined = []; methods = [] } ∷ [];
  scopes = log ∷ main ∷ [];
}

names_are_bounded : names_bounds bounded 0 (main.names) ≡ replicate 4 None ++ None ∷ Some (4 ∷ []) ∷ []
names_are_bounded = refl

parameter_opens : opened_count program (log.names) ≡ 4
parameter_opens = refl

made_once : scope_news main ≡ 1 ∷ 2 ∷ 3 ∷ []
made_once = refl

-- the literal 1 captures, and the literal 0 of no scope does
abbrev CapturesNothing : Scope → Type 0
CapturesNothing s = literal_captures (slice_get s.literals 0) ≡ []

nothing_captured : ModulesCaptureNothing program
nothing_captured s (inl same) = subst CapturesNothing same refl
nothing_captured s (inr (inl same)) = subst CapturesNothing same refl
nothing_captured s (inr (inr i)) = absurd i

capturing : ModulesCaptureNothing (record { declarations = []; scopes = log_with captured ∷ main ∷ [] }) → ⊥
capturing h = absurd (let t = h (log_with captured) (inl refl) in cc)

-- the program's own object has no fields, and would not be one with a field
abbrev IsBare : Scope → Type 0
IsBare s = s.kind ≡ Main → literal_fields (slice_get s.literals 0) ≡ []

main_is_bare : MainHasNoFields program
main_is_bare s (inl same) = subst IsBare same (λ e. absurd (cc))
main_is_bare s (inr (inl same)) = subst IsBare same (λ e. refl)
main_is_bare s (inr (inr i)) = absurd i

abbrev with_field : Scope
with_field = record main { literals = record { captures = []; fields = record { name = codes "f"; place = nowhere; mutable = false; typ = Int } ∷ [] } ∷ [] }

field_is_none : MainHasNoFields (record { declarations = []; scopes = with_field ∷ [] }) → ⊥
field_is_none h = absurd (let e = h with_field (inl refl) refl in cc)

-- the grant stands first, and would not behind the instance
grant_first : GrantsStandFirst (main.names)
grant_first = ((λ m i e. refl), ((λ m i e. others m i e), ((λ m i e. absurd i), tt)))
  where
    others : (m : OwnName) → In m (pl ∷ []) → m.origin ≡ Grant → lg.origin ≡ Grant
    others m (inl same) e = absurd (let t = ap (λ (n : OwnName). n.origin) same ∙ e in cc)
    others m (inr i) e = absurd i

grant_behind : GrantsStandFirst (lg ∷ disk ∷ []) → ⊥
grant_behind h = absurd (let t = h.0 disk (inl refl) refl in cc)

-- a plain name, and those of the instances that a line brings with it and of a used module
plain_name : IsPlainName (codes "lg")
plain_name = (in_neither 32 (λ e. cc) (λ e. cc), in_neither 46 (λ e. cc) (λ e. cc))
  where
    in_neither : (b : ℕ) → (108 ≡ b → ⊥) → (103 ≡ b → ⊥) → In b (codes "lg") → ⊥
    in_neither b l g (inl e) = l e
    in_neither b l g (inr (inl e)) = g e
    in_neither b l g (inr (inr i)) = i

brought_name : IsPlainName (codes "a.b") → ⊥
brought_name h = h.1 (inr (inl refl))

used_name : IsPlainName (codes "pure log") → ⊥
used_name h = h.0 (inr (inr (inr (inr (inl refl)))))

-- the word that such a name is, and names that no item of words has
word : IsWord (codes "lg")
word = ((((λ e. cc), (λ e. cc)), (((λ e. cc), (λ e. cc)), tt)), (λ e. cc), (λ e. cc), (λ e. cc))

brought_is_none : IsWord (codes "a.b") → ⊥
brought_is_none h = h.0.1.0.1 refl

program_is_none : IsWord (codes "main") → ⊥
program_is_none h = h.1 refl

start_is_none : IsWord (codes "init") → ⊥
start_is_none h = h.2 refl

------------------------------------------------------------
-- The program's own body is its start

own_method : Body
own_method = record { owner = 0; place = nowhere; signature = record { name = codes "f"; params = []; effect = []; result = Int }; block = Last (Plain (Nothing nowhere)) }

own_method_fits_not : ScopeFits program (main_with (own_method ∷ [])) → ⊥
unfolding own_method
own_method_fits_not h = absurd (let e = h.no_own_body refl in cc)

------------------------------------------------------------
-- The numbers of `val`s

one_val_there : scope_vals main ≡ 0 ∷ []
one_val_there = refl

mixed_are_numbered : AreNumbered (0 ∷ 2 ∷ 1 ∷ [])
mixed_are_numbered n = (below n, there n)
  where
    below : (n : ℕ) → In n (0 ∷ 2 ∷ 1 ∷ []) → n < 3
    below n (inl e) = omega (arith, e)
    below n (inr (inl e)) = omega (arith, e)
    below n (inr (inr (inl e))) = omega (arith, e)
    below n (inr (inr (inr i))) = absurd i

    there : (n : ℕ) → n < 3 → In n (0 ∷ 2 ∷ 1 ∷ [])
    there zero l = inl refl
    there (suc zero) l = inr (inr (inl refl))
    there (suc (suc zero)) l = inr (inl refl)
    there (suc (suc (suc n))) l = absurd (omega (arith, l))

one_is_left_out : AreNumbered (0 ∷ 2 ∷ []) → ⊥
one_is_left_out h = (let l = (h 2).0 (inr (inl refl)) in omega (arith, l))

-- those of a literal stand where it stands: of the `val`s
--
--   val a = new
--     def f(): {} Int
--       val b = 1
--       b
--   val c = 2
--   c
--
-- `a` has the number 0, `b` has 1 and `c` has 2, though `b` is in a method and the others are in one block
module _ (w : Within) (f : Signature) (a b c : Name) where
  abbrev tree : t.StmtTrees
  tree = t.more_stmts (t.val a None (t.literal nowhere (t.more_parts (t.method f (t.long (t.more_stmts (t.val b None (t.value (t.number (pos 1) nowhere))) (t.more_stmts (t.run (t.value (t.name b))) t.no_stmts)))) t.no_parts)))
      (t.more_stmts (t.val c None (t.value (t.number (pos 2) nowhere))) (t.more_stmts (t.run (t.value (t.name c))) t.no_stmts))

  written : stmts_val_places tree ≡ a.place ∷ b.place ∷ c.place ∷ []
  written = refl

  in_the_block : block_vals_at (stmts_block w nowhere outermost at_start tree) ≡ val_at 0 a.place ∷ val_at 2 c.place ∷ []
  in_the_block = refl

  in_the_method : bodies_vals_at (stmts_bodies w outermost at_start tree) ≡ val_at 1 b.place ∷ []
  in_the_method = refl
