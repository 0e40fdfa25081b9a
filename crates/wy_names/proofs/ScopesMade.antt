-- A module's scope of atoms, its bodies' view of it, and its refusals, part by part.
use Rattle.std.proofs.Common.{◌≡◌, ℕ, List, [], ◌++◌, take, length, refl, ap, ◌∙◌, Bool, Option, Some, None, append_assoc}
use Rattle.std.proofs.Math.Seq.{take-length}
use Rattle.wy_text.specs.declared.fault.AtomName.{AtomName}
use Rattle.wy_syntax.specs.declared.items.Init.{Init}
use Rattle.wy_types.specs.Program.{Scope}
use Rattle.wy_types.specs.Types.{is_plain}
use Rattle.wy_symbols.specs.declared.refusal.Refusal.{Refusal}
use Rattle.wy_symbols.specs.declared.scoping.Head.{Head}
use Rattle.wy_symbols.specs.declared.scoping.Owner.{Owner}
use Rattle.wy_symbols.specs.declared.scoping.Meaning.{Meaning}
use Rattle.wy_symbols.specs.Declarations.{ModuleTree, ProgramTree, repeated}
use Rattle.wy_symbols.specs.Least.{noted}
use Rattle.wy_symbols.specs.Atoms.{AtomScope, head_names, type_number, set_refusals, owner_names, atom_scope}
use Rattle.wy_symbols.specs.TypeUses.{param_names}
use Rattle.wy_heads.specs.Lines.{grant_refusals, param_refusals, uses_refusals, lines_refusals}
use Rattle.wy_bodies.specs.Sight.{outermost, inside}
use Rattle.wy_bodies.specs.Bodies.{Within, at_start}
use Rattle.wy_bodies.specs.BodyRefusals.{repeated_parts, parts_refusals, tail_refusals}
use Rattle.wy_heads.specs.Fronts.{front_refusals, program_front}
use Rattle.wy_heads.specs.ScopeHeads.{start_place, definitions_after, define_names, definitions_refusals, init_refusals, line_words, sealed_refusals, param_scope, early_owners, module_owners, module_atoms, module_meanings, module_scope, grant_names, grant_owners, program_atoms, program_scope}
use Rattle.wy_names.specs.Scopes.{module_within, module_refusals, program_within, program_refusals}
use Rattle.wy_symbols.proofs.Leasts.{noted_then}

take_all : {X : Type 0} (xs : List X) (n : ℕ) → n ≡ length xs → take n xs ≡ xs
take_all xs n e = ap (λ k. take k xs) e ∙ take-length xs

module _ (heads : List Head) (modules : List ModuleTree) (m : ModuleTree) (atoms : List AtomName) (owners : List Owner) (visible : ℕ)
    (at : atoms ≡ module_atoms heads modules m) (os : owners ≡ module_owners heads modules m) (all : visible ≡ length owners) where
  pub meanings_are : (meanings : List Meaning) → meanings ≡ definitions_after heads atoms (take visible owners) [] m.defines → meanings ≡ module_meanings heads modules m
  meanings_are meanings is =
      is ∙ ap (λ o. definitions_after heads atoms o [] m.defines) (take_all owners visible all ∙ os)
      ∙ ap (λ a. definitions_after heads a (module_owners heads modules m) [] m.defines) at

  pub scope_is : (meanings : List Meaning) → meanings ≡ module_meanings heads modules m → atom_scope heads atoms (take visible owners) meanings ≡ module_scope heads modules m
  scope_is meanings is =
      ap (λ x. atom_scope heads atoms (take visible owners) x) is
      ∙ ap (λ o. atom_scope heads atoms o (module_meanings heads modules m)) (take_all owners visible all ∙ os)
      ∙ ap (λ a. atom_scope heads a (module_owners heads modules m) (module_meanings heads modules m)) at

  pub defined_are : definitions_refusals heads atoms (take visible owners) [] m.defines ≡ definitions_refusals heads (module_atoms heads modules m) (module_owners heads modules m) [] m.defines
  defined_are =
      ap (λ o. definitions_refusals heads atoms o [] m.defines) (take_all owners visible all ∙ os)
      ∙ ap (λ a. definitions_refusals heads a (module_owners heads modules m) [] m.defines) at

pub within_is : (heads : List Head) (modules : List ModuleTree) (m : ModuleTree) (w : Within) →
    w.atoms ≡ module_scope heads modules m → w.plain ≡ is_plain m.kind → w.own ≡ owner_names (module_owners heads modules m) → w ≡ module_within heads modules m
within_is heads modules m w a p o =
    let W : AtomScope → Bool → List (List ℕ) → Within = λ x y z. record { atoms = x; plain = y; own = z } in
    ap (λ x. W x w.plain w.own) a ∙ ap (λ y. W (module_scope heads modules m) y w.own) p ∙ ap (W (module_scope heads modules m) (is_plain m.kind)) o

five : (a b c d e r : List Refusal) → (a ++ (b ++ (c ++ (d ++ e)))) ++ r ≡ a ++ (b ++ (c ++ (d ++ (e ++ r))))
five a b c d e r =
    append_assoc a (b ++ (c ++ (d ++ e))) r
    ∙ ap (λ l. a ++ l) (append_assoc b (c ++ (d ++ e)) r ∙ ap (λ l. b ++ l) (append_assoc c (d ++ e) r ∙ ap (λ l. c ++ l) (append_assoc d e r)))

three : (a b c r : List Refusal) → (a ++ (b ++ c)) ++ r ≡ a ++ (b ++ (c ++ r))
three a b c r = append_assoc a (b ++ c) r ∙ ap (λ l. a ++ l) (append_assoc b c r)

-- what is noted of the head, of the definitions, and of what stands behind them
pub module_noted : (heads : List Head) (modules : List ModuleTree) (m : ModuleTree) (old front defined end : Option Refusal) →
    front ≡ noted old (front_refusals heads modules m) →
    defined ≡ noted front (repeated [] (define_names m.defines) ++ definitions_refusals heads (module_atoms heads modules m) (module_owners heads modules m) [] m.defines) →
    end ≡ noted defined (init_refusals heads modules (module_scope heads modules m) m.init ++ (repeated_parts m.parts ++ parts_refusals (module_within heads modules m) outermost (inside outermost m.parts) at_start m.parts)) →
    end ≡ noted old (module_refusals heads modules m)
module_noted heads modules m old front defined end f d e =
    let sealed = sealed_refusals heads modules m (type_number (head_names heads) m.sealed.text) in
    let words = repeated [] (param_names m.params ++ (m.uses ++ line_words m.lines)) in
    let params = param_refusals (param_scope heads modules m) (is_plain m.kind) m.params in
    let uses = uses_refusals heads modules (module_atoms heads modules m) m.uses in
    let lines = lines_refusals heads modules (module_atoms heads modules m) (early_owners heads modules m) m.lines in
    let defines = repeated [] (define_names m.defines) in
    let definitions = definitions_refusals heads (module_atoms heads modules m) (module_owners heads modules m) [] m.defines in
    let init = init_refusals heads modules (module_scope heads modules m) m.init in
    let parts = repeated_parts m.parts ++ parts_refusals (module_within heads modules m) outermost (inside outermost m.parts) at_start m.parts in
    noted_then old front end (front_refusals heads modules m) ((defines ++ definitions) ++ (init ++ parts)) f (noted_then front defined end (defines ++ definitions) (init ++ parts) d e)
    ∙ ap (λ l. noted old (front_refusals heads modules m ++ l)) (append_assoc defines definitions (init ++ parts))
    ∙ ap (noted old) (five sealed words params uses lines (defines ++ (definitions ++ (init ++ parts))))

-- a scope by its parts
pub scope_by_parts : (s t : Scope) → s.kind ≡ t.kind → s.name ≡ t.name → s.place ≡ t.place → s.atoms ≡ t.atoms → s.bounds ≡ t.bounds → s.names ≡ t.names → s.ascribed ≡ t.ascribed → s.definitions ≡ t.definitions →
    s.literals ≡ t.literals → s.start_place ≡ t.start_place → s.start_effect ≡ t.start_effect → s.start ≡ t.start → s.bodies ≡ t.bodies → s ≡ t
scope_by_parts s t a b c d e f g h i j k l m =
    ap (λ x. record s { kind = x }) a
    ∙ ap (λ x. record s { kind = t.kind; name = x }) b
    ∙ ap (λ x. record s { kind = t.kind; name = t.name; place = x }) c
    ∙ ap (λ x. record s { kind = t.kind; name = t.name; place = t.place; atoms = x }) d
    ∙ ap (λ x. record s { kind = t.kind; name = t.name; place = t.place; atoms = t.atoms; bounds = x }) e
    ∙ ap (λ x. record s { kind = t.kind; name = t.name; place = t.place; atoms = t.atoms; bounds = t.bounds; names = x }) f
    ∙ ap (λ x. record t { ascribed = x; definitions = s.definitions; literals = s.literals; start_place = s.start_place; start_effect = s.start_effect; start = s.start; bodies = s.bodies }) g
    ∙ ap (λ x. record t { definitions = x; literals = s.literals; start_place = s.start_place; start_effect = s.start_effect; start = s.start; bodies = s.bodies }) h
    ∙ ap (λ x. record t { literals = x; start_place = s.start_place; start_effect = s.start_effect; start = s.start; bodies = s.bodies }) i
    ∙ ap (λ x. record t { start_place = x; start_effect = s.start_effect; start = s.start; bodies = s.bodies }) j
    ∙ ap (λ x. record t { start_effect = x; start = s.start; bodies = s.bodies }) k
    ∙ ap (λ x. record t { start = x; bodies = s.bodies }) l
    ∙ ap (λ x. record t { bodies = x }) m

pub place_same : (heads hs : List Head) (ms ns : List ModuleTree) (m : ModuleTree) (o : Option Init) → start_place heads ms m o ≡ start_place hs ns m o
place_same heads hs ms ns m None = refl
place_same heads hs ms ns m (Some i) = refl

four : (a b c d r : List Refusal) → (a ++ (b ++ (c ++ d))) ++ r ≡ a ++ (b ++ (c ++ (d ++ r)))
four a b c d r = append_assoc a (b ++ (c ++ d)) r ∙ ap (λ l. a ++ l) (three b c d r)

-- the program's
pub program_noted : (heads : List Head) (modules : List ModuleTree) (g : ProgramTree) (old front effect end : Option Refusal) →
    front ≡ noted old (program_front heads modules g) →
    effect ≡ noted front (set_refusals (program_scope heads modules g) g.effect) →
    end ≡ noted effect (tail_refusals (program_within heads modules g) outermost at_start g.body) →
    end ≡ noted old (program_refusals heads modules g)
program_noted heads modules g old front effect end f s e =
    let words = repeated [] (grant_names g.grants ++ (g.uses ++ line_words g.lines)) in
    let grants = grant_refusals (head_names heads) g.grants in
    let uses = uses_refusals heads modules (program_atoms heads modules g) g.uses in
    let lines = lines_refusals heads modules (program_atoms heads modules g) (grant_owners heads modules g) g.lines in
    let set = set_refusals (program_scope heads modules g) g.effect in
    let tail = tail_refusals (program_within heads modules g) outermost at_start g.body in
    noted_then old front end (program_front heads modules g) (set ++ tail) f (noted_then front effect end set tail s e)
    ∙ ap (noted old) (four words grants uses lines (set ++ tail))

-- all owners are in sight
pub whole_scope : (heads : List Head) (atoms as_ : List AtomName) (owners os : List Owner) (n : ℕ) → atoms ≡ as_ → owners ≡ os → n ≡ length owners →
    atom_scope heads atoms (take n owners) [] ≡ atom_scope heads as_ os []
whole_scope heads atoms as_ owners os n a o e = ap (λ x. atom_scope heads atoms x []) (take_all owners n e ∙ o) ∙ ap (λ x. atom_scope heads x os []) a
