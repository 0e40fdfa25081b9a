-- What is judged of a program's declarations: their refusals, and the program whose names are resolved.
use Rattle.std.specs.Prelude.{◌≡◌, List, [], ◌∷◌, ◌++◌, ◌⊎◌, ◌↔◌, map, Option}
use Rattle.wy_text.specs.declared.fault.Place.{Place}
use Rattle.wy_text.specs.Members.{In}
use Rattle.wy_types.specs.Program.{Program}
use Rattle.wy_symbols.specs.declared.refusal.Cause.{Cause}
use Rattle.wy_symbols.specs.declared.refusal.Cause.TheVariants as cause
use Rattle.wy_symbols.specs.declared.refusal.Refusal.{Refusal}
use Rattle.wy_names.specs.declared.refusal.NameRefusal.{NameRefusal}
use Rattle.wy_names.specs.declared.refusal.NameRefusal.TheVariants.{Unknown, Twice, Cycle, NoProgram, TwoPrograms, MemberUndefined, MemberUnknown, Limit, Memory}
use Rattle.wy_symbols.specs.declared.scoping.Head.{Head}
use Rattle.wy_symbols.specs.Least.{IsLeast, noted, refusal_at}
use Rattle.wy_symbols.specs.Declarations.{Declared, ModuleTree, ProgramTree, repeated, type_names, module_names}
use Rattle.wy_symbols.specs.Atoms.{heads_of, primitive_names}
use Rattle.wy_symbols.specs.TypeUses.{declarations_of, declarations_refusals}
use Rattle.wy_heads.specs.Cycles.{IsCycle}
use Rattle.wy_names.specs.Scopes.{modules_refusals, programs_refusals, second_programs, scope_of_module, scope_of_program}

-- the refusals that stand at a place, but for cycles
abbrev pub declared_refusals : Declared → List Refusal
declared_refusals d =
    repeated primitive_names (type_names d.types) ++
    (repeated [] (module_names d.modules) ++
    (declarations_refusals (heads_of d.types) d.types ++
    (modules_refusals (heads_of d.types) d.modules d.modules ++
    (programs_refusals (heads_of d.types) d.modules d.programs ++
    second_programs d.programs))))

-- the refusals of modules and program blocks are noted, and the cycles
pub record NotesScopes (heads : List Head) (modules : List ModuleTree) (programs : List ProgramTree) (old new : Option Refusal) : Type 0 where
  pub cycles : List Refusal
  pub are : (r : Refusal) → In r cycles ↔ IsCycle modules r
  pub noted_are : new ≡ noted old (modules_refusals heads modules modules ++ (programs_refusals heads modules programs ++ (second_programs programs ++ cycles)))

-- all are noted
pub record NotesAll (d : Declared) (old new : Option Refusal) : Type 0 where
  pub cycles : List Refusal
  pub are : (r : Refusal) → In r cycles ↔ IsCycle d.modules r
  pub noted_are : new ≡ noted old (declared_refusals d ++ cycles)

-- the declarations, and the scopes of all modules and all program blocks
abbrev pub declared_program : Declared → Program
declared_program d = record {
  declarations = declarations_of (heads_of d.types) d.types;
  scopes = map (scope_of_module (heads_of d.types) d.modules) d.modules ++ map (scope_of_program (heads_of d.types) d.modules) d.programs;
}

abbrev pub RefusesDeclared : Declared → Refusal → Type 0
RefusesDeclared d r = In r (declared_refusals d) ⊎ IsCycle d.modules r

-- declarations without a refusal, with one program block
pub record IsBound (d : Declared) (p : Program) : Type 0 where
  pub program : ProgramTree
  pub one : d.programs ≡ program ∷ []
  pub bound : p ≡ declared_program d
  pub sound : (r : Refusal) → RefusesDeclared d r → ⊥

abbrev pub IsFirstAt : Declared → Place → Cause → Type 0
IsFirstAt d place c = IsLeast (RefusesDeclared d) (refusal_at place c)

-- when each refusal comes, within the limits
abbrev pub IsRefusal : Declared → NameRefusal → Type 0
IsRefusal d (Unknown p) = IsFirstAt d p cause.Unknown
IsRefusal d (Twice p) = IsFirstAt d p cause.Twice
IsRefusal d (Cycle p) = IsFirstAt d p cause.Cycle
IsRefusal d NoProgram = (d.programs ≡ []) × ((r : Refusal) → RefusesDeclared d r → ⊥)
IsRefusal d (TwoPrograms p) = IsFirstAt d p cause.TwoPrograms
IsRefusal d (MemberUndefined p) = IsFirstAt d p cause.MemberUndefined
IsRefusal d (MemberUnknown p) = IsFirstAt d p cause.MemberUnknown
IsRefusal d (Limit l) = ⊥
IsRefusal d Memory = Unit {0}

-- what a refusal at a place is called
abbrev pub refusal_named : Place → Cause → NameRefusal
refusal_named p cause.Unknown = Unknown p
refusal_named p cause.Twice = Twice p
refusal_named p cause.Cycle = Cycle p
refusal_named p cause.TwoPrograms = TwoPrograms p
refusal_named p cause.MemberUndefined = MemberUndefined p
refusal_named p cause.MemberUnknown = MemberUnknown p
