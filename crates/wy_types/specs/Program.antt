-- A program with resolved names, as plain data.
use Rattle.std.specs.Prelude.{ℕ, List, Option, map}
use Rattle.wy_text.specs.declared.fault.Place.{Place}
use Rattle.wy_text.specs.declared.fault.AtomName.{AtomName}
use Rattle.wy_effects.specs.Bounds.{Bounds}
use Rattle.wy_types.specs.declared.types.Method.{Method}
use Rattle.wy_types.specs.declared.resolved.TypeDecl.{TypeDecl}
use Rattle.wy_types.specs.declared.resolved.ScopeKind.{ScopeKind}
use Rattle.wy_types.specs.declared.resolved.OwnName.{OwnName}
use Rattle.wy_types.specs.declared.resolved.Literal.{Literal}
use Rattle.wy_types.specs.declared.resolved.Body as b
use Rattle.wy_types.specs.declared.resolved.Start as st
use Rattle.wy_types.specs.declared.resolved.Start.TheVariants as sv
use Rattle.wy_types.specs.declared.resolved.Scope as s
use Rattle.wy_types.specs.declared.resolved.Core.{Core}
use Rattle.wy_types.specs.Code.{Values, Block}
use Rattle.wy_types.specs.View.{values_of, block_of}

-- a method of a module (owner 0) or of a literal
pub record Body : Type 0 where
  pub owner : ℕ
  pub place : Place
  pub signature : Method
  pub block : Block

-- what a scope does when it starts: a module's field initialisers, or the program's block
pub data Start : Type 0 where
  Init : Values → Start
  Run : Block → Start

-- a module or the program
pub record Scope : Type 0 where
  pub kind : ScopeKind
  pub name : List ℕ
  pub place : Place
  pub atoms : List AtomName
  pub bounds : Bounds
  pub names : List OwnName
  pub ascribed : Option ℕ
  pub definitions : List (List ℕ)
  pub literals : List Literal
  pub start_place : Place
  pub start_effect : List ℕ
  pub start : Start
  pub bodies : List Body

pub record Program : Type 0 where
  pub declarations : List TypeDecl
  pub scopes : List Scope

abbrev pub body_of : b.Body → Body
body_of x = record { owner = x.owner; place = x.place; signature = x.signature; block = block_of x.block }

abbrev pub start_of : st.Start → Start
start_of (sv.Init values) = Init (values_of values.items)
start_of (sv.Run block) = Run (block_of block)

abbrev pub scope_of : s.Scope → Scope
scope_of x = record {
  kind = x.kind;
  name = x.name;
  place = x.place;
  atoms = x.atoms;
  bounds = x.bounds;
  names = x.names;
  ascribed = x.ascribed;
  definitions = x.definitions;
  literals = x.literals;
  start_place = x.start_place;
  start_effect = x.start_effect;
  start = start_of x.start;
  bodies = map body_of x.bodies;
}

-- the program of a core
abbrev pub program_of : Core → Program
program_of core = record { declarations = core.declarations; scopes = map scope_of core.scopes }
