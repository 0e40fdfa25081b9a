-- What is asked of the bodies of a resolved scope, and what then holds of it.
use Rattle.std.proofs.Common.{◌≡◌, ℕ, ◌<◌, ◌≤◌, List, [], ◌∷◌, ◌++◌, map, length, Option, Some, true}
use Rattle.std.specs.Prelude.{slice_get}
use Rattle.wy_syntax.specs.declared.types.AtomUse.{AtomUse}
use Rattle.wy_syntax.specs.declared.types.TypeUse.{TypeUse}
use Rattle.wy_syntax.specs.Trees.{PartTrees}
use Rattle.wy_text.specs.Members.{In, Apart}
use Rattle.wy_effects.specs.EffSet.{IsSet}
use Rattle.wy_types.specs.declared.types.TypeRef.{TypeRef}
use Rattle.wy_types.specs.declared.code.Variable.TheVariants.{Parameter}
use Rattle.wy_types.specs.declared.resolved.Field.{Field}
use Rattle.wy_types.specs.declared.resolved.Literal.{Literal}
use Rattle.wy_types.specs.Signature.{Signature}
use Rattle.wy_types.specs.Types.{is_plain, methods_of_owner}
use Rattle.wy_types.specs.Program.{Program, Scope, Body, Init, Run}
use Rattle.wy_types.specs.Core.{IsWritten, AllWritten, StartFits, BodyFits, HasParameter, AreNumbered, CapturesBefore}
use Rattle.wy_types.specs.Vals.{scope_vals, start_vals}
use Rattle.wy_symbols.specs.Declarations.{ProgramTree}
use Rattle.wy_symbols.specs.TypeUses.{type_ref, use_refusals, effect_of, effect_refusals}
use Rattle.wy_bodies.specs.Sight.{outermost, inside}
use Rattle.wy_bodies.specs.Bodies.{Within, at_start, part_values, tail_block, literal_of, parts_literals, tail_literals, parts_bodies, tail_bodies}
use Rattle.wy_heads.specs.Counts.{field_count, method_count, part_params}

-- the scope that bodies are read in: types and effects that are not refused are written, and the own names have their numbers
pub record ReadsIn (p : Program) (s : Scope) (w : Within) : Type 0 where
  pub plain : w.plain ≡ is_plain s.kind
  pub own : length w.own ≡ length s.names
  pub types : (u : TypeUse) → use_refusals w.atoms w.plain u ≡ [] → IsWritten p s (type_ref w.atoms w.plain u)
  pub effects : (e : Option (List AtomUse)) → effect_refusals w.atoms w.plain e ≡ [] → IsSet (length s.atoms) (effect_of w.atoms w.plain e)

-- a scope with the literals, the start and the bodies of a module's parts
pub record OfParts (w : Within) (parts : PartTrees) (s : Scope) : Type 0 where
  pub literals : s.literals ≡ literal_of w outermost parts ∷ parts_literals w outermost (inside outermost parts) at_start parts
  pub start : s.start ≡ Init (part_values w outermost at_start parts)
  pub bodies : s.bodies ≡ parts_bodies w outermost (inside outermost parts) 0 at_start parts

-- with those of the program's body
pub record OfBody (w : Within) (g : ProgramTree) (s : Scope) : Type 0 where
  pub literals : s.literals ≡ record { captures = []; fields = [] } ∷ tail_literals w outermost at_start g.body
  pub start : s.start ≡ Run (tail_block w g.run outermost at_start g.body)
  pub bodies : s.bodies ≡ tail_bodies w outermost at_start g.body

-- the parts of an object within the limits
pub record FewIn (parts : PartTrees) : Type 0 where
  pub fields : field_count parts ≤ 128
  pub methods : method_count parts ≤ 128
  pub parameters : (n : ℕ) → In n (part_params parts) → n ≤ 16

abbrev pub AllFew : List PartTrees → Type 0
AllFew all = (parts : PartTrees) → In parts all → FewIn parts

-- what a core keeps of a scope's bodies
pub record BodiesFit (p : Program) (s : Scope) : Type 0 where
  pub starts : StartFits p s s.start
  pub bodies : (k : ℕ) (b : Body) → slice_get s.bodies k ≡ Some b → BodyFits p s k b
  pub written : (b : Body) → In b s.bodies → AllWritten p s (b.signature.params ++ b.signature.result ∷ []) × IsSet (length s.atoms) b.signature.effect
  pub no_effect : is_plain s.kind ≡ true → (b : Body) → In b s.bodies → b.signature.effect ≡ []
  pub fields : (l : Literal) → In l s.literals → AllWritten p s (map (λ (f : Field). f.typ) l.fields)
  pub own_literal : 0 < length s.literals
  pub vals : Apart (scope_vals s)
  pub numbered : AreNumbered (scope_vals s)
  pub captured : CapturesBefore s (start_vals s.start) s.bodies
  pub captured_parameters : (l : Literal) → In l s.literals → (k i : ℕ) → In (Parameter k i) l.captures → HasParameter s k i
  pub field_names : (l : Literal) → In l s.literals → Apart (map (λ (f : Field). f.name) l.fields)
  pub method_names : (l : ℕ) → Apart (map (λ (m : Signature TypeRef). m.name) (methods_of_owner l s.bodies))
  pub few_fields : (l : Literal) → In l s.literals → length l.fields ≤ 128
  pub few_methods : (l : ℕ) → length (methods_of_owner l s.bodies) ≤ 128
  pub few_parameters : (b : Body) → In b s.bodies → length b.signature.params ≤ 16
