-- What a call may do in a program with a logger; and programs that are wrong or may do too little, since they have what resolving does not
-- make: a method of a module that sees a variable of the module's initialisers, an own name with a full stop, and a grant after a line.
use Rattle.std.proofs.Common.{codes, Some, ◌≡◌, ℕ, List, [], ◌∷◌, inl, inr, refl, true, pos, ◌++◌}
use Rattle.wy_effects.specs.AtomTable.{atom_name}
use Rattle.wy_types.specs.declared.types.TypeRef.{TypeRef}
use Rattle.wy_types.specs.declared.types.TypeRef.TheVariants.{Named, Unit as Nothing}
use Rattle.wy_types.specs.declared.code.Variable.TheVariants.{Local}
use Rattle.wy_types.specs.declared.linked.Actual.TheVariants as actual
use Rattle.wy_types.specs.declared.resolved.Origin.TheVariants.{Parameter, Grant, Instance}
use Rattle.wy_types.specs.Code.{If, Values, none, more}
use Rattle.wy_types.specs.Program.{Program, Scope, Body}
use Rattle.wy_types.specs.Primitive.{primitive_types, primitive_type}
use Rattle.wy_types.specs.Ground.{program_visited}
use Rattle.wy_device.specs.Operators.{operate_within}
use Rattle.wy_device.specs.RunEnds.{Wrong}
use Rattle.wy_meaning.specs.Bounds.{Call}
use Rattle.wy_meaning.specs.Eval.{eval, eval_value, eval_all, eval_block, open_calls}
use Rattle.wy_meaning.specs.Performing.{perform}
use Rattle.wy_meaning.specs.Results.{give, stop, node, tick, told, settle, added, bind, whole}
use Rattle.wy_meaning.specs.Start.{fill_all, begin, meaning}
use Rattle.wy_meaning.proofs.Programs.{somewhere, number, truth, nothing, own, local, call, last, val, method, bare, literal, own_name, line, unit, main, program, no_tapes}
use Rattle.wy_rules.specs.OwnNames.{ModulesCaptureNothing, HavePlainNames, GrantsStandFirst}
use Rattle.wy_sound.specs.Arguments.{program_names}
use Rattle.wy_sound.specs.Programs.{program_starts, allowed}
use Rattle.wy_sound.specs.Courses.{course}

------------------------------------------------------------
-- resource module logger(out: Console): ..
--   def put(..): {out.Out} Unit
-- program
--   grant console: Console
--   instance log = logger(console)

abbrev console_type : TypeRef
console_type = Named 0 ((0 ∷ []) ∷ (1 ∷ []) ∷ [])

abbrev put : Body
put = record {
  owner = 0;
  place = somewhere;
  signature = record { name = codes "put"; params = []; effect = 1 ∷ []; result = Nothing };
  block = last nothing;
}

logging : Program
logging = program (
    unit (codes "logger") (own_name (codes "out") console_type (Parameter true) ∷ []) (bare ∷ []) none (put ∷ []) ∷
    main (own_name (codes "console") console_type Grant ∷ line (codes "log") 0 (0 ∷ []) ∷ []) (bare ∷ []) (last nothing) [] ∷ [])

abbrev call_of : List ℕ → List ℕ → Call
call_of instance body = record { instance = instance; body = body }

-- the logger may write to the console in its method, and nothing when it starts; no other body is there
put_may : allowed logging (call_of (codes "log") (codes "put")) ≡ atom_name (codes "console") (codes "Out") ∷ []
unfolding logging
put_may = refl

init_may : allowed logging (call_of (codes "log") (codes "init")) ≡ []
unfolding logging
init_may = refl

other_may : allowed logging (call_of (codes "main") (codes "put")) ≡ []
unfolding logging
other_may = refl

------------------------------------------------------------
-- resource module m: ..
--   val f = if true .. val x = 1 ..
--   def get(): .. = x, as if it saw x
-- program
--   instance a = m
--   run = a.get()

abbrev sees_local : Body
sees_local = method 0 (codes "get") [] (last (local 0))

abbrev with_local : Values
with_local = more (If somewhere (truth true) (val 0 (number (pos 1)) (last (local 0))) (last (number (pos 2)))) none

capturing : Program
capturing = program (
    unit (codes "m") [] (literal (Local 0 ∷ []) (codes "f" ∷ []) ∷ []) with_local (sees_local ∷ []) ∷
    main (line (codes "a") 0 [] ∷ []) (bare ∷ []) (last (call (own 0) (codes "get") [])) [] ∷ [])

-- nothing keeps the variable for the method
capturing_is_wrong : (course capturing 5 no_tapes).end ≡ Wrong
unfolding capturing give stop node tick told settle added bind whole eval eval_value eval_all eval_block open_calls perform operate_within fill_all begin meaning
capturing_is_wrong = refl

capturing_captures : ModulesCaptureNothing capturing → ⊥
unfolding capturing
capturing_captures h = let none = h (unit (codes "m") [] (literal (Local 0 ∷ []) (codes "f" ∷ []) ∷ []) with_local (sees_local ∷ [])) (inl refl) in cc

------------------------------------------------------------
-- resource module one: ..
--   def get(): ..
-- resource module outer: ..
--   instance b = two
-- program
--   instance a = outer
--   instance a.b = one
--   run = a.b.get()

abbrev get : Body
get = method 0 (codes "get") [] (last nothing)

stopping_main : Scope
stopping_main = main (line (codes "a") 2 [] ∷ line (codes "a.b") 0 [] ∷ []) (bare ∷ []) (last (call (own 1) (codes "get") [])) []

stopping : Program
stopping = program (
    unit (codes "one") [] (bare ∷ []) none (get ∷ []) ∷ unit (codes "two") [] (bare ∷ []) none [] ∷
    unit (codes "outer") (line (codes "b") 1 [] ∷ []) (bare ∷ []) none [] ∷ stopping_main ∷ [])

-- the line's instance is taken for the hidden one of the same name
stopping_actuals : (program_visited stopping).actuals ≡ actual.Instance 1 ∷ actual.Instance 2 ∷ []
unfolding stopping stopping_main
stopping_actuals = refl

stopping_taken : (program_starts stopping).main.actuals ≡ actual.Instance 1 ∷ actual.Instance 0 ∷ []
unfolding stopping stopping_main
stopping_taken = refl

stopping_is_wrong : (course stopping 5 no_tapes).end ≡ Wrong
unfolding stopping stopping_main give stop node tick told settle added bind whole eval eval_value eval_all eval_block open_calls perform operate_within fill_all begin meaning
stopping_is_wrong = refl

stopping_stops : HavePlainNames stopping → ⊥
unfolding stopping stopping_main
stopping_stops h = (h stopping_main (inr (inr (inr (inl refl)))) (line (codes "a.b") 0 []) (inr (inl refl))).1 (inr (inl refl))

------------------------------------------------------------
-- resource module m: Marked, with no effect for the member of Marked
-- program
--   instance a = m
--   grant console: Console, after the line
--   run: {console.Out}

late : Program
late = record {
  declarations = primitive_types ++ primitive_type (codes "Marked") (codes "Mark" ∷ []) [] ∷ [];
  scopes =
      record (unit (codes "m") [] (bare ∷ []) none []) { ascribed = Some 5; definitions = [] ∷ [] } ∷
      record (main (own_name (codes "a") (Named 5 ((0 ∷ []) ∷ [])) (Instance 0 []) ∷ own_name (codes "console") (Named 0 ((1 ∷ []) ∷ (2 ∷ []) ∷ [])) Grant ∷ []) (bare ∷ []) (last nothing) []) { start_effect = 2 ∷ [] } ∷ [];
}

-- the program's atoms are counted with the line's, and the report's without it: the effect has no name there
late_may : allowed late (call_of (codes "main") (codes "run")) ≡ atom_name [] [] ∷ []
unfolding late
late_may = refl

late_comes_late : GrantsStandFirst (program_names late) → ⊥
unfolding late
late_comes_late h = let line_is_grant : Instance 0 [] ≡ Grant = h.0 (own_name (codes "console") (Named 0 ((1 ∷ []) ∷ (2 ∷ []) ∷ [])) Grant) (inl refl) refl in cc
