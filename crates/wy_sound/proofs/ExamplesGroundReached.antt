-- The types that a run reaches, in a program with a logger: of its console, of its instance and of its program; and lists in which no type stands
-- twice. No heap that lacks an instance's object is one in which the instance starts.
use Rattle.std.proofs.Common.{codes, ◌≡◌, ℕ, [], ◌∷◌, refl, false, true}
use Rattle.wy_types.specs.declared.types.TypeRef.{TypeRef}
use Rattle.wy_types.specs.declared.types.TypeRef.TheVariants as of
use Rattle.wy_types.specs.declared.resolved.Origin.TheVariants.{Parameter, Grant}
use Rattle.wy_types.specs.Code.{none}
use Rattle.wy_types.specs.Program.{Program}
use Rattle.wy_rules.specs.GroundTypes.{GroundType, Int, Bool, Text, Nothing, Named, At, Own}
use Rattle.wy_meaning.proofs.Programs.{nothing, last, method, bare, own_name, line, unit, main, program}
use Rattle.wy_sound.specs.GroundReached.{same_ground, is_among, with_others, ground_firsts, with_named}
use Rattle.wy_sound.specs.StartingObjects.{IsStartingObject}
use Rattle.wy_sound.specs.TypedHeaps.{Placed}

------------------------------------------------------------
-- Lists

-- what stands there already is not added, nor is what was added before it
added_once : with_others (Int ∷ []) (Bool ∷ Int ∷ Bool ∷ []) ≡ Int ∷ Bool ∷ []
added_once = refl

-- the own types of two instances differ, so do a type at its sets and one at a bound
owns_differ : is_among (Own 1 0) (Own 0 0 ∷ Own 1 1 ∷ []) ≡ false
owns_differ = refl

bound_differs : same_ground (Named 5 []) (At 5 []) ≡ false
bound_differs = refl

sets_differ : same_ground (Named 5 ((0 ∷ []) ∷ [])) (Named 5 ((1 ∷ []) ∷ [])) ≡ false
sets_differ = refl

sets_agree : same_ground (Named 5 ((0 ∷ []) ∷ [])) (Named 5 ((0 ∷ []) ∷ [])) ≡ true
sets_agree = refl

------------------------------------------------------------
-- resource module logger(out: Console)
--   def put(): Unit
-- program
--   grant console: Console
--   instance log = logger(console)

console_type : TypeRef
console_type = of.Named 0 ((0 ∷ []) ∷ (1 ∷ []) ∷ [])

logging : Program
logging = program (
    unit (codes "logger") (own_name (codes "out") console_type (Parameter true) ∷ []) (bare ∷ []) none (method 0 (codes "put") [] (last nothing) ∷ []) ∷
    main (own_name (codes "console") console_type Grant ∷ line (codes "log") 0 (0 ∷ []) ∷ []) (bare ∷ []) (last nothing) [] ∷ [])

console : GroundType
console = Named 0 ((0 ∷ []) ∷ (1 ∷ []) ∷ [])

logging_firsts : ground_firsts logging ≡ Int ∷ Bool ∷ Text ∷ Nothing ∷ console ∷ Own 0 0 ∷ console ∷ Nothing ∷ []
unfolding logging console_type console
logging_firsts = refl

-- one round is enough, and further ones add nothing
logging_reached : with_named logging 1 (with_others [] (ground_firsts logging)) ≡ Int ∷ Bool ∷ Text ∷ Nothing ∷ console ∷ Own 0 0 ∷ []
unfolding logging console_type console
logging_reached = refl

logging_stays : with_named logging 3 (with_others [] (ground_firsts logging)) ≡ with_named logging 1 (with_others [] (ground_firsts logging))
unfolding logging console_type console
logging_stays = refl

------------------------------------------------------------
-- Objects

-- the object of the instance is there while it starts
no_start_without_object : (p : Program) (x : ℕ) (place : Placed p x) → IsStartingObject p x place [] → ⊥
no_start_without_object p x place h = let here = h.fields.3.here in cc
