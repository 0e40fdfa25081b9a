-- Worked examples: a full folder is unknown in the edition before, and a program may have a type of its own by that name there. A
-- declared type has the same number in both.
use Rattle.std.proofs.Common.{codes, ◌≡◌, ℕ, List, [], ◌∷◌, Some, refl}
use Rattle.wy_text.specs.declared.fault.Place.{Place}
use Rattle.wy_syntax.specs.declared.types.Name.{Name}
use Rattle.wy_syntax.specs.Trees.{ItemTree, type_item, program_item, long, more_stmts, no_stmts, run, value, unit}
use Rattle.wy_types.specs.Primitive.{former_types, primitive_types}
use Rattle.wy_symbols.specs.declared.refusal.Cause.TheVariants.{Twice, Unknown}
use Rattle.wy_symbols.specs.Atoms.{head_names, heads_over, type_number}
use Rattle.wy_symbols.specs.Declarations.{types_of}
use Rattle.wy_symbols.specs.Least.{refusal_at}
use Rattle.wy_names.specs.Scopes.{refusals_over}

abbrev at : ℕ → ℕ → Place
at line column = record { file = 1; line = line; column = column }

abbrev name : List ℕ → ℕ → ℕ → Name
name text line column = record { text = text; place = at line column }

------------------------------------------------------------
-- program
--   grant d: FullFolder
--   run: {}
--     ()

granted : List ItemTree
granted =
    program_item (at 1 1) (record { name = name (codes "d") 2 9; kind = name (codes "FullFolder") 2 12 } ∷ []) [] [] (at 3 3) []
    (long (more_stmts (run (value (unit (at 4 5)))) no_stmts))
    ∷ []

unknown_before : refusals_over former_types granted ≡ refusal_at (at 2 12) Unknown ∷ []
unfolding granted
unknown_before = refl

known_today : refusals_over primitive_types granted ≡ []
unfolding granted
known_today = refl

------------------------------------------------------------
-- type FullFolder
-- type Other

declared : List ItemTree
declared =
    type_item (record { place = at 1 1; name = name (codes "FullFolder") 1 6; members = [] }) ∷
    type_item (record { place = at 2 1; name = name (codes "Other") 2 6; members = [] }) ∷ []

one_before : refusals_over former_types declared ≡ []
unfolding declared
one_before = refl

twice_today : refusals_over primitive_types declared ≡ refusal_at (at 1 6) Twice ∷ []
unfolding declared
twice_today = refl

number_before : type_number (head_names (heads_over former_types (types_of declared))) (codes "Other") ≡ Some 6
unfolding declared
number_before = refl

number_today : type_number (head_names (heads_over primitive_types (types_of declared))) (codes "Other") ≡ Some 6
unfolding declared
number_today = refl
