-- What is counted before a program is lowered: its bodies, and the slots of each. (docs/LANGUAGE.md, "Limits")
use Rattle.std.specs.Prelude.{ℕ, ◌+◌, Bool, false, ◌||◌, List, [], ◌∷◌, length, nat_lt, Option, Some, None, if◌then◌else◌}
use Rattle.wy_text.specs.LimitName.{limit_number}
use Rattle.wy_text.specs.declared.limit.LimitName.{LimitName}
use Rattle.wy_text.specs.declared.limit.LimitName.TheVariants.{Bodies, Slots}
use Rattle.wy_types.specs.Program.{Program, Scope}
use Rattle.wy_code.specs.declared.code.Body.{Body}
use Rattle.wy_meaning.specs.Starts.{Starts}
use Rattle.wy_lower.specs.Lowering.{scopes_bodies}

-- the `init` or `run` of each scope, and all methods of modules and literals
abbrev pub body_count : List Scope → ℕ
body_count [] = 0
body_count (s ∷ ss) = 1 + length s.bodies + body_count ss

abbrev pub some_slots_above : ℕ → List Body → Bool
some_slots_above most [] = false
some_slots_above most (b ∷ bs) = nat_lt most b.slots || some_slots_above most bs

-- the limit that a program passes, the one on bodies first
abbrev pub lowering_limit : Program → Starts → Option LimitName
lowering_limit p starts =
    if nat_lt (limit_number Bodies) (body_count p.scopes) then Some Bodies
    else if some_slots_above (limit_number Slots) (scopes_bodies p starts p.scopes) then Some Slots
    else None
