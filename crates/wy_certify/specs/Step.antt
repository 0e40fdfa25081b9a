-- A step of the code's own as a step of a derivation.
use Rattle.std.specs.Prelude.{ℕ, List, [], ◌∷◌, Bool as Truth, true, false, map}
use Rattle.wy_text.specs.declared.fault.Place.{Place}
use Rattle.wy_types.specs.declared.types.TypeRef.{TypeRef}
use Rattle.wy_rules.specs.Canonical.{same_type}
use Rattle.wy_proving.specs.Steps.{Step, sub_step}
use Rattle.wy_certify.specs.declared.step.Step as own

abbrev pub step_of : own.Step → Step TypeRef
step_of x = record { rule = x.rule; place = x.place; parts = x.parts; below = x.below; typ = x.typ; effect = x.effect }

unfoldable pub steps_of : List own.Step → List (Step TypeRef)
steps_of xs = map step_of xs

-- T-Sub, unless the type is the one that is asked for
abbrev pub sub_unless : Truth → Place → TypeRef → TypeRef → List ℕ → List (Step TypeRef)
sub_unless true place k t effect = []
sub_unless false place k t effect = sub_step place k t effect ∷ []

unfoldable pub sub_steps : Place → TypeRef → TypeRef → List ℕ → List (Step TypeRef)
sub_steps place k t effect = sub_unless (same_type k t) place k t effect
