-- A module's own literal captures nothing, since no variable is in sight round it; the program's has nothing either.
use Rattle.std.proofs.Common.{◌≡◌, [], refl}
use Rattle.std.specs.Prelude.{slice_get}
use Rattle.wy_types.specs.Program.{Scope}
use Rattle.wy_types.specs.Vals.{literal_captures}
use Rattle.wy_well_formed.specs.WellFormed.{ResolvedModulesCaptureNothing}
use Rattle.wy_well_formed.proofs.EachScope.{each_scope}

pub modules_capture_nothing : ResolvedModulesCaptureNothing
modules_capture_nothing items p r =
    let P : Scope → Type 0 = λ s. literal_captures (slice_get s.literals 0) ≡ [] in
    each_scope items p r P (λ m i. refl) refl
