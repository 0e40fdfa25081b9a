-- What is tested of an instance or the program.
use Rattle.std.specs.Prelude.{◌≡◌, ℕ, List, Option, Some, None, slice_get}
use Rattle.wy_code.specs.declared.code.Argument.{Argument}
use Rattle.wy_verified.specs.Images.{Image}
use Rattle.wy_verified.specs.declared.known.Kind.{Kind}
use Rattle.wy_verified.specs.Kinds.{Fits}
use Rattle.wy_verified.specs.Verifying.{argument_kind, ArgumentsPass, ArgumentsFail}

-- the argument at a place fits the type there
abbrev pub ArgumentFitsAt : Image → List Argument → List Kind → ℕ → Type 0
ArgumentFitsAt image arguments kinds at =
    (a : Argument) × (k : Kind) × (slice_get arguments at ≡ Some a) × (slice_get kinds at ≡ Some k) ×
    Fits image (argument_kind a) k

-- all arguments fit, or this is the place of the first that does not
abbrev pub AreArguments : Image → List Argument → List Kind → Option ℕ → Type 0
AreArguments image arguments kinds None = ArgumentsPass image arguments kinds
AreArguments image arguments kinds (Some at) = ArgumentsFail image 0 arguments kinds at
