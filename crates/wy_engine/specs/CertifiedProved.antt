-- That what `certify` writes is what `recheck` takes.
use Rattle.std.specs.Prelude.{ℕ, List, ◌∷◌}
use Rattle.wy_types.specs.Program.{Program}
use Rattle.wy_certify.specs.Certificates.{IsCertified}
use Rattle.wy_settings.specs.declared.command_line.Command.TheVariants as command
use Rattle.wy_engine.specs.Judgement.{Asks, proved}
use Rattle.wy_engine.specs.Passing.{Passes}

-- a certificate that is written of texts which pass proves their program
abbrev pub CertifiedIsProved : Type 0
CertifiedIsProved = (texts : List (List ℕ)) (program : Program) (bytes : List ℕ) → Passes texts program → IsCertified program bytes → Asks command.Recheck (bytes ∷ texts) (proved program)
