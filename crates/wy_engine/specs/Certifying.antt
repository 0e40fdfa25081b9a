-- Certificates that are written: of an accepted program, within the limit on bytes.
use Rattle.std.specs.Prelude.{ℕ, List}
use Rattle.wy_types.specs.Program.{Program}
use Rattle.wy_certify.specs.Certificates.{IsCertified, IsTooLong}
use Rattle.wy_engine.specs.Passing.{Passes}

-- the texts pass, and a certificate of their program is within the limit
pub record HasCertificate (texts : List (List ℕ)) (program : Program) : Type 0 where
  pub passes : Passes texts program
  pub bytes : List ℕ
  pub is : IsCertified program bytes

-- .. or has more bytes
pub record EndsCertifying (texts : List (List ℕ)) : Type 0 where
  pub program : Program
  pub passes : Passes texts program
  pub long : IsTooLong program
