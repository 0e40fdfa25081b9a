-- What rechecking answers: that the bytes are a certificate which proves the program, or the first thing that is wrong
-- (docs/LANGUAGE.md, "Certificates").
use Rattle.std.specs.Prelude.{◌≡◌, ℕ, List, Result, Ok, Err}
use Rattle.wy_types.specs.Program.{Program, Scope}
use Rattle.wy_cert.specs.declared.certificate.CertScope.{CertScope}
use Rattle.wy_cert.specs.declared.reading.ReadRefusal.{ReadRefusal}
use Rattle.wy_cert.specs.declared.reading.ReadRefusal.TheVariants as read
use Rattle.wy_proving.specs.declared.proof.CertTest.{CertTest}
use Rattle.wy_proving.specs.Unproved.{FailsAt, HoldsBefore, IsFirstUnproved}
use Rattle.wy_recheck.specs.declared.failure.Failure.{Failure}
use Rattle.wy_recheck.specs.declared.failure.Failure.TheVariants.{At, Memory as NoMemory}
use Rattle.wy_recheck.specs.declared.rechecking.Stop.{Stop}
use Rattle.wy_recheck.specs.declared.rechecking.Stop.TheVariants as stop
use Rattle.wy_recheck.specs.declared.rechecking.CertRefusal.{CertRefusal}
use Rattle.wy_recheck.specs.declared.rechecking.CertRefusal.TheVariants as refusal

-- a test of this name that fails at a number
abbrev pub stop_of : CertTest → Failure → Stop
stop_of test (At i) = stop.Fails test i
stop_of test NoMemory = stop.Memory

-- what a test gives, or that it fails
abbrev pub IsTold : {X : Type 0} → CertTest → Result X Failure → Result X Stop → Type 0
IsTold test (Ok x) result = result ≡ Ok x
IsTold test (Err f) result = result ≡ Err (stop_of test f)

-- a refusal of bytes, and of a scope's part
abbrev pub refusal_of : ReadRefusal → CertRefusal
refusal_of (read.BadCert at) = refusal.BadCert at
refusal_of read.Memory = refusal.Memory

abbrev pub unproved : ℕ → Stop → CertRefusal
unproved scope (stop.Fails test index) = refusal.Unproved scope test index
unproved scope stop.Memory = refusal.Memory

-- a test of a scope fails, and all before it hold; of want of memory nothing is said
abbrev pub StopsIn : Program → ℕ → Scope → CertScope → Stop → Type 0
StopsIn p k s c (stop.Fails test i) = HoldsBefore p k s c test × FailsAt p k s c test i
StopsIn p k s c stop.Memory = Unit {0}

-- a certificate's first test that fails
abbrev pub StopsAt : Program → List CertScope → CertRefusal → Type 0
StopsAt p cert (refusal.BadCert at) = ⊥
StopsAt p cert (refusal.Unproved scope test index) = IsFirstUnproved p cert scope test index
StopsAt p cert refusal.Memory = Unit {0}
