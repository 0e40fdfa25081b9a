-- What a verified file is known for, and that a file has one verdict.
use Rattle.std.specs.Prelude.{◌≡◌, ℕ}
use Rattle.wy_device.specs.Tapes.{Tapes}
use Rattle.wy_code.specs.Running.{machine, NeverStuck}
use Rattle.wy_image.specs.declared.file.ImageFile.{ImageFile}
use Rattle.wy_meaning.specs.Bounds.{Bounded}
use Rattle.wy_verified.specs.CodeOf.{code_of, image_of}
use Rattle.wy_verified.specs.Laws.{authority_of}
use Rattle.wy_verified.specs.Verifying.{IsVerifiedFile, FileFails}
use Rattle.wy_verified.specs.Walking.{VerifyRule}

-- the code of a verified file is never stuck
abbrev pub VerifiedFileIsNeverStuck : ImageFile → Type 0
VerifiedFileIsNeverStuck file = IsVerifiedFile file → NeverStuck (code_of file)

-- in no run of a verified file does a body do more than the file states of it
abbrev pub VerifiedFileIsBounded : ImageFile → Type 0
VerifiedFileIsBounded file =
    IsVerifiedFile file → (n k : ℕ) (tapes : Tapes) →
    Bounded (authority_of (image_of file)) (machine (code_of file) n k tapes).events

-- a file that is verified has no failure
abbrev pub VerifiedFileDoesNotFail : ImageFile → Type 0
VerifiedFileDoesNotFail file =
    (rule : VerifyRule) (instance body at : ℕ) → IsVerifiedFile file → FileFails file rule instance body at → ⊥

-- two failures are the same: the rule, the instance, the body and the place
pub record IsSameFailure (rule other : VerifyRule) (x y b c at to : ℕ) : Type 0 where
  pub rule_is : rule ≡ other
  pub instance_is : x ≡ y
  pub body_is : b ≡ c
  pub place_is : at ≡ to

-- .. and another one has one first failure
abbrev pub FileFailsOnce : ImageFile → Type 0
FileFailsOnce file =
    (rule other : VerifyRule) (x y b c at to : ℕ) → FileFails file rule x b at → FileFails file other y c to →
    IsSameFailure rule other x y b c at to
