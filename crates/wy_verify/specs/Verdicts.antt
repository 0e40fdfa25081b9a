-- What a body, an instance, all instances and a file come to.
use Rattle.std.specs.Prelude.{◌≡◌, ℕ, ◌<◌, List, Option, Some, length, slice_get, Result, Ok, Err}
use Rattle.wy_code.specs.declared.code.Body.{Body}
use Rattle.wy_code.specs.declared.code.Code.{Code}
use Rattle.wy_code.specs.declared.code.Instance.{Instance}
use Rattle.wy_code.specs.declared.code.Scope.{Scope}
use Rattle.wy_code.specs.Machine.{all_instances}
use Rattle.wy_image.specs.declared.file.ImageFile.{ImageFile}
use Rattle.wy_image.specs.declared.typing.Bounds.{Bounds}
use Rattle.wy_image.specs.declared.typing.Typing.{Typing}
use Rattle.wy_verified.specs.CodeOf.{code_of, image_of}
use Rattle.wy_verified.specs.Images.{Image}
use Rattle.wy_verified.specs.Ranges.{IsInRange}
use Rattle.wy_verified.specs.Verifying.{Subject, subjects_of, BodyPassesIn, BodyFailsIn, BodiesPass, BodiesFail}
use Rattle.wy_verified.specs.Verifying.{SubjectPasses, SubjectFails, SubjectsPass, SubjectsFail}
use Rattle.wy_verified.specs.Verifying.{IsVerifiedFile, FileFails, held_by}
use Rattle.wy_verified.specs.Kinds.{value_kinds}
use Rattle.wy_verify.specs.Sites.{Site}
use Rattle.wy_verify.specs.Subjects.{AreArguments}
use Rattle.wy_verify.specs.declared.verdict.Verdict.{Verdict}
use Rattle.wy_verify.specs.declared.verdict.Verdict.TheVariants as body
use Rattle.wy_verify.specs.declared.subjects.SubjectVerdict.{SubjectVerdict}
use Rattle.wy_verify.specs.declared.subjects.SubjectVerdict.TheVariants as subject
use Rattle.wy_verify.specs.declared.verifying.Failure.{Failure}
use Rattle.wy_verify.specs.declared.verifying.FileVerdict.{FileVerdict}
use Rattle.wy_verify.specs.declared.verifying.FileVerdict.TheVariants as file
use Rattle.wy_verify.specs.declared.verifying.VerifyRefusal.{VerifyRefusal}
use Rattle.wy_verify.specs.declared.verifying.VerifyRefusal.TheVariants as refusal

module _ (image : Image) where
  -- what a body of an instance comes to
  abbrev pub IsBodyVerdict : ℕ → Subject → Bounds → Verdict → Type 0
  IsBodyVerdict x u s body.Passes = BodyPassesIn image x u s
  IsBodyVerdict x u s (body.Fails rule at) = BodyFailsIn image x u s rule at

  -- .. bodies, the first of which has this number
  abbrev pub AreBodiesVerdict : ℕ → Subject → ℕ → List Bounds → SubjectVerdict → Type 0
  AreBodiesVerdict x u n ss subject.Passes = BodiesPass image x u ss
  AreBodiesVerdict x u n ss (subject.Fails rule body at) = BodiesFail image x u n ss rule body at

  -- .. an instance with its arguments
  abbrev pub IsSubjectVerdict : ℕ → Subject → SubjectVerdict → Type 0
  IsSubjectVerdict x u subject.Passes = SubjectPasses image x u
  IsSubjectVerdict x u (subject.Fails rule body at) = SubjectFails image x u rule body at

  -- .. and instances, the first of which has this number
  abbrev pub AreSubjectsVerdict : ℕ → List Subject → FileVerdict → Type 0
  AreSubjectsVerdict x us file.Passes = SubjectsPass image x us
  AreSubjectsVerdict x us (file.Fails rule instance body at) = SubjectsFail image x us rule instance body at

-- the instances of a file come to this
abbrev pub IsFileVerdict : ImageFile → FileVerdict → Type 0
IsFileVerdict f v = AreSubjectsVerdict (image_of f) 0 (subjects_of f) v

-- .. and the one of a number to this
abbrev pub IsVerdictAt : ImageFile → ℕ → SubjectVerdict → Type 0
IsVerdictAt f x v = (u : Subject) → slice_get (subjects_of f) x ≡ Some u → IsSubjectVerdict (image_of f) x u v

-- a file is verified, and this is its code; or this is its first failure
abbrev pub IsJudgement : ImageFile → Result Code Failure → Type 0
IsJudgement f (Ok code) = IsVerifiedFile f × (code ≡ code_of f)
IsJudgement f (Err e) = FileFails f e.rule e.instance e.body e.at

-- the answer of the verifier: the file is verified, or its first failure
abbrev pub VerifyAnswer : ImageFile → Result ImageFile VerifyRefusal → Type 0
VerifyAnswer f (Ok v) = (v ≡ f) × IsVerifiedFile f
VerifyAnswer f (Err (refusal.Fails rule instance body at)) = FileFails f rule instance body at
VerifyAnswer f (Err refusal.Memory) = Unit {0}

------------------------------------------------------------
-- Instances where they are judged

-- an instance or the program of a file, and its number
pub record Numbered : Type 0 where
  pub file : ImageFile
  pub x : ℕ
  pub subject : Subject

-- it is the one of a number
pub record IsSubjectAt (f : ImageFile) (x : ℕ) (n : Numbered) : Type 0 where
  pub file_is : n.file ≡ f
  pub x_is : n.x ≡ x
  pub there : slice_get (subjects_of f) x ≡ Some n.subject

-- the file passes V-Range, and these are the instance of a number, its scope, and what it states; the numbers of the
-- scope's literals have four bytes
pub record IsNumbered (image : Image) (f : ImageFile) (x : ℕ) (instance : Instance) (scope : Scope)
    (typing : Typing) : Type 0 where
  pub image_is : image ≡ image_of f
  pub range : IsInRange f
  pub instance_is : slice_get (all_instances image.code) x ≡ Some instance
  pub scope_is : slice_get image.code.scopes instance.scope ≡ Some scope
  pub typing_is : slice_get image.typings x ≡ Some typing
  pub few : length scope.literals < 4294967296

module _ (n : Numbered) where
  -- what the arguments of the instance come to
  abbrev pub IsFirstUnfitOf : Option ℕ → Type 0
  IsFirstUnfitOf o = AreArguments (image_of n.file) n.subject.instance.arguments (value_kinds (image_of n.file) n.x 0) o

  -- .. its bodies
  abbrev pub AreBodiesOf : SubjectVerdict → Type 0
  AreBodiesOf v = AreBodiesVerdict (image_of n.file) n.x n.subject 0 n.subject.typing.bodies v

  -- .. one of them
  abbrev pub IsBodyOf : Bounds → Verdict → Type 0
  IsBodyOf s v = IsBodyVerdict (image_of n.file) n.x n.subject s v

  -- .. and all of it
  abbrev pub IsVerdictOf : SubjectVerdict → Type 0
  IsVerdictOf v = IsSubjectVerdict (image_of n.file) n.x n.subject v

-- a body of the instance where it is judged
abbrev pub site_of : Numbered → Option ℕ → Body → Bounds → Site
site_of n owner b s = record {
  image = image_of n.file;
  x = n.x;
  owner = owner;
  body = b;
  bounds = s;
  held = held_by (image_of n.file) n.x n.subject.instance owner;
}
