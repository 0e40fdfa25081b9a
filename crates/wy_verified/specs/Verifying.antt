-- When an image file is verified, and its first failure. V-Range comes first, for the whole image. Then come the
-- instances in their order, and the program: of each its arguments, and then its bodies as they are stated; in a body
-- the instructions from the first on.
use Rattle.std.specs.Prelude.{◌≡◌, ◌≢◌, ℕ, suc, ◌-◌, List, [], ◌∷◌, ◌++◌}
use Rattle.std.specs.Prelude.{length, map, ◌⊎◌, nat_eq, Option, Some, None, slice_get, if◌then◌else◌}
use Rattle.wy_code.specs.declared.code.Argument.{Argument}
use Rattle.wy_code.specs.declared.code.Argument.TheVariants as argument
use Rattle.wy_code.specs.declared.code.Body.{Body}
use Rattle.wy_code.specs.declared.code.Instance.{Instance}
use Rattle.wy_code.specs.declared.code.Literal.{Literal}
use Rattle.wy_code.specs.Machine.{literal_of}
use Rattle.wy_image.specs.declared.file.ImageFile.{ImageFile}
use Rattle.wy_image.specs.declared.file.Instance.{Instance as FileInstance}
use Rattle.wy_image.specs.declared.file.Scope.{Scope}
use Rattle.wy_image.specs.declared.typing.Bounds.{Bounds}
use Rattle.wy_image.specs.declared.typing.Typing.{Typing}
use Rattle.wy_verified.specs.CodeOf.{instance_of, main_of, image_of}
use Rattle.wy_verified.specs.Images.{Image}
use Rattle.wy_verified.specs.Kinds.{Kind, Own, Granted, value_kinds, Fits}
use Rattle.wy_verified.specs.Ranges.{Role, roles_of, IsInRange}
use Rattle.wy_verified.specs.Rules.{Owner, at_first}
use Rattle.wy_verified.specs.Visiting.{VisitsFrom, FailsVisit}
use Rattle.wy_verified.specs.Walking.{VerifyRule, Range, Argument as RuleArgument, Flow}

-- an instance or the program, as code has it, its scope, and what it states
pub record Subject : Type 0 where
  pub instance : Instance
  pub scope : Option Scope
  pub typing : Typing

-- an instance
abbrev pub instance_subject : ImageFile → FileInstance → Subject
instance_subject file i = record {
  instance = instance_of i;
  scope = slice_get file.scopes i.scope;
  typing = i.typing;
}

-- the program
abbrev pub main_subject : ImageFile → Subject
main_subject file = record {
  instance = main_of file.main;
  scope = slice_get file.scopes file.main.scope;
  typing = file.main.typing;
}

-- the instances in their order, and the program last
abbrev pub subjects_of : ImageFile → List Subject
subjects_of file = map (instance_subject file) file.instances ++ main_subject file ∷ []

-- whose a body is
abbrev pub owner_in : List Role → ℕ → Option Owner
owner_in [] b = None
owner_in (r ∷ rs) b = if nat_eq r.1 b then Some r.0 else owner_in rs b

-- .. among those of a scope
abbrev pub owner_of : Option Scope → ℕ → Option Owner
owner_of None b = None
owner_of (Some s) b = owner_in (roles_of s) b

-- the number of fields of a literal
abbrev pub fields_in : Option Literal → ℕ
fields_in None = 0
fields_in (Some l) = l.fields

------------------------------------------------------------
-- Arguments

-- what an argument is
abbrev pub argument_kind : Argument → Kind
argument_kind (argument.Grant g) = Granted g
argument_kind (argument.Instance y) = Own y 0

module _ (image : Image) where
  -- each argument fits the type of its value
  abbrev pub ArgumentsPass : List Argument → List Kind → Type 0
  ArgumentsPass [] ks = Unit {0}
  ArgumentsPass (a ∷ more) [] = ⊥
  ArgumentsPass (a ∷ more) (k ∷ ks) = Fits image (argument_kind a) k × ArgumentsPass more ks

  -- .. or this is the first that does not fit
  abbrev pub ArgumentsFail : ℕ → List Argument → List Kind → ℕ → Type 0
  ArgumentsFail n [] ks at = ⊥
  ArgumentsFail n (a ∷ more) [] at = ⊥
  ArgumentsFail n (a ∷ more) (k ∷ ks) at =
      ((at ≡ n) × (Fits image (argument_kind a) k → ⊥)) ⊎
      (Fits image (argument_kind a) k × ArgumentsFail (suc n) more ks at)

  ------------------------------------------------------------
  -- Bodies

  -- how many values its object has before its fields
  abbrev pub held_by : ℕ → Instance → Owner → ℕ
  held_by x i None = length i.arguments
  held_by x i (Some l) = length (value_kinds image x l) - fields_in (literal_of image.code x l)

  -- the walk through a body
  abbrev pub WalkPasses : ℕ → Instance → Option Owner → Option Body → Bounds → Type 0
  WalkPasses x i None b s = ⊥
  WalkPasses x i (Some o) None s = ⊥
  WalkPasses x i (Some o) (Some b) s =
      (b.instructions ≢ []) × VisitsFrom image x o b s (held_by x i o) 0 (Some at_first) [] b.instructions

  -- .. or it fails first by a rule at a place; a body without instructions fails V-Flow at 0
  abbrev pub WalkFails : ℕ → Instance → Option Owner → Option Body → Bounds → VerifyRule → ℕ → Type 0
  WalkFails x i None b s rule at = ⊥
  WalkFails x i (Some o) None s rule at = ⊥
  WalkFails x i (Some o) (Some b) s rule at =
      ((b.instructions ≡ []) × (rule ≡ Flow) × (at ≡ 0)) ⊎
      FailsVisit image x o b s (held_by x i o) 0 (Some at_first) [] b.instructions rule at

  -- a body passes, by what is stated of it
  abbrev pub BodyPassesIn : ℕ → Subject → Bounds → Type 0
  BodyPassesIn x u s = WalkPasses x u.instance (owner_of u.scope s.body) (slice_get image.code.bodies s.body) s

  -- .. or fails first
  abbrev pub BodyFailsIn : ℕ → Subject → Bounds → VerifyRule → ℕ → Type 0
  BodyFailsIn x u s rule at =
      WalkFails x u.instance (owner_of u.scope s.body) (slice_get image.code.bodies s.body) s rule at

  -- all bodies pass
  abbrev pub BodiesPass : ℕ → Subject → List Bounds → Type 0
  BodiesPass x u [] = Unit {0}
  BodiesPass x u (s ∷ ss) = BodyPassesIn x u s × BodiesPass x u ss

  -- .. or one is the first that fails
  abbrev pub BodiesFail : ℕ → Subject → ℕ → List Bounds → VerifyRule → ℕ → ℕ → Type 0
  BodiesFail x u n [] rule body at = ⊥
  BodiesFail x u n (s ∷ ss) rule body at =
      ((body ≡ n) × BodyFailsIn x u s rule at) ⊎ (BodyPassesIn x u s × BodiesFail x u (suc n) ss rule body at)

  ------------------------------------------------------------
  -- Instances

  -- the arguments fit, and all bodies pass
  abbrev pub SubjectPasses : ℕ → Subject → Type 0
  SubjectPasses x u = ArgumentsPass u.instance.arguments (value_kinds image x 0) × BodiesPass x u u.typing.bodies

  -- .. or an argument is the first that does not fit, or else a body is the first that fails
  abbrev pub SubjectFails : ℕ → Subject → VerifyRule → ℕ → ℕ → Type 0
  SubjectFails x u rule body at =
      ((rule ≡ RuleArgument) × (body ≡ 0) × ArgumentsFail 0 u.instance.arguments (value_kinds image x 0) at) ⊎
      (ArgumentsPass u.instance.arguments (value_kinds image x 0) × BodiesFail x u 0 u.typing.bodies rule body at)

  -- all of them pass
  abbrev pub SubjectsPass : ℕ → List Subject → Type 0
  SubjectsPass x [] = Unit {0}
  SubjectsPass x (u ∷ us) = SubjectPasses x u × SubjectsPass (suc x) us

  -- .. or one is the first that fails
  abbrev pub SubjectsFail : ℕ → List Subject → VerifyRule → ℕ → ℕ → ℕ → Type 0
  SubjectsFail x [] rule instance body at = ⊥
  SubjectsFail x (u ∷ us) rule instance body at =
      ((instance ≡ x) × SubjectFails x u rule body at) ⊎
      (SubjectPasses x u × SubjectsFail (suc x) us rule instance body at)

------------------------------------------------------------
-- The image

-- the image is verified
abbrev pub IsVerifiedFile : ImageFile → Type 0
IsVerifiedFile file = IsInRange file × SubjectsPass (image_of file) 0 (subjects_of file)

-- .. or this is its first failure
abbrev pub FileFails : ImageFile → VerifyRule → ℕ → ℕ → ℕ → Type 0
FileFails file rule instance body at =
    ((IsInRange file → ⊥) × (rule ≡ Range) × (instance ≡ 0) × (body ≡ 0) × (at ≡ 0)) ⊎
    (IsInRange file × SubjectsFail (image_of file) 0 (subjects_of file) rule instance body at)
