-- Laws of lowering. (docs/LANGUAGE.md, "Code of programs")
use Rattle.std.specs.Prelude.{◌≡◌, ℕ, ◌+◌, ◌<◌, ◌↔◌, Bool, List, [], ◌∷◌, ◌++◌, map, Some, length, slice_get}
use Rattle.wy_text.specs.declared.fault.Place.{Place}
use Rattle.wy_text.specs.Members.{In, Apart}
use Rattle.wy_types.specs.Code.{Block}
use Rattle.wy_types.specs.Marks.{ProgramPasses}
use Rattle.wy_types.specs.Program.{Program, Scope, Body}
use Rattle.wy_code.specs.declared.code.Scope as code
use Rattle.wy_rules.specs.Acceptance.{Accepted}
use Rattle.wy_code.specs.declared.code.Body as b
use Rattle.wy_code.specs.declared.code.Literal as l
use Rattle.wy_code.specs.declared.code.Method as m
use Rattle.wy_code.specs.Marks.{CodePasses}
use Rattle.wy_code.specs.Named.{HasStoredVals}
use Rattle.wy_code.specs.Running.{NeverStuck, machine}
use Rattle.wy_device.specs.Tapes.{Tapes}
use Rattle.wy_meaning.specs.Starts.{Starts}
use Rattle.wy_sound.specs.Courses.{course}
use Rattle.wy_sound.specs.Programs.{IsResolved, program_starts}
use Rattle.wy_lower.specs.Correct.{Follows}
use Rattle.wy_lower.specs.Counts.{body_count}
use Rattle.wy_lower.specs.Inside.{Inside}
use Rattle.wy_lower.specs.Listing.{block_listing}
use Rattle.wy_lower.specs.Lowerable.{Lowerable}
use Rattle.wy_lower.specs.Lowering.{entry_names, start_code, body_code, scope_arguments, literals_code, lowered}
use Rattle.wy_lower.specs.Parts.{scopes_parts, texts_in, calls_in, number_in}

-- the code has as many bodies as are counted
abbrev pub HasCountedBodies : Program → Starts → Type 0
HasCountedBodies p s = length (lowered p s).bodies ≡ body_count p.scopes

-- each text that the program writes out is found at its number
abbrev pub HasItsTexts : Program → Starts → Type 0
HasItsTexts p s =
    (bytes : List ℕ) → In bytes (texts_in (scopes_parts p.scopes)) → slice_get (lowered p s).texts (number_in (lowered p s).texts bytes) ≡ Some bytes

-- so is the name of each call, and of each method of its modules and literals
abbrev pub HasItsMethodNames : Program → Starts → Type 0
HasItsMethodNames p s =
    (name : List ℕ) → In name (calls_in (scopes_parts p.scopes) ++ entry_names p.scopes) →
    slice_get (lowered p s).methods (number_in (lowered p s).methods name) ≡ Some name

-- a scope is found at its number, its `init` or `run` at the number that it says, and its methods after that one
pub record Stands (p : Program) (s : Starts) (c : ℕ) (sc : Scope) : Type 0 where
  pub first : ℕ
  pub scope : slice_get (lowered p s).scopes c ≡ Some (let x : code.Scope = record { arguments = scope_arguments sc; start = first; literals = literals_code p s sc first 0 sc.literals } in x)
  pub start : slice_get (lowered p s).bodies first ≡ Some (start_code p s sc)
  pub bodies : (k : ℕ) (b : Body) → slice_get sc.bodies k ≡ Some b → slice_get (lowered p s).bodies (first + 1 + k) ≡ Some (body_code p s sc k b)

abbrev pub HasItsBodies : Program → Starts → Type 0
HasItsBodies p s = (c : ℕ) (sc : Scope) → slice_get p.scopes c ≡ Some sc → Stands p s c sc

-- the numbers of the bodies of literals (the module's own object is the first), and those of scopes: of each its first body, and its methods
abbrev pub literals_bodies : List l.Literal → List ℕ
literals_bodies [] = []
literals_bodies (x ∷ xs) = map (λ (e : m.Method). e.body) x.methods ++ literals_bodies xs

abbrev pub scopes_numbers : List code.Scope → List ℕ
scopes_numbers [] = []
scopes_numbers (x ∷ xs) = x.start ∷ (literals_bodies x.literals ++ scopes_numbers xs)

-- each body of the code stands once among its scopes
abbrev pub HasBodiesOnce : Program → Starts → Type 0
HasBodiesOnce p s =
    Apart (scopes_numbers (lowered p s).scopes) × ((n : ℕ) → In n (scopes_numbers (lowered p s).scopes) ↔ (n < length (lowered p s).bodies))

-- each of the code's bodies has as many `val`s as its instructions say
abbrev pub HasItsVals : Program → Starts → Type 0
HasItsVals p s = (b : b.Body) → In b (lowered p s).bodies → HasStoredVals b

-- a test that each mark of the program passes is passed by the mark of each instruction of its code
abbrev pub HasItsMarks : Program → Starts → Type 0
HasItsMarks p s = (test : Place → Bool) → ProgramPasses test p → CodePasses test (lowered p s)

-- how long the code of a block is does not depend on where it begins
abbrev pub HasFixedLength : Inside → Block → Type 0
HasFixedLength i b = (at other : ℕ) → length (block_listing i at b) ≡ length (block_listing i other b)

------------------------------------------------------------
-- Accepted programs

-- what resolving makes and is accepted is lowered to code that does what it means, with the instances of its start list
abbrev pub AcceptedIsLowerable : Type 0
AcceptedIsLowerable = (p : Program) → IsResolved p → Accepted p → Lowerable p (program_starts p)

-- whatever depth, bound and answers are
abbrev pub AcceptedCodeFollows : Type 0
AcceptedCodeFollows =
    (p : Program) → IsResolved p → Accepted p →
    (n k : ℕ) (tapes : Tapes) → Follows (course p n tapes) k (machine (lowered p (program_starts p)) n k tapes)

-- so its code is never stuck
abbrev pub AcceptedIsNeverStuck : Type 0
AcceptedIsNeverStuck = (p : Program) → IsResolved p → Accepted p → NeverStuck (lowered p (program_starts p))
