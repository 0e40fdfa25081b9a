-- What is judged, with its tables.
use Rattle.std.specs.Prelude.{◌≡◌, ℕ, suc, List, [], ◌∷◌, Option, Some, None, map, slice_get, if◌then◌else◌}
use Rattle.indexmap.specs.IndexMap.{IndexMap}
use Rattle.wy_code.specs.declared.code.Code.{Code}
use Rattle.wy_code.specs.declared.code.Literal.{Literal}
use Rattle.wy_code.specs.declared.code.Method.{Method}
use Rattle.wy_code.specs.EachOnce.{is_among}
use Rattle.wy_code.specs.Machine.{literal_of, literal_of_scope, body_called}
use Rattle.wy_image.specs.declared.file.ImageFile.{ImageFile}
use Rattle.wy_image.specs.declared.typing.Signature.{Signature}
use Rattle.wy_verified.specs.CodeOf.{code_of, names_of, typings_of, primitive_methods, without}
use Rattle.wy_verified.specs.Images.{Image}
use Rattle.wy_verified.specs.declared.known.Kind.{Kind}
use Rattle.wy_verified.specs.declared.known.Kind.TheVariants.{Ints, Truths, Texts, Units, Named, Own, Granted}
use Rattle.wy_verified.specs.Ranges.{IsInRange}
use Rattle.wy_verify.specs.declared.judged.Tables.{Tables}
use Rattle.wy_verify.specs.declared.tables.Entry.{Entry}
use Rattle.wy_verify.specs.Tables.{Tells, same_pair, same_triple, types_notes, typings_notes, scopes_notes}

-- the numbers of the names that operations of grants have, where the first name has this number
abbrev pub operation_numbers : ℕ → List (List ℕ) → List ℕ
operation_numbers k [] = []
operation_numbers k (n ∷ ns) = if is_among n primitive_methods then k ∷ operation_numbers (suc k) ns else operation_numbers (suc k) ns

-- what the tables of a file and its code have
pub record IsTabled {S : Type 0} (file : ImageFile) (code : Code) (more : List (List ℕ)) (granted : List ℕ)
    (listed stated : IndexMap (ℕ × ℕ) Entry S) (called : IndexMap (ℕ × ℕ × ℕ) ℕ S) : Type 0 where
  pub more_is : more ≡ without file.methods primitive_methods
  pub granted_is : granted ≡ operation_numbers 0 (names_of file)
  pub listed_is : Tells same_pair listed (types_notes 0 file.types)
  pub stated_is : Tells same_pair stated (typings_notes 0 (typings_of file))
  pub called_is : Tells same_triple called (scopes_notes 0 code.scopes)

-- .. and these are such
abbrev pub HasTables : ImageFile → Code → Tables → Type 0
HasTables file code t = IsTabled file code t.more t.granted t.listed.entries t.stated.entries t.called.bodies

-- the file passes V-Range, and these are its code and its tables
abbrev pub IsJudged : ImageFile → Code → Tables → Type 0
IsJudged file code t = (code ≡ code_of file) × IsInRange file × HasTables file code t

-- the literal of a number of a scope
abbrev pub literal_by : Code → Option ℕ → ℕ → Option Literal
literal_by code None l = None
literal_by code (Some s) l = literal_of_scope (slice_get code.scopes s) l

-- the body that a method of a literal has
abbrev pub body_by : Option Literal → ℕ → Option ℕ
body_by None m = None
body_by (Some l) m = body_called m l.methods

-- the numbers of a listed type's methods
abbrev pub listed_numbers : Option (List Signature) → List ℕ
listed_numbers None = []
listed_numbers (Some ss) = map (λ (s : Signature). s.method) ss

-- .. of a literal's
abbrev pub literal_numbers : Option Literal → List ℕ
literal_numbers None = []
literal_numbers (Some l) = map (λ (m : Method). m.method) l.methods

-- .. and of any type's: no other number has a method
abbrev pub kind_numbers : Image → Kind → List ℕ
kind_numbers image (Named t) = listed_numbers (slice_get image.types t)
kind_numbers image (Own x l) = literal_numbers (literal_of image.code x l)
kind_numbers image (Granted g) = operation_numbers 0 image.names
kind_numbers image Ints = []
kind_numbers image Truths = []
kind_numbers image Texts = []
kind_numbers image Units = []
