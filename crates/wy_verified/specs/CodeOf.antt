-- The code of an image file, and what is judged of it. The file's constant texts are in its instructions; code has a
-- table of them. A body has the name that is stated of it, and as many `val`s as its instructions store. The file
-- counts literals from 0; in code they come after the module itself.
use Rattle.std.specs.Prelude.{codes, ℕ, suc, ◌-◌, List, [], ◌∷◌, ◌++◌, map, Option, Some, None, bytes_eq, if◌then◌else◌}
use Rattle.wy_code.specs.declared.code.Argument as code_argument
use Rattle.wy_code.specs.declared.code.Argument.TheVariants as argument
use Rattle.wy_code.specs.declared.code.Body as code_body
use Rattle.wy_code.specs.declared.code.Code.{Code}
use Rattle.wy_code.specs.declared.code.Instance as code_instance
use Rattle.wy_code.specs.declared.code.Grant as code_grant
use Rattle.wy_code.specs.declared.code.Literal as code_literal
use Rattle.wy_code.specs.declared.code.Method.{Method}
use Rattle.wy_code.specs.declared.code.Source.{Source}
use Rattle.wy_code.specs.declared.code.Source.TheVariants as source
use Rattle.wy_code.specs.declared.code.Scope as code_scope
use Rattle.wy_code.specs.declared.instruction.Constant as code_constant
use Rattle.wy_code.specs.declared.instruction.Constant.TheVariants as constant
use Rattle.wy_code.specs.declared.instruction.Instruction as code_instruction
use Rattle.wy_code.specs.declared.instruction.Instruction.TheVariants as instruction
use Rattle.wy_code.specs.declared.instruction.Placed.{Placed}
use Rattle.wy_code.specs.Named.{greatest, named_in, slot_stored}
use Rattle.wy_code.specs.EachOnce.{is_among, each_once}
use Rattle.wy_image.specs.declared.file.Argument.{Argument}
use Rattle.wy_image.specs.declared.file.Argument.TheVariants as handed
use Rattle.wy_image.specs.declared.file.Body.{Body}
use Rattle.wy_image.specs.declared.file.Capture.{Capture}
use Rattle.wy_image.specs.declared.file.Capture.TheVariants as capture
use Rattle.wy_image.specs.declared.file.Constant.{Constant}
use Rattle.wy_image.specs.declared.file.Constant.TheVariants as raw
use Rattle.wy_image.specs.declared.file.Entry.{Entry}
use Rattle.wy_image.specs.declared.file.Grant.{Grant}
use Rattle.wy_image.specs.declared.file.ImageFile.{ImageFile}
use Rattle.wy_image.specs.declared.file.Instance.{Instance}
use Rattle.wy_image.specs.declared.file.Instruction.{Instruction}
use Rattle.wy_image.specs.declared.file.Instruction.TheVariants as does
use Rattle.wy_image.specs.declared.file.Literal.{Literal}
use Rattle.wy_image.specs.declared.file.Main.{Main}
use Rattle.wy_image.specs.declared.file.Row.{Row}
use Rattle.wy_image.specs.declared.file.Scope.{Scope}
use Rattle.wy_image.specs.declared.typing.Bounds.{Bounds}
use Rattle.wy_image.specs.declared.typing.Typing.{Typing}
use Rattle.wy_verified.specs.Images.{Image}
use Rattle.wy_verified.specs.Kinds.{stated_in}

------------------------------------------------------------
-- Texts

-- the text that a constant pushes, if it is one
abbrev pub constant_text : Constant → List (List ℕ)
constant_text (raw.Text t) = t ∷ []
constant_text _ = []

-- .. and that an instruction pushes
abbrev pub instruction_text : Instruction → List (List ℕ)
instruction_text (does.Push c) = constant_text c
instruction_text _ = []

-- the texts that rows push, in their order
abbrev pub rows_texts : List Row → List (List ℕ)
rows_texts [] = []
rows_texts (r ∷ rs) = instruction_text r.instruction ++ rows_texts rs

-- .. and that bodies push
abbrev pub bodies_texts : List Body → List (List ℕ)
bodies_texts [] = []
bodies_texts (b ∷ bs) = rows_texts b.rows ++ bodies_texts bs

-- the texts that are pushed, each once, in the order of bodies and rows
abbrev pub texts_of : ImageFile → List (List ℕ)
texts_of file = each_once (bodies_texts file.bodies)

-- the number of a text in a table
abbrev pub number_in : List (List ℕ) → List ℕ → ℕ
number_in [] t = 0
number_in (x ∷ xs) t = if bytes_eq x t then 0 else suc (number_in xs t)

------------------------------------------------------------
-- Instructions and bodies

-- a constant of code has the number of its text
abbrev pub constant_of : List (List ℕ) → Constant → code_constant.Constant
constant_of texts (raw.Int n) = constant.Int n
constant_of texts (raw.Truth b) = constant.Truth b
constant_of texts raw.Unit = constant.Unit
constant_of texts (raw.Text t) = constant.Text (number_in texts t)
constant_of texts (raw.Grant g) = constant.Grant g
constant_of texts (raw.Instance y) = constant.Instance y

-- an instruction of code: the literal 0 of code is the module itself
abbrev pub instruction_of : List (List ℕ) → Instruction → code_instruction.Instruction
instruction_of texts (does.Push c) = instruction.Push (constant_of texts c)
instruction_of texts (does.Load s) = instruction.Load s
instruction_of texts (does.Store s) = instruction.Store s
instruction_of texts (does.Get i) = instruction.Get i
instruction_of texts (does.Set i) = instruction.Set i
instruction_of texts does.Drop = instruction.Drop
instruction_of texts (does.Op o) = instruction.Op o
instruction_of texts (does.Jump to) = instruction.Jump to
instruction_of texts (does.JumpFalse to) = instruction.JumpFalse to
instruction_of texts (does.New l) = instruction.New (suc l)
instruction_of texts (does.Call m n) = instruction.Call m n
instruction_of texts does.Return = instruction.Return
instruction_of texts does.Finish = instruction.Finish

-- a row of code: the instruction, and its place
abbrev pub placed_of : List (List ℕ) → Row → Placed
placed_of texts r = record {
  instruction = instruction_of texts r.instruction;
  place = record { file = r.file; line = r.line; column = r.column };
}

-- the name that is stated, or another
abbrev pub name_or : Option Bounds → List ℕ → List ℕ
name_or None other = other
name_or (Some s) other = s.name

-- the name that is stated of a body, or the empty text where none is
abbrev pub name_by : List Typing → ℕ → List ℕ
name_by [] b = []
name_by (t ∷ ts) b = name_or (stated_in b t.bodies) (name_by ts b)

-- up to the last slot that is stored into
abbrev pub vals_of : ℕ → List Placed → ℕ
vals_of parameters is = greatest (named_in slot_stored is) - parameters

-- the code of the body of a number
abbrev pub body_of : List (List ℕ) → List Typing → ℕ → Body → code_body.Body
body_of texts typings k b = record {
  name = name_by typings k;
  parameters = b.parameters;
  vals = vals_of b.parameters (map (placed_of texts) b.rows);
  slots = b.slots;
  instructions = map (placed_of texts) b.rows;
}

-- .. and of bodies, the first of which has this number
abbrev pub bodies_of : List (List ℕ) → List Typing → ℕ → List Body → List code_body.Body
bodies_of texts typings k [] = []
bodies_of texts typings k (b ∷ bs) = body_of texts typings k b ∷ bodies_of texts typings (suc k) bs

------------------------------------------------------------
-- Scopes, instances and the whole

-- a grant of code
abbrev pub grant_of : Grant → code_grant.Grant
grant_of g = record { name = g.name; primitive = g.primitive }

-- a captured value of code
abbrev pub source_of : Capture → Source
source_of (capture.Slot i) = source.Slot i
source_of (capture.Value i) = source.Value i

-- a method of code
abbrev pub method_of : Entry → Method
method_of e = record { method = e.method; body = e.body }

-- a literal of code
abbrev pub literal_of : Literal → code_literal.Literal
literal_of l = record { captures = map source_of l.captures; fields = l.fields; methods = map method_of l.entries }

-- the kind of the module's own objects
abbrev pub own_literal : Scope → code_literal.Literal
own_literal s = record { captures = []; fields = s.fields; methods = map method_of s.entries }

-- the literals of code: the module itself, and then those of the file
abbrev pub literals_of : Scope → List code_literal.Literal
literals_of s = own_literal s ∷ map literal_of s.literals

-- a scope of code
abbrev pub scope_of : Scope → code_scope.Scope
scope_of s = record { arguments = s.arguments; start = s.first; literals = literals_of s }

-- an argument of code
abbrev pub argument_of : Argument → code_argument.Argument
argument_of (handed.Grant g) = argument.Grant g
argument_of (handed.Instance y) = argument.Instance y

-- an instance of code
abbrev pub instance_of : Instance → code_instance.Instance
instance_of i = record { name = i.name; scope = i.scope; arguments = map argument_of i.arguments }

-- the program of code, which has no arguments
abbrev pub main_of : Main → code_instance.Instance
main_of m = record { name = codes "main"; scope = m.scope; arguments = [] }

-- what the instances state, in their order, and the program last
abbrev pub typings_of : ImageFile → List Typing
typings_of file = map (λ (i : Instance). i.typing) file.instances ++ file.main.typing ∷ []

-- the code of a file
abbrev pub code_of : ImageFile → Code
code_of file = record {
  grants = map grant_of file.grants;
  methods = file.methods;
  texts = texts_of file;
  bodies = bodies_of (texts_of file) (typings_of file) 0 file.bodies;
  scopes = map scope_of file.scopes;
  instances = map instance_of file.instances;
  main = main_of file.main;
}

-- the methods of primitive types
abbrev pub primitive_methods : List (List ℕ)
primitive_methods =
    codes "read" ∷ codes "write" ∷ codes "has" ∷ codes "append" ∷ codes "names" ∷ codes "now" ∷ codes "word" ∷
    codes "remove" ∷ []

-- those of the second list that the first lacks
abbrev pub without : List (List ℕ) → List (List ℕ) → List (List ℕ)
without seen [] = []
without seen (n ∷ ns) = if is_among n seen then without seen ns else n ∷ without seen ns

-- a primitive type has its methods whether the file lists their names or not
abbrev pub names_of : ImageFile → List (List ℕ)
names_of file = file.methods ++ without file.methods primitive_methods

-- what is judged of a file
abbrev pub image_of : ImageFile → Image
image_of file = record { code = code_of file; names = names_of file; types = file.types; typings = typings_of file }
