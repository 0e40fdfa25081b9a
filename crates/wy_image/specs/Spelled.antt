-- The bytes of image files (docs/PROMISES.md, "Images").
use Rattle.std.specs.Prelude.{ℕ, List, [], ◌∷◌, ◌++◌}
use Rattle.wy_spelling.specs.Plain.{text_bytes, IsTextSpelled, int_bytes, IsIntSpelled, truth_bytes, IsTruthSpelled}
use Rattle.wy_spelling.specs.Spelling.{number_bytes, list_bytes, IsNumber, AreSpelled}
use Rattle.wy_device.specs.declared.primitive.Primitive.{Primitive}
use Rattle.wy_device.specs.declared.primitive.Primitive.TheVariants.{Console, Folder, Clock, Random, FullFolder}
use Rattle.wy_image.specs.declared.file.Grant.{Grant}
use Rattle.wy_image.specs.declared.file.Literal.{Literal}
use Rattle.wy_image.specs.declared.file.Entry.{Entry}
use Rattle.wy_image.specs.declared.file.Capture.{Capture}
use Rattle.wy_image.specs.declared.file.Capture.TheVariants.{Slot, Value}
use Rattle.wy_code.specs.declared.instruction.Operator.{Operator}
use Rattle.wy_code.specs.declared.instruction.Operator.TheVariants as operator
use Rattle.wy_image.specs.declared.file.Argument.{Argument}
use Rattle.wy_image.specs.declared.file.Argument.TheVariants as argument
use Rattle.wy_image.specs.declared.file.Body.{Body}
use Rattle.wy_image.specs.declared.file.Constant.{Constant}
use Rattle.wy_image.specs.declared.file.Constant.TheVariants as constant
use Rattle.wy_image.specs.declared.file.ImageFile.{ImageFile}
use Rattle.wy_image.specs.declared.file.Instance.{Instance}
use Rattle.wy_image.specs.declared.file.Instruction.{Instruction}
use Rattle.wy_image.specs.declared.file.Instruction.TheVariants as instruction
use Rattle.wy_image.specs.declared.file.Main.{Main}
use Rattle.wy_image.specs.declared.file.Row.{Row}
use Rattle.wy_image.specs.declared.file.Scope.{Scope}
use Rattle.wy_image.specs.declared.typing.Atom.{Atom}
use Rattle.wy_image.specs.declared.typing.Bounds.{Bounds}
use Rattle.wy_image.specs.declared.typing.Reference.{Reference}
use Rattle.wy_image.specs.declared.typing.Reference.TheVariants as reference
use Rattle.wy_image.specs.declared.typing.Signature.{Signature}
use Rattle.wy_image.specs.declared.typing.Target.{Target}
use Rattle.wy_image.specs.declared.typing.Typing.{Typing}

------------------------------------------------------------
-- One byte

-- the byte of a primitive type
abbrev pub primitive_byte : Primitive → ℕ
primitive_byte Console = 0
primitive_byte Folder = 1
primitive_byte Clock = 2
primitive_byte Random = 3
primitive_byte FullFolder = 4

-- a primitive type: its byte
abbrev pub primitive_bytes : Primitive → List ℕ
primitive_bytes p = primitive_byte p ∷ []

-- every primitive type has a spelling
abbrev pub IsPrimitiveSpelled : Primitive → Type 0
IsPrimitiveSpelled p = Unit {0}

-- the byte of an operator
abbrev pub operator_byte : Operator → ℕ
operator_byte operator.Add = 0
operator_byte operator.Subtract = 1
operator_byte operator.Multiply = 2
operator_byte operator.Divide = 3
operator_byte operator.Remainder = 4
operator_byte operator.Negate = 5
operator_byte operator.Less = 6
operator_byte operator.LessOrEqual = 7
operator_byte operator.Greater = 8
operator_byte operator.GreaterOrEqual = 9
operator_byte operator.Equal = 10
operator_byte operator.NotEqual = 11
operator_byte operator.Not = 12
operator_byte operator.Join = 13
operator_byte operator.Size = 14
operator_byte operator.Part = 15
operator_byte operator.Code = 16
operator_byte operator.Byte = 17
operator_byte operator.Show = 18

-- an operator: its byte
abbrev pub operator_bytes : Operator → List ℕ
operator_bytes o = operator_byte o ∷ []

-- every operator has a spelling
abbrev pub IsOperatorSpelled : Operator → Type 0
IsOperatorSpelled o = Unit {0}

------------------------------------------------------------
-- A byte for the form, and what the form has

-- a reference: the form, and the number of what is named
abbrev pub reference_bytes : Reference → List ℕ
reference_bytes reference.Int = 0 ∷ []
reference_bytes reference.Truth = 1 ∷ []
reference_bytes reference.Bytes = 2 ∷ []
reference_bytes reference.Unit = 3 ∷ []
reference_bytes (reference.Listed n) = 4 ∷ number_bytes n
reference_bytes (reference.Literal n) = 5 ∷ number_bytes n
reference_bytes (reference.Grant n) = 6 ∷ number_bytes n
reference_bytes (reference.Instance n) = 7 ∷ number_bytes n

-- its numbers fit into four bytes
abbrev pub IsReferenceSpelled : Reference → Type 0
IsReferenceSpelled (reference.Listed n) = IsNumber n
IsReferenceSpelled (reference.Literal n) = IsNumber n
IsReferenceSpelled (reference.Grant n) = IsNumber n
IsReferenceSpelled (reference.Instance n) = IsNumber n
IsReferenceSpelled r = Unit {0}

-- a captured value: a slot, or a value of the current object
abbrev pub capture_bytes : Capture → List ℕ
capture_bytes (Slot n) = 0 ∷ number_bytes n
capture_bytes (Value n) = 1 ∷ number_bytes n

-- its numbers fit into four bytes
abbrev pub IsCaptureSpelled : Capture → Type 0
IsCaptureSpelled (Slot n) = IsNumber n
IsCaptureSpelled (Value n) = IsNumber n

-- an argument of an instance: a grant, or an instance
abbrev pub argument_bytes : Argument → List ℕ
argument_bytes (argument.Grant n) = 0 ∷ number_bytes n
argument_bytes (argument.Instance n) = 1 ∷ number_bytes n

-- its numbers fit into four bytes
abbrev pub IsArgumentSpelled : Argument → Type 0
IsArgumentSpelled (argument.Grant n) = IsNumber n
IsArgumentSpelled (argument.Instance n) = IsNumber n

-- a constant: the form, and its value
abbrev pub constant_bytes : Constant → List ℕ
constant_bytes (constant.Int n) = 0 ∷ int_bytes n
constant_bytes (constant.Truth b) = 1 ∷ truth_bytes b
constant_bytes constant.Unit = 2 ∷ []
constant_bytes (constant.Text t) = 3 ∷ text_bytes t
constant_bytes (constant.Grant n) = 4 ∷ number_bytes n
constant_bytes (constant.Instance n) = 5 ∷ number_bytes n

-- its numbers fit into four bytes, and so do the lengths of its lists
abbrev pub IsConstantSpelled : Constant → Type 0
IsConstantSpelled (constant.Int n) = IsIntSpelled n
IsConstantSpelled (constant.Truth b) = IsTruthSpelled b
IsConstantSpelled (constant.Text t) = IsTextSpelled t
IsConstantSpelled (constant.Grant n) = IsNumber n
IsConstantSpelled (constant.Instance n) = IsNumber n
IsConstantSpelled c = Unit {0}

-- an instruction: the form, and its operands
abbrev pub instruction_bytes : Instruction → List ℕ
instruction_bytes (instruction.Push c) = 1 ∷ constant_bytes c
instruction_bytes (instruction.Load n) = 2 ∷ number_bytes n
instruction_bytes (instruction.Store n) = 3 ∷ number_bytes n
instruction_bytes (instruction.Get n) = 4 ∷ number_bytes n
instruction_bytes (instruction.Set n) = 5 ∷ number_bytes n
instruction_bytes instruction.Drop = 6 ∷ []
instruction_bytes (instruction.Op o) = 7 ∷ operator_bytes o
instruction_bytes (instruction.Jump n) = 8 ∷ number_bytes n
instruction_bytes (instruction.JumpFalse n) = 9 ∷ number_bytes n
instruction_bytes (instruction.New n) = 10 ∷ number_bytes n
instruction_bytes (instruction.Call m n) = 11 ∷ number_bytes m ++ number_bytes n
instruction_bytes instruction.Return = 12 ∷ []
instruction_bytes instruction.Finish = 13 ∷ []

-- its numbers fit into four bytes, and so do the lengths of its lists
abbrev pub IsInstructionSpelled : Instruction → Type 0
IsInstructionSpelled (instruction.Push c) = IsConstantSpelled c
IsInstructionSpelled (instruction.Load n) = IsNumber n
IsInstructionSpelled (instruction.Store n) = IsNumber n
IsInstructionSpelled (instruction.Get n) = IsNumber n
IsInstructionSpelled (instruction.Set n) = IsNumber n
IsInstructionSpelled (instruction.Op o) = IsOperatorSpelled o
IsInstructionSpelled (instruction.Jump n) = IsNumber n
IsInstructionSpelled (instruction.JumpFalse n) = IsNumber n
IsInstructionSpelled (instruction.New n) = IsNumber n
IsInstructionSpelled (instruction.Call m n) = IsNumber m × IsNumber n
IsInstructionSpelled i = Unit {0}

------------------------------------------------------------
-- Parts one after the other

-- an atom: a grant, and a member of it
abbrev pub atom_bytes : Atom → List ℕ
atom_bytes s = number_bytes s.grant ++ number_bytes s.member

-- its numbers fit into four bytes
abbrev pub IsAtomSpelled : Atom → Type 0
IsAtomSpelled s = IsNumber s.grant × IsNumber s.member

-- a method of a listed type: its name, the types of its parameters, its effect, and the type of its result
abbrev pub signature_bytes : Signature → List ℕ
signature_bytes s =
    number_bytes s.method ++
    (list_bytes reference_bytes s.parameters ++
    (list_bytes atom_bytes s.effect ++ reference_bytes s.result))

-- its numbers fit into four bytes, and so do the lengths of its lists
abbrev pub IsSignatureSpelled : Signature → Type 0
IsSignatureSpelled s =
    IsNumber s.method ×
    (AreSpelled IsReferenceSpelled s.parameters ×
    (AreSpelled IsAtomSpelled s.effect × IsReferenceSpelled s.result))

-- a target: its address, the types of the operands there, and the stored slots
abbrev pub target_bytes : Target → List ℕ
target_bytes s = number_bytes s.address ++ (list_bytes reference_bytes s.operands ++ list_bytes number_bytes s.stored)

-- its numbers fit into four bytes, and so do the lengths of its lists
abbrev pub IsTargetSpelled : Target → Type 0
IsTargetSpelled s = IsNumber s.address × (AreSpelled IsReferenceSpelled s.operands × AreSpelled IsNumber s.stored)

-- what is stated of a body
abbrev pub bounds_bytes : Bounds → List ℕ
bounds_bytes s =
    number_bytes s.body ++
    (text_bytes s.name ++
    (list_bytes atom_bytes s.effect ++
    (list_bytes reference_bytes s.parameters ++
    (reference_bytes s.result ++
    (list_bytes reference_bytes s.vals ++ list_bytes target_bytes s.targets)))))

-- its numbers fit into four bytes, and so do the lengths of its lists
abbrev pub IsBoundsSpelled : Bounds → Type 0
IsBoundsSpelled s =
    IsNumber s.body ×
    (IsTextSpelled s.name ×
    (AreSpelled IsAtomSpelled s.effect ×
    (AreSpelled IsReferenceSpelled s.parameters ×
    (IsReferenceSpelled s.result ×
    (AreSpelled IsReferenceSpelled s.vals × AreSpelled IsTargetSpelled s.targets)))))

-- what is stated of an instance: the types of its values, those of the values of each literal, and its bodies
abbrev pub typing_bytes : Typing → List ℕ
typing_bytes s =
    list_bytes reference_bytes s.values ++
    (list_bytes (list_bytes reference_bytes) s.literals ++ list_bytes bounds_bytes s.bodies)

-- its numbers fit into four bytes, and so do the lengths of its lists
abbrev pub IsTypingSpelled : Typing → Type 0
IsTypingSpelled s =
    AreSpelled IsReferenceSpelled s.values ×
    (AreSpelled (AreSpelled IsReferenceSpelled) s.literals × AreSpelled IsBoundsSpelled s.bodies)

-- a method of an object: its name and its body
abbrev pub entry_bytes : Entry → List ℕ
entry_bytes s = number_bytes s.method ++ number_bytes s.body

-- its numbers fit into four bytes
abbrev pub IsEntrySpelled : Entry → Type 0
IsEntrySpelled s = IsNumber s.method × IsNumber s.body

-- a literal: the captured values, the number of fields, and the methods
abbrev pub literal_bytes : Literal → List ℕ
literal_bytes s = list_bytes capture_bytes s.captures ++ (number_bytes s.fields ++ list_bytes entry_bytes s.entries)

-- its numbers fit into four bytes, and so do the lengths of its lists
abbrev pub IsLiteralSpelled : Literal → Type 0
IsLiteralSpelled s = AreSpelled IsCaptureSpelled s.captures × (IsNumber s.fields × AreSpelled IsEntrySpelled s.entries)

-- a grant: its name and its primitive type
abbrev pub grant_bytes : Grant → List ℕ
grant_bytes s = text_bytes s.name ++ primitive_bytes s.primitive

-- its numbers fit into four bytes, and so do the lengths of its lists
abbrev pub IsGrantSpelled : Grant → Type 0
IsGrantSpelled s = IsTextSpelled s.name × IsPrimitiveSpelled s.primitive

-- a row: an instruction, and the file, line and column of its place
abbrev pub row_bytes : Row → List ℕ
row_bytes s = instruction_bytes s.instruction ++ (number_bytes s.file ++ (number_bytes s.line ++ number_bytes s.column))

-- its numbers fit into four bytes
abbrev pub IsRowSpelled : Row → Type 0
IsRowSpelled s = IsInstructionSpelled s.instruction × (IsNumber s.file × (IsNumber s.line × IsNumber s.column))

-- a body: the numbers of parameters and slots, and the rows
abbrev pub body_bytes : Body → List ℕ
body_bytes s = number_bytes s.parameters ++ (number_bytes s.slots ++ list_bytes row_bytes s.rows)

-- its numbers fit into four bytes, and so do the lengths of its lists
abbrev pub IsBodySpelled : Body → Type 0
IsBodySpelled s = IsNumber s.parameters × (IsNumber s.slots × AreSpelled IsRowSpelled s.rows)

-- a scope: the number of arguments, the first body, the number of fields, the methods, and the literals
abbrev pub scope_bytes : Scope → List ℕ
scope_bytes s =
    number_bytes s.arguments ++
    (number_bytes s.first ++
    (number_bytes s.fields ++
    (list_bytes entry_bytes s.entries ++ list_bytes literal_bytes s.literals)))

-- its numbers fit into four bytes, and so do the lengths of its lists
abbrev pub IsScopeSpelled : Scope → Type 0
IsScopeSpelled s =
    IsNumber s.arguments ×
    (IsNumber s.first ×
    (IsNumber s.fields ×
    (AreSpelled IsEntrySpelled s.entries × AreSpelled IsLiteralSpelled s.literals)))

-- an instance: its name, its scope, its arguments, and what is stated of it
abbrev pub instance_bytes : Instance → List ℕ
instance_bytes s =
    text_bytes s.name ++
    (number_bytes s.scope ++
    (list_bytes argument_bytes s.arguments ++ typing_bytes s.typing))

-- its numbers fit into four bytes, and so do the lengths of its lists
abbrev pub IsInstanceSpelled : Instance → Type 0
IsInstanceSpelled s =
    IsTextSpelled s.name ×
    (IsNumber s.scope ×
    (AreSpelled IsArgumentSpelled s.arguments × IsTypingSpelled s.typing))

-- the program: its scope, and what is stated of it
abbrev pub main_bytes : Main → List ℕ
main_bytes s = number_bytes s.scope ++ typing_bytes s.typing

-- its numbers fit into four bytes, and so do the lengths of its lists
abbrev pub IsMainSpelled : Main → Type 0
IsMainSpelled s = IsNumber s.scope × IsTypingSpelled s.typing

-- an image: file names, grants, method names, listed types, bodies, scopes, instances, and the program
abbrev pub image_bytes : ImageFile → List ℕ
image_bytes s =
    list_bytes text_bytes s.files ++
    (list_bytes grant_bytes s.grants ++
    (list_bytes text_bytes s.methods ++
    (list_bytes (list_bytes signature_bytes) s.types ++
    (list_bytes body_bytes s.bodies ++
    (list_bytes scope_bytes s.scopes ++
    (list_bytes instance_bytes s.instances ++ main_bytes s.main))))))

-- its numbers fit into four bytes, and so do the lengths of its lists
abbrev pub IsImageSpelled : ImageFile → Type 0
IsImageSpelled s =
    AreSpelled IsTextSpelled s.files ×
    (AreSpelled IsGrantSpelled s.grants ×
    (AreSpelled IsTextSpelled s.methods ×
    (AreSpelled (AreSpelled IsSignatureSpelled) s.types ×
    (AreSpelled IsBodySpelled s.bodies ×
    (AreSpelled IsScopeSpelled s.scopes ×
    (AreSpelled IsInstanceSpelled s.instances × IsMainSpelled s.main))))))
