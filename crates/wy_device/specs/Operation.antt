-- The operations of the primitive types, in tables: whose they are, what they are called, and which
-- member of its type stands for the effect of each.
use Rattle.std.specs.Prelude.{codes, ℕ, List}
use Rattle.wy_device.specs.declared.operation.Kind.{Kind}
use Rattle.wy_device.specs.declared.operation.Kind.TheVariants.{Console, Folder, Clock, Random}
use Rattle.wy_device.specs.declared.operation.Op.{Op}
use Rattle.wy_device.specs.declared.operation.Op.TheVariants.{ConsoleRead, ConsoleWrite, FolderRead, FolderHas, FolderWrite, FolderAppend, FolderNames, ClockNow, RandomWord, FolderRemove}
use Rattle.wy_device.specs.declared.operation.OpName.{OpName}
use Rattle.wy_device.specs.declared.operation.OpName.TheVariants as name

-- an operation without its arguments
abbrev pub name_of : Op → OpName
name_of ConsoleRead = name.ConsoleRead
name_of (ConsoleWrite text) = name.ConsoleWrite
name_of (FolderRead file) = name.FolderRead
name_of (FolderHas file) = name.FolderHas
name_of (FolderWrite file text) = name.FolderWrite
name_of (FolderAppend file text) = name.FolderAppend
name_of FolderNames = name.FolderNames
name_of ClockNow = name.ClockNow
name_of RandomWord = name.RandomWord
name_of (FolderRemove file) = name.FolderRemove

-- the kind of device that has an operation
abbrev pub kind_named : OpName → Kind
kind_named name.ConsoleRead = Console
kind_named name.ConsoleWrite = Console
kind_named name.FolderRead = Folder
kind_named name.FolderHas = Folder
kind_named name.FolderWrite = Folder
kind_named name.FolderAppend = Folder
kind_named name.FolderNames = Folder
kind_named name.ClockNow = Clock
kind_named name.RandomWord = Random
kind_named name.FolderRemove = Folder

abbrev pub kind_of : Op → Kind
kind_of op = kind_named (name_of op)

-- the method that asks for an operation
abbrev pub method_text : OpName → List ℕ
method_text name.ConsoleRead = codes "read"
method_text name.ConsoleWrite = codes "write"
method_text name.FolderRead = codes "read"
method_text name.FolderHas = codes "has"
method_text name.FolderWrite = codes "write"
method_text name.FolderAppend = codes "append"
method_text name.FolderNames = codes "names"
method_text name.ClockNow = codes "now"
method_text name.RandomWord = codes "word"
method_text name.FolderRemove = codes "remove"

-- the member of the primitive type that is the operation's effect
abbrev pub member_named : OpName → List ℕ
member_named name.ConsoleRead = codes "In"
member_named name.ConsoleWrite = codes "Out"
member_named name.FolderRead = codes "Read"
member_named name.FolderHas = codes "Read"
member_named name.FolderWrite = codes "Write"
member_named name.FolderAppend = codes "Append"
member_named name.FolderNames = codes "List"
member_named name.ClockNow = codes "Tick"
member_named name.RandomWord = codes "Draw"
member_named name.FolderRemove = codes "Remove"

abbrev pub member_of : Op → List ℕ
member_of op = member_named (name_of op)
