-- The primitive types of grants: the kind of device that each asks, and its operations.
-- (docs/LANGUAGE.md, "Primitive types", "Operations on grants")
use Rattle.std.specs.Prelude.{List, [], ◌∷◌, ◌++◌}
use Rattle.wy_device.specs.declared.operation.Kind.{Kind}
use Rattle.wy_device.specs.declared.operation.Kind.TheVariants as kind
use Rattle.wy_device.specs.declared.operation.OpName.{OpName}
use Rattle.wy_device.specs.declared.operation.OpName.TheVariants as name
use Rattle.wy_device.specs.declared.primitive.Primitive.{Primitive}
use Rattle.wy_device.specs.declared.primitive.Primitive.TheVariants.{Console, Folder, Clock, Random, FullFolder}

abbrev pub kind_of_primitive : Primitive → Kind
kind_of_primitive Console = kind.Console
kind_of_primitive Folder = kind.Folder
kind_of_primitive Clock = kind.Clock
kind_of_primitive Random = kind.Random
kind_of_primitive FullFolder = kind.Folder

-- those of a folder
abbrev pub folder_operations : List OpName
folder_operations = name.FolderRead ∷ name.FolderHas ∷ name.FolderWrite ∷ name.FolderAppend ∷ name.FolderNames ∷ []

abbrev pub operations_of : Primitive → List OpName
operations_of Console = name.ConsoleRead ∷ name.ConsoleWrite ∷ []
operations_of Folder = folder_operations
operations_of Clock = name.ClockNow ∷ []
operations_of Random = name.RandomWord ∷ []
operations_of FullFolder = folder_operations ++ name.FolderRemove ∷ []
