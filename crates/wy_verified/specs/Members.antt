-- The members of the primitive types, in their order (docs/LANGUAGE.md, "Primitive types").
use Rattle.std.specs.Prelude.{ℕ, List}
use Rattle.wy_device.specs.declared.primitive.Primitive.{Primitive}
use Rattle.wy_device.specs.declared.primitive.Primitive.TheVariants as primitive
use Rattle.wy_types.specs.Primitive.{clock, console, folder, full_folder, random}

-- the names of the members of a primitive type
abbrev pub members_of : Primitive → List (List ℕ)
members_of primitive.Console = console.members
members_of primitive.Folder = folder.members
members_of primitive.Clock = clock.members
members_of primitive.Random = random.members
members_of primitive.FullFolder = full_folder.members
