-- Editions of the language: which primitive types grants have, by their numbers, and how many bytes a text of a run may have.
-- (docs/LANGUAGE.md, "Primitive types", "Traps")
use Rattle.std.specs.Prelude.{ℕ, List, [], ◌∷◌, Option, slice_get}
use Rattle.wy_device.specs.declared.primitive.Primitive.{Primitive}
use Rattle.wy_device.specs.declared.primitive.Primitive.TheVariants.{Console, Folder, Clock, Random, FullFolder}
use Rattle.wy_device.specs.Traps.{text_limit}

pub record Edition : Type 0 where
  pub primitives : List Primitive
  pub longest : ℕ

-- the edition that programs are run in
abbrev pub current : Edition
current = record { primitives = Console ∷ Folder ∷ Clock ∷ Random ∷ FullFolder ∷ []; longest = text_limit }

-- the edition before it, in which no folder could remove a file and texts were shorter
abbrev pub former : Edition
former = record { primitives = Console ∷ Folder ∷ Clock ∷ Random ∷ []; longest = 1048576 }

-- the primitive type of a number
abbrev pub primitive_numbered : Edition → ℕ → Option Primitive
primitive_numbered e d = slice_get e.primitives d
