-- The folders that are given for grants: a call that runs a program fails with Usage if one of them is for a grant that the program
-- does not have, or that has no folder. (docs/LANGUAGE.md, "The command line")
use Rattle.std.specs.Prelude.{◌≡◌, ◌&&◌, List, Bool, true, false, bytes_eq, slice_get, ℕ, ⊤}
use Rattle.std.specs.List.{list_all, list_any}
use Rattle.wy_code.specs.declared.code.Grant.{Grant}
use Rattle.wy_device.specs.declared.primitive.Primitive.{Primitive}
use Rattle.wy_device.specs.declared.primitive.Primitive.TheVariants as primitive
use Rattle.wy_lower.specs.Lowering.{grants_code}
use Rattle.wy_meaning.specs.Starts.{last_scope, scope_names}
use Rattle.wy_settings.specs.Folders.{GivenFolder}
use Rattle.wy_settings.specs.Settings.{Settings}
use Rattle.wy_types.specs.Program.{Program}
use Rattle.wy_engine.specs.Judgement.{Asks, Did, Stops, ran}
use Rattle.wy_engine.specs.declared.status.Status.{Status}
use Rattle.wy_engine.specs.declared.status.Status.TheVariants as status

-- the grants of a program
abbrev pub grants_of : Program → List Grant
grants_of program = grants_code (scope_names (slice_get program.scopes (last_scope program.scopes)))

-- a primitive type of folders
abbrev pub is_folder : Primitive → Bool
is_folder primitive.Console = false
is_folder primitive.Folder = true
is_folder primitive.Clock = false
is_folder primitive.Random = false
is_folder primitive.FullFolder = true

-- a grant of this name that has a folder
abbrev pub is_folder_named : List ℕ → Grant → Bool
is_folder_named name grant = bytes_eq grant.name name && is_folder grant.primitive

-- a folder is for one of the grants
abbrev pub fits_one : List Grant → GivenFolder → Bool
fits_one grants folder = list_any (is_folder_named folder.grant) grants

-- .. and so is each of them
abbrev pub fit_grants : List Grant → List GivenFolder → Bool
fit_grants grants folders = list_all (fits_one grants) folders

-- each folder is for a grant of the program
abbrev pub fit_program : Program → List GivenFolder → Bool
fit_program program folders = fit_grants (grants_of program) folders

-- folders fit what a call does: only running a program uses them
abbrev pub FoldersFit : List GivenFolder → Did → Type 0
FoldersFit folders (ran program) = fit_program program folders ≡ true
FoldersFit folders other = ⊤

-- what a call with these settings does with texts that do not stop it
pub record AsksCall (asked : Settings) (texts : List (List ℕ)) (did : Did) : Type 0 where
  pub files : Asks asked.command texts did
  pub folders : FoldersFit asked.folders did

-- the program of the texts could run, but a folder is not for one of its grants
pub record LacksGrant (asked : Settings) (texts : List (List ℕ)) : Type 0 where
  pub program : Program
  pub runs : Asks asked.command texts (ran program)
  pub lacks : fit_program program asked.folders ≡ false

-- the status with which texts end a call with these settings before anything is run or written to `out`
pub data StopsCall (asked : Settings) (texts : List (List ℕ)) (end : Status) : Type 0 where
  by_files : Stops asked.command texts end → StopsCall asked texts end
  by_folders : LacksGrant asked texts → end ≡ status.Usage → StopsCall asked texts end
