-- A folder in memory.
use Rattle.std.specs.Prelude.{◌≡◌, ◌<◌, ℕ, List, ◌++◌, length, is_some}
use Rattle.wy_device.specs.declared.deed.Deed.{Deed}
use Rattle.wy_memory.specs.declared.folder_files.FolderFile.{FolderFile}
use Rattle.wy_device.specs.declared.operation.Answer.{Answer}
use Rattle.wy_device.specs.declared.operation.Answer.TheVariants.{Bytes, Truth, Unit as Done}
use Rattle.wy_device.specs.declared.operation.Op.{Op}
use Rattle.wy_device.specs.declared.operation.Op.TheVariants.{FolderRead, FolderHas, FolderWrite, FolderAppend, FolderNames, FolderRemove}
use Rattle.wy_memory.specs.FolderFiles.{text_in, text_or_empty, Puts, Removes, Lists}
use Rattle.wy_device.specs.Traps.{text_limit}

-- its files, the deeds, the numbers of the calls that are to fail, how many calls were made, and the faults
pub record MemFolderState : Type 0 where
  pub files : List FolderFile
  pub deeds : List Deed
  pub fails : List ℕ
  pub calls : ℕ
  pub faults : ℕ

-- what an operation for a grant answers
abbrev pub Answers : List FolderFile → List ℕ → Op → Answer → Type 0
Answers files grant (FolderRead name) answer = answer ≡ Bytes (text_or_empty files grant name)
Answers files grant (FolderHas name) answer = answer ≡ Truth (is_some (text_in files grant name))
Answers files grant (FolderWrite name text) answer = answer ≡ Done
Answers files grant (FolderAppend name text) answer = answer ≡ Done
Answers files grant FolderNames answer = (text : List ℕ) × (answer ≡ Bytes text) × Lists files grant text
Answers files grant (FolderRemove name) answer = answer ≡ Done
Answers files grant op answer = ⊥

-- and what it makes of the files
abbrev pub Leaves : List FolderFile → List ℕ → Op → List FolderFile → Type 0
Leaves old grant (FolderWrite name text) new = Puts old grant name text new
Leaves old grant (FolderAppend name text) new = Puts old grant name (text_or_empty old grant name ++ text) new
Leaves old grant (FolderRemove name) new = Removes old grant name new
Leaves old grant op new = new ≡ old

-- the text that an operation would answer is longer than an answer may be
abbrev pub AnswersTooMuch : List FolderFile → List ℕ → Op → Type 0
AnswersTooMuch files grant op = (text : List ℕ) × Answers files grant op (Bytes text) × (text_limit < length text)
