-- What reading the files of some names does to a shelf.
use Rattle.std.specs.Prelude.{◌≡◌, ◌≤◌, ◌<◌, ◌+◌, ℕ, zero, suc, List, ◌++◌, true, false, length, take, drop}
use Rattle.wy_text.specs.Outside.{gained, Rose}
use Rattle.wy_text.specs.Shelf.{ShelfState}
use Rattle.wy_engine.specs.Texts.{GivesFiles, asked_bytes}
use Rattle.wy_engine.specs.TopCall.{reads_of}

-- how many bytes are asked for of the file at a place, which counts from 0, if so many are asked for of the first
abbrev pub bytes_at : ℕ → ℕ → ℕ
bytes_at first zero = first
bytes_at first (suc place) = asked_bytes

-- the first files were read well, in order, and gave these texts
pub record ReadsWell (first : ℕ) (names : List (List ℕ)) (well : ℕ) (before after : ShelfState) (texts : List (List ℕ)) : Type 0 where
  pub within : well ≤ length names
  pub files : after.files ≡ before.files
  pub reads : after.reads ≡ gained before.reads (reads_of false (take well names))
  pub gives : GivesFiles first before (take well names) texts
  pub counted : before.faults ≤ after.faults

-- the first files were read well, and the one after them was not read; its number counts from 1
pub record StopsAt (names : List (List ℕ)) (file : ℕ) (before after : ShelfState) : Type 0 where
  pub well : ℕ
  pub within : well < length names
  pub number : file ≡ well + 1
  pub reads : after.reads ≡ gained before.reads (reads_of false (take well names) ++ reads_of true (take 1 (drop well names)))
  pub counted : Rose before.faults after.faults

-- the first files were read well, and then memory was wanting
pub record StopsAfter (names : List (List ℕ)) (before after : ShelfState) : Type 0 where
  pub well : ℕ
  pub reads : after.reads ≡ gained before.reads (reads_of false (take well names))
