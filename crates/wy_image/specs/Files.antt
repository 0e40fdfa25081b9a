-- Image files: eight letters, and an image (docs/PROMISES.md, "Images").
use Rattle.std.specs.Prelude.{codes, ℕ, List}
use Rattle.wy_spelling.specs.Spelling.{behind}
use Rattle.wy_image.specs.Spelled.{IsImageSpelled, image_bytes}
use Rattle.wy_image.specs.declared.file.ImageFile.{ImageFile}

-- the bytes of an image file
abbrev pub file_bytes : ImageFile → List ℕ
file_bytes = behind (codes "WYIMAGE1") image_bytes

-- the image files that have a spelling
abbrev pub IsFileSpelled : ImageFile → Type 0
IsFileSpelled = IsImageSpelled
