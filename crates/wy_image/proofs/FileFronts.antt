-- No image's bytes begin another's.
use Rattle.std.proofs.Common.{codes}
use Rattle.wy_spelling.specs.Spelling.{AreApart}
use Rattle.wy_spelling.proofs.Wholes.{files_apart}
use Rattle.wy_image.specs.Files.{IsFileSpelled, file_bytes}
use Rattle.wy_image.specs.ImageLaws.{image_kind}
use Rattle.wy_image.specs.Spelled.{IsImageSpelled, image_bytes}

pub image_files_apart : AreApart IsFileSpelled file_bytes
image_files_apart = files_apart IsImageSpelled image_bytes (codes "WYIMAGE1") image_kind.apart
