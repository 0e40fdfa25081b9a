use Rattle.std.proofs.Common.{subst}
use Rattle.wy_image.specs.declared.file.ImageFile.{ImageFile}
use Rattle.wy_verify.specs.Authority.{IsReported}
use Rattle.wy_verify.proofs.verifying.Verified.bounds_are_told.Goals as goal

pub returns : goal.returns
returns c = subst (λ (f : ImageFile). IsReported f) c.self.view_is c.is_reported.ensures
