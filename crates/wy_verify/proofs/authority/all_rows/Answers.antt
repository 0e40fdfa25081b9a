use Rattle.std.proofs.Common.{List, subst, sym}
use Rattle.wy_image.specs.declared.file.Instance.{Instance}
use Rattle.wy_verify.specs.Authority.{AreInstancesNumbered}
use Rattle.wy_verify.proofs.authority.all_rows.Goals as goal

pub instance_rows-requires : goal.instance_rows-requires
instance_rows-requires c =
    let P : List Instance → Type 0 = λ l. AreInstancesNumbered c.args.firsts.now l in
    subst P (sym c.as_slice.ensures) c.requires.instances
