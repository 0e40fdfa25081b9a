use Rattle.std.proofs.Common.{List, ◌≡◌, ap, ◌∙◌, None, map}
use Rattle.std.proofs.Common.{nat_eq, rules}
use Rattle.wy_image.specs.declared.typing.Bounds.{Bounds}
use Rattle.wy_image.specs.declared.file.Instance.{Instance}
use Rattle.indexmap.specs.IndexMap.{get}
use Rattle.wy_verified.specs.Kinds.{stated_in}
use Rattle.wy_verify.specs.RangeParts.{or_other, stated_name, first_name}
use Rattle.wy_verify.proofs.RangeNames.{names_whole}
use Rattle.wy_verify.proofs.ranges.tables.names_of.Goals as goal

pub returns : goal.returns
returns c =
    λ b.
    let none : get nat_eq c.new-names.result b ≡ None = search rules in
    names_whole c.args.file.now b (get nat_eq c.new-names.result b) (get nat_eq c.add_instances.new.names b) (get nat_eq c.add_names.new.names b) none
    (c.in_ok-add_instances.ensures b ∙ ap (λ (l : List Instance). or_other (get nat_eq c.new-names.result b) (first_name b (map (λ (i : Instance). i.typing) l))) c.as_slice.ensures)
    (c.in_ok-add_names.ensures b ∙ ap (λ (l : List Bounds). or_other (get nat_eq c.add_instances.new.names b) (stated_name (stated_in b l))) c.as_slice-2.ensures)
