use Rattle.std.proofs.Common.{ap, ap₂, ◌∙◌}
use Rattle.std.specs.Prelude.{unwrap_or}
use Rattle.wy_types.specs.declared.linked.Actual.TheVariants.{Instance}
use Rattle.wy_lower.proofs.EmitPlaces.{instance_place}
use Rattle.wy_lower.proofs.starting.instance_named.Goals as goal

pub returns : goal.returns
returns c =
    let x = c.args.name.now in
    let place = c.unwrap_or-number.ensures ∙ ap₂ unwrap_or (c.copied.ensures ∙ c.get.ensures.value ∙ c.requires x) c.len.ensures ∙ instance_place x c.args.instances.now in
    ap Instance (c.in_ok-short.ensures ∙ place)
