use Rattle.std.proofs.Common.{ℕ, List, Bool, ap, ap₂, ◌∙◌}
use Rattle.wy_text.specs.declared.fault.Place.{Place}
use Rattle.wy_types.specs.declared.types.TypeRef.{TypeRef}
use Rattle.wy_types.specs.declared.resolved.Field.{Field}
use Rattle.wy_bodies.specs.Lending.{lent_within}
use Rattle.wy_bodies.proofs.literals.field_of.Goals as goal

made : List ℕ → Place → Bool → TypeRef → Field
made name place mutable typ = record { name = name; place = place; mutable = mutable; typ = typ }

pub returns : goal.returns
unfolding made
returns c =
    ap (λ n. made n c.args.name.now.place c.is_var.result c.in_ok-type_ref.field-0) c.in_ok-copy.ensures
    ∙ ap₂ (λ m t. made c.args.name.now.text c.args.name.now.place m t) (c.is_var.ensures (lent_within c.args.within.now)) c.in_ok-type_ref.ensures
