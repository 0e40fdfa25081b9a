use Rattle.wy_verify.specs.declared.ranges.roles.Role as standing
use Rattle.wy_verify.specs.RangeParts.{role_of}
use Rattle.std.proofs.Common.{ℕ, List, length, sym, ap, ◌∙◌, map}
use Rattle.wy_verified.specs.Ranges.{role_bodies}
use Rattle.wy_verify.proofs.RangeWhole.{stated_decided}
use Rattle.wy_verify.proofs.ranges.instances.are_stated_once.Goals as goal

pub returns : goal.returns
returns c =
    stated_decided c.args.scope.now c.args.bodies.now c.are_as_many_among.result c.in_ok-stated.stated
    c.as_slice.result.now (role_bodies (map role_of c.as_slice-2.result.now)) c.len.result
    (c.as_slice.ensures.value ∙ c.in_ok-numbers.ensures) (ap (λ (rs : List standing.Role). role_bodies (map role_of rs)) c.as_slice-2.ensures.value ∙ ap role_bodies c.in_ok-roles.ensures)
    (c.len.ensures ∙ c.in_ok-numbers.numbers.ok.0 ∙ ap (λ (l : List ℕ). length l) (sym c.as_slice.ensures.value)) c.requires c.in_ok-stated.ensures c.are_as_many_among.ensures
