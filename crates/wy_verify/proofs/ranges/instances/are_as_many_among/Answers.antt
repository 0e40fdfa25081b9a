use Rattle.std.proofs.Common.{◌↔◌, IsTrue, ℕ, List, Option, map, sym, ◌∙◌, subst}
use Rattle.wy_verified.specs.Ranges.{Role, role_bodies}
use Rattle.wy_verified.proofs.Lists.{map_length}
use Rattle.wy_verify.specs.RangeParts.{AreAsManyAmong, role_of}
use Rattle.wy_verify.proofs.RangeTests.{reworded}
use Rattle.wy_verify.proofs.ranges.instances.are_as_many_among.Goals as goal

pub returns-then-roles-count : goal.returns-then-roles-count
returns-then-roles-count c =
    let rs = c.args.roles.now in
    let many = map_length (λ (r : Role). r.1) (map role_of rs) ∙ map_length role_of rs ∙ c.if-roles-count.true in
    subst (λ (o : Option (List ℕ)). IsTrue c.are_all_among.result ↔ AreAsManyAmong o c.args.count (role_bodies (map role_of rs))) (sym c.in-Some.is)
    (reworded c.are_all_among.result c.are_all_among.ensures (λ h. (many, h)) (λ p. p.1))
