use Rattle.wy_syntax.specs.Views.{part_trees}
use Rattle.wy_bodies.specs.Sight.{written_of}
use Rattle.wy_bodies.specs.InSight.{entries}
use Rattle.wy_bodies.specs.Lending.{lent_within}
use Rattle.wy_bodies.specs.FoundBodies.{found_of}
use Rattle.wy_bodies.proofs.Walks.{literal_begun}
use Rattle.wy_bodies.proofs.statements.begin_literal.Goals as goal

pub returns : goal.returns
returns c =
    let w = lent_within c.args.within.now in
    let ps = part_trees c.args.parts.now in
    literal_begun w (found_of c.args.found.now) ps (written_of (entries c.args.variables.now) ps) c.in_ok-found.field-0 c.push.new.self c.in_ok-literal.literal c.note_repeated_parts.new.least
    c.in_ok-found.ensures c.in_ok-push.ensures.ok c.in_ok-literal.ensures.captures c.in_ok-literal.ensures.fields c.in_ok-note_repeated_parts.ensures
