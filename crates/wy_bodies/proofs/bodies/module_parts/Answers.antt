use Rattle.std.proofs.Common.{◌≡◌, List, map, ap, subst, ◌∙◌}
use Rattle.std.specs.Prelude.{IfOk}
use Rattle.wy_types.specs.declared.resolved.Literal.{Literal}
use Rattle.wy_types.specs.Program.{Body, Start, body_of, start_of, Init}
use Rattle.wy_syntax.specs.Views.{part_trees}
use Rattle.wy_bodies.specs.Sight.{outermost}
use Rattle.wy_bodies.specs.Lending.{lent_within}
use Rattle.wy_bodies.specs.Bodies.{part_values}
use Rattle.wy_bodies.specs.FoundBodies.{Found, found_of}
use Rattle.wy_bodies.proofs.Walks.{on_ok}
use Rattle.wy_bodies.proofs.Starts.{module_found}
use Rattle.wy_bodies.proofs.bodies.module_parts.Goals as goal

pub returns-clause-literals : goal.returns-clause-literals
returns-clause-literals c =
    let w = lent_within c.args.within.now in
    let ps = part_trees c.args.parts.now in
    let found = module_found w ps (found_of c.in_ok-found.found) (found_of c.first_values.new.found) c.args.least.now c.note_repeated_parts.new.least c.in_ok-found.ensures c.in_ok-note_repeated_parts.ensures c.in_ok-values.ensures.found in
    let P : List Literal → Type 0 = λ l. IfOk c.with_start.result (λ r. r.literals ≡ l) in
    subst P (ap (λ (g : Found). g.literals) found) c.with_start.ensures.literals

pub returns-clause-start : goal.returns-clause-start
returns-clause-start c =
    let w = lent_within c.args.within.now in
    let ps = part_trees c.args.parts.now in
    let P : Start → Type 0 = λ s. IfOk c.with_start.result (λ r. start_of r.start ≡ s) in
    subst P (ap Init (c.in_ok-values.ensures.value ∙ ap (λ (g : Found). part_values w outermost g.count ps) c.in_ok-found.ensures)) c.with_start.ensures.start

pub returns-clause-bodies : goal.returns-clause-bodies
returns-clause-bodies c =
    let w = lent_within c.args.within.now in
    let ps = part_trees c.args.parts.now in
    let found = module_found w ps (found_of c.in_ok-found.found) (found_of c.first_values.new.found) c.args.least.now c.note_repeated_parts.new.least c.in_ok-found.ensures c.in_ok-note_repeated_parts.ensures c.in_ok-values.ensures.found in
    let P : List Body → Type 0 = λ l. IfOk c.with_start.result (λ r. map body_of r.bodies ≡ l) in
    subst P (ap (λ (g : Found). g.bodies) found) c.with_start.ensures.bodies

pub returns-clause-noted : goal.returns-clause-noted
returns-clause-noted c =
    let w = lent_within c.args.within.now in
    let ps = part_trees c.args.parts.now in
    let found = module_found w ps (found_of c.in_ok-found.found) (found_of c.first_values.new.found) c.args.least.now c.note_repeated_parts.new.least c.in_ok-found.ensures c.in_ok-note_repeated_parts.ensures c.in_ok-values.ensures.found in
    on_ok c.with_start.result (ap (λ (g : Found). g.least) found)
