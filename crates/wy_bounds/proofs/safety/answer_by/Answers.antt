use Rattle.std.proofs.Common.{◌<◌, ◌∙◌, List, None, sym, ap, subst, length}
use Rattle.wy_types.specs.Program.{program_of}
use Rattle.wy_bounds.specs.declared.entry.Entry.{Entry}
use Rattle.wy_bounds.specs.Gathering.{lack_of_entries}
use Rattle.wy_bounds.specs.Worklist.{GoesBack, Traces}
use Rattle.wy_bounds.proofs.Working.{goes_back}
use Rattle.wy_bounds.proofs.Lacks.{none_lacking, lack_within, some_lacking}
use Rattle.wy_bounds.proofs.safety.answer_by.Goals as goal

pub returns-in-None : goal.returns-in-None
returns-in-None c = λ t is.
    let program = program_of c.args.core.now in
    let F : List Entry → _ = λ l. lack_of_entries program c.args.scope c.args.positive c.args.e.now 0 l None in
    none_lacking program c.args.scope c.args.positive c.args.e.now is.down t c.args.matrix.now.table is.whole c.is_set.ensures
    (sym c.in-None.is ∙ c.in_ok-least_lack.ensures ∙ ap F c.entries.ensures)

pub path_to-requires-clause-within : goal.path_to-requires-clause-within
path_to-requires-clause-within c =
    let program = program_of c.args.core.now in
    let F : List Entry → _ = λ l. lack_of_entries program c.args.scope c.args.positive c.args.e.now 0 l None in
    let W : List Entry → Type 0 = λ l. c.in-Some.lack.at < length l in
    subst W (sym c.entries-in-Some.ensures) (lack_within program c.args.scope c.args.positive c.args.e.now c.requires.built.1.down c.requires.built.0 c.args.matrix.now.table c.requires.built.1.whole c.in-Some.lack c.is_set.ensures
    (sym c.in-Some.is ∙ c.in_ok-least_lack.ensures ∙ ap F c.entries.ensures))

pub path_to-requires-clause-back : goal.path_to-requires-clause-back
path_to-requires-clause-back c =
    let P : List Entry → Type 0 = λ l. GoesBack l in
    subst P (sym c.entries-in-Some.ensures) (goes_back (program_of c.args.core.now) c.args.scope c.requires.built.0 c.args.matrix.now.table c.requires.built.1.whole.seen)

pub returns-in_ok-path-in-Some : goal.returns-in_ok-path-in-Some
returns-in_ok-path-in-Some c = λ t is.
    let program = program_of c.args.core.now in
    let F : List Entry → _ = λ l. lack_of_entries program c.args.scope c.args.positive c.args.e.now 0 l None in
    let steps = c.in_ok-path-in-Some.ensures.0 in
    let P : List Entry → Type 0 = λ l. Traces l c.in-Some.lack.at steps in
    some_lacking program c.args.scope c.args.positive c.args.e.now is.down t c.args.matrix.now.table is.whole c.in-Some.lack c.is_set.ensures
    (sym c.in-Some.is ∙ c.in_ok-least_lack.ensures ∙ ap F c.entries.ensures)
    steps c.in_ok-path-in-Some.path (subst P c.entries-in-Some.ensures c.in_ok-path-in-Some.ensures.1) c.in_ok-path-in-Some.ensures.2

pub returns-then-is_safe_at : goal.returns-then-is_safe_at
returns-then-is_safe_at c = λ t is. (c.is_safe_at.ensures (program_of c.args.core.now) c.args.scope t is).0 c.if-is_safe_at.true
