use Rattle.std.proofs.Common.{◌≡◌, ◌+◌, ◌<◌, length, sym, subst, arith}
use Rattle.std.proofs.lemmas.List.{length-map}
use Rattle.std.proofs.lemmas.Option.{slice_get_within}
use Rattle.wy_types.specs.Program.{program_of, scope_of}
use Rattle.wy_judge.specs.Walking.{IsJudgedAt}
use Rattle.wy_judge.proofs.ListsPut.{last_list_put}
use Rattle.wy_judge.proofs.Programs.{IsLastAt, last_of}
use Rattle.wy_link.specs.Lines.{LinesComeTo}
use Rattle.wy_link.proofs.Programs.{block_refused, all_accepted}
use Rattle.wy_link.proofs.checking.check_rest.Goals as goal

pub returns-in-Ok-Passes-clause-accepted : goal.returns-in-Ok-Passes-clause-accepted
returns-in-Ok-Passes-clause-accepted c =
    let p = program_of c.args.core.now in
    let last = subst (IsLastAt p) (sym c.requires.last) (last_of c.args.core.now c.requires.keeps.core) in
    let lines = subst (LinesComeTo p) c.in-Ok-None.field-0-is c.in-Ok-None.ensures in
    all_accepted p c.args.last last c.requires.before lines _ (subst (IsJudgedAt p c.args.last) c.in-Ok-Passes.field-0-is c.in-Ok-Passes.ensures)

pub returns-in-Ok-Fails-clause-refusal : goal.returns-in-Ok-Fails-clause-refusal
returns-in-Ok-Fails-clause-refusal c =
    let p = program_of c.args.core.now in
    let last = subst (IsLastAt p) (sym c.requires.last) (last_of c.args.core.now c.requires.keeps.core) in
    let lines = subst (LinesComeTo p) c.in-Ok-None.field-0-is c.in-Ok-None.ensures in
    block_refused p c.args.last last c.requires.before _ lines (subst (IsJudgedAt p c.args.last) c.in-Ok-Fails.field-0-is c.in-Ok-Fails.ensures)

pub returns-in-Ok-Passes-clause-puts : goal.returns-in-Ok-Passes-clause-puts
returns-in-Ok-Passes-clause-puts c =
    let p = program_of c.args.core.now in
    let last = subst (IsLastAt p) (sym c.requires.last) (last_of c.args.core.now c.requires.keeps.core) in
    let within = slice_get_within p.scopes c.args.last last.scope last.there in
    let size = length-map c.args.core.now.scopes scope_of in
    let number : c.args.last + 1 ≡ length p.scopes = omega (arith, c.requires.last, within, size) in
    let room : c.args.last < length c.args.lists.now = omega (arith, within, size, c.requires.lists) in
    last_list_put p c.requires.keeps.core c.args.last number c.args.lists.now _ room (subst (IsJudgedAt p c.args.last) c.in-Ok-Passes.field-0-is c.in-Ok-Passes.ensures)
