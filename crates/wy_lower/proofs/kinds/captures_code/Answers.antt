use Rattle.std.proofs.Common.{◌≡◌, ◌<◌, ℕ, length, None, sym, ap, ◌∙◌, arith}
use Rattle.std.specs.Prelude.{slice_get}
use Rattle.std.proofs.lemmas.Result.{IfOk-weaker}
use Rattle.wy_types.specs.Program.{body_of, scope_of}
use Rattle.wy_lower.specs.Inside.{capture_sources}
use Rattle.wy_lower.specs.EmitBodies.{whole_program, whole_starts}
use Rattle.wy_lower.proofs.EmitLists.{read_any, length_mapped}
use Rattle.wy_lower.proofs.EmitMakers.{makes_some, makes_none}
use Rattle.wy_lower.proofs.EmitKinds.{below_end, captures_is}
use Rattle.wy_lower.proofs.kinds.captures_code.Goals as goal

pub inside_body-inside-requires-clause-there : goal.inside_body-inside-requires-clause-there
inside_body-inside-requires-clause-there c =
    let s = scope_of c.args.scope.now in
    let l = c.args.literal in
    let items = c.args.tables.now.makers.items in
    let lt : l < length items = omega (arith, c.requires.tables.long, c.requires.there) in
    let maker = sym (c.requires.tables.makers l c.requires.there) ∙ read_any items l None c.index.result.now lt ∙ sym c.index.ensures ∙ c.in-Some.is in
    let m = makes_some (whole_program c.args.whole.now) (whole_starts c.args.whole.now) s l 0 s.bodies c.in-Some.number maker in
    omega (arith, below_end s.bodies m.place m.body m.there, m.at, length_mapped body_of c.args.scope.now.bodies)

pub returns-in-Some : goal.returns-in-Some
returns-in-Some c =
    let p = whole_program c.args.whole.now in
    let starts = whole_starts c.args.whole.now in
    let s = scope_of c.args.scope.now in
    let l = c.args.literal in
    let items = c.args.tables.now.makers.items in
    let lt : l < length items = omega (arith, c.requires.tables.long, c.requires.there) in
    let maker = sym (c.requires.tables.makers l c.requires.there) ∙ read_any items l None c.index.result.now lt ∙ sym c.index.ensures ∙ c.in-Some.is in
    let m = makes_some p starts s l 0 s.bodies c.in-Some.number maker in
    let place : c.in-Some.number ≡ m.place = omega (arith, m.at) in
    let there = ap (λ (i : ℕ). slice_get s.bodies i) place ∙ m.there in
    let same = ap (λ i. capture_sources i c.args.variables.now) (c.inside_body-inside.ensures m.body there ∙ sym m.sees) ∙ sym (captures_is p starts s l c.args.variables.now c.if-literal-eq0.false) in
    IfOk-weaker c.capture_sources.result _ _ (λ found is. is ∙ same) c.capture_sources.ensures

pub returns-in-None : goal.returns-in-None
returns-in-None c =
    let p = whole_program c.args.whole.now in
    let starts = whole_starts c.args.whole.now in
    let s = scope_of c.args.scope.now in
    let l = c.args.literal in
    let items = c.args.tables.now.makers.items in
    let lt : l < length items = omega (arith, c.requires.tables.long, c.requires.there) in
    let maker = sym (c.requires.tables.makers l c.requires.there) ∙ read_any items l None c.index.result.now lt ∙ sym c.index.ensures ∙ c.in-None.is in
    let same = ap (λ i. capture_sources i c.args.variables.now) (c.inside_start-inside.ensures ∙ sym (makes_none p starts s l 0 s.bodies maker)) ∙ sym (captures_is p starts s l c.args.variables.now c.if-literal-eq0.false) in
    IfOk-weaker c.capture_sources-in-None.result _ _ (λ found is. is ∙ same) c.capture_sources-in-None.ensures
