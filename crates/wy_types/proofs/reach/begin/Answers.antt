use Rattle.std.proofs.Common.{◌≡◌, List, [], map, Option, Some, None, Err, sym, ap, ◌∙◌, subst, arith, rules}
use Rattle.std.specs.Prelude.{slice_get, Result}
use Rattle.std.specs.Option.{option_map}
use Rattle.std.proofs.lemmas.Option.{slice_get-map}
use Rattle.wy_types.specs.declared.resolved.Scope.{Scope}
use Rattle.wy_types.specs.declared.types.TypeRef.{TypeRef}
use Rattle.wy_types.specs.declared.reach.ReachRefusal.{ReachRefusal}
use Rattle.wy_types.specs.Program.{program_of, scope_of}
use Rattle.wy_types.specs.Program as plain
use Rattle.wy_types.specs.Reached.{first_types, scope_first_types}
use Rattle.wy_types.specs.Gathering.{IsGathered, Gathers, Begins}
use Rattle.wy_types.proofs.Gathered.{gathered_none, begins_refused}
use Rattle.wy_types.proofs.reach.begin.Goals as goal

-- the scope at a place, as plain data
scope_there : (scopes : List Scope) (k : _) (o : Option Scope) → o ≡ slice_get scopes k → slice_get (map scope_of scopes) k ≡ option_map scope_of o
scope_there scopes k o e = slice_get-map scope_of scopes k ∙ ap (option_map scope_of) (sym e)

pub returns-in_err-add_all-in-Some : goal.returns-in_err-add_all-in-Some
returns-in_err-add_all-in-Some c =
    let there = scope_there c.args.core.now.scopes c.args.scope (Some c.in-Some.s.now) c.in-Some.ensures in
    let types : c.as_slice.result.now ≡ first_types (scope_of c.in-Some.s.now) = c.as_slice.ensures ∙ c.in_ok-types-in-Some.ensures in
    let e : c.from_residual-in_err-add_all-in-Some.result ≡ Err c.in_err-add_all-in-Some.field-0.0 = search rules in
    let P : Result (List TypeRef) ReachRefusal → Type 0 = λ r. Begins (scope_first_types (slice_get (map scope_of c.args.core.now.scopes) c.args.scope)) r in
    let Q : List TypeRef → Type 0 = λ l. Begins l (Err c.in_err-add_all-in-Some.field-0.0) in
    let R : List TypeRef → Type 0 = λ l. Gathers l c.as_slice.result.now c.add_all.new.seen (Err c.in_err-add_all-in-Some.field-0.0) in
    subst P (sym e) (subst Q (types ∙ ap scope_first_types (sym there))
    (begins_refused c.as_slice.result.now c.add_all.new.seen c.in_err-add_all-in-Some.field-0.0 (subst R c.new-seen.ensures c.in_err-add_all-in-Some.ensures)))

pub returns-in-None : goal.returns-in-None
returns-in-None c =
    let there = scope_there c.args.core.now.scopes c.args.scope None c.in-None.ensures in
    let P : Option plain.Scope → Type 0 = λ o. IsGathered [] (scope_first_types o) c.new.result in
    let Q : List TypeRef → Type 0 = λ l. IsGathered [] [] l in
    subst P (sym there) (subst Q (sym c.new.ensures) (gathered_none [] tt (omega arith)))

pub returns-in_ok-add_all-in-Some : goal.returns-in_ok-add_all-in-Some
returns-in_ok-add_all-in-Some c =
    let there = scope_there c.args.core.now.scopes c.args.scope (Some c.in-Some.s.now) c.in-Some.ensures in
    let types : c.as_slice.result.now ≡ first_types (scope_of c.in-Some.s.now) = c.as_slice.ensures ∙ c.in_ok-types-in-Some.ensures in
    let Q : List TypeRef → Type 0 = λ l. IsGathered [] l c.add_all.new.seen in
    let R : List TypeRef → Type 0 = λ l. IsGathered l c.as_slice.result.now c.add_all.new.seen in
    subst Q (types ∙ ap scope_first_types (sym there)) (subst R c.new-seen.ensures c.in_ok-add_all-in-Some.ensures)
