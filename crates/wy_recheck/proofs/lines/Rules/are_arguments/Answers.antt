use Rattle.std.proofs.Common.{◌≡◌, ◌↔◌, List, ℕ, true, subst}
use Rattle.std.specs.Prelude.{slice_get}
use Rattle.std.proofs.lemmas.Result.{IfOk-weaker}
use Rattle.wy_text.specs.Members.{In}
use Rattle.wy_types.specs.Program.{program_of, scope_of}
use Rattle.wy_types.specs.Types.{substituted}
use Rattle.wy_types.specs.Ground.{type_of}
use Rattle.wy_rules.specs.Acceptance.{Handed, handed_to}
use Rattle.wy_premises.specs.Tried.{OfEach}
use Rattle.wy_proving.specs.Certified.{Pair, annotated_pairs}
use Rattle.wy_recheck.proofs.RulesTold.{sets_as}
use Rattle.wy_recheck.proofs.lines.Rules.are_arguments.Goals as goal

pub returns : goal.returns
returns c = IfOk-weaker c.all_are_asked.result _ _ (λ b tells x by. (
    let p = program_of c.args.self.now.core.now in
    let s = scope_of c.args.self.now.scope.now in
    let sets = sets_as p c.args.self.now.number s x c.args.target c.args.arguments.now c.names_of-names.result.now c.as_slice-outer.result.now c.in_ok-sets.sets c.as_slice.result.now c.names_of-names.ensures c.as_slice-outer.ensures c.in_ok-sets.ensures c.as_slice.ensures in
    let P : List (List ℕ) → Type 0 = λ es. (b ≡ true) ↔ OfEach (λ (h : Handed). In {X = Pair} (type_of (slice_get s.names h.argument), substituted es h.parameter.typ) (annotated_pairs x)) (handed_to c.args.parameters.now c.args.arguments.now) in
    subst P sets (tells x by))) c.all_are_asked.ensures
