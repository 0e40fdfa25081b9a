use Rattle.std.proofs.Common.{◌≡◌, ◌+◌, ◌++◌, drop, sym, subst, Some, None, List, ℕ, arith}
use Rattle.std.specs.Prelude.{slice_get}
use Rattle.std.proofs.lemmas.Option.{gets}
use Rattle.wy_types.specs.Program.{program_of}
use Rattle.wy_types.specs.Ground.{arguments_sets}
use Rattle.wy_premises.proofs.MemberSets.{sets_more, sets_over}
use Rattle.wy_premises.proofs.members.arguments_sets.Goals as goal
use Rattle.wy_premises.proofs.members.arguments_sets.Goals.{in-Some+in_ok-add_argument_sets, in_default}

pub loop-i-preserved : goal.loop-i-preserved
loop-i-preserved c =
    let p = program_of c.args.core.now in
    let outer = c.args.outer.now in
    let ns = c.args.names.now in
    let arguments = c.args.arguments.now in
    let i = c.loop-i.i in
    let whole = arguments_sets p outer ns arguments in
    let P : List (List ℕ) → Type 0 = λ v. v ++ arguments_sets p outer (drop (i + 1) ns) (drop (i + 1) arguments) ≡ whole in
    elim c.match-get.branch [
      | in-Some+in_ok-add_argument_sets w ↦
          let e : slice_get arguments i ≡ Some w.in-Some.argument.now = grind (arith, gets) in
          subst P (sym w.out-is) (sets_more p outer ns arguments i c.index-names-i.result w.in-Some.argument.now c.loop-i.out w.add_argument_sets.new.out whole c.loop-i-test.true c.index-names-i.is e w.in_ok-add_argument_sets.ensures c.loop-i.invariant)
      | in_default w ↦
          let e : slice_get arguments i ≡ None = grind (arith, gets) in
          subst P (sym w.out-is) (sets_over p outer ns arguments i c.loop-i.out whole e c.loop-i.invariant)
    ]
