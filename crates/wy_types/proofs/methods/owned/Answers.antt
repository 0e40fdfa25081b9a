use Rattle.std.proofs.Common.{◌≡◌, ◌+◌, [], ◌∷◌, ◌++◌, map, drop, Vec, Global, sym, ap, ◌∙◌, subst}
use Rattle.wy_types.specs.declared.types.Method.{Method}
use Rattle.wy_types.specs.Program.{body_of}
use Rattle.wy_types.specs.Types.{signature, methods_of_owner}
use Rattle.wy_types.proofs.Owning.{methods_of_owner-this, methods_of_owner-other, map-push, given}
use Rattle.wy_types.proofs.methods.owned.Goals as goal
use Rattle.wy_types.proofs.methods.owned.Goals.{then-body-owner+in_ok-copied+in_ok-push, else-body-owner}

pub loop-body-preserved : goal.loop-body-preserved
loop-body-preserved c =
    let l = c.args.owner in
    let bs = c.args.bodies.now in
    let i = c.loop-body.body-index in
    let P : Vec Method Global → Type 0 = λ v. map signature v.items ++ methods_of_owner l (map body_of (drop (i + 1) bs)) ≡ methods_of_owner l (map body_of bs) in
    elim c.if-body-owner.branch [
      | then-body-owner+in_ok-copied+in_ok-push w ↦ subst P (sym w.out-is)
          (given (map signature c.loop-body.out.items) (map signature w.push.new.self.items) (methods_of_owner l (map body_of (drop i bs))) (methods_of_owner l (map body_of (drop (i + 1) bs))) (methods_of_owner l (map body_of bs)) (signature c.body-item.result.signature)
          (methods_of_owner-this l bs i c.body-item.result c.loop-body-test.true c.body-item.is w.if-body-owner.true)
          (ap (map signature) w.in_ok-push.ensures.items ∙ map-push signature c.loop-body.out.items _ ∙ ap (λ m. map signature c.loop-body.out.items ++ signature m ∷ []) w.in_ok-copied.ensures)
          c.loop-body.invariant)
      | else-body-owner w ↦ subst P (sym w.out-is)
          (ap (λ r. map signature c.loop-body.out.items ++ r) (sym (methods_of_owner-other l bs i c.body-item.result c.loop-body-test.true c.body-item.is w.if-body-owner.false)) ∙ c.loop-body.invariant)
    ]
