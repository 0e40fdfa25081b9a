use Rattle.std.proofs.Common.{◌<◌, ◌+◌, [], ◌∷◌, ◌++◌, length, drop, sym, ap, ◌∙◌, arith, append_assoc}
use Rattle.wy_types.specs.Program.{body_of, scope_of}
use Rattle.wy_lower.specs.Lowering.{body_code, bodies_code}
use Rattle.wy_lower.specs.EmitBodies.{whole_program, whole_starts}
use Rattle.wy_lower.proofs.EmitLists.{split_at, read_item, there_is, length_mapped}
use Rattle.wy_lower.proofs.emitting.add_bodies.Goals as goal

pub loop-k-preserved : goal.loop-k-preserved
loop-k-preserved c =
    let p = whole_program c.args.whole.now in
    let starts = whole_starts c.args.whole.now in
    let s = scope_of c.args.scope.now in
    let k = c.loop-k.k in
    let old = c.loop-k.bodies in
    let lt : k < length s.bodies = omega (arith, length_mapped body_of c.args.scope.now.bodies, c.len-k-end.ensures) in
    let item = there_is s.bodies k lt in
    let rest = bodies_code p starts s (k + 1) (drop (k + 1) s.bodies) in
    ap (λ l. l ++ rest) (c.in_ok-push-2.ensures.ok ∙ ap (λ x. old ++ x ∷ []) (c.in_ok-body_code.ensures item.0 item.1))
    ∙ append_assoc old (body_code p starts s k item.0 ∷ []) rest
    ∙ ap (λ l. old ++ bodies_code p starts s k l) (sym (split_at s.bodies k item.0 lt (read_item s.bodies k item.0 item.1)))
    ∙ c.loop-k.invariant
