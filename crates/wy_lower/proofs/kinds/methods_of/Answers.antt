use Rattle.std.proofs.Common.{◌≡◌, ◌<◌, ◌+◌, [], ◌∷◌, ◌++◌, length, map, drop, get_or, sym, ap, ◌∙◌, arith}
use Rattle.wy_types.specs.Program.{body_of}
use Rattle.wy_lower.specs.Parts.{number_in}
use Rattle.wy_lower.specs.Lowering.{methods_code}
use Rattle.wy_lower.specs.EmitBodies.{whole_program}
use Rattle.wy_lower.proofs.EmitLists.{split_at, read_item, there_is, mapped_item, length_mapped}
use Rattle.wy_lower.proofs.EmitKinds.{methods_more}
use Rattle.wy_lower.proofs.kinds.methods_of.Goals as goal

pub loop-k-preserved : goal.loop-k-preserved
loop-k-preserved c =
    let p = whole_program c.args.whole.now in
    let sb = c.args.scope.now.bodies in
    let bs = map body_of sb in
    let k = c.loop-k.k in
    let r = c.index-bodies-k.result in
    let lt : k < length sb = omega (arith, ap length c.as_slice-bodies.ensures) in
    let at = c.index-bodies-k.is ∙ ap (λ l. get_or l k r) c.as_slice-bodies.ensures in
    let below : k < length bs = omega (arith, length_mapped body_of sb) in
    let item = there_is bs k below in
    let same = mapped_item body_of sb k r item.0 item.1 lt at in
    let rest = drop (k + 1) bs in
    let first = c.args.start + 1 in
    let step : first + k + 1 ≡ first + (k + 1) = omega arith in
    let number : c.args.start + (k + 1) ≡ first + k = omega arith in
    let name = ap (λ ks. number_in ks r.signature.name) c.requires.whole.methods in
    record {
      long = c.in_ok-add_body.ensures.long ∙ c.loop-k.invariant.long;
      each = λ m less.
          let old = get_or c.loop-k.methods.items m [] in
          let here : m < length c.loop-k.methods.items = omega (arith, c.loop-k.invariant.long, less) in
          ap (λ l. l ++ methods_code p m (first + (k + 1)) rest) (c.in_ok-add_body.ensures.added _ c.sum.ensures m here)
          ∙ methods_more p m (first + k) (first + (k + 1)) (body_of r) rest old _ _ step name number
          ∙ ap (λ y. old ++ methods_code p m (first + k) (y ∷ rest)) (sym same)
          ∙ ap (λ l. old ++ methods_code p m (first + k) l) (sym (split_at bs k item.0 below (read_item bs k item.0 item.1)))
          ∙ c.loop-k.invariant.each m less;
    }
