use Rattle.std.proofs.Common.{◌<◌, ◌+◌, [], ◌∷◌, ◌++◌, length, map, drop, get_or, sym, ap, ◌∙◌, arith}
use Rattle.wy_types.specs.Program.{body_of}
use Rattle.wy_lower.specs.Lowering.{owned_names}
use Rattle.wy_lower.proofs.EmitLists.{split_at, read_item, there_is, mapped_item, length_mapped}
use Rattle.wy_lower.proofs.EmitKinds.{names_more}
use Rattle.wy_lower.proofs.entries.owned_names.Goals as goal

pub loop-k-preserved : goal.loop-k-preserved
loop-k-preserved c =
    let sb = c.args.scope.now.bodies in
    let bs = map body_of sb in
    let k = c.loop-k.k in
    let r = c.index-bodies-k.result in
    let lt : k < length sb = omega (arith, ap length c.as_slice-bodies.ensures) in
    let at = c.index-bodies-k.is ∙ ap (λ l. get_or l k r) c.as_slice-bodies.ensures in
    let below : k < length bs = omega (arith, length_mapped body_of sb) in
    let item = there_is bs k below in
    let same = mapped_item body_of sb k r item.0 item.1 lt at in
    let rest = drop (k + 1) bs in
    record {
      long = c.in_ok-add_name.ensures.long ∙ c.loop-k.invariant.long;
      each = λ m less.
          let old = get_or c.loop-k.names.items m [] in
          let here : m < length c.loop-k.names.items = omega (arith, c.loop-k.invariant.long, less) in
          ap (λ l. l ++ owned_names m rest) (c.in_ok-add_name.ensures.added m here)
          ∙ names_more m (body_of r) rest old
          ∙ ap (λ y. old ++ owned_names m (y ∷ rest)) (sym same)
          ∙ ap (λ l. old ++ owned_names m l) (sym (split_at bs k item.0 below (read_item bs k item.0 item.1)))
          ∙ c.loop-k.invariant.each m less;
    }
