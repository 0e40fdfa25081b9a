use Rattle.std.proofs.Common.{◌<◌, ◌+◌, ◌-◌, [], ◌∷◌, ◌++◌, sym, ap, ◌∙◌, arith, append_assoc}
use Rattle.wy_code.specs.declared.code.Source.TheVariants.{Value}
use Rattle.wy_lower.specs.Inside.{own_values, own_sources}
use Rattle.wy_lower.specs.Emits.{inside_of}
use Rattle.wy_lower.proofs.EmitLists.{own_more}
use Rattle.wy_lower.proofs.names.capture_sources.Goals as goal

pub loop-number-preserved : goal.loop-number-preserved
loop-number-preserved c =
    let k = c.loop-number.number in
    let n = own_values (inside_of c.args.inside.now) in
    let sources = c.loop-number.sources in
    let rest = own_sources (k + 1) (n - (k + 1)) in
    let lt : k < n = omega (arith, c.own_values-number-end.ensures) in
    ap (λ l. l ++ rest) (c.in_ok-push.ensures.ok ∙ ap (λ m. sources ++ Value m ∷ []) c.in_ok-word.ensures.exact)
    ∙ append_assoc sources (Value k ∷ []) rest
    ∙ ap (λ l. sources ++ l) (sym (own_more k n lt))
    ∙ c.loop-number.invariant
