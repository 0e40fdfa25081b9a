use Rattle.std.proofs.Common.{◌≡◌, ◌+◌, ◌++◌, ◌∷◌, [], List, drop, get_or, sym, ap, ◌∙◌, Some, None}
use Rattle.std.specs.Prelude.{slice_get}
use Rattle.std.specs.Option.{option_copied}
use Rattle.wy_types.specs.declared.types.TypeRef.{TypeRef}
use Rattle.wy_proving.specs.Certified.{named_types}
use Rattle.wy_recheck.proofs.NodesNamed.{prefixed, unnamed, named_more}
use Rattle.wy_recheck.proofs.nodes.named_types.Goals as goal

pub returns-in-None : goal.returns-in-None
returns-in-None c =
    let ns = c.args.numbers.now in
    let i = c.loop-number.number-index in
    let none : slice_get c.args.types.now (get_or ns i 0) ≡ None = sym c.type_at.ensures ∙ ap option_copied c.in-None.is in
    sym (c.loop-number.invariant ∙ unnamed c.args.types.now ns i c.loop-number.named c.loop-number-test.true none)

pub loop-number-preserved : goal.loop-number-preserved
loop-number-preserved c =
    let types = c.args.types.now in
    let ns = c.args.numbers.now in
    let i = c.loop-number.number-index in
    let there : slice_get types (get_or ns i 0) ≡ Some c.in-Some.typ.now = sym c.type_at.ensures ∙ ap option_copied c.in-Some.is in
    let pushed = c.in_ok-push-in-Some.ensures.ok ∙ ap (λ (t : TypeRef). c.loop-number.named ++ t ∷ []) c.in_ok-copy-in-Some.ensures in
    c.loop-number.invariant ∙ named_more types ns i c.loop-number.named c.loop-number-test.true c.in-Some.typ.now there ∙ ap (λ (l : List TypeRef). prefixed l (named_types types (drop (i + 1) ns))) (sym pushed)
