use Rattle.std.proofs.Common.{List, ◌-◌, length, drop, sym, ap, ◌∙◌, subst, arith}
use Rattle.std.proofs.lemmas.List.{drop-map, length-drop}
use Rattle.std.proofs.lemmas.List.{take_all}
use Rattle.std.specs.Prelude.{◌↔◌, IfOk, IsTrue}
use Rattle.wy_image.specs.declared.typing.Reference.{Reference}
use Rattle.wy_verified.specs.declared.known.Kind.{Kind}
use Rattle.wy_verified.specs.Kinds.{AllFit, kind_in, kinds_in}
use Rattle.wy_verify.proofs.types.literals.rest_fits.Goals as goal

pub returns-clause-decided : goal.returns-clause-decided
returns-clause-decided c =
    let s = c.args.site.now in
    let d = length-drop c.args.from c.args.values.now in
    subst (λ (t : List Kind). IfOk c.all_fit.result (λ b. IsTrue b ↔ AllFit s.image c.args.kinds.now t))
    (ap (λ (t : List Reference). kinds_in s.x t) (take_all (length c.args.values.now - c.args.from) (drop c.args.from c.args.values.now) (omega (arith, d))) ∙
    sym (drop-map (kind_in s.x) c.args.from c.args.values.now)) c.all_fit.ensures.decided
