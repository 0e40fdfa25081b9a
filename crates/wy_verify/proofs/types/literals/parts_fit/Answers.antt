use Rattle.std.proofs.Common.{◌≡◌, true, false, drop, sym, ◌∙◌, arith}
use Rattle.wy_verified.specs.Kinds.{AllFit, kind_in, kinds_in}
use Rattle.wy_verified.proofs.Lists.{map_length}
use Rattle.wy_verify.specs.Turns.{AreMade}
use Rattle.wy_verify.proofs.Captured.{captured_fewer, made_captured, made_is}
use Rattle.wy_verify.proofs.Fitting.{decides}
use Rattle.wy_verify.proofs.types.literals.parts_fit.Goals as goal

pub returns-then-values-captured-clause-decided : goal.returns-then-values-captured-clause-decided
returns-then-values-captured-clause-decided c =
    let s = c.args.site.now in
    let lt = c.if-values-captured.true in
    let n = c.len-captured.ensures in
    let z = map_length (kind_in s.x) c.args.values.now in (
      (λ t. absurd cc),
      (λ made. let few = captured_fewer s c.args.known.now.stored c.args.literal.now.captures
          (kinds_in s.x c.args.values.now)
          (made_captured s c.args.known.now.stored c.args.literal.now.captures _ (kinds_in s.x c.args.values.now) made) in
          absurd (omega (arith, lt, n, z, few))),
    )

pub returns-then-not-branch-clause-decided : goal.returns-then-not-branch-clause-decided
returns-then-not-branch-clause-decided c =
    let s = c.args.site.now in (
      (λ t. absurd cc),
      (λ made. let z : true ≡ false = sym (c.in_ok-sources_fit.ensures.decided.1
          (made_captured s c.args.known.now.stored c.args.literal.now.captures _ (kinds_in s.x c.args.values.now) made)) ∙
          c.if-not-branch.true in absurd cc),
    )

pub returns-clause-decided : goal.returns-clause-decided
returns-clause-decided c =
    let s = c.args.site.now in
    let ks = kinds_in s.x c.args.values.now in
    decides c.rest_fits.result (AllFit s.image c.topmost-fields.result.now (drop c.len-captured.result ks))
    (AreMade s c.args.known.now.stored c.args.literal.now.captures _ ks)
    (made_is s c.args.known.now.stored c.args.literal.now.captures c.topmost-fields.result.now _ ks c.len-captured.result
    c.topmost-fields.ensures c.len-captured.ensures (c.in_ok-sources_fit.ensures.decided.0 c.if-not-branch.false))
    c.rest_fits.ensures.decided
