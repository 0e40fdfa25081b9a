use Rattle.std.proofs.Common.{◌≡◌, ℕ, ◌+◌, ◌-◌, ◌≤◌, [], ◌∷◌, ◌++◌, map, inl, inr, sym, ap, ◌∙◌, append_assoc, arith}
use Rattle.std.specs.List.{range_with_len}
use Rattle.std.proofs.lemmas.List.FromFn.{map-range_with_len_more}
use Rattle.wy_types.specs.declared.types.TypeRef.{TypeRef}
use Rattle.wy_types.specs.declared.types.TypeRef.TheVariants.{Own}
use Rattle.wy_types.proofs.reach.add_own.Goals as goal

pub loop-literal-preserved : goal.loop-literal-preserved
loop-literal-preserved c =
    let own : ℕ → TypeRef = λ k. Own k in
    let n = c.loop-literal.literal - c.args.first in
    let start : c.args.first ≤ c.loop-literal.literal = c.loop-literal.auto.literal in
    let longer : c.loop-literal.literal + 1 - c.args.first ≡ n + 1 = omega arith in (
      inr (omega (arith, c.loop-literal-test.true)),
      c.in_ok-push.ensures.ok ∙ ap (λ l. l ++ own c.loop-literal.literal ∷ []) c.loop-literal.invariant.1 ∙
          append_assoc c.args.out.now (map own (range_with_len c.args.first n)) (own c.loop-literal.literal ∷ []) ∙
          ap (λ l. c.args.out.now ++ l) (sym (map-range_with_len_more own c.args.first n c.loop-literal.literal (omega arith))) ∙
          ap (λ k. c.args.out.now ++ map own (range_with_len c.args.first k)) (sym longer),
    )

pub returns : goal.returns
returns c =
    let own : ℕ → TypeRef = λ k. Own k in
    let start : c.args.first ≤ c.loop-literal.literal = c.loop-literal.auto.literal in
    let done : c.args.end ≤ c.loop-literal.literal = c.loop-literal-test.false in
    let same : c.loop-literal.literal - c.args.first ≡ c.args.end - c.args.first = elim c.loop-literal.invariant.0 [ inl e ↦ omega arith | inr h ↦ omega arith ] in
    c.loop-literal.invariant.1 ∙ ap (λ k. c.args.out.now ++ map own (range_with_len c.args.first k)) same
