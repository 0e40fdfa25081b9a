use Rattle.std.proofs.Common.{◌<◌, ◌+◌, ℕ, length, drop, get_or, None, sym, ap, ◌∙◌, arith, nat_eq, if◌then◌else◌}
use Rattle.wy_lower.specs.EmitScopes.{maker_noted, or_first}
use Rattle.wy_lower.proofs.EmitLists.{read_any, split_at}
use Rattle.wy_lower.proofs.scopes.note_makers.Goals as goal

pub loop-literal-preserved : goal.loop-literal-preserved
loop-literal-preserved c =
    let ms = c.args.makes.now in
    let i = c.loop-literal.literal-index in
    let m = get_or ms i 0 in
    let n = c.args.number in
    let lt : i < length ms = c.loop-literal-test.true in
    record {
      long = c.note_maker.ensures.long ∙ c.loop-literal.invariant.long;
      noted = λ k less.
          let old = get_or c.loop-literal.makers.items k None in
          let here : k < length c.loop-literal.makers.items = omega (arith, c.loop-literal.invariant.long, less) in
          ap (maker_noted n (drop (i + 1) ms) k) (c.note_maker.ensures.noted k here ∙ ap (λ (x : ℕ). if nat_eq x k then or_first old n else old) (read_any ms i _ 0 lt))
          ∙ ap (λ l. maker_noted n l k old) (sym (split_at ms i m lt (read_any ms i 0 m lt)))
          ∙ c.loop-literal.invariant.noted k less;
    }
