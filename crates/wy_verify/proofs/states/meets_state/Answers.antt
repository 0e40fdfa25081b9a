use Rattle.std.proofs.Common.{◌≡◌, ◌-◌, length, drop, sym, ap, ◌∙◌}
use Rattle.std.proofs.lemmas.List.{length-drop}
use Rattle.wy_verify.proofs.states.meets_state.Goals as goal

pub returns-then-depth-taken : goal.returns-then-depth-taken
returns-then-depth-taken c = λ s.
    let e : length (drop c.args.taken c.args.known.now.operands) ≡ length c.args.target.now.operands =
    length-drop c.args.taken c.args.known.now.operands ∙ ap (λ n. n - c.args.taken) (sym c.depth.ensures) ∙
    c.if-depth-taken.true ∙ c.len.ensures in (
      (λ t. (e, c.has_stored.ensures.0 t)),
      (λ h. c.has_stored.ensures.1 h.1),
    )
