use Rattle.std.proofs.Common.{ℕ, subst, ◌∙◌, take, IsAscii}
use Rattle.wy_layout.proofs.Guesses.{run_is_name}
use Rattle.wy_layout.proofs.names.first_len.Goals as goal

pub returns-then-is_ascii-clause-value : goal.returns-then-is_ascii-clause-value
returns-then-is_ascii-clause-value c =
    let run = c.run_len-run.ensures.value in
    let ascii : IsAscii (take c.run_len-run.result c.args.text.now) = c.if-is_ascii.ensures.cases in
    run ∙ run_is_name c.args.text.now c.requires (subst (λ (n : ℕ). IsAscii (take n c.args.text.now)) run ascii)
