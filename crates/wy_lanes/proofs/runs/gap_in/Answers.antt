use Rattle.std.proofs.Common.{ℕ, sym, ap, ◌∙◌, arith}
use Rattle.std.specs.Int.{bit_at}
use Rattle.wy_lanes.specs.Runs.{is_of}
use Rattle.wy_lanes.proofs.Fronts.{gap_at, gap_all, gap_within}
use Rattle.wy_lanes.proofs.runs.gap_in.Goals as goal

pub returns-in-Some-clause-value : goal.returns-in-Some-clause-value
returns-in-Some-clause-value c =
    let told = c.in-Some.ensures in
    sym (gap_at (is_of c.args.class) c.args.bytes.now c.in-Some.bit (ap (λ (w : ℕ). bit_at w c.in-Some.bit) (sym c.mask.ensures) ∙ told.there.2)
    (λ i l. ap (λ (w : ℕ). bit_at w i) (sym c.mask.ensures) ∙ told.lowest i (omega arith) l))

pub returns-in-None-clause-value : goal.returns-in-None-clause-value
returns-in-None-clause-value c =
    sym (gap_all (is_of c.args.class) c.args.bytes.now c.requires (λ i l. ap (λ (w : ℕ). bit_at w i) (sym c.mask.ensures) ∙ c.in-None.ensures.none i (omega arith) l))

pub returns-in-Some-clause-within : goal.returns-in-Some-clause-within
returns-in-Some-clause-within c = gap_within (is_of c.args.class) c.args.bytes.now c.in-Some.bit (ap (λ (w : ℕ). bit_at w c.in-Some.bit) (sym c.mask.ensures) ∙ c.in-Some.ensures.there.2)
