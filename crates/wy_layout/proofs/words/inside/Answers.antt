use Rattle.std.proofs.Common.{ℕ, List, ◌≤◌, ◌-◌, drop, length, length-take, take, sym, ap, subst, ◌∙◌, arith}
use Rattle.wy_lanes.specs.Runs.{front_len}
use Rattle.wy_layout.specs.Gives.{GivesScan, put_all}
use Rattle.wy_layout.specs.Read.{Scan, scan}
use Rattle.wy_layout.specs.declared.escape.State.TheVariants as state
use Rattle.wy_layout.proofs.Guesses.{bare_read, is_bare}
use Rattle.wy_layout.proofs.WordCases.{rest_taken}
use Rattle.wy_layout.proofs.words.inside.Goals as goal

pub returns-in-Ok : goal.returns-in-Ok
returns-in-Ok c =
    let z = c.args.text.now in
    let n = c.plain_len-taken.result in
    let g = c.gap_len.result in
    let bare = bare_read z n (c.plain_len-taken.ensures.value ∙ ap (λ (g : ℕ). front_len is_bare (take g z)) c.gap_len.ensures.value) in
    let within : n ≤ length z = let w = c.plain_len-taken.ensures.within in let l = length-take g z in omega (arith, w, l) in
    let taken = ap (λ (v : List ℕ). put_all v (scan state.Plain (take (length z - n) (drop n z)))) c.in-Ok.ensures.items in
    let behind = ap (λ (r : List ℕ). put_all (take n z) (scan state.Plain r)) (rest_taken n z within) in
    subst (λ (x : Scan). GivesScan c.by_bytes.result x) (taken ∙ behind ∙ sym bare) c.by_bytes.ensures
