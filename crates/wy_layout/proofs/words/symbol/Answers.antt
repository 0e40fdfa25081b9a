use Rattle.std.proofs.Common.{◌∙◌, sym, ap}
use Rattle.wy_layout.specs.Gives.{given}
use Rattle.wy_layout.proofs.WordCases.{symbol_pair, symbol_single, pair_long, single_long, rest_taken}
use Rattle.wy_layout.proofs.words.symbol.Goals as goal

pub returns-in-Some : goal.returns-in-Some
returns-in-Some c =
    let z = c.args.text.now in
    let k = c.in-Some.kind in
    symbol_pair z k (sym c.in-Some.ensures) ∙ ap (given k) (sym (rest_taken 2 z (pair_long z k (sym c.in-Some.ensures))))

pub returns-in-Some-single_kind : goal.returns-in-Some-single_kind
returns-in-Some-single_kind c =
    let z = c.args.text.now in
    let k = c.in-Some-single_kind.kind in
    symbol_single z k (sym c.in_default.ensures) (sym c.in-Some-single_kind.ensures) ∙ ap (given k) (sym (rest_taken 1 z (single_long z k (sym c.in-Some-single_kind.ensures))))
