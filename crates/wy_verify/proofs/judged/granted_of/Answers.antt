use Rattle.std.proofs.Common.{◌≡◌, ◌∙◌, ℕ, ◌+◌, List, ◌++◌, length, sym, ap, arith}
use Rattle.wy_verify.specs.Judging.{operation_numbers}
use Rattle.wy_verify.proofs.Walks.{numbers_more}
use Rattle.wy_verify.proofs.judged.granted_of.Goals as goal

pub returns : goal.returns
returns c =
    let names = c.args.names.now in
    let more = c.args.more.now in
    let first : c.add_numbers.new.granted ≡ operation_numbers 0 names =
    c.in_ok-add_numbers.ensures ∙ ap (λ (l : List ℕ). l ++ operation_numbers 0 names) c.new-granted.ensures in
    let z : c.len.result ≡ 0 + length names = c.len.ensures ∙ (let y : length names ≡ 0 + length names = omega arith in y) in
    c.in_ok-add_numbers-2.ensures ∙ ap (λ (l : List ℕ). l ++ operation_numbers c.len.result more) first ∙
    ap (λ (n : ℕ). operation_numbers 0 names ++ operation_numbers n more) z ∙ sym (numbers_more 0 names more)
