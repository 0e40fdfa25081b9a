use Rattle.std.proofs.Common.{List, ℕ, ◌∷◌, [], ◌∙◌, ◌++◌, ◌+◌, drop, get_or, sym, ap, append_assoc, append-nil, arith}
use Rattle.std.proofs.lemmas.List.{at_drop_more, at_drop_all}
use Rattle.wy_text.specs.Quoted.{quoted_byte, quoted_bytes}
use Rattle.wy_text.proofs.quoting.between_quotes.Goals as goal

pub loop-byte-preserved : goal.loop-byte-preserved
loop-byte-preserved c =
    let text : List ℕ = c.args.text.now in
    let before : List ℕ = c.loop-byte.bytes.items in
    let rest : List ℕ = quoted_bytes (drop (c.loop-byte.byte-index + 1) text) in
    ap (λ (l : List ℕ). l ++ rest) c.in_ok-push_quoted.ensures
    ∙ append_assoc before (quoted_byte (get_or text c.loop-byte.byte-index 0)) rest
    ∙ ap (λ (l : List ℕ). before ++ l) (sym (at_drop_more quoted_bytes text c.loop-byte.byte-index 0 c.loop-byte-test.true))
    ∙ c.loop-byte.invariant

pub returns : goal.returns
returns c =
    let before : List ℕ = c.loop-byte.bytes.items in
    c.in_ok-push.ensures.items
    ∙ ap (λ (l : List ℕ). l ++ 34 ∷ []) (sym (append-nil before)
    ∙ ap (λ (l : List ℕ). before ++ l) (sym (at_drop_all quoted_bytes c.args.text.now c.loop-byte.byte-index c.loop-byte-test.false))
    ∙ c.loop-byte.invariant)
