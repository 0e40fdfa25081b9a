use Rattle.std.proofs.Common.{◌∙◌, ◌+◌, ◌<◌, ℕ, List, sym, ap, arith, length, reverse, take, drop}
use Rattle.wy_layout.specs.Lines.{lines, next_row}
use Rattle.wy_layout.specs.Cut.{line_len}
use Rattle.wy_layout.specs.Lexed.{join, lex_lines}
use Rattle.wy_layout.specs.declared.row.Row.{Row}
use Rattle.wy_layout.proofs.Cutting.{content_take}
use Rattle.wy_layout.proofs.Linewise.{next_turn, last_turn, err_turn}
use Rattle.wy_layout.proofs.lines.lay_lines.Goals as goal

pub returns-in-Err-clause-lines : goal.returns-in-Err-clause-lines
returns-in-Err-clause-lines c =
    err_turn c.in-Err.halt c.lines.out.items c.lay_line.new.out.items (reverse c.lines.widths.items) (reverse c.lay_line.new.widths.items) c.lines.row (length c.args.text.now) c.front-line.result.now c.lines.rest.now
    c.args.out.now.items _ _ _ (c.front-line.ensures ∙ ap (λ (n : ℕ). take n c.lines.rest.now) c.content_len.ensures.value ∙ content_take c.lines.rest.now) c.in-Err.ensures c.lines.invariant.0

pub returns-then-length-rest-clause-lines : goal.returns-then-length-rest-clause-lines
returns-then-length-rest-clause-lines c =
    sym c.lines.invariant.0 ∙ last_turn c.lines.out.items c.lay_line.new.out.items (reverse c.lines.widths.items) (reverse c.lay_line.new.widths.items) c.lines.row (length c.args.text.now) c.front-line.result.now c.lines.rest.now
    (c.front-line.ensures ∙ ap (λ (n : ℕ). take n c.lines.rest.now) c.content_len.ensures.value ∙ content_take c.lines.rest.now) c.in-Ok.ensures (sym c.line_len-length.ensures.value ∙ c.if-length-rest.true)

pub lines-preserved : goal.lines-preserved
lines-preserved c =
    let e = length c.args.text.now in
    let new = c.lay_line.new.out.items in
    let st = reverse c.lay_line.new.widths.items in
    let row = c.lines.row in
    let rest = c.lines.rest.now in
    let l : line_len rest < length rest = (let v = c.line_len-length.ensures.value in let w = c.line_len-length.ensures.within in let f = c.if-length-rest.false in grind arith) in
    let b = c.behind-rest.ensures.within in
    let i1 = c.lines.invariant.1 in let i2 = c.lines.invariant.2 in
    let start = ap (λ (r : Row). r.start) c.next_row-row.ensures in
    let number = ap (λ (r : Row). r.number) c.next_row-row.ensures in (
      ap (λ (r : Row). join new (lex_lines r e (length new) st (lines r c.behind-rest.result.now))) c.next_row-row.ensures
          ∙ ap (λ (u : List ℕ). join new (lex_lines (next_row row (row.start + c.line_len-length.result + 1)) e (length new) st (lines (next_row row (row.start + c.line_len-length.result + 1)) u))) c.behind-rest.ensures.value
          ∙ ap (λ (m : ℕ). join new (lex_lines (next_row row (row.start + m + 1)) e (length new) st (lines (next_row row (row.start + m + 1)) (drop (m + 1) rest)))) c.line_len-length.ensures.value
          ∙ sym (next_turn c.lines.out.items new (reverse c.lines.widths.items) st row e c.front-line.result.now rest
          (c.front-line.ensures ∙ ap (λ (n : ℕ). take n rest) c.content_len.ensures.value ∙ content_take rest) c.in-Ok.ensures l)
          ∙ c.lines.invariant.0,
      omega arith,
      omega arith,
    )
