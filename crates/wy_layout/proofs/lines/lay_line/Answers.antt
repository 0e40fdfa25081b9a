use Rattle.std.proofs.Common.{◌≡◌, ◌∙◌, sym, ap, arith, reverse, length, subst, ◌+◌, ◌-◌, ℕ}
use Rattle.std.proofs.lemmas.List.{length-reverse}
use Rattle.wy_layout.specs.Counts.{counted_from}
use Rattle.wy_layout.specs.Layout.{mark_count, opening}
use Rattle.wy_layout.specs.Lexed.{sooner, words_of}
use Rattle.wy_layout.specs.Outs.{step_is, Halts}
use Rattle.wy_layout.proofs.LineOuts.{IsFrom, count_within, tab_out, done_out, fault_out, laid_out}
use Rattle.wy_layout.proofs.lines.lay_line.Goals as goal

pub returns-then-has_tab : goal.returns-then-has_tab
returns-then-has_tab c = tab_out _ _ c.args.row c.after_spaces-from.result.now c.args.text.now (record { value = c.after_spaces-from.ensures.value; within = c.after_spaces-from.ensures.within }) (sym c.has_tab.ensures ∙ c.if-has_tab.true)

pub returns-then-is_done : goal.returns-then-is_done
returns-then-is_done c = done_out _ _ _ c.args.row c.after_spaces-from.result.now c.args.text.now (record { value = c.after_spaces-from.ensures.value; within = c.after_spaces-from.ensures.within }) (sym c.has_tab.ensures ∙ c.if-has_tab.false) (sym c.is_done.ensures ∙ c.if-is_done.true)

pub opening-requires : goal.opening-requires
opening-requires c =
    let w = count_within (length c.args.text.now - length c.after_spaces-from.result.now) (reverse c.args.widths.now.items) in
    let e = ap mark_count c.in-Ok.ensures.step in
    let r = length-reverse c.args.widths.now.items in
    let o = c.args.out.now.ok.0 in let o2 = c.args.out.now.ok.1 in let s = c.args.out.now.small in
    let p = c.args.widths.now.ok.0 in let p2 = c.args.widths.now.ok.1 in let q = c.args.widths.now.small in
    let l = c.len.ensures in
    omega arith

pub overflow_add-tokens : goal.overflow_add-tokens
overflow_add-tokens c =
    let w = count_within (length c.args.text.now - length c.after_spaces-from.result.now) (reverse c.args.widths.now.items) in
    let e = ap mark_count c.in-Ok.ensures.step in
    let r = length-reverse c.args.widths.now.items in
    let o = c.args.out.now.ok.0 in let o2 = c.args.out.now.ok.1 in let s = c.args.out.now.small in
    let p = c.args.widths.now.ok.0 in let p2 = c.args.widths.now.ok.1 in let q = c.args.widths.now.small in
    let l = c.len-in-Some.ensures in let m = c.mark_count.ensures in
    omega arith

pub returns-in-Some : goal.returns-in-Some
returns-in-Some c =
    let old = c.args.out.now.items in
    let st = reverse c.args.widths.now.items in
    let from = c.after_spaces-from.result.now in
    let z = c.args.text.now in
    let s = step_is c.in-Ok.before in
    let at : IsFrom from z = record { at = record { value = c.after_spaces-from.ensures.value; within = c.after_spaces-from.ensures.within }; no_tab = sym c.has_tab.ensures ∙ c.if-has_tab.false; full = sym c.is_done.ensures ∙ c.if-is_done.false } in
    let n : c.len.result ≡ length old = c.len.ensures ∙ c.args.out.now.ok.0 in
    let m : c.len-in-Some.result ≡ length old = c.len-in-Some.ensures ∙ c.args.out.now.ok.0 in
    let d : c.len-indents.result ≡ length st = c.len-indents.ensures ∙ c.args.widths.now.ok.0 ∙ sym (length-reverse c.args.widths.now.items) in
    let tokens : c.len-in-Some.result + c.mark_count.result ≡ length old + mark_count s = ap (λ (a : ℕ). a + c.mark_count.result) m ∙ ap (λ (b : ℕ). length old + b) c.mark_count.ensures in
    fault_out c.first_of.result old _ st _ c.args.row from z s c.in-Some.fault at c.in-Ok.ensures.step
    (c.in-Some.ensures ∙ ap (λ (a : ℕ). opening s a c.len-indents.result) n ∙ ap (opening s (length old)) d)
    (subst (λ (a : ℕ). Halts c.first_of.result (sooner c.in-Some.fault (c.args.row.start + (length z - length from)) (words_of c.args.row (counted_from a) (c.args.row.start + (length z - length from)) from))) tokens c.first_of.ensures)

pub returns : goal.returns
returns c =
    let old = c.args.out.now.items in
    let st = reverse c.args.widths.now.items in
    let from = c.after_spaces-from.result.now in
    let z = c.args.text.now in
    let s = step_is c.in-Ok.before in
    let at : IsFrom from z = record { at = record { value = c.after_spaces-from.ensures.value; within = c.after_spaces-from.ensures.within }; no_tab = sym c.has_tab.ensures ∙ c.if-has_tab.false; full = sym c.is_done.ensures ∙ c.if-is_done.false } in
    let n : c.len.result ≡ length old = c.len.ensures ∙ c.args.out.now.ok.0 in
    let d : c.len-indents.result ≡ length st = c.len-indents.ensures ∙ c.args.widths.now.ok.0 ∙ sym (length-reverse c.args.widths.now.items) in
    laid_out c.push_line.result old _ st _ c.args.row from z s at c.in-Ok.ensures.step
    (c.in_default.ensures ∙ ap (λ (a : ℕ). opening s a c.len-indents.result) n ∙ ap (opening s (length old)) d) c.in-Ok.ensures.stack c.push_line.ensures
