use Rattle.std.proofs.Common.{◌∙◌, sym, subst}
use Rattle.wy_layout.specs.Read.{Read}
use Rattle.wy_layout.specs.Gives.{GivesWord}
use Rattle.wy_layout.proofs.WordCases.{word_text, word_number, word_name, word_symbol}
use Rattle.wy_layout.proofs.words.word.Goals as goal

pub returns-then-first-eq34 : goal.returns-then-first-eq34
returns-then-first-eq34 c = subst (λ (x : Read). GivesWord c.text.result x) (sym (word_text c.args.from.now c.if-first-eq34.true)) c.text.ensures

pub returns-then-is_ascii_digit : goal.returns-then-is_ascii_digit
returns-then-is_ascii_digit c = subst (λ (x : Read). GivesWord c.number.result x) (sym (word_number c.args.from.now c.if-first-eq34.false (sym c.is_ascii_digit.ensures.value ∙ c.if-is_ascii_digit.true))) c.number.ensures

pub returns-then-starts : goal.returns-then-starts
returns-then-starts c = subst (λ (x : Read). GivesWord c.name.result x) (sym (word_name c.args.from.now c.if-first-eq34.false (sym c.is_ascii_digit.ensures.value ∙ c.if-is_ascii_digit.false) (sym c.starts.ensures ∙ c.if-starts.true))) c.name.ensures

pub returns : goal.returns
returns c = subst (λ (x : Read). GivesWord c.symbol.result x) (sym (word_symbol c.args.from.now c.if-first-eq34.false (sym c.is_ascii_digit.ensures.value ∙ c.if-is_ascii_digit.false) (sym c.starts.ensures ∙ c.if-starts.false))) c.symbol.ensures
