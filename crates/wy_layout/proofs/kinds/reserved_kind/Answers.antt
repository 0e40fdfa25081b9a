use Rattle.std.proofs.Common.{◌∙◌, sym}
use Rattle.wy_layout.proofs.Tables.{sized}
use Rattle.wy_layout.proofs.kinds.reserved_kind.Goals as goal

pub returns-in-2 : goal.returns-in-2
returns-in-2 c = c.of_two.ensures ∙ sym (sized c.args.word.now 2 c.in-2.is)

pub returns-in-3 : goal.returns-in-3
returns-in-3 c = c.of_three.ensures ∙ sym (sized c.args.word.now 3 c.in-3.is)

pub returns-in-4 : goal.returns-in-4
returns-in-4 c = c.of_four.ensures ∙ sym (sized c.args.word.now 4 c.in-4.is)

pub returns-in-5 : goal.returns-in-5
returns-in-5 c = c.of_five.ensures ∙ sym (sized c.args.word.now 5 c.in-5.is)

pub returns-in-6 : goal.returns-in-6
returns-in-6 c = c.of_six.ensures ∙ sym (sized c.args.word.now 6 c.in-6.is)

pub returns-in-7 : goal.returns-in-7
returns-in-7 c = c.of_seven.ensures ∙ sym (sized c.args.word.now 7 c.in-7.is)

pub returns-in-8 : goal.returns-in-8
returns-in-8 c = c.of_eight.ensures ∙ sym (sized c.args.word.now 8 c.in-8.is)

pub returns-in-9 : goal.returns-in-9
returns-in-9 c = c.of_nine.ensures ∙ sym (sized c.args.word.now 9 c.in-9.is)
