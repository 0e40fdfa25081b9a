use Rattle.wy_machine.proofs.performing.receive.Goals as goal

pub returns : goal.returns
returns c = record { word = c.in-Some.word; given = c.in-Some.ensures.word; stack = c.give.ensures; store = c.in-Some.ensures.kept }
