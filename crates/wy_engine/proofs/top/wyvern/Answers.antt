use Rattle.std.proofs.Common.{refl}
use Rattle.wy_engine.proofs.Settling.{refused_call}
use Rattle.wy_engine.proofs.top.wyvern.Goals as goal

pub returns-in-Err : goal.returns-in-Err
returns-in-Err g c = refused_call _ c.in-Err.refusal c.in-Err.ensures.usage refl refl refl (rw (← c.no_words.ensures, c.status_of.ensures) at c.close-in-Err.ensures)
