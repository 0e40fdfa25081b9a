use Rattle.std.proofs.Common.{refl, subst}
use Rattle.wy_text.proofs.Gains.{wrote_nothing}
use Rattle.wy_types.specs.Program.{program_of}
use Rattle.wy_authority.specs.declared.rows.Authority.{Authority}
use Rattle.wy_authority.specs.Report.{report_text}
use Rattle.wy_engine.specs.Answering.{accepted, fails}
use Rattle.wy_engine.specs.Writing.{Wrote, starved}
use Rattle.wy_engine.proofs.checking.report_trees.Goals as goal

pub returns-in-Err : goal.returns-in-Err
returns-in-Err g c = fails c.in-Err.ensures.fails refl

pub returns-in_default : goal.returns-in_default
returns-in_default g c = accepted (program_of c.in-Ok.accepted.core) c.in-Ok.ensures.resolved c.in-Ok.ensures.accepted.accepted (starved _ (wrote_nothing _ _) refl)

pub returns : goal.returns
returns g c =
    let P : Authority → Type 0 = λ a. Wrote (report_text a) (g.O.Sink.state c.args.out.now) (g.O.Sink.state c.write_report_out.new.out) c.write_report_out.result in
    accepted (program_of c.in-Ok.accepted.core) c.in-Ok.ensures.resolved c.in-Ok.ensures.accepted.accepted (subst P c.in-Ok-authority_of.ensures c.write_report_out.ensures)
