use Rattle.std.proofs.Common.{◌≡◌, ◌≢◌, refl}
use Rattle.wy_machine.specs.declared.run_end.RunEnd.{RunEnd}
use Rattle.wy_engine.specs.Running.{behind, observed}
use Rattle.wy_engine.specs.declared.status.Status.{Status}
use Rattle.wy_engine.specs.declared.status.Status.TheVariants as status
use Rattle.wy_engine.proofs.running.write_used.Goals as goal

-- another status of the write than Ended is the status of it all
behind_other : (wrote : Status) (run : RunEnd) → wrote ≢ status.Ended → wrote ≡ behind wrote run
behind_other status.Ended run other = absurd (other refl)
behind_other status.Usage run other = refl
behind_other (status.Unread file) run other = refl
behind_other (status.Syntax place kind) run other = refl
behind_other (status.Refused fault) run other = refl
behind_other (status.Limit name) run other = refl
behind_other (status.Trap kind place) run other = refl
behind_other status.TooDeep run other = refl
behind_other status.Spent run other = refl
behind_other (status.DeviceFailed grant op) run other = refl
behind_other status.Unwritten run other = refl
behind_other status.Memory run other = refl
behind_other (status.BadCert at) run other = refl
behind_other (status.Unproved scope test index) run other = refl
behind_other (status.Denied line instance atom) run other = refl
behind_other (status.BadPolicy line) run other = refl

pub returns-in-Ended : goal.returns-in-Ended
returns-in-Ended g c = observed c.in_default.not-Memory status.Ended (rw (c.as_bytes.ensures, c.in-Ok.ensures) at c.in-Ended.ensures) c.status_of-in-Ended.ensures

pub returns-in_default-write_out : goal.returns-in_default-write_out
returns-in_default-write_out g c =
    observed c.in_default.not-Memory c.write_out.result (rw (c.as_bytes.ensures, c.in-Ok.ensures) at c.write_out.ensures) (behind_other c.write_out.result c.args.end c.in_default-write_out.not-Ended)
