-- What a call promises that wrote a text to `out`, or a part of it.
use Rattle.std.proofs.Common.{◌≡◌, ℕ, List, [], refl, sym, ◌∙◌, subst}
use Rattle.wy_engine.specs.Headline.{HasCommand, Writes}
use Rattle.wy_engine.specs.Status.{IsOfOut}
use Rattle.wy_engine.specs.TopCall.{TopCall}
use Rattle.wy_engine.specs.Writing.{Wrote, cut, starved, whole}
use Rattle.wy_settings.specs.declared.command_line.Command.{Command}
use Rattle.wy_engine.specs.declared.status.Status.TheVariants as status

pub writes_by : (call : TopCall) (command : Command) (text : List ℕ) → HasCommand call command → call.report_after ≡ call.report → call.devices_after ≡ call.devices
    → Wrote text call.out call.out_after call.status → Writes call command text
writes_by call command text asked report devices (whole written is) = record {
  asked = asked;
  reached = subst IsOfOut (sym is) tt;
  front = written.front;
  rest = [];
  split = written.split;
  taken = written.taken;
  whole = λ _. refl;
  proper = λ other. let q : status.Ended ≡ status.Unwritten = sym is ∙ other in absurd (cc);
  report = report;
  devices = devices;
}
writes_by call command text asked report devices (cut short rose is) = record {
  asked = asked;
  reached = subst IsOfOut (sym is) tt;
  front = short.written.front;
  rest = short.rest;
  split = short.written.split;
  taken = short.written.taken;
  whole = λ other. let q : status.Unwritten ≡ status.Ended = sym is ∙ other in absurd (cc);
  proper = λ _. (short.some, rose);
  report = report;
  devices = devices;
}
writes_by call command text asked report devices (starved rest written is) = record {
  asked = asked;
  reached = subst IsOfOut (sym is) tt;
  front = written.front;
  rest = rest;
  split = written.split;
  taken = written.taken;
  whole = λ other. let q : status.Memory ≡ status.Ended = sym is ∙ other in absurd (cc);
  proper = λ other. let q : status.Memory ≡ status.Unwritten = sym is ∙ other in absurd (cc);
  report = report;
  devices = devices;
}
