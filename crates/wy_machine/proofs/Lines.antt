-- The lines of events, and what of them was written.
use Rattle.std.proofs.Common.{◌≡◌, ◌<◌, ℕ, ◌+◌, List, [], ◌∷◌, ◌++◌, length, Result, Ok, Err, refl, sym, ap, ◌∙◌, subst, arith, append_assoc, append-nil, codes}
use Rattle.std.specs.Prelude.{IsErrAnd}
use Rattle.std.proofs.lemmas.List.{length-append}
use Rattle.wy_text.specs.Outside.{SinkState, gained}
use Rattle.wy_text.specs.Writing.{WritesUpTo, StopsShort}
use Rattle.wy_text.proofs.Gains.{gained-nil, gained-gained}
use Rattle.wy_device.specs.declared.deed.Event.{Event}
use Rattle.wy_device.specs.Events.{deeds_of}
use Rattle.wy_meaning.specs.EventLines.{event_line, event_lines, event_text}
use Rattle.wy_machine.specs.declared.run_end.RunEnd.{RunEnd}
use Rattle.wy_machine.specs.declared.run_end.RunEnd.TheVariants.{Memory}
use Rattle.wy_machine.specs.Steps.{AreQuiet}
use Rattle.wy_machine.specs.Traces.{WroteAll, WroteSome, Wrote}
use Rattle.wy_machine.proofs.Leading.{deeds_of-append}
use Rattle.wy_machine.proofs.Quiet.{no_events}

lines-append : (es fs : List Event) → event_lines (es ++ fs) ≡ event_lines es ++ event_lines fs
lines-append [] fs = refl
lines-append (e ∷ es) fs = ap (λ l. event_line e ++ l) (lines-append es fs) ∙ sym (append_assoc (event_line e) (event_lines es) (event_lines fs))

line_some : (e : Event) → 0 < length (event_line e)
line_some e = let size : length (event_line e) ≡ length (event_text e) + 1 = length-append (event_text e) (codes "\n") in omega (arith, size)

quiet_after : (es fs : List Event) → AreQuiet es → AreQuiet fs → AreQuiet (es ++ fs)
quiet_after es fs p q = record { none = λ kind. deeds_of-append kind es fs ∙ ap (λ ds. ds ++ deeds_of kind fs) (p.none kind) ∙ q.none kind }

------------------------------------------------------------
-- One line

pub wrote_line : (e : Event) (text : List ℕ) (a b : SinkState) → text ≡ event_line e → WritesUpTo text [] a b → WroteAll (e ∷ []) a b
wrote_line e text a b is h =
    h.taken ∙ ap (gained a.taken) (sym (append-nil h.front) ∙ sym h.split ∙ is ∙ sym (append-nil (event_line e)))

pub wrote_part : (e : Event) (text : List ℕ) (a b : SinkState) → text ≡ event_line e → StopsShort text a b → WroteSome (e ∷ []) a b
wrote_part e text a b is h = record {
  whole = [];
  event = e;
  later = [];
  split = refl;
  quiet = no_events;
  part = h.written.front;
  cut = h.rest;
  line = sym is ∙ h.written.split;
  short = h.some;
  taken = h.written.taken;
}

------------------------------------------------------------
-- Many lines

pub wrote_none : (a : SinkState) → WroteAll [] a a
wrote_none a = sym (gained-nil a.taken)

pub wrote_after : (es fs : List Event) (a b c : SinkState) → WroteAll es a b → WroteAll fs b c → WroteAll (es ++ fs) a c
wrote_after es fs a b c p q =
    q ∙ ap (λ x. gained x (event_lines fs)) p ∙ gained-gained a.taken (event_lines es) (event_lines fs) ∙ ap (gained a.taken) (sym (lines-append es fs))

pub some_after : (es fs : List Event) (a b c : SinkState) → WroteAll es a b → WroteSome fs b c → WroteSome (es ++ fs) a c
some_after es fs a b c p h = record {
  whole = es ++ h.whole;
  event = h.event;
  later = h.later;
  split = ap (λ l. es ++ l) h.split ∙ sym (append_assoc es h.whole (h.event ∷ h.later));
  quiet = h.quiet;
  part = h.part;
  cut = h.cut;
  line = h.line;
  short = h.short;
  taken = h.taken
      ∙ ap (λ x. gained x (event_lines h.whole ++ h.part)) p
      ∙ gained-gained a.taken (event_lines es) (event_lines h.whole ++ h.part)
      ∙ ap (gained a.taken) (sym (append_assoc (event_lines es) (event_lines h.whole) h.part) ∙ ap (λ l. l ++ h.part) (sym (lines-append es h.whole)));
}

-- the lines of the events after the one that was cut lack too
pub some_before : (es fs : List Event) (a b : SinkState) → AreQuiet fs → WroteSome es a b → WroteSome (es ++ fs) a b
some_before es fs a b q h = record {
  whole = h.whole;
  event = h.event;
  later = h.later ++ fs;
  split = ap (λ l. l ++ fs) h.split ∙ append_assoc h.whole (h.event ∷ h.later) fs;
  quiet = quiet_after h.later fs h.quiet q;
  part = h.part;
  cut = h.cut;
  line = h.line;
  short = h.short;
  taken = h.taken;
}

-- nothing was written
pub none_of : (e : Event) (es : List Event) (a b : SinkState) → AreQuiet es → WroteAll [] a b → WroteSome (e ∷ es) a b
none_of e es a b q none = record {
  whole = [];
  event = e;
  later = es;
  split = refl;
  quiet = q;
  part = [];
  cut = event_line e;
  line = refl;
  short = line_some e;
  taken = none;
}

-- memory was wanting before anything was written
pub starved : (e : Event) (a : SinkState) (r : Result (Unit {0}) RunEnd) → IsErrAnd r (λ e. e ≡ Memory) → Wrote (e ∷ []) a a r
starved e a (Ok u) h = absurd h
starved e a (Err end) h = subst (λ end. Wrote (e ∷ []) a a (Err end)) (sym h) (none_of e [] a a no_events (wrote_none a))
