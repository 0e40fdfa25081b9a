use Rattle.std.proofs.Common.{◌↔◌, IsTrue, ℕ, List, subst, ◌<◌, ◌∙◌, map}
use Rattle.wy_image.specs.declared.file.Entry.{Entry}
use Rattle.wy_text.specs.Members.{In, Apart}
use Rattle.wy_verify.proofs.RangeWhole.{entries_of, entries_below}
use Rattle.wy_verify.proofs.RangeTests.{refuted, reworded}
use Rattle.wy_verify.proofs.ranges.scopes.are_entries.Goals as goal

pub returns-then-not-apart : goal.returns-then-not-apart
returns-then-not-apart c =
    refuted c.in_ok-apart.apart c.if-not-apart.true
    (subst (λ (l : List ℕ). IsTrue c.in_ok-apart.apart ↔ Apart l) (c.as_slice.ensures.value ∙ c.in_ok-names.ensures) c.in_ok-apart.ensures)
    (λ h. h.apart)

pub returns : goal.returns
returns c =
    reworded c.are_below.result
    (subst (λ (k : ℕ). IsTrue c.are_below.result ↔ ((n : ℕ) → In n (map (λ (m : Entry). m.method) c.args.entries.now) → n < k)) c.len.ensures
    (subst (λ (l : List ℕ). IsTrue c.are_below.result ↔ ((n : ℕ) → In n l → n < c.len.result)) (c.as_slice-2.ensures.value ∙ c.in_ok-names.ensures) c.are_below.ensures))
    (λ p. entries_of c.args.file.now c.args.entries.now ((subst (λ (l : List ℕ). IsTrue c.in_ok-apart.apart ↔ Apart l) (c.as_slice.ensures.value ∙ c.in_ok-names.ensures) c.in_ok-apart.ensures).0 c.if-not-apart.false) p)
    (entries_below c.args.file.now c.args.entries.now)
