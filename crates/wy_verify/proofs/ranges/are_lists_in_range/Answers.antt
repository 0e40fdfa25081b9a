use Rattle.std.proofs.Common.{◌↔◌, IsTrue, ℕ, List, subst, map}
use Rattle.wy_text.specs.Members.{In, Apart}
use Rattle.wy_image.specs.declared.file.Grant.{Grant}
use Rattle.wy_verified.specs.Ranges.{IsGrantName}
use Rattle.wy_verify.proofs.RangeWhole.{lists_of}
use Rattle.wy_verify.proofs.RangeTests.{refuted}
use Rattle.wy_verify.proofs.RangeJoins.{ok_reworded}
use Rattle.wy_verify.proofs.ranges.are_lists_in_range.Goals as goal

pub returns-then-not-are_limits_kept : goal.returns-then-not-are_limits_kept
returns-then-not-are_limits_kept c =
    refuted c.are_limits_kept.result c.if-not-are_limits_kept.true
    (c.are_limits_kept.ensures)
    (λ h. h.limits)

pub returns-then-not-have_grant_names : goal.returns-then-not-have_grant_names
returns-then-not-have_grant_names c =
    refuted c.have_grant_names.result c.if-not-have_grant_names.true
    (subst (λ (l : List Grant). IsTrue c.have_grant_names.result ↔ ((g : Grant) → In g l → IsGrantName g.name)) c.as_slice-grants.ensures c.have_grant_names.ensures)
    (λ h. h.grant_names)

pub returns-then-not-apart : goal.returns-then-not-apart
returns-then-not-apart c =
    refuted c.in_ok-apart.apart c.if-not-apart.true
    (subst (λ (l : List Grant). IsTrue c.in_ok-apart.apart ↔ Apart (map (λ (g : Grant). g.name) l)) c.as_slice-grants.ensures c.in_ok-apart.ensures)
    (λ h. h.grants)

pub returns-then-not-named : goal.returns-then-not-named
returns-then-not-named c =
    refuted c.in_ok-named.named c.if-not-named.true
    (subst (λ (l : List (List ℕ)). IsTrue c.in_ok-named.named ↔ Apart l) c.as_slice-methods.ensures c.in_ok-named.ensures)
    (λ h. h.methods)

pub returns : goal.returns
returns c =
    ok_reworded c.are_parts_in_range.result
    (c.are_parts_in_range.ensures)
    (λ p. lists_of c.args.file.now ((c.are_limits_kept.ensures).0 c.if-not-are_limits_kept.false) ((subst (λ (l : List Grant). IsTrue c.have_grant_names.result ↔ ((g : Grant) → In g l → IsGrantName g.name)) c.as_slice-grants.ensures c.have_grant_names.ensures).0 c.if-not-have_grant_names.false) ((subst (λ (l : List Grant). IsTrue c.in_ok-apart.apart ↔ Apart (map (λ (g : Grant). g.name) l)) c.as_slice-grants.ensures c.in_ok-apart.ensures).0 c.if-not-apart.false) ((subst (λ (l : List (List ℕ)). IsTrue c.in_ok-named.named ↔ Apart l) c.as_slice-methods.ensures c.in_ok-named.ensures).0 c.if-not-named.false) p)
    (λ h. h.parts)
