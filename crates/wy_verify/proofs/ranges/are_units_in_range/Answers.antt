use Rattle.std.proofs.Common.{◌↔◌, IsTrue, ℕ, List, subst, ◌≡◌, Some, map}
use Rattle.std.specs.Prelude.{slice_get, codes, ◌∷◌}
use Rattle.wy_text.specs.Members.{Apart}
use Rattle.wy_image.specs.declared.file.Instance.{Instance}
use Rattle.wy_verified.specs.Ranges.{InstanceInRange}
use Rattle.wy_verify.proofs.RangeWhole.{units_of}
use Rattle.wy_verify.proofs.RangeTests.{refuted}
use Rattle.wy_verify.proofs.RangeJoins.{ok_reworded}
use Rattle.wy_verify.proofs.ranges.are_units_in_range.Goals as goal

pub returns-then-not-named : goal.returns-then-not-named
returns-then-not-named c =
    refuted c.in_ok-named.named c.if-not-named.true
    (subst (λ (l : List Instance). IsTrue c.in_ok-named.named ↔ Apart (codes "main" ∷ map (λ (i : Instance). i.name) l)) c.as_slice-instances.ensures c.in_ok-named.ensures)
    (λ h. h.names)

pub returns-then-not-all : goal.returns-then-not-all
returns-then-not-all c =
    refuted c.in_ok-all.all c.if-not-all.true
    (subst (λ (l : List Instance). IsTrue c.in_ok-all.all ↔ ((x : ℕ) (i : Instance) → slice_get l x ≡ Some i → InstanceInRange c.args.file.now x i)) c.as_slice-instances.ensures c.in_ok-all.ensures)
    (λ h. h.instances)

pub returns : goal.returns
returns c =
    ok_reworded c.is_main.result
    (c.is_main.ensures)
    (λ p. units_of c.args.file.now ((subst (λ (l : List Instance). IsTrue c.in_ok-named.named ↔ Apart (codes "main" ∷ map (λ (i : Instance). i.name) l)) c.as_slice-instances.ensures c.in_ok-named.ensures).0 c.if-not-named.false) ((subst (λ (l : List Instance). IsTrue c.in_ok-all.all ↔ ((x : ℕ) (i : Instance) → slice_get l x ≡ Some i → InstanceInRange c.args.file.now x i)) c.as_slice-instances.ensures c.in_ok-all.ensures).0 c.if-not-all.false) p)
    (λ h. h.main)
