-- V-Flow at a jump.
use Rattle.std.proofs.Common.{◌≡◌, ℕ, suc, ◌+◌, Bool, List, length, get_or, inl, inr, sym, ap, ◌∙◌, arith, Option, Some, None}
use Rattle.std.specs.Prelude.{if◌then◌else◌, IsTrue, ◌↔◌}
use Rattle.std.proofs.lemmas.Bool.{eq-eqb}
use Rattle.wy_code.specs.declared.instruction.Instruction.TheVariants.{Jump}
use Rattle.wy_verified.specs.declared.known.Jumped.{Jumped}
use Rattle.wy_verified.specs.declared.known.Known.{Known}
use Rattle.wy_verified.specs.Passing.{set_at}
use Rattle.wy_verify.specs.Sites.{Site, AreNoted, IsNoted}
use Rattle.wy_verify.specs.Turns.{IsFlow, IsForward, IsEnd}

-- a jump has led to the next place, which is not the end
pub end_if : (s : Site) (sets : List (Option ℕ)) (js : List Jumped) (at : ℕ) (b : Bool) → AreNoted sets js →
    (suc at ≡ length s.body.instructions → ⊥) → (IsTrue b ↔ IsNoted sets (at + 1)) → (IsTrue b ↔ IsEnd s at js)
end_if s sets js at b are never h =
    let z : at + 1 ≡ suc at = omega arith in
    let n : get_or sets (at + 1) None ≡ set_at (suc at) js = are (at + 1) ∙ ap (λ t. set_at t js) z in (
      (λ t. let g = h.0 t in inr (g.0, sym n ∙ g.1)),
      (λ e. elim e [ inl f ↦ absurd (never f) | inr g ↦ h.1 (g.0, n ∙ g.1) ]),
    )

-- a jump to the very next place
pub jump_to_next : (s : Site) (at to : ℕ) (known : Known) (js : List Jumped) → IsForward s at to → to ≡ at + 1 →
    IsFlow s at known js (Jump to)
jump_to_next s at to known js h e =
    let z : to ≡ suc at = omega (arith, e) in
    (h, inr (known.set, ap (λ c. if c then Some known.set else set_at (suc at) js) (eq-eqb to (suc at) z)))
