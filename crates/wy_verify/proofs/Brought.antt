-- What a jump brings to its target.
use Rattle.std.proofs.Common.{◌≡◌, ℕ, ◌≤◌, Bool, List, length, refl, sym, subst, Option, Some, None}
use Rattle.std.specs.Prelude.{IsTrue, ◌↔◌}
use Rattle.wy_code.specs.declared.instruction.Instruction.{Instruction}
use Rattle.wy_code.specs.declared.instruction.Instruction.TheVariants.{Jump, JumpFalse}
use Rattle.wy_image.specs.declared.typing.Target.{Target}
use Rattle.wy_verified.specs.declared.known.Jumped.{Jumped}
use Rattle.wy_verified.specs.declared.known.Known.{Known}
use Rattle.wy_verified.specs.Passing.{set_at}
use Rattle.wy_verified.specs.Walking.{MeetsState, MeetsTypes, target_in}
use Rattle.wy_verify.specs.Sites.{Site}
use Rattle.wy_verify.specs.Turns.{MeetsTarget, IsSameSet, BringsTo, BringsTypes, IsStateHere, IsInState, IsBroughtInTypes, MeetsTargetTypes, popped_at, without_top}

module _ (s : Site) (known : Known) where
  abbrev Meets : ℕ → Option Target → Type 0
  Meets count o = MeetsState s.image s.x s.owner s.body s.bounds s.held (without_top count known) o

  pub brings_if : (js : List Jumped) (count to : ℕ) (t : Target) (noted : Option ℕ) (b : Bool) →
      Some t ≡ target_in to s.bounds.targets → noted ≡ set_at to js →
      (IsTrue b ↔ (MeetsTarget s known count t × IsSameSet s known.set noted)) → (IsTrue b ↔ BringsTo s known js count to)
  brings_if js count to t noted b e f h =
      subst (λ (o : Option Target). IsTrue b ↔ (Meets count o × IsSameSet s known.set (set_at to js))) e
      (subst (λ n. IsTrue b ↔ (Meets count (Some t) × IsSameSet s known.set n)) f h)

  pub brings_none : (js : List Jumped) (count to : ℕ) (noted : Option ℕ) (b : Bool) →
      None ≡ target_in to s.bounds.targets → noted ≡ set_at to js →
      (IsTrue b ↔ IsSameSet s known.set noted) → (IsTrue b ↔ BringsTo s known js count to)
  brings_none js count to noted b e f h =
      subst (λ (o : Option Target). IsTrue b ↔ (Meets count o × IsSameSet s known.set (set_at to js))) e
      (subst (λ n. IsTrue b ↔ (Meets count None × IsSameSet s known.set n)) f ((λ t. (tt, h.0 t)), (λ q. h.1 q.1)))

  pub state_jump : (js : List Jumped) (to : ℕ) (i : Instruction) (b : Bool) → i ≡ Jump to →
      popped_at s i ≤ length known.operands → IsInState s known i → (IsTrue b ↔ BringsTo s known js 0 to) →
      (IsTrue b ↔ IsStateHere s known js i)
  state_jump js to i b e few st h = (
    (λ t. (
      few,
      st,
      subst (λ i. Rattle.wy_verified.specs.Visiting.JumpsInState s.image s.x s.owner s.body s.bounds s.held
          known js i) (sym e) (λ n f. subst (λ n. Meets 0 (target_in n s.bounds.targets) × IsSameSet s known.set (set_at n js)) f
          (h.0 t)),
    )),
    (λ q. h.1 ((subst (λ i. Rattle.wy_verified.specs.Visiting.JumpsInState s.image s.x s.owner s.body s.bounds s.held
        known js i) e q.2) to refl)),
  )

  pub state_jump_false : (js : List Jumped) (to : ℕ) (i : Instruction) (b : Bool) → i ≡ JumpFalse to →
      popped_at s i ≤ length known.operands → IsInState s known i → (IsTrue b ↔ BringsTo s known js 1 to) →
      (IsTrue b ↔ IsStateHere s known js i)
  state_jump_false js to i b e few st h = (
    (λ t. (
      few,
      st,
      subst (λ i. Rattle.wy_verified.specs.Visiting.JumpsInState s.image s.x s.owner s.body s.bounds s.held
          known js i) (sym e) (λ n f. subst (λ n. Meets 1 (target_in n s.bounds.targets) × IsSameSet s known.set (set_at n js)) f
          (h.0 t)),
    )),
    (λ q. h.1 ((subst (λ i. Rattle.wy_verified.specs.Visiting.JumpsInState s.image s.x s.owner s.body s.bounds s.held
        known js i) e q.2) to refl)),
  )

  abbrev Types : ℕ → Option Target → Type 0
  Types count o = MeetsTypes s.image s.x s.owner s.body s.bounds s.held (without_top count known) o

  pub types_if : (count to : ℕ) (t : Target) → Some t ≡ target_in to s.bounds.targets →
      (MeetsTargetTypes s known count t ↔ BringsTypes s known count to)
  types_if count to t e = ((λ h. subst (λ (o : Option Target). Types count o) e h), (λ h. subst (λ (o : Option Target). Types count o) (sym e) h))

  pub types_none : (count to : ℕ) → None ≡ target_in to s.bounds.targets → BringsTypes s known count to
  types_none count to e = subst (λ (o : Option Target). Types count o) e tt

  pub types_jump : (to : ℕ) (i : Instruction) → i ≡ Jump to → (BringsTypes s known 0 to ↔ IsBroughtInTypes s known i)
  types_jump to i e = (
    (λ h. subst (λ i. IsBroughtInTypes s known i) (sym e)
        (λ n f. subst (λ n. Types 0 (target_in n s.bounds.targets)) f h)),
    (λ h. (subst (λ i. IsBroughtInTypes s known i) e h) to refl),
  )

  pub types_jump_false : (to : ℕ) (i : Instruction) → i ≡ JumpFalse to →
      (BringsTypes s known 1 to ↔ IsBroughtInTypes s known i)
  types_jump_false to i e = (
    (λ h. subst (λ i. IsBroughtInTypes s known i) (sym e)
        (λ n f. subst (λ n. Types 1 (target_in n s.bounds.targets)) f h)),
    (λ h. (subst (λ i. IsBroughtInTypes s known i) e h) to refl),
  )
