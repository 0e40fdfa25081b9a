-- The states of a walk are determined: two walks agree at each place that both have. So a body does not both walk and
-- fail, and it fails
-- first at one place.
use Rattle.std.proofs.Common.{◌⊎◌, ◌≡◌, ℕ, zero, suc, ◌<◌, ◌≤◌, List, length, inl, inr, refl, sym, ap, ◌∙◌, subst, Some}
use Rattle.std.proofs.Common.{arith}
use Rattle.std.specs.Prelude.{slice_get}
use Rattle.wy_code.specs.declared.code.Body.{Body}
use Rattle.wy_code.specs.declared.instruction.Instruction.{Instruction}
use Rattle.wy_code.specs.declared.instruction.Instruction.TheVariants.{Push, Load, Store, Get, Set, Drop, Op, Jump}
use Rattle.wy_code.specs.declared.instruction.Instruction.TheVariants.{JumpFalse, New, Call, Return, Finish}
use Rattle.wy_code.specs.declared.instruction.Placed.{Placed}
use Rattle.wy_image.specs.declared.typing.Bounds.{Bounds}
use Rattle.wy_verified.specs.Images.{Image}
use Rattle.wy_verified.specs.Rules.{Known, Owner, at_first}
use Rattle.wy_verified.specs.Walking.{VerifyRule, Flow, Leads, FallsThrough, FlowOk, EndsWell, after, known_there}
use Rattle.wy_verified.specs.Walking.{target_in, Holds, Walks, BodyWalks, FailsFirst}
use Rattle.std.proofs.lemmas.Option.{slice_get_within}
use Rattle.wy_verified.proofs.Lists.{some_same, read_there}

module _ (image : Image) (x : ℕ) (owner : Owner) (body : Body) (bounds : Bounds) (held : ℕ) where
  abbrev WalksTo : List Known → ℕ → Type 0
  WalksTo states at =
      (j : ℕ) (placed : Placed) (known : Known) → j < at → slice_get body.instructions j ≡ Some placed →
      slice_get states j ≡ Some known →
      Walks image x owner body bounds held states j known placed.instruction

  -- from a place of which all rules hold, the next place is reached from it or from an earlier one, or it is the end
  falls_or_ends : (at : ℕ) (i : Instruction) → FlowOk image x owner body bounds held at i →
      FallsThrough image x owner body bounds held i ⊎ EndsWell image x owner body bounds held at
  falls_or_ends at (Push c) h = inl tt
  falls_or_ends at (Load s) h = inl tt
  falls_or_ends at (Store s) h = inl tt
  falls_or_ends at (Get i) h = inl tt
  falls_or_ends at (Set i) h = inl tt
  falls_or_ends at Drop h = inl tt
  falls_or_ends at (Op o) h = inl tt
  falls_or_ends at (Jump to) h = inr h.1
  falls_or_ends at (JumpFalse to) h = inl tt
  falls_or_ends at (New l) h = inl tt
  falls_or_ends at (Call m n) h = inl tt
  falls_or_ends at Return h = inr h.1
  falls_or_ends at Finish h = inr h.1

  module _ (s r : List Known) (at : ℕ) (ws : WalksTo s at) (wr : WalksTo r at) (s0 : slice_get s 0 ≡ Some at_first)
      (r0 : slice_get r 0 ≡ Some at_first) where
    abbrev AgreeAt : ℕ → Type 0
    AgreeAt j = (k l : Known) → slice_get s j ≡ Some k → slice_get r j ≡ Some l → k ≡ l

    -- both lead to a place from the same one
    led : (j to : ℕ) (p : Placed) → j < to → to ≤ at → AgreeAt j → slice_get body.instructions j ≡ Some p →
        Leads image x owner body bounds held j p.instruction to → AgreeAt to
    led j to p lt le agree there leads k l ks lr =
        let a = read_there s j (let h = slice_get_within s to k ks in omega (arith, h, lt)) in
        let b = read_there r j (let h = slice_get_within r to l lr in omega (arith, h, lt)) in
        let same : a.0 ≡ b.0 = agree a.0 b.0 a.1 b.1 in
        let from_s = (ws j p a.0 (omega arith) there a.1).leads to leads in
        let from_r = (wr j p b.0 (omega arith) there b.1).leads to leads in
        some_same (sym ks ∙ from_s ∙ ap (λ (q : Known). Some
        (known_there image x owner body bounds held (target_in to bounds.targets)
        (after image x owner body bounds held q p.instruction))) same ∙
        sym from_r ∙ lr)

    agree_below : (n j : ℕ) → j < n → j ≤ at → j < length body.instructions → AgreeAt j
    agree_below zero j lt le within k l ks lr = absurd (omega arith)
    agree_below (suc n) zero lt le within k l ks lr = some_same (sym ks ∙ s0 ∙ sym r0 ∙ lr)
    agree_below (suc n) (suc j) lt le within k l ks lr =
        let p = read_there body.instructions j (omega (arith, within)) in
        let a = read_there s j (let h = slice_get_within s (suc j) k ks in omega (arith, h)) in
        elim (falls_or_ends j p.0.instruction ((ws j p.0 a.0 (omega arith) p.1 a.1).rules Flow)) [
          | inl falls ↦ led j (suc j) p.0 (omega arith) le (agree_below n j (omega arith) (omega arith) (omega arith))
              p.1 (inl (falls, refl)) k l ks lr
          | inr ends ↦ elim ends [
            | inl e ↦ absurd (omega (arith, e, within))
            | inr jump ↦ led jump.0 (suc j) jump.1 (let h = jump.2 in omega (arith, h)) le
                (agree_below n jump.0 (let h = jump.2 in omega (arith, h)) (let h = jump.2 in omega (arith, h))
                (let h = jump.2 in omega (arith, h))) jump.3 (inr jump.4) k l ks lr
          ]
        ]

  -- a body that walks fails nowhere
  pub walks_or_fails : BodyWalks image x owner body bounds held → (rule : VerifyRule) (at : ℕ) →
      FailsFirst image x owner body bounds held rule at → ⊥
  walks_or_fails w rule at f =
      let within = slice_get_within body.instructions at f.placed f.there in
      let k = read_there w.states at (let l = w.long in omega (arith, l, within)) in
      let same : k.0 ≡ f.known =
      agree_below w.states f.states at (λ j p known lt. w.each j p known) f.earlier w.first f.first (suc at) at
      (omega arith) (omega arith) within k.0 f.known k.1 f.known_is in
      f.fails (subst (λ (known : Known). Holds image x owner body bounds held rule at known f.placed.instruction) same
      ((w.each at f.placed k.0 f.there k.1).rules rule))

  -- a body fails first at one place
  earlier_fails : (rule other : VerifyRule) (at to : ℕ) → FailsFirst image x owner body bounds held rule at →
      FailsFirst image x owner body bounds held other to → at < to → ⊥
  earlier_fails rule other at to f g lt =
      let within = slice_get_within body.instructions at f.placed f.there in
      let k = read_there g.states at (let h = slice_get_within g.states to g.known g.known_is in omega (arith, h, lt)) in
      let same : k.0 ≡ f.known =
      agree_below g.states f.states at (λ j p known l. g.earlier j p known (omega (arith, l, lt))) f.earlier g.first
      f.first (suc at) at (omega arith) (omega arith) within
      k.0 f.known k.1 f.known_is in
      f.fails (subst (λ (known : Known). Holds image x owner body bounds held rule at known f.placed.instruction) same
      ((g.earlier at f.placed k.0 lt f.there k.1).rules rule))

  pub one_place : (rule other : VerifyRule) (at to : ℕ) → FailsFirst image x owner body bounds held rule at →
      FailsFirst image x owner body bounds held other to → at ≡ to
  one_place rule other at to f g =
      elim (cases at to) [
        | inl e ↦ e
        | inr h ↦ elim h [
          | inl lt ↦ absurd (earlier_fails rule other at to f g lt)
          | inr lt ↦ absurd
              (earlier_fails other rule to at g f lt)
        ]
      ]
    where
      cases : (a b : ℕ) → (a ≡ b) ⊎ (a < b) ⊎ (b < a)
      cases a b = grind arith
