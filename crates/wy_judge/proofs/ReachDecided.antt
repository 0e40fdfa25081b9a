-- A scope reaches too many types or it does not: its types are listed one after another until there is none left, or too many.
use Rattle.std.proofs.Common.{◌≡◌, ℕ, zero, suc, ◌+◌, ◌<◌, ◌≤◌, List, [], ◌∷◌, ◌++◌, ◌⊎◌, inl, inr, length, get_or, refl, Ok, arith}
use Rattle.std.specs.Prelude.{slice_get}
use Rattle.std.proofs.lemmas.Bool.{cases_lt}
use Rattle.wy_text.specs.declared.limit.LimitName.TheVariants.{ReachedTypes}
use Rattle.wy_text.specs.Members.{Apart}
use Rattle.wy_effects.proofs.Closure.{in_decided}
use Rattle.wy_types.specs.declared.types.TypeRef.{TypeRef}
use Rattle.wy_types.specs.declared.types.TypeRef.TheVariants.{Int, Bool, Text, Unit as Nothing, Named, At, Own}
use Rattle.wy_types.specs.declared.reach.ReachRefusal.TheVariants.{Limit}
use Rattle.wy_types.specs.Gathering.{IsGathered, IsCrowd}
use Rattle.wy_types.specs.Program.{Program}
use Rattle.wy_types.specs.Reached.{scope_first_types, Reach}
use Rattle.wy_types.specs.Signature.{signature_types}
use Rattle.wy_types.specs.Types.{IsObject, methods_of}
use Rattle.wy_types.proofs.Deciding.{decide_type}
use Rattle.wy_types.proofs.Gathered.{gathered_none, gathered_more, gathered_base, gathered_known, gathered_new, crowd_new, crowd_within, crowd_later}
use Rattle.wy_types.proofs.Reaching.{IsWork, work_start, work_more, work_done, work_refused, start_refused}
use Rattle.wy_rules.specs.Ends.{ReachesTooMany}
use Rattle.wy_judge.proofs.Checks.{reached_within}

pub object_or_not : (t : TypeRef) → IsObject t ⊎ (IsObject t → ⊥)
object_or_not Int = inr (λ h. h)
object_or_not Bool = inr (λ h. h)
object_or_not Text = inr (λ h. h)
object_or_not Nothing = inr (λ h. h)
object_or_not (Named d members) = inl tt
object_or_not (At d bound) = inl tt
object_or_not (Own l) = inl tt

abbrev Gathering : List TypeRef → List TypeRef → Type 0
Gathering old ts = ((new : List TypeRef) × IsGathered old ts new) ⊎ ((us : List TypeRef) × IsCrowd old ts us)

gather_one : (old : List TypeRef) (t : TypeRef) → Apart old → length old ≤ 1024 → Gathering old (t ∷ [])
gather_one old t apart small = elim (object_or_not t) [
  | inr base ↦ inl (old, gathered_base old t apart small base)
  | inl object ↦ elim (in_decided decide_type t old) [
    | inl there ↦ inl (old, gathered_known old t apart small there)
    | inr absent ↦ elim (cases_lt (length old) 1024) [
      | inl few ↦ inl (old ++ t ∷ [], gathered_new old (old ++ t ∷ []) t apart few object absent refl)
      | inr many ↦ inr (old ++ t ∷ [], crowd_new old t apart many object absent)
    ]
  ]
]

gather : (old ts : List TypeRef) → Apart old → length old ≤ 1024 → Gathering old ts
gather old [] apart small = inl (old, gathered_none old apart small)
gather old (t ∷ ts) apart small = elim (gather_one old t apart small) [
  | inr crowd ↦ inr (crowd.0, crowd_within old (t ∷ []) (t ∷ ts) crowd.0 (λ u i. elim i [ inl e ↦ inl e | inr none ↦ absurd none ]) crowd.1)
  | inl one ↦ elim (gather one.0 ts one.1.apart one.1.small) [
    | inl rest ↦ inl (rest.0, gathered_more old (t ∷ []) one.0 ts rest.0 one.1 rest.1)
    | inr crowd ↦ inr (crowd.0, crowd_later old (t ∷ []) one.0 ts crowd.0 one.1 crowd.1)
  ]
]

read_at : (ts : List TypeRef) (n : ℕ) → n < length ts → (t : TypeRef) × (t ≡ get_or ts n t)
read_at [] n lt = absurd (omega arith)
read_at (t ∷ ts) zero lt = (t, refl)
read_at (t ∷ ts) (suc n) lt = read_at ts n (omega arith)

module _ (p : Program) (k : ℕ) where
  goes_on : (fuel next : ℕ) (seen : List TypeRef) → IsWork p k seen next → 1024 < next + fuel → ReachesTooMany p k ⊎ ((ts : List TypeRef) × Reach p k (Ok ts))
  goes_on zero next seen w room = (let within = w.within in let small = w.small in absurd (omega arith))
  goes_on (suc fuel) next seen w room = elim (cases_lt next (length seen)) [
    | inr done ↦ inr (seen, work_done p k seen next w done)
    | inl lt ↦
        let read = read_at seen next lt in
        elim (gather seen (signature_types (methods_of p k read.0)) w.apart w.small) [
          | inl new ↦ goes_on fuel (next + 1) new.0 (work_more p k seen new.0 next read.0 w lt read.1 new.1) (omega arith)
          | inr crowd ↦ inl (work_refused p k seen crowd.0 next read.0 (Limit ReachedTypes) w lt read.1 (refl, crowd))
        ]
  ]

  pub reach_decided : ReachesTooMany p k ⊎ (ReachesTooMany p k → ⊥)
  reach_decided = elim (gather [] (scope_first_types (slice_get p.scopes k)) tt (omega arith)) [
    | inr crowd ↦ inl (start_refused p k (Limit ReachedTypes) (refl, crowd))
    | inl first ↦ elim (goes_on 1025 0 first.0 (work_start p k first.0 first.1) (omega arith)) [
      | inl many ↦ inl many
      | inr all ↦ inr (reached_within p k all.0 all.1)
    ]
  ]
