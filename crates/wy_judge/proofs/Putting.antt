-- The type of a `val` put into the table, after what its initialiser made known.
use Rattle.std.proofs.Common.{◌≡◌, ℕ, List, ◌∷◌, ◌⊎◌, inl, inr, sym, subst, Some}
use Rattle.std.specs.Prelude.{slice_get}
use Rattle.wy_text.specs.Members.{In}
use Rattle.wy_effects.proofs.SetLaws.{cases_equal}
use Rattle.wy_types.specs.declared.types.TypeRef.{TypeRef}
use Rattle.wy_types.specs.declared.code.Variable.{Variable}
use Rattle.wy_types.specs.declared.code.Variable.TheVariants.{Local}
use Rattle.wy_types.specs.Program.{Program, Scope}
use Rattle.wy_types.specs.Fitting.{IsTypeOf}
use Rattle.wy_rules.specs.Readings.{Reading}
use Rattle.wy_judge.specs.Tables.{Table, IsKnown, Agrees, AllInRange, IsPut, Moves, IsReady}

------------------------------------------------------------
-- What is known then

module _ (old new : Table) (n : ℕ) (t : TypeRef) (put : IsPut old new n t) where
  -- what was known stays so, where the `val` was not known
  pub put_keeps : (IsKnown old n → ⊥) → (m : ℕ) (u : TypeRef) → slice_get old m ≡ Some (Some u) → slice_get new m ≡ Some (Some u)
  put_keeps fresh m u e = (put.others m u (λ same. fresh (u, subst (λ i. slice_get old i ≡ Some (Some u)) same e))).1 e

  -- what is known now was known, or is the `val`
  pub put_only : (m : ℕ) (u : TypeRef) → slice_get new m ≡ Some (Some u) → (m ≡ n) ⊎ (slice_get old m ≡ Some (Some u))
  put_only m u e = elim (cases_equal m n) [ inl same ↦ inl same | inr other ↦ inr ((put.others m u other).0 e) ]

  -- types that agree with the table say the type of the `val`
  pub put_agrees : (y : Reading) (locals : List y.Kind) → Agrees y locals new → slice_get locals n ≡ Some (y.read t)
  put_agrees y locals a = a n t put.here

module _ (p : Program) (k : ℕ) (s : Scope) where
  -- a part of one that does not pass
  pub moves_among : (old new : Table) (xs ys : List ℕ) (P R : Type 0) → Moves p k s old new xs P → ((n : ℕ) → In n xs → In n ys) → (R → ⊥) → Moves p k s old new ys R
  moves_among old new xs ys P R m among never = record {
    keeps = m.keeps;
    only = λ n known. elim (m.only n known) [ inl before ↦ inl before | inr inside ↦ inr (among n inside) ];
    range = m.range;
    settled = λ r n i. absurd (never r);
    ends = m.ends;
  }

  put_range : (old new : Table) (n : ℕ) (t : TypeRef) → IsPut old new n t → IsTypeOf p k t → AllInRange p k s old → AllInRange p k s new
  put_range old new n t put fits range m u e =
      elim (put_only old new n t put m u e) [
        | inl same ↦
            let there = subst (λ i. slice_get new i ≡ Some (Some u)) same e in
            let one : t ≡ u = cc (put.here, there) in
            subst (λ z. IsTypeOf p k z) one fits
        | inr before ↦ range m u before
      ]

  -- a `val` becomes known after those of its initialiser
  pub put_moves : (old mid new : Table) (n : ℕ) (t : TypeRef) (xs : List ℕ) (P Q : Type 0) → (Q → P) → IsTypeOf p k t → (IsKnown mid n → ⊥) → IsPut mid new n t → Moves p k s old mid xs P → Moves p k s old new (n ∷ xs) Q
  put_moves old mid new n t xs P Q passes fits fresh put m = record {
    keeps = λ i u e. put_keeps mid new n t put fresh i u (m.keeps i u e);
    only = λ i h. elim (put_only mid new n t put i h.0 h.1) [
      | inl same ↦ inr (inl (sym same))
      | inr before ↦ elim (m.only i (h.0, before)) [ inl known ↦ inl known | inr among ↦ inr (inr among) ]
    ];
    range = put_range mid new n t put fits m.range;
    settled = λ q i among. elim among [
      | inl same ↦ (t, subst (λ j. slice_get new j ≡ Some (Some t)) same put.here)
      | inr inside ↦ (let known = m.settled (passes q) i inside in (known.0, put_keeps mid new n t put fresh i known.0 known.1))
    ];
    ends = λ known. put.ends (m.ends known);
  }

  -- a known `val` may be in sight
  pub sees_known : (table : Table) (seen : List Variable) (vals : List ℕ) (n : ℕ) → IsKnown table n → IsReady p k s table seen vals → IsReady p k s table (Local n ∷ seen) vals
  sees_known table seen vals n known ready = record {
    range = ready.range;
    locals = λ m i. elim i [
      | inl same ↦ (let one : n ≡ m = cc in subst (λ j. IsKnown table j) one known)
      | inr among ↦ ready.locals m among
    ];
    parameters = λ j i among. elim among [
      | inl same ↦ absurd (cc)
      | inr inside ↦ ready.parameters j i inside
    ];
    fresh = ready.fresh;
    apart = ready.apart;
  }
