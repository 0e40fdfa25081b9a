-- All that a type reaches, each at its polarity, is listed; so the effects on its ways against a bound, and a bound against the methods
-- that it reaches negatively, are decided.
use Rattle.std.proofs.Common.{◌≡◌, ℕ, zero, suc, ◌+◌, ◌<◌, ◌≤◌, List, [], ◌∷◌, ◌++◌, inl, inr, length, refl, sym, ap, subst, Option, Some, None, Bool as Truth, true, false, arith}
use Rattle.std.specs.Prelude.{slice_get}
use Rattle.std.proofs.lemmas.Bool.{cases_lt}
use Rattle.wy_text.specs.Members.{In}
use Rattle.wy_effects.specs.EffSet.{without}
use Rattle.wy_effects.specs.declared.atom.Atom.{Atom}
use Rattle.wy_effects.proofs.Closure.{in_decided}
use Rattle.wy_text.proofs.Lists.{In-left, In-right, In-cases}
use Rattle.wy_effects.proofs.SetLaws.{cases_equal, without-from, In-without}
use Rattle.wy_effects.specs.Bounds.{IsWidened}
use Rattle.wy_effects.specs.Widened.{widened_set}
use Rattle.wy_effects.proofs.Widening.{widened_is}
use Rattle.wy_types.specs.declared.types.TypeRef.{TypeRef}
use Rattle.wy_types.specs.declared.path.Part.TheVariants.{Result}
use Rattle.wy_types.specs.Program.{Program}
use Rattle.wy_types.specs.Signature.{Signature}
use Rattle.wy_types.specs.Types.{methods_of}
use Rattle.wy_types.specs.Bounds.{bounds_of}
use Rattle.wy_types.specs.Paths.{IsEffect}
use Rattle.wy_types.specs.Fitting.{IsTypeOf}
use Rattle.wy_types.specs.InRange.{IsInRange}
use Rattle.wy_types.proofs.Bounding.{go_down}
use Rattle.wy_types.proofs.Deciding.{decide_type, decide_truth, decide_pair}
use Rattle.wy_types.proofs.Finite.{marked_bound}
use Rattle.wy_bounds.specs.declared.entry.Entry.{Entry}
use Rattle.wy_bounds.specs.Safety.{IsMissing}
use Rattle.wy_bounds.specs.Table.{Mark, mark_of, marks, IsAdded, AreAdded}
use Rattle.wy_bounds.specs.Worklist.{all_entries, IsWork, IsWhole}
use Rattle.wy_bounds.proofs.Working.{advances, work_start, work_more, work_left, work_all}
use Rattle.wy_subtype.specs.declared.verdict.Mode.TheVariants.{Annotated}
use Rattle.wy_judge.specs.Lacks.{LacksIn}
use Rattle.wy_judge.proofs.LacksDecided.{least_of, lack_decided}
use Rattle.wy_premises.specs.Tried.{OrLacks, missing_atom}
use Rattle.wy_link.specs.Tried.{BoundedAt, ExceedsAt, SafeAt, UnsafeAt}

------------------------------------------------------------
-- The list

add_one : (old : List Entry) (e : Entry) → (new : List Entry) × IsAdded old e new
add_one old e = elim (in_decided (decide_pair decide_type decide_truth) (mark_of e) (marks old)) [
  | inl there ↦ (old, inl (there, refl))
  | inr absent ↦ (old ++ e ∷ [], inr (absent, refl))
]

add_all : (old es : List Entry) → (new : List Entry) × AreAdded old es new
add_all old [] = (old, refl)
add_all old (e ∷ es) =
    let mid = add_one old e in
    let rest = add_all mid.0 es in
    (rest.0, (mid.0, mid.1, rest.1))

entry_at : (es : List Entry) (k : ℕ) → k < length es → (e : Entry) × (slice_get es k ≡ Some e)
entry_at [] k h = absurd (omega arith)
entry_at (e ∷ es) zero h = (e, refl)
entry_at (e ∷ es) (suc k) h = entry_at es k (omega arith)

module _ (p : Program) (core : IsInRange p) (k : ℕ) (t : TypeRef) where
  goes_on : (fuel next : ℕ) (es : List Entry) → IsWork p k t es next → marked_bound p k ≤ next + fuel → (all : List Entry) × IsWhole p k t all
  goes_on zero next es w room = elim (cases_lt next (length es)) [
    | inr done ↦ (es, work_all p k t es next done w)
    | inl lt ↦ absurd (let left : next < marked_bound p k = work_left p core k t es next lt w in omega arith)
  ]
  goes_on (suc fuel) next es w room = elim (cases_lt next (length es)) [
    | inr done ↦ (es, work_all p k t es next done w)
    | inl lt ↦
        let e = entry_at es next lt in
        let cs = all_entries next e.0.positive (methods_of p k e.0.typ) in
        let new = add_all es cs in
        goes_on fuel (next + 1) new.0 (work_more p core k t es new.0 next lt w (advances p core k t cs es new.0 next e.0 e.1 refl new.1 w.seen)) (omega arith)
  ]

  pub listed : IsTypeOf p k t → (all : List Entry) × IsWhole p k t all
  listed f =
      let e : Entry = record { typ = t; positive = true; parent = 0; step = record { method = []; part = Result } } in
      let first = add_one [] e in
      goes_on (marked_bound p k) 0 first.0 (work_start p core k t e first.0 f refl refl first.1) (omega arith)

------------------------------------------------------------
-- Methods of what is reached at a polarity, and atoms in their effects

module _ (p : Program) (k : ℕ) (positive : Truth) where
  record Methods (es : List Entry) : Type 0 where
    list : List (Signature TypeRef)
    sound : (m : Signature TypeRef) → In m list → (u : TypeRef) × In {X = Mark} (u, positive) (marks es) × In m (methods_of p k u)
    whole : (u : TypeRef) → In {X = Mark} (u, positive) (marks es) → (m : Signature TypeRef) → In m (methods_of p k u) → In m list

  methods_in : (es : List Entry) → Methods es
  methods_in [] = record { list = []; sound = λ m i. absurd i; whole = λ u i m j. absurd i }
  methods_in (e ∷ es) =
      let r = methods_in es in
      let ms = methods_of p k e.typ in
      elim (decide_truth e.positive positive) [
        | inl same ↦ record {
          list = ms ++ r.list;
          sound = λ m i. elim (In-cases m ms r.list i) [
            | inl here ↦ (e.typ, inl (ap (λ (b : Truth). let x : Mark = (e.typ, b) in x) same), here)
            | inr later ↦ (let s = r.sound m later in (s.0, inr s.1, s.2))
          ];
          whole = λ u i m j. elim i [
            | inl at ↦ In-left m ms r.list (subst (λ v. In m (methods_of p k v)) (sym (ap (λ (x : Mark). x.0) at)) j)
            | inr later ↦ In-right m ms r.list (r.whole u later m j)
          ];
        }
        | inr other ↦ record {
          list = r.list;
          sound = λ m i. (let s = r.sound m i in (s.0, inr s.1, s.2));
          whole = λ u i m j. elim i [
            | inl at ↦ absurd (other (ap (λ (x : Mark). x.1) at))
            | inr later ↦ r.whole u later m j
          ];
        }
      ]

-- the atoms of what is made of each method
atoms_by : (Signature TypeRef → List ℕ) → List (Signature TypeRef) → List ℕ
atoms_by f [] = []
atoms_by f (m ∷ ms) = f m ++ atoms_by f ms

atom_from : (f : Signature TypeRef → List ℕ) (ms : List (Signature TypeRef)) (a : ℕ) → In a (atoms_by f ms) → (m : Signature TypeRef) × In m ms × In a (f m)
unfolding atoms_by
atom_from f [] a i = absurd i
atom_from f (m ∷ ms) a i = elim (In-cases a (f m) (atoms_by f ms) i) [
  | inl here ↦ (m, inl refl, here)
  | inr later ↦ (let r = atom_from f ms a later in (r.0, inr r.1, r.2))
]

atom_in : (f : Signature TypeRef → List ℕ) (ms : List (Signature TypeRef)) (a : ℕ) (m : Signature TypeRef) → In m ms → In a (f m) → In a (atoms_by f ms)
unfolding atoms_by
atom_in f [] a m i j = absurd i
atom_in f (n ∷ ms) a m i j = elim i [
  | inl same ↦ In-left a (f n) (atoms_by f ms) (subst (λ (v : Signature TypeRef). In a (f v)) (sym same) j)
  | inr later ↦ In-right a (f n) (atoms_by f ms) (atom_in f ms a m later j)
]

module _ (p : Program) (core : IsInRange p) (k : ℕ) (bound : List ℕ) (t : TypeRef) (es : List Entry) (all : IsWhole p k t es) where
  abbrev wide : List ℕ → List ℕ
  wide effect = widened_set (bounds_of p k) effect

  under_is : (effect : List ℕ) → IsWidened (bounds_of p k) effect (wide effect)
  under_is effect = widened_is (bounds_of p k) (go_down p core k) effect

  ------------------------------------------------------------
  -- Effects within a bound

  module _ (ways : Methods p k true es) where
    abbrev Effects : List ℕ
    Effects = atoms_by (λ m. m.effect) ways.list

    is_effect : (a : ℕ) → In a Effects → IsEffect TypeRef (methods_of p k) t true a
    is_effect a i =
        let r = atom_from (λ m. m.effect) ways.list a i in
        let at = ways.sound r.0 r.1 in
        (at.0, all.seen.reached (at.0, true) at.1, (r.0, at.2, r.2))

    its_effect : (a : ℕ) → IsEffect TypeRef (methods_of p k) t true a → In a Effects
    its_effect a e = atom_in (λ m. m.effect) ways.list a e.2.0 (ways.whole e.0 (all.whole true e.0 e.1) e.2.0 e.2.1) e.2.2

    bounded_by : (lack : Option ℕ) → LacksIn Annotated Effects (wide bound) lack → (o : Option Atom) × OrLacks (BoundedAt p k bound t) (ExceedsAt p k bound t) (missing_atom o)
    bounded_by None within = (None, λ a e. (under_is bound a).0 (within a (its_effect a e)))
    bounded_by (Some a) least =
        let atom : Atom = record { 0 = a } in (
          Some atom,
          (
            λ bounded. least.1 ((under_is bound a).1 (bounded a (is_effect a least.0))),
            (is_effect a least.0, λ h. least.1 ((under_is bound a).1 h), λ b e n. least.2 b (its_effect b e) (λ i. n ((under_is bound b).0 i))),
          ),
        )

  ------------------------------------------------------------
  -- A bound that is higher-order safe

  module _ (ways : Methods p k false es) where
    abbrev Lacking : List ℕ
    Lacking = atoms_by (λ m. without bound (wide m.effect)) ways.list

    is_missing : (a : ℕ) → In a Lacking → IsMissing p k t false bound a
    is_missing a i =
        let r = atom_from (λ m. without bound (wide m.effect)) ways.list a i in
        let at = ways.sound r.0 r.1 in
        let from = without-from a bound (wide r.0.effect) r.2 in
        (from.0, (at.0, all.seen.reached (at.0, false) at.1, (r.0, at.2, λ h. from.1 ((under_is r.0.effect a).1 h))))

    its_missing : (a : ℕ) → IsMissing p k t false bound a → In a Lacking
    its_missing a h =
        let m = h.1.2.0 in
        atom_in (λ n. without bound (wide n.effect)) ways.list a m (ways.whole h.1.0 (all.whole false h.1.0 h.1.1) m h.1.2.1) (In-without a bound (wide m.effect) h.0 (λ i. h.1.2.2 ((under_is m.effect a).0 i)))

    safe_by : (left : List ℕ) → Lacking ≡ left → (o : Option Atom) × OrLacks (SafeAt p k bound t) (UnsafeAt p k bound t) (missing_atom o)
    safe_by [] e = (
      None,
      λ u r m i a j. elim (in_decided cases_equal a (wide m.effect)) [
        | inl there ↦ (under_is m.effect a).0 there
        | inr absent ↦ absurd (subst (λ l. In a l) e (its_missing a (j, (u, r, (m, i, λ h. absent ((under_is m.effect a).1 h))))))
      ],
    )
    safe_by (x ∷ xs) e =
        let r = least_of x xs in
        let a : ℕ = r.0 in
        let atom : Atom = record { 0 = a } in
        let h = is_missing a (subst (λ l. In a l) (sym e) r.1) in
        (Some atom, ((λ safe. h.1.2.2 (safe h.1.0 h.1.1 h.1.2.0 h.1.2.1 a h.0)), (h, λ b g. r.2 b (subst (λ l. In b l) e (its_missing b g)))))

module _ (p : Program) (core : IsInRange p) (k : ℕ) (bound : List ℕ) (t : TypeRef) (fits : IsTypeOf p k t) where
  pub bounded_decided : (o : Option Atom) × OrLacks (BoundedAt p k bound t) (ExceedsAt p k bound t) (missing_atom o)
  bounded_decided =
      let all = listed p core k t fits in
      let ways = methods_in p k true all.0 in
      let lack = lack_decided Annotated (atoms_by (λ m. m.effect) ways.list) (widened_set (bounds_of p k) bound) in
      bounded_by p core k bound t all.0 all.1 ways lack.0 lack.1

  pub safe_decided : (o : Option Atom) × OrLacks (SafeAt p k bound t) (UnsafeAt p k bound t) (missing_atom o)
  safe_decided =
      let all = listed p core k t fits in
      let ways = methods_in p k false all.0 in
      safe_by p core k bound t all.0 all.1 ways (atoms_by (λ m. without bound (widened_set (bounds_of p k) m.effect)) ways.list) refl
