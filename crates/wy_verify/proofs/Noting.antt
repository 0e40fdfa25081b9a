-- Tables of what was noted first of each key, as they grow.
use Rattle.std.proofs.Common.{◌≡◌, ℕ, Bool, true, false, ◌&&◌, cond, List, [], ◌∷◌, ◌++◌, Option, Some, None, is_some, refl, sym, ap, ◌∙◌, subst, nat_eq, append_assoc, append-nil, if◌then◌else◌}
use Rattle.std.proofs.lemmas.Bool.{eqb-true}
use Rattle.indexmap.specs.IndexMap.{IndexMap, get}
use Rattle.wy_verify.specs.Tables.{same_pair, same_triple, first_noted, Tells, Adds, Adding}

unfoldable pub or_else : {V : Type 0} → Option V → Option V → Option V
or_else (Some a) b = Some a
or_else None b = b

both_true : (p q : Bool) → (p && q) ≡ true → (p ≡ true) × (q ≡ true)
both_true true true e = (refl, refl)
both_true true false e = cc
both_true false q e = cc

-- equal keys are one
pub pair_exact : (x y : ℕ × ℕ) → same_pair x y ≡ true → x ≡ y
pair_exact x y e =
    let b = both_true (nat_eq x.0 y.0) (nat_eq x.1 y.1) e in
    ap (λ (n : ℕ). let p : ℕ × ℕ = (n, x.1) in p) (eqb-true x.0 y.0 b.0) ∙ ap (λ (n : ℕ). let p : ℕ × ℕ = (y.0, n) in p) (eqb-true x.1 y.1 b.1)

pub triple_exact : (x y : ℕ × ℕ × ℕ) → same_triple x y ≡ true → x ≡ y
triple_exact x y e =
    let b = both_true (nat_eq x.0 y.0 && nat_eq x.1 y.1) (nat_eq x.2 y.2) e in
    let a = both_true (nat_eq x.0 y.0) (nat_eq x.1 y.1) b.0 in
    ap (λ (n : ℕ). let p : ℕ × ℕ × ℕ = (n, x.1, x.2) in p) (eqb-true x.0 y.0 a.0) ∙ ap (λ (n : ℕ). let p : ℕ × ℕ × ℕ = (y.0, n, x.2) in p) (eqb-true x.1 y.1 a.1) ∙
    ap (λ (n : ℕ). let p : ℕ × ℕ × ℕ = (y.0, y.1, n) in p) (eqb-true x.2 y.2 b.1)

module _ {K V : Type 0} (same : K → K → Bool) where
  -- what is first of two lists of notes
  pub first_both : (xs ys : List (K × V)) (q : K) → first_noted same (xs ++ ys) q ≡ or_else (first_noted same xs q) (first_noted same ys q)
  unfolding or_else
  first_both [] ys q = refl
  first_both (x ∷ xs) ys q =
      elim (same x.0 q) as (λ b. (if b then Some x.1 else first_noted same (xs ++ ys) q) ≡ or_else (if b then Some x.1 else first_noted same xs q) (first_noted same ys q)) [
        | true ↦ refl
        | false ↦ first_both xs ys q
      ]

  is_none : (o : Option V) → is_some o ≡ false → o ≡ None
  is_none (Some a) e = cc
  is_none None e = refl

  module _ (exact : (x y : K) → same x y ≡ true → x ≡ y) where
    behind_none : (o : Option V) (k q : K) (v : V) (notes : List (K × V)) → o ≡ None → first_noted same notes k ≡ o →
        cond (same k q) (Some v) (first_noted same notes q) ≡ or_else (first_noted same notes q) (if same k q then Some v else None)
    unfolding or_else
    behind_none o k q v notes n e =
        elim (same k q) as (λ b. same k q ≡ b → cond b (Some v) (first_noted same notes q) ≡ or_else (first_noted same notes q) (if b then Some v else None)) [
          | true ↦ λ h. (
              let f : first_noted same notes q ≡ None = ap (first_noted same notes) (sym (exact k q h)) ∙ e ∙ n in
              ap (λ (p : Option V). or_else p (Some v)) (sym f))
          | false ↦ λ h. (elim (first_noted same notes q) as (λ p. p ≡ or_else p None) [ Some a ↦ refl | None ↦ refl ])
        ] refl

    behind_some : (k q : K) (v : V) (notes : List (K × V)) → is_some (first_noted same notes k) ≡ true →
        first_noted same notes q ≡ or_else (first_noted same notes q) (if same k q then Some v else None)
    unfolding or_else
    behind_some k q v notes e =
        elim (same k q) as (λ b. same k q ≡ b → first_noted same notes q ≡ or_else (first_noted same notes q) (if b then Some v else None)) [
          | true ↦ λ h. (
              let f : is_some (first_noted same notes q) ≡ true = ap (λ (x : K). is_some (first_noted same notes x)) (sym (exact k q h)) ∙ e in
              (elim (first_noted same notes q) as (λ p. is_some p ≡ true → p ≡ or_else p (Some v)) [ Some a ↦ λ g. refl | None ↦ λ g. cc ]) f)
          | false ↦ λ h. (elim (first_noted same notes q) as (λ p. p ≡ or_else p None) [ Some a ↦ refl | None ↦ refl ])
        ] refl

    -- a key that was not there is noted
    pub note_new : {S : Type 0} (old new : IndexMap K V S) (k : K) (v : V) (there : Bool) → there ≡ false → there ≡ is_some (get same old k) →
        ((q : K) → get same new q ≡ cond (same k q) (Some v) (get same old q)) → Adds same old new ((k, v) ∷ [])
    note_new old new k v there absent is write = λ notes t q.
        write q ∙ ap (λ (o : Option V). cond (same k q) (Some v) o) (t q) ∙
        behind_none (get same old k) k q v notes (is_none (get same old k) (sym is ∙ absent)) (sym (t k)) ∙
        sym (first_both notes ((k, v) ∷ []) q)

    -- .. and one that was there stays
    pub note_kept : {S : Type 0} (old : IndexMap K V S) (k : K) (v : V) (there : Bool) → there ≡ true → there ≡ is_some (get same old k) → Adds same old old ((k, v) ∷ [])
    note_kept old k v there present is = λ notes t q.
        t q ∙ behind_some k q v notes (ap (λ (o : Option V). is_some o) (sym (t k)) ∙ sym is ∙ present) ∙ sym (first_both notes ((k, v) ∷ []) q)

  module _ {S : Type 0} where
    -- nothing is added yet
    pub adding_none : (m : IndexMap K V S) (whole : List (K × V)) → Adding same m m whole whole
    adding_none m whole = record {
      front = [];
      split = refl;
      added = λ notes t. (let P : List (K × V) → Type 0 = λ ns. Tells same m ns in subst P (sym (append-nil notes)) t);
    }

    -- some more was
    pub adding_more : (old m new : IndexMap K V S) (xs rest whole : List (K × V)) → Adding same old m (xs ++ rest) whole → Adds same m new xs → Adding same old new rest whole
    adding_more old m new xs rest whole a more = record {
      front = a.front ++ xs;
      split = append_assoc a.front xs rest ∙ a.split;
      added = λ notes t. (let P : List (K × V) → Type 0 = λ ns. Tells same new ns in subst P (append_assoc notes a.front xs) (more (notes ++ a.front) (a.added notes t)));
    }

    -- all was
    pub adding_all : (old new : IndexMap K V S) (rest whole : List (K × V)) → rest ≡ [] → Adding same old new rest whole → Adds same old new whole
    adding_all old new rest whole none a = λ notes t.
        let P : List (K × V) → Type 0 = λ ns. Tells same new ns in
        let e : a.front ≡ whole = sym (append-nil a.front) ∙ ap (λ (l : List (K × V)). a.front ++ l) (sym none) ∙ a.split in
        subst P (ap (λ (l : List (K × V)). notes ++ l) e) (a.added notes t)

    -- one after the other
    pub adds_then : (old m new : IndexMap K V S) (xs ys : List (K × V)) → Adds same old m xs → Adds same m new ys → Adds same old new (xs ++ ys)
    adds_then old m new xs ys a b = λ notes t.
        let P : List (K × V) → Type 0 = λ ns. Tells same new ns in
        subst P (append_assoc notes xs ys) (b (notes ++ xs) (a notes t))
