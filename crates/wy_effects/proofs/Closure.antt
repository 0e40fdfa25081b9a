-- A finite list that has a start and is closed under `next`, where few elements are apart.
use Rattle.std.proofs.Common.{◌≡◌, ℕ, zero, suc, ◌+◌, ◌<◌, ◌≤◌, List, [], ◌∷◌, ◌++◌, ◌⊎◌, inl, inr, length, refl, sym, subst, arith}
use Rattle.wy_text.specs.Members.{In, Within, Apart}
use Rattle.wy_text.proofs.Lists.{In-left, In-right, In-cases}

abbrev pub Decided : Type 0 → Type 0
Decided A = A ⊎ (A → ⊥)

-- a list that contains both lists, keeps the property, and is closed
pub record Closes (X : Type 0) (next : X → List X) (P : X → Type 0) (done todo : List X) : Type 0 where
  pub list : List X
  pub old : Within done list
  pub new : Within todo list
  pub each : (x : X) → In x list → P x
  pub closed : (x : X) → In x list → Within (next x) list

pub in_decided : {X : Type 0} (decide : (x y : X) → Decided (x ≡ y)) (x : X) (xs : List X) → Decided (In x xs)
in_decided decide x [] = inr (λ h. h)
in_decided decide x (y ∷ xs) =
    elim (decide y x) [
      | inl e ↦ inl (inl e)
      | inr n ↦ elim (in_decided decide x xs) [ inl h ↦ inl (inr h) | inr m ↦ inr (λ h. elim h [ inl e ↦ n e | inr g ↦ m g ]) ]
    ]

module _ (X : Type 0) (decide : (x y : X) → Decided (x ≡ y)) (next : X → List X) (P : X → Type 0) (kept : (x y : X) → P x → In y (next x) → P y)
    (bound : ℕ) (few : (xs : List X) → Apart xs → ((x : X) → In x xs → P x) → length xs ≤ bound) where
  abbrev Work : ℕ → Type 0
  Work fuel = (done todo : List X) → Apart done → ((x : X) → In x done → P x) → ((x : X) → In x todo → P x) →
      ((x : X) → In x done → Within (next x) (done ++ todo)) → bound < length done + fuel → Closes X next P done todo

  ended : (done : List X) → ((x : X) → In x done → P x) → ((x : X) → In x done → Within (next x) (done ++ [])) → Closes X next P done []
  ended done each closed = record {
    list = done;
    old = λ x h. h;
    new = λ x h. absurd h;
    each = each;
    closed = λ x h y g. elim (In-cases y done [] (closed x h y g)) [ inl f ↦ f | inr f ↦ absurd f ];
  }

  turn : (fuel : ℕ) → Work fuel → Work (suc fuel)
  turn fuel less done [] apart each each' closed room = ended done each closed
  turn fuel less done (y ∷ todo) apart each each' closed room =
      elim (in_decided decide y done) [
        | inl there ↦
            let r : Closes X next P done todo = turn fuel less done todo apart each (λ x h. each' x (inr h))
            (λ x h z g. elim (In-cases z done (y ∷ todo) (closed x h z g)) [
              | inl f ↦ In-left z done todo f
              | inr f ↦ elim f [ inl e ↦ In-left z done todo (let Q : X → Type 0 = λ v. In v done in subst Q e there) | inr f' ↦ In-right z done todo f' ]
            ]) room in
            record { list = r.list; old = r.old; new = λ x h. elim h [ inl e ↦ (let Q : X → Type 0 = λ v. In v r.list in subst Q e (r.old y there)) | inr g ↦ r.new x g ]; each = r.each; closed = r.closed }
        | inr absent ↦
            let r : Closes X next P (y ∷ done) (next y ++ todo) = less (y ∷ done) (next y ++ todo) (absent, apart)
            (λ x h. elim h [ inl e ↦ subst P e (each' y (inl refl)) | inr g ↦ each x g ])
            (λ x h. elim (In-cases x (next y) todo h) [ inl g ↦ kept y x (each' y (inl refl)) g | inr g ↦ each' x (inr g) ])
            (λ x h z g. elim h [
              | inl e ↦ (let Q : X → Type 0 = λ v. In z (next v) in inr (In-right z done (next y ++ todo) (In-left z (next y) todo (subst Q (sym e) g))))
              | inr h' ↦ elim (In-cases z done (y ∷ todo) (closed x h' z g)) [
                | inl f ↦ inr (In-left z done (next y ++ todo) f)
                | inr f ↦ elim f [ inl e ↦ inl e | inr f' ↦ inr (In-right z done (next y ++ todo) (In-right z (next y) todo f')) ]
              ]
            ])
            (omega arith) in
            record { list = r.list; old = λ x h. r.old x (inr h); new = λ x h. elim h [ inl e ↦ r.old x (inl e) | inr g ↦ r.new x (In-right x (next y) todo g) ]; each = r.each; closed = r.closed }
      ]

  work : (fuel : ℕ) → Work fuel
  work zero = λ done todo apart each each' closed room. absurd (let h : length done ≤ bound = few done apart each in omega arith)
  work (suc fuel) = turn fuel (work fuel)

  pub closure : (x : X) → P x → Closes X next P [] (x ∷ [])
  closure x p = work (suc bound) [] (x ∷ []) tt (λ y h. absurd h) (λ y h. elim h [ inl e ↦ subst P e p | inr g ↦ absurd g ]) (λ y h. absurd h) (omega arith)
