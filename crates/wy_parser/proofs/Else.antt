-- A choice whose second side is only for lists that don't begin in the first side's set.
use Rattle.std.proofs.Common.{◌≡◌, ℕ, ◌<◌, ◌≤◌, true, false, List, [], ◌∷◌, ◌++◌, length, refl, sym, ap, ◌∙◌, inl, inr, ◌⊎◌}
use Rattle.wy_parser.specs.Reading.{Yes, No, Deep, Reader, starts, choose}
use Rattle.wy_parser.proofs.Exact.{Begins, Stops, Exact, Taken, Stuck, Clean, subset, in_subset, stops_less, starts_same, cond_true, cond_false, cond_cases}

module _ (T : Type 0) (code : T → ℕ) (stop : ℕ) where
  abbrev pub Outside : List ℕ → List T → Type 0
  Outside G u = starts code G u ≡ false

  pub record Else (G F1 C1 F2 C2 F C : List ℕ) : Type 0 where
    pub inside : subset T code stop F1 G ≡ true
    pub f1 : subset T code stop F1 F ≡ true
    pub f2 : subset T code stop F2 F ≡ true
    pub c1 : subset T code stop C1 C ≡ true
    pub c2 : subset T code stop C2 C ≡ true

  pub record Other {A : Type 0} (G : List ℕ) (S : A → List T → Type 0) : Type 0 where
    pub value : A
    pub text : List T
    pub spelled : S value text
    pub outside : Outside G text

  pub exact-else : {A : Type 0} (G : List ℕ) (p1 q1 p2 q2 : Reader T A) (S1 S2 : A → List T → Type 0) (F1 C1 F2 C2 F C : List ℕ) (m : ℕ) → Exact T code stop p1 q1 S1 F1 C1 false m → Exact T code stop p2 q2 S2 F2 C2 false m → Other G S2 → Else G F1 C1 F2 C2 F C → Exact T code stop (choose code G p1 p2) (choose code G q1 q2) (λ a u. S1 a u ⊎ (S2 a u × Outside G u)) F C false m
  exact-else {A} G p1 q1 p2 q2 S1 S2 F1 C1 F2 C2 F C m P1 P2 some c = record {
    begins = begins;
    yes = λ ts r a e. read ts r a (cond_cases T code stop (starts code G ts) (p1 ts) (p2 ts) (Yes a r) e);
    no = λ ts r e. stuck ts r (cond_cases T code stop (starts code G ts) (p1 ts) (p2 ts) (No r) e);
    complete = whole;
    enough = λ ts e. room ts (cond_cases T code stop (starts code G ts) (p1 ts) (p2 ts) Deep e);
    clean = clean;
  }
    where
      fmore : (u : List T) (F' : List ℕ) → subset T code stop F' F ≡ true → Begins T code stop false F' u → Begins T code stop false F u
      fmore [] F' s h = absurd cc
      fmore (x ∷ u) F' s h = in_subset T code stop (code x) F' F s h

      begins : (a : A) (u : List T) → S1 a u ⊎ (S2 a u × Outside G u) → length u < m → Begins T code stop false F u
      begins a u (inl s) lt = fmore u F1 c.f1 (P1.begins a u s lt)
      begins a u (inr s) lt = fmore u F2 c.f2 (P2.begins a u s.0 lt)

      clean : (a : A) (u : List T) → S1 a u ⊎ (S2 a u × Outside G u) → length u < m → Clean T code stop u
      clean a u (inl s) lt = P1.clean a u s lt
      clean a u (inr s) lt = P2.clean a u s.0 lt

      front_out : (u r : List T) → starts code G (u ++ r) ≡ false → starts code G u ≡ false
      front_out [] r h = refl
      front_out (x ∷ u) r h = h

      read : (ts r : List T) (a : A) → ((starts code G ts ≡ true) × (p1 ts ≡ Yes a r)) ⊎ ((starts code G ts ≡ false) × (p2 ts ≡ Yes a r)) → Taken T code stop (choose code G q1 q2) (λ a u. S1 a u ⊎ (S2 a u × Outside G u)) ts r a
      read ts r a (inl (b, e)) =
          let t = P1.yes ts r a e in
          record {
            used = t.used;
            parts = t.parts;
            spelled = inl t.spelled;
            again = λ r' h. cond_true T code stop (starts code G (t.used ++ r')) (q1 (t.used ++ r')) (q2 (t.used ++ r')) (starts_same T code stop G t.used r r' h ∙ ap (λ (w : List T). starts code G w) (sym t.parts) ∙ b) ∙ t.again r' h;
          }
      read ts r a (inr (b, e)) =
          let t = P2.yes ts r a e in
          record {
            used = t.used;
            parts = t.parts;
            spelled = inr (t.spelled, front_out t.used r (ap (λ (w : List T). starts code G w) (sym t.parts) ∙ b));
            again = λ r' h. cond_false T code stop (starts code G (t.used ++ r')) (q1 (t.used ++ r')) (q2 (t.used ++ r')) (starts_same T code stop G t.used r r' h ∙ ap (λ (w : List T). starts code G w) (sym t.parts) ∙ b) ∙ t.again r' h;
          }

      -- what completes a front that begins outside
      complete2 : (ts r u rest : List T) (a : A) → starts code G ts ≡ false → ts ≡ u ++ r → S2 a (u ++ rest) → (v : A) × (w : List T) × S2 v (u ++ w) × Outside G (u ++ w)
      complete2 ts r [] rest a b parts s = (some.value, some.text, some.spelled, some.outside)
      complete2 ts r (x ∷ u) rest a b parts s = (a, rest, s, ap (λ (w : List T). starts code G w) (sym parts) ∙ b)

      stuck : (ts r : List T) → ((starts code G ts ≡ true) × (p1 ts ≡ No r)) ⊎ ((starts code G ts ≡ false) × (p2 ts ≡ No r)) → Stuck T code stop (choose code G q1 q2) (λ a u. S1 a u ⊎ (S2 a u × Outside G u)) ts r
      stuck ts r (inl (b, e)) =
          let t = P1.no ts r e in
          record {
            used = t.used;
            parts = t.parts;
            rest = t.rest;
            value = t.value;
            spelled = inl t.spelled;
            again = λ r' h. cond_true T code stop (starts code G (t.used ++ r')) (q1 (t.used ++ r')) (q2 (t.used ++ r')) (starts_same T code stop G t.used r r' h ∙ ap (λ (w : List T). starts code G w) (sym t.parts) ∙ b) ∙ t.again r' h;
          }
      stuck ts r (inr (b, e)) =
          let t = P2.no ts r e in
          let k = complete2 ts r t.used t.rest t.value b t.parts t.spelled in
          record {
            used = t.used;
            parts = t.parts;
            rest = k.1;
            value = k.0;
            spelled = inr (k.2, k.3);
            again = λ r' h. cond_false T code stop (starts code G (t.used ++ r')) (q1 (t.used ++ r')) (q2 (t.used ++ r')) (starts_same T code stop G t.used r r' h ∙ ap (λ (w : List T). starts code G w) (sym t.parts) ∙ b) ∙ t.again r' h;
          }

      first_in : (u r : List T) → Begins T code stop false F1 u → starts code G (u ++ r) ≡ true
      first_in [] r h = absurd cc
      first_in (x ∷ u) r h = in_subset T code stop (code x) F1 G c.inside h

      first_out : (a : A) (u r : List T) → S2 a u → length u < m → Outside G u → starts code G (u ++ r) ≡ false
      first_out a [] r s lt o = let b = P2.begins a [] s lt in absurd cc
      first_out a (x ∷ u) r s lt o = o

      whole : (a : A) (u r : List T) → S1 a u ⊎ (S2 a u × Outside G u) → length u < m → Stops T code stop C r → choose code G p1 p2 (u ++ r) ≡ Yes a r
      whole a u r (inl s) lt st = cond_true T code stop (starts code G (u ++ r)) (p1 (u ++ r)) (p2 (u ++ r)) (first_in u r (P1.begins a u s lt)) ∙ P1.complete a u r s lt (stops_less T code stop C1 C r c.c1 st)
      whole a u r (inr s) lt st = cond_false T code stop (starts code G (u ++ r)) (p1 (u ++ r)) (p2 (u ++ r)) (first_out a u r s.0 lt s.1) ∙ P2.complete a u r s.0 lt (stops_less T code stop C2 C r c.c2 st)

      room : (ts : List T) → ((starts code G ts ≡ true) × (p1 ts ≡ Deep)) ⊎ ((starts code G ts ≡ false) × (p2 ts ≡ Deep)) → m ≤ length ts
      room ts (inl (b, e)) = P1.enough ts e
      room ts (inr (b, e)) = P2.enough ts e
