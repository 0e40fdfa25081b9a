-- A choice by the next two symbols.
use Rattle.std.proofs.Common.{◌≡◌, ℕ, ◌<◌, ◌≤◌, Bool, true, false, ◌&&◌, List, [], ◌∷◌, ◌++◌, length, refl, sym, ap, subst, ◌∙◌, inl, inr, ◌⊎◌}
use Rattle.wy_parser.specs.Reading.{Out, Yes, No, Deep, Reader, starts2, choose2}
use Rattle.wy_syntax.specs.Tokens.{member}
use Rattle.wy_parser.proofs.Exact.{SameFront, Begins, Stops, Exact, Taken, Stuck, Clean, cond_true, cond_false, cond_cases}

module _ (T : Type 0) (code : T → ℕ) (stop : ℕ) where
  -- what the choice asks of both sides
  pub record Ahead {A : Type 0} (G H : List ℕ) (p1 p2 : Reader T A) (S1 S2 : A → List T → Type 0) (F1 F2 C1 C2 F C : List ℕ) (m : ℕ) : Type 0 where
    pub two : (a : A) (u r : List T) → S1 a u → starts2 code G H (u ++ r) ≡ true
    pub other : (a : A) (u r : List T) → S2 a u → length u < m → Stops T code stop C r → starts2 code G H (u ++ r) ≡ false
    -- neither stops at a first symbol of G
    pub alert1 : (x : T) (r : List T) → member (code x) G ≡ true → p1 (x ∷ r) ≡ No (x ∷ r) → ⊥
    pub alert2 : (x : T) (r : List T) → member (code x) G ≡ true → p2 (x ∷ r) ≡ No (x ∷ r) → ⊥
    pub f1 : (u : List T) → Begins T code stop false F1 u → Begins T code stop false F u
    pub f2 : (u : List T) → Begins T code stop false F2 u → Begins T code stop false F u
    pub c1 : (r : List T) → Stops T code stop C r → Stops T code stop C1 r
    pub c2 : (r : List T) → Stops T code stop C r → Stops T code stop C2 r

  and_false : (a b : Bool) → a ≡ false → (a && b) ≡ false
  and_false true b e = absurd cc
  and_false false b e = refl

  left_of : (a b : Bool) → (a && b) ≡ true → a ≡ true
  left_of true b e = refl
  left_of false b e = absurd cc

  -- the test is the same whatever stands behind the next symbol, but where nothing was used and that symbol is in G
  starts2_same : (G H : List ℕ) (u r r' : List T) → SameFront T code stop r r' → ((x : T) (s : List T) → u ≡ [] → r ≡ x ∷ s → member (code x) G ≡ false) → starts2 code G H (u ++ r') ≡ starts2 code G H (u ++ r)
  starts2_same G H [] [] r' h k = absurd h
  starts2_same G H [] (x ∷ r) [] h k = absurd h
  starts2_same G H [] (x ∷ []) (y ∷ []) h k = refl
  starts2_same G H [] (x ∷ []) (y ∷ z ∷ s') h k = and_false (member (code y) G) (member (code z) H) (subst (λ (w : T). member (code w) G ≡ false) h (k x [] refl refl))
  starts2_same G H [] (x ∷ z ∷ s) (y ∷ []) h k = sym (and_false (member (code x) G) (member (code z) H) (k x (z ∷ s) refl refl))
  starts2_same G H [] (x ∷ z ∷ s) (y ∷ z' ∷ s') h k = and_false (member (code y) G) (member (code z') H) (subst (λ (w : T). member (code w) G ≡ false) h (k x (z ∷ s) refl refl)) ∙ sym (and_false (member (code x) G) (member (code z) H) (k x (z ∷ s) refl refl))
  starts2_same G H (x ∷ []) [] r' h k = absurd h
  starts2_same G H (x ∷ []) (y ∷ r) [] h k = absurd h
  starts2_same G H (x ∷ []) (y ∷ r) (z ∷ r') h k = ap (λ (w : T). member (code x) G && member (code w) H) (sym h)
  starts2_same G H (x ∷ y ∷ u) r r' h k = refl

  bool_false : (b : Bool) → (b ≡ true → ⊥) → b ≡ false
  bool_false true h = absurd (h refl)
  bool_false false h = refl

  pub exact-choose2 : {A : Type 0} (G H : List ℕ) (p1 q1 p2 q2 : Reader T A) (S1 S2 : A → List T → Type 0) (F1 C1 F2 C2 F C : List ℕ) (m : ℕ) → Exact T code stop p1 q1 S1 F1 C1 false m → Exact T code stop p2 q2 S2 F2 C2 false m → Ahead G H p1 p2 S1 S2 F1 F2 C1 C2 F C m →
      ((ts r : List T) (a : A) → p1 ts ≡ Yes a r → S1 a [] → ⊥) → ((ts r : List T) (a : A) → p2 ts ≡ Yes a r → S2 a [] → ⊥) → Exact T code stop (choose2 code G H p1 p2) (choose2 code G H q1 q2) (λ a u. S1 a u ⊎ S2 a u) F C false m
  exact-choose2 {A} G H p1 q1 p2 q2 S1 S2 F1 C1 F2 C2 F C m P1 P2 c solid1 solid2 = record {
    begins = begins;
    yes = λ ts r a e. read ts r a (cond_cases T code stop (starts2 code G H ts) (p1 ts) (p2 ts) (Yes a r) e);
    no = λ ts r e. stuck ts r (cond_cases T code stop (starts2 code G H ts) (p1 ts) (p2 ts) (No r) e);
    complete = whole;
    enough = λ ts e. room ts (cond_cases T code stop (starts2 code G H ts) (p1 ts) (p2 ts) Deep e);
    clean = clean;
  }
    where
      begins : (a : A) (u : List T) → S1 a u ⊎ S2 a u → length u < m → Begins T code stop false F u
      begins a u (inl s) lt = c.f1 u (P1.begins a u s lt)
      begins a u (inr s) lt = c.f2 u (P2.begins a u s lt)

      clean : (a : A) (u : List T) → S1 a u ⊎ S2 a u → length u < m → Clean T code stop u
      clean a u (inl s) lt = P1.clean a u s lt
      clean a u (inr s) lt = P2.clean a u s lt

      same1 : (ts r : List T) (a : A) (u : List T) → p1 ts ≡ Yes a r → S1 a u → (x : T) (s : List T) → u ≡ [] → r ≡ x ∷ s → member (code x) G ≡ false
      same1 ts r a u e s x s' n h = absurd (solid1 ts r a e (subst (λ (w : List T). S1 a w) n s))

      same2 : (ts r : List T) (a : A) (u : List T) → p2 ts ≡ Yes a r → S2 a u → (x : T) (s : List T) → u ≡ [] → r ≡ x ∷ s → member (code x) G ≡ false
      same2 ts r a u e s x s' n h = absurd (solid2 ts r a e (subst (λ (w : List T). S2 a w) n s))

      read : (ts r : List T) (a : A) → ((starts2 code G H ts ≡ true) × (p1 ts ≡ Yes a r)) ⊎ ((starts2 code G H ts ≡ false) × (p2 ts ≡ Yes a r)) → Taken T code stop (choose2 code G H q1 q2) (λ a u. S1 a u ⊎ S2 a u) ts r a
      read ts r a (inl (b, e)) =
          let t = P1.yes ts r a e in
          record {
            used = t.used;
            parts = t.parts;
            spelled = inl t.spelled;
            again = λ r' h. cond_true T code stop (starts2 code G H (t.used ++ r')) (q1 (t.used ++ r')) (q2 (t.used ++ r')) (starts2_same G H t.used r r' h (same1 ts r a t.used e t.spelled) ∙ ap (λ (w : List T). starts2 code G H w) (sym t.parts) ∙ b) ∙ t.again r' h;
          }
      read ts r a (inr (b, e)) =
          let t = P2.yes ts r a e in
          record {
            used = t.used;
            parts = t.parts;
            spelled = inr t.spelled;
            again = λ r' h. cond_false T code stop (starts2 code G H (t.used ++ r')) (q1 (t.used ++ r')) (q2 (t.used ++ r')) (starts2_same G H t.used r r' h (same2 ts r a t.used e t.spelled) ∙ ap (λ (w : List T). starts2 code G H w) (sym t.parts) ∙ b) ∙ t.again r' h;
          }

      at1 : (ts r u : List T) → p1 ts ≡ No r → ts ≡ u ++ r → (x : T) (s : List T) → u ≡ [] → r ≡ x ∷ s → member (code x) G ≡ false
      at1 ts r u e parts x s n h = bool_false (member (code x) G) (λ m. c.alert1 x s m (ap (λ (w : List T). p1 w) (sym (parts ∙ ap (λ (w : List T). w ++ r) n ∙ h)) ∙ e ∙ ap (λ (w : List T). halted w) h))
        where
          halted : List T → Out T A
          halted w = No w

      at2 : (ts r u : List T) → p2 ts ≡ No r → ts ≡ u ++ r → (x : T) (s : List T) → u ≡ [] → r ≡ x ∷ s → member (code x) G ≡ false
      at2 ts r u e parts x s n h = bool_false (member (code x) G) (λ m. c.alert2 x s m (ap (λ (w : List T). p2 w) (sym (parts ∙ ap (λ (w : List T). w ++ r) n ∙ h)) ∙ e ∙ ap (λ (w : List T). halted w) h))
        where
          halted : List T → Out T A
          halted w = No w

      stuck : (ts r : List T) → ((starts2 code G H ts ≡ true) × (p1 ts ≡ No r)) ⊎ ((starts2 code G H ts ≡ false) × (p2 ts ≡ No r)) → Stuck T code stop (choose2 code G H q1 q2) (λ a u. S1 a u ⊎ S2 a u) ts r
      stuck ts r (inl (b, e)) =
          let t = P1.no ts r e in
          record {
            used = t.used;
            parts = t.parts;
            rest = t.rest;
            value = t.value;
            spelled = inl t.spelled;
            again = λ r' h. cond_true T code stop (starts2 code G H (t.used ++ r')) (q1 (t.used ++ r')) (q2 (t.used ++ r')) (starts2_same G H t.used r r' h (at1 ts r t.used e t.parts) ∙ ap (λ (w : List T). starts2 code G H w) (sym t.parts) ∙ b) ∙ t.again r' h;
          }
      stuck ts r (inr (b, e)) =
          let t = P2.no ts r e in
          record {
            used = t.used;
            parts = t.parts;
            rest = t.rest;
            value = t.value;
            spelled = inr t.spelled;
            again = λ r' h. cond_false T code stop (starts2 code G H (t.used ++ r')) (q1 (t.used ++ r')) (q2 (t.used ++ r')) (starts2_same G H t.used r r' h (at2 ts r t.used e t.parts) ∙ ap (λ (w : List T). starts2 code G H w) (sym t.parts) ∙ b) ∙ t.again r' h;
          }

      whole : (a : A) (u r : List T) → S1 a u ⊎ S2 a u → length u < m → Stops T code stop C r → choose2 code G H p1 p2 (u ++ r) ≡ Yes a r
      whole a u r (inl s) lt st = cond_true T code stop (starts2 code G H (u ++ r)) (p1 (u ++ r)) (p2 (u ++ r)) (c.two a u r s) ∙ P1.complete a u r s lt (c.c1 r st)
      whole a u r (inr s) lt st = cond_false T code stop (starts2 code G H (u ++ r)) (p1 (u ++ r)) (p2 (u ++ r)) (c.other a u r s lt st) ∙ P2.complete a u r s lt (c.c2 r st)

      room : (ts : List T) → ((starts2 code G H ts ≡ true) × (p1 ts ≡ Deep)) ⊎ ((starts2 code G H ts ≡ false) × (p2 ts ≡ Deep)) → m ≤ length ts
      room ts (inl (b, e)) = P1.enough ts e
      room ts (inr (b, e)) = P2.enough ts e
