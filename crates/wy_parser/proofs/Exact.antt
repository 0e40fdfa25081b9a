-- What it is for a reader to be exact against a relation, and that each way to put readers together keeps it.
use Rattle.std.proofs.Common.{◌≡◌, ℕ, zero, suc, ◌+◌, ◌<◌, ◌≤◌, Bool, true, false, cond, ◌||◌, ◌&&◌, not, ◌==◌, List, [], ◌∷◌, ◌++◌, length, refl, sym, ap, subst, ◌∙◌, append_assoc, append-nil, ◌-◌, arith, inl, inr, ◌⊎◌}
use Rattle.std.proofs.lemmas.List.{length-append}
use Rattle.std.proofs.lemmas.Bool.{cases_lt}
use Rattle.wy_syntax.specs.Tokens.{member}
use Rattle.wy_parser.specs.Reading.{Out, Yes, No, Deep, Reader, and_then, ◌>>=◌, ret, starts, one_of, choose, fold_many}

module _ (T : Type 0) (code : T → ℕ) (stop : ℕ) where
  -- both begin with the same symbol
  abbrev pub SameFront : List T → List T → Type 0
  SameFront [] r' = ⊥
  SameFront (x ∷ r) [] = ⊥
  SameFront (x ∷ r) (y ∷ r') = x ≡ y

  -- begins with a symbol of the set, or is empty where that may be
  abbrev pub Begins : Bool → List ℕ → List T → Type 0
  Begins N F [] = N ≡ true
  Begins N F (x ∷ u) = member (code x) F ≡ true

  abbrev pub Stops : List ℕ → List T → Type 0
  Stops C [] = Unit {0}
  Stops C (x ∷ u) = member (code x) C ≡ false

  -- the symbol that ends all isn't among them
  abbrev pub Clean : List T → Type 0
  Clean [] = Unit {0}
  Clean (x ∷ u) = (code x ≡ stop → ⊥) × Clean u

  pub record Taken {A : Type 0} (q : Reader T A) (S : A → List T → Type 0) (ts r : List T) (a : A) : Type 0 where
    pub used : List T
    pub parts : ts ≡ used ++ r
    pub spelled : S a used
    -- the same whatever stands behind the next symbol
    pub again : (r' : List T) → SameFront r r' → q (used ++ r') ≡ Yes a r'

  pub record Stuck {A : Type 0} (q : Reader T A) (S : A → List T → Type 0) (ts r : List T) : Type 0 where
    pub used : List T
    pub parts : ts ≡ used ++ r
    -- what was read can be completed
    pub rest : List T
    pub value : A
    pub spelled : S value (used ++ rest)
    pub again : (r' : List T) → SameFront r r' → q (used ++ r') ≡ No r'

  -- p reads what S says; q is the same reader with more depth
  pub record Exact {A : Type 0} (p q : Reader T A) (S : A → List T → Type 0) (F C : List ℕ) (N : Bool) (m : ℕ) : Type 0 where
    pub begins : (a : A) (u : List T) → S a u → length u < m → Begins N F u
    pub yes : (ts r : List T) (a : A) → p ts ≡ Yes a r → Taken q S ts r a
    pub no : (ts r : List T) → p ts ≡ No r → Stuck q S ts r
    pub complete : (a : A) (u r : List T) → S a u → length u < m → Stops C r → p (u ++ r) ≡ Yes a r
    pub enough : (ts : List T) → p ts ≡ Deep → m ≤ length ts
    pub clean : (a : A) (u : List T) → S a u → length u < m → Clean u

  pub clean_both : (u v : List T) → Clean u → Clean v → Clean (u ++ v)
  clean_both [] v h k = k
  clean_both (x ∷ u) v h k = (h.0, clean_both u v h.1 k)

  pub record Spelled {A : Type 0} (S : A → List T → Type 0) : Type 0 where
    pub value : A
    pub text : List T
    pub spelled : S value text

  -- one after the other
  pub record Seq {A B : Type 0} (S : A → List T → Type 0) (R : A → B → List T → Type 0) (b : B) (u : List T) : Type 0 where
    pub value : A
    pub front : List T
    pub back : List T
    pub parts : u ≡ front ++ back
    pub first : S value front
    pub second : R value b back

  abbrev pub width : Bool → ℕ
  width true = 0
  width false = 1

  -- ---- on results

  abbrev gives : {A : Type 0} → A → List T → Out T A
  gives a r = Yes a r

  abbrev stopped : {B : Type 0} → List T → Out T B
  stopped s = No s

  yes_of : {A B : Type 0} (o : Out T A) (f : A → List T → Out T B) (b : B) (r : List T) → and_then o f ≡ Yes b r → (a : A) × (s : List T) × (o ≡ Yes a s) × (f a s ≡ Yes b r)
  yes_of (Yes a s) f b r e = (a, s, refl, e)
  yes_of (No s) f b r e = absurd cc
  yes_of Deep f b r e = absurd cc

  no_is : {B : Type 0} (s r : List T) → stopped {B = B} s ≡ No r → s ≡ r
  no_is s r e = cc

  no_of : {A B : Type 0} (o : Out T A) (f : A → List T → Out T B) (r : List T) → and_then o f ≡ No r → (o ≡ No r) ⊎ ((a : A) × (s : List T) × (o ≡ Yes a s) × (f a s ≡ No r))
  no_of (Yes a s) f r e = inr (a, s, refl, e)
  no_of (No s) f r e = inl (ap (λ (t : List T). No t) (no_is s r e))
  no_of Deep f r e = absurd cc

  deep_of : {A B : Type 0} (o : Out T A) (f : A → List T → Out T B) → and_then o f ≡ Deep → (o ≡ Deep) ⊎ ((a : A) × (s : List T) × (o ≡ Yes a s) × (f a s ≡ Deep))
  deep_of (Yes a s) f e = inr (a, s, refl, e)
  deep_of (No s) f e = absurd cc
  deep_of Deep f e = inl refl

  bind_is : {A B : Type 0} (o : Out T A) (g : A → List T → Out T B) (a : A) (s : List T) (x : Out T B) → o ≡ Yes a s → g a s ≡ x → and_then o g ≡ x
  bind_is {A} o g a s x e h = ap (λ (o : Out T A). and_then o g) e ∙ h

  bind_no : {A B : Type 0} (o : Out T A) (g : A → List T → Out T B) (s : List T) → o ≡ No s → and_then o g ≡ No s
  bind_no {A} o g s e = ap (λ (o : Out T A). and_then o g) e

  -- ---- on fronts

  same_front : (v r r' : List T) → SameFront r r' → SameFront (v ++ r) (v ++ r')
  same_front [] r r' h = h
  same_front (x ∷ v) r r' h = refl

  front_width : (N : Bool) (F : List ℕ) (u : List T) → Begins N F u → width N ≤ length u
  front_width true F u h = omega arith
  front_width false F [] h = absurd cc
  front_width false F (x ∷ u) h = omega arith

  -- ---- one after the other

  pub record Fit (F1 C1 : List ℕ) (N1 : Bool) (F2 C2 : List ℕ) (N2 : Bool) (F C : List ℕ) (N : Bool) : Type 0 where
    pub begins : (u v : List T) → Begins N1 F1 u → Begins N2 F2 v → Begins N F (u ++ v)
    pub stops1 : (v r : List T) → Begins N2 F2 v → Stops C r → Stops C1 (v ++ r)
    pub stops2 : (r : List T) → Stops C r → Stops C2 r

  pub exact-bind : {A B : Type 0} (p q : Reader T A) (S : A → List T → Type 0) (f g : A → Reader T B) (R : A → B → List T → Type 0) (F1 C1 F2 C2 F C : List ℕ) (N1 N2 N : Bool) (m1 m2 m : ℕ) → Exact p q S F1 C1 N1 m1 → ((a : A) → Exact (f a) (g a) (R a) F2 C2 N2 m2) → ((a : A) → Spelled (R a)) → Fit F1 C1 N1 F2 C2 N2 F C N → m ≤ m1 → m ≤ m2 + width N1 → Exact (p >>= f) (q >>= g) (Seq S R) F C N m
  exact-bind {A} {B} p q S f g R F1 C1 F2 C2 F C N1 N2 N m1 m2 m P Q some fit le1 le2 =
      record {
        begins = λ b u s lt. begins b u s lt;
        yes = λ ts r b e. read (yes_of (p ts) f b r e);
        no = λ ts r e. stuck ts r (no_of (p ts) f r e);
        complete = λ b u r s lt st. whole b u r s lt st;
        enough = λ ts e. room ts (deep_of (p ts) f e);
        clean = λ b u s lt. clean b u s lt;
      }
    where
      clean : (b : B) (u : List T) → Seq S R b u → length u < m → Clean u
      clean b u s lt =
          let len : length u ≡ length s.front + length s.back = ap (λ (w : List T). length w) s.parts ∙ length-append s.front s.back in
          let wide : width N1 ≤ length s.front = front_width N1 F1 s.front (P.begins s.value s.front s.first (omega arith)) in
          subst (λ (w : List T). Clean w) (sym s.parts) (clean_both s.front s.back (P.clean s.value s.front s.first (omega arith)) ((Q s.value).clean b s.back s.second (omega arith)))

      begins : (b : B) (u : List T) → Seq S R b u → length u < m → Begins N F u
      begins b u s lt =
          let len : length u ≡ length s.front + length s.back = ap (λ (w : List T). length w) s.parts ∙ length-append s.front s.back in
          let first = P.begins s.value s.front s.first (omega arith) in
          let wide : width N1 ≤ length s.front = front_width N1 F1 s.front first in
          subst (λ (w : List T). Begins N F w) (sym s.parts) (fit.begins s.front s.back first ((Q s.value).begins b s.back s.second (omega arith)))

      read : {ts r : List T} {b : B} → (a : A) × (s : List T) × (p ts ≡ Yes a s) × (f a s ≡ Yes b r) → Taken (q >>= g) (Seq S R) ts r b
      read {ts} {r} {b} (a, s, e1, e2) =
          let t1 = P.yes ts s a e1 in
          let t2 = (Q a).yes s r b e2 in
          record {
            used = t1.used ++ t2.used;
            parts = t1.parts ∙ ap (λ (w : List T). t1.used ++ w) t2.parts ∙ sym (append_assoc t1.used t2.used r);
            spelled = record { value = a; front = t1.used; back = t2.used; parts = refl; first = t1.spelled; second = t2.spelled };
            again = λ r' h. rw append_assoc (bind_is (q (t1.used ++ (t2.used ++ r'))) g a (t2.used ++ r') (Yes b r') (t1.again (t2.used ++ r') (subst (λ (w : List T). SameFront w (t2.used ++ r')) (sym t2.parts) (same_front t2.used r r' h))) (t2.again r' h));
          }

      stuck : (ts r : List T) → (p ts ≡ No r) ⊎ ((a : A) × (s : List T) × (p ts ≡ Yes a s) × (f a s ≡ No r)) → Stuck (q >>= g) (Seq S R) ts r
      stuck ts r (inl e) =
          let t = P.no ts r e in
          let next = some t.value in
          record {
            used = t.used;
            parts = t.parts;
            rest = t.rest ++ next.text;
            value = next.value;
            spelled = record { value = t.value; front = t.used ++ t.rest; back = next.text; parts = sym (append_assoc t.used t.rest next.text); first = t.spelled; second = next.spelled };
            again = λ r' h. bind_no (q (t.used ++ r')) g r' (t.again r' h);
          }
      stuck ts r (inr (a, s, e1, e2)) =
          let t1 = P.yes ts s a e1 in
          let t2 = (Q a).no s r e2 in
          record {
            used = t1.used ++ t2.used;
            parts = t1.parts ∙ ap (λ (w : List T). t1.used ++ w) t2.parts ∙ sym (append_assoc t1.used t2.used r);
            rest = t2.rest;
            value = t2.value;
            spelled = record { value = a; front = t1.used; back = t2.used ++ t2.rest; parts = append_assoc t1.used t2.used t2.rest; first = t1.spelled; second = t2.spelled };
            again = λ r' h. rw append_assoc (bind_is (q (t1.used ++ (t2.used ++ r'))) g a (t2.used ++ r') (No r') (t1.again (t2.used ++ r') (subst (λ (w : List T). SameFront w (t2.used ++ r')) (sym t2.parts) (same_front t2.used r r' h))) (t2.again r' h));
          }

      whole : (b : B) (u r : List T) → Seq S R b u → length u < m → Stops C r → (p >>= f) (u ++ r) ≡ Yes b r
      whole b u r s lt st =
          let len : length u ≡ length s.front + length s.back = ap (λ (w : List T). length w) s.parts ∙ length-append s.front s.back in
          let wide : width N1 ≤ length s.front = front_width N1 F1 s.front (P.begins s.value s.front s.first (omega arith)) in
          let e : u ++ r ≡ s.front ++ (s.back ++ r) = ap (λ (w : List T). w ++ r) s.parts ∙ append_assoc s.front s.back r in
          rw e (bind_is (p (s.front ++ (s.back ++ r))) f s.value (s.back ++ r) (Yes b r)
          (P.complete s.value s.front (s.back ++ r) s.first (omega arith) (fit.stops1 s.back r ((Q s.value).begins b s.back s.second (omega arith)) st))
          ((Q s.value).complete b s.back r s.second (omega arith) (fit.stops2 r st)))

      by_length : (ts : List T) → (length ts < m → m ≤ length ts) → m ≤ length ts
      by_length ts h = elim (cases_lt (length ts) m) [ inl lt ↦ h lt | inr le ↦ le ]

      room : (ts : List T) → (p ts ≡ Deep) ⊎ ((a : A) × (s : List T) × (p ts ≡ Yes a s) × (f a s ≡ Deep)) → m ≤ length ts
      room ts (inl e) = let h = P.enough ts e in omega arith
      room ts (inr (a, s, e1, e2)) =
          let t = P.yes ts s a e1 in
          let len : length ts ≡ length t.used + length s = ap (λ (w : List T). length w) t.parts ∙ length-append t.used s in
          let h = (Q a).enough s e2 in
          by_length ts (λ lt.
          let wide : width N1 ≤ length t.used = front_width N1 F1 t.used (P.begins a t.used t.spelled (omega arith)) in
          omega arith)

  -- ---- sets of codes

  abbrev pub subset : List ℕ → List ℕ → Bool
  subset [] b = true
  subset (x ∷ a) b = member x b && subset a b

  abbrev pub apart : List ℕ → List ℕ → Bool
  apart [] b = true
  apart (x ∷ a) b = not (member x b) && apart a b

  eq_is : (n k : ℕ) → (n == k) ≡ true → n ≡ k
  eq_is n k e = grind arith

  or_cases : (a b : Bool) → (a || b) ≡ true → (a ≡ true) ⊎ (b ≡ true)
  or_cases true b e = inl refl
  or_cases false b e = inr e

  and_cases : (a b : Bool) → (a && b) ≡ true → (a ≡ true) × (b ≡ true)
  and_cases true b e = (refl, e)
  and_cases false b e = absurd cc

  not_true : (b : Bool) → not b ≡ true → b ≡ false
  not_true true e = absurd cc
  not_true false e = refl

  pub in_subset : (n : ℕ) (a b : List ℕ) → subset a b ≡ true → member n a ≡ true → member n b ≡ true
  in_subset n [] b s h = absurd cc
  in_subset n (x ∷ a) b s h =
      let t = and_cases (member x b) (subset a b) s in
      elim (or_cases (n == x) (member n a) h) [
        | inl e ↦ subst (λ (k : ℕ). member k b ≡ true) (sym (eq_is n x e)) t.0
        | inr m ↦ in_subset n a b t.1 m
      ]

  pub not_in : (n : ℕ) (a b : List ℕ) → apart a b ≡ true → member n a ≡ true → member n b ≡ false
  not_in n [] b s h = absurd cc
  not_in n (x ∷ a) b s h =
      let t = and_cases (not (member x b)) (apart a b) s in
      elim (or_cases (n == x) (member n a) h) [
        | inl e ↦ subst (λ (k : ℕ). member k b ≡ false) (sym (eq_is n x e)) (not_true (member x b) t.0)
        | inr m ↦ not_in n a b t.1 m
      ]

  bool_false : (b : Bool) → (b ≡ true → ⊥) → b ≡ false
  bool_false true h = absurd (h refl)
  bool_false false h = refl

  pub out_of_subset : (n : ℕ) (a b : List ℕ) → subset a b ≡ true → member n b ≡ false → member n a ≡ false
  out_of_subset n a b s h = bool_false (member n a) (λ m. let k = in_subset n a b s m in absurd cc)

  pub stops_less : (A B : List ℕ) (r : List T) → subset A B ≡ true → Stops B r → Stops A r
  stops_less A B [] s h = tt
  stops_less A B (x ∷ r) s h = out_of_subset (code x) A B s h

  pub begins_more : (N M : Bool) (F G : List ℕ) (u : List T) → subset F G ≡ true → (not N || M) ≡ true → Begins N F u → Begins M G u
  begins_more true M F G [] s n h = n
  begins_more false M F G [] s n h = absurd cc
  begins_more N M F G (x ∷ u) s n h = in_subset (code x) F G s h

  -- the test of the sets that one after the other needs
  pub record Sets (F1 C1 : List ℕ) (N1 : Bool) (F2 C2 : List ℕ) (N2 : Bool) (F C : List ℕ) (N : Bool) : Type 0 where
    pub first : subset F1 F ≡ true
    pub second : (not N1 || subset F2 F) ≡ true
    pub empty : (not (N1 && N2) || N) ≡ true
    pub clear : apart F2 C1 ≡ true
    pub through : (not N2 || subset C1 C) ≡ true
    pub behind : subset C2 C ≡ true

  pub fit_of : (F1 C1 : List ℕ) (N1 : Bool) (F2 C2 : List ℕ) (N2 : Bool) (F C : List ℕ) (N : Bool) → Sets F1 C1 N1 F2 C2 N2 F C N → Fit F1 C1 N1 F2 C2 N2 F C N
  fit_of F1 C1 N1 F2 C2 N2 F C N t = record {
    begins = λ u v h k. begins N1 N2 u v h k t.second t.empty;
    stops1 = λ v r h k. stops N2 v r h k t.through;
    stops2 = λ r k. stops_less C2 C r t.behind k;
  }
    where
      begins : (N1 N2 : Bool) (u v : List T) → Begins N1 F1 u → Begins N2 F2 v → (not N1 || subset F2 F) ≡ true → (not (N1 && N2) || N) ≡ true → Begins N F (u ++ v)
      begins true true [] v h k s e = begins_more true N F2 F v s e k
      begins true false [] v h k s e = begins_more false N F2 F v s refl k
      begins false N2 [] v h k s e = absurd cc
      begins N1 N2 (x ∷ u) v h k s e = in_subset (code x) F1 F t.first h

      stops : (N2 : Bool) (v r : List T) → Begins N2 F2 v → Stops C r → (not N2 || subset C1 C) ≡ true → Stops C1 (v ++ r)
      stops true [] r h k s = stops_less C1 C r s k
      stops false [] r h k s = absurd cc
      stops N2 (x ∷ v) r h k s = not_in (code x) F2 C1 t.clear h

  -- ---- the plain readers

  pub record Is {A : Type 0} (a b : A) (u : List T) : Type 0 where
    pub same : b ≡ a
    pub empty : u ≡ []

  taken_eq : {A : Type 0} (a b : A) (r s : List T) → gives a r ≡ Yes b s → (a ≡ b) × (r ≡ s)
  taken_eq a b r s e = (cc, cc)

  pub exact-ret : {A : Type 0} (a : A) (m : ℕ) → Exact (ret a) (ret a) (Is a) [] [] true m
  exact-ret {A} a m = record {
    begins = λ b u s lt. subst (λ (w : List T). Begins true [] w) (sym s.empty) refl;
    yes = λ ts r b e. let k = taken_eq a b ts r e in record {
      used = [];
      parts = k.1;
      spelled = record { same = sym k.0; empty = refl };
      again = λ r' h. ap (λ (x : A). gives x r') k.0;
    };
    no = λ ts r e. absurd cc;
    complete = λ b u r s lt st. ap (λ (w : List T). gives a (w ++ r)) s.empty ∙ ap (λ (x : A). gives x r) (sym s.same);
    enough = λ ts e. absurd cc;
    clean = λ b u s lt. subst (λ (w : List T). Clean w) (sym s.empty) tt;
  }

  pub record One (G : List ℕ) (x : T) (u : List T) : Type 0 where
    pub only : u ≡ x ∷ []
    pub fits : member (code x) G ≡ true

  pub exact-one_of : (G : List ℕ) (x0 : T) (m : ℕ) → member (code x0) G ≡ true → member stop G ≡ false → Exact (one_of code G) (one_of code G) (One G) G [] false m
  exact-one_of G x0 m h0 hs = record {
    begins = λ x u s lt. subst (λ (w : List T). Begins false G w) (sym s.only) s.fits;
    yes = λ ts r x e. read ts r x e;
    no = λ ts r e. stuck ts r e;
    complete = λ x u r s lt st. ap (λ (w : List T). one_of code G (w ++ r)) s.only ∙ if_in (member (code x) G) x r s.fits;
    enough = λ ts e. room ts e;
    clean = λ x u s lt. subst (λ (w : List T). Clean w) (sym s.only) ((λ (e : code x ≡ stop). apart_from x s.fits e), tt);
  }
    where
      apart_from : (x : T) → member (code x) G ≡ true → code x ≡ stop → ⊥
      apart_from x f e = let k : member stop G ≡ true = subst (λ (j : ℕ). member j G ≡ true) e f in cc

      if_in : (b : Bool) (x : T) (r : List T) → b ≡ true → cond b (gives x r) (No (x ∷ r)) ≡ Yes x r
      if_in true x r e = refl
      if_in false x r e = absurd cc

      if_out : (b : Bool) (x : T) (r : List T) → b ≡ false → cond b (gives x r) (No (x ∷ r)) ≡ No (x ∷ r)
      if_out true x r e = absurd cc
      if_out false x r e = refl

      in_if : (b : Bool) (x y : T) (r s : List T) → cond b (gives x r) (No (x ∷ r)) ≡ Yes y s → (b ≡ true) × (x ≡ y) × (r ≡ s)
      in_if true x y r s e = (refl, cc, cc)
      in_if false x y r s e = absurd cc

      out_if : (b : Bool) (x : T) (r s : List T) → cond b (gives x r) (No (x ∷ r)) ≡ No s → (b ≡ false) × (x ∷ r ≡ s)
      out_if true x r s e = absurd cc
      out_if false x r s e = (refl, no_is (x ∷ r) s e)

      read : (ts r : List T) (x : T) → one_of code G ts ≡ Yes x r → Taken (one_of code G) (One G) ts r x
      read [] r x e = absurd cc
      read (y ∷ ts) r x e =
          let k = in_if (member (code y) G) y x ts r e in
          let fits : member (code x) G ≡ true = subst (λ (z : T). member (code z) G ≡ true) k.1 k.0 in
          record {
            used = x ∷ [];
            parts = ap (λ (z : T). z ∷ ts) k.1 ∙ ap (λ (w : List T). x ∷ w) k.2;
            spelled = record { only = refl; fits = fits };
            again = λ r' h. if_in (member (code x) G) x r' fits;
          }

      stuck : (ts r : List T) → one_of code G ts ≡ No r → Stuck (one_of code G) (One G) ts r
      stuck [] r e = record {
        used = [];
        parts = no_is [] r e;
        rest = x0 ∷ [];
        value = x0;
        spelled = record { only = refl; fits = h0 };
        again = λ r' h. absurd (subst (λ (w : List T). SameFront w r') (sym (no_is [] r e)) h);
      }
      stuck (y ∷ ts) r e =
          let k = out_if (member (code y) G) y ts r e in
          record {
            used = [];
            parts = k.1;
            rest = x0 ∷ [];
            value = x0;
            spelled = record { only = refl; fits = h0 };
            again = λ r' h. same y ts r' k.0 (subst (λ (w : List T). SameFront w r') (sym k.1) h);
          }
        where
          same : (y : T) (ts r' : List T) → member (code y) G ≡ false → SameFront (y ∷ ts) r' → one_of code G r' ≡ No r'
          same y ts [] f h = absurd h
          same y ts (z ∷ r') f h = if_out (member (code z) G) z r' (subst (λ (w : T). member (code w) G ≡ false) h f)

      room : (ts : List T) → one_of code G ts ≡ Deep → m ≤ length ts
      room [] e = absurd cc
      room (y ∷ ts) e = absurd (never (member (code y) G) y ts e)
        where
          never : (b : Bool) (x : T) (r : List T) → cond b (gives x r) (No (x ∷ r)) ≡ Deep → ⊥
          never true x r e = absurd cc
          never false x r e = absurd cc

  -- ---- another relation that says the same, another value, other sets

  pub exact-iff : {A : Type 0} (p q : Reader T A) (S R : A → List T → Type 0) (F C F' C' : List ℕ) (N : Bool) (m m' : ℕ) → Exact p q S F C N m → ((a : A) (u : List T) → S a u → R a u) → ((a : A) (u : List T) → length u < m' → R a u → S a u) → subset F F' ≡ true → subset C C' ≡ true → m' ≤ m → Exact p q R F' C' N m'
  exact-iff p q S R F C F' C' N m m' P to from f c le = record {
    begins = λ a u s lt. begins_more N N F F' u f (self N) (P.begins a u (from a u lt s) (omega arith));
    yes = λ ts r a e. let t = P.yes ts r a e in record { used = t.used; parts = t.parts; spelled = to a t.used t.spelled; again = t.again };
    no = λ ts r e. let t = P.no ts r e in record { used = t.used; parts = t.parts; rest = t.rest; value = t.value; spelled = to t.value (t.used ++ t.rest) t.spelled; again = t.again };
    complete = λ a u r s lt st. P.complete a u r (from a u lt s) (omega arith) (stops_less C C' r c st);
    enough = λ ts e. let h = P.enough ts e in omega arith;
    clean = λ a u s lt. P.clean a u (from a u lt s) (omega arith);
  }
    where
      self : (N : Bool) → (not N || N) ≡ true
      self true = refl
      self false = refl

  pub record Mapped {A B : Type 0} (f : A → B) (S : A → List T → Type 0) (b : B) (u : List T) : Type 0 where
    pub value : A
    pub is : b ≡ f value
    pub spelled : S value u

  pub exact-map : {A B : Type 0} (p q : Reader T A) (f : A → B) (S : A → List T → Type 0) (F C : List ℕ) (N : Bool) (m : ℕ) → Exact p q S F C N m → Exact (p >>= λ a. ret (f a)) (q >>= λ a. ret (f a)) (Mapped f S) F C N m
  exact-map {A} {B} p q f S F C N m P = record {
    begins = λ b u s lt. P.begins s.value u s.spelled lt;
    yes = λ ts r b e. read ts r b (yes_of (p ts) (λ a. ret (f a)) b r e);
    no = λ ts r e. stuck ts r (no_of (p ts) (λ a. ret (f a)) r e);
    complete = λ b u r s lt st. bind_is (p (u ++ r)) (λ a. ret (f a)) s.value r (Yes b r) (P.complete s.value u r s.spelled lt st) (ap (λ (x : B). gives x r) (sym s.is));
    enough = λ ts e. room ts (deep_of (p ts) (λ a. ret (f a)) e);
    clean = λ b u s lt. P.clean s.value u s.spelled lt;
  }
    where
      read : (ts r : List T) (b : B) → (a : A) × (s : List T) × (p ts ≡ Yes a s) × (gives (f a) s ≡ Yes b r) → Taken (q >>= λ a. ret (f a)) (Mapped f S) ts r b
      read ts r b (a, s, e1, e2) =
          let k = taken_eq (f a) b s r e2 in
          let e3 : p ts ≡ Yes a r = e1 ∙ ap (λ (w : List T). gives a w) k.1 in
          let t = P.yes ts r a e3 in
          record {
            used = t.used;
            parts = t.parts;
            spelled = record { value = a; is = sym k.0; spelled = t.spelled };
            again = λ r' h. bind_is (q (t.used ++ r')) (λ a. ret (f a)) a r' (Yes b r') (t.again r' h) (ap (λ (x : B). gives x r') k.0);
          }

      stuck : (ts r : List T) → (p ts ≡ No r) ⊎ ((a : A) × (s : List T) × (p ts ≡ Yes a s) × (gives (f a) s ≡ No r)) → Stuck (q >>= λ a. ret (f a)) (Mapped f S) ts r
      stuck ts r (inl e) =
          let t = P.no ts r e in
          record {
            used = t.used;
            parts = t.parts;
            rest = t.rest;
            value = f t.value;
            spelled = record { value = t.value; is = refl; spelled = t.spelled };
            again = λ r' h. bind_no (q (t.used ++ r')) (λ a. ret (f a)) r' (t.again r' h);
          }
      stuck ts r (inr (a, s, e1, e2)) = absurd cc

      room : (ts : List T) → (p ts ≡ Deep) ⊎ ((a : A) × (s : List T) × (p ts ≡ Yes a s) × (gives (f a) s ≡ Deep)) → m ≤ length ts
      room ts (inl e) = P.enough ts e
      room ts (inr (a, s, e1, e2)) = absurd cc

  -- ---- a choice by the next symbol

  pub starts_same : (G : List ℕ) (u r r' : List T) → SameFront r r' → starts code G (u ++ r') ≡ starts code G (u ++ r)
  starts_same G [] [] r' h = absurd h
  starts_same G [] (x ∷ r) [] h = absurd h
  starts_same G [] (x ∷ r) (y ∷ r') h = ap (λ (z : T). member (code z) G) (sym h)
  starts_same G (x ∷ u) r r' h = refl

  pub cond_true : {A : Type 0} (b : Bool) (x y : A) → b ≡ true → cond b x y ≡ x
  cond_true true x y e = refl
  cond_true false x y e = absurd cc

  pub cond_false : {A : Type 0} (b : Bool) (x y : A) → b ≡ false → cond b x y ≡ y
  cond_false true x y e = absurd cc
  cond_false false x y e = refl

  pub cond_cases : {A : Type 0} (b : Bool) (x y z : A) → cond b x y ≡ z → ((b ≡ true) × (x ≡ z)) ⊎ ((b ≡ false) × (y ≡ z))
  cond_cases true x y z e = inl (refl, e)
  cond_cases false x y z e = inr (refl, e)

  -- F1, not empty, is within G, which F2 avoids
  pub record Choice (G F1 C1 F2 C2 F C : List ℕ) (N2 : Bool) : Type 0 where
    pub inside : subset F1 G ≡ true
    pub outside : apart F2 G ≡ true
    pub behind : (not N2 || subset G C) ≡ true
    pub f1 : subset F1 F ≡ true
    pub f2 : subset F2 F ≡ true
    pub c1 : subset C1 C ≡ true
    pub c2 : subset C2 C ≡ true

  pub exact-choose : {A : Type 0} (G : List ℕ) (p1 q1 p2 q2 : Reader T A) (S1 S2 : A → List T → Type 0) (F1 C1 F2 C2 F C : List ℕ) (N2 : Bool) (m : ℕ) → Exact p1 q1 S1 F1 C1 false m → Exact p2 q2 S2 F2 C2 N2 m → Choice G F1 C1 F2 C2 F C N2 → Exact (choose code G p1 p2) (choose code G q1 q2) (λ a u. S1 a u ⊎ S2 a u) F C N2 m
  exact-choose {A} G p1 q1 p2 q2 S1 S2 F1 C1 F2 C2 F C N2 m P1 P2 c = record {
    begins = begins;
    yes = λ ts r a e. read ts r a (cond_cases (starts code G ts) (p1 ts) (p2 ts) (Yes a r) e);
    no = λ ts r e. stuck ts r (cond_cases (starts code G ts) (p1 ts) (p2 ts) (No r) e);
    complete = whole;
    enough = λ ts e. room ts (cond_cases (starts code G ts) (p1 ts) (p2 ts) Deep e);
    clean = clean;
  }
    where
      clean : (a : A) (u : List T) → S1 a u ⊎ S2 a u → length u < m → Clean u
      clean a u (inl s) lt = P1.clean a u s lt
      clean a u (inr s) lt = P2.clean a u s lt

      self : (N : Bool) → (not N || N) ≡ true
      self true = refl
      self false = refl

      none : (N : Bool) → (not false || N) ≡ true
      none N = refl

      begins : (a : A) (u : List T) → S1 a u ⊎ S2 a u → length u < m → Begins N2 F u
      begins a u (inl s) lt = begins_more false N2 F1 F u c.f1 (none N2) (P1.begins a u s lt)
      begins a u (inr s) lt = begins_more N2 N2 F2 F u c.f2 (self N2) (P2.begins a u s lt)

      read : (ts r : List T) (a : A) → ((starts code G ts ≡ true) × (p1 ts ≡ Yes a r)) ⊎ ((starts code G ts ≡ false) × (p2 ts ≡ Yes a r)) → Taken (choose code G q1 q2) (λ a u. S1 a u ⊎ S2 a u) ts r a
      read ts r a (inl (b, e)) =
          let t = P1.yes ts r a e in
          record {
            used = t.used;
            parts = t.parts;
            spelled = inl t.spelled;
            again = λ r' h. cond_true (starts code G (t.used ++ r')) (q1 (t.used ++ r')) (q2 (t.used ++ r')) (starts_same G t.used r r' h ∙ ap (λ (w : List T). starts code G w) (sym t.parts) ∙ b) ∙ t.again r' h;
          }
      read ts r a (inr (b, e)) =
          let t = P2.yes ts r a e in
          record {
            used = t.used;
            parts = t.parts;
            spelled = inr t.spelled;
            again = λ r' h. cond_false (starts code G (t.used ++ r')) (q1 (t.used ++ r')) (q2 (t.used ++ r')) (starts_same G t.used r r' h ∙ ap (λ (w : List T). starts code G w) (sym t.parts) ∙ b) ∙ t.again r' h;
          }

      stuck : (ts r : List T) → ((starts code G ts ≡ true) × (p1 ts ≡ No r)) ⊎ ((starts code G ts ≡ false) × (p2 ts ≡ No r)) → Stuck (choose code G q1 q2) (λ a u. S1 a u ⊎ S2 a u) ts r
      stuck ts r (inl (b, e)) =
          let t = P1.no ts r e in
          record {
            used = t.used;
            parts = t.parts;
            rest = t.rest;
            value = t.value;
            spelled = inl t.spelled;
            again = λ r' h. cond_true (starts code G (t.used ++ r')) (q1 (t.used ++ r')) (q2 (t.used ++ r')) (starts_same G t.used r r' h ∙ ap (λ (w : List T). starts code G w) (sym t.parts) ∙ b) ∙ t.again r' h;
          }
      stuck ts r (inr (b, e)) =
          let t = P2.no ts r e in
          record {
            used = t.used;
            parts = t.parts;
            rest = t.rest;
            value = t.value;
            spelled = inr t.spelled;
            again = λ r' h. cond_false (starts code G (t.used ++ r')) (q1 (t.used ++ r')) (q2 (t.used ++ r')) (starts_same G t.used r r' h ∙ ap (λ (w : List T). starts code G w) (sym t.parts) ∙ b) ∙ t.again r' h;
          }

      first_in : (u r : List T) → Begins false F1 u → starts code G (u ++ r) ≡ true
      first_in [] r h = absurd cc
      first_in (x ∷ u) r h = in_subset (code x) F1 G c.inside h

      first_out : (N2 : Bool) (u r : List T) → Begins N2 F2 u → Stops C r → (not N2 || subset G C) ≡ true → starts code G (u ++ r) ≡ false
      first_out N2 (x ∷ u) r h st b = not_in (code x) F2 G c.outside h
      first_out true [] [] h st b = refl
      first_out true [] (x ∷ r) h st b = out_of_subset (code x) G C b st
      first_out false [] r h st b = absurd cc

      whole : (a : A) (u r : List T) → S1 a u ⊎ S2 a u → length u < m → Stops C r → choose code G p1 p2 (u ++ r) ≡ Yes a r
      whole a u r (inl s) lt st = cond_true (starts code G (u ++ r)) (p1 (u ++ r)) (p2 (u ++ r)) (first_in u r (P1.begins a u s lt)) ∙ P1.complete a u r s lt (stops_less C1 C r c.c1 st)
      whole a u r (inr s) lt st = cond_false (starts code G (u ++ r)) (p1 (u ++ r)) (p2 (u ++ r)) (first_out N2 u r (P2.begins a u s lt) st c.behind) ∙ P2.complete a u r s lt (stops_less C2 C r c.c2 st)

      room : (ts : List T) → ((starts code G ts ≡ true) × (p1 ts ≡ Deep)) ⊎ ((starts code G ts ≡ false) × (p2 ts ≡ Deep)) → m ≤ length ts
      room ts (inl (b, e)) = P1.enough ts e
      room ts (inr (b, e)) = P2.enough ts e

  -- ---- any number of parts

  abbrev pub Many : {B : Type 0} → (B → List T → Type 0) → List B → List T → Type 0
  Many S [] u = u ≡ []
  Many S (b ∷ bs) u = (front : List T) × (back : List T) × (u ≡ front ++ back) × S b front × Many S bs back

  abbrev pub folded : {A B : Type 0} → (A → B → A) → A → List B → A
  folded add a [] = a
  folded add a (b ∷ bs) = folded add (add a b) bs

  pub record Folds {A B : Type 0} (S : B → List T → Type 0) (add : A → B → A) (a c : A) (u : List T) : Type 0 where
    pub items : List B
    pub is : c ≡ folded add a items
    pub spelled : Many S items u

  folds_to : {A B : Type 0} (S : B → List T → Type 0) (add : A → B → A) (a c : A) (u : List T) → Seq S (λ b. Folds S add (add a b)) c u ⊎ Is a c u → Folds S add a c u
  folds_to S add a c u (inl s) = record { items = s.value ∷ s.second.items; is = s.second.is; spelled = (s.front, s.back, s.parts, s.first, s.second.spelled) }
  folds_to S add a c u (inr s) = record { items = []; is = s.same; spelled = s.empty }

  folds_from : {A B : Type 0} (S : B → List T → Type 0) (add : A → B → A) (a c : A) (u : List T) → Folds S add a c u → Seq S (λ b. Folds S add (add a b)) c u ⊎ Is a c u
  folds_from {A} {B} S add a c u s = go s.items s.is s.spelled
    where
      go : (items : List B) → c ≡ folded add a items → Many S items u → Seq S (λ b. Folds S add (add a b)) c u ⊎ Is a c u
      go [] e m = inr (record { same = e; empty = m })
      go (b ∷ bs) e (front, back, parts, first, others) = inl (record { value = b; front = front; back = back; parts = parts; first = first; second = record { items = bs; is = e; spelled = others } })

  -- the sets of a loop over parts that begin in F and go on in C, while the next symbol is in G, with D behind it
  pub record Loop (F C G D : List ℕ) : Type 0 where
    pub same : subset F G ≡ true
    pub self : subset G G ≡ true
    pub clear : apart F C ≡ true
    pub outside : apart G C ≡ true
    pub behind : subset G D ≡ true
    pub behind_part : subset C D ≡ true
    pub behind_self : subset D D ≡ true

  pub exact-fold : {A B : Type 0} (F C G D : List ℕ) (m0 : ℕ) (p q : Reader T B) (S : B → List T → Type 0) (add : A → B → A) → Exact p q S F C false m0 → Loop F C G D → (n n' m : ℕ) (a : A) → n ≤ n' → m ≤ n → m ≤ m0 → Exact (fold_many code n G p add a) (fold_many code n' G q add a) (Folds S add a) G D true m
  exact-fold {A} {B} F C G D m0 p q S add P l zero n' m a h1 h2 h3 = record {
    begins = λ c u s lt. absurd (omega arith);
    yes = λ ts r c e. absurd cc;
    no = λ ts r e. absurd cc;
    complete = λ c u r s lt st. absurd (omega arith);
    enough = λ ts e. omega arith;
    clean = λ c u s lt. absurd (omega arith);
  }
  exact-fold {A} {B} F C G D m0 p q S add P l (suc n) zero m a h1 h2 h3 = absurd (omega arith)
  exact-fold {A} {B} F C G D m0 p q S add P l (suc n) (suc n') m a h1 h2 h3 =
      exact-iff (choose code G (p >>= λ b. fold_many code n G p add (add a b)) (ret a)) (choose code G (q >>= λ b. fold_many code n' G q add (add a b)) (ret a))
      (λ c u. Seq S (λ b. Folds S add (add a b)) c u ⊎ Is a c u) (Folds S add a) G D G D true m m
      (exact-choose G (p >>= λ b. fold_many code n G p add (add a b)) (q >>= λ b. fold_many code n' G q add (add a b)) (ret a) (ret a) (Seq S (λ b. Folds S add (add a b))) (Is a) G D [] [] G D true m
      (exact-bind p q S (λ b. fold_many code n G p add (add a b)) (λ b. fold_many code n' G q add (add a b)) (λ b. Folds S add (add a b)) F C G D G D false true false m0 (m - 1) m P
      (λ b. exact-fold F C G D m0 p q S add P l n n' (m - 1) (add a b) (omega arith) (omega arith) (omega arith))
      (λ b. record { value = add a b; text = []; spelled = record { items = []; is = refl; spelled = refl } })
      (fit_of F C false G D true G D false (record { first = l.same; second = refl; empty = refl; clear = l.outside; through = l.behind_part; behind = l.behind_self }))
      (omega arith) (omega arith))
      (exact-ret a m)
      (record { inside = l.self; outside = refl; behind = l.behind; f1 = l.self; f2 = refl; c1 = l.behind_self; c2 = refl }))
      (folds_to S add a) (λ c u lt s. folds_from S add a c u s) l.self l.behind_self (omega arith)

  -- ---- parts that group to the left

  many_snoc : {B : Type 0} (S : B → List T → Type 0) (bs : List B) (b : B) (u v : List T) → Many S bs u → S b v → Many S (bs ++ b ∷ []) (u ++ v)
  many_snoc S [] b u v m s = (v, [], ap (λ (w : List T). w ++ v) m ∙ sym (append-nil v), s, refl)
  many_snoc S (c ∷ bs) b u v (front, back, parts, first, others) s =
      (front, back ++ v, ap (λ (w : List T). w ++ v) parts ∙ append_assoc front back v, first, many_snoc S bs b back v others s)

  folded_snoc : {A B : Type 0} (add : A → B → A) (a : A) (bs : List B) (b : B) → folded add a (bs ++ b ∷ []) ≡ add (folded add a bs) b
  folded_snoc add a [] b = refl
  folded_snoc add a (c ∷ bs) b = folded_snoc add (add a c) bs b

  pub record Last {A B : Type 0} (L : A → List T → Type 0) (S2 : B → List T → Type 0) (add : A → B → A) (c : A) (u : List T) : Type 0 where
    pub left : A
    pub right : B
    pub front : List T
    pub back : List T
    pub is : c ≡ add left right
    pub parts : u ≡ front ++ back
    pub first : L left front
    pub second : S2 right back

  -- L is a head, or an L with one more part behind it
  pub record IsLeft {A B : Type 0} (S1 : A → List T → Type 0) (S2 : B → List T → Type 0) (add : A → B → A) (L : A → List T → Type 0) : Type 0 where
    pub head : (a : A) (u : List T) → S1 a u → L a u
    pub more : (a : A) (b : B) (u v : List T) → L a u → S2 b v → L (add a b) (u ++ v)
    pub split : (c : A) (u : List T) → L c u → S1 c u ⊎ Last L S2 add c u

  left_to : {A B : Type 0} (S1 : A → List T → Type 0) (S2 : B → List T → Type 0) (add : A → B → A) (L : A → List T → Type 0) → IsLeft S1 S2 add L → (c : A) (u : List T) → Seq S1 (Folds S2 add) c u → L c u
  left_to {A} {B} S1 S2 add L d c u s =
      subst (λ (w : List T). L c w) (sym s.parts) (subst (λ (x : A). L x (s.front ++ s.back)) (sym s.second.is) (go s.second.items s.value s.front s.back (d.head s.value s.front s.first) s.second.spelled))
    where
      go : (bs : List B) (a : A) (v w : List T) → L a v → Many S2 bs w → L (folded add a bs) (v ++ w)
      go [] a v w h m = subst (λ (z : List T). L a z) (sym (append-nil v) ∙ ap (λ (z : List T). v ++ z) (sym m)) h
      go (b ∷ bs) a v w h (front, back, parts, first, others) =
          subst (λ (z : List T). L (folded add (add a b) bs) z) (append_assoc v front back ∙ ap (λ (z : List T). v ++ z) (sym parts)) (go bs (add a b) (v ++ front) back (d.more a b v front h first) others)

  left_from : {A B : Type 0} (S1 : A → List T → Type 0) (S2 : B → List T → Type 0) (add : A → B → A) (L : A → List T → Type 0) (F2 : List ℕ) (m : ℕ) → IsLeft S1 S2 add L → ((b : B) (u : List T) → S2 b u → length u < m → Begins false F2 u) → (k : ℕ) (c : A) (u : List T) → length u < k → length u < m → L c u → Seq S1 (Folds S2 add) c u
  left_from S1 S2 add L F2 m d w zero c u lt lm h = absurd (omega arith)
  left_from {A} {B} S1 S2 add L F2 m d w (suc k) c u lt lm h = go (λ a v lt' lm' h'. left_from S1 S2 add L F2 m d w k a v lt' lm' h') (d.split c u h)
    where
      go : ((a : A) (v : List T) → length v < k → length v < m → L a v → Seq S1 (Folds S2 add) a v) → S1 c u ⊎ Last L S2 add c u → Seq S1 (Folds S2 add) c u
      go ih (inl s) = record { value = c; front = u; back = []; parts = sym (append-nil u); first = s; second = record { items = []; is = refl; spelled = refl } }
      go ih (inr s) =
          let len : length u ≡ length s.front + length s.back = ap (λ (w : List T). length w) s.parts ∙ length-append s.front s.back in
          let wide : 1 ≤ length s.back = front_width false F2 s.back (w s.right s.back s.second (omega arith)) in
          let t = ih s.left s.front (omega arith) (omega arith) s.first in
          record {
            value = t.value;
            front = t.front;
            back = t.back ++ s.back;
            parts = s.parts ∙ ap (λ (w : List T). w ++ s.back) t.parts ∙ append_assoc t.front t.back s.back;
            first = t.first;
            second = record {
              items = t.second.items ++ s.right ∷ [];
              is = s.is ∙ ap (λ (x : A). add x s.right) t.second.is ∙ sym (folded_snoc add t.value t.second.items s.right);
              spelled = many_snoc S2 t.second.items s.right t.back s.back t.second.spelled s.second;
            };
          }

  pub exact-left : {A B : Type 0} (F1 C1 F2 C2 G D : List ℕ) (m1 m2 : ℕ) (p1 q1 : Reader T A) (p2 q2 : Reader T B) (S1 : A → List T → Type 0) (S2 : B → List T → Type 0) (add : A → B → A) (L : A → List T → Type 0) → Exact p1 q1 S1 F1 C1 false m1 → Exact p2 q2 S2 F2 C2 false m2 → Loop F2 C2 G D → Fit F1 C1 false G D true F1 D false → IsLeft S1 S2 add L → subset F1 F1 ≡ true → (n n' m : ℕ) → n ≤ n' → m ≤ n → m ≤ m1 → m ≤ m2 → Exact (p1 >>= λ a. fold_many code n G p2 add a) (q1 >>= λ a. fold_many code n' G q2 add a) L F1 D false m
  exact-left F1 C1 F2 C2 G D m1 m2 p1 q1 p2 q2 S1 S2 add L P1 P2 l fit d s n n' m h1 h2 h3 h4 =
      exact-iff (p1 >>= λ a. fold_many code n G p2 add a) (q1 >>= λ a. fold_many code n' G q2 add a) (Seq S1 (Folds S2 add)) L F1 D F1 D false m m
      (exact-bind p1 q1 S1 (λ a. fold_many code n G p2 add a) (λ a. fold_many code n' G q2 add a) (Folds S2 add) F1 C1 G D F1 D false true false m1 m m P1
      (λ a. exact-fold F2 C2 G D m2 p2 q2 S2 add P2 l n n' m a h1 h2 h4)
      (λ a. record { value = a; text = []; spelled = record { items = []; is = refl; spelled = refl } })
      fit h3 (omega arith))
      (left_to S1 S2 add L d) (λ c u lt h. left_from S1 S2 add L F2 m2 d P2.begins (suc (length u)) c u (omega arith) (omega arith) h) s l.behind_self (omega arith)
