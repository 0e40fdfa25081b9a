-- Parts in a row, the last of which isn't of a kind that must go on.
use Rattle.std.proofs.Common.{◌≡◌, ℕ, zero, suc, ◌-◌, ◌≤◌, Bool, true, false, cond, List, [], ◌∷◌, ◌++◌, refl, sym, ap, subst, ◌∙◌, append-nil, arith, inl, inr, ◌⊎◌}
use Rattle.wy_parser.specs.Reading.{Reader, ◌>>=◌, ret, choose, next, blocks}
use Rattle.wy_parser.proofs.Exact.{Begins, Exact, Spelled, Seq, Is, Mapped, subset, apart, fit_of, exact-bind, exact-map, exact-iff, exact-ret, exact-choose}

module _ (T : Type 0) (code : T → ℕ) (stop : ℕ) where
  abbrev pub Blocks : {A : Type 0} → (A → Bool) → (A → List T → Type 0) → List A → List T → Type 0
  Blocks goes S [] u = ⊥
  Blocks goes S (a ∷ []) u = S a u × (goes a ≡ false)
  Blocks goes S (a ∷ b ∷ xs) u = (front : List T) × (back : List T) × (u ≡ front ++ back) × S a front × Blocks goes S (b ∷ xs) back

  -- a part that may be the last
  pub record Ending {A : Type 0} (goes : A → Bool) (S : A → List T → Type 0) : Type 0 where
    pub value : A
    pub text : List T
    pub spelled : S value text
    pub last : goes value ≡ false

  abbrev Rest : {A : Type 0} → (A → Bool) → (A → List T → Type 0) → A → List A → List T → Type 0
  Rest {A} goes S a xs u = Mapped T code stop (λ (bs : List A). a ∷ bs) (Blocks goes S) xs u ⊎ ((goes a ≡ false) × Is T code stop (a ∷ []) xs u)

  nullable : {A : Type 0} (p q : Reader T A) (S : A → List T → Type 0) (F C : List ℕ) (m : ℕ) → subset T code stop F F ≡ true → Exact T code stop p q S F C false m → Exact T code stop p q S F C true m
  nullable p q S F C m sf P = record {
    begins = λ a u s lt. more u (P.begins a u s lt);
    yes = P.yes;
    no = P.no;
    complete = P.complete;
    enough = P.enough;
    clean = P.clean;
  }
    where
      more : (u : List T) → Begins T code stop false F u → Begins T code stop true F u
      more [] h = refl
      more (x ∷ u) h = h

  pub record Row (F C D : List ℕ) : Type 0 where
    pub f : subset T code stop F F ≡ true
    pub d : subset T code stop D D ≡ true
    pub fd : subset T code stop F D ≡ true
    pub cd : subset T code stop C D ≡ true
    pub clear : apart T code stop F C ≡ true

  blocks_to : {A : Type 0} (goes : A → Bool) (S : A → List T → Type 0) (xs : List A) (u : List T) → Seq T code stop S (λ a. Rest goes S a) xs u → Blocks goes S xs u
  blocks_to {A} goes S xs u s = go s.second
    where
      more : (bs : List A) → Blocks goes S bs s.back → Blocks goes S (s.value ∷ bs) u
      more [] h = absurd h
      more (b ∷ bs) h = (s.front, s.back, s.parts, s.first, h)

      go : Rest goes S s.value xs s.back → Blocks goes S xs u
      go (inl t) = subst (λ (l : List A). Blocks goes S l u) (sym t.is) (more t.value t.spelled)
      go (inr (g, t)) = subst (λ (l : List A). Blocks goes S l u) (sym t.same) (subst (λ (w : List T). S s.value w) (sym (s.parts ∙ ap (λ (w : List T). s.front ++ w) t.empty ∙ append-nil s.front)) s.first, g)

  blocks_from : {A : Type 0} (goes : A → Bool) (S : A → List T → Type 0) (xs : List A) (u : List T) → Blocks goes S xs u → Seq T code stop S (λ a. Rest goes S a) xs u
  blocks_from goes S [] u h = absurd h
  blocks_from goes S (a ∷ []) u h = record { value = a; front = u; back = []; parts = sym (append-nil u); first = h.0; second = inr (h.1, record { same = refl; empty = refl }) }
  blocks_from goes S (a ∷ b ∷ xs) u (front, back, parts, first, others) = record { value = a; front = front; back = back; parts = parts; first = first; second = inl (record { value = b ∷ xs; is = refl; spelled = others }) }

  part : {A : Type 0} (F C D : List ℕ) (goes : A → Bool) (S : A → List T → Type 0) (r r' : Reader T (List A)) (m : ℕ) → Exact T code stop r r' (Blocks goes S) F D false m → Row F C D → (a : A) (b : Bool) → goes a ≡ b →
      Exact T code stop (cond b (r >>= λ xs. ret (a ∷ xs)) (choose code F (r >>= λ xs. ret (a ∷ xs)) (ret (a ∷ [])))) (cond b (r' >>= λ xs. ret (a ∷ xs)) (choose code F (r' >>= λ xs. ret (a ∷ xs)) (ret (a ∷ [])))) (Rest goes S a) F D true m
  part {A} F C D goes S r r' m IH l a true e =
      exact-iff T code stop (r >>= λ xs. ret (a ∷ xs)) (r' >>= λ xs. ret (a ∷ xs)) (Mapped T code stop (λ (bs : List A). a ∷ bs) (Blocks goes S)) (Rest goes S a) F D F D true m m
      (nullable (r >>= λ xs. ret (a ∷ xs)) (r' >>= λ xs. ret (a ∷ xs)) (Mapped T code stop (λ (bs : List A). a ∷ bs) (Blocks goes S)) F D m l.f (exact-map T code stop r r' (λ (bs : List A). a ∷ bs) (Blocks goes S) F D false m IH))
      (λ xs u s. inl s) (λ xs u lt s. only xs u s) l.f l.d (omega arith)
    where
      only : (xs : List A) (u : List T) → Rest goes S a xs u → Mapped T code stop (λ (bs : List A). a ∷ bs) (Blocks goes S) xs u
      only xs u (inl s) = s
      only xs u (inr (g, s)) = absurd cc
  part {A} F C D goes S r r' m IH l a false e =
      exact-iff T code stop (choose code F (r >>= λ xs. ret (a ∷ xs)) (ret (a ∷ []))) (choose code F (r' >>= λ xs. ret (a ∷ xs)) (ret (a ∷ []))) (λ xs u. Mapped T code stop (λ (bs : List A). a ∷ bs) (Blocks goes S) xs u ⊎ Is T code stop (a ∷ []) xs u) (Rest goes S a) F D F D true m m
      (exact-choose T code stop F (r >>= λ xs. ret (a ∷ xs)) (r' >>= λ xs. ret (a ∷ xs)) (ret (a ∷ [])) (ret (a ∷ [])) (Mapped T code stop (λ (bs : List A). a ∷ bs) (Blocks goes S)) (Is T code stop (a ∷ [])) F D [] [] F D true m
      (exact-map T code stop r r' (λ (bs : List A). a ∷ bs) (Blocks goes S) F D false m IH) (exact-ret T code stop (a ∷ []) m)
      (record { inside = l.f; outside = refl; behind = l.fd; f1 = l.f; f2 = refl; c1 = l.d; c2 = refl }))
      to (λ xs u lt s. from xs u s) l.f l.d (omega arith)
    where
      to : (xs : List A) (u : List T) → Mapped T code stop (λ (bs : List A). a ∷ bs) (Blocks goes S) xs u ⊎ Is T code stop (a ∷ []) xs u → Rest goes S a xs u
      to xs u (inl s) = inl s
      to xs u (inr s) = inr (e, s)

      from : (xs : List A) (u : List T) → Rest goes S a xs u → Mapped T code stop (λ (bs : List A). a ∷ bs) (Blocks goes S) xs u ⊎ Is T code stop (a ∷ []) xs u
      from xs u (inl s) = inl s
      from xs u (inr (g, s)) = inr s

  some_rest : {A : Type 0} (goes : A → Bool) (S : A → List T → Type 0) → Ending goes S → (a : A) → Spelled T code stop (Rest goes S a)
  some_rest goes S e a = record { value = a ∷ e.value ∷ []; text = e.text; spelled = inl (record { value = e.value ∷ []; is = refl; spelled = (e.spelled, e.last) }) }

  pub exact-blocks : {A : Type 0} (F C D : List ℕ) (m0 : ℕ) (p q : Reader T A) (S : A → List T → Type 0) (goes : A → Bool) → Exact T code stop p q S F C false m0 → Ending goes S → Row F C D → (n n' m : ℕ) → n ≤ n' → m ≤ n → m ≤ m0 → Exact T code stop (blocks code n F goes p) (blocks code n' F goes q) (Blocks goes S) F D false m
  exact-blocks {A} F C D m0 p q S goes P e l zero n' m h1 h2 h3 = record {
    begins = λ c u s lt. absurd (omega arith);
    yes = λ ts r c e. absurd cc;
    no = λ ts r e. absurd cc;
    complete = λ c u r s lt st. absurd (omega arith);
    enough = λ ts e. omega arith;
    clean = λ c u s lt. absurd (omega arith);
  }
  exact-blocks {A} F C D m0 p q S goes P e l (suc n) zero m h1 h2 h3 = absurd (omega arith)
  exact-blocks {A} F C D m0 p q S goes P e l (suc n) (suc n') m h1 h2 h3 =
      let IH = exact-blocks F C D m0 p q S goes P e l n n' (m - 1) (omega arith) (omega arith) (omega arith) in
      exact-iff T code stop (blocks code (suc n) F goes p) (blocks code (suc n') F goes q) (Seq T code stop S (λ a. Rest goes S a)) (Blocks goes S) F D F D false m m
      (exact-bind T code stop p q S (next code F goes (blocks code n F goes p)) (next code F goes (blocks code n' F goes q)) (λ a. Rest goes S a) F C F D F D false true false m0 (m - 1) m P
      (λ a. part F C D goes S (blocks code n F goes p) (blocks code n' F goes q) (m - 1) IH l a (goes a) refl)
      (λ a. some_rest goes S e a)
      (fit_of T code stop F C false F D true F D false (record { first = l.f; second = refl; empty = refl; clear = l.clear; through = l.cd; behind = l.d }))
      h3 (omega arith))
      (blocks_to goes S) (λ xs u lt s. blocks_from goes S xs u s) l.f l.d (omega arith)
