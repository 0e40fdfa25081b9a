-- Typed parts of a body: what the code of an expression or a block gives, from what is known before it to what is known
-- after it. One
-- lemma for each way in which lowering puts code together. The state at the address after a part belongs to what
-- follows there.
use Rattle.std.proofs.Common.{◌⊎◌, ◌≡◌, ℕ, zero, suc, ◌+◌, ◌<◌, ◌≤◌, List, [], ◌∷◌, ◌++◌, length, inl, inr, refl, sym}
use Rattle.std.proofs.Common.{ap, ◌∙◌, subst, Some, arith}
use Rattle.std.specs.Prelude.{slice_get}
use Rattle.wy_code.specs.declared.code.Body.{Body}
use Rattle.wy_code.specs.declared.instruction.Instruction.{Instruction}
use Rattle.wy_code.specs.declared.instruction.Instruction.TheVariants.{Push, Load, Store, Get, Set, Drop, Op, Jump}
use Rattle.wy_code.specs.declared.instruction.Instruction.TheVariants.{JumpFalse, New, Call, Return, Finish}
use Rattle.wy_code.specs.declared.instruction.Placed.{Placed}
use Rattle.wy_image.specs.declared.typing.Bounds.{Bounds}
use Rattle.wy_verified.specs.Images.{Image}
use Rattle.wy_image.specs.declared.typing.Target.{Target}
use Rattle.wy_verified.specs.Kinds.{Kind, Truths, Fits, AllFit}
use Rattle.wy_verified.specs.Rules.{Known, Owner, Reaches, Comes, Follows, at_first}
use Rattle.wy_verified.specs.Walking.{target_kinds, RangeOk, JumpsTo, FlowOk, IsTarget, IsJumpedTo, target_in}
use Rattle.wy_verified.specs.Stating.{BodyStates}
use Rattle.std.proofs.lemmas.Option.{slice_get_within}
use Rattle.std.proofs.lemmas.List.{length-append}
use Rattle.wy_verified.proofs.Lists.{some_same, none_some, read_first}
use Rattle.wy_verified.proofs.Composing.{fits_trans}

module _ {X : Type 0} where
  read_cases : (xs ys : List X) (i : ℕ) (p : X) → slice_get (xs ++ ys) i ≡ Some p → (slice_get xs i ≡ Some p) ⊎
      ((j : ℕ) × (i ≡ length xs + j) × (slice_get ys j ≡ Some p))
  read_cases [] ys i p e = inr (i, (let z : length {A = X} [] ≡ 0 = refl in omega (arith, z)), e)
  read_cases (x ∷ xs) ys zero p e = inl e
  read_cases (x ∷ xs) ys (suc i) p e =
      elim (read_cases xs ys i p e) [ inl f ↦ inl f | inr f ↦ inr (f.0, (let g = f.1 in omega (arith, g)), f.2) ]

  read_after : (xs ys : List X) (j k : ℕ) → k ≡ length xs + j → slice_get (xs ++ ys) k ≡ slice_get ys j
  read_after [] ys j k e = ap (slice_get ys) (let z : length {A = X} [] ≡ 0 = refl in omega (arith, z, e))
  read_after (x ∷ xs) ys j zero e = absurd (omega (arith, e))
  read_after (x ∷ xs) ys j (suc k) e = read_after xs ys j k (omega (arith, e))

-- the first, one of the first list, the one between the lists, or one of the second list
place_cases : {X : Type 0} (p q : X) (xs ys : List X) (i : ℕ) (r : X) → slice_get (p ∷ (xs ++ q ∷ ys)) i ≡ Some r →
    ((i ≡ 0) × (p ≡ r)) ⊎ ((j : ℕ) × (i ≡ suc j) × (slice_get xs j ≡ Some r)) ⊎ ((i ≡ suc (length xs)) × (q ≡ r)) ⊎
    ((j : ℕ) × (i ≡ suc (suc (length xs)) + j) × (slice_get ys j ≡ Some r))
place_cases p q xs ys zero r e = inl (refl, some_same e)
place_cases {X} p q xs ys (suc i) r e =
    inr (elim (read_cases xs (q ∷ ys) i r e) [ inl h ↦ inl (i, refl, h) | inr h ↦ inr (of h.0 h.1 h.2) ])
  where
    of : (j : ℕ) → i ≡ length xs + j → slice_get (q ∷ ys) j ≡ Some r → ((suc i ≡ suc (length xs)) × (q ≡ r)) ⊎
        ((j : ℕ) × (suc i ≡ suc (suc (length xs)) + j) × (slice_get ys j ≡ Some r))
    of zero f g = inl (omega (arith, f), some_same g)
    of (suc j) f g = inr (j, omega (arith, f), g)

module _ (image : Image) (x : ℕ) (owner : Owner) (body : Body) (bounds : Bounds) (held : ℕ) where
  abbrev Knows : Known → Known → Type 0
  Knows k n = Reaches image x owner body bounds k n

  abbrev Says : List Known → ℕ → Known → Instruction → Type 0
  Says all at k i = Follows image x owner body bounds held all at k i

  abbrev Leads : Instruction → ℕ → Type 0
  Leads i to = JumpsTo image x owner body bounds held i to

  all_fit_trans : (is js ks : List Kind) → AllFit image is js → AllFit image js ks → AllFit image is ks
  all_fit_trans [] [] [] a b = tt
  all_fit_trans [] [] (k ∷ ks) a b = absurd b
  all_fit_trans [] (j ∷ js) ks a b = absurd a
  all_fit_trans (i ∷ is) [] ks a b = absurd a
  all_fit_trans (i ∷ is) (j ∷ js) [] a b = absurd b
  all_fit_trans (i ∷ is) (j ∷ js) (k ∷ ks) a b = (fits_trans image i j k a.0 b.0, all_fit_trans is js ks a.1 b.1)

  all_fit_same : (ks : List Kind) → AllFit image ks ks
  all_fit_same [] = tt
  all_fit_same (k ∷ ks) = (inl refl, all_fit_same ks)

  pub knows_same : (k : Known) → Knows k k
  knows_same k = record { operands = all_fit_same k.operands; stored = λ s h. h; set = refl }

  pub knows_trans : (k m n : Known) → Knows k m → Knows m n → Knows k n
  knows_trans k m n a b =
      record {
        operands = all_fit_trans k.operands m.operands n.operands a.operands b.operands;
        stored =
            λ s i. a.stored s (b.stored s i);
        set = b.set ∙ a.set;
      }

  -- jumps go forward within the part, after a Jump a jump of the part leads, and no body ends here
  abbrev pub LocalFlow : ℕ → List Placed → ℕ → Instruction → Type 0
  LocalFlow at xs i (Jump to) =
      (at + i < to) × (to ≤ at + length xs) × ((j : ℕ) × (q : Placed) × (j ≤ i) × (slice_get xs j ≡ Some q) ×
      Leads q.instruction (suc (at + i)))
  LocalFlow at xs i (JumpFalse to) = (at + i < to) × (to ≤ at + length xs)
  LocalFlow at xs i Return = ⊥
  LocalFlow at xs i Finish = ⊥
  LocalFlow at xs i q = Unit {0}

  abbrev pub IsDeep : Known → Type 0
  IsDeep k = suc (body.parameters + body.vals) + length k.operands ≤ body.slots

  pub record Segment (at : ℕ) (xs : List Placed) (before after : Known) : Type 0 where
    pub states : List Known
    pub long : length states ≡ length xs
    pub starts : slice_get (states ++ after ∷ []) 0 ≡ Some before
    pub follows : (all : List Known) → ((i : ℕ) (k : Known) → slice_get states i ≡ Some k →
        slice_get all (at + i) ≡ Some k) → (next : Known) → slice_get all (at + length xs) ≡ Some next →
        Knows after next → (i : ℕ) (p : Placed) (k : Known) → slice_get xs i ≡ Some p → slice_get states i ≡ Some k →
        Says all (at + i) k p.instruction
    pub range : (i : ℕ) (p : Placed) → slice_get xs i ≡ Some p → RangeOk image x owner body bounds held p.instruction
    pub flow : (i : ℕ) (p : Placed) → slice_get xs i ≡ Some p → LocalFlow at xs i p.instruction
    pub deep : (i : ℕ) (k : Known) → slice_get states i ≡ Some k → IsDeep k

  -- the part is come to, where what follows it is there
  pub begun : (at : ℕ) (xs : List Placed) (k m : Known) (s : Segment at xs k m) (all : List Known) →
      ((i : ℕ) (k : Known) → slice_get s.states i ≡ Some k → slice_get all (at + i) ≡ Some k) →
      (next : Known) → slice_get all (at + length xs) ≡ Some next → Knows m next →
      Comes image x owner body bounds held all at k
  begun at xs k m s all here next e r = of s.states refl
    where
      of : (states : List Known) → s.states ≡ states → Comes image x owner body bounds held all at k
      of [] f =
          let none : length xs ≡ 0 = sym s.long ∙ ap length f in
          let z : at ≡ at + length xs = omega (arith, none) in
          let same : m ≡ k = some_same (sym (ap (λ (l : List Known). slice_get (l ++ m ∷ []) 0) f) ∙ s.starts) in
          record { next = next; there = ap (slice_get all) z ∙ e; reaches = subst (λ (k : Known). Knows k next) same r }
      of (q ∷ qs) f =
          let same : q ≡ k = some_same (sym (ap (λ (l : List Known). slice_get (l ++ m ∷ []) 0) f) ∙ s.starts) in
          let z : at ≡ at + 0 = omega arith in
          record {
            next = k;
            there =
                ap (slice_get all) z ∙ here 0 k (ap (λ (l : List Known). slice_get l 0) f ∙ ap (λ (q : Known). Some q) same);
            reaches = knows_same k;
          }

  ------------------------------------------------------------
  -- Nothing, and one instruction that goes on to the next place

  pub nothing : (at : ℕ) (k : Known) → Segment at [] k k
  nothing at k = record {
    states = [];
    long = refl;
    starts = refl;
    follows = λ all here next e r i p q f g. absurd (none_some f);
    range = λ i p f. absurd (none_some f);
    flow = λ i p f. absurd (none_some f);
    deep = λ i q f. absurd (none_some f);
  }

  abbrev pub IsPlain : Instruction → Type 0
  IsPlain (Jump to) = ⊥
  IsPlain (JumpFalse to) = ⊥
  IsPlain Return = ⊥
  IsPlain Finish = ⊥
  IsPlain i = Unit {0}

  plain_flow : (at : ℕ) (xs : List Placed) (i : ℕ) (q : Instruction) → IsPlain q → LocalFlow at xs i q
  plain_flow at xs i (Push c) h = tt
  plain_flow at xs i (Load a) h = tt
  plain_flow at xs i (Store a) h = tt
  plain_flow at xs i (Get a) h = tt
  plain_flow at xs i (Set a) h = tt
  plain_flow at xs i Drop h = tt
  plain_flow at xs i (Op o) h = tt
  plain_flow at xs i (Jump a) h = absurd h
  plain_flow at xs i (JumpFalse a) h = absurd h
  plain_flow at xs i (New n) h = tt
  plain_flow at xs i (Call m n) h = tt
  plain_flow at xs i Return h = absurd h
  plain_flow at xs i Finish h = absurd h

  -- the rule of an instruction needs to know only that the next place is there
  pub one : (at : ℕ) (p : Placed) (k m : Known) → IsPlain p.instruction →
      RangeOk image x owner body bounds held p.instruction → IsDeep k →
      ((all : List Known) → Comes image x owner body bounds held all (suc at) m → Says all at k p.instruction) →
      Segment at (p ∷ []) k m
  one at p k m plain range deep says = record {
    states = k ∷ [];
    long = refl;
    starts = refl;
    follows = λ all here next e r i q n f g. of all next e r i q n f g;
    range = λ i q f. only i q f (λ (q : Placed). RangeOk image x owner body bounds held q.instruction) range;
    flow = λ i q f. only i q f (λ (q : Placed). LocalFlow at (p ∷ []) i q.instruction)
        (plain_flow at (p ∷ []) i p.instruction plain);
    deep = λ i q f. only_known i q f deep;
  }
    where
      only : (i : ℕ) (q : Placed) → slice_get (p ∷ []) i ≡ Some q → (P : Placed → Type 0) → P p → P q
      only zero q f P h = subst P (some_same f) h
      only (suc i) q f P h = absurd (none_some f)

      only_known : (i : ℕ) (q : Known) → slice_get (k ∷ []) i ≡ Some q → IsDeep k → IsDeep q
      only_known zero q f h = subst IsDeep (some_same f) h
      only_known (suc i) q f h = absurd (none_some f)

      of : (all : List Known) (next : Known) → slice_get all (at + 1) ≡ Some next → Knows m next →
          (i : ℕ) (q : Placed) (n : Known) → slice_get (p ∷ []) i ≡ Some q → slice_get (k ∷ []) i ≡ Some n →
          Says all (at + i) n q.instruction
      of all next e r zero q n f g =
          let z : at ≡ at + 0 = omega arith in
          let y : suc at ≡ at + 1 = omega arith in
          subst (λ a. Says all a n q.instruction) z
          (subst (λ (q : Placed). Says all at n q.instruction) (some_same f)
          (subst (λ (n : Known). Says all at n p.instruction) (some_same g)
          (says all (record { next = next; there = ap (slice_get all) y ∙ e; reaches = r }))))
      of all next e r (suc i) q n f g = absurd (none_some f)

  ------------------------------------------------------------
  -- One part after another

  flow_more : (at b : ℕ) (xs zs : List Placed) (i k : ℕ) (q : Instruction) → at + i ≡ b + k →
      b + length zs ≡ at + length xs ⊎ (b + length zs ≤ at + length xs) →
      ((j : ℕ) (p : Placed) → j ≤ k → slice_get zs j ≡ Some p → (h : ℕ) × (h ≤ i) × (slice_get xs h ≡ Some p)) →
      LocalFlow b zs k q → LocalFlow at xs i q
  flow_more at b xs zs i k (Jump to) e l into f =
      let t = f.2 in
      let y : b + length zs ≤ at + length xs = elim l [ inl g ↦ omega (arith, g) | inr g ↦ g ] in
      let r = into t.0 t.1 t.2 t.3 in
      let z : suc (b + k) ≡ suc (at + i) = omega (arith, e) in (
        (let g = f.0 in omega (arith, g, e)),
        (let g = f.1 in omega (arith, g, y)),
        (r.0, t.1, r.1, r.2, subst (λ a. Leads t.1.instruction a) z t.4),
      )
  flow_more at b xs zs i k (JumpFalse to) e l into f =
      let y : b + length zs ≤ at + length xs = elim l [ inl g ↦ omega (arith, g) | inr g ↦ g ] in
      ((let g = f.0 in omega (arith, g, e)), (let g = f.1 in omega (arith, g, y)))
  flow_more at b xs zs i k Return e l into f = absurd f
  flow_more at b xs zs i k Finish e l into f = absurd f
  flow_more at b xs zs i k (Push c) e l into f = tt
  flow_more at b xs zs i k (Load a) e l into f = tt
  flow_more at b xs zs i k (Store a) e l into f = tt
  flow_more at b xs zs i k (Get a) e l into f = tt
  flow_more at b xs zs i k (Set a) e l into f = tt
  flow_more at b xs zs i k Drop e l into f = tt
  flow_more at b xs zs i k (Op o) e l into f = tt
  flow_more at b xs zs i k (New n) e l into f = tt
  flow_more at b xs zs i k (Call m n) e l into f = tt

  pub then : (at : ℕ) (xs ys : List Placed) (k m n : Known) → Segment at xs k m → Segment (at + length xs) ys m n →
      Segment at (xs ++ ys) k n
  then at xs ys k m n a b = record {
    states = a.states ++ b.states;
    long = (let f = length-append a.states b.states in let g = length-append xs ys in let h = a.long in let i =
        b.long in omega (arith, f, g, h, i));
    starts = begins a.states refl;
    follows = λ all here next e r i p q f g. both all here next e r i p q f g;
    range = λ i p f. elim (read_cases xs ys i p f) [ inl g ↦ a.range i p g | inr g ↦ b.range g.0 p g.2 ];
    flow = λ i p f. elim (read_cases xs ys i p f) [
      | inl g ↦ flow_more at at (xs ++ ys) xs i i p.instruction refl
          (inr (let h = length-append xs ys in omega (arith, h))) (λ j q l h. (j, l, read_first xs ys j q h))
          (a.flow i p g)
      | inr g ↦ flow_more at (at + length xs) (xs ++ ys) ys i g.0 p.instruction (let h = g.1 in omega (arith, h))
          (inl (let h = length-append xs ys in omega (arith, h)))
          (λ j q l h. (
            length xs + j,
            (let y = g.1 in omega (arith, y, l)),
            read_after xs ys j (length xs + j) refl
                ∙ h,
          )) (b.flow g.0 p g.2)
    ];
    deep = λ i q f. elim (read_cases a.states b.states i q f) [ inl g ↦ a.deep i q g | inr g ↦ b.deep g.0 q g.2 ];
  }
    where
      begins : (states : List Known) → a.states ≡ states → slice_get ((a.states ++ b.states) ++ n ∷ []) 0 ≡ Some k
      begins [] f =
          let same : m ≡ k = some_same (sym (ap (λ (l : List Known). slice_get (l ++ m ∷ []) 0) f) ∙ a.starts) in
          ap (λ (l : List Known). slice_get ((l ++ b.states) ++ n ∷ []) 0) f ∙ b.starts
          ∙ ap (λ (q : Known). Some q) same
      begins (q ∷ qs) f =
          ap (λ (l : List Known). slice_get ((l ++ b.states) ++ n ∷ []) 0) f
          ∙ sym (ap (λ (l : List Known). slice_get (l ++ m ∷ []) 0) f) ∙ a.starts

      both : (all : List Known) → ((i : ℕ) (q : Known) → slice_get (a.states ++ b.states) i ≡ Some q →
          slice_get all (at + i) ≡ Some q) → (next : Known) → slice_get all (at + length (xs ++ ys)) ≡ Some next →
          Knows n next → (i : ℕ) (p : Placed) (q : Known) → slice_get (xs ++ ys) i ≡ Some p →
          slice_get (a.states ++ b.states) i ≡ Some q → Says all (at + i) q p.instruction
      both all here next e r i p q f g =
          let here_a : (i : ℕ) (q : Known) → slice_get a.states i ≡ Some q → slice_get all (at + i) ≡ Some q =
          λ i q h. here i q (read_first a.states b.states i q h) in
          let la = a.long in
          let here_b : (i : ℕ) (q : Known) → slice_get b.states i ≡ Some q →
          slice_get all (at + length xs + i) ≡ Some q = λ i q h.
          let z : at + length xs + i ≡ at + (length a.states + i) = omega (arith, la) in
          ap (slice_get all) z ∙ here (length a.states + i) q
          (read_after a.states b.states i (length a.states + i) refl ∙ h) in
          let end : at + length xs + length ys ≡ at + length (xs ++ ys) =
          (let h = length-append xs ys in omega (arith, h)) in
          let come = begun (at + length xs) ys m n b all here_b next (ap (slice_get all) end ∙ e) r in
          elim (read_cases xs ys i p f) [
            | inl h ↦ a.follows all here_a come.next come.there come.reaches i p q h
                (elim (read_cases a.states b.states i q g) [
                  | inl y ↦ y
                  | inr y ↦ absurd (let w = slice_get_within xs i p h in let v = y.1 in
                      omega (arith, w, v, la))
                ])
            | inr h ↦ (let z : at + length xs + h.0 ≡ at + i = (let w = h.1 in omega (arith, w)) in
                subst (λ a. Says all a q p.instruction) z
                (b.follows all here_b next (ap (slice_get all) end ∙ e) r h.0 p q h.2
                (sym (read_after a.states b.states h.0 i (let w = h.1 in omega (arith, w, la))) ∙ g)))
          ]

  ------------------------------------------------------------
  -- Two sides of a test

  pub sides : (at : ℕ) (p q : Placed) (xs ys : List Placed) (t : Kind) (k m n z : Known) →
      p.instruction ≡ JumpFalse (at + 1 + length xs + 1) →
      q.instruction ≡ Jump (at + 1 + length xs + 1 + length ys) → Fits image t Truths → Segment (at + 1) xs k m →
      Segment (at + 1 + length xs + 1) ys k n → Knows m z → Knows n z → IsDeep m →
      IsDeep (record k { operands = t ∷ k.operands }) →
      Segment at (p ∷ (xs ++ q ∷ ys)) (record k { operands = t ∷ k.operands }) z
  sides at p q xs ys t k m n z is_p is_q fits a b to_m to_n deep_m deep_k = record {
    states = before ∷ (a.states ++ m ∷ b.states);
    long = (let f = length-append a.states (m ∷ b.states) in let g = length-append xs (q ∷ ys) in let h = a.long in
        let i = b.long in omega (arith, f, g, h, i));
    starts = refl;
    follows = follows;
    range = range;
    flow = flow;
    deep = deep;
  }
    where
      before : Known
      before = record k { operands = t ∷ k.operands }

      otherwise : ℕ
      otherwise = at + 1 + length xs + 1

      all_long : length (p ∷ (xs ++ q ∷ ys)) ≡ suc (length xs + suc (length ys))
      all_long = let g = length-append xs (q ∷ ys) in omega (arith, g)

      in_first : (i j : ℕ) (r : Placed) (v : Known) → i ≡ suc j → slice_get xs j ≡ Some r →
          slice_get (before ∷ (a.states ++ m ∷ b.states)) i ≡ Some v → slice_get a.states j ≡ Some v
      in_first i j r v e f g =
          let l = slice_get_within xs j r f in
          let la = a.long in
          elim (read_cases a.states (m ∷ b.states) j v
          (sym (ap (slice_get (before ∷ (a.states ++ m ∷ b.states))) e) ∙ g))
          [ inl h ↦ h | inr h ↦ absurd (let w = h.1 in omega (arith, l, la, w)) ]

      in_second : (i j : ℕ) (v : Known) → i ≡ suc (suc (length xs)) + j →
          slice_get (before ∷ (a.states ++ m ∷ b.states)) i ≡ Some v → slice_get b.states j ≡ Some v
      in_second i j v e g =
          let la = a.long in
          let y : i ≡ suc (length a.states + suc j) = omega (arith, e, la) in
          sym (read_after a.states (m ∷ b.states) (suc j) (length a.states + suc j) refl)
          ∙ sym (ap (slice_get (before ∷ (a.states ++ m ∷ b.states))) y) ∙ g

      at_jump : (i : ℕ) → i ≡ suc (length xs) → slice_get (before ∷ (a.states ++ m ∷ b.states)) i ≡ Some m
      at_jump i e =
          let la = a.long in
          let y : i ≡ suc (length a.states + 0) = omega (arith, e, la) in
          ap (slice_get (before ∷ (a.states ++ m ∷ b.states))) y
          ∙ read_after a.states (m ∷ b.states) 0 (length a.states + 0) refl

      follows : (all : List Known) → ((i : ℕ) (v : Known) → slice_get (before ∷ (a.states ++ m ∷ b.states)) i ≡ Some v →
          slice_get all (at + i) ≡ Some v) → (next : Known) →
          slice_get all (at + length (p ∷ (xs ++ q ∷ ys))) ≡ Some next → Knows z next →
          (i : ℕ) (r : Placed) (v : Known) → slice_get (p ∷ (xs ++ q ∷ ys)) i ≡ Some r →
          slice_get (before ∷ (a.states ++ m ∷ b.states)) i ≡ Some v → Says all (at + i) v r.instruction
      follows all here next e known i r v f g =
          let la = a.long in
          let lb = b.long in
          let end : otherwise + length ys ≡ at + length (p ∷ (xs ++ q ∷ ys)) = omega (arith, all_long) in
          let at_end : slice_get all (otherwise + length ys) ≡ Some next = ap (slice_get all) end ∙ e in
          let here_a : (j : ℕ) (u : Known) → slice_get a.states j ≡ Some u → slice_get all (at + 1 + j) ≡ Some u =
          λ j u h.
          let y : at + 1 + j ≡ at + suc j =
          omega arith in ap (slice_get all) y ∙ here (suc j) u (read_first a.states (m ∷ b.states) j u h) in
          let here_b : (j : ℕ) (u : Known) → slice_get b.states j ≡ Some u → slice_get all (otherwise + j) ≡ Some u =
          λ j u h.
          let y : otherwise + j ≡ at + suc (length a.states + suc j) = omega (arith, la) in
          ap (slice_get all) y ∙ here (suc (length a.states + suc j)) u
          (read_after a.states (m ∷ b.states) (suc j) (length a.states + suc j) refl ∙ h) in
          let jump_there : slice_get all (at + 1 + length xs) ≡ Some m =
          let y : at + 1 + length xs ≡ at + suc (length xs) =
          omega arith in ap (slice_get all) y ∙ here (suc (length xs)) m (at_jump (suc (length xs)) refl) in
          let to_first = begun (at + 1) xs k m a all here_a m jump_there (knows_same m) in
          let to_second = begun otherwise ys k n b all here_b next at_end (knows_trans n z next to_n known) in
          elim (place_cases p q xs ys i r f) [
            | inl h ↦ (
                let y : at ≡ at + i = (let w = h.0 in omega (arith, w)) in
                let u : suc at ≡ at + 1 = omega arith in
                let same : before ≡ v =
                some_same (sym (ap (slice_get (before ∷ (a.states ++ m ∷ b.states))) h.0) ∙ g) in
                subst (λ at. Says all at v r.instruction) y
                (subst (λ (r : Placed). Says all at v r.instruction) h.1
                (subst (λ (v : Known). Says all at v p.instruction) same
                (subst (λ c. Says all at before c) (sym is_p) (
                  t,
                  k.operands,
                  refl,
                  fits,
                  omega arith,
                  subst (λ a. Comes image x owner body bounds held all a k) (sym u) to_first,
                  to_second,
                )))))
            | inr h ↦ elim h [
              | inl w ↦ (let y : at + 1 + w.0 ≡ at + i = (let u = w.1 in omega (arith, u)) in
                  subst (λ at. Says all at v r.instruction) y
                  (a.follows all here_a m jump_there (knows_same m) w.0 r v w.2 (in_first i w.0 r v w.1 w.2 g)))
              | inr w ↦ elim w [
                | inl u ↦ (
                    let same : m ≡ v = some_same (sym (at_jump i u.0) ∙ g) in
                    subst (λ (r : Placed). Says all (at + i) v r.instruction) u.1
                    (subst (λ (v : Known). Says all (at + i) v q.instruction) same
                    (subst (λ c. Says all (at + i) m c) (sym is_q) (
                      let y = u.0 in omega (arith, y),
                      record
                          { next = next; there = at_end; reaches = knows_trans m z next to_m known },
                    ))))
                | inr u ↦ (let y : otherwise + u.0 ≡ at + i = (let w = u.1 in omega (arith, w)) in
                    subst (λ at. Says all at v r.instruction) y
                    (b.follows all here_b next at_end (knows_trans n z next to_n known) u.0 r v u.2
                    (in_second i u.0 v u.1 g)))
              ]
            ]
          ]

      range : (i : ℕ) (r : Placed) → slice_get (p ∷ (xs ++ q ∷ ys)) i ≡ Some r →
          RangeOk image x owner body bounds held r.instruction
      range i r f = elim (place_cases p q xs ys i r f) [
        | inl h ↦ subst (λ (r : Placed). RangeOk image x owner body bounds held r.instruction) h.1
            (subst (λ c. RangeOk image x owner body bounds held c) (sym is_p) tt)
        | inr h ↦ elim h [
          | inl w ↦ a.range w.0 r w.2
          | inr w ↦ elim w [
            | inl u ↦ subst (λ (r : Placed). RangeOk image x owner body bounds held r.instruction) u.1
                (subst (λ c. RangeOk image x owner body bounds held c) (sym is_q) tt)
            | inr u ↦ b.range u.0 r u.2
          ]
        ]
      ]

      flow : (i : ℕ) (r : Placed) → slice_get (p ∷ (xs ++ q ∷ ys)) i ≡ Some r →
          LocalFlow at (p ∷ (xs ++ q ∷ ys)) i r.instruction
      flow i r f = elim (place_cases p q xs ys i r f) [
        | inl h ↦ subst (λ (r : Placed). LocalFlow at (p ∷ (xs ++ q ∷ ys)) i r.instruction) h.1
            (subst (λ c. LocalFlow at (p ∷ (xs ++ q ∷ ys)) i c) (sym is_p)
            (let w = h.0 in omega (arith, w), omega (arith, all_long)))
        | inr h ↦ elim h [
          | inl w ↦ flow_more at (at + 1) (p ∷ (xs ++ q ∷ ys)) xs i w.0 r.instruction (let u = w.1 in omega (arith, u))
              (inr (omega (arith, all_long)))
              (λ j s l e. (suc j, (let u = w.1 in omega (arith, u, l)), read_first xs (q ∷ ys) j s e))
              (a.flow w.0 r w.2)
          | inr w ↦ elim w [
            | inl u ↦ subst (λ (r : Placed). LocalFlow at (p ∷ (xs ++ q ∷ ys)) i r.instruction) u.1
                (subst (λ c. LocalFlow at (p ∷ (xs ++ q ∷ ys)) i c) (sym is_q) (
                  let y = u.0 in omega (arith, y),
                  omega (arith, all_long),
                  (
                    0,
                    p,
                    omega arith,
                    refl,
                    subst (λ c. Leads c (suc (at + i))) (sym is_p)
                        (let y = u.0 in omega (arith, y)),
                  ),
                ))
            | inr u ↦ flow_more at otherwise (p ∷ (xs ++ q ∷ ys)) ys i u.0 r.instruction
                (let y = u.1 in omega (arith, y)) (inr (omega (arith, all_long)))
                (λ j s l e. (
                  suc (length xs + suc j),
                  (let y = u.1 in omega (arith, y, l)),
                  read_after xs (q ∷ ys) (suc j) (length xs + suc j) refl ∙ e,
                )) (b.flow u.0 r u.2)
          ]
        ]
      ]

      deep : (i : ℕ) (v : Known) → slice_get (before ∷ (a.states ++ m ∷ b.states)) i ≡ Some v → IsDeep v
      deep i v f = elim (place_cases before m a.states b.states i v f) [
        | inl h ↦ subst IsDeep h.1 deep_k
        | inr h ↦ elim h [
          | inl w ↦ a.deep w.0 v w.2
          | inr w ↦ elim w [ inl u ↦ subst IsDeep u.1 deep_m | inr u ↦ b.deep u.0 v u.2 ]
        ]
      ]

  ------------------------------------------------------------
  -- A whole body: a part, and the instruction that ends it

  -- the table of targets has each address that a jump names, and says of it what the state there is
  pub whole : (xs : List Placed) (p : Placed) (m : Known) (s : Segment 0 xs at_first m) → body.instructions ≡ xs ++ p ∷
      [] → body.name ≡ bounds.name → length bounds.parameters ≡ body.parameters →
      body.vals ≤ length bounds.vals → RangeOk image x owner body bounds held p.instruction →
      FlowOk image x owner body bounds held (length xs) p.instruction →
      Says (s.states ++ m ∷ []) (length xs) m p.instruction → IsDeep m →
      ((i to : ℕ) (q : Placed) → slice_get xs i ≡ Some q → Leads q.instruction to →
      IsTarget image x owner body bounds held to) →
      ((to : ℕ) (k : Known) (t : Target) → slice_get (s.states ++ m ∷ []) to ≡ Some k →
      target_in to bounds.targets ≡ Some t → (k.operands ≡ target_kinds x t) × (k.stored ≡ t.stored)) →
      BodyStates image x owner body bounds held
  whole xs p m s code name params vals range flow says deep tabled said = record {
    name = name;
    parameters = params;
    vals = vals;
    some = λ e. not_empty xs (sym code ∙ e);
    states = s.states ++ m ∷ [];
    long = (let f = length-append s.states (m ∷ []) in let g = length-append xs (p ∷ []) in let h = s.long in
        let one : length (m ∷ []) ≡ 1 = refl in let two : length (p ∷ []) ≡ 1 = refl in
        let c : length body.instructions ≡ length (xs ++ p ∷ []) =
        ap length code in omega (arith, f, g, h, one, two, c));
    first = s.starts;
    deep = λ at k e. elim (read_cases s.states (m ∷ []) at k e) [ inl h ↦ s.deep at k h | inr h ↦ last k h.0 h.2 ];
    targets = said;
    each = λ at q k e f. elim (read_cases xs (p ∷ []) at q (sym (ap (λ (l : List Placed). slice_get l at) code) ∙ e)) [
      | inl h ↦ (s.range at q h, flows at q q.instruction refl h (s.flow at q h), inside at q k h f)
      | inr h ↦ ends at h.0 q k h.1 h.2 f
    ];
  }
    where
      not_empty : (xs : List Placed) → xs ++ p ∷ [] ≡ [] → ⊥
      not_empty [] e = cc
      not_empty (x ∷ xs) e = cc

      last : (k : Known) (j : ℕ) → slice_get (m ∷ []) j ≡ Some k → IsDeep k
      last k zero e = subst IsDeep (some_same e) deep
      last k (suc j) e = absurd (none_some e)

      long : length body.instructions ≡ suc (length xs)
      long = let g =
          length-append xs (p ∷ []) in let two : length (p ∷ []) ≡ 1 = refl in
          let c : length body.instructions ≡ length (xs ++ p ∷ []) = ap length code in omega (arith, g, two, c)

      at_last : slice_get (s.states ++ m ∷ []) (0 + length xs) ≡ Some m
      at_last = let h =
          s.long in let z : 0 + length xs ≡ length s.states + 0 = omega (arith, h) in
          ap (slice_get (s.states ++ m ∷ [])) z ∙ read_after s.states (m ∷ []) 0 (length s.states + 0) refl

      zero_and : (i : ℕ) → 0 + i ≡ i
      zero_and i = omega arith

      inside : (at : ℕ) (q : Placed) (k : Known) → slice_get xs at ≡ Some q →
          slice_get (s.states ++ m ∷ []) at ≡ Some k → Says (s.states ++ m ∷ []) at k q.instruction
      inside at q k h f =
          let l = slice_get_within xs at q h in
          let ls = s.long in
          let g : slice_get s.states at ≡ Some k =
          elim (read_cases s.states (m ∷ []) at k f)
          [ inl y ↦ y | inr y ↦ absurd (let w = y.1 in omega (arith, l, ls, w)) ] in
          subst (λ a. Says (s.states ++ m ∷ []) a k q.instruction) (zero_and at)
          (s.follows (s.states ++ m ∷ []) (λ i k e. ap (slice_get (s.states ++ m ∷ [])) (zero_and i)
          ∙ read_first s.states (m ∷ []) i k e) m at_last (knows_same m) at q k h g)

      jumped : (at : ℕ) → ((j : ℕ) × (q : Placed) × (j ≤ at) × (slice_get xs j ≡ Some q) ×
          Leads q.instruction (suc (0 + at))) → IsJumpedTo image x owner body bounds held at (suc at)
      jumped at h = (
        h.0,
        h.1,
        h.2,
        ap (λ (l : List Placed). slice_get l h.0) code ∙ read_first xs (p ∷ []) h.0 h.1 h.3,
        subst (λ a. Leads h.1.instruction (suc a)) (zero_and at) h.4,
      )

      flows : (at : ℕ) (q : Placed) (i : Instruction) → q.instruction ≡ i → slice_get xs at ≡ Some q →
          LocalFlow 0 xs at q.instruction → FlowOk image x owner body bounds held at q.instruction
      flows at q i e h f =
          subst (λ i. FlowOk image x owner body bounds held at i) (sym e)
          (of i e (subst (λ i. LocalFlow 0 xs at i) e f))
        where
          l : at < length xs
          l = slice_get_within xs at q h

          of : (i : Instruction) → q.instruction ≡ i → LocalFlow 0 xs at i → FlowOk image x owner body bounds held at i
          of (Jump to) e f = (
            (
              (let g = f.0 in omega (arith, g)),
              (let g = f.1 in omega (arith, g, long)),
              tabled at to q h (subst (λ c. Leads c to) (sym e) refl),
            ),
            inr (jumped at f.2),
          )
          of (JumpFalse to) e f = (
            (
              (let g = f.0 in omega (arith, g)),
              (let g = f.1 in omega (arith, g, long)),
              tabled at to q h (subst (λ c. Leads c to) (sym e) refl),
            ),
            omega (arith, l, long),
          )
          of Return e f = absurd f
          of Finish e f = absurd f
          of (Push c) e f = omega (arith, l, long)
          of (Load a) e f = omega (arith, l, long)
          of (Store a) e f = omega (arith, l, long)
          of (Get a) e f = omega (arith, l, long)
          of (Set a) e f = omega (arith, l, long)
          of Drop e f = omega (arith, l, long)
          of (Op o) e f = omega (arith, l, long)
          of (New a) e f = omega (arith, l, long)
          of (Call a c) e f = omega (arith, l, long)

      ends : (at j : ℕ) (q : Placed) (k : Known) → at ≡ length xs + j → slice_get (p ∷ []) j ≡ Some q →
          slice_get (s.states ++ m ∷ []) at ≡ Some k →
          RangeOk image x owner body bounds held q.instruction ×
          FlowOk image x owner body bounds held at q.instruction × Says (s.states ++ m ∷ []) at k q.instruction
      ends at (suc j) q k e f g = absurd (none_some f)
      ends at zero q k e f g =
          let z : length xs ≡ at = omega (arith, e) in
          let y : 0 + length xs ≡ at = omega (arith, e) in
          let same : m ≡ k = some_same (sym at_last ∙ ap (slice_get (s.states ++ m ∷ [])) y ∙ g) in (
            subst (λ (q : Placed). RangeOk image x owner body bounds held q.instruction) (some_same f) range,
            subst (λ a. FlowOk image x owner body bounds held a q.instruction) z
                (subst (λ (q : Placed). FlowOk image x owner body bounds held (length xs) q.instruction) (some_same f)
                flow),
            subst (λ a. Says (s.states ++ m ∷ []) a k q.instruction) z
                (subst (λ (q : Placed). Says (s.states ++ m ∷ []) (length xs) k q.instruction) (some_same f)
                (subst (λ (k : Known). Says (s.states ++ m ∷ []) (length xs) k p.instruction) same says)),
          )
