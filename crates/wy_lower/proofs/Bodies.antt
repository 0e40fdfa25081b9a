-- What is known beforehand of a program's bodies: their texts and the names of their calls have numbers, each makes its literals alone, and their
-- `val`s are not captured by themselves.
use Rattle.std.proofs.Common.{◌≡◌, ◌⊎◌, inl, inr, ℕ, zero, suc, ◌+◌, Bool, true, false, ◌||◌, List, [], ◌∷◌, ◌++◌, Some, refl, sym, ap, ◌∙◌, subst, arith, nat_eq, append_assoc}
use Rattle.std.proofs.lemmas.Bool.{eqb-true, eq-eqb, or_cases}
use Rattle.std.specs.Prelude.{slice_get}
use Rattle.wy_text.specs.Members.{In, Apart}
use Rattle.wy_text.proofs.Lists.{In-left, In-right}
use Rattle.wy_types.specs.declared.code.Variable.TheVariants.{Local}
use Rattle.wy_types.specs.Code.{Expr, Number, Quoted, Truth, Nothing, This, Name, Unary, Binary, TextCall, Call, New, Ascribe, Assign, Values}
use Rattle.wy_types.specs.Core.{CapturesBefore}
use Rattle.wy_types.specs.Vals.{literal_captures, block_vals, bodies_vals}
use Rattle.wy_types.specs.Program.{Program, Scope, Body}
use Rattle.wy_meaning.specs.Starts.{Starts}
use Rattle.wy_lower.specs.Inside.{Inside, is_val}
use Rattle.wy_lower.specs.Lowerable.{literal_made, literals_made_in, literals_made}
use Rattle.wy_lower.specs.Lowering.{entry_names, text_table, method_table, inside_start, inside_body, inside_maker, lowered}
use Rattle.wy_lower.specs.Parts.{block_parts, start_parts, bodies_parts, scope_parts, scopes_parts, text_in, texts_in, call_in, calls_in, makes_literal, make_literal, number_in}
use Rattle.wy_lower.proofs.Allowed.{apart_first, apart_rest, apart_between, IsGood}
use Rattle.wy_lower.proofs.Looking.{some_is}
use Rattle.wy_lower.proofs.Numbers.{has_texts, has_method_names}
use Rattle.wy_lower.proofs.Slots.{picked, not_picked}

------------------------------------------------------------
-- Literals that are made

pub makes_is : (l : ℕ) (e : Expr) → makes_literal l e ≡ true → In l (literal_made e)
makes_is l (New place k xs) h = inl (eqb-true k l h)
makes_is l (Number place n) h = absurd cc
makes_is l (Quoted place b) h = absurd cc
makes_is l (Truth place b) h = absurd cc
makes_is l (Nothing place) h = absurd cc
makes_is l (This place) h = absurd cc
makes_is l (Name place n) h = absurd cc
makes_is l (Unary place o x) h = absurd cc
makes_is l (Binary place o x y) h = absurd cc
makes_is l (TextCall place o xs) h = absurd cc
makes_is l (Call place x n xs) h = absurd cc
makes_is l (Ascribe place x t) h = absurd cc
makes_is l (Assign place n x) h = absurd cc

made_here : (l : ℕ) (es : List Expr) → make_literal l es ≡ true → In l (literals_made_in es)
made_here l [] h = absurd cc
made_here l (e ∷ es) h = of (or_cases (makes_literal l e) (make_literal l es) h) (made_here l es)
  where
    of : (makes_literal l e ≡ true) ⊎ (make_literal l es ≡ true) → (make_literal l es ≡ true → In l (literals_made_in es)) →
        In l (literals_made_in (e ∷ es))
    of (inl t) rest = In-left l (literal_made e) (literals_made_in es) (makes_is l e t)
    of (inr t) rest = In-right l (literal_made e) (literals_made_in es) (rest t)

new_makes : (l : ℕ) (e : Expr) (es : List Expr) → In e es → makes_literal l e ≡ true → make_literal l es ≡ true
new_makes l e [] j h = absurd j
new_makes l e (f ∷ es) (inl same) h = let z : makes_literal l f ≡ true = ap (makes_literal l) same ∙ h in ap (λ b. b || make_literal l es) z
new_makes l e (f ∷ es) (inr j) h = of (makes_literal l f) (new_makes l e es j h)
  where
    of : (b : Bool) → make_literal l es ≡ true → (b || make_literal l es) ≡ true
    of true t = refl
    of false t = t

joined_literals : (es fs : List Expr) → literals_made_in (es ++ fs) ≡ literals_made_in es ++ literals_made_in fs
joined_literals [] fs = refl
joined_literals (e ∷ es) fs = ap (λ l. literal_made e ++ l) (joined_literals es fs)
    ∙ sym (append_assoc (literal_made e) (literals_made_in es) (literals_made_in fs))

module _ (p : Program) (st : Starts) (sc : Scope) where
  -- a body that makes a literal is the one that is found for it
  maker_from : (l k j : ℕ) (bodies : List Body) (b : Body) → Apart (literals_made_in (bodies_parts bodies)) → slice_get bodies j ≡ Some b →
      make_literal l (block_parts b.block) ≡ true → inside_maker p st sc l k bodies ≡ inside_body p st sc (k + j) b
  maker_from l k j [] b apart e h = absurd cc
  maker_from l k zero (c ∷ bs) b apart e h =
      let same : c ≡ b = some_is e in
      let z : k ≡ k + 0 = omega arith in
      let made : make_literal l (block_parts c.block) ≡ true = ap (λ (y : Body). make_literal l (block_parts y.block)) same ∙ h in
      picked (make_literal l (block_parts c.block)) (inside_body p st sc k c) (inside_maker p st sc l (k + 1) bs) made
      ∙ ap (λ (y : Body). inside_body p st sc k y) same ∙ ap (λ (y : ℕ). inside_body p st sc y b) z
  maker_from l k (suc j) (c ∷ bs) b apart e h =
      let split : Apart (literals_made_in (block_parts c.block) ++ literals_made_in (bodies_parts bs)) = subst (λ m. Apart m)
      (joined_literals (block_parts c.block) (bodies_parts bs)) apart in
      let z : k + 1 + j ≡ k + suc j = omega arith in
      not_picked (make_literal l (block_parts c.block)) (inside_body p st sc k c) (inside_maker p st sc l (k + 1) bs)
      (not_here (make_literal l (block_parts c.block)) refl split)
      ∙ maker_from l (k + 1) j bs b (apart_rest (literals_made_in (block_parts c.block)) _ split) e h
      ∙ ap (λ (y : ℕ). inside_body p st sc y b) z
    where
      among : (bs : List Body) (j : ℕ) → slice_get bs j ≡ Some b → In l (literals_made_in (bodies_parts bs))
      among [] j e = absurd cc
      among (d ∷ ds) zero e =
          let same : d ≡ b = some_is e in
          subst (λ m. In l m) (sym (joined_literals (block_parts d.block) (bodies_parts ds)))
          (In-left l _ _ (made_here l (block_parts d.block) (ap (λ (y : Body). make_literal l (block_parts y.block)) same ∙ h)))
      among (d ∷ ds) (suc j) e = subst (λ m. In l m) (sym (joined_literals (block_parts d.block) (bodies_parts ds)))
          (In-right l (literals_made_in (block_parts d.block)) _ (among ds j e))

      not_here : (t : Bool) → make_literal l (block_parts c.block) ≡ t →
          Apart (literals_made_in (block_parts c.block) ++ literals_made_in (bodies_parts bs)) → make_literal l (block_parts c.block) ≡ false
      not_here true t split = absurd (apart_between _ _ split l (made_here l (block_parts c.block) t) (among bs j e))
      not_here false t split = t

  -- what no body makes is made at the start
  start_from : (l k : ℕ) (bodies : List Body) → (In l (literals_made_in (bodies_parts bodies)) → ⊥) →
      inside_maker p st sc l k bodies ≡ inside_start p st sc
  start_from l k [] none = refl
  start_from l k (c ∷ bs) none =
      not_picked (make_literal l (block_parts c.block)) (inside_body p st sc k c) (inside_maker p st sc l (k + 1) bs)
      (not_here (make_literal l (block_parts c.block)) refl)
      ∙ start_from l (k + 1) bs (λ j. none
      (subst (λ m. In l m) (sym (joined_literals (block_parts c.block) (bodies_parts bs)))
      (In-right l (literals_made_in (block_parts c.block)) _ j)))
    where
      not_here : (t : Bool) → make_literal l (block_parts c.block) ≡ t → make_literal l (block_parts c.block) ≡ false
      not_here true t = absurd (none
          (subst (λ m. In l m) (sym (joined_literals (block_parts c.block) (bodies_parts bs))) (In-left l _ _ (made_here l (block_parts c.block) t))))
      not_here false t = t

  ------------------------------------------------------------
  -- Texts

  text_among : (bytes : List ℕ) (place : _) (es : List Expr) → In (Quoted place bytes) es → In bytes (texts_in es)
  text_among bytes place [] j = absurd j
  text_among bytes place (e ∷ es) (inl same) = In-left bytes (text_in e) (texts_in es)
      (subst (λ (f : Expr). In bytes (text_in f)) (sym same) (inl refl))
  text_among bytes place (e ∷ es) (inr j) = In-right bytes (text_in e) (texts_in es) (text_among bytes place es j)

  scope_among : (scopes : List Scope) → In sc scopes → (e : Expr) → In e (scope_parts sc) → In e (scopes_parts scopes)
  scope_among [] h e j = absurd h
  scope_among (c ∷ cs) (inl same) e j = In-left e (scope_parts c) (scopes_parts cs) (subst (λ (y : Scope). In e (scope_parts y)) (sym same) j)
  scope_among (c ∷ cs) (inr h) e j = In-right e (scope_parts c) (scopes_parts cs) (scope_among cs h e j)

  text_numbered : In sc p.scopes → (place : _) (bytes : List ℕ) → In (Quoted place bytes) (scope_parts sc) →
      slice_get (text_table p) (number_in (text_table p) bytes) ≡ Some bytes
  unfolding lowered
  text_numbered h place bytes j = has_texts p st bytes
      (text_among bytes place (scopes_parts p.scopes) (scope_among p.scopes h (Quoted place bytes) j))

  call_among : (name : List ℕ) (place : _) (x : Expr) (xs : Values) (es : List Expr) → In (Call place x name xs) es → In name (calls_in es)
  call_among name place x xs [] j = absurd j
  call_among name place x xs (e ∷ es) (inl same) = In-left name (call_in e) (calls_in es)
      (subst (λ (f : Expr). In name (call_in f)) (sym same) (inl refl))
  call_among name place x xs (e ∷ es) (inr j) = In-right name (call_in e) (calls_in es) (call_among name place x xs es j)

  call_numbered : In sc p.scopes → (place : _) (x : Expr) (name : List ℕ) (xs : Values) → In (Call place x name xs) (scope_parts sc) →
      slice_get (lowered p st).methods (number_in (method_table p) name) ≡ Some name
  unfolding lowered
  call_numbered h place x name xs j = has_method_names p st name
      (In-left name (calls_in (scopes_parts p.scopes)) (entry_names p.scopes)
      (call_among name place x xs (scopes_parts p.scopes) (scope_among p.scopes h (Call place x name xs) j)))

  -- the parts of a body are good in it
  good_part : (i : Inside) → i.texts ≡ text_table p → i.methods ≡ method_table p → In sc p.scopes → (e : Expr) → In e (scope_parts sc) →
      ((l : ℕ) → makes_literal l e ≡ true → inside_maker p st sc l 0 sc.bodies ≡ i) → IsGood p st sc i e
  good_part i texts methods h (Quoted place bytes) j made =
      subst (λ t. slice_get (text_table p) (number_in t bytes) ≡ Some bytes) (sym texts) (text_numbered h place bytes j)
  good_part i texts methods h (Call place x name xs) j made =
      subst (λ t. slice_get (lowered p st).methods (number_in t name) ≡ Some name) (sym methods) (call_numbered h place x name xs j)
  good_part i texts methods h (New place l xs) j made = made l (eq-eqb l l refl)
  good_part i texts methods h (Number place n) j made = tt
  good_part i texts methods h (Truth place b) j made = tt
  good_part i texts methods h (Nothing place) j made = tt
  good_part i texts methods h (This place) j made = tt
  good_part i texts methods h (Name place n) j made = tt
  good_part i texts methods h (Unary place o x) j made = tt
  good_part i texts methods h (Binary place o x y) j made = tt
  good_part i texts methods h (TextCall place o xs) j made = tt
  good_part i texts methods h (Ascribe place x t) j made = tt
  good_part i texts methods h (Assign place n x) j made = tt

  body_among : (bodies : List Body) (k : ℕ) (b : Body) → slice_get bodies k ≡ Some b → (e : Expr) → In e (block_parts b.block) →
      In e (bodies_parts bodies)
  body_among [] k b h e j = absurd cc
  body_among (c ∷ bs) zero b h e j = In-left e (block_parts c.block) (bodies_parts bs)
      (subst (λ (y : Body). In e (block_parts y.block)) (sym (some_is h)) j)
  body_among (c ∷ bs) (suc k) b h e j = In-right e (block_parts c.block) (bodies_parts bs) (body_among bs k b h e j)

  pub body_good : In sc p.scopes → Apart (literals_made sc) → (k : ℕ) (b : Body) → slice_get sc.bodies k ≡ Some b → (e : Expr) →
      In e (block_parts b.block) → IsGood p st sc (inside_body p st sc k b) e
  body_good h apart k b stands e j =
      let split = apart_rest (literals_made_in (start_parts sc.start)) _
      (subst (λ m. Apart m) (joined_literals (start_parts sc.start) (bodies_parts sc.bodies)) apart) in
      good_part (inside_body p st sc k b) refl refl h e (In-right e (start_parts sc.start) (bodies_parts sc.bodies) (body_among sc.bodies k b stands e j))
      (λ l makes.
      let z : 0 + k ≡ k = omega arith in
      maker_from l 0 k sc.bodies b split stands (new_makes l e (block_parts b.block) j makes) ∙ ap (λ (y : ℕ). inside_body p st sc y b) z)

  pub start_good : In sc p.scopes → Apart (literals_made sc) → (e : Expr) → In e (start_parts sc.start) → IsGood p st sc (inside_start p st sc) e
  start_good h apart e j =
      let split = subst (λ m. Apart m) (joined_literals (start_parts sc.start) (bodies_parts sc.bodies)) apart in
      good_part (inside_start p st sc) refl refl h e (In-left e (start_parts sc.start) (bodies_parts sc.bodies) j)
      (λ l makes. start_from l 0 sc.bodies
      (λ i. apart_between _ _ split l (made_here l (start_parts sc.start) (new_makes l e (start_parts sc.start) j makes)) i))

------------------------------------------------------------
-- `val`s

pub val_is : (n : ℕ) (ms : List ℕ) → In n ms → is_val n ms ≡ true
val_is n [] j = absurd j
val_is n (m ∷ ms) (inl e) = ap (λ b. b || is_val n ms) (eq-eqb m n e)
val_is n (m ∷ ms) (inr j) = of (nat_eq m n) (val_is n ms j)
  where
    of : (b : Bool) → is_val n ms ≡ true → (b || is_val n ms) ≡ true
    of true t = refl
    of false t = t

pub is_among_vals : (n : ℕ) (ms : List ℕ) → is_val n ms ≡ true → In n ms
is_among_vals n [] h = absurd cc
is_among_vals n (m ∷ ms) h = of (or_cases (nat_eq m n) (is_val n ms) h) (is_among_vals n ms)
  where
    of : (nat_eq m n ≡ true) ⊎ (is_val n ms ≡ true) → (is_val n ms ≡ true → In n ms) → In n (m ∷ ms)
    of (inl t) rest = inl (eqb-true m n t)
    of (inr t) rest = inr (rest t)

-- the `val`s of a body differ, and its object captured none of them
pub record OwnVals (sc : Scope) (b : Body) : Type 0 where
  pub apart : Apart (block_vals b.block)
  pub not_captured : (n : ℕ) → In (Local n) (literal_captures (slice_get sc.literals b.owner)) → In n (block_vals b.block) → ⊥

pub own_vals : (sc : Scope) (before : List ℕ) (bodies : List Body) → CapturesBefore sc before bodies → Apart (before ++ bodies_vals bodies) →
    (k : ℕ) (b : Body) → slice_get bodies k ≡ Some b → OwnVals sc b
own_vals sc before [] h apart k b e = absurd cc
own_vals sc before (c ∷ bs) h apart zero b e = subst (λ (y : Body). OwnVals sc y) (some_is e) (record {
  apart = apart_first (block_vals c.block) (bodies_vals bs) (apart_rest before _ apart);
  not_captured = λ n j i. apart_between before _ apart n (h.0 n j) (In-left n (block_vals c.block) (bodies_vals bs) i);
})
own_vals sc before (c ∷ bs) h apart (suc k) b e =
    own_vals sc (before ++ block_vals c.block) bs h.1
    (subst (λ m. Apart m) (sym (append_assoc before (block_vals c.block) (bodies_vals bs))) apart) k b e
