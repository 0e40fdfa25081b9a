-- Readers that are exact, put together with everything left out that can be found.
use Rattle.std.proofs.Common.{◌≡◌, ℕ, ◌+◌, ◌-◌, ◌≤◌, Bool, true, false, ◌||◌, ◌&&◌, not, ◌==◌, List, [], ◌∷◌, ◌++◌, refl, sym, ap, subst, ◌∙◌, arith, inl, inr, ◌⊎◌, append_assoc, append-nil}
use Rattle.wy_text.specs.declared.fault.Place.{Place}
use Rattle.wy_text.specs.declared.token.TokenKind.TheVariants as kind
use Rattle.wy_syntax.specs.declared.types.Name.{Name}
use Rattle.wy_syntax.specs.Tokens.{Tok, code, code_of, member}
use Rattle.wy_syntax.specs.Languages.{Sign, Mark, Word, Then, Each, Commas, Commas1}
use Rattle.wy_parser.specs.Reading.{Deep, ◌>>=◌, ret, starts, choose, fold_many}
use Rattle.wy_parser.specs.Parsing.{R, tok, mark, word, name_at, text_of_kind, snoc, each, comma_part, commas1, commas}
use Rattle.wy_parser.proofs.Exact as exact
use Rattle.wy_parser.proofs.Exact.{Begins, Stops, Exact, Taken, Stuck, Clean, Spelled, Seq, Fit, Sets, Is, One, Mapped, Choice, Many, Folds, folded, Loop, subset, apart, in_subset, not_in, fit_of, exact-bind, exact-map, exact-iff, exact-ret, exact-one_of, exact-choose, exact-fold}
use Rattle.wy_parser.proofs.Exact.{IsLeft, exact-left}
use Rattle.wy_parser.proofs.Else.{Other, exact-else}
use Rattle.wy_parser.proofs.KindNumbers.{kind_at, is_fixed, kind_is, name_is}

abbrev pub Says : Type 0 → Type 1
Says A = A → List Tok → Type 0

-- p reads what S says, and q is the same reader with more depth; some list is read
pub record Made {A : Type 0} (p q : R A) (S : A → List Tok → Type 0) (F C : List ℕ) (N : Bool) (m : ℕ) : Type 0 where
  pub is : Exact Tok code 66 p q S F C N m
  pub some : Spelled Tok code 66 S

abbrev pub SeqOf : {A B : Type 0} → (A → List Tok → Type 0) → (A → B → List Tok → Type 0) → B → List Tok → Type 0
SeqOf S P = Seq Tok code 66 S P

abbrev pub MapOf : {A B : Type 0} → (A → B) → (A → List Tok → Type 0) → B → List Tok → Type 0
MapOf f S = Mapped Tok code 66 f S

abbrev pub IsOf : {A : Type 0} → A → A → List Tok → Type 0
IsOf a = Is Tok code 66 a

abbrev pub Or : {A : Type 0} → (A → List Tok → Type 0) → (A → List Tok → Type 0) → A → List Tok → Type 0
Or S P a u = S a u ⊎ P a u

abbrev pub sub : List ℕ → List ℕ → Bool
sub a b = subset Tok code 66 a b

abbrev pub off : List ℕ → List ℕ → Bool
off a b = apart Tok code 66 a b

-- ---- sets

both : (a b : Bool) → (a && b) ≡ true → (a ≡ true) × (b ≡ true)
both true b e = (refl, e)
both false b e = absurd cc

or_right : (a b : Bool) → b ≡ true → (a || b) ≡ true
or_right true b e = refl
or_right false b e = e

or_false : (a b : Bool) → (a || b) ≡ false → (a ≡ false) × (b ≡ false)
or_false true b e = absurd cc
or_false false b e = (refl, e)

or_both : (a b c : Bool) → (b ≡ true → c ≡ true) → (a || b) ≡ true → (a || c) ≡ true
or_both true b c f e = refl
or_both false b c f e = f e

in_left : (n : ℕ) (a b : List ℕ) → member n a ≡ true → member n (a ++ b) ≡ true
in_left n [] b e = absurd cc
in_left n (x ∷ a) b e = or_both (n == x) (member n a) (member n (a ++ b)) (λ h. in_left n a b h) e

in_right : (n : ℕ) (a b : List ℕ) → member n b ≡ true → member n (a ++ b) ≡ true
in_right n [] b e = e
in_right n (x ∷ a) b e = or_right (n == x) (member n (a ++ b)) (in_right n a b e)

out_left : (n : ℕ) (a b : List ℕ) → member n (a ++ b) ≡ false → member n a ≡ false
out_left n [] b e = refl
out_left n (x ∷ a) b e =
    let t = or_false (n == x) (member n (a ++ b)) e in
    let k = out_left n a b t.1 in
    ap (λ (c : Bool). c || member n a) t.0 ∙ k

out_right : (n : ℕ) (a b : List ℕ) → member n (a ++ b) ≡ false → member n b ≡ false
out_right n [] b e = e
out_right n (x ∷ a) b e = out_right n a b (or_false (n == x) (member n (a ++ b)) e).1

self_in : (n : ℕ) (a : List ℕ) → member n (n ∷ a) ≡ true
self_in n a = first (n == n) (same n)
  where
    first : (b : Bool) → b ≡ true → (b || member n a) ≡ true
    first true e = refl
    first false e = absurd cc

    same : (n : ℕ) → (n == n) ≡ true
    same n = grind arith

pub sub_of : (a b : List ℕ) → ((n : ℕ) → member n a ≡ true → member n b ≡ true) → sub a b ≡ true
sub_of [] b f = refl
sub_of (x ∷ a) b f = and_true (member x b) (sub a b) (f x (self_in x a)) (sub_of a b (λ n e. f n (or_right (n == x) (member n a) e)))
  where
    and_true : (c d : Bool) → c ≡ true → d ≡ true → (c && d) ≡ true
    and_true true d e h = h
    and_true false d e h = absurd cc

pub sub_self : (a : List ℕ) → sub a a ≡ true
sub_self a = sub_of a a (λ n e. e)

pub sub_left : (a b : List ℕ) → sub a (a ++ b) ≡ true
sub_left a b = sub_of a (a ++ b) (λ n e. in_left n a b e)

pub sub_right : (a b : List ℕ) → sub b (a ++ b) ≡ true
sub_right a b = sub_of b (a ++ b) (λ n e. in_right n a b e)

-- ---- one after the other

abbrev pub firsts : Bool → List ℕ → List ℕ → List ℕ
firsts true F1 F2 = F1 ++ F2
firsts false F1 F2 = F1

abbrev pub lasts : Bool → List ℕ → List ℕ → List ℕ
lasts true C2 C1 = C2 ++ C1
lasts false C2 C1 = C2

fit_sum : (F1 C1 : List ℕ) (N1 : Bool) (F2 C2 : List ℕ) (N2 : Bool) → off F2 C1 ≡ true → Fit Tok code 66 F1 C1 N1 F2 C2 N2 (firsts N1 F1 F2) (lasts N2 C2 C1) (N1 && N2)
fit_sum F1 C1 N1 F2 C2 N2 e = record {
  begins = λ u v h k. begins N1 N2 u v h k;
  stops1 = λ v r h k. stops N2 v r h k;
  stops2 = λ r k. behind N2 r k;
}
  where
    begins : (N1 N2 : Bool) (u v : List Tok) → Begins Tok code 66 N1 F1 u → Begins Tok code 66 N2 F2 v → Begins Tok code 66 (N1 && N2) (firsts N1 F1 F2) (u ++ v)
    begins true N2 [] [] h k = k
    begins true N2 [] (x ∷ v) h k = in_right (code x) F1 F2 k
    begins true N2 (x ∷ u) v h k = in_left (code x) F1 F2 h
    begins false N2 [] v h k = absurd cc
    begins false N2 (x ∷ u) v h k = h

    stops : (N2 : Bool) (v r : List Tok) → Begins Tok code 66 N2 F2 v → Stops Tok code 66 (lasts N2 C2 C1) r → Stops Tok code 66 C1 (v ++ r)
    stops true [] [] h k = tt
    stops true [] (x ∷ r) h k = out_right (code x) C2 C1 k
    stops false [] r h k = absurd cc
    stops N2 (x ∷ v) r h k = not_in Tok code 66 (code x) F2 C1 e h

    behind : (N2 : Bool) (r : List Tok) → Stops Tok code 66 (lasts N2 C2 C1) r → Stops Tok code 66 C2 r
    behind N2 [] k = tt
    behind true (x ∷ r) k = out_left (code x) C2 C1 k
    behind false (x ∷ r) k = k

pub some_seq : {A B : Type 0} {S : A → List Tok → Type 0} {P : A → B → List Tok → Type 0} → Spelled Tok code 66 S → ((a : A) → Spelled Tok code 66 (P a)) → Spelled Tok code 66 (Seq Tok code 66 S P)
some_seq s r = let t = r s.value in record { value = t.value; text = s.text ++ t.text; spelled = record { value = s.value; front = s.text; back = t.text; parts = refl; first = s.spelled; second = t.spelled } }

-- the second part at the same depth
pub seq : {A B : Type 0} {p q : R A} {S : A → List Tok → Type 0} {f g : A → R B} {P : A → B → List Tok → Type 0} {F1 C1 F2 C2 : List ℕ} {N1 N2 : Bool} {m : ℕ} → Made p q S F1 C1 N1 m → ((a : A) → Made (f a) (g a) (P a) F2 C2 N2 m) → off F2 C1 ≡ true → Made (p >>= f) (q >>= g) (SeqOf S P) (firsts N1 F1 F2) (lasts N2 C2 C1) (N1 && N2) m
seq {A} {B} {p} {q} {S} {f} {g} {P} {F1} {C1} {F2} {C2} {N1} {N2} {m} M Q e = record {
  is = exact-bind Tok code 66 p q S f g P F1 C1 F2 C2 (firsts N1 F1 F2) (lasts N2 C2 C1) N1 N2 (N1 && N2) m m m M.is (λ a. (Q a).is) (λ a. (Q a).some) (fit_sum F1 C1 N1 F2 C2 N2 e) (omega arith) (more N1);
  some = some_seq M.some (λ a. (Q a).some);
}
  where
    more : (N1 : Bool) → m ≤ m + exact.width Tok code 66 N1
    more true = omega arith
    more false = omega arith

-- the second part behind a token, so that one depth less is enough for it
pub behind : {A B : Type 0} {p q : R A} {S : A → List Tok → Type 0} {f g : A → R B} {P : A → B → List Tok → Type 0} {F1 C1 F2 C2 : List ℕ} {N2 : Bool} {m : ℕ} → Made p q S F1 C1 false m → ((a : A) → Made (f a) (g a) (P a) F2 C2 N2 (m - 1)) → off F2 C1 ≡ true → Made (p >>= f) (q >>= g) (SeqOf S P) F1 (lasts N2 C2 C1) false m
behind {A} {B} {p} {q} {S} {f} {g} {P} {F1} {C1} {F2} {C2} {N2} {m} M Q e = record {
  is = exact-bind Tok code 66 p q S f g P F1 C1 F2 C2 F1 (lasts N2 C2 C1) false N2 false m (m - 1) m M.is (λ a. (Q a).is) (λ a. (Q a).some) (fit_sum F1 C1 false F2 C2 N2 e) (omega arith) (omega arith);
  some = some_seq M.some (λ a. (Q a).some);
}

pub map_to : {A B : Type 0} {p q : R A} {S : A → List Tok → Type 0} {F C : List ℕ} {N : Bool} {m : ℕ} (h : A → B) → Made p q S F C N m → Made (p >>= λ a. ret (h a)) (q >>= λ a. ret (h a)) (MapOf h S) F C N m
map_to {A} {B} {p} {q} {S} {F} {C} {N} {m} h M = record {
  is = exact-map Tok code 66 p q h S F C N m M.is;
  some = record { value = h M.some.value; text = M.some.text; spelled = record { value = M.some.value; is = refl; spelled = M.some.spelled } };
}

pub give : {A : Type 0} (a : A) (m : ℕ) → Made (ret {T = Tok} a) (ret a) (IsOf a) [] [] true m
give a m = record { is = exact-ret Tok code 66 a m; some = record { value = a; text = []; spelled = record { same = refl; empty = refl } } }

-- ---- a choice by the next token

abbrev pub if_none : Bool → List ℕ → List ℕ
if_none true G = G
if_none false G = []

pub alt : {A : Type 0} {p1 q1 p2 q2 : R A} {S1 S2 : A → List Tok → Type 0} {F1 C1 F2 C2 : List ℕ} {N2 : Bool} {m : ℕ} (G : List ℕ) → Made p1 q1 S1 F1 C1 false m → Made p2 q2 S2 F2 C2 N2 m → (sub F1 G && off F2 G) ≡ true → Made (choose code G p1 p2) (choose code G q1 q2) (Or S1 S2) (F1 ++ F2) (if_none N2 G ++ (C1 ++ C2)) N2 m
alt {A} {p1} {q1} {p2} {q2} {S1} {S2} {F1} {C1} {F2} {C2} {N2} {m} G M1 M2 e = record {
  is = exact-choose Tok code 66 G p1 q1 p2 q2 S1 S2 F1 C1 F2 C2 (F1 ++ F2) (if_none N2 G ++ (C1 ++ C2)) N2 m M1.is M2.is (record {
    inside = (both (sub F1 G) (off F2 G) e).0;
    outside = (both (sub F1 G) (off F2 G) e).1;
    behind = through N2;
    f1 = sub_left F1 F2;
    f2 = sub_right F1 F2;
    c1 = sub_of C1 (if_none N2 G ++ (C1 ++ C2)) (λ n h. in_right n (if_none N2 G) (C1 ++ C2) (in_left n C1 C2 h));
    c2 = sub_of C2 (if_none N2 G ++ (C1 ++ C2)) (λ n h. in_right n (if_none N2 G) (C1 ++ C2) (in_right n C1 C2 h));
  });
  some = record { value = M1.some.value; text = M1.some.text; spelled = inl M1.some.spelled };
}
  where
    through : (N2 : Bool) → (not N2 || sub G (if_none N2 G ++ (C1 ++ C2))) ≡ true
    through true = sub_left G (C1 ++ C2)
    through false = refl

-- ---- another relation that says the same, and larger sets

pub become : {A : Type 0} {p q : R A} {S P : A → List Tok → Type 0} {F C F' C' : List ℕ} {N : Bool} {m : ℕ} → Made p q S F C N m → ((a : A) (u : List Tok) → S a u → P a u) → ((a : A) (u : List Tok) → P a u → S a u) → (sub F F' && sub C C') ≡ true → Made p q P F' C' N m
become {A} {p} {q} {S} {P} {F} {C} {F'} {C'} {N} {m} M to from e = record {
  is = exact-iff Tok code 66 p q S P F C F' C' N m m M.is to (λ a u lt s. from a u s) (both (sub F F') (sub C C') e).0 (both (sub F F') (sub C C') e).1 (omega arith);
  some = record { value = M.some.value; text = M.some.text; spelled = to M.some.value M.some.text M.some.spelled };
}

-- what may be empty, though it is not
pub nullable : {A : Type 0} {p q : R A} {S : A → List Tok → Type 0} {F C : List ℕ} {m : ℕ} → Made p q S F C false m → Made p q S F C true m
nullable {A} {p} {q} {S} {F} {C} {m} M = record {
  is = record {
    begins = λ a u s lt. more u (M.is.begins a u s lt);
    yes = M.is.yes;
    no = M.is.no;
    complete = M.is.complete;
    enough = M.is.enough;
    clean = M.is.clean;
  };
  some = M.some;
}
  where
    more : (u : List Tok) → Begins Tok code 66 false F u → Begins Tok code 66 true F u
    more [] h = refl
    more (x ∷ u) h = h

pub less : {A : Type 0} {p q : R A} {S : A → List Tok → Type 0} {F C : List ℕ} {N : Bool} {m m' : ℕ} → Made p q S F C N m → m' ≤ m → Made p q S F C N m'
less {A} {p} {q} {S} {F} {C} {N} {m} {m'} M le = record {
  is = exact-iff Tok code 66 p q S S F C F C N m m' M.is (λ a u s. s) (λ a u lt s. s) (sub_self F) (sub_self C) le;
  some = M.some;
}

-- ---- tokens

abbrev pub here : Place
here = record { file = 1; line = 1; column = 1 }

abbrev pub token_at : ℕ → Tok
token_at k = record { kind = kind_at k; place = here }

abbrev pub OneOf : List ℕ → Tok → List Tok → Type 0
OneOf G = One Tok code 66 G

pub is_member : (n k : ℕ) → member n (k ∷ []) ≡ true → n ≡ k
is_member n k e = grind arith

pub member_is : (n k : ℕ) → n ≡ k → member n (k ∷ []) ≡ true
member_is n k e = subst (λ (j : ℕ). member j (k ∷ []) ≡ true) (sym e) (self_in k [])

pub made_tok : (G : List ℕ) (k m : ℕ) → (member (code (token_at k)) G && not (member 66 G)) ≡ true → Made (tok G) (tok G) (OneOf G) G [] false m
made_tok G k m e =
    let t = split (member (code (token_at k)) G) (member 66 G) e in
    record {
      is = exact-one_of Tok code 66 G (token_at k) m t.0 t.1;
      some = record { value = token_at k; text = token_at k ∷ []; spelled = record { only = refl; fits = t.0 } };
    }
  where
    split : (a b : Bool) → (a && not b) ≡ true → (a ≡ true) × (b ≡ false)
    split true true h = absurd cc
    split true false h = (refl, refl)
    split false b h = absurd cc

-- the test of a kind that `mark` reads
abbrev pub marks : ℕ → Bool
marks k = (member (code (token_at k)) (k ∷ []) && not (member 66 (k ∷ []))) && (is_fixed k && (code_of (kind_at k) == k))

pub eq_is : (n k : ℕ) → (n == k) ≡ true → n ≡ k
eq_is n k e = grind arith

pub made_mark : (k m : ℕ) → marks k ≡ true → Made (mark k) (mark k) (λ p. Mark (kind_at k) p) (k ∷ []) [] false m
made_mark k m e =
    let a = both (member (code (token_at k)) (k ∷ []) && not (member 66 (k ∷ []))) (is_fixed k && (code_of (kind_at k) == k)) e in
    let b = both (is_fixed k) (code_of (kind_at k) == k) a.1 in
    become (map_to (λ (x : Tok). x.place) (made_tok (k ∷ []) k m a.0))
    (λ p u s. record { token = s.value; only = s.spelled.only; kind = kind_of s.value (is_member (code s.value) k s.spelled.fits) b.0; place = sym s.is })
    (λ p u s. record { value = s.token; is = sym s.place; spelled = record { only = s.only; fits = member_is (code s.token) k (ap (λ z. code_of z) s.kind ∙ eq_is (code_of (kind_at k)) k b.1) } })
    (fits k)
  where
    kind_of : (x : Tok) → code x ≡ k → is_fixed k ≡ true → x.kind ≡ kind_at k
    kind_of x h f = kind_is x.kind (ap (λ (j : ℕ). is_fixed j) h ∙ f) ∙ ap (λ (j : ℕ). kind_at j) h

    fits : (k : ℕ) → (sub (k ∷ []) (k ∷ []) && sub [] []) ≡ true
    fits k = rw (sub_self (k ∷ [])) refl

pub made_word : (m : ℕ) → Made word word (λ n. Word n) (1 ∷ []) [] false m
made_word m = become (map_to name_at (made_tok (1 ∷ []) 1 m refl))
    (λ n u s. record { token = s.value; only = s.spelled.only; kind = name_is s.value.kind (is_member (code s.value) 1 s.spelled.fits) ∙ ap (λ (w : Name). kind.Name w.text) (sym s.is); place = ap (λ (w : Name). w.place) (sym s.is) })
    (λ n u s. record { value = s.token; is = whole n.text n.place (text_of_kind s.token.kind) s.token.place (ap (λ z. text_of_kind z) (sym s.kind)) (sym s.place); spelled = record { only = s.only; fits = member_is (code s.token) 1 (ap (λ z. code_of z) s.kind) } })
    refl
  where
    named : List ℕ → Place → Name
    named t p = record { text = t; place = p }

    whole : (t : List ℕ) (p : Place) (t' : List ℕ) (p' : Place) → t ≡ t' → p ≡ p' → named t p ≡ named t' p'
    whole t p t' p' e h = ap (λ (z : List ℕ). named z p) e ∙ ap (λ (z : Place). named t' z) h

-- ---- what a relation is made of

-- the parts of a sequence that was read, as the grammar says them
pub pass : {A B : Type 0} {S : A → List Tok → Type 0} {P : A → B → List Tok → Type 0} {b : B} {u : List Tok} {Q W : List Tok → Type 0} (s : SeqOf S P b u) → Q s.front → W s.back → Then Q W u
pass s q w = record { front = s.front; back = s.back; parts = s.parts; first = q; second = w }

-- the other way round: what was spelled is read
pub unpass : {A B : Type 0} {S : A → List Tok → Type 0} {P : A → B → List Tok → Type 0} {b : B} {u : List Tok} {Q W : List Tok → Type 0} (s : Then Q W u) (a : A) → S a s.front → P a b s.back → SeqOf S P b u
unpass s a q w = record { value = a; front = s.front; back = s.back; parts = s.parts; first = q; second = w }

-- a sequence that was read, with other relations
pub unpass_as : {A B D : Type 0} {S S' : A → List Tok → Type 0} {P : A → B → List Tok → Type 0} {P' : A → D → List Tok → Type 0} {b : B} {d : D} {u : List Tok} (s : SeqOf S P b u) (a : A) → S' a s.front → P' a d s.back → SeqOf S' P' d u
unpass_as s a q w = record { value = a; front = s.front; back = s.back; parts = s.parts; first = q; second = w }

-- a first part that is all, since nothing stands behind it
pub all_of : {A B : Type 0} {S : A → List Tok → Type 0} {P : A → B → List Tok → Type 0} {b : B} {u : List Tok} (a : A) → S a u → P a b [] → SeqOf S P b u
all_of {A} {B} {S} {P} {b} {u} a s t = record { value = a; front = u; back = []; parts = sym (append-nil u); first = s; second = t }

pub alone_of : {A B : Type 0} {S : A → List Tok → Type 0} {P : A → B → List Tok → Type 0} {b : B} {u : List Tok} (Q : List Tok → Type 0) (s : SeqOf S P b u) → s.back ≡ [] → Q s.front → Q u
alone_of {A} {B} {S} {P} {b} {u} Q s e q = subst Q (sym (s.parts ∙ ap (λ (w : List Tok). s.front ++ w) e ∙ append-nil s.front)) q

pub map_of : {A B : Type 0} {S : A → List Tok → Type 0} {f : A → B} {b : B} {u : List Tok} (a : A) → b ≡ f a → S a u → MapOf f S b u
map_of a e s = record { value = a; is = e; spelled = s }

-- a token at a place is a token, and the other way round
pub sign : {k : _} {p : Place} {u : List Tok} → Mark k p u → Sign k u
sign s = record { token = s.token; only = s.only; kind = s.kind }

pub unsign : {k : _} {u : List Tok} (s : Sign k u) → Mark k s.token.place u
unsign s = record { token = s.token; only = s.only; kind = s.kind; place = refl }

-- ---- lists

snoc_all : {A : Type 0} (acc es : List A) → folded Tok code 66 snoc acc es ≡ acc ++ es
snoc_all acc [] = sym (append-nil acc)
snoc_all acc (e ∷ es) = snoc_all (acc ++ e ∷ []) es ∙ append_assoc acc (e ∷ []) es

many_to : {A : Type 0} (P : A → List Tok → Type 0) (as' : List A) (u : List Tok) → Many Tok code 66 P as' u → Each P as' u
many_to P [] u m = m
many_to P (a ∷ as') u (front, back, parts, first, others) = record { front = front; back = back; parts = parts; first = first; second = many_to P as' back others }

many_from : {A : Type 0} (P : A → List Tok → Type 0) (as' : List A) (u : List Tok) → Each P as' u → Many Tok code 66 P as' u
many_from P [] u m = m
many_from P (a ∷ as') u m = (m.front, m.back, m.parts, m.first, many_from P as' m.back m.second)

loop_sets : (F C : List ℕ) → off F C ≡ true → Loop Tok code 66 F C F (F ++ C)
loop_sets F C e = record { same = sub_self F; self = sub_self F; clear = e; outside = e; behind = sub_left F C; behind_part = sub_right F C; behind_self = sub_self (F ++ C) }

-- more of a list behind what was read of it
pub made_more : {A : Type 0} {p q : R A} {P : A → List Tok → Type 0} {F C : List ℕ} {m : ℕ} (n n' : ℕ) → n ≤ n' → m ≤ n → Made p q P F C false m → off F C ≡ true → (acc : List A) → Made (fold_many code n F p snoc acc) (fold_many code n' F q snoc acc) (Folds Tok code 66 P snoc acc) F (F ++ C) true m
made_more {A} {p} {q} {P} {F} {C} {m} n n' h1 h2 M e acc = record {
  is = exact-fold Tok code 66 F C F (F ++ C) m p q P snoc M.is (loop_sets F C e) n n' m acc h1 h2 (omega arith);
  some = record { value = acc; text = []; spelled = record { items = []; is = refl; spelled = refl } };
}

pub self_true : (F C : List ℕ) → (sub F F && sub C C) ≡ true
self_true F C = rw (sub_self F, sub_self C) refl

pub made_each : {A : Type 0} {p q : R A} {P : A → List Tok → Type 0} {F C : List ℕ} {m : ℕ} (n n' : ℕ) → n ≤ n' → m ≤ n → Made p q P F C false m → off F C ≡ true → Made (each F p n) (each F q n') (λ as' u. Each P as' u) F (F ++ C) true m
made_each {A} {p} {q} {P} {F} {C} {m} n n' h1 h2 M e = become (made_more n n' h1 h2 M e [])
    (λ as' u s. subst (λ (l : List A). Each P l u) (sym (s.is ∙ snoc_all [] s.items)) (many_to P s.items u s.spelled))
    (λ as' u s. record { items = as'; is = sym (snoc_all [] as'); spelled = many_from P as' u s })
    (self_true F (F ++ C))

-- a comma and an item
made_comma : {A : Type 0} {p q : R A} {P : A → List Tok → Type 0} {F C : List ℕ} {m : ℕ} → Made p q P F C false m → Made (comma_part p) (comma_part q) (λ b. Then (Sign kind.SymComma) (P b)) (44 ∷ []) C false m
made_comma {A} {p} {q} {P} {F} {C} {m} M = become (seq (made_mark 44 m refl) (λ c. M) (none F))
    (λ b u s. pass s (sign s.first) s.second)
    (λ b u s. unpass s s.first.token.place (unsign s.first) s.second)
    (self_true (44 ∷ []) C)
  where
    none : (F : List ℕ) → off F [] ≡ true
    none [] = refl
    none (x ∷ F) = none F

pub made_commas1 : {A : Type 0} {p q : R A} {P : A → List Tok → Type 0} {F C : List ℕ} {m : ℕ} (n n' : ℕ) → n ≤ n' → m ≤ n → Made p q P F C false m → off (44 ∷ []) C ≡ true → Made (commas1 p n) (commas1 q n') (λ as' u. Commas1 P as' u) F ((44 ∷ C) ++ C) false m
made_commas1 {A} {p} {q} {P} {F} {C} {m} n n' h1 h2 M e = become (seq M (λ a. made_more n n' h1 h2 (made_comma M) e (a ∷ [])) e)
    (λ as' u s. to as' u s) (λ as' u s. from as' u s) (self_true F ((44 ∷ C) ++ C))
  where
    to : (as' : List A) (u : List Tok) → SeqOf P (λ a. Folds Tok code 66 (λ b. Then (Sign kind.SymComma) (P b)) snoc (a ∷ [])) as' u → Commas1 P as' u
    to as' u s = subst (λ (l : List A). Commas1 P l u) (sym (s.second.is ∙ snoc_all (s.value ∷ []) s.second.items)) (pass s s.first (many_to _ s.second.items s.back s.second.spelled))

    from : (as' : List A) (u : List Tok) → Commas1 P as' u → SeqOf P (λ a. Folds Tok code 66 (λ b. Then (Sign kind.SymComma) (P b)) snoc (a ∷ [])) as' u
    from [] u s = absurd s
    from (a ∷ as') u s = unpass s a s.first (record { items = as'; is = sym (snoc_all (a ∷ []) as'); spelled = many_from _ as' s.back s.second })

pub made_commas : {A : Type 0} {p q : R A} {P : A → List Tok → Type 0} {F C : List ℕ} {m : ℕ} (n n' : ℕ) → n ≤ n' → m ≤ n → Made p q P F C false m → off (44 ∷ []) C ≡ true → (sub F F && off [] F) ≡ true → Made (commas F p n) (commas F q n') (λ as' u. Commas P as' u) (F ++ []) (F ++ (((44 ∷ C) ++ C) ++ [])) true m
made_commas {A} {p} {q} {P} {F} {C} {m} n n' h1 h2 M e h = become (alt F (made_commas1 n n' h1 h2 M e) (give [] m) h)
    (λ as' u s. to as' u s) (λ as' u s. from as' u s) (self_true (F ++ []) (F ++ (((44 ∷ C) ++ C) ++ [])))
  where
    to : (as' : List A) (u : List Tok) → Or (λ as' u. Commas1 P as' u) (IsOf []) as' u → Commas P as' u
    to [] u (inl s) = absurd s
    to (a ∷ as') u (inl s) = s
    to as' u (inr s) = subst (λ (l : List A). Commas P l u) (sym s.same) s.empty

    from : (as' : List A) (u : List Tok) → Commas P as' u → Or (λ as' u. Commas1 P as' u) (IsOf []) as' u
    from [] u s = inr (record { same = refl; empty = s })
    from (a ∷ as') u s = inl s

-- ---- a head and any number of parts behind it, which group to the left

abbrev pub LeftOf : {A B : Type 0} → (A → List Tok → Type 0) → (B → List Tok → Type 0) → (A → B → A) → (A → List Tok → Type 0) → Type 0
LeftOf S1 S2 add L = IsLeft Tok code 66 S1 S2 add L

-- the test of the sets: the head's and a part's, what begins a part, and what may go on behind all
abbrev pub left_fits : List ℕ → List ℕ → List ℕ → List ℕ → List ℕ → List ℕ → Bool
left_fits F1 C1 F2 C2 G D = sub F2 G && (off F2 C2 && (off G C2 && (sub G D && (sub C2 D && (off G C1 && sub C1 D)))))

pub made_left : {A B : Type 0} {p1 q1 : R A} {p2 q2 : R B} {S1 : A → List Tok → Type 0} {S2 : B → List Tok → Type 0} {L : A → List Tok → Type 0} {add : A → B → A} {F1 C1 F2 C2 : List ℕ} {m : ℕ} (n n' : ℕ) → n ≤ n' → m ≤ n → (G D : List ℕ) → Made p1 q1 S1 F1 C1 false m → Made p2 q2 S2 F2 C2 false m → LeftOf S1 S2 add L → left_fits F1 C1 F2 C2 G D ≡ true → Made (p1 >>= λ a. fold_many code n G p2 add a) (q1 >>= λ a. fold_many code n' G q2 add a) L F1 D false m
made_left {A} {B} {p1} {q1} {p2} {q2} {S1} {S2} {L} {add} {F1} {C1} {F2} {C2} {m} n n' h k G D M1 M2 l e =
    let a = both (sub F2 G) _ e in
    let b = both (off F2 C2) _ a.1 in
    let c = both (off G C2) _ b.1 in
    let d = both (sub G D) _ c.1 in
    let f = both (sub C2 D) _ d.1 in
    let g = both (off G C1) (sub C1 D) f.1 in
    record {
      is = exact-left Tok code 66 F1 C1 F2 C2 G D m m p1 q1 p2 q2 S1 S2 add L M1.is M2.is
          (record { same = a.0; self = sub_self G; clear = b.0; outside = c.0; behind = d.0; behind_part = f.0; behind_self = sub_self D })
          (fit_of Tok code 66 F1 C1 false G D true F1 D false (record { first = sub_self F1; second = refl; empty = refl; clear = g.0; through = g.1; behind = sub_self D }))
          l (sub_self F1) n n' m h k (omega arith) (omega arith);
      some = record { value = M1.some.value; text = M1.some.text; spelled = l.head M1.some.value M1.some.text M1.some.spelled };
    }

-- ---- a second side for what does not begin in the first side's set

abbrev pub Elsewhere : {A : Type 0} → List ℕ → (A → List Tok → Type 0) → A → List Tok → Type 0
Elsewhere G S a u = S a u × (starts code G u ≡ false)

pub otherwise : {A : Type 0} {p1 q1 p2 q2 : R A} {S1 S2 : A → List Tok → Type 0} {F1 C1 F2 C2 : List ℕ} {m : ℕ} (G : List ℕ) → Made p1 q1 S1 F1 C1 false m → Made p2 q2 S2 F2 C2 false m → Other Tok code 66 G S2 → sub F1 G ≡ true → Made (choose code G p1 p2) (choose code G q1 q2) (Or S1 (Elsewhere G S2)) (F1 ++ F2) (C1 ++ C2) false m
otherwise {A} {p1} {q1} {p2} {q2} {S1} {S2} {F1} {C1} {F2} {C2} {m} G M1 M2 some e = record {
  is = exact-else Tok code 66 G p1 q1 p2 q2 S1 S2 F1 C1 F2 C2 (F1 ++ F2) (C1 ++ C2) m M1.is M2.is some (record { inside = e; f1 = sub_left F1 F2; f2 = sub_right F1 F2; c1 = sub_left C1 C2; c2 = sub_right C1 C2 });
  some = record { value = M1.some.value; text = M1.some.text; spelled = inl M1.some.spelled };
}

-- ---- no depth at all

abbrev pub never : {A : Type 0} → R A
never ts = Deep

pub made_never : {A : Type 0} {S : A → List Tok → Type 0} {F C : List ℕ} (q : R A) → Spelled Tok code 66 S → Made (never {A = A}) q S F C false 0
made_never q some = record {
  is = record {
    begins = λ a u s lt. absurd (omega arith);
    yes = λ ts r a e. absurd cc;
    no = λ ts r e. absurd cc;
    complete = λ a u r s lt st. absurd (omega arith);
    enough = λ ts e. omega arith;
    clean = λ a u s lt. absurd (omega arith);
  };
  some = some;
}
