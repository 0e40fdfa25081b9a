-- Printed texts put together, and what tokens they are read as.
use Rattle.std.proofs.Common.{◌≡◌, ℕ, pos, ◌<◌, ◌==◌, Bool, true, false, cond, List, [], ◌∷◌, ◌++◌, map, codes, decimal, refl, sym, ap, subst, ◌∙◌, arith, append_assoc}
use Rattle.std.specs.Char.{is_ascii_digit}
use Rattle.wy_text.specs.declared.fault.Place.{Place}
use Rattle.wy_text.specs.declared.token.TokenKind.{TokenKind}
use Rattle.wy_text.specs.declared.token.TokenKind.TheVariants as kind
use Rattle.wy_text.specs.Quoted.{quoted_form}
use Rattle.wy_text.specs.Spelling.{spelling_of}
use Rattle.wy_layout.specs.Names.{is_name}
use Rattle.wy_layout.specs.Words.{Word, name, number, text, fixed, edge, among, reserved, symbols, kind_of, all_digits, is_number}
use Rattle.wy_layout.specs.Lines.{content_of}
use Rattle.wy_layout.proofs.Scanning.{and_left, eq_is}
use Rattle.wy_syntax.specs.declared.types.Name.{Name}
use Rattle.wy_syntax.specs.Tokens.{Tok}
use Rattle.wy_syntax.specs.Languages.{Lang, Sign, Mark, Word as NameWord, ◌⨟◌, Then, Each, Commas}
use Rattle.wy_syntax.specs.Canonical.{after_commas, with_commas}
use Rattle.wy_canonical.specs.Unplaced.{bare_name}
use Rattle.wy_canonical.proofs.PrintedNames.{name_first}
use Rattle.wy_canonical.proofs.PrintedWords.{IsPrinted, closes, closes_free, closes_content, free, free_content, free_slashless, any, closed_apart, free_apart, printed_name, printed_reserved, printed_symbol, printed_number, printed_text}
use Rattle.wy_canonical.proofs.Reading.{RestIn}
use Rattle.wy_canonical.proofs.LineReading.{rest_word, rest_blank, rest_map, opens, opens_append, opens_free}
use Rattle.wy_canonical.proofs.Source.{Fair, AllFair}

-- ---- parts of a list of tokens

-- what holds of one part
pub second_map : {P Q R : Lang} {u : List Tok} → ((v : List Tok) → Q v → R v) → Then P Q u → Then P R u
second_map f x = record { front = x.front; back = x.back; parts = x.parts; first = x.first; second = f x.back x.second }

pub first_map : {P Q R : Lang} {u : List Tok} → ((v : List Tok) → P v → R v) → Then P Q u → Then R Q u
first_map f x = record { front = x.front; back = x.back; parts = x.parts; first = f x.front x.first; second = x.second }

-- the same parts in other languages
pub anew : {P Q P' Q' : Lang} {u : List Tok} → (x : Then P Q u) → P' x.front → Q' x.back → Then P' Q' u
anew x p q = record { front = x.front; back = x.back; parts = x.parts; first = p; second = q }

-- the first parts as one, from two parts to many
pub group2 : {P Q R : Lang} {u : List Tok} → Then P (Then Q R) u → Then (Then P Q) R u
group2 x = record {
  front = x.front ++ x.second.front;
  back = x.second.back;
  parts = x.parts ∙ ap (λ (z : List Tok). x.front ++ z) x.second.parts ∙ sym (append_assoc x.front x.second.front x.second.back);
  first = record { front = x.front; back = x.second.front; parts = refl; first = x.first; second = x.second.first };
  second = x.second.second;
}

pub group3 : {A1 A2 A3 R : Lang} {u : List Tok} → (A1 ⨟ A2 ⨟ A3 ⨟ R) u → ((A1 ⨟ A2 ⨟ A3) ⨟ R) u
group3 x = group2 (second_map (λ v y. group2 y) x)

pub group4 : {A1 A2 A3 A4 R : Lang} {u : List Tok} → (A1 ⨟ A2 ⨟ A3 ⨟ A4 ⨟ R) u → ((A1 ⨟ A2 ⨟ A3 ⨟ A4) ⨟ R) u
group4 x = group2 (second_map (λ v y. group3 y) x)

pub group5 : {A1 A2 A3 A4 A5 R : Lang} {u : List Tok} → (A1 ⨟ A2 ⨟ A3 ⨟ A4 ⨟ A5 ⨟ R) u → ((A1 ⨟ A2 ⨟ A3 ⨟ A4 ⨟ A5) ⨟ R) u
group5 x = group2 (second_map (λ v y. group4 y) x)

pub group6 : {A1 A2 A3 A4 A5 A6 R : Lang} {u : List Tok} → (A1 ⨟ A2 ⨟ A3 ⨟ A4 ⨟ A5 ⨟ A6 ⨟ R) u → ((A1 ⨟ A2 ⨟ A3 ⨟ A4 ⨟ A5 ⨟ A6) ⨟ R) u
group6 x = group2 (second_map (λ v y. group5 y) x)

pub group7 : {A1 A2 A3 A4 A5 A6 A7 R : Lang} {u : List Tok} → (A1 ⨟ A2 ⨟ A3 ⨟ A4 ⨟ A5 ⨟ A6 ⨟ A7 ⨟ R) u → ((A1 ⨟ A2 ⨟ A3 ⨟ A4 ⨟ A5 ⨟ A6 ⨟ A7) ⨟ R) u
group7 x = group2 (second_map (λ v y. group6 y) x)

pub group8 : {A1 A2 A3 A4 A5 A6 A7 A8 R : Lang} {u : List Tok} → (A1 ⨟ A2 ⨟ A3 ⨟ A4 ⨟ A5 ⨟ A6 ⨟ A7 ⨟ A8 ⨟ R) u → ((A1 ⨟ A2 ⨟ A3 ⨟ A4 ⨟ A5 ⨟ A6 ⨟ A7 ⨟ A8) ⨟ R) u
group8 x = group2 (second_map (λ v y. group7 y) x)

pub group9 : {A1 A2 A3 A4 A5 A6 A7 A8 A9 R : Lang} {u : List Tok} → (A1 ⨟ A2 ⨟ A3 ⨟ A4 ⨟ A5 ⨟ A6 ⨟ A7 ⨟ A8 ⨟ A9 ⨟ R) u → ((A1 ⨟ A2 ⨟ A3 ⨟ A4 ⨟ A5 ⨟ A6 ⨟ A7 ⨟ A8 ⨟ A9) ⨟ R) u
group9 x = group2 (second_map (λ v y. group8 y) x)

pub group10 : {A1 A2 A3 A4 A5 A6 A7 A8 A9 A10 R : Lang} {u : List Tok} → (A1 ⨟ A2 ⨟ A3 ⨟ A4 ⨟ A5 ⨟ A6 ⨟ A7 ⨟ A8 ⨟ A9 ⨟ A10 ⨟ R) u → ((A1 ⨟ A2 ⨟ A3 ⨟ A4 ⨟ A5 ⨟ A6 ⨟ A7 ⨟ A8 ⨟ A9 ⨟ A10) ⨟ R) u
group10 x = group2 (second_map (λ v y. group9 y) x)

pub group11 : {A1 A2 A3 A4 A5 A6 A7 A8 A9 A10 A11 R : Lang} {u : List Tok} → (A1 ⨟ A2 ⨟ A3 ⨟ A4 ⨟ A5 ⨟ A6 ⨟ A7 ⨟ A8 ⨟ A9 ⨟ A10 ⨟ A11 ⨟ R) u → ((A1 ⨟ A2 ⨟ A3 ⨟ A4 ⨟ A5 ⨟ A6 ⨟ A7 ⨟ A8 ⨟ A9 ⨟ A10 ⨟ A11) ⨟ R) u
group11 x = group2 (second_map (λ v y. group10 y) x)

-- parts of a file's tokens
pub fair_front : {P Q : Lang} {u : List Tok} → (x : Then P Q u) → AllFair u → AllFair x.front
fair_front x h = go x.front x.back (subst AllFair x.parts h)
  where
    go : (a b : List Tok) → AllFair (a ++ b) → AllFair a
    go [] b h = tt
    go (t ∷ a) b h = (h.0, go a b h.1)

pub fair_back : {P Q : Lang} {u : List Tok} → (x : Then P Q u) → AllFair u → AllFair x.back
fair_back x h = go x.front x.back (subst AllFair x.parts h)
  where
    go : (a b : List Tok) → AllFair (a ++ b) → AllFair b
    go [] b h = h
    go (t ∷ a) b h = go a b h.1

-- the kind of a token at its place is of a word of a file
pub fair_mark : {k : TokenKind} {p : Place} {u : List Tok} → Mark k p u → AllFair u → Fair k
fair_mark {k} x h = let g = subst AllFair x.only h in subst Fair x.kind g.0

pub fair_sign : {k : TokenKind} {u : List Tok} → Sign k u → AllFair u → Fair k
fair_sign {k} x h = let g = subst AllFair x.only h in subst Fair x.kind g.0

-- a sign has a place
pub mark_of : {k : TokenKind} {u : List Tok} → (x : Sign k u) → Mark k x.token.place u
mark_of x = record { token = x.token; only = x.only; kind = x.kind; place = refl }

-- ---- texts

-- where the test allows what stands behind the text u, it is read as tokens of F of what is read behind it
pub record Prints (t : List ℕ → Bool) (u : List ℕ) (F : Lang → Lang) : Type 1 where
  pub reads : (n : ℕ) (z : List ℕ) (Q : Lang) → t z ≡ true → RestIn n z Q → RestIn n (u ++ z) (F Q)

-- one behind the other, where what the second begins with may stand behind the first
pub seq : {t t' : List ℕ → Bool} {u v : List ℕ} {F G : Lang → Lang} → Prints t u F → Prints t' v G → ((z : List ℕ) → t' z ≡ true → t (v ++ z) ≡ true) → Prints t' (u ++ v) (λ Q. F (G Q))
seq {u = u} {v = v} {F = F} {G = G} p q h = record { reads = λ n z Q e r. subst (λ (x : List ℕ). RestIn n x (F (G Q))) (sym (append_assoc u v z)) (p.reads n (v ++ z) (G Q) (h z e) (q.reads n z Q e r)) }

-- what is read says more
pub conv : {t : List ℕ → Bool} {u : List ℕ} {F G : Lang → Lang} → Prints t u F → ((Q : Lang) (w : List Tok) → F Q w → G Q w) → Prints t u G
conv {u = u} {F = F} {G = G} p f = record { reads = λ n z Q e r. rest_map n (u ++ z) (F Q) (G Q) (f Q) (p.reads n z Q e r) }

-- nothing printed
pub empty : {t : List ℕ → Bool} → Prints t [] (λ Q. Q)
empty = record { reads = λ n z Q e r. r }

-- texts of one to many parts
pub as1 : {t : List ℕ → Bool} {u : List ℕ} {A P : Lang} → Prints t u (λ Q. A ⨟ Q) → ((w : List Tok) → A w → P w) → Prints t u (λ Q. P ⨟ Q)
as1 p f = conv p (λ Q w x. first_map f x)

pub as2 : {t : List ℕ → Bool} {u : List ℕ} {A B P : Lang} → Prints t u (λ Q. A ⨟ B ⨟ Q) → ((w : List Tok) → (A ⨟ B) w → P w) → Prints t u (λ Q. P ⨟ Q)
as2 p f = conv p (λ Q w x. first_map f (group2 x))

pub as3 : {t : List ℕ → Bool} {u : List ℕ} {A1 A2 A3 P : Lang} → Prints t u (λ Q. A1 ⨟ A2 ⨟ A3 ⨟ Q) → ((w : List Tok) → (A1 ⨟ A2 ⨟ A3) w → P w) → Prints t u (λ Q. P ⨟ Q)
as3 p f = conv p (λ Q w x. first_map f (group3 x))

pub as4 : {t : List ℕ → Bool} {u : List ℕ} {A1 A2 A3 A4 P : Lang} → Prints t u (λ Q. A1 ⨟ A2 ⨟ A3 ⨟ A4 ⨟ Q) → ((w : List Tok) → (A1 ⨟ A2 ⨟ A3 ⨟ A4) w → P w) → Prints t u (λ Q. P ⨟ Q)
as4 p f = conv p (λ Q w x. first_map f (group4 x))

pub as5 : {t : List ℕ → Bool} {u : List ℕ} {A1 A2 A3 A4 A5 P : Lang} → Prints t u (λ Q. A1 ⨟ A2 ⨟ A3 ⨟ A4 ⨟ A5 ⨟ Q) → ((w : List Tok) → (A1 ⨟ A2 ⨟ A3 ⨟ A4 ⨟ A5) w → P w) → Prints t u (λ Q. P ⨟ Q)
as5 p f = conv p (λ Q w x. first_map f (group5 x))

pub as6 : {t : List ℕ → Bool} {u : List ℕ} {A1 A2 A3 A4 A5 A6 P : Lang} → Prints t u (λ Q. A1 ⨟ A2 ⨟ A3 ⨟ A4 ⨟ A5 ⨟ A6 ⨟ Q) → ((w : List Tok) → (A1 ⨟ A2 ⨟ A3 ⨟ A4 ⨟ A5 ⨟ A6) w → P w) → Prints t u (λ Q. P ⨟ Q)
as6 p f = conv p (λ Q w x. first_map f (group6 x))

pub as8 : {t : List ℕ → Bool} {u : List ℕ} {A1 A2 A3 A4 A5 A6 A7 A8 P : Lang} → Prints t u (λ Q. A1 ⨟ A2 ⨟ A3 ⨟ A4 ⨟ A5 ⨟ A6 ⨟ A7 ⨟ A8 ⨟ Q) → ((w : List Tok) → (A1 ⨟ A2 ⨟ A3 ⨟ A4 ⨟ A5 ⨟ A6 ⨟ A7 ⨟ A8) w → P w) → Prints t u (λ Q. P ⨟ Q)
as8 p f = conv p (λ Q w x. first_map f (group8 x))

-- ---- words

-- a symbol, behind which no second character of one stands
pub symbol : (k : TokenKind) → among (spelling_of k) symbols ≡ true → among (spelling_of k) reserved ≡ false → kind_of (fixed (spelling_of k)) ≡ k → Prints free (spelling_of k) (λ Q. Sign k ⨟ Q)
symbol k a r e = record {
  reads = λ n z Q h q. subst (λ (j : TokenKind). RestIn n (spelling_of k ++ z) (Sign j ⨟ Q)) e
      (rest_word n (fixed (spelling_of k)) (spelling_of k) z Q (printed_symbol (spelling_of k) a) (free_apart (spelling_of k) (content_of z) r (free_content z h)) (free_slashless (content_of z) (free_content z h)) q);
}

-- a word that closes
closed_word : (word : Word) (w : List ℕ) (k : TokenKind) → IsPrinted word w → kind_of word ≡ k → Prints closes w (λ Q. Sign k ⨟ Q)
closed_word word w k p e = record {
  reads = λ n z Q h q. subst (λ (j : TokenKind). RestIn n (w ++ z) (Sign j ⨟ Q)) e
      (rest_word n word w z Q p (closed_apart word (content_of z) (closes_content z h)) (free_slashless (content_of z) (free_content z (closes_free z h))) q);
}

-- a reserved word
pub word_of : (k : TokenKind) → among (spelling_of k) reserved ≡ true → kind_of (fixed (spelling_of k)) ≡ k → Prints closes (spelling_of k) (λ Q. Sign k ⨟ Q)
word_of k a e = closed_word (fixed (spelling_of k)) (spelling_of k) k (printed_reserved (spelling_of k) a) e

-- a space
pub blank : Prints any (32 ∷ []) (λ Q. Q)
blank = record { reads = λ n z Q h q. rest_blank n z Q q }

-- ---- what opens

-- a text that opens a line or stands behind an opening symbol, and closes
pub record Opening (u : List ℕ) (F : Lang → Lang) : Type 1 where
  pub prints : Prints closes u F
  pub begins : opens u ≡ true

-- it stands behind an opening symbol
pub frees : {u : List ℕ} {F : Lang → Lang} → Opening u F → (z : List ℕ) → closes z ≡ true → free (u ++ z) ≡ true
frees {u} o z h = opens_free (u ++ z) (opens_append u z o.begins)

-- where a word closes, no symbol goes on behind
pub narrow : {u : List ℕ} {F : Lang → Lang} → Prints free u F → Prints closes u F
narrow p = record { reads = λ n z Q e r. p.reads n z Q (closes_free z e) r }

-- what names and numbers begin with
pub name_opens : (v : List ℕ) → is_name v ≡ true → opens v ≡ true
name_opens [] h = absurd (let t : false ≡ true = h in cc)
name_opens (b ∷ v) h =
    let a1 = name_first b v h 9 (omega arith) refl in let a2 = name_first b v h 10 (omega arith) refl in let a3 = name_first b v h 13 (omega arith) refl in
    let a4 = name_first b v h 32 (omega arith) refl in let a5 = name_first b v h 38 (omega arith) refl in let a6 = name_first b v h 43 (omega arith) refl in
    let a7 = name_first b v h 47 (omega arith) refl in let a8 = name_first b v h 61 (omega arith) refl in let a9 = name_first b v h 124 (omega arith) refl in
    rw (a1, a2, a3, a4, a5, a6, a7, a8, a9) refl

number_opens : (w : List ℕ) → is_number w ≡ true → opens w ≡ true
number_opens [] h = absurd (let t : false ≡ true = h in cc)
number_opens (a ∷ w) h =
    let a1 = other 9 refl in let a2 = other 10 refl in let a3 = other 13 refl in let a4 = other 32 refl in let a5 = other 38 refl in let a6 = other 43 refl in let a7 = other 47 refl in let a8 = other 61 refl in let a9 = other 124 refl in
    rw (a1, a2, a3, a4, a5, a6, a7, a8, a9) refl
  where
    other : (n : ℕ) → is_ascii_digit n ≡ false → (a == n) ≡ false
    other n k = pick (a == n) refl
      where
        pick : (x : Bool) → (a == n) ≡ x → (a == n) ≡ false
        pick false e = e
        pick true e = let t : true ≡ false = sym (and_left (is_ascii_digit a) (all_digits w) h) ∙ ap is_ascii_digit (eq_is a n e) ∙ k in absurd cc

-- names, numbers and texts
pub name_prints : (v : List ℕ) → Fair (kind.Name v) → Opening v (λ Q. Sign (kind.Name v) ⨟ Q)
name_prints v h = record { prints = closed_word (name v) v (kind.Name v) (printed_name v h.0 h.1 h.2) refl; begins = name_opens v h.0 }

pub number_prints : (n : ℕ) → n < edge → Opening (decimal n) (λ Q. Sign (kind.Number (pos n)) ⨟ Q)
number_prints n h = let p = printed_number n (omega arith) in record { prints = closed_word (number n) (decimal n) (kind.Number (pos n)) p (ap (λ (b : Bool). cond b kind.Edge (kind.Number (pos n))) (apart n edge h)); begins = number_opens (decimal n) p.is_word.0 }
  where
    apart : (a b : ℕ) → a < b → (a == b) ≡ false
    apart a b h = grind arith

pub edge_prints : Opening (decimal edge) (λ Q. Sign kind.Edge ⨟ Q)
edge_prints = let p = printed_number edge (omega arith) in record { prints = closed_word (number edge) (decimal edge) kind.Edge p refl; begins = number_opens (decimal edge) p.is_word.0 }

pub text_prints : (v : List ℕ) → Fair (kind.Text v) → Opening (quoted_form v) (λ Q. Sign (kind.Text v) ⨟ Q)
text_prints v h = record { prints = closed_word (text v) (quoted_form v) (kind.Text v) (printed_text v h) refl; begins = refl }

-- ---- trees but for places

-- what is spelled, and is the same but for places
pub record Again {A : Type 0} (strip : A → A) (P : A → Lang) (a : A) (u : List Tok) : Type 0 where
  pub it : A
  pub spelled : P it u
  pub same : strip it ≡ strip a

-- what is spelled in a file is printed so that it is read as that again
abbrev pub Printable : {A : Type 0} → (A → List ℕ) → (A → A) → (A → Lang) → A → Type 1
Printable f strip P a = (u : List Tok) → P a u → AllFair u → Opening (f a) (λ Q. Again strip P a ⨟ Q)

-- a name
pub named : (v : List ℕ) → Fair (kind.Name v) → (n : Name) → n.text ≡ v → Opening v (λ Q. Again bare_name NameWord n ⨟ Q)
named v h n e = let o = name_prints v h in record { prints = as1 o.prints (λ w x. record { it = record { text = v; place = x.token.place }; spelled = mark_of x; same = ap (λ (z : List ℕ). bare_name (record { text = z; place = x.token.place })) (sym e) }); begins = o.begins }

pub name_again : (n : Name) → Printable (λ (m : Name). m.text) bare_name NameWord n
name_again n u x h = named n.text (fair_mark x h) n refl

-- ---- lists

-- none
pub no_items : {t : List ℕ → Bool} {P : Lang} → P [] → Prints t [] (λ Q. P ⨟ Q)
no_items p = conv empty (λ Q w x. record { front = []; back = w; parts = refl; first = p; second = x })

-- a comma and a space
pub comma : Prints any (codes ", ") (λ Q. Sign kind.SymComma ⨟ Q)
comma = seq (symbol kind.SymComma refl refl refl) blank (λ z h. refl)

pub after_closes : {A : Type 0} (f : A → List ℕ) (xs : List A) (z : List ℕ) → closes z ≡ true → closes (after_commas f xs ++ z) ≡ true
after_closes f [] z h = h
after_closes f (x ∷ xs) z h = refl

-- the items behind commas
pub after_prints : {A : Type 0} (f : A → List ℕ) (strip : A → A) (P : A → Lang) → ((a : A) → Printable f strip P a) → (xs : List A) (u : List Tok) → Each (λ b. Sign kind.SymComma ⨟ P b) xs u → AllFair u →
    Prints closes (after_commas f xs) (λ Q. Again (map strip) (Each (λ b. Sign kind.SymComma ⨟ P b)) xs ⨟ Q)
after_prints f strip P g [] u x h = no_items (record { it = []; spelled = refl; same = refl })
after_prints {A} f strip P g (a ∷ xs) u x h =
    let y = x.first in
    let o = g a y.back y.second (fair_back y (fair_front x h)) in
    let ih = after_prints f strip P g xs x.back x.second (fair_back x h) in
    as3 (seq (seq comma o.prints (λ z k. refl)) ih (after_closes f xs)) (λ w q. record {
      it = q.second.first.it ∷ q.second.second.it;
      spelled = group2 (anew q q.first (anew q.second q.second.first.spelled q.second.second.spelled));
      same = ap (λ (z : A). z ∷ map strip q.second.second.it) q.second.first.same ∙ ap (λ (z : List A). strip a ∷ z) q.second.second.same;
    })

-- the items with commas between
pub commas_print : {A : Type 0} (f : A → List ℕ) (strip : A → A) (P : A → Lang) → ((a : A) → Printable f strip P a) → (xs : List A) (u : List Tok) → Commas P xs u → AllFair u →
    Prints closes (with_commas f xs) (λ Q. Again (map strip) (Commas P) xs ⨟ Q)
commas_print f strip P g [] u x h = no_items (record { it = []; spelled = refl; same = refl })
commas_print {A} f strip P g (a ∷ xs) u x h =
    let o = g a x.front x.first (fair_front x h) in
    let ih = after_prints f strip P g xs x.back x.second (fair_back x h) in
    as2 (seq o.prints ih (after_closes f xs)) (λ w q. record {
      it = q.first.it ∷ q.second.it;
      spelled = anew q q.first.spelled q.second.spelled;
      same = ap (λ (z : A). z ∷ map strip q.second.it) q.first.same ∙ ap (λ (z : List A). strip a ∷ z) q.second.same;
    })

-- what stands behind an opening bracket is free: the items open, or what stands behind them closes
pub commas_free : {A : Type 0} (f : A → List ℕ) (strip : A → A) (P : A → Lang) → ((a : A) → Printable f strip P a) → (xs : List A) (u : List Tok) → Commas P xs u → AllFair u →
    (z : List ℕ) → closes z ≡ true → free (with_commas f xs ++ z) ≡ true
commas_free f strip P g [] u x h z k = closes_free z k
commas_free f strip P g (a ∷ xs) u x h z k = let o = g a x.front x.first (fair_front x h) in
    ap free (append_assoc (f a) (after_commas f xs) z) ∙ opens_free (f a ++ (after_commas f xs ++ z)) (opens_append (f a) (after_commas f xs ++ z) o.begins)
