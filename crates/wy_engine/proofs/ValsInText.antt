-- The names of a file's tokens stand in the order of their places, so the numbers of a scope's `val`s ascend with their places.
use Rattle.std.proofs.Common.{◌≡◌, ℕ, zero, suc, ◌+◌, ◌-◌, ◌<◌, ◌≤◌, ◌==◌, nat_lt, Bool, true, false, cond, List, [], ◌∷◌, ◌++◌, length, take, replicate, refl, sym, ap, subst, ◌∙◌, arith, ◌⊎◌, inl, inr}
use Rattle.std.specs.List.{AllByRecursion}
use Rattle.wy_text.specs.declared.fault.Place.{Place}
use Rattle.wy_text.specs.declared.token.Token.{Token}
use Rattle.wy_text.specs.declared.token.TokenKind.TheVariants as kind
use Rattle.wy_layout.specs.Words.{kind_of}
use Rattle.wy_layout.specs.Counts.{counted}
use Rattle.wy_layout.specs.Widths.{Step, deeper, back, wrong, opens}
use Rattle.wy_layout.specs.Lines.{Line, spot, lines, next_row, first_row, row_of, place_at, after_spaces, after_blanks, is_done}
use Rattle.wy_layout.specs.Layout.{mark, marks, off, begin, finish, step, Words, count_in, HasTokensOr, LineTokens, widths, Lays}
use Rattle.wy_layout.specs.Spans.{SpansFrom}
use Rattle.wy_layout.specs.declared.count.Count.{Count}
use Rattle.wy_layout.specs.declared.row.Row.{Row}
use Rattle.wy_layout.proofs.LineWords.{shrinks, blanks_within}
use Rattle.wy_layout.proofs.SpanOrder.{spans_are}
use Rattle.wy_layout.proofs.Placing.{Placed, places_are}
use Rattle.wy_syntax.specs.Tokens.{Tok, tok_of, toks, code}
use Rattle.wy_syntax.specs.Trees.{ItemTree}
use Rattle.wy_syntax.specs.Languages.{Each}
use Rattle.wy_syntax.specs.Grammar.{SpellsItem}
use Rattle.wy_syntax.specs.Before.{is_before}
use Rattle.wy_text.specs.Members.{In}
use Rattle.wy_canonical.specs.HasTree.{HasTree}
use Rattle.wy_symbols.specs.Declarations.{all_items}
use Rattle.wy_well_formed.specs.ValPlaces.{if_name, name_places, Ascend, AreInText, ResolvedValsAreInOrder}
use Rattle.wy_engine.specs.FileTrees.{HaveTrees}
use Rattle.wy_engine.specs.ValsInOrder.{ValsStandInOrder}

-- ---- places of offsets

-- a row behind another: the same, or that of a later line of the file
record Follows (row row' : Row) (at : ℕ) : Type 0 where
  file : row'.file ≡ row.file
  later : (row' ≡ row) ⊎ (row.number < row'.number)
  begins : row'.start ≤ at

row_follows : (row : Row) (at : ℕ) (bs : List ℕ) → row.start ≤ at → Follows row (row_of row at bs) (at + length bs)
row_follows row at [] h = record { file = refl; later = inl refl; begins = omega arith }
row_follows row at (b ∷ bs) h = go (b == 10) (row_follows row (suc at) bs (omega arith)) (row_follows (next_row row (suc at)) (suc at) bs (omega arith))
  where
    past : (last : Row) → (last ≡ next_row row (suc at)) ⊎ (suc row.number < last.number) → (last ≡ row) ⊎ (row.number < last.number)
    past last (inl e) = inr (let n : last.number ≡ suc row.number = ap (λ (r : Row). r.number) e in omega arith)
    past last (inr n) = inr (omega arith)

    go : (t : Bool) → Follows row (row_of row (suc at) bs) (suc at + length bs) → Follows (next_row row (suc at)) (row_of (next_row row (suc at)) (suc at) bs) (suc at + length bs) →
        Follows row (row_of (cond t (next_row row (suc at)) row) (suc at) bs) (at + length (b ∷ bs))
    go true k j = record { file = j.file; later = past (row_of (next_row row (suc at)) (suc at) bs) j.later; begins = let c = j.begins in omega arith }
    go false k j = record { file = k.file; later = k.later; begins = let c = k.begins in omega arith }

is_itself : (n : ℕ) → (n == n) ≡ true
is_itself n = grind arith

less : (n m : ℕ) → n < m → nat_lt n m ≡ true
less n m h = grind arith

other : (n m : ℕ) → n < m → (n == m) ≡ false
other n m h = grind arith

on_one_line : (file line c d : ℕ) → c < d → is_before (record { file = file; line = line; column = c }) (record { file = file; line = line; column = d }) ≡ true
on_one_line file line c d h = rw (is_itself file, is_itself line) (less c d h)

on_later_line : (file l k c d : ℕ) → l < k → is_before (record { file = file; line = l; column = c }) (record { file = file; line = k; column = d }) ≡ true
on_later_line file l k c d h = rw (is_itself file, other l k h) (less l k h)

-- a later offset in the same row, or in a later one
spots_before : (row last : Row) (o p : ℕ) → Follows row last p → row.start ≤ o → o < p → is_before (spot row o) (spot last p) ≡ true
spots_before row last o p f s h = go f.later
  where
    go : (last ≡ row) ⊎ (row.number < last.number) → is_before (spot row o) (spot last p) ≡ true
    go (inl e) = subst (λ (r : Row). is_before (spot row o) (spot r p) ≡ true) (sym e) (on_one_line row.file row.number (suc (o - row.start)) (suc (p - row.start)) (omega arith))
    go (inr n) = subst (λ (file : ℕ). is_before (spot row o) (record { file = file; line = last.number; column = suc (p - last.start) }) ≡ true) (sym f.file) (on_later_line row.file row.number last.number (suc (o - row.start)) (suc (p - last.start)) n)

-- from an offset that is in a row, a lesser number of bytes on is before a greater one
ahead : (row : Row) (at : ℕ) (bs : List ℕ) (o p : ℕ) → row.start ≤ at → o < p → p ≤ length bs → is_before (spot (row_of row at (take o bs)) (at + o)) (spot (row_of row at (take p bs)) (at + p)) ≡ true
ahead row at [] o p s h w = absurd (omega arith)
ahead row at (b ∷ bs) o zero s h w = absurd (omega arith)
ahead row at (b ∷ bs) zero (suc p) s h w =
    let n : length (take (suc p) (b ∷ bs)) ≡ suc p = length_taken (suc p) (b ∷ bs) w in
    let f : Follows row (row_of row at (take (suc p) (b ∷ bs))) (at + suc p) = subst (λ (m : ℕ). Follows row (row_of row at (take (suc p) (b ∷ bs))) (at + m)) n (row_follows row at (take (suc p) (b ∷ bs)) s) in
    let z : at + 0 ≡ at = omega arith in
    subst (λ (m : ℕ). is_before (spot row m) (spot (row_of row at (take (suc p) (b ∷ bs))) (at + suc p)) ≡ true) (sym z) (spots_before row (row_of row at (take (suc p) (b ∷ bs))) at (at + suc p) f s (omega arith))
  where
    length_taken : (n : ℕ) (xs : List ℕ) → n ≤ length xs → length (take n xs) ≡ n
    length_taken zero xs k = refl
    length_taken (suc n) [] k = absurd (omega arith)
    length_taken (suc n) (x ∷ xs) k = ap suc (length_taken n xs (omega arith))
ahead row at (b ∷ bs) (suc o) (suc p) s h w = go (b == 10) (ahead row (suc at) bs o p (omega arith) (omega arith) (omega arith)) (ahead (next_row row (suc at)) (suc at) bs o p (omega arith) (omega arith) (omega arith))
  where
    moved : (r : Row) → is_before (spot (row_of r (suc at) (take o bs)) (suc at + o)) (spot (row_of r (suc at) (take p bs)) (suc at + p)) ≡ true → is_before (spot (row_of r (suc at) (take o bs)) (at + suc o)) (spot (row_of r (suc at) (take p bs)) (at + suc p)) ≡ true
    moved r k =
        let a : suc at + o ≡ at + suc o = omega arith in
        let c : suc at + p ≡ at + suc p = omega arith in
        subst (λ (m : ℕ). is_before (spot (row_of r (suc at) (take o bs)) (at + suc o)) (spot (row_of r (suc at) (take p bs)) m) ≡ true) c (subst (λ (m : ℕ). is_before (spot (row_of r (suc at) (take o bs)) m) (spot (row_of r (suc at) (take p bs)) (suc at + p)) ≡ true) a k)

    go : (t : Bool) → is_before (spot (row_of row (suc at) (take o bs)) (suc at + o)) (spot (row_of row (suc at) (take p bs)) (suc at + p)) ≡ true →
        is_before (spot (row_of (next_row row (suc at)) (suc at) (take o bs)) (suc at + o)) (spot (row_of (next_row row (suc at)) (suc at) (take p bs)) (suc at + p)) ≡ true →
        is_before (spot (row_of (cond t (next_row row (suc at)) row) (suc at) (take o bs)) (at + suc o)) (spot (row_of (cond t (next_row row (suc at)) row) (suc at) (take p bs)) (at + suc p)) ≡ true
    go true k j = moved (next_row row (suc at)) j
    go false k j = moved row k

places_ascend : (file : ℕ) (bs : List ℕ) (o p : ℕ) → o < p → p ≤ length bs → is_before (place_at file bs o) (place_at file bs p) ≡ true
places_ascend file bs o p h w =
    let a : 0 + o ≡ o = omega arith in
    let c : 0 + p ≡ p = omega arith in
    subst (λ (m : ℕ). is_before (place_at file bs o) (spot (row_of (first_row file) 0 (take p bs)) m) ≡ true) c
    (subst (λ (m : ℕ). is_before (spot (row_of (first_row file) 0 (take o bs)) m) (spot (row_of (first_row file) 0 (take p bs)) (0 + p)) ≡ true) a (ahead (first_row file) 0 bs o p (omega arith) h w))

-- ---- names have bytes

-- a name has a byte
abbrev IsWide : Token → Type 0
IsWide t = (code (tok_of t) == 1) ≡ true → t.start < t.end

abbrev AreWide : List Token → Type 0
AreWide ts = AllByRecursion IsWide ts

wide_both : (ts us : List Token) → AreWide ts → AreWide us → AreWide (ts ++ us)
wide_both [] us h k = k
wide_both (t ∷ ts) us h k = (h.0, wide_both ts us h.1 k)

words_wide : (row : Row) (c : Count) (at : ℕ) (u : List ℕ) (ts : List Token) → Words row c at u ts → AreWide ts
words_wide row c at u [] h = tt
words_wide row c at u (t ∷ ts) (d, word, r, h, e, more) = (wide, words_wide row (counted c (kind_of word)) (off at u r) r ts more)
  where
    wide : IsWide t
    wide n =
        let a = shrinks word (after_blanks u) r h.within in
        let b = blanks_within u in
        let start : t.start ≡ off at u (after_blanks u) = ap (λ (x : Token). x.start) e in
        let end : t.end ≡ off at u r = ap (λ (x : Token). x.end) e in
        omega arith

no_name : (t : Token) → (code (tok_of t) == 1) ≡ false → IsWide t
no_name t h n = absurd (let e : false ≡ true = sym h ∙ n in cc)

marks_wide : (row : Row) (s : Step) (at : ℕ) → AreWide (marks row s at)
marks_wide row deeper at = (no_name (mark row kind.In at) refl, tt)
marks_wide row (back n) at = go n
  where
    go : (n : ℕ) → AreWide (replicate n (mark row kind.Out at))
    go zero = tt
    go (suc n) = (no_name (mark row kind.Out at) refl, go n)
marks_wide row (wrong n) at = go n
  where
    go : (n : ℕ) → AreWide (replicate n (mark row kind.Out at))
    go zero = tt
    go (suc n) = (no_name (mark row kind.Out at) refl, go n)

line_wide : (n : ℕ) (ws : List ℕ) (l : Line) (ts : List Token) → LineTokens n ws l ts → AreWide ts
line_wide n ws l ts h = go (is_done (after_spaces l.content)) h.1
  where
    go : (b : Bool) → HasTokensOr b n ws l ts → AreWide ts
    go true e = subst AreWide (sym e) tt
    go false h = subst AreWide (sym h.parts) (wide_both (marks l.row (step ws l) (begin l)) (h.words ++ mark l.row kind.Nl (finish l) ∷ []) (marks_wide l.row (step ws l) (begin l))
        (wide_both h.words (mark l.row kind.Nl (finish l) ∷ []) (words_wide l.row (count_in n ws l) (begin l) (after_spaces l.content) h.words h.are_words) (no_name (mark l.row kind.Nl (finish l)) refl, tt)))

lays_wide : (row : Row) (e n : ℕ) (ws : List ℕ) (ls : List Line) (ts : List Token) → Lays row e n ws ls ts → AreWide ts
lays_wide row e n ws [] ts h =
    subst AreWide (sym h.1) (wide_both (marks row (back (length (opens ws) - 1)) e) (mark row kind.End e ∷ []) (marks_wide row (back (length (opens ws) - 1)) e) (no_name (mark row kind.End e) refl, tt))
lays_wide row e n ws (l ∷ ls) ts (us, more, t, p, h) = subst AreWide (sym p) (wide_both us more (line_wide n ws l us t) (lays_wide l.row e (n + length us) (widths ws l) ls more h))

-- ---- the names of tokens

-- each place of a name is that of an offset from one on up to another
abbrev pub Between : (ℕ → Place) → ℕ → ℕ → List Place → Type 0
Between place from to places = (q : Place) → In q places → (o : ℕ) × (from ≤ o) × (o ≤ to) × (q ≡ place o)

names_between : (place : ℕ → Place) (at e : ℕ) (ts : List Token) → SpansFrom at e ts → Placed place ts → Between place at e (name_places (toks ts))
names_between place at e [] s p = λ q i. absurd i
names_between place at e (t ∷ ts) s p = go (code (tok_of t) == 1) (names_between place t.end e ts s.2 p.1)
  where
    ends : (at : ℕ) (ts : List Token) → SpansFrom at e ts → at ≤ e
    ends at [] s = s
    ends at (t ∷ ts) s = let l = ends t.end ts s.2 in let a = s.0 in let b = s.1 in omega arith

    wider : (ps : List Place) → Between place t.end e ps → Between place at e ps
    wider ps b q i = let k = b q i in let a = s.0 in let c = s.1 in let d = k.1 in (k.0, omega arith, k.2, k.3)

    go : (named : Bool) → Between place t.end e (name_places (toks ts)) → Between place at e (if_name named t.place (name_places (toks ts)))
    go true b q (inl j) = let l = ends t.end ts s.2 in let c = s.1 in (t.start, s.0, omega arith, sym j ∙ p.0)
    go true b q (inr j) = wider (name_places (toks ts)) b q j
    go false b q i = wider (name_places (toks ts)) b q i

names_ascend : (place : ℕ → Place) (at e : ℕ) (ts : List Token) → ((o p : ℕ) → o < p → p ≤ e → is_before (place o) (place p) ≡ true) → SpansFrom at e ts → Placed place ts → AreWide ts → Ascend (name_places (toks ts))
names_ascend place at e [] order s p w = tt
names_ascend place at e (t ∷ ts) order s p w = go (code (tok_of t) == 1) refl (names_ascend place t.end e ts order s.2 p.1 w.1)
  where
    behind : t.start < t.end → (q : Place) → In q (name_places (toks ts)) → is_before t.place q ≡ true
    behind wide q i =
        let k = names_between place t.end e ts s.2 p.1 q i in
        let d = k.1 in
        let before : is_before (place t.start) (place k.0) ≡ true = order t.start k.0 (omega arith) k.2 in
        subst (λ (a : Place). is_before a q ≡ true) (sym p.0) (subst (λ (b : Place). is_before (place t.start) b ≡ true) (sym k.3) before)

    go : (named : Bool) → (code (tok_of t) == 1) ≡ named → Ascend (name_places (toks ts)) → Ascend (if_name named t.place (name_places (toks ts)))
    go true n a = (behind (w.0 n), a)
    go false n a = a

-- ---- the items of a file

ascend_front : (ps qs : List Place) → Ascend (ps ++ qs) → Ascend ps
ascend_front [] qs h = tt
ascend_front (p ∷ ps) qs h = ((λ q i. h.0 q (left q ps i)), ascend_front ps qs h.1)
  where
    left : (q : Place) (ps : List Place) → In q ps → In q (ps ++ qs)
    left q [] i = absurd i
    left q (p ∷ ps) (inl e) = inl e
    left q (p ∷ ps) (inr i) = inr (left q ps i)

ascend_back : (ps qs : List Place) → Ascend (ps ++ qs) → Ascend qs
ascend_back [] qs h = h
ascend_back (p ∷ ps) qs h = ascend_back ps qs h.1

names_both : (us vs : List Tok) → name_places (us ++ vs) ≡ name_places us ++ name_places vs
names_both [] vs = refl
names_both (u ∷ us) vs = go (code u == 1) (names_both us vs)
  where
    go : (named : Bool) → name_places (us ++ vs) ≡ name_places us ++ name_places vs → if_name named u.place (name_places (us ++ vs)) ≡ if_name named u.place (name_places us) ++ name_places vs
    go true e = ap (λ (ps : List Place). u.place ∷ ps) e
    go false e = e

tokens_front : (us vs : List Tok) → Ascend (name_places (us ++ vs)) → Ascend (name_places us)
tokens_front us vs h = ascend_front (name_places us) (name_places vs) (subst Ascend (names_both us vs) h)

tokens_back : (us vs : List Tok) → Ascend (name_places (us ++ vs)) → Ascend (name_places vs)
tokens_back us vs h = ascend_back (name_places us) (name_places vs) (subst Ascend (names_both us vs) h)

items_in_text : (is : List ItemTree) (ts : List Tok) → Each SpellsItem is ts → Ascend (name_places ts) → AreInText is
items_in_text [] ts h a = tt
items_in_text (i ∷ is) ts h a =
    let both : Ascend (name_places (h.front ++ h.back)) = subst (λ (us : List Tok). Ascend (name_places us)) h.parts a in (
      (h.front, h.first, tokens_front h.front h.back both),
      items_in_text is h.back h.second (tokens_back h.front h.back both),
    )

-- the names of a file's tokens stand in the order of their places, and so do those of each item
file_in_text : (file : ℕ) (bs : List ℕ) (items : List ItemTree) → HasTree file bs items → AreInText items
file_in_text file bs is h =
    let ascend = names_ascend (place_at file bs) 0 (length bs) h.tokens (places_ascend file bs) (spans_are file bs h.tokens h.lexed) (places_are file bs h.tokens h.lexed)
    (lays_wide (first_row file) (length bs) 0 [] (lines (first_row file) bs) h.tokens h.lexed.laid) in
    items_in_text is h.spelled.front h.spelled.first (tokens_front h.spelled.front h.spelled.back (subst (λ (us : List Tok). Ascend (name_places us)) h.spelled.parts ascend))

-- ---- the items of all files

both_in_text : (items more : List ItemTree) → AreInText items → AreInText more → AreInText (items ++ more)
both_in_text [] more a b = b
both_in_text (i ∷ is) more a b = (a.0, both_in_text is more a.1 b)

trees_in_text : (file : ℕ) (texts : List (List ℕ)) (trees : List (List ItemTree)) → HaveTrees file texts trees → AreInText (all_items trees)
trees_in_text file [] [] have = tt
trees_in_text file [] (t ∷ ts) have = absurd have
trees_in_text file (x ∷ xs) [] have = absurd have
trees_in_text file (x ∷ xs) (t ∷ ts) have = both_in_text t (all_items ts) (file_in_text file x t have.0) (trees_in_text (suc file) xs ts have.1)

-- so the numbers of a scope's `val`s ascend with their places
pub vals_in_order : ResolvedValsAreInOrder → ValsStandInOrder
vals_in_order law texts program read s i = law (all_items read.trees) program read.resolves (trees_in_text 1 texts read.trees read.have) s i
