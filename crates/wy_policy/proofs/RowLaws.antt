-- What is read as a row is written so, and what is written so is read.
use Rattle.std.proofs.Common.{codes, ◌≡◌, ◌≢◌, ℕ, suc, ◌==◌, ◌&&◌, ◌||◌, Bool, true, false, cond, List, [], ◌∷◌, ◌++◌, take, drop, refl, sym, ap, subst, ◌∙◌, append_assoc, Option, Some, None}
use Rattle.std.specs.List.{AllByRecursion, list_all}
use Rattle.std.specs.Option.{option_map}
use Rattle.std.proofs.lemmas.List.{take-append-drop}
use Rattle.wy_layout.specs.Lines.{Line}
use Rattle.wy_policy.specs.Policy.{IsEntry, IsNoRow, IsPattern, IsRow, is_blank, is_comment, is_plain, pattern_text, row_text, set_text}
use Rattle.wy_policy.specs.Reading.{Meant, bad, meant, nothing, plain_len, row_of, row_parts, row_read, row_with, said, says, set_behind, set_read, whole_pattern}
use Rattle.wy_policy.specs.declared.policy.Entry.{Entry}
use Rattle.wy_policy.specs.declared.policy.Pattern.{Pattern}
use Rattle.wy_policy.specs.declared.policy.Pattern.TheVariants as pattern
use Rattle.wy_policy.specs.declared.policy.PolicyRow.{PolicyRow}
use Rattle.wy_policy.proofs.NameBytes.{and_left, and_right}
use Rattle.wy_policy.proofs.SetLaws.{same, set_again, set_found, some_same}

-- ---- a pattern's plain bytes

plain_taken : (z : List ℕ) → list_all is_plain (take (plain_len z) z) ≡ true
plain_taken [] = refl
plain_taken (b ∷ bs) = go (is_plain b) refl (plain_taken bs)
  where
    go : (t : Bool) → is_plain b ≡ t → list_all is_plain (take (plain_len bs) bs) ≡ true → list_all is_plain (take (cond t (suc (plain_len bs)) 0) (b ∷ bs)) ≡ true
    go true e ih = rw e ih
    go false e ih = refl

record Splits (front rest : List ℕ) : Type 0 where
  taken : take (plain_len (front ++ rest)) (front ++ rest) ≡ front
  left : drop (plain_len (front ++ rest)) (front ++ rest) ≡ rest

plain_splits : (front : List ℕ) (b : ℕ) (rest : List ℕ) → list_all is_plain front ≡ true → is_plain b ≡ false → Splits front (b ∷ rest)
plain_splits [] b rest h e = record { taken = rw e refl; left = rw e refl }
plain_splits (a ∷ front) b rest h e =
    let p = and_left (is_plain a) (list_all is_plain front) h in
    let ih = plain_splits front b rest (and_right (is_plain a) (list_all is_plain front) h) e in
    record { taken = rw p (ap (λ (z : List ℕ). a ∷ z) ih.taken); left = rw p ih.left }

row_split : (n : ℕ) (front : List ℕ) (b : ℕ) (rest : List ℕ) → list_all is_plain front ≡ true → is_plain b ≡ false → row_read n (front ++ b ∷ rest) ≡ row_parts n front (b ∷ rest)
row_split n front b rest h e =
    let parts = plain_splits front b rest h e in
    ap (λ (z : List ℕ). row_parts n z (drop (plain_len (front ++ b ∷ rest)) (front ++ b ∷ rest))) parts.taken ∙ ap (row_parts n front) parts.left

-- ---- what is read

record Found (n : ℕ) (p : Pattern) (rest : List ℕ) (r : PolicyRow) : Type 0 where
  line : r.line ≡ n
  pattern : r.pattern ≡ p
  entries : AllByRecursion IsEntry r.allowed
  written : rest ≡ codes ": " ++ set_text r.allowed

behind_found : (rest : List ℕ) (es : List Entry) → set_behind rest ≡ Some es → (rest ≡ codes ": " ++ set_text es) × AllByRecursion IsEntry es
behind_found [] es h = absurd cc
behind_found (b ∷ bs) es h = go (b == 58) refl h
  where
    go : (t : Bool) → (b == 58) ≡ t → cond t (set_read bs) None ≡ Some es → (b ∷ bs ≡ codes ": " ++ set_text es) × AllByRecursion IsEntry es
    go true e h = let found = set_found bs es h in (ap (λ (n : ℕ). n ∷ bs) (same b 58 e) ∙ ap (λ (z : List ℕ). 58 ∷ z) found.0, found.1)
    go false e h = absurd cc

with_found : (n : ℕ) (p : Pattern) (rest : List ℕ) (r : PolicyRow) → row_with n (Some p) rest ≡ Some r → Found n p rest r
with_found n p rest r h = go (set_behind rest) refl h
  where
    go : (o : Option (List Entry)) → set_behind rest ≡ o → option_map (row_of n p) o ≡ Some r → Found n p rest r
    go None e h = absurd cc
    go (Some es) e h =
        let found = behind_found rest es e in
        subst (Found n p rest) (some_same (row_of n p es) r h) (record { line = refl; pattern = refl; entries = found.1; written = found.0 })

record IsFound (n : ℕ) (content : List ℕ) (r : PolicyRow) : Type 0 where
  line : r.line ≡ n
  pattern : IsPattern r.pattern
  entries : AllByRecursion IsEntry r.allowed
  written : content ≡ row_text r

parts_found : (n : ℕ) (front behind : List ℕ) (r : PolicyRow) → list_all is_plain front ≡ true → row_parts n front behind ≡ Some r → IsFound n (front ++ behind) r
parts_found n front [] r plain h = absurd cc
parts_found n front (b ∷ rest) r plain h = go (b == 42) refl front plain h
  where
    go : (t : Bool) → (b == 42) ≡ t → (front : List ℕ) → list_all is_plain front ≡ true → cond t (row_with n (Some (pattern.Front front)) rest) (row_with n (whole_pattern front) (b ∷ rest)) ≡ Some r → IsFound n (front ++ b ∷ rest) r
    go true e front plain h =
        let found = with_found n (pattern.Front front) rest r h in
        record {
          line = found.line;
          pattern = subst IsPattern (sym found.pattern) plain;
          entries = found.entries;
          written = ap (λ (k : ℕ). front ++ k ∷ rest) (same b 42 e) ∙ sym (append_assoc front (codes "*") rest) ∙ ap (λ (z : List ℕ). (front ++ codes "*") ++ z) found.written
              ∙ ap (λ (p : Pattern). pattern_text p ++ (codes ": " ++ set_text r.allowed)) (sym found.pattern);
        }
    go false e [] plain h = absurd cc
    go false e (c ∷ front) plain h =
        let found = with_found n (pattern.Whole (c ∷ front)) (b ∷ rest) r h in
        record {
          line = found.line;
          pattern = subst IsPattern (sym found.pattern) (plain, some c front);
          entries = found.entries;
          written = ap (λ (z : List ℕ). (c ∷ front) ++ z) found.written ∙ ap (λ (p : Pattern). pattern_text p ++ (codes ": " ++ set_text r.allowed)) (sym found.pattern);
        }
      where
        some : (c : ℕ) (front : List ℕ) → (c ∷ front) ≢ []
        some c front e = absurd cc

row_found : (n : ℕ) (content : List ℕ) (r : PolicyRow) → row_read n content ≡ Some r → IsFound n content r
row_found n content r h =
    subst (λ (z : List ℕ). IsFound n z r) (take-append-drop (plain_len content) content) (parts_found n (take (plain_len content) content) (drop (plain_len content) content) r (plain_taken content) h)

-- ---- what is read again

with_again : (n : ℕ) (p : Pattern) (es : List Entry) → AllByRecursion IsEntry es → row_with n (Some p) (codes ": " ++ set_text es) ≡ Some (row_of n p es)
with_again n p es h = ap (λ (o : Option (List Entry)). option_map (row_of n p) o) (set_again es h)

row_again : (n : ℕ) (p : Pattern) (es : List Entry) → IsPattern p → AllByRecursion IsEntry es → row_read n (row_text (row_of n p es)) ≡ Some (row_of n p es)
row_again n (pattern.Whole []) es h k = absurd (h.1 refl)
row_again n (pattern.Whole (c ∷ name)) es h k = row_split n (c ∷ name) 58 (32 ∷ set_text es) h.0 refl ∙ with_again n (pattern.Whole (c ∷ name)) es k
row_again n (pattern.Front front) es h k =
    ap (row_read n) (append_assoc front (codes "*") (codes ": " ++ set_text es)) ∙ row_split n front 42 (codes ": " ++ set_text es) h refl ∙ with_again n (pattern.Front front) es k

-- ---- what a line means

not_blank : (u v : List ℕ) → is_blank (u ++ 58 ∷ v) ≡ false
not_blank [] v = refl
not_blank (b ∷ u) v = go (b == 32) (not_blank u v)
  where
    go : (t : Bool) → is_blank (u ++ 58 ∷ v) ≡ false → (t && is_blank (u ++ 58 ∷ v)) ≡ false
    go true e = e
    go false e = refl

-- a row's line says the row
pub row_meant : (l : Line) (r : PolicyRow) → IsRow l r → meant l ≡ says r
row_meant l r h =
    let blank : is_blank l.content ≡ false = ap is_blank h.written ∙ not_blank (pattern_text r.pattern) (32 ∷ set_text r.allowed) in
    let read : row_read l.row.number l.content ≡ Some r = ap (row_read l.row.number) h.written ∙ ap (λ (n : ℕ). row_read n (row_text r)) (sym h.number) ∙ row_again r.line r.pattern r.allowed h.pattern h.entries in
    ap (λ (t : Bool). cond (t || is_blank l.content) nothing (said (row_read l.row.number l.content))) h.no_comment
    ∙ ap (λ (t : Bool). cond t nothing (said (row_read l.row.number l.content))) blank ∙ ap said read

-- what a line means, it is
pub data IsMeant (l : Line) : Meant → Type 0 where
  blank : is_blank l.content ≡ true → IsNoRow l → IsMeant l nothing
  comment : is_comment l.content ≡ true → IsNoRow l → IsMeant l nothing
  row : (r : PolicyRow) → IsRow l r → IsMeant l (says r)
  wrong : is_blank l.content ≡ false → is_comment l.content ≡ false → IsNoRow l → IsMeant l bad

other_row : (l : Line) (m : Meant) → meant l ≡ m → ((r : PolicyRow) → m ≡ says r → ⊥) → IsNoRow l
other_row l m e h r k = h r (sym e ∙ row_meant l r k)

nothing_said : (r : PolicyRow) → nothing ≡ says r → ⊥
nothing_said r e = absurd cc

bad_said : (r : PolicyRow) → bad ≡ says r → ⊥
bad_said r e = absurd cc

pub line_meant : (l : Line) → IsMeant l (meant l)
line_meant l = go (is_comment l.content) refl (is_blank l.content) refl (row_read l.row.number l.content) refl refl
  where
    go : (t : Bool) → is_comment l.content ≡ t → (u : Bool) → is_blank l.content ≡ u → (o : Option PolicyRow) → row_read l.row.number l.content ≡ o → meant l ≡ cond (t || u) nothing (said o) →
        IsMeant l (cond (t || u) nothing (said o))
    go true e u f o g h = comment e (other_row l nothing h nothing_said)
    go false e true f o g h = blank f (other_row l nothing h nothing_said)
    go false e false f None g h = wrong f e (other_row l bad h bad_said)
    go false e false f (Some r) g h =
        let found = row_found l.row.number l.content r g in
        row r (record { no_comment = e; number = found.line; pattern = found.pattern; entries = found.entries; written = found.written })
