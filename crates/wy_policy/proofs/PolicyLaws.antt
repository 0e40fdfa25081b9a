-- What is read of a policy's lines.
use Rattle.std.proofs.Common.{arith, ◌≡◌, ◌<◌, ◌≤◌, ℕ, true, false, List, [], ◌∷◌, length, refl, sym, ap, subst, ◌∙◌, Option, Some, None, ◌⊎◌, inl, inr}
use Rattle.std.specs.List.{AllByRecursion}
use Rattle.wy_layout.specs.Lines.{Line}
use Rattle.wy_policy.specs.Policy.{FirstBad, HasRows, HasTooMany, IsBad, IsLine, IsPolicy, Rows, lines_of, most_bytes, most_rows, none, other, row}
use Rattle.wy_policy.specs.Reading.{Meant, bad, bad_in, first_bad, meant, nothing, row_in, rows_read, says}
use Rattle.wy_policy.specs.declared.policy.PolicyRow.{PolicyRow}
use Rattle.wy_policy.proofs.RowLaws.{IsMeant, line_meant, row_meant}
use Rattle.wy_policy.proofs.RowLaws as line

-- the rows that are read are the lines'
pub rows_are : (ls : List Line) → Rows ls (rows_read ls)
rows_are [] = none
rows_are (l ∷ ls) = go (meant l) (line_meant l) (rows_are ls)
  where
    go : (m : Meant) → IsMeant l m → Rows ls (rows_read ls) → Rows (l ∷ ls) (row_in m (rows_read ls))
    go nothing (line.blank b n) ih = other l ls (rows_read ls) n ih
    go nothing (line.comment b n) ih = other l ls (rows_read ls) n ih
    go (says r) (line.row _ h) ih = row l r ls (rows_read ls) h ih
    go bad (line.wrong b c n) ih = other l ls (rows_read ls) n ih

-- .. and no others are
pub rows_same : (ls : List Line) (rs : List PolicyRow) → Rows ls rs → rs ≡ rows_read ls
rows_same [] [] none = refl
rows_same [] (r ∷ rs) h = elim h [ ]
rows_same (l ∷ ls) (r ∷ rs) (row _ _ _ _ h k) = ap (λ (z : List PolicyRow). r ∷ z) (rows_same ls rs k) ∙ ap (λ (m : Meant). row_in m (rows_read ls)) (sym (row_meant l r h))
rows_same (l ∷ ls) rs (other _ _ _ n k) = go (meant l) (line_meant l) (rows_same ls rs k)
  where
    go : (m : Meant) → IsMeant l m → rs ≡ rows_read ls → rs ≡ row_in m (rows_read ls)
    go nothing h ih = ih
    go (says r) (line.row _ h) ih = absurd (n r h)
    go bad h ih = ih

pub is_line : (l : Line) (m : Meant) → IsMeant l m → (m ≡ bad → ⊥) → IsLine l
is_line l nothing (line.blank b n) h = inl b
is_line l nothing (line.comment c n) h = inr (inl c)
is_line l (says r) (line.row _ k) h = inr (inr (r, k))
is_line l bad k h = absurd (h refl)

no_line : (l : Line) → IsMeant l bad → IsLine l → ⊥
no_line l (line.wrong b c n) (inl x) = (let t : true ≡ false = sym x ∙ b in absurd cc)
no_line l (line.wrong b c n) (inr (inl x)) = (let t : true ≡ false = sym x ∙ c in absurd cc)
no_line l (line.wrong b c n) (inr (inr x)) = n x.0 x.1

-- where no line is bad each is a policy's
pub all_lines : (ls : List Line) → first_bad ls ≡ None → AllByRecursion IsLine ls
all_lines [] h = tt
all_lines (l ∷ ls) h = go (meant l) (line_meant l) h (λ k. all_lines ls k)
  where
    go : (m : Meant) → IsMeant l m → bad_in l.row.number m (first_bad ls) ≡ None → (first_bad ls ≡ None → AllByRecursion IsLine ls) → IsLine l × AllByRecursion IsLine ls
    go nothing k h ih = (is_line l nothing k (λ e. absurd cc), ih h)
    go (says r) k h ih = (is_line l (says r) k (λ e. absurd cc), ih h)
    go bad k h ih = absurd cc

same_number : (a b : ℕ) → Some a ≡ Some b → b ≡ a
same_number a b e = cc

-- .. and the first bad one is none
pub first_line : (ls : List Line) (n : ℕ) → first_bad ls ≡ Some n → FirstBad ls n
first_line [] n h = absurd cc
first_line (l ∷ ls) n h = go (meant l) (line_meant l) h (λ k. first_line ls n k)
  where
    go : (m : Meant) → IsMeant l m → bad_in l.row.number m (first_bad ls) ≡ Some n → (first_bad ls ≡ Some n → FirstBad ls n) → ((IsLine l → ⊥) × (n ≡ l.row.number)) ⊎ (IsLine l × FirstBad ls n)
    go nothing k h ih = inr (is_line l nothing k (λ e. absurd cc), ih h)
    go (says r) k h ih = inr (is_line l (says r) k (λ e. absurd cc), ih h)
    go bad k h ih = inl (no_line l k, same_number l.row.number n h)

-- ---- a whole policy

has_rows : (bytes : List ℕ) (rows : List PolicyRow) → length bytes ≤ most_bytes → rows ≡ rows_read (lines_of bytes) → length rows ≤ most_rows → HasRows bytes rows
has_rows bytes rows short e few = record { short = short; are = subst (Rows (lines_of bytes)) (sym e) (rows_are (lines_of bytes)); few = few }

pub read_well : (bytes : List ℕ) (rows : List PolicyRow) (first : Option ℕ) → length bytes ≤ most_bytes → rows ≡ rows_read (lines_of bytes) → length rows ≤ most_rows → first ≡ first_bad (lines_of bytes) → first ≡ None → IsPolicy bytes rows
read_well bytes rows first short e few f g = record { has = has_rows bytes rows short e few; formed = all_lines (lines_of bytes) (sym f ∙ g) }

pub read_badly : (bytes : List ℕ) (rows : List PolicyRow) (first : Option ℕ) (n : ℕ) → length bytes ≤ most_bytes → rows ≡ rows_read (lines_of bytes) → length rows ≤ most_rows → first ≡ first_bad (lines_of bytes) → first ≡ Some n → IsBad bytes n
read_badly bytes rows first n short e few f g = record { rows = rows; are = has_rows bytes rows short e few; first = first_line (lines_of bytes) n (sym f ∙ g) }

pub too_many : (bytes : List ℕ) (rows : List PolicyRow) → length bytes ≤ most_bytes → rows ≡ rows_read (lines_of bytes) → most_rows < length rows → HasTooMany bytes
too_many bytes rows short e many = record { short = short; rows = rows; are = subst (Rows (lines_of bytes)) (sym e) (rows_are (lines_of bytes)); many = many }

-- ---- one answer

pub one_list : (bytes : List ℕ) (rows others : List PolicyRow) → Rows (lines_of bytes) rows → Rows (lines_of bytes) others → rows ≡ others
one_list bytes rows others h k = rows_same (lines_of bytes) rows h ∙ sym (rows_same (lines_of bytes) others k)

none_bad : (ls : List Line) (n : ℕ) → AllByRecursion IsLine ls → FirstBad ls n → ⊥
none_bad [] n h k = k
none_bad (l ∷ ls) n h (inl k) = k.0 h.0
none_bad (l ∷ ls) n h (inr k) = none_bad ls n h.1 k.1

pub not_bad : (bytes : List ℕ) (rows : List PolicyRow) (n : ℕ) → IsPolicy bytes rows → IsBad bytes n → ⊥
not_bad bytes rows n h k = none_bad (lines_of bytes) n h.formed k.first

few_many : (bytes : List ℕ) (rows : List PolicyRow) → HasRows bytes rows → HasTooMany bytes → ⊥
few_many bytes rows h k = (let same : length rows ≡ length k.rows = ap (λ (rs : List PolicyRow). length rs) (one_list bytes rows k.rows h.are k.are) in let few = h.few in let many = k.many in absurd (omega arith))

pub not_too_many : (bytes : List ℕ) (rows : List PolicyRow) → IsPolicy bytes rows → HasTooMany bytes → ⊥
not_too_many bytes rows h k = few_many bytes rows h.has k

pub bad_is_few : (bytes : List ℕ) (n : ℕ) → IsBad bytes n → HasTooMany bytes → ⊥
bad_is_few bytes n h k = few_many bytes h.rows h.are k

first_one : (ls : List Line) (m n : ℕ) → FirstBad ls m → FirstBad ls n → m ≡ n
first_one [] m n h k = absurd h
first_one (l ∷ ls) m n (inl h) (inl k) = h.1 ∙ sym k.1
first_one (l ∷ ls) m n (inl h) (inr k) = absurd (h.0 k.0)
first_one (l ∷ ls) m n (inr h) (inl k) = absurd (k.0 h.0)
first_one (l ∷ ls) m n (inr h) (inr k) = first_one ls m n h.1 k.1

pub one_bad : (bytes : List ℕ) (m n : ℕ) → IsBad bytes m → IsBad bytes n → m ≡ n
one_bad bytes m n h k = first_one (lines_of bytes) m n h.first k.first
