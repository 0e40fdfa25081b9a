-- The text of a policy: rows that say what the instances of some names may do (docs/LANGUAGE.md, "Policies").
use Rattle.std.specs.Prelude.{codes, ◌≡◌, ◌≢◌, ◌⊎◌, ◌<◌, ◌≤◌, ℕ, nat_le, ◌==◌, not, ◌&&◌, Bool, true, false, List, [], ◌∷◌, ◌++◌, length}
use Rattle.std.specs.List.{AllByRecursion, list_all}
use Rattle.wy_layout.specs.Identifiers.{is_identifier}
use Rattle.wy_text.specs.LimitName.{limit_number}
use Rattle.wy_text.specs.declared.limit.LimitName.TheVariants as limit
use Rattle.wy_layout.specs.Lines.{Line, first_row, lines}
use Rattle.wy_policy.specs.declared.policy.Entry.{Entry}
use Rattle.wy_policy.specs.declared.policy.Member.{Member}
use Rattle.wy_policy.specs.declared.policy.Member.TheVariants as member
use Rattle.wy_policy.specs.declared.policy.Pattern.{Pattern}
use Rattle.wy_policy.specs.declared.policy.Pattern.TheVariants as pattern
use Rattle.wy_policy.specs.declared.policy.PolicyRefusal.{PolicyRefusal}
use Rattle.wy_policy.specs.declared.policy.PolicyRefusal.TheVariants as refusal
use Rattle.wy_policy.specs.declared.policy.PolicyRow.{PolicyRow}

-- ---- how a row is written

abbrev pub pattern_text : Pattern → List ℕ
pattern_text (pattern.Whole name) = name
pattern_text (pattern.Front front) = front ++ codes "*"

abbrev pub member_text : Member → List ℕ
member_text member.Every = codes "*"
member_text (member.Named name) = name

abbrev pub entry_text : Entry → List ℕ
entry_text e = e.grant ++ (codes "." ++ member_text e.member)

abbrev pub entries_after : List Entry → List ℕ
entries_after [] = []
entries_after (e ∷ es) = codes ", " ++ (entry_text e ++ entries_after es)

-- a set: a dash where it is empty, else its entries with commas between
abbrev pub set_text : List Entry → List ℕ
set_text [] = codes "-"
set_text (e ∷ es) = entry_text e ++ entries_after es

abbrev pub row_text : PolicyRow → List ℕ
row_text r = pattern_text r.pattern ++ (codes ": " ++ set_text r.allowed)

-- ---- what a row may have

-- a byte of a pattern that stands for itself: no control character, no star and no colon
abbrev pub is_plain : ℕ → Bool
is_plain b = nat_le 32 b && (not (b == 127) && (not (b == 42) && not (b == 58)))

abbrev pub IsPattern : Pattern → Type 0
IsPattern (pattern.Whole name) = (list_all is_plain name ≡ true) × (name ≢ [])
IsPattern (pattern.Front front) = list_all is_plain front ≡ true

abbrev pub IsMember : Member → Type 0
IsMember member.Every = Unit {0}
IsMember (member.Named name) = is_identifier name ≡ true

pub record IsEntry (e : Entry) : Type 0 where
  pub grant : is_identifier e.grant ≡ true
  pub member : IsMember e.member

-- ---- lines

abbrev pub is_blank : List ℕ → Bool
is_blank content = list_all (λ b. b == 32) content

abbrev pub is_comment : List ℕ → Bool
is_comment [] = false
is_comment (a ∷ []) = false
is_comment (a ∷ b ∷ bs) = (a == 47) && (b == 47)

-- the line is the row's: it is no comment, has its number, and is written as the row is
pub record IsRow (l : Line) (r : PolicyRow) : Type 0 where
  pub no_comment : is_comment l.content ≡ false
  pub number : r.line ≡ l.row.number
  pub pattern : IsPattern r.pattern
  pub entries : AllByRecursion IsEntry r.allowed
  pub written : l.content ≡ row_text r

abbrev pub IsNoRow : Line → Type 0
IsNoRow l = (r : PolicyRow) → IsRow l r → ⊥

-- the rows of lines, in order
pub data Rows : List Line → List PolicyRow → Type 0 where
  none : Rows [] []
  row : (l : Line) (r : PolicyRow) (ls : List Line) (rs : List PolicyRow) → IsRow l r → Rows ls rs → Rows (l ∷ ls) (r ∷ rs)
  other : (l : Line) (ls : List Line) (rs : List PolicyRow) → IsNoRow l → Rows ls rs → Rows (l ∷ ls) rs

-- a policy's line is blank, a comment or a row
abbrev pub IsLine : Line → Type 0
IsLine l = (is_blank l.content ≡ true) ⊎ ((is_comment l.content ≡ true) ⊎ ((r : PolicyRow) × IsRow l r))

-- the first line that is none of these has this number
abbrev pub FirstBad : List Line → ℕ → Type 0
FirstBad [] n = ⊥
FirstBad (l ∷ ls) n = ((IsLine l → ⊥) × (n ≡ l.row.number)) ⊎ (IsLine l × FirstBad ls n)

-- ---- a policy

-- the lines end as those of a source file do
abbrev pub lines_of : List ℕ → List Line
lines_of bytes = lines (first_row 1) bytes

-- the most bytes and the most rows
abbrev pub most_bytes : ℕ
most_bytes = limit_number limit.FileBytes

abbrev pub most_rows : ℕ
most_rows = limit_number limit.PolicyRows

-- text that is short enough, with its rows, which are few enough
pub record HasRows (bytes : List ℕ) (rows : List PolicyRow) : Type 0 where
  pub short : length bytes ≤ most_bytes
  pub are : Rows (lines_of bytes) rows
  pub few : length rows ≤ most_rows

-- it is a policy of these rows
pub record IsPolicy (bytes : List ℕ) (rows : List PolicyRow) : Type 0 where
  pub has : HasRows bytes rows
  pub formed : AllByRecursion IsLine (lines_of bytes)

-- it is none, since a line is no policy's
pub record IsBad (bytes : List ℕ) (n : ℕ) : Type 0 where
  pub rows : List PolicyRow
  pub are : HasRows bytes rows
  pub first : FirstBad (lines_of bytes) n

-- it has too many rows, whatever its other lines are
pub record HasTooMany (bytes : List ℕ) : Type 0 where
  pub short : length bytes ≤ most_bytes
  pub rows : List PolicyRow
  pub are : Rows (lines_of bytes) rows
  pub many : most_rows < length rows

-- why bytes are refused: the limits come first; want of memory says nothing of the bytes
abbrev pub IsRefused : List ℕ → PolicyRefusal → Type 0
IsRefused bytes (refusal.Limit name) = ((name ≡ limit.FileBytes) × (most_bytes < length bytes)) ⊎ ((name ≡ limit.PolicyRows) × HasTooMany bytes)
IsRefused bytes (refusal.BadPolicy n) = IsBad bytes n
IsRefused bytes refusal.Memory = Unit {0}
