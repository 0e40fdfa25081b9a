-- Reading a policy: a plain program.
use Rattle.std.specs.Prelude.{codes, ◌≡◌, ℕ, suc, ◌==◌, ◌||◌, cond, Bool, true, false, List, [], ◌∷◌, ◌++◌, Option, Some, None, take, drop, length}
use Rattle.std.specs.Option.{option_and_then, option_map, option_or}
use Rattle.std.specs.Str.{bytes_eq}
use Rattle.wy_layout.specs.Lines.{Line, lines}
use Rattle.wy_layout.specs.declared.row.Row.{Row}
use Rattle.wy_layout.specs.Identifiers.{is_identifier}
use Rattle.wy_policy.specs.Policy.{is_blank, is_comment, is_plain}
use Rattle.wy_policy.specs.declared.policy.Entry.{Entry}
use Rattle.wy_policy.specs.declared.policy.Member.{Member}
use Rattle.wy_policy.specs.declared.policy.Member.TheVariants as member
use Rattle.wy_policy.specs.declared.policy.Pattern.{Pattern}
use Rattle.wy_policy.specs.declared.policy.Pattern.TheVariants as pattern
use Rattle.wy_policy.specs.declared.policy.PolicyRow.{PolicyRow}
use Rattle.wy_policy.specs.declared.reading.Said.{Said}

-- what stands before the first of a byte, and what behind it, where there is one
pub record Cut : Type 0 where
  pub front : List ℕ
  pub behind : Option (List ℕ)

abbrev pub onto : ℕ → Cut → Cut
onto b c = record { front = b ∷ c.front; behind = c.behind }

abbrev pub cut : ℕ → List ℕ → Cut
cut stop [] = record { front = []; behind = None }
cut stop (b ∷ bs) = cond (b == stop) (record { front = []; behind = Some bs }) (onto b (cut stop bs))

-- ---- a set

abbrev pub member_read : List ℕ → Option Member
member_read text = cond (bytes_eq text (codes "*")) (Some member.Every) (cond (is_identifier text) (Some (member.Named text)) None)

abbrev pub entry_of : List ℕ → Member → Entry
entry_of grant m = record { grant = grant; member = m }

-- a grant before a dot, and a member behind it
abbrev pub entry_parts : List ℕ → Option (List ℕ) → Option Entry
entry_parts grant None = None
entry_parts grant (Some text) = cond (is_identifier grant) (option_map (entry_of grant) (member_read text)) None

-- an entry with a space before it
abbrev pub entry_read : List ℕ → Option Entry
entry_read [] = None
entry_read (b ∷ text) = cond (b == 32) (entry_parts (cut 46 text).front (cut 46 text).behind) None

-- what stands between commas
abbrev pub first_longer : ℕ → List (List ℕ) → List (List ℕ)
first_longer b [] = []
first_longer b (piece ∷ pieces) = (b ∷ piece) ∷ pieces

abbrev pub pieces : List ℕ → List (List ℕ)
pieces [] = [] ∷ []
pieces (b ∷ bs) = cond (b == 44) ([] ∷ pieces bs) (first_longer b (pieces bs))

abbrev pub entries_read : List (List ℕ) → Option (List Entry)
entries_read [] = Some []
entries_read (piece ∷ pieces) = option_and_then (λ e. option_map (λ es. e ∷ es) (entries_read pieces)) (entry_read piece)

-- a set with a space before it
abbrev pub set_read : List ℕ → Option (List Entry)
set_read text = cond (bytes_eq text (codes " -")) (Some []) (entries_read (pieces text))

-- ---- a row

-- how many plain bytes stand at the front
abbrev pub plain_len : List ℕ → ℕ
plain_len [] = 0
plain_len (b ∷ bs) = cond (is_plain b) (suc (plain_len bs)) 0

abbrev pub whole_pattern : List ℕ → Option Pattern
whole_pattern [] = None
whole_pattern (b ∷ bs) = Some (pattern.Whole (b ∷ bs))

abbrev pub row_of : ℕ → Pattern → List Entry → PolicyRow
row_of n p entries = record { line = n; pattern = p; allowed = entries }

-- a row's set, behind its pattern: a colon, a space and the set
abbrev pub set_behind : List ℕ → Option (List Entry)
set_behind [] = None
set_behind (b ∷ bs) = cond (b == 58) (set_read bs) None

abbrev pub row_with : ℕ → Option Pattern → List ℕ → Option PolicyRow
row_with n p rest = option_and_then (λ p. option_map (row_of n p) (set_behind rest)) p

-- the plain bytes of a pattern, and what stands behind them
abbrev pub row_parts : ℕ → List ℕ → List ℕ → Option PolicyRow
row_parts n front [] = None
row_parts n front (b ∷ rest) = cond (b == 42) (row_with n (Some (pattern.Front front)) rest) (row_with n (whole_pattern front) (b ∷ rest))

abbrev pub row_read : ℕ → List ℕ → Option PolicyRow
row_read n content = row_parts n (take (plain_len content) content) (drop (plain_len content) content)

-- ---- lines

-- what a line is; one that is none of these is bad
pub data Meant : Type 0 where
  nothing : Meant
  says : PolicyRow → Meant
  bad : Meant

abbrev pub said : Option PolicyRow → Meant
said None = bad
said (Some r) = says r

abbrev pub meant_of : ℕ → List ℕ → Meant
meant_of n content = cond (is_comment content || is_blank content) nothing (said (row_read n content))

abbrev pub meant : Line → Meant
meant l = meant_of l.row.number l.content

abbrev pub row_in : Meant → List PolicyRow → List PolicyRow
row_in nothing rows = rows
row_in (says r) rows = r ∷ rows
row_in bad rows = rows

abbrev pub rows_read : List Line → List PolicyRow
rows_read [] = []
rows_read (l ∷ ls) = row_in (meant l) (rows_read ls)

abbrev pub bad_in : ℕ → Meant → Option ℕ → Option ℕ
bad_in n nothing later = later
bad_in n (says r) later = later
bad_in n bad later = Some n

-- the number of the first bad line
abbrev pub first_bad : List Line → Option ℕ
first_bad [] = None
first_bad (l ∷ ls) = bad_in l.row.number (meant l) (first_bad ls)

-- ---- the code, beside the plain program

-- an entry was added where there is one, and this says so
abbrev pub Pushes : List Entry → Option Entry → List Entry → Bool → Type 0
Pushes old None new taken = taken ≡ false
Pushes old (Some e) new taken = (taken ≡ true) × (new ≡ old ++ e ∷ [])

-- pieces and lines that are left
abbrev pub pieces_in : Option (List ℕ) → List (List ℕ)
pieces_in None = []
pieces_in (Some text) = pieces text

abbrev pub lines_in : Row → Option (List ℕ) → List Line
lines_in row None = []
lines_in row (Some text) = lines row text

abbrev pub room_in : Option (List ℕ) → ℕ
room_in None = 0
room_in (Some text) = suc (length text)

abbrev pub with_front : List Entry → Option (List Entry) → Option (List Entry)
with_front entries later = option_map (λ es. entries ++ es) later

-- a line without the carriage return at its end
abbrev pub without_return : List ℕ → List ℕ
without_return [] = []
without_return (b ∷ []) = cond (b == 13) [] (b ∷ [])
without_return (a ∷ b ∷ bs) = a ∷ without_return (b ∷ bs)

-- the content of a line, which ends where something is behind it
abbrev pub content_in : List ℕ → Option (List ℕ) → List ℕ
content_in line None = line
content_in line (Some behind) = without_return line

-- what a line of this number adds
abbrev pub Adds : ℕ → Meant → Said → Said → Type 0
Adds n nothing old new = new ≡ old
Adds n (says r) old new = (new.rows ≡ old.rows ++ r ∷ []) × (new.bad ≡ old.bad)
Adds n bad old new = (new.rows ≡ old.rows) × (new.bad ≡ option_or old.bad (Some n))
