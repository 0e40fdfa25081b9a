-- Policies and what they say, worked out.
use Rattle.std.proofs.Common.{codes, ◌≡◌, ℕ, List, [], ◌∷◌, refl, Some, None, true, false}
use Rattle.wy_effects.specs.AtomTable.{atom_name}
use Rattle.wy_authority.specs.declared.rows.InstanceRow.{InstanceRow}
use Rattle.wy_text.specs.declared.fault.AtomName.{AtomName}
use Rattle.wy_policy.specs.Allowed.{allows, row_for}
use Rattle.wy_policy.specs.Judging.{judged}
use Rattle.wy_policy.specs.Policy.{lines_of, row_text}
use Rattle.wy_policy.specs.Reading.{first_bad, row_of, rows_read}
use Rattle.wy_policy.specs.declared.policy.Entry.{Entry}
use Rattle.wy_policy.specs.declared.policy.Judgement.TheVariants as judgement
use Rattle.wy_policy.specs.declared.policy.Member.{Member}
use Rattle.wy_policy.specs.declared.policy.Member.TheVariants as member
use Rattle.wy_policy.specs.declared.policy.Pattern.TheVariants as pattern
use Rattle.wy_policy.specs.declared.policy.PolicyRow.{PolicyRow}

abbrev entry : List ℕ → Member → Entry
entry grant m = record { grant = grant; member = m }

-- no pure instance may do anything
abbrev pure : PolicyRow
pure = row_of 1 (pattern.Front (codes "pure ")) []

-- the reporter may do all with the data, and write to the console
abbrev reporter : PolicyRow
reporter = row_of 3 (pattern.Whole (codes "rep")) (entry (codes "data") member.Every ∷ entry (codes "console") (member.Named (codes "Out")) ∷ [])

pure_text : row_text pure ≡ codes "pure *: -"
pure_text = refl

reporter_text : row_text reporter ≡ codes "rep: data.*, console.Out"
reporter_text = refl

front_has : row_for (pure ∷ reporter ∷ []) (codes "pure clean") ≡ Some pure
front_has = refl

whole_has : row_for (pure ∷ reporter ∷ []) (codes "rep") ≡ Some reporter
whole_has = refl

whole_only : row_for (pure ∷ reporter ∷ []) (codes "reporter") ≡ None
whole_only = refl

every_member : allows (Some reporter) (atom_name (codes "data") (codes "List")) ≡ true
every_member = refl

other_member : allows (Some reporter) (atom_name (codes "console") (codes "In")) ≡ false
other_member = refl

no_row : allows None (atom_name (codes "data") (codes "List")) ≡ false
no_row = refl

abbrev instance : List ℕ → List ℕ → InstanceRow
instance name set = record { name = name; bodies = record { name = codes "init"; set = [] } ∷ record { name = codes "put"; set = set } ∷ [] }

abbrev atoms : List AtomName
atoms = atom_name (codes "data") (codes "Read") ∷ atom_name (codes "console") (codes "In") ∷ atom_name (codes "console") (codes "Out") ∷ []

kept : judged (pure ∷ reporter ∷ []) atoms (instance (codes "pure a") [] ∷ instance (codes "rep") (0 ∷ 2 ∷ []) ∷ []) ≡ judgement.Allowed
kept = refl

broken : judged (pure ∷ reporter ∷ []) atoms (instance (codes "rep") (0 ∷ 1 ∷ 2 ∷ []) ∷ []) ≡ judgement.Denied 3 (codes "rep") (atom_name (codes "console") (codes "In"))
broken = refl

unnamed : judged (pure ∷ reporter ∷ []) atoms (instance (codes "main") (2 ∷ []) ∷ []) ≡ judgement.Denied 0 (codes "main") (atom_name (codes "console") (codes "Out"))
unnamed = refl

-- a blank line and a row; a comment, though it reads like a row; and a line that is none of these
second_line : rows_read (lines_of (codes "\n*: -")) ≡ row_of 2 (pattern.Front []) [] ∷ []
second_line = refl

comment_first : rows_read (lines_of (codes "//: -")) ≡ []
comment_first = refl

second_bad : first_bad (lines_of (codes "\nb")) ≡ Some 2
second_bad = refl
