-- What a policy allows, and what it denies (docs/LANGUAGE.md, "Policies").
use Rattle.std.specs.Prelude.{◌≡◌, ◌==◌, ◌&&◌, ℕ, Bool, true, false, List, [], ◌∷◌, ◌++◌, Option, Some, None, if◌then◌else◌}
use Rattle.std.specs.List.{AllByRecursion, list_any, starts_with}
use Rattle.std.specs.Str.{bytes_eq}
use Rattle.wy_text.specs.declared.fault.AtomName.{AtomName}
use Rattle.wy_authority.specs.Authority.{whole_set}
use Rattle.wy_authority.specs.Report.{named_atoms}
use Rattle.wy_authority.specs.declared.rows.Authority.{Authority}
use Rattle.wy_authority.specs.declared.rows.InstanceRow.{InstanceRow}
use Rattle.wy_policy.specs.declared.policy.Entry.{Entry}
use Rattle.wy_policy.specs.declared.policy.Member.{Member}
use Rattle.wy_policy.specs.declared.policy.Member.TheVariants as member
use Rattle.wy_policy.specs.declared.policy.Pattern.{Pattern}
use Rattle.wy_policy.specs.declared.policy.Pattern.TheVariants as pattern
use Rattle.wy_policy.specs.declared.policy.PolicyRow.{PolicyRow}
use Rattle.wy_policy.specs.declared.policy.Judgement.{Judgement}
use Rattle.wy_policy.specs.declared.policy.Judgement.TheVariants as judgement

-- whether a pattern has a name: the name itself, or any that begins so
abbrev pub has_name : Pattern → List ℕ → Bool
has_name (pattern.Whole name) other = bytes_eq name other
has_name (pattern.Front front) other = starts_with ◌==◌ other front

-- the row that an instance of a name goes by: the first that has the name
abbrev pub row_for : List PolicyRow → List ℕ → Option PolicyRow
row_for [] name = None
row_for (r ∷ rs) name = if has_name r.pattern name then Some r else row_for rs name

abbrev pub has_member : Member → List ℕ → Bool
has_member member.Every other = true
has_member (member.Named name) other = bytes_eq name other

abbrev pub entry_allows : AtomName → Entry → Bool
entry_allows atom e = bytes_eq e.grant atom.owner && has_member e.member atom.member

-- whether a row allows an atom; where there is no row, nothing is allowed
abbrev pub allows : Option PolicyRow → AtomName → Bool
allows None atom = false
allows (Some r) atom = list_any (entry_allows atom) r.allowed

-- the line of a row, 0 where there is none
abbrev pub line_of : Option PolicyRow → ℕ
line_of None = 0
line_of (Some r) = r.line

-- the atoms of an instance's authority, in the report's order
abbrev pub atoms_of : Authority → InstanceRow → List AtomName
atoms_of a i = named_atoms a.atoms (whole_set i.bodies)

-- an instance may do no more than the policy allows it
abbrev pub AllowsInstance : List PolicyRow → Authority → InstanceRow → Type 0
AllowsInstance rows a i = AllByRecursion (λ atom. allows (row_for rows i.name) atom ≡ true) (atoms_of a i)

-- no instance may do more than the policy allows it
abbrev pub Allowed : List PolicyRow → Authority → Type 0
Allowed rows a = AllByRecursion (AllowsInstance rows a) a.rows

-- an atom is the first of an instance's that the policy does not allow it, and this is the line of its row
pub record DeniesInstance (rows : List PolicyRow) (a : Authority) (i : InstanceRow) (line : ℕ) (atom : AtomName) : Type 0 where
  pub earlier : List AtomName
  pub later : List AtomName
  pub atoms : atoms_of a i ≡ earlier ++ atom ∷ later
  pub allowed : AllByRecursion (λ other. allows (row_for rows i.name) other ≡ true) earlier
  pub denied : allows (row_for rows i.name) atom ≡ false
  pub number : line ≡ line_of (row_for rows i.name)

-- .. and the instance of the name is the first that has such an atom
pub record Denied (rows : List PolicyRow) (a : Authority) (line : ℕ) (name : List ℕ) (atom : AtomName) : Type 0 where
  pub before : List InstanceRow
  pub instance : InstanceRow
  pub after : List InstanceRow
  pub split : a.rows ≡ before ++ instance ∷ after
  pub allowed : AllByRecursion (AllowsInstance rows a) before
  pub denied : DeniesInstance rows a instance line atom
  pub named : name ≡ instance.name

-- what is said of an authority
abbrev pub Judges : List PolicyRow → Authority → Judgement → Type 0
Judges rows a judgement.Allowed = Allowed rows a
Judges rows a (judgement.Denied line name atom) = Denied rows a line name atom
