-- The instances of a program's code have the names that the report gives them, and what is kept of them is what the report's rows used.
use Rattle.std.proofs.Common.{◌≡◌, ◌∙◌, ℕ, List, [], ◌∷◌, ◌++◌, ap, length, map, refl, sym}
use Rattle.std.proofs.Math.ListN.{length-map}
use Rattle.wy_text.specs.declared.fault.AtomName.{AtomName}
use Rattle.wy_device.specs.declared.deed.Event.{Event}
use Rattle.wy_authority.specs.Authority.{authority_of, instance_row, main_row}
use Rattle.wy_authority.specs.declared.rows.Authority.{Authority}
use Rattle.wy_authority.specs.declared.rows.InstanceRow.{InstanceRow}
use Rattle.wy_code.specs.declared.code.Instance.{Instance}
use Rattle.wy_lower.specs.Lowering.{instance_code, lowered}
use Rattle.wy_machine.specs.Observing.{instance_names}
use Rattle.wy_meaning.specs.Starts.{started_of}
use Rattle.wy_meaning.specs.Used.{Follows, UsedState, account_of, used_set}
use Rattle.wy_meaning.specs.declared.used.Account.{Account}
use Rattle.wy_policy.specs.Used.{used_sets}
use Rattle.wy_sound.specs.Programs.{program_starts}
use Rattle.wy_types.specs.Ground.{start_list}
use Rattle.wy_types.specs.Program.{Program}
use Rattle.wy_types.specs.declared.linked.Instance.{Instance as Started}
use Rattle.wy_engine.specs.ProgramLaws.{row_names}

-- ---- names

same_names : (p : Program) (main : Instance) (row : InstanceRow) → main.name ≡ row.name → (started : List Started)
    → map (λ (i : Instance). i.name) (map instance_code (map started_of started) ++ main ∷ []) ≡ row_names (map (instance_row p) started ++ row ∷ [])
same_names p main row same [] = ap (λ (n : List ℕ). n ∷ []) same
same_names p main row same (i ∷ started) = ap (λ (ns : List (List ℕ)). i.name ∷ ns) (same_names p main row same started)

pub names_in_code : (p : Program) → instance_names (lowered p (program_starts p)) ≡ row_names (authority_of p).rows
unfolding lowered
names_in_code p = same_names p (lowered p (program_starts p)).main (main_row p) refl (start_list p)

pub as_many_names : (names : List (List ℕ)) (rows : List InstanceRow) → names ≡ row_names rows → length rows ≡ length names
as_many_names names rows same = sym (length-map rows (λ (r : InstanceRow). r.name)) ∙ ap (λ (ns : List (List ℕ)). length ns) (sym same)

-- ---- sets

abbrev set_of : Account → List ℕ
set_of account = account.set

rows_used : (atoms : List AtomName) (events : List Event) (rows : List InstanceRow)
    → map set_of (map (account_of atoms events) (row_names rows)) ≡ map (λ (r : InstanceRow). used_set atoms events r.name) rows
rows_used atoms events [] = refl
rows_used atoms events (r ∷ rows) = ap (λ (sets : List (List ℕ)). used_set atoms events r.name ∷ sets) (rows_used atoms events rows)

pub kept_sets : (a : Authority) (names : List (List ℕ)) (events : List Event) (used : UsedState) → used.atoms ≡ a.atoms → names ≡ row_names a.rows → Follows names events used
    → map set_of used.accounts ≡ used_sets a events
kept_sets a names events used atoms same follows =
    ap (λ (accounts : List Account). map set_of accounts) follows.accounts
    ∙ ap (λ (l : List AtomName). map set_of (map (account_of l events) names)) atoms
    ∙ ap (λ (ns : List (List ℕ)). map set_of (map (account_of a.atoms events) ns)) same
    ∙ rows_used a.atoms events a.rows
