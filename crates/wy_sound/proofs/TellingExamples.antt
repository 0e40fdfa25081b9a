-- Names that a report tells apart, and reports that would not.
use Rattle.std.proofs.Common.{◌≡◌, ℕ, List, [], ◌∷◌, inl, inr, refl, subst, arith, false, true}
use Rattle.std.specs.Prelude.{codes}
use Rattle.wy_text.specs.declared.fault.AtomName.{AtomName}
use Rattle.wy_effects.specs.AtomTable.{atom_name}
use Rattle.wy_effects.proofs.SetLaws.{has-In}
use Rattle.wy_rules.specs.OwnNames.{IsMethodName}
use Rattle.wy_authority.specs.declared.rows.BodyRow.{BodyRow}
use Rattle.wy_authority.specs.declared.rows.InstanceRow.{InstanceRow}
use Rattle.wy_authority.specs.Authority.{body_row}
use Rattle.wy_sound.specs.Programs.{call_atoms}
use Rattle.wy_sound.specs.Telling.{IsLineByte, IsLineName}

-- a method's name; neither what a module starts with nor the name of a literal's method is one
write_is_one : IsMethodName (codes "write")
write_is_one = (
  (λ i. (let e : false ≡ true = has-In 46 (codes "write") i in absurd (cc))),
  (λ e. absurd (cc)),
  (λ e. absurd (cc)),
)

init_is_none : IsMethodName (codes "init") → ⊥
init_is_none h = h.1 refl

literal_is_none : IsMethodName (codes "new1.m") → ⊥
literal_is_none h = h.0 (inr (inr (inr (inr (inl refl)))))

abbrev atoms : List AtomName
atoms = atom_name (codes "console") (codes "Out") ∷ atom_name (codes "disk") (codes "Read") ∷ []

abbrev row : List ℕ → List BodyRow → InstanceRow
row name bodies = record { name = name; bodies = bodies }

-- a call may do what its own row says
abbrev rows : List InstanceRow
rows = row (codes "log") (body_row (codes "init") [] ∷ body_row (codes "write") (0 ∷ []) ∷ []) ∷ row (codes "main") (body_row (codes "run") (1 ∷ []) ∷ []) ∷ []

write_may : call_atoms atoms (record { instance = codes "log"; body = codes "write" }) rows ≡ atom_name (codes "console") (codes "Out") ∷ []
write_may = refl

run_may : call_atoms atoms (record { instance = codes "main"; body = codes "run" }) rows ≡ atom_name (codes "disk") (codes "Read") ∷ []
run_may = refl

-- where two bodies had one name, a call of either could do what both may
abbrev rows_alike : List InstanceRow
rows_alike = row (codes "log") (body_row (codes "init") (1 ∷ []) ∷ body_row (codes "init") (0 ∷ []) ∷ []) ∷ []

alike_may : call_atoms atoms (record { instance = codes "log"; body = codes "init" }) rows_alike ≡
    atom_name (codes "disk") (codes "Read") ∷ atom_name (codes "console") (codes "Out") ∷ []
alike_may = refl

-- a name that a line of the report can hold; with a colon in it, it is none, and one without bytes is none
letter_is_one : IsLineName (codes "x")
letter_is_one = record {
  some = λ e. cc;
  bytes = λ b i. elim i [ inl e ↦ subst IsLineByte e (omega arith, (λ f. omega (arith, f)), (λ f. omega (arith, f))) | inr j ↦ absurd j ];
}

colon_is_none : IsLineName (codes "x:y") → ⊥
colon_is_none h = (h.bytes 58 (inr (inl refl))).2 refl

empty_is_none : IsLineName [] → ⊥
empty_is_none h = h.some refl
