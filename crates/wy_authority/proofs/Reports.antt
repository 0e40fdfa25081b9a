-- The text of a report, one instance after another.
use Rattle.std.proofs.Common.{◌≡◌, ℕ, ◌+◌, ◌<◌, List, ◌∷◌, ◌++◌, length, get_or, drop, sym, ap, ◌∙◌, append_assoc, subst}
use Rattle.std.proofs.lemmas.List.{at_drop_more}
use Rattle.std.specs.Prelude.{codes}
use Rattle.wy_text.specs.Outside.{SinkState}
use Rattle.wy_text.specs.Writing.{WritesUpTo}
use Rattle.wy_text.specs.declared.fault.AtomName.{AtomName}
use Rattle.wy_authority.specs.declared.rows.InstanceRow.{InstanceRow}
use Rattle.wy_authority.specs.Authority.{whole_set}
use Rattle.wy_authority.specs.Report.{named_atoms, set_text, body_lines, instance_text, instance_lines}

split : (title name colon set end bodies rest : List ℕ) →
    title ++ (name ++ (colon ++ (set ++ (end ++ (bodies ++ rest))))) ≡ (title ++ (name ++ (colon ++ (set ++ (end ++ bodies))))) ++ rest
split title name colon set end bodies rest = sym (simp append_assoc)

first_instance : (atoms : List AtomName) (r : InstanceRow) (rs : List InstanceRow) → instance_lines atoms (r ∷ rs) ≡ instance_text atoms r ++ instance_lines atoms rs
first_instance atoms r rs =
    split (codes "authority of ") r.name (codes ": ") (set_text (named_atoms atoms (whole_set r.bodies))) (codes "\n") (body_lines atoms r.bodies) (instance_lines atoms rs)

-- the lines of the instance at a place come before those of the later ones
pub lines_at : (atoms : List AtomName) (rows : List InstanceRow) (i : ℕ) (r : InstanceRow) → i < length rows → r ≡ get_or rows i r →
    instance_lines atoms (drop i rows) ≡ instance_text atoms r ++ instance_lines atoms (drop (i + 1) rows)
lines_at atoms rows i r h e =
    at_drop_more (instance_lines atoms) rows i r h ∙ ap (λ (x : InstanceRow). instance_lines atoms (x ∷ drop (i + 1) rows)) (sym e) ∙ first_instance atoms r (drop (i + 1) rows)

-- the lines of an instance are written
pub instance_written : (old new rest : List ℕ) (atoms : List AtomName) (rows : List InstanceRow) (i : ℕ) (r : InstanceRow) → i < length rows → r ≡ get_or rows i r →
    new ≡ old ++ instance_text atoms r → old ++ instance_lines atoms (drop i rows) ≡ rest → new ++ instance_lines atoms (drop (i + 1) rows) ≡ rest
instance_written old new rest atoms rows i r h e n w =
    let later : List ℕ = instance_lines atoms (drop (i + 1) rows) in
    ap (λ l. l ++ later) n ∙ append_assoc old (instance_text atoms r) later ∙ ap (λ l. old ++ l) (sym (lines_at atoms rows i r h e)) ∙ w

-- what is left to write begins with the text of the next row
pub row_next : (text row : List ℕ) (atoms : List AtomName) (rows : List InstanceRow) (i : ℕ) (r : InstanceRow) (before now : SinkState) → i < length rows → r ≡ get_or rows i r →
    row ≡ instance_text atoms r → WritesUpTo text (instance_lines atoms (drop i rows)) before now → WritesUpTo text (row ++ instance_lines atoms (drop (i + 1) rows)) before now
row_next text row atoms rows i r before now h e same w =
    let P : List ℕ → Type 0 = λ l. WritesUpTo text l before now in
    subst P (lines_at atoms rows i r h e ∙ ap (λ l. l ++ instance_lines atoms (drop (i + 1) rows)) (sym same)) w
