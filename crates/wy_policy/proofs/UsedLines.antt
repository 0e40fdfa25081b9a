-- The lines of what was used, one after the other.
use Rattle.std.proofs.Common.{◌≡◌, ◌+◌, ◌∙◌, ℕ, zero, suc, List, [], ◌∷◌, ◌++◌, Some, None, refl, sym, ap, drop, slice_get, append_assoc, append-nil, add-one}
use Rattle.wy_text.specs.declared.fault.AtomName.{AtomName}
use Rattle.wy_authority.specs.Report.{named_atoms}
use Rattle.wy_authority.specs.declared.rows.InstanceRow.{InstanceRow}
use Rattle.wy_policy.specs.Used.{used_line, used_lines}

-- where there is no set, there is no line
no_sets : (atoms : List AtomName) (rows : List InstanceRow) → used_lines atoms rows [] ≡ []
no_sets atoms [] = refl
no_sets atoms (r ∷ rows) = refl

lines_none : (atoms : List AtomName) (rows : List InstanceRow) (sets : List (List ℕ)) (at : ℕ) → slice_get sets at ≡ None → used_lines atoms (drop at rows) (drop at sets) ≡ []
lines_none atoms rows [] zero none = no_sets atoms rows
lines_none atoms rows [] (suc at) none = no_sets atoms (drop (suc at) rows)
lines_none atoms rows (s ∷ sets) zero none = absurd (cc)
lines_none atoms [] (s ∷ sets) (suc at) none = refl
lines_none atoms (r ∷ rows) (s ∷ sets) (suc at) none = lines_none atoms rows sets at none

lines_first : (atoms : List AtomName) (rows : List InstanceRow) (sets : List (List ℕ)) (at : ℕ) (r : InstanceRow) (s : List ℕ) → slice_get rows at ≡ Some r → slice_get sets at ≡ Some s
    → used_lines atoms (drop at rows) (drop at sets) ≡ used_line r.name (named_atoms atoms s) ++ used_lines atoms (drop (suc at) rows) (drop (suc at) sets)
lines_first atoms [] sets at r s here there = absurd (cc)
lines_first atoms (x ∷ rows) [] at r s here there = absurd (cc)
lines_first atoms (x ∷ rows) (y ∷ sets) zero r s here there =
    let row : x ≡ r = one here in
    let set : y ≡ s = same there in
    ap (λ (z : InstanceRow). used_line z.name (named_atoms atoms y) ++ used_lines atoms rows sets) row ∙ ap (λ (z : List ℕ). used_line r.name (named_atoms atoms z) ++ used_lines atoms rows sets) set
  where
    one : {a b : InstanceRow} → Some a ≡ Some b → a ≡ b
    one e = cc

    same : {a b : List ℕ} → Some a ≡ Some b → a ≡ b
    same e = cc
lines_first atoms (x ∷ rows) (y ∷ sets) (suc at) r s here there = lines_first atoms rows sets at r s here there

-- one more line
pub turn_goes : (atoms : List AtomName) (rows : List InstanceRow) (sets : List (List ℕ)) (at : ℕ) (r : InstanceRow) (s text next all : List ℕ) → slice_get rows at ≡ Some r → slice_get sets at ≡ Some s
    → next ≡ text ++ used_line r.name (named_atoms atoms s) → text ++ used_lines atoms (drop at rows) (drop at sets) ≡ all → next ++ used_lines atoms (drop (at + 1) rows) (drop (at + 1) sets) ≡ all
turn_goes atoms rows sets at r s text next all here there is so =
    let line = used_line r.name (named_atoms atoms s) in
    let more = used_lines atoms (drop (suc at) rows) (drop (suc at) sets) in
    ap (λ (n : ℕ). next ++ used_lines atoms (drop n rows) (drop n sets)) (add-one at)
    ∙ ap (λ (t : List ℕ). t ++ more) is ∙ append_assoc text line more ∙ ap (λ (t : List ℕ). text ++ t) (sym (lines_first atoms rows sets at r s here there)) ∙ so

-- .. or none
pub turn_stops : (atoms : List AtomName) (rows : List InstanceRow) (sets : List (List ℕ)) (at : ℕ) (text all : List ℕ) → slice_get sets at ≡ None
    → text ++ used_lines atoms (drop at rows) (drop at sets) ≡ all → text ≡ all
turn_stops atoms rows sets at text all none so = sym (append-nil text) ∙ ap (λ (t : List ℕ). text ++ t) (sym (lines_none atoms rows sets at none)) ∙ so
