-- The sets that are written for members, by the numbers of their names; and whether all members are among names.
use Rattle.std.proofs.Common.{◌≡◌, ℕ, List, [], ◌∷◌, refl, sym, ap, ◌∙◌, Option, Some, None, Bool, true, false, is_some, if◌then◌else◌}
use Rattle.std.specs.Prelude.{slice_get, ◌&&◌}
use Rattle.wy_syntax.specs.declared.types.MemberSet.{MemberSet}
use Rattle.wy_symbols.specs.declared.scoping.Meaning.{Meaning}
use Rattle.wy_symbols.specs.Declarations.{same_name, first_from}
use Rattle.wy_symbols.specs.Meanings.{abstract_names}
use Rattle.wy_symbols.specs.Atoms.{AtomScope, set_of}
use Rattle.wy_symbols.specs.TypeUses.{written_set, texts_of, all_among}
use Rattle.wy_symbols.proofs.Firsts.{first_next, item_at, item_next, has_number}

set_at : AtomScope → Option MemberSet → List ℕ
set_at s None = []
set_at s (Some m) = set_of s m.effect

written_at : (s : AtomScope) (sets : List MemberSet) (x : List ℕ) → written_set s sets x ≡ set_at s (item_at sets (first_from 0 (texts_of sets) x))
unfolding set_at
written_at s [] x = refl
written_at s (m ∷ ms) x =
    let P : Bool → Type 0 = λ b. (if b then set_of s m.effect else written_set s ms x) ≡ set_at s (item_at (m ∷ ms) (if b then Some 0 else first_from 1 (texts_of ms) x)) in
    elim (same_name m.name.text x) as P [
      | true ↦ refl
      | false ↦
          written_at s ms x
          ∙ ap (set_at s) (sym (item_next m ms (first_from 0 (texts_of ms) x)))
          ∙ ap (λ o. set_at s (item_at (m ∷ ms) o)) (sym (first_next 0 (texts_of ms) x))
    ]

pub unwritten : (s : AtomScope) (sets : List MemberSet) (x : List ℕ) → first_from 0 (texts_of sets) x ≡ None → [] ≡ written_set s sets x
unfolding set_at
unwritten s sets x h = sym (written_at s sets x ∙ ap (λ o. set_at s (item_at sets o)) h)

pub written_there : (s : AtomScope) (sets : List MemberSet) (x : List ℕ) (j : ℕ) (m : MemberSet) → first_from 0 (texts_of sets) x ≡ Some j → slice_get sets j ≡ Some m → set_of s m.effect ≡ written_set s sets x
unfolding set_at
written_there s sets x j m h at = sym (written_at s sets x ∙ ap (λ o. set_at s (item_at sets o)) h ∙ ap (set_at s) at)

pub written_past : (s : AtomScope) (sets : List MemberSet) (x : List ℕ) (j : ℕ) → first_from 0 (texts_of sets) x ≡ Some j → slice_get sets j ≡ None → [] ≡ written_set s sets x
unfolding set_at
written_past s sets x j h at = sym (written_at s sets x ∙ ap (λ o. set_at s (item_at sets o)) h ∙ ap (set_at s) at)

-- one member of all
pub among_absent : (m : Meaning) (ms : List Meaning) (ns : List (List ℕ)) → m.is_abstract ≡ true → is_some (first_from 0 ns m.name) ≡ false → false ≡ all_among (abstract_names (m ∷ ms)) ns
among_absent m ms ns real absent =
    sym (ap (λ b. all_among (if b then m.name ∷ abstract_names ms else abstract_names ms) ns) real
    ∙ ap (λ b. b && all_among (abstract_names ms) ns) (has_number 0 ns m.name ∙ absent))

pub among_there : (m : Meaning) (ms : List Meaning) (ns : List (List ℕ)) → is_some (first_from 0 ns m.name) ≡ true → all_among (abstract_names ms) ns ≡ all_among (abstract_names (m ∷ ms)) ns
among_there m ms ns there =
    let P : Bool → Type 0 = λ b. all_among (abstract_names ms) ns ≡ all_among (if b then m.name ∷ abstract_names ms else abstract_names ms) ns in
    elim m.is_abstract as P [
      | true ↦ sym (ap (λ b. b && all_among (abstract_names ms) ns) (has_number 0 ns m.name ∙ there))
      | false ↦ refl
    ]

pub among_defined : (m : Meaning) (ms : List Meaning) (ns : List (List ℕ)) → m.is_abstract ≡ false → all_among (abstract_names ms) ns ≡ all_among (abstract_names (m ∷ ms)) ns
among_defined m ms ns plain = sym (ap (λ b. all_among (if b then m.name ∷ abstract_names ms else abstract_names ms) ns) plain)
