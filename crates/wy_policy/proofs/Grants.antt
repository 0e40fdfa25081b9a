-- What entries allow, as tables have it.
use Rattle.std.proofs.Common.{◌≡◌, ◌+◌, ◌<◌, ◌∙◌, ◌||◌, ◌&&◌, ℕ, Bool, true, false, cond, List, length, take, get_or, refl, sym, ap}
use Rattle.std.specs.Str.{bytes_eq}
use Rattle.std.specs.List.{list_any}
use Rattle.std.proofs.lemmas.List.Folds.{list_any_more}
use Rattle.wy_effects.specs.AtomTable.{atom_name}
use Rattle.wy_text.specs.declared.fault.AtomName.{AtomName}
use Rattle.wy_policy.specs.Allowed.{entry_allows, has_member}
use Rattle.wy_policy.specs.Judging.{same_atom}
use Rattle.wy_policy.specs.declared.policy.Entry.{Entry}
use Rattle.wy_policy.specs.declared.policy.Member.{Member}
use Rattle.wy_policy.specs.declared.policy.Member.TheVariants as member

whole_or : (t c d : Bool) → cond t true c || d ≡ (c || d) || (t && true)
whole_or true true d = refl
whole_or true false true = refl
whole_or true false false = refl
whole_or false true d = refl
whole_or false false true = refl
whole_or false false false = refl

atom_or : (t c d : Bool) → c || cond t true d ≡ (c || d) || t
atom_or t true d = refl
atom_or true false true = refl
atom_or true false false = refl
atom_or false false true = refl
atom_or false false false = refl

-- one more grant with every member
pub whole_added : (grant : List ℕ) (e : Entry) (atom : AtomName) (c d : Bool) → grant ≡ e.grant → e.member ≡ member.Every → cond (bytes_eq grant atom.owner) true c || d ≡ (c || d) || entry_allows atom e
whole_added grant e atom c d is every =
    ap (λ (x : List ℕ). cond (bytes_eq x atom.owner) true c || d) is ∙ whole_or (bytes_eq e.grant atom.owner) c d
    ∙ ap (λ (m : Member). (c || d) || (bytes_eq e.grant atom.owner && has_member m atom.member)) (sym every)

-- .. and one more atom
pub atom_added : (grant own name : List ℕ) (e : Entry) (atom : AtomName) (c d : Bool) → grant ≡ e.grant → own ≡ name → e.member ≡ member.Named name
    → c || cond (same_atom (atom_name grant own) atom) true d ≡ (c || d) || entry_allows atom e
atom_added grant own name e atom c d is copied named =
    ap (λ (x : List ℕ). c || cond (same_atom (atom_name x own) atom) true d) is ∙ ap (λ (x : List ℕ). c || cond (same_atom (atom_name e.grant x) atom) true d) copied
    ∙ atom_or (same_atom (atom_name e.grant name) atom) c d
    ∙ ap (λ (m : Member). (c || d) || (bytes_eq e.grant atom.owner && has_member m atom.member)) (sym named)

-- one more entry
pub entry_added : (es : List Entry) (i : ℕ) (e : Entry) (atom : AtomName) (old new : Bool) → i < length es → e ≡ get_or es i e → new ≡ old || entry_allows atom e → old ≡ list_any (entry_allows atom) (take i es)
    → new ≡ list_any (entry_allows atom) (take (i + 1) es)
entry_added es i e atom old new lt at so before =
    so ∙ ap (λ (b : Bool). b || entry_allows atom e) before ∙ ap (λ (x : Entry). list_any (entry_allows atom) (take i es) || entry_allows atom x) at
    ∙ sym (list_any_more (entry_allows atom) es i e lt)
