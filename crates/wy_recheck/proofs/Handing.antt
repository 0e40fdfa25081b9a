-- Parameters and their arguments, one after the other, up to the end of the shorter list.
use Rattle.std.proofs.Common.{◌≡◌, ℕ, zero, suc, ◌+◌, ◌<◌, List, [], ◌∷◌, length, get_or, drop, refl, sym, ap, ◌∙◌, arith, Some, None, add-one}
use Rattle.std.specs.Prelude.{slice_get}
use Rattle.wy_types.specs.declared.resolved.OwnName.{OwnName}
use Rattle.wy_rules.specs.Acceptance.{handed_to}
use Rattle.wy_premises.specs.Tried.{handed_pair}

none_handed : (ns : List OwnName) → handed_to ns [] ≡ []
none_handed [] = refl
none_handed (n ∷ ns) = refl

next : (ns : List OwnName) (arguments : List ℕ) (i : ℕ) (n : OwnName) (a : ℕ) → i < length ns → n ≡ get_or ns i n → slice_get arguments i ≡ Some a →
    handed_to (drop i ns) (drop i arguments) ≡ handed_pair n a ∷ handed_to (drop (suc i) ns) (drop (suc i) arguments)
next [] arguments i n a lt is e = absurd (omega arith)
next (m ∷ ns) [] i n a lt is e = absurd (cc)
next (m ∷ ns) (b ∷ arguments) zero n a lt is e =
    let same : b ≡ a = cc in
    ap (λ (v : OwnName). handed_pair v b ∷ handed_to ns arguments) (sym is) ∙ ap (λ v. handed_pair n v ∷ handed_to ns arguments) same
next (m ∷ ns) (b ∷ arguments) (suc i) n a lt is e = next ns arguments i n a (omega arith) is e

-- the parameter at a place and its argument
pub handed_next : (ns : List OwnName) (arguments : List ℕ) (i : ℕ) (n : OwnName) (a : ℕ) → i < length ns → n ≡ get_or ns i n → slice_get arguments i ≡ Some a →
    handed_to (drop i ns) (drop i arguments) ≡ handed_pair n a ∷ handed_to (drop (i + 1) ns) (drop (i + 1) arguments)
handed_next ns arguments i n a lt is e = rw add-one (next ns arguments i n a lt is e)

over : (arguments : List ℕ) (i : ℕ) → slice_get arguments i ≡ None → drop i arguments ≡ []
over [] zero e = refl
over [] (suc i) e = refl
over (a ∷ arguments) zero e = absurd (cc)
over (a ∷ arguments) (suc i) e = over arguments i e

-- no argument is left
pub handed_over : (ns : List OwnName) (arguments : List ℕ) (i : ℕ) → slice_get arguments i ≡ None → handed_to (drop i ns) (drop i arguments) ≡ []
handed_over ns arguments i e = ap (λ l. handed_to (drop i ns) l) (over arguments i e) ∙ none_handed (drop i ns)
