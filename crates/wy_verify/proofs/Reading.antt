-- What can be read at a site.
use Rattle.std.proofs.Common.{◌≡◌, ◌≢◌, ℕ, zero, suc, ◌-◌, ◌<◌, ◌≤◌, List, [], ◌∷◌, length, get_or, refl, sym, ap, ◌∙◌, subst, Option, Some, None, Bor, arith}
use Rattle.std.specs.Prelude.{slice_get, IfSome}
use Rattle.std.specs.Option.{option_copied}
use Rattle.wy_text.specs.Members.{In}
use Rattle.wy_text.proofs.Lists.{In-slice_get}
use Rattle.wy_image.specs.declared.typing.Reference.{Reference}
use Rattle.wy_image.specs.declared.typing.Target.{Target}
use Rattle.wy_image.specs.declared.typing.Typing.{Typing}
use Rattle.wy_verified.specs.Kinds.{kind_in, kinds_in, values_by}
use Rattle.wy_verified.proofs.Lists.{get_map}
use Rattle.wy_verify.specs.Sites.{AreShort}

-- an element, by its place
pub read_default : {X : Type 0} (xs : List X) (i : ℕ) (d : X) → i < length xs → slice_get xs i ≡ Some (get_or xs i d)
read_default [] i d lt = absurd (omega arith)
read_default (y ∷ xs) zero d lt = refl
read_default (y ∷ xs) (suc i) d lt = read_default xs i d (omega arith)

pub written_there : (x : ℕ) (rs : List Reference) (i : ℕ) (r : Reference) → slice_get rs i ≡ Some r →
    slice_get (kinds_in x rs) i ≡ Some (kind_in x r)
written_there x rs i r e = get_map (kind_in x) rs i r e

pub none_written : (x : ℕ) (rs : List Reference) (i : ℕ) → length rs ≤ i → slice_get (kinds_in x rs) i ≡ None
none_written x [] i le = refl
none_written x (r ∷ rs) zero le = absurd (omega arith)
none_written x (r ∷ rs) (suc i) le = none_written x rs i (omega arith)

-- a target that is found has numbers of four bytes
pub short_target : (ts : List Target) (n : ℕ) (o : Option (Bor Target)) → option_copied o ≡ slice_get ts n →
    ((t : Target) → In t ts → AreShort t.operands) → IfSome o (λ t. AreShort t.now.operands)
short_target ts n None e h = tt
short_target ts n (Some t) e h = h t.now (In-slice_get ts n t.now (sym e))

-- the values of a literal of the file
pub short_values : (typing : Typing) (l : ℕ) (v : List Reference) → l ≢ 0 → slice_get typing.literals (l - 1) ≡ Some v →
    ((l : ℕ) → AreShort (values_by (Some typing) l)) → AreShort v
short_values typing zero v ne e h = absurd (ne refl)
short_values typing (suc l) v ne e h =
    subst AreShort (ap Rattle.wy_verified.specs.Kinds.values_of (sym z ∙ e)) (h (suc l))
  where
    z : slice_get typing.literals (suc l - 1) ≡ slice_get typing.literals l
    z = ap (slice_get typing.literals) (let z : suc l - 1 ≡ l = omega arith in z)
