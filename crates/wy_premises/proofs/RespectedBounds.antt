-- Sets that are to respect bounds, one member after the other.
use Rattle.std.proofs.Common.{◌≡◌, ℕ, ◌+◌, ◌≤◌, List, [], length, Option, Some, None, below_more, arith}
use Rattle.std.specs.Prelude.{slice_get, slice_index_or}
use Rattle.std.specs.Option.{IfSome, IfNone}
use Rattle.std.proofs.lemmas.Option.{slice_get_within}
use Rattle.wy_effects.specs.declared.atom.Atom.{Atom}
use Rattle.wy_effects.specs.EffSet.{replace}
use Rattle.wy_text.specs.Members.{Within}
use Rattle.wy_effects.specs.Bounds.{Bounds, IsUnder, IsWithin, Respects, IsOneOf, IsLeastMissing, IsWidened}
use Rattle.wy_effects.proofs.Ordering.{missing_exactly, widened_exactly}
use Rattle.wy_rules.specs.Failing.{FirstOutside}
use Rattle.wy_premises.specs.Outside.{RespectsOne, OutsideOne, RespectsBefore}

-- what is told of a widened set is told of the set
module _ (bounds : Bounds) (e f wide : List ℕ) (is : IsWidened bounds f wide) where
  pub none_within : (o : Option Atom) → IfNone o (Within e wide) → IfNone o (IsWithin bounds e f)
  none_within None h = (widened_exactly bounds e f wide is).1 h
  none_within (Some a) h = tt

  pub some_missing : (o : Option Atom) → IfSome o (λ a. IsLeastMissing IsOneOf a.0 e wide) → IfSome o (λ a. IsLeastMissing (IsUnder bounds) a.0 e f)
  some_missing None h = tt
  some_missing (Some a) h = (missing_exactly bounds e f wide a.0 is).1 h

module _ (bounds there : Bounds) (by : List (List ℕ)) where
  pub none_before : RespectsBefore bounds there by 0
  none_before j c less e = absurd (omega arith)

  -- one more member
  pub one_more : (n : ℕ) (o : Option (List ℕ)) → slice_get bounds n ≡ Some o → RespectsBefore bounds there by n → RespectsOne there by n o → RespectsBefore bounds there by (n + 1)
  one_more n o at before here j c less e =
      below_more (λ v. (b : List ℕ) → slice_get bounds v ≡ Some (Some b) → IsWithin there (slice_index_or by v []) (replace by b)) n
      (λ v under b f. before v b under f) (λ b f. here b (cc)) j less c e

  -- all of them
  pub respects_all : (n : ℕ) → length bounds ≤ n → RespectsBefore bounds there by n → Respects bounds there by
  respects_all n past before a b e = before a b (let l = slice_get_within bounds a (Some b) e in omega (arith, l, past)) e

  -- the first that does not
  pub first_is_outside : (n : ℕ) (o : Option (List ℕ)) (a : ℕ) → slice_get bounds n ≡ Some o → RespectsBefore bounds there by n → OutsideOne there by n o a → FirstOutside bounds there by a
  first_is_outside n o a at before one = record {
    member = n;
    bound = one.0;
    bounded = cc;
    lacks = one.2;
    first = before;
  }

  pub first_found : (n : ℕ) (b : Option (List ℕ)) (o : Option Atom) → slice_get bounds n ≡ Some b → RespectsBefore bounds there by n → IfSome o (λ a. OutsideOne there by n b a.0) → IfSome o (λ a. FirstOutside bounds there by a.0)
  first_found n b None at before h = tt
  first_found n b (Some a) at before h = first_is_outside n b a.0 at before h
