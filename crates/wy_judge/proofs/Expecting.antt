-- What the places of several values expect: the types that are written for them, those of the parameters of the method that a call
-- names, or none.
use Rattle.std.proofs.Common.{◌≡◌, ℕ, ◌<◌, List, [], ◌∷◌, refl, sym, ap, ◌∙◌, subst, arith, length, map, Option, Some, None}
use Rattle.std.specs.Prelude.{slice_get}
use Rattle.std.specs.Option.{option_map}
use Rattle.std.proofs.lemmas.List.{length-map}
use Rattle.std.proofs.lemmas.List.FromFn.{length-map-range_with_len}
use Rattle.std.proofs.lemmas.Option.{slice_get-map, slice_get_within}
use Rattle.wy_types.specs.declared.types.TypeRef.{TypeRef}
use Rattle.wy_types.specs.declared.types.TypeRef.TheVariants.{Int}
use Rattle.wy_types.specs.declared.types.Method.{Method}
use Rattle.wy_types.specs.declared.code.Value as v
use Rattle.wy_types.specs.Code.{Expr, Plain}
use Rattle.wy_types.specs.Vals.{value_count}
use Rattle.wy_types.specs.View.{values_of}
use Rattle.wy_types.specs.Program.{Program, Scope}
use Rattle.wy_types.specs.Signature.{Signature, find_method}
use Rattle.wy_types.specs.Types.{IsObject, signature, methods_of}
use Rattle.wy_rules.specs.Readings.{Reading}
use Rattle.wy_rules.specs.Acceptance.{scope_reading}
use Rattle.wy_rules.specs.Nodes.{Spot, written, argument, written_spots, argument_spots}
use Rattle.wy_rules.specs.Failing.{IsLeast, IsExpected}
use Rattle.wy_judge.specs.Tables.{Table, Agrees}
use Rattle.wy_judge.specs.Judging.{AreExpected, AreUnexpected}
use Rattle.wy_judge.proofs.Calling.{argument_expected, argument_unexpected}
use Rattle.wy_judge.proofs.Contexts.{lawful}
use Rattle.wy_judge.proofs.Dropping.{written_spot_at, argument_spot_at}

-- there are types of `val`s that go on from those that are known
abbrev pub kind_of : (y : Reading) → Option TypeRef → y.Kind
kind_of y None = y.read Int
kind_of y (Some t) = y.read t

abbrev pub known_kinds : (y : Reading) → Table → List y.Kind
known_kinds y table = map (kind_of y) table

pub kinds_agree : (y : Reading) (table : Table) → Agrees y (known_kinds y table) table
kinds_agree y table n t e = slice_get-map (kind_of y) table n ∙ ap (option_map (kind_of y)) e

-- as many values as the code has
pub count_values : (xs : List v.Value) → value_count (values_of xs) ≡ length xs
count_values [] = refl
count_values (x ∷ xs) = (let rest : value_count (values_of xs) ≡ length xs = count_values xs in omega arith)

-- two spots at one number
pub spot_same : (spots : List Spot) (i : ℕ) (a b : Spot) → slice_get spots i ≡ Some a → slice_get spots i ≡ Some b → a ≡ b
spot_same spots i a b e g = cc

module _ (p : Program) (k : ℕ) (s : Scope) (owner : Option ℕ) (locals : List (scope_reading p k s).Kind) where
  -- types that are written
  pub written_expected : (ts : List TypeRef) → AreExpected p k s owner locals (written_spots ts) ts
  written_expected ts = record {
    as_many = length-map ts (λ t. written t);
    each = λ i spot t e g.
        subst (λ (z : Spot). IsExpected (scope_reading p k s) s locals owner z (Some ((scope_reading p k s).read t))) (spot_same (written_spots ts) i (written t) spot (written_spot_at ts i t g) e) refl;
  }

  pub many_arguments : (x : Expr) (name : List ℕ) (arity : ℕ) → length (argument_spots x name arity) ≡ arity
  many_arguments x name arity = length-map-range_with_len (λ i. argument x name arity i) 0 arity

  -- parameters of the method
  pub arguments_expected : (x : Expr) (name : List ℕ) (arity : ℕ) (t : TypeRef) (e : List ℕ) (m : Method) →
      IsLeast (scope_reading p k s) s locals owner (Plain x) ((scope_reading p k s).read t) e → IsObject t → find_method name (methods_of p k t) ≡ Some (signature m) → length m.params ≡ arity →
      AreExpected p k s owner locals (argument_spots x name arity) m.params
  arguments_expected x name arity t e m l o g n = record {
    as_many = many_arguments x name arity ∙ sym n;
    each = λ i spot u h j.
        let below : i < arity = subst (λ z. i < z) n (slice_get_within m.params i u j) in
        subst (λ (z : Spot). IsExpected (scope_reading p k s) s locals owner z (Some ((scope_reading p k s).read u)))
        (spot_same (argument_spots x name arity) i (argument x name arity i) spot (argument_spot_at x name arity i below) h)
        (argument_expected p k s (lawful p k s) locals owner x name arity i t e (signature m) u l o g n j);
  }

  -- none, where there is no method for so many arguments
  pub arguments_unexpected : (x : Expr) (name : List ℕ) (xs : List v.Value) (t : TypeRef) (e : List ℕ) → IsLeast (scope_reading p k s) s locals owner (Plain x) ((scope_reading p k s).read t) e →
      ((m : Signature TypeRef) → IsObject t → find_method name (methods_of p k t) ≡ Some m → length m.params ≡ length xs → ⊥) → AreUnexpected p k s owner locals (argument_spots x name (length xs)) xs
  arguments_unexpected x name xs t e l none = record {
    as_many = many_arguments x name (length xs);
    each = λ i spot h.
        let below : i < length xs = subst (λ z. i < z) (many_arguments x name (length xs)) (slice_get_within (argument_spots x name (length xs)) i spot h) in
        subst (λ (z : Spot). IsExpected (scope_reading p k s) s locals owner z None)
        (spot_same (argument_spots x name (length xs)) i (argument x name (length xs) i) spot (argument_spot_at x name (length xs) i below) h)
        (argument_unexpected p k s (lawful p k s) locals owner x name (length xs) i t e l none);
  }
