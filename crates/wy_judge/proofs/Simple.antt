-- Literals, names and `this`: they have no node, and their least types are at hand.
use Rattle.std.proofs.Common.{◌≡◌, ℕ, ℤ, List, [], Option, Some, Bool as Truth}
use Rattle.wy_text.specs.declared.fault.Place.{Place}
use Rattle.wy_types.specs.declared.types.TypeRef.{TypeRef}
use Rattle.wy_types.specs.declared.types.TypeRef.TheVariants.{Int, Bool, Text, Unit as Nothing, Own}
use Rattle.wy_types.specs.declared.code.Binding.{Binding}
use Rattle.wy_types.specs.Code.{Number, Quoted, Truth as TruthOf, Nothing as NothingOf, This, Name}
use Rattle.wy_types.specs.Program.{Program, Scope}
use Rattle.wy_types.specs.Types.{is_plain}
use Rattle.wy_rules.specs.Readings.{IsBelow}
use Rattle.wy_rules.specs.Typing.{binding_type}
use Rattle.wy_rules.specs.Acceptance.{scope_reading}
use Rattle.wy_rules.proofs.Forms.{Lawful}
use Rattle.wy_rules.proofs.Least.{number_least, text_least, truth_least, nothing_least, name_least, this_least}
use Rattle.wy_judge.specs.Inference as inferred
use Rattle.wy_judge.specs.Judged.{Inferred}
use Rattle.wy_judge.proofs.Bases.{base_below}

module _ (p : Program) (k : ℕ) (s : Scope) (w : Lawful (scope_reading p k s)) (locals : List (scope_reading p k s).Kind) (owner : Option ℕ) where
  pub number_inferred : (q : Place) (n : ℤ) → Inferred p k s locals owner (Number q n) (inferred.Least Int [])
  number_inferred q n = (number_least (scope_reading p k s) w s locals owner q n (base_below p k (is_plain s.kind) Int (λ o. o)), tt)

  pub quoted_inferred : (q : Place) (bytes : List ℕ) → Inferred p k s locals owner (Quoted q bytes) (inferred.Least Text [])
  quoted_inferred q bytes = (text_least (scope_reading p k s) w s locals owner q bytes (base_below p k (is_plain s.kind) Text (λ o. o)), tt)

  pub truth_inferred : (q : Place) (b : Truth) → Inferred p k s locals owner (TruthOf q b) (inferred.Least Bool [])
  truth_inferred q b = (truth_least (scope_reading p k s) w s locals owner q b (base_below p k (is_plain s.kind) Bool (λ o. o)), tt)

  pub nothing_inferred : (q : Place) → Inferred p k s locals owner (NothingOf q) (inferred.Least Nothing [])
  nothing_inferred q = (nothing_least (scope_reading p k s) w s locals owner q (base_below p k (is_plain s.kind) Nothing (λ o. o)), tt)

  pub name_inferred : (q : Place) (name : Binding) (t : TypeRef) → binding_type (scope_reading p k s) s locals owner name ≡ Some ((scope_reading p k s).read t) →
      IsBelow (scope_reading p k s) ((scope_reading p k s).read t) ((scope_reading p k s).read t) → Inferred p k s locals owner (Name q name) (inferred.Least t [])
  name_inferred q name t e r = (name_least (scope_reading p k s) w s locals owner q name ((scope_reading p k s).read t) e r, tt)

  pub this_inferred : (q : Place) (l : ℕ) → owner ≡ Some l → IsBelow (scope_reading p k s) ((scope_reading p k s).read (Own l)) ((scope_reading p k s).read (Own l)) →
      Inferred p k s locals owner (This q) (inferred.Least (Own l) [])
  this_inferred q l e r = (this_least (scope_reading p k s) w s locals owner q l e r, tt)
