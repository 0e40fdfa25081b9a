-- Literals and names as they are judged by themselves: nothing becomes known.
use Rattle.std.proofs.Common.{◌≡◌, ℕ, ℤ, ◌<◌, List, [], length, refl, sym, ◌∙◌, subst, Option, Some, None, Bool as Truth}
use Rattle.wy_text.specs.declared.fault.Place.{Place}
use Rattle.wy_types.specs.declared.types.TypeRef.{TypeRef}
use Rattle.wy_types.specs.declared.types.TypeRef.TheVariants.{Int, Bool, Text, Unit as Nothing, Own}
use Rattle.wy_types.specs.declared.code.Binding.{Binding}
use Rattle.wy_types.specs.Code.{Number, Quoted, Truth as TruthOf, Nothing as NothingOf, This, Name}
use Rattle.wy_types.specs.Core.{HasThis}
use Rattle.wy_types.specs.Program.{Program, Scope}
use Rattle.wy_types.specs.Fitting.{IsTypeOf}
use Rattle.wy_judge.specs.Inference as inferred
use Rattle.wy_judge.specs.Tables.{Table, IsScopeOf, HasOwner, ExprReady}
use Rattle.wy_judge.specs.Targets.{type_of_binding}
use Rattle.wy_judge.specs.Judging.{InferenceStands, InfersTo}
use Rattle.wy_judge.proofs.Contexts.{lawful, reflexive, own_in_range}
use Rattle.wy_judge.proofs.Moving.{moves_none}
use Rattle.wy_judge.proofs.Naming.{name_known, name_reads}
use Rattle.wy_judge.proofs.Simple.{number_inferred, quoted_inferred, truth_inferred, nothing_inferred, name_inferred, this_inferred}

module _ (p : Program) (k : ℕ) (s : Scope) (c : IsScopeOf p k s) (owner : Option ℕ) (table : Table) where
  ------------------------------------------------------------
  -- Literals

  pub number_to : (q : Place) (n : ℤ) → ExprReady p k s owner table (Number q n) → InfersTo p k s owner table table (Number q n) (inferred.Least Int [])
  number_to q n h = record {
    moves = moves_none p k s table (InferenceStands (inferred.Least Int [])) h.2.range;
    range = tt;
    judged = λ locals a. number_inferred p k s (lawful p k s) locals owner q n;
  }

  pub quoted_to : (q : Place) (bytes : List ℕ) → ExprReady p k s owner table (Quoted q bytes) → InfersTo p k s owner table table (Quoted q bytes) (inferred.Least Text [])
  quoted_to q bytes h = record {
    moves = moves_none p k s table (InferenceStands (inferred.Least Text [])) h.2.range;
    range = tt;
    judged = λ locals a. quoted_inferred p k s (lawful p k s) locals owner q bytes;
  }

  pub truth_to : (q : Place) (b : Truth) → ExprReady p k s owner table (TruthOf q b) → InfersTo p k s owner table table (TruthOf q b) (inferred.Least Bool [])
  truth_to q b h = record {
    moves = moves_none p k s table (InferenceStands (inferred.Least Bool [])) h.2.range;
    range = tt;
    judged = λ locals a. truth_inferred p k s (lawful p k s) locals owner q b;
  }

  pub nothing_to : (q : Place) → ExprReady p k s owner table (NothingOf q) → InfersTo p k s owner table table (NothingOf q) (inferred.Least Nothing [])
  nothing_to q h = record {
    moves = moves_none p k s table (InferenceStands (inferred.Least Nothing [])) h.2.range;
    range = tt;
    judged = λ locals a. nothing_inferred p k s (lawful p k s) locals owner q;
  }

  ------------------------------------------------------------
  -- Names

  -- where `this` stands there is a current object
  pub this_owned : (q : Place) → ExprReady p k s owner table (This q) → (l : ℕ) × (owner ≡ Some l)
  this_owned q h = owned owner h.1
    where
      owned : (o : Option ℕ) → HasThis o → (l : ℕ) × (o ≡ Some l)
      owned None there = absurd there
      owned (Some l) there = (l, refl)

  some_same : (t u : TypeRef) → ◌≡◌ {A = Option TypeRef} (Some t) (Some u) → t ≡ u
  some_same t u e = cc

  -- the type that is looked up is in range
  name_type_in_range : (q : Place) (name : Binding) (t : TypeRef) → ExprReady p k s owner table (Name q name) → type_of_binding s table owner name ≡ Some t → IsTypeOf p k t
  name_type_in_range q name t h e =
      let r = name_known p k s c table owner q name h in
      subst (λ v. IsTypeOf p k v) (some_same r.0 t (sym r.1 ∙ e)) r.2

  pub name_to : (q : Place) (name : Binding) (t : TypeRef) → ExprReady p k s owner table (Name q name) → type_of_binding s table owner name ≡ Some t →
      InfersTo p k s owner table table (Name q name) (inferred.Least t [])
  name_to q name t h e = record {
    moves = moves_none p k s table (InferenceStands (inferred.Least t [])) h.2.range;
    range = name_type_in_range q name t h e;
    judged = λ locals a.
        name_inferred p k s (lawful p k s) locals owner q name t (name_reads p k s owner table locals a name t e) (reflexive p k s c t (name_type_in_range q name t h e));
  }

  pub this_to : (q : Place) (l : ℕ) → owner ≡ Some l → HasOwner s owner → ExprReady p k s owner table (This q) → InfersTo p k s owner table table (This q) (inferred.Least (Own l) [])
  this_to q l e there h = record {
    moves = moves_none p k s table (InferenceStands (inferred.Least (Own l) [])) h.2.range;
    range = own_in_range p k s c l below;
    judged = λ locals a. this_inferred p k s (lawful p k s) locals owner q l e (reflexive p k s c (Own l) (own_in_range p k s c l below));
  }
    where
      below : l < length s.literals
      below = subst (HasOwner s) e there
