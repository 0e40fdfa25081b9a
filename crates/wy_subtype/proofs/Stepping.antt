-- The step from a pair to one that it asks for is found again.
use Rattle.std.proofs.Common.{◌≡◌, ℕ, List, refl, sym, subst, Option, Some, None}
use Rattle.wy_types.specs.declared.types.TypeRef.{TypeRef}
use Rattle.wy_types.specs.declared.path.Part.{Part}
use Rattle.wy_types.specs.declared.path.Part.TheVariants.{Parameter, Result}
use Rattle.wy_types.specs.declared.path.Step.{Step}
use Rattle.wy_types.specs.Program.{Program}
use Rattle.wy_types.specs.Signature.{Signature, find_method}
use Rattle.wy_types.specs.Types.{IsObject, methods_of}
use Rattle.wy_types.specs.Subtyping.{LeadsBy}
use Rattle.wy_subtype.specs.declared.verdict.Mode.{Mode}
use Rattle.wy_subtype.specs.Steps.{Pair, Allows, StepsTo}
use Rattle.wy_subtype.specs.Asked.{AreExchanged, AsksBy, IsAskedOf, IsAskedBy}

-- no parameter asks and the results are others, so no part asks
pub asks_by_none : (m n : Signature TypeRef) (q : Pair) → ((i : ℕ) → AreExchanged m.params n.params i q → ⊥) → ((q.0 ≡ m.result) × (q.1 ≡ n.result) → ⊥) → (part : Part) → AsksBy m n part q → ⊥
asks_by_none m n q f g (Parameter i) h = f i h
asks_by_none m n q f g Result h = g h

module _ (program : Program) (scope : ℕ) (mode : Mode) where
  leads_asks : (m n : Signature TypeRef) (part : Part) (q : Pair) → LeadsBy TypeRef (methods_of program scope) IsObject (Allows program scope mode) m n part q → AsksBy m n part q
  leads_asks m n (Parameter i) q h = h
  leads_asks m n Result q h = h

  asks_leads : (m n : Signature TypeRef) (part : Part) (q : Pair) → AsksBy m n part q → LeadsBy TypeRef (methods_of program scope) IsObject (Allows program scope mode) m n part q
  asks_leads m n (Parameter i) q h = h
  asks_leads m n Result q h = h

  -- a step to a pair is one by which the methods ask for it
  pub step_asked : (p q : Pair) (s : Step) → StepsTo program scope mode p s q → IsAskedBy (methods_of program scope p.0) (methods_of program scope p.1) q s
  step_asked p q s h = record {
    right = h.right;
    asked = h.asked;
    named = h.named;
    by =
        let P : Option (Signature TypeRef) → Type 0 = λ o. IsAskedOf o h.right s.part q in
        subst P (sym h.found) (leads_asks h.left h.right s.part q h.leads);
  }

  asked_found : (o : Option (Signature TypeRef)) (n : Signature TypeRef) (part : Part) (q : Pair) → IsAskedOf o n part q → (m : Signature TypeRef) × (o ≡ Some m) × AsksBy m n part q
  asked_found None n part q h = absurd h
  asked_found (Some m) n part q h = (m, refl, h)

  pub asked_step : (p q : Pair) (s : Step) → IsAskedBy (methods_of program scope p.0) (methods_of program scope p.1) q s → StepsTo program scope mode p s q
  asked_step p q s h =
      let r = asked_found (find_method h.right.name (methods_of program scope p.0)) h.right s.part q h.by in
      record { left = r.0; right = h.right; found = r.1; asked = h.asked; named = h.named; leads = asks_leads r.0 h.right s.part q r.2 }

-- the methods as they were read, and the two pairs
module _ (program : Program) (scope : ℕ) (mode : Mode) (p q : Pair) (lefts rights : List (Signature TypeRef)) (el : lefts ≡ methods_of program scope p.0) (er : rights ≡ methods_of program scope p.1) where
  ByRead : List (Signature TypeRef) → List (Signature TypeRef) → Step → Type 0
  ByRead l r s = IsAskedBy l r q s

  pub read_step : (s : Step) → IsAskedBy lefts rights q s → StepsTo program scope mode p s q
  unfolding ByRead
  read_step s h =
      let L : List (Signature TypeRef) → Type 0 = λ l. ByRead l rights s in
      let R : List (Signature TypeRef) → Type 0 = λ r. ByRead (methods_of program scope p.0) r s in
      asked_step program scope mode p q s (subst R er (subst L el h))

  pub step_read : (s : Step) → StepsTo program scope mode p s q → IsAskedBy lefts rights q s
  unfolding ByRead
  step_read s h =
      let L : List (Signature TypeRef) → Type 0 = λ l. ByRead l rights s in
      let R : List (Signature TypeRef) → Type 0 = λ r. ByRead (methods_of program scope p.0) r s in
      subst L (sym el) (subst R (sym er) (step_asked program scope mode p q s h))
