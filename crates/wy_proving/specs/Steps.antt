-- The steps of a derivation, parts before the whole: what each of its nodes says.
use Rattle.std.specs.Prelude.{ℕ, ◌+◌, List, [], ◌∷◌, ◌++◌, Option, Some, None, map}
use Rattle.wy_text.specs.declared.fault.Place.{Place}
use Rattle.wy_types.specs.declared.types.TypeRef.TheVariants.{Bool, Unit as Nothing}
use Rattle.wy_types.specs.Code.{Call, New, Ascribe, Assign, Value, Plain, If, Values, none, more, Block, Last, Then, Val}
use Rattle.wy_types.specs.Program.{Scope, Body, Start, Init, Run}
use Rattle.wy_types.specs.Signature.{find_method}
use Rattle.wy_types.specs.Vals.{value_count}
use Rattle.wy_rules.specs.Readings.{Reading}
use Rattle.wy_rules.specs.Operators.{Operation, operation_of}
use Rattle.wy_rules.specs.Derivations as d
use Rattle.wy_rules.specs.Derivations.{Derivation, Derivations, BlockDerivation, BodyDerivation, ScopeDerivation, none as no_derivations, more as one_more}
use Rattle.wy_rules.specs.Typing.{field_types, var_field}
use Rattle.wy_rules.specs.Canonical.{method_params, field_type}
use Rattle.wy_cert.specs.declared.certificate.Rule.{Rule}
use Rattle.wy_cert.specs.declared.certificate.Rule.TheVariants as by

-- a rule that is used, its place, how many parts it has, and the type and the effect that it gives
pub record Step (K : Type 0) : Type 0 where
  pub rule : Rule
  pub place : Place
  pub parts : ℕ
  -- of T-Sub alone: the type of its part
  pub below : Option K
  pub typ : Option K
  pub effect : List ℕ

-- a step of a rule other than T-Sub
abbrev pub step : {K : Type 0} → Rule → Place → ℕ → Option K → List ℕ → Step K
step rule place parts typ effect = record { rule = rule; place = place; parts = parts; below = None; typ = typ; effect = effect }

-- .. of T-Sub, from one type to another
abbrev pub sub_step : {K : Type 0} → Place → K → K → List ℕ → Step K
sub_step place k t effect = record { rule = by.Sub; place = place; parts = 1; below = Some k; typ = Some t; effect = effect }

-- the operands of an operation
abbrev pub operands_of : Option Operation → Values
operands_of None = none
operands_of (Some o) = o.operands

module _ (y : Reading) (s : Scope) (owner : Option ℕ) where
  abbrev mutual
    -- of a value's derivation, at the type and the effect that it gives
    pub value_steps : Derivation y.Kind → Value → y.Kind → List ℕ → List (Step y.Kind)
    value_steps (d.T-Lit q) x t f = step by.Lit q 0 (Some t) f ∷ []
    value_steps (d.T-Var q) x t f = step by.Var q 0 (Some t) f ∷ []
    value_steps (d.T-This q) x t f = step by.This q 0 (Some t) f ∷ []
    value_steps (d.T-Call q b k e ds) (Plain (Call p x name xs)) t f =
        value_steps b (Plain x) k e ++ (values_steps ds xs (method_params y (find_method name (y.methods k))) ++ step by.Call q (value_count xs + 1) (Some t) f ∷ [])
    value_steps (d.T-New q ds) (Plain (New p l xs)) t f = values_steps ds xs (map y.read (field_types s l)) ++ step by.New q (value_count xs) (Some t) f ∷ []
    value_steps (d.T-If q c e a g b h) (If p test first second) t f =
        value_steps c (Plain test) (y.read Bool) e ++ (block_steps a first t g ++ (block_steps b second t h ++ step by.If q 3 (Some t) f ∷ []))
    value_steps (d.T-Set q b) (Plain (Assign p name x)) t f = value_steps b x (field_type y (var_field s owner name)) f ++ step by.Set q 1 (Some t) f ∷ []
    value_steps (d.T-Op q r ds) (Plain x) t f =
        values_steps ds (operands_of (operation_of x)) (map y.read r.operands) ++ step by.Op q (value_count (operands_of (operation_of x))) (Some t) f ∷ []
    value_steps (d.T-Asc q b) (Plain (Ascribe p x u)) t f = value_steps b x (y.read u) f ++ step by.Asc q 1 (Some t) f ∷ []
    value_steps (d.T-Sub q b k e) x t f = value_steps b x k e ++ sub_step q k t f ∷ []
    value_steps b x t f = []

    -- .. of values, each at its type
    pub values_steps : Derivations y.Kind → Values → List y.Kind → List (Step y.Kind)
    values_steps (one_more b e ds) (more x xs) (t ∷ ts) = value_steps b x t e ++ values_steps ds xs ts
    values_steps ds xs ts = []

    -- .. of a block: T-Seq stands after the statement and the rest, T-Val of its own after the initialiser
    pub block_steps : BlockDerivation y.Kind → Block → y.Kind → List ℕ → List (Step y.Kind)
    block_steps (d.Result b) (Last x) t f = value_steps b x t f
    block_steps (d.T-Seq q b e ds g) (Then x rest) t f = value_steps b x (y.read Nothing) e ++ (block_steps ds rest t g ++ step by.Seq q 2 (Some t) f ∷ [])
    block_steps (d.T-Val q b k e ds g) (Val p n typ x rest) t f = value_steps b x k e ++ (step by.Val q 1 None e ∷ (block_steps ds rest t g ++ step by.Seq q 2 (Some t) f ∷ []))
    block_steps (d.Block-Sub q ds k e) b t f = block_steps ds b k e ++ sub_step q k t f ∷ []
    block_steps ds b t f = []

module _ (y : Reading) (s : Scope) where
  -- of what a scope does at its start: T-Body has no type, and no effect of its own
  abbrev pub start_steps : BodyDerivation y.Kind → Start → List (Step y.Kind)
  start_steps (d.T-Body-Init q ds) (Init values) = values_steps y s None ds values (map y.read (field_types s 0)) ++ step by.Body q (value_count values) None [] ∷ []
  start_steps (d.T-Body q b f) (Run block) = block_steps y s None b block (y.read Nothing) f ++ step by.Body q 1 None [] ∷ []
  start_steps b start = []

  -- .. of a method's body
  abbrev pub body_steps : BodyDerivation y.Kind → Body → List (Step y.Kind)
  body_steps (d.T-Body q b f) body = block_steps y s (Some body.owner) b body.block (y.read body.signature.result) f ++ step by.Body q 1 None [] ∷ []
  body_steps (d.T-Body-Init q ds) body = []

  -- .. of bodies in their order
  abbrev pub bodies_steps : List (BodyDerivation y.Kind) → List Body → List (Step y.Kind)
  bodies_steps (b ∷ ds) (body ∷ bodies) = body_steps b body ++ bodies_steps ds bodies
  bodies_steps ds bodies = []

  -- of a scope: the start's, and then those of its bodies in their order
  abbrev pub scope_steps : ScopeDerivation y.Kind → List (Step y.Kind)
  scope_steps b = start_steps b.start s.start ++ bodies_steps b.bodies s.bodies
