-- Derivations as data: the rules that were used, each with its place, the types and effects that it uses, and the derivations
-- below it (docs/LANGUAGE.md, "Typing of bodies").
use Rattle.std.specs.Prelude.{ℕ, List, []}
use Rattle.wy_text.specs.declared.fault.Place.{Place}
use Rattle.wy_effects.specs.EffSet.{union}
use Rattle.wy_types.specs.Code.{Expr, Number, Quoted, Truth, Nothing, This, Name, Unary, Binary, TextCall, Call, New, Ascribe, Assign, Value, Plain, If, Block, Last, Then, Val}
use Rattle.wy_rules.specs.Operators.{Row}

mutual
  -- of a value: a derivation below stands with the type and effect that its rule leaves open
  pub data Derivation (K : Type 0) : Type 0 where
    T-Lit : Place → Derivation K
    T-Var : Place → Derivation K
    T-This : Place → Derivation K
    T-Call : Place → (receiver : Derivation K) (typ : K) (effect : List ℕ) (arguments : Derivations K) → Derivation K
    T-New : Place → (initialisers : Derivations K) → Derivation K
    T-If : Place → (test : Derivation K) (effect : List ℕ) (first : BlockDerivation K) (effect1 : List ℕ) (second : BlockDerivation K) (effect2 : List ℕ) → Derivation K
    T-Set : Place → (value : Derivation K) → Derivation K
    T-Op : Place → Row → (operands : Derivations K) → Derivation K
    T-Asc : Place → (below : Derivation K) → Derivation K
    T-Sub : Place → (below : Derivation K) (typ : K) (effect : List ℕ) → Derivation K

  -- of values in their order, each with its effect
  pub data Derivations (K : Type 0) : Type 0 where
    none : Derivations K
    more : Derivation K → (effect : List ℕ) → Derivations K → Derivations K

  -- of a block: its last value, or a statement and the rest
  pub data BlockDerivation (K : Type 0) : Type 0 where
    Result : Derivation K → BlockDerivation K
    T-Seq : Place → (statement : Derivation K) (effect : List ℕ) (rest : BlockDerivation K) (effect1 : List ℕ) → BlockDerivation K
    T-Val : Place → (initialiser : Derivation K) (typ : K) (effect : List ℕ) (rest : BlockDerivation K) (effect1 : List ℕ) → BlockDerivation K
    Block-Sub : Place → (below : BlockDerivation K) (typ : K) (effect : List ℕ) → BlockDerivation K

-- of a body: a block, or the initialisers of a module's fields, with the effect that comes of it
pub data BodyDerivation (K : Type 0) : Type 0 where
  T-Body : Place → BlockDerivation K → (effect : List ℕ) → BodyDerivation K
  T-Body-Init : Place → Derivations K → BodyDerivation K

-- of all bodies of a scope, with one type for each of its `val`s, by their numbers
pub record ScopeDerivation (K : Type 0) : Type 0 where
  pub locals : List K
  pub start : BodyDerivation K
  pub bodies : List (BodyDerivation K)

-- the effects of values that are evaluated one after the other
abbrev pub effects_of : {K : Type 0} → Derivations K → List ℕ
effects_of none = []
effects_of (more d e ds) = union e (effects_of ds)

-- the mark of a value and of a block
abbrev pub expr_mark : Expr → Place
expr_mark (Number place n) = place
expr_mark (Quoted place bytes) = place
expr_mark (Truth place b) = place
expr_mark (Nothing place) = place
expr_mark (This place) = place
expr_mark (Name place name) = place
expr_mark (Unary place op x) = place
expr_mark (Binary place op x y) = place
expr_mark (TextCall place op xs) = place
expr_mark (Call place x name xs) = place
expr_mark (New place l xs) = place
expr_mark (Ascribe place x t) = place
expr_mark (Assign place name x) = place

abbrev pub mark : Value → Place
mark (Plain x) = expr_mark x
mark (If place test first second) = place

abbrev pub block_mark : Block → Place
block_mark (Last x) = mark x
block_mark (Then x b) = mark x
block_mark (Val place n typ x b) = place
