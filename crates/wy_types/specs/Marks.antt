-- Tests of a program's marks: of the places of its expressions, its `if`s and its `val`s, and of those of its methods
-- and of the starts of its scopes. These are the places that its code takes. (docs/LANGUAGE.md, "Marks")
use Rattle.std.specs.Prelude.{◌≡◌, Bool, true, List, [], ◌∷◌}
use Rattle.wy_text.specs.declared.fault.Place.{Place}
use Rattle.wy_types.specs.Code.{Expr, Number, Quoted, Truth, Nothing, This, Name, Unary, Binary, TextCall, Call, New, Ascribe, Assign, Value, Plain, If, Values, none, more, Block, Last, Then, Val}
use Rattle.wy_types.specs.Program.{Program, Scope, Body, Start, Init, Run}

module _ (test : Place → Bool) where
  -- each mark of the form passes the test
  abbrev mutual
    pub ExprPasses : Expr → Type 0
    ExprPasses (Number place n) = test place ≡ true
    ExprPasses (Quoted place bytes) = test place ≡ true
    ExprPasses (Truth place b) = test place ≡ true
    ExprPasses (Nothing place) = test place ≡ true
    ExprPasses (This place) = test place ≡ true
    ExprPasses (Name place name) = test place ≡ true
    ExprPasses (Unary place op x) = (test place ≡ true) × ExprPasses x
    ExprPasses (Binary place op x y) = (test place ≡ true) × ExprPasses x × ExprPasses y
    ExprPasses (TextCall place op xs) = (test place ≡ true) × ValuesPass xs
    ExprPasses (Call place x name xs) = (test place ≡ true) × ExprPasses x × ValuesPass xs
    ExprPasses (New place l xs) = (test place ≡ true) × ValuesPass xs
    ExprPasses (Ascribe place x t) = (test place ≡ true) × ValuePasses x
    ExprPasses (Assign place name x) = (test place ≡ true) × ValuePasses x

    pub ValuePasses : Value → Type 0
    ValuePasses (Plain x) = ExprPasses x
    ValuePasses (If place on first second) = (test place ≡ true) × ExprPasses on × BlockPasses first × BlockPasses second

    pub ValuesPass : Values → Type 0
    ValuesPass none = Unit {0}
    ValuesPass (more x xs) = ValuePasses x × ValuesPass xs

    pub BlockPasses : Block → Type 0
    BlockPasses (Last x) = ValuePasses x
    BlockPasses (Then x b) = ValuePasses x × BlockPasses b
    BlockPasses (Val place n typ x b) = (test place ≡ true) × ValuePasses x × BlockPasses b

  abbrev pub StartPasses : Start → Type 0
  StartPasses (Init values) = ValuesPass values
  StartPasses (Run block) = BlockPasses block

  abbrev pub BodyPasses : Body → Type 0
  BodyPasses b = (test b.place ≡ true) × BlockPasses b.block

  abbrev pub BodiesPass : List Body → Type 0
  BodiesPass [] = Unit {0}
  BodiesPass (b ∷ bs) = BodyPasses b × BodiesPass bs

  abbrev pub ScopePasses : Scope → Type 0
  ScopePasses s = (test s.start_place ≡ true) × StartPasses s.start × BodiesPass s.bodies

  abbrev pub ScopesPass : List Scope → Type 0
  ScopesPass [] = Unit {0}
  ScopesPass (s ∷ ss) = ScopePasses s × ScopesPass ss

  abbrev pub ProgramPasses : Program → Type 0
  ProgramPasses p = ScopesPass p.scopes
