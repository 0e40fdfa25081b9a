-- What is collected of bodies before their code is made.
use Rattle.std.specs.Prelude.{◌≡◌, ℕ, false, List, [], ◌∷◌, ◌++◌}
use Rattle.wy_types.specs.declared.code.Stmt.{Stmt, Val, Do}
use Rattle.wy_types.specs.Code.{Expr, New}
use Rattle.wy_types.specs.Vals.{value_vals}
use Rattle.wy_types.specs.View.{value_of}
use Rattle.wy_lower.specs.declared.gathering.Found.{Found}
use Rattle.wy_lower.specs.declared.gathering.Names.{Names}
use Rattle.wy_lower.specs.Parts.{value_parts, texts_in, calls_in, each_once_after}

abbrev pub make_in : Expr → List ℕ
make_in (New place l xs) = l ∷ []
make_in _ = []

-- the literals of which expressions make objects
abbrev pub makes_in : List Expr → List ℕ
makes_in [] = []
makes_in (e ∷ es) = make_in e ++ makes_in es

abbrev pub statement_parts : Stmt → List Expr
statement_parts (Val place n typ x) = value_parts (value_of x)
statement_parts (Do x) = value_parts (value_of x)

abbrev pub statement_vals : Stmt → List ℕ
statement_vals (Val place n typ x) = n ∷ value_vals (value_of x)
statement_vals (Do x) = value_vals (value_of x)

-- these expressions, with these `val`s, were collected, if memory sufficed
pub record Gathers (before after : Names) (old new : Found) (es : List Expr) (ns : List ℕ) : Type 0 where
  pub enough : after.wanting ≡ false → before.wanting ≡ false
  pub texts : after.wanting ≡ false → after.texts.keys ≡ each_once_after before.texts.keys (texts_in es)
  pub methods : after.wanting ≡ false → after.methods.keys ≡ each_once_after before.methods.keys (calls_in es)
  pub makes : after.wanting ≡ false → new.makes.items ≡ old.makes.items ++ makes_in es
  pub vals : after.wanting ≡ false → new.vals.items ≡ old.vals.items ++ ns
