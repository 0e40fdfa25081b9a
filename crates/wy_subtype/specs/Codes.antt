-- A code of the bodies of a program, by which a proof tells programs apart: each part as a tree of labels.
use Rattle.std.specs.Prelude.{◌≡◌, ℕ, ℤ, Bool, List, Option, refl}
use Rattle.std.proofs.Common.{ap, sym, subst}
use Rattle.std.specs.Coded.{Coded, code_by}
use base.Stored.{Gv, gnil, gcons}
use Rattle.wy_text.specs.declared.fault.Place.{Place}
use Rattle.wy_types.specs.declared.code.Binding.{Binding}
use Rattle.wy_types.specs.declared.code.UnaryOperator.{UnaryOperator}
use Rattle.wy_types.specs.declared.code.BinaryOperator.{BinaryOperator}
use Rattle.wy_types.specs.declared.code.TextOperator.{TextOperator}
use Rattle.wy_types.specs.declared.types.TypeRef.{TypeRef}
use Rattle.wy_types.specs.Code.{Expr, Value, Values, Block, Number, Quoted, Truth, Nothing, This, Name, Unary, Binary, TextCall, Call, New, Ascribe, Assign, Plain, If, none, more, Last, Then, Val}

-- a form with its parts but for those that hold forms themselves
pub data Label : Type 0 where
  number : Place → ℤ → Label
  quoted : Place → List ℕ → Label
  truth : Place → Bool → Label
  nothing : Place → Label
  this : Place → Label
  name : Place → Binding → Label
  unary : Place → UnaryOperator → Label
  binary : Place → BinaryOperator → Label
  text_call : Place → TextOperator → Label
  call : Place → List ℕ → Label
  new : Place → ℕ → Label
  ascribe : Place → TypeRef → Label
  assign : Place → Binding → Label
  choice : Place → Label
  val : Place → ℕ → Option TypeRef → Label
  last : Label
  other : Label

pub data Tree : Type 0 where
  leaf : Tree
  fork : Label → Tree → Tree → Tree

------------------------------------------------------------
-- Forms as trees, and back

abbrev mutual
  pub expr_tree : Expr → Tree
  expr_tree (Number p n) = fork (number p n) leaf leaf
  expr_tree (Quoted p bytes) = fork (quoted p bytes) leaf leaf
  expr_tree (Truth p b) = fork (truth p b) leaf leaf
  expr_tree (Nothing p) = fork (nothing p) leaf leaf
  expr_tree (This p) = fork (this p) leaf leaf
  expr_tree (Name p b) = fork (name p b) leaf leaf
  expr_tree (Unary p o x) = fork (unary p o) (expr_tree x) leaf
  expr_tree (Binary p o x y) = fork (binary p o) (expr_tree x) (expr_tree y)
  expr_tree (TextCall p o xs) = fork (text_call p o) (values_tree xs) leaf
  expr_tree (Call p x n xs) = fork (call p n) (expr_tree x) (values_tree xs)
  expr_tree (New p l xs) = fork (new p l) (values_tree xs) leaf
  expr_tree (Ascribe p x t) = fork (ascribe p t) (value_tree x) leaf
  expr_tree (Assign p b x) = fork (assign p b) (value_tree x) leaf

  pub value_tree : Value → Tree
  value_tree (Plain x) = fork other (expr_tree x) leaf
  value_tree (If p x b c) = fork (choice p) (expr_tree x) (fork other (block_tree b) (block_tree c))

  pub values_tree : Values → Tree
  values_tree none = leaf
  values_tree (more x xs) = fork other (value_tree x) (values_tree xs)

  pub block_tree : Block → Tree
  block_tree (Last x) = fork last (value_tree x) leaf
  block_tree (Then x b) = fork other (value_tree x) (block_tree b)
  block_tree (Val p n t x b) = fork (val p n t) (value_tree x) (block_tree b)

abbrev nowhere : Expr
nowhere = Nothing (record { file = 0; line = 0; column = 0 })

abbrev mutual
  pub tree_expr : Tree → Expr
  tree_expr (fork (number p n) a b) = Number p n
  tree_expr (fork (quoted p bytes) a b) = Quoted p bytes
  tree_expr (fork (truth p t) a b) = Truth p t
  tree_expr (fork (nothing p) a b) = Nothing p
  tree_expr (fork (this p) a b) = This p
  tree_expr (fork (name p n) a b) = Name p n
  tree_expr (fork (unary p o) a b) = Unary p o (tree_expr a)
  tree_expr (fork (binary p o) a b) = Binary p o (tree_expr a) (tree_expr b)
  tree_expr (fork (text_call p o) a b) = TextCall p o (tree_values a)
  tree_expr (fork (call p n) a b) = Call p (tree_expr a) n (tree_values b)
  tree_expr (fork (new p l) a b) = New p l (tree_values a)
  tree_expr (fork (ascribe p t) a b) = Ascribe p (tree_value a) t
  tree_expr (fork (assign p n) a b) = Assign p n (tree_value a)
  tree_expr _ = nowhere

  pub tree_value : Tree → Value
  tree_value leaf = Plain nowhere
  tree_value (fork (choice p) a leaf) = Plain nowhere
  tree_value (fork (choice p) a (fork l b c)) = If p (tree_expr a) (tree_block b) (tree_block c)
  tree_value (fork _ a b) = Plain (tree_expr a)

  pub tree_values : Tree → Values
  tree_values leaf = none
  tree_values (fork l a b) = more (tree_value a) (tree_values b)

  pub tree_block : Tree → Block
  tree_block leaf = Last (Plain nowhere)
  tree_block (fork (val p n t) a b) = Val p n t (tree_value a) (tree_block b)
  tree_block (fork last a b) = Last (tree_value a)
  tree_block (fork _ a b) = Then (tree_value a) (tree_block b)

mutual
  expr_back : (x : Expr) → tree_expr (expr_tree x) ≡ x
  expr_back (Number p n) = refl
  expr_back (Quoted p bytes) = refl
  expr_back (Truth p b) = refl
  expr_back (Nothing p) = refl
  expr_back (This p) = refl
  expr_back (Name p b) = refl
  expr_back (Unary p o x) = λ i. Unary p o (expr_back x i)
  expr_back (Binary p o x y) = λ i. Binary p o (expr_back x i) (expr_back y i)
  expr_back (TextCall p o xs) = λ i. TextCall p o (values_back xs i)
  expr_back (Call p x n xs) = λ i. Call p (expr_back x i) n (values_back xs i)
  expr_back (New p l xs) = λ i. New p l (values_back xs i)
  expr_back (Ascribe p x t) = λ i. Ascribe p (value_back x i) t
  expr_back (Assign p b x) = λ i. Assign p b (value_back x i)

  value_back : (x : Value) → tree_value (value_tree x) ≡ x
  value_back (Plain x) = λ i. Plain (expr_back x i)
  value_back (If p x b c) = λ i. If p (expr_back x i) (block_back b i) (block_back c i)

  pub values_back : (xs : Values) → tree_values (values_tree xs) ≡ xs
  values_back none = refl
  values_back (more x xs) = λ i. more (value_back x i) (values_back xs i)

  pub block_back : (b : Block) → tree_block (block_tree b) ≡ b
  block_back (Last x) = λ i. Last (value_back x i)
  block_back (Then x b) = λ i. Then (value_back x i) (block_back b i)
  block_back (Val p n t x b) = λ i. Val p n t (value_back x i) (block_back b i)

------------------------------------------------------------
-- Codes

module _ (l : Coded Label) where
  abbrev pub tree_gv : Tree → Gv
  tree_gv leaf = gnil
  tree_gv (fork x a b) = gcons (l.code x) (gcons (tree_gv a) (tree_gv b))

  abbrev first : Gv → Gv
  first (gcons a b) = a
  first _ = gnil

  abbrev second : Gv → Gv
  second (gcons a b) = b
  second _ = gnil

  abbrev IsPair : Gv → Type 0
  IsPair (gcons a b) = Unit {0}
  IsPair _ = ⊥

  pub tree_inj : (x y : Tree) → tree_gv x ≡ tree_gv y → x ≡ y
  tree_inj leaf leaf e = refl
  tree_inj leaf (fork y c d) e = absurd (subst IsPair (sym e) tt)
  tree_inj (fork x a b) leaf e = absurd (subst IsPair e tt)
  tree_inj (fork x a b) (fork y c d) e =
      λ i. fork (l.inj x y (ap first e) i) (tree_inj a c (ap (λ g. first (second g)) e) i) (tree_inj b d (ap (λ g. second (second g)) e) i)

  abbrev pub tree_code : Coded Tree
  tree_code = record { code = tree_gv; inj = tree_inj }

  abbrev pub values_code : Coded Values
  values_code = code_by Tree tree_code values_tree tree_values values_back

  abbrev pub block_code : Coded Block
  block_code = code_by Tree tree_code block_tree tree_block block_back
