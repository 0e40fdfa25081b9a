-- The code of each form is that of its parts, in their order, and its own.
use Rattle.std.proofs.Common.{◌≡◌, ℕ, ℤ, suc, ◌+◌, ◌<◌, ◌≤◌, Bool, List, [], ◌∷◌, ◌++◌, length, drop, get_or, refl, sym, ap, ◌∙◌, subst, arith}
use Rattle.wy_text.specs.declared.fault.Place.{Place}
use Rattle.wy_types.specs.declared.types.TypeRef.{TypeRef}
use Rattle.wy_types.specs.declared.code.Binding.{Binding}
use Rattle.wy_types.specs.declared.code.UnaryOperator.{UnaryOperator}
use Rattle.wy_types.specs.declared.code.BinaryOperator.{BinaryOperator}
use Rattle.wy_types.specs.declared.code.BinaryOperator.TheVariants as binary
use Rattle.wy_types.specs.declared.code.TextOperator.{TextOperator}
use Rattle.wy_types.specs.declared.code.Value as v
use Rattle.wy_types.specs.declared.code.Stmt as s
use Rattle.wy_types.specs.Code as code
use Rattle.wy_types.specs.Code.{Expr, Number, Quoted, Truth, Nothing, This, Name, Unary, Binary, TextCall, Call, New, Ascribe, Assign, Plain, If, Values, Block, Last}
use Rattle.wy_types.specs.Vals.{value_count}
use Rattle.wy_types.specs.View.{value_of, values_of, stmt_block, stmts_block}
use Rattle.wy_code.specs.declared.instruction.Constant.TheVariants as constant
use Rattle.wy_code.specs.declared.instruction.Operator.{Operator}
use Rattle.wy_code.specs.declared.instruction.Instruction.{Instruction}
use Rattle.wy_code.specs.declared.instruction.Instruction.TheVariants.{Push, Load, Set, Op, New as Make, Call as CallMethod}
use Rattle.wy_code.specs.declared.instruction.Placed.{Placed}
use Rattle.wy_lower.specs.Collected.{Collected}
use Rattle.wy_lower.specs.Inside.{Inside, name_code, assigned_value, field_value}
use Rattle.wy_lower.specs.Parts.{number_in}
use Rattle.wy_lower.specs.Listing.{placed, one, unary_code, text_code, followed, sides, binary_listing, value_mark, listing, value_listing, values_listing, block_listing, fields_listing}
use Rattle.wy_lower.specs.Emits.{Emits, Finds, statement_listing, evaluation, right_listing}
use Rattle.wy_lower.proofs.EmitLists.{split_at, drop_all}
use Rattle.wy_lower.proofs.EmitSteps.{emits_then, emits_as, emits_found, Leaves, leaves_less, leaves_last, leaves_none, leaves_as}

pub count_is : (xs : List v.Value) → length xs ≡ value_count (values_of xs)
count_is [] = refl
count_is (x ∷ xs) = (let h = count_is xs in let z : suc (length xs) ≡ value_count (values_of xs) + 1 = omega arith in z)

right_is : (place : Place) (o : BinaryOperator) (at : ℕ) (x : List Placed) (y : ℕ → List Placed) → followed at x (λ at. right_listing place (evaluation o) at y) ≡ binary_listing place o at x y
right_is place binary.And at x y = refl
right_is place binary.Or at x y = refl
right_is place binary.Add at x y = refl
right_is place binary.Subtract at x y = refl
right_is place binary.Multiply at x y = refl
right_is place binary.Divide at x y = refl
right_is place binary.Remainder at x y = refl
right_is place binary.Join at x y = refl
right_is place binary.Less at x y = refl
right_is place binary.LessOrEqual at x y = refl
right_is place binary.Greater at x y = refl
right_is place binary.GreaterOrEqual at x y = refl
right_is place binary.Equal at x y = refl
right_is place binary.NotEqual at x y = refl

-- one instruction, which is known to be this one
pub emits_one : (a b : Collected Placed) (place : Place) (k n : Instruction) → k ≡ n → Emits a b (λ at. one place k) → Emits a b (λ at. one place n)
emits_one a b place k n same x = subst (λ (z : Instruction). Emits a b (λ at. one place z)) same x

module _ (i : Inside) where
  -- the code of an expression of this form
  pub emits_expr : (a b : Collected Placed) (e x : Expr) → e ≡ x → Emits a b (λ at. listing i at x) → Emits a b (λ at. listing i at e)
  emits_expr a b e x form h = subst (λ (z : Expr). Emits a b (λ at. listing i at z)) (sym form) h

  pub emits_number : (a b : Collected Placed) (e : Expr) (place : Place) (n k : ℤ) → e ≡ Number place n → k ≡ n → Emits a b (λ at. one place (Push (constant.Int k))) → Emits a b (λ at. listing i at e)
  unfolding listing
  emits_number a b e place n k form same h = emits_expr a b e (Number place n) form (emits_one a b place (Push (constant.Int k)) (Push (constant.Int n)) (ap (λ (z : ℤ). Push (constant.Int z)) same) h)

  pub emits_quoted : (a b : Collected Placed) (e : Expr) (place : Place) (bytes : List ℕ) → e ≡ Quoted place bytes → Emits a b (λ at. one place (Push (constant.Text (number_in i.texts bytes)))) → Emits a b (λ at. listing i at e)
  unfolding listing
  emits_quoted a b e place bytes form h = emits_expr a b e (Quoted place bytes) form h

  pub emits_truth : (a b : Collected Placed) (e : Expr) (place : Place) (t : Bool) → e ≡ Truth place t → Emits a b (λ at. one place (Push (constant.Truth t))) → Emits a b (λ at. listing i at e)
  unfolding listing
  emits_truth a b e place t form h = emits_expr a b e (Truth place t) form h

  pub emits_nothing : (a b : Collected Placed) (e : Expr) (place : Place) → e ≡ Nothing place → Emits a b (λ at. one place (Push constant.Unit)) → Emits a b (λ at. listing i at e)
  unfolding listing
  emits_nothing a b e place form h = emits_expr a b e (Nothing place) form h

  pub emits_this : (a b : Collected Placed) (e : Expr) (place : Place) → e ≡ This place → Emits a b (λ at. one place (Load 0)) → Emits a b (λ at. listing i at e)
  unfolding listing
  emits_this a b e place form h = emits_expr a b e (This place) form h

  pub emits_name : (a b : Collected Placed) (e : Expr) (place : Place) (name : Binding) → e ≡ Name place name → Emits a b (λ at. one place (name_code i name)) → Emits a b (λ at. listing i at e)
  unfolding listing
  emits_name a b e place name form h = emits_expr a b e (Name place name) form h

  pub emits_unary : (a b c : Collected Placed) (e : Expr) (place : Place) (o : UnaryOperator) (x u : Expr) (k : Operator) → e ≡ Unary place o x → u ≡ x → k ≡ unary_code o →
      Emits a b (λ at. listing i at u) → Emits b c (λ at. one place (Op k)) → Emits a c (λ at. listing i at e)
  unfolding listing
  emits_unary a b c e place o x u k form part own f g =
      emits_expr a c e (Unary place o x) form (emits_then a b c (λ at. listing i at x) (λ at. one place (Op (unary_code o))) (emits_expr a b x u (sym part) f) (emits_one b c place (Op k) (Op (unary_code o)) (ap (λ (z : Operator). Op z) own) g))

  pub emits_binary : (a b c : Collected Placed) (e : Expr) (place : Place) (o : BinaryOperator) (x y u w : Expr) → e ≡ Binary place o x y → u ≡ x → w ≡ y →
      Emits a b (λ at. listing i at u) → Emits b c (λ at. right_listing place (evaluation o) at (λ at. listing i at w)) → Emits a c (λ at. listing i at e)
  unfolding listing
  emits_binary a b c e place o x y u w form left right f g =
      emits_expr a c e (Binary place o x y) form (
      emits_as a c (λ at. followed at (listing i at x) (λ at. right_listing place (evaluation o) at (λ at. listing i at y))) (λ at. binary_listing place o at (listing i at x) (λ at. listing i at y))
      (λ at. right_is place o at (listing i at x) (λ at. listing i at y))
      (emits_then a b c (λ at. listing i at x) (λ at. right_listing place (evaluation o) at (λ at. listing i at y)) (emits_expr a b x u (sym left) f)
      (subst (λ (z : Expr). Emits b c (λ at. right_listing place (evaluation o) at (λ at. listing i at z))) right g))
      )

  emits_values : (a b : Collected Placed) (xs ys : Values) → xs ≡ ys → Emits a b (λ at. values_listing i at xs) → Emits a b (λ at. values_listing i at ys)
  emits_values a b xs ys same h = subst (λ (z : Values). Emits a b (λ at. values_listing i at z)) same h

  pub emits_text_call : (a b c : Collected Placed) (e : Expr) (place : Place) (o : TextOperator) (xs us : Values) (k : Operator) → e ≡ TextCall place o xs → us ≡ xs → k ≡ text_code o →
      Emits a b (λ at. values_listing i at us) → Emits b c (λ at. one place (Op k)) → Emits a c (λ at. listing i at e)
  unfolding listing
  emits_text_call a b c e place o xs us k form part own f g =
      emits_expr a c e (TextCall place o xs) form (emits_then a b c (λ at. values_listing i at xs) (λ at. one place (Op (text_code o))) (emits_values a b us xs part f) (emits_one b c place (Op k) (Op (text_code o)) (ap (λ (z : Operator). Op z) own) g))

  pub emits_call : (a b c d : Collected Placed) (e : Expr) (place : Place) (x u : Expr) (method : List ℕ) (xs us : Values) (n : ℕ) → e ≡ Call place x method xs → u ≡ x → us ≡ xs → n ≡ value_count xs →
      Emits a b (λ at. listing i at u) → Emits b c (λ at. values_listing i at us) → Emits c d (λ at. one place (CallMethod (number_in i.methods method) n)) → Emits a d (λ at. listing i at e)
  unfolding listing
  emits_call a b c d e place x u method xs us n form receiver arguments count f g h =
      let own = CallMethod (number_in i.methods method) (value_count xs) in
      emits_expr a d e (Call place x method xs) form (
      emits_then a b d (λ at. listing i at x) (λ at. values_listing i at xs ++ one place own) (emits_expr a b x u (sym receiver) f) (
      emits_then b c d (λ at. values_listing i at xs) (λ at. one place own) (emits_values b c us xs arguments g)
      (emits_one c d place (CallMethod (number_in i.methods method) n) own (ap (λ (z : ℕ). CallMethod (number_in i.methods method) z) count) h)
      )
      )

  pub emits_new : (a b c : Collected Placed) (e : Expr) (place : Place) (l : ℕ) (xs us : Values) → e ≡ New place l xs → us ≡ xs → Emits a b (λ at. values_listing i at us) → Emits b c (λ at. one place (Make l)) → Emits a c (λ at. listing i at e)
  unfolding listing
  emits_new a b c e place l xs us form part f g =
      emits_expr a c e (New place l xs) form (emits_then a b c (λ at. values_listing i at xs) (λ at. one place (Make l)) (emits_values a b us xs part f) g)

  emits_value : (a b : Collected Placed) (x y : code.Value) → x ≡ y → Emits a b (λ at. value_listing i at x) → Emits a b (λ at. value_listing i at y)
  emits_value a b x y same h = subst (λ (z : code.Value). Emits a b (λ at. value_listing i at z)) same h

  pub emits_ascribe : (a b : Collected Placed) (e : Expr) (place : Place) (x u : code.Value) (t : TypeRef) → e ≡ Ascribe place x t → u ≡ x → Emits a b (λ at. value_listing i at u) → Emits a b (λ at. listing i at e)
  unfolding listing
  emits_ascribe a b e place x u t form part f = emits_expr a b e (Ascribe place x t) form (emits_value a b u x part f)

  pub emits_assign : (a b c : Collected Placed) (e : Expr) (place : Place) (name : Binding) (x u : code.Value) → e ≡ Assign place name x → u ≡ x →
      Emits a b (λ at. value_listing i at u) → Emits b c (λ at. placed place (Set (assigned_value i name)) ∷ one place (Push constant.Unit)) → Emits a c (λ at. listing i at e)
  unfolding listing
  emits_assign a b c e place name x u form part f g =
      emits_expr a c e (Assign place name x) form (
      emits_then a b c (λ at. value_listing i at x) (λ at. placed place (Set (assigned_value i name)) ∷ one place (Push constant.Unit)) (emits_value a b u x part f) g
      )

  pub emits_plain : (a b : Collected Placed) (e : code.Value) (x : Expr) → e ≡ Plain x → Emits a b (λ at. listing i at x) → Emits a b (λ at. value_listing i at e)
  unfolding value_listing
  emits_plain a b e x form f = emits_value a b (Plain x) e (sym form) f

  pub emits_if : (a b c : Collected Placed) (e : code.Value) (place : Place) (test u : Expr) (first second : Block) → e ≡ If place test first second → u ≡ test →
      Emits a b (λ at. listing i at u) → Emits b c (λ at. sides place at (λ at. block_listing i at first) (λ at. block_listing i at second)) → Emits a c (λ at. value_listing i at e)
  unfolding value_listing
  emits_if a b c e place test u first second form part f g =
      emits_value a c (If place test first second) e (sym form) (
      emits_then a b c (λ at. listing i at test) (λ at. sides place at (λ at. block_listing i at first) (λ at. block_listing i at second)) (emits_expr a b test u (sym part) f) g
      )

  ------------------------------------------------------------
  -- Several values, and the statements of a block

  pub values_more : (start now next : Collected Placed) (xs : List v.Value) (k : ℕ) (x : v.Value) (all : ℕ → List Placed) → k < length xs → x ≡ get_or xs k x →
      Leaves start now (λ at. values_listing i at (values_of (drop k xs))) all → Emits now next (λ at. value_listing i at (value_of x)) → Leaves start next (λ at. values_listing i at (values_of (drop (k + 1) xs))) all
  unfolding values_listing
  values_more start now next xs k x all lt same l e =
      leaves_less start now next (λ at. value_listing i at (value_of x)) (λ at. values_listing i at (values_of (drop (k + 1) xs))) all
      (leaves_as start now (λ at. values_listing i at (values_of (drop k xs))) (λ at. values_listing i at (values_of (x ∷ drop (k + 1) xs))) all (λ at. ap (λ ys. values_listing i at (values_of ys)) (split_at xs k x lt same)) l) e

  pub values_end : (start now : Collected Placed) (xs : List v.Value) (k : ℕ) (all : ℕ → List Placed) → length xs ≤ k → Leaves start now (λ at. values_listing i at (values_of (drop k xs))) all → Emits start now all
  unfolding values_listing
  values_end start now xs k all le l =
      leaves_none start now all (leaves_as start now (λ at. values_listing i at (values_of (drop k xs))) (λ at. []) all (λ at. ap (λ ys. values_listing i at (values_of ys)) (drop_all xs k le)) l)

  statement_first : (x : s.Stmt) (rest : Block) (at : ℕ) → block_listing i at (stmt_block x rest) ≡ followed at (statement_listing i at x) (λ at. block_listing i at rest)
  unfolding block_listing
  statement_first (s.Val place n typ x) rest at = refl
  statement_first (s.Do x) rest at = refl

  pub block_more : (start now next : Collected Placed) (xs : List s.Stmt) (k : ℕ) (x : s.Stmt) (last : Block) (all : ℕ → List Placed) → k < length xs → x ≡ get_or xs k x →
      Leaves start now (λ at. block_listing i at (stmts_block (drop k xs) last)) all → Emits now next (λ at. statement_listing i at x) → Leaves start next (λ at. block_listing i at (stmts_block (drop (k + 1) xs) last)) all
  block_more start now next xs k x last all lt same l e =
      leaves_less start now next (λ at. statement_listing i at x) (λ at. block_listing i at (stmts_block (drop (k + 1) xs) last)) all
      (leaves_as start now (λ at. block_listing i at (stmts_block (drop k xs) last)) (λ at. followed at (statement_listing i at x) (λ at. block_listing i at (stmts_block (drop (k + 1) xs) last))) all
      (λ at. ap (λ ys. block_listing i at (stmts_block ys last)) (split_at xs k x lt same) ∙ statement_first x (stmts_block (drop (k + 1) xs) last) at) l) e

  pub block_end : (start now next : Collected Placed) (xs : List s.Stmt) (k : ℕ) (x u : code.Value) (all : ℕ → List Placed) → length xs ≤ k → u ≡ x →
      Leaves start now (λ at. block_listing i at (stmts_block (drop k xs) (Last x))) all → Emits now next (λ at. value_listing i at u) → Emits start next all
  unfolding block_listing
  block_end start now next xs k x u all le same l e =
      leaves_last start now next (λ at. value_listing i at x) all
      (leaves_as start now (λ at. block_listing i at (stmts_block (drop k xs) (Last x))) (λ at. value_listing i at x) all (λ at. ap (λ ys. block_listing i at (stmts_block ys (Last x))) (drop_all xs k le)) l)
      (emits_value now next u x same e)

  pub fields_more : (start now mid found next : Collected Placed) (xs : List v.Value) (k : ℕ) (x : v.Value) (m : ℕ) (place : Place) (all : ℕ → List Placed) → k < length xs → x ≡ get_or xs k x → place ≡ value_mark (value_of x) →
      Leaves start now (λ at. fields_listing i at k (values_of (drop k xs))) all → Emits now mid (λ at. value_listing i at (value_of x)) → Finds mid found m (field_value i k) → Emits found next (λ at. one place (Set m)) →
      Leaves start next (λ at. fields_listing i at (k + 1) (values_of (drop (k + 1) xs))) all
  unfolding fields_listing
  fields_more start now mid found next xs k x m place all lt same mark l e field f =
      let own : ℕ → List Placed = λ at. one (value_mark (value_of x)) (Set (field_value i k)) in
      let here : ℕ → List Placed = λ at. value_listing i at (value_of x) ++ own at in
      let set = subst (λ (p : Place). Emits mid next (λ at. one p (Set (field_value i k)))) mark (emits_found mid found next place (λ (z : ℕ). Set z) m (field_value i k) field f) in
      leaves_less start now next here (λ at. fields_listing i at (k + 1) (values_of (drop (k + 1) xs))) all
      (leaves_as start now (λ at. fields_listing i at k (values_of (drop k xs))) (λ at. fields_listing i at k (values_of (x ∷ drop (k + 1) xs))) all (λ at. ap (λ ys. fields_listing i at k (values_of ys)) (split_at xs k x lt same)) l)
      (emits_then now mid next (λ at. value_listing i at (value_of x)) own e set)

  pub fields_end : (start now : Collected Placed) (xs : List v.Value) (k : ℕ) (all : ℕ → List Placed) → length xs ≤ k → Leaves start now (λ at. fields_listing i at k (values_of (drop k xs))) all → Emits start now all
  unfolding fields_listing
  fields_end start now xs k all le l =
      leaves_none start now all (leaves_as start now (λ at. fields_listing i at k (values_of (drop k xs))) (λ at. []) all (λ at. ap (λ ys. fields_listing i at k (values_of ys)) (drop_all xs k le)) l)
