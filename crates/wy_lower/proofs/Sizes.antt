-- How long the code of a form is does not depend on the address at which it begins.
use Rattle.std.proofs.Common.{◌≡◌, ℕ, ◌+◌, true, false, List, ◌∷◌, ◌++◌, length, length-append, refl, arith}
use Rattle.wy_text.specs.declared.fault.Place.{Place}
use Rattle.wy_types.specs.declared.code.BinaryOperator.{BinaryOperator}
use Rattle.wy_types.specs.declared.code.BinaryOperator.TheVariants as binary
use Rattle.wy_types.specs.Code as code
use Rattle.wy_types.specs.Code.{Expr, Number, Quoted, Truth, Nothing, This, Name, Unary, Binary, TextCall, Call, New, Ascribe, Assign, Plain, If, Values, none, more, Block, Last, Then, Val}
use Rattle.wy_code.specs.declared.instruction.Constant.TheVariants as constant
use Rattle.wy_code.specs.declared.instruction.Instruction.TheVariants.{Push, Jump}
use Rattle.wy_code.specs.declared.instruction.Placed.{Placed}
use Rattle.wy_lower.specs.Inside.{Inside}
use Rattle.wy_lower.specs.Listing.{placed, one, followed, sides, branches, binary_listing, listing, value_listing, values_listing, block_listing, fields_listing}

-- the same length at every address
SameLength : (ℕ → List Placed) → Type 0
SameLength f = (a b : ℕ) → length (f a) ≡ length (f b)

same : (xs ys : List Placed) (zs : List Placed) → length xs ≡ length ys → length (xs ++ zs) ≡ length (ys ++ zs)
same xs ys zs e = let x = length-append xs zs in let y = length-append ys zs in omega arith

-- what follows a list of the same length
follows : (xs ys : List Placed) (rest : ℕ → List Placed) (a b : ℕ) → length xs ≡ length ys → SameLength rest → length (followed a xs rest) ≡ length (followed b ys rest)
unfolding SameLength
follows xs ys rest a b e h =
    let x = length-append xs (rest (a + length xs)) in
    let y = length-append ys (rest (b + length ys)) in
    let z = h (a + length xs) (b + length ys) in
    omega arith

two_sides : (place : Place) (first second : ℕ → List Placed) (a b : ℕ) → SameLength first → SameLength second → length (sides place a first second) ≡ length (sides place b first second)
unfolding SameLength
two_sides place first second a b h k =
    let x = h (a + 1) (b + 1) in
    let y = k (a + 1 + length (first (a + 1)) + 1) (b + 1 + length (first (b + 1)) + 1) in
    let v = length-append (first (a + 1)) (placed place (Jump (a + 1 + length (first (a + 1)) + 1 + length (second (a + 1 + length (first (a + 1)) + 1)))) ∷ second (a + 1 + length (first (a + 1)) + 1)) in
    let w = length-append (first (b + 1)) (placed place (Jump (b + 1 + length (first (b + 1)) + 1 + length (second (b + 1 + length (first (b + 1)) + 1)))) ∷ second (b + 1 + length (first (b + 1)) + 1)) in
    omega arith

branching : (place : Place) (xs ys : List Placed) (first second : ℕ → List Placed) (a b : ℕ) → length xs ≡ length ys → SameLength first → SameLength second → length (branches place a xs first second) ≡ length (branches place b ys first second)
branching place xs ys first second a b e h k =
    let x = length-append xs (sides place (a + length xs) first second) in
    let y = length-append ys (sides place (b + length ys) first second) in
    let z = two_sides place first second (a + length xs) (b + length ys) h k in
    omega arith

one_length : (xs : List Placed) → SameLength (λ at. xs)
unfolding SameLength
one_length xs a b = refl

ends_with : (f : ℕ → List Placed) (zs : List Placed) → SameLength f → SameLength (λ at. f at ++ zs)
unfolding SameLength
ends_with f zs h a b = same (f a) (f b) zs (h a b)

binary_length : (place : Place) (o : BinaryOperator) (xs ys : List Placed) (right : ℕ → List Placed) (a b : ℕ) → length xs ≡ length ys → SameLength right → length (binary_listing place o a xs right) ≡ length (binary_listing place o b ys right)
binary_length place binary.And xs ys right a b e h = branching place xs ys right (λ at. one place (Push (constant.Truth false))) a b e h (one_length (one place (Push (constant.Truth false))))
binary_length place binary.Or xs ys right a b e h = branching place xs ys (λ at. one place (Push (constant.Truth true))) right a b e (one_length (one place (Push (constant.Truth true)))) h
binary_length place o xs ys right a b e h = follows xs ys _ a b e (ends_with right _ h)

module _ (i : Inside) where
  mutual
    unfolding listing SameLength

    pub expr_length : (e : Expr) (a b : ℕ) → length (listing i a e) ≡ length (listing i b e)
    expr_length (Number place n) a b = refl
    expr_length (Quoted place bytes) a b = refl
    expr_length (Truth place t) a b = refl
    expr_length (Nothing place) a b = refl
    expr_length (This place) a b = refl
    expr_length (Name place name) a b = refl
    expr_length (Unary place o x) a b = same _ _ _ (expr_length x a b)
    expr_length (Binary place o x y) a b = binary_length place o _ _ (λ at. listing i at y) a b (expr_length x a b) (λ c d. expr_length y c d)
    expr_length (TextCall place o xs) a b = same _ _ _ (values_length xs a b)
    expr_length (Call place x method xs) a b = follows _ _ _ a b (expr_length x a b) (ends_with _ _ (λ c d. values_length xs c d))
    expr_length (New place l xs) a b = same _ _ _ (values_length xs a b)
    expr_length (Ascribe place x t) a b = value_length x a b
    expr_length (Assign place name x) a b = same _ _ _ (value_length x a b)

    pub value_length : (x : code.Value) (a b : ℕ) → length (value_listing i a x) ≡ length (value_listing i b x)
    value_length (Plain x) a b = expr_length x a b
    value_length (If place test first second) a b =
        branching place _ _ _ _ a b (expr_length test a b) (λ c d. block_length first c d) (λ c d. block_length second c d)

    pub values_length : (xs : Values) (a b : ℕ) → length (values_listing i a xs) ≡ length (values_listing i b xs)
    values_length none a b = refl
    values_length (more x xs) a b = follows _ _ _ a b (value_length x a b) (λ c d. values_length xs c d)

    pub block_length : (x : Block) (a b : ℕ) → length (block_listing i a x) ≡ length (block_listing i b x)
    block_length (Last x) a b = value_length x a b
    block_length (Then x rest) a b = follows _ _ _ a b (same _ _ _ (value_length x a b)) (λ c d. block_length rest c d)
    block_length (Val place n typ x rest) a b = follows _ _ _ a b (same _ _ _ (value_length x a b)) (λ c d. block_length rest c d)

  pub fields_length : (xs : Values) (k a b : ℕ) → length (fields_listing i a k xs) ≡ length (fields_listing i b k xs)
  unfolding fields_listing SameLength
  fields_length none k a b = refl
  fields_length (more x xs) k a b = follows _ _ _ a b (same _ _ _ (value_length x a b)) (λ c d. fields_length xs (k + 1) c d)
