-- A test that each mark of a program passes is passed by the mark of each instruction of its code.
use Rattle.std.proofs.Common.{◌≡◌, ℕ, ◌+◌, pos, nat_lt, Bool, true, false, List, [], ◌∷◌, ◌++◌, length, refl}
use Rattle.wy_text.specs.declared.fault.Place.{Place}
use Rattle.wy_types.specs.declared.code.BinaryOperator.{BinaryOperator}
use Rattle.wy_types.specs.declared.code.BinaryOperator.TheVariants as binary
use Rattle.wy_types.specs.Code as code
use Rattle.wy_types.specs.Code.{Expr, Number, Quoted, Truth, Nothing, This, Name, Unary, Binary, TextCall, Call, New, Ascribe, Assign, Plain, If, Values, none, more, Block, Last, Then, Val}
use Rattle.wy_types.specs.Vals.{value_count}
use Rattle.wy_types.specs.Marks as marks
use Rattle.wy_types.specs.Marks.{ExprPasses, ValuePasses, ValuesPass, BlockPasses, StartPasses, ScopesPass}
use Rattle.wy_types.specs.Program.{Program, Scope, Body, Start, Init, Run}
use Rattle.wy_meaning.specs.Starts.{Starts}
use Rattle.wy_code.specs.declared.instruction.Constant.TheVariants as constant
use Rattle.wy_code.specs.declared.instruction.Instruction.TheVariants.{Push, Store, Set, Drop, Op, Jump, New as Make, Call as CallMethod, Return, Finish}
use Rattle.wy_code.specs.declared.instruction.Placed.{Placed}
use Rattle.wy_code.specs.declared.code.Body as b
use Rattle.wy_code.specs.Marks.{InstructionsPass, BodiesPass}
use Rattle.wy_lower.specs.Inside.{Inside, val_slot, field_value, assigned_value}
use Rattle.wy_lower.specs.Laws.{HasItsMarks}
use Rattle.wy_lower.specs.Listing.{placed, one, unary_code, text_code, mark_of, value_mark, sides, branches, followed, binary_listing, listing, value_listing, values_listing, block_listing, fields_listing}
use Rattle.wy_lower.specs.Lowering.{inside_start, inside_body, start_listing, bodies_code, scopes_bodies, lowered}
use Rattle.wy_lower.specs.Parts.{number_in}

module _ (test : Place → Bool) where
  ------------------------------------------------------------
  -- Lists of instructions

  -- at every address
  abbrev Everywhere : (ℕ → List Placed) → Type 0
  Everywhere f = (at : ℕ) → InstructionsPass test (f at)

  both_pass : (xs ys : List Placed) → InstructionsPass test xs → InstructionsPass test ys → InstructionsPass test (xs ++ ys)
  both_pass [] ys h g = g
  both_pass (x ∷ xs) ys h g = (h.0, both_pass xs ys h.1 g)

  ends_pass : (f : ℕ → List Placed) (zs : List Placed) → Everywhere f → InstructionsPass test zs → Everywhere (λ at. f at ++ zs)
  ends_pass f zs h g at = both_pass (f at) zs (h at) g

  followed_passes : (at : ℕ) (xs : List Placed) (rest : ℕ → List Placed) → InstructionsPass test xs → Everywhere rest → InstructionsPass test (followed at xs rest)
  followed_passes at xs rest h g = both_pass xs (rest (at + length xs)) h (g (at + length xs))

  sides_pass : (place : Place) (at : ℕ) (first second : ℕ → List Placed) → test place ≡ true → Everywhere first → Everywhere second → InstructionsPass test (sides place at first second)
  sides_pass place at first second p h g =
      let otherwise : ℕ = at + 1 + length (first (at + 1)) + 1 in
      let rest : List Placed = placed place (Jump (otherwise + length (second otherwise))) ∷ second otherwise in
      (p, both_pass (first (at + 1)) rest (h (at + 1)) (p, g otherwise))

  branches_pass : (place : Place) (at : ℕ) (xs : List Placed) (first second : ℕ → List Placed) → test place ≡ true → InstructionsPass test xs → Everywhere first → Everywhere second →
      InstructionsPass test (branches place at xs first second)
  branches_pass place at xs first second p h f g =
      both_pass xs (sides place (at + length xs) first second) h (sides_pass place (at + length xs) first second p f g)

  binary_passes : (place : Place) (o : BinaryOperator) (at : ℕ) (xs : List Placed) (right : ℕ → List Placed) → test place ≡ true → InstructionsPass test xs → Everywhere right →
      InstructionsPass test (binary_listing place o at xs right)
  binary_passes place binary.And at xs right p h g = branches_pass place at xs right (λ n. one place (Push (constant.Truth false))) p h g (λ n. (p, tt))
  binary_passes place binary.Or at xs right p h g = branches_pass place at xs (λ n. one place (Push (constant.Truth true))) right p h (λ n. (p, tt)) g
  binary_passes place o at xs right p h g = followed_passes at xs _ h (ends_pass right _ g (p, tt))

  expr_mark : (e : Expr) → ExprPasses test e → test (mark_of e) ≡ true
  expr_mark (Number place n) h = h
  expr_mark (Quoted place bytes) h = h
  expr_mark (Truth place t) h = h
  expr_mark (Nothing place) h = h
  expr_mark (This place) h = h
  expr_mark (Name place name) h = h
  expr_mark (Unary place o x) h = h.0
  expr_mark (Binary place o x y) h = h.0
  expr_mark (TextCall place o xs) h = h.0
  expr_mark (Call place x method xs) h = h.0
  expr_mark (New place l xs) h = h.0
  expr_mark (Ascribe place x t) h = h.0
  expr_mark (Assign place name x) h = h.0

  own_mark : (x : code.Value) → ValuePasses test x → test (value_mark x) ≡ true
  own_mark (Plain x) h = expr_mark x h
  own_mark (If place on first second) h = h.0

  ------------------------------------------------------------
  -- Forms

  module _ (i : Inside) where
    mutual
      unfolding listing

      expr_passes : (e : Expr) (at : ℕ) → ExprPasses test e → InstructionsPass test (listing i at e)
      expr_passes (Number place n) at h = (h, tt)
      expr_passes (Quoted place bytes) at h = (h, tt)
      expr_passes (Truth place t) at h = (h, tt)
      expr_passes (Nothing place) at h = (h, tt)
      expr_passes (This place) at h = (h, tt)
      expr_passes (Name place name) at h = (h, tt)
      expr_passes (Unary place o x) at h = both_pass (listing i at x) (one place (Op (unary_code o))) (expr_passes x at h.1) (h.0, tt)
      expr_passes (Binary place o x y) at h = binary_passes place o at (listing i at x) (λ n. listing i n y) h.0 (expr_passes x at h.1) (λ n. expr_passes y n h.2)
      expr_passes (TextCall place o xs) at h = both_pass (values_listing i at xs) (one place (Op (text_code o))) (values_pass xs at h.1) (h.0, tt)
      expr_passes (Call place x method xs) at h =
          let call : List Placed = one place (CallMethod (number_in i.methods method) (value_count xs)) in
          followed_passes at (listing i at x) (λ n. values_listing i n xs ++ call) (expr_passes x at h.1) (ends_pass (λ n. values_listing i n xs) call (λ n. values_pass xs n h.2) (h.0, tt))
      expr_passes (New place l xs) at h = both_pass (values_listing i at xs) (one place (Make l)) (values_pass xs at h.1) (h.0, tt)
      expr_passes (Ascribe place x t) at h = value_passes x at h.1
      expr_passes (Assign place name x) at h =
          both_pass (value_listing i at x) (placed place (Set (assigned_value i name)) ∷ one place (Push constant.Unit)) (value_passes x at h.1) (h.0, (h.0, tt))

      value_passes : (x : code.Value) (at : ℕ) → ValuePasses test x → InstructionsPass test (value_listing i at x)
      value_passes (Plain x) at h = expr_passes x at h
      value_passes (If place on first second) at h =
          branches_pass place at (listing i at on) (λ n. block_listing i n first) (λ n. block_listing i n second) h.0 (expr_passes on at h.1)
          (λ n. block_passes first n h.2) (λ n. block_passes second n h.3)

      values_pass : (xs : Values) (at : ℕ) → ValuesPass test xs → InstructionsPass test (values_listing i at xs)
      values_pass none at h = tt
      values_pass (more x xs) at h = followed_passes at (value_listing i at x) (λ n. values_listing i n xs) (value_passes x at h.0) (λ n. values_pass xs n h.1)

      block_passes : (x : Block) (at : ℕ) → BlockPasses test x → InstructionsPass test (block_listing i at x)
      block_passes (Last x) at h = value_passes x at h
      block_passes (Then x rest) at h =
          followed_passes at (value_listing i at x ++ one (value_mark x) Drop) (λ n. block_listing i n rest)
          (both_pass (value_listing i at x) (one (value_mark x) Drop) (value_passes x at h.0) (own_mark x h.0, tt)) (λ n. block_passes rest n h.1)
      block_passes (Val place n typ x rest) at h =
          followed_passes at (value_listing i at x ++ one place (Store (val_slot i n))) (λ n. block_listing i n rest)
          (both_pass (value_listing i at x) (one place (Store (val_slot i n))) (value_passes x at h.1) (h.0, tt)) (λ n. block_passes rest n h.2)

    fields_pass : (xs : Values) (at k : ℕ) → ValuesPass test xs → InstructionsPass test (fields_listing i at k xs)
    unfolding fields_listing
    fields_pass none at k h = tt
    fields_pass (more x xs) at k h =
        followed_passes at (value_listing i at x ++ one (value_mark x) (Set (field_value i k))) (λ n. fields_listing i n (k + 1) xs)
        (both_pass (value_listing i at x) (one (value_mark x) (Set (field_value i k))) (value_passes x at h.0) (own_mark x h.0, tt)) (λ n. fields_pass xs n (k + 1) h.1)

    start_passes : (s : Start) → StartPasses test s → InstructionsPass test (start_listing i s)
    start_passes (Init values) h = fields_pass values 0 0 h
    start_passes (Run block) h = block_passes block 0 h

  ------------------------------------------------------------
  -- Bodies

  bodies_append : (xs ys : List b.Body) → BodiesPass test xs → BodiesPass test ys → BodiesPass test (xs ++ ys)
  bodies_append [] ys h g = g
  bodies_append (x ∷ xs) ys h g = (h.0, bodies_append xs ys h.1 g)

  module _ (p : Program) (st : Starts) where
    methods_pass : (s : Scope) (k : ℕ) (bs : List Body) → marks.BodiesPass test bs → BodiesPass test (bodies_code p st s k bs)
    methods_pass s k [] h = tt
    methods_pass s k (x ∷ xs) h =
        let i : Inside = inside_body p st s k x in
        (both_pass (block_listing i 0 x.block) (one x.place Return) (block_passes i x.block 0 h.0.1) (h.0.0, tt), methods_pass s (k + 1) xs h.1)

    scopes_pass : (ss : List Scope) → ScopesPass test ss → BodiesPass test (scopes_bodies p st ss)
    scopes_pass [] h = tt
    scopes_pass (s ∷ ss) h =
        let i : Inside = inside_start p st s in (
          both_pass (start_listing i s.start) (one s.start_place Finish) (start_passes i s.start h.0.1) (h.0.0, tt),
          bodies_append (bodies_code p st s 0 s.bodies) (scopes_bodies p st ss) (methods_pass s 0 s.bodies h.0.2) (scopes_pass ss h.1),
        )

pub has_marks : (p : Program) (s : Starts) → HasItsMarks p s
unfolding lowered
has_marks p s test h = scopes_pass test p s p.scopes h

------------------------------------------------------------
-- Tried on `1 + 2`, with marks in the columns 1, 3 and 5

abbrev column : ℕ → Place
column n = record { file = 1; line = 1; column = n }

abbrev sum : Expr
sum = Binary (column 3) binary.Add (Number (column 1) (pos 1)) (Number (column 5) (pos 2))

all_within : ExprPasses (λ place. nat_lt place.column 6) sum
all_within = (refl, refl, refl)

one_outside : ExprPasses (λ place. nat_lt place.column 5) sum → ⊥
one_outside h = let e : false ≡ true = h.2 in absurd cc
