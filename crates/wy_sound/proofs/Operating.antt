-- Operators on operands of their types give what their rows say, or trap.
use Rattle.std.proofs.Common.{ℕ, ℤ, pos, negsuc, Bool, true, false, not, ◌&&◌, List, [], ◌∷◌, ◌++◌, length, map, inl, inr, refl, sym, subst, Option, Some, None, nat_le, nat_lt, ◌-ℤ◌, ◌+ℤ◌, ◌*ℤ◌, neg_ℤ, ◌+◌, int_lt, int_le, int_div, int_rem}
use Rattle.std.specs.Prelude.{slice_get, if◌then◌else◌}
use Rattle.std.specs.Fmt.{signed_decimal}
use Rattle.wy_text.specs.Members.{In}
use Rattle.wy_text.specs.declared.fault.Place.{Place}
use Rattle.wy_types.specs.declared.types.TypeRef.TheVariants as of
use Rattle.wy_types.specs.declared.code.UnaryOperator.{UnaryOperator}
use Rattle.wy_types.specs.declared.code.UnaryOperator.TheVariants as unary
use Rattle.wy_types.specs.declared.code.BinaryOperator.{BinaryOperator}
use Rattle.wy_types.specs.declared.code.BinaryOperator.TheVariants as binary
use Rattle.wy_types.specs.declared.code.TextOperator.{TextOperator}
use Rattle.wy_types.specs.declared.code.TextOperator.TheVariants as text
use Rattle.wy_types.specs.Program.{Program}
use Rattle.wy_types.specs.Core.{IsCore}
use Rattle.wy_device.specs.Editions.{current}
use Rattle.wy_device.specs.Operators.{Operator, Add, Subtract, Multiply, Divide, Remainder, Join, Less, LessOrEqual, Greater, GreaterOrEqual, Computed, GivesNumber, GivesTruth, Builds, Traps, Misfits, operate, operate_within, is_int, within_range, is_zero, quotient_of, remainder_of, joined, part_of, byte_found, byte_at, one_byte, compared, on_numbers, on_two, on_number, on_truth, on_text, on_texts, on_text_and_number, on_text_and_numbers}
use Rattle.wy_device.specs.RunEnds.{Trap}
use Rattle.wy_device.specs.Traps.{text_limit, most_texts, Crowded}
use Rattle.wy_rules.specs.GroundTypes.{GroundType, Int as Ints, Bool as Truths, Text as Texts}
use Rattle.wy_rules.specs.Operators.{Row, two, unary_rows, binary_rows, text_rows}
use Rattle.wy_meaning.specs.Values.{Value, Int as Number, Truth, Text, Thing, World, replied, stopped, text_built}
use Rattle.wy_meaning.specs.Operating.{unary_operator, binary_operator, text_operator, operand, computed, operated}
use Rattle.wy_sound.proofs.Below.{Below}
use Rattle.wy_sound.specs.TypedHeaps.{Placed, kind_at, AllHave, WellHeap}
use Rattle.wy_sound.proofs.BaseTypes.{number_kind, truth_kind, text_kind, number_at, truth_at, text_at}
use Rattle.wy_sound.proofs.Results.{Answers, Valued, same_answers, trap_answers}

-- the operators that evaluate both sides
abbrev pub IsStrict : BinaryOperator → Type 0
IsStrict binary.And = ⊥
IsStrict binary.Or = ⊥
IsStrict o = Unit {0}

module _ (p : Program) (core : IsCore p) (now x : ℕ) (pl : Placed p x) where
  -- what is computed is of the type, or a trap
  abbrev pub Fits : GroundType → Computed → Type 0
  Fits k (GivesNumber n) = Below p Ints k
  Fits k (GivesTruth b) = Below p Truths k
  Fits k (Builds bytes) = Below p Texts k
  Fits k (Traps kind) = Unit {0}
  Fits k Misfits = ⊥

  abbrev int : GroundType
  int = kind_at p x pl of.Int

  abbrev truth : GroundType
  truth = kind_at p x pl of.Bool

  abbrev texts : GroundType
  texts = kind_at p x pl of.Text

  if_fits : (k : GroundType) (c : Bool) (a b : Computed) → Fits k a → Fits k b → Fits k (if c then a else b)
  if_fits k true a b f g = f
  if_fits k false a b f g = g

  range_fits : (n : ℤ) → Fits int (within_range n)
  range_fits n = if_fits int (is_int n) (GivesNumber n) (Traps _) (number_kind p x pl) tt

  quotient_fits : (m n : ℤ) → Fits int (quotient_of m n)
  quotient_fits m n = if_fits int (is_zero n) (Traps _) (within_range (int_div m n)) tt (range_fits (int_div m n))

  remainder_fits : (m n : ℤ) → Fits int (remainder_of m n)
  remainder_fits m n = if_fits int (is_zero n) (Traps _) (GivesNumber (int_rem m n)) tt (number_kind p x pl)

  joined_fits : (s t : List ℕ) → Fits texts (joined text_limit s t)
  joined_fits s t = if_fits texts (nat_le (length (s ++ t)) text_limit) (Builds (s ++ t)) (Traps _) (text_kind p x pl) tt

  part_fits : (s : List ℕ) (a b : ℤ) → Fits texts (part_of s a b)
  part_fits s (pos a) (pos b) = if_fits texts (nat_le a b && nat_le b (length s)) (Builds _) (Traps _) (text_kind p x pl) tt
  part_fits s (pos a) (negsuc b) = tt
  part_fits s (negsuc a) b = tt

  found_fits : (o : Option ℕ) → Fits int (byte_found o)
  found_fits None = tt
  found_fits (Some b) = number_kind p x pl

  byte_at_fits : (s : List ℕ) (i : ℤ) → Fits int (byte_at s i)
  byte_at_fits s (pos i) = found_fits (slice_get s i)
  byte_at_fits s (negsuc i) = tt

  one_byte_fits : (b : ℤ) → Fits texts (one_byte b)
  one_byte_fits (pos b) = if_fits texts (nat_le b 255) (Builds (b ∷ [])) (Traps _) (text_kind p x pl) tt
  one_byte_fits (negsuc b) = tt

  ------------------------------------------------------------
  -- Operands of their types

  module _ (h : List Thing) where
    abbrev Have : List Value → List GroundType → Type 0
    Have vs ks = AllHave p now h vs ks

    numbers_fit : (k : GroundType) (g : ℤ → ℤ → Computed) → ((m n : ℤ) → Fits k (g m n)) → (v u : Value) → Have (v ∷ u ∷ []) (int ∷ int ∷ []) →
        Fits k (on_numbers g (map operand (v ∷ u ∷ [])))
    numbers_fit k g f v u q =
        let m = number_at p core now x pl h v q.0 in
        let n = number_at p core now x pl h u q.1.0 in
        subst (λ v. Fits k (on_numbers g (map operand (v ∷ u ∷ [])))) (sym m.1)
        (subst (λ u. Fits k (on_numbers g (map operand (Number m.0 ∷ u ∷ [])))) (sym n.1) (f m.0 n.0))

    texts_fit : (k : GroundType) (g : List ℕ → List ℕ → Computed) → ((m n : List ℕ) → Fits k (g m n)) → (v u : Value) →
        Have (v ∷ u ∷ []) (texts ∷ texts ∷ []) → Fits k (on_texts g (map operand (v ∷ u ∷ [])))
    texts_fit k g f v u q =
        let m = text_at p core now x pl h v q.0 in
        let n = text_at p core now x pl h u q.1.0 in
        subst (λ v. Fits k (on_texts g (map operand (v ∷ u ∷ [])))) (sym m.1)
        (subst (λ u. Fits k (on_texts g (map operand (Text m.0 ∷ u ∷ [])))) (sym n.1) (f m.0 n.0))

    same_numbers_fit : (as_asked : Bool → Bool) (v u : Value) → Have (v ∷ u ∷ []) (int ∷ int ∷ []) →
        Fits truth (on_two (compared as_asked) (map operand (v ∷ u ∷ [])))
    same_numbers_fit as_asked v u q =
        let m = number_at p core now x pl h v q.0 in
        let n = number_at p core now x pl h u q.1.0 in
        subst (λ v. Fits truth (on_two (compared as_asked) (map operand (v ∷ u ∷ [])))) (sym m.1)
        (subst (λ u. Fits truth (on_two (compared as_asked) (map operand (Number m.0 ∷ u ∷ [])))) (sym n.1) (truth_kind p x pl))

    same_truths_fit : (as_asked : Bool → Bool) (v u : Value) → Have (v ∷ u ∷ []) (truth ∷ truth ∷ []) →
        Fits truth (on_two (compared as_asked) (map operand (v ∷ u ∷ [])))
    same_truths_fit as_asked v u q =
        let m = truth_at p core now x pl h v q.0 in
        let n = truth_at p core now x pl h u q.1.0 in
        subst (λ v. Fits truth (on_two (compared as_asked) (map operand (v ∷ u ∷ [])))) (sym m.1)
        (subst (λ u. Fits truth (on_two (compared as_asked) (map operand (Truth m.0 ∷ u ∷ [])))) (sym n.1) (truth_kind p x pl))

    same_texts_fit : (as_asked : Bool → Bool) (v u : Value) → Have (v ∷ u ∷ []) (texts ∷ texts ∷ []) →
        Fits truth (on_two (compared as_asked) (map operand (v ∷ u ∷ [])))
    same_texts_fit as_asked v u q =
        let m = text_at p core now x pl h v q.0 in
        let n = text_at p core now x pl h u q.1.0 in
        subst (λ v. Fits truth (on_two (compared as_asked) (map operand (v ∷ u ∷ [])))) (sym m.1)
        (subst (λ u. Fits truth (on_two (compared as_asked) (map operand (Text m.0 ∷ u ∷ [])))) (sym n.1) (truth_kind p x pl))

    number_fits : (k : GroundType) (g : ℤ → Computed) → ((m : ℤ) → Fits k (g m)) → (vs : List Value) → Have vs (int ∷ []) →
        Fits k (on_number g (map operand vs))
    number_fits k g f (v ∷ []) q = let m =
        number_at p core now x pl h v q.0 in subst (λ v. Fits k (on_number g (map operand (v ∷ [])))) (sym m.1) (f m.0)
    number_fits k g f [] q = absurd q
    number_fits k g f (v ∷ u ∷ vs) q = absurd q.1

    truth_fits : (k : GroundType) (g : Bool → Computed) → ((b : Bool) → Fits k (g b)) → (vs : List Value) → Have vs (truth ∷ []) →
        Fits k (on_truth g (map operand vs))
    truth_fits k g f (v ∷ []) q = let m =
        truth_at p core now x pl h v q.0 in subst (λ v. Fits k (on_truth g (map operand (v ∷ [])))) (sym m.1) (f m.0)
    truth_fits k g f [] q = absurd q
    truth_fits k g f (v ∷ u ∷ vs) q = absurd q.1

    text_fits : (k : GroundType) (g : List ℕ → Computed) → ((s : List ℕ) → Fits k (g s)) → (vs : List Value) → Have vs (texts ∷ []) →
        Fits k (on_text g (map operand vs))
    text_fits k g f (v ∷ []) q = let m = text_at p core now x pl h v q.0 in subst (λ v. Fits k (on_text g (map operand (v ∷ [])))) (sym m.1) (f m.0)
    text_fits k g f [] q = absurd q
    text_fits k g f (v ∷ u ∷ vs) q = absurd q.1

    text_number_fits : (k : GroundType) (g : List ℕ → ℤ → Computed) → ((s : List ℕ) (i : ℤ) → Fits k (g s i)) → (vs : List Value) →
        Have vs (texts ∷ int ∷ []) → Fits k (on_text_and_number g (map operand vs))
    text_number_fits k g f (v ∷ u ∷ []) q =
        let m = text_at p core now x pl h v q.0 in
        let n = number_at p core now x pl h u q.1.0 in
        subst (λ v. Fits k (on_text_and_number g (map operand (v ∷ u ∷ [])))) (sym m.1)
        (subst (λ u. Fits k (on_text_and_number g (map operand (Text m.0 ∷ u ∷ [])))) (sym n.1) (f m.0 n.0))
    text_number_fits k g f [] q = absurd q
    text_number_fits k g f (v ∷ []) q = absurd q.1
    text_number_fits k g f (v ∷ u ∷ w ∷ vs) q = absurd q.1.1

    text_numbers_fit : (k : GroundType) (g : List ℕ → ℤ → ℤ → Computed) → ((s : List ℕ) (i j : ℤ) → Fits k (g s i j)) → (vs : List Value) →
        Have vs (texts ∷ int ∷ int ∷ []) → Fits k (on_text_and_numbers g (map operand vs))
    text_numbers_fit k g f (v ∷ u ∷ w ∷ []) q =
        let m = text_at p core now x pl h v q.0 in
        let n = number_at p core now x pl h u q.1.0 in
        let o = number_at p core now x pl h w q.1.1.0 in
        subst (λ v. Fits k (on_text_and_numbers g (map operand (v ∷ u ∷ w ∷ [])))) (sym m.1)
        (subst (λ u. Fits k (on_text_and_numbers g (map operand (Text m.0 ∷ u ∷ w ∷ [])))) (sym n.1)
        (subst (λ w. Fits k (on_text_and_numbers g (map operand (Text m.0 ∷ Number n.0 ∷ w ∷ [])))) (sym o.1) (f m.0 n.0 o.0)))
    text_numbers_fit k g f [] q = absurd q
    text_numbers_fit k g f (v ∷ []) q = absurd q.1
    text_numbers_fit k g f (v ∷ u ∷ []) q = absurd q.1.1
    text_numbers_fit k g f (v ∷ u ∷ w ∷ z ∷ vs) q = absurd q.1.1.1

    ------------------------------------------------------------
    -- Rows

    -- what an operator computes of a row's operands is the row's result
    abbrev RowFits : Operator → Row → List Value → Type 0
    RowFits o r vs = Have vs (map (kind_at p x pl) r.operands) → Fits (kind_at p x pl r.result) (operate o (map operand vs))

    unary_fits : (o : UnaryOperator) (r : Row) → In r (unary_rows o) → (vs : List Value) → RowFits (unary_operator o) r vs
    unfolding operate_within
    unary_fits unary.Negate r (inl e) vs =
        subst (λ r. RowFits (unary_operator unary.Negate) r vs) e (number_fits int (λ x. within_range (neg_ℤ x)) (λ m. range_fits (neg_ℤ m)) vs)
    unary_fits unary.Negate r (inr i) vs = absurd i
    unary_fits unary.Not r (inl e) vs =
        subst (λ r. RowFits (unary_operator unary.Not) r vs) e (truth_fits truth (λ x. GivesTruth (not x)) (λ b. truth_kind p x pl) vs)
    unary_fits unary.Not r (inr i) vs = absurd i

    text_operator_fits : (o : TextOperator) (r : Row) → In r (text_rows o) → (vs : List Value) → RowFits (text_operator o) r vs
    unfolding operate_within
    text_operator_fits text.Size r (inl e) vs =
        subst (λ r. RowFits (text_operator text.Size) r vs) e (text_fits int (λ s. GivesNumber (pos (length s))) (λ s. number_kind p x pl) vs)
    text_operator_fits text.Size r (inr i) vs = absurd i
    text_operator_fits text.Part r (inl e) vs = subst (λ r. RowFits (text_operator text.Part) r vs) e (text_numbers_fit texts part_of part_fits vs)
    text_operator_fits text.Part r (inr i) vs = absurd i
    text_operator_fits text.Code r (inl e) vs = subst (λ r. RowFits (text_operator text.Code) r vs) e (text_number_fits int byte_at byte_at_fits vs)
    text_operator_fits text.Code r (inr i) vs = absurd i
    text_operator_fits text.Byte r (inl e) vs = subst (λ r. RowFits (text_operator text.Byte) r vs) e (number_fits texts one_byte one_byte_fits vs)
    text_operator_fits text.Byte r (inr i) vs = absurd i
    text_operator_fits text.Show r (inl e) vs =
        subst (λ r. RowFits (text_operator text.Show) r vs) e (number_fits texts (λ x. Builds (signed_decimal x)) (λ m. text_kind p x pl) vs)
    text_operator_fits text.Show r (inr i) vs = absurd i

    -- .. and so does an operator of two operands, where it has both values
    abbrev BinaryFits : Option Operator → Row → Value → Value → Type 0
    BinaryFits None r v u = ⊥
    BinaryFits (Some o) r v u = RowFits o r (v ∷ u ∷ [])

    equality_fits : (as_asked : Bool → Bool) (r : Row) → In r (two of.Int of.Bool ∷ two of.Bool of.Bool ∷ two of.Text of.Bool ∷ []) → (v u : Value) →
        Have (v ∷ u ∷ []) (map (kind_at p x pl) r.operands) → Fits (kind_at p x pl r.result) (on_two (compared as_asked) (map operand (v ∷ u ∷ [])))
    equality_fits as_asked r (inl e) v u =
        subst (λ r. Have (v ∷ u ∷ []) (map (kind_at p x pl) r.operands) →
        Fits (kind_at p x pl r.result) (on_two (compared as_asked) (map operand (v ∷ u ∷ [])))) e (same_numbers_fit as_asked v u)
    equality_fits as_asked r (inr (inl e)) v u =
        subst (λ r. Have (v ∷ u ∷ []) (map (kind_at p x pl) r.operands) →
        Fits (kind_at p x pl r.result) (on_two (compared as_asked) (map operand (v ∷ u ∷ [])))) e (same_truths_fit as_asked v u)
    equality_fits as_asked r (inr (inr (inl e))) v u =
        subst (λ r. Have (v ∷ u ∷ []) (map (kind_at p x pl) r.operands) →
        Fits (kind_at p x pl r.result) (on_two (compared as_asked) (map operand (v ∷ u ∷ [])))) e (same_texts_fit as_asked v u)
    equality_fits as_asked r (inr (inr (inr i))) v u = absurd i

    one_row : (o : Operator) (s r : Row) (v u : Value) → In r (s ∷ []) → RowFits o s (v ∷ u ∷ []) → RowFits o r (v ∷ u ∷ [])
    one_row o s r v u (inl e) f = subst (λ r. RowFits o r (v ∷ u ∷ [])) e f
    one_row o s r v u (inr i) f = absurd i

    pub binary_fits : (o : BinaryOperator) (r : Row) (v u : Value) → IsStrict o → In r (binary_rows o) → BinaryFits (binary_operator o) r v u
    unfolding operate_within
    binary_fits binary.Add r v u t i = one_row Add (two of.Int of.Int) r v u i (numbers_fit int _ (λ m n. range_fits (m +ℤ n)) v u)
    binary_fits binary.Subtract r v u t i = one_row Subtract (two of.Int of.Int) r v u i (numbers_fit int _ (λ m n. range_fits (m -ℤ n)) v u)
    binary_fits binary.Multiply r v u t i = one_row Multiply (two of.Int of.Int) r v u i (numbers_fit int _ (λ m n. range_fits (m *ℤ n)) v u)
    binary_fits binary.Divide r v u t i = one_row Divide (two of.Int of.Int) r v u i (numbers_fit int _ quotient_fits v u)
    binary_fits binary.Remainder r v u t i = one_row Remainder (two of.Int of.Int) r v u i (numbers_fit int _ remainder_fits v u)
    binary_fits binary.Join r v u t i = one_row Join (two of.Text of.Text) r v u i (texts_fit texts _ joined_fits v u)
    binary_fits binary.Less r v u t i =
        one_row Less (two of.Int of.Bool) r v u i (numbers_fit truth (λ m n. GivesTruth (int_lt m n)) (λ m n. truth_kind p x pl) v u)
    binary_fits binary.LessOrEqual r v u t i =
        one_row LessOrEqual (two of.Int of.Bool) r v u i (numbers_fit truth (λ m n. GivesTruth (int_le m n)) (λ m n. truth_kind p x pl) v u)
    binary_fits binary.Greater r v u t i =
        one_row Greater (two of.Int of.Bool) r v u i (numbers_fit truth (λ m n. GivesTruth (int_lt n m)) (λ m n. truth_kind p x pl) v u)
    binary_fits binary.GreaterOrEqual r v u t i =
        one_row GreaterOrEqual (two of.Int of.Bool) r v u i (numbers_fit truth (λ m n. GivesTruth (int_le n m)) (λ m n. truth_kind p x pl) v u)
    binary_fits binary.Equal r v u t i = equality_fits (λ same. same) r i v u
    binary_fits binary.NotEqual r v u t i = equality_fits not r i v u
    binary_fits binary.And r v u t i = absurd t
    binary_fits binary.Or r v u t i = absurd t

  ------------------------------------------------------------
  -- Replies

  built_answers : (w : World) (place : Place) (bytes : List ℕ) (k : GroundType) → WellHeap p now w.objects → Below p Texts k →
      Answers p now w (Valued p now k) (text_built place bytes w)
  built_answers w place bytes k wh q = room (nat_lt w.built most_texts)
    where
      room : (c : Bool) → Answers p now w (Valued p now k)
          (if c then replied (Text bytes) (record w { built = w.built + 1 }) else stopped (Trap Crowded place) w)
      room true = same_answers p now w (Valued p now k) (Text bytes) (record w { built = w.built + 1 }) refl wh q
      room false = trap_answers p now w (Valued p now k) Crowded place wh

  computed_answers : (w : World) (place : Place) (k : GroundType) (c : Computed) → WellHeap p now w.objects → Fits k c →
      Answers p now w (Valued p now k) (computed place w c)
  computed_answers w place k (GivesNumber n) wh q = same_answers p now w (Valued p now k) (Number n) w refl wh q
  computed_answers w place k (GivesTruth b) wh q = same_answers p now w (Valued p now k) (Truth b) w refl wh q
  computed_answers w place k (Builds bytes) wh q = built_answers w place bytes k wh q
  computed_answers w place k (Traps kind) wh q = trap_answers p now w (Valued p now k) kind place wh
  computed_answers w place k Misfits wh q = absurd q

  pub unary_answers : (o : UnaryOperator) (r : Row) → In r (unary_rows o) → (w : World) (place : Place) (vs : List Value) → WellHeap p now w.objects →
      AllHave p now w.objects vs (map (kind_at p x pl) r.operands) →
      Answers p now w (Valued p now (kind_at p x pl r.result)) (operated current place (Some (unary_operator o)) vs w)
  unary_answers o r i w place vs wh q =
      computed_answers w place (kind_at p x pl r.result) (operate (unary_operator o) (map operand vs)) wh (unary_fits w.objects o r i vs q)

  pub text_answers : (o : TextOperator) (r : Row) → In r (text_rows o) → (w : World) (place : Place) (vs : List Value) → WellHeap p now w.objects →
      AllHave p now w.objects vs (map (kind_at p x pl) r.operands) →
      Answers p now w (Valued p now (kind_at p x pl r.result)) (operated current place (Some (text_operator o)) vs w)
  text_answers o r i w place vs wh q =
      computed_answers w place (kind_at p x pl r.result) (operate (text_operator o) (map operand vs)) wh (text_operator_fits w.objects o r i vs q)

  pub binary_answers : (o : BinaryOperator) (r : Row) → IsStrict o → In r (binary_rows o) → (w : World) (place : Place) (v u : Value) →
      WellHeap p now w.objects → AllHave p now w.objects (v ∷ u ∷ []) (map (kind_at p x pl) r.operands) →
      Answers p now w (Valued p now (kind_at p x pl r.result)) (operated current place (binary_operator o) (v ∷ u ∷ []) w)
  binary_answers o r s i w place v u wh q = of_operator (binary_operator o) (binary_fits w.objects o r v u s i)
    where
      of_operator : (b : Option Operator) → BinaryFits w.objects b r v u →
          Answers p now w (Valued p now (kind_at p x pl r.result)) (operated current place b (v ∷ u ∷ []) w)
      of_operator None f = absurd f
      of_operator (Some b) f = computed_answers w place (kind_at p x pl r.result) (operate b (map operand (v ∷ u ∷ []))) wh (f q)
