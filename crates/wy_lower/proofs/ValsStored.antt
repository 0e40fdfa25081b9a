-- The slots of a body's `val`s are those that its instructions store into.
use Rattle.std.proofs.Common.{◌≡◌, ◌⊎◌, ℕ, suc, ◌+◌, ◌-◌, Bool, true, false, List, [], ◌∷◌, ◌++◌, length, map, inl, inr, refl, sym, ap, ap₂, ◌∙◌, subst, arith, nat_eq, if◌then◌else◌}
use Rattle.std.proofs.lemmas.Bool.{eqb-true, eq-eqb}
use Rattle.std.specs.Prelude.{max, slice_get}
use Rattle.wy_text.specs.Members.{In, Apart}
use Rattle.wy_text.proofs.Lists.{In-cases}
use Rattle.wy_text.specs.declared.fault.Place.{Place}
use Rattle.wy_types.specs.declared.code.BinaryOperator.{BinaryOperator}
use Rattle.wy_types.specs.declared.code.BinaryOperator.TheVariants as binary
use Rattle.wy_types.specs.declared.code.Binding.{Binding}
use Rattle.wy_types.specs.declared.code.Binding.TheVariants as to
use Rattle.wy_types.specs.Code as code
use Rattle.wy_types.specs.Code.{Expr, Number, Quoted, Truth, Nothing, This, Name, Unary, Binary, TextCall, Call, New, Ascribe, Assign, Plain, If, Values, none, more, Block, Last, Then, Val}
use Rattle.wy_types.specs.Core.{IsCore}
use Rattle.wy_types.specs.Vals.{value_count, expr_vals, value_vals, values_vals, block_vals, start_vals, bodies_vals}
use Rattle.wy_types.specs.Program.{Program, Scope, Body, Start, Init, Run}
use Rattle.wy_meaning.specs.Starts.{Starts}
use Rattle.wy_code.specs.declared.instruction.Constant.TheVariants as constant
use Rattle.wy_code.specs.declared.instruction.Instruction.TheVariants.{Push, Load, Store, Get, Set, Drop, Op, New as Make, Call as CallMethod, Return, Finish}
use Rattle.wy_code.specs.declared.instruction.Placed.{Placed}
use Rattle.wy_code.specs.declared.code.Body as b
use Rattle.wy_code.specs.Named.{slot_stored, named_in, greatest, HasStoredVals}
use Rattle.wy_lower.specs.Inside.{Inside, place_from, is_own, slot_of, val_slot, capture_value, field_value, assigned_value, handed_constant, name_code}
use Rattle.wy_lower.specs.Laws.{HasItsVals}
use Rattle.wy_lower.specs.Listing.{placed, one, unary_code, text_code, value_mark, sides, binary_listing, listing, value_listing, values_listing, block_listing, fields_listing}
use Rattle.wy_lower.specs.Lowering.{inside_start, inside_body, start_listing, start_code, body_code, bodies_code, scopes_bodies, lowered}
use Rattle.wy_lower.specs.Parts.{number_in}
use Rattle.wy_lower.proofs.Allowed.{apart_first, apart_rest}
use Rattle.wy_lower.proofs.NamesInOrder.{named_append}

greatest_append : (xs ys : List ℕ) → greatest (xs ++ ys) ≡ max (greatest xs) (greatest ys)
greatest_append [] ys = omega arith
greatest_append (x ∷ xs) ys = (let h = greatest_append xs ys in omega arith)

module _ (i : Inside) where
  -- the last slot that instructions store into
  abbrev stored : List Placed → ℕ
  stored xs = greatest (named_in slot_stored xs)

  -- the last slot of these `val`s
  abbrev pub last_slot : List ℕ → ℕ
  last_slot ns = greatest (map (val_slot i) ns)

  slots_append : (ns ms : List ℕ) → last_slot (ns ++ ms) ≡ max (last_slot ns) (last_slot ms)
  slots_append [] ms = omega arith
  slots_append (n ∷ ns) ms = (let h = slots_append ns ms in omega arith)

  stored_append : (xs ys : List Placed) → stored (xs ++ ys) ≡ max (stored xs) (stored ys)
  stored_append xs ys = ap greatest (named_append slot_stored xs ys) ∙ greatest_append (named_in slot_stored xs) (named_in slot_stored ys)

  quiet_end : (xs ys : List Placed) (n : ℕ) → stored ys ≡ 0 → stored xs ≡ n → stored (xs ++ ys) ≡ n
  quiet_end xs ys n quiet h = (let x = stored_append xs ys in omega arith)

  two : (xs ys : List Placed) (ns ms : List ℕ) → stored xs ≡ last_slot ns → stored ys ≡ last_slot ms → stored (xs ++ ys) ≡ last_slot (ns ++ ms)
  two xs ys ns ms h k = (let x = stored_append xs ys in let y = slots_append ns ms in omega arith)

  two_sides : (place : Place) (at : ℕ) (first second : ℕ → List Placed) (ns ms : List ℕ) → ((n : ℕ) → stored (first n) ≡ last_slot ns) → ((n : ℕ) → stored (second n) ≡ last_slot ms) →
      stored (sides place at first second) ≡ last_slot (ns ++ ms)
  two_sides place at first second ns ms h k =
      let x = stored_append (first (at + 1)) (second (at + 1 + length (first (at + 1)) + 1)) in
      let y = slots_append ns ms in
      let u = h (at + 1) in
      let v = k (at + 1 + length (first (at + 1)) + 1) in
      ap greatest (named_append slot_stored (first (at + 1)) _) ∙ greatest_append _ _ ∙ (let z : max (stored (first (at + 1))) (stored (second (at + 1 + length (first (at + 1)) + 1))) ≡ last_slot (ns ++ ms) = omega arith in z)

  name_quiet : (name : Binding) → slot_stored (name_code i name) ≡ []
  name_quiet (to.Variable x) = of (is_own i x)
    where
      of : (t : Bool) → slot_stored (if t then Load (slot_of i x) else Get (capture_value i x)) ≡ []
      of true = refl
      of false = refl
  name_quiet (to.Field k) = refl
  name_quiet (to.Own k) = of i.program
    where
      of : (t : Bool) → slot_stored (if t then Push (handed_constant (slice_get i.actuals k)) else Get k) ≡ []
      of true = refl
      of false = refl

  binary_stored : (place : Place) (o : BinaryOperator) (at : ℕ) (xs : List Placed) (right : ℕ → List Placed) (ns ms : List ℕ) → stored xs ≡ last_slot ns →
      ((n : ℕ) → stored (right n) ≡ last_slot ms) → stored (binary_listing place o at xs right) ≡ last_slot (ns ++ ms)
  binary_stored place binary.And at xs right ns ms h k =
      let x = two_sides place (at + length xs) right (λ at. one place (Push (constant.Truth false))) ms [] k (λ n. refl) in
      let y = slots_append ms [] in
      let z : stored (sides place (at + length xs) right (λ at. one place (Push (constant.Truth false)))) ≡ last_slot ms = omega arith in
      two xs _ ns ms h z
  binary_stored place binary.Or at xs right ns ms h k = two xs _ ns ms h (two_sides place (at + length xs) (λ at. one place (Push (constant.Truth true))) right [] ms (λ n. refl) k)
  binary_stored place o at xs right ns ms h k = two xs _ ns ms h (quiet_end (right (at + length xs)) _ (last_slot ms) refl (k (at + length xs)))

  mutual
    unfolding listing

    expr_stored : (e : Expr) (at : ℕ) → greatest (named_in slot_stored (listing i at e)) ≡ last_slot (expr_vals e)
    expr_stored (Number place n) at = refl
    expr_stored (Quoted place bytes) at = refl
    expr_stored (Truth place t) at = refl
    expr_stored (Nothing place) at = refl
    expr_stored (This place) at = refl
    expr_stored (Name place name) at = ap (λ l. greatest (l ++ [])) (name_quiet name)
    expr_stored (Unary place o x) at = quiet_end (listing i at x) (one place (Op (unary_code o))) (last_slot (expr_vals x)) refl (expr_stored x at)
    expr_stored (Binary place o x y) at = binary_stored place o at _ (λ at. listing i at y) (expr_vals x) (expr_vals y) (expr_stored x at) (λ n. expr_stored y n)
    expr_stored (TextCall place o xs) at = quiet_end (values_listing i at xs) (one place (Op (text_code o))) (last_slot (values_vals xs)) refl (values_stored xs at)
    expr_stored (Call place x method xs) at =
        two (listing i at x) (values_listing i (at + length (listing i at x)) xs ++ one place (CallMethod (number_in i.methods method) (value_count xs))) (expr_vals x) (values_vals xs) (expr_stored x at)
        (quiet_end (values_listing i (at + length (listing i at x)) xs) (one place (CallMethod (number_in i.methods method) (value_count xs))) (last_slot (values_vals xs)) refl (values_stored xs (at + length (listing i at x))))
    expr_stored (New place l xs) at = quiet_end (values_listing i at xs) (one place (Make l)) (last_slot (values_vals xs)) refl (values_stored xs at)
    expr_stored (Ascribe place x t) at = value_stored x at
    expr_stored (Assign place name x) at = quiet_end (value_listing i at x) (placed place (Set (assigned_value i name)) ∷ one place (Push constant.Unit)) (last_slot (value_vals x)) refl (value_stored x at)

    value_stored : (x : code.Value) (at : ℕ) → greatest (named_in slot_stored (value_listing i at x)) ≡ last_slot (value_vals x)
    value_stored (Plain x) at = expr_stored x at
    value_stored (If place test first second) at =
        two (listing i at test) _ (expr_vals test) (block_vals first ++ block_vals second) (expr_stored test at)
        (two_sides place (at + length (listing i at test)) (λ at. block_listing i at first) (λ at. block_listing i at second) (block_vals first) (block_vals second) (λ n. block_stored first n) (λ n. block_stored second n))

    values_stored : (xs : Values) (at : ℕ) → greatest (named_in slot_stored (values_listing i at xs)) ≡ last_slot (values_vals xs)
    values_stored none at = refl
    values_stored (more x xs) at = two (value_listing i at x) _ (value_vals x) (values_vals xs) (value_stored x at) (values_stored xs (at + length (value_listing i at x)))

    block_stored : (x : Block) (at : ℕ) → greatest (named_in slot_stored (block_listing i at x)) ≡ last_slot (block_vals x)
    block_stored (Last x) at = value_stored x at
    block_stored (Then x rest) at =
        let xs = value_listing i at x ++ one (value_mark x) Drop in
        two xs (block_listing i (at + length xs) rest) (value_vals x) (block_vals rest) (quiet_end (value_listing i at x) (one (value_mark x) Drop) (last_slot (value_vals x)) refl (value_stored x at)) (block_stored rest (at + length xs))
    block_stored (Val place n typ x rest) at =
        let at2 = at + length (value_listing i at x ++ one place (Store (val_slot i n))) in
        let own = stored_append (value_listing i at x) (one place (Store (val_slot i n))) in
        let all = stored_append (value_listing i at x ++ one place (Store (val_slot i n))) (block_listing i at2 rest) in
        let first = value_stored x at in
        let later = block_stored rest at2 in
        let both = slots_append (value_vals x) (block_vals rest) in
        omega arith

  fields_stored : (xs : Values) (k at : ℕ) → greatest (named_in slot_stored (fields_listing i at k xs)) ≡ last_slot (values_vals xs)
  unfolding fields_listing
  fields_stored none k at = refl
  fields_stored (more x xs) k at =
      let set = one (value_mark x) (Set (field_value i k)) in
      let ys = value_listing i at x ++ set in
      two ys (fields_listing i (at + length ys) (k + 1) xs) (value_vals x) (values_vals xs) (quiet_end (value_listing i at x) set (last_slot (value_vals x)) refl (value_stored x at)) (fields_stored xs (k + 1) (at + length ys))

  start_stored : (s : Start) → greatest (named_in slot_stored (start_listing i s)) ≡ last_slot (start_vals s)
  start_stored (Init values) = fields_stored values 0 0
  start_stored (Run block) = block_stored block 0

------------------------------------------------------------
-- The last of slots that differ

module _ (before : ℕ) where
  abbrev slot : ℕ → List ℕ → ℕ → ℕ
  slot k vals n = 1 + before + place_from k n vals

  moved : (k m : ℕ) (vals ns : List ℕ) → (In m ns → ⊥) → greatest (map (slot k (m ∷ vals)) ns) ≡ greatest (map (slot (k + 1) vals) ns)
  moved k m vals [] h = refl
  moved k m vals (n ∷ ns) h = ap₂ max (of (nat_eq m n) refl) (moved k m vals ns (λ j. h (inr j)))
    where
      of : (t : Bool) → nat_eq m n ≡ t → 1 + before + place_from k n (m ∷ vals) ≡ 1 + before + place_from (k + 1) n vals
      of true e = absurd (h (inl (sym (eqb-true m n e))))
      of false e = ap (λ c. 1 + before + (if c then k else place_from (k + 1) n vals)) e

  first_is : (k m : ℕ) (vals : List ℕ) → slot k (m ∷ vals) m ≡ 1 + before + k
  first_is k m vals = ap (λ c. 1 + before + (if c then k else place_from (k + 1) m vals)) (eq-eqb m m refl)

  last_is : (k : ℕ) (vals : List ℕ) → Apart vals → max (1 + before + k) (suc (greatest (map (slot k vals) vals))) ≡ 1 + before + k + length vals
  last_is k [] h = omega arith
  last_is k (m ∷ vals) h =
      let z = last_is (k + 1) vals h.1 in
      let y = moved k m vals vals h.0 in
      let x = first_is k m vals in
      omega arith

------------------------------------------------------------
-- Bodies

counted : (i : Inside) (xs ys : List Placed) → Apart i.vals → greatest (named_in slot_stored xs) ≡ last_slot i i.vals → greatest (named_in slot_stored ys) ≡ 0 →
    length i.vals ≡ greatest (named_in slot_stored (xs ++ ys)) - i.parameters
counted i xs ys apart all quiet =
    let whole = quiet_end i xs ys (last_slot i i.vals) quiet all in
    let last = last_is i.parameters 0 i.vals apart in
    omega arith

module _ (p : Program) (s : Starts) where
  start_counted : (sc : Scope) → Apart (start_vals sc.start) → HasStoredVals (start_code p s sc)
  start_counted sc apart = counted (inside_start p s sc) (start_listing (inside_start p s sc) sc.start) (one sc.start_place Finish) apart (start_stored (inside_start p s sc) sc.start) refl

  method_counted : (sc : Scope) (k : ℕ) (x : Body) → Apart (block_vals x.block) → HasStoredVals (body_code p s sc k x)
  method_counted sc k x apart = counted (inside_body p s sc k x) (block_listing (inside_body p s sc k x) 0 x.block) (one x.place Return) apart (block_stored (inside_body p s sc k x) x.block 0) refl

  methods_counted : (sc : Scope) (k : ℕ) (bodies : List Body) → Apart (bodies_vals bodies) → (c : b.Body) → In c (bodies_code p s sc k bodies) → HasStoredVals c
  methods_counted sc k [] apart c j = absurd j
  methods_counted sc k (x ∷ xs) apart c (inl e) = subst HasStoredVals e (method_counted sc k x (apart_first (block_vals x.block) (bodies_vals xs) apart))
  methods_counted sc k (x ∷ xs) apart c (inr j) = methods_counted sc (k + 1) xs (apart_rest (block_vals x.block) (bodies_vals xs) apart) c j

  bodies_counted : (scopes : List Scope) → ((sc : Scope) → In sc scopes → Apart (start_vals sc.start ++ bodies_vals sc.bodies)) → (c : b.Body) → In c (scopes_bodies p s scopes) → HasStoredVals c
  bodies_counted [] apart c j = absurd j
  bodies_counted (sc ∷ scs) apart c (inl e) = subst HasStoredVals e (start_counted sc (apart_first (start_vals sc.start) (bodies_vals sc.bodies) (apart sc (inl refl))))
  bodies_counted (sc ∷ scs) apart c (inr j) = of (In-cases c (bodies_code p s sc 0 sc.bodies) (scopes_bodies p s scs) j) (λ h. bodies_counted scs (λ y i. apart y (inr i)) c h)
    where
      of : In c (bodies_code p s sc 0 sc.bodies) ⊎ In c (scopes_bodies p s scs) → (In c (scopes_bodies p s scs) → HasStoredVals c) → HasStoredVals c
      of (inl h) rest = methods_counted sc 0 sc.bodies (apart_rest (start_vals sc.start) (bodies_vals sc.bodies) (apart sc (inl refl))) c h
      of (inr h) rest = rest h

pub has_vals : (p : Program) (s : Starts) → IsCore p → HasItsVals p s
unfolding lowered
has_vals p s core c j = bodies_counted p s p.scopes (λ sc i. (core.scopes sc i).vals) c j
