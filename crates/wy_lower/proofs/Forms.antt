-- The code of each form does what the form means.
use Rattle.std.proofs.Common.{◌≡◌, inl, ℕ, suc, ◌+◌, ◌<◌, ◌≤◌, true, false, List, [], ◌∷◌, ◌++◌, length, drop, Option, Some, None, refl, sym, ap, ◌∙◌, subst, arith, if◌then◌else◌}
use Rattle.std.proofs.lemmas.Bool.{lt-ltb}
use Rattle.std.specs.Prelude.{slice_get, slice_set}
use Rattle.wy_text.proofs.Lists.{In-right}
use Rattle.wy_text.specs.declared.fault.Place.{Place}
use Rattle.wy_types.specs.declared.code.Variable.{Variable}
use Rattle.wy_types.specs.declared.code.Variable.TheVariants.{Local}
use Rattle.wy_types.specs.declared.code.BinaryOperator.{BinaryOperator}
use Rattle.wy_types.specs.declared.code.BinaryOperator.TheVariants as binary
use Rattle.wy_types.specs.declared.resolved.Literal.{Literal}
use Rattle.wy_types.specs.Code as code
use Rattle.wy_types.specs.Code.{Expr, Number, Quoted, Truth as TruthOf, Nothing as NothingOf, This, Name, Unary, Binary, TextCall, Call, New, Ascribe, Assign, Plain, If, Values, none, more, Block, Last, Then, Val}
use Rattle.wy_types.specs.Core.{ExprFits, ValueFits, ValuesFit, BlockFits}
use Rattle.wy_types.specs.Vals.{value_count, expr_vals, value_vals, values_vals, block_vals}
use Rattle.wy_types.specs.Program.{Program, Scope}
use Rattle.wy_meaning.specs.Values.{Value, Int, Truth, Nothing, Text, World, value_named}
use Rattle.wy_meaning.specs.Starts.{Starts}
use Rattle.wy_meaning.specs.Eval.{Sight, Calls, with_local, go_on, eval, eval_value, eval_all, eval_block}
use Rattle.wy_meaning.specs.Results.{Result, give}
use Rattle.wy_code.specs.declared.code.Body.{Body}
use Rattle.wy_code.specs.declared.code.Code.{Code}
use Rattle.wy_code.specs.declared.code.Literal as item
use Rattle.wy_code.specs.declared.instruction.Constant.TheVariants as constant
use Rattle.wy_code.specs.declared.instruction.Instruction.TheVariants.{Push, Set, Drop, Store as StoreIn, Jump, JumpFalse, Call as CallMethod}
use Rattle.wy_code.specs.declared.instruction.Placed.{Placed}
use Rattle.wy_code.specs.Stores as word
use Rattle.wy_code.specs.Stores.{Word, Store}
use Rattle.wy_code.specs.Machine.{Frame, Go, stuck, literal_of}
use Rattle.wy_lower.specs.Inside.{Inside, is_val, val_slot, assigned_value, capture_sources}
use Rattle.wy_lower.specs.Listing.{placed, one, sides, binary_listing, value_mark, listing, value_listing, values_listing, block_listing}
use Rattle.wy_lower.specs.Lowerable.{Lowerable}
use Rattle.wy_lower.specs.Lowering.{inside_maker, lowered}
use Rattle.wy_lower.specs.Operands.{two_operands, operands, value_operands, values_operands, block_operands}
use Rattle.wy_lower.specs.Parts.{expr_parts, value_parts, values_parts, block_parts, number_in}
use Rattle.wy_lower.proofs.Addresses.{Stands, first_stands, rest_stands, end_stands, One, state, pushed, piled, acts, pushes}
use Rattle.wy_lower.proofs.Allowed.{Allowed, first_allowed, rest_allowed, val_allowed, behind_allowed, before_allowed, inner_allowed, some_operands, some_value_operands}
use Rattle.wy_lower.proofs.Leads.{Runs, give_runs, node_runs, tick_runs, bind_runs, finer_runs}
use Rattle.wy_lower.proofs.Making.{new_runs}
use Rattle.wy_lower.proofs.NamesFound.{Belongs, this_runs, name_runs}
use Rattle.wy_lower.proofs.Ready.{Ready, Fine, FineAll, ready_now, ready_since}
use Rattle.wy_lower.proofs.Relation.{Same, same_int, same_truth, same_nothing, same_text, none_same, more_same, same_stays}
use Rattle.wy_lower.proofs.Setting.{set_next, set_runs, StillReady, assigned_sets}
use Rattle.wy_lower.proofs.Slots.{Holds, stored_holds, left_holds, val_within}
use Rattle.wy_lower.proofs.Steps.{Does, constant_runs, operator_runs, unary_runs, text_runs, choose_runs, jump_runs, CallsRun, HasGrants, apply_runs}

-- the code of a body's scope has the literals that are made in the body
pub record HasLiterals (p : Program) (s : Starts) (sc : Scope) (i : Inside) (x : ℕ) : Type 0 where
  pub by : (l : ℕ) → 0 < l → inside_maker p s sc l 0 sc.bodies ≡ i → (literal : Literal) → slice_get sc.literals l ≡ Some literal →
      (y : item.Literal) × (literal_of (lowered p s) x l ≡ Some y) × (y.captures ≡ capture_sources i literal.captures) ×
      (y.fields ≡ length literal.fields)

------------------------------------------------------------
-- Two sides

module _ (b : Body) (place : Place) (at : ℕ) (first second : ℕ → List Placed) (end : ℕ) (h : Stands b at (sides place at first second) end) where
  abbrev pub otherwise : ℕ
  otherwise = at + 1 + length (first (at + 1)) + 1

  abbrev over : ℕ
  over = otherwise + length (second otherwise)

  abbrev after_test : List Placed
  after_test = first (at + 1) ++ placed place (Jump over) ∷ second otherwise

  pub test_stands : Stands b at (one place (JumpFalse otherwise)) (at + 1)
  test_stands = first_stands b at (one place (JumpFalse otherwise)) after_test end h

  sides_stand : Stands b (at + 1) after_test end
  sides_stand = rest_stands b at (one place (JumpFalse otherwise)) after_test end h

  pub first_side_stands : Stands b (at + 1) (first (at + 1)) (at + 1 + length (first (at + 1)))
  first_side_stands = first_stands b (at + 1) (first (at + 1)) (placed place (Jump over) ∷ second otherwise) end sides_stand

  jump_and_second : Stands b (at + 1 + length (first (at + 1))) (placed place (Jump over) ∷ second otherwise) end
  jump_and_second = rest_stands b (at + 1) (first (at + 1)) (placed place (Jump over) ∷ second otherwise) end sides_stand

  pub jump_stands : Stands b (at + 1 + length (first (at + 1))) (one place (Jump over)) otherwise
  jump_stands = first_stands b (at + 1 + length (first (at + 1))) (one place (Jump over)) (second otherwise) end jump_and_second

  pub second_side_stands : Stands b otherwise (second otherwise) end
  second_side_stands = rest_stands b (at + 1 + length (first (at + 1))) (one place (Jump over)) (second otherwise) end jump_and_second

  pub over_is_end : drop over b.instructions ≡ drop end b.instructions
  over_is_end = end_stands b otherwise (second otherwise) end second_side_stands

module _ (p : Program) (s : Starts) (ok : Lowerable p s) (has : HasGrants p s) (n d : ℕ) (calls : Calls) (called : CallsRun p s n d calls)
    (sc : Scope) (i : Inside) (x : ℕ) (of_scope : Belongs p s sc i x) (literals : HasLiterals p s sc i x) (owner : Option ℕ) (b : Body)
    (callers : List Frame) (deep : d + length callers ≡ n) where
  abbrev g : Code
  g = lowered p s

  -- operands on the stack, and so many more, are within the body's slots
  abbrev pub HasRoom : List Word → ℕ → Type 0
  HasRoom stack k = 1 + i.parameters + length i.vals + length stack + k ≤ b.slots

  room_left : (t : List (List ℕ)) (w : World) (sight : Sight) (slots stack : List Word) (k : ℕ) → Holds i x t w sight slots → HasRoom stack k →
      0 < k → length slots + length stack < b.slots
  room_left t w sight slots stack k h room some = omega (arith, h.long)

  -- the rest of a binary operation whose left side's word is pushed
  module _ (sight : Sight) (end : ℕ) (w0 : World) (m0 : Store) (stack : List Word) (right : World → Result Value) (y : ℕ → List Placed) where
    abbrev RightRuns : ℕ → Type 0
    RightRuns need = (at last : ℕ) → Stands b at (y at) last → (w1 : World) (m1 : Store) (w : World) (m : Store) (slots : List Word) →
        Ready p s i x sight w1 m1 w m slots → (below : List Word) → HasRoom below need →
        Runs g n (Fine p s i x sight w1 m1) (pushed x b callers last below) (state x b callers at slots below m) (right w)

    go_on_runs : (place : Place) (o : BinaryOperator) (at : ℕ) (xs : List Placed) (left need : ℕ) → Stands b at (binary_listing place o at xs y) end →
        RightRuns need → HasRoom stack (two_operands o left need) → 0 < left →
        (v : Value) (z : Word) (w : World) (m : Store) (slots : List Word) → Same m.texts v z → Ready p s i x sight w0 m0 w m slots →
        Does p s i x sight w0 m0 g n b callers end stack (state x b callers (at + length xs) slots (z ∷ stack) m) (go_on s.edition place o v right w)
    go_on_runs place binary.And at xs left need stands run room some v z w m slots h r =
        let t = rest_stands b at xs _ end stands in
        choose_runs p s i x sight w0 m0 g n b callers end stack _ w m slots r place _ _ v z _ _ h
        (test_stands b place _ y (λ at. one place (Push (constant.Truth false))) end t)
        (bind_runs _ _ _ _ _ _ _ _ _ (run _ _
        (first_side_stands b place _ y (λ at. one place (Push (constant.Truth false))) end t) w0 m0 w m slots r stack (omega arith))
        (λ u w c f. jump_runs p s i x sight w0 m0 g n b callers end stack _ w c.store c.slots f.ready place _ _ u c.word f.same
        (jump_stands b place _ y (λ at. one place (Push (constant.Truth false))) end t)
        (over_is_end b place _ y (λ at. one place (Push (constant.Truth false))) end t)))
        (constant_runs p s i x sight w0 m0 g n b callers end stack _ w m slots r place (constant.Truth false) (Truth false) (same_truth false)
        (room_left m.texts w sight slots stack _ r.holds room (omega arith))
        (second_side_stands b place _ y (λ at. one place (Push (constant.Truth false))) end t))
    go_on_runs place binary.Or at xs left need stands run room some v z w m slots h r =
        let t = rest_stands b at xs _ end stands in
        let a = first_side_stands b place _ (λ at. one place (Push (constant.Truth true))) y end t in
        let c = jump_stands b place _ (λ at. one place (Push (constant.Truth true))) y end t in
        let e = over_is_end b place _ (λ at. one place (Push (constant.Truth true))) y end t in
        choose_runs p s i x sight w0 m0 g n b callers end stack _ w m slots r place _ _ v z _ _ h
        (test_stands b place _ (λ at. one place (Push (constant.Truth true))) y end t)
        (tick_runs g n (Fine p s i x sight w0 m0) (pushed x b callers end stack) _ _ _
        (acts x b callers g n _ place (Push (constant.Truth true)) _ slots stack m a
        ∙ pushes x b callers _ slots stack m (word.Truth true) [] (room_left m.texts w sight slots stack _ r.holds room (omega arith)))
        (jump_runs p s i x sight w0 m0 g n b callers end stack _ w m slots r place _ _ (Truth true) (word.Truth true) (same_truth true) c e))
        (run _ _ (second_side_stands b place _ (λ at. one place (Push (constant.Truth true))) y end t) w0 m0 w m slots r stack (omega arith))
    go_on_runs place o at xs left need stands run room some v z w m slots h r =
        let t = rest_stands b at xs _ end stands in
        bind_runs _ _ _ _ _ _ _ _ _ (run _ _ (first_stands b _ (y (at + length xs)) _ end t) w m w m slots (ready_now p s i x sight w0 m0 w m slots r)
        (z ∷ stack) (omega arith))
        (λ u w2 c f.
        operator_runs p s i x sight w0 m0 g n b callers end stack _ w2 c.store c.slots
        (ready_since p s i x sight w0 m0 w m w2 c.store c.slots r.later f.ready) ok.edition place _ (v ∷ u ∷ []) (z ∷ c.word ∷ [])
        (more_same v z (u ∷ []) (c.word ∷ []) (same_stays m.texts c.store.texts f.ready.later.texts v z h)
        (more_same u c.word [] [] f.same none_same)) refl
        (room_left c.store.texts w2 sight c.slots stack _ f.ready.holds room (omega arith)) (rest_stands b _ (y (at + length xs)) _ end t))

  left_stands : (place : Place) (o : BinaryOperator) (at : ℕ) (xs : List Placed) (y : ℕ → List Placed) (end : ℕ) →
      Stands b at (binary_listing place o at xs y) end → Stands b at xs (at + length xs)
  left_stands place binary.And at xs y end h = first_stands b at xs _ end h
  left_stands place binary.Or at xs y end h = first_stands b at xs _ end h
  left_stands place o at xs y end h = first_stands b at xs _ end h

  left_room : (o : BinaryOperator) (left need : ℕ) (stack : List Word) → HasRoom stack (two_operands o left need) → HasRoom stack left
  left_room binary.And left need stack h = omega arith
  left_room binary.Or left need stack h = omega arith
  left_room o left need stack h = omega arith

  one_more : (zs : List Word) (k : ℕ) → length zs ≡ k → suc (length zs) ≡ k + 1
  one_more zs k e = omega arith

  slot_there : (k : ℕ) (slots : List Word) → is_val k i.vals ≡ true → length slots ≡ 1 + i.parameters + length i.vals → val_slot i k < length slots
  slot_there k slots own long = let h = val_within 0 k i.vals own in omega arith

  -- outside its block a `val` is forgotten
  left_fine : (sight : Sight) (k : ℕ) (v : Value) (w0 : World) (m0 : Store) → value_named sight.variables (Local k) ≡ None →
      (u : Value) (w : World) (c : One) → Fine p s i x (with_local sight k v) w0 m0 u w c → Fine p s i x sight w0 m0 u w c
  left_fine sight k v w0 m0 fresh u w c h = record {
    same = h.same;
    ready = record { world = h.ready.world; holds = left_holds i x c.store.texts w sight c.slots k v fresh h.ready.holds; later = h.ready.later };
  }

  mutual
    unfolding eval listing operands

    pub expr_runs : (e : Expr) (sight : Sight) (seen : List Variable) → ExprFits p sc owner seen e →
        Allowed p s sc i sight (expr_parts e) (expr_vals e) → (at end : ℕ) → Stands b at (listing i at e) end →
        (w0 : World) (m0 : Store) (w : World) (m : Store) (slots : List Word) → Ready p s i x sight w0 m0 w m slots → (stack : List Word) →
        HasRoom stack (operands e) →
        Runs g n (Fine p s i x sight w0 m0) (pushed x b callers end stack) (state x b callers at slots stack m) (eval p s calls sight e w)
    expr_runs (Number place k) sight seen f al at end h w0 m0 w m slots r stack room =
        node_runs _ _ _ _ _ _ (constant_runs p s i x sight w0 m0 g n b callers end stack at w m slots r place (constant.Int k) (Int k) (same_int k)
        (room_left m.texts w sight slots stack _ r.holds room (omega arith)) h)
    expr_runs (Quoted place bytes) sight seen f al at end h w0 m0 w m slots r stack room =
        node_runs _ _ _ _ _ _ (constant_runs p s i x sight w0 m0 g n b callers end stack at w m slots r place
        (constant.Text (number_in i.texts bytes)) (Text bytes)
        (same_text bytes _ (r.world.written.by _ bytes (al.good (Quoted place bytes) (inl refl))))
        (room_left m.texts w sight slots stack _ r.holds room (omega arith)) h)
    expr_runs (TruthOf place t) sight seen f al at end h w0 m0 w m slots r stack room =
        node_runs _ _ _ _ _ _ (constant_runs p s i x sight w0 m0 g n b callers end stack at w m slots r place (constant.Truth t) (Truth t)
        (same_truth t) (room_left m.texts w sight slots stack _ r.holds room (omega arith)) h)
    expr_runs (NothingOf place) sight seen f al at end h w0 m0 w m slots r stack room =
        node_runs _ _ _ _ _ _ (constant_runs p s i x sight w0 m0 g n b callers end stack at w m slots r place constant.Unit Nothing same_nothing
        (room_left m.texts w sight slots stack _ r.holds room (omega arith)) h)
    expr_runs (This place) sight seen f al at end h w0 m0 w m slots r stack room =
        node_runs _ _ _ _ _ _ (this_runs p s ok sc i x of_scope sight w0 m0 w m slots r g n b callers at end stack
        (room_left m.texts w sight slots stack _ r.holds room (omega arith)) place h)
    expr_runs (Name place name) sight seen f al at end h w0 m0 w m slots r stack room =
        node_runs _ _ _ _ _ _ (name_runs p s ok sc i x of_scope sight w0 m0 w m slots r g n b callers at end stack
        (room_left m.texts w sight slots stack _ r.holds room (omega arith)) place name h)
    expr_runs (Unary place o e) sight seen f al at end h w0 m0 w m slots r stack room =
        node_runs _ _ _ _ _ _
        (bind_runs _ _ _ _ _ _ _ _ _ (expr_runs e sight seen f (inner_allowed p s sc i sight _ _ _ al) at _
        (first_stands b at _ _ end h) w0 m0 w m slots r stack room)
        (λ v w c q. unary_runs p s i x sight w0 m0 g n b callers end stack _ w c.store c.slots q.ready ok.edition place o (v ∷ []) (c.word ∷ [])
        (more_same v c.word [] [] q.same none_same) refl
        (room_left c.store.texts w sight c.slots stack _ q.ready.holds room (some_operands p sc owner e seen f)) (rest_stands b at _ _ end h)))
    expr_runs (Binary place o y z) sight seen f al at end h w0 m0 w m slots r stack room =
        let inner = inner_allowed p s sc i sight _ _ _ al in
        node_runs _ _ _ _ _ _
        (bind_runs _ _ _ _ _ _ _ _ _ (expr_runs y sight seen f.0 (first_allowed p s sc i sight _ _ _ _ inner) at _
        (left_stands place o at (listing i at y) (λ at. listing i at z) end h) w0 m0 w m slots r stack
        (left_room o (operands y) (operands z) stack room))
        (λ v w c q. go_on_runs sight end w0 m0 stack (eval p s calls sight z) (λ at. listing i at z) place o at (listing i at y) (operands y)
        (operands z) h (λ at last t w1 m1 w m slots r below l. expr_runs z sight seen f.1
        (rest_allowed p s sc i sight _ _ _ _ inner) at last t w1 m1 w m slots r below l) room
        (some_operands p sc owner y seen f.0) v c.word w c.store c.slots q.same q.ready))
    expr_runs (TextCall place o es) sight seen f al at end h w0 m0 w m slots r stack room =
        node_runs _ _ _ _ _ _
        (bind_runs _ _ _ _ _ _ _ _ _ (all_run es sight seen f.1 (inner_allowed p s sc i sight _ _ _ al) at _
        (first_stands b at _ _ end h) w0 m0 w m slots r stack room)
        (λ vs w c q. text_runs p s i x sight w0 m0 g n b callers end stack _ w c.store c.slots q.ready ok.edition place o vs c.words q.same (q.count ∙ f.0)
        (room_left c.store.texts w sight c.slots stack _ q.ready.holds room (some_operands p sc owner (TextCall place o es) seen f))
        (rest_stands b at _ _ end h)))
    expr_runs (Call place e name es) sight seen f al at end h w0 m0 w m slots r stack room =
        let values = before_allowed p s sc i sight (values_parts es) (Call place e name es ∷ []) _
        (rest_allowed p s sc i sight (expr_parts e) _ (expr_vals e) _ al) in
        let named = al.good (Call place e name es) (In-right _ (expr_parts e) _ (In-right _ (values_parts es) _ (inl refl))) in
        let rest = rest_stands b at _ _ end h in
        node_runs _ _ _ _ _ _
        (bind_runs _ _ _ _ _ _ _ _ _ (expr_runs e sight seen f.0 (first_allowed p s sc i sight (expr_parts e) _ (expr_vals e) _ al) at _
        (first_stands b at _ _ end h) w0 m0 w m slots r stack (omega arith))
        (λ v w1 c q. bind_runs _ _ _ _ _ _ _ _ _
        (all_run es sight seen f.1 values _ _ (first_stands b _ _ _ end rest) w1 c.store w1 c.store c.slots
        (ready_now p s i x sight w0 m0 w1 c.store c.slots q.ready) (c.word ∷ stack) (omega arith))
        (λ vs w2 a t.
        apply_runs p s has n d calls called i x sight w0 m0 b callers _ end stack w2 a.store a.slots
        (ready_since p s i x sight w0 m0 w1 c.store w2 a.store a.slots q.ready.later t.ready) deep
        (room_left a.store.texts w2 sight a.slots stack _ t.ready.holds room (omega arith)) place v c.word name (value_count es) vs a.words
        (same_stays c.store.texts a.store.texts t.ready.later.texts v c.word q.same) t.same t.count
        (subst (λ l. Stands b (at + length (listing i at e) + length (values_listing i (at + length (listing i at e)) es))
        (one place (CallMethod (number_in l name) (value_count es))) end) of_scope.methods (rest_stands b _ _ _ end rest))
        (subst (λ l. slice_get (lowered p s).methods (number_in l name) ≡ Some name) of_scope.methods named))))
    expr_runs (New place l es) sight seen f al at end h w0 m0 w m slots r stack room =
        node_runs _ _ _ _ _ _
        (bind_runs _ _ _ _ _ _ _ _ _ (all_run es sight seen f.4 (inner_allowed p s sc i sight _ _ _ al) at _
        (first_stands b at _ _ end h) w0 m0 w m slots r stack (omega arith))
        (λ vs w c q. new_runs p s ok sc i x of_scope sight w0 m0 w c.store c.slots q.ready g n b callers _ end stack
        (room_left c.store.texts w sight c.slots stack _ q.ready.holds room (omega arith)) place l
        (literals.by l f.0 (al.good (New place l es) (inl refl))) (rest_stands b at _ _ end h) vs c.words q.same))
    expr_runs (Ascribe place e t) sight seen f al at end h w0 m0 w m slots r stack room =
        node_runs _ _ _ _ _ _ (value_runs e sight seen f.0 (inner_allowed p s sc i sight _ _ _ al) at end h w0 m0 w m slots r stack room)
    expr_runs (Assign place name e) sight seen f al at end h w0 m0 w m slots r stack room =
        let rest = rest_stands b at _ _ end h in
        node_runs _ _ _ _ _ _
        (bind_runs _ _ _ _ _ _ _ _ _ (value_runs e sight seen f.1 (inner_allowed p s sc i sight _ _ _ al) at _
        (first_stands b at _ _ end h) w0 m0 w m slots r stack room)
        (λ v w c q. bind_runs _ _ _ (set_next x b callers _ stack) _ _ _ _ _
        (set_runs x b callers (StillReady p s ok sc i x of_scope sight w0 m0 w c.store c.slots q.ready) _ c.slots stack g n _ _ _
        (assigned_sets p s ok sc i x of_scope sight w0 m0 w c.store c.slots q.ready b callers _ stack name v c.word q.same)
        (acts x b callers g n _ place (Set (assigned_value i name)) _ c.slots (c.word ∷ stack) c.store
        (first_stands b _ (one place (Set (assigned_value i name))) (one place (Push constant.Unit)) end rest)))
        (λ u w2 a t. constant_runs p s i x sight w0 m0 g n b callers end stack _ w2 a.store a.slots t.ready place constant.Unit Nothing same_nothing
        (room_left a.store.texts w2 sight a.slots stack _ t.ready.holds room (some_value_operands p sc owner e seen f.1))
        (rest_stands b _ (one place (Set (assigned_value i name))) (one place (Push constant.Unit)) end rest))))

    pub value_runs : (e : code.Value) (sight : Sight) (seen : List Variable) → ValueFits p sc owner seen e →
        Allowed p s sc i sight (value_parts e) (value_vals e) → (at end : ℕ) → Stands b at (value_listing i at e) end →
        (w0 : World) (m0 : Store) (w : World) (m : Store) (slots : List Word) → Ready p s i x sight w0 m0 w m slots → (stack : List Word) →
        HasRoom stack (value_operands e) →
        Runs g n (Fine p s i x sight w0 m0) (pushed x b callers end stack) (state x b callers at slots stack m) (eval_value p s calls sight e w)
    value_runs (Plain e) sight seen f al at end h w0 m0 w m slots r stack room = expr_runs e sight seen f al at end h w0 m0 w m slots r stack room
    value_runs (If place test y z) sight seen f al at end h w0 m0 w m slots r stack room =
        let t = rest_stands b at (listing i at test) _ end h in
        let both = rest_allowed p s sc i sight (expr_parts test) (block_parts y ++ block_parts z) (expr_vals test)
        (block_vals y ++ block_vals z) al in
        node_runs _ _ _ _ _ _
        (bind_runs _ _ _ _ _ _ _ _ _ (expr_runs test sight seen f.0 (first_allowed p s sc i sight _ _ _ _ al) at _
        (first_stands b at _ _ end h) w0 m0 w m slots r stack (omega arith))
        (λ v w c q. choose_runs p s i x sight w0 m0 g n b callers end stack _ w c.store c.slots q.ready place _ _ v c.word _ _ q.same
        (test_stands b place _ (λ at. block_listing i at y) (λ at. block_listing i at z) end t)
        (bind_runs _ _ _ _ _ _ _ _ _ (block_runs y sight seen f.1 (first_allowed p s sc i sight _ _ _ _ both) _ _
        (first_side_stands b place _ (λ at. block_listing i at y) (λ at. block_listing i at z) end t) w0 m0 w c.store c.slots q.ready stack
        (omega arith))
        (λ u w a k. jump_runs p s i x sight w0 m0 g n b callers end stack _ w a.store a.slots k.ready place _ _ u a.word k.same
        (jump_stands b place _ (λ at. block_listing i at y) (λ at. block_listing i at z) end t)
        (over_is_end b place _ (λ at. block_listing i at y) (λ at. block_listing i at z) end t)))
        (block_runs z sight seen f.2 (rest_allowed p s sc i sight _ _ _ _ both) _ _
        (second_side_stands b place _ (λ at. block_listing i at y) (λ at. block_listing i at z) end t) w0 m0 w c.store c.slots q.ready stack
        (omega arith))))

    pub all_run : (es : Values) (sight : Sight) (seen : List Variable) → ValuesFit p sc owner seen es →
        Allowed p s sc i sight (values_parts es) (values_vals es) → (at end : ℕ) → Stands b at (values_listing i at es) end →
        (w0 : World) (m0 : Store) (w : World) (m : Store) (slots : List Word) → Ready p s i x sight w0 m0 w m slots → (stack : List Word) →
        HasRoom stack (values_operands es) →
        Runs g n (FineAll p s i x sight w0 m0 (value_count es)) (piled x b callers end stack) (state x b callers at slots stack m)
        (eval_all p s calls sight es w)
    all_run none sight seen f al at end h w0 m0 w m slots r stack room =
        subst (λ l. Runs g n (FineAll p s i x sight w0 m0 0) (piled x b callers end stack)
        (record { frame = record { instance = x; body = b; rest = l; slots = slots; operands = stack }; callers = callers; store = m })
        (give [] w)) (sym h.by)
        (give_runs g n (FineAll p s i x sight w0 m0 0) (piled x b callers end stack) [] w (record { words = []; store = m; slots = slots })
        (record { same = none_same; count = refl; ready = r }))
    all_run (more e es) sight seen f al at end h w0 m0 w m slots r stack room =
        bind_runs _ _ _ _ _ _ _ _ _ (value_runs e sight seen f.0 (first_allowed p s sc i sight _ _ _ _ al) at _
        (first_stands b at _ _ end h) w0 m0 w m slots r stack (omega arith))
        (λ v w1 c q. bind_runs g n (FineAll p s i x sight w1 c.store (value_count es)) (piled x b callers end (c.word ∷ stack))
        (FineAll p s i x sight w0 m0 (value_count es + 1)) (piled x b callers end stack) _ _ _
        (all_run es sight seen f.1 (rest_allowed p s sc i sight _ _ _ _ al) _ end (rest_stands b at _ _ end h) w1 c.store w1 c.store c.slots
        (ready_now p s i x sight w0 m0 w1 c.store c.slots q.ready) (c.word ∷ stack) (omega arith))
        (λ vs w2 a t.
        give_runs g n (FineAll p s i x sight w0 m0 (value_count es + 1)) (piled x b callers end stack) (v ∷ vs) w2
        (record { words = c.word ∷ a.words; store = a.store; slots = a.slots })
        (record {
          same = more_same v c.word vs a.words (same_stays c.store.texts a.store.texts t.ready.later.texts v c.word q.same) t.same;
          count = one_more a.words (value_count es) t.count;
          ready = ready_since p s i x sight w0 m0 w1 c.store w2 a.store a.slots q.ready.later t.ready;
        })))

    pub block_runs : (e : Block) (sight : Sight) (seen : List Variable) → BlockFits p sc owner seen e →
        Allowed p s sc i sight (block_parts e) (block_vals e) → (at end : ℕ) → Stands b at (block_listing i at e) end →
        (w0 : World) (m0 : Store) (w : World) (m : Store) (slots : List Word) → Ready p s i x sight w0 m0 w m slots → (stack : List Word) →
        HasRoom stack (block_operands e) →
        Runs g n (Fine p s i x sight w0 m0) (pushed x b callers end stack) (state x b callers at slots stack m) (eval_block p s calls sight e w)
    block_runs (Last e) sight seen f al at end h w0 m0 w m slots r stack room = value_runs e sight seen f al at end h w0 m0 w m slots r stack room
    block_runs (Then e rest) sight seen f al at end h w0 m0 w m slots r stack room =
        let a = first_stands b at (value_listing i at e ++ one (value_mark e) Drop) _ end h in
        bind_runs _ _ _ _ _ _ _ _ _ (value_runs e sight seen f.0 (first_allowed p s sc i sight _ _ _ _ al) at _
        (first_stands b at _ _ _ a) w0 m0 w m slots r stack (omega arith))
        (λ v w c q. tick_runs g n (Fine p s i x sight w0 m0) (pushed x b callers end stack) _ _ _
        (acts x b callers g n _ (value_mark e) Drop _ c.slots (c.word ∷ stack) c.store (rest_stands b at _ _ _ a))
        (block_runs rest sight seen f.1 (rest_allowed p s sc i sight _ _ _ _ al) _ end
        (rest_stands b at (value_listing i at e ++ one (value_mark e) Drop) _ end h) w0 m0 w c.store c.slots q.ready stack (omega arith)))
    block_runs (Val place k typ e rest) sight seen f al at end h w0 m0 w m slots r stack room =
        let a = first_stands b at (value_listing i at e ++ one place (StoreIn (val_slot i k))) _ end h in
        node_runs _ _ _ _ _ _
        (bind_runs _ _ _ _ _ _ _ _ _ (value_runs e sight seen f.1 (val_allowed p s sc i sight _ _ k _ _ al) at _
        (first_stands b at _ _ _ a) w0 m0 w m slots r stack (omega arith))
        (λ v w c q. tick_runs g n (Fine p s i x sight w0 m0) (pushed x b callers end stack) _
        (state x b callers (at + length (value_listing i at e ++ one place (StoreIn (val_slot i k))))
        (slice_set c.slots (val_slot i k) c.word) stack c.store) _
        (acts x b callers g n _ place (StoreIn (val_slot i k)) _ c.slots (c.word ∷ stack) c.store (rest_stands b at _ _ _ a)
        ∙ ap (λ t. if t then Go [] (state x b callers (at + length (value_listing i at e ++ one place (StoreIn (val_slot i k))))
        (slice_set c.slots (val_slot i k) c.word) stack c.store) else stuck)
        (lt-ltb (val_slot i k) (length c.slots) (slot_there k c.slots (al.own k (inl refl)) q.ready.holds.long)))
        (finer_runs g n (Fine p s i x (with_local sight k v) w0 m0) (Fine p s i x sight w0 m0) (pushed x b callers end stack)
        (λ u w2 t j. left_fine sight k v w0 m0 (al.fresh k (inl refl)) u w2 t j) _ _
        (block_runs rest (with_local sight k v) (Local k ∷ seen) f.2 (behind_allowed p s sc i sight _ _ k v _ _ al) _ end
        (rest_stands b at (value_listing i at e ++ one place (StoreIn (val_slot i k))) _ end h) w0 m0 w c.store
        (slice_set c.slots (val_slot i k) c.word)
        (record {
          world = q.ready.world;
          holds = stored_holds i x c.store.texts w sight c.slots k (al.own k (inl refl)) v c.word q.same q.ready.holds;
          later = q.ready.later;
        }) stack (omega arith)))))
