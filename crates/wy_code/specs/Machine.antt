-- One step of the machine, by the instruction that comes next. (docs/LANGUAGE.md, "Code", "Causes in one step")
use Rattle.std.specs.Prelude.{ℕ, zero, suc, ◌+◌, Bool, true, false, List, [], ◌∷◌, ◌++◌, length, drop, replicate, Option, Some, None, nat_eq, nat_lt, slice_get, slice_set, if◌then◌else◌}
use Rattle.wy_text.specs.declared.fault.Place.{Place}
use Rattle.wy_device.specs.declared.deed.Event.{Event}
use Rattle.wy_device.specs.declared.deed.Event.TheVariants.{Enter, Leave}
use Rattle.wy_device.specs.RunEnds.{RunEnd, Ended, TooDeep, Wrong}
use Rattle.wy_code.specs.declared.instruction.Constant.{Constant}
use Rattle.wy_code.specs.declared.instruction.Constant.TheVariants as constant
use Rattle.wy_code.specs.declared.instruction.Instruction.{Instruction}
use Rattle.wy_code.specs.declared.instruction.Instruction.TheVariants.{Push, Load, Store as StoreIn, Get, Set, Drop, Op, Jump, JumpFalse, New, Call, Return, Finish}
use Rattle.wy_code.specs.declared.instruction.Placed.{Placed}
use Rattle.wy_code.specs.declared.code.Code.{Code}
use Rattle.wy_code.specs.declared.code.Body.{Body}
use Rattle.wy_code.specs.declared.code.Scope.{Scope}
use Rattle.wy_code.specs.declared.code.Literal.{Literal}
use Rattle.wy_code.specs.declared.code.Method.{Method}
use Rattle.wy_code.specs.declared.code.Instance.{Instance}
use Rattle.wy_code.specs.declared.code.Source.{Source}
use Rattle.wy_code.specs.declared.code.Source.TheVariants.{Slot, Value}
use Rattle.wy_code.specs.Stores.{Word, Int, Truth, Nothing, Text, Object, Grant, Thing, Store, Reply, Replies, Ends, found, object_made, value_at, value_set}
use Rattle.wy_code.specs.Operations.{operand_count, operated, performed}

-- a body that runs or waits for a call: whose it is, the instructions to come, its slots, and its operands, the
-- topmost first
pub record Frame : Type 0 where
  pub instance : ℕ
  pub body : Body
  pub rest : List Placed
  pub slots : List Word
  pub operands : List Word

-- the frame that runs, those that wait for it, the latest first, and the store
pub record State : Type 0 where
  pub frame : Frame
  pub callers : List Frame
  pub store : Store

-- a step goes on with some events, or it ends the run
pub data Next : Type 0 where
  Go : List Event → State → Next
  Halt : RunEnd → List Event → Next

abbrev pub stuck : Next
stuck = Halt Wrong []

abbrev pub with_operands : List Word → State → State
with_operands vs s = record s { frame = record (s.frame) { operands = vs } }

abbrev pub with_store : Store → State → State
with_store w s = record s { store = w }

------------------------------------------------------------
-- Operands and slots

-- there is room for one more operand within the body's slots
abbrev pub has_room : Frame → Bool
has_room f = nat_lt (length f.slots + length f.operands) f.body.slots

abbrev pub push : Word → List Event → State → Next
push v es s = if has_room s.frame then Go es (with_operands (v ∷ s.frame.operands) s) else stuck

-- pushes what an operation came to
abbrev pub push_reply : Reply → State → Next
push_reply (Replies v w es) s = push v es (with_store w s)
push_reply (Ends e es) s = Halt e es

-- goes on with the topmost operand, which is popped
abbrev pub popped : List Word → State → (Word → State → Next) → Next
popped [] s go = stuck
popped (v ∷ vs) s go = go v (with_operands vs s)

abbrev pub pop : State → (Word → State → Next) → Next
pop s go = popped s.frame.operands s go

-- the k topmost operands in the order in which they were pushed, and those below
pub data Taken : Type 0 where
  short : Taken
  taken : List Word → List Word → Taken

abbrev pub take_operands : ℕ → List Word → List Word → Taken
take_operands zero operands vs = taken vs operands
take_operands (suc k) [] vs = short
take_operands (suc k) (v ∷ operands) vs = take_operands k operands (v ∷ vs)

abbrev pub on_taken : Taken → State → (List Word → State → Next) → Next
on_taken short s go = stuck
on_taken (taken vs operands) s go = go vs (with_operands operands s)

-- goes on with the k topmost operands, which are popped
abbrev pub pop_all : ℕ → State → (List Word → State → Next) → Next
pop_all k s go = on_taken (take_operands k s.frame.operands []) s go

abbrev pub first_of : List Word → Word
first_of [] = Nothing
first_of (v ∷ vs) = v

-- the current object, which stands in the first slot
abbrev pub this_of : Frame → Word
this_of f = first_of f.slots

abbrev pub store_slot : ℕ → Word → State → Next
store_slot i v s =
    if nat_lt i (length s.frame.slots) then Go [] (record s { frame = record (s.frame) { slots = slice_set s.frame.slots i v } }) else stuck

abbrev pub stored : Option Store → State → Next
stored None s = stuck
stored (Some w) s = Go [] (with_store w s)

-- an address of the body
abbrev pub jump : ℕ → State → Next
jump to s = Go [] (record s { frame = record (s.frame) { rest = drop to s.frame.body.instructions } })

abbrev pub on_truth : Word → Next → Next → Next
on_truth (Truth true) a b = a
on_truth (Truth false) a b = b
on_truth _ a b = stuck

abbrev pub word_of : Constant → Word
word_of (constant.Int n) = Int n
word_of (constant.Truth b) = Truth b
word_of constant.Unit = Nothing
word_of (constant.Text t) = Text t
word_of (constant.Grant g) = Grant g
word_of (constant.Instance x) = Object x

------------------------------------------------------------
-- Scopes and objects

-- the instances in start order, and then the program itself
abbrev pub all_instances : Code → List Instance
all_instances code = code.instances ++ code.main ∷ []

abbrev pub scope_in : Code → Option Instance → Option Scope
scope_in code None = None
scope_in code (Some i) = slice_get code.scopes i.scope

abbrev pub literal_of_scope : Option Scope → ℕ → Option Literal
literal_of_scope None l = None
literal_of_scope (Some s) l = slice_get s.literals l

-- literal l of an instance's scope
abbrev pub literal_of : Code → ℕ → ℕ → Option Literal
literal_of code x l = literal_of_scope (scope_in code (slice_get (all_instances code) x)) l

abbrev pub with_word : Option Word → Option (List Word) → Option (List Word)
with_word None rest = None
with_word (Some v) None = None
with_word (Some v) (Some vs) = Some (v ∷ vs)

abbrev pub word_from : Frame → Store → Source → Option Word
word_from f w (Slot i) = slice_get f.slots i
word_from f w (Value i) = value_at w (this_of f) i

abbrev pub words_from : Frame → Store → List Source → Option (List Word)
words_from f w [] = Some []
words_from f w (s ∷ ss) = with_word (word_from f w s) (words_from f w ss)

abbrev pub make_with : Place → ℕ → List Word → State → Option (List Word) → Next
make_with place l fields s None = stuck
make_with place l fields s (Some captured) =
    push_reply (object_made place (record { instance = s.frame.instance; literal = l; values = captured ++ fields }) s.store) s

abbrev pub make : Place → ℕ → State → Option Literal → Next
make place l s None = stuck
make place l s (Some literal) =
    pop_all literal.fields s (λ fields s. make_with place l fields s (words_from s.frame s.store literal.captures))

------------------------------------------------------------
-- Calls

abbrev pub body_called : ℕ → List Method → Option ℕ
body_called m [] = None
body_called m (x ∷ xs) = if nat_eq x.method m then Some x.body else body_called m xs

abbrev pub body_numbered : Code → Option ℕ → Option Body
body_numbered code None = None
body_numbered code (Some b) = slice_get code.bodies b

abbrev pub method_of_literal : Code → Option Literal → ℕ → Option Body
method_of_literal code None m = None
method_of_literal code (Some l) m = body_numbered code (body_called m l.methods)

abbrev pub name_in : Option Instance → List ℕ
name_in None = []
name_in (Some i) = i.name

-- a body at its first instruction: the current object, the arguments, and no `val` yet
abbrev pub frame_at_first : ℕ → Word → List Word → Body → Frame
frame_at_first x this vs b = record { instance = x; body = b; rest = b.instructions; slots = this ∷ (vs ++ replicate b.vals Nothing); operands = [] }

abbrev pub enter_body : Code → ℕ → ℕ → List Word → State → Option Body → Next
enter_body code a x vs s None = stuck
enter_body code a x vs s (Some b) =
    if nat_eq (length vs) b.parameters
    then Go (Enter (name_in (slice_get (all_instances code) x)) b.name ∷ [])
    (record { frame = frame_at_first x (Object a) vs b; callers = s.frame ∷ s.callers; store = s.store })
    else stuck

abbrev pub enter_method : Code → ℕ → ℕ → List Word → State → Option Thing → Next
enter_method code a m vs s None = stuck
enter_method code a m vs s (Some t) = enter_body code a t.instance vs s (method_of_literal code (literal_of code t.instance t.literal) m)

-- a call on an object, which is too deep before all else; or an operation on a grant
abbrev pub call_on : Code → ℕ → Place → ℕ → List Word → Word → State → Next
call_on code n place m vs (Object a) s =
    if nat_lt (length s.callers) n then enter_method code a m vs s (slice_get s.store.objects a) else Halt TooDeep []
call_on code n place m vs (Grant g) s = push_reply (performed place (slice_get code.grants g) (slice_get code.methods m) vs s.store) s
call_on code n place m vs _ s = stuck

abbrev pub return_to : Word → List Frame → Store → Next
return_to v [] w = stuck
return_to v (f ∷ fs) w = Go (Leave ∷ []) (record { frame = record f { operands = v ∷ f.operands }; callers = fs; store = w })

------------------------------------------------------------
-- Starting

-- the current object of a body that starts: the instance's own, and none for the program
abbrev pub this_at_start : Code → ℕ → Word
this_at_start code x = if nat_lt x (length code.instances) then Object x else Nothing

abbrev pub begin_body : Code → ℕ → List ℕ → List Event → Store → Option Body → Next
begin_body code x name es w None = stuck
begin_body code x name es w (Some b) =
    Go (es ++ Enter name b.name ∷ []) (record { frame = frame_at_first x (this_at_start code x) [] b; callers = []; store = record w { next = suc x } })

abbrev pub start_in : Code → Option Scope → Option Body
start_in code None = None
start_in code (Some s) = slice_get code.bodies s.start

-- after these events, the instance of a number or the program; or the end, where nothing is left to start
abbrev pub begin_instance : Code → ℕ → List Event → Store → Option Instance → Next
begin_instance code x es w None = Halt Ended es
begin_instance code x es w (Some i) = begin_body code x i.name es w (start_in code (slice_get code.scopes i.scope))

abbrev pub begin_next : Code → List Event → Store → Next
begin_next code es w = begin_instance code w.next es w (slice_get (all_instances code) w.next)

-- no call is open where an `init` or `run` body finishes
abbrev pub finish : Code → List Frame → Store → Next
finish code [] w = begin_next code (Leave ∷ []) w
finish code (f ∷ fs) w = stuck

------------------------------------------------------------
-- Steps

-- what an instruction does, in a state that has the instructions after it as the rest
abbrev pub act : Code → ℕ → Place → Instruction → State → Next
act code n place (Push c) s = push (word_of c) [] s
act code n place (Load i) s = push_reply (found (slice_get s.frame.slots i) s.store) s
act code n place (StoreIn i) s = pop s (λ v s. store_slot i v s)
act code n place (Get i) s = push_reply (found (value_at s.store (this_of s.frame) i) s.store) s
act code n place (Set i) s = pop s (λ v s. stored (value_set (this_of s.frame) i v s.store) s)
act code n place Drop s = pop s (λ v s. Go [] s)
act code n place (Op o) s = pop_all (operand_count o) s (λ vs s. push_reply (operated place o vs s.store) s)
act code n place (Jump to) s = jump to s
act code n place (JumpFalse to) s = pop s (λ v s. on_truth v (Go [] s) (jump to s))
act code n place (New l) s = make place l s (literal_of code s.frame.instance l)
act code n place (Call m k) s = pop_all k s (λ vs s. pop s (λ v s. call_on code n place m vs v s))
act code n place Return s = pop s (λ v s. return_to v s.callers s.store)
act code n place Finish s = finish code s.callers s.store

abbrev pub act_first : Code → ℕ → List Placed → State → Next
act_first code n [] s = stuck
act_first code n (i ∷ rest) s = act code n i.place i.instruction (record s { frame = record (s.frame) { rest = rest } })

-- one step, where at most n calls on objects may be open at once
unfoldable pub step : Code → ℕ → State → Next
step code n s = act_first code n s.frame.rest s
