-- The meaning of expressions and blocks: evaluation from left to right, by recursion on the expression.
-- (docs/LANGUAGE.md, "Evaluation")
use Rattle.std.specs.Prelude.{codes, decimal, ℕ, zero, suc, ◌+◌, true, false, List, [], ◌∷◌, ◌++◌, length, nat_eq, ◌&&◌, Option, Some, None, bytes_eq, slice_get, if◌then◌else◌}
use Rattle.wy_text.specs.declared.fault.Place.{Place}
use Rattle.wy_types.specs.declared.code.Variable.{Variable}
use Rattle.wy_types.specs.declared.code.Variable.TheVariants.{Parameter, Local}
use Rattle.wy_types.specs.declared.code.Binding.{Binding}
use Rattle.wy_types.specs.declared.code.Binding.TheVariants as to
use Rattle.wy_types.specs.declared.code.BinaryOperator.{BinaryOperator}
use Rattle.wy_types.specs.declared.code.BinaryOperator.TheVariants.{And, Or}
use Rattle.wy_types.specs.declared.linked.Actual.{Actual}
use Rattle.wy_types.specs.declared.linked.Actual.TheVariants as actual
use Rattle.wy_types.specs.declared.resolved.Literal.{Literal}
use Rattle.wy_types.specs.Code as code
use Rattle.wy_types.specs.Code.{Expr, Number, Quoted, Truth as TruthOf, Nothing as NothingOf, This, Name, Unary, Binary, TextCall, Call, New, Ascribe, Assign, Plain, If, Values, none, more, Block, Last, Then, Val}
use Rattle.wy_types.specs.Program.{Program, Scope, Body}
use Rattle.wy_device.specs.declared.deed.Event.TheVariants.{Enter}
use Rattle.wy_device.specs.Editions.{Edition}
use Rattle.wy_device.specs.RunEnds.{TooDeep, Wrong}
use Rattle.wy_meaning.specs.Values.{Value, Int, Truth, Nothing, Text, Object, Grant, Named, value_named, Thing, World, Reply, stopped, found, object_of, field_in, object_made, write_field}
use Rattle.wy_meaning.specs.Starts.{Started, Starts, all_started, actual_of, scope_of_instance, literal_in, grant_of}
use Rattle.wy_meaning.specs.Results.{Result, give, stop, node, tick, settle, bind, whole}
use Rattle.wy_meaning.specs.Operating.{unary_operator, binary_operator, text_operator, operated}
use Rattle.wy_meaning.specs.Performing.{perform}

-- where an expression stands: in an instance (or `main`, which comes after them), in a method of an object, with
-- these variables in sight
pub record Sight : Type 0 where
  pub instance : ℕ
  pub this : Option ℕ
  pub variables : Named

-- a call on an object: the object, the method, the arguments
abbrev pub Calls : Type 0
Calls = ℕ → List ℕ → List Value → World → Result Value

------------------------------------------------------------
-- Names

abbrev pub object_value : Option ℕ → Option Value
object_value None = None
object_value (Some a) = Some (Object a)

abbrev pub actual_value : Option Actual → Option Value
actual_value None = None
actual_value (Some (actual.Grant g)) = Some (Grant g)
actual_value (Some (actual.Instance x)) = Some (Object x)

-- what a name stands for: a variable, a field of the current object, an own name of the scope
abbrev pub value_of_name : Starts → Sight → World → Binding → Option Value
value_of_name s sight w (to.Variable v) = value_named sight.variables v
value_of_name s sight w (to.Field i) = field_in (object_of w sight.this) i
value_of_name s sight w (to.Own k) = actual_value (actual_of s sight.instance k)

abbrev pub assigned : Sight → Binding → Value → World → Reply
assigned sight (to.Field i) v w = write_field sight.this i v w
assigned sight (to.Variable x) v w = stopped Wrong w
assigned sight (to.Own k) v w = stopped Wrong w

abbrev pub with_local : Sight → ℕ → Value → Sight
with_local sight n v = record sight { variables = (Local n, v) ∷ sight.variables }

------------------------------------------------------------
-- Objects

abbrev pub with_named : Variable → Option Value → Option Named → Option Named
with_named x None rest = None
with_named x (Some v) None = None
with_named x (Some v) (Some named) = Some ((x, v) ∷ named)

-- the variables of a list with their values, where all are in sight
abbrev pub captured_from : Named → List Variable → Option Named
captured_from variables [] = Some []
captured_from variables (x ∷ xs) = with_named x (value_named variables x) (captured_from variables xs)

abbrev pub object_with : Place → Sight → ℕ → List Value → World → Option Named → Reply
object_with place sight l fields w None = stopped Wrong w
object_with place sight l fields w (Some captured) =
    object_made place (record { instance = sight.instance; literal = l; captured = captured; fields = fields }) w

-- an object of a literal, with the values of its fields
abbrev pub object_new : Place → Sight → ℕ → List Value → World → Option Literal → Reply
object_new place sight l fields w None = stopped Wrong w
object_new place sight l fields w (Some literal) =
    if nat_eq (length fields) (length literal.fields)
    then object_with place sight l fields w (captured_from sight.variables literal.captures)
    else stopped Wrong w

------------------------------------------------------------
-- Expressions

abbrev pub choose : {A : Type 0} → Value → (World → Result A) → (World → Result A) → World → Result A
choose (Truth true) first second w = first w
choose (Truth false) first second w = second w
choose _ first second w = stop Wrong w

-- the rest of a binary operation, whose left side has its value
abbrev pub go_on : Edition → Place → BinaryOperator → Value → (World → Result Value) → World → Result Value
go_on edition place And v right w =
    tick (choose v (λ w. bind (right w) (λ u w. tick (give u w))) (λ w. tick (give (Truth false) w)) w)
go_on edition place Or v right w =
    tick (choose v (λ w. tick (tick (give (Truth true) w))) right w)
go_on edition place o v right w = bind (right w) (λ u w. tick (settle (operated edition place (binary_operator o) (v ∷ u ∷ []) w)))

-- a call on an object, or an operation on a grant
abbrev pub apply : Program → Starts → Calls → Place → Value → List ℕ → List Value → World → Result Value
apply p s calls place (Object a) method vs w = calls a method vs w
apply p s calls place (Grant g) method vs w = perform s.edition place (grant_of s.edition p g) method vs w
apply p s calls place (Int n) method vs w = stop Wrong w
apply p s calls place (Truth b) method vs w = stop Wrong w
apply p s calls place Nothing method vs w = stop Wrong w
apply p s calls place (Text bytes) method vs w = stop Wrong w

module _ (p : Program) (s : Starts) (calls : Calls) where
  unfoldable mutual
    pub eval : Sight → Expr → World → Result Value
    eval sight (Number place n) w = node (tick (give (Int n) w))
    eval sight (Quoted place bytes) w = node (tick (give (Text bytes) w))
    eval sight (TruthOf place b) w = node (tick (give (Truth b) w))
    eval sight (NothingOf place) w = node (tick (give Nothing w))
    eval sight (This place) w = node (tick (settle (found (object_value sight.this) w)))
    eval sight (Name place name) w = node (tick (settle (found (value_of_name s sight w name) w)))
    eval sight (Unary place o x) w =
        node (bind (eval sight x w) (λ v w. tick (settle (operated s.edition place (Some (unary_operator o)) (v ∷ []) w))))
    eval sight (Binary place o x y) w = node (bind (eval sight x w) (λ v w. go_on s.edition place o v (eval sight y) w))
    eval sight (TextCall place o xs) w =
        node (bind (eval_all sight xs w) (λ vs w. tick (settle (operated s.edition place (Some (text_operator o)) vs w))))
    eval sight (Call place x method xs) w =
        node (bind (eval sight x w) (λ v w. bind (eval_all sight xs w) (λ vs w. tick (apply p s calls place v method vs w))))
    eval sight (New place l xs) w =
        node (bind (eval_all sight xs w) (λ vs w. tick (settle (object_new place sight l vs w (literal_in (scope_of_instance p s sight.instance) l)))))
    eval sight (Ascribe place x t) w = node (eval_value sight x w)
    eval sight (Assign place name x) w =
        node (bind (eval_value sight x w) (λ v w. bind (tick (settle (assigned sight name v w))) (λ u w. tick (give Nothing w))))

    pub eval_value : Sight → code.Value → World → Result Value
    eval_value sight (Plain x) w = eval sight x w
    eval_value sight (If place test first second) w =
        node (bind (eval sight test w) (λ v w. tick (choose v (λ w. bind (eval_block sight first w) (λ u w. tick (give u w))) (eval_block sight second) w)))

    pub eval_all : Sight → Values → World → Result (List Value)
    eval_all sight none w = give [] w
    eval_all sight (more x xs) w = bind (eval_value sight x w) (λ v w. bind (eval_all sight xs w) (λ vs w. give (v ∷ vs) w))

    pub eval_block : Sight → Block → World → Result Value
    eval_block sight (Last x) w = eval_value sight x w
    eval_block sight (Then x rest) w = bind (eval_value sight x w) (λ v w. tick (eval_block sight rest w))
    eval_block sight (Val place n typ x rest) w =
        node (bind (eval_value sight x w) (λ v w. tick (eval_block (with_local sight n v) rest w)))

------------------------------------------------------------
-- Calls

-- a method: its number among the scope's bodies, and its body
pub record Method : Type 0 where
  pub number : ℕ
  pub body : Body

-- the method of a name of the module (0) or of a literal
abbrev pub find_body : ℕ → ℕ → List ℕ → List Body → Option Method
find_body k l name [] = None
find_body k l name (b ∷ bs) =
    if nat_eq b.owner l && bytes_eq b.signature.name name then Some (record { number = k; body = b }) else find_body (k + 1) l name bs

abbrev pub method_in : Option Scope → ℕ → List ℕ → Option Method
method_in None l name = None
method_in (Some s) l name = find_body 0 l name s.bodies

-- parameters with their values
abbrev pub parameters : ℕ → ℕ → List Value → Named
parameters k i [] = []
parameters k i (v ∷ vs) = (Parameter k i, v) ∷ parameters k (i + 1) vs

-- what a method is called in events: a literal's with the literal's number before it
abbrev pub body_text : ℕ → List ℕ → List ℕ
body_text zero name = name
body_text (suc l) name = codes "new" ++ decimal (suc l) ++ codes "." ++ name

abbrev pub started_name : Option Started → List ℕ
started_name None = []
started_name (Some s) = s.name

-- what an instance is called in events
abbrev pub instance_name : Starts → ℕ → List ℕ
instance_name s x = started_name (slice_get (all_started s) x)

abbrev pub called : Program → Starts → Calls → ℕ → Thing → List ℕ → List Value → World → Option Method → Result Value
called p s calls a t name vs w None = stop Wrong w
called p s calls a t name vs w (Some m) =
    if nat_eq (length vs) (length m.body.signature.params)
    then whole (Enter (instance_name s t.instance) (body_text t.literal name))
    (eval_block p s calls (record { instance = t.instance; this = Some a; variables = parameters m.number 0 vs ++ t.captured }) m.body.block w)
    else stop Wrong w

abbrev pub called_on : Program → Starts → Calls → ℕ → List ℕ → List Value → World → Option Thing → Result Value
called_on p s calls a name vs w None = stop Wrong w
called_on p s calls a name vs w (Some t) = called p s calls a t name vs w (method_in (scope_of_instance p s t.instance) t.literal name)

-- at most n further calls on objects open at once
unfoldable pub open_calls : Program → Starts → ℕ → Calls
open_calls p s zero a name vs w = stop TooDeep w
open_calls p s (suc n) a name vs w = called_on p s (open_calls p s n) a name vs w (slice_get w.objects a)
