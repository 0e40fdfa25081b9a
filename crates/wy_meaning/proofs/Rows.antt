-- Programs of the language, each with its instances in start order.
use Rattle.std.proofs.Common.{codes, ℕ, ℤ, pos, negsuc, ◌-◌, ◌^◌, Bool, false, List, [], ◌∷◌}
use Rattle.wy_types.specs.declared.code.BinaryOperator.TheVariants.{Divide, Remainder, Join, Equal, And, Or}
use Rattle.wy_types.specs.declared.code.TextOperator.TheVariants.{Size, Part, Code, Byte, Show}
use Rattle.wy_types.specs.declared.code.Binding.TheVariants as to
use Rattle.wy_types.specs.declared.code.Variable.TheVariants.{Parameter, Local}
use Rattle.wy_types.specs.Code.{Expr, Unary, Binary, TextCall, New, Ascribe, Assign, Plain, If, none, Block, Last}
use Rattle.wy_types.specs.declared.types.TypeRef.TheVariants.{Unit as UnitType}
use Rattle.wy_types.specs.declared.code.UnaryOperator.TheVariants.{Negate, Not}
use Rattle.wy_types.specs.Program.{Program, Body}
use Rattle.wy_meaning.specs.Starts.{Started}
use Rattle.wy_meaning.proofs.Programs.{at, somewhere, number, quoted, truth, nothing, this, own, field, parameter, local, values, call_at, call, last, then, val, method, one, two, literal, grant, formal, used, line, imported, unit, main, bare, program, started, handed_grant, handed_instance}

------------------------------------------------------------
-- `()`, and one write

abbrev pub empty : Program
empty = program (main [] (bare ∷ []) (last nothing) [] ∷ [])

abbrev pub hello : Program
hello = program (main (grant (codes "console") 0 ∷ []) (bare ∷ []) (last (call (own 0) (codes "write") (quoted (codes "hello\n") ∷ []))) [] ∷ [])

------------------------------------------------------------
-- A logger: `def log(t) = disk.append("log", t)`, called as `lg.log("a")`

abbrev pub logger : Program
logger = program (
    unit (codes "logger") (formal (codes "disk") ∷ []) (bare ∷ []) none
    (method 0 (codes "log") one (last (call (own 0) (codes "append") (quoted (codes "log") ∷ parameter 0 0 ∷ []))) ∷ []) ∷
    main (grant (codes "disk") 1 ∷ line (codes "lg") 0 (0 ∷ []) ∷ []) (bare ∷ []) (last (call (own 1) (codes "log") (quoted (codes "a") ∷ []))) [] ∷ [])

abbrev pub logger_started : List Started
logger_started = started (codes "lg") 0 (handed_grant 0 ∷ []) ∷ []

------------------------------------------------------------
-- A plain module that keeps a callback in a field and calls it later

abbrev pub fire : ℕ → List ℕ → Block
fire k file = last (call (own 0) (codes "append") (quoted file ∷ parameter k 0 ∷ []))

abbrev pub kept_callback : Program
kept_callback = program (
    unit (codes "app") (formal (codes "disk") ∷ []) (bare ∷ []) none (method 0 (codes "fire") one (fire 0 (codes "f")) ∷ []) ∷
    unit (codes "plug") (formal (codes "first") ∷ []) (literal [] (codes "h" ∷ []) ∷ []) (values (own 0 ∷ []))
    (method 0 (codes "keep") one (last (Assign somewhere (to.Field 0) (Plain (parameter 0 0)))) ∷
    method 0 (codes "go") [] (last (call (field 0) (codes "fire") (quoted (codes "go") ∷ []))) ∷ []) ∷
    main (grant (codes "disk") 1 ∷ line (codes "a") 0 (0 ∷ []) ∷ imported (codes "p") 1 (1 ∷ []) ∷ []) (bare ∷ bare ∷ [])
    (then (call (own 2) (codes "go") []) (
    val 0 (New somewhere 1 none) (
    then (call (own 2) (codes "keep") (local 0 ∷ [])) (
    last (call (own 2) (codes "go") [])))))
    (method 1 (codes "fire") one (fire 0 (codes "g")) ∷ []) ∷ [])

abbrev pub kept_callback_started : List Started
kept_callback_started = started (codes "a") 0 (handed_grant 0 ∷ []) ∷ started (codes "p") 1 (handed_instance 0 ∷ []) ∷ []

------------------------------------------------------------
-- A folder that is only read: `ro.write("x", ro.read("y"))`

abbrev pub readonly : Program
readonly = program (
    unit (codes "readonly") (formal (codes "d") ∷ []) (bare ∷ []) none
    (method 0 (codes "read") one (last (call (own 0) (codes "read") (parameter 0 0 ∷ []))) ∷
    method 0 (codes "has") one (last (call (own 0) (codes "has") (parameter 1 0 ∷ []))) ∷
    method 0 (codes "write") two (last nothing) ∷
    method 0 (codes "append") two (last nothing) ∷
    method 0 (codes "names") [] (last (call (own 0) (codes "names") [])) ∷ []) ∷
    main (grant (codes "disk") 1 ∷ line (codes "ro") 0 (0 ∷ []) ∷ []) (bare ∷ [])
    (last (call (own 1) (codes "write") (quoted (codes "x") ∷ call (own 1) (codes "read") (quoted (codes "y") ∷ []) ∷ []))) [] ∷ [])

abbrev pub readonly_started : List Started
readonly_started = started (codes "ro") 0 (handed_grant 0 ∷ []) ∷ []

------------------------------------------------------------
-- An object that leaves its module: `m.make().put("z")`

abbrev pub escaping_object : Program
escaping_object = program (
    unit (codes "maker") (formal (codes "disk") ∷ []) (bare ∷ bare ∷ []) none
    (method 0 (codes "make") [] (last (New somewhere 1 none)) ∷
    method 1 (codes "put") one (last (call (own 0) (codes "append") (quoted (codes "i") ∷ parameter 1 0 ∷ []))) ∷ []) ∷
    main (grant (codes "disk") 1 ∷ line (codes "m") 0 (0 ∷ []) ∷ []) (bare ∷ [])
    (last (call (call (own 1) (codes "make") []) (codes "put") (quoted (codes "z") ∷ []))) [] ∷ [])

abbrev pub escaping_started : List Started
escaping_started = started (codes "m") 0 (handed_grant 0 ∷ []) ∷ []

------------------------------------------------------------
-- A quotient between two writes, at its place

abbrev pub write_console : List ℕ → Expr
write_console text = call (own 0) (codes "write") (quoted text ∷ [])

abbrev pub between_writes : Expr → Program
between_writes e = program (main (grant (codes "console") 0 ∷ []) (bare ∷ []) (then (write_console (codes "a")) (val 0 e (last (write_console (codes "b"))))) [] ∷ [])

abbrev pub least : ℤ
least = negsuc (2 ^ 63 - 1)

abbrev pub overflow : Program
overflow = between_writes (Binary (at 5 34) Divide (number least) (number (negsuc 0)))

abbrev pub zero_divisor : Program
zero_divisor = between_writes (Binary (at 5 15) Divide (number (pos 1)) (number (pos 0)))

abbrev pub least_remainder : Program
least_remainder = between_writes (Binary (at 5 34) Remainder (number least) (number (negsuc 0)))

------------------------------------------------------------
-- A method that calls itself for ever

abbrev pub deep : Program
deep = program (
    unit (codes "loop") [] (bare ∷ []) none (method 0 (codes "go") [] (last (call this (codes "go") [])) ∷ []) ∷
    main (grant (codes "console") 0 ∷ line (codes "l") 0 [] ∷ []) (bare ∷ []) (then (write_console (codes "s")) (last (call (own 1) (codes "go") []))) [] ∷ [])

abbrev pub deep_started : List Started
deep_started = started (codes "l") 0 [] ∷ []

------------------------------------------------------------
-- The receiver before the argument: `g.get().put(clock.now())`

abbrev pub receiver_first : Program
receiver_first = program (
    unit (codes "get") (formal (codes "c") ∷ []) (bare ∷ bare ∷ []) none
    (method 0 (codes "get") [] (then (call (own 0) (codes "write") (quoted (codes "1") ∷ [])) (last (New somewhere 1 none))) ∷
    method 1 (codes "put") one (last (call (own 0) (codes "write") (TextCall somewhere Show (values (parameter 1 0 ∷ [])) ∷ []))) ∷ []) ∷
    main (grant (codes "console") 0 ∷ grant (codes "clock") 2 ∷ line (codes "g") 0 (0 ∷ []) ∷ []) (bare ∷ [])
    (last (call (call (own 2) (codes "get") []) (codes "put") (call (own 1) (codes "now") [] ∷ []))) [] ∷ [])

abbrev pub receiver_first_started : List Started
receiver_first_started = started (codes "g") 0 (handed_grant 0 ∷ []) ∷ []

------------------------------------------------------------
-- A program of three files: a pure module, a logger, and a plain module that is handed a folder and the logger

abbrev pub clean_safe : Block
clean_safe =
    Last (If somewhere (Binary somewhere Equal (TextCall somewhere Size (values (parameter 0 0 ∷ []))) (number (pos 0)))
    (last (quoted (codes "empty"))) (last (parameter 0 0)))

abbrev pub logger_log : Block
logger_log =
    last (call (own 0) (codes "append") (quoted (codes "log") ∷
    Binary somewhere Join (call (own 1) (codes "safe") (parameter 0 0 ∷ [])) (quoted (codes "\n")) ∷ []))

abbrev pub report_each : Block
report_each =
    then (Assign somewhere (to.Field 0) (Plain (call (own 1) (codes "read") (quoted (codes "in") ∷ [])))) (
    then (call (own 0) (codes "log") (field 0 ∷ [])) (
    last (call (parameter 0 0) (codes "got") (field 0 ∷ []))))

abbrev pub three_files_run : Block
three_files_run =
    val 0 (New somewhere 1 none) (
    then (call (own 5) (codes "each") (local 0 ∷ [])) (
    last (call (own 4) (codes "log") (quoted (codes "done") ∷ []))))

abbrev pub got : Body
got = method 1 (codes "got") one (last (call (own 0) (codes "write") (call (own 3) (codes "safe") (parameter 0 0 ∷ []) ∷ [])))

abbrev pub three_files : Program
three_files = program (
    unit (codes "clean") [] (bare ∷ []) none (method 0 (codes "safe") one clean_safe ∷ []) ∷
    unit (codes "logger") (formal (codes "disk") ∷ used (codes "clean") 0 ∷ []) (bare ∷ []) none (method 0 (codes "log") one logger_log ∷ []) ∷
    unit (codes "report") (formal (codes "l") ∷ formal (codes "d") ∷ []) (literal [] (codes "last" ∷ []) ∷ []) (values (quoted [] ∷ []))
    (method 0 (codes "each") one report_each ∷ []) ∷
    main (grant (codes "console") 0 ∷ grant (codes "data") 1 ∷ grant (codes "logs") 1 ∷ used (codes "clean") 0 ∷
    line (codes "lg") 1 (2 ∷ []) ∷ imported (codes "rep") 2 (4 ∷ 1 ∷ []) ∷ []) (bare ∷ bare ∷ [])
    three_files_run (got ∷ []) ∷ [])

abbrev pub three_files_started : List Started
three_files_started =
    started (codes "pure clean") 0 [] ∷ started (codes "lg") 1 (handed_grant 2 ∷ handed_instance 0 ∷ []) ∷
    started (codes "rep") 2 (handed_instance 1 ∷ handed_grant 1 ∷ []) ∷ []

------------------------------------------------------------
-- An object whose field changes between the calls of its methods, and which captured a local:
-- `n = n ++ t ++ k`, and then `console.write(n)`

abbrev pub join : Expr → Expr → Expr
join x y = Binary somewhere Join x y

abbrev pub counter : Program
counter = program (
    main (grant (codes "console") 0 ∷ []) (bare ∷ literal (Local 0 ∷ []) (codes "n" ∷ []) ∷ [])
    (val 0 (quoted (codes "x")) (
    val 1 (New somewhere 1 (values (quoted (codes "a") ∷ []))) (
    then (call (local 1) (codes "add") (quoted (codes "b") ∷ [])) (
    then (call (local 1) (codes "add") (quoted (codes "c") ∷ [])) (
    last (call (local 1) (codes "show") []))))))
    (method 1 (codes "add") one (last (Assign somewhere (to.Field 0) (Plain (join (join (field 0) (parameter 0 0)) (local 0))))) ∷
    method 1 (codes "show") [] (last (call (own 0) (codes "write") (field 0 ∷ []))) ∷ []) ∷ [])

------------------------------------------------------------
-- A literal inside a literal of a module: `m.make("a").put("b").last("c")` writes all three texts

abbrev pub nested : Program
nested = program (
    unit (codes "maker") (formal (codes "c") ∷ []) (bare ∷ literal (Parameter 0 0 ∷ []) [] ∷ literal (Parameter 0 0 ∷ Parameter 1 0 ∷ []) [] ∷ []) none
    (method 0 (codes "make") one (last (New somewhere 1 none)) ∷
    method 1 (codes "put") one (last (New somewhere 2 none)) ∷
    method 2 (codes "last") one (last (call (own 0) (codes "write") (join (join (parameter 0 0) (parameter 1 0)) (parameter 2 0) ∷ []))) ∷ []) ∷
    main (grant (codes "console") 0 ∷ line (codes "m") 0 (0 ∷ []) ∷ []) (bare ∷ [])
    (last (call (call (call (own 1) (codes "make") (quoted (codes "a") ∷ [])) (codes "put") (quoted (codes "b") ∷ [])) (codes "last") (quoted (codes "c") ∷ []))) [] ∷ [])

abbrev pub nested_started : List Started
nested_started = started (codes "m") 0 (handed_grant 0 ∷ []) ∷ []

-- a file is read by a name that is no file's
abbrev pub bad_name : Program
bad_name = program (main (grant (codes "disk") 1 ∷ []) (bare ∷ []) (val 0 (call_at (at 4 18) (own 0) (codes "read") (quoted (codes "../x") ∷ [])) (last nothing)) [] ∷ [])

------------------------------------------------------------
-- The operations on texts, and `&&`, `||`, `!`, a choice and an ascription

abbrev pub show : Expr → Expr
show e = TextCall somewhere Show (values (e ∷ []))

-- `text_part("abcd", 1, 3) ++ text_byte(65) ++ text_show(text_code("ab", 1)) ++ text_show(-text_size("abc"))`
abbrev pub text_sample : Expr
text_sample =
    join (join (join (TextCall somewhere Part (values (quoted (codes "abcd") ∷ number (pos 1) ∷ number (pos 3) ∷ [])))
    (TextCall somewhere Byte (values (number (pos 65) ∷ []))))
    (show (TextCall somewhere Code (values (quoted (codes "ab") ∷ number (pos 1) ∷ [])))))
    (show (Unary somewhere Negate (TextCall somewhere Size (values (quoted (codes "abc") ∷ [])))))

-- `if (b && !false) || 1 / 0 == 1 then "y" else "n"`, as the value of an ascription
abbrev pub choice_sample : Bool → Expr
choice_sample b =
    Ascribe somewhere (If somewhere (Binary somewhere Or (Binary somewhere And (truth b) (Unary somewhere Not (truth false)))
    (Binary somewhere Equal (Binary (at 7 9) Divide (number (pos 1)) (number (pos 0))) (number (pos 1))))
    (last (quoted (codes "y"))) (last (quoted (codes "n")))) UnitType

abbrev pub samples : Bool → Program
samples b = program (main (grant (codes "console") 0 ∷ []) (bare ∷ []) (
    val 0 text_sample (
    then (call (own 0) (codes "write") (local 0 ∷ [])) (
    last (call (own 0) (codes "write") (choice_sample b ∷ []))))) [] ∷ [])
