-- Scopes of values on worked bodies: shadowing, captures, fields passed over, numbers by order in the tree.
use Rattle.std.proofs.Common.{◌≡◌, ℕ, List, [], ◌∷◌, refl, false, None}
use Rattle.std.specs.Prelude.{codes}
use Rattle.wy_syntax.specs.declared.types.Name.{Name}
use Rattle.wy_syntax.specs.declared.types.TypeUse.{TypeUse}
use Rattle.wy_syntax.specs.declared.types.TypeUse.TheVariants as use_of
use Rattle.wy_syntax.specs.declared.statements.FieldKind.TheVariants.{Val, Var}
use Rattle.wy_syntax.specs.Trees as t
use Rattle.wy_types.specs.declared.types.TypeRef.TheVariants as ref
use Rattle.wy_types.specs.declared.types.Method.{Method}
use Rattle.wy_types.specs.declared.code.Variable.TheVariants.{Parameter, Local}
use Rattle.wy_types.specs.declared.code.Binding.TheVariants as to
use Rattle.wy_types.specs.declared.resolved.Field.{Field}
use Rattle.wy_types.specs.Code as code
use Rattle.wy_symbols.specs.declared.refusal.Cause.TheVariants.{Unknown}
use Rattle.wy_symbols.specs.Least.{refusal_at}
use Rattle.wy_bodies.specs.Sight.{outermost, inside}
use Rattle.wy_bodies.specs.Bodies.{Within, at_start, stmts_block, stmts_literals, stmts_bodies, parts_bodies}
use Rattle.wy_bodies.specs.BodyRefusals.{stmts_refusals, parts_refusals}
use Rattle.wy_symbols.proofs.Sources.{at, word, param, def, only, named}

-- a program's scope with one own name, the grant `g`
within : Within
within = record { atoms = record { heads = []; atoms = []; owners = []; meanings = [] }; plain = false; own = codes "g" ∷ [] }

-- a name that stands alone in its line
at_line : List ℕ → ℕ → Name
at_line text line = word text line 1

int : ℕ → TypeUse
int line = use_of.Int (at line 9)

method : List ℕ → Method
method name = record { name = name; params = []; effect = []; result = ref.Int }

field_named : List ℕ → ℕ → Field
field_named name line = record { name = name; place = at line 1; mutable = false; typ = ref.Int }

------------------------------------------------------------
-- A later `val` hides an earlier one, and one does not see itself:
--   1 val a = g    2 val a = a    3 a

hiding : t.StmtTrees
hiding =
    t.more_stmts (t.val (at_line (codes "a") 1) None (named (word (codes "g") 1 9)))
    (t.more_stmts (t.val (at_line (codes "a") 2) None (named (word (codes "a") 2 9)))
    (only (named (at_line (codes "a") 3))))

hides : stmts_block within (at 9 1) outermost at_start hiding ≡
    code.Val (at 1 1) 0 None (code.Plain (code.Name (at 1 9) (to.Own 0)))
    (code.Val (at 2 1) 1 None (code.Plain (code.Name (at 2 9) (to.Variable (Local 0))))
    (code.Last (code.Plain (code.Name (at 3 1) (to.Variable (Local 1))))))
unfolding within hiding at_line
hides = refl

hiding_is_sound : stmts_refusals within outermost at_start hiding ≡ []
unfolding within hiding at_line
hiding_is_sound = refl

------------------------------------------------------------
-- A `val` that is read before it is made, and one of an inner block that is read after it:
--   1 a    2 val a = 1    3 if true    4 val b = 1    5 b    else  6 ()    7 b

early : t.StmtTrees
early =
    t.more_stmts (t.run (named (at_line (codes "a") 1)))
    (t.more_stmts (t.val (at_line (codes "a") 2) None (t.value (t.unit (at 2 9))))
    (t.more_stmts (t.run (t.branch (at 3 1) (t.yes (at 3 4))
    (t.more_stmts (t.val (at_line (codes "b") 4) None (t.value (t.unit (at 4 9)))) (only (named (at_line (codes "b") 5))))
    (only (t.value (t.unit (at 6 1))))))
    (only (named (at_line (codes "b") 7)))))

too_early : stmts_refusals within outermost at_start early ≡ refusal_at (at 1 1) Unknown ∷ refusal_at (at 7 1) Unknown ∷ []
unfolding within early at_line
too_early = refl

------------------------------------------------------------
-- Captures in a literal in a literal, in a program's block:
--   1 val a = g
--   2 val b = new
--   3   val f: Int = a
--   4   def m(p: Int): {} Int
--   5     val q = new
--   6       def k(): {} Int = a.x(p, f, b)
--   7     q
--   8 b

inner : t.PartTrees
inner = t.more_parts (t.method (def 6 (at_line (codes "k") 6) [] [] (int 6)) (t.short (t.value
    (t.call (t.name (word (codes "a") 6 20)) (word (codes "x") 6 22) (t.more (t.name (word (codes "p") 6 24)) (t.more (t.name (word (codes "f") 6 27)) (t.more (t.name (word (codes "b") 6 30)) t.none))))))) t.no_parts

outer : t.PartTrees
outer =
    t.more_parts (t.field Val (at_line (codes "f") 3) (int 3) (named (word (codes "a") 3 20)))
    (t.more_parts (t.method (def 4 (at_line (codes "m") 4) (param (word (codes "p") 4 9) (int 4) ∷ []) [] (int 4)) (t.long (
    t.more_stmts (t.val (at_line (codes "q") 5) None (t.literal (at 5 9) inner))
    (only (named (at_line (codes "q") 7))))))
    t.no_parts)

nested : t.StmtTrees
nested =
    t.more_stmts (t.val (at_line (codes "a") 1) None (named (word (codes "g") 1 9)))
    (t.more_stmts (t.val (at_line (codes "b") 2) None (t.literal (at 2 9) outer))
    (only (named (at_line (codes "b") 8))))

-- the literals are 1 and 2; `f` is looked up where the `new` stands; `b` is the `val` 1 and `q`, in it, the `val` 2
nested_block : stmts_block within (at 9 1) outermost at_start nested ≡
    code.Val (at 1 1) 0 None (code.Plain (code.Name (at 1 9) (to.Own 0)))
    (code.Val (at 2 1) 1 None (code.Plain (code.New (at 2 9) 1 (code.more (code.Plain (code.Name (at 3 20) (to.Variable (Local 0)))) code.none)))
    (code.Last (code.Plain (code.Name (at 8 1) (to.Variable (Local 1))))))
unfolding within nested outer inner at_line int
nested_block = refl

-- the inner literal captures `a` and the parameter `p`; the outer one `a` alone, though its own method writes `p` and `f` too
nested_literals : stmts_literals within outermost at_start nested ≡
    record { captures = Local 0 ∷ []; fields = field_named (codes "f") 3 ∷ [] }
    ∷ record { captures = Local 0 ∷ Parameter 0 0 ∷ []; fields = [] }
    ∷ []
unfolding within nested outer inner at_line int field_named
nested_literals = refl

-- a field of the outer object is passed over, and `b` is not yet made: both are unknown
nested_refusals : stmts_refusals within outermost at_start nested ≡ refusal_at (at 6 27) Unknown ∷ refusal_at (at 6 30) Unknown ∷ []
unfolding within nested outer inner at_line int
nested_refusals = refl

-- the method of the outer literal is the body 0, and that of the inner one the body 1
nested_bodies : stmts_bodies within outermost at_start nested ≡
    record {
      owner = 1;
      place = at 4 3;
      signature = record { name = codes "m"; params = ref.Int ∷ []; effect = []; result = ref.Int };
      block = code.Val (at 5 1) 2 None (code.Plain (code.New (at 5 9) 2 code.none)) (code.Last (code.Plain (code.Name (at 7 1) (to.Variable (Local 2)))));
    }
    ∷ record {
      owner = 2;
      place = at 6 3;
      signature = method (codes "k");
      block = code.Last (code.Plain (code.Call (at 6 22) (code.Name (at 6 20) (to.Variable (Local 0))) (codes "x")
          (code.more (code.Plain (code.Name (at 6 24) (to.Variable (Parameter 0 0))))
          (code.more (code.Plain (code.Name (at 6 27) (to.Own 0))) (code.more (code.Plain (code.Name (at 6 30) (to.Own 0))) code.none)))));
    }
    ∷ []
unfolding within nested outer inner at_line int method
nested_bodies = refl

------------------------------------------------------------
-- A field hides a local of its name in its own object, and not from an inner literal:
--   1 val x = g
--   2 new
--   3   val x: Int = x
--   4   def m(): {} Int = new
--   5     def k(): {} Int = x

passing : t.StmtTrees
passing =
    t.more_stmts (t.val (at_line (codes "x") 1) None (named (word (codes "g") 1 9)))
    (only (t.literal (at 2 1) (
    t.more_parts (t.field Val (at_line (codes "x") 3) (int 3) (named (word (codes "x") 3 20)))
    (t.more_parts (t.method (def 4 (at_line (codes "m") 4) [] [] (int 4)) (t.short (t.literal (at 4 20)
    (t.more_parts (t.method (def 5 (at_line (codes "k") 5) [] [] (int 5)) (t.short (named (word (codes "x") 5 20)))) t.no_parts))))
    t.no_parts))))

passed_over : stmts_literals within outermost at_start passing ≡
    record { captures = Local 0 ∷ []; fields = field_named (codes "x") 3 ∷ [] } ∷ record { captures = Local 0 ∷ []; fields = [] } ∷ []
unfolding within passing at_line int field_named
passed_over = refl

outer_local : stmts_bodies within outermost at_start passing ≡
    record { owner = 1; place = at 4 3; signature = method (codes "m"); block = code.Last (code.Plain (code.New (at 4 20) 2 code.none)) }
    ∷ record { owner = 2; place = at 5 3; signature = method (codes "k"); block = code.Last (code.Plain (code.Name (at 5 20) (to.Variable (Local 0)))) }
    ∷ []
unfolding within passing at_line int method
outer_local = refl

------------------------------------------------------------
-- In a module: its field is seen by its method and hidden by a parameter; an initialiser sees neither fields nor `this`:
--   1 val f: Int = g    2 val h: Int = f    3 val i: Int = this
--   4 def m(f: Int): {} Int
--   5   h = f
--   6   this

module_parts : t.PartTrees
module_parts =
    t.more_parts (t.field Val (at_line (codes "f") 1) (int 1) (named (word (codes "g") 1 20)))
    (t.more_parts (t.field Var (at_line (codes "h") 2) (int 2) (named (word (codes "f") 2 20)))
    (t.more_parts (t.field Val (at_line (codes "i") 3) (int 3) (t.value (t.this (at 3 20))))
    (t.more_parts (t.method (def 4 (at_line (codes "m") 4) (param (word (codes "f") 4 9) (int 4) ∷ []) [] (int 4)) (t.long (
    t.more_stmts (t.assign (at_line (codes "h") 5) (named (word (codes "f") 5 9)))
    (only (t.value (t.this (at 6 1)))))))
    t.no_parts)))

in_module : parts_refusals within outermost (inside outermost module_parts) at_start module_parts ≡ refusal_at (at 2 20) Unknown ∷ refusal_at (at 3 20) Unknown ∷ []
unfolding within module_parts at_line int
in_module = refl

module_method : parts_bodies within outermost (inside outermost module_parts) 0 at_start module_parts ≡
    record {
      owner = 0;
      place = at 4 3;
      signature = record { name = codes "m"; params = ref.Int ∷ []; effect = []; result = ref.Int };
      block = code.Then (code.Plain (code.Assign (at 5 1) (to.Field 1) (code.Plain (code.Name (at 5 9) (to.Variable (Parameter 0 0))))))
          (code.Last (code.Plain (code.This (at 6 1))));
    } ∷ []
unfolding within module_parts at_line int
module_method = refl
