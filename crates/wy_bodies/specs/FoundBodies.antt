-- What a walk over the bodies of a scope has found so far, and what it has found after a part.
use Rattle.std.specs.Prelude.{ℕ, List, [], ◌∷◌, ◌++◌, map, Option}
use Rattle.wy_text.specs.declared.fault.Place.{Place}
use Rattle.wy_syntax.specs.Trees as t
use Rattle.wy_types.specs.declared.code.Stmt as s
use Rattle.wy_types.specs.declared.code.Variable.{Variable}
use Rattle.wy_types.specs.declared.code.Variable.TheVariants.{Local}
use Rattle.wy_types.specs.declared.resolved.Literal.{Literal}
use Rattle.wy_types.specs.declared.types.TypeRef.{TypeRef}
use Rattle.wy_types.specs.Code as code
use Rattle.wy_types.specs.View.{value_of, stmt_block}
use Rattle.wy_types.specs.Program.{Body, body_of}
use Rattle.wy_symbols.specs.declared.refusal.Refusal.{Refusal}
use Rattle.wy_bodies.specs.declared.statements.Count as counted
use Rattle.wy_bodies.specs.declared.statements.Found as found
use Rattle.wy_symbols.specs.Least.{noted}
use Rattle.wy_bodies.specs.Sight.{Sight}
use Rattle.wy_bodies.specs.InSight.{Known, known}
use Rattle.wy_bodies.specs.Bodies.{Within, Count, at_start, one_val, one_literal, one_body, fields_of, rhs_after, stmt_after, stmts_after, part_after, parts_after, tail_after, bound, typed_if, rhs_value, rhs_literals, stmt_literals, stmts_literals, part_literals, parts_literals, tail_literals, rhs_bodies, stmt_bodies, stmts_bodies, part_bodies, parts_bodies, tail_bodies}
use Rattle.wy_bodies.specs.BodyRefusals.{repeated_parts, rhs_refusals, stmt_refusals, stmts_refusals, part_refusals, parts_refusals, tail_refusals}

pub record Found : Type 0 where
  pub count : Count
  pub literals : List Literal
  pub bodies : List Body
  pub least : Option Refusal

abbrev pub count_of : counted.Count → Count
count_of n = record { vals = n.vals; literals = n.literals; bodies = n.bodies }

abbrev pub found_of : found.Found → Found
found_of f = record { count = count_of f.count; literals = f.literals; bodies = map body_of f.bodies.items; least = f.least }

-- at the start of a scope whose literal 0 is this one
abbrev pub begun : Literal → Option Refusal → Found
begun literal least = record { count = at_start; literals = literal ∷ []; bodies = []; least = least }

-- a type's refusals alone, or those of names
abbrev pub noting : Found → List Refusal → Found
noting f rs = record { count = f.count; literals = f.literals; bodies = f.bodies; least = noted f.least rs }

-- one method more, whose signature has these refusals
abbrev pub one_method : Found → List Refusal → Found
one_method f rs = record { count = one_body f.count; literals = f.literals; bodies = f.bodies; least = noted f.least rs }

-- one literal more, with these captures and the fields of these parts
abbrev pub with_literal : Within → List Variable → Found → t.PartTrees → Found
with_literal w captures f ps = record {
  count = one_literal f.count;
  literals = f.literals ++ record { captures = captures; fields = fields_of w ps } ∷ [];
  bodies = f.bodies;
  least = noted f.least (repeated_parts ps);
}

module _ (w : Within) where
  abbrev pub after_rhs : Sight → Found → t.RhsTree → Found
  after_rhs s f r = record {
    count = rhs_after f.count r;
    literals = f.literals ++ rhs_literals w s f.count r;
    bodies = f.bodies ++ rhs_bodies w s f.count r;
    least = noted f.least (rhs_refusals w s f.count r);
  }

  abbrev pub after_stmt : Sight → Found → t.StmtTree → Found
  after_stmt s f x = record {
    count = stmt_after f.count x;
    literals = f.literals ++ stmt_literals w s f.count x;
    bodies = f.bodies ++ stmt_bodies w s f.count x;
    least = noted f.least (stmt_refusals w s f.count x);
  }

  abbrev pub after_stmts : Sight → Found → t.StmtTrees → Found
  after_stmts s f xs = record {
    count = stmts_after f.count xs;
    literals = f.literals ++ stmts_literals w s f.count xs;
    bodies = f.bodies ++ stmts_bodies w s f.count xs;
    least = noted f.least (stmts_refusals w s f.count xs);
  }

  abbrev pub after_part : Sight → Sight → ℕ → Found → t.PartTree → Found
  after_part s within owner f p = record {
    count = part_after f.count p;
    literals = f.literals ++ part_literals w s within f.count p;
    bodies = f.bodies ++ part_bodies w s within owner f.count p;
    least = noted f.least (part_refusals w s within f.count p);
  }

  abbrev pub after_parts : Sight → Sight → ℕ → Found → t.PartTrees → Found
  after_parts s within owner f ps = record {
    count = parts_after f.count ps;
    literals = f.literals ++ parts_literals w s within f.count ps;
    bodies = f.bodies ++ parts_bodies w s within owner f.count ps;
    least = noted f.least (parts_refusals w s within f.count ps);
  }

  abbrev pub after_tail : Sight → Found → t.TailTree → Found
  after_tail s f b = record {
    count = tail_after f.count b;
    literals = f.literals ++ tail_literals w s f.count b;
    bodies = f.bodies ++ tail_bodies w s f.count b;
    least = noted f.least (tail_refusals w s f.count b);
  }

------------------------------------------------------------
-- Statements of a block

-- a `val` with its number, or a value that stands as a statement
pub data Form : Type 0 where
  named : Place → ℕ → Option TypeRef → code.Value → Form
  alone : code.Value → Form

abbrev pub form_of : s.Stmt → Form
form_of (s.Val place number typ x) = named place number typ (value_of x)
form_of (s.Do x) = alone (value_of x)

abbrev pub stmt_form : Within → Sight → Count → t.StmtTree → Form
stmt_form w s n (t.val x u r) = named x.place n.vals (typed_if w u) (rhs_value w s (one_val n) r)
stmt_form w s n (t.assign x r) = alone (code.Plain (code.Assign x.place (bound w s x) (rhs_value w s n r)))
stmt_form w s n (t.run r) = alone (rhs_value w s n r)

-- a block that ends with a statement
abbrev pub last_form : Place → Form → code.Block
last_form p (named place number typ x) = code.Val place number typ x (code.Last (code.Plain (code.Nothing p)))
last_form p (alone x) = code.Last x

-- these statements, the last of which is the block's value where it has one
abbrev pub ended : Place → List s.Stmt → code.Block
ended p [] = code.Last (code.Plain (code.Nothing p))
ended p (x ∷ []) = last_form p (form_of x)
ended p (x ∷ y ∷ ys) = stmt_block x (ended p (y ∷ ys))

-- the variables that are in sight after a statement
abbrev pub with_stmt : List Known → Count → t.StmtTree → List Known
with_stmt ks n (t.val x u r) = ks ++ known x.text (Local n.vals) ∷ []
with_stmt ks n (t.assign x r) = ks
with_stmt ks n (t.run r) = ks
