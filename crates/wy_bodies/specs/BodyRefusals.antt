-- The refusals of bodies: names that are nowhere in sight, types that cannot be read, names that repeat others.
use Rattle.std.specs.Prelude.{Bool, true, false, List, [], ◌∷◌, ◌++◌, Option, Some, None}
use Rattle.wy_text.specs.declared.fault.Place.{Place}
use Rattle.wy_syntax.specs.declared.types.Name.{Name}
use Rattle.wy_syntax.specs.declared.types.TypeUse.{TypeUse}
use Rattle.wy_syntax.specs.Trees as t
use Rattle.wy_types.specs.declared.code.Binding.{Binding}
use Rattle.wy_symbols.specs.declared.refusal.Cause.TheVariants.{Unknown}
use Rattle.wy_symbols.specs.declared.refusal.Refusal.{Refusal}
use Rattle.wy_symbols.specs.Least.{refusal_at}
use Rattle.wy_symbols.specs.Declarations.{repeated}
use Rattle.wy_symbols.specs.Atoms.{unknown}
use Rattle.wy_symbols.specs.TypeUses.{use_refusals, signature_refusals}
use Rattle.wy_bodies.specs.Sight.{Sight, binding_of, with_params, inside}
use Rattle.wy_bodies.specs.Bodies.{Within, Count, one_val, one_literal, one_body, stmts_after, stmt_after, part_after, stmt_sight}

abbrev pub unless_bound : Name → Option Binding → List Refusal
unless_bound n (Some b) = []
unless_bound n None = unknown n

-- `this` stands in methods alone
abbrev pub this_refusals : Place → Bool → List Refusal
this_refusals p true = []
this_refusals p false = refusal_at p Unknown ∷ []

-- the names of fields, and those of methods
abbrev pub field_names : t.PartTrees → List Name
field_names t.no_parts = []
field_names (t.more_parts (t.field k x u r) ps) = x ∷ field_names ps
field_names (t.more_parts (t.method g b) ps) = field_names ps

abbrev pub def_names : t.PartTrees → List Name
def_names t.no_parts = []
def_names (t.more_parts (t.field k x u r) ps) = def_names ps
def_names (t.more_parts (t.method g b) ps) = g.name ∷ def_names ps

abbrev pub repeated_parts : t.PartTrees → List Refusal
repeated_parts ps = repeated [] (field_names ps) ++ repeated [] (def_names ps)

module _ (w : Within) where
  abbrev pub value_refusals : Sight → Name → List Refusal
  value_refusals s n = unless_bound n (binding_of w.own s n.text)

  abbrev pub typed_refusals : TypeUse → List Refusal
  typed_refusals u = use_refusals w.atoms w.plain u

  abbrev pub typed_if_refusals : Option TypeUse → List Refusal
  typed_if_refusals None = []
  typed_if_refusals (Some u) = typed_refusals u

  abbrev mutual
    pub expr_refusals : Sight → t.ExprTree → List Refusal
    expr_refusals s (t.number v p) = []
    expr_refusals s (t.text x p) = []
    expr_refusals s (t.yes p) = []
    expr_refusals s (t.no p) = []
    expr_refusals s (t.this p) = this_refusals p s.in_method
    expr_refusals s (t.name n) = value_refusals s n
    expr_refusals s (t.unit p) = []
    expr_refusals s (t.negate e p) = expr_refusals s e
    expr_refusals s (t.invert e p) = expr_refusals s e
    expr_refusals s (t.binary o a b p) = expr_refusals s a ++ expr_refusals s b
    expr_refusals s (t.call e n es) = expr_refusals s e ++ exprs_refusals s es
    expr_refusals s (t.size e p) = expr_refusals s e
    expr_refusals s (t.part e a b p) = expr_refusals s e ++ (expr_refusals s a ++ expr_refusals s b)
    expr_refusals s (t.byte_at e i p) = expr_refusals s e ++ expr_refusals s i
    expr_refusals s (t.byte e p) = expr_refusals s e
    expr_refusals s (t.show e p) = expr_refusals s e
    expr_refusals s (t.ascribe e u p) = expr_refusals s e ++ typed_refusals u
    expr_refusals s (t.choice c a b p) = expr_refusals s c ++ (expr_refusals s a ++ expr_refusals s b)

    pub exprs_refusals : Sight → t.ExprTrees → List Refusal
    exprs_refusals s t.none = []
    exprs_refusals s (t.more e es) = expr_refusals s e ++ exprs_refusals s es

  abbrev mutual
    pub rhs_refusals : Sight → Count → t.RhsTree → List Refusal
    rhs_refusals s n (t.literal p ps) = repeated_parts ps ++ parts_refusals s (inside s ps) (one_literal n) ps
    rhs_refusals s n (t.branch p c a b) = expr_refusals s c ++ (stmts_refusals s n a ++ stmts_refusals s (stmts_after n a) b)
    rhs_refusals s n (t.value e) = expr_refusals s e

    pub stmt_refusals : Sight → Count → t.StmtTree → List Refusal
    stmt_refusals s n (t.val x u r) = typed_if_refusals u ++ rhs_refusals s (one_val n) r
    stmt_refusals s n (t.assign x r) = value_refusals s x ++ rhs_refusals s n r
    stmt_refusals s n (t.run r) = rhs_refusals s n r

    pub stmts_refusals : Sight → Count → t.StmtTrees → List Refusal
    stmts_refusals s n t.no_stmts = []
    stmts_refusals s n (t.more_stmts x xs) = stmt_refusals s n x ++ stmts_refusals (stmt_sight w s n x) (stmt_after n x) xs

    -- `within` is what the methods see
    pub part_refusals : Sight → Sight → Count → t.PartTree → List Refusal
    part_refusals s within n (t.field k x u r) = typed_refusals u ++ rhs_refusals s n r
    part_refusals s within n (t.method g b) =
        signature_refusals w.atoms w.plain g ++ tail_refusals (with_params within n.bodies g.params) (one_body n) b

    pub parts_refusals : Sight → Sight → Count → t.PartTrees → List Refusal
    parts_refusals s within n t.no_parts = []
    parts_refusals s within n (t.more_parts p ps) = part_refusals s within n p ++ parts_refusals s within (part_after n p) ps

    pub tail_refusals : Sight → Count → t.TailTree → List Refusal
    tail_refusals s n (t.short r) = rhs_refusals s n r
    tail_refusals s n (t.long ss) = stmts_refusals s n ss
