-- Expressions that are not refused fit.
use Rattle.std.proofs.Common.{◌≡◌, ℕ, List, [], ◌++◌, Bool as Truth, true, false, Option, refl}
use Rattle.std.specs.Prelude.{◌||◌}
use Rattle.wy_text.specs.declared.fault.Place.{Place}
use Rattle.wy_syntax.specs.Trees as t
use Rattle.wy_types.specs.declared.code.Variable.{Variable}
use Rattle.wy_types.specs.Code as code
use Rattle.wy_types.specs.Program.{Program, Scope}
use Rattle.wy_types.specs.Core.{ExprFits, ValueFits, ValuesFit}
use Rattle.wy_bodies.specs.Sight.{Sight, expr_writes, exprs_write}
use Rattle.wy_bodies.specs.Bodies.{Within, operand, expr_value, expr_values}
use Rattle.wy_bodies.specs.BodyRefusals.{this_refusals, typed_refusals, expr_refusals, exprs_refusals}
use Rattle.wy_symbols.proofs.Firsts.{same_itself}
use Rattle.wy_well_formed.proofs.Scoping.{ReadsIn}
use Rattle.wy_well_formed.proofs.Repeats.{append_empty}
use Rattle.wy_well_formed.proofs.Seeing.{Sees, sees_left, sees_right, name_fits}

unrefused_this : (p : Place) (b : Truth) → this_refusals p b ≡ [] → b ≡ true
unrefused_this p true e = refl
unrefused_this p false e = absurd (cc)

module _ (p : Program) (s : Scope) (w : Within) (read : ReadsIn p s w) (owner : Option ℕ) (vars : List Variable) (si : Sight) where
  pub operand_fits : (v : code.Value) → ValueFits p s owner vars v → ExprFits p s owner vars (operand v)
  operand_fits (code.Plain x) h = h
  operand_fits (code.If q test first second) h = tt

  mutual
    pub expr_fits : (e : t.ExprTree) → Sees s owner vars si (λ x. expr_writes x e) → expr_refusals w si e ≡ [] → ValueFits p s owner vars (expr_value w si e)
    expr_fits (t.number v q) h r = tt
    expr_fits (t.text x q) h r = tt
    expr_fits (t.yes q) h r = tt
    expr_fits (t.no q) h r = tt
    expr_fits (t.this q) h r = h.this (unrefused_this q si.in_method r)
    expr_fits (t.name n) h r = name_fits p s owner vars w si (λ x. expr_writes x (t.name n)) read.own h n (same_itself n.text) r
    expr_fits (t.unit q) h r = tt
    expr_fits (t.negate e q) h r = operand_fits (expr_value w si e) (expr_fits e h r)
    expr_fits (t.invert e q) h r = operand_fits (expr_value w si e) (expr_fits e h r)
    expr_fits (t.binary o a b q) h r =
        let e = append_empty (expr_refusals w si a) (expr_refusals w si b) r in
        (operand_fits (expr_value w si a) (expr_fits a (sees_left s owner vars si (λ x. expr_writes x a) (λ x. expr_writes x b) h) e.0), operand_fits (expr_value w si b) (expr_fits b (sees_right s owner vars si (λ x. expr_writes x a) (λ x. expr_writes x b) h) e.1))
    expr_fits (t.call a n es) h r =
        let e = append_empty (expr_refusals w si a) (exprs_refusals w si es) r in
        (operand_fits (expr_value w si a) (expr_fits a (sees_left s owner vars si (λ x. expr_writes x a) (λ x. exprs_write x es) h) e.0), exprs_fit es (sees_right s owner vars si (λ x. expr_writes x a) (λ x. exprs_write x es) h) e.1)
    expr_fits (t.size e q) h r = (refl, (expr_fits e h r, tt))
    expr_fits (t.part a b c q) h r =
        let e = append_empty (expr_refusals w si a) (expr_refusals w si b ++ expr_refusals w si c) r in
        let f = append_empty (expr_refusals w si b) (expr_refusals w si c) e.1 in
        let g = sees_right s owner vars si (λ x. expr_writes x a) (λ x. expr_writes x b || expr_writes x c) h in
        (refl, (expr_fits a (sees_left s owner vars si (λ x. expr_writes x a) (λ x. expr_writes x b || expr_writes x c) h) e.0, (expr_fits b (sees_left s owner vars si (λ x. expr_writes x b) (λ x. expr_writes x c) g) f.0, (expr_fits c (sees_right s owner vars si (λ x. expr_writes x b) (λ x. expr_writes x c) g) f.1, tt))))
    expr_fits (t.byte_at a b q) h r =
        let e = append_empty (expr_refusals w si a) (expr_refusals w si b) r in
        (refl, (expr_fits a (sees_left s owner vars si (λ x. expr_writes x a) (λ x. expr_writes x b) h) e.0, (expr_fits b (sees_right s owner vars si (λ x. expr_writes x a) (λ x. expr_writes x b) h) e.1, tt)))
    expr_fits (t.byte e q) h r = (refl, (expr_fits e h r, tt))
    expr_fits (t.show e q) h r = (refl, (expr_fits e h r, tt))
    expr_fits (t.ascribe a u q) h r =
        let e = append_empty (expr_refusals w si a) (typed_refusals w u) r in
        (expr_fits a h e.0, read.types u e.1)
    expr_fits (t.choice c a b q) h r =
        let e = append_empty (expr_refusals w si c) (expr_refusals w si a ++ expr_refusals w si b) r in
        let f = append_empty (expr_refusals w si a) (expr_refusals w si b) e.1 in
        let g = sees_right s owner vars si (λ x. expr_writes x c) (λ x. expr_writes x a || expr_writes x b) h in
        (operand_fits (expr_value w si c) (expr_fits c (sees_left s owner vars si (λ x. expr_writes x c) (λ x. expr_writes x a || expr_writes x b) h) e.0), expr_fits a (sees_left s owner vars si (λ x. expr_writes x a) (λ x. expr_writes x b) g) f.0, expr_fits b (sees_right s owner vars si (λ x. expr_writes x a) (λ x. expr_writes x b) g) f.1)

    pub exprs_fit : (es : t.ExprTrees) → Sees s owner vars si (λ x. exprs_write x es) → exprs_refusals w si es ≡ [] → ValuesFit p s owner vars (expr_values w si es)
    exprs_fit t.none h r = tt
    exprs_fit (t.more e es) h r =
        let f = append_empty (expr_refusals w si e) (exprs_refusals w si es) r in
        (expr_fits e (sees_left s owner vars si (λ x. expr_writes x e) (λ x. exprs_write x es) h) f.0, exprs_fit es (sees_right s owner vars si (λ x. expr_writes x e) (λ x. exprs_write x es) h) f.1)
