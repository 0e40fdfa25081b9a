use Rattle.std.proofs.Common.{◌≡◌, ◌+◌, ◌-◌, ◌<◌, ◌≤◌, ◌++◌, ◌∷◌, [], List, ℕ, Some, length, drop, refl, sym, ap, subst, ◌∙◌, arith, rules}
use Rattle.std.specs.Prelude.{slice_get}
use Rattle.std.proofs.lemmas.Option.{gets}
use Rattle.wy_types.specs.declared.types.TypeRef.{TypeRef}
use Rattle.wy_effects.specs.EffSet.{union}
use Rattle.wy_cert.specs.declared.certificate.Rule.TheVariants.{Seq}
use Rattle.wy_proving.specs.Steps.{step}
use Rattle.wy_certify.specs.Written.{stmt_mark, stmt_effect, joined_effect, back_steps}
use Rattle.wy_certify.specs.Writer.{context_of}
use Rattle.wy_certify.proofs.Gathering.{two, so}
use Rattle.wy_certify.proofs.Turns.{back_start, joined_start, back_turn, joined_turn, effect_at}
use Rattle.wy_certify.proofs.writer.Writer.close_statements.Goals as goal

pub loop-i-init : goal.loop-i-init
loop-i-init c =
    let w = context_of c.args.self.now in
    let xs = c.args.statements.now.items in
    let short : length xs ≤ c.len-i.result = search rules in
    record {
      enough = λ whole. whole;
      whole = λ all. record {
        enough = λ whole. whole;
        added = λ whole. back_start w xs c.len-i.result short c.args.last.typ c.args.last.effect _;
        holds = λ whole. (refl, joined_start w xs c.len-i.result short c.args.last.effect);
      };
    }

pub loop-i-preserved-in-Some : goal.loop-i-preserved-in-Some
loop-i-preserved-in-Some c =
    let w = context_of c.args.self.now in
    let xs = c.args.statements.now.items in
    let t = c.args.last.typ in
    let f = c.args.last.effect in
    let j = c.loop-i.i - 1 in
    let up : j + 1 ≡ c.loop-i.i = omega arith in
    let lt : j < length xs = omega arith in
    let x = c.index.result.now in
    let read : slice_get c.args.effects.now j ≡ Some c.in-Some.effect.now = grind (arith, gets) in
    let at = c.close_statement.ensures in
    record {
      enough = λ whole. c.loop-i.invariant.enough (at.steps.enough whole);
      whole = λ all. so (two (c.loop-i.invariant.whole all) at.steps) (λ g.
          let is : c.in-Some.effect.now ≡ stmt_effect w x = effect_at w xs j x c.args.effects.now c.in-Some.effect.now lt c.index.ensures all read in
          let after = subst (λ (n : ℕ). c.loop-i.rest.effect ≡ joined_effect w (drop n xs) f) (sym up) g.0.1 in
          let next = ap (λ (k : List ℕ). union k c.loop-i.rest.effect) is in
          let joined = joined_turn w xs j x lt c.index.ensures f c.loop-i.rest.effect (union c.in-Some.effect.now c.loop-i.rest.effect) after next in
          let sofar = back_steps w (drop c.loop-i.i xs) t f in
          let written = subst (λ (n : ℕ). sofar ≡ back_steps w (drop n xs) t f) (sym up) refl in
          let own = λ (k : TypeRef). sofar ++ step Seq (stmt_mark x) 2 (Some k) (union c.in-Some.effect.now c.loop-i.rest.effect) ∷ [] in (
            ap own g.0.0 ∙ back_turn w xs j x lt c.index.ensures t f (union c.in-Some.effect.now c.loop-i.rest.effect) [] sofar (own t) written joined refl,
            (at.typ ∙ g.0.0, at.effect ∙ joined),
          ));
    }
