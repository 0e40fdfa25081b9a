use Rattle.std.proofs.Common.{◌≡◌, List, [], ◌∷◌, ◌++◌, map, refl, sym, ap, ◌∙◌, rules}
use Rattle.std.specs.BTreeMap.{values}
use Rattle.wy_types.specs.declared.code.Variable.{Variable}
use Rattle.wy_symbols.specs.Lent.{lent_text}
use Rattle.wy_bodies.proofs.Marks.{marks_are, marked_of, marked_written}
use Rattle.wy_bodies.proofs.captures.captured.Goals as goal

append_nil : (xs : List Variable) → xs ++ [] ≡ xs
append_nil [] = refl
append_nil (x ∷ xs) = ap (λ l. x ∷ l) (append_nil xs)

pub returns : goal.returns
returns c = λ parts names.
    let vs = c.args.variables.now in
    let all : c.loop-variable.captures ≡ values c.in_ok-marks.marks =
    sym (append_nil c.loop-variable.captures) ∙ ap (λ l. c.loop-variable.captures ++ l) (sym c.in-None.ensures.steps.0) ∙ c.loop-variable.invariant ∙ (search rules) in
    all
    ∙ marks_are vs (map lent_text c.args.names.now) c.in_ok-marks.marks.entries c.values-variable-items.ensures.ordered c.in_ok-marks.ensures
    ∙ ap (marked_of vs) names
    ∙ marked_written vs parts
