use Rattle.std.proofs.Common.{List, ℕ, [], ◌++◌, ◌∷◌, ◌∙◌, ap, sym, subst, map}
use Rattle.wy_lanes.specs.Rows.{others}
use Rattle.wy_effects.specs.Rows.{AreLacking}
use Rattle.wy_effects.proofs.RowLaws.{lacking_push, map-push}
use Rattle.wy_effects.proofs.rows.SetRows.push.Goals as goal

pub invariant_of-self-2 : goal.invariant_of-self-2
invariant_of-self-2 c =
    let now = c.in_ok-push.ensures.added ∙ ap (λ (l : List ℕ). c.self.inside.lacking ++ l ∷ []) c.lacking.ensures in
    subst AreLacking (sym now) (lacking_push c.self.inside.lacking c.args.set.now c.self.invariant)

pub returns-clause-added : goal.returns-clause-added
returns-clause-added c =
    let now = c.in_ok-push.ensures.added ∙ ap (λ (l : List ℕ). c.self.inside.lacking ++ l ∷ []) c.lacking.ensures in
    ap (map others) now ∙ map-push c.self.inside.lacking c.args.set.now c.is_set.ensures ∙ ap (λ (sets : List (List ℕ)). sets ++ c.args.set.now ∷ []) c.self.view_is
