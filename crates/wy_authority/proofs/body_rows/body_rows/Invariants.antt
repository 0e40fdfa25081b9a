use Rattle.std.proofs.Common.{◌≡◌, ◌∷◌, ◌++◌, drop, map}
use Rattle.wy_types.specs.Program.{body_of}
use Rattle.wy_types.specs.Program as plain
use Rattle.wy_authority.specs.Authority.{body_row, body_name, body_set}
use Rattle.wy_authority.proofs.body_rows.body_rows.Given as goal

abbrev pub invariant-loop-body : goal.invariant-loop-body
invariant-loop-body l =
    l.rows ++ map (λ (b : plain.Body). body_row (body_name b) (body_set l.bound l.sets b.signature.effect)) (map body_of (drop l.body-index l.body-items)) ≡
    body_row l.first (body_set l.bound l.sets l.scope.start_effect) ∷
    map (λ (b : plain.Body). body_row (body_name b) (body_set l.bound l.sets b.signature.effect)) (map body_of l.body-items)
