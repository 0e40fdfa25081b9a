use Rattle.std.proofs.Common.{◌≡◌, ◌++◌, drop, map}
use Rattle.wy_verify.specs.Authority.{body_row}
use Rattle.wy_verify.proofs.authority.body_rows.Given as goal

abbrev pub invariant-loop-bounds : goal.invariant-loop-bounds
invariant-loop-bounds l =
    l.rows ++ map (body_row l.firsts) (drop l.bounds-index l.bounds-items) ≡ map (body_row l.firsts) l.bodies
