use Rattle.std.proofs.Common.{map, arith}
use Rattle.wy_types.specs.Program.{scope_of}
use Rattle.wy_lower.proofs.EmitLists.{length_mapped}
use Rattle.wy_lower.proofs.EmitStarts.{last_is}
use Rattle.wy_lower.proofs.lowering.last_scope.Goals as goal

pub returns : goal.returns
returns c =
    let ss = c.args.core.now.scopes in
    omega (arith, c.saturating_sub.ensures, c.len.ensures, last_is (map scope_of ss), length_mapped scope_of ss)
