use Rattle.wy_types.specs.Program.{scope_of}
use Rattle.wy_recheck.proofs.Purity.{names_tell, var_tells}
use Rattle.wy_recheck.proofs.lines.is_pure.Goals as goal

pub returns-then-has_no_var : goal.returns-then-has_no_var
returns-then-has_no_var c =
    let s = scope_of c.args.scope.now in
    names_tell s s.kind c.in-Pure.is c.fields_of.result.now c.fields_of.ensures c.has_no_var.result c.has_no_var.ensures c.as_slice.result.now c.as_slice.ensures c.has_no_line.result c.has_no_line.ensures c.if-has_no_var.true

pub returns-else-has_no_var : goal.returns-else-has_no_var
returns-else-has_no_var c =
    let s = scope_of c.args.scope.now in
    var_tells s s.kind c.in-Pure.is c.fields_of.result.now c.fields_of.ensures c.has_no_var.result c.has_no_var.ensures c.if-has_no_var.false
