use Rattle.std.proofs.Common.{List, sym, ap, ◌∙◌, map}
use Rattle.std.proofs.Common.{◌+◌, ◌++◌}
use Rattle.wy_image.specs.declared.file.Entry.{Entry}
use Rattle.wy_image.specs.declared.file.Literal.{Literal}
use Rattle.wy_verified.specs.CodeOf.{method_of}
use Rattle.wy_verified.specs.Ranges.{entry_roles}
use Rattle.wy_verify.specs.RangeParts.{role_of}
use Rattle.wy_verify.proofs.RangeRoles.{literals_more}
use Rattle.wy_verify.proofs.ranges.roles.add_literals.Goals as goal

pub loop-l-preserved : goal.loop-l-preserved
loop-l-preserved c =
    literals_more c.args.literals.now c.loop-l.l c.index-literals-l.result c.loop-l-test.true c.index-literals-l.is
    (map role_of c.args.roles.now.items) (map role_of c.loop-l.roles.items) (map role_of c.add_entries.new.roles.items) c.loop-l.invariant
    (c.in_ok-add_entries.ensures ∙ ap (λ (es : List Entry). map role_of c.loop-l.roles.items ++ entry_roles (c.loop-l.l + 1) (map method_of es)) c.as_slice.ensures
    ∙ ap (λ (m : Literal). map role_of c.loop-l.roles.items ++ entry_roles (c.loop-l.l + 1) (map method_of m.entries)) (sym c.index-literals-l.is))
