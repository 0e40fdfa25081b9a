use Rattle.wy_types.specs.Program.{program_of}
use Rattle.wy_premises.specs.Tried.{HasAll}
use Rattle.wy_premises.proofs.Trying.{left_at, one_more, one_fails, told_false}
use Rattle.wy_premises.proofs.MemberSets.{HasMember, no_member, member_there}
use Rattle.wy_premises.proofs.arguments.has_all.Goals as goal

pub returns-then-is_none : goal.returns-then-is_none
returns-then-is_none c =
    let p = program_of c.args.core.now in
    let t = c.args.typ.now in
    let ms = c.args.members.now in
    let W = HasAll p t ms in
    told_false W (one_fails (HasMember p t) W _ _ c.member-item.result (left_at ms c.loop-member.member-index c.member-item.result c.loop-member-test.true c.member-item.is)
    (no_member p t c.member-item.result c.in_ok-member_set.field-0 c.in_ok-member_set.ensures c.if-is_none.ensures) c.loop-member.invariant)

pub loop-member-preserved : goal.loop-member-preserved
loop-member-preserved c =
    let p = program_of c.args.core.now in
    let t = c.args.typ.now in
    let ms = c.args.members.now in
    one_more (HasMember p t) (HasAll p t ms) _ _ c.member-item.result (left_at ms c.loop-member.member-index c.member-item.result c.loop-member-test.true c.member-item.is)
    (member_there p t c.member-item.result c.in_ok-member_set.field-0 c.in_ok-member_set.ensures c.if-is_none.ensures) c.loop-member.invariant
