use Rattle.wy_judge.proofs.Tabled.{put_in}
use Rattle.wy_judge.proofs.walk.put.Goals as goal

pub returns : goal.returns
returns c = put_in c.args.table.now.items c.make_room.new.table.items c.args.number c.args.typ c.in_ok-make_room.ensures.kept c.in_ok-make_room.ensures.room c.in_ok-make_room.ensures.size
