use Rattle.wy_host.proofs.Pieces.{behind_nothing_is_first}
use Rattle.wy_host.proofs.console.fill.Goals as goal

pub returns : goal.returns
returns g c = behind_nothing_is_first c.read_up_to.result _ c.args.line.now.items c.read_up_to.new.line.items _
    c.room_behind-room.ensures c.read_up_to.ensures
