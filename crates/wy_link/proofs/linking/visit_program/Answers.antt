use Rattle.std.proofs.Common.{length, ap}
use Rattle.wy_types.specs.Program.{program_of}
use Rattle.wy_link.proofs.Rooms.{program_room_of}
use Rattle.wy_link.proofs.linking.visit_program.Goals as goal

pub visit-requires-clause-room : goal.visit-requires-clause-room
visit-requires-clause-room c =
    program_room_of (program_of c.args.core.now) c.requires.keeps c.program_names-names.result.now (length c.args.own.now.actuals) (length c.args.own.now.sets)
    c.program_names-names.ensures (ap length c.requires.actuals) (ap length c.requires.sets)
