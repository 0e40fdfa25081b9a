-- What a trap means.
use Rattle.wy_device.specs.Traps as traps
use Rattle.wy_machine.specs.declared.run_end.TrapKind.{TrapKind}
use Rattle.wy_machine.specs.declared.run_end.TrapKind.TheVariants.{Overflow, ZeroDivisor, BadPart, LongText, BadName, Crowded}

abbrev pub trap_meant : TrapKind → traps.TrapKind
trap_meant Overflow = traps.Overflow
trap_meant ZeroDivisor = traps.ZeroDivisor
trap_meant BadPart = traps.BadPart
trap_meant LongText = traps.LongText
trap_meant BadName = traps.BadName
trap_meant Crowded = traps.Crowded
