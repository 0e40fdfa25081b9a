use Rattle.wy_verify.proofs.Small.{small_types, small_typings}
use Rattle.wy_verify.proofs.judged.Judged.new.Goals as goal

pub new-requires-clause-types : goal.new-requires-clause-types
new-requires-clause-types c = small_types c.args.file.now c.requires.range

pub new-requires-clause-typings : goal.new-requires-clause-typings
new-requires-clause-typings c = small_typings c.args.file.now c.requires.range
