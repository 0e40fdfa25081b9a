use Rattle.wy_verify.specs.Tables.{same_pair}
use Rattle.wy_verify.proofs.Noting.{pair_exact, note_new, note_kept}
use Rattle.wy_verify.proofs.tables.Owners.note.Goals as goal

pub returns-in_ok-insert : goal.returns-in_ok-insert
returns-in_ok-insert c =
    note_new same_pair pair_exact c.args.self.now.owners c.insert.new.self (c.args.scope, c.args.body) c.args.owner
    c.contains_key.result c.if-not-contains_key.true c.contains_key.ensures c.in_ok-insert.ensures.updates.0

pub returns-else-not-contains_key : goal.returns-else-not-contains_key
returns-else-not-contains_key c =
    note_kept same_pair pair_exact c.args.self.now.owners (c.args.scope, c.args.body) c.args.owner c.contains_key.result
    c.if-not-contains_key.false c.contains_key.ensures
