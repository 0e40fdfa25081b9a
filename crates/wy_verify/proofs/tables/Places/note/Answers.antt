use Rattle.std.proofs.Common.{List, ◌∷◌, [], ℕ, ap, subst}
use Rattle.wy_verify.specs.declared.tables.Entry.{Entry}
use Rattle.wy_verify.specs.Tables.{Adds, same_pair, entry_of}
use Rattle.wy_verify.proofs.Noting.{pair_exact, note_new, note_kept}
use Rattle.wy_verify.proofs.tables.Places.note.Goals as goal

pub returns-in_ok-insert : goal.returns-in_ok-insert
returns-in_ok-insert c =
    let is : List ℕ → Entry = λ n. record { place = c.args.place; effect = n } in
    subst (λ (e : Entry). Adds same_pair c.args.self.now.entries c.insert.new.self (((c.args.row, c.args.number), e) ∷ [])) (ap is c.set_of-effect.ensures) (
    note_new same_pair pair_exact c.args.self.now.entries c.insert.new.self (c.args.row, c.args.number) (is c.set_of-effect.result) c.contains_key.result
    c.if-not-contains_key.true c.contains_key.ensures c.in_ok-insert.ensures.updates.0)

pub returns-else-not-contains_key : goal.returns-else-not-contains_key
returns-else-not-contains_key c =
    note_kept same_pair pair_exact c.args.self.now.entries (c.args.row, c.args.number) (entry_of c.args.place c.args.effect.now) c.contains_key.result
    c.if-not-contains_key.false c.contains_key.ensures
