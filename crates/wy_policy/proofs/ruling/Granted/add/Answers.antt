use Rattle.std.proofs.Common.{◌∙◌, ◌||◌, ap, rules}
use Rattle.std.specs.Str.{bytes_eq}
use Rattle.indexmap.specs.IndexSet.{contains}
use Rattle.wy_policy.specs.Judging.{same_atom}
use Rattle.wy_policy.proofs.Grants.{atom_added, whole_added}
use Rattle.wy_policy.proofs.ruling.Granted.add.Goals as goal

pub returns-in_ok-insert-in-Every : goal.returns-in_ok-insert-in-Every
returns-in_ok-insert-in-Every c = λ atom.
    ap (λ b. b || contains same_atom c.args.self.now.atoms atom) (c.in_ok-insert-in-Every.ensures.updates.0 atom.owner)
    ∙ whole_added c.in_ok-grant.grant c.args.entry.now atom (contains bytes_eq c.args.self.now.wholes atom.owner) (contains same_atom c.args.self.now.atoms atom) c.in_ok-grant.ensures c.in-Every.is

pub returns-in_ok-insert-in-Named : goal.returns-in_ok-insert-in-Named
returns-in_ok-insert-in-Named c = λ atom.
    ap (λ b. contains bytes_eq c.args.self.now.wholes atom.owner || b) (c.in_ok-insert-in-Named.ensures.updates.0 atom)
    ∙ atom_added c.in_ok-grant.grant _ c.in-Named.name c.args.entry.now atom (contains bytes_eq c.args.self.now.wholes atom.owner) (contains same_atom c.args.self.now.atoms atom) c.in_ok-grant.ensures (search rules) c.in-Named.is
