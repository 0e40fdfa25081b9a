use Rattle.std.proofs.Common.{List, [], ℕ, map, ap, sym, subst}
use Rattle.wy_types.specs.Program.{program_of}
use Rattle.wy_subtype.specs.declared.node.Node.{Node}
use Rattle.wy_subtype.specs.Decided.{About, Decided}
use Rattle.wy_subtype.specs.Nodes.{node_pair, pairs_at, AreKnown}
use Rattle.wy_subtype.proofs.Beginning.{known_none}
use Rattle.wy_subtype.proofs.pair_table.PairTable.new.Goals as goal

pub invariant_of-result : goal.invariant_of-result
invariant_of-result c =
    let about : About = record { program = program_of c.args.core.now; scope = c.args.scope; mode = c.args.mode } in
    let N : List Node → Type 0 = λ l. AreKnown about l [] in
    let U : List ℕ → Type 0 = λ l. AreKnown about c.new-nodes.result l in
    subst U (sym c.new-unfolded.ensures.items) (subst N (sym c.new-nodes.ensures) (known_none about c.requires.core))

pub returns : goal.returns
returns c =
    let about : About = record { program = program_of c.args.core.now; scope = c.args.scope; mode = c.args.mode } in
    ap (λ (l : List ℕ). let d : Decided = record { about = about; pairs = pairs_at (map node_pair c.new-nodes.result) l } in d) c.new-unfolded.ensures.items
