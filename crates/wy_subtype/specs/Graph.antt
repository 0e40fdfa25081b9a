-- The pairs that were met in a program, a scope and a mode, and what contracts see of them.
use Rattle.std.specs.Prelude.{◌≡◌, ◌<◌, List, length, map}
use Rattle.wy_text.specs.Members.{In}
use Rattle.wy_types.specs.Program.{program_of}
use Rattle.wy_subtype.specs.declared.entry.Entry.{Entry}
use Rattle.wy_subtype.specs.declared.graph.Graph.{Graph}
use Rattle.wy_subtype.specs.Steps.{Pair}
use Rattle.wy_subtype.specs.Decided.{About, Decided}
use Rattle.wy_subtype.specs.Nodes.{node_pair, pairs_at, AreMore, AreKnown}
use Rattle.wy_subtype.specs.Worklist.{Met, mets}

abbrev pub about_of : Graph → About
about_of g = record { program = program_of g.core.now; scope = g.scope; mode = g.mode }

abbrev pub pairs_in : Graph → List Pair
pairs_in g = map node_pair g.nodes

-- the pairs that were unfolded
abbrev pub decided_of : Graph → Decided
decided_of g = record { about = about_of g; pairs = pairs_at (pairs_in g) g.unfolded.items }

-- all that is known is right
abbrev pub IsGraph : Graph → Type 0
IsGraph g = AreKnown (about_of g) g.nodes g.unfolded.items

-- pairs that are open come behind, and all else stays
pub record IsWider (old new : Graph) : Type 0 where
  pub same : about_of new ≡ about_of old
  pub more : AreMore old.nodes new.nodes
  pub unfolded_same : new.unfolded.items ≡ old.unfolded.items

-- what the list of a question stands for
abbrev pub mets_in : Graph → List Entry → List Met
mets_in g es = mets (pairs_in g) es

-- each number of the list has its pair
abbrev pub AreNumbers : Graph → List Entry → Type 0
AreNumbers g es = (e : Entry) → In e es → e.node < length (pairs_in g)
