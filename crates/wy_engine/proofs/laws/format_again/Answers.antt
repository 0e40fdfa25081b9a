use Rattle.wy_canonical.proofs.Files.{printed_spelled}
use Rattle.wy_canonical.proofs.Forgetting.{printed_alike}
use Rattle.wy_syntax.specs.Canonical.{canonical_form}
use Rattle.wy_engine.proofs.OneTree.{same_tree}
use Rattle.wy_engine.proofs.laws.format_again.Goals as goal

pub returns : goal.returns
returns c = λ file file' bytes tree has within.
    let spelled = printed_spelled file file' bytes tree has within in
    record {
      tree = spelled.tree;
      has_tree = spelled.has_tree;
      only = λ other h. same_tree file' (canonical_form tree) other spelled.tree h spelled.has_tree;
      printed = printed_alike spelled.tree tree spelled.same;
    }
