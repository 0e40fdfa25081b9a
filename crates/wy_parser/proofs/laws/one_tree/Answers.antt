use Rattle.wy_parser.proofs.FileReader.{one_tree}
use Rattle.wy_parser.proofs.laws.one_tree.Goals as goal

pub returns : goal.returns
returns c = λ ts tree other s t. one_tree tree other ts s t
