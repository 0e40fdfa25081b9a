use Rattle.wy_host.proofs.FileNames.{lists_file_names}
use Rattle.wy_host.proofs.listing.listing.Goals as goal

pub returns : goal.returns
returns c = lists_file_names c.args.names.now _ c.requires c.in_ok-lines_of.ensures
