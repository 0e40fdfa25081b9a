use Rattle.std.proofs.Common.{◌≡◌, true, string_bytes}
use Rattle.std.specs.String.{string_cmp}
use Rattle.std.proofs.lemmas.Map.Views.{All-insert_key}
use Rattle.wy_device.specs.Requests.{is_file_name}
use Rattle.wy_host.proofs.listing.put_name.Goals as goal

pub returns : goal.returns
returns c = record {
  ascending = c.in_ok-insert.ensures.ordered;
  named = rw c.in_ok-insert.ensures.keys
      (All-insert_key string_cmp c.in_ok-name.name (λ name. is_file_name (string_bytes name) ≡ true) c.args.names.now.keys
      c.requires.names.named (rw c.in_ok-name.ensures.ok c.requires.name));
}
