use Rattle.wy_well_formed.proofs.resolved_keeps_all.Goals as goal

pub returns : goal.returns
returns c items program resolves words = record {
  keeps = c.resolved_is_kept.ensures items program resolves;
  names = c.resolved_names_are_words.ensures items program resolves words;
  ordinary = c.resolved_names_are_ordinary.ensures items program resolves words;
}
