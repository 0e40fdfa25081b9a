use Rattle.wy_well_formed.proofs.resolved_is_kept.Goals as goal

pub returns : goal.returns
returns c items program resolves = record {
  core = c.resolved_is_core.ensures items program resolves;
  lines = c.resolved_names_fit.ensures items program resolves;
  grants = c.resolved_grants_stand_first.ensures items program resolves;
  captures = c.resolved_modules_capture_nothing.ensures items program resolves;
  once = c.resolved_makes_once.ensures items program resolves;
  main = c.resolved_main_has_no_fields.ensures items program resolves;
}
