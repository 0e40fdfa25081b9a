use Rattle.std.proofs.Common.{◌≡◌, map, take, drop}
use Rattle.wy_types.specs.Program.{scope_of}
use Rattle.wy_lower.specs.Parts.{each_once_after, texts_in, calls_in, scopes_parts}
use Rattle.wy_lower.specs.EmitScopes.{AreTabled}
use Rattle.wy_lower.proofs.scopes.tables_of_scopes.Given as goal

abbrev pub invariant-loop-scope : goal.invariant-loop-scope
invariant-loop-scope l = record {
  texts : each_once_after l.names.texts.keys (texts_in (scopes_parts (map scope_of (drop l.scope-index l.scopes)))) ≡ each_once_after l.initial.names.texts.keys (texts_in (scopes_parts (map scope_of l.scopes)));
  methods : each_once_after l.names.methods.keys (calls_in (scopes_parts (map scope_of (drop l.scope-index l.scopes)))) ≡ each_once_after l.initial.names.methods.keys (calls_in (scopes_parts (map scope_of l.scopes)));
  tables : AreTabled (map scope_of (take l.scope-index l.scopes)) l.all.items;
}
