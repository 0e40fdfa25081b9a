use Rattle.std.proofs.Common.{rules, ◌<◌, ◌+◌, length, map, drop, sym, ap, ◌∙◌}
use Rattle.wy_types.specs.Program.{scope_of}
use Rattle.wy_lower.specs.Parts.{each_once_after, texts_in, calls_in, scope_parts, scopes_parts}
use Rattle.wy_lower.proofs.EmitLists.{split_at}
use Rattle.wy_lower.proofs.EmitPlaces.{once_append}
use Rattle.wy_lower.proofs.EmitParts.{texts_append, calls_append}
use Rattle.wy_lower.proofs.EmitTables.{tabled_more}
use Rattle.wy_lower.proofs.scopes.tables_of_scopes.Goals as goal

pub loop-scope-preserved : goal.loop-scope-preserved
loop-scope-preserved c =
    let ss = c.args.scopes.now in
    let i = c.loop-scope.scope-index in
    let s = c.scope-item.result in
    let keys = c.loop-scope.names.texts.keys in
    let called = c.loop-scope.names.methods.keys in
    let lt : i < length ss = search rules in
    let at = c.scope-item.is in
    let here = scope_parts (scope_of s) in
    let rest = scopes_parts (map scope_of (drop (i + 1) ss)) in
    record {
      texts =
          ap (λ l. each_once_after l (texts_in rest)) c.in_ok-tables_of.ensures.texts
          ∙ sym (once_append keys (texts_in here) (texts_in rest)) ∙ ap (each_once_after keys) (sym (texts_append here rest))
          ∙ ap (λ l. each_once_after keys (texts_in (scopes_parts (map scope_of l)))) (sym (split_at ss i s lt at))
          ∙ c.loop-scope.invariant.texts;
      methods =
          ap (λ l. each_once_after l (calls_in rest)) c.in_ok-tables_of.ensures.methods
          ∙ sym (once_append called (calls_in here) (calls_in rest)) ∙ ap (each_once_after called) (sym (calls_append here rest))
          ∙ ap (λ l. each_once_after called (calls_in (scopes_parts (map scope_of l)))) (sym (split_at ss i s lt at))
          ∙ c.loop-scope.invariant.methods;
      tables = tabled_more ss i s _ _ _ lt at c.in_ok-push.ensures.items c.loop-scope.invariant.tables c.in_ok-tables_of.ensures.tables;
    }
