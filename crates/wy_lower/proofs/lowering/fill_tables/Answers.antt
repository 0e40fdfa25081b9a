use Rattle.std.proofs.Common.{[], map, sym, ap, ap₂, ◌∙◌, subst}
use Rattle.std.proofs.lemmas.Result.{on_ok_weaker}
use Rattle.wy_types.specs.Program.{scope_of}
use Rattle.wy_lower.specs.EmitScopes.{AreTabled}
use Rattle.wy_lower.specs.Lowering.{entry_names}
use Rattle.wy_lower.specs.Parts.{each_once_after, texts_in, calls_in, scopes_parts}
use Rattle.wy_lower.proofs.EmitPlaces.{once_append}
use Rattle.wy_lower.proofs.lowering.fill_tables.Goals as goal

pub returns : goal.returns
returns c =
    let ss = c.args.core.now.scopes in
    let entries = entry_names (map scope_of ss) in
    let tabled = c.in_ok-tables_of_scopes.ensures in
    let called =
    ap (λ k. each_once_after k entries)
    (tabled.methods ∙ ap₂ (λ k l. each_once_after k (calls_in (scopes_parts (map scope_of l)))) c.requires.methods c.as_slice.ensures)
    ∙ sym (once_append [] (calls_in (scopes_parts (map scope_of ss))) entries) in
    let keys = c.tables_of_scopes.new.names.methods.keys in
    let put = c.put_entries.ensures in
    let after = c.put_entries.result in
    record {
      actuals = on_ok_weaker after (λ _. c.in_ok-add_actuals.ensures) put;
      texts = on_ok_weaker after (λ _. tabled.texts ∙ ap₂ (λ k l. each_once_after k (texts_in (scopes_parts (map scope_of l)))) c.requires.texts c.as_slice.ensures) put;
      methods = on_ok_weaker after (λ e. e ∙ ap (λ l. each_once_after keys (entry_names (map scope_of l))) c.as_slice-2.ensures ∙ called) put;
      tables = on_ok_weaker after (λ _. subst (λ l. AreTabled (map scope_of l) c.tables_of_scopes.new.all.items) c.as_slice.ensures tabled.tables) put;
    }
