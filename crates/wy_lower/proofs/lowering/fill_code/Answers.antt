use Rattle.std.proofs.Common.{map, ap, ap₂, ◌∙◌}
use Rattle.std.proofs.lemmas.Result.{on_ok_weaker}
use Rattle.wy_code.specs.declared.code.Code.{Code}
use Rattle.wy_types.specs.Program.{program_of}
use Rattle.wy_meaning.specs.Starts.{starts_of, started_of}
use Rattle.wy_lower.proofs.EmitStarts.{lowered_is}
use Rattle.wy_lower.proofs.lowering.fill_code.Goals as goal

pub returns : goal.returns
returns c =
    let order = ap₂ (λ k l. starts_of (program_of k) (map started_of l)) c.requires.core c.requires.linked in
    let old = c.requires.code in
    on_ok_weaker c.add_instances.result
    (lowered_is _ _ _ _ _ _ _ _ _ _ _ (ap program_of c.requires.core) order c.in_ok-add_grants.ensures (c.in_ok-add_texts.ensures ∙ c.requires.whole.methods) (c.in_ok-add_texts-2.ensures ∙ c.requires.whole.texts)
    (ap (λ (k : Code). k.bodies) old) (ap (λ (k : Code). k.scopes) old) (ap (λ (k : Code). k.main) old)) c.add_instances.ensures
