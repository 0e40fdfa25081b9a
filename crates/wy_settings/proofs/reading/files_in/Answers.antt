use Rattle.std.proofs.Common.{◌∙◌, List, ℕ, Option, [], ap, map, string_bytes, unwrap_or}
use Rattle.std.proofs.lemmas.Result.{IfOk-weaker}
use Rattle.wy_settings.proofs.reading.files_in.Goals as goal

abbrev or_none : Option (List (List ℕ)) → List (List ℕ)
or_none found = unwrap_or found []

pub returns-in-Some : goal.returns-in-Some
returns-in-Some c = IfOk-weaker c.copied.result _ _ (λ files h. h ∙ ap or_none c.in-Some.ensures) c.copied.ensures

pub returns-in-None : goal.returns-in-None
returns-in-None c = ap (map string_bytes) c.new.ensures.items ∙ ap or_none c.in-None.ensures
