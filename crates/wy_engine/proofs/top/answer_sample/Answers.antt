use Rattle.std.proofs.Common.{◌≡◌, ◌∙◌, Some, [], ◌∷◌, ap}
use Rattle.std.specs.Option.{option_map}
use Rattle.wy_sample.specs.Sample.{sample_text}
use Rattle.wy_engine.proofs.top.answer_sample.Goals as goal

pub returns : goal.returns
returns g c = λ texts is.
    let there : Some (sample_text c.in-Some.number ∷ []) ≡ Some texts = ap (option_map (λ number. sample_text number ∷ [])) c.in-Some.ensures.number ∙ is in
    let one : sample_text c.in-Some.number ∷ [] ≡ texts = cc in
    let same : c.in-Ok.text ∷ [] ≡ texts = ap (λ text. text ∷ []) c.in-Ok.ensures ∙ one in
    rw same at c.answer.ensures
