use Rattle.std.proofs.Common.{◌≡◌, [], ◌++◌, ap, ◌∙◌, sym}
use Rattle.wy_symbols.specs.Declarations.{repeated}
use Rattle.wy_symbols.specs.Least.{noted}
use Rattle.wy_symbols.specs.TypeUses.{param_names, params_refusals, effect_refusals, use_refusals}
use Rattle.wy_symbols.proofs.Leasts.{noted_append}
use Rattle.wy_symbols.proofs.signatures.read_method.Goals as goal

pub returns-clause-noted : goal.returns-clause-noted
returns-clause-noted c =
    let s = c.args.scope.now in
    let g = c.args.signature.now in
    let start = c.args.least.now in
    let names = repeated [] (param_names g.params) in
    let params = params_refusals s c.args.plain g.params in
    let effect = effect_refusals s c.args.plain g.effect in
    let result = use_refusals s c.args.plain g.result in
    let named : c.note_repeated.new.least ≡ noted start names = c.in_ok-note_repeated.ensures ∙ ap (λ l. noted start (repeated [] (param_names l))) c.as_slice.ensures in
    let read : c.read_params.new.least ≡ noted c.note_repeated.new.least params =
    c.in_ok-read_params.ensures.noted ∙ ap (λ l. noted c.note_repeated.new.least (params_refusals s c.args.plain l)) c.as_slice-2.ensures in
    c.in_ok-read_type.ensures.noted
    ∙ ap (λ o. noted o result) (c.in_ok-read_effect.ensures.noted ∙ ap (λ o. noted o effect) (read ∙ ap (λ o. noted o params) named))
    ∙ sym (noted_append start names (params ++ (effect ++ result)) ∙ noted_append (noted start names) params (effect ++ result)
    ∙ noted_append (noted (noted start names) params) effect result)
