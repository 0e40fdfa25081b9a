use Rattle.std.proofs.Common.{rules, ap₂, codes, true, ◌≡◌, ◌∙◌}
use Rattle.std.proofs.lemmas.Result.{IfOk-weaker}
use Rattle.clap.specs.Simple.{App, app_of, new_app, new_rule, with_rule}
use Rattle.wy_settings.specs.Settings.{option_rule, repeated_rule}
use Rattle.wy_settings.proofs.matching.command_line.Goals as goal

-- the command before its arguments
abbrev bare : App
bare = record (new_app (codes "wyvern")) { top = record (new_app (codes "wyvern")).top { no_binary_name = true; disable_help_flag = true; disable_version_flag = true } }

pub returns : goal.returns
returns c =
    let none : app_of c.disable_version_flag.result ≡ bare = search rules in
    let one : app_of c.in_ok-arg.field-0 ≡ with_rule bare (new_rule (codes "command")) = c.in_ok-arg.ensures.shape (search rules) ∙ ap₂ with_rule none (search rules) in
    let two : app_of c.in_ok-arg-2.field-0 ≡ with_rule (with_rule bare (new_rule (codes "command"))) (option_rule (codes "steps")) = c.in_ok-arg-2.ensures.shape (search rules) ∙ ap₂ with_rule one (search rules) in
    let three : app_of c.in_ok-arg-3.field-0 ≡ with_rule (with_rule (with_rule bare (new_rule (codes "command"))) (option_rule (codes "steps"))) (option_rule (codes "depth")) = c.in_ok-arg-3.ensures.shape (search rules) ∙ ap₂ with_rule two (search rules) in
    let four : app_of c.in_ok-arg-4.field-0 ≡ with_rule (with_rule (with_rule (with_rule bare (new_rule (codes "command"))) (option_rule (codes "steps"))) (option_rule (codes "depth"))) (repeated_rule (codes "folder")) = c.in_ok-arg-4.ensures.shape (search rules) ∙ ap₂ with_rule three (search rules) in
    IfOk-weaker c.arg-5.result _ _ (λ r h. h.shape (search rules) ∙ ap₂ with_rule four (search rules)) c.arg-5.ensures
