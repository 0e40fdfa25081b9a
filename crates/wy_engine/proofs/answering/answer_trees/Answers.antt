use Rattle.std.proofs.Common.{arith, map, length, ◌≡◌, ◌∙◌, List, ℕ, ap, refl, sym}
use Rattle.std.proofs.lemmas.List.{length-map}
use Rattle.wy_syntax.specs.Views.{file_tree}
use Rattle.wy_settings.specs.Settings.{texts_among}
use Rattle.wy_settings.specs.declared.command_line.Command.TheVariants as command
use Rattle.wy_engine.specs.FileTrees.{HaveTrees}
use Rattle.wy_engine.proofs.Doing.{as_many, did_certify, did_check, did_format, did_policy, did_recheck, did_report, did_run, first_as, runs_as}
use Rattle.wy_engine.proofs.OneItem.{one_mapped}
use Rattle.wy_engine.proofs.TextsAmong.{all_texts}
use Rattle.wy_engine.proofs.answering.answer_trees.Goals as goal

pub returns-in-Check : goal.returns-in-Check
returns-in-Check g c = did_check _ c.args.texts.now (map file_tree c.args.trees.now) _ _ _ _ _ c.in-Check.is c.requires.trees c.check_trees.ensures

pub returns-in-Authority : goal.returns-in-Authority
returns-in-Authority g c =
    did_report _ c.args.texts.now (map file_tree c.args.trees.now) _ _ _ _ _ c.in-Authority.is c.requires.trees c.report_trees.ensures

pub returns-in-Run : goal.returns-in-Run
returns-in-Run g c =
    did_run _ c.args.texts.now c.way_of.result (map file_tree c.args.trees.now) _ _ _ _ _ _ _ (c.way_of.ensures.runs (runs_as c.in-Run.is tt)) c.way_of.ensures.numbered c.requires.trees
    c.run_trees.ensures

pub returns-in-Trace : goal.returns-in-Trace
returns-in-Trace g c =
    did_run _ c.args.texts.now c.way_of.result (map file_tree c.args.trees.now) _ _ _ _ _ _ _ (c.way_of.ensures.runs (runs_as c.in-Trace.is tt)) c.way_of.ensures.numbered c.requires.trees
    c.run_trees-in-Trace.ensures

pub returns-in-Observe : goal.returns-in-Observe
returns-in-Observe g c =
    did_run _ c.args.texts.now c.way_of.result (map file_tree c.args.trees.now) _ _ _ _ _ _ _ (c.way_of.ensures.runs (runs_as c.in-Observe.is tt)) c.way_of.ensures.numbered c.requires.trees
    c.run_trees-in-Observe.ensures

pub returns-in-Sample : goal.returns-in-Sample
returns-in-Sample g c =
    did_run _ c.args.texts.now c.way_of.result (map file_tree c.args.trees.now) _ _ _ _ _ _ _ (c.way_of.ensures.runs (runs_as c.in-Sample.is tt)) c.way_of.ensures.numbered c.requires.trees
    c.run_trees-in-Sample.ensures

pub bounds-trees-0 : goal.bounds-trees-0
bounds-trees-0 g c =
    let one : length c.args.texts.now ≡ 1 = c.requires.one c.in-Format.is in
    let all : texts_among c.args.asked.command c.args.texts.now ≡ c.args.texts.now = all_texts c.args.asked.command command.Format c.args.texts.now c.in-Format.is refl in
    let have : HaveTrees 1 (texts_among c.args.asked.command c.args.texts.now) (map file_tree c.args.trees.now) = c.requires.trees in
    let many : length c.args.trees.now ≡ length c.args.texts.now =
    sym (length-map c.args.trees.now file_tree) ∙ as_many 1 (texts_among c.args.asked.command c.args.texts.now) (map file_tree c.args.trees.now) have ∙ ap (λ (ts : List (List ℕ)). length ts) all in
    omega arith

pub returns-in-Format : goal.returns-in-Format
returns-in-Format g c =
    let one : length c.args.texts.now ≡ 1 = c.requires.one c.in-Format.is in
    let all : texts_among c.args.asked.command c.args.texts.now ≡ c.args.texts.now = all_texts c.args.asked.command command.Format c.args.texts.now c.in-Format.is refl in
    let have : HaveTrees 1 (texts_among c.args.asked.command c.args.texts.now) (map file_tree c.args.trees.now) = c.requires.trees in
    let many : length c.args.trees.now ≡ length c.args.texts.now =
    sym (length-map c.args.trees.now file_tree) ∙ as_many 1 (texts_among c.args.asked.command c.args.texts.now) (map file_tree c.args.trees.now) have ∙ ap (λ (ts : List (List ℕ)). length ts) all in
    did_format _ c.args.texts.now (map file_tree c.args.trees.now) (file_tree c.index-trees-0.result) _ _ _ _ _ c.in-Format.is have
    (one_mapped file_tree c.args.trees.now c.index-trees-0.result (omega arith) (omega arith) c.index-trees-0.is)
    c.write_form.ensures

pub returns-in-Policy : goal.returns-in-Policy
returns-in-Policy g c =
    did_policy _ c.args.texts.now c.as_bytes.result.now _ (map file_tree c.args.trees.now) _ _ _ _ _ c.in-Policy.is (c.requires.some (first_as c.in-Policy.is tt)) (c.as_bytes.ensures ∙ c.index-texts-0.is)
    c.requires.trees c.permit_trees.ensures

pub returns-in-Certify : goal.returns-in-Certify
returns-in-Certify g c =
    did_certify _ c.args.texts.now (map file_tree c.args.trees.now) _ _ _ _ _ c.in-Certify.is c.requires.trees c.certify_trees.ensures

pub returns-in-Recheck : goal.returns-in-Recheck
returns-in-Recheck g c =
    did_recheck _ c.args.texts.now c.as_bytes-in-Recheck.result.now _ (map file_tree c.args.trees.now) _ _ _ _ _ c.in-Recheck.is (c.requires.some (first_as c.in-Recheck.is tt)) (c.as_bytes-in-Recheck.ensures ∙ c.index-texts-0-in-Recheck.is)
    c.requires.none c.requires.trees c.recheck_trees.ensures
