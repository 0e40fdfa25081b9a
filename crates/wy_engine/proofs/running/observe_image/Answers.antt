use Rattle.std.proofs.Common.{◌≡◌, ◌∙◌, ap, map}
use Rattle.wy_text.specs.Members.{Apart}
use Rattle.wy_machine.specs.Observing.{instance_names}
use Rattle.wy_meaning.specs.Used.{UsedState}
use Rattle.wy_meaning.specs.declared.used.Account.{Account}
use Rattle.wy_policy.specs.Used.{used_sets}
use Rattle.wy_engine.specs.Running.{begun}
use Rattle.wy_engine.proofs.NamesInCode.{kept_sets}
use Rattle.wy_engine.proofs.running.observe_image.Goals as goal

pub returns : goal.returns
returns g c =
    let ran = c.run_observed-end.ensures.runs in
    let used = c.run_observed-end.new.used in
    let atoms : used.atoms ≡ c.args.authority.now.atoms = ran.atoms ∙ ap (λ (u : UsedState). u.atoms) c.in-Ok.ensures.made ∙ c.as_slice-atoms.ensures in
    let apart : Apart (instance_names c.args.image.now.code) = rw c.requires.names c.requires.apart in
    let same : map (λ (a : Account). a.set) used.accounts ≡ used_sets c.args.authority.now ran.runs.events =
    kept_sets c.args.authority.now (instance_names c.args.image.now.code) ran.runs.events used atoms c.requires.names (ran.follows apart) in
    begun c.run_observed-end.result ran.runs (rw same at c.write_used.ensures)
