use Rattle.std.proofs.Common.{List, ℕ, ◌++◌, ◌∙◌, ap}
use Rattle.std.specs.List.{flat_map}
use Rattle.wy_sample.specs.Sample.{block_end, block_head, later_instance, later_module, later_numbers}
use Rattle.wy_sample.proofs.making.sample.Goals as goal

-- part by part, from the last one to the first
pub returns : goal.returns
returns c =
    let modules : List ℕ = flat_map later_module (later_numbers c.args.number) in
    let instances : List ℕ = flat_map later_instance (later_numbers c.args.number) in
    c.from_vec.ensures ∙ ap (λ v. v.items) c.into_bytes.ensures.value ∙ c.in_ok-push_end.ensures
    ∙ ap (λ (t : List ℕ). t ++ block_end c.args.number) (c.in_ok-push_instances.ensures
    ∙ ap (λ (t : List ℕ). t ++ instances) (c.in_ok-push_str.ensures.bytes
    ∙ ap (λ (t : List ℕ). t ++ block_head) (c.in_ok-push_modules.ensures
    ∙ ap (λ (t : List ℕ). t ++ modules) c.in_ok-text.ensures.ok)))
