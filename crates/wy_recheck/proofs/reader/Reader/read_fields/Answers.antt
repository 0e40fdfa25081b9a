use Rattle.std.proofs.Common.{◌≡◌, ℕ, List, length, map, vec_len, Err, refl, sym, ap, ◌∙◌, subst, rules, Bool}
use Rattle.std.proofs.lemmas.List.{map-id}
use Rattle.wy_types.specs.declared.types.TypeRef.{TypeRef}
use Rattle.wy_types.specs.Program.{scope_of}
use Rattle.wy_types.specs.View.{values_of}
use Rattle.wy_types.specs.Vals.{value_count}
use Rattle.wy_rules.specs.Canonical.{same_type}
use Rattle.wy_rules.specs.Typing.{field_types}
use Rattle.wy_proving.specs.Reading.{same_types}
use Rattle.wy_recheck.specs.Nodes.{reading_of, lists_of, body_node_read, BodiesAreRead}
use Rattle.wy_recheck.proofs.NodesJoined.{values_counted}
use Rattle.wy_recheck.proofs.NodesOfBodies.{behind_values, values_fail_first}
use Rattle.wy_recheck.proofs.NodesFailing.{handed_on}
use Rattle.wy_recheck.proofs.reader.Reader.read_fields.Goals as goal

pub returns-in_err-read : goal.returns-in_err-read
returns-in_err-read c =
    let e : c.from_residual-in_err-read.result ≡ Err c.in_err-read.field-0.0 = handed_on c.from_residual-in_err-read.result c.in_err-read.field-0.0 c.from_residual-in_err-read.ensures.1 in
    rw e (values_fail_first c.args.self.now.nodes.now _ _ _ refl _ c.in_err-read.ensures)

pub returns : goal.returns
returns c =
    let r = c.args.self.now in
    let s = scope_of r.scope.now in
    let xs = c.args.values.now in
    let z = c.in_ok-read.read in
    let mid = c.read_values.new.at in
    let types : c.as_slice-2.result.now ≡ map (reading_of r).read (field_types s 0) = c.as_slice-2.ensures ∙ c.in_ok-types.ensures ∙ sym (map-id (field_types s 0)) in
    let holds = c.same_types-holds.ensures ∙ ap (λ (l : List TypeRef). same_types (reading_of r) same_type (lists_of r) l c.as_slice-2.result.now) c.as_slice.ensures ∙
    ap (λ (l : List TypeRef). same_types (reading_of r) same_type (lists_of r) z.types l) types in
    let size : vec_len xs ≡ length xs.items = search rules in
    let count = c.len.ensures ∙ size ∙ sym (values_counted xs.items) in
    let P : Bool → ℕ → Type 0 = λ b n. BodiesAreRead r.nodes.now (body_node_read r mid b z.effect s.start_effect s.start_place n) c.body_node.new.at c.body_node.result in
    behind_values r.nodes.now _ _ _ refl z mid _ c.body_node.result c.in_ok-read.ensures (subst (λ b. P b (value_count (values_of xs.items))) holds (subst (λ n. P c.same_types-holds.result n) count c.body_node.ensures))
