use Rattle.std.proofs.Common.{◌≡◌, ◌∙◌, List, ◌∷◌, [], ◌++◌, ℕ, ◌+◌, length, sym, ap, subst, arith}
use Rattle.wy_text.proofs.Lists.{In-left, In-push}
use Rattle.wy_verified.proofs.Lists.{map_length}
use Rattle.wy_image.specs.declared.file.Instance.{Instance}
use Rattle.wy_verify.specs.Tables.{same_pair, Adds, EntryNote, typings_in, typings_notes, bounds_notes}
use Rattle.wy_verify.proofs.Finding.{on_ok}
use Rattle.wy_verify.proofs.Noting.{adds_then}
use Rattle.wy_verify.proofs.LookingUp.{typings_last}
use Rattle.wy_verify.proofs.tables.Places.add_typings.Goals as goal

pub add_instances-requires : goal.add_instances-requires
add_instances-requires c = λ t i. c.requires t (In-left t (typings_in c.args.file.now.instances) (c.args.file.now.main.typing ∷ []) i)

pub add_bodies-requires : goal.add_bodies-requires
add_bodies-requires c = c.requires c.args.file.now.main.typing (In-push c.args.file.now.main.typing (typings_in c.args.file.now.instances))

pub returns : goal.returns
returns c =
    let old = c.args.self.now.entries in
    let m = c.add_instances.new.self.entries in
    let new = c.add_bodies.new.self.entries in
    let ts = typings_in c.args.file.now.instances in
    let main = c.args.file.now.main.typing in
    let row : c.in_ok-word.field-0 ≡ 0 + length ts =
    c.in_ok-word.ensures ∙ c.len.ensures ∙ sym (map_length (λ (i : Instance). i.typing) c.args.file.now.instances) ∙ (let y : length ts ≡ 0 + length ts = omega arith in y) in
    let notes : typings_notes 0 ts ++ bounds_notes c.in_ok-word.field-0 0 main.bodies ≡ typings_notes 0 (ts ++ main ∷ []) =
    ap (λ (n : ℕ). typings_notes 0 ts ++ bounds_notes n 0 main.bodies) row ∙ sym (typings_last 0 ts main) in
    on_ok c.add_bodies.result (Adds same_pair m new (bounds_notes c.in_ok-word.field-0 0 main.bodies)) (Adds same_pair old new (typings_notes 0 (ts ++ main ∷ [])))
    (λ b. subst (λ (l : List EntryNote). Adds same_pair old new l) notes (adds_then same_pair old m new (typings_notes 0 ts) (bounds_notes c.in_ok-word.field-0 0 main.bodies) c.in_ok-add_instances.ensures b))
    c.add_bodies.ensures
