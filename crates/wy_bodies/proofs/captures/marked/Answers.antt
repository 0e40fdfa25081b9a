use Rattle.std.proofs.Common.{◌<◌, ◌∷◌, [], map, take, length, Some, rules, sym, ap, ◌∙◌, cond}
use Rattle.std.proofs.lemmas.List.{map-append}
use Rattle.std.specs.Ordering.{nat_cmp}
use Rattle.std.specs.BTreeMap.{get, is_at}
use Rattle.std.specs.Map.{lookup}
use Rattle.wy_symbols.specs.Lent.{lent_text}
use Rattle.wy_bodies.specs.Written.{mark}
use Rattle.wy_symbols.proofs.Turns.{taken}
use Rattle.wy_bodies.proofs.Marks.{mark_none, mark_more, put, put_is}
use Rattle.wy_bodies.proofs.captures.marked.Goals as goal
use Rattle.wy_bodies.proofs.captures.marked.Goals.{in-Some+in_ok-insert-in-Some, in-None}

pub loop-name-init : goal.loop-name-init
loop-name-init c = λ k. ap (lookup (is_at (nat_cmp k))) c.new-marks.ensures.empty ∙ sym (mark_none c.args.variables.now k)

pub loop-name-preserved : goal.loop-name-preserved
loop-name-preserved c =
    λ k.
    let vs = c.args.variables.now in
    let i = c.loop-name.name-index in
    let x = c.name-item.result in
    let lt : i < length c.args.names.now = search rules in
    let names = map lent_text (take i c.args.names.now) in
    let more = mark_more vs names x.now k ∙ ap (λ o. put o k (mark vs names k)) (sym c.latest.ensures) in
    let all = sym (map-append lent_text (take i c.args.names.now) (x ∷ [])) ∙ ap (map lent_text) (taken c.args.names.now i x lt c.name-item.is) in
    elim c.match-latest.branch [
      | in-Some+in_ok-insert-in-Some w ↦
          ap (λ m. get nat_cmp m k) w.marks-is
          ∙ w.in_ok-insert-in-Some.ensures.updates.0 k
          ∙ ap (cond (is_at (nat_cmp w.in-Some.latest.number) k) (Some w.in-Some.latest.variable)) (c.loop-name.invariant k)
          ∙ put_is w.in-Some.latest k (mark vs names k)
          ∙ ap (λ o. put o k (mark vs names k)) (sym w.in-Some.is)
          ∙ sym more ∙ ap (λ l. mark vs l k) all
      | in-None w ↦
          ap (λ m. get nat_cmp m k) w.marks-is
          ∙ c.loop-name.invariant k
          ∙ ap (λ o. put o k (mark vs names k)) (sym w.in-None.is)
          ∙ sym more ∙ ap (λ l. mark vs l k) all
    ]
