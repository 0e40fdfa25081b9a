use Rattle.std.proofs.Common.{◌≡◌, ℕ, List, [], map, length, Some, sym, ap, ◌∙◌, subst, cond, rules}
use Rattle.indexmap.specs.IndexMap.{get}
use Rattle.wy_bodies.specs.declared.sight.Known as code
use Rattle.wy_symbols.specs.Declarations.{same_name}
use Rattle.wy_bodies.specs.InSight.{known_of, latest, numbered, held, KeepsHidden}
use Rattle.wy_bodies.proofs.Latests.{found_more, hidden_more}
use Rattle.wy_bodies.proofs.sight.Variables.push.Goals as goal

pub invariant_of-self-in-Ok : goal.invariant_of-self-in-Ok
invariant_of-self-in-Ok c =
    let ks : List code.Known = c.self.inside.known.items in
    let name : List ℕ = c.in_ok-name.name in
    let k : code.Known = record { name = name; variable = c.args.variable; hides = c.latest-hides.result } in
    let same : c.in_ok-key.key ≡ name = c.in_ok-key.ensures ∙ sym c.in_ok-name.ensures in
    let hid : c.latest-hides.result ≡ latest (map known_of ks) name =
    c.latest-hides.ensures ∙ ap (latest c.args.self.now) (sym c.in_ok-name.ensures) ∙ ap (λ l. latest l name) (sym c.self.view_is) in
    let put : (x : List ℕ) → get same_name c.insert.new.self x ≡ cond (same_name name x) (Some (Some (numbered c.len-number.result c.args.variable))) (get same_name c.self.inside.latest x) =
    λ x. c.in-Ok.ensures.updates.0 x ∙ ap (λ n. cond (same_name n x) (Some (Some (numbered c.len-number.result c.args.variable))) (get same_name c.self.inside.latest x)) same in
    let at : c.len-number.result ≡ length ks = search rules in
    let P : List code.Known → Type 0 = λ l. ((x : List ℕ) → held (get same_name c.insert.new.self x) ≡ latest (map known_of l) x) × KeepsHidden [] l in
    subst P (sym c.in_ok-push.ensures.items) (
      found_more ks k (get same_name c.self.inside.latest) (get same_name c.insert.new.self) c.len-number.result at c.self.invariant.0 put,
      hidden_more [] ks k c.self.invariant.1 hid,
    )
