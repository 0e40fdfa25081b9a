use Rattle.std.proofs.Common.{◌≡◌, ℕ, List, [], map, subst}
use Rattle.indexmap.specs.IndexMap.{get}
use Rattle.wy_bodies.specs.declared.sight.Known as code
use Rattle.wy_symbols.specs.Declarations.{same_name}
use Rattle.wy_bodies.specs.InSight.{known_of, latest, held, KeepsHidden}
use Rattle.wy_bodies.proofs.Latests.{popped}
use Rattle.wy_bodies.proofs.sight.Variables.pop.Goals as goal

pub invariant_of-self : goal.invariant_of-self
invariant_of-self c =
    let P : List code.Known → Type 0 = λ l. ((x : List ℕ) → held (get same_name c.self.inside.latest x) ≡ latest (map known_of l) x) × KeepsHidden [] l in
    popped c.insert-kept.result c.pop.new.self.items c.in-Some.last (get same_name c.self.inside.latest) (get same_name c.insert-kept.new.self)
    (subst P c.in-Some.ensures.items c.self.invariant) c.insert-kept.ensures.absent c.insert-kept.ensures.updates (λ u. u.0)

pub invariant_of-self-in-Some-2 : goal.invariant_of-self-in-Some-2
invariant_of-self-in-Some-2 c =
    let P : List code.Known → Type 0 = λ l. ((x : List ℕ) → held (get same_name c.self.inside.latest x) ≡ latest (map known_of l) x) × KeepsHidden [] l in
    popped c.insert-kept.result c.pop.new.self.items c.in-Some.last (get same_name c.self.inside.latest) (get same_name c.insert-kept.new.self)
    (subst P c.in-Some.ensures.items c.self.invariant) c.insert-kept.ensures.absent c.insert-kept.ensures.updates (λ u. u.0)
