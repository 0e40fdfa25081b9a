-- Visits only ever add to the instances, and go on name by name. So where too many have started before the last name, too many
-- start in all.
use Rattle.std.proofs.Common.{◌≡◌, ℕ, zero, suc, ◌+◌, ◌-◌, ◌<◌, ◌≤◌, List, [], ◌∷◌, ◌++◌, Option, Some, None, Err, map, length, get_or, drop, sym, ap, ◌∙◌, subst, arith, length-append, append-nil}
use Rattle.std.specs.Prelude.{codes, slice_get, slice_index_or, Result, if◌then◌else◌}
use Rattle.std.proofs.lemmas.List.{at_drop_more}
use Rattle.wy_effects.specs.EffSet.{replace}
use Rattle.wy_types.specs.declared.linked.Actual.{Actual}
use Rattle.wy_types.specs.declared.linked.Actual.TheVariants as actual
use Rattle.wy_types.specs.declared.linked.Instance.{Instance as Started}
use Rattle.wy_types.specs.declared.resolved.Origin.{Origin}
use Rattle.wy_types.specs.declared.resolved.Origin.TheVariants.{Parameter, Grant, Use, Instance, Import}
use Rattle.wy_types.specs.declared.resolved.OwnName.{OwnName}
use Rattle.wy_types.specs.Program.{Program}
use Rattle.wy_types.specs.Ground.{Visited, Visit, names_of, is_use, uses_among, arguments_sets, handed, used, lined, instance_of, number_from, visit_name, visit_names, visit}
use Rattle.wy_link.specs.declared.linking.Settled.{Settled}
use Rattle.wy_link.specs.declared.linking.LinkRefusal.{LinkRefusal}
use Rattle.wy_link.specs.declared.linking.LinkRefusal.TheVariants.{Limit, Memory}
use Rattle.wy_link.specs.Linking.{ComesTo, visited, with_instance}

one_more : (old new : List Started) (i : Started) → length old ≤ length new → length old ≤ length (new ++ i ∷ [])
one_more old new i h = simp length-append (omega arith)

module _ (p : Program) (inside : Visit) (grows : (outer : List OwnName) (prefix : List ℕ) (names : List OwnName) (v : Visited) → length v.started ≤ length (inside outer prefix names v).started) where
  used_grows : (v : Visited) (name : List ℕ) (m : ℕ) (there : Option ℕ) → length v.started ≤ length (used p inside v name m there).started
  used_grows v name m (Some i) = omega arith
  used_grows v name m None = one_more v.started _ _ (grows (names_of (slice_get p.scopes m)) [] (uses_among (names_of (slice_get p.scopes m))) _)

  name_grows : (outer : List OwnName) (prefix : List ℕ) (n : OwnName) (o : Origin) (v : Visited) → length v.started ≤ length (visit_name p inside outer prefix n o v).started
  name_grows outer prefix n (Parameter bare) v = omega arith
  name_grows outer prefix n Grant v = omega arith
  name_grows outer prefix n (Use m) v = used_grows v (codes "pure " ++ n.name) m (number_from 0 (codes "pure " ++ n.name) v.started)
  name_grows outer prefix n (Instance m arguments) v = one_more v.started _ _ (grows _ _ _ (handed p outer v m arguments))
  name_grows outer prefix n (Import m arguments bound) v = one_more v.started _ _ (grows _ _ _ (handed p outer v m arguments))

  names_grow : (outer : List OwnName) (prefix : List ℕ) (names : List OwnName) (v : Visited) → length v.started ≤ length (visit_names p inside outer prefix names v).started
  names_grow outer prefix [] v = omega arith
  names_grow outer prefix (n ∷ names) v =
      let one = name_grows outer prefix n n.origin v in
      let more = names_grow outer prefix names (visit_name p inside outer prefix n n.origin v) in
      omega (arith, one, more)

visit_grows : (p : Program) (k : ℕ) (outer : List OwnName) (prefix : List ℕ) (names : List OwnName) (v : Visited) → length v.started ≤ length (visit p k outer prefix names v).started
visit_grows p zero outer prefix names v = omega arith
visit_grows p (suc k) outer prefix names v = names_grow p (visit p k) (visit_grows p k) outer prefix names v

-- a visit through some scopes
pub visit_some : (p : Program) (k : ℕ) (outer : List OwnName) (prefix : List ℕ) (names : List OwnName) (v : Visited) → 0 < k →
    visit p k outer prefix names v ≡ visit_names p (visit p (k - 1)) outer prefix names v
visit_some p zero outer prefix names v h = absurd (omega arith)
visit_some p (suc k) outer prefix names v h = (let e : suc k - 1 ≡ k = omega arith in ap (λ j. visit_names p (visit p j) outer prefix names v) (sym e))

------------------------------------------------------------
-- Refusals

-- what is refused is refused later too
refused_later : (v w : Visited) (started later : List Started) (own other : Settled) (r : LinkRefusal) → length v.started ≤ length w.started →
    ComesTo v started own (Err r) → ComesTo w later other (Err r)
refused_later v w started later own other (Limit name) le h = (h.0, omega (arith, h.1))
refused_later v w started later own other Memory le h = tt

module _ (p : Program) (k : ℕ) (outer : List OwnName) (prefix : List ℕ) (v whole : Visited) (i : ℕ) (n : OwnName) (at : i < length outer) (is : n ≡ get_or outer i n) where
  -- the visit of one own name among all
  pub name_refused : (started later : List Started) (own other : Settled) (r : LinkRefusal) → visit_names p (visit p k) outer prefix (drop i outer) v ≡ whole →
      ComesTo (visit_name p (visit p k) outer prefix n n.origin v) started own (Err r) → ComesTo whole later other (Err r)
  name_refused started later own other r w h =
      let next : Visited = visit_name p (visit p k) outer prefix n n.origin v in
      let rest : List OwnName = drop (i + 1) outer in
      let e : visit_names p (visit p k) outer prefix rest next ≡ whole =
      ap (λ (x : OwnName). visit_names p (visit p k) outer prefix (x ∷ rest) v) is ∙ sym (at_drop_more (λ l. visit_names p (visit p k) outer prefix l v) outer i n at) ∙ w in
      let P : Visited → Type 0 = λ u. length next.started ≤ length u.started in
      refused_later next whole started later own other r (subst P e (names_grow p (visit p k) (visit_grows p k) outer prefix rest next)) h

  -- the visit of one use among all
  pub use_refused : (m : ℕ) (started later : List Started) (own other : Settled) (r : LinkRefusal) → n.origin ≡ Use m →
      visit_names p (visit p k) outer prefix (uses_among (drop i outer)) v ≡ whole →
      ComesTo (used p (visit p k) v (codes "pure " ++ n.name) m (number_from 0 (codes "pure " ++ n.name) v.started)) started own (Err r) → ComesTo whole later other (Err r)
  use_refused m started later own other r o w h =
      let next : Visited = used p (visit p k) v (codes "pure " ++ n.name) m (number_from 0 (codes "pure " ++ n.name) v.started) in
      let rest : List OwnName = uses_among (drop (i + 1) outer) in
      let first : uses_among (n ∷ drop (i + 1) outer) ≡ n ∷ rest = ap (λ (x : Origin). if is_use x then n ∷ rest else rest) o in
      let turn : visit_names p (visit p k) outer prefix (n ∷ rest) v ≡ visit_names p (visit p k) outer prefix rest next =
      ap (λ (x : Origin). visit_names p (visit p k) outer prefix rest (visit_name p (visit p k) outer prefix n x v)) o in
      let e : visit_names p (visit p k) outer prefix rest next ≡ whole =
      sym turn ∙ ap (λ l. visit_names p (visit p k) outer prefix l v) (sym first) ∙
      ap (λ (x : OwnName). visit_names p (visit p k) outer prefix (uses_among (x ∷ drop (i + 1) outer)) v) is ∙
      sym (at_drop_more (λ l. visit_names p (visit p k) outer prefix (uses_among l) v) outer i n at) ∙ w in
      let P : Visited → Type 0 = λ u. length next.started ≤ length u.started in
      refused_later next whole started later own other r (subst P e (names_grow p (visit p k) (visit_grows p k) outer prefix rest next)) h

------------------------------------------------------------
-- Lines

abbrev made : List Started → List Actual → List (List ℕ) → Visited
made started actuals sets = record { started = started; actuals = actuals; sets = sets }

-- the line of an own name, whose module is visited from what it is handed
module _ (p : Program) (k : ℕ) (outer : List OwnName) (prefix : List ℕ) (n : OwnName) (m : ℕ) (arguments given : List ℕ) (started : List Started) (own taken : Settled) (names : List OwnName) (inside : List ℕ)
    (given_is : given ≡ arguments) (names_are : names ≡ names_of (slice_get p.scopes m)) (inside_is : inside ≡ prefix ++ (n.name ++ codes "."))
    (actuals : taken.actuals ≡ map (λ (a : ℕ). slice_index_or own.actuals a (actual.Grant 0)) given)
    (sets : taken.sets ≡ map (replace own.sets) (arguments_sets p outer (names_of (slice_get p.scopes m)) given)) where
  module_visited : Visited
  module_visited = visit p k (names_of (slice_get p.scopes m)) (prefix ++ (n.name ++ codes ".")) (names_of (slice_get p.scopes m)) (handed p outer (visited started own) m arguments)

  taken_is : visited started taken ≡ handed p outer (visited started own) m arguments
  taken_is =
      ap (λ l. made started l taken.sets) actuals ∙
      ap (λ l. made started (map (λ (a : ℕ). slice_index_or own.actuals a (actual.Grant 0)) given) l) sets ∙
      ap (handed p outer (visited started own) m) given_is

  visited_is : visit p k names inside names (visited started taken) ≡ module_visited
  unfolding module_visited
  visited_is =
      ap (λ l. visit p k l inside l (visited started taken)) names_are ∙
      ap (λ l. visit p k (names_of (slice_get p.scopes m)) l (names_of (slice_get p.scopes m)) (visited started taken)) inside_is ∙
      ap (visit p k (names_of (slice_get p.scopes m)) (prefix ++ (n.name ++ codes ".")) (names_of (slice_get p.scopes m))) taken_is

  module _ (mid new : List Started) (inner other : Settled) (o : Origin) where
    pub instance_comes : (r : Result (Unit {0}) LinkRefusal) (line : List ℕ) → line ≡ prefix ++ n.name → o ≡ Instance m arguments → visited mid inner ≡ visit p k names inside names (visited started taken) →
        ComesTo (lined p (visited mid own) (visited mid inner) line m) new other r → ComesTo (visit_name p (visit p k) outer prefix n o (visited started own)) new other r
    unfolding module_visited
    instance_comes r line line_is is v h =
        let P : Visited → Type 0 = λ w. ComesTo w new other r in
        let done : lined p (visited started own) (visited mid inner) line m ≡ lined p (visited started own) module_visited (prefix ++ n.name) m =
        ap (λ (w : Visited). lined p (visited started own) w line m) (v ∙ visited_is) ∙ ap (λ l. lined p (visited started own) module_visited l m) line_is in
        subst P (done ∙ ap (λ x. visit_name p (visit p k) outer prefix n x (visited started own)) (sym is)) h

    pub instance_refused : (r : LinkRefusal) → o ≡ Instance m arguments →
        ComesTo (visit p k names inside names (visited started taken)) mid inner (Err r) → ComesTo (visit_name p (visit p k) outer prefix n o (visited started own)) new other (Err r)
    unfolding module_visited
    instance_refused r is h =
        let P : Visited → Type 0 = λ w. ComesTo w mid inner (Err r) in
        let Q : Origin → Type 0 = λ x. ComesTo (visit_name p (visit p k) outer prefix n x (visited started own)) new other (Err r) in
        subst Q (sym is) (refused_later module_visited (visit_name p (visit p k) outer prefix n (Instance m arguments) (visited started own)) mid new inner other r
        (one_more module_visited.started module_visited.started _ (omega arith)) (subst P visited_is h))

    module _ (bound : List ℕ) where
      pub import_comes : (r : Result (Unit {0}) LinkRefusal) (line : List ℕ) → line ≡ prefix ++ n.name → o ≡ Import m arguments bound → visited mid inner ≡ visit p k names inside names (visited started taken) →
          ComesTo (with_instance (visited mid own) (instance_of line m inner.actuals (Some (replace own.sets bound)) inner.sets)) new other r →
          ComesTo (visit_name p (visit p k) outer prefix n o (visited started own)) new other r
      unfolding module_visited
      import_comes r line line_is is v h =
          let P : Visited → Type 0 = λ w. ComesTo w new other r in
          let add : Visited → List ℕ → List (List ℕ) → Visited = λ w l s.
          made (w.started ++ instance_of l m w.actuals (Some (replace own.sets bound)) w.sets ∷ []) (own.actuals ++ actual.Instance (length w.started) ∷ []) s in
          let done : add (visited mid inner) line own.sets ≡ add module_visited (prefix ++ n.name) (own.sets ++ []) =
          ap (λ w. add w line own.sets) (v ∙ visited_is) ∙ ap (λ l. add module_visited l own.sets) line_is ∙ ap (add module_visited (prefix ++ n.name)) (sym (append-nil own.sets)) in
          subst P (done ∙ ap (λ x. visit_name p (visit p k) outer prefix n x (visited started own)) (sym is)) h

      pub import_refused : (r : LinkRefusal) → o ≡ Import m arguments bound →
          ComesTo (visit p k names inside names (visited started taken)) mid inner (Err r) → ComesTo (visit_name p (visit p k) outer prefix n o (visited started own)) new other (Err r)
      unfolding module_visited
      import_refused r is h =
          let P : Visited → Type 0 = λ w. ComesTo w mid inner (Err r) in
          let Q : Origin → Type 0 = λ x. ComesTo (visit_name p (visit p k) outer prefix n x (visited started own)) new other (Err r) in
          subst Q (sym is) (refused_later module_visited (visit_name p (visit p k) outer prefix n (Import m arguments bound) (visited started own)) mid new inner other r
          (one_more module_visited.started module_visited.started _ (omega arith)) (subst P visited_is h))
