-- A visit is never cut short by the number of scopes that it may go through, where no line leads back.
use Rattle.std.proofs.Common.{◌≡◌, ℕ, zero, suc, ◌+◌, List, [], ◌∷◌, ◌++◌, inl, inr, length, refl, ap, ◌∙◌, arith, Option, Some, None}
use Rattle.std.specs.Prelude.{codes, slice_get}
use Rattle.wy_text.specs.Members.{In, Within}
use Rattle.wy_types.specs.declared.resolved.Origin.{Origin}
use Rattle.wy_types.specs.declared.resolved.Origin.TheVariants.{Parameter, Grant, Use, Instance, Import}
use Rattle.wy_types.specs.declared.resolved.OwnName.{OwnName}
use Rattle.wy_types.specs.Program.{Program, Scope}
use Rattle.wy_types.specs.Core.{origin_modules, LeadsTo, NoCycle}
use Rattle.wy_types.specs.Ground.{Visited, Visit, names_of, uses_among, number_from, handed, lined, imported, used, visit_name, visit_names, visit}
use Rattle.wy_sound.specs.Grounds.{VisitsEnd}
use Rattle.wy_sound.proofs.LinkingAdded.{uses_are_names}
use Rattle.wy_sound.proofs.LinkingWays.{Way, way_on, way_ends, way_begins, names_lead}

module _ (p : Program) (no_cycle : NoCycle p) where
  -- two visits that agree on all modules to which the scope of a number leads
  module _ (m : ℕ) (one other : Visit)
      (same : (j : ℕ) → LeadsTo p m j → (prefix : List ℕ) (names : List OwnName) (v : Visited) → Within names (names_of (slice_get p.scopes j)) →
      one (names_of (slice_get p.scopes j)) prefix names v ≡ other (names_of (slice_get p.scopes j)) prefix names v) where
    used_same : (j : ℕ) → LeadsTo p m j → (v : Visited) (name : List ℕ) (there : Option ℕ) → used p one v name j there ≡ used p other v name j there
    used_same j l v name (Some y) = refl
    used_same j l v name None =
        let names = names_of (slice_get p.scopes j) in
        ap (λ (w : Visited). lined p v w name j)
        (same j l [] (uses_among names) (record { started = v.started; actuals = []; sets = [] }) (λ n i. uses_are_names names n i))

    name_same : (outer : List OwnName) (prefix : List ℕ) (n : OwnName) (o : Origin) (v : Visited) → ((j : ℕ) → In j (origin_modules o) → LeadsTo p m j) →
        visit_name p one outer prefix n o v ≡ visit_name p other outer prefix n o v
    name_same outer prefix n (Parameter bare) v l = refl
    name_same outer prefix n Grant v l = refl
    name_same outer prefix n (Use j) v l = used_same j (l j (inl refl)) v (codes "pure " ++ n.name) (number_from 0 (codes "pure " ++ n.name) v.started)
    name_same outer prefix n (Instance j arguments) v l =
        ap (λ (w : Visited). lined p v w (prefix ++ n.name) j)
        (same j (l j (inl refl)) (prefix ++ (n.name ++ codes ".")) (names_of (slice_get p.scopes j)) (handed p outer v j arguments) (λ x i. i))
    name_same outer prefix n (Import j arguments bound) v l =
        ap (λ (w : Visited). imported p v w (prefix ++ n.name) j bound)
        (same j (l j (inl refl)) (prefix ++ (n.name ++ codes ".")) (names_of (slice_get p.scopes j)) (handed p outer v j arguments) (λ x i. i))

    names_same : (outer : List OwnName) (prefix : List ℕ) (names : List OwnName) (v : Visited) →
        ((n : OwnName) → In n names → (j : ℕ) → In j (origin_modules n.origin) → LeadsTo p m j) →
        visit_names p one outer prefix names v ≡ visit_names p other outer prefix names v
    names_same outer prefix [] v l = refl
    names_same outer prefix (n ∷ ns) v l =
        ap (λ (w : Visited). visit_names p one outer prefix ns w) (name_same outer prefix n n.origin v (l n (inl refl))) ∙
        names_same outer prefix ns (visit_name p other outer prefix n n.origin v) (λ x i. l x (inr i))

  -- the scope of which an own name is one leads to the name's module
  name_leads : (m : ℕ) (o : Option Scope) → slice_get p.scopes m ≡ o → (n : OwnName) → In n (names_of o) → (j : ℕ) → In j (origin_modules n.origin) → LeadsTo p m j
  name_leads m None e n i j h = absurd i
  name_leads m (Some s) e n i j h = (s, e, names_lead s.names n j i h)

  not_there : (path : List ℕ) (m : ℕ) → Way p path m 0 → (o : Option Scope) → slice_get p.scopes m ≡ o → (n : OwnName) → In n (names_of o) → ⊥
  not_there path m w None e n i = i
  not_there path m w (Some s) e n i = way_ends p no_cycle path m s e w

  nothing : (k : ℕ) (outer : List OwnName) (prefix : List ℕ) (v : Visited) → visit p k outer prefix [] v ≡ v
  nothing zero outer prefix v = refl
  nothing (suc k) outer prefix v = refl

  way_further : (path : List ℕ) (m k j : ℕ) → Way p path m (suc k) → LeadsTo p m j → Way p (m ∷ path) j k
  way_further path m k j w l = way_on p no_cycle path m j k l.0 l.1 l w

  goes_through : (more k : ℕ) (path : List ℕ) (m : ℕ) → Way p path m k → (outer : List OwnName) (prefix : List ℕ) (names : List OwnName) (v : Visited) →
      Within names (names_of (slice_get p.scopes m)) → visit p (more + k) outer prefix names v ≡ visit p k outer prefix names v
  goes_through more zero path m w outer prefix [] v among = nothing (more + 0) outer prefix v
  goes_through more zero path m w outer prefix (n ∷ ns) v among =
      absurd (not_there path m w (slice_get p.scopes m) refl n (among n (inl refl)))
  goes_through more (suc k) path m w outer prefix names v among =
      let further : more + suc k ≡ suc (more + k) = omega arith in
      ap (λ j. visit p j outer prefix names v) further ∙
      names_same m (visit p (more + k)) (visit p k)
      (λ j l prefix names v among. goes_through more k (m ∷ path) j (way_further path m k j w l) (names_of (slice_get p.scopes j)) prefix names v among)
      outer prefix names v (λ n i j h. name_leads m (slice_get p.scopes m) refl n (among n i) j h)

pub visits_end : VisitsEnd
visits_end p no_cycle k m prefix names v among =
    goes_through p no_cycle k (length p.scopes) [] m (way_begins p m) (names_of (slice_get p.scopes m)) prefix names v among
