-- The own type of a grant of the program has for each member the atom of the grant and the member: grants stand first, and each opens an atom for
-- each member.
use Rattle.std.proofs.Common.{◌≡◌, ℕ, zero, suc, ◌+◌, ◌<◌, List, [], ◌∷◌, ◌++◌, map, length, refl, sym, ap, ap₂, ◌∙◌, subst, arith, Some, append_assoc, length-append}
use Rattle.std.specs.Prelude.{slice_get, slice_index_or}
use Rattle.std.proofs.Math.ListN.{length-map}
use Rattle.wy_text.specs.declared.fault.AtomName.{AtomName}
use Rattle.wy_effects.specs.AtomTable.{atom_name}
use Rattle.wy_effects.specs.EffSet.{replace}
use Rattle.wy_text.proofs.Lists.{In-slice_get}
use Rattle.wy_types.specs.declared.types.TypeRef.TheVariants.{Named}
use Rattle.wy_types.specs.declared.linked.Actual.TheVariants as actual
use Rattle.wy_types.specs.declared.resolved.Origin.TheVariants.{Grant}
use Rattle.wy_types.specs.declared.resolved.OwnName.{OwnName}
use Rattle.wy_types.specs.Program.{Program}
use Rattle.wy_types.specs.Types.{substituted}
use Rattle.wy_types.specs.Core.{IsCore}
use Rattle.wy_types.specs.Ground.{Visited, type_of, abstract_names, members_of, single_sets, visit_name, visit_names, visit, program_number, program_sets, start_list}
use Rattle.wy_rules.specs.GroundTypes.{type_at}
use Rattle.wy_rules.specs.OwnNames.{opens, HasItsType, HaveTheirTypes, GrantsStandFirst, LinesAreTyped}
use Rattle.wy_authority.specs.Authority.{granted, grant_atoms, authority_of}
use Rattle.wy_authority.specs.Report.{named_atoms}
use Rattle.wy_sound.specs.Arguments.{program_names, actual_type}
use Rattle.wy_sound.proofs.Linked.{GrantsFit, sets_of}
use Rattle.wy_sound.proofs.LinkingLists.{GoesOn, goes_on_same, goes_on_further, read_within}
use Rattle.wy_sound.proofs.Lists.{some_same}
use Rattle.wy_sound.proofs.LinkingSets.{or_there, singles, single_sets_are, length_singles}
use Rattle.wy_sound.proofs.LinkingVisits.{later_names_grow}
use Rattle.wy_sound.proofs.LinkingPrograms.{last_scope}
use Rattle.wy_sound.proofs.LinkingScopes.{program_typed}

-- what stands in a list from a place on
pub record StandsAt {X : Type 0} (all : List X) (place : ℕ) (part : List X) : Type 0 where
  pub before : List X
  pub after : List X
  pub is : all ≡ before ++ (part ++ after)
  pub count : place ≡ length before

-- a grant: its type is of the atoms from a number on, the sets of these are themselves in the end, and their names are the grant's
pub record IsGranted (p : Program) (top : List (List ℕ)) (atoms : List AtomName) (n : OwnName) : Type 0 where
  pub declared : ℕ
  pub first : ℕ
  pub typ : n.typ ≡ Named declared (single_sets first (members_of p n.typ))
  pub sets : StandsAt top first (single_sets first (members_of p n.typ))
  pub named : StandsAt atoms first (map (atom_name n.name) (members_of p n.typ))

-- the names of the atoms from a number on
names_there : (atoms before after : List AtomName) (owner : List ℕ) (k : ℕ) (members : List (List ℕ)) →
    atoms ≡ before ++ (map (atom_name owner) members ++ after) → k ≡ length before →
    map (named_atoms atoms) (single_sets k members) ≡ map (λ member. atom_name owner member ∷ []) members
names_there atoms before after owner k [] e at = refl
names_there atoms before after owner k (m ∷ ms) e at =
    let rest = map (atom_name owner) ms ++ after in
    let none = atom_name [] [] in
    let here : slice_index_or atoms k none ≡ atom_name owner m =
    ap₂ (λ l j. slice_index_or l j none) e at ∙ or_there before rest (atom_name owner m) none in
    let next : atoms ≡ (before ++ atom_name owner m ∷ []) ++ rest = e ∙ sym (append_assoc before (atom_name owner m ∷ []) rest) in
    let place : k + 1 ≡ length (before ++ atom_name owner m ∷ []) = rw (length-append before (atom_name owner m ∷ [])) (omega (arith, at)) in
    ap₂ (λ a l. (a ∷ []) ∷ l) here (names_there atoms (before ++ atom_name owner m ∷ []) after owner (k + 1) ms next place)

module _ (p : Program) (depth : ℕ) (outer : List OwnName) (top : List (List ℕ)) where
  visited : OwnName → Visited → Visited
  visited n v = visit_name p (visit p depth) outer [] n n.origin v

  -- the sets of a grant's atoms
  granted_sets : (n : OwnName) (v : Visited) → n.origin ≡ Grant → (visited n v).sets ≡ v.sets ++ single_sets (length v.sets) (members_of p n.typ)
  unfolding visited
  granted_sets n v e = ap (λ o. (visit_name p (visit p depth) outer [] n o v).sets) e

  granted_atoms : (n : OwnName) → n.origin ≡ Grant → granted p n.origin n ≡ map (atom_name n.name) (members_of p n.typ)
  granted_atoms n e = ap (λ o. granted p o n) e

  first_granted : (n : OwnName) (ns : List OwnName) (v : Visited) (k : ℕ) (before : List AtomName) → length v.sets ≡ k → k ≡ length before →
      HasItsType p k n n.origin → GoesOn (visited n v).sets top → n.origin ≡ Grant → IsGranted p top (before ++ grant_atoms p (n ∷ ns)) n
  first_granted n ns v k before count same typed goes e =
      let members = members_of p n.typ in
      let t : (d : ℕ) × (n.typ ≡ Named d (single_sets k (abstract_names (slice_get p.declarations d)))) = subst (HasItsType p k n) e typed in
      record {
        declared = t.0;
        first = k;
        typ = t.1 ∙ ap (λ l. Named t.0 (single_sets k l)) (sym (ap (members_of p) t.1));
        sets = record {
          before = v.sets;
          after = goes.0;
          is = goes.1 ∙ ap (λ l. l ++ goes.0) (granted_sets n v e) ∙ append_assoc v.sets (single_sets (length v.sets) members) goes.0 ∙
              ap (λ j. v.sets ++ (single_sets j members ++ goes.0)) count;
          count = sym count;
        };
        named = record {
          before = before;
          after = grant_atoms p ns;
          is = ap (λ l. before ++ (l ++ grant_atoms p ns)) (granted_atoms n e);
          count = same;
        };
      }

  each_granted : (ns : List OwnName) (v : Visited) (k : ℕ) (before : List AtomName) → length v.sets ≡ k → k ≡ length before →
      HaveTheirTypes p k ns → GrantsStandFirst ns → GoesOn (visit_names p (visit p depth) outer [] ns v).sets top →
      (g : ℕ) (n : OwnName) → slice_get ns g ≡ Some n → n.origin ≡ Grant → IsGranted p top (before ++ grant_atoms p ns) n
  unfolding visited
  each_granted [] v k before count same typed first goes g n at e = absurd (cc)
  each_granted (m ∷ ns) v k before count same typed first goes zero n at e =
      let is : m ≡ n = some_same at in
      let grows = later_names_grow p depth outer [] ns (visited m v) in
      subst (IsGranted p top (before ++ grant_atoms p (m ∷ ns))) is
      (first_granted m ns v k before count same typed.0 (goes_on_further _ _ top grows.sets goes) (ap (λ (x : OwnName). x.origin) is ∙ e))
  each_granted (m ∷ ns) v k before count same typed first goes (suc g) n at e =
      let grant : m.origin ≡ Grant = first.0 n (In-slice_get ns g n at) e in
      let members = members_of p m.typ in
      let opened : length (opens p m m.origin) ≡ length members = ap (λ o. length (opens p m o)) grant in
      let sets : length (visited m v).sets ≡ length v.sets + length members =
      ap length (granted_sets m v grant) ∙ length-append v.sets (single_sets (length v.sets) members) ∙
      ap (λ j. length v.sets + j) (length_singles (length v.sets) members) in
      let atoms : length (before ++ granted p m.origin m) ≡ length before + length members =
      length-append before (granted p m.origin m) ∙ ap (λ l. length before + length l) (granted_atoms m grant) ∙
      ap (λ j. length before + j) (length-map members (atom_name m.name)) in
      subst (λ l. IsGranted p top l n) (append_assoc before (granted p m.origin m) (grant_atoms p ns))
      (each_granted ns (visited m v) (k + length (opens p m m.origin)) (before ++ granted p m.origin m) (omega (arith, sets, opened, count))
      (omega (arith, atoms, opened, same)) typed.1 first.1 goes g n at e)

------------------------------------------------------------
-- The program's grants

module _ (p : Program) (c : IsCore p) (t : LinesAreTyped p) (first : GrantsStandFirst (program_names p)) where
  grant_is : (depth : ℕ) → 0 < depth → (top : List (List ℕ)) →
      GoesOn (visit p depth (program_names p) [] (program_names p) (record { started = []; actuals = []; sets = [] })).sets top →
      (g : ℕ) (n : OwnName) → slice_get (program_names p) g ≡ Some n → n.origin ≡ Grant → IsGranted p top (authority_of p).atoms n
  grant_is zero lt top goes g n at e = absurd (omega arith)
  grant_is (suc k) lt top goes g n at e =
      each_granted p k (program_names p) top (program_names p) (record { started = []; actuals = []; sets = [] }) 0 [] refl refl
      (program_typed p c t) first goes g n at e

  pub grants_fit : GrantsFit p
  grants_fit g n at e =
      let top = program_sets p in
      let atoms = (authority_of p).atoms in
      let members = members_of p n.typ in
      let main = last_scope p.scopes c.program in
      let last = read_within p.scopes (program_number p) main.0 main.1 in
      let h = grant_is (length p.scopes) (omega (arith, last)) top (goes_on_same top) g n at e in
      let sets = single_sets h.first members in
      let typ : sets_of (actual_type p (actual.Grant g)) ≡ map (replace top) sets =
      ap (λ o. sets_of (type_at (length (start_list p)) (substituted top (type_of o)))) at ∙
      ap (λ y. sets_of (type_at (length (start_list p)) (substituted top y))) h.typ in
      let own : map (replace top) sets ≡ sets =
      singles (h.first + length members) top h.sets.before sets h.sets.after h.first members h.sets.is h.sets.count (length_singles h.first members)
      (single_sets_are h.first (h.first + length members) members (omega arith)) in
      ap (map (named_atoms atoms)) (typ ∙ own) ∙ names_there atoms h.named.before h.named.after n.name h.first members h.named.is h.named.count
