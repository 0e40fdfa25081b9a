-- `main` finds by its name the instance that the visit of a line or use settled: none that starts before has the name.
use Rattle.std.proofs.Common.{◌≡◌, ℕ, zero, suc, ◌+◌, ◌<◌, List, [], ◌∷◌, ◌++◌, ◌⊎◌, map, inl, inr, length, refl, sym, ap, ap₂, ◌∙◌, subst, arith, Option, Some, None, true, false, append_assoc, append-nil, length-append}
use Rattle.std.specs.Prelude.{codes, slice_get, bytes_eq, if◌then◌else◌}
use Rattle.std.proofs.lemmas.Slice.Eq.{bytes_eq-Decides}
use Rattle.wy_text.specs.Members.{In, Apart}
use Rattle.wy_text.proofs.Lists.{In-slice_get, In-map}
use Rattle.wy_types.specs.declared.linked.Actual.{Actual}
use Rattle.wy_types.specs.declared.linked.Actual.TheVariants as actual
use Rattle.wy_types.specs.declared.linked.Instance.{Instance as Started}
use Rattle.wy_types.specs.declared.resolved.Origin.{Origin}
use Rattle.wy_types.specs.declared.resolved.Origin.TheVariants.{Parameter, Grant, Use, Instance, Import}
use Rattle.wy_types.specs.declared.resolved.OwnName.{OwnName}
use Rattle.wy_types.specs.Program.{Program, Scope}
use Rattle.wy_types.specs.Core.{IsCore}
use Rattle.wy_types.specs.Ground.{Visited, names_of, uses_among, number_from, used, visit_name, visit_names, visit, program_number, start_list}
use Rattle.wy_rules.specs.OwnNames.{opens, HasItsType, HaveTheirTypes, IsPlainName, LinesAreTyped, HavePlainNames}
use Rattle.wy_meaning.specs.Starts.{started_of, numbered_from, main_actual, main_actuals, scope_names}
use Rattle.wy_sound.proofs.Linked.{MainFits}
use Rattle.wy_sound.proofs.LinkingLists.{GoesOn, goes_on_same, goes_on_further, read_within}
use Rattle.wy_sound.proofs.Lists.{some_same}
use Rattle.wy_sound.proofs.LinkingVisits.{later_names_grow}
use Rattle.wy_sound.proofs.LinkingPrograms.{last_scope}
use Rattle.wy_sound.proofs.LinkingScopes.{names_at, program_typed}
use Rattle.wy_sound.proofs.LinkingAdded.{Adds, IsFree, free_after, IsHidden, own_name_adds, line_adds, IsUseOf, use_of, use_free}
use Rattle.wy_sound.proofs.Performing.{names_same, last_number}

------------------------------------------------------------
-- The first of a name

pub not_equal : (a b : List ℕ) → (a ≡ b → ⊥) → bytes_eq a b ≡ false
not_equal a b h =
    elim (bytes_eq a b) as (λ t. bytes_eq a b ≡ t → t ≡ false) [ true ↦ λ e. absurd (h ((bytes_eq-Decides a b).0 e)) | false ↦ λ e. refl ] refl

numbered_at : (xs : List Started) (i : Started) (rest : List Started) (name : List ℕ) (k : ℕ) → IsFree name xs → i.name ≡ name →
    numbered_from k name (map started_of (xs ++ i ∷ rest)) ≡ k + length xs
numbered_at [] i rest name k free e =
    ap (λ b. if b then k else numbered_from (k + 1) name (map started_of rest)) ((bytes_eq-Decides i.name name).1 e) ∙ omega arith
numbered_at (x ∷ xs) i rest name k free e =
    let h = numbered_at xs i rest name (k + 1) (λ j m. free j (inr m)) e in
    ap (λ b. if b then k else numbered_from (k + 1) name (map started_of (xs ++ i ∷ rest))) (not_equal x.name name (free x (inl refl))) ∙
    omega (arith, h)

-- the number that is found stays
numbered_same : (k : ℕ) (name : List ℕ) (xs more : List Started) (y : ℕ) → number_from k name xs ≡ Some y →
    numbered_from k name (map started_of (xs ++ more)) ≡ y
numbered_same k name [] more y = λ e. absurd (cc)
numbered_same k name (i ∷ xs) more y =
    elim (bytes_eq i.name name) as (λ b. (if b then Some k else number_from (k + 1) name xs) ≡ Some y →
    (if b then k else numbered_from (k + 1) name (map started_of (xs ++ more))) ≡ y) [
      | true ↦ λ e. some_same e
      | false ↦ λ e. numbered_same (k + 1) name xs more y e
    ]

plain_not_hidden : (name : List ℕ) → IsPlainName name → IsHidden name → ⊥
plain_not_hidden name h (inl space) = h.0 space
plain_not_hidden name h (inr dot) = h.1 dot

------------------------------------------------------------
-- What is handed to `main`

module _ (p : Program) (c : IsCore p) (t : LinesAreTyped p) (m : ℕ) (s : Scope) (there : slice_get p.scopes m ≡ Some s) (k : ℕ) (outer : List OwnName) where
  abbrev one : OwnName → Origin → Visited → Visited
  one n o v = visit_name p (visit p k) outer [] n o v

  -- what is handed for a name, among all instances
  abbrev Settles : List Started → OwnName → Origin → Visited → Type 0
  Settles all n o v = (one n o v).actuals ≡ v.actuals ++ main_actual (map started_of all) (length v.actuals) n.name o ∷ []

  handed_on : (v : Visited) (x y : ℕ) → x ≡ y → v.actuals ++ actual.Instance x ∷ [] ≡ v.actuals ++ actual.Instance y ∷ []
  handed_on v x y e = ap (λ z. v.actuals ++ actual.Instance z ∷ []) e

  line_found : (all : List Started) (n : OwnName) (v : Visited) (inner : List Started) (i : Started) → IsPlainName n.name → IsFree n.name v.started →
      Adds IsHidden v.started inner → i.name ≡ n.name → GoesOn (inner ++ i ∷ []) all → length inner ≡ numbered_from 0 n.name (map started_of all)
  line_found all n v inner i plain free a e goes =
      let not : (other : List ℕ) → IsHidden other → other ≡ n.name → ⊥ = λ other h f. plain_not_hidden n.name plain (subst IsHidden f h) in
      let at : all ≡ inner ++ i ∷ goes.0 = goes.1 ∙ append_assoc inner (i ∷ []) goes.0 in
      sym (ap (λ l. numbered_from 0 n.name (map started_of l)) at ∙ numbered_at inner i goes.0 n.name 0 (free_after IsHidden n.name v.started inner free a not) e ∙
      omega arith)

  use_found : (all : List Started) (n : OwnName) (j : ℕ) (v : Visited) → IsUseOf p m n j → (there : Option ℕ) →
      number_from 0 (codes "pure " ++ n.name) v.started ≡ there →
      GoesOn (used p (visit p k) v (codes "pure " ++ n.name) j there).started all →
      (used p (visit p k) v (codes "pure " ++ n.name) j there).actuals ≡
      v.actuals ++ actual.Instance (numbered_from 0 (codes "pure " ++ n.name) (map started_of all)) ∷ []
  use_found all n j v u (Some y) e goes =
      let name = codes "pure " ++ n.name in
      let at = ap (λ l. numbered_from 0 name (map started_of l)) goes.1 ∙ numbered_same 0 name v.started goes.0 y e in
      handed_on v _ _ (sym at)
  use_found all n j v u None e goes =
      let name = codes "pure " ++ n.name in
      let names = names_of (slice_get p.scopes j) in
      let inner = visit p k names [] (uses_among names) (record { started = v.started; actuals = []; sets = [] }) in
      let free = use_free p c t k m v n j u e in
      let at : all ≡ inner.started ++ _ ∷ goes.0 = goes.1 ∙ append_assoc inner.started _ goes.0 in
      handed_on v _ _
      (sym (ap (λ l. numbered_from 0 name (map started_of l)) at ∙ numbered_at inner.started _ goes.0 name 0 free refl ∙ omega arith))

  name_settles : (all : List Started) (n : OwnName) (o : Origin) (v : Visited) (opened : ℕ) → n.origin ≡ o → In n s.names → IsPlainName n.name →
      HasItsType p opened n o → IsFree n.name v.started → GoesOn (one n o v).started all → Settles all n o v
  name_settles all n (Parameter bare) v opened e among plain typed free goes = absurd typed
  name_settles all n Grant v opened e among plain typed free goes = refl
  name_settles all n (Use j) v opened e among plain typed free goes =
      use_found all n j v (use_of p c t m s there n among j e) (number_from 0 (codes "pure " ++ n.name) v.started) refl goes
  name_settles all n (Instance j arguments) v opened e among plain typed free goes =
      handed_on v _ _ (line_found all n v _ _ plain free (line_adds p k outer n.name j arguments v) refl goes)
  name_settles all n (Import j arguments bound) v opened e among plain typed free goes =
      handed_on v _ _ (line_found all n v _ _ plain free (line_adds p k outer n.name j arguments v) refl goes)

  -- no instance has the name of one of the own names that are left
  abbrev AllFree : List OwnName → List Started → Type 0
  AllFree ns xs = (n : OwnName) → In n ns → IsFree n.name xs

  names_settle : (all : List Started) (ns : List OwnName) (v : Visited) (opened : ℕ) → ((n : OwnName) → In n ns → In n s.names × IsPlainName n.name) →
      HaveTheirTypes p opened ns → Apart (map (λ (n : OwnName). n.name) ns) → AllFree ns v.started →
      GoesOn (visit_names p (visit p k) outer [] ns v).started all →
      (visit_names p (visit p k) outer [] ns v).actuals ≡ v.actuals ++ main_actuals (map started_of all) (length v.actuals) ns
  names_settle all [] v opened among typed apart free goes = sym (append-nil v.actuals)
  names_settle all (n ∷ ns) v opened among typed apart free goes =
      let w = one n n.origin v in
      let grows = later_names_grow p k outer [] ns w in
      let known = among n (inl refl) in
      let a : Actual = main_actual (map started_of all) (length v.actuals) n.name n.origin in
      let here : w.actuals ≡ v.actuals ++ a ∷ [] =
      name_settles all n n.origin v opened refl known.0 known.1 typed.0 (free n (inl refl)) (goes_on_further _ _ all grows.started goes) in
      let name_of_own : OwnName → List ℕ = λ x. x.name in
      let not : (x : OwnName) → In x ns → (other : List ℕ) → IsHidden other ⊎ (n.name ≡ other) → other ≡ x.name → ⊥ = λ x i other h e. elim h [
        | inl hidden ↦ plain_not_hidden x.name (among x (inr i)).1 (subst IsHidden e hidden)
        | inr same ↦ apart.0 (subst (λ y. In y (map name_of_own ns)) (sym (same ∙ e)) (In-map name_of_own x ns i))
      ] in
      let rest = names_settle all ns w (opened + length (opens p n n.origin)) (λ x i. among x (inr i)) typed.1 apart.1
      (λ x i. free_after _ x.name v.started w.started (free x (inr i)) (own_name_adds p k outer n n.origin v) (not x i)) goes in
      let long : length w.actuals ≡ length v.actuals + 1 = ap length here ∙ length-append v.actuals (a ∷ []) in
      rest ∙ ap₂ (λ l j. l ++ main_actuals (map started_of all) j ns) here long ∙
      append_assoc v.actuals (a ∷ []) (main_actuals (map started_of all) (length v.actuals + 1) ns)

------------------------------------------------------------
-- The program's own visit

module _ (p : Program) (c : IsCore p) (t : LinesAreTyped p) (plain : HavePlainNames p) where
  own_names_settle : (k : ℕ) → 0 < k → (all : List Started) → (
      let names = names_at p (program_number p) in
      let v = visit p k names [] names (record { started = []; actuals = []; sets = [] }) in
      GoesOn v.started all → v.actuals ≡ main_actuals (map started_of all) 0 names)
  own_names_settle zero lt all goes = absurd (omega arith)
  own_names_settle (suc k) lt all goes =
      let main = last_scope p.scopes c.program in
      let m = program_number p in
      let names = names_at p m in
      let among = In-slice_get p.scopes m main.0 main.1 in
      let same : names ≡ main.0.names = ap names_of main.1 in
      let apart : Apart (map (λ (n : OwnName). n.name) names) =
      subst (λ l. Apart (map (λ (n : OwnName). n.name) l)) (sym same) (c.scopes main.0 among).own_names in
      names_settle p c t m main.0 main.1 k names all names (record { started = []; actuals = []; sets = [] }) 0
      (λ n i. (let own = subst (λ l. In n l) same i in (own, plain main.0 among n own))) (program_typed p c t) apart (λ n i j k e. absurd k) goes

  pub main_fits : MainFits p
  main_fits =
      let main = last_scope p.scopes c.program in
      let last = read_within p.scopes (program_number p) main.0 main.1 in
      let here = own_names_settle (length p.scopes) (omega (arith, last)) (start_list p) (goes_on_same (start_list p)) in
      ap (λ k. main_actuals (map started_of (start_list p)) 0 (scope_names (slice_get p.scopes k))) (last_number p.scopes) ∙
      ap (main_actuals (map started_of (start_list p)) 0) (names_same (slice_get p.scopes (program_number p))) ∙ sym here
