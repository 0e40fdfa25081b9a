-- What a body declares is among what is allowed to its calls.
use Rattle.std.proofs.Common.{◌≡◌, codes, ℕ, suc, Bool, true, false, List, [], ◌∷◌, ◌++◌, length, map, inl, inr, refl, sym, ap, ◌∙◌, subst, Option, Some, None, Contains, arith, lt_irrefl}
use Rattle.std.specs.Prelude.{slice_get, slice_index_or, bytes_eq, if◌then◌else◌}
use Rattle.std.proofs.lemmas.Slice.Eq.{bytes_eq-Decides}
use Rattle.wy_text.specs.declared.fault.AtomName.{AtomName}
use Rattle.wy_text.specs.Members.{In}
use Rattle.wy_effects.specs.AtomTable.{atom_name}
use Rattle.wy_text.proofs.Lists.{In-left, In-right, In-map, In-slice_get}
use Rattle.wy_types.specs.declared.linked.Instance.{Instance}
use Rattle.wy_types.specs.Program.{Program, Scope, Body}
use Rattle.wy_types.specs.Ground.{start_list}
use Rattle.wy_rules.specs.GroundTypes.{run_instances, effect_by}
use Rattle.wy_authority.specs.declared.rows.BodyRow.{BodyRow}
use Rattle.wy_authority.specs.declared.rows.InstanceRow.{InstanceRow}
use Rattle.wy_authority.specs.Authority.{body_name, body_set, body_row, body_rows, instance_row, main_row, authority_of}
use Rattle.wy_authority.specs.Report.{named_atoms}
use Rattle.wy_meaning.specs.Bounds.{Call}
use Rattle.wy_sound.specs.Programs.{body_atoms, call_atoms, allowed}
use Rattle.wy_sound.proofs.Effects.{call_of, atom_named, May}
use Rattle.wy_sound.proofs.LinkingLists.{read_last, read_within}
use Rattle.wy_sound.proofs.Lists.{pick_true}

same_bytes : (xs : List ℕ) → bytes_eq xs xs ≡ true
same_bytes xs = (bytes_eq-Decides xs xs).1 refl

-- an element is in its list
pub contains_in : {X : Type 0} (x : X) (xs : List X) → In x xs → Contains xs x
contains_in x [] i = absurd i
contains_in x (y ∷ xs) (inl e) = (0, omega arith, e)
contains_in x (y ∷ xs) (inr i) = let r = contains_in x xs i in (suc r.0, omega (arith, r.1), r.2)

module _ (atoms : List AtomName) where
  abbrev named : ℕ → AtomName
  named a = slice_index_or atoms a (atom_name [] [])

  in_body : (name : List ℕ) (bs : List BodyRow) (b : BodyRow) (a : ℕ) → In b bs → b.name ≡ name → In a b.set → In (named a) (body_atoms atoms name bs)
  in_body name [] b a i e h = absurd i
  in_body name (c ∷ bs) b a (inl f) e h =
      let t : bytes_eq c.name name ≡ true = ap (λ (b : BodyRow). bytes_eq b.name name) f ∙ ap (λ n. bytes_eq n name) e ∙ same_bytes name in
      subst (λ l. In (named a) l) (sym
      (pick_true (bytes_eq c.name name) (named_atoms atoms c.set ++ body_atoms atoms name bs) (body_atoms atoms name bs) t))
      (In-left (named a) (named_atoms atoms c.set) (body_atoms atoms name bs) (In-map named a c.set (subst (λ (b : BodyRow). In a b.set) (sym f) h)))
  in_body name (c ∷ bs) b a (inr i) e h = of_test (bytes_eq c.name name) (in_body name bs b a i e h)
    where
      of_test : (t : Bool) → In (named a) (body_atoms atoms name bs) →
          In (named a) (if t then named_atoms atoms c.set ++ body_atoms atoms name bs else body_atoms atoms name bs)
      of_test true g = In-right (named a) (named_atoms atoms c.set) (body_atoms atoms name bs) g
      of_test false g = g

  in_call : (call : Call) (rs : List InstanceRow) (r : InstanceRow) (n : AtomName) → In r rs → r.name ≡ call.instance →
      In n (body_atoms atoms call.body r.bodies) → In n (call_atoms atoms call rs)
  in_call call [] r n i e h = absurd i
  in_call call (c ∷ rs) r n (inl f) e h =
      let t : bytes_eq c.name call.instance ≡ true = ap (λ (r : InstanceRow). bytes_eq r.name call.instance) f ∙
      ap (λ n. bytes_eq n call.instance) e ∙ same_bytes call.instance in
      subst (λ l. In n l) (sym (pick_true (bytes_eq c.name call.instance) (body_atoms atoms call.body c.bodies ++ call_atoms atoms call rs)
      (call_atoms atoms call rs) t))
      (In-left n (body_atoms atoms call.body c.bodies) (call_atoms atoms call rs)
      (subst (λ (r : InstanceRow). In n (body_atoms atoms call.body r.bodies)) (sym f) h))
  in_call call (c ∷ rs) r n (inr i) e h = of_test (bytes_eq c.name call.instance) (in_call call rs r n i e h)
    where
      of_test : (t : Bool) → In n (call_atoms atoms call rs) →
          In n (if t then body_atoms atoms call.body c.bodies ++ call_atoms atoms call rs else call_atoms atoms call rs)
      of_test true g = In-right n (body_atoms atoms call.body c.bodies) (call_atoms atoms call rs) g
      of_test false g = g

module _ (p : Program) where
  -- a row of an instance allows the calls of its bodies their sets
  may_row : (r : InstanceRow) (b : BodyRow) → In r (authority_of p).rows → In b r.bodies → May p (call_of r.name b.name) b.set
  may_row r b i j = record {
    by = λ a h. contains_in (atom_named p a) (allowed p (call_of r.name b.name))
        (in_call (authority_of p).atoms (call_of r.name b.name) (authority_of p).rows r (atom_named p a) i refl
        (in_body (authority_of p).atoms b.name r.bodies b a j refl h));
  }

  abbrev row_with : Instance → List ℕ → InstanceRow
  row_with i first = record { name = i.name; bodies = body_rows i.bound i.ground first (slice_get p.scopes i.scope) }

  -- an instance has its row, in which its first body is `init`; the program's is `run`
  pub HasFirst : ℕ → Instance → List ℕ → Type 0
  HasFirst x i first = In (row_with i first) (authority_of p).rows

  pub init_first : (x : ℕ) (i : Instance) → slice_get (start_list p) x ≡ Some i → HasFirst x i (codes "init")
  unfolding HasFirst
  init_first x i e = In-left (row_with i (codes "init")) (map (instance_row p) (start_list p)) (main_row p ∷ [])
      (In-map (instance_row p) i (start_list p) (In-slice_get (start_list p) x i e))

  pub run_first : (x : ℕ) (i : Instance) → slice_get (run_instances p) x ≡ Some i → x ≡ length (start_list p) → HasFirst x i (codes "run")
  unfolding HasFirst
  run_first x i e last = elim (read_last (start_list p) _ x i e) [
    | inl f ↦ absurd (let lt = read_within (start_list p) x i f in lt_irrefl x (omega (arith, lt, last)))
    | inr f ↦ In-right (row_with i (codes "run")) (map (instance_row p) (start_list p)) (main_row p ∷ [])
        (inl (ap (λ i. row_with i (codes "run")) f.1))
  ]

  pub some_first : (x : ℕ) (i : Instance) → slice_get (run_instances p) x ≡ Some i → (first : List ℕ) × HasFirst x i first
  unfolding HasFirst
  some_first x i e = elim (read_last (start_list p) _ x i e) [
    | inl f ↦ (
      codes "init",
      In-left (row_with i (codes "init")) (map (instance_row p) (start_list p)) (main_row p ∷ [])
          (In-map (instance_row p) i (start_list p) (In-slice_get (start_list p) x i f)),
    )
    | inr f ↦ (
      codes "run",
      In-right (row_with i (codes "run")) (map (instance_row p) (start_list p)) (main_row p ∷ [])
          (inl (ap (λ i. row_with i (codes "run")) f.1)),
    )
  ]

  same_set : (o : Option (List ℕ)) (sets : List (List ℕ)) (e : List ℕ) → effect_by o sets e ≡ body_set o sets e
  same_set None sets e = refl
  same_set (Some b) sets e = refl

  -- the first body of an instance's scope
  pub may_first : (x : ℕ) (i : Instance) (first : List ℕ) (s : Scope) → HasFirst x i first → slice_get p.scopes i.scope ≡ Some s →
      May p (call_of i.name first) (effect_by i.bound i.ground s.start_effect)
  unfolding HasFirst
  may_first x i first s h e =
      subst (λ f. May p (call_of i.name first) f) (sym (same_set i.bound i.ground s.start_effect))
      (may_row (row_with i first) (body_row first (body_set i.bound i.ground s.start_effect)) h
      (subst (λ o. In (body_row first (body_set i.bound i.ground s.start_effect)) (body_rows i.bound i.ground first o)) (sym e) (inl refl)))

  -- .. and its methods
  pub may_method : (x : ℕ) (i : Instance) (s : Scope) (b : Body) → slice_get (run_instances p) x ≡ Some i → slice_get p.scopes i.scope ≡ Some s →
      In b s.bodies →
      May p (call_of i.name (body_name b)) (effect_by i.bound i.ground b.signature.effect)
  unfolding HasFirst
  may_method x i s b there e j =
      let h = some_first x i there in
      subst (λ f. May p (call_of i.name (body_name b)) f) (sym (same_set i.bound i.ground b.signature.effect))
      (may_row (row_with i h.0) (body_row (body_name b) (body_set i.bound i.ground b.signature.effect)) h.1
      (subst (λ o. In (body_row (body_name b) (body_set i.bound i.ground b.signature.effect)) (body_rows i.bound i.ground h.0 o)) (sym e)
      (inr (In-map (λ (b : Body). body_row (body_name b) (body_set i.bound i.ground b.signature.effect)) b s.bodies j))))
