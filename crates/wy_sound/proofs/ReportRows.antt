-- The instances and bodies of a report have names that differ, so what a call may do is what the row of its body says.
use Rattle.std.proofs.Common.{◌≡◌, ℕ, zero, suc, ◌+◌, ◌<◌, ◌^◌, ◌%◌, Bool, List, [], ◌∷◌, ◌++◌, map, inl, inr, refl, sym, ap, ◌∙◌, subst, arith, Option, Some, None, true, false, nat_eq, decimal, append-nil}
use Rattle.std.proofs.lemmas.List.{append_cancel_left}
use Rattle.std.proofs.lemmas.Fmt.{decimal_by_steps, decimal_injective}
use Rattle.std.proofs.lemmas.Bool.Decides.{Decides-eqb}
use Rattle.std.proofs.lemmas.Slice.Eq.{bytes_eq-Decides}
use Rattle.std.specs.Prelude.{codes, slice_get, bytes_eq, if◌then◌else◌}
use Rattle.wy_text.specs.declared.fault.AtomName.{AtomName}
use Rattle.wy_text.specs.Members.{In, Apart}
use Rattle.wy_text.proofs.Lists.{In-slice_get, In-at, In-cases, In-right, In-map, In-unmap, Apart-push}
use Rattle.wy_effects.proofs.SetLaws.{has-In}
use Rattle.wy_types.specs.declared.types.TypeRef.{TypeRef}
use Rattle.wy_types.specs.declared.linked.Instance.{Instance as Started}
use Rattle.wy_types.specs.Signature.{Signature}
use Rattle.wy_types.specs.Types.{signature, methods_of_owner}
use Rattle.wy_types.specs.Program.{Program, Scope, Body}
use Rattle.wy_types.specs.Ground.{names_of, program_number, program_sets, start_list}
use Rattle.wy_rules.specs.OwnNames.{IsMethodName}
use Rattle.wy_authority.specs.declared.rows.BodyRow.{BodyRow}
use Rattle.wy_authority.specs.declared.rows.InstanceRow.{InstanceRow}
use Rattle.wy_authority.specs.Authority.{body_name, body_set, body_row, body_rows, instance_row, main_row, authority_of}
use Rattle.wy_authority.specs.Report.{named_atoms}
use Rattle.wy_meaning.specs.Bounds.{Call}
use Rattle.wy_sound.specs.Programs.{IsResolved, body_atoms, call_atoms}
use Rattle.wy_sound.specs.Telling.{InstancesAreTold, BodiesAreTold, AllowedIsReported}
use Rattle.wy_sound.proofs.LinkingPrograms.{last_scope}
use Rattle.wy_sound.proofs.LinkingMain.{not_equal}
use Rattle.wy_sound.proofs.LinkingApart.{IsRest, word_same, instance_names, instances_told}

------------------------------------------------------------
-- Instances

abbrev row_names : List InstanceRow → List (List ℕ)
row_names rs = map (λ (r : InstanceRow). r.name) rs

rows_named : (p : Program) (xs : List Started) → row_names (map (instance_row p) xs ++ main_row p ∷ []) ≡ instance_names xs ++ codes "main" ∷ []
rows_named p [] = refl
rows_named p (x ∷ xs) = ap (λ l. x.name ∷ l) (rows_named p xs)

-- the program's own name is no word with something behind it
not_main : (word rest : List ℕ) → IsRest rest → (word ≡ codes "main" → ⊥) → codes "main" ≡ word ++ rest → ⊥
not_main word [] h f e = f (sym (e ∙ append-nil word))
not_main word (c ∷ cs) h f e =
    let i : In 46 (codes "main") = subst (λ l. In 46 l) (sym e) (In-right 46 word (c ∷ cs) (inl h)) in
    let g : false ≡ true = has-In 46 (codes "main") i in absurd (cc)

pub instances_are_told : InstancesAreTold
instances_are_told p r =
    let a = instances_told p r.keeps.core r.keeps.lines r.names in
    let main = last_scope p.scopes r.keeps.core.program in
    let name_of_instance : Started → List ℕ = λ i. i.name in
    let free : In (codes "main") (instance_names (start_list p)) → ⊥ = λ j. (let x = In-unmap name_of_instance (codes "main") (start_list p) j in
    elim (a.named x.0 x.1) [
      | inl s ↦ (let g : false ≡ true = has-In 32 (codes "main") (subst (λ l. In 32 l) x.2 s) in absurd (cc))
      | inr u ↦
          (let own : In u.0 main.0.names = subst (λ (q : Option Scope). In u.0 (names_of q)) main.1 u.1 in
          not_main u.0.name u.2.rest u.2.ends (r.ordinary.own_names main.0 (In-slice_get p.scopes (program_number p) main.0 main.1) u.0 own)
          (sym x.2 ∙ u.2.is))
    ]) in
    subst Apart (sym (rows_named p (start_list p))) (Apart-push (codes "main") (instance_names (start_list p)) a.apart free)

------------------------------------------------------------
-- Bodies

-- a method's name is told from the number of its literal
abbrev told_name : ℕ → List ℕ → List ℕ
told_name o name = if nat_eq o 0 then name else codes "new" ++ (decimal o ++ (codes "." ++ name))

literal_name : (o : ℕ) (name : List ℕ) → told_name (suc o) name ≡ codes "new" ++ (decimal (suc o) ++ (codes "." ++ name))
literal_name o name =
    elim (nat_eq (suc o) 0) as (λ t. nat_eq (suc o) 0 ≡ t →
    (if t then name else codes "new" ++ (decimal (suc o) ++ (codes "." ++ name))) ≡ codes "new" ++ (decimal (suc o) ++ (codes "." ++ name))) [
      | true ↦ λ e. (let z = (Decides-eqb (suc o) 0).0 e in absurd (omega (arith, z)))
      | false ↦ λ e. refl
    ] refl

digits_plain : (n : ℕ) → n < 2 ^ 64 → In 46 (decimal n) → ⊥
digits_plain n h = decimal_by_steps (λ m ds. In 46 ds → ⊥) (λ m l i. elim i [ inl e ↦ omega arith | inr j ↦ absurd j ])
    (λ m ds l f i. elim (In-cases 46 ds ((48 + m % 10) ∷ []) i) [ inl j ↦ f j | inr j ↦ elim j [ inl e ↦ omega arith | inr k ↦ absurd k ] ]) n h

has_dot : (o : ℕ) (name : List ℕ) → In 46 (told_name (suc o) name)
has_dot o name =
    subst (λ l. In 46 l) (sym (literal_name o name))
    (In-right 46 (codes "new") (decimal (suc o) ++ (codes "." ++ name)) (In-right 46 (decimal (suc o)) (codes "." ++ name) (inl refl)))

names_tell : (o q : ℕ) (a b : List ℕ) → o < 2 ^ 64 → q < 2 ^ 64 → (In 46 a → ⊥) → (In 46 b → ⊥) → told_name o a ≡ told_name q b → (o ≡ q) × (a ≡ b)
names_tell zero zero a b f g h k e = (refl, e)
names_tell zero (suc q) a b f g h k e = absurd (h (subst (λ l. In 46 l) (sym e) (has_dot q b)))
names_tell (suc o) zero a b f g h k e = absurd (k (subst (λ l. In 46 l) e (has_dot o a)))
names_tell (suc o) (suc q) a b f g h k e =
    let behind : decimal (suc o) ++ (codes "." ++ a) ≡ decimal (suc q) ++ (codes "." ++ b) =
    append_cancel_left (codes "new") _ _ (sym (literal_name o a) ∙ e ∙ literal_name q b) in
    let digits = word_same (decimal (suc o)) (decimal (suc q)) (codes "." ++ a) (codes "." ++ b) (digits_plain (suc o) f) (digits_plain (suc q) g) refl refl behind in (
      decimal_injective (suc o) (suc q) f g digits,
      append_cancel_left (codes ".") a b (append_cancel_left (decimal (suc q)) _ _ (ap (λ l. l ++ (codes "." ++ a)) (sym digits) ∙ behind)),
    )

abbrev method_names : ℕ → List Body → List (List ℕ)
method_names l bs = map (λ (m : Signature TypeRef). m.name) (methods_of_owner l bs)

-- owners and names are such
pub record IsOrdinary (b : Body) : Type 0 where
  pub owner : b.owner < 2 ^ 64
  pub name : IsMethodName b.signature.name

method_among : (l : ℕ) (bs : List Body) (b : Body) → In b bs → b.owner ≡ l → In b.signature.name (method_names l bs)
method_among l [] b i o = absurd i
method_among l (x ∷ bs) b (inl e) o =
    let same : nat_eq x.owner l ≡ true = (Decides-eqb x.owner l).1 (ap (λ (y : Body). y.owner) e ∙ o) in
    subst (λ t. In b.signature.name (map (λ (m : Signature TypeRef). m.name) (if t then signature x.signature ∷ methods_of_owner l bs else methods_of_owner l bs)))
    (sym same) (inl (ap (λ (y : Body). y.signature.name) e))
method_among l (x ∷ bs) b (inr i) o =
    elim (nat_eq x.owner l) as (λ t. In b.signature.name
    (map (λ (m : Signature TypeRef). m.name) (if t then signature x.signature ∷ methods_of_owner l bs else methods_of_owner l bs))) [
      | true ↦ inr (method_among l bs b i o)
      | false ↦ method_among l bs b i o
    ]

first_method : (b : Body) (bs : List Body) → Apart (method_names b.owner (b ∷ bs)) → In b.signature.name (method_names b.owner bs) → ⊥
first_method b bs h =
    let same : nat_eq b.owner b.owner ≡ true = (Decides-eqb b.owner b.owner).1 refl in
    let P = λ (t : Bool). Apart
    (map (λ (m : Signature TypeRef). m.name) (if t then signature b.signature ∷ methods_of_owner b.owner bs else methods_of_owner b.owner bs)) in
    (subst P same h).0

later_methods : (l : ℕ) (b : Body) (bs : List Body) → Apart (method_names l (b ∷ bs)) → Apart (method_names l bs)
later_methods l b bs =
    elim (nat_eq b.owner l) as (λ t. Apart
    (map (λ (m : Signature TypeRef). m.name) (if t then signature b.signature ∷ methods_of_owner l bs else methods_of_owner l bs)) → Apart (method_names l bs)) [
      | true ↦ λ h. h.1
      | false ↦ λ h. h
    ]

bodies_apart : (bs : List Body) → ((b : Body) → In b bs → IsOrdinary b) → ((l : ℕ) → Apart (method_names l bs)) → Apart (map body_name bs)
bodies_apart [] o h = tt
bodies_apart (b ∷ bs) o h =
    let not : In (body_name b) (map body_name bs) → ⊥ = λ i. (let c = In-unmap body_name (body_name b) bs i in
    let x = o b (inl refl) in
    let y = o c.0 (inr c.1) in
    let same = names_tell c.0.owner b.owner c.0.signature.name b.signature.name y.owner x.owner y.name.0 x.name.0 c.2 in
    first_method b bs (h b.owner) (subst (λ l. In l (method_names b.owner bs)) same.1 (method_among b.owner bs c.0 c.1 same.0))) in
    (not, bodies_apart bs (λ c i. o c (inr i)) (λ l. later_methods l b bs (h l)))

abbrev body_names : List BodyRow → List (List ℕ)
body_names bs = map (λ (b : BodyRow). b.name) bs

bodies_named : (set : Body → List ℕ) (bs : List Body) → body_names (map (λ b. body_row (body_name b) (set b)) bs) ≡ map body_name bs
bodies_named set [] = refl
bodies_named set (b ∷ bs) = ap (λ l. body_name b ∷ l) (bodies_named set bs)

-- what a scope starts with is called as no method is
abbrev IsStart : List ℕ → Type 0
IsStart first = (In 46 first → ⊥) × ((name : List ℕ) → IsMethodName name → name ≡ first → ⊥)

init_start : IsStart (codes "init")
init_start = ((λ i. (let g : false ≡ true = has-In 46 (codes "init") i in absurd (cc))), (λ name h e. h.1 e))

run_start : IsStart (codes "run")
run_start = ((λ i. (let g : false ≡ true = has-In 46 (codes "run") i in absurd (cc))), (λ name h e. h.2 e))

not_start : (first : List ℕ) → IsStart first → (o : ℕ) (name : List ℕ) → IsMethodName name → told_name o name ≡ first → ⊥
not_start first s zero name h e = s.1 name h e
not_start first s (suc o) name h e = s.0 (subst (λ l. In 46 l) e (has_dot o name))

module _ (p : Program) (r : IsResolved p) where
  scope_told : (bound : Option (List ℕ)) (sets : List (List ℕ)) (first : List ℕ) → IsStart first → (k : ℕ) (s : Option Scope) → slice_get p.scopes k ≡ s →
      Apart (body_names (body_rows bound sets first s))
  scope_told bound sets first start k None e = tt
  scope_told bound sets first start k (Some s) e =
      let among = In-slice_get p.scopes k s e in
      let ordinary : (b : Body) → In b s.bodies → IsOrdinary b = λ b i. (let at = In-at b s.bodies i in
      let owner = ((r.keeps.core.scopes s among).bodies at.0 b at.2).0 in
      record { owner = (let few = r.ordinary.literals s among in omega (arith, owner, few)); name = r.ordinary.methods s among b i }) in
      let named = bodies_named (λ b. body_set bound sets b.signature.effect) s.bodies in
      let apart = bodies_apart s.bodies ordinary (r.keeps.core.scopes s among).method_names in
      let not : In first (map body_name s.bodies) → ⊥ = λ i. (let b = In-unmap body_name first s.bodies i in
      not_start first start b.0.owner b.0.signature.name (ordinary b.0 b.1).name b.2) in
      subst (λ l. Apart (first ∷ l)) (sym named) (not, apart)

  row_told : (x : InstanceRow) → In x (authority_of p).rows → Apart (body_names x.bodies)
  row_told x i =
      elim (In-cases x (map (instance_row p) (start_list p)) (main_row p ∷ []) i) [
        | inl j ↦ (let y = In-unmap (instance_row p) x (start_list p) j in
            subst (λ (z : InstanceRow). Apart (body_names z.bodies)) y.2
            (scope_told y.0.bound y.0.ground (codes "init") init_start y.0.scope (slice_get p.scopes y.0.scope) refl))
        | inr j ↦ elim j [
          | inl e ↦ subst (λ (z : InstanceRow). Apart (body_names z.bodies)) e
              (scope_told None (program_sets p) (codes "run") run_start (program_number p) (slice_get p.scopes (program_number p)) refl)
          | inr f ↦ absurd f
        ]
      ]

pub bodies_are_told : BodiesAreTold
bodies_are_told p r = row_told p r

------------------------------------------------------------
-- What a call may do

equal : (a b : List ℕ) → a ≡ b → bytes_eq a b ≡ true
equal a b e = (bytes_eq-Decides a b).1 e

module _ (atoms : List AtomName) where
  no_body : (name : List ℕ) (bs : List BodyRow) → (In name (body_names bs) → ⊥) → body_atoms atoms name bs ≡ []
  no_body name [] h = refl
  no_body name (b ∷ bs) h =
      ap (λ t. if t then named_atoms atoms b.set ++ body_atoms atoms name bs else body_atoms atoms name bs) (not_equal b.name name (λ e. h (inl e))) ∙
      no_body name bs (λ i. h (inr i))

  one_body : (bs : List BodyRow) → Apart (body_names bs) → (b : BodyRow) → In b bs → body_atoms atoms b.name bs ≡ named_atoms atoms b.set
  one_body [] h b i = absurd i
  one_body (x ∷ bs) h b (inl e) =
      let same : x.name ≡ b.name = ap (λ (y : BodyRow). y.name) e in
      ap (λ t. if t then named_atoms atoms x.set ++ body_atoms atoms b.name bs else body_atoms atoms b.name bs) (equal x.name b.name same) ∙
      ap (λ l. named_atoms atoms x.set ++ l) (no_body b.name bs (λ i. h.0 (subst (λ l. In l (body_names bs)) (sym same) i))) ∙
      append-nil (named_atoms atoms x.set) ∙ ap (λ (y : BodyRow). named_atoms atoms y.set) e
  one_body (x ∷ bs) h b (inr i) =
      let name_of_body : BodyRow → List ℕ = λ y. y.name in
      let other : x.name ≡ b.name → ⊥ = λ e. h.0 (subst (λ l. In l (body_names bs)) (sym e) (In-map name_of_body b bs i)) in
      ap (λ t. if t then named_atoms atoms x.set ++ body_atoms atoms b.name bs else body_atoms atoms b.name bs) (not_equal x.name b.name other) ∙
      one_body bs h.1 b i

  no_row : (call : Call) (rs : List InstanceRow) → (In call.instance (row_names rs) → ⊥) → call_atoms atoms call rs ≡ []
  no_row call [] h = refl
  no_row call (r ∷ rs) h =
      ap (λ t. if t then body_atoms atoms call.body r.bodies ++ call_atoms atoms call rs else call_atoms atoms call rs)
      (not_equal r.name call.instance (λ e. h (inl e))) ∙ no_row call rs (λ i. h (inr i))

  -- what a call may do is what the bodies of its name in the row of its instance's name may
  pub one_row : (rs : List InstanceRow) → Apart (row_names rs) → (r : InstanceRow) → In r rs → (name : List ℕ) →
      call_atoms atoms (record { instance = r.name; body = name }) rs ≡ body_atoms atoms name r.bodies
  one_row [] h r i name = absurd i
  one_row (x ∷ rs) h r (inl e) name =
      let call : Call = record { instance = r.name; body = name } in
      let same : x.name ≡ r.name = ap (λ (y : InstanceRow). y.name) e in
      ap (λ t. if t then body_atoms atoms name x.bodies ++ call_atoms atoms call rs else call_atoms atoms call rs) (equal x.name r.name same) ∙
      ap (λ l. body_atoms atoms name x.bodies ++ l) (no_row call rs (λ i. h.0 (subst (λ l. In l (row_names rs)) (sym same) i))) ∙
      append-nil (body_atoms atoms name x.bodies) ∙ ap (λ (y : InstanceRow). body_atoms atoms name y.bodies) e
  one_row (x ∷ rs) h r (inr i) name =
      let call : Call = record { instance = r.name; body = name } in
      let name_of_row : InstanceRow → List ℕ = λ y. y.name in
      let other : x.name ≡ r.name → ⊥ = λ e. h.0 (subst (λ l. In l (row_names rs)) (sym e) (In-map name_of_row r rs i)) in
      ap (λ t. if t then body_atoms atoms name x.bodies ++ call_atoms atoms call rs else call_atoms atoms call rs) (not_equal x.name r.name other) ∙
      one_row rs h.1 r i name

pub allowed_is_reported : AllowedIsReported
allowed_is_reported p r row i b j =
    let atoms = (authority_of p).atoms in
    one_row atoms (authority_of p).rows (instances_are_told p r) row i b.name ∙ one_body atoms row.bodies (bodies_are_told p r row i) b j
