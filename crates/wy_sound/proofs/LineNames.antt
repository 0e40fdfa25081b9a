-- The names of instances are made of those of uses and lines, of `pure ` and of full stops, and those of bodies of methods' names, `new`, numbers and
-- full stops, so they have no other bytes.
use Rattle.std.proofs.Common.{◌≡◌, ℕ, zero, suc, ◌+◌, ◌<◌, ◌^◌, ◌%◌, Bool, true, false, List, [], ◌∷◌, ◌++◌, map, length, inl, inr, refl, sym, subst, arith, Option, Some, None, decimal, nat_eq}
use Rattle.std.proofs.lemmas.Fmt.{decimal_by_steps}
use Rattle.std.specs.Prelude.{codes, slice_get, if◌then◌else◌}
use Rattle.wy_text.specs.Members.{In}
use Rattle.wy_text.proofs.Lists.{In-cases, In-unmap, In-slice_get, In-at}
use Rattle.wy_types.specs.declared.linked.Instance.{Instance as Started}
use Rattle.wy_types.specs.declared.resolved.Origin.{Origin}
use Rattle.wy_types.specs.declared.resolved.Origin.TheVariants.{Parameter, Grant, Use, Instance, Import}
use Rattle.wy_types.specs.declared.resolved.OwnName.{OwnName}
use Rattle.wy_types.specs.Program.{Program, Scope, Body}
use Rattle.wy_types.specs.Ground.{Visited, Visit, names_of, uses_among, handed, number_from, used, visit_name, visit_names, visit, program_number, program_sets, start_list}
use Rattle.wy_authority.specs.declared.rows.BodyRow.{BodyRow}
use Rattle.wy_authority.specs.declared.rows.InstanceRow.{InstanceRow}
use Rattle.wy_authority.specs.Authority.{body_name, body_set, body_row, body_rows, instance_row, main_row}
use Rattle.wy_sound.specs.Programs.{IsResolved}
use Rattle.wy_sound.specs.Telling.{IsLineByte, IsLineName, NamesInstance, HaveLineNames, InstancesHaveLineNames, HaveLineMethods, BodiesHaveLineNames}
use Rattle.wy_sound.proofs.LinkingAdded.{uses_are_names}

abbrev AreLineBytes : List ℕ → Type 0
AreLineBytes bs = (b : ℕ) → In b bs → IsLineByte b

-- .. one after the other
abbrev AreEach : List ℕ → Type 0
AreEach [] = Unit {0}
AreEach (b ∷ bs) = IsLineByte b × AreEach bs

each : (bs : List ℕ) → AreEach bs → AreLineBytes bs
each [] h b i = absurd i
each (a ∷ bs) h b (inl e) = subst IsLineByte e h.0
each (a ∷ bs) h b (inr i) = each bs h.1 b i

letter : (b : ℕ) → 58 < b → b < 127 → IsLineByte b
letter b h g = (omega (arith, h), (λ e. omega (arith, e, g)), (λ e. omega (arith, e, h)))

bytes_both : (cs bs : List ℕ) → AreLineBytes cs → AreLineBytes bs → AreLineBytes (cs ++ bs)
bytes_both cs bs h g b i = elim (In-cases b cs bs i) [ inl j ↦ h b j | inr j ↦ g b j ]

no_bytes : AreLineBytes []
no_bytes b i = absurd i

dot : AreLineBytes (codes ".")
dot = each (codes ".") ((omega arith, (λ e. omega (arith, e)), (λ e. omega (arith, e))), tt)

pure_word : AreLineBytes (codes "pure ")
pure_word =
    let space : IsLineByte 32 = (omega arith, (λ e. omega (arith, e)), (λ e. omega (arith, e))) in
    each (codes "pure ")
    (letter 112 (omega arith) (omega arith), (letter 117 (omega arith) (omega arith), (letter 114 (omega arith) (omega arith), (letter 101 (omega arith) (omega arith), (space, tt)))))

main_word : IsLineName (codes "main")
main_word = record {
  some = λ e. cc;
  bytes = each (codes "main")
      (letter 109 (omega arith) (omega arith), (letter 97 (omega arith) (omega arith), (letter 105 (omega arith) (omega arith), (letter 110 (omega arith) (omega arith), tt))));
}

behind : (prefix name : List ℕ) → AreLineBytes prefix → IsLineName name → IsLineName (prefix ++ name)
behind prefix name h n = record { some = of prefix; bytes = bytes_both prefix name h n.bytes }
  where
    of : (prefix : List ℕ) → prefix ++ name ≡ [] → ⊥
    of [] e = n.some e
    of (b ∷ bs) e = cc

module _ (p : Program) (have : HaveLineNames p) where
  abbrev AllNamed : List Started → Type 0
  AllNamed xs = (i : Started) → In i xs → IsLineName i.name

  abbrev AllHave : List OwnName → Type 0
  AllHave ns = (n : OwnName) → In n ns → NamesInstance n.origin → IsLineName n.name

  scope_have : (m : ℕ) → AllHave (names_of (slice_get p.scopes m))
  scope_have m = of (slice_get p.scopes m) refl
    where
      of : (o : Option Scope) → slice_get p.scopes m ≡ o → AllHave (names_of o)
      of None e n i = absurd i
      of (Some s) e n i = have s (In-slice_get p.scopes m s e) n i

  one_more : (xs : List Started) (i : Started) → AllNamed xs → IsLineName i.name → AllNamed (xs ++ i ∷ [])
  one_more xs i all h j k =
      elim (In-cases j xs (i ∷ []) k) [ inl l ↦ all j l | inr l ↦ elim l [ inl e ↦ subst (λ (v : Started). IsLineName v.name) e h | inr z ↦ absurd z ] ]

  module _ (inside : Visit)
      (named : (outer : List OwnName) (prefix : List ℕ) (names : List OwnName) (v : Visited) → AreLineBytes prefix → AllHave names → AllNamed v.started →
      AllNamed (inside outer prefix names v).started) where
    used_named : (v : Visited) (word : List ℕ) (m : ℕ) (there : Option ℕ) → IsLineName word → AllNamed v.started → AllNamed (used p inside v word m there).started
    used_named v word m (Some y) w h = h
    used_named v word m None w h =
        let names = names_of (slice_get p.scopes m) in
        one_more _ _ (named names [] (uses_among names) _ no_bytes (λ n i. scope_have m n (uses_are_names names n i)) h) w

    lined_named : (outer : List OwnName) (prefix name : List ℕ) (m : ℕ) (arguments : List ℕ) (v : Visited) → AreLineBytes prefix → IsLineName name →
        AllNamed v.started →
        AllNamed (inside (names_of (slice_get p.scopes m)) (prefix ++ (name ++ codes ".")) (names_of (slice_get p.scopes m)) (handed p outer v m arguments)).started
    lined_named outer prefix name m arguments v b w h =
        named _ _ (names_of (slice_get p.scopes m)) _ (bytes_both prefix _ b (bytes_both name (codes ".") w.bytes dot)) (scope_have m) h

    name_named : (outer : List OwnName) (prefix : List ℕ) (n : OwnName) (o : Origin) (v : Visited) → AreLineBytes prefix → (NamesInstance o → IsLineName n.name) →
        AllNamed v.started → AllNamed (visit_name p inside outer prefix n o v).started
    name_named outer prefix n (Parameter bare) v b w h = h
    name_named outer prefix n Grant v b w h = h
    name_named outer prefix n (Use m) v b w h =
        used_named v (codes "pure " ++ n.name) m (number_from 0 (codes "pure " ++ n.name) v.started) (behind (codes "pure ") n.name pure_word (w tt)) h
    name_named outer prefix n (Instance m arguments) v b w h =
        one_more _ _ (lined_named outer prefix n.name m arguments v b (w tt) h) (behind prefix n.name b (w tt))
    name_named outer prefix n (Import m arguments bound) v b w h =
        one_more _ _ (lined_named outer prefix n.name m arguments v b (w tt) h) (behind prefix n.name b (w tt))

    names_named : (outer : List OwnName) (prefix : List ℕ) (names : List OwnName) (v : Visited) → AreLineBytes prefix → AllHave names → AllNamed v.started →
        AllNamed (visit_names p inside outer prefix names v).started
    names_named outer prefix [] v b w h = h
    names_named outer prefix (n ∷ names) v b w h =
        names_named outer prefix names _ b (λ m i. w m (inr i)) (name_named outer prefix n n.origin v b (w n (inl refl)) h)

  visit_named : (k : ℕ) (outer : List OwnName) (prefix : List ℕ) (names : List OwnName) (v : Visited) → AreLineBytes prefix → AllHave names → AllNamed v.started →
      AllNamed (visit p k outer prefix names v).started
  visit_named zero outer prefix names v b w h = h
  visit_named (suc k) outer prefix names v b w h = names_named (visit p k) (visit_named k) outer prefix names v b w h

  pub instances_named : AllNamed (start_list p)
  instances_named = visit_named (length p.scopes) _ [] _ _ no_bytes (scope_have (program_number p)) (λ i j. absurd j)

pub instances_have_line_names : InstancesHaveLineNames
instances_have_line_names p have r j = elim (In-cases r (map (instance_row p) (start_list p)) (main_row p ∷ []) j) [
  | inl l ↦ (let i = In-unmap (instance_row p) r (start_list p) l in subst (λ (v : InstanceRow). IsLineName v.name) i.2 (instances_named p have i.0 i.1))
  | inr l ↦ elim l [ inl e ↦ subst (λ (v : InstanceRow). IsLineName v.name) e main_word | inr z ↦ absurd z ]
]

------------------------------------------------------------
-- Bodies

init_word : IsLineName (codes "init")
init_word = record {
  some = λ e. cc;
  bytes = each (codes "init")
      (letter 105 (omega arith) (omega arith), (letter 110 (omega arith) (omega arith), (letter 105 (omega arith) (omega arith), (letter 116 (omega arith) (omega arith), tt))));
}

run_word : IsLineName (codes "run")
run_word = record {
  some = λ e. cc;
  bytes = each (codes "run") (letter 114 (omega arith) (omega arith), (letter 117 (omega arith) (omega arith), (letter 110 (omega arith) (omega arith), tt)));
}

new_word : AreLineBytes (codes "new")
new_word = each (codes "new") (letter 110 (omega arith) (omega arith), (letter 101 (omega arith) (omega arith), (letter 119 (omega arith) (omega arith), tt)))

digit : (b d : ℕ) → 48 + d ≡ b → d < 10 → IsLineByte b
digit b d e lt = (omega (arith, e), (λ f. omega (arith, e, f, lt)), (λ f. omega (arith, e, f, lt)))

digits : (n : ℕ) → n < 2 ^ 64 → AreLineBytes (decimal n)
digits n h = decimal_by_steps (λ m ds. AreLineBytes ds) (λ m l b i. elim i [ inl e ↦ digit b m e l | inr j ↦ absurd j ])
    (λ m ds l f b i. elim (In-cases b ds ((48 + m % 10) ∷ []) i) [ inl j ↦ f b j | inr j ↦ elim j [ inl e ↦ digit b (m % 10) e (omega arith) | inr k ↦ absurd k ] ]) n h

method_word : (b : Body) → b.owner < 2 ^ 64 → IsLineName b.signature.name → IsLineName (body_name b)
method_word b lt n = of (nat_eq b.owner 0)
  where
    of : (t : Bool) → IsLineName (if t then b.signature.name else codes "new" ++ (decimal b.owner ++ (codes "." ++ b.signature.name)))
    of true = n
    of false = behind (codes "new") _ new_word (behind (decimal b.owner) _ (digits b.owner lt) (behind (codes ".") b.signature.name dot n))

module _ (p : Program) (r : IsResolved p) (have : HaveLineMethods p) where
  rows_named : (bound : Option (List ℕ)) (sets : List (List ℕ)) (first : List ℕ) → IsLineName first → (m : ℕ) (o : Option Scope) → slice_get p.scopes m ≡ o →
      (b : BodyRow) → In b (body_rows bound sets first o) → IsLineName b.name
  rows_named bound sets first w m None e b j = absurd j
  rows_named bound sets first w m (Some s) e b (inl same) = subst (λ (v : BodyRow). IsLineName v.name) same w
  rows_named bound sets first w m (Some s) e b (inr j) =
      let q = In-unmap (λ x. body_row (body_name x) (body_set bound sets x.signature.effect)) b s.bodies j in
      let among = In-slice_get p.scopes m s e in
      let at = In-at q.0 s.bodies q.1 in
      let owner = ((r.keeps.core.scopes s among).bodies at.0 q.0 at.2).0 in
      let few : length s.literals < 2 ^ 64 + 1 = (let h = r.ordinary.literals s among in omega (arith, h)) in
      let lt : (q.0).owner < 2 ^ 64 = omega (arith, owner, few) in
      subst (λ (v : BodyRow). IsLineName v.name) q.2 (method_word q.0 lt (have s among q.0 q.1))

pub bodies_have_line_names : BodiesHaveLineNames
bodies_have_line_names p r have row j b k = elim (In-cases row (map (instance_row p) (start_list p)) (main_row p ∷ []) j) [
  | inl l ↦
      let i = In-unmap (instance_row p) row (start_list p) l in
      rows_named p r have (i.0).bound (i.0).ground (codes "init") init_word (i.0).scope (slice_get p.scopes (i.0).scope) refl b
      (subst (λ (v : InstanceRow). In b v.bodies) (sym i.2) k)
  | inr l ↦ elim l [
    | inl e ↦ rows_named p r have None (program_sets p) (codes "run") run_word (program_number p) (slice_get p.scopes (program_number p)) refl b
        (subst (λ (v : InstanceRow). In b v.bodies) (sym e) k)
    | inr z ↦ absurd z
  ]
]
