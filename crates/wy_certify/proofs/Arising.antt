-- What arises from what is asked is in each closed list of it, so two such lists have the same pairs.
use Rattle.std.proofs.Common.{◌≡◌, ℕ, ◌≤◌, List, [], map, length, refl, sym, ap, ◌∙◌, subst, arith}
use Rattle.std.specs.Option.{option_map}
use Rattle.std.proofs.lemmas.List.{length-map}
use Rattle.wy_text.specs.Members.{In, Within}
use Rattle.wy_effects.specs.Bounds.{IsWithin}
use Rattle.wy_text.proofs.Lists.{In-map, In-unmap, length-apart}
use Rattle.wy_types.specs.declared.types.TypeRef.{TypeRef}
use Rattle.wy_types.specs.declared.types.TypeRef.TheVariants.{Int, Bool, Text, Unit as Nothing, Named, At, Own}
use Rattle.wy_types.specs.declared.path.Part.{Part}
use Rattle.wy_types.specs.declared.path.Part.TheVariants.{Parameter, Result}
use Rattle.wy_types.specs.declared.path.Step.{Step}
use Rattle.wy_types.specs.Program.{Program, Scope}
use Rattle.wy_types.specs.Signature.{Signature, find_method}
use Rattle.wy_types.specs.Types.{IsObject, erased, methods_of}
use Rattle.wy_types.specs.Bounds.{bounds_of}
use Rattle.wy_types.specs.Subtyping.{LeadsBy, IsStep, IsClosed, AnyEffect}
use Rattle.wy_types.proofs.Closing.{closed_step}
use Rattle.wy_types.proofs.FindingMethods.{find_mapped}
use Rattle.wy_types.proofs.Reaching.{no_methods}
use Rattle.wy_rules.specs.PlainMethods.{erased_methods}
use Rattle.wy_subtype.specs.declared.verdict.Mode.{Mode}
use Rattle.wy_subtype.specs.declared.verdict.Mode.TheVariants.{Annotated, Plain}
use Rattle.wy_subtype.specs.Steps.{Allows, StepsTo}
use Rattle.wy_subtype.proofs.Places.{slice_get-mapped}
use Rattle.wy_proving.specs.Certified.{Pair, bare}
use Rattle.wy_proving.proofs.Erasing.{methods_agree, bare_signature}
use Rattle.wy_recheck.specs.Closing.{looked_up, ClosedIn}
use Rattle.wy_certify.specs.Closed.{all_looked_up, at_empty, given_back, Arises, of_asked, of_pair, IsClosedList}
use Rattle.wy_certify.proofs.PairsGrowing.{of_looked_up, looked_up_twice}

module _ (p : Program) (k : ℕ) where
  ------------------------------------------------------------
  -- A step from a pair, as erased

  none_erased : (t : TypeRef) → (IsObject t → ⊥) → erased_methods p k t ≡ []
  none_erased Int n = refl
  none_erased Bool n = refl
  none_erased Text n = refl
  none_erased Nothing n = refl
  none_erased (Named d es) n = absurd (n tt)
  none_erased (At d e) n = absurd (n tt)
  none_erased (Own l) n = absurd (n tt)

  leads_erased : (m n : Signature TypeRef) (part : Part) (r : Pair) → LeadsBy TypeRef (methods_of p k) IsObject (Allows p k Plain) m n part r →
      LeadsBy TypeRef (erased_methods p k) IsObject AnyEffect (bare_signature m) (bare_signature n) part (bare r)
  leads_erased m n Result r h = (ap erased h.0, ap erased h.1)
  leads_erased m n (Parameter i) r h = (slice_get-mapped erased n.params i r.0 h.0, slice_get-mapped erased m.params i r.1 h.1)

  step_erased : (q r : Pair) (s : Step) → StepsTo p k Plain q s r → IsStep TypeRef (erased_methods p k) IsObject AnyEffect (bare q) s (bare r)
  step_erased q r s h = record {
    left = bare_signature h.left;
    right = bare_signature h.right;
    found = ap (λ (ms : List (Signature TypeRef)). find_method h.right.name ms) (methods_agree p k q.0) ∙ find_mapped erased (λ e. []) h.right.name (methods_of p k q.0) ∙ ap (option_map bare_signature) h.found;
    asked = subst (λ (ms : List (Signature TypeRef)). In (bare_signature h.right) ms) (sym (methods_agree p k q.1)) (In-map bare_signature h.right (methods_of p k q.1) h.asked);
    named = h.named;
    leads = leads_erased h.left h.right s.part r h.leads;
  }

  ------------------------------------------------------------
  -- In either mode

  -- where a step leads from a pair that is closed in a list, there the list goes
  step_stays : (mode : Mode) (ps : List Pair) (q r : Pair) (s : Step) → ClosedIn p k mode ps q → StepsTo p k mode q s r → In {X = Pair} (looked_up mode r) ps
  step_stays Annotated ps q r s c h = closed_step TypeRef (methods_of p k) IsObject (IsWithin (bounds_of p k)) (no_methods p k) ps q s r c h
  step_stays Plain ps q r s c h = closed_step TypeRef (erased_methods p k) IsObject AnyEffect none_erased ps (bare q) s (bare r) c (step_erased q r s h)

  -- a pair that is closed is so as it is compared
  closed_compared : (mode : Mode) (ps : List Pair) (q : Pair) → ClosedIn p k mode ps q → ClosedIn p k mode ps (looked_up mode q)
  closed_compared Annotated ps q c = c
  closed_compared Plain ps q c = subst (λ (v : Pair). IsClosed TypeRef (erased_methods p k) IsObject AnyEffect ps v) (sym (looked_up_twice Plain q)) c

  module _ (s : Scope) (mode : Mode) (asked : List Pair) where
    compared_closed : (list : List Pair) → IsClosedList p k s mode asked list → (q : Pair) → In {X = Pair} q (all_looked_up mode list) → ClosedIn p k mode (all_looked_up mode list) q
    compared_closed list c q i =
        let u = of_looked_up mode q list i in
        subst (λ (v : Pair). ClosedIn p k mode (all_looked_up mode list) v) u.2 (closed_compared mode (all_looked_up mode list) u.0 (c.closed u.0 u.1))

    -- what arises is in a closed list
    pub arising_listed : (list : List Pair) → IsClosedList p k s mode asked list → (q : Pair) → Arises p k mode asked q → In {X = Pair} q (all_looked_up mode list)
    arising_listed list c _ (of_asked q i) = c.has q i
    arising_listed list c _ (of_pair q r step a to) = step_stays mode (all_looked_up mode list) q r step (compared_closed list c q (arising_listed list c q a)) to

    ------------------------------------------------------------
    -- Two closed lists of what is asked

    module _ (one other : List Pair) (a : IsClosedList p k s mode asked one) (b : IsClosedList p k s mode asked other) where
      same_compared : Within {X = Pair} (all_looked_up mode one) (all_looked_up mode other)
      same_compared q i = arising_listed other b q (a.only q i)

      no_longer : length (all_looked_up mode one) ≤ length (all_looked_up mode other)
      no_longer = length-apart (all_looked_up mode one) (all_looked_up mode other) a.apart same_compared

      -- .. have the same pairs
      pub same_pairs : Within {X = Pair} one other
      same_pairs q i =
          let given = given_within mode (all_looked_up mode one) (all_looked_up mode other) same_compared q (subst (λ (l : List Pair). In {X = Pair} q l) (sym a.form) i) in
          subst (λ (l : List Pair). In {X = Pair} q l) b.form given
        where
          given_within : (m : Mode) (qs rs : List Pair) → Within {X = Pair} qs rs → Within {X = Pair} (given_back m qs) (given_back m rs)
          given_within Annotated qs rs w r j = w r j
          given_within Plain qs rs w r j =
              let u = In-unmap {X = Pair} {Y = Pair} at_empty r qs j in
              subst (λ (v : Pair). In {X = Pair} v (map at_empty rs)) u.2 (In-map {X = Pair} {Y = Pair} at_empty u.0 rs (w u.0 u.1))

    compared_as_many : (m : Mode) (qs : List Pair) → length (all_looked_up m qs) ≡ length qs
    compared_as_many Annotated qs = refl
    compared_as_many Plain qs = length-map qs bare

    -- .. and are as long
    pub same_number : (one other : List Pair) → IsClosedList p k s mode asked one → IsClosedList p k s mode asked other → length one ≡ length other
    same_number one other a b =
        let le = no_longer one other a b in
        let ge = no_longer other one b a in
        omega (arith, le, ge, compared_as_many mode one, compared_as_many mode other)
