-- Lists of pairs that grow at their ends, each pair once, while the pairs of the list are tested one after another.
use Rattle.std.proofs.Common.{◌≡◌, ℕ, zero, suc, ◌+◌, ◌<◌, ◌≤◌, List, [], ◌∷◌, ◌++◌, map, length, inl, inr, refl, sym, ap, ◌∙◌, subst, Some, arith, append_assoc, append-nil, length-append}
use Rattle.std.proofs.lemmas.Bool.{cases_lt}
use Rattle.std.specs.Prelude.{slice_get}
use Rattle.wy_text.specs.Members.{In, Within}
use Rattle.wy_effects.specs.Bounds.{IsWithin}
use Rattle.wy_text.proofs.Lists.{In-left, In-right, In-cases, In-map, In-unmap, In-slice_get, Apart-push}
use Rattle.wy_types.specs.Program.{Program, Scope}
use Rattle.wy_types.specs.declared.types.TypeRef.{TypeRef}
use Rattle.wy_types.specs.Types.{IsObject, erased, methods_of}
use Rattle.wy_types.specs.Bounds.{bounds_of}
use Rattle.wy_types.specs.Core.{IsCore}
use Rattle.wy_types.specs.Subtyping.{AnyEffect}
use Rattle.wy_types.proofs.Closing.{IsClosed-more}
use Rattle.wy_types.proofs.Finite.{pair_bound, length-le-pair_bound}
use Rattle.wy_rules.specs.PlainMethods.{erased_methods}
use Rattle.wy_subtype.specs.declared.verdict.Mode.{Mode}
use Rattle.wy_subtype.specs.declared.verdict.Mode.TheVariants.{Annotated, Plain}
use Rattle.wy_subtype.specs.declared.unfolding.UnfoldedPair.{UnfoldedPair}
use Rattle.wy_subtype.specs.Unfolding.{sides, Asks}
use Rattle.wy_subtype.proofs.Places.{slice_get-within}
use Rattle.wy_proving.specs.Certified.{Pair, bare}
use Rattle.wy_proving.proofs.Erasing.{erased_erased}
use Rattle.wy_recheck.specs.Closing.{looked_up, ClosedIn}
use Rattle.wy_recheck.proofs.ClosedPairs.{asks_closed}
use Rattle.wy_certify.specs.Closed.{all_looked_up, Holds, AllHold, Arises, of_asked, of_pair, IsGrown, AreReady, Advances, IsExplored}
use Rattle.wy_certify.proofs.PairsHolding.{compared_holds, asked_holds, holding_fits}

------------------------------------------------------------
-- Growth

pub grown_none : (ps : List Pair) → IsGrown [] ps ps
grown_none ps = record { tail = []; extends = sym (append-nil ps); has = λ q i. absurd i; only = λ q i. inl i; apart = λ h. h }

extended : (a b c t u : List Pair) → b ≡ a ++ t → c ≡ b ++ u → c ≡ a ++ (t ++ u)
extended a b c t u e f = f ∙ ap (λ (l : List Pair). l ++ u) e ∙ append_assoc a t u

within_more : (old new tail : List Pair) → new ≡ old ++ tail → (q : Pair) → In {X = Pair} q old → In {X = Pair} q new
within_more old new tail e q i = subst (λ (l : List Pair). In {X = Pair} q l) (sym e) (In-left {X = Pair} q old tail i)

pub grown_both : (qs rs a b c : List Pair) → IsGrown qs a b → IsGrown rs b c → IsGrown (qs ++ rs) a c
grown_both qs rs a b c g h = record {
  tail = g.tail ++ h.tail;
  extends = extended a b c g.tail h.tail g.extends h.extends;
  has = λ q i. elim (In-cases {X = Pair} q qs rs i) [ inl j ↦ within_more b c h.tail h.extends q (g.has q j) | inr j ↦ h.has q j ];
  only = λ q i. elim (h.only q i) [
    | inl j ↦ elim (g.only q j) [ inl l ↦ inl l | inr l ↦ inr (In-left {X = Pair} q qs rs l) ]
    | inr j ↦ inr (In-right {X = Pair} q qs rs j)
  ];
  apart = λ d. h.apart (g.apart d);
}

-- a pair that is there is not added
pub grown_present : (q : Pair) (ps : List Pair) → In {X = Pair} q ps → IsGrown (q ∷ []) ps ps
grown_present q ps there = record {
  tail = [];
  extends = sym (append-nil ps);
  has = λ r i. elim i [ inl e ↦ (let P : Pair → Type 0 = λ v. In {X = Pair} v ps in subst P e there) | inr n ↦ absurd n ];
  only = λ r i. inl i;
  apart = λ h. h;
}

-- .. and one that is not there comes last
pub grown_last : (q : Pair) (ps : List Pair) → (In {X = Pair} q ps → ⊥) → IsGrown (q ∷ []) ps (ps ++ q ∷ [])
grown_last q ps absent = record {
  tail = q ∷ [];
  extends = refl;
  has = λ r i. In-right {X = Pair} r ps (q ∷ []) i;
  only = λ r i. In-cases {X = Pair} r ps (q ∷ []) i;
  apart = λ h. Apart-push {X = Pair} q ps h absent;
}

------------------------------------------------------------
-- Pairs as they are compared

pub in_looked_up : (mode : Mode) (q : Pair) (qs : List Pair) → In {X = Pair} q qs → In {X = Pair} (looked_up mode q) (all_looked_up mode qs)
in_looked_up Annotated q qs i = i
in_looked_up Plain q qs i = In-map {X = Pair} {Y = Pair} bare q qs i

pub of_looked_up : (mode : Mode) (r : Pair) (qs : List Pair) → In {X = Pair} r (all_looked_up mode qs) → (q : Pair) × In {X = Pair} q qs × (looked_up mode q ≡ r)
of_looked_up Annotated r qs i = (r, i, refl)
of_looked_up Plain r qs i = In-unmap {X = Pair} {Y = Pair} bare r qs i

pub looked_up_twice : (mode : Mode) (q : Pair) → looked_up mode (looked_up mode q) ≡ looked_up mode q
looked_up_twice Annotated q = refl
looked_up_twice Plain q =
    let first : ◌≡◌ {A = Pair} (erased (erased q.0), erased (erased q.1)) (erased q.0, erased (erased q.1)) = ap (λ (t : TypeRef). let r : Pair = (t, erased (erased q.1)) in r) (erased_erased q.0) in
    first ∙ ap (λ (t : TypeRef). let r : Pair = (erased q.0, t) in r) (erased_erased q.1)

-- what is closed in a list is closed in a longer one
closed_more : (p : Program) (k : ℕ) (mode : Mode) (ps qs : List Pair) (q : Pair) → Within {X = Pair} ps qs → ClosedIn p k mode ps q → ClosedIn p k mode qs q
closed_more p k Annotated ps qs q w h = IsClosed-more TypeRef (methods_of p k) IsObject (IsWithin (bounds_of p k)) ps qs q w h
closed_more p k Plain ps qs q w h = IsClosed-more TypeRef (erased_methods p k) IsObject AnyEffect ps qs (bare q) w h

module _ (p : Program) (k : ℕ) (mode : Mode) where
  ready_one : (s : Scope) (q : Pair) → Holds p k s mode q → (r : Pair) → looked_up mode q ≡ r → Holds p k s mode r × (looked_up mode r ≡ r)
  ready_one s q h r e = subst (λ (v : Pair). Holds p k s mode v × (looked_up mode v ≡ v)) e (compared_holds p k s mode q h, looked_up_twice mode q)

  -- the pairs that are asked, as they are compared, are ready
  pub ready_first : (qs first : List Pair) → AllHold p k mode qs → IsGrown (all_looked_up mode qs) [] first → AreReady p k mode first
  ready_first qs first h g = record {
    scope = h.scope;
    there = h.there;
    each = λ r i. elim (g.only r i) [ inl j ↦ absurd j | inr j ↦ (let u = of_looked_up mode r qs j in ready_one h.scope u.0 (h.each u.0 u.1) r u.2) ];
    apart = g.apart tt;
  }

  ------------------------------------------------------------
  -- What arises

  -- what is asked and is as it is compared arises
  arises_itself : (qs : List Pair) (q : Pair) → In {X = Pair} q qs → looked_up mode q ≡ q → Arises p k mode qs q
  arises_itself qs q i same = subst (λ (v : Pair). Arises p k mode qs v) same (of_asked q i)

  -- what arises from pairs, each of which arises as it is compared, arises
  pub arises_through : (asked first : List Pair) → ((q : Pair) → In {X = Pair} q first → Arises p k mode asked (looked_up mode q)) → (q : Pair) → Arises p k mode first q → Arises p k mode asked q
  arises_through asked first h q (of_asked r i) = h r i
  arises_through asked first h q (of_pair r t step a to) = of_pair r t step (arises_through asked first h r a) to

  -- .. from pairs that are as they are compared
  arises_onward : (asked old : List Pair) → AreReady p k mode old → ((q : Pair) → In {X = Pair} q old → Arises p k mode asked q) → (q : Pair) → Arises p k mode old q → Arises p k mode asked q
  arises_onward asked old ready h = arises_through asked old (λ q i. subst (λ (v : Pair). Arises p k mode asked v) (sym (ready.each q i).1) (h q i))

  -- .. from the pairs that are asked, as they are compared
  pub arises_first : (asked first : List Pair) → IsGrown (all_looked_up mode asked) [] first → (q : Pair) → Arises p k mode first q → Arises p k mode asked q
  arises_first asked first g = arises_through asked first (λ r i. elim (g.only r i) [
    | inl j ↦ absurd j
    | inr j ↦
        let u = of_looked_up mode r asked j in
        let same : looked_up mode u.0 ≡ looked_up mode r = sym (looked_up_twice mode u.0) ∙ ap (looked_up mode) u.2 in
        subst (λ (v : Pair). Arises p k mode asked v) same (of_asked u.0 u.1)
  ])

  ------------------------------------------------------------
  -- One pair is tested

  same_place : (old new tail : List Pair) → new ≡ old ++ tail → (at : ℕ) (q : Pair) → slice_get old at ≡ Some q → slice_get new at ≡ Some q
  same_place old new tail e at q f = ap (λ (l : List Pair). slice_get l at) e ∙ longer old at f
    where
      longer : (l : List Pair) (n : ℕ) → slice_get l n ≡ Some q → slice_get (l ++ tail) n ≡ Some q
      longer [] n g = absurd (cc)
      longer (x ∷ l) zero g = g
      longer (x ∷ l) (suc n) g = longer l n g

  same_item : (qs : List Pair) (at : ℕ) (q r : Pair) → slice_get qs at ≡ Some q → slice_get qs at ≡ Some r → q ≡ r
  same_item qs at q r e f = let g : Some q ≡ Some r = sym e ∙ f in cc

  pub advances : (core : IsCore p) (old new : List Pair) (at : ℕ) (q : Pair) (asked : List UnfoldedPair) → AreReady p k mode old → slice_get old at ≡ Some q → Asks p k mode q asked → IsGrown (all_looked_up mode (map sides asked)) old new →
      Advances p k mode old new at
  advances core old new at q asked ready is a g =
      let s = ready.scope in
      let holds : Holds p k s mode q = (ready.each q (In-slice_get old at q is)).0 in
      let done : ClosedIn p k mode new q = (asks_closed p k mode q asked a new).0 (λ c i. g.has (looked_up mode (sides c)) (in_looked_up mode (sides c) (map sides asked) (In-map sides c asked i))) in
      record {
        tail = g.tail;
        extends = g.extends;
        ready = record {
          scope = s;
          there = ready.there;
          each = λ r i. elim (g.only r i) [
            | inl j ↦ ready.each r j
            | inr j ↦
                let u = of_looked_up mode r (map sides asked) j in
                let v = In-unmap sides u.0 asked u.1 in
                let h : Holds p k s mode (sides v.0) = asked_holds p k s core ready.there mode q holds asked a v.0 v.1 in
                ready_one s u.0 (subst (λ (w : Pair). Holds p k s mode w) v.2 h) r u.2
          ];
          apart = g.apart ready.apart;
        };
        only = λ r i. elim (g.only r i) [
          | inl j ↦ arises_itself old r j (ready.each r j).1
          | inr j ↦
              let u = of_looked_up mode r (map sides asked) j in
              let v = In-unmap sides u.0 asked u.1 in
              let there = In-slice_get old at q is in
              let to : Arises p k mode old (looked_up mode (sides v.0)) = of_pair q (sides v.0) v.0.step (arises_itself old q there (ready.each q there).1) (a.steps v.0 v.1) in
              subst (λ (w : Pair). Arises p k mode old w) (ap (looked_up mode) v.2 ∙ u.2) to
        ];
        done = λ r e. subst (λ (w : Pair). ClosedIn p k mode new w) (same_item new at q r (same_place old new g.tail g.extends at q is) e) done;
      }

  ------------------------------------------------------------
  -- One after another

  pub explored_none : (first : List Pair) → AreReady p k mode first → IsExplored p k mode first first 0
  explored_none first ready = record { tail = []; extends = sym (append-nil first); ready = ready; only = λ q i. arises_itself first q i (ready.each q i).1; within = omega arith; done = λ at lt. absurd (omega arith) }

  pub explored_more : (first old new : List Pair) (n : ℕ) → n < length old → IsExplored p k mode first old n → Advances p k mode old new n → IsExplored p k mode first new (n + 1)
  explored_more first old new n lt x a = record {
    tail = x.tail ++ a.tail;
    extends = extended first old new x.tail a.tail x.extends a.extends;
    ready = a.ready;
    only = λ q i. arises_onward first old x.ready x.only q (a.only q i);
    within = (let e : length new ≡ length old + length a.tail = ap (λ (l : List Pair). length l) a.extends ∙ length-append old a.tail in omega (arith, e, lt));
    done = λ at le q e. elim (cases_lt at n) [
      | inl less ↦ earlier at less q e
      | inr more ↦
          let same : n ≡ at = omega (arith, le, more) in
          a.done q (subst (λ i. slice_get new i ≡ Some q) (sym same) e)
    ];
  }
    where
      earlier : (at : ℕ) → at < n → (q : Pair) → slice_get new at ≡ Some q → ClosedIn p k mode new q
      earlier at less q e =
          let r = slice_get-within old at (omega (arith, less, lt)) in
          let same : r.0 ≡ q = same_item new at r.0 q (same_place old new a.tail a.extends at r.0 r.1) e in
          subst (λ (w : Pair). ClosedIn p k mode new w) same (closed_more p k mode old new r.0 (within_more old new a.tail a.extends) (x.done at less r.0 r.1))

  -- the list is no longer than the pairs of types in range, so it ends
  pub explored_left : (core : IsCore p) (first qs : List Pair) (n : ℕ) → n < length qs → IsExplored p k mode first qs n → n < pair_bound p k
  explored_left core first qs n lt x =
      let s = x.ready.scope in
      let fits = core.scopes s (In-slice_get p.scopes k s x.ready.there) in
      let le : length qs ≤ pair_bound p k = length-le-pair_bound p k qs x.ready.apart (λ q i. (let r = x.ready.each q i in holding_fits p k s fits.atoms x.ready.there mode q r.0 r.1)) in
      omega (arith, le, lt)
