-- Closed lists as they are given, and what they prove together.
use Rattle.std.proofs.Common.{◌≡◌, ℕ, List, [], ◌∷◌, map, length, inl, inr, refl, sym, ap, ◌∙◌, subst, Some}
use Rattle.std.specs.Prelude.{slice_get}
use Rattle.wy_text.specs.Members.{In, Apart}
use Rattle.wy_text.proofs.Lists.{In-left, In-unmap, In-at}
use Rattle.wy_types.specs.declared.types.TypeRef.{TypeRef}
use Rattle.wy_types.specs.declared.types.TypeRef.TheVariants.{Int, Bool, Text, Unit as Nothing, Named, At, Own}
use Rattle.wy_types.specs.Program.{Program, Scope}
use Rattle.wy_types.specs.Types.{IsObject, annotated, erased}
use Rattle.wy_types.specs.Subtyping.{IsClosed, AnyEffect}
use Rattle.wy_rules.specs.PlainMethods.{erased_methods}
use Rattle.wy_subtype.specs.declared.verdict.Mode.{Mode}
use Rattle.wy_subtype.specs.declared.verdict.Mode.TheVariants.{Annotated, Plain}
use Rattle.wy_proving.specs.Certified.{Pair, bare}
use Rattle.wy_proving.specs.Proving.{TypeStands}
use Rattle.wy_recheck.specs.Closing.{looked_up, ClosedIn}
use Rattle.wy_certify.specs.Closed.{all_looked_up, Holds, IsClosedList, IsGrown, IsExplored, at_empty, given_back}
use Rattle.wy_certify.proofs.PairsGrowing.{in_looked_up, arises_first}

-- an erased type is what is erased of it at the empty set
erased_back : (t : TypeRef) → erased t ≡ t → erased (annotated [] t) ≡ t
erased_back Int e = refl
erased_back Bool e = refl
erased_back Text e = refl
erased_back Nothing e = refl
erased_back (Named d es) e = e
erased_back (At d b) e = absurd (cc)
erased_back (Own l) e = refl

as_pair : (a b c d : TypeRef) → a ≡ c → b ≡ d → ◌≡◌ {A = Pair} (a, b) (c, d)
as_pair a b c d e f = ap (λ (t : TypeRef). let r : Pair = (t, b) in r) e ∙ ap (λ (t : TypeRef). let r : Pair = (c, t) in r) f

pair_back : (q : Pair) → bare q ≡ q → bare (at_empty q) ≡ q
pair_back q e =
    as_pair (erased (annotated [] q.0)) (erased (annotated [] q.1)) q.0 q.1 (erased_back q.0 (ap (λ (r : Pair). r.0) e)) (erased_back q.1 (ap (λ (r : Pair). r.1) e))

pairs_back : (qs : List Pair) → ((q : Pair) → In {X = Pair} q qs → bare q ≡ q) → map bare (map at_empty qs) ≡ qs
pairs_back [] h = refl
pairs_back (q ∷ qs) h =
    ap (λ (r : Pair). r ∷ map bare (map at_empty qs)) (pair_back q (h q (inl refl))) ∙ ap (λ (l : List Pair). q ∷ l) (pairs_back qs (λ r i. h r (inr i)))

-- what is given is, as it is compared, the list that was made
all_back : (mode : Mode) (qs : List Pair) → ((q : Pair) → In {X = Pair} q qs → looked_up mode q ≡ q) → all_looked_up mode (given_back mode qs) ≡ qs
all_back Annotated qs h = refl
all_back Plain qs h = pairs_back qs h

module _ (p : Program) (k : ℕ) (s : Scope) where
  given_stands : (mode : Mode) (qs : List Pair) → ((q : Pair) → In {X = Pair} q qs → Holds p k s mode q × (looked_up mode q ≡ q)) → (r : Pair) → In {X = Pair} r (given_back mode qs) → TypeStands p s r.0 × TypeStands p s r.1
  given_stands Annotated qs h r i = (let g = h r i in (g.0.1, g.0.2))
  given_stands Plain qs h r i =
      let u = In-unmap {X = Pair} {Y = Pair} at_empty r qs i in
      let g = h u.0 u.1 in
      let P : TypeRef → Type 0 = λ t. TypeStands p s (annotated [] t) in
      let Q : Pair → Type 0 = λ v. TypeStands p s v.0 × TypeStands p s v.1 in
      subst Q u.2 (subst P (ap (λ (v : Pair). v.0) g.1) g.0.1.1, subst P (ap (λ (v : Pair). v.1) g.1) g.0.2.1)

  given_closed : (mode : Mode) (qs : List Pair) → ((q : Pair) → In {X = Pair} q qs → looked_up mode q ≡ q) → ((q : Pair) → In {X = Pair} q qs → ClosedIn p k mode qs q) → (r : Pair) → In {X = Pair} r (given_back mode qs) → ClosedIn p k mode qs r
  given_closed Annotated qs e h r i = h r i
  given_closed Plain qs e h r i =
      let u = In-unmap {X = Pair} {Y = Pair} at_empty r qs i in
      subst (λ (v : Pair). ClosedIn p k Plain qs v) u.2 (same (at_empty u.0) u.0 (pair_back u.0 (e u.0 u.1) ∙ sym (e u.0 u.1)) (h u.0 u.1))
    where
      same : (a b : Pair) → bare a ≡ bare b → ClosedIn p k Plain qs b → ClosedIn p k Plain qs a
      same a b f g = subst (λ (v : Pair). IsClosed TypeRef (erased_methods p k) IsObject AnyEffect qs v) (sym f) g

  -- a list that has what is asked, and all of whose pairs were tested, is closed
  pub listed_whole : (mode : Mode) (asked first qs : List Pair) → IsGrown (all_looked_up mode asked) [] first → IsExplored p k mode first qs (length qs) → slice_get p.scopes k ≡ Some s → (list : List Pair) → list ≡ given_back mode qs →
      IsClosedList p k s mode asked list
  listed_whole mode asked first qs g x at list is = subst (λ (l : List Pair). IsClosedList p k s mode asked l) (sym is) (record {
    has = λ q i.
        let there : In {X = Pair} (looked_up mode q) qs = subst (λ (l : List Pair). In {X = Pair} (looked_up mode q) l) (sym x.extends) (In-left {X = Pair} (looked_up mode q) first x.tail (g.has (looked_up mode q) (in_looked_up mode q asked i))) in
        subst (λ (l : List Pair). In {X = Pair} (looked_up mode q) l) (sym back) there;
    closed = λ q i. subst (λ (l : List Pair). ClosedIn p k mode l q) (sym back) (given_closed mode qs same done q i);
    only = λ q i. arises_first p k mode asked first g q (x.only q (subst (λ (l : List Pair). In {X = Pair} q l) back i));
    apart = subst (λ (l : List Pair). Apart l) (sym back) x.ready.apart;
    form = ap (given_back mode) back;
    stand = given_stands mode qs ready;
  })
    where
      here : x.ready.scope ≡ s
      here = let e : Some x.ready.scope ≡ Some s = sym x.ready.there ∙ at in cc

      ready : (q : Pair) → In {X = Pair} q qs → Holds p k s mode q × (looked_up mode q ≡ q)
      ready q i = subst (λ (v : Scope). Holds p k v mode q × (looked_up mode q ≡ q)) here (x.ready.each q i)

      same : (q : Pair) → In {X = Pair} q qs → looked_up mode q ≡ q
      same q i = (ready q i).1

      back : all_looked_up mode (given_back mode qs) ≡ qs
      back = all_back mode qs same

      done : (q : Pair) → In {X = Pair} q qs → ClosedIn p k mode qs q
      done q i = (let r = In-at q qs i in x.done r.0 r.1 q r.2)
