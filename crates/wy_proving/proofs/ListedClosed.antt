-- What is said of a scope, written out from closed pairs, types of `val`s and steps: its types stand and its pairs are closed.
use Rattle.std.proofs.Common.{◌≡◌, ℕ, List, [], ◌∷◌, ◌++◌, map, inl, inr, refl, sym, ◌∙◌, ap, ap₂, subst}
use Rattle.wy_text.specs.Members.{In}
use Rattle.wy_effects.specs.Bounds.{IsWithin}
use Rattle.wy_text.proofs.Lists.{In-left, In-right, In-cases, In-unmap}
use Rattle.wy_types.specs.declared.types.TypeRef.{TypeRef}
use Rattle.wy_types.specs.Program.{Program, Scope}
use Rattle.wy_types.specs.Types.{IsObject, annotated, erased, methods_of}
use Rattle.wy_types.specs.Bounds.{bounds_of}
use Rattle.wy_types.specs.Subtyping.{IsClosed, AnyEffect}
use Rattle.wy_rules.specs.PlainMethods.{erased_methods}
use Rattle.wy_cert.specs.declared.certificate.CertPair.{CertPair}
use Rattle.wy_cert.specs.declared.certificate.CertScope.{CertScope}
use Rattle.wy_proving.specs.Certified.{Pair, bare, annotated_pairs, plain_pairs}
use Rattle.wy_proving.specs.Steps.{Step}
use Rattle.wy_proving.specs.Proving.{TypeStands, TypesHold, PairStands, PairsHold, PlainStands, PlainPairsHold}
use Rattle.wy_proving.specs.Written.{pair_types, step_types, cert_pair, written_out}
use Rattle.wy_proving.proofs.ClosedPairs.{PairsWithin, Closed}
use Rattle.wy_proving.proofs.BareStand.{BareStands, erased_annotated_bare}
use Rattle.wy_proving.proofs.WrittenOut.{listed_in, number_names, pairs_back}

in_pairs : (ps : List Pair) (q : Pair) → In {X = Pair} q ps → In q.0 (pair_types ps) × In q.1 (pair_types ps)
in_pairs [] q i = absurd i
in_pairs (a ∷ ps) q (inl e) = (inl (ap (λ (v : Pair). v.0) e), inr (inl (ap (λ (v : Pair). v.1) e)))
in_pairs (a ∷ ps) q (inr i) = (let r = in_pairs ps q i in (inr (inr r.0), inr (inr r.1)))

pairs_have : (P : TypeRef → Type 0) (ps : List Pair) → ((q : Pair) → In {X = Pair} q ps → P q.0 × P q.1) → (t : TypeRef) → In t (pair_types ps) → P t
pairs_have P [] h t i = absurd i
pairs_have P (q ∷ ps) h t (inl e) = subst P e (h q (inl refl)).0
pairs_have P (q ∷ ps) h t (inr (inl e)) = subst P e (h q (inl refl)).1
pairs_have P (q ∷ ps) h t (inr (inr i)) = pairs_have P ps (λ v j. h v (inr j)) t i

-- each type of a pair at the empty set: so an erased type is listed
abbrev at_empty : Pair → Pair
at_empty q = (annotated [] q.0, annotated [] q.1)

one_back : (q : Pair) → erased q.0 ≡ q.0 → erased q.1 ≡ q.1 → bare (at_empty q) ≡ q
one_back q e f = ap₂ (λ x z. let r : Pair = (x, z) in r) (erased_annotated_bare q.0 e) (erased_annotated_bare q.1 f)

bare_back : (ps : List Pair) → ((q : Pair) → In {X = Pair} q ps → (erased q.0 ≡ q.0) × (erased q.1 ≡ q.1)) → map bare (map at_empty ps) ≡ ps
bare_back [] h = refl
bare_back (q ∷ ps) h = ap₂ (λ (v : Pair) (vs : List Pair). v ∷ vs) (one_back q (h q (inl refl)).0 (h q (inl refl)).1) (bare_back ps (λ v i. h v (inr i)))

-- what a part of a certificate is written from: lists that have the pairs that are asked, each pair closed in its list, and types that can
-- stand, those of the pairs, of the steps and of the `val`s among them
pub record Whole (p : Program) (k : ℕ) (s : Scope) (asks plain_asks : List Pair) (locals : List TypeRef) (steps : List (Step TypeRef)) : Type 0 where
  pub types : List TypeRef
  pub pairs : List Pair
  pub bares : List Pair
  pub asked : PairsWithin asks pairs
  pub closed : (q : Pair) → In {X = Pair} q pairs → IsClosed TypeRef (methods_of p k) IsObject (IsWithin (bounds_of p k)) pairs q
  pub asked_plainly : PairsWithin plain_asks (map bare bares)
  pub closed_plainly : (q : Pair) → In {X = Pair} q bares → IsClosed TypeRef (erased_methods p k) IsObject AnyEffect (map bare bares) (bare q)
  pub listed : (t : TypeRef) → In t (pair_types pairs ++ (pair_types bares ++ (step_types steps ++ locals))) → In t types
  pub stand : (t : TypeRef) → In t types → TypeStands p s t

module _ (p : Program) (k : ℕ) (s : Scope) (asks plain_asks : List Pair) (locals : List TypeRef) (steps : List (Step TypeRef)) where
  module _ (w : Whole p k s asks plain_asks locals steps) where
    -- the part of a certificate
    abbrev pub part : CertScope
    part = written_out w.types w.pairs w.bares locals steps

    in_first : (t : TypeRef) → In t (pair_types w.pairs) → In t w.types
    in_first t i = w.listed t (In-left t (pair_types w.pairs) (pair_types w.bares ++ (step_types steps ++ locals)) i)

    in_second : (t : TypeRef) → In t (pair_types w.bares) → In t w.types
    in_second t i = w.listed t (In-right t (pair_types w.pairs) (pair_types w.bares ++ (step_types steps ++ locals)) (In-left t (pair_types w.bares) (step_types steps ++ locals) i))

    -- the types of its steps are listed
    pub in_steps : (t : TypeRef) → In t (step_types steps) → In t w.types
    in_steps t i =
        w.listed t (In-right t (pair_types w.pairs) (pair_types w.bares ++ (step_types steps ++ locals)) (In-right t (pair_types w.bares) (step_types steps ++ locals) (In-left t (step_types steps) locals i)))

    -- .. and those of `val`s
    pub in_locals : (t : TypeRef) → In t locals → In t w.types
    in_locals t i =
        w.listed t (In-right t (pair_types w.pairs) (pair_types w.bares ++ (step_types steps ++ locals)) (In-right t (pair_types w.bares) (step_types steps ++ locals) (In-right t (step_types steps) locals i)))

    -- all types stand
    pub types_hold : TypesHold p k s part
    types_hold t i = w.stand t (listed_in w.types t i)

    ------------------------------------------------------------
    -- Pairs

    annotated_back : annotated_pairs part ≡ w.pairs
    annotated_back = pairs_back w.types w.pairs (λ q i. (let r = in_pairs w.pairs q i in (in_first q.0 r.0, in_first q.1 r.1)))

    bare_there : (q : Pair) → In {X = Pair} q w.bares → In q.0 w.types × In q.1 w.types
    bare_there q i = (let r = in_pairs w.bares q i in (in_second q.0 r.0, in_second q.1 r.1))

    plain_back : plain_pairs part ≡ map bare w.bares
    plain_back = ap (λ (ps : List Pair). map bare ps) (pairs_back w.types w.bares bare_there)

    -- what is asked is listed
    pub asked_listed : (q : Pair) → In {X = Pair} q asks → In {X = Pair} q (annotated_pairs part)
    asked_listed q i = subst (λ ps. In {X = Pair} q ps) (sym annotated_back) (w.asked q i)

    -- .. and in the plain list
    pub asked_plainly_listed : (q : Pair) → In {X = Pair} q plain_asks → In {X = Pair} q (plain_pairs part)
    asked_plainly_listed q i = subst (λ ps. In {X = Pair} q ps) (sym plain_back) (w.asked_plainly q i)

    -- each pair is closed
    pub pairs_hold : PairsHold p k s part
    pairs_hold n i =
        let r = In-unmap {X = Pair} {Y = CertPair} (cert_pair w.types) n w.pairs i in
        let q = r.0 in
        let l = in_pairs w.pairs q r.1 in
        let closed = subst (λ ps. IsClosed TypeRef (methods_of p k) IsObject (IsWithin (bounds_of p k)) ps q) (sym annotated_back) (w.closed q r.1) in
        subst (PairStands p k s part) r.2 (q.0, q.1, number_names w.types q.0 (in_first q.0 l.0), number_names w.types q.1 (in_first q.1 l.1), closed)

    -- .. and each plain one
    pub plain_hold : PlainPairsHold p k s part
    plain_hold n i =
        let r = In-unmap {X = Pair} {Y = CertPair} (cert_pair w.types) n w.bares i in
        let q = r.0 in
        let l = bare_there q r.1 in
        let closed = subst (λ ps. IsClosed TypeRef (erased_methods p k) IsObject AnyEffect ps (bare q)) (sym plain_back) (w.closed_plainly q r.1) in
        subst (PlainStands p k s part) r.2 (q.0, q.1, number_names w.types q.0 l.0, number_names w.types q.1 l.1, closed)

  ------------------------------------------------------------
  -- From closed lists

  module _ (annotated_list : Closed (methods_of p k) (IsWithin (bounds_of p k)) (TypeStands p s) asks) (plain_list : Closed (erased_methods p k) AnyEffect (BareStands p s) plain_asks) where
    abbrev empties : List Pair
    empties = map at_empty plain_list.list

    empties_stand : (q : Pair) → In {X = Pair} q empties → TypeStands p s q.0 × TypeStands p s q.1
    empties_stand q i =
        let r = In-unmap at_empty q plain_list.list i in
        let h = plain_list.each r.0 r.1 in
        let Q : Pair → Type 0 = λ v. TypeStands p s v.0 × TypeStands p s v.1 in
        subst Q r.2 (h.0.1, h.1.1)

    plain_again : map bare empties ≡ plain_list.list
    plain_again = bare_back plain_list.list (λ q i. (let h = plain_list.each q i in (h.0.0, h.1.0)))

    empties_closed : (q : Pair) → In {X = Pair} q empties → IsClosed TypeRef (erased_methods p k) IsObject AnyEffect (map bare empties) (bare q)
    empties_closed q i =
        let u = In-unmap at_empty q plain_list.list i in
        let h = plain_list.each u.0 u.1 in
        let back : bare q ≡ u.0 = ap (λ (v : Pair). bare v) (sym u.2) ∙ one_back u.0 h.0.0 h.1.0 in
        let listed = subst (λ ps. IsClosed TypeRef (erased_methods p k) IsObject AnyEffect ps u.0) (sym plain_again) (plain_list.closed u.0 u.1) in
        let Q : Pair → Type 0 = IsClosed TypeRef (erased_methods p k) IsObject AnyEffect (map bare empties) in
        subst Q (sym back) listed

    -- all of them, where the types of steps and `val`s stand
    pub whole_of : ((t : TypeRef) → In t (step_types steps) → TypeStands p s t) → ((t : TypeRef) → In t locals → TypeStands p s t) → Whole p k s asks plain_asks locals steps
    whole_of f g = record {
      types = pair_types annotated_list.list ++ (pair_types empties ++ (step_types steps ++ locals));
      pairs = annotated_list.list;
      bares = empties;
      asked = annotated_list.has;
      closed = annotated_list.closed;
      asked_plainly = λ q i. subst (λ ps. In {X = Pair} q ps) (sym plain_again) (plain_list.has q i);
      closed_plainly = empties_closed;
      listed = λ t i. i;
      stand = λ t i. elim (In-cases t (pair_types annotated_list.list) (pair_types empties ++ (step_types steps ++ locals)) i) [
        | inl j ↦ pairs_have (TypeStands p s) annotated_list.list annotated_list.each t j
        | inr j ↦ elim (In-cases t (pair_types empties) (step_types steps ++ locals) j) [
          | inl l ↦ pairs_have (TypeStands p s) empties empties_stand t l
          | inr l ↦ elim (In-cases t (step_types steps) locals l) [ inl x ↦ f t x | inr x ↦ g t x ]
        ]
      ];
    }
