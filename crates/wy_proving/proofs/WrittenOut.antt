-- What is said of a scope, written out from lists of types, of pairs, of the types of `val`s and of steps: each type by its number.
use Rattle.std.proofs.Common.{◌≡◌, ℕ, suc, List, [], ◌∷◌, ◌++◌, map, inl, inr, refl, sym, ◌∙◌, ap, ap₂, subst, Option, Some, None, true, false}
use Rattle.std.specs.Prelude.{slice_get, nat_eq, if◌then◌else◌}
use Rattle.std.proofs.lemmas.Bool.{eq-eqb}
use Rattle.wy_text.specs.Members.{In}
use Rattle.wy_text.proofs.Lists.{In-map, In-unmap}
use Rattle.wy_types.specs.declared.types.TypeRef.{TypeRef}
use Rattle.wy_types.specs.declared.types.TypeRef.TheVariants as to
use Rattle.wy_rules.specs.Canonical.{same_type}
use Rattle.wy_rules.specs.Reached.{Each}
use Rattle.wy_rules.proofs.SameTypes.{types_are_told_apart}
use Rattle.wy_cert.specs.Spelled.{rule_byte}
use Rattle.wy_proving.specs.Certified.{typed, Pair, pair_of, typed_pairs, with_type, named_types}
use Rattle.wy_proving.specs.Steps.{Step}
use Rattle.wy_proving.specs.Reading.{Lists, says_rule, SaysType, SaySteps}
use Rattle.wy_proving.specs.Written.{cert_type, listed_types, number_of, number, cert_pair, type_number, cert_node}
use Rattle.wy_proving.proofs.Tests.{both_true}

------------------------------------------------------------
-- Types

typed_back : (t : TypeRef) → typed (cert_type t) ≡ t
typed_back to.Int = refl
typed_back to.Bool = refl
typed_back to.Text = refl
typed_back to.Unit = refl
typed_back (to.Named d es) = refl
typed_back (to.At d e) = refl
typed_back (to.Own l) = refl

in_listed : (ts : List TypeRef) (t : TypeRef) → In t ts → In t (listed_types ts)
in_listed ts t i = subst (λ v. In v (listed_types ts)) (typed_back t) (In-map typed (cert_type t) (map cert_type ts) (In-map cert_type t ts i))

-- what is listed is of the list
pub listed_in : (ts : List TypeRef) (t : TypeRef) → In t (listed_types ts) → In t ts
listed_in ts t i =
    let r = In-unmap typed t (map cert_type ts) i in
    let u = In-unmap cert_type r.0 ts r.1 in
    subst (λ v. In v ts) (sym (typed_back u.0) ∙ (ap typed u.2 ∙ r.2)) u.1

number_there : (ts : List TypeRef) (t : TypeRef) → In t ts → slice_get ts (number_of ts t) ≡ Some t
number_there [] t i = absurd i
number_there (u ∷ us) t i =
    elim (same_type u t) as (λ b. same_type u t ≡ b → slice_get (u ∷ us) (if b then 0 else suc (number_of us t)) ≡ Some t) [
      | true ↦ λ e. ap (λ v. Some v) ((types_are_told_apart u t).0 e)
      | false ↦ λ e. elim i [ inl same ↦ (let f = (types_are_told_apart u t).1 same in absurd (cc)) | inr j ↦ number_there us t j ]
    ] refl

module _ (ts : List TypeRef) where
  -- it names the type
  pub number_names : (t : TypeRef) → In t ts → slice_get (listed_types ts) (number ts t) ≡ Some t
  number_names t i = number_there (listed_types ts) t (in_listed ts t i)

  ------------------------------------------------------------
  -- Pairs and types of `val`s

  a_pair : (a b : Option TypeRef) (q : Pair) → a ≡ Some q.0 → b ≡ Some q.1 → pair_of a b ≡ q ∷ []
  a_pair a b q e f = subst (λ v. pair_of v b ≡ q ∷ []) (sym e) (subst (λ v. pair_of (Some q.0) v ≡ q ∷ []) (sym f) refl)

  -- the pairs that are listed are those that were written, where their types are
  pub pairs_back : (ps : List Pair) → ((q : Pair) → In {X = Pair} q ps → In q.0 ts × In q.1 ts) → typed_pairs (listed_types ts) (map (cert_pair ts) ps) ≡ ps
  pairs_back [] h = refl
  pairs_back (q ∷ ps) h =
      let r = h q (inl refl) in
      let first = a_pair (slice_get (listed_types ts) (number ts q.0)) (slice_get (listed_types ts) (number ts q.1)) q (number_names q.0 r.0) (number_names q.1 r.1) in
      ap₂ (λ (xs zs : List Pair). xs ++ zs) first (pairs_back ps (λ v i. h v (inr i)))

  -- .. and so are the types of `val`s
  pub locals_back : (us : List TypeRef) → ((t : TypeRef) → In t us → In t ts) → named_types (listed_types ts) (map (number ts) us) ≡ Some us
  locals_back [] h = refl
  locals_back (u ∷ us) h = ap₂ with_type (number_names u (h u (inl refl))) (locals_back us (λ t i. h t (inr i)))

  ------------------------------------------------------------
  -- Nodes

  same_number : (n : ℕ) → nat_eq n n ≡ true
  same_number n = eq-eqb n n refl

  rule_said : (st : Step TypeRef) → says_rule st.rule st.place st.parts (cert_node ts st) ≡ true
  rule_said st =
      both_true _ _ (same_number (rule_byte st.rule))
      (both_true _ _ (same_number st.place.file) (both_true _ _ (same_number st.place.line) (both_true _ _ (same_number st.place.column) (same_number st.parts))))

  module _ (c : Lists TypeRef) (named : (n : ℕ) → c.named n ≡ slice_get (listed_types ts) n) where
    -- a type that is given is in the list
    abbrev pub IsListedType : Option TypeRef → Type 0
    IsListedType None = Unit {0}
    IsListedType (Some t) = In t ts

    -- the pair of a T-Sub is listed, and its set can stand
    abbrev pub IsListedSub : Option TypeRef → Option TypeRef → List ℕ → Type 0
    IsListedSub None t e = Unit {0}
    IsListedSub (Some k) None e = c.stands e ≡ true
    IsListedSub (Some k) (Some t) e = (c.listed k t ≡ true) × (c.stands e ≡ true)

    -- the type of a step is in the list; of a T-Sub the pair is listed, and the set can stand
    abbrev pub IsSaid : Step TypeRef → Type 0
    IsSaid st = IsListedType st.typ × IsListedSub st.below st.typ st.effect

    type_said : (o : Option TypeRef) → IsListedType o → SaysType c (type_number ts o) o
    type_said None h = refl
    type_said (Some t) h = named (number ts t) ∙ number_names t h

    pair_said : (o w : Option TypeRef) (e : List ℕ) → IsListedSub o w e → (a b : TypeRef) → o ≡ Some a → w ≡ Some b → c.listed a b ≡ true
    pair_said None w e h a b f g = absurd (cc)
    pair_said (Some k) None e h a b f g = absurd (cc)
    pair_said (Some k) (Some t) e h a b f g = (let x : k ≡ a = cc in let z : t ≡ b = cc in subst (λ v. c.listed v b ≡ true) x (subst (λ v. c.listed k v ≡ true) z h.0))

    set_said : (o w : Option TypeRef) (e : List ℕ) → IsListedSub o w e → (a : TypeRef) → o ≡ Some a → c.stands e ≡ true
    set_said None w e h a f = absurd (cc)
    set_said (Some k) None e h a f = h
    set_said (Some k) (Some t) e h a f = h.1

    -- the nodes of steps say them
    pub steps_said : (sts : List (Step TypeRef)) → Each IsSaid sts → SaySteps c (map (cert_node ts) sts) sts []
    steps_said [] h = refl
    steps_said (st ∷ sts) h = (
      record {
        rule = rule_said st;
        typ = type_said st.typ h.0.0;
        effect = refl;
        pair = pair_said st.below st.typ st.effect h.0.1;
        stands = set_said st.below st.typ st.effect h.0.1;
      },
      steps_said sts h.1,
    )
