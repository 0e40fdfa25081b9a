-- Certificates of a program: of what is found of its scopes, how long they are, and that they prove it.
use Rattle.std.proofs.Common.{◌≡◌, ℕ, ◌+◌, ◌<◌, ◌≤◌, ◌^◌, List, [], ◌∷◌, ◌++◌, map, length, inl, inr, refl, sym, ap, ◌∙◌, subst, Some, None, Bool as Truth, true, false, arith, length-append, eqb-true}
use Rattle.std.specs.Prelude.{codes, slice_get, nat_eq}
use Rattle.std.proofs.lemmas.Bool.{cases_lt}
use Rattle.std.proofs.lemmas.List.{length-map}
use Rattle.std.proofs.lemmas.Option.{slice_get_within}
use Rattle.wy_text.specs.declared.fault.Place.{Place}
use Rattle.wy_text.specs.Members.{In, Within}
use Rattle.wy_text.proofs.Lists.{In-at, In-left, In-right, In-map}
use Rattle.wy_types.specs.declared.types.TypeRef.{TypeRef}
use Rattle.wy_types.specs.Program.{Program, Scope}
use Rattle.wy_types.specs.Types.{is_plain}
use Rattle.wy_types.specs.Core.{IsCore}
use Rattle.wy_rules.specs.Acceptance.{Accepted}
use Rattle.wy_rules.specs.Canonical.{both}
use Rattle.wy_rules.specs.Readings.{Reading, annotated_reading, plain_reading}
use Rattle.wy_rules.proofs.SameTypes.{both_right}
use Rattle.wy_subtype.specs.declared.verdict.Mode.TheVariants.{Annotated, Plain}
use Rattle.wy_subtype.proofs.Places.{slice_get-within}
use Rattle.wy_spelling.specs.Spelling.{number_bytes, joined, list_bytes}
use Rattle.wy_cert.specs.declared.certificate.CertType.{CertType}
use Rattle.wy_cert.specs.declared.certificate.CertType.TheVariants.{Int, Bool, Text, Unit as Nothing, Named, At, Own}
use Rattle.wy_cert.specs.declared.certificate.CertPair.{CertPair}
use Rattle.wy_cert.specs.declared.certificate.CertNode.{CertNode}
use Rattle.wy_cert.specs.declared.certificate.CertScope.{CertScope}
use Rattle.wy_cert.specs.Spelled.{rule_byte, type_bytes, pair_bytes, node_bytes, scope_bytes, certificate_bytes}
use Rattle.wy_proving.specs.Certified.{Pair}
use Rattle.wy_proving.specs.Steps.{Step, scope_steps}
use Rattle.wy_proving.specs.Reading.{Lists, SaySteps, AreDerived}
use Rattle.wy_proving.specs.Proving.{AreDerivedIn, ScopeProof, IsProof, annotated_lists, plain_lists}
use Rattle.wy_proving.specs.Written.{asks, plain_asks, pair_types, step_types, cert_type, cert_pair, cert_node, number, written_out, written_steps}
use Rattle.wy_certify.specs.declared.finding.ScopePart.{ScopePart}
use Rattle.wy_certify.specs.declared.listing.PartRefusal.{PartRefusal}
use Rattle.wy_certify.specs.declared.listing.PartRefusal.TheVariants as part
use Rattle.wy_certify.specs.declared.certifying.CertifyRefusal.{CertifyRefusal}
use Rattle.wy_certify.specs.declared.certifying.CertifyRefusal.TheVariants as refusal
use Rattle.wy_certify.specs.Certificates.{IsPart, IsCertificateOf, IsTooLong, most_bytes}
use Rattle.wy_certify.specs.NotCertified.{IsRefusedBy, IsUnspelled, refusal_of}
use Rattle.wy_certify.specs.Numbering.{part_types, IsEachOnce}
use Rattle.wy_certify.specs.PartTable.{AreNumbers}
use Rattle.wy_certify.specs.Parts.{part_pairs, part_bares, part_steps, types_in, said, IsFound, AreFoundParts}
use Rattle.wy_certify.specs.LocalsAt.{locals_at}
use Rattle.wy_certify.proofs.Arising.{same_pairs, same_number}
use Rattle.wy_certify.proofs.Numbers.{each_is_once, table_lists, table_stands}
use Rattle.wy_certify.proofs.ScopesProved.{part_proves}
use Rattle.wy_certify.proofs.Settled.{same_mapped, none_mapped}
use Rattle.wy_certify.proofs.Sizes.{no_more_bytes, as_many_bytes, each_as_many_bytes, some_bytes, one_of_bytes, list_size}
use Rattle.wy_certify.proofs.StepParts.{few_parts}

------------------------------------------------------------
-- Of what is found

-- what is found of a scope, by numbers, is said of it
pub found_said : (p : Program) (k : ℕ) (s : Scope) (x : ScopePart) → IsFound p k s x → IsPart p k s (said x)
found_said p k s x f =
    let ps = part_pairs x in
    let bs = part_bares x in
    let ts = types_in x in
    let us = locals_at p k s in
    let Q : List TypeRef → List (Step TypeRef) → Type 0 = λ v l. IsEachOnce (part_types ps bs v l) ts in
    let F : List TypeRef → List (Step TypeRef) → CertScope = λ v l. written_out ts ps bs v l in
    record {
      pairs = ps;
      bares = bs;
      types = ts;
      closed = f.closed;
      closed_plainly = f.closed_plainly;
      once = subst (λ (l : List (Step TypeRef)). Q us l) f.steps (subst (λ (v : List TypeRef). Q v (part_steps x)) f.vals (each_is_once (part_types ps bs x.vals (part_steps x))));
      is = ap (λ (v : List TypeRef). F v (part_steps x)) f.vals ∙ ap (λ (l : List (Step TypeRef)). F us l) f.steps;
    }

-- .. of all scopes
pub parts_said : (p : Program) (xs : List ScopePart) → AreFoundParts p xs → IsCertificateOf p (map said xs)
parts_said p xs f = record {
  number = length-map xs said ∙ f.number;
  parts = λ k s c at e.
      elim (slice_get xs k) as (λ o. slice_get xs k ≡ o → IsPart p k s c) [
        | None ↦ λ h. absurd (none_mapped said xs k c h e)
        | Some x ↦ λ h. subst (λ (v : CertScope). IsPart p k s v) (same_mapped said xs k x c h e) (found_said p k s x (f.each k s x at h))
      ] refl;
}

------------------------------------------------------------
-- Certificates prove

pub certificate_proves : (p : Program) → IsCore p → Accepted p → (cert : List CertScope) → IsCertificateOf p cert → IsProof p cert
certificate_proves p core accepted cert c = record { number = c.number; scopes = λ k s v at e. part_proves p k s at core accepted v (c.parts k s v at e) }

------------------------------------------------------------
-- How many bytes there are

five_sizes : (a b c d e : List ℕ) → length (a ++ b ++ c ++ d ++ e) ≡ length a + (length b + (length c + (length d + length e)))
five_sizes a b c d e = simp length-append (omega arith)

scope_size : (c : CertScope) →
    length (scope_bytes c) ≡
    length (list_bytes type_bytes c.types) + (length (list_bytes pair_bytes c.pairs) + (length (list_bytes pair_bytes c.plain) + (length (list_bytes number_bytes c.locals) + length (list_bytes node_bytes c.nodes))))
scope_size c = five_sizes (list_bytes type_bytes c.types) (list_bytes pair_bytes c.pairs) (list_bytes pair_bytes c.plain) (list_bytes number_bytes c.locals) (list_bytes node_bytes c.nodes)

certificate_size : (cert : List CertScope) → length (certificate_bytes cert) ≡ length (codes "WYCERT01") + (4 + length (joined scope_bytes cert))
certificate_size cert = length-append (codes "WYCERT01") (list_bytes scope_bytes cert) ∙ ap (λ n. length (codes "WYCERT01") + n) (list_size scope_bytes cert)

type_some : (t : CertType) → 1 ≤ length (type_bytes t)
type_some Int = omega arith
type_some Bool = omega arith
type_some Text = omega arith
type_some Nothing = omega arith
type_some (Named d es) = omega arith
type_some (At d e) = omega arith
type_some (Own l) = omega arith

node_some : (n : CertNode) → 1 ≤ length (node_bytes n)
node_some n = omega arith

------------------------------------------------------------
-- Numbers can be said where there are few bytes

module _ {K : Type 0} (c : Lists K) where
  as_many_nodes : (ns : List CertNode) (sts : List (Step K)) → SaySteps c ns sts [] → length ns ≡ length sts
  as_many_nodes [] [] h = refl
  as_many_nodes (n ∷ ns) [] h = absurd (cc)
  as_many_nodes [] (st ∷ sts) h = absurd h
  as_many_nodes (n ∷ ns) (st ∷ sts) h = (let rest = as_many_nodes ns sts h.1 in omega (arith, rest))

  says_parts : (a b d e : Truth) (n m : ℕ) → both a (both b (both d (both e (nat_eq n m)))) ≡ true → n ≡ m
  says_parts a b d e n m h =
      let last = both_right e (nat_eq n m) (both_right d (both e (nat_eq n m)) (both_right b (both d (both e (nat_eq n m))) (both_right a (both b (both d (both e (nat_eq n m)))) h))) in
      eqb-true n m last

  -- a node has as many parts as its step
  step_of_node : (ns : List CertNode) (sts : List (Step K)) → SaySteps c ns sts [] → (n : CertNode) → In n ns → (st : Step K) × In st sts × (n.parts ≡ st.parts)
  step_of_node [] sts h n i = absurd i
  step_of_node (x ∷ ns) [] h n i = absurd (cc)
  step_of_node (x ∷ ns) (st ∷ sts) h n (inl e) =
      let q : Place = st.place in
      let same : x.parts ≡ st.parts = says_parts (nat_eq (rule_byte x.rule) (rule_byte st.rule)) (nat_eq x.file q.file) (nat_eq x.line q.line) (nat_eq x.column q.column) x.parts st.parts h.0.rule in
      (st, inl refl, sym (ap (λ (v : CertNode). v.parts) e) ∙ same)
  step_of_node (x ∷ ns) (st ∷ sts) h n (inr i) = (let r = step_of_node ns sts h.1 n i in (r.0, inr r.1, r.2))

module _ (p : Program) (k : ℕ) (s : Scope) where
  derived_parts : (y : Reading) (c : Lists y.Kind) (locals : List y.Kind) (ns : List CertNode) → AreDerived y c s locals ns → (n : CertNode) → In n ns → n.parts ≤ length ns
  derived_parts y c locals ns d n i =
      let r = step_of_node c ns (scope_steps y s d.0) d.3 n i in
      let le = few_parts y s d.0 d.2 r.0 r.1 in
      omega (arith, le, r.2, as_many_nodes c ns (scope_steps y s d.0) d.3)

  derived_in : (c : CertScope) (plain : Truth) (locals : List TypeRef) → AreDerivedIn p k s c plain locals → (n : CertNode) → In n c.nodes → n.parts ≤ length c.nodes
  derived_in c true locals d = derived_parts (plain_reading p k) (plain_lists p k s c) locals c.nodes d
  derived_in c false locals d = derived_parts (annotated_reading p k) (annotated_lists p k s c) locals c.nodes d

  -- of a scope that is proved, by fewer bytes than four bytes can say, each number can be said
  numbers_said : (ts : List TypeRef) (ps bs : List Pair) (us : List TypeRef) (sts : List (Step TypeRef)) → ScopeProof p k s (written_out ts ps bs us sts) → length (scope_bytes (written_out ts ps bs us sts)) < 2 ^ 32 → AreNumbers ts sts
  numbers_said ts ps bs us sts proof few =
      let c : CertScope = written_out ts ps bs us sts in
      let all = scope_size c in
      let types = some_bytes type_bytes c.types type_some in
      let nodes = some_bytes node_bytes c.nodes node_some in
      let t = list_size type_bytes c.types in
      let n = list_size node_bytes c.nodes in
      let many : length c.types ≡ length ts = length-map ts cert_type in (
        omega (arith, few, all, types, t, many),
        λ st i.
            let le : st.parts ≤ length c.nodes = derived_in c (is_plain s.kind) proof.nodes.locals proof.nodes.derived (cert_node ts st) (In-map (cert_node ts) st sts i) in
            omega (arith, few, all, nodes, n, le),
      )

-- where a number of a scope's part cannot be said, the certificate is too long
pub too_long : (p : Program) → IsCore p → Accepted p → (xs : List ScopePart) → AreFoundParts p xs → (x : ScopePart) → In x xs → (AreNumbers (types_in x) (part_steps x) → ⊥) → IsTooLong p
too_long p core accepted xs f x i none = (map said xs, parts_said p xs f, elim (cases_lt most_bytes (length (certificate_bytes (map said xs)))) [ inl lt ↦ lt | inr le ↦ absurd (none (said_all le)) ])
  where
    said_all : length (certificate_bytes (map said xs)) ≤ most_bytes → AreNumbers (types_in x) (part_steps x)
    said_all le =
        let here = In-at x xs i in
        let k = here.0 in
        let scope = slice_get-within p.scopes k (let lt = here.1 in omega (arith, lt, f.number)) in
        let s : Scope = scope.0 in
        let found : IsFound p k s x = f.each k s x scope.1 here.2 in
        let proof : ScopeProof p k s (said x) = part_proves p k s scope.1 core accepted (said x) (found_said p k s x found) in
        let one = one_of_bytes scope_bytes (said x) (map said xs) (In-map said x xs i) in
        let all = certificate_size (map said xs) in
        numbers_said p k s (types_in x) (part_pairs x) (part_bares x) x.vals (part_steps x) proof (omega (arith, le, one, all))

-- .. as code has it
pub refused_by : (p : Program) → IsCore p → Accepted p → (xs : List ScopePart) → AreFoundParts p xs → (r : PartRefusal) → (r ≡ part.Limit → (x : ScopePart) × In x xs × (AreNumbers (types_in x) (part_steps x) → ⊥)) → IsRefusedBy p (refusal_of r)
refused_by p core accepted xs f part.Limit h = (let u = h refl in (refl, too_long p core accepted xs f u.0 u.1 u.2))
refused_by p core accepted xs f part.Memory h = tt

-- .. and where a certificate of the program is not spelled
pub unspelled_refused : (p : Program) (cert : List CertScope) → IsCertificateOf p cert → (e : CertifyRefusal) → IsUnspelled cert e → IsRefusedBy p e
unspelled_refused p cert c (refusal.Limit name) h = (h.0, (cert, c, h.1))
unspelled_refused p cert c refusal.Memory h = tt

------------------------------------------------------------
-- Certificates have one size

module _ (p : Program) (k : ℕ) (s : Scope) where
  abbrev us : List TypeRef
  us = locals_at p k s

  abbrev sts : List (Step TypeRef)
  sts = written_steps p k s (locals_at p k s)

  joined_types : (ts : List TypeRef) → joined type_bytes (map cert_type ts) ≡ joined (λ (t : TypeRef). type_bytes (cert_type t)) ts
  joined_types [] = refl
  joined_types (t ∷ ts) = ap (λ (l : List ℕ). type_bytes (cert_type t) ++ l) (joined_types ts)

  -- nodes of the same steps
  nodes_size : (ts vs : List TypeRef) (l : List (Step TypeRef)) → length (joined node_bytes (map (cert_node ts) l)) ≡ length (joined node_bytes (map (cert_node vs) l))
  nodes_size ts vs [] = refl
  nodes_size ts vs (st ∷ l) =
      let one : length (node_bytes (cert_node ts st)) ≡ length (node_bytes (cert_node vs st)) = refl in
      let rest = nodes_size ts vs l in
      let left = length-append (node_bytes (cert_node ts st)) (joined node_bytes (map (cert_node ts) l)) in
      let right = length-append (node_bytes (cert_node vs st)) (joined node_bytes (map (cert_node vs) l)) in
      omega (arith, one, rest, left, right)

  in_pair_types : (q : Pair) (qs : List Pair) → In {X = Pair} q qs → In q.0 (pair_types qs) × In q.1 (pair_types qs)
  in_pair_types q [] i = absurd i
  in_pair_types q (r ∷ qs) (inl e) = (inl (ap (λ (v : Pair). v.0) e), inr (inl (ap (λ (v : Pair). v.1) e)))
  in_pair_types q (r ∷ qs) (inr i) = (let both = in_pair_types q qs i in (inr (inr both.0), inr (inr both.1)))

  module _ (c d : CertScope) (a : IsPart p k s c) (b : IsPart p k s d) where
    pairs_within : Within {X = Pair} a.pairs b.pairs
    pairs_within = same_pairs p k s Annotated (asks p k s (locals_at p k s)) a.pairs b.pairs a.closed b.closed

    bares_within : Within {X = Pair} a.bares b.bares
    bares_within = same_pairs p k s Plain (plain_asks p k s (locals_at p k s)) a.bares b.bares a.closed_plainly b.closed_plainly

    -- the types of one are those of the other
    types_within : Within a.types b.types
    types_within =
        let listed = table_lists b.pairs b.bares us sts b.types b.once in
        table_stands a.pairs a.bares us sts a.types a.once (λ t. In t b.types)
        (λ q i.
        let both = in_pair_types q b.pairs (pairs_within q i) in
        (listed q.0 (In-left q.0 (pair_types b.pairs) _ both.0), listed q.1 (In-left q.1 (pair_types b.pairs) _ both.1)))
        (λ q i.
        let both = in_pair_types q b.bares (bares_within q i) in (
          listed q.0 (In-right q.0 (pair_types b.pairs) _ (In-left q.0 (pair_types b.bares) _ both.0)),
          listed q.1 (In-right q.1 (pair_types b.pairs) _ (In-left q.1 (pair_types b.bares) _ both.1)),
        ))
        (λ t i. listed t (In-right t (pair_types b.pairs) _ (In-right t (pair_types b.bares) _ (In-left t (step_types sts) us i))))
        (λ t i. listed t (In-right t (pair_types b.pairs) _ (In-right t (pair_types b.bares) _ (In-right t (step_types sts) us i))))

    no_more_types : length (joined type_bytes (map cert_type a.types)) ≤ length (joined type_bytes (map cert_type b.types))
    no_more_types =
        let f : TypeRef → List ℕ = λ t. type_bytes (cert_type t) in
        let le = no_more_bytes f a.types b.types a.once.apart types_within in
        let left = ap (λ (l : List ℕ). length l) (joined_types a.types) in
        let right = ap (λ (l : List ℕ). length l) (joined_types b.types) in
        omega (arith, le, left, right)

  written_size : (c d : CertScope) (a : IsPart p k s c) (b : IsPart p k s d) → length (scope_bytes (written_out a.types a.pairs a.bares us sts)) ≡ length (scope_bytes (written_out b.types b.pairs b.bares us sts))
  written_size c d a b =
      let v : CertScope = written_out a.types a.pairs a.bares us sts in
      let w : CertScope = written_out b.types b.pairs b.bares us sts in
      let more = no_more_types c d a b in
      let less = no_more_types d c b a in
      let pairs : length v.pairs ≡ length w.pairs =
      length-map a.pairs (cert_pair a.types) ∙ same_number p k s Annotated (asks p k s (locals_at p k s)) a.pairs b.pairs a.closed b.closed ∙ sym (length-map b.pairs (cert_pair b.types)) in
      let bares : length v.plain ≡ length w.plain =
      length-map a.bares (cert_pair a.types) ∙ same_number p k s Plain (plain_asks p k s (locals_at p k s)) a.bares b.bares a.closed_plainly b.closed_plainly ∙ sym (length-map b.bares (cert_pair b.types)) in
      let locals : length v.locals ≡ length w.locals = length-map us (number a.types) ∙ sym (length-map us (number b.types)) in
      let same_pair : (x z : CertPair) → length (pair_bytes x) ≡ length (pair_bytes z) = λ x z. refl in
      let same_local : (x z : ℕ) → length (number_bytes x) ≡ length (number_bytes z) = λ x z. refl in
      omega (
        arith,
        more,
        less,
        as_many_bytes pair_bytes v.pairs w.pairs same_pair pairs,
        as_many_bytes pair_bytes v.plain w.plain same_pair bares,
        as_many_bytes number_bytes v.locals w.locals same_local locals,
        nodes_size a.types b.types sts,
        scope_size v,
        scope_size w,
        list_size type_bytes v.types,
        list_size type_bytes w.types,
        list_size pair_bytes v.pairs,
        list_size pair_bytes w.pairs,
        list_size pair_bytes v.plain,
        list_size pair_bytes w.plain,
        list_size number_bytes v.locals,
        list_size number_bytes w.locals,
        list_size node_bytes v.nodes,
        list_size node_bytes w.nodes,
      )

  -- what is said of a scope has one size
  part_size : (c d : CertScope) → IsPart p k s c → IsPart p k s d → length (scope_bytes c) ≡ length (scope_bytes d)
  part_size c d a b = ap (λ (v : CertScope). length (scope_bytes v)) a.is ∙ written_size c d a b ∙ sym (ap (λ (v : CertScope). length (scope_bytes v)) b.is)

pub one_size : (p : Program) (one other : List CertScope) → IsCertificateOf p one → IsCertificateOf p other → length (certificate_bytes one) ≡ length (certificate_bytes other)
one_size p one other a b =
    let same = each_as_many_bytes scope_bytes one other (a.number ∙ sym b.number) (λ k c d i j.
    let lt = slice_get_within one k c i in
    let scope = slice_get-within p.scopes k (omega (arith, lt, a.number)) in
    part_size p k scope.0 c d (a.parts k scope.0 c scope.1 i) (b.parts k scope.0 d scope.1 j)) in
    omega (arith, same, certificate_size one, certificate_size other)
