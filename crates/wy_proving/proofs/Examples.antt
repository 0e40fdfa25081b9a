-- Two programs with their certificates: what proves them, where others fail first, and over which types of `val`s they are written.
--
-- 1  program
-- 2    run: {}
-- 3      ()
--
-- and one in which a `val` has a written type, so that T-Sub stands above its initialiser:
--
-- 1  type Item
-- 2    def get(): {} Int
-- 3  program
-- 4    run: {}
-- 5      val item: Item = new
-- 6        def get(): {} Int = 1
-- 7      ()
use Rattle.std.proofs.Common.{◌≡◌, ℕ, pos, zero, suc, ◌<◌, List, [], ◌∷◌, ◌++◌, refl, subst, inl, inr, Option, Some, None, true, arith}
use Rattle.std.specs.Prelude.{codes, slice_get}
use Rattle.wy_text.specs.Members.{In}
use Rattle.wy_effects.specs.Bounds.{IsWithin}
use Rattle.wy_effects.proofs.Ordering.{none_within, same_within}
use Rattle.wy_types.specs.declared.types.TypeRef.{TypeRef}
use Rattle.wy_types.specs.declared.types.TypeRef.TheVariants as to
use Rattle.wy_types.specs.declared.types.Method.{Method}
use Rattle.wy_types.specs.Code as code
use Rattle.wy_types.specs.Program.{Program, Scope}
use Rattle.wy_types.specs.Signature.{Signature, find_method}
use Rattle.wy_types.specs.Types.{IsObject, methods_of}
use Rattle.wy_types.specs.Bounds.{bounds_of}
use Rattle.wy_types.specs.Subtyping.{HasCover}
use Rattle.wy_rules.specs.Derivations.{Result, T-Lit}
use Rattle.wy_rules.proofs.Each.{each}
use Rattle.wy_cert.specs.declared.certificate.Rule.TheVariants as by
use Rattle.wy_cert.specs.declared.certificate.CertType.TheVariants.{Int, Unit as Nothing, Named, Own}
use Rattle.wy_cert.specs.declared.certificate.CertPair.{CertPair}
use Rattle.wy_cert.specs.declared.certificate.CertNode.{CertNode}
use Rattle.wy_cert.specs.declared.certificate.CertScope.{CertScope}
use Rattle.wy_proving.specs.declared.proof.CertTest.TheVariants.{Scopes, Types, Nodes}
use Rattle.wy_proving.specs.Certified.{types_of, annotated_pairs}
use Rattle.wy_proving.specs.Steps.{Step, sub_step}
use Rattle.wy_proving.specs.Reading.{Lists, bodies_stand, bodies_fail, says_rule, SaysType, SaysStep}
use Rattle.wy_proving.specs.Proving.{TypeStands, TypesHold, PairStands, PairsHold, annotated_lists, nodes_read, ScopeProof, IsWrittenOver, IsCanonical, AreTypesOfVals, ProvesScope, IsProof}
use Rattle.wy_proving.specs.Unproved.{IsFirstUnproved}
use Rattle.wy_proving.proofs.ExamplesForms.{at, object, method, type_with, body, main_of, program, node, pair}
use Rattle.wy_proving.proofs.ExactLists.{pair_listed, included}
use Rattle.wy_proving.proofs.Listed.{listed}
use Rattle.wy_proving.proofs.ScopesRead.{annotated_nodes_are_read}

-- what is said of a program is of one scope
one_scope : (p : Program) (s : Scope) (c : CertScope) → p.scopes ≡ s ∷ [] → ScopeProof p 0 s c → (k : ℕ) → ProvesScope p (c ∷ []) k
one_scope p s c only h zero t d e f =
    let scope : s ≡ t = (let a = subst (λ v. slice_get v 0 ≡ Some t) only e in cc) in
    let part : c ≡ d = cc in
    subst (λ v. ScopeProof p 0 v d) scope (subst (λ v. ScopeProof p 0 s v) part h)
one_scope p s c only h (suc k) t d e f = absurd (cc)

------------------------------------------------------------
-- The smallest program

abbrev smallest : Scope
smallest = main_of [] (at 2 3) (code.Last (code.Plain (code.Nothing (at 3 5)))) []

abbrev smallest_program : Program
smallest_program = program [] (smallest ∷ [])

-- what is said of it, with these nodes
abbrev saying : List CertNode → CertScope
saying nodes = record { types = Nothing ∷ []; pairs = []; plain = []; locals = []; nodes = nodes }

abbrev two_nodes : List CertNode
two_nodes = node by.Lit 3 5 0 0 ∷ node by.Body 2 3 1 0 ∷ []

smallest_read : nodes_read smallest_program 0 smallest (saying two_nodes) ≡ bodies_stand 2 []
smallest_read = refl

-- without the last node, with one more, with another place, and with another type: the node of the number fails
last_wanting : nodes_read smallest_program 0 smallest (saying (node by.Lit 3 5 0 0 ∷ [])) ≡ bodies_fail 1
last_wanting = refl

one_more : nodes_read smallest_program 0 smallest (saying (two_nodes ++ node by.Lit 3 5 0 0 ∷ [])) ≡ bodies_fail 2
one_more = refl

elsewhere : nodes_read smallest_program 0 smallest (saying (node by.Lit 3 5 0 0 ∷ node by.Body 2 4 1 0 ∷ [])) ≡ bodies_fail 1
elsewhere = refl

no_type : nodes_read smallest_program 0 smallest (saying (node by.Lit 3 5 0 1 ∷ node by.Body 2 3 1 0 ∷ [])) ≡ bodies_fail 0
no_type = refl

smallest_types : (nodes : List CertNode) → TypesHold smallest_program 0 smallest (saying nodes)
smallest_types nodes = each (TypeStands smallest_program smallest) (to.Unit ∷ []) (tt, tt)

smallest_proof : ScopeProof smallest_program 0 smallest (saying two_nodes)
smallest_proof = record {
  types = smallest_types two_nodes;
  pairs = λ q i. absurd i;
  plain = λ q i. absurd i;
  lines = λ r i. absurd i;
  nodes = record {
    number = refl;
    locals = [];
    named = refl;
    derived =
        (annotated_nodes_are_read smallest_program 0 smallest [] (annotated_lists smallest_program 0 smallest (saying two_nodes)) (λ a b h. absurd (cc)) included
        (λ e f. (λ h. same_within [] e f ((included e f).0 h), λ h. (included e f).1 (none_within e f h))) two_nodes).0 (2, refl);
  };
}

smallest_is_proved : IsProof smallest_program (saying two_nodes ∷ [])
smallest_is_proved = record { number = refl; scopes = one_scope smallest_program smallest (saying two_nodes) refl smallest_proof }

-- the first failure of what has no last node, and of what is said of no scope
last_is_unproved : IsFirstUnproved smallest_program (saying (node by.Lit 3 5 0 0 ∷ []) ∷ []) 0 Nodes 1
last_is_unproved = record {
  number = refl;
  scope = smallest;
  part = saying (node by.Lit 3 5 0 0 ∷ []);
  scope_there = refl;
  part_there = refl;
  scopes_before = λ j h. absurd (omega (arith, h));
  tests_before = (smallest_types (node by.Lit 3 5 0 0 ∷ []), (λ q i. absurd i), (λ q i. absurd i), (λ r i. absurd i));
  fails = refl;
}

none_is_unproved : IsFirstUnproved smallest_program [] 0 Scopes 0
none_is_unproved = ((λ e. absurd (cc)), refl, refl)

-- the program's own object is no type of it
own_is_unproved : IsFirstUnproved smallest_program (record (saying two_nodes) { types = Nothing ∷ Own 0 ∷ [] } ∷ []) 0 Types 1
own_is_unproved = record {
  number = refl;
  scope = smallest;
  part = record (saying two_nodes) { types = Nothing ∷ Own 0 ∷ [] };
  scope_there = refl;
  part_there = refl;
  scopes_before = λ j h. absurd (omega (arith, h));
  tests_before = tt;
  fails = record { element = to.Own 0; there = refl; fails = λ h. absurd (let l = h.1 in omega (arith, l)); before = first_stands };
}
  where
    first_stands : (j : ℕ) (t : TypeRef) → j < 1 → slice_get (to.Unit ∷ to.Own 0 ∷ []) j ≡ Some t → TypeStands smallest_program smallest t
    first_stands zero t h e = (let same : to.Unit ≡ t = cc in subst (TypeStands smallest_program smallest) same tt)
    first_stands (suc j) t h e = absurd (omega (arith, h))

------------------------------------------------------------
-- T-Sub

abbrev get : Method
get = method (codes "get") to.Int

abbrev holder : Scope
holder =
    main_of (object ∷ []) (at 4 3)
    (code.Val (at 5 5) 0 (Some (to.Named 5 [])) (code.Plain (code.New (at 5 22) 1 code.none)) (code.Last (code.Plain (code.Nothing (at 7 5)))))
    (body 1 (at 6 7) get (code.Number (at 6 27) (pos 1)) ∷ [])

abbrev holder_program : Program
holder_program = program (type_with (codes "Item") get ∷ []) (holder ∷ [])

abbrev eight_nodes : List CertNode
eight_nodes =
    node by.New 5 22 0 0 ∷ node by.Sub 5 22 1 1 ∷ node by.Val 5 5 1 0 ∷ node by.Lit 7 5 0 2 ∷ node by.Seq 5 5 2 2 ∷ node by.Body 4 3 1 0 ∷
    node by.Lit 6 27 0 3 ∷ node by.Body 6 7 1 0 ∷ []

-- what is said of it, with these pairs
abbrev holding : List CertPair → CertScope
holding pairs = record { types = Own 1 ∷ Named 5 [] ∷ Nothing ∷ Int ∷ []; pairs = pairs; plain = []; locals = 1 ∷ []; nodes = eight_nodes }

-- the object is an item, and so its number a number
abbrev two_pairs : List CertPair
two_pairs = pair 0 1 ∷ pair 3 3 ∷ []

holder_read : nodes_read holder_program 0 holder (holding two_pairs) ≡ bodies_stand 8 []
holder_read = refl

-- without its pair T-Sub fails, and without a type for the `val` the first node
pair_wanting : nodes_read holder_program 0 holder (holding []) ≡ bodies_fail 1
pair_wanting = refl

local_wanting : nodes_read holder_program 0 holder (record (holding two_pairs) { locals = [] }) ≡ bodies_fail 0
local_wanting = refl

holder_types : TypesHold holder_program 0 holder (holding two_pairs)
holder_types = each (TypeStands holder_program holder) (types_of (holding two_pairs)) ((omega arith, omega arith), ((omega arith, refl, (λ e i. absurd i)), (tt, (tt, tt))))

-- the methods of an item, by the pairs that are listed
abbrev Covered : Signature TypeRef → Type 0
Covered m = HasCover TypeRef (methods_of holder_program 0) IsObject (IsWithin (bounds_of holder_program 0)) (annotated_pairs (holding two_pairs)) (find_method m.name (methods_of holder_program 0 (to.Own 1))) m

covered : (m : Signature TypeRef) → In m (methods_of holder_program 0 (to.Named 5 [])) → Covered m
covered m i = elim i [
  | inl e ↦ subst Covered e (record { params = tt; effect = λ a j. absurd j; result = inr (inl refl) })
  | inr z ↦ absurd z
]

holder_pairs : PairsHold holder_program 0 holder (holding two_pairs)
holder_pairs = each (PairStands holder_program 0 holder (holding two_pairs)) two_pairs ((to.Own 1, to.Named 5 [], refl, refl, inr (tt, tt, covered)), ((to.Int, to.Int, refl, refl, inl (refl, λ o. o)), tt))

holder_proof : ScopeProof holder_program 0 holder (holding two_pairs)
holder_proof = record {
  types = holder_types;
  pairs = holder_pairs;
  plain = λ q i. absurd i;
  lines = λ r i. absurd i;
  nodes = record {
    number = refl;
    locals = to.Named 5 [] ∷ [];
    named = refl;
    derived =
        (annotated_nodes_are_read holder_program 0 holder (to.Named 5 [] ∷ []) (annotated_lists holder_program 0 holder (holding two_pairs))
        (λ a b h. listed holder_program 0 holder (holding two_pairs) holder_pairs a b ((pair_listed (annotated_pairs (holding two_pairs)) a b).0 h)) included
        (λ e f. (λ h. same_within [] e f ((included e f).0 h), λ h. (included e f).1 (none_within e f h))) eight_nodes).0 (8, refl);
  };
}

holder_is_proved : IsProof holder_program (holding two_pairs ∷ [])
holder_is_proved = record { number = refl; scopes = one_scope holder_program holder (holding two_pairs) refl holder_proof }

------------------------------------------------------------
-- Nodes that are those of what is written over the types of the `val`s

-- a node says a step that is no T-Sub
says : (c : Lists TypeRef) (n : CertNode) (st : Step TypeRef) → says_rule st.rule st.place st.parts n ≡ true → SaysType c n.typ st.typ → n.effect ≡ st.effect → st.below ≡ None → SaysStep c n st
says c n st e t f below = record { rule = e; typ = t; effect = f; pair = λ a b g h. absurd (cc); stands = λ a g. absurd (cc) }

smallest_written : IsWrittenOver smallest_program 0 smallest (saying two_nodes) []
smallest_written = record { named = refl; written = (says _ _ _ refl refl refl refl, (says _ _ _ refl refl refl refl, refl)) }

-- it has no `val`, and passes over no types
smallest_passes : AreTypesOfVals smallest_program 0 smallest []
smallest_passes = record {
  nodes = (record { expected = None; spot = refl; stands = ([], record { derivation = Result (T-Lit (at 3 5)); derives = (to.Unit, refl, refl, refl, refl) }, (λ a j. absurd j)); settles = tt }, tt);
  size = refl;
  stand = λ t i. absurd i;
}

-- T-Sub stands above the initialiser, whose own type is another than the `val`'s
item_above : SaysStep (annotated_lists holder_program 0 holder (holding two_pairs)) (node by.Sub 5 22 1 1) (sub_step (at 5 22) (to.Own 1) (to.Named 5 []) [])
item_above = record { rule = refl; typ = refl; effect = refl; pair = pair_there; stands = λ a g. refl }
  where
    pair_there : (a b : TypeRef) → ◌≡◌ {A = Option TypeRef} (Some (to.Own 1)) (Some a) → ◌≡◌ {A = Option TypeRef} (Some (to.Named 5 [])) (Some b) →
        (annotated_lists holder_program 0 holder (holding two_pairs)).listed a b ≡ true
    pair_there a b g h =
        let left : to.Own 1 ≡ a = cc in
        let right : to.Named 5 [] ≡ b = cc in
        let there = (annotated_lists holder_program 0 holder (holding two_pairs)).listed in
        subst (λ v. there v b ≡ true) left (subst (λ v. there (to.Own 1) v ≡ true) right refl)

holder_written : IsWrittenOver holder_program 0 holder (holding two_pairs) (to.Named 5 [] ∷ [])
holder_written = record {
  named = refl;
  written = (
    says _ _ _ refl refl refl refl,
    (
      item_above,
      (
        says _ _ _ refl refl refl refl,
        (
          says _ _ _ refl refl refl refl,
          (says _ _ _ refl refl refl refl, (says _ _ _ refl refl refl refl, (says _ _ _ refl refl refl refl, (says _ _ _ refl refl refl refl, refl)))),
        ),
      ),
    ),
  );
}

-- these are the types that are found one after the other
smallest_canonical : IsCanonical smallest_program 0 smallest (saying two_nodes)
smallest_canonical = ([], refl, smallest_written)

holder_canonical : IsCanonical holder_program 0 holder (holding two_pairs)
holder_canonical = (to.Named 5 [] ∷ [], refl, holder_written)
