-- The names of a declaration: those of its members, abstract ones first, and those of its methods.
use Rattle.std.proofs.Common.{◌≡◌, ℕ, ◌+◌, List, [], ◌∷◌, ◌++◌, map, length, Bool, true, false, inl, inr, refl, sym, ap, ◌∙◌, arith, append_assoc}
use Rattle.std.specs.Prelude.{if◌then◌else◌}
use Rattle.std.proofs.lemmas.List.{map-append, append-nil}
use Rattle.wy_syntax.specs.declared.items.Member.{Member}
use Rattle.wy_syntax.specs.declared.items.Member.TheVariants.{Abstract, Bounded, Defined, Method}
use Rattle.wy_text.specs.Members.{In, Apart}
use Rattle.wy_text.proofs.Lists.{In-cases, In-left, In-right}
use Rattle.wy_types.specs.declared.types.TypeRef.{TypeRef}
use Rattle.wy_types.specs.declared.resolved.DefinedMember.{DefinedMember}
use Rattle.wy_types.specs.Signature.{Signature}
use Rattle.wy_types.specs.Types.{signature}
use Rattle.wy_symbols.specs.declared.scoping.Meaning.{Meaning}
use Rattle.wy_symbols.specs.Declarations.{texts}
use Rattle.wy_symbols.specs.Meanings.{meaning_names, abstract_names}
use Rattle.wy_symbols.specs.Atoms.{AtomScope, members_after, member_scope, abstract_member, bounded_member, defined_member, set_of}
use Rattle.wy_symbols.specs.TypeUses.{defined_members, declared_methods, member_names, method_names}
use Rattle.wy_heads.specs.Counts.{signature_count}

-- an element put into a list without repeats
pub Apart-insert : {X : Type 0} (xs : List X) (y : X) (ys : List X) → Apart (xs ++ ys) → (In y (xs ++ ys) → ⊥) → Apart (xs ++ y ∷ ys)
Apart-insert [] y ys d n = (n, d)
Apart-insert {X} (x ∷ xs) y ys d n = (
  λ i. elim (In-cases x xs (y ∷ ys) i) [
    | inl j ↦ d.0 (In-left x xs ys j)
    | inr j ↦ elim j [ inl e ↦ n (inl (sym e)) | inr l ↦ d.0 (In-right x xs ys l) ]
  ],
  Apart-insert xs y ys d.1 (λ i. n (inr i)),
)

defined_names : List Meaning → List (List ℕ)
defined_names ms = map (λ (m : DefinedMember). m.name) (defined_members ms)

split_there : (x : List ℕ) (ms : List Meaning) → In x (abstract_names ms ++ defined_names ms) → In x (meaning_names ms)
unfolding defined_names
split_there x [] i = absurd i
split_there x (m ∷ ms) i =
    let rest = split_there x ms in
    let P : Bool → Type 0 = λ b.
    In x ((if b then m.name ∷ abstract_names ms else abstract_names ms) ++ map (λ (d : DefinedMember). d.name) (if b then defined_members ms else record { name = m.name; effects = m.atoms } ∷ defined_members ms)) → In x (meaning_names (m ∷ ms)) in
    (elim (m.is_abstract) as P [
      | true ↦ λ j. elim j [ inl e ↦ inl e | inr l ↦ inr (rest l) ]
      | false ↦ λ j. elim (In-cases x (abstract_names ms) (m.name ∷ defined_names ms) j) [
        | inl l ↦ inr (rest (In-left x (abstract_names ms) (defined_names ms) l))
        | inr l ↦ elim l [ inl e ↦ inl e | inr k ↦ inr (rest (In-right x (abstract_names ms) (defined_names ms) k)) ]
      ]
    ]) i

-- members whose names differ differ when the abstract ones come first
pub split_apart : (ms : List Meaning) → Apart (meaning_names ms) → Apart (abstract_names ms ++ map (λ (m : DefinedMember). m.name) (defined_members ms))
unfolding defined_names
split_apart [] d = tt
split_apart (m ∷ ms) d =
    let rest = split_apart ms d.1 in
    let absent : In m.name (abstract_names ms ++ defined_names ms) → ⊥ = λ i. d.0 (split_there m.name ms i) in
    let P : Bool → Type 0 = λ b.
    Apart ((if b then m.name ∷ abstract_names ms else abstract_names ms) ++ map (λ (d : DefinedMember). d.name) (if b then defined_members ms else record { name = m.name; effects = m.atoms } ∷ defined_members ms)) in
    elim (m.is_abstract) as P [ true ↦ (absent, rest) | false ↦ Apart-insert (abstract_names ms) m.name (defined_names ms) rest absent ]

-- the members' names in their order
pub names_after : (before : List Meaning) (k : ℕ) (ms : List Member) → meaning_names (members_after before k ms) ≡ meaning_names before ++ texts (member_names ms)
names_after before k [] = sym (append-nil (meaning_names before))
names_after before k (Abstract n ∷ ms) =
    let m = abstract_member n.text k in
    names_after (before ++ m ∷ []) (k + 1) ms ∙ ap (λ l. l ++ texts (member_names ms)) (map-append (λ (m : Meaning). m.name) before (m ∷ []))
    ∙ append_assoc (meaning_names before) (n.text ∷ []) (texts (member_names ms))
names_after before k (Bounded n set ∷ ms) =
    let m = bounded_member n.text k (set_of (member_scope before) set) in
    names_after (before ++ m ∷ []) (k + 1) ms ∙ ap (λ l. l ++ texts (member_names ms)) (map-append (λ (m : Meaning). m.name) before (m ∷ []))
    ∙ append_assoc (meaning_names before) (n.text ∷ []) (texts (member_names ms))
names_after before k (Defined n set ∷ ms) =
    let m = defined_member n.text (set_of (member_scope before) set) in
    names_after (before ++ m ∷ []) k ms ∙ ap (λ l. l ++ texts (member_names ms)) (map-append (λ (m : Meaning). m.name) before (m ∷ []))
    ∙ append_assoc (meaning_names before) (n.text ∷ []) (texts (member_names ms))
names_after before k (Method g ∷ ms) = names_after before k ms

-- the methods' names, and how many they are
module _ (s : AtomScope) where
  pub methods_names : (ms : List Member) → map (λ (m : Signature TypeRef). m.name) (map signature (declared_methods s ms)) ≡ texts (method_names ms)
  methods_names [] = refl
  methods_names (Abstract n ∷ ms) = methods_names ms
  methods_names (Bounded n set ∷ ms) = methods_names ms
  methods_names (Defined n set ∷ ms) = methods_names ms
  methods_names (Method g ∷ ms) = ap (λ l. g.name.text ∷ l) (methods_names ms)

  pub methods_count : (ms : List Member) → length (declared_methods s ms) ≡ signature_count ms
  methods_count [] = refl
  methods_count (Abstract n ∷ ms) = methods_count ms
  methods_count (Bounded n set ∷ ms) = methods_count ms
  methods_count (Defined n set ∷ ms) = methods_count ms
  methods_count (Method g ∷ ms) = (let r = methods_count ms in omega (arith, r))
