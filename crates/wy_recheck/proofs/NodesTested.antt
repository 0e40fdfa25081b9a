-- Tests by which nodes are read, as code makes them and as they are said.
use Rattle.std.proofs.Common.{◌≡◌, ◌↔◌, ℕ, ◌+◌, ◌<◌, ◌≤◌, List, [], ◌∷◌, length, get_or, drop, refl, sym, ap, ◌∙◌, subst, Option, Some, None, Bool as Truth, true, false, arith}
use Rattle.std.specs.Prelude.{slice_get, ◌≢◌}
use Rattle.wy_effects.specs.EffSet.{IsSet}
use Rattle.wy_text.specs.Members.{In}
use Rattle.wy_text.proofs.Lists.{In-slice_get}
use Rattle.wy_effects.proofs.Walks.{drop_none}
use Rattle.wy_types.specs.declared.types.TypeRef.{TypeRef}
use Rattle.wy_types.specs.declared.types.TypeRef.TheVariants.{At}
use Rattle.wy_types.specs.Program.{Program, Scope}
use Rattle.wy_types.specs.Types.{erased}
use Rattle.wy_types.specs.Core.{IsCore}
use Rattle.wy_rules.specs.Readings.{Reading}
use Rattle.wy_rules.specs.Canonical.{both, same_numbers}
use Rattle.wy_rules.proofs.SameTypes.{both_right, types_are_told_apart}
use Rattle.wy_cert.specs.declared.certificate.CertScope.{CertScope}
use Rattle.wy_proving.specs.Certified.{Pair, annotated_pairs, plain_pairs, has_pair}
use Rattle.wy_proving.specs.Reading.{Lists, same_types}
use Rattle.wy_proving.specs.Proving.{ListsSay, ascends}
use Rattle.wy_recheck.specs.Standing.{StandsAs}
use Rattle.wy_recheck.specs.PairSet.{StandsFor, Tells}
use Rattle.wy_recheck.specs.Nodes.{SetStands}
use Rattle.wy_recheck.proofs.NodesPassed.{left_at}

-- two tests of one thing answer the same
pub same_answer : (b c : Truth) (P : Type 0) → (b ≡ true) ↔ P → (c ≡ true) ↔ P → b ≡ c
same_answer true c P f g = sym (g.1 (f.0 refl))
same_answer false true P f g = f.1 (g.0 refl)
same_answer false false P f g = refl

-- a test says no of what is not so
pub answers_no : (b : Truth) (P : Type 0) → (b ≡ true) ↔ P → (P → ⊥) → b ≡ false
answers_no true P f n = absurd (n (f.0 refl))
answers_no false P f n = refl

pub numbers_are : (e f : List ℕ) → (same_numbers e f ≡ true) ↔ (e ≡ f)
numbers_are e f = (
  λ h. (let same : At 0 e ≡ At 0 f = (types_are_told_apart (At 0 e) (At 0 f)).0 h in cc),
  λ h. subst (λ v. same_numbers e v ≡ true) h ((types_are_told_apart (At 0 e) (At 0 e)).1 refl),
)

-- types of another number are others
module _ (y : Reading) (same : y.Kind → y.Kind → Truth) (c : Lists y.Kind) where
  as_many : (xs zs : List y.Kind) → same_types y same c xs zs ≡ true → length xs ≡ length zs
  as_many [] [] h = refl
  as_many [] (b ∷ zs) h = absurd (cc)
  as_many (a ∷ xs) [] h = absurd (cc)
  as_many (a ∷ xs) (b ∷ zs) h = (let rest : length xs ≡ length zs = as_many xs zs (both_right (same a b) (same_types y same c xs zs) h) in omega arith)

  pub others : (xs zs : List y.Kind) → length xs ≢ length zs → false ≡ same_types y same c xs zs
  others xs zs n =
      elim (same_types y same c xs zs) as (λ b. same_types y same c xs zs ≡ b → false ≡ b) [
        | true ↦ λ h. (let e = as_many xs zs h in absurd (omega arith))
        | false ↦ λ h. refl
      ] refl

  -- the types of a place, and those behind it
  module _ (xs zs : List y.Kind) (i : ℕ) where
    pub next_same : (x z : y.Kind) → i < length xs → i < length zs → x ≡ get_or xs i x → z ≡ get_or zs i z →
        same_types y same c (drop i xs) (drop i zs) ≡ both (same x z) (same_types y same c (drop (i + 1) xs) (drop (i + 1) zs))
    next_same x z lt below is at = ap (λ l. same_types y same c l (drop i zs)) (left_at xs i x lt is) ∙ ap (same_types y same c (x ∷ drop (i + 1) xs)) (left_at zs i z below at)

    pub no_more : length xs ≤ i → length zs ≤ i → same_types y same c (drop i xs) (drop i zs) ≡ true
    no_more le none = ap (λ l. same_types y same c l (drop i zs)) (drop_none xs i le) ∙ ap (same_types y same c []) (drop_none zs i none)

-- the scope of a number in a core has few atoms
pub few : (p : Program) (k : ℕ) (s : Scope) → IsCore p → slice_get p.scopes k ≡ Some s → length s.atoms ≤ 512
few p k s core there = (core.scopes s (In-slice_get p.scopes k s there)).atoms

module _ (p : Program) (k : ℕ) (s : Scope) (c : CertScope) (say : ListsSay p k s c) where
  -- pairs are looked up by their keys
  module _ (keys : List (List ℕ)) (a b : TypeRef) (t : Truth) where
    pub annotated_listed : StandsFor keys (annotated_pairs c) → Tells keys (λ pairs. In {X = Pair} (a, b) pairs) t → t ≡ has_pair (annotated_pairs c) a b
    annotated_listed st tells = same_answer t (has_pair (annotated_pairs c) a b) (In {X = Pair} (a, b) (annotated_pairs c)) (tells (annotated_pairs c) st) (say.pair a b)

    pub plain_listed : StandsFor keys (plain_pairs c) → Tells keys (λ pairs. In {X = Pair} (erased a, erased b) pairs) t → t ≡ has_pair (plain_pairs c) (erased a) (erased b)
    plain_listed st tells = same_answer t (has_pair (plain_pairs c) (erased a) (erased b)) (In {X = Pair} (erased a, erased b) (plain_pairs c)) (tells (plain_pairs c) st) (say.bare_pair a b)

  -- a set of the scope's atoms
  pub set_stands : (e : List ℕ) (o : Option (List ℕ)) → StandsAs (IsSet (length s.atoms)) e o → SetStands (ascends 0 (length s.atoms)) e o
  set_stands e None h = answers_no (ascends 0 (length s.atoms) e) (IsSet (length s.atoms) e) (say.set e) h
  set_stands e (Some f) h = ((say.set e).1 h.1, h.0)
