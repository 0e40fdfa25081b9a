-- What holds where nodes are read: of the node of a form, of the T-Subs after it, and of what is read after a part.
use Rattle.std.proofs.Common.{◌≡◌, ℕ, ◌+◌, List, [], ◌∷◌, refl, ap, subst, Option, Some, None, Bool as Truth, true, false}
use Rattle.std.specs.Prelude.{nat_eq, if◌then◌else◌}
use Rattle.wy_text.specs.declared.fault.Place.{Place}
use Rattle.wy_rules.specs.Readings.{Reading, IsBelow}
use Rattle.wy_rules.specs.Canonical.{both, found_type}
use Rattle.wy_rules.proofs.SameTypes.{both_left, both_right}
use Rattle.wy_cert.specs.declared.certificate.Rule.{Rule}
use Rattle.wy_cert.specs.declared.certificate.Rule.TheVariants as by
use Rattle.wy_cert.specs.declared.certificate.CertNode.{CertNode}
use Rattle.wy_proving.specs.Steps.{step, sub_step}
use Rattle.wy_proving.specs.Reading.{Lists, Part, part_stands, part_fails, Parts, parts_stand, parts_fail, part_then, parts_then, more_parts, Bodies, bodies_stand, bodies_fail, bodies_then, block_then, values_then, SaysStep, says_rule, says_sub, says_untyped, says_typed, is_found, same_types, is_below, is_sub_of, read_subs, read_node, read_val, read_body_node}
use Rattle.wy_proving.proofs.Tests.{numbers_exact}

-- what is to hold of bodies before the nodes that are left, where they stand
abbrev pub BodiesHold : (List CertNode → Type 0) → Bodies → Type 0
BodiesHold H (bodies_stand at rest) = H rest
BodiesHold H (bodies_fail at) = Unit {0}

pub bodies_after : (G H : List CertNode → Type 0) (a : Bodies) (f : ℕ → List CertNode → Bodies) → BodiesHold G a → ((at : ℕ) (rest : List CertNode) → G rest → BodiesHold H (f at rest)) → BodiesHold H (bodies_then a f)
bodies_after G H (bodies_stand at rest) f h g = g at rest h
bodies_after G H (bodies_fail at) f h g = tt

module _ (y : Reading) (same : y.Kind → y.Kind → Truth) (exact : (a b : y.Kind) → same a b ≡ true → a ≡ b) (c : Lists y.Kind) where
  ------------------------------------------------------------
  -- What a node says

  pub found_is : (o : Option y.Kind) (t : y.Kind) → is_found y same c o t ≡ true → o ≡ Some t
  found_is None t e = absurd (cc)
  found_is (Some u) t e = ap (λ v. Some v) (exact u t e)

  typed_says : (rule : Rule) (place : Place) (parts : ℕ) (t : y.Kind) (e : List ℕ) (n : CertNode) → says_typed y same c rule place parts t e n ≡ true → SaysStep c n (step rule place parts (Some t) e)
  typed_says rule place parts t e n h =
      let r = both_right (says_rule rule place parts n) _ h in
      record {
        rule = both_left (says_rule rule place parts n) _ h;
        typ = found_is (c.named n.typ) t (both_left (is_found y same c (c.named n.typ) t) _ r);
        effect = numbers_exact n.effect e (both_right (is_found y same c (c.named n.typ) t) _ r);
        pair = λ a b f g. absurd (cc);
        stands = λ a f. absurd (cc);
      }

  untyped_says : (rule : Rule) (place : Place) (parts : ℕ) (e : List ℕ) (n : CertNode) → says_untyped rule place parts e n ≡ true → SaysStep c n (step rule place parts None e)
  untyped_says rule place parts e n h =
      let r = both_right (says_rule rule place parts n) _ h in
      record {
        rule = both_left (says_rule rule place parts n) _ h;
        typ = both_left (nat_eq n.typ 0) _ r;
        effect = numbers_exact n.effect e (both_right (nat_eq n.typ 0) _ r);
        pair = λ a b f g. absurd (cc);
        stands = λ a f. absurd (cc);
      }

  below_is : (t : y.Kind) (o : Option y.Kind) → is_below y same c t o ≡ true → (o ≡ Some (found_type y o)) × (c.listed t (found_type y o) ≡ true)
  below_is t None e = absurd (cc)
  below_is t (Some u) e = (refl, e)

  pub all_same : (xs zs : List y.Kind) → same_types y same c xs zs ≡ true → xs ≡ zs
  all_same [] [] e = refl
  all_same [] (b ∷ zs) e = absurd (cc)
  all_same (a ∷ xs) [] e = absurd (cc)
  all_same (a ∷ xs) (b ∷ zs) e =
      let i = exact a b (both_left (same a b) _ e) in
      let j = all_same xs zs (both_right (same a b) _ e) in
      cc

  ------------------------------------------------------------
  -- What holds of a part, of its type and effect before the nodes that are left, where it stands

  abbrev pub Holds : (y.Kind → List ℕ → List CertNode → Type 0) → Part y.Kind → Type 0
  Holds H (part_stands t e at rest) = H t e rest
  Holds H (part_fails at) = Unit {0}

  -- .. of parts
  abbrev pub AllHold : (List y.Kind → List ℕ → List CertNode → Type 0) → Parts y.Kind → Type 0
  AllHold H (parts_stand ts e at rest) = H ts e rest
  AllHold H (parts_fail at) = Unit {0}

  -- what is read after a part holds, where it does for each that stands
  pub after : (G H : y.Kind → List ℕ → List CertNode → Type 0) (a : Part y.Kind) (f : y.Kind → List ℕ → ℕ → List CertNode → Part y.Kind) → Holds G a →
      ((t : y.Kind) (e : List ℕ) (at : ℕ) (rest : List CertNode) → G t e rest → Holds H (f t e at rest)) → Holds H (part_then a f)
  after G H (part_stands t e at rest) f h g = g t e at rest h
  after G H (part_fails at) f h g = tt

  -- .. after parts
  pub after_all : (G : List y.Kind → List ℕ → List CertNode → Type 0) (H : y.Kind → List ℕ → List CertNode → Type 0) (a : Parts y.Kind) (f : List y.Kind → List ℕ → ℕ → List CertNode → Part y.Kind) → AllHold G a →
      ((ts : List y.Kind) (e : List ℕ) (at : ℕ) (rest : List CertNode) → G ts e rest → Holds H (f ts e at rest)) → Holds H (parts_then a f)
  after_all G H (parts_stand ts e at rest) f h g = g ts e at rest h
  after_all G H (parts_fail at) f h g = tt

  -- .. and other parts after one
  pub more_after : (G : y.Kind → List ℕ → List CertNode → Type 0) (H : List y.Kind → List ℕ → List CertNode → Type 0) (a : Part y.Kind) (f : y.Kind → List ℕ → ℕ → List CertNode → Parts y.Kind) → Holds G a →
      ((t : y.Kind) (e : List ℕ) (at : ℕ) (rest : List CertNode) → G t e rest → AllHold H (f t e at rest)) → AllHold H (more_parts a f)
  more_after G H (part_stands t e at rest) f h g = g t e at rest h
  more_after G H (part_fails at) f h g = tt

  -- .. and bodies after a block or values
  pub after_block : (G : y.Kind → List ℕ → List CertNode → Type 0) (H : List CertNode → Type 0) (a : Part y.Kind) (f : y.Kind → List ℕ → ℕ → List CertNode → Bodies) → Holds G a →
      ((t : y.Kind) (e : List ℕ) (at : ℕ) (rest : List CertNode) → G t e rest → BodiesHold H (f t e at rest)) → BodiesHold H (block_then a f)
  after_block G H (part_stands t e at rest) f h g = g t e at rest h
  after_block G H (part_fails at) f h g = tt

  pub after_values : (G : List y.Kind → List ℕ → List CertNode → Type 0) (H : List CertNode → Type 0) (a : Parts y.Kind) (f : List y.Kind → List ℕ → ℕ → List CertNode → Bodies) → AllHold G a →
      ((ts : List y.Kind) (e : List ℕ) (at : ℕ) (rest : List CertNode) → G ts e rest → BodiesHold H (f ts e at rest)) → BodiesHold H (values_then a f)
  after_values G H (parts_stand ts e at rest) f h g = g ts e at rest h
  after_values G H (parts_fail at) f h g = tt

  ------------------------------------------------------------
  -- Nodes

  -- the node of a `val`, and of a body
  pub val_node : (H : y.Kind → List ℕ → List CertNode → Type 0) (holds : Truth) (place : Place) (e : List ℕ) (at : ℕ) (mid : List CertNode) (f : ℕ → List CertNode → Part y.Kind) →
      (holds ≡ true → (n : CertNode) (rest : List CertNode) → mid ≡ n ∷ rest → SaysStep c n (step by.Val place 1 None e) → Holds H (f (at + 1) rest)) → Holds H (read_val y same c holds place e at mid f)
  val_node H holds place e at [] f g = tt
  val_node H holds place e at (n ∷ mid) f g = by_test (both holds (says_untyped by.Val place 1 e n)) refl
    where
      by_test : (b : Truth) → both holds (says_untyped by.Val place 1 e n) ≡ b → Holds H (if b then f (at + 1) mid else part_fails at)
      by_test false h = tt
      by_test true h = g (both_left holds _ h) n mid refl (untyped_says by.Val place 1 e n (both_right holds _ h))

  pub body_node : (H : List CertNode → Type 0) (holds : Truth) (place : Place) (parts at : ℕ) (mid : List CertNode) →
      (holds ≡ true → (n : CertNode) (rest : List CertNode) → mid ≡ n ∷ rest → SaysStep c n (step by.Body place parts None []) → H rest) → BodiesHold H (read_body_node holds place parts at mid)
  body_node H holds place parts at [] g = tt
  body_node H holds place parts at (n ∷ mid) g = by_test (both holds (says_untyped by.Body place parts [] n)) refl
    where
      by_test : (b : Truth) → both holds (says_untyped by.Body place parts [] n) ≡ b → BodiesHold H (if b then bodies_stand (at + 1) mid else bodies_fail at)
      by_test false h = tt
      by_test true h = g (both_left holds _ h) n mid refl (untyped_says by.Body place parts [] n (both_right holds _ h))

  -- each pair that is listed is a subtyping, and sets that include others are larger ones
  module _ (pair : (a b : y.Kind) → c.listed a b ≡ true → IsBelow y a b) (incl : (e f : List ℕ) → c.includes e f ≡ true → y.Includes e f) where
    -- what holds of a part holds after a T-Sub too
    abbrev pub IsRaised : (y.Kind → List ℕ → List CertNode → Type 0) → Place → Type 0
    IsRaised H place = (t u : y.Kind) (e f : List ℕ) (n : CertNode) (rest : List CertNode) → H t e (n ∷ rest) → IsBelow y t u → y.Includes e f → SaysStep c n (sub_step place t u f) → H u f rest

    subs_hold : (H : y.Kind → List ℕ → List CertNode → Type 0) (place : Place) → IsRaised H place → (t : y.Kind) (e : List ℕ) (at : ℕ) (rest : List CertNode) → H t e rest → Holds H (read_subs y same c place t e at rest)
    subs_hold H place raised t e at [] h = h
    subs_hold H place raised t e at (n ∷ rest) h =
        let u = found_type y (c.named n.typ) in
        elim (says_sub n) as (λ b. Holds H (if b then (if is_sub_of y same c place t e n then read_subs y same c place u n.effect (at + 1) rest else part_fails at) else part_stands t e at (n ∷ rest))) [
          | false ↦ h
          | true ↦ by_test (is_sub_of y same c place t e n) refl (λ g. subs_hold H place raised u n.effect (at + 1) rest g)
        ]
      where
        by_test : (b : Truth) → is_sub_of y same c place t e n ≡ b → (H (found_type y (c.named n.typ)) n.effect rest → Holds H (read_subs y same c place (found_type y (c.named n.typ)) n.effect (at + 1) rest)) →
            Holds H (if b then read_subs y same c place (found_type y (c.named n.typ)) n.effect (at + 1) rest else part_fails at)
        by_test false f go = tt
        by_test true f go =
            let u = found_type y (c.named n.typ) in
            let r = both_right (says_rule by.Sub place 1 n) _ f in
            let l = below_is t (c.named n.typ) (both_left (is_below y same c t (c.named n.typ)) _ r) in
            let g = both_right (is_below y same c t (c.named n.typ)) _ r in
            let says : SaysStep c n (sub_step place t u n.effect) = record {
              rule = both_left (says_rule by.Sub place 1 n) _ f;
              typ = l.0;
              effect = refl;
              pair = λ a b i j. (let ta : t ≡ a = cc in let ub : u ≡ b = cc in subst (λ v. c.listed v b ≡ true) ta (subst (λ v. c.listed t v ≡ true) ub l.1));
              stands = λ a i. both_left (c.stands n.effect) _ g;
            } in
            go (raised t u e n.effect n rest h (pair t u l.1) (incl e n.effect (both_right (c.stands n.effect) _ g)) says)

    -- the node of a form, and the T-Subs after it
    pub node_holds : (H : y.Kind → List ℕ → List CertNode → Type 0) (place : Place) → IsRaised H place → (holds : Truth) (rule : Rule) (parts : ℕ) (t : y.Kind) (e : List ℕ) (at : ℕ) (mid : List CertNode) →
        (holds ≡ true → (n : CertNode) (rest : List CertNode) → mid ≡ n ∷ rest → SaysStep c n (step rule place parts (Some t) e) → H t e rest) → Holds H (read_node y same c holds rule place parts t e at mid)
    node_holds H place raised holds rule parts t e at [] g = tt
    node_holds H place raised holds rule parts t e at (n ∷ mid) g = by_test (both holds (says_typed y same c rule place parts t e n)) refl
      where
        by_test : (b : Truth) → both holds (says_typed y same c rule place parts t e n) ≡ b → Holds H (if b then read_subs y same c place t e (at + 1) mid else part_fails at)
        by_test false h = tt
        by_test true h = subs_hold H place raised t e (at + 1) mid (g (both_left holds _ h) n mid refl (typed_says rule place parts t e n (both_right holds _ h)))
