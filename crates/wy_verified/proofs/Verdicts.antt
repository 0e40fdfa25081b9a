-- A file has one verdict: it is verified, or it has one first failure.
use Rattle.std.proofs.Common.{◌⊎◌, ◌≡◌, ℕ, zero, suc, ◌<◌, List, [], ◌∷◌, get_or, inl, inr, ⊎_elim, refl, sym, ap, ◌∙◌}
use Rattle.std.proofs.Common.{subst, Option, Some, None, arith}
use Rattle.std.specs.Prelude.{slice_get}
use Rattle.wy_code.specs.declared.code.Argument as code_argument
use Rattle.wy_code.specs.declared.code.Body as code_body
use Rattle.wy_code.specs.declared.code.Instance as code_instance
use Rattle.wy_code.specs.declared.instruction.Placed.{Placed}
use Rattle.wy_image.specs.declared.file.ImageFile.{ImageFile}
use Rattle.wy_image.specs.declared.typing.Bounds.{Bounds}
use Rattle.wy_verified.specs.CodeOf.{image_of}
use Rattle.wy_verified.specs.FileLaws.{VerifiedFileDoesNotFail, IsSameFailure, FileFailsOnce}
use Rattle.wy_verified.specs.Images.{Image}
use Rattle.wy_verified.specs.Kinds.{Kind, value_kinds}
use Rattle.wy_verified.specs.Passing.{Jumped, jumped}
use Rattle.wy_verified.specs.Visiting.{Tests, falls, VisitsFrom, FailsVisit}
use Rattle.wy_verified.specs.Rules.{Known, Owner, at_first}
use Rattle.wy_verified.specs.Verifying.{Subject, subjects_of, ArgumentsPass, ArgumentsFail, owner_of, held_by}
use Rattle.wy_verified.specs.Verifying.{WalkPasses, WalkFails, BodiesPass, BodiesFail, SubjectPasses, SubjectFails}
use Rattle.wy_verified.specs.Verifying.{SubjectsPass, SubjectsFail}
use Rattle.wy_verified.proofs.Lists.{some_same}
use Rattle.wy_verified.specs.Walking.{VerifyRule, Range, Argument, Flow, State, Depth, Types, Effect, rule_number}
use Rattle.wy_verified.specs.Walking.{Before}

-- the rules, each at the place of its number
abbrev rules : List VerifyRule
rules = Range ∷ Argument ∷ Flow ∷ State ∷ Depth ∷ Types ∷ Effect ∷ []

rule_at : (r : VerifyRule) → get_or rules (rule_number r) Range ≡ r
rule_at Range = refl
rule_at Argument = refl
rule_at Flow = refl
rule_at State = refl
rule_at Depth = refl
rule_at Types = refl
rule_at Effect = refl

three : (m n : ℕ) → (m < n) ⊎ (n < m) ⊎ (m ≡ n)
three zero zero = inr (inr refl)
three zero (suc n) = inl (omega arith)
three (suc m) zero = inr (inl (omega arith))
three (suc m) (suc n) =
    elim (three m n) [
      | inl h ↦ inl (omega (arith, h))
      | inr h ↦ inr
          (elim h [ inl g ↦ inl (omega (arith, g)) | inr e ↦ inr (ap suc e) ])
    ]

module _ (image : Image) where
  module _ (x : ℕ) (owner : Owner) (body : code_body.Body) (bounds : Bounds) (held : ℕ) where
    apart : (ps : List Placed) (at : ℕ) (o : Option Known) (js : List Jumped) (rule : VerifyRule) (place : ℕ) →
        VisitsFrom image x owner body bounds held at o js ps →
        FailsVisit image x owner body bounds held at o js ps rule place → ⊥
    apart [] at o js rule place h f = f
    apart (p ∷ ps) at o js rule place h f =
        let i = p.instruction in
        let same : h.0 ≡ f.0 = some_same (sym h.1 ∙ f.1) in
        let tests =
        subst (λ (k : Known). (r : VerifyRule) → Tests image x owner body bounds held r at o k js i) same h.2 in
        let rest =
        subst (λ (k : Known). VisitsFrom image x owner body bounds held (suc at)
        (falls image x owner body bounds held k i) (jumped i k js) ps) same h.3 in
        ⊎_elim (λ g. g.2 (tests rule)) (λ g. apart ps (suc at) (falls image x owner body bounds held f.0 i)
        (jumped i f.0 js) rule place rest g.1) f.2

    same_rule : (P : VerifyRule → Type 0) (r s : VerifyRule) → ((q : VerifyRule) → Before q r → P q) → (P r → ⊥) →
        ((q : VerifyRule) → Before q s → P q) → (P s → ⊥) → r ≡ s
    same_rule P r s before not_r earlier not_s =
        elim (three (rule_number r) (rule_number s)) [
          | inl lt ↦ absurd (not_r (earlier r lt))
          | inr h ↦ elim h [
            | inl lt ↦ absurd (not_s (before s lt))
            | inr e ↦ sym (rule_at r)
                ∙ ap (λ n. get_or rules n Range) e ∙ rule_at s
          ]
        ]

    once : (ps : List Placed) (at : ℕ) (o : Option Known) (js : List Jumped) (rule other : VerifyRule) (place to : ℕ) →
        FailsVisit image x owner body bounds held at o js ps rule place →
        FailsVisit image x owner body bounds held at o js ps other to → (rule ≡ other) × (place ≡ to)
    once [] at o js rule other place to f g = absurd f
    once (p ∷ ps) at o js rule other place to f g =
        of (some_same (sym g.1 ∙ f.1)) (λ k h e. once ps (suc at) (falls image x owner body bounds held k p.instruction)
        (jumped p.instruction k js) rule other place to h e)
      where
        Here : Known → VerifyRule → ℕ → Type 0
        Here k r at' =
            (at' ≡ at) × ((q : VerifyRule) → Before q r →
            Tests image x owner body bounds held q at o k js p.instruction) ×
            (Tests image x owner body bounds held r at o k js p.instruction → ⊥)

        Later : Known → VerifyRule → ℕ → Type 0
        Later k r at' =
            ((q : VerifyRule) → Tests image x owner body bounds held q at o k js p.instruction) ×
            FailsVisit image x owner body bounds held (suc at) (falls image x owner body bounds held k p.instruction)
            (jumped p.instruction k js) ps r at'

        both : (k : Known) → ((k : Known) → FailsVisit image x owner body bounds held (suc at)
            (falls image x owner body bounds held k p.instruction) (jumped p.instruction k js) ps rule place →
            FailsVisit image x owner body bounds held (suc at) (falls image x owner body bounds held k p.instruction)
            (jumped p.instruction k js) ps other to → (rule ≡ other) × (place ≡ to)) →
            Here k rule place ⊎ Later k rule place → Here k other to ⊎ Later k other to → (rule ≡ other) × (place ≡ to)
        both k later (inl a) (inl b) = (
          same_rule (λ r. Tests image x owner body bounds held r at o k js p.instruction) rule other a.1 a.2 b.1 b.2,
          a.0 ∙ sym b.0,
        )
        both k later (inl a) (inr b) = absurd (a.2 (b.0 rule))
        both k later (inr a) (inl b) = absurd (b.2 (a.0 other))
        both k later (inr a) (inr b) = later k a.1 b.1

        of : g.0 ≡ f.0 → ((k : Known) → FailsVisit image x owner body bounds held (suc at)
            (falls image x owner body bounds held k p.instruction) (jumped p.instruction k js) ps rule place →
            FailsVisit image x owner body bounds held (suc at) (falls image x owner body bounds held k p.instruction)
            (jumped p.instruction k js) ps other to → (rule ≡ other) × (place ≡ to)) →
            (rule ≡ other) × (place ≡ to)
        of same later = both f.0 later f.2 (subst (λ (k : Known). Here k other to ⊎ Later k other to) same g.2)

  -- ---- arguments

  arguments_apart : (n : ℕ) (xs : List code_argument.Argument) (ks : List Kind) (at : ℕ) → ArgumentsPass image xs ks →
      ArgumentsFail image n xs ks at → ⊥
  arguments_apart n [] ks at h f = f
  arguments_apart n (a ∷ more) [] at h f = f
  arguments_apart n (a ∷ more) (k ∷ ks) at h (inl f) = f.1 h.0
  arguments_apart n (a ∷ more) (k ∷ ks) at h (inr f) = arguments_apart (suc n) more ks at h.1 f.1

  arguments_once : (n : ℕ) (xs : List code_argument.Argument) (ks : List Kind) (at to : ℕ) →
      ArgumentsFail image n xs ks at → ArgumentsFail image n xs ks to → at ≡ to
  arguments_once n [] ks at to f g = absurd f
  arguments_once n (a ∷ more) [] at to f g = absurd f
  arguments_once n (a ∷ more) (k ∷ ks) at to (inl f) (inl g) = f.0 ∙ sym g.0
  arguments_once n (a ∷ more) (k ∷ ks) at to (inl f) (inr g) = absurd (f.1 g.0)
  arguments_once n (a ∷ more) (k ∷ ks) at to (inr f) (inl g) = absurd (g.1 f.0)
  arguments_once n (a ∷ more) (k ∷ ks) at to (inr f) (inr g) = arguments_once (suc n) more ks at to f.1 g.1

  -- ---- bodies

  first_fails : (x : ℕ) (o : Owner) (b : code_body.Body) (s : Bounds) (held : ℕ) (rule : VerifyRule) (at : ℕ) →
      b.instructions ≡ [] → FailsVisit image x o b s held 0 (Some at_first) [] b.instructions rule at → ⊥
  first_fails x o b s held rule at e f =
      subst (λ (ps : List Placed). FailsVisit image x o b s held 0 (Some at_first) [] ps rule at) e f

  walk_apart : (x : ℕ) (i : code_instance.Instance) (o : Option Owner) (b : Option code_body.Body) (s : Bounds)
      (rule : VerifyRule) (at : ℕ) → WalkPasses image x i o b s → WalkFails image x i o b s rule at → ⊥
  walk_apart x i None b s rule at h f = f
  walk_apart x i (Some o) None s rule at h f = f
  walk_apart x i (Some o) (Some b) s rule at h (inl f) = h.0 f.0
  walk_apart x i (Some o) (Some b) s rule at h (inr f) =
      apart x o b s (held_by image x i o) b.instructions 0 (Some at_first) [] rule at h.1 f

  walk_once : (x : ℕ) (i : code_instance.Instance) (o : Option Owner) (b : Option code_body.Body) (s : Bounds)
      (rule other : VerifyRule) (at to : ℕ) → WalkFails image x i o b s rule at →
      WalkFails image x i o b s other to → (rule ≡ other) × (at ≡ to)
  walk_once x i None b s rule other at to f g = absurd f
  walk_once x i (Some o) None s rule other at to f g = absurd f
  walk_once x i (Some o) (Some b) s rule other at to (inl f) (inl g) = (f.1 ∙ sym g.1, f.2 ∙ sym g.2)
  walk_once x i (Some o) (Some b) s rule other at to (inl f) (inr g) =
      absurd (first_fails x o b s (held_by image x i o) other to f.0 g)
  walk_once x i (Some o) (Some b) s rule other at to (inr f) (inl g) =
      absurd (first_fails x o b s (held_by image x i o) rule at g.0 f)
  walk_once x i (Some o) (Some b) s rule other at to (inr f) (inr g) =
      once x o b s (held_by image x i o) b.instructions 0 (Some at_first) [] rule other at to f g

  bodies_apart : (x : ℕ) (u : Subject) (n : ℕ) (ss : List Bounds) (rule : VerifyRule) (body at : ℕ) →
      BodiesPass image x u ss → BodiesFail image x u n ss rule body at → ⊥
  bodies_apart x u n [] rule body at h f = f
  bodies_apart x u n (s ∷ ss) rule body at h (inl f) =
      walk_apart x u.instance (owner_of u.scope s.body) (slice_get image.code.bodies s.body) s rule at h.0 f.1
  bodies_apart x u n (s ∷ ss) rule body at h (inr f) = bodies_apart x u (suc n) ss rule body at h.1 f.1

  bodies_once : (x : ℕ) (u : Subject) (n : ℕ) (ss : List Bounds) (rule other : VerifyRule) (body also at to : ℕ) →
      BodiesFail image x u n ss rule body at → BodiesFail image x u n ss other also to →
      (rule ≡ other) × (body ≡ also) × (at ≡ to)
  bodies_once x u n [] rule other body also at to f g = absurd f
  bodies_once x u n (s ∷ ss) rule other body also at to (inl f) (inl g) =
      let w = walk_once x u.instance (owner_of u.scope s.body) (slice_get image.code.bodies s.body) s rule other at to
      f.1 g.1 in (w.0, f.0 ∙ sym g.0, w.1)
  bodies_once x u n (s ∷ ss) rule other body also at to (inl f) (inr g) =
      absurd (walk_apart x u.instance (owner_of u.scope s.body) (slice_get image.code.bodies s.body) s rule at g.0 f.1)
  bodies_once x u n (s ∷ ss) rule other body also at to (inr f) (inl g) =
      absurd (walk_apart x u.instance (owner_of u.scope s.body) (slice_get image.code.bodies s.body) s other to f.0 g.1)
  bodies_once x u n (s ∷ ss) rule other body also at to (inr f) (inr g) =
      bodies_once x u (suc n) ss rule other body also at to f.1 g.1

  -- ---- instances

  unit_apart : (x : ℕ) (u : Subject) (rule : VerifyRule) (body at : ℕ) → SubjectPasses image x u →
      SubjectFails image x u rule body at → ⊥
  unit_apart x u rule body at h (inl f) = arguments_apart 0 u.instance.arguments (value_kinds image x 0) at h.0 f.2
  unit_apart x u rule body at h (inr f) = bodies_apart x u 0 u.typing.bodies rule body at h.1 f.1

  unit_once : (x : ℕ) (u : Subject) (rule other : VerifyRule) (body also at to : ℕ) →
      SubjectFails image x u rule body at → SubjectFails image x u other also to → (rule ≡ other) × (body ≡ also) ×
      (at ≡ to)
  unit_once x u rule other body also at to (inl f) (inl g) =
      (f.0 ∙ sym g.0, f.1 ∙ sym g.1, arguments_once 0 u.instance.arguments (value_kinds image x 0) at to f.2 g.2)
  unit_once x u rule other body also at to (inl f) (inr g) =
      absurd (arguments_apart 0 u.instance.arguments (value_kinds image x 0) at g.0 f.2)
  unit_once x u rule other body also at to (inr f) (inl g) =
      absurd (arguments_apart 0 u.instance.arguments (value_kinds image x 0) to f.0 g.2)
  unit_once x u rule other body also at to (inr f) (inr g) =
      bodies_once x u 0 u.typing.bodies rule other body also at to f.1 g.1

  units_apart : (from : ℕ) (us : List Subject) (rule : VerifyRule) (x body at : ℕ) → SubjectsPass image from us →
      SubjectsFail image from us rule x body at → ⊥
  units_apart from [] rule x body at h f = f
  units_apart from (u ∷ us) rule x body at h (inl f) = unit_apart from u rule body at h.0 f.1
  units_apart from (u ∷ us) rule x body at h (inr f) = units_apart (suc from) us rule x body at h.1 f.1

  units_once : (from : ℕ) (us : List Subject) (rule other : VerifyRule) (x y body also at to : ℕ) →
      SubjectsFail image from us rule x body at → SubjectsFail image from us other y also to →
      IsSameFailure rule other x y body also at to
  units_once from [] rule other x y body also at to f g = absurd f
  units_once from (u ∷ us) rule other x y body also at to (inl f) (inl g) =
      let w = unit_once from u rule other body also at to f.1 g.1 in
      record { rule_is = w.0; instance_is = f.0 ∙ sym g.0; body_is = w.1; place_is = w.2 }
  units_once from (u ∷ us) rule other x y body also at to (inl f) (inr g) =
      absurd (unit_apart from u rule body at g.0 f.1)
  units_once from (u ∷ us) rule other x y body also at to (inr f) (inl g) =
      absurd (unit_apart from u other also to f.0 g.1)
  units_once from (u ∷ us) rule other x y body also at to (inr f) (inr g) =
      units_once (suc from) us rule other x y body also at to f.1 g.1

pub verified_file_does_not_fail : (file : ImageFile) → VerifiedFileDoesNotFail file
verified_file_does_not_fail file rule x body at v (inl f) = f.0 v.0
verified_file_does_not_fail file rule x body at v (inr f) =
    units_apart (image_of file) 0 (subjects_of file) rule x body at v.1 f.1

pub file_fails_once : (file : ImageFile) → FileFailsOnce file
file_fails_once file rule other x y b c at to (inl f) (inl g) =
    record { rule_is = f.1 ∙ sym g.1; instance_is = f.2 ∙ sym g.2; body_is = f.3 ∙ sym g.3; place_is = f.4 ∙ sym g.4 }
file_fails_once file rule other x y b c at to (inl f) (inr g) = absurd (f.0 g.0)
file_fails_once file rule other x y b c at to (inr f) (inl g) = absurd (g.0 f.0)
file_fails_once file rule other x y b c at to (inr f) (inr g) =
    units_once (image_of file) 0 (subjects_of file) rule other x y b c at to f.1 g.1
