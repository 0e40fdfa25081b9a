-- What a file comes to, one instance after the other, and an instance one body after the other.
use Rattle.std.proofs.Common.{◌≡◌, ℕ, zero, suc, ◌+◌, ◌<◌, ◌≤◌, List, [], ◌∷◌, length, drop, map, inl, inr, refl, sym, subst, Some, arith}
use Rattle.std.specs.Prelude.{slice_get}
use Rattle.wy_image.specs.declared.file.ImageFile.{ImageFile}
use Rattle.wy_image.specs.declared.typing.Bounds.{Bounds}
use Rattle.wy_verified.specs.CodeOf.{image_of}
use Rattle.wy_verified.specs.Images.{Image}
use Rattle.wy_verified.specs.Verifying.{Subject, instance_subject, main_subject, subjects_of}
use Rattle.wy_verified.specs.declared.known.VerifyRule.{VerifyRule}
use Rattle.wy_verified.proofs.Lists.{drop_at, length_more, map_length, read_there}
use Rattle.wy_verify.specs.declared.subjects.SubjectVerdict.{SubjectVerdict}
use Rattle.wy_verify.specs.declared.subjects.SubjectVerdict.TheVariants as subject
use Rattle.wy_verify.specs.declared.verdict.Verdict.TheVariants as body
use Rattle.wy_verify.specs.declared.verifying.FileVerdict.{FileVerdict}
use Rattle.wy_verify.specs.declared.verifying.FileVerdict.TheVariants as file
use Rattle.wy_verify.specs.Verdicts.{IsBodyVerdict, AreBodiesVerdict, AreSubjectsVerdict, IsFileVerdict, IsVerdictAt}

nothing_left : {X : Type 0} (xs : List X) (at : ℕ) → length xs ≤ at → drop at xs ≡ []
nothing_left [] zero h = refl
nothing_left [] (suc at) h = refl
nothing_left (p ∷ ps) zero h = absurd (omega (arith, h))
nothing_left (p ∷ ps) (suc at) h = nothing_left ps at (omega (arith, h))

------------------------------------------------------------
-- Bodies

module _ (image : Image) (x : ℕ) (u : Subject) (ss : List Bounds) where
  -- what is true before each body: what the rest comes to, all come to
  abbrev pub GoesBodies : ℕ → Type 0
  GoesBodies n = (v : SubjectVerdict) → AreBodiesVerdict image x u n (drop n ss) v → AreBodiesVerdict image x u 0 ss v

  pub bodies_first : GoesBodies 0
  bodies_first = λ v h. h

  pub bodies_on : (n : ℕ) (s : Bounds) → slice_get ss n ≡ Some s → IsBodyVerdict image x u s body.Passes →
      GoesBodies n → GoesBodies (n + 1)
  bodies_on n s e p g = subst GoesBodies (let z : suc n ≡ n + 1 = omega arith in z) more
    where
      of : (v : SubjectVerdict) → AreBodiesVerdict image x u (suc n) (drop (suc n) ss) v →
          AreBodiesVerdict image x u n (s ∷ drop (suc n) ss) v
      of subject.Passes h = (p, h)
      of (subject.Fails rule b at) h = inr (p, h)

      more : GoesBodies (suc n)
      more = λ v h. g v (subst (λ (ts : List Bounds). AreBodiesVerdict image x u n ts v) (sym (drop_at ss n s e)) (of v h))

  pub bodies_fail : (n : ℕ) (s : Bounds) (rule : VerifyRule) (at : ℕ) → slice_get ss n ≡ Some s →
      IsBodyVerdict image x u s (body.Fails rule at) → GoesBodies n →
      AreBodiesVerdict image x u 0 ss (subject.Fails rule n at)
  bodies_fail n s rule at e f g =
      g (subject.Fails rule n at)
      (subst (λ (ts : List Bounds). AreBodiesVerdict image x u n ts (subject.Fails rule n at)) (sym (drop_at ss n s e))
      (inl (refl, f)))

  pub bodies_pass : (n : ℕ) → length ss ≤ n → GoesBodies n → AreBodiesVerdict image x u 0 ss subject.Passes
  bodies_pass n le g =
      g subject.Passes (subst (λ (ts : List Bounds). AreBodiesVerdict image x u n ts subject.Passes)
      (sym (nothing_left ss n le)) tt)

------------------------------------------------------------
-- Instances

module _ (f : ImageFile) where
  -- what is true before each instance: what the rest comes to, all come to
  abbrev pub Goes : ℕ → Type 0
  Goes n = (v : FileVerdict) → AreSubjectsVerdict (image_of f) n (drop n (subjects_of f)) v → IsFileVerdict f v

  pub goes_first : Goes 0
  goes_first = λ v h. h

  pub subject_count : length (subjects_of f) ≡ length f.instances + 1
  subject_count =
      let a = length_more (map (instance_subject f) f.instances) (main_subject f) in
      let b = map_length (instance_subject f) f.instances in
      omega (arith, a, b)

  pub goes_on : (n : ℕ) → n < length f.instances + 1 → IsVerdictAt f n subject.Passes → Goes n → Goes (n + 1)
  goes_on n lt p g =
      let r = read_there (subjects_of f) n (let c = subject_count in omega (arith, lt, c)) in
      subst Goes (let z : suc n ≡ n + 1 = omega arith in z) (more r.0 r.1)
    where
      more : (u : Subject) → slice_get (subjects_of f) n ≡ Some u → Goes (suc n)
      more u e = λ v h. g v (subst (λ (us : List Subject). AreSubjectsVerdict (image_of f) n us v)
          (sym (drop_at (subjects_of f) n u e)) (of v h))
        where
          of : (v : FileVerdict) → AreSubjectsVerdict (image_of f) (suc n) (drop (suc n) (subjects_of f)) v →
              AreSubjectsVerdict (image_of f) n (u ∷ drop (suc n) (subjects_of f)) v
          of file.Passes h = (p u e, h)
          of (file.Fails rule i b at) h = inr (p u e, h)

  pub goes_fails : (n : ℕ) (rule : VerifyRule) (b at : ℕ) → n < length f.instances + 1 →
      IsVerdictAt f n (subject.Fails rule b at) → Goes n → IsFileVerdict f (file.Fails rule n b at)
  goes_fails n rule b at lt p g =
      let r = read_there (subjects_of f) n (let c = subject_count in omega (arith, lt, c)) in
      g (file.Fails rule n b at)
      (subst (λ (us : List Subject). AreSubjectsVerdict (image_of f) n us (file.Fails rule n b at))
      (sym (drop_at (subjects_of f) n r.0 r.1)) (inl (refl, p r.0 r.1)))

  pub goes_passes : (n : ℕ) → length f.instances + 1 ≤ n → Goes n → IsFileVerdict f file.Passes
  goes_passes n le g =
      g file.Passes (subst (λ (us : List Subject). AreSubjectsVerdict (image_of f) n us file.Passes)
      (sym (nothing_left (subjects_of f) n (let c = subject_count in omega (arith, le, c)))) tt)
