-- From typed images to verified ones, over whole images.
use Rattle.std.proofs.Common.{ℕ, suc, List, [], ◌∷◌, length, inl, inr, Option, Some, None}
use Rattle.wy_code.specs.declared.code.Body.{Body}
use Rattle.wy_code.specs.declared.instruction.Placed.{Placed}
use Rattle.wy_image.specs.declared.typing.Bounds.{Bounds}
use Rattle.wy_verified.specs.Images.{Image}
use Rattle.wy_verified.specs.Rules.{Known, Owner, Judgement, BodyFollows, BodyIs, IsVerifiedBy, at_first}
use Rattle.wy_verified.specs.Walking.{VerifyRule}
use Rattle.wy_verified.specs.Passing.{Jumped, jumped, next, PassesFrom, FailsFrom, BodyPasses}
use Rattle.wy_verified.specs.Stating.{BodyStates}
use Rattle.wy_verified.specs.Laws.{TypedImagePasses, PassingImageIsVerified, FailingBodyDoesNotPass}
use Rattle.wy_verified.proofs.Walked.{body_follows}
use Rattle.wy_verified.proofs.Passed.{body_walks}
use Rattle.wy_verified.proofs.Composing.{fits_trans}
use Rattle.wy_verified.proofs.Sharper.{body_passes}

module _ (J K : Judgement) (image : Image)
    (carry : (x : ℕ) (owner : Owner) (body : Body) (bounds : Bounds) (held : ℕ) → J image x owner body bounds held → K image x owner body bounds held) where
  body_carried : (x : ℕ) (owner : Owner) (b held : ℕ) → BodyIs J image x owner b held → BodyIs K image x owner b held
  body_carried x owner b held h =
      record {
        body = h.body;
        bounds = h.bounds;
        there = h.there;
        is_stated = h.is_stated;
        follows =
            carry x owner h.body h.bounds held h.follows;
      }

  carried : IsVerifiedBy J image → IsVerifiedBy K image
  unfolding body_carried
  carried v = record {
    each = λ x i e. let h = v.each x i e in record {
      scope = h.scope;
      there = h.there;
      own = h.own;
      is_own = h.is_own;
      values = h.values;
      arguments = h.arguments;
      start = body_carried x None h.scope.start (length i.arguments) h.start;
      no_parameters = h.no_parameters;
      methods = λ l literal m f g. body_carried x (Some l) m.body _ (h.methods l literal m f g);
    };
    main = v.main;
  }

pub typed_image_passes : (image : Image) → TypedImagePasses image
typed_image_passes image v =
    carried BodyStates BodyPasses image (λ x owner body bounds held h. body_passes image (fits_trans image) x owner body
    bounds held h) v

pub passing_image_is_verified : (image : Image) → PassingImageIsVerified image
passing_image_is_verified image v =
    carried BodyPasses BodyFollows image (λ x owner body bounds held h. body_follows image x owner body bounds held
    (body_walks image x owner body bounds held h)) v

module _ (image : Image) (x : ℕ) (owner : Owner) (body : Body) (bounds : Bounds) (held : ℕ) where
  fails_apart : (ps : List Placed) (at : ℕ) (o : Option Known) (js : List Jumped) (rule : VerifyRule) (place : ℕ) →
      PassesFrom image x owner body bounds held at o js ps →
      FailsFrom image x owner body bounds held at o js ps rule place → ⊥
  fails_apart [] at o js rule place h f = f
  fails_apart (p ∷ ps) at None js rule place h f = f
  fails_apart (p ∷ ps) at (Some known) js rule place h (inl f) = f.2 (h.0 rule)
  fails_apart (p ∷ ps) at (Some known) js rule place h (inr f) =
      fails_apart ps (suc at) (next image x owner body bounds held at known js p.instruction)
      (jumped p.instruction known js) rule place h.1 f.1

pub failing_body_does_not_pass : (image : Image) → FailingBodyDoesNotPass image
failing_body_does_not_pass image x owner body bounds held rule place f h =
    fails_apart image x owner body bounds held body.instructions 0 (Some at_first) [] rule place h.all f
