-- What a test gave, or that it fails, as it was told.
use Rattle.std.proofs.Common.{◌≡◌, sym, subst, Result, Ok, Err}
use Rattle.std.specs.Prelude.{IfOk, IfErr, OnOk}
use Rattle.wy_proving.specs.declared.proof.CertTest.{CertTest}
use Rattle.wy_recheck.specs.declared.failure.Failure.{Failure}
use Rattle.wy_recheck.specs.declared.rechecking.Stop.{Stop}
use Rattle.wy_recheck.specs.Rechecked.{stop_of, IsTold}

module _ {X : Type 0} (test : CertTest) where
  -- what holds of what it gave
  pub given_has : (given : Result X Failure) (result : Result X Stop) (x : X) (Q : X → Type 0) → IsTold test given result → result ≡ Ok x → IfOk given Q → Q x
  given_has (Ok y) result x Q told e h = (let same : y ≡ x = cc in subst Q same h)
  given_has (Err f) result x Q told e h = absurd (cc)

  -- what holds where it gave something
  pub given_holds : (given : Result X Failure) (result : Result X Stop) (x : X) (P : Type 0) → IsTold test given result → result ≡ Ok x → OnOk given P → P
  given_holds (Ok y) result x P told e h = h
  given_holds (Err f) result x P told e h = absurd (cc)

  -- why it fails
  pub given_fails : (given : Result X Failure) (result : Result X Stop) (stop : Stop) (F : Failure → Type 0) (G : Stop → Type 0) → IsTold test given result → result ≡ Err stop → IfErr given F → ((f : Failure) → F f → G (stop_of test f)) → G stop
  given_fails (Ok y) result stop F G told e h to = absurd (cc)
  given_fails (Err f) result stop F G told e h to = (let same : stop_of test f ≡ stop = cc in subst G same (to f h))

  -- .. of what is told last
  pub told_holds : (given : Result X Failure) (result : Result X Stop) (P Q : Type 0) → IsTold test given result → OnOk given P → (P → Q) → OnOk result Q
  told_holds (Ok x) result P Q told h to = subst (λ r. OnOk r Q) (sym told) (to h)
  told_holds (Err f) result P Q told h to = subst (λ r. OnOk r Q) (sym told) tt

  pub told_fails : (given : Result X Failure) (result : Result X Stop) (F : Failure → Type 0) (G : Stop → Type 0) → IsTold test given result → IfErr given F → ((f : Failure) → F f → G (stop_of test f)) → IfErr result G
  told_fails (Ok x) result F G told h to = subst (λ r. IfErr r G) (sym told) tt
  told_fails (Err f) result F G told h to = subst (λ r. IfErr r G) (sym told) (to f h)
