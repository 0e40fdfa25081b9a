-- Nodes that say steps: of two lists of steps one after the other, and of one step.
use Rattle.std.proofs.Common.{◌≡◌, List, [], ◌∷◌, ◌++◌, refl, sym, ap, subst}
use Rattle.wy_cert.specs.declared.certificate.CertNode.{CertNode}
use Rattle.wy_proving.specs.Steps.{Step}
use Rattle.wy_proving.specs.Reading.{Lists, SaysStep, SaySteps}

module _ {K : Type 0} (c : Lists K) where
  pub says_both : (as' bs : List (Step K)) (ns mid rest : List CertNode) → SaySteps c ns as' mid → SaySteps c mid bs rest → SaySteps c ns (as' ++ bs) rest
  says_both [] bs ns mid rest h g = subst (λ v. SaySteps c v bs rest) (sym h) g
  says_both (st ∷ as') bs [] mid rest h g = absurd h
  says_both (st ∷ as') bs (n ∷ ns) mid rest h g = (h.0, says_both as' bs ns mid rest h.1 g)

  pub split : (as' bs : List (Step K)) (ns rest : List CertNode) → SaySteps c ns (as' ++ bs) rest → (mid : List CertNode) × SaySteps c ns as' mid × SaySteps c mid bs rest
  split [] bs ns rest h = (ns, refl, h)
  split (st ∷ as') bs [] rest h = absurd h
  split (st ∷ as') bs (n ∷ ns) rest h = (let r = split as' bs ns rest h.1 in (r.0, (h.0, r.1), r.2))

  pub one_node : (st : Step K) (ns rest : List CertNode) → SaySteps c ns (st ∷ []) rest → (n : CertNode) × (ns ≡ n ∷ rest) × SaysStep c n st
  one_node st [] rest h = absurd h
  one_node st (n ∷ ns) rest h = (n, ap (λ (v : List CertNode). n ∷ v) h.1, h.0)
