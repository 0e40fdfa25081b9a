-- Lists of nodes one after the other: the first failing node of both.
use Rattle.std.proofs.Common.{ℕ, List, [], ◌∷◌, ◌++◌, inl, inr}
use Rattle.wy_text.specs.declared.fault.Fault.{Fault}
use Rattle.wy_types.specs.Program.{Program, Scope}
use Rattle.wy_rules.specs.Acceptance.{scope_reading}
use Rattle.wy_rules.specs.Nodes.{Node}
use Rattle.wy_rules.specs.Failing.{Passes, FailsBy, AllPass, FirstFailing}

module _ (p : Program) (k : ℕ) (s : Scope) (locals : List (scope_reading p k s).Kind) where
  pub pass_both : (ns ms : List Node) → AllPass p k s locals ns → AllPass p k s locals ms → AllPass p k s locals (ns ++ ms)
  pass_both [] ms a b = b
  pass_both (n ∷ ns) ms a b = (a.0, pass_both ns ms a.1 b)

  pub fail_left : (ns ms : List Node) (fault : Fault) → FirstFailing p k s locals ns fault → FirstFailing p k s locals (ns ++ ms) fault
  fail_left [] ms fault f = absurd f
  fail_left (n ∷ ns) ms fault (inl f) = inl f
  fail_left (n ∷ ns) ms fault (inr f) = inr (f.0, fail_left ns ms fault f.1)

  pub fail_right : (ns ms : List Node) (fault : Fault) → AllPass p k s locals ns → FirstFailing p k s locals ms fault → FirstFailing p k s locals (ns ++ ms) fault
  fail_right [] ms fault a f = f
  fail_right (n ∷ ns) ms fault a f = inr (a.0, fail_right ns ms fault a.1 f)

  -- a last node
  pub pass_last : (ns : List Node) (n : Node) → AllPass p k s locals ns → Passes p k s locals n → AllPass p k s locals (ns ++ n ∷ [])
  pass_last ns n a b = pass_both ns (n ∷ []) a (b, tt)

  pub fail_last : (ns : List Node) (n : Node) (fault : Fault) → AllPass p k s locals ns → FailsBy p k s locals n fault → FirstFailing p k s locals (ns ++ n ∷ []) fault
  fail_last ns n fault a f = fail_right ns (n ∷ []) fault a (inl f)
