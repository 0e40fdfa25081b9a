-- A least effect may be written in another way: an effect that includes it and is included in it stands for it.
use Rattle.std.proofs.Common.{ℕ, List, [], inl, inr, refl, Option, Bool as Truth, true, false}
use Rattle.wy_effects.specs.EffSet.{union}
use Rattle.wy_effects.proofs.SetLaws.{union-cases, In-union-left}
use Rattle.wy_types.specs.Code.{Value}
use Rattle.wy_types.specs.Program.{Program, Scope}
use Rattle.wy_rules.specs.Readings.{Reading, IsBelow}
use Rattle.wy_rules.specs.Derivations.{T-Sub, mark}
use Rattle.wy_rules.specs.Acceptance.{reading_of}
use Rattle.wy_rules.specs.Failing.{IsLeast}
use Rattle.wy_rules.proofs.Forms.{Lawful}

pub refit : (y : Reading) (w : Lawful y) (s : Scope) (locals : List y.Kind) (owner : Option ℕ) (x : Value) (t : y.Kind) (f g : List ℕ) →
    IsBelow y t t → y.Includes f g → y.Includes g f → IsLeast y s locals owner x t f → IsLeast y s locals owner x t g
refit y w s locals owner x t f g r i j l = record {
  has = record { derivation = T-Sub (mark x) l.has.derivation t f; derives = (refl, l.has.derives, r, i) };
  least = λ u h d. let c = l.least u h d in (c.0, w.onward g f h (w.allows g f j) c.1);
}

-- no atoms more
pub united_none : (p : Program) (k : ℕ) (plain : Truth) (e : List ℕ) → (reading_of p k plain).Includes (union e []) e
united_none p k true e = tt
united_none p k false e = λ a i. elim (union-cases a e [] i) [ inl j ↦ j | inr z ↦ absurd z ]

pub none_united : (p : Program) (k : ℕ) (plain : Truth) (e : List ℕ) → (reading_of p k plain).Includes e (union e [])
none_united p k true e = tt
none_united p k false e = λ a i. In-union-left a e [] i
