-- Heads of types that differ in the type of one number alone, which no name that is `Ok` finds, and scopes over them.
use Rattle.std.proofs.Common.{◌≡◌, ℕ, List, Option, Some}
use Rattle.wy_text.specs.Members.{In}
use Rattle.wy_symbols.specs.declared.scoping.Head.{Head}
use Rattle.wy_symbols.specs.declared.scoping.Opening.{Opening}
use Rattle.wy_symbols.specs.declared.scoping.Opening.TheVariants.{Members, Nothing, Missing}
use Rattle.wy_symbols.specs.declared.scoping.Owner.{Owner}
use Rattle.wy_symbols.specs.Atoms.{AtomScope, head_names, type_number, members_of}

module _ (Ok : List ℕ → Type 0) (i : ℕ) where
  -- the same name is of the same number, which is not `i`; and but for that number the members are the same
  pub record HeadsAlike (h g : List Head) : Type 0 where
    pub numbers : (x : List ℕ) → Ok x → type_number (head_names h) x ≡ type_number (head_names g) x
    pub number_not : (x : List ℕ) → Ok x → (d : ℕ) → type_number (head_names h) x ≡ Some d → d ≡ i → ⊥
    pub members : (d : ℕ) → (d ≡ i → ⊥) → members_of h d ≡ members_of g d

  -- a number that is not that one
  abbrev pub NumberNot : Option ℕ → Type 0
  NumberNot o = (d : ℕ) → o ≡ Some d → d ≡ i → ⊥

  -- it does not open the type of that number
  abbrev pub OpensNot : Opening → Type 0
  OpensNot (Members d) = d ≡ i → ⊥
  OpensNot Nothing = Unit {0}
  OpensNot Missing = Unit {0}

  abbrev pub OwnersOpenNot : List Owner → Type 0
  OwnersOpenNot os = (o : Owner) → In o os → OpensNot o.opening

  -- scopes that are the same but for their heads
  pub record ScopesAlike (s t : AtomScope) : Type 0 where
    pub heads : HeadsAlike s.heads t.heads
    pub atoms : s.atoms ≡ t.atoms
    pub owners : s.owners ≡ t.owners
    pub meanings : s.meanings ≡ t.meanings
    pub opened : OwnersOpenNot s.owners
