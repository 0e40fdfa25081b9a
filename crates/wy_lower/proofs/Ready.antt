-- What is known between two forms of a body: the worlds correspond, the slots hold what is in sight, and all is later
-- than at some point before.
use Rattle.std.proofs.Common.{◌≡◌, ℕ, List, length}
use Rattle.wy_types.specs.Program.{Program}
use Rattle.wy_meaning.specs.Values.{Value, World}
use Rattle.wy_meaning.specs.Starts.{Starts}
use Rattle.wy_meaning.specs.Eval.{Sight}
use Rattle.wy_code.specs.Stores.{Word, Store}
use Rattle.wy_lower.specs.Inside.{Inside}
use Rattle.wy_lower.proofs.Addresses.{One, Many}
use Rattle.wy_lower.proofs.Relation.{Same, SameAll, SameWorld, Later, later_itself, later_later}
use Rattle.wy_lower.proofs.Slots.{Holds, holds_stays}

module _ (p : Program) (s : Starts) (i : Inside) (x : ℕ) (sight : Sight) where
  pub record Ready (w0 : World) (m0 : Store) (w : World) (m : Store) (slots : List Word) : Type 0 where
    pub world : SameWorld p s w m
    pub holds : Holds i x m.texts w sight slots
    pub later : Later w0 m0 w m

  -- the machine has a word for the value
  pub record Fine (w0 : World) (m0 : Store) (v : Value) (w : World) (c : One) : Type 0 where
    pub same : Same c.store.texts v c.word
    pub ready : Ready w0 m0 w c.store c.slots

  -- so many words for the values
  pub record FineAll (w0 : World) (m0 : Store) (k : ℕ) (vs : List Value) (w : World) (c : Many) : Type 0 where
    pub same : SameAll c.store.texts vs c.words
    pub count : length c.words ≡ k
    pub ready : Ready w0 m0 w c.store c.slots

  pub ready_now : (w0 : World) (m0 : Store) (w : World) (m : Store) (slots : List Word) → Ready w0 m0 w m slots → Ready w m w m slots
  ready_now w0 m0 w m slots r = record { world = r.world; holds = r.holds; later = later_itself w m }

  pub ready_since : (w0 : World) (m0 : Store) (w1 : World) (m1 : Store) (w : World) (m : Store) (slots : List Word) → Later w0 m0 w1 m1 →
      Ready w1 m1 w m slots → Ready w0 m0 w m slots
  ready_since w0 m0 w1 m1 w m slots l r = record { world = r.world; holds = r.holds; later = later_later w0 m0 w1 m1 w m l r.later }

  -- the world changes, and the slots stay as they are
  pub ready_after : (w0 : World) (m0 : Store) (w : World) (m : Store) (w' : World) (m' : Store) (slots : List Word) → Ready w0 m0 w m slots →
      SameWorld p s w' m' → Later w m w' m' → Ready w0 m0 w' m' slots
  ready_after w0 m0 w m w' m' slots r h l = record {
    world = h;
    holds = holds_stays i x w m w' m' sight slots l r.holds;
    later = later_later w0 m0 w m w' m' r.later l;
  }
