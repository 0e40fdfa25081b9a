-- What the machine's store means.
use Rattle.std.specs.Prelude.{◌≡◌, ℕ, ⊤, List, [], ◌∷◌, ◌++◌, length, Option, Some, None, slice_get, slice_set}
use Rattle.wy_code.specs.Stores.{Thing, Word, value_in}
use Rattle.wy_machine.specs.Words.{object_of}
use Rattle.wy_machine.specs.StoreState.{StoreState}

-- the store of a run that starts
abbrev pub store_with : List Thing → StoreState
store_with first = record { objects = first; made = 0; texts = []; next = 0; first = first }

-- each of these objects still stands, with as many values
abbrev pub AreKept : List Thing → List Thing → Type 0
AreKept [] things = ⊤
AreKept (x ∷ xs) [] = ⊥
AreKept (x ∷ xs) (y ∷ ys) = (y.instance ≡ x.instance) × (y.literal ≡ x.literal) × (length y.values ≡ length x.values) × AreKept xs ys

abbrev pub with_object : Thing → StoreState → StoreState
with_object thing w = record w { objects = w.objects ++ thing ∷ [] }

-- the store with another word as value i of an object, where there is that object
abbrev pub object_set : ℕ → ℕ → Word → StoreState → Option Thing → Option StoreState
object_set a i v w None = None
object_set a i v w (Some thing) = Some (record w { objects = slice_set w.objects a (record thing { values = slice_set thing.values i v }) })

abbrev pub thing_at : List Thing → Option ℕ → Option Thing
thing_at things None = None
thing_at things (Some a) = slice_get things a

-- value i of the object that a word names
abbrev pub value_of : StoreState → Word → ℕ → Option Word
value_of w this i = value_in (thing_at w.objects (object_of this)) i

abbrev pub value_written : Option ℕ → ℕ → Word → StoreState → Option StoreState
value_written None i v w = None
value_written (Some a) i v w = object_set a i v w (slice_get w.objects a)
