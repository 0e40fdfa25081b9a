-- What an object captures.
use Rattle.std.specs.Prelude.{List, [], ◌∷◌, ◌++◌, Option, Some, None, reverse, take, slice_get}
use Rattle.wy_code.specs.declared.code.Literal.{Literal}
use Rattle.wy_code.specs.declared.code.Source.{Source}
use Rattle.wy_code.specs.declared.code.Source.TheVariants.{Slot, Value}
use Rattle.wy_code.specs.Machine.{first_of, with_word}
use Rattle.wy_code.specs.Stores.{Word}
use Rattle.wy_machine.specs.OpenBodies.{StackState}
use Rattle.wy_machine.specs.StoreStates.{value_of}
use Rattle.wy_machine.specs.StoreState.{StoreState}

abbrev pub word_found : StackState → StoreState → Source → Option Word
word_found s w (Slot i) = slice_get s.running.slots i
word_found s w (Value i) = value_of w (first_of s.running.slots) i

abbrev pub words_found : StackState → StoreState → List Source → Option (List Word)
words_found s w [] = Some []
words_found s w (x ∷ xs) = with_word (word_found s w x) (words_found s w xs)

-- the words after these, where they are there
abbrev pub after_words : List Word → Option (List Word) → Option (List Word)
after_words vs None = None
after_words vs (Some more) = Some (vs ++ more)

abbrev pub with_fields : List Word → Option (List Word) → Option (List Word)
with_fields fields None = None
with_fields fields (Some captured) = Some (captured ++ fields)

-- the values of a new object: what it captures, and then its fields
abbrev pub values_found : StackState → StoreState → Literal → Option (List Word)
values_found s w l = with_fields (reverse (take l.fields s.running.operands)) (words_found s w l.captures)
