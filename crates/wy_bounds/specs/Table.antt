-- Tables of types that were reached, each at a polarity, and what additions do to them.
use Rattle.std.specs.Prelude.{◌≡◌, ℕ, List, [], ◌∷◌, ◌++◌, ◌⊎◌, Bool as Truth, map}
use Rattle.wy_text.specs.Members.{In}
use Rattle.wy_types.specs.declared.types.TypeRef.{TypeRef}
use Rattle.wy_types.specs.Keys.{mark_key}
use Rattle.wy_bounds.specs.declared.entry.Entry.{Entry}

-- a type at a polarity
abbrev pub Mark : Type 0
Mark = TypeRef × Truth

abbrev pub mark_of : Entry → Mark
mark_of e = (e.typ, e.positive)

abbrev pub marks : List Entry → List Mark
marks es = map mark_of es

abbrev pub entry_key : Entry → List ℕ
entry_key e = mark_key e.typ e.positive

-- the type is there at the polarity, or the entry comes last
abbrev pub IsAdded : List Entry → Entry → List Entry → Type 0
IsAdded old e new = (In (mark_of e) (marks old) × (new ≡ old)) ⊎ ((In (mark_of e) (marks old) → ⊥) × (new ≡ old ++ e ∷ []))

-- one entry after another
abbrev pub AreAdded : List Entry → List Entry → List Entry → Type 0
AreAdded old [] new = new ≡ old
AreAdded old (e ∷ es) new = (mid : List Entry) × IsAdded old e mid × AreAdded mid es new
