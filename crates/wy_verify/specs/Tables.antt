-- Tables by which the method of a number of a type is found: what was noted first of each key.
use Rattle.std.specs.Prelude.{◌≡◌, ℕ, suc, Bool, ◌&&◌, List, [], ◌∷◌, ◌++◌, map, Option, Some, None, nat_eq, if◌then◌else◌}
use Rattle.wy_text.specs.Members.{In}
use Rattle.indexmap.specs.IndexMap.{IndexMap, get}
use Rattle.wy_code.specs.declared.code.Code.{Code}
use Rattle.wy_code.specs.declared.code.Literal.{Literal}
use Rattle.wy_code.specs.declared.code.Method.{Method}
use Rattle.wy_code.specs.declared.code.Scope.{Scope}
use Rattle.wy_image.specs.declared.file.Instance.{Instance}
use Rattle.wy_image.specs.declared.typing.Atom.{Atom}
use Rattle.wy_image.specs.declared.typing.Bounds.{Bounds}
use Rattle.wy_image.specs.declared.typing.Signature.{Signature}
use Rattle.wy_image.specs.declared.typing.Typing.{Typing}
use Rattle.wy_verified.specs.Ranges.{Role, literal_roles}
use Rattle.wy_verified.specs.Rules.{Owner}
use Rattle.wy_verified.specs.Verifying.{owner_in}
use Rattle.wy_verify.specs.declared.tables.Called.{Called}
use Rattle.wy_verify.specs.declared.tables.Entry.{Entry}
use Rattle.wy_verify.specs.declared.tables.Owners.{Owners}
use Rattle.wy_verify.specs.declared.tables.Places.{Places}
use Rattle.wy_verify.specs.Effects.{effect_numbers, AreSmall}

-- the keys are the same
abbrev pub same_pair : ℕ × ℕ → ℕ × ℕ → Bool
same_pair x y = nat_eq x.0 y.0 && nat_eq x.1 y.1

-- .. of three parts
abbrev pub same_triple : ℕ × ℕ × ℕ → ℕ × ℕ × ℕ → Bool
same_triple x y = (nat_eq x.0 y.0 && nat_eq x.1 y.1) && nat_eq x.2 y.2

module _ {K V : Type 0} (same : K → K → Bool) where
  -- what was noted first of a key
  abbrev pub first_noted : List (K × V) → K → Option V
  first_noted [] q = None
  first_noted (e ∷ es) q = if same e.0 q then Some e.1 else first_noted es q

  -- a table tells what was noted first
  abbrev pub Tells : {S : Type 0} → IndexMap K V S → List (K × V) → Type 0
  Tells m notes = (q : K) → get same m q ≡ first_noted notes q

  -- notes were added behind those that there were
  abbrev pub Adds : {S : Type 0} → IndexMap K V S → IndexMap K V S → List (K × V) → Type 0
  Adds old new more = (notes : List (K × V)) → Tells old notes → Tells new (notes ++ more)

  -- .. and what is left to add makes the whole
  pub record Adding {S : Type 0} (old new : IndexMap K V S) (rest whole : List (K × V)) : Type 0 where
    pub front : List (K × V)
    pub split : front ++ rest ≡ whole
    pub added : Adds old new front

------------------------------------------------------------
-- Of a type or an instance, and the number of a method or a body: a place, and an effect

-- a note of a place
abbrev pub EntryNote : Type 0
EntryNote = (ℕ × ℕ) × Entry

-- notes were added to a table of places
abbrev pub AddsPlaces : Places → Places → List EntryNote → Type 0
AddsPlaces old new more = Adds same_pair old.entries new.entries more

-- a place and the set of an effect
abbrev pub entry_of : ℕ → List Atom → Entry
entry_of place effect = record { place = place; effect = effect_numbers effect }

module _ {T X : Type 0} (items : T → List X) (key : X → ℕ) (effect : X → List Atom) where
  -- those of the items of the row of a number, the first of which has this place
  abbrev pub items_notes : ℕ → ℕ → List X → List EntryNote
  items_notes row k [] = []
  items_notes row k (x ∷ xs) = ((row, key x), entry_of k (effect x)) ∷ items_notes row (suc k) xs

  -- .. and of rows, the first of which has this number
  abbrev pub rows_notes : ℕ → List T → List EntryNote
  rows_notes row [] = []
  rows_notes row (t ∷ ts) = items_notes row 0 (items t) ++ rows_notes (suc row) ts

-- the methods of a listed type, with their numbers and effects
abbrev pub listed_items : List Signature → List Signature
listed_items t = t

-- .. the number of a method
abbrev pub method_key : Signature → ℕ
method_key s = s.method

-- .. and its effect
abbrev pub method_effect : Signature → List Atom
method_effect s = s.effect

-- the bodies of which an instance states something
abbrev pub typing_items : Typing → List Bounds
typing_items t = t.bodies

-- .. the number of such a body
abbrev pub bounds_key : Bounds → ℕ
bounds_key b = b.body

-- .. and its effect
abbrev pub bounds_effect : Bounds → List Atom
bounds_effect b = b.effect

-- those of the methods of a listed type
abbrev pub signatures_notes : ℕ → ℕ → List Signature → List EntryNote
signatures_notes = items_notes listed_items method_key method_effect

-- .. and of types
abbrev pub types_notes : ℕ → List (List Signature) → List EntryNote
types_notes = rows_notes listed_items method_key method_effect

-- what instances state
abbrev pub typings_in : List Instance → List Typing
typings_in is = map (λ (i : Instance). i.typing) is

-- those of what is stated of bodies
abbrev pub bounds_notes : ℕ → ℕ → List Bounds → List EntryNote
bounds_notes = items_notes typing_items bounds_key bounds_effect

-- .. and of instances
abbrev pub typings_notes : ℕ → List Typing → List EntryNote
typings_notes = rows_notes typing_items bounds_key bounds_effect

------------------------------------------------------------
-- Of a scope, a literal and the number of a method: a body

-- a note of a body
abbrev pub BodyNote : Type 0
BodyNote = (ℕ × ℕ × ℕ) × ℕ

-- notes were added to a table of bodies
abbrev pub AddsBodies : Called → Called → List BodyNote → Type 0
AddsBodies old new more = Adds same_triple old.bodies new.bodies more

-- those of the methods of a literal
abbrev pub methods_notes : ℕ → ℕ → List Method → List BodyNote
methods_notes s l [] = []
methods_notes s l (m ∷ ms) = ((s, l, m.method), m.body) ∷ methods_notes s l ms

-- .. of literals, the first of which has this number
abbrev pub literals_notes : ℕ → ℕ → List Literal → List BodyNote
literals_notes s l [] = []
literals_notes s l (x ∷ xs) = methods_notes s l x.methods ++ literals_notes s (suc l) xs

-- .. and of scopes
abbrev pub scopes_notes : ℕ → List Scope → List BodyNote
scopes_notes s [] = []
scopes_notes s (x ∷ xs) = literals_notes s 0 x.literals ++ scopes_notes (suc s) xs

------------------------------------------------------------
-- Of a scope and the number of a body: whose it is

-- a note of an owner
abbrev pub OwnerNote : Type 0
OwnerNote = (ℕ × ℕ) × Owner

-- notes were added to a table of owners
abbrev pub AddsOwners : Owners → Owners → List OwnerNote → Type 0
AddsOwners old new more = Adds same_pair old.owners new.owners more

-- those of the bodies of the scope of a number
abbrev pub role_notes : ℕ → List Role → List OwnerNote
role_notes s [] = []
role_notes s (r ∷ rs) = ((s, r.1), r.0) ∷ role_notes s rs

-- the bodies of a scope: the first one, and the methods
abbrev pub code_roles : Scope → List Role
code_roles x = (None, x.start) ∷ literal_roles 0 x.literals

-- those of the bodies of scopes, the first of which has this number
abbrev pub owners_notes : ℕ → List Scope → List OwnerNote
owners_notes s [] = []
owners_notes s (x ∷ xs) = role_notes s (code_roles x) ++ owners_notes (suc s) xs

-- the table tells the owners of the bodies of code
abbrev pub HasOwners : Code → Owners → Type 0
HasOwners code o = Tells same_pair o.owners (owners_notes 0 code.scopes)

-- whose the body of a number is, among those of a scope
abbrev pub owner_by : Option Scope → ℕ → Option Owner
owner_by None b = None
owner_by (Some x) b = owner_in (code_roles x) b

------------------------------------------------------------
-- Small atoms

-- the atoms of each method are small
abbrev pub SmallSignatures : List Signature → Type 0
SmallSignatures ss = (s : Signature) → In s ss → AreSmall s.effect

-- .. of each type
abbrev pub SmallTypes : List (List Signature) → Type 0
SmallTypes ts = (t : List Signature) → In t ts → SmallSignatures t

-- .. of each body
abbrev pub SmallBounds : List Bounds → Type 0
SmallBounds bs = (b : Bounds) → In b bs → AreSmall b.effect

-- .. of each instance
abbrev pub SmallTypings : List Typing → Type 0
SmallTypings ts = (t : Typing) → In t ts → SmallBounds t.bodies
