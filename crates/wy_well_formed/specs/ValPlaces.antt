-- Where the `val` statements of a scope stand: in its tree one after another as they are written, and in its core by their numbers.
use Rattle.std.specs.Prelude.{◌≡◌, ℕ, ◌<◌, Bool, true, ◌==◌, if◌then◌else◌, List, [], ◌∷◌, ◌++◌, Some, length, slice_get}
use Rattle.std.specs.List.{AllByRecursion}
use Rattle.wy_text.specs.declared.fault.Place.{Place}
use Rattle.wy_syntax.specs.Tokens.{Tok, code}
use Rattle.wy_syntax.specs.Trees as t
use Rattle.wy_syntax.specs.Grammar.{SpellsItem}
use Rattle.wy_syntax.specs.Before.{is_before}
use Rattle.wy_text.specs.Members.{In}
use Rattle.wy_types.specs.Code.{Expr, Number, Quoted, Truth, Nothing, This, Name, Unary, Binary, TextCall, Call, New, Ascribe, Assign, Value, Plain, If, Values, none, more, Block, Last, Then, Val}
use Rattle.wy_types.specs.Program.{Program, Scope, Body, Start, Init, Run}
use Rattle.wy_types.specs.Vals.{scope_vals}
use Rattle.wy_types.specs.Ground.{program_number}
use Rattle.wy_symbols.specs.Declarations.{ModuleTree, ProgramTree, modules_of, programs_of}
use Rattle.wy_names.specs.Names.{Resolves}

-- the places of the `val`s of a tree, as they are written: those of a literal stand where it stands
abbrev mutual
  pub rhs_val_places : t.RhsTree → List Place
  rhs_val_places (t.literal p ps) = parts_val_places ps
  rhs_val_places (t.branch p c a b) = stmts_val_places a ++ stmts_val_places b
  rhs_val_places (t.value e) = []

  pub stmt_val_places : t.StmtTree → List Place
  stmt_val_places (t.val x u r) = x.place ∷ rhs_val_places r
  stmt_val_places (t.assign x r) = rhs_val_places r
  stmt_val_places (t.run r) = rhs_val_places r

  pub stmts_val_places : t.StmtTrees → List Place
  stmts_val_places t.no_stmts = []
  stmts_val_places (t.more_stmts x xs) = stmt_val_places x ++ stmts_val_places xs

  pub part_val_places : t.PartTree → List Place
  part_val_places (t.field k x u r) = rhs_val_places r
  part_val_places (t.method g b) = tail_val_places b

  pub parts_val_places : t.PartTrees → List Place
  parts_val_places t.no_parts = []
  parts_val_places (t.more_parts q qs) = part_val_places q ++ parts_val_places qs

  pub tail_val_places : t.TailTree → List Place
  tail_val_places (t.short r) = rhs_val_places r
  tail_val_places (t.long xs) = stmts_val_places xs

-- a `val` of a core
pub record ValAt : Type 0 where
  pub number : ℕ
  pub place : Place

abbrev pub val_at : ℕ → Place → ValAt
val_at n place = record { number = n; place = place }

-- the `val`s of a core's forms
abbrev mutual
  pub expr_vals_at : Expr → List ValAt
  expr_vals_at (Number place n) = []
  expr_vals_at (Quoted place bytes) = []
  expr_vals_at (Truth place b) = []
  expr_vals_at (Nothing place) = []
  expr_vals_at (This place) = []
  expr_vals_at (Name place name) = []
  expr_vals_at (Unary place op x) = expr_vals_at x
  expr_vals_at (Binary place op x y) = expr_vals_at x ++ expr_vals_at y
  expr_vals_at (TextCall place op xs) = values_vals_at xs
  expr_vals_at (Call place x name xs) = expr_vals_at x ++ values_vals_at xs
  expr_vals_at (New place l xs) = values_vals_at xs
  expr_vals_at (Ascribe place x t) = value_vals_at x
  expr_vals_at (Assign place name x) = value_vals_at x

  pub value_vals_at : Value → List ValAt
  value_vals_at (Plain x) = expr_vals_at x
  value_vals_at (If place test first second) = expr_vals_at test ++ (block_vals_at first ++ block_vals_at second)

  pub values_vals_at : Values → List ValAt
  values_vals_at none = []
  values_vals_at (more x xs) = value_vals_at x ++ values_vals_at xs

  pub block_vals_at : Block → List ValAt
  block_vals_at (Last x) = value_vals_at x
  block_vals_at (Then x b) = value_vals_at x ++ block_vals_at b
  block_vals_at (Val place n typ x b) = val_at n place ∷ (value_vals_at x ++ block_vals_at b)

abbrev pub start_vals_at : Start → List ValAt
start_vals_at (Init values) = values_vals_at values
start_vals_at (Run block) = block_vals_at block

abbrev pub bodies_vals_at : List Body → List ValAt
bodies_vals_at [] = []
bodies_vals_at (b ∷ bs) = block_vals_at b.block ++ bodies_vals_at bs

abbrev pub scope_vals_at : Scope → List ValAt
scope_vals_at s = start_vals_at s.start ++ bodies_vals_at s.bodies

-- each stands at the place that its number has in a list
abbrev pub AllAt : List Place → List ValAt → Type 0
AllAt places vs = (v : ValAt) → In v vs → slice_get places v.number ≡ Some v.place

-- a scope's `val`s are as many as these places, and are numbered by them
pub record AreNumberedBy (places : List Place) (s : Scope) : Type 0 where
  pub many : length (scope_vals s) ≡ length places
  pub there : AllAt places (scope_vals_at s)

-- the `val`s of each module and of the program are numbered as they are written
pub record AreNumberedAsWritten (items : List t.ItemTree) (p : Program) : Type 0 where
  pub modules : (k : ℕ) (m : ModuleTree) (s : Scope) → slice_get (modules_of items) k ≡ Some m → slice_get p.scopes k ≡ Some s → AreNumberedBy (parts_val_places m.parts) s
  pub program : (g : ProgramTree) (s : Scope) → programs_of items ≡ g ∷ [] → slice_get p.scopes (program_number p) ≡ Some s → AreNumberedBy (tail_val_places g.body) s

abbrev pub ResolvedValsAreAsWritten : Type 0
ResolvedValsAreAsWritten = (items : List t.ItemTree) (p : Program) → Resolves items p → AreNumberedAsWritten items p

------------------------------------------------------------
-- In a text

-- the places of the names among tokens
abbrev pub if_name : Bool → Place → List Place → List Place
if_name named place places = if named then place ∷ places else places

abbrev pub name_places : List Tok → List Place
name_places [] = []
name_places (x ∷ xs) = if_name (code x == 1) x.place (name_places xs)

-- each place stands before all that are behind it
abbrev pub Ascend : List Place → Type 0
Ascend [] = Unit {0}
Ascend (p ∷ ps) = ((q : Place) → In q ps → is_before p q ≡ true) × Ascend ps

-- tokens spell the item, and the names among them stand in the order of their places
abbrev pub IsInText : t.ItemTree → Type 0
IsInText i = (ts : List Tok) × SpellsItem i ts × Ascend (name_places ts)

abbrev pub AreInText : List t.ItemTree → Type 0
AreInText items = AllByRecursion IsInText items

-- of two `val`s the one of the lesser number stands before the other
abbrev pub AreInOrder : List ValAt → Type 0
AreInOrder vs = (v w : ValAt) → In v vs → In w vs → v.number < w.number → is_before v.place w.place ≡ true

abbrev pub ResolvedValsAreInOrder : Type 0
ResolvedValsAreInOrder = (items : List t.ItemTree) (p : Program) → Resolves items p → AreInText items → (s : Scope) → In s p.scopes → AreInOrder (scope_vals_at s)
