-- Items and files, read from left to right.
use Rattle.std.specs.Prelude.{ℕ, Bool, true, false, List, [], ◌∷◌, Option, None, Some}
use Rattle.wy_text.specs.declared.fault.Place.{Place}
use Rattle.wy_syntax.specs.declared.types.Name.{Name}
use Rattle.wy_syntax.specs.declared.types.AtomUse.{AtomUse}
use Rattle.wy_syntax.specs.declared.types.Param.{Param}
use Rattle.wy_syntax.specs.declared.items.Member.{Member}
use Rattle.wy_syntax.specs.declared.items.Member.TheVariants as members
use Rattle.wy_syntax.specs.declared.items.Line.{Line}
use Rattle.wy_syntax.specs.declared.items.Line.TheVariants as lines
use Rattle.wy_syntax.specs.declared.items.Define.{Define}
use Rattle.wy_syntax.specs.declared.items.Init.{Init}
use Rattle.wy_syntax.specs.declared.items.Grant.{Grant}
use Rattle.wy_syntax.specs.Tokens.{code}
use Rattle.wy_syntax.specs.Trees.{parts_of, InsideTree, ItemTree, type_item, pure_item, resource_item, plain_item, program_item}
use Rattle.wy_syntax.specs.Grammar.{nothing_inside}
use Rattle.wy_parser.specs.Kinds as kinds
use Rattle.wy_parser.specs.Reading.{◌>>=◌, ret, choose}
use Rattle.wy_parser.specs.Parsing.{R, mark, word, each, between, set, signature, param}
use Rattle.wy_parser.specs.StmtParsing.{part_first, part_at, tail_at, parts_inside}

-- ---- a sign, a set and the end of the line

abbrev pub set_line : ℕ → ℕ → R (List AtomUse)
set_line k n = do
  sign ← mark k
  s ← set n
  line ← mark kinds.Nl
  ret s

-- ---- members of a type

abbrev pub member_with : Bool → Name → List AtomUse → Member
member_with false w s = members.Defined w s
member_with true w s = members.Bounded w s

abbrev pub set_member : ℕ → Bool → Name → ℕ → R Member
set_member k bounded w n = do
  s ← set_line k n
  ret (member_with bounded w s)

abbrev pub abstract_member : Name → R Member
abstract_member w = do
  line ← mark kinds.Nl
  ret (members.Abstract w)

unfoldable pub effect_member : ℕ → R Member
effect_member n = do
  word' ← mark kinds.KwEffect
  w ← word
  choose code (kinds.SymEqual ∷ []) (set_member kinds.SymEqual false w n)
      (choose code (kinds.SymLessEqual ∷ []) (set_member kinds.SymLessEqual true w n) (abstract_member w))

unfoldable pub method_member : ℕ → R Member
method_member n = do
  s ← signature false n
  line ← mark kinds.Nl
  ret (members.Method s)

unfoldable pub member_of : ℕ → R Member
member_of n = choose code (kinds.KwEffect ∷ []) (effect_member n) (method_member n)

abbrev pub member_first : List ℕ
member_first = kinds.KwEffect ∷ kinds.KwDef ∷ []

unfoldable pub members_inside : ℕ → R (List Member)
members_inside n = choose code (kinds.In ∷ []) (do
  opening ← mark kinds.In
  ms ← each member_first (member_of n) n
  closing ← mark kinds.Out
  ret ms) (ret [])

-- ---- lines

unfoldable pub use_of : R Name
use_of = do
  word' ← mark kinds.KwUse
  w ← word
  line ← mark kinds.Nl
  ret w

abbrev pub arguments : ℕ → R (List Name)
arguments n = between kinds.SymOpenParen kinds.SymCloseParen word n

-- what stands behind the arguments: an import has a bound
abbrev pub behind_arguments : Bool → Name → Name → List Name → ℕ → R Line
behind_arguments false x m ns n = do
  line ← mark kinds.Nl
  ret (lines.Instance x m ns)
behind_arguments true x m ns n = do
  s ← set_line kinds.KwAt n
  ret (lines.Import x m ns s)

unfoldable pub line_with : ℕ → Bool → ℕ → R Line
line_with k bounded n = do
  word' ← mark k
  x ← word
  equal ← mark kinds.SymEqual
  m ← word
  ns ← arguments n
  behind_arguments bounded x m ns n

unfoldable pub line_of : ℕ → R Line
line_of n = choose code (kinds.KwInstance ∷ []) (line_with kinds.KwInstance false n) (line_with kinds.KwImport true n)

abbrev pub line_first : List ℕ
line_first = kinds.KwInstance ∷ kinds.KwImport ∷ []

unfoldable pub define_of : ℕ → R Define
define_of n = do
  word' ← mark kinds.KwEffect
  w ← word
  s ← set_line kinds.SymEqual n
  ret (record { name = w; effect = s })

abbrev pub init_line : ℕ → R (Option Init)
init_line n = do
  p ← mark kinds.KwInit
  s ← set_line kinds.SymColon n
  ret (Some (record { place = p; effect = s }))

unfoldable pub init_of : ℕ → R (Option Init)
init_of n = choose code (kinds.KwInit ∷ []) (init_line n) (ret None)

unfoldable pub grant_of : R Grant
grant_of = do
  word' ← mark kinds.KwGrant
  w ← word
  colon ← mark kinds.SymColon
  t ← word
  line ← mark kinds.Nl
  ret (record { name = w; kind = t })

-- ---- items

-- what stands inside a module behind its lines
abbrev pub behind_module_lines : List Name → List Line → ℕ → R InsideTree
behind_module_lines us ls n = do
  ds ← each (kinds.KwEffect ∷ []) (define_of n) n
  i ← init_of n
  ps ← each part_first (part_at false n) n
  closing ← mark kinds.Out
  ret (record { uses = us; lines = ls; defines = ds; init = i; parts = parts_of ps })

unfoldable pub inside_lines : ℕ → R InsideTree
inside_lines n = do
  opening ← mark kinds.In
  us ← each (kinds.KwUse ∷ []) use_of n
  ls ← each line_first (line_of n) n
  ds ← each (kinds.KwEffect ∷ []) (define_of n) n
  i ← init_of n
  ps ← each part_first (part_at false n) n
  closing ← mark kinds.Out
  ret (record { uses = us; lines = ls; defines = ds; init = i; parts = parts_of ps })

unfoldable pub inside_of : ℕ → R InsideTree
inside_of n = choose code (kinds.In ∷ []) (inside_lines n) (ret nothing_inside)

unfoldable pub type_of : ℕ → R ItemTree
type_of n = do
  p ← mark kinds.KwType
  w ← word
  line ← mark kinds.Nl
  ms ← members_inside n
  ret (type_item (record { place = p; name = w; members = ms }))

unfoldable pub pure_of : ℕ → R ItemTree
pure_of n = do
  p ← mark kinds.KwModule
  w ← word
  colon ← mark kinds.SymColon
  t ← word
  line ← mark kinds.Nl
  i ← inside_of n
  ret (pure_item p w t i)

abbrev pub params_of : Bool → ℕ → R (List Param)
params_of plain n = between kinds.SymOpenParen kinds.SymCloseParen (param true plain n) n

-- what stands behind the first line of a module with parameters
abbrev pub behind_params : Bool → Place → Name → List Param → Name → ℕ → R ItemTree
behind_params false p w ps t n = do
  i ← inside_of n
  ret (resource_item p w ps t i)
behind_params true p w ps t n = do
  ms ← parts_inside (part_at true n) n
  ret (plain_item p w ps t ms)

-- what stands in a module with parameters behind them
abbrev pub sealed_module : Bool → Place → Name → List Param → ℕ → R ItemTree
sealed_module plain p w ps n = do
  colon ← mark kinds.SymColon
  t ← word
  line ← mark kinds.Nl
  behind_params plain p w ps t n

unfoldable pub with_params : ℕ → Bool → ℕ → R ItemTree
with_params k plain n = do
  p ← mark k
  word' ← mark kinds.KwModule
  w ← word
  ps ← params_of plain n
  colon ← mark kinds.SymColon
  t ← word
  line ← mark kinds.Nl
  behind_params plain p w ps t n

-- what stands in a program block behind its lines
abbrev pub behind_lines : Place → List Grant → List Name → List Line → ℕ → R ItemTree
behind_lines p gs us ls n = do
  started ← mark kinds.KwRun
  colon ← mark kinds.SymColon
  s ← set n
  b ← tail_at false n
  closing ← mark kinds.Out
  ret (program_item p gs us ls started s b)

unfoldable pub program_of : ℕ → R ItemTree
program_of n = do
  p ← mark kinds.KwProgram
  line ← mark kinds.Nl
  opening ← mark kinds.In
  gs ← each (kinds.KwGrant ∷ []) grant_of n
  us ← each (kinds.KwUse ∷ []) use_of n
  ls ← each line_first (line_of n) n
  started ← mark kinds.KwRun
  colon ← mark kinds.SymColon
  s ← set n
  b ← tail_at false n
  closing ← mark kinds.Out
  ret (program_item p gs us ls started s b)

abbrev pub item_first : List ℕ
item_first = kinds.KwType ∷ kinds.KwModule ∷ kinds.KwResource ∷ kinds.KwPlain ∷ kinds.KwProgram ∷ []

unfoldable pub item : ℕ → R ItemTree
item n =
    choose code (kinds.KwType ∷ []) (type_of n)
    (choose code (kinds.KwModule ∷ []) (pure_of n)
    (choose code (kinds.KwResource ∷ []) (with_params kinds.KwResource false n)
    (choose code (kinds.KwPlain ∷ []) (with_params kinds.KwPlain true n) (program_of n))))

unfoldable pub items : ℕ → R (List ItemTree)
items n = each item_first (item n) n

unfoldable pub p_file : ℕ → R (List ItemTree)
p_file n = do
  is ← items n
  x ← mark kinds.End
  ret is
