-- Which tokens spell items and files.
use Rattle.std.specs.Prelude.{◌≡◌, true, false, List, [], Option, None, Some}
use Rattle.wy_text.specs.declared.token.TokenKind.TheVariants as kind
use Rattle.wy_syntax.specs.declared.types.Name.{Name}
use Rattle.wy_syntax.specs.declared.items.Member.{Member}
use Rattle.wy_syntax.specs.declared.items.Member.TheVariants as members
use Rattle.wy_syntax.specs.declared.items.Line.{Line}
use Rattle.wy_syntax.specs.declared.items.Line.TheVariants as lines
use Rattle.wy_syntax.specs.declared.items.Define.{Define}
use Rattle.wy_syntax.specs.declared.items.Init.{Init}
use Rattle.wy_syntax.specs.declared.items.Grant.{Grant}
use Rattle.wy_syntax.specs.Tokens.{Tok}
use Rattle.wy_syntax.specs.Trees.{InsideTree, no_parts, ItemTree, type_item, pure_item, resource_item, plain_item, program_item}
use Rattle.wy_syntax.specs.Languages.{Lang, Sign, Mark, Word, ◌⨟◌, Each, Commas, Indented, InParens}
use Rattle.wy_syntax.specs.TypeGrammar.{SpellsSet, SpellsModuleParam, SpellsSignature}
use Rattle.wy_syntax.specs.StmtGrammar.{SpellsParts, SpellsTail}

-- Member
abbrev pub SpellsMember : Member → Lang
SpellsMember (members.Abstract n) = Sign kind.KwEffect ⨟ Word n ⨟ Sign kind.Nl
SpellsMember (members.Bounded n s) = Sign kind.KwEffect ⨟ Word n ⨟ Sign kind.SymLessEqual ⨟ SpellsSet s ⨟ Sign kind.Nl
SpellsMember (members.Defined n s) = Sign kind.KwEffect ⨟ Word n ⨟ Sign kind.SymEqual ⨟ SpellsSet s ⨟ Sign kind.Nl
SpellsMember (members.Method s) = SpellsSignature false s ⨟ Sign kind.Nl

-- Use
abbrev pub SpellsUse : Name → Lang
SpellsUse n = Sign kind.KwUse ⨟ Word n ⨟ Sign kind.Nl

-- Line
abbrev pub SpellsLine : Line → Lang
SpellsLine (lines.Instance x m arguments) =
    Sign kind.KwInstance ⨟ Word x ⨟ Sign kind.SymEqual ⨟ Word m
    ⨟ InParens (Commas Word arguments) ⨟ Sign kind.Nl
SpellsLine (lines.Import x m arguments bound) =
    Sign kind.KwImport ⨟ Word x ⨟ Sign kind.SymEqual ⨟ Word m
    ⨟ InParens (Commas Word arguments) ⨟ Sign kind.KwAt ⨟ SpellsSet bound ⨟ Sign kind.Nl

-- Define
abbrev pub SpellsDefine : Define → Lang
SpellsDefine d = Sign kind.KwEffect ⨟ Word d.name ⨟ Sign kind.SymEqual ⨟ SpellsSet d.effect ⨟ Sign kind.Nl

-- [Init]
abbrev pub SpellsInit : Option Init → Lang
SpellsInit None u = u ≡ []
SpellsInit (Some i) u = (Mark kind.KwInit i.place ⨟ Sign kind.SymColon ⨟ SpellsSet i.effect ⨟ Sign kind.Nl) u

-- Grant
abbrev pub SpellsGrant : Grant → Lang
SpellsGrant g = Sign kind.KwGrant ⨟ Word g.name ⨟ Sign kind.SymColon ⨟ Word g.kind ⨟ Sign kind.Nl

-- nothing stands in a module
abbrev pub nothing_inside : InsideTree
nothing_inside = record { uses = []; lines = []; defines = []; init = None; parts = no_parts }

-- Inside
abbrev pub SpellsInside : InsideTree → Lang
SpellsInside i = Indented (i ≡ nothing_inside) (Each SpellsUse i.uses ⨟ Each SpellsLine i.lines ⨟ Each SpellsDefine i.defines ⨟ SpellsInit i.init ⨟ SpellsParts false i.parts)

-- Item
abbrev pub SpellsItem : ItemTree → Lang
SpellsItem (type_item t) = Mark kind.KwType t.place ⨟ Word t.name ⨟ Sign kind.Nl ⨟ Indented (t.members ≡ []) (Each SpellsMember t.members)
SpellsItem (pure_item p n sealed inside) = Mark kind.KwModule p ⨟ Word n ⨟ Sign kind.SymColon ⨟ Word sealed ⨟ Sign kind.Nl ⨟ SpellsInside inside
SpellsItem (resource_item p n params sealed inside) =
    Mark kind.KwResource p ⨟ Sign kind.KwModule ⨟ Word n
    ⨟ InParens (Commas (SpellsModuleParam false) params)
    ⨟ Sign kind.SymColon ⨟ Word sealed ⨟ Sign kind.Nl ⨟ SpellsInside inside
SpellsItem (plain_item p n params sealed parts) =
    Mark kind.KwPlain p ⨟ Sign kind.KwModule ⨟ Word n
    ⨟ InParens (Commas (SpellsModuleParam true) params)
    ⨟ Sign kind.SymColon ⨟ Word sealed ⨟ Sign kind.Nl ⨟ Indented (parts ≡ no_parts) (SpellsParts true parts)
SpellsItem (program_item p grants uses lines started effect body) =
    Mark kind.KwProgram p ⨟ Sign kind.Nl ⨟ Sign kind.In ⨟ Each SpellsGrant grants ⨟ Each SpellsUse uses ⨟ Each SpellsLine lines
    ⨟ Mark kind.KwRun started ⨟ Sign kind.SymColon ⨟ SpellsSet effect ⨟ SpellsTail false body ⨟ Sign kind.Out

-- File
abbrev pub Spells : List Tok → List ItemTree → Type 0
Spells ts items = (Each SpellsItem items ⨟ Sign kind.End) ts
