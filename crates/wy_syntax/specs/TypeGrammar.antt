-- Which tokens spell sets, types and signatures. `plain` is true in plain modules.
use Rattle.std.specs.Prelude.{◌≡◌, Bool, true, false, List, Option, None, Some}
use Rattle.wy_text.specs.declared.token.TokenKind.TheVariants as kind
use Rattle.wy_syntax.specs.declared.types.Name.{Name}
use Rattle.wy_syntax.specs.declared.types.AtomUse.{AtomUse}
use Rattle.wy_syntax.specs.declared.types.MemberSet.{MemberSet}
use Rattle.wy_syntax.specs.declared.types.TypeUse.{TypeUse}
use Rattle.wy_syntax.specs.declared.types.TypeUse.TheVariants as types
use Rattle.wy_syntax.specs.declared.types.Param.{Param}
use Rattle.wy_syntax.specs.declared.types.Signature.{Signature}
use Rattle.wy_syntax.specs.Languages.{Lang, Sign, Mark, Word, ◌⨟◌, Nothing, Only, Commas, Commas1}

-- a member, or an owner and its member
abbrev pub OwnedName : Option Name → Name → Lang
OwnedName None member = Word member
OwnedName (Some owner) member = Word owner ⨟ Sign kind.SymDot ⨟ Word member

abbrev pub SpellsAtom : AtomUse → Lang
SpellsAtom a = OwnedName a.owner a.member

-- Set
abbrev pub SpellsSet : List AtomUse → Lang
SpellsSet s = Sign kind.SymOpenBrace ⨟ Commas SpellsAtom s ⨟ Sign kind.SymCloseBrace

abbrev pub SpellsMemberSet : MemberSet → Lang
SpellsMemberSet m = Word m.name ⨟ Sign kind.SymEqual ⨟ SpellsSet m.effect

-- Object, a declared type
abbrev pub SpellsObject : Bool → TypeUse → Lang
SpellsObject plain (types.Bare n) u = Word n u
SpellsObject plain (types.With n ms) u = Only (plain ≡ false) (Word n ⨟ Sign kind.SymOpenBracket ⨟ Commas1 SpellsMemberSet ms ⨟ Sign kind.SymCloseBracket) u
SpellsObject plain (types.At n s) u = Only (plain ≡ false) (Word n ⨟ Sign kind.KwAt ⨟ SpellsSet s) u
SpellsObject plain (types.Int p) u = ⊥
SpellsObject plain (types.Bool p) u = ⊥
SpellsObject plain (types.Text p) u = ⊥
SpellsObject plain (types.Unit p) u = ⊥

-- Type
abbrev pub SpellsType : Bool → TypeUse → Lang
SpellsType plain (types.Int p) u = Mark kind.KwInt p u
SpellsType plain (types.Bool p) u = Mark kind.KwBool p u
SpellsType plain (types.Text p) u = Mark kind.KwString p u
SpellsType plain (types.Unit p) u = Mark kind.KwUnit p u
SpellsType plain (types.Bare n) u = SpellsObject plain (types.Bare n) u
SpellsType plain (types.With n ms) u = SpellsObject plain (types.With n ms) u
SpellsType plain (types.At n s) u = SpellsObject plain (types.At n s) u

-- a method's parameter
abbrev pub SpellsParam : Bool → Param → Lang
SpellsParam plain x = Word x.name ⨟ Sign kind.SymColon ⨟ SpellsType plain x.type_use

-- a module's parameter
abbrev pub SpellsModuleParam : Bool → Param → Lang
SpellsModuleParam plain x = Word x.name ⨟ Sign kind.SymColon ⨟ SpellsObject plain x.type_use

-- a method's effect, which is written exactly outside plain modules
abbrev pub SpellsEffect : Bool → Option (List AtomUse) → Lang
SpellsEffect plain None u = Only (plain ≡ true) Nothing u
SpellsEffect plain (Some s) u = Only (plain ≡ false) (SpellsSet s) u

-- "def" Name "(" List(Name ":" Type) ")" ":" Set Type
abbrev pub SpellsSignature : Bool → Signature → Lang
SpellsSignature plain s =
    Mark kind.KwDef s.place ⨟ Word s.name
    ⨟ Sign kind.SymOpenParen ⨟ Commas (SpellsParam plain) s.params ⨟ Sign kind.SymCloseParen
    ⨟ Sign kind.SymColon ⨟ SpellsEffect plain s.effect ⨟ SpellsType plain s.result
