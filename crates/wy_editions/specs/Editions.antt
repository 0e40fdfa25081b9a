-- Old texts: those in which no name is that of a primitive type that came later. Over the table of primitive types of the edition
-- before and over today's they are accepted alike and reported alike, and over answers with no longer texts than that edition has
-- they mean the same. (docs/LANGUAGE.md, "Editions")
use Rattle.std.specs.Prelude.{codes, ◌≡◌, ◌≢◌, ◌↔◌, ℕ, List}
use Rattle.std.specs.List.{AllByRecursion}
use Rattle.wy_text.specs.declared.fault.Place.{Place}
use Rattle.wy_text.specs.declared.token.TokenKind.TheVariants as kind
use Rattle.wy_syntax.specs.Grammar.{SpellsItem}
use Rattle.wy_syntax.specs.OwnWords.{IsWord}
use Rattle.wy_syntax.specs.Tokens.{Tok}
use Rattle.wy_syntax.specs.Trees.{ItemTree}
use Rattle.wy_types.specs.declared.resolved.TypeDecl.{TypeDecl}
use Rattle.wy_types.specs.Primitive.{former_types, primitive_types}
use Rattle.wy_types.specs.Program.{Program}
use Rattle.wy_names.specs.Names.{ResolvesOver}
use Rattle.wy_rules.specs.Acceptance.{Accepted}
use Rattle.wy_rules.specs.Ends.{IsWithinLimits}
use Rattle.wy_authority.specs.declared.rows.Authority.{Authority}
use Rattle.wy_authority.specs.Authority.{authority_of}
use Rattle.wy_device.specs.Editions.{former}
use Rattle.wy_device.specs.RunEnds.{Trap}
use Rattle.wy_device.specs.Tapes.{Tapes}
use Rattle.wy_device.specs.Traps.{LongText}
use Rattle.wy_meaning.specs.Start.{meaning}
use Rattle.wy_meaning.specs.Widening.{HasShortTexts, in_edition}
use Rattle.wy_sound.specs.Programs.{program_starts}

-- it is a word, and another one than `x`
abbrev pub IsOther : List ℕ → List ℕ → Type 0
IsOther x w = IsWord w × (w ≡ x → ⊥)

-- the item is spelled by tokens each of whose names is such a word
abbrev pub LacksName : List ℕ → ItemTree → Type 0
LacksName x i = (ts : List Tok) × SpellsItem i ts × AllByRecursion (λ (t : Tok). (w : List ℕ) → t.kind ≡ kind.Name w → IsOther x w) ts

abbrev pub AreOld : List ItemTree → Type 0
AreOld items = AllByRecursion (LacksName (codes "FullFolder")) items

-- over a table of primitive types the items are those of a program that is accepted, within the limits, and this is its authority
pub record AreJudged (table : List TypeDecl) (items : List ItemTree) (authority : Authority) : Type 0 where
  pub program : Program
  pub resolves : ResolvesOver table items program
  pub accepted : Accepted program
  pub within : IsWithinLimits program
  pub reported : authority ≡ authority_of program

-- .. whatever its size: the limits on types and instances are left aside
pub record AreAccepted (table : List TypeDecl) (items : List ItemTree) (authority : Authority) : Type 0 where
  pub program : Program
  pub resolves : ResolvesOver table items program
  pub accepted : Accepted program
  pub reported : authority ≡ authority_of program

abbrev pub OldItemsAreAcceptedAlike : Type 0
OldItemsAreAcceptedAlike = (items : List ItemTree) → AreOld items → (authority : Authority) → AreAccepted former_types items authority ↔ AreAccepted primitive_types items authority

abbrev pub OldItemsAreJudgedAlike : Type 0
OldItemsAreJudgedAlike = (items : List ItemTree) → AreOld items → (authority : Authority) → AreJudged former_types items authority ↔ AreJudged primitive_types items authority

-- unless a text that is too long for the edition before is built
abbrev pub OldItemsMeanTheSame : Type 0
OldItemsMeanTheSame =
    (items : List ItemTree) → AreOld items → (old new : Program) → ResolvesOver former_types items old → ResolvesOver primitive_types items new →
    (n : ℕ) (tapes : Tapes) → HasShortTexts former.longest tapes →
    ((place : Place) → (meaning n old (in_edition former (program_starts old)) tapes).end ≢ Trap LongText place) →
    meaning n old (in_edition former (program_starts old)) tapes ≡ meaning n new (program_starts new) tapes
