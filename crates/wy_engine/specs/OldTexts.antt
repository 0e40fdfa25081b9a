-- Old texts: those in which no name is that of a primitive type that came later. In the edition before and today they are accepted
-- alike and reported alike, and mean the same. (docs/LANGUAGE.md, "Editions")
use Rattle.std.specs.Prelude.{codes, ◌≡◌, ◌≢◌, ◌↔◌, ℕ, suc, List, [], ◌∷◌, ⊤}
use Rattle.wy_text.specs.declared.fault.Place.{Place}
use Rattle.wy_text.specs.declared.token.Token.{Token}
use Rattle.wy_text.specs.declared.token.TokenKind.TheVariants as kind
use Rattle.wy_layout.specs.Layout.{Lexes}
use Rattle.wy_syntax.specs.Trees.{ItemTree}
use Rattle.wy_text.specs.Members.{In}
use Rattle.wy_types.specs.declared.resolved.TypeDecl.{TypeDecl}
use Rattle.wy_types.specs.Primitive.{former_types, primitive_types}
use Rattle.wy_types.specs.Program.{Program}
use Rattle.wy_symbols.specs.Declarations.{all_items}
use Rattle.wy_names.specs.Names.{ResolvesOver}
use Rattle.wy_authority.specs.Report.{report_text}
use Rattle.wy_authority.specs.declared.rows.Authority.{Authority}
use Rattle.wy_device.specs.Editions.{former}
use Rattle.wy_device.specs.RunEnds.{Trap}
use Rattle.wy_device.specs.Tapes.{Tapes}
use Rattle.wy_device.specs.Traps.{LongText}
use Rattle.wy_meaning.specs.Start.{meaning}
use Rattle.wy_meaning.specs.Widening.{HasShortTexts, in_edition}
use Rattle.wy_sound.specs.Programs.{program_starts}
use Rattle.wy_editions.specs.Editions.{AreAccepted, AreJudged}
use Rattle.wy_engine.specs.FileTrees.{HaveTrees}
use Rattle.wy_engine.specs.Judgement.{authority_text}
use Rattle.wy_engine.specs.Passing.{Passes}

-- no name among the tokens of the file is `x`
abbrev pub FileLacks : List ℕ → ℕ → List ℕ → Type 0
FileLacks x file bytes = (tokens : List Token) → Lexes file bytes tokens → (t : Token) → In t tokens → t.kind ≡ kind.Name x → ⊥

-- .. nor among those of the files, the first of which has this number
abbrev pub TextsLack : List ℕ → ℕ → List (List ℕ) → Type 0
TextsLack x file [] = ⊤
TextsLack x file (bytes ∷ texts) = FileLacks x file bytes × TextsLack x (suc file) texts

abbrev pub AreOldTexts : List (List ℕ) → Type 0
AreOldTexts texts = TextsLack (codes "FullFolder") 1 texts

-- over a table of primitive types the texts are accepted, and this is the report
pub record AreReported (table : List TypeDecl) (texts : List (List ℕ)) (report : List ℕ) : Type 0 where
  pub trees : List (List ItemTree)
  pub have : HaveTrees 1 texts trees
  pub authority : Authority
  pub judged : AreJudged table (all_items trees) authority
  pub text : report ≡ report_text authority

-- .. whatever its size: the limits on types and instances are left aside
pub record AreReportedBeyond (table : List TypeDecl) (texts : List (List ℕ)) (report : List ℕ) : Type 0 where
  pub trees : List (List ItemTree)
  pub have : HaveTrees 1 texts trees
  pub authority : Authority
  pub accepted : AreAccepted table (all_items trees) authority
  pub text : report ≡ report_text authority

-- over today's table these are the texts that pass, with their reports
abbrev pub ReportedArePassed : Type 0
ReportedArePassed = (texts : List (List ℕ)) (report : List ℕ) → AreReported primitive_types texts report ↔ ((program : Program) × Passes texts program × (report ≡ authority_text program))

abbrev pub OldTextsAreJudgedAlike : Type 0
OldTextsAreJudgedAlike = (texts : List (List ℕ)) → AreOldTexts texts → (report : List ℕ) → AreReported former_types texts report ↔ AreReported primitive_types texts report

abbrev pub OldTextsAreAcceptedAlike : Type 0
OldTextsAreAcceptedAlike = (texts : List (List ℕ)) → AreOldTexts texts → (report : List ℕ) → AreReportedBeyond former_types texts report ↔ AreReportedBeyond primitive_types texts report

-- over a table of primitive types the texts are those of a program
pub record AreOf (table : List TypeDecl) (texts : List (List ℕ)) (program : Program) : Type 0 where
  pub trees : List (List ItemTree)
  pub have : HaveTrees 1 texts trees
  pub resolves : ResolvesOver table (all_items trees) program

-- unless a text that is too long for the edition before is built
abbrev pub OldTextsMeanTheSame : Type 0
OldTextsMeanTheSame =
    (texts : List (List ℕ)) → AreOldTexts texts → (old new : Program) → AreOf former_types texts old → AreOf primitive_types texts new →
    (n : ℕ) (tapes : Tapes) → HasShortTexts former.longest tapes →
    ((place : Place) → (meaning n old (in_edition former (program_starts old)) tapes).end ≢ Trap LongText place) →
    meaning n old (in_edition former (program_starts old)) tapes ≡ meaning n new (program_starts new) tapes
