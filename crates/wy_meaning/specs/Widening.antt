-- What a program means in two editions of the language, where the second has longer texts than the first.
-- (docs/LANGUAGE.md, "Evaluation")
use Rattle.std.specs.Prelude.{◌≡◌, ◌≢◌, ◌≤◌, ℕ, ⊤, List, [], ◌∷◌, length, Option, Some, None}
use Rattle.wy_text.specs.declared.fault.Place.{Place}
use Rattle.wy_types.specs.Program.{Program}
use Rattle.wy_device.specs.declared.operation.Answer.{Answer}
use Rattle.wy_device.specs.declared.operation.Answer.TheVariants.{Bytes, Truth, Number, Unit as Done}
use Rattle.wy_device.specs.Editions.{Edition}
use Rattle.wy_device.specs.RunEnds.{Trap}
use Rattle.wy_device.specs.Tapes.{Tapes}
use Rattle.wy_device.specs.Traps.{LongText}
use Rattle.wy_meaning.specs.Start.{meaning}
use Rattle.wy_meaning.specs.Starts.{Starts, grant_of}

-- a text that is answered has at most so many bytes
abbrev pub IsShort : ℕ → Option Answer → Type 0
IsShort most None = ⊤
IsShort most (Some (Bytes text)) = length text ≤ most
IsShort most (Some (Truth truth)) = ⊤
IsShort most (Some (Number number)) = ⊤
IsShort most (Some Done) = ⊤

abbrev pub AreShort : ℕ → List (Option Answer) → Type 0
AreShort most [] = ⊤
AreShort most (a ∷ answers) = IsShort most a × AreShort most answers

-- no answer to come has a longer text
pub record HasShortTexts (most : ℕ) (tapes : Tapes) : Type 0 where
  pub console : AreShort most tapes.console
  pub folder : AreShort most tapes.folder
  pub clock : AreShort most tapes.clock
  pub random : AreShort most tapes.random

abbrev pub in_edition : Edition → Starts → Starts
in_edition edition s = record s { edition = edition }

-- the grants of a program are the same in both editions
abbrev pub HaveSameGrants : Edition → Edition → Program → Type 0
HaveSameGrants first second p = (g : ℕ) → grant_of first p g ≡ grant_of second p g

-- over answers that are no longer than the first has them, and where nothing is built that is too long for it, a program means in
-- the first what another one means in the second, at every depth
abbrev pub MeansTheSame : Edition → Edition → Program → Program → Starts → Type 0
MeansTheSame first second p other s =
    (n : ℕ) (tapes : Tapes) → HasShortTexts first.longest tapes →
    ((place : Place) → (meaning n p (in_edition first s) tapes).end ≢ Trap LongText place) →
    meaning n p (in_edition first s) tapes ≡ meaning n other (in_edition second s) tapes

-- so do two programs with the same scopes and, in both editions, the same grants
abbrev pub LongerTextsChangeNothingElse : Type 0
LongerTextsChangeNothingElse =
    (first second : Edition) (p other : Program) (s : Starts) → p.scopes ≡ other.scopes → first.longest ≤ second.longest → HaveSameGrants first second p → MeansTheSame first second p other s
