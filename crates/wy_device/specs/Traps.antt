-- Why a run traps, and how the reason is printed. (docs/LANGUAGE.md, "Traps")
use Rattle.std.specs.Prelude.{codes, ℕ, List}

-- a number out of range, a division by zero, a place outside a text, a text too long, a name that is no file's,
-- and one more object or text than a run may make
pub data TrapKind : Type 0 where
  Overflow : TrapKind
  ZeroDivisor : TrapKind
  BadPart : TrapKind
  LongText : TrapKind
  BadName : TrapKind
  Crowded : TrapKind

abbrev pub trap_text : TrapKind → List ℕ
trap_text Overflow = codes "Overflow"
trap_text ZeroDivisor = codes "ZeroDivisor"
trap_text BadPart = codes "BadPart"
trap_text LongText = codes "LongText"
trap_text BadName = codes "BadName"
trap_text Crowded = codes "Crowded"

-- how many bytes a text of a run may have
abbrev pub text_limit : ℕ
text_limit = 4194304

-- how many objects made by `new`, and how many texts built, a run may have
abbrev pub most_objects : ℕ
most_objects = 4194304

abbrev pub most_texts : ℕ
most_texts = 4194304
