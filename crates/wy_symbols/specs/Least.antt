-- Which refusal comes first.
use Rattle.std.specs.Prelude.{◌≡◌, ℕ, Bool, false, List, [], ◌∷◌, Option, Some, None, nat_lt, ◌==◌, ◌&&◌, ◌||◌, if◌then◌else◌}
use Rattle.wy_text.specs.declared.fault.Place.{Place}
use Rattle.wy_syntax.specs.Before.{is_before}
use Rattle.wy_symbols.specs.declared.refusal.Cause.{Cause}
use Rattle.wy_symbols.specs.declared.refusal.Cause.TheVariants.{Unknown, Twice, Cycle, TwoPrograms, MemberUndefined, MemberUnknown}
use Rattle.wy_symbols.specs.declared.refusal.Refusal.{Refusal}

-- the order of causes at one place
abbrev pub cause_number : Cause → ℕ
cause_number Unknown = 1
cause_number Twice = 2
cause_number Cycle = 3
cause_number TwoPrograms = 5
cause_number MemberUndefined = 6
cause_number MemberUnknown = 7

abbrev pub same_place : Place → Place → Bool
same_place a b = a.file == b.file && (a.line == b.line && a.column == b.column)

-- the first stands before the second: at a lesser place, or at one place with a lesser number
abbrev pub comes_before : Refusal → Refusal → Bool
comes_before a b = is_before a.place b.place || (same_place a.place b.place && nat_lt (cause_number a.cause) (cause_number b.cause))

abbrev pub refusal_at : Place → Cause → Refusal
refusal_at place cause = record { place = place; cause = cause }

-- of the refusals that there are it is one, and none stands before it
pub record IsLeast (Refuses : Refusal → Type 0) (r : Refusal) : Type 0 where
  pub among : Refuses r
  pub least : (x : Refusal) → Refuses x → comes_before x r ≡ false

-- the lesser of the one so far and another
abbrev pub lesser : Option Refusal → Refusal → Refusal
lesser None b = b
lesser (Some a) b = if comes_before b a then b else a

-- the least of a list of refusals and the one so far
abbrev pub noted : Option Refusal → List Refusal → Option Refusal
noted old [] = old
noted old (r ∷ rs) = noted (Some (lesser old r)) rs
