-- What a refusal says.
use Rattle.std.specs.Prelude.{List}
use Rattle.wy_syntax.specs.Tokens.{Tok}
use Rattle.wy_parser.specs.declared.parsing.ParseRefusal.{ParseRefusal}
use Rattle.wy_parser.specs.declared.parsing.ParseRefusal.TheVariants as refusals
use Rattle.wy_parser.specs.Refusals.{IsFirstBad}

abbrev pub IsRefused : List Tok → ParseRefusal → Type 0
IsRefused ts (refusals.Unexpected place kind) = IsFirstBad ts (record { kind = kind; place = place })
IsRefused ts refusals.Memory = Unit {0}
