-- An operation on a grant: what traps before the device is asked, and what its answer is in a run.
-- (docs/LANGUAGE.md, "Operations on grants")
use Rattle.std.specs.Prelude.{ℕ, ◌+◌, not, ◌&&◌, List, [], ◌∷◌, nat_lt, Option, Some, None, if◌then◌else◌}
use Rattle.wy_text.specs.declared.fault.Place.{Place}
use Rattle.wy_device.specs.declared.operation.Op.{Op}
use Rattle.wy_device.specs.declared.operation.Answer.{Answer}
use Rattle.wy_device.specs.declared.operation.Answer.TheVariants as answer
use Rattle.wy_device.specs.declared.deed.Deed.{Deed as DeedRecord}
use Rattle.wy_device.specs.declared.deed.Event.TheVariants.{Deed}
use Rattle.wy_device.specs.Editions.{Edition}
use Rattle.wy_device.specs.Operation.{name_of}
use Rattle.wy_device.specs.Requests.{operation_of, has_good_name, answers_text, Told, Answers, Fails, Waits, asked_within}
use Rattle.wy_device.specs.RunEnds.{Trap, DeviceFailed, Waiting, Wrong}
use Rattle.wy_device.specs.Traps.{most_texts, BadName, Crowded}
use Rattle.wy_meaning.specs.Values.{Value, Int, Truth, Nothing, Text, Object, Grant, World, replied, Reply}
use Rattle.wy_meaning.specs.Starts.{GrantIs}
use Rattle.wy_meaning.specs.Results.{Result, stop, told, settle}

abbrev pub text_of : Value → Option (List ℕ)
text_of (Text bytes) = Some bytes
text_of (Int n) = None
text_of (Truth b) = None
text_of Nothing = None
text_of (Object a) = None
text_of (Grant g) = None

abbrev pub with_text : Option (List ℕ) → Option (List (List ℕ)) → Option (List (List ℕ))
with_text None rest = None
with_text (Some bytes) None = None
with_text (Some bytes) (Some texts) = Some (bytes ∷ texts)

-- the texts, where all values are texts
abbrev pub texts_of : List Value → Option (List (List ℕ))
texts_of [] = Some []
texts_of (v ∷ vs) = with_text (text_of v) (texts_of vs)

-- an answer as a value; a text that is answered counts as built
abbrev pub value_answered : Answer → World → Reply
value_answered (answer.Bytes text) w = replied (Text text) (record w { built = w.built + 1 })
value_answered (answer.Truth truth) w = replied (Truth truth) w
value_answered (answer.Number number) w = replied (Int number) w
value_answered answer.Unit w = replied Nothing w

abbrev pub deed : List ℕ → Op → Option Answer → DeedRecord
deed grant op answer = record { grant = grant; op = op; answer = answer }

abbrev pub answered : List ℕ → Op → World → Told → Result Value
answered grant op w (Answers a tapes) = told (Deed (deed grant op (Some a))) (settle (value_answered a (record w { tapes = tapes })))
answered grant op w (Fails tapes) = told (Deed (deed grant op None)) (stop (DeviceFailed grant (name_of op)) (record w { tapes = tapes }))
answered grant op w Waits = stop Waiting w

-- a name that is no file's traps first, then one text too many; then the device is asked
abbrev pub requested : Edition → Place → List ℕ → World → Option Op → Result Value
requested edition place grant w None = stop Wrong w
requested edition place grant w (Some op) =
    if not (has_good_name op) then stop (Trap BadName place) w
    else if answers_text op && not (nat_lt w.built most_texts) then stop (Trap Crowded place) w
    else answered grant op w (asked_within edition.longest op w.tapes)

abbrev pub requested_of : Edition → Place → Option GrantIs → List ℕ → World → Option (List (List ℕ)) → Result Value
requested_of edition place None method w texts = stop Wrong w
requested_of edition place (Some g) method w None = stop Wrong w
requested_of edition place (Some g) method w (Some texts) = requested edition place g.name w (operation_of g.primitive method texts)

-- the method of a grant with these arguments
unfoldable pub perform : Edition → Place → Option GrantIs → List ℕ → List Value → World → Result Value
perform edition place grant method vs w = requested_of edition place grant method w (texts_of vs)
