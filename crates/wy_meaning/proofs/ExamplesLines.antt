-- Event lines and the lines of ends, byte by byte.
use Rattle.std.proofs.Common.{codes, ◌≡◌, ℕ, pos, negsuc, List, [], ◌∷◌, map, Some, None, true, false, refl}
use Rattle.std.specs.Fmt.{digits}
use Rattle.wy_device.specs.RunEnds.{Ended, Trap, TooDeep, DeviceFailed, Spent}
use Rattle.wy_device.specs.Traps.{Overflow, ZeroDivisor, BadName}
use Rattle.wy_device.specs.declared.operation.Answer.TheVariants as answer
use Rattle.wy_device.specs.declared.operation.Op.TheVariants.{ConsoleRead, ConsoleWrite, FolderRead, FolderHas, FolderWrite, FolderAppend, FolderNames, ClockNow, RandomWord, FolderRemove}
use Rattle.wy_device.specs.declared.operation.OpName.TheVariants as name
use Rattle.wy_meaning.specs.EndLines.{end_line}
use Rattle.wy_meaning.specs.EventLines.{event_line, event_lines}
use Rattle.wy_device.specs.Operators.{operate_within}
use Rattle.wy_meaning.specs.Eval.{eval, eval_value, eval_all, eval_block, open_calls}
use Rattle.wy_meaning.specs.Performing.{perform}
use Rattle.wy_meaning.specs.Results.{give, stop, node, tick, told, settle, added, bind, whole}
use Rattle.wy_meaning.specs.Start.{fill_all, begin, meaning}
use Rattle.wy_meaning.specs.Starts.{starts_of}
use Rattle.wy_meaning.proofs.Programs.{at, entered, did, left}
use Rattle.wy_meaning.proofs.Rows.{receiver_first, receiver_first_started}

hello_lines : event_lines (entered (codes "main") (codes "run") ∷ did (codes "console") (ConsoleWrite (codes "hello\n")) (Some answer.Unit) ∷ left ∷ [])
    ≡ codes "enter main run\ndeed console.write(\"hello\\n\") = ()\nleave\n"
hello_lines = refl

-- each operation and each kind of answer
deed_lines : map event_line (
    did (codes "console") ConsoleRead (Some (answer.Bytes (codes "a\tb\n"))) ∷ did (codes "console") ConsoleRead None ∷
    did (codes "disk") (FolderRead (codes "in")) (Some (answer.Bytes [])) ∷ did (codes "disk") (FolderHas (codes "in")) (Some (answer.Truth true)) ∷
    did (codes "disk") (FolderHas (codes "in")) (Some (answer.Truth false)) ∷
    did (codes "disk") (FolderWrite (codes "x") (codes "say \"a\"")) (Some answer.Unit) ∷
    did (codes "disk") (FolderAppend (codes "x") (92 ∷ 0 ∷ 255 ∷ [])) None ∷ did (codes "disk") FolderNames (Some (answer.Bytes (codes "a\nb\n"))) ∷
    did (codes "disk") (FolderRemove (codes "x")) (Some answer.Unit) ∷
    did (codes "clock") ClockNow (Some (answer.Number (pos 7))) ∷ did (codes "dice") RandomWord (Some (answer.Number (negsuc 11))) ∷ [])
    ≡ codes "deed console.read() = \"a\\tb\\n\"\n" ∷ codes "deed console.read() = failed\n" ∷
    codes "deed disk.read(\"in\") = \"\"\n" ∷ codes "deed disk.has(\"in\") = true\n" ∷
    codes "deed disk.has(\"in\") = false\n" ∷
    codes "deed disk.write(\"x\", \"say \\\"a\\\"\") = ()\n" ∷
    codes "deed disk.append(\"x\", \"\\\\\\x00\\xff\") = failed\n" ∷ codes "deed disk.names() = \"a\\nb\\n\"\n" ∷
    codes "deed disk.remove(\"x\") = ()\n" ∷
    codes "deed clock.now() = 7\n" ∷ codes "deed dice.word() = -12\n" ∷ []
unfolding digits
deed_lines = refl

abbrev word : ℕ → List ℕ
word file = codes "o.wy"

end_lines : map (end_line word 10000 9) (
    Ended ∷ Trap Overflow (at 5 34) ∷ Trap ZeroDivisor (at 5 15) ∷ Trap BadName (at 4 18) ∷ TooDeep ∷ Spent ∷ DeviceFailed (codes "console") name.ConsoleWrite ∷ [])
    ≡ [] ∷ codes "o.wy:5:34: trap: Overflow\n" ∷ codes "o.wy:5:15: trap: ZeroDivisor\n" ∷ codes "o.wy:4:18: trap: BadName\n" ∷
    codes "too deep: 10000\n" ∷ codes "spent: 9\n" ∷ codes "console.write: failed\n" ∷ []
unfolding digits
end_lines = refl

-- the trace of a whole program
receiver_first_trace : event_lines (meaning 10 receiver_first (starts_of receiver_first receiver_first_started) (record { console = Some answer.Unit ∷ Some answer.Unit ∷ []; folder = []; clock = Some (answer.Number (pos 7)) ∷ []; random = [] })).events
    ≡ codes "enter g init\nleave\nenter main run\nenter g get\ndeed console.write(\"1\") = ()\nleave\ndeed clock.now() = 7\nenter g new1.put\ndeed console.write(\"7\") = ()\nleave\nleave\n"
unfolding digits give stop node tick told settle added bind whole eval eval_value eval_all eval_block open_calls perform operate_within fill_all begin meaning
receiver_first_trace = refl
