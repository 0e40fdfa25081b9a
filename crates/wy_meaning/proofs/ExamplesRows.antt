-- The meaning of whole programs: their events, ends and counts.
use Rattle.std.proofs.Common.{codes, ◌≡◌, ℕ, pos, List, [], ◌∷◌, ◌++◌, Option, Some, None, true, false, refl}
use Rattle.std.specs.Fmt.{digits}
use Rattle.wy_types.specs.Program.{Program}
use Rattle.wy_device.specs.Operators.{operate_within}
use Rattle.wy_device.specs.RunEnds.{Ended, Trap, TooDeep, DeviceFailed, Waiting}
use Rattle.wy_device.specs.Tapes.{Tapes}
use Rattle.wy_device.specs.Traps.{Overflow, ZeroDivisor, BadName}
use Rattle.wy_device.specs.declared.operation.Answer.{Answer}
use Rattle.wy_device.specs.declared.operation.Answer.TheVariants as answer
use Rattle.wy_device.specs.declared.operation.Op.TheVariants.{ConsoleWrite, FolderRead, FolderAppend, ClockNow}
use Rattle.wy_device.specs.declared.operation.OpName.TheVariants as name
use Rattle.wy_device.specs.declared.deed.Event.{Event}
use Rattle.wy_meaning.specs.Eval.{eval, eval_value, eval_all, eval_block, open_calls}
use Rattle.wy_meaning.specs.Performing.{perform}
use Rattle.wy_meaning.specs.Results.{give, stop, node, tick, told, settle, added, bind, whole}
use Rattle.wy_meaning.specs.Start.{Course, fill_all, begin, meaning}
use Rattle.wy_meaning.specs.Starts.{Started, starts_of}
use Rattle.wy_meaning.proofs.Programs.{at, no_tapes, console_tape, folder_tape, entered, did, left}
use Rattle.wy_meaning.proofs.Rows.{empty, hello, logger, logger_started, kept_callback, kept_callback_started, readonly, readonly_started, escaping_object, escaping_started, overflow, zero_divisor, least_remainder, deep, deep_started, receiver_first, receiver_first_started, three_files, three_files_started, counter, nested, nested_started, bad_name, samples}

abbrev means : Program → List Started → Tapes → Course
means p started tapes = meaning 10 p (starts_of p started) tapes

abbrev done : Option Answer
done = Some answer.Unit

empty_is : means empty [] no_tapes ≡ record { end = Ended; events = entered (codes "main") (codes "run") ∷ left ∷ []; nodes = 2; steps = 2 }
unfolding give stop node tick told settle added bind whole eval eval_value eval_all eval_block open_calls perform operate_within fill_all begin meaning
empty_is = refl

hello_is : means hello [] (console_tape (done ∷ []))
    ≡ record { end = Ended; events = entered (codes "main") (codes "run") ∷ did (codes "console") (ConsoleWrite (codes "hello\n")) done ∷ left ∷ []; nodes = 4; steps = 4 }
unfolding give stop node tick told settle added bind whole eval eval_value eval_all eval_block open_calls perform operate_within fill_all begin meaning
hello_is = refl

logger_is : means logger logger_started (folder_tape (done ∷ []))
    ≡ record {
      end = Ended;
      events =
          entered (codes "lg") (codes "init") ∷ left ∷ entered (codes "main") (codes "run") ∷ entered (codes "lg") (codes "log") ∷
          did (codes "disk") (FolderAppend (codes "log") (codes "a")) done ∷ left ∷ left ∷ [];
      nodes = 10;
      steps = 10;
    }
unfolding give stop node tick told settle added bind whole eval eval_value eval_all eval_block open_calls perform operate_within fill_all begin meaning
logger_is = refl

-- the callback that the plain module was handed first, and then the one that it keeps
kept_callback_is : means kept_callback kept_callback_started (folder_tape (done ∷ done ∷ []))
    ≡ record {
      end = Ended;
      events =
          entered (codes "a") (codes "init") ∷ left ∷ entered (codes "p") (codes "init") ∷ left ∷ entered (codes "main") (codes "run") ∷
          entered (codes "p") (codes "go") ∷ entered (codes "a") (codes "fire") ∷ did (codes "disk") (FolderAppend (codes "f") (codes "go")) done ∷ left ∷ left ∷
          entered (codes "p") (codes "keep") ∷ left ∷
          entered (codes "p") (codes "go") ∷ entered (codes "main") (codes "new1.fire") ∷ did (codes "disk") (FolderAppend (codes "g") (codes "go")) done ∷ left ∷ left ∷
          left ∷ [];
      nodes = 34;
      steps = 38;
    }
unfolding digits give stop node tick told settle added bind whole eval eval_value eval_all eval_block open_calls perform operate_within fill_all begin meaning
kept_callback_is = refl

readonly_is : means readonly readonly_started (folder_tape (Some (answer.Bytes (codes "q")) ∷ []))
    ≡ record {
      end = Ended;
      events =
          entered (codes "ro") (codes "init") ∷ left ∷ entered (codes "main") (codes "run") ∷
          entered (codes "ro") (codes "read") ∷ did (codes "disk") (FolderRead (codes "y")) (Some (answer.Bytes (codes "q"))) ∷ left ∷
          entered (codes "ro") (codes "write") ∷ left ∷ left ∷ [];
      nodes = 14;
      steps = 14;
    }
unfolding give stop node tick told settle added bind whole eval eval_value eval_all eval_block open_calls perform operate_within fill_all begin meaning
readonly_is = refl

escaping_is : means escaping_object escaping_started (folder_tape (done ∷ []))
    ≡ record {
      end = Ended;
      events =
          entered (codes "m") (codes "init") ∷ left ∷ entered (codes "main") (codes "run") ∷ entered (codes "m") (codes "make") ∷ left ∷
          entered (codes "m") (codes "new1.put") ∷ did (codes "disk") (FolderAppend (codes "i") (codes "z")) done ∷ left ∷ left ∷ [];
      nodes = 13;
      steps = 13;
    }
unfolding digits give stop node tick told settle added bind whole eval eval_value eval_all eval_block open_calls perform operate_within fill_all begin meaning
escaping_is = refl

abbrev wrote : List ℕ → Event
wrote text = did (codes "console") (ConsoleWrite text) done

-- the quotient of the least Int by -1 traps before the second write, and so does a zero divisor; the remainder is 0
overflow_is : means overflow [] (console_tape (done ∷ done ∷ []))
    ≡ record { end = Trap Overflow (at 5 34); events = entered (codes "main") (codes "run") ∷ wrote (codes "a") ∷ []; nodes = 8; steps = 7 }
unfolding give stop node tick told settle added bind whole eval eval_value eval_all eval_block open_calls perform operate_within fill_all begin meaning
overflow_is = refl

zero_divisor_is : means zero_divisor [] (console_tape (done ∷ done ∷ []))
    ≡ record { end = Trap ZeroDivisor (at 5 15); events = entered (codes "main") (codes "run") ∷ wrote (codes "a") ∷ []; nodes = 8; steps = 7 }
unfolding give stop node tick told settle added bind whole eval eval_value eval_all eval_block open_calls perform operate_within fill_all begin meaning
zero_divisor_is = refl

least_remainder_is : means least_remainder [] (console_tape (done ∷ done ∷ []))
    ≡ record { end = Ended; events = entered (codes "main") (codes "run") ∷ wrote (codes "a") ∷ wrote (codes "b") ∷ left ∷ []; nodes = 11; steps = 12 }
unfolding give stop node tick told settle added bind whole eval eval_value eval_all eval_block open_calls perform operate_within fill_all begin meaning
least_remainder_is = refl

abbrev deep_at : ℕ → Course
deep_at n = meaning n deep (starts_of deep deep_started) (console_tape (done ∷ []))

abbrev deep_events : List Event → List Event
deep_events calls = entered (codes "l") (codes "init") ∷ left ∷ entered (codes "main") (codes "run") ∷ wrote (codes "s") ∷ calls

-- with no call open at once, with one, and with three
deep_0_is : deep_at 0 ≡ record { end = TooDeep; events = deep_events []; nodes = 7; steps = 7 }
unfolding give stop node tick told settle added bind whole eval eval_value eval_all eval_block open_calls perform operate_within fill_all begin meaning
deep_0_is = refl

deep_1_is : deep_at 1 ≡ record { end = TooDeep; events = deep_events (entered (codes "l") (codes "go") ∷ []); nodes = 10; steps = 9 }
unfolding give stop node tick told settle added bind whole eval eval_value eval_all eval_block open_calls perform operate_within fill_all begin meaning
deep_1_is = refl

deep_3_is : deep_at 3
    ≡ record { end = TooDeep; events = deep_events (entered (codes "l") (codes "go") ∷ entered (codes "l") (codes "go") ∷ entered (codes "l") (codes "go") ∷ []); nodes = 16; steps = 13 }
unfolding give stop node tick told settle added bind whole eval eval_value eval_all eval_block open_calls perform operate_within fill_all begin meaning
deep_3_is = refl

-- the receiver's write comes before the argument's question
receiver_first_is : means receiver_first receiver_first_started (record { console = done ∷ done ∷ []; folder = []; clock = Some (answer.Number (pos 7)) ∷ []; random = [] })
    ≡ record {
      end = Ended;
      events =
          entered (codes "g") (codes "init") ∷ left ∷ entered (codes "main") (codes "run") ∷ entered (codes "g") (codes "get") ∷ wrote (codes "1") ∷ left ∷
          did (codes "clock") ClockNow (Some (answer.Number (pos 7))) ∷ entered (codes "g") (codes "new1.put") ∷ wrote (codes "7") ∷ left ∷ left ∷ [];
      nodes = 17;
      steps = 18;
    }
unfolding digits give stop node tick told settle added bind whole eval eval_value eval_all eval_block open_calls perform operate_within fill_all begin meaning
receiver_first_is = refl

abbrev answered : List ℕ → Option Answer
answered text = Some (answer.Bytes text)

abbrev three_files_events : List ℕ → List ℕ → List Event
three_files_events text safe =
    entered (codes "pure clean") (codes "init") ∷ left ∷ entered (codes "lg") (codes "init") ∷ left ∷ entered (codes "rep") (codes "init") ∷ left ∷
    entered (codes "main") (codes "run") ∷ entered (codes "rep") (codes "each") ∷
    did (codes "data") (FolderRead (codes "in")) (answered text) ∷
    entered (codes "lg") (codes "log") ∷ entered (codes "pure clean") (codes "safe") ∷ left ∷
    did (codes "logs") (FolderAppend (codes "log") (safe ++ codes "\n")) done ∷ left ∷
    entered (codes "main") (codes "new1.got") ∷ entered (codes "pure clean") (codes "safe") ∷ left ∷
    did (codes "console") (ConsoleWrite safe) done ∷ left ∷ left ∷
    entered (codes "lg") (codes "log") ∷ entered (codes "pure clean") (codes "safe") ∷ left ∷
    did (codes "logs") (FolderAppend (codes "log") (codes "done\n")) done ∷ left ∷ left ∷ []

abbrev three_files_with : List ℕ → Course
three_files_with text =
    means three_files three_files_started (record { console = done ∷ []; folder = answered text ∷ done ∷ done ∷ []; clock = []; random = [] })

three_files_is : three_files_with (codes "x") ≡ record { end = Ended; events = three_files_events (codes "x") (codes "x"); nodes = 69; steps = 74 }
unfolding digits give stop node tick told settle added bind whole eval eval_value eval_all eval_block open_calls perform operate_within fill_all begin meaning
three_files_is = refl

three_files_without_a_file_is : three_files_with [] ≡ record { end = Ended; events = three_files_events [] (codes "empty"); nodes = 69; steps = 76 }
unfolding digits give stop node tick told settle added bind whole eval eval_value eval_all eval_block open_calls perform operate_within fill_all begin meaning
three_files_without_a_file_is = refl

-- a failed write is the last event; with no answer left, or before one that is not a write's, the run waits
failed_is : means hello [] (console_tape (None ∷ []))
    ≡ record { end = DeviceFailed (codes "console") name.ConsoleWrite; events = entered (codes "main") (codes "run") ∷ did (codes "console") (ConsoleWrite (codes "hello\n")) None ∷ []; nodes = 4; steps = 3 }
unfolding give stop node tick told settle added bind whole eval eval_value eval_all eval_block open_calls perform operate_within fill_all begin meaning
failed_is = refl

waiting_is : means hello [] no_tapes ≡ record { end = Waiting; events = entered (codes "main") (codes "run") ∷ []; nodes = 4; steps = 3 }
unfolding give stop node tick told settle added bind whole eval eval_value eval_all eval_block open_calls perform operate_within fill_all begin meaning
waiting_is = refl

misfit_is : means hello [] (console_tape (Some (answer.Truth true) ∷ [])) ≡ record { end = Waiting; events = entered (codes "main") (codes "run") ∷ []; nodes = 4; steps = 3 }
unfolding give stop node tick told settle added bind whole eval eval_value eval_all eval_block open_calls perform operate_within fill_all begin meaning
misfit_is = refl

-- a field is read where a method runs, with the value that it has then
counter_is : means counter [] (console_tape (done ∷ []))
    ≡ record {
      end = Ended;
      events =
          entered (codes "main") (codes "run") ∷ entered (codes "main") (codes "new1.add") ∷ left ∷ entered (codes "main") (codes "new1.add") ∷ left ∷
          entered (codes "main") (codes "new1.show") ∷ wrote (codes "abxcx") ∷ left ∷ left ∷ [];
      nodes = 32;
      steps = 36;
    }
unfolding digits give stop node tick told settle added bind whole eval eval_value eval_all eval_block open_calls perform operate_within fill_all begin meaning
counter_is = refl

nested_is : means nested nested_started (console_tape (done ∷ []))
    ≡ record {
      end = Ended;
      events =
          entered (codes "m") (codes "init") ∷ left ∷ entered (codes "main") (codes "run") ∷ entered (codes "m") (codes "make") ∷ left ∷
          entered (codes "m") (codes "new1.put") ∷ left ∷ entered (codes "m") (codes "new2.last") ∷ wrote (codes "abc") ∷ left ∷ left ∷ [];
      nodes = 21;
      steps = 21;
    }
unfolding digits give stop node tick told settle added bind whole eval eval_value eval_all eval_block open_calls perform operate_within fill_all begin meaning
nested_is = refl

bad_name_is : means bad_name [] (folder_tape (Some (answer.Bytes []) ∷ [])) ≡ record { end = Trap BadName (at 4 18); events = entered (codes "main") (codes "run") ∷ []; nodes = 5; steps = 3 }
unfolding give stop node tick told settle added bind whole eval eval_value eval_all eval_block open_calls perform operate_within fill_all begin meaning
bad_name_is = refl

samples_is : means (samples true) [] (console_tape (done ∷ done ∷ []))
    ≡ record { end = Ended; events = entered (codes "main") (codes "run") ∷ wrote (codes "bcA98-3") ∷ wrote (codes "y") ∷ left ∷ []; nodes = 32; steps = 36 }
unfolding digits give stop node tick told settle added bind whole eval eval_value eval_all eval_block open_calls perform operate_within fill_all begin meaning
samples_is = refl

samples_trap : means (samples false) [] (console_tape (done ∷ done ∷ []))
    ≡ record { end = Trap ZeroDivisor (at 7 9); events = entered (codes "main") (codes "run") ∷ wrote (codes "bcA98-3") ∷ []; nodes = 33; steps = 30 }
unfolding digits give stop node tick told settle added bind whole eval eval_value eval_all eval_block open_calls perform operate_within fill_all begin meaning
samples_trap = refl
