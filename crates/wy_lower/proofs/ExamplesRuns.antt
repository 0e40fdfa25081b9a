-- The machine runs the code of whole programs as the programs mean it: with the same end and events, after exactly
-- as many steps; and with one step less it is spent.
use Rattle.std.proofs.Common.{codes, ◌≡◌, ℕ, pos, ◌+◌, List, [], ◌∷◌, Option, Some, None, true, false, refl}
use Rattle.std.specs.Fmt.{digits}
use Rattle.wy_types.specs.Program.{Program}
use Rattle.wy_device.specs.Operators.{operate_within}
use Rattle.wy_device.specs.RunEnds.{Spent}
use Rattle.wy_device.specs.Tapes.{Tapes}
use Rattle.wy_device.specs.declared.operation.Answer.{Answer}
use Rattle.wy_device.specs.declared.operation.Answer.TheVariants as answer
use Rattle.wy_device.specs.declared.operation.Op.TheVariants.{FolderAppend}
use Rattle.wy_meaning.specs.Eval.{eval, eval_value, eval_all, eval_block, open_calls}
use Rattle.wy_meaning.specs.Performing.{perform}
use Rattle.wy_meaning.specs.Results.{give, stop, node, tick, told, settle, added, bind, whole}
use Rattle.wy_meaning.specs.Start.{Course, fill_all, begin, meaning}
use Rattle.wy_meaning.specs.Starts.{Started, starts_of}
use Rattle.wy_meaning.proofs.Programs.{no_tapes, console_tape, folder_tape, entered, did, left}
use Rattle.wy_meaning.proofs.Rows.{empty, hello, logger, logger_started, kept_callback, kept_callback_started, readonly, readonly_started, escaping_object, escaping_started, overflow, zero_divisor, least_remainder, deep, deep_started, receiver_first, receiver_first_started, three_files, three_files_started, counter, nested, nested_started, bad_name, samples}
use Rattle.wy_code.specs.Machine.{step}
use Rattle.wy_code.specs.Running.{Ran, steps, machine}
use Rattle.wy_lower.specs.Listing.{listing, value_listing, values_listing, block_listing, fields_listing}
use Rattle.wy_lower.specs.Operands.{operands, value_operands, values_operands, block_operands, fields_operands}
use Rattle.wy_lower.specs.Lowering.{lowered}

-- what a program means, as a run of exactly its steps
abbrev meant : ℕ → Program → List Started → Tapes → Ran
meant n p started tapes =
    let c : Course = meaning n p (starts_of p started) tapes in
    record { end = c.end; events = c.events; taken = c.steps }

-- at most k steps of a program's code
abbrev runs : ℕ → ℕ → Program → List Started → Tapes → Ran
runs n k p started tapes = machine (lowered p (starts_of p started)) n k tapes

-- the run of as many steps is what the program means, and with one step less it is spent
record RunsIn (n q : ℕ) (p : Program) (started : List Started) (tapes : Tapes) : Type 0 where
  whole : runs n (q + 1) p started tapes ≡ meant n p started tapes
  exact : (meant n p started tapes).taken ≡ q + 1
  short : (runs n q p started tapes).end ≡ Spent

abbrev done : Option Answer
done = Some answer.Unit

abbrev answered : List ℕ → Option Answer
answered text = Some (answer.Bytes text)

empty_runs : RunsIn 10 1 empty [] no_tapes
unfolding digits give stop node tick told settle added bind whole eval eval_value eval_all eval_block open_calls perform operate_within fill_all begin meaning listing value_listing values_listing block_listing fields_listing operands value_operands values_operands block_operands fields_operands lowered step steps machine
empty_runs = record { whole = refl; exact = refl; short = refl }

hello_runs : RunsIn 10 3 hello [] (console_tape (done ∷ []))
unfolding digits give stop node tick told settle added bind whole eval eval_value eval_all eval_block open_calls perform operate_within fill_all begin meaning listing value_listing values_listing block_listing fields_listing operands value_operands values_operands block_operands fields_operands lowered step steps machine
hello_runs = record { whole = refl; exact = refl; short = refl }

logger_runs : RunsIn 10 9 logger logger_started (folder_tape (done ∷ []))
unfolding digits give stop node tick told settle added bind whole eval eval_value eval_all eval_block open_calls perform operate_within fill_all begin meaning listing value_listing values_listing block_listing fields_listing operands value_operands values_operands block_operands fields_operands lowered step steps machine
logger_runs = record { whole = refl; exact = refl; short = refl }

kept_callback_runs : RunsIn 10 37 kept_callback kept_callback_started (folder_tape (done ∷ done ∷ []))
unfolding digits give stop node tick told settle added bind whole eval eval_value eval_all eval_block open_calls perform operate_within fill_all begin meaning listing value_listing values_listing block_listing fields_listing operands value_operands values_operands block_operands fields_operands lowered step steps machine
kept_callback_runs = record { whole = refl; exact = refl; short = refl }

readonly_runs : RunsIn 10 13 readonly readonly_started (folder_tape (answered (codes "q") ∷ []))
unfolding digits give stop node tick told settle added bind whole eval eval_value eval_all eval_block open_calls perform operate_within fill_all begin meaning listing value_listing values_listing block_listing fields_listing operands value_operands values_operands block_operands fields_operands lowered step steps machine
readonly_runs = record { whole = refl; exact = refl; short = refl }

escaping_object_runs : RunsIn 10 12 escaping_object escaping_started (folder_tape (done ∷ []))
unfolding digits give stop node tick told settle added bind whole eval eval_value eval_all eval_block open_calls perform operate_within fill_all begin meaning listing value_listing values_listing block_listing fields_listing operands value_operands values_operands block_operands fields_operands lowered step steps machine
escaping_object_runs = record { whole = refl; exact = refl; short = refl }

overflow_runs : RunsIn 10 6 overflow [] (console_tape (done ∷ done ∷ []))
unfolding digits give stop node tick told settle added bind whole eval eval_value eval_all eval_block open_calls perform operate_within fill_all begin meaning listing value_listing values_listing block_listing fields_listing operands value_operands values_operands block_operands fields_operands lowered step steps machine
overflow_runs = record { whole = refl; exact = refl; short = refl }

zero_divisor_runs : RunsIn 10 6 zero_divisor [] (console_tape (done ∷ done ∷ []))
unfolding digits give stop node tick told settle added bind whole eval eval_value eval_all eval_block open_calls perform operate_within fill_all begin meaning listing value_listing values_listing block_listing fields_listing operands value_operands values_operands block_operands fields_operands lowered step steps machine
zero_divisor_runs = record { whole = refl; exact = refl; short = refl }

least_remainder_runs : RunsIn 10 11 least_remainder [] (console_tape (done ∷ done ∷ []))
unfolding digits give stop node tick told settle added bind whole eval eval_value eval_all eval_block open_calls perform operate_within fill_all begin meaning listing value_listing values_listing block_listing fields_listing operands value_operands values_operands block_operands fields_operands lowered step steps machine
least_remainder_runs = record { whole = refl; exact = refl; short = refl }

-- at depth 0, 1 and 3
deep_0_runs : RunsIn 0 6 deep deep_started (console_tape (done ∷ []))
unfolding digits give stop node tick told settle added bind whole eval eval_value eval_all eval_block open_calls perform operate_within fill_all begin meaning listing value_listing values_listing block_listing fields_listing operands value_operands values_operands block_operands fields_operands lowered step steps machine
deep_0_runs = record { whole = refl; exact = refl; short = refl }

deep_1_runs : RunsIn 1 8 deep deep_started (console_tape (done ∷ []))
unfolding digits give stop node tick told settle added bind whole eval eval_value eval_all eval_block open_calls perform operate_within fill_all begin meaning listing value_listing values_listing block_listing fields_listing operands value_operands values_operands block_operands fields_operands lowered step steps machine
deep_1_runs = record { whole = refl; exact = refl; short = refl }

deep_3_runs : RunsIn 3 12 deep deep_started (console_tape (done ∷ []))
unfolding digits give stop node tick told settle added bind whole eval eval_value eval_all eval_block open_calls perform operate_within fill_all begin meaning listing value_listing values_listing block_listing fields_listing operands value_operands values_operands block_operands fields_operands lowered step steps machine
deep_3_runs = record { whole = refl; exact = refl; short = refl }

receiver_first_runs : RunsIn 10 17 receiver_first receiver_first_started (record { console = done ∷ done ∷ []; folder = []; clock = Some (answer.Number (pos 7)) ∷ []; random = [] })
unfolding digits give stop node tick told settle added bind whole eval eval_value eval_all eval_block open_calls perform operate_within fill_all begin meaning listing value_listing values_listing block_listing fields_listing operands value_operands values_operands block_operands fields_operands lowered step steps machine
receiver_first_runs = record { whole = refl; exact = refl; short = refl }

three_files_runs : RunsIn 10 73 three_files three_files_started (record { console = done ∷ []; folder = answered (codes "x") ∷ done ∷ done ∷ []; clock = []; random = [] })
unfolding digits give stop node tick told settle added bind whole eval eval_value eval_all eval_block open_calls perform operate_within fill_all begin meaning listing value_listing values_listing block_listing fields_listing operands value_operands values_operands block_operands fields_operands lowered step steps machine
three_files_runs = record { whole = refl; exact = refl; short = refl }

three_files_without_a_file_runs : RunsIn 10 75 three_files three_files_started (record { console = done ∷ []; folder = answered [] ∷ done ∷ done ∷ []; clock = []; random = [] })
unfolding digits give stop node tick told settle added bind whole eval eval_value eval_all eval_block open_calls perform operate_within fill_all begin meaning listing value_listing values_listing block_listing fields_listing operands value_operands values_operands block_operands fields_operands lowered step steps machine
three_files_without_a_file_runs = record { whole = refl; exact = refl; short = refl }

counter_runs : RunsIn 10 35 counter [] (console_tape (done ∷ []))
unfolding digits give stop node tick told settle added bind whole eval eval_value eval_all eval_block open_calls perform operate_within fill_all begin meaning listing value_listing values_listing block_listing fields_listing operands value_operands values_operands block_operands fields_operands lowered step steps machine
counter_runs = record { whole = refl; exact = refl; short = refl }

nested_runs : RunsIn 10 20 nested nested_started (console_tape (done ∷ []))
unfolding digits give stop node tick told settle added bind whole eval eval_value eval_all eval_block open_calls perform operate_within fill_all begin meaning listing value_listing values_listing block_listing fields_listing operands value_operands values_operands block_operands fields_operands lowered step steps machine
nested_runs = record { whole = refl; exact = refl; short = refl }

bad_name_runs : RunsIn 10 2 bad_name [] (folder_tape (answered [] ∷ []))
unfolding digits give stop node tick told settle added bind whole eval eval_value eval_all eval_block open_calls perform operate_within fill_all begin meaning listing value_listing values_listing block_listing fields_listing operands value_operands values_operands block_operands fields_operands lowered step steps machine
bad_name_runs = record { whole = refl; exact = refl; short = refl }

samples_runs : RunsIn 10 35 (samples true) [] (console_tape (done ∷ done ∷ []))
unfolding digits give stop node tick told settle added bind whole eval eval_value eval_all eval_block open_calls perform operate_within fill_all begin meaning listing value_listing values_listing block_listing fields_listing operands value_operands values_operands block_operands fields_operands lowered step steps machine
samples_runs = record { whole = refl; exact = refl; short = refl }

samples_trap_runs : RunsIn 10 29 (samples false) [] (console_tape (done ∷ done ∷ []))
unfolding digits give stop node tick told settle added bind whole eval eval_value eval_all eval_block open_calls perform operate_within fill_all begin meaning listing value_listing values_listing block_listing fields_listing operands value_operands values_operands block_operands fields_operands lowered step steps machine
samples_trap_runs = record { whole = refl; exact = refl; short = refl }

-- a write that fails, one with no answer, and one before an answer that is not a write's
failed_runs : RunsIn 10 2 hello [] (console_tape (None ∷ []))
unfolding digits give stop node tick told settle added bind whole eval eval_value eval_all eval_block open_calls perform operate_within fill_all begin meaning listing value_listing values_listing block_listing fields_listing operands value_operands values_operands block_operands fields_operands lowered step steps machine
failed_runs = record { whole = refl; exact = refl; short = refl }

waiting_runs : RunsIn 10 2 hello [] no_tapes
unfolding digits give stop node tick told settle added bind whole eval eval_value eval_all eval_block open_calls perform operate_within fill_all begin meaning listing value_listing values_listing block_listing fields_listing operands value_operands values_operands block_operands fields_operands lowered step steps machine
waiting_runs = record { whole = refl; exact = refl; short = refl }

misfit_runs : RunsIn 10 2 hello [] (console_tape (Some (answer.Truth true) ∷ []))
unfolding digits give stop node tick told settle added bind whole eval eval_value eval_all eval_block open_calls perform operate_within fill_all begin meaning listing value_listing values_listing block_listing fields_listing operands value_operands values_operands block_operands fields_operands lowered step steps machine
misfit_runs = record { whole = refl; exact = refl; short = refl }

-- a step before its last one the logger has done its deed
logger_spent : runs 10 9 logger logger_started (folder_tape (done ∷ []))
    ≡ record {
      end = Spent;
      events =
          entered (codes "lg") (codes "init") ∷ left ∷ entered (codes "main") (codes "run") ∷ entered (codes "lg") (codes "log") ∷
          did (codes "disk") (FolderAppend (codes "log") (codes "a")) done ∷ left ∷ [];
      taken = 9;
    }
unfolding digits give stop node tick told settle added bind whole eval eval_value eval_all eval_block open_calls perform operate_within fill_all begin meaning listing value_listing values_listing block_listing fields_listing operands value_operands values_operands block_operands fields_operands lowered step steps machine
logger_spent = refl

-- with no step at all the first body is entered
logger_at_first : runs 10 0 logger logger_started no_tapes ≡ record { end = Spent; events = entered (codes "lg") (codes "init") ∷ []; taken = 0 }
unfolding digits give stop node tick told settle added bind whole eval eval_value eval_all eval_block open_calls perform operate_within fill_all begin meaning listing value_listing values_listing block_listing fields_listing operands value_operands values_operands block_operands fields_operands lowered step steps machine
logger_at_first = refl
