use Rattle.std.proofs.Common.{◌≡◌, drop}
use Rattle.wy_code.specs.Operations.{texts_named}
use Rattle.wy_device.specs.Tapes.{Tapes}
use Rattle.wy_machine.specs.Requesting.{after_texts}
use Rattle.wy_machine.specs.States.{store_of}
use Rattle.wy_machine.proofs.requests.texts_of.Given as goal

abbrev pub invariant-loop-word : goal.invariant-loop-word
invariant-loop-word l = (tapes : Tapes) → after_texts l.texts.items (texts_named (store_of l.code l.store tapes) (drop l.word-index l.words)) ≡ texts_named (store_of l.code l.store tapes) l.words
