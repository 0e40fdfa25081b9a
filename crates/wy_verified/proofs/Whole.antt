-- Each step from a good state is fine, and so are whole runs.
use Rattle.std.proofs.Common.{◌≢◌, ℕ, zero, suc, List, [], ◌∷◌, map, refl, sym, subst, arith}
use Rattle.wy_text.specs.declared.fault.Place.{Place}
use Rattle.wy_device.specs.RunEnds.{Wrong}
use Rattle.wy_device.specs.Tapes.{Tapes}
use Rattle.wy_code.specs.declared.instruction.Instruction.{Instruction}
use Rattle.wy_code.specs.declared.instruction.Instruction.TheVariants.{Push, Load, Store as StoreIn, Get, Set, Drop, Op}
use Rattle.wy_code.specs.declared.instruction.Instruction.TheVariants.{Jump, JumpFalse, New, Call as CallMethod, Return}
use Rattle.wy_code.specs.declared.instruction.Instruction.TheVariants.{Finish}
use Rattle.wy_code.specs.declared.instruction.Placed.{Placed}
use Rattle.wy_code.specs.Stores.{Word, Store}
use Rattle.wy_code.specs.Machine.{Frame, State, Next, Go, Halt, act_first, step, begin_next}
use Rattle.wy_code.specs.Running.{Ran, and_then, steps, enter_first, store_at_first, machine}
use Rattle.wy_verified.specs.Images.{Image}
use Rattle.wy_meaning.specs.Bounds.{Call, BoundedFrom}
use Rattle.wy_verified.specs.Rules.{Known, IsVerified}
use Rattle.wy_verified.specs.Laws.{authority_of, NeverStuckIfVerified, BoundedIfVerified}
use Rattle.std.proofs.lemmas.Option.{slice_get_within}
use Rattle.wy_verified.proofs.Lists.{read_there, drop_at}
use Rattle.wy_verified.proofs.Frames.{Context, Good, Fine, state_of, call_of, calls_of, calls_at, Running}
use Rattle.wy_verified.proofs.Steps.{Does, Says, push_fine, load_fine, store_fine, get_fine, set_fine, drop_fine}
use Rattle.wy_verified.proofs.Steps.{op_fine, jump_fine, jump_false_fine}
use Rattle.wy_verified.proofs.Making.{new_fine}
use Rattle.wy_verified.proofs.Calls.{call_fine, return_fine}
use Rattle.wy_verified.proofs.Starting.{begins, finish_fine, first_heap, first_fresh}

module _ (image : Image) (verified : IsVerified image) where
  act_fine : (n : ℕ) (place : Place) (now : ℕ) (c : Context image) (at : ℕ) (known : Known) (slots operands : List Word)
      (w : Store) (fs : List Frame)
      (r : Running image now c known slots operands w fs) (i : Instruction) →
      Says image verified.main n place now c at known slots operands w fs r i →
      Does image verified.main n place now c at known slots operands w fs r i
  act_fine n place now c at known slots operands w fs r (Push k) h =
      push_fine image verified.main n place now c at known slots operands w fs r k h
  act_fine n place now c at known slots operands w fs r (Load s) h =
      load_fine image verified.main n place now c at known slots operands w fs r s h
  act_fine n place now c at known slots operands w fs r (StoreIn s) h =
      store_fine image verified.main n place now c at known slots operands w fs r s h
  act_fine n place now c at known slots operands w fs r (Get i) h =
      get_fine image verified.main n place now c at known slots operands w fs r i h
  act_fine n place now c at known slots operands w fs r (Set i) h =
      set_fine image verified.main n place now c at known slots operands w fs r i h
  act_fine n place now c at known slots operands w fs r Drop h =
      drop_fine image verified.main n place now c at known slots operands w fs r h
  act_fine n place now c at known slots operands w fs r (Op o) h =
      op_fine image verified.main n place now c at known slots operands w fs r o h
  act_fine n place now c at known slots operands w fs r (Jump to) h =
      jump_fine image verified.main n place now c at known slots operands w fs r to h
  act_fine n place now c at known slots operands w fs r (JumpFalse to) h =
      jump_false_fine image verified.main n place now c at known slots operands w fs r to h
  act_fine n place now c at known slots operands w fs r (New l) h =
      new_fine image verified.main n place now c at known slots operands w fs r l h
  act_fine n place now c at known slots operands w fs r (CallMethod m k) h =
      call_fine image verified n place now c at known slots operands w fs r m k h
  act_fine n place now c at known slots operands w fs r Return h =
      return_fine image verified n place now c at known slots operands w fs r h
  act_fine n place now c at known slots operands w fs r Finish h =
      finish_fine image verified n place now c at known slots operands w fs r h

  -- one step
  step_fine : (n : ℕ) (s : State) → Good image s → Fine image (calls_of image s) (step image.code n s)
  unfolding step
  step_fine n s g =
      let c = g.c in
      let p = read_there c.body.instructions g.at
      (let l = c.follows.long in let h = slice_get_within c.follows.states g.at g.known g.here in omega (arith, l, h)) in
      let r : Running image g.now c g.known g.slots g.operands s.store s.callers =
      record { low = g.low; heap = g.heap; next = g.next; callers = g.callers; typed = g.typed } in
      let whole : Frame → State = λ f. record { frame = f; callers = s.callers; store = s.store } in
      subst (λ (f : Frame). Fine image (call_of image f ∷ map (call_of image) s.callers)
      (act_first image.code n f.rest (whole f))) (sym g.is)
      (subst (λ (rest : List Placed). Fine image (calls_at image c s.callers)
      (act_first image.code n rest (state_of image c g.at g.slots g.operands s.store s.callers)))
      (sym (drop_at c.body.instructions g.at p.0 p.1))
      (act_fine n p.0.place g.now c g.at g.known g.slots g.operands s.store s.callers r p.0.instruction
      (c.follows.each g.at p.0 g.known p.1 g.here)))

  abbrev IsFine : List Call → Ran → Type 0
  IsFine calls r = (r.end ≢ Wrong) × BoundedFrom (authority_of image) calls r.events

  then_fine : (calls : List Call) (x : Next) (rest : State → Ran) → Fine image calls x →
      ((s : State) → Good image s → IsFine (calls_of image s) (rest s)) → IsFine calls (and_then x rest)
  then_fine calls (Go es s) rest f h = let q = h s f.0 in (q.0, f.1 (rest s).events q.1)
  then_fine calls (Halt e es) rest f h = f

  steps_fine : (n k : ℕ) (s : State) → Good image s → IsFine (calls_of image s) (steps image.code n k s)
  unfolding steps
  steps_fine n zero s g = ((λ e. cc), tt)
  steps_fine n (suc k) s g =
      then_fine (calls_of image s) (step image.code n s) (steps image.code n k) (step_fine n s g)
      (λ t h. steps_fine n k t h)

  first_fine : (x : Next) (rest : State → Ran) → Fine image [] x →
      ((s : State) → Good image s → IsFine (calls_of image s) (rest s)) → IsFine [] (enter_first x rest)
  first_fine (Go es s) rest f h = let q = h s f.0 in (q.0, f.1 (rest s).events q.1)
  first_fine (Halt e es) rest f h = f

  pub machine_fine : (n k : ℕ) (tapes : Tapes) → IsFine [] (machine image.code n k tapes)
  unfolding machine
  machine_fine n k tapes =
      first_fine (begin_next image.code [] (store_at_first image.code tapes)) (steps image.code n k)
      (begins image verified (store_at_first image.code tapes) 0 [] [] (omega arith) (first_heap image tapes)
      (first_fresh image tapes) refl (λ rest h. h))
      (λ s g. steps_fine n k s g)

pub never_stuck : (image : Image) → NeverStuckIfVerified image
never_stuck image verified n k tapes = (machine_fine image verified n k tapes).0

pub bounded : (image : Image) → BoundedIfVerified image
bounded image verified n k tapes = (machine_fine image verified n k tapes).1
