-- What steps tell, beside the calls that are open.
use Rattle.std.proofs.Common.{◌≡◌, ◌≤◌, ℕ, List, [], ◌∷◌, ◌++◌, length, map, Option, Some, None, Ok, Err, sym, ap, ◌∙◌, subst, arith}
use Rattle.std.proofs.lemmas.List.{length-map}
use Rattle.std.proofs.lemmas.Option.{slice_get-map, same_Some}
use Rattle.std.specs.Prelude.{slice_get}
use Rattle.std.specs.Option.{option_map}
use Rattle.wy_device.specs.declared.deed.Event.{Event}
use Rattle.wy_device.specs.Devices.{DevicesState}
use Rattle.wy_device.specs.Tapes.{spliced}
use Rattle.wy_meaning.specs.Bounds.{Call}
use Rattle.wy_meaning.specs.OpenCalls.{open_after}
use Rattle.wy_meaning.proofs.UsedLemmas.{open_then}
use Rattle.wy_code.specs.declared.code.Code.{Code}
use Rattle.wy_code.specs.declared.code.Instance.{Instance}
use Rattle.wy_code.specs.Machine.{all_instances}
use Rattle.wy_machine.specs.declared.run_end.RunEnd.{RunEnd}
use Rattle.wy_machine.specs.Observing.{Told, Entered, Left, Did, event_told, events_told, ArePlaced, AreFollowed, instance_names}
use Rattle.wy_machine.specs.Runs.{tapes_of}
use Rattle.wy_machine.specs.OpenBodies.{StackState}
use Rattle.wy_machine.specs.States.{frame_of, state_of}
use Rattle.wy_machine.specs.Steps.{stepping, starting, IsStep}
use Rattle.wy_machine.specs.StoreState.{StoreState}
use Rattle.wy_machine.proofs.Acts.{no_tapes}
use Rattle.wy_machine.proofs.Nesting.{call_of, call_in, opens_after, opens_are, IsFew, IsNested, step_nests, start_nests}

abbrev head_of : List (Option Call) → Option Call
head_of [] = None
head_of (v ∷ vs) = v

abbrev rest_of : List (Option Call) → List (Option Call)
rest_of [] = []
rest_of (v ∷ vs) = vs

module _ (code : Code) where
  -- the calls that the bodies of a stack are, the latest first
  abbrev pub open_in : StackState → List (Option Call)
  open_in s = call_in code (frame_of code s.running) ∷ map (call_in code) (map (frame_of code) s.callers)

  named : (o : Option Instance) (body : List ℕ) (c : Call) → call_of o body ≡ Some c → option_map (λ (i : Instance). i.name) o ≡ Some c.instance
  named None body c e = cc
  named (Some i) body c e = ap (λ (c : Call). Some c.instance) (same_Some _ c e)

  -- where a body of an instance is a call, that is of this name
  there : (x : ℕ) (body : List ℕ) (c : Call) → call_of (slice_get (all_instances code) x) body ≡ Some c → slice_get (instance_names code) x ≡ Some c.instance
  there x body c e = slice_get-map (λ (i : Instance). i.name) (all_instances code) x ∙ named (slice_get (all_instances code) x) body c e

  -- the latest call is of this instance
  abbrev pub IsLatest : ℕ → List (Option Call) → Type 0
  IsLatest x [] = Unit {0}
  IsLatest x (v ∷ vs) = (body : List ℕ) × (v ≡ call_of (slice_get (all_instances code) x) body)

  module _ (n x : ℕ) where
    left_there : (i : ℕ) → i ≡ x → (os : List (Option Call)) (c : Call) (cs : List Call) → os ≡ map Some (c ∷ cs) → IsLatest x os → slice_get (instance_names code) i ≡ Some c.instance
    left_there i e [] c cs o latest = cc
    left_there i e (v ∷ vs) c cs o latest = subst (λ i. slice_get (instance_names code) i ≡ Some c.instance) (sym e) (there x latest.0 c (sym latest.1 ∙ ap head_of o))

    module _ (s : StackState) where
      entered_there : (i : ℕ) (name body : List ℕ) (vs : List (Option Call)) → i ≡ s.running.instance → (let c : Call = record { instance = name; body = body } in open_in s ≡ Some c ∷ vs) → slice_get (instance_names code) i ≡ Some name
      entered_there i name body vs e o =
          let c : Call = record { instance = name; body = body } in
          subst (λ i. slice_get (instance_names code) i ≡ Some name) (sym e) (there s.running.instance _ c (ap head_of o))

      as_few : (os : List (Option Call)) (cs : List Call) → os ≡ map Some cs → length os ≤ n → length cs ≤ n
      as_few os cs o few = let e = ap length o ∙ length-map cs Some in omega (arith, e, few)

      -- a step that goes on
      pub followed_on : (ts : List Told) (os : List (Option Call)) (cs : List Call) → os ≡ map Some cs → IsLatest x os → open_in s ≡ opens_after os (events_told ts) → IsFew n os (events_told ts) → ArePlaced x s.running.instance (Ok tt) ts → AreFollowed code n cs ts
      followed_on [] os cs o latest nest few placed = tt
      followed_on (Did d ∷ []) os cs o latest nest few placed = tt
      followed_on (Entered i name body ∷ []) os cs o latest nest few placed = (entered_there i name body os placed nest, as_few os cs o few, tt)
      followed_on (Left i ∷ []) os [] o latest nest few placed = none os o few
        where
          none : (os : List (Option Call)) → os ≡ [] → IsFew n os (event_told (Left i) ∷ []) → ⊥
          none [] o few = few
          none (v ∷ vs) o few = cc
      followed_on (Left i ∷ []) os (c ∷ cs) o latest nest few placed = (left_there i placed os c cs o latest, tt)
      followed_on (Left i ∷ Entered j name body ∷ []) os [] o latest nest few placed = none os o few
        where
          none : (os : List (Option Call)) → os ≡ [] → IsFew n os (event_told (Left i) ∷ event_told (Entered j name body) ∷ []) → ⊥
          none [] o few = few
          none (v ∷ vs) o few = cc
      followed_on (Left i ∷ Entered j name body ∷ []) os (c ∷ cs) o latest nest few placed = both os o latest nest few
        where
          both : (os : List (Option Call)) → os ≡ map Some (c ∷ cs) → IsLatest x os → open_in s ≡ opens_after os (event_told (Left i) ∷ event_told (Entered j name body) ∷ []) → IsFew n os (event_told (Left i) ∷ event_told (Entered j name body) ∷ []) →
              AreFollowed code n (c ∷ cs) (Left i ∷ Entered j name body ∷ [])
          both [] o latest nest few = cc
          both (v ∷ vs) o latest nest few = (left_there i placed.0 (v ∷ vs) c cs o latest, (entered_there j name body vs placed.1 nest, as_few vs cs (ap rest_of o) few, tt))
      followed_on (Did d ∷ t ∷ ts) os cs o latest nest few placed = absurd placed
      followed_on (Entered i name body ∷ t ∷ ts) os cs o latest nest few placed = absurd placed
      followed_on (Left i ∷ Left j ∷ ts) os cs o latest nest few placed = absurd placed
      followed_on (Left i ∷ Did d ∷ ts) os cs o latest nest few placed = absurd placed
      followed_on (Left i ∷ Entered j name body ∷ t ∷ ts) os cs o latest nest few placed = absurd placed

    -- a step that ends the run
    pub followed_last : (y : ℕ) (end : RunEnd) (ts : List Told) (v : Option Call) (vs : List (Option Call)) (cs : List Call) → v ∷ vs ≡ map Some cs → IsLatest x (v ∷ vs) → ArePlaced x y (Err end) ts → AreFollowed code n cs ts
    followed_last y end [] v vs cs o latest placed = tt
    followed_last y end (Did d ∷ []) v vs cs o latest placed = tt
    followed_last y end (Left i ∷ []) v vs [] o latest placed = cc
    followed_last y end (Left i ∷ []) v vs (c ∷ cs) o latest placed = (left_there i placed (v ∷ vs) c cs o latest, tt)
    followed_last y end (Entered i name body ∷ ts) v vs cs o latest placed = absurd (entry ts placed)
      where
        entry : (ts : List Told) → ArePlaced x y (Err end) (Entered i name body ∷ ts) → ⊥
        entry [] p = p
        entry (t ∷ ts) p = p
    followed_last y end (Did d ∷ t ∷ ts) v vs cs o latest placed = absurd placed
    followed_last y end (Left i ∷ Left j ∷ ts) v vs cs o latest placed = absurd placed
    followed_last y end (Left i ∷ Did d ∷ ts) v vs cs o latest placed = absurd placed
    followed_last y end (Left i ∷ Entered j name body ∷ ts) v vs cs o latest placed = absurd (entry ts placed)
      where
        entry : (ts : List Told) → ArePlaced x y (Err end) (Left i ∷ Entered j name body ∷ ts) → ⊥
        entry [] p = p
        entry (t ∷ ts) p = p

  -- what was told behind what
  pub followed_after : (n : ℕ) (ts us : List Told) (cs : List Call) → AreFollowed code n cs ts → AreFollowed code n (open_after cs (events_told ts)) us → AreFollowed code n cs (ts ++ us)
  followed_after n [] us cs h k = k
  followed_after n (Entered i name body ∷ ts) us cs h k = (h.0, h.1, followed_after n ts us (record { instance = name; body = body } ∷ cs) h.2 k)
  followed_after n (Did d ∷ ts) us cs h k = followed_after n ts us cs h k
  followed_after n (Left i ∷ ts) us [] h k = absurd h
  followed_after n (Left i ∷ ts) us (c ∷ cs) h k = (h.0, followed_after n ts us cs h.1 k)

  ------------------------------------------------------------
  -- Steps

  -- the calls that are open in a stack are those behind these events
  abbrev pub IsOpen : StackState → List Event → Type 0
  IsOpen s es = open_in s ≡ map Some (open_after [] es)

  module _ (depth : ℕ) (s' : StackState) (w' : StoreState) (old new : DevicesState) where
    pub first_nested : (h : IsStep code s' w' (starting code) old new (Ok tt)) → (open_in s' ≡ opens_after [] h.events) × IsFew {A = Option Call} depth [] h.events
    first_nested h = subst (IsNested code depth []) (h.comes.goes no_tapes) (start_nests code depth (spliced (tapes_of h.events) no_tapes))

    pub next_nested : (s : StackState) (w : StoreState) (h : IsStep code s' w' (stepping code depth s w) old new (Ok tt)) → (open_in s' ≡ opens_after (open_in s) h.events) × IsFew depth (open_in s) h.events
    next_nested s w h = subst (IsNested code depth (open_in s)) (h.comes.goes no_tapes) (step_nests code depth (state_of code s w (spliced (tapes_of h.events) no_tapes)))

  pub first_open : (s' : StackState) (es : List Event) → open_in s' ≡ opens_after [] es → IsOpen s' es
  first_open s' es e = e ∙ opens_are [] es

  pub next_open : (s s' : StackState) (es fs : List Event) → IsOpen s es → open_in s' ≡ opens_after (open_in s) fs → IsOpen s' (es ++ fs)
  next_open s s' es fs o e = e ∙ ap (λ cs. opens_after cs fs) o ∙ opens_are (open_after [] es) fs ∙ ap (map Some) (sym (open_then [] es fs))
