-- What starts next.
use Rattle.std.proofs.Common.{◌≡◌, ◌≢◌, ℕ, suc, ◌+◌, Bool, true, false, List, [], ◌∷◌, ◌++◌, map, replicate, Option, Some, None, Ok, Err, refl, sym, ap, ap₂, ◌∙◌, arith}
use Rattle.std.specs.Prelude.{slice_get, if◌then◌else◌}
use Rattle.wy_text.specs.declared.fault.Place.{Place}
use Rattle.wy_device.specs.declared.deed.Event.{Event}
use Rattle.wy_device.specs.declared.deed.Event.TheVariants.{Enter, Deed, Leave}
use Rattle.wy_device.specs.declared.operation.Kind.{Kind}
use Rattle.wy_device.specs.Devices.{DevicesState}
use Rattle.wy_device.specs.Events.{deeds_of, same_kind}
use Rattle.wy_device.specs.Operation.{kind_of}
use Rattle.wy_device.specs.Tapes.{Tapes}
use Rattle.wy_code.specs.declared.code.Body.{Body}
use Rattle.wy_code.specs.declared.code.Code.{Code}
use Rattle.wy_code.specs.declared.code.Instance.{Instance}
use Rattle.wy_code.specs.declared.code.Scope.{Scope}
use Rattle.wy_code.specs.declared.instruction.Instruction.TheVariants.{Finish}
use Rattle.wy_code.specs.Stores.{Nothing}
use Rattle.wy_code.specs.Machine as machine
use Rattle.wy_code.specs.Machine.{Next, Go, Halt, stuck, all_instances, begin_next, begin_instance, begin_body, start_in, this_at_start}
use Rattle.wy_machine.specs.declared.run_end.RunEnd.TheVariants.{Ended}
use Rattle.wy_machine.specs.Stacks.{begun}
use Rattle.wy_machine.specs.OpenBodies.{OpenBody, StackState}
use Rattle.wy_machine.specs.declared.stack.Limits.{Limits}
use Rattle.wy_machine.specs.States.{body_or_none, frame_of, store_of}
use Rattle.wy_machine.specs.Steps.{acting, beginning, AreQuiet, IsNotStuck, IsStep}
use Rattle.wy_machine.specs.StoreState.{StoreState}
use Rattle.wy_machine.proofs.Acts.{no_tapes}
use Rattle.wy_machine.proofs.Quiet.{goes_quietly, ends_run}

enter_later : (kind : Kind) (es : List Event) (instance body : List ℕ) → deeds_of kind es ≡ [] → deeds_of kind (es ++ Enter instance body ∷ []) ≡ []
enter_later kind [] instance body e = refl
enter_later kind (Enter x b ∷ es) instance body e = enter_later kind es instance body e
enter_later kind (Leave ∷ es) instance body e = enter_later kind es instance body e
enter_later kind (Deed d ∷ es) instance body e = of_test (same_kind kind (kind_of d.op)) e (λ h. enter_later kind es instance body h)
  where
    of_test : (b : Bool) → (if b then d ∷ deeds_of kind es else deeds_of kind es) ≡ [] → (deeds_of kind es ≡ [] → deeds_of kind (es ++ Enter instance body ∷ []) ≡ []) →
        (if b then d ∷ deeds_of kind (es ++ Enter instance body ∷ []) else deeds_of kind (es ++ Enter instance body ∷ [])) ≡ []
    of_test true h later = cc
    of_test false h later = later h

pub leave_quiet : AreQuiet (Leave ∷ [])
leave_quiet = record { none = λ kind. refl }

module _ (code : Code) (w : StoreState) where
  module _ (instance : Instance) (here : slice_get (all_instances code) w.next ≡ Some instance) where
    begins : (es : List Event) (t : Tapes) → beginning code es w t ≡ begin_body code w.next instance.name es (store_of code w t) (start_in code (slice_get code.scopes instance.scope))
    begins es t = ap (begin_instance code w.next es (store_of code w t)) here

    pub scope_there : IsNotStuck (beginning code [] w) → slice_get code.scopes instance.scope ≢ None
    scope_there h e = h.holds no_tapes (begins [] no_tapes ∙ ap (λ o. begin_body code w.next instance.name [] (store_of code w no_tapes) (start_in code o)) e)

    module _ (scope : Scope) (scoped : slice_get code.scopes instance.scope ≡ Some scope) where
      bodies : (es : List Event) (t : Tapes) → beginning code es w t ≡ begin_body code w.next instance.name es (store_of code w t) (slice_get code.bodies scope.start)
      bodies es t = begins es t ∙ ap (λ o. begin_body code w.next instance.name es (store_of code w t) (start_in code o)) scoped

      pub start_there : IsNotStuck (beginning code [] w) → slice_get code.bodies scope.start ≢ None
      start_there h e = h.holds no_tapes (bodies [] no_tapes ∙ ap (begin_body code w.next instance.name [] (store_of code w no_tapes)) e)

      abbrev pub counted : StoreState
      counted = record w { next = w.next + 1 }

      pub begin_step : (body : Body) → slice_get code.bodies scope.start ≡ Some body → (es : List Event) → AreQuiet es → (d : DevicesState) →
          (limits : Limits) → IsStep code (begun limits w.next scope.start (this_at_start code w.next) body.vals) counted (beginning code es w) d d (Ok tt)
      begin_step body e es q d limits =
          let later : suc w.next ≡ w.next + 1 = omega arith in
          goes_quietly code (begun limits w.next scope.start (this_at_start code w.next) body.vals) counted (beginning code es w) d (es ++ Enter instance.name body.name ∷ [])
          (record { none = λ kind. enter_later kind es instance.name body.name (q.none kind) })
          (λ t.
          bodies es t
          ∙ ap (begin_body code w.next instance.name es (store_of code w t)) e
          ∙ ap₂ (λ b n. Go (es ++ Enter instance.name body.name ∷ []) (record {
            frame = record { instance = w.next; body = b; rest = b.instructions; slots = this_at_start code w.next ∷ replicate body.vals Nothing; operands = [] };
            callers = [];
            store = record (store_of code w t) { next = n };
          })) (sym (ap body_or_none e)) later)

  pub end_step : slice_get (all_instances code) w.next ≡ None → (es : List Event) → AreQuiet es → (s' : StackState) (w' : StoreState) (d : DevicesState) → IsStep code s' w' (beginning code es w) d d (Err Ended)
  end_step e es q s' w' d = ends_run code s' w' (beginning code es w) d es q (λ t. ap (begin_instance code w.next es (store_of code w t)) e)

  module _ (place : Place) (s : StackState) where
    finishes : (fs : List OpenBody) → IsNotStuck (λ t. machine.finish code (map (frame_of code) fs) (store_of code w t)) → (t : Tapes) → machine.finish code (map (frame_of code) fs) (store_of code w t) ≡ beginning code (Leave ∷ []) w t
    finishes [] h t = refl
    finishes (f ∷ fs) h t = absurd (h.holds no_tapes refl)

    pub finishing : IsNotStuck (acting code 0 place s w Finish) → (t : Tapes) → acting code 0 place s w Finish t ≡ beginning code (Leave ∷ []) w t
    finishing h t = finishes s.callers h t

    -- what is stuck is stuck after any events
    any_events : (i : Option Instance) (t : Tapes) → begin_instance code w.next [] (store_of code w t) i ≡ stuck → begin_instance code w.next (Leave ∷ []) (store_of code w t) i ≡ stuck
    any_events None t e = cc
    any_events (Some i) t e = of_body (start_in code (slice_get code.scopes i.scope)) e
      where
        of_body : (b : Option Body) → begin_body code w.next i.name [] (store_of code w t) b ≡ stuck → begin_body code w.next i.name (Leave ∷ []) (store_of code w t) b ≡ stuck
        of_body None h = refl
        of_body (Some b) h = cc

    pub begin_sound : IsNotStuck (acting code 0 place s w Finish) → IsNotStuck (beginning code [] w)
    begin_sound h = record { holds = λ t wrong. h.holds t (finishing h t ∙ any_events (slice_get (all_instances code) w.next) t wrong) }
