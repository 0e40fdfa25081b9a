-- Results that are sound: no wrong end, a heap and a value that have their types, and events within an effect. One lemma for each way of
-- putting results together.
use Rattle.std.proofs.Common.{◌≡◌, ◌≢◌, ℕ, List, [], ◌++◌, refl, sym, subst, Option, Some}
use Rattle.wy_text.specs.Members.{Within}
use Rattle.wy_text.specs.declared.fault.Place.{Place}
use Rattle.wy_types.specs.Program.{Program}
use Rattle.wy_device.specs.declared.deed.Event.{Event}
use Rattle.wy_device.specs.declared.deed.Event.TheVariants.{Enter, Leave}
use Rattle.wy_device.specs.RunEnds.{RunEnd, Trap, Wrong}
use Rattle.wy_device.specs.Traps.{TrapKind}
use Rattle.wy_meaning.specs.Values.{Value, World, Outcome, Gives, Stops, Reply, replied, stopped, found}
use Rattle.wy_meaning.specs.Results.{Result, give, stop, node, tick, told, settle, added, carried, bind, whole}
use Rattle.wy_rules.specs.GroundTypes.{GroundType}
use Rattle.wy_sound.proofs.Effects.{call_of, May, Kept, Held, kept_none, held_none, held_more, kept_more, kept_wider, held_wider, kept_call, held_call}
use Rattle.wy_sound.specs.TypedHeaps.{ValueHas, WellHeap}
use Rattle.wy_sound.proofs.Heaps.{Extends, extends_refl, extends_trans}

module _ (p : Program) (now : ℕ) where
  -- objects stay, and the heap stays typed
  abbrev pub Stays : World → World → Type 0
  Stays w0 w = Extends p now w0.objects w.objects × WellHeap p now w.objects

  pub stays_same : (w : World) → WellHeap p now w.objects → Stays w w
  stays_same w wh = (extends_refl p now w.objects, wh)

  abbrev pub SoundTo : {X : Type 0} → List ℕ → World → (X → World → Type 0) → Outcome X → World → List Event → Type 0
  SoundTo f w0 ok (Stops e) w es = (e ≢ Wrong) × Held p f es × Stays w0 w
  SoundTo f w0 ok (Gives a) w es = Extends p now w0.objects w.objects × WellHeap p now w.objects × Kept p f es × ok a w

  pub record Sound {X : Type 0} (f : List ℕ) (w0 : World) (ok : X → World → Type 0) (r : Result X) : Type 0 where
    pub by : SoundTo f w0 ok r.out r.world r.events

  -- a reply is sound: it has no events
  abbrev pub AnswersTo : World → (Value → World → Type 0) → Outcome Value → World → Type 0
  AnswersTo w0 ok (Stops e) w = (e ≢ Wrong) × Stays w0 w
  AnswersTo w0 ok (Gives v) w = Extends p now w0.objects w.objects × WellHeap p now w.objects × ok v w

  pub record Answers (w0 : World) (ok : Value → World → Type 0) (r : Reply) : Type 0 where
    pub by : AnswersTo w0 ok r.out r.world

  abbrev pub Valued : GroundType → Value → World → Type 0
  Valued k v w = ValueHas p now w.objects v k

  module _ {X : Type 0} (f : List ℕ) (w0 : World) (ok : X → World → Type 0) where
    pub give_sound : (a : X) → WellHeap p now w0.objects → ok a w0 → Sound f w0 ok (give a w0)
    unfolding give
    give_sound a wh q = record { by = (extends_refl p now w0.objects, wh, kept_none p f, q) }

    pub stop_sound : (e : RunEnd) → e ≢ Wrong → WellHeap p now w0.objects → Sound f w0 ok (stop e w0)
    unfolding stop
    stop_sound e ne wh = record { by = (ne, held_none p f, stays_same w0 wh) }

    pub node_sound : (r : Result X) → Sound f w0 ok r → Sound f w0 ok (node r)
    unfolding node
    node_sound r h = record { by = h.by }

    pub tick_sound : (r : Result X) → Sound f w0 ok r → Sound f w0 ok (tick r)
    unfolding tick
    tick_sound r h = record { by = h.by }

    later_to : (w1 : World) (es fs : List Event) (o : Outcome X) (w : World) → Extends p now w0.objects w1.objects → Kept p f es →
        SoundTo f w1 ok o w fs → SoundTo f w0 ok o w (es ++ fs)
    later_to w1 es fs (Stops e) w x k h = (h.0, held_more p f es fs k h.1, (extends_trans p now w0.objects w1.objects w.objects x h.2.0, h.2.1))
    later_to w1 es fs (Gives a) w x k h = (extends_trans p now w0.objects w1.objects w.objects x h.0, h.1, kept_more p f es fs k h.2, h.3)

    more_to : (ok' : X → World → Type 0) → ((a : X) (w : World) → ok a w → ok' a w) → (o : Outcome X) (w : World) (es : List Event) →
        SoundTo f w0 ok o w es → SoundTo f w0 ok' o w es
    more_to ok' g (Stops e) w es h = h
    more_to ok' g (Gives a) w es h = (h.0, h.1, h.2, g a w h.3)

    pub more_sound : (ok' : X → World → Type 0) → ((a : X) (w : World) → ok a w → ok' a w) → (r : Result X) → Sound f w0 ok r → Sound f w0 ok' r
    more_sound ok' g r h = record { by = more_to ok' g r.out r.world r.events h.by }

    wider_to : (g : List ℕ) → Within g f → (o : Outcome X) (w : World) (es : List Event) → SoundTo g w0 ok o w es → SoundTo f w0 ok o w es
    wider_to g i (Stops e) w es h = (h.0, held_wider p f g es i h.1, h.2)
    wider_to g i (Gives a) w es h = (h.0, h.1, kept_wider p f g es i h.2, h.3)

    pub wider_sound : (g : List ℕ) → Within g f → (r : Result X) → Sound g w0 ok r → Sound f w0 ok r
    wider_sound g i r h = record { by = wider_to g i r.out r.world r.events h.by }

  module _ {X Y : Type 0} (f : List ℕ) (w0 : World) (ok : X → World → Type 0) (ok' : Y → World → Type 0) (g : X → World → Result Y) where
    carried_sound : (o : Outcome X) (w : World) (es : List Event) (c q : ℕ) → SoundTo f w0 ok o w es →
        ((a : X) (w : World) → Extends p now w0.objects w.objects → WellHeap p now w.objects → ok a w → Sound f w ok' (g a w)) →
        Sound f w0 ok' (carried o w es c q g)
    unfolding added
    carried_sound (Stops e) w es c q h k = record { by = h }
    carried_sound (Gives a) w es c q h k =
        record { by = later_to f w0 ok' w es (g a w).events (g a w).out (g a w).world h.0 h.2 (k a w h.0 h.1 h.3).by }

    pub bind_sound : (r : Result X) → Sound f w0 ok r →
        ((a : X) (w : World) → Extends p now w0.objects w.objects → WellHeap p now w.objects → ok a w → Sound f w ok' (g a w)) →
        Sound f w0 ok' (bind r g)
    unfolding bind
    bind_sound r h k = carried_sound r.out r.world r.events r.nodes r.steps h.by k

  settle_to : (f : List ℕ) (w0 : World) (ok : Value → World → Type 0) (o : Outcome Value) (w : World) → AnswersTo w0 ok o w → SoundTo f w0 ok o w []
  settle_to f w0 ok (Stops e) w h = (h.0, held_none p f, h.1)
  settle_to f w0 ok (Gives v) w h = (h.0, h.1, kept_none p f, h.2)

  pub settle_sound : (f : List ℕ) (w0 : World) (ok : Value → World → Type 0) (r : Reply) → Answers w0 ok r → Sound f w0 ok (settle r)
  unfolding settle
  settle_sound f w0 ok r h = record { by = settle_to f w0 ok r.out r.world h.by }

  pub trap_answers : (w : World) (ok : Value → World → Type 0) (kind : TrapKind) (place : Place) → WellHeap p now w.objects →
      Answers w ok (stopped (Trap kind place) w)
  trap_answers w ok kind place wh = record { by = ((λ e. cc), stays_same w wh) }

  -- a value, with the objects as they were
  pub same_answers : (w0 : World) (ok : Value → World → Type 0) (v : Value) (w : World) → w.objects ≡ w0.objects → WellHeap p now w0.objects →
      ok v w → Answers w0 ok (replied v w)
  same_answers w0 ok v w e wh q =
      record { by = (subst (λ h. Extends p now w0.objects h) (sym e) (extends_refl p now w0.objects), subst (λ h. WellHeap p now h) (sym e) wh, q) }

  pub found_answers : (w : World) (ok : Value → World → Type 0) (o : Option Value) (v : Value) → o ≡ Some v → WellHeap p now w.objects → ok v w →
      Answers w ok (found o w)
  found_answers w ok o v e wh q = subst (λ o. Answers w ok (found o w)) (sym e) (same_answers w ok v w refl wh q)

  -- a whole call that may do what is done in it
  whole_to : (f : List ℕ) (x b : List ℕ) (w0 : World) (ok : Value → World → Type 0) (o : Outcome Value) (w : World) (es : List Event) (c q : ℕ) →
      May p (call_of x b) f → SoundTo f w0 ok o w es →
      Sound f w0 ok (told (Enter x b) (node (carried o w es c q (λ v w. tick (told Leave (give v w))))))
  unfolding told node added tick give
  whole_to f x b w0 ok (Stops e) w es c q i h = record { by = (h.0, held_call p f x b es i h.1, h.2) }
  whole_to f x b w0 ok (Gives a) w es c q i h = record { by = (h.0, h.1, kept_call p f x b es i h.2, h.3) }

  pub whole_sound : (f : List ℕ) (x b : List ℕ) (w0 : World) (ok : Value → World → Type 0) (r : Result Value) → May p (call_of x b) f →
      Sound f w0 ok r → Sound f w0 ok (whole (Enter x b) r)
  unfolding whole bind
  whole_sound f x b w0 ok r i h = whole_to f x b w0 ok r.out r.world r.events r.nodes r.steps i h.by
