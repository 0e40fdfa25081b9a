-- The laws over whole runs: no end is a wrong one, and each deed is in the authority of every call that is open.
use Rattle.std.proofs.Common.{◌≡◌, ◌≢◌, codes, ℕ, zero, suc, ◌+◌, ◌<◌, List, [], ◌∷◌, length, map, inl, inr, refl, sym, ap, ◌∙◌, subst, Some, arith, append-nil, ◌≤◌, lt_irrefl}
use Rattle.std.specs.Prelude.{slice_get}
use Rattle.wy_types.specs.declared.linked.Instance.{Instance}
use Rattle.wy_types.specs.Program.{Program}
use Rattle.wy_types.specs.Ground.{start_list}
use Rattle.wy_rules.specs.Acceptance.{Accepted}
use Rattle.wy_rules.specs.GroundTypes.{GroundType, run_instances}
use Rattle.wy_device.specs.declared.deed.Event.{Event}
use Rattle.wy_device.specs.declared.deed.Event.TheVariants.{Enter}
use Rattle.wy_device.specs.RunEnds.{Wrong}
use Rattle.wy_device.specs.Tapes.{Tapes}
use Rattle.wy_meaning.specs.Values.{Value, Thing, World, Outcome, Gives, Stops}
use Rattle.wy_meaning.specs.Starts.{Started, started_of}
use Rattle.wy_meaning.specs.Results.{Result, whole}
use Rattle.wy_meaning.specs.Eval.{open_calls}
use Rattle.wy_meaning.specs.Start.{begin, objects_at_first, end_of, world_at_first, meaning}
use Rattle.wy_meaning.specs.Bounds.{Bounded}
use Rattle.wy_sound.specs.Programs.{IsResolved, program_starts, allowed}
use Rattle.wy_sound.specs.Laws.{NeverWrong, EventsAreBounded, Keeps, KeepsFilling, Preservation, BlockPreservation, CallPreservation, StartPreservation, FirstHeapIsTyped}
use Rattle.wy_sound.specs.Courses.{course}
use Rattle.wy_sound.proofs.LinkingLaws.{accepted_instances_fit, accepted_arguments_fit}
use Rattle.wy_sound.proofs.LinkingMain.{main_fits}
use Rattle.wy_sound.proofs.LinkingGrants.{grants_fit}
use Rattle.wy_sound.proofs.Linked.{IsLinked, GrantsFit}
use Rattle.wy_sound.proofs.LinkingLists.{read_within, read_first, read_last, read_there}
use Rattle.wy_sound.proofs.Lists.{some_same, get_mapped, map_length}
use Rattle.wy_sound.proofs.Effects.{call_of, May}
use Rattle.wy_sound.proofs.Allowing.{init_first, run_first, may_first}
use Rattle.wy_sound.specs.TypedHeaps.{Placed, fields_at, instance_count, WellHeap, unstarted_thing, AreUnstarted, Filling, PartlyFilled}
use Rattle.wy_sound.proofs.Placing.{place}
use Rattle.wy_sound.proofs.Results.{SoundTo, Valued}
use Rattle.wy_sound.proofs.Evaluating.{value_sound, block_sound}
use Rattle.wy_sound.proofs.Calling.{calls_sound}
use Rattle.wy_sound.specs.StartingObjects.{IsStartingObject, StartingObjectStays, StartingObjectsAreTyped}
use Rattle.wy_sound.proofs.Starting.{FineTo, Fine, TopTo, Top, bind_top, whole_top, declared, filling_stays, done_now, init_fine, main_fine}

module _ (p : Program) (linked : IsLinked p) where
  -- where the run has come to its end the heap is typed
  abbrev Ended : Value → World → Type 0
  Ended v w = WellHeap p (instance_count p) w.objects

  -- the instances from number x on, and then the program
  AreFrom : ℕ → List Started → Type 0
  AreFrom x is = (i z : ℕ) (s : Started) → z ≡ x + i → slice_get is i ≡ Some s →
      (a : Instance) × (slice_get (start_list p) z ≡ Some a) × (s ≡ started_of a)

  -- the last instance is the program
  main_named : (x : ℕ) (i : Instance) → slice_get (run_instances p) x ≡ Some i → x ≡ instance_count p → i.name ≡ codes "main"
  main_named x i e last = elim (read_last (start_list p) _ x i e) [
    | inl f ↦ absurd (let lt = read_within (start_list p) x i f in lt_irrefl x (omega (arith, lt, last)))
    | inr f ↦ sym (ap (λ (i : Instance). i.name) f.1)
  ]

  main_top : (n x : ℕ) (w : World) → x ≡ instance_count p → WellHeap p x w.objects →
      Top p Ended (begin p (program_starts p) (open_calls p (program_starts p) n) x [] w)
  unfolding begin
  main_top n x w last wh =
      let pl : Placed p x = place p linked x (omega (arith, last)) in
      let may : May p (call_of (codes "main") (codes "run")) (declared p linked n x pl) =
      subst (λ m. May p (call_of m (codes "run")) (declared p linked n x pl)) (main_named x pl.instance pl.is.there last)
      (may_first p x pl.instance (codes "run") pl.scope (run_first p x pl.instance pl.is.there last) pl.is.scope) in
      subst (λ y. Top p (λ v w. WellHeap p y w.objects) (begin p (program_starts p) (open_calls p (program_starts p) n) x [] w)) last
      (whole_top p (declared p linked n x pl) (codes "main") (codes "run") (λ w. WellHeap p x w.objects) (λ v w. WellHeap p x w.objects) _ may (main_fine p linked n x pl last w wh))

  init_top : (n x : ℕ) (pl : Placed p x) (s : Started) (w : World) → x < instance_count p → slice_get (start_list p) x ≡ Some pl.instance →
      s ≡ started_of pl.instance → Filling p x pl [] w.objects → (r : Result Value) →
      Fine p (declared p linked n x pl) (λ w. PartlyFilled p x pl w.objects) (λ u w. Filling p x pl (fields_at p x pl 0) w.objects) r →
      Top p (λ u w. Filling p x pl (fields_at p x pl 0) w.objects) (whole (Enter s.name (codes "init")) r)
  init_top n x pl s w lt there is q r fine =
      whole_top p (declared p linked n x pl) s.name (codes "init") (λ w. PartlyFilled p x pl w.objects) (λ u w. Filling p x pl (fields_at p x pl 0) w.objects) r
      (subst (λ m. May p (call_of m (codes "init")) (declared p linked n x pl)) (sym (ap (λ (s : Started). s.name) is))
      (may_first p x pl.instance (codes "init") pl.scope (init_first p x pl.instance there) pl.is.scope)) fine

  begin_top : (n x : ℕ) (is : List Started) (w : World) → AreFrom x is → x + length is ≡ instance_count p → WellHeap p x w.objects → AreUnstarted p x w.objects →
      Top p Ended (begin p (program_starts p) (open_calls p (program_starts p) n) x is w)
  unfolding begin AreFrom
  begin_top n x [] w at count wh rest = main_top n x w (omega (arith, count)) wh
  begin_top n x (s ∷ is) w at count wh rest =
      let lt : x < instance_count p = omega (arith, count) in
      let a = at 0 x s (omega arith) refl in
      let pl : Placed p x = place p linked x (omega (arith, lt)) in
      let same : a.0 ≡ pl.instance = some_same (sym (read_first (start_list p) _ x a.0 a.1) ∙ pl.is.there) in
      let first : Filling p x pl [] w.objects = record {
        heap = wh;
        values = [];
        here = rest.by x (omega arith) lt;
        typed = tt;
        rest = record { by = λ z le below. rest.by z (omega (arith, le)) below };
      } in
      bind_top p (λ u w1. Filling p x pl (fields_at p x pl 0) w1.objects) Ended
      (λ v w. begin p (program_starts p) (open_calls p (program_starts p) n) (suc x) is w) _
      (init_top n x pl s w lt (a.1 ∙ ap (λ i. Some i) same) (a.2 ∙ ap started_of same) first _ (init_fine p linked n x pl lt w first))
      (λ v w1 q. begin_top n (suc x) is w1 (λ i z s e g. at (suc i) z s (omega (arith, e)) g) (omega (arith, count))
      (done_now p linked x pl lt w1.objects q) q.rest)

  ------------------------------------------------------------
  -- Before anything runs

  first_at : (x : ℕ) (is : List Started) (i z : ℕ) → z ≡ x + i → i < length is → slice_get (objects_at_first x is) i ≡ Some (unstarted_thing p z)
  first_at x [] i z e lt = absurd (omega arith)
  first_at x (s ∷ is) zero z e lt = let f : x ≡ z = omega (arith, e) in ap (λ x. Some (unstarted_thing p x)) f
  first_at x (s ∷ is) (suc i) z e lt = first_at (suc x) is i z (omega (arith, e)) (omega (arith, lt))

  first_length : (x : ℕ) (is : List Started) → length (objects_at_first x is) ≡ length is
  first_length x [] = refl
  first_length x (s ∷ is) = ap suc (first_length (suc x) is)

  abbrev at_first : List Thing
  at_first = objects_at_first 0 (map started_of (start_list p))

  first_many : length at_first ≡ instance_count p
  first_many = first_length 0 (map started_of (start_list p)) ∙ map_length started_of (start_list p)

  first_rest : AreUnstarted p 0 at_first
  first_rest = record {
    by = λ z le below. first_at 0 (map started_of (start_list p)) z z (omega arith)
        (omega (arith, below, map_length started_of (start_list p)));
  }

  first_heap : WellHeap p 0 at_first
  first_heap = record {
    by = λ a t e r. absurd (let lt =
        read_within at_first a t e in elim r [ inl l ↦ lt_irrefl a (omega (arith, l)) | inr ge ↦ lt_irrefl a (omega (arith, lt, ge, first_many)) ]);
    long = omega (arith, first_many);
    first = λ z below. (unstarted_thing p z, first_rest.by z (omega arith) below, refl, refl);
  }

  all_from : AreFrom 0 (map started_of (start_list p))
  unfolding AreFrom
  all_from i z s e g =
      let lt : i < instance_count p = let h = read_within (map started_of (start_list p)) i s g in omega (arith, h, map_length started_of (start_list p)) in
      let a = read_there (start_list p) i lt in
      let f : i ≡ z = omega (arith, e) in
      (a.0, ap (slice_get (start_list p)) (sym f) ∙ a.1, some_same (sym g ∙ get_mapped started_of (start_list p) i a.0 a.1))

  run_top : (n : ℕ) (tapes : Tapes) →
      Top p Ended (begin p (program_starts p) (open_calls p (program_starts p) n) 0 (map started_of (start_list p))
      (world_at_first (program_starts p) tapes))
  run_top n tapes = begin_top n 0 (map started_of (start_list p)) (world_at_first (program_starts p) tapes) all_from
      (omega (arith, map_length started_of (start_list p))) first_heap first_rest

top_never : (p : Program) (ok : Value → World → Type 0) (o : Outcome Value) (w : World) (es : List Event) → TopTo p ok o w es → end_of o ≢ Wrong
top_never p ok (Stops e) w es h = h.0
top_never p ok (Gives v) w es h = λ e. cc

top_bounded : (p : Program) (ok : Value → World → Type 0) (o : Outcome Value) (w : World) (es : List Event) → GrantsFit p → TopTo p ok o w es →
    Bounded (allowed p) es
top_bounded p ok (Stops e) w es g h = h.1 g
top_bounded p ok (Gives v) w es g h = h.0 g

-- an accepted program that resolving makes is linked
linked : (p : Program) → IsResolved p → Accepted p → IsLinked p
linked p r a = record {
  core = r.keeps.core;
  accepted = a;
  instances = accepted_instances_fit p r.keeps.core r.keeps.lines r.names a;
  arguments = accepted_arguments_fit p r.keeps.core r.keeps.lines r.names a;
  main = main_fits p r.keeps.core r.keeps.lines r.names;
  captures = r.keeps.captures;
}

pub linked_never_wrong : (p : Program) → IsLinked p → (n : ℕ) (tapes : Tapes) → (course p n tapes).end ≢ Wrong
unfolding meaning
linked_never_wrong p l n tapes = top_never p _ _ _ _ (run_top p l n tapes).by

pub linked_bounded : (p : Program) → IsLinked p → GrantsFit p → (n : ℕ) (tapes : Tapes) → Bounded (allowed p) (course p n tapes).events
unfolding meaning
linked_bounded p l g n tapes = top_bounded p _ _ _ _ g (run_top p l n tapes).by

pub never_wrong : NeverWrong
never_wrong p r a = linked_never_wrong p (linked p r a)

pub events_are_bounded : EventsAreBounded
events_are_bounded p r a = linked_bounded p (linked p r a) (grants_fit p r.keeps.core r.keeps.lines r.keeps.grants)

-- what is sound keeps the heap typed
sound_keeps : (p : Program) (now : ℕ) (f : List ℕ) (w0 : World) (t : GroundType) (o : Outcome Value) (w : World) (es : List Event) →
    SoundTo p now f w0 (Valued p now t) o w es → Keeps p now t o w
sound_keeps p now f w0 t (Stops e) w es h = (h.0, h.2.1)
sound_keeps p now f w0 t (Gives v) w es h = (h.1, h.3)

pub preservation : Preservation
preservation p r a now le sight place owner seen d x t e h fits n w sh wh =
    let l = linked p r a in
    sound_keeps p now e w t _ _ _
    (value_sound p l now le (open_calls p (program_starts p) n) (calls_sound p l now le n) e owner d x t e seen sight place w h (λ b i. i) fits sh wh).by

-- .. so of a block
pub block_preservation : BlockPreservation
block_preservation p r a now le sight place owner seen d b t e h fits n w sh wh =
    let l = linked p r a in
    sound_keeps p now e w t _ _ _
    (block_sound p l now le (open_calls p (program_starts p) n) (calls_sound p l now le n) e owner d b t e seen sight place w h (λ b i. i) fits sh wh).by

-- .. and of a call on an object
pub call_preservation : CallPreservation
call_preservation p r a now le o thing name m vs n w there ready found typed wh =
    sound_keeps p now m.effect w m.result _ _ _ ((calls_sound p (linked p r a) now le n).by o thing name vs w m there ready found typed wh).by

-- .. and of an init
fine_keeps : (p : Program) (l : IsLinked p) (x : ℕ) (lt : x < instance_count p) (pl : Placed p x) (f : List ℕ) (o : Outcome Value) (w : World) (es : List Event) →
    FineTo p f (λ w. PartlyFilled p x pl w.objects) (λ u w. Filling p x pl (fields_at p x pl 0) w.objects) o w es → KeepsFilling p x pl o w
fine_keeps p l x lt pl f (Stops e) w es h = (h.0, h.2)
fine_keeps p l x lt pl f (Gives v) w es h = (h.1, done_now p l x pl lt w.objects h.1)

pub start_preservation : StartPreservation
start_preservation p r a x lt pl n w q =
    let l = linked p r a in
    fine_keeps p l x lt pl _ _ _ _ (init_fine p l n x pl lt w q).by

pub first_heap_is_typed : FirstHeapIsTyped
first_heap_is_typed p r a = let l = linked p r a in (first_heap p l, first_rest p l)

-- what is sound leaves the fields of the object that starts as they are
sound_stays : (p : Program) (l : IsLinked p) (x : ℕ) (lt : x < instance_count p) (pl : Placed p x) (done : List GroundType) (f : List ℕ) (w0 : World) (t : GroundType) (o : Outcome Value) (w : World)
    (es : List Event) → Filling p x pl done w0.objects → SoundTo p x f w0 (Valued p x t) o w es → Filling p x pl done w.objects
sound_stays p l x lt pl done f w0 t (Stops e) w es q h = filling_stays p l x pl lt done w0.objects w.objects h.2.0 h.2.1 q
sound_stays p l x lt pl done f w0 t (Gives v) w es q h = filling_stays p l x pl lt done w0.objects w.objects h.0 h.1 q

pub starting_object_stays : StartingObjectStays
starting_object_stays p r a x lt pl done sight other owner seen d v t e h fits n w sh q =
    let l = linked p r a in
    let le : x ≤ instance_count p = omega (arith, lt) in
    sound_stays p l x lt pl done e w t _ _ _ q
    (value_sound p l x le (open_calls p (program_starts p) n) (calls_sound p l x le n) e owner d v t e seen sight other w h (λ b i. i) fits sh q.heap).by

-- .. and what it is handed has its types
starting : (p : Program) (l : IsLinked p) (x : ℕ) (pl : Placed p x) (h : List Thing) → PartlyFilled p x pl h → IsStartingObject p x pl h
starting p l x pl h q = record { arguments = λ k n e. l.arguments.each x pl.instance pl.scope k n pl.is.there pl.is.scope e; fields = q }

fine_partly : (p : Program) (x : ℕ) (pl : Placed p x) (f : List ℕ) (o : Outcome Value) (w : World) (es : List Event) →
    FineTo p f (λ w. PartlyFilled p x pl w.objects) (λ u w. Filling p x pl (fields_at p x pl 0) w.objects) o w es → PartlyFilled p x pl w.objects
fine_partly p x pl f (Stops e) w es h = h.2
fine_partly p x pl f (Gives v) w es h = (fields_at p x pl 0, [], append-nil (fields_at p x pl 0), h.1)

pub starting_objects_are_typed : StartingObjectsAreTyped
starting_objects_are_typed p r a x lt pl =
    let l = linked p r a in (
      λ h q. starting p l x pl h q,
      λ n w q. starting p l x pl _ (fine_partly p x pl _ _ _ _ (init_fine p l n x pl lt w q).by),
    )
