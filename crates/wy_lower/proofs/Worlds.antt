-- What adds a text or an object, sets a field or takes an answer does so to the machine's store as to the world.
use Rattle.std.proofs.Common.{◌≡◌, ◌≢◌, ◌⊎◌, inl, inr, ℕ, ◌+◌, ◌<◌, List, [], ◌∷◌, ◌++◌, length, length-append, Some, refl, sym, ap, ◌∙◌, subst, arith}
use Rattle.std.proofs.lemmas.Bool.{cases_eq}
use Rattle.std.specs.Prelude.{slice_get, slice_set}
use Rattle.wy_types.specs.Program.{Program}
use Rattle.wy_device.specs.Tapes.{Tapes}
use Rattle.wy_meaning.specs.Values.{Value, Thing, World}
use Rattle.wy_meaning.specs.Starts.{Starts}
use Rattle.wy_code.specs.Stores as word
use Rattle.wy_code.specs.Stores.{Word, Store, with_text}
use Rattle.wy_lower.proofs.Looking.{some_is, get_front, get_last, get_within, get_joined, get_set_same, get_set_other, length_set}
use Rattle.wy_lower.proofs.Relation.{Same, Found, found_at, Grows, grows_refl, grows_trans, own_count, SameThing, FoundThing, SameWorld, found_thing_stays, Kept, Later, kept_itself}

pub grows_more : (t : List (List ℕ)) (bytes : List ℕ) → Grows t (t ++ bytes ∷ [])
grows_more t bytes = record { by = λ k b e. get_front t (bytes ∷ []) k b e }

------------------------------------------------------------
-- What becomes of worlds, stores and objects

abbrev pub answered_world : World → Tapes → World
answered_world w tapes = record w { tapes = tapes }

abbrev pub answered_store : Store → Tapes → Store
answered_store m tapes = record m { tapes = tapes }

abbrev pub text_world : World → World
text_world w = record w { built = w.built + 1 }

abbrev pub object_world : World → Thing → World
object_world w o = record w { objects = w.objects ++ o ∷ []; made = w.made + 1 }

abbrev pub object_store : Store → word.Thing → Store
object_store m x = record m { objects = m.objects ++ x ∷ []; made = m.made + 1 }

abbrev pub thing_with : Thing → List Value → Thing
thing_with o fields = record o { fields = fields }

abbrev pub item_with : word.Thing → ℕ → Word → word.Thing
item_with x k z = record x { values = slice_set x.values k z }

-- of the fields of an object, the one of this number is this value, and the others were there
abbrev pub Written : ℕ → Value → List Value → List Value → Type 0
Written k v fields now = (j : ℕ) (u : Value) → slice_get now j ≡ Some u → ((j ≡ k) × (v ≡ u)) ⊎ ((k ≢ j) × (slice_get fields j ≡ Some u))

module _ (p : Program) (s : Starts) where
  ------------------------------------------------------------
  -- Texts and answers

  pub answer_taken : (w : World) (m : Store) (tapes : Tapes) → SameWorld p s w m → SameWorld p s (answered_world w tapes) (answered_store m tapes)
  answer_taken w m tapes h = record { count = h.count; objects = h.objects; made = h.made; built = h.built; tapes = refl; written = h.written }

  pub answer_later : (w : World) (m : Store) (tapes : Tapes) → Later w m (answered_world w tapes) (answered_store m tapes)
  answer_later w m tapes = record { texts = grows_refl m.texts; objects = λ a o e. kept_itself (answered_world w tapes) a o e; next = refl }

  pub text_added : (w : World) (m : Store) (bytes : List ℕ) → SameWorld p s w m → SameWorld p s (text_world w) (with_text bytes m)
  text_added w m bytes h = record {
    count = h.count;
    objects = λ a o e. found_thing_stays p s m.texts (m.texts ++ bytes ∷ []) (grows_more m.texts bytes) o _ (h.objects a o e);
    made = h.made;
    built = ap (λ (k : ℕ). k + 1) h.built;
    tapes = h.tapes;
    written = grows_trans _ _ _ h.written (grows_more m.texts bytes);
  }

  pub text_later : (w : World) (m : Store) (bytes : List ℕ) → Later w m (text_world w) (with_text bytes m)
  text_later w m bytes = record { texts = grows_more m.texts bytes; objects = λ a o e. kept_itself (text_world w) a o e; next = refl }

  ------------------------------------------------------------
  -- Objects

  pub object_added : (w : World) (m : Store) (o : Thing) (x : word.Thing) → SameWorld p s w m → SameThing p s m.texts o x →
      SameWorld p s (object_world w o) (object_store m x)
  object_added w m o x h same = record {
    count = let a = length-append m.objects (x ∷ []) in let b = length-append w.objects (o ∷ []) in let c = h.count in omega arith;
    objects = λ a y e. of a y (get_joined w.objects o a y e);
    made = ap (λ (k : ℕ). k + 1) h.made;
    built = h.built;
    tapes = h.tapes;
    written = h.written;
  }
    where
      of : (a : ℕ) (y : Thing) → (slice_get w.objects a ≡ Some y) ⊎ ((a ≡ length w.objects) × (o ≡ y)) →
          FoundThing p s m.texts y (slice_get (m.objects ++ x ∷ []) a)
      of a y (inl e) = let f = h.objects a y e in record { thing = f.thing; is = get_front m.objects (x ∷ []) a f.thing f.is; same = f.same }
      of a y (inr e) = record {
        thing = x;
        is = let z : a ≡ length m.objects = e.0 ∙ sym h.count in ap (slice_get (m.objects ++ x ∷ [])) z ∙ get_last m.objects x;
        same = subst (λ (z : Thing). SameThing p s m.texts z x) e.1 same;
      }

  pub object_later : (w : World) (m : Store) (o : Thing) (x : word.Thing) → Later w m (object_world w o) (object_store m x)
  object_later w m o x = record {
    texts = grows_refl m.texts;
    objects = λ a y e. kept_itself (object_world w o) a y (get_front w.objects (o ∷ []) a y e);
    next = refl;
  }

  ------------------------------------------------------------
  -- Fields

  module _ (t : List (List ℕ)) (o : Thing) (x : word.Thing) (h : SameThing p s t o x) (k : ℕ) (v : Value) (z : Word) (same : Same t v z)
      (now : List Value) (written : Written k v o.fields now) where
    abbrev place : ℕ
    place = own_count h.scope + length o.captured + k

    pub thing_written : own_count h.scope + length o.captured + k < length x.values →
        SameThing p s t (thing_with o now) (item_with x (own_count h.scope + length o.captured + k) z)
    thing_written within = record {
      instance = h.instance;
      literal = h.literal;
      scope = h.scope;
      stands = h.stands;
      names = h.names;
      own = λ kind j a e. let f = h.own kind j a e in (f.0, get_set_other x.values place j z (λ y. absurd (omega (arith, f.0))) ∙ f.1);
      caught = λ j c e.
          let l = get_within o.captured j c e in
          found_at t c.1 _ _ (get_set_other x.values place (own_count h.scope + j) z (λ y. absurd (omega arith))) (h.caught j c e);
      fields = λ j u e. of j u (written j u e);
      long = length_set x.values place z ∙ h.long;
    }
      where
        of : (j : ℕ) (u : Value) → ((j ≡ k) × (v ≡ u)) ⊎ ((k ≢ j) × (slice_get o.fields j ≡ Some u)) →
            Found t u (slice_get (slice_set x.values place z) (own_count h.scope + length o.captured + j))
        of j u (inl e) = record {
          word = z;
          is = let y : own_count h.scope + length o.captured + j ≡ place = omega (arith, e.0) in ap (slice_get (slice_set x.values place z)) y
              ∙ get_set_same x.values place z within;
          same = subst (λ (y : Value). Same t y z) e.1 same;
        }
        of j u (inr e) =
            found_at t u _ _ (get_set_other x.values place (own_count h.scope + length o.captured + j) z (λ y. e.0 (omega arith))) (h.fields j u e.1)

  module _ (w : World) (m : Store) (h : SameWorld p s w m) (a : ℕ) (o y : Thing) (x u : word.Thing) (there : slice_get w.objects a ≡ Some o)
      (found : slice_get m.objects a ≡ Some x) where
    abbrev world : World
    world = record w { objects = slice_set w.objects a y }

    abbrev store : Store
    store = record m { objects = slice_set m.objects a u }

    pub thing_set : SameThing p s m.texts y u → SameWorld p s world store
    thing_set same = record {
      count = length_set m.objects a u ∙ h.count ∙ sym (length_set w.objects a y);
      objects = λ b q e. of b q e (cases_eq a b);
      made = h.made;
      built = h.built;
      tapes = h.tapes;
      written = h.written;
    }
      where
        of : (b : ℕ) (q : Thing) → slice_get (slice_set w.objects a y) b ≡ Some q → (a ≡ b) ⊎ (a ≡ b → ⊥) →
            FoundThing p s m.texts q (slice_get (slice_set m.objects a u) b)
        of b q e (inl here) =
            let f : y ≡ q = some_is (sym (get_set_same w.objects a y (get_within w.objects a o there))
            ∙ (ap (slice_get (slice_set w.objects a y)) here ∙ e)) in
            record {
              thing = u;
              is = ap (slice_get (slice_set m.objects a u)) (sym here) ∙ get_set_same m.objects a u (get_within m.objects a x found);
              same = subst (λ (z : Thing). SameThing p s m.texts z u) f same;
            }
        of b q e (inr other) =
            let f = h.objects b q (sym (get_set_other w.objects a b y other) ∙ e) in
            record { thing = f.thing; is = get_set_other m.objects a b u other ∙ f.is; same = f.same }

    -- the object keeps all but the values of its fields
    pub set_later : y.instance ≡ o.instance → y.literal ≡ o.literal → y.captured ≡ o.captured → length y.fields ≡ length o.fields →
        Later w m world store
    set_later i l c f = record { texts = grows_refl m.texts; objects = λ b q e. of b q e (cases_eq a b); next = refl }
      where
        of : (b : ℕ) (q : Thing) → slice_get w.objects b ≡ Some q → (a ≡ b) ⊎ (a ≡ b → ⊥) → Kept world b q
        of b q e (inl here) =
            let z : o ≡ q = some_is (sym there ∙ (ap (slice_get w.objects) here ∙ e)) in
            record {
              thing = y;
              is = ap (slice_get (slice_set w.objects a y)) (sym here) ∙ get_set_same w.objects a y (get_within w.objects a o there);
              instance = i ∙ ap (λ (t : Thing). t.instance) z;
              literal = l ∙ ap (λ (t : Thing). t.literal) z;
              captured = c ∙ ap (λ (t : Thing). t.captured) z;
              fields = f ∙ ap (λ (t : Thing). length t.fields) z;
            }
        of b q e (inr other) = kept_itself world b q (get_set_other w.objects a b y other ∙ e)
