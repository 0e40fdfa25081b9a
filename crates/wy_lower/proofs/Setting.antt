-- What sets a field of the current object sets it in the machine's store.
use Rattle.std.proofs.Common.{◌≡◌, ◌≢◌, ◌⊎◌, inl, inr, ℕ, ◌+◌, ◌<◌, Bool, true, false, List, [], length, Option, Some, None, refl, sym, ap, ◌∙◌, subst, arith, nat_lt, if◌then◌else◌}
use Rattle.std.proofs.lemmas.Bool.{cases_eq, ltb-true, lt-ltb}
use Rattle.std.specs.Prelude.{slice_get, slice_set}
use Rattle.wy_types.specs.declared.code.Variable.{Variable}
use Rattle.wy_types.specs.declared.code.Binding.{Binding}
use Rattle.wy_types.specs.declared.code.Binding.TheVariants as to
use Rattle.wy_types.specs.Program.{Program, Scope}
use Rattle.wy_device.specs.RunEnds.{Wrong}
use Rattle.wy_meaning.specs.Values.{Value, Nothing, Thing, World, Outcome, Gives, Stops, Reply, replied, stopped, field_set, write_field}
use Rattle.wy_meaning.specs.Starts.{Starts}
use Rattle.wy_meaning.specs.Eval.{Sight, assigned}
use Rattle.wy_meaning.specs.Results.{tick, settle}
use Rattle.wy_code.specs.declared.code.Body.{Body}
use Rattle.wy_code.specs.declared.code.Code.{Code}
use Rattle.wy_code.specs.Stores as word
use Rattle.wy_code.specs.Stores.{Word, Store, with_value, value_set}
use Rattle.wy_code.specs.Machine.{Frame, State, Next, Go, first_of, stored, step}
use Rattle.wy_lower.specs.Inside.{Inside, field_value, assigned_value}
use Rattle.wy_lower.specs.Lowerable.{Lowerable}
use Rattle.wy_lower.proofs.Addresses.{One, state}
use Rattle.wy_lower.proofs.Leads.{RunsTo, Runs, one_leads}
use Rattle.wy_lower.proofs.Looking.{some_is, there, get_within, get_set_same, get_set_other, length_set}
use Rattle.wy_lower.proofs.NamesFound.{Belongs, Mine, mine, length_map}
use Rattle.wy_lower.proofs.Ready.{Ready, ready_after}
use Rattle.wy_lower.proofs.Relation.{Same, own_count}
use Rattle.wy_lower.proofs.Slots.{first_is, Self, Alone}
use Rattle.wy_lower.proofs.Worlds.{Written, thing_with, item_with, thing_written, thing_set, set_later}

module _ (x : ℕ) (b : Body) (callers : List Frame) where
  -- nothing is pushed
  abbrev pub set_next : ℕ → List Word → Value → World → One → State
  set_next end operands v w c = state x b callers end c.slots operands c.store

  module _ (fine : Value → World → One → Type 0) (end : ℕ) (slots operands : List Word) where
    abbrev pub SetsTo : Outcome Value → World → Next → Type 0
    SetsTo (Stops e) w t = e ≡ Wrong
    SetsTo (Gives v) w t = (m : Store) × fine v w (record { word = word.Nothing; store = m; slots = slots }) ×
        (t ≡ Go [] (state x b callers end slots operands m))

    -- the machine goes on where the reply is a value
    pub record Sets (q : Reply) (t : Next) : Type 0 where
      pub by : SetsTo q.out q.world t

    sets_to : (g : Code) (n : ℕ) (t : State) (o : Outcome Value) (w : World) (u : Next) → SetsTo o w u → step g n t ≡ u →
        RunsTo g n fine (set_next end operands) t o w [] (ℕ.suc 0)
    sets_to g n t (Stops e) w u h st = λ ne. absurd (ne h)
    sets_to g n t (Gives v) w u h st = (record { word = word.Nothing; store = h.0; slots = slots }, h.1, one_leads g n t _ [] (st ∙ h.2))

    -- one instruction that sets
    pub set_runs : (g : Code) (n : ℕ) (t : State) (q : Reply) (u : Next) → Sets q u → step g n t ≡ u →
        Runs g n fine (set_next end operands) t (tick (settle q))
    unfolding tick settle
    set_runs g n t q u h st = record { by = sets_to g n t q.out q.world u h.by st }

-- writing over a field leaves the others
pub set_written : (fields : List Value) (k : ℕ) (v : Value) → k < length fields → Written k v fields (slice_set fields k v)
set_written fields k v h j u e = of (cases_eq k j)
  where
    of : (k ≡ j) ⊎ (k ≡ j → ⊥) → ((j ≡ k) × (v ≡ u)) ⊎ ((k ≢ j) × (slice_get fields j ≡ Some u))
    of (inl same) = inl (sym same, some_is (sym (get_set_same fields k v h) ∙ (ap (slice_get (slice_set fields k v)) same ∙ e)))
    of (inr other) = inr (other, sym (get_set_other fields k j v other) ∙ e)

module _ (p : Program) (s : Starts) (ok : Lowerable p s) (sc : Scope) (i : Inside) (x : ℕ) (of_scope : Belongs p s sc i x) (sight : Sight)
    (w0 : World) (m0 : Store) (w : World) (m : Store) (slots : List Word) (r : Ready p s i x sight w0 m0 w m slots) where
  -- a value of the current object, set in the store
  abbrev pub with_item : ℕ → word.Thing → Store
  with_item a y = record m { objects = slice_set m.objects a y }

  abbrev pub with_object : ℕ → Thing → World
  with_object a y = record w { objects = slice_set w.objects a y }

  pub value_is_set : (h : Self i x w sight slots) (q : Mine p s ok sc i x of_scope sight w0 m0 w m slots r h.object h.thing) (k : ℕ) (z : Word) →
      k < length q.item.values → value_set (first_of slots) k z m ≡ Some (with_item h.object (item_with q.item k z))
  value_is_set h q k z l =
      ap (λ (y : Word). value_set y k z m) (first_is slots _ h.slot)
      ∙ ap (with_value h.object k z m) q.is
      ∙ ap (λ c. if c then Some (with_item h.object (item_with q.item k z)) else None) (lt-ltb k (length q.item.values) l)

  -- the state of the slots and the store after a field was set
  pub record StillReady (v : Value) (w' : World) (c : One) : Type 0 where
    pub ready : Ready p s i x sight w0 m0 w' c.store c.slots

  module _ (b : Body) (callers : List Frame) (end : ℕ) (operands : List Word) where
    abbrev after : Store → State
    after m' = state x b callers end slots operands m'

    abbrev Writes : Reply → Next → Type 0
    Writes q t = Sets x b callers StillReady end slots operands q t

    wrong_sets : (t : Next) → Writes (stopped Wrong w) t
    wrong_sets t = record { by = refl }

    field_sets : (k : ℕ) (v : Value) (z : Word) → Same m.texts v z →
        Writes (write_field sight.this k v w) (stored (value_set (first_of slots) (field_value i k) z m) (after m))
    field_sets k v z same = of r.holds.self sight.this refl
      where
        N : Next
        N = stored (value_set (first_of slots) (field_value i k) z m) (after m)

        in_object : (h : Self i x w sight slots) (c : Bool) → nat_lt k (length h.thing.fields) ≡ c →
            Writes (if c then replied Nothing (with_object h.object (thing_with h.thing (slice_set h.thing.fields k v))) else stopped Wrong w) N
        in_object h false e = wrong_sets N
        in_object h true e =
            let q = mine p s ok sc i x of_scope sight w0 m0 w m slots r h in
            let within = ltb-true k (length h.thing.fields) e in
            let old = there h.thing.fields k within in
            let o = q.same.fields k old.0 old.1 in
            let l = get_within q.item.values _ o.word o.is in
            let n : length i.captures ≡ length h.thing.captured = ap length (sym h.names)
            ∙ length_map (λ (c : Variable × Value). c.0) h.thing.captured in
            let at : field_value i k ≡ own_count q.same.scope + length h.thing.captured + k = omega (arith, n, q.offset) in
            let set = value_is_set h q _ z l in
            let changed = thing_written p s m.texts h.thing q.item q.same k v z same _ (set_written h.thing.fields k v within) l in
            record {
              by = (
                with_item h.object (item_with q.item (own_count q.same.scope + length h.thing.captured + k) z),
                record {
                  ready = ready_after p s i x sight w0 m0 w m _ _ slots r
                      (thing_set p s w m r.world h.object h.thing _ q.item _ h.is q.is changed)
                      (set_later p s w m r.world h.object h.thing _ q.item _ h.is q.is refl refl refl (length_set h.thing.fields k v));
                },
                ap (λ (c : ℕ). stored (value_set (first_of slots) c z m) (after m)) at ∙ ap (λ o. stored o (after m)) set,
              );
            }

        of : Self i x w sight slots ⊎ Alone i x sight → (o : Option ℕ) → sight.this ≡ o → Writes (write_field sight.this k v w) N
        of c None t = subst (λ o. Writes (write_field o k v w) N) (sym t) (wrong_sets N)
        of (inr a) (Some d) t = let z = a.this in absurd cc
        of (inl h) (Some d) t =
            let e : write_field sight.this k v w ≡ field_set h.object k v w (Some h.thing) =
            ap (λ o. write_field o k v w) t ∙ (ap (λ (c : ℕ). write_field (Some c) k v w) (h.this d t) ∙ ap (field_set h.object k v w) h.is) in
            subst (λ (y : Reply). Writes y N) (sym e) (in_object h (nat_lt k (length h.thing.fields)) refl)

    pub assigned_sets : (name : Binding) (v : Value) (z : Word) → Same m.texts v z →
        Writes (assigned sight name v w) (stored (value_set (first_of slots) (assigned_value i name) z m) (after m))
    assigned_sets (to.Field k) v z same = field_sets k v z same
    assigned_sets (to.Variable y) v z same = wrong_sets _
    assigned_sets (to.Own k) v z same = wrong_sets _
