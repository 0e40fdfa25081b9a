-- The code of a body that starts does what the start of its scope means: the initialisers of a module's fields, each of
-- which is set as soon as its value is there, or the program's own block.
use Rattle.std.proofs.Common.{◌≡◌, ◌≢◌, ◌⊎◌, inl, inr, ℕ, suc, ◌+◌, ◌<◌, ◌≤◌, false, List, [], ◌∷◌, ◌++◌, length, length-append, Some, None, refl, sym, ap, ◌∙◌, subst, arith}
use Rattle.std.proofs.lemmas.Bool.{both_ways}
use Rattle.std.specs.Prelude.{slice_get, slice_set}
use Rattle.wy_types.specs.declared.code.Variable.{Variable}
use Rattle.wy_types.specs.Code as code
use Rattle.wy_types.specs.Code.{Values, none, more}
use Rattle.wy_types.specs.Core.{ValuesFit}
use Rattle.wy_types.specs.Vals.{value_count, literal_fields, values_vals}
use Rattle.wy_types.specs.Program.{Program, Scope}
use Rattle.wy_meaning.specs.Values.{Value, Nothing, Thing, World, Reply, replied, field_added, fill_field}
use Rattle.wy_meaning.specs.Starts.{Starts}
use Rattle.wy_meaning.specs.Eval.{Calls}
use Rattle.wy_meaning.specs.Results.{give}
use Rattle.wy_meaning.specs.Start.{fill_all, outside}
use Rattle.wy_code.specs.declared.code.Body.{Body}
use Rattle.wy_code.specs.declared.code.Code.{Code}
use Rattle.wy_code.specs.declared.instruction.Instruction.TheVariants.{Set}
use Rattle.wy_code.specs.Stores as word
use Rattle.wy_code.specs.Stores.{Word, Store, with_value, value_set}
use Rattle.wy_code.specs.Machine.{Frame, State, Next, first_of, stored}
use Rattle.wy_lower.specs.Inside.{Inside, field_value}
use Rattle.wy_lower.specs.Listing.{one, value_mark, value_listing, fields_listing}
use Rattle.wy_lower.specs.Lowerable.{Lowerable}
use Rattle.wy_lower.specs.Lowering.{lowered}
use Rattle.wy_lower.specs.Operands.{fields_operands}
use Rattle.wy_lower.specs.Parts.{values_parts}
use Rattle.wy_lower.proofs.Addresses.{Stands, first_stands, rest_stands, One, state, pushed, acts}
use Rattle.wy_lower.proofs.Allowed.{Allowed, first_allowed, rest_allowed}
use Rattle.wy_lower.proofs.Entering.{instance_holds}
use Rattle.wy_lower.proofs.Forms.{HasLiterals, value_runs}
use Rattle.wy_lower.proofs.Leads.{Runs, give_runs, bind_runs}
use Rattle.wy_lower.proofs.Looking.{some_is, get_within, get_joined, get_set_same, get_set_other}
use Rattle.wy_lower.proofs.Making.{names_of}
use Rattle.wy_lower.proofs.NamesFound.{Belongs, mine}
use Rattle.wy_lower.proofs.Ready.{Ready, Fine}
use Rattle.wy_lower.proofs.Relation.{Same, own_count, SameThing, SameWorld, Later, later_itself}
use Rattle.wy_lower.proofs.Setting.{set_next, Sets, set_runs, value_is_set}
use Rattle.wy_lower.proofs.Slots.{Self, Alone, Holds}
use Rattle.wy_lower.proofs.Steps.{CallsRun, HasGrants}
use Rattle.wy_lower.proofs.Worlds.{Written, thing_with, item_with, thing_written, thing_set}

-- an instance's own object has so many of its fields
pub record HasFields (w : World) (x k : ℕ) : Type 0 where
  pub thing : Thing
  pub is : slice_get w.objects x ≡ Some thing
  pub instance : thing.instance ≡ x
  pub literal : thing.literal ≡ 0
  pub captured : thing.captured ≡ []
  pub fields : length thing.fields ≡ k

-- so have the instances that start later none
pub record Unstarted (w : World) (from count : ℕ) : Type 0 where
  pub by : (y : ℕ) → from ≤ y → y < count → HasFields w y 0

pub fields_stay : (w : World) (m : Store) (w' : World) (m' : Store) (x k : ℕ) → Later w m w' m' → HasFields w x k → HasFields w' x k
fields_stay w m w' m' x k l h =
    let y = l.objects x h.thing h.is in
    record {
      thing = y.thing;
      is = y.is;
      instance = y.instance ∙ h.instance;
      literal = y.literal ∙ h.literal;
      captured = y.captured ∙ h.captured;
      fields = y.fields ∙ h.fields;
    }

pub unstarted_stay : (w : World) (m : Store) (w' : World) (m' : Store) (from count : ℕ) → Later w m w' m' → Unstarted w from count →
    Unstarted w' from count
unstarted_stay w m w' m' from count l h = record { by = λ y a b. fields_stay w m w' m' y 0 l (h.by y a b) }

-- one more field is the last one
added_written : (fields : List Value) (v : Value) → Written (length fields) v fields (fields ++ v ∷ [])
added_written fields v j u e = of (get_joined fields v j u e)
  where
    of : (slice_get fields j ≡ Some u) ⊎ ((j ≡ length fields) × (v ≡ u)) →
        ((j ≡ length fields) × (v ≡ u)) ⊎ ((length fields ≢ j) × (slice_get fields j ≡ Some u))
    of (inl h) = inr ((λ e. let l = get_within fields j u h in absurd (omega arith)), h)
    of (inr h) = inl h

module _ (p : Program) (s : Starts) (ok : Lowerable p s) (has : HasGrants p s) (n : ℕ) (calls : Calls) (called : CallsRun p s n n calls) (sc : Scope)
    (i : Inside) (x : ℕ) (of_scope : Belongs p s sc i x) (literals : HasLiterals p s sc i x) (b : Body) (bare : i.captures ≡ [])
    (module_only : i.program ≡ false) (following count : ℕ) where
  abbrev g : Code
  g = lowered p s

  -- while the fields of an instance are filled
  pub record Filling (k : ℕ) (w : World) (m : Store) (slots : List Word) : Type 0 where
    pub world : SameWorld p s w m
    pub holds : Holds i x m.texts w (outside x) slots
    pub object : HasFields w x k
    pub next : m.next ≡ following
    pub others : Unstarted w (suc x) count

  pub record Filled (k : ℕ) (v : Value) (w : World) (c : One) : Type 0 where
    pub by : Filling k w c.store c.slots

  still_filling : (k : ℕ) (w : World) (m : Store) (slots : List Word) → Filling k w m slots → (w' : World) (m' : Store) (slots' : List Word) →
      Ready p s i x (outside x) w m w' m' slots' → Filling k w' m' slots'
  still_filling k w m slots h w' m' slots' r = record {
    world = r.world;
    holds = r.holds;
    object = fields_stay w m w' m' x k r.later h.object;
    next = r.later.next ∙ h.next;
    others = unstarted_stay w m w' m' (suc x) count r.later h.others;
  }

  -- the next field of the instance's own object is set
  module _ (k : ℕ) (w : World) (m : Store) (slots : List Word) (h : Filling k w m slots)
      (within : k < length (literal_fields (slice_get sc.literals 0))) (v : Value) (z : Word) (same : Same m.texts v z) (at : ℕ) where
    abbrev after : Store → State
    after m' = state x b [] at slots [] m'

    ready : Ready p s i x (outside x) w m w m slots
    ready = record { world = h.world; holds = h.holds; later = later_itself w m }

    filled_sets : Sets x b [] (Filled (suc k)) at slots [] (fill_field x v w) (stored (value_set (first_of slots) (field_value i k) z m) (after m))
    filled_sets = of h.holds.self
      where
        N : Next
        N = stored (value_set (first_of slots) (field_value i k) z m) (after m)

        of : Self i x w (outside x) slots ⊎ Alone i x (outside x) → Sets x b [] (Filled (suc k)) at slots [] (fill_field x v w) N
        of (inr a) = absurd (both_ways i.program module_only a.program)
        of (inl own) =
            let q = mine p s ok sc i x of_scope (outside x) w m w m slots ready own in
            let e : slice_get w.objects x ≡ Some own.thing = sym (ap (slice_get w.objects) (own.starting refl)) ∙ own.is in
            let t : h.object.thing ≡ own.thing = some_is (sym h.object.is ∙ e) in
            let fields : length own.thing.fields ≡ k = ap (λ (y : Thing). length y.fields) (sym t) ∙ h.object.fields in
            let nothing : own.thing.captured ≡ [] = ap (λ (y : Thing). y.captured) (sym t) ∙ h.object.captured in
            let none_captured : length own.thing.captured ≡ 0 = ap length nothing in
            let own_literal : own.thing.literal ≡ 0 = ap (λ (y : Thing). y.literal) (sym t) ∙ h.object.literal in
            let size : length (literal_fields (slice_get q.same.scope.literals own.thing.literal)) ≡ length
            (literal_fields (slice_get sc.literals 0)) =
            ap (λ (c : Scope). length (literal_fields (slice_get c.literals own.thing.literal))) q.scope
            ∙ ap (λ (l : ℕ). length (literal_fields (slice_get sc.literals l))) own_literal in
            let l : own_count q.same.scope + length own.thing.captured + length own.thing.fields < length q.item.values = omega
            (arith, q.same.long, size, fields) in
            let no_captures : length i.captures ≡ 0 = ap length bare in
            let place : field_value i k ≡ own_count q.same.scope + length own.thing.captured + length own.thing.fields = omega (arith, q.offset) in
            let changed : SameThing p s m.texts (thing_with own.thing (own.thing.fields ++ v ∷ []))
            (item_with q.item (own_count q.same.scope + length own.thing.captured + length own.thing.fields) z) =
            thing_written p s m.texts own.thing q.item q.same (length own.thing.fields) v z same _ (added_written own.thing.fields v) l in
            let set = value_is_set p s ok sc i x of_scope (outside x) w m w m slots ready own q _ z l in
            let after_world : World = record w { objects = slice_set w.objects own.object (thing_with own.thing (own.thing.fields ++ v ∷ [])) } in
            let after_store : Store = record m {
              objects = slice_set m.objects own.object
                  (item_with q.item (own_count q.same.scope + length own.thing.captured + length own.thing.fields) z);
            } in
            let filled : fill_field x v w ≡ replied Nothing after_world =
            ap (λ (y : ℕ). field_added y v w (slice_get w.objects y)) (sym (own.starting refl)) ∙ ap (field_added own.object v w) own.is in
            let now : HasFields after_world x (suc k) = record {
              thing = thing_with own.thing (own.thing.fields ++ v ∷ []);
              is = ap (slice_get after_world.objects) (sym (own.starting refl))
                  ∙ get_set_same w.objects own.object _ (get_within w.objects own.object own.thing own.is);
              instance = own.instance;
              literal = own_literal;
              captured = nothing;
              fields = let y = length-append own.thing.fields (v ∷ []) in omega arith;
            } in
            subst (λ (y : Reply). Sets x b [] (Filled (suc k)) at slots [] y N) (sym filled) (record {
              by = (
                after_store,
                record {
                  by = record {
                    world = thing_set p s w m h.world own.object own.thing _ q.item _ own.is q.is changed;
                    holds = instance_holds i x m.texts after_world slots h.holds.long
                        (own.slot ∙ ap (λ (y : ℕ). Some (word.Object y)) (own.starting refl)) now.thing now.is now.instance
                        (ap names_of nothing ∙ sym bare);
                    object = now;
                    next = h.next;
                    others = record { by = λ y c d. other own.object own.thing (own.starting refl) v y c (h.others.by y c d) };
                  };
                },
                ap (λ (c : ℕ). stored (value_set (first_of slots) c z m) (after m)) place ∙ ap (λ o. stored o (after m)) set,
              );
            })
          where
            other : (a : ℕ) (o : Thing) → a ≡ x → (u : Value) (y : ℕ) → suc x ≤ y → HasFields w y 0 →
                HasFields (record w { objects = slice_set w.objects a (thing_with o (o.fields ++ u ∷ [])) }) y 0
            other a o here u y c f = record {
              thing = f.thing;
              is = get_set_other w.objects a y _ (λ e. absurd (omega arith)) ∙ f.is;
              instance = f.instance;
              literal = f.literal;
              captured = f.captured;
              fields = f.fields;
            }

  pub fill_runs : (es : Values) (seen : List Variable) → ValuesFit p sc None seen es →
      Allowed p s sc i (outside x) (values_parts es) (values_vals es) → (at k end : ℕ) → Stands b at (fields_listing i at k es) end →
      value_count es + k ≡ length (literal_fields (slice_get sc.literals 0)) →
      (w : World) (m : Store) (slots : List Word) → Filling k w m slots → 1 + i.parameters + length i.vals + fields_operands es ≤ b.slots →
      Runs g n (Filled (length (literal_fields (slice_get sc.literals 0)))) (set_next x b [] end []) (state x b [] at slots [] m)
      (fill_all p s calls (outside x) x es w)
  unfolding fill_all fields_listing fields_operands
  fill_runs none seen f al at k end h full w m slots filling room =
      let z : k ≡ length (literal_fields (slice_get sc.literals 0)) = omega arith in
      subst (λ l. Runs g n (Filled (length (literal_fields (slice_get sc.literals 0)))) (set_next x b [] end [])
      (record { frame = record { instance = x; body = b; rest = l; slots = slots; operands = [] }; callers = []; store = m }) (give Nothing w))
      (sym h.by)
      (give_runs g n (Filled (length (literal_fields (slice_get sc.literals 0)))) (set_next x b [] end []) Nothing w
      (record { word = word.Nothing; store = m; slots = slots }) (record { by = subst (λ (c : ℕ). Filling c w m slots) z filling }))
  fill_runs (more e es) seen f al at k end h full w m slots filling room =
      let a = first_stands b at (value_listing i at e ++ one (value_mark e) (Set (field_value i k))) _ end h in
      let deep : n + length {A = Frame} [] ≡ n = omega arith in
      bind_runs g n (Fine p s i x (outside x) w m) (pushed x b [] (at + length (value_listing i at e)) []) _ _ _ _ _
      (value_runs p s ok has n n calls called sc i x of_scope literals None b [] deep e (outside x) seen f.0
      (first_allowed p s sc i (outside x) _ _ _ _ al) at _ (first_stands b at _ _ _ a) w m w m slots
      (record { world = filling.world; holds = filling.holds; later = later_itself w m }) [] (omega arith))
      (λ v w1 c q. bind_runs g n (Filled (suc k))
      (set_next x b [] (at + length (value_listing i at e ++ one (value_mark e) (Set (field_value i k)))) []) _ _ _ _ _
      (set_runs x b [] (Filled (suc k)) _ c.slots [] g n _ _ _
      (filled_sets k w1 c.store c.slots (still_filling k w m slots filling w1 c.store c.slots q.ready) (omega arith) v c.word q.same _)
      (acts x b [] g n _ (value_mark e) (Set (field_value i k)) _ c.slots (c.word ∷ []) c.store (rest_stands b at _ _ _ a)))
      (λ u w2 d t. fill_runs es seen f.1 (rest_allowed p s sc i (outside x) _ _ _ _ al) _ (suc k) end (next_fields at k e es end h)
      (omega arith) w2 d.store d.slots t.by (omega arith)))
    where
      next_fields : (at k : ℕ) (e : code.Value) (es : Values) (end : ℕ) → Stands b at (fields_listing i at k (more e es)) end →
          Stands b (at + length (value_listing i at e ++ one (value_mark e) (Set (field_value i k))))
          (fields_listing i (at + length (value_listing i at e ++ one (value_mark e) (Set (field_value i k)))) (suc k) es) end
      next_fields at k e es end h =
          let z : k + 1 ≡ suc k = omega arith in
          subst (λ (j : ℕ). Stands b (at + length (value_listing i at e ++ one (value_mark e) (Set (field_value i k))))
          (fields_listing i (at + length (value_listing i at e ++ one (value_mark e) (Set (field_value i k)))) j es) end) z
          (rest_stands b at (value_listing i at e ++ one (value_mark e) (Set (field_value i k))) _ end h)
