-- What makes an object of a literal makes one that corresponds: the module's own names, the variables that the literal
-- captures, and the fields.
use Rattle.std.proofs.Common.{◌≡◌, ◌⊎◌, inl, inr, ℕ, zero, suc, ◌+◌, ◌<◌, Bool, true, false, List, [], ◌∷◌, ◌++◌, length, length-append, map, Option, Some, None, refl, sym, ap, ◌∙◌, subst, arith, nat_lt, nat_eq, if◌then◌else◌}
use Rattle.std.proofs.lemmas.Bool.{both_ways, eqb-true}
use Rattle.std.specs.Prelude.{slice_get}
use Rattle.wy_text.specs.declared.fault.Place.{Place}
use Rattle.wy_types.specs.declared.code.Variable.{Variable}
use Rattle.wy_types.specs.declared.linked.Actual.{Actual}
use Rattle.wy_types.specs.declared.resolved.Literal.{Literal}
use Rattle.wy_types.specs.Vals.{literal_captures, literal_fields}
use Rattle.wy_types.specs.Program.{Program, Scope}
use Rattle.wy_device.specs.RunEnds.{Trap, Wrong}
use Rattle.wy_device.specs.Traps.{most_objects, Crowded}
use Rattle.wy_meaning.specs.Values.{Value, Object, Named, Thing, World, Reply, value_named, replied, stopped, object_made}
use Rattle.wy_meaning.specs.Starts.{Starts, actual_of, scope_of_instance, literal_in}
use Rattle.wy_meaning.specs.Eval.{Sight, with_named, captured_from, object_with, object_new}
use Rattle.wy_meaning.specs.Results.{tick, settle}
use Rattle.wy_code.specs.declared.code.Body.{Body}
use Rattle.wy_code.specs.declared.code.Code.{Code}
use Rattle.wy_code.specs.declared.code.Literal as item
use Rattle.wy_code.specs.declared.code.Source.{Source}
use Rattle.wy_code.specs.declared.code.Source.TheVariants as source
use Rattle.wy_code.specs.declared.instruction.Instruction.TheVariants.{New as Make}
use Rattle.wy_code.specs.Stores as word
use Rattle.wy_code.specs.Stores.{Word, Store, Replies, Ends as EndsRun, value_at}
use Rattle.wy_code.specs.Machine.{Frame, State, push_reply, first_of, with_word, word_from, words_from, on_taken, make_with, make, literal_of, step}
use Rattle.wy_lower.specs.Inside.{Inside, is_own, slot_of, own_values, capture_value, source_of, own_sources, sources_of, capture_sources}
use Rattle.wy_lower.specs.Listing.{one}
use Rattle.wy_lower.specs.Lowerable.{Lowerable}
use Rattle.wy_lower.specs.Lowering.{is_program}
use Rattle.wy_lower.proofs.Addresses.{Stands, state, pushed, pile, takes, acts, replied_answers, stopped_answers, answer_runs}
use Rattle.wy_lower.proofs.Leads.{Runs, wrong_reply_runs}
use Rattle.wy_lower.proofs.Looking.{some_is, get_front, get_behind, there}
use Rattle.wy_lower.proofs.NamesFound.{Belongs, owned, mine, captured_found, own_slot_found, length_map}
use Rattle.wy_lower.proofs.Ready.{Ready, Fine, ready_after}
use Rattle.wy_lower.proofs.Relation.{Same, same_object, SameAll, none_same, more_same, all_count, all_found, Found, found_at, word_handed, own_count, SameThing}
use Rattle.wy_lower.proofs.Replies.{Fits}
use Rattle.wy_lower.proofs.Slots.{picked, not_picked, Self, Alone}
use Rattle.wy_lower.proofs.Worlds.{object_world, object_store, object_added, object_later}

------------------------------------------------------------
-- Words from their sources

module _ (f : Frame) (m : Store) where
  pub joined_words : (xs ys : List Source) (zs us : List Word) → words_from f m xs ≡ Some zs → words_from f m ys ≡ Some us →
      words_from f m (xs ++ ys) ≡ Some (zs ++ us)
  joined_words [] ys zs us e h = let z : [] ≡ zs = some_is e in h ∙ ap (λ (l : List Word). Some (l ++ us)) z
  joined_words (x ∷ xs) ys zs us e h = of (word_from f m x) (words_from f m xs) refl refl e (λ rest b. joined_words xs ys rest us b h)
    where
      of : (o : Option Word) (r : Option (List Word)) → word_from f m x ≡ o → words_from f m xs ≡ r → with_word o r ≡ Some zs →
          ((rest : List Word) → words_from f m xs ≡ Some rest → words_from f m (xs ++ ys) ≡ Some (rest ++ us)) →
          words_from f m (x ∷ (xs ++ ys)) ≡ Some (zs ++ us)
      of None r a b e more = absurd cc
      of (Some z) None a b e more = absurd cc
      of (Some z) (Some rest) a b e more =
          ap (λ o. with_word o (words_from f m (xs ++ ys))) a
          ∙ ap (with_word (Some z)) (more rest b)
          ∙ ap (λ (l : List Word). Some (l ++ us)) (some_is e)

  -- the first values of the current object
  pub record Owns (from count : ℕ) : Type 0 where
    pub words : List Word
    pub are : words_from f m (own_sources from count) ≡ Some words
    pub many : length words ≡ count
    pub each : (k : ℕ) → k < count → slice_get words k ≡ value_at m (first_of f.slots) (from + k)

  pub owns : (from count : ℕ) → ((k : ℕ) → k < count → (z : Word) × (value_at m (first_of f.slots) (from + k) ≡ Some z)) → Owns from count
  owns from zero h = record { words = []; are = refl; many = refl; each = λ k l. absurd (omega arith) }
  owns from (suc count) h =
      let rest = owns (from + 1) count
      (λ k l. let y = h (suc k) (omega arith) in let z : from + 1 + k ≡ from + suc k = omega arith in
      (y.0, ap (value_at m (first_of f.slots)) z ∙ y.1)) in
      let y = h 0 (omega arith) in
      let z : from ≡ from + 0 = omega arith in
      let here : value_at m (first_of f.slots) from ≡ Some y.0 = ap (value_at m (first_of f.slots)) z ∙ y.1 in
      record {
        words = y.0 ∷ rest.words;
        are = ap (λ o. with_word o (words_from f m (own_sources (from + 1) count))) here ∙ ap (with_word (Some y.0)) rest.are;
        many = ap suc rest.many;
        each = each rest y.0 (sym y.1);
      }
    where
      each : (rest : Owns (from + 1) count) (y : Word) → Some y ≡ value_at m (first_of f.slots) (from + 0) → (k : ℕ) → k < suc count →
          slice_get (y ∷ rest.words) k ≡ value_at m (first_of f.slots) (from + k)
      each rest y e zero l = e
      each rest y e (suc k) l = rest.each k (omega arith)
          ∙ (let z : from + 1 + k ≡ from + suc k = omega arith in ap (value_at m (first_of f.slots)) z)

named_parts : (x : Variable) (o : Option Value) (r : Option Named) (c : Named) → with_named x o r ≡ Some c → (v : Value) × (rest : Named) ×
    (o ≡ Some v) × (r ≡ Some rest) × ((x, v) ∷ rest ≡ c)
named_parts x None r c e = absurd cc
named_parts x (Some v) None c e = absurd cc
named_parts x (Some v) (Some rest) c e = (v, rest, refl, refl, some_is e)

abbrev pub names_of : Named → List Variable
names_of c = map (λ (e : Variable × Value). e.0) c

abbrev pub values_of : Named → List Value
values_of c = map (λ (e : Variable × Value). e.1) c

-- the names of what is captured are the literal's
pub captured_names : (vars : Named) (xs : List Variable) (c : Named) → captured_from vars xs ≡ Some c → names_of c ≡ xs
captured_names vars [] c e = let z : [] ≡ c = some_is e in ap names_of (sym z)
captured_names vars (x ∷ xs) c e =
    let q = named_parts x (value_named vars x) (captured_from vars xs) c e in
    ap names_of (sym q.4) ∙ ap (λ (l : List Variable). x ∷ l) (captured_names vars xs q.1 q.3)

value_at_place : (c : Named) (k : ℕ) (e : Variable × Value) → slice_get c k ≡ Some e → slice_get (values_of c) k ≡ Some e.1
value_at_place [] k e h = absurd cc
value_at_place (x ∷ c) zero e h = ap (λ (o : Variable × Value). Some o.1) (some_is h)
value_at_place (x ∷ c) (suc k) e h = value_at_place c k e h

module _ (p : Program) (s : Starts) (ok : Lowerable p s) (sc : Scope) (i : Inside) (x : ℕ) (of_scope : Belongs p s sc i x) (sight : Sight)
    (w0 : World) (m0 : Store) (w : World) (m : Store) (slots : List Word) (r : Ready p s i x sight w0 m0 w m slots) where
  module _ (f : Frame) (frame : f.slots ≡ slots) where
    source_found : (y : Variable) (v : Value) → value_named sight.variables y ≡ Some v → Found m.texts v (word_from f m (source_of i y))
    source_found y v e = of (is_own i y) refl
      where
        of : (c : Bool) → is_own i y ≡ c → Found m.texts v (word_from f m (source_of i y))
        of true o =
            found_at m.texts v _ _ (ap (word_from f m) (picked (is_own i y) (source.Slot (slot_of i y)) (source.Value (capture_value i y)) o)
            ∙ ap (λ (l : List Word). slice_get l (slot_of i y)) frame)
            (own_slot_found p s ok sc i x of_scope sight w0 m0 w m slots r y v o e)
        of false o =
            found_at m.texts v _ _ (ap (word_from f m) (not_picked (is_own i y) (source.Slot (slot_of i y)) (source.Value (capture_value i y)) o)
            ∙ ap (λ (l : List Word). value_at m (first_of l) (capture_value i y)) frame)
            (captured_found p s ok sc i x of_scope sight w0 m0 w m slots r y v o e)

    pub record Sourced (xs : List Variable) (c : Named) : Type 0 where
      pub words : List Word
      pub are : words_from f m (sources_of i xs) ≡ Some words
      pub same : SameAll m.texts (values_of c) words

    sourced : (xs : List Variable) (c : Named) → captured_from sight.variables xs ≡ Some c → Sourced xs c
    sourced [] c e = let z : [] ≡ c = some_is e in subst (λ (y : Named). Sourced [] y) z (record { words = []; are = refl; same = none_same })
    sourced (y ∷ xs) c e =
        let q = named_parts y (value_named sight.variables y) (captured_from sight.variables xs) c e in
        let a = source_found y q.0 q.2 in
        let b = sourced xs q.1 q.3 in
        subst (λ (d : Named). Sourced (y ∷ xs) d) q.4 (record {
          words = a.word ∷ b.words;
          are = ap (λ o. with_word o (words_from f m (sources_of i xs))) a.is ∙ ap (with_word (Some a.word)) b.are;
          same = more_same q.0 a.word (values_of q.1) b.words a.same b.same;
        })

    -- in a module the current object has the own names' values, and in the program there are none
    owned_words : Owns f m 0 (own_values i)
    owned_words = of r.holds.self i.program refl
      where
        none : i.program ≡ true → Owns f m 0 (own_values i)
        none t = let z : 0 ≡ own_values i = sym (ap (λ b. if b then 0 else i.owns) t) in
            subst (λ (k : ℕ). Owns f m 0 k) z (owns f m 0 0 (λ k l. absurd (omega arith)))

        of : Self i x w sight slots ⊎ Alone i x sight → (c : Bool) → i.program ≡ c → Owns f m 0 (own_values i)
        of c true t = none t
        of (inr a) false t = absurd (both_ways i.program t a.program)
        of (inl h) false t =
            let q = mine p s ok sc i x of_scope sight w0 m0 w m slots r h in
            owns f m 0 (own_values i) (λ k l.
            let z : 0 + k ≡ k = omega arith in
            let within : k < length q.item.values = omega (arith, q.offset, q.same.long) in
            let y = there q.item.values k within in
            (y.0, ap (value_at m (first_of f.slots)) z ∙ (ap (λ (t : List Word). value_at m (first_of t) k) frame ∙ (q.read k ∙ y.1))))

    own_word : (ws : Owns f m 0 (own_values i)) → i.program ≡ false → (k : ℕ) (a : Actual) → actual_of s sight.instance k ≡ Some a →
        (k < own_values i) × (slice_get ws.words k ≡ Some (word_handed a))
    own_word ws other k a e = of r.holds.self
      where
        of : Self i x w sight slots ⊎ Alone i x sight → (k < own_values i) × (slice_get ws.words k ≡ Some (word_handed a))
        of (inr b) = absurd (both_ways i.program other b.program)
        of (inl h) =
            let q = mine p s ok sc i x of_scope sight w0 m0 w m slots r h in
            let here : actual_of s h.thing.instance k ≡ Some a = ap (λ (c : ℕ). actual_of s c k) (h.instance ∙ sym r.holds.instance) ∙ e in
            let kind : is_program q.same.scope.kind ≡ false = ap (λ (c : Scope). is_program c.kind) q.scope ∙ (sym of_scope.program ∙ other) in
            let g = q.same.own kind k a here in
            let l : k < own_values i = omega (arith, g.0, q.offset) in
            let z : 0 + k ≡ k = omega arith in
            (l, ws.each k l ∙ (ap (value_at m (first_of f.slots)) z ∙ (ap (λ (t : List Word). value_at m (first_of t) k) frame ∙ (q.read k ∙ g.1))))

  ------------------------------------------------------------
  -- The new object

  module _ (f : Frame) (frame : f.slots ≡ slots) (l : ℕ) (literal : Literal) (stands : slice_get sc.literals l ≡ Some literal) (c : Named)
      (captured : captured_from sight.variables literal.captures ≡ Some c) (vs : List Value) (zs : List Word) (same : SameAll m.texts vs zs)
      (full : length vs ≡ length literal.fields) where
    abbrev object : Thing
    object = record { instance = sight.instance; literal = l; captured = c; fields = vs }

    abbrev pub made_item : List Word → List Word → word.Thing
    made_item ws us = record { instance = x; literal = l; values = (ws ++ us) ++ zs }

    module _ (ws : Owns f m 0 (own_values i)) (us : Sourced f frame literal.captures c) where
      offset : length ws.words ≡ own_count sc
      offset = ws.many ∙ owned p s sc i x of_scope

      caught_word : (k : ℕ) (e : Variable × Value) → slice_get c k ≡ Some e →
          Found m.texts e.1 (slice_get ((ws.words ++ us.words) ++ zs) (own_count sc + k))
      caught_word k e h =
          let g = all_found m.texts (values_of c) us.words us.same k e.1 (value_at_place c k e h) in
          let z : own_count sc + k ≡ length ws.words + k = omega (arith, offset) in
          record {
            word = g.word;
            is = get_front (ws.words ++ us.words) zs _ g.word (get_behind ws.words us.words k _ z ∙ g.is);
            same = g.same;
          }

      field_word : (k : ℕ) (v : Value) → slice_get vs k ≡ Some v →
          Found m.texts v (slice_get ((ws.words ++ us.words) ++ zs) (own_count sc + length c + k))
      field_word k v h =
          let a = length-append ws.words us.words in
          let b = all_count m.texts (values_of c) us.words us.same in
          let d = length_map (λ (e : Variable × Value). e.1) c in
          let z : own_count sc + length c + k ≡ length (ws.words ++ us.words) + k = omega (arith, offset, a, b, d) in
          found_at m.texts v _ _ (get_behind (ws.words ++ us.words) zs k _ z) (all_found m.texts vs zs same k v h)

      pub made_same : SameThing p s m.texts object (made_item ws.words us.words)
      made_same = record {
        instance = sym r.holds.instance;
        literal = refl;
        scope = sc;
        stands = ap (scope_of_instance p s) r.holds.instance ∙ of_scope.stands;
        names = captured_names sight.variables literal.captures c captured ∙ ap literal_captures (sym stands);
        own = λ kind k a e.
            let g = own_word f frame ws (of_scope.program ∙ kind) k a e in
            let o = owned p s sc i x of_scope in
            (omega (arith, g.0, o), get_front (ws.words ++ us.words) zs k _ (get_front ws.words us.words k _ g.1));
        caught = caught_word;
        fields = field_word;
        long =
            let a = length-append ws.words us.words in
            let b = all_count m.texts (values_of c) us.words us.same in
            let d = length_map (λ (e : Variable × Value). e.1) c in
            let e = length-append (ws.words ++ us.words) zs in
            let h = all_count m.texts vs zs same in
            let g : length (literal_fields (slice_get sc.literals l)) ≡ length literal.fields = ap (λ o. length (literal_fields o)) stands in
            omega (arith, offset, full);
      }

  made_fits : (place : Place) (o : Thing) (y : word.Thing) → SameThing p s m.texts o y →
      Fits p s i x sight w0 m0 slots (settle (object_made place o w)) (word.object_made place y m)
  made_fits place o y same =
      subst (λ (k : ℕ). Fits p s i x sight w0 m0 slots (settle (object_made place o w))
      (if nat_lt k most_objects then Replies (word.Object (length m.objects)) (object_store m y) [] else EndsRun (Trap Crowded place) []))
      r.world.made (of (nat_lt w.made most_objects))
    where
      fine : Fine p s i x sight w0 m0 (Object (length w.objects)) (object_world w o)
          (record { word = word.Object (length m.objects); store = object_store m y; slots = slots })
      fine = record {
        same = subst (λ (k : ℕ). Same m.texts (Object (length w.objects)) (word.Object k)) (sym r.world.count) (same_object (length w.objects));
        ready = ready_after p s i x sight w0 m0 w m _ _ slots r (object_added p s w m o y r.world same) (object_later p s w m o y);
      }

      of : (b : Bool) → Fits p s i x sight w0 m0 slots
          (settle (if b then replied (Object (length w.objects)) (object_world w o) else stopped (Trap Crowded place) w))
          (if b then Replies (word.Object (length m.objects)) (object_store m y) [] else EndsRun (Trap Crowded place) [])
      of true = replied_answers _ slots _ _ _ _ fine
      of false = stopped_answers _ slots (Trap Crowded place) w

  ------------------------------------------------------------
  -- The instruction

  module _ (g : Code) (n : ℕ) (b : Body) (callers : List Frame) (at end : ℕ) (operands : List Word) (room : length slots + length operands < b.slots)
      (place : Place) (l : ℕ)
      (literal_there : (literal : Literal) → slice_get sc.literals l ≡ Some literal → (y : item.Literal) × (literal_of g x l ≡ Some y) ×
      (y.captures ≡ capture_sources i literal.captures) × (y.fields ≡ length literal.fields)) where
    pub new_runs : Stands b at (one place (Make l)) end → (vs : List Value) (zs : List Word) → SameAll m.texts vs zs →
        Runs g n (Fine p s i x sight w0 m0) (pushed x b callers end operands) (state x b callers at slots (pile zs operands) m)
        (tick (settle (object_new place sight l vs w (literal_in (scope_of_instance p s sight.instance) l))))
    new_runs code vs zs same =
        let e : literal_in (scope_of_instance p s sight.instance) l ≡ slice_get sc.literals l = ap (λ o. literal_in o l)
        (ap (scope_of_instance p s) r.holds.instance ∙ of_scope.stands) in
        subst (λ o. Runs g n (Fine p s i x sight w0 m0) (pushed x b callers end operands) T (tick (settle (object_new place sight l vs w o)))) (sym e)
        (of_literal (slice_get sc.literals l) refl)
      where
        T : State
        T = state x b callers at slots (pile zs operands) m

        S : State
        S = state x b callers end slots operands m

        Goal : Reply → Type 0
        Goal reply = Runs g n (Fine p s i x sight w0 m0) (pushed x b callers end operands) T (tick (settle reply))

        wrong : Goal (stopped Wrong w)
        wrong = wrong_reply_runs g n (Fine p s i x sight w0 m0) (pushed x b callers end operands) T w

        stepped : (literal : Literal) (stands : slice_get sc.literals l ≡ Some literal) (c : Named) → length vs ≡ length literal.fields →
            (ws : Owns S.frame m 0 (own_values i)) (us : Sourced S.frame refl literal.captures c) →
            step g n T ≡ push_reply (word.object_made place (record { instance = x; literal = l; values = (ws.words ++ us.words) ++ zs }) m) S
        stepped literal stands c full ws us =
            let y = literal_there literal stands in
            let many : length zs ≡ y.0.fields = sym (all_count m.texts vs zs same) ∙ (full ∙ sym y.3) in
            let words : words_from S.frame m y.0.captures ≡ Some (ws.words ++ us.words) = ap (words_from S.frame m) y.2
            ∙ joined_words S.frame m _ _ ws.words us.words ws.are us.are in
            acts x b callers g n at place (Make l) end slots (pile zs operands) m code
            ∙ ap (make place l (state x b callers end slots (pile zs operands) m)) y.1
            ∙ ap (λ t. on_taken t (state x b callers end slots (pile zs operands) m)
            (λ fields u. make_with place l fields u (words_from u.frame u.store y.0.captures))) (takes zs operands y.0.fields many)
            ∙ ap (make_with place l zs S) words

        of_captured : (literal : Literal) → slice_get sc.literals l ≡ Some literal → length vs ≡ length literal.fields → (o : Option Named) →
            captured_from sight.variables literal.captures ≡ o → Goal (object_with place sight l vs w o)
        of_captured literal stands full None e = wrong
        of_captured literal stands full (Some c) e =
            let ws = owned_words S.frame refl in
            let us = sourced S.frame refl literal.captures c e in
            answer_runs x b callers (Fine p s i x sight w0 m0) slots g n end operands m T room _ _
            (made_fits place _ _ (made_same S.frame refl l literal stands c e vs zs same full ws us))
            (stepped literal stands c full ws us)

        of_count : (literal : Literal) → slice_get sc.literals l ≡ Some literal → (d : Bool) → nat_eq (length vs) (length literal.fields) ≡ d →
            Goal (if d then object_with place sight l vs w (captured_from sight.variables literal.captures) else stopped Wrong w)
        of_count literal stands true e = of_captured literal stands (eqb-true (length vs) (length literal.fields) e) _ refl
        of_count literal stands false e = wrong

        of_literal : (o : Option Literal) → slice_get sc.literals l ≡ o → Goal (object_new place sight l vs w o)
        of_literal None e = wrong
        of_literal (Some literal) e = of_count literal e _ refl
