-- The first world and the first store correspond.
use Rattle.std.proofs.Common.{◌≡◌, ℕ, zero, suc, ◌+◌, ◌<◌, List, [], ◌∷◌, length, length-append, map, replicate, Some, refl, sym, ap, ◌∙◌, subst, arith}
use Rattle.std.proofs.lemmas.List.{length-replicate}
use Rattle.std.specs.Prelude.{slice_get}
use Rattle.wy_types.specs.declared.linked.Actual.{Actual}
use Rattle.wy_types.specs.declared.linked.Actual.TheVariants as actual
use Rattle.wy_types.specs.Vals.{literal_fields}
use Rattle.wy_types.specs.Program.{Program}
use Rattle.wy_device.specs.Tapes.{Tapes}
use Rattle.wy_meaning.specs.Values.{Thing}
use Rattle.wy_meaning.specs.Starts.{Started, Starts, all_started, actual_in, scope_started, scope_of_instance}
use Rattle.wy_meaning.specs.Start.{objects_at_first, world_at_first}
use Rattle.wy_code.specs.declared.code.Code.{Code}
use Rattle.wy_code.specs.Stores as word
use Rattle.wy_code.specs.Stores.{Word, Store}
use Rattle.wy_code.specs.Running as code
use Rattle.wy_code.specs.Running.{field_count, store_at_first}
use Rattle.wy_code.specs.Machine.{literal_of_scope, scope_in}
use Rattle.wy_lower.specs.Lowerable.{Lowerable, IsModuleStarted}
use Rattle.wy_lower.specs.Lowering.{is_program, text_table, argument_of, instance_code, lowered}
use Rattle.wy_lower.proofs.Codes.{scope_coded, literal_is, in_list}
use Rattle.wy_lower.proofs.Looking.{some_is, get_front, get_within, there}
use Rattle.wy_lower.proofs.NamesFound.{length_map}
use Rattle.wy_lower.proofs.Relation.{grows_refl, own_count, word_handed, SameThing, FoundThing, SameWorld}
use Rattle.wy_lower.proofs.Slots.{not_picked}
use Rattle.wy_lower.proofs.StartingRuns.{Unstarted}

abbrev pub instance_object : ℕ → Thing
instance_object x = record { instance = x; literal = 0; captured = []; fields = [] }

-- the objects of instances from number x on
pub first_object : (x : ℕ) (is : List Started) (a : ℕ) (o : Thing) → slice_get (objects_at_first x is) a ≡ Some o → (i : Started) ×
    (slice_get is a ≡ Some i) × (o ≡ instance_object (x + a))
first_object x [] a o e = absurd cc
first_object x (i ∷ is) zero o e = let z : x ≡ x + 0 = omega arith in (i, refl, sym (some_is e) ∙ ap instance_object z)
first_object x (i ∷ is) (suc a) o e =
    let r = first_object (suc x) is a o e in
    let z : suc x + a ≡ x + suc a = omega arith in
    (r.0, r.1, r.2 ∙ ap instance_object z)

pub object_there : (x : ℕ) (is : List Started) (a : ℕ) → a < length is → slice_get (objects_at_first x is) a ≡ Some (instance_object (x + a))
object_there x [] a h = absurd (omega arith)
object_there x (i ∷ is) zero h = let z : x ≡ x + 0 = omega arith in ap (λ (y : ℕ). Some (instance_object y)) z
object_there x (i ∷ is) (suc a) h = let z : suc x + a ≡ x + suc a = omega arith in object_there (suc x) is a (omega arith)
    ∙ ap (λ (y : ℕ). Some (instance_object y)) z

many_objects : (x : ℕ) (is : List Started) → length (objects_at_first x is) ≡ length is
many_objects x [] = refl
many_objects x (i ∷ is) = ap suc (many_objects (suc x) is)

coded_object : (g : Code) (x : ℕ) (is : List Started) (a : ℕ) (i : Started) → slice_get is a ≡ Some i →
    slice_get (code.objects_at_first g x (map instance_code is)) a ≡ Some (code.object_at_first g (x + a) (instance_code i))
coded_object g x [] a i e = absurd cc
coded_object g x (j ∷ is) zero i e =
    let z : x ≡ x + 0 = omega arith in
    ap (λ (y : Started). Some (code.object_at_first g x (instance_code y))) (some_is e)
    ∙ ap (λ (y : ℕ). Some (code.object_at_first g y (instance_code i))) z
coded_object g x (j ∷ is) (suc a) i e =
    let z : suc x + a ≡ x + suc a = omega arith in
    coded_object g (suc x) is a i e ∙ ap (λ (y : ℕ). Some (code.object_at_first g y (instance_code i))) z

many_coded : (g : Code) (x : ℕ) (is : List Started) → length (code.objects_at_first g x (map instance_code is)) ≡ length is
many_coded g x [] = refl
many_coded g x (i ∷ is) = ap suc (many_coded g (suc x) is)

handed_word : (a : Actual) → code.word_handed (argument_of a) ≡ word_handed a
handed_word (actual.Grant g) = refl
handed_word (actual.Instance x) = refl

handed_words : (handed : List Actual) (k : ℕ) (a : Actual) → slice_get handed k ≡ Some a →
    slice_get (map code.word_handed (map argument_of handed)) k ≡ Some (word_handed a)
handed_words [] k a e = absurd cc
handed_words (b ∷ bs) zero a e = ap (λ (y : Actual). Some (code.word_handed (argument_of y))) (some_is e) ∙ ap (λ (y : Word). Some y) (handed_word a)
handed_words (b ∷ bs) (suc k) a e = handed_words bs k a e

module _ (p : Program) (s : Starts) (ok : Lowerable p s) where
  module _ (x : ℕ) (i : Started) (here : slice_get s.instances x ≡ Some i) where
    started : slice_get (all_started s) x ≡ Some i
    started = get_front s.instances (s.main ∷ []) x i here

    abbrev pub module_started : IsModuleStarted p i
    module_started = ok.instances x i here

    pub instance_stands : scope_of_instance p s x ≡ Some module_started.scope
    instance_stands = ap (scope_started p) started ∙ module_started.stands

    -- as many fields as the module has
    fields_counted : field_count (literal_of_scope (scope_in (lowered p s) (Some (instance_code i))) 0) ≡ length
        (literal_fields (slice_get module_started.scope.literals 0))
    fields_counted =
        let c = scope_coded p s x module_started.scope instance_stands in
        let fits = ok.core.scopes module_started.scope (in_list p.scopes i.scope module_started.scope module_started.stands) in
        let l = there module_started.scope.literals 0 fits.own_literal in
        let same : c.instance ≡ i = some_is (sym c.started ∙ started) in
        let number : c.instance.scope ≡ i.scope = ap (λ (y : Started). y.scope) same in
        ap (λ o. field_count (literal_of_scope o 0)) (ap (slice_get (lowered p s).scopes) (sym number) ∙ c.stands.scope)
        ∙ ap field_count (sym (ap (λ o. literal_of_scope o 0) c.code) ∙ literal_is p s x module_started.scope c 0 l.0 l.1)
        ∙ ap (λ o. length (literal_fields o)) (sym l.1)

    same_object : SameThing p s (text_table p) (instance_object x) (code.object_at_first (lowered p s) x (instance_code i))
    same_object = record {
      instance = refl;
      literal = refl;
      scope = module_started.scope;
      stands = instance_stands;
      names = sym (ok.bare i.scope module_started.scope module_started.stands);
      own = λ kind k a e.
          let f : slice_get i.actuals k ≡ Some a = sym (ap (λ o. actual_in o k) started) ∙ e in
          let l = get_within i.actuals k a f in
          let c : own_count module_started.scope ≡ length module_started.scope.names = not_picked (is_program module_started.scope.kind) 0
          (length module_started.scope.names) kind in
          (omega (arith, module_started.handed), get_front _ _ k _ (handed_words i.actuals k a f));
      caught = λ k c e. absurd cc;
      fields = λ k v e. absurd cc;
      long =
          let c : own_count module_started.scope ≡ length module_started.scope.names = not_picked (is_program module_started.scope.kind) 0
          (length module_started.scope.names) module_started.is_module in
          let a = length-append (map code.word_handed (map argument_of i.actuals))
          (replicate (field_count (literal_of_scope (scope_in (lowered p s) (Some (instance_code i))) 0)) word.Nothing) in
          let b = length_map code.word_handed (map argument_of i.actuals) in
          let d = length_map argument_of i.actuals in
          let e = length-replicate (field_count (literal_of_scope (scope_in (lowered p s) (Some (instance_code i))) 0)) word.Nothing in
          omega (arith, module_started.handed, fields_counted);
    }

  pub first_store_is : (tapes : Tapes) → store_at_first
      (lowered p s) tapes ≡ record {
        objects = code.objects_at_first (lowered p s) 0 (map instance_code s.instances);
        made = 0;
        texts = text_table p;
        built = 0;
        tapes = tapes;
        next = 0;
      }
  unfolding lowered
  first_store_is tapes = refl

  pub first_world : (tapes : Tapes) → SameWorld p s (world_at_first s tapes) (store_at_first (lowered p s) tapes)
  first_world tapes = subst (λ (m : Store). SameWorld p s (world_at_first s tapes) m) (sym (first_store_is tapes)) (record {
    count = many_coded (lowered p s) 0 s.instances ∙ sym (many_objects 0 s.instances);
    objects = λ a o e. of a o (first_object 0 s.instances a o e);
    made = refl;
    built = refl;
    tapes = refl;
    written = grows_refl (text_table p);
  })
    where
      of : (a : ℕ) (o : Thing) → (i : Started) × (slice_get s.instances a ≡ Some i) × (o ≡ instance_object (0 + a)) →
          FoundThing p s (text_table p) o (slice_get (code.objects_at_first (lowered p s) 0 (map instance_code s.instances)) a)
      of a o h =
          let z : 0 + a ≡ a = omega arith in
          record {
            thing = code.object_at_first (lowered p s) a (instance_code h.0);
            is = coded_object (lowered p s) 0 s.instances a h.0 h.1
                ∙ ap (λ (y : ℕ). Some (code.object_at_first (lowered p s) y (instance_code h.0))) z;
            same = subst (λ (y : Thing). SameThing p s (text_table p) y (code.object_at_first (lowered p s) a (instance_code h.0)))
                (sym (h.2 ∙ ap instance_object z)) (same_object a h.0 h.1);
          }

  pub first_unstarted : (tapes : Tapes) → Unstarted (world_at_first s tapes) 0 (length s.instances)
  first_unstarted tapes = record {
    by = λ y a b.
        let z : 0 + y ≡ y = omega arith in
        record {
          thing = instance_object y;
          is = object_there 0 s.instances y b ∙ ap (λ (q : ℕ). Some (instance_object q)) z;
          instance = refl;
          literal = refl;
          captured = refl;
          fields = refl;
        };
  }
