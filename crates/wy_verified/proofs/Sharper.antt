-- A typed body passes the walk, which knows at each place as much as the states say or more. It rests on subtyping
-- being transitive.
use Rattle.std.proofs.Common.{◌⊎◌, ◌≡◌, ℕ, zero, suc, ◌+◌, ◌-◌, ◌<◌, ◌≤◌, Bool, true, false, List, [], ◌∷◌, ◌++◌}
use Rattle.std.proofs.Common.{length, take, drop, inl, inr, refl, sym, ap, ◌∙◌, subst, Option, Some, None, arith}
use Rattle.std.proofs.lemmas.Bool.{eq-eqb, eqb-true, lt-ltb, le-ltb}
use Rattle.std.specs.Prelude.{slice_get, nat_eq, if◌then◌else◌}
use Rattle.wy_code.specs.declared.code.Body.{Body}
use Rattle.wy_code.specs.declared.code.Source.{Source}
use Rattle.wy_code.specs.declared.code.Source.TheVariants as source
use Rattle.wy_code.specs.declared.instruction.Constant.{Constant}
use Rattle.wy_code.specs.declared.instruction.Constant.TheVariants as constant
use Rattle.wy_code.specs.declared.instruction.Instruction.{Instruction}
use Rattle.wy_code.specs.declared.instruction.Instruction.TheVariants.{Push, Load, Store, Get, Set, Drop, Op, Jump}
use Rattle.wy_code.specs.declared.instruction.Instruction.TheVariants.{JumpFalse, New, Call, Return, Finish}
use Rattle.wy_code.specs.declared.instruction.Placed.{Placed}
use Rattle.wy_code.specs.Machine.{literal_of}
use Rattle.wy_code.specs.Operations.{operand_count}
use Rattle.wy_image.specs.declared.typing.Bounds.{Bounds}
use Rattle.wy_image.specs.declared.typing.Target.{Target}
use Rattle.wy_verified.specs.Images.{Image}
use Rattle.wy_verified.specs.Kinds.{Kind, Units, Own, kind_in, kinds_in, MethodType, methods, value_kinds, In, Within}
use Rattle.wy_verified.specs.Kinds.{Pair, ParamsIn, HasCover, IsClosed, IsSubtype, IsObject, Fits, AllFit}
use Rattle.wy_verified.specs.Rules.{Known, Owner, SlotHas, ThisSlot, ValueIs, SourceHas, SourcesHave, Constants}
use Rattle.wy_verified.specs.Rules.{Reaches, Comes, Pushes, Follows, CanRead, literal_number, operand_kinds}
use Rattle.wy_verified.specs.Rules.{result_kind, reversed, fields_after, at_first}
use Rattle.wy_verified.specs.Walking.{target_kinds, Range, Argument, Flow, State, Depth, Types, Effect, VerifyRule}
use Rattle.wy_verified.specs.Walking.{top_kind, kind_or, is_in, target_in, known_at, known_there, fields_of}
use Rattle.wy_verified.specs.Walking.{captures_of, result_of, slot_kind, this_kind, value_kind, constant_kind, popped}
use Rattle.wy_verified.specs.Walking.{after, Leads, IsReadable, source_kind, SourceOk, SourcesOk, ConstantOk}
use Rattle.wy_verified.specs.Walking.{InstructionState, InstructionTypes, EffectOk, SourcesFit, CallTypes, MethodEffect}
use Rattle.wy_verified.specs.Walking.{FinishOk, FinishTypes, RangeOk}
use Rattle.std.proofs.lemmas.Option.{slice_get_within}
use Rattle.wy_verified.proofs.Lists.{reversed_count, some_same, none_some, map_length}
use Rattle.wy_verified.proofs.Below.{methods_object}
use Rattle.wy_verified.proofs.Steps.{fit_length, count_right}
use Rattle.wy_verified.specs.Walking.{JumpsTo, IsTarget, FallsThrough, MeetsState, MeetsTypes, FlowOk, EndsWell}
use Rattle.wy_verified.specs.Passing.{Jumped, set_at, jumped, Ends, MeetsSet, FlowPasses, Passes, at_target, next}
use Rattle.wy_verified.specs.Passing.{PassesFrom, BodyPasses}
use Rattle.wy_verified.specs.Stating.{BodyStates}
use Rattle.wy_verified.proofs.Lists.{read_there}
use Rattle.wy_verified.proofs.Passed.{jump_set, falls_or_stops}
use Rattle.wy_verified.proofs.Walked.{slot_covers}

module _ (image : Image) (trans : (i j k : Kind) → Fits image i j → Fits image j k → Fits image i k) where
  ------------------------------------------------------------
  -- Lists that fit

  all_trans : (is js ks : List Kind) → AllFit image is js → AllFit image js ks → AllFit image is ks
  all_trans [] [] [] a b = tt
  all_trans [] [] (k ∷ ks) a b = absurd b
  all_trans [] (j ∷ js) ks a b = absurd a
  all_trans (i ∷ is) [] ks a b = absurd a
  all_trans (i ∷ is) (j ∷ js) [] a b = absurd b
  all_trans (i ∷ is) (j ∷ js) (k ∷ ks) a b = (trans i j k a.0 b.0, all_trans is js ks a.1 b.1)

  all_length : (is ks : List Kind) → AllFit image is ks → length is ≡ length ks
  all_length [] [] h = refl
  all_length [] (k ∷ ks) h = absurd h
  all_length (i ∷ is) [] h = absurd h
  all_length (i ∷ is) (k ∷ ks) h = ap suc (all_length is ks h.1)

  abbrev TopFits : List Kind → Kind → List Kind → Type 0
  TopFits is k ks = Fits image (top_kind is) k × AllFit image (drop 1 is) ks

  top_fits : (is js : List Kind) (k : Kind) (ks : List Kind) → js ≡ k ∷ ks → AllFit image is js → (1 ≤ length is) ×
      TopFits is k ks
  top_fits is js k ks e h = of is (subst (λ (js : List Kind). AllFit image is js) e h)
    where
      of : (is : List Kind) → AllFit image is (k ∷ ks) → (1 ≤ length is) × TopFits is k ks
      of [] h = absurd h
      of (i ∷ is) h = (omega arith, h)

  -- as many as there are on top
  taken_fit : (n : ℕ) (is top rest : List Kind) → length top ≡ n → AllFit image is (top ++ rest) → (n ≤ length is) ×
      AllFit image (take n is) top × AllFit image (drop n is) rest
  taken_fit zero is [] rest l h = (omega arith, tt, h)
  taken_fit zero is (k ∷ top) rest l h = absurd (omega arith)
  taken_fit (suc n) is [] rest l h = absurd (omega arith)
  taken_fit (suc n) [] (k ∷ top) rest l h = absurd h
  taken_fit (suc n) (i ∷ is) (k ∷ top) rest l h =
      let r = taken_fit n is top rest (omega arith) h.1 in (let m = r.0 in omega (arith, m), (h.0, r.1), r.2)

  reversed_fit : (is ks js ls : List Kind) → AllFit image is ks → AllFit image js ls →
      AllFit image (reversed is js) (reversed ks ls)
  reversed_fit [] [] js ls h g = g
  reversed_fit [] (k ∷ ks) js ls h g = absurd h
  reversed_fit (i ∷ is) [] js ls h g = absurd h
  reversed_fit (i ∷ is) (k ∷ ks) js ls h g = reversed_fit is ks (i ∷ js) (k ∷ ls) h.1 (h.0, g)

  -- the operands below n and one more
  drop_more : (n : ℕ) (is : List Kind) (k : Kind) (rest : List Kind) → AllFit image (drop n is) (k ∷ rest) →
      (n + 1 ≤ length is) × Fits image (top_kind (drop n is)) k × AllFit image (drop (n + 1) is) rest
  drop_more zero [] k rest h = absurd h
  drop_more zero (i ∷ is) k rest h = (omega arith, h.0, h.1)
  drop_more (suc n) [] k rest h = absurd h
  drop_more (suc n) (i ∷ is) k rest h =
      let r = drop_more n is k rest h in
      let z : n + 1 + 1 ≡ suc n + 1 = omega arith in
      (let m = r.0 in omega (arith, m), r.1, subst (λ m. AllFit image (drop m (i ∷ is)) rest) z (plain r.2))
    where
      plain : AllFit image (drop (n + 1) is) rest → AllFit image (drop (n + 1 + 1) (i ∷ is)) rest
      plain h = let z : suc (n + 1) ≡ n + 1 + 1 = omega arith in subst (λ m. AllFit image (drop m (i ∷ is)) rest) z h

  ------------------------------------------------------------
  -- Methods of subtypes

  pub record HasMethod (i : Kind) (m : ℕ) (g : MethodType) : Type 0 where
    pub method : MethodType
    pub there : methods image i m ≡ Some method
    pub params : AllFit image g.params method.params
    pub effect : Within method.effect g.effect
    pub result : Fits image method.result g.result

  params_fit : (ps : List Pair) → ((p : Pair) → In p ps → IsClosed image ps p) → (left right : List Kind) →
      ParamsIn ps left right → AllFit image right left
  params_fit ps closed [] [] h = tt
  params_fit ps closed [] (b ∷ right) h = absurd h
  params_fit ps closed (a ∷ left) [] h = absurd h
  params_fit ps closed (a ∷ left) (b ∷ right) h =
      (inr (record { pairs = ps; first = h.0; closed = closed }), params_fit ps closed left right h.1)

  all_same : (ks : List Kind) → AllFit image ks ks
  all_same [] = tt
  all_same (k ∷ ks) = (inl refl, all_same ks)

  sub_method : (i k : Kind) (m : ℕ) (g : MethodType) → IsSubtype image i k → methods image k m ≡ Some g →
      HasMethod i m g
  sub_method i k m g s e = elim (s.closed (i, k) s.first) [
    | inl f ↦ absurd (f.1 (subst IsObject (sym f.0) (methods_object image k m g e)))
    | inr f ↦ covered (methods image i m) refl (f.2 m g e)
  ]
    where
      covered : (o : Option MethodType) → methods image i m ≡ o → HasCover s.pairs o g → HasMethod i m g
      covered None e c = absurd c
      covered (Some h) e c = record {
        method = h;
        there = e;
        params = params_fit s.pairs s.closed h.params g.params c.params;
        effect = c.effect;
        result = inr (record { pairs = s.pairs; first = c.result; closed = s.closed });
      }

  fits_method : (i k : Kind) (m : ℕ) (g : MethodType) → Fits image i k → methods image k m ≡ Some g → HasMethod i m g
  fits_method i k m g (inl s) e =
      record {
        method = g;
        there = ap (λ i. methods image i m) s ∙ e;
        params = all_same g.params;
        effect = λ a i. i;
        result = inl refl;
      }
  fits_method i k m g (inr s) e = sub_method i k m g s e

  ------------------------------------------------------------
  -- Slots

  in_to_is : (s : ℕ) (rs : List ℕ) → In s rs → is_in s rs ≡ true
  in_to_is s [] h = absurd h
  in_to_is s (r ∷ rs) (inl e) = ap (λ c. if c then true else is_in s rs) (eq-eqb r s e)
  in_to_is s (r ∷ rs) (inr h) = of (in_to_is s rs h) (nat_eq r s)
    where
      of : is_in s rs ≡ true → (c : Bool) → (if c then true else is_in s rs) ≡ true
      of e true = refl
      of e false = e

  module _ (x : ℕ) (owner : Owner) (body : Body) (bounds : Bounds) (held : ℕ)
      (is_params : length bounds.parameters ≡ body.parameters) (is_vals : body.vals ≤ length bounds.vals) where
    abbrev Slot : List ℕ → ℕ → Option Kind
    Slot stored s = slot_kind image x owner body bounds held stored s

    this_of : (o : Owner) (s : ℕ) (k : Kind) → ThisSlot image x owner body bounds o s k → (s ≡ 0) ×
        (this_kind image x owner body bounds held o ≡ Some k)
    this_of None s k h = absurd h
    this_of (Some l) s k h = (h.0, ap (λ (k : Kind). Some k) (sym h.1))

    -- a slot that holds a type by what is known has it by what is known better
    slot_of : (less stored : List ℕ) (s : ℕ) (k : Kind) → ((s : ℕ) → In s less → In s stored) →
        SlotHas image x owner body bounds less s k → Slot stored s ≡ Some k
    slot_of less stored s k sub h = elim h.by [
      | inl t ↦ (let r = this_of owner s k t in ap (Slot stored) r.0 ∙ r.1)
      | inr q ↦ elim q [
        | inl p ↦ ap (Slot stored) p.1 ∙ ap (λ c. if c then slice_get (kinds_in x bounds.parameters) p.0
            else if is_in (suc p.0) stored then slice_get (kinds_in x bounds.vals) (p.0 - body.parameters) else None)
            (lt-ltb p.0 body.parameters (within p.0 p.2)) ∙ p.2
        | inr p ↦ ap (Slot stored) p.1 ∙ ap (λ c. if c then slice_get (kinds_in x bounds.parameters)
            (body.parameters + p.0)
            else if is_in (suc (body.parameters + p.0)) stored then slice_get (kinds_in x bounds.vals)
            (body.parameters + p.0 - body.parameters) else None)
            (le-ltb (body.parameters + p.0) body.parameters (omega arith)) ∙
            ap (λ c. if c then slice_get (kinds_in x bounds.vals) (body.parameters + p.0 - body.parameters) else None)
            (in_to_is (suc (body.parameters + p.0)) stored (subst (λ s. In s stored) p.1 (sub s p.2))) ∙
            ap (slice_get (kinds_in x bounds.vals)) (back p.0) ∙ p.3
      ]
    ]
      where
        within : (i : ℕ) → slice_get (kinds_in x bounds.parameters) i ≡ Some k → i < body.parameters
        within i e =
            let l = slice_get_within (kinds_in x bounds.parameters) i k e in let m =
            map_length (kind_in x) bounds.parameters in omega (arith, l, m, is_params)

        back : (j : ℕ) → body.parameters + j - body.parameters ≡ j
        back j = omega arith

    ------------------------------------------------------------
    -- One instruction

    abbrev Better : Known → Known → Type 0
    Better k l = Reaches image x owner body bounds k l

    abbrev After : Known → Instruction → Known
    After k i = after image x owner body bounds held k i

    better_trans : (k l n : Known) → Better k l → Better l n → Better k n
    better_trans k l n a b =
        record {
          operands = all_trans k.operands l.operands n.operands a.operands b.operands;
          stored =
              λ s i. a.stored s (b.stored s i);
          set = b.set ∙ a.set;
        }

    module _ (states : List Known) (at : ℕ) (k l : Known) (r : Better k l) where
      -- the place that an instruction leads to, and that what is known after it is more
      abbrev Lands : Instruction → ℕ → Type 0
      Lands i to = (next : Known) × (slice_get states to ≡ Some next) × Better (After k i) next

      pub record Sharp (i : Instruction) : Type 0 where
        pub pops : popped image x owner body bounds held i ≤ length k.operands
        pub state : InstructionState image x owner body bounds held k i
        pub types : InstructionTypes image x owner body bounds held k i
        pub effect : EffectOk image x owner body bounds held k i
        pub leads : (to : ℕ) → Leads image x owner body bounds held at i to → Lands i to

      lands : (i : Instruction) (to : ℕ) (known : Known) → Better (After k i) known →
          Comes image x owner body bounds held states to known → Lands i to
      lands i to known b c = (c.next, c.there, better_trans (After k i) known c.next b c.reaches)

      abbrev Says : Instruction → Type 0
      Says i = Follows image x owner body bounds held states at l i

      falls : (i : Instruction) → Lands i (suc at) → (to : ℕ) → to ≡ suc at → Lands i to
      falls i h to e = subst (Lands i) (sym e) h

      -- pushed above what both have
      more : (i : Instruction) (a b : Kind) (ks ls : List Kind) → After k i ≡ record k { operands = a ∷ ks } →
          Fits image a b → AllFit image ks ls → Pushes image x owner body bounds held states (suc at) l ls b →
          Lands i (suc at)
      more i a b ks ls e f h p =
          lands i (suc at) (record l { operands = b ∷ ls })
          (subst (λ (q : Known). Better q (record l { operands = b ∷ ls })) (sym e)
          (record { operands = (f, h); stored = r.stored; set = r.set })) p.comes

      constant_sharp : (c : Constant) (t : Kind) → Constants image x owner body bounds c t →
          ConstantOk image x owner body bounds held c × (constant_kind image x owner body bounds held c ≡ t)
      constant_sharp (constant.Int n) t h = (tt, sym h)
      constant_sharp (constant.Truth b) t h = (tt, sym h)
      constant_sharp constant.Unit t h = (tt, sym h)
      constant_sharp (constant.Text m) t h = (tt, sym h.1)
      constant_sharp (constant.Grant g) t h = (h.0, sym h.1)
      constant_sharp (constant.Instance y) t h = (h.0, sym h.2)

      readable_some : (o : Option Kind) (t : Kind) → o ≡ Some t → IsReadable o × (kind_or o ≡ t)
      readable_some o t e = (subst IsReadable (sym e) tt, ap kind_or e)

      source_sharp : (s : Source) (t : Kind) → SourceHas image x owner body bounds held l.stored s t →
          SourceOk image x owner body bounds held k.stored s ×
          (kind_or (source_kind image x owner body bounds held k.stored s) ≡ t)
      source_sharp (source.Slot s) t h = readable_some (Slot k.stored s) t (slot_of l.stored k.stored s t r.stored h)
      source_sharp (source.Value i) t h =
          let q = readable_some (value_kind image x owner body bounds held i) t h.there in ((q.0, h.read), q.1)

      sources_sharp : (ss : List Source) (captured fields top kinds : List Kind) →
          SourcesHave image x owner body bounds held l.stored ss captured → kinds ≡ captured ++ fields →
          AllFit image top fields →
          SourcesOk image x owner body bounds held k.stored ss ×
          SourcesFit image x owner body bounds held k.stored ss top kinds
      sources_sharp [] [] fields top kinds h e f = (tt, subst (λ (ks : List Kind). AllFit image top ks) (sym e) f)
      sources_sharp [] (c ∷ captured) fields top kinds h e f = absurd h
      sources_sharp (s ∷ ss) [] fields top kinds h e f = absurd h
      sources_sharp (s ∷ ss) (c ∷ captured) fields top kinds h e f =
          let q = source_sharp s h.0.0 h.0.1 in
          let w = sources_sharp ss captured fields top (captured ++ fields) h.1 refl f in (
            (q.0, w.0),
            subst (λ (ks : List Kind). SourcesFit image x owner body bounds held k.stored (s ∷ ss) top ks) (sym e)
                (subst (λ t. Fits image t c) (sym q.1) h.0.2, w.1),
          )

      sharp : (i : Instruction) → Says i → Sharp i
      sharp (Push c) h =
          let q = constant_sharp c h.0 h.1 in
          record {
            pops = omega arith;
            state = q.0;
            types = tt;
            effect = tt;
            leads = λ to e. elim e [
              | inl f ↦ falls (Push c)
                  (more (Push c) (constant_kind image x owner body bounds held c) h.0 k.operands l.operands refl (inl q.1)
                  r.operands h.2) to f.1
              | inr f ↦ absurd f
            ];
          }
      sharp (Load s) h =
          let q = readable_some (Slot k.stored s) h.0 (slot_of l.stored k.stored s h.0 r.stored h.1) in
          record {
            pops = omega arith;
            state = q.0;
            types = tt;
            effect = tt;
            leads = λ to e. elim e [
              | inl f ↦ falls (Load s)
                  (more (Load s) (kind_or (Slot k.stored s)) h.0 k.operands l.operands refl (inl q.1) r.operands h.2) to
                  f.1
              | inr f ↦ absurd f
            ];
          }
      sharp (Get i) h =
          let q = readable_some (value_kind image x owner body bounds held i) h.0 h.1.there in
          record {
            pops = omega arith;
            state = (q.0, h.1.read);
            types = tt;
            effect = tt;
            leads = λ to e. elim e [
              | inl f ↦ falls (Get i)
                  (more (Get i) (kind_or (value_kind image x owner body bounds held i)) h.0 k.operands l.operands refl
                  (inl q.1) r.operands h.2) to f.1
              | inr f ↦ absurd f
            ];
          }
      sharp (Store s) h =
          let t = top_fits k.operands l.operands h.1 h.3 h.6 r.operands in
          let z : s - suc body.parameters ≡ h.0 = (let e = h.4 in omega (arith, e)) in
          record {
            pops = t.0;
            state = (let e = h.4 in omega (arith, e), let e = h.4 in let less = h.9 in omega (arith, e, less));
            types = trans (top_kind k.operands) h.1
                (kind_or (slice_get (kinds_in x bounds.vals) (s - suc body.parameters))) t.1.0
                (subst (λ v. Fits image h.1 v) (sym (ap (λ j. kind_or (slice_get (kinds_in x bounds.vals) j)) z
                ∙ ap kind_or h.5)) h.7);
            effect = tt;
            leads = λ to e. elim e [
              | inl f ↦ falls (Store s) (lands (Store s) (suc at) (record l { operands = h.3; stored = s ∷ l.stored })
                  (record {
                    operands = t.1.1;
                    stored =
                        λ a q. slot_covers s a k.stored (elim q [ inl u ↦ inl u | inr u ↦ inr (r.stored a u) ]);
                    set =
                        r.set;
                  }) h.8) to f.1
              | inr f ↦ absurd f
            ];
          }
      sharp (Set i) h =
          let t = top_fits k.operands l.operands h.0 h.2 h.5 r.operands in
          let q = readable_some (value_kind image x owner body bounds held i) h.1 h.3 in
          record {
            pops = t.0;
            state = (q.0, subst (λ n. Rattle.wy_verified.specs.Rules.CanSet owner held n i) r.set h.4);
            types = trans (top_kind k.operands) h.0 (kind_or (value_kind image x owner body bounds held i)) t.1.0
                (subst (λ v. Fits image h.0 v) (sym q.1) h.6);
            effect = tt;
            leads = λ to e. elim e [
              | inl f ↦ falls (Set i) (lands (Set i) (suc at)
                  (record l { operands = h.2; set = fields_after owner l.set })
                  (record { operands = t.1.1; stored = r.stored; set = ap (fields_after owner) r.set }) h.7) to f.1
              | inr f ↦ absurd f
            ];
          }
      sharp Drop h =
          let t = top_fits k.operands l.operands h.0 h.1 h.2 r.operands in
          record {
            pops = t.0;
            state = tt;
            types = tt;
            effect = tt;
            leads = λ to e. elim e [
              | inl f ↦ falls Drop (lands Drop (suc at) (record l { operands = h.1 })
                  (record { operands = t.1.1; stored = r.stored; set = r.set }) h.3) to f.1
              | inr f ↦ absurd f
            ];
          }
      sharp (Op o) h =
          let n : ℕ = operand_count o in
          let t = taken_fit n k.operands h.1 h.2 (fit_length image h.1 (operand_kinds o h.0) h.5
          ∙ count_right image o h.0) (subst (λ (js : List Kind). AllFit image k.operands js) h.4 r.operands) in
          record {
            pops = t.0;
            state = tt;
            types = (
              h.0,
              h.3,
              all_trans (reversed (take n k.operands) []) (reversed h.1 []) (operand_kinds o h.0)
                  (reversed_fit (take n k.operands) h.1 [] [] t.1 tt) h.5,
            );
            effect = tt;
            leads = λ to e. elim e [
              | inl f ↦ falls (Op o)
                  (more (Op o) (result_kind o) (result_kind o) (drop n k.operands) h.2 refl (inl refl) t.2 h.6) to f.1
              | inr f ↦ absurd f
            ];
          }
      sharp (Jump a) h = record {
        pops = omega arith;
        state = tt;
        types = tt;
        effect = tt;
        leads = λ to e. elim e [ inl f ↦ absurd f.0 | inr f ↦ subst (Lands (Jump a)) f (lands (Jump a) a l r h.1) ];
      }
      sharp (JumpFalse a) h =
          let t = top_fits k.operands l.operands h.0 h.1 h.2 r.operands in
          let b : Better (After k (JumpFalse a)) (record l { operands = h.1 }) =
          record { operands = t.1.1; stored = r.stored; set = r.set } in
          record {
            pops = t.0;
            state = tt;
            types = trans (top_kind k.operands) h.0 _ t.1.0 h.3;
            effect = tt;
            leads = λ to e. elim e [
              | inl f ↦ falls (JumpFalse a) (lands (JumpFalse a) (suc at) (record l { operands = h.1 }) b h.5) to f.1
              | inr f ↦ subst (Lands (JumpFalse a)) f (lands (JumpFalse a) a (record l { operands = h.1 }) b h.6)
            ];
          }
      sharp (New n) h =
          let m : ℕ = fields_of (literal_of image.code x n) in
          let same : m ≡ h.literal.fields = ap fields_of h.there in
          let t = taken_fit m k.operands h.top h.rest (h.count ∙ sym same)
          (subst (λ (js : List Kind). AllFit image k.operands js) h.operands r.operands) in
          let fit = all_trans (reversed (take m k.operands) []) (reversed h.top []) h.fields
          (reversed_fit (take m k.operands) h.top [] [] t.1 tt) h.fit in
          let q = sources_sharp (captures_of (literal_of image.code x n)) h.captured h.fields
          (reversed (take m k.operands) []) (value_kinds image x n)
          (subst (λ (ss : List Source). SourcesHave image x owner body bounds held l.stored ss h.captured)
          (sym (ap captures_of h.there)) h.sources) h.kinds fit in
          record {
            pops = t.0;
            state = q.0;
            types = q.1;
            effect = tt;
            leads = λ to e. elim e [
              | inl f ↦ falls (New n)
                  (more (New n) (Own x n) (Own x n) (drop m k.operands) h.rest refl (inl refl) t.2 h.pushes) to f.1
              | inr
                  f ↦ absurd f
            ];
          }
      sharp (Call m n) h =
          let t = taken_fit n k.operands h.top (h.receiver ∷ h.rest) h.count
          (subst (λ (js : List Kind). AllFit image k.operands js) h.operands r.operands) in
          let d = drop_more n k.operands h.receiver h.rest t.2 in
          let g = fits_method (top_kind (drop n k.operands)) h.receiver m h.method d.1 h.there in
          let fit = all_trans (reversed (take n k.operands) []) h.method.params g.method.params
          (all_trans (reversed (take n k.operands) []) (reversed h.top []) h.method.params
          (reversed_fit (take n k.operands) h.top [] [] t.1 tt) h.fit) g.params in
          record {
            pops = d.0;
            state = tt;
            types = subst (λ (o : Option MethodType). CallTypes image x owner body bounds held
                (reversed (take n k.operands) []) o) (sym g.there) fit;
            effect = subst (λ (o : Option MethodType). MethodEffect image x owner body bounds held o) (sym g.there)
                (λ a i. h.effect a (g.effect a i));
            leads = λ to e. elim e [
              | inl f ↦ falls (Call m n) (more (Call m n) (result_of (methods image (top_kind (drop n k.operands)) m))
                  h.method.result (drop (n + 1) k.operands) h.rest refl
                  (subst (λ t. Fits image t h.method.result) (sym (ap result_of g.there)) g.result) d.2 h.pushes) to f.1
              | inr f ↦ absurd f
            ];
          }
      sharp Return h =
          let t = top_fits k.operands l.operands h.1 [] h.3 r.operands in
          let m = all_length k.operands l.operands r.operands in
          record {
            pops = t.0;
            state = m ∙ ap length h.3;
            types = trans (top_kind k.operands) h.1 (kind_in x bounds.result) t.1.0 h.4;
            effect = tt;
            leads = λ to e. elim e [ inl f ↦ absurd f.0 | inr f ↦ absurd f ];
          }
      sharp Finish h =
          let m = all_length k.operands l.operands r.operands in
          record {
            pops = omega arith;
            state = (ap (λ n. held + n) (sym r.set) ∙ h.1, ends h.2 m);
            types = unit h.2 k.operands r.operands;
            effect = tt;
            leads = λ to e. elim e [ inl f ↦ absurd f.0 | inr f ↦ absurd f ];
          }
        where
          ends : Rattle.wy_verified.specs.Rules.FinishesWith image x owner body bounds l.operands →
              length k.operands ≡ length l.operands → FinishOk image x owner body bounds held k.operands
          ends (inl q) m = inl (q.0, m ∙ ap length q.1)
          ends (inr q) m = inr (q.0, m ∙ ap length q.1.1)

          unit : Rattle.wy_verified.specs.Rules.FinishesWith image x owner body bounds l.operands → (ks : List Kind) →
              AllFit image ks l.operands → FinishTypes image x owner body bounds held ks
          unit q [] h = tt
          unit (inl q) (j ∷ ks) h = absurd (subst (λ (ls : List Kind). AllFit image (j ∷ ks) ls) q.1 h)
          unit (inr q) (j ∷ ks) h =
              trans j q.1.0 Units (subst (λ (ls : List Kind). AllFit image (j ∷ ks) ls) q.1.1 h).0 q.1.2

  ------------------------------------------------------------
  -- Whole bodies

  module _ (x : ℕ) (owner : Owner) (body : Body) (bounds : Bounds) (held : ℕ)
      (b : BodyStates image x owner body bounds held) where
    abbrev Known_after : Known → Instruction → Known
    Known_after k i = after image x owner body bounds held k i

    abbrev Knows : Known → Known → Type 0
    Knows k l = Reaches image x owner body bounds k l

    abbrev Leading : ℕ → Instruction → ℕ → Type 0
    Leading at i to = Leads image x owner body bounds held at i to

    abbrev Jumping : Instruction → ℕ → Type 0
    Jumping i to = JumpsTo image x owner body bounds held i to

    -- what was taken down of jumps: the states have it, and every jump was taken down
    abbrev SetsAre : List Jumped → Type 0
    SetsAre js = (to s : ℕ) → set_at to js ≡ Some s → (l : Known) × (slice_get b.states to ≡ Some l) × (l.set ≡ s)

    abbrev AreTaken : ℕ → List Jumped → Type 0
    AreTaken at js =
        (j to : ℕ) (p : Placed) → j < at → slice_get body.instructions j ≡ Some p → Jumping p.instruction to → (s : ℕ) ×
        (set_at to js ≡ Some s)

    module _ (at : ℕ) (p : Placed) (k l : Known) (js : List Jumped) (code : slice_get body.instructions at ≡ Some p)
        (here : slice_get b.states at ≡ Some l) (knows : Knows k l)
        (sets : SetsAre js) (taken : AreTaken at js) where
      abbrev i : Instruction
      i = p.instruction

      says : RangeOk image x owner body bounds held i × FlowOk image x owner body bounds held at i ×
          Follows image x owner body bounds held b.states at l i
      says = b.each at p l code here

      best : Sharp x owner body bounds held b.parameters b.vals b.states at k l knows i
      best = sharp x owner body bounds held b.parameters b.vals b.states at k l knows i says.2

      ----------------------------------------
      -- Jumps that are taken down

      sets_more : SetsAre (jumped i k js)
      sets_more to s e = of i refl
        where
          old : set_at to js ≡ Some s → (l : Known) × (slice_get b.states to ≡ Some l) × (l.set ≡ s)
          old f = sets to s f

          newest : (a : ℕ) → Jumping i a → (Known_after k i).set ≡ k.set →
              (if nat_eq a to then Some k.set else set_at to js) ≡ Some s → (l : Known) ×
              (slice_get b.states to ≡ Some l) × (l.set ≡ s)
          newest a jumps same f = by_case (nat_eq a to) refl
            where
              by_case : (c : Bool) → nat_eq a to ≡ c → (l : Known) × (slice_get b.states to ≡ Some l) × (l.set ≡ s)
              by_case true g =
                  let q = best.leads a (inr jumps) in (
                    q.0,
                    ap (slice_get b.states) (sym (eqb-true a to g)) ∙ q.1,
                    q.2.set ∙ same
                        ∙ some_same (sym (ap (λ c. if c then Some k.set else set_at to js) g) ∙ f),
                  )
              by_case false g = old (sym (ap (λ c. if c then Some k.set else set_at to js) g) ∙ f)

          of : (q : Instruction) → i ≡ q → (l : Known) × (slice_get b.states to ≡ Some l) × (l.set ≡ s)
          of (Jump a) g =
              newest a (subst (λ q. Jumping q a) (sym g) refl) (ap (λ q. (Known_after k q).set) g)
              (sym (ap (λ q. set_at to (jumped q k js)) g) ∙ e)
          of (JumpFalse a) g =
              newest a (subst (λ q. Jumping q a) (sym g) refl) (ap (λ q. (Known_after k q).set) g)
              (sym (ap (λ q. set_at to (jumped q k js)) g) ∙ e)
          of (Push c) g = old (sym (ap (λ q. set_at to (jumped q k js)) g) ∙ e)
          of (Load a) g = old (sym (ap (λ q. set_at to (jumped q k js)) g) ∙ e)
          of (Store a) g = old (sym (ap (λ q. set_at to (jumped q k js)) g) ∙ e)
          of (Get a) g = old (sym (ap (λ q. set_at to (jumped q k js)) g) ∙ e)
          of (Set a) g = old (sym (ap (λ q. set_at to (jumped q k js)) g) ∙ e)
          of Drop g = old (sym (ap (λ q. set_at to (jumped q k js)) g) ∙ e)
          of (Op o) g = old (sym (ap (λ q. set_at to (jumped q k js)) g) ∙ e)
          of (New n) g = old (sym (ap (λ q. set_at to (jumped q k js)) g) ∙ e)
          of (Call m n) g = old (sym (ap (λ q. set_at to (jumped q k js)) g) ∙ e)
          of Return g = old (sym (ap (λ q. set_at to (jumped q k js)) g) ∙ e)
          of Finish g = old (sym (ap (λ q. set_at to (jumped q k js)) g) ∙ e)

      -- what was taken down stays so, perhaps with another number
      still_taken : (to s : ℕ) → set_at to js ≡ Some s → (n : ℕ) × (set_at to (jumped i k js) ≡ Some n)
      still_taken to s e = of i refl
        where
          newest : (a : ℕ) → (n : ℕ) × ((if nat_eq a to then Some k.set else set_at to js) ≡ Some n)
          newest a = by_case (nat_eq a to) refl
            where
              by_case : (c : Bool) → nat_eq a to ≡ c → (n : ℕ) ×
                  ((if nat_eq a to then Some k.set else set_at to js) ≡ Some n)
              by_case true g = (k.set, ap (λ c. if c then Some k.set else set_at to js) g)
              by_case false g = (s, ap (λ c. if c then Some k.set else set_at to js) g ∙ e)

          of : (q : Instruction) → i ≡ q → (n : ℕ) × (set_at to (jumped i k js) ≡ Some n)
          of (Jump a) g = let r = newest a in (r.0, ap (λ q. set_at to (jumped q k js)) g ∙ r.1)
          of (JumpFalse a) g = let r = newest a in (r.0, ap (λ q. set_at to (jumped q k js)) g ∙ r.1)
          of (Push c) g = (s, ap (λ q. set_at to (jumped q k js)) g ∙ e)
          of (Load a) g = (s, ap (λ q. set_at to (jumped q k js)) g ∙ e)
          of (Store a) g = (s, ap (λ q. set_at to (jumped q k js)) g ∙ e)
          of (Get a) g = (s, ap (λ q. set_at to (jumped q k js)) g ∙ e)
          of (Set a) g = (s, ap (λ q. set_at to (jumped q k js)) g ∙ e)
          of Drop g = (s, ap (λ q. set_at to (jumped q k js)) g ∙ e)
          of (Op o) g = (s, ap (λ q. set_at to (jumped q k js)) g ∙ e)
          of (New n) g = (s, ap (λ q. set_at to (jumped q k js)) g ∙ e)
          of (Call m n) g = (s, ap (λ q. set_at to (jumped q k js)) g ∙ e)
          of Return g = (s, ap (λ q. set_at to (jumped q k js)) g ∙ e)
          of Finish g = (s, ap (λ q. set_at to (jumped q k js)) g ∙ e)

      taken_more : AreTaken (suc at) (jumped i k js)
      taken_more j to q lt e jumps = of (eq_or_less j at (omega (arith, lt)))
        where
          eq_or_less : (a c : ℕ) → a ≤ c → (a ≡ c) ⊎ (a < c)
          eq_or_less a c le = grind arith

          of : (j ≡ at) ⊎ (j < at) → (s : ℕ) × (set_at to (jumped i k js) ≡ Some s)
          of (inl same) =
              let is_p : q ≡ p = some_same (sym e ∙ ap (slice_get body.instructions) same ∙ code) in (
                (Known_after k i).set,
                jump_set image x owner body bounds held at k js i to
                    (subst (λ (q : Placed). Jumping q.instruction to) is_p jumps),
              )
          of (inr less) = let s = taken j to q less e jumps in still_taken to s.0 s.1

      ----------------------------------------
      -- The rules

      -- what the targets ask
      meets : (to : ℕ) (o : Option Target) → target_in to bounds.targets ≡ o → Leading at i to →
          MeetsState image x owner body bounds held (Known_after k i) o ×
          MeetsTypes image x owner body bounds held (Known_after k i) o
      meets to None e leads = (tt, tt)
      meets to (Some t) e leads =
          let q = best.leads to leads in
          let s = b.targets to q.0 t q.1 e in
          let ops : AllFit image (Known_after k i).operands (target_kinds x t) =
          subst (λ (ks : List Kind). AllFit image (Known_after k i).operands ks) s.0 q.2.operands in (
            (
              all_length (Known_after k i).operands (target_kinds x t) ops ∙ reversed_count (kinds_in x t.operands)
                  ∙ map_length (kind_in x) t.operands,
              λ a h. q.2.stored a (subst (λ (ss : List ℕ). In a ss) (sym s.1) h),
            ),
            ops,
          )

      meets_set : (to : ℕ) (o : Option ℕ) → set_at to js ≡ o → Leading at i to →
          MeetsSet image x owner body bounds held (Known_after k i).set o
      meets_set to None e leads = tt
      meets_set to (Some s) e leads =
          let q = best.leads to leads in
          let t = sets to s e in
          sym q.2.set ∙ ap (λ (l : Known). l.set) (some_same (sym q.1 ∙ t.1)) ∙ t.2

      ends : EndsWell image x owner body bounds held at → (js : List Jumped) → AreTaken (suc at) js →
          Ends image x owner body bounds held at js
      ends (inl e) js t = inl e
      ends (inr e) js t = inr (t e.0 (suc at) e.1 (let l = e.2 in omega (arith, l)) e.3 e.4)

      flow : (q : Instruction) → AreTaken (suc at) (jumped q k js) → FlowOk image x owner body bounds held at q →
          FlowPasses image x owner body bounds held at (jumped q k js) q
      flow (Jump a) t f = (f.0, ends f.1 (jumped (Jump a) k js) t)
      flow (JumpFalse a) t f = f
      flow Return t f = (f.0, ends f.1 js t)
      flow Finish t f = (f.0, ends f.1 js t)
      flow (Push c) t f = f
      flow (Load a) t f = f
      flow (Store a) t f = f
      flow (Get a) t f = f
      flow (Set a) t f = f
      flow Drop t f = f
      flow (Op o) t f = f
      flow (New n) t f = f
      flow (Call m n) t f = f

      depth_at : (to : ℕ) → Leading at i to → suc (body.parameters + body.vals) + length (Known_after k i).operands ≤
          body.slots
      depth_at to leads =
          let q = best.leads to leads in
          let d = b.deep to q.0 q.1 in
          let m = all_length (Known_after k i).operands q.0.operands q.2.operands in
          omega (arith, d, m)

      depth : (q : Instruction) → i ≡ q → suc (body.parameters + body.vals) + length (Known_after k i).operands ≤
          body.slots
      depth (Jump a) g = depth_at a (inr (subst (λ q. Jumping q a) (sym g) refl))
      depth Return g = nothing_left (ap (λ q. (Known_after k q).operands) g)
        where
          nothing_left : (Known_after k i).operands ≡ [] →
              suc (body.parameters + body.vals) + length (Known_after k i).operands ≤ body.slots
          nothing_left e =
              let d = b.deep at l here in let z : length (Known_after k i).operands ≡ 0 = ap length e in
              omega (arith, d, z)
      depth Finish g = nothing_left (ap (λ q. (Known_after k q).operands) g)
        where
          nothing_left : (Known_after k i).operands ≡ [] →
              suc (body.parameters + body.vals) + length (Known_after k i).operands ≤ body.slots
          nothing_left e =
              let d = b.deep at l here in let z : length (Known_after k i).operands ≡ 0 = ap length e in
              omega (arith, d, z)
      depth q g = elim (falls_or_stops image x owner body bounds held at k js i) [
        | inl f ↦ depth_at (suc at) (inl (f.0, refl))
        | inr f ↦ absurd (f.0 (subst (λ q. FallsThrough image x owner body bounds held q) (sym g) tt))
      ]

      rules : (r : VerifyRule) → Passes image x owner body bounds held r at k js i
      rules Range = says.0
      rules Argument = tt
      rules Flow = flow i taken_more says.1
      rules State = (
        (best.pops, best.state, λ to leads. (meets to (target_in to bounds.targets) refl leads).0),
        λ to leads. meets_set to (set_at to js) refl leads,
      )
      rules Depth = depth i refl
      rules Types = (best.types, λ to leads. (meets to (target_in to bounds.targets) refl leads).1)
      rules Effect = best.effect

      ----------------------------------------
      -- The next place

      abbrev GoesOn : Type 0
      GoesOn = (m : Known) × (n : Known) × (next image x owner body bounds held at k js i ≡ Some m) ×
          (slice_get b.states (suc at) ≡ Some n) × Knows m n

      at_stated : (m : Known) (n : Known) → (o : Option Target) → target_in (suc at) bounds.targets ≡ o →
          slice_get b.states (suc at) ≡ Some n → Knows m n → n.set ≡ m.set →
          Knows (known_there image x owner body bounds held o m) n
      at_stated m n None e h q s = q
      at_stated m n (Some t) e h q s =
          let f = b.targets (suc at) n t h e in
          record {
            operands =
                subst (λ (ks : List Kind). AllFit image (target_kinds x t) ks) (sym f.0) (all_same (target_kinds x t));
            stored = λ a g. subst (λ (ss : List ℕ). In a ss) f.1 g;
            set = s;
          }

      goes_on : suc at < length body.instructions → GoesOn
      goes_on lt = elim (falls_or_stops image x owner body bounds held at k js i) [
        | inl f ↦ (
            let q = best.leads (suc at) (inl (f.0, refl)) in (
              known_there image x owner body bounds held (target_in (suc at) bounds.targets) (Known_after k i),
              q.0,
              f.1,
              q.1,
              at_stated (Known_after k i) q.0 (target_in (suc at) bounds.targets) refl q.1 q.2 q.2.set,
            ))
        | inr f ↦ stops f.1 (stopped i says.1 f.0)
      ]
        where
          stopped : (q : Instruction) → FlowOk image x owner body bounds held at q →
              (FallsThrough image x owner body bounds held q → ⊥) → EndsWell image x owner body bounds held at
          stopped (Jump a) f n = f.1
          stopped Return f n = f.1
          stopped Finish f n = f.1
          stopped (JumpFalse a) f n = absurd (n tt)
          stopped (Push c) f n = absurd (n tt)
          stopped (Load a) f n = absurd (n tt)
          stopped (Store a) f n = absurd (n tt)
          stopped (Get a) f n = absurd (n tt)
          stopped (Set a) f n = absurd (n tt)
          stopped Drop f n = absurd (n tt)
          stopped (Op o) f n = absurd (n tt)
          stopped (New a) f n = absurd (n tt)
          stopped (Call a c) f n = absurd (n tt)

          target_of : (q : Instruction) (j : ℕ) → Jumping q (suc at) → FlowOk image x owner body bounds held j q →
              IsTarget image x owner body bounds held (suc at)
          target_of (Jump a) j e f = subst (λ a. IsTarget image x owner body bounds held a) e f.0.2
          target_of (JumpFalse a) j e f = subst (λ a. IsTarget image x owner body bounds held a) e f.0.2
          target_of (Push c) j e f = absurd e
          target_of (Load a) j e f = absurd e
          target_of (Store a) j e f = absurd e
          target_of (Get a) j e f = absurd e
          target_of (Set a) j e f = absurd e
          target_of Drop j e f = absurd e
          target_of (Op o) j e f = absurd e
          target_of (New a) j e f = absurd e
          target_of (Call a c) j e f = absurd e
          target_of Return j e f = absurd e
          target_of Finish j e f = absurd e

          stops : next image x owner body bounds held at k js i ≡ at_target image x owner body bounds held
              (target_in (suc at) bounds.targets) (set_at (suc at) (jumped i k js)) →
              EndsWell image x owner body bounds held at → GoesOn
          stops is_next (inl e) = absurd (omega (arith, e, lt))
          stops is_next (inr e) =
              let within = slice_get_within body.instructions e.0 e.1 e.3 in
              let s = read_there b.states e.0 (let n = b.long in omega (arith, n, within)) in
              let f = (b.each e.0 e.1 s.0 e.3 s.1).1 in
              let t = target_of e.1.instruction e.0 e.4 f in
              let q = taken_more e.0 (suc at) e.1 (let n = e.2 in omega (arith, n)) e.3 e.4 in
              let r = sets_more (suc at) q.0 q.1 in (
                known_at x t.0 q.0,
                r.0,
                is_next ∙ ap (λ o. at_target image x owner body bounds held o (set_at (suc at) (jumped i k js))) t.1
                    ∙ ap (at_target image x owner body bounds held (Some t.0)) q.1,
                r.1,
                (let g = b.targets (suc at) r.0 t.0 r.1 t.1 in record {
                  operands =
                      subst (λ (ks : List Kind). AllFit image (target_kinds x t.0) ks) (sym g.0)
                      (all_same (target_kinds x t.0));
                  stored = λ a h. subst (λ (ss : List ℕ). In a ss) g.1 h;
                  set = r.2;
                }),
              )

    passes_from : (ps : List Placed) (at : ℕ) (o : Option Known) (k l : Known) (js : List Jumped) → o ≡ Some k →
        at + length ps ≡ length body.instructions →
        ((i : ℕ) → slice_get body.instructions (at + i) ≡ slice_get ps i) →
        (0 < length ps → (slice_get b.states at ≡ Some l) × Knows k l) → SetsAre js → AreTaken at js →
        PassesFrom image x owner body bounds held at o js ps
    passes_from [] at o k l js e long code h sets taken = tt
    passes_from (p ∷ ps) at None k l js e long code h sets taken = absurd (none_some e)
    passes_from (p ∷ ps) at (Some q) k l js e long code h sets taken =
        let z : at ≡ at + 0 = omega arith in
        let here : slice_get body.instructions at ≡ Some p = ap (slice_get body.instructions) z ∙ code 0 in
        let s = h (omega arith) in
        let knows : Knows q l = subst (λ (q : Known). Knows q l) (sym (some_same e)) s.1 in (
          rules at p q l js here s.0 knows sets taken,
          rest ps refl (goes_on at p q l js here s.0 knows sets taken) (sets_more at p q l js here s.0 knows sets taken)
              (taken_more at p q l js here s.0 knows sets taken)
              (λ o m n f g. passes_from ps (suc at) o m n (jumped p.instruction q js) f
              (let m : length (p ∷ ps) ≡ suc (length ps) = refl in omega (arith, long, m))
              (λ i. let y : suc at + i ≡ at + suc i = omega arith in ap (slice_get body.instructions) y ∙ code (suc i))
              g),
        )
      where
        rest : (qs : List Placed) → ps ≡ qs → (suc at < length body.instructions → (m : Known) × (n : Known) ×
            (next image x owner body bounds held at q js p.instruction ≡ Some m) ×
            (slice_get b.states (suc at) ≡ Some n) × Knows m n) →
            SetsAre (jumped p.instruction q js) → AreTaken (suc at) (jumped p.instruction q js) →
            ((o : Option Known) (m n : Known) → o ≡ Some m →
            (0 < length ps → (slice_get b.states (suc at) ≡ Some n) × Knows m n) →
            SetsAre (jumped p.instruction q js) → AreTaken (suc at) (jumped p.instruction q js) →
            PassesFrom image x owner body bounds held (suc at) o (jumped p.instruction q js) ps) →
            PassesFrom image x owner body bounds held (suc at)
            (next image x owner body bounds held at q js p.instruction) (jumped p.instruction q js) ps
        rest [] f on sets taken later =
            subst (λ (qs : List Placed). PassesFrom image x owner body bounds held (suc at)
            (next image x owner body bounds held at q js p.instruction) (jumped p.instruction q js) qs) (sym f) tt
        rest (r ∷ rs) f on sets taken later =
            let y : length ps ≡ suc (length rs) = ap length f in
            let w : length (p ∷ ps) ≡ suc (length ps) = refl in
            let g = on (omega (arith, long, y, w)) in
            later (next image x owner body bounds held at q js p.instruction) g.0 g.1 g.2 (λ lt. (g.3, g.4)) sets taken

    pub body_passes : BodyPasses image x owner body bounds held
    body_passes = record {
      name = b.name;
      parameters = b.parameters;
      vals = b.vals;
      some = b.some;
      all = passes_from body.instructions 0 (Some at_first) at_first at_first [] refl (omega arith)
          (λ i. let z : 0 + i ≡ i = omega arith in ap (slice_get body.instructions) z)
          (λ lt. (b.first, record { operands = tt; stored = λ s h. h; set = refl }))
          (λ to s e. absurd (none_some e)) (λ j to p lt. absurd (omega (arith, lt)));
    }
