-- Instructions that neither make objects nor enter or leave bodies.
use Rattle.std.proofs.Common.{◌≡◌, ℕ, zero, suc, ◌+◌, ◌<◌, ◌≤◌, Bool, true, false, List, [], ◌∷◌, ◌++◌, length, inl}
use Rattle.std.proofs.Common.{inr, ⊎_elim, refl, sym, ap, ◌∙◌, subst, Option, Some, None, arith}
use Rattle.std.proofs.lemmas.Bool.{cases_eq, lt-ltb}
use Rattle.std.specs.Prelude.{slice_get, slice_set, nat_lt}
use Rattle.wy_text.specs.declared.fault.Place.{Place}
use Rattle.wy_device.specs.RunEnds.{Wrong}
use Rattle.wy_code.specs.declared.instruction.Constant.{Constant}
use Rattle.wy_code.specs.declared.instruction.Constant.TheVariants as constant
use Rattle.wy_code.specs.declared.instruction.Operator.{Operator}
use Rattle.wy_code.specs.declared.instruction.Operator.TheVariants as operator
use Rattle.wy_code.specs.declared.instruction.Instruction.{Instruction}
use Rattle.wy_code.specs.declared.instruction.Instruction.TheVariants.{Push, Load, Store as StoreIn, Get, Set, Drop, Op}
use Rattle.wy_code.specs.declared.instruction.Instruction.TheVariants.{Jump, JumpFalse}
use Rattle.wy_code.specs.Stores.{Word, Truth, Thing, Store, found, value_at, value_in, value_set, with_value}
use Rattle.wy_code.specs.Operations.{operand_count, operated}
use Rattle.wy_code.specs.Machine.{Frame, State, Next, Go, Halt, act, first_of, word_of, push_reply, Taken, short, taken}
use Rattle.wy_code.specs.Machine.{take_operands, on_taken, stored, on_truth}
use Rattle.wy_verified.specs.Images.{Image}
use Rattle.wy_image.specs.declared.typing.Atom.{Atom}
use Rattle.wy_verified.specs.Kinds.{Kind, Ints, Truths, Texts, Units, Own, Granted, kind_in, kinds_in, value_kinds}
use Rattle.wy_verified.specs.Kinds.{AllFit}
use Rattle.wy_verified.specs.Rules.{Known, Owner, SlotHas, literal_number, CanRead, CanSet, ThisSlot, Constants, Comes}
use Rattle.wy_verified.specs.Rules.{Follows, operand_kinds, result_kind, reversed, fields_after}
use Rattle.wy_verified.proofs.Lists.{reversed_length, some_same, pick_true, get_set_same, get_set_other, length_set}
use Rattle.std.proofs.lemmas.Option.{slice_get_within}
use Rattle.wy_verified.proofs.Lists.{map_length, none_some}
use Rattle.wy_verified.proofs.Below.{below_same}
use Rattle.wy_verified.proofs.Heaps.{count, Has, AllHave, Keeps, has_kept, all_kept, has_fits, all_fit, all_get}
use Rattle.wy_verified.proofs.Heaps.{all_set, all_length, HeapAt, heap_set, heap_begin}
use Rattle.wy_verified.proofs.Operating.{seen_truth}
use Rattle.wy_verified.proofs.Granting.{operated_answers}
use Rattle.wy_verified.proofs.Frames.{Context, Typed, FirstHas, ThisHas, Callers, callers_grow, with_operands, Fine}
use Rattle.wy_verified.proofs.Frames.{come, pushed, replied, state_of, calls_at, Running}

first_set : (slots : List Word) (j : ℕ) (v : Word) → first_of (slice_set slots (suc j) v) ≡ first_of slots
first_set [] j v = refl
first_set (x ∷ slots) j v = refl

module _ (image : Image) where
  ------------------------------------------------------------
  -- Operands

  -- the topmost operand
  abbrev pub HasTop : ℕ → Store → Kind → List Kind → List Word → Type 0
  HasTop now w k rest operands =
      (v : Word) × (vs : List Word) × (operands ≡ v ∷ vs) × Has image now w v k × AllHave image now w vs rest

  pub has_top : (now : ℕ) (w : Store) (k : Kind) (rest ks : List Kind) (operands : List Word) → ks ≡ k ∷ rest →
      AllHave image now w operands ks → HasTop now w k rest operands
  has_top now w k rest ks operands e h = of operands (subst (λ ks. AllHave image now w operands ks) e h)
    where
      of : (vs : List Word) → AllHave image now w vs (k ∷ rest) → HasTop now w k rest vs
      of [] h = absurd h
      of (v ∷ vs) h = (v, vs, refl, h.0, h.1)

  -- the topmost operands, in the order in which they were pushed, and those below
  abbrev pub HasTaken : ℕ → Store → List Kind → List Kind → Taken → Type 0
  HasTaken now w ks rest short = ⊥
  HasTaken now w ks rest (taken vs below) = AllHave image now w vs ks × AllHave image now w below rest

  taken_more : (now : ℕ) (w : Store) (top rest others : List Kind) (n : ℕ) (operands vs : List Word) → length top ≡ n →
      AllHave image now w operands (top ++ rest) →
      AllHave image now w vs others → HasTaken now w (reversed top others) rest (take_operands n operands vs)
  taken_more now w [] rest others zero operands vs l h g = (g, h)
  taken_more now w [] rest others (suc n) operands vs l h g = absurd (omega arith)
  taken_more now w (k ∷ top) rest others zero operands vs l h g = absurd (omega arith)
  taken_more now w (k ∷ top) rest others (suc n) [] vs l h g = absurd h
  taken_more now w (k ∷ top) rest others (suc n) (v ∷ operands) vs l h g =
      taken_more now w top rest (k ∷ others) n operands (v ∷ vs) (omega arith) h.1 (h.0, g)

  pub has_taken : (now : ℕ) (w : Store) (top rest ks : List Kind) (n : ℕ) (operands : List Word) → length top ≡ n →
      ks ≡ top ++ rest → AllHave image now w operands ks →
      HasTaken now w (reversed top []) rest (take_operands n operands [])
  has_taken now w top rest ks n operands l e h =
      taken_more now w top rest [] n operands [] l (subst (λ ks. AllHave image now w operands ks) e h) tt

  -- the types of as many operands as an operator takes
  all_fit_length : (ks ls : List Kind) → AllFit image ks ls → length ks ≡ length ls
  all_fit_length [] [] h = refl
  all_fit_length [] (l ∷ ls) h = absurd h
  all_fit_length (k ∷ ks) [] h = absurd h
  all_fit_length (k ∷ ks) (l ∷ ls) h = ap suc (all_fit_length ks ls h.1)

  pub fit_length : (ks ls : List Kind) → AllFit image (reversed ks []) ls → length ks ≡ length ls
  fit_length ks ls h =
      let a = all_fit_length (reversed ks []) ls h in let b = reversed_length ks [] in
      let z : length {A = Kind} [] ≡ 0 = refl in omega (arith, a, b, z)

  pub count_right : (o : Operator) (k : Kind) → length (operand_kinds o k) ≡ operand_count o
  count_right operator.Negate k = refl
  count_right operator.Not k = refl
  count_right operator.Add k = refl
  count_right operator.Subtract k = refl
  count_right operator.Multiply k = refl
  count_right operator.Divide k = refl
  count_right operator.Remainder k = refl
  count_right operator.Join k = refl
  count_right operator.Less k = refl
  count_right operator.LessOrEqual k = refl
  count_right operator.Greater k = refl
  count_right operator.GreaterOrEqual k = refl
  count_right operator.Equal k = refl
  count_right operator.NotEqual k = refl
  count_right operator.Size k = refl
  count_right operator.Part k = refl
  count_right operator.Code k = refl
  count_right operator.Byte k = refl
  count_right operator.Show k = refl

  module _ (main : value_kinds image (count image) 0 ≡ []) where
    ------------------------------------------------------------
    -- Values of the current object

    no_main : (x i : ℕ) (k : Kind) → x ≡ count image → slice_get (value_kinds image x 0) i ≡ Some k → ⊥
    no_main x i k e h =
        let f : slice_get (value_kinds image (count image) 0) i ≡ Some k =
        subst (λ x. slice_get (value_kinds image x 0) i ≡ Some k) e h in
        none_some (sym (ap (λ ks. slice_get ks i) main) ∙ f)

    pub value_read : (now : ℕ) (x held : ℕ) (owner : Owner) (w : Store) (set : ℕ) (this : Word) (i : ℕ) (k : Kind) →
        HeapAt image now w → ThisHas image now x held owner w set this →
        slice_get (value_kinds image x (literal_number owner)) i ≡ Some k → CanRead owner held i → (v : Word) ×
        (value_at w this i ≡ Some v) × Has image now w v k
    value_read now x held None w set this i k heap h e r = elim h.1 [
      | inl f ↦ absurd (no_main x i k (h.0 ∙ f) e)
      | inr f ↦ (
          let first = f.1 in
          let v = first.each i k (omega (arith, r)) (subst (λ x. slice_get (value_kinds image x 0) i ≡ Some k) h.0 e) in
          (v.0, ap (λ this. value_at w this i) first.is ∙ ap (λ o. value_in o i) first.there ∙ v.1, v.2))
    ]
    value_read now x held (Some l) w set this i k heap h e r =
        let th = heap.by h.object h.thing h.there h.ready in
        let at : slice_get (value_kinds image h.thing.instance h.thing.literal) i ≡ Some k =
        subst (λ x. slice_get (value_kinds image x h.thing.literal) i ≡ Some k) (sym h.instance)
        (subst (λ l. slice_get (value_kinds image x l) i ≡ Some k) (sym h.literal) e) in
        let v = all_get image now w h.thing.values (value_kinds image h.thing.instance h.thing.literal) i k th.values
        at in
        (v.0, ap (λ this. value_at w this i) h.is ∙ ap (λ o. value_in o i) h.there ∙ v.1, v.2)

    -- the store after a value of the current object is set; other frames wait as they did, if any does
    pub record IsSet (now : ℕ) (x held : ℕ) (owner : Owner) (w : Store) (set : ℕ) (this : Word) (i : ℕ) (v : Word)
        (result : Kind) (effect : List Atom) (fs : List Frame) : Type 0 where
      pub store : Store
      pub is : value_set this i v w ≡ Some store
      pub keeps : Keeps image now w store
      pub heap : HeapAt image now store
      pub next : store.next ≡ w.next
      pub this_has : ThisHas image now x held owner store (fields_after owner set) this
      pub callers : Callers image now store owner result effect fs

    no_callers : (now : ℕ) (w u : Store) (result : Kind) (effect : List Atom) (fs : List Frame) →
        Callers image now w None result effect fs → Callers image now u None result effect fs
    no_callers now w u result effect [] h = tt
    no_callers now w u result effect (f ∷ fs) h = absurd h

    pub value_stored : (now : ℕ) (x held : ℕ) (owner : Owner) (w : Store) (set : ℕ) (this : Word) (i : ℕ) (k : Kind)
        (v : Word) (result : Kind) (effect : List Atom) (fs : List Frame) →
        now ≤ count image → HeapAt image now w → ThisHas image now x held owner w set this →
        Callers image now w owner result effect fs →
        slice_get (value_kinds image x (literal_number owner)) i ≡ Some k → CanSet owner held set i →
        Has image now w v k →
        IsSet now x held owner w set this i v result effect fs
    value_stored now x held None w set this i k v result effect fs low heap h callers e can has = elim h.1 [
      | inl f ↦ absurd (no_main x i k (h.0 ∙ f) e)
      | inr f ↦ begun f.0 f.1
    ]
      where
        begun : now < count image → FirstHas image now held w set this →
            IsSet now x held None w set this i v result effect fs
        begun lt first =
            let t : Thing = first.thing in
            let values : List Word = slice_set t.values i v in
            let new : Thing = record t { values = values } in
            let u : Store = record w { objects = slice_set w.objects now new } in
            let kind : slice_get (value_kinds image now 0) i ≡ Some k =
            subst (λ x. slice_get (value_kinds image x 0) i ≡ Some k) h.0 e in
            let within : i < length t.values =
            (let a = slice_get_within (value_kinds image now 0) i k kind in let l = first.long in omega (arith, a, l)) in
            let g = heap_begin image now w u t values first.there
            (λ r. elim r [ inl l ↦ omega arith | inr l ↦ omega arith ]) refl refl heap in
            record {
              store = u;
              is = ap (λ this. value_set this i v w) first.is ∙ ap (with_value now i v w) first.there ∙
                  pick_true (nat_lt i (length t.values)) (Some u) None (lt-ltb i (length t.values) within);
              keeps = g.0;
              heap = g.1;
              next = refl;
              this_has = (
                h.0,
                inr (
                  lt,
                  record {
                    thing = new;
                    is = first.is;
                    there = get_set_same w.objects now new (slice_get_within w.objects now t first.there);
                    instance = first.instance;
                    literal = first.literal;
                    long = length_set t.values i v ∙ first.long;
                    each = λ j l m f. ⊎_elim
                        (λ eq. (
                          v,
                          ap (slice_get values) (sym eq) ∙ get_set_same t.values i v within,
                          has_kept image now w u v l g.0 (subst (λ k. Has image now w v k)
                              (some_same (sym kind ∙ ap (slice_get (value_kinds image now 0)) eq ∙ f)) has),
                        ))
                        (λ ne. let old = first.each j l (omega (arith, m, can, ne)) f in
                        (old.0, get_set_other t.values i j v ne ∙ old.1, has_kept image now w u old.0 l g.0 old.2))
                        (cases_eq i j);
                  },
                ),
              );
              callers = no_callers now w u result effect fs callers;
            }
    value_stored now x held (Some l) w set this i k v result effect fs low heap h callers e can has =
        let t : Thing = h.thing in
        let values : List Word = slice_set t.values i v in
        let new : Thing = record t { values = values } in
        let u : Store = record w { objects = slice_set w.objects h.object new } in
        let th = heap.by h.object t h.there h.ready in
        let kind : slice_get (value_kinds image t.instance t.literal) i ≡ Some k =
        subst (λ x. slice_get (value_kinds image x t.literal) i ≡ Some k) (sym h.instance)
        (subst (λ l. slice_get (value_kinds image x l) i ≡ Some k) (sym h.literal) e) in
        let within : i < length t.values =
        (let a = slice_get_within (value_kinds image t.instance t.literal) i k kind in let m =
        all_length image now w t.values (value_kinds image t.instance t.literal) th.values in
        omega (arith, a, m)) in
        let g = heap_set image now w u h.object t values h.there h.ready refl refl refl heap
        (all_set image now w t.values (value_kinds image t.instance t.literal) i k v th.values kind has) in
        record {
          store = u;
          is = ap (λ this. value_set this i v w) h.is ∙ ap (with_value h.object i v w) h.there ∙
              pick_true (nat_lt i (length t.values)) (Some u) None (lt-ltb i (length t.values) within);
          keeps = g.0.keeps;
          heap = g.1;
          next = refl;
          this_has = record {
            object = h.object;
            thing = new;
            is = h.is;
            there = get_set_same w.objects h.object new (slice_get_within w.objects h.object t h.there);
            instance = h.instance;
            literal = h.literal;
            ready = h.ready;
          };
          callers = callers_grow image now w u (Some l) result effect fs g.0 callers;
        }

    module _ (n : ℕ) (place : Place) (now : ℕ) (c : Context image) (at : ℕ) (known : Known) (slots operands : List Word)
        (w : Store) (fs : List Frame)
        (r : Running image now c known slots operands w fs) where
      abbrev pub Does : Instruction → Type 0
      Does i = Fine image (calls_at image c fs)
          (act image.code n place i (state_of image c (suc at) slots operands w fs))

      abbrev pub Says : Instruction → Type 0
      Says i = Follows image c.x c.owner c.body c.bounds c.held c.follows.states at known i

      ------------------------------------------------------------
      -- Constants, slots and values

      constant_has : (k : Constant) (t : Kind) → Constants image c.x c.owner c.body c.bounds k t →
          Has image now w (word_of k) t
      constant_has (constant.Int m) t e = below_same image Ints t (sym e)
      constant_has (constant.Truth b) t e = below_same image Truths t (sym e)
      constant_has constant.Unit t e = below_same image Units t (sym e)
      constant_has (constant.Text m) t e =
          (let h = r.heap.texts in omega (arith, h, e.0), below_same image Texts t (sym e.1))
      constant_has (constant.Grant g) t e = below_same image (Granted g) t (sym e.1)
      constant_has (constant.Instance y) t e =
          let f = r.heap.first y e.1 in (
            f.0,
            f.1,
            inl (let a = r.typed.early in omega (arith, e.0, e.1, a)),
            below_same image (Own f.0.instance f.0.literal) t
                (ap (λ i. Own i f.0.literal) f.2 ∙ ap (Own y) f.3 ∙ sym e.2),
          )

      pub push_fine : (k : Constant) → Says (Push k) → Does (Push k)
      push_fine k h =
          pushed image now c (suc at) known slots operands known.operands h.0 (word_of k) [] w fs r.low r.heap r.next
          r.callers r.typed (constant_has k h.0 h.1) h.2 (λ rest b. b)

      pub load_fine : (s : ℕ) → Says (Load s) → Does (Load s)
      load_fine s h =
          let v = r.typed.reads s h.0 h.1 in
          subst (λ (o : Option Word). Fine image (calls_at image c fs)
          (push_reply (found o w) (state_of image c (suc at) slots operands w fs))) (sym v.1)
          (pushed image now c (suc at) known slots operands known.operands h.0 v.0 [] w fs r.low r.heap r.next r.callers
          r.typed v.2 h.2 (λ rest b. b))

      pub get_fine : (i : ℕ) → Says (Get i) → Does (Get i)
      get_fine i h =
          let v = value_read now c.x c.held c.owner w known.set (first_of slots) i h.0 r.heap r.typed.this h.1.there
          h.1.read in
          subst (λ (o : Option Word). Fine image (calls_at image c fs)
          (push_reply (found o w) (state_of image c (suc at) slots operands w fs))) (sym v.1)
          (pushed image now c (suc at) known slots operands known.operands h.0 v.0 [] w fs r.low r.heap r.next r.callers
          r.typed v.2 h.2 (λ rest b. b))

      abbrev Acts : Instruction → List Word → Type 0
      Acts i vs = Fine image (calls_at image c fs) (act image.code n place i (state_of image c (suc at) slots vs w fs))

      pub drop_fine : Says Drop → Does Drop
      drop_fine h =
          let v = has_top now w h.0 h.1 known.operands operands h.2 r.typed.stack in
          subst (Acts Drop) (sym v.2) (
            come image now c (suc at) (record known { operands = h.1 }) slots v.1 w fs r.low r.heap r.next r.callers
                (with_operands image now c w known.stored known.set slots operands v.1 known.operands h.1 v.4 r.typed)
                h.3,
            λ rest b. b,
          )

      pub jump_fine : (to : ℕ) → Says (Jump to) → Does (Jump to)
      jump_fine to h =
          (come image now c to known slots operands w fs r.low r.heap r.next r.callers r.typed h.1, λ rest b. b)

      pub jump_false_fine : (to : ℕ) → Says (JumpFalse to) → Does (JumpFalse to)
      jump_false_fine to h =
          let v = has_top now w h.0 h.1 known.operands operands h.2 r.typed.stack in
          let b = seen_truth image now w v.0 (has_fits image now w v.0 h.0 Truths v.3 h.3) in
          let typed =
          with_operands image now c w known.stored known.set slots operands v.1 known.operands h.1 v.4 r.typed in
          subst (Acts (JumpFalse to)) (sym v.2)
          (subst (λ x. Acts (JumpFalse to) (x ∷ v.1)) (sym b.1)
          (both b.0 _ _ (
            come image now c (suc at) (record known { operands = h.1 }) slots v.1 w fs r.low r.heap r.next r.callers
                typed h.5,
            λ rest b. b,
          ) (
            come image now c to (record known { operands = h.1 }) slots v.1 w fs r.low r.heap r.next r.callers typed h.6,
            λ rest b. b,
          )))
        where
          both : (b : Bool) (x y : Next) → Fine image (calls_at image c fs) x → Fine image (calls_at image c fs) y →
              Fine image (calls_at image c fs) (on_truth (Truth b) x y)
          both true x y p q = p
          both false x y p q = q

      pub op_fine : (o : Operator) → Says (Op o) → Does (Op o)
      op_fine o h = of (take_operands (operand_count o) operands [])
          (has_taken now w h.1 h.2 known.operands (operand_count o) operands
          (fit_length h.1 (operand_kinds o h.0) h.5 ∙ count_right o h.0) h.4 r.typed.stack)
        where
          of : (t : Taken) → HasTaken now w (reversed h.1 []) h.2 t →
              Fine image (calls_at image c fs) (on_taken t (state_of image c (suc at) slots operands w fs)
              (λ vs s. push_reply (operated place o vs s.store) s))
          of short q = absurd q
          of (taken vs below) q =
              replied image now c (suc at) known slots operands below h.2 (result_kind o) (operated place o vs w) w fs r
              q.1
              (operated_answers image now (calls_at image c fs) place w r.heap o h.0 vs h.3
              (all_fit image now w vs (reversed h.1 []) (operand_kinds o h.0) q.0 h.5)) h.6

      ------------------------------------------------------------
      -- Setting slots and values

      store_typed : (j : ℕ) (k : Kind) (v : Word) → j < c.body.vals →
          slice_get (kinds_in c.x c.bounds.vals) j ≡ Some k → Has image now w v k →
          (vs : List Word) (rest : List Kind) → AllHave image now w vs rest →
          Typed image now c w (suc (c.body.parameters + j) ∷ known.stored) known.set
          (slice_set slots (suc (c.body.parameters + j)) v) vs rest
      store_typed j k v lt e has vs rest others = record {
        early = r.typed.early;
        reads = λ s t q. elim q.by [
          | inl this ↦ old s t (λ eq. not_this c.owner s t eq this) (record { by = inl this })
          | inr q ↦ elim q [
            | inl p ↦ old s t (λ eq. let l = slice_get_within (kinds_in c.x c.bounds.parameters) p.0 t p.2 in let a =
                map_length (kind_in c.x) c.bounds.parameters in let b = c.follows.parameters in
                omega (arith, l, a, b, eq, p.1)) (record { by = inr (inl p) })
            | inr p ↦ elim p.2 [
              | inl eq ↦ (let same : j ≡ p.0 = omega (arith, eq, p.1) in (
                v,
                ap (slice_get (slice_set slots (suc (c.body.parameters + j)) v)) (sym eq)
                    ∙ get_set_same slots (suc (c.body.parameters + j)) v within,
                subst (λ k. Has image now w v k) (some_same
                    (sym e ∙ ap (slice_get (kinds_in c.x c.bounds.vals)) same ∙ p.3)) has,
              ))
              | inr there ↦ ⊎_elim
                  (λ eq. let same : j ≡ p.0 = omega (arith, eq, p.1) in (
                    v,
                    ap (slice_get (slice_set slots (suc (c.body.parameters + j)) v)) (sym eq)
                        ∙ get_set_same slots (suc (c.body.parameters + j)) v within,
                    subst (λ k. Has image now w v k) (some_same
                        (sym e ∙ ap (slice_get (kinds_in c.x c.bounds.vals)) same ∙ p.3)) has,
                  ))
                  (λ ne. old s t ne (record { by = inr (inr (p.0, p.1, there, p.3)) }))
                  (cases_eq (suc (c.body.parameters + j)) s)
            ]
          ]
        ];
        long = length_set slots (suc (c.body.parameters + j)) v ∙ r.typed.long;
        this = subst (λ this. ThisHas image now c.x c.held c.owner w known.set this)
            (sym (first_set slots (c.body.parameters + j) v)) r.typed.this;
        stack = others;
      }
        where
          within : suc (c.body.parameters + j) < length slots
          within = let d = r.typed.long in omega (arith, lt, d)

          not_this : (o : Owner) (s : ℕ) (t : Kind) → suc (c.body.parameters + j) ≡ s →
              ThisSlot image c.x c.owner c.body c.bounds o s t → ⊥
          not_this None s t eq h = h
          not_this (Some l) s t eq h = omega (arith, eq, h.0)

          old : (s : ℕ) (t : Kind) → (suc (c.body.parameters + j) ≡ s → ⊥) →
              SlotHas image c.x c.owner c.body c.bounds known.stored s t →
              (x : Word) × (slice_get (slice_set slots (suc (c.body.parameters + j)) v) s ≡ Some x) ×
              Has image now w x t
          old s t ne q =
              let x = r.typed.reads s t q in (x.0, get_set_other slots (suc (c.body.parameters + j)) s v ne ∙ x.1, x.2)

      pub store_fine : (s : ℕ) → Says (StoreIn s) → Does (StoreIn s)
      store_fine s h =
          let j : ℕ = h.0 in
          let v = has_top now w h.1 h.3 known.operands operands h.6 r.typed.stack in
          let typed = store_typed j h.2 v.0 h.9 h.5 (has_fits image now w v.0 h.1 h.2 v.3 h.7) v.1 h.3 v.4 in
          let t : State = state_of image c (suc at) (slice_set slots (suc (c.body.parameters + j)) v.0) v.1 w fs in
          let fine : Fine image (calls_at image c fs) (Go [] t) = (
            come image now c (suc at) (record known
                { operands = h.3; stored = suc (c.body.parameters + j) ∷ known.stored })
                (slice_set slots (suc (c.body.parameters + j)) v.0) v.1 w fs r.low r.heap r.next r.callers typed
                (subst (λ s. Comes image c.x c.owner c.body c.bounds c.held c.follows.states (suc at)
                (record known { operands = h.3; stored = s ∷ known.stored })) h.4 h.8),
            λ rest b. b,
          ) in
          subst (Acts (StoreIn s)) (sym v.2)
          (subst (λ s. Acts (StoreIn s) (v.0 ∷ v.1)) (sym h.4)
          (subst (λ (x : Next). Fine image (calls_at image c fs) x)
          (sym (pick_true (nat_lt (suc (c.body.parameters + j)) (length slots)) (Go [] t) (Halt Wrong [])
          (lt-ltb _ _ (let d = r.typed.long in let lt = h.9 in omega (arith, lt, d))))) fine))

      pub set_fine : (i : ℕ) → Says (Set i) → Does (Set i)
      set_fine i h =
          let v = has_top now w h.0 h.2 known.operands operands h.5 r.typed.stack in
          let q = value_stored now c.x c.held c.owner w known.set (first_of slots) i h.1 v.0
          (kind_in c.x c.bounds.result) c.bounds.effect fs r.low r.heap r.typed.this r.callers h.3 h.4
          (has_fits image now w v.0 h.0 h.1 v.3 h.6) in
          let u : Store = q.store in
          let typed : Typed image now c u known.stored (fields_after c.owner known.set) slots v.1 h.2 = record {
            early = r.typed.early;
            reads = λ s k e. let x = r.typed.reads s k e in (x.0, x.1, has_kept image now w u x.0 k q.keeps x.2);
            long = r.typed.long;
            this = q.this_has;
            stack = all_kept image now w u v.1 h.2 q.keeps v.4;
          } in
          subst (Acts (Set i)) (sym v.2)
          (subst (λ (o : Option Store). Fine image (calls_at image c fs)
          (stored o (state_of image c (suc at) slots v.1 w fs))) (sym q.is) (
            come image now c (suc at) (record known { operands = h.2; set = fields_after c.owner known.set }) slots v.1 u
                fs r.low q.heap (q.next ∙ r.next) q.callers typed h.7,
            λ rest b. b,
          ))
