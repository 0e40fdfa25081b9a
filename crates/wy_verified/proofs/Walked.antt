-- A body of which all rules hold, one after the other, follows them in the sense that the machine's safety rests on.
use Rattle.std.proofs.Common.{◌≡◌, ℕ, zero, suc, ◌+◌, ◌-◌, ◌<◌, ◌≤◌, Bool, true, false, List, [], ◌∷◌, ◌++◌, length}
use Rattle.std.proofs.Common.{take, drop, inl, inr, refl, sym, ap, ◌∙◌, subst, Option, Some, None, arith}
use Rattle.std.proofs.lemmas.Bool.{ltb-false, eqb-true}
use Rattle.std.specs.Prelude.{slice_get, nat_eq, nat_lt, if◌then◌else◌}
use Rattle.wy_code.specs.declared.code.Body.{Body}
use Rattle.wy_code.specs.declared.code.Literal.{Literal}
use Rattle.wy_code.specs.declared.code.Source.{Source}
use Rattle.wy_code.specs.declared.code.Source.TheVariants as source
use Rattle.wy_code.specs.declared.instruction.Constant.{Constant}
use Rattle.wy_code.specs.declared.instruction.Constant.TheVariants as constant
use Rattle.wy_code.specs.declared.instruction.Instruction.{Instruction}
use Rattle.wy_code.specs.declared.instruction.Instruction.TheVariants.{Push, Load, Store, Get, Set, Drop, Op, Jump}
use Rattle.wy_code.specs.declared.instruction.Instruction.TheVariants.{JumpFalse, New, Call, Return, Finish}
use Rattle.wy_code.specs.Machine.{literal_of}
use Rattle.wy_code.specs.Operations.{operand_count}
use Rattle.wy_image.specs.declared.typing.Bounds.{Bounds}
use Rattle.wy_image.specs.declared.typing.Target.{Target}
use Rattle.wy_verified.specs.Images.{Image}
use Rattle.wy_verified.specs.Kinds.{Kind, Own, kind_in, kinds_in, MethodType, methods, value_kinds, In, Fits, AllFit}
use Rattle.wy_verified.specs.Rules.{Known, Owner, SlotHas, ValueIs, SourceHas, SourcesHave, Constants, Reaches, Comes}
use Rattle.wy_verified.specs.Rules.{Pushes, Follows, BodyFollows, CanRead, literal_number, result_kind, reversed}
use Rattle.wy_verified.specs.Walking.{Range, Flow, State, Depth, Types, Effect, VerifyRule, top_kind, kind_or, is_in}
use Rattle.wy_verified.specs.Walking.{with_slot, target_in, known_at, fields_of, captures_of, result_of, slot_kind}
use Rattle.wy_verified.specs.Walking.{this_kind, value_kind, constant_kind, popped, receiver_of, after, Leads}
use Rattle.wy_verified.specs.Walking.{IsReadable, source_kind, SourceOk, SourcesOk, ConstantOk, MeetsState, SourcesFit}
use Rattle.wy_verified.specs.Walking.{MeetsTypes, CallTypes, MethodEffect, FinishOk, FinishTypes, known_there}
use Rattle.wy_verified.specs.Walking.{IsSomeLiteral, RangeOk, Holds, Walks, BodyWalks}
use Rattle.wy_verified.proofs.Lists.{some_same, none_some, read_there, map_length}

------------------------------------------------------------
-- Lists of operands

one_more : (ks : List Kind) → 1 ≤ length ks → ks ≡ top_kind ks ∷ drop 1 ks
one_more [] h = absurd (omega arith)
one_more (k ∷ ks) h = refl

split_at : (n : ℕ) (ks : List Kind) → ks ≡ take n ks ++ drop n ks
split_at zero ks = refl
split_at (suc n) [] = refl
split_at (suc n) (k ∷ ks) = ap (λ l. k ∷ l) (split_at n ks)

split_more : (n : ℕ) (ks : List Kind) → n + 1 ≤ length ks → ks ≡ take n ks ++ top_kind (drop n ks) ∷ drop (n + 1) ks
split_more zero [] h = absurd (omega arith)
split_more zero (k ∷ ks) h = refl
split_more (suc n) [] h = absurd (omega arith)
split_more (suc n) (k ∷ ks) h =
    let e : suc (n + 1) ≡ suc n + 1 = omega arith in
    ap (λ l. k ∷ l) (split_more n ks (omega arith))
    ∙ ap (λ m. k ∷ (take n ks ++ top_kind (drop n ks) ∷ drop m (k ∷ ks))) e

take_length : (n : ℕ) (ks : List Kind) → n ≤ length ks → length (take n ks) ≡ n
take_length zero ks h = refl
take_length (suc n) [] h = absurd (omega arith)
take_length (suc n) (k ∷ ks) h = ap suc (take_length n ks (omega arith))

only_one : (ks : List Kind) → length ks ≡ 1 → ks ≡ top_kind ks ∷ []
only_one [] h = absurd (omega arith)
only_one (k ∷ []) h = refl
only_one (k ∷ j ∷ ks) h = absurd (omega arith)

none_left : (ks : List Kind) → length ks ≡ 0 → ks ≡ []
none_left [] h = refl
none_left (k ∷ ks) h = absurd (omega arith)

in_is : (s : ℕ) (rs : List ℕ) → is_in s rs ≡ true → In s rs
in_is s [] e = absurd cc
in_is s (r ∷ rs) e = of (λ f. in_is s rs f) (nat_eq r s) refl
  where
    of : (is_in s rs ≡ true → In s rs) → (c : Bool) → nat_eq r s ≡ c → In s (r ∷ rs)
    of later true f = inl (eqb-true r s f)
    of later false f = inr (later (sym (ap (λ c. if c then true else is_in s rs) f) ∙ e))

pub slot_within : (s a : ℕ) (stored : List ℕ) → In a (with_slot s stored) → In a (s ∷ stored)
slot_within s a stored h = of (is_in s stored) h
  where
    of : (c : Bool) → In a (if c then stored else s ∷ stored) → In a (s ∷ stored)
    of true h = inr h
    of false h = h

pub slot_covers : (s a : ℕ) (stored : List ℕ) → In a (s ∷ stored) → In a (with_slot s stored)
slot_covers s a stored h = of (is_in s stored) refl
  where
    of : (c : Bool) → is_in s stored ≡ c → In a (with_slot s stored)
    of true f =
        subst (λ c. In a (if c then stored else s ∷ stored)) (sym f)
        (elim h [ inl e ↦ subst (λ a. In a stored) e (in_is s stored f) | inr i ↦ i ])
    of false f = subst (λ c. In a (if c then stored else s ∷ stored)) (sym f) h

readable : (o : Option Kind) → IsReadable o → o ≡ Some (kind_or o)
readable None h = absurd h
readable (Some k) h = refl

all_refl : (image : Image) (ks : List Kind) → AllFit image ks ks
all_refl image [] = tt
all_refl image (k ∷ ks) = (inl refl, all_refl image ks)

module _ (image : Image) (x : ℕ) (owner : Owner) (body : Body) (bounds : Bounds) (held : ℕ)
    (is_params : length bounds.parameters ≡ body.parameters) (is_vals : body.vals ≤ length bounds.vals) where
  abbrev Has : List ℕ → ℕ → Kind → Type 0
  Has stored s k = SlotHas image x owner body bounds stored s k

  abbrev Kind_of : List ℕ → ℕ → Option Kind
  Kind_of stored s = slot_kind image x owner body bounds held stored s

  this_has : (stored : List ℕ) (o : Owner) (k : Kind) → owner ≡ o →
      this_kind image x owner body bounds held o ≡ Some k → Has stored 0 k
  this_has stored None k e h = absurd cc
  this_has stored (Some l) k e h =
      record {
        by = inl (subst (λ (o : Owner). Rattle.wy_verified.specs.Rules.ThisSlot image x owner body bounds o 0 k)
            (sym e) (refl, sym (some_same h)));
      }

  slot_has : (stored : List ℕ) (s : ℕ) (k : Kind) → Kind_of stored s ≡ Some k → Has stored s k
  slot_has stored zero k e = this_has stored owner k refl e
  slot_has stored (suc i) k e = of_parameter (nat_lt i body.parameters) refl
    where
      of_val : (c : Bool) → is_in (suc i) stored ≡ c → body.parameters ≤ i →
          (if c then slice_get (kinds_in x bounds.vals) (i - body.parameters) else None) ≡ Some k → Has stored (suc i) k
      of_val true f l h =
          record {
            by = inr (inr (
              i - body.parameters,
              (let z : suc i ≡ suc (body.parameters + (i - body.parameters)) = omega (arith, l) in z),
              in_is (suc i) stored f,
              h,
            ));
          }
      of_val false f l h = absurd (none_some h)

      of_parameter : (c : Bool) → nat_lt i body.parameters ≡ c → Has stored (suc i) k
      of_parameter true f = record {
        by = inr (inl (
          i,
          refl,
          sym (ap (λ c. if c then slice_get (kinds_in x bounds.parameters) i
              else if is_in (suc i) stored then slice_get (kinds_in x bounds.vals) (i - body.parameters) else None) f)
              ∙ e,
        ));
      }
      of_parameter false f =
          let h = sym (ap (λ c. if c then slice_get (kinds_in x bounds.parameters) i
          else if is_in (suc i) stored then slice_get (kinds_in x bounds.vals) (i - body.parameters) else None) f)
          ∙ e in
          of_val (is_in (suc i) stored) refl (ltb-false i body.parameters f) h

  ------------------------------------------------------------
  -- Places

  module _ (states : List Known) (at : ℕ) (known : Known) (i : Instruction)
      (w : Walks image x owner body bounds held states at known i) where
    abbrev next : Known
    next = after image x owner body bounds held known i

    comes : (to : ℕ) → Leads image x owner body bounds held at i to →
        Comes image x owner body bounds held states to next
    comes to l = of (target_in to bounds.targets) (w.leads to l) ((w.rules State).2 to l) ((w.rules Types).1 to l)
      where
        of : (o : Option Target) → slice_get states to ≡ Some (known_there image x owner body bounds held o next) →
            MeetsState image x owner body bounds held next o →
            MeetsTypes image x owner body bounds held next o → Comes image x owner body bounds held states to next
        of None e s t =
            record {
              next = next;
              there = e;
              reaches =
                  record { operands = all_refl image next.operands; stored = λ s h. h; set = refl };
            }
        of (Some target) e s t =
            record {
              next = known_at x target next.set;
              there = e;
              reaches =
                  record { operands = t; stored = s.1; set = refl };
            }

    room : (ks : List Kind) (k : Kind) → next.operands ≡ k ∷ ks →
        suc (body.parameters + body.vals) + length ks < body.slots
    room ks k e =
        let d = w.rules Depth in let f : length next.operands ≡ suc (length ks) = ap length e in omega (arith, d, f)

  ------------------------------------------------------------
  -- Captures

  source_has : (stored : List ℕ) (s : Source) → SourceOk image x owner body bounds held stored s →
      SourceHas image x owner body bounds held stored s (kind_or (source_kind image x owner body bounds held stored s))
  source_has stored (source.Slot s) h = slot_has stored s (kind_or (Kind_of stored s)) (readable (Kind_of stored s) h)
  source_has stored (source.Value i) h =
      record { there = readable (value_kind image x owner body bounds held i) h.0; read = h.1 }

  abbrev Captures : List ℕ → List Source → List Kind → List Kind → Type 0
  Captures stored ss top kinds =
      (captured : List Kind) × (fields : List Kind) × (kinds ≡ captured ++ fields) ×
      SourcesHave image x owner body bounds held stored ss captured × AllFit image top fields

  sources_have : (stored : List ℕ) (ss : List Source) (top kinds : List Kind) →
      SourcesOk image x owner body bounds held stored ss →
      SourcesFit image x owner body bounds held stored ss top kinds →
      Captures stored ss top kinds
  sources_have stored [] top kinds h f = ([], kinds, refl, tt, f)
  sources_have stored (s ∷ ss) top [] h f = absurd f
  sources_have stored (s ∷ ss) top (k ∷ kinds) h f =
      let r = sources_have stored ss top kinds h.1 f.1 in (
        k ∷ r.0,
        r.1,
        ap (λ l. k ∷ l) r.2,
        (
          (
            kind_or (source_kind image x owner body bounds held stored s),
            source_has stored s h.0,
            f.0,
          ),
          r.3,
        ),
        r.4,
      )

  ------------------------------------------------------------
  -- Instructions

  abbrev W : List Known → ℕ → Known → Instruction → Type 0
  W states at known i = Walks image x owner body bounds held states at known i

  abbrev F : List Known → ℕ → Known → Instruction → Type 0
  F states at known i = Follows image x owner body bounds held states at known i

  constants : (c : Constant) → ConstantOk image x owner body bounds held c →
      RangeOk image x owner body bounds held (Push c) →
      Constants image x owner body bounds c (constant_kind image x owner body bounds held c)
  constants (constant.Int n) h r = refl
  constants (constant.Truth b) h r = refl
  constants constant.Unit h r = refl
  constants (constant.Text t) h r = (r, refl)
  constants (constant.Grant g) h r = (h, refl)
  constants (constant.Instance y) h r = (h, r, refl)

  follows : (states : List Known) (at : ℕ) (known : Known) (i : Instruction) → W states at known i → F states at known i
  follows states at known (Push c) w = (
    constant_kind image x owner body bounds held c,
    constants c (w.rules State).1 (w.rules Range),
    record {
      room = room states at known (Push c) w known.operands (constant_kind image x owner body bounds held c) refl;
      comes = comes states at known (Push c) w (suc at) (inl (tt, refl));
    },
  )
  follows states at known (Load s) w =
      let k = kind_or (Kind_of known.stored s) in (
        k,
        slot_has known.stored s k (readable (Kind_of known.stored s) (w.rules State).1),
        record {
          room = room states at known (Load s) w known.operands k refl;
          comes = comes states at known (Load s) w (suc at) (inl (tt, refl));
        },
      )
  follows states at known (Get i) w =
      let k = kind_or (value_kind image x owner body bounds held i) in (
        k,
        record {
          there = readable (value_kind image x owner body bounds held i) (w.rules State).1.0;
          read = (w.rules State).1.1;
        },
        record {
          room = room states at known (Get i) w known.operands k refl;
          comes = comes states at known (Get i) w (suc at) (inl (tt, refl));
        },
      )
  follows states at known (Store s) w =
      let j : ℕ = s - suc body.parameters in
      let h = (w.rules State).1 in
      let l = map_length (kind_in x) bounds.vals in
      let v = read_there (kinds_in x bounds.vals) j (omega (arith, h.0, h.1, l, is_vals)) in (
        j,
        top_kind known.operands,
        v.0,
        drop 1 known.operands,
        (let z : s ≡ suc (body.parameters + j) = omega (arith, h.0) in z),
        v.1,
        one_more known.operands (w.rules State).0,
        subst (λ k. Fits image (top_kind known.operands) k) (ap kind_or v.1) (w.rules Types).0,
        (let c = comes states at known (Store s) w (suc at) (inl (tt, refl)) in
            record {
              next = c.next;
              there = c.there;
              reaches = record {
                operands = c.reaches.operands;
                stored = λ a i. slot_within s a known.stored (c.reaches.stored a i);
                set = c.reaches.set;
              };
            }),
        omega (arith, h.0, h.1),
      )
  follows states at known (Set i) w =
      let h = (w.rules State).1 in (
        top_kind known.operands,
        kind_or (value_kind image x owner body bounds held i),
        drop 1 known.operands,
        readable (value_kind image x owner body bounds held i) h.0,
        h.1,
        one_more known.operands (w.rules State).0,
        (w.rules Types).0,
        comes states at known (Set i) w (suc at) (inl (tt, refl)),
      )
  follows states at known Drop w = (
    top_kind known.operands,
    drop 1 known.operands,
    one_more known.operands (w.rules State).0,
    comes states at known Drop w (suc at) (inl (tt, refl)),
  )
  follows states at known (Op o) w =
      let t = (w.rules Types).0 in (
        t.0,
        take (operand_count o) known.operands,
        drop (operand_count o) known.operands,
        t.1,
        split_at (operand_count o) known.operands,
        t.2,
        record {
          room = room states at known (Op o) w (drop (operand_count o) known.operands) (result_kind o) refl;
          comes = comes states at known (Op o) w (suc at) (inl (tt, refl));
        },
      )
  follows states at known (Jump to) w = ((w.rules Flow).0.0, comes states at known (Jump to) w to (inr refl))
  follows states at known (JumpFalse to) w = (
    top_kind known.operands,
    drop 1 known.operands,
    one_more known.operands (w.rules State).0,
    (w.rules Types).0,
    (w.rules Flow).0.0,
    comes states at known (JumpFalse to) w (suc at) (inl (tt, refl)),
    comes states at known (JumpFalse to) w to (inr refl),
  )
  follows states at known (New l) w = of (literal_of image.code x l) refl (w.rules Range).1
    where
      of : (o : Option Literal) → literal_of image.code x l ≡ o → IsSomeLiteral o → F states at known (New l)
      of None e h = absurd h
      of (Some literal) e h =
          let n : ℕ = fields_of (literal_of image.code x l) in
          let same : n ≡ literal.fields = ap fields_of e in
          let r = sources_have known.stored (captures_of (literal_of image.code x l))
          (reversed (take n known.operands) []) (value_kinds image x l) (w.rules State).1 (w.rules Types).0 in
          record {
            literal = literal;
            top = take n known.operands;
            rest = drop n known.operands;
            captured = r.0;
            fields = r.1;
            there = e;
            no_module = (w.rules Range).0;
            kinds = r.2;
            sources = subst (λ (ss : List Source). SourcesHave image x owner body bounds held known.stored ss r.0)
                (ap captures_of e) r.3;
            count = take_length n known.operands (w.rules State).0 ∙ same;
            operands = split_at n known.operands;
            fit = r.4;
            pushes = record {
              room = room states at known (New l) w (drop n known.operands) (Own x l) refl;
              comes =
                  comes states at known (New l) w (suc at) (inl (tt, refl));
            };
          }
  follows states at known (Call m n) w =
      of (methods image (receiver_of image x owner body bounds held n known.operands) m) refl (w.rules Range)
      (w.rules Types).0 (w.rules Effect)
    where
      of : (o : Option MethodType) → methods image (receiver_of image x owner body bounds held n known.operands) m ≡ o →
          slice_get image.names m ≡ slice_get image.code.methods m →
          CallTypes image x owner body bounds held (reversed (take n known.operands) []) o →
          MethodEffect image x owner body bounds held o → F states at known (Call m n)
      of None e l t f = absurd t
      of (Some g) e l t f =
          let result : result_of (methods image (receiver_of image x owner body bounds held n known.operands) m) ≡
          g.result = ap result_of e in
          record {
            listed = l;
            method = g;
            receiver = receiver_of image x owner body bounds held n known.operands;
            top = take n known.operands;
            rest = drop (n + 1) known.operands;
            operands = split_more n known.operands (w.rules State).0;
            count = take_length n known.operands (let h = (w.rules State).0 in omega (arith, h));
            there = e;
            fit = t;
            effect = f;
            pushes = subst (λ k. Pushes image x owner body bounds held states (suc at) known
                (drop (n + 1) known.operands) k) result (record {
                  room = room states at known (Call m n) w (drop (n + 1) known.operands)
                      (result_of (methods image (receiver_of image x owner body bounds held n known.operands) m)) refl;
                  comes = comes states at known (Call m n) w (suc at) (inl (tt, refl));
                });
          }
  follows states at known Return w = of owner refl (w.rules Flow).0
    where
      of : (o : Owner) → owner ≡ o → Rattle.wy_verified.specs.Walking.IsMethod image x owner body bounds held o →
          F states at known Return
      of None e h = absurd h
      of (Some l) e h = (l, top_kind known.operands, e, only_one known.operands (w.rules State).1, (w.rules Types).0)
  follows states at known Finish w =
      (of owner refl (w.rules Flow).0, (w.rules State).1.0, ends (w.rules State).1.1 (w.rules Types).0)
    where
      of : (o : Owner) → owner ≡ o → Rattle.wy_verified.specs.Walking.IsStart image x owner body bounds held o →
          owner ≡ None
      of None e h = e
      of (Some l) e h = absurd h

      ends : FinishOk image x owner body bounds held known.operands →
          FinishTypes image x owner body bounds held known.operands →
          Rattle.wy_verified.specs.Rules.FinishesWith image x owner body bounds known.operands
      ends f t = elim f [
        | inl h ↦ inl (h.0, none_left known.operands h.1)
        | inr h ↦ inr (
          h.0,
          (
            top_kind known.operands,
            only_one known.operands h.1,
            subst (λ (ks : List Kind). FinishTypes image x owner body bounds held ks) (only_one known.operands h.1) t,
          ),
        )
      ]

pub body_follows : (image : Image) (x : ℕ) (owner : Owner) (body : Body) (bounds : Bounds) (held : ℕ) →
    BodyWalks image x owner body bounds held → BodyFollows image x owner body bounds held
body_follows image x owner body bounds held b = record {
  name = b.name;
  parameters = b.parameters;
  vals = b.vals;
  states = b.states;
  long = b.long;
  first = b.first;
  each = λ at placed known i s. follows image x owner body bounds held b.parameters b.vals b.states at known
      placed.instruction (b.each at placed known i s);
}
