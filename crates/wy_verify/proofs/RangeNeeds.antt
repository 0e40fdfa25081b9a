-- What captured values need, and the slots that rows store into.
use Rattle.std.proofs.Common.{◌≡◌, ℕ, zero, suc, ◌+◌, ◌-◌, ◌<◌, ◌≤◌, List, [], ◌∷◌, ◌++◌, length, map, get_or, take, inl, inr, refl, sym, ap, ◌∙◌, subst, Some, None, arith}
use Rattle.std.specs.Prelude.{max, slice_get}
use Rattle.std.proofs.lemmas.List.{take_more}
use Rattle.wy_text.specs.Members.{In}
use Rattle.wy_code.specs.Named.{greatest, named_in, slot_stored}
use Rattle.wy_image.specs.declared.file.Body.{Body}
use Rattle.wy_image.specs.declared.file.Capture.{Capture}
use Rattle.wy_image.specs.declared.file.Capture.TheVariants.{Slot, Value}
use Rattle.wy_image.specs.declared.file.ImageFile.{ImageFile}
use Rattle.wy_image.specs.declared.file.Instruction.{Instruction}
use Rattle.wy_image.specs.declared.file.Instruction.TheVariants as does
use Rattle.wy_image.specs.declared.file.Literal.{Literal}
use Rattle.wy_image.specs.declared.file.Row.{Row}
use Rattle.wy_image.specs.declared.file.Scope.{Scope}
use Rattle.wy_verified.specs.CodeOf.{instruction_of, placed_of, vals_of}
use Rattle.wy_verified.specs.Ranges.{CaptureInRange, MadeInRange, value_count}
use Rattle.wy_verified.specs.Rules.{Owner}
use Rattle.wy_verify.specs.declared.ranges.needs.Need.{Need}
use Rattle.wy_verify.specs.RangeParts.{slot_needed, value_needed, slots_needed, values_needed, need_of, needs_of, slot_stored_by, last_stored, vals_in}

------------------------------------------------------------
-- Captures

slots_end : (cs : List Capture) (c : Capture) → slots_needed (cs ++ c ∷ []) ≡ max (slot_needed c) (slots_needed cs)
slots_end [] c = refl
slots_end (d ∷ cs) c = let h = slots_end cs c in omega (arith, h)

values_end : (cs : List Capture) (c : Capture) → values_needed (cs ++ c ∷ []) ≡ max (value_needed c) (values_needed cs)
values_end [] c = refl
values_end (d ∷ cs) c = let h = values_end cs c in omega (arith, h)

pub slots_more : (cs : List Capture) (i : ℕ) (d : Capture) → i < length cs → slots_needed (take (i + 1) cs) ≡ max (slot_needed (get_or cs i d)) (slots_needed (take i cs))
slots_more cs i d lt = ap slots_needed (take_more cs i d lt) ∙ slots_end (take i cs) (get_or cs i d)

pub values_more : (cs : List Capture) (i : ℕ) (d : Capture) → i < length cs → values_needed (take (i + 1) cs) ≡ max (value_needed (get_or cs i d)) (values_needed (take i cs))
values_more cs i d lt = ap values_needed (take_more cs i d lt) ∙ values_end (take i cs) (get_or cs i d)

module _ (file : ImageFile) (s : Scope) (o : Owner) (b : Body) where
  one_fits : (c : Capture) → slot_needed c ≤ b.slots → value_needed c ≤ value_count s o → CaptureInRange file s o b c
  one_fits (Slot i) h k = omega (arith, h)
  one_fits (Value i) h k = omega (arith, k)

  one_needs : (c : Capture) → CaptureInRange file s o b c → (slot_needed c ≤ b.slots) × (value_needed c ≤ value_count s o)
  one_needs (Slot i) h = (omega (arith, h), omega arith)
  one_needs (Value i) h = (omega arith, omega (arith, h))

  all_fit : (cs : List Capture) → slots_needed cs ≤ b.slots → values_needed cs ≤ value_count s o → (c : Capture) → In c cs →
      CaptureInRange file s o b c
  all_fit [] h k c i = absurd i
  all_fit (d ∷ cs) h k c (inl e) = subst (CaptureInRange file s o b) e (one_fits d (omega (arith, h)) (omega (arith, k)))
  all_fit (d ∷ cs) h k c (inr i) = all_fit cs (omega (arith, h)) (omega (arith, k)) c i

  all_need : (cs : List Capture) → ((c : Capture) → In c cs → CaptureInRange file s o b c) →
      (slots_needed cs ≤ b.slots) × (values_needed cs ≤ value_count s o)
  all_need [] all = (omega arith, omega arith)
  all_need (d ∷ cs) all =
      let h = one_needs d (all d (inl refl)) in
      let k = all_need cs (λ c i. all c (inr i)) in
      (let x = h.0 in let y = k.0 in omega (arith, x, y), let x = h.1 in let y = k.1 in omega (arith, x, y))

  -- the literal of a number, by what it needs
  pub made_by : (ls : List Literal) (l : ℕ) (n : Need) → slice_get (needs_of ls) l ≡ Some n → n.slots ≤ b.slots → n.values ≤ value_count s o →
      MadeInRange file s o b (slice_get ls l)
  made_by [] l n e h k = absurd cc
  made_by (x ∷ ls) zero n e h k =
      let same : need_of x.captures ≡ n = cc in
      all_fit x.captures (let z = ap (λ (m : Need). m.slots) same in omega (arith, z, h)) (let z = ap (λ (m : Need). m.values) same in omega (arith, z, k))
  made_by (x ∷ ls) (suc l) n e h k = made_by ls l n e h k

  pub made_needs : (ls : List Literal) (l : ℕ) (n : Need) → slice_get (needs_of ls) l ≡ Some n → MadeInRange file s o b (slice_get ls l) →
      (n.slots ≤ b.slots) × (n.values ≤ value_count s o)
  made_needs [] l n e m = absurd cc
  made_needs (x ∷ ls) zero n e m =
      let same : need_of x.captures ≡ n = cc in
      subst (λ (m : Need). (m.slots ≤ b.slots) × (m.values ≤ value_count s o)) same (all_need x.captures m)
  made_needs (x ∷ ls) (suc l) n e m = made_needs ls l n e m

  pub made_none : (ls : List Literal) (l : ℕ) → slice_get (needs_of ls) l ≡ None → MadeInRange file s o b (slice_get ls l) → ⊥
  made_none [] l e m = m
  made_none (x ∷ ls) zero e m = cc
  made_none (x ∷ ls) (suc l) e m = made_none ls l e m

------------------------------------------------------------
-- Slots that are stored into

stored_end : (rs : List Row) (r : Row) → last_stored (rs ++ r ∷ []) ≡ max (slot_stored_by r.instruction) (last_stored rs)
stored_end [] r = refl
stored_end (q ∷ rs) r = let h = stored_end rs r in omega (arith, h)

pub stored_more : (rs : List Row) (i : ℕ) (r : Row) → i < length rs → r ≡ get_or rs i r → last_stored (take (i + 1) rs) ≡ max (slot_stored_by r.instruction) (last_stored (take i rs))
stored_more rs i r lt at =
    ap last_stored (take_more rs i r lt) ∙ ap (λ (q : Row). last_stored (take i rs ++ q ∷ [])) (sym at) ∙ stored_end (take i rs) r

stored_same : (texts : List (List ℕ)) (i : Instruction) (ns : List ℕ) → greatest (slot_stored (instruction_of texts i) ++ ns) ≡ max (slot_stored_by i) (greatest ns)
stored_same texts (does.Push c) ns = omega arith
stored_same texts (does.Load s) ns = omega arith
stored_same texts (does.Store s) ns = refl
stored_same texts (does.Get s) ns = omega arith
stored_same texts (does.Set s) ns = omega arith
stored_same texts does.Drop ns = omega arith
stored_same texts (does.Op o) ns = omega arith
stored_same texts (does.Jump to) ns = omega arith
stored_same texts (does.JumpFalse to) ns = omega arith
stored_same texts (does.New l) ns = omega arith
stored_same texts (does.Call m n) ns = omega arith
stored_same texts does.Return ns = omega arith
stored_same texts does.Finish ns = omega arith

all_same : (texts : List (List ℕ)) (rs : List Row) → greatest (named_in slot_stored (map (placed_of texts) rs)) ≡ last_stored rs
all_same texts [] = refl
all_same texts (r ∷ rs) =
    stored_same texts r.instruction (named_in slot_stored (map (placed_of texts) rs)) ∙ ap (λ n. max (slot_stored_by r.instruction) n) (all_same texts rs)

-- the `val`s of a body, as its code has them
pub vals_same : (texts : List (List ℕ)) (b : Body) → vals_of b.parameters (map (placed_of texts) b.rows) ≡ vals_in b
vals_same texts b = ap (λ n. n - b.parameters) (all_same texts b.rows)
