-- `New`: the object that is made has its types.
use Rattle.std.proofs.Common.{◌≡◌, ℕ, suc, ◌+◌, List, [], ◌∷◌, ◌++◌, inr, refl, sym, ap, ◌∙◌, subst, Option, Some}
use Rattle.std.specs.Prelude.{nat_lt}
use Rattle.wy_text.specs.declared.fault.Place.{Place}
use Rattle.wy_device.specs.Traps.{most_objects}
use Rattle.wy_code.specs.declared.code.Literal.{Literal}
use Rattle.wy_code.specs.declared.code.Source.{Source}
use Rattle.wy_code.specs.declared.code.Source.TheVariants.{Slot, Value}
use Rattle.wy_code.specs.declared.instruction.Instruction.TheVariants.{New}
use Rattle.wy_code.specs.Stores.{Word, Thing, Store, object_made}
use Rattle.wy_code.specs.Machine.{Frame, first_of, Taken, short, taken, take_operands, on_taken, with_word, word_from}
use Rattle.wy_code.specs.Machine.{words_from, make_with, make}
use Rattle.wy_verified.specs.Images.{Image}
use Rattle.wy_verified.specs.Kinds.{Kind, Own, value_kinds}
use Rattle.wy_verified.specs.Rules.{Known, SourceHas, SourcesHave, reversed}
use Rattle.wy_verified.proofs.Lists.{read_next}
use Rattle.wy_verified.proofs.Below.{below_refl}
use Rattle.wy_verified.proofs.Heaps.{count, Has, AllHave, has_fits, all_fit, all_append, heap_more}
use Rattle.wy_verified.proofs.Granting.{Answers, answers_if}
use Rattle.wy_verified.proofs.Frames.{Context, Fine, replied, state_of, frame_of, calls_at, Running}
use Rattle.wy_verified.proofs.Steps.{HasTaken, has_taken, value_read, Does, Says}

module _ (image : Image) (main : value_kinds image (count image) 0 ≡ []) (n : ℕ) (place : Place) (now : ℕ)
    (c : Context image) (at : ℕ) (known : Known) (slots operands : List Word)
    (w : Store) (fs : List Frame) (r : Running image now c known slots operands w fs) where
  -- the words that are captured
  abbrev Captured : Source → Kind → Option Word → Type 0
  Captured s k o = (v : Word) × (o ≡ Some v) × Has image now w v k

  captured_one : (others : List Word) (s : Source) (k : Kind) →
      SourceHas image c.x c.owner c.body c.bounds c.held known.stored s k →
      Captured s k (word_from (frame_of image c (suc at) slots others) w s)
  captured_one others (Slot i) k h = r.typed.reads i k h
  captured_one others (Value i) k h =
      value_read image main now c.x c.held c.owner w known.set (first_of slots) i k r.heap r.typed.this h.there h.read

  captured_all : (others : List Word) (ss : List Source) (ks : List Kind) →
      SourcesHave image c.x c.owner c.body c.bounds c.held known.stored ss ks →
      (vs : List Word) × (words_from (frame_of image c (suc at) slots others) w ss ≡ Some vs) ×
      AllHave image now w vs ks
  captured_all others [] [] h = ([], refl, tt)
  captured_all others [] (k ∷ ks) h = absurd h
  captured_all others (s ∷ ss) [] h = absurd h
  captured_all others (s ∷ ss) (k ∷ ks) h =
      let v = captured_one others s h.0.0 h.0.1 in
      let vs = captured_all others ss ks h.1 in (
        v.0 ∷ vs.0,
        ap (λ o. with_word o (words_from (frame_of image c (suc at) slots others) w ss)) v.1
            ∙ ap (with_word (Some v.0)) vs.1,
        (has_fits image now w v.0 h.0.0 k v.2 h.0.2, vs.2),
      )

  made_answers : (l : ℕ) (values : List Word) → AllHave image now w values (value_kinds image c.x l) →
      Answers image now (calls_at image c fs) w (Own c.x l)
      (object_made place (record { instance = c.x; literal = l; values = values }) w)
  made_answers l values h =
      let thing : Thing = record { instance = c.x; literal = l; values = values } in
      let u : Store = record w { objects = w.objects ++ thing ∷ []; made = w.made + 1 } in
      let g = heap_more image now w u thing refl refl refl r.heap (record { values = h; early = r.typed.early }) in
      answers_if image now (calls_at image c fs) w (Own c.x l) (nat_lt w.made most_objects) _ _
      (g.0, g.1, (thing, read_next w.objects [] thing, inr r.heap.long, below_refl image (Own c.x l)), λ rest b. b)
      ((λ f. cc), tt)

  pub new_fine : (l : ℕ) → Says image main n place now c at known slots operands w fs r (New l) →
      Does image main n place now c at known slots operands w fs r (New l)
  new_fine l h =
      subst (λ (o : Option Literal). Fine image (calls_at image c fs)
      (make place l (state_of image c (suc at) slots operands w fs) o)) (sym h.there)
      (of (take_operands h.literal.fields operands [])
      (has_taken image now w h.top h.rest known.operands h.literal.fields operands h.count h.operands
      r.typed.stack))
    where
      of : (t : Taken) → HasTaken image now w (reversed h.top []) h.rest t →
          Fine image (calls_at image c fs) (on_taken t (state_of image c (suc at) slots operands w fs)
          (λ fields s. make_with place l fields s (words_from s.frame s.store h.literal.captures)))
      of short q = absurd q
      of (taken vs below) q =
          let captured = captured_all below h.literal.captures h.captured h.sources in
          let values : AllHave image now w (captured.0 ++ vs) (value_kinds image c.x l) =
          subst (λ (ks : List Kind). AllHave image now w (captured.0 ++ vs) ks) (sym h.kinds)
          (all_append image now w captured.0 vs h.captured h.fields captured.2
          (all_fit image now w vs (reversed h.top []) h.fields q.0 h.fit)) in
          subst (λ (o : Option (List Word)). Fine image (calls_at image c fs)
          (make_with place l vs (state_of image c (suc at) slots below w fs) o)) (sym captured.1)
          (replied image now c (suc at) known slots operands below h.rest (Own c.x l)
          (object_made place (record { instance = c.x; literal = l; values = captured.0 ++ vs }) w) w fs r q.1
          (made_answers l (captured.0 ++ vs) values) h.pushes)
