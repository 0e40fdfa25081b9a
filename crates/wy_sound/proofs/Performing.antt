-- A method that is called on a grant traps, waits, fails, or does its operation and gives what the operation answers.
use Rattle.std.proofs.Common.{◌≡◌, ℕ, zero, suc, ◌-◌, ◌<◌, Bool, true, false, not, ◌&&◌, List, [], ◌∷◌, length, replicate, inl, refl, sym, ap, ◌∙◌, subst, Option, Some, None, arith, nat_lt}
use Rattle.std.specs.Prelude.{slice_get, if◌then◌else◌}
use Rattle.wy_text.specs.declared.fault.AtomName.{AtomName}
use Rattle.wy_text.specs.declared.fault.Place.{Place}
use Rattle.wy_types.specs.declared.linked.Actual.TheVariants as actual
use Rattle.wy_types.specs.Program.{Program, Scope}
use Rattle.wy_types.specs.Signature.{Signature, find_method}
use Rattle.wy_types.specs.Primitive.{first_declared}
use Rattle.wy_types.specs.Core.{IsCore}
use Rattle.wy_types.specs.Ground.{names_of}
use Rattle.wy_rules.specs.GroundTypes.{GroundType, Int as Ints, Bool as Truths, Text as Texts, Nothing as Nothings, ground_methods}
use Rattle.wy_device.specs.declared.operation.Kind.{Kind}
use Rattle.wy_device.specs.declared.operation.Op.{Op}
use Rattle.wy_device.specs.declared.operation.OpName.{OpName}
use Rattle.wy_device.specs.declared.operation.OpName.TheVariants as name
use Rattle.wy_device.specs.declared.operation.Answer.{Answer}
use Rattle.wy_device.specs.declared.operation.Answer.TheVariants as answer
use Rattle.wy_device.specs.Editions.{current, primitive_numbered}
use Rattle.wy_device.specs.Operation.{name_of, kind_of, member_named}
use Rattle.wy_device.specs.Primitives.{operations_of}
use Rattle.wy_device.specs.Requests.{operation_given, operation_of, has_good_name, answers_text, is_text_up_to, is_truth, is_number, is_done, fits_within, Answers, Fails, Waits, tape_of, with_tape, told_by, asked_within}
use Rattle.wy_device.specs.RunEnds.{Trap, Waiting}
use Rattle.wy_device.specs.Tapes.{Tapes}
use Rattle.wy_device.specs.Traps.{text_limit, most_texts, BadName, Crowded}
use Rattle.wy_meaning.specs.Values.{Value, Thing, World}
use Rattle.wy_meaning.specs.Starts.{scope_names, last_scope, primitive_of_type, grant_of_primitive, grant_from, grant_named, grant_of}
use Rattle.wy_meaning.specs.Results.{stop, told, settle}
use Rattle.wy_meaning.specs.Performing.{texts_of, with_text, text_of, deed, answered, requested, requested_of, perform}
use Rattle.wy_sound.specs.Arguments.{actual_type, IsThere}
use Rattle.wy_sound.proofs.Effects.{HasDeed, kept_deed, kept_held}
use Rattle.wy_sound.specs.TypedHeaps.{AllHave, WellHeap}
use Rattle.wy_sound.proofs.Heaps.{extends_refl}
use Rattle.wy_sound.proofs.BaseTypes.{IsGrant, is_grant, grant_kind, sets_put, text_value}
use Rattle.wy_sound.proofs.Operations.{arity_of, answer_kind, primitive_of_number, operation_method, primitive_methods, operation_found, operation_there, operation_atom}
use Rattle.wy_sound.proofs.Results.{Sound, Valued, stays_same, stop_sound}

------------------------------------------------------------
-- The grant of a number

pub names_same : (o : Option Scope) → scope_names o ≡ names_of o
names_same None = refl
names_same (Some s) = refl

-- the program is the last scope
pub last_number : (ss : List Scope) → last_scope ss ≡ length ss - 1
last_number [] = refl
last_number (s ∷ []) = refl
last_number (s ∷ t ∷ ss) = let h = last_number (t ∷ ss) in omega (arith, h)

primitive_there : (d : ℕ) → d < first_declared → primitive_numbered current d ≡ Some (primitive_of_number d)
primitive_there zero lt = refl
primitive_there (suc zero) lt = refl
primitive_there (suc (suc zero)) lt = refl
primitive_there (suc (suc (suc zero))) lt = refl
primitive_there (suc (suc (suc (suc zero)))) lt = refl
primitive_there (suc (suc (suc (suc (suc d))))) lt = absurd (omega arith)

grant_there : (p : Program) (g : ℕ) (h : IsGrant p g) →
    grant_of current p g ≡ Some (record { name = h.name.name; primitive = primitive_of_number h.number })
grant_there p g h =
    ap (λ l. grant_named current (slice_get (scope_names (slice_get p.scopes l)) g)) (last_number p.scopes) ∙
    ap (λ ns. grant_named current (slice_get ns g)) (names_same (slice_get p.scopes (length p.scopes - 1))) ∙
    ap (grant_named current) h.there ∙ ap (λ o. grant_from current o h.name) h.origin ∙
    ap (λ t. grant_of_primitive h.name.name (primitive_of_type current t)) h.typ ∙
    ap (grant_of_primitive h.name.name) (primitive_there h.number h.primitive)

------------------------------------------------------------
-- Answers that an operation takes

abbrev IsAnsweredAs : Answer → GroundType → Type 0
IsAnsweredAs (answer.Bytes text) k = k ≡ Texts
IsAnsweredAs (answer.Truth truth) k = k ≡ Truths
IsAnsweredAs (answer.Number number) k = k ≡ Ints
IsAnsweredAs answer.Unit k = k ≡ Nothings

text_answered : (n : ℕ) (a : Answer) → is_text_up_to n a ≡ true → IsAnsweredAs a Texts
text_answered n (answer.Bytes text) e = refl
text_answered n (answer.Truth truth) e = absurd cc
text_answered n (answer.Number number) e = absurd cc
text_answered n answer.Unit e = absurd cc

truth_answered : (a : Answer) → is_truth a ≡ true → IsAnsweredAs a Truths
truth_answered (answer.Bytes text) e = absurd cc
truth_answered (answer.Truth truth) e = refl
truth_answered (answer.Number number) e = absurd cc
truth_answered answer.Unit e = absurd cc

number_answered : (a : Answer) → is_number a ≡ true → IsAnsweredAs a Ints
number_answered (answer.Bytes text) e = absurd cc
number_answered (answer.Truth truth) e = absurd cc
number_answered (answer.Number number) e = refl
number_answered answer.Unit e = absurd cc

done_answered : (a : Answer) → is_done a ≡ true → IsAnsweredAs a Nothings
done_answered (answer.Bytes text) e = absurd cc
done_answered (answer.Truth truth) e = absurd cc
done_answered (answer.Number number) e = absurd cc
done_answered answer.Unit e = refl

fitting_answered : (o : OpName) (a : Answer) → fits_within text_limit o a ≡ true → IsAnsweredAs a (answer_kind o)
fitting_answered name.ConsoleRead a e = text_answered 65536 a e
fitting_answered name.ConsoleWrite a e = done_answered a e
fitting_answered name.FolderRead a e = text_answered text_limit a e
fitting_answered name.FolderHas a e = truth_answered a e
fitting_answered name.FolderWrite a e = done_answered a e
fitting_answered name.FolderAppend a e = done_answered a e
fitting_answered name.FolderNames a e = text_answered text_limit a e
fitting_answered name.ClockNow a e = number_answered a e
fitting_answered name.RandomWord a e = number_answered a e
fitting_answered name.FolderRemove a e = done_answered a e

module _ (p : Program) (now : ℕ) where
  module _ (f : List ℕ) (grant : List ℕ) (op : Op) (has : (a : Option Answer) → HasDeed p f (deed grant op a)) (w : World)
      (wh : WellHeap p now w.objects) (k : GroundType) where
    -- an answer that is taken
    taken_sound : (a : Answer) (tapes : Tapes) → IsAnsweredAs a k → Sound p now f w (Valued p now k) (answered grant op w (Answers a tapes))
    unfolding told settle
    taken_sound (answer.Bytes text) tapes e =
        record { by = (extends_refl p now w.objects, wh, kept_deed p f _ (has (Some (answer.Bytes text))), inl (sym e)) }
    taken_sound (answer.Truth truth) tapes e =
        record { by = (extends_refl p now w.objects, wh, kept_deed p f _ (has (Some (answer.Truth truth))), inl (sym e)) }
    taken_sound (answer.Number number) tapes e =
        record { by = (extends_refl p now w.objects, wh, kept_deed p f _ (has (Some (answer.Number number))), inl (sym e)) }
    taken_sound answer.Unit tapes e = record { by = (extends_refl p now w.objects, wh, kept_deed p f _ (has (Some answer.Unit)), inl (sym e)) }

    failed_sound : (tapes : Tapes) → Sound p now f w (Valued p now k) (answered grant op w (Fails tapes))
    unfolding told stop
    failed_sound tapes = record { by = ((λ e. cc), kept_held p f _ (kept_deed p f _ (has None)), stays_same p now w wh) }

    waits_sound : Sound p now f w (Valued p now k) (answered grant op w Waits)
    waits_sound = stop_sound p now f w (Valued p now k) Waiting (λ e. cc) wh

    told_sound : (o : OpName) (kind : Kind) (tape : List (Option Answer)) (tapes : Tapes) → answer_kind o ≡ k →
        Sound p now f w (Valued p now k) (answered grant op w (told_by text_limit o kind tape tapes))
    told_sound o kind [] tapes e = waits_sound
    told_sound o kind (None ∷ tape) tapes e = failed_sound (with_tape kind tape tapes)
    told_sound o kind (Some a ∷ tape) tapes e = of_test (fits_within text_limit o a) refl
      where
        of_test : (b : Bool) → fits_within text_limit o a ≡ b →
            Sound p now f w (Valued p now k) (answered grant op w (if b then Answers a (with_tape kind tape tapes) else Waits))
        of_test true t = taken_sound a (with_tape kind tape tapes) (subst (IsAnsweredAs a) e (fitting_answered o a t))
        of_test false t = waits_sound

    requested_sound : (place : Place) → answer_kind (name_of op) ≡ k → Sound p now f w (Valued p now k) (requested current place grant w (Some op))
    requested_sound place e = of_name (not (has_good_name op))
      where
        of_room : (b : Bool) → Sound p now f w (Valued p now k) (if b then stop (Trap Crowded place) w else answered grant op w (asked_within text_limit op w.tapes))
        of_room true = stop_sound p now f w (Valued p now k) (Trap Crowded place) (λ e. cc) wh
        of_room false = told_sound (name_of op) (kind_of op) (tape_of (kind_of op) w.tapes) w.tapes e

        of_name : (b : Bool) → Sound p now f w (Valued p now k)
            (if b then stop (Trap BadName place) w else if answers_text op && not (nat_lt w.built most_texts) then stop
            (Trap Crowded place) w else answered grant op w (asked_within text_limit op w.tapes))
        of_name true = stop_sound p now f w (Valued p now k) (Trap BadName place) (λ e. cc) wh
        of_name false = of_room (answers_text op && not (nat_lt w.built most_texts))

  module _ (core : IsCore p) where
    -- texts are texts
    texts_typed : (h : List Thing) (n : ℕ) (vs : List Value) → AllHave p now h vs (replicate n Texts) →
        (texts : List (List ℕ)) × (texts_of vs ≡ Some texts) × (length texts ≡ n)
    texts_typed h zero [] q = ([], refl, refl)
    texts_typed h zero (v ∷ vs) q = absurd q
    texts_typed h (suc n) [] q = absurd q
    texts_typed h (suc n) (v ∷ vs) q =
        let t = text_value p core now h v q.0 in
        let r = texts_typed h n vs q.1 in
        (t.0 ∷ r.0, ap (λ v. with_text (text_of v) (texts_of vs)) t.1 ∙ ap (with_text (Some t.0)) r.1, ap suc r.2)

    pub perform_sound : (g : ℕ) → IsThere p now (actual.Grant g) →
        (place : Place) (method : List ℕ) (vs : List Value) (w : World) (m : Signature GroundType) →
        find_method method (ground_methods p (actual_type p (actual.Grant g))) ≡ Some m → AllHave p now w.objects vs m.params →
        WellHeap p now w.objects →
        Sound p now m.effect w (Valued p now m.result) (perform current place (grant_of current p g) method vs w)
    unfolding perform
    perform_sound g there place method vs w m found q wh =
        let h = is_grant p core now g there in
        let sets : List (List ℕ) = sets_put p h.members in
        let table = ap (ground_methods p) (grant_kind p g h) ∙ primitive_methods p core h.number sets h.primitive in
        let r = operation_found sets (operations_of (primitive_of_number h.number)) method m (ap (find_method method) (sym table) ∙ found) in
        let o : OpName = r.0 in
        let t = texts_typed w.objects (arity_of o) vs (subst (λ (m : Signature GroundType). AllHave p now w.objects vs m.params) (sym r.2) q) in
        let u = operation_there o t.0 t.2 in
        let called : operation_of (primitive_of_number h.number) method t.0 ≡ Some u.0 = ap (λ c. operation_given c t.0) r.1 ∙ u.1 in
        let has : (a : Option Answer) → HasDeed p (operation_method sets o).effect (deed h.name.name u.0 a) = λ a. record {
          atom = λ fit. let s = operation_atom p core g h o r.3 fit in
              (s.0, s.1, s.2 ∙ ap (λ o. let v : AtomName = record { owner = h.name.name; member = member_named o } in v) (sym u.2));
        } in
        let done : Sound p now (operation_method sets o).effect w (Valued p now (answer_kind o)) (requested current place h.name.name w (Some u.0)) =
        requested_sound (operation_method sets o).effect h.name.name u.0 has w wh (answer_kind o) place (ap answer_kind u.2) in
        subst (λ (m : Signature GroundType). Sound p now m.effect w (Valued p now m.result)
        (requested_of current place (grant_of current p g) method w (texts_of vs))) r.2
        (subst (λ c. Sound p now (operation_method sets o).effect w (Valued p now (answer_kind o)) (requested_of current place c method w (texts_of vs)))
        (sym (grant_there p g h))
        (subst (λ c. Sound p now (operation_method sets o).effect w (Valued p now (answer_kind o))
        (requested_of current place (Some (record { name = h.name.name; primitive = primitive_of_number h.number })) method w c)) (sym t.1)
        (subst (λ c. Sound p now (operation_method sets o).effect w (Valued p now (answer_kind o)) (requested current place h.name.name w c))
        (sym called) done)))
