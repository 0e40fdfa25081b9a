-- The machine replies to operators and to operations on grants as the meaning does.
use Rattle.std.proofs.Common.{◌≡◌, ℕ, Bool, true, false, not, ◌&&◌, List, [], ◌∷◌, length, Option, Some, None, refl, sym, ap, ◌∙◌, subst, nat_lt, if◌then◌else◌}
use Rattle.wy_text.specs.declared.fault.Place.{Place}
use Rattle.wy_types.specs.Program.{Program}
use Rattle.wy_device.specs.declared.deed.Event.{Event}
use Rattle.wy_device.specs.declared.operation.Answer.{Answer}
use Rattle.wy_device.specs.declared.operation.Answer.TheVariants as answer
use Rattle.wy_device.specs.declared.operation.Op.{Op}
use Rattle.wy_device.specs.Editions.{Edition, current}
use Rattle.wy_device.specs.Operators.{Computed, GivesNumber, GivesTruth, Builds, Traps, Misfits, operate}
use Rattle.wy_device.specs.Requests.{operation_of, has_good_name, answers_text, Told, Answers as AnswersWith, Fails, Waits, asked}
use Rattle.wy_device.specs.RunEnds.{RunEnd, Trap, Waiting, Wrong}
use Rattle.wy_device.specs.Tapes.{Tapes}
use Rattle.wy_device.specs.Traps.{most_texts, BadName, Crowded}
use Rattle.wy_meaning.specs.Values.{Value, Int, Truth, Nothing, Text, World, replied, stopped, text_built}
use Rattle.wy_meaning.specs.Starts.{Starts, GrantIs}
use Rattle.wy_meaning.specs.Eval.{Sight}
use Rattle.wy_meaning.specs.Operating.{computed, operated}
use Rattle.wy_meaning.specs.Performing.{text_of, with_text as with_first_text, texts_of, value_answered, answered, requested, requested_of, perform}
use Rattle.wy_meaning.specs.Results.{Result, stop, told, settle}
use Rattle.wy_code.specs.declared.code.Grant.{Grant as CodeGrant}
use Rattle.wy_code.specs.declared.instruction.Operator.{Operator as CodeOperator}
use Rattle.wy_code.specs.Stores as word
use Rattle.wy_code.specs.Stores.{Word, Store, Replies, Ends as EndsRun}
use Rattle.wy_code.specs.Operations as code
use Rattle.wy_code.specs.Operations.{operator_meant, with_first, operand_text, texts_named, deed_event}
use Rattle.wy_lower.specs.Inside.{Inside}
use Rattle.wy_lower.proofs.Addresses.{Answers, replied_answers, stopped_answers, wrong_answers}
use Rattle.wy_lower.proofs.Looking.{get_last}
use Rattle.wy_lower.proofs.Ready.{Ready, Fine, ready_after}
use Rattle.wy_lower.proofs.Relation.{Same, same_int, same_truth, same_nothing, same_text, same_object, same_grant, SameAll, none_same, more_same, operands_are}
use Rattle.wy_lower.proofs.Worlds.{answered_world, answered_store, answer_taken, answer_later, text_world, text_added, text_later}

------------------------------------------------------------
-- Texts among arguments

pub text_named : (m : Store) (v : Value) (z : Word) → Same m.texts v z → operand_text (word.operand m z) ≡ text_of v
text_named m v z (same_int n) = refl
text_named m v z (same_truth b) = refl
text_named m v z same_nothing = refl
text_named m v z (same_text bytes k e) = ap (λ o. operand_text (word.bytes_found o)) e
text_named m v z (same_object a) = refl
text_named m v z (same_grant g) = refl

first_with : (o : Option (List ℕ)) (r : Option (List (List ℕ))) → with_first o r ≡ with_first_text o r
first_with None r = refl
first_with (Some b) None = refl
first_with (Some b) (Some r) = refl

pub texts_are_named : (m : Store) (vs : List Value) (zs : List Word) → SameAll m.texts vs zs → texts_named m zs ≡ texts_of vs
texts_are_named m vs zs none_same = refl
texts_are_named m vs zs (more_same v z us ys h r) =
    ap (λ o. with_first o (texts_named m ys)) (text_named m v z h)
    ∙ ap (with_first (text_of v)) (texts_are_named m us ys r)
    ∙ first_with (text_of v) (texts_of us)

-- the code's grant has the name and the primitive type that the program's has
abbrev pub HasGrant : GrantIs → Option CodeGrant → Type 0
HasGrant y o = o ≡ Some (record { name = y.name; primitive = y.primitive })

module _ (p : Program) (s : Starts) (i : Inside) (x : ℕ) (sight : Sight) (w0 : World) (m0 : Store) (slots : List Word) where
  -- the machine replies as the result says, with a word for its value
  abbrev pub Fits : Result Value → word.Reply → Type 0
  Fits r a = Answers (Fine p s i x sight w0 m0) slots r a

  stop_fits : (e : RunEnd) (w : World) → Fits (stop e w) (EndsRun e [])
  unfolding stop
  stop_fits e w = record { by = (refl, λ ne. refl) }

  wrong_fits : (w : World) (a : word.Reply) → Fits (stop Wrong w) a
  unfolding stop
  wrong_fits w a = record { by = (refl, λ ne. absurd (ne refl)) }

  told_stop_fits : (d : Event) (e : RunEnd) (w : World) → Fits (told d (stop e w)) (EndsRun e (d ∷ []))
  unfolding told stop
  told_stop_fits d e w = record { by = (refl, λ ne. refl) }

  told_replied_fits : (d : Event) (v : Value) (w : World) (z : Word) (m : Store) →
      Fine p s i x sight w0 m0 v w (record { word = z; store = m; slots = slots }) → Fits (told d (settle (replied v w))) (Replies z m (d ∷ []))
  unfolding told settle
  told_replied_fits d v w z m f = record { by = (refl, z, m, f, refl) }

  module _ (w : World) (m : Store) (r : Ready p s i x sight w0 m0 w m slots) where
    plain_fine : (v : Value) (z : Word) → Same m.texts v z → Fine p s i x sight w0 m0 v w (record { word = z; store = m; slots = slots })
    plain_fine v z h = record { same = h; ready = r }

    -- a word that is there
    pub replied_fits : (v : Value) (z : Word) → Same m.texts v z → Fits (settle (replied v w)) (Replies z m [])
    replied_fits v z h = replied_answers _ slots v w z m (plain_fine v z h)

    text_fine : (bytes : List ℕ) → Fine p s i x sight w0 m0 (Text bytes) (text_world w)
        (record { word = word.Text (length m.texts); store = word.with_text bytes m; slots = slots })
    text_fine bytes = record {
      same = same_text bytes (length m.texts) (get_last m.texts bytes);
      ready = ready_after p s i x sight w0 m0 w m _ _ slots r (text_added p s w m bytes r.world) (text_later p s w m bytes);
    }

    built_fits : (place : Place) (bytes : List ℕ) → Fits (settle (text_built place bytes w)) (word.text_built place bytes m)
    built_fits place bytes =
        subst (λ (k : ℕ). Fits (settle (text_built place bytes w))
        (if nat_lt k most_texts then Replies (word.Text (length m.texts)) (word.with_text bytes m) [] else EndsRun (Trap Crowded place) []))
        r.world.built (of (nat_lt w.built most_texts))
      where
        of : (b : Bool) → Fits (settle (if b then replied (Text bytes) (text_world w) else stopped (Trap Crowded place) w))
            (if b then Replies (word.Text (length m.texts)) (word.with_text bytes m) [] else EndsRun (Trap Crowded place) [])
        of true = replied_answers _ slots (Text bytes) (text_world w) (word.Text (length m.texts)) (word.with_text bytes m) (text_fine bytes)
        of false = stopped_answers _ slots (Trap Crowded place) w

    computed_fits : (place : Place) (c : Computed) → Fits (settle (computed place w c)) (code.computed place m c)
    computed_fits place (GivesNumber n) = replied_fits (Int n) (word.Int n) (same_int n)
    computed_fits place (GivesTruth b) = replied_fits (Truth b) (word.Truth b) (same_truth b)
    computed_fits place (Builds bytes) = built_fits place bytes
    computed_fits place (Traps kind) = stopped_answers _ slots (Trap kind place) w
    computed_fits place Misfits = wrong_answers _ slots w _

    pub operated_fits : s.edition ≡ current → (place : Place) (o : CodeOperator) (vs : List Value) (zs : List Word) → SameAll m.texts vs zs →
        Fits (settle (operated s.edition place (Some (operator_meant o)) vs w)) (code.operated place o zs m)
    operated_fits now place o vs zs h =
        subst (λ (d : Edition). Fits (settle (operated d place (Some (operator_meant o)) vs w)) (code.operated place o zs m)) (sym now)
        (subst (λ c. Fits (settle (operated current place (Some (operator_meant o)) vs w)) (code.computed place m (operate (operator_meant o) c)))
        (sym (operands_are m vs zs h))
        (computed_fits place _))

    ------------------------------------------------------------
    -- Operations on grants

    answer_ready : (tapes : Tapes) → Ready p s i x sight w0 m0 (answered_world w tapes) (answered_store m tapes) slots
    answer_ready tapes = ready_after p s i x sight w0 m0 w m _ _ slots r (answer_taken p s w m tapes r.world) (answer_later p s w m tapes)

  -- an answer, after the deed
  answered_fits : (w : World) (m : Store) → Ready p s i x sight w0 m0 w m slots → (d : Event) (a : Answer) →
      Fits (told d (settle (value_answered a w))) (code.word_answered a m (d ∷ []))
  answered_fits w m r d (answer.Bytes bytes) = told_replied_fits d (Text bytes) _ _ _ (text_fine w m r bytes)
  answered_fits w m r d (answer.Truth b) = told_replied_fits d (Truth b) w (word.Truth b) m (plain_fine w m r (Truth b) (word.Truth b) (same_truth b))
  answered_fits w m r d (answer.Number k) = told_replied_fits d (Int k) w (word.Int k) m (plain_fine w m r (Int k) (word.Int k) (same_int k))
  answered_fits w m r d answer.Unit = told_replied_fits d Nothing w word.Nothing m (plain_fine w m r Nothing word.Nothing same_nothing)

  module _ (w : World) (m : Store) (r : Ready p s i x sight w0 m0 w m slots) where
    told_fits : (grant : List ℕ) (op : Op) (t : Told) → Fits (answered grant op w t) (code.answered grant op m t)
    told_fits grant op (AnswersWith a tapes) = answered_fits (answered_world w tapes) (answered_store m tapes) (answer_ready w m r tapes) _ a
    told_fits grant op (Fails tapes) = told_stop_fits _ _ _
    told_fits grant op Waits = stop_fits Waiting w

    either_fits : (b : Bool) (q q' : Result Value) (a a' : word.Reply) → Fits q a → Fits q' a' → Fits (if b then q else q') (if b then a else a')
    either_fits true q q' a a' h k = h
    either_fits false q q' a a' h k = k

    -- where the meaning is of some operation
    asked_fits : (place : Place) (grant : List ℕ) (op : Op) → Fits (requested current place grant w (Some op)) (code.requested place grant m (Some op))
    asked_fits place grant op =
        either_fits (not (has_good_name op)) _ _ _ _ (stop_fits (Trap BadName place) w)
        (subst (λ (k : ℕ).
        Fits (if answers_text op && not (nat_lt w.built most_texts) then stop (Trap Crowded place) w else answered grant op w (asked op w.tapes))
        (if answers_text op && not (nat_lt k most_texts) then EndsRun (Trap Crowded place) [] else code.answered grant op m
        (asked op m.tapes))) r.world.built
        (either_fits (answers_text op && not (nat_lt w.built most_texts)) _ _ _ _ (stop_fits (Trap Crowded place) w)
        (subst (λ (t : Tapes). Fits (answered grant op w (asked op w.tapes)) (code.answered grant op m (asked op t))) r.world.tapes
        (told_fits grant op (asked op w.tapes)))))

    -- the machine has the grant, and the method's name
    pub performed_fits : s.edition ≡ current → (place : Place) (g : Option GrantIs) (h : Option CodeGrant) (method : List ℕ)
        (name : Option (List ℕ)) (vs : List Value) (zs : List Word) → SameAll m.texts vs zs → ((y : GrantIs) → g ≡ Some y → HasGrant y h) →
        name ≡ Some method → Fits (perform s.edition place g method vs w) (code.performed place h name zs m)
    unfolding perform
    performed_fits now place g h method name vs zs same grant there =
        subst (λ (d : Edition). Fits (requested_of d place g method w (texts_of vs)) (code.performed place h name zs m)) (sym now) (of_grant g refl)
      where
        of_op : (y : GrantIs) (ts : List (List ℕ)) (op : Option Op) → operation_of y.primitive method ts ≡ op →
            Fits (requested current place y.name w op) (code.requested_of place (record { name = y.name; primitive = y.primitive }) m name (Some ts))
        of_op y ts None e = wrong_fits w _
        of_op y ts (Some op) e =
            subst (λ o. Fits (requested current place y.name w (Some op))
            (code.requested_of place (record { name = y.name; primitive = y.primitive }) m o (Some ts))) (sym there)
            (subst (λ o. Fits (requested current place y.name w (Some op)) (code.requested place y.name m o)) (sym e) (asked_fits place y.name op))

        of_texts : (y : GrantIs) (o : Option (List (List ℕ))) → texts_named m zs ≡ o →
            Fits (requested_of current place (Some y) method w o)
            (code.requested_of place (record { name = y.name; primitive = y.primitive }) m name (texts_named m zs))
        of_texts y None e = wrong_fits w _
        of_texts y (Some ts) e =
            subst (λ o. Fits (requested current place y.name w (operation_of y.primitive method ts))
            (code.requested_of place (record { name = y.name; primitive = y.primitive }) m name o)) (sym e) (of_op y ts _ refl)

        of_grant : (o : Option GrantIs) → g ≡ o → Fits (requested_of current place o method w (texts_of vs)) (code.performed place h name zs m)
        of_grant None e = wrong_fits w _
        of_grant (Some y) e =
            subst (λ c. Fits (requested_of current place (Some y) method w (texts_of vs)) (code.performed place c name zs m)) (sym (grant y e))
            (subst (λ o. Fits (requested_of current place (Some y) method w o)
            (code.requested_of place (record { name = y.name; primitive = y.primitive }) m name (texts_named m zs))) (texts_are_named m vs zs same)
            (of_texts y _ refl))
