-- What operators, and calls on grants, come to: a word of the type that the rule says and events that every open call
-- allows, or an end.
use Rattle.std.proofs.Common.{◌≡◌, ℕ, zero, suc, Bool, true, false, not, ◌&&◌, List, [], ◌∷◌, ◌++◌, length, map}
use Rattle.std.proofs.Common.{replicate, inl, inr, refl, sym, ap, ◌∙◌, subst, Option, Some, None, All, Contains, arith}
use Rattle.std.proofs.Common.{nat_lt}
use Rattle.std.specs.Prelude.{slice_get, bytes_eq, if◌then◌else◌}
use Rattle.wy_text.specs.declared.fault.AtomName.{AtomName}
use Rattle.wy_text.specs.declared.fault.Place.{Place}
use Rattle.wy_device.specs.declared.deed.Event.{Event}
use Rattle.wy_device.specs.declared.operation.Kind.{Kind as DeviceKind}
use Rattle.wy_device.specs.declared.primitive.Primitive.{Primitive}
use Rattle.wy_device.specs.declared.primitive.Primitive.TheVariants.{Console, Folder, Clock, Random, FullFolder}
use Rattle.wy_device.specs.declared.operation.Op.{Op}
use Rattle.wy_device.specs.declared.operation.OpName.{OpName}
use Rattle.wy_device.specs.declared.operation.OpName.TheVariants as name
use Rattle.wy_device.specs.declared.operation.Answer.{Answer}
use Rattle.wy_device.specs.declared.operation.Answer.TheVariants as answer
use Rattle.wy_device.specs.Operation.{name_of, kind_of, member_named, method_text}
use Rattle.wy_device.specs.Operators.{Computed, GivesNumber, GivesTruth, Builds, Traps, Misfits, operate}
use Rattle.wy_device.specs.Primitives.{operations_of}
use Rattle.wy_device.specs.Requests.{operation_called, operation_on, operation_given, operation_of, has_good_name}
use Rattle.wy_device.specs.Requests.{answers_text, is_text_up_to, is_truth, is_number, is_done, fits_within}
use Rattle.wy_device.specs.Requests.{Answers as Tells, Waits, tape_of, with_tape, told_by}
use Rattle.wy_device.specs.RunEnds.{Wrong}
use Rattle.wy_device.specs.Tapes.{Tapes}
use Rattle.wy_device.specs.Traps.{most_texts, text_limit}
use Rattle.wy_code.specs.declared.code.Grant.{Grant as CodeGrant}
use Rattle.wy_code.specs.declared.instruction.Operator.{Operator}
use Rattle.wy_code.specs.Stores.{Word, Store, Reply, Replies, Ends, operand, with_text, text_built}
use Rattle.wy_code.specs.Operations.{operator_meant, computed, operated, operand_text, with_first, texts_named}
use Rattle.wy_code.specs.Operations.{deed_event, answered, requested, requested_of, performed}
use Rattle.wy_image.specs.declared.typing.Atom.{Atom}
use Rattle.wy_verified.specs.Images.{Image}
use Rattle.wy_meaning.specs.Bounds.{Call, BoundedFrom}
use Rattle.wy_verified.specs.Kinds.{Kind, Ints, Truths, Texts, Units, In, MethodType, text_count, answer_kind}
use Rattle.wy_verified.specs.Kinds.{member_number, operation_method, granted_method}
use Rattle.wy_verified.specs.Rules.{operand_kinds, result_kind, IsCompared}
use Rattle.wy_verified.specs.Members.{members_of}
use Rattle.wy_verified.specs.Laws.{member_called, atom_in, authority_of}
use Rattle.wy_verified.proofs.Lists.{some_same, length_more}
use Rattle.wy_verified.proofs.Below.{below_same}
use Rattle.wy_verified.proofs.Heaps.{Has, AllHave, Grows, grows_refl, HeapAt, heap_texts}
use Rattle.wy_verified.proofs.Operating.{Gives, operate_gives, see_all, text_operand}

------------------------------------------------------------
-- Operations and their members

called_in : (m : List ℕ) (os : List OpName) (o : OpName) → operation_called m os ≡ Some o → In o os
called_in m [] o e = absurd cc
called_in m (p ∷ ps) o e = by_case (λ f. called_in m ps o f) (bytes_eq (method_text p) m) refl
  where
    by_case : (operation_called m ps ≡ Some o → In o ps) → (c : Bool) → bytes_eq (method_text p) m ≡ c → In o (p ∷ ps)
    by_case later true f = inl (some_same (sym (ap (λ c. if c then Some p else operation_called m ps) f) ∙ e))
    by_case later false f = inr (later (sym (ap (λ c. if c then Some p else operation_called m ps) f) ∙ e))

abbrev HasMember : Primitive → OpName → Type 0
HasMember k o = slice_get (members_of k) (member_number o) ≡ Some (member_named o)

has_member : (k : Primitive) (o : OpName) → In o (operations_of k) → HasMember k o
has_member Console o (inl e) = subst (HasMember Console) e refl
has_member Console o (inr (inl e)) = subst (HasMember Console) e refl
has_member Console o (inr (inr h)) = absurd h
has_member Folder o (inl e) = subst (HasMember Folder) e refl
has_member Folder o (inr (inl e)) = subst (HasMember Folder) e refl
has_member Folder o (inr (inr (inl e))) = subst (HasMember Folder) e refl
has_member Folder o (inr (inr (inr (inl e)))) = subst (HasMember Folder) e refl
has_member Folder o (inr (inr (inr (inr (inl e))))) = subst (HasMember Folder) e refl
has_member Folder o (inr (inr (inr (inr (inr h))))) = absurd h
has_member Clock o (inl e) = subst (HasMember Clock) e refl
has_member Clock o (inr h) = absurd h
has_member Random o (inl e) = subst (HasMember Random) e refl
has_member Random o (inr h) = absurd h
has_member FullFolder o (inl e) = subst (HasMember FullFolder) e refl
has_member FullFolder o (inr (inl e)) = subst (HasMember FullFolder) e refl
has_member FullFolder o (inr (inr (inl e))) = subst (HasMember FullFolder) e refl
has_member FullFolder o (inr (inr (inr (inl e)))) = subst (HasMember FullFolder) e refl
has_member FullFolder o (inr (inr (inr (inr (inl e))))) = subst (HasMember FullFolder) e refl
has_member FullFolder o (inr (inr (inr (inr (inr (inl e)))))) = subst (HasMember FullFolder) e refl
has_member FullFolder o (inr (inr (inr (inr (inr (inr h)))))) = absurd h

abbrev IsOn : OpName → List (List ℕ) → Type 0
IsOn o texts = (op : Op) × (operation_on o texts ≡ Some op) × (name_of op ≡ o)

is_on : (o : OpName) (texts : List (List ℕ)) → length texts ≡ text_count o → IsOn o texts
is_on name.ConsoleRead [] e = (_, refl, refl)
is_on name.ConsoleRead (t ∷ ts) e = absurd (omega arith)
is_on name.ConsoleWrite [] e = absurd (omega arith)
is_on name.ConsoleWrite (t ∷ []) e = (_, refl, refl)
is_on name.ConsoleWrite (t ∷ u ∷ ts) e = absurd (omega arith)
is_on name.FolderRead [] e = absurd (omega arith)
is_on name.FolderRead (t ∷ []) e = (_, refl, refl)
is_on name.FolderRead (t ∷ u ∷ ts) e = absurd (omega arith)
is_on name.FolderHas [] e = absurd (omega arith)
is_on name.FolderHas (t ∷ []) e = (_, refl, refl)
is_on name.FolderHas (t ∷ u ∷ ts) e = absurd (omega arith)
is_on name.FolderWrite [] e = absurd (omega arith)
is_on name.FolderWrite (t ∷ []) e = absurd (omega arith)
is_on name.FolderWrite (t ∷ u ∷ []) e = (_, refl, refl)
is_on name.FolderWrite (t ∷ u ∷ x ∷ ts) e = absurd (omega arith)
is_on name.FolderAppend [] e = absurd (omega arith)
is_on name.FolderAppend (t ∷ []) e = absurd (omega arith)
is_on name.FolderAppend (t ∷ u ∷ []) e = (_, refl, refl)
is_on name.FolderAppend (t ∷ u ∷ x ∷ ts) e = absurd (omega arith)
is_on name.FolderNames [] e = (_, refl, refl)
is_on name.FolderNames (t ∷ ts) e = absurd (omega arith)
is_on name.ClockNow [] e = (_, refl, refl)
is_on name.ClockNow (t ∷ ts) e = absurd (omega arith)
is_on name.RandomWord [] e = (_, refl, refl)
is_on name.RandomWord (t ∷ ts) e = absurd (omega arith)
is_on name.FolderRemove [] e = absurd (omega arith)
is_on name.FolderRemove (t ∷ []) e = (_, refl, refl)
is_on name.FolderRemove (t ∷ u ∷ ts) e = absurd (omega arith)

abbrev IsAnsweredAs : Answer → Kind → Type 0
IsAnsweredAs (answer.Bytes text) k = k ≡ Texts
IsAnsweredAs (answer.Truth truth) k = k ≡ Truths
IsAnsweredAs (answer.Number number) k = k ≡ Ints
IsAnsweredAs answer.Unit k = k ≡ Units

text_answered : (n : ℕ) (a : Answer) → is_text_up_to n a ≡ true → IsAnsweredAs a Texts
text_answered n (answer.Bytes text) e = refl
text_answered n (answer.Truth truth) e = absurd cc
text_answered n (answer.Number number) e = absurd cc
text_answered n answer.Unit e = absurd cc

truth_answered : (a : Answer) → is_truth a ≡ true → IsAnsweredAs a Truths
truth_answered (answer.Bytes text) e = absurd cc
truth_answered (answer.Truth truth) e = refl
truth_answered (answer.Number number) e = absurd cc
truth_answered answer.Unit e = absurd cc

number_answered : (a : Answer) → is_number a ≡ true → IsAnsweredAs a Ints
number_answered (answer.Bytes text) e = absurd cc
number_answered (answer.Truth truth) e = absurd cc
number_answered (answer.Number number) e = refl
number_answered answer.Unit e = absurd cc

done_answered : (a : Answer) → is_done a ≡ true → IsAnsweredAs a Units
done_answered (answer.Bytes text) e = absurd cc
done_answered (answer.Truth truth) e = absurd cc
done_answered (answer.Number number) e = absurd cc
done_answered answer.Unit e = refl

fitting_answered : (o : OpName) (a : Answer) → fits_within text_limit o a ≡ true → IsAnsweredAs a (answer_kind o)
fitting_answered name.ConsoleRead a e = text_answered 65536 a e
fitting_answered name.ConsoleWrite a e = done_answered a e
fitting_answered name.FolderRead a e = text_answered text_limit a e
fitting_answered name.FolderHas a e = truth_answered a e
fitting_answered name.FolderWrite a e = done_answered a e
fitting_answered name.FolderAppend a e = done_answered a e
fitting_answered name.FolderNames a e = text_answered text_limit a e
fitting_answered name.ClockNow a e = number_answered a e
fitting_answered name.RandomWord a e = number_answered a e
fitting_answered name.FolderRemove a e = done_answered a e

------------------------------------------------------------
-- Replies

-- with some calls open, events allow what comes after them with other calls open
abbrev pub Later : Image → List Call → List Event → List Call → Type 0
Later image calls es after =
    (rest : List Event) → BoundedFrom (authority_of image) after rest →
    BoundedFrom (authority_of image) calls (es ++ rest)

module _ (image : Image) (now : ℕ) (calls : List Call) where
  abbrev pub Answers : Store → Kind → Reply → Type 0
  Answers w k (Replies v u es) =
      Grows image now w u × HeapAt image now u × Has image now u v k × Later image calls es calls
  Answers w k (Ends e es) = (e ≡ Wrong → ⊥) × BoundedFrom (authority_of image) calls es

  pub answers_if : (w : Store) (k : Kind) (c : Bool) (x y : Reply) → Answers w k x → Answers w k y →
      Answers w k (if c then x else y)
  answers_if w k true x y p q = p
  answers_if w k false x y p q = q

  module _ (place : Place) (w : Store) (heap : HeapAt image now w) where
    built_answers : (k : Kind) (bytes : List ℕ) → k ≡ Texts → Answers w k (text_built place bytes w)
    built_answers k bytes e =
        let u : Store = with_text bytes w in
        let g = heap_texts image now w u refl refl (let l = length_more w.texts bytes in omega (arith, l)) heap in
        answers_if w k (nat_lt w.built most_texts) _ _ (
          g.0,
          g.1,
          (let l = length_more w.texts bytes in omega (arith, l), below_same image Texts k (sym e)),
          λ rest h. h,
        ) ((λ f. cc), tt)

    computed_answers : (k : Kind) (x : Computed) → Gives k x → Answers w k (computed place w x)
    computed_answers k (GivesNumber n) g = (grows_refl image now w, heap, below_same image Ints k (sym g), λ rest h. h)
    computed_answers k (GivesTruth b) g = (grows_refl image now w, heap, below_same image Truths k (sym g), λ rest h. h)
    computed_answers k (Builds bytes) g = built_answers k bytes g
    computed_answers k (Traps kind) g = ((λ f. cc), tt)
    computed_answers k Misfits g = absurd g

    pub operated_answers : (o : Operator) (k : Kind) (vs : List Word) → IsCompared k →
        AllHave image now w vs (operand_kinds o k) →
        Answers w (result_kind o) (operated place o vs w)
    operated_answers o k vs c h =
        computed_answers (result_kind o) (operate (operator_meant o) (map (operand w) vs))
        (operate_gives o k (map (operand w) vs) c (see_all image now w vs (operand_kinds o k) h))

    ------------------------------------------------------------
    -- Calls on grants

    abbrev TextsAre : ℕ → List Word → Type 0
    TextsAre n vs = (texts : List (List ℕ)) × (texts_named w vs ≡ Some texts) × (length texts ≡ n)

    texts_are : (n : ℕ) (vs : List Word) → AllHave image now w vs (replicate n Texts) → TextsAre n vs
    texts_are zero [] h = ([], refl, refl)
    texts_are zero (v ∷ vs) h = absurd h
    texts_are (suc n) [] h = absurd h
    texts_are (suc n) (v ∷ vs) h =
        let s = text_operand image now w v h.0 in
        let r = texts_are n vs h.1 in (
          s.0 ∷ r.0,
          ap (λ o. with_first (operand_text o) (texts_named w vs)) s.1 ∙ ap (with_first (Some s.0)) r.1,
          ap suc r.2,
        )

    module _ (grant : List ℕ) (op : Op) (k : Kind)
        (allow : All (λ (call : Call). Contains (authority_of image call)
        (let n : AtomName = record { owner = grant; member = member_named (name_of op) } in n)) calls) where
      deed_later : (a : Option Answer) → Later image calls (deed_event grant op a) calls
      deed_later a rest h = (allow, h)

      word_answers : (a : Answer) (tapes : Tapes) → IsAnsweredAs a k → Answers w k (answered grant op w (Tells a tapes))
      word_answers (answer.Bytes bytes) tapes e =
          let u : Store = with_text bytes (record w { tapes = tapes }) in
          let g = heap_texts image now w u refl refl (let l = length_more w.texts bytes in omega (arith, l)) heap in (
            g.0,
            g.1,
            (let l = length_more w.texts bytes in omega (arith, l), below_same image Texts k (sym e)),
            deed_later (Some (answer.Bytes bytes)),
          )
      word_answers (answer.Truth b) tapes e =
          let u : Store = record w { tapes = tapes } in
          let g = heap_texts image now w u refl refl (omega arith) heap in
          (g.0, g.1, below_same image Truths k (sym e), deed_later (Some (answer.Truth b)))
      word_answers (answer.Number n) tapes e =
          let u : Store = record w { tapes = tapes } in
          let g = heap_texts image now w u refl refl (omega arith) heap in
          (g.0, g.1, below_same image Ints k (sym e), deed_later (Some (answer.Number n)))
      word_answers answer.Unit tapes e =
          let u : Store = record w { tapes = tapes } in
          let g = heap_texts image now w u refl refl (omega arith) heap in
          (g.0, g.1, below_same image Units k (sym e), deed_later (Some answer.Unit))

      told_answers : (o : OpName) (kind : DeviceKind) (tape : List (Option Answer)) (tapes : Tapes) →
          k ≡ answer_kind o → Answers w k (answered grant op w (told_by text_limit o kind tape tapes))
      told_answers o kind [] tapes e = ((λ f. cc), tt)
      told_answers o kind (None ∷ tape) tapes e = ((λ f. cc), (allow, tt))
      told_answers o kind (Some a ∷ tape) tapes e = fitting (fits_within text_limit o a) refl
        where
          fitting : (c : Bool) → fits_within text_limit o a ≡ c →
              Answers w k (answered grant op w (if fits_within text_limit o a then Tells a (with_tape kind tape tapes)
              else Waits))
          fitting true f =
              subst (λ (c : Bool). Answers w k (answered grant op w
              (if c then Tells a (with_tape kind tape tapes) else Waits))) (sym f)
              (word_answers a (with_tape kind tape tapes)
              (subst (λ k. IsAnsweredAs a k) (sym e) (fitting_answered o a f)))
          fitting false f =
              subst (λ (c : Bool). Answers w k (answered grant op w
              (if c then Tells a (with_tape kind tape tapes) else Waits))) (sym f) ((λ g. cc), tt)

      requested_answers : k ≡ answer_kind (name_of op) → Answers w k (requested place grant w (Some op))
      requested_answers e =
          answers_if w k (not (has_good_name op)) _ _ ((λ f. cc), tt)
          (answers_if w k (answers_text op && not (nat_lt w.built most_texts)) _ _ ((λ f. cc), tt)
          (told_answers (name_of op) (kind_of op) (tape_of (kind_of op) w.tapes) w.tapes e))

    module _ (g : ℕ) (vs : List Word) where
      -- each atom of the effect is allowed by every open call, by the names that it stands for
      abbrev pub Allowed : Option CodeGrant → List Atom → Type 0
      Allowed grant effect =
          (a : Atom) (n : AtomName) → a.grant ≡ g → In a effect → In n (atom_in grant a.member) →
          All (λ (call : Call). Contains (authority_of image call) n) calls

      on_grant : (grant : CodeGrant) (m : List ℕ) (h : MethodType) (o : OpName) →
          operation_called m (operations_of grant.primitive) ≡ Some o → operation_method g (Some o) ≡ Some h →
          AllHave image now w vs h.params → Allowed (Some grant) h.effect →
          Answers w h.result (performed place (Some grant) (Some m) vs w)
      on_grant grant m h o e s args allow =
          let stated = some_same s in
          let texts =
          texts_are (text_count o) vs (subst (λ (x : MethodType). AllHave image now w vs x.params) (sym stated)
          args) in
          let on = is_on o texts.0 texts.2 in
          let op : Op = on.0 in
          let is_op : operation_of grant.primitive m texts.0 ≡ Some op = ap (λ x. operation_given x texts.0) e ∙ on.1 in
          let atom : Atom = record { grant = g; member = member_number o } in
          let named : AtomName = record { owner = grant.name; member = member_named o } in
          let there : In atom h.effect = subst (λ (x : MethodType). In atom x.effect) stated (inl refl) in
          let member : In named (atom_in (Some grant) (member_number o)) =
          subst (λ (x : Option (List ℕ)). In named (member_called grant.name x))
          (sym (has_member grant.primitive o (called_in m (operations_of grant.primitive) o e))) (inl refl) in
          let may : All (λ (call : Call). Contains (authority_of image call) named) calls =
          allow atom named refl there member in
          let name_at : OpName → AtomName = λ p. record { owner = grant.name; member = member_named p } in
          subst (λ (x : Option (List (List ℕ))). Answers w h.result (requested_of place grant w (Some m) x))
          (sym texts.1)
          (subst (λ (x : Option Op). Answers w h.result (requested place grant.name w x)) (sym is_op)
          (requested_answers grant.name op h.result
          (subst (λ (p : OpName). All (λ (call : Call). Contains (authority_of image call) (name_at p)) calls)
          (sym on.2) may)
          (sym (ap (λ (x : MethodType). x.result) stated) ∙ ap answer_kind (sym on.2))))

      pub performed_answers : (grant : Option CodeGrant) (m : Option (List ℕ)) (h : MethodType) →
          granted_method g grant m ≡ Some h → AllHave image now w vs h.params →
          Allowed grant h.effect → Answers w h.result (performed place grant m vs w)
      performed_answers None m h e args allow = absurd cc
      performed_answers (Some grant) None h e args allow = absurd cc
      performed_answers (Some grant) (Some m) h e args allow =
          of_operation (operation_called m (operations_of grant.primitive)) refl
        where
          of_operation : (o : Option OpName) → operation_called m (operations_of grant.primitive) ≡ o →
              Answers w h.result (performed place (Some grant) (Some m) vs w)
          of_operation None f = absurd (let x = sym (ap (operation_method g) f) ∙ e in cc)
          of_operation (Some o) f = on_grant grant m h o f (sym (ap (operation_method g) f) ∙ e) args allow
