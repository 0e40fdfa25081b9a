-- Operations that are refused before memory is taken for them.
use Rattle.std.proofs.Common.{◌≡◌, ℕ, ◌<◌, Bool, true, false, not, ◌&&◌, List, [], ◌∷◌, Option, Some, None, refl, sym, ap, ◌∙◌, nat_lt, arith}
use Rattle.std.proofs.lemmas.Option.{same_Some}
use Rattle.std.specs.Prelude.{if◌then◌else◌}
use Rattle.wy_text.specs.declared.fault.Place.{Place}
use Rattle.wy_device.specs.declared.primitive.Primitive.{Primitive}
use Rattle.wy_device.specs.Primitives.{operations_of}
use Rattle.wy_device.specs.declared.operation.Op.{Op}
use Rattle.wy_device.specs.declared.operation.OpName.{OpName}
use Rattle.wy_device.specs.declared.operation.OpName.TheVariants as name
use Rattle.wy_device.specs.Requests.{operation_called, operation_given, operation_on, has_good_name, answers_text, asked}
use Rattle.wy_device.specs.RunEnds as ends
use Rattle.wy_device.specs.Traps.{most_texts}
use Rattle.wy_code.specs.Operations.{operand_text, with_first, texts_named, answered, requested}
use Rattle.wy_code.specs.Stores.{Word, Store, Reply, ended, operand}
use Rattle.wy_machine.specs.declared.run_end.TrapKind.{TrapKind}
use Rattle.wy_machine.specs.declared.run_end.TrapKind.TheVariants.{BadName, Crowded}
use Rattle.wy_machine.specs.Requesting.{asked_for, operation_with, first_text, is_well_named, is_answered_by_text, refused}
use Rattle.wy_machine.specs.TrapKinds.{trap_meant}

-- the texts make an operation of the name that the method has
pub asked_with : (primitive : Primitive) (method : List ℕ) (o : OpName) → operation_called method (operations_of primitive) ≡ Some o → (texts : Option (List (List ℕ))) →
    asked_for primitive method texts ≡ operation_with o texts
asked_with primitive method o e None = refl
asked_with primitive method o e (Some texts) = ap (λ o. operation_given o texts) e

pub asked_by_none : (primitive : Primitive) (method : List ℕ) → operation_called method (operations_of primitive) ≡ None → (texts : Option (List (List ℕ))) → None ≡ asked_for primitive method texts
asked_by_none primitive method e None = refl
asked_by_none primitive method e (Some texts) = ap (λ o. operation_given o texts) (sym e)

------------------------------------------------------------
-- What is known before the texts are copied

-- the name of an operation is its first text
named_first : (o : OpName) (first : Option (List ℕ)) (rest : Option (List (List ℕ))) (op : Op) → Some op ≡ operation_with o (with_first first rest) → has_good_name op ≡ is_well_named o first
named_first o None rest op e = cc
named_first o (Some file) None op e = cc
named_first name.FolderRead (Some file) (Some []) op e = ap has_good_name (same_Some _ _ e)
named_first name.FolderRead (Some file) (Some (x ∷ xs)) op e = cc
named_first name.FolderHas (Some file) (Some []) op e = ap has_good_name (same_Some _ _ e)
named_first name.FolderHas (Some file) (Some (x ∷ xs)) op e = cc
named_first name.FolderRemove (Some file) (Some []) op e = ap has_good_name (same_Some _ _ e)
named_first name.FolderRemove (Some file) (Some (x ∷ xs)) op e = cc
named_first name.FolderWrite (Some file) (Some []) op e = cc
named_first name.FolderWrite (Some file) (Some (text ∷ [])) op e = ap has_good_name (same_Some _ _ e)
named_first name.FolderWrite (Some file) (Some (x ∷ y ∷ xs)) op e = cc
named_first name.FolderAppend (Some file) (Some []) op e = cc
named_first name.FolderAppend (Some file) (Some (text ∷ [])) op e = ap has_good_name (same_Some _ _ e)
named_first name.FolderAppend (Some file) (Some (x ∷ y ∷ xs)) op e = cc
named_first name.ConsoleWrite (Some text) (Some []) op e = ap has_good_name (same_Some _ _ e)
named_first name.ConsoleWrite (Some text) (Some (x ∷ xs)) op e = cc
named_first name.ConsoleRead (Some text) (Some texts) op e = cc
named_first name.FolderNames (Some text) (Some texts) op e = cc
named_first name.ClockNow (Some text) (Some texts) op e = cc
named_first name.RandomWord (Some text) (Some texts) op e = cc

named_by_none : (o : OpName) (op : Op) → Some op ≡ operation_on o [] → has_good_name op ≡ is_well_named o None
named_by_none name.ConsoleRead op e = ap has_good_name (same_Some _ _ e)
named_by_none name.FolderNames op e = ap has_good_name (same_Some _ _ e)
named_by_none name.ClockNow op e = ap has_good_name (same_Some _ _ e)
named_by_none name.RandomWord op e = ap has_good_name (same_Some _ _ e)
named_by_none _ op e = cc

named_well : (o : OpName) (w : Store) (vs : List Word) (op : Op) → Some op ≡ operation_with o (texts_named w vs) → has_good_name op ≡ is_well_named o (first_text w vs)
named_well o w [] op e = named_by_none o op e
named_well o w (v ∷ vs) op e = named_first o (operand_text (operand w v)) (texts_named w vs) op e

-- so is whether a text answers it
answered_by : (o : OpName) (texts : List (List ℕ)) (op : Op) → Some op ≡ operation_on o texts → answers_text op ≡ is_answered_by_text o
answered_by name.ConsoleRead [] op e = ap answers_text (same_Some _ _ e)
answered_by name.ConsoleRead (x ∷ xs) op e = cc
answered_by name.FolderNames [] op e = ap answers_text (same_Some _ _ e)
answered_by name.FolderNames (x ∷ xs) op e = cc
answered_by name.ClockNow [] op e = ap answers_text (same_Some _ _ e)
answered_by name.ClockNow (x ∷ xs) op e = cc
answered_by name.RandomWord [] op e = ap answers_text (same_Some _ _ e)
answered_by name.RandomWord (x ∷ xs) op e = cc
answered_by name.ConsoleWrite [] op e = cc
answered_by name.ConsoleWrite (text ∷ []) op e = ap answers_text (same_Some _ _ e)
answered_by name.ConsoleWrite (x ∷ y ∷ xs) op e = cc
answered_by name.FolderRead [] op e = cc
answered_by name.FolderRead (file ∷ []) op e = ap answers_text (same_Some _ _ e)
answered_by name.FolderRead (x ∷ y ∷ xs) op e = cc
answered_by name.FolderHas [] op e = cc
answered_by name.FolderHas (file ∷ []) op e = ap answers_text (same_Some _ _ e)
answered_by name.FolderHas (x ∷ y ∷ xs) op e = cc
answered_by name.FolderRemove [] op e = cc
answered_by name.FolderRemove (file ∷ []) op e = ap answers_text (same_Some _ _ e)
answered_by name.FolderRemove (x ∷ y ∷ xs) op e = cc
answered_by name.FolderWrite [] op e = cc
answered_by name.FolderWrite (x ∷ []) op e = cc
answered_by name.FolderWrite (file ∷ text ∷ []) op e = ap answers_text (same_Some _ _ e)
answered_by name.FolderWrite (x ∷ y ∷ z ∷ xs) op e = cc
answered_by name.FolderAppend [] op e = cc
answered_by name.FolderAppend (x ∷ []) op e = cc
answered_by name.FolderAppend (file ∷ text ∷ []) op e = ap answers_text (same_Some _ _ e)
answered_by name.FolderAppend (x ∷ y ∷ z ∷ xs) op e = cc

answered_with : (o : OpName) (texts : Option (List (List ℕ))) (op : Op) → Some op ≡ operation_with o texts → answers_text op ≡ is_answered_by_text o
answered_with o None op e = cc
answered_with o (Some texts) op e = answered_by o texts op e

------------------------------------------------------------
-- What a request comes to

abbrev pub by_refusal : Place → Reply → Option TrapKind → Reply
by_refusal place reply None = reply
by_refusal place reply (Some kind) = ended (ends.Trap (trap_meant kind) place)

by_tests : (place : Place) (reply : Reply) (good full : Bool) →
    (if not good then ended (ends.Trap (trap_meant BadName) place) else if full then ended (ends.Trap (trap_meant Crowded) place) else reply)
    ≡ by_refusal place reply (if not good then Some BadName else if full then Some Crowded else None)
by_tests place reply false full = refl
by_tests place reply true true = refl
by_tests place reply true false = refl

pub requested_by : (place : Place) (grant : List ℕ) (w : Store) (o : OpName) (vs : List Word) (op : Op) → Some op ≡ operation_with o (texts_named w vs) →
    requested place grant w (Some op) ≡ by_refusal place (answered grant op w (asked op w.tapes)) (refused o (first_text w vs) w.built)
requested_by place grant w o vs op e =
    let reply = answered grant op w (asked op w.tapes) in
    let tested = λ (good text : Bool). if not good then ended (ends.Trap (trap_meant BadName) place) else if text && not (nat_lt w.built most_texts) then ended (ends.Trap (trap_meant Crowded) place) else reply in
    ap (λ good. tested good (answers_text op)) (named_well o w vs op e)
    ∙ ap (tested (is_well_named o (first_text w vs))) (answered_with o (texts_named w vs) op e)
    ∙ by_tests place reply (is_well_named o (first_text w vs)) (is_answered_by_text o && not (nat_lt w.built most_texts))

------------------------------------------------------------
-- What is not refused

good_where : (good full : Bool) → (if not good then Some BadName else if full then Some Crowded else None) ≡ None → good ≡ true
good_where true full e = refl
good_where false full e = cc

not_full_where : (good full : Bool) → (if not good then Some BadName else if full then Some Crowded else None) ≡ None → full ≡ false
not_full_where true true e = cc
not_full_where true false e = refl
not_full_where false full e = cc

few_where : (text : Bool) (n : ℕ) → (text && not (nat_lt n most_texts)) ≡ false → text ≡ true → n < most_texts
few_where false n e f = cc
few_where true n e f = grind arith

module _ (o : OpName) (w : Store) (vs : List Word) (op : Op) (e : Some op ≡ operation_with o (texts_named w vs)) (free : refused o (first_text w vs) w.built ≡ None) where
  pub free_is_good : has_good_name op ≡ true
  free_is_good = named_well o w vs op e ∙ good_where (is_well_named o (first_text w vs)) _ free

  pub free_has_room : answers_text op ≡ true → w.built < most_texts
  free_has_room text = few_where (is_answered_by_text o) w.built (not_full_where (is_well_named o (first_text w vs)) _ free) (sym (answered_with o (texts_named w vs) op e) ∙ text)
