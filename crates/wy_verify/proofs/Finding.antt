-- Methods as they are found.
use Rattle.std.proofs.Common.{◌≡◌, ℕ, ◌<◌, List, inl, inr, sym, ap, ◌∙◌, subst, Option, Some, None, arith}
use Rattle.std.specs.Prelude.{slice_get, IfOk, OnOk, Ok, Err, Result}
use Rattle.indexmap.specs.IndexMap.{IndexMap, get}
use Rattle.wy_text.specs.Members.{In}
use Rattle.wy_text.proofs.Lists.{In-slice_get}
use Rattle.wy_device.specs.declared.operation.OpName.{OpName}
use Rattle.wy_device.specs.declared.operation.OpName.TheVariants as name
use Rattle.wy_image.specs.declared.typing.Reference.{Reference}
use Rattle.wy_code.specs.declared.code.Code.{Code}
use Rattle.wy_code.specs.declared.code.Literal.{Literal}
use Rattle.wy_code.specs.Machine.{literal_of, literal_of_scope}
use Rattle.wy_image.specs.declared.file.ImageFile.{ImageFile}
use Rattle.wy_image.specs.declared.typing.Bounds.{Bounds}
use Rattle.wy_image.specs.declared.typing.Signature.{Signature}
use Rattle.wy_image.specs.declared.typing.Typing.{Typing}
use Rattle.wy_verified.specs.CodeOf.{image_of, typings_of}
use Rattle.wy_verified.specs.Images.{Image}
use Rattle.wy_verified.specs.Kinds.{kind_in, kinds_in, member_number, signature_method, listed_method, stated, bounds_method}
use Rattle.wy_verified.specs.Ranges.{IsInRange}
use Rattle.wy_verify.specs.declared.tables.Entry.{Entry}
use Rattle.wy_verify.specs.Judging.{body_by, literal_by}
use Rattle.wy_verify.specs.Tables.{Tells, same_pair, same_triple, types_notes, typings_notes, scopes_notes}
use Rattle.wy_verify.proofs.LookingUp.{listed_none, listed_some, stated_none, stated_some, called_here}
use Rattle.wy_verify.proofs.Small.{small_signature, plain_signature, small_bounds, plain_bounds}
use Rattle.wy_verified.specs.declared.known.Kind.{Kind}
use Rattle.wy_verified.proofs.Lists.{get_map, some_same, none_some}
use Rattle.wy_verify.specs.declared.methods.Found.{Found}
use Rattle.wy_verify.specs.declared.methods.Found.TheVariants.{Listed, Stated, Operation}
use Rattle.wy_verify.specs.Effects.{IsSmall, AreSmall, effect_numbers}
use Rattle.wy_verify.specs.Found.{method_found, NoLiteral, NoLiterals, IsReady, IsReadyFound}

small_member : (o : OpName) → member_number o < 8
small_member name.ConsoleRead = omega arith
small_member name.ConsoleWrite = omega arith
small_member name.FolderRead = omega arith
small_member name.FolderHas = omega arith
small_member name.FolderWrite = omega arith
small_member name.FolderAppend = omega arith
small_member name.FolderNames = omega arith
small_member name.ClockNow = omega arith
small_member name.RandomWord = omega arith
small_member name.FolderRemove = omega arith

-- the atoms of what was found are small
pub small_found : (f : Found) → IsReadyFound f → AreSmall (method_found f).effect
small_found (Listed s set) h = h.small
small_found (Stated x b set) h = h.small
small_found (Operation g o) h = λ a i. elim i [ inl e ↦ subst IsSmall e (h, small_member o) | inr n ↦ absurd n ]

-- a parameter that is read names no literal
pub plain_read : (rs : List Reference) (k : ℕ) (r : Reference) → NoLiterals rs → slice_get rs k ≡ Some r → NoLiteral r
plain_read rs k r h e = h r (In-slice_get rs k r e)

-- .. and has its type
pub kind_read : (x k : ℕ) (rs : List Reference) (r : Reference) (kind : Kind) → slice_get rs k ≡ Some r → kind ≡ kind_in x r → slice_get (kinds_in x rs) k ≡ Some kind
kind_read x k rs r kind e f = get_map (kind_in x) rs k r e ∙ ap (λ (v : Kind). Some v) (sym f)

-- what follows from a fact of an `Ok` is one of it
pub on_ok : {T E : Type 0} (r : Result T E) (P Q : Type 0) → (P → Q) → OnOk r P → OnOk r Q
on_ok (Ok x) P Q f h = f h
on_ok (Err e) P Q f h = h

pub if_ok : {T E : Type 0} (r : Result T E) (P Q : T → Type 0) → ((x : T) → P x → Q x) → IfOk r P → IfOk r Q
if_ok (Ok x) P Q f h = f x h
if_ok (Err e) P Q f h = h

module _ (file : ImageFile) (image : Image) (view : image_of file ≡ image) {S : Type 0} (entries : IndexMap (ℕ × ℕ) Entry S) where
  ------------------------------------------------------------
  -- A method of a listed type

  module _ (tells : Tells same_pair entries (types_notes 0 file.types)) (t m : ℕ) where
    -- the table has none
    pub listed_absent : None ≡ get same_pair entries (t, m) → None ≡ listed_method (slice_get image.types t) m
    listed_absent e = sym (listed_none file.types t m (sym (tells (t, m)) ∙ sym e)) ∙ ap (λ (i : Image). listed_method (slice_get i.types t) m) view

    -- where the table has one it is there
    pub listed_lost : (e : Entry) (ss : List Signature) → Some e ≡ get same_pair entries (t, m) → Some ss ≡ slice_get file.types t → None ≡ slice_get ss e.place → ⊥
    listed_lost e ss h g n =
        let r = listed_some file.types t m e (sym (tells (t, m)) ∙ sym h) in
        let same : r.methods ≡ ss = some_same (sym r.type_there ∙ sym g) in
        none_some (n ∙ ap (λ (l : List Signature). slice_get l e.place) (sym same) ∙ r.there)

    module _ (e : Entry) (ss : List Signature) (s : Signature) (h : Some e ≡ get same_pair entries (t, m)) (g : Some ss ≡ slice_get file.types t) (i : Some s ≡ slice_get ss e.place) where
      -- .. and is the method
      pub listed_is_found : Some (signature_method 0 s) ≡ listed_method (slice_get image.types t) m
      listed_is_found =
          let r = listed_some file.types t m e (sym (tells (t, m)) ∙ sym h) in
          let same : r.methods ≡ ss = some_same (sym r.type_there ∙ sym g) in
          let one : r.signature ≡ s = some_same (sym r.there ∙ ap (λ (l : List Signature). slice_get l e.place) same ∙ sym i) in
          ap (λ (x : Signature). Some (signature_method 0 x)) (sym one) ∙ sym r.found ∙ ap (λ (i : Image). listed_method (slice_get i.types t) m) view

      pub listed_is_ready : IsInRange file → IsReady s.parameters s.effect s.result e.effect
      listed_is_ready range =
          let r = listed_some file.types t m e (sym (tells (t, m)) ∙ sym h) in
          let same : r.methods ≡ ss = some_same (sym r.type_there ∙ sym g) in
          let one : r.signature ≡ s = some_same (sym r.there ∙ ap (λ (l : List Signature). slice_get l e.place) same ∙ sym i) in
          let in_types : In ss file.types = In-slice_get file.types t ss (sym g) in
          let in_methods : In s ss = In-slice_get ss e.place s (sym i) in
          let plain = plain_signature file range ss s in_types in_methods in
          record {
            numbers = ap (λ (x : Entry). x.effect) r.numbers ∙ ap (λ (x : Signature). effect_numbers x.effect) one;
            small = small_signature file range ss s in_types in_methods;
            plain = plain.0;
            answers = plain.1;
          }

  ------------------------------------------------------------
  -- What is stated of a body

  module _ (tells : Tells same_pair entries (typings_notes 0 (typings_of file))) (x b : ℕ) where
    -- the table has none
    pub stated_absent : None ≡ get same_pair entries (x, b) → None ≡ bounds_method x (stated image x b)
    stated_absent e =
        ap (λ (o : Option Bounds). bounds_method x o) (sym (stated_none (typings_of file) x b (sym (tells (x, b)) ∙ sym e))) ∙
        ap (λ (i : Image). bounds_method x (stated i x b)) view

    -- where the table has one it is there
    typing_of : (t : Typing) → Some t ≡ slice_get image.typings x → slice_get (typings_of file) x ≡ Some t
    typing_of t g = ap (λ (i : Image). slice_get i.typings x) view ∙ sym g

    pub stated_lost : (e : Entry) (t : Typing) → Some e ≡ get same_pair entries (x, b) → Some t ≡ slice_get image.typings x → None ≡ slice_get t.bodies e.place → ⊥
    stated_lost e t h g n =
        let r = stated_some (typings_of file) x b e (sym (tells (x, b)) ∙ sym h) in
        let same : r.typing ≡ t = some_same (sym r.typing_there ∙ typing_of t g) in
        none_some (n ∙ ap (λ (l : Typing). slice_get l.bodies e.place) (sym same) ∙ r.there)

    module _ (e : Entry) (t : Typing) (n : Bounds) (h : Some e ≡ get same_pair entries (x, b)) (g : Some t ≡ slice_get image.typings x) (i : Some n ≡ slice_get t.bodies e.place) where
      -- .. and is what is stated
      pub stated_is_found : bounds_method x (Some n) ≡ bounds_method x (stated image x b)
      stated_is_found =
          let r = stated_some (typings_of file) x b e (sym (tells (x, b)) ∙ sym h) in
          let same : r.typing ≡ t = some_same (sym r.typing_there ∙ typing_of t g) in
          let one : r.bounds ≡ n = some_same (sym r.there ∙ ap (λ (l : Typing). slice_get l.bodies e.place) same ∙ sym i) in
          ap (λ (y : Bounds). bounds_method x (Some y)) (sym one) ∙ ap (λ (o : Option Bounds). bounds_method x o) (sym r.found) ∙ ap (λ (i : Image). bounds_method x (stated i x b)) view

      pub stated_is_ready : IsInRange file → IsReady n.parameters n.effect n.result e.effect
      stated_is_ready range =
          let r = stated_some (typings_of file) x b e (sym (tells (x, b)) ∙ sym h) in
          let same : r.typing ≡ t = some_same (sym r.typing_there ∙ typing_of t g) in
          let one : r.bounds ≡ n = some_same (sym r.there ∙ ap (λ (l : Typing). slice_get l.bodies e.place) same ∙ sym i) in
          let in_typings : In t (typings_of file) = In-slice_get (typings_of file) x t (typing_of t g) in
          let in_bodies : In n t.bodies = In-slice_get t.bodies e.place n (sym i) in
          let plain = plain_bounds file range t n in_typings in_bodies in
          record {
            numbers = ap (λ (y : Entry). y.effect) r.numbers ∙ ap (λ (y : Bounds). effect_numbers y.effect) one;
            small = small_bounds file range t n in_typings in_bodies;
            plain = plain.0;
            answers = plain.1;
          }

-- the body that a method of a literal has
pub called_is_found : (code : Code) {S : Type 0} (called : IndexMap (ℕ × ℕ × ℕ) ℕ S) → Tells same_triple called (scopes_notes 0 code.scopes) → (now : Code) → code ≡ now →
    (x s l m : ℕ) (o : Option ℕ) → o ≡ get same_triple called (s, l, m) → literal_of now x l ≡ literal_by now (Some s) l → o ≡ body_by (literal_of now x l) m
called_is_found code called tells now same x s l m o h e =
    h ∙ tells (s, l, m) ∙ called_here code.scopes s l m ∙ ap (λ (k : Code). body_by (literal_of_scope (slice_get k.scopes s) l) m) same ∙ ap (λ (v : Option Literal). body_by v m) (sym e)
