-- Where a file passes V-Range: an instance with its scope and what it states, and its bodies with their owners.
use Rattle.std.proofs.Common.{◌≡◌, ℕ, zero, suc, ◌+◌, ◌<◌, ◌≤◌, List, [], ◌∷◌, length, map, refl, sym, ap, ◌∙◌, subst, Option, Some, None, arith}
use Rattle.std.specs.Prelude.{slice_get}
use Rattle.wy_text.specs.Members.{In}
use Rattle.wy_text.proofs.Lists.{In-slice_get, In-map, In-unmap}
use Rattle.wy_code.specs.declared.code.Body as code_body
use Rattle.wy_code.specs.declared.code.Instance as code_instance
use Rattle.wy_code.specs.declared.code.Scope as code_scope
use Rattle.wy_code.specs.declared.instruction.Placed.{Placed}
use Rattle.wy_code.specs.Machine.{all_instances, scope_in, literal_of_scope, literal_of as literal_at}
use Rattle.wy_image.specs.declared.file.Body.{Body}
use Rattle.wy_image.specs.declared.file.ImageFile.{ImageFile}
use Rattle.wy_image.specs.declared.file.Scope.{Scope}
use Rattle.wy_image.specs.declared.typing.Bounds.{Bounds}
use Rattle.wy_image.specs.declared.typing.Reference.{Reference}
use Rattle.wy_image.specs.declared.typing.Reference.TheVariants as written
use Rattle.wy_image.specs.declared.typing.Target.{Target}
use Rattle.wy_image.specs.declared.typing.Typing.{Typing}
use Rattle.wy_verified.specs.CodeOf.{literal_of, scope_of, image_of, texts_of, typings_of, body_of, bodies_of, placed_of}
use Rattle.wy_verified.specs.Images.{Image}
use Rattle.wy_verified.specs.Kinds.{kind_in, value_kinds, values_by, values_of}
use Rattle.wy_verified.specs.Ranges.{Role, roles_of, IsPlain, AreInRange, ArePlain, ReferenceInRange, BoundsInRange, IsInRange}
use Rattle.wy_verified.specs.Rules.{Owner}
use Rattle.wy_verified.specs.Verifying.{Subject, subjects_of, owner_of}
use Rattle.wy_verified.specs.Walking.{RangeOk}
use Rattle.wy_verified.proofs.Files.{IsUnit, unit_at}
use Rattle.wy_verified.proofs.Lists.{get_map, map_length, none_some, read_there, some_same}
use Rattle.wy_verified.proofs.Named.{instructions_name}
use Rattle.wy_verified.proofs.Tables.{owner_found, scope_apart}
use Rattle.wy_verify.specs.Effects.{IsStatedIn}
use Rattle.wy_verify.specs.Sites.{IsShort, AreShort}
use Rattle.wy_verify.specs.Tables.{owner_by}
use Rattle.wy_verify.specs.Verdicts.{IsNumbered}
use Rattle.wy_verify.proofs.Owning.{owner_of_file}
use Rattle.wy_verify.proofs.Small.{in_scopes}

------------------------------------------------------------
-- References

short_one : (file : ImageFile) (x : ℕ) (s : Scope) → length s.literals < 4294967295 → (r : Reference) →
    ReferenceInRange file x s r → IsShort r
short_one file x s few written.Int h = tt
short_one file x s few written.Truth h = tt
short_one file x s few written.Bytes h = tt
short_one file x s few written.Unit h = tt
short_one file x s few (written.Listed t) h = tt
short_one file x s few (written.Literal l) h = omega (arith, h, few)
short_one file x s few (written.Grant g) h = tt
short_one file x s few (written.Instance y) h = tt

short_all : (file : ImageFile) (x : ℕ) (s : Scope) → length s.literals < 4294967295 → (rs : List Reference) →
    AreInRange file x s rs → AreShort rs
short_all file x s few rs all = λ k r e. short_one file x s few r (all r (In-slice_get rs k r e))

plain_one : (file : ImageFile) (r : Reference) → IsPlain file r → IsShort r
plain_one file written.Int h = tt
plain_one file written.Truth h = tt
plain_one file written.Bytes h = tt
plain_one file written.Unit h = tt
plain_one file (written.Listed t) h = tt
plain_one file (written.Literal l) h = absurd h
plain_one file (written.Grant g) h = tt
plain_one file (written.Instance y) h = tt

plain_all : (file : ImageFile) (rs : List Reference) → ArePlain file rs → AreShort rs
plain_all file rs all = λ k r e. plain_one file r (all r (In-slice_get rs k r e))

short_none : AreShort []
short_none = λ k r e. absurd (none_some e)

------------------------------------------------------------
-- An instance

module _ (file : ImageFile) (image : Image) (view : image ≡ image_of file) (range : IsInRange file) (x : ℕ)
    (i : code_instance.Instance) (is : slice_get (all_instances image.code) x ≡ Some i) where
  abbrev unit : IsUnit file x i
  unit = unit_at file range x i (subst (λ (m : Image). slice_get (all_instances m.code) x ≡ Some i) view is)

  -- its scope in the code
  pub scope_there : slice_get image.code.scopes i.scope ≡ Some (scope_of unit.scope)
  scope_there =
      ap (λ (m : Image). slice_get m.code.scopes i.scope) view ∙
      get_map scope_of file.scopes i.scope unit.scope unit.there

  -- what it states
  pub typing_there : slice_get image.typings x ≡ Some unit.typing
  typing_there = ap (λ (m : Image). slice_get m.typings x) view ∙ unit.is_stated

  -- it is judged
  pub subject_there : (t : Typing) → slice_get image.typings x ≡ Some t → slice_get (subjects_of file) x ≡
      Some (let u : Subject = record { instance = i; scope = slice_get file.scopes i.scope; typing = t } in u)
  subject_there t e =
      unit.unit ∙
      ap (λ (s : Option Scope). Some (let u : Subject =
      record { instance = i; scope = s; typing = unit.typing } in u)) (sym unit.there) ∙
      ap (λ (t : Typing). Some (let u : Subject =
      record { instance = i; scope = slice_get file.scopes i.scope; typing = t } in u))
      (some_same (sym typing_there ∙ e))

module _ (image : Image) (file : ImageFile) (x : ℕ) (i : code_instance.Instance) (scope : code_scope.Scope)
    (typing : Typing) (n : IsNumbered image file x i scope typing) where
  abbrev here : IsUnit file x i
  here = unit file image n.image_is n.range x i n.instance_is

  same_typing : here.typing ≡ typing
  same_typing = some_same (sym (typing_there file image n.image_is n.range x i n.instance_is) ∙ n.typing_is)

  same_scope : scope_of here.scope ≡ scope
  same_scope = some_same (sym (scope_there file image n.image_is n.range x i n.instance_is) ∙ n.scope_is)

  few : length here.scope.literals < 4294967295
  few =
      let a = map_length literal_of here.scope.literals in
      let b : suc (length (map literal_of here.scope.literals)) ≡ length scope.literals =
      ap (λ (s : code_scope.Scope). length s.literals) same_scope in
      let c = n.few in omega (arith, a, b, c)

  -- there is an argument for each of its first values
  pub arguments_count : length i.arguments ≤ length typing.values
  arguments_count =
      let a = here.count in
      let b = here.range.values.count in
      let c : length here.typing.values ≡ length typing.values = ap (λ (t : Typing). length t.values) same_typing in
      omega (arith, a, b, c)

  -- the types of its own values, and of those of its literals
  pub short_values : (l : ℕ) → AreShort (values_by (Some typing) l)
  short_values l = subst (λ (t : Typing). AreShort (values_by (Some t) l)) same_typing (of l)
    where
      literal : (l : ℕ) (o : Option (List Reference)) → slice_get here.typing.literals l ≡ o → AreShort (values_of o)
      literal l None e = short_none
      literal l (Some rs) e = short_all file x here.scope few rs (here.range.literals l rs e).values.all

      of : (l : ℕ) → AreShort (values_by (Some here.typing) l)
      of zero = short_all file x here.scope few here.typing.values here.range.values.all
      of (suc l) = literal l (slice_get here.typing.literals l) refl

  pub scope_here : scope_in image.code (slice_get (all_instances image.code) x) ≡ Some scope
  scope_here = ap (scope_in image.code) n.instance_is ∙ n.scope_is

  pub literal_here : (l : ℕ) → literal_at image.code x l ≡ slice_get scope.literals l
  literal_here l = ap (λ (o : Option code_scope.Scope). literal_of_scope o l) scope_here

  pub count_here : (l : ℕ) → length (value_kinds image x l) ≡ length (values_by (Some typing) l)
  count_here l =
      map_length (kind_in x) (values_by (slice_get image.typings x) l) ∙
      ap (λ (o : Option Typing). length (values_by o l)) n.typing_is

  -- the code's scope says whose a body is
  pub owner_by_file : (b : ℕ) → owner_by (slice_get image.code.scopes i.scope) b ≡ owner_of (slice_get file.scopes i.scope) b
  owner_by_file b =
      ap (λ (m : Image). owner_by (slice_get m.code.scopes i.scope) b) n.image_is ∙ owner_of_file file.scopes i.scope b

------------------------------------------------------------
-- A body

body_there : (texts : List (List ℕ)) (ts : List Typing) (from : ℕ) (bs : List Body) (k : ℕ) (raw : Body) →
    slice_get bs k ≡ Some raw → slice_get (bodies_of texts ts from bs) k ≡ Some (body_of texts ts (from + k) raw)
body_there texts ts from [] k raw e = absurd (none_some e)
body_there texts ts from (b ∷ bs) zero raw e =
    ap (λ (b : Body). Some (body_of texts ts from b)) (some_same e) ∙
    ap (λ n. Some (body_of texts ts n raw)) (let z : from ≡ from + 0 = omega arith in z)
body_there texts ts from (b ∷ bs) (suc k) raw e =
    body_there texts ts (suc from) bs k raw e ∙
    ap (λ n. Some (body_of texts ts n raw)) (let z : suc from + k ≡ from + suc k = omega arith in z)

module _ (image : Image) (file : ImageFile) (x : ℕ) (i : code_instance.Instance) (scope : code_scope.Scope)
    (typing : Typing) (n : IsNumbered image file x i scope typing) (s : Bounds) (at : In s typing.bodies) where
  abbrev place : IsUnit file x i
  place = here image file x i scope typing n

  stated : In s place.typing.bodies
  stated = subst (λ (t : Typing). In s t.bodies) (sym (same_typing image file x i scope typing n)) at

  -- whose it is
  abbrev role : (r : Role) × In r (roles_of place.scope) × (r.1 ≡ s.body)
  role =
      In-unmap (λ (r : Role). r.1) s.body (roles_of place.scope)
      ((place.range.bodies s.body).0 (In-map (λ (b : Bounds). b.body) s place.typing.bodies stated))

  role_there : owner_of (slice_get file.scopes i.scope) s.body ≡ Some role.0.0
  role_there =
      ap (λ o. owner_of o s.body) place.there ∙ ap (owner_of (Some place.scope)) (sym role.2) ∙
      owner_found (roles_of place.scope) role.0 role.1
      (scope_apart file.scopes i.scope place.scope place.there n.range.bodies.apart)

  -- it has an owner
  pub owner_lost : None ≡ owner_of (slice_get file.scopes i.scope) s.body → ⊥
  owner_lost e = none_some (e ∙ role_there)

  -- the file's body
  abbrev raw : (b : Body) × (slice_get file.bodies s.body ≡ Some b)
  raw = read_there file.bodies s.body (n.range.bodies.there s.body
      (in_scopes file n.range file.scopes place.scope s.body (In-slice_get file.scopes i.scope place.scope place.there)
      ((place.range.bodies s.body).0 (In-map (λ (b : Bounds). b.body) s place.typing.bodies stated))))

  -- .. and the code's
  abbrev made : code_body.Body
  made = body_of (texts_of file) (typings_of file) (0 + s.body) raw.0

  made_there : slice_get image.code.bodies s.body ≡ Some made
  made_there =
      ap (λ (m : Image). slice_get m.code.bodies s.body) n.image_is ∙
      body_there (texts_of file) (typings_of file) 0 file.bodies s.body raw.0 raw.1

  pub body_lost : None ≡ slice_get image.code.bodies s.body → ⊥
  body_lost e = none_some (e ∙ made_there)

  -- what is stated of it names what is there
  abbrev ranged : BoundsInRange file x place.scope raw.0 s
  ranged = place.range.each s raw.0 stated raw.1

  pub short_parameters : AreShort s.parameters
  short_parameters = plain_all file s.parameters ranged.parameters

  pub short_result : IsShort s.result
  short_result = plain_one file s.result ranged.result

  pub short_vals : AreShort s.vals
  short_vals = short_all file x place.scope (few image file x i scope typing n) s.vals ranged.vals

  pub short_targets : (t : Target) → In t s.targets → AreShort t.operands
  short_targets t h =
      short_all file x place.scope (few image file x i scope typing n) t.operands (ranged.targets t h).operands

  pub is_stated : IsStatedIn image s
  is_stated = (typing, In-slice_get image.typings x typing n.typing_is, at)

  -- the numbers of its instructions name what is there
  pub rows_named : (o : Owner) → owner_of (slice_get file.scopes i.scope) s.body ≡ Some o → (b : code_body.Body) →
      slice_get image.code.bodies s.body ≡ Some b → (held k : ℕ) (p : Placed) → slice_get b.instructions k ≡ Some p →
      RangeOk image x o b s held p.instruction
  rows_named o is_o b is_b held k p e =
      let body_is : made ≡ b = some_same (sym made_there ∙ is_b) in
      let owner_is : role.0.0 ≡ o = some_same (sym role_there ∙ is_o) in
      let is = subst (λ (m : Image). slice_get (all_instances m.code) x ≡ Some i) n.image_is n.instance_is in
      let raw_there : slice_get file.bodies role.0.1 ≡ Some raw.0 =
      ap (slice_get file.bodies) role.2 ∙ raw.1 in
      let there : slice_get (map (placed_of (texts_of file)) raw.0.rows) k ≡ Some p =
      ap (λ (c : code_body.Body). slice_get c.instructions k) body_is ∙ e in
      subst (λ (m : Image). RangeOk m x o b s held p.instruction) (sym n.image_is)
      (subst (λ (o : Owner). RangeOk (image_of file) x o b s held p.instruction) owner_is
      (instructions_name file n.range x i is place role.0 role.1 raw.0 raw_there b s held k p there))
