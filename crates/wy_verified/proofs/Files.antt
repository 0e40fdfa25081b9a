-- A file that is verified is an image whose bodies pass, so that it follows the rules; and its instructions name what
-- is there.
use Rattle.std.proofs.Common.{◌≡◌, ℕ, zero, suc, ◌+◌, ◌-◌, ◌<◌, ◌≤◌, List, [], ◌∷◌, ◌++◌, length, map, inl, inr, refl}
use Rattle.std.proofs.Common.{sym, ap, ◌∙◌, subst, Option, Some, None, arith}
use Rattle.std.specs.Prelude.{slice_get}
use Rattle.wy_text.specs.Members.{In}
use Rattle.wy_text.proofs.Lists.{In-map, In-unmap, In-slice_get}
use Rattle.wy_code.specs.declared.code.Argument as code_argument
use Rattle.wy_code.specs.declared.code.Argument.TheVariants as argument
use Rattle.wy_code.specs.declared.code.Body as code_body
use Rattle.wy_code.specs.declared.code.Instance as code_instance
use Rattle.wy_code.specs.declared.code.Literal.{Literal}
use Rattle.wy_code.specs.declared.code.Method.{Method}
use Rattle.wy_code.specs.Machine.{all_instances, literal_of, scope_in, literal_of_scope}
use Rattle.wy_image.specs.declared.file.Argument.{Argument}
use Rattle.wy_image.specs.declared.file.Argument.TheVariants as handed
use Rattle.wy_image.specs.declared.file.ImageFile.{ImageFile}
use Rattle.wy_image.specs.declared.file.Instance.{Instance}
use Rattle.wy_image.specs.declared.file.Scope.{Scope}
use Rattle.wy_image.specs.declared.typing.Bounds.{Bounds}
use Rattle.wy_image.specs.declared.typing.Typing.{Typing}
use Rattle.wy_verified.specs.CodeOf.{literals_of, instance_of, main_of, argument_of, typings_of, texts_of, name_by}
use Rattle.wy_verified.specs.CodeOf.{own_literal, scope_of, code_of, image_of}
use Rattle.wy_verified.specs.Images.{Image}
use Rattle.wy_verified.specs.Kinds.{Kind, kind_in, values_by, value_kinds, stated_by, stated}
use Rattle.wy_verified.specs.Passing.{BodyPasses}
use Rattle.wy_verified.specs.Ranges.{Role, literal_roles, roles_of, ArgumentInRange, BoundsInRange, TypingInRange}
use Rattle.wy_verified.specs.Ranges.{IsInRange}
use Rattle.wy_verified.specs.Rules.{Owner, BodyIs, ArgumentsFit, InstanceIs, IsVerifiedBy}
use Rattle.wy_verified.specs.Verifying.{Subject, subjects_of, ArgumentsPass, owner_of, fields_in, held_by, WalkPasses}
use Rattle.wy_verified.specs.Verifying.{BodyPassesIn, BodiesPass, SubjectPasses, SubjectsPass, IsVerifiedFile}
use Rattle.wy_verified.proofs.Lists.{some_same, none_some, get_map, map_length, read_first, read_next, read_last}
use Rattle.wy_verified.proofs.Visited.{body_passes_from}
use Rattle.wy_verified.proofs.Tables.{scope_apart, owner_found, literal_role, stated_found, body_found}

-- instance x, or the program, as the code has it, with what the file says of it
pub record IsUnit (file : ImageFile) (x : ℕ) (i : code_instance.Instance) : Type 0 where
  pub scope : Scope
  pub there : slice_get file.scopes i.scope ≡ Some scope
  pub typing : Typing
  pub is_stated : slice_get (typings_of file) x ≡ Some typing
  pub range : TypingInRange file x scope typing
  pub count : length i.arguments ≡ scope.arguments
  pub earlier : (y : ℕ) → In (argument.Instance y) i.arguments → y < x
  pub unit : slice_get (subjects_of file) x ≡ Some
      (let u : Subject = record { instance = i; scope = Some scope; typing = typing } in u)

unmapped : {X Y : Type 0} (f : X → Y) (xs : List X) (k : ℕ) (y : Y) → slice_get (map f xs) k ≡ Some y → (x : X) ×
    (slice_get xs k ≡ Some x) × (f x ≡ y)
unmapped f [] k y e = absurd (none_some e)
unmapped f (x ∷ xs) zero y e = (x, refl, some_same e)
unmapped f (x ∷ xs) (suc k) y e = unmapped f xs k y e

earlier_in : (file : ImageFile) (x : ℕ) (args : List Argument) (y : ℕ) →
    ((a : Argument) → In a args → ArgumentInRange file x a) → In (argument.Instance y) (map argument_of args) → y < x
earlier_in file x args y all h = let q = In-unmap argument_of (argument.Instance y) args h in of q.0 q.2 (all q.0 q.1)
  where
    of : (a : Argument) → argument_of a ≡ argument.Instance y → ArgumentInRange file x a → y < x
    of (handed.Grant g) e r = absurd cc
    of (handed.Instance z) e r = let same : z ≡ y = cc in omega (arith, same, r)

module _ (file : ImageFile) (range : IsInRange file) where
  abbrev units : List Subject
  units = map (λ (i : Instance). let u : Subject =
      record { instance = instance_of i; scope = slice_get file.scopes i.scope; typing = i.typing } in u) file.instances

  of_instance : (x : ℕ) (j : Instance) → slice_get file.instances x ≡ Some j → IsUnit file x (instance_of j)
  of_instance x j e =
      let r = range.instances x j e in
      let main_unit : Subject =
      record {
        instance = main_of file.main;
        scope = slice_get file.scopes file.main.scope;
        typing =
            file.main.typing;
      } in
      let unit_of : Instance → Subject =
      λ i. record { instance = instance_of i; scope = slice_get file.scopes i.scope; typing = i.typing } in
      record {
        scope = r.scope;
        there = r.there;
        typing = j.typing;
        is_stated =
            read_first (map (λ (i : Instance). i.typing) file.instances) (file.main.typing ∷ []) x j.typing
            (get_map (λ (i : Instance). i.typing) file.instances x j e);
        range = r.typing;
        count = map_length argument_of j.arguments ∙ r.count;
        earlier = λ y h. earlier_in file x j.arguments y r.arguments h;
        unit = read_first units (main_unit ∷ []) x (unit_of j) (get_map unit_of file.instances x j e) ∙
            ap (λ (s : Option Scope). Some (let u : Subject =
            record { instance = instance_of j; scope = s; typing = j.typing } in u)) r.there;
      }

  of_main : IsUnit file (length file.instances) (main_of file.main)
  of_main =
      let r = range.main in
      let main_unit : Subject =
      record {
        instance = main_of file.main;
        scope = slice_get file.scopes file.main.scope;
        typing =
            file.main.typing;
      } in
      let typings = map (λ (i : Instance). i.typing) file.instances in
      record {
        scope = r.scope;
        there = r.there;
        typing = file.main.typing;
        is_stated =
            subst (λ n. slice_get (typings ++ file.main.typing ∷ []) n ≡ Some file.main.typing)
            (map_length (λ (i : Instance). i.typing) file.instances) (read_next typings [] file.main.typing);
        range = r.typing;
        count = sym r.no_arguments;
        earlier = λ y h. absurd h;
        unit = subst (λ n. slice_get (units ++ main_unit ∷ []) n ≡ Some main_unit) (map_length _ file.instances)
            (read_next units [] main_unit) ∙
            ap (λ (s : Option Scope). Some (let u : Subject =
            record { instance = main_of file.main; scope = s; typing = file.main.typing } in u)) r.there;
      }

  pub unit_at : (x : ℕ) (i : code_instance.Instance) → slice_get (all_instances (code_of file)) x ≡ Some i →
      IsUnit file x i
  unit_at x i e =
      elim (read_last (map instance_of file.instances) (main_of file.main) x i e) [
        | inl f ↦ let q =
            unmapped instance_of file.instances x i f in
            subst (λ (i : code_instance.Instance). IsUnit file x i) q.2 (of_instance x q.0 q.1)
        | inr f ↦
            let at : length file.instances ≡ x = sym (map_length instance_of file.instances) ∙ sym f.0 in
            subst (λ (i : code_instance.Instance). IsUnit file x i) f.1
            (subst (λ n. IsUnit file n (main_of file.main)) at of_main)
      ]

------------------------------------------------------------
-- What passes

unit_passes : (image : Image) (from x : ℕ) (us : List Subject) (u : Subject) → SubjectsPass image from us →
    slice_get us x ≡ Some u → SubjectPasses image (from + x) u
unit_passes image from x [] u h e = absurd (none_some e)
unit_passes image from zero (v ∷ us) u h e =
    subst (λ n. SubjectPasses image n u) (let z : from ≡ from + 0 = omega arith in z)
    (subst (λ (u : Subject). SubjectPasses image from u) (some_same e) h.0)
unit_passes image from (suc x) (v ∷ us) u h e =
    subst (λ n. SubjectPasses image n u) (let z : suc from + x ≡ from + suc x = omega arith in z)
    (unit_passes image (suc from) x us u h.1 e)

body_passes_in : (image : Image) (x : ℕ) (u : Subject) (ss : List Bounds) (s : Bounds) → BodiesPass image x u ss →
    In s ss → BodyPassesIn image x u s
body_passes_in image x u [] s h i = absurd i
body_passes_in image x u (t ∷ ss) s h (inl e) = subst (λ (s : Bounds). BodyPassesIn image x u s) e h.0
body_passes_in image x u (t ∷ ss) s h (inr i) = body_passes_in image x u ss s h.1 i

arguments_fit : (image : Image) (x : ℕ) (args : List code_argument.Argument) (ks : List Kind) →
    ((y : ℕ) → In (argument.Instance y) args → y < x) → ArgumentsPass image args ks → ArgumentsFit image x args ks
arguments_fit image x [] ks early h = tt
arguments_fit image x (a ∷ args) [] early h = absurd h
arguments_fit image x (argument.Grant g ∷ args) (k ∷ ks) early h =
    (h.0, arguments_fit image x args ks (λ y i. early y (inr i)) h.1)
arguments_fit image x (argument.Instance y ∷ args) (k ∷ ks) early h =
    ((early y (inl refl), h.0), arguments_fit image x args ks (λ y i. early y (inr i)) h.1)

module _ (file : ImageFile) (verified : IsVerifiedFile file) (x : ℕ) (i : code_instance.Instance)
    (is : slice_get (all_instances (code_of file)) x ≡ Some i) where
  abbrev image : Image
  image = image_of file

  abbrev u : IsUnit file x i
  u = unit_at file verified.0 x i is

  abbrev unit : Subject
  unit = record { instance = i; scope = Some u.scope; typing = u.typing }

  passes : SubjectPasses image x unit
  passes = subst (λ n. SubjectPasses image n unit) (let z : 0 + x ≡ x = omega arith in z)
      (unit_passes image 0 x (subjects_of file) unit verified.1 u.unit)

  own_values : value_kinds image x 0 ≡ map (kind_in x) u.typing.values
  own_values = ap (λ (o : Option Typing). map (kind_in x) (values_by o 0)) u.is_stated

  body_is : (r : Role) → In r (roles_of u.scope) → (held : ℕ) → held_by image x i r.0 ≡ held →
      BodyIs BodyPasses image x r.0 r.1 held
  body_is r h held is_held =
      let n = stated_found u.typing.bodies r.1
      ((u.range.bodies r.1).1 (In-map (λ (r : Role). r.1) r (roles_of u.scope) h)) in
      let owner : owner_of (Some u.scope) n.0.body ≡ Some r.0 =
      ap (owner_of (Some u.scope)) n.2 ∙ owner_found (roles_of u.scope) r h
      (scope_apart file.scopes i.scope u.scope u.there verified.0.bodies.apart) in
      let p : WalkPasses image x i (Some r.0) (slice_get image.code.bodies r.1) n.0 =
      subst (λ (k : ℕ). WalkPasses image x i (Some r.0) (slice_get image.code.bodies k) n.0) n.2
      (subst (λ (o : Option Owner). WalkPasses image x i o (slice_get image.code.bodies n.0.body) n.0) owner
      (body_passes_in image x unit u.typing.bodies n.0 passes.1 n.1)) in
      of n.0 n.1 n.2 (ap (λ (o : Option Typing). stated_by o r.1) u.is_stated ∙ n.3) (slice_get image.code.bodies r.1)
      refl p
    where
      of : (n : Bounds) → In n u.typing.bodies → n.body ≡ r.1 → stated image x r.1 ≡ Some n →
          (o : Option code_body.Body) → slice_get image.code.bodies r.1 ≡ o →
          WalkPasses image x i (Some r.0) o n → BodyIs BodyPasses image x r.0 r.1 held
      of n at same is_stated None e p = absurd p
      of n at same is_stated (Some b) e p =
          let q = body_found (texts_of file) (typings_of file) 0 file.bodies r.1 b e in
          let g : BoundsInRange file x u.scope q.0 n = u.range.each n q.0 at (ap (slice_get file.bodies) same ∙ q.1) in
          let has : code_body.Body → Type 0 =
          λ c. (c.name ≡ n.name) × (length n.parameters ≡ c.parameters) × (c.vals ≤ length n.vals) in
          let all : has b =
          subst has q.2 (
            ap (name_by (typings_of file)) (let z : 0 + r.1 ≡ r.1 = omega arith in z ∙ sym same)
                ∙ sym g.name,
            g.count,
            g.stored,
          ) in
          record {
            body = b;
            bounds = n;
            there = e;
            is_stated = is_stated;
            follows = record {
              name = all.0;
              parameters = all.1;
              vals = all.2;
              some = p.0;
              all = subst (λ (h : ℕ). Rattle.wy_verified.specs.Passing.PassesFrom image x r.0 b n h 0
                  (Some Rattle.wy_verified.specs.Rules.at_first) [] b.instructions) is_held
                  (body_passes_from image x r.0 b n (held_by image x i r.0) p.1);
            };
          }

  scope_there : slice_get image.code.scopes i.scope ≡ Some (scope_of u.scope)
  scope_there = get_map scope_of file.scopes i.scope u.scope u.there

  literal_there : (l : ℕ) → literal_of image.code x l ≡ slice_get (scope_of u.scope).literals l
  literal_there l =
      ap (λ (o : Option code_instance.Instance). literal_of_scope (scope_in image.code o) l) is ∙
      ap (λ (o : Option Rattle.wy_code.specs.declared.code.Scope.Scope). literal_of_scope o l) scope_there

  start_is : BodyIs BodyPasses image x None u.scope.first (length i.arguments)
  start_is = body_is (None, u.scope.first) (inl refl) (length i.arguments) refl

  pub instance_is : InstanceIs BodyPasses image x i
  instance_is = record {
    scope = scope_of u.scope;
    there = scope_there;
    own = own_literal u.scope;
    is_own = refl;
    values = (let a : length (value_kinds image x 0) ≡ length u.typing.values = ap length own_values
        ∙ map_length (kind_in x) u.typing.values in
        let b = u.range.values.count in let c = u.count in omega (arith, a, b, c));
    arguments = arguments_fit image x i.arguments (value_kinds image x 0) u.earlier passes.0;
    start = start_is;
    no_parameters = no_parameters start_is.body start_is.there;
    methods = λ l literal m e h. body_is (Some l, m.body) (inr (method_role l literal m e h))
        (length (value_kinds image x l) - literal.fields)
        (ap (λ (o : Option Literal). length (value_kinds image x l) - fields_in o) (literal_there l ∙ e));
  }
    where
      method_role : (l : ℕ) (literal : Literal) (m : Method) → slice_get (scope_of u.scope).literals l ≡ Some literal →
          In m literal.methods → In {X = Role} (Some l, m.body) (literal_roles 0 (literals_of u.scope))
      method_role l literal m e h =
          subst (λ n. In {X = Role} (Some n, m.body) (literal_roles 0 (literals_of u.scope)))
          (let z : 0 + l ≡ l = omega arith in z) (literal_role 0 (literals_of u.scope) l literal m e h)

      no_parameters : (b : code_body.Body) → slice_get image.code.bodies u.scope.first ≡ Some b → b.parameters ≡ 0
      no_parameters b e =
          let q = body_found (texts_of file) (typings_of file) 0 file.bodies u.scope.first b e in
          sym (ap (λ (b : code_body.Body). b.parameters) q.2) ∙
          (verified.0.scopes u.scope (In-slice_get file.scopes i.scope u.scope u.there)).no_parameters q.0 q.1

nothing : {X : Type 0} (xs : List X) → length xs ≡ 0 → xs ≡ []
nothing [] e = refl
nothing (x ∷ xs) e = absurd (omega arith)

-- a verified file's image has bodies that pass
pub file_passes : (file : ImageFile) → IsVerifiedFile file → IsVerifiedBy BodyPasses (image_of file)
unfolding of_main
file_passes file verified = record { each = instance_is file verified; main = main }
  where
    main : value_kinds (image_of file) (length (code_of file).instances) 0 ≡ []
    main =
        let r = verified.0.main in
        let u = of_main file verified.0 in
        let at : length (code_of file).instances ≡ length file.instances = map_length instance_of file.instances in
        let values : file.main.typing.values ≡ [] =
        nothing file.main.typing.values (let a = r.typing.values.count in let b = r.no_arguments in let c =
        r.no_fields in omega (arith, a, b, c)) in
        ap (λ n. value_kinds (image_of file) n 0) at ∙
        ap (λ (o : Option Typing). map (kind_in (length file.instances)) (values_by o 0)) u.is_stated ∙
        ap (map (kind_in (length file.instances))) values
