-- The parts of V-Range put together.
use Rattle.std.proofs.Common.{codes, ◌≡◌, ◌↔◌, IsTrue, ℕ, ◌<◌, Bool, List, ◌∷◌, length, map, refl, sym, ap, ◌∙◌, subst, Option, Some, None, arith}
use Rattle.std.specs.Prelude.{slice_get, MatchOption}
use Rattle.wy_text.specs.Members.{In, Apart}
use Rattle.wy_text.proofs.Lists.{In-map, In-unmap}
use Rattle.wy_image.specs.declared.file.Body.{Body}
use Rattle.wy_image.specs.declared.file.Entry.{Entry}
use Rattle.wy_image.specs.declared.file.Grant.{Grant}
use Rattle.wy_image.specs.declared.file.ImageFile.{ImageFile}
use Rattle.wy_image.specs.declared.file.Instance.{Instance}
use Rattle.wy_image.specs.declared.file.Literal.{Literal}
use Rattle.wy_image.specs.declared.file.Row.{Row}
use Rattle.wy_image.specs.declared.file.Scope.{Scope}
use Rattle.wy_image.specs.declared.typing.Bounds.{Bounds}
use Rattle.wy_image.specs.declared.typing.Reference.{Reference}
use Rattle.wy_image.specs.declared.typing.Signature.{Signature}
use Rattle.wy_image.specs.declared.typing.Typing.{Typing}
use Rattle.wy_verified.specs.Ranges.{Role, roles_of, role_bodies, scopes_bodies, IsPrinted, RowInRange, SignatureInRange, TypeInRange, EntriesInRange, ScopeInRange}
use Rattle.wy_verified.specs.Ranges.{BodiesStandOnce, ValuesInRange, LiteralStated, TypingInRange, InstanceInRange, LimitsKept, IsGrantName, MainInRange, IsInRange}
use Rattle.wy_verified.proofs.Tables.{scope_apart}
use Rattle.wy_verified.proofs.Lists.{some_same, none_some}
use Rattle.wy_verify.specs.RangeParts.{RoleInRange, BoundsFit, AreAsManyAmong, AreStatedOnce, HasValues, HasArguments, ListsInRange, PartsInRange, UnitsInRange}
use Rattle.wy_verify.proofs.RangeTests.{reworded}
use Rattle.wy_verify.proofs.RangeLists.{all_among, all_numbers, number_count, same_count}

------------------------------------------------------------
-- Bodies

-- as many different numbers, all below: each body stands once
pub stand_once : (file : ImageFile) → Apart (scopes_bodies file.scopes) →
    (length (scopes_bodies file.scopes) ≡ length file.bodies) ×
    ((n : ℕ) → In n (scopes_bodies file.scopes) → n < length file.bodies) → BodiesStandOnce file
stand_once file a h = record { apart = a; there = h.1; all = all_numbers (scopes_bodies file.scopes) (length file.bodies) a h.1 h.0 }

pub once_stands : (file : ImageFile) → BodiesStandOnce file →
    (length (scopes_bodies file.scopes) ≡ length file.bodies) ×
    ((n : ℕ) → In n (scopes_bodies file.scopes) → n < length file.bodies)
once_stands file s = (number_count (scopes_bodies file.scopes) (length file.bodies) s.apart s.there s.all, s.there)

-- as many different numbers, all among others
pub stated_once : (s : Scope) (ns : List Bounds) → Apart (map (λ (n : Bounds). n.body) ns) → Apart (role_bodies (roles_of s)) →
    (length (role_bodies (roles_of s)) ≡ length (map (λ (n : Bounds). n.body) ns)) ×
    ((b : ℕ) → In b (role_bodies (roles_of s)) → In b (map (λ (n : Bounds). n.body) ns)) → AreStatedOnce s ns
stated_once s ns a c h = record {
  apart = a;
  bodies = λ b. (all_among (role_bodies (roles_of s)) (map (λ (n : Bounds). n.body) ns) c h.1 (let e = h.0 in omega (arith, e)) b, h.1 b);
}

pub once_stated : (s : Scope) (ns : List Bounds) → Apart (role_bodies (roles_of s)) → AreStatedOnce s ns →
    (length (role_bodies (roles_of s)) ≡ length (map (λ (n : Bounds). n.body) ns)) ×
    ((b : ℕ) → In b (role_bodies (roles_of s)) → In b (map (λ (n : Bounds). n.body) ns))
once_stated s ns c h =
    (sym (same_count (map (λ (n : Bounds). n.body) ns) (role_bodies (roles_of s)) h.apart c h.bodies), λ b. (h.bodies b).1)

-- .. and whether they are
pub stated_decided : (s : Scope) (ms : List Bounds) (r : Bool) (o : Option (List ℕ)) (ns bs : List ℕ) (count : ℕ) →
    ns ≡ map (λ (n : Bounds). n.body) ms → bs ≡ role_bodies (roles_of s) → count ≡ length ns → Apart (role_bodies (roles_of s)) →
    MatchOption o (Apart ns → ⊥) (λ n. (n ≡ ns) × Apart ns) → (IsTrue r ↔ AreAsManyAmong o count bs) → IsTrue r ↔ AreStatedOnce s ms
stated_decided s ms r None ns bs count en eb ec c m h =
    (λ t. absurd (h.0 t), λ a. absurd (m (subst Apart (sym en) a.apart)))
stated_decided s ms r (Some k) ns bs count en eb ec c m h =
    let names : k ≡ map (λ (n : Bounds). n.body) ms = m.0 ∙ en in
    let many : count ≡ length (map (λ (n : Bounds). n.body) ms) = ec ∙ ap (λ (l : List ℕ). length l) en in
    reworded r h
    (λ p. stated_once s ms (subst Apart en m.1) c
    (sym (ap (λ (l : List ℕ). length l) eb) ∙ p.0 ∙ many, λ b i. subst (λ (l : List ℕ). In b l) names (p.1 b (subst (λ (l : List ℕ). In b l) (sym eb) i))))
    (λ a. let q = once_stated s ms c a in
    (ap (λ (l : List ℕ). length l) eb ∙ q.0 ∙ sym many, λ b i. subst (λ (l : List ℕ). In b l) (sym names) (q.1 b (subst (λ (l : List ℕ). In b l) eb i))))

-- the bodies of one scope are apart
pub scope_bodies_apart : (file : ImageFile) (k : ℕ) (s : Scope) → slice_get file.scopes k ≡ Some s → BodiesStandOnce file →
    Apart (role_bodies (roles_of s))
scope_bodies_apart file k s e h = scope_apart file.scopes k s e h.apart

------------------------------------------------------------
-- Listed types, and methods of objects

pub type_of : (file : ImageFile) (t : List Signature) → Apart (map (λ (g : Signature). g.method) t) →
    ((g : Signature) → In g t → SignatureInRange file g) → TypeInRange file t
type_of file t a h = record { apart = a; each = h }

pub entries_of : (file : ImageFile) (ms : List Entry) → Apart (map (λ (m : Entry). m.method) ms) →
    ((n : ℕ) → In n (map (λ (m : Entry). m.method) ms) → n < length file.methods) → EntriesInRange file ms
entries_of file ms a h = record { apart = a; each = λ m i. h m.method (In-map (λ (m : Entry). m.method) m ms i) }

pub entries_below : (file : ImageFile) (ms : List Entry) → EntriesInRange file ms → (n : ℕ) → In n (map (λ (m : Entry). m.method) ms) →
    n < length file.methods
entries_below file ms e n i =
    let r = In-unmap (λ (m : Entry). m.method) n ms i in subst (λ k. k < length file.methods) r.2 (e.each r.0 r.1)

------------------------------------------------------------
-- Scopes

-- the rows of the body of a number
pub role_given : (file : ImageFile) (s : Scope) (r : Role) (b : Body) → slice_get file.bodies r.1 ≡ Some b →
    ((row : Row) → In row b.rows → RowInRange file s r.0 b row) → RoleInRange file s r
role_given file s r b e h c row f i =
    let same : b ≡ c = some_same (sym e ∙ f) in
    subst (λ (b : Body). RowInRange file s r.0 b row) same (h row (subst (λ (b : Body). In row b.rows) (sym same) i))

pub given_role : (file : ImageFile) (s : Scope) (r : Role) (b : Body) → slice_get file.bodies r.1 ≡ Some b → RoleInRange file s r →
    (row : Row) → In row b.rows → RowInRange file s r.0 b row
given_role file s r b e h row i = h b row e i

module _ (file : ImageFile) (s : Scope) where
  pub scope_of : ((b : Body) → slice_get file.bodies s.first ≡ Some b → b.parameters ≡ 0) → EntriesInRange file s.entries →
      ((l : Literal) → In l s.literals → EntriesInRange file l.entries) →
      ((r : Role) → In {X = Role} r (roles_of s) → RoleInRange file s r) → ScopeInRange file s
  scope_of f e l rows = record { no_parameters = f; entries = e; literals = l; rows = λ r b row i g j. rows r i b row g j }

  pub scope_rows : ScopeInRange file s → (r : Role) → In {X = Role} r (roles_of s) → RoleInRange file s r
  scope_rows h r i b row g j = h.rows r b row i g j

------------------------------------------------------------
-- What is stated

module _ (file : ImageFile) (x : ℕ) (s : Scope) where
  pub literal_stated : (l : Literal) (rs : List Reference) → ValuesInRange file x s (length l.captures) l.fields rs → LiteralStated file x s (Some l) rs
  literal_stated l rs h = record { literal = l; there = refl; values = h }

  pub stated_literal : (l : Literal) (rs : List Reference) → LiteralStated file x s (Some l) rs → ValuesInRange file x s (length l.captures) l.fields rs
  stated_literal l rs h =
      subst (λ (m : Literal). ValuesInRange file x s (length m.captures) m.fields rs) (sym (some_same h.there)) h.values

  pub none_stated : (rs : List Reference) → LiteralStated file x s None rs → ⊥
  none_stated rs h = none_some h.there

  pub has_values_of : (t : Typing) → ValuesInRange file x s s.arguments s.fields t.values → length t.literals ≡ length s.literals →
      ((l : ℕ) (rs : List Reference) → slice_get t.literals l ≡ Some rs → LiteralStated file x s (slice_get s.literals l) rs) →
      HasValues file x s t
  has_values_of t v c l = record { values = v; count = c; literals = l }

  pub typing_of : (t : Typing) → HasValues file x s t → AreStatedOnce s t.bodies → Apart (map (λ (n : Bounds). n.name) t.bodies) →
      ((n : Bounds) → In n t.bodies → BoundsFit file x s n) → TypingInRange file x s t
  typing_of t v o n each = record {
    values = v.values;
    count = v.count;
    literals = v.literals;
    apart = o.apart;
    bodies = o.bodies;
    names = n;
    each = λ n b i g. each n i b g;
  }

  pub typing_values : (t : Typing) → TypingInRange file x s t → HasValues file x s t
  typing_values t h = record { values = h.values; count = h.count; literals = h.literals }

  pub typing_once : (t : Typing) → TypingInRange file x s t → AreStatedOnce s t.bodies
  typing_once t h = record { apart = h.apart; bodies = h.bodies }

  pub typing_each : (t : Typing) → TypingInRange file x s t → (n : Bounds) → In n t.bodies → BoundsFit file x s n
  typing_each t h n i b g = h.each n b i g

  pub instance_of : (i : Instance) → slice_get file.scopes i.scope ≡ Some s → IsPrinted i.name → HasArguments file x s i →
      TypingInRange file x s i.typing → InstanceInRange file x i
  instance_of i e p a t = record { printed = p; scope = s; there = e; count = a.count; arguments = a.arguments; typing = t }

  pub instance_arguments : (i : Instance) → slice_get file.scopes i.scope ≡ Some s → InstanceInRange file x i → HasArguments file x s i
  instance_arguments i e h =
      let same : s ≡ h.scope = some_same (sym e ∙ h.there) in record { count = h.count ∙ ap (λ (s : Scope). s.arguments) (sym same); arguments = h.arguments }

  pub instance_typing : (i : Instance) → slice_get file.scopes i.scope ≡ Some s → InstanceInRange file x i → TypingInRange file x s i.typing
  instance_typing i e h = subst (λ (s : Scope). TypingInRange file x s i.typing) (some_same (sym h.there ∙ e)) h.typing

-- an instance without a scope
pub no_instance : (file : ImageFile) (x : ℕ) (i : Instance) → slice_get file.scopes i.scope ≡ None → InstanceInRange file x i → ⊥
no_instance file x i e h = none_some (sym e ∙ h.there)

pub main_of : (file : ImageFile) (s : Scope) → slice_get file.scopes file.main.scope ≡ Some s → s.arguments ≡ 0 → s.fields ≡ 0 →
    TypingInRange file (length file.instances) s file.main.typing → MainInRange file
main_of file s e a f t = record { scope = s; there = e; no_arguments = a; no_fields = f; typing = t }

pub main_typing : (file : ImageFile) (s : Scope) → slice_get file.scopes file.main.scope ≡ Some s → MainInRange file →
    TypingInRange file (length file.instances) s file.main.typing
main_typing file s e h = subst (λ (s : Scope). TypingInRange file (length file.instances) s file.main.typing) (some_same (sym h.there ∙ e)) h.typing

pub main_arguments : (file : ImageFile) (s : Scope) → slice_get file.scopes file.main.scope ≡ Some s → MainInRange file → (s.arguments ≡ 0) × (s.fields ≡ 0)
main_arguments file s e h =
    subst (λ (s : Scope). (s.arguments ≡ 0) × (s.fields ≡ 0)) (some_same (sym h.there ∙ e)) (h.no_arguments, h.no_fields)

pub no_main : (file : ImageFile) → slice_get file.scopes file.main.scope ≡ None → MainInRange file → ⊥
no_main file e h = none_some (sym e ∙ h.there)

------------------------------------------------------------
-- The whole image

pub parts_of : (file : ImageFile) → ((t : List Signature) → In t file.types → TypeInRange file t) → BodiesStandOnce file →
    ((s : Scope) → In s file.scopes → ScopeInRange file s) → PartsInRange file
parts_of file t b s = record { types = t; bodies = b; scopes = s }

pub lists_of : (file : ImageFile) → LimitsKept file → ((g : Grant) → In g file.grants → IsGrantName g.name) →
    Apart (map (λ (g : Grant). g.name) file.grants) → Apart file.methods → PartsInRange file → ListsInRange file
lists_of file l n g m p = record { limits = l; grants = g; grant_names = n; methods = m; parts = p }

pub units_of : (file : ImageFile) → Apart (codes "main" ∷ map (λ (i : Instance). i.name) file.instances) →
    ((x : ℕ) (i : Instance) → slice_get file.instances x ≡ Some i → InstanceInRange file x i) → MainInRange file → UnitsInRange file
units_of file n i m = record { names = n; instances = i; main = m }

pub whole_lists : (file : ImageFile) → IsInRange file → ListsInRange file
whole_lists file r = lists_of file r.limits r.grant_names r.grants r.methods (parts_of file r.types r.bodies r.scopes)

pub whole_units : (file : ImageFile) → IsInRange file → UnitsInRange file
whole_units file r = units_of file r.names r.instances r.main

pub whole_of : (file : ImageFile) → ListsInRange file → UnitsInRange file → IsInRange file
whole_of file l u = record {
  limits = l.limits;
  grants = l.grants;
  grant_names = l.grant_names;
  methods = l.methods;
  types = l.parts.types;
  scopes = l.parts.scopes;
  bodies = l.parts.bodies;
  names = u.names;
  instances = u.instances;
  main = u.main;
}
