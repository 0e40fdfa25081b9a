-- Tables of a file's code: reading them by number, whose a body is, and what is stated of it.
use Rattle.std.proofs.Common.{◌≡◌, ℕ, zero, suc, ◌+◌, ◌<◌, Bool, true, false, List, [], ◌∷◌, ◌++◌, length, map, inl}
use Rattle.std.proofs.Common.{inr, refl, sym, ap, ◌∙◌, subst, Some, arith}
use Rattle.std.specs.Prelude.{slice_get, nat_eq, bytes_eq, if◌then◌else◌}
use Rattle.std.proofs.lemmas.Bool.{eq-eqb, eqb-true, eqb-false}
use Rattle.std.proofs.lemmas.Slice.Eq.{bytes_eq-Decides}
use Rattle.wy_text.specs.Members.{In, Apart}
use Rattle.wy_text.proofs.Lists.{In-map, In-left, In-right}
use Rattle.wy_code.specs.declared.code.Body as code_body
use Rattle.wy_code.specs.declared.code.Literal.{Literal}
use Rattle.wy_code.specs.declared.code.Method.{Method}
use Rattle.wy_code.specs.EachOnce.{is_among, each_once_after, each_once}
use Rattle.wy_image.specs.declared.file.Body.{Body}
use Rattle.wy_image.specs.declared.file.Scope.{Scope}
use Rattle.wy_image.specs.declared.typing.Bounds.{Bounds}
use Rattle.wy_image.specs.declared.typing.Typing.{Typing}
use Rattle.wy_verified.specs.CodeOf.{number_in, body_of, bodies_of}
use Rattle.wy_verified.specs.Kinds.{stated_in}
use Rattle.wy_verified.specs.Ranges.{Role, entry_roles, literal_roles, roles_of, role_bodies, scopes_bodies}
use Rattle.wy_verified.specs.Verifying.{owner_in}
use Rattle.wy_verified.proofs.Lists.{some_same, none_some}

------------------------------------------------------------
-- Lists whose members are apart

pub apart_left : {X : Type 0} (xs ys : List X) → Apart (xs ++ ys) → Apart xs
apart_left [] ys h = tt
apart_left (x ∷ xs) ys h = ((λ i. h.0 (In-left x xs ys i)), apart_left xs ys h.1)

pub apart_right : {X : Type 0} (xs ys : List X) → Apart (xs ++ ys) → Apart ys
apart_right [] ys h = h
apart_right (x ∷ xs) ys h = apart_right xs ys h.1

pub scope_apart : (ss : List Scope) (k : ℕ) (s : Scope) → slice_get ss k ≡ Some s → Apart (scopes_bodies ss) →
    Apart (role_bodies (roles_of s))
scope_apart [] k s e h = absurd (none_some e)
scope_apart (t ∷ ss) zero s e h =
    subst (λ (s : Scope). Apart (role_bodies (roles_of s))) (some_same e)
    (apart_left (role_bodies (roles_of t)) (scopes_bodies ss) h)
scope_apart (t ∷ ss) (suc k) s e h = scope_apart ss k s e (apart_right (role_bodies (roles_of t)) (scopes_bodies ss) h)

------------------------------------------------------------
-- Whose a body is

pub owner_found : (rs : List Role) (r : Role) → In r rs → Apart (role_bodies rs) → owner_in rs r.1 ≡ Some r.0
owner_found [] r h a = absurd h
owner_found (q ∷ rs) r (inl e) a =
    subst (λ (r : Role). (if nat_eq q.1 r.1 then Some q.0 else owner_in rs r.1) ≡ Some r.0) e
    (ap (λ c. if c then Some q.0 else owner_in rs q.1) (eq-eqb q.1 q.1 refl))
owner_found (q ∷ rs) r (inr h) a = by_case (owner_found rs r h a.1) (nat_eq q.1 r.1) refl
  where
    by_case : owner_in rs r.1 ≡ Some r.0 → (c : Bool) → nat_eq q.1 r.1 ≡ c →
        (if nat_eq q.1 r.1 then Some q.0 else owner_in rs r.1) ≡ Some r.0
    by_case later true f =
        absurd (a.0 (subst (λ n. In n (role_bodies rs)) (sym (eqb-true q.1 r.1 f)) (In-map (λ (r : Role). r.1) r rs h)))
    by_case later false f = ap (λ c. if c then Some q.0 else owner_in rs r.1) f ∙ later

entry_role : (l : ℕ) (ms : List Method) (m : Method) → In m ms → In {X = Role} (Some l, m.body) (entry_roles l ms)
entry_role l [] m h = absurd h
entry_role l (n ∷ ms) m (inl e) = inl (ap (λ (m : Method). let r : Role = (Some l, m.body) in r) e)
entry_role l (n ∷ ms) m (inr h) = inr (entry_role l ms m h)

pub literal_role : (from : ℕ) (xs : List Literal) (l : ℕ) (x : Literal) (m : Method) → slice_get xs l ≡ Some x →
    In m x.methods → In {X = Role} (Some (from + l), m.body) (literal_roles from xs)
literal_role from [] l x m e h = absurd (none_some e)
literal_role from (y ∷ xs) zero x m e h =
    In-left _ (entry_roles from y.methods) (literal_roles (suc from) xs)
    (subst (λ n. In {X = Role} (Some n, m.body) (entry_roles from y.methods))
    (let z : from ≡ from + 0 = omega arith in z)
    (entry_role from y.methods m (subst (λ (y : Literal). In m y.methods) (sym (some_same e)) h)))
literal_role from (y ∷ xs) (suc l) x m e h =
    In-right _ (entry_roles from y.methods) (literal_roles (suc from) xs)
    (subst (λ n. In {X = Role} (Some n, m.body) (literal_roles (suc from) xs))
    (let z : suc from + l ≡ from + suc l = omega arith in z) (literal_role (suc from) xs l x m e h))

------------------------------------------------------------
-- What is stated of a body, and its code

pub stated_found : (ss : List Bounds) (b : ℕ) → In b (map (λ (n : Bounds). n.body) ss) → (n : Bounds) × In n ss ×
    (n.body ≡ b) × (stated_in b ss ≡ Some n)
stated_found [] b h = absurd h
stated_found (s ∷ ss) b h = by_case (λ g. stated_found ss b g) (nat_eq s.body b) refl
  where
    Found : Type 0
    Found = (n : Bounds) × In n (s ∷ ss) × (n.body ≡ b) ×
        ((if nat_eq s.body b then Some s else stated_in b ss) ≡ Some n)

    by_case : (In b (map (λ (n : Bounds). n.body) ss) → (n : Bounds) × In n ss × (n.body ≡ b) ×
        (stated_in b ss ≡ Some n)) → (c : Bool) → nat_eq s.body b ≡ c → Found
    by_case later true f = (s, inl refl, eqb-true s.body b f, ap (λ c. if c then Some s else stated_in b ss) f)
    by_case later false f = elim h [
      | inl e ↦ absurd (eqb-false s.body b f e)
      | inr g ↦ let q = later g in (q.0, inr q.1, q.2, ap (λ c. if c then Some s else stated_in b ss) f ∙ q.3)
    ]

pub body_found : (texts : List (List ℕ)) (ts : List Typing) (from : ℕ) (bs : List Body) (k : ℕ) (b : code_body.Body) →
    slice_get (bodies_of texts ts from bs) k ≡ Some b →
    (raw : Body) × (slice_get bs k ≡ Some raw) × (body_of texts ts (from + k) raw ≡ b)
body_found texts ts from [] k b e = absurd (none_some e)
body_found texts ts from (x ∷ bs) zero b e =
    (x, refl, ap (λ n. body_of texts ts n x) (let z : from + 0 ≡ from = omega arith in z) ∙ some_same e)
body_found texts ts from (x ∷ bs) (suc k) b e =
    let q = body_found texts ts (suc from) bs k b e in
    (q.0, q.1, ap (λ n. body_of texts ts n q.0) (let z : from + suc k ≡ suc from + k = omega arith in z) ∙ q.2)

------------------------------------------------------------
-- Texts

pub number_less : (xs : List (List ℕ)) (t : List ℕ) → In t xs → number_in xs t < length xs
number_less [] t h = absurd h
number_less (x ∷ xs) t h = by_case (λ g. number_less xs t g) (bytes_eq x t) refl
  where
    by_case : (In t xs → number_in xs t < length xs) → (c : Bool) → bytes_eq x t ≡ c →
        (if bytes_eq x t then 0 else suc (number_in xs t)) < suc (length xs)
    by_case later true f =
        subst (λ n. n < suc (length xs)) (sym (ap (λ c. if c then 0 else suc (number_in xs t)) f)) (omega arith)
    by_case later false f = elim h [
      | inl e ↦ absurd (let g : bytes_eq x t ≡ true = (bytes_eq-Decides x t).1 e in let z : true ≡ false = sym g ∙ f in
          cc)
      | inr g ↦ let less =
          later g in subst (λ n. n < suc (length xs)) (sym (ap (λ c. if c then 0 else suc (number_in xs t)) f))
          (omega (arith, less))
    ]

kept_after : (seen xs : List (List ℕ)) (t : List ℕ) → In t seen → In t (each_once_after seen xs)
kept_after seen [] t h = h
kept_after seen (x ∷ xs) t h = by_case (λ s i. kept_after s xs t i) (is_among x seen) refl
  where
    by_case : ((s : List (List ℕ)) → In t s → In t (each_once_after s xs)) → (c : Bool) → is_among x seen ≡ c →
        In t (if is_among x seen then each_once_after seen xs else each_once_after (seen ++ x ∷ []) xs)
    by_case later true f =
        subst (λ c. In t (if c then each_once_after seen xs else each_once_after (seen ++ x ∷ []) xs)) (sym f)
        (later seen h)
    by_case later false f =
        subst (λ c. In t (if c then each_once_after seen xs else each_once_after (seen ++ x ∷ []) xs)) (sym f)
        (later (seen ++ x ∷ []) (In-left t seen (x ∷ []) h))

among_in : (x : List ℕ) (ys : List (List ℕ)) → is_among x ys ≡ true → In x ys
among_in x [] e = absurd cc
among_in x (y ∷ ys) e = by_case (λ g. among_in x ys g) (bytes_eq y x) refl
  where
    by_case : (is_among x ys ≡ true → In x ys) → (c : Bool) → bytes_eq y x ≡ c → In x (y ∷ ys)
    by_case later true f = inl ((bytes_eq-Decides y x).0 f)
    by_case later false f = inr (later (let g : is_among x ys ≡ true = cc in g))

after_in : (seen xs : List (List ℕ)) (t : List ℕ) → In t xs → In t (each_once_after seen xs)
after_in seen [] t h = absurd h
after_in seen (x ∷ xs) t h = by_case (λ s i. after_in s xs t i) (is_among x seen) refl
  where
    by_case : ((s : List (List ℕ)) → In t xs → In t (each_once_after s xs)) → (c : Bool) → is_among x seen ≡ c →
        In t (if is_among x seen then each_once_after seen xs else each_once_after (seen ++ x ∷ []) xs)
    by_case later true f =
        subst (λ c. In t (if c then each_once_after seen xs else each_once_after (seen ++ x ∷ []) xs)) (sym f) (elim h [
          | inl e ↦ kept_after seen xs t (subst (λ x. In x seen) e (among_in x seen f))
          | inr g ↦ later seen g
        ])
    by_case later false f =
        subst (λ c. In t (if c then each_once_after seen xs else each_once_after (seen ++ x ∷ []) xs)) (sym f) (elim h [
          | inl e ↦ kept_after (seen ++ x ∷ []) xs t
              (subst (λ t. In t (seen ++ x ∷ [])) e (In-right x seen (x ∷ []) (inl refl)))
          | inr g ↦ later (seen ++ x ∷ []) g
        ])

pub once_in : (xs : List (List ℕ)) (t : List ℕ) → In t xs → In t (each_once xs)
once_in xs t h = after_in [] xs t h
