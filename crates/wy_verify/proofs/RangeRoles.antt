-- The bodies of a scope, as a list that grows.
use Rattle.std.proofs.Common.{◌≡◌, ℕ, suc, ◌+◌, ◌<◌, List, [], ◌∷◌, ◌++◌, length, map, get_or, take, Some, refl, sym, ap, ◌∙◌, append_assoc, arith}
use Rattle.std.proofs.lemmas.List.{take_more, length-take}
use Rattle.wy_code.specs.declared.code.Literal as code_literal
use Rattle.wy_code.specs.declared.code.Method.{Method}
use Rattle.wy_image.specs.declared.file.Entry.{Entry}
use Rattle.wy_image.specs.declared.file.Literal.{Literal}
use Rattle.wy_image.specs.declared.file.Scope.{Scope}
use Rattle.wy_verified.specs.CodeOf.{literal_of, method_of}
use Rattle.wy_verified.specs.Ranges.{Role, entry_roles, literal_roles, roles_of, role_bodies, scopes_bodies}
use Rattle.wy_verified.proofs.Lists.{map_length}
use Rattle.wy_verify.specs.declared.ranges.roles.Role as standing
use Rattle.wy_verify.specs.RangeParts.{role_of}
use Rattle.wy_verify.proofs.RangeLists.{map_more, map_end}

entries_end : (l : ℕ) (ms : List Method) (m : Method) → entry_roles l (ms ++ m ∷ []) ≡ entry_roles l ms ++ (Some l, m.body) ∷ []
entries_end l [] m = refl
entries_end l (n ∷ ms) m = ap (λ (rs : List Role). (Some l, n.body) ∷ rs) (entries_end l ms m)

literals_end : (l : ℕ) (xs : List code_literal.Literal) (x : code_literal.Literal) →
    literal_roles l (xs ++ x ∷ []) ≡ literal_roles l xs ++ entry_roles (l + length xs) x.methods
literals_end l [] x = one (entry_roles l x.methods) ∙ ap (λ k. entry_roles k x.methods) (let z : l ≡ l + 0 = omega arith in z)
  where
    one : (rs : List Role) → rs ++ [] ≡ rs
    one [] = refl
    one (r ∷ rs) = ap (λ (t : List Role). r ∷ t) (one rs)
literals_end l (y ∷ xs) x =
    ap (λ (rs : List Role). entry_roles l y.methods ++ rs) (literals_end (suc l) xs x ∙ ap (λ k. literal_roles (suc l) xs ++ entry_roles k x.methods) (let z : suc l + length xs ≡ l + suc (length xs) = omega arith in z)) ∙
    sym (append_assoc (entry_roles l y.methods) (literal_roles (suc l) xs) (entry_roles (l + suc (length xs)) x.methods))

pub entries_more : (l : ℕ) (xs : List Entry) (i : ℕ) (x : Entry) → i < length xs → x ≡ get_or xs i x → (front now new : List Role) →
    now ≡ front ++ entry_roles l (map method_of (take i xs)) → new ≡ now ++ (Some l, x.body) ∷ [] →
    new ≡ front ++ entry_roles l (map method_of (take (i + 1) xs))
entries_more l xs i x lt at front now new h e =
    e ∙ ap (λ (rs : List Role). rs ++ (Some l, x.body) ∷ []) h ∙
    append_assoc front (entry_roles l (map method_of (take i xs))) ((Some l, x.body) ∷ []) ∙
    ap (λ (rs : List Role). front ++ rs) (sym (entries_end l (map method_of (take i xs)) (method_of x))) ∙
    ap (λ (ms : List Method). front ++ entry_roles l ms) (sym (map_more method_of xs i x lt at))

pub literals_more : (xs : List Literal) (i : ℕ) (x : Literal) → i < length xs → x ≡ get_or xs i x → (front now new : List Role) →
    now ≡ front ++ literal_roles 1 (map literal_of (take i xs)) → new ≡ now ++ entry_roles (i + 1) (map method_of x.entries) →
    new ≡ front ++ literal_roles 1 (map literal_of (take (i + 1) xs))
literals_more xs i x lt at front now new h e =
    let l = length-take i xs in
    let m = map_length literal_of (take i xs) in
    let k : i + 1 ≡ 1 + length (map literal_of (take i xs)) = omega (arith, l, m, lt) in
    e ∙ ap (λ (rs : List Role). rs ++ entry_roles (i + 1) (map method_of x.entries)) h ∙
    append_assoc front (literal_roles 1 (map literal_of (take i xs))) (entry_roles (i + 1) (map method_of x.entries)) ∙
    ap (λ n. front ++ (literal_roles 1 (map literal_of (take i xs)) ++ entry_roles n (map method_of x.entries))) k ∙
    ap (λ (rs : List Role). front ++ rs) (sym (literals_end 1 (map literal_of (take i xs)) (literal_of x))) ∙
    ap (λ (ls : List code_literal.Literal). front ++ literal_roles 1 ls) (sym (map_more literal_of xs i x lt at))

bodies_end : (ss : List Scope) (s : Scope) → scopes_bodies (ss ++ s ∷ []) ≡ scopes_bodies ss ++ role_bodies (roles_of s)
bodies_end [] s = one (role_bodies (roles_of s))
  where
    one : (bs : List ℕ) → bs ++ [] ≡ bs
    one [] = refl
    one (b ∷ bs) = ap (λ (t : List ℕ). b ∷ t) (one bs)
bodies_end (t ∷ ss) s =
    ap (λ (bs : List ℕ). role_bodies (roles_of t) ++ bs) (bodies_end ss s) ∙
    sym (append_assoc (role_bodies (roles_of t)) (scopes_bodies ss) (role_bodies (roles_of s)))

pub bodies_more : (ss : List Scope) (i : ℕ) (s : Scope) → i < length ss → s ≡ get_or ss i s → (now new : List ℕ) →
    now ≡ scopes_bodies (take i ss) → new ≡ now ++ role_bodies (roles_of s) → new ≡ scopes_bodies (take (i + 1) ss)
bodies_more ss i s lt at now new h e =
    e ∙ ap (λ (bs : List ℕ). bs ++ role_bodies (roles_of s)) h ∙ sym (bodies_end (take i ss) s) ∙
    ap (λ (t : Scope). scopes_bodies (take i ss ++ t ∷ [])) at ∙ ap scopes_bodies (sym (take_more ss i s lt))

-- one body more in a list of bodies
pub role_put : (rs : List standing.Role) (r : standing.Role) (new : List standing.Role) → new ≡ rs ++ r ∷ [] → map role_of new ≡ map role_of rs ++ role_of r ∷ []
role_put rs r new e = ap (map role_of) e ∙ map_end role_of rs r
