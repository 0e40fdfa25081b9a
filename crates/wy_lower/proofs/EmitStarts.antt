-- The program is the last of the scopes.
use Rattle.std.proofs.Common.{◌≡◌, ℕ, zero, suc, ◌+◌, ◌-◌, List, [], ◌∷◌, length, map, Option, Some, None, refl, ap, ap₂, ◌∙◌, arith}
use Rattle.std.specs.Prelude.{slice_get}
use Rattle.wy_types.specs.declared.resolved.OwnName.{OwnName}
use Rattle.wy_types.specs.declared.resolved.Scope as r
use Rattle.wy_types.specs.Program.{Program, Scope, scope_of}
use Rattle.wy_code.specs.declared.code.Body.{Body}
use Rattle.wy_code.specs.declared.code.Code.{Code}
use Rattle.wy_code.specs.declared.code.Grant.{Grant}
use Rattle.wy_code.specs.declared.code.Instance.{Instance}
use Rattle.wy_code.specs.declared.code.Scope as c
use Rattle.wy_meaning.specs.Starts.{Starts, scope_names, last_scope}
use Rattle.wy_lower.specs.Lowering.{method_table, text_table, grants_code, scopes_bodies, scopes_code, instance_code, lowered}

pub last_is : (ss : List Scope) → last_scope ss ≡ length ss - 1
last_is [] = refl
last_is (s ∷ []) = refl
last_is (s ∷ t ∷ rest) = (let h = last_is (t ∷ rest) in let z : last_scope (t ∷ rest) + 1 ≡ suc (suc (length rest)) - 1 = omega arith in z)

abbrev pub names_of : Option r.Scope → List OwnName
names_of None = []
names_of (Some s) = s.names

pub names_at : (ss : List r.Scope) (k : ℕ) → scope_names (slice_get (map scope_of ss) k) ≡ names_of (slice_get ss k)
names_at [] k = refl
names_at (s ∷ ss) zero = refl
names_at (s ∷ ss) (suc k) = names_at ss k

------------------------------------------------------------
-- The whole code

abbrev pub main_code : List ℕ → ℕ → Instance
main_code name scope = instance_code (record { name = name; scope = scope; actuals = [] })

code_with : List Grant → List (List ℕ) → List (List ℕ) → List Body → List c.Scope → List Instance → Instance → Code
code_with g m t b s i x = record { grants = g; methods = m; texts = t; bodies = b; scopes = s; instances = i; main = x }

pub lowered_is : (p q : Program) (starts st : Starts) (g : List Grant) (m t : List (List ℕ)) (b : List Body) (s : List c.Scope) (i : List Instance) (x : Instance) → q ≡ p → st ≡ starts →
    g ≡ grants_code (scope_names (slice_get p.scopes (last_scope p.scopes))) → m ≡ method_table q → t ≡ text_table q → b ≡ scopes_bodies q st q.scopes → s ≡ scopes_code q st 0 q.scopes →
    x ≡ main_code starts.main.name starts.main.scope → i ≡ map instance_code starts.instances →
    record { grants = g; methods = m; texts = t; bodies = b; scopes = s; instances = i; main = x } ≡ lowered p starts
unfolding lowered code_with
lowered_is p q starts st g m t b s i x same order eg em et eb es ex ei =
    let grants = grants_code (scope_names (slice_get p.scopes (last_scope p.scopes))) in
    let bodies = eb ∙ ap₂ (λ (y : Program) z. scopes_bodies y z y.scopes) same order in
    let scopes = es ∙ ap₂ (λ (y : Program) z. scopes_code y z 0 y.scopes) same order in
    ap (λ y. code_with y m t b s i x) eg
    ∙ ap (λ y. code_with grants y t b s i x) (em ∙ ap method_table same)
    ∙ ap (λ y. code_with grants (method_table p) y b s i x) (et ∙ ap text_table same)
    ∙ ap (λ y. code_with grants (method_table p) (text_table p) y s i x) bodies
    ∙ ap (λ y. code_with grants (method_table p) (text_table p) (scopes_bodies p starts p.scopes) y i x) scopes
    ∙ ap (λ y. code_with grants (method_table p) (text_table p) (scopes_bodies p starts p.scopes) (scopes_code p starts 0 p.scopes) y x) ei
    ∙ ap (λ y. code_with grants (method_table p) (text_table p) (scopes_bodies p starts p.scopes) (scopes_code p starts 0 p.scopes) (map instance_code starts.instances) y) ex
