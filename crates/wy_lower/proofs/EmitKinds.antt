-- The kinds of objects of a scope.
use Rattle.std.proofs.Common.{◌≡◌, ◌<◌, ℕ, zero, suc, ◌+◌, Bool, true, false, List, [], ◌∷◌, ◌++◌, length, Some, refl, sym, ap, ◌∙◌, arith, append_assoc, append-nil, nat_eq, if◌then◌else◌}
use Rattle.std.specs.Prelude.{slice_get}
use Rattle.wy_types.specs.declared.code.Variable.{Variable}
use Rattle.wy_types.specs.Program.{Program, Scope, Body}
use Rattle.wy_code.specs.declared.code.Method.{Method}
use Rattle.wy_meaning.specs.Starts.{Starts}
use Rattle.wy_lower.specs.Parts.{number_in}
use Rattle.wy_lower.specs.Inside.{capture_sources}
use Rattle.wy_lower.specs.Lowering.{owned_names, method_table, methods_code, inside_maker, captures_code}

pub below_end : {X : Type 0} (xs : List X) (i : ℕ) (x : X) → slice_get xs i ≡ Some x → i < length xs
below_end [] i x e = cc
below_end (y ∷ ys) zero x e = omega arith
below_end (y ∷ ys) (suc i) x e = (let h = below_end ys i x e in omega arith)

-- the captures of a literal that is not the module
pub captures_is : (p : Program) (starts : Starts) (s : Scope) (l : ℕ) (xs : List Variable) → (l ≡ 0 → ⊥) → captures_code p starts s l xs ≡ capture_sources (inside_maker p starts s l 0 s.bodies) xs
captures_is p starts s zero xs h = absurd (h refl)
captures_is p starts s (suc l) xs h = refl

-- the name of one method more
pub names_more : (m : ℕ) (x : Body) (rest : List Body) (old : List (List ℕ)) →
    (old ++ (if nat_eq x.owner m then x.signature.name ∷ [] else [])) ++ owned_names m rest ≡ old ++ owned_names m (x ∷ rest)
names_more m x rest old =
    let left = owned_names m rest in
    let P : Bool → Type 0 = λ t. (old ++ (if t then x.signature.name ∷ [] else [])) ++ left ≡ old ++ (if t then x.signature.name ∷ left else left) in
    elim (nat_eq x.owner m) as P [ true ↦ append_assoc old (x.signature.name ∷ []) left | false ↦ ap (λ l. l ++ left) (append-nil old) ]

-- one method more
pub methods_more : (p : Program) (m j next : ℕ) (x : Body) (rest : List Body) (old : List Method) (q n : ℕ) → j + 1 ≡ next → q ≡ number_in (method_table p) x.signature.name → n ≡ j →
    (old ++ (if nat_eq x.owner m then record { method = q; body = n } ∷ [] else [])) ++ methods_code p m next rest ≡ old ++ methods_code p m j (x ∷ rest)
methods_more p m j next x rest old q n step name number =
    let given : Method = record { method = q; body = n } in
    let own : Method = record { method = number_in (method_table p) x.signature.name; body = j } in
    let same : given ≡ own = ap (λ (z : ℕ). method_of z n) name ∙ ap (λ (z : ℕ). method_of (number_in (method_table p) x.signature.name) z) number in
    let left = methods_code p m next rest in
    let P : Bool → Type 0 = λ t. (old ++ (if t then given ∷ [] else [])) ++ left ≡ old ++ (if t then own ∷ methods_code p m (j + 1) rest else methods_code p m (j + 1) rest) in
    elim (nat_eq x.owner m) as P [
      | true ↦ append_assoc old (given ∷ []) left ∙ ap (λ y. old ++ y ∷ left) same ∙ ap (λ i. old ++ own ∷ methods_code p m i rest) (sym step)
      | false ↦ ap (λ l. l ++ left) (append-nil old) ∙ ap (λ i. old ++ methods_code p m i rest) (sym step)
    ]
  where
    method_of : ℕ → ℕ → Method
    method_of a b = record { method = a; body = b }
