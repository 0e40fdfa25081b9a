-- What entries in sight stand for: the last entry of a name, its variables, and what a literal captures of them.
use Rattle.std.proofs.Common.{◌≡◌, ℕ, ◌+◌, List, [], ◌∷◌, ◌++◌, ◌⊎◌, inl, inr, Bool as Truth, true, false, Option, Some, None, refl, sym, ap, ◌∙◌, subst, if◌then◌else◌}
use Rattle.std.specs.Prelude.{◌||◌, ◌&&◌, not}
use Rattle.wy_syntax.specs.Trees as t
use Rattle.wy_syntax.specs.declared.types.Param.{Param}
use Rattle.wy_text.specs.Members.{In}
use Rattle.wy_text.proofs.Lists.{In-right, In-cases}
use Rattle.wy_types.specs.declared.code.Variable.{Variable}
use Rattle.wy_types.specs.declared.code.Variable.TheVariants.{Parameter}
use Rattle.wy_types.specs.declared.code.Binding.{Binding}
use Rattle.wy_types.specs.declared.code.Binding.TheVariants as to
use Rattle.wy_bodies.specs.declared.sight.Entry.{Entry}
use Rattle.wy_symbols.specs.Declarations.{same_name, has_name}
use Rattle.wy_bodies.specs.Sight.{entry, nearest, seen as last_bound, is_variable, variables, variable_of, entry_names, written_of, methods_write, fields_from, params_from}
use Rattle.wy_bodies.specs.InSight.{or_else}
use Rattle.wy_symbols.proofs.Firsts.{same_exact, same_itself}

pub some_same : {X : Type 0} (a b : X) → ◌≡◌ {A = Option X} (Some a) (Some b) → a ≡ b
some_same a b e = cc

-- a look-up's answer is found, or there is none
abbrev Answer : Option Binding → Type 0
Answer o = (o ≡ None) ⊎ ((b : Binding) × (o ≡ Some b))

answer : (o : Option Binding) → Answer o
answer None = inl refl
answer (Some b) = inr (b, refl)

-- what one entry gives for a name
abbrev one_bound : Entry → List ℕ → Option Binding
one_bound e x = if same_name e.name x then Some e.bound else None

later_bound : (e : Entry) (es : List Entry) (x : List ℕ) (b : Binding) → last_bound es x ≡ Some b → last_bound (e ∷ es) x ≡ Some b
later_bound e es x b h = ap (λ o. nearest o e x) h

first_bound : (e : Entry) (es : List Entry) (x : List ℕ) → last_bound es x ≡ None → last_bound (e ∷ es) x ≡ one_bound e x
first_bound e es x h = ap (λ o. nearest o e x) h

one_bound_is : (e : Entry) (x : List ℕ) (b : Binding) → one_bound e x ≡ Some b → (same_name e.name x ≡ true) × (e.bound ≡ b)
one_bound_is e x b h =
    let P : Truth → Type 0 = λ c. same_name e.name x ≡ c → (if c then Some e.bound else None) ≡ Some b → (same_name e.name x ≡ true) × (e.bound ≡ b) in
    (elim (same_name e.name x) as P [ true ↦ λ g k. (g, some_same e.bound b k) | false ↦ λ g k. absurd (cc) ]) refl h

-- what is found is what an entry stands for
pub bound_entry : (es : List Entry) (x : List ℕ) (b : Binding) → last_bound es x ≡ Some b → (e : Entry) × In e es × (e.bound ≡ b)
bound_entry [] x b h = absurd (cc)
bound_entry (e ∷ es) x b h =
    elim (answer (last_bound es x)) [
      | inl none ↦ (e, inl refl, (one_bound_is e x b (sym (first_bound e es x none) ∙ h)).1)
      | inr found ↦
          let same : found.0 ≡ b = some_same found.0 b (sym (later_bound e es x found.0 found.1) ∙ h) in
          let r = bound_entry es x b (found.1 ∙ ap (λ c. Some c) same) in
          (r.0, inr r.1, r.2)
    ]

-- what comes later is looked at first
or_none : (o : Option Binding) → or_else o None ≡ o
or_none None = refl
or_none (Some b) = refl

nearest_else : (o : Option Binding) (e : Entry) (x : List ℕ) → nearest o e x ≡ or_else o (one_bound e x)
nearest_else None e x = refl
nearest_else (Some b) e x = refl

or_else_assoc : (a b c : Option Binding) → or_else (or_else a b) c ≡ or_else a (or_else b c)
or_else_assoc None b c = refl
or_else_assoc (Some a) b c = refl

pub last_bound_append : (es fs : List Entry) (x : List ℕ) → last_bound (es ++ fs) x ≡ or_else (last_bound fs x) (last_bound es x)
last_bound_append [] fs x = sym (or_none (last_bound fs x))
last_bound_append (e ∷ es) fs x =
    ap (λ o. nearest o e x) (last_bound_append es fs x)
    ∙ nearest_else (or_else (last_bound fs x) (last_bound es x)) e x
    ∙ or_else_assoc (last_bound fs x) (last_bound es x) (one_bound e x)
    ∙ ap (or_else (last_bound fs x)) (sym (nearest_else (last_bound es x) e x))

-- variables alone
variables_of_none : (es : List Entry) (x : List ℕ) → last_bound es x ≡ None → last_bound (variables es) x ≡ None
variables_of_none [] x h = refl
variables_of_none (e ∷ es) x h =
    elim (answer (last_bound es x)) [
      | inl none ↦
          let rest = variables_of_none es x none in
          let one : one_bound e x ≡ None = sym (first_bound e es x none) ∙ h in
          let P : Truth → Type 0 = λ c. last_bound (if c then e ∷ variables es else variables es) x ≡ None in
          elim (is_variable e.bound) as P [ true ↦ first_bound e (variables es) x rest ∙ one | false ↦ rest ]
      | inr found ↦ absurd (let e = sym (later_bound e es x found.0 found.1) ∙ h in cc)
    ]

variable_is : (b : Binding) (v : Variable) → b ≡ to.Variable v → is_variable b ≡ true
variable_is b v h = ap is_variable h

-- the last entry of a name, where it is a variable, is the last variable of the name
pub last_variable : (es : List Entry) (x : List ℕ) (v : Variable) → last_bound es x ≡ Some (to.Variable v) → last_bound (variables es) x ≡ Some (to.Variable v)
last_variable [] x v h = absurd (cc)
last_variable (e ∷ es) x v h =
    elim (answer (last_bound es x)) [
      | inl none ↦
          let one = sym (first_bound e es x none) ∙ h in
          let is = (one_bound_is e x (to.Variable v) one).1 in
          let P : Truth → Type 0 = λ c. last_bound (if c then e ∷ variables es else variables es) x ≡ Some (to.Variable v) in
          subst P (sym (variable_is e.bound v is)) (first_bound e (variables es) x (variables_of_none es x none) ∙ one)
      | inr found ↦
          let same : found.0 ≡ to.Variable v = some_same found.0 (to.Variable v) (sym (later_bound e es x found.0 found.1) ∙ h) in
          let rest = last_variable es x v (found.1 ∙ ap (λ c. Some c) same) in
          let P : Truth → Type 0 = λ c. last_bound (if c then e ∷ variables es else variables es) x ≡ Some (to.Variable v) in
          elim (is_variable e.bound) as P [ true ↦ later_bound e (variables es) x (to.Variable v) rest | false ↦ rest ]
    ]

pub variables_append : (es fs : List Entry) → variables (es ++ fs) ≡ variables es ++ variables fs
variables_append [] fs = refl
variables_append (e ∷ es) fs =
    let P : Truth → Type 0 = λ c. (if c then e ∷ variables (es ++ fs) else variables (es ++ fs)) ≡ (if c then e ∷ variables es else variables es) ++ variables fs in
    elim (is_variable e.bound) as P [ true ↦ ap (λ l. e ∷ l) (variables_append es fs) | false ↦ variables_append es fs ]

pub variables_again : (es : List Entry) → variables (variables es) ≡ variables es
variables_again [] = refl
variables_again (e ∷ es) =
    let P : Truth → Type 0 = λ c. is_variable e.bound ≡ c → variables (if c then e ∷ variables es else variables es) ≡ (if c then e ∷ variables es else variables es) in
    (elim (is_variable e.bound) as P [
      | true ↦ λ h. (let Q : Truth → Type 0 = λ c. (if c then e ∷ variables (variables es) else variables (variables es)) ≡ e ∷ variables es in subst Q (sym h) (ap (λ l. e ∷ l) (variables_again es)))
      | false ↦ λ h. variables_again es
    ]) refl

-- each is one of the entries
pub variables_among : (es : List Entry) (e : Entry) → In e (variables es) → In e es × (is_variable e.bound ≡ true)
variables_among [] e i = absurd i
variables_among (f ∷ es) e i =
    let P : Truth → Type 0 = λ c. is_variable f.bound ≡ c → In e (if c then f ∷ variables es else variables es) → In e (f ∷ es) × (is_variable e.bound ≡ true) in
    (elim (is_variable f.bound) as P [
      | true ↦ λ h g. elim g [
        | inl same ↦ (inl same, let Q : Entry → Type 0 = λ d. is_variable d.bound ≡ true in subst Q same h)
        | inr j ↦ (let r = variables_among es e j in (inr r.0, r.1))
      ]
      | false ↦ λ h g. (let r = variables_among es e g in (inr r.0, r.1))
    ]) refl i

-- fields are no variables, and parameters are
pub no_variables : (k : ℕ) (ps : t.PartTrees) → variables (fields_from k ps) ≡ []
no_variables k t.no_parts = refl
no_variables k (t.more_parts (t.field kind x u r) ps) = no_variables (k + 1) ps
no_variables k (t.more_parts (t.method g b) ps) = no_variables k ps

pub all_variables : (body k : ℕ) (ps : List Param) → variables (params_from body k ps) ≡ params_from body k ps
all_variables body k [] = refl
all_variables body k (p ∷ ps) = ap (λ l. entry p.name.text (to.Variable (Parameter body k)) ∷ l) (all_variables body (k + 1) ps)

------------------------------------------------------------
-- Captures

-- a name that no entry has
unnamed : (es : List Entry) (x : List ℕ) → has_name x (entry_names es) ≡ false → last_bound es x ≡ None
unnamed [] x h = refl
unnamed (e ∷ es) x h =
    let P : Truth → Type 0 = λ c. same_name e.name x ≡ c → c || has_name x (entry_names es) ≡ false → last_bound (e ∷ es) x ≡ None in
    (elim (same_name e.name x) as P [
      | true ↦ λ g k. absurd (cc)
      | false ↦ λ g k. first_bound e es x (unnamed es x k) ∙ ap (λ c. if c then Some e.bound else None) g
    ]) refl h

named : (es : List Entry) (x : List ℕ) → last_bound es x ≡ None → has_name x (entry_names es) ≡ false
named [] x h = refl
named (e ∷ es) x h =
    elim (answer (last_bound es x)) [
      | inl none ↦
          let one : one_bound e x ≡ None = sym (first_bound e es x none) ∙ h in
          let P : Truth → Type 0 = λ c. (if c then Some e.bound else None) ≡ None → c || has_name x (entry_names es) ≡ false in
          (elim (same_name e.name x) as P [ true ↦ λ g. absurd (cc) | false ↦ λ g. named es x none ]) one
      | inr found ↦ absurd (let e = sym (later_bound e es x found.0 found.1) ∙ h in cc)
    ]

-- whether an entry is captured
abbrev is_captured : Entry → List Entry → t.PartTrees → Truth
is_captured e es ps = not (has_name e.name (entry_names es)) && methods_write e.name ps

both_true : (a b : Truth) → a ≡ false → b ≡ true → not a && b ≡ true
both_true false b h g = g
both_true true b h g = absurd (cc)

of_both : (a b : Truth) → not a && b ≡ true → (a ≡ false) × (b ≡ true)
of_both false b h = (refl, h)
of_both true b h = absurd (cc)

-- the last variable of a name that methods write is captured
pub last_is_captured : (es : List Entry) (ps : t.PartTrees) (x : List ℕ) (v : Variable) → methods_write x ps ≡ true → last_bound es x ≡ Some (to.Variable v) → In v (written_of es ps)
last_is_captured [] ps x v hw h = absurd (cc)
last_is_captured (e ∷ es) ps x v hw h =
    elim (answer (last_bound es x)) [
      | inl none ↦
          let one = one_bound_is e x (to.Variable v) (sym (first_bound e es x none) ∙ h) in
          let same : x ≡ e.name = same_exact e.name x one.0 in
          let P : List ℕ → Type 0 = λ y. (has_name y (entry_names es) ≡ false) × (methods_write y ps ≡ true) in
          let here : P e.name = subst P same (named es x none, hw) in
          let yes : is_captured e es ps ≡ true = both_true (has_name e.name (entry_names es)) (methods_write e.name ps) here.0 here.1 in
          let Q : Truth → Type 0 = λ c. In v ((if c then variable_of e.bound else []) ++ written_of es ps) in
          let R : Binding → Type 0 = λ b. In v (variable_of b ++ written_of es ps) in
          subst Q (sym yes) (subst R (sym one.1) (inl refl))
      | inr found ↦
          let is : found.0 ≡ to.Variable v = some_same found.0 (to.Variable v) (sym (later_bound e es x found.0 found.1) ∙ h) in
          In-right v (if is_captured e es ps then variable_of e.bound else []) (written_of es ps)
          (last_is_captured es ps x v hw (found.1 ∙ ap (λ c. Some c) is))
    ]

-- a variable of an entry
variable_at : (b : Binding) (v : Variable) → In v (variable_of b) → b ≡ to.Variable v
variable_at (to.Variable u) v i = elim i [ inl e ↦ ap (λ y. to.Variable y) e | inr j ↦ absurd j ]
variable_at (to.Field k) v i = absurd i
variable_at (to.Own k) v i = absurd i

-- what is captured is the last variable of a name that methods write
pub captured_is_last : (es : List Entry) (ps : t.PartTrees) (v : Variable) → In v (written_of es ps) → (x : List ℕ) × (methods_write x ps ≡ true) × (last_bound es x ≡ Some (to.Variable v))
captured_is_last [] ps v i = absurd i
captured_is_last (e ∷ es) ps v i =
    elim (In-cases v (if is_captured e es ps then variable_of e.bound else []) (written_of es ps) i) [
      | inl here ↦
          let P : Truth → Type 0 = λ c. is_captured e es ps ≡ c → In v (if c then variable_of e.bound else []) → (x : List ℕ) × (methods_write x ps ≡ true) × (last_bound (e ∷ es) x ≡ Some (to.Variable v)) in
          (elim (is_captured e es ps) as P [
            | true ↦ λ yes h.
                let both = of_both (has_name e.name (entry_names es)) (methods_write e.name ps) yes in
                (e.name, both.1, first_bound e es e.name (unnamed es e.name both.0) ∙ ap (λ c. if c then Some e.bound else None) (same_itself e.name) ∙ ap (λ b. Some b) (variable_at e.bound v h))
            | false ↦ λ no h. absurd h
          ]) refl here
      | inr there ↦ (let r = captured_is_last es ps v there in (r.0, r.1, later_bound e es r.0 (to.Variable v) r.2))
    ]
