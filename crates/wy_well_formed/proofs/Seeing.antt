-- What is in sight fits: variables are among those seen, fields are the current object's, and own names have numbers.
use Rattle.std.proofs.Common.{◌≡◌, ℕ, zero, suc, ◌+◌, ◌<◌, List, [], ◌∷◌, ◌++◌, map, length, inl, inr, Bool as Truth, true, false, Option, Some, None, refl, sym, ap, ◌∙◌, subst, arith, append-nil, if◌then◌else◌}
use Rattle.std.specs.Prelude.{◌||◌, slice_get, IfSome}
use Rattle.std.specs.List.{range_with_len}
use Rattle.wy_syntax.specs.declared.types.Name.{Name}
use Rattle.wy_syntax.specs.declared.types.Param.{Param}
use Rattle.wy_syntax.specs.Trees as t
use Rattle.wy_text.specs.Members.{In, Within}
use Rattle.wy_text.proofs.Lists.{In-left, In-right, In-cases, In-map}
use Rattle.wy_types.specs.declared.code.Variable.{Variable}
use Rattle.wy_types.specs.declared.code.Variable.TheVariants.{Parameter, Local}
use Rattle.wy_types.specs.declared.code.Binding.{Binding}
use Rattle.wy_types.specs.declared.code.Binding.TheVariants as to
use Rattle.wy_types.specs.declared.resolved.Literal.{Literal}
use Rattle.wy_types.specs.Program.{Program, Scope}
use Rattle.wy_types.specs.Core.{HasThis, HasField, BindingFits}
use Rattle.wy_types.specs.Vals.{literal_fields, literal_captures}
use Rattle.wy_bodies.specs.declared.sight.Entry.{Entry}
use Rattle.wy_symbols.specs.Declarations.{same_name, first_from}
use Rattle.wy_bodies.specs.Sight.{Sight, entry, seen as last_bound, own_binding, or_own, with_val, with_params, inside, outermost, is_variable, variables, fields_from, params_from, captures, methods_write, parts_write, part_writes, tail_writes}
use Rattle.wy_bodies.specs.InSight.{or_else}
use Rattle.wy_bodies.specs.Bodies as names
use Rattle.wy_bodies.specs.Bodies.{fields_of, literal_of}
use Rattle.wy_bodies.specs.BodyRefusals.{value_refusals, unless_bound}
use Rattle.wy_symbols.proofs.Firsts.{number_below}
use Rattle.wy_well_formed.proofs.Sights.{some_same, last_bound_append, bound_entry, last_variable, variables_append, variables_again, variables_among, no_variables, all_variables, last_is_captured, captured_is_last}

-- what an entry stands for, where it is no variable
abbrev pub EntryFits : Scope → Option ℕ → Binding → Type 0
EntryFits s owner (to.Variable v) = Unit {0}
EntryFits s owner (to.Field i) = HasField s owner i
EntryFits s owner (to.Own k) = ⊥

-- of the names that a tree writes those that are variables are seen; all fields are the current object's
pub record Sees (s : Scope) (owner : Option ℕ) (vars : List Variable) (si : Sight) (Writes : List ℕ → Truth) : Type 0 where
  pub seen : (x : List ℕ) (v : Variable) → Writes x ≡ true → last_bound (variables si.entries) x ≡ Some (to.Variable v) → In v vars
  pub fields : (e : Entry) → In e si.entries → EntryFits s owner e.bound
  pub this : si.in_method ≡ true → HasThis owner

pub sees_part : (s : Scope) (owner : Option ℕ) (vars : List Variable) (si : Sight) (W V : List ℕ → Truth) → ((x : List ℕ) → V x ≡ true → W x ≡ true) → Sees s owner vars si W → Sees s owner vars si V
sees_part s owner vars si W V le h = record { seen = λ x v g e. h.seen x v (le x g) e; fields = h.fields; this = h.this }

-- the parts of what writes
pub writes_left : (a b : Truth) → a ≡ true → a || b ≡ true
writes_left true b h = refl
writes_left false b h = absurd (cc)

pub writes_right : (a b : Truth) → b ≡ true → a || b ≡ true
writes_right true b h = refl
writes_right false b h = h

pub sees_left : (s : Scope) (owner : Option ℕ) (vars : List Variable) (si : Sight) (W V : List ℕ → Truth) → Sees s owner vars si (λ x. W x || V x) → Sees s owner vars si W
sees_left s owner vars si W V h = sees_part s owner vars si (λ x. W x || V x) W (λ x g. writes_left (W x) (V x) g) h

pub sees_right : (s : Scope) (owner : Option ℕ) (vars : List Variable) (si : Sight) (W V : List ℕ → Truth) → Sees s owner vars si (λ x. W x || V x) → Sees s owner vars si V
sees_right s owner vars si W V h = sees_part s owner vars si (λ x. W x || V x) V (λ x g. writes_right (W x) (V x) g) h

-- at a start nothing is in sight
pub sees_nothing : (s : Scope) (W : List ℕ → Truth) → Sees s None [] outermost W
sees_nothing s W = record { seen = λ x v g e. absurd (cc); fields = λ e i. absurd i; this = λ e. absurd (cc) }

------------------------------------------------------------
-- Names

-- an own name
own_bound : (n : ℕ) (o : Option ℕ) (b : Binding) → IfSome o (λ r. r < n) → own_binding o ≡ Some b → (j : ℕ) × (j < n) × (to.Own j ≡ b)
own_bound n None b h e = absurd (cc)
own_bound n (Some j) b h e = (j, h, some_same (to.Own j) b e)

own_fits : (p : Program) (s : Scope) (owner : Option ℕ) (vars : List Variable) (own : List (List ℕ)) (x : List ℕ) (b : Binding) → length own ≡ length s.names → own_binding (first_from 0 own x) ≡ Some b → BindingFits p s owner vars b
own_fits p s owner vars own x b many e =
    let r = own_bound (length own) (first_from 0 own x) b (number_below own x) e in
    let below : r.0 < length s.names = omega (arith, r.1, many) in
    subst (BindingFits p s owner vars) r.2 below

-- an entry
entry_fits : (p : Program) (s : Scope) (owner : Option ℕ) (vars : List Variable) (si : Sight) (W : List ℕ → Truth) → Sees s owner vars si W →
    (x : List ℕ) (b : Binding) → W x ≡ true → EntryFits s owner b → last_bound si.entries x ≡ Some b → BindingFits p s owner vars b
entry_fits p s owner vars si W h x (to.Variable v) g f e = h.seen x v g (last_variable si.entries x v e)
entry_fits p s owner vars si W h x (to.Field i) g f e = f
entry_fits p s owner vars si W h x (to.Own k) g f e = absurd f

-- a name that is not refused stands for something that fits
pub name_fits : (p : Program) (s : Scope) (owner : Option ℕ) (vars : List Variable) (w : names.Within) (si : Sight) (W : List ℕ → Truth) → length w.own ≡ length s.names → Sees s owner vars si W →
    (n : Name) → W n.text ≡ true → value_refusals w si n ≡ [] → BindingFits p s owner vars (names.bound w si n)
name_fits p s owner vars w si W many h n g e =
    let O : Option Binding → Type 0 = λ o. o ≡ own_binding (first_from 0 w.own n.text) → unless_bound n o ≡ [] → BindingFits p s owner vars (names.bound_or_first o) in
    let own : (o : Option Binding) → O o = λ o. elim o as O [ Some b ↦ λ f k. own_fits p s owner vars w.own n.text b many (sym f) | None ↦ λ f k. absurd (cc) ] in
    let P : Option Binding → Type 0 = λ o. last_bound si.entries n.text ≡ o → unless_bound n (or_own o w.own n.text) ≡ [] → BindingFits p s owner vars (names.bound_or_first (or_own o w.own n.text)) in
    (elim (last_bound si.entries n.text) as P [
      | Some b ↦ λ f k.
          let r = bound_entry si.entries n.text b f in
          entry_fits p s owner vars si W h n.text b g (subst (EntryFits s owner) r.2 (h.fields r.0 r.1)) f
      | None ↦ λ f k. own (own_binding (first_from 0 w.own n.text)) refl k
    ]) refl e

------------------------------------------------------------
-- After a `val`

val_found : (name : List ℕ) (n : ℕ) (o : Option Binding) (x : List ℕ) (v : Variable) (vars : List Variable) →
    or_else (if same_name name x then Some (to.Variable (Local n)) else None) o ≡ Some (to.Variable v) → (o ≡ Some (to.Variable v) → In v vars) → In v (Local n ∷ vars)
val_found name n o x v vars e h =
    let P : Truth → Type 0 = λ c. or_else (if c then Some (to.Variable (Local n)) else None) o ≡ Some (to.Variable v) → In v (Local n ∷ vars) in
    (elim (same_name name x) as P [ true ↦ λ g. inl (cc) | false ↦ λ g. inr (h g) ]) e

pub sees_val : (s : Scope) (owner : Option ℕ) (vars : List Variable) (si : Sight) (W : List ℕ → Truth) (name : List ℕ) (n : ℕ) → Sees s owner vars si W → Sees s owner (Local n ∷ vars) (with_val si name n) W
sees_val s owner vars si W name n h =
    let one = entry name (to.Variable (Local n)) in
    record {
      seen = λ x v g e.
          let split : last_bound (variables (si.entries ++ one ∷ [])) x ≡ or_else (last_bound (one ∷ []) x) (last_bound (variables si.entries) x) =
          ap (λ l. last_bound l x) (variables_append si.entries (one ∷ [])) ∙ last_bound_append (variables si.entries) (one ∷ []) x in
          val_found name n (last_bound (variables si.entries) x) x v vars (sym split ∙ e) (λ f. h.seen x v g f);
      fields = λ e i.
          let P : Entry → Type 0 = λ d. EntryFits s owner d.bound in
          elim (In-cases e si.entries (one ∷ []) i) [ inl j ↦ h.fields e j | inr j ↦ elim j [ inl same ↦ subst P same tt | inr none ↦ absurd none ] ];
      this = h.this;
    }

------------------------------------------------------------
-- In a method of a literal

-- the literal's fields are below their number
fields_below : (w : names.Within) (k : ℕ) (ps : t.PartTrees) (e : Entry) → In e (fields_from k ps) → (i : ℕ) × (i < k + length (fields_of w ps)) × (e.bound ≡ to.Field i)
fields_below w k t.no_parts e i = absurd i
fields_below w k (t.more_parts (t.field kind x u r) ps) e (inl same) = (k, omega arith, sym (ap (λ (d : Entry). d.bound) same))
fields_below w k (t.more_parts (t.field kind x u r) ps) e (inr i) = (let h = fields_below w (k + 1) ps e i in (h.0, omega (arith, h.1), h.2))
fields_below w k (t.more_parts (t.method g b) ps) e i = fields_below w k ps e i

-- a number in a range
range_in : (from many j : ℕ) → j < many → In (from + j) (range_with_len from many)
range_in from zero j h = absurd (omega arith)
range_in from (suc many) zero h = inl (omega arith)
range_in from (suc many) (suc j) h =
    let same : (from + 1) + j ≡ from + suc j = omega arith in
    let P : ℕ → Type 0 = λ i. In i (range_with_len (from + 1) many) in
    inr (subst P same (range_in (from + 1) many j (omega arith)))

-- parameters are below their number
params_below : (body k : ℕ) (ps : List Param) (e : Entry) → In e (params_from body k ps) → (j : ℕ) × (j < length ps) × (e.bound ≡ to.Variable (Parameter body (k + j)))
params_below body k [] e i = absurd i
params_below body k (p ∷ ps) e (inl same) =
    let start : k ≡ k + 0 = omega arith in
    (0, omega arith, sym (ap (λ (d : Entry). d.bound) same) ∙ ap (λ i. to.Variable (Parameter body i)) start)
params_below body k (p ∷ ps) e (inr i) =
    let h = params_below body (k + 1) ps e i in
    let same : (k + 1) + h.0 ≡ k + suc h.0 = omega arith in
    (suc h.0, omega (arith, h.1), h.2 ∙ ap (λ j. to.Variable (Parameter body j)) same)

variable_same : (a b : Variable) → to.Variable a ≡ to.Variable b → a ≡ b
variable_same a b e = cc

param_seen : (body : ℕ) (ps : List Param) (x : List ℕ) (v : Variable) → last_bound (params_from body 0 ps) x ≡ Some (to.Variable v) → In v (map (λ i. Parameter body i) (range_with_len 0 (length ps)))
param_seen body ps x v e =
    let r = bound_entry (params_from body 0 ps) x (to.Variable v) e in
    let q = params_below body 0 ps r.0 r.1 in
    let same : Parameter body (0 + q.0) ≡ v = variable_same (Parameter body (0 + q.0)) v (sym q.2 ∙ r.2) in
    let P : Variable → Type 0 = λ u. In u (map (λ i. Parameter body i) (range_with_len 0 (length ps))) in
    subst P same (In-map (λ i. Parameter body i) (0 + q.0) (range_with_len 0 (length ps)) (range_in 0 (length ps) q.0 q.1))

-- what is found is found in one of two
or_else_cases : (a o : Option Binding) (v : Variable) (A : Type 0) → or_else a o ≡ Some (to.Variable v) → (a ≡ Some (to.Variable v) → A) → (o ≡ Some (to.Variable v) → A) → A
or_else_cases None o v A e f g = g e
or_else_cases (Some b) o v A e f g = f e

-- an entry that is a variable
variable_entry : (s : Scope) (owner : Option ℕ) (b : Binding) → is_variable b ≡ true → EntryFits s owner b
variable_entry s owner (to.Variable v) e = tt
variable_entry s owner (to.Field i) e = absurd (cc)
variable_entry s owner (to.Own k) e = absurd (cc)

-- a method sees what its literal captures and its own parameters
pub sees_method : (s : Scope) (w : names.Within) (si : Sight) (ps : t.PartTrees) (l body : ℕ) (params : List Param) (W : List ℕ → Truth) → slice_get s.literals l ≡ Some (literal_of w si ps) →
    ((x : List ℕ) → W x ≡ true → methods_write x ps ≡ true) →
    Sees s (Some l) (literal_captures (slice_get s.literals l) ++ map (λ i. Parameter body i) (range_with_len 0 (length params))) (with_params (inside si ps) body params) W
sees_method s w si ps l body params W at le =
    let mine = map (λ i. Parameter body i) (range_with_len 0 (length params)) in
    let all = literal_captures (slice_get s.literals l) ++ mine in
    let field_entries = fields_from 0 ps in
    let param_entries = params_from body 0 params in
    let es = (variables si.entries ++ field_entries) ++ param_entries in
    let those : variables es ≡ variables si.entries ++ param_entries =
    variables_append (variables si.entries ++ field_entries) param_entries
    ∙ ap (λ k. k ++ variables param_entries) (variables_append (variables si.entries) field_entries ∙ ap (λ k. variables (variables si.entries) ++ k) (no_variables 0 ps) ∙ append-nil (variables (variables si.entries)) ∙ variables_again si.entries)
    ∙ ap (λ k. variables si.entries ++ k) (all_variables body 0 params) in
    record {
      seen = λ x v g e.
          let split : or_else (last_bound param_entries x) (last_bound (variables si.entries) x) ≡ Some (to.Variable v) =
          sym (ap (λ k. last_bound k x) those ∙ last_bound_append (variables si.entries) param_entries x) ∙ e in
          or_else_cases (last_bound param_entries x) (last_bound (variables si.entries) x) v (In v all) split
          (λ f. In-right v (literal_captures (slice_get s.literals l)) mine (param_seen body params x v f))
          (λ f.
          let P : Option Literal → Type 0 = λ o. In v (literal_captures o) in
          In-left v (literal_captures (slice_get s.literals l)) mine (subst P (sym at) (last_is_captured (variables si.entries) ps x v (le x g) f)));
      fields = λ e i.
          elim (In-cases e (variables si.entries ++ field_entries) param_entries i) [
            | inl j ↦ elim (In-cases e (variables si.entries) field_entries j) [
              | inl q ↦ variable_entry s (Some l) e.bound (variables_among si.entries e q).1
              | inr q ↦
                  let r = fields_below w 0 ps e q in
                  let P : Option Literal → Type 0 = λ o. r.0 < length (literal_fields o) in
                  let below : r.0 < length (fields_of w ps) = omega (arith, r.1) in
                  subst (EntryFits s (Some l)) (sym r.2) (subst P (sym at) below)
            ]
            | inr j ↦ subst (EntryFits s (Some l)) (sym (params_below body 0 params e j).2) tt
          ];
      this = λ e. tt;
    }

-- what methods write the parts write
parts_write_methods : (x : List ℕ) (ps : t.PartTrees) → methods_write x ps ≡ true → parts_write x ps ≡ true
parts_write_methods x t.no_parts h = h
parts_write_methods x (t.more_parts (t.field k n u r) ps) h = writes_right (part_writes x (t.field k n u r)) (parts_write x ps) (parts_write_methods x ps h)
parts_write_methods x (t.more_parts (t.method g b) ps) h =
    let P : Truth → Type 0 = λ c. c || methods_write x ps ≡ true → c || parts_write x ps ≡ true in
    (elim (tail_writes x b) as P [ true ↦ λ f. refl | false ↦ λ f. parts_write_methods x ps f ]) h

-- a literal captures what is seen round its `new`
pub captures_seen : (s : Scope) (owner : Option ℕ) (vars : List Variable) (si : Sight) (ps : t.PartTrees) → Sees s owner vars si (λ x. parts_write x ps) → Within (captures si ps) vars
captures_seen s owner vars si ps h v i =
    let r = captured_is_last (variables si.entries) ps v i in
    h.seen r.0 v (parts_write_methods r.0 ps r.1) r.2
