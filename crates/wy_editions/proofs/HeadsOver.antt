-- The heads of a program's types over the table of primitive types of the edition before and over today's: they differ in the type
-- of one number alone, which no name but that type's own finds.
use Rattle.std.proofs.Common.{codes, ◌≡◌, ℕ, zero, suc, ◌+◌, ◌≤◌, Bool, true, false, ◌||◌, List, [], ◌∷◌, ◌++◌, map, Option, Some, refl, sym, ap, ap₂, ◌∙◌, arith, if◌then◌else◌}
use Rattle.wy_syntax.specs.declared.items.TypeDecl.{TypeDecl}
use Rattle.wy_types.specs.Primitive.{former_types, primitive_types}
use Rattle.wy_symbols.specs.declared.refusal.Cause.TheVariants.{Twice}
use Rattle.wy_symbols.specs.Least.{refusal_at}
use Rattle.wy_symbols.specs.Declarations.{same_name, has_name, first_from, repeated, type_names}
use Rattle.wy_symbols.specs.Atoms.{head, head_names, heads_over, members_of, table_names, type_number}
use Rattle.wy_symbols.proofs.Firsts.{same_exact}
use Rattle.wy_editions.proofs.TypeNames.{DeclsHave}
use Rattle.wy_editions.proofs.Alike.{HeadsAlike}

-- a name that is neither the type's that one table lacks nor that of the type in its place
abbrev pub IsOld : List ℕ → Type 0
IsOld x = (x ≡ codes "FullFolder" → ⊥) × (x ≡ codes "no type" → ⊥)

not_same : (name x : List ℕ) → (x ≡ name → ⊥) → same_name name x ≡ false
not_same name x h =
    elim (same_name name x) as (λ (b : Bool). same_name name x ≡ b → b ≡ false) [
      | true ↦ λ e. absurd (h (same_exact name x e))
      | false ↦ λ e. refl
    ] refl

-- the one name and the other are alike none of an old name
neither : (x : List ℕ) → IsOld x → same_name (codes "no type") x ≡ same_name (codes "FullFolder") x
neither x ok = not_same (codes "no type") x ok.1 ∙ sym (not_same (codes "FullFolder") x ok.0)

------------------------------------------------------------
-- Numbers

-- the number of a name over a table, by whether it is the fifth type's
abbrev numbered : List TypeDecl → List ℕ → Bool → Option ℕ
numbered types x fifth =
    if same_name (codes "Console") x then Some 0 else
    (if same_name (codes "Folder") x then Some 1 else
    (if same_name (codes "Clock") x then Some 2 else
    (if same_name (codes "Random") x then Some 3 else (if fifth then Some 4 else first_from 5 (head_names (map head types)) x))))

numbers_same : (types : List TypeDecl) (x : List ℕ) → IsOld x →
    type_number (head_names (heads_over former_types types)) x ≡ type_number (head_names (heads_over primitive_types types)) x
numbers_same types x ok = ap (numbered types x) (neither x ok)

first_above : (k : ℕ) (ns : List (List ℕ)) (x : List ℕ) (d : ℕ) → first_from k ns x ≡ Some d → k ≤ d
first_above k [] x d e = cc
first_above k (n ∷ ns) x d e =
    elim (same_name n x) as (λ (b : Bool). (if b then Some k else first_from (k + 1) ns x) ≡ Some d → k ≤ d) [
      | true ↦ λ f. (let q : k ≡ d = cc in omega arith)
      | false ↦ λ f. (let q = first_above (k + 1) ns x d f in omega arith)
    ] e

-- it is the number `k`, or the rest's
unless : (b : Bool) (k : ℕ) (o : Option ℕ) → (k ≡ 4 → ⊥) → ((d : ℕ) → o ≡ Some d → d ≡ 4 → ⊥) → (d : ℕ) → (if b then Some k else o) ≡ Some d → d ≡ 4 → ⊥
unless true k o n h d e f = (let q : k ≡ d = cc in n (q ∙ f))
unless false k o n h d e f = h d e f

number_not : (types : List TypeDecl) (x : List ℕ) → IsOld x → (d : ℕ) → type_number (head_names (heads_over former_types types)) x ≡ Some d → d ≡ 4 → ⊥
number_not types x ok d e =
    let declared : Option ℕ = first_from 5 (head_names (map head types)) x in
    let late : (c : ℕ) → declared ≡ Some c → c ≡ 4 → ⊥ = λ c f q. (let above = first_above 5 (head_names (map head types)) x c f in omega arith) in
    unless (same_name (codes "Console") x) 0 _ (omega arith) (
    unless (same_name (codes "Folder") x) 1 _ (omega arith) (
    unless (same_name (codes "Clock") x) 2 _ (omega arith) (unless (same_name (codes "Random") x) 3 declared (omega arith) late)
    )
    ) d (sym (ap (numbered types x) (not_same (codes "no type") x ok.1)) ∙ e)

------------------------------------------------------------
-- Members

members_same : (types : List TypeDecl) (d : ℕ) → (d ≡ 4 → ⊥) → members_of (heads_over former_types types) d ≡ members_of (heads_over primitive_types types) d
members_same types zero n = refl
members_same types (suc zero) n = refl
members_same types (suc (suc zero)) n = refl
members_same types (suc (suc (suc zero))) n = refl
members_same types (suc (suc (suc (suc zero)))) n = absurd (n refl)
members_same types (suc (suc (suc (suc (suc d))))) n = refl

pub heads_alike : (types : List TypeDecl) → HeadsAlike IsOld 4 (heads_over former_types types) (heads_over primitive_types types)
heads_alike types = record { numbers = numbers_same types; number_not = number_not types; members = members_same types }

------------------------------------------------------------
-- Repeated names

has_same : (x : List ℕ) (after : List (List ℕ)) → IsOld x → has_name x (table_names former_types ++ after) ≡ has_name x (table_names primitive_types ++ after)
has_same x after ok =
    ap
    (λ (b : Bool).
    same_name (codes "Console") x ||
    (same_name (codes "Folder") x || (same_name (codes "Clock") x || (same_name (codes "Random") x || (b || has_name x after)))))
    (neither x ok)

repeated_after : (after : List (List ℕ)) (types : List TypeDecl) → DeclsHave IsOld types →
    repeated (table_names former_types ++ after) (type_names types) ≡ repeated (table_names primitive_types ++ after) (type_names types)
repeated_after after [] h = refl
repeated_after after (d ∷ ds) h =
    ap₂ (λ b rest. (if b then refusal_at d.name.place Twice ∷ [] else []) ++ rest) (has_same d.name.text after h.0.0) (repeated_after (after ++ d.name.text ∷ []) ds h.1)

pub repeated_same : (types : List TypeDecl) → DeclsHave IsOld types →
    repeated (table_names former_types) (type_names types) ≡ repeated (table_names primitive_types) (type_names types)
repeated_same types h = repeated_after [] types h
