-- What is in sight, by the last variable of each name and the fields.
use Rattle.std.proofs.Common.{◌≡◌, ℕ, zero, suc, List, [], ◌∷◌, ◌++◌, take, drop, Bool, true, false, refl, sym, ap, ◌∙◌, Option, Some, None, if◌then◌else◌, arith, nat_le}
use Rattle.wy_types.specs.declared.code.Binding.{Binding}
use Rattle.wy_types.specs.declared.code.Binding.TheVariants as to
use Rattle.wy_bodies.specs.declared.sight.Entry.{Entry}
use Rattle.wy_bodies.specs.declared.sight.Latest.{Latest}
use Rattle.wy_symbols.specs.Declarations.{same_name}
use Rattle.wy_bodies.specs.Sight.{nearest, seen}
use Rattle.wy_bodies.specs.InSight.{Known, known_entry, entries, later, latest, Frame, field_entries, sight_of, or_else}

abbrev bound_of : Latest → Binding
bound_of l = to.Variable l.variable

-- what a look-up finds: a variable that came after the fields, else a field, else a variable that came before them
abbrev pub chosen : ℕ → Option Latest → Option Binding → Option Binding
chosen start None f = f
chosen start (Some l) f = if nat_le start l.number then Some (bound_of l) else or_else f (Some (bound_of l))

or_else-assoc : (a b c : Option Binding) → or_else (or_else a b) c ≡ or_else a (or_else b c)
or_else-assoc (Some a) b c = refl
or_else-assoc None b c = refl

or_none : (a : Option Binding) → or_else a None ≡ a
or_none (Some a) = refl
or_none None = refl

one_of : Entry → List ℕ → Option Binding
one_of e x = if same_name e.name x then Some e.bound else None

nearest_is : (o : Option Binding) (e : Entry) (x : List ℕ) → nearest o e x ≡ or_else o (one_of e x)
unfolding one_of
nearest_is (Some b) e x = refl
nearest_is None e x = refl

pub seen-append : (xs ys : List Entry) (x : List ℕ) → seen (xs ++ ys) x ≡ or_else (seen ys x) (seen xs x)
seen-append [] ys x = sym (or_none (seen ys x))
seen-append (e ∷ xs) ys x =
    ap (λ o. nearest o e x) (seen-append xs ys x)
    ∙ nearest_is (or_else (seen ys x) (seen xs x)) e x
    ∙ or_else-assoc (seen ys x) (seen xs x) (one_of e x)
    ∙ ap (or_else (seen ys x)) (sym (nearest_is (seen xs x) e x))

bound_if : Option Latest → Option Binding
bound_if None = None
bound_if (Some l) = Some (bound_of l)

seen_latest : (ks : List Known) (x : List ℕ) → seen (entries ks) x ≡ bound_if (latest ks x)
unfolding bound_if
seen_latest [] x = refl
seen_latest (k ∷ ks) x =
    let P : Option Latest → Type 0 = λ o. nearest (bound_if o) (known_entry k) x ≡ bound_if (later o k x) in
    let Q : Bool → Type 0 = λ b. (if b then Some (to.Variable k.variable) else None) ≡ bound_if (if b then Some (record { number = 0; variable = k.variable }) else None) in
    ap (λ o. nearest o (known_entry k) x) (seen_latest ks x) ∙ elim (latest ks x) as P [ Some l ↦ refl | None ↦ elim (same_name k.name x) as Q [ true ↦ refl | false ↦ refl ] ]

zero_least : (n : ℕ) → nat_le 0 n ≡ true
zero_least n = grind arith

above_zero : (n : ℕ) → nat_le (suc n) 0 ≡ false
above_zero n = grind arith

both_next : (m n : ℕ) → nat_le (suc m) (suc n) ≡ nat_le m n
both_next m n = grind arith

chosen_first : (o : Option Latest) (f : Option Binding) → or_else (bound_if o) f ≡ chosen 0 o f
unfolding bound_if
chosen_first None f = refl
chosen_first (Some l) f = ap (λ b. if b then Some (bound_of l) else or_else f (Some (bound_of l))) (sym (zero_least l.number))

chosen_next : (start : ℕ) (o : Option Latest) (f : Option Binding) (k : Known) (x : List ℕ) → nearest (chosen start o f) (known_entry k) x ≡ chosen (suc start) (later o k x) f
unfolding one_of
chosen_next start None f k x =
    let P : Bool → Type 0 = λ b. or_else f (if b then Some (to.Variable k.variable) else None) ≡ chosen (suc start) (if b then Some (record { number = 0; variable = k.variable }) else None) f in
    nearest_is f (known_entry k) x ∙ elim (same_name k.name x) as P [ true ↦ ap (λ b. if b then Some (to.Variable k.variable) else or_else f (Some (to.Variable k.variable))) (sym (above_zero start)) | false ↦ or_none f ]
chosen_next start (Some l) f k x =
    let P : Bool → Type 0 = λ b. nearest (if b then Some (bound_of l) else or_else f (Some (bound_of l))) (known_entry k) x ≡ (if b then Some (bound_of l) else or_else f (Some (bound_of l))) in
    let Q : Option Binding → Type 0 = λ g. nearest (or_else g (Some (bound_of l))) (known_entry k) x ≡ or_else g (Some (bound_of l)) in
    elim (nat_le start l.number) as P [ true ↦ refl | false ↦ elim f as Q [ Some b ↦ refl | None ↦ refl ] ]
    ∙ ap (λ b. if b then Some (bound_of l) else or_else f (Some (bound_of l))) (sym (both_next start l.number))

seen_between : (start : ℕ) (fs : List Entry) (ks : List Known) (x : List ℕ) → seen (entries (take start ks) ++ (fs ++ entries (drop start ks))) x ≡ chosen start (latest ks x) (seen fs x)
seen_between zero fs ks x = seen-append fs (entries ks) x ∙ ap (λ o. or_else o (seen fs x)) (seen_latest ks x) ∙ chosen_first (latest ks x) (seen fs x)
seen_between (suc start) fs [] x = seen-append fs [] x
seen_between (suc start) fs (k ∷ ks) x =
    ap (λ o. nearest o (known_entry k) x) (seen_between start fs ks x) ∙ chosen_next start (latest ks x) (seen fs x) k x

pub seen_chosen : (f : Frame) (ks : List Known) (x : List ℕ) → seen (sight_of f ks).entries x ≡ chosen f.start (latest ks x) (seen (field_entries 0 f.fields) x)
seen_chosen f ks x = seen_between f.start (field_entries 0 f.fields) ks x
