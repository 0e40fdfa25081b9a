-- The least refusal of a list.
use Rattle.std.proofs.Common.{◌≡◌, ℕ, List, [], ◌∷◌, ◌++◌, Bool, true, false, refl, sym, ap, ◌∙◌, Option, Some, None, inl, inr, ◌⊎◌, arith, if◌then◌else◌}
use Rattle.std.specs.Prelude.{◌||◌, ◌&&◌, nat_lt, ◌==◌}
use Rattle.std.proofs.lemmas.Grind.{common_steps}
use Rattle.wy_text.specs.Members.{In}
use Rattle.wy_symbols.specs.declared.refusal.Refusal.{Refusal}
use Rattle.wy_symbols.specs.Least.{comes_before, lesser, noted, cause_number, IsLeast}

-- the order by four numbers
unfoldable pub precedes : ℕ → ℕ → ℕ → ℕ → ℕ → ℕ → ℕ → ℕ → Bool
precedes f l c n g m d o =
    (if f == g then (if l == m then nat_lt c d else nat_lt l m) else nat_lt f g) || ((f == g && (l == m && c == d)) && nat_lt n o)

not_after : (f l c n g m d o : ℕ) → precedes f l c n g m d o ≡ true → precedes g m d o f l c n ≡ false
unfolding precedes
not_after f l c n g m d o h = grind (arith, common_steps, h)

-- by one number, and where it is the same by another test
lexical : ℕ → ℕ → Bool → Bool
lexical x y b = nat_lt x y || (x == y && b)

lexical_four : (f l c n g m d o : ℕ) → precedes f l c n g m d o ≡ lexical f g (lexical l m (lexical c d (nat_lt n o)))
unfolding precedes lexical
lexical_four f l c n g m d o = grind (arith, common_steps)

lexical_through : (x y z : ℕ) (a b c : Bool) → (a ≡ false → b ≡ false → c ≡ false) → lexical x y a ≡ false → lexical y z b ≡ false → lexical x z c ≡ false
unfolding lexical
lexical_through x y z a b c w p q = grind (arith, common_steps, w, p, q)

below_through : (n o p : ℕ) → nat_lt n o ≡ false → nat_lt o p ≡ false → nat_lt n p ≡ false
below_through n o p h g = grind (arith, common_steps, h, g)

through_four : (f l c n g m d o h k e p : ℕ) → precedes f l c n g m d o ≡ false → precedes g m d o h k e p ≡ false → precedes f l c n h k e p ≡ false
through_four f l c n g m d o h k e p q r =
    lexical_four f l c n h k e p ∙
    lexical_through f g h _ _ _ (lexical_through l m k _ _ _ (lexical_through c d e _ _ _ (below_through n o p)))
    (sym (lexical_four f l c n g m d o) ∙ q) (sym (lexical_four g m d o h k e p) ∙ r)

not_both : (a b : Refusal) → comes_before a b ≡ true → comes_before b a ≡ false
unfolding precedes
not_both a b h = not_after a.place.file a.place.line a.place.column (cause_number a.cause) b.place.file b.place.line b.place.column (cause_number b.cause) h

through : (a b c : Refusal) → comes_before a b ≡ false → comes_before b c ≡ false → comes_before a c ≡ false
unfolding precedes
through a b c h g =
    through_four a.place.file a.place.line a.place.column (cause_number a.cause) b.place.file b.place.line b.place.column (cause_number b.cause)
    c.place.file c.place.line c.place.column (cause_number c.cause) h g

-- a refusal so far, or one of a list, and none of them stands before it
record Leads (a r : Refusal) (rs : List Refusal) : Type 0 where
  among : (a ≡ r) ⊎ In r rs
  first : comes_before a r ≡ false
  least : (x : Refusal) → In x rs → comes_before x r ≡ false

not_itself : (a : Refusal) → comes_before a a ≡ false
not_itself a =
    let P : Bool → Type 0 = λ b. comes_before a a ≡ b → comes_before a a ≡ false in
    (elim (comes_before a a) as P [ true ↦ λ e. not_both a a e | false ↦ λ e. e ]) refl

leads : (a r : Refusal) (rs : List Refusal) → noted (Some a) rs ≡ Some r → Leads a r rs
leads a r [] h = let e : a ≡ r = cc in record { among = inl e; first = ap (comes_before a) (sym e) ∙ not_itself a; least = λ x i. absurd i }
leads a r (x ∷ rs) h =
    let P : Bool → Type 0 = λ b. comes_before x a ≡ b → noted (Some (if b then x else a)) rs ≡ Some r → Leads a r (x ∷ rs) in
    (elim (comes_before x a) as P [
      | true ↦ λ e g. (let l = leads x r rs g in record {
        among = inr l.among;
        first = through a x r (not_both x a e) l.first;
        least = λ y i. elim i [ inl s ↦ ap (λ z. comes_before z r) (sym s) ∙ l.first | inr j ↦ l.least y j ];
      })
      | false ↦ λ e g. (let l = leads a r rs g in record {
        among = elim l.among [ inl s ↦ inl s | inr j ↦ inr (inr j) ];
        first = l.first;
        least = λ y i. elim i [ inl s ↦ ap (λ z. comes_before z r) (sym s) ∙ through x a r e l.first | inr j ↦ l.least y j ];
      })
    ]) refl h

-- what a walk over a list has noted is its least refusal
pub least_is : (r : Refusal) (rs : List Refusal) → noted None rs ≡ Some r → IsLeast (λ x. In x rs) r
least_is r [] h = cc
least_is r (x ∷ rs) h =
    let l = leads x r rs h in
    record { among = l.among; least = λ y i. elim i [ inl s ↦ ap (λ z. comes_before z r) (sym s) ∙ l.first | inr j ↦ l.least y j ] }

some_noted : (a : Refusal) (rs : List Refusal) → noted (Some a) rs ≡ None → ⊥
some_noted a [] h = cc
some_noted a (x ∷ rs) h = some_noted (lesser (Some a) x) rs h

-- where nothing is noted there is none
pub none_is : (rs : List Refusal) → noted None rs ≡ None → rs ≡ []
none_is [] h = refl
none_is (x ∷ rs) h = absurd (some_noted x rs h)

pub noted_append : (old : Option Refusal) (xs ys : List Refusal) → noted old (xs ++ ys) ≡ noted (noted old xs) ys
noted_append old [] ys = refl
noted_append old (x ∷ xs) ys = noted_append (Some (lesser old x)) xs ys

-- one turn of a walk that notes what it meets
pub noted_turn : (old new start : Option Refusal) (one rest left all : List Refusal) → new ≡ noted old one → left ≡ one ++ rest → noted old left ≡ noted start all → noted new rest ≡ noted start all
noted_turn old new start one rest left all is at h = ap (λ o. noted o rest) is ∙ sym (noted_append old one rest) ∙ ap (noted old) (sym at) ∙ h

-- a turn that notes nothing
pub noted_same : (old new start : Option Refusal) (left rest all : List Refusal) → new ≡ old → left ≡ rest → noted old left ≡ noted start all → noted new rest ≡ noted start all
noted_same old new start left rest all is at h = ap (λ o. noted o rest) is ∙ ap (noted old) (sym at) ∙ h

-- what is noted first, and then the rest
pub noted_then : (old new end : Option Refusal) (one rest : List Refusal) → new ≡ noted old one → end ≡ noted new rest → end ≡ noted old (one ++ rest)
noted_then old new end one rest is h = h ∙ ap (λ o. noted o rest) is ∙ sym (noted_append old one rest)
