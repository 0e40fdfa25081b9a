-- One thing more of several that are tried one after the other; a parameter with its argument more.
use Rattle.std.proofs.Common.{◌≡◌, ◌↔◌, ℕ, suc, ◌+◌, ◌<◌, ◌≤◌, List, [], ◌∷◌, inl, inr, length, get_or, drop, refl, sym, ap, subst, ◌∙◌, arith, Option, Some, None, Bool, true, false, add-one, drop-cons}
use Rattle.std.specs.Option.{is_some}
use Rattle.wy_effects.specs.declared.atom.Atom.{Atom}
use Rattle.wy_effects.proofs.Walks.{drop_none}
use Rattle.wy_types.specs.declared.resolved.OwnName.{OwnName}
use Rattle.wy_rules.specs.Acceptance.{Handed, handed_to}
use Rattle.wy_rules.specs.Failing.{FirstOf}
use Rattle.wy_premises.specs.Tried.{handed_pair, OfEach, OrLacks, FirstLack, missing_atom}

------------------------------------------------------------
-- What is left of a list at a place

pub left_at : {X : Type 0} (xs : List X) (i : ℕ) (x : X) → i < length xs → x ≡ get_or xs i x → drop i xs ≡ x ∷ drop (i + 1) xs
left_at xs i x lt is = rw add-one (drop-cons xs i x lt ∙ ap (λ v. v ∷ drop (suc i) xs) (sym is))

pub number_at : (xs : List ℕ) (i : ℕ) → i < length xs → drop i xs ≡ get_or xs i 0 ∷ drop (i + 1) xs
number_at xs i lt = rw add-one (drop-cons xs i 0 lt)

handed_none : (ns : List OwnName) → handed_to ns [] ≡ []
handed_none [] = refl
handed_none (n ∷ ns) = refl

pub handed_at : (ns : List OwnName) (arguments : List ℕ) (i : ℕ) (n : OwnName) → i < length ns → length arguments ≡ length ns → n ≡ get_or ns i n →
    handed_to (drop i ns) (drop i arguments) ≡ handed_pair n (get_or arguments i 0) ∷ handed_to (drop (i + 1) ns) (drop (i + 1) arguments)
handed_at ns arguments i n lt same is =
    let lt' : i < length arguments = omega arith in
    let left : drop i arguments ≡ get_or arguments i 0 ∷ drop (i + 1) arguments = rw add-one (drop-cons arguments i 0 lt') in
    ap (λ l. handed_to l (drop i arguments)) (left_at ns i n lt is) ∙ ap (λ l. handed_to (n ∷ drop (i + 1) ns) l) left

pub handed_past : (ns : List OwnName) (arguments : List ℕ) (i : ℕ) → length ns ≤ i → handed_to (drop i ns) (drop i arguments) ≡ []
handed_past ns arguments i le = ap (λ l. handed_to l (drop i arguments)) (drop_none ns i le)

------------------------------------------------------------
-- Something holds of each

module _ {X : Type 0} (Holds : X → Type 0) (W : Type 0) where
  pub one_more : (ys zs : List X) (x : X) → ys ≡ x ∷ zs → Holds x → OfEach Holds ys ↔ W → OfEach Holds zs ↔ W
  one_more ys zs x e h inv = (
    λ each. inv.0 (subst (λ l. OfEach Holds l) (sym e) (λ y i. elim i [ inl same ↦ subst Holds same h | inr j ↦ each y j ])),
    λ w y j. subst (λ l. OfEach Holds l) e (inv.1 w) y (inr j),
  )

  pub one_fails : (ys zs : List X) (x : X) → ys ≡ x ∷ zs → (Holds x → ⊥) → OfEach Holds ys ↔ W → W → ⊥
  one_fails ys zs x e n inv w = n (subst (λ l. OfEach Holds l) e (inv.1 w) x (inl refl))

  pub none_left : (ys : List X) → ys ≡ [] → OfEach Holds ys ↔ W → W
  none_left ys e inv = inv.0 (subst (λ l. OfEach Holds l) (sym e) (λ y i. absurd i))

------------------------------------------------------------
-- .. or the first of which it does not hold

module _ {X : Type 0} (Holds : X → Type 0) (Lacks : X → Option ℕ → Type 0) (W : Option ℕ → Type 0) where
  later : (zs : List X) (x : X) (o : Option ℕ) → Holds x → FirstLack Holds Lacks zs o → FirstLack Holds Lacks (x ∷ zs) o
  later zs x None h each = λ y i. elim i [ inl same ↦ subst Holds same h | inr j ↦ each y j ]
  later zs x (Some a) h first = inr (h, first)

  pub first_later : (ys zs : List X) (x : X) → ys ≡ x ∷ zs → Holds x → ((o : Option ℕ) → FirstLack Holds Lacks ys o → W o) → (o : Option ℕ) → FirstLack Holds Lacks zs o → W o
  first_later ys zs x e h inv o f = inv o (subst (λ l. FirstLack Holds Lacks l o) (sym e) (later zs x o h f))

  pub first_here : (ys zs : List X) (x : X) (a : ℕ) → ys ≡ x ∷ zs → OrLacks (Holds x) (Lacks x) (Some a) → ((o : Option ℕ) → FirstLack Holds Lacks ys o → W o) → W (Some a)
  first_here ys zs x a e l inv = inv (Some a) (subst (λ l. FirstLack Holds Lacks l (Some a)) (sym e) (inl l))

  -- as code has what is missing
  pub first_past : (ys zs : List X) (x : X) (o : Option Atom) → ys ≡ x ∷ zs → is_some o ≡ false → OrLacks (Holds x) (Lacks x) (missing_atom o) →
      ((o : Option ℕ) → FirstLack Holds Lacks ys o → W o) → (o : Option ℕ) → FirstLack Holds Lacks zs o → W o
  first_past ys zs x None e none l inv = first_later ys zs x e l inv
  first_past ys zs x (Some a) e none l inv = absurd (cc)

  pub first_lack : (ys zs : List X) (x : X) (o : Option Atom) → ys ≡ x ∷ zs → is_some o ≡ true → OrLacks (Holds x) (Lacks x) (missing_atom o) →
      ((o : Option ℕ) → FirstLack Holds Lacks ys o → W o) → W (missing_atom o)
  first_lack ys zs x None e some l inv = absurd (cc)
  first_lack ys zs x (Some a) e some l inv = first_here ys zs x a.0 e l inv

  pub first_none : (ys : List X) → ys ≡ [] → ((o : Option ℕ) → FirstLack Holds Lacks ys o → W o) → W None
  first_none ys e inv = inv None (subst (λ l. FirstLack Holds Lacks l None) (sym e) (λ y i. absurd i))

-- where it is false of the first, it is not true of each
pub first_breaks : {X : Type 0} (Holds : X → Type 0) (Lacks : X → Option ℕ → Type 0) (xs : List X) (o : Option ℕ) → FirstOf Holds Lacks xs o → OfEach Holds xs → ⊥
first_breaks Holds Lacks [] o f each = f
first_breaks Holds Lacks (x ∷ xs) o f each =
    elim f [
      | inl here ↦ here.0 (each x (inl refl))
      | inr rest ↦ first_breaks Holds Lacks xs o rest.1 (λ y i. each y (inr i))
    ]

------------------------------------------------------------
-- Arguments and what they are handed to

module _ (Holds : ℕ → Type 0) (Lacks : ℕ → Option ℕ → Type 0) where
  pub handed_first : (ns : List OwnName) (arguments : List ℕ) (o : Option ℕ) → length arguments ≡ length ns → FirstOf Holds Lacks arguments o →
      FirstOf (λ (h : Handed). Holds h.argument) (λ (h : Handed). Lacks h.argument) (handed_to ns arguments) o
  handed_first ns [] o same f = absurd f
  handed_first [] (a ∷ arguments) o same f = absurd (omega arith)
  handed_first (n ∷ ns) (a ∷ arguments) o same f =
      elim f [
        | inl here ↦ inl here
        | inr rest ↦ inr (rest.0, handed_first ns arguments o (omega arith) rest.1)
      ]

  pub handed_each : (ns : List OwnName) (arguments : List ℕ) → OfEach Holds arguments → OfEach (λ (h : Handed). Holds h.argument) (handed_to ns arguments)
  handed_each [] arguments each h i = absurd i
  handed_each (n ∷ ns) [] each h i = absurd i
  handed_each (n ∷ ns) (a ∷ arguments) each h i =
      elim i [
        | inl same ↦ subst (λ (v : Handed). Holds v.argument) same (each a (inl refl))
        | inr j ↦ handed_each ns arguments (λ b k. each b (inr k)) h j
      ]

------------------------------------------------------------
-- Answers by truth values

pub told_false : (W : Type 0) → (W → ⊥) → ◌≡◌ {A = Bool} false true ↔ W
told_false W no_w = (λ e. absurd (cc), λ w. absurd (no_w w))

pub false_tells : (W : Type 0) (b : Bool) → (b ≡ true) ↔ W → b ≡ false → W → ⊥
false_tells W b tells e w = let t : b ≡ true = tells.1 w in cc

pub true_tells : (W : Type 0) (b : Bool) → (b ≡ true) ↔ W → b ≡ true → W
true_tells W b tells e = tells.0 e
