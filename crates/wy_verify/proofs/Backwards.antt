-- Operands as a list that has the topmost last, and as one that has it first.
use Rattle.std.proofs.Common.{◌≡◌, ℕ, zero, suc, ◌+◌, ◌-◌, ◌<◌, ◌≤◌, List, [], ◌∷◌, ◌++◌, length, take, drop, get_or, refl, sym, ap, ◌∙◌, append_assoc, arith, Some}
use Rattle.std.specs.Prelude.{slice_get}
use Rattle.wy_image.specs.declared.typing.Reference.{Reference}
use Rattle.wy_verified.specs.declared.known.Known.{Known}
use Rattle.wy_verified.specs.Kinds.{kind_in, kinds_in}
use Rattle.std.proofs.lemmas.List.{drop_at, take_at, take-append-drop, length-drop, take_all, take_more}
use Rattle.wy_verified.specs.declared.known.Kind.{Kind}
use Rattle.wy_verified.specs.Rules.{reversed}
use Rattle.wy_verified.specs.Walking.{top_kind}
use Rattle.wy_verified.proofs.Lists.{reversed_count, some_same}

pub reversed_both : (ks ls ms : List Kind) → reversed (ks ++ ls) ms ≡ reversed ls (reversed ks ms)
reversed_both [] ls ms = refl
reversed_both (k ∷ ks) ls ms = reversed_both ks ls (k ∷ ms)

pub reversed_onto : (ks ls : List Kind) → reversed ks ls ≡ reversed ks [] ++ ls
reversed_onto [] ls = refl
reversed_onto (k ∷ ks) ls =
    reversed_onto ks (k ∷ ls) ∙
    sym (ap (λ t. t ++ ls) (reversed_onto ks (k ∷ [])) ∙ append_assoc (reversed ks []) (k ∷ []) ls)

reversed_back : (ks ls ms : List Kind) → reversed (reversed ks ls) ms ≡ reversed ls (ks ++ ms)
reversed_back [] ls ms = refl
reversed_back (k ∷ ks) ls ms = reversed_back ks (k ∷ ls) ms

no_more : (ks : List Kind) → ks ++ [] ≡ ks
no_more [] = refl
no_more (k ∷ ks) = ap (λ t. k ∷ t) (no_more ks)

pub reversed_twice : (ks : List Kind) → reversed (reversed ks []) [] ≡ ks
reversed_twice ks = reversed_back ks [] [] ∙ no_more ks

-- one is pushed
pub pushed : (ks : List Kind) (k : Kind) → reversed (ks ++ k ∷ []) [] ≡ k ∷ reversed ks []
pushed ks k = reversed_both ks (k ∷ []) []

cut : (ks : List Kind) (m : ℕ) → reversed ks [] ≡ reversed (drop m ks) [] ++ reversed (take m ks) []
cut ks m =
    ap (λ t. reversed t []) (sym (take-append-drop m ks)) ∙ reversed_both (take m ks) (drop m ks) [] ∙
    reversed_onto (drop m ks) (reversed (take m ks) [])

-- the topmost are popped
pub popped : (ks : List Kind) (n : ℕ) → n ≤ length ks → drop n (reversed ks []) ≡ reversed (take (length ks - n) ks) []
popped ks n le =
    let m = length ks - n in
    let l = reversed_count (drop m ks) in
    let d = length-drop m ks in
    ap (drop n) (cut ks m) ∙ drop_at (reversed (drop m ks) []) (reversed (take m ks) []) n (omega (arith, l, d, le))

-- the topmost, in the order in which they were pushed
pub topmost : (ks : List Kind) (n : ℕ) → n ≤ length ks → reversed (take n (reversed ks [])) [] ≡ drop (length ks - n) ks
topmost ks n le =
    let m = length ks - n in
    let l = reversed_count (drop m ks) in
    let d = length-drop m ks in
    ap (λ t. reversed (take n t) []) (cut ks m) ∙
    ap (λ t. reversed t []) (take_at (reversed (drop m ks) []) (reversed (take m ks) []) n (omega (arith, l, d, le))) ∙
    reversed_twice (drop m ks)

-- the one below others
pub below : (ks : List Kind) (n : ℕ) (d : Kind) → n < length ks →
    top_kind (drop n (reversed ks [])) ≡ get_or ks (length ks - 1 - n) d
below ks n d lt =
    let m = length ks - 1 - n in
    let e : length ks - n ≡ m + 1 = omega (arith, lt) in
    let le : n ≤ length ks = omega (arith, lt) in
    let less : m < length ks = omega (arith, lt) in
    ap top_kind (popped ks n le ∙ ap (λ m. reversed (take m ks) []) e ∙
    ap (λ t. reversed t []) (take_more ks m d less) ∙ pushed (take m ks) (get_or ks m d))

-- what comes behind a place, whole
pub taken_rest : (ks : List Kind) (m : ℕ) → take (length ks - m) (drop m ks) ≡ drop m ks
taken_rest ks m = let d = length-drop m ks in take_all (length ks - m) (drop m ks) (omega (arith, d))

------------------------------------------------------------
-- What is known, by its parts

abbrev pub with_operands : List ℕ → ℕ → List Kind → Known
with_operands stored set ks = record { operands = ks; stored = stored; set = set }

pub count_is : (ks : List Kind) (known : Known) (stored : List ℕ) (set : ℕ) →
    with_operands stored set (reversed ks []) ≡ known → length ks ≡ length known.operands
count_is ks known stored set e = sym (reversed_count ks) ∙ ap (λ (k : Known). length k.operands) e

-- one more that an instance writes
pub written_more : (x : ℕ) (rs : List Reference) (i : ℕ) (k : Kind) → slice_get (kinds_in x rs) i ≡ Some k →
    kinds_in x (take i rs) ++ k ∷ [] ≡ kinds_in x (take (i + 1) rs)
written_more x rs i k e = let z : suc i ≡ i + 1 = omega arith in of rs i e ∙ ap (λ n. kinds_in x (take n rs)) z
  where
    of : (rs : List Reference) (i : ℕ) → slice_get (kinds_in x rs) i ≡ Some k →
        kinds_in x (take i rs) ++ k ∷ [] ≡ kinds_in x (take (suc i) rs)
    of [] i e = absurd cc
    of (r ∷ rs) zero e = ap (λ k. k ∷ []) (sym (some_same e))
    of (r ∷ rs) (suc i) e = ap (λ t. kind_in x r ∷ t) (of rs i e)
