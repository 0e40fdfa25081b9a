-- Lists of words, compared and united a part after another.
use Rattle.std.proofs.Common.{◌≡◌, ℕ, zero, suc, ◌+◌, ◌<◌, List, [], ◌∷◌, ◌++◌, length, take, drop, get_or, set, bit_or, refl, sym, ap, ap₂, subst, ◌∙◌, arith, zero-add, add-one, ◌*◌, ◌-◌, ◌↔◌, Bool, false, IsTrue, append-nil, length-drop, drop_of_length-le}
use borrow.Rule.Slice.PartMut.{put_mid}
use Rattle.std.proofs.lemmas.Bool.{false≢true}
use Rattle.std.specs.Simd.Lanes.{zip2, chunk, put_chunk}
use Rattle.wy_lanes.specs.Words.{AllInside, IsInside, union_of}

-- the first n words united with the others, and the rest as they are
abbrev pub united_to : ℕ → List ℕ → List ℕ → List ℕ
united_to n [] ys = []
united_to n (x ∷ xs) [] = x ∷ xs
united_to zero (x ∷ xs) (y ∷ ys) = x ∷ xs
united_to (suc n) (x ∷ xs) (y ∷ ys) = bit_or x y ∷ united_to n xs ys

pub united_to-zero : (xs ys : List ℕ) → united_to 0 xs ys ≡ xs
united_to-zero [] ys = refl
united_to-zero (x ∷ xs) [] = refl
united_to-zero (x ∷ xs) (y ∷ ys) = refl

pub united_to_all : (xs ys : List ℕ) (n : ℕ) → n ≡ length xs → length xs ≡ length ys → united_to n xs ys ≡ union_of xs ys
united_to_all [] ys n all long = refl
united_to_all (x ∷ xs) [] n all long = absurd (omega (arith, long))
united_to_all (x ∷ xs) (y ∷ ys) zero all long = absurd (omega (arith, all))
united_to_all (x ∷ xs) (y ∷ ys) (suc n) all long = ap (λ r. bit_or x y ∷ r) (united_to_all xs ys n (omega (arith, all)) (omega (arith, long)))

-- one word more
pub set-united_to : (n : ℕ) (xs ys : List ℕ) → length xs ≡ length ys → set (united_to n xs ys) n (bit_or (get_or (united_to n xs ys) n 0) (get_or ys n 0)) ≡ united_to (suc n) xs ys
set-united_to n [] ys long = refl
set-united_to n (x ∷ xs) [] long = absurd (omega (arith, long))
set-united_to zero (x ∷ xs) (y ∷ ys) long = ap (λ r. bit_or x y ∷ r) (sym (united_to-zero xs ys))
set-united_to (suc n) (x ∷ xs) (y ∷ ys) long = ap (λ r. bit_or x y ∷ r) (set-united_to n xs ys (omega (arith, long)))

put_chunk_first : (k : ℕ) (xs ys : List ℕ) → length xs ≡ length ys → put_chunk 0 xs (zip2 bit_or (take k xs) (take k ys)) ≡ united_to k xs ys
put_chunk_first k [] ys long = refl
put_chunk_first k (x ∷ xs) [] long = absurd (omega (arith, long))
put_chunk_first zero (x ∷ xs) (y ∷ ys) long = refl
put_chunk_first (suc k) (x ∷ xs) (y ∷ ys) long = ap (λ r. bit_or x y ∷ r) (put_chunk_first k xs ys (omega (arith, long)))

-- k words more
pub put_chunk-united_to : (n k : ℕ) (xs ys : List ℕ) → length xs ≡ length ys
    → put_chunk n (united_to n xs ys) (zip2 bit_or (chunk n k (united_to n xs ys)) (chunk n k ys)) ≡ united_to (n + k) xs ys
put_chunk-united_to n k [] ys long = refl
put_chunk-united_to n k (x ∷ xs) [] long = absurd (omega (arith, long))
put_chunk-united_to zero k (x ∷ xs) (y ∷ ys) long = rw zero-add (put_chunk_first k (x ∷ xs) (y ∷ ys) long)
put_chunk-united_to (suc n) k (x ∷ xs) (y ∷ ys) long =
    let more : suc n + k ≡ suc (n + k) = omega arith in
    rw more (ap (λ r. bit_or x y ∷ r) (put_chunk-united_to n k xs ys (omega (arith, long))))

-- the first n words united, and then the rest
pub union_of-rest : (n : ℕ) (xs ys : List ℕ) → length xs ≡ length ys → take n (united_to n xs ys) ++ union_of (drop n (united_to n xs ys)) (drop n ys) ≡ union_of xs ys
union_of-rest zero [] ys long = refl
union_of-rest (suc n) [] ys long = refl
union_of-rest n (x ∷ xs) [] long = absurd (omega (arith, long))
union_of-rest zero (x ∷ xs) (y ∷ ys) long = refl
union_of-rest (suc n) (x ∷ xs) (y ∷ ys) long = ap (λ r. bit_or x y ∷ r) (union_of-rest n xs ys (omega (arith, long)))

pub AllInside-take_more : (n k : ℕ) (xs ys : List ℕ) → AllInside (take n xs) (take n ys) → AllInside (chunk n k xs) (chunk n k ys) → AllInside (take (n + k) xs) (take (n + k) ys)
AllInside-take_more zero k xs ys before here = rw zero-add here
AllInside-take_more (suc n) k [] ys before here = let more : suc n + k ≡ suc (n + k) = omega arith in rw more tt
AllInside-take_more (suc n) k (x ∷ xs) [] before here = let more : suc n + k ≡ suc (n + k) = omega arith in rw more tt
AllInside-take_more (suc n) k (x ∷ xs) (y ∷ ys) before here =
    let more : suc n + k ≡ suc (n + k) = omega arith in rw more (before.0, AllInside-take_more n k xs ys before.1 here)

pub AllInside-take_one : (n : ℕ) (xs ys : List ℕ) → AllInside (take n xs) (take n ys) → IsInside (get_or xs n 0) (get_or ys n 0) → AllInside (take (suc n) xs) (take (suc n) ys)
AllInside-take_one n [] ys before here = tt
AllInside-take_one n (x ∷ xs) [] before here = tt
AllInside-take_one zero (x ∷ xs) (y ∷ ys) before here = (here, tt)
AllInside-take_one (suc n) (x ∷ xs) (y ∷ ys) before here = (before.0, AllInside-take_one n xs ys before.1 here)

pub AllInside-rest : (n : ℕ) (xs ys : List ℕ) → AllInside (take n xs) (take n ys) → AllInside (drop n xs) (drop n ys) → AllInside xs ys
AllInside-rest zero xs ys before after = after
AllInside-rest (suc n) [] ys before after = tt
AllInside-rest (suc n) (x ∷ xs) [] before after = tt
AllInside-rest (suc n) (x ∷ xs) (y ∷ ys) before after = (before.0, AllInside-rest n xs ys before.1 after)

pub AllInside-take : (n : ℕ) (xs ys : List ℕ) → AllInside xs ys → AllInside (take n xs) (take n ys)
AllInside-take zero xs ys all = tt
AllInside-take (suc n) [] ys all = tt
AllInside-take (suc n) (x ∷ xs) [] all = tt
AllInside-take (suc n) (x ∷ xs) (y ∷ ys) all = (all.0, AllInside-take n xs ys all.1)

pub AllInside-drop : (n : ℕ) (xs ys : List ℕ) → AllInside xs ys → AllInside (drop n xs) (drop n ys)
AllInside-drop zero xs ys all = all
AllInside-drop (suc n) [] ys all = tt
AllInside-drop (suc n) (x ∷ xs) [] all = elim (drop n xs) as (λ r. AllInside r []) [ [] ↦ tt | z ∷ zs ↦ tt ]
AllInside-drop (suc n) (x ∷ xs) (y ∷ ys) all = AllInside-drop n xs ys all.1

pub AllInside-chunk : (n k : ℕ) (xs ys : List ℕ) → AllInside xs ys → AllInside (chunk n k xs) (chunk n k ys)
AllInside-chunk n k xs ys all = AllInside-take k (drop n xs) (drop n ys) (AllInside-drop n xs ys all)

pub AllInside-get_or : (n : ℕ) (xs ys : List ℕ) → n < length xs → n < length ys → AllInside xs ys → IsInside (get_or xs n 0) (get_or ys n 0)
AllInside-get_or n [] ys in_xs in_ys all = absurd (omega (arith, in_xs))
AllInside-get_or n (x ∷ xs) [] in_xs in_ys all = absurd (omega (arith, in_ys))
AllInside-get_or zero (x ∷ xs) (y ∷ ys) in_xs in_ys all = all.0
AllInside-get_or (suc n) (x ∷ xs) (y ∷ ys) in_xs in_ys all = AllInside-get_or n xs ys (omega (arith, in_xs)) (omega (arith, in_ys)) all.1

-- ---- the loops' steps

pub united_next : (n : ℕ) (xs ys us : List ℕ) → length xs ≡ length ys → us ≡ united_to n xs ys → set us n (bit_or (get_or us n 0) (get_or ys n 0)) ≡ united_to (n + 1) xs ys
united_next n xs ys us long is =
    ap (λ (u : List ℕ). set u n (bit_or (get_or u n 0) (get_or ys n 0))) is ∙ set-united_to n xs ys long ∙ ap (λ (k : ℕ). united_to k xs ys) (omega arith)

pub united_block : (b : ℕ) (xs ys us vs : List ℕ) → length xs ≡ length ys → us ≡ united_to (8 * b) xs ys
    → vs ≡ put_chunk (8 * b) us (zip2 bit_or (chunk (8 * b) 8 us) (chunk (8 * b) 8 ys)) → vs ≡ united_to (8 * (b + 1)) xs ys
united_block b xs ys us vs long is made =
    made ∙ ap (λ (u : List ℕ). put_chunk (8 * b) u (zip2 bit_or (chunk (8 * b) 8 u) (chunk (8 * b) 8 ys))) is ∙ put_chunk-united_to (8 * b) 8 xs ys long
    ∙ ap (λ (k : ℕ). united_to k xs ys) (omega arith)

-- the words from n on are written by themselves
pub united_rest : (n m : ℕ) (xs ys us vs rest others : List ℕ) → length xs ≡ length ys → m ≡ n → us ≡ united_to m xs ys → rest ≡ drop n us → others ≡ drop n ys
    → vs ≡ union_of rest others → put_mid n (length us - n) us vs ≡ union_of xs ys
united_rest n m xs ys us vs rest others long same is part other_part made =
    let none : drop (length us - n) (drop n us) ≡ [] = drop_of_length-le (drop n us) (omega (arith, length-drop n us)) in
    let all : us ≡ united_to n xs ys = is ∙ ap (λ (k : ℕ). united_to k xs ys) same in
    ap (λ (r : List ℕ). take n us ++ (vs ++ r)) none
    ∙ ap (λ (r : List ℕ). take n us ++ r) (append-nil vs ∙ made ∙ ap₂ union_of part other_part)
    ∙ ap (λ (u : List ℕ). take n u ++ union_of (drop n u) (drop n ys)) all
    ∙ union_of-rest n xs ys long

pub AllInside-take_next : (n : ℕ) (xs ys : List ℕ) → AllInside (take n xs) (take n ys) → IsInside (get_or xs n 0) (get_or ys n 0) → AllInside (take (n + 1) xs) (take (n + 1) ys)
AllInside-take_next n xs ys before here = rw add-one (AllInside-take_one n xs ys before here)

pub AllInside-take_block : (b : ℕ) (xs ys : List ℕ) → AllInside (take (8 * b) xs) (take (8 * b) ys) → AllInside (chunk (8 * b) 8 xs) (chunk (8 * b) 8 ys)
    → AllInside (take (8 * (b + 1)) xs) (take (8 * (b + 1)) ys)
AllInside-take_block b xs ys before here =
    let more : 8 * (b + 1) ≡ 8 * b + 8 = omega arith in rw more (AllInside-take_more (8 * b) 8 xs ys before here)

pub AllInside-from_rest : (n m : ℕ) (xs ys us vs : List ℕ) (r : Bool) → m ≡ n → us ≡ drop n xs → vs ≡ drop n ys → AllInside (take m xs) (take m ys) → (IsTrue r ↔ AllInside us vs)
    → IsTrue r ↔ AllInside xs ys
AllInside-from_rest n m xs ys us vs r same part other_part before rest =
    let part_is : AllInside us vs ≡ AllInside (drop n xs) (drop n ys) = ap₂ AllInside part other_part in
    let first : AllInside (take n xs) (take n ys) = subst (λ (k : ℕ). AllInside (take k xs) (take k ys)) same before in (
      λ yes. AllInside-rest n xs ys first (subst (λ (t : Type 0). t) part_is (rest.0 yes)),
      λ all. rest.1 (subst (λ (t : Type 0). t) (sym part_is) (AllInside-drop n xs ys all)),
    )

pub not_all : (xs ys : List ℕ) → (AllInside xs ys → ⊥) → IsTrue false ↔ AllInside xs ys
not_all xs ys never = (λ yes. absurd (false≢true yes), λ all. absurd (never all))
