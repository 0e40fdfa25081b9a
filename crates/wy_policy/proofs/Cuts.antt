-- Text cut at the first of a byte.
use Rattle.std.proofs.Common.{◌≡◌, ℕ, zero, suc, ◌-◌, ◌<◌, ◌≤◌, ◌==◌, Bool, true, false, cond, List, [], ◌∷◌, length, take, drop, refl, ap, arith, Some, None}
use Rattle.std.proofs.lemmas.List.{length-drop, take_all}
use Rattle.memchr.specs.Find.{Nowhere, Passes, is_byte}
use Rattle.wy_policy.specs.Reading.{cut, first_longer, onto, pieces, pieces_in, room_in}

pub cut_nowhere : (stop : ℕ) (text : List ℕ) → Nowhere (Passes (is_byte stop) text) 0 (length text) → cut stop text ≡ record { front = text; behind = None }
cut_nowhere stop [] h = refl
cut_nowhere stop (b ∷ bs) h = go (b == stop) refl (cut_nowhere stop bs later)
  where
    later : Nowhere (Passes (is_byte stop) bs) 0 (length bs)
    later k low high = h (suc k) (omega arith) (omega arith)

    go : (t : Bool) → (b == stop) ≡ t → cut stop bs ≡ record { front = bs; behind = None } → cond t (record { front = []; behind = Some bs }) (onto b (cut stop bs)) ≡ record { front = b ∷ bs; behind = None }
    go true e ih = absurd (h 0 (omega arith) (omega arith) e)
    go false e ih = ap (onto b) ih

pub cut_first : (stop : ℕ) (text : List ℕ) (at : ℕ) → at < length text → Nowhere (Passes (is_byte stop) text) 0 at → Passes (is_byte stop) text at → cut stop text ≡ record { front = take at text; behind = Some (drop (suc at) text) }
cut_first stop [] at l h p = absurd (omega arith)
cut_first stop (b ∷ bs) zero l h p = rw p refl
cut_first stop (b ∷ bs) (suc at) l h p = go (b == stop) refl (cut_first stop bs at (omega arith) earlier p)
  where
    earlier : Nowhere (Passes (is_byte stop) bs) 0 at
    earlier k low high = h (suc k) (omega arith) (omega arith)

    go : (t : Bool) → (b == stop) ≡ t → cut stop bs ≡ record { front = take at bs; behind = Some (drop (suc at) bs) } →
        cond t (record { front = []; behind = Some bs }) (onto b (cut stop bs)) ≡ record { front = b ∷ take at bs; behind = Some (drop (suc at) bs) }
    go true e ih = absurd (h 0 (omega arith) (omega arith) e)
    go false e ih = ap (onto b) ih

pub take_rest : (n : ℕ) (text : List ℕ) → take (length text - n) (drop n text) ≡ drop n text
take_rest n text = take_all (length text - n) (drop n text) (let e = length-drop n text in omega arith)

-- ---- pieces

-- the first piece, and those behind the first comma
pub pieces_cut : (text : List ℕ) → pieces text ≡ (cut 44 text).front ∷ pieces_in (cut 44 text).behind
pieces_cut [] = refl
pieces_cut (b ∷ bs) = go (b == 44) (pieces_cut bs)
  where
    go : (t : Bool) → pieces bs ≡ (cut 44 bs).front ∷ pieces_in (cut 44 bs).behind → cond t ([] ∷ pieces bs) (first_longer b (pieces bs)) ≡
        (cond t (record { front = []; behind = Some bs }) (onto b (cut 44 bs))).front ∷ pieces_in (cond t (record { front = []; behind = Some bs }) (onto b (cut 44 bs))).behind
    go true ih = refl
    go false ih = ap (first_longer b) ih

-- what is behind is shorter
pub cut_room : (stop : ℕ) (text : List ℕ) → room_in (cut stop text).behind ≤ length text
cut_room stop [] = omega arith
cut_room stop (b ∷ bs) = go (b == stop) (cut_room stop bs)
  where
    go : (t : Bool) → room_in (cut stop bs).behind ≤ length bs → room_in (cond t (record { front = []; behind = Some bs }) (onto b (cut stop bs))).behind ≤ length (b ∷ bs)
    go true h = omega arith
    go false h = omega (arith, h)
