-- What the limits leave of each kind of word.
use Rattle.std.proofs.Common.{◌≡◌, ℕ, ◌≤◌, nat_lt, nat_le, Bool, true, false, cond, List, length, take, drop, refl, sym, ap, ◌∙◌, arith, length-take-le}
use Rattle.wy_layout.specs.Words.{name, fixed, reserved, symbols, among, most_name_bytes, over, Within, fits, passes}
use Rattle.wy_layout.specs.Read.{yes, bad, first_len, name_word, name_read, symbol_read, limited, by_limit, limited_name}
use Rattle.wy_layout.specs.declared.refusal.Fault.TheVariants as fault
use Rattle.wy_layout.proofs.LongestWord.{among_holds}

pub symbol_limited : (u : List ℕ) → limited u (symbol_read u) ≡ symbol_read u
symbol_limited u = go (among (take 2 u) symbols) (among (take 1 u) symbols)
  where
    go : (a b : Bool) → limited u (cond a (yes (fixed (take 2 u)) (drop 2 u)) (cond b (yes (fixed (take 1 u)) (drop 1 u)) (bad fault.BadCharacter u)))
        ≡ cond a (yes (fixed (take 2 u)) (drop 2 u)) (cond b (yes (fixed (take 1 u)) (drop 1 u)) (bad fault.BadCharacter u))
    go true b = refl
    go false true = refl
    go false false = refl

name_over : (w : List ℕ) → over (name_word w) ≡ cond (nat_lt most_name_bytes (length w)) (passes fault.NameBytes) fits
name_over w = go (among w reserved) refl
  where
    small : among w reserved ≡ true → nat_lt 64 (length w) ≡ false
    small h = let k = among_holds (λ v. nat_le (length v) 64) w reserved refl h in not_lt (length w) k
      where
        not_lt : (n : ℕ) → nat_le n 64 ≡ true → nat_lt 64 n ≡ false
        not_lt n h = grind arith

    go : (b : Bool) → among w reserved ≡ b → over (cond b (fixed w) (name w)) ≡ cond (nat_lt most_name_bytes (length w)) (passes fault.NameBytes) fits
    go true e = ap (λ (b : Bool). cond b (passes fault.NameBytes) fits) (sym (small e))
    go false e = refl

pub name_limited : (u : List ℕ) → first_len u ≤ length u → limited u (name_read u) ≡ limited_name u
name_limited u h = ap (λ (o : Within). by_limit o (name_word (take (first_len u) u)) u (drop (first_len u) u)) (name_over (take (first_len u) u) ∙ ap (λ (n : ℕ). cond (nat_lt most_name_bytes n) (passes fault.NameBytes) fits) (length-take-le (first_len u) u h)) ∙ go (nat_lt most_name_bytes (first_len u))
  where
    go : (b : Bool) → by_limit (cond b (passes fault.NameBytes) fits) (name_word (take (first_len u) u)) u (drop (first_len u) u) ≡ cond b (bad fault.NameBytes u) (yes (name_word (take (first_len u) u)) (drop (first_len u) u))
    go true = refl
    go false = refl
