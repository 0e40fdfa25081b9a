-- A word is looked up among those of its length.
use Rattle.std.proofs.Common.{◌≡◌, ℕ, ◌<◌, ◌≤◌, ◌==◌, nat_le, Bool, true, false, cond, ◌&&◌, List, [], ◌∷◌, length, refl, ap, ◌∙◌, arith, Option, Some, None, ◌≢◌}
use Rattle.wy_text.specs.declared.token.TokenKind.{TokenKind}
use Rattle.wy_text.specs.Spelling.{spelling_of}
use Rattle.wy_layout.specs.Words.{same, lookup, is_some, reserved}
use Rattle.wy_layout.specs.Tables.{of_length}
use Rattle.wy_layout.proofs.Scanning.{and_left, and_right}
use Rattle.wy_layout.proofs.LongestWord.{same_is, among_holds}

other_length : (u v : List ℕ) (n : ℕ) → length u ≡ n → (length v == n) ≡ false → same u v ≡ false
other_length u v n h e = go (same u v) refl
  where
    apart : (a b : ℕ) → (a == b) ≡ false → a ≡ b → ⊥
    apart a b e h = grind arith

    go : (b : Bool) → same u v ≡ b → same u v ≡ false
    go false s = s
    go true s = absurd (let l = ap length (same_is u v s) in apart (length v) n e (omega arith))

lookup_sized : (ks : List TokenKind) (w : List ℕ) (n : ℕ) → length w ≡ n → lookup w ks ≡ lookup w (of_length n ks)
lookup_sized [] w n h = refl
lookup_sized (k ∷ ks) w n h = go (length (spelling_of k) == n) refl (lookup_sized ks w n h)
  where
    go : (b : Bool) → (length (spelling_of k) == n) ≡ b → lookup w ks ≡ lookup w (of_length n ks) →
        cond (same w (spelling_of k)) (Some k) (lookup w ks) ≡ lookup w (cond b (k ∷ of_length n ks) (of_length n ks))
    go true e ih = ap (λ (x : Option TokenKind). cond (same w (spelling_of k)) (Some k) x) ih
    go false e ih = ap (λ (b : Bool). cond b (Some k) (lookup w ks)) (other_length w (spelling_of k) n h e) ∙ ih

pub sized : (w : List ℕ) (n : ℕ) → length w ≡ n → lookup w reserved ≡ lookup w (of_length n reserved)
sized w n h = lookup_sized reserved w n h

pub none_by : (x : Option TokenKind) → (is_some x ≡ true → ⊥) → x ≡ None
none_by None h = refl
none_by (Some k) h = absurd (h refl)

pub none_short : (w : List ℕ) → length w < 2 → lookup w reserved ≡ None
none_short w h = none_by (lookup w reserved) (λ e. let k = and_left (nat_le 2 (length w)) (nat_le (length w) 9) (among_holds (λ v. nat_le 2 (length v) && nat_le (length v) 9) w reserved refl e) in less (length w) h k)
  where
    less : (n : ℕ) → n < 2 → nat_le 2 n ≡ true → ⊥
    less n h e = grind arith

pub none_long : (w : List ℕ) → 2 ≤ length w → length w ≢ 2 → length w ≢ 3 → length w ≢ 4 → length w ≢ 5 → length w ≢ 6 → length w ≢ 7 → length w ≢ 8 → length w ≢ 9 → lookup w reserved ≡ None
none_long w m a b c d e f g h = none_by (lookup w reserved) (λ t. let k = and_right (nat_le 2 (length w)) (nat_le (length w) 9) (among_holds (λ v. nat_le 2 (length v) && nat_le (length v) 9) w reserved refl t) in let l : 9 < length w = omega arith in less (length w) l k)
  where
    less : (n : ℕ) → 9 < n → nat_le n 9 ≡ true → ⊥
    less n h e = grind arith
