-- `word_at` by its first byte.
use Rattle.std.proofs.Common.{◌≡◌, ℕ, ◌≤◌, ◌==◌, Bool, true, false, not, cond, Option, Some, None, List, [], ◌∷◌, length, drop, take, take_all, length-drop, ◌-◌, refl, sym, ap, ◌∙◌, arith, slice_index}
use Rattle.std.specs.Str.{continuation_len}
use Rattle.std.specs.Char.{is_ascii_digit}
use Rattle.wy_layout.specs.Names.{starts}
use Rattle.wy_text.specs.declared.token.TokenKind.{TokenKind}
use Rattle.wy_text.specs.declared.token.TokenKind.TheVariants as kind
use Rattle.wy_layout.specs.Words.{fixed, reserved, symbols, lookup, is_some, among, or_else}
use Rattle.wy_layout.specs.Tables.{pair_of, single_of}
use Rattle.wy_layout.specs.Gives.{given, denied, as_kind}
use Rattle.wy_layout.specs.declared.escape.State.TheVariants as state
use Rattle.wy_layout.specs.declared.refusal.Fault.{Fault}
use Rattle.wy_layout.specs.declared.refusal.Fault.TheVariants as fault
use Rattle.wy_layout.specs.Read.{Scan, closed, stuck, scan, text_read, number_read, Read, yes, bad, word_at, limited_name, symbol_read, limited, longest_at, name_read}
use Rattle.wy_layout.proofs.NameRuns.{starts_empty, name_len_within}
use Rattle.wy_layout.proofs.LongestWord.{at_name, at_digit, among_holds}
use Rattle.wy_layout.proofs.Tables.{none_by}
use Rattle.wy_layout.proofs.Limits.{name_limited, symbol_limited}

no_quote : (n : ℕ) → (n ≡ 34 → ⊥) → (n == 34) ≡ false
no_quote n h = grind arith

pub word_name : (z : List ℕ) → (slice_index z 0 ≡ 34 → ⊥) → is_ascii_digit (slice_index z 0) ≡ false → starts z ≡ true → word_at z ≡ limited_name z
unfolding word_at
word_name [] q d s = absurd (let t : false ≡ true = starts_empty s in cc)
word_name (b ∷ bs) q d s = ap (limited (b ∷ bs)) (at_name b bs (no_quote b q) d s) ∙ name_limited (b ∷ bs) (let w = name_len_within (continuation_len b) bs in omega arith)

pub word_symbol : (z : List ℕ) → (slice_index z 0 ≡ 34 → ⊥) → is_ascii_digit (slice_index z 0) ≡ false → starts z ≡ false → word_at z ≡ symbol_read z
unfolding word_at
word_symbol [] q d s = refl
word_symbol (b ∷ bs) q d s = ap (limited (b ∷ bs)) here ∙ symbol_limited (b ∷ bs)
  where
    here : longest_at (b ∷ bs) ≡ symbol_read (b ∷ bs)
    here = let k = no_quote b q in rw (k, d, s) refl

pub word_number : (z : List ℕ) → (slice_index z 0 ≡ 34 → ⊥) → is_ascii_digit (slice_index z 0) ≡ true → word_at z ≡ limited z (number_read z)
unfolding word_at
word_number [] q d = absurd (let t : false ≡ true = d in cc)
word_number (b ∷ bs) q d = ap (limited (b ∷ bs)) (at_digit b bs (no_quote b q) d)

limited_text : (z : List ℕ) (x : Scan) → limited z (text_read z x) ≡ text_read z x
limited_text z (closed v r) = refl
limited_text z (stuck f r) = refl

pub word_text : (z : List ℕ) → slice_index z 0 ≡ 34 → word_at z ≡ text_read z (scan state.Plain (drop 1 z))
unfolding word_at
word_text [] q = absurd (omega arith)
word_text (b ∷ bs) q = go b q
  where
    go : (b : ℕ) → b ≡ 34 → limited (b ∷ bs) (longest_at (b ∷ bs)) ≡ text_read (b ∷ bs) (scan state.Plain bs)
    go b q = let e : (b == 34) ≡ true = is_34 b q in
        ap (λ (t : Bool). limited (b ∷ bs) (cond t (text_read (b ∷ bs) (scan state.Plain bs)) (cond (is_ascii_digit b) (number_read (b ∷ bs)) (cond (starts (b ∷ bs)) (name_read (b ∷ bs)) (symbol_read (b ∷ bs)))))) e
        ∙ limited_text (b ∷ bs) (scan state.Plain bs)
      where
        is_34 : (n : ℕ) → n ≡ 34 → (n == 34) ≡ true
        is_34 n h = grind arith

pub text_given : (z v r : List ℕ) (x : Scan) → x ≡ closed v r → as_kind (text_read z x) ≡ given (kind.Text v) r
text_given z v r x e = ap (λ (y : Scan). as_kind (text_read z y)) e

pub text_denied : (z r : List ℕ) (f : Fault) (x : Scan) → x ≡ stuck f r → text_read z x ≡ bad f r
text_denied z r f x e = ap (text_read z) e

-- ---- symbols

no_reserved : (w : List ℕ) → among w symbols ≡ true → lookup w reserved ≡ None
no_reserved w h = none_by (lookup w reserved) (λ e. let k = among_holds (λ v. not (is_some (lookup v reserved))) w symbols refl h in let t : not true ≡ true = ap not (sym e) ∙ k in absurd (let u : false ≡ true = t in cc))

fixed_given : (w r : List ℕ) (k : TokenKind) → lookup w symbols ≡ Some k → as_kind (yes (fixed w) r) ≡ given k r
fixed_given w r k e =
    ap (λ (x : Option TokenKind). given (or_else x (lookup w symbols)) r) (no_reserved w (ap is_some e))
    ∙ ap (λ (x : Option TokenKind). given (or_else None x) r) e

picked : (w r : List ℕ) (x : Read) (k : TokenKind) → lookup w symbols ≡ Some k → as_kind (cond (among w symbols) (yes (fixed w) r) x) ≡ given k r
picked w r x k e = ap (λ (b : Bool). as_kind (cond b (yes (fixed w) r) x)) (ap is_some e) ∙ fixed_given w r k e

passed_by : (w r : List ℕ) (x : Read) → lookup w symbols ≡ None → cond (among w symbols) (yes (fixed w) r) x ≡ x
passed_by w r x e = ap (λ (b : Bool). cond b (yes (fixed w) r) x) (ap is_some e)

pub pair_long : (z : List ℕ) (k : TokenKind) → pair_of z ≡ Some k → 2 ≤ length z
pair_long [] k e = absurd cc
pair_long (a ∷ []) k e = absurd cc
pair_long (a ∷ b ∷ z) k e = omega arith

pub single_long : (z : List ℕ) (k : TokenKind) → single_of z ≡ Some k → 1 ≤ length z
single_long [] k e = absurd cc
single_long (a ∷ z) k e = omega arith

pub symbol_pair : (z : List ℕ) (k : TokenKind) → pair_of z ≡ Some k → as_kind (symbol_read z) ≡ given k (drop 2 z)
symbol_pair [] k e = absurd cc
symbol_pair (a ∷ []) k e = absurd cc
symbol_pair (a ∷ b ∷ z) k e = picked (a ∷ b ∷ []) z _ k e

pub symbol_single : (z : List ℕ) (k : TokenKind) → pair_of z ≡ None → single_of z ≡ Some k → as_kind (symbol_read z) ≡ given k (drop 1 z)
symbol_single [] k n e = absurd cc
symbol_single (a ∷ []) k n e = picked (a ∷ []) [] _ k e
symbol_single (a ∷ b ∷ z) k n e = ap as_kind (passed_by (a ∷ b ∷ []) z _ n) ∙ picked (a ∷ []) (b ∷ z) _ k e

pub symbol_none : (z : List ℕ) → pair_of z ≡ None → single_of z ≡ None → symbol_read z ≡ bad fault.BadCharacter z
symbol_none [] n m = refl
symbol_none (a ∷ []) n m = passed_by (a ∷ []) [] _ m ∙ passed_by (a ∷ []) [] _ m
symbol_none (a ∷ b ∷ z) n m = passed_by (a ∷ b ∷ []) z _ n ∙ passed_by (a ∷ []) (b ∷ z) _ m

pub as_bad : (x : Read) (f : Fault) (r : List ℕ) → as_kind x ≡ denied f r → x ≡ bad f r
as_bad (yes w r') f r e = absurd cc
as_bad (bad f' r') f r e = same f' f r' r e
  where
    same : (f' f : Fault) (r' r : List ℕ) → denied f' r' ≡ denied f r → bad f' r' ≡ bad f r
    same f' f r' r e = cc

pub rest_taken : (n : ℕ) (z : List ℕ) → n ≤ length z → take (length z - n) (drop n z) ≡ drop n z
rest_taken n z h = let l = length-drop n z in take_all (length z - n) (drop n z) (omega arith)
