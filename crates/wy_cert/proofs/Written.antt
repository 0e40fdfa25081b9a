-- What stands at the end after several parts were added.
use Rattle.std.proofs.Common.{◌≡◌, ℕ, suc, ◌-◌, ◌<◌, List, [], ◌∷◌, ◌++◌, length, get_or, take, drop, sym, ap, ◌∙◌, append_assoc, arith}
use Rattle.std.proofs.lemmas.List.{take_all}

pub form_written : (out out1 : List ℕ) (byte form : ℕ) → out1 ≡ out ++ byte ∷ [] → byte ≡ form → out1 ≡ out ++ form ∷ []
form_written out out1 byte form e f = e ∙ ap (λ (n : ℕ). out ++ n ∷ []) f

three_regrouped : (out a b c : List ℕ) → ((out ++ a) ++ b) ++ c ≡ out ++ ((a ++ b) ++ c)
three_regrouped out a b c = simp append_assoc

pub three_written : (out out1 out2 out3 a b c : List ℕ) → out1 ≡ out ++ a → out2 ≡ out1 ++ b → out3 ≡ out2 ++ c → out3 ≡ out ++ ((a ++ b) ++ c)
three_written out out1 out2 out3 a b c e1 e2 e3 =
    let all : out3 ≡ ((out ++ a) ++ b) ++ c = cc in
    all ∙ three_regrouped out a b c

five_regrouped : (out a b c d e : List ℕ) → ((((out ++ a) ++ b) ++ c) ++ d) ++ e ≡ out ++ ((((a ++ b) ++ c) ++ d) ++ e)
five_regrouped out a b c d e = simp append_assoc

pub five_written : (out out1 out2 out3 out4 a b c d e : List ℕ) → out1 ≡ out ++ a → out2 ≡ out1 ++ b → out3 ≡ out2 ++ c → out4 ≡ out3 ++ d → out4 ++ e ≡ out ++ ((((a ++ b) ++ c) ++ d) ++ e)
five_written out out1 out2 out3 out4 a b c d e e1 e2 e3 e4 =
    let all : out4 ≡ (((out ++ a) ++ b) ++ c) ++ d = cc in
    ap (λ (t : List ℕ). t ++ e) all ∙ five_regrouped out a b c d e

-- bytes are their first, and those behind it
abbrev pub behind_first : List ℕ → List ℕ
behind_first bytes = take (length bytes - 1) (drop 1 bytes)

pub first_is : (bytes : List ℕ) (first : ℕ) → 0 < length bytes → get_or bytes 0 0 ≡ first → bytes ≡ first ∷ behind_first bytes
first_is [] first some e = absurd (omega arith)
first_is (b ∷ bytes) first some e = ap (λ (n : ℕ). n ∷ bytes) e ∙ ap (λ (t : List ℕ). first ∷ t) (sym (take_all (suc (length bytes) - 1) bytes (omega arith)))
