-- Names: their first character begins one, and the others go on.
use Rattle.std.specs.Prelude.{ℕ, zero, suc, ◌==◌, nat_lt, Bool, true, false, ◌&&◌, ◌||◌, cond, List, [], ◌∷◌, take, slice_index}
use Rattle.std.specs.Str.{chars, continuation_len, is_utf8}
use Rattle.unicode_ident.specs.Ident.{is_xid_start, is_xid_continue}

-- the character that the bytes spell, or 0, which no name has
abbrev pub decoded : List ℕ → ℕ
decoded w = cond (is_utf8 w) (slice_index (chars w) 0) 0

-- the character at the front
unfoldable pub head_char : List ℕ → ℕ
head_char [] = 0
head_char (b ∷ bs) = cond (nat_lt b 128) b (decoded (b ∷ take (continuation_len b) bs))

-- a name begins with the character at the front
unfoldable pub starts : List ℕ → Bool
starts bs = is_xid_start (head_char bs) || (head_char bs == 95)

-- the characters all go on in a name; of the first one, count bytes are still to come
abbrev pub go_on : ℕ → List ℕ → Bool
go_on zero [] = true
go_on (suc count) [] = false
go_on zero (b ∷ bs) = is_xid_continue (head_char (b ∷ bs)) && go_on (continuation_len b) bs
go_on (suc count) (b ∷ bs) = go_on count bs

-- one character that begins a name, and any number that go on in it
abbrev pub is_name : List ℕ → Bool
is_name [] = false
is_name (b ∷ bs) = starts (b ∷ bs) && go_on (continuation_len b) bs
