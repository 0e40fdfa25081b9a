-- A turn of the loop over lines.
use Rattle.std.proofs.Common.{◌≡◌, ℕ, suc, ◌+◌, ◌<◌, ◌≤◌, nat_lt, Bool, true, false, cond, List, ◌++◌, length, length-append, drop, refl, sym, ap, subst, ◌∙◌, arith, append_assoc, Err, le-ltb}
use Rattle.wy_text.specs.declared.token.Token.{Token}
use Rattle.wy_layout.specs.Counts.{most_tokens}
use Rattle.wy_layout.specs.Cut.{line_len}
use Rattle.wy_layout.specs.Lines.{Line, lines, later_lines, next_row, content_of}
use Rattle.wy_layout.specs.Layout.{closing}
use Rattle.wy_layout.specs.Lexed.{LineOut, laid, broken, line_out, Lexed, tokens, refused, join, by_out, end_of, lex_lines}
use Rattle.wy_layout.specs.Outs.{Laid, GivesOut, GivesLines, line_of}
use Rattle.wy_layout.specs.declared.line.Halt.{Halt}
use Rattle.wy_layout.specs.declared.line.Halt.TheVariants as halt
use Rattle.wy_layout.specs.declared.refusal.Fault.{Fault}
use Rattle.wy_layout.specs.declared.refusal.Fault.TheVariants as fault
use Rattle.wy_layout.specs.declared.row.Row.{Row}
use Rattle.wy_layout.proofs.Cutting.{last, later}

pub joins : (us vs : List Token) (x : Lexed) → join us (join vs x) ≡ join (us ++ vs) x
joins us vs (tokens ts) = ap tokens (sym (append_assoc us vs ts))
joins us vs (refused f o) = refl

laid_joins : (old new : List Token) (st : List ℕ) (out : LineOut) (row : Row) (e : ℕ) (ls : List Line) → Laid old new st out →
    join old (by_out out (λ us s. lex_lines row e (length old + length us) s ls)) ≡ join new (lex_lines row e (length new) st ls)
laid_joins old new st (broken f o) row e ls h = absurd h
laid_joins old new st (laid us s) row e ls h =
    let n : length old + length us ≡ length new = (let a = length-append old us in let b = ap length h.0 in omega arith) in
    joins old us (lex_lines row e (length old + length us) s ls)
    ∙ ap (λ (z : List Token). join z (lex_lines row e (length old + length us) s ls)) (sym h.0)
    ∙ ap (λ (m : ℕ). join new (lex_lines row e m s ls)) n
    ∙ ap (λ (z : List ℕ). join new (lex_lines row e (length new) z ls)) (sym h.1)

turned : (old new : List Token) (st st' : List ℕ) (row : Row) (e : ℕ) (line z : List ℕ) → line ≡ content_of z → Laid old new st' (line_out (length old) st (line_of row line)) →
    join old (lex_lines row e (length old) st (lines row z)) ≡ join new (lex_lines row e (length new) st' (later_lines row row.start z))
turned old new st st' row e line z p h =
    laid_joins old new st' (line_out (length old) st (line_of row (content_of z))) row e (later_lines row row.start z) (subst (λ (c : List ℕ). Laid old new st' (line_out (length old) st (line_of row c))) p h)

pub next_turn : (old new : List Token) (st st' : List ℕ) (row : Row) (e : ℕ) (line z : List ℕ) → line ≡ content_of z → Laid old new st' (line_out (length old) st (line_of row line)) → line_len z < length z →
    join old (lex_lines row e (length old) st (lines row z)) ≡ join new (lex_lines (next_row row (row.start + line_len z + 1)) e (length new) st' (lines (next_row row (row.start + line_len z + 1)) (drop (line_len z + 1) z)))
next_turn old new st st' row e line z p h l =
    let one : suc (line_len z) ≡ line_len z + 1 = omega arith in
    let two : row.start + suc (line_len z) ≡ row.start + line_len z + 1 = omega arith in
    turned old new st st' row e line z p h ∙ ap (λ (ls : List Line). join new (lex_lines row e (length new) st' ls)) (later row row.start z l)
    ∙ ap (λ (n : ℕ). join new (lex_lines row e (length new) st' (lines (next_row row (row.start + suc (line_len z))) (drop n z)))) one
    ∙ ap (λ (n : ℕ). join new (lex_lines row e (length new) st' (lines (next_row row n) (drop (line_len z + 1) z)))) two

pub last_turn : (old new : List Token) (st st' : List ℕ) (row : Row) (e : ℕ) (line z : List ℕ) → line ≡ content_of z → Laid old new st' (line_out (length old) st (line_of row line)) → line_len z ≡ length z →
    join old (lex_lines row e (length old) st (lines row z)) ≡ join new (end_of row e (length new) st')
last_turn old new st st' row e line z p h l = turned old new st st' row e line z p h ∙ ap (λ (ls : List Line). join new (lex_lines row e (length new) st' ls)) (last row row.start z l)

join_refused : (ts : List Token) (x : Lexed) (f : Fault) (o : ℕ) → join ts x ≡ refused f o → x ≡ refused f o
join_refused ts (tokens us) f o e = absurd (no e)
  where
    no : tokens (ts ++ us) ≡ refused f o → ⊥
    no e = absurd cc
join_refused ts (refused f' o') f o e = e

pub err_turn : (h : Halt) (old new : List Token) (st st' : List ℕ) (row : Row) (e : ℕ) (line z : List ℕ) (old0 new0 : List Token) (st0 : List ℕ) (x : Lexed) → line ≡ content_of z →
    GivesOut {A = Unit {0}} (Err h) old new st' (line_out (length old) st (line_of row line)) →
    join old (lex_lines row e (length old) st (lines row z)) ≡ join old0 x → GivesLines (Err h) old0 new0 st0 e x
err_turn (halt.At f o) old new st st' row e line z old0 new0 st0 x p g i =
    join_refused old0 x f o
    (sym i ∙ ap (λ (y : LineOut). join old (by_out y (λ us s. lex_lines row e (length old + length us) s (later_lines row row.start z)))) (ap (λ (c : List ℕ). line_out (length old) st (line_of row c)) (sym p) ∙ g))
err_turn halt.Memory old new st st' row e line z old0 new0 st0 x p g i = tt

-- ---- the end of a file

less : (a b : ℕ) → a < b → nat_lt a b ≡ true
less a b h = grind arith

pub closed_is : (row : Row) (e : ℕ) (old new : List Token) (st : List ℕ) → length old + length st ≤ most_tokens → new ≡ old ++ closing row e st → join old (end_of row e (length old) st) ≡ tokens new
closed_is row e old new st r p =
    ap (λ (b : Bool). join old (cond b (refused fault.Tokens e) (tokens (closing row e st)))) (le-ltb most_tokens (length old + length st) r) ∙ ap tokens (sym p)

pub closed_not : (row : Row) (e : ℕ) (old : List Token) (st : List ℕ) → most_tokens < length old + length st → end_of row e (length old) st ≡ refused fault.Tokens e
closed_not row e old st r = ap (λ (b : Bool). cond b (refused fault.Tokens e) (tokens (closing row e st))) (less most_tokens (length old + length st) r)
