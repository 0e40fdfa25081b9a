-- What the code gives for a line is the line's outcome.
use Rattle.std.proofs.Common.{◌≡◌, ℕ, zero, suc, ◌+◌, ◌-◌, ◌≤◌, nat_lt, Bool, true, false, cond, List, [], ◌∷◌, ◌++◌, length, append-nil, refl, sym, ap, subst, ◌∙◌, arith, Result, Ok, Err}
use Rattle.wy_text.specs.declared.token.Token.{Token}
use Rattle.wy_text.specs.declared.token.TokenKind.TheVariants as kind
use Rattle.wy_layout.specs.Words.{Within, fits, passes}
use Rattle.wy_layout.specs.Counts.{counted_from, most_tokens}
use Rattle.wy_layout.specs.Widths.{Step, back, not_open, step_of, above, rest, is_top}
use Rattle.wy_layout.specs.Lines.{Line, width, after_spaces, is_done, has_tab}
use Rattle.wy_layout.specs.Layout.{mark, marks, mark_count, begin, opening}
use Rattle.wy_layout.specs.Lexed.{Found, good, bad_at, words_of, stack_after, LineOut, laid, broken, with_end, sooner, line_words, by_opening, by_step, line_out}
use Rattle.wy_layout.specs.Outs.{Added, GivesAdded, Laid, GivesOut, Halts, line_of}
use Rattle.wy_layout.specs.declared.line.Halt.{Halt}
use Rattle.wy_layout.specs.declared.line.Halt.TheVariants as halt
use Rattle.wy_layout.specs.declared.refusal.Fault.{Fault}
use Rattle.wy_layout.specs.declared.refusal.Fault.TheVariants as fault
use Rattle.wy_layout.specs.declared.row.Row.{Row}
use Rattle.wy_layout.proofs.OpenWidths.{rest_count}

-- no more Outs than open widths
pub count_within : (w : ℕ) (st : List ℕ) → mark_count (step_of w st) ≤ suc (length st)
count_within w st = go (is_top w (rest w st)) (above w st) (let r = rest_count w st in omega arith)
  where
    go : (b : Bool) (n : ℕ) → n ≤ length st → mark_count (cond b (back n) (not_open n)) ≤ suc (length st)
    go true n h = omega arith
    go false zero h = omega arith
    go false (suc n) h = omega arith

-- the line's text behind its spaces
pub record At (from z : List ℕ) : Type 0 where
  pub value : from ≡ after_spaces z
  pub within : width z + length from ≡ length z

pub record IsFrom (from z : List ℕ) : Type 0 where
  pub at : At from z
  pub no_tab : has_tab from ≡ false
  pub full : is_done from ≡ false

abbrev whole_out : (a b : Bool) → ℕ → List ℕ → Line → LineOut
whole_out a b n st l = cond a (broken fault.TabIndent (begin l)) (cond b (laid [] st) (by_step (step_of (width l.content) st) n st l))

opened : (n : ℕ) (st : List ℕ) (l : Line) → line_out n st l ≡ whole_out (has_tab (after_spaces l.content)) (is_done (after_spaces l.content)) n st l
unfolding line_out
opened n st l = refl

begin_is : (row : Row) (from z : List ℕ) → At from z → begin (line_of row z) ≡ row.start + (length z - length from)
begin_is row from z h = ap (λ (v : List ℕ). row.start + (length z - length v)) (sym h.value)

pub tab_out : (n : ℕ) (st : List ℕ) (row : Row) (from z : List ℕ) → At from z → has_tab from ≡ true →
    line_out n st (line_of row z) ≡ broken fault.TabIndent (row.start + (length z - length from))
tab_out n st row from z h t =
    opened n st (line_of row z)
    ∙ ap (λ (a : Bool). whole_out a (is_done (after_spaces z)) n st (line_of row z)) (ap has_tab (sym h.value) ∙ t)
    ∙ ap (broken fault.TabIndent) (begin_is row from z h)

pub done_out : (old : List Token) (n : ℕ) (st : List ℕ) (row : Row) (from z : List ℕ) → At from z → has_tab from ≡ false → is_done from ≡ true →
    Laid old old st (line_out n st (line_of row z))
done_out old n st row from z h t d = subst (Laid old old st) (sym out) (sym (append-nil old), refl)
  where
    out : line_out n st (line_of row z) ≡ laid [] st
    out =
        opened n st (line_of row z)
        ∙ ap (λ (a : Bool). whole_out a (is_done (after_spaces z)) n st (line_of row z)) (ap has_tab (sym h.value) ∙ t)
        ∙ ap (λ (b : Bool). whole_out false b n st (line_of row z)) (ap is_done (sym h.value) ∙ d)

full_out : (n : ℕ) (st : List ℕ) (row : Row) (from z : List ℕ) → IsFrom from z →
    line_out n st (line_of row z) ≡ by_step (step_of (length z - length from) st) n st (line_of row z)
full_out n st row from z h =
    let e : width z ≡ length z - length from = (let w = h.at.within in omega arith) in
    opened n st (line_of row z)
    ∙ ap (λ (a : Bool). whole_out a (is_done (after_spaces z)) n st (line_of row z)) (ap has_tab (sym h.at.value) ∙ h.no_tab)
    ∙ ap (λ (b : Bool). whole_out false b n st (line_of row z)) (ap is_done (sym h.at.value) ∙ h.full)
    ∙ ap (λ (w : ℕ). by_step (step_of w st) n st (line_of row z)) e

words_are : (m : ℕ) (row : Row) (from z : List ℕ) → At from z → line_words (line_of row z) m ≡ words_of row (counted_from m) (row.start + (length z - length from)) from
words_are m row from z h = ap (λ (v : List ℕ). words_of row (counted_from m) (row.start + (length z - length v)) v) (sym h.value)

halts_gives : (h : Halt) (old new : List Token) (st : List ℕ) (x y : LineOut) → y ≡ x → Halts h x → GivesOut {A = Unit {0}} (Err h) old new st y
halts_gives (halt.At f o) old new st x y e k = e ∙ k
halts_gives halt.Memory old new st x y e k = tt

-- what stands before the words is wrong
pub fault_out : (h : Halt) (old new : List Token) (st st' : List ℕ) (row : Row) (from z : List ℕ) (s : Step) (f : Fault) → IsFrom from z → s ≡ step_of (length z - length from) st →
    passes f ≡ opening s (length old) (length st) →
    Halts h (sooner f (row.start + (length z - length from)) (words_of row (counted_from (length old + mark_count s)) (row.start + (length z - length from)) from)) →
    GivesOut {A = Unit {0}} (Err h) old new st' (line_out (length old) st (line_of row z))
fault_out h old new st st' row from z s f at e o k =
    halts_gives h old new st' (sooner f (row.start + (length z - length from)) (words_of row (counted_from (length old + mark_count s)) (row.start + (length z - length from)) from)) (line_out (length old) st (line_of row z))
    (full_out (length old) st row from z at
    ∙ ap (λ (s : Step). by_step s (length old) st (line_of row z)) (sym e)
    ∙ ap (λ (x : Within). by_opening x s (length old) st (line_of row z)) (sym o)
    ∙ ap (λ (b : ℕ). sooner f b (line_words (line_of row z) (length old + mark_count s))) (begin_is row from z at.at)
    ∙ ap (sooner f (row.start + (length z - length from))) (words_are (length old + mark_count s) row from z at.at)) k

-- the stack changes nothing in the tokens
with_stack : (r : Result (Unit {0}) Halt) (old new : List Token) (row : Row) (ms : List Token) (n e : ℕ) (st : List ℕ) (x : Found) → GivesAdded r old new (with_end row ms n e [] x) →
    GivesOut r old new st (with_end row ms n e st x)
with_stack (Err halt.Memory) old new row ms n e st x k = tt
with_stack (Ok y) old new row ms n e st (bad_at f o) k = absurd k
with_stack (Err (halt.At f o)) old new row ms n e st (bad_at f' o') k = k
with_stack (Ok y) old new row ms n e st (good us) k = go (nat_lt (n + length us) most_tokens) k
  where
    go : (b : Bool) → Added old new (cond b (laid (ms ++ (us ++ mark row kind.Nl e ∷ [])) []) (broken fault.Tokens e)) →
        Laid old new st (cond b (laid (ms ++ (us ++ mark row kind.Nl e ∷ [])) st) (broken fault.Tokens e))
    go true k = (k, refl)
    go false k = absurd k
with_stack (Err (halt.At f o)) old new row ms n e st (good us) k = go (nat_lt (n + length us) most_tokens) k
  where
    go : (b : Bool) → cond b (laid (ms ++ (us ++ mark row kind.Nl e ∷ [])) []) (broken fault.Tokens e) ≡ broken f o →
        cond b (laid (ms ++ (us ++ mark row kind.Nl e ∷ [])) st) (broken fault.Tokens e) ≡ broken f o
    go true k = absurd cc
    go false k = k

-- what stands before the words is right
pub laid_out : (r : Result (Unit {0}) Halt) (old new : List Token) (st st' : List ℕ) (row : Row) (from z : List ℕ) (s : Step) → IsFrom from z → s ≡ step_of (length z - length from) st →
    fits ≡ opening s (length old) (length st) → st' ≡ stack_after (length z - length from) st →
    GivesAdded r old new (with_end row (marks row s (row.start + (length z - length from))) (length old + mark_count s) (row.start + (length z - length from) + length from) []
    (words_of row (counted_from (length old + mark_count s)) (row.start + (length z - length from)) from)) →
    GivesOut r old new st' (line_out (length old) st (line_of row z))
laid_out r old new st st' row from z s at e o q k =
    subst (GivesOut r old new st') (sym out) (with_stack r old new row (marks row s (row.start + (length z - length from))) (length old + mark_count s) (row.start + (length z - length from) + length from) st' (words_of row (counted_from (length old + mark_count s)) (row.start + (length z - length from)) from) k)
  where
    out : line_out (length old) st (line_of row z) ≡ with_end row (marks row s (row.start + (length z - length from))) (length old + mark_count s) (row.start + (length z - length from) + length from) st' (words_of row (counted_from (length old + mark_count s)) (row.start + (length z - length from)) from)
    out =
        let w = at.at.within in
        let width_is : width z ≡ length z - length from = omega arith in
        let end_is : row.start + length z ≡ row.start + (length z - length from) + length from = omega arith in
        full_out (length old) st row from z at
        ∙ ap (λ (s : Step). by_step s (length old) st (line_of row z)) (sym e)
        ∙ ap (λ (x : Within). by_opening x s (length old) st (line_of row z)) (sym o)
        ∙ ap (λ (v : ℕ). with_end row (marks row s v) (length old + mark_count s) (row.start + length z) (stack_after (width z) st) (line_words (line_of row z) (length old + mark_count s))) (begin_is row from z at.at)
        ∙ ap (λ (v : ℕ). with_end row (marks row s (row.start + (length z - length from))) (length old + mark_count s) v (stack_after (width z) st) (line_words (line_of row z) (length old + mark_count s))) end_is
        ∙ ap (λ (v : ℕ). with_end row (marks row s (row.start + (length z - length from))) (length old + mark_count s) (row.start + (length z - length from) + length from) (stack_after v st) (line_words (line_of row z) (length old + mark_count s))) width_is
        ∙ ap (λ (t : List ℕ). with_end row (marks row s (row.start + (length z - length from))) (length old + mark_count s) (row.start + (length z - length from) + length from) t (line_words (line_of row z) (length old + mark_count s))) (sym q)
        ∙ ap (with_end row (marks row s (row.start + (length z - length from))) (length old + mark_count s) (row.start + (length z - length from) + length from) st') (words_are (length old + mark_count s) row from z at.at)
