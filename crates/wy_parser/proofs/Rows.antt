-- One turn of a loop over parts the last of which must not go on, and how such a loop ends.
use Rattle.std.proofs.Common.{◌≡◌, ℕ, zero, suc, ◌<◌, ◌==◌, Bool, true, false, cond, ◌||◌, List, [], ◌∷◌, ◌++◌, refl, sym, ap, ◌∙◌, arith, append_assoc}
use Rattle.wy_syntax.specs.Tokens.{Tok, code, member}
use Rattle.wy_parser.specs.declared.stop.Stop.{Stop}
use Rattle.wy_parser.specs.declared.stop.Stop.TheVariants as stops
use Rattle.wy_parser.specs.Reading.{Out, Yes, No, Deep, Reader, and_then, ret, ◌>>=◌, starts, choose, next, blocks}
use Rattle.wy_parser.specs.ExprParsing.{arg_first}
use Rattle.wy_parser.specs.StmtParsing.{stmt_first}
use Rattle.wy_parser.specs.Sorts.{Halts}

-- what was read before, and what is read now
abbrev pub behind_all : {A : Type 0} → List A → Out Tok (List A) → Out Tok (List A)
behind_all before (Yes xs r) = Yes (before ++ xs) r
behind_all before (No r) = No r
behind_all before Deep = Deep

pub behind_none : {A : Type 0} (o : Out Tok (List A)) → behind_all [] o ≡ o
behind_none (Yes xs r) = refl
behind_none (No r) = refl
behind_none Deep = refl

one_more : {A : Type 0} (before : List A) (a : A) (o : Out Tok (List A)) → behind_all before (and_then o (λ xs r. Yes (a ∷ xs) r)) ≡ behind_all (before ++ a ∷ []) o
one_more {A} before a (Yes xs r) = ap (λ (l : List A). given l r) (sym (append_assoc before (a ∷ []) xs))
  where
    given : List A → List Tok → Out Tok (List A)
    given l r = Yes l r
one_more before a (No r) = refl
one_more before a Deep = refl

goes_on : {A : Type 0} (b : Bool) (F : List ℕ) (P Q : Reader Tok A) (s : List Tok) → (b || starts code F s) ≡ true → cond b P (choose code F P Q) s ≡ P s
goes_on true F P Q s h = refl
goes_on false F P Q s h = rw h refl

stops_here : {A : Type 0} (b : Bool) (F : List ℕ) (P Q : Reader Tok A) (s : List Tok) → (b || starts code F s) ≡ false → cond b P (choose code F P Q) s ≡ Q s
stops_here true F P Q s h = absurd cc
stops_here false F P Q s h = rw h refl

-- a part and those behind it
blocks_go : {A : Type 0} (j : ℕ) (F : List ℕ) (goes : A → Bool) (p : Reader Tok A) (a : A) (ts s : List Tok) → p ts ≡ Yes a s → (goes a || starts code F s) ≡ true → blocks code (suc j) F goes p ts ≡ and_then (blocks code j F goes p s) (λ xs r. Yes (a ∷ xs) r)
blocks_go {A} j F goes p a ts s h1 h2 = ap (λ (o : Out Tok A). and_then o (next code F goes (blocks code j F goes p))) h1 ∙ goes_on (goes a) F (blocks code j F goes p >>= λ xs. ret (a ∷ xs)) (ret (a ∷ [])) s h2

-- a last part
blocks_end : {A : Type 0} (j : ℕ) (F : List ℕ) (goes : A → Bool) (p : Reader Tok A) (a : A) (ts s : List Tok) → p ts ≡ Yes a s → (goes a || starts code F s) ≡ false → blocks code (suc j) F goes p ts ≡ Yes (a ∷ []) s
blocks_end {A} j F goes p a ts s h1 h2 = ap (λ (o : Out Tok A). and_then o (next code F goes (blocks code j F goes p))) h1 ∙ stops_here (goes a) F (blocks code j F goes p >>= λ xs. ret (a ∷ xs)) (ret (a ∷ [])) s h2

-- a part was read, and another must or may come
pub row_turn : {A : Type 0} (k j : ℕ) (F : List ℕ) (goes : A → Bool) (p : Reader Tok A) (before after : List A) (a : A) (ts s : List Tok) (out : Out Tok (List A)) → k ≡ suc j → p ts ≡ Yes a s → (goes a || starts code F s) ≡ true → after ≡ before ++ a ∷ [] → behind_all before (blocks code k F goes p ts) ≡ out → behind_all after (blocks code j F goes p s) ≡ out
row_turn {A} k j F goes p before after a ts s out hk h1 h2 ha h =
    ap (λ (l : List A). behind_all l (blocks code j F goes p s)) ha
    ∙ sym (one_more before a (blocks code j F goes p s))
    ∙ ap (λ (o : Out Tok (List A)). behind_all before o) (sym (blocks_go j F goes p a ts s h1 h2))
    ∙ ap (λ (i : ℕ). behind_all before (blocks code i F goes p ts)) (sym hk) ∙ h

-- the last part was read
pub row_ends : {A : Type 0} (k : ℕ) (F : List ℕ) (goes : A → Bool) (p : Reader Tok A) (before after : List A) (a : A) (ts s : List Tok) (out : Out Tok (List A)) → 0 < k → p ts ≡ Yes a s → (goes a || starts code F s) ≡ false → after ≡ before ++ a ∷ [] → behind_all before (blocks code k F goes p ts) ≡ out → out ≡ Yes after s
row_ends zero F goes p before after a ts s out hk h1 h2 ha h = absurd (omega arith)
row_ends {A} (suc j) F goes p before after a ts s out hk h1 h2 ha h =
    sym h ∙ ap (λ (o : Out Tok (List A)). behind_all before o) (blocks_end j F goes p a ts s h1 h2) ∙ ap (λ (l : List A). given l s) (sym ha)
  where
    given : List A → List Tok → Out Tok (List A)
    given l r = Yes l r

-- a part stops
pub row_halts : {A : Type 0} (k : ℕ) (F : List ℕ) (goes : A → Bool) (p : Reader Tok A) (before : List A) (ts : List Tok) (out : Out Tok (List A)) (e : Stop) → 0 < k → Halts e (p ts) → behind_all before (blocks code k F goes p ts) ≡ out → Halts e out
row_halts zero F goes p before ts out e hk h1 h = absurd (omega arith)
row_halts (suc j) F goes p before ts out (stops.At rest) hk h1 h = sym h ∙ rw h1 refl
row_halts (suc j) F goes p before ts out stops.Deep hk h1 h = sym h ∙ rw h1 refl
row_halts (suc j) F goes p before ts out stops.Memory hk h1 h = tt

pub row_starts : {A : Type 0} (k : ℕ) (F : List ℕ) (goes : A → Bool) (p : Reader Tok A) (ts : List Tok) → behind_all [] (blocks code k F goes p ts) ≡ blocks code k F goes p ts
row_starts k F goes p ts = behind_none (blocks code k F goes p ts)

-- a statement begins with `val`, with `new`, or as an argument does
pub statement_starts : (ts : List Tok) → starts code stmt_first ts ≡ (starts code (18 ∷ 21 ∷ []) ts || starts code arg_first ts)
statement_starts [] = refl
statement_starts (x ∷ ts) = go (code x == 18) (code x == 21) (member (code x) arg_first)
  where
    go : (a b c : Bool) → (a || (b || c)) ≡ ((a || (b || false)) || c)
    go true b c = refl
    go false true c = refl
    go false false c = refl
