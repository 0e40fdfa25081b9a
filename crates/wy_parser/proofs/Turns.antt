-- One turn of a loop that reads parts, and how such a loop ends.
use Rattle.std.proofs.Common.{◌≡◌, ℕ, zero, suc, ◌-◌, ◌<◌, Bool, true, false, cond, List, [], ◌∷◌, ◌++◌, map, refl, sym, ap, subst, ◌∙◌, arith, Box, Global}
use Rattle.std.proofs.lemmas.List.{map-append}
use Rattle.std.specs.Prelude.{Result, Ok, Err}
use Rattle.std.specs.Borrow.{Bor}
use Rattle.wy_text.specs.declared.token.Token.{Token}
use Rattle.wy_syntax.specs.Tokens.{Tok, code, member}
use Rattle.wy_syntax.specs.Trees.{ExprTree}
use Rattle.wy_parser.specs.declared.stop.Stop.{Stop}
use Rattle.wy_parser.specs.declared.stop.Stop.TheVariants as stops
use Rattle.wy_parser.specs.Reading.{Out, Yes, No, Reader, and_then, ◌>>=◌, ret, starts, one_of, fold_many}
use Rattle.wy_parser.specs.ExprParsing.{operator_part, add_binary}
use Rattle.wy_parser.specs.Sorts.{Halts, Gives}

-- the loop ends
pub fold_ends : {A B : Type 0} (k : ℕ) (G : List ℕ) (p : Reader Tok B) (add : A → B → A) (a : A) (ts : List Tok) → 0 < k → starts code G ts ≡ false → fold_many code k G p add a ts ≡ Yes a ts
fold_ends zero G p add a ts h e = absurd (omega arith)
fold_ends (suc k) G p add a ts h e = rw e refl

-- one more part
pub fold_goes : {A B : Type 0} (k : ℕ) (G : List ℕ) (p : Reader Tok B) (add : A → B → A) (a : A) (ts : List Tok) → 0 < k → starts code G ts ≡ true → fold_many code k G p add a ts ≡ and_then (p ts) (λ b r. fold_many code (k - 1) G p add (add a b) r)
fold_goes zero G p add a ts h e = absurd (omega arith)
fold_goes {A} {B} (suc k) G p add a ts h e =
    let i : k ≡ suc k - 1 = omega arith in
    rw e (ap (λ (j : ℕ). and_then (p ts) (λ b r. fold_many code j G p add (add a b) r)) i)

-- a part was read
pub part_turn : {A B : Type 0} (k j : ℕ) (G : List ℕ) (p : Reader Tok B) (add : A → B → A) (a c : A) (b : B) (ts s : List Tok) (out : Out Tok A) → k ≡ suc j → starts code G ts ≡ true → p ts ≡ Yes b s → c ≡ add a b → fold_many code k G p add a ts ≡ out → fold_many code j G p add c s ≡ out
part_turn k j G p add a c b ts s out hk h1 h2 hc h =
    let go = fold_goes (suc j) G p add a ts (omega arith) h1 in
    let same : suc j - 1 ≡ j = omega arith in
    rw (hc, ← h, hk) (sym (go ∙ rw (h2, same) refl))

took : (G : List ℕ) (ts : List Tok) (x : Tok) (r : List Tok) → one_of code G ts ≡ Yes x r → starts code G ts ≡ true
took G [] x r e = absurd cc
took G (y ∷ ts) x r e = go (member (code y) G) y ts e
  where
    go : (b : Bool) (y : Tok) (ts : List Tok) → cond b (Yes y ts) (No (y ∷ ts)) ≡ Yes x r → b ≡ true
    go true y ts e = refl
    go false y ts e = absurd cc

-- an operator and its right side were read
pub level_turn : (k j : ℕ) (G : List ℕ) (next : Reader Tok ExprTree) (left right e : ExprTree) (op : Tok) (ts r s : List Tok) (out : Out Tok ExprTree) → k ≡ suc j → one_of code G ts ≡ Yes op r → next r ≡ Yes right s → e ≡ add_binary left (op, right) → fold_many code k G (operator_part G next) add_binary left ts ≡ out → fold_many code j G (operator_part G next) add_binary e s ≡ out
level_turn k j G next left right e op ts r s out hk h1 h2 he h =
    let go = fold_goes (suc j) G (operator_part G next) add_binary left ts (omega arith) (took G ts op r h1) in
    let same : suc j - 1 ≡ j = omega arith in
    rw (he, ← h, hk) (sym (go ∙ rw (h1, h2, same) refl))

-- what is pushed is seen behind what the others are seen as
pub pushed : {X A : Type 0} (view : X → A) (xs ys : List X) (x y : X) → ys ≡ xs ++ x ∷ [] → x ≡ y → map view ys ≡ map view xs ++ view y ∷ []
pushed view xs ys x y h e = rw (h, e) (map-append view xs (y ∷ []))

-- a part stops
pub part_halts : {A B : Type 0} (k : ℕ) (G : List ℕ) (p : Reader Tok B) (add : A → B → A) (a : A) (ts : List Tok) (out : Out Tok A) (e : Stop) → 0 < k → starts code G ts ≡ true → Halts e (p ts) → fold_many code k G p add a ts ≡ out → Halts e out
part_halts k G p add a ts out (stops.At rest) hk h1 h2 h = sym h ∙ fold_goes k G p add a ts hk h1 ∙ rw h2 refl
part_halts k G p add a ts out stops.Deep hk h1 h2 h = sym h ∙ fold_goes k G p add a ts hk h1 ∙ rw h2 refl
part_halts k G p add a ts out stops.Memory hk h1 h2 h = tt

pub gives_err : {X A : Type 0} (view : X → A) (r : Result (X × Bor (List Token)) Stop) (e : Stop) (out : Out Tok A) → r ≡ Err e → Halts e out → Gives view r out
gives_err {X} view r e out h s = subst (λ (r : Result (X × Bor (List Token)) Stop). Gives view r out) (sym h) s

-- what was made as it is, seen as something
pub gives_view : {X A : Type 0} (view : X → A) (r : Result (Box X Global × Bor (List Token)) Stop) (x : X) (ts : List Tok) → Gives (λ b. b.value) r (Yes x ts) → Gives (λ b. view b.value) r (Yes (view x) ts)
gives_view view (Ok y) x ts h = ap (λ o. and_then o (λ a r. Yes (view a) r)) h
gives_view view (Err (stops.At rest)) x ts h = ap (λ o. and_then o (λ a r. Yes (view a) r)) h
gives_view view (Err stops.Deep) x ts h = ap (λ o. and_then o (λ a r. Yes (view a) r)) h
gives_view view (Err stops.Memory) x ts h = tt

-- an operator's symbol stops
pub symbol_halts : (G : List ℕ) (next : Reader Tok ExprTree) (ts : List Tok) (e : Stop) → Halts e (one_of code G ts) → Halts e (operator_part G next ts)
symbol_halts G next ts (stops.At rest) h = ap (λ o. and_then o (λ x. next >>= λ right. ret (x, right))) h
symbol_halts G next ts stops.Deep h = ap (λ o. and_then o (λ x. next >>= λ right. ret (x, right))) h
symbol_halts G next ts stops.Memory h = tt

-- an operator's right side stops
pub right_halts : (G : List ℕ) (next : Reader Tok ExprTree) (ts r : List Tok) (op : Tok) (e : Stop) → one_of code G ts ≡ Yes op r → Halts e (next r) → Halts e (operator_part G next ts)
right_halts G next ts r op (stops.At rest) o h = ap (λ m. and_then m (λ x. next >>= λ right. ret (x, right))) o ∙ ap (λ m. and_then m (λ right. ret (op, right))) h
right_halts G next ts r op stops.Deep o h = ap (λ m. and_then m (λ x. next >>= λ right. ret (x, right))) o ∙ ap (λ m. and_then m (λ right. ret (op, right))) h
right_halts G next ts r op stops.Memory o h = tt
