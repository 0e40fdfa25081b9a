-- Printed expressions.
use Rattle.std.proofs.Common.{◌≡◌, ℕ, zero, suc, pos, negsuc, ◌<◌, ◌≤◌, nat_le, Bool, true, false, not, ◌&&◌, List, [], ◌∷◌, ◌++◌, codes, decimal, refl, sym, ap, subst, ◌∙◌, arith, append_assoc, inl, inr}
use Rattle.wy_text.specs.declared.fault.Place.{Place}
use Rattle.wy_text.specs.declared.token.TokenKind.{TokenKind}
use Rattle.wy_text.specs.declared.token.TokenKind.TheVariants as kind
use Rattle.wy_text.specs.Spelling.{spelling_of}
use Rattle.wy_syntax.specs.declared.expressions.Operator.{Operator}
use Rattle.wy_syntax.specs.declared.expressions.Operator.TheVariants as op
use Rattle.wy_syntax.specs.Tokens.{Tok}
use Rattle.wy_syntax.specs.Trees.{ExprTree, ExprTrees, number, text, yes, no, this, name, unit, negate, invert, binary, call, size, part, byte_at, byte, show, ascribe, choice, none, more}
use Rattle.wy_syntax.specs.Languages.{Lang, Sign, ◌⨟◌}
use Rattle.wy_syntax.specs.ExprGrammar.{symbol_of, left_level_of, right_level_of, Placed, Unnumbered, Bare, Arguments, MoreArguments, SpellsExpr}
use Rattle.wy_syntax.specs.Canonical.{level_of, is_numbered, enclosed, placed, expr_text, arguments_text, more_arguments_text}
use Rattle.wy_canonical.specs.Unplaced.{bare_expr, bare_exprs, nowhere}
use Rattle.wy_canonical.proofs.PrintedWords.{closes, closes_free, free, any}
use Rattle.wy_canonical.proofs.LineReading.{opens_append, opens_free}
use Rattle.wy_canonical.proofs.Source.{AllFair}
use Rattle.wy_canonical.proofs.Printing.{anew, fair_front, fair_back, fair_mark, fair_sign, mark_of, Prints, seq, as1, as2, as3, as4, as5, as6, as8, symbol, word_of, blank, Opening, frees, narrow, Again, name_again, number_prints, edge_prints, text_prints, no_items, comma}
use Rattle.wy_canonical.proofs.Types.{open_parens, close_parens, type_again}
use Rattle.wy_canonical.proofs.Forgetting.{level_same, numbered_same}
use Rattle.wy_canonical.proofs.Levels.{left_above, right_above, level_bound, lower, Own, Inside, inside, heads_starts, heads_sign, unnumbered}

-- ---- symbols

pub minus : Prints free (codes "-") (λ Q. Sign kind.SymMinus ⨟ Q)
minus = symbol kind.SymMinus refl refl refl

pub bang : Prints free (codes "!") (λ Q. Sign kind.SymNot ⨟ Q)
bang = symbol kind.SymNot refl refl refl

pub operator : (o : Operator) → Prints free (spelling_of (symbol_of o)) (λ Q. Sign (symbol_of o) ⨟ Q)
operator op.Or = symbol kind.SymOrOr refl refl refl
operator op.And = symbol kind.SymAndAnd refl refl refl
operator op.Equal = symbol kind.SymEqualEqual refl refl refl
operator op.NotEqual = symbol kind.SymNotEqual refl refl refl
operator op.Less = symbol kind.SymLess refl refl refl
operator op.LessEqual = symbol kind.SymLessEqual refl refl refl
operator op.Greater = symbol kind.SymGreater refl refl refl
operator op.GreaterEqual = symbol kind.SymGreaterEqual refl refl refl
operator op.Plus = symbol kind.SymPlus refl refl refl
operator op.Minus = symbol kind.SymMinus refl refl refl
operator op.Join = symbol kind.SymPlusPlus refl refl refl
operator op.Times = symbol kind.SymStar refl refl refl
operator op.Divide = symbol kind.SymSlash refl refl refl
operator op.Remainder = symbol kind.SymPercent refl refl refl

-- ---- places

-- an expression is printed so that it is read as itself
abbrev pub PrintsExpr : Bool → ExprTree → Type 1
PrintsExpr plain e = (k : ℕ) (u : List Tok) → Bare plain e k u → AllFair u → Opening (expr_text e) (λ Q. Again bare_expr (Own plain) e ⨟ Q)

-- at a place of a level
abbrev pub At : Bool → ℕ → ExprTree → Lang
At plain k e = SpellsExpr plain k e

le_true : (a b : ℕ) → nat_le a b ≡ true → a ≤ b
le_true a b h = grind arith

-- without parentheses
alone : (plain : Bool) (k : ℕ) (e : ExprTree) (w : List Tok) → k ≤ level_of e → Again bare_expr (Own plain) e w → Again bare_expr (At plain k) e w
alone plain k e w l q = let s = level_same q.it e q.same in record { it = q.it; spelled = record { depth = 0; inside = lower plain q.it (level_of q.it) k w q.spelled (omega arith) }; same = q.same }

-- in parentheses
in_parens : {t : List ℕ} {P : Lang} → Opening t (λ Q. P ⨟ Q) → Opening (codes "(" ++ t ++ codes ")") (λ Q. (Sign kind.SymOpenParen ⨟ P ⨟ Sign kind.SymCloseParen) ⨟ Q)
in_parens o = record { prints = as3 (narrow (seq (seq open_parens o.prints (frees o)) close_parens (λ z k. refl))) (λ w q. q); begins = refl }

wrapped : (plain : Bool) (k : ℕ) (e : ExprTree) (w : List Tok) → 1 ≤ level_of e → (Sign kind.SymOpenParen ⨟ Again bare_expr (Own plain) e ⨟ Sign kind.SymCloseParen) w → Again bare_expr (At plain k) e w
wrapped plain k e w l q = let r = q.second.first in let s = level_same r.it e r.same in
    record { it = r.it; spelled = record { depth = 1; inside = anew q q.first (anew q.second (lower plain r.it (level_of r.it) 1 q.second.front r.spelled (omega arith)) q.second.second) }; same = r.same }

pub at_place : (plain : Bool) (k : ℕ) (e : ExprTree) → 1 ≤ k → PrintsExpr plain e → (u : List Tok) → Placed k (Bare plain e) u → AllFair u → Opening (placed k (level_of e) (expr_text e)) (λ Q. Again bare_expr (At plain k) e ⨟ Q)
at_place plain k e some ih u x h = go (nat_le k (level_of e)) refl
  where
    i : Inside plain e k
    i = inside plain e k u x h

    o : Opening (expr_text e) (λ Q. Again bare_expr (Own plain) e ⨟ Q)
    o = ih i.level i.tokens i.spelled i.are_fair

    low : 1 ≤ level_of e
    low = let a = i.some some in let b = level_bound plain e i.level i.tokens i.spelled in omega arith

    go : (b : Bool) → nat_le k (level_of e) ≡ b → Opening (enclosed (not b) (expr_text e)) (λ Q. Again bare_expr (At plain k) e ⨟ Q)
    go true t = record { prints = as1 o.prints (λ w q. alone plain k e w (le_true k (level_of e) t) q); begins = o.begins }
    go false t = let p = in_parens o in record { prints = as1 p.prints (λ w q. wrapped plain k e w low q); begins = refl }

pub at_argument : (plain : Bool) (e : ExprTree) → PrintsExpr plain e → (u : List Tok) → Placed 0 (Bare plain e) u → AllFair u → Opening (expr_text e) (λ Q. Again bare_expr (At plain 0) e ⨟ Q)
at_argument plain e ih u x h =
    let i = inside plain e 0 u x h in
    let o = ih i.level i.tokens i.spelled i.are_fair in
    record { prints = as1 o.prints (λ w q. alone plain 0 e w (omega arith) q); begins = o.begins }

-- the operand of a negation
pub at_negation : (plain : Bool) (e : ExprTree) → PrintsExpr plain e → (u : List Tok) → Placed 6 (Bare plain e) u → AllFair u →
    Opening (enclosed (not (nat_le 6 (level_of e) && not (is_numbered e))) (expr_text e)) (λ Q. Again bare_expr (λ e'. Unnumbered (At plain 6 e')) e ⨟ Q)
at_negation plain e ih u x h = go (nat_le 6 (level_of e)) refl (is_numbered e) refl
  where
    i : Inside plain e 6
    i = inside plain e 6 u x h

    o : Opening (expr_text e) (λ Q. Again bare_expr (Own plain) e ⨟ Q)
    o = ih i.level i.tokens i.spelled i.are_fair

    low : 1 ≤ level_of e
    low = let a = i.some (omega arith) in let b = level_bound plain e i.level i.tokens i.spelled in omega arith

    paren : Opening (codes "(" ++ expr_text e ++ codes ")") (λ Q. Again bare_expr (λ e'. Unnumbered (At plain 6 e')) e ⨟ Q)
    paren = let p = in_parens o in record {
      prints = as1 p.prints (λ w q. let r = wrapped plain 6 e w low q in
          record { it = r.it; spelled = (r.spelled, heads_starts (2 ∷ 3 ∷ []) w (heads_sign (2 ∷ 3 ∷ []) kind.SymOpenParen _ w q refl)); same = r.same });
      begins = refl;
    }

    go : (b : Bool) → nat_le 6 (level_of e) ≡ b → (n : Bool) → is_numbered e ≡ n → Opening (enclosed (not (b && not n)) (expr_text e)) (λ Q. Again bare_expr (λ e'. Unnumbered (At plain 6 e')) e ⨟ Q)
    go true t true f = paren
    go true t false f = record {
      prints = as1 o.prints (λ w q.
          let r = alone plain 6 e w (le_true 6 (level_of e) t) q in
          let s = level_same q.it e q.same in let l = le_true 6 (level_of e) t in
          record { it = r.it; spelled = (r.spelled, heads_starts (2 ∷ 3 ∷ []) w (unnumbered plain q.it (level_of q.it) w q.spelled (omega arith) (numbered_same q.it e q.same ∙ f))); same = r.same });
      begins = o.begins;
    }
    go false t n f = paren

-- ---- words with an opening parenthesis

built : (k : TokenKind) → Prints closes (spelling_of k) (λ Q. Sign k ⨟ Q) → Prints free (spelling_of k ++ codes "(") (λ Q. Sign k ⨟ Sign kind.SymOpenParen ⨟ Q)
built k p = seq p open_parens (λ z h. refl)

spaced_colon : Prints any (codes " : ") (λ Q. Sign kind.SymColon ⨟ Q)
spaced_colon = seq (seq blank (symbol kind.SymColon refl refl refl) (λ z h. refl)) blank (λ z h. refl)

pub if_word : Prints any (codes "if ") (λ Q. Sign kind.KwIf ⨟ Q)
if_word = seq (word_of kind.KwIf refl refl) blank (λ z h. refl)

then_word : Prints any (codes " then ") (λ Q. Sign kind.KwThen ⨟ Q)
then_word = seq (seq blank (word_of kind.KwThen refl refl) (λ z h. refl)) blank (λ z h. refl)

else_word : Prints any (codes " else ") (λ Q. Sign kind.KwElse ⨟ Q)
else_word = seq (seq blank (word_of kind.KwElse refl refl) (λ z h. refl)) blank (λ z h. refl)

-- ---- numbers

positive : (plain : Bool) (n : ℕ) (p : Place) → n < 9223372036854775808 → Opening (decimal n) (λ Q. Again bare_expr (Own plain) (number (pos n) p) ⨟ Q)
positive plain n p h = let o = number_prints n h in record { prints = as1 o.prints (λ w q. record { it = number (pos n) q.token.place; spelled = inl (omega arith, mark_of q); same = refl }); begins = o.begins }

negative : (plain : Bool) (n : ℕ) (p : Place) → suc n < 9223372036854775808 → Opening (45 ∷ decimal (suc n)) (λ Q. Again bare_expr (Own plain) (number (negsuc n) p) ⨟ Q)
negative plain n p h = let o = number_prints (suc n) h in record { prints = as2 (seq minus o.prints (frees o)) (λ w q. record { it = number (negsuc n) q.first.token.place; spelled = inl (omega arith, anew q (mark_of q.first) q.second); same = refl }); begins = refl }

least : (plain : Bool) (p : Place) → Opening (45 ∷ decimal 9223372036854775808) (λ Q. Again bare_expr (Own plain) (number (negsuc 9223372036854775807) p) ⨟ Q)
least plain p = let o = edge_prints in record { prints = as2 (seq minus o.prints (frees o)) (λ w q. record { it = number (negsuc 9223372036854775807) q.first.token.place; spelled = inr (omega arith, (refl, anew q (mark_of q.first) q.second)); same = refl }); begins = refl }

-- ---- expressions
least_is : (plain : Bool) (n : ℕ) (p : Place) → n ≡ 9223372036854775807 → Opening (45 ∷ decimal (suc n)) (λ Q. Again bare_expr (Own plain) (number (negsuc n) p) ⨟ Q)
least_is plain n p e = subst (λ (m : ℕ). Opening (45 ∷ decimal (suc m)) (λ Q. Again bare_expr (Own plain) (number (negsuc m) p) ⨟ Q)) (sym e) (least plain p)

-- a number that is 0 is within the greatest
none_small : (n : ℕ) → n ≡ 0 → n < 9223372036854775808
none_small n e = omega arith

-- arguments, and what stands behind the parenthesis that opens them
pub record IsArguments (plain : Bool) (es : ExprTrees) : Type 1 where
  pub prints : Prints closes (arguments_text es) (λ Q. Again bare_exprs (Arguments plain) es ⨟ Q)
  pub is_free : (z : List ℕ) → closes z ≡ true → free (arguments_text es ++ z) ≡ true

abbrev PrintsArguments : Bool → ExprTrees → Type 1
PrintsArguments plain es = (u : List Tok) → Arguments plain es u → AllFair u → IsArguments plain es

more_closes : (es : ExprTrees) (z : List ℕ) → closes z ≡ true → closes (more_arguments_text es ++ z) ≡ true
more_closes none z h = h
more_closes (more e es) z h = refl

mutual
  pub printed : (plain : Bool) (e : ExprTree) → PrintsExpr plain e
  printed plain (number (pos n) p) k u (inl x) h = positive plain n p (fair_mark x.1 h)
  printed plain (number (pos n) p) k u (inr x) h = positive plain n p (none_small n x.1.0)
  printed plain (number (negsuc n) p) k u (inl x) h = negative plain n p (fair_sign x.1.second (fair_back x.1 h))
  printed plain (number (negsuc n) p) k u (inr x) h = least_is plain n p x.1.0
  printed plain (text s p) k u x h = let o = text_prints s (fair_mark x.1 h) in record { prints = as1 o.prints (λ w q. record { it = text s q.token.place; spelled = (omega arith, mark_of q); same = refl }); begins = o.begins }
  printed plain (yes p) k u x h = record { prints = as1 (word_of kind.KwTrue refl refl) (λ w q. record { it = yes q.token.place; spelled = (omega arith, mark_of q); same = refl }); begins = refl }
  printed plain (no p) k u x h = record { prints = as1 (word_of kind.KwFalse refl refl) (λ w q. record { it = no q.token.place; spelled = (omega arith, mark_of q); same = refl }); begins = refl }
  printed plain (this p) k u x h = record { prints = as1 (word_of kind.KwThis refl refl) (λ w q. record { it = this q.token.place; spelled = (omega arith, mark_of q); same = refl }); begins = refl }
  printed plain (name n) k u x h = let o = name_again n u x.1 h in record { prints = as1 o.prints (λ w q. record { it = name q.it; spelled = (omega arith, q.spelled); same = ap name q.same }); begins = o.begins }
  printed plain (unit p) k u x h = record { prints = as2 (narrow (seq open_parens close_parens (λ z i. refl))) (λ w q. record { it = unit q.first.token.place; spelled = (omega arith, anew q (mark_of q.first) q.second); same = refl }); begins = refl }
  printed plain (negate e p) k u x h =
      let o = at_negation plain e (λ j v y g. printed plain e j v y g) x.1.back x.1.second.0 (fair_back x.1 h) in
      record { prints = as2 (seq minus o.prints (frees o)) (λ w q. record { it = negate q.second.it q.first.token.place; spelled = (omega arith, anew q (mark_of q.first) q.second.spelled); same = ap (λ (z : ExprTree). negate z nowhere) q.second.same }); begins = refl }
  printed plain (invert e p) k u x h =
      let o = at_place plain 6 e (omega arith) (λ j v y g. printed plain e j v y g) x.1.back x.1.second (fair_back x.1 h) in
      record { prints = as2 (seq bang o.prints (frees o)) (λ w q. record { it = invert q.second.it q.first.token.place; spelled = (omega arith, anew q (mark_of q.first) q.second.spelled); same = ap (λ (z : ExprTree). invert z nowhere) q.second.same }); begins = refl }
  printed plain (binary o a b p) k u x h =
      let oa = at_place plain (left_level_of o) a (left_above o) (λ j v y g. printed plain a j v y g) x.1.front x.1.first (fair_front x.1 h) in
      let ob = at_place plain (right_level_of o) b (right_above o) (λ j v y g. printed plain b j v y g) x.1.second.back x.1.second.second (fair_back x.1.second (fair_back x.1 h)) in
      record {
        prints = as3 (seq (seq (seq (seq oa.prints blank (λ z i. refl)) (operator o) (λ z i. refl)) blank (λ z i. refl)) ob.prints (λ z i. refl)) (λ w q. record {
          it = binary o q.first.it q.second.second.it q.second.first.token.place;
          spelled = (omega arith, anew q q.first.spelled (anew q.second (mark_of q.second.first) q.second.second.spelled));
          same = ap (λ (z : ExprTree). binary o z (bare_expr q.second.second.it) nowhere) q.first.same ∙ ap (λ (z : ExprTree). binary o (bare_expr a) z nowhere) q.second.second.same;
        });
        begins = opens_append (((placed (left_level_of o) (level_of a) (expr_text a) ++ codes " ") ++ spelling_of (symbol_of o)) ++ codes " ") (placed (right_level_of o) (level_of b) (expr_text b))
            (opens_append ((placed (left_level_of o) (level_of a) (expr_text a) ++ codes " ") ++ spelling_of (symbol_of o)) (codes " ")
            (opens_append (placed (left_level_of o) (level_of a) (expr_text a) ++ codes " ") (spelling_of (symbol_of o))
            (opens_append (placed (left_level_of o) (level_of a) (expr_text a)) (codes " ") oa.begins)));
      }
  printed plain (call e n es) k u x h =
      let x1 = x.1.second in let x2 = x1.second in let x3 = x2.second in let x4 = x3.second in
      let h1 = fair_back x.1 h in let h2 = fair_back x1 h1 in let h3 = fair_back x2 h2 in let h4 = fair_back x3 h3 in
      let oe = at_place plain 7 e (omega arith) (λ j v y g. printed plain e j v y g) x.1.front x.1.first (fair_front x.1 h) in
      let on = name_again n x2.front x2.first (fair_front x2 h2) in
      let os = printed_arguments plain es x4.front x4.first (fair_front x4 h4) in
      record {
        prints = as6 (narrow (seq (seq (seq (seq (seq oe.prints (symbol kind.SymDot refl refl refl) (λ z i. refl)) on.prints (frees on)) open_parens (λ z i. refl)) os.prints os.is_free) close_parens (λ z i. refl))) (λ w q.
            let q1 = q.second in let q2 = q1.second in let q3 = q2.second in let q4 = q3.second in
            record {
              it = call q.first.it q2.first.it q4.first.it;
              spelled = (omega arith, anew q q.first.spelled (anew q1 q1.first (anew q2 q2.first.spelled (anew q3 q3.first (anew q4 q4.first.spelled q4.second)))));
              same = let e1 = q.first.same in let e2 = q2.first.same in let e3 = q4.first.same in rw (e1, e2, e3) refl;
            });
        begins = opens_append ((((placed 7 (level_of e) (expr_text e) ++ codes ".") ++ n.text) ++ codes "(") ++ arguments_text es) (codes ")")
            (opens_append (((placed 7 (level_of e) (expr_text e) ++ codes ".") ++ n.text) ++ codes "(") (arguments_text es)
            (opens_append ((placed 7 (level_of e) (expr_text e) ++ codes ".") ++ n.text) (codes "(")
            (opens_append (placed 7 (level_of e) (expr_text e) ++ codes ".") n.text
            (opens_append (placed 7 (level_of e) (expr_text e)) (codes ".") oe.begins))));
      }
  printed plain (size e p) k u x h =
      let x1 = x.1.second in let x2 = x1.second in
      let oe = at_argument plain e (λ j v y g. printed plain e j v y g) x2.front x2.first (fair_front x2 (fair_back x1 (fair_back x.1 h))) in
      record {
        prints = as4 (narrow (seq (seq (built kind.KwTextSize (word_of kind.KwTextSize refl refl)) oe.prints (frees oe)) close_parens (λ z i. refl))) (λ w q.
            record {
              it = size q.second.second.first.it q.first.token.place;
              spelled = (omega arith, anew q (mark_of q.first) (anew q.second q.second.first (anew q.second.second q.second.second.first.spelled q.second.second.second)));
              same = ap (λ (z : ExprTree). size z nowhere) q.second.second.first.same;
            });
        begins = refl;
      }
  printed plain (part e a b p) k u x h =
      let x1 = x.1.second in let x2 = x1.second in let x3 = x2.second in let x4 = x3.second in let x5 = x4.second in let x6 = x5.second in
      let h1 = fair_back x.1 h in let h2 = fair_back x1 h1 in let h3 = fair_back x2 h2 in let h4 = fair_back x3 h3 in let h5 = fair_back x4 h4 in let h6 = fair_back x5 h5 in
      let oe = at_argument plain e (λ j v y g. printed plain e j v y g) x2.front x2.first (fair_front x2 h2) in
      let oa = at_argument plain a (λ j v y g. printed plain a j v y g) x4.front x4.first (fair_front x4 h4) in
      let ob = at_argument plain b (λ j v y g. printed plain b j v y g) x6.front x6.first (fair_front x6 h6) in
      record {
        prints = as8 (narrow (seq (seq (seq (seq (seq (seq (built kind.KwTextPart (word_of kind.KwTextPart refl refl)) oe.prints (frees oe)) comma (λ z i. refl)) oa.prints (λ z i. refl)) comma (λ z i. refl)) ob.prints (λ z i. refl)) close_parens (λ z i. refl))) (λ w q.
            let q1 = q.second in let q2 = q1.second in let q3 = q2.second in let q4 = q3.second in let q5 = q4.second in let q6 = q5.second in
            record {
              it = part q2.first.it q4.first.it q6.first.it q.first.token.place;
              spelled = (omega arith, anew q (mark_of q.first) (anew q1 q1.first (anew q2 q2.first.spelled (anew q3 q3.first (anew q4 q4.first.spelled (anew q5 q5.first (anew q6 q6.first.spelled q6.second)))))));
              same = let e1 = q2.first.same in let e2 = q4.first.same in let e3 = q6.first.same in rw (e1, e2, e3) refl;
            });
        begins = refl;
      }
  printed plain (byte_at e i p) k u x h =
      let x1 = x.1.second in let x2 = x1.second in let x3 = x2.second in let x4 = x3.second in
      let h1 = fair_back x.1 h in let h2 = fair_back x1 h1 in let h3 = fair_back x2 h2 in let h4 = fair_back x3 h3 in
      let oe = at_argument plain e (λ j v y g. printed plain e j v y g) x2.front x2.first (fair_front x2 h2) in
      let oi = at_argument plain i (λ j v y g. printed plain i j v y g) x4.front x4.first (fair_front x4 h4) in
      record {
        prints = as6 (narrow (seq (seq (seq (seq (built kind.KwTextCode (word_of kind.KwTextCode refl refl)) oe.prints (frees oe)) comma (λ z g. refl)) oi.prints (λ z g. refl)) close_parens (λ z g. refl))) (λ w q.
            let q1 = q.second in let q2 = q1.second in let q3 = q2.second in let q4 = q3.second in
            record {
              it = byte_at q2.first.it q4.first.it q.first.token.place;
              spelled = (omega arith, anew q (mark_of q.first) (anew q1 q1.first (anew q2 q2.first.spelled (anew q3 q3.first (anew q4 q4.first.spelled q4.second)))));
              same = let e1 = q2.first.same in let e2 = q4.first.same in rw (e1, e2) refl;
            });
        begins = refl;
      }
  printed plain (byte e p) k u x h =
      let x1 = x.1.second in let x2 = x1.second in
      let oe = at_argument plain e (λ j v y g. printed plain e j v y g) x2.front x2.first (fair_front x2 (fair_back x1 (fair_back x.1 h))) in
      record {
        prints = as4 (narrow (seq (seq (built kind.KwTextByte (word_of kind.KwTextByte refl refl)) oe.prints (frees oe)) close_parens (λ z i. refl))) (λ w q.
            record {
              it = byte q.second.second.first.it q.first.token.place;
              spelled = (omega arith, anew q (mark_of q.first) (anew q.second q.second.first (anew q.second.second q.second.second.first.spelled q.second.second.second)));
              same = ap (λ (z : ExprTree). byte z nowhere) q.second.second.first.same;
            });
        begins = refl;
      }
  printed plain (show e p) k u x h =
      let x1 = x.1.second in let x2 = x1.second in
      let oe = at_argument plain e (λ j v y g. printed plain e j v y g) x2.front x2.first (fair_front x2 (fair_back x1 (fair_back x.1 h))) in
      record {
        prints = as4 (narrow (seq (seq (built kind.KwTextShow (word_of kind.KwTextShow refl refl)) oe.prints (frees oe)) close_parens (λ z i. refl))) (λ w q.
            record {
              it = show q.second.second.first.it q.first.token.place;
              spelled = (omega arith, anew q (mark_of q.first) (anew q.second q.second.first (anew q.second.second q.second.second.first.spelled q.second.second.second)));
              same = ap (λ (z : ExprTree). show z nowhere) q.second.second.first.same;
            });
        begins = refl;
      }
  printed plain (ascribe e t p) k u x h =
      let x1 = x.1.second in let x2 = x1.second in let x3 = x2.second in
      let h1 = fair_back x.1 h in let h2 = fair_back x1 h1 in let h3 = fair_back x2 h2 in
      let oe = at_argument plain e (λ j v y g. printed plain e j v y g) x1.front x1.first (fair_front x1 h1) in
      let ot = type_again plain t x3.front x3.first (fair_front x3 h3) in
      record {
        prints = as5 (narrow (seq (seq (seq (seq open_parens oe.prints (frees oe)) spaced_colon (λ z i. refl)) ot.prints (λ z i. refl)) close_parens (λ z i. refl))) (λ w q.
            let q1 = q.second in let q2 = q1.second in let q3 = q2.second in
            record {
              it = ascribe q1.first.it q3.first.it q.first.token.place;
              spelled = (omega arith, anew q (mark_of q.first) (anew q1 q1.first.spelled (anew q2 q2.first (anew q3 q3.first.spelled q3.second))));
              same = let e1 = q1.first.same in let e2 = q3.first.same in rw (e1, e2) refl;
            });
        begins = refl;
      }
  printed plain (choice c a b p) k u x h =
      let x1 = x.1.second in let x2 = x1.second in let x3 = x2.second in let x4 = x3.second in
      let h1 = fair_back x.1 h in let h2 = fair_back x1 h1 in let h3 = fair_back x2 h2 in let h4 = fair_back x3 h3 in
      let oc = at_place plain 1 c (omega arith) (λ j v y g. printed plain c j v y g) x1.front x1.first (fair_front x1 h1) in
      let oa = at_argument plain a (λ j v y g. printed plain a j v y g) x3.front x3.first (fair_front x3 h3) in
      let ob = at_argument plain b (λ j v y g. printed plain b j v y g) x4.back x4.second (fair_back x4 h4) in
      record {
        prints = as6 (seq (seq (seq (seq (seq if_word oc.prints (λ z i. refl)) then_word (λ z i. refl)) oa.prints (λ z i. refl)) else_word (λ z i. refl)) ob.prints (λ z i. refl)) (λ w q.
            let q1 = q.second in let q2 = q1.second in let q3 = q2.second in let q4 = q3.second in
            record {
              it = choice q1.first.it q3.first.it q4.second.it q.first.token.place;
              spelled = (omega arith, anew q (mark_of q.first) (anew q1 q1.first.spelled (anew q2 q2.first (anew q3 q3.first.spelled (anew q4 q4.first q4.second.spelled)))));
              same = let e1 = q1.first.same in let e2 = q3.first.same in let e3 = q4.second.same in rw (e1, e2, e3) refl;
            });
        begins = refl;
      }

  printed_arguments : (plain : Bool) (es : ExprTrees) → PrintsArguments plain es
  printed_arguments plain none u x h = record { prints = no_items (record { it = none; spelled = refl; same = refl }); is_free = λ z i. closes_free z i }
  printed_arguments plain (more e es) u x h =
      let o = at_argument plain e (λ j v y g. printed plain e j v y g) x.front x.first (fair_front x h) in
      let r = printed_more plain es x.back x.second (fair_back x h) in
      record {
        prints = as2 (seq o.prints r (more_closes es)) (λ w q. record {
          it = more q.first.it q.second.it;
          spelled = anew q q.first.spelled q.second.spelled;
          same = ap (λ (z : ExprTree). more z (bare_exprs q.second.it)) q.first.same ∙ ap (λ (z : ExprTrees). more (bare_expr e) z) q.second.same;
        });
        is_free = λ z i. ap free (append_assoc (expr_text e) (more_arguments_text es) z) ∙ opens_free (expr_text e ++ (more_arguments_text es ++ z)) (opens_append (expr_text e) (more_arguments_text es ++ z) o.begins);
      }

  printed_more : (plain : Bool) (es : ExprTrees) (u : List Tok) → MoreArguments plain es u → AllFair u → Prints closes (more_arguments_text es) (λ Q. Again bare_exprs (MoreArguments plain) es ⨟ Q)
  printed_more plain none u x h = no_items (record { it = none; spelled = refl; same = refl })
  printed_more plain (more e es) u x h =
      let x1 = x.second in
      let o = at_argument plain e (λ j v y g. printed plain e j v y g) x1.front x1.first (fair_front x1 (fair_back x h)) in
      let r = printed_more plain es x1.back x1.second (fair_back x1 (fair_back x h)) in
      as3 (seq (seq comma o.prints (λ z i. refl)) r (more_closes es)) (λ w q. record {
        it = more q.second.first.it q.second.second.it;
        spelled = anew q q.first (anew q.second q.second.first.spelled q.second.second.spelled);
        same = ap (λ (z : ExprTree). more z (bare_exprs q.second.second.it)) q.second.first.same ∙ ap (λ (z : ExprTrees). more (bare_expr e) z) q.second.second.same;
      })

-- an expression at a place that asks for a level
pub expr_again : (plain : Bool) (k : ℕ) (e : ExprTree) → 1 ≤ k → (u : List Tok) → SpellsExpr plain k e u → AllFair u → Opening (placed k (level_of e) (expr_text e)) (λ Q. Again bare_expr (SpellsExpr plain k) e ⨟ Q)
expr_again plain k e l u x h = at_place plain k e l (printed plain e) u x h

-- an expression alone on the right side
pub value_again : (plain : Bool) (k : ℕ) (e : ExprTree) → k ≤ 1 → (u : List Tok) → SpellsExpr plain k e u → AllFair u → Opening (expr_text e) (λ Q. Again bare_expr (SpellsExpr plain k) e ⨟ Q)
value_again plain k e l u x h =
    let i = inside plain e k u x h in
    let o = printed plain e i.level i.tokens i.spelled i.are_fair in
    let b = level_bound plain e i.level i.tokens i.spelled in
    record { prints = as1 o.prints (λ w q. alone plain k e w (reach k l i.some b) q); begins = o.begins }
  where
    reach : (k : ℕ) → k ≤ 1 → {level : ℕ} → (1 ≤ k → 1 ≤ level) → level ≤ level_of e → k ≤ level_of e
    reach zero l s b = omega arith
    reach (suc k) l {level} s b = let a : 1 ≤ level = s (omega arith) in omega arith
