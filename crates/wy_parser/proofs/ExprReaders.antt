-- Expressions: each reader is exact.
use Rattle.std.proofs.Common.{◌≡◌, ℕ, zero, suc, ◌-◌, ◌≤◌, Bool, true, false, cond, ◌&&◌, not, List, [], ◌∷◌, ◌++◌, refl, sym, ap, subst, ◌∙◌, arith, inl, inr, ◌⊎◌, append_assoc}
use Rattle.std.specs.Prelude.{ℤ, pos, negsuc}
use Rattle.wy_text.specs.declared.fault.Place.{Place}
use Rattle.wy_text.specs.declared.token.TokenKind.TheVariants as kind
use Rattle.wy_syntax.specs.declared.types.Name.{Name}
use Rattle.wy_syntax.specs.declared.expressions.Operator.{Operator}
use Rattle.wy_syntax.specs.declared.expressions.Operator.TheVariants as op
use Rattle.wy_syntax.specs.Tokens.{Tok, code, code_of, member}
use Rattle.wy_syntax.specs.Tokens as tokens
use Rattle.wy_syntax.specs.Trees.{ExprTree, ExprTrees, number, text, yes, no, this, name, unit, negate, invert, binary, call, size, part, byte_at, byte, show, ascribe, choice, none, more, exprs_of}
use Rattle.wy_syntax.specs.Languages.{Sign, Mark, Word, Then, Each, Commas}
use Rattle.wy_syntax.specs.TypeGrammar.{SpellsType}
use Rattle.wy_syntax.specs.ExprGrammar.{level_of_op, edge, SpellsNumber, Wrapped, Bare, Arguments, MoreArguments, SpellsExpr}
use Rattle.wy_parser.specs.Reading.{choose, starts}
use Rattle.wy_parser.specs.Parsing.{R, text_of_kind, value_of_kind}
use Rattle.wy_parser.specs.ExprParsing.{expr_first, arg_first, minus_of, argument_at, one_argument, built1, several_arguments, is_choice, ascription, closing_expr, parens, built, atomic, call_part, add_call, post, minus, bang, unary, operator_part, add_binary, product, sum, compare_set, compare, conj, disj, chain, choice_rest, choice_of, p_unary, p_expr, p_arg}
use Rattle.wy_parser.proofs.KindNumbers.{kind_at, number_is, text_is}
use Rattle.wy_parser.proofs.Exact.{Last, Spelled}
use Rattle.wy_parser.proofs.Else.{Other}
use Rattle.wy_parser.proofs.Made.{Made, SeqOf, MapOf, OneOf, Or, Elsewhere, LeftOf, seq, behind, map_to, give, alt, otherwise, made_never, become, less, here, token_at, made_tok, marks, made_mark, self_true, made_word, made_commas, made_left, is_member, member_is, pass, unpass, unpass_as, all_of, alone_of, map_of, sign, unsign}
use Rattle.wy_parser.proofs.Levels.{bare, lower_wrapped, lower_placed, no_choice, raise_arg, IsLevel, level1, level2, level3, level4, level5, Tail, join, split}
use Rattle.wy_parser.proofs.TypeReaders.{made_type}

-- the kinds that may go on behind an expression of each level
abbrev pub behind6 : List ℕ
behind6 = 46 ∷ []

abbrev pub behind5 : List ℕ
behind5 = 56 ∷ 57 ∷ 58 ∷ behind6

abbrev pub behind4 : List ℕ
behind4 = 54 ∷ 55 ∷ 59 ∷ behind5

abbrev pub behind3 : List ℕ
behind3 = 48 ∷ 49 ∷ 50 ∷ 51 ∷ 52 ∷ 53 ∷ behind4

abbrev pub behind2 : List ℕ
behind2 = 60 ∷ behind3

abbrev pub expr_behind : List ℕ
expr_behind = 61 ∷ behind2

abbrev pub arg_behind : List ℕ
arg_behind = expr_behind

-- ---- what stands alone

same_number : (n : ℕ) (x : Tok) → x.kind ≡ kind.Number (pos n) → n ≡ value_of_kind x.kind
same_number n x e = ap (λ z. value_of_kind z) (sym e)

abbrev digit_node : Tok → ExprTree
digit_node x = number (pos (value_of_kind x.kind)) x.place

abbrev text_node : Tok → ExprTree
text_node x = text (text_of_kind x.kind) x.place

-- what stands behind an Arg in parentheses
abbrev Ascribed : Bool → Place → ExprTree → ExprTree → List Tok → Type 0
Ascribed plain p e = SeqOf (λ q. Mark kind.SymColon q) (λ c. SeqOf (λ t u. SpellsType plain t u) (λ t. MapOf (λ d. ascribe e t p) (λ q. Mark kind.SymCloseParen q)))

abbrev Closed : ExprTree → ExprTree → List Tok → Type 0
Closed e = MapOf (λ d. e) (λ q. Mark kind.SymCloseParen q)

abbrev After : Bool → Place → ExprTree → ExprTree → List Tok → Type 0
After plain p e z u = Ascribed plain p e z u ⊎ ((is_choice e ≡ false) × Closed e z u)

made_ascription : (plain : Bool) (p : Place) (e : ExprTree) (n n' m : ℕ) → n ≤ n' → m ≤ n → Made (ascription plain p e n) (ascription plain p e n') (Ascribed plain p e) (45 ∷ []) [] false m
unfolding ascription
made_ascription plain p e n n' m h k =
    seq (made_mark 45 m refl) (λ k0.
    seq (made_type plain n n' m h k) (λ t.
    map_to (λ k2. ascribe e t p) (made_mark 39 m refl)) refl) refl

made_after : (plain : Bool) (p : Place) (e : ExprTree) (n n' m : ℕ) → n ≤ n' → m ≤ n → (b : Bool) → is_choice e ≡ b → Made (cond b (ascription plain p e n) (choose code (45 ∷ []) (ascription plain p e n) (closing_expr e))) (cond b (ascription plain p e n') (choose code (45 ∷ []) (ascription plain p e n') (closing_expr e))) (After plain p e) (45 ∷ 39 ∷ []) [] false m
made_after plain p e n n' m h k true c = become (made_ascription plain p e n n' m h k) (λ z u s. inl s) (λ z u s. from z u s) refl
  where
    from : (z : ExprTree) (u : List Tok) → After plain p e z u → Ascribed plain p e z u
    from z u (inl s) = s
    from z u (inr s) = let q = s.0 in absurd cc
made_after plain p e n n' m h k false c = become (alt (45 ∷ []) (made_ascription plain p e n n' m h k) (map_to (λ d. e) (made_mark 39 m refl)) refl) (λ z u s. to z u s) (λ z u s. from z u s) refl
  where
    to : (z : ExprTree) (u : List Tok) → Or (Ascribed plain p e) (Closed e) z u → After plain p e z u
    to z u (inl s) = inl s
    to z u (inr s) = inr (c, s)

    from : (z : ExprTree) (u : List Tok) → After plain p e z u → Or (Ascribed plain p e) (Closed e) z u
    from z u (inl s) = inl s
    from z u (inr s) = inr s.1

abbrev Parens : Bool → ExprTree → List Tok → Type 0
Parens plain = SeqOf (λ q. Mark kind.SymOpenParen q) (λ p. Or (MapOf (λ c. unit p) (λ q. Mark kind.SymCloseParen q)) (SeqOf (λ e u. SpellsExpr plain 0 e u) (λ e. After plain p e)))

made_parens : (plain : Bool) (arg arg' : R ExprTree) (n n' m : ℕ) → n ≤ n' → m ≤ n → Made arg arg' (λ e u. SpellsExpr plain 0 e u) arg_first arg_behind false (m - 1) → Made (parens plain arg n) (parens plain arg' n') (Parens plain) (38 ∷ []) [] false m
unfolding parens
made_parens plain arg arg' n n' m h k A = behind (made_mark 38 m refl) (λ p. alt (39 ∷ []) (map_to (λ c. unit p) (made_mark 39 (m - 1) refl)) (seq A (λ e. made_after plain p e n n' (m - 1) h (omega arith) (is_choice e) refl) refl) refl) refl

-- a word and one argument
abbrev IsOne : ℕ → (ExprTree → Place → ExprTree) → Bool → ExprTree → List Tok → Type 0
IsOne k f plain = SeqOf (λ q. Mark (kind_at k) q) (λ p. SeqOf (λ q. Mark kind.SymOpenParen q) (λ k1. SeqOf (λ e u. SpellsExpr plain 0 e u) (λ e. MapOf (λ k3. f e p) (λ q. Mark kind.SymCloseParen q))))

made_one : (k : ℕ) (f : ExprTree → Place → ExprTree) (plain : Bool) (arg arg' : R ExprTree) (m : ℕ) → marks k ≡ true → Made arg arg' (λ e u. SpellsExpr plain 0 e u) arg_first arg_behind false (m - 1) → Made (built1 k f arg) (built1 k f arg') (IsOne k f plain) (k ∷ []) [] false m
unfolding built1 one_argument
made_one k f plain arg arg' m e A = become (map_to (λ x. f x.0 x.1) (
    behind (made_mark k m e) (λ p.
    seq (made_mark 38 (m - 1) refl) (λ k1.
    seq (A) (λ e.
    map_to (λ k3. argument_at e p) (made_mark 39 (m - 1) refl)) refl) refl) refl))
    (λ z u s. let w = s.spelled in unpass_as w w.value w.first (unpass_as w.second w.second.value w.second.first (unpass_as w.second.second w.second.second.value w.second.second.first (map_of w.second.second.second.value (s.is ∙ ap (λ (y : ExprTree × Place). f y.0 y.1) w.second.second.second.is) w.second.second.second.spelled))))
    (λ z u s. map_of (argument_at s.second.second.value s.value) s.second.second.second.is (unpass_as s s.value s.first (unpass_as s.second s.second.value s.second.first (unpass_as s.second.second s.second.second.value s.second.second.first (map_of s.second.second.second.value refl s.second.second.second.spelled))))) (self_true (k ∷ []) [])

abbrev IsPart : Bool → ExprTree → List Tok → Type 0
IsPart plain = SeqOf (λ q. Mark kind.KwTextPart q) (λ p. SeqOf (λ q. Mark kind.SymOpenParen q) (λ k1. SeqOf (λ e u. SpellsExpr plain 0 e u) (λ e. SeqOf (λ q. Mark kind.SymComma q) (λ k3. SeqOf (λ e u. SpellsExpr plain 0 e u) (λ a. SeqOf (λ q. Mark kind.SymComma q) (λ k5. SeqOf (λ e u. SpellsExpr plain 0 e u) (λ b. MapOf (λ k7. part e a b p) (λ q. Mark kind.SymCloseParen q))))))))

made_part : (plain : Bool) (arg arg' : R ExprTree) (m : ℕ) → Made arg arg' (λ e u. SpellsExpr plain 0 e u) arg_first arg_behind false (m - 1) → Made (several_arguments 34 true arg) (several_arguments 34 true arg') (IsPart plain) (34 ∷ []) [] false m
unfolding several_arguments
made_part plain arg arg' m A =
    behind (made_mark 34 m refl) (λ p.
    seq (made_mark 38 (m - 1) refl) (λ k1.
    seq (A) (λ e.
    seq (made_mark 44 (m - 1) refl) (λ k3.
    seq (A) (λ a.
    seq (made_mark 44 (m - 1) refl) (λ k5.
    seq (A) (λ b.
    map_to (λ k7. part e a b p) (made_mark 39 (m - 1) refl)) refl) refl) refl) refl) refl) refl) refl

abbrev IsByteat : Bool → ExprTree → List Tok → Type 0
IsByteat plain = SeqOf (λ q. Mark kind.KwTextCode q) (λ p. SeqOf (λ q. Mark kind.SymOpenParen q) (λ k1. SeqOf (λ e u. SpellsExpr plain 0 e u) (λ e. SeqOf (λ q. Mark kind.SymComma q) (λ k3. SeqOf (λ e u. SpellsExpr plain 0 e u) (λ i. MapOf (λ k5. byte_at e i p) (λ q. Mark kind.SymCloseParen q))))))

made_byte_at : (plain : Bool) (arg arg' : R ExprTree) (m : ℕ) → Made arg arg' (λ e u. SpellsExpr plain 0 e u) arg_first arg_behind false (m - 1) → Made (several_arguments 35 false arg) (several_arguments 35 false arg') (IsByteat plain) (35 ∷ []) [] false m
unfolding several_arguments
made_byte_at plain arg arg' m A =
    behind (made_mark 35 m refl) (λ p.
    seq (made_mark 38 (m - 1) refl) (λ k1.
    seq (A) (λ e.
    seq (made_mark 44 (m - 1) refl) (λ k3.
    seq (A) (λ i.
    map_to (λ k5. byte_at e i p) (made_mark 39 (m - 1) refl)) refl) refl) refl) refl) refl

abbrev Builts : Bool → ExprTree → List Tok → Type 0
Builts plain = Or (IsOne 33 size plain) (Or (IsPart plain) (Or (IsByteat plain) (Or (IsOne 36 byte plain) (IsOne 37 show plain))))

made_built : (plain : Bool) (arg arg' : R ExprTree) (m : ℕ) → Made arg arg' (λ e u. SpellsExpr plain 0 e u) arg_first arg_behind false (m - 1) → Made (built arg) (built arg') (Builts plain) (33 ∷ 34 ∷ 35 ∷ 36 ∷ 37 ∷ []) [] false m
unfolding built
made_built plain arg arg' m A =
    alt (33 ∷ []) (made_one 33 size plain arg arg' m refl A)
    (alt (34 ∷ []) (made_part plain arg arg' m A)
    (alt (35 ∷ []) (made_byte_at plain arg arg' m A)
    (alt (36 ∷ []) (made_one 36 byte plain arg arg' m refl A) (made_one 37 show plain arg arg' m refl A) refl) refl) refl) refl

abbrev Alone : Bool → ExprTree → List Tok → Type 0
Alone plain = (Or (MapOf digit_node (OneOf (2 ∷ []))) (Or (MapOf text_node (OneOf (4 ∷ []))) (Or (MapOf (λ p. yes p) (λ q. Mark kind.KwTrue q)) (Or (MapOf (λ p. no p) (λ q. Mark kind.KwFalse q)) (Or (MapOf (λ p. this p) (λ q. Mark kind.KwThis q)) (Or (MapOf (λ w. name w) (λ w. Word w)) (Or (Builts plain) (Parens plain))))))))

closed_to : (plain : Bool) (p : Place) (z : ExprTree) (u : List Tok) (s : SeqOf (λ q. Mark kind.SymOpenParen q) (λ p. Or (MapOf (λ c. unit p) (λ q. Mark kind.SymCloseParen q)) (SeqOf (λ e u. SpellsExpr plain 0 e u) (λ e. After plain p e))) z u) → SpellsExpr plain 8 z u
closed_to plain p0 z u s = go s.second
  where
    inner : (t : SeqOf (λ e u. SpellsExpr plain 0 e u) (λ e. After plain s.value e) z s.back) → After plain s.value t.value z t.back → SpellsExpr plain 8 z u
    inner t (inl q) = subst (λ (y : ExprTree). SpellsExpr plain 8 y u) (sym q.second.second.is) (bare plain 8 (ascribe t.value q.second.value s.value) u (omega arith, pass s s.first (pass t t.first (pass q (sign q.first) (pass q.second q.second.first (sign q.second.second.spelled))))))
    inner t (inr q) =
        let e = raise_arg plain t.value t.front q.0 t.first in
        subst (λ (y : ExprTree). SpellsExpr plain 8 y u) (sym q.1.is) (record { depth = suc e.depth; inside = pass s (sign s.first) (pass t e.inside (sign q.1.spelled)) })

    go : Or (MapOf (λ c. unit s.value) (λ q. Mark kind.SymCloseParen q)) (SeqOf (λ e u. SpellsExpr plain 0 e u) (λ e. After plain s.value e)) z s.back → SpellsExpr plain 8 z u
    go (inl t) = subst (λ (y : ExprTree). SpellsExpr plain 8 y u) (sym t.is) (bare plain 8 (unit s.value) u (omega arith, pass s s.first (sign t.spelled)))
    go (inr t) = inner t t.second

alone_to : (plain : Bool) (z : ExprTree) (u : List Tok) → Alone plain z u → SpellsExpr plain 8 z u
alone_to plain z u (inl s) = subst (λ (y : ExprTree). SpellsExpr plain 8 y u) (sym s.is) (bare plain 8 (digit_node s.value) u (inl (omega arith, record { token = s.value; only = s.spelled.only; kind = number_is s.value.kind (is_member (code s.value) 2 s.spelled.fits); place = refl })))
alone_to plain z u (inr (inl s)) = subst (λ (y : ExprTree). SpellsExpr plain 8 y u) (sym s.is) (bare plain 8 (text_node s.value) u (omega arith, record { token = s.value; only = s.spelled.only; kind = text_is s.value.kind (is_member (code s.value) 4 s.spelled.fits); place = refl }))
alone_to plain z u (inr (inr (inl s))) = subst (λ (y : ExprTree). SpellsExpr plain 8 y u) (sym s.is) (bare plain 8 (yes s.value) u (omega arith, s.spelled))
alone_to plain z u (inr (inr (inr (inl s)))) = subst (λ (y : ExprTree). SpellsExpr plain 8 y u) (sym s.is) (bare plain 8 (no s.value) u (omega arith, s.spelled))
alone_to plain z u (inr (inr (inr (inr (inl s))))) = subst (λ (y : ExprTree). SpellsExpr plain 8 y u) (sym s.is) (bare plain 8 (this s.value) u (omega arith, s.spelled))
alone_to plain z u (inr (inr (inr (inr (inr (inl s)))))) = subst (λ (y : ExprTree). SpellsExpr plain 8 y u) (sym s.is) (bare plain 8 (name s.value) u (omega arith, s.spelled))
alone_to plain z u (inr (inr (inr (inr (inr (inr (inl ((inl s))))))))) = subst (λ (y : ExprTree). SpellsExpr plain 8 y u) (sym s.second.second.second.is) (bare plain 8 (size s.second.second.value s.value) u (omega arith, (pass s s.first (pass s.second (sign s.second.first) (pass s.second.second s.second.second.first (sign s.second.second.second.spelled))))))
alone_to plain z u (inr (inr (inr (inr (inr (inr (inl ((inr (inl s)))))))))) = subst (λ (y : ExprTree). SpellsExpr plain 8 y u) (sym s.second.second.second.second.second.second.second.is) (bare plain 8 (part s.second.second.value s.second.second.second.second.value s.second.second.second.second.second.second.value s.value) u (omega arith, (pass s s.first (pass s.second (sign s.second.first) (pass s.second.second s.second.second.first (pass s.second.second.second (sign s.second.second.second.first) (pass s.second.second.second.second s.second.second.second.second.first (pass s.second.second.second.second.second (sign s.second.second.second.second.second.first) (pass s.second.second.second.second.second.second s.second.second.second.second.second.second.first (sign s.second.second.second.second.second.second.second.spelled))))))))))
alone_to plain z u (inr (inr (inr (inr (inr (inr (inl ((inr (inr (inl s))))))))))) = subst (λ (y : ExprTree). SpellsExpr plain 8 y u) (sym s.second.second.second.second.second.is) (bare plain 8 (byte_at s.second.second.value s.second.second.second.second.value s.value) u (omega arith, (pass s s.first (pass s.second (sign s.second.first) (pass s.second.second s.second.second.first (pass s.second.second.second (sign s.second.second.second.first) (pass s.second.second.second.second s.second.second.second.second.first (sign s.second.second.second.second.second.spelled))))))))
alone_to plain z u (inr (inr (inr (inr (inr (inr (inl ((inr (inr (inr (inl s)))))))))))) = subst (λ (y : ExprTree). SpellsExpr plain 8 y u) (sym s.second.second.second.is) (bare plain 8 (byte s.second.second.value s.value) u (omega arith, (pass s s.first (pass s.second (sign s.second.first) (pass s.second.second s.second.second.first (sign s.second.second.second.spelled))))))
alone_to plain z u (inr (inr (inr (inr (inr (inr (inl ((inr (inr (inr (inr (s))))))))))))) = subst (λ (y : ExprTree). SpellsExpr plain 8 y u) (sym s.second.second.second.is) (bare plain 8 (show s.second.second.value s.value) u (omega arith, (pass s s.first (pass s.second (sign s.second.first) (pass s.second.second s.second.second.first (sign s.second.second.second.spelled))))))
alone_to plain z u (inr (inr (inr (inr (inr (inr (inr (s)))))))) = closed_to plain s.value z u s

alone_from : (plain : Bool) (z : ExprTree) (u : List Tok) → SpellsExpr plain 8 z u → Alone plain z u
alone_from plain z u s = go z s.depth s.inside
  where
    high : (o : Operator) → 8 ≤ level_of_op o → ⊥
    high op.Or e = omega (arith, e)
    high op.And e = omega (arith, e)
    high op.Equal e = omega (arith, e)
    high op.NotEqual e = omega (arith, e)
    high op.Less e = omega (arith, e)
    high op.LessEqual e = omega (arith, e)
    high op.Greater e = omega (arith, e)
    high op.GreaterEqual e = omega (arith, e)
    high op.Plus e = omega (arith, e)
    high op.Minus e = omega (arith, e)
    high op.Join e = omega (arith, e)
    high op.Times e = omega (arith, e)
    high op.Divide e = omega (arith, e)
    high op.Remainder e = omega (arith, e)

    digit : (v : ℤ) (p : Place) → SpellsNumber 8 v p u → MapOf digit_node (OneOf (2 ∷ [])) (number v p) u
    digit (pos n) p (inl s) = map_of s.1.token (ap (λ (i : ℕ). number (pos i) p) (same_number n s.1.token s.1.kind) ∙ ap (λ (q : Place). number (pos (value_of_kind s.1.token.kind)) q) (sym s.1.place)) (record { only = s.1.only; fits = member_is (code s.1.token) 2 (ap (λ z. code_of z) s.1.kind) })
    digit (pos n) p (inr s) = absurd (omega (arith, s.0))
    digit (negsuc n) p (inl s) = absurd (omega (arith, s.0))
    digit (negsuc n) p (inr s) = absurd (omega (arith, s.0))

    go : (z : ExprTree) (n : ℕ) → Wrapped n 8 (Bare plain z) u → Alone plain z u
    go z (suc n) w = inr (inr (inr (inr (inr (inr (inr ((unpass w w.first.token.place (unsign w.first) (inr (unpass w.second z (record { depth = n; inside = lower_wrapped plain n z 1 0 w.second.front (omega arith) w.second.first }) (inr (no_choice plain n z w.second.front w.second.first, map_of w.second.second.token.place refl (unsign w.second.second)))))))))))))
    go (number v p) zero w = inl ((digit v p w))
    go (text y p) zero w = inr (inl ((map_of w.1.token (ap (λ (i : List ℕ). text i p) (ap (λ q. text_of_kind q) (sym w.1.kind)) ∙ ap (λ (q : Place). text (text_of_kind w.1.token.kind) q) (sym w.1.place)) (record { only = w.1.only; fits = member_is (code w.1.token) 4 (ap (λ q. code_of q) w.1.kind) }))))
    go (yes p) zero w = inr (inr (inl ((map_of p refl w.1))))
    go (no p) zero w = inr (inr (inr (inl ((map_of p refl w.1)))))
    go (this p) zero w = inr (inr (inr (inr (inl ((map_of p refl w.1))))))
    go (name x) zero w = inr (inr (inr (inr (inr (inl ((map_of x refl w.1)))))))
    go (unit p) zero w = inr (inr (inr (inr (inr (inr (inr ((unpass w.1 p w.1.first (inl (map_of w.1.second.token.place refl (unsign w.1.second)))))))))))
    go (negate e p) zero w = absurd (omega (arith, w.0))
    go (invert e p) zero w = absurd (omega (arith, w.0))
    go (binary o a b p) zero w = absurd (high o w.0)
    go (call e x es) zero w = absurd (omega (arith, w.0))
    go (size e p) zero w = inr (inr (inr (inr (inr (inr (inl ((inl ((unpass w.1 p w.1.first (unpass w.1.second w.1.second.first.token.place (unsign w.1.second.first) (unpass w.1.second.second e w.1.second.second.first (map_of w.1.second.second.second.token.place refl (unsign w.1.second.second.second))))))))))))))
    go (part e a b p) zero w = inr (inr (inr (inr (inr (inr (inl ((inr (inl ((unpass w.1 p w.1.first (unpass w.1.second w.1.second.first.token.place (unsign w.1.second.first) (unpass w.1.second.second e w.1.second.second.first (unpass w.1.second.second.second w.1.second.second.second.first.token.place (unsign w.1.second.second.second.first) (unpass w.1.second.second.second.second a w.1.second.second.second.second.first (unpass w.1.second.second.second.second.second w.1.second.second.second.second.second.first.token.place (unsign w.1.second.second.second.second.second.first) (unpass w.1.second.second.second.second.second.second b w.1.second.second.second.second.second.second.first (map_of w.1.second.second.second.second.second.second.second.token.place refl (unsign w.1.second.second.second.second.second.second.second)))))))))))))))))))
    go (byte_at e i p) zero w = inr (inr (inr (inr (inr (inr (inl ((inr (inr (inl ((unpass w.1 p w.1.first (unpass w.1.second w.1.second.first.token.place (unsign w.1.second.first) (unpass w.1.second.second e w.1.second.second.first (unpass w.1.second.second.second w.1.second.second.second.first.token.place (unsign w.1.second.second.second.first) (unpass w.1.second.second.second.second i w.1.second.second.second.second.first (map_of w.1.second.second.second.second.second.token.place refl (unsign w.1.second.second.second.second.second))))))))))))))))))
    go (byte e p) zero w = inr (inr (inr (inr (inr (inr (inl ((inr (inr (inr (inl ((unpass w.1 p w.1.first (unpass w.1.second w.1.second.first.token.place (unsign w.1.second.first) (unpass w.1.second.second e w.1.second.second.first (map_of w.1.second.second.second.token.place refl (unsign w.1.second.second.second)))))))))))))))))
    go (show e p) zero w = inr (inr (inr (inr (inr (inr (inl ((inr (inr (inr (inr ((unpass w.1 p w.1.first (unpass w.1.second w.1.second.first.token.place (unsign w.1.second.first) (unpass w.1.second.second e w.1.second.second.first (map_of w.1.second.second.second.token.place refl (unsign w.1.second.second.second)))))))))))))))))
    go (ascribe e ty p) zero w = inr (inr (inr (inr (inr (inr (inr ((unpass w.1 p w.1.first (inr (unpass w.1.second e w.1.second.first (inl (unpass w.1.second.second w.1.second.second.first.token.place (unsign w.1.second.second.first) (unpass w.1.second.second.second ty w.1.second.second.second.first (map_of w.1.second.second.second.second.token.place refl (unsign w.1.second.second.second.second)))))))))))))))
    go (choice c a b p) zero w = absurd (omega (arith, w.0))

abbrev atom_first : List ℕ
atom_first = 1 ∷ 2 ∷ 4 ∷ 25 ∷ 26 ∷ 27 ∷ 33 ∷ 34 ∷ 35 ∷ 36 ∷ 37 ∷ 38 ∷ []

made_atomic : (plain : Bool) (arg arg' : R ExprTree) (n n' m : ℕ) → n ≤ n' → m ≤ n → Made arg arg' (λ e u. SpellsExpr plain 0 e u) arg_first arg_behind false (m - 1) → Made (atomic plain arg n) (atomic plain arg' n') (λ e u. SpellsExpr plain 8 e u) atom_first [] false m
unfolding atomic
made_atomic plain arg arg' n n' m h k A = become
    (alt (2 ∷ []) (map_to digit_node (made_tok (2 ∷ []) 2 m refl))
    (alt (4 ∷ []) (map_to text_node (made_tok (4 ∷ []) 4 m refl))
    (alt (26 ∷ []) (map_to (λ p. yes p) (made_mark 26 m refl))
    (alt (27 ∷ []) (map_to (λ p. no p) (made_mark 27 m refl))
    (alt (25 ∷ []) (map_to (λ p. this p) (made_mark 25 m refl))
    (alt (1 ∷ []) (map_to (λ w. name w) (made_word m))
    (alt (33 ∷ 34 ∷ 35 ∷ 36 ∷ 37 ∷ []) (made_built plain arg arg' m A) (made_parens plain arg arg' n n' m h k A) refl) refl) refl) refl) refl) refl) refl)
    (alone_to plain) (alone_from plain) refl

-- ---- calls

arguments_to : (plain : Bool) (es : List ExprTree) (u : List Tok) → Commas (λ e u. SpellsExpr plain 0 e u) es u → Arguments plain (exprs_of es) u
arguments_to plain [] u s = s
arguments_to plain (e ∷ es) u s = record { front = s.front; back = s.back; parts = s.parts; first = s.first; second = more_to es s.back s.second }
  where
    more_to : (es : List ExprTree) (u : List Tok) → Each (λ b. Then (Sign kind.SymComma) (λ u. SpellsExpr plain 0 b u)) es u → MoreArguments plain (exprs_of es) u
    more_to [] u s = s
    more_to (e ∷ es) u s = record {
      front = s.first.front;
      back = s.first.back ++ s.back;
      parts = s.parts ∙ ap (λ (w : List Tok). w ++ s.back) s.first.parts ∙ append_assoc s.first.front s.first.back s.back;
      first = s.first.first;
      second = record { front = s.first.back; back = s.back; parts = refl; first = s.first.second; second = more_to es s.back s.second };
    }

abbrev listed : ExprTrees → List ExprTree
listed none = []
listed (more e es) = e ∷ listed es

listed_back : (es : ExprTrees) → exprs_of (listed es) ≡ es
listed_back none = refl
listed_back (more e es) = ap (λ (r : ExprTrees). more e r) (listed_back es)

arguments_from : (plain : Bool) (es : ExprTrees) (u : List Tok) → Arguments plain es u → Commas (λ e u. SpellsExpr plain 0 e u) (listed es) u
arguments_from plain none u s = s
arguments_from plain (more e es) u s = record { front = s.front; back = s.back; parts = s.parts; first = s.first; second = more_from es s.back s.second }
  where
    more_from : (es : ExprTrees) (u : List Tok) → MoreArguments plain es u → Each (λ b. Then (Sign kind.SymComma) (λ u. SpellsExpr plain 0 b u)) (listed es) u
    more_from none u s = s
    more_from (more e es) u s = record {
      front = s.front ++ s.second.front;
      back = s.second.back;
      parts = s.parts ∙ ap (λ (w : List Tok). s.front ++ w) s.second.parts ∙ sym (append_assoc s.front s.second.front s.second.back);
      first = record { front = s.front; back = s.second.front; parts = refl; first = s.first; second = s.second.first };
      second = more_from es s.second.back s.second.second;
    }

abbrev pair_of : Name → List ExprTree → Name × List ExprTree
pair_of w es = (w, es)

-- a dot, a name and arguments
abbrev CallPart : Bool → Name × List ExprTree → List Tok → Type 0
CallPart plain = SeqOf (λ q. Mark kind.SymDot q) (λ d. SeqOf (λ w. Word w) (λ w. SeqOf (λ q. Mark kind.SymOpenParen q) (λ c. SeqOf (λ es u. Commas (λ e u. SpellsExpr plain 0 e u) es u) (λ es. MapOf (λ d. pair_of w es) (λ q. Mark kind.SymCloseParen q)))))

made_call_part : (plain : Bool) (arg arg' : R ExprTree) (n n' m : ℕ) → n ≤ n' → m ≤ n → Made arg arg' (λ e u. SpellsExpr plain 0 e u) arg_first arg_behind false (m - 1) → Made (call_part arg n) (call_part arg' n') (CallPart plain) (46 ∷ []) [] false m
unfolding call_part
made_call_part plain arg arg' n n' m h k A =
    behind (made_mark 46 m refl) (λ k0.
    seq (made_word (m - 1)) (λ w.
    seq (made_mark 38 (m - 1) refl) (λ k2.
    seq (made_commas n n' h (omega arith) A refl refl) (λ es.
    map_to (λ k4. pair_of w es) (made_mark 39 (m - 1) refl)) refl) refl) refl) refl

calls : (plain : Bool) → LeftOf (λ e u. SpellsExpr plain 8 e u) (CallPart plain) add_call (λ e u. SpellsExpr plain 7 e u)
calls plain = record {
  head = λ e u s. lower_placed plain e 8 7 u (omega arith) s;
  more = λ e t u v s w. more e t u v s w;
  split = λ e u s. apart e u s.depth s.inside;
}
  where
    more : (e : ExprTree) (t : Name × List ExprTree) (u v : List Tok) → SpellsExpr plain 7 e u → CallPart plain t v → SpellsExpr plain 7 (add_call e t) (u ++ v)
    more e t u v s w = subst (λ (y : Name × List ExprTree). SpellsExpr plain 7 (add_call e y) (u ++ v)) (sym w.second.second.second.second.is) (record {
      depth = 0;
      inside = (
        omega arith,
        record {
          front = u;
          back = v;
          parts = refl;
          first = s;
          second = pass w (sign w.first) (pass w.second w.second.first (pass w.second.second (sign w.second.second.first) (pass w.second.second.second (arguments_to plain w.second.second.second.value w.second.second.second.front w.second.second.second.first) (sign w.second.second.second.second.spelled))));
        },
      );
    })

    higher : (v : ℤ) (p : Place) (u : List Tok) → SpellsNumber 7 v p u → SpellsNumber 8 v p u
    higher (pos n) p u (inl t) = inl (omega arith, t.1)
    higher (pos n) p u (inr t) = absurd (omega (arith, t.0))
    higher (negsuc n) p u (inl t) = absurd (omega (arith, t.0))
    higher (negsuc n) p u (inr t) = absurd (omega (arith, t.0))

    low : (o : Operator) → 7 ≤ level_of_op o → ⊥
    low op.Or e = omega (arith, e)
    low op.And e = omega (arith, e)
    low op.Equal e = omega (arith, e)
    low op.NotEqual e = omega (arith, e)
    low op.Less e = omega (arith, e)
    low op.LessEqual e = omega (arith, e)
    low op.Greater e = omega (arith, e)
    low op.GreaterEqual e = omega (arith, e)
    low op.Plus e = omega (arith, e)
    low op.Minus e = omega (arith, e)
    low op.Join e = omega (arith, e)
    low op.Times e = omega (arith, e)
    low op.Divide e = omega (arith, e)
    low op.Remainder e = omega (arith, e)

    apart : (c : ExprTree) (u : List Tok) (n : ℕ) → Wrapped n 7 (Bare plain c) u → SpellsExpr plain 8 c u ⊎ Last Tok code 66 (λ e u. SpellsExpr plain 7 e u) (CallPart plain) add_call c u
    apart c u (suc n) t = inl (record { depth = suc n; inside = t })
    apart (number v p) u zero t = inl (record { depth = 0; inside = higher v p u t })
    apart (call e x es) u zero t =
        let w = t.1 in
        inr (record {
          left = e;
          right = (x, listed es);
          front = w.front;
          back = w.back;
          is = ap (λ (y : ExprTrees). call e x y) (sym (listed_back es));
          parts = w.parts;
          first = w.first;
          second = unpass w.second w.second.first.token.place (unsign w.second.first) (unpass w.second.second x w.second.second.first (unpass w.second.second.second w.second.second.second.first.token.place (unsign w.second.second.second.first)
              (unpass w.second.second.second.second (listed es) (arguments_from plain es w.second.second.second.second.front w.second.second.second.second.first) (map_of w.second.second.second.second.second.token.place refl (unsign w.second.second.second.second.second)))));
        })
    apart (negate e p) u zero t = absurd (omega (arith, t.0))
    apart (invert e p) u zero t = absurd (omega (arith, t.0))
    apart (binary o a b p) u zero t = absurd (low o t.0)
    apart (choice c a b p) u zero t = absurd (omega (arith, t.0))
    apart (text y p) u zero t = inl (record { depth = 0; inside = (omega arith, t.1) })
    apart (yes p) u zero t = inl (record { depth = 0; inside = (omega arith, t.1) })
    apart (no p) u zero t = inl (record { depth = 0; inside = (omega arith, t.1) })
    apart (this p) u zero t = inl (record { depth = 0; inside = (omega arith, t.1) })
    apart (name n) u zero t = inl (record { depth = 0; inside = (omega arith, t.1) })
    apart (unit p) u zero t = inl (record { depth = 0; inside = (omega arith, t.1) })
    apart (size e p) u zero t = inl (record { depth = 0; inside = (omega arith, t.1) })
    apart (part e a b p) u zero t = inl (record { depth = 0; inside = (omega arith, t.1) })
    apart (byte_at e i p) u zero t = inl (record { depth = 0; inside = (omega arith, t.1) })
    apart (byte e p) u zero t = inl (record { depth = 0; inside = (omega arith, t.1) })
    apart (show e p) u zero t = inl (record { depth = 0; inside = (omega arith, t.1) })
    apart (ascribe e ty p) u zero t = inl (record { depth = 0; inside = (omega arith, t.1) })

made_post : (plain : Bool) (arg arg' : R ExprTree) (n n' m : ℕ) → n ≤ n' → m ≤ n → Made arg arg' (λ e u. SpellsExpr plain 0 e u) arg_first arg_behind false (m - 1) → Made (post plain arg n) (post plain arg' n') (λ e u. SpellsExpr plain 7 e u) atom_first behind6 false m
unfolding post
made_post plain arg arg' n n' m h k A = made_left n n' h k (46 ∷ []) behind6 (made_atomic plain arg arg' n n' m h k A) (made_call_part plain arg arg' n n' m h k A) (calls plain) refl

abbrev value_at : Tok → ℕ
value_at x = value_of_kind x.kind

-- ---- what stands behind a `-` or a `!`

starts_as : (G : List ℕ) (u : List Tok) → starts code G u ≡ tokens.starts G u
starts_as G [] = refl
starts_as G (x ∷ u) = refl

abbrev Minus : Bool → ExprTree → List Tok → Type 0
Minus plain = SeqOf (λ q. Mark kind.SymMinus q) (λ p. Or (Or (MapOf (λ v. number (minus_of v) p) (MapOf value_at (OneOf (2 ∷ [])))) (MapOf (λ x. number (negsuc edge) p) (λ q. Mark kind.Edge q))) (Elsewhere (2 ∷ 3 ∷ []) (MapOf (λ e. negate e p) (λ e u. SpellsExpr plain 6 e u))))

abbrev Bang : Bool → ExprTree → List Tok → Type 0
Bang plain = SeqOf (λ q. Mark kind.SymNot q) (λ p. MapOf (λ e. invert e p) (λ e u. SpellsExpr plain 6 e u))

abbrev some_name : Name
some_name = record { text = []; place = here }

-- some operand that is no number
some_other : (plain : Bool) (p : Place) → Other Tok code 66 (2 ∷ 3 ∷ []) (MapOf (λ e. negate e p) (λ e u. SpellsExpr plain 6 e u))
some_other plain p = record { value = negate (name some_name) p; text = token_at 1 ∷ []; spelled = map_of (name some_name) refl (bare plain 6 (name some_name) (token_at 1 ∷ []) (omega arith, record { token = token_at 1; only = refl; kind = refl; place = refl })); outside = refl }

made_minus : (plain : Bool) (inner inner' : R ExprTree) (m : ℕ) → Made inner inner' (λ e u. SpellsExpr plain 6 e u) expr_first behind6 false (m - 1) → Made (minus inner) (minus inner') (Minus plain) (55 ∷ []) behind6 false m
unfolding minus
made_minus plain inner inner' m I = behind (made_mark 55 m refl) (λ p. otherwise (2 ∷ 3 ∷ [])
    (alt (2 ∷ []) (map_to (λ v. number (minus_of v) p) (map_to value_at (made_tok (2 ∷ []) 2 (m - 1) refl))) (map_to (λ x. number (negsuc edge) p) (made_mark 3 (m - 1) refl)) refl)
    (map_to (λ e. negate e p) I) (some_other plain p) refl) refl

made_bang : (plain : Bool) (inner inner' : R ExprTree) (m : ℕ) → Made inner inner' (λ e u. SpellsExpr plain 6 e u) expr_first behind6 false (m - 1) → Made (bang inner) (bang inner') (Bang plain) (62 ∷ []) behind6 false m
unfolding bang
made_bang plain inner inner' m I = behind (made_mark 62 m refl) (λ p. map_to (λ e. invert e p) I) refl

abbrev Unary : Bool → ExprTree → List Tok → Type 0
Unary plain = Or (Or (Minus plain) (Bang plain)) (λ e u. SpellsExpr plain 7 e u)

minus_to : (plain : Bool) (z : ExprTree) (u : List Tok) → Minus plain z u → SpellsExpr plain 6 z u
minus_to plain z u s = go s.second
  where
    literal : (v : ℕ) (w : List Tok) → MapOf value_at (OneOf (2 ∷ [])) v w → Sign (kind.Number (pos v)) w
    literal v w t = record { token = t.value; only = t.spelled.only; kind = number_is t.value.kind (is_member (code t.value) 2 t.spelled.fits) ∙ ap (λ (i : ℕ). kind.Number (pos i)) (sym t.is) }

    signed : (v : ℕ) → Sign (kind.Number (pos v)) s.back → SpellsNumber 6 (minus_of v) s.value u
    signed zero t = inr (omega arith, (refl, pass s s.first t))
    signed (suc v) t = inl (omega arith, pass s s.first t)

    go : Or (Or (MapOf (λ v. number (minus_of v) s.value) (MapOf value_at (OneOf (2 ∷ [])))) (MapOf (λ x. number (negsuc edge) s.value) (λ q. Mark kind.Edge q))) (Elsewhere (2 ∷ 3 ∷ []) (MapOf (λ e. negate e s.value) (λ e u. SpellsExpr plain 6 e u))) z s.back → SpellsExpr plain 6 z u
    go (inl (inl t)) = subst (λ (y : ExprTree). SpellsExpr plain 6 y u) (sym t.is) (bare plain 6 (number (minus_of t.value) s.value) u (signed t.value (literal t.value s.back t.spelled)))
    go (inl (inr t)) = subst (λ (y : ExprTree). SpellsExpr plain 6 y u) (sym t.is) (bare plain 6 (number (negsuc edge) s.value) u (inr (omega arith, (refl, pass s s.first (sign t.spelled)))))
    go (inr t) = subst (λ (y : ExprTree). SpellsExpr plain 6 y u) (sym t.0.is) (bare plain 6 (negate t.0.value s.value) u (omega arith, pass s s.first (t.0.spelled, sym (starts_as (2 ∷ 3 ∷ []) s.back) ∙ t.1)))

unary_to : (plain : Bool) (z : ExprTree) (u : List Tok) → Unary plain z u → SpellsExpr plain 6 z u
unary_to plain z u (inl (inl s)) = minus_to plain z u s
unary_to plain z u (inl (inr s)) = subst (λ (y : ExprTree). SpellsExpr plain 6 y u) (sym s.second.is) (bare plain 6 (invert s.second.value s.value) u (omega arith, pass s s.first s.second.spelled))
unary_to plain z u (inr s) = lower_placed plain z 7 6 u (omega arith) s

unary_from : (plain : Bool) (z : ExprTree) (u : List Tok) → SpellsExpr plain 6 z u → Unary plain z u
unary_from plain z u s = go z s.depth s.inside
  where
    low : (o : Operator) → 6 ≤ level_of_op o → ⊥
    low op.Or e = omega (arith, e)
    low op.And e = omega (arith, e)
    low op.Equal e = omega (arith, e)
    low op.NotEqual e = omega (arith, e)
    low op.Less e = omega (arith, e)
    low op.LessEqual e = omega (arith, e)
    low op.Greater e = omega (arith, e)
    low op.GreaterEqual e = omega (arith, e)
    low op.Plus e = omega (arith, e)
    low op.Minus e = omega (arith, e)
    low op.Join e = omega (arith, e)
    low op.Times e = omega (arith, e)
    low op.Divide e = omega (arith, e)
    low op.Remainder e = omega (arith, e)

    digit : (v : ℕ) (w : List Tok) → Sign (kind.Number (pos v)) w → MapOf value_at (OneOf (2 ∷ [])) v w
    digit v w t = map_of t.token (ap (λ z. value_of_kind z) (sym t.kind)) (record { only = t.only; fits = member_is (code t.token) 2 (ap (λ z. code_of z) t.kind) })

    numbered : (v : ℤ) (p : Place) → SpellsNumber 6 v p u → Unary plain (number v p) u
    numbered (pos n) p (inl t) = inr (bare plain 7 (number (pos n) p) u (inl (omega arith, t.1)))
    numbered (pos n) p (inr t) = inl (inl (unpass t.1.1 p t.1.1.first (inl (inl (map_of 0 (ap (λ (i : ℕ). number (pos i) p) t.1.0) (digit 0 t.1.1.back t.1.1.second))))))
    numbered (negsuc n) p (inl t) = inl (inl (unpass t.1 p t.1.first (inl (inl (map_of (suc n) refl (digit (suc n) t.1.back t.1.second))))))
    numbered (negsuc n) p (inr t) = inl (inl (unpass t.1.1 p t.1.1.first (inl (inr (map_of t.1.1.second.token.place (ap (λ (i : ℕ). number (negsuc i) p) t.1.0) (unsign t.1.1.second))))))

    go : (z : ExprTree) (n : ℕ) → Wrapped n 6 (Bare plain z) u → Unary plain z u
    go z (suc n) t = inr (record { depth = suc n; inside = t })
    go (number v p) zero t = numbered v p t
    go (negate e p) zero t = inl (inl (unpass t.1 p t.1.first (inr (map_of e refl t.1.second.0, starts_as (2 ∷ 3 ∷ []) t.1.back ∙ t.1.second.1))))
    go (invert e p) zero t = inl (inr (unpass t.1 p t.1.first (map_of e refl t.1.second)))
    go (binary o a b p) zero t = absurd (low o t.0)
    go (choice c a b p) zero t = absurd (omega (arith, t.0))
    go (text y p) zero t = inr (record { depth = 0; inside = (omega arith, t.1) })
    go (yes p) zero t = inr (record { depth = 0; inside = (omega arith, t.1) })
    go (no p) zero t = inr (record { depth = 0; inside = (omega arith, t.1) })
    go (this p) zero t = inr (record { depth = 0; inside = (omega arith, t.1) })
    go (name n) zero t = inr (record { depth = 0; inside = (omega arith, t.1) })
    go (unit p) zero t = inr (record { depth = 0; inside = (omega arith, t.1) })
    go (call e n es) zero t = inr (record { depth = 0; inside = (omega arith, t.1) })
    go (size e p) zero t = inr (record { depth = 0; inside = (omega arith, t.1) })
    go (part e a b p) zero t = inr (record { depth = 0; inside = (omega arith, t.1) })
    go (byte_at e i p) zero t = inr (record { depth = 0; inside = (omega arith, t.1) })
    go (byte e p) zero t = inr (record { depth = 0; inside = (omega arith, t.1) })
    go (show e p) zero t = inr (record { depth = 0; inside = (omega arith, t.1) })
    go (ascribe e ty p) zero t = inr (record { depth = 0; inside = (omega arith, t.1) })

pub made_unary : (plain : Bool) (inner inner' arg arg' : R ExprTree) (n n' m : ℕ) → n ≤ n' → m ≤ n → Made inner inner' (λ e u. SpellsExpr plain 6 e u) expr_first behind6 false (m - 1) → Made arg arg' (λ e u. SpellsExpr plain 0 e u) arg_first arg_behind false (m - 1) → Made (unary plain inner arg n) (unary plain inner' arg' n') (λ e u. SpellsExpr plain 6 e u) expr_first behind6 false m
unfolding unary
made_unary plain inner inner' arg arg' n n' m h k I A = become (alt (55 ∷ 62 ∷ []) (alt (55 ∷ []) (made_minus plain inner inner' m I) (made_bang plain inner inner' m I) refl) (made_post plain arg arg' n n' m h k A) refl)
    (unary_to plain) (unary_from plain) refl

-- ---- the levels of operators

made_tail : (plain : Bool) (G : List ℕ) (c r : ℕ) (C : List ℕ) (next next' : R ExprTree) (m : ℕ) → Made next next' (λ e u. SpellsExpr plain r e u) expr_first C false m → (member (code (token_at c)) G && not (member 66 G)) ≡ true → Made (operator_part G next) (operator_part G next') (Tail plain G r) G C false m
made_tail plain G c r C next next' m M e = seq (made_tok G c m e) (λ x. map_to (λ (y : ExprTree). (x, y)) M) refl

lefts : (plain : Bool) (G : List ℕ) (k : ℕ) → IsLevel G k k (suc k) → LeftOf (λ e u. SpellsExpr plain (suc k) e u) (Tail plain G (suc k)) add_binary (λ e u. SpellsExpr plain k e u)
lefts plain G k d = record {
  head = λ e u s. lower_placed plain e (suc k) k u (omega arith) s;
  more = λ a t u v s w. join plain G k k (suc k) d a t u v s w;
  split = λ c u s. split plain G k k (suc k) d c u s;
}

made_product : (plain : Bool) (next next' : R ExprTree) (n n' m : ℕ) → n ≤ n' → m ≤ n → Made next next' (λ e u. SpellsExpr plain 6 e u) expr_first behind6 false m → Made (product next n) (product next' n') (λ e u. SpellsExpr plain 5 e u) expr_first behind5 false m
unfolding product
made_product plain next next' n n' m h k M = made_left n n' h k (56 ∷ 57 ∷ 58 ∷ []) behind5 M (made_tail plain (56 ∷ 57 ∷ 58 ∷ []) 56 6 behind6 next next' m M refl) (lefts plain (56 ∷ 57 ∷ 58 ∷ []) 5 level5) refl

made_sum : (plain : Bool) (next next' : R ExprTree) (n n' m : ℕ) → n ≤ n' → m ≤ n → Made next next' (λ e u. SpellsExpr plain 5 e u) expr_first behind5 false m → Made (sum next n) (sum next' n') (λ e u. SpellsExpr plain 4 e u) expr_first behind4 false m
unfolding sum
made_sum plain next next' n n' m h k M = made_left n n' h k (54 ∷ 55 ∷ 59 ∷ []) behind4 M (made_tail plain (54 ∷ 55 ∷ 59 ∷ []) 54 5 behind5 next next' m M refl) (lefts plain (54 ∷ 55 ∷ 59 ∷ []) 4 level4) refl

made_conj : (plain : Bool) (next next' : R ExprTree) (n n' m : ℕ) → n ≤ n' → m ≤ n → Made next next' (λ e u. SpellsExpr plain 3 e u) expr_first behind3 false m → Made (conj next n) (conj next' n') (λ e u. SpellsExpr plain 2 e u) expr_first behind2 false m
unfolding conj
made_conj plain next next' n n' m h k M = made_left n n' h k (60 ∷ []) behind2 M (made_tail plain (60 ∷ []) 60 3 behind3 next next' m M refl) (lefts plain (60 ∷ []) 2 level2) refl

made_disj : (plain : Bool) (next next' : R ExprTree) (n n' m : ℕ) → n ≤ n' → m ≤ n → Made next next' (λ e u. SpellsExpr plain 2 e u) expr_first behind2 false m → Made (disj next n) (disj next' n') (λ e u. SpellsExpr plain 1 e u) expr_first expr_behind false m
unfolding disj
made_disj plain next next' n n' m h k M = made_left n n' h k (61 ∷ []) expr_behind M (made_tail plain (61 ∷ []) 61 2 behind2 next next' m M refl) (lefts plain (61 ∷ []) 1 level1) refl

made_compare : (plain : Bool) (next next' : R ExprTree) (m : ℕ) → Made next next' (λ e u. SpellsExpr plain 4 e u) expr_first behind4 false m → Made (compare next) (compare next') (λ e u. SpellsExpr plain 3 e u) expr_first behind3 false m
unfolding compare
made_compare plain next next' m M = become (seq M (λ a. alt compare_set (map_to (add_binary a) (made_tail plain compare_set 48 4 behind4 next next' m M refl)) (give a m) refl) refl)
    (λ z u s. elim s.second [
      | inl t ↦ subst (λ (y : ExprTree). SpellsExpr plain 3 y u) (sym t.is) (subst (λ (w : List Tok). SpellsExpr plain 3 (add_binary s.value t.value) w) (sym s.parts) (join plain compare_set 3 4 4 level3 s.value t.value s.front s.back s.first t.spelled))
      | inr t ↦ lower_placed plain z 4 3 u (omega arith) (subst (λ (y : ExprTree). SpellsExpr plain 4 y u) (sym t.same) (alone_of (λ w. SpellsExpr plain 4 s.value w) s t.empty s.first))
    ])
    (λ z u s. elim (split plain compare_set 3 4 4 level3 z u s) [
      | inl t ↦ all_of z t (inr (record { same = refl; empty = refl }))
      | inr t ↦ record { value = t.left; front = t.front; back = t.back; parts = t.parts; first = t.first; second = inl (map_of t.right t.is t.second) }
    ]) refl

made_chain : (plain : Bool) (next next' : R ExprTree) (n n' m : ℕ) → n ≤ n' → m ≤ n → Made next next' (λ e u. SpellsExpr plain 6 e u) expr_first behind6 false m → Made (chain next n) (chain next' n') (λ e u. SpellsExpr plain 1 e u) expr_first expr_behind false m
made_chain plain next next' n n' m h k M =
    made_disj plain _ _ n n' m h k (made_conj plain _ _ n n' m h k (made_compare plain _ _ m (made_sum plain _ _ n n' m h k (made_product plain next next' n n' m h k M))))

-- ---- choices

abbrev pub ChoiceRest : Bool → Place → ExprTree → ExprTree → List Tok → Type 0
ChoiceRest plain p c = SeqOf (λ q. Mark kind.KwThen q) (λ k0. SeqOf (λ e u. SpellsExpr plain 0 e u) (λ a. SeqOf (λ q. Mark kind.KwElse q) (λ k2. MapOf (λ b. choice c a b p) (λ e u. SpellsExpr plain 0 e u))))

pub made_choice_rest : (plain : Bool) (p : Place) (c : ExprTree) (arg arg' : R ExprTree) (m : ℕ) → Made arg arg' (λ e u. SpellsExpr plain 0 e u) arg_first arg_behind false m → Made (choice_rest arg p c) (choice_rest arg' p c) (ChoiceRest plain p c) (23 ∷ []) arg_behind false m
unfolding choice_rest
made_choice_rest plain p c arg arg' m A =
    seq (made_mark 23 m refl) (λ k0.
    seq (A) (λ a.
    seq (made_mark 24 m refl) (λ k2.
    map_to (λ b. choice c a b p) (A)) refl) refl) refl

abbrev pub Choices : Bool → ExprTree → List Tok → Type 0
Choices plain = SeqOf (λ q. Mark kind.KwIf q) (λ p. SeqOf (λ e u. SpellsExpr plain 1 e u) (λ c. ChoiceRest plain p c))

made_choice : (plain : Bool) (expr expr' arg arg' : R ExprTree) (m : ℕ) → Made expr expr' (λ e u. SpellsExpr plain 1 e u) expr_first expr_behind false (m - 1) → Made arg arg' (λ e u. SpellsExpr plain 0 e u) arg_first arg_behind false (m - 1) → Made (choice_of expr arg) (choice_of expr' arg') (Choices plain) (22 ∷ []) arg_behind false m
unfolding choice_of
made_choice plain expr expr' arg arg' m E A = behind (made_mark 22 m refl) (λ p. seq E (λ c. made_choice_rest plain p c arg arg' (m - 1) A) refl) refl

pub choice_to : (plain : Bool) (z : ExprTree) (u : List Tok) → Choices plain z u → SpellsExpr plain 0 z u
choice_to plain z u s = subst (λ (y : ExprTree). SpellsExpr plain 0 y u) (sym s.second.second.second.second.second.is) (bare plain 0 (choice s.second.value s.second.second.second.value s.second.second.second.second.second.value s.value) u (omega arith, pass s s.first (pass s.second s.second.first (pass s.second.second (sign s.second.second.first) (pass s.second.second.second s.second.second.second.first (pass s.second.second.second.second (sign s.second.second.second.second.first) s.second.second.second.second.second.spelled))))))

pub arg_from : (plain : Bool) (z : ExprTree) (u : List Tok) → SpellsExpr plain 0 z u → Or (Choices plain) (λ e u. SpellsExpr plain 1 e u) z u
arg_from plain z u s = go z s.depth s.inside
  where
    go : (z : ExprTree) (n : ℕ) → Wrapped n 0 (Bare plain z) u → Or (Choices plain) (λ e u. SpellsExpr plain 1 e u) z u
    go z (suc n) t = inr (record { depth = suc n; inside = t })
    go (choice c a b p) zero t = let w = t.1 in inl (unpass w p w.first (unpass w.second c w.second.first (unpass w.second.second w.second.second.first.token.place (unsign w.second.second.first) (unpass w.second.second.second a w.second.second.second.first (unpass w.second.second.second.second w.second.second.second.second.first.token.place (unsign w.second.second.second.second.first) (map_of b refl w.second.second.second.second.second))))))
    go (number v p) zero t = inr (raise_arg plain (number v p) u refl (bare plain 0 (number v p) u t))
    go (text y p) zero t = inr (raise_arg plain (text y p) u refl (bare plain 0 (text y p) u t))
    go (yes p) zero t = inr (raise_arg plain (yes p) u refl (bare plain 0 (yes p) u t))
    go (no p) zero t = inr (raise_arg plain (no p) u refl (bare plain 0 (no p) u t))
    go (this p) zero t = inr (raise_arg plain (this p) u refl (bare plain 0 (this p) u t))
    go (name n) zero t = inr (raise_arg plain (name n) u refl (bare plain 0 (name n) u t))
    go (unit p) zero t = inr (raise_arg plain (unit p) u refl (bare plain 0 (unit p) u t))
    go (negate e p) zero t = inr (raise_arg plain (negate e p) u refl (bare plain 0 (negate e p) u t))
    go (invert e p) zero t = inr (raise_arg plain (invert e p) u refl (bare plain 0 (invert e p) u t))
    go (binary o a b p) zero t = inr (raise_arg plain (binary o a b p) u refl (bare plain 0 (binary o a b p) u t))
    go (call e n es) zero t = inr (raise_arg plain (call e n es) u refl (bare plain 0 (call e n es) u t))
    go (size e p) zero t = inr (raise_arg plain (size e p) u refl (bare plain 0 (size e p) u t))
    go (part e a b p) zero t = inr (raise_arg plain (part e a b p) u refl (bare plain 0 (part e a b p) u t))
    go (byte_at e i p) zero t = inr (raise_arg plain (byte_at e i p) u refl (bare plain 0 (byte_at e i p) u t))
    go (byte e p) zero t = inr (raise_arg plain (byte e p) u refl (bare plain 0 (byte e p) u t))
    go (show e p) zero t = inr (raise_arg plain (show e p) u refl (bare plain 0 (show e p) u t))
    go (ascribe e ty p) zero t = inr (raise_arg plain (ascribe e ty p) u refl (bare plain 0 (ascribe e ty p) u t))

-- ---- at every depth

pub record AllExprs (plain : Bool) (n n' : ℕ) : Type 0 where
  pub unary : Made (p_unary plain n) (p_unary plain n') (λ e u. SpellsExpr plain 6 e u) expr_first behind6 false (n - 1)
  pub expr : Made (p_expr plain n) (p_expr plain n') (λ e u. SpellsExpr plain 1 e u) expr_first expr_behind false (n - 1)
  pub arg : Made (p_arg plain n) (p_arg plain n') (λ e u. SpellsExpr plain 0 e u) arg_first arg_behind false (n - 1)

-- some expression of every level
some_expr : (plain : Bool) (k : ℕ) → k ≤ 8 → Spelled Tok code 66 (λ e u. SpellsExpr plain k e u)
some_expr plain k h = record { value = name some_name; text = token_at 1 ∷ []; spelled = bare plain k (name some_name) (token_at 1 ∷ []) (h, record { token = token_at 1; only = refl; kind = refl; place = refl }) }

pub all_exprs : (plain : Bool) (n n' : ℕ) → n ≤ n' → AllExprs plain n n'
unfolding p_unary
all_exprs plain zero n' h = record {
  unary = made_never (p_unary plain n') (some_expr plain 6 (omega arith));
  expr = made_never (p_expr plain n') (some_expr plain 1 (omega arith));
  arg = made_never (p_arg plain n') (some_expr plain 0 (omega arith));
}
all_exprs plain (suc n) zero h = absurd (omega arith)
all_exprs plain (suc n) (suc n') h =
    let t = all_exprs plain n n' (omega arith) in
    let u = made_unary plain (p_unary plain n) (p_unary plain n') (p_arg plain n) (p_arg plain n') n n' n (omega arith) (omega arith) t.unary t.arg in
    let c = made_chain plain _ _ n n' n (omega arith) (omega arith) u in
    record {
      unary = less u (omega arith);
      expr = less c (omega arith);
      arg = less (become (alt (22 ∷ []) (made_choice plain (p_expr plain n) (p_expr plain n') (p_arg plain n) (p_arg plain n') n t.expr t.arg) c refl)
          (λ z v s. elim s [ inl q ↦ choice_to plain z v q | inr q ↦ lower_placed plain z 1 0 v (omega arith) q ])
          (arg_from plain) refl) (omega arith);
    }
