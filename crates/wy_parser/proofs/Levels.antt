-- Levels: which place an expression fits, and what an operator's symbol says of it.
use Rattle.std.proofs.Common.{◌≡◌, ℕ, zero, suc, ◌<◌, ◌≤◌, Bool, true, false, ◌||◌, ◌&&◌, ◌==◌, List, [], ◌∷◌, ◌++◌, refl, sym, ap, subst, ◌∙◌, arith, inl, inr, ◌⊎◌}
use Rattle.std.specs.Prelude.{ℤ, pos, negsuc}
use Rattle.std.proofs.lemmas.Bool.{cases_lt}
use Rattle.wy_text.specs.declared.fault.Place.{Place}
use Rattle.wy_text.specs.declared.token.TokenKind.{TokenKind}
use Rattle.wy_syntax.specs.declared.expressions.Operator.{Operator}
use Rattle.wy_syntax.specs.declared.expressions.Operator.TheVariants as op
use Rattle.wy_syntax.specs.Tokens.{Tok, code, code_of, member}
use Rattle.wy_syntax.specs.Trees.{ExprTree, number, text, yes, no, this, name, unit, negate, invert, binary, call, size, part, byte_at, byte, show, ascribe, choice}
use Rattle.wy_syntax.specs.ExprGrammar.{symbol_of, level_of_op, left_level_of, right_level_of, SpellsNumber, Wrapped, Bare, SpellsExpr}
use Rattle.wy_parser.specs.ExprParsing.{operator_at, add_binary, is_choice}
use Rattle.wy_parser.proofs.KindNumbers.{kind_at, is_fixed, kind_is}
use Rattle.wy_parser.proofs.Exact.{Last}
use Rattle.wy_parser.proofs.Made.{SeqOf, MapOf, OneOf, eq_is}

-- without parentheses round it
pub bare : (plain : Bool) (k : ℕ) (e : ExprTree) (u : List Tok) → Bare plain e k u → SpellsExpr plain k e u
bare plain k e u s = record { depth = 0; inside = s }

lower_number : (v : ℤ) (p : Place) (k j : ℕ) (u : List Tok) → j ≤ k → SpellsNumber k v p u → SpellsNumber j v p u
lower_number (pos n) p k j u h (inl s) = inl ((omega (arith, s.0)), s.1)
lower_number (pos n) p k j u h (inr s) = inr ((omega (arith, s.0)), s.1)
lower_number (negsuc n) p k j u h (inl s) = inl ((omega (arith, s.0)), s.1)
lower_number (negsuc n) p k j u h (inr s) = inr ((omega (arith, s.0)), s.1)

-- what fits a tighter place fits a looser one
pub lower : (plain : Bool) (e : ExprTree) (k j : ℕ) (u : List Tok) → j ≤ k → Bare plain e k u → Bare plain e j u
lower plain (number v p) k j u h s = lower_number v p k j u h s
lower plain (text y p) k j u h s = ((omega (arith, s.0)), s.1)
lower plain (yes p) k j u h s = ((omega (arith, s.0)), s.1)
lower plain (no p) k j u h s = ((omega (arith, s.0)), s.1)
lower plain (this p) k j u h s = ((omega (arith, s.0)), s.1)
lower plain (name n) k j u h s = ((omega (arith, s.0)), s.1)
lower plain (unit p) k j u h s = ((omega (arith, s.0)), s.1)
lower plain (negate e p) k j u h s = ((omega (arith, s.0)), s.1)
lower plain (invert e p) k j u h s = ((omega (arith, s.0)), s.1)
lower plain (binary o a b p) k j u h s = ((omega (arith, s.0)), s.1)
lower plain (call e n es) k j u h s = ((omega (arith, s.0)), s.1)
lower plain (size e p) k j u h s = ((omega (arith, s.0)), s.1)
lower plain (part e a b p) k j u h s = ((omega (arith, s.0)), s.1)
lower plain (byte_at e i p) k j u h s = ((omega (arith, s.0)), s.1)
lower plain (byte e p) k j u h s = ((omega (arith, s.0)), s.1)
lower plain (show e p) k j u h s = ((omega (arith, s.0)), s.1)
lower plain (ascribe e ty p) k j u h s = ((omega (arith, s.0)), s.1)
lower plain (choice c a b p) k j u h s = ((omega (arith, s.0)), s.1)

pub lower_wrapped : (plain : Bool) (n : ℕ) (e : ExprTree) (k j : ℕ) (u : List Tok) → j ≤ k → Wrapped n k (Bare plain e) u → Wrapped n j (Bare plain e) u
lower_wrapped plain zero e k j u h s = lower plain e k j u h s
lower_wrapped plain (suc n) e k j u h s = s

pub lower_placed : (plain : Bool) (e : ExprTree) (k j : ℕ) (u : List Tok) → j ≤ k → SpellsExpr plain k e u → SpellsExpr plain j e u
lower_placed plain e k j u h s = record { depth = s.depth; inside = lower_wrapped plain s.depth e k j u h s.inside }

-- a choice fits no Expr
pub no_choice : (plain : Bool) (n : ℕ) (e : ExprTree) (u : List Tok) → Wrapped n 1 (Bare plain e) u → is_choice e ≡ false
no_choice plain (suc n) e u s = no_choice plain n e s.second.front s.second.first
no_choice plain zero (number v p) u s = refl
no_choice plain zero (text y p) u s = refl
no_choice plain zero (yes p) u s = refl
no_choice plain zero (no p) u s = refl
no_choice plain zero (this p) u s = refl
no_choice plain zero (name n) u s = refl
no_choice plain zero (unit p) u s = refl
no_choice plain zero (negate e p) u s = refl
no_choice plain zero (invert e p) u s = refl
no_choice plain zero (binary o a b p) u s = refl
no_choice plain zero (call e n es) u s = refl
no_choice plain zero (size e p) u s = refl
no_choice plain zero (part e a b p) u s = refl
no_choice plain zero (byte_at e i p) u s = refl
no_choice plain zero (byte e p) u s = refl
no_choice plain zero (show e p) u s = refl
no_choice plain zero (ascribe e ty p) u s = refl
no_choice plain zero (choice c a b p) u s = absurd (omega (arith, s.0))

-- an Arg that is no choice is an Expr
pub raise_arg : (plain : Bool) (e : ExprTree) (u : List Tok) → is_choice e ≡ false → SpellsExpr plain 0 e u → SpellsExpr plain 1 e u
raise_arg plain e u c s = record { depth = s.depth; inside = go s.depth s.inside }
  where
    raised : (v : ℤ) (p : Place) → SpellsNumber 0 v p u → SpellsNumber 1 v p u
    raised (pos n) p (inl t) = inl (omega arith, t.1)
    raised (pos n) p (inr t) = inr (omega arith, t.1)
    raised (negsuc n) p (inl t) = inl (omega arith, t.1)
    raised (negsuc n) p (inr t) = inr (omega arith, t.1)

    one_or_more : (o : Operator) → 1 ≤ level_of_op o
    one_or_more op.Or = omega arith
    one_or_more op.And = omega arith
    one_or_more op.Equal = omega arith
    one_or_more op.NotEqual = omega arith
    one_or_more op.Less = omega arith
    one_or_more op.LessEqual = omega arith
    one_or_more op.Greater = omega arith
    one_or_more op.GreaterEqual = omega arith
    one_or_more op.Plus = omega arith
    one_or_more op.Minus = omega arith
    one_or_more op.Join = omega arith
    one_or_more op.Times = omega arith
    one_or_more op.Divide = omega arith
    one_or_more op.Remainder = omega arith

    bare1 : (e : ExprTree) → is_choice e ≡ false → Bare plain e 0 u → Bare plain e 1 u
    bare1 (number v p) h t = raised v p t
    bare1 (text y p) h t = (omega arith, t.1)
    bare1 (yes p) h t = (omega arith, t.1)
    bare1 (no p) h t = (omega arith, t.1)
    bare1 (this p) h t = (omega arith, t.1)
    bare1 (name n) h t = (omega arith, t.1)
    bare1 (unit p) h t = (omega arith, t.1)
    bare1 (negate e p) h t = (omega arith, t.1)
    bare1 (invert e p) h t = (omega arith, t.1)
    bare1 (binary o a b p) h t = (one_or_more o, t.1)
    bare1 (call e n es) h t = (omega arith, t.1)
    bare1 (size e p) h t = (omega arith, t.1)
    bare1 (part e a b p) h t = (omega arith, t.1)
    bare1 (byte_at e i p) h t = (omega arith, t.1)
    bare1 (byte e p) h t = (omega arith, t.1)
    bare1 (show e p) h t = (omega arith, t.1)
    bare1 (ascribe e ty p) h t = (omega arith, t.1)
    bare1 (choice c a b p) h t = absurd cc

    go : (n : ℕ) → Wrapped n 0 (Bare plain e) u → Wrapped n 1 (Bare plain e) u
    go zero t = bare1 e c t
    go (suc n) t = t

-- ---- operators

pub operator_back : (o : Operator) → operator_at (code_of (symbol_of o)) ≡ o
operator_back op.Or = refl
operator_back op.And = refl
operator_back op.Equal = refl
operator_back op.NotEqual = refl
operator_back op.Less = refl
operator_back op.LessEqual = refl
operator_back op.Greater = refl
operator_back op.GreaterEqual = refl
operator_back op.Plus = refl
operator_back op.Minus = refl
operator_back op.Join = refl
operator_back op.Times = refl
operator_back op.Divide = refl
operator_back op.Remainder = refl

-- the operators of level k are those with the symbols of the set
pub record IsLevel (G : List ℕ) (k l r : ℕ) : Type 0 where
  pub low : 1 ≤ k
  pub high : k ≤ 5
  pub level : (c : ℕ) → member c G ≡ true → level_of_op (operator_at c) ≡ k
  pub left : (c : ℕ) → member c G ≡ true → left_level_of (operator_at c) ≡ l
  pub right : (c : ℕ) → member c G ≡ true → right_level_of (operator_at c) ≡ r
  pub symbol : (c : ℕ) → member c G ≡ true → code_of (symbol_of (operator_at c)) ≡ c
  pub fixed : (c : ℕ) → member c G ≡ true → is_fixed c ≡ true
  pub inside : (o : Operator) → level_of_op o ≡ k → (member (code_of (symbol_of o)) G ≡ true) × (left_level_of o ≡ l) × (right_level_of o ≡ r)

both : (a b : Bool) → (a && b) ≡ true → (a ≡ true) × (b ≡ true)
both true b e = (refl, e)
both false b e = absurd cc

abbrev all_of : List ℕ → (ℕ → Bool) → Bool
all_of [] test = true
all_of (x ∷ G) test = test x && all_of G test

-- a test of all numbers of a set holds of each
each_of : (G : List ℕ) (test : ℕ → Bool) → all_of G test ≡ true → (c : ℕ) → member c G ≡ true → test c ≡ true
each_of [] test e c h = absurd cc
each_of (x ∷ G) test e c h = go (λ k. each_of G test (both (test x) (all_of G test) e).1 c k) (c == x) refl h
  where
    go : (member c G ≡ true → test c ≡ true) → (b : Bool) → (c == x) ≡ b → (b || member c G) ≡ true → test c ≡ true
    go f true e1 h = ap (λ (n : ℕ). test n) (eq_is c x e1) ∙ (both (test x) (all_of G test) e).0
    go f false e1 h = f h

symbol_kind : (o : Operator) → symbol_of o ≡ kind_at (code_of (symbol_of o))
symbol_kind op.Or = refl
symbol_kind op.And = refl
symbol_kind op.Equal = refl
symbol_kind op.NotEqual = refl
symbol_kind op.Less = refl
symbol_kind op.LessEqual = refl
symbol_kind op.Greater = refl
symbol_kind op.GreaterEqual = refl
symbol_kind op.Plus = refl
symbol_kind op.Minus = refl
symbol_kind op.Join = refl
symbol_kind op.Times = refl
symbol_kind op.Divide = refl
symbol_kind op.Remainder = refl

pub level1 : IsLevel (61 ∷ []) 1 1 2
level1 = record {
  low = omega arith;
  high = omega arith;
  level = λ c h. eq_is _ _ (each_of (61 ∷ []) (λ c. level_of_op (operator_at c) == 1) refl c h);
  left = λ c h. eq_is _ _ (each_of (61 ∷ []) (λ c. left_level_of (operator_at c) == 1) refl c h);
  right = λ c h. eq_is _ _ (each_of (61 ∷ []) (λ c. right_level_of (operator_at c) == 2) refl c h);
  symbol = λ c h. eq_is _ _ (each_of (61 ∷ []) (λ c. code_of (symbol_of (operator_at c)) == c) refl c h);
  fixed = λ c h. each_of (61 ∷ []) (λ c. is_fixed c) refl c h;
  inside = λ o e. inside o e;
}
  where
    inside : (o : Operator) → level_of_op o ≡ 1 → (member (code_of (symbol_of o)) (61 ∷ []) ≡ true) × (left_level_of o ≡ 1) × (right_level_of o ≡ 2)
    inside op.Or e = (refl, refl, refl)
    inside op.And e = absurd (omega arith)
    inside op.Equal e = absurd (omega arith)
    inside op.NotEqual e = absurd (omega arith)
    inside op.Less e = absurd (omega arith)
    inside op.LessEqual e = absurd (omega arith)
    inside op.Greater e = absurd (omega arith)
    inside op.GreaterEqual e = absurd (omega arith)
    inside op.Plus e = absurd (omega arith)
    inside op.Minus e = absurd (omega arith)
    inside op.Join e = absurd (omega arith)
    inside op.Times e = absurd (omega arith)
    inside op.Divide e = absurd (omega arith)
    inside op.Remainder e = absurd (omega arith)

pub level2 : IsLevel (60 ∷ []) 2 2 3
level2 = record {
  low = omega arith;
  high = omega arith;
  level = λ c h. eq_is _ _ (each_of (60 ∷ []) (λ c. level_of_op (operator_at c) == 2) refl c h);
  left = λ c h. eq_is _ _ (each_of (60 ∷ []) (λ c. left_level_of (operator_at c) == 2) refl c h);
  right = λ c h. eq_is _ _ (each_of (60 ∷ []) (λ c. right_level_of (operator_at c) == 3) refl c h);
  symbol = λ c h. eq_is _ _ (each_of (60 ∷ []) (λ c. code_of (symbol_of (operator_at c)) == c) refl c h);
  fixed = λ c h. each_of (60 ∷ []) (λ c. is_fixed c) refl c h;
  inside = λ o e. inside o e;
}
  where
    inside : (o : Operator) → level_of_op o ≡ 2 → (member (code_of (symbol_of o)) (60 ∷ []) ≡ true) × (left_level_of o ≡ 2) × (right_level_of o ≡ 3)
    inside op.Or e = absurd (omega arith)
    inside op.And e = (refl, refl, refl)
    inside op.Equal e = absurd (omega arith)
    inside op.NotEqual e = absurd (omega arith)
    inside op.Less e = absurd (omega arith)
    inside op.LessEqual e = absurd (omega arith)
    inside op.Greater e = absurd (omega arith)
    inside op.GreaterEqual e = absurd (omega arith)
    inside op.Plus e = absurd (omega arith)
    inside op.Minus e = absurd (omega arith)
    inside op.Join e = absurd (omega arith)
    inside op.Times e = absurd (omega arith)
    inside op.Divide e = absurd (omega arith)
    inside op.Remainder e = absurd (omega arith)

pub level3 : IsLevel (48 ∷ 49 ∷ 50 ∷ 51 ∷ 52 ∷ 53 ∷ []) 3 4 4
level3 = record {
  low = omega arith;
  high = omega arith;
  level = λ c h. eq_is _ _ (each_of (48 ∷ 49 ∷ 50 ∷ 51 ∷ 52 ∷ 53 ∷ []) (λ c. level_of_op (operator_at c) == 3) refl c h);
  left = λ c h. eq_is _ _ (each_of (48 ∷ 49 ∷ 50 ∷ 51 ∷ 52 ∷ 53 ∷ []) (λ c. left_level_of (operator_at c) == 4) refl c h);
  right = λ c h. eq_is _ _ (each_of (48 ∷ 49 ∷ 50 ∷ 51 ∷ 52 ∷ 53 ∷ []) (λ c. right_level_of (operator_at c) == 4) refl c h);
  symbol = λ c h. eq_is _ _ (each_of (48 ∷ 49 ∷ 50 ∷ 51 ∷ 52 ∷ 53 ∷ []) (λ c. code_of (symbol_of (operator_at c)) == c) refl c h);
  fixed = λ c h. each_of (48 ∷ 49 ∷ 50 ∷ 51 ∷ 52 ∷ 53 ∷ []) (λ c. is_fixed c) refl c h;
  inside = λ o e. inside o e;
}
  where
    inside : (o : Operator) → level_of_op o ≡ 3 → (member (code_of (symbol_of o)) (48 ∷ 49 ∷ 50 ∷ 51 ∷ 52 ∷ 53 ∷ []) ≡ true) × (left_level_of o ≡ 4) × (right_level_of o ≡ 4)
    inside op.Or e = absurd (omega arith)
    inside op.And e = absurd (omega arith)
    inside op.Equal e = (refl, refl, refl)
    inside op.NotEqual e = (refl, refl, refl)
    inside op.Less e = (refl, refl, refl)
    inside op.LessEqual e = (refl, refl, refl)
    inside op.Greater e = (refl, refl, refl)
    inside op.GreaterEqual e = (refl, refl, refl)
    inside op.Plus e = absurd (omega arith)
    inside op.Minus e = absurd (omega arith)
    inside op.Join e = absurd (omega arith)
    inside op.Times e = absurd (omega arith)
    inside op.Divide e = absurd (omega arith)
    inside op.Remainder e = absurd (omega arith)

pub level4 : IsLevel (54 ∷ 55 ∷ 59 ∷ []) 4 4 5
level4 = record {
  low = omega arith;
  high = omega arith;
  level = λ c h. eq_is _ _ (each_of (54 ∷ 55 ∷ 59 ∷ []) (λ c. level_of_op (operator_at c) == 4) refl c h);
  left = λ c h. eq_is _ _ (each_of (54 ∷ 55 ∷ 59 ∷ []) (λ c. left_level_of (operator_at c) == 4) refl c h);
  right = λ c h. eq_is _ _ (each_of (54 ∷ 55 ∷ 59 ∷ []) (λ c. right_level_of (operator_at c) == 5) refl c h);
  symbol = λ c h. eq_is _ _ (each_of (54 ∷ 55 ∷ 59 ∷ []) (λ c. code_of (symbol_of (operator_at c)) == c) refl c h);
  fixed = λ c h. each_of (54 ∷ 55 ∷ 59 ∷ []) (λ c. is_fixed c) refl c h;
  inside = λ o e. inside o e;
}
  where
    inside : (o : Operator) → level_of_op o ≡ 4 → (member (code_of (symbol_of o)) (54 ∷ 55 ∷ 59 ∷ []) ≡ true) × (left_level_of o ≡ 4) × (right_level_of o ≡ 5)
    inside op.Or e = absurd (omega arith)
    inside op.And e = absurd (omega arith)
    inside op.Equal e = absurd (omega arith)
    inside op.NotEqual e = absurd (omega arith)
    inside op.Less e = absurd (omega arith)
    inside op.LessEqual e = absurd (omega arith)
    inside op.Greater e = absurd (omega arith)
    inside op.GreaterEqual e = absurd (omega arith)
    inside op.Plus e = (refl, refl, refl)
    inside op.Minus e = (refl, refl, refl)
    inside op.Join e = (refl, refl, refl)
    inside op.Times e = absurd (omega arith)
    inside op.Divide e = absurd (omega arith)
    inside op.Remainder e = absurd (omega arith)

pub level5 : IsLevel (56 ∷ 57 ∷ 58 ∷ []) 5 5 6
level5 = record {
  low = omega arith;
  high = omega arith;
  level = λ c h. eq_is _ _ (each_of (56 ∷ 57 ∷ 58 ∷ []) (λ c. level_of_op (operator_at c) == 5) refl c h);
  left = λ c h. eq_is _ _ (each_of (56 ∷ 57 ∷ 58 ∷ []) (λ c. left_level_of (operator_at c) == 5) refl c h);
  right = λ c h. eq_is _ _ (each_of (56 ∷ 57 ∷ 58 ∷ []) (λ c. right_level_of (operator_at c) == 6) refl c h);
  symbol = λ c h. eq_is _ _ (each_of (56 ∷ 57 ∷ 58 ∷ []) (λ c. code_of (symbol_of (operator_at c)) == c) refl c h);
  fixed = λ c h. each_of (56 ∷ 57 ∷ 58 ∷ []) (λ c. is_fixed c) refl c h;
  inside = λ o e. inside o e;
}
  where
    inside : (o : Operator) → level_of_op o ≡ 5 → (member (code_of (symbol_of o)) (56 ∷ 57 ∷ 58 ∷ []) ≡ true) × (left_level_of o ≡ 5) × (right_level_of o ≡ 6)
    inside op.Or e = absurd (omega arith)
    inside op.And e = absurd (omega arith)
    inside op.Equal e = absurd (omega arith)
    inside op.NotEqual e = absurd (omega arith)
    inside op.Less e = absurd (omega arith)
    inside op.LessEqual e = absurd (omega arith)
    inside op.Greater e = absurd (omega arith)
    inside op.GreaterEqual e = absurd (omega arith)
    inside op.Plus e = absurd (omega arith)
    inside op.Minus e = absurd (omega arith)
    inside op.Join e = absurd (omega arith)
    inside op.Times e = (refl, refl, refl)
    inside op.Divide e = (refl, refl, refl)
    inside op.Remainder e = (refl, refl, refl)

-- an operator and its right side
abbrev pub Tail : Bool → List ℕ → ℕ → Tok × ExprTree → List Tok → Type 0
Tail plain G r = SeqOf (OneOf G) (λ x. MapOf (λ (e : ExprTree). (x, e)) (λ e u. SpellsExpr plain r e u))

-- two operands and the operator between them
pub join : (plain : Bool) (G : List ℕ) (k l r : ℕ) → IsLevel G k l r → (a : ExprTree) (t : Tok × ExprTree) (u v : List Tok) → SpellsExpr plain l a u → Tail plain G r t v → SpellsExpr plain k (add_binary a t) (u ++ v)
join plain G k l r d a t u v s w =
    let fits : member (code w.value) G ≡ true = w.first.fits in
    let o = operator_at (code w.value) in
    let symbol : w.value.kind ≡ symbol_of o = kind_is w.value.kind (d.fixed (code w.value) fits) ∙ ap (λ (c : ℕ). kind_at c) (sym (d.symbol (code w.value) fits)) ∙ sym (symbol_kind o) in
    subst (λ (y : Tok × ExprTree). SpellsExpr plain k (add_binary a y) (u ++ v)) (sym w.second.is) (record {
      depth = 0;
      inside = (
        same k (level_of_op o) (sym (d.level (code w.value) fits)),
        record {
          front = u;
          back = v;
          parts = refl;
          first = subst (λ (j : ℕ). SpellsExpr plain j a u) (sym (d.left (code w.value) fits)) s;
          second = record {
            front = w.front;
            back = w.back;
            parts = w.parts;
            first = record { token = w.value; only = w.first.only; kind = symbol; place = refl };
            second = subst (λ (j : ℕ). SpellsExpr plain j w.second.value w.back) (sym (d.right (code w.value) fits)) w.second.spelled;
          };
        },
      );
    })
  where
    same : (a b : ℕ) → a ≡ b → a ≤ b
    same a b e = omega arith

-- at a place of level k: what is tighter, or two operands with an operator of that level
pub split : (plain : Bool) (G : List ℕ) (k l r : ℕ) → IsLevel G k l r → (c : ExprTree) (u : List Tok) → SpellsExpr plain k c u → SpellsExpr plain (suc k) c u ⊎ Last Tok code 66 (λ e u. SpellsExpr plain l e u) (Tail plain G r) add_binary c u
split plain G k l r d c u s = go c s.depth s.inside
  where
    higher : (v : ℤ) (p : Place) → SpellsNumber k v p u → SpellsNumber (suc k) v p u
    higher (pos n) p (inl t) = inl ((omega (arith, d.high)), t.1)
    higher (pos n) p (inr t) = inr ((omega (arith, d.high)), t.1)
    higher (negsuc n) p (inl t) = inl ((omega (arith, d.high)), t.1)
    higher (negsuc n) p (inr t) = inr ((omega (arith, d.high)), t.1)

    between : (o : Operator) (a b : ExprTree) (p : Place) → Bare plain (binary o a b p) k u → ((k < level_of_op o) ⊎ (level_of_op o ≤ k)) → SpellsExpr plain (suc k) (binary o a b p) u ⊎ Last Tok code 66 (λ e u. SpellsExpr plain l e u) (Tail plain G r) add_binary (binary o a b p) u
    between o a b p t (inl h) = inl (record { depth = 0; inside = (omega arith, t.1) })
    between o a b p t (inr h) =
        let at = d.inside o (let q = t.0 in omega arith) in
        let w = t.1 in
        let x = w.second.first.token in
        let c : code x ≡ code_of (symbol_of o) = ap (λ (z : TokenKind). code_of z) w.second.first.kind in
        let back : operator_at (code x) ≡ o = ap (λ (j : ℕ). operator_at j) c ∙ operator_back o in
        inr (record {
          left = a;
          right = (x, b);
          front = w.front;
          back = w.back;
          is = ap (λ (z : Operator). binary z a b p) (sym back) ∙ ap (λ (q : Place). binary (operator_at (code x)) a b q) (sym w.second.first.place);
          parts = w.parts;
          first = subst (λ (j : ℕ). SpellsExpr plain j a w.front) at.1 w.first;
          second = record {
            value = x;
            front = w.second.front;
            back = w.second.back;
            parts = w.second.parts;
            first = record { only = w.second.first.only; fits = ap (λ (j : ℕ). member j G) c ∙ at.0 };
            second = record { value = b; is = refl; spelled = subst (λ (j : ℕ). SpellsExpr plain j b w.second.back) at.2 w.second.second };
          };
        })

    go : (c : ExprTree) (n : ℕ) → Wrapped n k (Bare plain c) u → SpellsExpr plain (suc k) c u ⊎ Last Tok code 66 (λ e u. SpellsExpr plain l e u) (Tail plain G r) add_binary c u
    go c (suc n) t = inl (record { depth = suc n; inside = t })
    go (number v p) zero t = inl (record { depth = 0; inside = higher v p t })
    go (text y p) zero t = inl (record { depth = 0; inside = ((omega (arith, d.high)), t.1) })
    go (yes p) zero t = inl (record { depth = 0; inside = ((omega (arith, d.high)), t.1) })
    go (no p) zero t = inl (record { depth = 0; inside = ((omega (arith, d.high)), t.1) })
    go (this p) zero t = inl (record { depth = 0; inside = ((omega (arith, d.high)), t.1) })
    go (name n) zero t = inl (record { depth = 0; inside = ((omega (arith, d.high)), t.1) })
    go (unit p) zero t = inl (record { depth = 0; inside = ((omega (arith, d.high)), t.1) })
    go (negate e p) zero t = inl (record { depth = 0; inside = ((omega (arith, d.high)), t.1) })
    go (invert e p) zero t = inl (record { depth = 0; inside = ((omega (arith, d.high)), t.1) })
    go (binary o a b p) zero t = between o a b p t (cases_lt k (level_of_op o))
    go (call e n es) zero t = inl (record { depth = 0; inside = ((omega (arith, d.high)), t.1) })
    go (size e p) zero t = inl (record { depth = 0; inside = ((omega (arith, d.high)), t.1) })
    go (part e a b p) zero t = inl (record { depth = 0; inside = ((omega (arith, d.high)), t.1) })
    go (byte_at e i p) zero t = inl (record { depth = 0; inside = ((omega (arith, d.high)), t.1) })
    go (byte e p) zero t = inl (record { depth = 0; inside = ((omega (arith, d.high)), t.1) })
    go (show e p) zero t = inl (record { depth = 0; inside = ((omega (arith, d.high)), t.1) })
    go (ascribe e ty p) zero t = inl (record { depth = 0; inside = ((omega (arith, d.high)), t.1) })
    go (choice c a b p) zero t = absurd (omega (arith, d.low, t.0))
