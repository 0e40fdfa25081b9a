-- Levels of expressions, and what an expression begins with.
use Rattle.std.proofs.Common.{◌≡◌, ℕ, zero, suc, pos, negsuc, ◌≤◌, nat_le, Bool, true, false, ◌&&◌, List, [], ◌∷◌, ◌++◌, refl, ap, ◌∙◌, arith, inl, inr}
use Rattle.wy_text.specs.declared.fault.Place.{Place}
use Rattle.wy_text.specs.declared.token.TokenKind.{TokenKind}
use Rattle.wy_text.specs.declared.token.TokenKind.TheVariants as kind
use Rattle.wy_syntax.specs.declared.expressions.Operator.{Operator}
use Rattle.wy_syntax.specs.declared.expressions.Operator.TheVariants as op
use Rattle.wy_syntax.specs.Tokens.{Tok, code, code_of, member, starts}
use Rattle.wy_syntax.specs.Trees.{ExprTree, number, text, yes, no, this, name, unit, negate, invert, binary, call, size, part, byte_at, byte, show, ascribe, choice}
use Rattle.wy_syntax.specs.Languages.{Lang, Sign, Mark, Then}
use Rattle.wy_syntax.specs.ExprGrammar.{level_of_op, left_level_of, right_level_of, Wrapped, Placed, Bare}
use Rattle.wy_syntax.specs.Canonical.{level_of, is_numbered}
use Rattle.wy_canonical.proofs.Source.{AllFair}
use Rattle.wy_canonical.proofs.Printing.{fair_front, fair_back}

-- ---- levels of operators

pub op_below : (o : Operator) → level_of_op o ≤ 5
op_below op.Or = omega arith
op_below op.And = omega arith
op_below op.Equal = omega arith
op_below op.NotEqual = omega arith
op_below op.Less = omega arith
op_below op.LessEqual = omega arith
op_below op.Greater = omega arith
op_below op.GreaterEqual = omega arith
op_below op.Plus = omega arith
op_below op.Minus = omega arith
op_below op.Join = omega arith
op_below op.Times = omega arith
op_below op.Divide = omega arith
op_below op.Remainder = omega arith

pub left_above : (o : Operator) → 1 ≤ left_level_of o
left_above op.Or = omega arith
left_above op.And = omega arith
left_above op.Equal = omega arith
left_above op.NotEqual = omega arith
left_above op.Less = omega arith
left_above op.LessEqual = omega arith
left_above op.Greater = omega arith
left_above op.GreaterEqual = omega arith
left_above op.Plus = omega arith
left_above op.Minus = omega arith
left_above op.Join = omega arith
left_above op.Times = omega arith
left_above op.Divide = omega arith
left_above op.Remainder = omega arith

pub right_above : (o : Operator) → 1 ≤ right_level_of o
right_above op.Or = omega arith
right_above op.And = omega arith
right_above op.Equal = omega arith
right_above op.NotEqual = omega arith
right_above op.Less = omega arith
right_above op.LessEqual = omega arith
right_above op.Greater = omega arith
right_above op.GreaterEqual = omega arith
right_above op.Plus = omega arith
right_above op.Minus = omega arith
right_above op.Join = omega arith
right_above op.Times = omega arith
right_above op.Divide = omega arith
right_above op.Remainder = omega arith

-- ---- what is spelled at a place of a level

-- an expression has at least the level that its place asks for
pub level_bound : (plain : Bool) (e : ExprTree) (k : ℕ) (u : List Tok) → Bare plain e k u → k ≤ level_of e
level_bound plain (number (pos n) p) k u (inl x) = x.0
level_bound plain (number (pos n) p) k u (inr x) = let a = x.0 in omega arith
level_bound plain (number (negsuc n) p) k u (inl x) = x.0
level_bound plain (number (negsuc n) p) k u (inr x) = x.0
level_bound plain (text s p) k u x = x.0
level_bound plain (yes p) k u x = x.0
level_bound plain (no p) k u x = x.0
level_bound plain (this p) k u x = x.0
level_bound plain (name n) k u x = x.0
level_bound plain (unit p) k u x = x.0
level_bound plain (negate e p) k u x = x.0
level_bound plain (invert e p) k u x = x.0
level_bound plain (binary o a b p) k u x = x.0
level_bound plain (call e n es) k u x = x.0
level_bound plain (size e p) k u x = x.0
level_bound plain (part e a b p) k u x = x.0
level_bound plain (byte_at e i p) k u x = x.0
level_bound plain (byte e p) k u x = x.0
level_bound plain (show e p) k u x = x.0
level_bound plain (ascribe e t p) k u x = x.0
level_bound plain (choice c a b p) k u x = x.0

-- it is spelled at places that ask for less too
pub lower : (plain : Bool) (e : ExprTree) (k j : ℕ) (u : List Tok) → Bare plain e k u → j ≤ k → Bare plain e j u
lower plain (number (pos n) p) k j u (inl x) h = let a = x.0 in inl (omega arith, x.1)
lower plain (number (pos n) p) k j u (inr x) h = let a = x.0 in inr (omega arith, x.1)
lower plain (number (negsuc n) p) k j u (inl x) h = let a = x.0 in inl (omega arith, x.1)
lower plain (number (negsuc n) p) k j u (inr x) h = let a = x.0 in inr (omega arith, x.1)
lower plain (text s p) k j u x h = let a = x.0 in (omega arith, x.1)
lower plain (yes p) k j u x h = let a = x.0 in (omega arith, x.1)
lower plain (no p) k j u x h = let a = x.0 in (omega arith, x.1)
lower plain (this p) k j u x h = let a = x.0 in (omega arith, x.1)
lower plain (name n) k j u x h = let a = x.0 in (omega arith, x.1)
lower plain (unit p) k j u x h = let a = x.0 in (omega arith, x.1)
lower plain (negate e p) k j u x h = let a = x.0 in (omega arith, x.1)
lower plain (invert e p) k j u x h = let a = x.0 in (omega arith, x.1)
lower plain (binary o a b p) k j u x h = let a = x.0 in (omega arith, x.1)
lower plain (call e n es) k j u x h = let a = x.0 in (omega arith, x.1)
lower plain (size e p) k j u x h = let a = x.0 in (omega arith, x.1)
lower plain (part e a b p) k j u x h = let a = x.0 in (omega arith, x.1)
lower plain (byte_at e i p) k j u x h = let a = x.0 in (omega arith, x.1)
lower plain (byte e p) k j u x h = let a = x.0 in (omega arith, x.1)
lower plain (show e p) k j u x h = let a = x.0 in (omega arith, x.1)
lower plain (ascribe e t p) k j u x h = let a = x.0 in (omega arith, x.1)
lower plain (choice c a b p) k j u x h = let a = x.0 in (omega arith, x.1)

-- at the level that it has
abbrev pub Own : Bool → ExprTree → Lang
Own plain e = Bare plain e (level_of e)

-- inside the parentheses that leave no node
pub record Inside (plain : Bool) (e : ExprTree) (k : ℕ) : Type 0 where
  pub level : ℕ
  pub tokens : List Tok
  pub spelled : Bare plain e level tokens
  pub are_fair : AllFair tokens
  pub some : 1 ≤ k → 1 ≤ level

pub inside : (plain : Bool) (e : ExprTree) (k : ℕ) (u : List Tok) → Placed k (Bare plain e) u → AllFair u → Inside plain e k
inside plain e k u x h = go x.depth k u x.inside h
  where
    go : (n k : ℕ) (u : List Tok) → Wrapped n k (Bare plain e) u → AllFair u → Inside plain e k
    go zero k u x h = record { level = k; tokens = u; spelled = x; are_fair = h; some = λ l. l }
    go (suc n) k u x h = let i = go n 1 x.second.front x.second.first (fair_front x.second (fair_back x h)) in
        record { level = i.level; tokens = i.tokens; spelled = i.spelled; are_fair = i.are_fair; some = λ l. i.some (omega arith) }

-- ---- the first token

pub record Heads (set : List ℕ) (u : List Tok) : Type 0 where
  pub token : Tok
  pub rest : List Tok
  pub parts : u ≡ token ∷ rest
  pub other : member (code token) set ≡ false

pub heads_starts : (set : List ℕ) (u : List Tok) → Heads set u → starts set u ≡ false
heads_starts set u h = ap (starts set) h.parts ∙ h.other

heads_then : (set : List ℕ) (P Q : Lang) (u : List Tok) → (x : Then P Q u) → Heads set x.front → Heads set u
heads_then set P Q u x h = record { token = h.token; rest = h.rest ++ x.back; parts = x.parts ∙ ap (λ (z : List Tok). z ++ x.back) h.parts; other = h.other }

heads_mark : (set : List ℕ) (k : TokenKind) (p : Place) (u : List Tok) → Mark k p u → member (code_of k) set ≡ false → Heads set u
heads_mark set k p u x h = record { token = x.token; rest = []; parts = x.only; other = ap (λ (j : TokenKind). member (code_of j) set) x.kind ∙ h }

pub heads_sign : (set : List ℕ) (k : TokenKind) (Q : Lang) (u : List Tok) → (x : Then (Sign k) Q u) → member (code_of k) set ≡ false → Heads set u
heads_sign set k Q u x h = heads_then set (Sign k) Q u x (record { token = x.first.token; rest = []; parts = x.first.only; other = ap (λ (j : TokenKind). member (code_of j) set) x.first.kind ∙ h })

abbrev numbers : List ℕ
numbers = 2 ∷ 3 ∷ []

marked : (k : TokenKind) (p : Place) (Q : Lang) (u : List Tok) → Then (Mark k p) Q u → member (code_of k) numbers ≡ false → Heads numbers u
marked k p Q u x h = heads_then numbers (Mark k p) Q u x (heads_mark numbers k p x.front x.first h)

-- a Unary whose first token is no number begins with none
pub unnumbered : (plain : Bool) (e : ExprTree) (k : ℕ) (u : List Tok) → Bare plain e k u → 6 ≤ k → is_numbered e ≡ false → Heads numbers u
unnumbered plain (number (pos n) p) k u x l h = absurd (let t : true ≡ false = h in cc)
unnumbered plain (number (negsuc n) p) k u (inl x) l h = marked kind.SymMinus p (Sign (kind.Number (pos (suc n)))) u x.1 refl
unnumbered plain (number (negsuc n) p) k u (inr x) l h = marked kind.SymMinus p (Sign kind.Edge) u x.1.1 refl
unnumbered plain (text s p) k u x l h = heads_mark numbers (kind.Text s) p u x.1 refl
unnumbered plain (yes p) k u x l h = heads_mark numbers kind.KwTrue p u x.1 refl
unnumbered plain (no p) k u x l h = heads_mark numbers kind.KwFalse p u x.1 refl
unnumbered plain (this p) k u x l h = heads_mark numbers kind.KwThis p u x.1 refl
unnumbered plain (name n) k u x l h = heads_mark numbers (kind.Name n.text) n.place u x.1 refl
unnumbered plain (unit p) k u x l h = marked kind.SymOpenParen p _ u x.1 refl
unnumbered plain (negate e p) k u x l h = marked kind.SymMinus p _ u x.1 refl
unnumbered plain (invert e p) k u x l h = marked kind.SymNot p _ u x.1 refl
unnumbered plain (binary o a b p) k u x l h = let a = x.0 in let b = op_below o in absurd (omega arith)
unnumbered plain (call e n es) k u x l h = heads_then numbers _ _ u x.1 (go x.1.first.depth x.1.front x.1.first.inside (λ v y g. unnumbered plain e 7 v y (omega arith) g))
  where
    tall : 7 ≤ level_of e → nat_le 7 (level_of e) ≡ true
    tall h = grind arith

    none : (b : Bool) → b ≡ true → (b && is_numbered e) ≡ false → is_numbered e ≡ false
    none true t h = h
    none false t h = absurd cc

    go : (n : ℕ) (v : List Tok) → Wrapped n 7 (Bare plain e) v → ((v : List Tok) → Bare plain e 7 v → is_numbered e ≡ false → Heads numbers v) → Heads numbers v
    go zero v y ih = ih v y (none (nat_le 7 (level_of e)) (tall (level_bound plain e 7 v y)) h)
    go (suc n) v y ih = heads_sign numbers kind.SymOpenParen _ v y refl
unnumbered plain (size e p) k u x l h = marked kind.KwTextSize p _ u x.1 refl
unnumbered plain (part e a b p) k u x l h = marked kind.KwTextPart p _ u x.1 refl
unnumbered plain (byte_at e i p) k u x l h = marked kind.KwTextCode p _ u x.1 refl
unnumbered plain (byte e p) k u x l h = marked kind.KwTextByte p _ u x.1 refl
unnumbered plain (show e p) k u x l h = marked kind.KwTextShow p _ u x.1 refl
unnumbered plain (ascribe e t p) k u x l h = marked kind.SymOpenParen p _ u x.1 refl
unnumbered plain (choice c a b p) k u x l h = let a = x.0 in absurd (omega arith)
