-- The literals of the `new` expressions among a scope's expressions are those that its start and its bodies make.
use Rattle.std.proofs.Common.{◌≡◌, ℕ, List, [], ◌∷◌, ◌++◌, refl, sym, ◌∙◌, ap, append_assoc, append-nil}
use Rattle.wy_types.specs.Code as code
use Rattle.wy_types.specs.Code.{Expr, Number, Quoted, Truth, Nothing, This, Name, Unary, Binary, TextCall, Call, New, Ascribe, Assign, Plain, If, Values, none, more, Block, Last, Then, Val}
use Rattle.wy_types.specs.Program.{Scope, Body, Start, Init, Run}
use Rattle.wy_lower.specs.Lowerable.{literal_made, literals_made, literals_made_in}
use Rattle.wy_lower.specs.Parts.{block_parts, bodies_parts, expr_parts, start_parts, value_parts, values_parts}
use Rattle.wy_rules.specs.News.{block_news, bodies_news, expr_news, scope_news, start_news, value_news, values_news}

made-append : (xs ys : List Expr) → literals_made_in (xs ++ ys) ≡ literals_made_in xs ++ literals_made_in ys
made-append [] ys = refl
made-append (x ∷ xs) ys = ap (λ ls. literal_made x ++ ls) (made-append xs ys) ∙ sym (append_assoc (literal_made x) (literals_made_in xs) (literals_made_in ys))

-- of parts one after the other
made_both : (xs ys : List Expr) (ls ms : List ℕ) → literals_made_in xs ≡ ls → literals_made_in ys ≡ ms → literals_made_in (xs ++ ys) ≡ ls ++ ms
made_both xs ys ls ms a b = made-append xs ys ∙ ap (λ z. z ++ literals_made_in ys) a ∙ ap (λ z. ls ++ z) b

mutual
  expr_made : (e : Expr) → literals_made_in (expr_parts e) ≡ expr_news e
  expr_made (Number place n) = refl
  expr_made (Quoted place bytes) = refl
  expr_made (Truth place b) = refl
  expr_made (Nothing place) = refl
  expr_made (This place) = refl
  expr_made (Name place name) = refl
  expr_made (Unary place o x) = expr_made x
  expr_made (Binary place o x y) = made_both (expr_parts x) (expr_parts y) (expr_news x) (expr_news y) (expr_made x) (expr_made y)
  expr_made (TextCall place o xs) = values_made xs
  expr_made (Call place x name xs) = made_both (expr_parts x) (values_parts xs ++ Call place x name xs ∷ []) (expr_news x) (values_news xs) (expr_made x)
      (made_both (values_parts xs) (Call place x name xs ∷ []) (values_news xs) [] (values_made xs) refl ∙ append-nil (values_news xs))
  expr_made (New place l xs) = ap (λ ls. l ∷ ls) (values_made xs)
  expr_made (Ascribe place x t) = value_made x
  expr_made (Assign place name x) = value_made x

  value_made : (v : code.Value) → literals_made_in (value_parts v) ≡ value_news v
  value_made (Plain x) = expr_made x
  value_made (If place test first second) =
      made_both (expr_parts test) (block_parts first ++ block_parts second) (expr_news test) (block_news first ++ block_news second) (expr_made test)
      (made_both (block_parts first) (block_parts second) (block_news first) (block_news second) (block_made first) (block_made second))

  values_made : (vs : Values) → literals_made_in (values_parts vs) ≡ values_news vs
  values_made none = refl
  values_made (more x xs) = made_both (value_parts x) (values_parts xs) (value_news x) (values_news xs) (value_made x) (values_made xs)

  block_made : (b : Block) → literals_made_in (block_parts b) ≡ block_news b
  block_made (Last x) = value_made x
  block_made (Then x rest) = made_both (value_parts x) (block_parts rest) (value_news x) (block_news rest) (value_made x) (block_made rest)
  block_made (Val place n typ x rest) = made_both (value_parts x) (block_parts rest) (value_news x) (block_news rest) (value_made x) (block_made rest)

start_made : (s : Start) → literals_made_in (start_parts s) ≡ start_news s
start_made (Init values) = values_made values
start_made (Run block) = block_made block

bodies_made : (bs : List Body) → literals_made_in (bodies_parts bs) ≡ bodies_news bs
bodies_made [] = refl
bodies_made (b ∷ bs) = made_both (block_parts b.block) (bodies_parts bs) (block_news b.block) (bodies_news bs) (block_made b.block) (bodies_made bs)

pub scope_made : (s : Scope) → literals_made s ≡ scope_news s
scope_made s = made_both (start_parts s.start) (bodies_parts s.bodies) (start_news s.start) (bodies_news s.bodies) (start_made s.start) (bodies_made s.bodies)
