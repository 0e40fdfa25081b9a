-- A list of tokens spells one tree, or one of its tokens is the first that is bad.
use Rattle.std.proofs.Common.{◌≡◌, ◌+◌, List, [], ◌∷◌, ◌++◌, length, sym, ap, subst, ◌∙◌, append_assoc, arith, ◌⊎◌, inl, inr}
use Rattle.wy_text.specs.declared.token.Token.{Token}
use Rattle.wy_text.specs.TokenLists.{EndsOnce}
use Rattle.wy_syntax.specs.Tokens.{Tok, toks}
use Rattle.wy_syntax.specs.Trees.{ItemTree}
use Rattle.wy_syntax.specs.Grammar.{Spells}
use Rattle.wy_parser.specs.Reading.{Out, Yes, No, Deep}
use Rattle.wy_parser.specs.ItemParsing.{p_file}
use Rattle.wy_parser.specs.Refusals.{IsFirstBad}
use Rattle.wy_parser.proofs.OneEnd.{one_end}
use Rattle.wy_parser.proofs.FileReader.{Result', whole_is}

pub tree_or_bad : (ts : List Token) → EndsOnce ts → ((tree : List ItemTree) × Spells (toks ts) tree) ⊎ ((bad : Tok) × IsFirstBad (toks ts) bad)
tree_or_bad ts ends = go (p_file (length (toks ts) + 2) (toks ts)) (whole_is (length (toks ts) + 2) (toks ts) (one_end ts ends) (omega arith))
  where
    go : (o : Out Tok (List ItemTree)) → Result' (toks ts) o → ((tree : List ItemTree) × Spells (toks ts) tree) ⊎ ((bad : Tok) × IsFirstBad (toks ts) bad)
    go (Yes tree r) h = inl (tree, h)
    go (No []) h = absurd h
    go (No (x ∷ r)) h = inr (x, h)
    go Deep h = absurd h

pub no_tree : (ts : List Tok) (bad : Tok) (tree : List ItemTree) → IsFirstBad ts bad → Spells ts tree → ⊥
no_tree ts bad tree h s = h.none tree h.after (subst (λ (u : List Tok). Spells u tree) h.parts s)

-- of two places in a list the one stands before the other, or they are one
data Stand (u v : List Tok) (x y : Tok) : Type 0 where
  sooner : (w : List Tok) → v ≡ u ++ x ∷ w → Stand u v x y
  later : (w : List Tok) → u ≡ v ++ y ∷ w → Stand u v x y
  here : x ≡ y → Stand u v x y

head_is : (x y : Tok) (u v : List Tok) → x ∷ u ≡ y ∷ v → x ≡ y
head_is x y u v e = cc

tail_is : (x y : Tok) (u v : List Tok) → x ∷ u ≡ y ∷ v → u ≡ v
tail_is x y u v e = cc

stand : (u v a b : List Tok) (x y : Tok) → u ++ x ∷ a ≡ v ++ y ∷ b → Stand u v x y
stand [] [] a b x y e = here (head_is x y a b e)
stand [] (z ∷ v) a b x y e = sooner v (ap (λ (k : Tok). k ∷ v) (sym (head_is x z a (v ++ y ∷ b) e)))
stand (z ∷ u) [] a b x y e = later u (ap (λ (k : Tok). k ∷ u) (head_is z y (u ++ x ∷ a) b e))
stand (z ∷ u) (k ∷ v) a b x y e = behind (stand u v a b x y (tail_is z k (u ++ x ∷ a) (v ++ y ∷ b) e))
  where
    same : z ≡ k
    same = head_is z k (u ++ x ∷ a) (v ++ y ∷ b) e

    behind : Stand u v x y → Stand (z ∷ u) (k ∷ v) x y
    behind (sooner w p) = sooner w (ap (λ (l : List Tok). k ∷ l) p ∙ ap (λ (j : Tok). j ∷ (u ++ x ∷ w)) (sym same))
    behind (later w p) = later w (ap (λ (l : List Tok). z ∷ l) p ∙ ap (λ (j : Tok). j ∷ (v ++ y ∷ w)) same)
    behind (here p) = here p

-- a list that spells a tree begins with the tokens before a bad one, and so does not go on with an earlier bad one
not_before : (ts : List Tok) (bad other : Tok) (h : IsFirstBad ts bad) (k : IsFirstBad ts other) (w : List Tok) → k.before ≡ h.before ++ bad ∷ w → ⊥
not_before ts bad other h k w e =
    h.none k.tree (w ++ k.more)
    (subst (λ (u : List Tok). Spells u k.tree) (ap (λ (u : List Tok). u ++ k.more) e ∙ append_assoc h.before (bad ∷ w) k.more) k.spelled)

pub one_bad : (ts : List Tok) (bad other : Tok) → IsFirstBad ts bad → IsFirstBad ts other → bad ≡ other
one_bad ts bad other h k = go (stand h.before k.before h.after k.after bad other (sym h.parts ∙ k.parts))
  where
    go : Stand h.before k.before bad other → bad ≡ other
    go (sooner w e) = absurd (not_before ts bad other h k w e)
    go (later w e) = absurd (not_before ts other bad k h w e)
    go (here e) = e
