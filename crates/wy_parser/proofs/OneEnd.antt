-- A list of tokens that ends once, by its front and its end.
use Rattle.std.proofs.Common.{◌≡◌, true, false, List, [], ◌∷◌, ◌++◌, refl, sym, ap, ◌∙◌}
use Rattle.wy_text.specs.declared.token.Token.{Token}
use Rattle.wy_text.specs.declared.token.TokenKind.{TokenKind}
use Rattle.wy_text.specs.declared.token.TokenKind.TheVariants as kind
use Rattle.wy_text.specs.TokenLists.{is_end, EndsOnce}
use Rattle.wy_syntax.specs.Tokens.{Tok, tok_of, toks}

-- no token is the end
abbrev pub NoEnd : List Tok → Type 0
NoEnd [] = Unit {0}
NoEnd (x ∷ u) = (x.kind ≡ kind.End → ⊥) × NoEnd u

-- the last token and no other is the end
pub record OneEnd (ts : List Tok) : Type 0 where
  pub front : List Tok
  pub last : Tok
  pub parts : ts ≡ front ++ last ∷ []
  pub is : last.kind ≡ kind.End
  pub before : NoEnd front

not_end : (k : TokenKind) → is_end k ≡ false → k ≡ kind.End → ⊥
not_end k other is = let e : true ≡ false = sym (ap is_end is) ∙ other in cc

pub one_end : (ts : List Token) → EndsOnce ts → OneEnd (toks ts)
one_end [] ends = absurd ends
one_end (t ∷ []) ends = record { front = []; last = tok_of t; parts = refl; is = ends; before = tt }
one_end (t ∷ u ∷ ts) ends =
    let later = one_end (u ∷ ts) ends.1 in
    record {
      front = tok_of t ∷ later.front;
      last = later.last;
      parts = ap (λ (w : List Tok). tok_of t ∷ w) later.parts;
      is = later.is;
      before = (not_end t.kind ends.0, later.before);
    }
