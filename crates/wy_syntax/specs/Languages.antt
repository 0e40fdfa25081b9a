-- How lists of tokens are put together: the words that the grammar is written in.
use Rattle.std.specs.Prelude.{◌≡◌, List, [], ◌∷◌, ◌++◌, ◌⊎◌}
use Rattle.wy_text.specs.declared.fault.Place.{Place}
use Rattle.wy_text.specs.declared.token.TokenKind.{TokenKind}
use Rattle.wy_text.specs.declared.token.TokenKind.TheVariants as kind
use Rattle.wy_syntax.specs.declared.types.Name.{Name}
use Rattle.wy_syntax.specs.Tokens.{Tok}

-- which lists of tokens are meant
abbrev pub Lang : Type 1
Lang = List Tok → Type 0

-- one token of this kind
pub record Sign (k : TokenKind) (u : List Tok) : Type 0 where
  pub token : Tok
  pub only : u ≡ token ∷ []
  pub kind : token.kind ≡ k

-- one token of this kind at this place
pub record Mark (k : TokenKind) (p : Place) (u : List Tok) : Type 0 where
  pub token : Tok
  pub only : u ≡ token ∷ []
  pub kind : token.kind ≡ k
  pub place : token.place ≡ p

-- a name at its place
abbrev pub Word : Name → Lang
Word n = Mark (kind.Name n.text) n.place

-- one after the other
pub record Then (P Q : Lang) (u : List Tok) : Type 0 where
  pub front : List Tok
  pub back : List Tok
  pub parts : u ≡ front ++ back
  pub first : P front
  pub second : Q back

infixr 20 ◌⨟◌
abbrev pub ◌⨟◌ : Lang → Lang → Lang
P ⨟ Q = Then P Q

-- no token
abbrev pub Nothing : Lang
Nothing u = u ≡ []

-- only where A holds
abbrev pub Only : Type 0 → Lang → Lang
Only A P u = A × P u

-- any number, one behind the other
abbrev pub Each : {A : Type 0} → (A → Lang) → List A → Lang
Each P [] = Nothing
Each P (a ∷ as') = P a ⨟ Each P as'

-- one or more, with commas between
abbrev pub Commas1 : {A : Type 0} → (A → Lang) → List A → Lang
Commas1 P [] u = ⊥
Commas1 P (a ∷ as') u = (P a ⨟ Each (λ b. Sign kind.SymComma ⨟ P b) as') u

-- none or more, with commas between
abbrev pub Commas : {A : Type 0} → (A → Lang) → List A → Lang
Commas P [] u = u ≡ []
Commas P (a ∷ as') u = (P a ⨟ Each (λ b. Sign kind.SymComma ⨟ P b) as') u

-- in lines of their own, one indentation further in
abbrev pub Lines : Lang → Lang
Lines P = Sign kind.In ⨟ P ⨟ Sign kind.Out

-- indented lines, or none where nothing stands in them
abbrev pub Indented : Type 0 → Lang → Lang
Indented Empty P u = (Empty × (u ≡ [])) ⊎ Lines P u

abbrev pub InParens : Lang → Lang
InParens P = Sign kind.SymOpenParen ⨟ P ⨟ Sign kind.SymCloseParen
