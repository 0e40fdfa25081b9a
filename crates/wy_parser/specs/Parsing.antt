-- What is read from left to right, in readers: words, sets, types and signatures.
use Rattle.std.specs.Prelude.{ℕ, ℤ, pos, negsuc, Bool, true, false, List, [], ◌∷◌, ◌++◌, Option, None, Some}
use Rattle.wy_text.specs.declared.fault.Place.{Place}
use Rattle.wy_text.specs.declared.token.TokenKind.{TokenKind}
use Rattle.wy_text.specs.declared.token.TokenKind.TheVariants as kind
use Rattle.wy_syntax.specs.declared.types.Name.{Name}
use Rattle.wy_syntax.specs.declared.types.AtomUse.{AtomUse}
use Rattle.wy_syntax.specs.declared.types.MemberSet.{MemberSet}
use Rattle.wy_syntax.specs.declared.types.TypeUse.{TypeUse}
use Rattle.wy_syntax.specs.declared.types.TypeUse.TheVariants as types
use Rattle.wy_syntax.specs.declared.types.Param.{Param}
use Rattle.wy_syntax.specs.declared.types.Signature.{Signature}
use Rattle.wy_syntax.specs.Tokens.{Tok, code}
use Rattle.wy_parser.specs.Kinds as kinds
use Rattle.wy_parser.specs.Reading.{Reader, ◌>>=◌, ret, one_of, choose, fold_many}

abbrev pub R : Type 0 → Type 0
R A = Reader Tok A

-- the bytes of a name or a text
abbrev pub text_of_kind : TokenKind → List ℕ
text_of_kind (kind.Name s) = s
text_of_kind (kind.Text s) = s
text_of_kind _ = []

abbrev pub value_of_int : ℤ → ℕ
value_of_int (pos n) = n
value_of_int (negsuc n) = 0

abbrev pub value_of_kind : TokenKind → ℕ
value_of_kind (kind.Number v) = value_of_int v
value_of_kind _ = 0

abbrev pub tok : List ℕ → R Tok
tok G = one_of code G

-- the place of one token of a kind
abbrev pub mark : ℕ → R Place
mark k = do
  x ← tok (k ∷ [])
  ret x.place

abbrev pub name_at : Tok → Name
name_at x = record { text = text_of_kind x.kind; place = x.place }

abbrev pub word : R Name
word = do
  x ← tok (kinds.Name ∷ [])
  ret (name_at x)

-- ---- lists

abbrev pub snoc : {A : Type 0} → List A → A → List A
snoc items a = items ++ a ∷ []

-- while the next token is in the set, one more
abbrev pub each : {A : Type 0} → List ℕ → R A → ℕ → R (List A)
each F item n = fold_many code n F item snoc []

abbrev pub comma_part : {A : Type 0} → R A → R A
comma_part item = do
  comma ← mark kinds.SymComma
  item

abbrev pub commas1 : {A : Type 0} → R A → ℕ → R (List A)
commas1 item n = do
  first ← item
  fold_many code n (kinds.SymComma ∷ []) (comma_part item) snoc (first ∷ [])

abbrev pub commas : {A : Type 0} → List ℕ → R A → ℕ → R (List A)
commas F item n = choose code F (commas1 item n) (ret [])

-- what begins with a name, with commas between, or none, between two signs
abbrev pub between : {A : Type 0} → ℕ → ℕ → R A → ℕ → R (List A)
between first last item n = do
  opening ← mark first
  items ← commas (kinds.Name ∷ []) item n
  closing ← mark last
  ret items

-- ---- sets and types; n turns of a loop at most

abbrev pub member_of : Name → Name → AtomUse
member_of n m = record { owner = Some n; member = m }

abbrev pub owned : Name → R AtomUse
owned n = do
  dot ← mark kinds.SymDot
  m ← word
  ret (member_of n m)

abbrev pub member_alone : Name → AtomUse
member_alone n = record { owner = None; member = n }

unfoldable pub atom : R AtomUse
atom = do
  n ← word
  choose code (kinds.SymDot ∷ []) (owned n) (ret (member_alone n))

unfoldable pub set : ℕ → R (List AtomUse)
set n = between kinds.SymOpenBrace kinds.SymCloseBrace atom n

unfoldable pub member_set : ℕ → R MemberSet
member_set n = do
  m ← word
  equal ← mark kinds.SymEqual
  s ← set n
  ret (record { name = m; effect = s })

abbrev pub with_sets : Name → ℕ → R TypeUse
with_sets w n = do
  opening ← mark kinds.SymOpenBracket
  ms ← commas1 (member_set n) n
  closing ← mark kinds.SymCloseBracket
  ret (types.With w ms)

abbrev pub at_set : Name → ℕ → R TypeUse
at_set w n = do
  at' ← mark kinds.KwAt
  s ← set n
  ret (types.At w s)

-- what stands behind the name of a declared type
unfoldable pub object_rest : Bool → Name → ℕ → R TypeUse
object_rest true w n = ret (types.Bare w)
object_rest false w n = choose code (kinds.SymOpenBracket ∷ []) (with_sets w n) (choose code (kinds.KwAt ∷ []) (at_set w n) (ret (types.Bare w)))

unfoldable pub object : Bool → ℕ → R TypeUse
object plain n = do
  w ← word
  object_rest plain w n

abbrev pub base : ℕ → (Place → TypeUse) → R TypeUse
base k f = do
  p ← mark k
  ret (f p)

unfoldable pub type_use : Bool → ℕ → R TypeUse
type_use plain n =
    choose code (kinds.KwInt ∷ []) (base kinds.KwInt (λ p. types.Int p))
    (choose code (kinds.KwBool ∷ []) (base kinds.KwBool (λ p. types.Bool p))
    (choose code (kinds.KwString ∷ []) (base kinds.KwString (λ p. types.Text p))
    (choose code (kinds.KwUnit ∷ []) (base kinds.KwUnit (λ p. types.Unit p)) (object plain n))))

abbrev pub param_of : Name → TypeUse → Param
param_of w t = record { name = w; type_use = t }

-- the type of a method's parameter, or of a module's, which is a declared one
abbrev pub param_type : Bool → Bool → ℕ → R TypeUse
param_type true plain n = object plain n
param_type false plain n = type_use plain n

unfoldable pub param : Bool → Bool → ℕ → R Param
param declared plain n = do
  w ← word
  colon ← mark kinds.SymColon
  t ← param_type declared plain n
  ret (param_of w t)

unfoldable pub effect : Bool → ℕ → R (Option (List AtomUse))
effect true n = ret None
effect false n = do
  s ← set n
  ret (Some s)

abbrev pub signature_of : Place → Name → List Param → Option (List AtomUse) → TypeUse → Signature
signature_of p w ps e t = record { place = p; name = w; params = ps; effect = e; result = t }

-- what stands in a signature behind its parameters
abbrev pub behind_method_params : Bool → Place → Name → List Param → ℕ → R Signature
behind_method_params plain p w ps n = do
  closing ← mark kinds.SymCloseParen
  colon ← mark kinds.SymColon
  e ← effect plain n
  t ← type_use plain n
  ret (signature_of p w ps e t)

unfoldable pub signature : Bool → ℕ → R Signature
signature plain n = do
  p ← mark kinds.KwDef
  w ← word
  opening ← mark kinds.SymOpenParen
  ps ← commas (kinds.Name ∷ []) (param false plain n) n
  closing ← mark kinds.SymCloseParen
  colon ← mark kinds.SymColon
  e ← effect plain n
  t ← type_use plain n
  ret (signature_of p w ps e t)
