-- What the end of the whole reader says of the code's tokens.
use Rattle.std.proofs.Common.{◌≡◌, ◌+◌, ◌<◌, ◌≤◌, List, [], ◌∷◌, length, get_or, sym, subst, arith}
use Rattle.std.proofs.lemmas.List.{length-map}
use Rattle.wy_text.specs.declared.token.Token.{Token}
use Rattle.wy_text.specs.TokenLists.{EndsOnce}
use Rattle.wy_syntax.specs.Tokens.{Tok, tok_of, toks}
use Rattle.wy_syntax.specs.Trees.{ItemTree}
use Rattle.wy_syntax.specs.Grammar.{Spells}
use Rattle.wy_parser.specs.declared.stop.Stop.{Stop}
use Rattle.wy_parser.specs.declared.stop.Stop.TheVariants as stops
use Rattle.wy_parser.specs.Reading.{Out, Yes, No, Deep}
use Rattle.wy_parser.specs.ItemParsing.{p_file}
use Rattle.wy_parser.specs.Refusals.{IsFirstBad}
use Rattle.wy_parser.specs.Sorts.{Halts}
use Rattle.wy_parser.proofs.FileReader.{Result', whole_is, one_tree}
use Rattle.wy_parser.proofs.OneEnd.{one_end}

abbrev pub StopsAt : List Tok → List Token → Type 0
StopsAt ts [] = ⊥
StopsAt ts (x ∷ r) = IsFirstBad ts (tok_of x)

abbrev pub IsStop : List Tok → Stop → Type 0
IsStop ts (stops.At rest) = StopsAt ts rest.now
IsStop ts stops.Deep = ⊥
IsStop ts stops.Memory = Unit {0}

result_at : (ts : List Token) → EndsOnce ts → (o : Out Tok (List ItemTree)) → p_file (length ts + 2) (toks ts) ≡ o → Result' (toks ts) o
result_at ts ends o e = subst (λ (o : Out Tok (List ItemTree)). Result' (toks ts) o) e (whole_is (length ts + 2) (toks ts) (one_end ts ends) (let e : length (toks ts) ≡ length ts = simp length-map in omega arith))

pub tree_of : (ts : List Token) → EndsOnce ts → (e : List ItemTree) (r : List Tok) → p_file (length ts + 2) (toks ts) ≡ Yes e r → Spells (toks ts) e
tree_of ts ends e r h = result_at ts ends (Yes e r) h

at_rest : (ts : List Tok) (r : List Token) → Result' ts (No (toks r)) → StopsAt ts r
at_rest ts [] h = h
at_rest ts (x ∷ r) h = h

pub stop_of : (ts : List Token) → EndsOnce ts → (e : Stop) → Halts e (p_file (length ts + 2) (toks ts)) → IsStop (toks ts) e
stop_of ts ends (stops.At rest) h = at_rest (toks ts) rest.now (result_at ts ends (No (toks rest.now)) h)
stop_of ts ends stops.Deep h = result_at ts ends Deep h
stop_of ts ends stops.Memory h = tt

pub at_empty : (ts : List Tok) (r : List Token) → length r < 1 → StopsAt ts r → ⊥
at_empty ts [] h s = s
at_empty ts (x ∷ r) h s = absurd (omega arith)

pub at_first : (ts : List Tok) (r : List Token) (x : Token) → 1 ≤ length r → x ≡ get_or r 0 x → StopsAt ts r → IsFirstBad ts (tok_of x)
at_first ts [] x h e s = absurd s
at_first ts (y ∷ r) x h e s = subst (λ (z : Token). IsFirstBad ts (tok_of z)) (sym e) s

-- no other tree is spelled
pub only_tree : (ts : List Token) → EndsOnce ts → (e : List ItemTree) (r : List Tok) → p_file (length ts + 2) (toks ts) ≡ Yes e r → (other : List ItemTree) → Spells (toks ts) other → other ≡ e
only_tree ts ends e r h other s = one_tree other e (toks ts) s (tree_of ts ends e r h)
