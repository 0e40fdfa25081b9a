-- The names of a file's tokens are words: by layout they have no space and no full stop in them, and reserved words are none of them.
use Rattle.std.proofs.Common.{◌≡◌, ℕ, ◌+◌, ◌≤◌, true, false, List, [], ◌∷◌, length, codes, refl, sym, ap, subst, ◌∙◌, arith}
use Rattle.std.proofs.lemmas.List.{length-append, length-map}
use Rattle.wy_text.specs.declared.limit.LimitName.TheVariants.{Tokens}
use Rattle.wy_text.specs.LimitName.{limit_number}
use Rattle.wy_text.specs.declared.token.TokenKind.TheVariants as kind
use Rattle.wy_layout.specs.Words.{among, reserved}
use Rattle.wy_layout.proofs.Whole.{whole_is}
use Rattle.wy_syntax.specs.Tokens.{Tok, tok_of, toks}
use Rattle.wy_syntax.specs.Trees.{ItemTree}
use Rattle.wy_syntax.specs.Languages.{Each}
use Rattle.wy_syntax.specs.Grammar.{SpellsItem}
use Rattle.wy_syntax.specs.OwnWords.{IsWord, AreWords, HaveWords}
use Rattle.wy_canonical.specs.OwnWords.{TreesHaveWords}
use Rattle.wy_canonical.proofs.PrintedNames.{name_unbroken}
use Rattle.wy_canonical.proofs.Source.{Fair, AllFair, lexed_fair}
use Rattle.wy_canonical.proofs.Printing.{fair_front, fair_back}

-- what is not reserved is none of the reserved words
not_reserved : (w v : List ℕ) → among v reserved ≡ true → among w reserved ≡ false → w ≡ v → ⊥
not_reserved w v h f e = let t : true ≡ false = sym h ∙ ap (λ u. among u reserved) (sym e) ∙ f in absurd cc

is_word : (w : List ℕ) → Fair (kind.Name w) → IsWord w
is_word w h = (name_unbroken w h.0, not_reserved w (codes "main") refl h.1, not_reserved w (codes "init") refl h.1, not_reserved w (codes "run") refl h.1)

pub are_words : (ts : List Tok) → AllFair ts → AreWords ts
are_words [] h = tt
are_words (t ∷ ts) h = ((λ w e. is_word w (subst Fair e h.0)), are_words ts h.1)

-- tokens of a file, each item's among them
items_have_words : (is : List ItemTree) (ts : List Tok) → Each SpellsItem is ts → AllFair ts → length ts ≤ limit_number Tokens → HaveWords is
items_have_words [] ts h fair few = tt
items_have_words (i ∷ is) ts h fair few =
    let parts : length ts ≡ length h.front + length h.back = ap length h.parts ∙ length-append h.front h.back in (
      (h.front, h.first, are_words h.front (fair_front h fair), omega (arith, parts, few)),
      items_have_words is h.back h.second (fair_back h fair) (omega (arith, parts, few)),
    )

pub trees_words : TreesHaveWords
trees_words file bs is h =
    let ts = toks h.tokens in
    let fair = lexed_fair file bs h.tokens h.lexed in
    let whole = (whole_is file bs h.tokens h.lexed).few in
    let same : length ts ≡ length h.tokens = length-map h.tokens tok_of in
    let parts : length ts ≡ length h.spelled.front + length h.spelled.back = ap length h.spelled.parts ∙ length-append h.spelled.front h.spelled.back in
    items_have_words is h.spelled.front h.spelled.first (fair_front h.spelled fair) (omega (arith, parts, same, whole))
