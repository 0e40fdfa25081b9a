-- The words that an item gives to own names, those of parameters, grants and lines and of used modules, are names among the tokens that spell it.
use Rattle.std.proofs.Common.{◌≡◌, ℕ, Bool, true, false, List, [], ◌∷◌, ◌++◌, inl, inr, sym, subst}
use Rattle.std.specs.List.{AllByRecursion}
use Rattle.wy_text.specs.declared.token.TokenKind.TheVariants as kind
use Rattle.wy_syntax.specs.declared.types.Name.{Name}
use Rattle.wy_syntax.specs.declared.types.Param.{Param}
use Rattle.wy_syntax.specs.declared.items.Line.{Line}
use Rattle.wy_syntax.specs.declared.items.Line.TheVariants.{Instance, Import}
use Rattle.wy_syntax.specs.declared.items.Grant.{Grant}
use Rattle.wy_syntax.specs.Tokens.{Tok}
use Rattle.wy_syntax.specs.Trees.{InsideTree, ItemTree, type_item, pure_item, resource_item, plain_item, program_item}
use Rattle.wy_syntax.specs.Languages.{Sign, Word, ◌⨟◌, Each, Commas}
use Rattle.wy_syntax.specs.TypeGrammar.{SpellsModuleParam}
use Rattle.wy_syntax.specs.Grammar.{SpellsUse, SpellsLine, SpellsGrant, SpellsInside, SpellsItem}
use Rattle.wy_symbols.specs.TypeUses.{param_names}
use Rattle.wy_heads.specs.ScopeHeads.{grant_names, line_words}
use Rattle.wy_syntax.proofs.TokensSpelled.{Of, first, rest}
use Rattle.wy_syntax.specs.OwnWords.{IsWord, AreWords, HasWords}

abbrev pub own_words : ItemTree → List Name
own_words (type_item d) = []
own_words (pure_item place name sealed inside) = inside.uses ++ line_words inside.lines
own_words (resource_item place name params sealed inside) = param_names params ++ (inside.uses ++ line_words inside.lines)
own_words (plain_item place name params sealed parts) = param_names params
own_words (program_item place grants uses lines run effect body) = grant_names grants ++ (uses ++ line_words lines)

-- names that are words
abbrev pub AreNamed : List Name → Type 0
AreNamed ns = AllByRecursion (λ (n : Name). IsWord n.text) ns

pub named_append : (xs ys : List Name) → AreNamed xs → AreNamed ys → AreNamed (xs ++ ys)
named_append [] ys h g = g
named_append (x ∷ xs) ys h g = (h.0, named_append xs ys h.1 g)

-- the token is a word if it is a name
abbrev pub NameIsWord : Tok → Type 0
NameIsWord t = (w : List ℕ) → t.kind ≡ kind.Name w → IsWord w

pub name_word : (n : Name) (u : List Tok) → Word n u → AreWords u → IsWord n.text
name_word n u x h = let g = subst AreWords x.only h in g.0 n.text x.kind

-- ---- items

is_word : (n : Name) → Of NameIsWord (Word n) → IsWord n.text
is_word n x = name_word n x.tokens x.spelled x.ok

uses_named : (us : List Name) → Of NameIsWord (Each SpellsUse us) → AreNamed us
uses_named [] x = tt
uses_named (u ∷ us) x = (is_word u (first (rest (first x))), uses_named us (rest x))

lines_named : (ls : List Line) → Of NameIsWord (Each SpellsLine ls) → AreNamed (line_words ls)
lines_named [] x = tt
lines_named (Instance n m arguments ∷ ls) x = (is_word n (first (rest (first x))), lines_named ls (rest x))
lines_named (Import n m arguments bound ∷ ls) x = (is_word n (first (rest (first x))), lines_named ls (rest x))

grants_named : (gs : List Grant) → Of NameIsWord (Each SpellsGrant gs) → AreNamed (grant_names gs)
grants_named [] x = tt
grants_named (g ∷ gs) x = (is_word g.name (first (rest (first x))), grants_named gs (rest x))

-- parameters, with commas between
later_params_named : (plain : Bool) (ps : List Param) → Of NameIsWord (Each (λ p. Sign kind.SymComma ⨟ SpellsModuleParam plain p) ps) → AreNamed (param_names ps)
later_params_named plain [] x = tt
later_params_named plain (p ∷ ps) x = (is_word p.name (first (rest (first x))), later_params_named plain ps (rest x))

params_named : (plain : Bool) (ps : List Param) → Of NameIsWord (Commas (SpellsModuleParam plain) ps) → AreNamed (param_names ps)
params_named plain [] x = tt
params_named plain (p ∷ ps) x =
    let y : Of NameIsWord (SpellsModuleParam plain p ⨟ Each (λ q. Sign kind.SymComma ⨟ SpellsModuleParam plain q) ps) = record { tokens = x.tokens; spelled = x.spelled; ok = x.ok } in
    (is_word p.name (first (first y)), later_params_named plain ps (rest y))

-- what stands in a module
inside_named : (i : InsideTree) → Of NameIsWord (SpellsInside i) → AreNamed (i.uses ++ line_words i.lines)
inside_named i x = go x.spelled
  where
    go : SpellsInside i x.tokens → AreNamed (i.uses ++ line_words i.lines)
    go (inl h) = let P : InsideTree → Type 0 = λ v. AreNamed (v.uses ++ line_words v.lines) in subst P (sym h.0) tt
    go (inr h) =
        let y : Of NameIsWord (Sign kind.In ⨟ (Each SpellsUse i.uses ⨟ Each SpellsLine i.lines ⨟ _) ⨟ Sign kind.Out) = record { tokens = x.tokens; spelled = h; ok = x.ok } in
        let z = first (rest y) in
        named_append i.uses (line_words i.lines) (uses_named i.uses (first z)) (lines_named i.lines (first (rest z)))

spelled_named : (i : ItemTree) → Of NameIsWord (SpellsItem i) → AreNamed (own_words i)
spelled_named (type_item d) x = tt
spelled_named (pure_item p n sealed i) x = inside_named i (rest (rest (rest (rest (rest x)))))
spelled_named (resource_item p n ps sealed i) x =
    let y = rest (rest (rest x)) in
    named_append (param_names ps) _ (params_named false ps (first (rest (first y)))) (inside_named i (rest (rest (rest (rest y)))))
spelled_named (plain_item p n ps sealed parts) x = params_named true ps (first (rest (first (rest (rest (rest x))))))
spelled_named (program_item p gs us ls run effect body) x =
    let y = rest (rest (rest x)) in
    let z = rest y in
    named_append (grant_names gs) _ (grants_named gs (first y)) (named_append us (line_words ls) (uses_named us (first z)) (lines_named ls (first (rest z))))

pub own_named : (i : ItemTree) → HasWords i → AreNamed (own_words i)
own_named i h = spelled_named i (record { tokens = h.0; spelled = h.1; ok = h.2 })
