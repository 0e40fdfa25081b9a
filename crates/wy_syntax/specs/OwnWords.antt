-- Items of words: the tokens that spell one have names that are words, and are no more than a file may have.
use Rattle.std.specs.Prelude.{codes, ◌≡◌, ◌≤◌, ℕ, List, length}
use Rattle.std.specs.List.{AllByRecursion}
use Rattle.wy_text.specs.declared.limit.LimitName.TheVariants.{Tokens}
use Rattle.wy_text.specs.LimitName.{limit_number}
use Rattle.wy_text.specs.declared.token.TokenKind.TheVariants as kind
use Rattle.wy_syntax.specs.Tokens.{Tok}
use Rattle.wy_syntax.specs.Trees.{ItemTree}
use Rattle.wy_syntax.specs.Grammar.{SpellsItem}

-- no byte of it is a space or a full stop, and it is none of the reserved words by which a report calls the program and what a scope starts with
abbrev pub IsWord : List ℕ → Type 0
IsWord w = AllByRecursion (λ b. (b ≡ 32 → ⊥) × (b ≡ 46 → ⊥)) w × (w ≡ codes "main" → ⊥) × (w ≡ codes "init" → ⊥) × (w ≡ codes "run" → ⊥)

-- each name among the tokens is a word
abbrev pub AreWords : List Tok → Type 0
AreWords ts = AllByRecursion (λ (t : Tok). (w : List ℕ) → t.kind ≡ kind.Name w → IsWord w) ts

-- such tokens spell the item, no more than a file may have
abbrev pub HasWords : ItemTree → Type 0
HasWords i = (ts : List Tok) × SpellsItem i ts × AreWords ts × (length ts ≤ limit_number Tokens)

abbrev pub HaveWords : List ItemTree → Type 0
HaveWords items = AllByRecursion HasWords items
