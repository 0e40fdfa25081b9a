-- Worked examples: trees without places, what they are printed as, and the words of items.
use Rattle.std.proofs.Common.{◌≡◌, ℕ, [], ◌∷◌, inl, refl, subst, arith}
use Rattle.std.specs.Prelude.{codes, List}
use Rattle.wy_text.specs.declared.fault.Place.{Place}
use Rattle.wy_text.specs.declared.token.TokenKind.{TokenKind}
use Rattle.wy_text.specs.declared.token.TokenKind.TheVariants as kind
use Rattle.wy_syntax.specs.declared.types.Name.{Name}
use Rattle.wy_syntax.specs.declared.types.AtomUse.{AtomUse}
use Rattle.wy_syntax.specs.declared.items.Member.TheVariants as members
use Rattle.wy_syntax.specs.Tokens.{Tok}
use Rattle.wy_syntax.specs.Trees.{ExprTree, name, text, yes, no, call, none, more, value, run, no_stmts, more_stmts, long, ItemTree, type_item, program_item}
use Rattle.wy_syntax.specs.Canonical.{canonical_form}
use Rattle.wy_canonical.specs.Unplaced.{bare_member, unplaced}
use Rattle.wy_syntax.specs.OwnWords.{IsWord, HasWords}

abbrev at : ℕ → ℕ → Place
at line column = record { file = 1; line = line; column = column }

abbrev named : List ℕ → ℕ → ℕ → Name
named written line column = record { text = written; place = at line column }

-- a program whose body is one call, written in a line of its own
abbrev writes : Place → ExprTree → List ItemTree
writes place written = program_item place (record { name = named (codes "c") 2 9; kind = named (codes "Console") 2 12 } ∷ []) [] [] (at 3 3) []
    (long (more_stmts (run (value (call (name (named (codes "c") 4 5)) (named (codes "write") 4 7) (more written none)))) no_stmts)) ∷ []

-- the same tree at two places
same_tree : unplaced (writes (at 1 1) (text (codes "a") (at 4 13))) ≡ unplaced (writes (at 7 1) (text (codes "a") (at 4 20)))
same_tree = refl

-- two trees
other_tree : unplaced (writes (at 1 1) (yes (at 4 13))) ≡ unplaced (writes (at 1 1) (no (at 4 13))) → ⊥
other_tree e = absurd cc

-- the canonical form of both
printed_tree : canonical_form (writes (at 1 1) (text (codes "a") (at 4 13))) ≡ codes "program\n  grant c: Console\n  run: {}\n    c.write(\"a\")\n"
printed_tree = refl

-- places are gone, and the canonical form stays
printed_unplaced : canonical_form (unplaced (writes (at 1 1) (text (codes "a") (at 4 13)))) ≡ codes "program\n  grant c: Console\n  run: {}\n    c.write(\"a\")\n"
printed_unplaced = refl

-- a type whose one member has an upper bound: its canonical form stays without places
printed_bound : canonical_form (unplaced (type_item (record { place = at 1 1; name = named (codes "C") 1 6; members = members.Bounded (named (codes "E") 2 10) [] ∷ [] }) ∷ [])) ≡ codes "type C\n  effect E <= {}\n"
printed_bound = refl

-- a bound is no definition
other_member : (n : Name) (s : List AtomUse) → bare_member (members.Bounded n s) ≡ bare_member (members.Defined n s) → ⊥
other_member n s e = absurd cc

-- a word, and three that are none
letter : IsWord (codes "C")
letter = ((((λ e. cc), (λ e. cc)), tt), (λ e. cc), (λ e. cc), (λ e. cc))

spaced : IsWord (codes "c d") → ⊥
spaced h = h.0.1.0.0 refl

stopped : IsWord (codes "c.d") → ⊥
stopped h = h.0.1.0.1 refl

program_is_none : IsWord (codes "main") → ⊥
program_is_none h = h.1 refl

-- a type that is declared under a name
abbrev declared : List ℕ → ItemTree
declared word = type_item (record { place = at 1 1; name = named word 1 6; members = [] })

abbrev token : TokenKind → ℕ → Tok
token k column = record { kind = k; place = at 1 column }

-- its tokens spell it, and their name is a word
is_declared : HasWords (declared (codes "C"))
is_declared = (
  token kind.KwType 1 ∷ token (kind.Name (codes "C")) 6 ∷ token kind.Nl 7 ∷ [],
  record {
    front = token kind.KwType 1 ∷ [];
    back = token (kind.Name (codes "C")) 6 ∷ token kind.Nl 7 ∷ [];
    parts = refl;
    first = record { token = token kind.KwType 1; only = refl; kind = refl; place = refl };
    second = record {
      front = token (kind.Name (codes "C")) 6 ∷ [];
      back = token kind.Nl 7 ∷ [];
      parts = refl;
      first = record { token = token (kind.Name (codes "C")) 6; only = refl; kind = refl; place = refl };
      second = record {
        front = token kind.Nl 7 ∷ [];
        back = [];
        parts = refl;
        first = record { token = token kind.Nl 7; only = refl; kind = refl };
        second = inl (refl, refl);
      };
    };
  },
  ((λ w e. absurd cc), ((λ w e. (let same : codes "C" ≡ w = cc in subst IsWord same letter)), ((λ w e. absurd cc), tt))),
  omega arith,
)
