-- Old texts have old items, so what holds of these holds of the texts.
use Rattle.std.proofs.Common.{codes, ◌≡◌, ℕ, suc, List, [], ◌∷◌, ◌++◌, inl, inr, refl, sym, ◌∙◌, ap, subst}
use Rattle.std.specs.List.{AllByRecursion}
use Rattle.wy_text.specs.declared.token.Token.{Token}
use Rattle.wy_text.specs.declared.token.TokenKind.TheVariants as kind
use Rattle.wy_syntax.specs.Grammar.{SpellsItem}
use Rattle.wy_syntax.specs.Languages.{Each}
use Rattle.wy_syntax.specs.OwnWords.{AreWords}
use Rattle.wy_syntax.specs.Tokens.{Tok, toks}
use Rattle.wy_syntax.specs.Trees.{ItemTree}
use Rattle.wy_canonical.proofs.OwnWords.{are_words}
use Rattle.wy_canonical.proofs.Source.{lexed_fair}
use Rattle.wy_canonical.specs.HasTree.{HasTree}
use Rattle.wy_text.specs.Members.{In}
use Rattle.wy_types.specs.Primitive.{primitive_types}
use Rattle.wy_symbols.specs.Declarations.{all_items}
use Rattle.wy_names.specs.Names.{ResolvesOver}
use Rattle.wy_authority.specs.Authority.{authority_of}
use Rattle.wy_authority.specs.Report.{report_text}
use Rattle.wy_editions.specs.Editions.{AreOld, IsOther, LacksName, OldItemsAreAcceptedAlike, OldItemsAreJudgedAlike, OldItemsMeanTheSame}
use Rattle.wy_engine.specs.FileTrees.{HaveTrees}
use Rattle.wy_engine.specs.OldTexts.{AreOldTexts, FileLacks, OldTextsAreAcceptedAlike, OldTextsAreJudgedAlike, OldTextsMeanTheSame, ReportedArePassed, TextsLack}
use Rattle.wy_engine.proofs.OneTree.{same_trees}

------------------------------------------------------------
-- The items of files whose names are others

module _ (x : List ℕ) where
  abbrev OtherName : Tok → Type 0
  OtherName t = (w : List ℕ) → t.kind ≡ kind.Name w → IsOther x w

  abbrev AreOther : List Tok → Type 0
  AreOther ts = AllByRecursion OtherName ts

  are_other : (tokens : List Token) → AreWords (toks tokens) → ((t : Token) → In t tokens → t.kind ≡ kind.Name x → ⊥) → AreOther (toks tokens)
  are_other [] h g = tt
  are_other (t ∷ ts) h g = (λ w e. (h.0 w e, λ q. g t (inl refl) (e ∙ ap kind.Name q)), are_other ts h.1 (λ u j. g u (inr j)))

  front_other : (a b : List Tok) → AreOther (a ++ b) → AreOther a
  front_other [] b h = tt
  front_other (t ∷ a) b h = (h.0, front_other a b h.1)

  back_other : (a b : List Tok) → AreOther (a ++ b) → AreOther b
  back_other [] b h = h
  back_other (t ∷ a) b h = back_other a b h.1

  items_lack : (is : List ItemTree) (ts : List Tok) → Each SpellsItem is ts → AreOther ts → AllByRecursion (LacksName x) is
  items_lack [] ts h g = tt
  items_lack (i ∷ is) ts h g =
      let both : AreOther (h.front ++ h.back) = subst AreOther h.parts g in
      ((h.front, h.first, front_other h.front h.back both), items_lack is h.back h.second (back_other h.front h.back both))

  tree_lacks : (file : ℕ) (bytes : List ℕ) (tree : List ItemTree) → HasTree file bytes tree → FileLacks x file bytes → AllByRecursion (LacksName x) tree
  tree_lacks file bytes tree h g =
      let all : AreOther (toks h.tokens) = are_other h.tokens (are_words (toks h.tokens) (lexed_fair file bytes h.tokens h.lexed)) (g h.tokens h.lexed) in
      let both : AreOther (h.spelled.front ++ h.spelled.back) = subst AreOther h.spelled.parts all in
      items_lack tree h.spelled.front h.spelled.first (front_other h.spelled.front h.spelled.back both)

  both_lack : (is more : List ItemTree) → AllByRecursion (LacksName x) is → AllByRecursion (LacksName x) more → AllByRecursion (LacksName x) (is ++ more)
  both_lack [] more a b = b
  both_lack (i ∷ is) more a b = (a.0, both_lack is more a.1 b)

  all_lack : (file : ℕ) (texts : List (List ℕ)) (trees : List (List ItemTree)) → HaveTrees file texts trees → TextsLack x file texts → AllByRecursion (LacksName x) (all_items trees)
  all_lack file [] [] have h = tt
  all_lack file [] (t ∷ ts) have h = absurd have
  all_lack file (b ∷ bs) [] have h = absurd have
  all_lack file (b ∷ bs) (t ∷ ts) have h = both_lack t (all_items ts) (tree_lacks file b t have.0 h.0) (all_lack (suc file) bs ts have.1 h.1)

are_old : (texts : List (List ℕ)) (trees : List (List ItemTree)) → HaveTrees 1 texts trees → AreOldTexts texts → AreOld (all_items trees)
are_old texts trees have old = all_lack (codes "FullFolder") 1 texts trees have old

------------------------------------------------------------
-- What holds of them

pub reported_are_passed : ReportedArePassed
reported_are_passed texts report = (
  (λ r.
      let j = r.judged in
      (j.program, record { read = record { trees = r.trees; have = r.have; resolves = j.resolves }; accepted = record { accepted = j.accepted; within = j.within } }, r.text ∙ ap report_text j.reported)),
  (λ h.
      let p = h.1 in
      record {
        trees = p.read.trees;
        have = p.read.have;
        authority = authority_of h.0;
        judged = record { program = h.0; resolves = p.read.resolves; accepted = p.accepted.accepted; within = p.accepted.within; reported = refl };
        text = h.2;
      }),
)

pub judged_alike : OldItemsAreJudgedAlike → OldTextsAreJudgedAlike
judged_alike law texts old report = (
  (λ r. record { trees = r.trees; have = r.have; authority = r.authority; judged = (law (all_items r.trees) (are_old texts r.trees r.have old) r.authority).0 r.judged; text = r.text }),
  (λ r. record { trees = r.trees; have = r.have; authority = r.authority; judged = (law (all_items r.trees) (are_old texts r.trees r.have old) r.authority).1 r.judged; text = r.text }),
)

pub accepted_alike : OldItemsAreAcceptedAlike → OldTextsAreAcceptedAlike
accepted_alike law texts old report = (
  (λ r. record { trees = r.trees; have = r.have; authority = r.authority; accepted = (law (all_items r.trees) (are_old texts r.trees r.have old) r.authority).0 r.accepted; text = r.text }),
  (λ r. record { trees = r.trees; have = r.have; authority = r.authority; accepted = (law (all_items r.trees) (are_old texts r.trees r.have old) r.authority).1 r.accepted; text = r.text }),
)

pub mean_the_same : OldItemsMeanTheSame → OldTextsMeanTheSame
mean_the_same law texts old p q was is =
    let one : was.trees ≡ is.trees = same_trees 1 texts was.trees is.trees was.have is.have in
    law (all_items was.trees) (are_old texts was.trees was.have old) p q was.resolves
    (subst (λ (trees : List (List ItemTree)). ResolvesOver primitive_types (all_items trees) q) (sym one) is.resolves)
