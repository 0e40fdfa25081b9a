-- The marks of the code of accepted texts are places in these texts: tokens name their file, the marks of trees are places of
-- tokens, and those of a program and of its code are the trees'.
use Rattle.std.proofs.Common.{◌≡◌, ℕ, suc, ◌+◌, ◌≤◌, nat_lt, Bool, true, List, [], ◌∷◌, ◌++◌, length, inl, inr, sym, subst, arith, ltb-true}
use Rattle.std.proofs.lemmas.Bool.{lt-ltb}
use Rattle.std.specs.List.{AllByRecursion}
use Rattle.wy_text.specs.declared.fault.Place.{Place}
use Rattle.wy_text.specs.declared.token.Token.{Token}
use Rattle.wy_layout.specs.Laws.{TokensNameTheirFile}
use Rattle.wy_syntax.specs.Marks.{ItemsPass, TokensPass}
use Rattle.wy_syntax.specs.Tokens.{toks}
use Rattle.wy_syntax.specs.Trees.{ItemTree}
use Rattle.wy_canonical.specs.HasTree.{HasTree}
use Rattle.wy_parser.specs.Laws.{MarksOfTokens}
use Rattle.wy_text.specs.Members.{In}
use Rattle.wy_types.specs.Program.{Program}
use Rattle.wy_symbols.specs.Declarations.{all_items}
use Rattle.wy_names.specs.Laws.{MarksOfItems}
use Rattle.wy_code.specs.declared.code.Body.{Body}
use Rattle.wy_code.specs.declared.instruction.Placed.{Placed}
use Rattle.wy_code.specs.Marks.{InstructionsPass, BodiesPass, CodePasses}
use Rattle.wy_meaning.specs.Starts.{Starts}
use Rattle.wy_lower.specs.Laws.{HasItsMarks}
use Rattle.wy_lower.specs.Lowering.{lowered}
use Rattle.wy_sound.specs.Programs.{program_starts}
use Rattle.wy_engine.specs.FileTrees.{HaveTrees}
use Rattle.wy_engine.specs.Passing.{Passes}
use Rattle.wy_engine.specs.MarkFiles.{MarksAreInFiles}

-- ---- lists that pass

items_both : (test : Place → Bool) (xs ys : List ItemTree) → ItemsPass test xs → ItemsPass test ys → ItemsPass test (xs ++ ys)
items_both test [] ys h g = g
items_both test (x ∷ xs) ys h g = (h.0, items_both test xs ys h.1 g)

body_passes : (test : Place → Bool) (bs : List Body) (b : Body) → BodiesPass test bs → In b bs → InstructionsPass test b.instructions
body_passes test [] b h i = absurd i
body_passes test (c ∷ bs) b h (inl e) = subst (λ (v : Body). InstructionsPass test v.instructions) e h.0
body_passes test (c ∷ bs) b h (inr i) = body_passes test bs b h.1 i

instruction_passes : (test : Place → Bool) (xs : List Placed) (x : Placed) → InstructionsPass test xs → In x xs → test x.place ≡ true
instruction_passes test [] x h i = absurd i
instruction_passes test (y ∷ xs) x h (inl e) = subst (λ (v : Placed). test v.place ≡ true) e h.0
instruction_passes test (y ∷ xs) x h (inr i) = instruction_passes test xs x h.1 i

-- ---- a test of files

module _ (named : TokensNameTheirFile) (spelled : MarksOfTokens) (resolved : MarksOfItems) (coded : (p : Program) (s : Starts) → HasItsMarks p s) (test : ℕ → Bool) where
  abbrev of_file : Place → Bool
  of_file place = test place.file

  tokens_pass : (file : ℕ) (ts : List Token) → test file ≡ true → AllByRecursion (λ (t : Token). t.place.file ≡ file) ts → TokensPass of_file (toks ts)
  tokens_pass file [] h all = tt
  tokens_pass file (t ∷ ts) h all = (subst (λ k. test k ≡ true) (sym all.0) h, tokens_pass file ts h all.1)

  file_passes : (file : ℕ) (text : List ℕ) (tree : List ItemTree) → test file ≡ true → HasTree file text tree → ItemsPass of_file tree
  file_passes file text tree h has = spelled (toks has.tokens) tree has.spelled of_file (tokens_pass file has.tokens h (named file text has.tokens has.lexed))

  trees_pass : (n file : ℕ) (texts : List (List ℕ)) (trees : List (List ItemTree)) → ((k : ℕ) → 1 ≤ k → k ≤ n → test k ≡ true) → 1 ≤ file → file + length texts ≤ suc n →
      HaveTrees file texts trees → ItemsPass of_file (all_items trees)
  trees_pass n file [] [] all low high have = tt
  trees_pass n file [] (t ∷ ts) all low high have = absurd have
  trees_pass n file (x ∷ xs) [] all low high have = absurd have
  trees_pass n file (x ∷ xs) (t ∷ ts) all low high have =
      items_both of_file t (all_items ts) (file_passes file x t (all file low (omega arith)) have.0) (trees_pass n (suc file) xs ts all (omega arith) (omega arith) have.1)

  mark_passes : (texts : List (List ℕ)) (program : Program) → Passes texts program → ((k : ℕ) → 1 ≤ k → k ≤ length texts → test k ≡ true) →
      (b : Body) → In b (lowered program (program_starts program)).bodies → (x : Placed) → In x b.instructions → test x.place.file ≡ true
  mark_passes texts program passes all b i x j =
      let items = trees_pass (length texts) 1 texts passes.read.trees all (omega arith) (omega arith) passes.read.have in
      let core = resolved (all_items passes.read.trees) program passes.read.resolves of_file items in
      let code : CodePasses of_file (lowered program (program_starts program)) = coded program (program_starts program) of_file core in
      instruction_passes of_file b.instructions x (body_passes of_file (lowered program (program_starts program)).bodies b code i) j

pub marks_in_files : TokensNameTheirFile → MarksOfTokens → MarksOfItems → ((p : Program) (s : Starts) → HasItsMarks p s) → MarksAreInFiles
marks_in_files named spelled resolved coded texts program passes b i x j =
    let low = mark_passes named spelled resolved coded (λ k. nat_lt 0 k) texts program passes (λ k a c. lt-ltb 0 k (omega arith)) b i x j in
    let high = mark_passes named spelled resolved coded (λ k. nat_lt k (suc (length texts))) texts program passes (λ k a c. lt-ltb k (suc (length texts)) (omega arith)) b i x j in
    let above = ltb-true 0 x.place.file low in
    let below = ltb-true x.place.file (suc (length texts)) high in
    (omega arith, omega arith)
