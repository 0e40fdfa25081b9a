-- A test that the place of each of some tokens passes is passed by each mark of the trees that they spell.
use Rattle.std.proofs.Common.{◌≡◌, ℕ, Bool, true, false, List, [], ◌∷◌, Option, Some, None, pos, negsuc, inl, inr, sym, subst}
use Rattle.wy_text.specs.declared.fault.Place.{Place}
use Rattle.wy_text.specs.declared.token.TokenKind.{TokenKind}
use Rattle.wy_syntax.specs.declared.items.Init.{Init}
use Rattle.wy_syntax.specs.Tokens.{Tok}
use Rattle.wy_syntax.specs.Trees.{ExprTree, ExprTrees, number, text, yes, no, this, name, unit, negate, invert, binary, call, size, part, byte_at, byte, show, ascribe, choice, none, more, RhsTree, literal, branch, value, StmtTree, StmtTrees, val, assign, run, no_stmts, more_stmts, PartTree, PartTrees, field, method, no_parts, more_parts, TailTree, short, long, InsideTree, ItemTree, type_item, pure_item, resource_item, plain_item, program_item}
use Rattle.wy_syntax.specs.Languages.{Lang, Mark, ◌⨟◌, Each, Indented}
use Rattle.wy_syntax.specs.ExprGrammar.{Placed, Bare, Arguments, MoreArguments}
use Rattle.wy_syntax.specs.StmtGrammar.{SpellsRhs, SpellsStmt, SpellsBlock, SpellsPart, SpellsParts, SpellsTail}
use Rattle.wy_syntax.specs.Grammar.{SpellsInit, SpellsInside, SpellsItem}
use Rattle.wy_syntax.specs.Marks.{ExprPasses, ExprsPass, RhsPasses, StmtPasses, StmtsPass, PartPasses, PartsPass, TailPasses, InitPasses, ItemPasses, ItemsPass, TokensPass}
use Rattle.wy_syntax.proofs.TokensSpelled.{Of, of_both, first, rest, inner, front_ok, back_ok, unwrapped}
use Rattle.wy_parser.specs.Laws.{MarksOfTokens}

module _ (test : Place → Bool) where
  ------------------------------------------------------------
  -- Tokens that pass and spell something

  abbrev PlacePasses : Tok → Type 0
  PlacePasses t = test t.place ≡ true

  mark_passes : {k : TokenKind} {p : Place} {u : List Tok} → Mark k p u → TokensPass test u → test p ≡ true
  mark_passes x h =
      let g = subst (λ (v : List Tok). TokensPass test v) x.only h in
      subst (λ (q : Place). test q ≡ true) x.place g.0

  -- the mark that stands first
  mark : {k : TokenKind} {p : Place} {Q : Lang} → Of PlacePasses (Mark k p ⨟ Q) → test p ≡ true
  mark x = mark_passes x.spelled.first (front_ok PlacePasses x.spelled x.ok)

  ------------------------------------------------------------
  -- Expressions

  mutual
    expr_passes : (plain : Bool) (e : ExprTree) (k : ℕ) (u : List Tok) → Bare plain e k u → TokensPass test u → ExprPasses test e
    expr_passes plain (number (pos n) p) k u (inl x) h = mark_passes x.1 h
    expr_passes plain (number (pos n) p) k u (inr x) h = mark (of_both x.1.1 h)
    expr_passes plain (number (negsuc n) p) k u (inl x) h = mark (of_both x.1 h)
    expr_passes plain (number (negsuc n) p) k u (inr x) h = mark (of_both x.1.1 h)
    expr_passes plain (text s p) k u x h = mark_passes x.1 h
    expr_passes plain (yes p) k u x h = mark_passes x.1 h
    expr_passes plain (no p) k u x h = mark_passes x.1 h
    expr_passes plain (this p) k u x h = mark_passes x.1 h
    expr_passes plain (name n) k u x h = mark_passes x.1 h
    expr_passes plain (unit p) k u x h = mark (of_both x.1 h)
    expr_passes plain (negate e p) k u x h =
        let y = of_both x.1 h in
        let z : Of PlacePasses (Placed 6 (Bare plain e)) = record { tokens = x.1.back; spelled = x.1.second.0; ok = back_ok PlacePasses x.1 h } in
        (mark y, unwrapped z (λ j v a g. expr_passes plain e j v a g))
    expr_passes plain (invert e p) k u x h = let y = of_both x.1 h in (mark y, unwrapped (rest y) (λ j v a g. expr_passes plain e j v a g))
    expr_passes plain (binary o a b p) k u x h =
        let y = of_both x.1 h in
        let z = rest y in
        (mark z, unwrapped (first y) (λ j v c g. expr_passes plain a j v c g), unwrapped (rest z) (λ j v c g. expr_passes plain b j v c g))
    expr_passes plain (call e n es) k u x h =
        let y = of_both x.1 h in
        let z = rest (rest y) in
        let given = first (rest (rest z)) in
        (mark z, unwrapped (first y) (λ j v a g. expr_passes plain e j v a g), arguments_pass plain es given.tokens given.spelled given.ok)
    expr_passes plain (size e p) k u x h = let y = of_both x.1 h in (mark y, unwrapped (first (rest (rest y))) (λ j v a g. expr_passes plain e j v a g))
    expr_passes plain (part e a b p) k u x h =
        let y = of_both x.1 h in
        let one = rest (rest y) in
        let two = rest (rest one) in
        let three = rest (rest two) in (
          mark y,
          unwrapped (first one) (λ j v c g. expr_passes plain e j v c g),
          unwrapped (first two) (λ j v c g. expr_passes plain a j v c g),
          unwrapped (first three) (λ j v c g. expr_passes plain b j v c g),
        )
    expr_passes plain (byte_at e i p) k u x h =
        let y = of_both x.1 h in
        let one = rest (rest y) in
        let two = rest (rest one) in
        (mark y, unwrapped (first one) (λ j v c g. expr_passes plain e j v c g), unwrapped (first two) (λ j v c g. expr_passes plain i j v c g))
    expr_passes plain (byte e p) k u x h = let y = of_both x.1 h in (mark y, unwrapped (first (rest (rest y))) (λ j v a g. expr_passes plain e j v a g))
    expr_passes plain (show e p) k u x h = let y = of_both x.1 h in (mark y, unwrapped (first (rest (rest y))) (λ j v a g. expr_passes plain e j v a g))
    expr_passes plain (ascribe e t p) k u x h = let y = of_both x.1 h in (mark y, unwrapped (first (rest y)) (λ j v a g. expr_passes plain e j v a g))
    expr_passes plain (choice c a b p) k u x h =
        let y = of_both x.1 h in
        let one = rest y in
        let two = rest (rest one) in
        let three = rest (rest two) in (
          mark y,
          unwrapped (first one) (λ j v d g. expr_passes plain c j v d g),
          unwrapped (first two) (λ j v d g. expr_passes plain a j v d g),
          unwrapped three (λ j v d g. expr_passes plain b j v d g),
        )

    arguments_pass : (plain : Bool) (es : ExprTrees) (u : List Tok) → Arguments plain es u → TokensPass test u → ExprsPass test es
    arguments_pass plain none u x h = tt
    arguments_pass plain (more e es) u x h =
        let y = of_both x h in
        let z = rest y in
        (unwrapped (first y) (λ j v a g. expr_passes plain e j v a g), later_pass plain es z.tokens z.spelled z.ok)

    later_pass : (plain : Bool) (es : ExprTrees) (u : List Tok) → MoreArguments plain es u → TokensPass test u → ExprsPass test es
    later_pass plain none u x h = tt
    later_pass plain (more e es) u x h =
        let y = rest (of_both x h) in
        let z = rest y in
        (unwrapped (first y) (λ j v a g. expr_passes plain e j v a g), later_pass plain es z.tokens z.spelled z.ok)

  ------------------------------------------------------------
  -- Statements

  mutual
    rhs_passes : (plain : Bool) (k : ℕ) (r : RhsTree) (u : List Tok) → SpellsRhs plain k r u → TokensPass test u → RhsPasses test r
    rhs_passes plain k (literal p ps) u x h =
        let y = of_both x h in
        let z = rest (rest y) in
        (mark y, indented_pass plain ps z.tokens z.spelled z.ok)
    rhs_passes plain k (branch p c a b) u x h =
        let y = of_both x.1 h in
        let one = rest y in
        let two = rest (rest one) in
        let left = inner (first two) in
        let right = inner (rest (rest (rest two))) in (
          mark y,
          unwrapped (first one) (λ j v d g. expr_passes plain c j v d g),
          block_passes plain a left.tokens left.spelled left.ok,
          block_passes plain b right.tokens right.spelled right.ok,
        )
    rhs_passes plain k (value e) u x h = unwrapped (first (of_both x h)) (λ j v a g. expr_passes plain e j v a g)

    stmt_passes : (plain : Bool) (s : StmtTree) (u : List Tok) → SpellsStmt plain s u → TokensPass test u → StmtPasses test s
    stmt_passes plain (val n None r) u x h =
        let y = rest (of_both x h) in
        let z = rest (rest y) in
        (mark y, rhs_passes plain 1 r z.tokens z.spelled z.ok)
    stmt_passes plain (val n (Some t) r) u x h =
        let y = rest (of_both x h) in
        let z = rest (rest (rest (rest y))) in
        (mark y, rhs_passes plain 0 r z.tokens z.spelled z.ok)
    stmt_passes plain (assign n r) u x h =
        let y = of_both x h in
        let z = rest (rest y) in
        (mark y, rhs_passes plain 0 r z.tokens z.spelled z.ok)
    stmt_passes plain (run r) u x h = rhs_passes plain 0 r u x h

    block_passes : (plain : Bool) (ss : StmtTrees) (u : List Tok) → SpellsBlock plain ss u → TokensPass test u → StmtsPass test ss
    block_passes plain no_stmts u x h = tt
    block_passes plain (more_stmts s no_stmts) u (e, x) h = (stmt_passes plain s u x h, tt)
    block_passes plain (more_stmts s (more_stmts v ss)) u x h =
        (stmt_passes plain s x.front x.first (front_ok PlacePasses x h), block_passes plain (more_stmts v ss) x.back x.second (back_ok PlacePasses x h))

    part_passes : (plain : Bool) (p : PartTree) (u : List Tok) → SpellsPart plain p u → TokensPass test u → PartPasses test p
    part_passes plain (field k n t r) u x h = let z = rest (rest (rest (rest (rest (of_both x h))))) in rhs_passes plain 0 r z.tokens z.spelled z.ok
    part_passes plain (method s b) u x h =
        let y = of_both x h in
        let z = rest y in
        (mark (first y), tail_passes plain b z.tokens z.spelled z.ok)

    parts_pass : (plain : Bool) (ps : PartTrees) (u : List Tok) → SpellsParts plain ps u → TokensPass test u → PartsPass test ps
    parts_pass plain no_parts u x h = tt
    parts_pass plain (more_parts p ps) u x h =
        (part_passes plain p x.front x.first (front_ok PlacePasses x h), parts_pass plain ps x.back x.second (back_ok PlacePasses x h))

    indented_pass : (plain : Bool) (ps : PartTrees) (u : List Tok) → Indented (ps ≡ no_parts) (SpellsParts plain ps) u → TokensPass test u → PartsPass test ps
    indented_pass plain no_parts u x h = tt
    indented_pass plain (more_parts p ps) u (inl x) h = let e = x.0 in absurd cc
    indented_pass plain (more_parts p ps) u (inr x) h =
        let y = inner (of_both x h) in
        let z = y.spelled in
        (part_passes plain p z.front z.first (front_ok PlacePasses z y.ok), parts_pass plain ps z.back z.second (back_ok PlacePasses z y.ok))

    tail_passes : (plain : Bool) (b : TailTree) (u : List Tok) → SpellsTail plain b u → TokensPass test u → TailPasses test b
    tail_passes plain (short r) u x h = let z = rest (of_both x h) in rhs_passes plain 0 r z.tokens z.spelled z.ok
    tail_passes plain (long ss) u x h = let z = inner (rest (of_both x h)) in block_passes plain ss z.tokens z.spelled z.ok

  ------------------------------------------------------------
  -- Items

  init_passes : (o : Option Init) (u : List Tok) → SpellsInit o u → TokensPass test u → InitPasses test o
  init_passes None u x h = tt
  init_passes (Some i) u x h = mark (of_both x h)

  inside_passes : (i : InsideTree) (u : List Tok) → SpellsInside i u → TokensPass test u → InitPasses test i.init × PartsPass test i.parts
  inside_passes i u (inl x) h = subst (λ (v : InsideTree). InitPasses test v.init × PartsPass test v.parts) (sym x.0) (tt, tt)
  inside_passes i u (inr x) h =
      let y = rest (rest (rest (inner (of_both x h)))) in
      let one = first y in
      let two = rest y in
      (init_passes i.init one.tokens one.spelled one.ok, parts_pass false i.parts two.tokens two.spelled two.ok)

  item_passes : (i : ItemTree) (u : List Tok) → SpellsItem i u → TokensPass test u → ItemPasses test i
  item_passes (type_item t) u x h = tt
  item_passes (pure_item p n sealed i) u x h =
      let y = of_both x h in
      let z = rest (rest (rest (rest (rest y)))) in
      let g = inside_passes i z.tokens z.spelled z.ok in
      (mark y, g.0, g.1)
  item_passes (resource_item p n params sealed i) u x h =
      let y = of_both x h in
      let z = rest (rest (rest (rest (rest (rest (rest y)))))) in
      let g = inside_passes i z.tokens z.spelled z.ok in
      (mark y, g.0, g.1)
  item_passes (plain_item p n params sealed parts) u x h =
      let y = of_both x h in
      let z = rest (rest (rest (rest (rest (rest (rest y)))))) in
      (mark y, indented_pass true parts z.tokens z.spelled z.ok)
  item_passes (program_item p grants uses lines started effect body) u x h =
      let y = rest (rest (rest (rest (rest (rest (of_both x h)))))) in
      let z = first (rest (rest (rest y))) in
      (mark y, tail_passes false body z.tokens z.spelled z.ok)

  items_pass : (is : List ItemTree) (u : List Tok) → Each SpellsItem is u → TokensPass test u → ItemsPass test is
  items_pass [] u x h = tt
  items_pass (i ∷ is) u x h = (item_passes i x.front x.first (front_ok PlacePasses x h), items_pass is x.back x.second (back_ok PlacePasses x h))

pub marks_of_tokens : MarksOfTokens
marks_of_tokens ts items x test h = items_pass test items x.front x.first (front_ok (PlacePasses test) x h)
