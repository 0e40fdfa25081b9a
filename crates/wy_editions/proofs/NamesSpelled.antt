-- Where each name among some tokens is `Ok`, so is each name that stands for a type in the item that they spell.
use Rattle.std.proofs.Common.{◌≡◌, ℕ, zero, suc, Bool, true, false, List, [], ◌∷◌, ◌++◌, Some, None, inl, inr, sym, subst}
use Rattle.std.specs.List.{AllByRecursion}
use Rattle.wy_text.specs.declared.token.TokenKind.TheVariants as kind
use Rattle.wy_syntax.specs.declared.types.Name.{Name}
use Rattle.wy_syntax.specs.declared.types.Param.{Param}
use Rattle.wy_syntax.specs.declared.types.Signature.{Signature}
use Rattle.wy_syntax.specs.declared.types.TypeUse.{TypeUse}
use Rattle.wy_syntax.specs.declared.types.TypeUse.TheVariants as use_of
use Rattle.wy_syntax.specs.declared.items.Grant.{Grant}
use Rattle.wy_syntax.specs.declared.items.Member.{Member}
use Rattle.wy_syntax.specs.declared.items.Member.TheVariants.{Abstract, Bounded, Defined, Method}
use Rattle.wy_syntax.specs.Tokens.{Tok}
use Rattle.wy_syntax.specs.Trees.{ExprTree, ExprTrees, number, text, yes, no, this, name, unit, negate, invert, binary, call, size, part, byte_at, byte, show, ascribe, choice, none, more, RhsTree, literal, branch, value, StmtTree, StmtTrees, val, assign, run, no_stmts, more_stmts, PartTree, PartTrees, field, method, no_parts, more_parts, TailTree, short, long, InsideTree, ItemTree, type_item, pure_item, resource_item, plain_item, program_item}
use Rattle.wy_syntax.specs.Languages.{Lang, Sign, Word, Then, ◌⨟◌, Each, Commas, Indented, Lines}
use Rattle.wy_syntax.specs.TypeGrammar.{SpellsObject, SpellsType, SpellsParam, SpellsModuleParam, SpellsSignature}
use Rattle.wy_syntax.specs.ExprGrammar.{Wrapped, Placed, Bare, Arguments, MoreArguments}
use Rattle.wy_syntax.specs.StmtGrammar.{SpellsRhs, SpellsStmt, SpellsBlock, SpellsPart, SpellsParts, SpellsTail}
use Rattle.wy_syntax.specs.Grammar.{SpellsMember, SpellsGrant, SpellsInside, SpellsItem}
use Rattle.wy_syntax.proofs.TokensSpelled.{Of, of_both, first, rest, inner, front_ok, back_ok, unwrapped}
use Rattle.wy_editions.proofs.TypeNames.{UseHas, ParamsHave, SignatureHas, ExprHas, ExprsHave, RhsHas, StmtHas, StmtsHave, PartHas, PartsHave, TailHas, MembersHave, GrantsHave, ItemHas}

-- each name among the tokens is Ok
abbrev pub NamesAre : (List ℕ → Type 0) → List Tok → Type 0
NamesAre Ok ts = AllByRecursion (λ (t : Tok). (w : List ℕ) → t.kind ≡ kind.Name w → Ok w) ts

module _ (Ok : List ℕ → Type 0) where
  ------------------------------------------------------------
  -- Tokens whose names are Ok and that spell something

  abbrev NameIsOk : Tok → Type 0
  NameIsOk t = (w : List ℕ) → t.kind ≡ kind.Name w → Ok w

  word_is : (n : Name) (u : List Tok) → Word n u → NamesAre Ok u → Ok n.text
  word_is n u x h = let g = subst (NamesAre Ok) x.only h in g.0 n.text x.kind

  word : (n : Name) → Of NameIsOk (Word n) → Ok n.text
  word n x = word_is n x.tokens x.spelled x.ok

  ------------------------------------------------------------
  -- Types and signatures

  object_has : (plain : Bool) (t : TypeUse) (u : List Tok) → SpellsObject plain t u → NamesAre Ok u → UseHas Ok t
  object_has plain (use_of.Int p) u x h = tt
  object_has plain (use_of.Bool p) u x h = tt
  object_has plain (use_of.Text p) u x h = tt
  object_has plain (use_of.Unit p) u x h = tt
  object_has plain (use_of.Bare n) u x h = word_is n u x h
  object_has plain (use_of.With n sets) u x h = word n (first (of_both x.1 h))
  object_has plain (use_of.At n set) u x h = word n (first (of_both x.1 h))

  use_has : (plain : Bool) (t : TypeUse) (u : List Tok) → SpellsType plain t u → NamesAre Ok u → UseHas Ok t
  use_has plain (use_of.Int p) u x h = tt
  use_has plain (use_of.Bool p) u x h = tt
  use_has plain (use_of.Text p) u x h = tt
  use_has plain (use_of.Unit p) u x h = tt
  use_has plain (use_of.Bare n) u x h = word_is n u x h
  use_has plain (use_of.With n sets) u x h = word n (first (of_both x.1 h))
  use_has plain (use_of.At n set) u x h = word n (first (of_both x.1 h))

  -- parameters, with commas between
  module _ (P : Param → Lang) (one_has : (p : Param) (u : List Tok) → P p u → NamesAre Ok u → UseHas Ok p.type_use) where
    later_params_have : (ps : List Param) (u : List Tok) → Each (λ p. Sign kind.SymComma ⨟ P p) ps u → NamesAre Ok u → ParamsHave Ok ps
    later_params_have [] u x h = tt
    later_params_have (p ∷ ps) u x h =
        let y = of_both x h in
        let one = rest (first y) in
        let z = rest y in
        (one_has p one.tokens one.spelled one.ok, later_params_have ps z.tokens z.spelled z.ok)

    params_have : (ps : List Param) (u : List Tok) → Commas P ps u → NamesAre Ok u → ParamsHave Ok ps
    params_have [] u x h = tt
    params_have (p ∷ ps) u x h =
        let y = of_both x h in
        let one = first y in
        let z = rest y in
        (one_has p one.tokens one.spelled one.ok, later_params_have ps z.tokens z.spelled z.ok)

  param_has : (plain : Bool) (p : Param) (u : List Tok) → SpellsParam plain p u → NamesAre Ok u → UseHas Ok p.type_use
  param_has plain p u x h = let z = rest (rest (of_both x h)) in use_has plain p.type_use z.tokens z.spelled z.ok

  module_param_has : (plain : Bool) (p : Param) (u : List Tok) → SpellsModuleParam plain p u → NamesAre Ok u → UseHas Ok p.type_use
  module_param_has plain p u x h = let z = rest (rest (of_both x h)) in object_has plain p.type_use z.tokens z.spelled z.ok

  signature_has : (plain : Bool) (g : Signature) (u : List Tok) → SpellsSignature plain g u → NamesAre Ok u → SignatureHas Ok g
  signature_has plain g u x h =
      let y = rest (rest (rest (of_both x h))) in
      let given = first y in
      let z = rest (rest (rest (rest y))) in (
        params_have (SpellsParam plain) (param_has plain) g.params given.tokens given.spelled given.ok,
        use_has plain g.result z.tokens z.spelled z.ok,
      )

  ------------------------------------------------------------
  -- Expressions

  mutual
    expr_has : (plain : Bool) (e : ExprTree) (k : ℕ) (u : List Tok) → Bare plain e k u → NamesAre Ok u → ExprHas Ok e
    expr_has plain (number v p) k u x h = tt
    expr_has plain (text s p) k u x h = tt
    expr_has plain (yes p) k u x h = tt
    expr_has plain (no p) k u x h = tt
    expr_has plain (this p) k u x h = tt
    expr_has plain (name n) k u x h = tt
    expr_has plain (unit p) k u x h = tt
    expr_has plain (negate e p) k u x h =
        let z : Of NameIsOk (Placed 6 (Bare plain e)) = record { tokens = x.1.back; spelled = x.1.second.0; ok = back_ok NameIsOk x.1 h } in
        unwrapped z (λ j v a g. expr_has plain e j v a g)
    expr_has plain (invert e p) k u x h = unwrapped (rest (of_both x.1 h)) (λ j v a g. expr_has plain e j v a g)
    expr_has plain (binary o a b p) k u x h =
        let y = of_both x.1 h in
        (unwrapped (first y) (λ j v c g. expr_has plain a j v c g), unwrapped (rest (rest y)) (λ j v c g. expr_has plain b j v c g))
    expr_has plain (call e n es) k u x h =
        let y = of_both x.1 h in
        let given = first (rest (rest (rest (rest y)))) in
        (unwrapped (first y) (λ j v a g. expr_has plain e j v a g), arguments_have plain es given.tokens given.spelled given.ok)
    expr_has plain (size e p) k u x h = unwrapped (first (rest (rest (of_both x.1 h)))) (λ j v a g. expr_has plain e j v a g)
    expr_has plain (part e a b p) k u x h =
        let one = rest (rest (of_both x.1 h)) in
        let two = rest (rest one) in
        let three = rest (rest two) in (
          unwrapped (first one) (λ j v c g. expr_has plain e j v c g),
          unwrapped (first two) (λ j v c g. expr_has plain a j v c g),
          unwrapped (first three) (λ j v c g. expr_has plain b j v c g),
        )
    expr_has plain (byte_at e i p) k u x h =
        let one = rest (rest (of_both x.1 h)) in
        let two = rest (rest one) in
        (unwrapped (first one) (λ j v c g. expr_has plain e j v c g), unwrapped (first two) (λ j v c g. expr_has plain i j v c g))
    expr_has plain (byte e p) k u x h = unwrapped (first (rest (rest (of_both x.1 h)))) (λ j v a g. expr_has plain e j v a g)
    expr_has plain (show e p) k u x h = unwrapped (first (rest (rest (of_both x.1 h)))) (λ j v a g. expr_has plain e j v a g)
    expr_has plain (ascribe e t p) k u x h =
        let one = rest (of_both x.1 h) in
        let two = first (rest (rest one)) in
        (unwrapped (first one) (λ j v a g. expr_has plain e j v a g), use_has plain t two.tokens two.spelled two.ok)
    expr_has plain (choice c a b p) k u x h =
        let one = rest (of_both x.1 h) in
        let two = rest (rest one) in
        let three = rest (rest two) in (
          unwrapped (first one) (λ j v d g. expr_has plain c j v d g),
          unwrapped (first two) (λ j v d g. expr_has plain a j v d g),
          unwrapped three (λ j v d g. expr_has plain b j v d g),
        )

    arguments_have : (plain : Bool) (es : ExprTrees) (u : List Tok) → Arguments plain es u → NamesAre Ok u → ExprsHave Ok es
    arguments_have plain none u x h = tt
    arguments_have plain (more e es) u x h =
        let y = of_both x h in
        let z = rest y in
        (unwrapped (first y) (λ j v a g. expr_has plain e j v a g), later_have plain es z.tokens z.spelled z.ok)

    later_have : (plain : Bool) (es : ExprTrees) (u : List Tok) → MoreArguments plain es u → NamesAre Ok u → ExprsHave Ok es
    later_have plain none u x h = tt
    later_have plain (more e es) u x h =
        let y = rest (of_both x h) in
        let z = rest y in
        (unwrapped (first y) (λ j v a g. expr_has plain e j v a g), later_have plain es z.tokens z.spelled z.ok)

  ------------------------------------------------------------
  -- Statements

  mutual
    rhs_has : (plain : Bool) (k : ℕ) (r : RhsTree) (u : List Tok) → SpellsRhs plain k r u → NamesAre Ok u → RhsHas Ok r
    rhs_has plain k (literal p ps) u x h = let z = rest (rest (of_both x h)) in indented_have plain ps z.tokens z.spelled z.ok
    rhs_has plain k (branch p c a b) u x h =
        let one = rest (of_both x.1 h) in
        let two = rest (rest one) in
        let left = inner (first two) in
        let right = inner (rest (rest (rest two))) in (
          unwrapped (first one) (λ j v d g. expr_has plain c j v d g),
          block_has plain a left.tokens left.spelled left.ok,
          block_has plain b right.tokens right.spelled right.ok,
        )
    rhs_has plain k (value e) u x h = unwrapped (first (of_both x h)) (λ j v a g. expr_has plain e j v a g)

    stmt_has : (plain : Bool) (s : StmtTree) (u : List Tok) → SpellsStmt plain s u → NamesAre Ok u → StmtHas Ok s
    stmt_has plain (val n None r) u x h = let z = rest (rest (rest (of_both x h))) in (tt, rhs_has plain 1 r z.tokens z.spelled z.ok)
    stmt_has plain (val n (Some t) r) u x h =
        let y = rest (rest (rest (of_both x h))) in
        let typed = first y in
        let z = rest (rest y) in
        (use_has plain t typed.tokens typed.spelled typed.ok, rhs_has plain 0 r z.tokens z.spelled z.ok)
    stmt_has plain (assign n r) u x h = let z = rest (rest (of_both x h)) in rhs_has plain 0 r z.tokens z.spelled z.ok
    stmt_has plain (run r) u x h = rhs_has plain 0 r u x h

    block_has : (plain : Bool) (ss : StmtTrees) (u : List Tok) → SpellsBlock plain ss u → NamesAre Ok u → StmtsHave Ok ss
    block_has plain no_stmts u x h = tt
    block_has plain (more_stmts s no_stmts) u (e, x) h = (stmt_has plain s u x h, tt)
    block_has plain (more_stmts s (more_stmts v ss)) u x h =
        (stmt_has plain s x.front x.first (front_ok NameIsOk x h), block_has plain (more_stmts v ss) x.back x.second (back_ok NameIsOk x h))

    part_has : (plain : Bool) (p : PartTree) (u : List Tok) → SpellsPart plain p u → NamesAre Ok u → PartHas Ok p
    part_has plain (field k n t r) u x h =
        let y = rest (rest (rest (of_both x h))) in
        let typed = first y in
        let z = rest (rest y) in
        (use_has plain t typed.tokens typed.spelled typed.ok, rhs_has plain 0 r z.tokens z.spelled z.ok)
    part_has plain (method g b) u x h =
        (signature_has plain g x.front x.first (front_ok NameIsOk x h), tail_has plain b x.back x.second (back_ok NameIsOk x h))

    parts_have : (plain : Bool) (ps : PartTrees) (u : List Tok) → SpellsParts plain ps u → NamesAre Ok u → PartsHave Ok ps
    parts_have plain no_parts u x h = tt
    parts_have plain (more_parts p ps) u x h =
        (part_has plain p x.front x.first (front_ok NameIsOk x h), parts_have plain ps x.back x.second (back_ok NameIsOk x h))

    indented_have : (plain : Bool) (ps : PartTrees) (u : List Tok) → Indented (ps ≡ no_parts) (SpellsParts plain ps) u → NamesAre Ok u → PartsHave Ok ps
    indented_have plain no_parts u x h = tt
    indented_have plain (more_parts p ps) u (inl x) h = let e = x.0 in absurd cc
    indented_have plain (more_parts p ps) u (inr x) h =
        let y = inner (of_both x h) in
        let z = y.spelled in
        (part_has plain p z.front z.first (front_ok NameIsOk z y.ok), parts_have plain ps z.back z.second (back_ok NameIsOk z y.ok))

    tail_has : (plain : Bool) (b : TailTree) (u : List Tok) → SpellsTail plain b u → NamesAre Ok u → TailHas Ok b
    tail_has plain (short r) u x h = let z = rest (of_both x h) in rhs_has plain 0 r z.tokens z.spelled z.ok
    tail_has plain (long ss) u x h = let z = inner (rest (of_both x h)) in block_has plain ss z.tokens z.spelled z.ok

  ------------------------------------------------------------
  -- Items

  members_have : (ms : List Member) (u : List Tok) → Each SpellsMember ms u → NamesAre Ok u → MembersHave Ok ms
  members_have [] u x h = tt
  members_have (Abstract n ∷ ms) u x h = members_have ms x.back x.second (back_ok NameIsOk x h)
  members_have (Bounded n set ∷ ms) u x h = members_have ms x.back x.second (back_ok NameIsOk x h)
  members_have (Defined n set ∷ ms) u x h = members_have ms x.back x.second (back_ok NameIsOk x h)
  members_have (Method g ∷ ms) u x h =
      let y = first (first (of_both x h)) in
      (signature_has false g y.tokens y.spelled y.ok, members_have ms x.back x.second (back_ok NameIsOk x h))

  member_lines_have : (ms : List Member) (u : List Tok) → Indented (ms ≡ []) (Each SpellsMember ms) u → NamesAre Ok u → MembersHave Ok ms
  member_lines_have ms u (inl x) h = subst (MembersHave Ok) (sym x.0) tt
  member_lines_have ms u (inr x) h = let z = inner (of_both x h) in members_have ms z.tokens z.spelled z.ok

  grants_have : (gs : List Grant) (u : List Tok) → Each SpellsGrant gs u → NamesAre Ok u → GrantsHave Ok gs
  grants_have [] u x h = tt
  grants_have (g ∷ gs) u x h =
      let y = first (of_both x h) in
      (word g.kind (first (rest (rest (rest y)))), grants_have gs x.back x.second (back_ok NameIsOk x h))

  inside_has : (i : InsideTree) (u : List Tok) → SpellsInside i u → NamesAre Ok u → PartsHave Ok i.parts
  inside_has i u (inl x) h = subst (λ (v : InsideTree). PartsHave Ok v.parts) (sym x.0) tt
  inside_has i u (inr x) h = let z = rest (rest (rest (rest (inner (of_both x h))))) in parts_have false i.parts z.tokens z.spelled z.ok

  module_params_have : (plain : Bool) (ps : List Param) → Of NameIsOk (Commas (SpellsModuleParam plain) ps) → ParamsHave Ok ps
  module_params_have plain ps x = params_have (SpellsModuleParam plain) (module_param_has plain) ps x.tokens x.spelled x.ok

  pub item_has : (i : ItemTree) (u : List Tok) → SpellsItem i u → NamesAre Ok u → ItemHas Ok i
  item_has (type_item t) u x h =
      let y = rest (of_both x h) in
      let z = rest (rest y) in
      (word t.name (first y), member_lines_have t.members z.tokens z.spelled z.ok)
  item_has (pure_item p n sealed i) u x h =
      let y = rest (rest (rest (of_both x h))) in
      let z = rest (rest y) in
      (word sealed (first y), inside_has i z.tokens z.spelled z.ok)
  item_has (resource_item p n params sealed i) u x h =
      let y = rest (rest (rest (of_both x h))) in
      let one = rest (rest y) in
      let z = rest (rest one) in
      (module_params_have false params (first (rest (first y))), word sealed (first one), inside_has i z.tokens z.spelled z.ok)
  item_has (plain_item p n params sealed parts) u x h =
      let y = rest (rest (rest (of_both x h))) in
      let one = rest (rest y) in
      let z = rest (rest one) in
      (module_params_have true params (first (rest (first y))), word sealed (first one), indented_have true parts z.tokens z.spelled z.ok)
  item_has (program_item p grants uses lines started effect body) u x h =
      let y = rest (rest (rest (of_both x h))) in
      let given = first y in
      let z = first (rest (rest (rest (rest (rest (rest y)))))) in
      (grants_have grants given.tokens given.spelled given.ok, tail_has false body z.tokens z.spelled z.ok)
