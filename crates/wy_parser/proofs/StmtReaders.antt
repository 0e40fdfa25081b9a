-- Right sides, statements, parts and bodies: each reader is exact.
use Rattle.std.proofs.Common.{◌≡◌, ℕ, zero, suc, ◌+◌, ◌-◌, ◌≤◌, Bool, true, false, cond, ◌&&◌, List, [], ◌∷◌, ◌++◌, length, refl, sym, ap, subst, ◌∙◌, arith, inl, inr, append_assoc}
use Rattle.std.specs.Prelude.{None, Some}
use Rattle.std.proofs.lemmas.List.{length-append}
use Rattle.wy_text.specs.declared.fault.Place.{Place}
use Rattle.wy_text.specs.declared.token.TokenKind.{TokenKind}
use Rattle.wy_text.specs.declared.token.TokenKind.TheVariants as kind
use Rattle.wy_syntax.specs.declared.types.Name.{Name}
use Rattle.wy_syntax.specs.declared.statements.FieldKind.TheVariants as fields
use Rattle.wy_syntax.specs.Tokens.{Tok, code, code_of, member}
use Rattle.wy_syntax.specs.Trees.{ExprTree, name, RhsTree, literal, branch, value, StmtTree, StmtTrees, val, assign, run, no_stmts, more_stmts, stmts_of, PartTree, PartTrees, field, method, no_parts, more_parts, parts_of, TailTree, short, long}
use Rattle.wy_syntax.specs.Languages.{Mark, Word, Then, Each, Indented, Lines}
use Rattle.wy_syntax.specs.TypeGrammar.{SpellsType, SpellsSignature}
use Rattle.wy_syntax.specs.ExprGrammar.{SpellsExpr}
use Rattle.wy_syntax.specs.StmtGrammar.{is_val, SpellsRhs, SpellsStmt, SpellsBlock, SpellsPart, SpellsParts, SpellsTail}
use Rattle.wy_parser.specs.Reading.{Out, Yes, No, Deep, and_then, ◌>>=◌, ret, choose2, starts2, blocks}
use Rattle.wy_parser.specs.Parsing.{R, mark, name_at, each}
use Rattle.wy_parser.specs.ExprParsing.{expr_first, arg_first, p_expr, p_arg}
use Rattle.wy_parser.specs.StmtParsing.{rhs_first, stmt_first, part_first, parts_inside, literal_of, indented_block, branch_rest, if_of, expr_line, rhs, untyped_rhs, typed_val, untyped_val, val_of, assign_of, run_of, stmt, block_of, tail, field_of, method_of, part, p_rhs, p_block, part_at, untyped_at, stmt_at, tail_at}
use Rattle.wy_parser.proofs.KindNumbers.{name_is}
use Rattle.wy_parser.proofs.Exact.{Stops, begins_more}
use Rattle.wy_parser.proofs.Two.{exact-choose2}
use Rattle.wy_parser.proofs.Blocks.{Blocks, Ending, exact-blocks}
use Rattle.wy_parser.proofs.Made.{Made, SeqOf, MapOf, Or, seq, behind, map_to, give, alt, become, less, made_never, token_at, made_mark, made_word, made_each, is_member, pass, unpass, map_of, sign, unsign}
use Rattle.wy_parser.proofs.Levels.{bare, lower_placed}
use Rattle.wy_parser.proofs.TypeReaders.{made_type, made_signature}
use Rattle.wy_parser.proofs.ExprReaders.{expr_behind, arg_behind, ChoiceRest, Choices, choice_to, arg_from, made_choice_rest, AllExprs, all_exprs}

abbrev pub block_behind : List ℕ
block_behind = stmt_first ++ 64 ∷ []

-- ---- parts and literals

abbrev pub listed_parts : PartTrees → List PartTree
listed_parts no_parts = []
listed_parts (more_parts p ps) = p ∷ listed_parts ps

pub parts_back : (ps : PartTrees) → parts_of (listed_parts ps) ≡ ps
parts_back no_parts = refl
parts_back (more_parts p ps) = ap (λ (r : PartTrees). more_parts p r) (parts_back ps)

pub parts_to : (plain : Bool) (ps : List PartTree) (u : List Tok) → Each (λ p u. SpellsPart plain p u) ps u → SpellsParts plain (parts_of ps) u
parts_to plain [] u s = s
parts_to plain (p ∷ ps) u s = record { front = s.front; back = s.back; parts = s.parts; first = s.first; second = parts_to plain ps s.back s.second }

pub parts_from : (plain : Bool) (ps : PartTrees) (u : List Tok) → SpellsParts plain ps u → Each (λ p u. SpellsPart plain p u) (listed_parts ps) u
parts_from plain no_parts u s = s
parts_from plain (more_parts p ps) u s = record { front = s.front; back = s.back; parts = s.parts; first = s.first; second = parts_from plain ps s.back s.second }

-- any number of parts as one tree
pub made_parts : (plain : Bool) (part part' : R PartTree) (n n' m : ℕ) → n ≤ n' → m ≤ n → Made part part' (λ p u. SpellsPart plain p u) part_first (64 ∷ []) false m → Made (each part_first part n >>= λ ps. ret (parts_of ps)) (each part_first part' n' >>= λ ps. ret (parts_of ps)) (λ ps u. SpellsParts plain ps u) part_first (part_first ++ 64 ∷ []) true m
made_parts plain part part' n n' m h k P = become (map_to (λ ps. parts_of ps) (made_each n n' h k P refl))
    (λ z u s. subst (λ (y : PartTrees). SpellsParts plain y u) (sym s.is) (parts_to plain s.value u s.spelled))
    (λ z u s. map_of (listed_parts z) (sym (parts_back z)) (parts_from plain z u s)) refl

pub made_parts_inside : (plain : Bool) (part part' : R PartTree) (n n' m : ℕ) → n ≤ n' → m ≤ n → Made part part' (λ p u. SpellsPart plain p u) part_first (64 ∷ []) false m → Made (parts_inside part n) (parts_inside part' n') (λ ps u. Indented (ps ≡ no_parts) (SpellsParts plain ps) u) (64 ∷ []) (64 ∷ []) true m
unfolding parts_inside
made_parts_inside plain part part' n n' m h k P = become (alt (64 ∷ []) (
    seq (made_mark 64 m refl) (λ k0.
    seq (made_each n n' h k P refl) (λ ps.
    map_to (λ k2. parts_of ps) (made_mark 65 m refl)) refl) refl) (give no_parts m) refl)
    (λ z u s. elim s [
      | inl t ↦ subst (λ (y : PartTrees). Indented (y ≡ no_parts) (SpellsParts plain y) u) (sym t.second.second.is) (inr (pass t (sign t.first) (pass t.second (parts_to plain t.second.value t.second.front t.second.first) (sign t.second.second.spelled))))
      | inr t ↦ inl (t.same, t.empty)
    ])
    (λ z u s. elim s [
      | inl t ↦ inr (record { same = t.0; empty = t.1 })
      | inr t ↦ inl (unpass t t.first.token.place (unsign t.first) (unpass t.second (listed_parts z) (parts_from plain z t.second.front t.second.first) (map_of t.second.second.token.place (sym (parts_back z)) (unsign t.second.second))))
    ]) refl

abbrev Literal : Bool → RhsTree → List Tok → Type 0
Literal plain = SeqOf (λ q. Mark kind.KwNew q) (λ p. SeqOf (λ q. Mark kind.Nl q) (λ l. MapOf (λ ps. literal p ps) (λ ps u. Indented (ps ≡ no_parts) (SpellsParts plain ps) u)))

made_literal : (plain : Bool) (part part' : R PartTree) (n n' m : ℕ) → n ≤ n' → m ≤ n → Made part part' (λ p u. SpellsPart plain p u) part_first (64 ∷ []) false m → Made (literal_of part n) (literal_of part' n') (Literal plain) (21 ∷ []) (64 ∷ []) false m
unfolding literal_of
made_literal plain part part' n n' m h k P =
    seq (made_mark 21 m refl) (λ p.
    seq (made_mark 63 m refl) (λ k1.
    map_to (λ ps. literal p ps) (made_parts_inside plain part part' n n' m h k P)) refl) refl

literal_to : (plain : Bool) (k : ℕ) (z : RhsTree) (u : List Tok) → Literal plain z u → SpellsRhs plain k z u
literal_to plain k z u s = subst (λ y. SpellsRhs plain k y u) (sym s.second.second.is) (pass s s.first (pass s.second (sign s.second.first) s.second.second.spelled))

-- ---- an `if`

made_indented_block : (plain : Bool) (block block' : R StmtTrees) (m : ℕ) → Made block block' (λ b u. SpellsBlock plain b u) stmt_first block_behind false m → Made (indented_block block) (indented_block block') (λ b u. Lines (SpellsBlock plain b) u) (64 ∷ []) [] false m
unfolding indented_block
made_indented_block plain block block' m B = become (
    seq (made_mark 64 m refl) (λ k0.
    seq (B) (λ b.
    map_to (λ k2. b) (made_mark 65 m refl)) refl) refl)
    (λ z u s. subst (λ y. Lines (SpellsBlock plain y) u) (sym s.second.second.is) (pass s (sign s.first) (pass s.second s.second.first (sign s.second.second.spelled))))
    (λ z u s. (unpass s s.first.token.place (unsign s.first) (unpass s.second z s.second.first (map_of s.second.second.token.place refl (unsign s.second.second))))) refl

abbrev BranchRest : Bool → Place → ExprTree → RhsTree → List Tok → Type 0
BranchRest plain p c = SeqOf (λ q. Mark kind.Nl q) (λ k0. SeqOf (λ b u. Lines (SpellsBlock plain b) u) (λ a. SeqOf (λ q. Mark kind.KwElse q) (λ k2. SeqOf (λ q. Mark kind.Nl q) (λ k3. MapOf (λ b. branch p c a b) (λ b u. Lines (SpellsBlock plain b) u)))))

made_branch_rest : (plain : Bool) (p : Place) (c : ExprTree) (block block' : R StmtTrees) (m : ℕ) → Made block block' (λ b u. SpellsBlock plain b u) stmt_first block_behind false m → Made (branch_rest block p c) (branch_rest block' p c) (BranchRest plain p c) (63 ∷ []) [] false m
unfolding branch_rest
made_branch_rest plain p c block block' m B =
    seq (made_mark 63 m refl) (λ k0.
    seq (made_indented_block plain block block' m B) (λ a.
    seq (made_mark 24 m refl) (λ k2.
    seq (made_mark 63 m refl) (λ k3.
    map_to (λ b. branch p c a b) (made_indented_block plain block block' m B)) refl) refl) refl) refl

-- a choice and its line's end
abbrev ChoiceLine : Bool → Place → ExprTree → RhsTree → List Tok → Type 0
ChoiceLine plain p c = SeqOf (ChoiceRest plain p c) (λ e. MapOf (λ l. value e) (λ q. Mark kind.Nl q))

abbrev Ifs : Bool → RhsTree → List Tok → Type 0
Ifs plain = SeqOf (λ q. Mark kind.KwIf q) (λ p. SeqOf (λ e u. SpellsExpr plain 1 e u) (λ c. Or (ChoiceLine plain p c) (BranchRest plain p c)))

made_if : (plain : Bool) (expr expr' arg arg' : R ExprTree) (block block' : R StmtTrees) (m : ℕ) → Made expr expr' (λ e u. SpellsExpr plain 1 e u) expr_first expr_behind false m → Made arg arg' (λ e u. SpellsExpr plain 0 e u) arg_first arg_behind false m → Made block block' (λ b u. SpellsBlock plain b u) stmt_first block_behind false (m - 1) → Made (if_of expr arg block) (if_of expr' arg' block') (Ifs plain) (22 ∷ []) [] false m
unfolding if_of
made_if plain expr expr' arg arg' block block' m E A B =
    behind (made_mark 22 m refl) (λ p.
    seq (less E (omega arith)) (λ c.
    alt (23 ∷ []) (seq (made_choice_rest plain p c arg arg' (m - 1) (less A (omega arith))) (λ e. map_to (λ l. value e) (made_mark 63 (m - 1) refl)) refl) (made_branch_rest plain p c block block' (m - 1) B) refl) refl) refl

abbrev ExprLine : Bool → ℕ → RhsTree → List Tok → Type 0
ExprLine plain k = SeqOf (λ e u. SpellsExpr plain k e u) (λ e. MapOf (λ l. value e) (λ q. Mark kind.Nl q))

made_expr_line : (plain : Bool) (expr expr' : R ExprTree) (m : ℕ) → Made expr expr' (λ e u. SpellsExpr plain 1 e u) expr_first expr_behind false m → Made (expr_line expr) (expr_line expr') (ExprLine plain 1) expr_first [] false m
unfolding expr_line
made_expr_line plain expr expr' m E = seq E (λ e. map_to (λ l. value e) (made_mark 63 m refl)) refl

if_to : (plain : Bool) (z : RhsTree) (u : List Tok) → Ifs plain z u → SpellsRhs plain 0 z u
if_to plain z u s = go s.second.second
  where
    line : (t : ChoiceLine plain s.value s.second.value z s.second.back) → SpellsRhs plain 0 (value t.value) u
    line t = record {
      front = s.front ++ (s.second.front ++ t.front);
      back = t.back;
      parts = s.parts ∙ ap (λ (w : List Tok). s.front ++ w) (s.second.parts ∙ ap (λ (w : List Tok). s.second.front ++ w) t.parts ∙ sym (append_assoc s.second.front t.front t.back)) ∙ sym (append_assoc s.front (s.second.front ++ t.front) t.back);
      first = choice_to plain t.value (s.front ++ (s.second.front ++ t.front)) (record {
        value = s.value;
        front = s.front;
        back = s.second.front ++ t.front;
        parts = refl;
        first = s.first;
        second = record { value = s.second.value; front = s.second.front; back = t.front; parts = refl; first = s.second.first; second = t.first };
      });
      second = sign t.second.spelled;
    }

    go : Or (ChoiceLine plain s.value s.second.value) (BranchRest plain s.value s.second.value) z s.second.back → SpellsRhs plain 0 z u
    go (inl t) = subst (λ (y : RhsTree). SpellsRhs plain 0 y u) (sym t.second.is) (line t)
    go (inr t) = subst (λ (y : RhsTree). SpellsRhs plain 0 y u) (sym t.second.second.second.second.is) (refl, pass s s.first (pass s.second s.second.first (pass t (sign t.first) (pass t.second t.second.first (pass t.second.second (sign t.second.second.first) (pass t.second.second.second (sign t.second.second.second.first) t.second.second.second.second.spelled))))))

-- ---- right sides

rhs_to : (plain : Bool) (z : RhsTree) (u : List Tok) → Or (Literal plain) (Or (Ifs plain) (ExprLine plain 1)) z u → SpellsRhs plain 0 z u
rhs_to plain z u (inl s) = literal_to plain 0 z u s
rhs_to plain z u (inr (inl s)) = if_to plain z u s
rhs_to plain z u (inr (inr s)) = subst (λ (y : RhsTree). SpellsRhs plain 0 y u) (sym s.second.is) (pass s (lower_placed plain s.value 1 0 s.front (omega arith) s.first) (sign s.second.spelled))

rhs_from : (plain : Bool) (z : RhsTree) (u : List Tok) → SpellsRhs plain 0 z u → Or (Literal plain) (Or (Ifs plain) (ExprLine plain 1)) z u
rhs_from plain (literal p ps) u s = inl (unpass s p s.first (unpass s.second s.second.first.token.place (unsign s.second.first) (map_of ps refl s.second.second)))
rhs_from plain (branch p c a b) u w = let s = w.1 in inr (inl (unpass s p s.first (unpass s.second c s.second.first (inr (unpass s.second.second s.second.second.first.token.place (unsign s.second.second.first) (unpass s.second.second.second a s.second.second.second.first (unpass s.second.second.second.second s.second.second.second.second.first.token.place (unsign s.second.second.second.second.first) (unpass s.second.second.second.second.second s.second.second.second.second.second.first.token.place (unsign s.second.second.second.second.second.first) (map_of b refl s.second.second.second.second.second.second)))))))))
rhs_from plain (value e) u s = go (arg_from plain e s.front s.first)
  where
    go : Or (Choices plain) (λ e u. SpellsExpr plain 1 e u) e s.front → Or (Literal plain) (Or (Ifs plain) (ExprLine plain 1)) (value e) u
    go (inr t) = inr (inr (unpass s e t (map_of s.second.token.place refl (unsign s.second))))
    go (inl t) = inr (inl (record {
      value = t.value;
      front = t.front;
      back = t.back ++ s.back;
      parts = s.parts ∙ ap (λ (w : List Tok). w ++ s.back) t.parts ∙ append_assoc t.front t.back s.back;
      first = t.first;
      second = record {
        value = t.second.value;
        front = t.second.front;
        back = t.second.back ++ s.back;
        parts = ap (λ (w : List Tok). w ++ s.back) t.second.parts ∙ append_assoc t.second.front t.second.back s.back;
        first = t.second.first;
        second = inl (record { value = e; front = t.second.back; back = s.back; parts = refl; first = t.second.second; second = map_of s.second.token.place refl (unsign s.second) });
      };
    }))

pub made_rhs : (plain : Bool) (expr expr' arg arg' : R ExprTree) (block block' : R StmtTrees) (part part' : R PartTree) (n n' m : ℕ) → n ≤ n' → m ≤ n → Made expr expr' (λ e u. SpellsExpr plain 1 e u) expr_first expr_behind false m → Made arg arg' (λ e u. SpellsExpr plain 0 e u) arg_first arg_behind false m → Made block block' (λ b u. SpellsBlock plain b u) stmt_first block_behind false (m - 1) → Made part part' (λ p u. SpellsPart plain p u) part_first (64 ∷ []) false m → Made (rhs expr arg block part n) (rhs expr' arg' block' part' n') (λ r u. SpellsRhs plain 0 r u) rhs_first (64 ∷ []) false m
unfolding rhs
made_rhs plain expr expr' arg arg' block block' part part' n n' m h k E A B P = become
    (alt (21 ∷ []) (made_literal plain part part' n n' m h k P) (alt (22 ∷ []) (made_if plain expr expr' arg arg' block block' m E A B) (made_expr_line plain expr expr' m E) refl) refl)
    (rhs_to plain) (rhs_from plain) refl

untyped_to : (plain : Bool) (z : RhsTree) (u : List Tok) → Or (Literal plain) (ExprLine plain 1) z u → SpellsRhs plain 1 z u
untyped_to plain z u (inl s) = literal_to plain 1 z u s
untyped_to plain z u (inr s) = subst (λ (y : RhsTree). SpellsRhs plain 1 y u) (sym s.second.is) (pass s s.first (sign s.second.spelled))

untyped_from : (plain : Bool) (z : RhsTree) (u : List Tok) → SpellsRhs plain 1 z u → Or (Literal plain) (ExprLine plain 1) z u
untyped_from plain (literal p ps) u s = inl (unpass s p s.first (unpass s.second s.second.first.token.place (unsign s.second.first) (map_of ps refl s.second.second)))
untyped_from plain (branch p c a b) u w = let e = w.0 in absurd (omega arith)
untyped_from plain (value e) u s = inr (unpass s e s.first (map_of s.second.token.place refl (unsign s.second)))

pub made_untyped : (plain : Bool) (expr expr' : R ExprTree) (part part' : R PartTree) (n n' m : ℕ) → n ≤ n' → m ≤ n → Made expr expr' (λ e u. SpellsExpr plain 1 e u) expr_first expr_behind false m → Made part part' (λ p u. SpellsPart plain p u) part_first (64 ∷ []) false m → Made (untyped_rhs expr part n) (untyped_rhs expr' part' n') (λ r u. SpellsRhs plain 1 r u) (21 ∷ expr_first) (64 ∷ []) false m
unfolding untyped_rhs
made_untyped plain expr expr' part part' n n' m h k E P = become
    (alt (21 ∷ []) (made_literal plain part part' n n' m h k P) (made_expr_line plain expr expr' m E) refl)
    (untyped_to plain) (untyped_from plain) refl

-- ---- statements

abbrev TypedVal : Bool → Name → StmtTree → List Tok → Type 0
TypedVal plain w = SeqOf (λ q. Mark kind.SymColon q) (λ k0. SeqOf (λ t u. SpellsType plain t u) (λ t. SeqOf (λ q. Mark kind.SymEqual q) (λ k2. MapOf (λ r. val w (Some t) r) (λ r u. SpellsRhs plain 0 r u))))

abbrev UntypedVal : Bool → Name → StmtTree → List Tok → Type 0
UntypedVal plain w = SeqOf (λ q. Mark kind.SymEqual q) (λ k0. MapOf (λ r. val w None r) (λ r u. SpellsRhs plain 1 r u))

abbrev Vals : Bool → StmtTree → List Tok → Type 0
Vals plain = SeqOf (λ q. Mark kind.KwVal q) (λ p. SeqOf (λ w. Word w) (λ w. Or (TypedVal plain w) (UntypedVal plain w)))

made_typed : (plain : Bool) (right right' : R RhsTree) (w : Name) (n n' m : ℕ) → n ≤ n' → m ≤ n → Made right right' (λ r u. SpellsRhs plain 0 r u) rhs_first (64 ∷ []) false m → Made (typed_val plain right w n) (typed_val plain right' w n') (TypedVal plain w) (45 ∷ []) (64 ∷ []) false m
unfolding typed_val
made_typed plain right right' w n n' m h k Q =
    seq (made_mark 45 m refl) (λ k0.
    seq (made_type plain n n' m h k) (λ t.
    seq (made_mark 47 m refl) (λ k2.
    map_to (λ r. val w (Some t) r) (Q)) refl) refl) refl

made_free : (plain : Bool) (free free' : R RhsTree) (w : Name) (m : ℕ) → Made free free' (λ r u. SpellsRhs plain 1 r u) (21 ∷ expr_first) (64 ∷ []) false m → Made (untyped_val free w) (untyped_val free' w) (UntypedVal plain w) (47 ∷ []) (64 ∷ []) false m
unfolding untyped_val
made_free plain free free' w m Q =
    seq (made_mark 47 m refl) (λ k0.
    map_to (λ r. val w None r) (Q)) refl

made_val : (plain : Bool) (right right' free free' : R RhsTree) (n n' m : ℕ) → n ≤ n' → m ≤ n → Made right right' (λ r u. SpellsRhs plain 0 r u) rhs_first (64 ∷ []) false (m - 1) → Made free free' (λ r u. SpellsRhs plain 1 r u) (21 ∷ expr_first) (64 ∷ []) false (m - 1) → Made (val_of plain right free n) (val_of plain right' free' n') (Vals plain) (18 ∷ []) (64 ∷ []) false m
unfolding val_of
made_val plain right right' free free' n n' m h k Q W =
    become (behind (made_mark 18 m refl) (λ p. seq (made_word (m - 1)) (λ w. alt (45 ∷ []) (made_typed plain right right' w n n' (m - 1) h (omega arith) Q) (made_free plain free free' w (m - 1) W) refl) refl) refl)
    (λ z u s. s) (λ z u s. s) refl

abbrev Assigns : Bool → StmtTree → List Tok → Type 0
Assigns plain = SeqOf (λ w. Word w) (λ w. SeqOf (λ q. Mark kind.SymEqual q) (λ k1. MapOf (λ r. assign w r) (λ r u. SpellsRhs plain 0 r u)))

abbrev AssignRest : Bool → Name → StmtTree → List Tok → Type 0
AssignRest plain w = SeqOf (λ q. Mark kind.SymEqual q) (λ k1. MapOf (λ r. assign w r) (λ r u. SpellsRhs plain 0 r u))

made_assign_rest : (plain : Bool) (right right' : R RhsTree) (w : Name) (m : ℕ) → Made right right' (λ r u. SpellsRhs plain 0 r u) rhs_first (64 ∷ []) false m → Made (mark 47 >>= λ e. right >>= λ r. ret (assign w r)) (mark 47 >>= λ e. right' >>= λ r. ret (assign w r)) (AssignRest plain w) (47 ∷ []) (64 ∷ []) false m
made_assign_rest plain right right' w m Q = seq (made_mark 47 m refl) (λ e. map_to (λ r. assign w r) Q) refl

made_assign : (plain : Bool) (right right' : R RhsTree) (m : ℕ) → Made right right' (λ r u. SpellsRhs plain 0 r u) rhs_first (64 ∷ []) false (m - 1) → Made (assign_of right) (assign_of right') (Assigns plain) (1 ∷ []) (64 ∷ []) false m
unfolding assign_of
made_assign plain right right' m Q = behind (made_word m) (λ w. made_assign_rest plain right right' w (m - 1) Q) refl

-- ---- a name and `=`, against an expression that begins with a name

same_tail : (x : Tok) (u r : List Tok) → r ≡ u ++ x ∷ r → ⊥
same_tail x u r e =
    let a : length r ≡ length (u ++ x ∷ r) = ap (λ (w : List Tok). length w) e in
    let b : length (u ++ x ∷ r) ≡ length u + length (x ∷ r) = length-append u (x ∷ r) in
    absurd (omega (arith, a, b))

nil_front : (x : Tok) (u r : List Tok) → x ∷ r ≡ u ++ x ∷ r → u ≡ []
nil_front x [] r e = refl
nil_front x (y ∷ u) r e = absurd (same_tail x u r (tails x y r (u ++ x ∷ r) e))
  where
    tails : (x y : Tok) (a b : List Tok) → x ∷ a ≡ y ∷ b → a ≡ b
    tails x y a b e = cc

abbrev halted : {A : Type 0} → List Tok → Out Tok A
halted s = No s

no_same : {A : Type 0} (s w : List Tok) → halted {A = A} s ≡ No w → s ≡ w
no_same s w e = cc

-- what the statement asks of the expressions in it
pub record Alert (plain : Bool) (expr : R ExprTree) : Type 0 where
  pub halts : (x : Tok) (r : List Tok) → member (code x) (1 ∷ []) ≡ true → expr (x ∷ r) ≡ No (x ∷ r) → ⊥
  pub takes : (x : Tok) (r : List Tok) (e : ExprTree) → expr (x ∷ r) ≡ Yes e (x ∷ r) → ⊥

abbrev given : ExprTree → List Tok → Out Tok ExprTree
given e r = Yes e r

yes_gives : (e e' : ExprTree) (r r' : List Tok) → given e r ≡ Yes e' r' → (e ≡ e') × (r ≡ r')
yes_gives e e' r r' h = (cc, cc)

ends : Tok
ends = token_at 66

name_alone : (plain : Bool) (k : ℕ) (x : Tok) → k ≤ 8 → member (code x) (1 ∷ []) ≡ true → SpellsExpr plain k (name (name_at x)) (x ∷ [])
name_alone plain k x h e = bare plain k (name (name_at x)) (x ∷ []) (h, record { token = x; only = refl; kind = name_is x.kind (is_member (code x) 1 e); place = refl })

pub alert : (plain : Bool) (n : ℕ) → Alert plain (p_expr plain n)
alert plain n = record { halts = λ x r h e. halts x r h e; takes = λ x r t e. takes x r t e }
  where
    far : AllExprs plain n (n + 4)
    far = all_exprs plain n (n + 4) (omega arith)

    deep : AllExprs plain (n + 4) (n + 4)
    deep = all_exprs plain (n + 4) (n + 4) (omega arith)

    halts : (x : Tok) (r : List Tok) → member (code x) (1 ∷ []) ≡ true → p_expr plain n (x ∷ r) ≡ No (x ∷ r) → ⊥
    halts x r h e =
        let t = far.expr.is.no (x ∷ r) (x ∷ r) e in
        let u = nil_front x t.used r t.parts in
        let stopped : p_expr plain (n + 4) (x ∷ token_at 66 ∷ []) ≡ No (x ∷ token_at 66 ∷ []) = ap (λ (w : List Tok). p_expr plain (n + 4) (w ++ x ∷ token_at 66 ∷ [])) (sym u) ∙ t.again (x ∷ token_at 66 ∷ []) refl in
        let went = deep.expr.is.complete (name (name_at x)) (x ∷ []) (token_at 66 ∷ []) (name_alone plain 1 x (omega arith) h) (omega arith) refl in
        absurd (never_both (p_expr plain (n + 4) (x ∷ token_at 66 ∷ [])) (name (name_at x)) (token_at 66 ∷ []) (x ∷ token_at 66 ∷ []) went stopped)
      where
        never_both : (o : Out Tok ExprTree) (a : ExprTree) (r s : List Tok) → o ≡ Yes a r → o ≡ No s → ⊥
        never_both o a r s e h = apart_is a r s (sym e ∙ h)
          where
            apart_is : (a : ExprTree) (r s : List Tok) → given a r ≡ No s → ⊥
            apart_is a r s e = absurd cc

    takes : (x : Tok) (r : List Tok) (e : ExprTree) → p_expr plain n (x ∷ r) ≡ Yes e (x ∷ r) → ⊥
    takes x r e h =
        let t = far.expr.is.yes (x ∷ r) (x ∷ r) e h in
        let u = nil_front x t.used r t.parts in
        let b = deep.expr.is.begins e [] (subst (λ (w : List Tok). SpellsExpr plain 1 e w) u t.spelled) (omega arith) in
        absurd cc

-- no Arg begins with a name and `=`
no_assignment : (plain : Bool) (e : ExprTree) (front r : List Tok) (t : Tok) → SpellsExpr plain 0 e front → code t ≡ 63 → starts2 code (1 ∷ []) (47 ∷ []) (front ++ t ∷ r) ≡ false
no_assignment plain e front r t s c = not_true (starts2 code (1 ∷ []) (47 ∷ []) (front ++ t ∷ r)) (λ h. two (front ++ t ∷ r) refl h)
  where
    not_true : (b : Bool) → (b ≡ true → ⊥) → b ≡ false
    not_true true f = absurd (f refl)
    not_true false f = refl

    both : (a b : Bool) → (a && b) ≡ true → (a ≡ true) × (b ≡ true)
    both true b e = (refl, e)
    both false b e = absurd cc

    heads : (x y : Tok) (a b : List Tok) → x ∷ a ≡ y ∷ b → x ≡ y
    heads x y a b e = cc

    out : (j : ℕ) (C : List ℕ) (x : Tok) (r : List Tok) → member j C ≡ false → code x ≡ j → Stops Tok code 66 C (x ∷ r)
    out j C x r m e = subst (λ (i : ℕ). member i C ≡ false) (sym e) m

    two : (w : List Tok) → front ++ t ∷ r ≡ w → starts2 code (1 ∷ []) (47 ∷ []) w ≡ true → ⊥
    two [] e' h = absurd cc
    two (x ∷ []) e' h = absurd cc
    two (x ∷ y ∷ rest) e' h =
        let k = both (member (code x) (1 ∷ [])) (member (code y) (47 ∷ [])) h in
        let n = length front + 5 in
        let deep = all_exprs plain n n (omega arith) in
        let one = deep.arg.is.complete e front (t ∷ r) s (omega arith) (out 63 arg_behind t r refl c) in
        let other = deep.arg.is.complete (name (name_at x)) (x ∷ []) (y ∷ rest) (name_alone plain 0 x (omega arith) k.0) (omega arith) (out 47 arg_behind y rest refl (is_member (code y) 47 k.1)) in
        let same = yes_gives e (name (name_at x)) (t ∷ r) (y ∷ rest) (sym one ∙ ap (λ (w : List Tok). p_arg plain n w) e' ∙ other) in
        let cs : code t ≡ code y = ap (λ (z : Tok). code z) (heads t y r rest same.1) in
        let cy : code y ≡ 47 = is_member (code y) 47 k.1 in
        omega (arith, cs, cy, c)

-- what begins with a mark is not empty, and begins with no name
no_name : {k : TokenKind} {p : Place} {Q : List Tok → Type 0} (u r : List Tok) → Then (Mark k p) Q u → member (code_of k) (1 ∷ []) ≡ false → starts2 code (1 ∷ []) (47 ∷ []) (u ++ r) ≡ false
no_name {k} u r s e = ap (λ (w : List Tok). starts2 code (1 ∷ []) (47 ∷ []) (w ++ r)) (s.parts ∙ ap (λ (w : List Tok). w ++ s.back) s.first.only) ∙ first (s.back ++ r)
  where
    and_false : (a b : Bool) → a ≡ false → (a && b) ≡ false
    and_false true b e = absurd cc
    and_false false b e = refl

    first : (w : List Tok) → starts2 code (1 ∷ []) (47 ∷ []) (s.first.token ∷ w) ≡ false
    first [] = refl
    first (y ∷ w) = and_false (member (code s.first.token) (1 ∷ [])) (member (code y) (47 ∷ [])) (ap (λ (z : TokenKind). member (code_of z) (1 ∷ [])) s.first.kind ∙ e)

rhs_names_nothing : (plain : Bool) (z : RhsTree) (u r : List Tok) → SpellsRhs plain 0 z u → starts2 code (1 ∷ []) (47 ∷ []) (u ++ r) ≡ false
rhs_names_nothing plain (literal p ps) u r s = no_name u r s refl
rhs_names_nothing plain (branch p c a b) u r s = no_name u r s.1 refl
rhs_names_nothing plain (value e) u r s =
    ap (λ (w : List Tok). starts2 code (1 ∷ []) (47 ∷ []) w) (ap (λ (w : List Tok). w ++ r) (s.parts ∙ ap (λ (w : List Tok). s.front ++ w) s.second.only) ∙ append_assoc s.front (s.second.token ∷ []) r)
    ∙ no_assignment plain e s.front r s.second.token s.first (ap (λ (z : TokenKind). code_of z) s.second.kind)

none_is_one : (x : Tok) (a b : List Tok) → [] ≡ a ++ b → (a ≡ x ∷ [] → ⊥) × (b ≡ x ∷ [] → ⊥)
none_is_one x [] b e = ((λ h. absurd cc), λ h. let k = e ∙ h in absurd cc)
none_is_one x (y ∷ a) b e = absurd cc

rhs_is_not_empty : (plain : Bool) (z : RhsTree) → SpellsRhs plain 0 z [] → ⊥
rhs_is_not_empty plain (literal p ps) s = (none_is_one s.first.token s.front s.back s.parts).0 s.first.only
rhs_is_not_empty plain (branch p c a b) s = (none_is_one s.1.first.token s.1.front s.1.back s.1.parts).0 s.1.first.only
rhs_is_not_empty plain (value e) s = (none_is_one s.second.token s.front s.back s.parts).1 s.second.only

abbrev Runs : Bool → StmtTree → List Tok → Type 0
Runs plain = MapOf (λ r. run r) (λ r u. SpellsRhs plain 0 r u)

assign_two : (plain : Bool) (z : StmtTree) (u r : List Tok) → Assigns plain z u → starts2 code (1 ∷ []) (47 ∷ []) (u ++ r) ≡ true
assign_two plain z u r s =
    let e : u ++ r ≡ s.first.token ∷ s.second.first.token ∷ (s.second.back ++ r) = ap (λ (w : List Tok). w ++ r) (s.parts ∙ ap (λ (w : List Tok). w ++ s.back) s.first.only ∙ ap (λ (w : List Tok). s.first.token ∷ w) (s.second.parts ∙ ap (λ (w : List Tok). w ++ s.second.back) s.second.first.only)) in
    ap (λ (w : List Tok). starts2 code (1 ∷ []) (47 ∷ []) w) e ∙ test (code s.first.token) (code s.second.first.token) (ap (λ (z : TokenKind). code_of z) s.first.kind) (ap (λ (z : TokenKind). code_of z) s.second.first.kind)
  where
    test : (a b : ℕ) → a ≡ 1 → b ≡ 47 → (member a (1 ∷ []) && member b (47 ∷ [])) ≡ true
    test a b e h = ap (λ (i : ℕ). member i (1 ∷ []) && member b (47 ∷ [])) e ∙ ap (λ (i : ℕ). member i (47 ∷ [])) h

-- a reader of statements that begins with a name does not stop at it
assign_alert : (plain : Bool) (right right' : R RhsTree) (m : ℕ) → Made right right' (λ r u. SpellsRhs plain 0 r u) rhs_first (64 ∷ []) false (m - 1) → (x : Tok) (r : List Tok) → member (code x) (1 ∷ []) ≡ true → assign_of right (x ∷ r) ≡ No (x ∷ r) → ⊥
unfolding assign_of
assign_alert plain right right' m Q x r h e =
    let k : (mark 47 >>= λ q. right >>= λ z. ret (assign (name_at x) z)) r ≡ No (x ∷ r) = sym (taken (member (code x) (1 ∷ [])) h) ∙ e in
    let t = (made_assign_rest plain right right' (name_at x) (m - 1) Q).is.no r (x ∷ r) k in
    same_tail x t.used r t.parts
  where
    rest : Tok → List Tok → Out Tok StmtTree
    rest y = mark 47 >>= λ q. right >>= λ z. ret (assign (name_at y) z)

    taken : (b : Bool) → b ≡ true → and_then (and_then (cond b (Yes x r) (No (x ∷ r))) (λ y s. Yes (name_at y) s)) (λ w s. (mark 47 >>= λ q. right >>= λ z. ret (assign w z)) s) ≡ (mark 47 >>= λ q. right >>= λ z. ret (assign (name_at x) z)) r
    taken true e = refl
    taken false e = absurd cc

run_alert : (plain : Bool) (expr arg : R ExprTree) (block : R StmtTrees) (part : R PartTree) (n : ℕ) → Alert plain expr → (x : Tok) (r : List Tok) → member (code x) (1 ∷ []) ≡ true → run_of (rhs expr arg block part n) (x ∷ r) ≡ No (x ∷ r) → ⊥
unfolding rhs expr_line
run_alert plain expr arg block parts n a x r h e = line (expr (x ∷ r)) refl (step (code x) (is_member (code x) 1 h) e)
  where
    stop : (o : Out Tok RhsTree) → and_then o (λ r s. Yes (run r) s) ≡ No (x ∷ r) → o ≡ No (x ∷ r)
    stop (Yes z s) e = absurd cc
    stop (No s) e = ap (λ (w : List Tok). halted w) (no_same s (x ∷ r) e)
    stop Deep e = absurd cc

    step : (c : ℕ) → c ≡ 1 → and_then (cond (member c (21 ∷ [])) (literal_of parts n (x ∷ r)) (cond (member c (22 ∷ [])) (if_of expr arg block (x ∷ r)) (and_then (expr (x ∷ r)) (λ e s. and_then (mark 63 s) (λ q w. Yes (value e) w))))) (λ r s. Yes (run r) s) ≡ No (x ∷ r) → and_then (expr (x ∷ r)) (λ e s. and_then (mark 63 s) (λ q w. Yes (value e) w)) ≡ No (x ∷ r)
    step c e h = stop _ (subst (λ (i : ℕ). and_then (cond (member i (21 ∷ [])) (literal_of parts n (x ∷ r)) (cond (member i (22 ∷ [])) (if_of expr arg block (x ∷ r)) (and_then (expr (x ∷ r)) (λ e s. and_then (mark 63 s) (λ q w. Yes (value e) w))))) (λ r s. Yes (run r) s) ≡ No (x ∷ r)) e h)

    ended : (s : List Tok) (z : ExprTree) → and_then (mark 63 s) (λ q w. Yes (value z) w) ≡ No (x ∷ r) → s ≡ x ∷ r
    ended [] z e = no_same [] (x ∷ r) e
    ended (y ∷ s) z e = go (member (code y) (63 ∷ [])) e
      where
        go : (b : Bool) → and_then (and_then (cond b (Yes y s) (No (y ∷ s))) (λ t w. Yes t.place w)) (λ q w. Yes (value z) w) ≡ No (x ∷ r) → y ∷ s ≡ x ∷ r
        go true e = absurd cc
        go false e = no_same (y ∷ s) (x ∷ r) e

    line : (o : Out Tok ExprTree) → expr (x ∷ r) ≡ o → and_then o (λ e s. and_then (mark 63 s) (λ q w. Yes (value e) w)) ≡ No (x ∷ r) → ⊥
    line (Yes z s) q e = a.takes x r z (q ∙ ap (λ (w : List Tok). given z w) (ended s z e))
    line (No s) q e = a.halts x r h (q ∙ ap (λ (w : List Tok). halted w) (no_same s (x ∷ r) e))
    line Deep q e = absurd cc

made_either : (plain : Bool) (right right' expr expr' arg arg' : _) (block block' : R StmtTrees) (part part' : R PartTree) (n n' m : ℕ) → n ≤ n' → m ≤ n → Alert plain expr → Made right right' (λ r u. SpellsRhs plain 0 r u) rhs_first (64 ∷ []) false (m - 1) → Made expr expr' (λ e u. SpellsExpr plain 1 e u) expr_first expr_behind false m → Made arg arg' (λ e u. SpellsExpr plain 0 e u) arg_first arg_behind false m → Made block block' (λ b u. SpellsBlock plain b u) stmt_first block_behind false (m - 1) → Made part part' (λ p u. SpellsPart plain p u) part_first (64 ∷ []) false m → Made (choose2 code (1 ∷ []) (47 ∷ []) (assign_of right) (run_of (rhs expr arg block part n))) (choose2 code (1 ∷ []) (47 ∷ []) (assign_of right') (run_of (rhs expr' arg' block' part' n'))) (Or (Assigns plain) (Runs plain)) rhs_first (64 ∷ []) false m
made_either plain right right' expr expr' arg arg' block block' part part' n n' m h k alert Q E A B P =
    let M1 = made_assign plain right right' m Q in
    let M2 = map_to (λ r. run r) (made_rhs plain expr expr' arg arg' block block' part part' n n' m h k E A B P) in
    record {
      is = exact-choose2 Tok code 66 (1 ∷ []) (47 ∷ []) (assign_of right) (assign_of right') (run_of (rhs expr arg block part n)) (run_of (rhs expr' arg' block' part' n')) (Assigns plain) (Runs plain) (1 ∷ []) (64 ∷ []) rhs_first (64 ∷ []) rhs_first (64 ∷ []) m M1.is M2.is
          (record {
            two = λ a u r s. assign_two plain a u r s;
            other = λ a u r s lt st. rhs_names_nothing plain s.value u r s.spelled;
            alert1 = λ x r t e. assign_alert plain right right' m Q x r t e;
            alert2 = λ x r t e. run_alert plain expr arg block part n alert x r t e;
            f1 = λ u b. begins_more Tok code 66 false false (1 ∷ []) rhs_first u refl refl b;
            f2 = λ u b. b;
            c1 = λ r s. s;
            c2 = λ r s. s;
          })
          (λ ts r a e s. (none_is_one s.first.token s.front s.back s.parts).0 s.first.only)
          (λ ts r a e s. rhs_is_not_empty plain s.value s.spelled);
      some = record { value = M1.some.value; text = M1.some.text; spelled = inl M1.some.spelled };
    }

stmt_to : (plain : Bool) (z : StmtTree) (u : List Tok) → Or (Vals plain) (Or (Assigns plain) (Runs plain)) z u → SpellsStmt plain z u
stmt_to plain z u (inl s) = go s.second.second
  where
    go : Or (TypedVal plain s.second.value) (UntypedVal plain s.second.value) z s.second.back → SpellsStmt plain z u
    go (inl t) = subst (λ (y : StmtTree). SpellsStmt plain y u) (sym t.second.second.second.is) (pass s (sign s.first) (pass s.second s.second.first (pass t (sign t.first) (pass t.second t.second.first (pass t.second.second (sign t.second.second.first) t.second.second.second.spelled)))))
    go (inr t) = subst (λ (y : StmtTree). SpellsStmt plain y u) (sym t.second.is) (pass s (sign s.first) (pass s.second s.second.first (pass t (sign t.first) t.second.spelled)))
stmt_to plain z u (inr (inl s)) = subst (λ y. SpellsStmt plain y u) (sym s.second.second.is) (pass s s.first (pass s.second (sign s.second.first) s.second.second.spelled))
stmt_to plain z u (inr (inr s)) = subst (λ (y : StmtTree). SpellsStmt plain y u) (sym s.is) s.spelled

stmt_from : (plain : Bool) (z : StmtTree) (u : List Tok) → SpellsStmt plain z u → Or (Vals plain) (Or (Assigns plain) (Runs plain)) z u
stmt_from plain (val w None r) u s = inl (unpass s s.first.token.place (unsign s.first) (unpass s.second w s.second.first (inr (unpass s.second.second s.second.second.first.token.place (unsign s.second.second.first) (map_of r refl s.second.second.second)))))
stmt_from plain (val w (Some t) r) u s = inl (unpass s s.first.token.place (unsign s.first) (unpass s.second w s.second.first (inl (unpass s.second.second s.second.second.first.token.place (unsign s.second.second.first) (unpass s.second.second.second t s.second.second.second.first (unpass s.second.second.second.second s.second.second.second.second.first.token.place (unsign s.second.second.second.second.first) (map_of r refl s.second.second.second.second.second)))))))
stmt_from plain (assign w r) u s = inr (inl (unpass s w s.first (unpass s.second s.second.first.token.place (unsign s.second.first) (map_of r refl s.second.second))))
stmt_from plain (run r) u s = inr (inr (map_of r refl s))

made_stmt : (plain : Bool) (right right' free free' : R RhsTree) (expr expr' arg arg' : R ExprTree) (block block' : R StmtTrees) (part part' : R PartTree) (n n' m : ℕ) → n ≤ n' → m ≤ n → Alert plain expr → Made right right' (λ r u. SpellsRhs plain 0 r u) rhs_first (64 ∷ []) false (m - 1) → Made free free' (λ r u. SpellsRhs plain 1 r u) (21 ∷ expr_first) (64 ∷ []) false (m - 1) → Made expr expr' (λ e u. SpellsExpr plain 1 e u) expr_first expr_behind false m → Made arg arg' (λ e u. SpellsExpr plain 0 e u) arg_first arg_behind false m → Made block block' (λ b u. SpellsBlock plain b u) stmt_first block_behind false (m - 1) → Made part part' (λ p u. SpellsPart plain p u) part_first (64 ∷ []) false m → Made (stmt plain right free (rhs expr arg block part n) n) (stmt plain right' free' (rhs expr' arg' block' part' n') n') (λ s u. SpellsStmt plain s u) stmt_first (64 ∷ []) false m
unfolding stmt
made_stmt plain right right' free free' expr expr' arg arg' block block' part part' n n' m h k alert Q W E A B P = become
    (alt (18 ∷ []) (made_val plain right right' free free' n n' m h k Q W) (made_either plain right right' expr expr' arg arg' block block' part part' n n' m h k alert Q E A B P) refl)
    (stmt_to plain) (stmt_from plain) refl

-- ---- blocks

block_to : (plain : Bool) (ss : List StmtTree) (u : List Tok) → Blocks Tok code 66 is_val (λ s u. SpellsStmt plain s u) ss u → SpellsBlock plain (stmts_of ss) u
block_to plain [] u s = absurd s
block_to plain (a ∷ []) u s = (s.1, s.0)
block_to plain (a ∷ b ∷ ss) u (front, back, parts, first, others) = record { front = front; back = back; parts = parts; first = first; second = block_to plain (b ∷ ss) back others }

abbrev listed_stmts : StmtTrees → List StmtTree
listed_stmts no_stmts = []
listed_stmts (more_stmts s ss) = s ∷ listed_stmts ss

stmts_back : (ss : StmtTrees) → stmts_of (listed_stmts ss) ≡ ss
stmts_back no_stmts = refl
stmts_back (more_stmts s ss) = ap (λ (r : StmtTrees). more_stmts s r) (stmts_back ss)

block_from : (plain : Bool) (ss : StmtTrees) (u : List Tok) → SpellsBlock plain ss u → Blocks Tok code 66 is_val (λ s u. SpellsStmt plain s u) (listed_stmts ss) u
block_from plain no_stmts u s = absurd s
block_from plain (more_stmts a no_stmts) u s = (s.1, s.0)
block_from plain (more_stmts a (more_stmts b ss)) u s = (s.front, s.back, s.parts, s.first, block_from plain (more_stmts b ss) s.back s.second)

-- some statement that may be the last
abbrev some_last : (plain : Bool) → Ending Tok code 66 is_val (λ s u. SpellsStmt plain s u)
some_last plain = record {
  value = run (value (name (name_at (token_at 1))));
  text = token_at 1 ∷ token_at 63 ∷ [];
  last = refl;
  spelled = record { front = token_at 1 ∷ []; back = token_at 63 ∷ []; parts = refl; first = name_alone plain 0 (token_at 1) (omega arith) refl; second = record { token = token_at 63; only = refl; kind = refl } };
}

made_block : (plain : Bool) (statement statement' : R StmtTree) (n n' m : ℕ) → n ≤ n' → m ≤ n → Made statement statement' (λ s u. SpellsStmt plain s u) stmt_first (64 ∷ []) false m → Made (block_of statement n) (block_of statement' n') (λ b u. SpellsBlock plain b u) stmt_first block_behind false m
unfolding block_of
made_block plain statement statement' n n' m h k M =
    let e = some_last plain in
    let B : Made (blocks code n stmt_first is_val statement) (blocks code n' stmt_first is_val statement') (Blocks Tok code 66 is_val (λ s u. SpellsStmt plain s u)) stmt_first block_behind false m = record {
      is = exact-blocks Tok code 66 stmt_first (64 ∷ []) block_behind m statement statement' (λ s u. SpellsStmt plain s u) is_val M.is e (record { f = refl; d = refl; fd = refl; cd = refl; clear = refl }) n n' m h k (omega arith);
      some = record { value = e.value ∷ []; text = e.text; spelled = (e.spelled, e.last) };
    } in
    become (map_to (λ ss. stmts_of ss) B)
    (λ z u s. subst (λ (y : StmtTrees). SpellsBlock plain y u) (sym s.is) (block_to plain s.value u s.spelled))
    (λ z u s. map_of (listed_stmts z) (sym (stmts_back z)) (block_from plain z u s)) refl

-- ---- bodies and parts

made_tail : (plain : Bool) (right right' : R RhsTree) (block block' : R StmtTrees) (m : ℕ) → Made right right' (λ r u. SpellsRhs plain 0 r u) rhs_first (64 ∷ []) false (m - 1) → Made block block' (λ b u. SpellsBlock plain b u) stmt_first block_behind false (m - 1) → Made (tail right block) (tail right' block') (λ b u. SpellsTail plain b u) (47 ∷ 63 ∷ []) (64 ∷ []) false m
unfolding tail
made_tail plain right right' block block' m Q B = become (alt (47 ∷ []) (
    behind (made_mark 47 m refl) (λ k0.
    map_to (λ r. short r) (Q)) refl) (
    behind (made_mark 63 m refl) (λ k0.
    map_to (λ b. long b) (made_indented_block plain block block' (m - 1) B)) refl) refl)
    (λ z u s. elim s [
      | inl t ↦ subst (λ y. SpellsTail plain y u) (sym t.second.is) (pass t (sign t.first) t.second.spelled)
      | inr t ↦ subst (λ y. SpellsTail plain y u) (sym t.second.is) (pass t (sign t.first) t.second.spelled)
    ])
    (λ z u s. from z u s) refl
  where
    from : (z : TailTree) (u : List Tok) → SpellsTail plain z u → Or (SeqOf (λ q. Mark kind.SymEqual q) (λ k0. MapOf (λ r. short r) (λ r u. SpellsRhs plain 0 r u))) (SeqOf (λ q. Mark kind.Nl q) (λ k0. MapOf (λ b. long b) (λ b u. Lines (SpellsBlock plain b) u))) z u
    from (short r) u s = inl (unpass s s.first.token.place (unsign s.first) (map_of r refl s.second))
    from (long b) u s = inr (unpass s s.first.token.place (unsign s.first) (map_of b refl s.second))

abbrev ValField : Bool → PartTree → List Tok → Type 0
ValField plain = SeqOf (λ q. Mark kind.KwVal q) (λ k0. SeqOf (λ w. Word w) (λ w. SeqOf (λ q. Mark kind.SymColon q) (λ k2. SeqOf (λ t u. SpellsType plain t u) (λ t. SeqOf (λ q. Mark kind.SymEqual q) (λ k4. MapOf (λ r. field fields.Val w t r) (λ r u. SpellsRhs plain 0 r u))))))

abbrev VarField : Bool → PartTree → List Tok → Type 0
VarField plain = SeqOf (λ q. Mark kind.KwVar q) (λ k0. SeqOf (λ w. Word w) (λ w. SeqOf (λ q. Mark kind.SymColon q) (λ k2. SeqOf (λ t u. SpellsType plain t u) (λ t. SeqOf (λ q. Mark kind.SymEqual q) (λ k4. MapOf (λ r. field fields.Var w t r) (λ r u. SpellsRhs plain 0 r u))))))

made_val_field : (plain : Bool) (right right' : R RhsTree) (n n' m : ℕ) → n ≤ n' → m ≤ n → Made right right' (λ r u. SpellsRhs plain 0 r u) rhs_first (64 ∷ []) false (m - 1) → Made (field_of plain 18 fields.Val right n) (field_of plain 18 fields.Val right' n') (ValField plain) (18 ∷ []) (64 ∷ []) false m
unfolding field_of
made_val_field plain right right' n n' m h k Q =
    behind (made_mark 18 m refl) (λ k0.
    seq (made_word (m - 1)) (λ w.
    seq (made_mark 45 (m - 1) refl) (λ k2.
    seq (made_type plain n n' (m - 1) h (omega arith)) (λ t.
    seq (made_mark 47 (m - 1) refl) (λ k4.
    map_to (λ r. field fields.Val w t r) (Q)) refl) refl) refl) refl) refl

made_var_field : (plain : Bool) (right right' : R RhsTree) (n n' m : ℕ) → n ≤ n' → m ≤ n → Made right right' (λ r u. SpellsRhs plain 0 r u) rhs_first (64 ∷ []) false (m - 1) → Made (field_of plain 19 fields.Var right n) (field_of plain 19 fields.Var right' n') (VarField plain) (19 ∷ []) (64 ∷ []) false m
unfolding field_of
made_var_field plain right right' n n' m h k Q =
    behind (made_mark 19 m refl) (λ k0.
    seq (made_word (m - 1)) (λ w.
    seq (made_mark 45 (m - 1) refl) (λ k2.
    seq (made_type plain n n' (m - 1) h (omega arith)) (λ t.
    seq (made_mark 47 (m - 1) refl) (λ k4.
    map_to (λ r. field fields.Var w t r) (Q)) refl) refl) refl) refl) refl

abbrev Methods : Bool → PartTree → List Tok → Type 0
Methods plain = SeqOf (λ s u. SpellsSignature plain s u) (λ s. MapOf (λ b. method s b) (λ b u. SpellsTail plain b u))

made_method : (plain : Bool) (right right' : R RhsTree) (block block' : R StmtTrees) (n n' m : ℕ) → n ≤ n' → m ≤ n → Made right right' (λ r u. SpellsRhs plain 0 r u) rhs_first (64 ∷ []) false (m - 1) → Made block block' (λ b u. SpellsBlock plain b u) stmt_first block_behind false (m - 1) → Made (method_of plain right block n) (method_of plain right' block' n') (Methods plain) (7 ∷ []) (64 ∷ []) false m
unfolding method_of
made_method plain right right' block block' n n' m h k Q B = seq (made_signature plain n n' m h k) (λ s. map_to (λ b. method s b) (made_tail plain right right' block block' m Q B)) refl

pub made_part : (plain : Bool) (right right' : R RhsTree) (block block' : R StmtTrees) (n n' m : ℕ) → n ≤ n' → m ≤ n → Made right right' (λ r u. SpellsRhs plain 0 r u) rhs_first (64 ∷ []) false (m - 1) → Made block block' (λ b u. SpellsBlock plain b u) stmt_first block_behind false (m - 1) → Made (part plain right block n) (part plain right' block' n') (λ p u. SpellsPart plain p u) part_first (64 ∷ []) false m
unfolding part
made_part plain right right' block block' n n' m h k Q B = become
    (alt (7 ∷ []) (made_method plain right right' block block' n n' m h k Q B) (alt (18 ∷ []) (made_val_field plain right right' n n' m h k Q) (made_var_field plain right right' n n' m h k Q) refl) refl)
    (λ z u s. to z u s) (λ z u s. from z u s) refl
  where
    to : (z : PartTree) (u : List Tok) → Or (Methods plain) (Or (ValField plain) (VarField plain)) z u → SpellsPart plain z u
    to z u (inl s) = subst (λ (y : PartTree). SpellsPart plain y u) (sym s.second.is) (pass s s.first s.second.spelled)
    to z u (inr (inl s)) = subst (λ y. SpellsPart plain y u) (sym s.second.second.second.second.second.is) (pass s (sign s.first) (pass s.second s.second.first (pass s.second.second (sign s.second.second.first) (pass s.second.second.second s.second.second.second.first (pass s.second.second.second.second (sign s.second.second.second.second.first) s.second.second.second.second.second.spelled)))))
    to z u (inr (inr s)) = subst (λ y. SpellsPart plain y u) (sym s.second.second.second.second.second.is) (pass s (sign s.first) (pass s.second s.second.first (pass s.second.second (sign s.second.second.first) (pass s.second.second.second s.second.second.second.first (pass s.second.second.second.second (sign s.second.second.second.second.first) s.second.second.second.second.second.spelled)))))

    from : (z : PartTree) (u : List Tok) → SpellsPart plain z u → Or (Methods plain) (Or (ValField plain) (VarField plain)) z u
    from (field fields.Val w t r) u s = inr (inl (unpass s s.first.token.place (unsign s.first) (unpass s.second w s.second.first (unpass s.second.second s.second.second.first.token.place (unsign s.second.second.first) (unpass s.second.second.second t s.second.second.second.first (unpass s.second.second.second.second s.second.second.second.second.first.token.place (unsign s.second.second.second.second.first) (map_of r refl s.second.second.second.second.second)))))))
    from (field fields.Var w t r) u s = inr (inr (unpass s s.first.token.place (unsign s.first) (unpass s.second w s.second.first (unpass s.second.second s.second.second.first.token.place (unsign s.second.second.first) (unpass s.second.second.second t s.second.second.second.first (unpass s.second.second.second.second s.second.second.second.second.first.token.place (unsign s.second.second.second.second.first) (map_of r refl s.second.second.second.second.second)))))))
    from (method x b) u s = inl (unpass s x s.first (map_of b refl s.second))

-- ---- at every depth

pub record AllStmts (plain : Bool) (n n' : ℕ) : Type 0 where
  pub rhs : Made (p_rhs plain n) (p_rhs plain n') (λ r u. SpellsRhs plain 0 r u) rhs_first (64 ∷ []) false (n - 2)
  pub block : Made (p_block plain n) (p_block plain n') (λ b u. SpellsBlock plain b u) stmt_first block_behind false (n - 2)

pub made_part_at : (plain : Bool) (n n' : ℕ) → n ≤ n' → AllStmts plain n n' → Made (part_at plain n) (part_at plain n') (λ p u. SpellsPart plain p u) part_first (64 ∷ []) false (n - 1)
made_part_at plain n n' h t = made_part plain (p_rhs plain n) (p_rhs plain n') (p_block plain n) (p_block plain n') n n' (n - 1) h (omega arith) (less t.rhs (omega arith)) (less t.block (omega arith))

pub made_tail_at : (plain : Bool) (n n' : ℕ) → AllStmts plain n n' → Made (tail_at plain n) (tail_at plain n') (λ b u. SpellsTail plain b u) (47 ∷ 63 ∷ []) (64 ∷ []) false (n - 1)
made_tail_at plain n n' t = made_tail plain (p_rhs plain n) (p_rhs plain n') (p_block plain n) (p_block plain n') (n - 1) (less t.rhs (omega arith)) (less t.block (omega arith))

pub all_stmts : (plain : Bool) (n n' : ℕ) → n ≤ n' → AllStmts plain n n'
unfolding p_rhs
all_stmts plain zero n' h =
    let e = some_last plain in
    record {
      rhs = made_never (p_rhs plain n') (record { value = value (name (name_at (token_at 1))); text = e.text; spelled = e.spelled });
      block = made_never (p_block plain n') (record { value = more_stmts e.value no_stmts; text = e.text; spelled = (e.last, e.spelled) });
    }
all_stmts plain (suc n) zero h = absurd (omega arith)
all_stmts plain (suc n) (suc n') h =
    let t = all_stmts plain n n' (omega arith) in
    let x = all_exprs plain n n' (omega arith) in
    let P = made_part_at plain n n' (omega arith) t in
    let right = less t.rhs (let q : n - 1 - 1 ≤ n - 2 = omega arith in q) in
    let block = less t.block (let q : n - 1 - 1 ≤ n - 2 = omega arith in q) in
    let W = made_untyped plain (p_expr plain n) (p_expr plain n') (part_at plain n) (part_at plain n') n n' (n - 1) (omega arith) (omega arith) x.expr P in
    let S = made_stmt plain (p_rhs plain n) (p_rhs plain n') (untyped_at plain n) (untyped_at plain n') (p_expr plain n) (p_expr plain n') (p_arg plain n) (p_arg plain n') (p_block plain n) (p_block plain n') (part_at plain n) (part_at plain n') n n' (n - 1) (omega arith) (omega arith) (alert plain n) right (less W (omega arith)) x.expr x.arg block P in
    record {
      rhs = less (made_rhs plain (p_expr plain n) (p_expr plain n') (p_arg plain n) (p_arg plain n') (p_block plain n) (p_block plain n') (part_at plain n) (part_at plain n') n n' (n - 1) (omega arith) (omega arith) x.expr x.arg block P) (omega arith);
      block = less (made_block plain (stmt_at plain n) (stmt_at plain n') n n' (n - 1) (omega arith) (omega arith) S) (omega arith);
    }
