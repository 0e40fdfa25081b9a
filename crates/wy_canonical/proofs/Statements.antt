-- Printed right sides, statements, parts and bodies.
use Rattle.std.proofs.Common.{◌≡◌, ℕ, suc, ◌≤◌, Bool, true, Some, None, List, [], ◌++◌, codes, refl, sym, ap, subst, ◌∙◌, arith, inl, inr}
use Rattle.wy_text.specs.declared.token.TokenKind.TheVariants as kind
use Rattle.wy_syntax.specs.declared.statements.FieldKind.{FieldKind}
use Rattle.wy_syntax.specs.declared.statements.FieldKind.TheVariants as fields
use Rattle.wy_syntax.specs.Tokens.{Tok}
use Rattle.wy_syntax.specs.Trees.{ExprTree, RhsTree, literal, branch, value, StmtTree, StmtTrees, val, assign, run, no_stmts, more_stmts, PartTree, PartTrees, field, method, no_parts, more_parts, TailTree, short, long}
use Rattle.wy_syntax.specs.Languages.{Lang, Sign, ◌⨟◌, Lines, Indented}
use Rattle.wy_syntax.specs.ExprGrammar.{SpellsExpr}
use Rattle.wy_syntax.specs.StmtGrammar.{field_word, is_val, SpellsRhs, SpellsStmt, SpellsBlock, SpellsPart, SpellsParts, SpellsTail}
use Rattle.wy_syntax.specs.Canonical.{newline, expr_text, type_text, signature_text, field_text, rhs_text, stmt_text, block_text, part_text, parts_text, tail_text}
use Rattle.wy_canonical.specs.Unplaced.{nowhere, bare_rhs, bare_stmt, bare_stmts, bare_part, bare_parts, bare_tail}
use Rattle.wy_canonical.proofs.PrintedWords.{closes, any}
use Rattle.wy_canonical.proofs.LineReading.{opens, opens_append}
use Rattle.wy_canonical.proofs.Source.{AllFair}
use Rattle.wy_canonical.proofs.Printing.{first_map, anew, group2, group3, group4, group6, group7, fair_front, fair_back, mark_of, Prints, seq, empty, word_of, blank, Again, name_again}
use Rattle.wy_canonical.proofs.Types.{equals, colon, type_again, signature_again}
use Rattle.wy_canonical.proofs.Expressions.{if_word, expr_again, value_again}
use Rattle.wy_canonical.proofs.Turning.{Ends, Inner, Led, OpenEnds, line_end, seq_turn, seq_end, turn_inner, turn_ends, conv_end, conv_inner, no_inner, no_lines, led, led_ups, conv_led, in_led, LedOr, nothing, line, ups_of, some_led, else_line}

-- ---- texts that end lines, of one to many parts

pub end2 : {n : ℕ} {u : List ℕ} {A1 A2 P : Lang} → Ends n u (λ Q. A1 ⨟ A2 ⨟ Q) → ((w : List Tok) → (A1 ⨟ A2) w → P w) → Ends n u (λ Q. P ⨟ Q)
end2 p f = conv_end p (λ Q w x. first_map f (group2 x))

pub end3 : {n : ℕ} {u : List ℕ} {A1 A2 A3 P : Lang} → Ends n u (λ Q. A1 ⨟ A2 ⨟ A3 ⨟ Q) → ((w : List Tok) → (A1 ⨟ A2 ⨟ A3) w → P w) → Ends n u (λ Q. P ⨟ Q)
end3 p f = conv_end p (λ Q w x. first_map f (group3 x))

pub end4 : {n : ℕ} {u : List ℕ} {A1 A2 A3 A4 P : Lang} → Ends n u (λ Q. A1 ⨟ A2 ⨟ A3 ⨟ A4 ⨟ Q) → ((w : List Tok) → (A1 ⨟ A2 ⨟ A3 ⨟ A4) w → P w) → Ends n u (λ Q. P ⨟ Q)
end4 p f = conv_end p (λ Q w x. first_map f (group4 x))

pub end6 : {n : ℕ} {u : List ℕ} {A1 A2 A3 A4 A5 A6 P : Lang} → Ends n u (λ Q. A1 ⨟ A2 ⨟ A3 ⨟ A4 ⨟ A5 ⨟ A6 ⨟ Q) → ((w : List Tok) → (A1 ⨟ A2 ⨟ A3 ⨟ A4 ⨟ A5 ⨟ A6) w → P w) → Ends n u (λ Q. P ⨟ Q)
end6 p f = conv_end p (λ Q w x. first_map f (group6 x))

pub end7 : {n : ℕ} {u : List ℕ} {A1 A2 A3 A4 A5 A6 A7 P : Lang} → Ends n u (λ Q. A1 ⨟ A2 ⨟ A3 ⨟ A4 ⨟ A5 ⨟ A6 ⨟ A7 ⨟ Q) → ((w : List Tok) → (A1 ⨟ A2 ⨟ A3 ⨟ A4 ⨟ A5 ⨟ A6 ⨟ A7) w → P w) → Ends n u (λ Q. P ⨟ Q)
end7 p f = conv_end p (λ Q w x. first_map f (group7 x))

-- ---- lines that stand deeper

-- some lines
pub inner_lines : {A : Type 0} {n : ℕ} {u : List ℕ} {strip : A → A} {P : A → Lang} {a : A} → Led (suc n) u (λ Q. Again strip P a ⨟ Q) → Inner n u (λ Q. Again strip (λ b. Lines (P b)) a ⨟ Q)
inner_lines l = conv_inner (in_led l) (λ Q w x. first_map (λ v q. record { it = q.second.first.it; spelled = anew q q.first (anew q.second q.second.first.spelled q.second.second); same = q.second.first.same }) (group3 x))

-- some lines, or none where nothing is printed
pub inner_indented : {A : Type 0} {n : ℕ} {u : List ℕ} {strip : A → A} {P : A → Lang} {a : A} → (E : A → Type 0) → LedOr (suc n) u (λ Q. Again strip P a ⨟ Q) → (u ≡ [] → E a) → Inner n u (λ Q. Again strip (λ b. Indented (E b) (P b)) a ⨟ Q)
inner_indented {n = n} {u = u} {strip = strip} {P = P} {a = a} E (nothing e f) none = subst (λ (x : List ℕ). Inner n x (λ Q. Again strip (λ b. Indented (E b) (P b)) a ⨟ Q)) (sym e)
    (conv_inner no_inner (λ Q w x. record { front = []; back = w; parts = refl; first = record { it = a; spelled = inl (none e, refl); same = refl }; second = x }))
inner_indented E (line l) none = conv_inner (inner_lines l) (λ Q w x. first_map (λ v q. record { it = q.it; spelled = inr q.spelled; same = q.same }) x)

-- ---- what each is printed as

abbrev pub PrintsRhs : Bool → RhsTree → Type 1
PrintsRhs plain r = (k : ℕ) → k ≤ 1 → (n : ℕ) (u : List Tok) → SpellsRhs plain k r u → AllFair u → OpenEnds n (rhs_text n r) (λ Q. Again bare_rhs (SpellsRhs plain k) r ⨟ Q)

abbrev pub PrintsStmt : Bool → StmtTree → Type 1
PrintsStmt plain s = (n : ℕ) (u : List Tok) → SpellsStmt plain s u → AllFair u → OpenEnds n (stmt_text n s) (λ Q. Again bare_stmt (SpellsStmt plain) s ⨟ Q)

abbrev pub PrintsBlock : Bool → StmtTrees → Type 1
PrintsBlock plain ss = (n : ℕ) (u : List Tok) → SpellsBlock plain ss u → AllFair u → Led n (block_text n ss) (λ Q. Again bare_stmts (SpellsBlock plain) ss ⨟ Q)

abbrev pub PrintsPart : Bool → PartTree → Type 1
PrintsPart plain p = (n : ℕ) (u : List Tok) → SpellsPart plain p u → AllFair u → OpenEnds n (part_text n p) (λ Q. Again bare_part (SpellsPart plain) p ⨟ Q)

abbrev pub PrintsParts : Bool → PartTrees → Type 1
PrintsParts plain ps = (n : ℕ) (u : List Tok) → SpellsParts plain ps u → AllFair u → LedOr n (parts_text n ps) (λ Q. Again bare_parts (SpellsParts plain) ps ⨟ Q)

abbrev pub PrintsTail : Bool → TailTree → Type 1
PrintsTail plain b = (n : ℕ) (u : List Tok) → SpellsTail plain b u → AllFair u → Ends n (tail_text n b) (λ Q. Again bare_tail (SpellsTail plain) b ⨟ Q)

pub tail_closes : (n : ℕ) (b : TailTree) (r : List ℕ) → closes (tail_text n b ++ r) ≡ true
tail_closes n (short x) r = refl
tail_closes n (long ss) r = refl

-- ---- parts that are printed as nothing

pub no_parts_printed : (n : ℕ) (ps : PartTrees) → parts_text (suc n) ps ≡ [] → ps ≡ no_parts
no_parts_printed n no_parts e = refl
no_parts_printed n (more_parts p ps) e = absurd cc

inner_parts : (plain : Bool) (ps : PartTrees) → PrintsParts plain ps → (n : ℕ) (u : List Tok) → Indented (ps ≡ no_parts) (SpellsParts plain ps) u → AllFair u →
    Inner n (parts_text (suc n) ps) (λ Q. Again bare_parts (λ qs. Indented (qs ≡ no_parts) (SpellsParts plain qs)) ps ⨟ Q)
inner_parts plain ps ih n u (inl (e, d)) h = inner_indented (λ qs. qs ≡ no_parts) (ih (suc n) [] (subst (λ (qs : PartTrees). SpellsParts plain qs []) (sym e) refl) tt) (no_parts_printed n ps)
inner_parts plain ps ih n u (inr x) h = inner_indented (λ qs. qs ≡ no_parts) (ih (suc n) x.second.front x.second.first (fair_front x.second (fair_back x h))) (no_parts_printed n ps)

pub val_word : Prints any (codes "val ") (λ Q. Sign kind.KwVal ⨟ Q)
val_word = seq (word_of kind.KwVal refl refl) blank (λ z h. refl)

field_prints : (k : FieldKind) → Prints any (field_text k) (λ Q. Sign (field_word k) ⨟ Q)
field_prints fields.Val = val_word
field_prints fields.Var = seq (word_of kind.KwVar refl refl) blank (λ z h. refl)

field_opens : (k : FieldKind) (u : List ℕ) → opens (field_text k ++ u) ≡ true
field_opens fields.Val u = refl
field_opens fields.Var u = refl

-- ---- statements in a block

same_val : (s t : StmtTree) → bare_stmt s ≡ bare_stmt t → is_val s ≡ is_val t
same_val s t e = sym (bare_val s) ∙ ap is_val e ∙ bare_val t
  where
    bare_val : (s : StmtTree) → is_val (bare_stmt s) ≡ is_val s
    bare_val (val n t r) = refl
    bare_val (assign n r) = refl
    bare_val (run r) = refl

-- a list of statements with the last one's form has that form again
more_again : (plain : Bool) (s : StmtTree) (ss : StmtTrees) (it : StmtTree) (its : StmtTrees) (u : List Tok) → bare_stmts its ≡ bare_stmts ss → (ss ≡ no_stmts → ⊥) → (SpellsStmt plain it ⨟ SpellsBlock plain its) u → SpellsBlock plain (more_stmts it its) u
more_again plain s ss it no_stmts u e n x = absurd (go ss e n)
  where
    go : (ss : StmtTrees) → no_stmts ≡ bare_stmts ss → (ss ≡ no_stmts → ⊥) → ⊥
    go no_stmts e n = n refl
    go (more_stmts s ss) e n = absurd cc
more_again plain s ss it (more_stmts t its) u e n x = x

block_more : (plain : Bool) (s : StmtTree) (ss : StmtTrees) → PrintsStmt plain s → PrintsBlock plain ss → PrintsBlock plain (more_stmts s ss)
block_more plain s no_stmts ps pb n u (v, x) h =
    let o = ps n u x h in
    conv_led (led_ups (led o) no_lines) (λ Q w y. first_map (λ z q. record { it = more_stmts q.it no_stmts; spelled = (same_val q.it s q.same ∙ v, q.spelled); same = ap (λ (r : StmtTree). more_stmts r no_stmts) q.same }) y)
block_more plain s (more_stmts t ss) ps pb n u x h =
    let o = ps n x.front x.first (fair_front x h) in
    let l = pb n x.back x.second (fair_back x h) in
    conv_led (led_ups (led o) (ups_of (line l))) (λ Q w y. first_map (λ z q. record {
      it = more_stmts q.first.it q.second.it;
      spelled = more_again plain s (more_stmts t ss) q.first.it q.second.it z q.second.same (λ e. absurd cc) (anew q q.first.spelled q.second.spelled);
      same = ap (λ (r : StmtTree). more_stmts r (bare_stmts q.second.it)) q.first.same ∙ ap (λ (r : StmtTrees). more_stmts (bare_stmt s) r) q.second.same;
    }) (group2 y))

-- a value in a line
value_line : (plain : Bool) (e : ExprTree) (k : ℕ) → k ≤ 1 → (n : ℕ) (u : List Tok) → (SpellsExpr plain k e ⨟ Sign kind.Nl) u → AllFair u → OpenEnds n (expr_text e ++ newline) (λ Q. Again bare_rhs (SpellsRhs plain k) (value e) ⨟ Q)
value_line plain e k l n u x h =
    let o = value_again plain k e l x.front x.first (fair_front x h) in
    record { ends = end2 (turn_ends (seq_turn o.prints line_end (λ r. refl))) (λ w q. record { it = value q.first.it; spelled = anew q q.first.spelled q.second; same = ap value q.first.same }); begins = opens_append (expr_text e) newline o.begins }

mutual
  pub printed_rhs : (plain : Bool) (r : RhsTree) → PrintsRhs plain r
  printed_rhs plain (literal p ps) k l n u x h =
      let x1 = x.second in
      let i = inner_parts plain ps (printed_parts plain ps) n x1.back x1.second (fair_back x1 (fair_back x h)) in
      record {
        ends = end3 (turn_inner (seq_turn (word_of kind.KwNew refl refl) line_end (λ r. refl)) i) (λ w q. record { it = literal q.first.token.place q.second.second.it; spelled = anew q (mark_of q.first) (anew q.second q.second.first q.second.second.spelled); same = ap (literal nowhere) q.second.second.same });
        begins = refl;
      }
  printed_rhs plain (branch p c a b) k l n u (z, x) h =
      let x1 = x.second in let x2 = x1.second in let x3 = x2.second in let x4 = x3.second in let x5 = x4.second in
      let h1 = fair_back x h in let h2 = fair_back x1 h1 in let h3 = fair_back x2 h2 in let h4 = fair_back x3 h3 in let h5 = fair_back x4 h4 in let h6 = fair_back x5 h5 in
      let oc = expr_again plain 1 c (omega arith) x1.front x1.first (fair_front x1 h1) in
      let fa = fair_front x3 h3 in
      let ia = inner_lines (printed_block plain a (suc n) x3.first.second.front x3.first.second.first (fair_front x3.first.second (fair_back x3.first fa))) in
      let ib = inner_lines (printed_block plain b (suc n) x5.second.second.front x5.second.second.first (fair_front x5.second.second (fair_back x5.second h6))) in
      record {
        ends = end7 (else_line (turn_inner (seq_turn (seq if_word oc.prints (λ y i. refl)) line_end (λ r. refl)) ia) ib) (λ w q.
            let q1 = q.second in let q2 = q1.second in let q3 = q2.second in let q4 = q3.second in let q5 = q4.second in
            record {
              it = branch q.first.token.place q1.first.it q3.first.it q5.second.it;
              spelled = (z, anew q (mark_of q.first) (anew q1 q1.first.spelled (anew q2 q2.first (anew q3 q3.first.spelled (anew q4 q4.first (anew q5 q5.first q5.second.spelled))))));
              same = let e1 = q1.first.same in let e2 = q3.first.same in let e3 = q5.second.same in rw (e1, e2, e3) refl;
            });
        begins = refl;
      }
  printed_rhs plain (value e) k l n u x h = value_line plain e k l n u x h

  pub printed_stmt : (plain : Bool) (s : StmtTree) → PrintsStmt plain s
  printed_stmt plain (val v None r) n u x h =
      let x1 = x.second in let x2 = x1.second in
      let h1 = fair_back x h in let h2 = fair_back x1 h1 in let h3 = fair_back x2 h2 in
      let on = name_again v x1.front x1.first (fair_front x1 h1) in
      let r' = printed_rhs plain r 1 (omega arith) n x2.back x2.second h3 in
      record {
        ends = end4 (seq_end (seq (seq (seq val_word on.prints (λ z i. refl)) (empty {t = closes}) (λ z i. i)) equals (λ z i. refl)) r'.ends (λ z. refl)) (λ w q.
            let q1 = q.second in let q2 = q1.second in
            record {
              it = val q1.first.it None q2.second.it;
              spelled = anew q q.first (anew q1 q1.first.spelled (anew q2 q2.first q2.second.spelled));
              same = let e1 = q1.first.same in let e2 = q2.second.same in rw (e1, e2) refl;
            });
        begins = refl;
      }
  printed_stmt plain (val v (Some t) r) n u x h =
      let x1 = x.second in let x2 = x1.second in let x3 = x2.second in let x4 = x3.second in
      let h1 = fair_back x h in let h2 = fair_back x1 h1 in let h3 = fair_back x2 h2 in let h4 = fair_back x3 h3 in let h5 = fair_back x4 h4 in
      let on = name_again v x1.front x1.first (fair_front x1 h1) in
      let ot = type_again plain t x3.front x3.first (fair_front x3 h3) in
      let r' = printed_rhs plain r 0 (omega arith) n x4.back x4.second h5 in
      record {
        ends = end6 (seq_end (seq (seq (seq val_word on.prints (λ z i. refl)) (seq colon ot.prints (λ z i. refl)) (λ z i. refl)) equals (λ z i. refl)) r'.ends (λ z. refl)) (λ w q.
            let q1 = q.second in let q2 = q1.second in let q3 = q2.second in let q4 = q3.second in
            record {
              it = val q1.first.it (Some q3.first.it) q4.second.it;
              spelled = anew q q.first (anew q1 q1.first.spelled (anew q2 q2.first (anew q3 q3.first.spelled (anew q4 q4.first q4.second.spelled))));
              same = let e1 = q1.first.same in let e2 = q3.first.same in let e3 = q4.second.same in rw (e1, e2, e3) refl;
            });
        begins = refl;
      }
  printed_stmt plain (assign v r) n u x h =
      let x1 = x.second in
      let on = name_again v x.front x.first (fair_front x h) in
      let r' = printed_rhs plain r 0 (omega arith) n x1.back x1.second (fair_back x1 (fair_back x h)) in
      record {
        ends = end3 (seq_end (seq on.prints equals (λ z i. refl)) r'.ends (λ z. refl)) (λ w q. record {
          it = assign q.first.it q.second.second.it;
          spelled = anew q q.first.spelled (anew q.second q.second.first q.second.second.spelled);
          same = let e1 = q.first.same in let e2 = q.second.second.same in rw (e1, e2) refl;
        });
        begins = opens_append (v.text ++ codes " = ") (rhs_text n r) (opens_append v.text (codes " = ") on.begins);
      }
  printed_stmt plain (run r) n u x h =
      let r' = printed_rhs plain r 0 (omega arith) n u x h in
      record { ends = conv_end r'.ends (λ Q w y. first_map (λ z q. record { it = run q.it; spelled = q.spelled; same = ap run q.same }) y); begins = r'.begins }

  pub printed_block : (plain : Bool) (ss : StmtTrees) → PrintsBlock plain ss
  printed_block plain no_stmts n u x h = absurd x
  printed_block plain (more_stmts s ss) n u x h = block_more plain s ss (printed_stmt plain s) (printed_block plain ss) n u x h

  pub printed_part : (plain : Bool) (p : PartTree) → PrintsPart plain p
  printed_part plain (field k v t r) n u x h =
      let x1 = x.second in let x2 = x1.second in let x3 = x2.second in let x4 = x3.second in
      let h1 = fair_back x h in let h2 = fair_back x1 h1 in let h3 = fair_back x2 h2 in let h4 = fair_back x3 h3 in let h5 = fair_back x4 h4 in
      let on = name_again v x1.front x1.first (fair_front x1 h1) in
      let ot = type_again plain t x3.front x3.first (fair_front x3 h3) in
      let r' = printed_rhs plain r 0 (omega arith) n x4.back x4.second h5 in
      record {
        ends = end6 (seq_end (seq (seq (seq (seq (field_prints k) on.prints (λ z i. refl)) colon (λ z i. refl)) ot.prints (λ z i. refl)) equals (λ z i. refl)) r'.ends (λ z. refl)) (λ w q.
            let q1 = q.second in let q2 = q1.second in let q3 = q2.second in let q4 = q3.second in
            record {
              it = field k q1.first.it q3.first.it q4.second.it;
              spelled = anew q q.first (anew q1 q1.first.spelled (anew q2 q2.first (anew q3 q3.first.spelled (anew q4 q4.first q4.second.spelled))));
              same = let e1 = q1.first.same in let e2 = q3.first.same in let e3 = q4.second.same in rw (e1, e2, e3) refl;
            });
        begins = opens_append ((((field_text k ++ v.text) ++ codes ": ") ++ type_text t) ++ codes " = ") (rhs_text n r)
            (opens_append (((field_text k ++ v.text) ++ codes ": ") ++ type_text t) (codes " = ")
            (opens_append ((field_text k ++ v.text) ++ codes ": ") (type_text t)
            (opens_append (field_text k ++ v.text) (codes ": ") (field_opens k v.text))));
      }
  printed_part plain (method s b) n u x h =
      let os = signature_again plain s x.front x.first (fair_front x h) in
      let b' = printed_tail plain b n x.back x.second (fair_back x h) in
      record {
        ends = end2 (seq_end os.prints b' (tail_closes n b)) (λ w q. record {
          it = method q.first.it q.second.it;
          spelled = anew q q.first.spelled q.second.spelled;
          same = let e1 = q.first.same in let e2 = q.second.same in rw (e1, e2) refl;
        });
        begins = opens_append (signature_text s) (tail_text n b) os.begins;
      }

  pub printed_parts : (plain : Bool) (ps : PartTrees) → PrintsParts plain ps
  printed_parts plain no_parts n u x h = nothing refl (λ Q w y. record { front = []; back = w; parts = refl; first = record { it = no_parts; spelled = refl; same = refl }; second = y })
  printed_parts plain (more_parts p ps) n u x h =
      let o = printed_part plain p n x.front x.first (fair_front x h) in
      let l = printed_parts plain ps n x.back x.second (fair_back x h) in
      line (conv_led (some_led (led o) l) (λ Q w y. first_map (λ z q. record {
        it = more_parts q.first.it q.second.it;
        spelled = anew q q.first.spelled q.second.spelled;
        same = ap (λ (r : PartTree). more_parts r (bare_parts q.second.it)) q.first.same ∙ ap (λ (r : PartTrees). more_parts (bare_part p) r) q.second.same;
      }) (group2 y)))

  pub printed_tail : (plain : Bool) (b : TailTree) → PrintsTail plain b
  printed_tail plain (short r) n u x h =
      let r' = printed_rhs plain r 0 (omega arith) n x.back x.second (fair_back x h) in
      end2 (seq_end equals r'.ends (λ z. refl)) (λ w q. record { it = short q.second.it; spelled = anew q q.first q.second.spelled; same = ap short q.second.same })
  printed_tail plain (long ss) n u x h =
      let i = inner_lines (printed_block plain ss (suc n) x.second.second.front x.second.second.first (fair_front x.second.second (fair_back x.second (fair_back x h)))) in
      end2 (turn_inner line_end i) (λ w q. record { it = long q.second.it; spelled = anew q q.first q.second.spelled; same = ap long q.second.same })
