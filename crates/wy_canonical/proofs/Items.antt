-- Printed items.
use Rattle.std.proofs.Common.{◌≡◌, ℕ, Bool, true, false, Option, Some, None, List, [], ◌∷◌, ◌++◌, map, codes, refl, sym, ap, subst, ◌∙◌, append_assoc, inl, inr}
use Rattle.wy_text.specs.declared.token.TokenKind.{TokenKind}
use Rattle.wy_text.specs.declared.token.TokenKind.TheVariants as kind
use Rattle.wy_syntax.specs.declared.types.Name.{Name}
use Rattle.wy_syntax.specs.declared.types.AtomUse.{AtomUse}
use Rattle.wy_syntax.specs.declared.items.Member.{Member}
use Rattle.wy_syntax.specs.declared.items.Member.TheVariants as members
use Rattle.wy_syntax.specs.declared.items.Line.{Line}
use Rattle.wy_syntax.specs.declared.items.Line.TheVariants as items
use Rattle.wy_syntax.specs.declared.items.Define.{Define}
use Rattle.wy_syntax.specs.declared.items.Init.{Init}
use Rattle.wy_syntax.specs.declared.items.Grant.{Grant}
use Rattle.wy_syntax.specs.Tokens.{Tok}
use Rattle.wy_syntax.specs.Trees.{PartTrees, no_parts, TailTree, InsideTree, ItemTree, type_item, pure_item, resource_item, plain_item, program_item}
use Rattle.wy_syntax.specs.Languages.{Lang, Sign, Word, ◌⨟◌, Each, Indented}
use Rattle.wy_syntax.specs.TypeGrammar.{SpellsSet, SpellsModuleParam}
use Rattle.wy_syntax.specs.StmtGrammar.{SpellsParts, SpellsTail}
use Rattle.wy_syntax.specs.Grammar.{SpellsMember, SpellsUse, SpellsLine, SpellsDefine, SpellsInit, SpellsGrant, nothing_inside, SpellsInside, SpellsItem}
use Rattle.wy_syntax.specs.Canonical.{newline, with_commas, in_order, name_text, set_text, param_text, signature_text, parts_text, tail_text, member_text, use_text, line_text, define_text, init_text, grant_text, inside_text, item_text}
use Rattle.wy_canonical.specs.Unplaced.{nowhere, maybe, bare_name, bare_set, bare_param, bare_parts, bare_tail, bare_member, bare_line, bare_define, bare_init, bare_grant, bare_inside, bare_item}
use Rattle.wy_canonical.proofs.PrintedWords.{any, closes}
use Rattle.wy_canonical.proofs.Source.{AllFair}
use Rattle.wy_canonical.proofs.Printing.{first_map, anew, group2, group3, group4, group5, group8, group10, group11, fair_front, fair_back, mark_of, Prints, seq, word_of, blank, Again, name_again, commas_print, commas_free}
use Rattle.wy_canonical.proofs.Types.{equals, at_most, colon, open_parens, close_parens, close_colon, at_word, set_again, module_param_again, signature_again}
use Rattle.wy_canonical.proofs.Turning.{Ends, Inner, Led, OpenEnds, line_end, seq_turn, seq_end, turn_inner, turn_ends, conv_end, conv_led, in_led, LedOr, nothing, line, both_led, conv_or, some_led, or_led}
use Rattle.wy_canonical.proofs.Statements.{end3, end4, end6, inner_indented, no_parts_printed, printed_parts, printed_tail, tail_closes}

-- ---- lists of lines

-- a line of an item is printed so that it is read as itself
abbrev PrintsLine : {A : Type 0} → (A → List ℕ) → (A → A) → (A → Lang) → A → Type 1
PrintsLine f strip P a = (u : List Tok) → P a u → AllFair u → Led 1 (f a) (λ Q. Again strip P a ⨟ Q)

each_line : {A : Type 0} (f : A → List ℕ) (strip : A → A) (P : A → Lang) → ((a : A) → PrintsLine f strip P a) → (xs : List A) (u : List Tok) → Each P xs u → AllFair u → LedOr 1 (in_order f xs) (λ Q. Again (map strip) (Each P) xs ⨟ Q)
each_line f strip P g [] u x h = nothing refl (λ Q w y. record { front = []; back = w; parts = refl; first = record { it = []; spelled = refl; same = refl }; second = y })
each_line {A} f strip P g (a ∷ xs) u x h =
    let l = g a x.front x.first (fair_front x h) in
    let k = each_line f strip P g xs x.back x.second (fair_back x h) in
    line (conv_led (some_led l k) (λ Q w y. first_map (λ v q. record {
      it = q.first.it ∷ q.second.it;
      spelled = anew q q.first.spelled q.second.spelled;
      same = ap (λ (z : A). z ∷ map strip q.second.it) q.first.same ∙ ap (λ (z : List A). strip a ∷ z) q.second.same;
    }) (group2 y)))

-- a text that ends a line
one_line : {t : List ℕ → Bool} {u : List ℕ} {F : Lang → Lang} → Prints t u F → ((r : List ℕ) → t (newline ++ r) ≡ true) → Ends 1 (u ++ newline) (λ Q. F (Sign kind.Nl ⨟ Q))
one_line p h = turn_ends (seq_turn p line_end h)

effect_word : Prints any (codes "effect ") (λ Q. Sign kind.KwEffect ⨟ Q)
effect_word = seq (word_of kind.KwEffect refl refl) blank (λ z h. refl)

-- ---- effects with a set behind a sign

abbrev SpellsEffectLine : TokenKind → Name → List AtomUse → Lang
SpellsEffectLine k n s = Sign kind.KwEffect ⨟ Word n ⨟ Sign k ⨟ SpellsSet s ⨟ Sign kind.Nl

-- what is read of such a line, the same but for places
record AgainEffect (k : TokenKind) (n : Name) (s : List AtomUse) (u : List Tok) : Type 0 where
  name : Name
  effect : List AtomUse
  spelled : SpellsEffectLine k name effect u
  same_name : bare_name name ≡ bare_name n
  same_effect : bare_set effect ≡ bare_set s

effect_line : (k : TokenKind) {sign : List ℕ} → Prints any sign (λ Q. Sign k ⨟ Q) → ((z : List ℕ) → closes (sign ++ z) ≡ true) → (n : Name) (s : List AtomUse) (u : List Tok) → SpellsEffectLine k n s u → AllFair u →
    Ends 1 ((((codes "effect " ++ n.text) ++ sign) ++ set_text s) ++ newline) (λ Q. AgainEffect k n s ⨟ Q)
effect_line k p c n s u x h =
    let x1 = x.second in let x2 = x1.second in let x3 = x2.second in
    let h1 = fair_back x h in let h2 = fair_back x1 h1 in let h3 = fair_back x2 h2 in
    let o = name_again n x1.front x1.first (fair_front x1 h1) in
    let e = set_again s x3.front x3.first (fair_front x3 h3) in
    conv_end (one_line (seq (seq (seq effect_word o.prints (λ z i. refl)) p (λ z i. c z)) e.prints (λ z i. refl)) (λ r. refl)) (λ Q w y. first_map (λ v q.
    let q1 = q.second in let q2 = q1.second in let q3 = q2.second in
    record {
      name = q1.first.it;
      effect = q3.first.it;
      spelled = anew q q.first (anew q1 q1.first.spelled (anew q2 q2.first (anew q3 q3.first.spelled q3.second)));
      same_name = q1.first.same;
      same_effect = q3.first.same;
    }) (group5 y))

-- ---- members

member_line : (m : Member) → PrintsLine member_text bare_member SpellsMember m
member_line (members.Abstract n) u x h =
    let x1 = x.second in
    let o = name_again n x1.front x1.first (fair_front x1 (fair_back x h)) in
    record {
      line = (codes "effect " ++ n.text) ++ newline;
      parts = refl;
      begins = refl;
      ends = end3 (one_line (seq effect_word o.prints (λ z i. refl)) (λ r. refl)) (λ w q. record { it = members.Abstract q.second.first.it; spelled = anew q q.first (anew q.second q.second.first.spelled q.second.second); same = ap members.Abstract q.second.first.same });
    }
member_line (members.Bounded n s) u x h =
    record {
      line = (((codes "effect " ++ n.text) ++ codes " <= ") ++ set_text s) ++ newline;
      parts = refl;
      begins = refl;
      ends = conv_end (effect_line kind.SymLessEqual at_most (λ z. refl) n s u x h) (λ Q w y. first_map (λ v q. record { it = members.Bounded q.name q.effect; spelled = q.spelled; same = let e1 = q.same_name in let e2 = q.same_effect in rw (e1, e2) refl }) y);
    }
member_line (members.Defined n s) u x h =
    record {
      line = (((codes "effect " ++ n.text) ++ codes " = ") ++ set_text s) ++ newline;
      parts = refl;
      begins = refl;
      ends = conv_end (effect_line kind.SymEqual equals (λ z. refl) n s u x h) (λ Q w y. first_map (λ v q. record { it = members.Defined q.name q.effect; spelled = q.spelled; same = let e1 = q.same_name in let e2 = q.same_effect in rw (e1, e2) refl }) y);
    }
member_line (members.Method s) u x h =
    let o = signature_again false s x.front x.first (fair_front x h) in
    record {
      line = signature_text s ++ newline;
      parts = refl;
      begins = refl;
      ends = conv_end (one_line o.prints (λ r. refl)) (λ Q w y. first_map (λ v q. record { it = members.Method q.first.it; spelled = anew q q.first.spelled q.second; same = ap members.Method q.first.same }) (group2 y));
    }

-- ---- lines of a module

use_line : (n : Name) → PrintsLine use_text bare_name SpellsUse n
use_line n u x h =
    let x1 = x.second in
    let o = name_again n x1.front x1.first (fair_front x1 (fair_back x h)) in
    record {
      line = (codes "use " ++ n.text) ++ newline;
      parts = refl;
      begins = refl;
      ends = end3 (one_line (seq (seq (word_of kind.KwUse refl refl) blank (λ z i. refl)) o.prints (λ z i. refl)) (λ r. refl)) (λ w q. record { it = q.second.first.it; spelled = anew q q.first (anew q.second q.second.first.spelled q.second.second); same = q.second.first.same });
    }

line_line : (l : Line) → PrintsLine line_text bare_line SpellsLine l
line_line (items.Instance a m arguments) u x h =
    let x1 = x.second in let x2 = x1.second in let x3 = x2.second in let x4 = x3.second in let y = x4.first.second in
    let h1 = fair_back x h in let h2 = fair_back x1 h1 in let h3 = fair_back x2 h2 in let h4 = fair_back x3 h3 in
    let g = fair_front y (fair_back x4.first (fair_front x4 h4)) in
    let oa = name_again a x1.front x1.first (fair_front x1 h1) in
    let om = name_again m x3.front x3.first (fair_front x3 h3) in
    let c = commas_print name_text bare_name Word name_again arguments y.front y.first g in
    record {
      line = (((((codes "instance " ++ a.text) ++ codes " = ") ++ m.text) ++ codes "(") ++ with_commas name_text arguments) ++ codes ")" ++ newline;
      parts = refl;
      begins = refl;
      ends = conv_end (one_line (seq (seq (seq (seq (seq (seq (seq (word_of kind.KwInstance refl refl) blank (λ z i. refl)) oa.prints (λ z i. refl)) equals (λ z i. refl)) om.prints (λ z i. refl)) open_parens (λ z i. refl)) c
          (commas_free name_text bare_name Word name_again arguments y.front y.first g)) close_parens (λ z i. refl)) (λ r. refl)) (λ Q w z. first_map (λ v q.
          let q1 = q.second in let q2 = q1.second in let q3 = q2.second in let q4 = q3.second in let q5 = q4.second in let q6 = q5.second in
          record {
            it = items.Instance q1.first.it q3.first.it q5.first.it;
            spelled = anew q q.first (anew q1 q1.first.spelled (anew q2 q2.first (anew q3 q3.first.spelled (group3 (anew q4 q4.first (anew q5 q5.first.spelled q6))))));
            same = let e1 = q1.first.same in let e2 = q3.first.same in let e3 = q5.first.same in rw (e1, e2, e3) refl;
          }) (group8 z));
    }
line_line (items.Import a m arguments bound) u x h =
    let x1 = x.second in let x2 = x1.second in let x3 = x2.second in let x4 = x3.second in let y = x4.first.second in let x5 = x4.second in let x6 = x5.second in
    let h1 = fair_back x h in let h2 = fair_back x1 h1 in let h3 = fair_back x2 h2 in let h4 = fair_back x3 h3 in let h5 = fair_back x4 h4 in let h6 = fair_back x5 h5 in
    let g = fair_front y (fair_back x4.first (fair_front x4 h4)) in
    let oa = name_again a x1.front x1.first (fair_front x1 h1) in
    let om = name_again m x3.front x3.first (fair_front x3 h3) in
    let c = commas_print name_text bare_name Word name_again arguments y.front y.first g in
    let e = set_again bound x6.front x6.first (fair_front x6 h6) in
    record {
      line = ((((((codes "import " ++ a.text) ++ codes " = ") ++ m.text) ++ codes "(") ++ with_commas name_text arguments) ++ codes ") at ") ++ set_text bound ++ newline;
      parts = refl;
      begins = refl;
      ends = conv_end (one_line (seq (seq (seq (seq (seq (seq (seq (seq (word_of kind.KwImport refl refl) blank (λ z i. refl)) oa.prints (λ z i. refl)) equals (λ z i. refl)) om.prints (λ z i. refl)) open_parens (λ z i. refl)) c
          (commas_free name_text bare_name Word name_again arguments y.front y.first g)) (seq close_parens at_word (λ z i. refl)) (λ z i. refl)) e.prints (λ z i. refl)) (λ r. refl)) (λ Q w z. first_map (λ v q.
          let q1 = q.second in let q2 = q1.second in let q3 = q2.second in let q4 = q3.second in let q5 = q4.second in let q6 = q5.second in let q7 = q6.second in let q8 = q7.second in
          record {
            it = items.Import q1.first.it q3.first.it q5.first.it q8.first.it;
            spelled = anew q q.first (anew q1 q1.first.spelled (anew q2 q2.first (anew q3 q3.first.spelled (group3 (anew q4 q4.first (anew q5 q5.first.spelled (anew q6 q6.first (anew q7 q7.first (anew q8 q8.first.spelled q8.second)))))))));
            same = let e1 = q1.first.same in let e2 = q3.first.same in let e3 = q5.first.same in let e4 = q8.first.same in rw (e1, e2, e3, e4) refl;
          }) (group10 z));
    }

define_line : (d : Define) → PrintsLine define_text bare_define SpellsDefine d
define_line d u x h =
    record {
      line = (((codes "effect " ++ d.name.text) ++ codes " = ") ++ set_text d.effect) ++ newline;
      parts = refl;
      begins = refl;
      ends = conv_end (effect_line kind.SymEqual equals (λ z. refl) d.name d.effect u x h) (λ Q w y. first_map (λ v q. record { it = record { name = q.name; effect = q.effect }; spelled = q.spelled; same = let e1 = q.same_name in let e2 = q.same_effect in rw (e1, e2) refl }) y);
    }

init_line : (i : Option Init) (u : List Tok) → SpellsInit i u → AllFair u → LedOr 1 (init_text i) (λ Q. Again (maybe bare_init) SpellsInit i ⨟ Q)
init_line None u x h = nothing refl (λ Q w y. record { front = []; back = w; parts = refl; first = record { it = None; spelled = refl; same = refl }; second = y })
init_line (Some i) u x h =
    let x1 = x.second in let x2 = x1.second in
    let e = set_again i.effect x2.front x2.first (fair_front x2 (fair_back x1 (fair_back x h))) in
    line (record {
      line = (codes "init: " ++ set_text i.effect) ++ newline;
      parts = refl;
      begins = refl;
      ends = conv_end (one_line (seq (seq (word_of kind.KwInit refl refl) colon (λ z j. refl)) e.prints (λ z j. refl)) (λ r. refl)) (λ Q w y. first_map (λ v q.
          let q1 = q.second in let q2 = q1.second in
          record {
            it = Some (record { place = q.first.token.place; effect = q2.first.it });
            spelled = anew q (mark_of q.first) (anew q1 q1.first (anew q2 q2.first.spelled q2.second));
            same = ap (λ (s : List AtomUse). Some (record { place = nowhere; effect = s })) q2.first.same;
          }) (group4 y));
    })

grant_line : (g : Grant) → PrintsLine grant_text bare_grant SpellsGrant g
grant_line g u x h =
    let x1 = x.second in let x2 = x1.second in let x3 = x2.second in
    let h1 = fair_back x h in let h2 = fair_back x1 h1 in let h3 = fair_back x2 h2 in
    let o = name_again g.name x1.front x1.first (fair_front x1 h1) in
    let k = name_again g.kind x3.front x3.first (fair_front x3 h3) in
    record {
      line = (((codes "grant " ++ g.name.text) ++ codes ": ") ++ g.kind.text) ++ newline;
      parts = refl;
      begins = refl;
      ends = conv_end (one_line (seq (seq (seq (seq (word_of kind.KwGrant refl refl) blank (λ z i. refl)) o.prints (λ z i. refl)) colon (λ z i. refl)) k.prints (λ z i. refl)) (λ r. refl)) (λ Q w y. first_map (λ v q.
          let q1 = q.second in let q2 = q1.second in let q3 = q2.second in
          record {
            it = record { name = q1.first.it; kind = q3.first.it };
            spelled = anew q q.first (anew q1 q1.first.spelled (anew q2 q2.first (anew q3 q3.first.spelled q3.second)));
            same = let e1 = q1.first.same in let e2 = q3.first.same in rw (e1, e2) refl;
          }) (group5 y));
    }

-- ---- what is printed as nothing

append_none : (u v : List ℕ) → u ++ v ≡ [] → (u ≡ []) × (v ≡ [])
append_none [] v e = (refl, e)
append_none (b ∷ u) v e = absurd cc

no_members : (ms : List Member) → in_order member_text ms ≡ [] → ms ≡ []
no_members [] e = refl
no_members (members.Abstract n ∷ ms) e = absurd cc
no_members (members.Bounded n s ∷ ms) e = absurd cc
no_members (members.Defined n s ∷ ms) e = absurd cc
no_members (members.Method s ∷ ms) e = absurd cc

no_uses : (ns : List Name) → in_order use_text ns ≡ [] → ns ≡ []
no_uses [] e = refl
no_uses (n ∷ ns) e = absurd cc

no_lines : (ls : List Line) → in_order line_text ls ≡ [] → ls ≡ []
no_lines [] e = refl
no_lines (items.Instance a m arguments ∷ ls) e = absurd cc
no_lines (items.Import a m arguments bound ∷ ls) e = absurd cc

no_defines : (ds : List Define) → in_order define_text ds ≡ [] → ds ≡ []
no_defines [] e = refl
no_defines (d ∷ ds) e = absurd cc

no_init : (i : Option Init) → init_text i ≡ [] → i ≡ None
no_init None e = refl
no_init (Some i) e = absurd cc

no_inside : (i : InsideTree) → inside_text i ≡ [] → i ≡ nothing_inside
no_inside i e =
    let a = append_none (((in_order use_text i.uses ++ in_order line_text i.lines) ++ in_order define_text i.defines) ++ init_text i.init) (parts_text 1 i.parts) e in
    let b = append_none ((in_order use_text i.uses ++ in_order line_text i.lines) ++ in_order define_text i.defines) (init_text i.init) a.0 in
    let c = append_none (in_order use_text i.uses ++ in_order line_text i.lines) (in_order define_text i.defines) b.0 in
    let d = append_none (in_order use_text i.uses) (in_order line_text i.lines) c.0 in
    made i.uses i.lines i.defines i.init i.parts (no_uses i.uses d.0) (no_lines i.lines d.1) (no_defines i.defines c.1) (no_init i.init b.1) (no_parts_printed 0 i.parts a.1)
  where
    made : (us : List Name) (ls : List Line) (ds : List Define) (n : Option Init) (ps : PartTrees) → us ≡ [] → ls ≡ [] → ds ≡ [] → n ≡ None → ps ≡ no_parts → record { uses = us; lines = ls; defines = ds; init = n; parts = ps } ≡ nothing_inside
    made us ls ds n ps a b c d e = rw (a, b, c, d, e) refl

-- ---- what stands in a module

-- the lines of a module, one kind behind the other
abbrev Body : InsideTree → Lang
Body i = Each SpellsUse i.uses ⨟ Each SpellsLine i.lines ⨟ Each SpellsDefine i.defines ⨟ SpellsInit i.init ⨟ SpellsParts false i.parts

body_lines : (i : InsideTree) (u : List Tok) → Body i u → AllFair u → LedOr 1 (inside_text i) (λ Q. Again bare_inside Body i ⨟ Q)
body_lines i u x h =
    let x1 = x.second in let x2 = x1.second in let x3 = x2.second in
    let h1 = fair_back x h in let h2 = fair_back x1 h1 in let h3 = fair_back x2 h2 in let h4 = fair_back x3 h3 in
    let us = each_line use_text bare_name SpellsUse use_line i.uses x.front x.first (fair_front x h) in
    let ls = each_line line_text bare_line SpellsLine line_line i.lines x1.front x1.first (fair_front x1 h1) in
    let ds = each_line define_text bare_define SpellsDefine define_line i.defines x2.front x2.first (fair_front x2 h2) in
    let n = init_line i.init x3.front x3.first (fair_front x3 h3) in
    let ps = printed_parts false i.parts 1 x3.back x3.second h4 in
    conv_or (both_led (both_led (both_led (both_led us ls) ds) n) ps) (λ Q w y. first_map (λ v q.
    let q1 = q.second in let q2 = q1.second in let q3 = q2.second in
    record {
      it = record { uses = q.first.it; lines = q1.first.it; defines = q2.first.it; init = q3.first.it; parts = q3.second.it };
      spelled = anew q q.first.spelled (anew q1 q1.first.spelled (anew q2 q2.first.spelled (anew q3 q3.first.spelled q3.second.spelled)));
      same = let e1 = q.first.same in let e2 = q1.first.same in let e3 = q2.first.same in let e4 = q3.first.same in let e5 = q3.second.same in rw (e1, e2, e3, e4, e5) refl;
    }) (group5 y))

body_nothing : Body nothing_inside []
body_nothing = record { front = []; back = []; parts = refl; first = refl; second = record { front = []; back = []; parts = refl; first = refl; second = record { front = []; back = []; parts = refl; first = refl; second = record { front = []; back = []; parts = refl; first = refl; second = refl } } } }

inside_lines : (i : InsideTree) (u : List Tok) → SpellsInside i u → AllFair u → Inner 0 (inside_text i) (λ Q. Again bare_inside SpellsInside i ⨟ Q)
inside_lines i u (inl (e, d)) h = inner_indented (λ j. j ≡ nothing_inside) (body_lines i [] (subst (λ (j : InsideTree). Body j []) (sym e) body_nothing) tt) (no_inside i)
inside_lines i u (inr x) h = inner_indented (λ j. j ≡ nothing_inside) (body_lines i x.second.front x.second.first (fair_front x.second (fair_back x h))) (no_inside i)

member_lines : (ms : List Member) (u : List Tok) → Indented (ms ≡ []) (Each SpellsMember ms) u → AllFair u → Inner 0 (in_order member_text ms) (λ Q. Again (map bare_member) (λ ns. Indented (ns ≡ []) (Each SpellsMember ns)) ms ⨟ Q)
member_lines ms u (inl (e, d)) h = inner_indented (λ ns. ns ≡ []) (each_line member_text bare_member SpellsMember member_line ms [] (subst (λ (ns : List Member). Each SpellsMember ns []) (sym e) refl) tt) (no_members ms)
member_lines ms u (inr x) h = inner_indented (λ ns. ns ≡ []) (each_line member_text bare_member SpellsMember member_line ms x.second.front x.second.first (fair_front x.second (fair_back x h))) (no_members ms)

part_lines : (ps : PartTrees) (u : List Tok) → Indented (ps ≡ no_parts) (SpellsParts true ps) u → AllFair u → Inner 0 (parts_text 1 ps) (λ Q. Again bare_parts (λ qs. Indented (qs ≡ no_parts) (SpellsParts true qs)) ps ⨟ Q)
part_lines ps u (inl (e, d)) h = inner_indented (λ qs. qs ≡ no_parts) (printed_parts true ps 1 [] (subst (λ (qs : PartTrees). SpellsParts true qs []) (sym e) refl) tt) (no_parts_printed 0 ps)
part_lines ps u (inr x) h = inner_indented (λ qs. qs ≡ no_parts) (printed_parts true ps 1 x.second.front x.second.first (fair_front x.second (fair_back x h))) (no_parts_printed 0 ps)

-- ---- items

abbrev PrintsItem : ItemTree → Type 1
PrintsItem i = (u : List Tok) → SpellsItem i u → AllFair u → OpenEnds 0 (item_text i) (λ Q. Again bare_item SpellsItem i ⨟ Q)

resource_word : Prints any (codes "resource module ") (λ Q. Sign kind.KwResource ⨟ Sign kind.KwModule ⨟ Q)
resource_word = seq (seq (seq (word_of kind.KwResource refl refl) blank (λ z h. refl)) (word_of kind.KwModule refl refl) (λ z h. refl)) blank (λ z h. refl)

plain_word : Prints any (codes "plain module ") (λ Q. Sign kind.KwPlain ⨟ Sign kind.KwModule ⨟ Q)
plain_word = seq (seq (seq (word_of kind.KwPlain refl refl) blank (λ z h. refl)) (word_of kind.KwModule refl refl) (λ z h. refl)) blank (λ z h. refl)

-- the run of a program, in a line of its own
run_line : (effect : List AtomUse) (body : TailTree) (u v : List Tok) → SpellsSet effect u → AllFair u → SpellsTail false body v → AllFair v →
    Led 1 ((codes "  run: " ++ set_text effect) ++ tail_text 1 body) (λ Q. Sign kind.KwRun ⨟ Sign kind.SymColon ⨟ Again bare_set SpellsSet effect ⨟ Again bare_tail (SpellsTail false) body ⨟ Q)
run_line effect body u v x h y k =
    let e = set_again effect u x h in
    record {
      line = (codes "run: " ++ set_text effect) ++ tail_text 1 body;
      parts = refl;
      begins = refl;
      ends = seq_end (seq (seq (word_of kind.KwRun refl refl) colon (λ z i. refl)) e.prints (λ z i. refl)) (printed_tail false body 1 v y k) (tail_closes 1 body);
    }

program_parts : (a g us ls r e t : List ℕ) → a ++ (((g ++ us) ++ ls) ++ ((r ++ e) ++ t)) ≡ (((((a ++ g) ++ us) ++ ls) ++ r) ++ e) ++ t
program_parts a g us ls r e t =
    sym (append_assoc a ((g ++ us) ++ ls) ((r ++ e) ++ t))
    ∙ sym (append_assoc (a ++ ((g ++ us) ++ ls)) (r ++ e) t)
    ∙ ap (λ (z : List ℕ). z ++ t) (sym (append_assoc (a ++ ((g ++ us) ++ ls)) r e))
    ∙ ap (λ (z : List ℕ). ((z ++ r) ++ e) ++ t) (sym (append_assoc a (g ++ us) ls) ∙ ap (λ (z : List ℕ). z ++ ls) (sym (append_assoc a g us)))

pub item_again : (i : ItemTree) → PrintsItem i
item_again (type_item t) u x h =
    let x1 = x.second in let x2 = x1.second in
    let h1 = fair_back x h in let h2 = fair_back x1 h1 in
    let o = name_again t.name x1.front x1.first (fair_front x1 h1) in
    let i = member_lines t.members x2.back x2.second (fair_back x2 h2) in
    record {
      ends = end4 (turn_inner (seq_turn (seq (seq (word_of kind.KwType refl refl) blank (λ z j. refl)) o.prints (λ z j. refl)) line_end (λ r. refl)) i) (λ w q.
          let q1 = q.second in let q2 = q1.second in
          record {
            it = type_item (record { place = q.first.token.place; name = q1.first.it; members = q2.second.it });
            spelled = anew q (mark_of q.first) (anew q1 q1.first.spelled (anew q2 q2.first q2.second.spelled));
            same = let e1 = q1.first.same in let e2 = q2.second.same in rw (e1, e2) refl;
          });
      begins = refl;
    }
item_again (pure_item p n sealed inside) u x h =
    let x1 = x.second in let x2 = x1.second in let x3 = x2.second in let x4 = x3.second in
    let h1 = fair_back x h in let h2 = fair_back x1 h1 in let h3 = fair_back x2 h2 in let h4 = fair_back x3 h3 in
    let o = name_again n x1.front x1.first (fair_front x1 h1) in
    let s = name_again sealed x3.front x3.first (fair_front x3 h3) in
    let i = inside_lines inside x4.back x4.second (fair_back x4 h4) in
    record {
      ends = end6 (turn_inner (seq_turn (seq (seq (seq (seq (word_of kind.KwModule refl refl) blank (λ z j. refl)) o.prints (λ z j. refl)) colon (λ z j. refl)) s.prints (λ z j. refl)) line_end (λ r. refl)) i) (λ w q.
          let q1 = q.second in let q2 = q1.second in let q3 = q2.second in let q4 = q3.second in
          record {
            it = pure_item q.first.token.place q1.first.it q3.first.it q4.second.it;
            spelled = anew q (mark_of q.first) (anew q1 q1.first.spelled (anew q2 q2.first (anew q3 q3.first.spelled (anew q4 q4.first q4.second.spelled))));
            same = let e1 = q1.first.same in let e2 = q3.first.same in let e3 = q4.second.same in rw (e1, e2, e3) refl;
          });
      begins = refl;
    }
item_again (resource_item p n params sealed inside) u x h =
    let x1 = x.second in let x2 = x1.second in let x3 = x2.second in let y = x3.first.second in let x4 = x3.second in let x5 = x4.second in let x6 = x5.second in
    let h1 = fair_back x h in let h2 = fair_back x1 h1 in let h3 = fair_back x2 h2 in let h4 = fair_back x3 h3 in let h5 = fair_back x4 h4 in let h6 = fair_back x5 h5 in
    let g = fair_front y (fair_back x3.first (fair_front x3 h3)) in
    let o = name_again n x2.front x2.first (fair_front x2 h2) in
    let c = commas_print param_text bare_param (SpellsModuleParam false) (module_param_again false) params y.front y.first g in
    let s = name_again sealed x5.front x5.first (fair_front x5 h5) in
    let i = inside_lines inside x6.back x6.second (fair_back x6 h6) in
    record {
      ends = conv_end (turn_inner (seq_turn (seq (seq (seq (seq (seq resource_word o.prints (λ z j. refl)) open_parens (λ z j. refl)) c (commas_free param_text bare_param (SpellsModuleParam false) (module_param_again false) params y.front y.first g)) close_colon (λ z j. refl)) s.prints (λ z j. refl)) line_end (λ r. refl)) i) (λ Q w z. first_map (λ v q.
          let q1 = q.second in let q2 = q1.second in let q3 = q2.second in let q4 = q3.second in let q5 = q4.second in let q6 = q5.second in let q7 = q6.second in let q8 = q7.second in
          record {
            it = resource_item q.first.token.place q2.first.it q4.first.it q7.first.it q8.second.it;
            spelled = anew q (mark_of q.first) (anew q1 q1.first (anew q2 q2.first.spelled (group3 (anew q3 q3.first (anew q4 q4.first.spelled (anew q5 q5.first (anew q6 q6.first (anew q7 q7.first.spelled (anew q8 q8.first q8.second.spelled)))))))));
            same = let e1 = q2.first.same in let e2 = q4.first.same in let e3 = q7.first.same in let e4 = q8.second.same in rw (e1, e2, e3, e4) refl;
          }) (group10 z));
      begins = refl;
    }
item_again (plain_item p n params sealed parts) u x h =
    let x1 = x.second in let x2 = x1.second in let x3 = x2.second in let y = x3.first.second in let x4 = x3.second in let x5 = x4.second in let x6 = x5.second in
    let h1 = fair_back x h in let h2 = fair_back x1 h1 in let h3 = fair_back x2 h2 in let h4 = fair_back x3 h3 in let h5 = fair_back x4 h4 in let h6 = fair_back x5 h5 in
    let g = fair_front y (fair_back x3.first (fair_front x3 h3)) in
    let o = name_again n x2.front x2.first (fair_front x2 h2) in
    let c = commas_print param_text bare_param (SpellsModuleParam true) (module_param_again true) params y.front y.first g in
    let s = name_again sealed x5.front x5.first (fair_front x5 h5) in
    let i = part_lines parts x6.back x6.second (fair_back x6 h6) in
    record {
      ends = conv_end (turn_inner (seq_turn (seq (seq (seq (seq (seq plain_word o.prints (λ z j. refl)) open_parens (λ z j. refl)) c (commas_free param_text bare_param (SpellsModuleParam true) (module_param_again true) params y.front y.first g)) close_colon (λ z j. refl)) s.prints (λ z j. refl)) line_end (λ r. refl)) i) (λ Q w z. first_map (λ v q.
          let q1 = q.second in let q2 = q1.second in let q3 = q2.second in let q4 = q3.second in let q5 = q4.second in let q6 = q5.second in let q7 = q6.second in let q8 = q7.second in
          record {
            it = plain_item q.first.token.place q2.first.it q4.first.it q7.first.it q8.second.it;
            spelled = anew q (mark_of q.first) (anew q1 q1.first (anew q2 q2.first.spelled (group3 (anew q3 q3.first (anew q4 q4.first.spelled (anew q5 q5.first (anew q6 q6.first (anew q7 q7.first.spelled (anew q8 q8.first q8.second.spelled)))))))));
            same = let e1 = q2.first.same in let e2 = q4.first.same in let e3 = q7.first.same in let e4 = q8.second.same in rw (e1, e2, e3, e4) refl;
          }) (group10 z));
      begins = refl;
    }
item_again (program_item p grants uses lines started effect body) u x h =
    let x1 = x.second in let x2 = x1.second in let x3 = x2.second in let x4 = x3.second in let x5 = x4.second in let x6 = x5.second in let x7 = x6.second in let x8 = x7.second in let x9 = x8.second in
    let h1 = fair_back x h in let h2 = fair_back x1 h1 in let h3 = fair_back x2 h2 in let h4 = fair_back x3 h3 in let h5 = fair_back x4 h4 in let h6 = fair_back x5 h5 in let h7 = fair_back x6 h6 in let h8 = fair_back x7 h7 in let h9 = fair_back x8 h8 in
    let gs = each_line grant_text bare_grant SpellsGrant grant_line grants x3.front x3.first (fair_front x3 h3) in
    let us = each_line use_text bare_name SpellsUse use_line uses x4.front x4.first (fair_front x4 h4) in
    let ls = each_line line_text bare_line SpellsLine line_line lines x5.front x5.first (fair_front x5 h5) in
    let r = run_line effect body x8.front x9.front x8.first (fair_front x8 h8) x9.first (fair_front x9 h9) in
    record {
      ends = subst (λ (z : List ℕ). Ends 0 z (λ Q. Again bare_item SpellsItem (program_item p grants uses lines started effect body) ⨟ Q))
          (program_parts (codes "program" ++ newline) (in_order grant_text grants) (in_order use_text uses) (in_order line_text lines) (codes "  run: ") (set_text effect) (tail_text 1 body))
          (conv_end (turn_inner (seq_turn (word_of kind.KwProgram refl refl) line_end (λ r. refl)) (in_led (or_led (both_led (both_led gs us) ls) r))) (λ Q w z. first_map (λ v q.
          let q1 = q.second in let q2 = q1.second in let q3 = q2.second in let q4 = q3.second in let q5 = q4.second in let q6 = q5.second in let q7 = q6.second in let q8 = q7.second in let q9 = q8.second in
          record {
            it = program_item q.first.token.place q3.first.it q4.first.it q5.first.it q6.first.token.place q8.first.it q9.first.it;
            spelled = anew q (mark_of q.first) (anew q1 q1.first (anew q2 q2.first (anew q3 q3.first.spelled (anew q4 q4.first.spelled (anew q5 q5.first.spelled (anew q6 (mark_of q6.first) (anew q7 q7.first (anew q8 q8.first.spelled (anew q9 q9.first.spelled q9.second)))))))));
            same = let e1 = q3.first.same in let e2 = q4.first.same in let e3 = q5.first.same in let e4 = q8.first.same in let e5 = q9.first.same in rw (e1, e2, e3, e4, e5) refl;
          }) (group11 z)));
      begins = refl;
    }
