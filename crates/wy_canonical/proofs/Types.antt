-- Printed sets, types and signatures.
use Rattle.std.proofs.Common.{◌≡◌, Bool, Option, Some, None, List, [], ◌∷◌, ◌++◌, map, codes, refl, sym, ap, ◌∙◌}
use Rattle.wy_text.specs.declared.token.TokenKind.TheVariants as kind
use Rattle.wy_syntax.specs.declared.types.Name.{Name}
use Rattle.wy_syntax.specs.declared.types.AtomUse.{AtomUse}
use Rattle.wy_syntax.specs.declared.types.MemberSet.{MemberSet}
use Rattle.wy_syntax.specs.declared.types.TypeUse.{TypeUse}
use Rattle.wy_syntax.specs.declared.types.TypeUse.TheVariants as types
use Rattle.wy_syntax.specs.declared.types.Param.{Param}
use Rattle.wy_syntax.specs.declared.types.Signature.{Signature}
use Rattle.wy_syntax.specs.Tokens.{Tok}
use Rattle.wy_syntax.specs.Languages.{Lang, Sign, ◌⨟◌, Commas, Commas1}
use Rattle.wy_syntax.specs.TypeGrammar.{OwnedName, SpellsAtom, SpellsSet, SpellsMemberSet, SpellsObject, SpellsType, SpellsParam, SpellsModuleParam, SpellsEffect, SpellsSignature}
use Rattle.wy_syntax.specs.Canonical.{with_commas, owner_text, atom_text, set_text, member_set_text, type_text, param_text, effect_text, signature_text}
use Rattle.wy_canonical.specs.Unplaced.{bare_name, maybe, bare_atom, bare_set, bare_member_set, bare_type, bare_param, bare_signature}
use Rattle.wy_canonical.proofs.PrintedWords.{free, any}
use Rattle.wy_canonical.proofs.LineReading.{opens_append}
use Rattle.wy_canonical.proofs.Source.{AllFair}
use Rattle.wy_canonical.proofs.Printing.{anew, fair_front, fair_back, mark_of, Prints, seq, as1, as3, as4, as8, symbol, word_of, blank, Opening, frees, narrow, Again, Printable, name_again, no_items, commas_print, commas_free}

-- ---- words that stand often

pub open_brace : Prints free (codes "{") (λ Q. Sign kind.SymOpenBrace ⨟ Q)
open_brace = symbol kind.SymOpenBrace refl refl refl

pub close_brace : Prints free (codes "}") (λ Q. Sign kind.SymCloseBrace ⨟ Q)
close_brace = symbol kind.SymCloseBrace refl refl refl

pub open_parens : Prints free (codes "(") (λ Q. Sign kind.SymOpenParen ⨟ Q)
open_parens = symbol kind.SymOpenParen refl refl refl

pub close_parens : Prints free (codes ")") (λ Q. Sign kind.SymCloseParen ⨟ Q)
close_parens = symbol kind.SymCloseParen refl refl refl

pub equals : Prints any (codes " = ") (λ Q. Sign kind.SymEqual ⨟ Q)
equals = seq (seq blank (symbol kind.SymEqual refl refl refl) (λ z h. refl)) blank (λ z h. refl)

pub at_most : Prints any (codes " <= ") (λ Q. Sign kind.SymLessEqual ⨟ Q)
at_most = seq (seq blank (symbol kind.SymLessEqual refl refl refl) (λ z h. refl)) blank (λ z h. refl)

pub colon : Prints any (codes ": ") (λ Q. Sign kind.SymColon ⨟ Q)
colon = seq (symbol kind.SymColon refl refl refl) blank (λ z h. refl)

pub at_word : Prints any (codes " at ") (λ Q. Sign kind.KwAt ⨟ Q)
at_word = seq (seq blank (word_of kind.KwAt refl refl) (λ z h. refl)) blank (λ z h. refl)

-- ---- sets

pub atom_again : (a : AtomUse) → Printable atom_text bare_atom SpellsAtom a
atom_again a u x h = go a.owner refl x
  where
    go : (o : Option Name) → a.owner ≡ o → OwnedName o a.member u → Opening (owner_text o ++ a.member.text) (λ Q. Again bare_atom SpellsAtom a ⨟ Q)
    go None e x = let m = name_again a.member u x h in record {
      prints = as1 m.prints (λ w q. record {
        it = record { owner = None; member = q.it };
        spelled = q.spelled;
        same = ap (λ (n : Name). record { owner = None; member = n }) q.same ∙ ap (λ (o : Option Name). record { owner = maybe bare_name o; member = bare_name a.member }) (sym e);
      });
      begins = m.begins;
    }
    go (Some o) e x =
        let n = name_again o x.front x.first (fair_front x h) in
        let m = name_again a.member x.second.back x.second.second (fair_back x.second (fair_back x h)) in
        record {
          prints = as3 (seq (seq n.prints (symbol kind.SymDot refl refl refl) (λ z k. refl)) m.prints (frees m)) (λ w q. record {
            it = record { owner = Some q.first.it; member = q.second.second.it };
            spelled = anew q q.first.spelled (anew q.second q.second.first q.second.second.spelled);
            same = ap (λ (n : Name). record { owner = Some n; member = bare_name q.second.second.it }) q.first.same ∙ ap (λ (n : Name). record { owner = Some (bare_name o); member = n }) q.second.second.same
                ∙ ap (λ (o : Option Name). record { owner = maybe bare_name o; member = bare_name a.member }) (sym e);
          });
          begins = opens_append (o.text ++ codes ".") a.member.text (opens_append o.text (codes ".") n.begins);
        }

pub set_again : (s : List AtomUse) → Printable set_text bare_set SpellsSet s
set_again s u x h =
    let y = x.second in
    let c = commas_print atom_text bare_atom SpellsAtom atom_again s y.front y.first (fair_front y (fair_back x h)) in
    record {
      prints = as3 (narrow (seq (seq open_brace c (commas_free atom_text bare_atom SpellsAtom atom_again s y.front y.first (fair_front y (fair_back x h)))) close_brace (λ z k. refl))) (λ w q. record {
        it = q.second.first.it;
        spelled = anew q q.first (anew q.second q.second.first.spelled q.second.second);
        same = q.second.first.same;
      });
      begins = refl;
    }

pub member_set_again : (m : MemberSet) → Printable member_set_text bare_member_set SpellsMemberSet m
member_set_again m u x h =
    let n = name_again m.name x.front x.first (fair_front x h) in
    let s = set_again m.effect x.second.back x.second.second (fair_back x.second (fair_back x h)) in
    record {
      prints = as3 (seq (seq n.prints equals (λ z k. refl)) s.prints (λ z k. refl)) (λ w q. record {
        it = record { name = q.first.it; effect = q.second.second.it };
        spelled = anew q q.first.spelled (anew q.second q.second.first q.second.second.spelled);
        same = ap (λ (n : Name). record { name = n; effect = bare_set q.second.second.it }) q.first.same ∙ ap (λ (s : List AtomUse). record { name = bare_name m.name; effect = s }) q.second.second.same;
      });
      begins = opens_append (m.name.text ++ codes " = ") (set_text m.effect) (opens_append m.name.text (codes " = ") n.begins);
    }

-- ---- types

-- one item or more
commas_of : {A : Type 0} (P : A → Lang) (xs : List A) (u : List Tok) → Commas1 P xs u → Commas P xs u
commas_of P [] u h = absurd h
commas_of P (a ∷ xs) u h = h

some_of : {A : Type 0} (strip : A → A) (P : A → Lang) (xs : List A) (u w : List Tok) → Commas1 P xs u → Again (map strip) (Commas P) xs w → Again (map strip) (Commas1 P) xs w
some_of {A} strip P xs u w h q = go xs h q.it q.spelled q.same
  where
    go : (xs : List A) → Commas1 P xs u → (ys : List A) → Commas P ys w → map strip ys ≡ map strip xs → Again (map strip) (Commas1 P) xs w
    go [] h ys s e = absurd h
    go (x ∷ xs) h [] s e = absurd (let t : [] ≡ strip x ∷ map strip xs = e in cc)
    go (x ∷ xs) h (y ∷ ys) s e = record { it = y ∷ ys; spelled = s; same = e }

pub object_again : (plain : Bool) (t : TypeUse) → Printable type_text bare_type (SpellsObject plain) t
object_again plain (types.Int p) u x h = absurd x
object_again plain (types.Bool p) u x h = absurd x
object_again plain (types.Text p) u x h = absurd x
object_again plain (types.Unit p) u x h = absurd x
object_again plain (types.Bare n) u x h = let o = name_again n u x h in record { prints = as1 o.prints (λ w q. record { it = types.Bare q.it; spelled = q.spelled; same = ap types.Bare q.same }); begins = o.begins }
object_again plain (types.With n ms) u (f, x) h =
    let y = x.second.second in
    let o = name_again n x.front x.first (fair_front x h) in
    let fair = fair_front y (fair_back x.second (fair_back x h)) in
    let c = commas_print member_set_text bare_member_set SpellsMemberSet member_set_again ms y.front (commas_of SpellsMemberSet ms y.front y.first) fair in
    record {
      prints = as4 (narrow (seq (seq (seq o.prints (symbol kind.SymOpenBracket refl refl refl) (λ z k. refl)) c (commas_free member_set_text bare_member_set SpellsMemberSet member_set_again ms y.front (commas_of SpellsMemberSet ms y.front y.first) fair))
          (symbol kind.SymCloseBracket refl refl refl) (λ z k. refl))) (λ w q. let r = some_of bare_member_set SpellsMemberSet ms y.front q.second.second.front y.first q.second.second.first in record {
            it = types.With q.first.it r.it;
            spelled = (f, anew q q.first.spelled (anew q.second q.second.first (anew q.second.second r.spelled q.second.second.second)));
            same = ap (λ (n : Name). types.With n (map bare_member_set r.it)) q.first.same ∙ ap (λ (m : List MemberSet). types.With (bare_name n) m) r.same;
          });
      begins = opens_append ((n.text ++ codes "[") ++ with_commas member_set_text ms) (codes "]") (opens_append (n.text ++ codes "[") (with_commas member_set_text ms) (opens_append n.text (codes "[") o.begins));
    }
object_again plain (types.At n s) u (f, x) h =
    let o = name_again n x.front x.first (fair_front x h) in
    let e = set_again s x.second.back x.second.second (fair_back x.second (fair_back x h)) in
    record {
      prints = as3 (seq (seq o.prints at_word (λ z k. refl)) e.prints (λ z k. refl)) (λ w q. record {
        it = types.At q.first.it q.second.second.it;
        spelled = (f, anew q q.first.spelled (anew q.second q.second.first q.second.second.spelled));
        same = ap (λ (n : Name). types.At n (bare_set q.second.second.it)) q.first.same ∙ ap (λ (s : List AtomUse). types.At (bare_name n) s) q.second.second.same;
      });
      begins = opens_append (n.text ++ codes " at ") (set_text s) (opens_append n.text (codes " at ") o.begins);
    }

object_type : (plain : Bool) (t : TypeUse) (u : List Tok) → SpellsObject plain t u → SpellsType plain t u
object_type plain (types.Int p) u x = absurd x
object_type plain (types.Bool p) u x = absurd x
object_type plain (types.Text p) u x = absurd x
object_type plain (types.Unit p) u x = absurd x
object_type plain (types.Bare n) u x = x
object_type plain (types.With n ms) u x = x
object_type plain (types.At n s) u x = x

from_object : (plain : Bool) (t : TypeUse) → Opening (type_text t) (λ Q. Again bare_type (SpellsObject plain) t ⨟ Q) → Opening (type_text t) (λ Q. Again bare_type (SpellsType plain) t ⨟ Q)
from_object plain t o = record { prints = as1 o.prints (λ w q. record { it = q.it; spelled = object_type plain q.it w q.spelled; same = q.same }); begins = o.begins }

pub type_again : (plain : Bool) (t : TypeUse) → Printable type_text bare_type (SpellsType plain) t
type_again plain (types.Int p) u x h = record { prints = as1 (word_of kind.KwInt refl refl) (λ w q. record { it = types.Int q.token.place; spelled = mark_of q; same = refl }); begins = refl }
type_again plain (types.Bool p) u x h = record { prints = as1 (word_of kind.KwBool refl refl) (λ w q. record { it = types.Bool q.token.place; spelled = mark_of q; same = refl }); begins = refl }
type_again plain (types.Text p) u x h = record { prints = as1 (word_of kind.KwString refl refl) (λ w q. record { it = types.Text q.token.place; spelled = mark_of q; same = refl }); begins = refl }
type_again plain (types.Unit p) u x h = record { prints = as1 (word_of kind.KwUnit refl refl) (λ w q. record { it = types.Unit q.token.place; spelled = mark_of q; same = refl }); begins = refl }
type_again plain (types.Bare n) u x h = from_object plain (types.Bare n) (object_again plain (types.Bare n) u x h)
type_again plain (types.With n ms) u x h = from_object plain (types.With n ms) (object_again plain (types.With n ms) u x h)
type_again plain (types.At n s) u x h = from_object plain (types.At n s) (object_again plain (types.At n s) u x h)

-- ---- parameters and signatures

pub param_again : (plain : Bool) (x : Param) → Printable param_text bare_param (SpellsParam plain) x
param_again plain p u x h =
    let n = name_again p.name x.front x.first (fair_front x h) in
    let t = type_again plain p.type_use x.second.back x.second.second (fair_back x.second (fair_back x h)) in
    record {
      prints = as3 (seq (seq n.prints colon (λ z k. refl)) t.prints (λ z k. refl)) (λ w q. record {
        it = record { name = q.first.it; type_use = q.second.second.it };
        spelled = anew q q.first.spelled (anew q.second q.second.first q.second.second.spelled);
        same = ap (λ (n : Name). record { name = n; type_use = bare_type q.second.second.it }) q.first.same ∙ ap (λ (t : TypeUse). record { name = bare_name p.name; type_use = t }) q.second.second.same;
      });
      begins = opens_append (p.name.text ++ codes ": ") (type_text p.type_use) (opens_append p.name.text (codes ": ") n.begins);
    }

pub module_param_again : (plain : Bool) (x : Param) → Printable param_text bare_param (SpellsModuleParam plain) x
module_param_again plain p u x h =
    let n = name_again p.name x.front x.first (fair_front x h) in
    let t = object_again plain p.type_use x.second.back x.second.second (fair_back x.second (fair_back x h)) in
    record {
      prints = as3 (seq (seq n.prints colon (λ z k. refl)) t.prints (λ z k. refl)) (λ w q. record {
        it = record { name = q.first.it; type_use = q.second.second.it };
        spelled = anew q q.first.spelled (anew q.second q.second.first q.second.second.spelled);
        same = ap (λ (n : Name). record { name = n; type_use = bare_type q.second.second.it }) q.first.same ∙ ap (λ (t : TypeUse). record { name = bare_name p.name; type_use = t }) q.second.second.same;
      });
      begins = opens_append (p.name.text ++ codes ": ") (type_text p.type_use) (opens_append p.name.text (codes ": ") n.begins);
    }

pub effect_prints : (plain : Bool) (e : Option (List AtomUse)) (u : List Tok) → SpellsEffect plain e u → AllFair u → Prints any (effect_text e) (λ Q. Again (maybe bare_set) (SpellsEffect plain) e ⨟ Q)
effect_prints plain None u x h = no_items (record { it = None; spelled = (x.0, refl); same = refl })
effect_prints plain (Some s) u (f, x) h = let o = set_again s u x h in
    as1 (seq o.prints blank (λ z k. refl)) (λ w q. record { it = Some q.it; spelled = (f, q.spelled); same = ap (λ (s : List AtomUse). Some s) q.same })

-- the closing parenthesis and the colon
pub close_colon : Prints any (codes "): ") (λ Q. Sign kind.SymCloseParen ⨟ Sign kind.SymColon ⨟ Q)
close_colon = seq close_parens colon (λ z h. refl)

pub signature_again : (plain : Bool) (s : Signature) → Printable signature_text bare_signature (SpellsSignature plain) s
signature_again plain s u x h =
    let x1 = x.second in let x2 = x1.second in let x3 = x2.second in let x4 = x3.second in let x5 = x4.second in let x6 = x5.second in
    let h1 = fair_back x h in let h2 = fair_back x1 h1 in let h3 = fair_back x2 h2 in let h4 = fair_back x3 h3 in let h5 = fair_back x4 h4 in let h6 = fair_back x5 h5 in
    let n = name_again s.name x1.front x1.first (fair_front x1 h1) in
    let c = commas_print param_text bare_param (SpellsParam plain) (param_again plain) s.params x3.front x3.first (fair_front x3 h3) in
    let f = commas_free param_text bare_param (SpellsParam plain) (param_again plain) s.params x3.front x3.first (fair_front x3 h3) in
    let e = effect_prints plain s.effect x6.front x6.first (fair_front x6 h6) in
    let t = type_again plain s.result x6.back x6.second (fair_back x6 h6) in
    record {
      prints = as8 (seq (seq (seq (seq (seq (seq (seq (word_of kind.KwDef refl refl) blank (λ z k. refl)) n.prints (λ z k. refl)) open_parens (λ z k. refl)) c f) close_colon (λ z k. refl)) e (λ z k. refl)) t.prints (λ z k. refl)) (λ w q.
          let q1 = q.second in let q2 = q1.second in let q3 = q2.second in let q4 = q3.second in let q5 = q4.second in let q6 = q5.second in
          record {
            it = record { place = q.first.token.place; name = q1.first.it; params = q3.first.it; effect = q6.first.it; result = q6.second.it };
            spelled = anew q (mark_of q.first) (anew q1 q1.first.spelled (anew q2 q2.first (anew q3 q3.first.spelled (anew q4 q4.first (anew q5 q5.first (anew q6 q6.first.spelled q6.second.spelled))))));
            same = let e1 = q1.first.same in let e2 = q3.first.same in let e3 = q6.first.same in let e4 = q6.second.same in rw (e1, e2, e3, e4) refl;
          });
      begins = refl;
    }
