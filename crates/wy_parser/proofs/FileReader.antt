-- A whole file: the tree that its tokens spell, or the first token that fits nothing.
use Rattle.std.proofs.Common.{◌≡◌, ℕ, suc, ◌+◌, ◌<◌, ◌≤◌, Bool, true, false, cond, List, [], ◌∷◌, ◌++◌, length, refl, sym, ap, subst, ◌∙◌, append_assoc, append-nil, arith}
use Rattle.std.proofs.lemmas.List.{length-append, append_cancel_right}
use Rattle.wy_text.specs.declared.token.TokenKind.{TokenKind}
use Rattle.wy_text.specs.declared.token.TokenKind.TheVariants as kind
use Rattle.wy_syntax.specs.Tokens.{Tok, code, code_of, member}
use Rattle.wy_syntax.specs.Trees.{ItemTree}
use Rattle.wy_syntax.specs.Languages.{Each}
use Rattle.wy_syntax.specs.Grammar.{SpellsItem, Spells}
use Rattle.wy_parser.specs.Reading.{Out, Yes, No, Deep, and_then, one_of}
use Rattle.wy_parser.specs.ItemParsing.{item_first, items, p_file}
use Rattle.wy_parser.specs.Refusals.{IsFirstBad}
use Rattle.wy_parser.proofs.OneEnd.{NoEnd, OneEnd}
use Rattle.wy_parser.proofs.KindNumbers.{kind_is, kind_at, is_fixed}
use Rattle.wy_parser.proofs.Exact.{Clean}
use Rattle.wy_parser.proofs.Made.{is_member, token_at}
use Rattle.wy_parser.proofs.ItemReaders.{made_items}

abbrev Items : List ItemTree → List Tok → Type 0
Items is u = Each SpellsItem is u

end_code : (x : Tok) → x.kind ≡ kind.End → code x ≡ 66
end_code x e = ap (λ (z : TokenKind). code_of z) e

code_end : (x : Tok) → code x ≡ 66 → x.kind ≡ kind.End
code_end x e = ended x.kind e
  where
    ended : (k : TokenKind) → code_of k ≡ 66 → k ≡ kind.End
    ended k e = kind_is k (fixed (code_of k) e) ∙ named (code_of k) e
      where
        fixed : (n : ℕ) → n ≡ 66 → is_fixed n ≡ true
        fixed n e = ap (λ (j : ℕ). is_fixed j) e

        named : (n : ℕ) → n ≡ 66 → kind_at n ≡ kind.End
        named n e = ap (λ (j : ℕ). kind_at j) e

abbrev items_behind : List ℕ
items_behind = item_first ++ 64 ∷ []

-- a list with no end in it isn't one that has one
no_end : (u v front : List Tok) (last : Tok) → NoEnd u → u ≡ front ++ last ∷ v → code last ≡ 66 → ⊥
no_end [] v [] last h e l = absurd cc
no_end [] v (y ∷ front) last h e l = absurd cc
no_end (x ∷ u) v [] last h e l = h.0 (code_end x (ap (λ (z : Tok). code z) (head x last u v e) ∙ l))
  where
    head : (x y : Tok) (u v : List Tok) → x ∷ u ≡ y ∷ v → x ≡ y
    head x y u v e = cc
no_end (x ∷ u) v (y ∷ front) last h e l = no_end u v front last h.1 (tail x y u (front ++ last ∷ v) e) l
  where
    tail : (x y : Tok) (u v : List Tok) → x ∷ u ≡ y ∷ v → u ≡ v
    tail x y u v e = cc

abbrev gives : List ItemTree → List Tok → Out Tok (List ItemTree)
gives a r = Yes a r

abbrev stopped : List Tok → Out Tok (List ItemTree)
stopped r = No r

head_is : (x y : Tok) (u v : List Tok) → x ∷ u ≡ y ∷ v → x ≡ y
head_is x y u v e = cc

tail_is : (x y : Tok) (u v : List Tok) → x ∷ u ≡ y ∷ v → u ≡ v
tail_is x y u v e = cc

-- what stands behind an end is nothing
end_last : (used r front : List Tok) (x last : Tok) → NoEnd front → used ++ x ∷ r ≡ front ++ last ∷ [] → code x ≡ 66 → r ≡ []
end_last [] r [] x last h e k = tail_is x last r [] e
end_last [] r (y ∷ front) x last h e k = absurd (h.0 (code_end y (ap (λ (z : Tok). code z) (sym (head_is x y r (front ++ last ∷ []) e)) ∙ k)))
end_last (y ∷ u) r [] x last h e k = absurd (never u (tail_is y last (u ++ x ∷ r) [] e))
  where
    never : (u : List Tok) → u ++ x ∷ r ≡ [] → ⊥
    never [] e = cc
    never (z ∷ u) e = cc
end_last (y ∷ u) r (z ∷ front) x last h e k = end_last u r front x last h.1 (tail_is y z (u ++ x ∷ r) (front ++ last ∷ []) e) k

yes_is : (a b : List ItemTree) (r s : List Tok) → gives a r ≡ gives b s → (a ≡ b) × (r ≡ s)
yes_is a b r s e = (cc, cc)

apart_is : (a : List ItemTree) (r s : List Tok) → gives a r ≡ stopped s → ⊥
apart_is a r s e = cc

-- a list that spells a whole expression is read so, at any depth that is enough
read_whole : (n : ℕ) (e : List ItemTree) (u : List Tok) → Spells u e → length u < n → (x : Tok) × (items n u ≡ Yes e (x ∷ [])) × (code x ≡ 66)
read_whole n e u w lt =
    let P = (made_items n n (omega arith)).is in
    let x = w.second.token in
    let len : length u ≡ length w.front + length w.back = ap (λ (z : List Tok). length z) w.parts ∙ length-append w.front w.back in
    let len1 : length w.back ≡ 1 = ap (λ (z : List Tok). length z) w.second.only in
    (x, ap (λ (z : List Tok). items n z) (w.parts ∙ ap (λ (z : List Tok). w.front ++ z) w.second.only) ∙ P.complete e w.front (x ∷ []) w.first (omega arith) (stops x (end_code x w.second.kind)), end_code x w.second.kind)
  where
    stops : (x : Tok) → code x ≡ 66 → member (code x) items_behind ≡ false
    stops x h = subst (λ (j : ℕ). member j items_behind ≡ false) (sym h) refl

pub one_tree : (a b : List ItemTree) (u : List Tok) → Spells u a → Spells u b → a ≡ b
one_tree a b u wa wb =
    let s = read_whole (suc (length u)) a u wa (omega arith) in
    let t = read_whole (suc (length u)) b u wb (omega arith) in
    (yes_is a b (s.0 ∷ []) (t.0 ∷ []) (sym s.1 ∙ t.1)).0

ends : Tok
ends = token_at 66

completed : (e : List ItemTree) (u : List Tok) → Items e u → Spells (u ++ token_at 66 ∷ []) e
completed e u s = record { front = u; back = token_at 66 ∷ []; parts = refl; first = s; second = record { token = token_at 66; only = refl; kind = refl } }

again_yes : (n n' : ℕ) → n ≤ n' → (ts r : List Tok) (x : Tok) (e : List ItemTree) → items n ts ≡ Yes e (x ∷ r) → (used : List Tok) → ts ≡ used ++ x ∷ r → (more : List Tok) → items n' (used ++ x ∷ more) ≡ Yes e (x ∷ more)
again_yes n n' h ts r x e p used parts more =
    let t = (made_items n n' h).is.yes ts (x ∷ r) e p in
    subst (λ (u : List Tok). items n' (u ++ x ∷ more) ≡ Yes e (x ∷ more)) (append_cancel_right t.used used (x ∷ r) (sym t.parts ∙ parts)) (t.again (x ∷ more) refl)

again_no : (n n' : ℕ) → n ≤ n' → (ts r : List Tok) (x : Tok) → items n ts ≡ No (x ∷ r) → (used : List Tok) → ts ≡ used ++ x ∷ r → (more : List Tok) → items n' (used ++ x ∷ more) ≡ No (x ∷ more)
again_no n n' h ts r x p used parts more =
    let t = (made_items n n' h).is.no ts (x ∷ r) p in
    subst (λ (u : List Tok). items n' (u ++ x ∷ more) ≡ No (x ∷ more)) (append_cancel_right t.used used (x ∷ r) (sym t.parts ∙ parts)) (t.again (x ∷ more) refl)

-- after a tree, and what begins a rest that isn't the end
bad_after : (n : ℕ) (ts r : List Tok) (x : Tok) (e : List ItemTree) (used : List Tok) → ts ≡ used ++ x ∷ r → Items e used → items n ts ≡ Yes e (x ∷ r) → (code x ≡ 66 → ⊥) → IsFirstBad ts x
bad_after n ts r x e used parts spelled p k = record {
  before = used;
  after = r;
  parts = parts;
  more = token_at 66 ∷ [];
  tree = e;
  spelled = completed e used spelled;
  none = λ e' more w. none e' more w;
}
  where
    none : (e' : List ItemTree) (more : List Tok) → Spells (used ++ x ∷ more) e' → ⊥
    none e' more w =
        let big = length (used ++ x ∷ more) in
        let t = read_whole (n + big + 1) e' (used ++ x ∷ more) w (omega arith) in
        let a = again_yes n (n + big + 1) (omega arith) ts r x e p used parts more in
        let same = yes_is e' e (t.0 ∷ []) (x ∷ more) (sym t.1 ∙ a) in
        k (ap (λ (z : Tok). code z) (sym (head_is t.0 x [] more same.1)) ∙ t.2)

-- inside a tree
bad_inside : (n : ℕ) (ts r : List Tok) (x : Tok) (e : List ItemTree) (used rest : List Tok) → ts ≡ used ++ x ∷ r → Items e (used ++ rest) → items n ts ≡ No (x ∷ r) → IsFirstBad ts x
bad_inside n ts r x e used rest parts spelled p = record {
  before = used;
  after = r;
  parts = parts;
  more = rest ++ token_at 66 ∷ [];
  tree = e;
  spelled = subst (λ (u : List Tok). Spells u e) (append_assoc used rest (token_at 66 ∷ [])) (completed e (used ++ rest) spelled);
  none = λ e' more w. none e' more w;
}
  where
    none : (e' : List ItemTree) (more : List Tok) → Spells (used ++ x ∷ more) e' → ⊥
    none e' more w =
        let big = length (used ++ x ∷ more) in
        let t = read_whole (n + big + 1) e' (used ++ x ∷ more) w (omega arith) in
        let a = again_no n (n + big + 1) (omega arith) ts r x p used parts more in
        apart_is e' (t.0 ∷ []) (x ∷ more) (sym t.1 ∙ a)

-- a tree's list has no end in it
clean_tree : (e : List ItemTree) (u : List Tok) → Items e u → Clean Tok code 66 u
clean_tree e u s = (made_items (length u + 2) (length u + 2) (omega arith)).is.clean e u s (omega arith)

clean_front : (u v : List Tok) → Clean Tok code 66 (u ++ v) → Clean Tok code 66 u
clean_front [] v h = tt
clean_front (x ∷ u) v h = (h.0, clean_front u v h.1)

dirty : (u front : List Tok) (last : Tok) → Clean Tok code 66 u → u ≡ front ++ last ∷ [] → code last ≡ 66 → ⊥
dirty [] [] last h e l = absurd cc
dirty [] (y ∷ front) last h e l = absurd cc
dirty (x ∷ u) [] last h e l = h.0 (ap (λ (z : Tok). code z) (head_is x last u [] e) ∙ l)
dirty (x ∷ u) (y ∷ front) last h e l = dirty u front last h.1 (tail_is x y u (front ++ last ∷ []) e) l

-- ---- the result

abbrev pub Result' : List Tok → Out Tok (List ItemTree) → Type 0
Result' ts (Yes e r) = Spells ts e
Result' ts (No []) = ⊥
Result' ts (No (x ∷ r)) = IsFirstBad ts x
Result' ts Deep = ⊥

pub whole_is : (n : ℕ) (ts : List Tok) → OneEnd ts → length ts + 2 ≤ n → Result' ts (p_file n ts)
unfolding p_file
whole_is n ts ends h = go (items n ts) refl
  where
    after : (e : List ItemTree) (r : List Tok) → items n ts ≡ Yes e r → (used : List Tok) → ts ≡ used ++ r → Items e used → Result' ts (and_then (and_then (one_of code (66 ∷ []) r) (λ x r'. Yes x.place r')) (λ q r'. Yes e r'))
    after e [] p used parts s = absurd (dirty used ends.front ends.last (clean_tree e used s) (sym (append-nil used) ∙ sym parts ∙ ends.parts) (end_code ends.last ends.is))
    after e (x ∷ r) p used parts s = test (member (code x) (66 ∷ [])) refl
      where
        test : (b : Bool) → member (code x) (66 ∷ []) ≡ b → Result' ts (and_then (and_then (cond b (Yes x r) (No (x ∷ r))) (λ x r'. Yes x.place r')) (λ q r'. Yes e r'))
        test true m =
            let is : code x ≡ 66 = is_member (code x) 66 m in
            let nil = end_last used r ends.front x ends.last ends.before (sym parts ∙ ends.parts) is in
            record { front = used; back = x ∷ []; parts = parts ∙ ap (λ (w : List Tok). used ++ x ∷ w) nil; first = s; second = record { token = x; only = refl; kind = code_end x is } }
        test false m = bad_after n ts r x e used parts s p (λ k. let t : member (code x) (66 ∷ []) ≡ true = subst (λ (j : ℕ). member j (66 ∷ []) ≡ true) (sym k) refl in cc)

    stuck : (r : List Tok) → items n ts ≡ No r → Result' ts (No r)
    stuck r p = let t = (made_items n n (omega arith)).is.no ts r p in inside r p t.used t.rest t.value t.parts t.spelled
      where
        inside : (r : List Tok) → items n ts ≡ No r → (used rest : List Tok) (e : List ItemTree) → ts ≡ used ++ r → Items e (used ++ rest) → Result' ts (No r)
        inside [] p used rest e parts s = dirty used ends.front ends.last (clean_front used rest (clean_tree e (used ++ rest) s)) (sym (append-nil used) ∙ sym parts ∙ ends.parts) (end_code ends.last ends.is)
        inside (x ∷ r) p used rest e parts s = bad_inside n ts r x e used rest parts s p

    go : (o : Out Tok (List ItemTree)) → items n ts ≡ o → Result' ts (and_then o (λ e r. and_then (and_then (one_of code (66 ∷ []) r) (λ x r'. Yes x.place r')) (λ q r'. Yes e r')))
    go (Yes e r) p = let t = (made_items n n (omega arith)).is.yes ts r e p in after e r p t.used t.parts t.spelled
    go (No r) p = stuck r p
    go Deep p = let k = (made_items n n (omega arith)).is.enough ts p in omega arith
