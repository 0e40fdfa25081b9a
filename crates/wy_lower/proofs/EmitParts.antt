-- What is collected of the parts of a form, in their order, is what is collected of it.
use Rattle.std.proofs.Common.{◌≡◌, ◌<◌, ◌≤◌, ℕ, ◌+◌, false, List, [], ◌∷◌, ◌++◌, length, drop, get_or, refl, sym, ap, ◌∙◌, subst, append_assoc, append-nil}
use Rattle.wy_types.specs.declared.code.Value as v
use Rattle.wy_types.specs.declared.code.Stmt as s
use Rattle.wy_text.specs.declared.fault.Place.{Place}
use Rattle.wy_types.specs.declared.code.BinaryOperator.{BinaryOperator}
use Rattle.wy_types.specs.declared.code.TextOperator.{TextOperator}
use Rattle.wy_types.specs.Code.{Expr, Binary, TextCall, Call, New, If, Values, Block, Value, Last}
use Rattle.wy_types.specs.Vals.{expr_vals, value_vals, values_vals, block_vals}
use Rattle.wy_types.specs.View.{value_of, values_of, stmt_block, stmts_block}
use Rattle.wy_lower.specs.declared.gathering.Found.{Found}
use Rattle.wy_lower.specs.declared.gathering.Names.{Names}
use Rattle.wy_lower.specs.Parts.{expr_parts, value_parts, values_parts, block_parts, text_in, texts_in, call_in, calls_in, each_once_after}
use Rattle.wy_lower.specs.EmitGathers.{make_in, makes_in, statement_parts, statement_vals, Gathers}
use Rattle.wy_lower.proofs.EmitLists.{split_at, drop_all}
use Rattle.wy_lower.proofs.EmitPlaces.{once_append}

pub texts_append : (es fs : List Expr) → texts_in (es ++ fs) ≡ texts_in es ++ texts_in fs
texts_append [] fs = refl
texts_append (e ∷ es) fs = ap (λ l. text_in e ++ l) (texts_append es fs) ∙ sym (append_assoc (text_in e) (texts_in es) (texts_in fs))

pub calls_append : (es fs : List Expr) → calls_in (es ++ fs) ≡ calls_in es ++ calls_in fs
calls_append [] fs = refl
calls_append (e ∷ es) fs = ap (λ l. call_in e ++ l) (calls_append es fs) ∙ sym (append_assoc (call_in e) (calls_in es) (calls_in fs))

makes_append : (es fs : List Expr) → makes_in (es ++ fs) ≡ makes_in es ++ makes_in fs
makes_append [] fs = refl
makes_append (e ∷ es) fs = ap (λ l. make_in e ++ l) (makes_append es fs) ∙ sym (append_assoc (make_in e) (makes_in es) (makes_in fs))

-- nothing
pub gathers_none : (k : Names) (f : Found) → Gathers k k f f [] []
gathers_none k f = record { enough = λ w. w; texts = λ w. refl; methods = λ w. refl; makes = λ w. sym (append-nil f.makes.items); vals = λ w. sym (append-nil f.vals.items) }

-- two, one after the other
pub gathers_then : (k l m : Names) (f g h : Found) (es fs : List Expr) (ns ms : List ℕ) → Gathers k l f g es ns → Gathers l m g h fs ms → Gathers k m f h (es ++ fs) (ns ++ ms)
gathers_then k l m f g h es fs ns ms x y = record {
  enough = λ w. x.enough (y.enough w);
  texts = λ w. y.texts w ∙ ap (λ z. each_once_after z (texts_in fs)) (x.texts (y.enough w)) ∙ sym (once_append k.texts.keys (texts_in es) (texts_in fs)) ∙ ap (each_once_after k.texts.keys) (sym (texts_append es fs));
  methods = λ w. y.methods w ∙ ap (λ z. each_once_after z (calls_in fs)) (x.methods (y.enough w)) ∙ sym (once_append k.methods.keys (calls_in es) (calls_in fs)) ∙ ap (each_once_after k.methods.keys) (sym (calls_append es fs));
  makes = λ w. y.makes w ∙ ap (λ z. z ++ makes_in fs) (x.makes (y.enough w)) ∙ append_assoc f.makes.items (makes_in es) (makes_in fs) ∙ ap (λ z. f.makes.items ++ z) (sym (makes_append es fs));
  vals = λ w. y.vals w ∙ ap (λ z. z ++ ms) (x.vals (y.enough w)) ∙ append_assoc f.vals.items ns ms;
}

-- the same parts
pub gathers_as : (k l : Names) (f g : Found) (es fs : List Expr) (ns ms : List ℕ) → es ≡ fs → ns ≡ ms → Gathers k l f g es ns → Gathers k l f g fs ms
gathers_as k l f g es fs ns ms p q x = subst (λ (z : List Expr). Gathers k l f g z ms) p (subst (λ (z : List ℕ). Gathers k l f g es z) q x)

------------------------------------------------------------
-- Several, in a loop

-- what is left, collected from here on, is all
pub record Gathering (before now : Names) (old new : Found) (left all : List Expr) (ns ms : List ℕ) : Type 0 where
  pub after : (end : Names) (last : Found) → Gathers now end new last left ns → Gathers before end old last all ms

pub gathering_none : (k : Names) (f : Found) (all : List Expr) (ms : List ℕ) → Gathering k k f f all all ms ms
gathering_none k f all ms = record { after = λ end last x. x }

gathering_less : (before now next : Names) (old new later : Found) (es left whole all : List Expr) (ns rest both ms : List ℕ) → whole ≡ es ++ left → both ≡ ns ++ rest →
    Gathering before now old new whole all both ms → Gathers now next new later es ns → Gathering before next old later left all rest ms
gathering_less before now next old new later es left whole all ns rest both ms p q x y = record {
  after = λ end last z. x.after end last (gathers_as now end new last (es ++ left) whole (ns ++ rest) both (sym p) (sym q) (gathers_then now next end new later last es left ns rest y z));
}

pub values_more : (before now next : Names) (old new later : Found) (xs : List v.Value) (i : ℕ) (x : v.Value) (all : List Expr) (ms : List ℕ) → i < length xs → x ≡ get_or xs i x →
    Gathering before now old new (values_parts (values_of (drop i xs))) all (values_vals (values_of (drop i xs))) ms → Gathers now next new later (value_parts (value_of x)) (value_vals (value_of x)) →
    Gathering before next old later (values_parts (values_of (drop (i + 1) xs))) all (values_vals (values_of (drop (i + 1) xs))) ms
values_more before now next old new later xs i x all ms lt same l e =
    let at = split_at xs i x lt same in
    gathering_less before now next old new later (value_parts (value_of x)) (values_parts (values_of (drop (i + 1) xs))) (values_parts (values_of (drop i xs))) all (value_vals (value_of x)) (values_vals (values_of (drop (i + 1) xs))) (values_vals (values_of (drop i xs))) ms
    (ap (λ ys. values_parts (values_of ys)) at) (ap (λ ys. values_vals (values_of ys)) at) l e

pub values_end : (before now : Names) (old new : Found) (xs : List v.Value) (i : ℕ) (all : List Expr) (ms : List ℕ) → length xs ≤ i →
    Gathering before now old new (values_parts (values_of (drop i xs))) all (values_vals (values_of (drop i xs))) ms → Gathers before now old new all ms
values_end before now old new xs i all ms le x =
    let none = sym (drop_all xs i le) in
    x.after now new (gathers_as now now new new [] _ [] _ (ap (λ ys. values_parts (values_of ys)) none) (ap (λ ys. values_vals (values_of ys)) none) (gathers_none now new))

parts_first : (x : s.Stmt) (rest : Block) → block_parts (stmt_block x rest) ≡ statement_parts x ++ block_parts rest
parts_first (s.Val place n typ x) rest = refl
parts_first (s.Do x) rest = refl

vals_first : (x : s.Stmt) (rest : Block) → block_vals (stmt_block x rest) ≡ statement_vals x ++ block_vals rest
vals_first (s.Val place n typ x) rest = refl
vals_first (s.Do x) rest = refl

pub block_more : (before now next : Names) (old new later : Found) (xs : List s.Stmt) (i : ℕ) (x : s.Stmt) (last : Block) (all : List Expr) (ms : List ℕ) → i < length xs → x ≡ get_or xs i x →
    Gathering before now old new (block_parts (stmts_block (drop i xs) last)) all (block_vals (stmts_block (drop i xs) last)) ms → Gathers now next new later (statement_parts x) (statement_vals x) →
    Gathering before next old later (block_parts (stmts_block (drop (i + 1) xs) last)) all (block_vals (stmts_block (drop (i + 1) xs) last)) ms
block_more before now next old new later xs i x last all ms lt same l e =
    let at = split_at xs i x lt same in
    let rest = stmts_block (drop (i + 1) xs) last in
    gathering_less before now next old new later (statement_parts x) (block_parts rest) (block_parts (stmts_block (drop i xs) last)) all (statement_vals x) (block_vals rest) (block_vals (stmts_block (drop i xs) last)) ms
    (ap (λ ys. block_parts (stmts_block ys last)) at ∙ parts_first x rest) (ap (λ ys. block_vals (stmts_block ys last)) at ∙ vals_first x rest) l e

pub block_end : (before now next : Names) (old new later : Found) (xs : List s.Stmt) (i : ℕ) (x u : Value) (all : List Expr) (ms : List ℕ) → length xs ≤ i → u ≡ x →
    Gathering before now old new (block_parts (stmts_block (drop i xs) (Last x))) all (block_vals (stmts_block (drop i xs) (Last x))) ms → Gathers now next new later (value_parts u) (value_vals u) → Gathers before next old later all ms
block_end before now next old new later xs i x u all ms le same l e =
    let none = drop_all xs i le in
    let parts = ap value_parts same ∙ sym (ap (λ ys. block_parts (stmts_block ys (Last x))) none) in
    let vals = ap value_vals same ∙ sym (ap (λ ys. block_vals (stmts_block ys (Last x))) none) in
    l.after next later (gathers_as now next new later (value_parts u) _ (value_vals u) _ parts vals e)

------------------------------------------------------------
-- Forms of several parts

module _ (k : Names) (f : Found) where
  gathers_expr : (l : Names) (g : Found) (u x : Expr) → u ≡ x → Gathers k l f g (expr_parts u) (expr_vals u) → Gathers k l f g (expr_parts x) (expr_vals x)
  gathers_expr l g u x same h = subst (λ (z : Expr). Gathers k l f g (expr_parts z) (expr_vals z)) same h

  pub gathers_text_call : (l : Names) (g : Found) (e : Expr) (place : Place) (o : TextOperator) (xs : Values) → e ≡ TextCall place o xs → Gathers k l f g (values_parts xs) (values_vals xs) → Gathers k l f g (expr_parts e) (expr_vals e)
  gathers_text_call l g e place o xs form h = gathers_expr l g (TextCall place o xs) e (sym form) (record { enough = h.enough; texts = h.texts; methods = h.methods; makes = h.makes; vals = h.vals })

  pub gathers_new : (l m : Names) (g h : Found) (e : Expr) (place : Place) (n : ℕ) (xs : Values) → e ≡ New place n xs → (l.wanting ≡ false → k.wanting ≡ false) → l.texts.keys ≡ k.texts.keys → l.methods.keys ≡ k.methods.keys →
      (l.wanting ≡ false → g.makes.items ≡ f.makes.items ++ n ∷ []) → g.vals.items ≡ f.vals.items →
      Gathers l m g h (values_parts xs) (values_vals xs) → Gathers k m f h (expr_parts e) (expr_vals e)
  gathers_new l m g h e place n xs form enough texts methods made same x = gathers_expr m h (New place n xs) e (sym form) (record {
    enough = λ w. enough (x.enough w);
    texts = λ w. x.texts w ∙ ap (λ z. each_once_after z (texts_in (values_parts xs))) texts;
    methods = λ w. x.methods w ∙ ap (λ z. each_once_after z (calls_in (values_parts xs))) methods;
    makes = λ w. x.makes w ∙ ap (λ l. l ++ makes_in (values_parts xs)) (made (x.enough w)) ∙ append_assoc f.makes.items (n ∷ []) (makes_in (values_parts xs));
    vals = λ w. x.vals w ∙ ap (λ l. l ++ values_vals xs) same;
  })

  pub gathers_binary : (l m : Names) (g h : Found) (e : Expr) (place : Place) (o : BinaryOperator) (x y u w : Expr) → e ≡ Binary place o x y → u ≡ x → w ≡ y →
      Gathers k l f g (expr_parts u) (expr_vals u) → Gathers l m g h (expr_parts w) (expr_vals w) → Gathers k m f h (expr_parts e) (expr_vals e)
  gathers_binary l m g h e place o x y u w form first second p q =
      let second = subst (λ (z : Expr). Gathers l m g h (expr_parts z) (expr_vals z)) second q in
      let r = gathers_then k l m f g h (expr_parts x) (expr_parts y) (expr_vals x) (expr_vals y) (gathers_expr l g u x first p) second in
      gathers_expr m h (Binary place o x y) e (sym form) (record { enough = r.enough; texts = r.texts; methods = r.methods; makes = r.makes; vals = r.vals })

  pub gathers_call : (l m n : Names) (g h : Found) (e : Expr) (place : Place) (x u : Expr) (name : List ℕ) (xs : Values) → e ≡ Call place x name xs → u ≡ x →
      Gathers k l f g (expr_parts u) (expr_vals u) → Gathers l m g h (values_parts xs) (values_vals xs) → (n.wanting ≡ false → m.wanting ≡ false) → n.texts.keys ≡ m.texts.keys → (n.wanting ≡ false → n.methods.keys ≡ each_once_after m.methods.keys (name ∷ [])) →
      Gathers k n f h (expr_parts e) (expr_vals e)
  gathers_call l m n g h e place x u name xs form first p q enough same put =
      let own : Gathers m n h h (Call place x name xs ∷ []) [] = record { enough = enough; texts = λ w. same; methods = put; makes = λ w. sym (append-nil h.makes.items); vals = λ w. sym (append-nil h.vals.items) } in
      let rest = gathers_then l m n g h h (values_parts xs) (Call place x name xs ∷ []) (values_vals xs) [] q own in
      let all = gathers_then k l n f g h (expr_parts x) (values_parts xs ++ Call place x name xs ∷ []) (expr_vals x) (values_vals xs ++ []) (gathers_expr l g u x first p) rest in
      gathers_expr n h (Call place x name xs) e (sym form)
      (gathers_as k n f h (expr_parts x ++ (values_parts xs ++ Call place x name xs ∷ [])) _ (expr_vals x ++ (values_vals xs ++ [])) _ refl (ap (λ l. expr_vals x ++ l) (append-nil (values_vals xs))) all)

  pub gathers_if : (l m n : Names) (g h i : Found) (e : Value) (place : Place) (test u : Expr) (first second : Block) → e ≡ If place test first second → u ≡ test →
      Gathers k l f g (expr_parts u) (expr_vals u) → Gathers l m g h (block_parts first) (block_vals first) → Gathers m n h i (block_parts second) (block_vals second) → Gathers k n f i (value_parts e) (value_vals e)
  gathers_if l m n g h i e place test u first second form same p q r =
      subst (λ (z : Value). Gathers k n f i (value_parts z) (value_vals z)) (sym form) (
      gathers_then k l n f g i (expr_parts test) (block_parts first ++ block_parts second) (expr_vals test) (block_vals first ++ block_vals second) (gathers_expr l g u test same p)
      (gathers_then l m n g h i (block_parts first) (block_parts second) (block_vals first) (block_vals second) q r)
      )
