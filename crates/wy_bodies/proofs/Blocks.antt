-- Statements one after another, and the last of them.
use Rattle.std.proofs.Common.{◌≡◌, ℕ, ◌+◌, ◌≤◌, List, [], ◌∷◌, ◌++◌, length, take, Option, refl, sym, ap, ap₂, subst, ◌∙◌, arith, append_assoc, length-append}
use Rattle.std.proofs.lemmas.List.{take-append-le, take_all}
use Rattle.wy_text.specs.declared.fault.Place.{Place}
use Rattle.wy_syntax.specs.Trees as t
use Rattle.wy_types.specs.declared.code.Stmt as s
use Rattle.wy_types.specs.declared.code.Value.{Value}
use Rattle.wy_types.specs.declared.code.Variable.TheVariants.{Local}
use Rattle.wy_types.specs.declared.types.TypeRef.{TypeRef}
use Rattle.wy_types.specs.Code as code
use Rattle.wy_types.specs.View as view
use Rattle.wy_types.specs.View.{value_of}
use Rattle.wy_bodies.specs.Sight.{Sight}
use Rattle.wy_bodies.specs.Bodies.{Within, Count, stmt_block, stmts_block, stmt_sight, stmt_after}
use Rattle.wy_bodies.specs.FoundBodies.{Found, after_stmt, after_stmts, with_stmt, Form, named, alone, form_of, stmt_form, last_form, ended}
use Rattle.wy_bodies.specs.InSight.{Known, known, Frame, sight_of, IsLonger}
use Rattle.wy_bodies.proofs.Walks.{made, stmts_next, stmt_sight_is}

pub stmts_block-append : (xs : List s.Stmt) (x : s.Stmt) (rest : code.Block) → view.stmts_block (xs ++ x ∷ []) rest ≡ view.stmts_block xs (view.stmt_block x rest)
stmts_block-append [] x rest = refl
stmts_block-append (y ∷ xs) x rest = ap (view.stmt_block y) (stmts_block-append xs x rest)

pub ended-append : (p : Place) (xs : List s.Stmt) (x : s.Stmt) → ended p (xs ++ x ∷ []) ≡ view.stmts_block xs (last_form p (form_of x))
ended-append p [] x = refl
ended-append p (y ∷ []) x = refl
ended-append p (y ∷ z ∷ zs) x = ap (view.stmt_block y) (ended-append p (z ∷ zs) x)

-- what is done, and what is left
abbrev pub joined : Within → Place → List s.Stmt → Sight → Count → t.StmtTrees → code.Block
joined w p done si n t.no_stmts = ended p done
joined w p done si n (t.more_stmts x xs) = view.stmts_block done (stmts_block w p si n (t.more_stmts x xs))

pub joined_none : (w : Within) (p : Place) (si : Sight) (n : Count) (xs : t.StmtTrees) → joined w p [] si n xs ≡ stmts_block w p si n xs
joined_none w p si n t.no_stmts = refl
joined_none w p si n (t.more_stmts x xs) = refl

-- a statement before others
before : Form → code.Block → code.Block
before (named place number typ v) rest = code.Val place number typ v rest
before (alone v) rest = code.Then v rest

made_before : (x : s.Stmt) (rest : code.Block) → view.stmt_block x rest ≡ before (form_of x) rest
unfolding before
made_before (s.Val place number typ v) rest = refl
made_before (s.Do v) rest = refl

tree_before : (w : Within) (si : Sight) (n : Count) (x y : t.StmtTree) (ys : t.StmtTrees) (rest : code.Block) → stmt_block w si n x (t.more_stmts y ys) rest ≡ before (stmt_form w si n x) rest
unfolding before
tree_before w si n (t.val a u r) y ys rest = refl
tree_before w si n (t.assign a r) y ys rest = refl
tree_before w si n (t.run r) y ys rest = refl

tree_last : (w : Within) (p : Place) (si : Sight) (n : Count) (x : t.StmtTree) → stmt_block w si n x t.no_stmts (code.Last (code.Plain (code.Nothing p))) ≡ last_form p (stmt_form w si n x)
tree_last w p si n (t.val a u r) = refl
tree_last w p si n (t.assign a r) = refl
tree_last w p si n (t.run r) = refl

pub joined_more : (w : Within) (p : Place) (done : List s.Stmt) (c : s.Stmt) (si : Sight) (n : Count) (x : t.StmtTree) (xs : t.StmtTrees) → form_of c ≡ stmt_form w si n x →
    joined w p (done ++ c ∷ []) (stmt_sight w si n x) (stmt_after n x) xs ≡ joined w p done si n (t.more_stmts x xs)
joined_more w p done c si n x t.no_stmts h =
    ended-append p done c ∙ ap (λ f. view.stmts_block done (last_form p f)) h ∙ ap (view.stmts_block done) (sym (tree_last w p si n x))
joined_more w p done c si n x (t.more_stmts y ys) h =
    let rest = stmts_block w p (stmt_sight w si n x) (stmt_after n x) (t.more_stmts y ys) in
    stmts_block-append done c rest
    ∙ ap (view.stmts_block done) (made_before c rest ∙ ap (λ f. before f rest) h ∙ sym (tree_before w si n x y ys rest))

pub ended_do : (p : Place) (front items : List s.Stmt) (v v' : Value) → items ≡ front ++ s.Do v ∷ [] → v' ≡ v → view.stmts_block front (code.Last (value_of v')) ≡ ended p items
ended_do p front items v v' h g = ap (λ x. view.stmts_block front (code.Last (value_of x))) g ∙ sym (ended-append p front (s.Do v)) ∙ ap (ended p) (sym h)

pub ended_val : (p a : Place) (n : ℕ) (typ : Option TypeRef) (front back items : List s.Stmt) (v v' : Value) → items ≡ front ++ s.Val a n typ v ∷ [] → back ≡ front ++ s.Val a n typ v ∷ [] →
    value_of v' ≡ code.Plain (code.Nothing p) → view.stmts_block back (code.Last (value_of v')) ≡ ended p items
ended_val p a n typ front back items v v' h k g =
    ap₂ (λ l x. view.stmts_block l (code.Last x)) k g
    ∙ stmts_block-append front (s.Val a n typ v) (code.Last (code.Plain (code.Nothing p)))
    ∙ sym (ended-append p front (s.Val a n typ v)) ∙ ap (ended p) (sym h)

-- what was in sight before is in sight still
pub longer_start : (n : ℕ) (start ks : List Known) → n ≤ length start → IsLonger start ks → n ≤ length ks
longer_start n start ks le h =
    let is : length ks ≡ length start + length h.more = ap (λ (l : List Known). length l) h.is ∙ length-append start h.more in
    omega (arith, is)

longer_stmt : (start ks : List Known) (n : Count) (x : t.StmtTree) → IsLonger start ks → IsLonger start (with_stmt ks n x)
longer_stmt start ks n (t.val x u r) h =
    record { more = h.more ++ known x.text (Local n.vals) ∷ []; is = ap (λ l. l ++ known x.text (Local n.vals) ∷ []) h.is ∙ append_assoc start h.more (known x.text (Local n.vals) ∷ []) }
longer_stmt start ks n (t.assign x r) h = h
longer_stmt start ks n (t.run r) h = h

-- a block's own variables go out of sight
pub longer_back : (start ks : List Known) → IsLonger start ks → take (length start) ks ≡ start
longer_back start ks h = ap (take (length start)) h.is ∙ take-append-le (length start) start h.more (omega arith) ∙ take_all (length start) start (omega arith)

append_nil : {X : Type 0} (xs : List X) → xs ++ [] ≡ xs
append_nil [] = refl
append_nil (x ∷ xs) = ap (λ l. x ∷ l) (append_nil xs)

pub longer_none : (ks : List Known) → IsLonger ks ks
longer_none ks = record { more = []; is = sym (append_nil ks) }

-- nothing is left
pub found_end : (w : Within) (si : Sight) (f : Found) → f ≡ after_stmts w si f t.no_stmts
found_end w si f = ap₂ (λ l b. made f.count l b f.least) (sym (append_nil f.literals)) (sym (append_nil f.bodies))

-- one statement more
module _ (w : Within) (fr : Frame) (start ks ks' : List Known) (f f' : Found) (x : t.StmtTree) (q left : t.StmtTrees)
    (le : fr.start ≤ length ks) (at : q ≡ t.more_stmts x left) (hk : ks' ≡ with_stmt ks f.count x) (hf : f' ≡ after_stmt w (sight_of fr ks) f x) where
  sight_turn : sight_of fr ks' ≡ stmt_sight w (sight_of fr ks) f.count x
  sight_turn = ap (sight_of fr) hk ∙ stmt_sight_is w fr ks f.count x le

  pub block_longer : IsLonger start ks → IsLonger start ks'
  block_longer h = let P : List Known → Type 0 = λ l. IsLonger start l in subst P (sym hk) (longer_stmt start ks f.count x h)

  pub block_found : (whole : Found) → after_stmts w (sight_of fr ks) f q ≡ whole → after_stmts w (sight_of fr ks') f' left ≡ whole
  block_found whole h =
      ap₂ (λ a b. after_stmts w a b left) sight_turn hf
      ∙ stmts_next w (sight_of fr ks) f x left ∙ ap (after_stmts w (sight_of fr ks) f) (sym at) ∙ h

  pub block_value : (p : Place) (done done' : List s.Stmt) (c : s.Stmt) (whole : code.Block) → done' ≡ done ++ c ∷ [] → form_of c ≡ stmt_form w (sight_of fr ks) f.count x →
      joined w p done (sight_of fr ks) f.count q ≡ whole → joined w p done' (sight_of fr ks') f'.count left ≡ whole
  block_value p done done' c whole pushed form h =
      ap₂ (λ d a. joined w p d a f'.count left) pushed sight_turn
      ∙ ap (λ (g : Found). joined w p (done ++ c ∷ []) (stmt_sight w (sight_of fr ks) f.count x) g.count left) hf
      ∙ joined_more w p done c (sight_of fr ks) f.count x left form
      ∙ ap (joined w p done (sight_of fr ks) f.count) (sym at) ∙ h

pub start_kept : (w : Within) (fr : Frame) (ks ks' : List Known) (n : Count) (x : t.StmtTree) → fr.start ≤ length ks → ks' ≡ with_stmt ks n x → fr.start ≤ length ks'
start_kept w fr ks ks' n x le hk =
    let P : List Known → Type 0 = λ l. fr.start ≤ length l in
    subst P (sym hk) (longer_start fr.start ks (with_stmt ks n x) le (longer_stmt ks ks n x (longer_none ks)))
