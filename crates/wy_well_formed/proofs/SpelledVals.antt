-- Where tokens spell a tree, the names of its `val` statements are among the names of the tokens, in their order.
use Rattle.std.proofs.Common.{◌≡◌, ℕ, Bool, true, false, List, [], ◌∷◌, ◌++◌, Some, None, inl, inr, refl, sym, ap, ◌∙◌, subst}
use Rattle.std.specs.Prelude.{◌==◌}
use Rattle.wy_text.specs.declared.fault.Place.{Place}
use Rattle.wy_syntax.specs.declared.types.Name.{Name}
use Rattle.wy_syntax.specs.Tokens.{Tok, code, code_of}
use Rattle.wy_syntax.specs.Trees as t
use Rattle.wy_syntax.specs.Trees.{InsideTree, ItemTree, type_item, pure_item, resource_item, plain_item, program_item}
use Rattle.wy_syntax.specs.Languages.{Lang, Word, Then, Indented, Lines}
use Rattle.wy_syntax.specs.StmtGrammar.{SpellsRhs, SpellsStmt, SpellsBlock, SpellsPart, SpellsParts, SpellsTail}
use Rattle.wy_syntax.specs.Grammar.{SpellsInside, SpellsItem}
use Rattle.wy_syntax.specs.Before.{is_before}
use Rattle.wy_text.specs.Members.{In, Within}
use Rattle.wy_text.proofs.Lists.{In-cases, In-left, In-right}
use Rattle.wy_symbols.specs.Declarations.{ModuleTree, ProgramTree, item_modules, item_programs}
use Rattle.wy_well_formed.specs.ValPlaces.{if_name, name_places, Ascend, rhs_val_places, stmt_val_places, stmts_val_places, part_val_places, parts_val_places, tail_val_places}

-- places of names among tokens, in their order
pub record Ordered (ps : List Place) (u : List Tok) : Type 0 where
  pub among : Within ps (name_places u)
  pub ascend : Ascend (name_places u) → Ascend ps

ordered_none : {u : List Tok} → Ordered [] u
ordered_none = record { among = λ p i. absurd i; ascend = λ h. tt }

------------------------------------------------------------
-- Lists of places

name_places_append : (xs ys : List Tok) → name_places (xs ++ ys) ≡ name_places xs ++ name_places ys
name_places_append [] ys = refl
name_places_append (x ∷ xs) ys =
    let P : Bool → Type 0 = λ c. if_name c x.place (name_places (xs ++ ys)) ≡ if_name c x.place (name_places xs) ++ name_places ys in
    elim (code x == 1) as P [ true ↦ ap (λ l. x.place ∷ l) (name_places_append xs ys) | false ↦ name_places_append xs ys ]

ascend_left : (ps qs : List Place) → Ascend (ps ++ qs) → Ascend ps
ascend_left [] qs h = tt
ascend_left (p ∷ ps) qs h = (λ q i. h.0 q (In-left q ps qs i), ascend_left ps qs h.1)

ascend_right : (ps qs : List Place) → Ascend (ps ++ qs) → Ascend qs
ascend_right [] qs h = h
ascend_right (p ∷ ps) qs h = ascend_right ps qs h.1

ascend_across : (ps qs : List Place) → Ascend (ps ++ qs) → (p q : Place) → In p ps → In q qs → is_before p q ≡ true
ascend_across [] qs h p q i j = absurd i
ascend_across (r ∷ ps) qs h p q (inl e) j = subst (λ v. is_before v q ≡ true) e (h.0 q (In-right q ps qs j))
ascend_across (r ∷ ps) qs h p q (inr i) j = ascend_across ps qs h.1 p q i j

ascend_both : (ps qs : List Place) → Ascend ps → Ascend qs → ((p q : Place) → In p ps → In q qs → is_before p q ≡ true) → Ascend (ps ++ qs)
ascend_both [] qs h g across = g
ascend_both (p ∷ ps) qs h g across = (
  λ q i. elim (In-cases q ps qs i) [ inl j ↦ h.0 q j | inr j ↦ across p q (inl refl) j ],
  ascend_both ps qs h.1 g (λ r q i j. across r q (inr i) j),
)

------------------------------------------------------------
-- Parts of tokens

module _ {P Q : Lang} {u : List Tok} (x : Then P Q u) where
  split : name_places u ≡ name_places x.front ++ name_places x.back
  split = ap name_places x.parts ∙ name_places_append x.front x.back

  places_split : Ascend (name_places u) → Ascend (name_places x.front ++ name_places x.back)
  places_split h = subst (λ l. Ascend l) split h

  joined : (p : Place) → In p (name_places x.front ++ name_places x.back) → In p (name_places u)
  joined p i = subst (λ l. In p l) (sym split) i

  of_first : {ps : List Place} → Ordered ps x.front → Ordered ps u
  of_first h = record {
    among = λ p i. joined p (In-left p (name_places x.front) (name_places x.back) (h.among p i));
    ascend = λ a. h.ascend (ascend_left (name_places x.front) (name_places x.back) (places_split a));
  }

  of_second : {ps : List Place} → Ordered ps x.back → Ordered ps u
  of_second h = record {
    among = λ p i. joined p (In-right p (name_places x.front) (name_places x.back) (h.among p i));
    ascend = λ a. h.ascend (ascend_right (name_places x.front) (name_places x.back) (places_split a));
  }

  of_both : (ps qs : List Place) → Ordered ps x.front → Ordered qs x.back → Ordered (ps ++ qs) u
  of_both ps qs h g = record {
    among = λ p i. elim (In-cases p ps qs i) [
      | inl j ↦ joined p (In-left p (name_places x.front) (name_places x.back) (h.among p j))
      | inr j ↦ joined p (In-right p (name_places x.front) (name_places x.back) (g.among p j))
    ];
    ascend = λ a.
        let b = places_split a in
        ascend_both ps qs (h.ascend (ascend_left (name_places x.front) (name_places x.back) b)) (g.ascend (ascend_right (name_places x.front) (name_places x.back) b))
        (λ p q i j. ascend_across (name_places x.front) (name_places x.back) b p q (h.among p i) (g.among q j));
  }

-- with nothing behind
of_last : (ps : List Place) {u : List Tok} → Ordered ps u → Ordered (ps ++ []) u
of_last ps h = record {
  among = λ p i. elim (In-cases p ps [] i) [ inl j ↦ h.among p j | inr j ↦ absurd j ];
  ascend = λ a. ascend_both ps [] (h.ascend a) tt (λ p q i j. absurd j);
}

-- the name itself
name_placed : (n : Name) (u : List Tok) → Word n u → name_places u ≡ n.place ∷ []
name_placed n u x =
    let named : (code x.token == 1) ≡ true = ap (λ k. code_of k == 1) x.kind in
    ap name_places x.only ∙ ap (λ c. if_name c x.token.place []) named ∙ ap (λ p. p ∷ []) x.place

of_name : (n : Name) {u : List Tok} → Word n u → Ordered (n.place ∷ []) u
of_name n {u} x =
    let e = name_placed n u x in
    record { among = λ p i. subst (λ l. In p l) (sym e) i; ascend = λ a. subst (λ l. Ascend l) e a }

of_lines : {P : Lang} {ps : List Place} {u : List Tok} → (x : Lines P u) → Ordered ps x.second.front → Ordered ps u
of_lines x h = of_second x (of_first x.second h)

------------------------------------------------------------
-- Trees

mutual
  rhs_ordered : (plain : Bool) (k : ℕ) (r : t.RhsTree) (u : List Tok) → SpellsRhs plain k r u → Ordered (rhs_val_places r) u
  rhs_ordered plain k (t.literal p ps) u x = of_second x (of_second x.second (indented_ordered plain ps x.second.back x.second.second))
  rhs_ordered plain k (t.branch p c a b) u (e, x) =
      let y = x.second.second.second in
      let z = y.second.second in
      of_second x (of_second x.second (of_second x.second.second
      (of_both y (stmts_val_places a) (stmts_val_places b) (of_lines y.first (block_ordered plain a y.first.second.front y.first.second.first))
      (of_second y.second (of_second z (of_lines z.second (block_ordered plain b z.second.second.front z.second.second.first)))))))
  rhs_ordered plain k (t.value e) u x = ordered_none

  stmt_ordered : (plain : Bool) (s : t.StmtTree) (u : List Tok) → SpellsStmt plain s u → Ordered (stmt_val_places s) u
  stmt_ordered plain (t.val x None r) u h =
      let y = h.second.second in
      of_second h (of_both h.second (x.place ∷ []) (rhs_val_places r) (of_name x h.second.first) (of_second y (rhs_ordered plain 1 r y.back y.second)))
  stmt_ordered plain (t.val x (Some v) r) u h =
      let y = h.second.second.second.second in
      of_second h (of_both h.second (x.place ∷ []) (rhs_val_places r) (of_name x h.second.first)
      (of_second h.second.second (of_second h.second.second.second (of_second y (rhs_ordered plain 0 r y.back y.second)))))
  stmt_ordered plain (t.assign x r) u h = of_second h (of_second h.second (rhs_ordered plain 0 r h.second.back h.second.second))
  stmt_ordered plain (t.run r) u h = rhs_ordered plain 0 r u h

  block_ordered : (plain : Bool) (ss : t.StmtTrees) (u : List Tok) → SpellsBlock plain ss u → Ordered (stmts_val_places ss) u
  block_ordered plain t.no_stmts u x = absurd x
  block_ordered plain (t.more_stmts s t.no_stmts) u (e, x) = of_last (stmt_val_places s) (stmt_ordered plain s u x)
  block_ordered plain (t.more_stmts s (t.more_stmts v ss)) u x =
      of_both x (stmt_val_places s) (stmts_val_places (t.more_stmts v ss)) (stmt_ordered plain s x.front x.first) (block_ordered plain (t.more_stmts v ss) x.back x.second)

  part_ordered : (plain : Bool) (p : t.PartTree) (u : List Tok) → SpellsPart plain p u → Ordered (part_val_places p) u
  part_ordered plain (t.field k x v r) u h =
      let y = h.second.second.second.second in
      of_second h (of_second h.second (of_second h.second.second (of_second h.second.second.second (of_second y (rhs_ordered plain 0 r y.back y.second)))))
  part_ordered plain (t.method g b) u h = of_second h (tail_ordered plain b h.back h.second)

  parts_ordered : (plain : Bool) (ps : t.PartTrees) (u : List Tok) → SpellsParts plain ps u → Ordered (parts_val_places ps) u
  parts_ordered plain t.no_parts u x = ordered_none
  parts_ordered plain (t.more_parts p ps) u x = of_both x (part_val_places p) (parts_val_places ps) (part_ordered plain p x.front x.first) (parts_ordered plain ps x.back x.second)

  indented_ordered : (plain : Bool) (ps : t.PartTrees) (u : List Tok) → Indented (ps ≡ t.no_parts) (SpellsParts plain ps) u → Ordered (parts_val_places ps) u
  indented_ordered plain t.no_parts u x = ordered_none
  indented_ordered plain (t.more_parts p ps) u (inl x) = let e = x.0 in absurd cc
  indented_ordered plain (t.more_parts p ps) u (inr x) =
      let y = x.second.first in
      of_lines x (of_both y (part_val_places p) (parts_val_places ps) (part_ordered plain p y.front y.first) (parts_ordered plain ps y.back y.second))

  tail_ordered : (plain : Bool) (b : t.TailTree) (u : List Tok) → SpellsTail plain b u → Ordered (tail_val_places b) u
  tail_ordered plain (t.short r) u x = of_second x (rhs_ordered plain 0 r x.back x.second)
  tail_ordered plain (t.long ss) u x = of_second x (of_lines x.second (block_ordered plain ss x.second.second.front x.second.second.first))

------------------------------------------------------------
-- Items

inside_ordered : (i : InsideTree) (u : List Tok) → SpellsInside i u → Ordered (parts_val_places i.parts) u
inside_ordered i u (inl h) = subst (λ (v : InsideTree). Ordered (parts_val_places v.parts) u) (sym h.0) ordered_none
inside_ordered i u (inr x) =
    let a = x.second.first in
    let b = a.second in
    let c = b.second in
    let d = c.second in
    of_lines x (of_second a (of_second b (of_second c (of_second d (parts_ordered false i.parts d.back d.second)))))

pub module_ordered : (i : ItemTree) (m : ModuleTree) → In m (item_modules i) → (u : List Tok) → SpellsItem i u → Ordered (parts_val_places m.parts) u
module_ordered (type_item d) m i u x = absurd i
module_ordered (pure_item p n sealed within) m (inl e) u x =
    let a = x.second in
    let b = a.second in
    let c = b.second in
    let d = c.second in
    subst (λ (v : ModuleTree). Ordered (parts_val_places v.parts) u) e (of_second x (of_second a (of_second b (of_second c (of_second d (inside_ordered within d.back d.second))))))
module_ordered (pure_item p n sealed within) m (inr i) u x = absurd i
module_ordered (resource_item p n params sealed within) m (inl e) u x =
    let a = x.second in
    let b = a.second in
    let c = b.second in
    let d = c.second in
    let f = d.second in
    let g = f.second in
    subst (λ (v : ModuleTree). Ordered (parts_val_places v.parts) u) e
    (of_second x (of_second a (of_second b (of_second c (of_second d (of_second f (of_second g (inside_ordered within g.back g.second))))))))
module_ordered (resource_item p n params sealed within) m (inr i) u x = absurd i
module_ordered (plain_item p n params sealed parts) m (inl e) u x =
    let a = x.second in
    let b = a.second in
    let c = b.second in
    let d = c.second in
    let f = d.second in
    let g = f.second in
    subst (λ (v : ModuleTree). Ordered (parts_val_places v.parts) u) e
    (of_second x (of_second a (of_second b (of_second c (of_second d (of_second f (of_second g (indented_ordered true parts g.back g.second))))))))
module_ordered (plain_item p n params sealed parts) m (inr i) u x = absurd i
module_ordered (program_item p grants uses lines run effect body) m i u x = absurd i

pub program_ordered : (i : ItemTree) (g : ProgramTree) → In g (item_programs i) → (u : List Tok) → SpellsItem i u → Ordered (tail_val_places g.body) u
program_ordered (type_item d) g i u x = absurd i
program_ordered (pure_item p n sealed within) g i u x = absurd i
program_ordered (resource_item p n params sealed within) g i u x = absurd i
program_ordered (plain_item p n params sealed parts) g i u x = absurd i
program_ordered (program_item p grants uses lines run effect body) g (inl e) u x =
    let a = x.second in
    let b = a.second in
    let c = b.second in
    let d = c.second in
    let f = d.second in
    let j = f.second in
    let k = j.second in
    let l = k.second in
    let o = l.second in
    subst (λ (v : ProgramTree). Ordered (tail_val_places v.body) u) e
    (of_second x (of_second a (of_second b (of_second c (of_second d (of_second f (of_second j (of_second k (of_second l (of_first o (tail_ordered false body o.front o.first)))))))))))
program_ordered (program_item p grants uses lines run effect body) g (inr i) u x = absurd i
