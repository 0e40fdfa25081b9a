-- Literals that are not refused have fields of written types, under names that differ.
use Rattle.std.proofs.Common.{◌≡◌, ℕ, ◌≤◌, List, [], ◌∷◌, ◌++◌, map, length, inl, inr, refl, sym, ap, subst, arith}
use Rattle.wy_syntax.specs.Trees as t
use Rattle.wy_text.specs.Members.{In, Apart}
use Rattle.wy_text.proofs.Lists.{In-cases}
use Rattle.wy_types.specs.declared.resolved.Field.{Field}
use Rattle.wy_types.specs.declared.resolved.Literal.{Literal}
use Rattle.wy_types.specs.Program.{Program, Scope}
use Rattle.wy_types.specs.Core.{IsWritten, AllWritten}
use Rattle.wy_symbols.specs.Declarations.{texts, repeated}
use Rattle.wy_heads.specs.Counts as counts
use Rattle.wy_heads.specs.Counts.{field_count}
use Rattle.wy_symbols.specs.TypeUses.{signature_refusals}
use Rattle.wy_bodies.specs.Sight.{Sight, inside, with_params}
use Rattle.wy_bodies.specs.Bodies.{Within, Count, one_val, one_literal, one_body, rhs_after, stmt_after, stmts_after, part_after, tail_after, stmt_sight, fields_of, literal_of, rhs_literals, stmt_literals, stmts_literals, part_literals, parts_literals, tail_literals}
use Rattle.wy_bodies.specs.BodyRefusals.{value_refusals, typed_refusals, typed_if_refusals, expr_refusals, field_names, def_names, repeated_parts, rhs_refusals, stmt_refusals, stmts_refusals, part_refusals, parts_refusals, tail_refusals}
use Rattle.wy_well_formed.proofs.Scoping.{ReadsIn, FewIn, AllFew}
use Rattle.wy_well_formed.proofs.Repeats.{append_empty, repeated_apart}
use Rattle.wy_well_formed.proofs.Methods.{few_left, few_right}

-- what a core keeps of one literal
pub record LiteralHolds (p : Program) (s : Scope) (l : Literal) : Type 0 where
  pub written : AllWritten p s (map (λ (f : Field). f.typ) l.fields)
  pub apart : Apart (map (λ (f : Field). f.name) l.fields)
  pub few : length l.fields ≤ 128

-- the fields are those of the parts
names_of_fields : (w : Within) (ps : t.PartTrees) → map (λ (f : Field). f.name) (fields_of w ps) ≡ texts (field_names ps)
names_of_fields w t.no_parts = refl
names_of_fields w (t.more_parts (t.field k x u r) ps) = ap (λ l. x.text ∷ l) (names_of_fields w ps)
names_of_fields w (t.more_parts (t.method g b) ps) = names_of_fields w ps

count_of_fields : (w : Within) (ps : t.PartTrees) → length (fields_of w ps) ≡ field_count ps
count_of_fields w t.no_parts = refl
count_of_fields w (t.more_parts (t.field k x u r) ps) = (let h = count_of_fields w ps in omega arith)
count_of_fields w (t.more_parts (t.method g b) ps) = count_of_fields w ps

module _ (p : Program) (s : Scope) (w : Within) (read : ReadsIn p s w) where
  -- the types of fields
  fields_written : (si within : Sight) (n : Count) (ps : t.PartTrees) → parts_refusals w si within n ps ≡ [] → AllWritten p s (map (λ (f : Field). f.typ) (fields_of w ps))
  fields_written si within n t.no_parts e k i = absurd i
  fields_written si within n (t.more_parts (t.field kind x u r) ps) e k i =
      let z = append_empty (typed_refusals w u ++ rhs_refusals w si n r) (parts_refusals w si within (rhs_after n r) ps) e in
      let y = append_empty (typed_refusals w u) (rhs_refusals w si n r) z.0 in
      elim i [ inl same ↦ subst (IsWritten p s) same (read.types u y.0) | inr j ↦ fields_written si within (rhs_after n r) ps z.1 k j ]
  fields_written si within n (t.more_parts (t.method g b) ps) e k i =
      let z = append_empty (part_refusals w si within n (t.method g b)) (parts_refusals w si within (tail_after (one_body n) b) ps) e in
      fields_written si within (tail_after (one_body n) b) ps z.1 k i

  -- one literal
  pub literal_holds : (si within : Sight) (n : Count) (ps : t.PartTrees) → repeated_parts ps ≡ [] → parts_refusals w si within n ps ≡ [] → FewIn ps → LiteralHolds p s (literal_of w si ps)
  literal_holds si within n ps e f few =
      let z = append_empty (repeated [] (field_names ps)) (repeated [] (def_names ps)) e in
      let P : List (List ℕ) → Type 0 = λ l. Apart l in
      let Q : ℕ → Type 0 = λ m. m ≤ 128 in
      record {
        written = fields_written si within n ps f;
        apart = subst P (sym (names_of_fields w ps)) (repeated_apart [] (field_names ps) z.0);
        few = subst Q (sym (count_of_fields w ps)) few.fields;
      }

  -- each literal of a list
  abbrev pub LiteralsHold : List Literal → Type 0
  LiteralsHold ls = (l : Literal) → In l ls → LiteralHolds p s l

  literals_append : (xs ys : List Literal) → LiteralsHold xs → LiteralsHold ys → LiteralsHold (xs ++ ys)
  literals_append xs ys h g l i = elim (In-cases l xs ys i) [ inl j ↦ h l j | inr j ↦ g l j ]

  pub literals_more : (x : Literal) (xs : List Literal) → LiteralHolds p s x → LiteralsHold xs → LiteralsHold (x ∷ xs)
  literals_more x xs h g l i = elim i [ inl same ↦ subst (LiteralHolds p s) same h | inr j ↦ g l j ]

  -- the literals in a tree
  mutual
    rhs_literals_hold : (si : Sight) (n : Count) (r : t.RhsTree) → rhs_refusals w si n r ≡ [] → AllFew (counts.rhs_literals r) → LiteralsHold (rhs_literals w si n r)
    rhs_literals_hold si n (t.literal q ps) e few =
        let z = append_empty (repeated_parts ps) (parts_refusals w si (inside si ps) (one_literal n) ps) e in
        literals_more (literal_of w si ps) (parts_literals w si (inside si ps) (one_literal n) ps) (literal_holds si (inside si ps) (one_literal n) ps z.0 z.1 (few ps (inl refl)))
        (parts_literals_hold si (inside si ps) (one_literal n) ps z.1 (λ qs i. few qs (inr i)))
    rhs_literals_hold si n (t.branch q c a b) e few =
        let m = stmts_after n a in
        let z = append_empty (expr_refusals w si c) (stmts_refusals w si n a ++ stmts_refusals w si m b) e in
        let y = append_empty (stmts_refusals w si n a) (stmts_refusals w si m b) z.1 in
        literals_append (stmts_literals w si n a) (stmts_literals w si m b)
        (stmts_literals_hold si n a y.0 (few_left (counts.stmts_literals a) (counts.stmts_literals b) few))
        (stmts_literals_hold si m b y.1 (few_right (counts.stmts_literals a) (counts.stmts_literals b) few))
    rhs_literals_hold si n (t.value v) e few = λ l i. absurd i

    stmt_literals_hold : (si : Sight) (n : Count) (x : t.StmtTree) → stmt_refusals w si n x ≡ [] → AllFew (counts.stmt_literals x) → LiteralsHold (stmt_literals w si n x)
    stmt_literals_hold si n (t.val x u r) e few = rhs_literals_hold si (one_val n) r (append_empty (typed_if_refusals w u) (rhs_refusals w si (one_val n) r) e).1 few
    stmt_literals_hold si n (t.assign x r) e few = rhs_literals_hold si n r (append_empty (value_refusals w si x) (rhs_refusals w si n r) e).1 few
    stmt_literals_hold si n (t.run r) e few = rhs_literals_hold si n r e few

    stmts_literals_hold : (si : Sight) (n : Count) (xs : t.StmtTrees) → stmts_refusals w si n xs ≡ [] → AllFew (counts.stmts_literals xs) → LiteralsHold (stmts_literals w si n xs)
    stmts_literals_hold si n t.no_stmts e few = λ l i. absurd i
    stmts_literals_hold si n (t.more_stmts x xs) e few =
        let m = stmt_after n x in
        let sj = stmt_sight w si n x in
        let z = append_empty (stmt_refusals w si n x) (stmts_refusals w sj m xs) e in
        literals_append (stmt_literals w si n x) (stmts_literals w sj m xs)
        (stmt_literals_hold si n x z.0 (few_left (counts.stmt_literals x) (counts.stmts_literals xs) few))
        (stmts_literals_hold sj m xs z.1 (few_right (counts.stmt_literals x) (counts.stmts_literals xs) few))

    part_literals_hold : (si within : Sight) (n : Count) (q : t.PartTree) → part_refusals w si within n q ≡ [] → AllFew (counts.part_literals q) → LiteralsHold (part_literals w si within n q)
    part_literals_hold si within n (t.field k x u r) e few = rhs_literals_hold si n r (append_empty (typed_refusals w u) (rhs_refusals w si n r) e).1 few
    part_literals_hold si within n (t.method g b) e few =
        let sj = with_params within n.bodies g.params in
        tail_literals_hold sj (one_body n) b (append_empty (signature_refusals w.atoms w.plain g) (tail_refusals w sj (one_body n) b) e).1 few

    pub parts_literals_hold : (si within : Sight) (n : Count) (qs : t.PartTrees) → parts_refusals w si within n qs ≡ [] → AllFew (counts.parts_literals qs) → LiteralsHold (parts_literals w si within n qs)
    parts_literals_hold si within n t.no_parts e few = λ l i. absurd i
    parts_literals_hold si within n (t.more_parts q qs) e few =
        let m = part_after n q in
        let z = append_empty (part_refusals w si within n q) (parts_refusals w si within m qs) e in
        literals_append (part_literals w si within n q) (parts_literals w si within m qs)
        (part_literals_hold si within n q z.0 (few_left (counts.part_literals q) (counts.parts_literals qs) few))
        (parts_literals_hold si within m qs z.1 (few_right (counts.part_literals q) (counts.parts_literals qs) few))

    pub tail_literals_hold : (si : Sight) (n : Count) (b : t.TailTree) → tail_refusals w si n b ≡ [] → AllFew (counts.tail_literals b) → LiteralsHold (tail_literals w si n b)
    tail_literals_hold si n (t.short r) e few = rhs_literals_hold si n r e few
    tail_literals_hold si n (t.long xs) e few = stmts_literals_hold si n xs e few
