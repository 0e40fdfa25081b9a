-- The methods of each literal are those of its parts: their names differ, and they are few.
use Rattle.std.proofs.Common.{◌≡◌, ℕ, suc, ◌+◌, ◌<◌, ◌≤◌, List, [], ◌∷◌, ◌++◌, map, length, inl, inr, Bool as Truth, true, false, refl, sym, ap, ◌∙◌, subst, arith, append-nil, if◌then◌else◌}
use Rattle.std.specs.Prelude.{nat_eq}
use Rattle.std.proofs.lemmas.Bool.{cases_lt}
use Rattle.wy_syntax.specs.Trees as t
use Rattle.wy_text.specs.Members.{Apart}
use Rattle.wy_types.specs.declared.types.TypeRef.{TypeRef}
use Rattle.wy_types.specs.Signature.{Signature}
use Rattle.wy_types.specs.Types.{signature, methods_of_owner}
use Rattle.wy_types.specs.Program.{Body}
use Rattle.wy_symbols.specs.Declarations.{texts, repeated}
use Rattle.wy_heads.specs.Counts as counts
use Rattle.wy_heads.specs.Counts.{method_count}
use Rattle.wy_symbols.specs.TypeUses.{signature_refusals}
use Rattle.wy_bodies.specs.Sight.{Sight, inside, with_params}
use Rattle.wy_bodies.specs.Bodies.{Within, Count, one_val, one_literal, one_body, rhs_after, stmt_after, stmts_after, part_after, parts_after, tail_after, stmt_sight, method_body, rhs_bodies, stmt_bodies, stmts_bodies, part_bodies, parts_bodies, tail_bodies}
use Rattle.wy_bodies.specs.BodyRefusals.{value_refusals, typed_refusals, typed_if_refusals, expr_refusals, field_names, def_names, repeated_parts, rhs_refusals, stmt_refusals, stmts_refusals, part_refusals, parts_refusals, tail_refusals}
use Rattle.wy_well_formed.proofs.Scoping.{FewIn, AllFew}
use Rattle.wy_well_formed.proofs.Repeats.{append_empty, repeated_apart}
use Rattle.wy_well_formed.proofs.Methods.{few_left, few_right}

abbrev names_of : List (Signature TypeRef) → List (List ℕ)
names_of ms = map (λ (m : Signature TypeRef). m.name) ms

-- methods under names that differ, and few
abbrev pub Good : List (Signature TypeRef) → Type 0
Good ms = Apart (names_of ms) × (length ms ≤ 128)

-- the methods of an owner in several lists
owner_append : (l : ℕ) (xs ys : List Body) → methods_of_owner l (xs ++ ys) ≡ methods_of_owner l xs ++ methods_of_owner l ys
owner_append l [] ys = refl
owner_append l (b ∷ xs) ys =
    let P : Truth → Type 0 = λ c. (if c then signature b.signature ∷ methods_of_owner l (xs ++ ys) else methods_of_owner l (xs ++ ys)) ≡ (if c then signature b.signature ∷ methods_of_owner l xs else methods_of_owner l xs) ++ methods_of_owner l ys in
    elim (nat_eq b.owner l) as P [ true ↦ ap (λ ms. signature b.signature ∷ ms) (owner_append l xs ys) | false ↦ owner_append l xs ys ]

-- whether owners are the same
owner_itself : (l : ℕ) → nat_eq l l ≡ true
owner_itself l = grind arith

same_of : (k l : ℕ) → nat_eq k l ≡ true → k ≡ l
same_of k l e = grind arith

unequal : (k l : ℕ) → k ≡ l → nat_eq k l ≡ false → ⊥
unequal k l e h = (let P : ℕ → Type 0 = λ j. nat_eq k j ≡ true in let yes : nat_eq k l ≡ true = subst P e (owner_itself k) in cc)

owner_other : (k l : ℕ) → (l ≡ k → ⊥) → nat_eq k l ≡ false
owner_other k l n =
    let P : Truth → Type 0 = λ c. nat_eq k l ≡ c → nat_eq k l ≡ false in
    (elim (nat_eq k l) as P [ true ↦ λ e. absurd (n (sym (same_of k l e))) | false ↦ λ e. e ]) refl

-- of the owners that count each has good methods, and only those from one number on and below another have any
pub record Owned (Counts : ℕ → Type 0) (low high : ℕ) (bs : List Body) : Type 0 where
  pub ordered : low ≤ high
  pub good : (l : ℕ) → Counts l → Good (methods_of_owner l bs)
  pub below : (l : ℕ) → Counts l → l < low → methods_of_owner l bs ≡ []
  pub above : (l : ℕ) → Counts l → high ≤ l → methods_of_owner l bs ≡ []

owned_none : (Counts : ℕ → Type 0) (low : ℕ) → Owned Counts low low []
owned_none Counts low = record {
  ordered = omega arith;
  good = λ l c. (tt, omega arith);
  below = λ l c h. refl;
  above = λ l c h. refl;
}

-- where one list has none of an owner's methods the other has them all
left_alone : (l : ℕ) (xs ys : List Body) → methods_of_owner l ys ≡ [] → methods_of_owner l xs ≡ methods_of_owner l (xs ++ ys)
left_alone l xs ys e = sym (owner_append l xs ys ∙ ap (λ ms. methods_of_owner l xs ++ ms) e ∙ append-nil (methods_of_owner l xs))

right_alone : (l : ℕ) (xs ys : List Body) → methods_of_owner l xs ≡ [] → methods_of_owner l ys ≡ methods_of_owner l (xs ++ ys)
right_alone l xs ys e = sym (owner_append l xs ys ∙ ap (λ ms. ms ++ methods_of_owner l ys) e)

-- one tree after another
owned_both : (Counts : ℕ → Type 0) (low mid high : ℕ) (xs ys : List Body) → Owned Counts low mid xs → Owned Counts mid high ys → Owned Counts low high (xs ++ ys)
owned_both Counts low mid high xs ys h g =
    let lower = h.ordered in
    let upper = g.ordered in
    record {
      ordered = omega (arith, lower, upper);
      good = λ l c.
          elim (cases_lt l mid) [
            | inl lt ↦ subst Good (left_alone l xs ys (g.below l c lt)) (h.good l c)
            | inr ge ↦ subst Good (right_alone l xs ys (h.above l c ge)) (g.good l c)
          ];
      below = λ l c lt. sym (left_alone l xs ys (g.below l c (omega arith))) ∙ h.below l c lt;
      above = λ l c ge. sym (right_alone l xs ys (h.above l c (omega arith))) ∙ g.above l c ge;
    }

-- all owners count, or all but one
abbrev pub Any : ℕ → Type 0
Any l = Unit {0}

abbrev pub But : ℕ → ℕ → Type 0
But owner l = l ≡ owner → ⊥

owned_but : (owner low high : ℕ) (bs : List Body) → Owned Any low high bs → Owned (But owner) low high bs
owned_but owner low high bs h = record {
  ordered = h.ordered;
  good = λ l c. h.good l tt;
  below = λ l c lt. h.below l tt lt;
  above = λ l c ge. h.above l tt ge;
}

-- a method's own owner does not count
owned_method : (owner low high : ℕ) (b : Body) (bs : List Body) → b.owner ≡ owner → Owned Any low high bs → Owned (But owner) low high (b ∷ bs)
owned_method owner low high b bs e h =
    let skip : (l : ℕ) → But owner l → methods_of_owner l bs ≡ methods_of_owner l (b ∷ bs) = λ l c.
    ap (λ t. if t then signature b.signature ∷ methods_of_owner l bs else methods_of_owner l bs) (sym (owner_other b.owner l (λ s. c (s ∙ e)))) in
    record {
      ordered = h.ordered;
      good = λ l c. subst Good (skip l c) (h.good l tt);
      below = λ l c lt. sym (skip l c) ∙ h.below l tt lt;
      above = λ l c ge. sym (skip l c) ∙ h.above l tt ge;
    }

own_or_other : (owner l : ℕ) (bs : List Body) → Good (methods_of_owner owner bs) → (But owner l → Good (methods_of_owner l bs)) → Good (methods_of_owner l bs)
own_or_other owner l bs h g =
    let P : Truth → Type 0 = λ c. nat_eq l owner ≡ c → Good (methods_of_owner l bs) in
    (elim (nat_eq l owner) as P [
      | true ↦ λ e. (let Q : ℕ → Type 0 = λ j. Good (methods_of_owner j bs) in subst Q (sym (same_of l owner e)) h)
      | false ↦ λ e. g (λ same. unequal l owner same e)
    ]) refl

-- the owner of parts beside the literals in them
owned_all : (owner low high : ℕ) (bs : List Body) → low ≡ owner + 1 → Good (methods_of_owner owner bs) → Owned (But owner) low high bs → Owned Any owner high bs
owned_all owner low high bs e mine h =
    let order = h.ordered in
    record {
      ordered = omega (arith, order);
      good = λ l c. own_or_other owner l bs mine (h.good l);
      below = λ l c lt. h.below l (λ s. omega (arith, s)) (omega arith);
      above = λ l c ge. h.above l (λ s. omega (arith, s, order)) ge;
    }

-- the methods of parts have the names and the number of their `def`s
pub record OwnMethods (owner : ℕ) (qs : t.PartTrees) (bs : List Body) : Type 0 where
  pub names : names_of (methods_of_owner owner bs) ≡ texts (def_names qs)
  pub count : length (methods_of_owner owner bs) ≡ method_count qs

own_good : (owner : ℕ) (ps : t.PartTrees) (bs : List Body) → repeated_parts ps ≡ [] → FewIn ps → OwnMethods owner ps bs → Good (methods_of_owner owner bs)
own_good owner ps bs e few h =
    let z = append_empty (repeated [] (field_names ps)) (repeated [] (def_names ps)) e in
    let P : List (List ℕ) → Type 0 = λ l. Apart l in
    let Q : ℕ → Type 0 = λ m. m ≤ 128 in
    (subst P (sym h.names) (repeated_apart [] (def_names ps) z.1), subst Q (sym h.count) few.methods)

-- a field adds none
own_field : (owner low high : ℕ) (qs : t.PartTrees) (xs ys : List Body) → owner < low → Owned Any low high xs → OwnMethods owner qs ys → OwnMethods owner qs (xs ++ ys)
own_field owner low high qs xs ys lt h g =
    let same = sym (right_alone owner xs ys (h.below owner tt lt)) in
    record { names = ap names_of same ∙ g.names; count = ap length same ∙ g.count }

-- a method adds itself
own_method : (owner low high : ℕ) (b : Body) (xs ys : List Body) → b.owner ≡ owner → owner < low → Owned Any low high xs → methods_of_owner owner ((b ∷ xs) ++ ys) ≡ signature b.signature ∷ methods_of_owner owner ys
own_method owner low high b xs ys e lt h =
    let same = sym (right_alone owner xs ys (h.below owner tt lt)) in
    let P : ℕ → Type 0 = λ j. nat_eq j owner ≡ true in
    let yes : nat_eq b.owner owner ≡ true = subst P (sym e) (owner_itself owner) in
    ap (λ c. if c then signature b.signature ∷ methods_of_owner owner (xs ++ ys) else methods_of_owner owner (xs ++ ys)) yes
    ∙ ap (λ ms. signature b.signature ∷ ms) same

module _ (w : Within) where
  -- a tree's literals own the bodies in it, but for those of the parts' own literal
  mutual
    pub rhs_owned : (si : Sight) (n : Count) (r : t.RhsTree) → rhs_refusals w si n r ≡ [] → AllFew (counts.rhs_literals r) → Owned Any n.literals (rhs_after n r).literals (rhs_bodies w si n r)
    rhs_owned si n (t.literal q ps) e few =
        let z = append_empty (repeated_parts ps) (parts_refusals w si (inside si ps) (one_literal n) ps) e in
        let bs = parts_bodies w si (inside si ps) n.literals (one_literal n) ps in
        let inner : AllFew (counts.parts_literals ps) = λ qs i. few qs (inr i) in
        owned_all n.literals (n.literals + 1) (parts_after (one_literal n) ps).literals bs refl
        (own_good n.literals ps bs z.0 (few ps (inl refl)) (parts_own si (inside si ps) n.literals (one_literal n) ps (omega arith) z.1 inner))
        (parts_owned si (inside si ps) n.literals (one_literal n) ps z.1 inner)
    rhs_owned si n (t.branch q c a b) e few =
        let m = stmts_after n a in
        let z = append_empty (expr_refusals w si c) (stmts_refusals w si n a ++ stmts_refusals w si m b) e in
        let y = append_empty (stmts_refusals w si n a) (stmts_refusals w si m b) z.1 in
        owned_both Any n.literals m.literals (stmts_after m b).literals (stmts_bodies w si n a) (stmts_bodies w si m b)
        (stmts_owned si n a y.0 (few_left (counts.stmts_literals a) (counts.stmts_literals b) few))
        (stmts_owned si m b y.1 (few_right (counts.stmts_literals a) (counts.stmts_literals b) few))
    rhs_owned si n (t.value v) e few = owned_none Any n.literals

    stmt_owned : (si : Sight) (n : Count) (x : t.StmtTree) → stmt_refusals w si n x ≡ [] → AllFew (counts.stmt_literals x) → Owned Any n.literals (stmt_after n x).literals (stmt_bodies w si n x)
    stmt_owned si n (t.val x u r) e few = rhs_owned si (one_val n) r (append_empty (typed_if_refusals w u) (rhs_refusals w si (one_val n) r) e).1 few
    stmt_owned si n (t.assign x r) e few = rhs_owned si n r (append_empty (value_refusals w si x) (rhs_refusals w si n r) e).1 few
    stmt_owned si n (t.run r) e few = rhs_owned si n r e few

    stmts_owned : (si : Sight) (n : Count) (xs : t.StmtTrees) → stmts_refusals w si n xs ≡ [] → AllFew (counts.stmts_literals xs) → Owned Any n.literals (stmts_after n xs).literals (stmts_bodies w si n xs)
    stmts_owned si n t.no_stmts e few = owned_none Any n.literals
    stmts_owned si n (t.more_stmts x xs) e few =
        let m = stmt_after n x in
        let sj = stmt_sight w si n x in
        let z = append_empty (stmt_refusals w si n x) (stmts_refusals w sj m xs) e in
        owned_both Any n.literals m.literals (stmts_after m xs).literals (stmt_bodies w si n x) (stmts_bodies w sj m xs)
        (stmt_owned si n x z.0 (few_left (counts.stmt_literals x) (counts.stmts_literals xs) few))
        (stmts_owned sj m xs z.1 (few_right (counts.stmt_literals x) (counts.stmts_literals xs) few))

    part_owned : (si within : Sight) (owner : ℕ) (n : Count) (q : t.PartTree) → part_refusals w si within n q ≡ [] → AllFew (counts.part_literals q) → Owned (But owner) n.literals (part_after n q).literals (part_bodies w si within owner n q)
    part_owned si within owner n (t.field k x u r) e few =
        owned_but owner n.literals (rhs_after n r).literals (rhs_bodies w si n r) (rhs_owned si n r (append_empty (typed_refusals w u) (rhs_refusals w si n r) e).1 few)
    part_owned si within owner n (t.method g b) e few =
        let sj = with_params within n.bodies g.params in
        owned_method owner n.literals (tail_after (one_body n) b).literals (method_body w within n owner g b) (tail_bodies w sj (one_body n) b) refl
        (tail_owned sj (one_body n) b (append_empty (signature_refusals w.atoms w.plain g) (tail_refusals w sj (one_body n) b) e).1 few)

    pub parts_owned : (si within : Sight) (owner : ℕ) (n : Count) (qs : t.PartTrees) → parts_refusals w si within n qs ≡ [] → AllFew (counts.parts_literals qs) → Owned (But owner) n.literals (parts_after n qs).literals (parts_bodies w si within owner n qs)
    parts_owned si within owner n t.no_parts e few = owned_none (But owner) n.literals
    parts_owned si within owner n (t.more_parts q qs) e few =
        let m = part_after n q in
        let z = append_empty (part_refusals w si within n q) (parts_refusals w si within m qs) e in
        owned_both (But owner) n.literals m.literals (parts_after m qs).literals (part_bodies w si within owner n q) (parts_bodies w si within owner m qs)
        (part_owned si within owner n q z.0 (few_left (counts.part_literals q) (counts.parts_literals qs) few))
        (parts_owned si within owner m qs z.1 (few_right (counts.part_literals q) (counts.parts_literals qs) few))

    pub parts_own : (si within : Sight) (owner : ℕ) (n : Count) (qs : t.PartTrees) → owner < n.literals → parts_refusals w si within n qs ≡ [] → AllFew (counts.parts_literals qs) → OwnMethods owner qs (parts_bodies w si within owner n qs)
    parts_own si within owner n t.no_parts lt e few = record { names = refl; count = refl }
    parts_own si within owner n (t.more_parts (t.field k x u r) qs) lt e few =
        let m = rhs_after n r in
        let z = append_empty (typed_refusals w u ++ rhs_refusals w si n r) (parts_refusals w si within m qs) e in
        let here = rhs_owned si n r (append_empty (typed_refusals w u) (rhs_refusals w si n r) z.0).1 (few_left (counts.rhs_literals r) (counts.parts_literals qs) few) in
        let order = here.ordered in
        let rest = parts_own si within owner m qs (omega (arith, order)) z.1 (few_right (counts.rhs_literals r) (counts.parts_literals qs) few) in
        let all = own_field owner n.literals m.literals qs (rhs_bodies w si n r) (parts_bodies w si within owner m qs) lt here rest in
        record { names = all.names; count = all.count }
    parts_own si within owner n (t.more_parts (t.method g b) qs) lt e few =
        let begun = one_body n in
        let m = tail_after begun b in
        let sj = with_params within n.bodies g.params in
        let z = append_empty (signature_refusals w.atoms w.plain g ++ tail_refusals w sj begun b) (parts_refusals w si within m qs) e in
        let here = tail_owned sj begun b (append_empty (signature_refusals w.atoms w.plain g) (tail_refusals w sj begun b) z.0).1 (few_left (counts.tail_literals b) (counts.parts_literals qs) few) in
        let order = here.ordered in
        let rest = parts_own si within owner m qs (omega (arith, order)) z.1 (few_right (counts.tail_literals b) (counts.parts_literals qs) few) in
        let mine = own_method owner n.literals m.literals (method_body w within n owner g b) (tail_bodies w sj begun b) (parts_bodies w si within owner m qs) refl lt here in
        let one : length (methods_of_owner owner (parts_bodies w si within owner n (t.more_parts (t.method g b) qs))) ≡ suc (length (methods_of_owner owner (parts_bodies w si within owner m qs))) = ap length mine in
        let those = rest.count in
        record { names = ap names_of mine ∙ ap (λ l. g.name.text ∷ l) rest.names; count = omega (arith, one, those) }

    pub tail_owned : (si : Sight) (n : Count) (b : t.TailTree) → tail_refusals w si n b ≡ [] → AllFew (counts.tail_literals b) → Owned Any n.literals (tail_after n b).literals (tail_bodies w si n b)
    tail_owned si n (t.short r) e few = rhs_owned si n r e few
    tail_owned si n (t.long xs) e few = stmts_owned si n xs e few

  -- those of a module's parts
  pub module_owned : (n : Count) (ps : t.PartTrees) (si : Sight) (owner : ℕ) → n.literals ≡ owner + 1 → repeated_parts ps ≡ [] → parts_refusals w si (inside si ps) n ps ≡ [] → FewIn ps → AllFew (counts.parts_literals ps) →
      Owned Any owner (parts_after n ps).literals (parts_bodies w si (inside si ps) owner n ps)
  module_owned n ps si owner at e f few inner =
      let bs = parts_bodies w si (inside si ps) owner n ps in
      owned_all owner n.literals (parts_after n ps).literals bs at
      (own_good owner ps bs e few (parts_own si (inside si ps) owner n ps (omega (arith, at)) f inner))
      (parts_owned si (inside si ps) owner n ps f inner)
