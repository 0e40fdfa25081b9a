-- Methods that are not refused fit: their types are written, their effects are sets, and their blocks fit.
use Rattle.std.proofs.Common.{◌≡◌, ℕ, suc, ◌+◌, ◌<◌, ◌≤◌, List, [], ◌∷◌, ◌++◌, map, length, inl, inr, Bool as Truth, true, false, Option, Some, None, refl, sym, ◌∙◌, subst, arith}
use Rattle.std.specs.Prelude.{slice_get}
use Rattle.std.specs.List.{range_with_len}
use Rattle.std.proofs.lemmas.List.{length-map}
use Rattle.wy_syntax.specs.declared.types.AtomUse.{AtomUse}
use Rattle.wy_syntax.specs.declared.types.Param.{Param}
use Rattle.wy_syntax.specs.declared.types.Signature.{Signature}
use Rattle.wy_syntax.specs.Trees as t
use Rattle.wy_text.specs.Members.{In}
use Rattle.wy_effects.specs.EffSet.{IsSet}
use Rattle.wy_text.proofs.Lists.{In-left, In-right, In-cases}
use Rattle.wy_types.specs.declared.types.TypeRef.{TypeRef}
use Rattle.wy_types.specs.declared.code.Variable.{Variable}
use Rattle.wy_types.specs.declared.code.Variable.TheVariants.{Parameter}
use Rattle.wy_types.specs.Types.{is_plain}
use Rattle.wy_types.specs.Program.{Program, Scope, Body}
use Rattle.wy_types.specs.Core.{IsWritten, AllWritten, BlockFits, BodyFits}
use Rattle.wy_types.specs.Vals.{literal_captures}
use Rattle.wy_symbols.specs.Declarations.{repeated}
use Rattle.wy_heads.specs.Counts as counts
use Rattle.wy_heads.specs.Counts.{part_params}
use Rattle.wy_symbols.specs.TypeUses.{param_names, param_types, type_ref, effect_of, params_refusals, effect_refusals, use_refusals, signature_refusals}
use Rattle.wy_bodies.specs.Sight.{Sight, inside, with_params, methods_write, tail_writes}
use Rattle.wy_bodies.specs.Bodies.{Within, Count, one_val, one_literal, one_body, rhs_after, stmt_after, stmts_after, tail_after, stmt_sight, tail_block, literal_of, rhs_literals, stmt_literals, stmts_literals, parts_literals, tail_literals, method_body, rhs_bodies, stmt_bodies, stmts_bodies, part_bodies, parts_bodies, tail_bodies}
use Rattle.wy_bodies.specs.BodyRefusals.{value_refusals, typed_refusals, typed_if_refusals, expr_refusals, repeated_parts, rhs_refusals, stmt_refusals, stmts_refusals, parts_refusals, tail_refusals}
use Rattle.wy_well_formed.proofs.Scoping.{ReadsIn, AllFew}
use Rattle.wy_well_formed.proofs.Repeats.{append_empty}
use Rattle.wy_well_formed.proofs.Placed.{Lies, lies_left, lies_right, number_below, Holds, holds_append}
use Rattle.wy_well_formed.proofs.Growing.{stmt_literals_more, stmts_literals_more, part_literals_more, rhs_bodies_more, stmt_bodies_more, stmts_bodies_more, part_bodies_more}
use Rattle.wy_well_formed.proofs.Seeing.{sees_method, writes_left, writes_right}
use Rattle.wy_well_formed.proofs.Values.{tail_fits, positive}

-- what a core keeps of one body
pub record BodyHolds (p : Program) (s : Scope) (k : ℕ) (b : Body) : Type 0 where
  pub fits : BodyFits p s k b
  pub written : AllWritten p s (b.signature.params ++ b.signature.result ∷ []) × IsSet (length s.atoms) b.signature.effect
  pub no_effect : is_plain s.kind ≡ true → b.signature.effect ≡ []
  pub few : length b.signature.params ≤ 16

-- within the limits are the parts of each of several trees
pub few_left : (xs ys : List t.PartTrees) → AllFew (xs ++ ys) → AllFew xs
few_left xs ys h ps i = h ps (In-left ps xs ys i)

pub few_right : (xs ys : List t.PartTrees) → AllFew (xs ++ ys) → AllFew ys
few_right xs ys h ps i = h ps (In-right ps xs ys i)

module _ (p : Program) (s : Scope) (w : Within) (read : ReadsIn p s w) where
  -- signatures
  params_written : (ps : List Param) → params_refusals w.atoms w.plain ps ≡ [] → AllWritten p s (param_types w.atoms w.plain ps)
  params_written [] e k i = absurd i
  params_written (q ∷ qs) e k i =
      let z = append_empty (use_refusals w.atoms w.plain q.type_use) (params_refusals w.atoms w.plain qs) e in
      elim i [ inl same ↦ subst (IsWritten p s) same (read.types q.type_use z.0) | inr j ↦ params_written qs z.1 k j ]

  all_written : (ks : List TypeRef) (r : TypeRef) → AllWritten p s ks → IsWritten p s r → AllWritten p s (ks ++ r ∷ [])
  all_written ks r h g k i =
      elim (In-cases k ks (r ∷ []) i) [ inl j ↦ h k j | inr j ↦ elim j [ inl same ↦ subst (IsWritten p s) same g | inr none ↦ absurd none ] ]

  -- in a plain module no method has an effect
  no_effect_of : (plain : Truth) (e : Option (List AtomUse)) → plain ≡ true → effect_of w.atoms plain e ≡ []
  no_effect_of plain None h = refl
  no_effect_of true (Some set) h = refl
  no_effect_of false (Some set) h = absurd (cc)

  -- one method of a literal
  method_holds : (si : Sight) (whole : t.PartTrees) (owner : ℕ) (n : Count) (g : Signature) (b : t.TailTree) → slice_get s.literals owner ≡ Some (literal_of w si whole) →
      ((x : List ℕ) → tail_writes x b ≡ true → methods_write x whole ≡ true) → length g.params ≤ 16 → signature_refusals w.atoms w.plain g ≡ [] →
      tail_refusals w (with_params (inside si whole) n.bodies g.params) (one_body n) b ≡ [] → 0 < n.literals →
      Lies s.literals n.literals (tail_literals w (with_params (inside si whole) n.bodies g.params) (one_body n) b) → BodyHolds p s n.bodies (method_body w (inside si whole) n owner g b)
  method_holds si whole owner n g b at writes small sign e pos lie =
      let z = append_empty (repeated [] (param_names g.params)) (params_refusals w.atoms w.plain g.params ++ (effect_refusals w.atoms w.plain g.effect ++ use_refusals w.atoms w.plain g.result)) sign in
      let y = append_empty (params_refusals w.atoms w.plain g.params) (effect_refusals w.atoms w.plain g.effect ++ use_refusals w.atoms w.plain g.result) z.1 in
      let x = append_empty (effect_refusals w.atoms w.plain g.effect) (use_refusals w.atoms w.plain g.result) y.1 in
      let sj = with_params (inside si whole) n.bodies g.params in
      let many : length (param_types w.atoms w.plain g.params) ≡ length g.params = length-map g.params (λ (q : Param). type_ref w.atoms w.plain q.type_use) in
      let vars : ℕ → List Variable = λ m. literal_captures (slice_get s.literals owner) ++ map (λ i. Parameter n.bodies i) (range_with_len 0 m) in
      let sees = sees_method s w si whole owner n.bodies g.params (λ y. tail_writes y b) at writes in
      let block : BlockFits p s (Some owner) (vars (length g.params)) (tail_block w g.place sj (one_body n) b) =
      tail_fits p s w read (Some owner) g.place (vars (length g.params)) sj (one_body n) b sees e pos lie in
      let P : ℕ → Type 0 = λ m. BlockFits p s (Some owner) (vars m) (tail_block w g.place sj (one_body n) b) in
      let Q : ℕ → Type 0 = λ m. m ≤ 16 in
      record {
        fits = (number_below s.literals owner (literal_of w si whole) at, subst P (sym many) block);
        written = (all_written (param_types w.atoms w.plain g.params) (type_ref w.atoms w.plain g.result) (params_written g.params y.0) (read.types g.result x.1), read.effects g.effect x.0);
        no_effect = λ plain. no_effect_of w.plain g.effect (read.plain ∙ plain);
        few = subst Q (sym many) small;
      }

  -- the methods in a tree, from the number that it begins with
  mutual
    pub rhs_hold : (si : Sight) (n : Count) (r : t.RhsTree) → rhs_refusals w si n r ≡ [] → 0 < n.literals → Lies s.literals n.literals (rhs_literals w si n r) → AllFew (counts.rhs_literals r) → Holds (BodyHolds p s) n.bodies (rhs_bodies w si n r)
    rhs_hold si n (t.literal q ps) e pos lie few =
        let z = append_empty (repeated_parts ps) (parts_refusals w si (inside si ps) (one_literal n) ps) e in
        let same : suc n.literals ≡ n.literals + 1 = omega arith in
        let rest = subst (λ k. Lies s.literals k (parts_literals w si (inside si ps) (one_literal n) ps)) same lie.1 in
        parts_hold si ps n.literals (one_literal n) ps lie.0 (λ x h. h) (few ps (inl refl)).parameters z.1 (omega arith) rest (λ qs i. few qs (inr i))
    rhs_hold si n (t.branch q c a b) e pos lie few =
        let m = stmts_after n a in
        let z = append_empty (expr_refusals w si c) (stmts_refusals w si n a ++ stmts_refusals w si m b) e in
        let y = append_empty (stmts_refusals w si n a) (stmts_refusals w si m b) z.1 in
        let more = stmts_literals_more w si n a in
        holds_append (BodyHolds p s) n.bodies m.bodies (stmts_bodies w si n a) (stmts_bodies w si m b) (stmts_bodies_more w si n a)
        (stmts_hold si n a y.0 pos (lies_left s.literals n.literals (stmts_literals w si n a) (stmts_literals w si m b) lie) (few_left (counts.stmts_literals a) (counts.stmts_literals b) few))
        (stmts_hold si m b y.1 (positive n.literals _ m.literals more pos) (lies_right s.literals n.literals m.literals (stmts_literals w si n a) (stmts_literals w si m b) more lie) (few_right (counts.stmts_literals a) (counts.stmts_literals b) few))
    rhs_hold si n (t.value v) e pos lie few = tt

    stmt_hold : (si : Sight) (n : Count) (x : t.StmtTree) → stmt_refusals w si n x ≡ [] → 0 < n.literals → Lies s.literals n.literals (stmt_literals w si n x) → AllFew (counts.stmt_literals x) → Holds (BodyHolds p s) n.bodies (stmt_bodies w si n x)
    stmt_hold si n (t.val x u r) e pos lie few = rhs_hold si (one_val n) r (append_empty (typed_if_refusals w u) (rhs_refusals w si (one_val n) r) e).1 pos lie few
    stmt_hold si n (t.assign x r) e pos lie few = rhs_hold si n r (append_empty (value_refusals w si x) (rhs_refusals w si n r) e).1 pos lie few
    stmt_hold si n (t.run r) e pos lie few = rhs_hold si n r e pos lie few

    pub stmts_hold : (si : Sight) (n : Count) (xs : t.StmtTrees) → stmts_refusals w si n xs ≡ [] → 0 < n.literals → Lies s.literals n.literals (stmts_literals w si n xs) → AllFew (counts.stmts_literals xs) → Holds (BodyHolds p s) n.bodies (stmts_bodies w si n xs)
    stmts_hold si n t.no_stmts e pos lie few = tt
    stmts_hold si n (t.more_stmts x xs) e pos lie few =
        let m = stmt_after n x in
        let sj = stmt_sight w si n x in
        let z = append_empty (stmt_refusals w si n x) (stmts_refusals w sj m xs) e in
        let more = stmt_literals_more w si n x in
        holds_append (BodyHolds p s) n.bodies m.bodies (stmt_bodies w si n x) (stmts_bodies w sj m xs) (stmt_bodies_more w si n x)
        (stmt_hold si n x z.0 pos (lies_left s.literals n.literals (stmt_literals w si n x) (stmts_literals w sj m xs) lie) (few_left (counts.stmt_literals x) (counts.stmts_literals xs) few))
        (stmts_hold sj m xs z.1 (positive n.literals _ m.literals more pos) (lies_right s.literals n.literals m.literals (stmt_literals w si n x) (stmts_literals w sj m xs) more lie) (few_right (counts.stmt_literals x) (counts.stmts_literals xs) few))

    -- parts of a literal that is whole elsewhere
    pub parts_hold : (si : Sight) (whole : t.PartTrees) (owner : ℕ) (n : Count) (qs : t.PartTrees) → slice_get s.literals owner ≡ Some (literal_of w si whole) →
        ((x : List ℕ) → methods_write x qs ≡ true → methods_write x whole ≡ true) → ((m : ℕ) → In m (part_params qs) → m ≤ 16) →
        parts_refusals w si (inside si whole) n qs ≡ [] → 0 < n.literals → Lies s.literals n.literals (parts_literals w si (inside si whole) n qs) → AllFew (counts.parts_literals qs) →
        Holds (BodyHolds p s) n.bodies (parts_bodies w si (inside si whole) owner n qs)
    parts_hold si whole owner n t.no_parts at writes small e pos lie few = tt
    parts_hold si whole owner n (t.more_parts (t.field k x u r) qs) at writes small e pos lie few =
        let m = rhs_after n r in
        let within = inside si whole in
        let z = append_empty (typed_refusals w u ++ rhs_refusals w si n r) (parts_refusals w si within m qs) e in
        let more = part_literals_more w si within n (t.field k x u r) in
        holds_append (BodyHolds p s) n.bodies m.bodies (rhs_bodies w si n r) (parts_bodies w si within owner m qs) (rhs_bodies_more w si n r)
        (rhs_hold si n r (append_empty (typed_refusals w u) (rhs_refusals w si n r) z.0).1 pos (lies_left s.literals n.literals (rhs_literals w si n r) (parts_literals w si within m qs) lie) (few_left (counts.rhs_literals r) (counts.parts_literals qs) few))
        (parts_hold si whole owner m qs at writes small z.1 (positive n.literals _ m.literals more pos) (lies_right s.literals n.literals m.literals (rhs_literals w si n r) (parts_literals w si within m qs) more lie) (few_right (counts.rhs_literals r) (counts.parts_literals qs) few))
    parts_hold si whole owner n (t.more_parts (t.method g b) qs) at writes small e pos lie few =
        let within = inside si whole in
        let sj = with_params within n.bodies g.params in
        let begun = one_body n in
        let m = tail_after begun b in
        let z = append_empty (signature_refusals w.atoms w.plain g ++ tail_refusals w sj begun b) (parts_refusals w si within m qs) e in
        let y = append_empty (signature_refusals w.atoms w.plain g) (tail_refusals w sj begun b) z.0 in
        let more = part_literals_more w si within n (t.method g b) in
        let here = lies_left s.literals n.literals (tail_literals w sj begun b) (parts_literals w si within m qs) lie in
        let next : suc n.bodies ≡ n.bodies + 1 = omega arith in
        let mine = method_holds si whole owner n g b at (λ x h. writes x (writes_left (tail_writes x b) (methods_write x qs) h)) (small (length g.params) (inl refl)) y.0 y.1 pos here in
        let inner = tail_hold sj begun b y.1 pos here (few_left (counts.tail_literals b) (counts.parts_literals qs) few) in
        let P : ℕ → Type 0 = λ j. Holds (BodyHolds p s) j (tail_bodies w sj begun b) in
        holds_append (BodyHolds p s) n.bodies m.bodies (part_bodies w si within owner n (t.method g b)) (parts_bodies w si within owner m qs) (part_bodies_more w si within owner n (t.method g b))
        (mine, subst P (sym next) inner)
        (parts_hold si whole owner m qs at (λ x h. writes x (writes_right (tail_writes x b) (methods_write x qs) h)) (λ j i. small j (inr i)) z.1 (positive n.literals _ m.literals more pos)
        (lies_right s.literals n.literals m.literals (tail_literals w sj begun b) (parts_literals w si within m qs) more lie) (few_right (counts.tail_literals b) (counts.parts_literals qs) few))

    pub tail_hold : (si : Sight) (n : Count) (b : t.TailTree) → tail_refusals w si n b ≡ [] → 0 < n.literals → Lies s.literals n.literals (tail_literals w si n b) → AllFew (counts.tail_literals b) → Holds (BodyHolds p s) n.bodies (tail_bodies w si n b)
    tail_hold si n (t.short r) e pos lie few = rhs_hold si n r e pos lie few
    tail_hold si n (t.long xs) e pos lie few = stmts_hold si n xs e pos lie few
