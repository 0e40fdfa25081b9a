-- Of parameters the literals of a scope capture those that a body of the scope has.
use Rattle.std.proofs.Common.{◌≡◌, ℕ, suc, ◌+◌, ◌≤◌, List, [], ◌∷◌, ◌++◌, length, inl, inr, Some, ap, ◌∙◌, subst, arith}
use Rattle.std.specs.Prelude.{slice_get}
use Rattle.std.proofs.lemmas.List.{length-map}
use Rattle.wy_syntax.specs.declared.types.Param.{Param}
use Rattle.wy_syntax.specs.Trees as t
use Rattle.wy_text.specs.Members.{In}
use Rattle.wy_text.proofs.Lists.{In-cases}
use Rattle.wy_types.specs.declared.code.Variable.TheVariants.{Parameter, Local}
use Rattle.wy_types.specs.declared.code.Binding.TheVariants as to
use Rattle.wy_types.specs.declared.resolved.Literal.{Literal}
use Rattle.wy_types.specs.Program.{Scope, Body}
use Rattle.wy_types.specs.Core.{HasParameter}
use Rattle.wy_bodies.specs.declared.sight.Entry.{Entry}
use Rattle.wy_symbols.specs.TypeUses.{type_ref}
use Rattle.wy_bodies.specs.Sight.{Sight, entry, variables, fields_from, params_from, with_val, with_params, inside, captures}
use Rattle.wy_bodies.specs.Bodies.{Within, Count, one_val, one_literal, one_body, stmt_after, stmts_after, part_after, stmt_sight, literal_of, rhs_literals, stmt_literals, stmts_literals, part_literals, parts_literals, tail_literals, rhs_bodies, stmt_bodies, stmts_bodies, part_bodies, parts_bodies, tail_bodies}
use Rattle.wy_well_formed.proofs.Placed.{Lies, lies_left, lies_right}
use Rattle.wy_well_formed.proofs.Growing.{stmt_bodies_more, stmts_bodies_more, part_bodies_more}
use Rattle.wy_well_formed.proofs.Sights.{bound_entry, variables_among, captured_is_last}

-- the parameters that entries stand for are there
abbrev pub ParametersThere : Scope → List Entry → Type 0
ParametersThere s es = (e : Entry) (k i : ℕ) → In e es → e.bound ≡ to.Variable (Parameter k i) → HasParameter s k i

-- and those that literals capture
abbrev pub CaptureThere : Scope → List Literal → Type 0
CaptureThere s ls = (l : Literal) → In l ls → (k i : ℕ) → In (Parameter k i) l.captures → HasParameter s k i

module _ (s : Scope) where
  -- after a `val`
  there_val : (si : Sight) (name : List ℕ) (k : ℕ) → ParametersThere s si.entries → ParametersThere s (with_val si name k).entries
  there_val si name k h e j i m b =
      elim (In-cases e si.entries (entry name (to.Variable (Local k)) ∷ []) m) [
        | inl q ↦ h e j i q b
        | inr q ↦ elim q [
          | inl same ↦ absurd (let is : to.Variable (Local k) ≡ to.Variable (Parameter j i) = ap (λ (d : Entry). d.bound) same ∙ b in cc)
          | inr none ↦ absurd none
        ]
      ]

  -- fields are none
  no_parameter_field : (k : ℕ) (ps : t.PartTrees) → ParametersThere s (fields_from k ps)
  no_parameter_field k t.no_parts e j i m b = absurd m
  no_parameter_field k (t.more_parts (t.field kind x u r) ps) e j i (inl same) b = absurd (let is : to.Field k ≡ to.Variable (Parameter j i) = ap (λ (d : Entry). d.bound) same ∙ b in cc)
  no_parameter_field k (t.more_parts (t.field kind x u r) ps) e j i (inr m) b = no_parameter_field (k + 1) ps e j i m b
  no_parameter_field k (t.more_parts (t.method g c) ps) e j i m b = no_parameter_field k ps e j i m b

  -- going into the methods of a literal
  pub there_inside : (si : Sight) (ps : t.PartTrees) → ParametersThere s si.entries → ParametersThere s (inside si ps).entries
  there_inside si ps h e j i m b =
      elim (In-cases e (variables si.entries) (fields_from 0 ps) m) [
        | inl q ↦ h e j i (variables_among si.entries e q).0 b
        | inr q ↦ no_parameter_field 0 ps e j i q b
      ]

  -- those of a body that has as many
  there_from : (k : ℕ) (body : Body) (first : ℕ) (ps : List Param) → slice_get s.bodies k ≡ Some body → first + length ps ≤ length body.signature.params → ParametersThere s (params_from k first ps)
  there_from k body first [] at few e j i m b = absurd m
  there_from k body first (q ∷ qs) at few e j i (inl same) b =
      let is : to.Variable (Parameter k first) ≡ to.Variable (Parameter j i) = ap (λ (d : Entry). d.bound) same ∙ b in
      let number : k ≡ j = cc in
      let place : first ≡ i = cc in
      let mine : HasParameter s k first = (body, at, omega arith) in
      subst (λ v. HasParameter s v i) number (subst (HasParameter s k) place mine)
  there_from k body first (q ∷ qs) at few e j i (inr m) b = there_from k body (first + 1) qs at (omega arith) e j i m b

  -- in a method its own come in sight
  there_params : (si : Sight) (k : ℕ) (body : Body) (ps : List Param) → slice_get s.bodies k ≡ Some body → length body.signature.params ≡ length ps → ParametersThere s si.entries → ParametersThere s (with_params si k ps).entries
  there_params si k body ps at same h e j i m b =
      elim (In-cases e si.entries (params_from k 0 ps) m) [ inl q ↦ h e j i q b | inr q ↦ there_from k body 0 ps at (omega arith) e j i q b ]

  -- what one literal captures
  pub capture_there : (si : Sight) (ps : t.PartTrees) → ParametersThere s si.entries → (k i : ℕ) → In (Parameter k i) (captures si ps) → HasParameter s k i
  capture_there si ps h k i m =
      let r = captured_is_last (variables si.entries) ps (Parameter k i) m in
      let e = bound_entry (variables si.entries) r.0 (to.Variable (Parameter k i)) r.2 in
      h e.0 k i (variables_among si.entries e.0 e.1).0 e.2

  -- one literal before others, and one list of literals after another
  pub capture_more : (x : Literal) (xs : List Literal) → ((k i : ℕ) → In (Parameter k i) x.captures → HasParameter s k i) → CaptureThere s xs → CaptureThere s (x ∷ xs)
  capture_more x xs h g l m k i c =
      let P : Literal → Type 0 = λ v. In (Parameter k i) v.captures → HasParameter s k i in
      elim m [ inl same ↦ subst P same (h k i) c | inr q ↦ g l q k i c ]

  capture_append : (xs ys : List Literal) → CaptureThere s xs → CaptureThere s ys → CaptureThere s (xs ++ ys)
  capture_append xs ys h g l m = elim (In-cases l xs ys m) [ inl q ↦ h l q | inr q ↦ g l q ]

  module _ (w : Within) where
    stmt_there : (si : Sight) (n : Count) (x : t.StmtTree) → ParametersThere s si.entries → ParametersThere s (stmt_sight w si n x).entries
    stmt_there si n (t.val x u r) h = there_val si x.text n.vals h
    stmt_there si n (t.assign x r) h = h
    stmt_there si n (t.run r) h = h

    -- the literals in a tree, where its bodies are the scope's and what is in sight is there
    mutual
      rhs_capture : (si : Sight) (n : Count) (r : t.RhsTree) → ParametersThere s si.entries → Lies s.bodies n.bodies (rhs_bodies w si n r) → CaptureThere s (rhs_literals w si n r)
      rhs_capture si n (t.literal q ps) h lie =
          capture_more (literal_of w si ps) (parts_literals w si (inside si ps) (one_literal n) ps) (capture_there si ps h)
          (parts_capture si (inside si ps) n.literals (one_literal n) ps h (there_inside si ps h) lie)
      rhs_capture si n (t.branch q c a b) h lie =
          let m = stmts_after n a in
          capture_append (stmts_literals w si n a) (stmts_literals w si m b)
          (stmts_capture si n a h (lies_left s.bodies n.bodies (stmts_bodies w si n a) (stmts_bodies w si m b) lie))
          (stmts_capture si m b h (lies_right s.bodies n.bodies m.bodies (stmts_bodies w si n a) (stmts_bodies w si m b) (stmts_bodies_more w si n a) lie))
      rhs_capture si n (t.value e) h lie = λ l i. absurd i

      stmt_capture : (si : Sight) (n : Count) (x : t.StmtTree) → ParametersThere s si.entries → Lies s.bodies n.bodies (stmt_bodies w si n x) → CaptureThere s (stmt_literals w si n x)
      stmt_capture si n (t.val x u r) h lie = rhs_capture si (one_val n) r h lie
      stmt_capture si n (t.assign x r) h lie = rhs_capture si n r h lie
      stmt_capture si n (t.run r) h lie = rhs_capture si n r h lie

      stmts_capture : (si : Sight) (n : Count) (xs : t.StmtTrees) → ParametersThere s si.entries → Lies s.bodies n.bodies (stmts_bodies w si n xs) → CaptureThere s (stmts_literals w si n xs)
      stmts_capture si n t.no_stmts h lie = λ l i. absurd i
      stmts_capture si n (t.more_stmts x xs) h lie =
          let m = stmt_after n x in
          let sj = stmt_sight w si n x in
          capture_append (stmt_literals w si n x) (stmts_literals w sj m xs)
          (stmt_capture si n x h (lies_left s.bodies n.bodies (stmt_bodies w si n x) (stmts_bodies w sj m xs) lie))
          (stmts_capture sj m xs (stmt_there si n x h) (lies_right s.bodies n.bodies m.bodies (stmt_bodies w si n x) (stmts_bodies w sj m xs) (stmt_bodies_more w si n x) lie))

      part_capture : (si within : Sight) (owner : ℕ) (n : Count) (q : t.PartTree) → ParametersThere s si.entries → ParametersThere s within.entries → Lies s.bodies n.bodies (part_bodies w si within owner n q) → CaptureThere s (part_literals w si within n q)
      part_capture si within owner n (t.field k x u r) h g lie = rhs_capture si n r h lie
      part_capture si within owner n (t.method f b) h g lie =
          let sj = with_params within n.bodies f.params in
          let next : suc n.bodies ≡ n.bodies + 1 = omega arith in
          let rest = subst (λ k. Lies s.bodies k (tail_bodies w sj (one_body n) b)) next lie.1 in
          let many = length-map f.params (λ (q : Param). type_ref w.atoms w.plain q.type_use) in
          tail_capture sj (one_body n) b (there_params within n.bodies _ f.params lie.0 many g) rest

      pub parts_capture : (si within : Sight) (owner : ℕ) (n : Count) (qs : t.PartTrees) → ParametersThere s si.entries → ParametersThere s within.entries → Lies s.bodies n.bodies (parts_bodies w si within owner n qs) → CaptureThere s (parts_literals w si within n qs)
      parts_capture si within owner n t.no_parts h g lie = λ l i. absurd i
      parts_capture si within owner n (t.more_parts q qs) h g lie =
          let m = part_after n q in
          capture_append (part_literals w si within n q) (parts_literals w si within m qs)
          (part_capture si within owner n q h g (lies_left s.bodies n.bodies (part_bodies w si within owner n q) (parts_bodies w si within owner m qs) lie))
          (parts_capture si within owner m qs h g (lies_right s.bodies n.bodies m.bodies (part_bodies w si within owner n q) (parts_bodies w si within owner m qs) (part_bodies_more w si within owner n q) lie))

      pub tail_capture : (si : Sight) (n : Count) (b : t.TailTree) → ParametersThere s si.entries → Lies s.bodies n.bodies (tail_bodies w si n b) → CaptureThere s (tail_literals w si n b)
      tail_capture si n (t.short r) h lie = rhs_capture si n r h lie
      tail_capture si n (t.long xs) h lie = stmts_capture si n xs h lie
