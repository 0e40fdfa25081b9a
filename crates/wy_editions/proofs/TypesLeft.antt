-- A type that no good name finds is none of the types that a scope of good names writes, nor the one that it is sealed at.
use Rattle.std.proofs.Common.{◌≡◌, ℕ, zero, suc, List, [], ◌∷◌, ◌++◌, map, inl, inr, refl, sym, subst, Option, Some, None, Bool, true, false}
use Rattle.std.specs.Prelude.{slice_get}
use Rattle.wy_text.specs.declared.fault.AtomName.{AtomName}
use Rattle.wy_text.specs.declared.fault.Place.{Place}
use Rattle.wy_syntax.specs.declared.types.Name.{Name}
use Rattle.wy_syntax.specs.declared.types.AtomUse.{AtomUse}
use Rattle.wy_syntax.specs.declared.types.MemberSet.{MemberSet}
use Rattle.wy_syntax.specs.declared.types.Param.{Param}
use Rattle.wy_syntax.specs.declared.types.TypeUse.{TypeUse}
use Rattle.wy_syntax.specs.declared.types.TypeUse.TheVariants as use_of
use Rattle.wy_syntax.specs.declared.items.Grant.{Grant}
use Rattle.wy_syntax.specs.declared.items.Line.{Line}
use Rattle.wy_syntax.specs.declared.items.Line.TheVariants as line
use Rattle.wy_syntax.specs.declared.items.Member.{Member}
use Rattle.wy_syntax.specs.declared.items.Member.TheVariants.{Abstract, Bounded, Defined, Method}
use Rattle.wy_syntax.specs.declared.items.TypeDecl.{TypeDecl}
use Rattle.wy_syntax.specs.Trees as t
use Rattle.wy_text.specs.Members.{In}
use Rattle.wy_text.proofs.Lists.{In-cases}
use Rattle.wy_types.specs.declared.types.TypeRef.{TypeRef}
use Rattle.wy_types.specs.declared.resolved.Field.{Field}
use Rattle.wy_types.specs.declared.resolved.Literal.{Literal}
use Rattle.wy_types.specs.declared.resolved.OwnName.{OwnName}
use Rattle.wy_types.specs.Code as code
use Rattle.wy_types.specs.Vals.{literal_fields}
use Rattle.wy_types.specs.Program.{Body}
use Rattle.wy_types.specs.Signature.{Signature}
use Rattle.wy_types.specs.Types.{is_plain, signature}
use Rattle.wy_types.specs.Written.{written_types, expr_types, value_types, values_types, block_types}
use Rattle.wy_rules.specs.Transfer.{NamesNot, WritesNot}
use Rattle.wy_symbols.specs.declared.scoping.Head.{Head}
use Rattle.wy_symbols.specs.declared.scoping.Opening.{Opening}
use Rattle.wy_symbols.specs.declared.scoping.Opening.TheVariants.{Members, Nothing, Missing}
use Rattle.wy_symbols.specs.declared.scoping.Owner.{Owner}
use Rattle.wy_symbols.specs.Declarations.{ModuleTree, ProgramTree}
use Rattle.wy_symbols.specs.Atoms.{AtomScope, head_names, type_number, opened, primitive_opening, module_opening, members_after, line_owner}
use Rattle.wy_symbols.specs.TypeUses.{named_type, bound_type, type_ref, param_types, declared_methods, declaration_scope, declaration}
use Rattle.wy_heads.specs.Lines.{opened_type, at_bound, param_type, param_name, grant_name, use_name, line_name, line_names}
use Rattle.wy_heads.specs.ScopeHeads.{early_owners, module_atoms, param_scope, grant_owners, program_atoms, program_scope}
use Rattle.wy_bodies.specs.Sight.{Sight, outermost, inside, with_params}
use Rattle.wy_bodies.specs.Bodies.{Within, Count, at_start, one_val, one_literal, one_body, stmt_after, stmts_after, part_after, operand, bound, typed, typed_if, expr_value, expr_values, stmt_sight, last_or, rhs_value, stmt_block, stmts_block, part_values, tail_block, fields_of, literal_of, rhs_literals, stmt_literals, stmts_literals, part_literals, parts_literals, tail_literals, method_body, rhs_bodies, stmt_bodies, stmts_bodies, part_bodies, parts_bodies, tail_bodies}
use Rattle.wy_names.specs.Scopes.{module_within, program_within, scope_of_module, scope_of_program}
use Rattle.wy_editions.proofs.Alike.{NumberNot, OpensNot}
use Rattle.wy_editions.proofs.Openings.{module_opening_not, opened_not, primitive_not}
use Rattle.wy_editions.proofs.TypeNames.{UseHas, UseIfHas, ParamsHave, ExprHas, ExprsHave, RhsHas, StmtHas, StmtsHave, PartHas, PartsHave, TailHas, MembersHave, GrantsHave, DeclHas, ModuleHas, ModulesHave, BlockHas}

-- what holds of each element of two lists holds of each of both
append_each : {X : Type 0} (P : X → Type 0) (xs ys : List X) → ((x : X) → In x xs → P x) → ((x : X) → In x ys → P x) → (x : X) → In x (xs ++ ys) → P x
append_each P xs ys h g x j = elim (In-cases x xs ys j) [ inl l ↦ h x l | inr r ↦ g x r ]

cons_each : {X : Type 0} (P : X → Type 0) (y : X) (xs : List X) → P y → ((x : X) → In x xs → P x) → (x : X) → In x (y ∷ xs) → P x
cons_each P y xs h g x j = elim j [ inl e ↦ subst P e h | inr r ↦ g x r ]

module _ (Ok : List ℕ → Type 0) (i : ℕ) (h : List Head) (finds : (x : List ℕ) → Ok x → (d : ℕ) → type_number (head_names h) x ≡ Some d → d ≡ i → ⊥) where
  abbrev AllNot : List TypeRef → Type 0
  AllNot us = (u : TypeRef) → In u us → NamesNot i u

  none_not : AllNot []
  none_not u j = absurd j

  append_not : (us vs : List TypeRef) → AllNot us → AllNot vs → AllNot (us ++ vs)
  append_not us vs f g = append_each (NamesNot i) us vs f g

  one_not : (u : TypeRef) → NamesNot i u → AllNot (u ∷ [])
  one_not u f = cons_each (NamesNot i) u [] f none_not

  ------------------------------------------------------------
  -- Types

  number_not : (s : AtomScope) → s.heads ≡ h → (x : List ℕ) → Ok x → NumberNot Ok i (type_number (head_names s.heads) x)
  number_not s e x ok = subst (λ (hs : List Head). NumberNot Ok i (type_number (head_names hs) x)) (sym e) (finds x ok)

  named_not : (s : AtomScope) (plain : Bool) (sets : List MemberSet) (o : Option ℕ) → NumberNot Ok i o → NamesNot i (named_type s plain sets o)
  named_not s plain sets None f = tt
  named_not s true sets (Some d) f = f d refl
  named_not s false sets (Some d) f = f d refl

  bound_not : (s : AtomScope) (plain : Bool) (set : List AtomUse) (o : Option ℕ) → NumberNot Ok i o → NamesNot i (bound_type s plain set o)
  bound_not s plain set None f = tt
  bound_not s true set (Some d) f = f d refl
  bound_not s false set (Some d) f = f d refl

  pub type_not : (s : AtomScope) → s.heads ≡ h → (plain : Bool) (u : TypeUse) → UseHas Ok u → NamesNot i (type_ref s plain u)
  type_not s e plain (use_of.Int p) ok = tt
  type_not s e plain (use_of.Bool p) ok = tt
  type_not s e plain (use_of.Text p) ok = tt
  type_not s e plain (use_of.Unit p) ok = tt
  type_not s e plain (use_of.Bare n) ok = named_not s plain [] (type_number (head_names s.heads) n.text) (number_not s e n.text ok)
  type_not s e plain (use_of.With n sets) ok = named_not s plain sets (type_number (head_names s.heads) n.text) (number_not s e n.text ok)
  type_not s e plain (use_of.At n set) ok = bound_not s plain set (type_number (head_names s.heads) n.text) (number_not s e n.text ok)

  params_not : (s : AtomScope) → s.heads ≡ h → (plain : Bool) (ps : List Param) → ParamsHave Ok ps → AllNot (param_types s plain ps)
  params_not s e plain [] ok = none_not
  params_not s e plain (p ∷ ps) ok =
      cons_each (NamesNot i) (type_ref s plain p.type_use) (param_types s plain ps) (type_not s e plain p.type_use ok.0) (params_not s e plain ps ok.1)

  ------------------------------------------------------------
  -- Declarations

  abbrev SignatureNot : Signature TypeRef → Type 0
  SignatureNot m = AllNot (m.params ++ m.result ∷ [])

  members_not : (s : AtomScope) → s.heads ≡ h → (ms : List Member) → MembersHave Ok ms → (m : Signature TypeRef) → In m (map signature (declared_methods s ms)) → SignatureNot m
  members_not s e [] ok m j = absurd j
  members_not s e (Abstract n ∷ ms) ok m j = members_not s e ms ok m j
  members_not s e (Bounded n set ∷ ms) ok m j = members_not s e ms ok m j
  members_not s e (Defined n set ∷ ms) ok m j = members_not s e ms ok m j
  members_not s e (Method g ∷ ms) ok m (inl q) =
      let params = param_types s false g.params in
      let result = type_ref s false g.result in
      subst SignatureNot q (append_not params (result ∷ []) (params_not s e false g.params ok.0.0) (one_not result (type_not s e false g.result ok.0.1)))
  members_not s e (Method g ∷ ms) ok m (inr j) = members_not s e ms ok.1 m j

  pub methods_not : (d : TypeDecl) → DeclHas Ok d → (m : Signature TypeRef) → In m (map signature (declaration h d).methods) → (u : TypeRef) → In u (m.params ++ m.result ∷ []) → NamesNot i u
  methods_not d ok m j = members_not (declaration_scope h (members_after [] 0 d.members)) refl d.members ok.1 m j

  ------------------------------------------------------------
  -- Openings

  opened_type_not : (atoms : List AtomName) (owner : List ℕ) (o : Opening) → OpensNot Ok i o → NamesNot i (opened_type h atoms owner o)
  opened_type_not atoms owner (Members d) f = f
  opened_type_not atoms owner Nothing f = tt
  opened_type_not atoms owner Missing f = tt

  ------------------------------------------------------------
  -- Own names

  abbrev OwnNot : OwnName → Type 0
  OwnNot n = NamesNot i n.typ

  abbrev NamesAllNot : List OwnName → Type 0
  NamesAllNot ns = (n : OwnName) → In n ns → NamesNot i n.typ

  abbrev scope_at : List AtomName → List Owner → AtomScope
  scope_at atoms owners = record { heads = h; atoms = atoms; owners = owners; meanings = [] }

  param_type_not : (atoms : List AtomName) (owners : List Owner) (x : List ℕ) (u : TypeUse) → UseHas Ok u → NamesNot i (param_type (scope_at atoms owners) x u)
  param_type_not atoms owners x (use_of.Int p) ok = tt
  param_type_not atoms owners x (use_of.Bool p) ok = tt
  param_type_not atoms owners x (use_of.Text p) ok = tt
  param_type_not atoms owners x (use_of.Unit p) ok = tt
  param_type_not atoms owners x (use_of.Bare n) ok =
      let o = type_number (head_names h) n.text in
      opened_type_not atoms x (opened o) (opened_not Ok i o (finds n.text ok))
  param_type_not atoms owners x (use_of.With n sets) ok = type_not (scope_at atoms owners) refl false (use_of.With n sets) ok
  param_type_not atoms owners x (use_of.At n set) ok = type_not (scope_at atoms owners) refl false (use_of.At n set) ok

  param_not : (atoms : List AtomName) (owners : List Owner) (plain : Bool) (p : Param) → UseHas Ok p.type_use → OwnNot (param_name (scope_at atoms owners) plain p)
  param_not atoms owners true p ok = type_not (scope_at atoms owners) refl true p.type_use ok
  param_not atoms owners false p ok = param_type_not atoms owners p.name.text p.type_use ok

  own_params_not : (atoms : List AtomName) (owners : List Owner) (plain : Bool) (ps : List Param) → ParamsHave Ok ps → NamesAllNot (map (param_name (scope_at atoms owners) plain) ps)
  own_params_not atoms owners plain [] ok = λ n j. absurd j
  own_params_not atoms owners plain (p ∷ ps) ok =
      cons_each OwnNot (param_name (scope_at atoms owners) plain p) (map (param_name (scope_at atoms owners) plain) ps)
      (param_not atoms owners plain p ok.0) (own_params_not atoms owners plain ps ok.1)

  grants_not : (atoms : List AtomName) (owners : List Owner) (gs : List Grant) → GrantsHave Ok gs → NamesAllNot (map (grant_name (scope_at atoms owners)) gs)
  grants_not atoms owners [] ok = λ n j. absurd j
  grants_not atoms owners (g ∷ gs) ok =
      let o = type_number (head_names h) g.kind.text in
      cons_each OwnNot (grant_name (scope_at atoms owners) g) (map (grant_name (scope_at atoms owners)) gs)
      (opened_type_not atoms g.name.text (primitive_opening o) (primitive_not Ok i o (finds g.kind.text ok.0))) (grants_not atoms owners gs ok.1)

  module _ (modules : List ModuleTree) (good : ModulesHave Ok modules) where
    instance_not : (atoms : List AtomName) (x m : List ℕ) → NamesNot i (opened_type h atoms x (module_opening (head_names h) modules m))
    instance_not atoms x m = opened_type_not atoms x (module_opening (head_names h) modules m) (module_opening_not Ok i (head_names h) finds modules good m)

    at_bound_not : (atoms : List AtomName) (o : Opening) (set : List ℕ) → OpensNot Ok i o → NamesNot i (at_bound h modules atoms o set)
    at_bound_not atoms (Members d) set f = f
    at_bound_not atoms Nothing set f = tt
    at_bound_not atoms Missing set f = tt

    uses_not : (atoms : List AtomName) (ms : List Name) → NamesAllNot (map (use_name h modules atoms) ms)
    uses_not atoms [] = λ n j. absurd j
    uses_not atoms (m ∷ ms) =
        cons_each OwnNot (use_name h modules atoms m) (map (use_name h modules atoms) ms) (instance_not atoms m.text m.text) (uses_not atoms ms)

    line_not : (atoms : List AtomName) (before : List Owner) (l : Line) → OwnNot (line_name h modules atoms before l)
    line_not atoms before (line.Instance x m ns) = instance_not atoms x.text m.text
    line_not atoms before (line.Import x m ns set) = at_bound_not atoms (module_opening (head_names h) modules m.text) _ (module_opening_not Ok i (head_names h) finds modules good m.text)

    lines_not : (atoms : List AtomName) (before : List Owner) (ls : List Line) → NamesAllNot (line_names h modules atoms before ls)
    lines_not atoms before [] = λ n j. absurd j
    lines_not atoms before (l ∷ ls) =
        let more = before ++ line_owner (head_names h) modules l ∷ [] in
        cons_each OwnNot (line_name h modules atoms before l) (line_names h modules atoms more ls) (line_not atoms before l) (lines_not atoms more ls)

  ------------------------------------------------------------
  -- What bodies stand for

  module _ (w : Within) (e : w.atoms.heads ≡ h) where
    typed_not : (u : TypeUse) → UseHas Ok u → NamesNot i (typed w u)
    typed_not u ok = type_not w.atoms e w.plain u ok

    typed_if_not : (o : Option TypeUse) → UseIfHas Ok o → AllNot (written_types (typed_if w o))
    typed_if_not None ok = none_not
    typed_if_not (Some u) ok = one_not (typed w u) (typed_not u ok)

    operand_not : (v : code.Value) → AllNot (value_types v) → AllNot (expr_types (operand v))
    operand_not (code.Plain x) f = f
    operand_not (code.If p test first second) f = none_not

    mutual
      expr_not : (s : Sight) (x : t.ExprTree) → ExprHas Ok x → AllNot (value_types (expr_value w s x))
      expr_not s (t.number v p) ok = none_not
      expr_not s (t.text x p) ok = none_not
      expr_not s (t.yes p) ok = none_not
      expr_not s (t.no p) ok = none_not
      expr_not s (t.this p) ok = none_not
      expr_not s (t.name n) ok = none_not
      expr_not s (t.unit p) ok = none_not
      expr_not s (t.negate x p) ok = operand_not (expr_value w s x) (expr_not s x ok)
      expr_not s (t.invert x p) ok = operand_not (expr_value w s x) (expr_not s x ok)
      expr_not s (t.binary o a b p) ok =
          append_not (expr_types (operand (expr_value w s a))) (expr_types (operand (expr_value w s b)))
          (operand_not (expr_value w s a) (expr_not s a ok.0)) (operand_not (expr_value w s b) (expr_not s b ok.1))
      expr_not s (t.call x n xs) ok =
          append_not (expr_types (operand (expr_value w s x))) (values_types (expr_values w s xs))
          (operand_not (expr_value w s x) (expr_not s x ok.0)) (exprs_not s xs ok.1)
      expr_not s (t.size x p) ok = append_not (value_types (expr_value w s x)) [] (expr_not s x ok) none_not
      expr_not s (t.part x a b p) ok =
          append_not (value_types (expr_value w s x)) (value_types (expr_value w s a) ++ (value_types (expr_value w s b) ++ [])) (expr_not s x ok.0)
          (append_not (value_types (expr_value w s a)) (value_types (expr_value w s b) ++ []) (expr_not s a ok.1)
          (append_not (value_types (expr_value w s b)) [] (expr_not s b ok.2) none_not))
      expr_not s (t.byte_at x a p) ok =
          append_not (value_types (expr_value w s x)) (value_types (expr_value w s a) ++ []) (expr_not s x ok.0)
          (append_not (value_types (expr_value w s a)) [] (expr_not s a ok.1) none_not)
      expr_not s (t.byte x p) ok = append_not (value_types (expr_value w s x)) [] (expr_not s x ok) none_not
      expr_not s (t.show x p) ok = append_not (value_types (expr_value w s x)) [] (expr_not s x ok) none_not
      expr_not s (t.ascribe x u p) ok =
          append_not (value_types (expr_value w s x)) (typed w u ∷ []) (expr_not s x ok.0) (one_not (typed w u) (typed_not u ok.1))
      expr_not s (t.choice c a b p) ok =
          append_not (expr_types (operand (expr_value w s c))) (value_types (expr_value w s a) ++ value_types (expr_value w s b))
          (operand_not (expr_value w s c) (expr_not s c ok.0))
          (append_not (value_types (expr_value w s a)) (value_types (expr_value w s b)) (expr_not s a ok.1) (expr_not s b ok.2))

      exprs_not : (s : Sight) (xs : t.ExprTrees) → ExprsHave Ok xs → AllNot (values_types (expr_values w s xs))
      exprs_not s t.none ok = none_not
      exprs_not s (t.more x xs) ok = append_not (value_types (expr_value w s x)) (values_types (expr_values w s xs)) (expr_not s x ok.0) (exprs_not s xs ok.1)

    last_not : (after : t.StmtTrees) (v : code.Value) (rest : code.Block) → AllNot (value_types v) → AllNot (block_types rest) → AllNot (block_types (last_or w after v rest))
    last_not t.no_stmts v rest f g = f
    last_not (t.more_stmts x xs) v rest f g = append_not (value_types v) (block_types rest) f g

    mutual
      rhs_not : (s : Sight) (n : Count) (r : t.RhsTree) → RhsHas Ok r → AllNot (value_types (rhs_value w s n r))
      rhs_not s n (t.literal p ps) ok = parts_not s (one_literal n) ps ok
      rhs_not s n (t.branch p c a b) ok =
          let first = block_types (stmts_block w p s n a) in
          let second = block_types (stmts_block w p s (stmts_after n a) b) in
          append_not (expr_types (operand (expr_value w s c))) (first ++ second) (operand_not (expr_value w s c) (expr_not s c ok.0))
          (append_not first second (stmts_not p s n a ok.1) (stmts_not p s (stmts_after n a) b ok.2))
      rhs_not s n (t.value x) ok = expr_not s x ok

      stmt_not : (s : Sight) (n : Count) (x : t.StmtTree) (after : t.StmtTrees) (rest : code.Block) → StmtHas Ok x → AllNot (block_types rest) →
          AllNot (block_types (stmt_block w s n x after rest))
      stmt_not s n (t.val x u r) after rest ok g =
          let v = value_types (rhs_value w s (one_val n) r) in
          append_not (written_types (typed_if w u)) (v ++ block_types rest) (typed_if_not u ok.0)
          (append_not v (block_types rest) (rhs_not s (one_val n) r ok.1) g)
      stmt_not s n (t.assign x r) after rest ok g =
          last_not after (code.Plain (code.Assign x.place (bound w s x) (rhs_value w s n r))) rest (rhs_not s n r ok) g
      stmt_not s n (t.run r) after rest ok g = last_not after (rhs_value w s n r) rest (rhs_not s n r ok) g

      stmts_not : (p : Place) (s : Sight) (n : Count) (xs : t.StmtTrees) → StmtsHave Ok xs → AllNot (block_types (stmts_block w p s n xs))
      stmts_not p s n t.no_stmts ok = none_not
      stmts_not p s n (t.more_stmts x xs) ok =
          stmt_not s n x xs (stmts_block w p (stmt_sight w s n x) (stmt_after n x) xs) ok.0 (stmts_not p (stmt_sight w s n x) (stmt_after n x) xs ok.1)

      parts_not : (s : Sight) (n : Count) (ps : t.PartTrees) → PartsHave Ok ps → AllNot (values_types (part_values w s n ps))
      parts_not s n t.no_parts ok = none_not
      parts_not s n (t.more_parts (t.field k x u r) ps) ok =
          append_not (value_types (rhs_value w s n r)) (values_types (part_values w s (part_after n (t.field k x u r)) ps))
          (rhs_not s n r ok.0.1) (parts_not s (part_after n (t.field k x u r)) ps ok.1)
      parts_not s n (t.more_parts (t.method g b) ps) ok = parts_not s (part_after n (t.method g b)) ps ok.1

    tail_not : (p : Place) (s : Sight) (n : Count) (b : t.TailTree) → TailHas Ok b → AllNot (block_types (tail_block w p s n b))
    tail_not p s n (t.short r) ok = rhs_not s n r ok
    tail_not p s n (t.long xs) ok = stmts_not p s n xs ok

    ------------------------------------------------------------
    -- Their literals

    abbrev LiteralNot : Literal → Type 0
    LiteralNot l = AllNot (map (λ (f : Field). f.typ) l.fields)

    abbrev LiteralsNot : List Literal → Type 0
    LiteralsNot ls = (l : Literal) → In l ls → LiteralNot l

    literals_append : (ls ks : List Literal) → LiteralsNot ls → LiteralsNot ks → LiteralsNot (ls ++ ks)
    literals_append ls ks f g = append_each LiteralNot ls ks f g

    fields_not : (ps : t.PartTrees) → PartsHave Ok ps → AllNot (map (λ (f : Field). f.typ) (fields_of w ps))
    fields_not t.no_parts ok = none_not
    fields_not (t.more_parts (t.field k x u r) ps) ok =
        cons_each (NamesNot i) (typed w u) (map (λ (f : Field). f.typ) (fields_of w ps)) (typed_not u ok.0.0) (fields_not ps ok.1)
    fields_not (t.more_parts (t.method g b) ps) ok = fields_not ps ok.1

    mutual
      rhs_fields : (s : Sight) (n : Count) (r : t.RhsTree) → RhsHas Ok r → LiteralsNot (rhs_literals w s n r)
      rhs_fields s n (t.literal p ps) ok =
          cons_each LiteralNot (literal_of w s ps) (parts_literals w s (inside s ps) (one_literal n) ps) (fields_not ps ok) (parts_fields s (inside s ps) (one_literal n) ps ok)
      rhs_fields s n (t.branch p c a b) ok =
          literals_append (stmts_literals w s n a) (stmts_literals w s (stmts_after n a) b) (stmts_fields s n a ok.1) (stmts_fields s (stmts_after n a) b ok.2)
      rhs_fields s n (t.value x) ok = λ l j. absurd j

      stmt_fields : (s : Sight) (n : Count) (x : t.StmtTree) → StmtHas Ok x → LiteralsNot (stmt_literals w s n x)
      stmt_fields s n (t.val x u r) ok = rhs_fields s (one_val n) r ok.1
      stmt_fields s n (t.assign x r) ok = rhs_fields s n r ok
      stmt_fields s n (t.run r) ok = rhs_fields s n r ok

      stmts_fields : (s : Sight) (n : Count) (xs : t.StmtTrees) → StmtsHave Ok xs → LiteralsNot (stmts_literals w s n xs)
      stmts_fields s n t.no_stmts ok = λ l j. absurd j
      stmts_fields s n (t.more_stmts x xs) ok =
          literals_append (stmt_literals w s n x) (stmts_literals w (stmt_sight w s n x) (stmt_after n x) xs) (stmt_fields s n x ok.0)
          (stmts_fields (stmt_sight w s n x) (stmt_after n x) xs ok.1)

      part_fields : (s within : Sight) (n : Count) (x : t.PartTree) → PartHas Ok x → LiteralsNot (part_literals w s within n x)
      part_fields s within n (t.field k x u r) ok = rhs_fields s n r ok.1
      part_fields s within n (t.method g b) ok = tail_fields (with_params within n.bodies g.params) (one_body n) b ok.1

      parts_fields : (s within : Sight) (n : Count) (ps : t.PartTrees) → PartsHave Ok ps → LiteralsNot (parts_literals w s within n ps)
      parts_fields s within n t.no_parts ok = λ l j. absurd j
      parts_fields s within n (t.more_parts x ps) ok =
          literals_append (part_literals w s within n x) (parts_literals w s within (part_after n x) ps) (part_fields s within n x ok.0)
          (parts_fields s within (part_after n x) ps ok.1)

      tail_fields : (s : Sight) (n : Count) (b : t.TailTree) → TailHas Ok b → LiteralsNot (tail_literals w s n b)
      tail_fields s n (t.short r) ok = rhs_fields s n r ok
      tail_fields s n (t.long xs) ok = stmts_fields s n xs ok

    literal_at : (ls : List Literal) → LiteralsNot ls → (k : ℕ) → AllNot (map (λ (f : Field). f.typ) (literal_fields (slice_get ls k)))
    literal_at [] f k = none_not
    literal_at (l ∷ ls) f zero = f l (inl refl)
    literal_at (l ∷ ls) f (suc k) = literal_at ls (λ m j. f m (inr j)) k

    ------------------------------------------------------------
    -- Their methods

    abbrev BodyNot : Body → Type 0
    BodyNot b = AllNot b.signature.params × NamesNot i b.signature.result × AllNot (block_types b.block)

    abbrev BodiesNot : List Body → Type 0
    BodiesNot bs = (b : Body) → In b bs → BodyNot b

    bodies_append : (bs cs : List Body) → BodiesNot bs → BodiesNot cs → BodiesNot (bs ++ cs)
    bodies_append bs cs f g = append_each BodyNot bs cs f g

    mutual
      rhs_methods : (s : Sight) (n : Count) (r : t.RhsTree) → RhsHas Ok r → BodiesNot (rhs_bodies w s n r)
      rhs_methods s n (t.literal p ps) ok = parts_methods s (inside s ps) n.literals (one_literal n) ps ok
      rhs_methods s n (t.branch p c a b) ok =
          bodies_append (stmts_bodies w s n a) (stmts_bodies w s (stmts_after n a) b) (stmts_methods s n a ok.1) (stmts_methods s (stmts_after n a) b ok.2)
      rhs_methods s n (t.value x) ok = λ b j. absurd j

      stmt_methods : (s : Sight) (n : Count) (x : t.StmtTree) → StmtHas Ok x → BodiesNot (stmt_bodies w s n x)
      stmt_methods s n (t.val x u r) ok = rhs_methods s (one_val n) r ok.1
      stmt_methods s n (t.assign x r) ok = rhs_methods s n r ok
      stmt_methods s n (t.run r) ok = rhs_methods s n r ok

      stmts_methods : (s : Sight) (n : Count) (xs : t.StmtTrees) → StmtsHave Ok xs → BodiesNot (stmts_bodies w s n xs)
      stmts_methods s n t.no_stmts ok = λ b j. absurd j
      stmts_methods s n (t.more_stmts x xs) ok =
          bodies_append (stmt_bodies w s n x) (stmts_bodies w (stmt_sight w s n x) (stmt_after n x) xs) (stmt_methods s n x ok.0)
          (stmts_methods (stmt_sight w s n x) (stmt_after n x) xs ok.1)

      part_methods : (s within : Sight) (owner : ℕ) (n : Count) (x : t.PartTree) → PartHas Ok x → BodiesNot (part_bodies w s within owner n x)
      part_methods s within owner n (t.field k x u r) ok = rhs_methods s n r ok.1
      part_methods s within owner n (t.method g b) ok =
          let sees : Sight = with_params within n.bodies g.params in
          cons_each BodyNot (method_body w within n owner g b) (tail_bodies w sees (one_body n) b)
          (params_not w.atoms e w.plain g.params ok.0.0, typed_not g.result ok.0.1, tail_not g.place sees (one_body n) b ok.1)
          (tail_methods sees (one_body n) b ok.1)

      parts_methods : (s within : Sight) (owner : ℕ) (n : Count) (ps : t.PartTrees) → PartsHave Ok ps → BodiesNot (parts_bodies w s within owner n ps)
      parts_methods s within owner n t.no_parts ok = λ b j. absurd j
      parts_methods s within owner n (t.more_parts x ps) ok =
          bodies_append (part_bodies w s within owner n x) (parts_bodies w s within owner (part_after n x) ps) (part_methods s within owner n x ok.0)
          (parts_methods s within owner (part_after n x) ps ok.1)

      tail_methods : (s : Sight) (n : Count) (b : t.TailTree) → TailHas Ok b → BodiesNot (tail_bodies w s n b)
      tail_methods s n (t.short r) ok = rhs_methods s n r ok
      tail_methods s n (t.long xs) ok = stmts_methods s n xs ok

  ------------------------------------------------------------
  -- Scopes

  -- the type that a module is sealed at
  pub sealed_not : (modules : List ModuleTree) (m : ModuleTree) → ModuleHas Ok m → (d : ℕ) → (scope_of_module h modules m).ascribed ≡ Some d → d ≡ i → ⊥
  sealed_not modules m ok d f = finds m.sealed.text ok.1 d f

  pub module_writes_not : (modules : List ModuleTree) → ModulesHave Ok modules → (m : ModuleTree) → ModuleHas Ok m → WritesNot i (scope_of_module h modules m)
  module_writes_not modules good m ok =
      let w : Within = module_within h modules m in
      let atoms = module_atoms h modules m in
      let bodies = parts_methods w refl outermost (inside outermost m.parts) 0 at_start m.parts ok.2 in
      let literals = literal_of w outermost m.parts ∷ parts_literals w outermost (inside outermost m.parts) at_start m.parts in
      let named =
      append_each OwnNot (map (param_name (param_scope h modules m) (is_plain m.kind)) m.params)
      (map (use_name h modules atoms) m.uses ++ line_names h modules atoms (early_owners h modules m) m.lines)
      (own_params_not atoms (param_scope h modules m).owners (is_plain m.kind) m.params ok.0)
      (append_each OwnNot (map (use_name h modules atoms) m.uses) (line_names h modules atoms (early_owners h modules m) m.lines)
      (uses_not modules good atoms m.uses) (lines_not modules good atoms (early_owners h modules m) m.lines)) in
      record {
        fields = λ l. literal_at w refl literals
            (cons_each (LiteralNot w refl) (literal_of w outermost m.parts) (parts_literals w outermost (inside outermost m.parts) at_start m.parts)
            (fields_not w refl m.parts ok.2) (parts_fields w refl outermost (inside outermost m.parts) at_start m.parts ok.2)) l;
        params = λ b j. (bodies b j).0;
        results = λ b j. (bodies b j).1;
        names = named;
        start = parts_not w refl outermost at_start m.parts ok.2;
        bodies = λ b j. (bodies b j).2;
      }

  pub program_writes_not : (modules : List ModuleTree) → ModulesHave Ok modules → (g : ProgramTree) → BlockHas Ok g → WritesNot i (scope_of_program h modules g)
  program_writes_not modules good g ok =
      let w : Within = program_within h modules g in
      let atoms = program_atoms h modules g in
      let bodies = tail_methods w refl outermost at_start g.body ok.1 in
      let own : Literal = record { captures = []; fields = [] } in
      let named =
      append_each OwnNot (map (grant_name (program_scope h modules g)) g.grants)
      (map (use_name h modules atoms) g.uses ++ line_names h modules atoms (grant_owners h modules g) g.lines)
      (grants_not atoms (program_scope h modules g).owners g.grants ok.0)
      (append_each OwnNot (map (use_name h modules atoms) g.uses) (line_names h modules atoms (grant_owners h modules g) g.lines)
      (uses_not modules good atoms g.uses) (lines_not modules good atoms (grant_owners h modules g) g.lines)) in
      record {
        fields = λ l. literal_at w refl (own ∷ tail_literals w outermost at_start g.body)
            (cons_each (LiteralNot w refl) own (tail_literals w outermost at_start g.body) none_not (tail_fields w refl outermost at_start g.body ok.1)) l;
        params = λ b j. (bodies b j).0;
        results = λ b j. (bodies b j).1;
        names = named;
        start = tail_not w refl g.run outermost at_start g.body ok.1;
        bodies = λ b j. (bodies b j).2;
      }
