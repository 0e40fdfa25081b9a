-- Bodies in which each name that stands for a type is `Ok` stand for the same in two scopes in which such types do, and are
-- refused the same.
use Rattle.std.proofs.Common.{◌≡◌, ℕ, Bool, List, ◌∷◌, ◌++◌, Option, Some, None, refl, ap, ap₂}
use Rattle.wy_text.specs.declared.fault.Place.{Place}
use Rattle.wy_syntax.specs.declared.types.TypeUse.{TypeUse}
use Rattle.wy_syntax.specs.declared.types.Signature.{Signature}
use Rattle.wy_syntax.specs.Trees as tree
use Rattle.wy_types.specs.declared.code.UnaryOperator.TheVariants as unary
use Rattle.wy_types.specs.declared.code.TextOperator.TheVariants as texts
use Rattle.wy_types.specs.declared.types.TypeRef.{TypeRef}
use Rattle.wy_types.specs.declared.types.Method.{Method}
use Rattle.wy_types.specs.declared.resolved.Field.{Field}
use Rattle.wy_types.specs.declared.resolved.Literal.{Literal}
use Rattle.wy_types.specs.Code as code
use Rattle.wy_types.specs.Program.{Body}
use Rattle.wy_symbols.specs.declared.refusal.Refusal.{Refusal}
use Rattle.wy_symbols.specs.Atoms.{AtomScope}
use Rattle.wy_symbols.specs.TypeUses.{type_ref, method_of, use_refusals, signature_refusals}
use Rattle.wy_bodies.specs.Sight.{Sight, with_params, inside, captures}
use Rattle.wy_bodies.specs.Bodies.{Within, Count, one_val, one_literal, one_body, stmt_after, stmts_after, part_after, operator_of, operand, bound, expr_value, expr_values, typed_if, stmt_sight, last_or, rhs_value, stmt_block, stmts_block, part_values, tail_block, is_var, fields_of, literal_of, rhs_literals, stmt_literals, stmts_literals, part_literals, parts_literals, tail_literals, rhs_bodies, stmt_bodies, stmts_bodies, part_bodies, parts_bodies, tail_bodies}
use Rattle.wy_bodies.specs.BodyRefusals.{repeated_parts, value_refusals, typed_if_refusals, expr_refusals, exprs_refusals, rhs_refusals, stmt_refusals, stmts_refusals, part_refusals, parts_refusals, tail_refusals}
use Rattle.wy_editions.proofs.TypeNames.{UseHas, UseIfHas, SignatureHas, ExprHas, ExprsHave, RhsHas, StmtHas, StmtsHave, PartHas, PartsHave, TailHas}

-- what is made of equal parts is equal
ap₃ : {A B C D : Type 0} (f : A → B → C → D) {a a' : A} {b b' : B} {c c' : C} → a ≡ a' → b ≡ b' → c ≡ c' → f a b c ≡ f a' b' c'
ap₃ {A} {B} {C} {D} f p q r = ap₂ (λ (g : C → D) (z : C). g z) (ap₂ f p q) r

joined : {X : Type 0} {a b c d : List X} → a ≡ b → c ≡ d → a ++ c ≡ b ++ d
joined {X} p q = ap₂ (λ (x y : List X). x ++ y) p q

module _ (Ok : List ℕ → Type 0) (s t : AtomScope) (plain : Bool) (own : List (List ℕ))
    (typed_same : (u : TypeUse) → UseHas Ok u → type_ref s plain u ≡ type_ref t plain u)
    (method_same : (g : Signature) → SignatureHas Ok g → method_of s plain g ≡ method_of t plain g)
    (use_same : (u : TypeUse) → UseHas Ok u → use_refusals s plain u ≡ use_refusals t plain u)
    (signature_same : (g : Signature) → SignatureHas Ok g → signature_refusals s plain g ≡ signature_refusals t plain g) where
  -- the two scopes
  abbrev w : Within
  w = record { atoms = s; plain = plain; own = own }

  abbrev v : Within
  v = record { atoms = t; plain = plain; own = own }

  ------------------------------------------------------------
  -- What bodies stand for

  mutual
    expr_same : (x : Sight) (e : tree.ExprTree) → ExprHas Ok e → expr_value w x e ≡ expr_value v x e
    expr_same x (tree.number z p) h = refl
    expr_same x (tree.text z p) h = refl
    expr_same x (tree.yes p) h = refl
    expr_same x (tree.no p) h = refl
    expr_same x (tree.this p) h = refl
    expr_same x (tree.name n) h = refl
    expr_same x (tree.unit p) h = refl
    expr_same x (tree.negate e p) h = ap (λ (a : code.Value). code.Plain (code.Unary p unary.Negate (operand a))) (expr_same x e h)
    expr_same x (tree.invert e p) h = ap (λ (a : code.Value). code.Plain (code.Unary p unary.Not (operand a))) (expr_same x e h)
    expr_same x (tree.binary o a b p) h =
        ap₂ (λ (c d : code.Value). code.Plain (code.Binary p (operator_of o) (operand c) (operand d))) (expr_same x a h.0) (expr_same x b h.1)
    expr_same x (tree.call e n es) h =
        ap₂ (λ (c : code.Value) (d : code.Values). code.Plain (code.Call n.place (operand c) n.text d)) (expr_same x e h.0) (exprs_same x es h.1)
    expr_same x (tree.size e p) h = ap (λ (a : code.Value). code.Plain (code.TextCall p texts.Size (code.more a code.none))) (expr_same x e h)
    expr_same x (tree.part e a b p) h =
        ap₃ (λ (c d f : code.Value). code.Plain (code.TextCall p texts.Part (code.more c (code.more d (code.more f code.none)))))
        (expr_same x e h.0) (expr_same x a h.1) (expr_same x b h.2)
    expr_same x (tree.byte_at e i p) h =
        ap₂ (λ (c d : code.Value). code.Plain (code.TextCall p texts.Code (code.more c (code.more d code.none)))) (expr_same x e h.0) (expr_same x i h.1)
    expr_same x (tree.byte e p) h = ap (λ (a : code.Value). code.Plain (code.TextCall p texts.Byte (code.more a code.none))) (expr_same x e h)
    expr_same x (tree.show e p) h = ap (λ (a : code.Value). code.Plain (code.TextCall p texts.Show (code.more a code.none))) (expr_same x e h)
    expr_same x (tree.ascribe e u p) h =
        ap₂ (λ (c : code.Value) (d : TypeRef). code.Plain (code.Ascribe p c d)) (expr_same x e h.0) (typed_same u h.1)
    expr_same x (tree.choice c a b p) h =
        ap₃ (λ (d f g : code.Value). code.If p (operand d) (code.Last f) (code.Last g)) (expr_same x c h.0) (expr_same x a h.1) (expr_same x b h.2)

    exprs_same : (x : Sight) (es : tree.ExprTrees) → ExprsHave Ok es → expr_values w x es ≡ expr_values v x es
    exprs_same x tree.none h = refl
    exprs_same x (tree.more e es) h = ap₂ (λ (a : code.Value) (b : code.Values). code.more a b) (expr_same x e h.0) (exprs_same x es h.1)

  typed_if_same : (u : Option TypeUse) → UseIfHas Ok u → typed_if w u ≡ typed_if v u
  typed_if_same None h = refl
  typed_if_same (Some u) h = ap (λ (a : TypeRef). Some a) (typed_same u h)

  mutual
    rhs_same : (x : Sight) (n : Count) (r : tree.RhsTree) → RhsHas Ok r → rhs_value w x n r ≡ rhs_value v x n r
    rhs_same x n (tree.literal p ps) h =
        ap (λ (a : code.Values). code.Plain (code.New p n.literals a)) (part_values_same x (one_literal n) ps h)
    rhs_same x n (tree.branch p c a b) h =
        ap₃ (λ (d : code.Value) (f g : code.Block). code.If p (operand d) f g) (expr_same x c h.0) (stmts_same p x n a h.1) (stmts_same p x (stmts_after n a) b h.2)
    rhs_same x n (tree.value e) h = expr_same x e h

    stmt_same : (x : Sight) (n : Count) (y : tree.StmtTree) (after : tree.StmtTrees) (rest other : code.Block) → StmtHas Ok y → rest ≡ other →
        stmt_block w x n y after rest ≡ stmt_block v x n y after other
    stmt_same x n (tree.val y u r) after rest other h e =
        ap₃ (λ (a : Option TypeRef) (b : code.Value) (c : code.Block). code.Val y.place n.vals a b c) (typed_if_same u h.0) (rhs_same x (one_val n) r h.1) e
    stmt_same x n (tree.assign y r) after rest other h e =
        ap₂ (λ (a : code.Value) (b : code.Block). last_or w after (code.Plain (code.Assign y.place (bound w x y) a)) b) (rhs_same x n r h) e
    stmt_same x n (tree.run r) after rest other h e = ap₂ (λ (a : code.Value) (b : code.Block). last_or w after a b) (rhs_same x n r h) e

    stmts_same : (p : Place) (x : Sight) (n : Count) (ys : tree.StmtTrees) → StmtsHave Ok ys → stmts_block w p x n ys ≡ stmts_block v p x n ys
    stmts_same p x n tree.no_stmts h = refl
    stmts_same p x n (tree.more_stmts y ys) h =
        let after = stmt_sight w x n y in
        stmt_same x n y ys (stmts_block w p after (stmt_after n y) ys) (stmts_block v p after (stmt_after n y) ys) h.0
        (stmts_same p after (stmt_after n y) ys h.1)

    pub part_values_same : (x : Sight) (n : Count) (ps : tree.PartTrees) → PartsHave Ok ps → part_values w x n ps ≡ part_values v x n ps
    part_values_same x n tree.no_parts h = refl
    part_values_same x n (tree.more_parts (tree.field k y u r) ps) h =
        ap₂ (λ (a : code.Value) (b : code.Values). code.more a b) (rhs_same x n r h.0.1) (part_values_same x (part_after n (tree.field k y u r)) ps h.1)
    part_values_same x n (tree.more_parts (tree.method g b) ps) h = part_values_same x (part_after n (tree.method g b)) ps h.1

  pub tail_block_same : (p : Place) (x : Sight) (n : Count) (b : tree.TailTree) → TailHas Ok b → tail_block w p x n b ≡ tail_block v p x n b
  tail_block_same p x n (tree.short r) h = ap (λ (a : code.Value). code.Last a) (rhs_same x n r h)
  tail_block_same p x n (tree.long ys) h = stmts_same p x n ys h

  ------------------------------------------------------------
  -- Their literals

  fields_same : (ps : tree.PartTrees) → PartsHave Ok ps → fields_of w ps ≡ fields_of v ps
  fields_same tree.no_parts h = refl
  fields_same (tree.more_parts (tree.field k y u r) ps) h =
      ap₂ (λ (a : TypeRef) (b : List Field). let f : Field = record { name = y.text; place = y.place; mutable = is_var w k; typ = a } in f ∷ b)
      (typed_same u h.0.0) (fields_same ps h.1)
  fields_same (tree.more_parts (tree.method g b) ps) h = fields_same ps h.1

  pub literal_same : (x : Sight) (ps : tree.PartTrees) → PartsHave Ok ps → literal_of w x ps ≡ literal_of v x ps
  literal_same x ps h = ap (λ (a : List Field). let l : Literal = record { captures = captures x ps; fields = a } in l) (fields_same ps h)

  mutual
    rhs_literals_same : (x : Sight) (n : Count) (r : tree.RhsTree) → RhsHas Ok r → rhs_literals w x n r ≡ rhs_literals v x n r
    rhs_literals_same x n (tree.literal p ps) h =
        ap₂ (λ (a : Literal) (b : List Literal). a ∷ b) (literal_same x ps h) (parts_literals_same x (inside x ps) (one_literal n) ps h)
    rhs_literals_same x n (tree.branch p c a b) h = joined (stmts_literals_same x n a h.1) (stmts_literals_same x (stmts_after n a) b h.2)
    rhs_literals_same x n (tree.value e) h = refl

    stmt_literals_same : (x : Sight) (n : Count) (y : tree.StmtTree) → StmtHas Ok y → stmt_literals w x n y ≡ stmt_literals v x n y
    stmt_literals_same x n (tree.val y u r) h = rhs_literals_same x (one_val n) r h.1
    stmt_literals_same x n (tree.assign y r) h = rhs_literals_same x n r h
    stmt_literals_same x n (tree.run r) h = rhs_literals_same x n r h

    stmts_literals_same : (x : Sight) (n : Count) (ys : tree.StmtTrees) → StmtsHave Ok ys → stmts_literals w x n ys ≡ stmts_literals v x n ys
    stmts_literals_same x n tree.no_stmts h = refl
    stmts_literals_same x n (tree.more_stmts y ys) h =
        joined (stmt_literals_same x n y h.0) (stmts_literals_same (stmt_sight w x n y) (stmt_after n y) ys h.1)

    part_literals_same : (x within : Sight) (n : Count) (y : tree.PartTree) → PartHas Ok y → part_literals w x within n y ≡ part_literals v x within n y
    part_literals_same x within n (tree.field k y u r) h = rhs_literals_same x n r h.1
    part_literals_same x within n (tree.method g b) h = tail_literals_same (with_params within n.bodies g.params) (one_body n) b h.1

    pub parts_literals_same : (x within : Sight) (n : Count) (ps : tree.PartTrees) → PartsHave Ok ps → parts_literals w x within n ps ≡ parts_literals v x within n ps
    parts_literals_same x within n tree.no_parts h = refl
    parts_literals_same x within n (tree.more_parts y ps) h =
        joined (part_literals_same x within n y h.0) (parts_literals_same x within (part_after n y) ps h.1)

    pub tail_literals_same : (x : Sight) (n : Count) (b : tree.TailTree) → TailHas Ok b → tail_literals w x n b ≡ tail_literals v x n b
    tail_literals_same x n (tree.short r) h = rhs_literals_same x n r h
    tail_literals_same x n (tree.long ys) h = stmts_literals_same x n ys h

  ------------------------------------------------------------
  -- Their methods

  mutual
    rhs_bodies_same : (x : Sight) (n : Count) (r : tree.RhsTree) → RhsHas Ok r → rhs_bodies w x n r ≡ rhs_bodies v x n r
    rhs_bodies_same x n (tree.literal p ps) h = parts_bodies_same x (inside x ps) n.literals (one_literal n) ps h
    rhs_bodies_same x n (tree.branch p c a b) h = joined (stmts_bodies_same x n a h.1) (stmts_bodies_same x (stmts_after n a) b h.2)
    rhs_bodies_same x n (tree.value e) h = refl

    stmt_bodies_same : (x : Sight) (n : Count) (y : tree.StmtTree) → StmtHas Ok y → stmt_bodies w x n y ≡ stmt_bodies v x n y
    stmt_bodies_same x n (tree.val y u r) h = rhs_bodies_same x (one_val n) r h.1
    stmt_bodies_same x n (tree.assign y r) h = rhs_bodies_same x n r h
    stmt_bodies_same x n (tree.run r) h = rhs_bodies_same x n r h

    stmts_bodies_same : (x : Sight) (n : Count) (ys : tree.StmtTrees) → StmtsHave Ok ys → stmts_bodies w x n ys ≡ stmts_bodies v x n ys
    stmts_bodies_same x n tree.no_stmts h = refl
    stmts_bodies_same x n (tree.more_stmts y ys) h =
        joined (stmt_bodies_same x n y h.0) (stmts_bodies_same (stmt_sight w x n y) (stmt_after n y) ys h.1)

    part_bodies_same : (x within : Sight) (owner : ℕ) (n : Count) (y : tree.PartTree) → PartHas Ok y → part_bodies w x within owner n y ≡ part_bodies v x within owner n y
    part_bodies_same x within owner n (tree.field k y u r) h = rhs_bodies_same x n r h.1
    part_bodies_same x within owner n (tree.method g b) h =
        let sees : Sight = with_params within n.bodies g.params in
        ap₃ (λ (m : Method) (c : code.Block) (others : List Body). let o : Body = record { owner = owner; place = g.place; signature = m; block = c } in o ∷ others)
        (method_same g h.0) (tail_block_same g.place sees (one_body n) b h.1) (tail_bodies_same sees (one_body n) b h.1)

    pub parts_bodies_same : (x within : Sight) (owner : ℕ) (n : Count) (ps : tree.PartTrees) → PartsHave Ok ps → parts_bodies w x within owner n ps ≡ parts_bodies v x within owner n ps
    parts_bodies_same x within owner n tree.no_parts h = refl
    parts_bodies_same x within owner n (tree.more_parts y ps) h =
        joined (part_bodies_same x within owner n y h.0) (parts_bodies_same x within owner (part_after n y) ps h.1)

    pub tail_bodies_same : (x : Sight) (n : Count) (b : tree.TailTree) → TailHas Ok b → tail_bodies w x n b ≡ tail_bodies v x n b
    tail_bodies_same x n (tree.short r) h = rhs_bodies_same x n r h
    tail_bodies_same x n (tree.long ys) h = stmts_bodies_same x n ys h

  ------------------------------------------------------------
  -- Their refusals

  mutual
    expr_refusals_same : (x : Sight) (e : tree.ExprTree) → ExprHas Ok e → expr_refusals w x e ≡ expr_refusals v x e
    expr_refusals_same x (tree.number z p) h = refl
    expr_refusals_same x (tree.text z p) h = refl
    expr_refusals_same x (tree.yes p) h = refl
    expr_refusals_same x (tree.no p) h = refl
    expr_refusals_same x (tree.this p) h = refl
    expr_refusals_same x (tree.name n) h = refl
    expr_refusals_same x (tree.unit p) h = refl
    expr_refusals_same x (tree.negate e p) h = expr_refusals_same x e h
    expr_refusals_same x (tree.invert e p) h = expr_refusals_same x e h
    expr_refusals_same x (tree.binary o a b p) h = joined (expr_refusals_same x a h.0) (expr_refusals_same x b h.1)
    expr_refusals_same x (tree.call e n es) h = joined (expr_refusals_same x e h.0) (exprs_refusals_same x es h.1)
    expr_refusals_same x (tree.size e p) h = expr_refusals_same x e h
    expr_refusals_same x (tree.part e a b p) h = joined (expr_refusals_same x e h.0) (joined (expr_refusals_same x a h.1) (expr_refusals_same x b h.2))
    expr_refusals_same x (tree.byte_at e i p) h = joined (expr_refusals_same x e h.0) (expr_refusals_same x i h.1)
    expr_refusals_same x (tree.byte e p) h = expr_refusals_same x e h
    expr_refusals_same x (tree.show e p) h = expr_refusals_same x e h
    expr_refusals_same x (tree.ascribe e u p) h = joined (expr_refusals_same x e h.0) (use_same u h.1)
    expr_refusals_same x (tree.choice c a b p) h = joined (expr_refusals_same x c h.0) (joined (expr_refusals_same x a h.1) (expr_refusals_same x b h.2))

    exprs_refusals_same : (x : Sight) (es : tree.ExprTrees) → ExprsHave Ok es → exprs_refusals w x es ≡ exprs_refusals v x es
    exprs_refusals_same x tree.none h = refl
    exprs_refusals_same x (tree.more e es) h = joined (expr_refusals_same x e h.0) (exprs_refusals_same x es h.1)

  use_if_same : (u : Option TypeUse) → UseIfHas Ok u → typed_if_refusals w u ≡ typed_if_refusals v u
  use_if_same None h = refl
  use_if_same (Some u) h = use_same u h

  mutual
    rhs_refusals_same : (x : Sight) (n : Count) (r : tree.RhsTree) → RhsHas Ok r → rhs_refusals w x n r ≡ rhs_refusals v x n r
    rhs_refusals_same x n (tree.literal p ps) h = ap (λ (a : List Refusal). repeated_parts ps ++ a) (parts_refusals_same x (inside x ps) (one_literal n) ps h)
    rhs_refusals_same x n (tree.branch p c a b) h =
        joined (expr_refusals_same x c h.0) (joined (stmts_refusals_same x n a h.1) (stmts_refusals_same x (stmts_after n a) b h.2))
    rhs_refusals_same x n (tree.value e) h = expr_refusals_same x e h

    stmt_refusals_same : (x : Sight) (n : Count) (y : tree.StmtTree) → StmtHas Ok y → stmt_refusals w x n y ≡ stmt_refusals v x n y
    stmt_refusals_same x n (tree.val y u r) h = joined (use_if_same u h.0) (rhs_refusals_same x (one_val n) r h.1)
    stmt_refusals_same x n (tree.assign y r) h = ap (λ (a : List Refusal). value_refusals w x y ++ a) (rhs_refusals_same x n r h)
    stmt_refusals_same x n (tree.run r) h = rhs_refusals_same x n r h

    stmts_refusals_same : (x : Sight) (n : Count) (ys : tree.StmtTrees) → StmtsHave Ok ys → stmts_refusals w x n ys ≡ stmts_refusals v x n ys
    stmts_refusals_same x n tree.no_stmts h = refl
    stmts_refusals_same x n (tree.more_stmts y ys) h =
        joined (stmt_refusals_same x n y h.0) (stmts_refusals_same (stmt_sight w x n y) (stmt_after n y) ys h.1)

    part_refusals_same : (x within : Sight) (n : Count) (y : tree.PartTree) → PartHas Ok y → part_refusals w x within n y ≡ part_refusals v x within n y
    part_refusals_same x within n (tree.field k y u r) h = joined (use_same u h.0) (rhs_refusals_same x n r h.1)
    part_refusals_same x within n (tree.method g b) h =
        joined (signature_same g h.0) (tail_refusals_same (with_params within n.bodies g.params) (one_body n) b h.1)

    pub parts_refusals_same : (x within : Sight) (n : Count) (ps : tree.PartTrees) → PartsHave Ok ps → parts_refusals w x within n ps ≡ parts_refusals v x within n ps
    parts_refusals_same x within n tree.no_parts h = refl
    parts_refusals_same x within n (tree.more_parts y ps) h =
        joined (part_refusals_same x within n y h.0) (parts_refusals_same x within (part_after n y) ps h.1)

    pub tail_refusals_same : (x : Sight) (n : Count) (b : tree.TailTree) → TailHas Ok b → tail_refusals w x n b ≡ tail_refusals v x n b
    tail_refusals_same x n (tree.short r) h = rhs_refusals_same x n r h
    tail_refusals_same x n (tree.long ys) h = stmts_refusals_same x n ys h
