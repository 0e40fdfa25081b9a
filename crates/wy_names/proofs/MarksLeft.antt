-- A test that each mark of items passes is passed by each mark of their program.
use Rattle.std.proofs.Common.{◌≡◌, ℕ, Bool, true, List, [], ◌∷◌, ◌++◌, map, Option, Some, None, sym, subst}
use Rattle.wy_text.specs.declared.fault.Place.{Place}
use Rattle.wy_syntax.specs.declared.items.Init.{Init}
use Rattle.wy_syntax.specs.Marks as tree
use Rattle.wy_syntax.specs.Trees as t
use Rattle.wy_types.specs.Code as code
use Rattle.wy_types.specs.Marks as core
use Rattle.wy_types.specs.Program.{Program, Scope, Body}
use Rattle.wy_symbols.specs.declared.scoping.Head.{Head}
use Rattle.wy_symbols.specs.Atoms.{heads_of}
use Rattle.wy_bodies.specs.Bodies.{Within, Count, at_start, one_val, one_literal, one_body, stmt_after, stmts_after, part_after, operand, bound, expr_value, expr_values, stmt_sight, last_or, rhs_value, stmt_block, stmts_block, part_values, tail_block, rhs_bodies, stmt_bodies, stmts_bodies, part_bodies, parts_bodies, tail_bodies}
use Rattle.wy_symbols.specs.Declarations.{ModuleTree, ProgramTree, types_of, modules_of, programs_of}
use Rattle.wy_names.specs.Laws.{MarksOfItems}
use Rattle.wy_names.specs.Names.{Resolves}
use Rattle.wy_names.specs.Scopes.{module_within, program_within, scope_of_module, scope_of_program}
use Rattle.wy_heads.specs.ScopeHeads.{start_place}
use Rattle.wy_bodies.specs.Sight.{Sight, outermost, inside, with_params}

module _ (test : Place → Bool) where
  operand_passes : (v : code.Value) → core.ValuePasses test v → core.ExprPasses test (operand v)
  operand_passes (code.Plain e) h = h
  operand_passes (code.If p on first second) h = h.0

  bodies_append : (xs ys : List Body) → core.BodiesPass test xs → core.BodiesPass test ys → core.BodiesPass test (xs ++ ys)
  bodies_append [] ys h g = g
  bodies_append (x ∷ xs) ys h g = (h.0, bodies_append xs ys h.1 g)

  ------------------------------------------------------------
  -- What bodies stand for

  module _ (w : Within) where
    mutual
      expr_passes : (s : Sight) (e : t.ExprTree) → tree.ExprPasses test e → core.ValuePasses test (expr_value w s e)
      expr_passes s (t.number v p) h = h
      expr_passes s (t.text x p) h = h
      expr_passes s (t.yes p) h = h
      expr_passes s (t.no p) h = h
      expr_passes s (t.this p) h = h
      expr_passes s (t.name n) h = h
      expr_passes s (t.unit p) h = h
      expr_passes s (t.negate e p) h = (h.0, operand_passes (expr_value w s e) (expr_passes s e h.1))
      expr_passes s (t.invert e p) h = (h.0, operand_passes (expr_value w s e) (expr_passes s e h.1))
      expr_passes s (t.binary o a b p) h = (h.0, operand_passes (expr_value w s a) (expr_passes s a h.1), operand_passes (expr_value w s b) (expr_passes s b h.2))
      expr_passes s (t.call e n es) h = (h.0, operand_passes (expr_value w s e) (expr_passes s e h.1), exprs_pass s es h.2)
      expr_passes s (t.size e p) h = (h.0, (expr_passes s e h.1, tt))
      expr_passes s (t.part e a b p) h = (h.0, (expr_passes s e h.1, (expr_passes s a h.2, (expr_passes s b h.3, tt))))
      expr_passes s (t.byte_at e i p) h = (h.0, (expr_passes s e h.1, (expr_passes s i h.2, tt)))
      expr_passes s (t.byte e p) h = (h.0, (expr_passes s e h.1, tt))
      expr_passes s (t.show e p) h = (h.0, (expr_passes s e h.1, tt))
      expr_passes s (t.ascribe e u p) h = (h.0, expr_passes s e h.1)
      expr_passes s (t.choice c a b p) h = (h.0, operand_passes (expr_value w s c) (expr_passes s c h.1), expr_passes s a h.2, expr_passes s b h.3)

      exprs_pass : (s : Sight) (es : t.ExprTrees) → tree.ExprsPass test es → core.ValuesPass test (expr_values w s es)
      exprs_pass s t.none h = tt
      exprs_pass s (t.more e es) h = (expr_passes s e h.0, exprs_pass s es h.1)

    last_passes : (after : t.StmtTrees) (v : code.Value) (rest : code.Block) → core.ValuePasses test v → core.BlockPasses test rest → core.BlockPasses test (last_or w after v rest)
    last_passes t.no_stmts v rest h g = h
    last_passes (t.more_stmts x xs) v rest h g = (h, g)

    mutual
      rhs_passes : (s : Sight) (n : Count) (r : t.RhsTree) → tree.RhsPasses test r → core.ValuePasses test (rhs_value w s n r)
      rhs_passes s n (t.literal p ps) h = (h.0, parts_pass s (one_literal n) ps h.1)
      rhs_passes s n (t.branch p c a b) h =
          (h.0, operand_passes (expr_value w s c) (expr_passes s c h.1), stmts_pass p s n a h.0 h.2, stmts_pass p s (stmts_after n a) b h.0 h.3)
      rhs_passes s n (t.value e) h = expr_passes s e h

      stmt_passes : (s : Sight) (n : Count) (x : t.StmtTree) (after : t.StmtTrees) (rest : code.Block) → tree.StmtPasses test x → core.BlockPasses test rest →
          core.BlockPasses test (stmt_block w s n x after rest)
      stmt_passes s n (t.val x u r) after rest h g = (h.0, rhs_passes s (one_val n) r h.1, g)
      stmt_passes s n (t.assign x r) after rest h g =
          last_passes after (code.Plain (code.Assign x.place (bound w s x) (rhs_value w s n r))) rest (h.0, rhs_passes s n r h.1) g
      stmt_passes s n (t.run r) after rest h g = last_passes after (rhs_value w s n r) rest (rhs_passes s n r h) g

      stmts_pass : (p : Place) (s : Sight) (n : Count) (xs : t.StmtTrees) → test p ≡ true → tree.StmtsPass test xs → core.BlockPasses test (stmts_block w p s n xs)
      stmts_pass p s n t.no_stmts q h = q
      stmts_pass p s n (t.more_stmts x xs) q h =
          stmt_passes s n x xs (stmts_block w p (stmt_sight w s n x) (stmt_after n x) xs) h.0 (stmts_pass p (stmt_sight w s n x) (stmt_after n x) xs q h.1)

      parts_pass : (s : Sight) (n : Count) (ps : t.PartTrees) → tree.PartsPass test ps → core.ValuesPass test (part_values w s n ps)
      parts_pass s n t.no_parts h = tt
      parts_pass s n (t.more_parts (t.field k x u r) ps) h = (rhs_passes s n r h.0, parts_pass s (part_after n (t.field k x u r)) ps h.1)
      parts_pass s n (t.more_parts (t.method g b) ps) h = parts_pass s (part_after n (t.method g b)) ps h.1

    tail_passes : (p : Place) (s : Sight) (n : Count) (b : t.TailTree) → test p ≡ true → tree.TailPasses test b → core.BlockPasses test (tail_block w p s n b)
    tail_passes p s n (t.short r) q h = rhs_passes s n r h
    tail_passes p s n (t.long ss) q h = stmts_pass p s n ss q h

    ------------------------------------------------------------
    -- Their methods

    mutual
      rhs_methods : (s : Sight) (n : Count) (r : t.RhsTree) → tree.RhsPasses test r → core.BodiesPass test (rhs_bodies w s n r)
      rhs_methods s n (t.literal p ps) h = parts_methods s (inside s ps) n.literals (one_literal n) ps h.1
      rhs_methods s n (t.branch p c a b) h =
          bodies_append (stmts_bodies w s n a) (stmts_bodies w s (stmts_after n a) b) (stmts_methods s n a h.2) (stmts_methods s (stmts_after n a) b h.3)
      rhs_methods s n (t.value e) h = tt

      stmt_methods : (s : Sight) (n : Count) (x : t.StmtTree) → tree.StmtPasses test x → core.BodiesPass test (stmt_bodies w s n x)
      stmt_methods s n (t.val x u r) h = rhs_methods s (one_val n) r h.1
      stmt_methods s n (t.assign x r) h = rhs_methods s n r h.1
      stmt_methods s n (t.run r) h = rhs_methods s n r h

      stmts_methods : (s : Sight) (n : Count) (xs : t.StmtTrees) → tree.StmtsPass test xs → core.BodiesPass test (stmts_bodies w s n xs)
      stmts_methods s n t.no_stmts h = tt
      stmts_methods s n (t.more_stmts x xs) h =
          bodies_append (stmt_bodies w s n x) (stmts_bodies w (stmt_sight w s n x) (stmt_after n x) xs) (stmt_methods s n x h.0)
          (stmts_methods (stmt_sight w s n x) (stmt_after n x) xs h.1)

      part_methods : (s within : Sight) (owner : ℕ) (n : Count) (x : t.PartTree) → tree.PartPasses test x → core.BodiesPass test (part_bodies w s within owner n x)
      part_methods s within owner n (t.field k x u r) h = rhs_methods s n r h
      part_methods s within owner n (t.method g b) h =
          let sees : Sight = with_params within n.bodies g.params in
          ((h.0, tail_passes g.place sees (one_body n) b h.0 h.1), tail_methods sees (one_body n) b h.1)

      parts_methods : (s within : Sight) (owner : ℕ) (n : Count) (ps : t.PartTrees) → tree.PartsPass test ps → core.BodiesPass test (parts_bodies w s within owner n ps)
      parts_methods s within owner n t.no_parts h = tt
      parts_methods s within owner n (t.more_parts x ps) h =
          bodies_append (part_bodies w s within owner n x) (parts_bodies w s within owner (part_after n x) ps) (part_methods s within owner n x h.0)
          (parts_methods s within owner (part_after n x) ps h.1)

      tail_methods : (s : Sight) (n : Count) (b : t.TailTree) → tree.TailPasses test b → core.BodiesPass test (tail_bodies w s n b)
      tail_methods s n (t.short r) h = rhs_methods s n r h
      tail_methods s n (t.long ss) h = stmts_methods s n ss h

  ------------------------------------------------------------
  -- Modules and the program

  abbrev ModulePasses : ModuleTree → Type 0
  ModulePasses m = (test m.place ≡ true) × tree.InitPasses test m.init × tree.PartsPass test m.parts

  abbrev ModulesPass : List ModuleTree → Type 0
  ModulesPass [] = Unit {0}
  ModulesPass (m ∷ ms) = ModulePasses m × ModulesPass ms

  abbrev BlockPasses : ProgramTree → Type 0
  BlockPasses g = (test g.run ≡ true) × tree.TailPasses test g.body

  abbrev BlocksPass : List ProgramTree → Type 0
  BlocksPass [] = Unit {0}
  BlocksPass (g ∷ gs) = BlockPasses g × BlocksPass gs

  modules_pass : (items : List t.ItemTree) → tree.ItemsPass test items → ModulesPass (modules_of items)
  modules_pass [] h = tt
  modules_pass (t.type_item d ∷ is) h = modules_pass is h.1
  modules_pass (t.pure_item p n sealed within ∷ is) h = (h.0, modules_pass is h.1)
  modules_pass (t.resource_item p n params sealed within ∷ is) h = (h.0, modules_pass is h.1)
  modules_pass (t.plain_item p n params sealed parts ∷ is) h = ((h.0.0, tt, h.0.1), modules_pass is h.1)
  modules_pass (t.program_item p grants uses lines started effect body ∷ is) h = modules_pass is h.1

  blocks_pass : (items : List t.ItemTree) → tree.ItemsPass test items → BlocksPass (programs_of items)
  blocks_pass [] h = tt
  blocks_pass (t.type_item d ∷ is) h = blocks_pass is h.1
  blocks_pass (t.pure_item p n sealed within ∷ is) h = blocks_pass is h.1
  blocks_pass (t.resource_item p n params sealed within ∷ is) h = blocks_pass is h.1
  blocks_pass (t.plain_item p n params sealed parts ∷ is) h = blocks_pass is h.1
  blocks_pass (t.program_item p grants uses lines started effect body ∷ is) h = (h.0, blocks_pass is h.1)

  module _ (heads : List Head) (modules : List ModuleTree) where
    start_passes : (m : ModuleTree) (o : Option Init) → test m.place ≡ true → tree.InitPasses test o → test (start_place heads modules m o) ≡ true
    start_passes m None h g = h
    start_passes m (Some i) h g = g

    module_scope_passes : (m : ModuleTree) → ModulePasses m → core.ScopePasses test (scope_of_module heads modules m)
    module_scope_passes m h =
        let w : Within = module_within heads modules m in
        (start_passes m m.init h.0 h.1, parts_pass w outermost at_start m.parts h.2, parts_methods w outermost (inside outermost m.parts) 0 at_start m.parts h.2)

    block_scope_passes : (g : ProgramTree) → BlockPasses g → core.ScopePasses test (scope_of_program heads modules g)
    block_scope_passes g h =
        let w : Within = program_within heads modules g in
        (h.0, tail_passes w g.run outermost at_start g.body h.0 h.1, tail_methods w outermost at_start g.body h.1)

    scopes_pass : (ms : List ModuleTree) (last : Scope) → ModulesPass ms → core.ScopePasses test last → core.ScopesPass test (map (scope_of_module heads modules) ms ++ last ∷ [])
    scopes_pass [] last h g = (g, tt)
    scopes_pass (m ∷ ms) last h g = (module_scope_passes m h.0, scopes_pass ms last h.1 g)

  program_passes : (items : List t.ItemTree) (p : Program) → Resolves items p → tree.ItemsPass test items → core.ProgramPasses test p
  program_passes items p r h =
      let heads = heads_of (types_of items) in
      let modules = modules_of items in
      let blocks : BlocksPass (r.program ∷ []) = subst (λ (gs : List ProgramTree). BlocksPass gs) r.one (blocks_pass items h) in
      let scopes : core.ScopesPass test (map (scope_of_module heads modules) modules ++ scope_of_program heads modules r.program ∷ []) =
      scopes_pass heads modules modules (scope_of_program heads modules r.program) (modules_pass items h) (block_scope_passes heads modules r.program blocks.0) in
      subst (λ (v : Program). core.ProgramPasses test v) (sym r.bound) scopes

pub marks_of_items : MarksOfItems
marks_of_items items p r test h = program_passes test items p r h
