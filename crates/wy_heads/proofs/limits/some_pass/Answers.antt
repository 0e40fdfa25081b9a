use Rattle.std.proofs.Common.{◌≡◌, Bool, true, false, refl, sym, ◌∙◌, map, subst}
use Rattle.std.specs.Prelude.{IfOk}
use Rattle.wy_heads.specs.Counts.{some_above, module_count, program_count}
use Rattle.wy_symbols.specs.Lent.{module_tree, lent_declared, lent_program}
use Rattle.wy_heads.proofs.Mosts.{atoms_found}
use Rattle.wy_heads.proofs.limits.some_pass.Goals as goal

pub returns-then-types_pass : goal.returns-then-types_pass
returns-then-types_pass c =
    let ms = map module_tree c.args.modules.now in
    atoms_found (lent_declared c.args.types.now c.args.modules.now c.args.programs.now) c.args.names.now c.args.counts.now true
    (some_above 512 (map (module_count c.args.names.now ms c.args.counts.now) ms))
    (some_above 512 (map (program_count c.args.names.now ms c.args.counts.now) (map lent_program c.args.programs.now)))
    c.requires.named c.requires.counted c.if-types_pass.ensures refl refl

pub returns-then-branch : goal.returns-then-branch
returns-then-branch c =
    let ms = map module_tree c.args.modules.now in
    atoms_found (lent_declared c.args.types.now c.args.modules.now c.args.programs.now) c.args.names.now c.args.counts.now false true
    (some_above 512 (map (program_count c.args.names.now ms c.args.counts.now) (map lent_program c.args.programs.now)))
    c.requires.named c.requires.counted c.if-types_pass.ensures (sym c.if-branch.true ∙ c.in_ok-modules_pass.ensures) refl

pub returns : goal.returns
returns c =
    let ms = map module_tree c.args.modules.now in
    let found = atoms_found (lent_declared c.args.types.now c.args.modules.now c.args.programs.now) c.args.names.now c.args.counts.now false false
    (some_above 512 (map (program_count c.args.names.now ms c.args.counts.now) (map lent_program c.args.programs.now)))
    c.requires.named c.requires.counted c.if-types_pass.ensures (sym c.if-branch.false ∙ c.in_ok-modules_pass.ensures) refl in
    let P : Bool → Type 0 = λ y. IfOk c.programs_pass.result (λ b. b ≡ y) in
    subst P found c.programs_pass.ensures
