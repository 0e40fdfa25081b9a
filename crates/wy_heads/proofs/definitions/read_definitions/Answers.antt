use Rattle.std.proofs.Common.{◌≡◌, ◌<◌, ◌+◌, ◌++◌, ◌∷◌, [], ap, sym, ◌∙◌, rules, drop, take, length}
use Rattle.wy_symbols.specs.Atoms.{defined_member, set_of, set_refusals, atom_scope}
use Rattle.wy_heads.specs.ScopeHeads.{definitions_after, definitions_refusals}
use Rattle.wy_symbols.proofs.Turns.{next_of}
use Rattle.wy_symbols.proofs.Leasts.{noted_turn}
use Rattle.wy_heads.proofs.definitions.read_definitions.Goals as goal

pub loop-define-preserved : goal.loop-define-preserved
loop-define-preserved c =
    let lt : c.loop-define.define-index < length c.args.defines.now = search rules in
    let o = c.args.owners.now in
    let owners = take c.args.visible o.owners in
    let left = drop (c.loop-define.define-index + 1) c.args.defines.now in
    let after = definitions_after o.heads o.atoms owners in
    let refusals = definitions_refusals o.heads o.atoms owners in
    let one = set_refusals (atom_scope o.heads o.atoms owners c.loop-define.before) c.define-item.result.effect in
    let next = next_of c.args.defines.now c.loop-define.define-index c.define-item.result lt c.define-item.is in
    let x = c.define-item.result in
    let read : c.read_definition.new.before ≡ c.loop-define.before ++ defined_member x.name.text (set_of (atom_scope o.heads o.atoms owners c.loop-define.before) x.effect) ∷ [] = search rules in
    record {
      before = ap (λ b. after b left) read ∙ ap (after c.loop-define.before) (sym next) ∙ c.loop-define.invariant.before;
      least = noted_turn c.loop-define.least c.read_definition.new.least c.args.least.now one (refusals c.read_definition.new.before left)
          (refusals c.loop-define.before (drop c.loop-define.define-index c.args.defines.now)) (refusals [] c.args.defines.now)
          (search rules)
          (ap (refusals c.loop-define.before) next ∙ ap (λ b. one ++ refusals b left) (sym read))
          c.loop-define.invariant.least;
    }
