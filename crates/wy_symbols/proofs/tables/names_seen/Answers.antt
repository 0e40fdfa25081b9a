use Rattle.std.proofs.Common.{rules, ◌||◌, take, length, ◌<◌, ap, ◌∙◌}
use Rattle.wy_symbols.specs.Declarations.{same_name, has_name}
use Rattle.wy_symbols.proofs.Firsts.{has_more}
use Rattle.wy_symbols.proofs.Turns.{taken}
use Rattle.wy_symbols.proofs.tables.names_seen.Goals as goal

pub loop-name-preserved : goal.loop-name-preserved
loop-name-preserved c = λ x.
    let lt : c.loop-name.name-index < length c.args.names.now = search rules in
    c.in_ok-put_name.ensures.is x
    ∙ ap (λ b. b || same_name c.name-item.result x) (c.loop-name.invariant x)
    ∙ has_more (take c.loop-name.name-index c.args.names.now) c.name-item.result x
    ∙ ap (λ l. has_name x l) (taken c.args.names.now c.loop-name.name-index c.name-item.result lt c.name-item.is)
