use Rattle.std.proofs.Common.{◌≡◌, ◌<◌, ◌+◌, true, false, ap, ◌∙◌, sym, rules, drop, length, is_some}
use Rattle.wy_symbols.specs.Declarations.{first_from}
use Rattle.wy_symbols.specs.Meanings.{abstract_names}
use Rattle.wy_symbols.specs.TypeUses.{all_among}
use Rattle.wy_symbols.proofs.Turns.{next_of}
use Rattle.wy_symbols.proofs.Writing.{among_absent, among_there, among_defined}
use Rattle.wy_symbols.proofs.type_uses.all_among.Goals as goal
use Rattle.wy_symbols.proofs.type_uses.all_among.Goals.{else-member-via-then-member+else-is_none, else-member-via-else-member}

pub returns-then-is_none : goal.returns-then-is_none
returns-then-is_none c =
    let lt : c.loop-member.member-index < length c.args.members.now = search rules in
    let left = drop (c.loop-member.member-index + 1) c.args.members.now in
    let absent : is_some (first_from 0 c.args.names.now c.member-item.result.name) ≡ false = ap (λ o. is_some o) (sym c.number.ensures.value) ∙ search rules in
    among_absent c.member-item.result left c.args.names.now c.if-member.true absent
    ∙ ap (λ ms. all_among (abstract_names ms) c.args.names.now) (sym (next_of c.args.members.now c.loop-member.member-index c.member-item.result lt c.member-item.is))
    ∙ c.loop-member.invariant

pub loop-member-preserved : goal.loop-member-preserved
loop-member-preserved c =
    let lt : c.loop-member.member-index < length c.args.members.now = search rules in
    let left = drop (c.loop-member.member-index + 1) c.args.members.now in
    let next = ap (λ ms. all_among (abstract_names ms) c.args.names.now) (sym (next_of c.args.members.now c.loop-member.member-index c.member-item.result lt c.member-item.is)) ∙ c.loop-member.invariant in
    elim c.else-member.branch [
      | else-member-via-then-member+else-is_none w ↦ (
          let there : is_some (first_from 0 c.args.names.now c.member-item.result.name) ≡ true = ap (λ o. is_some o) (sym w.number.ensures.value) ∙ search rules in
          among_there c.member-item.result left c.args.names.now there ∙ next
          )
      | else-member-via-else-member w ↦ among_defined c.member-item.result left c.args.names.now w.if-member.false ∙ next
    ]
