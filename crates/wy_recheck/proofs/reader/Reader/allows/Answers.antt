use Rattle.std.proofs.Common.{◌≡◌, ◌↔◌, List, ℕ, true, false, rules, subst}
use Rattle.wy_text.specs.Members.{Within}
use Rattle.wy_effects.specs.Widened.{includes, widened_set}
use Rattle.wy_types.specs.Program.{program_of, scope_of}
use Rattle.wy_types.specs.Bounds.{bounds_of}
use Rattle.wy_types.proofs.Arities.{core_in_range}
use Rattle.wy_recheck.proofs.NodesTested.{same_answer}
use Rattle.wy_recheck.proofs.reader.Reader.allows.Goals as goal

pub widened-requires : goal.widened-requires
widened-requires c = core_in_range (program_of c.args.self.now.core.now) c.requires.reader.core

pub returns-else-self : goal.returns-else-self
returns-else-self c =
    let r = c.args.self.now in
    let say = c.lists_are_exact.ensures (program_of r.core.now) r.number (scope_of r.scope.now) r.part.now c.requires.reader.core c.requires.reader.there in
    let e = c.args.effect.now in
    let f = widened_set (bounds_of (program_of r.core.now) r.number) c.args.declared.now in
    let P : List ℕ → Type 0 = λ l. (c.includes.result ≡ true) ↔ Within e l in
    let bare : r.plain ≡ false = search rules in
    rw bare (same_answer c.includes.result (includes e f) (Within e f) (subst P c.widened.ensures.set c.includes.ensures) (say.inclusion e f))
