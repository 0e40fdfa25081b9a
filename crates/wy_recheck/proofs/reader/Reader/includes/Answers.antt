use Rattle.std.proofs.Common.{◌≡◌, false, rules}
use Rattle.wy_text.specs.Members.{Within}
use Rattle.wy_effects.specs.Widened.{includes}
use Rattle.wy_types.specs.Program.{program_of, scope_of}
use Rattle.wy_recheck.proofs.NodesTested.{same_answer}
use Rattle.wy_recheck.proofs.reader.Reader.includes.Goals as goal

pub returns-else-self : goal.returns-else-self
returns-else-self c =
    let r = c.args.self.now in
    let say = c.lists_are_exact.ensures (program_of r.core.now) r.number (scope_of r.scope.now) r.part.now c.requires.reader.core c.requires.reader.there in
    let e = c.args.effect.now in
    let f = c.args.larger.now in
    let bare : r.plain ≡ false = search rules in
    rw bare (same_answer c.includes.result (includes e f) (Within e f) c.includes.ensures (say.inclusion e f))
