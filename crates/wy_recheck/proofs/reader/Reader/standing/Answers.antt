use Rattle.std.proofs.Common.{◌≡◌, false, rules, subst}
use Rattle.std.proofs.lemmas.Result.{IfOk-weaker}
use Rattle.wy_effects.specs.EffSet.{IsSet}
use Rattle.wy_types.specs.Program.{program_of, scope_of}
use Rattle.wy_recheck.specs.Standing.{StandsAs}
use Rattle.wy_recheck.proofs.NodesTested.{few, set_stands}
use Rattle.wy_recheck.proofs.reader.Reader.standing.Goals as goal

pub standing_set-requires : goal.standing_set-requires
standing_set-requires c =
    let r = c.args.self.now in
    rw c.len.ensures (few (program_of r.core.now) r.number (scope_of r.scope.now) c.requires.reader.core c.requires.reader.there)

pub returns-then-not-self : goal.returns-then-not-self
returns-then-not-self c =
    let r = c.args.self.now in
    let say = c.lists_are_exact.ensures (program_of r.core.now) r.number (scope_of r.scope.now) r.part.now c.requires.reader.core c.requires.reader.there in
    let bare : r.plain ≡ false = search rules in
    rw bare (IfOk-weaker c.standing_set.result _ _ (λ o h. set_stands (program_of r.core.now) r.number (scope_of r.scope.now) r.part.now say c.args.listed.now o (subst (λ n. StandsAs (IsSet n) c.args.listed.now o) c.len.ensures h)) c.standing_set.ensures)
