-- The definitions of the top call, tried on examples.
use Rattle.std.proofs.Common.{codes, ◌≡◌, ℕ, List, [], ◌∷◌, None, Some, refl}
use Rattle.std.specs.Fmt.{digits}
use Rattle.wy_text.specs.declared.fault.Place.{Place}
use Rattle.wy_text.specs.declared.fault.RuleName.TheVariants.{TOp}
use Rattle.wy_text.specs.declared.limit.LimitName.TheVariants.{ReachedTypes}
use Rattle.wy_device.specs.declared.operation.OpName.TheVariants.{ConsoleWrite}
use Rattle.wy_machine.specs.declared.run_end.TrapKind.TheVariants.{Overflow}
use Rattle.wy_engine.specs.LastLine.{LineWords, last_line, line_words}
use Rattle.wy_settings.specs.Settings.{usual_depth, usual_steps}
use Rattle.wy_settings.specs.declared.command_line.Command.TheVariants.{Policy, Recheck}
use Rattle.wy_proving.specs.declared.proof.CertTest.TheVariants.{Nodes}
use Rattle.wy_engine.specs.declared.status.Status.TheVariants as status

abbrev at : ℕ → ℕ → Place
at line column = record { file = 1; line = line; column = column }

-- ---- last lines

-- what the last line needs of these file words, where the bounds are the usual ones
abbrev of_files : List (List ℕ) → LineWords
of_files names = record { names = names; texts = names; steps = usual_steps; depth = usual_depth }

failed_line : last_line (of_files []) (status.DeviceFailed (codes "console") ConsoleWrite) ≡ codes "console.write: failed\n"
failed_line = refl

unread_line : last_line (of_files (codes "a.wy" ∷ codes "b.wy" ∷ [])) (status.Unread 2) ≡ codes "b.wy: unread\n"
unread_line = refl

operator_line : last_line (of_files (codes "a.wy" ∷ [])) (status.Refused (record { place = at 4 9; rule = TOp; premise = 2; atom = None })) ≡ codes "a.wy:4:9: refused: T-Op premise 2\n"
unfolding digits
operator_line = refl

reached_line : last_line (of_files (codes "a.wy" ∷ [])) (status.Limit ReachedTypes) ≡ codes "limit: reached types 1024\n"
unfolding digits
reached_line = refl

overflow_line : last_line (of_files (codes "o.wy" ∷ [])) (status.Trap Overflow (at 5 34)) ≡ codes "o.wy:5:34: trap: Overflow\n"
unfolding digits
overflow_line = refl

deep_line : last_line (of_files []) status.TooDeep ≡ codes "too deep: 10000\n"
unfolding digits
deep_line = refl

spent_line : last_line (record { names = []; texts = []; steps = 9; depth = usual_depth }) status.Spent ≡ codes "spent: 9\n"
unfolding digits
spent_line = refl

-- under a policy the places are those of the texts behind it
abbrev of_policy : LineWords
of_policy = line_words (Some (record { command = Policy; steps = usual_steps; depth = usual_depth; folders = []; files = codes "p.pol" ∷ codes "a.wy" ∷ codes "b.wy" ∷ [] }))

denied_line : last_line of_policy (status.Denied 3 (codes "rep") (record { owner = codes "console"; member = codes "Out" })) ≡ codes "p.pol:3: denied: rep console.Out\n"
unfolding digits
denied_line = refl

bad_line : last_line of_policy (status.BadPolicy 1) ≡ codes "p.pol:1: bad policy\n"
unfolding digits
bad_line = refl

behind_line : last_line of_policy (status.Refused (record { place = at 4 9; rule = TOp; premise = 2; atom = None })) ≡ codes "a.wy:4:9: refused: T-Op premise 2\n"
unfolding digits
behind_line = refl

-- .. and so under a certificate
abbrev of_certificate : LineWords
of_certificate = line_words (Some (record { command = Recheck; steps = usual_steps; depth = usual_depth; folders = []; files = codes "c" ∷ codes "log.wy" ∷ codes "main.wy" ∷ [] }))

unproved_example : last_line of_certificate (status.Unproved 1 Nodes 3) ≡ codes "c: unproved 1 C-Nodes 3\n"
unfolding digits
unproved_example = refl

bad_certificate : last_line of_certificate (status.BadCert 492) ≡ codes "c: bad certificate at 492\n"
unfolding digits
bad_certificate = refl

behind_certificate : last_line of_certificate (status.Refused (record { place = at 4 9; rule = TOp; premise = 2; atom = None })) ≡ codes "log.wy:4:9: refused: T-Op premise 2\n"
unfolding digits
behind_certificate = refl

policy_unread_line : last_line of_policy (status.Unread 1) ≡ codes "p.pol: unread\n"
policy_unread_line = refl
