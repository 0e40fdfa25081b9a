use Rattle.std.proofs.Common.{◌≡◌, ◌++◌, drop, map}
use Rattle.wy_effects.specs.declared.atom.Atom.{Atom}
use Rattle.wy_authority.specs.Report.{atoms_after, named_atoms}
use Rattle.wy_authority.proofs.report_text.push_others.Given as goal

abbrev pub invariant-loop-atom : goal.invariant-loop-atom
invariant-loop-atom l =
    l.text.items ++ atoms_after (named_atoms l.atoms (map (λ (a : Atom). a.0) (drop l.atom-index l.others))) ≡
    l.initial.text.items ++ atoms_after (named_atoms l.atoms (map (λ (a : Atom). a.0) l.others))
