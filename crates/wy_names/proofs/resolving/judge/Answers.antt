use Rattle.std.proofs.Common.{◌≡◌, [], List, map, length, sym, ap, ◌∙◌, subst, true, false, rules, Bor}
use Rattle.std.specs.Prelude.{◌==◌}
use Rattle.wy_syntax.specs.declared.items.Program.{Program}
use Rattle.wy_types.specs.Program.{program_of}
use Rattle.wy_names.specs.declared.refusal.NameRefusal.{NameRefusal}
use Rattle.wy_names.specs.Judged.{IsRefusal}
use Rattle.wy_symbols.specs.Lent.{lent_declared, lent_program}
use Rattle.wy_names.proofs.Judging.{least_of, refusal_is, sound_of, bound_is, map_nil, nil_of_length}
use Rattle.wy_names.proofs.resolving.judge.Goals as goal

pub returns-in-Some-clause-refusal : goal.returns-in-Some-clause-refusal
returns-in-Some-clause-refusal c =
    let d = lent_declared c.args.types.now c.args.modules.now c.args.programs.now in
    let P : NameRefusal → Type 0 = λ r. IsRefusal d r in
    subst P (sym c.refused.ensures) (refusal_is d c.in-Some.refusal.place c.in-Some.refusal.cause (least_of d c.bind.new.least c.in-Some.refusal c.in-Ok.ensures.judged c.in-Some.is))

pub returns-then-is_empty-clause-refusal : goal.returns-then-is_empty-clause-refusal
returns-then-is_empty-clause-refusal c =
    let d = lent_declared c.args.types.now c.args.modules.now c.args.programs.now in
    let empty : length c.args.programs.now ≡ 0 = search rules in
    let none = nil_of_length c.args.programs.now empty in
    (ap (map lent_program) none, sound_of d c.bind.new.least c.in-Ok.ensures.judged c.in-None.is)

pub returns-else-is_empty-clause-core : goal.returns-else-is_empty-clause-core
returns-else-is_empty-clause-core c =
    let d = lent_declared c.args.types.now c.args.modules.now c.args.programs.now in
    bound_is d (program_of c.in-Ok.core) c.in-Ok.ensures.core
    (λ e.
    let none : c.args.programs.now ≡ [] = map_nil lent_program c.args.programs.now e in
    let yes : (length c.args.programs.now == 0) ≡ true = ap (λ (l : List (Bor Program)). length l == 0) none in
    let both : true ≡ false = sym yes ∙ sym c.is_empty.ensures ∙ c.if-is_empty.false in
    cc)
    (sound_of d c.bind.new.least c.in-Ok.ensures.judged c.in-None.is)
