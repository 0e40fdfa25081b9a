use Rattle.std.proofs.Common.{◌≡◌, List, Some, None, ap, subst, ◌∙◌, sym, rules}
use Rattle.std.specs.Prelude.{ℕ, IfOk, slice_get}
use Rattle.std.specs.Option.{option_copied}
use Rattle.wy_symbols.specs.Declarations.{first_from}
use Rattle.wy_symbols.specs.TypeUses.{texts_of}
use Rattle.wy_symbols.proofs.Writing.{unwritten, written_there, written_past}
use Rattle.wy_symbols.proofs.type_uses.written_set.Goals as goal

pub returns-in-None : goal.returns-in-None
returns-in-None c =
    let at : first_from 0 (texts_of c.args.sets.now) c.args.member.now ≡ None = ap (λ ns. first_from 0 ns c.args.member.now) (sym c.requires) ∙ sym c.in-None.ensures.value in
    c.empty.ensures ∙ unwritten c.args.scope.now c.args.sets.now c.args.member.now at

pub returns-in-None-set_at : goal.returns-in-None-set_at
returns-in-None-set_at c =
    let at : first_from 0 (texts_of c.args.sets.now) c.args.member.now ≡ Some c.in-Some.number = ap (λ ns. first_from 0 ns c.args.member.now) (sym c.requires) ∙ sym c.in-Some.ensures.value in
    let past : slice_get c.args.sets.now c.in-Some.number ≡ None = sym c.set_at.ensures ∙ ap option_copied c.in-None-set_at.is in
    c.empty-in-None-set_at.ensures ∙ written_past c.args.scope.now c.args.sets.now c.args.member.now c.in-Some.number at past

pub returns-in-Some-set_at : goal.returns-in-Some-set_at
returns-in-Some-set_at c =
    let at : first_from 0 (texts_of c.args.sets.now) c.args.member.now ≡ Some c.in-Some.number = ap (λ ns. first_from 0 ns c.args.member.now) (sym c.requires) ∙ sym c.in-Some.ensures.value in
    let there : slice_get c.args.sets.now c.in-Some.number ≡ Some c.in-Some-set_at.set.now = sym c.set_at.ensures ∙ ap option_copied c.in-Some-set_at.is in
    let P : List ℕ → Type 0 = λ r. IfOk c.set_of.result (λ e. e ≡ r) in
    subst P (written_there c.args.scope.now c.args.sets.now c.args.member.now c.in-Some.number c.in-Some-set_at.set.now at there) (search rules)
