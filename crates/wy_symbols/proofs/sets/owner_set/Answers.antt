use Rattle.std.proofs.Common.{◌≡◌, List, Option, Some, ap, subst, rules}
use Rattle.std.specs.Prelude.{ℕ, IfOk, slice_get}
use Rattle.std.specs.Option.{option_copied}
use Rattle.wy_symbols.specs.declared.atom_scope.Opened.{Opened}
use Rattle.wy_symbols.specs.Found.{IsFound}
use Rattle.wy_symbols.specs.Meanings.{meaning_of}
use Rattle.wy_symbols.specs.Atoms.{owner_of}
use Rattle.wy_symbols.proofs.Finding.{member_found}
use Rattle.wy_symbols.proofs.sets.owner_set.Goals as goal

pub returns-in-Some-find : goal.returns-in-Some-find
returns-in-Some-find c =
    let p = c.in-Some.found.now in
    let F : Option Opened → Type 0 = λ o. IsFound c.args.scope.now (owner_of c.args.scope.now.owners c.args.owner.now) o in
    let found : F (Some p) = subst F (ap option_copied c.in-Some.is) c.owner.ensures in
    let head : slice_get c.args.scope.now.heads c.in-Members.decl ≡ Some c.in-Some-head.head.now = search rules in
    let meaning : meaning_of c.in-Some-head.head.now.members c.args.member.now ≡ Some c.in-Some-find.meaning.now = search rules in
    let is = member_found c.args.scope.now c.args.owner.now c.args.member.now p c.in-Members.decl c.in-Some-head.head.now c.in-Some-find.meaning.now found c.in-Members.is head meaning in
    let P : List ℕ → Type 0 = λ r. IfOk c.substitute.result (λ e. e ≡ r) in
    subst P is (search rules)
