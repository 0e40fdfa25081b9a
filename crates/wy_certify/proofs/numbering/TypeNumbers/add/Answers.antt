use Rattle.std.proofs.Common.{◌≡◌, List, [], ◌∷◌, ◌++◌, sym, ◌∙◌, subst, rules}
use Rattle.wy_types.specs.declared.types.TypeRef.{TypeRef}
use Rattle.wy_certify.specs.PartTable.{type_added}
use Rattle.wy_certify.proofs.Numbers.{added_there, added_last, known}
use Rattle.wy_certify.proofs.numbering.TypeNumbers.add.Goals as goal

pub returns-then-contains : goal.returns-then-contains
returns-then-contains c =
    let t = c.args.typ.now in
    let old = c.self.inside.types.items in
    let listed = known t old c.in_ok-key.key c.self.inside.keys.keys c.contains.result c.in_ok-key.ensures c.self.invariant c.contains.ensures in
    let P : List TypeRef → Type 0 = λ l. l ≡ type_added l t in
    subst P c.self.view_is (sym (added_there old t (listed ∙ c.if-contains.true)))

pub returns : goal.returns
returns c =
    let t = c.args.typ.now in
    let old = c.self.inside.types.items in
    let new = c.push_reserved.new.self.items in
    let listed = known t old c.in_ok-key.key c.self.inside.keys.keys c.contains.result c.in_ok-key.ensures c.self.invariant c.contains.ensures in
    let items : new ≡ old ++ t ∷ [] = search rules in
    let P : List TypeRef → Type 0 = λ l. new ≡ type_added l t in
    subst P c.self.view_is (items ∙ sym (added_last old t (listed ∙ c.if-contains.false)))
