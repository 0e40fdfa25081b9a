use Rattle.std.proofs.Common.{◌≡◌, ◌∙◌, List, length, Some, None, subst, rules}
use Rattle.wy_types.specs.declared.types.TypeRef.{TypeRef}
use Rattle.wy_proving.specs.Written.{number}
use Rattle.wy_certify.proofs.Numbers.{number_found}
use Rattle.wy_certify.proofs.numbering.TypeNumbers.number_of.Goals as goal

pub returns-in-Some : goal.returns-in-Some
returns-in-Some c =
    let t = c.args.typ.now in
    let types = c.self.inside.types.items in
    let P : List TypeRef → Type 0 = λ l. c.in-Some.place ≡ number l t in
    subst P c.self.view_is (number_found t types c.in_ok-key.key c.self.inside.keys.keys (Some c.in-Some.place) c.in_ok-key.ensures c.self.invariant c.in-Some.ensures.index)

pub returns : goal.returns
returns c =
    let t = c.args.typ.now in
    let types = c.self.inside.types.items in
    let P : List TypeRef → Type 0 = λ l. c.len.result ≡ number l t in
    let many : c.len.result ≡ length types = search rules in
    subst P c.self.view_is (many ∙ number_found t types c.in_ok-key.key c.self.inside.keys.keys None c.in_ok-key.ensures c.self.invariant c.in-None.ensures.index)
