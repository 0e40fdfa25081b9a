use Rattle.std.proofs.Common.{◌↔◌, ℕ, List, IsTrue, sym, ◌∙◌, subst, nat_eq}
use Rattle.wy_text.specs.Members.{In}
use Rattle.wy_verify.proofs.RangeLists.{any_in, in_any, number_exact, number_same}
use Rattle.wy_verify.proofs.ranges.distinct.Numbers.has.Goals as goal

pub returns : goal.returns
returns c =
    let n = c.args.number in
    let keys = c.self.inside.numbers.keys in
    subst (λ (l : List ℕ). IsTrue c.contains.result ↔ In n l) c.self.view_is (
      λ t. any_in nat_eq number_exact number_same n keys (sym c.contains.ensures ∙ t),
      λ i. c.contains.ensures ∙ in_any nat_eq number_exact number_same n keys i,
    )
