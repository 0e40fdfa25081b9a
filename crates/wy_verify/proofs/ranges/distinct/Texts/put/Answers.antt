use Rattle.std.proofs.Common.{◌≡◌, ℕ, List, [], ◌∷◌, ◌++◌, false, sym, ap, ◌∙◌, subst}
use Rattle.std.specs.Prelude.{bytes_eq, if◌then◌else◌}
use Rattle.std.specs.List.{list_any}
use Rattle.wy_text.specs.Members.{In}
use Rattle.wy_verify.proofs.RangeLists.{any_in, not_in, text_exact, text_same}
use Rattle.wy_verify.proofs.ranges.distinct.Texts.put.Goals as goal

pub returns-then-contains : goal.returns-then-contains
returns-then-contains c =
    subst (λ (l : List (List ℕ)). In c.args.text.now l) c.self.view_is
    (any_in bytes_eq text_exact text_same c.args.text.now c.self.inside.texts.keys (sym c.contains.ensures ∙ c.if-contains.true))

pub returns : goal.returns
returns c =
    let old = c.self.inside.texts.keys in
    let x = c.args.text.now in
    let absent : list_any (bytes_eq x) old ≡ false = sym c.contains.ensures ∙ c.if-contains.false in (
      subst (λ (l : List (List ℕ)). In x l → ⊥) c.self.view_is (not_in bytes_eq text_exact text_same x old absent),
      c.in_ok-insert.ensures.keys
          ∙ ap (λ y. if list_any (bytes_eq y) old then old else old ++ y ∷ []) c.in_ok-copy.ensures
          ∙ ap (λ b. if b then old else old ++ x ∷ []) absent ∙ ap (λ (l : List (List ℕ)). l ++ x ∷ []) c.self.view_is,
    )
