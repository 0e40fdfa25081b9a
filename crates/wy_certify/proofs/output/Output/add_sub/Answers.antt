use Rattle.std.proofs.Common.{◌≡◌, ◌++◌, ◌∷◌, [], List, ℕ, sym, ap, ◌∙◌, true, false, rules}
use Rattle.std.proofs.lemmas.List.{append-nil}
use Rattle.wy_types.specs.declared.types.TypeRef.{TypeRef}
use Rattle.wy_proving.specs.Steps.{Step, sub_step}
use Rattle.wy_certify.proofs.Adding.{sub_same, sub_other}
use Rattle.wy_certify.proofs.Gathering.{so}
use Rattle.wy_certify.proofs.output.Output.add_sub.Goals as goal

pub returns-then-same : goal.returns-then-same
returns-then-same c =
    let old = c.args.self.now.list in
    let none = sub_same c.args.place c.args.typ c.args.expected.now c.args.effect.now (c.same.ensures.0 c.if-same.true) in
    record { enough = λ whole. whole; added = λ whole. sym (ap (λ (v : List (Step TypeRef)). old ++ v) none ∙ append-nil old); holds = λ whole. tt }

pub returns-in-Ok : goal.returns-in-Ok
returns-in-Ok c =
    let q = c.args.place in
    let k = c.args.typ in
    let differ : k ≡ c.args.expected.now → ⊥ = λ h. (let s : true ≡ false = sym (c.same.ensures.1 h) ∙ c.if-same.false in absurd (cc)) in
    let asked : c.in-Ok.asked ≡ c.args.expected.now = search rules in
    so c.push.ensures (λ g. (
      ap (λ (t : TypeRef). sub_step q k t c.copied.result ∷ []) asked ∙ ap (λ (f : List ℕ). sub_step q k c.args.expected.now f ∷ []) c.copied.ensures ∙
          sym (sub_other q k c.args.expected.now c.args.effect.now differ),
      tt,
    ))
