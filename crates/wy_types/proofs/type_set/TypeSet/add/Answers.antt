use Rattle.std.proofs.Common.{◌≡◌, ◌≤◌, ◌<◌, List, ℕ, [], ◌∷◌, ◌++◌, length, true, false, refl, sym, ◌∙◌, subst, arith, rules}
use Rattle.std.specs.List.{list_any}
use Rattle.wy_text.specs.Members.{In}
use Rattle.wy_types.specs.contracts.key.KeyPartialEq.TheImpl as E
use Rattle.wy_types.specs.declared.types.TypeRef.{TypeRef}
use Rattle.wy_types.specs.Keys.{type_key}
use Rattle.wy_types.specs.Types.{IsObject}
use Rattle.wy_types.proofs.Gathered.{gathered_known, gathered_new, crowd_new}
use Rattle.wy_types.proofs.Keyed.{alone_once, met, not_met}
use Rattle.wy_types.proofs.type_set.TypeSet.add.Goals as goal

pub returns-then-contains : goal.returns-then-contains
returns-then-contains c =
    let keys = c.self.inside.keys.keys in
    let P : List ℕ → Type 0 = λ k. list_any ((E.eq-value).it k) keys ≡ true in
    let Q : List TypeRef → Type 0 = λ l. In c.args.t.now l in
    let there = met type_key alone_once c.args.t.now c.self.inside.types.items keys c.self.invariant (subst P c.in_ok-key.ensures (sym c.contains.ensures ∙ c.if-contains.true)) in
    gathered_known c.args.self.now c.args.t.now c.requires.apart c.requires.small (subst Q c.self.view_is there)

pub returns-then-len-ge-MOST_REACHED_TYPES : goal.returns-then-len-ge-MOST_REACHED_TYPES
returns-then-len-ge-MOST_REACHED_TYPES c =
    let keys = c.self.inside.keys.keys in
    let P : List ℕ → Type 0 = λ k. list_any ((E.eq-value).it k) keys ≡ false in
    let Q : List TypeRef → Type 0 = λ l. (In c.args.t.now l → ⊥) × (1024 ≤ length l) in
    let absent = not_met type_key alone_once c.args.t.now c.self.inside.types.items keys c.self.invariant (subst P c.in_ok-key.ensures (sym c.contains.ensures ∙ c.if-contains.false)) in
    let object : IsObject c.args.t.now = search rules in
    let r = subst Q c.self.view_is (absent, omega (arith, c.if-len-ge-MOST_REACHED_TYPES.true, c.len.ensures)) in
    (refl, (c.args.self.now ++ c.args.t.now ∷ [], crowd_new c.args.self.now c.args.t.now c.requires.apart r.1 object r.0))

pub returns : goal.returns
returns c =
    let old = c.self.inside.types.items in
    let new = c.push_reserved.new.self.items in
    let keys = c.self.inside.keys.keys in
    let P : List ℕ → Type 0 = λ k. list_any ((E.eq-value).it k) keys ≡ false in
    let Q : List TypeRef → Type 0 = λ l. (In c.args.t.now l → ⊥) × (length l < 1024) × (new ≡ l ++ c.args.t.now ∷ []) in
    let absent = not_met type_key alone_once c.args.t.now old keys c.self.invariant (subst P c.in_ok-key.ensures (sym c.contains.ensures ∙ c.if-contains.false)) in
    let object : IsObject c.args.t.now = search rules in
    let items : new ≡ old ++ c.args.t.now ∷ [] = search rules in
    let r = subst Q c.self.view_is (absent, omega (arith, c.if-len-ge-MOST_REACHED_TYPES.false, c.len.ensures), items) in
    gathered_new c.args.self.now new c.args.t.now c.requires.apart r.1 object r.0 r.2
