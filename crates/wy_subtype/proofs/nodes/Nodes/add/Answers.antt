use Rattle.std.proofs.Common.{◌≡◌, ◌∙◌, ◌++◌, ◌∷◌, [], Some, List, ℕ, length, ap, subst, sym, arith}
use Rattle.std.specs.Prelude.{slice_get, map}
use Rattle.wy_text.specs.Members.{In}
use Rattle.wy_subtype.specs.declared.node.Node.{Node}
use Rattle.wy_subtype.specs.Steps.{Pair}
use Rattle.wy_subtype.specs.Nodes.{node_pair, Meets}
use Rattle.wy_subtype.proofs.Meeting.{last_keyed, last_meets, last_number}
use Rattle.wy_subtype.proofs.nodes.Nodes.add.Goals as goal

pub invariant_of-self-2 : goal.invariant_of-self-2
invariant_of-self-2 c =
    let q : Pair = (c.args.left.now, c.args.right.now) in
    let P : List Node → Type 0 = λ l. In q (map node_pair l) → ⊥ in
    let last = c.push_reserved.ensures.items ∙ ap (λ (l : List Node). l ++ c.in_ok-node.node ∷ []) c.in_ok-reserve.ensures.items in
    last_keyed c.self.inside.nodes.items c.self.inside.keys.keys c.args.key c.self.invariant q c.requires.key (subst P (sym c.self.view_is) c.requires.absent) c.in_ok-node.node c.in_ok-node.ensures
    c.push_reserved.new.self.items last c.insert.new.self.keys c.in_ok-insert.ensures.keys

pub returns-clause-at : goal.returns-clause-at
returns-clause-at c =
    let q : Pair = (c.args.left.now, c.args.right.now) in
    let P : List Node → Type 0 = λ l. In q (map node_pair l) → ⊥ in
    let last = c.push_reserved.ensures.items ∙ ap (λ (l : List Node). l ++ c.in_ok-node.node ∷ []) c.in_ok-reserve.ensures.items in
    let n : c.len-number.result ≡ length c.self.inside.nodes.items = omega (arith, c.len-number.ensures, c.self.inside.nodes.ok.0) in
    let Q : ℕ → Type 0 = λ j. slice_get (map node_pair c.push_reserved.new.self.items) j ≡ Some q in
    subst Q (sym n)
    (last_number c.self.inside.nodes.items c.self.inside.keys.keys c.args.key c.self.invariant q c.requires.key (subst P (sym c.self.view_is) c.requires.absent) c.in_ok-node.node c.in_ok-node.ensures c.push_reserved.new.self.items last)

pub returns-clause-meets : goal.returns-clause-meets
returns-clause-meets c =
    let q : Pair = (c.args.left.now, c.args.right.now) in
    let P : List Node → Type 0 = λ l. In q (map node_pair l) → ⊥ in
    let Q : List Node → Type 0 = λ l. Meets q l c.push_reserved.new.self.items in
    let last = c.push_reserved.ensures.items ∙ ap (λ (l : List Node). l ++ c.in_ok-node.node ∷ []) c.in_ok-reserve.ensures.items in
    subst Q c.self.view_is
    (last_meets c.self.inside.nodes.items c.self.inside.keys.keys c.args.key c.self.invariant q c.requires.key (subst P (sym c.self.view_is) c.requires.absent) c.in_ok-node.node c.in_ok-node.ensures c.push_reserved.new.self.items last)
