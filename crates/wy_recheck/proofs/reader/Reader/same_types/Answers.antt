use Rattle.std.proofs.Common.{◌≡◌, ◌<◌, ◌≤◌, ◌+◌, drop, length, sym, ap, ◌∙◌, true, arith}
use Rattle.wy_rules.specs.Canonical.{both, same_type}
use Rattle.wy_proving.specs.Reading.{same_types}
use Rattle.wy_recheck.specs.Nodes.{reading_of, lists_of}
use Rattle.wy_recheck.proofs.NodesTested.{others, next_same, no_more}
use Rattle.wy_recheck.proofs.reader.Reader.same_types.Goals as goal

pub returns-then-left-right : goal.returns-then-left-right
returns-then-left-right c = others (reading_of c.args.self.now) same_type (lists_of c.args.self.now) c.args.left.now c.args.right.now c.if-left-right.true

pub returns-then-not-same : goal.returns-then-not-same
returns-then-not-same c =
    let r = c.args.self.now in
    let i = c.loop-i.i in
    let xs = c.args.left.now in
    let zs = c.args.right.now in
    let below : i < length zs = omega (arith, c.loop-i-test.true, c.if-left-right.false) in
    let rest = same_types (reading_of r) same_type (lists_of r) (drop (i + 1) xs) (drop (i + 1) zs) in
    sym (c.loop-i.invariant ∙ next_same (reading_of r) same_type (lists_of r) xs zs i c.index-left-i.result c.index-right-i.result c.loop-i-test.true below c.index-left-i.is c.index-right-i.is ∙ ap (λ b. both b rest) (sym c.same.ensures ∙ c.if-not-same.true))

pub loop-i-preserved : goal.loop-i-preserved
loop-i-preserved c =
    let r = c.args.self.now in
    let i = c.loop-i.i in
    let xs = c.args.left.now in
    let zs = c.args.right.now in
    let below : i < length zs = omega (arith, c.loop-i-test.true, c.if-left-right.false) in
    let rest = same_types (reading_of r) same_type (lists_of r) (drop (i + 1) xs) (drop (i + 1) zs) in
    let yes : c.same.result ≡ true = c.if-not-same.false in
    c.loop-i.invariant ∙ next_same (reading_of r) same_type (lists_of r) xs zs i c.index-left-i.result c.index-right-i.result c.loop-i-test.true below c.index-left-i.is c.index-right-i.is ∙ ap (λ b. both b rest) (sym c.same.ensures ∙ yes)

pub returns : goal.returns
returns c =
    let r = c.args.self.now in
    let i = c.loop-i.i in
    let none : length c.args.right.now ≤ i = omega (arith, c.loop-i-test.false, c.if-left-right.false) in
    sym (c.loop-i.invariant ∙ no_more (reading_of r) same_type (lists_of r) c.args.left.now c.args.right.now i c.loop-i-test.false none)
