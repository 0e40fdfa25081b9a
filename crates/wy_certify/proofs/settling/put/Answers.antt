use Rattle.std.proofs.Common.{◌≡◌, ◌<◌, ◌++◌, ◌∷◌, [], length, ap, ◌∙◌, arith, rules}
use Rattle.std.proofs.lemmas.List.{length_push}
use Rattle.wy_rules.specs.Canonical.{with_local}
use Rattle.wy_certify.proofs.Settled.{put_over, put_after, filled}
use Rattle.wy_certify.proofs.settling.put.Goals as goal

pub returns-then-at-len : goal.returns-then-at-len
returns-then-at-len c =
    let lt : c.args.at < length c.args.known.now.items = search rules in
    put_over c.args.known.now.items c.args.at c.args.typ lt

pub loop-alloc-preserved : goal.loop-alloc-preserved
loop-alloc-preserved c =
    let us = c.loop-alloc.known.items in
    let lt : length us < c.args.at = search rules in
    let pushed = c.in_ok-push.ensures.items ∙ ap (λ k. us ++ k ∷ []) (c.in_ok-copied.ensures ∙ c.loop-alloc.invariant.own) in
    let long = ap length pushed in
    let more = length_push us c.args.typ in
    record {
      short = omega arith;
      own = c.loop-alloc.invariant.own;
      same = ap (with_local c.args.at c.args.typ) pushed ∙ filled us c.args.at c.args.typ lt ∙ c.loop-alloc.invariant.same;
    }

pub returns : goal.returns
returns c =
    let us = c.loop-alloc.known.items in
    let long : length us ≡ c.args.at = search rules in
    c.in_ok-push-2.ensures.items ∙ ap (λ k. us ++ k ∷ []) c.loop-alloc.invariant.own ∙ put_after us c.args.at c.args.typ long ∙ c.loop-alloc.invariant.same
