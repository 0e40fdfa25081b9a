use Rattle.std.proofs.Common.{ℕ, [], ◌∷◌, ◌<◌, ◌≤◌, List, length, get_or, refl, ap, ◌∙◌, arith, rules, subst}
use Rattle.wy_text.specs.Members.{In}
use Rattle.wy_heads.specs.Leading.{Adds, Numbers, next_from}
use Rattle.wy_heads.proofs.Searching.{few_seen, search_start, search_more, search_end}
use Rattle.wy_heads.proofs.cycles.reached_from.Goals as goal

pub loop-next-init : goal.loop-next-init
loop-next-init c =
    let P : Numbers → Type 0 = λ n. Adds n.list (c.args.start ∷ []) c.add.new.self.list in
    record {
      bound = search rules;
      search = search_start c.args.edges.now c.args.start c.add.new.self.list c.requires.there (subst P c.in_ok-seen.ensures c.in_ok-add.ensures.added);
    }

pub add_all-requires : goal.add_all-requires
add_all-requires c = λ k i.
    let P : List ℕ → Type 0 = λ l. In k l in
    let lt = c.requires.inside (get_or c.as_slice-in-loop-next.result.now c.loop-next.next 0) k (subst P c.next_from.ensures i) in
    omega (arith, lt, c.loop-next.invariant.bound)

pub loop-next-smaller : goal.loop-next-smaller
loop-next-smaller c =
    let few = few_seen c.args.edges.now c.args.start c.loop-next.seen.list c.loop-next.next c.loop-next.invariant.search in
    let under : c.loop-next.next < length c.args.edges.now = omega (arith, few, c.loop-next-test.true, ap length c.as_slice.ensures) in
    omega arith

pub loop-next-preserved : goal.loop-next-preserved
loop-next-preserved c =
    let seen = c.loop-next.seen.list in
    let lt : c.loop-next.next < length seen = omega (arith, c.loop-next-test.true, ap length c.as_slice.ensures) in
    let x = get_or seen c.loop-next.next 0 in
    let leads = c.next_from.ensures ∙ ap (λ (l : List ℕ). next_from c.args.edges.now (get_or l c.loop-next.next 0)) c.as_slice-in-loop-next.ensures in
    let P : List ℕ → Type 0 = λ l. Adds seen l c.add_all.new.self.list in
    record {
      bound = c.in_ok-add_all.ensures.bound ∙ c.loop-next.invariant.bound;
      search = search_more c.args.edges.now c.args.start c.requires.inside seen c.add_all.new.self.list c.loop-next.next x lt refl c.loop-next.invariant.search
          (subst P leads c.in_ok-add_all.ensures.added);
    }

pub returns : goal.returns
returns c = λ k.
    let seen = c.loop-next.seen.list in
    let le : length seen ≤ c.loop-next.next = omega (arith, c.loop-next-test.false, ap length c.as_slice.ensures) in
    let is = search_end c.args.edges.now c.args.start seen c.loop-next.next le c.loop-next.invariant.search k in
    let marked = c.into_marks.ensures k in
    (λ m. is.0 (marked.0 m), λ r. marked.1 (is.1 r))
