use Rattle.std.proofs.Common.{rules, ◌≡◌, ◌<◌, ◌+◌, [], ◌∷◌, ◌++◌, length, map, take, drop, List, refl, sym, ap, ap₂, ◌∙◌, arith}
use Rattle.wy_types.specs.Vals.{block_vals}
use Rattle.wy_types.specs.Program.{Body, body_of}
use Rattle.wy_types.specs.View.{block_of}
use Rattle.wy_lower.specs.Parts.{each_once_after, texts_in, calls_in, block_parts, bodies_parts}
use Rattle.wy_lower.specs.EmitScopes.{maker_noted, maker_of, bodies_vals}
use Rattle.wy_lower.specs.EmitGathers.{makes_in}
use Rattle.wy_lower.proofs.EmitLists.{split_at, taken_more}
use Rattle.wy_lower.proofs.EmitPlaces.{once_append}
use Rattle.wy_lower.proofs.EmitParts.{texts_append, calls_append}
use Rattle.wy_lower.proofs.EmitMakers.{noted_is, maker_more}
use Rattle.wy_lower.proofs.scopes.add_bodies.Goals as goal

pub loop-k-preserved : goal.loop-k-preserved
loop-k-preserved c =
    let bs = c.args.bodies.now in
    let k = c.loop-k.k in
    let b = c.index-bodies-k.result in
    let keys = c.loop-k.names.texts.keys in
    let called = c.loop-k.names.methods.keys in
    let lt : k < length bs = search rules in
    let at = c.index-bodies-k.is in
    let here = block_parts (block_of b.block) in
    let rest = bodies_parts (map body_of (drop (k + 1) bs)) in
    let found = c.in_ok-body_vals.ensures in
    record {
      texts =
          ap (λ z. each_once_after z (texts_in rest)) found.texts ∙ sym (once_append keys (texts_in here) (texts_in rest)) ∙ ap (each_once_after keys) (sym (texts_append here rest))
          ∙ ap (λ l. each_once_after keys (texts_in (bodies_parts (map body_of l)))) (sym (split_at bs k b lt at)) ∙ c.loop-k.invariant.texts;
      methods =
          ap (λ z. each_once_after z (calls_in rest)) found.methods ∙ sym (once_append called (calls_in here) (calls_in rest)) ∙ ap (each_once_after called) (sym (calls_append here rest))
          ∙ ap (λ l. each_once_after called (calls_in (bodies_parts (map body_of l)))) (sym (split_at bs k b lt at)) ∙ c.loop-k.invariant.methods;
      vals =
          c.in_ok-push.ensures.items ∙ ap₂ (λ l v. l ++ v ∷ []) c.loop-k.invariant.vals found.vals
          ∙ sym (ap bodies_vals (taken_more body_of bs k b lt at) ∙ vals_end (map body_of (take k bs)) (body_of b));
      long = found.long ∙ c.loop-k.invariant.long;
      makers = λ m below none.
          let less : m < length c.loop-k.makers.items = omega (arith, c.loop-k.invariant.long, below) in
          found.makers m less
          ∙ ap (λ o. maker_noted k (makes_in here) m o) (c.loop-k.invariant.makers m below none)
          ∙ noted_is k here m (maker_of m (map body_of (take k bs)))
          ∙ maker_more m bs k b lt at;
    }
  where
    vals_end : (xs : List Body) (x : Body) → bodies_vals (xs ++ x ∷ []) ≡ bodies_vals xs ++ block_vals x.block ∷ []
    vals_end [] x = refl
    vals_end (y ∷ ys) x = ap (λ l. block_vals y.block ∷ l) (vals_end ys x)
