use Rattle.std.proofs.Common.{◌<◌, ◌+◌, List, [], ◌∷◌, ◌++◌, length, drop, get_or, refl, sym, ap, ◌∙◌, arith, append_assoc}
use Rattle.std.proofs.lemmas.Option.{slice_get_read}
use Rattle.wy_code.specs.declared.code.Literal.{Literal}
use Rattle.wy_code.specs.declared.code.Method.{Method}
use Rattle.wy_types.specs.Program.{scope_of}
use Rattle.wy_lower.specs.Lowering.{captures_code, methods_code, literals_code}
use Rattle.wy_lower.specs.EmitBodies.{whole_program, whole_starts}
use Rattle.wy_lower.proofs.EmitLists.{split_at, read_item, read_any}
use Rattle.wy_lower.proofs.kinds.literals_code.Goals as goal

pub loop-k-preserved : goal.loop-k-preserved
loop-k-preserved c =
    let p = whole_program c.args.whole.now in
    let starts = whole_starts c.args.whole.now in
    let s = scope_of c.args.scope.now in
    let xs = s.literals in
    let k = c.loop-k.k in
    let x = c.index-literals-k.result in
    let lt : k < length xs = omega (arith, ap length c.as_slice-literals.ensures) in
    let at = c.index-literals-k.is ∙ ap (λ l. get_or l k x) c.as_slice-literals.ensures in
    let ms = c.in_ok-methods.methods.items in
    let own = c.index.result.now in
    let less : k < length ms = omega (arith, c.in_ok-methods.ensures.long, lt) in
    let is = read_item ms k own (slice_get_read ms _ k own refl less c.index.ensures) ∙ read_any ms k own [] less ∙ c.in_ok-methods.ensures.each k lt in
    let made = λ (m : List Method). let l : Literal = record { captures = captures_code p starts s k x.captures; fields = length x.fields; methods = m } in l in
    let rest = literals_code p starts s c.args.first (k + 1) (drop (k + 1) xs) in
    ap (λ l. l ++ rest) (c.in_ok-add_literal.ensures ∙ ap (λ m. c.loop-k.all ++ made m ∷ []) is)
    ∙ append_assoc c.loop-k.all (made (methods_code p k (c.args.first + 1) s.bodies) ∷ []) rest
    ∙ ap (λ l. c.loop-k.all ++ literals_code p starts s c.args.first k l) (sym (split_at xs k x lt at))
    ∙ c.loop-k.invariant
