use Rattle.std.proofs.Common.{◌≡◌, ◌<◌, ◌+◌, [], ◌∷◌, ◌++◌, suc, length, map, drop, get_or, refl, sym, ap, ap₂, ◌∙◌, arith, append_assoc, length-append}
use Rattle.std.proofs.lemmas.Option.{slice_get_read}
use Rattle.wy_types.specs.Program.{scope_of}
use Rattle.wy_lower.specs.Lowering.{start_code, bodies_code, scopes_bodies, scopes_code}
use Rattle.wy_lower.specs.EmitLowered.{scope_code}
use Rattle.wy_lower.specs.EmitBodies.{whole_program, whole_starts}
use Rattle.wy_lower.proofs.Counting.{methods_counted}
use Rattle.wy_lower.proofs.EmitLists.{read_item, split_at}
use Rattle.wy_lower.proofs.EmitTables.{tabled_length, tabled_at}
use Rattle.wy_lower.proofs.lowering.add_scopes.Goals as goal

pub index-requires : goal.index-requires
index-requires c =
    let w = c.args.whole.now in
    omega (arith, ap length c.as_slice-all.ensures, tabled_length w.core.now.scopes w.tables.items c.requires.whole.tables)

pub add_scope-requires-clause-tables : goal.add_scope-requires-clause-tables
add_scope-requires-clause-tables c =
    let w = c.args.whole.now in
    let ss = w.core.now.scopes in
    let ts = w.tables.items in
    let k = c.loop-k.k in
    let s = c.index-all-k.result in
    let t = c.index.result.now in
    let lt : k < length ss = omega (arith, ap length c.as_slice-all.ensures) in
    let less : k < length ts = omega (arith, tabled_length ss ts c.requires.whole.tables) in
    let at = c.index-all-k.is ∙ ap (λ l. get_or l k s) c.as_slice-all.ensures in
    tabled_at ss ts k s t c.requires.whole.tables lt at (read_item ts k t (slice_get_read ts _ k t refl less c.index.ensures))

pub loop-k-preserved : goal.loop-k-preserved
loop-k-preserved c =
    let w = c.args.whole.now in
    let p = whole_program w in
    let starts = whole_starts w in
    let ss = w.core.now.scopes in
    let k = c.loop-k.k in
    let x = c.index-all-k.result in
    let s = scope_of x in
    let bodies = c.loop-k.bodies in
    let scopes = c.loop-k.scopes in
    let lt : k < length ss = omega (arith, ap length c.as_slice-all.ensures) in
    let at = c.index-all-k.is ∙ ap (λ l. get_or l k x) c.as_slice-all.ensures in
    let split = split_at ss k x lt at in
    let rest = map scope_of (drop (k + 1) ss) in
    let here = start_code p starts s ∷ bodies_code p starts s 0 s.bodies in
    let long : length c.add_scope.new.bodies ≡ length bodies + 1 + length s.bodies =
    ap length c.in_ok-add_scope.ensures.bodies ∙ length-append bodies here
    ∙ (let z : length bodies + suc (length (bodies_code p starts s 0 s.bodies)) ≡ length bodies + 1 + length s.bodies = omega (arith, methods_counted p starts s 0 s.bodies) in z) in
    record {
      bodies =
          ap (λ l. l ++ scopes_bodies p starts rest) c.in_ok-add_scope.ensures.bodies ∙ append_assoc bodies here (scopes_bodies p starts rest)
          ∙ ap (λ l. bodies ++ scopes_bodies p starts (map scope_of l)) (sym split) ∙ c.loop-k.invariant.bodies;
      scopes =
          ap₂ (λ l n. l ++ scopes_code p starts n rest) c.in_ok-add_scope.ensures.scopes long
          ∙ append_assoc scopes (scope_code p starts (length bodies) s ∷ []) (scopes_code p starts (length bodies + 1 + length s.bodies) rest)
          ∙ ap (λ l. scopes ++ scopes_code p starts (length bodies) (map scope_of l)) (sym split) ∙ c.loop-k.invariant.scopes;
    }
