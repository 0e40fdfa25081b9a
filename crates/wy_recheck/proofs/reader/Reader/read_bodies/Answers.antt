use Rattle.std.proofs.Common.{◌≡◌, List, map, Err, sym, ap, ◌∙◌}
use Rattle.wy_types.specs.declared.resolved.Body.{Body}
use Rattle.wy_types.specs.Program.{body_of}
use Rattle.wy_proving.specs.Reading.{bodies_fail}
use Rattle.wy_recheck.specs.Nodes.{bodies_read, body_read}
use Rattle.wy_recheck.proofs.NodesFailing.{handed_on, first_weaker}
use Rattle.wy_recheck.proofs.NodesInOrder.{body_stands, body_fails, no_body}
use Rattle.wy_recheck.proofs.reader.Reader.read_bodies.Goals as goal

pub returns-in_err-read_body : goal.returns-in_err-read_body
returns-in_err-read_body c =
    let r = c.args.self.now in
    let at = c.args.at.now in
    let xs : List Body = c.as_slice-bodies.result.now in
    let i = c.loop-i.i in
    let x : Body = c.index-bodies-i.result in
    let whole = ap (λ (l : List Body). bodies_read r at (map body_of l)) (sym c.as_slice-bodies.ensures) in
    let e : c.from_residual.result ≡ Err c.in_err-read_body.field-0.0 = handed_on c.from_residual.result c.in_err-read_body.field-0.0 c.from_residual.ensures.1 in
    rw e (first_weaker (λ j. body_read r c.loop-i.at (body_of x) ≡ bodies_fail j) (λ j. bodies_read r at (map body_of r.scope.now.bodies) ≡ bodies_fail j)
    (λ j g. whole ∙ c.loop-i.invariant ∙ body_fails r xs i x c.loop-i.at c.loop-i-test.true c.index-bodies-i.is j g) c.in_err-read_body.field-0.0 c.in_err-read_body.ensures)

pub loop-i-preserved : goal.loop-i-preserved
loop-i-preserved c =
    let r = c.args.self.now in
    let xs : List Body = c.as_slice-bodies.result.now in
    let i = c.loop-i.i in
    let x : Body = c.index-bodies-i.result in
    c.loop-i.invariant ∙ body_stands r xs i x c.loop-i.at c.loop-i-test.true c.index-bodies-i.is c.read_body.new.at c.in_ok-read_body.ensures

pub returns : goal.returns
returns c =
    let r = c.args.self.now in
    let at = c.args.at.now in
    let xs : List Body = c.as_slice-bodies.result.now in
    let whole = ap (λ (l : List Body). bodies_read r at (map body_of l)) (sym c.as_slice-bodies.ensures) in
    whole ∙ c.loop-i.invariant ∙ no_body r xs c.loop-i.i c.loop-i.at c.loop-i-test.false
