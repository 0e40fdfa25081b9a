use Rattle.std.proofs.Common.{◌≡◌, [], Err}
use Rattle.wy_cert.specs.declared.certificate.Rule.TheVariants as by
use Rattle.wy_cert.specs.declared.certificate.CertNode.{CertNode}
use Rattle.wy_proving.specs.Reading.{bodies_fail}
use Rattle.wy_recheck.specs.Nodes.{start_read, bodies_read, scope_read}
use Rattle.wy_types.specs.Program.{scope_of}
use Rattle.wy_recheck.proofs.NodesFailing.{handed_on, first_weaker}
use Rattle.wy_recheck.proofs.NodesOfBodies.{scope_fails_at_start, scope_fails_in_bodies, scope_fails_at_end, scope_ends}
use Rattle.wy_recheck.proofs.reader.Reader.read_scope.Goals as goal

pub returns-in_err-read_start : goal.returns-in_err-read_start
returns-in_err-read_start c =
    let r = c.args.self.now in
    let e : c.from_residual.result ≡ Err c.in_err-read_start.field-0.0 = handed_on c.from_residual.result c.in_err-read_start.field-0.0 c.from_residual.ensures.1 in
    rw e (first_weaker (λ j. start_read r 0 ≡ bodies_fail j) (λ j. scope_read r ≡ bodies_fail j) (scope_fails_at_start r) c.in_err-read_start.field-0.0 c.in_err-read_start.ensures)

pub returns-in_err-read_bodies : goal.returns-in_err-read_bodies
returns-in_err-read_bodies c =
    let r = c.args.self.now in
    let mid = c.read_start.new.at in
    let e : c.from_residual-in_err-read_bodies.result ≡ Err c.in_err-read_bodies.field-0.0 = handed_on c.from_residual-in_err-read_bodies.result c.in_err-read_bodies.field-0.0 c.from_residual-in_err-read_bodies.ensures.1 in
    rw e (first_weaker (λ j. bodies_read r mid (scope_of r.scope.now).bodies ≡ bodies_fail j) (λ j. scope_read r ≡ bodies_fail j) (scope_fails_in_bodies r mid c.in_ok-read_start.ensures) c.in_err-read_bodies.field-0.0 c.in_err-read_bodies.ensures)

pub returns-then-at-self : goal.returns-then-at-self
returns-then-at-self c =
    let n : CertNode = record { rule = by.Lit; file = 0; line = 0; column = 0; parts = 0; typ = 0; effect = [] } in
    scope_fails_at_end c.args.self.now c.read_start.new.at c.in_ok-read_start.ensures c.read_bodies.new.at c.in_ok-read_bodies.ensures c.if-at-self.true n

pub returns : goal.returns
returns c =
    let r = c.args.self.now in
    (c.read_bodies.new.at, scope_ends r c.read_start.new.at c.in_ok-read_start.ensures c.read_bodies.new.at c.in_ok-read_bodies.ensures c.if-at-self.false)
