use Rattle.std.proofs.Common.{sym}
use Rattle.wy_types.specs.Program.{body_of}
use Rattle.wy_certify.specs.Writer.{context_of}
use Rattle.wy_certify.proofs.Bodies.{body_is}
use Rattle.wy_certify.proofs.Gathering.{so, two}
use Rattle.wy_certify.proofs.writer.Writer.write_body.Goals as goal

pub returns : goal.returns
unfolding context_of
returns c = so (two c.write_block_at.ensures c.add_body.ensures) (λ g. (sym (body_is (context_of c.args.self.now) (body_of c.args.body.now)), tt))
