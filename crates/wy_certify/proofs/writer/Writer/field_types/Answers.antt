use Rattle.std.proofs.Common.{sym, ◌∙◌}
use Rattle.std.proofs.lemmas.Result.{IfOk-weaker}
use Rattle.wy_certify.specs.Writer.{context_of}
use Rattle.wy_certify.proofs.Parts.{field_types_read}
use Rattle.wy_certify.proofs.writer.Writer.field_types.Goals as goal

pub returns : goal.returns
unfolding context_of
returns c = IfOk-weaker c.field_types.result _ _ (λ ts h. h ∙ sym (field_types_read (context_of c.args.self.now) c.args.literal)) c.field_types.ensures
