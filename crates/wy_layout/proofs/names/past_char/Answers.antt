use Rattle.std.proofs.Common.{◌∙◌, sym, ap}
use Rattle.unicode_ident.specs.Ident.{is_xid_continue}
use Rattle.wy_layout.proofs.Past.{past_is, past_ends, full}
use Rattle.wy_layout.proofs.names.past_char.Goals as goal

pub returns : goal.returns
returns c = past_ends c.args.text.now c.continuation_len-n.result c.continuation_len-n.ensures.value (past_is c.args.text.now (full c.args.text.now (sym c.is_empty.ensures ∙ c.if-is_empty.false))
    (ap is_xid_continue (sym c.head_char.ensures) ∙ sym c.is_xid_continue.ensures.value ∙ c.if-not-is_xid_continue.false))
