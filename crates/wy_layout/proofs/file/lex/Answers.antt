use Rattle.std.proofs.Common.{◌≡◌, sym, subst, Err, Global}
use Rattle.wy_layout.specs.Layout.{IsRefused}
use Rattle.wy_layout.specs.Lexed.{lex_bytes, refused}
use Rattle.wy_layout.specs.Outs.{GivesText, refusal_of}
use Rattle.wy_layout.specs.declared.line.Halt.{Halt}
use Rattle.wy_text.specs.declared.fault.Place.{Place}
use Rattle.wy_layout.proofs.Whole.{lexes_of, whole_of, offset_of, refused_of}
use Rattle.wy_layout.proofs.file.lex.Goals as goal

pub place_at-requires-clause-within : goal.place_at-requires-clause-within
place_at-requires-clause-within c =
    let e : lex_bytes c.args.file c.args.bytes.now ≡ refused c.in-At.fault c.in-At.at = subst (λ (h : Halt). GivesText {A = Global} (Err h) (lex_bytes c.args.file c.args.bytes.now)) c.in-At.is c.in-Err.ensures in
    offset_of c.args.file c.args.bytes.now c.in-At.fault c.in-At.at e

pub returns-in-Ok-clause-tokens : goal.returns-in-Ok-clause-tokens
returns-in-Ok-clause-tokens c = lexes_of c.args.file c.args.bytes.now c.in-Ok.tokens.items c.if-bytes-gt-MOST_FILE_BYTES.false c.in-Ok.ensures

pub returns-in-Ok-clause-whole : goal.returns-in-Ok-clause-whole
returns-in-Ok-clause-whole c = whole_of c.args.file c.args.bytes.now c.in-Ok.tokens.items c.if-bytes-gt-MOST_FILE_BYTES.false c.in-Ok.ensures

pub returns-in-At-clause-refused : goal.returns-in-At-clause-refused
returns-in-At-clause-refused c =
    let e : lex_bytes c.args.file c.args.bytes.now ≡ refused c.in-At.fault c.in-At.at = subst (λ (h : Halt). GivesText {A = Global} (Err h) (lex_bytes c.args.file c.args.bytes.now)) c.in-At.is c.in-Err.ensures in
    subst (IsRefused c.args.file c.args.bytes.now) (sym c.refusal.ensures)
    (subst (λ (p : Place). IsRefused c.args.file c.args.bytes.now (refusal_of c.in-At.fault p)) (sym c.place_at.ensures)
    (refused_of c.args.file c.args.bytes.now c.in-At.fault c.in-At.at c.if-bytes-gt-MOST_FILE_BYTES.false e))
