use Rattle.std.proofs.Common.{◌≡◌, cond, slice_index, chars, sym, ap, ◌∙◌, Bool, true, false, refl}
use Rattle.std.specs.Str.{is_utf8}
use Rattle.std.proofs.lemmas.Str.{IsUtf8-from_is_utf8, is_utf8-from_IsUtf8}
use Rattle.wy_layout.specs.Names as spec
use Rattle.wy_layout.proofs.names.decoded.Goals as goal

pub returns-in-Ok : goal.returns-in-Ok
returns-in-Ok c = let e = is_utf8-from_IsUtf8 c.args.text.now c.in-Ok.ensures.cases.1 in
    c.first.ensures ∙ ap (λ t. slice_index (chars t) 0) c.in-Ok.ensures.cases.0 ∙ ap (λ (b : Bool). cond b (slice_index (chars c.args.text.now) 0) 0) (sym e)

pub returns-in-Err : goal.returns-in-Err
returns-in-Err c = go (is_utf8 c.args.text.now) refl
  where
    go : (b : Bool) → is_utf8 c.args.text.now ≡ b → 0 ≡ spec.decoded c.args.text.now
    go true e = absurd (c.in-Err.ensures.cases.0 (IsUtf8-from_is_utf8 c.args.text.now e))
    go false e = rw e refl
