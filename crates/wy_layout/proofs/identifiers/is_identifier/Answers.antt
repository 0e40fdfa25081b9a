use Rattle.std.proofs.Common.{◌≡◌, Bool, true, false, not, List, ℕ, chars, ap, sym, ◌∙◌, refl}
use Rattle.std.specs.Str.{is_utf8}
use Rattle.std.proofs.lemmas.Str.{IsUtf8-from_is_utf8, is_utf8-from_IsUtf8}
use Rattle.wy_layout.specs.Characters.{is_name_of}
use Rattle.wy_layout.specs.Identifiers.{is_identifier}
use Rattle.wy_layout.proofs.identifiers.is_identifier.Goals as goal

pub returns-then-has_name_characters : goal.returns-then-has_name_characters
returns-then-has_name_characters c =
    let text = is_utf8-from_IsUtf8 c.args.word.now c.in-Ok.ensures.cases.1 in
    let named : is_name_of (chars c.args.word.now) ≡ true = ap (λ (t : List ℕ). is_name_of (chars t)) (sym c.in-Ok.ensures.cases.0) ∙ sym c.has_name_characters.ensures ∙ c.if-has_name_characters.true in
    rw (text, named) (ap not c.is_reserved.ensures)

pub returns-in-Err : goal.returns-in-Err
returns-in-Err c = go (is_utf8 c.args.word.now) refl
  where
    go : (b : Bool) → is_utf8 c.args.word.now ≡ b → false ≡ is_identifier c.args.word.now
    go true e = absurd (c.in-Err.ensures.cases.0 (IsUtf8-from_is_utf8 c.args.word.now e))
    go false e = rw e refl
