use Rattle.std.proofs.Common.{◌≤◌, ℕ, List, length, sym, ap, ◌∙◌, subst}
use Rattle.wy_layout.specs.Identifiers.{is_identifier}
use Rattle.wy_layout.specs.Words.{most_name_bytes}
use Rattle.wy_verify.proofs.RangeWords.{identifier_name, name_identifier}
use Rattle.wy_verify.proofs.ranges.words.is_grant_name.Goals as goal

pub returns-then-bytes-le-MOST_NAME_BYTES : goal.returns-then-bytes-le-MOST_NAME_BYTES
returns-then-bytes-le-MOST_NAME_BYTES c =
    let e = c.as_bytes-bytes.ensures in
    let t = c.args.text.now in (
      λ h. let n = identifier_name t (ap is_identifier (sym e) ∙ sym c.is_identifier.ensures ∙ h) in
          (n.0, n.1, subst (λ (l : List ℕ). length l ≤ most_name_bytes) e c.if-bytes-le-MOST_NAME_BYTES.true),
      λ g. c.is_identifier.ensures ∙ ap is_identifier e ∙ name_identifier t g.0 g.1,
    )
