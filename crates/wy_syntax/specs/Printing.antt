-- What is printed by itself on the way to the canonical form.
use Rattle.std.specs.Prelude.{ℕ, List, []}
use Rattle.wy_syntax.specs.Trees.{ExprTree, size, part, byte_at, byte, show, ascribe, choice}
use Rattle.wy_syntax.specs.Canonical.{expr_text}

-- the text of a form whose operands stand behind words and signs of its own; nothing for the other forms
abbrev pub worded_text : ExprTree → List ℕ
worded_text (size e p) = expr_text (size e p)
worded_text (part e a b p) = expr_text (part e a b p)
worded_text (byte_at e i p) = expr_text (byte_at e i p)
worded_text (byte e p) = expr_text (byte e p)
worded_text (show e p) = expr_text (show e p)
worded_text (ascribe e t p) = expr_text (ascribe e t p)
worded_text (choice c a b p) = expr_text (choice c a b p)
worded_text _ = []
