-- What is written after several parts.
use Rattle.std.proofs.Common.{◌≡◌, ℕ, List, ◌++◌, ap, ◌∙◌, append_assoc}

-- one part, and then the rest
pub written_then : (out between after part rest : List ℕ) → between ≡ out ++ part → after ≡ between ++ rest
    → after ≡ out ++ (part ++ rest)
written_then out between after part rest e h = h ∙ ap (λ (t : List ℕ). t ++ rest) e ∙ append_assoc out part rest
