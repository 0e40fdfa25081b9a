-- Refusals of parts, one part after another.
use Rattle.std.proofs.Common.{◌≡◌, List, ◌++◌, ◌∙◌, sym, ap, refl, Option}
use Rattle.wy_symbols.specs.declared.refusal.Refusal.{Refusal}
use Rattle.wy_symbols.specs.Least.{noted}
use Rattle.wy_symbols.proofs.Leasts.{noted_append}

pub noted_two : (o p q : Option Refusal) (a b : List Refusal) → p ≡ noted o a → q ≡ noted p b → q ≡ noted o (a ++ b)
noted_two o p q a b h g = g ∙ ap (λ x. noted x b) h ∙ sym (noted_append o a b)

pub noted_three : (o p q r : Option Refusal) (a b c : List Refusal) → p ≡ noted o a → q ≡ noted p b → r ≡ noted q c → r ≡ noted o (a ++ (b ++ c))
noted_three o p q r a b c h g k = noted_two o p r a (b ++ c) h (noted_two p q r b c g k)

-- one part's refusals in front of those that are left
pub noted_turn : (o p whole : Option Refusal) (all a b : List Refusal) → all ≡ a ++ b → p ≡ noted o a → noted o all ≡ whole → noted p b ≡ whole
noted_turn o p whole all a b at h k = noted_two o p (noted p b) a b h refl ∙ ap (noted o) (sym at) ∙ k
