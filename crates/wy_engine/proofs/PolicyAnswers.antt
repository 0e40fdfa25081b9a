-- What a policy says of an authority is one thing: it gives one status, or the program keeps to it.
use Rattle.std.proofs.Common.{◌≡◌, ◌≢◌, inl, inr, ◌<◌, ◌≤◌, ℕ, List, refl, sym, ◌∙◌, ap, subst, arith, length}
use Rattle.wy_text.specs.declared.fault.AtomName.{AtomName}
use Rattle.wy_text.specs.declared.limit.LimitName.TheVariants as limit
use Rattle.wy_authority.specs.declared.rows.Authority.{Authority}
use Rattle.wy_policy.specs.Allowed.{Allowed, Denied}
use Rattle.wy_policy.specs.Policy.{IsPolicy, IsRefused, most_bytes}
use Rattle.wy_policy.specs.declared.policy.Judgement.{Judgement}
use Rattle.wy_policy.specs.declared.policy.Judgement.TheVariants as judgement
use Rattle.wy_policy.specs.declared.policy.PolicyRefusal.{PolicyRefusal}
use Rattle.wy_policy.specs.declared.policy.PolicyRefusal.TheVariants as refusal
use Rattle.wy_policy.specs.declared.policy.PolicyRow.{PolicyRow}
use Rattle.wy_policy.proofs.JudgingLaws.{one_judgement}
use Rattle.wy_policy.proofs.PolicyLaws.{bad_is_few, not_bad, not_too_many, one_bad, one_list}
use Rattle.wy_engine.specs.Answering.{policy_status}
use Rattle.wy_engine.specs.Judgement.{Refuses}
use Rattle.wy_engine.specs.declared.status.Status.{Status}
use Rattle.wy_engine.specs.declared.status.Status.TheVariants as status

-- why bytes give a status to a program of this authority
data RefusesBy (bytes : List ℕ) (a : Authority) (end : Status) : Type 0 where
  none : (why : PolicyRefusal) → why ≢ refusal.Memory → IsRefused bytes why → end ≡ policy_status why → RefusesBy bytes a end
  denies : (rows : List PolicyRow) → IsPolicy bytes rows → (line : ℕ) (name : List ℕ) (atom : AtomName) → Denied rows a line name atom → end ≡ status.Denied line name atom → RefusesBy bytes a end

refuses_by : (bytes : List ℕ) (a : Authority) (end : Status) → Refuses bytes a end → RefusesBy bytes a end
refuses_by bytes a (status.Limit name) is = none (refusal.Limit name) (λ e. cc) is refl
refuses_by bytes a (status.BadPolicy line) is = none (refusal.BadPolicy line) (λ e. cc) is refl
refuses_by bytes a (status.Denied line name atom) is = denies is.0 is.1 line name atom is.2 refl
refuses_by bytes a other is = absurd is

-- ---- bytes that are no policy

one_why : (bytes : List ℕ) (v w : PolicyRefusal) → v ≢ refusal.Memory → w ≢ refusal.Memory → IsRefused bytes v → IsRefused bytes w → v ≡ w
one_why bytes (refusal.Limit a) (refusal.Limit b) f g (inl h) (inl k) = ap refusal.Limit (h.0 ∙ sym k.0)
one_why bytes (refusal.Limit a) (refusal.Limit b) f g (inl h) (inr k) = let long : most_bytes < length bytes = h.1 in let short : length bytes ≤ most_bytes = k.1.short in absurd (omega arith)
one_why bytes (refusal.Limit a) (refusal.Limit b) f g (inr h) (inl k) = let long : most_bytes < length bytes = k.1 in let short : length bytes ≤ most_bytes = h.1.short in absurd (omega arith)
one_why bytes (refusal.Limit a) (refusal.Limit b) f g (inr h) (inr k) = ap refusal.Limit (h.0 ∙ sym k.0)
one_why bytes (refusal.Limit a) (refusal.BadPolicy n) f g (inl h) k = let long : most_bytes < length bytes = h.1 in let short : length bytes ≤ most_bytes = k.are.short in absurd (omega arith)
one_why bytes (refusal.Limit a) (refusal.BadPolicy n) f g (inr h) k = absurd (bad_is_few bytes n k h.1)
one_why bytes (refusal.BadPolicy n) (refusal.Limit b) f g h (inl k) = let long : most_bytes < length bytes = k.1 in let short : length bytes ≤ most_bytes = h.are.short in absurd (omega arith)
one_why bytes (refusal.BadPolicy n) (refusal.Limit b) f g h (inr k) = absurd (bad_is_few bytes n h k.1)
one_why bytes (refusal.BadPolicy m) (refusal.BadPolicy n) f g h k = ap refusal.BadPolicy (one_bad bytes m n h k)
one_why bytes refusal.Memory w f g h k = absurd (f refl)
one_why bytes v refusal.Memory f g h k = absurd (g refl)

refused_or_policy : (bytes : List ℕ) (rows : List PolicyRow) (why : PolicyRefusal) → why ≢ refusal.Memory → IsRefused bytes why → IsPolicy bytes rows → ⊥
refused_or_policy bytes rows (refusal.Limit name) f (inl h) k = let long : most_bytes < length bytes = h.1 in let short : length bytes ≤ most_bytes = k.has.short in omega arith
refused_or_policy bytes rows (refusal.Limit name) f (inr h) k = not_too_many bytes rows k h.1
refused_or_policy bytes rows (refusal.BadPolicy n) f h k = not_bad bytes rows n k h
refused_or_policy bytes rows refusal.Memory f h k = f refl

-- ---- bytes that are one

-- the status of a judgement
abbrev said : Judgement → Status
said judgement.Allowed = status.Ended
said (judgement.Denied line name atom) = status.Denied line name atom

same_denial : (bytes : List ℕ) (a : Authority) (rows others : List PolicyRow) (m n : ℕ) (u v : List ℕ) (x y : AtomName) → IsPolicy bytes rows → IsPolicy bytes others
    → Denied rows a m u x → Denied others a n v y → status.Denied m u x ≡ status.Denied n v y
same_denial bytes a rows others m n u v x y is also h k =
    let same : rows ≡ others = one_list bytes rows others is.has.are also.has.are in
    ap said (one_judgement others a (judgement.Denied m u x) (judgement.Denied n v y) (subst (λ (rs : List PolicyRow). Denied rs a m u x) same h) k)

allowed_or_denied : (bytes : List ℕ) (a : Authority) (rows others : List PolicyRow) (n : ℕ) (name : List ℕ) (atom : AtomName) → IsPolicy bytes rows → IsPolicy bytes others
    → Allowed rows a → Denied others a n name atom → ⊥
allowed_or_denied bytes a rows others n name atom is also h k =
    let same : rows ≡ others = one_list bytes rows others is.has.are also.has.are in
    let e : judgement.Allowed ≡ judgement.Denied n name atom = one_judgement others a judgement.Allowed (judgement.Denied n name atom) (subst (λ (rs : List PolicyRow). Allowed rs a) same h) k in
    cc

-- ---- one answer

by_one : (bytes : List ℕ) (a : Authority) (end other : Status) → RefusesBy bytes a end → RefusesBy bytes a other → end ≡ other
by_one bytes a end other (none why full is named) (none why' full' is' named') = named ∙ ap policy_status (one_why bytes why why' full full' is is') ∙ sym named'
by_one bytes a end other (none why full is named) (denies rows also line name atom h named') = absurd (refused_or_policy bytes rows why full is also)
by_one bytes a end other (denies rows is line name atom h named) (none why full also named') = absurd (refused_or_policy bytes rows why full also is)
by_one bytes a end other (denies rows is line name atom h named) (denies rows' is' line' name' atom' h' named') =
    named ∙ same_denial bytes a rows rows' line line' name name' atom atom' is is' h h' ∙ sym named'

pub one_refusal : (bytes : List ℕ) (a : Authority) (end other : Status) → Refuses bytes a end → Refuses bytes a other → end ≡ other
one_refusal bytes a end other h k = by_one bytes a end other (refuses_by bytes a end h) (refuses_by bytes a other k)

by_none : (bytes : List ℕ) (a : Authority) (rows : List PolicyRow) (end : Status) → IsPolicy bytes rows → Allowed rows a → RefusesBy bytes a end → ⊥
by_none bytes a rows end is h (none why full also named) = refused_or_policy bytes rows why full also is
by_none bytes a rows end is h (denies others also line name atom k named) = allowed_or_denied bytes a rows others line name atom is also h k

pub allowed_or_refused : (bytes : List ℕ) (a : Authority) (rows : List PolicyRow) (end : Status) → IsPolicy bytes rows → Allowed rows a → Refuses bytes a end → ⊥
allowed_or_refused bytes a rows end is h k = by_none bytes a rows end is h (refuses_by bytes a end k)

-- a policy is not among the files that are too many
pub uncrowded_policy : (bytes : List ℕ) (a : Authority) → Refuses bytes a (status.Limit limit.Files) → ⊥
uncrowded_policy bytes a (inl h) = let e : limit.Files ≡ limit.FileBytes = h.0 in cc
uncrowded_policy bytes a (inr h) = let e : limit.Files ≡ limit.PolicyRows = h.0 in cc
