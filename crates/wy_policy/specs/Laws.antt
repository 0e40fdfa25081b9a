-- Laws of policies: a text has one answer, and an authority one judgement.
use Rattle.std.specs.Prelude.{◌≡◌, ℕ, List}
use Rattle.wy_authority.specs.declared.rows.Authority.{Authority}
use Rattle.wy_policy.specs.Allowed.{Judges}
use Rattle.wy_policy.specs.Policy.{HasTooMany, IsBad, IsPolicy, Rows, lines_of}
use Rattle.wy_policy.specs.declared.policy.Judgement.{Judgement}
use Rattle.wy_policy.specs.declared.policy.PolicyRow.{PolicyRow}

-- a text has one list of rows
abbrev pub OneList : Type 0
OneList = (bytes : List ℕ) (rows others : List PolicyRow) → Rows (lines_of bytes) rows → Rows (lines_of bytes) others → rows ≡ others

-- a policy has no bad line and not too many rows
abbrev pub NotBad : Type 0
NotBad = (bytes : List ℕ) (rows : List PolicyRow) (n : ℕ) → IsPolicy bytes rows → IsBad bytes n → ⊥

abbrev pub NotTooMany : Type 0
NotTooMany = (bytes : List ℕ) (rows : List PolicyRow) → IsPolicy bytes rows → HasTooMany bytes → ⊥

-- one bad line comes first, in text that has not too many rows
abbrev pub OneBad : Type 0
OneBad = (bytes : List ℕ) (m n : ℕ) → IsBad bytes m → IsBad bytes n → m ≡ n

abbrev pub BadIsFew : Type 0
BadIsFew = (bytes : List ℕ) (n : ℕ) → IsBad bytes n → HasTooMany bytes → ⊥

-- an authority has one judgement
abbrev pub OneJudgement : Type 0
OneJudgement = (rows : List PolicyRow) (a : Authority) (j k : Judgement) → Judges rows a j → Judges rows a k → j ≡ k
