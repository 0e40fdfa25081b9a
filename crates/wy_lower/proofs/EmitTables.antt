-- What is known of several scopes.
use Rattle.std.proofs.Common.{◌≡◌, ◌<◌, ℕ, zero, suc, ◌+◌, List, [], ◌∷◌, ◌++◌, length, map, take, get_or, refl, sym, ap, subst, arith}
use Rattle.wy_types.specs.declared.resolved.Scope as r
use Rattle.wy_types.specs.Program.{Scope, scope_of}
use Rattle.wy_lower.specs.declared.scopes.Tables.{Tables}
use Rattle.wy_lower.specs.EmitScopes.{IsTabled, AreTabled}
use Rattle.wy_lower.proofs.EmitLists.{taken_more}

tabled_end : (ss : List Scope) (ts : List Tables) (s : Scope) (t : Tables) → AreTabled ss ts → IsTabled s t → AreTabled (ss ++ s ∷ []) (ts ++ t ∷ [])
tabled_end [] [] s t all here = (here, tt)
tabled_end [] (u ∷ ts) s t all here = absurd all
tabled_end (x ∷ ss) [] s t all here = absurd all
tabled_end (x ∷ ss) (u ∷ ts) s t all here = (all.0, tabled_end ss ts s t all.1 here)

-- one scope more
pub tabled_more : (ss : List r.Scope) (i : ℕ) (s : r.Scope) (ts us : List Tables) (t : Tables) → i < length ss → s ≡ get_or ss i s → us ≡ ts ++ t ∷ [] →
    AreTabled (map scope_of (take i ss)) ts → IsTabled (scope_of s) t → AreTabled (map scope_of (take (i + 1) ss)) us
tabled_more ss i s ts us t lt at added all here =
    subst (λ (l : List Scope). AreTabled l us) (sym (taken_more scope_of ss i s lt at))
    (subst (λ (l : List Tables). AreTabled (map scope_of (take i ss) ++ scope_of s ∷ []) l) (sym added) (tabled_end (map scope_of (take i ss)) ts (scope_of s) t all here))

-- there are tables for each scope
pub tabled_length : (ss : List r.Scope) (ts : List Tables) → AreTabled (map scope_of ss) ts → length ts ≡ length ss
tabled_length [] [] all = refl
tabled_length [] (t ∷ ts) all = absurd all
tabled_length (s ∷ ss) [] all = absurd all
tabled_length (s ∷ ss) (t ∷ ts) all = ap suc (tabled_length ss ts all.1)

-- the tables at a place are those of the scope there
pub tabled_at : (ss : List r.Scope) (ts : List Tables) (i : ℕ) (s : r.Scope) (t : Tables) → AreTabled (map scope_of ss) ts → i < length ss → s ≡ get_or ss i s → t ≡ get_or ts i t → IsTabled (scope_of s) t
tabled_at [] ts i s t all lt at its = absurd (omega arith)
tabled_at (x ∷ ss) [] i s t all lt at its = absurd all
tabled_at (x ∷ ss) (u ∷ ts) zero s t all lt at its = subst (λ (z : r.Scope). IsTabled (scope_of z) t) (sym at) (subst (λ (z : Tables). IsTabled (scope_of x) z) (sym its) all.0)
tabled_at (x ∷ ss) (u ∷ ts) (suc i) s t all lt at its = tabled_at ss ts i s t all.1 (omega arith) at its
