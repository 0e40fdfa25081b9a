-- The first piece of what a reader has left.
use Rattle.std.proofs.Common.{◌≡◌, ◌-◌, ℕ, List, [], length, OnOk, Option, subst}
use Rattle.std.specs.declared.result.Result.{Result}
use Rattle.wy_host.specs.Streams.{GrewUpTo, IsFirst}

-- what is read behind nothing, up to the room that is there, is the first piece
pub behind_nothing_is_first : {A E : Type 0} (result : Result A E) (known : Option (List ℕ)) (line after : List ℕ) (room : ℕ)
    → room ≡ 65536 - length line → OnOk result (GrewUpTo room known line after)
    → line ≡ [] → OnOk result (IsFirst known after)
behind_nothing_is_first result known line after room fits grew empty =
    subst (λ l. OnOk result (GrewUpTo (65536 - length l) known l after)) empty
    (subst (λ n. OnOk result (GrewUpTo n known line after)) fits grew)
