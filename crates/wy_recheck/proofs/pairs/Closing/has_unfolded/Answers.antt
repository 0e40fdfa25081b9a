use Rattle.std.proofs.Common.{List, sym, subst}
use Rattle.std.proofs.lemmas.Result.{IfOk-weaker}
use Rattle.wy_text.specs.Members.{In}
use Rattle.wy_types.specs.Program.{program_of}
use Rattle.wy_subtype.specs.declared.unfolding.UnfoldedPair.{UnfoldedPair}
use Rattle.wy_subtype.specs.Unfolding.{sides, Asks, IsUnfolded}
use Rattle.wy_proving.specs.Certified.{Pair}
use Rattle.wy_recheck.specs.PairSet.{Tells}
use Rattle.wy_recheck.specs.Closing.{looked_up, ClosedIn}
use Rattle.wy_recheck.proofs.ClosedPairs.{fails_closed, asks_closed}
use Rattle.wy_recheck.proofs.Telling.{tells_same, tells_not}
use Rattle.wy_recheck.proofs.pairs.Closing.has_unfolded.Goals as goal

pub returns-in-Fails : goal.returns-in-Fails
returns-in-Fails c = λ q unfolded. (
    let p = program_of c.args.self.now.core.now in
    let k = c.args.self.now.scope in
    let mode = c.args.self.now.mode in
    tells_not c.args.self.now.listed.now (λ pairs. ClosedIn p k mode pairs q) (λ pairs st closed. fails_closed p k mode q c.in-Fails.field-0 (subst (IsUnfolded p k mode q) c.in-Fails.is unfolded) pairs closed))

pub returns-in-Closed : goal.returns-in-Closed
returns-in-Closed c =
    let p = program_of c.args.self.now.core.now in
    let k = c.args.self.now.scope in
    let mode = c.args.self.now.mode in
    let keys = c.args.self.now.listed.now in
    let asked : List UnfoldedPair = c.as_slice.result.now in
    let P : List Pair → Type 0 = λ pairs. (u : UnfoldedPair) → In u asked → In {X = Pair} (looked_up mode (sides u)) pairs in
    IfOk-weaker c.has_all.result (Tells keys P) _ (λ b h q unfolded. (
    let A : List UnfoldedPair → Type 0 = λ l. Asks p k mode q l in
    let asks : Asks p k mode q asked = subst A (sym c.as_slice.ensures) (subst (IsUnfolded p k mode q) c.in-Closed.is unfolded) in
    let Q : List Pair → Type 0 = λ pairs. ClosedIn p k mode pairs q in
    tells_same keys P Q (asks_closed p k mode q asked asks) b h)) c.has_all.ensures
