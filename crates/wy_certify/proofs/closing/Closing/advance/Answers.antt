use Rattle.std.proofs.Common.{◌≡◌, ◌<◌, List, length, refl, ap, ◌∙◌, sym, subst, Some}
use Rattle.std.specs.Prelude.{slice_get}
use Rattle.std.proofs.lemmas.Option.{slice_get_read}
use Rattle.std.proofs.lemmas.Result.{on_ok_weaker}
use Rattle.wy_text.proofs.Lists.{In-slice_get}
use Rattle.wy_types.specs.Program.{program_of}
use Rattle.wy_types.proofs.Arities.{core_in_range}
use Rattle.wy_subtype.specs.declared.unfolding.UnfoldedPair.{UnfoldedPair}
use Rattle.wy_subtype.specs.Unfolding.{Asks}
use Rattle.wy_subtype.proofs.Places.{slice_get-mapped}
use Rattle.wy_proving.specs.Certified.{Pair}
use Rattle.wy_certify.specs.declared.pair.TypePair.{TypePair}
use Rattle.wy_certify.specs.Pair.{pair_of}
use Rattle.wy_certify.specs.Closed.{pairs_in}
use Rattle.wy_certify.proofs.PairsHolding.{never_fails}
use Rattle.wy_certify.proofs.PairsGrowing.{advances}
use Rattle.wy_certify.proofs.closing.Closing.advance.Goals as goal

pub unfold-requires : goal.unfold-requires
unfold-requires g c = record { core = core_in_range (program_of c.args.self.now.core.now) c.requires.core }

pub unreachable-requires : goal.unreachable-requires
unreachable-requires g c =
    let p = program_of c.args.self.now.core.now in
    let k = c.args.self.now.number in
    let mode = c.args.self.now.mode in
    let x : TypePair = c.index-as_slice-at.result in
    let q : Pair = pair_of x in
    let items : List TypePair = c.args.work.now.pairs in
    let slice : List TypePair = c.as_slice.result.now in
    let below : c.args.at < length slice = subst (λ (l : List TypePair). c.args.at < length l) (sym c.as_slice.ensures) c.requires.within in
    let read : slice_get items c.args.at ≡ Some x = ap (λ (l : List TypePair). slice_get l c.args.at) (sym c.as_slice.ensures) ∙ slice_get_read slice _ c.args.at x refl below c.index-as_slice-at.is in
    let at : slice_get (pairs_in c.args.work.now) c.args.at ≡ Some q = slice_get-mapped pair_of items c.args.at x read in
    let holds = (c.requires.ready.each q (In-slice_get (pairs_in c.args.work.now) c.args.at q at)).0 in
    never_fails p k c.requires.ready.scope mode q holds c.in-Fails.field-0 (rw c.in-Fails.is at c.in_ok-unfolding.ensures.unfolded)

pub returns-clause-advances : goal.returns-clause-advances
returns-clause-advances g c =
    let p = program_of c.args.self.now.core.now in
    let k = c.args.self.now.number in
    let mode = c.args.self.now.mode in
    let x : TypePair = c.index-as_slice-at.result in
    let q : Pair = pair_of x in
    let items : List TypePair = c.args.work.now.pairs in
    let slice : List TypePair = c.as_slice.result.now in
    let below : c.args.at < length slice = subst (λ (l : List TypePair). c.args.at < length l) (sym c.as_slice.ensures) c.requires.within in
    let read : slice_get items c.args.at ≡ Some x = ap (λ (l : List TypePair). slice_get l c.args.at) (sym c.as_slice.ensures) ∙ slice_get_read slice _ c.args.at x refl below c.index-as_slice-at.is in
    let at : slice_get (pairs_in c.args.work.now) c.args.at ≡ Some q = slice_get-mapped pair_of items c.args.at x read in
    let asked : List UnfoldedPair = c.as_slice-in-Closed.result.now in
    let A : List UnfoldedPair → Type 0 = λ l. Asks p k mode q l in
    let asks : Asks p k mode q asked = subst A (sym c.as_slice-in-Closed.ensures) (rw c.in-Closed.is at c.in_ok-unfolding.ensures.unfolded) in
    on_ok_weaker c.add_unfolded.result (λ grown. advances p k mode c.requires.core (pairs_in c.args.work.now) (pairs_in c.add_unfolded.new.self) c.args.at q asked c.requires.ready at asks grown) c.add_unfolded.ensures.grown
