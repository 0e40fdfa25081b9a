use Rattle.std.proofs.Common.{◌∙◌, ap, map, rules}
use Rattle.std.proofs.lemmas.Result.{IfOk-weaker}
use Rattle.wy_types.specs.Program.{program_of}
use Rattle.wy_types.specs.Types.{signature}
use Rattle.wy_types.proofs.Arities.{few_parameters}
use Rattle.wy_subtype.proofs.Asking.{is_unfolded}
use Rattle.wy_subtype.proofs.unfolding.test_pair.Goals as goal

pub meet_all-requires : goal.meet_all-requires
meet_all-requires c = record {
  core = c.requires.core;
  few = few_parameters (program_of c.args.core.now) c.requires.core c.args.scope c.args.right.now c.as_slice-2.result.now (ap (map signature) c.as_slice-2.ensures.value ∙ c.in_ok-rights.ensures);
}

pub returns : goal.returns
returns c =
    let program = program_of c.args.core.now in
    let lefts = ap (map signature) c.as_slice.ensures.value ∙ c.in_ok-lefts.ensures in
    let rights = ap (map signature) c.as_slice-2.ensures.value ∙ c.in_ok-rights.ensures in
    IfOk-weaker c.meet_all.result _ _
    (is_unfolded program c.args.scope c.args.mode c.args.left.now c.args.right.now (c.if-not-is_object.ensures.0 (search rules)) (c.if-not-is_object-2.ensures.0 (search rules)) _ _ lefts rights)
    c.meet_all.ensures
