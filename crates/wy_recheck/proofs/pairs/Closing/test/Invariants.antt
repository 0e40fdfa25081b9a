use Rattle.std.proofs.Common.{◌+◌, ◌≤◌, List, take}
use Rattle.wy_text.specs.Members.{In}
use Rattle.wy_types.specs.Program.{program_of}
use Rattle.wy_cert.specs.declared.certificate.CertPair.{CertPair}
use Rattle.wy_proving.specs.Certified.{Pair}
use Rattle.wy_recheck.specs.PairSet.{StandsFor}
use Rattle.wy_recheck.specs.Closing.{PairStandsIn}
use Rattle.wy_recheck.proofs.pairs.Closing.test.Given as goal

abbrev pub invariant-loop-i : goal.invariant-loop-i
invariant-loop-i g l = record {
  stand : (listed : List Pair) → StandsFor l.self.listed.now listed → (q : CertPair) → In q (take l.i l.pairs) → PairStandsIn (program_of l.self.core.now) l.self.scope l.self.mode l.self.types.now q listed;
  steps : l.steps ≤ l.fn.steps + l.i;
}
