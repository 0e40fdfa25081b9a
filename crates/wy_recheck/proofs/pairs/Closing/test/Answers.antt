use Rattle.std.proofs.Common.{◌≡◌, List, true, false, get_or, refl, arith}
use Rattle.wy_text.proofs.Lists.{each_more, each_all}
use Rattle.wy_types.specs.Program.{program_of}
use Rattle.wy_cert.specs.declared.certificate.CertPair.{CertPair}
use Rattle.wy_recheck.specs.Closing.{PairStandsIn}
use Rattle.wy_recheck.proofs.Firsts.{first_without}
use Rattle.wy_recheck.proofs.Telling.{not_told}
use Rattle.wy_recheck.proofs.pairs.Closing.test.Goals as goal

pub loop-i-init : goal.loop-i-init
loop-i-init g c = record { stand = λ listed st q i. absurd i; steps = omega arith }

pub returns-in_err-stands-clause-steps : goal.returns-in_err-stands-clause-steps
returns-in_err-stands-clause-steps g c = omega (arith, c.stands.ensures.steps, c.loop-i.invariant.steps, c.loop-i-test.true)

pub returns-then-not-branch-clause-first : goal.returns-then-not-branch-clause-first
returns-then-not-branch-clause-first g c = λ listed st.
    let p = program_of c.args.self.now.core.now in
    let k = c.args.self.now.scope in
    let mode = c.args.self.now.mode in
    let types = c.args.self.now.types.now in
    let qs : List CertPair = c.args.pairs.now in
    let d : CertPair = record { left = 0; right = 0 } in
    let x : CertPair = get_or qs c.loop-i.i d in
    let f : c.in_ok-stands.field-0 ≡ false = c.if-not-branch.true in
    first_without (λ q. PairStandsIn p k mode types q listed) qs c.loop-i.i d x c.loop-i-test.true refl (c.loop-i.invariant.stand listed st)
    (not_told c.args.self.now.listed.now (PairStandsIn p k mode types x) c.in_ok-stands.field-0 f c.in_ok-stands.ensures.stands listed st)

pub returns-then-not-branch-clause-steps : goal.returns-then-not-branch-clause-steps
returns-then-not-branch-clause-steps g c = omega (arith, c.stands.ensures.steps, c.loop-i.invariant.steps, c.loop-i-test.true)

pub loop-i-preserved : goal.loop-i-preserved
loop-i-preserved g c = record {
  stand = λ listed st.
      let p = program_of c.args.self.now.core.now in
      let qs : List CertPair = c.args.pairs.now in
      let d : CertPair = record { left = 0; right = 0 } in
      let P : CertPair → Type 0 = λ q. PairStandsIn p c.args.self.now.scope c.args.self.now.mode c.args.self.now.types.now q listed in
      let t : c.in_ok-stands.field-0 ≡ true = c.if-not-branch.false in
      each_more P qs c.loop-i.i d c.loop-i-test.true (c.loop-i.invariant.stand listed st) ((c.in_ok-stands.ensures.stands listed st).0 t);
  steps = omega (arith, c.stands.ensures.steps, c.loop-i.invariant.steps);
}

pub returns-clause-stand : goal.returns-clause-stand
returns-clause-stand g c = λ listed st.
    let P : CertPair → Type 0 = λ q. PairStandsIn (program_of c.args.self.now.core.now) c.args.self.now.scope c.args.self.now.mode c.args.self.now.types.now q listed in
    each_all P c.args.pairs.now c.loop-i.i c.loop-i-test.false (c.loop-i.invariant.stand listed st)

pub returns-clause-steps : goal.returns-clause-steps
returns-clause-steps g c = omega (arith, c.loop-i.invariant.steps)
