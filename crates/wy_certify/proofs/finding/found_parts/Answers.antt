use Rattle.std.proofs.Common.{◌≡◌, ℕ, ◌+◌, List, ◌++◌, ◌∷◌, [], length, sym, ap, ◌∙◌, subst, arith, Some}
use Rattle.std.specs.Prelude.{slice_get}
use Rattle.std.proofs.Math.ListN.{length-map}
use Rattle.wy_types.specs.Program.{Scope, program_of, scope_of}
use Rattle.wy_certify.specs.declared.finding.ScopePart.{ScopePart}
use Rattle.wy_certify.specs.Parts.{IsFound}
use Rattle.wy_certify.proofs.PartsPushed.{one_longer, each_pushed}
use Rattle.wy_certify.proofs.finding.found_parts.Goals as goal

pub loop-number-preserved : goal.loop-number-preserved
loop-number-preserved c =
    let p = program_of c.args.core.now in
    let n = c.loop-number.number in
    let old : List ScopePart = c.loop-number.parts in
    let part : ScopePart = c.in_ok-found_part.field-0 in
    let pushed : c.push.new.self ≡ old ++ part ∷ [] = c.in_ok-push.ensures.ok in
    let P : ℕ → ScopePart → Type 0 = λ k v. (s : Scope) → slice_get p.scopes k ≡ Some s → IsFound p k s v in
    let last : P (length old) part = subst (λ k. P k part) (sym c.loop-number.invariant.so_many) c.in_ok-found_part.ensures in
    let each = each_pushed P old part (λ k v e s at. c.loop-number.invariant.each k s v at e) last in
    let Q : List ScopePart → Type 0 = λ l. (k : ℕ) (v : ScopePart) → slice_get l k ≡ Some v → P k v in
    let all = subst Q (sym pushed) each in
    record {
      so_many = ap length pushed ∙ one_longer old part ∙ ap (λ k. k + 1) c.loop-number.invariant.so_many;
      each = λ k s v at e. all k v e s at;
    }

pub returns : goal.returns
returns c =
    let scopes = c.args.core.now.scopes in
    let all : c.loop-number.number ≡ length scopes = omega (arith, c.loop-number-test.false, c.loop-number.auto.number-end, c.len-number-end.ensures) in
    record {
      number = c.loop-number.invariant.so_many ∙ all ∙ sym (length-map scopes scope_of);
      each = λ k s v at e. c.loop-number.invariant.each k s v at e;
    }
