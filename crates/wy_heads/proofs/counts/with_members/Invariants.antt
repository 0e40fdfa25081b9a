use Rattle.std.proofs.Common.{◌≡◌, ◌+◌, ◌≤◌, drop}
use Rattle.wy_heads.specs.Counts.{signature_count, member_params}
use Rattle.wy_heads.specs.Most.{greatest}
use Rattle.wy_heads.proofs.counts.with_members.Given as goal

abbrev pub invariant-loop-member : goal.invariant-loop-member
invariant-loop-member l = record {
  methods : l.methods + signature_count (drop l.member-index l.members) ≡ signature_count l.members;
  parameters : greatest l.parameters (member_params (drop l.member-index l.members)) ≡ greatest l.initial.parameters (member_params l.members);
  few_methods : l.methods ≤ l.member-index;
}
