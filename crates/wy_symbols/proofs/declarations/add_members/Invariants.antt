use Rattle.std.proofs.Common.{◌≡◌, ◌≤◌, ◌++◌, [], drop}
use Rattle.wy_symbols.specs.Least.{noted}
use Rattle.wy_symbols.specs.TypeUses.{declared_methods, members_refusals}
use Rattle.wy_symbols.proofs.declarations.add_members.Given as goal

abbrev pub invariant-loop-member : goal.invariant-loop-member
invariant-loop-member l = record {
  number : l.number ≤ l.member-index;
  methods : l.methods ++ declared_methods l.scope (drop l.member-index l.members) ≡ l.initial.methods ++ declared_methods l.scope l.members;
  least : noted l.least (members_refusals l.scope l.before l.number (drop l.member-index l.members)) ≡ noted l.initial.least (members_refusals l.scope [] 0 l.members);
}
