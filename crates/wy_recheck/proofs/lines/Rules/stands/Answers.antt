use Rattle.wy_recheck.proofs.lines.Rules.stands.Goals as goal

pub returns-in-InstanceOf : goal.returns-in-InstanceOf
returns-in-InstanceOf c = rw c.in-InstanceOf.is c.instance_stands.ensures

pub returns-in-BoundOf : goal.returns-in-BoundOf
returns-in-BoundOf c = rw c.in-BoundOf.is c.bound_stands.ensures
