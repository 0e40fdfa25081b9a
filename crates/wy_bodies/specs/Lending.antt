-- A scope as its bodies see it, lent by the code.
use Rattle.wy_bodies.specs.declared.bodies.Within as bodies
use Rattle.wy_bodies.specs.Bodies.{Within}

abbrev pub lent_within : bodies.Within → Within
lent_within w = record { atoms = w.atoms.now; plain = w.plain; own = w.own.now }
