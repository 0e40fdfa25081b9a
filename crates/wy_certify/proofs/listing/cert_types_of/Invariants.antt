use Rattle.std.proofs.Common.{◌≡◌, take, map}
use Rattle.wy_proving.specs.Written.{cert_type}
use Rattle.wy_certify.proofs.listing.cert_types_of.Given as goal

abbrev pub invariant-loop-typ : goal.invariant-loop-typ
invariant-loop-typ l = l.listed ≡ map cert_type (take l.typ-index l.types)
