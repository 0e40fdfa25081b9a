use Rattle.std.proofs.Common.{take}
use Rattle.wy_image.specs.declared.file.Scope.{Scope}
use Rattle.wy_text.specs.Members.{In}
use Rattle.wy_verified.specs.Ranges.{ScopeInRange}
use Rattle.wy_verify.proofs.ranges.scopes.are_scopes.Given as goal

abbrev pub invariant-loop-scope : goal.invariant-loop-scope
invariant-loop-scope l = (x : Scope) → In x (take l.scope-index l.scopes) → ScopeInRange l.file x
