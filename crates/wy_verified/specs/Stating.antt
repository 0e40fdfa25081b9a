-- What a typed body has: states, each perhaps less than what is known there, and at targets what they state. Lowering
-- gives such states, with the types of a derivation; the walk finds states that know as much or more.
use Rattle.std.specs.Prelude.{◌≡◌, ◌≢◌, ℕ, suc, ◌+◌, ◌≤◌, List, [], length, Some, slice_get}
use Rattle.wy_code.specs.declared.code.Body.{Body}
use Rattle.wy_code.specs.declared.instruction.Placed.{Placed}
use Rattle.wy_image.specs.declared.typing.Bounds.{Bounds}
use Rattle.wy_image.specs.declared.typing.Target.{Target}
use Rattle.wy_verified.specs.Images.{Image}
use Rattle.wy_verified.specs.Rules.{Known, Owner, at_first, Follows}
use Rattle.wy_verified.specs.Walking.{target_kinds, target_in, RangeOk, FlowOk}

-- a body has states, from which each instruction goes on
pub record BodyStates (image : Image) (x : ℕ) (owner : Owner) (body : Body) (bounds : Bounds) (held : ℕ) : Type 0 where
  pub name : body.name ≡ bounds.name
  pub parameters : length bounds.parameters ≡ body.parameters
  pub vals : body.vals ≤ length bounds.vals
  pub some : body.instructions ≢ []
  pub states : List Known
  pub long : length states ≡ length body.instructions
  pub first : slice_get states 0 ≡ Some at_first
  pub deep : (at : ℕ) (known : Known) → slice_get states at ≡ Some known →
      suc (body.parameters + body.vals) + length known.operands ≤ body.slots
  pub targets :
      (at : ℕ) (known : Known) (t : Target) → slice_get states at ≡ Some known → target_in at bounds.targets ≡ Some t →
      (known.operands ≡ target_kinds x t) × (known.stored ≡ t.stored)
  pub each : (at : ℕ) (placed : Placed) (known : Known) → slice_get body.instructions at ≡ Some placed →
      slice_get states at ≡ Some known →
      RangeOk image x owner body bounds held placed.instruction × FlowOk image x owner body bounds held at
      placed.instruction × Follows image x owner body bounds held states at known placed.instruction
