-- The tables of operations, worked out.
use Rattle.std.proofs.Common.{codes, ◌≡◌, [], ◌∷◌, map, refl}
use Rattle.wy_device.specs.declared.operation.OpName.{OpName}
use Rattle.wy_device.specs.declared.primitive.Primitive.{Primitive}
use Rattle.wy_device.specs.declared.primitive.Primitive.TheVariants.{FullFolder}
use Rattle.wy_device.specs.Editions.{current}
use Rattle.wy_device.specs.Operation.{kind_named, method_text}
use Rattle.wy_device.specs.Primitives.{kind_of_primitive, operations_of}

-- each operation of a primitive type asks a device of the type's kind
operations_are_the_devices : map (λ (t : Primitive). map kind_named (operations_of t)) current.primitives
    ≡ map (λ (t : Primitive). map (λ (o : OpName). kind_of_primitive t) (operations_of t)) current.primitives
operations_are_the_devices = refl

-- a full folder has the methods of a folder, and then `remove`
full_folder_has_more : map method_text (operations_of FullFolder)
    ≡ codes "read" ∷ codes "has" ∷ codes "write" ∷ codes "append" ∷ codes "names" ∷ codes "remove" ∷ []
full_folder_has_more = refl
