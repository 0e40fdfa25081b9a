-- Grants have the methods of the language's primitive types.
use Rattle.std.proofs.Common.{◌≡◌, ℕ, map, refl, Option, Some}
use Rattle.wy_device.specs.declared.primitive.Primitive.{Primitive}
use Rattle.wy_device.specs.declared.primitive.Primitive.TheVariants as primitive
use Rattle.wy_device.specs.Operation.{method_text}
use Rattle.wy_device.specs.Primitives.{operations_of}
use Rattle.wy_types.specs.Primitive.{clock, console, folder, full_folder, random}
use Rattle.wy_types.specs.declared.resolved.TypeDecl.{TypeDecl}
use Rattle.wy_types.specs.declared.types.Method.{Method}
use Rattle.wy_types.specs.declared.types.TypeRef.{TypeRef}
use Rattle.wy_types.specs.declared.types.TypeRef.TheVariants as written
use Rattle.wy_image.specs.declared.typing.Atom.{Atom}
use Rattle.wy_verified.specs.Kinds.{Ints, Kind, MethodType, Texts, Truths, Units, operation_method}

abbrev type_of : Primitive → TypeDecl
type_of primitive.Console = console
type_of primitive.Folder = folder
type_of primitive.Clock = clock
type_of primitive.Random = random
type_of primitive.FullFolder = full_folder

-- a base type of the language as a type of a run; no other occurs in a primitive type
abbrev kind_of : TypeRef → Kind
kind_of written.Int = Ints
kind_of written.Bool = Truths
kind_of written.Text = Texts
kind_of t = Units

abbrev own_atom : ℕ → ℕ → Atom
own_atom g member = record { grant = g; member = member }

-- a method of a grant by the number of the grant
abbrev of_grant : ℕ → Method → Option MethodType
of_grant g m =
    Some (record { params = map kind_of m.params; effect = map (own_atom g) m.effect; result = kind_of m.result })

pub same_names : (p : Primitive) → map method_text (operations_of p) ≡ map (λ (m : Method). m.name) (type_of p).methods
same_names primitive.Console = refl
same_names primitive.Folder = refl
same_names primitive.Clock = refl
same_names primitive.Random = refl
same_names primitive.FullFolder = refl

pub same_methods : (g : ℕ) (p : Primitive)
    → map (λ o. operation_method g (Some o)) (operations_of p) ≡ map (of_grant g) (type_of p).methods
same_methods g primitive.Console = refl
same_methods g primitive.Folder = refl
same_methods g primitive.Clock = refl
same_methods g primitive.Random = refl
same_methods g primitive.FullFolder = refl
