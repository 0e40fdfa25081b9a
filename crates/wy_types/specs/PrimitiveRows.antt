-- The rows of which the primitive types are made.

use Rattle.wy_types.specs.declared.types.TypeRef.{TypeRef}
use Rattle.wy_types.specs.declared.types.TypeRef.TheVariants.{Int, Bool, Text, Unit as Nothing}
use Rattle.wy_types.specs.declared.primitive.Base.{Base}
use Rattle.wy_types.specs.declared.primitive.Base.TheVariants as base
use Rattle.wy_types.specs.declared.primitive.MethodRow.{MethodRow}
use Rattle.wy_types.specs.declared.types.Method.{Method}
use Rattle.wy_types.specs.Primitive.{primitive_method}

abbrev pub base_type : Base → TypeRef
base_type base.Int = Int
base_type base.Bool = Bool
base_type base.Text = Text
base_type base.Unit = Nothing

abbrev pub row_method : MethodRow → Method
row_method row = primitive_method row.0.now row.1 row.2 (base_type row.3)
