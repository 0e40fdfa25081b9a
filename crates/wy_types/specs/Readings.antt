-- Types, effects and signatures as a reading has them.
use Rattle.std.specs.Prelude.{ℕ, List, []}
use Rattle.wy_effects.specs.EffSet.{replace}
use Rattle.wy_types.specs.declared.types.TypeRef.{TypeRef}
use Rattle.wy_types.specs.declared.reading.Reading.{Reading}
use Rattle.wy_types.specs.declared.reading.Reading.TheVariants.{Same, Replaced, Bare, Bound}
use Rattle.wy_types.specs.Signature.{Signature, mapped_signature}
use Rattle.wy_types.specs.Types.{substituted, annotated, erased}

abbrev pub type_read : Reading → TypeRef → TypeRef
type_read Same = λ t. t
type_read (Replaced by) = substituted by.now
type_read Bare = erased
type_read (Bound bound) = annotated bound.now

abbrev pub effect_read : Reading → List ℕ → List ℕ
effect_read Same = λ e. e
effect_read (Replaced by) = replace by.now
effect_read Bare = λ e. []
effect_read (Bound bound) = λ e. bound.now

abbrev pub signature_read : Reading → Signature TypeRef → Signature TypeRef
signature_read reading = mapped_signature (type_read reading) (effect_read reading)
