-- What the two readings of a scope have in common: types and effects are read as they are written.
use Rattle.std.proofs.Common.{◌≡◌, ℕ, List, [], ◌∷◌, refl, sym, ◌∙◌, ap, Some, Bool as Truth, true, false, map}
use Rattle.std.specs.Prelude.{bytes_eq, if◌then◌else◌}
use Rattle.std.specs.Option.{option_map}
use Rattle.wy_types.specs.declared.types.TypeRef.{TypeRef}
use Rattle.wy_types.specs.Program.{Program}
use Rattle.wy_types.specs.Signature.{Signature, mapped_signature, find_method}
use Rattle.wy_types.specs.Types.{IsObject, methods_of}
use Rattle.wy_rules.specs.Acceptance.{reading_of}

------------------------------------------------------------
-- Lists and signatures that are mapped

map_same : (ts : List TypeRef) → map (λ t. t) ts ≡ ts
map_same [] = refl
map_same (t ∷ ts) = ap (λ v. t ∷ v) (map_same ts)

signature_same : (m : Signature TypeRef) → mapped_signature (λ t. t) (λ e. e) m ≡ m
signature_same m = ap (λ v. record { name = m.name; params = v; effect = m.effect; result = m.result }) (map_same m.params)

signatures_same : (ms : List (Signature TypeRef)) → map (mapped_signature (λ t. t) (λ e. e)) ms ≡ ms
signatures_same [] = refl
signatures_same (m ∷ ms) = ap (λ v. mapped_signature (λ t. t) (λ e. e) m ∷ v) (signatures_same ms) ∙ ap (λ v. v ∷ ms) (signature_same m)

-- the first method of a name among signatures that are read
pub find_mapped : {K L : Type 0} (kind : K → L) (effect : List ℕ → List ℕ) (name : List ℕ) (ms : List (Signature K)) →
    find_method name (map (mapped_signature kind effect) ms) ≡ option_map (mapped_signature kind effect) (find_method name ms)
find_mapped kind effect name [] = refl
find_mapped kind effect name (m ∷ ms) =
    elim (bytes_eq m.name name) as (λ b.
    (if b then Some (mapped_signature kind effect m) else find_method name (map (mapped_signature kind effect) ms)) ≡
    option_map (mapped_signature kind effect) (if b then Some m else find_method name ms)) [
      | true ↦ refl
      | false ↦ find_mapped kind effect name ms
    ]

------------------------------------------------------------
-- What is read

module _ (p : Program) (k : ℕ) where
  -- a signature whose types are read
  abbrev pub read_signature : (plain : Truth) → Signature TypeRef → Signature (reading_of p k plain).Kind
  read_signature plain = mapped_signature (reading_of p k plain).read (λ e. e)

  pub object_read : (plain : Truth) (t : TypeRef) → IsObject t → (reading_of p k plain).IsObject ((reading_of p k plain).read t)
  object_read true t o = o
  object_read false t o = o

  pub read_object : (plain : Truth) (t : TypeRef) → (reading_of p k plain).IsObject ((reading_of p k plain).read t) → IsObject t
  read_object true t o = o
  read_object false t o = o

  pub read_loses_nothing : (plain : Truth) (t u : TypeRef) → ◌≡◌ {A = (reading_of p k plain).Kind} ((reading_of p k plain).read t) ((reading_of p k plain).read u) → t ≡ u
  read_loses_nothing true t u e = e
  read_loses_nothing false t u e = e

  pub effect_read : (plain : Truth) (e : List ℕ) → (reading_of p k plain).effect e ≡ e
  effect_read true e = refl
  effect_read false e = refl

  -- in a plain module every effect may stand for every other
  pub plain_includes : (e f : List ℕ) → (reading_of p k true).Includes e f
  plain_includes e f = tt

  pub methods_read : (plain : Truth) (t : TypeRef) → (reading_of p k plain).methods ((reading_of p k plain).read t) ≡ map (read_signature plain) (methods_of p k t)
  methods_read true t = sym (signatures_same (methods_of p k t))
  methods_read false t = sym (signatures_same (methods_of p k t))

  pub find_read : (plain : Truth) (name : List ℕ) (t : TypeRef) →
      find_method name ((reading_of p k plain).methods ((reading_of p k plain).read t)) ≡ option_map (read_signature plain) (find_method name (methods_of p k t))
  find_read plain name t = ap (find_method name) (methods_read plain t) ∙ find_mapped (reading_of p k plain).read (λ e. e) name (methods_of p k t)
