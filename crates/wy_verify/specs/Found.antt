-- A method as it is found.
use Rattle.std.specs.Prelude.{◌≡◌, ℕ, ◌<◌, List, ◌∷◌, [], replicate}
use Rattle.wy_text.specs.Members.{In}
use Rattle.wy_image.specs.declared.typing.Atom.{Atom}
use Rattle.wy_image.specs.declared.typing.Reference.{Reference}
use Rattle.wy_image.specs.declared.typing.Reference.TheVariants as written
use Rattle.wy_verified.specs.declared.known.Kind.TheVariants.{Texts}
use Rattle.wy_verified.specs.Kinds.{MethodType, kinds_in, kind_in, signature_method, text_count, answer_kind, member_number}
use Rattle.wy_verify.specs.Effects.{effect_numbers, AreSmall}
use Rattle.wy_verify.specs.declared.methods.Found.{Found}
use Rattle.wy_verify.specs.declared.methods.Found.TheVariants.{Listed, Stated, Operation}

-- the method that was found
abbrev pub method_found : Found → MethodType
method_found (Listed s set) = signature_method 0 s.now
method_found (Stated x b set) = record { params = kinds_in x b.now.parameters; effect = b.now.effect; result = kind_in x b.now.result }
method_found (Operation g o) = record {
  params = replicate (text_count o) Texts;
  effect = (let own : Atom = record { grant = g; member = member_number o } in own ∷ []);
  result = answer_kind o;
}

-- the type names no literal
abbrev pub NoLiteral : Reference → Type 0
NoLiteral (written.Literal l) = ⊥
NoLiteral r = Unit {0}

-- .. and none of these does
abbrev pub NoLiterals : List Reference → Type 0
NoLiterals rs = (r : Reference) → In r rs → NoLiteral r

-- the types are plain, the atoms are small, and this is their set
pub record IsReady (parameters : List Reference) (effect : List Atom) (result : Reference) (set : List ℕ) : Type 0 where
  pub numbers : set ≡ effect_numbers effect
  pub small : AreSmall effect
  pub plain : NoLiterals parameters
  pub answers : NoLiteral result

-- it has the set of its effect, and plain types
abbrev pub IsReadyFound : Found → Type 0
IsReadyFound (Listed s set) = IsReady s.now.parameters s.now.effect s.now.result set.now
IsReadyFound (Stated x b set) = IsReady b.now.parameters b.now.effect b.now.result set.now
IsReadyFound (Operation g o) = g < 64
