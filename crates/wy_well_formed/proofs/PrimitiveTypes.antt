-- The primitive types are declarations that fit.
use Rattle.std.proofs.Common.{◌≡◌, ℕ, zero, suc, ◌<◌, ◌≤◌, List, [], ◌∷◌, ◌++◌, map, length, Bool, true, false, None, inl, inr, refl, sym, ◌∙◌, subst, arith}
use Rattle.std.specs.Prelude.{not, ◌&&◌, replicate}
use Rattle.std.proofs.lemmas.List.{length-replicate, append-nil}
use Rattle.wy_text.specs.Members.{In, Apart}
use Rattle.wy_effects.specs.EffSet.{IsSet}
use Rattle.wy_text.proofs.Lists.{In-cases}
use Rattle.wy_types.specs.declared.types.TypeRef.{TypeRef}
use Rattle.wy_types.specs.declared.types.TypeRef.TheVariants.{Int, Bool as Truth, Text, Unit as Nothing, Named, At, Own}
use Rattle.wy_types.specs.declared.types.Method.{Method}
use Rattle.wy_types.specs.declared.resolved.TypeDecl.{TypeDecl}
use Rattle.wy_types.specs.Program.{Program}
use Rattle.wy_types.specs.Signature.{Signature}
use Rattle.wy_types.specs.Types.{signature}
use Rattle.wy_types.specs.Fitting.{FitsType, FitsSignature}
use Rattle.wy_types.specs.Core.{HasSets, DeclarationFits}
use Rattle.wy_types.specs.Primitive.{primitive_method, primitive_type, primitive_types, console, folder, clock, random, full_folder}
use Rattle.wy_symbols.specs.Declarations.{has_name}
use Rattle.wy_symbols.specs.Atoms.{primitive_names}
use Rattle.wy_well_formed.proofs.Repeats.{has_name_there}
use Rattle.wy_well_formed.proofs.BoundLists.{from_fits, none_from}

-- whether names differ
differ : List (List ℕ) → Bool
differ [] = true
differ (x ∷ xs) = not (has_name x xs) && differ xs

differ_apart : (xs : List (List ℕ)) → differ xs ≡ true → Apart xs
unfolding differ
differ_apart [] h = tt
differ_apart (x ∷ xs) h =
    let P : Bool → Type 0 = λ b. has_name x xs ≡ b → not b && differ xs ≡ true → Apart (x ∷ xs) in
    (elim (has_name x xs) as P [
      | true ↦ λ e g. cc
      | false ↦ λ e g. ((λ i. let t : true ≡ false = sym (has_name_there x xs i) ∙ e in cc), differ_apart xs g)
    ]) refl h

-- base types
IsBase : TypeRef → Type 0
IsBase Int = Unit {0}
IsBase Truth = Unit {0}
IsBase Text = Unit {0}
IsBase Nothing = Unit {0}
IsBase (Named d members) = ⊥
IsBase (At d bound) = ⊥
IsBase (Own l) = ⊥

base_fits : (p : Program) (n : ℕ) (t : TypeRef) → IsBase t → FitsType p n 0 t × HasSets p false t
unfolding IsBase
base_fits p n Int b = (tt, tt)
base_fits p n Truth b = (tt, tt)
base_fits p n Text b = (tt, tt)
base_fits p n Nothing b = (tt, tt)
base_fits p n (Named d members) b = absurd b
base_fits p n (At d bound) b = absurd b
base_fits p n (Own l) b = absurd b

-- a signature of base types
record IsSimple (n : ℕ) (m : Signature TypeRef) : Type 0 where
  params : (t : TypeRef) → In t m.params → IsBase t
  few : length m.params ≤ 16
  effect : IsSet n m.effect
  result : IsBase m.result

texts_base : (k : ℕ) (t : TypeRef) → In t (replicate k Text) → IsBase t
unfolding IsBase
texts_base zero t i = absurd i
texts_base (suc k) t (inl e) = subst IsBase e tt
texts_base (suc k) t (inr i) = texts_base k t i

primitive_simple : (n : ℕ) (name : List ℕ) (texts member : ℕ) (result : TypeRef) → texts ≤ 16 → member < n → IsBase result → IsSimple n (signature (primitive_method name texts member result))
primitive_simple n name texts member result few lt base = record {
  params = texts_base texts;
  few = let l = length-replicate texts Text in omega (arith, l);
  effect = (omega arith, lt, tt);
  result = base;
}

abbrev AllSimple : ℕ → List Method → Type 0
AllSimple n [] = Unit {0}
AllSimple n (m ∷ ms) = IsSimple n (signature m) × AllSimple n ms

each_simple : (n : ℕ) (ms : List Method) → AllSimple n ms → (m : Signature TypeRef) → In m (map signature ms) → IsSimple n m
each_simple n [] h m i = absurd i
each_simple n (k ∷ ms) h m (inl e) = let P : Signature TypeRef → Type 0 = λ v. IsSimple n v in subst P e h.0
each_simple n (k ∷ ms) h m (inr i) = each_simple n ms h.1 m i

simple_written : (p : Program) (n : ℕ) (m : Signature TypeRef) → IsSimple n m → FitsSignature p n 0 m × ((t : TypeRef) → In t (m.params ++ m.result ∷ []) → HasSets p false t)
simple_written p n m s = (
  record { params = λ t i. (base_fits p n t (s.params t i)).0; effect = s.effect; result = (base_fits p n m.result s.result).0 },
  λ t i. elim (In-cases t m.params (m.result ∷ []) i) [
    | inl j ↦ (base_fits p n t (s.params t j)).1
    | inr j ↦ elim j [ inl e ↦ (let P : TypeRef → Type 0 = λ v. HasSets p false v in subst P e ((base_fits p n m.result s.result).1)) | inr l ↦ absurd l ]
  ],
)

primitive_type_fits : (p : Program) (name : List ℕ) (members : List (List ℕ)) (methods : List Method) →
    differ members ≡ true → differ (map (λ (m : Signature TypeRef). m.name) (map signature methods)) ≡ true →
    length members ≤ 512 → length methods ≤ 128 → AllSimple (length members) methods → DeclarationFits p (primitive_type name members methods)
primitive_type_fits p name members methods ms ns few_members few_methods simple = record {
  written = λ m i. simple_written p (length members) m (each_simple (length members) methods simple m i);
  defined = λ m i. absurd i;
  bounds = from_fits (length members) (replicate (length members) None) (length-replicate (length members) None) (none_from 0 (length members));
  member_names = let P : List (List ℕ) → Type 0 = λ l. Apart l in subst P (sym (append-nil members)) (differ_apart members ms);
  method_names = differ_apart (map (λ (m : Signature TypeRef). m.name) (map signature methods)) ns;
  few_members = few_members;
  few_methods = few_methods;
  few_parameters = λ m i. (each_simple (length members) methods simple m i).few;
}

console_fits : (p : Program) → DeclarationFits p console
unfolding differ IsBase
console_fits p =
    primitive_type_fits p console.name console.members console.methods refl refl (omega arith) (omega arith)
    (primitive_simple 2 _ 0 0 Text (omega arith) (omega arith) tt, (primitive_simple 2 _ 1 1 Nothing (omega arith) (omega arith) tt, tt))

folder_fits : (p : Program) → DeclarationFits p folder
unfolding differ IsBase
folder_fits p =
    primitive_type_fits p folder.name folder.members folder.methods refl refl (omega arith) (omega arith) (
      primitive_simple 4 _ 1 0 Text (omega arith) (omega arith) tt,
      (
        primitive_simple 4 _ 1 0 Truth (omega arith) (omega arith) tt,
        (
          primitive_simple 4 _ 2 1 Nothing (omega arith) (omega arith) tt,
          (
            primitive_simple 4 _ 2 2 Nothing (omega arith) (omega arith) tt,
            (primitive_simple 4 _ 0 3 Text (omega arith) (omega arith) tt, tt),
          ),
        ),
      ),
    )

clock_fits : (p : Program) → DeclarationFits p clock
unfolding differ IsBase
clock_fits p =
    primitive_type_fits p clock.name clock.members clock.methods refl refl (omega arith) (omega arith) (primitive_simple 1 _ 0 0 Int (omega arith) (omega arith) tt, tt)

random_fits : (p : Program) → DeclarationFits p random
unfolding differ IsBase
random_fits p =
    primitive_type_fits p random.name random.members random.methods refl refl (omega arith) (omega arith) (primitive_simple 1 _ 0 0 Int (omega arith) (omega arith) tt, tt)

full_folder_fits : (p : Program) → DeclarationFits p full_folder
unfolding differ IsBase
full_folder_fits p =
    primitive_type_fits p full_folder.name full_folder.members full_folder.methods refl refl (omega arith) (omega arith) (
      primitive_simple 5 _ 1 0 Text (omega arith) (omega arith) tt,
      (
        primitive_simple 5 _ 1 0 Truth (omega arith) (omega arith) tt,
        (
          primitive_simple 5 _ 2 1 Nothing (omega arith) (omega arith) tt,
          (
            primitive_simple 5 _ 2 2 Nothing (omega arith) (omega arith) tt,
            (
              primitive_simple 5 _ 0 3 Text (omega arith) (omega arith) tt,
              (primitive_simple 5 _ 1 4 Nothing (omega arith) (omega arith) tt, tt),
            ),
          ),
        ),
      ),
    )

pub primitive_fits : (p : Program) (d : TypeDecl) → In d primitive_types → DeclarationFits p d
primitive_fits p d i =
    let P : TypeDecl → Type 0 = λ v. DeclarationFits p v in
    elim i [
      | inl e ↦ subst P e (console_fits p)
      | inr j ↦ elim j [
        | inl e ↦ subst P e (folder_fits p)
        | inr k ↦ elim k [
          | inl e ↦ subst P e (clock_fits p)
          | inr l ↦ elim l [
            | inl e ↦ subst P e (random_fits p)
            | inr m ↦ elim m [ inl e ↦ subst P e (full_folder_fits p) | inr x ↦ absurd x ]
          ]
        ]
      ]
    ]

-- their names differ
pub primitive_names_apart : Apart primitive_names
unfolding differ
primitive_names_apart = differ_apart primitive_names refl
