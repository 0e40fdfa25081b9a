-- Which types a derivation names and a scope reaches, and two programs that differ in one declared type: to that of ExamplesLogger they add
--
--  6  type Extra
--  7    def more(): {} Int
--
-- and
--
--  6  type Extra
--  7    def less(t: String): {} Unit
use Rattle.std.proofs.Common.{◌≡◌, ℕ, zero, suc, ◌+◌, List, [], ◌∷◌, ◌++◌, map, length, inl, inr, refl, sym, subst, Some, Bool as Truth, true, false, arith}
use Rattle.std.specs.Prelude.{codes, slice_get, nat_eq, not}
use Rattle.std.proofs.lemmas.Bool.{eqb-true, eq-eqb}
use Rattle.wy_text.specs.Members.{In}
use Rattle.wy_text.proofs.Lists.{In-left, In-right}
use Rattle.wy_types.specs.declared.types.TypeRef.{TypeRef}
use Rattle.wy_types.specs.declared.types.TypeRef.TheVariants.{Int, Bool, Text, Unit as Nothing, Named, At, Own}
use Rattle.wy_types.specs.declared.resolved.TypeDecl.{TypeDecl}
use Rattle.wy_types.specs.declared.resolved.OwnName.{OwnName}
use Rattle.wy_types.specs.Program.{Program, Body}
use Rattle.wy_types.specs.Signature.{Signature, signature_types}
use Rattle.wy_types.specs.Types.{signature}
use Rattle.wy_types.specs.Written.{block_types}
use Rattle.wy_types.specs.Reached.{own_types}
use Rattle.wy_rules.specs.Readings.{annotated_reading}
use Rattle.wy_rules.specs.Typing.{field_types}
use Rattle.wy_rules.specs.Canonical.{canonical_over, locals_of, both}
use Rattle.wy_rules.specs.Reached.{NamesScope, IsReached, of_name, of_argument}
use Rattle.wy_rules.specs.Transfer.{NamesNot, WritesNot, DiffersAt}
use Rattle.wy_rules.proofs.ExamplesLogger.{logger_type, logger_with, main_with, logger_program}
use Rattle.wy_rules.proofs.ExamplesPlug.{main_at}
use Rattle.wy_rules.proofs.SameTypes.{both_left, both_right}
use Rattle.wy_rules.proofs.Sources.{method, declaration, folder, program}
use Rattle.wy_rules.proofs.WithoutType.{reached_not}

abbrev logging : Program
logging = logger_program (2 ∷ []) (4 ∷ [])

------------------------------------------------------------
-- Named and reached types

-- of the logger's canonical derivation the folder is the one type that is named
logger_names : (P : TypeRef → Type 0) → P folder → NamesScope P (canonical_over logging 0 (logger_with (2 ∷ [])) (locals_of logging 0 (logger_with (2 ∷ []))))
logger_names P h = (tt, tt, ((tt, h, (tt, (tt, tt))), tt))

-- it is reached as the type of the module's parameter, and texts as what its methods take
folder_reached : IsReached (annotated_reading logging 0) (logger_with (2 ∷ [])) folder
folder_reached = of_name _ (inl refl)

text_reached : IsReached (annotated_reading logging 0) (logger_with (2 ∷ [])) Text
text_reached = of_argument folder folder_reached _ (inl refl) Text (inl refl)

-- a module has its own type, and the program those of its literals alone
logger_owns : own_types (logger_with (2 ∷ [])).kind (length (logger_with (2 ∷ [])).literals) ≡ Own 0 ∷ []
logger_owns = refl

plugged_owns : own_types (main_at (2 ∷ 4 ∷ [])).kind (length (main_at (2 ∷ 4 ∷ [])).literals) ≡ Own 1 ∷ []
plugged_owns = refl

------------------------------------------------------------
-- A test of what declarations name

abbrev is_not : ℕ → TypeRef → Truth
is_not i Int = true
is_not i Bool = true
is_not i Text = true
is_not i Nothing = true
is_not i (Named d es) = not (nat_eq d i)
is_not i (At d e) = not (nat_eq d i)
is_not i (Own l) = true

abbrev all_not : ℕ → List TypeRef → Truth
all_not i [] = true
all_not i (t ∷ ts) = both (is_not i t) (all_not i ts)

abbrev either : Truth → Truth → Truth
either true b = true
either false b = b

-- of the declarations from a number on, those of other numbers name no type of this one
abbrev declared_not : ℕ → ℕ → List TypeDecl → Truth
declared_not i k [] = true
declared_not i k (a ∷ ds) = both (either (nat_eq k i) (all_not i (signature_types (map signature a.methods)))) (declared_not i (k + 1) ds)

differs : (i d : ℕ) → not (nat_eq d i) ≡ true → d ≡ i → ⊥
differs i d h e = absurd (let g : not true ≡ true = subst (λ b. not b ≡ true) (eq-eqb d i e) h in cc)

type_not : (i : ℕ) (t : TypeRef) → is_not i t ≡ true → NamesNot i t
type_not i Int h = tt
type_not i Bool h = tt
type_not i Text h = tt
type_not i Nothing h = tt
type_not i (Named d es) h = differs i d h
type_not i (At d e) h = differs i d h
type_not i (Own l) h = tt

types_not : (i : ℕ) (ts : List TypeRef) → all_not i ts ≡ true → (t : TypeRef) → In t ts → NamesNot i t
types_not i [] h t j = absurd j
types_not i (u ∷ ts) h t (inl e) = subst (NamesNot i) e (type_not i u (both_left (is_not i u) (all_not i ts) h))
types_not i (u ∷ ts) h t (inr j) = types_not i ts (both_right (is_not i u) (all_not i ts) h) t j

in_signature : (ms : List (Signature TypeRef)) (m : Signature TypeRef) (t : TypeRef) → In m ms → In t (m.params ++ m.result ∷ []) → In t (signature_types ms)
in_signature [] m t i j = absurd i
in_signature (n ∷ ms) m t (inl e) j = In-left t (n.params ++ n.result ∷ []) (signature_types ms) (let P : Signature TypeRef → Type 0 = λ v. In t (v.params ++ v.result ∷ []) in subst P (sym e) j)
in_signature (n ∷ ms) m t (inr i) j = In-right t (n.params ++ n.result ∷ []) (signature_types ms) (in_signature ms m t i j)

some_same : (a b : TypeDecl) → Some a ≡ Some b → a ≡ b
some_same a b e = cc

here_not : (i k : ℕ) (b : Truth) (ts : List TypeRef) (t : TypeRef) → (k ≡ i → ⊥) → nat_eq k i ≡ b → either b (all_not i ts) ≡ true → In t ts → NamesNot i t
here_not i k true ts t n e h j = absurd (n (eqb-true k i e))
here_not i k false ts t n e h j = types_not i ts h t j

others_not : (i k : ℕ) (ds : List TypeDecl) → declared_not i k ds ≡ true → (d : ℕ) (a : TypeDecl) → (k + d ≡ i → ⊥) → slice_get ds d ≡ Some a → (m : Signature TypeRef) → In m (map signature a.methods) → (t : TypeRef) → In t (m.params ++ m.result ∷ []) → NamesNot i t
others_not i k [] h d a n e m j t l = absurd (cc)
others_not i k (b ∷ ds) h zero a n e m j t l =
    let j2 = let P : TypeDecl → Type 0 = λ v. In m (map signature v.methods) in subst P (sym (some_same b a e)) j in
    here_not i k (nat_eq k i) (signature_types (map signature b.methods)) t (λ q. n (omega (arith, q))) refl
    (both_left (either (nat_eq k i) (all_not i (signature_types (map signature b.methods)))) (declared_not i (k + 1) ds) h) (in_signature (map signature b.methods) m t j2 l)
others_not i k (b ∷ ds) h (suc d) a n e m j t l =
    others_not i (k + 1) ds (both_right (either (nat_eq k i) (all_not i (signature_types (map signature b.methods)))) (declared_not i (k + 1) ds) h) d a (λ q. n (omega (arith, q))) e m j t l

------------------------------------------------------------
-- Programs that differ in a type that the logger does not write

abbrev with_more : TypeDecl
with_more = declaration (codes "Extra") [] (method (codes "more") [] [] Int ∷ [])

abbrev with_less : TypeDecl
with_less = declaration (codes "Extra") [] (method (codes "less") (Text ∷ []) [] Nothing ∷ [])

abbrev logging_and : TypeDecl → Program
logging_and extra = program (logger_type ∷ extra ∷ []) (logger_with (2 ∷ []) ∷ main_with (4 ∷ []) ∷ [])

same_declarations : (d : ℕ) → (d ≡ 6 → ⊥) → slice_get (logging_and with_more).declarations d ≡ slice_get (logging_and with_less).declarations d
same_declarations zero n = refl
same_declarations (suc zero) n = refl
same_declarations (suc (suc zero)) n = refl
same_declarations (suc (suc (suc zero))) n = refl
same_declarations (suc (suc (suc (suc zero)))) n = refl
same_declarations (suc (suc (suc (suc (suc zero))))) n = refl
same_declarations (suc (suc (suc (suc (suc (suc zero)))))) n = absurd (n refl)
same_declarations (suc (suc (suc (suc (suc (suc (suc d))))))) n = refl

extras_differ : DiffersAt 6 (logging_and with_more) (logging_and with_less)
extras_differ = record {
  scopes = refl;
  declarations = same_declarations;
  named_not = λ d a n e m j t l. others_not 6 0 (logging_and with_more).declarations refl d a (λ q. n (omega (arith, q))) e m j t l;
}

no_fields : (l : ℕ) (t : TypeRef) → In t (field_types (logger_with (2 ∷ [])) l) → ⊥
no_fields zero t i = i
no_fields (suc l) t i = i

body_not : (t : TypeRef) → In t (Text ∷ []) → NamesNot 6 t
body_not t i = elim i [ inl e ↦ subst (NamesNot 6) e tt | inr z ↦ absurd z ]

logger_writes_not : WritesNot 6 (logger_with (2 ∷ []))
logger_writes_not = record {
  fields = λ l t i. absurd (no_fields l t i);
  params = λ b i t j. elim i [ inl e ↦ body_not t (let P : Body → Type 0 = λ v. In t v.signature.params in subst P (sym e) j) | inr z ↦ absurd z ];
  results = λ b i. elim i [ inl e ↦ (let P : Body → Type 0 = λ v. NamesNot 6 v.signature.result in subst P e tt) | inr z ↦ absurd z ];
  names = λ n i. elim i [ inl e ↦ (let P : OwnName → Type 0 = λ v. NamesNot 6 v.typ in subst P e (λ q. absurd (cc))) | inr z ↦ absurd z ];
  start = λ t i. absurd i;
  bodies = λ b i t j. elim i [ inl e ↦ absurd (let P : Body → Type 0 = λ v. In t (block_types v.block) in subst P (sym e) j) | inr z ↦ absurd z ];
}

-- so the logger does not reach it
extra_not_reached : IsReached (annotated_reading (logging_and with_more) 0) (logger_with (2 ∷ [])) (Named 6 []) → ⊥
extra_not_reached h = reached_not 6 (logging_and with_more) (logging_and with_less) 0 (logger_with (2 ∷ [])) extras_differ refl logger_writes_not _ _ _ (Named 6 []) h refl
