-- Each type that a scope of a core reaches can be written or is one of the scope's own, so it is in range, and a subtype of itself.
use Rattle.std.proofs.Common.{◌≡◌, ℕ, List, [], ◌∷◌, ◌++◌, map, length, inl, inr, refl, sym, subst, Some, None, Option, Bool as Truth, true, false, arith}
use Rattle.std.specs.Prelude.{slice_get}
use Rattle.wy_text.specs.Members.{In}
use Rattle.wy_text.proofs.Lists.{In-left, In-right, In-cases, In-at, In-slice_get, In-unmap}
use Rattle.wy_types.specs.declared.types.TypeRef.{TypeRef}
use Rattle.wy_types.specs.declared.types.TypeRef.TheVariants.{Own}
use Rattle.wy_types.specs.declared.code.Variable.{Variable}
use Rattle.wy_types.specs.declared.code.Variable.TheVariants.{Local}
use Rattle.wy_types.specs.declared.resolved.Field.{Field}
use Rattle.wy_types.specs.declared.resolved.Literal.{Literal}
use Rattle.wy_types.specs.Code.{Expr, Number, Quoted, Truth as TruthOf, Nothing, This, Name, Unary, Binary, TextCall, Call, New, Ascribe, Assign, Value, Plain, If, Values, none, more, Block, Last, Then, Val}
use Rattle.wy_types.specs.Program.{Program, Scope, Body, Start, Init, Run}
use Rattle.wy_types.specs.Signature.{Signature}
use Rattle.wy_types.specs.Types.{IsObject, is_plain, signature, methods_of, methods_of_owner, scope_bodies}
use Rattle.wy_types.specs.Fitting.{FitsType, IsTypeOf, scope_literals}
use Rattle.wy_types.specs.Core.{IsCore, ScopeFits, StartFits, IsWritten, ExprFits, ValueFits, ValuesFit, BlockFits}
use Rattle.wy_types.specs.Vals.{literal_fields}
use Rattle.wy_types.specs.Written.{written_types, expr_types, value_types, values_types, block_types}
use Rattle.wy_types.specs.Reached.{start_types}
use Rattle.wy_types.proofs.Finite.{Fits-written, owner_among}
use Rattle.wy_types.proofs.Kept.{Fits-wider, core_signatures_fit}
use Rattle.wy_types.proofs.Reflecting.{reflexivity}
use Rattle.wy_rules.specs.Readings.{Reading, IsBelow}
use Rattle.wy_rules.specs.Acceptance.{reading_of}
use Rattle.wy_rules.specs.Reached.{IsReached, of_number, of_truth, of_text, of_nothing, of_own, of_field, of_parameter, of_answer, of_name, of_start, of_body, of_argument, of_result, IsWrittenOrOwn, EachReached, ReachedTypesAreWrittenOrOwn}
use Rattle.wy_rules.proofs.OwnTypes.{own_is}

val_written : (p : Program) (s : Scope) (typ : Option TypeRef) → ((t : TypeRef) → typ ≡ Some t → IsWritten p s t) → (t : TypeRef) → In t (written_types typ) → IsWritten p s t
val_written p s None h t i = absurd i
val_written p s (Some u) h t i = elim i [ inl e ↦ subst (IsWritten p s) e (h u refl) | inr z ↦ absurd z ]

module _ (p : Program) (s : Scope) (owner : Option ℕ) where
  mutual
    expr_written : (x : Expr) (seen : List Variable) → ExprFits p s owner seen x → (t : TypeRef) → In t (expr_types x) → IsWritten p s t
    expr_written (Number q n) seen fit t i = absurd i
    expr_written (Quoted q bytes) seen fit t i = absurd i
    expr_written (TruthOf q b) seen fit t i = absurd i
    expr_written (Nothing q) seen fit t i = absurd i
    expr_written (This q) seen fit t i = absurd i
    expr_written (Name q name) seen fit t i = absurd i
    expr_written (Unary q op x) seen fit t i = expr_written x seen fit t i
    expr_written (Binary q op x y) seen fit t i = elim (In-cases t (expr_types x) (expr_types y) i) [ inl j ↦ expr_written x seen fit.0 t j | inr j ↦ expr_written y seen fit.1 t j ]
    expr_written (TextCall q op xs) seen fit t i = values_written xs seen fit.1 t i
    expr_written (Call q x name xs) seen fit t i = elim (In-cases t (expr_types x) (values_types xs) i) [ inl j ↦ expr_written x seen fit.0 t j | inr j ↦ values_written xs seen fit.1 t j ]
    expr_written (New q l xs) seen fit t i = values_written xs seen fit.4 t i
    expr_written (Ascribe q x u) seen fit t i = elim (In-cases t (value_types x) (u ∷ []) i) [
      | inl j ↦ value_written x seen fit.0 t j
      | inr j ↦ elim j [ inl e ↦ subst (IsWritten p s) e fit.1 | inr z ↦ absurd z ]
    ]
    expr_written (Assign q name x) seen fit t i = value_written x seen fit.1 t i

    value_written : (x : Value) (seen : List Variable) → ValueFits p s owner seen x → (t : TypeRef) → In t (value_types x) → IsWritten p s t
    value_written (Plain x) seen fit t i = expr_written x seen fit t i
    value_written (If q test first second) seen fit t i = elim (In-cases t (expr_types test) (block_types first ++ block_types second) i) [
      | inl j ↦ expr_written test seen fit.0 t j
      | inr j ↦ elim (In-cases t (block_types first) (block_types second) j) [ inl l ↦ block_written first seen fit.1 t l | inr l ↦ block_written second seen fit.2 t l ]
    ]

    values_written : (xs : Values) (seen : List Variable) → ValuesFit p s owner seen xs → (t : TypeRef) → In t (values_types xs) → IsWritten p s t
    values_written none seen fit t i = absurd i
    values_written (more x xs) seen fit t i = elim (In-cases t (value_types x) (values_types xs) i) [ inl j ↦ value_written x seen fit.0 t j | inr j ↦ values_written xs seen fit.1 t j ]

    block_written : (b : Block) (seen : List Variable) → BlockFits p s owner seen b → (t : TypeRef) → In t (block_types b) → IsWritten p s t
    block_written (Last x) seen fit t i = value_written x seen fit t i
    block_written (Then x b) seen fit t i = elim (In-cases t (value_types x) (block_types b) i) [ inl j ↦ value_written x seen fit.0 t j | inr j ↦ block_written b seen fit.1 t j ]
    block_written (Val q n typ x b) seen fit t i = elim (In-cases t (written_types typ) (value_types x ++ block_types b) i) [
      | inl j ↦ val_written p s typ fit.0 t j
      | inr j ↦ elim (In-cases t (value_types x) (block_types b) j) [ inl l ↦ value_written x seen fit.1 t l | inr l ↦ block_written b (Local n ∷ seen) fit.2 t l ]
    ]

start_written : (p : Program) (s : Scope) (st : Start) → StartFits p s st → (t : TypeRef) → In t (start_types st) → IsWritten p s t
start_written p s (Init values) fit t i = values_written p s None values [] fit.1 t i
start_written p s (Run block) fit t i = block_written p s None block [] fit t i

module _ (p : Program) (core : IsCore p) (k : ℕ) (s : Scope) (at : slice_get p.scopes k ≡ Some s) (fits : ScopeFits p s) where
  written : (t : TypeRef) → IsWritten p s t → FitsType p 512 0 t
  written t h = Fits-wider p (length s.atoms) 0 t fits.atoms h.0

  field_written : (o : Option Literal) → ((l : Literal) → o ≡ Some l → In l s.literals) → (t : TypeRef) → In t (map (λ (f : Field). f.typ) (literal_fields o)) → FitsType p 512 0 t
  field_written None h t i = absurd i
  field_written (Some l) h t i = written t (fits.fields l (h l refl) t i)

  param_written : (b : Body) → In b s.bodies → (t : TypeRef) → In t b.signature.params → FitsType p 512 0 t
  param_written b i t j = written t ((fits.written b i).0 t (In-left t b.signature.params (b.signature.result ∷ []) j))

  result_written : (b : Body) → In b s.bodies → FitsType p 512 0 b.signature.result
  result_written b i = written b.signature.result ((fits.written b i).0 b.signature.result (In-right b.signature.result b.signature.params (b.signature.result ∷ []) (inl refl)))

  -- the types that a method names can be written
  abbrev NamesWritten : Signature TypeRef → Type 0
  NamesWritten m = ((t : TypeRef) → In t m.params → FitsType p 512 0 t) × FitsType p 512 0 m.result

  own_names : (l : ℕ) (m : Signature TypeRef) → In m (methods_of p k (Own l)) → NamesWritten m
  own_names l m i =
      let j = subst (λ o. In m (methods_of_owner l (scope_bodies o))) at i in
      let r = In-unmap (λ (b : Body). signature b.signature) m s.bodies (owner_among l s.bodies m j) in
      subst NamesWritten r.2 (param_written r.0 r.1, result_written r.0 r.1)

  method_names : (t : TypeRef) → IsWrittenOrOwn p s t → (m : Signature TypeRef) → In m (methods_of p k t) → NamesWritten m
  method_names t (inl f) m i = (let h = Fits-written p (core_signatures_fit p core) k t f m i in (h.params, h.result))
  method_names t (inr o) m i = (let r = own_is s.kind (length s.literals) t o in own_names r.0 m (subst (λ u. In m (methods_of p k u)) (sym r.2) i))

  module _ (Includes Allows : List ℕ → List ℕ → Type 0) (Under : List ℕ → ℕ → Type 0) where
    abbrev over : Reading
    over = record { Kind = TypeRef; read = λ t. t; effect = λ e. e; methods = methods_of p k; IsObject = IsObject; Includes = Includes; Allows = Allows; Under = Under }

    reached_written : (t : TypeRef) → IsReached over s t → IsWrittenOrOwn p s t
    reached_written t of_number = inl tt
    reached_written t of_truth = inl tt
    reached_written t of_text = inl tt
    reached_written t of_nothing = inl tt
    reached_written t (of_own u i) = inr i
    reached_written t (of_field l u i) = inl (field_written (slice_get s.literals l) (λ a e. In-slice_get s.literals l a e) u i)
    reached_written t (of_parameter b i u j) = inl (param_written b i u j)
    reached_written t (of_answer b i) = inl (result_written b i)
    reached_written t (of_name n i) = (let r = In-at n s.names i in inl (written n.typ (fits.names r.0 n r.2).0))
    reached_written t (of_start u i) = inl (written u (start_written p s s.start fits.starts.1 u i))
    reached_written t (of_body b i u j) = (let r = In-at b s.bodies i in inl (written u (block_written p s (Some b.owner) b.block _ (fits.bodies r.0 b r.2).1 u j)))
    reached_written t (of_argument u h m i v j) = inl ((method_names u (reached_written u h) m i).0 v j)
    reached_written t (of_result u h m i) = inl (method_names u (reached_written u h) m i).1

  in_scope : (t : TypeRef) → FitsType p 512 (length s.literals) t → IsTypeOf p k t
  in_scope t f = subst (λ o. FitsType p 512 (length (scope_literals o)) t) (sym at) f

  in_range : (t : TypeRef) → IsWrittenOrOwn p s t → IsTypeOf p k t
  in_range t (inl f) = in_scope t (Fits-wider p 512 (length s.literals) t (omega arith) f)
  in_range t (inr o) = (let r = own_is s.kind (length s.literals) t o in in_scope t (subst (FitsType p 512 (length s.literals)) r.2 r.1))

  -- a type that is reached is a subtype of itself
  pub reached_itself : (plain : Truth) (t : (reading_of p k plain).Kind) → IsReached (reading_of p k plain) s t → IsBelow (reading_of p k plain) t t
  reached_itself true t h = (reflexivity p core k t (in_range t (reached_written _ _ _ t h))).1
  reached_itself false t h = (reflexivity p core k t (in_range t (reached_written _ _ _ t h))).0

  each_written : (plain : Truth) → EachReached (IsWrittenOrOwn p s) p k s plain
  each_written true = λ t h. reached_written _ _ _ t h
  each_written false = λ t h. reached_written _ _ _ t h

pub reached_types_are_written_or_own : ReachedTypesAreWrittenOrOwn
reached_types_are_written_or_own p k s core at = each_written p core k s at (core.scopes s (In-slice_get p.scopes k s at)) (is_plain s.kind)
