-- A scope that fits in a program fits in another that differs in one declared type, which the scope leaves out.
use Rattle.std.proofs.Common.{◌≡◌, ℕ, ◌+◌, ◌<◌, List, [], ◌∷◌, ◌++◌, map, length, ◌⊎◌, inl, inr, refl, sym, subst, Option, Some, None, Bool as Truth, true, false}
use Rattle.std.specs.Prelude.{slice_get}
use Rattle.wy_text.specs.Members.{In}
use Rattle.wy_text.proofs.Lists.{In-left, In-right, In-push, In-cases, In-slice_get, In-at}
use Rattle.wy_types.specs.declared.types.TypeRef.{TypeRef}
use Rattle.wy_types.specs.declared.types.TypeRef.TheVariants.{Int, Bool, Text, Unit as Nothing, Named, At, Own}
use Rattle.wy_types.specs.declared.code.Variable.{Variable}
use Rattle.wy_types.specs.declared.code.Variable.TheVariants.{Local}
use Rattle.wy_types.specs.declared.resolved.TypeDecl.{TypeDecl}
use Rattle.wy_types.specs.declared.resolved.ScopeKind.{ScopeKind}
use Rattle.wy_types.specs.declared.resolved.ScopeKind.TheVariants.{Pure, Resource, Plain as Unannotated, Program as Main}
use Rattle.wy_types.specs.declared.resolved.Origin.{Origin}
use Rattle.wy_types.specs.declared.resolved.Origin.TheVariants.{Parameter, Grant, Use, Instance, Import}
use Rattle.wy_types.specs.declared.resolved.OwnName.{OwnName}
use Rattle.wy_types.specs.declared.resolved.Literal.{Literal}
use Rattle.wy_types.specs.declared.resolved.Field.{Field}
use Rattle.wy_types.specs.Code.{Expr, Number, Quoted, Truth as TruthOf, Nothing as NothingOf, This, Name, Unary, Binary, TextCall, Call, New, Ascribe, Assign, Value, Plain, If, Values, none, more, Block, Last, Then, Val}
use Rattle.wy_types.specs.Program.{Program, Scope, Body, Start, Init, Run}
use Rattle.wy_types.specs.Types.{is_plain}
use Rattle.wy_types.specs.Fitting.{FitsType}
use Rattle.wy_types.specs.MemberCount.{member_count}
use Rattle.wy_types.specs.Written.{written_types, expr_types, value_types, values_types, block_types}
use Rattle.wy_types.specs.Reached.{start_types}
use Rattle.wy_types.specs.Core.{HasSets, IsWritten, AllWritten, ExprFits, ValueFits, ValuesFit, BlockFits, BodyFits, StartFits, OriginFits, IsAscribed, ScopeFits, body_parameters}
use Rattle.wy_types.specs.Vals.{literal_fields, literal_captures}
use Rattle.wy_rules.specs.Transfer.{NamesNot, WritesNot, DiffersAt}

-- a written type is among the types of what it is written at
in_written : (o : Option TypeRef) (t : TypeRef) → o ≡ Some t → In t (written_types o)
in_written None t e = cc
in_written (Some u) t e = inl (cc)

module _ (i : ℕ) (p other : Program) (s : Scope) (w : DiffersAt i p other) (same : length p.declarations ≡ length other.declarations) where
  abbrev AllNot : List TypeRef → Type 0
  AllNot ts = (t : TypeRef) → In t ts → NamesNot i t

  left : (ts us : List TypeRef) → AllNot (ts ++ us) → AllNot ts
  left ts us h t j = h t (In-left t ts us j)

  right : (ts us : List TypeRef) → AllNot (ts ++ us) → AllNot us
  right ts us h t j = h t (In-right t ts us j)

  ------------------------------------------------------------
  -- Types

  there : (d : ℕ) → d < length p.declarations → d < length other.declarations
  there d h = subst (λ (n : ℕ). d < n) same h

  counted : (n d : ℕ) → (d ≡ i → ⊥) → n ≡ member_count (slice_get p.declarations d) → n ≡ member_count (slice_get other.declarations d)
  counted n d h e = subst (λ (o : Option TypeDecl). n ≡ member_count o) (w.declarations d h) e

  type_fits : (atoms owns : ℕ) (t : TypeRef) → NamesNot i t → FitsType p atoms owns t → FitsType other atoms owns t
  type_fits atoms owns Int h f = tt
  type_fits atoms owns Bool h f = tt
  type_fits atoms owns Text h f = tt
  type_fits atoms owns Nothing h f = tt
  type_fits atoms owns (Named d sets) h f =
      (there d f.0, subst (λ (o : Option TypeDecl). (length sets ≡ member_count o) ⊎ (sets ≡ [])) (w.declarations d h) f.1, f.2)
  type_fits atoms owns (At d bound) h f = (there d f.0, f.1)
  type_fits atoms owns (Own l) h f = f

  has_sets : (plain : Truth) (t : TypeRef) → NamesNot i t → HasSets p plain t → HasSets other plain t
  has_sets plain Int h f = tt
  has_sets plain Bool h f = tt
  has_sets plain Text h f = tt
  has_sets plain Nothing h f = tt
  has_sets true (Named d sets) h f = f
  has_sets false (Named d sets) h f = counted (length sets) d h f
  has_sets true (At d bound) h f = f
  has_sets false (At d bound) h f = tt
  has_sets plain (Own l) h f = f

  written : (t : TypeRef) → NamesNot i t → IsWritten p s t → IsWritten other s t
  written t h f = (type_fits (length s.atoms) 0 t h f.0, has_sets (is_plain s.kind) t h f.1)

  all_written : (ts : List TypeRef) → AllNot ts → AllWritten p s ts → AllWritten other s ts
  all_written ts h f t j = written t (h t j) (f t j)

  ------------------------------------------------------------
  -- Bodies

  module _ (owner : Option ℕ) where
    mutual
      expr_fits : (seen : List Variable) (x : Expr) → AllNot (expr_types x) → ExprFits p s owner seen x → ExprFits other s owner seen x
      expr_fits seen (Number place n) h f = tt
      expr_fits seen (Quoted place bytes) h f = tt
      expr_fits seen (TruthOf place b) h f = tt
      expr_fits seen (NothingOf place) h f = tt
      expr_fits seen (This place) h f = f
      expr_fits seen (Name place name) h f = f
      expr_fits seen (Unary place op x) h f = expr_fits seen x h f
      expr_fits seen (Binary place op x y) h f =
          (expr_fits seen x (left (expr_types x) (expr_types y) h) f.0, expr_fits seen y (right (expr_types x) (expr_types y) h) f.1)
      expr_fits seen (TextCall place op xs) h f = (f.0, values_fit seen xs h f.1)
      expr_fits seen (Call place x name xs) h f =
          (expr_fits seen x (left (expr_types x) (values_types xs) h) f.0, values_fit seen xs (right (expr_types x) (values_types xs) h) f.1)
      expr_fits seen (New place l xs) h f = (f.0, f.1, f.2, f.3, values_fit seen xs h f.4)
      expr_fits seen (Ascribe place x t) h f =
          (value_fits seen x (left (value_types x) (t ∷ []) h) f.0, written t (h t (In-push t (value_types x))) f.1)
      expr_fits seen (Assign place name x) h f = (f.0, value_fits seen x h f.1)

      value_fits : (seen : List Variable) (x : Value) → AllNot (value_types x) → ValueFits p s owner seen x → ValueFits other s owner seen x
      value_fits seen (Plain x) h f = expr_fits seen x h f
      value_fits seen (If place test first second) h f =
          let rest = right (expr_types test) (block_types first ++ block_types second) h in (
            expr_fits seen test (left (expr_types test) (block_types first ++ block_types second) h) f.0,
            block_fits seen first (left (block_types first) (block_types second) rest) f.1,
            block_fits seen second (right (block_types first) (block_types second) rest) f.2,
          )

      values_fit : (seen : List Variable) (xs : Values) → AllNot (values_types xs) → ValuesFit p s owner seen xs → ValuesFit other s owner seen xs
      values_fit seen none h f = tt
      values_fit seen (more x xs) h f =
          (value_fits seen x (left (value_types x) (values_types xs) h) f.0, values_fit seen xs (right (value_types x) (values_types xs) h) f.1)

      block_fits : (seen : List Variable) (b : Block) → AllNot (block_types b) → BlockFits p s owner seen b → BlockFits other s owner seen b
      block_fits seen (Last x) h f = value_fits seen x h f
      block_fits seen (Then x b) h f =
          (value_fits seen x (left (value_types x) (block_types b) h) f.0, block_fits seen b (right (value_types x) (block_types b) h) f.1)
      block_fits seen (Val place n typ x b) h f =
          let rest = right (written_types typ) (value_types x ++ block_types b) h in (
            λ t e. written t (h t (In-left t (written_types typ) (value_types x ++ block_types b) (in_written typ t e))) (f.0 t e),
            value_fits seen x (left (value_types x) (block_types b) rest) f.1,
            block_fits (Local n ∷ seen) b (right (value_types x) (block_types b) rest) f.2,
          )

  body_fits : (k : ℕ) (b : Body) → AllNot (block_types b.block) → BodyFits p s k b → BodyFits other s k b
  body_fits k b h f = (f.0, block_fits (Some b.owner) (literal_captures (slice_get s.literals b.owner) ++ body_parameters k b) b.block h f.1)

  start_fits : (start : Start) → AllNot (start_types start) → StartFits p s start → StartFits other s start
  start_fits (Init values) h f = (f.0, values_fit None [] values h f.1)
  start_fits (Run block) h f = block_fits None [] block h f

  ------------------------------------------------------------
  -- Own names, and the type that the scope is sealed at

  origin_fits : (k : ℕ) (n : OwnName) (o : Origin) → OriginFits p s k n o → OriginFits other s k n o
  origin_fits k n (Parameter bare) f = tt
  origin_fits k n Grant f = f
  origin_fits k n (Use m) f = (f.0, subst (λ (ss : List Scope). m + 1 < length ss) w.scopes f.1)
  origin_fits k n (Instance m arguments) f = (f.0, subst (λ (ss : List Scope). m + 1 < length ss) w.scopes f.1, f.2)
  origin_fits k n (Import m arguments bound) f = (f.0, subst (λ (ss : List Scope). m + 1 < length ss) w.scopes f.1, f.2, f.3)

  ascribed_fits : (kind : ScopeKind) (o : Option ℕ) → ((d : ℕ) → o ≡ Some d → d ≡ i → ⊥) → IsAscribed p s kind o → IsAscribed other s kind o
  ascribed_fits Main None h f = f
  ascribed_fits Main (Some d) h f = f
  ascribed_fits Unannotated None h f = f
  ascribed_fits Unannotated (Some d) h f = (there d f.0, f.1)
  ascribed_fits Pure None h f = f
  ascribed_fits Pure (Some d) h f = (there d f.0, counted (length s.definitions) d (h d refl) f.1)
  ascribed_fits Resource None h f = f
  ascribed_fits Resource (Some d) h f = (there d f.0, counted (length s.definitions) d (h d refl) f.1)

  ------------------------------------------------------------
  -- The scope

  module _ (writes : WritesNot i s) where
    signature_not : (b : Body) → In b s.bodies → AllNot (b.signature.params ++ b.signature.result ∷ [])
    signature_not b j t l =
        elim (In-cases t b.signature.params (b.signature.result ∷ []) l) [
          | inl g ↦ writes.params b j t g
          | inr g ↦ elim g [ inl e ↦ subst (NamesNot i) e (writes.results b j) | inr a ↦ absurd a ]
        ]

    fields_not : (l : Literal) → In l s.literals → AllNot (map (λ (f : Field). f.typ) l.fields)
    fields_not l j t g =
        let r = In-at l s.literals j in
        writes.fields r.0 t (subst (λ (o : Option Literal). In t (map (λ (f : Field). f.typ) (literal_fields o))) (sym r.2) g)

pub scope_fits : (i : ℕ) (p other : Program) (s : Scope) → DiffersAt i p other → length p.declarations ≡ length other.declarations →
    WritesNot i s → ((d : ℕ) → s.ascribed ≡ Some d → d ≡ i → ⊥) → ScopeFits p s → ScopeFits other s
scope_fits i p other s w same writes sealed h = record {
  ascribed = ascribed_fits i p other s w same s.kind s.ascribed sealed h.ascribed;
  definitions = h.definitions;
  bounds = h.bounds;
  names = λ k n e.
      let f = h.names k n e in
      (written i p other s w same n.typ (writes.names n (In-slice_get s.names k n e)) f.0, origin_fits i p other s w same k n n.origin f.1);
  starts = (h.starts.0, start_fits i p other s w same s.start writes.start h.starts.1, h.starts.2);
  bodies = λ k b e. body_fits i p other s w same k b (writes.bodies b (In-slice_get s.bodies k b e)) (h.bodies k b e);
  written = λ b j.
      let f = h.written b j in
      (all_written i p other s w same (b.signature.params ++ b.signature.result ∷ []) (signature_not i p other s w same writes b j) f.0, f.1);
  fields = λ l j. all_written i p other s w same (map (λ (f : Field). f.typ) l.fields) (fields_not i p other s w same writes l j) (h.fields l j);
  no_effect = h.no_effect;
  own_literal = h.own_literal;
  no_own_body = h.no_own_body;
  vals = h.vals;
  numbered = h.numbered;
  captured = h.captured;
  captured_parameters = h.captured_parameters;
  own_names = h.own_names;
  field_names = h.field_names;
  method_names = h.method_names;
  atoms = h.atoms;
  few_fields = h.few_fields;
  few_methods = h.few_methods;
  few_parameters = h.few_parameters;
  few_grants = h.few_grants;
  few_module_parameters = h.few_module_parameters;
}
