-- The nodes of a certificate's scope, as they are read by a reader of it.
use Rattle.std.proofs.Common.{◌≡◌, ℕ, List, [], length, refl, sym, ap, ◌∙◌, Some, None, Bool as Truth, true, false}
use Rattle.std.specs.Prelude.{Result, Ok, Err, nat_eq, if◌then◌else◌, OnOk, IfErr}
use Rattle.wy_types.specs.declared.types.TypeRef.{TypeRef}
use Rattle.wy_types.specs.Program.{Program, Scope}
use Rattle.wy_types.specs.Types.{is_plain}
use Rattle.wy_types.specs.Vals.{scope_vals}
use Rattle.wy_rules.specs.Canonical.{same_type}
use Rattle.wy_cert.specs.declared.certificate.CertScope.{CertScope}
use Rattle.wy_cert.specs.declared.certificate.CertNode.{CertNode}
use Rattle.wy_proving.specs.Certified.{types_of, named_types}
use Rattle.wy_proving.specs.OneReading.{reading_at}
use Rattle.wy_proving.specs.Reading.{Bodies, bodies_stand, bodies_fail, read_scope}
use Rattle.wy_proving.specs.Proving.{read_in, read_over, nodes_read}
use Rattle.wy_recheck.specs.declared.failure.Failure.{Failure}
use Rattle.wy_recheck.specs.Standing.{FailsFirst}
use Rattle.wy_recheck.specs.Nodes.{lists_at, ScopeIsRead}

module _ (p : Program) (k : ℕ) (s : Scope) (c : CertScope) where
  -- in one of the two ways
  either_way : (plain : Truth) (locals : List TypeRef) → read_in p k s c plain locals ≡ read_scope (reading_at p k plain) same_type (lists_at p k s c plain) s locals c.nodes
  either_way true locals = refl
  either_way false locals = refl

  -- there are not so many types of `val`s
  pub not_counted : nat_eq (length c.locals) (length (scope_vals s)) ≡ false → nodes_read p k s c ≡ bodies_fail 0
  not_counted h = ap (λ b. if b then read_over p k s c (named_types (types_of c) c.locals) else bodies_fail 0) h

  module _ (counted : nat_eq (length c.locals) (length (scope_vals s)) ≡ true) where
    over : nodes_read p k s c ≡ read_over p k s c (named_types (types_of c) c.locals)
    over = ap (λ b. if b then read_over p k s c (named_types (types_of c) c.locals) else bodies_fail 0) counted

    -- a number names none
    pub not_named : named_types (types_of c) c.locals ≡ None → nodes_read p k s c ≡ bodies_fail 0
    not_named h = over ∙ ap (read_over p k s c) h

    pub named_read : (locals : List TypeRef) → named_types (types_of c) c.locals ≡ Some locals → (plain : Truth) → plain ≡ is_plain s.kind →
        nodes_read p k s c ≡ read_scope (reading_at p k plain) same_type (lists_at p k s c plain) s locals c.nodes
    named_read locals h plain e = over ∙ ap (read_over p k s c) h ∙ ap (λ b. read_in p k s c b locals) (sym e) ∙ either_way plain locals

    -- .. of what are the types and the nodes that it has
    pub whole_read : (locals there : List TypeRef) (nodes : List CertNode) → named_types (types_of c) c.locals ≡ Some locals → there ≡ locals → nodes ≡ c.nodes → (plain : Truth) → plain ≡ is_plain s.kind →
        nodes_read p k s c ≡ read_scope (reading_at p k plain) same_type (lists_at p k s c plain) s there nodes
    whole_read locals there nodes h t n plain e =
        named_read locals h plain e ∙ ap (λ (l : List TypeRef). read_scope (reading_at p k plain) same_type (lists_at p k s c plain) s l c.nodes) (sym t) ∙
        ap (λ (l : List CertNode). read_scope (reading_at p k plain) same_type (lists_at p k s c plain) s there l) (sym n)

-- what an answer says of a scope, told by clauses of their own
pub whole_holds : {A : Type 0} (bodies : Bodies) (result : Result A Failure) → ScopeIsRead bodies result → (Q : Type 0) → ((at : ℕ) → bodies ≡ bodies_stand at [] → Q) → OnOk result Q
whole_holds bodies (Ok u) h Q f = f h.0 h.1
whole_holds bodies (Err e) h Q f = tt

pub whole_fails : {A : Type 0} (bodies : Bodies) (result : Result A Failure) → ScopeIsRead bodies result → (R : Failure → Type 0) → ((f : Failure) → FailsFirst (λ i. bodies ≡ bodies_fail i) f → R f) → IfErr result R
whole_fails bodies (Ok u) h R f = tt
whole_fails bodies (Err e) h R f = f e h
