-- A certificate's nodes are read to the end exactly where C-Nodes holds.
use Rattle.std.proofs.Common.{◌≡◌, ℕ, List, [], length, refl, sym, ◌∙◌, ap, Option, Some, None, Bool as Truth, true, false}
use Rattle.std.specs.Prelude.{nat_eq, slice_get, if◌then◌else◌}
use Rattle.std.proofs.lemmas.Bool.{eqb-true, eq-eqb}
use Rattle.wy_types.specs.declared.types.TypeRef.{TypeRef}
use Rattle.wy_types.specs.Program.{Program, Scope}
use Rattle.wy_types.specs.Types.{is_plain, erased, scope_is_plain}
use Rattle.wy_types.specs.Core.{IsCore}
use Rattle.wy_types.specs.Vals.{scope_vals}
use Rattle.wy_types.specs.Subtyping.{IsAnnotatedSubtype, IsPlainSubtype}
use Rattle.wy_rules.specs.Readings.{annotated_reading, plain_reading}
use Rattle.wy_rules.specs.Canonical.{same_type}
use Rattle.wy_rules.proofs.SameTypes.{kinds_exact}
use Rattle.wy_cert.specs.declared.certificate.CertScope.{CertScope}
use Rattle.wy_proving.specs.Certified.{types_of, annotated_pairs, plain_pairs, has_pair, named_types}
use Rattle.wy_proving.specs.Reading.{Bodies, bodies_stand, bodies_fail}
use Rattle.wy_proving.specs.Proving.{PairsHold, PlainPairsHold, annotated_lists, plain_lists, AreDerivedIn, NodesHold, read_in, read_over, nodes_read, NodesAreRead}
use Rattle.wy_proving.proofs.ClosedTypes.{of_plain}
use Rattle.wy_proving.proofs.ExactLists.{pair_listed, included, allowed}
use Rattle.wy_proving.proofs.Listed.{listed, listed_plain}
use Rattle.wy_proving.proofs.ScopesRead.{derived_is_read, annotated_nodes_are_read, plain_nodes_are_read}

module _ (p : Program) (core : IsCore p) (k : ℕ) (s : Scope) (c : CertScope) (at : slice_get p.scopes k ≡ Some s) where
  abbrev Stands : Bodies → Type 0
  Stands b = (i : ℕ) × (b ≡ bodies_stand i [])

  -- derivations are read, whatever is said of pairs
  derived_stand : (plain : Truth) (locals : List TypeRef) → AreDerivedIn p k s c plain locals → Stands (read_in p k s c plain locals)
  derived_stand true locals h = derived_is_read (plain_reading p k) same_type (kinds_exact p k true) (plain_lists p k s c) (λ e f g. refl) (λ e f g. refl) s locals c.nodes h
  derived_stand false locals h =
      derived_is_read (annotated_reading p k) same_type (kinds_exact p k false) (annotated_lists p k s c) (λ e f. (included e f).1) (λ e f. (allowed p core k s at e f).1) s locals c.nodes h

  pub nodes_stand : NodesHold p k s c → Stands (nodes_read p k s c)
  nodes_stand h =
      let r = derived_stand (is_plain s.kind) h.locals h.derived in
      let number = eq-eqb (length c.locals) (length (scope_vals s)) h.number in (
        r.0,
        ap (λ b. if b then read_over p k s c (named_types (types_of c) c.locals) else bodies_fail 0) number ∙ ap (read_over p k s c) h.named ∙ r.1,
      )

  is_plain_there : true ≡ is_plain s.kind → scope_is_plain (slice_get p.scopes k) ≡ true
  is_plain_there e = ap scope_is_plain at ∙ sym e

  -- what is read is derived, where each pair that is listed is closed
  stand_derived : (plain : Truth) → plain ≡ is_plain s.kind → PairsHold p k s c → PlainPairsHold p k s c → (locals : List TypeRef) → Stands (read_in p k s c plain locals) → AreDerivedIn p k s c plain locals
  stand_derived true e pairs plain locals h =
      let below : (a b : TypeRef) → has_pair (plain_pairs c) (erased a) (erased b) ≡ true → IsPlainSubtype p k a b =
      λ a b g. listed_plain p k s c plain a b (of_plain p core k (is_plain_there e) a) (of_plain p core k (is_plain_there e) b) ((pair_listed (plain_pairs c) (erased a) (erased b)).0 g) in
      (plain_nodes_are_read p k s locals (plain_lists p k s c) below (λ e f. refl) (λ e f. refl) c.nodes).0 h
  stand_derived false e pairs plain locals h =
      let below : (a b : TypeRef) → has_pair (annotated_pairs c) a b ≡ true → IsAnnotatedSubtype p k a b = λ a b g. listed p k s c pairs a b ((pair_listed (annotated_pairs c) a b).0 g) in
      (annotated_nodes_are_read p k s locals (annotated_lists p k s c) below included (allowed p core k s at) c.nodes).0 h

  over_named : PairsHold p k s c → PlainPairsHold p k s c → length c.locals ≡ length (scope_vals s) → (o : Option (List TypeRef)) → named_types (types_of c) c.locals ≡ o → Stands (read_over p k s c o) → NodesHold p k s c
  over_named pairs plain n None e h = absurd (let f = h.1 in cc)
  over_named pairs plain n (Some locals) e h = record { number = n; locals = locals; named = e; derived = stand_derived (is_plain s.kind) refl pairs plain locals h }

  stand_nodes : PairsHold p k s c → PlainPairsHold p k s c → Stands (nodes_read p k s c) → NodesHold p k s c
  stand_nodes pairs plain h =
      let o = named_types (types_of c) c.locals in
      elim (nat_eq (length c.locals) (length (scope_vals s))) as (λ b. nat_eq (length c.locals) (length (scope_vals s)) ≡ b → Stands (if b then read_over p k s c o else bodies_fail 0) → NodesHold p k s c) [
        | true ↦ λ e g. over_named pairs plain (eqb-true (length c.locals) (length (scope_vals s)) e) o refl g
        | false ↦ λ e g. absurd (let f = g.1 in cc)
      ] refl h

pub nodes_are_read : NodesAreRead
nodes_are_read p k s c core at pairs plain = (stand_nodes p core k s c at pairs plain, nodes_stand p core k s c at)
