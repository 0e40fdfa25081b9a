-- Where every node passes the program is accepted; and where it is accepted no line fails.
use Rattle.std.proofs.Common.{◌≡◌, ℕ, suc, ◌+◌, List, [], ◌∷◌, ◌++◌, inl, inr, refl, subst, Option, Some, None, Bool as Truth, true, false, arith}
use Rattle.std.specs.Prelude.{slice_get, if◌then◌else◌}
use Rattle.wy_text.specs.declared.fault.Fault.{Fault}
use Rattle.wy_text.specs.declared.fault.RuleName.TheVariants.{MPure}
use Rattle.wy_text.specs.Members.{In}
use Rattle.wy_types.specs.declared.types.TypeRef.TheVariants.{Unit as Nothing}
use Rattle.wy_types.specs.declared.resolved.Field.{Field}
use Rattle.wy_types.specs.declared.resolved.OwnName.{OwnName}
use Rattle.wy_types.specs.declared.resolved.Origin.{Origin}
use Rattle.wy_types.specs.declared.resolved.Origin.TheVariants.{Parameter, Grant, Use, Instance, Import}
use Rattle.wy_types.specs.declared.resolved.ScopeKind.{ScopeKind}
use Rattle.wy_types.specs.declared.resolved.ScopeKind.TheVariants.{Pure, Resource, Plain, Program as Main}
use Rattle.wy_types.specs.Program.{Program, Scope, Body, Start, Init, Run}
use Rattle.wy_types.specs.Types.{is_plain}
use Rattle.wy_rules.specs.Derivations.{BodyDerivation, T-Body, T-Body-Init}
use Rattle.wy_rules.specs.Typing.{fields_of, field_types, DerivesStart, DerivesBodies, ScopeHolds}
use Rattle.wy_rules.specs.Acceptance.{scope_reading, IsLine, PureHolds, SealHolds, DefinitionsRespect, MembersHold, AscriptionHolds, LineHolds, ScopeAccepted}
use Rattle.wy_rules.specs.Nodes.{nothing, written, impure, written_spots, values_nodes, block_nodes, Node, node, start_nodes, body_nodes, bodies_nodes, var_nodes, impure_line, impure_lines, pure_nodes, seal_nodes, scope_nodes, line_nodes, lines_nodes}
use Rattle.wy_rules.specs.Failing.{FirstFailing, AllPass, IsLineFaultFrom}
use Rattle.wy_rules.specs.Judging.{PassingIsAccepted, AcceptedLinesHold}

module _ (p : Program) (k : ℕ) (s : Scope) (locals : List (scope_reading p k s).Kind) where
  pub left : (ns ms : List Node) → AllPass p k s locals (ns ++ ms) → AllPass p k s locals ns
  left [] ms h = tt
  left (n ∷ ns) ms h = (h.0, left ns ms h.1)

  pub right : (ns ms : List Node) → AllPass p k s locals (ns ++ ms) → AllPass p k s locals ms
  right [] ms h = h
  right (n ∷ ns) ms h = right ns ms h.1

  ------------------------------------------------------------
  -- M-Pure

  no_var : (fs : List Field) → AllPass p k s locals (var_nodes s fs) → (f : Field) → In f fs → f.mutable ≡ false
  no_var [] h f i = absurd i
  no_var (g ∷ fs) h f i =
      let both = elim g.mutable as (λ b. AllPass p k s locals (if b then node g.place MPure None nothing (impure 1) ∷ var_nodes s fs else var_nodes s fs) → (b ≡ false) × AllPass p k s locals (var_nodes s fs)) [
        | true ↦ λ r. absurd r.0.stands
        | false ↦ λ r. (refl, r)
      ] h in
      elim i [
        | inl e ↦ subst (λ v. v.mutable ≡ false) e both.0
        | inr j ↦ no_var fs both.1 f j
      ]

  no_line_here : (n : OwnName) (o : Origin) → AllPass p k s locals (impure_line s n o) → IsLine o → ⊥
  no_line_here n (Parameter bare) h l = l
  no_line_here n Grant h l = l
  no_line_here n (Use m) h l = l
  no_line_here n (Instance m arguments) h l = h.0.stands
  no_line_here n (Import m arguments bound) h l = h.0.stands

  no_line : (ns : List OwnName) → AllPass p k s locals (impure_lines s ns) → (n : OwnName) → In n ns → IsLine n.origin → ⊥
  no_line [] h n i = absurd i
  no_line (m ∷ ns) h n i =
      elim i [
        | inl e ↦ subst (λ (v : OwnName). IsLine v.origin → ⊥) e (no_line_here m m.origin (left (impure_line s m m.origin) (impure_lines s ns) h))
        | inr j ↦ no_line ns (right (impure_line s m m.origin) (impure_lines s ns) h) n j
      ]

  pure_holds : (kind : ScopeKind) → AllPass p k s locals (pure_nodes s kind) → PureHolds kind s
  pure_holds Pure h = record {
    no_var = no_var (fields_of s 0) (left (var_nodes s (fields_of s 0)) (impure_lines s s.names) h);
    no_line = no_line s.names (right (var_nodes s (fields_of s 0)) (impure_lines s s.names) h);
  }
  pure_holds Resource h = tt
  pure_holds Plain h = tt
  pure_holds Main h = tt

  ------------------------------------------------------------
  -- Bodies and the seal

  -- the node of a body is the last of its nodes
  pub start_holds : (st : Start) → AllPass p k s locals (start_nodes s st) → (d : BodyDerivation (scope_reading p k s).Kind) × DerivesStart (scope_reading p k s) s locals d st
  start_holds (Init values) h =
      let b = (right (values_nodes s None (written_spots (field_types s 0)) values) _ h).0.stands in
      (T-Body-Init s.start_place b.1.derivations, (refl, b.1.derives, subst (λ v. (scope_reading p k s).Allows v ((scope_reading p k s).effect s.start_effect)) b.1.effects b.2))
  start_holds (Run block) h =
      let b = (right (block_nodes s None (written Nothing) block) _ h).0.stands in
      (T-Body s.start_place b.1.derivation b.0, (refl, b.1.derives, b.2))

  pub bodies_hold : (bs : List Body) → AllPass p k s locals (bodies_nodes s bs) → (ds : List (BodyDerivation (scope_reading p k s).Kind)) × DerivesBodies (scope_reading p k s) s locals ds bs
  bodies_hold [] h = ([], tt)
  bodies_hold (b ∷ bs) h =
      let c = (right (block_nodes s (Some b.owner) (written b.signature.result) b.block) _ (left (body_nodes s b) (bodies_nodes s bs) h)).0.stands in
      let r = bodies_hold bs (right (body_nodes s b) (bodies_nodes s bs) h) in
      (T-Body b.place c.1.derivation c.0 ∷ r.0, ((refl, c.1.derives, c.2), r.1))

  -- what is sealed at no type has no members to define
  unsealed : (plain : Truth) → None ≡ s.ascribed → MembersHold p k s plain
  unsealed true e = tt
  unsealed false e = subst (DefinitionsRespect p k s) e tt

  seal_holds : (o : Option ℕ) → o ≡ s.ascribed → AllPass p k s locals (seal_nodes s o) → AscriptionHolds p k s
  seal_holds None e h = (subst (SealHolds (scope_reading p k s) s) e tt, unsealed (is_plain s.kind) e)
  seal_holds (Some d) e h = h.0.stands

  -- what is asked of a scope but for its lines
  pub scope_holds : AllPass p k s locals (scope_nodes s) → PureHolds s.kind s × ScopeHolds (scope_reading p k s) s × AscriptionHolds p k s
  scope_holds h =
      let rest = right (pure_nodes s s.kind) (start_nodes s s.start ++ (bodies_nodes s s.bodies ++ seal_nodes s s.ascribed)) h in
      let others = right (start_nodes s s.start) (bodies_nodes s s.bodies ++ seal_nodes s s.ascribed) rest in
      let a = start_holds s.start (left (start_nodes s s.start) (bodies_nodes s s.bodies ++ seal_nodes s s.ascribed) rest) in
      let b = bodies_hold s.bodies (left (bodies_nodes s s.bodies) (seal_nodes s s.ascribed) others) in (
        pure_holds s.kind (left (pure_nodes s s.kind) (start_nodes s s.start ++ (bodies_nodes s s.bodies ++ seal_nodes s s.ascribed)) h),
        record { derivation = record { locals = locals; start = a.0; bodies = b.0 }; derives = (a.1, b.1) },
        seal_holds s.ascribed refl (right (bodies_nodes s s.bodies) (seal_nodes s s.ascribed) others),
      )

  ------------------------------------------------------------
  -- Lines

  line_holds : (n : OwnName) (o : Origin) → AllPass p k s locals (line_nodes n o) → LineHolds p k s.names o
  line_holds n (Parameter bare) h = tt
  line_holds n Grant h = tt
  line_holds n (Use m) h = h.0.stands
  line_holds n (Instance m arguments) h = h.0.stands
  line_holds n (Import m arguments bound) h = (h.0.stands, h.1.0.stands)

  all_lines_hold : (ns : List OwnName) → AllPass p k s locals (lines_nodes ns) → (n : OwnName) → In n ns → LineHolds p k s.names n.origin
  all_lines_hold [] h n i = absurd i
  all_lines_hold (m ∷ ns) h n i =
      elim i [
        | inl e ↦ subst (λ (v : OwnName). LineHolds p k s.names v.origin) e (line_holds m m.origin (left (line_nodes m m.origin) (lines_nodes ns) h))
        | inr j ↦ all_lines_hold ns (right (line_nodes m m.origin) (lines_nodes ns) h) n j
      ]

  line_cannot_fail : (n : OwnName) (o : Origin) (ns : List Node) (fault : Fault) → LineHolds p k s.names o → FirstFailing p k s locals (line_nodes n o ++ ns) fault → FirstFailing p k s locals ns fault
  line_cannot_fail n (Parameter bare) ns fault h f = f
  line_cannot_fail n Grant ns fault h f = f
  line_cannot_fail n (Use m) ns fault h f = elim f [ inl g ↦ absurd (g.stands_not h) | inr g ↦ g.1 ]
  line_cannot_fail n (Instance m arguments) ns fault h f = elim f [ inl g ↦ absurd (g.stands_not h) | inr g ↦ g.1 ]
  line_cannot_fail n (Import m arguments bound) ns fault h f =
      elim f [
        | inl g ↦ absurd (g.stands_not h.0)
        | inr g ↦ elim g.1 [ inl i ↦ absurd (i.stands_not h.1) | inr i ↦ i.1 ]
      ]

  lines_cannot_fail : (ns : List OwnName) (fault : Fault) → ((n : OwnName) → In n ns → LineHolds p k s.names n.origin) → FirstFailing p k s locals (lines_nodes ns) fault → ⊥
  lines_cannot_fail [] fault h f = f
  lines_cannot_fail (n ∷ ns) fault h f =
      lines_cannot_fail ns fault (λ m i. h m (inr i)) (line_cannot_fail n n.origin (lines_nodes ns) fault (h n (inl refl)) f)

pub passing_is_accepted : PassingIsAccepted
passing_is_accepted p h = record {
  scopes = λ k s e.
      let b = h.bodies k s e in
      let c = scope_holds p k s b.0 b.1 in
      record { pure = c.0; bodies = c.1; seal = c.2; lines = all_lines_hold p k s [] s.names (h.lines k s e) };
}

later_lines : (p : Program) (k : ℕ) (ss : List Scope) (fault : Fault) → ((j : ℕ) (s : Scope) → slice_get ss j ≡ Some s → ScopeAccepted p (k + j) s) → IsLineFaultFrom p k ss fault → ⊥
later_lines p k [] fault h f = f
later_lines p k (s ∷ ss) fault h f =
    let here : ScopeAccepted p k s = subst (λ v. ScopeAccepted p v s) (omega arith) (h 0 s refl) in
    elim f [
      | inl g ↦ lines_cannot_fail p k s [] s.names fault here.lines g
      | inr g ↦ later_lines p (k + 1) ss fault (λ j t e. (let same : k + suc j ≡ k + 1 + j = omega arith in subst (λ v. ScopeAccepted p v t) same (h (suc j) t e))) g.1
    ]

pub accepted_lines_hold : AcceptedLinesHold
accepted_lines_hold p fault a f =
    later_lines p 0 p.scopes fault (λ j s e. (let same : j ≡ 0 + j = omega arith in subst (λ v. ScopeAccepted p v s) same (a.scopes j s e))) f
