-- No module and no program's body is refused whose rules hold.
use Rattle.std.proofs.Common.{◌≡◌, ℕ, suc, ◌+◌, List, [], ◌∷◌, ◌++◌, map, inl, inr, refl, subst, Option, Some, None, false, arith}
use Rattle.std.specs.Prelude.{slice_get, if◌then◌else◌}
use Rattle.wy_text.specs.declared.fault.Fault.{Fault}
use Rattle.wy_text.specs.declared.fault.RuleName.TheVariants.{MPure}
use Rattle.wy_text.specs.Members.{In}
use Rattle.wy_text.proofs.Lists.{In-cases, In-unmap}
use Rattle.wy_types.specs.declared.types.TypeRef.TheVariants.{Unit as Nothing}
use Rattle.wy_types.specs.declared.code.Variable.TheVariants.{Parameter, Local}
use Rattle.wy_types.specs.declared.resolved.Field.{Field}
use Rattle.wy_types.specs.declared.resolved.OwnName.{OwnName}
use Rattle.wy_types.specs.declared.resolved.Origin.{Origin}
use Rattle.wy_types.specs.declared.resolved.Origin.TheVariants as origin
use Rattle.wy_types.specs.declared.resolved.ScopeKind.{ScopeKind}
use Rattle.wy_types.specs.declared.resolved.ScopeKind.TheVariants.{Pure, Resource, Plain, Program as Main}
use Rattle.wy_types.specs.Program.{Program, Scope, Body, Start, Init, Run}
use Rattle.wy_types.specs.Types.{is_plain}
use Rattle.wy_types.specs.Core.{ScopeFits, StartFits, BodyFits, CapturesBefore, body_parameters}
use Rattle.wy_types.specs.Vals.{literal_captures, start_vals, block_vals}
use Rattle.wy_rules.specs.Derivations.{BodyDerivation, T-Body, T-Body-Init, effects_of}
use Rattle.wy_rules.specs.Typing.{BlockHas, fields_of, field_types, DerivesStart, DerivesBodies, ScopeHolds}
use Rattle.wy_rules.specs.Acceptance.{scope_reading, IsLine, PureHolds, AscriptionHolds}
use Rattle.wy_rules.specs.Nodes.{nothing, written, impure, Node, node, written_spots, values_nodes, block_nodes, start_nodes, body_nodes, bodies_nodes, var_nodes, impure_line, impure_lines, pure_nodes, seal_nodes}
use Rattle.wy_rules.specs.Failing.{FirstFailing, AllPass, IsScopeFault}
use Rattle.wy_rules.specs.ProgramRefusal.{AcceptedScopesHold}
use Rattle.wy_rules.proofs.Forms.{Lawful}
use Rattle.wy_rules.proofs.Narrowing.{Narrower, AllNarrower, narrow_values, narrow_block}
use Rattle.wy_rules.proofs.Passing.{left}
use Rattle.wy_rules.proofs.Standing.{reading_lawful, either_fails, values_ready, block_ready, expects_all, expects_written, values_stand, block_stands}

-- bodies that can be judged one after the other: names stand for what is there, and a literal's methods capture `val`s that stand before them
abbrev pub BodiesScoped : Program → Scope → List ℕ → ℕ → List Body → Type 0
BodiesScoped p s before i [] = Unit {0}
BodiesScoped p s before i (b ∷ bs) =
    BodyFits p s i b × ((n : ℕ) → In (Local n) (literal_captures (slice_get s.literals b.owner)) → In n before) × BodiesScoped p s (before ++ block_vals b.block) (i + 1) bs

pub bodies_scoped : (p : Program) (s : Scope) (before : List ℕ) (i : ℕ) (bs : List Body) → ((j : ℕ) (b : Body) → slice_get bs j ≡ Some b → BodyFits p s (i + j) b) → CapturesBefore s before bs → BodiesScoped p s before i bs
bodies_scoped p s before i [] h c = tt
bodies_scoped p s before i (b ∷ bs) h c = (
  (let same : i + 0 ≡ i = omega arith in subst (λ v. BodyFits p s v b) same (h 0 b refl)),
  c.0,
  bodies_scoped p s (before ++ block_vals b.block) (i + 1) bs (λ j d e. (let same : i + suc j ≡ i + 1 + j = omega arith in subst (λ v. BodyFits p s v d) same (h (suc j) d e))) c.1,
)

module _ (p : Program) (k : ℕ) (s : Scope) (w : Lawful (scope_reading p k s)) (least given : List (scope_reading p k s).Kind) where
  pub nothing_seen : AllNarrower (scope_reading p k s) w p s least given []
  nothing_seen n i = absurd i

  ------------------------------------------------------------
  -- What a pure module may not have, and the seal

  vars_stand : (fs : List Field) → ((f : Field) → In f fs → f.mutable ≡ false) → (fault : Fault) → FirstFailing p k s least (var_nodes s fs) fault → ⊥
  vars_stand [] h fault g = g
  vars_stand (f ∷ fs) h fault g =
      vars_stand fs (λ v i. h v (inr i)) fault
      (subst (λ b. FirstFailing p k s least (if b then node f.place MPure None nothing (impure 1) ∷ var_nodes s fs else var_nodes s fs) fault) (h f (inl refl)) g)

  impure_stands : (n : OwnName) (o : Origin) (ns : List Node) → (IsLine o → ⊥) → (fault : Fault) → FirstFailing p k s least (impure_line s n o ++ ns) fault → FirstFailing p k s least ns fault
  impure_stands n (origin.Parameter bare) ns h fault g = g
  impure_stands n origin.Grant ns h fault g = g
  impure_stands n (origin.Use m) ns h fault g = g
  impure_stands n (origin.Instance m arguments) ns h fault g = absurd (h tt)
  impure_stands n (origin.Import m arguments bound) ns h fault g = absurd (h tt)

  lines_stand : (ns : List OwnName) → ((n : OwnName) → In n ns → IsLine n.origin → ⊥) → (fault : Fault) → FirstFailing p k s least (impure_lines s ns) fault → ⊥
  lines_stand [] h fault g = g
  lines_stand (n ∷ ns) h fault g = lines_stand ns (λ m i. h m (inr i)) fault (impure_stands n n.origin (impure_lines s ns) (h n (inl refl)) fault g)

  pure_stands : (kind : ScopeKind) → PureHolds kind s → (fault : Fault) → FirstFailing p k s least (pure_nodes s kind) fault → ⊥
  pure_stands Pure h fault g =
      elim (either_fails p k s w least given (var_nodes s (fields_of s 0)) (impure_lines s s.names) fault g) [
        | inl e ↦ vars_stand (fields_of s 0) h.no_var fault e
        | inr e ↦ lines_stand s.names h.no_line fault e.1
      ]
  pure_stands Resource h fault g = g
  pure_stands Plain h fault g = g
  pure_stands Main h fault g = g

  seal_stands : (o : Option ℕ) → AscriptionHolds p k s → (fault : Fault) → FirstFailing p k s least (seal_nodes s o) fault → ⊥
  seal_stands None h fault g = g
  seal_stands (Some d) h fault (inl g) = g.stands_not h
  seal_stands (Some d) h fault (inr g) = g.1

  ------------------------------------------------------------
  -- Bodies

  start_stands : (st : Start) (d : BodyDerivation (scope_reading p k s).Kind) → StartFits p s st → DerivesStart (scope_reading p k s) s given d st → (fault : Fault) → FirstFailing p k s least (start_nodes s st) fault → ⊥
  start_stands (Init values) (T-Body-Init place ds) fit h fault g =
      let y = scope_reading p k s in
      elim (either_fails p k s w least given (values_nodes s None (written_spots (field_types s 0)) values) _ fault g) [
        | inl e ↦ values_stand p k s w least given None values (written_spots (field_types s 0)) [] fit.1 nothing_seen (map y.read (field_types s 0)) (effects_of ds)
            (expects_all p k s w least given None (field_types s 0)) (record { derivations = ds; derives = h.1; effects = refl }) fault e
        | inr e ↦ (
            let n = narrow_values y w p s least given None values [] fit.1 nothing_seen (values_ready p k s w least given None values (written_spots (field_types s 0)) e.0) (map y.read (field_types s 0)) (effects_of ds)
            (record { derivations = ds; derives = h.1; effects = refl }) in
            elim e.1 [
              | inl i ↦ i.stands_not (n.effect, n.have, w.onward n.effect (effects_of ds) (y.effect s.start_effect) n.within h.2)
              | inr i ↦ i.1
            ]
            )
      ]
  start_stands (Run block) (T-Body place d f) fit h fault g =
      let y = scope_reading p k s in
      elim (either_fails p k s w least given (block_nodes s None (written Nothing) block) _ fault g) [
        | inl e ↦ block_stands p k s w least given None block (written Nothing) [] fit nothing_seen (y.read Nothing) f (expects_written p k s w least given None Nothing) (record { derivation = d; derives = h.1 }) fault e
        | inr e ↦ (
            let n = narrow_block y w p s least given None block [] fit nothing_seen (block_ready p k s w least given None block (written Nothing) e.0) (y.read Nothing) f (record { derivation = d; derives = h.1 }) in
            elim e.1 [
              | inl i ↦ i.stands_not (n.effect, n.has, w.onward n.effect f (y.effect s.start_effect) n.within h.2)
              | inr i ↦ i.1
            ]
            )
      ]
  start_stands (Init values) (T-Body place d f) fit h fault g = absurd h
  start_stands (Run block) (T-Body-Init place ds) fit h fault g = absurd h

  -- the `val`s of a start that passes
  pub start_narrower : (st : Start) (d : BodyDerivation (scope_reading p k s).Kind) → StartFits p s st → DerivesStart (scope_reading p k s) s given d st → AllPass p k s least (start_nodes s st) →
      (n : ℕ) → In n (start_vals st) → Narrower (scope_reading p k s) w p s least given n
  start_narrower (Init values) (T-Body-Init place ds) fit h g =
      let y = scope_reading p k s in
      (narrow_values y w p s least given None values [] fit.1 nothing_seen (values_ready p k s w least given None values (written_spots (field_types s 0)) (left p k s least (values_nodes s None (written_spots (field_types s 0)) values) _ g))
      (map y.read (field_types s 0)) (effects_of ds) (record { derivations = ds; derives = h.1; effects = refl })).narrower
  start_narrower (Run block) (T-Body place d f) fit h g =
      let y = scope_reading p k s in
      (narrow_block y w p s least given None block [] fit nothing_seen (block_ready p k s w least given None block (written Nothing) (left p k s least (block_nodes s None (written Nothing) block) _ g)) (y.read Nothing) f
      (record { derivation = d; derives = h.1 })).narrower
  start_narrower (Init values) (T-Body place d f) fit h g = absurd h
  start_narrower (Run block) (T-Body-Init place ds) fit h g = absurd h

  -- what a method sees: what its literal captures, and its own parameters
  no_local : (i : ℕ) (b : Body) (n : ℕ) → In (Local n) (body_parameters i b) → ⊥
  no_local i b n h = (let r = In-unmap (λ j. Parameter i j) (Local n) _ h in parameter_not_local i r.0 n r.2)
    where
      parameter_not_local : (i j n : ℕ) → Parameter i j ≡ Local n → ⊥
      parameter_not_local i j n e = absurd (cc)

  pub seen_narrower : (i : ℕ) (b : Body) (before : List ℕ) → ((n : ℕ) → In (Local n) (literal_captures (slice_get s.literals b.owner)) → In n before) → ((n : ℕ) → In n before → Narrower (scope_reading p k s) w p s least given n) →
      AllNarrower (scope_reading p k s) w p s least given (literal_captures (slice_get s.literals b.owner) ++ body_parameters i b)
  seen_narrower i b before c h n j =
      elim (In-cases (Local n) (literal_captures (slice_get s.literals b.owner)) (body_parameters i b) j) [
        | inl l ↦ h n (c n l)
        | inr l ↦ absurd (no_local i b n l)
      ]

  bodies_stand : (bs : List Body) (ds : List (BodyDerivation (scope_reading p k s).Kind)) (before : List ℕ) (i : ℕ) → BodiesScoped p s before i bs → ((n : ℕ) → In n before → Narrower (scope_reading p k s) w p s least given n) →
      DerivesBodies (scope_reading p k s) s given ds bs → (fault : Fault) → FirstFailing p k s least (bodies_nodes s bs) fault → ⊥
  bodies_stand [] ds before i scoped ok h fault g = g
  bodies_stand (b ∷ bs) [] before i scoped ok h fault g = absurd h
  bodies_stand (b ∷ bs) (T-Body-Init place d ∷ ds) before i scoped ok h fault g = absurd h.0
  bodies_stand (b ∷ bs) (T-Body place d f ∷ ds) before i scoped ok h fault g =
      let y = scope_reading p k s in
      let seen = literal_captures (slice_get s.literals b.owner) ++ body_parameters i b in
      let sight = seen_narrower i b before scoped.1 ok in
      let has : BlockHas (scope_reading p k s) s given (Some b.owner) b.block ((scope_reading p k s).read b.signature.result) f = record { derivation = d; derives = h.0.1 } in
      elim (either_fails p k s w least given (body_nodes s b) (bodies_nodes s bs) fault g) [
        | inl e ↦ elim (either_fails p k s w least given (block_nodes s (Some b.owner) (written b.signature.result) b.block) _ fault e) [
          | inl j ↦ block_stands p k s w least given (Some b.owner) b.block (written b.signature.result) seen scoped.0.1 sight (y.read b.signature.result) f (expects_written p k s w least given (Some b.owner) b.signature.result) has fault j
          | inr j ↦ (
              let n = narrow_block y w p s least given (Some b.owner) b.block seen scoped.0.1 sight (block_ready p k s w least given (Some b.owner) b.block (written b.signature.result) j.0) (y.read b.signature.result) f has in
              elim j.1 [
                | inl l ↦ l.stands_not (n.effect, n.has, w.onward n.effect f (y.effect b.signature.effect) n.within h.0.2)
                | inr l ↦ l.1
              ]
              )
        ]
        | inr e ↦ (
            let n = narrow_block y w p s least given (Some b.owner) b.block seen scoped.0.1 sight
            (block_ready p k s w least given (Some b.owner) b.block (written b.signature.result) (left p k s least (block_nodes s (Some b.owner) (written b.signature.result) b.block) _ e.0)) (y.read b.signature.result) f has in
            bodies_stand bs ds (before ++ block_vals b.block) (i + 1) scoped.2
            (λ v j. elim (In-cases v before (block_vals b.block) j) [ inl l ↦ ok v l | inr l ↦ n.narrower v l ]) h.1 fault e.1
            )
      ]

-- what is asked of a scope but for its lines holds
pub holding_scope_stands : (p : Program) (k : ℕ) (s : Scope) (fault : Fault) → ScopeFits p s → PureHolds s.kind s → ScopeHolds (scope_reading p k s) s → AscriptionHolds p k s → IsScopeFault p k s fault → ⊥
holding_scope_stands p k s fault fits pure holds seal f =
    let scoped : BodiesScoped p s (start_vals s.start) 0 s.bodies = bodies_scoped p s (start_vals s.start) 0 s.bodies (λ j b e. (let same : j ≡ 0 + j = omega arith in subst (λ v. BodyFits p s v b) same (fits.bodies j b e))) fits.captured in
    let w = reading_lawful p k (is_plain s.kind) in
    let d = holds.derivation in
    let h = holds.derives in
    elim (either_fails p k s w f.locals d.locals (pure_nodes s s.kind) (start_nodes s s.start ++ (bodies_nodes s s.bodies ++ seal_nodes s s.ascribed)) fault f.first) [
      | inl e ↦ pure_stands p k s w f.locals d.locals s.kind pure fault e
      | inr e ↦ elim (either_fails p k s w f.locals d.locals (start_nodes s s.start) (bodies_nodes s s.bodies ++ seal_nodes s s.ascribed) fault e.1) [
        | inl i ↦ start_stands p k s w f.locals d.locals s.start d.start fits.starts.1 h.0 fault i
        | inr i ↦ elim (either_fails p k s w f.locals d.locals (bodies_nodes s s.bodies) (seal_nodes s s.ascribed) fault i.1) [
          | inl j ↦ bodies_stand p k s w f.locals d.locals s.bodies d.bodies (start_vals s.start) 0 scoped (start_narrower p k s w f.locals d.locals s.start d.start fits.starts.1 h.0 i.0) h.1 fault j
          | inr j ↦ seal_stands p k s w f.locals d.locals s.ascribed seal fault j.1
        ]
      ]
    ]

pub accepted_scopes_hold : AcceptedScopesHold
accepted_scopes_hold p k s fault fits a f = holding_scope_stands p k s fault fits a.pure a.bodies a.seal f
