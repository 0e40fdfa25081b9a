-- What is written for a scope is a derivation of it, where it has one.
use Rattle.std.proofs.Common.{◌≡◌, ℕ, ◌+◌, List, [], ◌∷◌, ◌++◌, map, inl, inr, refl, subst, Option, Some, None, ◌⊎◌, Bool as Truth, arith}
use Rattle.std.specs.Prelude.{slice_get}
use Rattle.wy_text.specs.Members.{In}
use Rattle.wy_text.proofs.Lists.{In-cases, In-unmap}
use Rattle.wy_types.specs.declared.types.TypeRef.{TypeRef}
use Rattle.wy_types.specs.declared.types.TypeRef.TheVariants.{Unit as Nothing}
use Rattle.wy_types.specs.declared.code.Variable.{Variable}
use Rattle.wy_types.specs.declared.code.Variable.TheVariants.{Parameter, Local}
use Rattle.wy_types.specs.Code.{Value, Plain, If}
use Rattle.wy_types.specs.Program.{Program, Scope, Body, Start, Init, Run}
use Rattle.wy_types.specs.Types.{is_plain}
use Rattle.wy_types.specs.Core.{ScopeFits, StartFits, BodyFits, body_parameters}
use Rattle.wy_types.specs.Vals.{start_vals, block_vals, bodies_vals, scope_vals, literal_captures}
use Rattle.wy_rules.specs.Readings.{Reading}
use Rattle.wy_rules.specs.Derivations.{BodyDerivation, T-Body, T-Body-Init, effects_of}
use Rattle.wy_rules.specs.Typing.{field_types, DerivesStart, DerivesBodies, DerivesScope}
use Rattle.wy_rules.specs.Acceptance.{scope_reading}
use Rattle.wy_rules.specs.Nodes.{pure_nodes, start_nodes, bodies_nodes, seal_nodes}
use Rattle.wy_rules.specs.EachVal.{EachInStart, EachInBodies, EachVal}
use Rattle.wy_rules.specs.Canonical.{canonical_expr, canonical_values, canonical_block, canonical_start, canonical_body, canonical_scope, canonical_locals, locals_of, same_read, IsSettled, settle_start, settle_bodies, settle_block, CanonicalDerivationHolds, ScopesHaveCanonicalDerivations}
use Rattle.wy_rules.proofs.Forms.{Lawful}
use Rattle.wy_rules.proofs.Narrowing.{Narrower, AllNarrower}
use Rattle.wy_rules.proofs.Holding.{BodiesScoped, bodies_scoped}
use Rattle.wy_rules.proofs.Standing.{reading_lawful}
use Rattle.wy_rules.proofs.Passing.{left, right, start_holds, bodies_hold}
use Rattle.wy_rules.proofs.EachVals.{always_vals, implied_vals}
use Rattle.wy_rules.proofs.Settling.{Step, no_step, steps, values_step, block_step, Ahead, ahead_first, ahead_other, values_settled, block_settled}
use Rattle.wy_rules.proofs.SameTypes.{kinds_exact}
use Rattle.wy_rules.proofs.Writing.{Exact, ValReady, best_values, best_block, best_block_at}

module _ (y : Reading) (w : Lawful y) (same : y.Kind → y.Kind → Truth) (z : Exact y same) (p : Program) (s : Scope) (least given : List y.Kind) where
  nothing_seen : AllNarrower y w p s least given []
  nothing_seen n i = absurd i

  record StartWritten (st : Start) : Type 0 where
    pub derives : DerivesStart y s least (canonical_start y same s least st) st
    pub narrower : (n : ℕ) → In n (start_vals st) → Narrower y w p s least given n

  start_written : (st : Start) (d : BodyDerivation y.Kind) → StartFits p s st → DerivesStart y s given d st → EachInStart (ValReady y w same z p s least given) st → StartWritten st
  start_written (Init values) (T-Body-Init place ds) fit h ready =
      let n = best_values y w same z p s least given None values [] fit.1 nothing_seen ready (map y.read (field_types s 0)) (effects_of ds) (record { derivations = ds; derives = h.1; effects = refl }) in
      record { derives = (refl, n.derives, w.onward (effects_of (canonical_values y same s least None values (map y.read (field_types s 0)))) (effects_of ds) (y.effect s.start_effect) n.within h.2); narrower = n.narrower }
  start_written (Run block) (T-Body place d f) fit h ready =
      let m = canonical_block y same s least None block (y.read Nothing) in
      let n = best_block y w same z p s least given None block [] fit nothing_seen ready (y.read Nothing) f (record { derivation = d; derives = h.1 }) in
      let a = best_block_at y w same z p s least given None m block (block_vals block) (y.read Nothing) f n in
      record { derives = (refl, a.derives, w.onward m.effect f (y.effect s.start_effect) a.within h.2); narrower = a.narrower }
  start_written (Init values) (T-Body place d f) fit h ready = absurd h
  start_written (Run block) (T-Body-Init place ds) fit h ready = absurd h

  no_local : (i : ℕ) (b : Body) (n : ℕ) → In (Local n) (body_parameters i b) → ⊥
  no_local i b n h = (let r = In-unmap (λ j. Parameter i j) (Local n) _ h in parameter_not_local i r.0 n r.2)
    where
      parameter_not_local : (i j n : ℕ) → Parameter i j ≡ Local n → ⊥
      parameter_not_local i j n e = absurd (cc)

  seen_narrower : (i : ℕ) (b : Body) (before : List ℕ) → ((n : ℕ) → In (Local n) (literal_captures (slice_get s.literals b.owner)) → In n before) → ((n : ℕ) → In n before → Narrower y w p s least given n) →
      AllNarrower y w p s least given (literal_captures (slice_get s.literals b.owner) ++ body_parameters i b)
  seen_narrower i b before c h n j =
      elim (In-cases (Local n) (literal_captures (slice_get s.literals b.owner)) (body_parameters i b) j) [
        | inl l ↦ h n (c n l)
        | inr l ↦ absurd (no_local i b n l)
      ]

  record BodiesWritten (bs : List Body) : Type 0 where
    pub derives : DerivesBodies y s least (map (canonical_body y same s least) bs) bs
    pub narrower : (n : ℕ) → In n (bodies_vals bs) → Narrower y w p s least given n

  bodies_written : (bs : List Body) (ds : List (BodyDerivation y.Kind)) (before : List ℕ) (i : ℕ) → BodiesScoped p s before i bs → ((n : ℕ) → In n before → Narrower y w p s least given n) →
      DerivesBodies y s given ds bs → EachInBodies (ValReady y w same z p s least given) bs → BodiesWritten bs
  bodies_written [] ds before i scoped ok h ready = record { derives = tt; narrower = λ n j. absurd j }
  bodies_written (b ∷ bs) [] before i scoped ok h ready = absurd h
  bodies_written (b ∷ bs) (T-Body-Init place d ∷ ds) before i scoped ok h ready = absurd h.0
  bodies_written (b ∷ bs) (T-Body place d f ∷ ds) before i scoped ok h ready =
      let seen = literal_captures (slice_get s.literals b.owner) ++ body_parameters i b in
      let m = canonical_block y same s least (Some b.owner) b.block (y.read b.signature.result) in
      let n = best_block y w same z p s least given (Some b.owner) b.block seen scoped.0.1 (seen_narrower i b before scoped.1 ok) ready.0 (y.read b.signature.result) f (record { derivation = d; derives = h.0.1 }) in
      let a = best_block_at y w same z p s least given (Some b.owner) m b.block (block_vals b.block) (y.read b.signature.result) f n in
      let rest = bodies_written bs ds (before ++ block_vals b.block) (i + 1) scoped.2 (λ v j. elim (In-cases v before (block_vals b.block) j) [ inl l ↦ ok v l | inr l ↦ a.narrower v l ]) h.1 ready.1 in
      record {
        derives = ((refl, a.derives, w.onward m.effect f (y.effect b.signature.effect) a.within h.0.2), rest.derives);
        narrower = λ v j. elim (In-cases v (block_vals b.block) (bodies_vals bs) j) [ inl l ↦ a.narrower v l | inr l ↦ rest.narrower v l ];
      }

  -- what is written for the scope is a derivation of it, and the types of its `val`s are no larger than the given ones
  pub record ScopeWritten : Type 0 where
    pub derives : DerivesScope y s (canonical_scope y same s least)
    pub narrower : (n : ℕ) → In n (scope_vals s) → Narrower y w p s least given n

  pub scope_written : ScopeFits p s → (start : BodyDerivation y.Kind) (bodies : List (BodyDerivation y.Kind)) → DerivesStart y s given start s.start → DerivesBodies y s given bodies s.bodies →
      EachVal (ValReady y w same z p s least given) s → ScopeWritten
  scope_written fits start bodies h k ready =
      let scoped : BodiesScoped p s (start_vals s.start) 0 s.bodies = bodies_scoped p s (start_vals s.start) 0 s.bodies (λ j b e. (let same : j ≡ 0 + j = omega arith in subst (λ v. BodyFits p s v b) same (fits.bodies j b e))) fits.captured in
      let a = start_written s.start start fits.starts.1 h ready.0 in
      let b = bodies_written s.bodies bodies (start_vals s.start) 0 scoped a.narrower k ready.1 in
      record { derives = (a.derives, b.derives); narrower = λ n j. elim (In-cases n (start_vals s.start) (bodies_vals s.bodies) j) [ inl l ↦ a.narrower n l | inr l ↦ b.narrower n l ] }

-- over the types that are given every `val` is ready
module _ (y : Reading) (w : Lawful y) (same : y.Kind → y.Kind → Truth) (z : Exact y same) (p : Program) (s : Scope) (locals : List y.Kind) where
  pub ready_itself : (owner : Option ℕ) (n : ℕ) (typ : Option TypeRef) (x : Value) → ValReady y w same z p s locals locals owner n typ x
  ready_itself owner n None (Plain x) = λ u e a. (u, e, a, inl refl)
  ready_itself owner n None (If q test first second) = tt
  ready_itself owner n (Some t) x = λ u e f. subst (λ v. slice_get locals n ≡ Some v) f e

  given_written : ScopeFits p s → (start : BodyDerivation y.Kind) (bodies : List (BodyDerivation y.Kind)) → DerivesStart y s locals start s.start → DerivesBodies y s locals bodies s.bodies → DerivesScope y s (canonical_scope y same s locals)
  given_written fits start bodies h k = (scope_written y w same z p s locals locals fits start bodies h k (always_vals (ValReady y w same z p s locals locals) ready_itself s)).derives

-- over types that are settled every `val` is ready
module _ (y : Reading) (w : Lawful y) (same : y.Kind → y.Kind → Truth) (z : Exact y same) (p : Program) (s : Scope) (least given : List y.Kind) where
  ready_settled : (owner : Option ℕ) (n : ℕ) (typ : Option TypeRef) (x : Value) → IsSettled y same s least owner n typ x → IsSettled y same s least owner n typ x → ValReady y w same z p s least given owner n typ x
  ready_settled owner n None (Plain x) h g = λ u e a. ((canonical_expr y same s least owner x).typ, h, inl refl, a)
  ready_settled owner n None (If q test first second) h g = tt
  ready_settled owner n (Some t) x h g = λ u e f. h

  -- .. in the whole scope
  pub settled_ready : EachVal (IsSettled y same s least) s → EachVal (ValReady y w same z p s least given) s
  settled_ready h = implied_vals (IsSettled y same s least) (IsSettled y same s least) (ValReady y w same z p s least given) ready_settled s h h

-- the types that are found one after the other have settled
module _ (y : Reading) (same : y.Kind → y.Kind → Truth) (p : Program) (s : Scope) where
  -- what the start finds, and the bodies after it
  pub start_step : (st : Start) → Step y same (start_vals st) [] (settle_start y same s st)
  start_step (Init values) = values_step y same s None values []
  start_step (Run block) = block_step y same s None block []

  pub bodies_step : (bs : List Body) (us : List y.Kind) → Step y same (bodies_vals bs) us (settle_bodies y same s bs us)
  bodies_step [] us = no_step y same us
  bodies_step (b ∷ bs) us =
      let a = settle_block y same s (Some b.owner) b.block us in
      steps y same (block_vals b.block) (bodies_vals bs) us a (settle_bodies y same s bs a) (block_step y same s (Some b.owner) b.block us) (bodies_step bs a)

  module _ (final : List y.Kind) where
    -- .. whatever is seen
    seeing : (owner other : Option ℕ) (Done : ℕ → Type 0) (us ws : List y.Kind) (old seen : List Variable) (vals : List ℕ) → Ahead y same s owner p final Done us ws old vals → ((m : ℕ) → In (Local m) seen → Done m) → Ahead y same s other p final Done us ws seen vals
    seeing owner other Done us ws old seen vals h f = record { seen_done = f; there = h.there; apart = h.apart; fresh = h.fresh; keeps = h.keeps }

    start_settled : (st : Start) → StartFits p s st → Ahead y same s None p final (λ m. ⊥) [] (settle_start y same s st) [] (start_vals st) → EachInStart (IsSettled y same s final) st
    start_settled (Init values) fit h = values_settled y same s None p final values (λ m. ⊥) [] [] fit.1 h
    start_settled (Run block) fit h = block_settled y same s None p final block (λ m. ⊥) [] [] fit h

    sees : (i : ℕ) (b : Body) (before : List ℕ) (Done : ℕ → Type 0) → ((n : ℕ) → In (Local n) (literal_captures (slice_get s.literals b.owner)) → In n before) → ((n : ℕ) → In n before → Done n) →
        (n : ℕ) → In (Local n) (literal_captures (slice_get s.literals b.owner) ++ body_parameters i b) → Done n
    sees i b before Done c h n j =
        elim (In-cases (Local n) (literal_captures (slice_get s.literals b.owner)) (body_parameters i b) j) [
          | inl l ↦ h n (c n l)
          | inr l ↦ absurd (let r = In-unmap (λ k. Parameter i k) (Local n) _ l in parameter_not_local i r.0 n r.2)
        ]
      where
        parameter_not_local : (i j n : ℕ) → Parameter i j ≡ Local n → ⊥
        parameter_not_local i j n e = absurd (cc)

    bodies_settled : (bs : List Body) (before : List ℕ) (i : ℕ) (Done : ℕ → Type 0) (us : List y.Kind) → BodiesScoped p s before i bs → ((n : ℕ) → In n before → Done n) →
        Ahead y same s None p final Done us (settle_bodies y same s bs us) [] (bodies_vals bs) → EachInBodies (IsSettled y same s final) bs
    bodies_settled [] before i Done us scoped ok h = tt
    bodies_settled (b ∷ bs) before i Done us scoped ok h =
        let a = settle_block y same s (Some b.owner) b.block us in
        let c = settle_bodies y same s bs a in
        let vals = block_vals b.block in
        let one = ahead_first y same s None p final Done us a c [] vals (bodies_vals bs) (bodies_step bs a) h in
        let two = ahead_other y same s None p final Done us a c [] vals (bodies_vals bs) (block_step y same s (Some b.owner) b.block us) h in
        let seen = literal_captures (slice_get s.literals b.owner) ++ body_parameters i b in (
          block_settled y same s (Some b.owner) p final b.block Done us seen scoped.0.1 (seeing None (Some b.owner) Done us a [] seen vals one (sees i b before Done scoped.1 ok)),
          bodies_settled bs (before ++ vals) (i + 1) (λ m. Done m ⊎ In m vals) a scoped.2 (λ n j. elim (In-cases n before vals j) [ inl l ↦ inl (ok n l) | inr l ↦ inr l ]) two,
        )

  -- each `val` of the scope is settled
  pub scope_settled : ScopeFits p s → EachVal (IsSettled y same s (canonical_locals y same s)) s
  scope_settled fits =
      let scoped : BodiesScoped p s (start_vals s.start) 0 s.bodies = bodies_scoped p s (start_vals s.start) 0 s.bodies (λ j b e. (let eq : j ≡ 0 + j = omega arith in subst (λ v. BodyFits p s v b) eq (fits.bodies j b e))) fits.captured in
      let final = canonical_locals y same s in
      let a = settle_start y same s s.start in
      let whole : Ahead y same s None p final (λ m. ⊥) [] final [] (start_vals s.start ++ bodies_vals s.bodies) = record {
        seen_done = λ m i. i;
        there = λ m d. absurd d;
        apart = fits.vals;
        fresh = λ m d i. d;
        keeps = λ m v o e. e;
      } in (
        start_settled final s.start fits.starts.1 (ahead_first y same s None p final (λ m. ⊥) [] a final [] (start_vals s.start) (bodies_vals s.bodies) (bodies_step s.bodies a) whole),
        bodies_settled final s.bodies (start_vals s.start) 0 (λ m. ⊥ ⊎ In m (start_vals s.start)) a scoped (λ n i. inr i)
            (ahead_other y same s None p final (λ m. ⊥) [] a final [] (start_vals s.start) (bodies_vals s.bodies) (start_step s.start) whole),
      )

pub canonical_derivation_holds : CanonicalDerivationHolds
canonical_derivation_holds p k s fits locals h =
    let y = scope_reading p k s in
    let rest = right p k s locals (pure_nodes s s.kind) (start_nodes s s.start ++ (bodies_nodes s s.bodies ++ seal_nodes s s.ascribed)) h in
    let others = right p k s locals (start_nodes s s.start) (bodies_nodes s s.bodies ++ seal_nodes s s.ascribed) rest in
    let a = start_holds p k s locals s.start (left p k s locals (start_nodes s s.start) (bodies_nodes s s.bodies ++ seal_nodes s s.ascribed) rest) in
    let b = bodies_hold p k s locals s.bodies (left p k s locals (bodies_nodes s s.bodies) (seal_nodes s s.ascribed) others) in
    given_written y (reading_lawful p k (is_plain s.kind)) (same_read p k (is_plain s.kind)) (kinds_exact p k (is_plain s.kind)) p s locals fits a.0 b.0 a.1 b.1

pub scopes_have_canonical_derivations : ScopesHaveCanonicalDerivations
scopes_have_canonical_derivations p k s fits h =
    let y = scope_reading p k s in
    let same = same_read p k (is_plain s.kind) in
    let w = reading_lawful p k (is_plain s.kind) in
    let z = kinds_exact p k (is_plain s.kind) in
    let d = h.derivation in
    let a = scope_settled y same p s fits in
    (a, (scope_written y w same z p s (locals_of p k s) d.locals fits d.start d.bodies h.derives.0 h.derives.1 (settled_ready y w same z p s (locals_of p k s) d.locals a)).derives)
