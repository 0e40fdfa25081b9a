-- A scope passes or has a fault: its start, its bodies in their order and its seal are judged, with no table that may want memory.
use Rattle.std.proofs.Common.{◌≡◌, ℕ, suc, ◌+◌, List, [], ◌∷◌, ◌⊎◌, inl, inr, length, refl, sym, subst, ◌∙◌, Option, Some, None, Bool as Truth, true, false, map, arith}
use Rattle.std.specs.Prelude.{slice_get}
use Rattle.wy_text.specs.declared.fault.Fault.{Fault}
use Rattle.wy_text.specs.declared.fault.RuleName.TheVariants.{MAscribe}
use Rattle.wy_text.specs.Members.{In}
use Rattle.wy_effects.specs.Widened.{widened_set}
use Rattle.wy_text.proofs.Lists.{In-slice_get}
use Rattle.wy_types.specs.declared.types.TypeRef.{TypeRef}
use Rattle.wy_types.specs.declared.types.TypeRef.TheVariants.{Unit as Nothing, Named, Own}
use Rattle.wy_types.specs.Code.{Values}
use Rattle.wy_types.specs.Core.{IsCore}
use Rattle.wy_types.specs.Vals.{start_vals, values_vals}
use Rattle.wy_types.specs.Program.{Program, Scope, Body, Start, Init, Run}
use Rattle.wy_types.specs.Types.{is_plain}
use Rattle.wy_types.specs.Bounds.{bounds_of, declared_bounds}
use Rattle.wy_types.proofs.Bounding.{go_down}
use Rattle.wy_rules.specs.Typing.{fields_of, field_types}
use Rattle.wy_rules.specs.Acceptance.{scope_reading}
use Rattle.wy_rules.specs.Nodes.{start_nodes, body_nodes, bodies_nodes, written_spots}
use Rattle.wy_judge.specs.Accepting.{IsScopeDecided}
use Rattle.wy_judge.specs.Fits.{Fits}
use Rattle.wy_judge.specs.declared.scopes.Judged.TheVariants.{Passes, Fails}
use Rattle.wy_judge.specs.Outcomes.{fault_at, lack_fault, pure_fault, body_fault, init_fault, NoneFails}
use Rattle.wy_judge.specs.Judged.{NodesJudged, FitsLack}
use Rattle.wy_judge.specs.Judging.{NoFault}
use Rattle.wy_judge.specs.Tables.{Table, IsScopeOf, Agrees, Moves}
use Rattle.wy_judge.specs.Targets.{mode_of}
use Rattle.wy_judge.specs.Walking.{Walked, WalkedAll, StartsTo, BodyTo, BodiesTo, IsSealFault, IsMembersFault, SealAfter, settled_types, IsJudged}
use Rattle.wy_judge.proofs.AtOnce.{ValuesFit}
use Rattle.wy_judge.proofs.Bodies.{both_judged, init_judged}
use Rattle.wy_judge.proofs.Contexts.{lawful, in_range, own_in_range, fields_in_range, result_in_range, sealed_in_range, scope_fits}
use Rattle.wy_judge.proofs.Expecting.{written_expected}
use Rattle.wy_judge.proofs.Judgings.{judged_pure, judged_start}
use Rattle.wy_judge.proofs.LacksDecided.{fit_lack_decided, fits_lack_decided}
use Rattle.wy_judge.proofs.Lists.{fail_left}
use Rattle.wy_judge.proofs.Moving.{moves_under}
use Rattle.wy_judge.proofs.BoundsDecided.{outside_decided}
use Rattle.wy_judge.proofs.PartsDecided.{values_decided, block_decided}
use Rattle.wy_judge.proofs.ScopeParts.{wide_is, fit_lacks, fits_lack, owner_there, fails_after, passes_after}
use Rattle.wy_judge.proofs.Seals.{not_sealed, plain_members, members_respect, member_outside, seal_fails, seal_by_members}
use Rattle.wy_judge.proofs.Starting.{values_start, values_as_many, block_start, init_stands, run_to, body_to}
use Rattle.wy_judge.proofs.SubtypesDecided.{subtype_decided}
use Rattle.wy_judge.proofs.Walks.{walked_start, body_ready, walked_more}

module _ (p : Program) (k : ℕ) (s : Scope) (c : IsScopeOf p k s) where
  ------------------------------------------------------------
  -- The start and a body

  starts_with : (xs : Values) (new : Table) (u : Fits) (lack : Option ℕ) → s.start ≡ Init xs → ValuesFit p k s None [] new xs (field_types s 0) u → FitsLack p k s u s.start_effect lack →
      StartsTo p k s [] new (init_fault s.start_place s.atoms lack u)
  starts_with xs new u lack e h l =
      let o = init_fault s.start_place s.atoms lack u in
      let moves : Moves p k s [] new (values_vals xs) (NoFault o) = moves_under p k s [] new (values_vals xs) (NoneFails u) (NoFault o) h.moves (init_stands s.start_place s.atoms lack u) in
      let judged = λ (locals : List (scope_reading p k s).Kind) (a : Agrees (scope_reading p k s) locals new).
      init_judged p k s (lawful p k s) locals xs u lack (h.judged locals a (written_spots (field_types s 0)) (written_expected p k s None locals (field_types s 0))) l in
      at_start (Init xs) new o e moves judged
    where
      at_start : (start : Start) (new : Table) (o : Option Fault) → s.start ≡ start → Moves p k s [] new (start_vals start) (NoFault o) →
          ((locals : List (scope_reading p k s).Kind) → Agrees (scope_reading p k s) locals new → NodesJudged p k s locals (start_nodes s start) o) → StartsTo p k s [] new o
      at_start start new o e m j = record {
        moves = subst (λ (v : Start). Moves p k s [] new (start_vals v) (NoFault o)) (sym e) m;
        judged = λ locals a. subst (λ (v : Start). NodesJudged p k s locals (start_nodes s v) o) (sym e) (j locals a);
      }

  abbrev StartsSomehow : Type 0
  StartsSomehow = (new : Table) × (o : Option Fault) × StartsTo p k s [] new o

  start_by : (start : Start) → s.start ≡ start → StartsSomehow
  start_by (Init xs) e =
      let d = values_decided p k s c None tt xs in
      let a = d.fit_at [] (field_types s 0) (fields_in_range p k s c 0) (values_as_many p k s c xs e) (values_start p k s c xs e) in
      let lack = fits_lack_decided (mode_of (is_plain s.kind)) a.1 (widened_set (bounds_of p k) s.start_effect) in
      (a.0, init_fault s.start_place s.atoms lack.0 a.1, starts_with xs a.0 a.1 lack.0 e a.2 (fits_lack p k s s.start_effect _ (wide_is p k s c s.start_effect) a.1 lack.0 lack.1))
  start_by (Run x) e =
      let d = block_decided p k s c None tt x in
      let a = d.fits_at [] Nothing tt (block_start p k s c x e) in
      let lack = fit_lack_decided (mode_of (is_plain s.kind)) a.1 (widened_set (bounds_of p k) s.start_effect) in
      (a.0, body_fault s.start_place s.atoms lack.0 a.1, run_to p k s x a.0 a.1 lack.0 e a.2 (fit_lacks p k s s.start_effect _ (wide_is p k s c s.start_effect) a.1 lack.0 lack.1))

  body_decided : (old : Table) (b : Body) (i : ℕ) → Walked p k s old i → slice_get s.bodies i ≡ Some b → (new : Table) × (o : Option Fault) × BodyTo p k s old new b o
  body_decided old b i w e =
      let among : In b s.bodies = In-slice_get s.bodies i b e in
      let d = block_decided p k s c (Some b.owner) (owner_there p k s c b among) b.block in
      let a = d.fits_at old b.signature.result (result_in_range p k s c b among) (body_ready p k s c old i b w e) in
      let lack = fit_lack_decided (mode_of (is_plain s.kind)) a.1 (widened_set (bounds_of p k) b.signature.effect) in
      (a.0, body_fault b.place s.atoms lack.0 a.1, body_to p k s b old a.0 a.1 lack.0 a.2 (fit_lacks p k s b.signature.effect _ (wide_is p k s c b.signature.effect) a.1 lack.0 lack.1))

  ------------------------------------------------------------
  -- Bodies in their order

  record RestTo (old new : Table) (rest : List Body) (o : Option Fault) : Type 0 where
    keeps : (n : ℕ) (t : TypeRef) → slice_get old n ≡ Some (Some t) → slice_get new n ≡ Some (Some t)
    walked : WalkedAll p k s new o
    judged : (locals : List (scope_reading p k s).Kind) → Agrees (scope_reading p k s) locals new → NodesJudged p k s locals (bodies_nodes s rest) o

  abbrev RestSomehow : Table → List Body → Type 0
  RestSomehow old rest = (new : Table) × (o : Option Fault) × RestTo old new rest o

  -- the rest are the bodies from a number on
  abbrev IsRest : List Body → ℕ → Type 0
  IsRest rest i = (length s.bodies ≡ i + length rest) × ((j : ℕ) (b : Body) → slice_get rest j ≡ Some b → slice_get s.bodies (i + j) ≡ Some b)

  then_rest : (old mid : Table) (b : Body) (rest : List Body) (o : Option Fault) → BodyTo p k s old mid b o → (NoFault o → RestSomehow mid rest) → RestSomehow old (b ∷ rest)
  then_rest old mid b rest (Some fault) h go = (
    mid,
    Some fault,
    record {
      keeps = h.moves.keeps;
      walked = tt;
      judged = λ locals a. stops_at locals (h.judged locals a);
    },
  )
    where
      stops_at : (locals : List (scope_reading p k s).Kind) → NodesJudged p k s locals (body_nodes s b) (Some fault) → NodesJudged p k s locals (bodies_nodes s (b ∷ rest)) (Some fault)
      stops_at locals g = fail_left p k s locals (body_nodes s b) (bodies_nodes s rest) fault g
  then_rest old mid b rest None h go =
      let r = go tt in (
        r.0,
        r.1,
        record {
          keeps = λ n t e. r.2.keeps n t (h.moves.keeps n t e);
          walked = r.2.walked;
          judged = λ locals a. both_judged p k s locals (body_nodes s b) (bodies_nodes s rest) None r.1 (h.judged locals (λ n t e. a n t (r.2.keeps n t e))) (r.2.judged locals a);
        },
      )

  bodies_from : (rest : List Body) (i : ℕ) (old : Table) → IsRest rest i → Walked p k s old i → RestSomehow old rest
  bodies_from [] i old is w =
      let all : length s.bodies ≡ i = is.0 ∙ (let none : i + 0 ≡ i = omega arith in none) in
      (old, None, record { keeps = λ n t e. e; walked = subst (λ z. Walked p k s old z) (sym all) w; judged = λ locals a. tt })
  bodies_from (b ∷ rest) i old is w =
      let here : i + 0 ≡ i = omega arith in
      let e : slice_get s.bodies i ≡ Some b = subst (λ z. slice_get s.bodies z ≡ Some b) here (is.1 0 b refl) in
      let a = body_decided old b i w e in
      then_rest old a.0 b rest a.1 a.2
      (λ passes.
      bodies_from rest (i + 1) a.0 (
        is.0 ∙ (let more : i + suc (length rest) ≡ i + 1 + length rest = omega arith in more),
        λ j d g. (let next : i + suc j ≡ i + 1 + j = omega arith in subst (λ z. slice_get s.bodies z ≡ Some d) next (is.1 (suc j) d g)),
      )
      (walked_more p k s c old i b w e a.0 (subst (λ o. BodyTo p k s old a.0 b o) (no_fault a.1 passes) a.2)))
    where
      no_fault : (o : Option Fault) → NoFault o → o ≡ None
      no_fault None h = refl
      no_fault (Some fault) h = absurd h

  bodies_decided : (old : Table) → Walked p k s old 0 → (new : Table) × (o : Option Fault) × BodiesTo p k s old new o
  bodies_decided old w =
      let whole : IsRest s.bodies 0 = (
        (let n : length s.bodies ≡ 0 + length s.bodies = omega arith in n),
        λ j b e. (let same : j ≡ 0 + j = omega arith in subst (λ z. slice_get s.bodies z ≡ Some b) same e),
      ) in
      let r = bodies_from s.bodies 0 old whole w in
      (r.0, r.1, record { keeps = r.2.keeps; walked = r.2.walked; judged = r.2.judged })

  ------------------------------------------------------------
  -- The seal, and the whole

  members_decided : (d : ℕ) → s.ascribed ≡ Some d → (plain : Truth) → is_plain s.kind ≡ plain → (q : Option Fault) × IsMembersFault p k s q
  members_decided d e true plain = (None, plain_members p k s d e plain)
  members_decided d e false plain =
      elim (outside_decided (declared_bounds p d) (bounds_of p k) (go_down p (in_range p k s c) k) s.definitions) [
        | inl respect ↦ (None, members_respect p k s d e plain respect)
        | inr one ↦ (lack_fault s.place MAscribe s.atoms (Some one.0), member_outside p k s d e plain one.0 one.1)
      ]

  sealed_by : (o : Option ℕ) → s.ascribed ≡ o → (q : Option Fault) × IsSealFault p k s q
  sealed_by None e = (None, not_sealed p k s e)
  sealed_by (Some d) e =
      elim (subtype_decided p (in_range p k s c) k (mode_of (is_plain s.kind)) (Own 0) (Named d s.definitions) (own_in_range p k s c 0 (scope_fits p k s c).own_literal) (sealed_in_range p k s c d e)) [
        | inl below ↦ (let m = members_decided d e (is_plain s.kind) refl in (m.0, seal_by_members p k s d e c below m.0 m.1))
        | inr not ↦ (Some (fault_at s.place MAscribe 1), seal_fails p k s d e c not)
      ]

  abbrev Whole : Type 0
  Whole = ((types : List TypeRef) × IsJudged p k s (Passes types)) ⊎ ((fault : Fault) × IsJudged p k s (Fails fault))

  after_seal : (a z : Table) (bodies o : Option Fault) → pure_fault s.kind (fields_of s 0) s.names ≡ None → StartsTo p k s [] a None → BodiesTo p k s a z bodies → SealAfter p k s bodies o → Whole
  after_seal a z bodies None pure starts h seal = inl (settled_types z, passes_after p k s a z bodies c pure starts h seal)
  after_seal a z bodies (Some fault) pure starts h seal = inr (fault, fails_after p k s a z bodies fault pure starts h seal)

  after_bodies : (a z : Table) (bodies : Option Fault) → pure_fault s.kind (fields_of s 0) s.names ≡ None → StartsTo p k s [] a None → BodiesTo p k s a z bodies → Whole
  after_bodies a z (Some fault) pure starts h = after_seal a z (Some fault) (Some fault) pure starts h refl
  after_bodies a z None pure starts h = (let q = sealed_by s.ascribed refl in after_seal a z None q.0 pure starts h q.1)

  after_start : (a : Table) (o : Option Fault) → pure_fault s.kind (fields_of s 0) s.names ≡ None → StartsTo p k s [] a o → Whole
  after_start a (Some fault) pure starts = inr (fault, judged_start p k s a fault pure starts)
  after_start a None pure starts = (let r = bodies_decided a (walked_start p k s c a starts) in after_bodies a r.0 r.1 pure starts r.2)

  after_pure : (o : Option Fault) → pure_fault s.kind (fields_of s 0) s.names ≡ o → Whole
  after_pure (Some fault) pure = inr (fault, judged_pure p k s fault pure)
  after_pure None pure = (let r = start_by s.start refl in after_start r.0 r.1 pure r.2)

  pub judged_somehow : Whole
  judged_somehow = after_pure (pure_fault s.kind (fields_of s 0) s.names) refl

pub scope_decided : (p : Program) → IsCore p → (k : ℕ) (s : Scope) → slice_get p.scopes k ≡ Some s → IsScopeDecided p k s
scope_decided p core k s there = elim (judged_somehow p k s (record { core = core; there = there })) [
  | inl passes ↦ inl (record { locals = map (scope_reading p k s).read passes.0; nodes = passes.1.nodes })
  | inr fails ↦ inr fails
]
