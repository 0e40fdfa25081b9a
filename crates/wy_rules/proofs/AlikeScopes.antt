-- The nodes of a scope pass and fail alike, whatever the types of its `val`s are said to be.
use Rattle.std.proofs.Common.{◌≡◌, ℕ, ◌+◌, List, [], ◌∷◌, ◌++◌, map, inl, inr, sym, ◌∙◌, subst, Option, Some, None, true, false, arith}
use Rattle.std.specs.Prelude.{slice_get, if◌then◌else◌}
use Rattle.wy_text.specs.declared.fault.Place.{Place}
use Rattle.wy_text.specs.declared.fault.RuleName.TheVariants.{TBody, MPure, MAscribe}
use Rattle.wy_text.specs.Members.{In}
use Rattle.wy_effects.specs.Bounds.{GoDown}
use Rattle.wy_text.proofs.Lists.{In-cases}
use Rattle.wy_types.specs.declared.types.TypeRef.{TypeRef}
use Rattle.wy_types.specs.declared.types.TypeRef.TheVariants.{Unit as Nothing}
use Rattle.wy_types.specs.declared.code.Variable.{Variable}
use Rattle.wy_types.specs.declared.resolved.Field.{Field}
use Rattle.wy_types.specs.declared.resolved.OwnName.{OwnName}
use Rattle.wy_types.specs.declared.resolved.Origin.{Origin}
use Rattle.wy_types.specs.declared.resolved.Origin.TheVariants.{Parameter, Grant, Use, Instance, Import}
use Rattle.wy_types.specs.declared.resolved.ScopeKind.{ScopeKind}
use Rattle.wy_types.specs.declared.resolved.ScopeKind.TheVariants.{Pure, Resource, Plain as Unannotated, Program as Main}
use Rattle.wy_types.specs.Code.{Values, Block}
use Rattle.wy_types.specs.Program.{Program, Scope, Body, Start, Init, Run}
use Rattle.wy_types.specs.Types.{is_plain}
use Rattle.wy_types.specs.Bounds.{bounds_of}
use Rattle.wy_types.specs.Core.{ScopeFits, StartFits, BodyFits, ValuesFit, BlockFits, body_parameters}
use Rattle.wy_types.specs.Vals.{literal_captures, start_vals, block_vals}
use Rattle.wy_rules.specs.Typing.{BlockHas, AllHave, fields_of, field_types}
use Rattle.wy_rules.specs.Acceptance.{scope_reading}
use Rattle.wy_rules.specs.Nodes.{nothing, written, body, init, impure, seal, node, written_spots, values_nodes, block_nodes, start_nodes, body_nodes, bodies_nodes, var_nodes, impure_line, impure_lines, pure_nodes, seal_nodes, scope_nodes}
use Rattle.wy_rules.specs.Failing.{BodyStands, InitStands, AllPass}
use Rattle.wy_rules.proofs.Forms.{Lawful}
use Rattle.wy_rules.proofs.Narrowing.{Narrower, AllNarrower, ValuesReady, BlockReady, narrow_values, narrow_block}
use Rattle.wy_rules.proofs.Passing.{left, right, start_holds}
use Rattle.wy_rules.proofs.Standing.{reading_lawful, values_ready, block_ready}
use Rattle.wy_rules.proofs.Holding.{BodiesScoped, bodies_scoped, nothing_seen, start_narrower, seen_narrower}
use Rattle.wy_rules.proofs.Outside.{seal_same}
use Rattle.wy_rules.proofs.AlikeFails.{reading_tells, Shrinks, body_same, init_same}
use Rattle.wy_rules.proofs.Alike.{NodeAlike, Alike, append, alone, node_alike, nothing_alike, written_alike, written_all_alike, Sight, values_alike, block_alike}

------------------------------------------------------------
-- From one list to the other

module _ (p : Program) (k : ℕ) (s : Scope) (w : Lawful (scope_reading p k s)) (from into : List (scope_reading p k s).Kind) where
  block_shrinks : (owner : Option ℕ) (b : Block) (seen : List Variable) → BlockFits p s owner seen b → AllNarrower (scope_reading p k s) w p s into from seen → BlockReady (scope_reading p k s) w p s into from owner b → (t : (scope_reading p k s).Kind) →
      Shrinks (scope_reading p k s) w s owner (BlockHas (scope_reading p k s) s from owner b t) (BlockHas (scope_reading p k s) s into owner b t)
  block_shrinks owner b seen fit ok ready t f h = let n = narrow_block (scope_reading p k s) w p s into from owner b seen fit ok ready t f h in (n.effect, n.has, n.within)

  values_shrink : (owner : Option ℕ) (xs : Values) (seen : List Variable) → ValuesFit p s owner seen xs → AllNarrower (scope_reading p k s) w p s into from seen → ValuesReady (scope_reading p k s) w p s into from owner xs → (ts : List (scope_reading p k s).Kind) →
      Shrinks (scope_reading p k s) w s owner (AllHave (scope_reading p k s) s from owner xs ts) (AllHave (scope_reading p k s) s into owner xs ts)
  values_shrink owner xs seen fit ok ready ts f h = let n = narrow_values (scope_reading p k s) w p s into from owner xs seen fit ok ready ts f h in (n.effect, n.have, n.within)

  body_moves : (owner : Option ℕ) (b : Block) (t : TypeRef) (e : List ℕ) →
      Shrinks (scope_reading p k s) w s owner (BlockHas (scope_reading p k s) s from owner b ((scope_reading p k s).read t)) (BlockHas (scope_reading p k s) s into owner b ((scope_reading p k s).read t)) →
      BodyStands (scope_reading p k s) s from owner b t e → BodyStands (scope_reading p k s) s into owner b t e
  body_moves owner b t e m h = let r = m h.0 h.1 in (r.0, r.1, w.onward r.0 h.0 ((scope_reading p k s).effect e) r.2 h.2)

  init_moves : (owner : Option ℕ) (xs : Values) (e : List ℕ) →
      Shrinks (scope_reading p k s) w s owner (AllHave (scope_reading p k s) s from owner xs (map (scope_reading p k s).read (field_types s 0))) (AllHave (scope_reading p k s) s into owner xs (map (scope_reading p k s).read (field_types s 0))) →
      InitStands (scope_reading p k s) s from owner xs e → InitStands (scope_reading p k s) s into owner xs e
  init_moves owner xs e m h = let r = m h.0 h.1 in (r.0, r.1, w.onward r.0 h.0 ((scope_reading p k s).effect e) r.2 h.2)

  -- the `val`s of a start, and of a body, that pass over both lists
  passed_start : (st : Start) → StartFits p s st → AllPass p k s from (start_nodes s st) → AllPass p k s into (start_nodes s st) → (n : ℕ) → In n (start_vals st) → Narrower (scope_reading p k s) w p s into from n
  passed_start st fit a b = let d = start_holds p k s from st a in start_narrower p k s w into from st d.0 fit d.1 b

  passed_body : (b : Body) (seen : List Variable) → BlockFits p s (Some b.owner) seen b.block → AllNarrower (scope_reading p k s) w p s into from seen → AllPass p k s from (body_nodes s b) → AllPass p k s into (body_nodes s b) →
      (n : ℕ) → In n (block_vals b.block) → Narrower (scope_reading p k s) w p s into from n
  passed_body b seen fit ok g h =
      let nodes = block_nodes s (Some b.owner) (written b.signature.result) b.block in
      let stands = (right p k s from nodes _ g).0.stands in
      (narrow_block (scope_reading p k s) w p s into from (Some b.owner) b.block seen fit ok (block_ready p k s w into from (Some b.owner) b.block (written b.signature.result) (left p k s into nodes _ h)) ((scope_reading p k s).read b.signature.result)
      stands.0 stands.1).narrower

module _ (p : Program) (k : ℕ) (s : Scope) (down : GoDown (bounds_of p k)) (w : Lawful (scope_reading p k s)) (one other : List (scope_reading p k s).Kind) where
  ------------------------------------------------------------
  -- What a pure module may not have, and the seal

  impure_alike : (place : Place) (n : ℕ) → NodeAlike p k s one other (node place MPure None nothing (impure n))
  impure_alike place n =
      node_alike p k s one other (node place MPure None nothing (impure n)) (nothing_alike p k s one other None) (λ o u e h. h) (λ o u e h. h) (λ o u i j a b e z h v. (h.0 ∙ sym v.0, h.1 ∙ sym v.1))

  vars_alike : (fs : List Field) → Alike p k s one other (var_nodes s fs)
  vars_alike [] = tt
  vars_alike (f ∷ fs) =
      elim f.mutable as (λ b. Alike p k s one other (if b then node f.place MPure None nothing (impure 1) ∷ var_nodes s fs else var_nodes s fs)) [
        | true ↦ (impure_alike f.place 1, λ a b. vars_alike fs)
        | false ↦ vars_alike fs
      ]

  impure_line_alike : (n : OwnName) (o : Origin) → Alike p k s one other (impure_line s n o)
  impure_line_alike n (Parameter bare) = tt
  impure_line_alike n Grant = tt
  impure_line_alike n (Use m) = tt
  impure_line_alike n (Instance m arguments) = alone p k s one other _ (impure_alike n.place 2)
  impure_line_alike n (Import m arguments bound) = alone p k s one other _ (impure_alike n.place 2)

  impure_lines_alike : (ns : List OwnName) → Alike p k s one other (impure_lines s ns)
  impure_lines_alike [] = tt
  impure_lines_alike (n ∷ ns) = append p k s one other (impure_line s n n.origin) (impure_lines s ns) (impure_line_alike n n.origin) (λ a b. impure_lines_alike ns)

  pure_alike : (kind : ScopeKind) → Alike p k s one other (pure_nodes s kind)
  pure_alike Pure = append p k s one other (var_nodes s (fields_of s 0)) (impure_lines s s.names) (vars_alike (fields_of s 0)) (λ a b. impure_lines_alike s.names)
  pure_alike Resource = tt
  pure_alike Unannotated = tt
  pure_alike Main = tt

  seal_alike : (o : Option ℕ) → Alike p k s one other (seal_nodes s o)
  seal_alike None = tt
  seal_alike (Some d) =
      alone p k s one other _
      (node_alike p k s one other (node s.place MAscribe None nothing seal) (nothing_alike p k s one other None) (λ o u e h. h) (λ o u e h. h) (λ o u i j a b e z h v. seal_same p k s i j a b h v))

  ------------------------------------------------------------
  -- Bodies

  body_alike : (place : Place) (owner : Option ℕ) (b : Block) (t : TypeRef) (e : List ℕ) (seen : List Variable) → BlockFits p s owner seen b → Sight p k s w one other owner seen →
      AllPass p k s one (block_nodes s owner (written t) b) → AllPass p k s other (block_nodes s owner (written t) b) → NodeAlike p k s one other (node place TBody owner nothing (body b t e))
  body_alike place owner b t e seen fit ok f g =
      let there = block_shrinks p k s w one other owner b seen fit ok.1 (block_ready p k s w other one owner b (written t) g) ((scope_reading p k s).read t) in
      let back = block_shrinks p k s w other one owner b seen fit ok.0 (block_ready p k s w one other owner b (written t) f) ((scope_reading p k s).read t) in
      node_alike p k s one other (node place TBody owner nothing (body b t e)) (nothing_alike p k s one other owner)
      (λ o u v h. body_moves p k s w one other owner b t e there h) (λ o u v h. body_moves p k s w other one owner b t e back h)
      (λ o u m n i j v z h l. body_same (scope_reading p k s) w s owner one other (reading_tells p k down (is_plain s.kind)) b t e m n i j there back z h l)

  init_alike : (xs : Values) → ValuesFit p s None [] xs → AllPass p k s one (values_nodes s None (written_spots (field_types s 0)) xs) → AllPass p k s other (values_nodes s None (written_spots (field_types s 0)) xs) →
      NodeAlike p k s one other (node s.start_place TBody None nothing (init xs s.start_effect))
  init_alike xs fit f g =
      let spots = written_spots (field_types s 0) in
      let ts = map (scope_reading p k s).read (field_types s 0) in
      let there = values_shrink p k s w one other None xs [] fit (nothing_seen p k s w other one) (values_ready p k s w other one None xs spots g) ts in
      let back = values_shrink p k s w other one None xs [] fit (nothing_seen p k s w one other) (values_ready p k s w one other None xs spots f) ts in
      node_alike p k s one other (node s.start_place TBody None nothing (init xs s.start_effect)) (nothing_alike p k s one other None)
      (λ o u v h. init_moves p k s w one other None xs s.start_effect there h) (λ o u v h. init_moves p k s w other one None xs s.start_effect back h)
      (λ o u m n i j v z h l. init_same (scope_reading p k s) w s None one other (reading_tells p k down (is_plain s.kind)) xs s.start_effect m n i j there back z h l)

  start_alike : (st : Start) → StartFits p s st → Alike p k s one other (start_nodes s st)
  start_alike (Init values) fit =
      let spots = written_spots (field_types s 0) in
      append p k s one other (values_nodes s None spots values) _
      (values_alike p k s w one other None values spots [] fit.1 (nothing_seen p k s w one other, nothing_seen p k s w other one) (written_all_alike p k s one other None (field_types s 0)))
      (λ a b. alone p k s one other _ (init_alike values fit.1 a b))
  start_alike (Run block) fit =
      let sight : Sight p k s w one other None [] = (nothing_seen p k s w one other, nothing_seen p k s w other one) in
      append p k s one other (block_nodes s None (written Nothing) block) _ (block_alike p k s w one other None block (written Nothing) [] fit sight (written_alike p k s one other None Nothing))
      (λ a b. alone p k s one other _ (body_alike s.start_place None block Nothing s.start_effect [] fit sight a b))

  bodies_alike : (bs : List Body) (before : List ℕ) (i : ℕ) → BodiesScoped p s before i bs →
      ((n : ℕ) → In n before → Narrower (scope_reading p k s) w p s one other n) → ((n : ℕ) → In n before → Narrower (scope_reading p k s) w p s other one n) → Alike p k s one other (bodies_nodes s bs)
  bodies_alike [] before i scoped ok ok' = tt
  bodies_alike (b ∷ bs) before i scoped ok ok' =
      let seen = literal_captures (slice_get s.literals b.owner) ++ body_parameters i b in
      let sight : Sight p k s w one other (Some b.owner) seen = (seen_narrower p k s w one other i b before scoped.1 ok, seen_narrower p k s w other one i b before scoped.1 ok') in
      let nodes = block_nodes s (Some b.owner) (written b.signature.result) b.block in
      append p k s one other (body_nodes s b) (bodies_nodes s bs)
      (append p k s one other nodes _ (block_alike p k s w one other (Some b.owner) b.block (written b.signature.result) seen scoped.0.1 sight (written_alike p k s one other (Some b.owner) b.signature.result))
      (λ a c. alone p k s one other _ (body_alike b.place (Some b.owner) b.block b.signature.result b.signature.effect seen scoped.0.1 sight a c)))
      (λ a c. bodies_alike bs (before ++ block_vals b.block) (i + 1) scoped.2
      (λ n j. elim (In-cases n before (block_vals b.block) j) [ inl l ↦ ok n l | inr l ↦ passed_body p k s w other one b seen scoped.0.1 sight.0 c a n l ])
      (λ n j. elim (In-cases n before (block_vals b.block) j) [ inl l ↦ ok' n l | inr l ↦ passed_body p k s w one other b seen scoped.0.1 sight.1 a c n l ]))

  ------------------------------------------------------------
  -- All nodes of a scope

  nodes_alike : ScopeFits p s → Alike p k s one other (scope_nodes s)
  nodes_alike fits =
      let scoped : BodiesScoped p s (start_vals s.start) 0 s.bodies = bodies_scoped p s (start_vals s.start) 0 s.bodies (λ j b e. (let same : j ≡ 0 + j = omega arith in subst (λ v. BodyFits p s v b) same (fits.bodies j b e))) fits.captured in
      append p k s one other (pure_nodes s s.kind) _ (pure_alike s.kind)
      (λ a b. append p k s one other (start_nodes s s.start) _ (start_alike s.start fits.starts.1)
      (λ c d. append p k s one other (bodies_nodes s s.bodies) _
      (bodies_alike s.bodies (start_vals s.start) 0 scoped (passed_start p k s w other one s.start fits.starts.1 d c) (passed_start p k s w one other s.start fits.starts.1 c d))
      (λ e f. seal_alike s.ascribed)))

pub scope_alike : (p : Program) (k : ℕ) (s : Scope) (one other : List (scope_reading p k s).Kind) → GoDown (bounds_of p k) → ScopeFits p s → Alike p k s one other (scope_nodes s)
scope_alike p k s one other down fits = nodes_alike p k s down (reading_lawful p k (is_plain s.kind)) one other fits
