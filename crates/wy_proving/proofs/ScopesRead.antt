-- The nodes of a scope are read to the end exactly where they are those of derivations of its bodies.
use Rattle.std.proofs.Common.{◌≡◌, ℕ, ◌+◌, List, [], ◌∷◌, ◌++◌, map, refl, sym, ◌∙◌, ap, subst, Option, Some, None, Bool as Truth, true, false}
use Rattle.std.specs.Prelude.{nat_eq, if◌then◌else◌}
use Rattle.wy_text.specs.declared.fault.Place.{Place}
use Rattle.wy_types.specs.declared.types.TypeRef.{TypeRef}
use Rattle.wy_types.specs.declared.types.TypeRef.TheVariants as to
use Rattle.wy_types.specs.declared.types.TypeRef.TheVariants.{Unit as Nothing}
use Rattle.wy_types.specs.Code.{Block}
use Rattle.wy_types.specs.Program.{Program, Scope, Body, Start, Init, Run}
use Rattle.wy_types.specs.Signature.{Signature, find_method}
use Rattle.wy_types.specs.Vals.{value_count}
use Rattle.wy_types.specs.Types.{IsObject, methods_of}
use Rattle.wy_rules.specs.Readings.{Reading, IsBelow, annotated_reading, plain_reading}
use Rattle.wy_rules.specs.Derivations as d
use Rattle.wy_rules.specs.Derivations.{BlockDerivation, BodyDerivation, ScopeDerivation, effects_of, block_mark}
use Rattle.wy_rules.specs.Typing.{field_types, DerivesAll, DerivesBlock, DerivesStart, DerivesBody, DerivesBodies, DerivesScope}
use Rattle.wy_rules.specs.Canonical.{same_type, both, same_numbers}
use Rattle.wy_rules.proofs.Writing.{Exact}
use Rattle.wy_rules.proofs.SameTypes.{both_left, both_right, kinds_exact}
use Rattle.wy_cert.specs.declared.certificate.Rule.TheVariants as by
use Rattle.wy_cert.specs.declared.certificate.CertNode.{CertNode}
use Rattle.wy_proving.specs.Steps.{Step, step, values_steps, block_steps, start_steps, body_steps, bodies_steps, scope_steps}
use Rattle.wy_proving.specs.Reading.{Lists, AreDerived, AreReadToEnd, AnnotatedNodesAreRead, PlainNodesAreRead, Bodies, bodies_stand, bodies_fail, bodies_then, block_then, values_then, at_end, SaysStep, SaySteps, says_rule, says_untyped, same_types, read_body_node, read_values, read_block, read_start, read_body, read_bodies}
use Rattle.wy_proving.proofs.Tests.{both_true, numbers_fit}
use Rattle.wy_proving.proofs.NodeSteps.{says_both, split, one_node}
use Rattle.wy_proving.proofs.ReadParts.{all_same, BodiesHold, bodies_after, after_block, after_values, body_node}
use Rattle.wy_proving.proofs.ReadNodes.{BlockPartHas, PartsHave, block_read, values_read}
use Rattle.wy_proving.proofs.NodesRead.{not_sub, stood, all_fit, block_back, all_back}

module _ (y : Reading) (same : y.Kind → y.Kind → Truth) (z : Exact y same) (c : Lists y.Kind)
    (pair : (a b : y.Kind) → c.listed a b ≡ true → IsBelow y a b) (incl : (e f : List ℕ) → c.includes e f ≡ true → y.Includes e f) (allow : (e f : List ℕ) → c.allows e f ≡ true → y.Allows e f)
    (object : (k : y.Kind) (name : List ℕ) (m : Signature y.Kind) → find_method name (y.methods k) ≡ Some m → y.IsObject k) (s : Scope) (locals : List y.Kind) where
  -- a body has a derivation, and the nodes say its steps before those that are left
  abbrev BodyHas : Body → List CertNode → List CertNode → Type 0
  BodyHas body ns rest = (b : BodyDerivation y.Kind) × DerivesBody y s locals b body × SaySteps c ns (body_steps y s b body) rest

  -- .. bodies
  abbrev BodiesHave : List Body → List CertNode → List CertNode → Type 0
  BodiesHave bodies ns rest = (bs : List (BodyDerivation y.Kind)) × DerivesBodies y s locals bs bodies × SaySteps c ns (bodies_steps y s bs bodies) rest

  -- .. what the scope does at its start
  abbrev StartHas : Start → List CertNode → List CertNode → Type 0
  StartHas start ns rest = (b : BodyDerivation y.Kind) × DerivesStart y s locals b start × SaySteps c ns (start_steps y s b start) rest

  -- the steps of a body: those of its block or its values, and T-Body's
  body_says : (sts : List (Step y.Kind)) (st : Step y.Kind) (ns mid : List CertNode) (n : CertNode) (rest : List CertNode) → SaySteps c ns sts mid → mid ≡ n ∷ rest → SaysStep c n st → SaySteps c ns (sts ++ st ∷ []) rest
  body_says sts st ns mid n rest h m says = says_both c sts (st ∷ []) ns mid rest h (subst (λ v. SaySteps c v (st ∷ []) rest) (sym m) (says, refl))

  -- of a block, at the type and within the effect that are asked for
  record BlockStands (owner : Option ℕ) (block : Block) (place : Place) (r : y.Kind) (declared : List ℕ) (ns rest : List CertNode) : Type 0 where
    pub derivation : BlockDerivation y.Kind
    pub effect : List ℕ
    pub derives : DerivesBlock y s locals owner derivation block r effect
    pub allowed : y.Allows effect declared
    pub consumes : SaySteps c ns (block_steps y s owner derivation block r effect ++ step by.Body place 1 None [] ∷ []) rest

  block_stands : (owner : Option ℕ) (block : Block) (place : Place) (r : y.Kind) (declared : List ℕ) (at : ℕ) (ns : List CertNode) →
      BodiesHold (BlockStands owner block place r declared ns) (block_then (read_block y same c s locals owner block at ns) (λ t e i rest. read_body_node (both (same t r) (c.allows e declared)) place 1 i rest))
  block_stands owner block place r declared at ns =
      after_block y same z.exact c (BlockPartHas y same z.exact c pair incl object s locals owner block ns) (BlockStands owner block place r declared ns) (read_block y same c s locals owner block at ns) _
      (block_read y same z.exact c pair incl object s locals owner block at ns) (λ t e i mid p.
      body_node y same z.exact c (BlockStands owner block place r declared ns) (both (same t r) (c.allows e declared)) place 1 i mid (λ h n rest m says.
      let tr = z.exact t r (both_left (same t r) (c.allows e declared) h) in
      let B : y.Kind → List (Step y.Kind) = λ v. block_steps y s owner p.derivation block v e in
      record {
        derivation = p.derivation;
        effect = e;
        derives = subst (λ v. DerivesBlock y s locals owner p.derivation block v e) tr p.derives;
        allowed = allow e declared (both_right (same t r) (c.allows e declared) h);
        consumes = body_says (B r) (step by.Body place 1 None []) ns mid n rest (subst (λ v. SaySteps c ns (B v) mid) tr p.consumes) m says;
      }))

  -- bodies that hold in one way hold in another that follows
  weakened : (G H : List CertNode → Type 0) (a : Bodies) → ((rest : List CertNode) → G rest → H rest) → BodiesHold G a → BodiesHold H a
  weakened G H (bodies_stand at rest) f h = f rest h
  weakened G H (bodies_fail at) f h = tt

  body_read : (body : Body) (at : ℕ) (ns : List CertNode) → BodiesHold (BodyHas body ns) (read_body y same c s locals body at ns)
  body_read body at ns =
      let r = y.read body.signature.result in
      let declared = y.effect body.signature.effect in
      weakened (BlockStands (Some body.owner) body.block body.place r declared ns) (BodyHas body ns) (read_body y same c s locals body at ns)
      (λ rest h. (d.T-Body body.place h.derivation h.effect, (refl, h.derives, h.allowed), h.consumes)) (block_stands (Some body.owner) body.block body.place r declared at ns)

  bodies_read : (bodies : List Body) (at : ℕ) (ns : List CertNode) → BodiesHold (BodiesHave bodies ns) (read_bodies y same c s locals bodies at ns)
  bodies_read [] at ns = ([], tt, refl)
  bodies_read (b ∷ bodies) at ns =
      bodies_after (BodyHas b ns) (BodiesHave (b ∷ bodies) ns) (read_body y same c s locals b at ns) _ (body_read b at ns) (λ i mid h.
      weakened (BodiesHave bodies mid) (BodiesHave (b ∷ bodies) ns) (read_bodies y same c s locals bodies i mid)
      (λ rest g. (h.0 ∷ g.0, (h.1, g.1), says_both c (body_steps y s h.0 b) (bodies_steps y s g.0 bodies) ns mid rest h.2 g.2)) (bodies_read bodies i mid))

  start_read : (start : Start) (at : ℕ) (ns : List CertNode) → BodiesHold (StartHas start ns) (read_start y same c s locals start at ns)
  start_read (Init values) at ns =
      let fields = map y.read (field_types s 0) in
      let declared = y.effect s.start_effect in
      after_values y same z.exact c (PartsHave y same z.exact c pair incl object s locals None values ns) (StartHas (Init values) ns) (read_values y same c s locals None values at ns) _
      (values_read y same z.exact c pair incl object s locals None values at ns) (λ ts e i mid p.
      body_node y same z.exact c (StartHas (Init values) ns) (both (same_types y same c ts fields) (c.allows e declared)) s.start_place (value_count values) i mid (λ h n rest m says.
      let tr = all_same y same z.exact c ts fields (both_left (same_types y same c ts fields) (c.allows e declared) h) in
      let B : List y.Kind → List (Step y.Kind) = λ v. values_steps y s None p.derivations values v in
      let inside = subst (λ v. y.Allows v declared) p.effects (allow e declared (both_right (same_types y same c ts fields) (c.allows e declared) h)) in (
        d.T-Body-Init s.start_place p.derivations,
        (refl, subst (λ v. DerivesAll y s locals None p.derivations values v) tr p.derives, inside),
        body_says (B fields) (step by.Body s.start_place (value_count values) None []) ns mid n rest (subst (λ v. SaySteps c ns (B v) mid) tr p.consumes) m says,
      )))
  start_read (Run block) at ns =
      let declared = y.effect s.start_effect in
      weakened (BlockStands None block s.start_place (y.read Nothing) declared ns) (StartHas (Run block) ns) (read_start y same c s locals (Run block) at ns)
      (λ rest h. (d.T-Body s.start_place h.derivation h.effect, (refl, h.derives, h.allowed), h.consumes)) (block_stands None block s.start_place (y.read Nothing) declared at ns)

  at_the_end : (H : List CertNode → Type 0) (a : Bodies) → BodiesHold H a → (at : ℕ) → at_end a ≡ bodies_stand at [] → H []
  at_the_end H (bodies_fail i) h at e = absurd (cc)
  at_the_end H (bodies_stand i (n ∷ rest)) h at e = absurd (cc)
  at_the_end H (bodies_stand i []) h at e = h

  scope_read : (ns : List CertNode) → BodiesHold (λ rest. (b : ScopeDerivation y.Kind) × (b.locals ≡ locals) × DerivesScope y s b × SaySteps c ns (scope_steps y s b) rest)
      (bodies_then (read_start y same c s locals s.start 0 ns) (λ i rest. read_bodies y same c s locals s.bodies i rest))
  scope_read ns =
      let H : List CertNode → Type 0 = λ rest. (b : ScopeDerivation y.Kind) × (b.locals ≡ locals) × DerivesScope y s b × SaySteps c ns (scope_steps y s b) rest in
      bodies_after (StartHas s.start ns) H (read_start y same c s locals s.start 0 ns) _ (start_read s.start 0 ns) (λ i mid h.
      weakened (BodiesHave s.bodies mid) H (read_bodies y same c s locals s.bodies i mid)
      (λ rest g. (record { locals = locals; start = h.0; bodies = g.0 }, refl, (h.1, g.1), says_both c (start_steps y s h.0 s.start) (bodies_steps y s g.0 s.bodies) ns mid rest h.2 g.2)) (bodies_read s.bodies i mid))

  -- what is read to the end is derived
  pub read_is_derived : (ns : List CertNode) → AreReadToEnd y same c s locals ns → AreDerived y c s locals ns
  read_is_derived ns h = at_the_end _ _ (scope_read ns) h.0 h.1

------------------------------------------------------------
-- .. and the nodes of what is derived are read to the end

module _ (y : Reading) (same : y.Kind → y.Kind → Truth) (z : Exact y same) (c : Lists y.Kind) (given : (e f : List ℕ) → y.Includes e f → c.includes e f ≡ true)
    (allowed : (e f : List ℕ) → y.Allows e f → c.allows e f ≡ true) (s : Scope) (locals : List y.Kind) where
  abbrev GoesOn : Bodies → List CertNode → Type 0
  GoesOn a rest = (at : ℕ) × (a ≡ bodies_stand at rest)

  closing_body : (holds : Truth) (q p : Place) (parts at : ℕ) (mid rest : List CertNode) → q ≡ p → holds ≡ true → SaySteps c mid (step by.Body q parts None [] ∷ []) rest → GoesOn (read_body_node holds p parts at mid) rest
  closing_body holds q p parts at mid rest qp h k =
      let o = one_node c (step by.Body q parts None []) mid rest k in
      let n = o.0 in
      let node : says_rule by.Body p parts n ≡ true = subst (λ v. says_rule by.Body v parts n ≡ true) qp o.2.rule in
      let whole : both holds (says_untyped by.Body p parts [] n) ≡ true =
      both_true holds (both (says_rule by.Body p parts n) (both (nat_eq n.typ 0) (same_numbers n.effect []))) h
      (both_true (says_rule by.Body p parts n) (both (nat_eq n.typ 0) (same_numbers n.effect [])) node (both_true (nat_eq n.typ 0) (same_numbers n.effect []) o.2.typ (numbers_fit n.effect [] o.2.effect))) in
      (at + 1, ap (λ v. read_body_node holds p parts at v) o.1 ∙ ap (λ b. if b then (bodies_stand (at + 1) rest) else (bodies_fail at)) whole)

  body_back : (b : BodyDerivation y.Kind) (body : Body) → DerivesBody y s locals b body → (at : ℕ) (ns rest : List CertNode) → SaySteps c ns (body_steps y s b body) rest → GoesOn (read_body y same c s locals body at ns) rest
  body_back (d.T-Body-Init q ds) body h at ns rest k = absurd h
  body_back (d.T-Body q e f) body h at ns rest k =
      let R = y.read body.signature.result in
      let E = y.effect body.signature.effect in
      let st = step by.Body q 1 None [] in
      let one = split c (block_steps y s (Some body.owner) e body.block R f) (st ∷ []) ns rest k in
      let r = block_back y same z c given s locals (Some body.owner) e body.block R f h.1 at ns one.0 one.1 in
      let p = stood y same z c given _ (block_mark body.block) R f one.0 r (not_sub y same z c given (st ∷ []) one.0 rest one.2 refl) in
      let g = closing_body (both (same R R) (c.allows f E)) q body.place 1 r.at one.0 rest h.0 (both_true (same R R) (c.allows f E) (z.itself R) (allowed f E h.2)) one.2 in
      (g.0, ap (λ a. block_then a (λ t e i rest. read_body_node (both (same t R) (c.allows e E)) body.place 1 i rest)) p ∙ g.1)

  bodies_back : (bs : List (BodyDerivation y.Kind)) (bodies : List Body) → DerivesBodies y s locals bs bodies → (at : ℕ) (ns rest : List CertNode) → SaySteps c ns (bodies_steps y s bs bodies) rest → GoesOn (read_bodies y same c s locals bodies at ns) rest
  bodies_back [] [] h at ns rest k = (at, ap (λ v. bodies_stand at v) k)
  bodies_back (b ∷ bs) (body ∷ bodies) h at ns rest k =
      let one = split c (body_steps y s b body) (bodies_steps y s bs bodies) ns rest k in
      let g = body_back b body h.0 at ns one.0 one.1 in
      let l = bodies_back bs bodies h.1 g.0 one.0 rest one.2 in
      (l.0, ap (λ a. bodies_then a (λ i rest. read_bodies y same c s locals bodies i rest)) g.1 ∙ l.1)
  bodies_back [] (body ∷ bodies) h at ns rest k = absurd h
  bodies_back (b ∷ bs) [] h at ns rest k = absurd h

  start_back : (b : BodyDerivation y.Kind) (start : Start) → DerivesStart y s locals b start → (at : ℕ) (ns rest : List CertNode) → SaySteps c ns (start_steps y s b start) rest → GoesOn (read_start y same c s locals start at ns) rest
  start_back (d.T-Body-Init q ds) (Init values) h at ns rest k =
      let fs = map y.read (field_types s 0) in
      let E = y.effect s.start_effect in
      let st = step by.Body q (value_count values) None [] in
      let one = split c (values_steps y s None ds values fs) (st ∷ []) ns rest k in
      let r = all_back y same z c given s locals None ds values fs h.1 at ns one.0 one.1 (not_sub y same z c given (st ∷ []) one.0 rest one.2 refl) in
      let g = closing_body (both (same_types y same c fs fs) (c.allows (effects_of ds) E)) q s.start_place (value_count values) r.at one.0 rest h.0
      (both_true (same_types y same c fs fs) (c.allows (effects_of ds) E) (all_fit y same z c given fs fs refl) (allowed (effects_of ds) E h.2)) one.2 in
      (g.0, ap (λ a. values_then a (λ ts e i rest. read_body_node (both (same_types y same c ts fs) (c.allows e E)) s.start_place (value_count values) i rest)) r.is ∙ g.1)
  start_back (d.T-Body q e f) (Run block) h at ns rest k =
      let R = y.read Nothing in
      let E = y.effect s.start_effect in
      let st = step by.Body q 1 None [] in
      let one = split c (block_steps y s None e block R f) (st ∷ []) ns rest k in
      let r = block_back y same z c given s locals None e block R f h.1 at ns one.0 one.1 in
      let p = stood y same z c given _ (block_mark block) R f one.0 r (not_sub y same z c given (st ∷ []) one.0 rest one.2 refl) in
      let g = closing_body (both (same R R) (c.allows f E)) q s.start_place 1 r.at one.0 rest h.0 (both_true (same R R) (c.allows f E) (z.itself R) (allowed f E h.2)) one.2 in
      (g.0, ap (λ a. block_then a (λ t e i rest. read_body_node (both (same t R) (c.allows e E)) s.start_place 1 i rest)) p ∙ g.1)
  start_back (d.T-Body q e f) (Init values) h at ns rest k = absurd h
  start_back (d.T-Body-Init q ds) (Run block) h at ns rest k = absurd h

  parts_read : (ns : List CertNode) (start : BodyDerivation y.Kind) (bodies : List (BodyDerivation y.Kind)) → DerivesStart y s locals start s.start → DerivesBodies y s locals bodies s.bodies →
      SaySteps c ns (start_steps y s start s.start ++ bodies_steps y s bodies s.bodies) [] → AreReadToEnd y same c s locals ns
  parts_read ns start bodies h g k =
      let one = split c (start_steps y s start s.start) (bodies_steps y s bodies s.bodies) ns [] k in
      let a = start_back start s.start h 0 ns one.0 one.1 in
      let b = bodies_back bodies s.bodies g a.0 one.0 [] one.2 in
      (b.0, ap (λ v. at_end (bodies_then v (λ i rest. read_bodies y same c s locals s.bodies i rest))) a.1 ∙ ap at_end b.1)

  pub derived_is_read : (ns : List CertNode) → AreDerived y c s locals ns → AreReadToEnd y same c s locals ns
  derived_is_read ns h =
      parts_read ns h.0.start h.0.bodies (subst (λ v. DerivesStart y s v h.0.start s.start) h.1 h.2.0) (subst (λ v. DerivesBodies y s v h.0.bodies s.bodies) h.1 h.2.1) h.3

------------------------------------------------------------
-- Of annotated and of plain scopes

none_found : (name : List ℕ) (m : Signature TypeRef) → find_method name [] ≡ Some m → ⊥
none_found name m e = cc

object_of : (p : Program) (k : ℕ) (t : TypeRef) (name : List ℕ) (m : Signature TypeRef) → find_method name (methods_of p k t) ≡ Some m → IsObject t
object_of p k to.Int name m e = absurd (none_found name m e)
object_of p k to.Bool name m e = absurd (none_found name m e)
object_of p k to.Text name m e = absurd (none_found name m e)
object_of p k to.Unit name m e = absurd (none_found name m e)
object_of p k (to.Named i es) name m e = tt
object_of p k (to.At i e) name m f = tt
object_of p k (to.Own l) name m e = tt

pub annotated_nodes_are_read : AnnotatedNodesAreRead
annotated_nodes_are_read p k s locals c pair within allow ns =
    let y = annotated_reading p k in
    let z = kinds_exact p k false in (
      read_is_derived y same_type z c pair (λ e f. (within e f).0) (λ e f. (allow e f).0) (object_of p k) s locals ns,
      derived_is_read y same_type z c (λ e f. (within e f).1) (λ e f. (allow e f).1) s locals ns,
    )

pub plain_nodes_are_read : PlainNodesAreRead
plain_nodes_are_read p k s locals c pair within allow ns =
    let y = plain_reading p k in
    let z = kinds_exact p k true in (
      read_is_derived y same_type z c pair (λ e f g. tt) (λ e f g. tt) (object_of p k) s locals ns,
      derived_is_read y same_type z c (λ e f g. within e f) (λ e f g. allow e f) s locals ns,
    )
