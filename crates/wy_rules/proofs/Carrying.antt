-- A derivation stays one when its types are read on: replaced, erased or retyped. Effects come to be within what they are read as.
use Rattle.std.proofs.Common.{◌≡◌, ℕ, zero, suc, List, [], ◌∷◌, map, refl, sym, ◌∙◌, ap, subst, Option, Some, None}
use Rattle.std.specs.Prelude.{slice_get}
use Rattle.std.specs.Option.{option_map}
use Rattle.wy_effects.specs.EffSet.{union}
use Rattle.wy_types.specs.declared.types.TypeRef.{TypeRef}
use Rattle.wy_types.specs.declared.types.TypeRef.TheVariants.{Bool, Unit as Nothing, Own}
use Rattle.wy_types.specs.declared.code.Variable.TheVariants.{Parameter, Local}
use Rattle.wy_types.specs.declared.code.Binding.{Binding}
use Rattle.wy_types.specs.declared.code.Binding.TheVariants as to
use Rattle.wy_types.specs.declared.resolved.Field.{Field}
use Rattle.wy_types.specs.declared.resolved.OwnName.{OwnName}
use Rattle.wy_types.specs.Code.{This, Name, Call, New, Ascribe, Assign, Value, Plain, If, Values, none, more, Block, Last, Then, Val}
use Rattle.wy_types.specs.Program.{Scope, Body, Start, Init, Run}
use Rattle.wy_types.specs.Signature.{Signature, mapped_signature, find_method}
use Rattle.wy_types.proofs.Closing.{find-mapped, subtype_read}
use Rattle.wy_rules.specs.Readings.{Reading, IsBelow}
use Rattle.wy_rules.specs.Derivations.{Derivation, T-Lit, T-Var, T-This, T-Call, T-New, T-If, T-Set, T-Op, T-Asc, T-Sub, Derivations, none as no_derivations, more as one_more, BlockDerivation, Result, T-Seq, T-Val, Block-Sub, BodyDerivation, T-Body, T-Body-Init, effects_of}
use Rattle.wy_rules.specs.Typing.{field_types, field_at, parameter_type, binding_type, IsValType, Derives, DerivesAll, DerivesBlock, DerivesStart, DerivesBody, DerivesBodies, ScopeHolds}
use Rattle.wy_rules.proofs.Forms.{Lawful}

-- how one reading goes on from another
pub record ReadsOn (y z : Reading) : Type 0 where
  pub kind : y.Kind → z.Kind
  pub effect : List ℕ → List ℕ
  pub read : (t : TypeRef) → kind (y.read t) ≡ z.read t
  pub methods : (t : y.Kind) → z.methods (kind t) ≡ map (mapped_signature kind effect) (y.methods t)
  pub object : (t : y.Kind) → y.IsObject t → z.IsObject (kind t)
  pub object_before : (t : y.Kind) → z.IsObject (kind t) → y.IsObject t
  pub includes : (e f : List ℕ) → y.Includes e f → z.Includes (effect e) (effect f)
  pub allows : (e f : List ℕ) → y.Allows e f → z.Allows (effect e) (effect f)
  pub nothing : (e : List ℕ) → z.Includes [] e
  pub unions : (e f : List ℕ) → z.Includes (union (effect e) (effect f)) (effect (union e f))
  pub declared : (e : List ℕ) → z.Includes (effect (y.effect e)) (z.effect e)
  pub lawful : Lawful z

module _ (y z : Reading) (r : ReadsOn y z) where
  below : (t u : y.Kind) → IsBelow y t u → IsBelow z (r.kind t) (r.kind u)
  below t u b = subtype_read y.Kind z.Kind y.methods z.methods y.IsObject z.IsObject y.Allows z.Allows r.kind r.effect r.methods r.object r.object_before r.allows t u b

  found : (name : List ℕ) (t : y.Kind) (m : Signature y.Kind) → find_method name (y.methods t) ≡ Some m → find_method name (z.methods (r.kind t)) ≡ Some (mapped_signature r.kind r.effect m)
  found name t m e = ap (find_method name) (r.methods t) ∙ find-mapped r.kind r.effect name (y.methods t) m e

  all_read : (ts : List TypeRef) → map r.kind (map y.read ts) ≡ map z.read ts
  all_read [] = refl
  all_read (t ∷ ts) = ap (λ v. v ∷ map r.kind (map y.read ts)) (r.read t) ∙ ap (λ vs. z.read t ∷ vs) (all_read ts)

  some_same : {X : Type 0} (a b : X) → ◌≡◌ {A = Option X} (Some a) (Some b) → a ≡ b
  some_same a b e = cc

  read_on : (o : Option TypeRef) (t : y.Kind) → option_map y.read o ≡ Some t → option_map z.read o ≡ Some (r.kind t)
  read_on None t e = absurd (cc)
  read_on (Some u) t e = ap (λ v. Some v) (sym (r.read u) ∙ ap r.kind (some_same (y.read u) t e))

  local_on : (ts : List y.Kind) (k : ℕ) (t : y.Kind) → slice_get ts k ≡ Some t → slice_get (map r.kind ts) k ≡ Some (r.kind t)
  local_on [] k t e = absurd (cc)
  local_on (u ∷ ts) zero t e = ap (λ v. Some (r.kind v)) (some_same u t e)
  local_on (u ∷ ts) (suc k) t e = local_on ts k t e

  field_on : (o : Option Field) (t : y.Kind) → option_map (λ (f : Field). y.read f.typ) o ≡ Some t → option_map (λ (f : Field). z.read f.typ) o ≡ Some (r.kind t)
  field_on None t e = absurd (cc)
  field_on (Some u) t e = ap (λ v. Some v) (sym (r.read u.typ) ∙ ap r.kind (some_same (y.read u.typ) t e))

  name_on : (o : Option OwnName) (t : y.Kind) → option_map (λ (n : OwnName). y.read n.typ) o ≡ Some t → option_map (λ (n : OwnName). z.read n.typ) o ≡ Some (r.kind t)
  name_on None t e = absurd (cc)
  name_on (Some u) t e = ap (λ v. Some v) (sym (r.read u.typ) ∙ ap r.kind (some_same (y.read u.typ) t e))

  module _ (s : Scope) (locals : List y.Kind) (owner : Option ℕ) where
    binding_on : (name : Binding) (t : y.Kind) → binding_type y s locals owner name ≡ Some t → binding_type z s (map r.kind locals) owner name ≡ Some (r.kind t)
    binding_on (to.Variable (Parameter k i)) t e = read_on (parameter_type (slice_get s.bodies k) i) t e
    binding_on (to.Variable (Local n)) t e = local_on locals n t e
    binding_on (to.Field i) t e = field_on (field_at s owner i) t e
    binding_on (to.Own k) t e = name_on (slice_get s.names k) t e

    val_on : (o : Option TypeRef) (x : Value) (k : y.Kind) → IsValType y s locals owner o x k → IsValType z s (map r.kind locals) owner o x (r.kind k)
    val_on None (Plain x) k h = tt
    val_on None (If q test first second) k h = absurd h
    val_on (Some u) x k h = ap r.kind h ∙ r.read u

    -- a derivation, read on, of an effect within what the other's is read as
    pub record Carried (x : Value) (t : y.Kind) (f : List ℕ) : Type 0 where
      pub derivation : Derivation z.Kind
      pub effect : List ℕ
      pub derives : Derives z s (map r.kind locals) owner derivation x (r.kind t) effect
      pub within : z.Includes effect (r.effect f)

    pub record AllCarried (xs : Values) (ts : List y.Kind) (f : List ℕ) : Type 0 where
      pub derivations : Derivations z.Kind
      pub derive : DerivesAll z s (map r.kind locals) owner derivations xs (map r.kind ts)
      pub within : z.Includes (effects_of derivations) (r.effect f)

    pub record BlockCarried (b : Block) (t : y.Kind) (f : List ℕ) : Type 0 where
      pub derivation : BlockDerivation z.Kind
      pub effect : List ℕ
      pub derives : DerivesBlock z s (map r.kind locals) owner derivation b (r.kind t) effect
      pub within : z.Includes effect (r.effect f)

    simple : (x : Value) (t : y.Kind) (f : List ℕ) (d : Derivation z.Kind) → f ≡ [] → Derives z s (map r.kind locals) owner d x (r.kind t) [] → Carried x t f
    simple x t f d e h = record { derivation = d; effect = []; derives = h; within = r.nothing (r.effect f) }

    within_union : (e f g h : List ℕ) → z.Includes e (r.effect g) → z.Includes f (r.effect h) → z.Includes (union e f) (r.effect (union g h))
    within_union e f g h v w = r.lawful.within (union e f) (union (r.effect g) (r.effect h)) (r.effect (union g h)) (r.lawful.unions e f (r.effect g) (r.effect h) v w) (r.unions g h)

    within_of : (e f g : List ℕ) → f ≡ g → z.Includes e (r.effect g) → z.Includes e (r.effect f)
    within_of e f g s v = subst (λ h. z.Includes e (r.effect h)) (sym s) v

    mutual
      pub carried : (d : Derivation y.Kind) (x : Value) (t : y.Kind) (f : List ℕ) → Derives y s locals owner d x t f → Carried x t f
      carried (T-Lit p) (Plain x) t f h = simple (Plain x) t f (T-Lit p) h.4 (h.0, h.1, h.2, ap r.kind h.3 ∙ r.read h.0, refl)
      carried (T-Var p) (Plain (Name q name)) t f h = simple (Plain (Name q name)) t f (T-Var p) h.2 (h.0, binding_on name t h.1, refl)
      carried (T-This p) (Plain (This q)) t f h = simple (Plain (This q)) t f (T-This p) h.4 (h.0, h.1, h.2, ap r.kind h.3 ∙ r.read (Own h.0), refl)
      carried (T-Call p d k e ds) (Plain (Call q x name xs)) t f h =
          let a = carried d (Plain x) k e h.2 in
          let b = all_carried ds xs h.0.params h.5 in
          record {
            derivation = T-Call p a.derivation (r.kind k) a.effect b.derivations;
            effect = union a.effect (union (effects_of b.derivations) (r.effect h.0.effect));
            derives = (mapped_signature r.kind r.effect h.0, h.1, a.derives, r.object k h.3, found name k h.0 h.4, b.derive, ap r.kind h.6, refl);
            within = within_of _ f _ h.7 (within_union a.effect _ e (union (effects_of ds) h.0.effect) a.within
                (within_union (effects_of b.derivations) (r.effect h.0.effect) (effects_of ds) h.0.effect b.within (r.lawful.same (r.effect h.0.effect))));
          }
      carried (T-New p ds) (Plain (New q l xs)) t f h =
          let b = all_carried ds xs (map y.read (field_types s l)) h.1 in
          record {
            derivation = T-New p b.derivations;
            effect = effects_of b.derivations;
            derives = (h.0, subst (λ v. DerivesAll z s (map r.kind locals) owner b.derivations xs v) (all_read (field_types s l)) b.derive, ap r.kind h.2 ∙ r.read (Own l), refl);
            within = within_of _ f _ h.3 b.within;
          }
      carried (T-If p d e a i b j) (If q test first second) t f h =
          let c = carried d (Plain test) (y.read Bool) e h.1 in
          let u = block_carried a first t i h.2 in
          let v = block_carried b second t j h.3 in
          record {
            derivation = T-If p c.derivation c.effect u.derivation u.effect v.derivation v.effect;
            effect = union c.effect (union u.effect v.effect);
            derives = (h.0, subst (λ k. Derives z s (map r.kind locals) owner c.derivation (Plain test) k c.effect) (r.read Bool) c.derives, u.derives, v.derives, refl);
            within = within_of _ f _ h.4 (within_union c.effect (union u.effect v.effect) e (union i j) c.within (within_union u.effect v.effect i j u.within v.within));
          }
      carried (T-Set p d) (Plain (Assign q name x)) t f h =
          let a = carried d x (y.read h.0.typ) f h.3 in
          record {
            derivation = T-Set p a.derivation;
            effect = a.effect;
            derives = (h.0, h.1, h.2, subst (λ k. Derives z s (map r.kind locals) owner a.derivation x k a.effect) (r.read h.0.typ) a.derives, ap r.kind h.4 ∙ r.read Nothing);
            within = a.within;
          }
      carried (T-Op p w ds) (Plain x) t f h =
          let b = all_carried ds h.0.operands (map y.read w.operands) h.4 in
          record {
            derivation = T-Op p w b.derivations;
            effect = effects_of b.derivations;
            derives = (h.0, h.1, h.2, h.3, subst (λ v. DerivesAll z s (map r.kind locals) owner b.derivations h.0.operands v) (all_read w.operands) b.derive, ap r.kind h.5 ∙ r.read w.result, refl);
            within = within_of _ f _ h.6 b.within;
          }
      carried (T-Asc p d) (Plain (Ascribe q x u)) t f h =
          let a = carried d x (y.read u) f h.1 in
          record {
            derivation = T-Asc p a.derivation;
            effect = a.effect;
            derives = (h.0, subst (λ k. Derives z s (map r.kind locals) owner a.derivation x k a.effect) (r.read u) a.derives, ap r.kind h.2 ∙ r.read u);
            within = a.within;
          }
      carried (T-Sub p d k e) x t f h =
          let a = carried d x k e h.1 in
          record {
            derivation = T-Sub p a.derivation (r.kind k) a.effect;
            effect = a.effect;
            derives = (h.0, a.derives, below k t h.2, r.lawful.same a.effect);
            within = r.lawful.within a.effect (r.effect e) (r.effect f) a.within (r.includes e f h.3);
          }
      carried d x t f h = absurd h

      pub all_carried : (ds : Derivations y.Kind) (xs : Values) (ts : List y.Kind) → DerivesAll y s locals owner ds xs ts → AllCarried xs ts (effects_of ds)
      all_carried no_derivations none [] h = record { derivations = no_derivations; derive = tt; within = r.nothing (r.effect []) }
      all_carried (one_more d e ds) (more x xs) (t ∷ ts) h =
          let a = carried d x t e h.0 in
          let b = all_carried ds xs ts h.1 in
          record {
            derivations = one_more a.derivation a.effect b.derivations;
            derive = (a.derives, b.derive);
            within = within_union a.effect (effects_of b.derivations) e (effects_of ds) a.within b.within;
          }
      all_carried ds xs ts h = absurd h

      pub block_carried : (ds : BlockDerivation y.Kind) (b : Block) (t : y.Kind) (f : List ℕ) → DerivesBlock y s locals owner ds b t f → BlockCarried b t f
      block_carried (Result d) (Last x) t f h =
          let a = carried d x t f h in
          record { derivation = Result a.derivation; effect = a.effect; derives = a.derives; within = a.within }
      block_carried (T-Seq p d e ds g) (Then x b) t f h =
          let a = carried d x (y.read Nothing) e h.1 in
          let c = block_carried ds b t g h.2 in
          record {
            derivation = T-Seq p a.derivation a.effect c.derivation c.effect;
            effect = union a.effect c.effect;
            derives = (h.0, subst (λ k. Derives z s (map r.kind locals) owner a.derivation x k a.effect) (r.read Nothing) a.derives, c.derives, refl);
            within = within_of _ f _ h.3 (within_union a.effect c.effect e g a.within c.within);
          }
      block_carried (T-Val p d k e ds g) (Val q n typ x b) t f h =
          let a = carried d x k e h.3 in
          let c = block_carried ds b t g h.4 in
          record {
            derivation = T-Val p a.derivation (r.kind k) a.effect c.derivation c.effect;
            effect = union a.effect c.effect;
            derives = (h.0, local_on locals n k h.1, val_on typ x k h.2, a.derives, c.derives, refl);
            within = within_of _ f _ h.5 (within_union a.effect c.effect e g a.within c.within);
          }
      block_carried (Block-Sub p ds k e) b t f h =
          let c = block_carried ds b k e h.1 in
          record {
            derivation = Block-Sub p c.derivation (r.kind k) c.effect;
            effect = c.effect;
            derives = (h.0, c.derives, below k t h.2, r.lawful.same c.effect);
            within = r.lawful.within c.effect (r.effect e) (r.effect f) c.within (r.includes e f h.3);
          }
      block_carried ds b t f h = absurd h

  ------------------------------------------------------------
  -- Scopes

  module _ (s : Scope) (locals : List y.Kind) where
    within_declared : (e f g : List ℕ) → z.Includes e (r.effect f) → y.Allows f (y.effect g) → z.Allows e (z.effect g)
    within_declared e f g v w =
        r.lawful.onward e (r.effect (y.effect g)) (z.effect g) (r.lawful.onward e (r.effect f) (r.effect (y.effect g)) (r.lawful.allows e (r.effect f) v) (r.allows f (y.effect g) w)) (r.lawful.allows (r.effect (y.effect g)) (z.effect g) (r.declared g))

    start_carried : (d : BodyDerivation y.Kind) (st : Start) → DerivesStart y s locals d st → (c : BodyDerivation z.Kind) × DerivesStart z s (map r.kind locals) c st
    start_carried (T-Body-Init p ds) (Init values) h =
        let b = all_carried s locals None ds values (map y.read (field_types s 0)) h.1 in
        (T-Body-Init p b.derivations, (h.0, subst (λ v. DerivesAll z s (map r.kind locals) None b.derivations values v) (all_read (field_types s 0)) b.derive, within_declared (effects_of b.derivations) (effects_of ds) s.start_effect b.within h.2))
    start_carried (T-Body p d f) (Run block) h =
        let c = block_carried s locals None d block (y.read Nothing) f h.1 in
        (T-Body p c.derivation c.effect, (h.0, subst (λ k. DerivesBlock z s (map r.kind locals) None c.derivation block k c.effect) (r.read Nothing) c.derives, within_declared c.effect f s.start_effect c.within h.2))
    start_carried d st h = absurd h

    body_carried : (d : BodyDerivation y.Kind) (b : Body) → DerivesBody y s locals d b → (c : BodyDerivation z.Kind) × DerivesBody z s (map r.kind locals) c b
    body_carried (T-Body p d f) b h =
        let c = block_carried s locals (Some b.owner) d b.block (y.read b.signature.result) f h.1 in
        (T-Body p c.derivation c.effect, (h.0, subst (λ k. DerivesBlock z s (map r.kind locals) (Some b.owner) c.derivation b.block k c.effect) (r.read b.signature.result) c.derives, within_declared c.effect f b.signature.effect c.within h.2))
    body_carried d b h = absurd h

    bodies_carried : (ds : List (BodyDerivation y.Kind)) (bs : List Body) → DerivesBodies y s locals ds bs → (cs : List (BodyDerivation z.Kind)) × DerivesBodies z s (map r.kind locals) cs bs
    bodies_carried [] [] h = ([], tt)
    bodies_carried (d ∷ ds) (b ∷ bs) h =
        let c = body_carried d b h.0 in
        let cs = bodies_carried ds bs h.1 in
        (c.0 ∷ cs.0, (c.1, cs.1))
    bodies_carried ds bs h = absurd h

  -- the derivations of a scope's bodies stay derivations
  pub scope_carried : (s : Scope) → ScopeHolds y s → ScopeHolds z s
  scope_carried s h =
      let d = h.derivation in
      let a = start_carried s d.locals d.start s.start h.derives.0 in
      let b = bodies_carried s d.locals d.bodies s.bodies h.derives.1 in
      record { derivation = record { locals = map r.kind d.locals; start = a.0; bodies = b.0 }; derives = (a.1, b.1) }
