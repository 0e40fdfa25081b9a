-- The types of `val`s that are found one after the other are least.
use Rattle.std.proofs.Common.{◌≡◌, ℕ, List, [], ◌∷◌, map, inl, inr, refl, sym, ◌∙◌, subst, Option, Some, None, Bool as Truth}
use Rattle.std.specs.Prelude.{slice_get}
use Rattle.wy_text.specs.Members.{In}
use Rattle.wy_text.proofs.Lists.{In-at, In-slice_get}
use Rattle.wy_types.specs.declared.types.TypeRef.{TypeRef}
use Rattle.wy_types.specs.declared.types.TypeRef.TheVariants.{Bool, Unit as Nothing}
use Rattle.wy_types.specs.declared.code.Variable.{Variable}
use Rattle.wy_types.specs.declared.code.Variable.TheVariants.{Local}
use Rattle.wy_types.specs.Code.{Expr, Number, Quoted, Truth as TruthOf, Nothing as NothingOf, This, Name, Unary, Binary, TextCall, Call, New, Ascribe, Assign, Value, Plain, If, Values, none, more, Block, Last, Then, Val}
use Rattle.wy_types.specs.Program.{Program, Scope, Body, Start, Init, Run}
use Rattle.wy_types.specs.Types.{is_plain}
use Rattle.wy_types.specs.Core.{ScopeFits, StartFits, ExprFits, ValueFits, ValuesFit, BlockFits}
use Rattle.wy_types.specs.Vals.{start_vals, bodies_vals}
use Rattle.wy_rules.specs.Readings.{Reading, IsBelow}
use Rattle.wy_rules.specs.Derivations.{BodyDerivation, T-Body, T-Body-Init, effects_of}
use Rattle.wy_rules.specs.Typing.{field_types, IsValType, Has, AllHave, BlockHas, DerivesStart, DerivesBodies}
use Rattle.wy_rules.specs.Acceptance.{scope_reading}
use Rattle.wy_rules.specs.Failing.{ValSettles}
use Rattle.wy_rules.specs.EachVal.{EachInExpr, EachInValue, EachInValues, EachInBlock, EachInStart, EachInBodies, EachVal}
use Rattle.wy_rules.specs.Canonical.{canonical_expr, canonical_start, canonical_body, locals_of, same_read, settle_start, IsSettled, CanonicalTypesAreLeast}
use Rattle.wy_rules.proofs.Forms.{Lawful, Above, bare, block_bare}
use Rattle.wy_rules.proofs.Least.{split}
use Rattle.wy_rules.proofs.Narrowing.{AllNarrower}
use Rattle.wy_rules.proofs.Standing.{reading_lawful}
use Rattle.wy_rules.proofs.EachVals.{always_expr, implied_vals}
use Rattle.wy_rules.proofs.WrittenOrOwn.{reached_itself}
use Rattle.wy_rules.proofs.Reaching.{each_at, canonical_types_are_reached}
use Rattle.wy_rules.proofs.SameTypes.{kinds_exact}
use Rattle.wy_rules.proofs.Settling.{steps}
use Rattle.wy_rules.proofs.Writing.{Exact, ValReady, nothing_more, first_given, second_given, best_expr}
use Rattle.wy_rules.proofs.WritingScopes.{ready_itself, scope_settled, settled_ready, scope_written, start_step, bodies_step}

module _ (y : Reading) (w : Lawful y) (same : y.Kind → y.Kind → Truth) (z : Exact y same) (p : Program) (s : Scope) (locals : List y.Kind) where
  -- the initialiser of a `val` has a type
  record Initialised (owner : Option ℕ) (n : ℕ) (typ : Option TypeRef) (x : Value) : Type 0 where
    pub kind : y.Kind
    pub effect : List ℕ
    pub seen : List Variable
    pub fits : ValueFits p s owner seen x
    pub is_type : IsValType y s locals owner typ x kind
    pub has : Has y s locals owner x kind effect

  module _ (owner : Option ℕ) where
    mutual
      initialised_expr : (x : Expr) (seen : List Variable) → ExprFits p s owner seen x → (t : y.Kind) (f : List ℕ) → Has y s locals owner (Plain x) t f → EachInExpr Initialised owner x
      initialised_expr (Number q n) seen fit t f h = tt
      initialised_expr (Quoted q bytes) seen fit t f h = tt
      initialised_expr (TruthOf q b) seen fit t f h = tt
      initialised_expr (NothingOf q) seen fit t f h = tt
      initialised_expr (This q) seen fit t f h = tt
      initialised_expr (Name q name) seen fit t f h = tt
      initialised_expr (Unary q op x) seen fit t f h =
          let b = bare y w s locals owner (Plain (Unary q op x)) t f h in
          let a = first_given y w same z p s locals locals owner (Plain x) none b.formed.0.operands b.effect b.formed.2 in
          initialised_expr x seen fit _ a.0 a.1
      initialised_expr (Binary q op x v) seen fit t f h =
          let b = bare y w s locals owner (Plain (Binary q op x v)) t f h in
          let a = first_given y w same z p s locals locals owner (Plain x) (more (Plain v) none) b.formed.0.operands b.effect b.formed.2 in
          let c = second_given y w same z p s locals locals owner (Plain x) (Plain v) none b.formed.0.operands b.effect b.formed.2 in
          (initialised_expr x seen fit.0 _ a.0 a.1, initialised_expr v seen fit.1 _ c.0 c.1)
      initialised_expr (TextCall q op xs) seen fit t f h =
          let b = bare y w s locals owner (Plain (TextCall q op xs)) t f h in
          initialised_values xs seen fit.1 (map y.read b.formed.0.operands) b.effect b.formed.2
      initialised_expr (Call q x name xs) seen fit t f h =
          let c = (bare y w s locals owner (Plain (Call q x name xs)) t f h).formed in
          (initialised_expr x seen fit.0 c.0 c.1 c.4, initialised_values xs seen fit.1 c.2.params c.3 c.7)
      initialised_expr (New q l xs) seen fit t f h =
          let b = bare y w s locals owner (Plain (New q l xs)) t f h in
          initialised_values xs seen fit.4 (map y.read (field_types s l)) b.effect b.formed.0
      initialised_expr (Ascribe q x u) seen fit t f h =
          let b = bare y w s locals owner (Plain (Ascribe q x u)) t f h in
          initialised_value x seen fit.0 (y.read u) b.effect b.formed.0
      initialised_expr (Assign q name x) seen fit t f h =
          let b = bare y w s locals owner (Plain (Assign q name x)) t f h in
          initialised_value x seen fit.1 (y.read b.formed.0.typ) b.effect b.formed.2

      initialised_value : (x : Value) (seen : List Variable) → ValueFits p s owner seen x → (t : y.Kind) (f : List ℕ) → Has y s locals owner x t f → EachInValue Initialised owner x
      initialised_value (Plain x) seen fit t f h = initialised_expr x seen fit t f h
      initialised_value (If q test first second) seen fit t f h =
          let b = bare y w s locals owner (If q test first second) t f h in
          let c = b.formed in
          (initialised_expr test seen fit.0 (y.read Bool) c.0 c.3, initialised_block first seen fit.1 b.typ c.1 c.4, initialised_block second seen fit.2 b.typ c.2 c.5)

      initialised_values : (xs : Values) (seen : List Variable) → ValuesFit p s owner seen xs → (ts : List y.Kind) (f : List ℕ) → AllHave y s locals owner xs ts f → EachInValues Initialised owner xs
      initialised_values none seen fit ts f h = tt
      initialised_values (more x xs) seen fit [] f h = absurd (nothing_more y w same z p s locals locals owner h.derivations x xs h.derives)
      initialised_values (more x xs) seen fit (t ∷ ts) f h =
          let c = split y w s locals owner x xs t ts f h in
          (initialised_value x seen fit.0 t c.effect c.first, initialised_values xs seen fit.1 ts c.effects c.others)

      initialised_block : (b : Block) (seen : List Variable) → BlockFits p s owner seen b → (t : y.Kind) (f : List ℕ) → BlockHas y s locals owner b t f → EachInBlock Initialised owner b
      initialised_block (Last x) seen fit t f h =
          let b = block_bare y w s locals owner (Last x) t f h in
          initialised_value x seen fit b.typ b.effect b.formed
      initialised_block (Then x rest) seen fit t f h =
          let b = block_bare y w s locals owner (Then x rest) t f h in
          let c = b.formed in
          (initialised_value x seen fit.0 (y.read Nothing) c.0 c.2, initialised_block rest seen fit.1 b.typ c.1 c.3)
      initialised_block (Val q n typ x rest) seen fit t f h =
          let b = block_bare y w s locals owner (Val q n typ x rest) t f h in
          let c = b.formed in (
            initialised_value x seen fit.1 c.0 c.1 c.5,
            record { kind = c.0; effect = c.1; seen = seen; fits = fit.1; is_type = c.4; has = c.5 },
            initialised_block rest (Local n ∷ seen) fit.2 b.typ c.2 c.6,
          )

  initialised_start : (st : Start) (d : BodyDerivation y.Kind) → StartFits p s st → DerivesStart y s locals d st → EachInStart Initialised st
  initialised_start (Init values) (T-Body-Init place ds) fit h =
      initialised_values None values [] fit.1 (map y.read (field_types s 0)) (effects_of ds) (record { derivations = ds; derives = h.1; effects = refl })
  initialised_start (Run block) (T-Body place d f) fit h = initialised_block None block [] fit (y.read Nothing) f (record { derivation = d; derives = h.1 })
  initialised_start (Init values) (T-Body place d f) fit h = absurd h
  initialised_start (Run block) (T-Body-Init place ds) fit h = absurd h

  initialised_bodies : (bs : List Body) (ds : List (BodyDerivation y.Kind)) → ((b : Body) → In b bs → (seen : List Variable) × BlockFits p s (Some b.owner) seen b.block) → DerivesBodies y s locals ds bs → EachInBodies Initialised bs
  initialised_bodies [] ds fit h = tt
  initialised_bodies (b ∷ bs) [] fit h = absurd h
  initialised_bodies (b ∷ bs) (T-Body-Init place d ∷ ds) fit h = absurd h.0
  initialised_bodies (b ∷ bs) (T-Body place d f ∷ ds) fit h =
      let a = fit b (inl refl) in
      (initialised_block (Some b.owner) b.block a.0 a.1 (y.read b.signature.result) f (record { derivation = d; derives = h.0.1 }), initialised_bodies bs ds (λ v i. fit v (inr i)) h.1)

  fit_bodies : ScopeFits p s → (b : Body) → In b s.bodies → (seen : List Variable) × BlockFits p s (Some b.owner) seen b.block
  fit_bodies fits b i = (let n = In-at b s.bodies i in (_, (fits.bodies n.0 b n.2).1))

  -- in a scope that has a derivation over these types the initialiser of each `val` has a type
  initialised : ScopeFits p s → (start : BodyDerivation y.Kind) (bodies : List (BodyDerivation y.Kind)) → DerivesStart y s locals start s.start → DerivesBodies y s locals bodies s.bodies → EachVal Initialised s
  initialised fits start bodies h k = (initialised_start s.start start fits.starts.1 h, initialised_bodies s.bodies bodies (fit_bodies fits) k)

  ------------------------------------------------------------
  -- Least types

  abbrev AreReflexive : Type 0
  AreReflexive = (n : ℕ) (t : y.Kind) → slice_get locals n ≡ Some t → IsBelow y t t

  below : (t u : y.Kind) → IsBelow y t t → Above y t u → IsBelow y t u
  below t u h (inl e) = subst (λ v. IsBelow y t v) e h
  below t u h (inr b) = b

  seen_itself : (seen : List Variable) → AllNarrower y w p s locals locals seen
  seen_itself seen n i u e = (u, e, inl refl)

  least : AreReflexive → (owner : Option ℕ) (n : ℕ) (typ : Option TypeRef) (x : Value) → Initialised owner n typ x → IsSettled y same s locals owner n typ x → ValSettles y s locals owner n typ x
  least r owner n None (If q test first second) h g = absurd h.is_type
  least r owner n (Some t) x h g = g
  least r owner n None (Plain x) h g =
      let m = canonical_expr y same s locals owner x in
      let best = best_expr y w same z p s locals locals owner x h.seen h.fits (seen_itself h.seen) (always_expr (ValReady y w same z p s locals locals) (ready_itself y w same z p s locals) owner x) in (
        m.typ,
        m.effect,
        record {
          has = record { derivation = m.derivation; derives = (best h.kind h.effect h.has).derives };
          least = λ u f i. (let a = best u f i in (below m.typ u (r n m.typ g) a.above, a.within));
        },
        g,
      )

some_same : {X : Type 0} (a b : X) → ◌≡◌ {A = Option X} (Some a) (Some b) → a ≡ b
some_same a b e = cc

pub canonical_types_are_least : CanonicalTypesAreLeast
canonical_types_are_least p k s core at h =
    let y = scope_reading p k s in
    let same = same_read p k (is_plain s.kind) in
    let w = reading_lawful p k (is_plain s.kind) in
    let z = kinds_exact p k (is_plain s.kind) in
    let locals = locals_of p k s in
    let fits = core.scopes s (In-slice_get p.scopes k s at) in
    let settled = scope_settled y same p s fits in
    let over = scope_written y w same z p s locals in
    let ready = settled_ready y w same z p s locals in
    let d = (over h.derivation.locals fits h.derivation.start h.derivation.bodies h.derives.0 h.derives.1 (ready h.derivation.locals settled)).derives in
    let reached = (canonical_types_are_reached p k s fits).0 in
    let reflexive : AreReflexive y w same z p s locals = λ n t e. reached_itself p core k s at fits (is_plain s.kind) t (each_at _ locals reached n t e) in
    let inits = initialised y w same z p s locals fits (canonical_start y same s locals s.start) (map (canonical_body y same s locals) s.bodies) d.0 d.1 in
    let found = steps y same (start_vals s.start) (bodies_vals s.bodies) [] (settle_start y same s s.start) locals (start_step y same p s s.start) (bodies_step y same p s s.bodies (settle_start y same s s.start)) in (
      implied_vals (Initialised y w same z p s locals) (IsSettled y same s locals) (ValSettles y s locals) (least y w same z p s locals reflexive) s inits settled,
      λ n i.
          let t = found.there n i in (
            t.0,
            t.1,
            λ e u g j.
                let a = (over e.locals fits e.start e.bodies g.0 g.1 (ready e.locals settled)).narrower n i u j in
                below y w same z p s locals t.0 u (reflexive n t.0 t.1) (subst (λ v. Above y v u) (some_same a.0 t.0 (sym a.1 ∙ t.1)) a.2),
          ),
    )
