-- What a form's own rule asks of its parts, and that each derivation comes to it: T-Sub is taken off once and for all.
use Rattle.std.proofs.Common.{◌≡◌, ℕ, List, [], inl, inr, refl, sym, ap, subst, Option, Some, None, ◌⊎◌, map}
use Rattle.std.specs.Prelude.{slice_get}
use Rattle.wy_text.specs.Members.{In}
use Rattle.wy_effects.specs.EffSet.{union}
use Rattle.wy_types.specs.declared.types.TypeRef.{TypeRef}
use Rattle.wy_types.specs.declared.types.TypeRef.TheVariants.{Int, Bool, Text, Unit as Nothing, Own}
use Rattle.wy_types.specs.declared.resolved.Field.{Field}
use Rattle.wy_types.specs.Code.{Expr, Number, Quoted, Truth, Nothing as NothingOf, This, Name, Unary, Binary, TextCall, Call, New, Ascribe, Assign, Value, Plain, If, Values, none, more, Block, Last, Then, Val}
use Rattle.wy_types.specs.Program.{Scope}
use Rattle.wy_types.specs.Signature.{Signature, find_method}
use Rattle.wy_rules.specs.Readings.{Reading, IsBelow}
use Rattle.wy_rules.specs.Operators.{Row, Operation, unary_rows, binary_rows, text_rows, operation_of, literal_type}
use Rattle.wy_rules.specs.Derivations.{Derivation, T-Lit, T-Var, T-This, T-Call, T-New, T-If, T-Set, T-Op, T-Asc, T-Sub, Derivations, BlockDerivation, Result, T-Seq, T-Val, Block-Sub, effects_of}
use Rattle.wy_rules.specs.Typing.{field_types, var_field, binding_type, IsValType, Derives, DerivesAll, DerivesBlock, Has, AllHave, BlockHas}

abbrev rows_in : Option Operation → List Row
rows_in None = []
rows_in (Some o) = o.rows

abbrev operands_in : Option Operation → Values
operands_in None = none
operands_in (Some o) = o.operands

-- what is used of subtyping and of inclusion
pub record Lawful (y : Reading) : Type 0 where
  pub same : (e : List ℕ) → y.Includes e e
  pub within : (e f g : List ℕ) → y.Includes e f → y.Includes f g → y.Includes e g
  pub unions : (e f g h : List ℕ) → y.Includes e g → y.Includes f h → y.Includes (union e f) (union g h)
  pub allows : (e f : List ℕ) → y.Includes e f → y.Allows e f
  pub onward : (e f g : List ℕ) → y.Allows e f → y.Allows f g → y.Allows e g
  pub unite : (e f g h : List ℕ) → y.Allows e g → y.Allows f h → y.Allows (union e f) (union g h)
  pub below : (a b c : y.Kind) → IsBelow y a b → IsBelow y b c → IsBelow y a c

-- the same type, or a supertype
abbrev pub Above : (y : Reading) → y.Kind → y.Kind → Type 0
Above y t u = (t ≡ u) ⊎ IsBelow y t u

module _ (y : Reading) (w : Lawful y) (s : Scope) (locals : List y.Kind) (owner : Option ℕ) where
  abbrev OpFormed : List Row → Values → y.Kind → List ℕ → Type 0
  OpFormed rows xs t f = (r : Row) × In r rows × AllHave y s locals owner xs (map y.read r.operands) f × (t ≡ y.read r.result)

  abbrev pub ExprFormed : Expr → y.Kind → List ℕ → Type 0
  ExprFormed (Number q n) t f = (t ≡ y.read Int) × (f ≡ [])
  ExprFormed (Quoted q bytes) t f = (t ≡ y.read Text) × (f ≡ [])
  ExprFormed (Truth q b) t f = (t ≡ y.read Bool) × (f ≡ [])
  ExprFormed (NothingOf q) t f = (t ≡ y.read Nothing) × (f ≡ [])
  ExprFormed (This q) t f = (l : ℕ) × (owner ≡ Some l) × (t ≡ y.read (Own l)) × (f ≡ [])
  ExprFormed (Name q name) t f = (binding_type y s locals owner name ≡ Some t) × (f ≡ [])
  ExprFormed (Unary q op x) t f = OpFormed (unary_rows op) (more (Plain x) none) t f
  ExprFormed (Binary q op x z) t f = OpFormed (binary_rows op) (more (Plain x) (more (Plain z) none)) t f
  ExprFormed (TextCall q op xs) t f = OpFormed (text_rows op) xs t f
  ExprFormed (Call q x name xs) t f =
      (k : y.Kind) × (e : List ℕ) × (m : Signature y.Kind) × (h : List ℕ) × Has y s locals owner (Plain x) k e × y.IsObject k × (find_method name (y.methods k) ≡ Some m) ×
      AllHave y s locals owner xs m.params h × (t ≡ m.result) × (f ≡ union e (union h m.effect))
  ExprFormed (New q l xs) t f = AllHave y s locals owner xs (map y.read (field_types s l)) f × (t ≡ y.read (Own l))
  ExprFormed (Ascribe q x u) t f = Has y s locals owner x (y.read u) f × (t ≡ y.read u)
  ExprFormed (Assign q name x) t f = (v : Field) × (var_field s owner name ≡ Some v) × Has y s locals owner x (y.read v.typ) f × (t ≡ y.read Nothing)

  abbrev pub Formed : Value → y.Kind → List ℕ → Type 0
  Formed (Plain x) t f = ExprFormed x t f
  Formed (If q test first second) t f =
      (e : List ℕ) × (g : List ℕ) × (h : List ℕ) × Has y s locals owner (Plain test) (y.read Bool) e × BlockHas y s locals owner first t g × BlockHas y s locals owner second t h × (f ≡ union e (union g h))

  -- what the rule gives, with a supertype and a larger effect
  pub record Bare (x : Value) (u : y.Kind) (g : List ℕ) : Type 0 where
    pub typ : y.Kind
    pub effect : List ℕ
    pub formed : Formed x typ effect
    pub above : Above y typ u
    pub within : y.Allows effect g

  ------------------------------------------------------------
  -- Each derivation comes to a form's own rule

  above_sub : (t k u : y.Kind) → Above y t k → IsBelow y k u → Above y t u
  above_sub t k u (inl e) b = inr (subst (λ v. IsBelow y v u) (sym e) b)
  above_sub t k u (inr a) b = inr (w.below t k u a b)

  exactly : (x : Value) (t : y.Kind) (f : List ℕ) → Formed x t f → Bare x t f
  exactly x t f h = record { typ = t; effect = f; formed = h; above = inl refl; within = w.allows f f (w.same f) }

  literal_formed : (x : Expr) (u : TypeRef) (t : y.Kind) (f : List ℕ) → literal_type x ≡ Some u → t ≡ y.read u → f ≡ [] → ExprFormed x t f
  literal_formed (Number q n) u t f e h g = (let same : Int ≡ u = cc in subst (λ v. t ≡ y.read v) (sym same) h, g)
  literal_formed (Quoted q bytes) u t f e h g = (let same : Text ≡ u = cc in subst (λ v. t ≡ y.read v) (sym same) h, g)
  literal_formed (Truth q b) u t f e h g = (let same : Bool ≡ u = cc in subst (λ v. t ≡ y.read v) (sym same) h, g)
  literal_formed (NothingOf q) u t f e h g = (let same : Nothing ≡ u = cc in subst (λ v. t ≡ y.read v) (sym same) h, g)
  literal_formed (This q) u t f e h g = absurd (cc)
  literal_formed (Name q name) u t f e h g = absurd (cc)
  literal_formed (Unary q op x) u t f e h g = absurd (cc)
  literal_formed (Binary q op x z) u t f e h g = absurd (cc)
  literal_formed (TextCall q op xs) u t f e h g = absurd (cc)
  literal_formed (Call q x name xs) u t f e h g = absurd (cc)
  literal_formed (New q l xs) u t f e h g = absurd (cc)
  literal_formed (Ascribe q x v) u t f e h g = absurd (cc)
  literal_formed (Assign q name x) u t f e h g = absurd (cc)

  op_formed : (rows : List Row) (xs : Values) (o : Operation) (r : Row) (ds : Derivations y.Kind) (t : y.Kind) (f : List ℕ) →
      rows ≡ o.rows → xs ≡ o.operands → In r o.rows → DerivesAll y s locals owner ds o.operands (map y.read r.operands) → t ≡ y.read r.result → f ≡ effects_of ds → OpFormed rows xs t f
  op_formed rows xs o r ds t f a b i h e g =
      (r, subst (λ v. In r v) (sym a) i, record { derivations = ds; derives = subst (λ v. DerivesAll y s locals owner ds v (map y.read r.operands)) (sym b) h; effects = g }, e)

  operation_formed : (x : Expr) (o : Operation) (r : Row) (ds : Derivations y.Kind) (t : y.Kind) (f : List ℕ) →
      operation_of x ≡ Some o → In r o.rows → DerivesAll y s locals owner ds o.operands (map y.read r.operands) → t ≡ y.read r.result → f ≡ effects_of ds → ExprFormed x t f
  operation_formed (Unary q op x) o r ds t f e i h k g = op_formed (unary_rows op) (more (Plain x) none) o r ds t f (ap rows_in e) (ap operands_in e) i h k g
  operation_formed (Binary q op x z) o r ds t f e i h k g = op_formed (binary_rows op) (more (Plain x) (more (Plain z) none)) o r ds t f (ap rows_in e) (ap operands_in e) i h k g
  operation_formed (TextCall q op xs) o r ds t f e i h k g = op_formed (text_rows op) xs o r ds t f (ap rows_in e) (ap operands_in e) i h k g
  operation_formed (Number q n) o r ds t f e i h k g = absurd (cc)
  operation_formed (Quoted q bytes) o r ds t f e i h k g = absurd (cc)
  operation_formed (Truth q b) o r ds t f e i h k g = absurd (cc)
  operation_formed (NothingOf q) o r ds t f e i h k g = absurd (cc)
  operation_formed (This q) o r ds t f e i h k g = absurd (cc)
  operation_formed (Name q name) o r ds t f e i h k g = absurd (cc)
  operation_formed (Call q x name xs) o r ds t f e i h k g = absurd (cc)
  operation_formed (New q l xs) o r ds t f e i h k g = absurd (cc)
  operation_formed (Ascribe q x v) o r ds t f e i h k g = absurd (cc)
  operation_formed (Assign q name x) o r ds t f e i h k g = absurd (cc)

  bare_from : (d : Derivation y.Kind) (x : Value) (u : y.Kind) (g : List ℕ) → Derives y s locals owner d x u g → Bare x u g
  bare_from (T-Lit p) (Plain x) u g h = exactly (Plain x) u g (literal_formed x h.0 u g h.2 h.3 h.4)
  bare_from (T-Var p) (Plain (Name q name)) u g h = exactly (Plain (Name q name)) u g (h.1, h.2)
  bare_from (T-This p) (Plain (This q)) u g h = exactly (Plain (This q)) u g (h.0, h.2, h.3, h.4)
  bare_from (T-Call p d k e ds) (Plain (Call q x name xs)) u g h =
      exactly (Plain (Call q x name xs)) u g
      (k, e, h.0, effects_of ds, record { derivation = d; derives = h.2 }, h.3, h.4, record { derivations = ds; derives = h.5; effects = refl }, h.6, h.7)
  bare_from (T-New p ds) (Plain (New q l xs)) u g h = exactly (Plain (New q l xs)) u g (record { derivations = ds; derives = h.1; effects = h.3 }, h.2)
  bare_from (T-If p d e a i b j) (If q test first second) u g h =
      exactly (If q test first second) u g
      (e, i, j, record { derivation = d; derives = h.1 }, record { derivation = a; derives = h.2 }, record { derivation = b; derives = h.3 }, h.4)
  bare_from (T-Set p d) (Plain (Assign q name x)) u g h = exactly (Plain (Assign q name x)) u g (h.0, h.2, record { derivation = d; derives = h.3 }, h.4)
  bare_from (T-Op p r ds) (Plain x) u g h = exactly (Plain x) u g (operation_formed x h.0 r ds u g h.2 h.3 h.4 h.5 h.6)
  bare_from (T-Asc p d) (Plain (Ascribe q x v)) u g h = exactly (Plain (Ascribe q x v)) u g (record { derivation = d; derives = h.1 }, h.2)
  bare_from (T-Sub p d k e) x u g h =
      let b = bare_from d x k e h.1 in
      record { typ = b.typ; effect = b.effect; formed = b.formed; above = above_sub b.typ k u b.above h.2; within = w.onward b.effect e g b.within (w.allows e g h.3) }
  bare_from d x u g h = absurd h

  pub bare : (x : Value) (u : y.Kind) (g : List ℕ) → Has y s locals owner x u g → Bare x u g
  bare x u g h = bare_from h.derivation x u g h.derives

  ------------------------------------------------------------
  -- Blocks

  abbrev pub BlockFormed : Block → y.Kind → List ℕ → Type 0
  BlockFormed (Last x) t f = Has y s locals owner x t f
  BlockFormed (Then x b) t f = (e : List ℕ) × (g : List ℕ) × Has y s locals owner x (y.read Nothing) e × BlockHas y s locals owner b t g × (f ≡ union e g)
  BlockFormed (Val q n typ x b) t f =
      (k : y.Kind) × (e : List ℕ) × (g : List ℕ) × (slice_get locals n ≡ Some k) × IsValType y s locals owner typ x k × Has y s locals owner x k e × BlockHas y s locals owner b t g × (f ≡ union e g)

  pub record BlockBare (b : Block) (u : y.Kind) (g : List ℕ) : Type 0 where
    pub typ : y.Kind
    pub effect : List ℕ
    pub formed : BlockFormed b typ effect
    pub above : Above y typ u
    pub within : y.Allows effect g

  exactly_block : (b : Block) (t : y.Kind) (f : List ℕ) → BlockFormed b t f → BlockBare b t f
  exactly_block b t f h = record { typ = t; effect = f; formed = h; above = inl refl; within = w.allows f f (w.same f) }

  block_from : (d : BlockDerivation y.Kind) (b : Block) (u : y.Kind) (g : List ℕ) → DerivesBlock y s locals owner d b u g → BlockBare b u g
  block_from (Result d) (Last x) u g h = exactly_block (Last x) u g (record { derivation = d; derives = h })
  block_from (T-Seq p d e ds i) (Then x b) u g h = exactly_block (Then x b) u g (e, i, record { derivation = d; derives = h.1 }, record { derivation = ds; derives = h.2 }, h.3)
  block_from (T-Val p d k e ds i) (Val q n typ x b) u g h =
      exactly_block (Val q n typ x b) u g (k, e, i, h.1, h.2, record { derivation = d; derives = h.3 }, record { derivation = ds; derives = h.4 }, h.5)
  block_from (Block-Sub p d k e) b u g h =
      let c = block_from d b k e h.1 in
      record { typ = c.typ; effect = c.effect; formed = c.formed; above = above_sub c.typ k u c.above h.2; within = w.onward c.effect e g c.within (w.allows e g h.3) }
  block_from d b u g h = absurd h

  pub block_bare : (b : Block) (u : y.Kind) (g : List ℕ) → BlockHas y s locals owner b u g → BlockBare b u g
  block_bare b u g h = block_from h.derivation b u g h.derives
