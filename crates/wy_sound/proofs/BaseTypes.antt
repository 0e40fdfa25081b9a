-- The types of a run that a scope's base types and own types are read as, grants' types, and which values are of a base type.
use Rattle.std.proofs.Common.{◌≡◌, ℕ, ◌<◌, ℤ, Bool, List, length, map, inl, refl, sym, ap, ◌∙◌, subst, Option, Some, None}
use Rattle.std.specs.Prelude.{slice_get}
use Rattle.wy_effects.specs.EffSet.{replace}
use Rattle.wy_text.proofs.Lists.{In-slice_get}
use Rattle.wy_types.specs.declared.types.TypeRef.{TypeRef}
use Rattle.wy_types.specs.declared.types.TypeRef.TheVariants as of
use Rattle.wy_types.specs.declared.linked.Actual.TheVariants as actual
use Rattle.wy_types.specs.declared.resolved.Origin.{Origin}
use Rattle.wy_types.specs.declared.resolved.Origin.TheVariants as origin
use Rattle.wy_types.specs.declared.resolved.OwnName.{OwnName}
use Rattle.wy_types.specs.Program.{Program, Scope}
use Rattle.wy_types.specs.Primitive.{first_declared}
use Rattle.wy_types.specs.Core.{IsCore, IsPrimitive, OriginFits}
use Rattle.wy_types.specs.Ground.{names_of, type_of, program_number, program_sets, start_list}
use Rattle.wy_rules.specs.GroundTypes.{GroundType, Int as Ints, Bool as Truths, Text as Texts, Nothing as Nothings, Named, Own, IsGroundObject, type_at, read_by}
use Rattle.wy_meaning.specs.Values.{Value, Int as Number, Truth, Nothing, Text, Object, Grant, Thing}
use Rattle.wy_sound.specs.Arguments.{program_names, actual_type, IsThere}
use Rattle.wy_sound.proofs.Below.{Below, below_base}
use Rattle.wy_sound.specs.TypedHeaps.{Placed, kind_at, ValueHas}

------------------------------------------------------------
-- Base types and own types stay, however a scope is read

pub read_int : (x : ℕ) (o : Option (List ℕ)) (sets : List (List ℕ)) → type_at x (read_by o sets of.Int) ≡ Ints
read_int x None sets = refl
read_int x (Some b) sets = refl

pub read_bool : (x : ℕ) (o : Option (List ℕ)) (sets : List (List ℕ)) → type_at x (read_by o sets of.Bool) ≡ Truths
read_bool x None sets = refl
read_bool x (Some b) sets = refl

pub read_text : (x : ℕ) (o : Option (List ℕ)) (sets : List (List ℕ)) → type_at x (read_by o sets of.Text) ≡ Texts
read_text x None sets = refl
read_text x (Some b) sets = refl

pub read_nothing : (x : ℕ) (o : Option (List ℕ)) (sets : List (List ℕ)) → type_at x (read_by o sets of.Unit) ≡ Nothings
read_nothing x None sets = refl
read_nothing x (Some b) sets = refl

pub read_own : (x l : ℕ) (o : Option (List ℕ)) (sets : List (List ℕ)) → type_at x (read_by o sets (of.Own l)) ≡ Own x l
read_own x l None sets = refl
read_own x l (Some b) sets = refl

------------------------------------------------------------
-- Grants

module _ (p : Program) where
  -- a grant of the program is of a primitive type
  pub record IsGrant (g : ℕ) : Type 0 where
    pub name : OwnName
    pub there : slice_get (program_names p) g ≡ Some name
    pub origin : name.origin ≡ origin.Grant
    pub number : ℕ
    pub members : List (List ℕ)
    pub typ : name.typ ≡ of.Named number members
    pub primitive : number < first_declared

  origin_fits : (s : Scope) (k : ℕ) (n : OwnName) (o : Origin) → o ≡ origin.Grant → OriginFits p s k n o → IsPrimitive n.typ
  origin_fits s k n o e h = (subst (λ o. OriginFits p s k n o) e h).1

  primitive_named : (t : TypeRef) → IsPrimitive t → (d : ℕ) × (ms : List (List ℕ)) × (t ≡ of.Named d ms) × (d < first_declared)
  primitive_named (of.Named d ms) h = (d, ms, refl, h)
  primitive_named of.Int h = absurd h
  primitive_named of.Bool h = absurd h
  primitive_named of.Text h = absurd h
  primitive_named of.Unit h = absurd h
  primitive_named (of.At d b) h = absurd h
  primitive_named (of.Own l) h = absurd h

  name_fits : IsCore p → (o : Option Scope) → o ≡ slice_get p.scopes (program_number p) → (g : ℕ) (n : OwnName) → slice_get (names_of o) g ≡ Some n →
      n.origin ≡ origin.Grant → IsPrimitive n.typ
  name_fits core None e g n f h = absurd cc
  name_fits core (Some s) e g n f h =
      origin_fits s g n n.origin h ((core.scopes s (In-slice_get p.scopes (program_number p) s (sym e))).names g n f).1

  pub is_grant : IsCore p → (now g : ℕ) → IsThere p now (actual.Grant g) → IsGrant g
  is_grant core now g h =
      let r = primitive_named h.0.typ (name_fits core (slice_get p.scopes (program_number p)) refl g h.0 h.1 h.2) in
      record { name = h.0; there = h.1; origin = h.2; number = r.0; members = r.1; typ = r.2; primitive = r.3 }

  abbrev pub sets_put : List (List ℕ) → List (List ℕ)
  sets_put members = map (replace (program_sets p)) members

  pub grant_kind : (g : ℕ) → (h : IsGrant g) → actual_type p (actual.Grant g) ≡ Named h.number (sets_put h.members)
  grant_kind g h = ap (λ o. type_at (length (start_list p)) (read_by None (program_sets p) (type_of o))) h.there ∙
      ap (λ t. type_at (length (start_list p)) (read_by None (program_sets p) t)) h.typ

  ------------------------------------------------------------
  -- Values of a base type

  module _ (core : IsCore p) (now : ℕ) (h : List Thing) where
    not_base : (g : ℕ) (k : GroundType) → IsThere p now (actual.Grant g) → actual_type p (actual.Grant g) ≡ k → (IsGroundObject k → ⊥) → ⊥
    not_base g k q e base = base (subst IsGroundObject (sym (grant_kind g (is_grant core now g q)) ∙ e) tt)

    pub number_value : (v : Value) → ValueHas p now h v Ints → (n : ℤ) × (v ≡ Number n)
    number_value (Number n) q = (n, refl)
    number_value (Truth b) q = let e = below_base p Truths Ints (λ i. i) q in absurd cc
    number_value Nothing q = let e = below_base p Nothings Ints (λ i. i) q in absurd cc
    number_value (Text s) q = let e = below_base p Texts Ints (λ i. i) q in absurd cc
    number_value (Object a) q = let e = below_base p (Own q.0.instance q.0.literal) Ints (λ i. i) q.3 in absurd cc
    number_value (Grant g) q = absurd (not_base g Ints q.0 (below_base p (actual_type p (actual.Grant g)) Ints (λ i. i) q.1) (λ i. i))

    pub truth_value : (v : Value) → ValueHas p now h v Truths → (b : Bool) × (v ≡ Truth b)
    truth_value (Truth b) q = (b, refl)
    truth_value (Number n) q = let e = below_base p Ints Truths (λ i. i) q in absurd cc
    truth_value Nothing q = let e = below_base p Nothings Truths (λ i. i) q in absurd cc
    truth_value (Text s) q = let e = below_base p Texts Truths (λ i. i) q in absurd cc
    truth_value (Object a) q = let e = below_base p (Own q.0.instance q.0.literal) Truths (λ i. i) q.3 in absurd cc
    truth_value (Grant g) q = absurd (not_base g Truths q.0 (below_base p (actual_type p (actual.Grant g)) Truths (λ i. i) q.1) (λ i. i))

    pub text_value : (v : Value) → ValueHas p now h v Texts → (s : List ℕ) × (v ≡ Text s)
    text_value (Text s) q = (s, refl)
    text_value (Number n) q = let e = below_base p Ints Texts (λ i. i) q in absurd cc
    text_value Nothing q = let e = below_base p Nothings Texts (λ i. i) q in absurd cc
    text_value (Truth b) q = let e = below_base p Truths Texts (λ i. i) q in absurd cc
    text_value (Object a) q = let e = below_base p (Own q.0.instance q.0.literal) Texts (λ i. i) q.3 in absurd cc
    text_value (Grant g) q = absurd (not_base g Texts q.0 (below_base p (actual_type p (actual.Grant g)) Texts (λ i. i) q.1) (λ i. i))

  module _ (x : ℕ) (pl : Placed p x) where
    pub number_kind : Below p Ints (kind_at p x pl of.Int)
    number_kind = inl (sym (read_int x pl.instance.bound pl.instance.ground))

    pub truth_kind : Below p Truths (kind_at p x pl of.Bool)
    truth_kind = inl (sym (read_bool x pl.instance.bound pl.instance.ground))

    pub text_kind : Below p Texts (kind_at p x pl of.Text)
    text_kind = inl (sym (read_text x pl.instance.bound pl.instance.ground))

    pub nothing_kind : Below p Nothings (kind_at p x pl of.Unit)
    nothing_kind = inl (sym (read_nothing x pl.instance.bound pl.instance.ground))

    pub own_kind : (l : ℕ) → Below p (Own x l) (kind_at p x pl (of.Own l))
    own_kind l = inl (sym (read_own x l pl.instance.bound pl.instance.ground))

  module _ (core : IsCore p) (now x : ℕ) (pl : Placed p x) (h : List Thing) (v : Value) where
    pub number_at : ValueHas p now h v (kind_at p x pl of.Int) → (n : ℤ) × (v ≡ Number n)
    number_at q = number_value core now h v (subst (λ (k : GroundType). ValueHas p now h v k) (read_int x pl.instance.bound pl.instance.ground) q)

    pub truth_at : ValueHas p now h v (kind_at p x pl of.Bool) → (b : Bool) × (v ≡ Truth b)
    truth_at q = truth_value core now h v (subst (λ (k : GroundType). ValueHas p now h v k) (read_bool x pl.instance.bound pl.instance.ground) q)

    pub text_at : ValueHas p now h v (kind_at p x pl of.Text) → (s : List ℕ) × (v ≡ Text s)
    text_at q = text_value core now h v (subst (λ (k : GroundType). ValueHas p now h v k) (read_text x pl.instance.bound pl.instance.ground) q)
