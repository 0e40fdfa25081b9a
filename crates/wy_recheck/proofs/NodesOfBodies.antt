-- The nodes of bodies: of what is behind a block or values, of a scope's start, and of all bodies.
use Rattle.std.proofs.Common.{◌≡◌, ℕ, ◌+◌, ◌<◌, ◌≤◌, List, [], ◌∷◌, length, drop, refl, sym, ap, ◌∙◌, subst, None, Bool as Truth}
use Rattle.std.specs.Prelude.{Result, Ok, Err, if◌then◌else◌}
use Rattle.wy_text.specs.declared.fault.Place.{Place}
use Rattle.wy_effects.proofs.Walks.{drop_at, drop_none}
use Rattle.wy_types.specs.declared.types.TypeRef.{TypeRef}
use Rattle.wy_types.specs.declared.types.TypeRef.TheVariants.{Unit as Nothing}
use Rattle.wy_types.specs.Code.{Values, Block}
use Rattle.wy_types.specs.Program.{Init, Run, scope_of}
use Rattle.wy_rules.specs.Canonical.{both, same_type}
use Rattle.wy_cert.specs.declared.certificate.CertNode.{CertNode}
use Rattle.wy_cert.specs.declared.certificate.Rule.TheVariants as by
use Rattle.wy_proving.specs.Reading.{Part, part_stands, part_fails, Parts, parts_stand, parts_fail, Bodies, bodies_stand, bodies_fail, bodies_then, block_then, values_then, at_end, says_untyped, read_body_node, read_start, read_bodies}
use Rattle.wy_recheck.specs.declared.failure.Failure.{Failure}
use Rattle.wy_recheck.specs.declared.reader.Reader.{Reader}
use Rattle.wy_recheck.specs.declared.reader.Read.{Read}
use Rattle.wy_recheck.specs.declared.reader.Several.{Several}
use Rattle.wy_recheck.specs.Standing.{FailsFirst}
use Rattle.wy_recheck.specs.Nodes.{reading_of, lists_of, left, block_body_read, fields_read, start_read, bodies_read, scope_read, NextFails, IsNotNext, IsPassed, BodiesAreRead}
use Rattle.wy_recheck.proofs.NodesFailing.{first_weaker}

------------------------------------------------------------
-- A body's own node

module _ (holds : Truth) (q : Place) (parts : ℕ) where
  abbrev says_body : CertNode → Truth
  says_body n = both holds (says_untyped by.Body q parts [] n)

  not_body : (at : ℕ) (ns : List CertNode) → NextFails says_body ns → read_body_node holds q parts at ns ≡ bodies_fail at
  not_body at [] h = refl
  not_body at (n ∷ ns) h = ap (λ b. if b then bodies_stand (at + 1) ns else bodies_fail at) h

  pub passed_body : {A : Type 0} (nodes : List CertNode) (at new : ℕ) (result : Result A Failure) → IsPassed nodes says_body at new result → BodiesAreRead nodes (read_body_node holds q parts at (drop at nodes)) new result
  passed_body nodes at new (Ok u) h =
      ap (read_body_node holds q parts at) h.there ∙ ap (λ b. if b then bodies_stand (at + 1) (drop new nodes) else bodies_fail at) h.said ∙
      ap (λ i. bodies_stand i (drop new nodes)) (sym h.next)
  passed_body nodes at new (Err f) h =
      first_weaker (IsNotNext nodes says_body at) (λ i. read_body_node holds q parts at (drop at nodes) ≡ bodies_fail i)
      (λ i g. not_body at (drop at nodes) g.fails ∙ ap (λ j. bodies_fail j) (sym g.place)) f h

------------------------------------------------------------
-- What comes behind a block or values

pub bodies_as : {A : Type 0} (nodes : List CertNode) (at : ℕ) (result : Result A Failure) (bodies same : Bodies) → same ≡ bodies → BodiesAreRead nodes bodies at result → BodiesAreRead nodes same at result
bodies_as nodes at result bodies same e h = subst (λ (p : Bodies). BodiesAreRead nodes p at result) (sym e) h

module _ (nodes : List CertNode) (whole : Bodies) (part : Part TypeRef) (f : TypeRef → List ℕ → ℕ → List CertNode → Bodies) (form : whole ≡ block_then part f) where
  pub behind_block : {A : Type 0} (x : Read) (at new : ℕ) (result : Result A Failure) → part ≡ part_stands x.typ x.effect at (drop at nodes) → BodiesAreRead nodes (f x.typ x.effect at (drop at nodes)) new result → BodiesAreRead nodes whole new result
  behind_block x at new result h g = bodies_as nodes new result (f x.typ x.effect at (drop at nodes)) whole (form ∙ ap (λ (p : Part TypeRef). block_then p f) h) g

  pub block_fails_first : (e : Failure) → FailsFirst (λ i. part ≡ part_fails i) e → FailsFirst (λ i. whole ≡ bodies_fail i) e
  block_fails_first e h = first_weaker (λ i. part ≡ part_fails i) (λ i. whole ≡ bodies_fail i) (λ i g. form ∙ ap (λ (p : Part TypeRef). block_then p f) g) e h

module _ (nodes : List CertNode) (whole : Bodies) (parts : Parts TypeRef) (f : List TypeRef → List ℕ → ℕ → List CertNode → Bodies) (form : whole ≡ values_then parts f) where
  pub behind_values : {A : Type 0} (xs : Several) (at new : ℕ) (result : Result A Failure) → parts ≡ parts_stand xs.types xs.effect at (drop at nodes) → BodiesAreRead nodes (f xs.types xs.effect at (drop at nodes)) new result → BodiesAreRead nodes whole new result
  behind_values xs at new result h g = bodies_as nodes new result (f xs.types xs.effect at (drop at nodes)) whole (form ∙ ap (λ (p : Parts TypeRef). values_then p f) h) g

  pub values_fail_first : (e : Failure) → FailsFirst (λ i. parts ≡ parts_fail i) e → FailsFirst (λ i. whole ≡ bodies_fail i) e
  values_fail_first e h = first_weaker (λ i. parts ≡ parts_fail i) (λ i. whole ≡ bodies_fail i) (λ i g. form ∙ ap (λ (p : Parts TypeRef). values_then p f) g) e h

------------------------------------------------------------
-- The start of a scope, and all of it

module _ (r : Reader) where
  module _ (owner : r.owner ≡ None) (at : ℕ) where
    -- the initialisers of fields
    pub starts_with_values : (values : Values) → (scope_of r.scope.now).start ≡ Init values → start_read r at ≡ fields_read r at values
    starts_with_values values h =
        ap (λ st. read_start (reading_of r) same_type (lists_of r) (scope_of r.scope.now) r.locals.now st at (left r at)) h ∙
        ap (λ o. fields_read (record r { owner = o }) at values) (sym owner)

    -- the block of `run`
    pub starts_with_block : (block : Block) → (scope_of r.scope.now).start ≡ Run block →
        start_read r at ≡ block_body_read r at (scope_of r.scope.now).start_place block Nothing (scope_of r.scope.now).start_effect
    starts_with_block block h =
        ap (λ st. read_start (reading_of r) same_type (lists_of r) (scope_of r.scope.now) r.locals.now st at (left r at)) h ∙
        ap (λ o. block_body_read (record r { owner = o }) at (scope_of r.scope.now).start_place block Nothing (scope_of r.scope.now).start_effect) (sym owner)

  abbrev behind_bodies : Bodies → Bodies
  behind_bodies p = at_end (bodies_then p (λ i rest. read_bodies (reading_of r) same_type (lists_of r) (scope_of r.scope.now) r.locals.now (scope_of r.scope.now).bodies i rest))

  -- the start fails
  pub scope_fails_at_start : (j : ℕ) → start_read r 0 ≡ bodies_fail j → scope_read r ≡ bodies_fail j
  scope_fails_at_start j h = ap behind_bodies h

  module _ (mid : ℕ) (start : start_read r 0 ≡ bodies_stand mid (left r mid)) where
    -- a body fails
    pub scope_fails_in_bodies : (j : ℕ) → bodies_read r mid (scope_of r.scope.now).bodies ≡ bodies_fail j → scope_read r ≡ bodies_fail j
    scope_fails_in_bodies j h = ap behind_bodies start ∙ ap at_end h

    module _ (new : ℕ) (bodies : bodies_read r mid (scope_of r.scope.now).bodies ≡ bodies_stand new (left r new)) where
      ended : scope_read r ≡ at_end (bodies_stand new (left r new))
      ended = ap behind_bodies start ∙ ap at_end bodies

      -- a node is left
      pub scope_fails_at_end : new < length r.nodes.now → (n : CertNode) → scope_read r ≡ bodies_fail new
      scope_fails_at_end lt n = ended ∙ ap (λ l. at_end (bodies_stand new l)) (drop_at r.nodes.now new n lt)

      -- none is
      pub scope_ends : length r.nodes.now ≤ new → scope_read r ≡ bodies_stand new []
      scope_ends le = ended ∙ ap (λ l. at_end (bodies_stand new l)) (drop_none r.nodes.now new le)
