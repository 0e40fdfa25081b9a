-- The steps of a scope are those of its start and then those of its bodies.
use Rattle.std.proofs.Common.{◌≡◌, ℕ, ◌+◌, ◌<◌, ◌≤◌, List, [], ◌∷◌, ◌++◌, map, length, get_or, drop, Option, Some, None, Bool as Truth, true, false, refl, sym, ap, ◌∙◌, append_assoc}
use Rattle.std.proofs.lemmas.List.{append-nil, drop_more, drop_all}
use Rattle.wy_types.specs.declared.types.TypeRef.{TypeRef}
use Rattle.wy_types.specs.declared.types.TypeRef.TheVariants.{Unit as Nothing}
use Rattle.wy_types.specs.declared.resolved.Body as own
use Rattle.wy_types.specs.Code.{Values, Block}
use Rattle.wy_types.specs.Vals.{value_count}
use Rattle.wy_types.specs.Program.{Program, Scope, Body, Start, Init, Run, body_of}
use Rattle.wy_types.specs.Types.{is_plain}
use Rattle.wy_rules.specs.Derivations.{block_mark}
use Rattle.wy_rules.specs.Canonical.{same_type, block_at_type, canonical_values, canonical_block, canonical_start, canonical_body}
use Rattle.wy_cert.specs.declared.certificate.Rule.TheVariants as by
use Rattle.wy_proving.specs.Steps.{Step, step, values_steps, block_steps, start_steps, bodies_steps}
use Rattle.wy_proving.specs.Written.{steps_in, written_steps}
use Rattle.wy_proving.specs.OneReading.{reading_at}
use Rattle.wy_certify.specs.Written.{Context, reading, all_steps, field_typs, run_at_steps, start_written, body_written, bodies_written}

-- where the current object is another one
abbrev pub with_owner : Context → Option ℕ → Context
with_owner c o = record { program = c.program; number = c.number; scope = c.scope; locals = c.locals; owner = o }

module _ (c : Context) where
  -- of the initialisers of a module's fields, and of the program's block
  pub init_written : (xs : Values) → c.owner ≡ None → c.scope.start ≡ Init xs → start_written c ≡ all_steps c xs (field_typs c 0) ++ step by.Body c.scope.start_place (value_count xs) None [] ∷ []
  unfolding start_written all_steps field_typs
  init_written xs none is =
      let y = reading c in
      let ts = field_typs c 0 in
      let own : List (Step TypeRef) = step by.Body c.scope.start_place (value_count xs) None [] ∷ [] in
      ap (λ (v : Start). start_steps y c.scope (canonical_start y same_type c.scope c.locals v) v) is ∙
      sym (ap (λ (o : Option ℕ). values_steps y c.scope o (canonical_values y same_type c.scope c.locals o xs ts) xs ts ++ own) none)

  pub run_written : (b : Block) → c.owner ≡ None → c.scope.start ≡ Run b → start_written c ≡ run_at_steps c b Nothing ++ step by.Body c.scope.start_place 1 None [] ∷ []
  unfolding start_written run_at_steps
  run_written b none is =
      let y = reading c in
      let own : List (Step TypeRef) = step by.Body c.scope.start_place 1 None [] ∷ [] in
      ap (λ (v : Start). start_steps y c.scope (canonical_start y same_type c.scope c.locals v) v) is ∙
      sym (ap (λ (o : Option ℕ). (let m = canonical_block y same_type c.scope c.locals o b Nothing in block_steps y c.scope o (block_at_type y same_type (block_mark b) m Nothing) b Nothing m.effect ++ own)) none)

  pub body_is : (b : Body) → body_written c b ≡ run_at_steps (with_owner c (Some b.owner)) b.block b.signature.result ++ step by.Body b.place 1 None [] ∷ []
  unfolding body_written run_at_steps
  body_is b = refl

  bodies_none : bodies_written c [] ≡ []
  unfolding bodies_written
  bodies_none = refl

  bodies_more : (b : Body) (bs : List Body) → bodies_written c (b ∷ bs) ≡ body_written c b ++ bodies_written c bs
  unfolding bodies_written body_written
  bodies_more b bs = refl

  -- one more body, and none is left
  module _ (xs : List own.Body) (i : ℕ) where
    pub body_turn : (x : own.Body) → i < length xs → x ≡ get_or xs i x → (old mid new : List (Step TypeRef)) → mid ++ bodies_written c (map body_of (drop i xs)) ≡ old → new ≡ mid ++ body_written c (body_of x) →
        new ++ bodies_written c (map body_of (drop (i + 1) xs)) ≡ old
    body_turn x lt is old mid new h n =
        let rest = bodies_written c (map body_of (drop (i + 1) xs)) in
        let here : drop i xs ≡ x ∷ drop (i + 1) xs = drop_more xs i x lt ∙ ap (λ (z : own.Body). z ∷ drop (i + 1) xs) (sym is) in
        let whole = ap (λ (l : List own.Body). bodies_written c (map body_of l)) here ∙ bodies_more (body_of x) (map body_of (drop (i + 1) xs)) in
        ap (λ (l : List (Step TypeRef)). l ++ rest) n ∙ append_assoc mid (body_written c (body_of x)) rest ∙ ap (λ (l : List (Step TypeRef)). mid ++ l) (sym whole) ∙ h

    pub bodies_end : length xs ≤ i → (old mid : List (Step TypeRef)) → mid ++ bodies_written c (map body_of (drop i xs)) ≡ old → mid ≡ old
    bodies_end short old mid h =
        let e = ap (λ (l : List own.Body). bodies_written c (map body_of l)) (drop_all i xs short) ∙ bodies_none in
        sym (append-nil mid) ∙ ap (λ (l : List (Step TypeRef)). mid ++ l) (sym e) ∙ h

-- of the whole scope, by its kind
by_kind : (p : Program) (k : ℕ) (s : Scope) (locals : List TypeRef) (plain : Truth) → steps_in p k s plain locals ≡
    (let y = reading_at p k plain in start_steps y s (canonical_start y same_type s locals s.start) s.start ++ bodies_steps y s (map (canonical_body y same_type s locals) s.bodies) s.bodies)
by_kind p k s locals true = refl
by_kind p k s locals false = refl

pub scope_written : (c : Context) → written_steps c.program c.number c.scope c.locals ≡ start_written c ++ bodies_written c c.scope.bodies
unfolding start_written bodies_written
scope_written c = by_kind c.program c.number c.scope c.locals (is_plain c.scope.kind)
