-- Walking through a scope: what is known after the start and so many bodies, and that the next body can then be judged.
use Rattle.std.proofs.Common.{◌≡◌, ℕ, ◌+◌, [], ◌++◌, inl, inr, refl, subst, Option, Some, None, take}
use Rattle.std.specs.Prelude.{slice_get}
use Rattle.wy_text.specs.Members.{In}
use Rattle.wy_text.proofs.Lists.{In-slice_get, In-left, In-right, In-cases}
use Rattle.wy_types.specs.declared.code.Variable.TheVariants.{Parameter, Local}
use Rattle.wy_types.specs.declared.resolved.Literal.{Literal}
use Rattle.wy_types.specs.Program.{Program, Scope, Body}
use Rattle.wy_types.specs.Core.{HasParameter, body_parameters}
use Rattle.wy_types.specs.Vals.{literal_captures, start_vals, bodies_vals, block_vals}
use Rattle.wy_judge.specs.Judging.{NoFault}
use Rattle.wy_judge.specs.Tables.{Table, IsKnown, IsScopeOf, BlockReady}
use Rattle.wy_judge.specs.Walking.{Walked, StartsTo, BodyTo}
use Rattle.wy_judge.proofs.Apart.{Apart-right, Apart-across}
use Rattle.wy_judge.proofs.BodyVals.{vals_there, vals_differ, vals_new, vals_more, vals_before, vals_here, captured_before, no_local, own_parameter}
use Rattle.wy_judge.proofs.Contexts.{scope_fits}
use Rattle.wy_judge.proofs.Moving.{stays_known}
use Rattle.wy_judge.proofs.Starting.{none_known}

module _ (p : Program) (k : ℕ) (s : Scope) (c : IsScopeOf p k s) where
  -- after the start
  pub walked_start : (new : Table) → StartsTo p k s [] new None → Walked p k s new 0
  walked_start new h = record {
    range = h.moves.range;
    known = λ n i. elim (In-cases n (start_vals s.start) [] i) [ inl there ↦ h.moves.settled tt n there | inr none ↦ absurd none ];
    only = λ n i. elim (h.moves.only n i) [ inl before ↦ absurd (none_known n before) | inr there ↦ In-left n (start_vals s.start) [] there ];
    ends = h.moves.ends (λ n e. absurd (cc));
  }

  ------------------------------------------------------------
  -- A body can be judged

  module _ (table : Table) (i : ℕ) (b : Body) (w : Walked p k s table i) (e : slice_get s.bodies i ≡ Some b) where
    seen_known : (n : ℕ) → In (Local n) (literal_captures (slice_get s.literals b.owner) ++ body_parameters i b) → IsKnown table n
    seen_known n h =
        elim (In-cases (Local n) (literal_captures (slice_get s.literals b.owner)) (body_parameters i b) h) [
          | inl captured ↦ w.known n (captured_before s n (start_vals s.start) s.bodies i b (scope_fits p k s c).captured e captured)
          | inr own ↦ absurd (no_local i b n own)
        ]

    captured_there : (o : Option Literal) (l : ℕ) → slice_get s.literals l ≡ o → (j m : ℕ) → In (Parameter j m) (literal_captures o) → HasParameter s j m
    captured_there None l g j m h = absurd h
    captured_there (Some x) l g j m h = (scope_fits p k s c).captured_parameters x (In-slice_get s.literals l x g) j m h

    seen_there : (j m : ℕ) → In (Parameter j m) (literal_captures (slice_get s.literals b.owner) ++ body_parameters i b) → HasParameter s j m
    seen_there j m h =
        elim (In-cases (Parameter j m) (literal_captures (slice_get s.literals b.owner)) (body_parameters i b) h) [
          | inl captured ↦ captured_there (slice_get s.literals b.owner) b.owner refl j m captured
          | inr own ↦ (let r = own_parameter i b j m own in (b, subst (λ l. slice_get s.bodies l ≡ Some b) r.0 e, r.1))
        ]

    vals_unknown : (n : ℕ) → In n (block_vals b.block) → IsKnown table n → ⊥
    vals_unknown n h known =
        elim (In-cases n (start_vals s.start) (bodies_vals (take i s.bodies)) (w.only n known)) [
          | inl start ↦ Apart-across n (start_vals s.start) (bodies_vals s.bodies) (scope_fits p k s c).vals start (vals_there n s.bodies i b e h)
          | inr before ↦ vals_new n s.bodies i b e (Apart-right (start_vals s.start) (bodies_vals s.bodies) (scope_fits p k s c).vals) before h
        ]

    pub body_ready : BlockReady p k s (Some b.owner) table b.block
    body_ready = (
      literal_captures (slice_get s.literals b.owner) ++ body_parameters i b,
      ((scope_fits p k s c).bodies i b e).1,
      record {
        range = w.range;
        locals = seen_known;
        parameters = seen_there;
        fresh = vals_unknown;
        apart = vals_differ s.bodies i b e (Apart-right (start_vals s.start) (bodies_vals s.bodies) (scope_fits p k s c).vals);
      },
    )

    -- .. and after it
    pub walked_more : (new : Table) → BodyTo p k s table new b None → Walked p k s new (i + 1)
    walked_more new h = record {
      range = h.moves.range;
      known = λ n there. elim (In-cases n (start_vals s.start) (bodies_vals (take (i + 1) s.bodies)) there) [
        | inl start ↦ stays_known p k s table new (block_vals b.block) (NoFault None) h.moves n (w.known n (In-left n (start_vals s.start) (bodies_vals (take i s.bodies)) start))
        | inr later ↦ elim (vals_more n s.bodies i b e later) [
          | inl before ↦ stays_known p k s table new (block_vals b.block) (NoFault None) h.moves n (w.known n (In-right n (start_vals s.start) (bodies_vals (take i s.bodies)) before))
          | inr here ↦ h.moves.settled tt n here
        ]
      ];
      only = λ n known. elim (h.moves.only n known) [
        | inl before ↦ elim (In-cases n (start_vals s.start) (bodies_vals (take i s.bodies)) (w.only n before)) [
          | inl start ↦ In-left n (start_vals s.start) (bodies_vals (take (i + 1) s.bodies)) start
          | inr first ↦ In-right n (start_vals s.start) (bodies_vals (take (i + 1) s.bodies)) (vals_before n s.bodies i first)
        ]
        | inr here ↦ In-right n (start_vals s.start) (bodies_vals (take (i + 1) s.bodies)) (vals_here n s.bodies i b e here)
      ];
      ends = h.moves.ends w.ends;
    }
