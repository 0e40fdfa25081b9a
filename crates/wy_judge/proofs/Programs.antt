-- A program's scopes by their turns: what holds of those of a turn, the first at which judging ends, and the program's own scope.
use Rattle.std.proofs.Common.{◌≡◌, ℕ, zero, suc, ◌+◌, ◌-◌, ◌<◌, ◌≤◌, List, [], ◌∷◌, inl, inr, length, get_or, refl, sym, ap, subst, ◌∙◌, Some, true, false, arith, below_more}
use Rattle.std.specs.Prelude.{slice_get, if◌then◌else◌}
use Rattle.std.specs.Option.{option_map}
use Rattle.std.proofs.lemmas.List.{length-map}
use Rattle.std.proofs.lemmas.Option.{slice_get-map, slice_get_read, slice_get_within}
use Rattle.wy_types.specs.declared.resolved.ScopeKind.{ScopeKind}
use Rattle.wy_types.specs.declared.resolved.ScopeKind.TheVariants.{Pure, Resource, Plain, Program as Main}
use Rattle.wy_types.specs.declared.resolved.Scope as sc
use Rattle.wy_types.specs.declared.resolved.Core.{Core}
use Rattle.wy_types.specs.Program.{Program, Scope, scope_of, program_of}
use Rattle.wy_types.specs.Core.{IsCore, ProgramIsLast}
use Rattle.wy_rules.specs.Refusals.{Turn, the_program, turn_of, is_its_turn, Numbered, scopes_of}
use Rattle.wy_rules.specs.Ends.{End, IsScopeEnd, ScopeGoesOn, FirstEnd, AllGoOn}

-- the scope of a number, as the code reads it
pub scope_read : (core : Core) (scopes : List sc.Scope) (k : ℕ) (x : sc.Scope) → scopes ≡ core.scopes → k < length scopes → x ≡ get_or scopes k x → slice_get (program_of core).scopes k ≡ Some (scope_of x)
scope_read core scopes k x e lt there =
    slice_get-map scope_of core.scopes k ∙ ap (option_map scope_of) (ap (λ (l : List sc.Scope). slice_get l k) (sym e) ∙ slice_get_read scopes _ k x refl lt there)

------------------------------------------------------------
-- The scopes of a turn, from a number on

module _ (turn : Turn) (j : ℕ) (s : Scope) (ss : List Scope) where
  of_turn : is_its_turn turn (turn_of s.kind) ≡ true → scopes_of turn j (s ∷ ss) ≡ record { number = j; scope = s } ∷ scopes_of turn (j + 1) ss
  of_turn e = rw e refl

  of_another : is_its_turn turn (turn_of s.kind) ≡ false → scopes_of turn j (s ∷ ss) ≡ scopes_of turn (j + 1) ss
  of_another e = rw e refl

  -- whether the first one is of the turn, by cases
  by_turn : (P : List Numbered → Type 0) →
      (is_its_turn turn (turn_of s.kind) ≡ true → P (record { number = j; scope = s } ∷ scopes_of turn (j + 1) ss)) →
      (is_its_turn turn (turn_of s.kind) ≡ false → P (scopes_of turn (j + 1) ss)) →
      P (scopes_of turn j (s ∷ ss))
  by_turn P taken passed =
      elim (is_its_turn turn (turn_of s.kind)) as (λ b. (b ≡ true → P (record { number = j; scope = s } ∷ scopes_of turn (j + 1) ss)) → (b ≡ false → P (scopes_of turn (j + 1) ss)) → P (if b then record { number = j; scope = s } ∷ scopes_of turn (j + 1) ss else scopes_of turn (j + 1) ss)) [
        | true ↦ λ f g. f refl
        | false ↦ λ f g. g refl
      ] taken passed

module _ (p : Program) (turn : Turn) where
  -- the scope of a number goes on, where it is of the turn
  abbrev pub GoesOnInTurn : ℕ → Scope → Type 0
  GoesOnInTurn n s = is_its_turn turn (turn_of s.kind) ≡ true → ScopeGoesOn p (record { number = n; scope = s })

  all_go_on_from : (j : ℕ) (ss : List Scope) → ((i : ℕ) (s : Scope) (n : ℕ) → slice_get ss i ≡ Some s → n ≡ j + i → GoesOnInTurn n s) → AllGoOn p (scopes_of turn j ss)
  all_go_on_from j [] h = tt
  all_go_on_from j (s ∷ ss) h =
      let rest = all_go_on_from (j + 1) ss (λ i t n there e. h (suc i) t n there (omega arith)) in
      by_turn turn j s ss (AllGoOn p) (λ its. (h 0 s j refl (omega arith) its, rest)) (λ its. rest)

  each_goes_on_from : (j : ℕ) (ss : List Scope) → AllGoOn p (scopes_of turn j ss) → (i : ℕ) (s : Scope) (n : ℕ) → slice_get ss i ≡ Some s → n ≡ j + i → GoesOnInTurn n s
  each_goes_on_from j [] h i s n there e = cc
  each_goes_on_from j (t ∷ ss) h zero s n there e =
      let same : t ≡ s = cc in
      let number : j ≡ n = omega arith in
      subst (λ v. GoesOnInTurn v s) number (subst (GoesOnInTurn j) same (λ its. (subst (AllGoOn p) (of_turn turn j t ss its) h).0))
  each_goes_on_from j (t ∷ ss) h (suc i) s n there e =
      let rest = by_turn turn j t ss (λ ns. AllGoOn p ns → AllGoOn p (scopes_of turn (j + 1) ss)) (λ its g. g.1) (λ its g. g) h in
      each_goes_on_from (j + 1) ss rest i s n there (omega arith)

  -- the first scope at which judging ends, where those before it go on
  ends_from : (j : ℕ) (ss : List Scope) (k : ℕ) (s : Scope) (end : End) → slice_get ss k ≡ Some s → is_its_turn turn (turn_of s.kind) ≡ true →
      ((i : ℕ) (t : Scope) (n : ℕ) → i < k → slice_get ss i ≡ Some t → n ≡ j + i → GoesOnInTurn n t) →
      ((n : ℕ) → n ≡ j + k → IsScopeEnd p (record { number = n; scope = s }) end) → FirstEnd p (scopes_of turn j ss) end
  ends_from j [] k s end there its before ends = cc
  ends_from j (t ∷ ss) zero s end there its before ends =
      let same : s ≡ t = cc in
      let its_turn = subst (λ (v : Scope). is_its_turn turn (turn_of v.kind) ≡ true) same its in
      let end_here = subst (λ v. IsScopeEnd p (record { number = j; scope = v }) end) same (ends j (omega arith)) in
      subst (λ ns. FirstEnd p ns end) (sym (of_turn turn j t ss its_turn)) (inl end_here)
  ends_from j (t ∷ ss) (suc k) s end there its before ends =
      let rest = ends_from (j + 1) ss k s end there its (λ i u n lt at e. before (suc i) u n (omega arith) at (omega arith)) (λ n e. ends n (omega arith)) in
      by_turn turn j t ss (λ ns. FirstEnd p ns end) (λ its. inr (before 0 t j (omega arith) refl (omega arith) its, rest)) (λ its. rest)

  ------------------------------------------------------------
  -- .. of the whole program

  -- those before a number go on
  abbrev pub GoOnBefore : ℕ → Type 0
  GoOnBefore k = (i : ℕ) → i < k → (s : Scope) → slice_get p.scopes i ≡ Some s → GoesOnInTurn i s

  pub one_more_goes_on : (k : ℕ) (s : Scope) → GoOnBefore k → slice_get p.scopes k ≡ Some s → GoesOnInTurn k s → GoOnBefore (k + 1)
  one_more_goes_on k s before there h =
      below_more (λ i. (t : Scope) → slice_get p.scopes i ≡ Some t → GoesOnInTurn i t) k before
      (λ t at. (let same : s ≡ t = (let e = sym there ∙ at in cc) in subst (GoesOnInTurn k) same h))

  pub all_go_on : (k : ℕ) → length p.scopes ≤ k → GoOnBefore k → AllGoOn p (scopes_of turn 0 p.scopes)
  all_go_on k le h =
      all_go_on_from 0 p.scopes
      (λ i s n there e. (let lt = slice_get_within p.scopes i s there in let same : i ≡ n = omega arith in subst (λ v. GoesOnInTurn v s) same (h i (omega arith) s there)))

  pub each_goes_on : AllGoOn p (scopes_of turn 0 p.scopes) → (k : ℕ) (s : Scope) → slice_get p.scopes k ≡ Some s → GoesOnInTurn k s
  each_goes_on h k s there = each_goes_on_from 0 p.scopes h k s k there (omega arith)

  pub ends_at : (k : ℕ) (s : Scope) (end : End) → slice_get p.scopes k ≡ Some s → is_its_turn turn (turn_of s.kind) ≡ true → GoOnBefore k →
      IsScopeEnd p (record { number = k; scope = s }) end → FirstEnd p (scopes_of turn 0 p.scopes) end
  ends_at k s end there its before ends =
      ends_from 0 p.scopes k s end there its
      (λ i t n lt at e. (let same : i ≡ n = omega arith in subst (λ v. GoesOnInTurn v t) same (before i lt t at)))
      (λ n e. (let same : k ≡ n = omega arith in subst (λ v. IsScopeEnd p (record { number = v; scope = s }) end) same ends))

------------------------------------------------------------
-- The program's own scope: the last one, and the only one of its turn

is_module : (kind : ScopeKind) → (kind ≡ Main → ⊥) → is_its_turn the_program (turn_of kind) ≡ false
is_module Pure ne = refl
is_module Resource ne = refl
is_module Plain ne = refl
is_module Main ne = absurd (ne refl)

record LastScope (ss : List Scope) : Type 0 where
  before : ℕ
  scope : Scope
  number : length ss ≡ before + 1
  there : slice_get ss before ≡ Some scope
  alone : (j : ℕ) → scopes_of the_program j ss ≡ record { number = j + before; scope = scope } ∷ []

last_scope : (ss : List Scope) → ProgramIsLast ss → LastScope ss
last_scope [] h = absurd h
last_scope (s ∷ []) h = record {
  before = 0;
  scope = s;
  number = omega arith;
  there = refl;
  alone = λ j. (let same : j ≡ j + 0 = omega arith in of_turn the_program j s [] (rw h refl) ∙ ap (λ n. record { number = n; scope = s } ∷ []) same);
}
last_scope (s ∷ t ∷ rest) h =
    let r = last_scope (t ∷ rest) h.1 in
    record {
      before = suc r.before;
      scope = r.scope;
      number = omega (arith, r.number);
      there = r.there;
      alone = λ j. (let same : j + 1 + r.before ≡ j + suc r.before = omega arith in of_another the_program j s (t ∷ rest) (is_module s.kind h.0) ∙ (r.alone (j + 1) ∙ ap (λ n. record { number = n; scope = r.scope } ∷ []) same));
    }

-- it is at the number that the code takes
pub record IsLastAt (p : Program) (k : ℕ) : Type 0 where
  pub scope : Scope
  pub there : slice_get p.scopes k ≡ Some scope
  pub alone : scopes_of the_program 0 p.scopes ≡ record { number = k; scope = scope } ∷ []

pub last_of : (core : Core) → IsCore (program_of core) → IsLastAt (program_of core) (length core.scopes - 1)
last_of core h =
    let scopes = (program_of core).scopes in
    let r = last_scope scopes h.program in
    let same : r.before ≡ length core.scopes - 1 = omega (arith, r.number, length-map core.scopes scope_of) in
    let number : 0 + r.before ≡ length core.scopes - 1 = omega arith in
    record {
      scope = r.scope;
      there = subst (λ v. slice_get scopes v ≡ Some r.scope) same r.there;
      alone = r.alone 0 ∙ ap (λ n. record { number = n; scope = r.scope } ∷ []) number;
    }

-- the last scope is of its turn, and no other is
pub only_last : (ss : List Scope) → ProgramIsLast ss → (i : ℕ) (s : Scope) → slice_get ss i ≡ Some s → is_its_turn the_program (turn_of s.kind) ≡ true → i + 1 ≡ length ss
only_last [] h i s there its = absurd h
only_last (x ∷ []) h zero s there its = refl
only_last (x ∷ []) h (suc i) s there its = cc
only_last (x ∷ y ∷ rest) h zero s there its =
    let same : x ≡ s = cc in
    let other = subst (λ (v : Scope). is_its_turn the_program (turn_of v.kind) ≡ false) same (is_module x.kind h.0) in
    cc
only_last (x ∷ y ∷ rest) h (suc i) s there its = omega (arith, only_last (y ∷ rest) h.1 i s there its)

pub last_its_turn : (ss : List Scope) → ProgramIsLast ss → (i : ℕ) (s : Scope) → slice_get ss i ≡ Some s → i + 1 ≡ length ss → is_its_turn the_program (turn_of s.kind) ≡ true
last_its_turn [] h i s there e = absurd h
last_its_turn (x ∷ []) h zero s there e =
    let same : x ≡ s = cc in
    subst (λ (v : Scope). is_its_turn the_program (turn_of v.kind) ≡ true) same (rw h refl)
last_its_turn (x ∷ []) h (suc i) s there e = cc
last_its_turn (x ∷ y ∷ rest) h zero s there e = absurd (omega (arith, e))
last_its_turn (x ∷ y ∷ rest) h (suc i) s there e = last_its_turn (y ∷ rest) h.1 i s there (omega (arith, e))
