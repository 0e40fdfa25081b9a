-- The lists of the types of `val`s, as the scopes of a turn are judged one after the other: what is put at a number, and what stays.
use Rattle.std.proofs.Common.{◌≡◌, ℕ, zero, suc, ◌+◌, ◌<◌, ◌≤◌, List, [], ◌∷◌, length, set, refl, sym, ap, subst, ◌∙◌, Some, true, false, arith, below_more}
use Rattle.std.specs.Prelude.{slice_get}
use Rattle.std.proofs.lemmas.List.{length-set}
use Rattle.std.proofs.lemmas.Option.{slice_get_within}
use Rattle.wy_types.specs.declared.types.TypeRef.{TypeRef}
use Rattle.wy_types.specs.Program.{Program, Scope}
use Rattle.wy_types.specs.declared.resolved.ScopeKind.{ScopeKind}
use Rattle.wy_types.specs.declared.resolved.ScopeKind.TheVariants.{Pure, Resource, Plain, Program as Main}
use Rattle.wy_types.specs.Core.{IsCore}
use Rattle.wy_rules.specs.Refusals.{Turn, plain_modules, other_modules, the_program, turn_of, is_its_turn}
use Rattle.wy_judge.specs.declared.checking.Checked.{Checked}
use Rattle.wy_judge.specs.declared.scopes.Judged.TheVariants.{Passes}
use Rattle.wy_judge.specs.Checking.{IsChecked, PassesIn, AreLocalsOf, PutsLists}
use Rattle.wy_judge.specs.Walking.{PassesOver, IsJudgedAt}
use Rattle.wy_judge.proofs.Programs.{only_last, last_its_turn}

-- what stands in a list in which an item was set
set_here : {X : Type 0} → (xs : List X) (k : ℕ) (x : X) → k < length xs → slice_get (set xs k x) k ≡ Some x
set_here [] k x lt = absurd (omega (arith, lt))
set_here (y ∷ ys) zero x lt = refl
set_here (y ∷ ys) (suc k) x lt = set_here ys k x (omega arith)

set_elsewhere : {X : Type 0} → (xs : List X) (k i : ℕ) (x : X) → (i ≡ k → ⊥) → slice_get (set xs k x) i ≡ slice_get xs i
set_elsewhere [] k i x ne = refl
set_elsewhere (y ∷ ys) zero zero x ne = absurd (ne refl)
set_elsewhere (y ∷ ys) zero (suc i) x ne = refl
set_elsewhere (y ∷ ys) (suc k) zero x ne = refl
set_elsewhere (y ∷ ys) (suc k) (suc i) x ne = set_elsewhere ys k i x (λ e. ne (ap suc e))

module _ (p : Program) (turn : Turn) where
  -- the scope of a number passes over its list, where it is of the turn
  abbrev pub PassesInTurn : List (List TypeRef) → ℕ → Type 0
  PassesInTurn lists k = (s : Scope) → slice_get p.scopes k ≡ Some s → is_its_turn turn (turn_of s.kind) ≡ true → PassesIn p k s lists

  -- .. each before a number; the lists of other turns are as they were
  pub record ListsBefore (old new : List (List TypeRef)) (k : ℕ) : Type 0 where
    pub size : length new ≡ length old
    pub put : (i : ℕ) → i < k → PassesInTurn new i
    pub others : (i : ℕ) (s : Scope) → slice_get p.scopes i ≡ Some s → is_its_turn turn (turn_of s.kind) ≡ false → slice_get new i ≡ slice_get old i

  pub no_list_yet : (lists : List (List TypeRef)) → ListsBefore lists lists 0
  no_list_yet lists = record { size = refl; put = λ i lt. absurd (omega (arith, lt)); others = λ i s there other. refl }

  module _ (old new : List (List TypeRef)) (k : ℕ) (s : Scope) (there : slice_get p.scopes k ≡ Some s) (before : ListsBefore old new k) where
    -- a list is put at the number of a scope of the turn
    pub one_more_list : is_its_turn turn (turn_of s.kind) ≡ true → (c : Checked) → IsChecked p k c → k < length new → ListsBefore old (set new k c.locals) (k + 1)
    one_more_list its c h lt =
        let here : slice_get (set new k c.locals) k ≡ Some c.locals = set_here new k c.locals lt in
        record {
          size = length-set new k c.locals ∙ before.size;
          put = below_more (λ i. PassesInTurn (set new k c.locals) i) k
              (λ i below t at is. (
              let ne : i ≡ k → ⊥ = λ e. omega (arith, e, below) in
              let r = before.put i below t at is in
              record { types = r.types; there = set_elsewhere new k i c.locals ne ∙ r.there; passes = r.passes }
              ))
              (λ t at is. (
              let same : h.scope ≡ t = (let e = sym h.there ∙ at in cc) in
              subst (λ v. PassesIn p k v (set new k c.locals)) same (record { types = c.locals; there = here; passes = h.passes })
              ));
          others = λ i t at other. (
              let ne : i ≡ k → ⊥ = λ e. (
              let at_k : slice_get p.scopes k ≡ Some t = subst (λ j. slice_get p.scopes j ≡ Some t) e at in
              let same : s ≡ t = (let both = sym there ∙ at_k in cc) in
              let taken = subst (λ (v : Scope). is_its_turn turn (turn_of v.kind) ≡ true) same its in
              cc
              ) in
              set_elsewhere new k i c.locals ne ∙ before.others i t at other
              );
        }

    -- .. and none at that of another scope
    pub no_more_list : is_its_turn turn (turn_of s.kind) ≡ false → ListsBefore old new (k + 1)
    no_more_list other = record {
      size = before.size;
      put = below_more (λ i. PassesInTurn new i) k before.put
          (λ t at is. absurd (
          let same : s ≡ t = (let both = sym there ∙ at in cc) in
          let passed = subst (λ (v : Scope). is_its_turn turn (turn_of v.kind) ≡ false) same other in
          cc
          ));
      others = before.others;
    }

  -- after the last scope
  pub all_lists_put : (old new : List (List TypeRef)) (k : ℕ) → length p.scopes ≤ k → ListsBefore old new k → PutsLists p turn old new
  all_lists_put old new k le h = record {
    size = h.size;
    put = λ i s there its. (let lt = slice_get_within p.scopes i s there in h.put i (omega (arith, lt, le)) s there its);
    others = h.others;
  }

------------------------------------------------------------
-- The program's own list, and all lists

-- the program's list is put at the last number
pub last_list_put : (p : Program) → IsCore p → (k : ℕ) → k + 1 ≡ length p.scopes → (lists : List (List TypeRef)) (types : List TypeRef) → k < length lists →
    IsJudgedAt p k (Passes types) → PutsLists p the_program lists (set lists k types)
last_list_put p core k number lists types lt h =
    record {
      size = length-set lists k types;
      put = λ i s there its. (
          let same : k ≡ i = omega (arith, number, only_last p.scopes core.program i s there its) in
          let there_k : slice_get p.scopes k ≡ Some s = subst (λ j. slice_get p.scopes j ≡ Some s) (sym same) there in
          let one : h.0 ≡ s = (let e = sym h.1 ∙ there_k in cc) in
          subst (λ j. PassesIn p j s (set lists k types)) same
          (record { types = types; there = set_here lists k types lt; passes = subst (λ v. PassesOver p k v types) one h.2 })
          );
      others = λ i s there other. (
          let ne : i ≡ k → ⊥ = λ e. (
          let its = last_its_turn p.scopes core.program i s there (omega (arith, number, e)) in
          cc
          ) in
          set_elsewhere lists k i types ne
          );
    }

-- after all turns each scope passes over its list
module _ (p : Program) where
  stays : (turn : Turn) (old new : List (List TypeRef)) → PutsLists p turn old new → (k : ℕ) (s : Scope) → slice_get p.scopes k ≡ Some s → is_its_turn turn (turn_of s.kind) ≡ false →
      PassesIn p k s old → PassesIn p k s new
  stays turn old new puts k s there other h = record { types = h.types; there = puts.others k s there other ∙ h.there; passes = h.passes }

  module _ (first second third last : List (List TypeRef)) (size : length first ≡ length p.scopes)
      (plain : PutsLists p plain_modules first second) (others : PutsLists p other_modules second third) (main : PutsLists p the_program third last) where
    by_kind : (kind : ScopeKind) (k : ℕ) (s : Scope) → s.kind ≡ kind → slice_get p.scopes k ≡ Some s → PassesIn p k s last
    by_kind Plain k s e there = (
        let h = plain.put k s there (rw e refl) in
        stays the_program third last main k s there (rw e refl) (stays other_modules second third others k s there (rw e refl) h)
        )
    by_kind Pure k s e there = stays the_program third last main k s there (rw e refl) (others.put k s there (rw e refl))
    by_kind Resource k s e there = stays the_program third last main k s there (rw e refl) (others.put k s there (rw e refl))
    by_kind Main k s e there = main.put k s there (rw e refl)

    pub all_are_locals : AreLocalsOf p last
    all_are_locals = record { size = main.size ∙ (others.size ∙ (plain.size ∙ size)); each = λ k s there. by_kind s.kind k s refl there }
