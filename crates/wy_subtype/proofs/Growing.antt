-- Tables of decided pairs: how they grow, and what exploring keeps.
use Rattle.std.proofs.Common.{◌≡◌, ℕ, zero, suc, ◌+◌, ◌<◌, List, [], ◌∷◌, ◌++◌, ◌⊎◌, inl, inr, length, refl, sym, ap, ◌∙◌, subst, arith, Some, append_assoc, append-nil}
use Rattle.std.specs.Prelude.{slice_get}
use Rattle.std.proofs.Math.ListN.{length-append}
use Rattle.wy_text.specs.Members.{In}
use Rattle.wy_text.proofs.Lists.{In-left, In-cases}
use Rattle.wy_types.specs.declared.path.Step.{Step}
use Rattle.wy_types.specs.declared.types.TypeRef.{TypeRef}
use Rattle.wy_types.specs.Program.{Program}
use Rattle.wy_subtype.specs.declared.verdict.Mode.{Mode}
use Rattle.wy_subtype.specs.Verdict.{LeadsTo}
use Rattle.wy_subtype.specs.Steps.{Pair}
use Rattle.wy_subtype.specs.Decided.{About, Decided, IsReached, Grows}
use Rattle.wy_subtype.specs.Worklist.{Met, met_pair, IsSeen, BeginsWith}
use Rattle.wy_subtype.proofs.Working.{Leads-snoc}

Leads-append : (program : Program) (scope : ℕ) (mode : Mode) (path more : List Step) (p q r : Pair) → LeadsTo program scope mode p path q → LeadsTo program scope mode q more r → LeadsTo program scope mode p (path ++ more) r
Leads-append program scope mode [] more p q r l m =
    let P : TypeRef → Type 0 = λ v. LeadsTo program scope mode (v, q.1) more r in
    let Q : TypeRef → Type 0 = λ v. LeadsTo program scope mode (p.0, v) more r in
    subst Q (sym l.1) (subst P (sym l.0) m)
Leads-append program scope mode (x ∷ path) more p q r l m = (l.0, l.1, Leads-append program scope mode path more l.0 q r l.2 m)

pub reached_self : (about : About) (q : Pair) → IsReached about q q
reached_self about q = record { path = []; leads = (refl, refl) }

pub reached_on : (about : About) (p q r : Pair) → IsReached about p q → IsReached about q r → IsReached about p r
reached_on about p q r a b = record {
  path = a.path ++ b.path;
  leads = Leads-append about.program about.scope about.mode a.path b.path p q r a.leads b.leads;
}

-- the pairs of a list are reached from its first
module _ (about : About) (q : Pair) (ms : List Met) (seen : IsSeen about.program about.scope about.mode ms) (b : BeginsWith q ms) where
  reached_below : (n k : ℕ) (m : Met) → k < n → slice_get ms k ≡ Some m → IsReached about q m.pair
  reached_below zero k m lt is = absurd (omega arith)
  reached_below (suc n) zero m lt is =
      let f : Some b.0 ≡ Some m = sym b.1 ∙ is in
      let same : b.0 ≡ m = cc in
      let P : Pair → Type 0 = λ v. IsReached about q v in
      subst P (sym b.2 ∙ ap met_pair same) (reached_self about q)
  reached_below (suc n) (suc k) m lt is =
      let link = seen.linked (suc k) m (omega arith) is in
      let r = reached_below n m.parent link.parent (omega (arith, link.before)) link.at in
      record {
        path = r.path ++ link.step ∷ [];
        leads = Leads-snoc about.program about.scope about.mode r.path q (met_pair link.parent) m.pair link.step r.leads link.leads;
      }

  pub reached_met : (k : ℕ) (m : Met) → slice_get ms k ≡ Some m → IsReached about q m.pair
  reached_met k m is = reached_below (k + 1) k m (omega arith) is

pub grows_none : (q : Pair) (old new : Decided) (before after : ℕ) → new ≡ old → after ≡ before → Grows q old new before after
grows_none q old new before after same none = record {
  same = ap (λ (d : Decided). d.about) same;
  extends = record { tail = []; more = ap (λ (d : Decided). d.pairs) same ∙ sym (append-nil old.pairs); reached = λ r i. absurd i };
  cost = (let e : length new.pairs ≡ length old.pairs = ap (λ (d : Decided). length d.pairs) same in omega arith);
}

-- a pair that comes last, in one step
pub grows_one : (q : Pair) (old new : Decided) (before after : ℕ) → new.about ≡ old.about → new.pairs ≡ old.pairs ++ q ∷ [] → after ≡ before + 1 → Grows q old new before after
grows_one q old new before after same more one = record {
  same = same;
  extends = record {
    tail = q ∷ [];
    more = more;
    reached = λ r i. elim i [ inl e ↦ (let P : Pair → Type 0 = λ v. IsReached old.about q v in subst P e (reached_self old.about q)) | inr none ↦ absurd none ];
  };
  cost =
      (let e : length new.pairs ≡ length old.pairs + 1 = ap (λ (l : List Pair). length l) more ∙ length-append old.pairs (q ∷ []) in omega arith);
}

-- what grows and then grows from a pair that is reached
pub grows_on : (q r : Pair) (old mid new : Decided) (before between after : ℕ) → IsReached old.about q r → Grows q old mid before between → Grows r mid new between after → Grows q old new before after
grows_on q r old mid new before between after to a b = record {
  same = b.same ∙ a.same;
  extends = record {
    tail = a.extends.tail ++ b.extends.tail;
    more = b.extends.more ∙ ap (λ (l : List Pair). l ++ b.extends.tail) a.extends.more ∙ append_assoc old.pairs a.extends.tail b.extends.tail;
    reached = λ x i. elim (In-cases x a.extends.tail b.extends.tail i) [
      | inl j ↦ a.extends.reached x j
      | inr j ↦ (let P : About → Type 0 = λ v. IsReached v r x in reached_on old.about q r x to (subst P a.same (b.extends.reached x j)))
    ];
  };
  cost = omega (arith, a.cost, b.cost);
}

-- what was there is there
pub there_still : (q x : Pair) (old new : Decided) (before after : ℕ) → Grows q old new before after → In x old.pairs → In x new.pairs
there_still q x old new before after g i =
    let P : List Pair → Type 0 = λ l. In x l in
    subst P (sym g.extends.more) (In-left x old.pairs g.extends.tail i)

pub grown_reached : (q x : Pair) (old new : Decided) (before after : ℕ) → Grows q old new before after → In x new.pairs → In x old.pairs ⊎ IsReached old.about q x
grown_reached q x old new before after g i =
    let P : List Pair → Type 0 = λ l. In x l in
    elim (In-cases x old.pairs g.extends.tail (subst P g.extends.more i)) [ inl j ↦ inl j | inr j ↦ inr (g.extends.reached x j) ]
