-- What judging parts one after the other does to the types that are known, and that a later part can be judged after an earlier one.
use Rattle.std.proofs.Common.{ℕ, List, [], ◌++◌, inl, inr}
use Rattle.wy_text.specs.Members.{In}
use Rattle.wy_text.proofs.Lists.{In-left, In-right, In-cases}
use Rattle.wy_types.specs.declared.code.Variable.{Variable}
use Rattle.wy_types.specs.Program.{Program, Scope}
use Rattle.wy_rules.specs.Readings.{Reading}
use Rattle.wy_judge.specs.Tables.{Table, IsKnown, Agrees, AllInRange, Moves, IsReady}
use Rattle.wy_judge.proofs.Apart.{Apart-left, Apart-right, Apart-across}

module _ (p : Program) (k : ℕ) (s : Scope) where
  ------------------------------------------------------------
  -- What is known

  -- what was known stays known
  pub stays_known : (old new : Table) (xs : List ℕ) (P : Type 0) → Moves p k s old new xs P → (n : ℕ) → IsKnown old n → IsKnown new n
  stays_known old new xs P m n i = (i.0, m.keeps n i.0 i.1)

  -- types that go on from what is known afterwards go on from what was known before
  pub agrees_before : (y : Reading) (locals : List y.Kind) (old new : Table) (xs : List ℕ) (P : Type 0) → Moves p k s old new xs P → Agrees y locals new → Agrees y locals old
  agrees_before y locals old new xs P m a n t e = a n t (m.keeps n t e)

  ------------------------------------------------------------
  -- Moves

  -- a part with no `val`
  pub moves_none : (table : Table) (P : Type 0) → AllInRange p k s table → Moves p k s table table [] P
  moves_none table P r = record {
    keeps = λ n t e. e;
    only = λ n i. inl i;
    range = r;
    settled = λ h n i. absurd i;
    ends = λ known. known;
  }

  -- a part of which more is asked before it passes
  pub moves_under : (old new : Table) (xs : List ℕ) (P R : Type 0) → Moves p k s old new xs P → (R → P) → Moves p k s old new xs R
  moves_under old new xs P R m f = record {
    keeps = m.keeps;
    only = m.only;
    range = m.range;
    settled = λ h n i. m.settled (f h) n i;
    ends = m.ends;
  }

  -- two parts, one after the other
  pub moves_both : (a b c : Table) (xs ys : List ℕ) (P Q R : Type 0) → Moves p k s a b xs P → Moves p k s b c ys Q → (R → P) → (R → Q) → Moves p k s a c (xs ++ ys) R
  moves_both a b c xs ys P Q R m n f g = record {
    keeps = λ i t e. n.keeps i t (m.keeps i t e);
    only = λ i known. elim (n.only i known) [
      | inl before ↦ elim (m.only i before) [ inl first ↦ inl first | inr first ↦ inr (In-left i xs ys first) ]
      | inr second ↦ inr (In-right i xs ys second)
    ];
    range = n.range;
    settled = λ h i there. elim (In-cases i xs ys there) [
      | inl first ↦ stays_known b c ys Q n i (m.settled (f h) i first)
      | inr second ↦ n.settled (g h) i second
    ];
    ends = λ known. n.ends (m.ends known);
  }

  -- the first part alone, where the whole does not pass
  pub moves_first : (old new : Table) (xs ys : List ℕ) (P R : Type 0) → Moves p k s old new xs P → (R → ⊥) → Moves p k s old new (xs ++ ys) R
  moves_first old new xs ys P R m f = record {
    keeps = m.keeps;
    only = λ n i. elim (m.only n i) [ inl before ↦ inl before | inr first ↦ inr (In-left n xs ys first) ];
    range = m.range;
    settled = λ h n i. absurd (f h);
    ends = m.ends;
  }

  ------------------------------------------------------------
  -- Readiness

  -- what is ready stays so while other `val`s become known
  pub ready_after : (old new : Table) (seen : List Variable) (xs ys : List ℕ) (P : Type 0) → IsReady p k s old seen ys → Moves p k s old new xs P → ((n : ℕ) → In n xs → In n ys → ⊥) →
      IsReady p k s new seen ys
  ready_after old new seen xs ys P r m apart = record {
    range = m.range;
    locals = λ n i. stays_known old new xs P m n (r.locals n i);
    parameters = r.parameters;
    fresh = λ n i known. elim (m.only n known) [ inl before ↦ r.fresh n i before | inr first ↦ apart n first i ];
    apart = r.apart;
  }

  -- the first of two parts
  pub ready_left : (table : Table) (seen : List Variable) (xs ys : List ℕ) → IsReady p k s table seen (xs ++ ys) → IsReady p k s table seen xs
  ready_left table seen xs ys r = record {
    range = r.range;
    locals = r.locals;
    parameters = r.parameters;
    fresh = λ n i. r.fresh n (In-left n xs ys i);
    apart = Apart-left xs ys r.apart;
  }

  -- the second, where the first is not judged
  pub ready_other : (table : Table) (seen : List Variable) (xs ys : List ℕ) → IsReady p k s table seen (xs ++ ys) → IsReady p k s table seen ys
  ready_other table seen xs ys r = record {
    range = r.range;
    locals = r.locals;
    parameters = r.parameters;
    fresh = λ n i. r.fresh n (In-right n xs ys i);
    apart = Apart-right xs ys r.apart;
  }

  -- .. and after the first
  pub ready_right : (old new : Table) (seen : List Variable) (xs ys : List ℕ) (P : Type 0) → IsReady p k s old seen (xs ++ ys) → Moves p k s old new xs P → IsReady p k s new seen ys
  ready_right old new seen xs ys P r m = ready_after old new seen xs ys P (ready_other old seen xs ys r) m (λ n i j. Apart-across n xs ys r.apart i j)
