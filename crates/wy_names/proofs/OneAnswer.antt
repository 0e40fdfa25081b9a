-- Names have one answer, of which want of memory alone may take the place.
use Rattle.std.proofs.Common.{◌≡◌, ◌≢◌, ℕ, List, [], ◌∷◌, false, Some, None, refl, sym, ◌∙◌, ap, arith}
use Rattle.std.specs.Prelude.{◌==◌, if◌then◌else◌}
use Rattle.std.proofs.lemmas.Grind.{common_steps}
use Rattle.wy_text.specs.declared.fault.Place.{Place}
use Rattle.wy_text.specs.declared.limit.LimitName.{LimitName}
use Rattle.wy_syntax.specs.Trees.{ItemTree}
use Rattle.wy_types.specs.Program.{Program}
use Rattle.wy_heads.specs.Counts.{limit_of}
use Rattle.wy_symbols.specs.Least.{IsLeast, cause_number, refusal_at}
use Rattle.wy_names.specs.Names.{HasNoProgram, IsFirst, Refused, Refuses, Resolves}
use Rattle.wy_names.specs.Scopes.{resolved}
use Rattle.wy_symbols.specs.declared.refusal.Cause.{Cause}
use Rattle.wy_symbols.specs.declared.refusal.Cause.TheVariants as cause
use Rattle.wy_names.specs.declared.refusal.NameRefusal.{NameRefusal}
use Rattle.wy_names.specs.declared.refusal.NameRefusal.TheVariants as refusal
use Rattle.wy_symbols.specs.declared.refusal.Refusal.{Refusal}
use Rattle.wy_symbols.proofs.Leasts.{precedes}

-- ---- of two refusals one comes first

-- four numbers are the same
record AreSame (f l c n g m d o : ℕ) : Type 0 where
  files : f ≡ g
  lines : l ≡ m
  columns : c ≡ d
  numbers : n ≡ o

neither_first : (f l c n g m d o : ℕ) → precedes f l c n g m d o ≡ false → precedes g m d o f l c n ≡ false → AreSame f l c n g m d o
unfolding precedes
neither_first f l c n g m d o p q = record {
  files = grind (arith, common_steps, p, q);
  lines = grind (arith, common_steps, p, q);
  columns = grind (arith, common_steps, p, q);
  numbers = grind (arith, common_steps, p, q);
}

-- the cause of a number
cause_at : ℕ → Cause
cause_at n =
    if n == 1 then cause.Unknown else (if n == 2 then cause.Twice else (if n == 3 then cause.Cycle
    else (if n == 5 then cause.TwoPrograms else (if n == 6 then cause.MemberUndefined else cause.MemberUnknown))))

cause_at_number : (c : Cause) → cause_at (cause_number c) ≡ c
unfolding cause_at
cause_at_number cause.Unknown = refl
cause_at_number cause.Twice = refl
cause_at_number cause.Cycle = refl
cause_at_number cause.TwoPrograms = refl
cause_at_number cause.MemberUndefined = refl
cause_at_number cause.MemberUnknown = refl

same_cause : (c d : Cause) → cause_number c ≡ cause_number d → c ≡ d
same_cause c d same = sym (cause_at_number c) ∙ ap cause_at same ∙ cause_at_number d

-- a refusal by its numbers and its cause
abbrev made : ℕ → ℕ → ℕ → Cause → Refusal
made file line column c = refusal_at (record { file = file; line = line; column = column }) c

same_refusal : (p q : Place) (c d : Cause) → AreSame p.file p.line p.column (cause_number c) q.file q.line q.column (cause_number d) → refusal_at p c ≡ refusal_at q d
same_refusal p q c d same =
    ap (λ (x : ℕ). made x p.line p.column c) same.files ∙ ap (λ (x : ℕ). made q.file x p.column c) same.lines
    ∙ ap (λ (x : ℕ). made q.file q.line x c) same.columns ∙ ap (λ (x : Cause). made q.file q.line q.column x) (same_cause c d same.numbers)

one_least : (Refuses : Refusal → Type 0) (p q : Place) (c d : Cause) → IsLeast Refuses (refusal_at p c) → IsLeast Refuses (refusal_at q d) → refusal_at p c ≡ refusal_at q d
unfolding precedes
one_least Refuses p q c d a b =
    same_refusal p q c d (neither_first p.file p.line p.column (cause_number c) q.file q.line q.column (cause_number d)
    (b.least (refusal_at p c) a.among) (a.least (refusal_at q d) b.among))

-- ---- why names are refused

-- a refusal at a place, no program block, or a limit
data Why : Type 0 where
  at : Refusal → Why
  absent : Why
  over : LimitName → Why

IsWhy : List ItemTree → Why → Type 0
IsWhy items (at r) = IsFirst items r.place r.cause
IsWhy items absent = HasNoProgram items
IsWhy items (over name) = limit_of items ≡ Some name

named : Why → NameRefusal
named (at r) = elim r.cause [
  | cause.Unknown ↦ refusal.Unknown r.place
  | cause.Twice ↦ refusal.Twice r.place
  | cause.Cycle ↦ refusal.Cycle r.place
  | cause.TwoPrograms ↦ refusal.TwoPrograms r.place
  | cause.MemberUndefined ↦ refusal.MemberUndefined r.place
  | cause.MemberUnknown ↦ refusal.MemberUnknown r.place
]
named absent = refusal.NoProgram
named (over name) = refusal.Limit name

record Reason (items : List ItemTree) (r : NameRefusal) : Type 0 where
  why : Why
  is : IsWhy items why
  names : r ≡ named why

reason : (items : List ItemTree) (r : NameRefusal) → Refused items r → r ≢ refusal.Memory → Reason items r
unfolding IsWhy named
reason items (refusal.Unknown p) is full = record { why = at (refusal_at p cause.Unknown); is = is; names = refl }
reason items (refusal.Twice p) is full = record { why = at (refusal_at p cause.Twice); is = is; names = refl }
reason items (refusal.Cycle p) is full = record { why = at (refusal_at p cause.Cycle); is = is; names = refl }
reason items refusal.NoProgram is full = record { why = absent; is = is; names = refl }
reason items (refusal.TwoPrograms p) is full = record { why = at (refusal_at p cause.TwoPrograms); is = is; names = refl }
reason items (refusal.MemberUndefined p) is full = record { why = at (refusal_at p cause.MemberUndefined); is = is; names = refl }
reason items (refusal.MemberUnknown p) is full = record { why = at (refusal_at p cause.MemberUnknown); is = is; names = refl }
reason items (refusal.Limit name) is full = record { why = over name; is = is; names = refl }
reason items refusal.Memory is full = absurd (full refl)

one_why : (items : List ItemTree) (v w : Why) → IsWhy items v → IsWhy items w → v ≡ w
unfolding IsWhy
one_why items (at r) (at s) a b = ap at (one_least (Refuses items) r.place s.place r.cause s.cause a.first b.first)
one_why items (at r) absent a b = absurd (b.sound (refusal_at r.place r.cause) a.first.among)
one_why items (at r) (over name) a b = let e : None ≡ Some name = sym a.within ∙ b in absurd (cc)
one_why items absent (at s) a b = absurd (a.sound (refusal_at s.place s.cause) b.first.among)
one_why items absent absent a b = refl
one_why items absent (over name) a b = let e : None ≡ Some name = sym a.within ∙ b in absurd (cc)
one_why items (over name) (at s) a b = let e : None ≡ Some name = sym b.within ∙ a in absurd (cc)
one_why items (over name) absent a b = let e : None ≡ Some name = sym b.within ∙ a in absurd (cc)
one_why items (over name) (over other) a b = let e : Some name ≡ Some other = sym a ∙ b in cc

pub one_refusal : (items : List ItemTree) (one other : NameRefusal) → Refused items one → Refused items other → one ≢ refusal.Memory → other ≢ refusal.Memory → one ≡ other
one_refusal items one other a b full full' =
    let v = reason items one a full in
    let w = reason items other b full' in
    v.names ∙ ap named (one_why items v.why w.why v.is w.is) ∙ sym w.names

-- ---- names that resolve

no_why : (items : List ItemTree) (program : Program) (why : Why) → Resolves items program → IsWhy items why → ⊥
unfolding IsWhy
no_why items program (at r) a b = a.sound (refusal_at r.place r.cause) b.first.among
no_why items program absent a b = let e : a.program ∷ [] ≡ [] = sym a.one ∙ b.none in cc
no_why items program (over name) a b = let e : None ≡ Some name = sym a.within ∙ b in cc

-- whether a refusal is want of memory
memory_or : (items : List ItemTree) (program : Program) (why : NameRefusal) → Resolves items program → Refused items why → (why ≢ refusal.Memory → ⊥) → why ≡ refusal.Memory
memory_or items program (refusal.Unknown p) a b none = absurd (none (λ e. cc))
memory_or items program (refusal.Twice p) a b none = absurd (none (λ e. cc))
memory_or items program (refusal.Cycle p) a b none = absurd (none (λ e. cc))
memory_or items program refusal.NoProgram a b none = absurd (none (λ e. cc))
memory_or items program (refusal.TwoPrograms p) a b none = absurd (none (λ e. cc))
memory_or items program (refusal.MemberUndefined p) a b none = absurd (none (λ e. cc))
memory_or items program (refusal.MemberUnknown p) a b none = absurd (none (λ e. cc))
memory_or items program (refusal.Limit name) a b none = absurd (none (λ e. cc))
memory_or items program refusal.Memory a b none = refl

pub resolved_or_refused : (items : List ItemTree) (program : Program) (why : NameRefusal) → Resolves items program → Refused items why → why ≡ refusal.Memory
resolved_or_refused items program why a b = memory_or items program why a b (λ full. let w = reason items why b full in no_why items program w.why a w.is)

pub one_program : (items : List ItemTree) (one other : Program) → Resolves items one → Resolves items other → one ≡ other
one_program items one other a b =
    let heads : a.program ∷ [] ≡ b.program ∷ [] = sym a.one ∙ b.one in
    let head : a.program ≡ b.program = cc in
    a.bound ∙ ap (resolved items) head ∙ sym b.bound
