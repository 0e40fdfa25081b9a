-- Where no word is refused for a cycle, no module leads back to itself.
use Rattle.std.proofs.Common.{◌≡◌, ℕ, zero, suc, ◌<◌, List, [], ◌∷◌, ◌++◌, map, length, Some, ◌⊎◌, inl, inr, refl, ap, subst, arith}
use Rattle.std.specs.Prelude.{slice_get}
use Rattle.wy_text.specs.Members.{In}
use Rattle.wy_text.proofs.Lists.{In-slice_get}
use Rattle.wy_types.specs.Program.{Program, Scope}
use Rattle.wy_types.specs.Core as core
use Rattle.wy_types.specs.Core.{names_modules, NoCycle}
use Rattle.wy_symbols.specs.declared.refusal.Cause.TheVariants.{Cycle}
use Rattle.wy_symbols.specs.declared.refusal.Refusal.{Refusal}
use Rattle.wy_symbols.specs.Least.{refusal_at}
use Rattle.wy_symbols.specs.Declarations.{ModuleTree}
use Rattle.wy_heads.specs.Cycles.{named_modules, LeadsTo, LeadsBy, IsCycle}
use Rattle.wy_well_formed.proofs.NamedModules.{IsNamed, named_below}

-- a scope is that of a module, or the last
record IsMapped {X Y : Type 0} (f : X → Y) (xs : List X) (k : ℕ) (y : Y) : Type 0 where
  from : X
  there : slice_get xs k ≡ Some from
  is : y ≡ f from

record IsLast {X Y : Type 0} (xs : List X) (last : Y) (k : ℕ) (y : Y) : Type 0 where
  number : k ≡ length xs
  is : y ≡ last

mapped_or_last : {X Y : Type 0} (f : X → Y) (xs : List X) (last : Y) (k : ℕ) (y : Y) → slice_get (map f xs ++ last ∷ []) k ≡ Some y → IsMapped f xs k y ⊎ IsLast xs last k y
mapped_or_last f [] last zero y e = inr (record { number = refl; is = cc })
mapped_or_last f [] last (suc k) y e = cc
mapped_or_last f (x ∷ xs) last zero y e = inl (record { from = x; there = refl; is = cc })
mapped_or_last f (x ∷ xs) last (suc k) y e =
    elim (mapped_or_last f xs last k y e) [
      | inl m ↦ inl (record { from = m.from; there = m.there; is = m.is })
      | inr l ↦ inr (record { number = ap suc l.number; is = l.is })
    ]

-- scopes of modules and of a program, whose names lead to the modules that are written
pub record LeadAsWritten (p : Program) (modules : List ModuleTree) : Type 0 where
  pub scope : ModuleTree → Scope
  pub last : Scope
  pub scopes : p.scopes ≡ map scope modules ++ last ∷ []
  pub modules_lead : (m : ModuleTree) → In m modules → (j : ℕ) → In j (names_modules ((scope m).names)) → IsNamed modules (named_modules m) j
  pub last_leads : (j : ℕ) → In j (names_modules (last.names)) → j < length modules

module _ (p : Program) (modules : List ModuleTree) (h : LeadAsWritten p modules) where
  record Leads (k j : ℕ) : Type 0 where
    below : j < length modules
    word : k < length modules → LeadsTo modules k j

  leads : (k j : ℕ) → core.LeadsTo p k j → Leads k j
  leads k j (s, at, i) =
      let P : List Scope → Type 0 = λ l. slice_get l k ≡ Some s in
      elim (mapped_or_last h.scope modules h.last k s (subst P h.scopes at)) [
        | inl m ↦ (
            let Q : Scope → Type 0 = λ v. In j (names_modules v.names) in
            let n = h.modules_lead m.from (In-slice_get modules k m.from m.there) j (subst Q m.is i) in
            record {
              below = named_below modules (named_modules m.from) j n;
              word = λ lt. (n.word, record { from = m.from; there = m.there; written = n.written; number = n.number });
            })
        | inr l ↦ (
            let Q : Scope → Type 0 = λ v. In j (names_modules v.names) in
            record { below = h.last_leads j (subst Q l.is i); word = λ lt. absurd (let e = l.number in omega (arith, e, lt)) })
      ]

  -- a way ends at a module
  ends_below : (k : ℕ) (path : List ℕ) (m : ℕ) → core.LeadsBy p k path m → m < length modules
  ends_below k [] m l = (leads k m l).below
  ends_below k (j ∷ path) m l = ends_below j path m l.1

  -- a way from a module on is one by words
  by_words : (k : ℕ) (path : List ℕ) (m : ℕ) → k < length modules → core.LeadsBy p k path m → LeadsBy modules k (path ++ m ∷ []) m
  by_words k [] m lt l = ((leads k m l).word lt, refl)
  by_words k (j ∷ path) m lt l = (let s = leads k j l.0 in (s.word lt, by_words j path m s.below l.1))

  pub no_cycle : ((r : Refusal) → IsCycle modules r → ⊥) → NoCycle p
  no_cycle sound k [] l =
      let w = (leads k k l).word (ends_below k [] k l) in
      sound (refusal_at (w.0).place Cycle) (record { back = k; word = w.0; next = k; names = w.1; path = []; leads = refl; at = refl })
  no_cycle sound k (j ∷ path) l =
      let lt = ends_below k (j ∷ path) k l in
      let s = leads k j l.0 in
      let w = s.word lt in
      sound (refusal_at (w.0).place Cycle) (record { back = k; word = w.0; next = j; names = w.1; path = path ++ k ∷ []; leads = by_words j path k s.below l.1; at = refl })
