-- Visits do not run out of depth: on the way from the program to a scope no scope stands twice, since no line leads back.
use Rattle.std.proofs.Common.{◌≡◌, ℕ, suc, ◌+◌, ◌<◌, ◌≤◌, List, [], ◌∷◌, ◌++◌, inl, inr, length, sym, subst, arith, Some}
use Rattle.std.specs.Prelude.{slice_get}
use Rattle.wy_text.specs.Members.{In, Apart}
use Rattle.wy_text.proofs.Lists.{In-left, In-right}
use Rattle.wy_types.specs.declared.resolved.OwnName.{OwnName}
use Rattle.wy_types.specs.Program.{Program, Scope}
use Rattle.wy_types.specs.Core.{origin_modules, names_modules, LeadsTo, LeadsBy, NoCycle}
use Rattle.wy_sound.proofs.LinkingLists.{read_within, few_numbers}

-- the scopes on the way to one, for which so much depth is left
pub record Way (p : Program) (path : List ℕ) (m k : ℕ) : Type 0 where
  pub apart : Apart path
  pub there : (j : ℕ) → In j path → j < length p.scopes
  pub leads : (j : ℕ) → In j path → (between : List ℕ) × LeadsBy p j between m
  pub room : length p.scopes ≤ length path + k

leads_on : (p : Program) (j m n : ℕ) (between : List ℕ) → LeadsBy p j between m → LeadsTo p m n → LeadsBy p j (between ++ m ∷ []) n
leads_on p j m n [] h g = (h, g)
leads_on p j m n (i ∷ between) h g = (h.0, leads_on p i m n between h.1 g)

module _ (p : Program) (no_cycle : NoCycle p) where
  not_twice : (path : List ℕ) (m k : ℕ) → Way p path m k → In m path → ⊥
  not_twice path m k w i = let r = w.leads m i in no_cycle m r.0 r.1

  pub way_on : (path : List ℕ) (m n k : ℕ) (s : Scope) → slice_get p.scopes m ≡ Some s → LeadsTo p m n → Way p path m (suc k) → Way p (m ∷ path) n k
  way_on path m n k s e l w = record {
    apart = (not_twice path m (suc k) w, w.apart);
    there = λ j i. elim i [ inl f ↦ subst (λ v. v < length p.scopes) f (read_within p.scopes m s e) | inr h ↦ w.there j h ];
    leads = λ j i. elim i [
      | inl f ↦ ([], subst (λ v. LeadsTo p v n) f l)
      | inr h ↦ (let r = w.leads j h in (r.0 ++ m ∷ [], leads_on p j m n r.0 r.1 l))
    ];
    room = omega (arith, w.room);
  }

  pub way_ends : (path : List ℕ) (m : ℕ) (s : Scope) → slice_get p.scopes m ≡ Some s → Way p path m 0 → ⊥
  way_ends path m s e w =
      let few = few_numbers (length p.scopes) (m ∷ path) (not_twice path m 0 w, w.apart)
      (λ j i. elim i [ inl f ↦ subst (λ v. v < length p.scopes) f (read_within p.scopes m s e) | inr h ↦ w.there j h ]) in
      omega (arith, few, w.room)

pub way_begins : (p : Program) (m : ℕ) → Way p [] m (length p.scopes)
way_begins p m = record { apart = tt; there = λ j i. absurd i; leads = λ j i. absurd i; room = omega arith }

-- a line or use leads to its module
pub names_lead : (ns : List OwnName) (n : OwnName) (m : ℕ) → In n ns → In m (origin_modules n.origin) → In m (names_modules ns)
names_lead [] n m i h = absurd i
names_lead (x ∷ ns) n m (inl e) h =
    In-left m (origin_modules x.origin) (names_modules ns) (subst (λ (v : OwnName). In m (origin_modules v.origin)) (sym e) h)
names_lead (x ∷ ns) n m (inr i) h = In-right m (origin_modules x.origin) (names_modules ns) (names_lead ns n m i h)
