-- Events within an effect: fine wherever every call that is open may do all of it.
use Rattle.std.proofs.Common.{◌≡◌, ℕ, zero, suc, List, [], ◌∷◌, ◌++◌, All, Contains, refl, sym, ap, ◌∙◌, subst, arith}
use Rattle.std.specs.Prelude.{slice_index_or}
use Rattle.wy_text.specs.declared.fault.AtomName.{AtomName}
use Rattle.wy_text.specs.Members.{In, Within}
use Rattle.wy_effects.specs.AtomTable.{atom_name}
use Rattle.wy_types.specs.Program.{Program}
use Rattle.wy_authority.specs.Authority.{authority_of}
use Rattle.wy_device.specs.declared.deed.Deed.{Deed as DeedRecord}
use Rattle.wy_device.specs.declared.deed.Event.{Event}
use Rattle.wy_device.specs.declared.deed.Event.TheVariants.{Enter, Deed, Leave}
use Rattle.wy_meaning.specs.Bounds.{Call, atom_of, BoundedFrom}
use Rattle.wy_meaning.specs.OpenCalls.{open_after}
use Rattle.wy_sound.specs.Programs.{allowed}
use Rattle.wy_sound.proofs.Linked.{GrantsFit}

abbrev pub call_of : List ℕ → List ℕ → Call
call_of x b = record { instance = x; body = b }

all_more : {X : Type 0} (P : X → Type 0) (x : X) (xs : List X) → P x → All P xs → All P (x ∷ xs)
all_more P x xs h hs zero d lt = h
all_more P x xs h hs (suc k) d lt = hs k d (omega (arith, lt))

module _ (p : Program) where
  -- the name of a grant atom
  abbrev pub atom_named : ℕ → AtomName
  atom_named a = slice_index_or (authority_of p).atoms a (atom_name [] [])

  -- a call may do all of an effect
  pub record May (call : Call) (f : List ℕ) : Type 0 where
    pub by : (a : ℕ) → In a f → Contains (allowed p call) (atom_named a)

  -- every one of these may
  abbrev pub AllMay : List Call → List ℕ → Type 0
  AllMay [] f = Unit {0}
  AllMay (c ∷ cs) f = May c f × AllMay cs f

  -- events that are fine wherever the open calls may do all of f, and that close what they open
  pub record Kept (f : List ℕ) (es : List Event) : Type 0 where
    pub bounded : GrantsFit p → (cs : List Call) → AllMay cs f → BoundedFrom (allowed p) cs es
    pub closes : (cs : List Call) → open_after cs es ≡ cs

  -- .. that may leave calls open
  pub record Held (f : List ℕ) (es : List Event) : Type 0 where
    pub bounded : GrantsFit p → (cs : List Call) → AllMay cs f → BoundedFrom (allowed p) cs es

  pub after_append : (cs : List Call) (es fs : List Event) → open_after cs (es ++ fs) ≡ open_after (open_after cs es) fs
  after_append cs [] fs = refl
  after_append cs (Enter x b ∷ es) fs = after_append (call_of x b ∷ cs) es fs
  after_append cs (Deed d ∷ es) fs = after_append cs es fs
  after_append [] (Leave ∷ es) fs = after_append [] es fs
  after_append (c ∷ cs) (Leave ∷ es) fs = after_append cs es fs

  pub bounded_append : (cs : List Call) (es fs : List Event) → BoundedFrom (allowed p) cs es → BoundedFrom (allowed p) (open_after cs es) fs →
      BoundedFrom (allowed p) cs (es ++ fs)
  bounded_append cs [] fs h g = g
  bounded_append cs (Enter x b ∷ es) fs h g = bounded_append (call_of x b ∷ cs) es fs h g
  bounded_append cs (Deed d ∷ es) fs h g = (h.0, bounded_append cs es fs h.1 g)
  bounded_append [] (Leave ∷ es) fs h g = bounded_append [] es fs h g
  bounded_append (c ∷ cs) (Leave ∷ es) fs h g = bounded_append cs es fs h g

  pub kept_none : (f : List ℕ) → Kept f []
  kept_none f = record { bounded = λ g cs m. tt; closes = λ cs. refl }

  pub held_none : (f : List ℕ) → Held f []
  held_none f = record { bounded = λ g cs m. tt }

  pub kept_held : (f : List ℕ) (es : List Event) → Kept f es → Held f es
  kept_held f es h = record { bounded = h.bounded }

  pub held_more : (f : List ℕ) (es fs : List Event) → Kept f es → Held f fs → Held f (es ++ fs)
  held_more f es fs h k = record {
    bounded = λ g cs m. bounded_append cs es fs (h.bounded g cs m)
        (subst (λ (v : List Call). BoundedFrom (allowed p) v fs) (sym (h.closes cs)) (k.bounded g cs m));
  }

  pub kept_more : (f : List ℕ) (es fs : List Event) → Kept f es → Kept f fs → Kept f (es ++ fs)
  kept_more f es fs h k = record {
    bounded = (held_more f es fs h (kept_held f fs k)).bounded;
    closes = λ cs. after_append cs es fs ∙ ap (λ (v : List Call). open_after v fs) (h.closes cs) ∙ k.closes cs;
  }

  may_less : (c : Call) (f g : List ℕ) → Within g f → May c f → May c g
  may_less c f g w m = record { by = λ a i. m.by a (w a i) }

  all_may_less : (cs : List Call) (f g : List ℕ) → Within g f → AllMay cs f → AllMay cs g
  all_may_less [] f g w m = tt
  all_may_less (c ∷ cs) f g w m = (may_less c f g w m.0, all_may_less cs f g w m.1)

  pub kept_wider : (f g : List ℕ) (es : List Event) → Within g f → Kept g es → Kept f es
  kept_wider f g es w h = record { bounded = λ q cs m. h.bounded q cs (all_may_less cs f g w m); closes = h.closes }

  pub held_wider : (f g : List ℕ) (es : List Event) → Within g f → Held g es → Held f es
  held_wider f g es w h = record { bounded = λ q cs m. h.bounded q cs (all_may_less cs f g w m) }

  -- a call that may do what is done in it
  pub kept_call : (g : List ℕ) (x b : List ℕ) (es : List Event) → May (call_of x b) g → Kept g es → Kept g (Enter x b ∷ es ++ Leave ∷ [])
  kept_call g x b es i h = record {
    bounded = λ q cs m. bounded_append (call_of x b ∷ cs) es (Leave ∷ []) (h.bounded q (call_of x b ∷ cs) (i, m))
        (subst (λ (v : List Call). BoundedFrom (allowed p) v (Leave ∷ [])) (sym (h.closes (call_of x b ∷ cs))) tt);
    closes = λ cs. after_append (call_of x b ∷ cs) es (Leave ∷ []) ∙ ap (λ (v : List Call). open_after v (Leave ∷ [])) (h.closes (call_of x b ∷ cs));
  }

  pub held_call : (g : List ℕ) (x b : List ℕ) (es : List Event) → May (call_of x b) g → Held g es → Held g (Enter x b ∷ es)
  held_call g x b es i h = record { bounded = λ q cs m. h.bounded q (call_of x b ∷ cs) (i, m) }

  -- the effect has the atom of the deed
  pub record HasDeed (f : List ℕ) (d : DeedRecord) : Type 0 where
    pub atom : GrantsFit p → (a : ℕ) × In a f × (atom_named a ≡ atom_of d)

  all_contain : (cs : List Call) (f : List ℕ) (a : ℕ) (n : AtomName) → In a f → atom_named a ≡ n → AllMay cs f →
      All (λ call. Contains (allowed p call) n) cs
  all_contain [] f a n i e m = λ k d lt. absurd (omega arith)
  all_contain (c ∷ cs) f a n i e m =
      all_more (λ call. Contains (allowed p call) n) c cs (subst (λ (v : AtomName). Contains (allowed p c) v) e (m.0.by a i))
      (all_contain cs f a n i e m.1)

  pub kept_deed : (f : List ℕ) (d : DeedRecord) → HasDeed f d → Kept f (Deed d ∷ [])
  kept_deed f d h = record {
    bounded = λ q cs m. let r = h.atom q in (all_contain cs f r.0 (atom_of d) r.1 r.2 m, tt);
    closes = λ cs. refl;
  }
