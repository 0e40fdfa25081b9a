-- Runs whose observer keeps up what is used of each instance.
use Rattle.std.proofs.Common.{◌≡◌, ◌≤◌, ◌<◌, ◌^◌, ◌-◌, ℕ, ◌+◌, Bool, true, false, List, [], ◌∷◌, ◌++◌, length, Option, Some, None, Result, Ok, Err, refl, sym, ap, ◌∙◌, subst, arith, append_assoc, append-nil, ◌⊎◌, inl, inr, bytes_eq}
use Rattle.std.specs.Prelude.{slice_get, if◌then◌else◌}
use Rattle.std.proofs.lemmas.Option.{same_Some}
use Rattle.wy_device.specs.declared.deed.Event.{Event}
use Rattle.wy_device.specs.declared.deed.Event.TheVariants.{Enter, Leave, Deed}
use Rattle.wy_device.specs.Devices.{DevicesState}
use Rattle.wy_text.specs.Members.{Apart}
use Rattle.wy_meaning.specs.Bounds.{Call}
use Rattle.wy_meaning.specs.OpenCalls.{open_after}
use Rattle.wy_meaning.specs.Used.{UsedState, Follows, account_of, calls_of}
use Rattle.wy_meaning.specs.Accounts.{unused}
use Rattle.wy_meaning.specs.Accounts as changes
use Rattle.wy_meaning.specs.declared.used.Account.{Account}
use Rattle.wy_meaning.proofs.UsedLemmas.{open_then, account_at, follows_first, follows_enter, follows_leave, follows_deed}
use Rattle.wy_code.specs.declared.code.Code.{Code}
use Rattle.wy_machine.specs.declared.run_end.RunEnd.{RunEnd}
use Rattle.wy_machine.specs.Observing.{Told, Entered, Left, Did, event_told, events_told, HeardAll, AreFollowed, instance_names, IsHeardRun, IsCutRun, RunsTold}
use Rattle.wy_machine.specs.Observed.{CanCount, HearsUse, RunsObserved}
use Rattle.wy_machine.proofs.TracedRuns.{kept}

-- at most all calls are calls of an instance
calls_few : (instance : List ℕ) (calls : List Call) → calls_of instance calls ≤ length calls
calls_few instance [] = omega arith
calls_few instance (c ∷ cs) = of (bytes_eq c.instance instance) (calls_few instance cs)
  where
    of : (b : Bool) → calls_of instance cs ≤ length cs → (if b then calls_of instance cs + 1 else calls_of instance cs) ≤ length (c ∷ cs)
    of true few = omega (arith, few)
    of false few = omega (arith, few)

same_atoms : (t : Told) (a b : UsedState) (r : Result (Unit {0}) RunEnd) → HearsUse t a b r → b.atoms ≡ a.atoms
same_atoms (Entered i name body) a b r h = h.1.0
same_atoms (Left i) a b r h = ap (λ (u : UsedState). u.atoms) h.1 ∙ of (slice_get a.accounts i)
  where
    of : (o : Option Account) → (changes.without_call o i a).atoms ≡ a.atoms
    of None = refl
    of (Some x) = refl
same_atoms (Did d) a b r h = ap (λ (u : UsedState). u.atoms) h.1

-- no run is ended
goes_on : (end : RunEnd) (r : Result (Unit {0}) RunEnd) → r ≡ Err end → r ≡ Ok tt → ⊥
goes_on end r e f = cc

module _ (code : Code) (n : ℕ) (small : n < 2 ^ 64 - 1) where
  abbrev names : List (List ℕ)
  names = instance_names code

  can_count : (events : List Event) (a : UsedState) → Follows names events a → (i : ℕ) (name : List ℕ) → slice_get names i ≡ Some name → length (open_after [] events) ≤ n → CanCount a i
  can_count events a h i name e few account at =
      let is : account_of a.atoms events name ≡ account = same_Some _ account (sym (account_at names events a h i name e) ∙ at) in
      let calls : calls_of name (open_after [] events) ≡ account.calls = ap (λ (x : Account). x.calls) is in
      omega (arith, small, few, calls, calls_few name (open_after [] events))

  module _ (apart : Apart names) where
    behind : (t : Told) (ts : List Told) (events : List Event) (b : UsedState) → Follows names ((events ++ event_told t ∷ []) ++ events_told ts) b → Follows names (events ++ events_told (t ∷ ts)) b
    behind t ts events b h = subst (λ es. Follows names es b) (append_assoc events (event_told t ∷ []) (events_told ts)) h

    -- a call is left
    left_behind : (i : ℕ) (ts : List Told) (events : List Event) (a : UsedState) → Follows names events a → (cs : List Call) → open_after [] events ≡ cs → AreFollowed code n cs (Left i ∷ ts) →
        AreFollowed code n (open_after [] (events ++ Leave ∷ [])) ts × Follows names (events ++ Leave ∷ []) (changes.left i a)
    left_behind i ts events a h [] e f = absurd f
    left_behind i ts events a h (c ∷ cs) e f =
        (subst (λ cs. AreFollowed code n cs ts) (sym (open_then [] events (Leave ∷ []) ∙ ap (λ cs. open_after cs (Leave ∷ [])) e)) f.1, follows_leave names events a h apart i c cs e f.0)

    all_followed : (ts : List Told) (events : List Event) (a b : UsedState) → HeardAll HearsUse ts a b → AreFollowed code n (open_after [] events) ts → Follows names events a → Follows names (events ++ events_told ts) b
    all_followed [] events a b heard f h = subst (λ b. Follows names (events ++ []) b) (sym heard) (subst (λ es. Follows names es a) (sym (append-nil events)) h)
    all_followed (Entered i name body ∷ ts) events a b heard f h =
        behind (Entered i name body) ts events b
        (all_followed ts (events ++ Enter name body ∷ []) heard.0 b heard.2 (subst (λ cs. AreFollowed code n cs ts) (sym (open_then [] events (Enter name body ∷ []))) f.2)
        (subst (λ m. Follows names (events ++ Enter name body ∷ []) m) (sym (heard.1.1.1 (can_count events a h i name f.0 f.1))) (follows_enter names events a h apart i name body f.0)))
    all_followed (Left i ∷ ts) events a b heard f h =
        let after = left_behind i ts events a h (open_after [] events) refl f in
        behind (Left i) ts events b
        (all_followed ts (events ++ Leave ∷ []) heard.0 b heard.2 after.0 (subst (λ m. Follows names (events ++ Leave ∷ []) m) (sym heard.1.1) after.1))
    all_followed (Did d ∷ ts) events a b heard f h =
        behind (Did d) ts events b
        (all_followed ts (events ++ Deed d ∷ []) heard.0 b heard.2 (subst (λ cs. AreFollowed code n cs ts) (sym (open_then [] events (Deed d ∷ []))) f)
        (subst (λ m. Follows names (events ++ Deed d ∷ []) m) (sym heard.1.1) (follows_deed names events a h d)))

  pub observed_runs : (k : ℕ) (old new : DevicesState) (a b : UsedState) (end : RunEnd) → a ≡ unused a.atoms (length names) → RunsTold HearsUse code n k old new a b end → RunsObserved code n k old new a b end
  observed_runs k old new a b end start h = of h.comes
    where
      of : IsHeardRun HearsUse code n k h.events old new a b end ⊎ IsCutRun HearsUse code n k h.events a b end → RunsObserved code n k old new a b end
      of (inl c) = record {
        runs = record { events = h.events; did = h.did; ends = c.ends; same = h.same; failed = c.failed };
        atoms = kept HearsUse (λ (u : UsedState). u.atoms) same_atoms code n k old new a b end h;
        follows = λ apart.
            subst (λ es. Follows names es b) c.are
            (all_followed apart c.told [] a b c.heard c.followed (subst (λ a. Follows names [] a) (sym start) (follows_first names a.atoms)));
      }
      of (inr c) = absurd (goes_on end (Err end) refl c.heard.cut.0)
