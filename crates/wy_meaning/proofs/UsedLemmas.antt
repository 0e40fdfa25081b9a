-- What is used of instances goes on event by event, and says what was used at each deed.
use Rattle.std.proofs.Common.{◌≡◌, ◌≢◌, ℕ, zero, suc, ◌+◌, ◌-◌, Bool, true, false, List, [], ◌∷◌, ◌++◌, length, ◌<◌, Option, Some, map, take, drop, get_or, inl, inr, arith, refl, sym, ap, ◌∙◌, subst, nat_eq}
use Rattle.std.proofs.lemmas.Bool.Decides.{nat_tests}
use Rattle.std.proofs.lemmas.List.{append-nil}
use Rattle.std.proofs.lemmas.Option.{slice_get-map}
use Rattle.std.proofs.lemmas.Slice.Eq.{bytes_eq-Decides}
use Rattle.std.specs.Prelude.{bytes_eq, if◌then◌else◌, replicate, slice_get, slice_set}
use Rattle.wy_text.specs.declared.fault.AtomName.{AtomName}
use Rattle.wy_device.specs.declared.deed.Deed.{Deed as DeedRecord}
use Rattle.wy_device.specs.declared.deed.Event.{Event}
use Rattle.wy_device.specs.declared.deed.Event.TheVariants.{Enter, Deed, Leave}
use Rattle.wy_text.specs.Members.{In, Apart}
use Rattle.wy_text.proofs.Lists.{In-slice_get}
use Rattle.wy_meaning.specs.declared.used.Account.{Account}
use Rattle.wy_meaning.specs.Bounds.{Call, atom_of}
use Rattle.wy_meaning.specs.OpenCalls.{open_after}
use Rattle.wy_meaning.specs.Used.{Follows, IsSaidOfEachUse, IsUsed, UsedState, account_of, calls_of, is_open, place_from, used_from, used_of, used_set, with_place, with_places}
use Rattle.wy_meaning.specs.Accounts.{entered, left, no_account, noted, performed, unused}

not_equal : (a b : List ℕ) → a ≢ b → bytes_eq a b ≡ false
not_equal a b n = elim (bytes_eq a b) as (λ t. t ≡ bytes_eq a b → t ≡ false) [
  | true ↦ λ e. absurd (n ((bytes_eq-Decides a b).0 (sym e)))
  | false ↦ λ e. refl
] refl

equal : (a : List ℕ) → bytes_eq a a ≡ true
equal a = (bytes_eq-Decides a a).1 refl

------------------------------------------------------------
-- One more event

-- the calls that are open after one more event
pub open_then : (calls : List Call) (events later : List Event) → open_after calls (events ++ later) ≡ open_after (open_after calls events) later
open_then calls [] later = refl
open_then calls (Enter i b ∷ events) later = open_then (record { instance = i; body = b } ∷ calls) events later
open_then calls (Deed d ∷ events) later = open_then calls events later
open_then [] (Leave ∷ events) later = open_then [] events later
open_then (call ∷ calls) (Leave ∷ events) later = open_then calls events later

-- what was used after more events
used_then : (i : List ℕ) (calls : List Call) (events later : List Event) →
    used_from i calls (events ++ later) ≡ used_from i calls events ++ used_from i (open_after calls events) later
used_then i calls [] later = refl
used_then i calls (Enter j b ∷ events) later = used_then i (record { instance = j; body = b } ∷ calls) events later
used_then i calls (Deed d ∷ events) later = of (is_open i calls) (used_then i calls events later)
  where
    of : (b : Bool) → used_from i calls (events ++ later) ≡ used_from i calls events ++ used_from i (open_after calls events) later →
        (if b then atom_of d ∷ used_from i calls (events ++ later) else used_from i calls (events ++ later)) ≡
        (if b then atom_of d ∷ used_from i calls events else used_from i calls events) ++ used_from i (open_after calls events) later
    of true e = ap (λ (xs : List AtomName). atom_of d ∷ xs) e
    of false e = e
used_then i [] (Leave ∷ events) later = used_then i [] events later
used_then i (call ∷ calls) (Leave ∷ events) later = used_then i calls events later

-- the set of more atoms
places_then : (names : List AtomName) (atoms later : List AtomName) (set : List ℕ) → with_places names (atoms ++ later) set ≡ with_places names later (with_places names atoms set)
places_then names [] later set = refl
places_then names (atom ∷ atoms) later set = places_then names atoms later (with_place (place_from 0 names atom) set)

-- an instance is open where one of the calls is its own
open_counted : {X : Type 0} (here there : X) (i : List ℕ) (calls : List Call) → (if is_open i calls then here else there) ≡ (if nat_eq (calls_of i calls) 0 then there else here)
open_counted here there i [] = refl
open_counted here there i (call ∷ calls) = elim (bytes_eq call.instance i) as
    (λ b. (if (if b then true else is_open i calls) then here else there) ≡ (if nat_eq (if b then calls_of i calls + 1 else calls_of i calls) 0 then there else here)) [
      | true ↦ some (calls_of i calls)
      | false ↦ open_counted here there i calls
    ]
  where
    some : (n : ℕ) → here ≡ (if nat_eq (n + 1) 0 then there else here)
    some n = grind (arith, nat_tests)

module _ (atoms : List AtomName) (events : List Event) where
  -- what there is to say of an instance by the calls that are open and the atoms that were used
  abbrev said_by : List Call → List AtomName → List ℕ → Account
  said_by calls used i = record { calls = calls_of i calls; set = with_places atoms used [] }

  -- after an event which is no deed the same was used
  account_later : (e : Event) (i : List ℕ) → used_from i (open_after [] events) (e ∷ []) ≡ [] →
      account_of atoms (events ++ e ∷ []) i ≡ said_by (open_after (open_after [] events) (e ∷ [])) (used_of i events) i
  account_later e i none =
      ap (λ (calls : List Call). said_by calls (used_of i (events ++ e ∷ [])) i) (open_then [] events (e ∷ [])) ∙
      ap (λ (used : List AtomName). said_by (open_after (open_after [] events) (e ∷ [])) used i)
      (used_then i [] events (e ∷ []) ∙ (ap (λ (xs : List AtomName). used_of i events ++ xs) none ∙ append-nil (used_of i events)))

  -- where the account of each instance changes so, all do
  accounts_later : (e : Event) (change : Account → Account) → ((i : List ℕ) → change (account_of atoms events i) ≡ account_of atoms (events ++ e ∷ []) i) →
      (instances : List (List ℕ)) → map change (map (account_of atoms events) instances) ≡ map (account_of atoms (events ++ e ∷ [])) instances
  accounts_later e change h [] = refl
  accounts_later e change h (i ∷ instances) =
      ap (λ (a : Account). a ∷ map change (map (account_of atoms events) instances)) (h i) ∙
      ap (λ (xs : List Account). account_of atoms (events ++ e ∷ []) i ∷ xs) (accounts_later e change h instances)

  -- .. and where none of these instances' does
  accounts_same : (e : Event) (instances : List (List ℕ)) → ((i : List ℕ) → In i instances → account_of atoms events i ≡ account_of atoms (events ++ e ∷ []) i) →
      map (account_of atoms events) instances ≡ map (account_of atoms (events ++ e ∷ [])) instances
  accounts_same e [] h = refl
  accounts_same e (i ∷ instances) h =
      ap (λ (a : Account). a ∷ map (account_of atoms events) instances) (h i (inl refl)) ∙
      ap (λ (xs : List Account). account_of atoms (events ++ e ∷ []) i ∷ xs) (accounts_same e instances (λ j n. h j (inr n)))

  -- .. and where that of one instance changes, whose name no other has
  account_set : (e : Event) (name : List ℕ) (a : Account) → a ≡ account_of atoms (events ++ e ∷ []) name →
      ((i : List ℕ) → name ≢ i → account_of atoms events i ≡ account_of atoms (events ++ e ∷ []) i) →
      (instances : List (List ℕ)) (k : ℕ) → Apart instances → slice_get instances k ≡ Some name →
      slice_set (map (account_of atoms events) instances) k a ≡ map (account_of atoms (events ++ e ∷ [])) instances
  account_set e name a here others [] k apart at = absurd (cc)
  account_set e name a here others (i ∷ instances) zero apart at =
      let same : i ≡ name = cc in
      ap (λ (x : Account). x ∷ map (account_of atoms events) instances) (here ∙ ap (account_of atoms (events ++ e ∷ [])) (sym same)) ∙
      ap (λ (xs : List Account). account_of atoms (events ++ e ∷ []) i ∷ xs)
      (accounts_same e instances (λ j n. others j (λ f. apart.0 (subst (λ (x : List ℕ). In x instances) (sym (same ∙ f)) n))))
  account_set e name a here others (i ∷ instances) (suc k) apart at =
      let other : name ≢ i = λ f. apart.0 (subst (λ (x : List ℕ). In x instances) f (In-slice_get instances k name at)) in
      ap (λ (x : Account). x ∷ slice_set (map (account_of atoms events) instances) k a) (others i other) ∙
      ap (λ (xs : List Account). account_of atoms (events ++ e ∷ []) i ∷ xs) (account_set e name a here others instances k apart.1 at)

------------------------------------------------------------
-- What follows the events

-- nothing was used before a run
pub follows_first : (instances : List (List ℕ)) (atoms : List AtomName) → Follows instances [] (unused atoms (length instances))
follows_first instances atoms = record { accounts = all instances }
  where
    all : (instances : List (List ℕ)) → replicate (length instances) no_account ≡ map (account_of atoms []) instances
    all [] = refl
    all (i ∷ instances) = ap (λ (xs : List Account). no_account ∷ xs) (all instances)

-- the account of an instance that has a number
pub account_at : (instances : List (List ℕ)) (events : List Event) (used : UsedState) → Follows instances events used →
    (k : ℕ) (name : List ℕ) → slice_get instances k ≡ Some name → slice_get used.accounts k ≡ Some (account_of used.atoms events name)
account_at instances events used h k name at =
    ap (λ (xs : List Account). slice_get xs k) h.accounts ∙ (slice_get-map (account_of used.atoms events) instances k ∙ ap (λ (o : Option (List ℕ)). Rattle.std.specs.Option.option_map (account_of used.atoms events) o) at)

abbrev one_more : Account → Account
one_more a = record a { calls = a.calls + 1 }

abbrev one_fewer : Account → Account
one_fewer a = record a { calls = a.calls - 1 }

-- the place of a deed's atom
abbrev place_in : UsedState → DeedRecord → Option ℕ
place_in used deed = place_from 0 used.atoms (atom_of deed)

module _ (instances : List (List ℕ)) (events : List Event) (used : UsedState) (h : Follows instances events used) where
  -- a call of an instance was entered
  pub follows_enter : Apart instances → (k : ℕ) (name body : List ℕ) → slice_get instances k ≡ Some name →
      Follows instances (events ++ Enter name body ∷ []) (entered k used)
  follows_enter apart k name body at =
      rw (account_at instances events used h k name at) (record {
        accounts = ap (λ (xs : List Account). slice_set xs k (one_more (account_of used.atoms events name))) h.accounts ∙ account_set used.atoms events (Enter name body) name (one_more (account_of used.atoms events name)) here others instances k apart at;
      })
    where
      here : one_more (account_of used.atoms events name) ≡ account_of used.atoms (events ++ Enter name body ∷ []) name
      here =
          ap (λ (b : Bool). record { calls = if b then calls_of name (open_after [] events) + 1 else calls_of name (open_after [] events); set = used_set used.atoms events name }) (sym (equal name)) ∙
          sym (account_later used.atoms events (Enter name body) name refl)

      others : (i : List ℕ) → name ≢ i → account_of used.atoms events i ≡ account_of used.atoms (events ++ Enter name body ∷ []) i
      others i n =
          ap (λ (b : Bool). record { calls = if b then calls_of i (open_after [] events) + 1 else calls_of i (open_after [] events); set = used_set used.atoms events i }) (sym (not_equal name i n)) ∙
          sym (account_later used.atoms events (Enter name body) i refl)

  -- the latest call was left
  pub follows_leave : Apart instances → (k : ℕ) (call : Call) (calls : List Call) → open_after [] events ≡ call ∷ calls → slice_get instances k ≡ Some call.instance →
      Follows instances (events ++ Leave ∷ []) (left k used)
  follows_leave apart k call calls opened at =
      rw (account_at instances events used h k call.instance at) (record {
        accounts = ap (λ (xs : List Account). slice_set xs k (one_fewer (account_of used.atoms events call.instance))) h.accounts ∙ account_set used.atoms events Leave call.instance (one_fewer (account_of used.atoms events call.instance)) here others instances k apart at;
      })
    where
      -- what there is to say by the calls that were open
      after : (i : List ℕ) (cs : List Call) → open_after [] events ≡ cs →
          account_of used.atoms (events ++ Leave ∷ []) i ≡ record { calls = calls_of i (open_after cs (Leave ∷ [])); set = used_set used.atoms events i }
      after i cs e = account_later used.atoms events Leave i (silent i (open_after [] events)) ∙
          ap (λ (cs : List Call). record { calls = calls_of i (open_after cs (Leave ∷ [])); set = used_set used.atoms events i }) e
        where
          silent : (i : List ℕ) (cs : List Call) → used_from i cs (Leave ∷ []) ≡ []
          silent i [] = refl
          silent i (c ∷ cs) = refl

      before : (i : List ℕ) → account_of used.atoms events i ≡ record { calls = calls_of i (call ∷ calls); set = used_set used.atoms events i }
      before i = ap (λ (cs : List Call). record { calls = calls_of i cs; set = used_set used.atoms events i }) opened

      fewer : (n : ℕ) → n + 1 - 1 ≡ n
      fewer n = omega arith

      here : one_fewer (account_of used.atoms events call.instance) ≡ account_of used.atoms (events ++ Leave ∷ []) call.instance
      here =
          ap (λ (cs : List Call). record { calls = calls_of call.instance cs - 1; set = used_set used.atoms events call.instance }) opened ∙
          (ap (λ (b : Bool). record { calls = (if b then calls_of call.instance calls + 1 else calls_of call.instance calls) - 1; set = used_set used.atoms events call.instance }) (equal call.instance) ∙
          (ap (λ (n : ℕ). record { calls = n; set = used_set used.atoms events call.instance }) (fewer (calls_of call.instance calls)) ∙
          sym (after call.instance (call ∷ calls) opened)))

      others : (i : List ℕ) → call.instance ≢ i → account_of used.atoms events i ≡ account_of used.atoms (events ++ Leave ∷ []) i
      others i n =
          before i ∙
          (ap (λ (b : Bool). record { calls = if b then calls_of i calls + 1 else calls_of i calls; set = used_set used.atoms events i }) (not_equal call.instance i n) ∙
          sym (after i (call ∷ calls) opened))

  -- an operation was done, or failed
  pub follows_deed : (deed : DeedRecord) → Follows instances (events ++ Deed deed ∷ []) (performed (atom_of deed) used)
  follows_deed deed = record {
    accounts = ap (λ (xs : List Account). map (noted (place_in used deed)) xs) h.accounts ∙ accounts_later used.atoms events (Deed deed) (noted (place_in used deed)) each instances;
  }
    where
      set_then : (i : List ℕ) (b : Bool) → with_places used.atoms (if b then atom_of deed ∷ [] else []) (used_set used.atoms events i) ≡
          (if b then with_place (place_in used deed) (used_set used.atoms events i) else used_set used.atoms events i)
      set_then i true = refl
      set_then i false = refl

      set_later : (i : List ℕ) → used_set used.atoms (events ++ Deed deed ∷ []) i ≡
          (if nat_eq (calls_of i (open_after [] events)) 0 then used_set used.atoms events i else with_place (place_in used deed) (used_set used.atoms events i))
      set_later i =
          ap (λ (us : List AtomName). with_places used.atoms us []) (used_then i [] events (Deed deed ∷ [])) ∙
          (places_then used.atoms (used_of i events) (used_from i (open_after [] events) (Deed deed ∷ [])) [] ∙
          (set_then i (is_open i (open_after [] events)) ∙
          open_counted (with_place (place_in used deed) (used_set used.atoms events i)) (used_set used.atoms events i) i (open_after [] events)))

      each : (i : List ℕ) → noted (place_in used deed) (account_of used.atoms events i) ≡ account_of used.atoms (events ++ Deed deed ∷ []) i
      each i =
          ap (λ (s : List ℕ). record { calls = calls_of i (open_after [] events); set = s }) (sym (set_later i)) ∙
          ap (λ (cs : List Call). record { calls = calls_of i cs; set = used_set used.atoms (events ++ Deed deed ∷ []) i }) (sym (open_then [] events (Deed deed ∷ [])))

------------------------------------------------------------
-- The recursion says what was used

-- an atom that a deed has while a call is open is among those used
used_at : (i : List ℕ) (calls : List Call) (before after : List Event) (deed : DeedRecord) → is_open i (open_after calls before) ≡ true →
    In (atom_of deed) (used_from i calls (before ++ Deed deed ∷ after))
used_at i calls [] after deed h = rw h (inl refl)
used_at i calls (Enter j b ∷ before) after deed h = used_at i (record { instance = j; body = b } ∷ calls) before after deed h
used_at i calls (Deed d ∷ before) after deed h = later (is_open i calls) (used_at i calls before after deed h)
  where
    later : (b : Bool) → In (atom_of deed) (used_from i calls (before ++ Deed deed ∷ after)) →
        In (atom_of deed) (if b then atom_of d ∷ used_from i calls (before ++ Deed deed ∷ after) else used_from i calls (before ++ Deed deed ∷ after))
    later true n = inr n
    later false n = n
used_at i [] (Leave ∷ before) after deed h = used_at i [] before after deed h
used_at i (call ∷ calls) (Leave ∷ before) after deed h = used_at i calls before after deed h

-- where a deed stands among events, with a call of the instance open at it
record Stands (i : List ℕ) (calls : List Call) (events : List Event) (atom : AtomName) : Type 0 where
  before : List Event
  deed : DeedRecord
  after : List Event
  split : events ≡ before ++ Deed deed ∷ after
  open_then : is_open i (open_after calls before) ≡ true
  is : atom ≡ atom_of deed

-- .. which stands so behind one more event
behind : (i : List ℕ) (calls calls' : List Call) (events : List Event) (atom : AtomName) (e : Event) →
    ((before : List Event) → open_after calls' (e ∷ before) ≡ open_after calls before) → Stands i calls events atom → Stands i calls' (e ∷ events) atom
behind i calls calls' events atom e same s = record {
  before = e ∷ s.before;
  deed = s.deed;
  after = s.after;
  split = ap (λ (es : List Event). e ∷ es) s.split;
  open_then = ap (λ (cs : List Call). is_open i cs) (same s.before) ∙ s.open_then;
  is = s.is;
}

stands_where : (i : List ℕ) (calls : List Call) (events : List Event) (atom : AtomName) → In atom (used_from i calls events) → Stands i calls events atom
stands_where i calls [] atom n = absurd n
stands_where i calls (Enter j b ∷ events) atom n =
    behind i (record { instance = j; body = b } ∷ calls) calls events atom (Enter j b) (λ before. refl) (stands_where i (record { instance = j; body = b } ∷ calls) events atom n)
stands_where i calls (Deed d ∷ events) atom n =
    elim (is_open i calls) as (λ b. is_open i calls ≡ b → In atom (if b then atom_of d ∷ used_from i calls events else used_from i calls events) → Stands i calls (Deed d ∷ events) atom) [
      | true ↦ λ e m. elim m [
        | inl same ↦ record { before = []; deed = d; after = events; split = refl; open_then = e; is = sym same }
        | inr later ↦ behind i calls calls events atom (Deed d) (λ before. refl) (stands_where i calls events atom later)
      ]
      | false ↦ λ e m. behind i calls calls events atom (Deed d) (λ before. refl) (stands_where i calls events atom m)
    ] refl n
stands_where i [] (Leave ∷ events) atom n = behind i [] [] events atom Leave (λ before. refl) (stands_where i [] events atom n)
stands_where i (call ∷ calls) (Leave ∷ events) atom n = behind i calls (call ∷ calls) events atom Leave (λ before. refl) (stands_where i calls events atom n)

-- so what was used is what the deeds say
pub said_of_each_use : (instance : List ℕ) (events : List Event) (atom : AtomName) → IsSaidOfEachUse instance events atom
said_of_each_use instance events atom = (there, back)
  where
    there : In atom (used_of instance events) → IsUsed instance events atom
    there n =
        let s : Stands instance [] events atom = stands_where instance [] events atom n in
        record { before = s.before; deed = s.deed; after = s.after; split = s.split; open_then = s.open_then; is = s.is }

    back : IsUsed instance events atom → In atom (used_of instance events)
    back u =
        subst (λ (es : List Event). In atom (used_of instance es)) (sym u.split)
        (subst (λ (a : AtomName). In a (used_of instance (u.before ++ Deed u.deed ∷ u.after))) (sym u.is) (used_at instance [] u.before u.after u.deed u.open_then))

------------------------------------------------------------
-- A loop that notes accounts one after the other

-- one turn: the item at the place is changed, those before it were, and those behind it are as they were
pub turn : {X : Type 0} (f : X → X) (xs ys : List X) (i : ℕ) (a : X) → i < length xs → take i xs ≡ map f (take i ys) → drop i xs ≡ drop i ys →
    (take (suc i) (slice_set xs i (f (get_or xs i a))) ≡ map f (take (suc i) ys)) × (drop (suc i) (slice_set xs i (f (get_or xs i a))) ≡ drop (suc i) ys)
turn f [] ys i a l t d = absurd (omega (arith, l))
turn f (x ∷ xs) [] zero a l t d = absurd (cc)
turn f (x ∷ xs) (y ∷ ys) zero a l t d = ((let same : x ≡ y = cc in cc), cc)
turn f (x ∷ xs) [] (suc i) a l t d = absurd (cc)
turn f (x ∷ xs) (y ∷ ys) (suc i) a l t d =
    let less : i < length xs = omega arith in
    let tail : take i xs ≡ map f (take i ys) = cc in
    let r : (take (suc i) (slice_set xs i (f (get_or xs i a))) ≡ map f (take (suc i) ys)) × (drop (suc i) (slice_set xs i (f (get_or xs i a))) ≡ drop (suc i) ys) = turn f xs ys i a less tail d in
    (let head : x ≡ f y = cc in let rest : take (suc i) (slice_set xs i (f (get_or xs i a))) ≡ map f (take (suc i) ys) = r.0 in cc, r.1)
