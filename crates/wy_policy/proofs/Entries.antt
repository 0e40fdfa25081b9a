-- A turn of the loop over a set's entries.
use Rattle.std.proofs.Common.{◌≡◌, ℕ, suc, ◌<◌, length, arith, subst, Bool, true, false, List, [], ◌∷◌, ◌++◌, refl, sym, ap, ◌∙◌, append_assoc, Option, Some, None}
use Rattle.std.specs.Option.{option_and_then, option_map}
use Rattle.wy_policy.specs.Reading.{Cut, Pushes, cut, entries_read, entry_read, pieces, pieces_in, room_in, with_front}
use Rattle.wy_policy.specs.declared.policy.Entry.{Entry}
use Rattle.wy_policy.proofs.Cuts.{cut_room, pieces_cut}

abbrev entries_with : Option Entry → Option (List Entry) → Option (List Entry)
entries_with first later = option_and_then (λ e. option_map (λ es. e ∷ es) later) first

pub stopped : (old new : List Entry) (text : List ℕ) → Pushes old (entry_read (cut 44 text).front) new false → with_front old (entries_read (pieces text)) ≡ None
stopped old new text h = ap (λ (ps : List (List ℕ)). with_front old (entries_read ps)) (pieces_cut text) ∙ go (entry_read (cut 44 text).front) (entries_read (pieces_in (cut 44 text).behind)) h
  where
    go : (first : Option Entry) (later : Option (List Entry)) → Pushes old first new false → with_front old (entries_with first later) ≡ None
    go None later h = refl
    go (Some e) later h = absurd (no h.0)
      where
        no : false ≡ true → ⊥
        no e = absurd cc

pub went : (old new : List Entry) (text : List ℕ) → Pushes old (entry_read (cut 44 text).front) new true →
    with_front new (entries_read (pieces_in (cut 44 text).behind)) ≡ with_front old (entries_read (pieces text))
went old new text h = go (entry_read (cut 44 text).front) (entries_read (pieces_in (cut 44 text).behind)) h ∙ ap (λ (ps : List (List ℕ)). with_front old (entries_read ps)) (sym (pieces_cut text))
  where
    no : true ≡ false → ⊥
    no e = absurd cc

    go : (first : Option Entry) (later : Option (List Entry)) → Pushes old first new true → with_front new later ≡ with_front old (entries_with first later)
    go None later h = absurd (no h)
    go (Some e) None h = refl
    go (Some e) (Some es) h = ap (λ (l : List Entry). Some (l ++ es)) h.1 ∙ ap Some (append_assoc old (e ∷ []) es)

-- .. where the loop stops, and where it goes on

pub turn_stops : (old new : List Entry) (taken : Bool) (text front : List ℕ) (behind rest : Option (List ℕ)) (all : Option (List Entry)) →
    rest ≡ Some text → cut 44 text ≡ record { front = front; behind = behind } → Pushes old (entry_read front) new taken → taken ≡ false →
    with_front old (entries_read (pieces_in rest)) ≡ all → None ≡ all
turn_stops old new taken text front behind rest all r c p t e =
    let first : (cut 44 text).front ≡ front = ap (λ (x : Cut). x.front) c in
    let pushed : Pushes old (entry_read (cut 44 text).front) new false = subst (λ (f : List ℕ). Pushes old (entry_read f) new false) (sym first) (subst (λ (b : Bool). Pushes old (entry_read front) new b) t p) in
    sym (stopped old new text pushed) ∙ ap (λ (x : Option (List ℕ)). with_front old (entries_read (pieces_in x))) (sym r) ∙ e

pub turn_goes : (old new : List Entry) (taken : Bool) (text front : List ℕ) (behind rest : Option (List ℕ)) (all : Option (List Entry)) →
    rest ≡ Some text → cut 44 text ≡ record { front = front; behind = behind } → Pushes old (entry_read front) new taken → taken ≡ true →
    with_front old (entries_read (pieces_in rest)) ≡ all → with_front new (entries_read (pieces_in behind)) ≡ all
turn_goes old new taken text front behind rest all r c p t e =
    let first : (cut 44 text).front ≡ front = ap (λ (x : Cut). x.front) c in
    let later : (cut 44 text).behind ≡ behind = ap (λ (x : Cut). x.behind) c in
    let pushed : Pushes old (entry_read (cut 44 text).front) new true = subst (λ (f : List ℕ). Pushes old (entry_read f) new true) (sym first) (subst (λ (b : Bool). Pushes old (entry_read front) new b) t p) in
    ap (λ (x : Option (List ℕ)). with_front new (entries_read (pieces_in x))) (sym later) ∙ went old new text pushed
    ∙ ap (λ (x : Option (List ℕ)). with_front old (entries_read (pieces_in x))) (sym r) ∙ e

pub turn_nearer : (text front : List ℕ) (behind rest : Option (List ℕ)) → rest ≡ Some text → cut 44 text ≡ record { front = front; behind = behind } → room_in behind < room_in rest
turn_nearer text front behind rest r c =
    let later : room_in (cut 44 text).behind ≡ room_in behind = ap (λ (x : Cut). room_in x.behind) c in
    let whole : room_in rest ≡ suc (length text) = ap room_in r in
    let room = cut_room 44 text in
    omega (arith, later, whole, room)
