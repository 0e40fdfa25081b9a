-- What is read as a set is written so, and what is written so is read.
use Rattle.std.proofs.Common.{codes, ◌≡◌, ℕ, ◌==◌, Bool, true, false, cond, List, [], ◌∷◌, ◌++◌, refl, sym, ap, subst, ◌∙◌, arith, append_assoc, append-nil, Option, Some, None}
use Rattle.std.specs.List.{AllByRecursion, join_with_byte}
use Rattle.std.specs.Option.{option_and_then, option_map}
use Rattle.std.specs.Str.{bytes_eq}
use Rattle.std.proofs.lemmas.Slice.Eq.{bytes_eq-Decides}
use Rattle.wy_layout.specs.Identifiers.{is_identifier}
use Rattle.wy_policy.specs.Policy.{IsEntry, IsMember, entries_after, entry_text, member_text, set_text}
use Rattle.wy_policy.specs.Reading.{Cut, cut, entries_read, entry_of, entry_parts, entry_read, first_longer, member_read, onto, pieces, pieces_in, set_read}
use Rattle.wy_policy.specs.declared.policy.Entry.{Entry}
use Rattle.wy_policy.specs.declared.policy.Member.{Member}
use Rattle.wy_policy.specs.declared.policy.Member.TheVariants as member
use Rattle.wy_policy.proofs.Cuts.{pieces_cut}
use Rattle.wy_policy.proofs.NameBytes.{Lacks, lacks_append, no_comma, no_dot, no_star}

-- ---- cuts

pub same : (m n : ℕ) → (m == n) ≡ true → m ≡ n
same m n e = grind arith

apart : (m n : ℕ) → (m ≡ n → ⊥) → (m == n) ≡ false
apart m n h = go (m == n) refl
  where
    go : (t : Bool) → (m == n) ≡ t → t ≡ false
    go true e = absurd (h (same m n e))
    go false e = refl

itself : (n : ℕ) → (n == n) ≡ true
itself n = grind arith

-- what is written around a byte that the front lacks is cut there
pub cut_written : (s : ℕ) (u r : List ℕ) → Lacks s u → cut s (u ++ s ∷ r) ≡ record { front = u; behind = Some r }
cut_written s [] r h = rw (itself s) refl
cut_written s (b ∷ u) r h = let e = apart b s h.0 in rw e (ap (onto b) (cut_written s u r h.1))

pub cut_whole : (s : ℕ) (u : List ℕ) → Lacks s u → cut s u ≡ record { front = u; behind = None }
cut_whole s [] h = refl
cut_whole s (b ∷ u) h = let e = apart b s h.0 in rw e (ap (onto b) (cut_whole s u h.1))

pub some_same : {A : Type 0} (x y : A) → Some x ≡ Some y → x ≡ y
some_same x y e = cc

cut_back : (s : ℕ) (text r : List ℕ) → (cut s text).behind ≡ Some r → text ≡ (cut s text).front ++ s ∷ r
cut_back s [] r h = absurd cc
cut_back s (b ∷ bs) r h = go (b == s) refl h (cut_back s bs r)
  where
    whole : Bool → Cut
    whole t = cond t (record { front = []; behind = Some bs }) (onto b (cut s bs))

    go : (t : Bool) → (b == s) ≡ t → (whole t).behind ≡ Some r → ((cut s bs).behind ≡ Some r → bs ≡ (cut s bs).front ++ s ∷ r) → b ∷ bs ≡ (whole t).front ++ s ∷ r
    go true e h ih = let k : bs ≡ r = some_same bs r h in ap (λ (n : ℕ). n ∷ bs) (same b s e) ∙ ap (λ (z : List ℕ). s ∷ z) k
    go false e h ih = ap (λ (z : List ℕ). b ∷ z) (ih h)

-- ---- pieces

pub piece_whole : (u : List ℕ) → Lacks 44 u → pieces u ≡ u ∷ []
piece_whole u h = pieces_cut u ∙ ap (λ (c : Cut). c.front ∷ pieces_in c.behind) (cut_whole 44 u h)

pub piece_first : (u r : List ℕ) → Lacks 44 u → pieces (u ++ 44 ∷ r) ≡ u ∷ pieces r
piece_first u r h = pieces_cut (u ++ 44 ∷ r) ∙ ap (λ (c : Cut). c.front ∷ pieces_in c.behind) (cut_written 44 u r h)

join_longer : (b : ℕ) (bs p : List ℕ) (ps : List (List ℕ)) → join_with_byte 44 (p ∷ ps) ≡ bs → join_with_byte 44 ((b ∷ p) ∷ ps) ≡ b ∷ bs
join_longer b bs p [] h = ap (λ (z : List ℕ). b ∷ z) h
join_longer b bs p (q ∷ ps) h = ap (λ (z : List ℕ). b ∷ z) h

-- the pieces with commas between are the text
pub pieces_join : (text : List ℕ) → join_with_byte 44 (pieces text) ≡ text
pieces_join [] = refl
pieces_join (b ∷ bs) = go (b == 44) refl (pieces bs) (pieces_cut bs) (pieces_join bs)
  where
    go : (t : Bool) → (b == 44) ≡ t → (ps : List (List ℕ)) → ps ≡ (cut 44 bs).front ∷ pieces_in (cut 44 bs).behind → join_with_byte 44 ps ≡ bs → join_with_byte 44 (cond t ([] ∷ ps) (first_longer b ps)) ≡ b ∷ bs
    go t e [] h ih = absurd cc
    go true e (p ∷ ps) h ih = ap (λ (z : List ℕ). 44 ∷ z) ih ∙ ap (λ (n : ℕ). n ∷ bs) (sym (same b 44 e))
    go false e (p ∷ ps) h ih = join_longer b bs p ps ih

-- ---- a member and an entry

star_is : (w : List ℕ) → bytes_eq w (codes "*") ≡ true → w ≡ codes "*"
star_is w e = (bytes_eq-Decides w (codes "*")).0 e

pub member_found : (text : List ℕ) (m : Member) → member_read text ≡ Some m → (text ≡ member_text m) × IsMember m
member_found text m h = go (bytes_eq text (codes "*")) refl (is_identifier text) refl h
  where
    go : (t : Bool) → bytes_eq text (codes "*") ≡ t → (u : Bool) → is_identifier text ≡ u → cond t (Some member.Every) (cond u (Some (member.Named text)) None) ≡ Some m → (text ≡ member_text m) × IsMember m
    go true e u f h = subst (λ (x : Member). (text ≡ member_text x) × IsMember x) (some_same member.Every m h) (star_is text e, tt)
    go false e true f h = subst (λ (x : Member). (text ≡ member_text x) × IsMember x) (some_same (member.Named text) m h) (refl, f)
    go false e false f h = absurd cc

pub member_again : (m : Member) → IsMember m → member_read (member_text m) ≡ Some m
member_again member.Every h = refl
member_again (member.Named name) h = go (bytes_eq name (codes "*")) refl (no_star name h)
  where
    go : (t : Bool) → bytes_eq name (codes "*") ≡ t → Lacks 42 name → cond t (Some member.Every) (cond (is_identifier name) (Some (member.Named name)) None) ≡ Some (member.Named name)
    go true e l = absurd ((subst (Lacks 42) (star_is name e) l).0 refl)
    go false e l = rw h refl

member_lacks : (s : ℕ) (m : Member) → (42 ≡ s → ⊥) → ((w : List ℕ) → is_identifier w ≡ true → Lacks s w) → IsMember m → Lacks s (member_text m)
member_lacks s member.Every star names h = (star, tt)
member_lacks s (member.Named name) star names h = names name h

entry_built : (grant : List ℕ) (m : Member) → is_identifier grant ≡ true → IsMember m → IsEntry (entry_of grant m)
entry_built grant m g h = record { grant = g; member = h }

parts_found : (grant : List ℕ) (behind : Option (List ℕ)) (e : Entry) → entry_parts grant behind ≡ Some e → (text : List ℕ) × ((behind ≡ Some text) × (grant ++ 46 ∷ text ≡ entry_text e) × IsEntry e)
parts_found grant None e h = absurd cc
parts_found grant (Some text) e h = go (is_identifier grant) refl (member_read text) refl h
  where
    go : (t : Bool) → is_identifier grant ≡ t → (o : Option Member) → member_read text ≡ o → cond t (option_map (entry_of grant) o) None ≡ Some e → (text' : List ℕ) × ((Some text ≡ Some text') × (grant ++ 46 ∷ text' ≡ entry_text e) × IsEntry e)
    go true g None f h = absurd cc
    go true g (Some m) f h =
        let found = member_found text m f in
        subst (λ (x : Entry). (text' : List ℕ) × ((Some text ≡ Some text') × (grant ++ 46 ∷ text' ≡ entry_text x) × IsEntry x)) (some_same (entry_of grant m) e h)
        (text, (refl, ap (λ (z : List ℕ). grant ++ 46 ∷ z) found.0, entry_built grant m g found.1))
    go false g o f h = absurd cc

pub entry_found : (piece : List ℕ) (e : Entry) → entry_read piece ≡ Some e → (piece ≡ 32 ∷ entry_text e) × IsEntry e
entry_found [] e h = absurd cc
entry_found (b ∷ text) e h = go (b == 32) refl h
  where
    go : (t : Bool) → (b == 32) ≡ t → cond t (entry_parts (cut 46 text).front (cut 46 text).behind) None ≡ Some e → (b ∷ text ≡ 32 ∷ entry_text e) × IsEntry e
    go true f h =
        let parts = parts_found (cut 46 text).front (cut 46 text).behind e h in
        (ap (λ (n : ℕ). n ∷ text) (same b 32 f) ∙ ap (λ (z : List ℕ). 32 ∷ z) (cut_back 46 text parts.0 parts.1.0 ∙ parts.1.1), parts.1.2)
    go false f h = absurd cc

pub entry_again : (e : Entry) → IsEntry e → entry_read (32 ∷ entry_text e) ≡ Some e
entry_again e h =
    ap (λ (c : Cut). entry_parts c.front c.behind) (cut_written 46 e.grant (member_text e.member) (no_dot e.grant h.grant))
    ∙ ap (λ (t : Bool). cond t (option_map (entry_of e.grant) (member_read (member_text e.member))) None) h.grant
    ∙ ap (option_map (entry_of e.grant)) (member_again e.member h.member)

entry_no_comma : (e : Entry) → IsEntry e → Lacks 44 (32 ∷ entry_text e)
entry_no_comma e h =
    let member = member_lacks 44 e.member (λ x. absurd (omega arith)) no_comma h.member in
    ((λ x. absurd (omega arith)), lacks_append 44 e.grant (46 ∷ member_text e.member) (no_comma e.grant h.grant) ((λ x. absurd (omega arith)), member))

-- ---- entries

-- an entry with those behind it, with a space before it
abbrev spaced : List Entry → List ℕ
spaced [] = []
spaced (e ∷ es) = 32 ∷ (entry_text e ++ entries_after es)

record Entries (piece : List ℕ) (pieces : List (List ℕ)) (es : List Entry) : Type 0 where
  first : Entry
  later : List Entry
  is_first : entry_read piece ≡ Some first
  are_later : entries_read pieces ≡ Some later
  are : first ∷ later ≡ es

entries_parts : (piece : List ℕ) (pieces : List (List ℕ)) (es : List Entry) → entries_read (piece ∷ pieces) ≡ Some es → Entries piece pieces es
entries_parts piece pieces es h = go (entry_read piece) refl (entries_read pieces) refl h
  where
    go : (o : Option Entry) → entry_read piece ≡ o → (os : Option (List Entry)) → entries_read pieces ≡ os → option_and_then (λ e. option_map (λ es. e ∷ es) os) o ≡ Some es → Entries piece pieces es
    go None f os g h = absurd cc
    go (Some e) f None g h = absurd cc
    go (Some e) f (Some later) g h = record { first = e; later = later; is_first = f; are_later = g; are = some_same (e ∷ later) es h }

entries_found : (piece : List ℕ) (pieces : List (List ℕ)) (es : List Entry) → entries_read (piece ∷ pieces) ≡ Some es → (join_with_byte 44 (piece ∷ pieces) ≡ spaced es) × AllByRecursion IsEntry es
entries_found piece [] es h =
    let parts = entries_parts piece [] es h in
    let found = entry_found piece parts.first parts.is_first in
    let none : [] ≡ parts.later = some_same [] parts.later parts.are_later in
    let one : parts.first ∷ [] ≡ es = ap (λ (l : List Entry). parts.first ∷ l) none ∙ parts.are in
    subst (λ (l : List Entry). (piece ≡ spaced l) × AllByRecursion IsEntry l) one
    (found.0 ∙ ap (λ (z : List ℕ). 32 ∷ z) (sym (append-nil (entry_text parts.first))), (found.1, tt))
entries_found piece (next ∷ pieces) es h =
    let parts = entries_parts piece (next ∷ pieces) es h in
    let found = entry_found piece parts.first parts.is_first in
    let behind = entries_parts next pieces parts.later parts.are_later in
    let ih = entries_found next pieces parts.later parts.are_later in
    let comma : 44 ∷ spaced parts.later ≡ entries_after parts.later = ap (λ (l : List Entry). 44 ∷ spaced l) (sym behind.are) ∙ ap entries_after behind.are in
    subst (λ (l : List Entry). (piece ++ 44 ∷ join_with_byte 44 (next ∷ pieces) ≡ spaced l) × AllByRecursion IsEntry l) parts.are
    (ap (λ (z : List ℕ). z ++ 44 ∷ join_with_byte 44 (next ∷ pieces)) found.0 ∙ ap (λ (z : List ℕ). (32 ∷ entry_text parts.first) ++ 44 ∷ z) ih.0 ∙ ap (λ (z : List ℕ). 32 ∷ (entry_text parts.first ++ z)) comma, (found.1, ih.1))

entries_again : (e : Entry) (es : List Entry) → AllByRecursion IsEntry (e ∷ es) → entries_read (pieces (spaced (e ∷ es))) ≡ Some (e ∷ es)
entries_again e [] h =
    ap (λ (z : List ℕ). entries_read (pieces (32 ∷ z))) (append-nil (entry_text e)) ∙ ap entries_read (piece_whole (32 ∷ entry_text e) (entry_no_comma e h.0))
    ∙ ap (λ (o : Option Entry). option_and_then (λ e. option_map (λ es. e ∷ es) (Some [])) o) (entry_again e h.0)
entries_again e (next ∷ es) h =
    ap entries_read (piece_first (32 ∷ entry_text e) (spaced (next ∷ es)) (entry_no_comma e h.0))
    ∙ ap (λ (o : Option Entry). option_and_then (λ e. option_map (λ es. e ∷ es) (entries_read (pieces (spaced (next ∷ es))))) o) (entry_again e h.0)
    ∙ ap (λ (o : Option (List Entry)). option_map (λ es. e ∷ es) o) (entries_again next es h.1)

-- ---- a set

pub set_found : (text : List ℕ) (es : List Entry) → set_read text ≡ Some es → (text ≡ 32 ∷ set_text es) × AllByRecursion IsEntry es
set_found text es h = go (bytes_eq text (codes " -")) refl h
  where
    filled : (l : List Entry) → Entries (cut 44 text).front (pieces_in (cut 44 text).behind) l → spaced l ≡ 32 ∷ set_text l
    filled [] parts = (let e = parts.are in absurd cc)
    filled (e ∷ l) parts = refl

    go : (t : Bool) → bytes_eq text (codes " -") ≡ t → cond t (Some []) (entries_read (pieces text)) ≡ Some es → (text ≡ 32 ∷ set_text es) × AllByRecursion IsEntry es
    go true f h = subst (λ (l : List Entry). (text ≡ 32 ∷ set_text l) × AllByRecursion IsEntry l) (some_same [] es h) ((bytes_eq-Decides text (codes " -")).0 f, tt)
    go false f h =
        let read : entries_read ((cut 44 text).front ∷ pieces_in (cut 44 text).behind) ≡ Some es = ap entries_read (sym (pieces_cut text)) ∙ h in
        let found = entries_found (cut 44 text).front (pieces_in (cut 44 text).behind) es read in
        let parts = entries_parts (cut 44 text).front (pieces_in (cut 44 text).behind) es read in
        (sym (pieces_join text) ∙ ap (join_with_byte 44) (pieces_cut text) ∙ found.0 ∙ filled es parts, found.1)

no_dash : (e : Entry) (rest : List ℕ) → IsEntry e → 32 ∷ (entry_text e ++ rest) ≡ codes " -" → ⊥
no_dash e rest h f =
    let text : e.grant ++ 46 ∷ (member_text e.member ++ rest) ≡ codes "-" = sym (append_assoc e.grant (46 ∷ member_text e.member) rest) ∙ tail f in
    let cut_it = cut_written 46 e.grant (member_text e.member ++ rest) (no_dot e.grant h.grant) in
    let other : cut 46 (codes "-") ≡ record { front = codes "-"; behind = None } = refl in
    let both : record { front = e.grant; behind = Some (member_text e.member ++ rest) } ≡ record { front = codes "-"; behind = None } = sym cut_it ∙ ap (cut 46) text ∙ other in
    differ (ap (λ (c : Cut). c.behind) both)
  where
    tail : {a b : ℕ} {u v : List ℕ} → a ∷ u ≡ b ∷ v → u ≡ v
    tail e = cc

    differ : {x : List ℕ} → Some x ≡ None → ⊥
    differ e = absurd cc

pub set_again : (es : List Entry) → AllByRecursion IsEntry es → set_read (32 ∷ set_text es) ≡ Some es
set_again [] h = refl
set_again (e ∷ es) h = go (bytes_eq (spaced (e ∷ es)) (codes " -")) refl
  where
    go : (t : Bool) → bytes_eq (spaced (e ∷ es)) (codes " -") ≡ t → cond t (Some []) (entries_read (pieces (spaced (e ∷ es)))) ≡ Some (e ∷ es)
    go true f = absurd (no_dash e (entries_after es) h.0 ((bytes_eq-Decides (spaced (e ∷ es)) (codes " -")).0 f))
    go false f = entries_again e es h
