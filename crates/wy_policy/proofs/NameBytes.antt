-- A name has no byte that stands between names.
use Rattle.std.proofs.Common.{◌≡◌, ℕ, ◌+◌, ◌/◌, ◌<◌, ◌≤◌, ◌==◌, nat_lt, Bool, true, false, cond, ◌&&◌, ◌||◌, not, List, [], ◌∷◌, ◌++◌, refl, sym, ap, subst, ◌∙◌, arith, chars}
use Rattle.std.specs.List.{AllByRecursion}
use Rattle.std.specs.Str.{is_utf8}
use lib.Utf8.{encode, encodes, next}
use Rattle.std.proofs.lemmas.Str.{encodes-chars, IsUtf8-from_is_utf8}
use Rattle.unicode_ident.specs.Ident.{is_xid_start, is_xid_continue}
use Rattle.unicode_ident.proofs.IdentLemmas.{is_xid_continue-ascii, is_xid_start-is_xid_continue}
use Rattle.wy_layout.specs.Characters.{all_continue, is_name_of}
use Rattle.wy_layout.specs.Words.{among, reserved}
use Rattle.wy_layout.specs.Identifiers.{is_identifier}

-- the byte, or the character, is nowhere
abbrev pub Lacks : ℕ → List ℕ → Type 0
Lacks s bs = AllByRecursion (λ b. b ≡ s → ⊥) bs

pub and_left : (a b : Bool) → (a && b) ≡ true → a ≡ true
and_left true b e = refl
and_left false b e = absurd cc

pub and_right : (a b : Bool) → (a && b) ≡ true → b ≡ true
and_right true b e = e
and_right false b e = absurd cc

pub lacks_append : (s : ℕ) (u v : List ℕ) → Lacks s u → Lacks s v → Lacks s (u ++ v)
lacks_append s [] v h k = k
lacks_append s (b ∷ u) v h k = (h.0, lacks_append s u v h.1 k)

encode_lacks : (s c : ℕ) → s < 128 → (c ≡ s → ⊥) → Lacks s (encode c)
unfolding encode
encode_lacks s c small other = go (nat_lt c 128) (nat_lt c 2048) (nat_lt c 65536)
  where
    high : (b : ℕ) → 128 ≤ b → b ≡ s → ⊥
    high b h e = absurd (omega arith)

    go : (x y z : Bool) → Lacks s (cond x (c ∷ []) (cond y ((192 + c / 64) ∷ next c ∷ []) (cond z ((224 + c / 4096) ∷ next (c / 64) ∷ next c ∷ []) ((240 + c / 262144) ∷ next (c / 4096) ∷ next (c / 64) ∷ next c ∷ []))))
    go true y z = (other, tt)
    go false true z = (high (192 + c / 64) (omega arith), (high (next c) (omega arith), tt))
    go false false true = (high (224 + c / 4096) (omega arith), (high (next (c / 64)) (omega arith), (high (next c) (omega arith), tt)))
    go false false false = (high (240 + c / 262144) (omega arith), (high (next (c / 4096)) (omega arith), (high (next (c / 64)) (omega arith), (high (next c) (omega arith), tt))))

encodes_lacks : (s : ℕ) (cs : List ℕ) → s < 128 → Lacks s cs → Lacks s (encodes cs)
encodes_lacks s [] small h = tt
encodes_lacks s (c ∷ cs) small h = lacks_append s (encode c) (encodes cs) (encode_lacks s c small h.0) (encodes_lacks s cs small h.1)

goes_on : (s c : ℕ) → is_xid_continue s ≡ false → is_xid_continue c ≡ true → c ≡ s → ⊥
goes_on s c stops goes e = (let t : true ≡ false = sym goes ∙ ap is_xid_continue e ∙ stops in absurd cc)

all_lack : (s : ℕ) (cs : List ℕ) → is_xid_continue s ≡ false → all_continue cs ≡ true → Lacks s cs
all_lack s [] stops h = tt
all_lack s (c ∷ cs) stops h = (goes_on s c stops (and_left (is_xid_continue c) (all_continue cs) h), all_lack s cs stops (and_right (is_xid_continue c) (all_continue cs) h))

begins : (s c : ℕ) → is_xid_continue s ≡ false → (s == 95) ≡ false → (is_xid_start c || (c == 95)) ≡ true → c ≡ s → ⊥
begins s c stops under h e = go (is_xid_start c) refl h
  where
    go : (b : Bool) → is_xid_start c ≡ b → (b || (c == 95)) ≡ true → ⊥
    go true f h = goes_on s c stops (is_xid_start-is_xid_continue c f) e
    go false f h = (let t : true ≡ false = sym h ∙ ap (λ (n : ℕ). n == 95) e ∙ under in absurd cc)

characters_lack : (s : ℕ) (cs : List ℕ) → is_xid_continue s ≡ false → (s == 95) ≡ false → is_name_of cs ≡ true → Lacks s cs
characters_lack s [] stops under h = tt
characters_lack s (c ∷ cs) stops under h =
    (begins s c stops under (and_left (is_xid_start c || (c == 95)) (all_continue cs) h), all_lack s cs stops (and_right (is_xid_start c || (c == 95)) (all_continue cs) h))

pub name_lacks : (s : ℕ) (w : List ℕ) → s < 128 → is_xid_continue s ≡ false → (s == 95) ≡ false → is_identifier w ≡ true → Lacks s w
name_lacks s w small stops under h =
    let text = IsUtf8-from_is_utf8 w (and_left (is_utf8 w) (is_name_of (chars w) && not (among w reserved)) h) in
    let named = and_left (is_name_of (chars w)) (not (among w reserved)) (and_right (is_utf8 w) (is_name_of (chars w) && not (among w reserved)) h) in
    subst (Lacks s) (encodes-chars w text) (encodes_lacks s (chars w) small (characters_lack s (chars w) stops under named))

pub no_star : (w : List ℕ) → is_identifier w ≡ true → Lacks 42 w
no_star w h = name_lacks 42 w (omega arith) (is_xid_continue-ascii 42 (omega arith)) refl h

pub no_comma : (w : List ℕ) → is_identifier w ≡ true → Lacks 44 w
no_comma w h = name_lacks 44 w (omega arith) (is_xid_continue-ascii 44 (omega arith)) refl h

pub no_dot : (w : List ℕ) → is_identifier w ≡ true → Lacks 46 w
no_dot w h = name_lacks 46 w (omega arith) (is_xid_continue-ascii 46 (omega arith)) refl h
