-- A search along lines and uses, from a module on.
use Rattle.std.proofs.Common.{◌≡◌, ℕ, zero, suc, ◌+◌, ◌<◌, ◌≤◌, List, [], ◌∷◌, ◌++◌, length, take, get_or, refl, sym, ap, ◌∙◌, subst, inl, inr, ◌⊎◌, arith, append_assoc, length-append}
use Rattle.std.specs.Prelude.{◌↔◌}
use Rattle.std.proofs.lemmas.List.{take-append-le, take_all, append-nil}
use Rattle.std.proofs.lemmas.Bool.{cases_lt}
use Rattle.wy_text.specs.Members.{In, Apart}
use Rattle.wy_text.proofs.Lists.{In-left, In-right, In-cases, In-take-more, In-read, length-apart, Apart-push}
use Rattle.wy_heads.specs.Leading.{Adds, next_from, Goes, Reached, LeadsInside}

-- nothing is added
pub adds_none : (old : List ℕ) → Adds old [] old
adds_none old = record { more = []; longer = sym (append-nil old); all = λ k i. absurd i; only = λ k i. absurd i; apart = λ d. d }

pub adds_there : (old : List ℕ) (k : ℕ) → In k old → Adds old (k ∷ []) old
adds_there old k h = record {
  more = [];
  longer = sym (append-nil old);
  all = λ j i. elim i [ inl e ↦ (let P : ℕ → Type 0 = λ v. In v old in subst P e h) | inr z ↦ absurd z ];
  only = λ j i. absurd i;
  apart = λ d. d;
}

pub adds_new : (old new : List ℕ) (k : ℕ) → new ≡ old ++ k ∷ [] → (In k old → ⊥) → Adds old (k ∷ []) new
adds_new old new k e h =
    let P : List ℕ → Type 0 = λ l. Adds old (k ∷ []) l in
    subst P (sym e) (record {
      more = k ∷ [];
      longer = refl;
      all = λ j i. In-right j old (k ∷ []) i;
      only = λ j i. i;
      apart = λ d. Apart-push k old d h;
    })

pub adds_then : (old mid new xs ys : List ℕ) → Adds old xs mid → Adds mid ys new → Adds old (xs ++ ys) new
adds_then old mid new xs ys a b = record {
  more = a.more ++ b.more;
  longer = b.longer ∙ ap (λ l. l ++ b.more) a.longer ∙ append_assoc old a.more b.more;
  all = λ k i. elim (In-cases k xs ys i) [
    | inl j ↦ (let P : List ℕ → Type 0 = λ l. In k l in subst P (sym b.longer) (In-left k mid b.more (a.all k j)))
    | inr j ↦ b.all k j
  ];
  only = λ k i. elim (In-cases k a.more b.more i) [ inl j ↦ In-left k xs ys (a.only k j) | inr j ↦ In-right k xs ys (b.only k j) ];
  apart = λ d. b.apart (a.apart d);
}

------------------------------------------------------------
-- The state of a search

pub record IsSearch (edges : List (List ℕ)) (start : ℕ) (seen : List ℕ) (next : ℕ) : Type 0 where
  pub begins : In start seen
  pub sound : (k : ℕ) → In k seen → Reached edges start k
  pub closed : (k j : ℕ) → In k (take next seen) → In j (next_from edges k) → In j seen
  pub apart : Apart seen
  pub within : (k : ℕ) → In k seen → k < length edges
  pub low : next ≤ length seen

goes_then : (edges : List (List ℕ)) (s : ℕ) (path : List ℕ) (x k : ℕ) → Goes edges s path x → In k (next_from edges x) → Goes edges s (path ++ k ∷ []) k
goes_then edges s [] x k g i = (let P : ℕ → Type 0 = λ v. In k (next_from edges v) in (subst P (sym g) i, refl))
goes_then edges s (p ∷ path) x k g i = (g.0, goes_then edges p path x k g.1 i)

-- only the first is seen
pub search_start : (edges : List (List ℕ)) (start : ℕ) (seen : List ℕ) → start < length edges → Adds [] (start ∷ []) seen → IsSearch edges start seen 0
search_start edges start seen lt a =
    let is : (k : ℕ) → In k seen → start ≡ k = λ k i. (
    let P : List ℕ → Type 0 = λ l. In k l in
    elim (a.only k (subst P a.longer i)) [ inl e ↦ e | inr z ↦ absurd z ]
    ) in
    record {
      begins = a.all start (inl refl);
      sound = λ k i. ([], is k i);
      closed = λ k j i h. absurd i;
      apart = a.apart tt;
      within = λ k i. (let P : ℕ → Type 0 = λ v. v < length edges in subst P (is k i) lt);
      low = omega arith;
    }

module _ (edges : List (List ℕ)) (start : ℕ) (inside : LeadsInside edges) (seen new : List ℕ) (next x : ℕ)
    (lt : next < length seen) (at : x ≡ get_or seen next 0) (s : IsSearch edges start seen next) (a : Adds seen (next_from edges x) new) where
  grown : (k : ℕ) → In k seen → In k new
  grown k i = let P : List ℕ → Type 0 = λ l. In k l in subst P (sym a.longer) (In-left k seen a.more i)

  here : In x seen
  here = In-read seen next 0 x lt at

  either : (k : ℕ) → In k new → In k seen ⊎ In k (next_from edges x)
  either k i =
      let P : List ℕ → Type 0 = λ l. In k l in
      elim (In-cases k seen a.more (subst P a.longer i)) [ inl j ↦ inl j | inr j ↦ inr (a.only k j) ]

  step : (k : ℕ) → In k (next_from edges x) → Reached edges start k
  step k i = let r = s.sound x here in (r.0 ++ k ∷ [], goes_then edges start r.0 x k r.1 i)

  front : take (next + 1) new ≡ take (next + 1) seen
  front = let le : next + 1 ≤ length seen = omega arith in ap (take (next + 1)) a.longer ∙ take-append-le (next + 1) seen a.more le

  pub search_more : IsSearch edges start new (next + 1)
  search_more = record {
    begins = grown start s.begins;
    sound = λ k i. elim (either k i) [ inl j ↦ s.sound k j | inr j ↦ step k j ];
    closed = λ k j i h.
        let P : List ℕ → Type 0 = λ l. In k l in
        elim (In-take-more k seen next 0 lt (subst P front i)) [
          | inl e ↦ grown j (s.closed k j e h)
          | inr e ↦ (let Q : ℕ → Type 0 = λ v. In j (next_from edges v) in a.all j (subst Q (sym (at ∙ e)) h))
        ];
    apart = a.apart s.apart;
    within = λ k i. elim (either k i) [ inl j ↦ s.within k j | inr j ↦ inside x k j ];
    low = (let more = ap length a.longer ∙ length-append seen a.more in omega (arith, more));
  }

-- numbers below another
below : ℕ → List ℕ
below zero = []
below (suc n) = n ∷ below n

length-below : (n : ℕ) → length (below n) ≡ n
unfolding below
length-below zero = refl
length-below (suc n) = ap (λ k. suc k) (length-below n)

In-below : (n k : ℕ) → k < n → In k (below n)
unfolding below
In-below zero k h = absurd (omega arith)
In-below (suc n) k h = elim (cases_lt k n) [ inl lt ↦ inr (In-below n k lt) | inr ge ↦ (let e : n ≡ k = omega arith in inl e) ]

-- no more are seen than there are
pub few_seen : (edges : List (List ℕ)) (start : ℕ) (seen : List ℕ) (next : ℕ) → IsSearch edges start seen next → length seen ≤ length edges
few_seen edges start seen next s =
    let h = length-apart seen (below (length edges)) s.apart (λ k i. In-below (length edges) k (s.within k i)) in
    let e = length-below (length edges) in
    omega (arith, h, e)

all_closed : (edges : List (List ℕ)) (seen : List ℕ) → ((k j : ℕ) → In k seen → In j (next_from edges k) → In j seen) → (k : ℕ) (path : List ℕ) (j : ℕ) → In k seen → Goes edges k path j → In j seen
all_closed edges seen closed k [] j i g = let P : ℕ → Type 0 = λ v. In v seen in subst P g i
all_closed edges seen closed k (p ∷ path) j i g = all_closed edges seen closed p path j (closed k p i g.0) g.1

pub search_end : (edges : List (List ℕ)) (start : ℕ) (seen : List ℕ) (next : ℕ) → length seen ≤ next → IsSearch edges start seen next → (k : ℕ) → In k seen ↔ Reached edges start k
search_end edges start seen next le s k =
    let all : take next seen ≡ seen = take_all next seen le in
    let closed = λ (i j : ℕ) (h : In i seen) (g : In j (next_from edges i)). (let P : List ℕ → Type 0 = λ l. In i l in s.closed i j (subst P (sym all) h) g) in
    (s.sound k, λ r. all_closed edges seen closed start r.0 k s.begins r.1)
