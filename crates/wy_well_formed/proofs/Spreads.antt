-- Numbers between two counts, each once: those of a value, and those of the bodies in it.
use Rattle.std.proofs.Common.{◌≡◌, ℕ, ◌+◌, ◌<◌, ◌≤◌, List, [], ◌∷◌, ◌++◌, ◌⊎◌, inl, inr, length, refl, sym, ap, ◌∙◌, subst, arith, append_assoc}
use Rattle.std.proofs.lemmas.Bool.{cases_lt}
use Rattle.std.proofs.lemmas.List.{length-append}
use Rattle.wy_text.specs.Members.{In, Apart}
use Rattle.wy_text.proofs.Lists.{In-cases, In-left, In-right}
use Rattle.wy_types.specs.Program.{Body}
use Rattle.wy_types.specs.Core.{AreNumbered}
use Rattle.wy_types.specs.Vals.{block_vals, bodies_vals}

-- lists that share nothing
pub apart_append : {X : Type 0} (xs ys : List X) → Apart xs → Apart ys → ((x : X) → In x xs → In x ys → ⊥) → Apart (xs ++ ys)
apart_append [] ys h g n = g
apart_append (x ∷ xs) ys h g n = (
  λ i. elim (In-cases x xs ys i) [ inl j ↦ h.0 j | inr j ↦ n x (inl refl) j ],
  apart_append xs ys h.1 g (λ y i j. n y (inr i) j),
)

-- numbers from one on and below another
abbrev Between : ℕ → ℕ → List ℕ → Type 0
Between low high ks = (k : ℕ) → In k ks → (low ≤ k) × (k < high)

pub record Spread (low high : ℕ) (values bodies : List ℕ) : Type 0 where
  pub ordered : low ≤ high
  pub in_values : Between low high values
  pub in_bodies : Between low high bodies
  pub apart_values : Apart values
  pub apart_bodies : Apart bodies
  pub distinct : (k : ℕ) → In k values → In k bodies → ⊥
  pub filled : (k : ℕ) → low ≤ k → k < high → In k values ⊎ In k bodies
  pub count : low + (length values + length bodies) ≡ high

pub spread_as : (low high : ℕ) (vs vs' bs bs' : List ℕ) → vs ≡ vs' → bs ≡ bs' → Spread low high vs bs → Spread low high vs' bs'
spread_as low high vs vs' bs bs' e f h = subst (λ l. Spread low high vs' l) f (subst (λ l. Spread low high l bs) e h)

between_append : (low high : ℕ) (ks js : List ℕ) → Between low high ks → Between low high js → Between low high (ks ++ js)
between_append low high ks js h g k i = elim (In-cases k ks js i) [ inl j ↦ h k j | inr j ↦ g k j ]

between_wider : (low high low' high' : ℕ) (ks : List ℕ) → low' ≤ low → high ≤ high' → Between low high ks → Between low' high' ks
between_wider low high low' high' ks l m h k i = (let r = h k i in (omega (arith, r.0, r.1), omega (arith, r.0, r.1)))

pub spread_none : (low : ℕ) → Spread low low [] []
spread_none low = record {
  ordered = omega arith;
  in_values = λ k i. absurd i;
  in_bodies = λ k i. absurd i;
  apart_values = tt;
  apart_bodies = tt;
  distinct = λ k i j. i;
  filled = λ k l u. absurd (omega (arith, l, u));
  count = omega arith;
}

module _ (low mid high : ℕ) (vs bs vs' bs' : List ℕ) (h : Spread low mid vs bs) (g : Spread mid high vs' bs') where
  -- what is below the middle is not above it
  parted : (ks js : List ℕ) → Between low mid ks → Between mid high js → (k : ℕ) → In k ks → In k js → ⊥
  parted ks js l m k i j = (let a = l k i in let b = m k j in omega (arith, a.1, b.0))

  -- one tree after another
  pub spread_both : Spread low high (vs ++ vs') (bs ++ bs')
  spread_both =
      let lower = h.ordered in
      let upper = g.ordered in
      record {
        ordered = omega (arith, lower, upper);
        in_values = between_append low high vs vs' (between_wider low mid low high vs (omega arith) upper h.in_values) (between_wider mid high low high vs' lower (omega arith) g.in_values);
        in_bodies = between_append low high bs bs' (between_wider low mid low high bs (omega arith) upper h.in_bodies) (between_wider mid high low high bs' lower (omega arith) g.in_bodies);
        apart_values = apart_append vs vs' h.apart_values g.apart_values (parted vs vs' h.in_values g.in_values);
        apart_bodies = apart_append bs bs' h.apart_bodies g.apart_bodies (parted bs bs' h.in_bodies g.in_bodies);
        distinct = λ k i j.
            elim (In-cases k vs vs' i) [
              | inl a ↦ elim (In-cases k bs bs' j) [ inl b ↦ h.distinct k a b | inr b ↦ parted vs bs' h.in_values g.in_bodies k a b ]
              | inr a ↦ elim (In-cases k bs bs' j) [ inl b ↦ parted bs vs' h.in_bodies g.in_values k b a | inr b ↦ g.distinct k a b ]
            ];
        filled = λ k l u.
            elim (cases_lt k mid) [
              | inl below ↦ elim (h.filled k l below) [ inl i ↦ inl (In-left k vs vs' i) | inr i ↦ inr (In-left k bs bs' i) ]
              | inr above ↦ elim (g.filled k above u) [ inl i ↦ inl (In-right k vs vs' i) | inr i ↦ inr (In-right k bs bs' i) ]
            ];
        count = (let a = h.count in let b = g.count in let c = length-append vs vs' in let d = length-append bs bs' in omega (arith, a, b, c, d));
      }

-- a number before those behind it
pub spread_first : (low high : ℕ) (vs bs : List ℕ) → Spread (low + 1) high vs bs → Spread low high (low ∷ vs) bs
spread_first low high vs bs h =
    let upper = h.ordered in
    record {
      ordered = omega (arith, upper);
      in_values = λ k i. elim i [ inl e ↦ (omega (arith, e), omega (arith, e, upper)) | inr j ↦ (let r = h.in_values k j in (omega (arith, r.0), r.1)) ];
      in_bodies = λ k i. (let r = h.in_bodies k i in (omega (arith, r.0), r.1));
      apart_values = (λ i. (let r = h.in_values low i in omega (arith, r.0)), h.apart_values);
      apart_bodies = h.apart_bodies;
      distinct = λ k i j. elim i [ inl e ↦ (let r = h.in_bodies k j in omega (arith, e, r.0)) | inr a ↦ h.distinct k a j ];
      filled = λ k l u.
          elim (cases_lt low k) [
            | inl below ↦ elim (h.filled k (omega (arith, below)) u) [ inl i ↦ inl (inr i) | inr i ↦ inr i ]
            | inr above ↦ inl (inl (omega (arith, l, above)))
          ];
      count = (let a = h.count in omega (arith, a));
    }

-- a method with the bodies in it
pub spread_method : (low high : ℕ) (vs bs : List ℕ) → Spread low high vs bs → Spread low high [] (vs ++ bs)
spread_method low high vs bs h = record {
  ordered = h.ordered;
  in_values = λ k i. absurd i;
  in_bodies = between_append low high vs bs h.in_values h.in_bodies;
  apart_values = tt;
  apart_bodies = apart_append vs bs h.apart_values h.apart_bodies h.distinct;
  distinct = λ k i j. i;
  filled = λ k l u. inr (elim (h.filled k l u) [ inl i ↦ In-left k vs bs i | inr i ↦ In-right k vs bs i ]);
  count = (let a = h.count in let b = length-append vs bs in omega (arith, a, b));
}

pub spread_apart : (low high : ℕ) (vs bs : List ℕ) → Spread low high vs bs → Apart (vs ++ bs)
spread_apart low high vs bs h = apart_append vs bs h.apart_values h.apart_bodies h.distinct

-- from 0 on
pub spread_numbered : (high : ℕ) (vs bs : List ℕ) → Spread 0 high vs bs → AreNumbered (vs ++ bs)
spread_numbered high vs bs h n =
    let all = h.count in
    let split = length-append vs bs in (
      λ i. elim (In-cases n vs bs i) [
        | inl j ↦ (let r = h.in_values n j in omega (arith, r.1, all, split))
        | inr j ↦ (let r = h.in_bodies n j in omega (arith, r.1, all, split))
      ],
      λ l. elim (h.filled n (omega arith) (omega (arith, l, all, split))) [ inl i ↦ In-left n vs bs i | inr i ↦ In-right n vs bs i ],
    )

pub bodies_vals_append : (xs ys : List Body) → bodies_vals (xs ++ ys) ≡ bodies_vals xs ++ bodies_vals ys
bodies_vals_append [] ys = refl
bodies_vals_append (x ∷ xs) ys = ap (λ l. block_vals x.block ++ l) (bodies_vals_append xs ys) ∙ sym (append_assoc (block_vals x.block) (bodies_vals xs) (bodies_vals ys))
