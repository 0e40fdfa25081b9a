-- Where the bodies of an owner stand, as bodies are added at the end of a list.
use Rattle.std.proofs.Common.{◌≡◌, ℕ, ◌+◌, ◌-◌, ◌≤◌, List, [], ◌∷◌, ◌++◌, map, length, take, drop, Option, None, Some, Bool, true, false, rules, refl, sym, ap, ◌∙◌, subst, arith, append_assoc, append-nil, length-append, nat_eq, cond, ap₂}
use Rattle.std.proofs.Math.Seq.{take-append_seam, drop-append_seam}
use Rattle.std.specs.Prelude.{if◌then◌else◌}
use Rattle.std.proofs.lemmas.Bool.Decides.{nat_tests}
use Rattle.wy_types.specs.declared.resolved.Body.{Body}
use Rattle.wy_types.specs.Program.{body_of}
use Rattle.wy_types.specs.Types.{signature, methods_of_owner}
use Rattle.wy_types.specs.Bodies.{owned_by, StandFrom, StandIn}

pub owned_append : (o : ℕ) (xs ys : List Body) → owned_by o (xs ++ ys) ≡ owned_by o xs ++ owned_by o ys
owned_append o [] ys = refl
owned_append o (b ∷ xs) ys =
    let P : _ → Type 0 = λ t. (if t then b ∷ owned_by o (xs ++ ys) else owned_by o (xs ++ ys)) ≡ (if t then b ∷ owned_by o xs else owned_by o xs) ++ owned_by o ys in
    elim (nat_eq b.owner o) as P [ true ↦ ap (λ l. b ∷ l) (owned_append o xs ys) | false ↦ owned_append o xs ys ]

pub methods_owned : (o : ℕ) (xs : List Body) → methods_of_owner o (map body_of xs) ≡ map (λ (b : Body). signature (body_of b).signature) (owned_by o xs)
methods_owned o [] = refl
methods_owned o (b ∷ xs) =
    let P : _ → Type 0 = λ t. (if t then signature b.signature ∷ methods_of_owner o (map body_of xs) else methods_of_owner o (map body_of xs)) ≡ map (λ (x : Body). signature (body_of x).signature) (if t then b ∷ owned_by o xs else owned_by o xs) in
    elim (nat_eq b.owner o) as P [ true ↦ ap (λ l. signature b.signature ∷ l) (methods_owned o xs) | false ↦ methods_owned o xs ]

-- lists with the same bodies of an owner have the same methods of it
pub same_methods : (o : ℕ) (xs ys : List Body) → owned_by o xs ≡ owned_by o ys → methods_of_owner o (map body_of xs) ≡ methods_of_owner o (map body_of ys)
same_methods o xs ys e = methods_owned o xs ∙ ap (map (λ (b : Body). signature (body_of b).signature)) e ∙ sym (methods_owned o ys)

other : (m o : ℕ) → (m ≡ o → ⊥) → nat_eq m o ≡ false
other m o n = grind (arith, nat_tests)

-- a body more, of this owner or of another
module _ (bs : List Body) (b : Body) (o : ℕ) where
  pub goes_on : (f e : ℕ) → StandFrom bs o f e → StandFrom (bs ++ b ∷ []) o f (length bs + 1)
  goes_on f e s = record {
    before = s.before;
    among = s.among ++ (s.behind ++ b ∷ []);
    behind = [];
    whole =
        ap (λ l. l ++ b ∷ []) s.whole ∙ append_assoc s.before (s.among ++ s.behind) (b ∷ []) ∙
        ap (λ l. s.before ++ l) (append_assoc s.among s.behind (b ∷ []) ∙ sym (append-nil (s.among ++ (s.behind ++ b ∷ []))));
    starts = s.starts;
    ends =
        let all = ap length s.whole ∙ length-append s.before (s.among ++ s.behind) ∙ ap (λ n. length s.before + n) (length-append s.among s.behind) in
        let more = length-append s.among (s.behind ++ b ∷ []) ∙ ap (λ n. length s.among + n) (length-append s.behind (b ∷ [])) in
        omega (arith, all, more);
    none_before = s.none_before;
    none_behind = refl;
  }

  pub begins : owned_by o bs ≡ [] → StandFrom (bs ++ b ∷ []) o (length bs) (length bs + 1)
  begins none = record {
    before = bs;
    among = b ∷ [];
    behind = [];
    whole = refl;
    starts = refl;
    ends = refl;
    none_before = none;
    none_behind = refl;
  }

  not_its : (b.owner ≡ o → ⊥) → (l : List Body) → owned_by o l ≡ [] → owned_by o (l ++ b ∷ []) ≡ []
  not_its n l none =
      owned_append o l (b ∷ []) ∙ ap (λ r. r ++ owned_by o (b ∷ [])) none ∙ ap (λ t. if t then b ∷ [] else []) (other b.owner o n)

  pub stays : (v : Option (ℕ × ℕ)) → (b.owner ≡ o → ⊥) → StandIn bs o v → StandIn (bs ++ b ∷ []) o v
  stays None n none = not_its n bs none
  stays (Some (f, e)) n s = record {
    before = s.before;
    among = s.among;
    behind = s.behind ++ b ∷ [];
    whole =
        ap (λ l. l ++ b ∷ []) s.whole ∙ append_assoc s.before (s.among ++ s.behind) (b ∷ []) ∙
        ap (λ l. s.before ++ l) (append_assoc s.among s.behind (b ∷ []));
    starts = s.starts;
    ends = s.ends;
    none_before = s.none_before;
    none_behind = not_its n s.behind s.none_behind;
  }

-- where an owner's first body stands, when one more is met at a place
abbrev pub IsFirst : Option (ℕ × ℕ) → ℕ → ℕ → Type 0
IsFirst None i first = first ≡ i
IsFirst (Some (f, e)) i first = first ≡ f

of_owner : (m o : ℕ) → nat_eq m o ≡ true → m ≡ o
of_owner m o e = search rules

of_another : (m o : ℕ) → nat_eq m o ≡ false → m ≡ o → ⊥
of_another m o e s = grind (arith, nat_tests)

-- a turn of the walk
module _ (bs : List Body) (b : Body) (i first : ℕ) (long : length bs ≡ i) where
  met : (v : Option (ℕ × ℕ)) → StandIn bs b.owner v → IsFirst v i first → StandFrom (bs ++ b ∷ []) b.owner first (i + 1)
  met None none e =
      let P : ℕ → ℕ → Type 0 = λ f l. StandFrom (bs ++ b ∷ []) b.owner f (l + 1) in
      subst (λ l. P l i) (long ∙ sym e) (subst (λ l. P (length bs) l) long (begins bs b b.owner none))
  met (Some (f, e)) s same =
      let P : ℕ → ℕ → Type 0 = λ f l. StandFrom (bs ++ b ∷ []) b.owner f (l + 1) in
      subst (λ l. P l i) (sym same) (subst (λ l. P f l) long (goes_on bs b b.owner f e s))

  pub turned : (v : ℕ → Option (ℕ × ℕ)) → ((o : ℕ) → StandIn bs o (v o)) → IsFirst (v b.owner) i first → (o : ℕ) → StandIn (bs ++ b ∷ []) o (cond (nat_eq b.owner o) (Some (first, i + 1)) (v o))
  turned v h e o =
      let P : Bool → Type 0 = λ t. nat_eq b.owner o ≡ t → StandIn (bs ++ b ∷ []) o (cond t (Some (first, i + 1)) (v o)) in
      elim (nat_eq b.owner o) as P [
        | true ↦ λ same. subst (λ x. StandFrom (bs ++ b ∷ []) x first (i + 1)) (of_owner b.owner o same) (met (v b.owner) (h b.owner) e)
        | false ↦ λ differs. stays bs b o (v o) (of_another b.owner o differs) (h o)
      ] refl

-- what stands between the places
module _ (bs : List Body) (o f e : ℕ) (s : StandFrom bs o f e) where
  pub in_bounds : (f ≤ e) × (e ≤ length bs)
  in_bounds =
      let all = ap length s.whole ∙ length-append s.before (s.among ++ s.behind) ∙ ap (λ n. length s.before + n) (length-append s.among s.behind) in
      (omega (arith, s.starts, s.ends), omega (arith, s.ends, all))

  pub owned_among : owned_by o s.among ≡ owned_by o bs
  owned_among =
      sym (
      ap (owned_by o) s.whole ∙ owned_append o s.before (s.among ++ s.behind) ∙ ap (λ l. l ++ owned_by o (s.among ++ s.behind)) s.none_before ∙
      owned_append o s.among s.behind ∙ ap (λ l. owned_by o s.among ++ l) s.none_behind ∙ append-nil (owned_by o s.among)
      )

  pub part_is : take (e - f) (drop f bs) ≡ s.among
  part_is =
      let n : e - f ≡ length s.among = omega (arith, s.starts, s.ends) in
      ap₂ (λ k l. take k (drop f l)) n s.whole ∙
      ap (λ k. take (length s.among) (drop k (s.before ++ (s.among ++ s.behind)))) (sym s.starts) ∙
      ap (take (length s.among)) (drop-append_seam s.before (s.among ++ s.behind)) ∙
      take-append_seam s.among s.behind
