-- The instances of a start list have names that differ: a line's are its own name and, behind that and a full stop, those of the lines of its module;
-- a used module has one instance.
use Rattle.std.proofs.Common.{◌≡◌, ℕ, zero, suc, List, [], ◌∷◌, ◌++◌, ◌⊎◌, map, inl, inr, length, refl, sym, ap, ap₂, ◌∙◌, subst, Option, Some, None, append_assoc, append-nil}
use Rattle.std.proofs.lemmas.List.{append_cancel_left}
use Rattle.std.specs.Prelude.{codes, slice_get}
use Rattle.wy_text.specs.Members.{In, Apart}
use Rattle.wy_text.proofs.Lists.{In-slice_get, In-cases, In-map, In-unmap, Apart-push}
use Rattle.wy_types.specs.declared.linked.Instance.{Instance as Started}
use Rattle.wy_types.specs.declared.resolved.Origin.{Origin}
use Rattle.wy_types.specs.declared.resolved.Origin.TheVariants.{Parameter, Grant, Use, Instance, Import}
use Rattle.wy_types.specs.declared.resolved.OwnName.{OwnName}
use Rattle.wy_types.specs.Program.{Program, Scope}
use Rattle.wy_types.specs.Core.{IsCore}
use Rattle.wy_types.specs.Ground.{Visited, names_of, uses_among, handed, number_from, used, visit_name, visit_names, visit, program_number, start_list}
use Rattle.wy_rules.specs.OwnNames.{IsPlainName, LinesAreTyped, HavePlainNames}
use Rattle.wy_sound.proofs.Lists.{map_append}
use Rattle.wy_sound.proofs.LinkingPrograms.{no_space_both, no_space_dot}
use Rattle.wy_sound.proofs.LinkingAdded.{Adds, adds_none, adds_further, adds_one, adds_wider, IsFree, free_after, IsUseOf, use_of, IsPureFrom, UsesOf, uses_of, module_adds, use_free}

------------------------------------------------------------
-- Words with what stands behind them

-- behind a word stands nothing, or what begins with a full stop
abbrev pub IsRest : List ℕ → Type 0
IsRest [] = Unit {0}
IsRest (c ∷ cs) = c ≡ 46

first_same : (x y : ℕ) (xs ys : List ℕ) → x ∷ xs ≡ y ∷ ys → x ≡ y
first_same x y xs ys e = cc

rest_same : (x y : ℕ) (xs ys : List ℕ) → x ∷ xs ≡ y ∷ ys → xs ≡ ys
rest_same x y xs ys e = cc

-- words without a full stop are told before it
pub word_same : (a b r s : List ℕ) → (In 46 a → ⊥) → (In 46 b → ⊥) → IsRest r → IsRest s → a ++ r ≡ b ++ s → a ≡ b
word_same [] [] r s f g h k e = refl
word_same [] (y ∷ b) [] s f g h k e = absurd (cc)
word_same [] (y ∷ b) (c ∷ r) s f g h k e = absurd (g (inl (sym (first_same c y r (b ++ s) e) ∙ h)))
word_same (x ∷ a) [] r [] f g h k e = absurd (cc)
word_same (x ∷ a) [] r (d ∷ s) f g h k e = absurd (f (inl (first_same x d (a ++ r) s e ∙ k)))
word_same (x ∷ a) (y ∷ b) r s f g h k e =
    ap₂ (λ c cs. c ∷ cs) (first_same x y (a ++ r) (b ++ s) e)
    (word_same a b r s (λ i. f (inr i)) (λ i. g (inr i)) h k (rest_same x y (a ++ r) (b ++ s) e))

-- a name without a space that begins with the prefix and a word, behind which stands nothing or a full stop
pub record IsUnder (prefix word name : List ℕ) : Type 0 where
  pub rest : List ℕ
  pub ends : IsRest rest
  pub is : name ≡ prefix ++ (word ++ rest)
  pub spaceless : In 32 name → ⊥

told : (prefix a b name : List ℕ) → (In 46 a → ⊥) → (In 46 b → ⊥) → IsUnder prefix a name → IsUnder prefix b name → a ≡ b
told prefix a b name f g u w =
    word_same a b u.rest w.rest f g u.ends w.ends (append_cancel_left prefix (a ++ u.rest) (b ++ w.rest) (sym u.is ∙ w.is))

-- what is under a word of a line's module is under the line's own
outwards : (prefix word other name : List ℕ) → IsUnder (prefix ++ (word ++ codes ".")) other name → IsUnder prefix word name
outwards prefix word other name u = record {
  rest = codes "." ++ (other ++ u.rest);
  ends = refl;
  is = u.is ∙ append_assoc prefix (word ++ codes ".") (other ++ u.rest) ∙ ap (λ l. prefix ++ l) (append_assoc word (codes ".") (other ++ u.rest));
  spaceless = u.spaceless;
}

nothing_more : (word : List ℕ) (c : ℕ) (cs : List ℕ) → word ≡ word ++ c ∷ cs → ⊥
nothing_more word c cs e = let same : [] ≡ c ∷ cs = append_cancel_left word [] (c ∷ cs) (append-nil word ∙ e) in absurd (cc)

-- .. and not the line's own name
not_own : (prefix word other : List ℕ) → IsUnder (prefix ++ (word ++ codes ".")) other (prefix ++ word) → ⊥
unfolding outwards
not_own prefix word other u =
    let w = outwards prefix word other (prefix ++ word) u in
    nothing_more word 46 (other ++ u.rest) (append_cancel_left prefix word (word ++ 46 ∷ (other ++ u.rest)) w.is)

has_space : (word : List ℕ) → In 32 (codes "pure " ++ word)
has_space word = inr (inr (inr (inr (inl refl))))

------------------------------------------------------------
-- Names that differ

abbrev pub instance_names : List Started → List (List ℕ)
instance_names xs = map (λ (i : Started). i.name) xs

apart_more : (xs : List Started) (i : Started) → Apart (instance_names xs) → IsFree i.name xs → Apart (instance_names (xs ++ i ∷ []))
apart_more xs i h free =
    let not : In i.name (instance_names xs) → ⊥ = λ j. (let r = In-unmap (λ (x : Started). x.name) i.name xs j in free r.0 r.1 r.2) in
    subst Apart (sym (map_append (λ (x : Started). x.name) xs (i ∷ []))) (Apart-push i.name (instance_names xs) h not)

module _ (p : Program) (c : IsCore p) (t : LinesAreTyped p) where
  module _ (k : ℕ)
      (apart : (m : ℕ) (outer ns : List OwnName) (v : Visited) → UsesOf p c t m ns → Apart (instance_names v.started) →
      Apart (instance_names (visit p k outer [] ns v).started)) where
    used_apart : (m : ℕ) (n : OwnName) (j : ℕ) (v : Visited) → IsUseOf p m n j → (there : Option ℕ) →
        number_from 0 (codes "pure " ++ n.name) v.started ≡ there → Apart (instance_names v.started) →
        Apart (instance_names (used p (visit p k) v (codes "pure " ++ n.name) j there).started)
    used_apart m n j v u (Some y) e h = h
    used_apart m n j v u None e h =
        let names = names_of (slice_get p.scopes j) in
        let empty : Visited = record { started = v.started; actuals = []; sets = [] } in
        apart_more (visit p k names [] (uses_among names) empty).started _
        (apart j names (uses_among names) empty (uses_of p c t j u.module_there) h) (use_free p c t k m v n j u e)

    use_apart : (outer : List OwnName) (m : ℕ) (n : OwnName) (v : Visited) → (j : ℕ) × (n.origin ≡ Use j) × IsUseOf p m n j →
        Apart (instance_names v.started) → Apart (instance_names (visit_name p (visit p k) outer [] n n.origin v).started)
    use_apart outer m n v g h =
        subst (λ o. Apart (instance_names (visit_name p (visit p k) outer [] n o v).started)) (sym g.1)
        (used_apart m n g.0 v g.2 (number_from 0 (codes "pure " ++ n.name) v.started) refl h)

    uses_apart : (outer : List OwnName) (m : ℕ) (ns : List OwnName) (v : Visited) → UsesOf p c t m ns → Apart (instance_names v.started) →
        Apart (instance_names (visit_names p (visit p k) outer [] ns v).started)
    uses_apart outer m [] v g h = h
    uses_apart outer m (n ∷ ns) v g h = uses_apart outer m ns _ (λ x i. g x (inr i)) (use_apart outer m n v (g n (inl refl)) h)

  module_apart : (k m : ℕ) (outer ns : List OwnName) (v : Visited) → UsesOf p c t m ns → Apart (instance_names v.started) →
      Apart (instance_names (visit p k outer [] ns v).started)
  module_apart zero m outer ns v g h = h
  module_apart (suc k) m outer ns v g h = uses_apart k (module_apart k) outer m ns v g h

  ------------------------------------------------------------
  -- The visits of lines

  module _ (plain : HavePlainNames p) where
    -- own names of the scope of a number
    pub record AreOwn (m : ℕ) (ns : List OwnName) : Type 0 where
      pub are_plain : (n : OwnName) → In n ns → IsPlainName n.name
      pub uses : (n : OwnName) → In n ns → (j : ℕ) → n.origin ≡ Use j → IsUseOf p m n j
      pub apart : Apart (map (λ (n : OwnName). n.name) ns)

    names_own : (m : ℕ) (o : Option Scope) → slice_get p.scopes m ≡ o → AreOwn m (names_of o)
    names_own m None e = record { are_plain = λ n i. absurd i; uses = λ n i. absurd i; apart = tt }
    names_own m (Some s) e =
        let among = In-slice_get p.scopes m s e in
        record { are_plain = plain s among; uses = λ n i. use_of p c t m s e n i; apart = (c.scopes s among).own_names }

    own_after : (m : ℕ) (n : OwnName) (ns : List OwnName) → AreOwn m (n ∷ ns) → AreOwn m ns
    own_after m n ns a = record { are_plain = λ x i. a.are_plain x (inr i); uses = λ x i. a.uses x (inr i); apart = a.apart.1 }

    -- a name with a space, or one under an own name
    abbrev Below : List ℕ → OwnName → List ℕ → Type 0
    Below prefix n name = In 32 name ⊎ IsUnder prefix n.name name

    abbrev Among : List ℕ → List OwnName → List ℕ → Type 0
    Among prefix ns name = In 32 name ⊎ ((n : OwnName) × In n ns × IsUnder prefix n.name name)

    -- no instance is named under an own name
    abbrev AllFree : List ℕ → List OwnName → List Started → Type 0
    AllFree prefix ns xs = (n : OwnName) → In n ns → (i : Started) → In i xs → IsUnder prefix n.name i.name → ⊥

    -- instances are added whose names are such, and all differ
    pub record AddsApart (Named : List ℕ → Type 0) (before after : List Started) : Type 0 where
      pub adds : Adds Named before after
      pub apart : Apart (instance_names after)

    abbrev VisitsApart : ℕ → Type 0
    VisitsApart k =
        (m : ℕ) (outer : List OwnName) (prefix : List ℕ) (ns : List OwnName) (v : Visited) → (In 32 prefix → ⊥) → AreOwn m ns →
        AllFree prefix ns v.started → Apart (instance_names v.started) →
        AddsApart (Among prefix ns) v.started (visit p k outer prefix ns v).started

    module _ (k : ℕ) (inside : VisitsApart k) (m : ℕ) (outer : List OwnName) (prefix : List ℕ) (spaceless : In 32 prefix → ⊥) where
      module _ (n : OwnName) (v : Visited) (is_plain : IsPlainName n.name)
          (free : (i : Started) → In i v.started → IsUnder prefix n.name i.name → ⊥) (h : Apart (instance_names v.started)) where
        -- a line: the instances that its module's lines bring, and its own behind them
        line_apart : (j : ℕ) (arguments : List ℕ) (i : Started) → i.name ≡ prefix ++ n.name →
            AddsApart (Below prefix n) v.started ((visit p k (names_of (slice_get p.scopes j)) (prefix ++ (n.name ++ codes ".")) (names_of (slice_get p.scopes j)) (handed p outer v j arguments)).started ++ i ∷ [])
        line_apart j arguments i e =
            let names = names_of (slice_get p.scopes j) in
            let further = prefix ++ (n.name ++ codes ".") in
            let hand = handed p outer v j arguments in
            let inner = visit p k names further names hand in
            let own : In 32 i.name → ⊥ = λ s. no_space_both prefix n.name spaceless is_plain.0 (subst (λ l. In 32 l) e s) in
            let a : AddsApart (Among further names) v.started inner.started =
            inside j names further names hand (no_space_both prefix (n.name ++ codes ".") spaceless (no_space_both n.name (codes ".") is_plain.0 no_space_dot))
            (names_own j (slice_get p.scopes j) refl) (λ x y z b u. free z b (outwards prefix n.name x.name z.name u)) h in
            let wider : (name : List ℕ) → Among further names name → Below prefix n name =
            λ name b. elim b [ inl s ↦ inl s | inr u ↦ inr (outwards prefix n.name u.0.name name u.2) ] in
            let self : IsUnder prefix n.name i.name =
            record { rest = []; ends = tt; is = e ∙ ap (λ l. prefix ++ l) (sym (append-nil n.name)); spaceless = own } in
            let not : (other : List ℕ) → Among further names other → other ≡ i.name → ⊥ = λ other b f. elim b [
              | inl s ↦ own (subst (λ l. In 32 l) f s)
              | inr u ↦ not_own prefix n.name u.0.name (subst (IsUnder further u.0.name) (f ∙ e) u.2)
            ] in
            let unnamed : IsFree i.name v.started = λ x b f. free x b (subst (IsUnder prefix n.name) (sym f) self) in
            record {
              adds = adds_one (Below prefix n) v.started inner.started i
                  (adds_wider (Among further names) (Below prefix n) wider v.started inner.started a.adds) (inr self);
              apart = apart_more inner.started i a.apart (free_after (Among further names) i.name v.started inner.started unnamed a.adds not);
            }

        used_adds : (j : ℕ) → IsUseOf p m n j → (there : Option ℕ) →
            Adds (Below prefix n) v.started (used p (visit p k) v (codes "pure " ++ n.name) j there).started
        used_adds j u (Some y) = adds_none (Below prefix n) v.started
        used_adds j u None =
            let pure : (name : List ℕ) → IsPureFrom p c t j name → Below prefix n name = λ name f. inl (subst (λ l. In 32 l) (sym f.called) (has_space _)) in
            adds_one (Below prefix n) v.started _ _ (adds_wider (IsPureFrom p c t j) (Below prefix n) pure v.started _ (module_adds p c t k j v u.module_there))
            (inl (has_space n.name))

        name_apart : (o : Origin) → ((j : ℕ) → o ≡ Use j → IsUseOf p m n j) →
            AddsApart (Below prefix n) v.started (visit_name p (visit p k) outer prefix n o v).started
        name_apart (Parameter bare) u = record { adds = adds_none (Below prefix n) v.started; apart = h }
        name_apart Grant u = record { adds = adds_none (Below prefix n) v.started; apart = h }
        name_apart (Use j) u =
            let there = number_from 0 (codes "pure " ++ n.name) v.started in
            record { adds = used_adds j (u j refl) there; apart = used_apart k (module_apart k) m n j v (u j refl) there refl h }
        name_apart (Instance j arguments) u = line_apart j arguments _ refl
        name_apart (Import j arguments bound) u = line_apart j arguments _ refl

      names_apart : (ns : List OwnName) (v : Visited) → AreOwn m ns → AllFree prefix ns v.started → Apart (instance_names v.started) →
          AddsApart (Among prefix ns) v.started (visit_names p (visit p k) outer prefix ns v).started
      names_apart [] v a free h = record { adds = adds_none (Among prefix []) v.started; apart = h }
      names_apart (n ∷ ns) v a free h =
          let w = visit_name p (visit p k) outer prefix n n.origin v in
          let one = name_apart n v (a.are_plain n (inl refl)) (free n (inl refl)) h n.origin (a.uses n (inl refl)) in
          let name_of_own : OwnName → List ℕ = λ x. x.name in
          let clear : AllFree prefix ns w.started = λ x b i j u. elim (In-cases i v.started one.adds.more (subst (λ l. In i l) one.adds.behind j)) [
            | inl old ↦ free x (inr b) i old u
            | inr new ↦ elim (one.adds.named i new) [
              | inl s ↦ u.spaceless s
              | inr z ↦ (let same : n.name ≡ x.name = told prefix n.name x.name i.name (a.are_plain n (inl refl)).1 (a.are_plain x (inr b)).1 z u in
                  a.apart.0 (subst (λ l. In l (map name_of_own ns)) (sym same) (In-map name_of_own x ns b)))
            ]
          ] in
          let rest = names_apart ns w (own_after m n ns a) clear one.apart in
          let first : (name : List ℕ) → Below prefix n name → Among prefix (n ∷ ns) name =
          λ name b. elim b [ inl s ↦ inl s | inr u ↦ inr (n, inl refl, u) ] in
          let later : (name : List ℕ) → Among prefix ns name → Among prefix (n ∷ ns) name =
          λ name b. elim b [ inl s ↦ inl s | inr u ↦ inr (u.0, inr u.1, u.2) ] in
          record {
            adds = adds_further (Among prefix (n ∷ ns)) v.started w.started _
                (adds_wider (Below prefix n) (Among prefix (n ∷ ns)) first v.started w.started one.adds)
                (adds_wider (Among prefix ns) (Among prefix (n ∷ ns)) later w.started _ rest.adds);
            apart = rest.apart;
          }

    visits_apart : (k : ℕ) → VisitsApart k
    visits_apart zero m outer prefix ns v spaceless a free h = record { adds = adds_none (Among prefix ns) v.started; apart = h }
    visits_apart (suc k) m outer prefix ns v spaceless a free h = names_apart k (visits_apart k) m outer prefix spaceless ns v a free h

    -- the start list
    pub record AreTold (xs : List Started) : Type 0 where
      pub apart : Apart (instance_names xs)
      pub named : (i : Started) → In i xs → In 32 i.name ⊎ ((n : OwnName) × In n (names_of (slice_get p.scopes (program_number p))) × IsUnder [] n.name i.name)

    pub instances_told : AreTold (start_list p)
    instances_told =
        let m = program_number p in
        let names = names_of (slice_get p.scopes m) in
        let a = visits_apart (length p.scopes) m names [] names (record { started = []; actuals = []; sets = [] }) (λ i. absurd i)
        (names_own m (slice_get p.scopes m) refl) (λ n i x j. absurd j) tt in
        record { apart = a.apart; named = λ i j. a.adds.named i (subst (λ l. In i l) a.adds.behind j) }
