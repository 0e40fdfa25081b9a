-- Sets of atoms that are put in: a set of the first atoms is read by the first sets; a name's own atoms are read as the sets that it opened.
use Rattle.std.proofs.Common.{◌≡◌, ℕ, suc, ◌+◌, ◌≤◌, List, [], ◌∷◌, ◌++◌, map, inl, inr, length, refl, sym, ap, ap₂, ◌∙◌, subst, arith, Option, Some, None, Bool as Truth, true, false, append_assoc, length-append}
use Rattle.std.specs.Prelude.{slice_get, slice_index_or}
use Rattle.std.proofs.Math.ListN.{length-map}
use Rattle.wy_effects.specs.EffSet.{IsSetFrom, IsSet, AreSets, union, replace}
use Rattle.wy_text.proofs.Lists.{In-cases}
use Rattle.wy_effects.proofs.SetLaws.{IsSetFrom-union, sets_equal, union-cases, In-union-left}
use Rattle.wy_types.specs.declared.types.TypeRef.{TypeRef}
use Rattle.wy_types.specs.declared.types.TypeRef.TheVariants.{Int, Bool, Text, Unit as Nothing, Named, At, Own}
use Rattle.wy_types.specs.declared.resolved.TypeDecl.{TypeDecl}
use Rattle.wy_types.specs.declared.resolved.Origin.{Origin}
use Rattle.wy_types.specs.declared.resolved.Origin.TheVariants.{Parameter, Grant, Use, Instance, Import}
use Rattle.wy_types.specs.declared.resolved.OwnName.{OwnName}
use Rattle.wy_types.specs.Program.{Program}
use Rattle.wy_types.specs.Types.{substituted}
use Rattle.wy_types.specs.Fitting.{FitsType}
use Rattle.wy_types.specs.MemberCount.{member_count}
use Rattle.wy_types.specs.Ground.{abstract_names, members_of, single_sets, argument_sets, arguments_sets}
use Rattle.wy_rules.specs.Acceptance.{is_parameter, parameters_until, parameters_among}
use Rattle.wy_rules.specs.OwnNames.{opens, opened_count, IsOpened}
use Rattle.wy_sound.proofs.LinkingLists.{GoesOn, or_first}

------------------------------------------------------------
-- Sets of more atoms

pub IsSetFrom-wider : (k m n : ℕ) (xs : List ℕ) → m ≤ n → IsSetFrom k m xs → IsSetFrom k n xs
IsSetFrom-wider k m n [] le s = tt
IsSetFrom-wider k m n (x ∷ xs) le s = (s.0, omega (arith, s.1), IsSetFrom-wider (x + 1) m n xs le s.2)

pub AreSets-wider : (m n : ℕ) (ss : List (List ℕ)) → m ≤ n → AreSets m ss → AreSets n ss
AreSets-wider m n ss le h s i = IsSetFrom-wider 0 m n s le (h s i)

pub Fits-wider : (p : Program) (m n : ℕ) (t : TypeRef) → m ≤ n → FitsType p m 0 t → FitsType p n 0 t
Fits-wider p m n Int le f = tt
Fits-wider p m n Bool le f = tt
Fits-wider p m n Text le f = tt
Fits-wider p m n Nothing le f = tt
Fits-wider p m n (Named d members) le f = (f.0, f.1, AreSets-wider m n members le f.2)
Fits-wider p m n (At d bound) le f = (f.0, IsSetFrom-wider 0 m n bound le f.1)
Fits-wider p m n (Own l) le f = absurd (omega arith)

pub AreSets-both : (n : ℕ) (xs ys : List (List ℕ)) → AreSets n xs → AreSets n ys → AreSets n (xs ++ ys)
AreSets-both n xs ys h g s i = elim (In-cases s xs ys i) [ inl j ↦ h s j | inr j ↦ g s j ]

------------------------------------------------------------
-- What is of the first atoms is read by the first sets

replace_first' : (by more : List (List ℕ)) (k : ℕ) (xs : List ℕ) → IsSetFrom k (length by) xs → replace (by ++ more) xs ≡ replace by xs
replace_first' by more k [] h = refl
replace_first' by more k (x ∷ xs) h = ap₂ union (or_first by more x [] h.1) (replace_first' by more (x + 1) xs h.2)

pub replace_first : (by top : List (List ℕ)) (xs : List ℕ) → GoesOn by top → IsSet (length by) xs → replace top xs ≡ replace by xs
replace_first by top xs g h = ap (λ l. replace l xs) g.1 ∙ replace_first' by g.0 0 xs h

pub sets_first : (by top ss : List (List ℕ)) → GoesOn by top → AreSets (length by) ss → map (replace top) ss ≡ map (replace by) ss
sets_first by top [] g h = refl
sets_first by top (s ∷ ss) g h = ap₂ (λ u us. u ∷ us) (replace_first by top s g (h s (inl refl))) (sets_first by top ss g (λ t i. h t (inr i)))

pub substituted_first : (p : Program) (owns : ℕ) (by top : List (List ℕ)) (t : TypeRef) → GoesOn by top → FitsType p (length by) owns t →
    substituted top t ≡ substituted by t
substituted_first p owns by top Int g f = refl
substituted_first p owns by top Bool g f = refl
substituted_first p owns by top Text g f = refl
substituted_first p owns by top Nothing g f = refl
substituted_first p owns by top (Named d members) g f = ap (Named d) (sets_first by top members g f.2)
substituted_first p owns by top (At d bound) g f = ap (At d) (replace_first by top bound g f.1)
substituted_first p owns by top (Own l) g f = refl

------------------------------------------------------------
-- The atoms that a name opens

union-nothing : (n : ℕ) (s : List ℕ) → IsSet n s → union s [] ≡ s
union-nothing n s h =
    sets_equal 0 n (union s []) s (IsSetFrom-union 0 n s [] h tt) h
    (λ a i. elim (union-cases a s [] i) [ inl j ↦ j | inr j ↦ absurd j ]) (λ a i. In-union-left a s [] i)

pub or_there : {X : Type 0} (xs ys : List X) (x d : X) → slice_index_or (xs ++ x ∷ ys) (length xs) d ≡ x
or_there [] ys x d = refl
or_there (y ∷ xs) ys x d = or_there xs ys x d

-- the sets in the middle are those of the atoms that stand there
pub singles : (n : ℕ) (by before sets after : List (List ℕ)) (k : ℕ) (names : List (List ℕ)) → by ≡ before ++ (sets ++ after) → k ≡ length before →
    length sets ≡ length names → AreSets n sets →
    map (replace by) (single_sets k names) ≡ sets
singles n by before [] after k [] e at same h = refl
singles n by before [] after k (m ∷ ms) e at same h = absurd (omega arith)
singles n by before (s ∷ sets) after k [] e at same h = absurd (omega arith)
singles n by before (s ∷ sets) after k (m ∷ ms) e at same h =
    let here : slice_index_or by k [] ≡ s = ap₂ (λ l j. slice_index_or l j []) e at ∙ or_there before (sets ++ after) s [] in
    let first : union (slice_index_or by k []) [] ≡ s = ap (λ u. union u []) here ∙ union-nothing n s (h s (inl refl)) in
    let next : by ≡ (before ++ s ∷ []) ++ (sets ++ after) = e ∙ sym (append_assoc before (s ∷ []) (sets ++ after)) in
    let place : k + 1 ≡ length (before ++ s ∷ []) = rw (length-append before (s ∷ [])) (omega (arith, at)) in
    ap₂ (λ u us. u ∷ us) first (singles n by (before ++ s ∷ []) sets after (k + 1) ms next place (omega (arith, same)) (λ t i. h t (inr i)))

pub single_sets_are : (k n : ℕ) (names : List (List ℕ)) → k + length names ≤ n → AreSets n (single_sets k names)
single_sets_are k n [] le s i = absurd i
single_sets_are k n (m ∷ ms) le s (inl e) = subst (IsSet n) e (omega arith, omega (arith, le), tt)
single_sets_are k n (m ∷ ms) le s (inr i) = single_sets_are (k + 1) n ms (omega (arith, le)) s i

pub length_singles : (k : ℕ) (names : List (List ℕ)) → length (single_sets k names) ≡ length names
length_singles k [] = refl
length_singles k (m ∷ ms) = ap suc (length_singles (k + 1) ms)

-- a type with the atoms that it opens is of the atoms up to those
pub opened_fits : (p : Program) (n k d : ℕ) (t : TypeRef) → FitsType p n 0 t → IsOpened p k (Some d) t → FitsType p (k + length (members_of p t)) 0 t
opened_fits p n k d t f e =
    let names = abstract_names (slice_get p.declarations d) in
    let P : TypeRef → Type 0 = λ u. FitsType p (k + length (members_of p u)) 0 u in
    let g : FitsType p n 0 (Named d (single_sets k names)) = subst (FitsType p n 0) e f in
    subst P (sym e) (g.0, g.1, single_sets_are k (k + length names) names (omega arith))

pub count_members : (o : Option TypeDecl) → member_count o ≡ length (abstract_names o)
count_members None = refl
count_members (Some d) = refl

------------------------------------------------------------
-- The sets that a line hands on

module _ (p : Program) (outer : List OwnName) where
  no_arguments : (b : Truth) (n : OwnName) (ns : List OwnName) → 0 ≡ length (parameters_until b n ns) → 0 ≡ opened_count p (parameters_until b n ns)
  no_arguments true n ns e = absurd (omega arith)
  no_arguments false n ns e = refl

  one_argument : (o : Origin) (n : OwnName) (a : ℕ) (ns : List OwnName) (sets : List (List ℕ)) (arguments : List ℕ) → n.origin ≡ o →
      suc (length arguments) ≡ length (parameters_until (is_parameter o) n ns) →
      (length arguments ≡ length ns → length sets ≡ opened_count p ns) →
      length (argument_sets p outer o n a ++ sets) ≡ opened_count p (parameters_until (is_parameter o) n ns)
  one_argument (Parameter true) n a ns sets arguments o e rest =
      let own = argument_sets p outer (Parameter true) n a in
      let many : length own ≡ length (members_of p n.typ) = length-map (members_of p n.typ) _ in
      let opening : length (opens p n n.origin) ≡ length (members_of p n.typ) = ap (λ x. length (opens p n x)) o in
      length-append own sets ∙ ap₂ (λ x y. x + y) (many ∙ sym opening) (rest (omega (arith, e)))
  one_argument (Parameter false) n a ns sets arguments o e rest =
      let opening : 0 ≡ length (opens p n n.origin) = ap (λ x. length (opens p n x)) (sym o) in
      let r = rest (omega (arith, e)) in
      omega (arith, opening, r)
  one_argument Grant n a ns sets arguments o e rest = absurd (omega arith)
  one_argument (Use m) n a ns sets arguments o e rest = absurd (omega arith)
  one_argument (Instance m given) n a ns sets arguments o e rest = absurd (omega arith)
  one_argument (Import m given bound) n a ns sets arguments o e rest = absurd (omega arith)

  -- .. as many as the atoms that the parameters open
  pub arguments_count : (ns : List OwnName) (arguments : List ℕ) → length arguments ≡ length (parameters_among ns) →
      length (arguments_sets p outer ns arguments) ≡ opened_count p (parameters_among ns)
  arguments_count [] arguments e = refl
  arguments_count (n ∷ ns) [] e = no_arguments (is_parameter n.origin) n (parameters_among ns) e
  arguments_count (n ∷ ns) (a ∷ arguments) e =
      one_argument n.origin n a (parameters_among ns) (arguments_sets p outer ns arguments) arguments refl e (arguments_count ns arguments)
