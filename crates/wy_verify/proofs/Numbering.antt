-- The numbers of the atoms of grants.
use Rattle.std.proofs.Common.{◌≡◌, ℕ, zero, suc, ◌+◌, ◌*◌, ◌<◌, ◌≤◌, List, [], ◌∷◌, length, map, inl, refl, sym, Some, None, slice_index_or, get_or, subst, arith}
use Rattle.std.specs.Prelude.{slice_get}
use Rattle.wy_image.specs.declared.file.Grant.{Grant}
use Rattle.wy_image.specs.declared.file.ImageFile.{ImageFile}
use Rattle.wy_image.specs.declared.file.Instance.{Instance}
use Rattle.wy_image.specs.declared.typing.Atom.{Atom}
use Rattle.wy_verified.specs.Members.{members_of}
use Rattle.wy_verified.specs.Ranges.{IsInRange}
use Rattle.wy_text.specs.Members.{In}
use Rattle.wy_text.proofs.Lists.{In-get, In-left, In-right, In-map}
use Rattle.wy_verify.specs.Authority.{firsts_from, firsts_of, AreNumbered, AreBodiesNumbered, AreInstancesNumbered}
use Rattle.wy_verify.specs.Effects.{AreSmall}
use Rattle.wy_verify.proofs.Small.{few_members, small_typings}

-- what a loop has come to is in its list
pub In-item : {X : Type 0} (xs : List X) (i : ℕ) (x : X) → i < length xs → x ≡ get_or xs i x → In x xs
In-item xs i x h e = subst (λ y. In y xs) (sym e) (In-get xs i x h)

-- the first atoms of few grants have small numbers
first_small : (n : ℕ) (gs : List Grant) (k : ℕ) → slice_index_or (firsts_from n gs) k 0 ≤ n + 5 * k
first_small n [] k = omega arith
first_small n (g ∷ gs) zero = omega arith
first_small n (g ∷ gs) (suc k) =
    let h = first_small (n + length (members_of g.primitive)) gs k in
    let f = few_members g.primitive in
    omega (arith, h, f)

-- .. and small atoms too
pub numbered : (gs : List Grant) (atoms : List Atom) → AreSmall atoms → AreNumbered (firsts_of gs) atoms
numbered gs atoms small = λ a i.
    let h = first_small 0 gs a.grant in
    let g = (small a i).0 in
    let m = (small a i).1 in
    omega (arith, h, g, m)

-- the number at a place of a list
pub first_some : (firsts : List ℕ) (k n : ℕ) → Some n ≡ slice_get firsts k → n ≡ slice_index_or firsts k 0
first_some [] k n e = absurd cc
first_some (x ∷ firsts) zero n e = cc
first_some (x ∷ firsts) (suc k) n e = first_some firsts k n e

-- .. past its end
pub first_none : (firsts : List ℕ) (k : ℕ) → None ≡ slice_get firsts k → 0 ≡ slice_index_or firsts k 0
first_none [] k e = refl
first_none (x ∷ firsts) zero e = absurd cc
first_none (x ∷ firsts) (suc k) e = first_none firsts k e

module _ (file : ImageFile) (range : IsInRange file) where
  -- what an image in range states of its program's bodies
  pub main_numbered : AreBodiesNumbered (firsts_of file.grants) file.main.typing.bodies
  main_numbered = λ b i.
      numbered file.grants b.effect (small_typings file range file.main.typing
      (In-right file.main.typing (map (λ (i : Instance). i.typing) file.instances) (file.main.typing ∷ []) (inl refl)) b i)

  -- .. and of those of its instances
  pub instances_numbered : AreInstancesNumbered (firsts_of file.grants) file.instances
  instances_numbered = λ u i b j.
      numbered file.grants b.effect (small_typings file range u.typing
      (In-left u.typing (map (λ (i : Instance). i.typing) file.instances) (file.main.typing ∷ [])
      (In-map (λ (i : Instance). i.typing) u file.instances i)) b j)
