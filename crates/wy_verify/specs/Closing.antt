-- Lists of pairs that are to be closed.
use Rattle.std.specs.Prelude.{◌≡◌, ℕ, ◌<◌, Bool, true, false, ◌&&◌, List, [], ◌∷◌, ◌++◌, ◌⊎◌, Some, slice_get}
use Rattle.wy_text.specs.Members.{In}
use Rattle.wy_verified.specs.Images.{Image}
use Rattle.wy_verified.specs.declared.known.Kind.{Kind}
use Rattle.wy_verified.specs.declared.known.Kind.TheVariants.{Ints, Truths, Texts, Units, Named, Own, Granted}
use Rattle.wy_verified.specs.Kinds.{Pair, MethodType, methods, HasCover, IsClosed}
use Rattle.wy_verify.specs.declared.pairs.KindPair.{KindPair}
use Rattle.wy_verify.specs.Tables.{same_triple}

abbrev pub both : KindPair → Pair
both p = (p.left, p.right)

-- each pair is closed in the list
abbrev pub AreClosed : Image → List Pair → Type 0
AreClosed image ps = (p : Pair) → In p ps → IsClosed image ps p

-- the pair is in the list, or was added at its end
abbrev pub IsAdded : List Pair → Pair → List Pair → Type 0
IsAdded old p new = (In p old × (new ≡ old)) ⊎ (new ≡ old ++ p ∷ [])

-- what is added to close a pair: in each list in which it is closed, those stand too
pub record IsClosed' (image : Image) (old : List Pair) (at : ℕ) (new : List Pair) : Type 0 where
  pub more : List Pair
  pub grown : new ≡ old ++ more
  pub closed : (p : Pair) → slice_get old at ≡ Some p → IsClosed image new p
  pub parts : (p q : Pair) → slice_get old at ≡ Some p → In q more → (ps : List Pair) → IsClosed image ps p → In q ps

-- .. or it is closed in no list
pub record IsOpen (image : Image) (old : List Pair) (at : ℕ) (new : List Pair) : Type 0 where
  pub more : List Pair
  pub grown : new ≡ old ++ more
  pub never : (p : Pair) → slice_get old at ≡ Some p → (ps : List Pair) → IsClosed image ps p → ⊥

abbrev pub IsClosing : Image → List Pair → ℕ → List Pair → Bool → Type 0
IsClosing image old at new true = IsClosed' image old at new
IsClosing image old at new false = IsOpen image old at new

-- a question's list: the pairs that were there are closed in what was there, those before a number are closed, and each other one is needed
pub record IsStanding (image : Image) (old : List Pair) (p : Pair) (at : ℕ) (ps : List Pair) : Type 0 where
  pub more : List Pair
  pub grown : ps ≡ old ++ more
  pub asked : In p ps
  pub closed : (k : ℕ) (q : Pair) → k < at → slice_get ps k ≡ Some q → IsClosed image ps q
  pub needed : (q : Pair) → In q more → (qs : List Pair) → AreClosed image qs → In p qs → In q qs

------------------------------------------------------------
-- What a pair of object types rests on

-- the pairs of the parameters, with sides exchanged
abbrev pub exchanged : List Kind → List Kind → List Pair
exchanged [] right = []
exchanged (a ∷ left) [] = []
exchanged (a ∷ left) (b ∷ right) = (b, a) ∷ exchanged left right

-- .. and that of the results
abbrev pub rests_on : MethodType → MethodType → List Pair
rests_on left right = exchanged left.params right.params ++ (left.result, right.result) ∷ []

-- what is asked for is there, and nothing else was added
pub record IsGrown (old new asked : List Pair) : Type 0 where
  pub more : List Pair
  pub grown : new ≡ old ++ more
  pub there : (q : Pair) → In q asked → In q new
  pub only : (q : Pair) → In q more → In q asked

-- the method of a number of the right type has a cover among those of the left
abbrev pub CoversAt : Image → List Pair → Kind → Kind → ℕ → Type 0
CoversAt image ps left right m = (g : MethodType) → methods image right m ≡ Some g → HasCover ps (methods image left m) g

-- those of numbers have one, by what was added; and in each list by which all have one those stand too
pub record IsCovered (image : Image) (left right : Kind) (ms : List ℕ) (old new : List Pair) : Type 0 where
  pub more : List Pair
  pub grown : new ≡ old ++ more
  pub covered : (m : ℕ) → In m ms → CoversAt image new left right m
  pub parts : (q : Pair) → In q more → (ps : List Pair) → ((m : ℕ) → CoversAt image ps left right m) → In q ps

-- .. or by no list all have one
pub record IsUncovered (image : Image) (left right : Kind) (old new : List Pair) : Type 0 where
  pub more : List Pair
  pub grown : new ≡ old ++ more
  pub never : (ps : List Pair) → ((m : ℕ) → CoversAt image ps left right m) → ⊥

abbrev pub IsCovering : Image → Kind → Kind → List ℕ → List Pair → List Pair → Bool → Type 0
IsCovering image left right ms old new true = IsCovered image left right ms old new
IsCovering image left right ms old new false = IsUncovered image left right old new

------------------------------------------------------------
-- Keys of pairs

-- a type as three numbers
abbrev pub kind_key : Kind → ℕ × ℕ × ℕ
kind_key Ints = (0, 0, 0)
kind_key Truths = (1, 0, 0)
kind_key Texts = (2, 0, 0)
kind_key Units = (3, 0, 0)
kind_key (Named t) = (4, t, 0)
kind_key (Own x l) = (5, x, l)
kind_key (Granted g) = (6, g, 0)

-- .. and a pair as two such keys
abbrev pub pair_key : KindPair → (ℕ × ℕ × ℕ) × (ℕ × ℕ × ℕ)
pair_key p = (kind_key p.left, kind_key p.right)

abbrev pub same_key : (ℕ × ℕ × ℕ) × (ℕ × ℕ × ℕ) → (ℕ × ℕ × ℕ) × (ℕ × ℕ × ℕ) → Bool
same_key x y = same_triple x.0 y.0 && same_triple x.1 y.1
