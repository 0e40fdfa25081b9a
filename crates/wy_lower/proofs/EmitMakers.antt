-- The first method that makes a literal.
use Rattle.std.specs.Prelude.{◌||◌}
use Rattle.std.proofs.Common.{◌≡◌, ◌<◌, ℕ, ◌+◌, List, [], ◌∷◌, length, map, take, get_or, Bool, true, false, Option, Some, None, refl, sym, ap, ◌∙◌, arith, nat_eq, if◌then◌else◌, suc, cond}
use Rattle.std.proofs.lemmas.List.{length-take}
use Rattle.wy_types.specs.declared.resolved.Body as b
use Rattle.wy_types.specs.Code.{Expr, Number, Quoted, Truth, Nothing, This, Name, Unary, Binary, TextCall, Call, New, Ascribe, Assign}
use Rattle.std.specs.Prelude.{slice_get}
use Rattle.std.specs.List.{position_from}
use Rattle.wy_types.specs.Program.{Program, Scope, Body, body_of}
use Rattle.wy_meaning.specs.Starts.{Starts}
use Rattle.wy_lower.specs.Parts.{block_parts, make_literal}
use Rattle.wy_lower.specs.Lowering.{inside_start, inside_body, inside_maker}
use Rattle.wy_lower.specs.EmitGathers.{makes_in}
use Rattle.wy_lower.specs.EmitScopes.{or_first, maker_noted, maker_of}
use Rattle.wy_lower.proofs.EmitLists.{taken_more, length_mapped}
use Rattle.wy_lower.proofs.EmitPlaces.{place_last}

first_stays : (o : Option ℕ) (k : ℕ) → or_first (or_first o k) k ≡ or_first o k
first_stays None k = refl
first_stays (Some n) k = refl

either_first : (m : ℕ) (es : List Expr) (l k : ℕ) (o : Option ℕ) (t : Bool) → (if make_literal l es then or_first (if t then or_first o k else o) k else (if t then or_first o k else o)) ≡ (if t then or_first o k else (if make_literal l es then or_first o k else o))
either_first m es l k o false = refl
either_first m es l k o true = go (make_literal l es)
  where
    go : (c : Bool) → (if c then or_first (or_first o k) k else or_first o k) ≡ or_first o k
    go true = first_stays o k
    go false = refl

-- a literal that they make gets its maker
pub noted_is : (k : ℕ) (es : List Expr) (l : ℕ) (o : Option ℕ) → maker_noted k (makes_in es) l o ≡ (if make_literal l es then or_first o k else o)
noted_is k [] l o = refl
noted_is k (Number place n ∷ es) l o = noted_is k es l o
noted_is k (Quoted place bytes ∷ es) l o = noted_is k es l o
noted_is k (Truth place t ∷ es) l o = noted_is k es l o
noted_is k (Nothing place ∷ es) l o = noted_is k es l o
noted_is k (This place ∷ es) l o = noted_is k es l o
noted_is k (Name place name ∷ es) l o = noted_is k es l o
noted_is k (Unary place op x ∷ es) l o = noted_is k es l o
noted_is k (Binary place op x y ∷ es) l o = noted_is k es l o
noted_is k (TextCall place op xs ∷ es) l o = noted_is k es l o
noted_is k (Call place x name xs ∷ es) l o = noted_is k es l o
noted_is k (Ascribe place x t ∷ es) l o = noted_is k es l o
noted_is k (Assign place name x ∷ es) l o = noted_is k es l o
noted_is k (New place m xs ∷ es) l o = noted_is k es l (if nat_eq m l then or_first o k else o) ∙ either_first m es l k o (nat_eq m l) ∙ sym (split (nat_eq m l))
  where
    split : (t : Bool) → (if t || make_literal l es then or_first o k else o) ≡ (if t then or_first o k else (if make_literal l es then or_first o k else o))
    split true = refl
    split false = refl

-- one method more
pub maker_more : (l : ℕ) (bs : List b.Body) (k : ℕ) (x : b.Body) → k < length bs → x ≡ get_or bs k x →
    (if make_literal l (block_parts (body_of x).block) then or_first (maker_of l (map body_of (take k bs))) k else maker_of l (map body_of (take k bs))) ≡ maker_of l (map body_of (take (k + 1) bs))
maker_more l bs k x lt at =
    let t = λ (y : Body). make_literal l (block_parts y.block) in
    let front = map body_of (take k bs) in
    let long : length front ≡ k = length_mapped body_of (take k bs) ∙ grind (arith, length-take) in
    ap (λ (n : ℕ). if t (body_of x) then or_first (maker_of l front) n else maker_of l front) (sym long)
    ∙ sym (place_last t front (body_of x)) ∙ ap (maker_of l) (sym (taken_more body_of bs k x lt at))

------------------------------------------------------------
-- What the maker of a literal sees

module _ (p : Program) (starts : Starts) (s : Scope) (l : ℕ) where
  -- the method n among these, the first of which has number k, is the maker
  pub record Makes (k : ℕ) (bs : List Body) (n : ℕ) : Type 0 where
    pub place : ℕ
    pub at : n ≡ k + place
    pub body : Body
    pub there : slice_get bs place ≡ Some body
    pub sees : inside_maker p starts s l k bs ≡ inside_body p starts s n body

  makes_first : (k : ℕ) (b : Body) (bs : List Body) (n : ℕ) → make_literal l (block_parts b.block) ≡ true → k ≡ n → Makes k (b ∷ bs) n
  makes_first k b bs n e same = record {
    place = 0;
    at = omega arith;
    body = b;
    there = refl;
    sees = ap (λ t. if t then inside_body p starts s k b else inside_maker p starts s l (k + 1) bs) e ∙ ap (λ m. inside_body p starts s m b) same;
  }

  makes_later : (k : ℕ) (b : Body) (bs : List Body) (n : ℕ) → make_literal l (block_parts b.block) ≡ false → Makes (k + 1) bs n → Makes k (b ∷ bs) n
  makes_later k b bs n e m = record {
    place = suc m.place;
    at = (let h = m.at in omega arith);
    body = m.body;
    there = m.there;
    sees = ap (λ t. if t then inside_body p starts s k b else inside_maker p starts s l (k + 1) bs) e ∙ m.sees;
  }

  pub makes_some : (k : ℕ) (bs : List Body) (n : ℕ) → position_from (λ (b : Body). make_literal l (block_parts b.block)) k bs ≡ Some n → Makes k bs n
  makes_some k [] n e = cc
  makes_some k (b ∷ bs) n e =
      let P : Bool → Type 0 = λ t. make_literal l (block_parts b.block) ≡ t → cond t (Some k) (position_from (λ (b : Body). make_literal l (block_parts b.block)) (k + 1) bs) ≡ Some n → Makes k (b ∷ bs) n in
      (elim (make_literal l (block_parts b.block)) as P [
        | true ↦ λ t g. (let same : k ≡ n = cc in makes_first k b bs n t same)
        | false ↦ λ t g. makes_later k b bs n t (makes_some (k + 1) bs n g)
      ]) refl e

  pub makes_none : (k : ℕ) (bs : List Body) → position_from (λ (b : Body). make_literal l (block_parts b.block)) k bs ≡ None → inside_maker p starts s l k bs ≡ inside_start p starts s
  makes_none k [] e = refl
  makes_none k (b ∷ bs) e =
      let P : Bool → Type 0 = λ t. cond t (Some k) (position_from (λ (b : Body). make_literal l (block_parts b.block)) (k + 1) bs) ≡ None → (if t then inside_body p starts s k b else inside_maker p starts s l (k + 1) bs) ≡ inside_start p starts s in
      (elim (make_literal l (block_parts b.block)) as P [ true ↦ λ g. cc | false ↦ λ g. makes_none (k + 1) bs g ]) e
