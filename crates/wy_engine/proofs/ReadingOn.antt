-- Files are read one after the other.
use Rattle.std.proofs.Common.{◌≡◌, ◌≤◌, ◌<◌, ◌+◌, ◌++◌, ℕ, zero, suc, min, List, [], ◌∷◌, true, false, refl, sym, ◌∙◌, ap, subst, arith, length, take, drop, map, get_or, add-one}
use Rattle.std.proofs.lemmas.List.{length-map, length-take, map-append}
use Rattle.std.proofs.Math.ListN.{get_or-map}
use Rattle.std.proofs.Math.Seq.{take-length, take-suc, drop-cons}
use Rattle.wy_text.specs.Outside.{gained, Rose}
use Rattle.wy_text.specs.Shelf.{GivesFile, ShelfState, read_badly, read_well}
use Rattle.wy_text.proofs.Gains.{gained-gained, gained-nil, rose_later}
use Rattle.wy_engine.specs.Reading.{ReadsWell, StopsAfter, StopsAt, bytes_at}
use Rattle.wy_engine.specs.Texts.{GivesFiles, asked_bytes}
use Rattle.wy_engine.specs.TopCall.{reads_of}

pub reads_none : (first : ℕ) (names : List (List ℕ)) (shelf : ShelfState) → ReadsWell first names 0 shelf shelf []
reads_none first names shelf = record {
  within = omega arith;
  files = refl;
  reads = sym (gained-nil shelf.reads);
  gives = tt;
  counted = omega arith;
}

-- the name that stands at a place, among the names that words give
pub record StandsAt (names : List (List ℕ)) (at : ℕ) (name : List ℕ) : Type 0 where
  pub within : at < length names
  pub taken : take (at + 1) names ≡ take at names ++ name ∷ []
  pub next : take 1 (drop at names) ≡ name ∷ []

stands_among : (names : List (List ℕ)) (at : ℕ) (name : List ℕ) → at < length names → get_or names at name ≡ name → StandsAt names at name
stands_among names at name h is = record {
  within = h;
  taken = rw add-one (take-suc names at name h ∙ ap (λ x. take at names ++ x ∷ []) is);
  next = ap (λ x. take 1 x) (drop-cons names at name h) ∙ ap (λ x. x ∷ []) is;
}

pub stands_at : {X : Type 0} (f : X → List ℕ) (xs : List X) (at : ℕ) (x : X) → at < length xs → x ≡ get_or xs at x → StandsAt (map f xs) at (f x)
stands_at f xs at x h is = stands_among (map f xs) at (f x) (rw length-map h) (get_or-map f xs at x ∙ ap f (sym is))

alike_at : (place : ℕ) → asked_bytes ≡ bytes_at asked_bytes place
alike_at zero = refl
alike_at (suc place) = refl

gives_more : (first : ℕ) (shelf : ShelfState) (names texts : List (List ℕ)) (name text : List ℕ) → GivesFiles first shelf names texts → GivesFile shelf.files name (bytes_at first (length names)) text
    → GivesFiles first shelf (names ++ name ∷ []) (texts ++ text ∷ [])
gives_more first shelf [] [] name text given more = (more, tt)
gives_more first shelf [] (t ∷ ts) name text given more = absurd given
gives_more first shelf (n ∷ ns) [] name text given more = absurd given
gives_more first shelf (n ∷ ns) (t ∷ ts) name text given more =
    (given.0, gives_more asked_bytes shelf ns ts name text given.1 (subst (λ (most : ℕ). GivesFile shelf.files name most text) (alike_at (length ns)) more))

-- as many names come before a place as it counts
before_place : (names : List (List ℕ)) (place : ℕ) → place < length names → length (take place names) ≡ place
before_place names place within = let size : length (take place names) ≡ min place (length names) = length-take place names in omega arith

same_reads : (well : ℕ) (names : List (List ℕ)) (name : List ℕ) (before mid after : ShelfState) → StandsAt names well name
    → mid.reads ≡ gained before.reads (reads_of false (take well names)) → after.reads ≡ gained mid.reads (read_well name)
    → after.reads ≡ gained before.reads (reads_of false (take (well + 1) names))
same_reads well names name before mid after stands so more =
    more ∙ ap (λ x. gained x (read_well name)) so ∙ gained-gained before.reads (reads_of false (take well names)) (read_well name)
    ∙ ap (λ x. gained before.reads x) (sym (ap (λ x. reads_of false x) stands.taken ∙ map-append _ (take well names) (name ∷ [])))

pub reads_more : (first : ℕ) (names : List (List ℕ)) (well : ℕ) (name text : List ℕ) (before mid after : ShelfState) (texts more : List (List ℕ)) → StandsAt names well name
    → ReadsWell first names well before mid texts → after.files ≡ mid.files → after.reads ≡ gained mid.reads (read_well name)
    → GivesFile mid.files name (bytes_at first well) text → mid.faults ≤ after.faults → more ≡ texts ++ text ∷ [] → ReadsWell first names (well + 1) before after more
reads_more first names well name text before mid after texts more stands so files reads gives counted is = rw is (record {
  within = let h = stands.within in omega arith;
  files = files ∙ so.files;
  reads = same_reads well names name before mid after stands so.reads reads;
  gives = subst (λ x. GivesFiles first before x (texts ++ text ∷ [])) (sym stands.taken) (gives_more first before (take well names) texts name text so.gives
      (subst (λ (place : ℕ). GivesFile before.files name (bytes_at first place) text) (sym (before_place names well stands.within)) (subst (λ x. GivesFile x name (bytes_at first well) text) so.files gives)));
  counted = let h = so.counted in omega arith;
})

pub stops_after : (first : ℕ) (names : List (List ℕ)) (well : ℕ) (name : List ℕ) (before mid after : ShelfState) (texts : List (List ℕ)) → StandsAt names well name
    → ReadsWell first names well before mid texts → after.reads ≡ gained mid.reads (read_well name) → StopsAfter names before after
stops_after first names well name before mid after texts stands so reads = record {
  well = well + 1;
  reads = same_reads well names name before mid after stands so.reads reads;
}

pub stops_at : (first : ℕ) (names : List (List ℕ)) (well : ℕ) (name : List ℕ) (before mid after : ShelfState) (texts : List (List ℕ)) → StandsAt names well name
    → ReadsWell first names well before mid texts → after.reads ≡ gained mid.reads (read_badly name) → mid.faults ≤ after.faults → Rose mid.faults after.faults
    → StopsAt names (well + 1) before after
stops_at first names well name before mid after texts stands so reads counted rose = record {
  well = well;
  within = stands.within;
  number = refl;
  reads = reads ∙ ap (λ x. gained x (read_badly name)) so.reads ∙ gained-gained before.reads (reads_of false (take well names)) (read_badly name)
      ∙ ap (λ x. gained before.reads (reads_of false (take well names) ++ reads_of true x)) (sym stands.next);
  counted = rose_later before.faults mid.faults after.faults so.counted rose counted;
}

gives_many : (first : ℕ) (shelf : ShelfState) (names texts : List (List ℕ)) → GivesFiles first shelf names texts → length texts ≡ length names
gives_many first shelf [] [] given = refl
gives_many first shelf [] (t ∷ ts) given = absurd given
gives_many first shelf (n ∷ ns) [] given = absurd given
gives_many first shelf (n ∷ ns) (t ∷ ts) given = ap suc (gives_many asked_bytes shelf ns ts given.1)

-- where all files were read, there are as many texts
pub reads_many : (first : ℕ) (names : List (List ℕ)) (count : ℕ) (before after : ShelfState) (texts : List (List ℕ)) → ReadsWell first names count before after texts → length texts ≤ count
reads_many first names count before after texts so =
    let same : length texts ≡ length (take count names) = gives_many first before (take count names) texts so.gives in
    let most : length (take count names) ≡ min count (length names) = length-take count names in
    omega arith

pub reads_exactly : (first : ℕ) (names : List (List ℕ)) (count : ℕ) (before after : ShelfState) (texts : List (List ℕ)) → count ≡ length names → ReadsWell first names count before after texts → length texts ≡ length names
reads_exactly first names count before after texts all so =
    gives_many first before (take count names) texts so.gives ∙ ap (λ (n : ℕ). length (take n names)) all ∙ ap (λ (ns : List (List ℕ)). length ns) (take-length names)
