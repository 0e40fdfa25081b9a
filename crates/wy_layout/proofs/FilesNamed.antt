-- The place of each token of a file has the number of the file.
use Rattle.std.proofs.Common.{◌≡◌, ℕ, suc, ◌==◌, Bool, true, false, cond, List, [], ◌∷◌, take, refl, ap, ◌∙◌}
use Rattle.std.specs.List.{AllByRecursion}
use Rattle.wy_text.specs.declared.fault.Place.{Place}
use Rattle.wy_text.specs.declared.token.Token.{Token}
use Rattle.wy_layout.specs.Lines.{first_row, next_row, row_of, place_at}
use Rattle.wy_layout.specs.Laws.{TokensNameTheirFile}
use Rattle.wy_layout.specs.declared.row.Row.{Row}
use Rattle.wy_layout.proofs.Placing.{Placed, places_are}

-- rows behind a row are of its file
row_file : (row : Row) (at : ℕ) (bs : List ℕ) → (row_of row at bs).file ≡ row.file
row_file row at [] = refl
row_file row at (b ∷ bs) = row_file (cond (b == 10) (next_row row (suc at)) row) (suc at) bs ∙ go (b == 10)
  where
    go : (c : Bool) → (cond c (next_row row (suc at)) row).file ≡ row.file
    go true = refl
    go false = refl

place_file : (file : ℕ) (bs : List ℕ) (o : ℕ) → (place_at file bs o).file ≡ file
place_file file bs o = row_file (first_row file) 0 (take o bs)

each_file : (file : ℕ) (bs : List ℕ) (ts : List Token) → Placed (place_at file bs) ts → AllByRecursion (λ (t : Token). t.place.file ≡ file) ts
each_file file bs [] h = tt
each_file file bs (t ∷ ts) h = (ap (λ (p : Place). p.file) h.0 ∙ place_file file bs t.start, each_file file bs ts h.1)

pub files_named : TokensNameTheirFile
files_named file bs ts h = each_file file bs ts (places_are file bs ts h)
