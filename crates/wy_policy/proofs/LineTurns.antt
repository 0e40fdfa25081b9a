-- A turn of the loop over lines.
use Rattle.std.proofs.Common.{◌≡◌, ℕ, suc, ◌+◌, ◌<◌, ◌≤◌, ◌==◌, ◌&&◌, ◌||◌, Bool, true, false, cond, List, [], ◌∷◌, ◌++◌, length, refl, sym, ap, subst, ◌∙◌, arith, append_assoc, Option, Some, None}
use Rattle.std.specs.Option.{option_or}
use Rattle.wy_layout.specs.Lines.{Line, content_of, first_row, later_lines, line_at, next_row}
use Rattle.wy_layout.specs.declared.row.Row.{Row}
use Rattle.wy_policy.specs.Policy.{lines_of}
use Rattle.wy_policy.specs.Reading.{Adds, Cut, Meant, bad, bad_in, content_in, cut, first_bad, lines_in, meant, meant_of, nothing, onto, room_in, row_in, rows_read, says, without_return}
use Rattle.wy_policy.specs.declared.policy.PolicyRow.{PolicyRow}
use Rattle.wy_policy.specs.declared.reading.Said.{Said}
use Rattle.wy_policy.proofs.Cuts.{cut_room}

-- ---- a line, cut off

-- the content of the first line
pub content_cut : (text : List ℕ) → content_of text ≡ content_in (cut 10 text).front (cut 10 text).behind
content_cut [] = refl
content_cut (c ∷ []) = go (c == 10)
  where
    whole : Bool → Cut
    whole t = cond t (record { front = []; behind = Some [] }) (record { front = c ∷ []; behind = None })

    go : (t : Bool) → cond t [] (c ∷ []) ≡ content_in (whole t).front (whole t).behind
    go true = refl
    go false = refl
content_cut (c ∷ b ∷ bs) = go (c == 10) (b == 10) refl (content_cut (b ∷ bs))
  where
    inner : Bool → Cut
    inner u = cond u (record { front = []; behind = Some bs }) (onto b (cut 10 bs))

    outer : Bool → Bool → Cut
    outer t u = cond t (record { front = []; behind = Some (b ∷ bs) }) (onto c (inner u))

    longer : (x : Cut) → content_in (c ∷ b ∷ x.front) x.behind ≡ c ∷ content_in (b ∷ x.front) x.behind
    longer x = by x.behind
      where
        by : (o : Option (List ℕ)) → content_in (c ∷ b ∷ x.front) o ≡ c ∷ content_in (b ∷ x.front) o
        by None = refl
        by (Some r) = refl

    go : (t u : Bool) → (b == 10) ≡ u → content_of (b ∷ bs) ≡ content_in (inner u).front (inner u).behind → cond (t || ((c == 13) && u)) [] (c ∷ content_of (b ∷ bs)) ≡ content_in (outer t u).front (outer t u).behind
    go true u e ih = refl
    go false true e ih = ends (c == 13)
      where
        none : content_of (b ∷ bs) ≡ []
        none = ih

        ends : (r : Bool) → cond (r && true) [] (c ∷ content_of (b ∷ bs)) ≡ cond r [] (c ∷ [])
        ends true = refl
        ends false = ap (λ (z : List ℕ). c ∷ z) none
    go false false e ih = goes (c == 13)
      where
        goes : (r : Bool) → cond (r && false) [] (c ∷ content_of (b ∷ bs)) ≡ content_in (c ∷ b ∷ (cut 10 bs).front) (cut 10 bs).behind
        goes true = ap (λ (z : List ℕ). c ∷ z) ih ∙ sym (longer (cut 10 bs))
        goes false = ap (λ (z : List ℕ). c ∷ z) ih ∙ sym (longer (cut 10 bs))

-- the lines behind the first
pub record LaterLines (row : Row) (at : ℕ) (text : List ℕ) : Type 0 where
  pub start : ℕ
  pub lines_are : later_lines row at text ≡ lines_in (next_row row start) (cut 10 text).behind

pub later_cut : (row : Row) (at : ℕ) (text : List ℕ) → LaterLines row at text
later_cut row at [] = record { start = at; lines_are = refl }
later_cut row at (b ∷ bs) = go (b == 10) refl (later_cut row (suc at) bs)
  where
    go : (t : Bool) → (b == 10) ≡ t → LaterLines row (suc at) bs → LaterLines row at (b ∷ bs)
    go true e ih = record { start = suc at; lines_are = rw e refl }
    go false e ih = record { start = ih.start; lines_are = rw e ih.lines_are }

-- ---- the loop

-- what was said so far and what is left say what all lines do; the number is that of the line that comes
pub record IsTurn (bytes : List ℕ) (so_far : Said) (number : ℕ) (rest : Option (List ℕ)) : Type 0 where
  pub row : Row
  pub is : row.number ≡ number
  pub rows : so_far.rows ++ rows_read (lines_in row rest) ≡ rows_read (lines_of bytes)
  pub bad_line : option_or so_far.bad (first_bad (lines_in row rest)) ≡ first_bad (lines_of bytes)
  pub room : number + room_in rest ≤ length bytes + 2

pub turn_begins : (bytes : List ℕ) (start : Said) → start.rows ≡ [] → start.bad ≡ None → IsTurn bytes start 1 (Some bytes)
turn_begins bytes start r b = record {
  row = first_row 1;
  is = refl;
  rows = ap (λ (rows : List PolicyRow). rows ++ rows_read (lines_of bytes)) r;
  bad_line = ap (λ (o : Option ℕ). option_or o (first_bad (lines_of bytes))) b;
  room = omega arith;
}

rows_added : (n : ℕ) (m : Meant) (old new : Said) (later : List PolicyRow) → Adds n m old new → new.rows ++ later ≡ old.rows ++ row_in m later
rows_added n nothing old new later h = ap (λ (s : Said). s.rows ++ later) h
rows_added n (says r) old new later h = ap (λ (rows : List PolicyRow). rows ++ later) h.0 ∙ append_assoc old.rows (r ∷ []) later
rows_added n bad old new later h = ap (λ (rows : List PolicyRow). rows ++ later) h.0

bad_added : (n : ℕ) (m : Meant) (old new : Said) (later : Option ℕ) → Adds n m old new → option_or new.bad later ≡ option_or old.bad (bad_in n m later)
bad_added n nothing old new later h = ap (λ (s : Said). option_or s.bad later) h
bad_added n (says r) old new later h = ap (λ (o : Option ℕ). option_or o later) h.1
bad_added n bad old new later h = ap (λ (o : Option ℕ). option_or o later) h.1 ∙ go old.bad
  where
    go : (o : Option ℕ) → option_or (option_or o (Some n)) later ≡ option_or o (Some n)
    go None = refl
    go (Some k) = refl

pub turn_goes : (bytes : List ℕ) (old new : Said) (number : ℕ) (text line : List ℕ) (behind rest : Option (List ℕ)) → IsTurn bytes old number rest → rest ≡ Some text →
    cut 10 text ≡ record { front = line; behind = behind } → Adds number (meant_of number (content_in line behind)) old new → IsTurn bytes new (number + 1) behind
turn_goes bytes old new number text line behind rest h r c a =
    let later = later_cut h.row h.row.start text in
    let row = next_row h.row later.start in
    let front : (cut 10 text).front ≡ line = ap (λ (x : Cut). x.front) c in
    let left : (cut 10 text).behind ≡ behind = ap (λ (x : Cut). x.behind) c in
    let content : content_in line behind ≡ content_of text = ap (λ (x : Cut). content_in x.front x.behind) (sym c) ∙ sym (content_cut text) in
    let all : lines_in h.row rest ≡ line_at h.row text ∷ lines_in row behind = ap (lines_in h.row) r ∙ ap (λ (ls : List Line). line_at h.row text ∷ ls) (later.lines_are ∙ ap (lines_in row) left) in
    let says_so : meant_of number (content_in line behind) ≡ meant (line_at h.row text) = ap (meant_of number) content ∙ ap (λ (n : ℕ). meant_of n (content_of text)) (sym h.is) in
    let adds : Adds number (meant (line_at h.row text)) old new = subst (λ (m : Meant). Adds number m old new) says_so a in
    let adds_at : Adds h.row.number (meant (line_at h.row text)) old new = subst (λ (n : ℕ). Adds n (meant (line_at h.row text)) old new) (sym h.is) adds in
    let shorter : room_in (cut 10 text).behind ≤ length text = cut_room 10 text in
    let room_left : room_in (cut 10 text).behind ≡ room_in behind = ap room_in left in
    let room_was : room_in rest ≡ suc (length text) = ap room_in r in
    let room = h.room in
    let one : suc h.row.number ≡ number + 1 = (let i = h.is in omega arith) in
    record {
      row = row;
      is = one;
      rows = rows_added h.row.number (meant (line_at h.row text)) old new (rows_read (lines_in row behind)) adds_at ∙ ap (λ (ls : List Line). old.rows ++ rows_read ls) (sym all) ∙ h.rows;
      bad_line = bad_added h.row.number (meant (line_at h.row text)) old new (first_bad (lines_in row behind)) adds_at ∙ ap (λ (ls : List Line). option_or old.bad (first_bad ls)) (sym all) ∙ h.bad_line;
      room = omega arith;
    }

-- ---- the end of a line

pub return_taken : (front : List ℕ) → without_return (front ++ 13 ∷ []) ≡ front
return_taken [] = refl
return_taken (a ∷ []) = refl
return_taken (a ∷ b ∷ bs) = ap (λ (z : List ℕ). a ∷ z) (return_taken (b ∷ bs))

same : (m n : ℕ) → (m == n) ≡ true → m ≡ n
same m n e = grind arith

pub no_return : (front : List ℕ) (last : ℕ) → (last ≡ 13 → ⊥) → without_return (front ++ last ∷ []) ≡ front ++ last ∷ []
no_return [] last h = go (last == 13) refl
  where
    go : (t : Bool) → (last == 13) ≡ t → cond t [] (last ∷ []) ≡ last ∷ []
    go true e = absurd (h (same last 13 e))
    go false e = refl
no_return (a ∷ []) last h = ap (λ (z : List ℕ). a ∷ z) (no_return [] last h)
no_return (a ∷ b ∷ bs) last h = ap (λ (z : List ℕ). a ∷ z) (no_return (b ∷ bs) last h)

pub none_kept : (line : List ℕ) → length line ≡ 0 → line ≡ without_return line
none_kept [] e = refl
none_kept (b ∷ bs) e = absurd (omega arith)

pub last_kept : (line front : List ℕ) (last : ℕ) → line ≡ front ++ last ∷ [] → (last ≡ 13 → ⊥) → line ≡ without_return line
last_kept line front last e h = e ∙ sym (no_return front last h) ∙ ap without_return (sym e)

pub last_taken : (line front : List ℕ) (last : ℕ) → line ≡ front ++ last ∷ [] → last ≡ 13 → front ≡ without_return line
last_taken line front last e h = sym (return_taken front) ∙ ap (λ (b : ℕ). without_return (front ++ b ∷ [])) (sym h) ∙ ap without_return (sym e)

pub turn_nearer : (text line : List ℕ) (behind rest : Option (List ℕ)) → rest ≡ Some text → cut 10 text ≡ record { front = line; behind = behind } → room_in behind < room_in rest
turn_nearer text line behind rest r c =
    let later : room_in (cut 10 text).behind ≡ room_in behind = ap (λ (x : Cut). room_in x.behind) c in
    let whole : room_in rest ≡ suc (length text) = ap room_in r in
    let room = cut_room 10 text in
    omega (arith, later, whole, room)
