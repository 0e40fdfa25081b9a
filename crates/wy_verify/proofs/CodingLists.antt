-- The table of texts as it grows, and lists of code.
use Rattle.std.proofs.Common.{◌≡◌, ℕ, suc, ◌+◌, ◌<◌, Bool, true, false, ◌||◌, List, [], ◌∷◌, ◌++◌, length, map, get_or, take, refl, sym, ap, ◌∙◌, append_assoc, arith, Some}
use Rattle.std.specs.Prelude.{bytes_eq, if◌then◌else◌, cond, unwrap_or}
use Rattle.std.specs.List.{list_any, position, position_from}
use Rattle.std.proofs.lemmas.List.{take_more, length-take}
use Rattle.std.proofs.lemmas.Iterator.Adapters.{position_from-zero}
use Rattle.std.proofs.lemmas.Slice.Eq.{bytes_eq-Decides}
use Rattle.wy_code.specs.EachOnce.{is_among, each_once_after}
use Rattle.wy_code.specs.declared.code.Body as code_body
use Rattle.wy_image.specs.declared.file.Body.{Body}
use Rattle.wy_image.specs.declared.file.Row.{Row}
use Rattle.wy_image.specs.declared.typing.Typing.{Typing}
use Rattle.wy_verified.specs.CodeOf.{instruction_text, rows_texts, bodies_texts, number_in, name_by, placed_of, vals_of, body_of, bodies_of}
use Rattle.wy_code.specs.declared.instruction.Placed.{Placed}
use Rattle.wy_verify.specs.RangeParts.{vals_in}
use Rattle.wy_verify.proofs.RangeNeeds.{vals_same}

------------------------------------------------------------
-- Texts

same_text : (x y : List ℕ) → bytes_eq x y ≡ bytes_eq y x
same_text x y = both (bytes_eq x y) (bytes_eq y x) refl refl
  where
    both : (a b : Bool) → bytes_eq x y ≡ a → bytes_eq y x ≡ b → a ≡ b
    both true true e f = refl
    both false false e f = refl
    both true false e f = (let t : bytes_eq y x ≡ true = (bytes_eq-Decides y x).1 (sym ((bytes_eq-Decides x y).0 e)) in cc)
    both false true e f = (let t : bytes_eq x y ≡ true = (bytes_eq-Decides x y).1 (sym ((bytes_eq-Decides y x).0 f)) in cc)

pub among_is : (x : List ℕ) (ks : List (List ℕ)) → list_any (bytes_eq x) ks ≡ is_among x ks
among_is x [] = refl
among_is x (k ∷ ks) = ap (λ b. b || list_any (bytes_eq x) ks) (same_text x k) ∙ ap (λ b. bytes_eq k x || b) (among_is x ks)

once_append : (seen xs ys : List (List ℕ)) → each_once_after seen (xs ++ ys) ≡ each_once_after (each_once_after seen xs) ys
once_append seen [] ys = refl
once_append seen (x ∷ xs) ys = of (once_append seen xs ys) (once_append (seen ++ x ∷ []) xs ys) (is_among x seen)
  where
    of : each_once_after seen (xs ++ ys) ≡ each_once_after (each_once_after seen xs) ys →
        each_once_after (seen ++ x ∷ []) (xs ++ ys) ≡ each_once_after (each_once_after (seen ++ x ∷ []) xs) ys → (b : Bool) →
        (if b then each_once_after seen (xs ++ ys) else each_once_after (seen ++ x ∷ []) (xs ++ ys)) ≡ each_once_after (if b then each_once_after seen xs else each_once_after (seen ++ x ∷ []) xs) ys
    of h k true = h
    of h k false = k

rows_end : (rs : List Row) (r : Row) → rows_texts (rs ++ r ∷ []) ≡ rows_texts rs ++ instruction_text r.instruction
rows_end [] r = none (instruction_text r.instruction)
  where
    none : (xs : List (List ℕ)) → xs ++ [] ≡ xs
    none [] = refl
    none (x ∷ xs) = ap (λ l. x ∷ l) (none xs)
rows_end (q ∷ rs) r =
    ap (λ l. instruction_text q.instruction ++ l) (rows_end rs r) ∙ sym (append_assoc (instruction_text q.instruction) (rows_texts rs) (instruction_text r.instruction))

bodies_texts_end : (bs : List Body) (b : Body) → bodies_texts (bs ++ b ∷ []) ≡ bodies_texts bs ++ rows_texts b.rows
bodies_texts_end [] b = none (rows_texts b.rows)
  where
    none : (xs : List (List ℕ)) → xs ++ [] ≡ xs
    none [] = refl
    none (x ∷ xs) = ap (λ l. x ∷ l) (none xs)
bodies_texts_end (c ∷ bs) b =
    ap (λ l. rows_texts c.rows ++ l) (bodies_texts_end bs b) ∙ sym (append_assoc (rows_texts c.rows) (bodies_texts bs) (rows_texts b.rows))

-- the texts of one more row
pub rows_more : (rs : List Row) (i : ℕ) (r : Row) → i < length rs → r ≡ get_or rs i r → (old now new : List (List ℕ)) →
    now ≡ each_once_after old (rows_texts (take i rs)) → new ≡ each_once_after now (instruction_text r.instruction) →
    new ≡ each_once_after old (rows_texts (take (i + 1) rs))
rows_more rs i r lt at old now new h e =
    e ∙ ap (λ (t : List (List ℕ)). each_once_after t (instruction_text r.instruction)) h ∙
    sym (once_append old (rows_texts (take i rs)) (instruction_text r.instruction)) ∙ ap (each_once_after old) (sym (rows_end (take i rs) r)) ∙
    ap (λ (l : List Row). each_once_after old (rows_texts l)) (ap (λ (q : Row). take i rs ++ q ∷ []) at ∙ sym (take_more rs i r lt))

-- .. and of one more body
pub texts_more : (bs : List Body) (i : ℕ) (b : Body) → i < length bs → b ≡ get_or bs i b → (old now new : List (List ℕ)) →
    now ≡ each_once_after old (bodies_texts (take i bs)) → new ≡ each_once_after now (rows_texts b.rows) →
    new ≡ each_once_after old (bodies_texts (take (i + 1) bs))
texts_more bs i b lt at old now new h e =
    e ∙ ap (λ (t : List (List ℕ)). each_once_after t (rows_texts b.rows)) h ∙
    sym (once_append old (bodies_texts (take i bs)) (rows_texts b.rows)) ∙ ap (each_once_after old) (sym (bodies_texts_end (take i bs) b)) ∙
    ap (λ (l : List Body). each_once_after old (bodies_texts l)) (ap (λ (q : Body). take i bs ++ q ∷ []) at ∙ sym (take_more bs i b lt))

number_from : (k : ℕ) (x : List ℕ) (ks : List (List ℕ)) → unwrap_or (position_from (bytes_eq x) k ks) (k + length ks) ≡ k + number_in ks x
number_from k x [] = refl
number_from k x (y ∷ ks) = of (number_from (k + 1) x ks) (bytes_eq x y) (bytes_eq y x) (same_text x y)
  where
    of : unwrap_or (position_from (bytes_eq x) (k + 1) ks) (k + 1 + length ks) ≡ k + 1 + number_in ks x → (a b : Bool) → a ≡ b →
        unwrap_or (cond a (Some k) (position_from (bytes_eq x) (k + 1) ks)) (k + suc (length ks)) ≡ k + (if b then 0 else suc (number_in ks x))
    of h true true e = (let z : k ≡ k + 0 = omega arith in z)
    of h false false e =
        (let y : k + suc (length ks) ≡ k + 1 + length ks = omega arith in ap (unwrap_or (position_from (bytes_eq x) (k + 1) ks)) y) ∙ h ∙
        (let z : k + 1 + number_in ks x ≡ k + suc (number_in ks x) = omega arith in z)
    of h true false e = cc
    of h false true e = cc

-- the place of a text
pub text_place : (x : List ℕ) (ks : List (List ℕ)) → unwrap_or (position (bytes_eq x) ks) (length ks) ≡ number_in ks x
text_place x ks =
    ap (λ o. unwrap_or o (length ks)) (position_from-zero (bytes_eq x) ks) ∙
    (let y : length ks ≡ 0 + length ks = omega arith in ap (unwrap_or (position_from (bytes_eq x) 0 ks)) y) ∙
    number_from 0 x ks ∙ (let z : 0 + number_in ks x ≡ number_in ks x = omega arith in z)

------------------------------------------------------------
-- Lists of code

bodies_end : (texts : List (List ℕ)) (ts : List Typing) (k : ℕ) (bs : List Body) (b : Body) →
    bodies_of texts ts k (bs ++ b ∷ []) ≡ bodies_of texts ts k bs ++ body_of texts ts (k + length bs) b ∷ []
bodies_end texts ts k [] b = ap (λ n. body_of texts ts n b ∷ []) (let z : k ≡ k + 0 = omega arith in z)
bodies_end texts ts k (c ∷ bs) b =
    ap (λ (l : List code_body.Body). body_of texts ts k c ∷ l)
    (bodies_end texts ts (suc k) bs b ∙ ap (λ n. bodies_of texts ts (suc k) bs ++ body_of texts ts n b ∷ []) (let z : suc k + length bs ≡ k + suc (length bs) = omega arith in z))

-- one more body of code
pub bodies_more : (texts : List (List ℕ)) (ts : List Typing) (bs : List Body) (i : ℕ) (b : Body) → i < length bs → b ≡ get_or bs i b →
    (now new : List code_body.Body) (c : code_body.Body) → now ≡ bodies_of texts ts 0 (take i bs) → c ≡ body_of texts ts i b → new ≡ now ++ c ∷ [] →
    new ≡ bodies_of texts ts 0 (take (i + 1) bs)
bodies_more texts ts bs i b lt at now new c h e f =
    let l = length-take i bs in
    let k : i ≡ 0 + length (take i bs) = omega (arith, l, lt) in
    f ∙ ap (λ (t : List code_body.Body). t ++ c ∷ []) h ∙
    ap (λ (d : code_body.Body). bodies_of texts ts 0 (take i bs) ++ d ∷ []) (e ∙ ap (λ n. body_of texts ts n b) k) ∙
    sym (bodies_end texts ts 0 (take i bs) b) ∙
    ap (bodies_of texts ts 0) (ap (λ (q : Body). take i bs ++ q ∷ []) at ∙ sym (take_more bs i b lt))

-- a body of code, by its parts
pub body_made : (texts : List (List ℕ)) (ts : List Typing) (k : ℕ) (b : Body) (name : List ℕ) (vals : ℕ) (is : List Placed) →
    name ≡ name_by ts k → vals ≡ vals_in b → is ≡ map (placed_of texts) b.rows →
    (let made : code_body.Body = record { name = name; parameters = b.parameters; vals = vals; slots = b.slots; instructions = is } in made) ≡ body_of texts ts k b
body_made texts ts k b name vals is n v i =
    let w : vals ≡ vals_of b.parameters (map (placed_of texts) b.rows) = v ∙ sym (vals_same texts b) in
    ap (λ (m : List ℕ). let made : code_body.Body = record { name = m; parameters = b.parameters; vals = vals; slots = b.slots; instructions = is } in made) n ∙
    ap (λ (m : ℕ). let made : code_body.Body = record { name = name_by ts k; parameters = b.parameters; vals = m; slots = b.slots; instructions = is } in made) w ∙
    ap (λ (m : List Placed). let made : code_body.Body = record {
      name = name_by ts k;
      parameters = b.parameters;
      vals = vals_of b.parameters (map (placed_of texts) b.rows);
      slots = b.slots;
      instructions = m;
    } in made) i
