-- What tables tell of listed types, of what instances state, and of the methods of literals.
use Rattle.std.proofs.Common.{◌≡◌, ◌≢◌, ℕ, zero, suc, ◌+◌, ◌<◌, Bool, true, false, ◌&&◌, List, [], ◌∷◌, ◌++◌, length, append_assoc, append-nil, Option, Some, None, refl, sym, ap, ◌∙◌, nat_eq, if◌then◌else◌, arith}
use Rattle.std.specs.Prelude.{slice_get}
use Rattle.std.specs.Option.{option_map}
use Rattle.std.proofs.lemmas.Bool.{eq-eqb, ne_eqb}
use Rattle.wy_code.specs.declared.code.Literal.{Literal}
use Rattle.wy_code.specs.declared.code.Method.{Method}
use Rattle.wy_code.specs.declared.code.Scope.{Scope}
use Rattle.wy_code.specs.Machine.{literal_of_scope, body_called}
use Rattle.wy_image.specs.declared.typing.Atom.{Atom}
use Rattle.wy_image.specs.declared.typing.Bounds.{Bounds}
use Rattle.wy_image.specs.declared.typing.Signature.{Signature}
use Rattle.wy_image.specs.declared.typing.Typing.{Typing}
use Rattle.wy_verified.specs.Kinds.{listed_in, listed_method, signature_method, stated_in, stated_by}
use Rattle.wy_verify.specs.declared.tables.Entry.{Entry}
use Rattle.wy_verify.specs.Judging.{body_by}
use Rattle.wy_verify.specs.Tables.{same_pair, same_triple, first_noted, entry_of, items_notes, rows_notes, types_notes, typings_notes, bounds_notes, methods_notes, literals_notes, scopes_notes}
use Rattle.wy_verify.specs.Tables.{listed_items, method_key, method_effect, typing_items, bounds_key, bounds_effect}
use Rattle.wy_verify.proofs.Noting.{or_else, first_both}

module _ {T X : Type 0} (items : T → List X) (key : X → ℕ) (effect : X → List Atom) where
  -- the entry of the first item of a number
  abbrev pub first_entry : ℕ → ℕ → List X → Option Entry
  first_entry n k [] = None
  first_entry n k (x ∷ xs) = if nat_eq (key x) n then Some (entry_of k (effect x)) else first_entry n (suc k) xs

  -- that item
  abbrev pub first_item : ℕ → List X → Option X
  first_item n [] = None
  first_item n (x ∷ xs) = if nat_eq (key x) n then Some x else first_item n xs

  abbrev pub entry_in : ℕ → Option T → Option Entry
  entry_in n None = None
  entry_in n (Some t) = first_entry n 0 (items t)

  items_here : (row k n : ℕ) (xs : List X) → first_noted same_pair (items_notes items key effect row k xs) (row, n) ≡ first_entry n k xs
  items_here row k n [] = refl
  items_here row k n (x ∷ xs) =
      let rest : Option Entry = first_noted same_pair (items_notes items key effect row (suc k) xs) (row, n) in
      ap (λ (b : Bool). if (b && nat_eq (key x) n) then Some (entry_of k (effect x)) else rest) (eq-eqb row row refl) ∙
      ap (λ (o : Option Entry). if nat_eq (key x) n then Some (entry_of k (effect x)) else o) (items_here row (suc k) n xs)

  items_other : (row r k n : ℕ) (xs : List X) → row ≢ r → first_noted same_pair (items_notes items key effect row k xs) (r, n) ≡ None
  items_other row r k n [] ne = refl
  items_other row r k n (x ∷ xs) ne =
      let rest : Option Entry = first_noted same_pair (items_notes items key effect row (suc k) xs) (r, n) in
      ap (λ (b : Bool). if (b && nat_eq (key x) n) then Some (entry_of k (effect x)) else rest) (ne_eqb row r ne) ∙ items_other row r (suc k) n xs ne

  rows_below : (row r n : ℕ) (ts : List T) → r < row → first_noted same_pair (rows_notes items key effect row ts) (r, n) ≡ None
  unfolding or_else
  rows_below row r n [] lt = refl
  rows_below row r n (t ∷ ts) lt =
      let ne : row ≢ r = λ e. omega (arith, e, lt) in
      first_both same_pair (items_notes items key effect row 0 (items t)) (rows_notes items key effect (suc row) ts) (r, n) ∙
      ap (λ (o : Option Entry). or_else o (first_noted same_pair (rows_notes items key effect (suc row) ts) (r, n))) (items_other row r 0 n (items t) ne) ∙
      rows_below (suc row) r n ts (omega (arith, lt))

  or_none : (o : Option Entry) → or_else o None ≡ o
  unfolding or_else
  or_none (Some a) = refl
  or_none None = refl

  -- a table of rows tells the first item of a number
  pub rows_here : (row r i n : ℕ) (ts : List T) → r ≡ row + i → first_noted same_pair (rows_notes items key effect row ts) (r, n) ≡ entry_in n (slice_get ts i)
  unfolding or_else
  rows_here row r i n [] e = refl
  rows_here row r zero n (t ∷ ts) e =
      let same : r ≡ row = omega (arith, e) in
      let later : List ((ℕ × ℕ) × Entry) = rows_notes items key effect (suc row) ts in
      let here : List ((ℕ × ℕ) × Entry) = items_notes items key effect row 0 (items t) in
      first_both same_pair here later (r, n) ∙
      ap (λ (o : Option Entry). or_else (first_noted same_pair here (r, n)) o) (rows_below (suc row) r n ts (omega (arith, same))) ∙
      or_none (first_noted same_pair here (r, n)) ∙
      ap (λ (x : ℕ). first_noted same_pair here (x, n)) same ∙
      items_here row 0 n (items t)
  rows_here row r (suc i) n (t ∷ ts) e =
      let ne : row ≢ r = λ f. omega (arith, e, f) in
      first_both same_pair (items_notes items key effect row 0 (items t)) (rows_notes items key effect (suc row) ts) (r, n) ∙
      ap (λ (o : Option Entry). or_else o (first_noted same_pair (rows_notes items key effect (suc row) ts) (r, n))) (items_other row r 0 n (items t) ne) ∙
      rows_here (suc row) r i n ts (omega (arith, e))

  -- where there is no entry there is no item
  pub no_entry : (n k : ℕ) (xs : List X) → first_entry n k xs ≡ None → first_item n xs ≡ None
  no_entry n k [] e = refl
  no_entry n k (x ∷ xs) e =
      (elim (nat_eq (key x) n) as (λ b. (if b then Some (entry_of k (effect x)) else first_entry n (suc k) xs) ≡ None → (if b then Some x else first_item n xs) ≡ None) [
        | true ↦ λ f. cc
        | false ↦ λ f. no_entry n (suc k) xs f
      ]) e

  -- an entry has the item's place and its effect
  pub record IsEntry (n k : ℕ) (xs : List X) (e : Entry) : Type 0 where
    pub at : ℕ
    pub item : X
    pub there : slice_get xs at ≡ Some item
    pub place : e.place ≡ k + at
    pub numbers : e ≡ entry_of (k + at) (effect item)
    pub first : first_item n xs ≡ Some item

  pub an_entry : (n k : ℕ) (xs : List X) (e : Entry) → first_entry n k xs ≡ Some e → IsEntry n k xs e
  an_entry n k [] e f = cc
  an_entry n k (x ∷ xs) e f =
      (elim (nat_eq (key x) n) as (λ b. nat_eq (key x) n ≡ b → (if b then Some (entry_of k (effect x)) else first_entry n (suc k) xs) ≡ Some e → IsEntry n k (x ∷ xs) e) [
        | true ↦ λ h g. (
            let is : entry_of k (effect x) ≡ e = cc in
            let z : k ≡ k + 0 = omega arith in
            record {
              at = 0;
              item = x;
              there = refl;
              place = ap (λ (y : Entry). y.place) (sym is) ∙ z;
              numbers = sym is ∙ ap (λ (j : ℕ). entry_of j (effect x)) z;
              first = ap (λ (b : Bool). if b then Some x else first_item n xs) h;
            })
        | false ↦ λ h g. (
            let r = an_entry n (suc k) xs e g in
            let z : suc k + r.at ≡ k + suc r.at = omega arith in
            record {
              at = suc r.at;
              item = r.item;
              there = r.there;
              place = r.place ∙ z;
              numbers = r.numbers ∙ ap (λ (j : ℕ). entry_of j (effect r.item)) z;
              first = ap (λ (b : Bool). if b then Some x else first_item n xs) h ∙ r.first;
            })
      ]) refl f

------------------------------------------------------------
-- Listed types and what is stated

-- the first signature of a number is the method
listed_is : (m : ℕ) (ss : List Signature) → listed_in m ss ≡ option_map (signature_method 0) (first_item listed_items method_key method_effect m ss)
listed_is m [] = refl
listed_is m (s ∷ ss) =
    elim (nat_eq s.method m) as (λ b. (if b then Some (signature_method 0 s) else listed_in m ss) ≡ option_map (signature_method 0) (if b then Some s else first_item listed_items method_key method_effect m ss)) [
      | true ↦ refl
      | false ↦ listed_is m ss
    ]

stated_is : (b : ℕ) (bs : List Bounds) → stated_in b bs ≡ first_item typing_items bounds_key bounds_effect b bs
stated_is b [] = refl
stated_is b (s ∷ bs) = ap (λ (o : Option Bounds). if nat_eq s.body b then Some s else o) (stated_is b bs)

-- no entry, no method of a listed type
pub listed_none : (types : List (List Signature)) (t m : ℕ) → first_noted same_pair (types_notes 0 types) (t, m) ≡ None → listed_method (slice_get types t) m ≡ None
listed_none types t m e = of_type (slice_get types t) (sym (rows_here listed_items method_key method_effect 0 t t m types (omega arith)) ∙ e)
  where
    of_type : (o : Option (List Signature)) → entry_in listed_items method_key method_effect m o ≡ None → listed_method o m ≡ None
    of_type None f = refl
    of_type (Some ss) f = listed_is m ss ∙ ap (λ (o : Option Signature). option_map (signature_method 0) o) (no_entry listed_items method_key method_effect m 0 ss f)

-- a method of a listed type, with its entry
pub record ListedEntry (types : List (List Signature)) (t m : ℕ) (e : Entry) : Type 0 where
  pub methods : List Signature
  pub signature : Signature
  pub type_there : slice_get types t ≡ Some methods
  pub there : slice_get methods e.place ≡ Some signature
  pub numbers : e ≡ entry_of e.place signature.effect
  pub found : listed_method (slice_get types t) m ≡ Some (signature_method 0 signature)

pub listed_some : (types : List (List Signature)) (t m : ℕ) (e : Entry) → first_noted same_pair (types_notes 0 types) (t, m) ≡ Some e → ListedEntry types t m e
listed_some types t m e f =
    of_type (slice_get types t) refl (sym (rows_here listed_items method_key method_effect 0 t t m types (omega arith)) ∙ f)
  where
    of_type : (o : Option (List Signature)) → slice_get types t ≡ o → entry_in listed_items method_key method_effect m o ≡ Some e → ListedEntry types t m e
    of_type None g h = cc
    of_type (Some ss) g h =
        let r = an_entry listed_items method_key method_effect m 0 ss e h in
        let z : 0 + r.at ≡ r.at = omega arith in
        let p : e.place ≡ r.at = r.place ∙ z in
        record {
          methods = ss;
          signature = r.item;
          type_there = g;
          there = ap (slice_get ss) p ∙ r.there;
          numbers = r.numbers ∙ ap (λ (j : ℕ). entry_of j r.item.effect) (z ∙ sym p);
          found = ap (λ (o : Option (List Signature)). listed_method o m) g ∙ listed_is m ss ∙ ap (λ (o : Option Signature). option_map (signature_method 0) o) r.first;
        }

-- no entry, nothing stated
pub stated_none : (typings : List Typing) (x b : ℕ) → first_noted same_pair (typings_notes 0 typings) (x, b) ≡ None → stated_by (slice_get typings x) b ≡ None
stated_none typings x b e = of_typing (slice_get typings x) (sym (rows_here typing_items bounds_key bounds_effect 0 x x b typings (omega arith)) ∙ e)
  where
    of_typing : (o : Option Typing) → entry_in typing_items bounds_key bounds_effect b o ≡ None → stated_by o b ≡ None
    of_typing None f = refl
    of_typing (Some t) f = stated_is b t.bodies ∙ no_entry typing_items bounds_key bounds_effect b 0 t.bodies f

-- what is stated of a body, with its entry
pub record StatedEntry (typings : List Typing) (x b : ℕ) (e : Entry) : Type 0 where
  pub typing : Typing
  pub bounds : Bounds
  pub typing_there : slice_get typings x ≡ Some typing
  pub there : slice_get typing.bodies e.place ≡ Some bounds
  pub numbers : e ≡ entry_of e.place bounds.effect
  pub found : stated_by (slice_get typings x) b ≡ Some bounds

pub stated_some : (typings : List Typing) (x b : ℕ) (e : Entry) → first_noted same_pair (typings_notes 0 typings) (x, b) ≡ Some e → StatedEntry typings x b e
stated_some typings x b e f =
    of_typing (slice_get typings x) refl (sym (rows_here typing_items bounds_key bounds_effect 0 x x b typings (omega arith)) ∙ f)
  where
    of_typing : (o : Option Typing) → slice_get typings x ≡ o → entry_in typing_items bounds_key bounds_effect b o ≡ Some e → StatedEntry typings x b e
    of_typing None g h = cc
    of_typing (Some t) g h =
        let r = an_entry typing_items bounds_key bounds_effect b 0 t.bodies e h in
        let z : 0 + r.at ≡ r.at = omega arith in
        let p : e.place ≡ r.at = r.place ∙ z in
        record {
          typing = t;
          bounds = r.item;
          typing_there = g;
          there = ap (slice_get t.bodies) p ∙ r.there;
          numbers = r.numbers ∙ ap (λ (j : ℕ). entry_of j r.item.effect) (z ∙ sym p);
          found = ap (λ (o : Option Typing). stated_by o b) g ∙ stated_is b t.bodies ∙ r.first;
        }

-- what one instance more states
pub typings_last : (row : ℕ) (ts : List Typing) (t : Typing) → typings_notes row (ts ++ t ∷ []) ≡ typings_notes row ts ++ bounds_notes (row + length ts) 0 t.bodies
typings_last row [] t = last_alone
  where
    last_alone : bounds_notes row 0 t.bodies ++ [] ≡ bounds_notes (row + 0) 0 t.bodies
    last_alone = append-nil (bounds_notes row 0 t.bodies) ∙ ap (λ (n : ℕ). bounds_notes n 0 t.bodies) (let z : row ≡ row + 0 = omega arith in z)
typings_last row (x ∷ ts) t =
    ap (λ l. bounds_notes row 0 x.bodies ++ l) (typings_last (suc row) ts t) ∙
    sym (append_assoc (bounds_notes row 0 x.bodies) (typings_notes (suc row) ts) (bounds_notes (suc row + length ts) 0 t.bodies)) ∙
    ap (λ (n : ℕ). (bounds_notes row 0 x.bodies ++ typings_notes (suc row) ts) ++ bounds_notes n 0 t.bodies) (let z : suc row + length ts ≡ row + suc (length ts) = omega arith in z)

------------------------------------------------------------
-- The methods of literals

methods_here : (s l m : ℕ) (ms : List Method) → first_noted same_triple (methods_notes s l ms) (s, l, m) ≡ body_called m ms
methods_here s l m [] = refl
methods_here s l m (x ∷ ms) =
    let rest : Option ℕ = first_noted same_triple (methods_notes s l ms) (s, l, m) in
    ap (λ (b : Bool). if ((b && nat_eq l l) && nat_eq x.method m) then Some x.body else rest) (eq-eqb s s refl) ∙
    ap (λ (b : Bool). if (b && nat_eq x.method m) then Some x.body else rest) (eq-eqb l l refl) ∙
    ap (λ (o : Option ℕ). if nat_eq x.method m then Some x.body else o) (methods_here s l m ms)

methods_other : (s l t k m : ℕ) (ms : List Method) → (nat_eq s t && nat_eq l k) ≡ false → first_noted same_triple (methods_notes s l ms) (t, k, m) ≡ None
methods_other s l t k m [] ne = refl
methods_other s l t k m (x ∷ ms) ne =
    let rest : Option ℕ = first_noted same_triple (methods_notes s l ms) (t, k, m) in
    ap (λ (b : Bool). if (b && nat_eq x.method m) then Some x.body else rest) ne ∙ methods_other s l t k m ms ne

and_false : (p q : Bool) → q ≡ false → (p && q) ≡ false
and_false true q e = e
and_false false q e = refl

none_both : (a b : Option ℕ) → a ≡ None → b ≡ None → or_else a b ≡ None
unfolding or_else
none_both a b e f = ap (λ (o : Option ℕ). or_else o b) e ∙ f

none_first : (a b : Option ℕ) → a ≡ None → or_else a b ≡ b
unfolding or_else
none_first a b e = ap (λ (o : Option ℕ). or_else o b) e

none_behind : (o : Option ℕ) → or_else o None ≡ o
unfolding or_else
none_behind (Some x) = refl
none_behind None = refl

none_last : (a b : Option ℕ) → b ≡ None → or_else a b ≡ a
none_last a b e = ap (or_else a) e ∙ none_behind a

literals_other : (s l t k m : ℕ) (xs : List Literal) → s ≢ t → first_noted same_triple (literals_notes s l xs) (t, k, m) ≡ None
literals_other s l t k m [] ne = refl
literals_other s l t k m (x ∷ xs) ne =
    first_both same_triple (methods_notes s l x.methods) (literals_notes s (suc l) xs) (t, k, m) ∙
    none_both (first_noted same_triple (methods_notes s l x.methods) (t, k, m)) (first_noted same_triple (literals_notes s (suc l) xs) (t, k, m))
    (methods_other s l t k m x.methods (ap (λ (b : Bool). b && nat_eq l k) (ne_eqb s t ne))) (literals_other s (suc l) t k m xs ne)

literals_below : (s l k m : ℕ) (xs : List Literal) → k < l → first_noted same_triple (literals_notes s l xs) (s, k, m) ≡ None
literals_below s l k m [] lt = refl
literals_below s l k m (x ∷ xs) lt =
    first_both same_triple (methods_notes s l x.methods) (literals_notes s (suc l) xs) (s, k, m) ∙
    none_both (first_noted same_triple (methods_notes s l x.methods) (s, k, m)) (first_noted same_triple (literals_notes s (suc l) xs) (s, k, m))
    (methods_other s l s k m x.methods (and_false (nat_eq s s) (nat_eq l k) (ne_eqb l k (λ e. omega (arith, e, lt))))) (literals_below s (suc l) k m xs (omega (arith, lt)))

literals_here : (s l k i m : ℕ) (xs : List Literal) → k ≡ l + i → first_noted same_triple (literals_notes s l xs) (s, k, m) ≡ body_by (slice_get xs i) m
literals_here s l k i m [] e = refl
literals_here s l k zero m (x ∷ xs) e =
    let same : k ≡ l = omega (arith, e) in
    first_both same_triple (methods_notes s l x.methods) (literals_notes s (suc l) xs) (s, k, m) ∙
    none_last (first_noted same_triple (methods_notes s l x.methods) (s, k, m)) (first_noted same_triple (literals_notes s (suc l) xs) (s, k, m))
    (literals_below s (suc l) k m xs (omega (arith, same))) ∙
    ap (λ (n : ℕ). first_noted same_triple (methods_notes s l x.methods) (s, n, m)) same ∙ methods_here s l m x.methods
literals_here s l k (suc i) m (x ∷ xs) e =
    first_both same_triple (methods_notes s l x.methods) (literals_notes s (suc l) xs) (s, k, m) ∙
    none_first (first_noted same_triple (methods_notes s l x.methods) (s, k, m)) (first_noted same_triple (literals_notes s (suc l) xs) (s, k, m))
    (methods_other s l s k m x.methods (and_false (nat_eq s s) (nat_eq l k) (ne_eqb l k (λ f. omega (arith, e, f))))) ∙
    literals_here s (suc l) k i m xs (omega (arith, e))

scopes_below : (s t k m : ℕ) (xs : List Scope) → t < s → first_noted same_triple (scopes_notes s xs) (t, k, m) ≡ None
scopes_below s t k m [] lt = refl
scopes_below s t k m (x ∷ xs) lt =
    first_both same_triple (literals_notes s 0 x.literals) (scopes_notes (suc s) xs) (t, k, m) ∙
    none_both (first_noted same_triple (literals_notes s 0 x.literals) (t, k, m)) (first_noted same_triple (scopes_notes (suc s) xs) (t, k, m))
    (literals_other s 0 t k m x.literals (λ e. omega (arith, e, lt))) (scopes_below (suc s) t k m xs (omega (arith, lt)))

scopes_here : (s t j k m : ℕ) (xs : List Scope) → t ≡ s + j → first_noted same_triple (scopes_notes s xs) (t, k, m) ≡ body_by (literal_of_scope (slice_get xs j) k) m
scopes_here s t j k m [] e = refl
scopes_here s t zero k m (x ∷ xs) e =
    let same : t ≡ s = omega (arith, e) in
    first_both same_triple (literals_notes s 0 x.literals) (scopes_notes (suc s) xs) (t, k, m) ∙
    none_last (first_noted same_triple (literals_notes s 0 x.literals) (t, k, m)) (first_noted same_triple (scopes_notes (suc s) xs) (t, k, m))
    (scopes_below (suc s) t k m xs (omega (arith, same))) ∙
    ap (λ (n : ℕ). first_noted same_triple (literals_notes s 0 x.literals) (n, k, m)) same ∙ literals_here s 0 k k m x.literals (omega arith)
scopes_here s t (suc j) k m (x ∷ xs) e =
    first_both same_triple (literals_notes s 0 x.literals) (scopes_notes (suc s) xs) (t, k, m) ∙
    none_first (first_noted same_triple (literals_notes s 0 x.literals) (t, k, m)) (first_noted same_triple (scopes_notes (suc s) xs) (t, k, m))
    (literals_other s 0 t k m x.literals (λ f. omega (arith, e, f))) ∙
    scopes_here (suc s) t j k m xs (omega (arith, e))

-- the table of scopes tells the body that a method of a literal has
pub called_here : (scopes : List Scope) (s l m : ℕ) → first_noted same_triple (scopes_notes 0 scopes) (s, l, m) ≡ body_by (literal_of_scope (slice_get scopes s) l) m
called_here scopes s l m = scopes_here 0 s s l m scopes (omega arith)
