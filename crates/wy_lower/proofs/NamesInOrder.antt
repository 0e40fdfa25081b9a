-- The texts that the instructions of a program push are those that it writes out, in their order, and the methods that
-- they call are those of its calls.
use Rattle.std.proofs.Common.{◌≡◌, ℕ, ◌+◌, Bool, true, false, List, [], ◌∷◌, ◌++◌, length, map, Option, Some, None, inl, inr, refl, sym, ap, ap₂, ◌∙◌, append_assoc, append-nil, nat_eq, if◌then◌else◌}
use Rattle.std.specs.Prelude.{slice_get}
use Rattle.wy_text.specs.Members.{In}
use Rattle.wy_text.specs.declared.fault.Place.{Place}
use Rattle.wy_types.specs.declared.code.BinaryOperator.{BinaryOperator}
use Rattle.wy_types.specs.declared.code.BinaryOperator.TheVariants as binary
use Rattle.wy_types.specs.declared.code.Binding.{Binding}
use Rattle.wy_types.specs.declared.code.Binding.TheVariants as to
use Rattle.wy_types.specs.declared.linked.Actual.{Actual}
use Rattle.wy_types.specs.declared.linked.Actual.TheVariants as actual
use Rattle.wy_types.specs.declared.resolved.Literal.{Literal}
use Rattle.wy_types.specs.Code as code
use Rattle.wy_types.specs.Code.{Expr, Number, Quoted, Truth, Nothing, This, Name, Unary, Binary, TextCall, Call, New, Ascribe, Assign, Plain, If, Values, none, more, Block, Last, Then, Val}
use Rattle.wy_types.specs.Vals.{value_count}
use Rattle.wy_types.specs.Program.{Program, Scope, Body, Start, Init, Run}
use Rattle.wy_meaning.specs.Starts.{Starts}
use Rattle.wy_code.specs.declared.instruction.Constant.TheVariants as constant
use Rattle.wy_code.specs.declared.instruction.Instruction.{Instruction}
use Rattle.wy_code.specs.declared.instruction.Instruction.TheVariants as does
use Rattle.wy_code.specs.declared.instruction.Placed.{Placed}
use Rattle.wy_code.specs.declared.code.Body as b
use Rattle.wy_code.specs.declared.code.Method.{Method}
use Rattle.wy_code.specs.Named.{text_at, numbered, text_pushed, method_called, named_in, named_by, kinds_entries, scopes_entries, HasPushedTexts, HasCalledMethods}
use Rattle.wy_code.specs.EachOnce.{each_once}
use Rattle.wy_lower.specs.Inside.{Inside, is_own, val_slot, slot_of, capture_value, field_value, assigned_value, handed_constant, name_code}
use Rattle.wy_lower.specs.Listing.{placed, one, unary_code, text_code, value_mark, sides, binary_listing, listing, value_listing, values_listing, block_listing, fields_listing}
use Rattle.wy_lower.specs.Lowering.{owned_names, kinds_names, entry_names, text_table, method_table, inside_start, inside_body, start_listing, bodies_code, scopes_bodies, methods_code, literals_code, scopes_code, lowered}
use Rattle.wy_lower.specs.Parts.{expr_parts, value_parts, values_parts, block_parts, start_parts, bodies_parts, scope_parts, scopes_parts, texts_in, calls_in, number_in}
use Rattle.wy_lower.proofs.Numbers.{has_texts, has_method_names}

pub named_append : (f : Instruction → List ℕ) (xs ys : List Placed) → named_in f (xs ++ ys) ≡ named_in f xs ++ named_in f ys
named_append f [] ys = refl
named_append f (x ∷ xs) ys = ap (λ l. f x.instruction ++ l) (named_append f xs ys) ∙ sym (append_assoc (f x.instruction) (named_in f xs) (named_in f ys))

named_append_bodies : (f : Instruction → List ℕ) (xs ys : List b.Body) → named_by f (xs ++ ys) ≡ named_by f xs ++ named_by f ys
named_append_bodies f [] ys = refl
named_append_bodies f (x ∷ xs) ys = ap (λ l. named_in f x.instructions ++ l) (named_append_bodies f xs ys)
    ∙ sym (append_assoc (named_in f x.instructions) (named_by f xs) (named_by f ys))

module _ (f g : Instruction → List ℕ) (same : (x : Instruction) → f x ≡ g x) where
  same_in : (xs : List Placed) → named_in f xs ≡ named_in g xs
  same_in [] = refl
  same_in (x ∷ xs) = ap₂ (λ l r. l ++ r) (same x.instruction) (same_in xs)

  same_by : (bs : List b.Body) → named_by f bs ≡ named_by g bs
  same_by [] = refl
  same_by (x ∷ xs) = ap₂ (λ l r. l ++ r) (same_in x.instructions) (same_by xs)

------------------------------------------------------------
-- What instructions name, texts by t and methods by m

module _ (t m : ℕ → List ℕ) where
  abbrev picked : Instruction → List ℕ
  picked (does.Push (constant.Text k)) = t k
  picked (does.Push (constant.Int n)) = []
  picked (does.Push (constant.Truth c)) = []
  picked (does.Push constant.Unit) = []
  picked (does.Push (constant.Grant g)) = []
  picked (does.Push (constant.Instance x)) = []
  picked (does.Load i) = []
  picked (does.Store i) = []
  picked (does.Get i) = []
  picked (does.Set i) = []
  picked does.Drop = []
  picked (does.Op o) = []
  picked (does.Jump to) = []
  picked (does.JumpFalse to) = []
  picked (does.New l) = []
  picked (does.Call k n) = m k
  picked does.Return = []
  picked does.Finish = []

  module _ (texts methods : List (List ℕ)) where
    abbrev part : Expr → List ℕ
    part (Number place n) = []
    part (Quoted place bytes) = t (number_in texts bytes)
    part (Truth place c) = []
    part (Nothing place) = []
    part (This place) = []
    part (Name place name) = []
    part (Unary place o x) = []
    part (Binary place o x y) = []
    part (TextCall place o xs) = []
    part (Call place x name xs) = m (number_in methods name)
    part (New place l xs) = []
    part (Ascribe place x u) = []
    part (Assign place name x) = []

    abbrev parts : List Expr → List ℕ
    parts [] = []
    parts (e ∷ es) = part e ++ parts es

    parts_append : (es fs : List Expr) → parts (es ++ fs) ≡ parts es ++ parts fs
    parts_append [] fs = refl
    parts_append (e ∷ es) fs = ap (λ l. part e ++ l) (parts_append es fs) ∙ sym (append_assoc (part e) (parts es) (parts fs))

  module _ (i : Inside) where
    abbrev named : List Placed → List ℕ
    named xs = named_in picked xs

    abbrev expected : List Expr → List ℕ
    expected es = parts i.texts i.methods es

    -- a form whose own instructions name nothing
    quiet_end : (xs ys : List Placed) (es : List Expr) → named ys ≡ [] → named xs ≡ expected es → named (xs ++ ys) ≡ expected es
    quiet_end xs ys es quiet h = named_append picked xs ys ∙ ap₂ (λ l r. l ++ r) h quiet ∙ append-nil (expected es)

    two : (xs ys : List Placed) (es fs : List Expr) → named xs ≡ expected es → named ys ≡ expected fs → named (xs ++ ys) ≡ expected (es ++ fs)
    two xs ys es fs h k = named_append picked xs ys ∙ ap₂ (λ l r. l ++ r) h k ∙ sym (parts_append i.texts i.methods es fs)

    two_sides : (place : Place) (at : ℕ) (first second : ℕ → List Placed) (es fs : List Expr) → ((n : ℕ) → named (first n) ≡ expected es) → ((n : ℕ) → named (second n) ≡ expected fs) →
        named (sides place at first second) ≡ expected (es ++ fs)
    two_sides place at first second es fs h k =
        named_append picked (first (at + 1)) _ ∙ ap₂ (λ l r. l ++ r) (h (at + 1)) (k (at + 1 + length (first (at + 1)) + 1)) ∙ sym (parts_append i.texts i.methods es fs)

    name_quiet : (name : Binding) → picked (name_code i name) ≡ []
    name_quiet (to.Variable x) = of (is_own i x)
      where
        of : (c : Bool) → picked (if c then does.Load (slot_of i x) else does.Get (capture_value i x)) ≡ []
        of true = refl
        of false = refl
    name_quiet (to.Field k) = refl
    name_quiet (to.Own k) = of i.program (slice_get i.actuals k)
      where
        of : (c : Bool) (o : Option Actual) → picked (if c then does.Push (handed_constant o) else does.Get k) ≡ []
        of true None = refl
        of true (Some (actual.Grant g)) = refl
        of true (Some (actual.Instance x)) = refl
        of false o = refl

    binary_named : (place : Place) (o : BinaryOperator) (at : ℕ) (xs : List Placed) (right : ℕ → List Placed) (es fs : List Expr) → named xs ≡ expected es →
        ((n : ℕ) → named (right n) ≡ expected fs) → named (binary_listing place o at xs right) ≡ expected (es ++ fs)
    binary_named place binary.And at xs right es fs h k =
        two xs _ es fs h (two_sides place (at + length xs) right (λ at. one place (does.Push (constant.Truth false))) fs [] k (λ n. refl) ∙ ap expected (append-nil fs))
    binary_named place binary.Or at xs right es fs h k = two xs _ es fs h (two_sides place (at + length xs) (λ at. one place (does.Push (constant.Truth true))) right [] fs (λ n. refl) k)
    binary_named place o at xs right es fs h k = two xs _ es fs h (quiet_end (right (at + length xs)) _ fs refl (k (at + length xs)))

    mutual
      unfolding listing

      expr_named : (e : Expr) (at : ℕ) → named_in picked (listing i at e) ≡ expected (expr_parts e)
      expr_named (Number place n) at = refl
      expr_named (Quoted place bytes) at = refl
      expr_named (Truth place c) at = refl
      expr_named (Nothing place) at = refl
      expr_named (This place) at = refl
      expr_named (Name place name) at = ap (λ l. l ++ []) (name_quiet name)
      expr_named (Unary place o x) at = quiet_end (listing i at x) (one place (does.Op (unary_code o))) (expr_parts x) refl (expr_named x at)
      expr_named (Binary place o x y) at = binary_named place o at _ (λ at. listing i at y) (expr_parts x) (expr_parts y) (expr_named x at) (λ n. expr_named y n)
      expr_named (TextCall place o xs) at = quiet_end (values_listing i at xs) (one place (does.Op (text_code o))) (values_parts xs) refl (values_named xs at)
      expr_named (Call place x method xs) at =
          two (listing i at x) _ (expr_parts x) (values_parts xs ++ Call place x method xs ∷ []) (expr_named x at)
          (two (values_listing i (at + length (listing i at x)) xs) (one place (does.Call (number_in i.methods method) (value_count xs))) (values_parts xs) (Call place x method xs ∷ []) (values_named xs (at + length (listing i at x))) refl)
      expr_named (New place l xs) at = quiet_end (values_listing i at xs) (one place (does.New l)) (values_parts xs) refl (values_named xs at)
      expr_named (Ascribe place x u) at = value_named x at
      expr_named (Assign place name x) at = quiet_end (value_listing i at x) (placed place (does.Set (assigned_value i name)) ∷ one place (does.Push constant.Unit)) (value_parts x) refl (value_named x at)

      value_named : (x : code.Value) (at : ℕ) → named_in picked (value_listing i at x) ≡ expected (value_parts x)
      value_named (Plain x) at = expr_named x at
      value_named (If place test first second) at =
          two (listing i at test) _ (expr_parts test) (block_parts first ++ block_parts second) (expr_named test at)
          (two_sides place (at + length (listing i at test)) (λ at. block_listing i at first) (λ at. block_listing i at second) (block_parts first) (block_parts second) (λ n. block_named first n) (λ n. block_named second n))

      values_named : (xs : Values) (at : ℕ) → named_in picked (values_listing i at xs) ≡ expected (values_parts xs)
      values_named none at = refl
      values_named (more x xs) at = two (value_listing i at x) _ (value_parts x) (values_parts xs) (value_named x at) (values_named xs (at + length (value_listing i at x)))

      block_named : (x : Block) (at : ℕ) → named_in picked (block_listing i at x) ≡ expected (block_parts x)
      block_named (Last x) at = value_named x at
      block_named (Then x rest) at =
          let xs = value_listing i at x ++ one (value_mark x) does.Drop in
          two xs (block_listing i (at + length xs) rest) (value_parts x) (block_parts rest) (quiet_end (value_listing i at x) (one (value_mark x) does.Drop) (value_parts x) refl (value_named x at)) (block_named rest (at + length xs))
      block_named (Val place n typ x rest) at =
          let store = one place (does.Store (val_slot i n)) in
          let xs = value_listing i at x ++ store in
          two xs (block_listing i (at + length xs) rest) (value_parts x) (block_parts rest) (quiet_end (value_listing i at x) store (value_parts x) refl (value_named x at)) (block_named rest (at + length xs))

    fields_named : (xs : Values) (k at : ℕ) → named_in picked (fields_listing i at k xs) ≡ expected (values_parts xs)
    unfolding fields_listing
    fields_named none k at = refl
    fields_named (more x xs) k at =
        let set = one (value_mark x) (does.Set (field_value i k)) in
        let ys = value_listing i at x ++ set in
        two ys (fields_listing i (at + length ys) (k + 1) xs) (value_parts x) (values_parts xs) (quiet_end (value_listing i at x) set (value_parts x) refl (value_named x at)) (fields_named xs (k + 1) (at + length ys))

    start_named : (s : Start) → named_in picked (start_listing i s) ≡ expected (start_parts s)
    start_named (Init values) = fields_named values 0 0
    start_named (Run block) = block_named block 0

  module _ (p : Program) (s : Starts) where
    abbrev whole : List Expr → List ℕ
    whole es = parts (text_table p) (method_table p) es

    whole_append : (es fs : List Expr) → whole (es ++ fs) ≡ whole es ++ whole fs
    whole_append es fs = parts_append (text_table p) (method_table p) es fs

    methods_named : (sc : Scope) (k : ℕ) (bodies : List Body) → named_by picked (bodies_code p s sc k bodies) ≡ whole (bodies_parts bodies)
    methods_named sc k [] = refl
    methods_named sc k (x ∷ xs) =
        let i : Inside = inside_body p s sc k x in
        ap₂ (λ l r. l ++ r) (quiet_end i (block_listing i 0 x.block) (one x.place does.Return) (block_parts x.block) refl (block_named i x.block 0)) (methods_named sc (k + 1) xs)
        ∙ sym (whole_append (block_parts x.block) (bodies_parts xs))

    bodies_named : (scopes : List Scope) → named_by picked (scopes_bodies p s scopes) ≡ whole (scopes_parts scopes)
    bodies_named [] = refl
    bodies_named (sc ∷ scs) =
        let i : Inside = inside_start p s sc in
        let start = start_parts sc.start in
        let bodies = bodies_parts sc.bodies in
        let rest = scopes_parts scs in
        ap₂ (λ l r. l ++ r) (quiet_end i (start_listing i sc.start) (one sc.start_place does.Finish) start refl (start_named i sc.start))
        (named_append_bodies picked (bodies_code p s sc 0 sc.bodies) (scopes_bodies p s scs)
        ∙ ap₂ (λ l r. l ++ r) (methods_named sc 0 sc.bodies) (bodies_named scs))
        ∙ sym (append_assoc (whole start) (whole bodies) (whole rest))
        ∙ ap (λ l. l ++ whole rest) (sym (whole_append start bodies))
        ∙ sym (whole_append (scope_parts sc) rest)

------------------------------------------------------------
-- Texts and methods

abbrev itself : ℕ → List ℕ
itself k = k ∷ []

abbrev nothing : ℕ → List ℕ
nothing k = []

text_is : (x : Instruction) → text_pushed x ≡ picked itself nothing x
text_is (does.Push (constant.Text k)) = refl
text_is (does.Push (constant.Int n)) = refl
text_is (does.Push (constant.Truth c)) = refl
text_is (does.Push constant.Unit) = refl
text_is (does.Push (constant.Grant g)) = refl
text_is (does.Push (constant.Instance x)) = refl
text_is (does.Load i) = refl
text_is (does.Store i) = refl
text_is (does.Get i) = refl
text_is (does.Set i) = refl
text_is does.Drop = refl
text_is (does.Op o) = refl
text_is (does.Jump to) = refl
text_is (does.JumpFalse to) = refl
text_is (does.New l) = refl
text_is (does.Call k n) = refl
text_is does.Return = refl
text_is does.Finish = refl

method_is : (x : Instruction) → method_called x ≡ picked nothing itself x
method_is (does.Push (constant.Text k)) = refl
method_is (does.Push (constant.Int n)) = refl
method_is (does.Push (constant.Truth c)) = refl
method_is (does.Push constant.Unit) = refl
method_is (does.Push (constant.Grant g)) = refl
method_is (does.Push (constant.Instance x)) = refl
method_is (does.Load i) = refl
method_is (does.Store i) = refl
method_is (does.Get i) = refl
method_is (does.Set i) = refl
method_is does.Drop = refl
method_is (does.Op o) = refl
method_is (does.Jump to) = refl
method_is (does.JumpFalse to) = refl
method_is (does.New l) = refl
method_is (does.Call k n) = refl
method_is does.Return = refl
method_is does.Finish = refl

module _ (T M : List (List ℕ)) where
  texts_are : (es : List Expr) → parts itself nothing T M es ≡ map (number_in T) (texts_in es)
  texts_are [] = refl
  texts_are (Quoted place bytes ∷ es) = ap (λ l. number_in T bytes ∷ l) (texts_are es)
  texts_are (Number place n ∷ es) = texts_are es
  texts_are (Truth place c ∷ es) = texts_are es
  texts_are (Nothing place ∷ es) = texts_are es
  texts_are (This place ∷ es) = texts_are es
  texts_are (Name place name ∷ es) = texts_are es
  texts_are (Unary place o x ∷ es) = texts_are es
  texts_are (Binary place o x y ∷ es) = texts_are es
  texts_are (TextCall place o xs ∷ es) = texts_are es
  texts_are (Call place x name xs ∷ es) = texts_are es
  texts_are (New place l xs ∷ es) = texts_are es
  texts_are (Ascribe place x u ∷ es) = texts_are es
  texts_are (Assign place name x ∷ es) = texts_are es

  calls_are : (es : List Expr) → parts nothing itself T M es ≡ map (number_in M) (calls_in es)
  calls_are [] = refl
  calls_are (Call place x name xs ∷ es) = ap (λ l. number_in M name ∷ l) (calls_are es)
  calls_are (Quoted place bytes ∷ es) = calls_are es
  calls_are (Number place n ∷ es) = calls_are es
  calls_are (Truth place c ∷ es) = calls_are es
  calls_are (Nothing place ∷ es) = calls_are es
  calls_are (This place ∷ es) = calls_are es
  calls_are (Name place name ∷ es) = calls_are es
  calls_are (Unary place o x ∷ es) = calls_are es
  calls_are (Binary place o x y ∷ es) = calls_are es
  calls_are (TextCall place o xs ∷ es) = calls_are es
  calls_are (New place l xs ∷ es) = calls_are es
  calls_are (Ascribe place x u ∷ es) = calls_are es
  calls_are (Assign place name x ∷ es) = calls_are es

-- what has its number in a table is found at it
numbered_back : (table xs : List (List ℕ)) → ((x : List ℕ) → In x xs → slice_get table (number_in table x) ≡ Some x) → numbered table (map (number_in table) xs) ≡ xs
numbered_back table [] h = refl
numbered_back table (x ∷ xs) h =
    ap (λ o. text_at o ++ numbered table (map (number_in table) xs)) (h x (inl refl)) ∙ ap (λ l. x ∷ l) (numbered_back table xs (λ y j. h y (inr j)))

pub pushed_texts : (p : Program) (s : Starts) → HasPushedTexts (lowered p s)
unfolding lowered
pushed_texts p s =
    let T = text_table p in
    let names = same_by text_pushed (picked itself nothing) text_is (scopes_bodies p s p.scopes) ∙ bodies_named itself nothing p s p.scopes ∙ texts_are T (method_table p) (scopes_parts p.scopes) in
    sym (ap (λ ks. each_once (numbered T ks)) names ∙ ap each_once (numbered_back T (texts_in (scopes_parts p.scopes)) (has_texts p s)))

------------------------------------------------------------
-- Entries

module _ (p : Program) (s : Starts) where
  abbrev M : List (List ℕ)
  M = method_table p

  numbers_append : (xs ys : List (List ℕ)) → map (number_in M) (xs ++ ys) ≡ map (number_in M) xs ++ map (number_in M) ys
  numbers_append [] ys = refl
  numbers_append (x ∷ xs) ys = ap (λ l. number_in M x ∷ l) (numbers_append xs ys)

  owned_entries : (l k : ℕ) (bs : List Body) → map (λ (y : Method). y.method) (methods_code p l k bs) ≡ map (number_in M) (owned_names l bs)
  owned_entries l k [] = refl
  owned_entries l k (x ∷ xs) = of (nat_eq x.owner l) (owned_entries l (k + 1) xs)
    where
      of : (c : Bool) → map (λ (y : Method). y.method) (methods_code p l (k + 1) xs) ≡ map (number_in M) (owned_names l xs) →
          map (λ (y : Method). y.method) (if c then record { method = number_in M x.signature.name; body = k } ∷ methods_code p l (k + 1) xs else methods_code p l (k + 1) xs)
          ≡ map (number_in M) (if c then x.signature.name ∷ owned_names l xs else owned_names l xs)
      of true h = ap (λ q. number_in M x.signature.name ∷ q) h
      of false h = h

  kinds_named : (sc : Scope) (first k : ℕ) (xs : List Literal) → kinds_entries (literals_code p s sc first k xs) ≡ map (number_in M) (kinds_names k xs sc.bodies)
  kinds_named sc first k [] = refl
  kinds_named sc first k (x ∷ xs) =
      ap₂ (λ l r. l ++ r) (owned_entries k (first + 1) sc.bodies) (kinds_named sc first (k + 1) xs)
      ∙ sym (numbers_append (owned_names k sc.bodies) (kinds_names (k + 1) xs sc.bodies))

  entries_named : (first : ℕ) (scopes : List Scope) → scopes_entries (scopes_code p s first scopes) ≡ map (number_in M) (entry_names scopes)
  entries_named first [] = refl
  entries_named first (sc ∷ scs) =
      ap₂ (λ l r. l ++ r) (kinds_named sc first 0 sc.literals) (entries_named (first + 1 + length sc.bodies) scs)
      ∙ sym (numbers_append (kinds_names 0 sc.literals sc.bodies) (entry_names scs))

  pub called_methods : HasCalledMethods (lowered p s)
  unfolding lowered
  called_methods =
      let calls = same_by method_called (picked nothing itself) method_is (scopes_bodies p s p.scopes) ∙ bodies_named nothing itself p s p.scopes ∙ calls_are (text_table p) M (scopes_parts p.scopes) in
      let names = ap₂ (λ l r. l ++ r) calls (entries_named 0 p.scopes) ∙ sym (numbers_append (calls_in (scopes_parts p.scopes)) (entry_names p.scopes)) in
      sym (ap (λ ks. each_once (numbered M ks)) names ∙ ap each_once (numbered_back M (calls_in (scopes_parts p.scopes) ++ entry_names p.scopes) (has_method_names p s)))
