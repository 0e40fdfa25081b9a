-- What is found in a part and then in the rest, and what is in sight there.
use Rattle.std.proofs.Common.{◌≡◌, ℕ, ◌≤◌, List, [], ◌∷◌, ◌++◌, map, length, take, drop, true, Bool, refl, sym, ap, ap₂, ◌∙◌, Option, append_assoc, arith, ◌+◌, false, if◌then◌else◌}
use Rattle.std.specs.Prelude.{Result, Ok, Err, OnOk}
use Rattle.std.proofs.lemmas.List.{map-append, take-append-le, drop-append-le, take_all, drop_all, take-append-drop}
use Rattle.wy_text.specs.declared.fault.Place.{Place}
use Rattle.wy_syntax.specs.declared.types.Name.{Name}
use Rattle.wy_syntax.specs.declared.types.TypeUse.{TypeUse}
use Rattle.wy_syntax.specs.declared.types.Param.{Param}
use Rattle.wy_syntax.specs.declared.types.Signature.{Signature}
use Rattle.wy_syntax.specs.declared.statements.FieldKind.{FieldKind}
use Rattle.wy_syntax.specs.Trees as t
use Rattle.wy_types.specs.declared.code.Binding.TheVariants as to
use Rattle.wy_types.specs.declared.code.Variable.{Variable}
use Rattle.wy_types.specs.declared.code.Variable.TheVariants.{Parameter}
use Rattle.wy_types.specs.declared.resolved.Field.{Field}
use Rattle.wy_types.specs.declared.resolved.Literal.{Literal}
use Rattle.wy_types.specs.declared.resolved.Body as core
use Rattle.wy_types.specs.Program.{Body, body_of}
use Rattle.wy_symbols.specs.declared.refusal.Refusal.{Refusal}
use Rattle.wy_bodies.specs.declared.sight.Entry.{Entry}
use Rattle.wy_symbols.specs.Declarations.{texts}
use Rattle.wy_symbols.specs.Least.{noted}
use Rattle.wy_bodies.specs.Sight.{Sight, written_of, entry, is_variable, variables, fields_from, params_from, with_params, inside}
use Rattle.wy_bodies.specs.InSight.{Known, known, known_entry, entries, Frame, frame, field_entries, sight_of, known_params}
use Rattle.wy_symbols.specs.TypeUses.{signature_refusals}
use Rattle.wy_bodies.specs.Bodies.{Within, Count, one_val, one_literal, one_body, stmts_after, stmt_sight, stmt_after, fields_of, literal_of, method_body, parts_literals, stmts_literals, stmt_literals, part_literals, stmts_bodies, stmt_bodies, part_bodies, parts_bodies, part_after}
use Rattle.wy_bodies.specs.BodyRefusals.{field_names, expr_refusals, value_refusals, typed_refusals, typed_if_refusals, repeated_parts, stmts_refusals, stmt_refusals, part_refusals, parts_refusals, rhs_refusals, tail_refusals}
use Rattle.wy_bodies.specs.FoundBodies.{Found, noting, one_method, with_literal, after_rhs, after_stmt, after_stmts, after_part, after_parts, after_tail, with_stmt}
use Rattle.wy_symbols.proofs.Leasts.{noted_append}

abbrev pub made : Count → List Literal → List Body → Option Refusal → Found
made n ls bs o = record { count = n; literals = ls; bodies = bs; least = o }

-- what holds in any case holds of a result
pub on_ok : {A B P : Type 0} (r : Result A B) → P → OnOk r P
on_ok (Ok a) p = p
on_ok (Err b) p = tt

abbrev literal_with : List Variable → List Field → Literal
literal_with c d = record { captures = c; fields = d }

found_is : (n : Count) (ls ls' : List Literal) (bs bs' : List Body) (o o' : Option Refusal) → ls ≡ ls' → bs ≡ bs' → o ≡ o' → made n ls bs o ≡ made n ls' bs' o'
found_is n ls ls' bs bs' o o' a b c = ap (λ x. made n x bs o) a ∙ ap (λ x. made n ls' x o) b ∙ ap (made n ls' bs') c

append_nil : {X : Type 0} (xs : List X) → xs ++ [] ≡ xs
append_nil [] = refl
append_nil (x ∷ xs) = ap (λ l. x ∷ l) (append_nil xs)

module _ (w : Within) where
  pub value_next : (s : Sight) (f : Found) (e : t.ExprTree) → noting f (expr_refusals w s e) ≡ after_rhs w s f (t.value e)
  value_next s f e = found_is f.count f.literals (f.literals ++ []) f.bodies (f.bodies ++ []) (noted f.least (expr_refusals w s e)) (noted f.least (expr_refusals w s e)) (sym (append_nil f.literals)) (sym (append_nil f.bodies)) refl

  pub branch_next : (s : Sight) (f : Found) (p : Place) (c : t.ExprTree) (a b : t.StmtTrees) →
      after_stmts w s (after_stmts w s (noting f (expr_refusals w s c)) a) b ≡ after_rhs w s f (t.branch p c a b)
  branch_next s f p c a b =
      let n = stmts_after f.count a in
      let ra = stmts_refusals w s f.count a in
      let rb = stmts_refusals w s n b in
      found_is (stmts_after n b) ((f.literals ++ stmts_literals w s f.count a) ++ stmts_literals w s n b) (f.literals ++ (stmts_literals w s f.count a ++ stmts_literals w s n b))
      ((f.bodies ++ stmts_bodies w s f.count a) ++ stmts_bodies w s n b) (f.bodies ++ (stmts_bodies w s f.count a ++ stmts_bodies w s n b))
      (noted (noted (noted f.least (expr_refusals w s c)) ra) rb) (noted f.least (expr_refusals w s c ++ (ra ++ rb)))
      (append_assoc f.literals (stmts_literals w s f.count a) (stmts_literals w s n b))
      (append_assoc f.bodies (stmts_bodies w s f.count a) (stmts_bodies w s n b))
      (sym (noted_append f.least (expr_refusals w s c) (ra ++ rb) ∙ noted_append (noted f.least (expr_refusals w s c)) ra rb))

  pub literal_next : (s : Sight) (f : Found) (p : Place) (ps : t.PartTrees) →
      after_parts w s (inside s ps) f.count.literals (made (one_literal f.count) (f.literals ++ literal_of w s ps ∷ []) f.bodies (noted f.least (repeated_parts ps))) ps ≡ after_rhs w s f (t.literal p ps)
  literal_next s f p ps =
      let n = one_literal f.count in
      let ls = parts_literals w s (inside s ps) n ps in
      let bs = f.bodies ++ parts_bodies w s (inside s ps) f.count.literals n ps in
      let rs = parts_refusals w s (inside s ps) n ps in
      ap₂ (λ l o. made (after_parts w s (inside s ps) f.count.literals (made n f.literals f.bodies f.least) ps).count l bs o)
      (append_assoc f.literals (literal_of w s ps ∷ []) ls)
      (sym (noted_append f.least (repeated_parts ps) rs))

  pub stmts_next : (s : Sight) (f : Found) (x : t.StmtTree) (xs : t.StmtTrees) →
      after_stmts w (stmt_sight w s f.count x) (after_stmt w s f x) xs ≡ after_stmts w s f (t.more_stmts x xs)
  stmts_next s f x xs =
      let n = stmt_after f.count x in
      let s' = stmt_sight w s f.count x in
      found_is (stmts_after n xs)
      ((f.literals ++ stmt_literals w s f.count x) ++ stmts_literals w s' n xs) (f.literals ++ (stmt_literals w s f.count x ++ stmts_literals w s' n xs))
      ((f.bodies ++ stmt_bodies w s f.count x) ++ stmts_bodies w s' n xs) (f.bodies ++ (stmt_bodies w s f.count x ++ stmts_bodies w s' n xs))
      (noted (noted f.least (stmt_refusals w s f.count x)) (stmts_refusals w s' n xs)) (noted f.least (stmt_refusals w s f.count x ++ stmts_refusals w s' n xs))
      (append_assoc f.literals (stmt_literals w s f.count x) (stmts_literals w s' n xs))
      (append_assoc f.bodies (stmt_bodies w s f.count x) (stmts_bodies w s' n xs))
      (sym (noted_append f.least (stmt_refusals w s f.count x) (stmts_refusals w s' n xs)))

  pub val_next : (s : Sight) (f : Found) (x : Name) (u : Option TypeUse) (r : t.RhsTree) →
      after_rhs w s (made (one_val f.count) f.literals f.bodies (noted f.least (typed_if_refusals w u))) r ≡ after_stmt w s f (t.val x u r)
  val_next s f x u r =
      let g = after_stmt w s f (t.val x u r) in
      ap (made g.count g.literals g.bodies) (sym (noted_append f.least (typed_if_refusals w u) (rhs_refusals w s (one_val f.count) r)))

  pub assign_next : (s : Sight) (f : Found) (x : Name) (r : t.RhsTree) →
      after_rhs w s (noting f (value_refusals w s x)) r ≡ after_stmt w s f (t.assign x r)
  assign_next s f x r =
      let g = after_stmt w s f (t.assign x r) in
      ap (made g.count g.literals g.bodies) (sym (noted_append f.least (value_refusals w s x) (rhs_refusals w s f.count r)))

  pub parts_next : (s within : Sight) (owner : ℕ) (f : Found) (p : t.PartTree) (ps : t.PartTrees) →
      after_parts w s within owner (after_part w s within owner f p) ps ≡ after_parts w s within owner f (t.more_parts p ps)
  parts_next s within owner f p ps =
      let n = part_after f.count p in
      found_is (after_parts w s within owner (after_part w s within owner f p) ps).count
      ((f.literals ++ part_literals w s within f.count p) ++ parts_literals w s within n ps) (f.literals ++ (part_literals w s within f.count p ++ parts_literals w s within n ps))
      ((f.bodies ++ part_bodies w s within owner f.count p) ++ parts_bodies w s within owner n ps) (f.bodies ++ (part_bodies w s within owner f.count p ++ parts_bodies w s within owner n ps))
      (noted (noted f.least (part_refusals w s within f.count p)) (parts_refusals w s within n ps)) (noted f.least (part_refusals w s within f.count p ++ parts_refusals w s within n ps))
      (append_assoc f.literals (part_literals w s within f.count p) (parts_literals w s within n ps))
      (append_assoc f.bodies (part_bodies w s within owner f.count p) (parts_bodies w s within owner n ps))
      (sym (noted_append f.least (part_refusals w s within f.count p) (parts_refusals w s within n ps)))

  pub field_next : (s within : Sight) (owner : ℕ) (f : Found) (k : FieldKind) (x : Name) (u : TypeUse) (r : t.RhsTree) →
      after_rhs w s (noting f (typed_refusals w u)) r ≡ after_part w s within owner f (t.field k x u r)
  field_next s within owner f k x u r =
      let g = after_part w s within owner f (t.field k x u r) in
      ap (made g.count g.literals g.bodies) (sym (noted_append f.least (typed_refusals w u) (rhs_refusals w s f.count r)))

  -- a method stands before those of the literals in it
  pub method_next : (s within : Sight) (owner : ℕ) (f m : Found) (g : Signature) (b : t.TailTree) →
      m ≡ after_tail w (with_params within f.count.bodies g.params) (made (one_body f.count) f.literals [] (noted f.least (signature_refusals w.atoms w.plain g))) b →
      made m.count m.literals (f.bodies ++ (method_body w within f.count owner g b ∷ m.bodies)) m.least ≡ after_part w s within owner f (t.method g b)
  method_next s within owner f m g b h =
      let q = after_part w s within owner f (t.method g b) in
      ap (λ (x : Found). made x.count x.literals (f.bodies ++ (method_body w within f.count owner g b ∷ x.bodies)) x.least) h
      ∙ ap (made q.count q.literals q.bodies) (sym (noted_append f.least (signature_refusals w.atoms w.plain g) (tail_refusals w (with_params within f.count.bodies g.params) (one_body f.count) b)))

  pub parts_turn : (s within : Sight) (owner : ℕ) (f f' : Found) (p : t.PartTree) (q left : t.PartTrees) (whole : Found) → q ≡ t.more_parts p left → f' ≡ after_part w s within owner f p →
      after_parts w s within owner f q ≡ whole → after_parts w s within owner f' left ≡ whole
  parts_turn s within owner f f' p q left whole at hf h =
      ap (λ g. after_parts w s within owner g left) hf ∙ parts_next s within owner f p left ∙ ap (after_parts w s within owner f) (sym at) ∙ h

  pub parts_end : (s within : Sight) (owner : ℕ) (f : Found) → f ≡ after_parts w s within owner f t.no_parts
  parts_end s within owner f = ap₂ (λ l b. made f.count l b f.least) (sym (append_nil f.literals)) (sym (append_nil f.bodies))

  -- a method, as it is put together
  pub method_turn : (s within : Sight) (owner : ℕ) (f m : Found) (g : Signature) (b : t.TailTree) (first bs : List Body) (body : Body) →
      first ≡ [] → m ≡ after_tail w (with_params within f.count.bodies g.params) (one_method (made f.count f.literals first f.least) (signature_refusals w.atoms w.plain g)) b →
      body ≡ method_body w within f.count owner g b → bs ≡ f.bodies ++ (body ∷ m.bodies) →
      made m.count m.literals bs m.least ≡ after_part w s within owner f (t.method g b)
  method_turn s within owner f m g b first bs body hf hm hb hall =
      let rs = signature_refusals w.atoms w.plain g in
      ap (λ x. made m.count m.literals x m.least) (hall ∙ ap (λ x. f.bodies ++ (x ∷ m.bodies)) hb)
      ∙ method_next s within owner f m g b (hm ∙ ap (λ x. after_tail w (with_params within f.count.bodies g.params) (one_method (made f.count f.literals x f.least) rs) b) hf)

  -- its body
  pub body_found : (si within : Sight) (f m : Found) (g : Signature) (b : t.TailTree) (n : ℕ) (o : Option Refusal) →
      si ≡ with_params within f.count.bodies g.params → n ≡ f.count.bodies + 1 → o ≡ noted f.least (signature_refusals w.atoms w.plain g) →
      m ≡ after_tail w si (made (record { vals = f.count.vals; literals = f.count.literals; bodies = n }) f.literals f.bodies o) b →
      m ≡ after_tail w (with_params within f.count.bodies g.params) (one_method f (signature_refusals w.atoms w.plain g)) b
  body_found si within f m g b n o hs hn ho hm =
      hm
      ∙ ap₂ (λ x k. after_tail w x (made (record { vals = f.count.vals; literals = f.count.literals; bodies = k }) f.literals f.bodies o) b) hs hn
      ∙ ap (λ x. after_tail w (with_params within f.count.bodies g.params) (made (one_body f.count) f.literals f.bodies x) b) ho

  -- a literal, before its methods
  pub literal_begun : (f : Found) (ps : t.PartTrees) (captures : List Variable) (n : ℕ) (ls : List Literal) (l : Literal) (o : Option Refusal) →
      n ≡ f.count.literals + 1 → ls ≡ f.literals ++ l ∷ [] → l.captures ≡ captures → l.fields ≡ fields_of w ps → o ≡ noted f.least (repeated_parts ps) →
      made (record { vals = f.count.vals; literals = n; bodies = f.count.bodies }) ls f.bodies o ≡ with_literal w captures f ps
  literal_begun f ps captures n ls l o hn hl hc hd ho =
      ap₂ (λ k x. made (record { vals = f.count.vals; literals = k; bodies = f.count.bodies }) x f.bodies o) hn (hl ∙ ap (λ x. f.literals ++ x ∷ []) (ap₂ literal_with hc hd))
      ∙ ap (made (one_literal f.count) (f.literals ++ literal_with captures (fields_of w ps) ∷ []) f.bodies) ho

  -- a literal, as it is put together
  pub literal_turn : (s inner : Sight) (f g h : Found) (p : Place) (ps : t.PartTrees) (captures : List Variable) →
      inner ≡ inside s ps → captures ≡ written_of (variables s.entries) ps → g ≡ with_literal w captures f ps →
      h ≡ after_parts w s inner f.count.literals g ps → h ≡ after_rhs w s f (t.literal p ps)
  literal_turn s inner f g h p ps captures hi hc hg hh =
      hh
      ∙ ap₂ (λ x y. after_parts w s x f.count.literals y ps) hi (hg ∙ ap (λ x. with_literal w x f ps) hc)
      ∙ literal_next s f p ps

-- a method, and those in it behind it
pub bodies_are : (old first inner pushed all : List core.Body) (x : core.Body) → first ≡ old → pushed ≡ first ++ x ∷ [] → all ≡ pushed ++ inner → map body_of all ≡ map body_of old ++ (body_of x ∷ map body_of inner)
bodies_are old first inner pushed all x hf hp ha =
    ap (map body_of) (ha ∙ ap (λ l. l ++ inner) (hp ∙ ap (λ l. l ++ x ∷ []) hf) ∙ append_assoc old (x ∷ []) inner) ∙ map-append body_of old (x ∷ inner)

------------------------------------------------------------
-- Sight

abbrev seeing : List Entry → Bool → Sight
seeing es b = record { entries = es; in_method = b }

-- variables that come later stand behind all others
pub sight_more : (f : Frame) (ks more : List Known) → f.start ≤ length ks → sight_of f (ks ++ more) ≡ seeing ((sight_of f ks).entries ++ entries more) f.in_method
sight_more f ks more le =
    let a = entries (take f.start ks) in
    let b = field_entries 0 f.fields in
    let d = entries (drop f.start ks) in
    ap₂ (λ x y. seeing (entries x ++ (b ++ entries y)) f.in_method) (take-append-le f.start ks more le) (drop-append-le f.start ks more le)
    ∙ ap (λ x. seeing (a ++ (b ++ x)) f.in_method) (map-append known_entry (drop f.start ks) more)
    ∙ ap (λ x. seeing (a ++ x) f.in_method) (sym (append_assoc b d (entries more)))
    ∙ ap (λ x. seeing x f.in_method) (sym (append_assoc a (b ++ d) (entries more)))

pub stmt_sight_is : (w : Within) (f : Frame) (ks : List Known) (n : Count) (x : t.StmtTree) → f.start ≤ length ks → sight_of f (with_stmt ks n x) ≡ stmt_sight w (sight_of f ks) n x
stmt_sight_is w f ks n (t.val x u r) le = sight_more f ks _ le
stmt_sight_is w f ks n (t.assign x r) le = refl
stmt_sight_is w f ks n (t.run r) le = refl

params_are : (body k : ℕ) (ps : List Param) → entries (known_params body k ps) ≡ params_from body k ps
params_are body k [] = refl
params_are body k (p ∷ ps) = ap (λ l. known_entry (known p.name.text (Parameter body k)) ∷ l) (params_are body (k + 1) ps)

pub with_params_is : (f : Frame) (ks : List Known) (body : ℕ) (ps : List Param) → f.start ≤ length ks → f.in_method ≡ true → sight_of f (ks ++ known_params body 0 ps) ≡ with_params (sight_of f ks) body ps
with_params_is f ks body ps le here =
    sight_more f ks (known_params body 0 ps) le
    ∙ ap₂ (λ x b. seeing ((sight_of f ks).entries ++ x) b) (params_are body 0 ps) here

fields_are : (k : ℕ) (ps : t.PartTrees) → field_entries k (texts (field_names ps)) ≡ fields_from k ps
fields_are k t.no_parts = refl
fields_are k (t.more_parts (t.field a x u r) ps) = ap (λ l. entry x.text (to.Field k) ∷ l) (fields_are (k + 1) ps)
fields_are k (t.more_parts (t.method g b) ps) = fields_are k ps

variables-append : (xs ys : List Entry) → variables (xs ++ ys) ≡ variables xs ++ variables ys
variables-append [] ys = refl
variables-append (e ∷ xs) ys =
    let P : Bool → Type 0 = λ b. (if b then e ∷ variables (xs ++ ys) else variables (xs ++ ys)) ≡ (if b then e ∷ variables xs else variables xs) ++ variables ys in
    elim (is_variable e.bound) as P [ true ↦ ap (λ l. e ∷ l) (variables-append xs ys) | false ↦ variables-append xs ys ]

variables_known : (ks : List Known) → variables (entries ks) ≡ entries ks
variables_known [] = refl
variables_known (k ∷ ks) = ap (λ l. known_entry k ∷ l) (variables_known ks)

variables_fields : (k : ℕ) (xs : List (List ℕ)) → variables (field_entries k xs) ≡ []
variables_fields k [] = refl
variables_fields k (x ∷ xs) = variables_fields (k + 1) xs

-- the variables in sight, without the fields
pub variables_are : (f : Frame) (ks : List Known) → variables (sight_of f ks).entries ≡ entries ks
variables_are f ks =
    let a = take f.start ks in
    let b = field_entries 0 f.fields in
    let d = drop f.start ks in
    variables-append (entries a) (b ++ entries d)
    ∙ ap (λ l. variables (entries a) ++ l) (variables-append b (entries d) ∙ ap (λ l. l ++ variables (entries d)) (variables_fields 0 f.fields))
    ∙ ap₂ (λ x y. x ++ y) (variables_known a) (variables_known d)
    ∙ sym (map-append known_entry a d)
    ∙ ap entries (take-append-drop f.start ks)

pub inside_is : (f : Frame) (ks : List Known) (ps : t.PartTrees) → sight_of (frame (length ks) (texts (field_names ps)) true) ks ≡ inside (sight_of f ks) ps
inside_is f ks ps =
    ap₂ (λ x y. seeing (entries x ++ (field_entries 0 (texts (field_names ps)) ++ entries y)) true) (take_all (length ks) ks (omega arith)) (drop_all (length ks) ks (omega arith))
    ∙ ap (λ x. seeing (entries ks ++ x) true) (append_nil (field_entries 0 (texts (field_names ps))) ∙ fields_are 0 ps)
    ∙ ap (λ x. seeing (x ++ fields_from 0 ps) true) (sym (variables_are f ks))
