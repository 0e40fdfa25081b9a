-- Operators: what judging an operation comes to, by what its operands came to.
use Rattle.std.proofs.Common.{◌≡◌, ℕ, List, [], ◌∷◌, inl, inr, refl, sym, ◌∙◌, ap, subst, Option, Some, None, Bool as Truth, true, false, map, take}
use Rattle.std.specs.Prelude.{◌↔◌}
use Rattle.wy_text.specs.declared.fault.Place.{Place}
use Rattle.wy_text.specs.declared.fault.RuleName.TheVariants.{TOp}
use Rattle.wy_text.specs.Members.{In}
use Rattle.wy_effects.specs.EffSet.{union}
use Rattle.wy_types.specs.declared.types.TypeRef.{TypeRef}
use Rattle.wy_types.specs.declared.code.UnaryOperator.{UnaryOperator}
use Rattle.wy_types.specs.declared.code.BinaryOperator.{BinaryOperator}
use Rattle.wy_types.specs.Code.{Expr, Unary, Binary, Value, Plain, Values, none, more}
use Rattle.wy_types.specs.Program.{Program, Scope}
use Rattle.wy_types.specs.Types.{IsObject, is_plain}
use Rattle.wy_types.proofs.Deciding.{decide_type}
use Rattle.wy_rules.specs.Readings.{IsBelow}
use Rattle.wy_rules.specs.Operators.{Row, unary_rows, binary_rows}
use Rattle.wy_rules.specs.Typing.{HasAt, AllHaveAt}
use Rattle.wy_rules.specs.Acceptance.{scope_reading}
use Rattle.wy_rules.specs.Nodes.{expr_nodes}
use Rattle.wy_rules.specs.Failing.{IsLeast}
use Rattle.wy_rules.proofs.Forms.{Lawful}
use Rattle.wy_rules.proofs.Least.{at_type, no_values, more_values, has_at, OneRow, unary_least, binary_least}
use Rattle.wy_rules.proofs.Needs.{not_below, first_has, others_have, all_at, none_at, unary_needs, binary_needs}
use Rattle.wy_judge.specs.Inference.{Inference}
use Rattle.wy_judge.specs.Inference as inferred
use Rattle.wy_premises.specs.Operators.{unary_result, binary_result}
use Rattle.wy_judge.specs.Outcomes.{IsSame, fault_at, operation_outcome, unary_outcome, second_outcome, both_outcome}
use Rattle.wy_judge.specs.Judged.{Inferred}
use Rattle.wy_judge.proofs.ReadTypes.{read_object, read_loses_nothing}
use Rattle.wy_judge.proofs.Bases.{base_below}
use Rattle.wy_judge.proofs.Lists.{pass_both, fail_left, fail_right}
use Rattle.wy_judge.proofs.Ending.{ends_passing, ends_failing}
use Rattle.wy_judge.proofs.Refitting.{refit, united_none, none_united}
use Rattle.wy_judge.proofs.Tables.{row_at, no_others, same_other, IsTable, base_of, unary_table, binary_table}

module _ (p : Program) (k : ℕ) (s : Scope) (w : Lawful (scope_reading p k s)) (locals : List (scope_reading p k s).Kind) (owner : Option ℕ) where
  -- an expression has no base type but its least one
  pub same_base : (x : Value) (t a : TypeRef) (e : List ℕ) → (IsObject a → ⊥) → IsLeast (scope_reading p k s) s locals owner x ((scope_reading p k s).read t) e →
      HasAt (scope_reading p k s) s locals owner x ((scope_reading p k s).read a) → t ≡ a
  same_base x t a e o l h =
      elim (decide_type t a) [
        | inl same ↦ same
        | inr n ↦ absurd (not_below (scope_reading p k s) w ((scope_reading p k s).read t) ((scope_reading p k s).read a)
            (λ v. n (read_loses_nothing p k (is_plain s.kind) t a v)) (λ b. o (read_object p k (is_plain s.kind) a b))
            (l.least ((scope_reading p k s).read a) h.effect h.has).0)
      ]

  ------------------------------------------------------------
  -- The row that the first operand picks

  -- the row of the first operand's least type
  record Picks (others : TypeRef → List TypeRef) (result : TypeRef → Option TypeRef) (t : TypeRef) (r : Row) : Type 0 where
    pub typ : TypeRef
    pub is : r ≡ row_at others t typ
    pub base : IsObject t → ⊥
    pub base_result : IsObject typ → ⊥
    pub gives : result t ≡ Some typ

  picked : (others : TypeRef → List TypeRef) (rows : List Row) (result : TypeRef → Option TypeRef) (table : IsTable others rows result) (x : Value) (t : TypeRef) (e : List ℕ) →
      IsLeast (scope_reading p k s) s locals owner x ((scope_reading p k s).read t) e → (r : Row) → In r rows →
      ((a c : TypeRef) → r ≡ row_at others a c → HasAt (scope_reading p k s) s locals owner x ((scope_reading p k s).read a)) → Picks others result t r
  picked others rows result table x t e l r i h =
      let m = table.rows_are r i in
      let same : m.operand ≡ t = sym (same_base x t m.operand e m.base l (h m.operand m.typ m.is)) in
      record {
        typ = m.typ;
        is = subst (λ v. r ≡ row_at others v m.typ) same m.is;
        base = subst (λ v. IsObject v → ⊥) same m.base;
        base_result = m.base_result;
        gives = subst (λ v. result v ≡ Some m.typ) same m.gives;
      }

  -- .. where the operands have the types of a row
  picked_by : (others : TypeRef → List TypeRef) (rows : List Row) (result : TypeRef → Option TypeRef) (table : IsTable others rows result) (x : Value) (xs : Values) (t : TypeRef) (e : List ℕ) →
      IsLeast (scope_reading p k s) s locals owner x ((scope_reading p k s).read t) e → (r : Row) → In r rows →
      AllHaveAt (scope_reading p k s) s locals owner (more x xs) (map (scope_reading p k s).read r.operands) → Picks others result t r
  picked_by others rows result table x xs t e l r i h =
      picked others rows result table x t e l r i (λ a c same.
      first_has (scope_reading p k s) w s locals owner x xs ((scope_reading p k s).read a) (map (scope_reading p k s).read (others a))
      (subst (λ (v : Row). AllHaveAt (scope_reading p k s) s locals owner (more x xs) (map (scope_reading p k s).read v.operands)) same h))

  -- .. where the first operand has the first type of a row
  picked_first : (others : TypeRef → List TypeRef) (rows : List Row) (result : TypeRef → Option TypeRef) (table : IsTable others rows result) (x : Value) (t : TypeRef) (e : List ℕ) →
      IsLeast (scope_reading p k s) s locals owner x ((scope_reading p k s).read t) e → (r : Row) → In r rows →
      AllHaveAt (scope_reading p k s) s locals owner (more x none) (map (scope_reading p k s).read (take 1 r.operands)) → Picks others result t r
  picked_first others rows result table x t e l r i h =
      picked others rows result table x t e l r i (λ a c same.
      first_has (scope_reading p k s) w s locals owner x none ((scope_reading p k s).read a) []
      (subst (λ (v : Row). AllHaveAt (scope_reading p k s) s locals owner (more x none) (map (scope_reading p k s).read (take 1 v.operands))) same h))

  -- the table has one row for the first operand
  only_row : (others : TypeRef → List TypeRef) (rows : List Row) (result : TypeRef → Option TypeRef) (table : IsTable others rows result) (x : Value) (xs : Values) (t c : TypeRef) (e : List ℕ) →
      IsLeast (scope_reading p k s) s locals owner x ((scope_reading p k s).read t) e → result t ≡ Some c → OneRow (scope_reading p k s) w s locals owner rows (more x xs) (row_at others t c)
  only_row others rows result table x xs t c e l g = (
    table.row_for t c g,
    λ r f i h.
        let m = picked_by others rows result table x xs t e l r i (record { effect = f; have = h }) in
        let same : m.typ ≡ c = some_same m.typ c (sym m.gives ∙ g) in
        ap (row_at others t) (sym same) ∙ sym m.is,
  )
    where
      some_same : (a b : TypeRef) → ◌≡◌ {A = Option TypeRef} (Some a) (Some b) → a ≡ b
      some_same a b q = cc

  none_gives : (result : TypeRef → Option TypeRef) (others : TypeRef → List TypeRef) (t : TypeRef) (r : Row) → result t ≡ None → Picks others result t r → ⊥
  none_gives result others t r e m = none_some m.typ (sym e ∙ m.gives)
    where
      none_some : (a : TypeRef) → ◌≡◌ {A = Option TypeRef} None (Some a) → ⊥
      none_some a q = cc

  result_below : (others : TypeRef → List TypeRef) (rows : List Row) (result : TypeRef → Option TypeRef) (table : IsTable others rows result) (t c : TypeRef) → result t ≡ Some c →
      IsBelow (scope_reading p k s) ((scope_reading p k s).read c) ((scope_reading p k s).read c)
  result_below others rows result table t c g = base_below p k (is_plain s.kind) c (base_of others rows result table t c g)

  ------------------------------------------------------------
  -- One operand

  unary_least_of : (q : Place) (op : UnaryOperator) (x : Expr) (t c : TypeRef) (e : List ℕ) → unary_result op t ≡ Some c → Inferred p k s locals owner x (inferred.Least t e) →
      IsLeast (scope_reading p k s) s locals owner (Plain (Unary q op x)) ((scope_reading p k s).read c) e
  unary_least_of q op x t c e g h =
      let below = result_below no_others (unary_rows op) (unary_result op) (unary_table op) t c g in
      refit (scope_reading p k s) w s locals owner (Plain (Unary q op x)) ((scope_reading p k s).read c) (union e []) e below
      (united_none p k (is_plain s.kind) e) (none_united p k (is_plain s.kind) e)
      (unary_least (scope_reading p k s) w s locals owner q op x (row_at no_others t c) (union e [])
      (only_row no_others (unary_rows op) (unary_result op) (unary_table op) (Plain x) none t c e h.0 g)
      (more_values (scope_reading p k s) w s locals owner (Plain x) none ((scope_reading p k s).read t) [] e []
      (at_type (scope_reading p k s) w s locals owner (Plain x) ((scope_reading p k s).read t) ((scope_reading p k s).read t) e h.0 (inl refl))
      (no_values (scope_reading p k s) w s locals owner))
      below)

  unary_by : (q : Place) (op : UnaryOperator) (x : Expr) (t : TypeRef) (e : List ℕ) (o : Option TypeRef) → unary_result op t ≡ o → Inferred p k s locals owner x (inferred.Least t e) →
      Inferred p k s locals owner (Unary q op x) (operation_outcome q o e)
  unary_by q op x t e (Some c) g h =
      let l = unary_least_of q op x t c e g h in
      (l, ends_passing p k s locals owner (expr_nodes s owner x) q TOp (Unary q op x) ((scope_reading p k s).read c) e h.1 l.has)
  unary_by q op x t e None g h =
      ends_failing p k s locals owner (expr_nodes s owner x) q TOp (Unary q op x) 1 h.1
      (λ d. (let r = unary_needs (scope_reading p k s) w s locals owner q op x d in
      none_gives (unary_result op) no_others t r.0 g (picked_by no_others (unary_rows op) (unary_result op) (unary_table op) (Plain x) none t e h.0 r.0 r.1 r.2))) (
        0,
        refl,
        ((unary_table op).some_row.0, (unary_table op).some_row.1, none_at (scope_reading p k s) w s locals owner),
        λ r. none_gives (unary_result op) no_others t r.0 g (picked_first no_others (unary_rows op) (unary_result op) (unary_table op) (Plain x) t e h.0 r.0 r.1 r.2),
      )

  pub unary_inferred : (q : Place) (op : UnaryOperator) (x : Expr) (u : Inference) → Inferred p k s locals owner x u → Inferred p k s locals owner (Unary q op x) (unary_outcome q op u)
  unary_inferred q op x (inferred.Least t e) h = unary_by q op x t e (unary_result op t) refl h
  unary_inferred q op x (inferred.Fails fault) h = fail_left p k s locals (expr_nodes s owner x) _ fault h

  ------------------------------------------------------------
  -- Two operands

  binary_least_of : (q : Place) (op : BinaryOperator) (x z : Expr) (t c : TypeRef) (e f : List ℕ) → binary_result op t ≡ Some c →
      Inferred p k s locals owner x (inferred.Least t e) → Inferred p k s locals owner z (inferred.Least t f) →
      IsLeast (scope_reading p k s) s locals owner (Plain (Binary q op x z)) ((scope_reading p k s).read c) (union e f)
  binary_least_of q op x z t c e f g h i =
      let below = result_below same_other (binary_rows op) (binary_result op) (binary_table op) t c g in
      refit (scope_reading p k s) w s locals owner (Plain (Binary q op x z)) ((scope_reading p k s).read c) (union e (union f [])) (union e f) below
      (w.unions e (union f []) e f (w.same e) (united_none p k (is_plain s.kind) f)) (w.unions e f e (union f []) (w.same e) (none_united p k (is_plain s.kind) f))
      (binary_least (scope_reading p k s) w s locals owner q op x z (row_at same_other t c) (union e (union f []))
      (only_row same_other (binary_rows op) (binary_result op) (binary_table op) (Plain x) (more (Plain z) none) t c e h.0 g)
      (more_values (scope_reading p k s) w s locals owner (Plain x) (more (Plain z) none) ((scope_reading p k s).read t) ((scope_reading p k s).read t ∷ []) e (union f [])
      (at_type (scope_reading p k s) w s locals owner (Plain x) ((scope_reading p k s).read t) ((scope_reading p k s).read t) e h.0 (inl refl))
      (more_values (scope_reading p k s) w s locals owner (Plain z) none ((scope_reading p k s).read t) [] f []
      (at_type (scope_reading p k s) w s locals owner (Plain z) ((scope_reading p k s).read t) ((scope_reading p k s).read t) f i.0 (inl refl))
      (no_values (scope_reading p k s) w s locals owner)))
      below)

  -- a second operand at the first one's type has it as its least type
  same_second : (op : BinaryOperator) (x z : Expr) (t u : TypeRef) (e f : List ℕ) → Inferred p k s locals owner x (inferred.Least t e) → Inferred p k s locals owner z (inferred.Least u f) →
      (r : Row) → Picks same_other (binary_result op) t r → AllHaveAt (scope_reading p k s) s locals owner (more (Plain x) (more (Plain z) none)) (map (scope_reading p k s).read r.operands) → t ≡ u
  same_second op x z t u e f h i r m d =
      let both = subst (λ (v : Row). AllHaveAt (scope_reading p k s) s locals owner (more (Plain x) (more (Plain z) none)) (map (scope_reading p k s).read v.operands)) m.is d in
      sym (same_base (Plain z) u t f m.base i.0
      (first_has (scope_reading p k s) w s locals owner (Plain z) none ((scope_reading p k s).read t) []
      (others_have (scope_reading p k s) w s locals owner (Plain x) (more (Plain z) none) ((scope_reading p k s).read t) ((scope_reading p k s).read t ∷ []) both)))

  -- both operands have the types of a row
  two_taken : (op : BinaryOperator) (r : Row) → In r (binary_rows op) → take 2 r.operands ≡ r.operands
  two_taken op r i = let m = (binary_table op).rows_are r i in subst (λ (v : Row). take 2 v.operands ≡ v.operands) (sym m.is) refl

  second_differs : (op : BinaryOperator) (x z : Expr) (t u : TypeRef) (e f : List ℕ) → Inferred p k s locals owner x (inferred.Least t e) → Inferred p k s locals owner z (inferred.Least u f) →
      (t ≡ u → ⊥) → (r : Row) → In r (binary_rows op) → AllHaveAt (scope_reading p k s) s locals owner (more (Plain x) (more (Plain z) none)) (map (scope_reading p k s).read r.operands) → ⊥
  second_differs op x z t u e f h i n r j d =
      n (same_second op x z t u e f h i r (picked_by same_other (binary_rows op) (binary_result op) (binary_table op) (Plain x) (more (Plain z) none) t e h.0 r j d) d)

  binary_fails_first : (q : Place) (op : BinaryOperator) (x z : Expr) (t u : TypeRef) (e f : List ℕ) → binary_result op t ≡ None →
      Inferred p k s locals owner x (inferred.Least t e) → Inferred p k s locals owner z (inferred.Least u f) → Inferred p k s locals owner (Binary q op x z) (inferred.Fails (fault_at q TOp 1))
  binary_fails_first q op x z t u e f g h i =
      fail_right p k s locals (expr_nodes s owner x) _ (fault_at q TOp 1) h.1
      (ends_failing p k s locals owner (expr_nodes s owner z) q TOp (Binary q op x z) 1 i.1
      (λ d. (let r = binary_needs (scope_reading p k s) w s locals owner q op x z d in
      none_gives (binary_result op) same_other t r.0 g (picked_by same_other (binary_rows op) (binary_result op) (binary_table op) (Plain x) (more (Plain z) none) t e h.0 r.0 r.1 r.2))) (
        0,
        refl,
        ((binary_table op).some_row.0, (binary_table op).some_row.1, none_at (scope_reading p k s) w s locals owner),
        λ r. none_gives (binary_result op) same_other t r.0 g (picked_first same_other (binary_rows op) (binary_result op) (binary_table op) (Plain x) t e h.0 r.0 r.1 r.2),
      ))

  binary_fails_second : (q : Place) (op : BinaryOperator) (x z : Expr) (t u c : TypeRef) (e f : List ℕ) → binary_result op t ≡ Some c → (t ≡ u → ⊥) →
      Inferred p k s locals owner x (inferred.Least t e) → Inferred p k s locals owner z (inferred.Least u f) → Inferred p k s locals owner (Binary q op x z) (inferred.Fails (fault_at q TOp 2))
  binary_fails_second q op x z t u c e f g n h i =
      fail_right p k s locals (expr_nodes s owner x) _ (fault_at q TOp 2) h.1
      (ends_failing p k s locals owner (expr_nodes s owner z) q TOp (Binary q op x z) 2 i.1
      (λ d. (let r = binary_needs (scope_reading p k s) w s locals owner q op x z d in second_differs op x z t u e f h i n r.0 r.1 r.2)) (
        1,
        refl,
        (
          row_at same_other t c,
          (binary_table op).row_for t c g,
          all_at (scope_reading p k s) w s locals owner (Plain x) none ((scope_reading p k s).read t) [] (has_at (scope_reading p k s) w s locals owner (Plain x) ((scope_reading p k s).read t) e h.0) (none_at (scope_reading p k s) w s locals owner),
        ),
        λ r. second_differs op x z t u e f h i n r.0 r.1
            (subst (λ v. AllHaveAt (scope_reading p k s) s locals owner (more (Plain x) (more (Plain z) none)) (map (scope_reading p k s).read v)) (two_taken op r.0 r.1) r.2),
      ))

  binary_by : (q : Place) (op : BinaryOperator) (x z : Expr) (same : Truth) (t u : TypeRef) (e f : List ℕ) (o : Option TypeRef) → binary_result op t ≡ o →
      Inferred p k s locals owner x (inferred.Least t e) → Inferred p k s locals owner z (inferred.Least u f) → ((same ≡ true) ↔ (t ≡ u)) →
      Inferred p k s locals owner (Binary q op x z) (second_outcome q o same (union e f))
  binary_by q op x z same t u e f None g h i d = binary_fails_first q op x z t u e f g h i
  binary_by q op x z true t u e f (Some c) g h i d =
      let l = binary_least_of q op x z t c e f g h (subst (λ v. Inferred p k s locals owner z (inferred.Least v f)) (sym (d.0 refl)) i) in
      (l, pass_both p k s locals (expr_nodes s owner x) _ h.1 (ends_passing p k s locals owner (expr_nodes s owner z) q TOp (Binary q op x z) ((scope_reading p k s).read c) (union e f) i.1 l.has))
  binary_by q op x z false t u e f (Some c) g h i d = binary_fails_second q op x z t u c e f g (λ v. (let same : false ≡ true = d.1 v in absurd (cc))) h i

  pub binary_inferred : (q : Place) (op : BinaryOperator) (x z : Expr) (same : Truth) (u v : Inference) → Inferred p k s locals owner x u → Inferred p k s locals owner z v → IsSame u v same →
      Inferred p k s locals owner (Binary q op x z) (both_outcome q op same u v)
  binary_inferred q op x z same (inferred.Fails fault) v h i d = fail_left p k s locals (expr_nodes s owner x) _ fault h
  binary_inferred q op x z same (inferred.Least t e) (inferred.Fails fault) h i d = fail_right p k s locals (expr_nodes s owner x) _ fault h.1 (fail_left p k s locals (expr_nodes s owner z) _ fault i)
  binary_inferred q op x z same (inferred.Least t e) (inferred.Least u f) h i d = binary_by q op x z same t u e f (binary_result op t) refl h i d
