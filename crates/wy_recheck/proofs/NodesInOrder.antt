-- Values, statements and bodies that are read in their order, one more of them.
use Rattle.std.proofs.Common.{◌≡◌, ℕ, ◌+◌, ◌<◌, ◌≤◌, List, [], ◌∷◌, ◌++◌, length, get_or, take, drop, refl, sym, ap, ◌∙◌, append-nil, Option, Bool as Truth, true}
use Rattle.std.specs.Prelude.{Result, Ok, Err, slice_get, map}
use Rattle.std.proofs.lemmas.List.{take_more}
use Rattle.wy_text.specs.declared.fault.Place.{Place}
use Rattle.wy_effects.specs.EffSet.{IsSet, union}
use Rattle.wy_effects.proofs.Numbers.{union-none}
use Rattle.wy_effects.proofs.Walks.{drop_none}
use Rattle.wy_types.specs.declared.types.TypeRef.{TypeRef}
use Rattle.wy_types.specs.declared.types.TypeRef.TheVariants.{Unit as Nothing}
use Rattle.wy_types.specs.declared.code.Value as v
use Rattle.wy_types.specs.declared.code.Stmt.{Stmt}
use Rattle.wy_types.specs.declared.code.Stmt.TheVariants.{Val, Do}
use Rattle.wy_types.specs.declared.resolved.Body as b
use Rattle.wy_types.specs.Code.{Block}
use Rattle.wy_types.specs.View.{value_of, values_of, stmt_block, stmts_block}
use Rattle.wy_types.specs.Program.{body_of, scope_of}
use Rattle.wy_rules.specs.Derivations.{mark}
use Rattle.wy_rules.specs.Canonical.{same_type}
use Rattle.wy_cert.specs.declared.certificate.CertNode.{CertNode}
use Rattle.wy_cert.specs.declared.certificate.Rule.TheVariants as by
use Rattle.wy_proving.specs.Reading.{Part, part_stands, part_fails, part_then, Parts, parts_stand, parts_fail, more_parts, with_part, Bodies, bodies_stand, bodies_fail, bodies_then, read_node, read_val, read_values, read_block, read_bodies, val_holds}
use Rattle.wy_recheck.specs.declared.failure.Failure.{Failure}
use Rattle.wy_recheck.specs.declared.reader.Reader.{Reader}
use Rattle.wy_recheck.specs.declared.reader.Read.{Read}
use Rattle.wy_recheck.specs.declared.forms.Waiting.{Waiting}
use Rattle.wy_recheck.specs.Standing.{FailsFirst}
use Rattle.wy_recheck.specs.Nodes.{reading_of, lists_of, left, value_read, values_read, block_read, body_read, bodies_read, closed, closing, val_read, IsStatement, IsVal}
use Rattle.wy_recheck.proofs.NodesFailing.{first_weaker}
use Rattle.wy_recheck.proofs.NodesJoined.{before}
use Rattle.wy_recheck.proofs.NodesPassed.{left_at}

module _ (r : Reader) where
  ------------------------------------------------------------
  -- Values

  module _ (xs : List v.Value) (i : ℕ) where
    module _ (x : v.Value) (at : ℕ) (lt : i < length xs) (is : x ≡ get_or xs i x) where
      abbrev behind : Part TypeRef → Parts TypeRef
      behind p = more_parts p (λ t e j rest. with_part t e (read_values (reading_of r) same_type (lists_of r) (scope_of r.scope.now) r.locals.now r.owner (values_of (drop (i + 1) xs)) j rest))

      next_value : values_read r at (values_of (drop i xs)) ≡ behind (value_read r at (value_of x))
      next_value = ap (λ l. values_read r at (values_of l)) (left_at xs i x lt is)

      pub value_stands : (t : TypeRef) (e : List ℕ) (new : ℕ) → value_read r at (value_of x) ≡ part_stands t e new (left r new) →
          values_read r at (values_of (drop i xs)) ≡ with_part t e (values_read r new (values_of (drop (i + 1) xs)))
      value_stands t e new h = next_value ∙ ap behind h

      -- before it others stand
      pub value_fails : (ts : List TypeRef) (f : List ℕ) (j : ℕ) → value_read r at (value_of x) ≡ part_fails j → before ts f (values_read r at (values_of (drop i xs))) ≡ parts_fail j
      value_fails ts f j h = ap (before ts f) (next_value ∙ ap behind h)

    pub no_value : (ts : List TypeRef) (e : List ℕ) (at : ℕ) → length xs ≤ i → IsSet 512 e → before ts e (values_read r at (values_of (drop i xs))) ≡ parts_stand ts e at (left r at)
    no_value ts e at le s =
        ap (λ l. before ts e (values_read r at (values_of l))) (drop_none xs i le) ∙
        ap (λ us. parts_stand us (union e []) at (left r at)) (append-nil ts) ∙ ap (λ f. parts_stand ts f at (left r at)) (union-none 0 512 e s)

  ------------------------------------------------------------
  -- Statements

  module _ (x : v.Value) (at new : ℕ) (z : Read) (stands : value_read r at (value_of x) ≡ part_stands z.typ z.effect new (left r new)) where
    -- a value
    pub do_stands : (w : Waiting) → w ≡ record { holds = same_type z.typ Nothing; place = mark (value_of x); effect = z.effect } → IsStatement r at new (Do x) (Ok w)
    do_stands w h = λ rest.
        ap (λ p. part_then p (λ k e i ns. part_then (read_block (reading_of r) same_type (lists_of r) (scope_of r.scope.now) r.locals.now r.owner rest i ns)
        (λ t f j last. read_node (reading_of r) same_type (lists_of r) (same_type k Nothing) by.Seq (mark (value_of x)) 2 t (union e f) j last))) stands ∙
        ap (λ (u : Waiting). part_then (block_read r new rest) (closed r u)) (sym h)

    -- a `val`
    module _ (q : Place) (n : ℕ) (typ : Option TypeRef) where
      abbrev holds_here : Truth
      holds_here = val_holds (reading_of r) same_type (lists_of r) (slice_get r.locals.now n) typ (value_of x) z.typ

      abbrev seq_behind : Block → ℕ → List CertNode → Part TypeRef
      seq_behind rest j others =
          part_then (read_block (reading_of r) same_type (lists_of r) (scope_of r.scope.now) r.locals.now r.owner rest j others)
          (λ t f l last. read_node (reading_of r) same_type (lists_of r) true by.Seq q 2 t (union z.effect f) l last)

      initialised : (rest : Block) → block_read r at (stmt_block (Val q n typ x) rest) ≡ val_read r new holds_here q z (seq_behind rest)
      initialised rest =
          ap (λ p. part_then p (λ k e i ns. read_val (reading_of r) same_type (lists_of r) (val_holds (reading_of r) same_type (lists_of r) (slice_get r.locals.now n) typ (value_of x) k) q e i ns
          (λ j others. part_then (read_block (reading_of r) same_type (lists_of r) (scope_of r.scope.now) r.locals.now r.owner rest j others)
          (λ t f l last. read_node (reading_of r) same_type (lists_of r) true by.Seq q 2 t (union e f) l last)))) stands

      pub val_statement : (end : ℕ) (result : Result Waiting Failure) → IsVal r new end holds_here q z result → IsStatement r at end (Val q n typ x) result
      val_statement end (Ok w) h = λ rest. initialised rest ∙ h.0 (seq_behind rest) ∙ ap (λ (u : Waiting). part_then (block_read r end rest) (closed r u)) (sym h.1)
      val_statement end (Err e) h =
          first_weaker (λ i. (f : ℕ → List CertNode → Part TypeRef) → val_read r new holds_here q z f ≡ part_fails i) (λ i. (rest : Block) → block_read r at (stmt_block (Val q n typ x) rest) ≡ part_fails i)
          (λ i g rest. initialised rest ∙ g (seq_behind rest)) e h

  -- a value of a statement fails
  module _ (x : v.Value) (at : ℕ) (e : Failure) (fails : FailsFirst (λ i. value_read r at (value_of x) ≡ part_fails i) e) where
    pub do_fails : FailsFirst (λ i. (rest : Block) → block_read r at (stmt_block (Do x) rest) ≡ part_fails i) e
    do_fails =
        first_weaker (λ i. value_read r at (value_of x) ≡ part_fails i) (λ i. (rest : Block) → block_read r at (stmt_block (Do x) rest) ≡ part_fails i)
        (λ i g rest. ap (λ p. part_then p (λ k e i ns. part_then (read_block (reading_of r) same_type (lists_of r) (scope_of r.scope.now) r.locals.now r.owner rest i ns)
        (λ t f j last. read_node (reading_of r) same_type (lists_of r) (same_type k Nothing) by.Seq (mark (value_of x)) 2 t (union e f) j last))) g) e fails

    pub val_fails : (q : Place) (n : ℕ) (typ : Option TypeRef) → FailsFirst (λ i. (rest : Block) → block_read r at (stmt_block (Val q n typ x) rest) ≡ part_fails i) e
    val_fails q n typ =
        first_weaker (λ i. value_read r at (value_of x) ≡ part_fails i) (λ i. (rest : Block) → block_read r at (stmt_block (Val q n typ x) rest) ≡ part_fails i)
        (λ i g rest. ap (λ p. part_then p (λ k e i ns. read_val (reading_of r) same_type (lists_of r) (val_holds (reading_of r) same_type (lists_of r) (slice_get r.locals.now n) typ (value_of x) k) q e i ns
        (λ j others. part_then (read_block (reading_of r) same_type (lists_of r) (scope_of r.scope.now) r.locals.now r.owner rest j others)
        (λ t f l last. read_node (reading_of r) same_type (lists_of r) true by.Seq q 2 t (union e f) l last)))) g) e fails

  -- statements that wait, one more at their end
  pub closing_last : (ws : List Waiting) (w : Waiting) (p : Part TypeRef) → closing r (ws ++ w ∷ []) p ≡ closing r ws (part_then p (closed r w))
  closing_last [] w p = refl
  closing_last (u ∷ ws) w p = ap (λ q. part_then q (closed r u)) (closing_last ws w p)

  pub closing_fails : (ws : List Waiting) (i : ℕ) → closing r ws (part_fails i) ≡ part_fails i
  closing_fails [] i = refl
  closing_fails (w ∷ ws) i = ap (λ q. part_then q (closed r w)) (closing_fails ws i)

  -- the T-Seq of the last of some
  pub closes_one : (ws : List Waiting) (n : ℕ) (w : Waiting) → n < length ws → w ≡ get_or ws n w → (t : TypeRef) (f : List ℕ) (at : ℕ) (p : Part TypeRef) → closed r w t f at (left r at) ≡ p →
      closing r (take (n + 1) ws) (part_stands t f at (left r at)) ≡ closing r (take n ws) p
  closes_one ws n w lt is t f at p h =
      ap (λ l. closing r l (part_stands t f at (left r at))) (take_more ws n w lt ∙ ap (λ (u : Waiting). take n ws ++ u ∷ []) (sym is)) ∙
      closing_last (take n ws) w (part_stands t f at (left r at)) ∙ ap (closing r (take n ws)) h

  -- statements of a block
  module _ (xs : List Stmt) (i : ℕ) (x : Stmt) (lt : i < length xs) (is : x ≡ get_or xs i x) (at : ℕ) (ws : List Waiting) where
    next_statement : (rest : Block) → stmts_block (drop i xs) rest ≡ stmt_block x (stmts_block (drop (i + 1) xs) rest)
    next_statement rest = ap (λ l. stmts_block l rest) (left_at xs i x lt is)

    pub statement_stands : (w : Waiting) (new : ℕ) → IsStatement r at new x (Ok w) → (rest : Block) →
        closing r ws (block_read r at (stmts_block (drop i xs) rest)) ≡ closing r (ws ++ w ∷ []) (block_read r new (stmts_block (drop (i + 1) xs) rest))
    statement_stands w new h rest =
        ap (closing r ws) (ap (block_read r at) (next_statement rest) ∙ h (stmts_block (drop (i + 1) xs) rest)) ∙
        sym (closing_last ws w (block_read r new (stmts_block (drop (i + 1) xs) rest)))

    pub statement_fails : (j : ℕ) → ((rest : Block) → block_read r at (stmt_block x rest) ≡ part_fails j) → (rest : Block) → closing r ws (block_read r at (stmts_block (drop i xs) rest)) ≡ part_fails j
    statement_fails j h rest = ap (closing r ws) (ap (block_read r at) (next_statement rest) ∙ h (stmts_block (drop (i + 1) xs) rest)) ∙ closing_fails ws j

  pub no_statement : (xs : List Stmt) (i : ℕ) → length xs ≤ i → (at : ℕ) (ws : List Waiting) (rest : Block) → closing r ws (block_read r at (stmts_block (drop i xs) rest)) ≡ closing r ws (block_read r at rest)
  no_statement xs i le at ws rest = ap (λ l. closing r ws (block_read r at (stmts_block l rest))) (drop_none xs i le)

  ------------------------------------------------------------
  -- Bodies

  module _ (xs : List b.Body) (i : ℕ) where
    module _ (x : b.Body) (at : ℕ) (lt : i < length xs) (is : x ≡ get_or xs i x) where
      abbrev bodies_behind : Bodies → Bodies
      bodies_behind p = bodies_then p (λ j rest. read_bodies (reading_of r) same_type (lists_of r) (scope_of r.scope.now) r.locals.now (map body_of (drop (i + 1) xs)) j rest)

      next_body : bodies_read r at (map body_of (drop i xs)) ≡ bodies_behind (body_read r at (body_of x))
      next_body = ap (λ l. bodies_read r at (map body_of l)) (left_at xs i x lt is)

      pub body_stands : (new : ℕ) → body_read r at (body_of x) ≡ bodies_stand new (left r new) → bodies_read r at (map body_of (drop i xs)) ≡ bodies_read r new (map body_of (drop (i + 1) xs))
      body_stands new h = next_body ∙ ap bodies_behind h

      pub body_fails : (j : ℕ) → body_read r at (body_of x) ≡ bodies_fail j → bodies_read r at (map body_of (drop i xs)) ≡ bodies_fail j
      body_fails j h = next_body ∙ ap bodies_behind h

    pub no_body : (at : ℕ) → length xs ≤ i → bodies_read r at (map body_of (drop i xs)) ≡ bodies_stand at (left r at)
    no_body at le = ap (λ l. bodies_read r at (map body_of l)) (drop_none xs i le)
