-- The first failing node of a list is one, whatever the types of its `val`s are said to be: over two lists of these, each narrower than
-- the other where `val`s have passed, the same nodes pass, and the same one fails, by the same premise.
use Rattle.std.proofs.Common.{◌≡◌, ℕ, List, [], ◌∷◌, ◌++◌, map, inl, inr, refl, sym, ◌∙◌, ap, subst, Option, Some, None}
use Rattle.std.specs.Prelude.{slice_get}
use Rattle.std.specs.List.{range_with_len}
use Rattle.wy_text.specs.declared.fault.Place.{Place}
use Rattle.wy_text.specs.declared.fault.AtomName.{AtomName}
use Rattle.wy_text.specs.declared.fault.Fault.{Fault}
use Rattle.wy_text.specs.declared.fault.RuleName.{RuleName}
use Rattle.wy_text.specs.declared.fault.RuleName.TheVariants.{TIf, TSeq, TVal}
use Rattle.wy_types.specs.declared.types.TypeRef.{TypeRef}
use Rattle.wy_types.specs.declared.types.TypeRef.TheVariants.{Unit as Nothing}
use Rattle.wy_types.specs.declared.code.Variable.{Variable}
use Rattle.wy_types.specs.declared.code.Variable.TheVariants.{Local}
use Rattle.wy_types.specs.declared.resolved.Field.{Field}
use Rattle.wy_types.specs.Code.{Expr, Number, Quoted, Truth as TruthOf, Nothing as NothingOf, This, Name, Unary, Binary, TextCall, Call, New, Ascribe, Assign, Value, Plain, If, Values, none, more, Block, Last, Then, Val}
use Rattle.wy_types.specs.Program.{Program, Scope}
use Rattle.wy_types.specs.Signature.{Signature, find_method}
use Rattle.wy_types.specs.Core.{ExprFits, ValueFits, ValuesFit, BlockFits}
use Rattle.wy_types.specs.Vals.{value_count}
use Rattle.wy_rules.specs.Readings.{IsBelow}
use Rattle.wy_rules.specs.Operators.{text_rows}
use Rattle.wy_rules.specs.Derivations.{mark}
use Rattle.wy_rules.specs.Typing.{field_types, var_field, HasAt, HasSome}
use Rattle.wy_rules.specs.Acceptance.{scope_reading}
use Rattle.wy_rules.specs.Nodes.{Spot, nothing, written, argument, part, statement, val, Node, node, row_types, written_spots, val_spot, field_spot, argument_spots, expr_nodes, value_nodes, values_nodes, block_nodes}
use Rattle.wy_rules.specs.Failing.{IsParameter, IsExpected, ValueStands, ValueFails, ValStands, ValSettles, named_atom, Stands, Fails, Passes, FailsBy, FirstFailing, AllPass}
use Rattle.wy_rules.proofs.Forms.{Lawful, Above}
use Rattle.wy_rules.proofs.Needs.{has_under}
use Rattle.wy_rules.proofs.Narrowing.{Narrower, AllNarrower, ExprReady, ValueReady, ValuesReady, BlockReady, narrow_expr, narrow_value, narrow_block, one_more_seen}
use Rattle.wy_rules.proofs.Standing.{expr_ready, value_ready, values_ready, block_ready, params_below}
use Rattle.wy_rules.proofs.AlikeFails.{Moves, BlockMoves, EachMoves, PartsMove, least_below, raised, same_method, target_below, only_same, if_same, expr_same, val_same}

-- a fault is its parts
fault_same : (a b : Fault) → a.place ≡ b.place → a.rule ≡ b.rule → a.premise ≡ b.premise → a.atom ≡ b.atom → a ≡ b
fault_same a b e f g h = ap (λ v. made v a.rule a.premise a.atom) e ∙ ap (λ v. made b.place v a.premise a.atom) f ∙ ap (λ v. made b.place b.rule v a.atom) g ∙ ap (λ v. made b.place b.rule b.premise v) h
  where
    made : Place → RuleName → ℕ → Option AtomName → Fault
    made place rule premise atom = record { place = place; rule = rule; premise = premise; atom = atom }

module _ (p : Program) (k : ℕ) (s : Scope) (one other : List (scope_reading p k s).Kind) where
  ------------------------------------------------------------
  -- One node, and lists of them

  -- the same is expected, or types that are above each other
  abbrev pub ExpectAlike : Option (scope_reading p k s).Kind → Option (scope_reading p k s).Kind → Type 0
  ExpectAlike None None = Unit {0}
  ExpectAlike (Some t) (Some u) = Above (scope_reading p k s) t u × Above (scope_reading p k s) u t
  ExpectAlike o u = ⊥

  abbrev pub SpotAlike : Option ℕ → Spot → Type 0
  SpotAlike owner spot = (o u : Option (scope_reading p k s).Kind) → IsExpected (scope_reading p k s) s one owner spot o → IsExpected (scope_reading p k s) s other owner spot u → ExpectAlike o u

  pub record NodeAlike (n : Node) : Type 0 where
    pub same : (a b : Fault) → FailsBy p k s one n a → FailsBy p k s other n b → a ≡ b
    pub after_one : Passes p k s one n → (b : Fault) → FailsBy p k s other n b → ⊥
    pub after_other : Passes p k s other n → (a : Fault) → FailsBy p k s one n a → ⊥

  -- each node is alike, where those before it passed over both lists
  abbrev pub Alike : List Node → Type 0
  Alike [] = Unit {0}
  Alike (n ∷ ns) = NodeAlike n × (Passes p k s one n → Passes p k s other n → Alike ns)

  pub append : (ns ms : List Node) → Alike ns → (AllPass p k s one ns → AllPass p k s other ns → Alike ms) → Alike (ns ++ ms)
  append [] ms a h = h tt tt
  append (n ∷ ns) ms a h = (a.0, λ i j. append ns ms (a.1 i j) (λ v z. h (i, v) (j, z)))

  pub alone : (n : Node) → NodeAlike n → Alike (n ∷ [])
  alone n a = (a, λ i j. tt)

  pub one_fault : (ns : List Node) → Alike ns → (a b : Fault) → FirstFailing p k s one ns a → FirstFailing p k s other ns b → a ≡ b
  one_fault [] h a b f g = absurd f
  one_fault (n ∷ ns) h a b (inl f) (inl g) = h.0.same a b f g
  one_fault (n ∷ ns) h a b (inl f) (inr g) = absurd (h.0.after_other g.0 a f)
  one_fault (n ∷ ns) h a b (inr f) (inl g) = absurd (h.0.after_one f.0 b g)
  one_fault (n ∷ ns) h a b (inr f) (inr g) = one_fault ns (h.1 f.0 g.0) a b f.1 g.1

  pub passing_has_no_fault : (ns : List Node) → Alike ns → AllPass p k s one ns → (b : Fault) → FirstFailing p k s other ns b → ⊥
  passing_has_no_fault [] h f b g = g
  passing_has_no_fault (n ∷ ns) h f b (inl g) = h.0.after_one f.0 b g
  passing_has_no_fault (n ∷ ns) h f b (inr g) = passing_has_no_fault ns (h.1 f.0 g.0) f.1 b g.1

  -- a node that stands over both lists or over neither, and whose premise is one
  pub node_alike : (n : Node) → SpotAlike n.owner n.spot →
      ((o u : Option (scope_reading p k s).Kind) → ExpectAlike o u → Stands p k s one n.owner o n.subject → Stands p k s other n.owner u n.subject) →
      ((o u : Option (scope_reading p k s).Kind) → ExpectAlike o u → Stands p k s other n.owner u n.subject → Stands p k s one n.owner o n.subject) →
      ((o u : Option (scope_reading p k s).Kind) (i j : ℕ) (a b : Option ℕ) → ExpectAlike o u → (Stands p k s one n.owner o n.subject → ⊥) → Fails p k s one n.owner o n.subject i a → Fails p k s other n.owner u n.subject j b → (i ≡ j) × (a ≡ b)) →
      NodeAlike n
  node_alike n spot there back fails = record {
    same = λ a b f g.
        let r = fails f.expected g.expected a.premise b.premise f.atom g.atom (spot f.expected g.expected f.spot g.spot) f.stands_not f.premise g.premise in
        fault_same a b (f.place ∙ sym g.place) (f.rule ∙ sym g.rule) r.0 (f.lacks ∙ ap (named_atom s) r.1 ∙ sym g.lacks);
    after_one = λ h b g. g.stands_not (there h.expected g.expected (spot h.expected g.expected h.spot g.spot) h.stands);
    after_other = λ h a f. f.stands_not (back f.expected h.expected (spot f.expected h.expected f.spot h.spot) h.stands);
  }

  ------------------------------------------------------------
  -- Places that expect nothing, or a written type

  pub nothing_alike : (owner : Option ℕ) → SpotAlike owner nothing
  nothing_alike owner o u e f = subst (λ v. ExpectAlike v u) (sym e) (subst (λ v. ExpectAlike None v) (sym f) tt)

  pub written_alike : (owner : Option ℕ) (t : TypeRef) → SpotAlike owner (written t)
  written_alike owner t o u e f = subst (λ v. ExpectAlike v u) (sym e) (subst (λ v. ExpectAlike (Some ((scope_reading p k s).read t)) v) (sym f) (inl refl, inl refl))

  val_spot_alike : (owner : Option ℕ) (typ : Option TypeRef) → SpotAlike owner (val_spot typ)
  val_spot_alike owner None = nothing_alike owner
  val_spot_alike owner (Some t) = written_alike owner t

  field_spot_alike : (owner : Option ℕ) (f : Option Field) → SpotAlike owner (field_spot f)
  field_spot_alike owner None = nothing_alike owner
  field_spot_alike owner (Some f) = written_alike owner f.typ

  abbrev pub AllSpotsAlike : Option ℕ → List Spot → Type 0
  AllSpotsAlike owner [] = Unit {0}
  AllSpotsAlike owner (spot ∷ spots) = SpotAlike owner spot × AllSpotsAlike owner spots

  pub written_all_alike : (owner : Option ℕ) (ts : List TypeRef) → AllSpotsAlike owner (written_spots ts)
  written_all_alike owner [] = tt
  written_all_alike owner (t ∷ ts) = (written_alike owner t, written_all_alike owner ts)

-- what has a type over one list has it over a narrower one
module _ (p : Program) (k : ℕ) (s : Scope) (w : Lawful (scope_reading p k s)) (from into : List (scope_reading p k s).Kind) (owner : Option ℕ) where
  pub expr_moves : (x : Expr) (seen : List Variable) → ExprFits p s owner seen x → AllNarrower (scope_reading p k s) w p s into from seen → ExprReady (scope_reading p k s) w p s into from owner x → Moves (scope_reading p k s) w s owner from into (Plain x)
  expr_moves x seen fit ok ready t h = let n = narrow_expr (scope_reading p k s) w p s into from owner x seen fit ok ready t h.effect h.has in record { effect = n.effect; has = n.has }

  pub value_moves : (x : Value) (seen : List Variable) → ValueFits p s owner seen x → AllNarrower (scope_reading p k s) w p s into from seen → ValueReady (scope_reading p k s) w p s into from owner x → Moves (scope_reading p k s) w s owner from into x
  value_moves x seen fit ok ready t h = let n = narrow_value (scope_reading p k s) w p s into from owner x seen fit ok ready t h.effect h.has in record { effect = n.effect; has = n.has }

  each_moves : (xs : Values) (seen : List Variable) → ValuesFit p s owner seen xs → AllNarrower (scope_reading p k s) w p s into from seen → ValuesReady (scope_reading p k s) w p s into from owner xs → EachMoves (scope_reading p k s) w s owner from into xs
  each_moves none seen fit ok ready = tt
  each_moves (more x xs) seen fit ok ready = (value_moves x seen fit.0 ok ready.0, each_moves xs seen fit.1 ok ready.1)

  block_moves : (b : Block) (seen : List Variable) → BlockFits p s owner seen b → AllNarrower (scope_reading p k s) w p s into from seen → BlockReady (scope_reading p k s) w p s into from owner b → BlockMoves (scope_reading p k s) w s owner from into b
  block_moves b seen fit ok ready t h = let n = narrow_block (scope_reading p k s) w p s into from owner b seen fit ok ready t h.effect h.has in record { effect = n.effect; has = n.has }

  parts_move : (x : Expr) (seen : List Variable) → ExprFits p s owner seen x → AllNarrower (scope_reading p k s) w p s into from seen → ExprReady (scope_reading p k s) w p s into from owner x → PartsMove (scope_reading p k s) w s owner from into x
  parts_move (Number q n) seen fit ok ready = tt
  parts_move (Quoted q bytes) seen fit ok ready = tt
  parts_move (TruthOf q b) seen fit ok ready = tt
  parts_move (NothingOf q) seen fit ok ready = tt
  parts_move (This q) seen fit ok ready = tt
  parts_move (Name q name) seen fit ok ready = tt
  parts_move (Unary q op x) seen fit ok ready = (expr_moves x seen fit ok ready, tt)
  parts_move (Binary q op x z) seen fit ok ready = (expr_moves x seen fit.0 ok ready.0, (expr_moves z seen fit.1 ok ready.1, tt))
  parts_move (TextCall q op xs) seen fit ok ready = each_moves xs seen fit.1 ok ready
  parts_move (Call q x name xs) seen fit ok ready = (expr_moves x seen fit.0 ok ready.0, each_moves xs seen fit.1 ok ready.1)
  parts_move (New q l xs) seen fit ok ready = each_moves xs seen fit.4 ok ready
  parts_move (Ascribe q x t) seen fit ok ready = value_moves x seen fit.0 ok ready
  parts_move (Assign q name x) seen fit ok ready = value_moves x seen fit.1 ok ready

  some_moves : (x : Expr) → Moves (scope_reading p k s) w s owner from into (Plain x) → HasSome (scope_reading p k s) s from owner (Plain x) → HasSome (scope_reading p k s) s into owner (Plain x)
  some_moves x m h = let r = m h.typ (record { effect = h.effect; has = h.has }) in record { typ = h.typ; effect = r.effect; has = r.has }

  val_moves : (typ : Option TypeRef) (x : Value) → Moves (scope_reading p k s) w s owner from into x → ValStands (scope_reading p k s) s from owner typ x → ValStands (scope_reading p k s) s into owner typ x
  val_moves None (Plain x) m h = some_moves x m h
  val_moves None (If q test first second) m h = h
  val_moves (Some t) x m h = m ((scope_reading p k s).read t) h

  -- after a `val` that settles over both lists its type is narrower
  settled_narrower : (n : ℕ) (typ : Option TypeRef) (x : Value) → Moves (scope_reading p k s) w s owner from into x → ValSettles (scope_reading p k s) s from owner n typ x → ValSettles (scope_reading p k s) s into owner n typ x →
      Narrower (scope_reading p k s) w p s into from n
  settled_narrower n None x m h l u e =
      let same = some_same h.0 u (sym h.3 ∙ e) in
      (l.0, l.3, inr (subst (λ v. IsBelow (scope_reading p k s) l.0 v) same (least_below (scope_reading p k s) w s owner from into x h.0 l.0 h.1 l.1 m h.2 l.2)))
    where
      some_same : (a b : (scope_reading p k s).Kind) → ◌≡◌ {A = Option (scope_reading p k s).Kind} (Some a) (Some b) → a ≡ b
      some_same a b e = cc
  settled_narrower n (Some t) x m h l u e = ((scope_reading p k s).read t, l, inl (some_same ((scope_reading p k s).read t) u (sym h ∙ e)))
    where
      some_same : (a b : (scope_reading p k s).Kind) → ◌≡◌ {A = Option (scope_reading p k s).Kind} (Some a) (Some b) → a ≡ b
      some_same a b e = cc

module _ (p : Program) (k : ℕ) (s : Scope) (w : Lawful (scope_reading p k s)) (one other : List (scope_reading p k s).Kind) (owner : Option ℕ) where
  -- the `val`s in sight, each narrower over either list
  abbrev pub Sight : List Variable → Type 0
  Sight seen = AllNarrower (scope_reading p k s) w p s one other seen × AllNarrower (scope_reading p k s) w p s other one seen

  abbrev BothMove : Value → Type 0
  BothMove x = Moves (scope_reading p k s) w s owner one other x × Moves (scope_reading p k s) w s owner other one x

  ------------------------------------------------------------
  -- What the place of an argument expects

  param_below : (t u : (scope_reading p k s).Kind) (name : List ℕ) (m n : Signature (scope_reading p k s).Kind) (i : ℕ) (a b : (scope_reading p k s).Kind) → IsBelow (scope_reading p k s) t u →
      find_method name ((scope_reading p k s).methods t) ≡ Some m → (scope_reading p k s).IsObject u → find_method name ((scope_reading p k s).methods u) ≡ Some n → slice_get m.params i ≡ Some a → slice_get n.params i ≡ Some b → IsBelow (scope_reading p k s) b a
  param_below t u name m n i a b below e o f g h =
      let r = has_under (scope_reading p k s) w t u name n below o f in
      let same = same_method (scope_reading p k s) w s owner t name m r.method e r.found in
      let q : slice_get r.method.params i ≡ Some a = subst (λ (v : Signature (scope_reading p k s).Kind). slice_get v.params i ≡ Some a) same g in
      record { pairs = r.under.pairs; first = params_below p k s w one other owner r.under.pairs r.method.params n.params i a b r.under.covers.params q h; closed = r.under.closed }

  parameter_alike : (t u : (scope_reading p k s).Kind) (name : List ℕ) (arity i : ℕ) (a b : Option (scope_reading p k s).Kind) → IsBelow (scope_reading p k s) t u → IsBelow (scope_reading p k s) u t →
      IsParameter (scope_reading p k s) s one owner t name arity i a → IsParameter (scope_reading p k s) s other owner u name arity i b → ExpectAlike p k s one other a b
  parameter_alike t u name arity i None None below above h g = tt
  parameter_alike t u name arity i None (Some b) below above h g = (let r = target_below (scope_reading p k s) w s owner other one t u name arity g.0 below g.1 in absurd (h r.0 r.1))
  parameter_alike t u name arity i (Some a) None below above h g = (let r = target_below (scope_reading p k s) w s owner one other u t name arity h.0 above h.1 in absurd (g r.0 r.1))
  parameter_alike t u name arity i (Some a) (Some b) below above h g = (
    inr (param_below u t name g.0 h.0 i b a above g.1.found h.1.object h.1.found g.2 h.2),
    inr (param_below t u name h.0 g.0 i a b below h.1.found g.1.object g.1.found h.2 g.2),
  )

  argument_alike : (x : Expr) (name : List ℕ) (arity i : ℕ) → BothMove (Plain x) → SpotAlike p k s one other owner (argument x name arity i)
  argument_alike x name arity i m a b h g =
      parameter_alike h.0 g.0 name arity i a b
      (least_below (scope_reading p k s) w s owner other one (Plain x) g.0 h.0 g.1 h.1 m.1 g.2 h.2)
      (least_below (scope_reading p k s) w s owner one other (Plain x) h.0 g.0 h.1 g.1 m.0 h.2 g.2)
      h.3 g.3

  arguments_alike : (x : Expr) (name : List ℕ) (arity : ℕ) (is : List ℕ) → BothMove (Plain x) → AllSpotsAlike p k s one other owner (map (λ i. argument x name arity i) is)
  arguments_alike x name arity [] m = tt
  arguments_alike x name arity (i ∷ is) m = (argument_alike x name arity i m, arguments_alike x name arity is m)

  ------------------------------------------------------------
  -- The node of a form, after its parts

  own_alike : (q : Place) (rule : RuleName) (x : Expr) (seen : List Variable) → ExprFits p s owner seen x → Sight seen → ExprReady (scope_reading p k s) w p s one other owner x → ExprReady (scope_reading p k s) w p s other one owner x →
      NodeAlike p k s one other (node q rule owner nothing (part (Plain x)))
  own_alike q rule x seen fit ok a b =
      node_alike p k s one other (node q rule owner nothing (part (Plain x))) (nothing_alike p k s one other owner)
      (λ o u e h. some_moves p k s w one other owner x (expr_moves p k s w one other owner x seen fit ok.1 b) h)
      (λ o u e h. some_moves p k s w other one owner x (expr_moves p k s w other one owner x seen fit ok.0 a) h)
      (λ o u m n i j e f g h. (expr_same (scope_reading p k s) w s owner one other x m n (parts_move p k s w one other owner x seen fit ok.1 b) (parts_move p k s w other one owner x seen fit ok.0 a) g.0 h.0, g.1 ∙ sym h.1))

  choice_there : (q : Place) (test : Expr) (first second : Block) (o u : Option (scope_reading p k s).Kind) → BothMove (If q test first second) → ExpectAlike p k s one other o u →
      ValueStands (scope_reading p k s) s one owner o (If q test first second) → ValueStands (scope_reading p k s) s other owner u (If q test first second)
  choice_there q test first second None None m e h = tt
  choice_there q test first second None (Some t) m e h = absurd e
  choice_there q test first second (Some t) None m e h = absurd e
  choice_there q test first second (Some t) (Some u) m e h = raised (scope_reading p k s) w s owner one other (If q test first second) t u m.0 e.0 h

  choice_back : (q : Place) (test : Expr) (first second : Block) (o u : Option (scope_reading p k s).Kind) → BothMove (If q test first second) → ExpectAlike p k s one other o u →
      ValueStands (scope_reading p k s) s other owner u (If q test first second) → ValueStands (scope_reading p k s) s one owner o (If q test first second)
  choice_back q test first second None None m e h = tt
  choice_back q test first second None (Some t) m e h = absurd e
  choice_back q test first second (Some t) None m e h = absurd e
  choice_back q test first second (Some t) (Some u) m e h = raised (scope_reading p k s) w s owner other one (If q test first second) u t m.1 e.1 h

  abbrev BlockBothMove : Block → Type 0
  BlockBothMove b = BlockMoves (scope_reading p k s) w s owner one other b × BlockMoves (scope_reading p k s) w s owner other one b

  choice_premise : (q : Place) (test : Expr) (first second : Block) (o u : Option (scope_reading p k s).Kind) (m n : ℕ) → BothMove (Plain test) → BlockBothMove first → BlockBothMove second → ExpectAlike p k s one other o u →
      ValueFails (scope_reading p k s) s one owner o (If q test first second) m → ValueFails (scope_reading p k s) s other owner u (If q test first second) n → m ≡ n
  choice_premise q test first second None None m n a b c e h g = absurd h
  choice_premise q test first second None (Some t) m n a b c e h g = absurd e
  choice_premise q test first second (Some t) None m n a b c e h g = absurd e
  choice_premise q test first second (Some t) (Some u) m n a b c e h g = if_same (scope_reading p k s) w s owner one other test first second t u m n a.0 a.1 b.0 b.1 c.0 c.1 e.0 e.1 h g

  choice_alike : (q : Place) (test : Expr) (first second : Block) (spot : Spot) (seen : List Variable) → ValueFits p s owner seen (If q test first second) → Sight seen → SpotAlike p k s one other owner spot →
      ValueReady (scope_reading p k s) w p s one other owner (If q test first second) → ValueReady (scope_reading p k s) w p s other one owner (If q test first second) →
      NodeAlike p k s one other (node q TIf owner spot (part (If q test first second)))
  choice_alike q test first second spot seen fit ok places a b =
      let m : BothMove (If q test first second) = (value_moves p k s w one other owner (If q test first second) seen fit ok.1 b, value_moves p k s w other one owner (If q test first second) seen fit ok.0 a) in
      let l : BothMove (Plain test) = (expr_moves p k s w one other owner test seen fit.0 ok.1 b.0, expr_moves p k s w other one owner test seen fit.0 ok.0 a.0) in
      let c : BlockBothMove first = (block_moves p k s w one other owner first seen fit.1 ok.1 b.1, block_moves p k s w other one owner first seen fit.1 ok.0 a.1) in
      let d : BlockBothMove second = (block_moves p k s w one other owner second seen fit.2 ok.1 b.2, block_moves p k s w other one owner second seen fit.2 ok.0 a.2) in
      node_alike p k s one other (node q TIf owner spot (part (If q test first second))) places
      (λ o u e h. choice_there q test first second o u m e h)
      (λ o u e h. choice_back q test first second o u m e h)
      (λ o u i j f g e z h v. (choice_premise q test first second o u i j l c d e h.0 v.0, h.1 ∙ sym v.1))

  statement_alike : (x : Value) → BothMove x → NodeAlike p k s one other (node (mark x) TSeq owner nothing (statement x))
  statement_alike x m =
      let t = (scope_reading p k s).read Nothing in
      node_alike p k s one other (node (mark x) TSeq owner nothing (statement x)) (nothing_alike p k s one other owner) (λ o u e h. m.0 t h) (λ o u e h. m.1 t h)
      (λ o u i j f g e z h v. (only_same (HasAt (scope_reading p k s) s one owner x t) (HasAt (scope_reading p k s) s other owner x t) i j (m.0 t) (m.1 t) h.0 v.0, h.1 ∙ sym v.1))

  val_alike : (q : Place) (n : ℕ) (typ : Option TypeRef) (x : Value) → BothMove x → NodeAlike p k s one other (node q TVal owner nothing (val n typ x))
  val_alike q n typ x m =
      node_alike p k s one other (node q TVal owner nothing (val n typ x)) (nothing_alike p k s one other owner)
      (λ o u e h. val_moves p k s w one other owner typ x m.0 h) (λ o u e h. val_moves p k s w other one owner typ x m.1 h)
      (λ o u i j f g e z h v. (val_same (scope_reading p k s) w s owner one other typ x i j m.0 m.1 h.0 v.0, h.1 ∙ sym v.1))

  ------------------------------------------------------------
  -- All nodes

  mutual
    expr_alike : (x : Expr) (seen : List Variable) → ExprFits p s owner seen x → Sight seen → Alike p k s one other (expr_nodes s owner x)
    expr_alike (Number q n) seen fit ok = tt
    expr_alike (Quoted q bytes) seen fit ok = tt
    expr_alike (TruthOf q b) seen fit ok = tt
    expr_alike (NothingOf q) seen fit ok = tt
    expr_alike (This q) seen fit ok = tt
    expr_alike (Name q name) seen fit ok = tt
    expr_alike (Unary q op x) seen fit ok =
        append p k s one other (expr_nodes s owner x) _ (expr_alike x seen fit ok)
        (λ a b. alone p k s one other _ (own_alike q _ (Unary q op x) seen fit ok (expr_ready p k s w one other owner x a) (expr_ready p k s w other one owner x b)))
    expr_alike (Binary q op x z) seen fit ok =
        append p k s one other (expr_nodes s owner x) _ (expr_alike x seen fit.0 ok)
        (λ a b. append p k s one other (expr_nodes s owner z) _ (expr_alike z seen fit.1 ok)
        (λ c d. alone p k s one other _ (own_alike q _ (Binary q op x z) seen fit ok (expr_ready p k s w one other owner x a, expr_ready p k s w one other owner z c) (expr_ready p k s w other one owner x b, expr_ready p k s w other one owner z d))))
    expr_alike (TextCall q op xs) seen fit ok =
        let spots = written_spots (row_types (text_rows op)) in
        append p k s one other (values_nodes s owner spots xs) _ (values_alike xs spots seen fit.1 ok (written_all_alike p k s one other owner (row_types (text_rows op))))
        (λ a b. alone p k s one other _ (own_alike q _ (TextCall q op xs) seen fit ok (values_ready p k s w one other owner xs spots a) (values_ready p k s w other one owner xs spots b)))
    expr_alike (Call q x name xs) seen fit ok =
        let spots = argument_spots x name (value_count xs) in
        append p k s one other (expr_nodes s owner x) _ (expr_alike x seen fit.0 ok)
        (λ a b.
        let ready = expr_ready p k s w one other owner x a in
        let other_ready = expr_ready p k s w other one owner x b in
        let m : BothMove (Plain x) = (expr_moves p k s w one other owner x seen fit.0 ok.1 other_ready, expr_moves p k s w other one owner x seen fit.0 ok.0 ready) in
        append p k s one other (values_nodes s owner spots xs) _ (values_alike xs spots seen fit.1 ok (arguments_alike x name (value_count xs) (range_with_len 0 (value_count xs)) m))
        (λ c d. alone p k s one other _ (own_alike q _ (Call q x name xs) seen fit ok (ready, values_ready p k s w one other owner xs spots c) (other_ready, values_ready p k s w other one owner xs spots d))))
    expr_alike (New q l xs) seen fit ok =
        let spots = written_spots (field_types s l) in
        append p k s one other (values_nodes s owner spots xs) _ (values_alike xs spots seen fit.4 ok (written_all_alike p k s one other owner (field_types s l)))
        (λ a b. alone p k s one other _ (own_alike q _ (New q l xs) seen fit ok (values_ready p k s w one other owner xs spots a) (values_ready p k s w other one owner xs spots b)))
    expr_alike (Ascribe q x t) seen fit ok =
        append p k s one other (value_nodes s owner (written t) x) _ (value_alike x (written t) seen fit.0 ok (written_alike p k s one other owner t))
        (λ a b. alone p k s one other _ (own_alike q _ (Ascribe q x t) seen fit ok (value_ready p k s w one other owner x (written t) a) (value_ready p k s w other one owner x (written t) b)))
    expr_alike (Assign q name x) seen fit ok =
        let spot = field_spot (var_field s owner name) in
        append p k s one other (value_nodes s owner spot x) _ (value_alike x spot seen fit.1 ok (field_spot_alike p k s one other owner (var_field s owner name)))
        (λ a b. alone p k s one other _ (own_alike q _ (Assign q name x) seen fit ok (value_ready p k s w one other owner x spot a) (value_ready p k s w other one owner x spot b)))

    value_alike : (x : Value) (spot : Spot) (seen : List Variable) → ValueFits p s owner seen x → Sight seen → SpotAlike p k s one other owner spot → Alike p k s one other (value_nodes s owner spot x)
    value_alike (Plain x) spot seen fit ok places = expr_alike x seen fit ok
    value_alike (If q test first second) spot seen fit ok places =
        append p k s one other (expr_nodes s owner test) _ (expr_alike test seen fit.0 ok)
        (λ a b. append p k s one other (block_nodes s owner spot first) _ (block_alike first spot seen fit.1 ok places)
        (λ c d. append p k s one other (block_nodes s owner spot second) _ (block_alike second spot seen fit.2 ok places)
        (λ e f. alone p k s one other _ (choice_alike q test first second spot seen fit ok places
        (expr_ready p k s w one other owner test a, block_ready p k s w one other owner first spot c, block_ready p k s w one other owner second spot e)
        (expr_ready p k s w other one owner test b, block_ready p k s w other one owner first spot d, block_ready p k s w other one owner second spot f)))))

    pub values_alike : (xs : Values) (spots : List Spot) (seen : List Variable) → ValuesFit p s owner seen xs → Sight seen → AllSpotsAlike p k s one other owner spots → Alike p k s one other (values_nodes s owner spots xs)
    values_alike none spots seen fit ok places = tt
    values_alike (more x xs) [] seen fit ok places =
        append p k s one other (value_nodes s owner nothing x) _ (value_alike x nothing seen fit.0 ok (nothing_alike p k s one other owner)) (λ a b. values_alike xs [] seen fit.1 ok tt)
    values_alike (more x xs) (spot ∷ spots) seen fit ok places =
        append p k s one other (value_nodes s owner spot x) _ (value_alike x spot seen fit.0 ok places.0) (λ a b. values_alike xs spots seen fit.1 ok places.1)

    pub block_alike : (b : Block) (spot : Spot) (seen : List Variable) → BlockFits p s owner seen b → Sight seen → SpotAlike p k s one other owner spot → Alike p k s one other (block_nodes s owner spot b)
    block_alike (Last x) spot seen fit ok places = value_alike x spot seen fit ok places
    block_alike (Then x rest) spot seen fit ok places =
        append p k s one other (value_nodes s owner (written Nothing) x) _ (value_alike x (written Nothing) seen fit.0 ok (written_alike p k s one other owner Nothing))
        (λ a b. (
          statement_alike x (
            value_moves p k s w one other owner x seen fit.0 ok.1 (value_ready p k s w other one owner x (written Nothing) b),
            value_moves p k s w other one owner x seen fit.0 ok.0 (value_ready p k s w one other owner x (written Nothing) a),
          ),
          λ c d. block_alike rest spot seen fit.1 ok places,
        ))
    block_alike (Val q n typ x rest) spot seen fit ok places =
        append p k s one other (value_nodes s owner (val_spot typ) x) _ (value_alike x (val_spot typ) seen fit.1 ok (val_spot_alike p k s one other owner typ))
        (λ a b.
        let m : BothMove x = (
          value_moves p k s w one other owner x seen fit.1 ok.1 (value_ready p k s w other one owner x (val_spot typ) b),
          value_moves p k s w other one owner x seen fit.1 ok.0 (value_ready p k s w one other owner x (val_spot typ) a),
        ) in (
          val_alike q n typ x m,
          λ c d. block_alike rest spot (Local n ∷ seen) fit.2 (
            one_more_seen (scope_reading p k s) w p s one other owner n seen (settled_narrower p k s w other one owner n typ x m.1 d.settles c.settles) ok.0,
            one_more_seen (scope_reading p k s) w p s other one owner n seen (settled_narrower p k s w one other owner n typ x m.0 c.settles d.settles) ok.1,
          ) places,
        ))
