-- The nodes of a derivation are read: each part stands at its type and effect, before what follows it.
use Rattle.std.proofs.Common.{◌≡◌, ℕ, ◌+◌, List, [], ◌∷◌, ◌++◌, map, refl, sym, ◌∙◌, ap, subst, Option, Some, None, Bool as Truth, true, false}
use Rattle.std.specs.Prelude.{nat_eq, slice_get, if◌then◌else◌}
use Rattle.std.proofs.lemmas.Bool.{eqb-true}
use Rattle.wy_text.specs.declared.fault.Place.{Place}
use Rattle.wy_text.specs.Members.{In}
use Rattle.wy_effects.specs.EffSet.{union}
use Rattle.wy_types.specs.declared.types.TypeRef.{TypeRef}
use Rattle.wy_types.specs.declared.types.TypeRef.TheVariants.{Int, Bool, Text, Unit as Nothing, Own}
use Rattle.wy_types.specs.declared.code.UnaryOperator.{UnaryOperator}
use Rattle.wy_types.specs.declared.code.BinaryOperator.{BinaryOperator}
use Rattle.wy_types.specs.declared.code.TextOperator.{TextOperator}
use Rattle.wy_types.specs.Code.{Expr, Number, Quoted, Truth as TruthOf, Nothing as NothingOf, This, Name, Unary, Binary, TextCall, Call, New, Ascribe, Assign, Value, Plain, If, Values, none, more, Block, Last, Then, Val}
use Rattle.wy_types.specs.Program.{Scope}
use Rattle.wy_types.specs.Signature.{find_method}
use Rattle.wy_types.specs.Vals.{value_count}
use Rattle.wy_rules.specs.Readings.{Reading}
use Rattle.wy_rules.specs.Operators.{Row, Operation, operation_of, literal_type, unary_rows, binary_rows, text_rows}
use Rattle.wy_rules.specs.Derivations as d
use Rattle.wy_rules.specs.Derivations.{Derivation, Derivations, BlockDerivation, none as no_derivations, more as one_derivation, effects_of, expr_mark, mark, block_mark}
use Rattle.wy_rules.specs.Typing.{field_types, var_field, IsValType, Derives, DerivesAll, DerivesBlock}
use Rattle.wy_rules.specs.Canonical.{both, same_numbers, first_row, row_of, first_operand, second_operand, found_type, field_type, method_params}
use Rattle.wy_rules.proofs.Writing.{Exact}
use Rattle.wy_rules.proofs.SameTypes.{both_left}
use Rattle.wy_cert.specs.declared.certificate.Rule.{Rule}
use Rattle.wy_cert.specs.declared.certificate.Rule.TheVariants as by
use Rattle.wy_cert.specs.declared.certificate.CertNode.{CertNode}
use Rattle.wy_cert.specs.Spelled.{rule_byte}
use Rattle.wy_proving.specs.Steps.{Step, operands_of, step, sub_step, value_steps, values_steps, block_steps}
use Rattle.wy_proving.specs.Reading.{Lists, Part, part_stands, part_fails, Parts, parts_stand, part_then, parts_then, more_parts, with_part, SaysStep, SaySteps, says_rule, says_sub, says_typed, is_found, same_types, is_below, is_sub_of, read_subs, read_node, read_val, read_name, read_this, read_call, read_set, val_holds, read_expr, read_value, read_values, read_block}
use Rattle.wy_proving.proofs.Tests.{both_true, numbers_fit}
use Rattle.wy_proving.proofs.NodeSteps.{split, one_node}
use Rattle.wy_proving.proofs.OperatorRows.{unary_only, text_only, binary_taken}

module _ (y : Reading) (same : y.Kind → y.Kind → Truth) (z : Exact y same) (c : Lists y.Kind) (given : (e f : List ℕ) → y.Includes e f → c.includes e f ≡ true) where
  ------------------------------------------------------------
  -- Where no T-Sub comes next

  abbrev pub NotSub : List CertNode → Type 0
  NotSub [] = Unit {0}
  NotSub (n ∷ ns) = says_sub n ≡ false

  abbrev StartsPlain : List (Step y.Kind) → Type 0
  StartsPlain [] = ⊥
  StartsPlain (st ∷ sts) = nat_eq (rule_byte st.rule) 12 ≡ false

  subs_end : (place : Place) (t : y.Kind) (e : List ℕ) (at : ℕ) (ns : List CertNode) → NotSub ns → read_subs y same c place t e at ns ≡ part_stands t e at ns
  subs_end place t e at [] h = refl
  subs_end place t e at (n ∷ ns) h =
      ap (λ b. if b then (if is_sub_of y same c place t e n then (read_subs y same c place (found_type y (c.named n.typ)) n.effect (at + 1) ns) else (part_fails at)) else (part_stands t e at (n ∷ ns))) h

  pub not_sub : (sts : List (Step y.Kind)) (ns rest : List CertNode) → SaySteps c ns sts rest → StartsPlain sts → NotSub ns
  not_sub [] ns rest h s = absurd s
  not_sub (st ∷ sts) [] rest h s = tt
  not_sub (st ∷ sts) (n ∷ ns) rest h s =
      let e : rule_byte n.rule ≡ rule_byte st.rule = eqb-true (rule_byte n.rule) (rule_byte st.rule) (both_left (nat_eq (rule_byte n.rule) (rule_byte st.rule)) _ h.0.rule) in
      subst (λ b. nat_eq b 12 ≡ false) (sym e) s

  starts_more : (as' bs : List (Step y.Kind)) → StartsPlain as' → StartsPlain (as' ++ bs)
  starts_more [] bs s = absurd s
  starts_more (st ∷ as') bs s = s

  ------------------------------------------------------------
  -- One node

  found_back : (o : Option y.Kind) (t : y.Kind) → o ≡ Some t → is_found y same c o t ≡ true
  found_back None t e = absurd (cc)
  found_back (Some u) t e = (let r : u ≡ t = cc in subst (λ v. same u v ≡ true) r (z.itself u))

  pub all_fit : (xs zs : List y.Kind) → xs ≡ zs → same_types y same c xs zs ≡ true
  all_fit xs zs h = subst (λ v. same_types y same c xs v ≡ true) h (itself xs)
    where
      itself : (xs : List y.Kind) → same_types y same c xs xs ≡ true
      itself [] = refl
      itself (a ∷ xs) = both_true (same a a) (same_types y same c xs xs) (z.itself a) (itself xs)

  said_typed : (rule : Rule) (place : Place) (parts : ℕ) (t : y.Kind) (e : List ℕ) (n : CertNode) → SaysStep c n (step rule place parts (Some t) e) → says_typed y same c rule place parts t e n ≡ true
  said_typed rule place parts t e n h =
      both_true (says_rule rule place parts n) (both (is_found y same c (c.named n.typ) t) (same_numbers n.effect e)) h.rule
      (both_true (is_found y same c (c.named n.typ) t) (same_numbers n.effect e) (found_back (c.named n.typ) t h.typ) (numbers_fit n.effect e h.effect))

  node_back : (holds : Truth) (rule : Rule) (place : Place) (parts : ℕ) (t : y.Kind) (e : List ℕ) (at : ℕ) (n : CertNode) (rest : List CertNode) → holds ≡ true → SaysStep c n (step rule place parts (Some t) e) →
      read_node y same c holds rule place parts t e at (n ∷ rest) ≡ read_subs y same c place t e (at + 1) rest
  node_back holds rule place parts t e at n rest h i =
      ap (λ b. if b then (read_subs y same c place t e (at + 1) rest) else (part_fails at)) (both_true holds (says_typed y same c rule place parts t e n) h (said_typed rule place parts t e n i))

  below_back : (t u : y.Kind) (o : Option y.Kind) → o ≡ Some u → c.listed t u ≡ true → is_below y same c t o ≡ true
  below_back t u None e h = absurd (cc)
  below_back t u (Some v) e h = (let r : u ≡ v = cc in subst (λ a. c.listed t a ≡ true) r h)

  -- a T-Sub that comes next is taken
  sub_back : (place : Place) (k t : y.Kind) (e f : List ℕ) (at : ℕ) (n : CertNode) (rest : List CertNode) → SaysStep c n (sub_step place k t f) → y.Includes e f →
      read_subs y same c place k e at (n ∷ rest) ≡ read_subs y same c place t f (at + 1) rest
  sub_back place k t e f at n rest i v =
      let rule = both_left (nat_eq (rule_byte n.rule) 12) _ i.rule in
      let one = below_back k t (c.named n.typ) i.typ (i.pair k t refl refl) in
      let good = ap c.stands i.effect ∙ i.stands k refl in
      let inside = ap (λ g. c.includes e g) i.effect ∙ given e f v in
      let fit : is_sub_of y same c place k e n ≡ true =
      both_true (says_rule by.Sub place 1 n) (both (is_below y same c k (c.named n.typ)) (both (c.stands n.effect) (c.includes e n.effect))) i.rule
      (both_true (is_below y same c k (c.named n.typ)) (both (c.stands n.effect) (c.includes e n.effect)) one (both_true (c.stands n.effect) (c.includes e n.effect) good inside)) in
      let kind : found_type y (c.named n.typ) ≡ t = ap (found_type y) i.typ in
      ap (λ b. if b then (if is_sub_of y same c place k e n then (read_subs y same c place (found_type y (c.named n.typ)) n.effect (at + 1) rest) else (part_fails at)) else (part_stands k e at (n ∷ rest))) rule ∙
      ap (λ b. if b then (read_subs y same c place (found_type y (c.named n.typ)) n.effect (at + 1) rest) else (part_fails at)) fit ∙
      ap (λ u. read_subs y same c place u n.effect (at + 1) rest) kind ∙ ap (λ g. read_subs y same c place t g (at + 1) rest) i.effect

  -- what comes is the turns of T-Sub that follow a part
  pub record ReadsOn (a : Part y.Kind) (place : Place) (t : y.Kind) (f : List ℕ) (rest : List CertNode) : Type 0 where
    pub at : ℕ
    pub is : a ≡ read_subs y same c place t f at rest

  pub record AllReadOn (a : Parts y.Kind) (ts : List y.Kind) (f : List ℕ) (rest : List CertNode) : Type 0 where
    pub at : ℕ
    pub is : a ≡ parts_stand ts f at rest

  moved : (a b : Part y.Kind) (place : Place) (t : y.Kind) (f : List ℕ) (rest : List CertNode) → a ≡ b → ReadsOn b place t f rest → ReadsOn a place t f rest
  moved a b place t f rest e h = record { at = h.at; is = e ∙ h.is }

  pub stood : (a : Part y.Kind) (place : Place) (t : y.Kind) (f : List ℕ) (rest : List CertNode) (h : ReadsOn a place t f rest) → NotSub rest → a ≡ part_stands t f h.at rest
  stood a place t f rest h n = h.is ∙ subs_end place t f h.at rest n

  -- a form's own node
  closing : (holds : Truth) (rule : Rule) (q p : Place) (parts : ℕ) (t u : y.Kind) (f g : List ℕ) (at : ℕ) (mid rest : List CertNode) → q ≡ p → t ≡ u → f ≡ g → holds ≡ true →
      SaySteps c mid (step rule q parts (Some t) f ∷ []) rest → ReadsOn (read_node y same c holds rule p parts u g at mid) p t f rest
  closing holds rule q p parts t u f g at mid rest qp tu fg h k =
      let o = one_node c (step rule q parts (Some t) f) mid rest k in
      let i = subst (λ v. SaysStep c o.0 (step rule v parts (Some t) f)) qp o.2 in
      record {
        at = at + 1;
        is = ap (λ v. read_node y same c holds rule p parts u g at v) o.1 ∙ ap (λ v. read_node y same c holds rule p parts v g at (o.0 ∷ rest)) (sym tu) ∙ ap (λ v. read_node y same c holds rule p parts t v at (o.0 ∷ rest)) (sym fg) ∙
            node_back holds rule p parts t f at o.0 rest h i;
      }

  after_sub : (a : Part y.Kind) (q p : Place) (k t : y.Kind) (e f : List ℕ) (mid rest : List CertNode) → q ≡ p → y.Includes e f → ReadsOn a p k e mid → SaySteps c mid (sub_step q k t f ∷ []) rest → ReadsOn a p t f rest
  after_sub a q p k t e f mid rest qp v h g =
      let o = one_node c (sub_step q k t f) mid rest g in
      let i = subst (λ v. SaysStep c o.0 (sub_step v k t f)) qp o.2 in
      record { at = h.at + 1; is = h.is ∙ ap (λ v. read_subs y same c p k e h.at v) o.1 ∙ sub_back p k t e f h.at o.0 rest i v }

  module _ (s : Scope) (locals : List y.Kind) (owner : Option ℕ) where
    mutual
      value_starts : (b : Derivation y.Kind) (x : Value) (t : y.Kind) (f : List ℕ) → Derives y s locals owner b x t f → StartsPlain (value_steps y s owner b x t f)
      value_starts (d.T-Lit q) x t f h = refl
      value_starts (d.T-Var q) x t f h = refl
      value_starts (d.T-This q) x t f h = refl
      value_starts (d.T-Call q b k e ds) (Plain (Call p x name xs)) t f h = starts_more (value_steps y s owner b (Plain x) k e) _ (value_starts b (Plain x) k e h.2)
      value_starts (d.T-New q ds) (Plain (New p l xs)) t f h = all_starts ds xs (map y.read (field_types s l)) h.1 _ refl
      value_starts (d.T-If q b e u g v i) (If p test first second) t f h = starts_more (value_steps y s owner b (Plain test) (y.read Bool) e) _ (value_starts b (Plain test) (y.read Bool) e h.1)
      value_starts (d.T-Set q b) (Plain (Assign p name x)) t f h =
          let k : field_type y (var_field s owner name) ≡ y.read h.0.typ = ap (field_type y) h.2 in
          let u = field_type y (var_field s owner name) in
          starts_more (value_steps y s owner b x u f) _ (value_starts b x u f (subst (λ v. Derives y s locals owner b x v f) (sym k) h.3))
      value_starts (d.T-Op q r ds) (Plain x) t f h =
          let e : operands_of (operation_of x) ≡ h.0.operands = ap operands_of h.2 in
          all_starts ds (operands_of (operation_of x)) (map y.read r.operands) (subst (λ v. DerivesAll y s locals owner ds v (map y.read r.operands)) (sym e) h.4) _ refl
      value_starts (d.T-Asc q b) (Plain (Ascribe p x u)) t f h = starts_more (value_steps y s owner b x (y.read u) f) _ (value_starts b x (y.read u) f h.1)
      value_starts (d.T-Sub q b k e) x t f h = starts_more (value_steps y s owner b x k e) _ (value_starts b x k e h.1)
      value_starts b x t f h = absurd h

      all_starts : (ds : Derivations y.Kind) (xs : Values) (ts : List y.Kind) → DerivesAll y s locals owner ds xs ts → (bs : List (Step y.Kind)) → StartsPlain bs → StartsPlain (values_steps y s owner ds xs ts ++ bs)
      all_starts no_derivations none [] h bs g = g
      all_starts (one_derivation b e ds) (more x xs) (t ∷ ts) h bs g =
          starts_more (value_steps y s owner b x t e ++ values_steps y s owner ds xs ts) bs (starts_more (value_steps y s owner b x t e) _ (value_starts b x t e h.0))
      all_starts ds xs ts h bs g = absurd h

    pub block_starts : (b : BlockDerivation y.Kind) (x : Block) (t : y.Kind) (f : List ℕ) → DerivesBlock y s locals owner b x t f → StartsPlain (block_steps y s owner b x t f)
    block_starts (d.Result b) (Last x) t f h = value_starts b x t f h
    block_starts (d.T-Seq q b e ds g) (Then x rest) t f h = starts_more (value_steps y s owner b x (y.read Nothing) e) _ (value_starts b x (y.read Nothing) e h.1)
    block_starts (d.T-Val q b k e ds g) (Val p n typ x rest) t f h = starts_more (value_steps y s owner b x k e) _ (value_starts b x k e h.3)
    block_starts (d.Block-Sub q ds k e) x t f h = starts_more (block_steps y s owner ds x k e) _ (block_starts ds x k e h.1)
    block_starts b x t f h = absurd h

    literal_back : (x : Expr) (u : TypeRef) (q : Place) (t : y.Kind) (f : List ℕ) (at : ℕ) (ns rest : List CertNode) → literal_type x ≡ Some u → q ≡ expr_mark x → t ≡ y.read u → f ≡ [] →
        SaySteps c ns (step by.Lit q 0 (Some t) f ∷ []) rest → ReadsOn (read_expr y same c s locals owner x at ns) (expr_mark x) t f rest
    literal_back (Number p n) u q t f at ns rest e qp tu g k = (let r : u ≡ Int = cc in closing true by.Lit q p 0 t (y.read Int) f [] at ns rest qp (tu ∙ ap y.read r) g refl k)
    literal_back (Quoted p n) u q t f at ns rest e qp tu g k = (let r : u ≡ Text = cc in closing true by.Lit q p 0 t (y.read Text) f [] at ns rest qp (tu ∙ ap y.read r) g refl k)
    literal_back (TruthOf p n) u q t f at ns rest e qp tu g k = (let r : u ≡ Bool = cc in closing true by.Lit q p 0 t (y.read Bool) f [] at ns rest qp (tu ∙ ap y.read r) g refl k)
    literal_back (NothingOf p) u q t f at ns rest e qp tu g k = (let r : u ≡ Nothing = cc in closing true by.Lit q p 0 t (y.read Nothing) f [] at ns rest qp (tu ∙ ap y.read r) g refl k)
    literal_back (This p) u q t f at ns rest e qp tu g k = absurd (cc)
    literal_back (Name p name) u q t f at ns rest e qp tu g k = absurd (cc)
    literal_back (Unary p op x) u q t f at ns rest e qp tu g k = absurd (cc)
    literal_back (Binary p op x v) u q t f at ns rest e qp tu g k = absurd (cc)
    literal_back (TextCall p op xs) u q t f at ns rest e qp tu g k = absurd (cc)
    literal_back (Call p x name xs) u q t f at ns rest e qp tu g k = absurd (cc)
    literal_back (New p l xs) u q t f at ns rest e qp tu g k = absurd (cc)
    literal_back (Ascribe p x v) u q t f at ns rest e qp tu g k = absurd (cc)
    literal_back (Assign p name x) u q t f at ns rest e qp tu g k = absurd (cc)

    some_operation : (a b : Operation) → ◌≡◌ {A = Option Operation} (Some a) (Some b) → a ≡ b
    some_operation a b e = cc

    abbrev record_of_unary : UnaryOperator → Expr → Operation
    record_of_unary op x = record { rows = unary_rows op; operands = more (Plain x) none }

    abbrev record_of_binary : BinaryOperator → Expr → Expr → Operation
    record_of_binary op x v = record { rows = binary_rows op; operands = more (Plain x) (more (Plain v) none) }

    abbrev record_of_text : TextOperator → Values → Operation
    record_of_text op xs = record { rows = text_rows op; operands = xs }

    first_head : (u : y.Kind) (us : List y.Kind) (os : List TypeRef) → u ∷ us ≡ map y.read os → u ≡ first_operand y os
    first_head u us [] e = absurd (cc)
    first_head u us (o ∷ os) e = cc

    second_head : (u v : y.Kind) (us : List y.Kind) (os : List TypeRef) → u ∷ v ∷ us ≡ map y.read os → v ≡ second_operand y os
    second_head u v us [] e = absurd (cc)
    second_head u v us (o ∷ []) e = absurd (cc)
    second_head u v us (o ∷ a ∷ os) e = cc

    val_fits : (o : Option y.Kind) (typ : Option TypeRef) (x : Value) (k : y.Kind) → o ≡ Some k → IsValType y s locals owner typ x k → val_holds y same c o typ x k ≡ true
    val_fits o None (Plain x) k e h = both_true (is_found y same c o k) true (found_back o k e) refl
    val_fits o None (If q test first second) k e h = absurd h
    val_fits o (Some u) x k e h = both_true (is_found y same c o k) (same k (y.read u)) (found_back o k e) (subst (λ v. same k v ≡ true) h (z.itself k))

    val_back : (holds : Truth) (q p : Place) (e : List ℕ) (at : ℕ) (n : CertNode) (rest : List CertNode) (F : ℕ → List CertNode → Part y.Kind) → q ≡ p → holds ≡ true → SaysStep c n (step by.Val q 1 None e) →
        read_val y same c holds p e at (n ∷ rest) F ≡ F (at + 1) rest
    val_back holds q p e at n rest F qp h i =
        let node : says_rule by.Val p 1 n ≡ true = subst (λ v. says_rule by.Val v 1 n ≡ true) qp i.rule in
        ap (λ b. if b then (F (at + 1) rest) else (part_fails at))
        (both_true holds (both (says_rule by.Val p 1 n) (both (nat_eq n.typ 0) (same_numbers n.effect e))) h
        (both_true (says_rule by.Val p 1 n) (both (nat_eq n.typ 0) (same_numbers n.effect e)) node (both_true (nat_eq n.typ 0) (same_numbers n.effect e) i.typ (numbers_fit n.effect e i.effect))))

    mutual
      pub value_back : (b : Derivation y.Kind) (x : Value) (t : y.Kind) (f : List ℕ) → Derives y s locals owner b x t f → (at : ℕ) (ns rest : List CertNode) → SaySteps c ns (value_steps y s owner b x t f) rest →
          ReadsOn (read_value y same c s locals owner x at ns) (mark x) t f rest
      value_back (d.T-Lit q) (Plain x) t f h at ns rest k = literal_back x h.0 q t f at ns rest h.2 h.1 h.3 h.4 k
      value_back (d.T-Var q) (Plain (Name p name)) t f h at ns rest k =
          moved _ _ p t f rest (ap (λ o. read_name y same c o p at ns) h.1) (closing true by.Var q p 0 t t f [] at ns rest h.0 refl h.2 refl k)
      value_back (d.T-This q) (Plain (This p)) t f h at ns rest k =
          moved _ _ p t f rest (ap (λ o. read_this y same c o p at ns) h.2) (closing true by.This q p 0 t (y.read (Own h.0)) f [] at ns rest h.1 h.3 h.4 refl k)
      value_back (d.T-Call q b u e ds) (Plain (Call p x name xs)) t f h at ns rest k =
          let parts = value_count xs + 1 in
          let st = step by.Call q parts (Some t) f in
          let o = find_method name (y.methods u) in
          let params = method_params y o in
          let pm : params ≡ h.0.params = ap (method_params y) h.4 in
          let derive = subst (λ v. DerivesAll y s locals owner ds xs v) (sym pm) h.5 in
          let one = split c (value_steps y s owner b (Plain x) u e) _ ns rest k in
          let two = split c (values_steps y s owner ds xs params) (st ∷ []) one.0 rest one.2 in
          let r = value_back b (Plain x) u e h.2 at ns one.0 one.1 in
          let sr = stood _ (expr_mark x) u e one.0 r (not_sub (values_steps y s owner ds xs params ++ st ∷ []) one.0 rest one.2 (all_starts ds xs params derive (st ∷ []) refl)) in
          let v = all_back ds xs params derive r.at one.0 two.0 two.1 (not_sub (st ∷ []) two.0 rest two.2 refl) in
          moved _ _ p t f rest
          (ap (λ a. part_then a (λ k e i rest. parts_then (read_values y same c s locals owner xs i rest) (λ ts f j last. read_call y same c (find_method name (y.methods k)) p parts ts e f j last))) sr ∙
          ap (λ a. parts_then a (λ ts f j last. read_call y same c o p parts ts e f j last)) v.is ∙
          ap (λ m. read_call y same c m p parts params e (effects_of ds) v.at two.0) h.4)
          (closing (same_types y same c params h.0.params) by.Call q p parts t h.0.result f (union e (union (effects_of ds) h.0.effect)) v.at two.0 rest h.1 h.6 h.7 (all_fit params h.0.params pm) two.2)
      value_back (d.T-New q ds) (Plain (New p l xs)) t f h at ns rest k =
          let st = step by.New q (value_count xs) (Some t) f in
          let ts = map y.read (field_types s l) in
          let one = split c (values_steps y s owner ds xs ts) (st ∷ []) ns rest k in
          let v = all_back ds xs ts h.1 at ns one.0 one.1 (not_sub (st ∷ []) one.0 rest one.2 refl) in
          moved _ _ p t f rest (ap (λ a. parts_then a (λ us e i rest. read_node y same c (same_types y same c us ts) by.New p (value_count xs) (y.read (Own l)) e i rest)) v.is)
          (closing (same_types y same c ts ts) by.New q p (value_count xs) t (y.read (Own l)) f (effects_of ds) v.at one.0 rest h.0 h.2 h.3 (all_fit ts ts refl) one.2)
      value_back (d.T-If q b e u g v i) (If p test first second) t f h at ns rest k =
          let B = y.read Bool in
          let st = step by.If q 3 (Some t) f in
          let sa = value_steps y s owner b (Plain test) B e in
          let sb = block_steps y s owner u first t g in
          let sc = block_steps y s owner v second t i in
          let one = split c sa (sb ++ (sc ++ st ∷ [])) ns rest k in
          let two = split c sb (sc ++ st ∷ []) one.0 rest one.2 in
          let three = split c sc (st ∷ []) two.0 rest two.2 in
          let ra = value_back b (Plain test) B e h.1 at ns one.0 one.1 in
          let pa = stood _ (expr_mark test) B e one.0 ra (not_sub (sb ++ (sc ++ st ∷ [])) one.0 rest one.2 (starts_more sb _ (block_starts u first t g h.2))) in
          let rb = block_back u first t g h.2 ra.at one.0 two.0 two.1 in
          let pb = stood _ (block_mark first) t g two.0 rb (not_sub (sc ++ st ∷ []) two.0 rest two.2 (starts_more sc _ (block_starts v second t i h.3))) in
          let rc = block_back v second t i h.3 rb.at two.0 three.0 three.1 in
          let pc = stood _ (block_mark second) t i three.0 rc (not_sub (st ∷ []) three.0 rest three.2 refl) in
          moved _ _ p t f rest
          (ap (λ a. part_then a (λ k e i rest. part_then (read_block y same c s locals owner first i rest) (λ t f j more. part_then (read_block y same c s locals owner second j more) (λ u g l last.
          read_node y same c (both (same k B) (same u t)) by.If p 3 t (union e (union f g)) l last)))) pa ∙
          ap (λ a. part_then a (λ t f j more. part_then (read_block y same c s locals owner second j more) (λ u g l last. read_node y same c (both (same B B) (same u t)) by.If p 3 t (union e (union f g)) l last))) pb ∙
          ap (λ a. part_then a (λ u i l last. read_node y same c (both (same B B) (same u t)) by.If p 3 t (union e (union g i)) l last)) pc)
          (closing (both (same B B) (same t t)) by.If q p 3 t t f (union e (union g i)) rc.at three.0 rest h.0 refl h.4 (both_true (same B B) (same t t) (z.itself B) (z.itself t)) three.2)
      value_back (d.T-Set q b) (Plain (Assign p name x)) t f h at ns rest k =
          let u = field_type y (var_field s owner name) in
          let uv : u ≡ y.read h.0.typ = ap (field_type y) h.2 in
          let st = step by.Set q 1 (Some t) f in
          let one = split c (value_steps y s owner b x u f) (st ∷ []) ns rest k in
          let r = value_back b x u f (subst (λ v. Derives y s locals owner b x v f) (sym uv) h.3) at ns one.0 one.1 in
          let sr = stood _ (mark x) u f one.0 r (not_sub (st ∷ []) one.0 rest one.2 refl) in
          moved _ _ p t f rest (ap (λ a. part_then a (λ k e i rest. read_set y same c (var_field s owner name) p k e i rest)) sr ∙ ap (λ o. read_set y same c o p u f r.at one.0) h.2)
          (closing (same u (y.read h.0.typ)) by.Set q p 1 t (y.read Nothing) f f r.at one.0 rest h.1 h.4 refl (subst (λ v. same u v ≡ true) uv (z.itself u)) one.2)
      value_back (d.T-Op q r ds) (Plain (Unary p op x)) t f h at ns rest k =
          let o : record_of_unary op x ≡ h.0 = some_operation _ h.0 h.2 in
          unary_back ds op x p q r t f at ns rest (map y.read r.operands) h.1 (subst (λ (v : Operation). In r v.rows) (sym o) h.3) refl
          (subst (λ (v : Operation). DerivesAll y s locals owner ds v.operands (map y.read r.operands)) (sym o) h.4) h.5 h.6 k
      value_back (d.T-Op q r ds) (Plain (Binary p op x v)) t f h at ns rest k =
          let o : record_of_binary op x v ≡ h.0 = some_operation _ h.0 h.2 in
          binary_back ds op x v p q r t f at ns rest (map y.read r.operands) h.1 (subst (λ (v : Operation). In r v.rows) (sym o) h.3) refl
          (subst (λ (v : Operation). DerivesAll y s locals owner ds v.operands (map y.read r.operands)) (sym o) h.4) h.5 h.6 k
      value_back (d.T-Op q r ds) (Plain (TextCall p op xs)) t f h at ns rest k =
          let o : record_of_text op xs ≡ h.0 = some_operation _ h.0 h.2 in
          let derive = subst (λ (v : Operation). DerivesAll y s locals owner ds v.operands (map y.read r.operands)) (sym o) h.4 in
          let e = text_only op r (subst (λ (v : Operation). In r v.rows) (sym o) h.3) in
          let a = first_row (text_rows op) in
          let ts = map y.read r.operands in
          let st = step by.Op q (value_count xs) (Some t) f in
          let one = split c (values_steps y s owner ds xs ts) (st ∷ []) ns rest k in
          let v = all_back ds xs ts derive at ns one.0 one.1 (not_sub (st ∷ []) one.0 rest one.2 refl) in
          moved _ _ p t f rest (ap (λ b. parts_then b (λ us e i rest. read_node y same c (same_types y same c us (map y.read a.operands)) by.Op p (value_count xs) (y.read a.result) e i rest)) v.is)
          (closing (same_types y same c ts (map y.read a.operands)) by.Op q p (value_count xs) t (y.read a.result) f (effects_of ds) v.at one.0 rest h.1 (h.5 ∙ ap (λ (v : Row). y.read v.result) (sym e)) h.6
          (all_fit ts (map y.read a.operands) (ap (λ (v : Row). map y.read v.operands) (sym e))) one.2)
      value_back (d.T-Op q r ds) (Plain x) t f h at ns rest k = absurd (cc)
      value_back (d.T-Asc q b) (Plain (Ascribe p x u)) t f h at ns rest k =
          let st = step by.Asc q 1 (Some t) f in
          let one = split c (value_steps y s owner b x (y.read u) f) (st ∷ []) ns rest k in
          let r = value_back b x (y.read u) f h.1 at ns one.0 one.1 in
          let sr = stood _ (mark x) (y.read u) f one.0 r (not_sub (st ∷ []) one.0 rest one.2 refl) in
          moved _ _ p t f rest (ap (λ a. part_then a (λ k e i rest. read_node y same c (same k (y.read u)) by.Asc p 1 (y.read u) e i rest)) sr)
          (closing (same (y.read u) (y.read u)) by.Asc q p 1 t (y.read u) f f r.at one.0 rest h.0 h.2 refl (z.itself (y.read u)) one.2)
      value_back (d.T-Sub q b u e) x t f h at ns rest k =
          let one = split c (value_steps y s owner b x u e) (sub_step q u t f ∷ []) ns rest k in
          after_sub _ q (mark x) u t e f one.0 rest h.0 h.3 (value_back b x u e h.1 at ns one.0 one.1) one.2
      value_back b x t f h at ns rest k = absurd h

      unary_back : (ds : Derivations y.Kind) (op : UnaryOperator) (x : Expr) (p q : Place) (r : Row) (t : y.Kind) (f : List ℕ) (at : ℕ) (ns rest : List CertNode) (ts : List y.Kind) → q ≡ p → In r (unary_rows op) → ts ≡ map y.read r.operands →
          DerivesAll y s locals owner ds (more (Plain x) none) ts → t ≡ y.read r.result → f ≡ effects_of ds → SaySteps c ns (values_steps y s owner ds (more (Plain x) none) ts ++ step by.Op q 1 (Some t) f ∷ []) rest →
          ReadsOn (read_expr y same c s locals owner (Unary p op x) at ns) p t f rest
      unary_back (one_derivation b e no_derivations) op x p q r t f at ns rest (u ∷ []) qp i m h tr fe k =
          let a = first_row (unary_rows op) in
          let e1 = unary_only op r i in
          let st = step by.Op q 1 (Some t) f in
          let sa = value_steps y s owner b (Plain x) u e in
          let one = split c (sa ++ []) (st ∷ []) ns rest k in
          let two = split c sa [] ns one.0 one.1 in
          let ra = value_back b (Plain x) u e h.0 at ns one.0 (subst (λ v. SaySteps c ns sa v) two.2 two.1) in
          let pa = stood _ (expr_mark x) u e one.0 ra (not_sub (st ∷ []) one.0 rest one.2 refl) in
          let first : u ≡ first_operand y a.operands = first_head u [] a.operands (m ∙ ap (λ (v : Row). map y.read v.operands) (sym e1)) in
          moved _ _ p t f rest (ap (λ b. part_then b (λ k e i rest. read_node y same c (same k (first_operand y a.operands)) by.Op p 1 (y.read a.result) (union e []) i rest)) pa)
          (closing (same u (first_operand y a.operands)) by.Op q p 1 t (y.read a.result) f (union e []) ra.at one.0 rest qp (tr ∙ ap (λ (v : Row). y.read v.result) (sym e1)) fe (subst (λ v. same u v ≡ true) first (z.itself u)) one.2)
      unary_back no_derivations op x p q r t f at ns rest ts qp i m h tr fe k = absurd h
      unary_back (one_derivation b e ds) op x p q r t f at ns rest [] qp i m h tr fe k = absurd h
      unary_back (one_derivation b e no_derivations) op x p q r t f at ns rest (u ∷ u2 ∷ us) qp i m h tr fe k = absurd h.1
      unary_back (one_derivation b e (one_derivation b2 e2 ds)) op x p q r t f at ns rest (u ∷ us) qp i m h tr fe k = absurd h.1

      binary_back : (ds : Derivations y.Kind) (op : BinaryOperator) (x v : Expr) (p q : Place) (r : Row) (t : y.Kind) (f : List ℕ) (at : ℕ) (ns rest : List CertNode) (ts : List y.Kind) → q ≡ p → In r (binary_rows op) → ts ≡ map y.read r.operands →
          DerivesAll y s locals owner ds (more (Plain x) (more (Plain v) none)) ts → t ≡ y.read r.result → f ≡ effects_of ds →
          SaySteps c ns (values_steps y s owner ds (more (Plain x) (more (Plain v) none)) ts ++ step by.Op q 2 (Some t) f ∷ []) rest → ReadsOn (read_expr y same c s locals owner (Binary p op x v) at ns) p t f rest
      binary_back (one_derivation b e (one_derivation b2 e2 no_derivations)) op x v p q r t f at ns rest (u ∷ u2 ∷ []) qp i m h tr fe k =
          let a = row_of y same (binary_rows op) u in
          let g = binary_taken y same z op u r i (first_head u (u2 ∷ []) r.operands m) in
          let st = step by.Op q 2 (Some t) f in
          let sa = value_steps y s owner b (Plain x) u e in
          let sb = value_steps y s owner b2 (Plain v) u2 e2 in
          let one = split c (sa ++ (sb ++ [])) (st ∷ []) ns rest k in
          let two = split c sa (sb ++ []) ns one.0 one.1 in
          let three = split c sb [] two.0 one.0 two.2 in
          let ra = value_back b (Plain x) u e h.0 at ns two.0 two.1 in
          let kb : SaySteps c two.0 sb one.0 = subst (λ v. SaySteps c two.0 sb v) three.2 three.1 in
          let pa = stood _ (expr_mark x) u e two.0 ra (not_sub sb two.0 one.0 kb (value_starts b2 (Plain v) u2 e2 h.1.0)) in
          let rb = value_back b2 (Plain v) u2 e2 h.1.0 ra.at two.0 one.0 kb in
          let pb = stood _ (expr_mark v) u2 e2 one.0 rb (not_sub (st ∷ []) one.0 rest one.2 refl) in
          let first : u ≡ first_operand y a.operands = first_head u (u2 ∷ []) a.operands (m ∙ sym g.operands) in
          let second : u2 ≡ second_operand y a.operands = second_head u u2 [] a.operands (m ∙ sym g.operands) in
          moved _ _ p t f rest
          (ap (λ b. part_then b (λ k e i rest. part_then (read_expr y same c s locals owner v i rest) (λ l f j last.
          let r = row_of y same (binary_rows op) k in
          read_node y same c (both (same k (first_operand y r.operands)) (same l (second_operand y r.operands))) by.Op p 2 (y.read r.result) (union e (union f [])) j last))) pa ∙
          ap (λ b. part_then b (λ l f j last. read_node y same c (both (same u (first_operand y a.operands)) (same l (second_operand y a.operands))) by.Op p 2 (y.read a.result) (union e (union f [])) j last)) pb)
          (closing (both (same u (first_operand y a.operands)) (same u2 (second_operand y a.operands))) by.Op q p 2 t (y.read a.result) f (union e (union e2 [])) rb.at one.0 rest qp (tr ∙ sym g.result) fe
          (both_true (same u (first_operand y a.operands)) (same u2 (second_operand y a.operands)) (subst (λ v. same u v ≡ true) first (z.itself u)) (subst (λ v. same u2 v ≡ true) second (z.itself u2))) one.2)
      binary_back no_derivations op x v p q r t f at ns rest ts qp i m h tr fe k = absurd h
      binary_back (one_derivation b e ds) op x v p q r t f at ns rest [] qp i m h tr fe k = absurd h
      binary_back (one_derivation b e no_derivations) op x v p q r t f at ns rest (u ∷ us) qp i m h tr fe k = absurd h.1
      binary_back (one_derivation b e (one_derivation b2 e2 ds)) op x v p q r t f at ns rest (u ∷ []) qp i m h tr fe k = absurd h.1
      binary_back (one_derivation b e (one_derivation b2 e2 no_derivations)) op x v p q r t f at ns rest (u ∷ u2 ∷ u3 ∷ us) qp i m h tr fe k = absurd h.1.1
      binary_back (one_derivation b e (one_derivation b2 e2 (one_derivation b3 e3 ds))) op x v p q r t f at ns rest (u ∷ u2 ∷ us) qp i m h tr fe k = absurd h.1.1

      pub all_back : (ds : Derivations y.Kind) (xs : Values) (ts : List y.Kind) → DerivesAll y s locals owner ds xs ts → (at : ℕ) (ns rest : List CertNode) → SaySteps c ns (values_steps y s owner ds xs ts) rest → NotSub rest →
          AllReadOn (read_values y same c s locals owner xs at ns) ts (effects_of ds) rest
      all_back no_derivations none [] h at ns rest k n = record { at = at; is = ap (λ v. parts_stand [] [] at v) k }
      all_back (one_derivation b e ds) (more x xs) (t ∷ ts) h at ns rest k n =
          let one = split c (value_steps y s owner b x t e) (values_steps y s owner ds xs ts) ns rest k in
          let r = value_back b x t e h.0 at ns one.0 one.1 in
          let sr = stood _ (mark x) t e one.0 r (rest_starts ds xs ts h.1 one.0 rest one.2 n) in
          let v = all_back ds xs ts h.1 r.at one.0 rest one.2 n in
          record {
            at = v.at;
            is = ap (λ a. more_parts a (λ t e i rest. with_part t e (read_values y same c s locals owner xs i rest))) sr ∙ ap (λ a. with_part t e a) v.is;
          }
      all_back ds xs ts h at ns rest k n = absurd h

      rest_starts : (ds : Derivations y.Kind) (xs : Values) (ts : List y.Kind) → DerivesAll y s locals owner ds xs ts → (ns rest : List CertNode) → SaySteps c ns (values_steps y s owner ds xs ts) rest → NotSub rest → NotSub ns
      rest_starts no_derivations none [] h ns rest k n = subst NotSub (sym k) n
      rest_starts (one_derivation b e ds) (more x xs) (t ∷ ts) h ns rest k n =
          not_sub (value_steps y s owner b x t e ++ values_steps y s owner ds xs ts) ns rest k (starts_more (value_steps y s owner b x t e) _ (value_starts b x t e h.0))
      rest_starts ds xs ts h ns rest k n = absurd h

      pub block_back : (b : BlockDerivation y.Kind) (x : Block) (t : y.Kind) (f : List ℕ) → DerivesBlock y s locals owner b x t f → (at : ℕ) (ns rest : List CertNode) → SaySteps c ns (block_steps y s owner b x t f) rest →
          ReadsOn (read_block y same c s locals owner x at ns) (block_mark x) t f rest
      block_back (d.Result b) (Last x) t f h at ns rest k = value_back b x t f h at ns rest k
      block_back (d.T-Seq q b e ds g) (Then x after) t f h at ns rest k =
          let N = y.read Nothing in
          let st = step by.Seq q 2 (Some t) f in
          let sa = value_steps y s owner b x N e in
          let sb = block_steps y s owner ds after t g in
          let one = split c sa (sb ++ st ∷ []) ns rest k in
          let two = split c sb (st ∷ []) one.0 rest one.2 in
          let ra = value_back b x N e h.1 at ns one.0 one.1 in
          let pa = stood _ (mark x) N e one.0 ra (not_sub (sb ++ st ∷ []) one.0 rest one.2 (starts_more sb _ (block_starts ds after t g h.2))) in
          let rb = block_back ds after t g h.2 ra.at one.0 two.0 two.1 in
          let pb = stood _ (block_mark after) t g two.0 rb (not_sub (st ∷ []) two.0 rest two.2 refl) in
          moved _ _ (mark x) t f rest
          (ap (λ a. part_then a (λ k e i rest. part_then (read_block y same c s locals owner after i rest) (λ t f j last. read_node y same c (same k N) by.Seq (mark x) 2 t (union e f) j last))) pa ∙
          ap (λ a. part_then a (λ t f j last. read_node y same c (same N N) by.Seq (mark x) 2 t (union e f) j last)) pb)
          (closing (same N N) by.Seq q (mark x) 2 t t f (union e g) rb.at two.0 rest h.0 refl h.3 (z.itself N) two.2)
      block_back (d.T-Val q b u e ds g) (Val p n typ x after) t f h at ns rest k =
          let st = step by.Seq q 2 (Some t) f in
          let sv = step by.Val q 1 None e in
          let sa = value_steps y s owner b x u e in
          let sb = block_steps y s owner ds after t g in
          let one = split c sa (sv ∷ (sb ++ st ∷ [])) ns rest k in
          let two = split c (sv ∷ []) (sb ++ st ∷ []) one.0 rest one.2 in
          let three = split c sb (st ∷ []) two.0 rest two.2 in
          let ra = value_back b x u e h.3 at ns one.0 one.1 in
          let pa = stood _ (mark x) u e one.0 ra (not_sub (sv ∷ (sb ++ st ∷ [])) one.0 rest one.2 refl) in
          let o = one_node c sv one.0 two.0 two.1 in
          let rb = block_back ds after t g h.4 (ra.at + 1) two.0 three.0 three.1 in
          let pb = stood _ (block_mark after) t g three.0 rb (not_sub (st ∷ []) three.0 rest three.2 refl) in
          let F : ℕ → List CertNode → Part y.Kind = λ j others. part_then (read_block y same c s locals owner after j others) (λ t f l last. read_node y same c true by.Seq p 2 t (union e f) l last) in
          moved _ _ p t f rest
          (ap (λ a. part_then a (λ k e i rest. read_val y same c (val_holds y same c (slice_get locals n) typ x k) p e i rest
          (λ j others. part_then (read_block y same c s locals owner after j others) (λ t f l last. read_node y same c true by.Seq p 2 t (union e f) l last)))) pa ∙
          ap (λ v. read_val y same c (val_holds y same c (slice_get locals n) typ x u) p e ra.at v F) o.1 ∙
          val_back (val_holds y same c (slice_get locals n) typ x u) q p e ra.at o.0 two.0 F h.0 (val_fits (slice_get locals n) typ x u h.1 h.2) o.2 ∙
          ap (λ a. part_then a (λ t f l last. read_node y same c true by.Seq p 2 t (union e f) l last)) pb)
          (closing true by.Seq q p 2 t t f (union e g) rb.at three.0 rest h.0 refl h.5 refl three.2)
      block_back (d.Block-Sub q ds u e) x t f h at ns rest k =
          let one = split c (block_steps y s owner ds x u e) (sub_step q u t f ∷ []) ns rest k in
          after_sub _ q (block_mark x) u t e f one.0 rest h.0 h.3 (block_back ds x u e h.1 at ns one.0 one.1) one.2
      block_back b x t f h at ns rest k = absurd h
