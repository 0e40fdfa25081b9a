-- What is read is a derivation whose steps the nodes say.
use Rattle.std.proofs.Common.{◌≡◌, ℕ, ◌+◌, List, [], ◌∷◌, ◌++◌, map, refl, sym, ◌∙◌, ap, subst, Option, Some, None, Bool as Truth, true, false, append_assoc}
use Rattle.std.specs.Prelude.{slice_get}
use Rattle.wy_text.specs.Members.{In}
use Rattle.wy_effects.specs.EffSet.{union}
use Rattle.wy_types.specs.declared.types.TypeRef.{TypeRef}
use Rattle.wy_types.specs.declared.types.TypeRef.TheVariants.{Int, Bool, Text, Unit as Nothing, Own}
use Rattle.wy_types.specs.declared.resolved.Field.{Field}
use Rattle.wy_types.specs.Code.{Expr, Number, Quoted, Truth as TruthOf, Nothing as NothingOf, This, Name, Unary, Binary, TextCall, Call, New, Ascribe, Assign, Value, Plain, If, Values, none, more, Block, Last, Then, Val}
use Rattle.wy_types.specs.Program.{Scope}
use Rattle.wy_types.specs.Signature.{Signature, find_method}
use Rattle.wy_types.specs.Vals.{value_count}
use Rattle.wy_rules.specs.Readings.{Reading, IsBelow}
use Rattle.wy_rules.specs.Operators.{Row, Operation, operation_of, unary_rows, binary_rows, text_rows}
use Rattle.wy_rules.specs.Derivations as d
use Rattle.wy_rules.specs.Derivations.{Derivation, Derivations, BlockDerivation, none as no_derivations, more as one_derivation, effects_of, expr_mark, mark, block_mark}
use Rattle.wy_rules.specs.Typing.{field_types, var_field, binding_type, IsValType, Derives, DerivesAll, DerivesBlock}
use Rattle.wy_rules.specs.Canonical.{both, first_row, row_of, first_operand, second_operand, field_type, method_params}
use Rattle.wy_rules.proofs.SameTypes.{both_left, both_right}
use Rattle.wy_cert.specs.declared.certificate.Rule.{Rule}
use Rattle.wy_cert.specs.declared.certificate.Rule.TheVariants as by
use Rattle.wy_cert.specs.declared.certificate.CertNode.{CertNode}
use Rattle.wy_proving.specs.Steps.{Step, operands_of, step, sub_step, value_steps, values_steps, block_steps}
use Rattle.wy_proving.specs.Reading.{Lists, Part, part_stands, part_fails, Parts, parts_stand, parts_fail, with_part, SaySteps, is_found, same_types, read_node, read_name, read_this, read_call, read_set, val_holds, read_expr, read_value, read_values, read_block}
use Rattle.wy_proving.proofs.NodeSteps.{says_both}
use Rattle.wy_proving.proofs.OperatorRows.{unary_row, text_row, binary_row}
use Rattle.wy_proving.proofs.ReadParts.{found_is, all_same, Holds, AllHold, after, after_all, more_after, val_node, IsRaised, node_holds}

module _ (y : Reading) (same : y.Kind → y.Kind → Truth) (exact : (a b : y.Kind) → same a b ≡ true → a ≡ b) (c : Lists y.Kind) where
  module _ (pair : (a b : y.Kind) → c.listed a b ≡ true → IsBelow y a b) (incl : (e f : List ℕ) → c.includes e f ≡ true → y.Includes e f)
      (object : (k : y.Kind) (name : List ℕ) (m : Signature y.Kind) → find_method name (y.methods k) ≡ Some m → y.IsObject k) (s : Scope) (locals : List y.Kind) (owner : Option ℕ) where
    -- a value has a derivation at a type and an effect, and the nodes say its steps before those that are left
    pub record PartHas (x : Value) (ns : List CertNode) (t : y.Kind) (e : List ℕ) (rest : List CertNode) : Type 0 where
      pub derivation : Derivation y.Kind
      pub derives : Derives y s locals owner derivation x t e
      pub consumes : SaySteps c ns (value_steps y s owner derivation x t e) rest

    -- .. a block
    pub record BlockPartHas (x : Block) (ns : List CertNode) (t : y.Kind) (e : List ℕ) (rest : List CertNode) : Type 0 where
      pub derivation : BlockDerivation y.Kind
      pub derives : DerivesBlock y s locals owner derivation x t e
      pub consumes : SaySteps c ns (block_steps y s owner derivation x t e) rest

    -- .. values
    pub record PartsHave (xs : Values) (ns : List CertNode) (ts : List y.Kind) (e : List ℕ) (rest : List CertNode) : Type 0 where
      pub derivations : Derivations y.Kind
      pub derives : DerivesAll y s locals owner derivations xs ts
      pub effects : e ≡ effects_of derivations
      pub consumes : SaySteps c ns (values_steps y s owner derivations xs ts) rest

    abbrev PartHolds : Value → List CertNode → Part y.Kind → Type 0
    PartHolds x ns a = Holds y same exact c (PartHas x ns) a

    abbrev BlockPartHolds : Block → List CertNode → Part y.Kind → Type 0
    BlockPartHolds x ns a = Holds y same exact c (BlockPartHas x ns) a

    abbrev PartsHold : Values → List CertNode → Parts y.Kind → Type 0
    PartsHold xs ns a = AllHold y same exact c (PartsHave xs ns) a

    ------------------------------------------------------------
    -- Forms whose node comes next

    -- the derivation of a form, whose last step its node is to say
    pub record FormHas (x : Value) (st : Step y.Kind) (t : y.Kind) (e : List ℕ) (ns mid : List CertNode) : Type 0 where
      pub derivation : Derivation y.Kind
      pub derives : Derives y s locals owner derivation x t e
      pub before : List (Step y.Kind)
      pub consumes : SaySteps c ns before mid
      pub steps : before ++ st ∷ [] ≡ value_steps y s owner derivation x t e

    raised : (x : Value) (ns : List CertNode) → IsRaised y same exact c pair incl (PartHas x ns) (mark x)
    raised x ns t u e f n rest h below includes says = record {
      derivation = d.T-Sub (mark x) h.derivation t e;
      derives = (refl, h.derives, below, includes);
      consumes = says_both c (value_steps y s owner h.derivation x t e) (sub_step (mark x) t u f ∷ []) ns (n ∷ rest) rest h.consumes (says, refl);
    }

    part_node : (x : Value) (holds : Truth) (rule : Rule) (parts : ℕ) (t : y.Kind) (e : List ℕ) (at : ℕ) (ns mid : List CertNode) → (holds ≡ true → FormHas x (step rule (mark x) parts (Some t) e) t e ns mid) →
        PartHolds x ns (read_node y same c holds rule (mark x) parts t e at mid)
    part_node x holds rule parts t e at ns mid f =
        node_holds y same exact c pair incl (PartHas x ns) (mark x) (raised x ns) holds rule parts t e at mid (λ h n rest m says.
        let g = f h in
        let last = step rule (mark x) parts (Some t) e ∷ [] in
        record {
          derivation = g.derivation;
          derives = g.derives;
          consumes = subst (λ v. SaySteps c ns v rest) g.steps (says_both c g.before last ns mid rest g.consumes (subst (λ v. SaySteps c v last rest) (sym m) (says, refl)));
        })

    leaf : (x : Value) (st : Step y.Kind) (t : y.Kind) (e : List ℕ) (ns : List CertNode) (b : Derivation y.Kind) → Derives y s locals owner b x t e → st ∷ [] ≡ value_steps y s owner b x t e → FormHas x st t e ns ns
    leaf x st t e ns b h g = record { derivation = b; derives = h; before = []; consumes = refl; steps = g }

    -- .. of a block
    pub record BlockFormHas (x : Block) (st : Step y.Kind) (t : y.Kind) (e : List ℕ) (ns mid : List CertNode) : Type 0 where
      pub derivation : BlockDerivation y.Kind
      pub derives : DerivesBlock y s locals owner derivation x t e
      pub before : List (Step y.Kind)
      pub consumes : SaySteps c ns before mid
      pub steps : before ++ st ∷ [] ≡ block_steps y s owner derivation x t e

    block_raised : (x : Block) (ns : List CertNode) → IsRaised y same exact c pair incl (BlockPartHas x ns) (block_mark x)
    block_raised x ns t u e f n rest h below includes says = record {
      derivation = d.Block-Sub (block_mark x) h.derivation t e;
      derives = (refl, h.derives, below, includes);
      consumes = says_both c (block_steps y s owner h.derivation x t e) (sub_step (block_mark x) t u f ∷ []) ns (n ∷ rest) rest h.consumes (says, refl);
    }

    block_node : (x : Block) (holds : Truth) (rule : Rule) (parts : ℕ) (t : y.Kind) (e : List ℕ) (at : ℕ) (ns mid : List CertNode) → (holds ≡ true → BlockFormHas x (step rule (block_mark x) parts (Some t) e) t e ns mid) →
        BlockPartHolds x ns (read_node y same c holds rule (block_mark x) parts t e at mid)
    block_node x holds rule parts t e at ns mid f =
        node_holds y same exact c pair incl (BlockPartHas x ns) (block_mark x) (block_raised x ns) holds rule parts t e at mid (λ h n rest m says.
        let g = f h in
        let last = step rule (block_mark x) parts (Some t) e ∷ [] in
        record {
          derivation = g.derivation;
          derives = g.derives;
          consumes = subst (λ v. SaySteps c ns v rest) g.steps (says_both c g.before last ns mid rest g.consumes (subst (λ v. SaySteps c v last rest) (sym m) (says, refl)));
        })

    block_of : (x : Value) (ns : List CertNode) (a : Part y.Kind) → PartHolds x ns a → BlockPartHolds (Last x) ns a
    block_of x ns (part_stands t e at rest) h = record { derivation = d.Result h.derivation; derives = h.derives; consumes = h.consumes }
    block_of x ns (part_fails at) h = tt

    ------------------------------------------------------------
    -- Operands

    operation_form : (x : Expr) (o : Operation) (r : Row) (ds : Derivations y.Kind) (ns mid : List CertNode) → operation_of x ≡ Some o → In r o.rows → DerivesAll y s locals owner ds o.operands (map y.read r.operands) →
        SaySteps c ns (values_steps y s owner ds o.operands (map y.read r.operands)) mid → FormHas (Plain x) (step by.Op (expr_mark x) (value_count o.operands) (Some (y.read r.result)) (effects_of ds)) (y.read r.result) (effects_of ds) ns mid
    operation_form x o r ds ns mid e i h k = record {
      derivation = d.T-Op (expr_mark x) r ds;
      derives = (o, refl, e, i, h, refl, refl);
      before = values_steps y s owner ds o.operands (map y.read r.operands);
      consumes = k;
      steps = ap (λ v. values_steps y s owner ds v (map y.read r.operands) ++ step by.Op (expr_mark x) (value_count v) (Some (y.read r.result)) (effects_of ds) ∷ []) (ap operands_of (sym e));
    }

    pub record OperandsHave (xs : Values) (ts : List y.Kind) (ds : Derivations y.Kind) (ns mid : List CertNode) : Type 0 where
      pub derives : DerivesAll y s locals owner ds xs ts
      pub consumes : SaySteps c ns (values_steps y s owner ds xs ts) mid

    one_operand : (x : Expr) (k : y.Kind) (e : List ℕ) (ns mid : List CertNode) (a : PartHas (Plain x) ns k e mid) (os : List TypeRef) (t : TypeRef) → os ≡ t ∷ [] → k ≡ first_operand y os →
        OperandsHave (more (Plain x) none) (map y.read os) (one_derivation a.derivation e no_derivations) ns mid
    one_operand x k e ns mid a os t i h =
        let kt : k ≡ y.read t = h ∙ ap (first_operand y) i in
        subst (λ v. OperandsHave (more (Plain x) none) (map y.read v) (one_derivation a.derivation e no_derivations) ns mid) (sym i) (record {
          derives = (subst (λ u. Derives y s locals owner a.derivation (Plain x) u e) kt a.derives, tt);
          consumes = says_both c (value_steps y s owner a.derivation (Plain x) (y.read t) e) [] ns mid mid (subst (λ u. SaySteps c ns (value_steps y s owner a.derivation (Plain x) u e) mid) kt a.consumes) refl;
        })

    two_operands : (x v : Expr) (k l : y.Kind) (e f : List ℕ) (ns mid last : List CertNode) (a : PartHas (Plain x) ns k e mid) (b : PartHas (Plain v) mid l f last) (os : List TypeRef) (t u : TypeRef) → os ≡ t ∷ u ∷ [] →
        k ≡ first_operand y os → l ≡ second_operand y os →
        OperandsHave (more (Plain x) (more (Plain v) none)) (map y.read os) (one_derivation a.derivation e (one_derivation b.derivation f no_derivations)) ns last
    two_operands x v k l e f ns mid last a b os t u i h g =
        let kt : k ≡ y.read t = h ∙ ap (first_operand y) i in
        let lu : l ≡ y.read u = g ∙ ap (second_operand y) i in
        let sx = value_steps y s owner a.derivation (Plain x) (y.read t) e in
        let sv = value_steps y s owner b.derivation (Plain v) (y.read u) f in
        subst (λ w. OperandsHave (more (Plain x) (more (Plain v) none)) (map y.read w) (one_derivation a.derivation e (one_derivation b.derivation f no_derivations)) ns last) (sym i) (record {
          derives = (subst (λ w. Derives y s locals owner a.derivation (Plain x) w e) kt a.derives, (subst (λ w. Derives y s locals owner b.derivation (Plain v) w f) lu b.derives, tt));
          consumes = says_both c sx (sv ++ []) ns mid last (subst (λ w. SaySteps c ns (value_steps y s owner a.derivation (Plain x) w e) mid) kt a.consumes)
              (says_both c sv [] mid last last (subst (λ w. SaySteps c mid (value_steps y s owner b.derivation (Plain v) w f) last) lu b.consumes) refl);
        })

    joined_part : (x : Value) (xs : Values) (t : y.Kind) (e : List ℕ) (ns mid : List CertNode) (a : PartHas x ns t e mid) (b : Parts y.Kind) → PartsHold xs mid b → PartsHold (more x xs) ns (with_part t e b)
    joined_part x xs t e ns mid a (parts_stand ts f at rest) h = record {
      derivations = one_derivation a.derivation e h.derivations;
      derives = (a.derives, h.derives);
      effects = ap (union e) h.effects;
      consumes = says_both c (value_steps y s owner a.derivation x t e) (values_steps y s owner h.derivations xs ts) ns mid rest a.consumes h.consumes;
    }
    joined_part x xs t e ns mid a (parts_fail at) h = tt

    val_is : (o : Option y.Kind) (typ : Option TypeRef) (x : Value) (k : y.Kind) → val_holds y same c o typ x k ≡ true → (o ≡ Some k) × IsValType y s locals owner typ x k
    val_is o None (Plain x) k e = (found_is y same exact c o k (both_left (is_found y same c o k) _ e), tt)
    val_is o None (If q test first second) k e = absurd (let f = both_right (is_found y same c o k) false e in cc)
    val_is o (Some u) x k e = (found_is y same exact c o k (both_left (is_found y same c o k) _ e), exact k (y.read u) (both_right (is_found y same c o k) _ e))

    mutual
      pub expr_read : (x : Expr) (at : ℕ) (ns : List CertNode) → PartHolds (Plain x) ns (read_expr y same c s locals owner x at ns)
      expr_read (Number q n) at ns = part_node (Plain (Number q n)) true by.Lit 0 (y.read Int) [] at ns ns (λ h. leaf (Plain (Number q n)) _ (y.read Int) [] ns (d.T-Lit q) (Int, refl, refl, refl, refl) refl)
      expr_read (Quoted q bytes) at ns = part_node (Plain (Quoted q bytes)) true by.Lit 0 (y.read Text) [] at ns ns (λ h. leaf (Plain (Quoted q bytes)) _ (y.read Text) [] ns (d.T-Lit q) (Text, refl, refl, refl, refl) refl)
      expr_read (TruthOf q b) at ns = part_node (Plain (TruthOf q b)) true by.Lit 0 (y.read Bool) [] at ns ns (λ h. leaf (Plain (TruthOf q b)) _ (y.read Bool) [] ns (d.T-Lit q) (Bool, refl, refl, refl, refl) refl)
      expr_read (NothingOf q) at ns = part_node (Plain (NothingOf q)) true by.Lit 0 (y.read Nothing) [] at ns ns (λ h. leaf (Plain (NothingOf q)) _ (y.read Nothing) [] ns (d.T-Lit q) (Nothing, refl, refl, refl, refl) refl)
      expr_read (This q) at ns = by_owner owner refl
        where
          by_owner : (o : Option ℕ) → owner ≡ o → PartHolds (Plain (This q)) ns (read_this y same c o q at ns)
          by_owner None e = tt
          by_owner (Some l) e = part_node (Plain (This q)) true by.This 0 (y.read (Own l)) [] at ns ns (λ h. leaf (Plain (This q)) _ (y.read (Own l)) [] ns (d.T-This q) (l, refl, e, refl, refl) refl)
      expr_read (Name q name) at ns = by_name (binding_type y s locals owner name) refl
        where
          by_name : (o : Option y.Kind) → binding_type y s locals owner name ≡ o → PartHolds (Plain (Name q name)) ns (read_name y same c o q at ns)
          by_name None e = tt
          by_name (Some t) e = part_node (Plain (Name q name)) true by.Var 0 t [] at ns ns (λ h. leaf (Plain (Name q name)) _ t [] ns (d.T-Var q) (refl, e, refl) refl)
      expr_read (Unary q op x) at ns =
          let r = first_row (unary_rows op) in
          let i = unary_row op in
          after y same exact c (PartHas (Plain x) ns) (PartHas (Plain (Unary q op x)) ns) (read_expr y same c s locals owner x at ns) _ (expr_read x at ns) (λ k e j rest a.
          part_node (Plain (Unary q op x)) (same k (first_operand y r.operands)) by.Op 1 (y.read r.result) (union e []) j ns rest (λ h.
          let o = one_operand x k e ns rest a r.operands i.1.0 i.1.1 (exact k (first_operand y r.operands) h) in
          operation_form (Unary q op x) (record { rows = unary_rows op; operands = more (Plain x) none }) r (one_derivation a.derivation e no_derivations) ns rest refl i.0 o.derives o.consumes))
      expr_read (Binary q op x v) at ns =
          after y same exact c (PartHas (Plain x) ns) (PartHas (Plain (Binary q op x v)) ns) (read_expr y same c s locals owner x at ns) _ (expr_read x at ns) (λ k e j rest a.
          after y same exact c (PartHas (Plain v) rest) (PartHas (Plain (Binary q op x v)) ns) (read_expr y same c s locals owner v j rest) _ (expr_read v j rest) (λ l f m last b.
          let r = row_of y same (binary_rows op) k in
          let i = binary_row y same op k in
          part_node (Plain (Binary q op x v)) (both (same k (first_operand y r.operands)) (same l (second_operand y r.operands))) by.Op 2 (y.read r.result) (union e (union f [])) m ns last (λ h.
          let o = two_operands x v k l e f ns rest last a b r.operands i.1.0 i.1.1 i.1.2 (exact k (first_operand y r.operands) (both_left (same k (first_operand y r.operands)) _ h))
          (exact l (second_operand y r.operands) (both_right (same k (first_operand y r.operands)) _ h)) in
          operation_form (Binary q op x v) (record { rows = binary_rows op; operands = more (Plain x) (more (Plain v) none) }) r (one_derivation a.derivation e (one_derivation b.derivation f no_derivations)) ns last refl i.0 o.derives o.consumes)))
      expr_read (TextCall q op xs) at ns =
          let r = first_row (text_rows op) in
          after_all y same exact c (PartsHave xs ns) (PartHas (Plain (TextCall q op xs)) ns) (read_values y same c s locals owner xs at ns) _ (values_read xs at ns) (λ ts e i rest b.
          part_node (Plain (TextCall q op xs)) (same_types y same c ts (map y.read r.operands)) by.Op (value_count xs) (y.read r.result) e i ns rest (λ h.
          let operands : ts ≡ map y.read r.operands = all_same y same exact c ts (map y.read r.operands) h in
          subst (λ v. FormHas (Plain (TextCall q op xs)) (step by.Op q (value_count xs) (Some (y.read r.result)) v) (y.read r.result) v ns rest) (sym b.effects)
          (operation_form (TextCall q op xs) (record { rows = text_rows op; operands = xs }) r b.derivations ns rest refl (text_row op)
          (subst (λ us. DerivesAll y s locals owner b.derivations xs us) operands b.derives) (subst (λ us. SaySteps c ns (values_steps y s owner b.derivations xs us) rest) operands b.consumes))))
      expr_read (Call q x name xs) at ns =
          after y same exact c (PartHas (Plain x) ns) (PartHas (Plain (Call q x name xs)) ns) (read_expr y same c s locals owner x at ns) _ (expr_read x at ns) (λ k e i rest a.
          after_all y same exact c (PartsHave xs rest) (PartHas (Plain (Call q x name xs)) ns) (read_values y same c s locals owner xs i rest) _ (values_read xs i rest) (λ ts f j last b.
          by_method k e rest a ts f j last b (find_method name (y.methods k)) refl))
        where
          by_method : (k : y.Kind) (e : List ℕ) (rest : List CertNode) → PartHas (Plain x) ns k e rest → (ts : List y.Kind) (f : List ℕ) (j : ℕ) (last : List CertNode) → PartsHave xs rest ts f last →
              (o : Option (Signature y.Kind)) → find_method name (y.methods k) ≡ o → PartHolds (Plain (Call q x name xs)) ns (read_call y same c o q (value_count xs + 1) ts e f j last)
          by_method k e rest a ts f j last b None g = tt
          by_method k e rest a ts f j last b (Some m) g =
              part_node (Plain (Call q x name xs)) (same_types y same c ts m.params) by.Call (value_count xs + 1) m.result (union e (union f m.effect)) j ns last (λ h.
              let st = step by.Call q (value_count xs + 1) (Some m.result) (union e (union f m.effect)) in
              let same_params : ts ≡ m.params = all_same y same exact c ts m.params h in
              let one = value_steps y s owner a.derivation (Plain x) k e in
              let two = values_steps y s owner b.derivations xs ts in
              let params : ts ≡ method_params y (find_method name (y.methods k)) = same_params ∙ ap (method_params y) (sym g) in
              record {
                derivation = d.T-Call q a.derivation k e b.derivations;
                derives = (m, refl, a.derives, object k name m g, g, subst (λ us. DerivesAll y s locals owner b.derivations xs us) same_params b.derives, refl, ap (λ v. union e (union v m.effect)) b.effects);
                before = one ++ two;
                consumes = says_both c one two ns rest last a.consumes b.consumes;
                steps = append_assoc one two (st ∷ []) ∙ ap (λ us. one ++ (values_steps y s owner b.derivations xs us ++ st ∷ [])) params;
              })
      expr_read (New q l xs) at ns =
          after_all y same exact c (PartsHave xs ns) (PartHas (Plain (New q l xs)) ns) (read_values y same c s locals owner xs at ns) _ (values_read xs at ns) (λ ts e i rest b.
          part_node (Plain (New q l xs)) (same_types y same c ts (map y.read (field_types s l))) by.New (value_count xs) (y.read (Own l)) e i ns rest (λ h.
          let fields : ts ≡ map y.read (field_types s l) = all_same y same exact c ts (map y.read (field_types s l)) h in
          let st = step by.New q (value_count xs) (Some (y.read (Own l))) e in
          record {
            derivation = d.T-New q b.derivations;
            derives = (refl, subst (λ us. DerivesAll y s locals owner b.derivations xs us) fields b.derives, refl, b.effects);
            before = values_steps y s owner b.derivations xs ts;
            consumes = b.consumes;
            steps = ap (λ us. values_steps y s owner b.derivations xs us ++ st ∷ []) fields;
          }))
      expr_read (Ascribe q x t) at ns =
          after y same exact c (PartHas x ns) (PartHas (Plain (Ascribe q x t)) ns) (read_value y same c s locals owner x at ns) _ (value_read x at ns) (λ k e i rest a.
          part_node (Plain (Ascribe q x t)) (same k (y.read t)) by.Asc 1 (y.read t) e i ns rest (λ h.
          let st = step by.Asc q 1 (Some (y.read t)) e in
          let eq = exact k (y.read t) h in
          record {
            derivation = d.T-Asc q a.derivation;
            derives = (refl, subst (λ u. Derives y s locals owner a.derivation x u e) eq a.derives, refl);
            before = value_steps y s owner a.derivation x k e;
            consumes = a.consumes;
            steps = ap (λ u. value_steps y s owner a.derivation x u e ++ st ∷ []) eq;
          }))
      expr_read (Assign q name x) at ns = after y same exact c (PartHas x ns) (PartHas (Plain (Assign q name x)) ns) (read_value y same c s locals owner x at ns) _ (value_read x at ns) (λ k e i rest a. by_field k e i rest a (var_field s owner name) refl)
        where
          by_field : (k : y.Kind) (e : List ℕ) (i : ℕ) (rest : List CertNode) → PartHas x ns k e rest → (o : Option Field) → var_field s owner name ≡ o → PartHolds (Plain (Assign q name x)) ns (read_set y same c o q k e i rest)
          by_field k e i rest a None g = tt
          by_field k e i rest a (Some v) g =
              part_node (Plain (Assign q name x)) (same k (y.read v.typ)) by.Set 1 (y.read Nothing) e i ns rest (λ h.
              let st = step by.Set q 1 (Some (y.read Nothing)) e in
              let eq = exact k (y.read v.typ) h in
              record {
                derivation = d.T-Set q a.derivation;
                derives = (v, refl, g, subst (λ u. Derives y s locals owner a.derivation x u e) eq a.derives, refl);
                before = value_steps y s owner a.derivation x k e;
                consumes = a.consumes;
                steps = ap (λ u. value_steps y s owner a.derivation x u e ++ st ∷ []) (eq ∙ ap (field_type y) (sym g));
              })

      pub value_read : (x : Value) (at : ℕ) (ns : List CertNode) → PartHolds x ns (read_value y same c s locals owner x at ns)
      value_read (Plain x) at ns = expr_read x at ns
      value_read (If q test first second) at ns =
          let whole = If q test first second in
          after y same exact c (PartHas (Plain test) ns) (PartHas whole ns) (read_expr y same c s locals owner test at ns) _ (expr_read test at ns) (λ k e i rest a.
          after y same exact c (BlockPartHas first rest) (PartHas whole ns) (read_block y same c s locals owner first i rest) _ (block_read first i rest) (λ t f j mid b.
          after y same exact c (BlockPartHas second mid) (PartHas whole ns) (read_block y same c s locals owner second j mid) _ (block_read second j mid) (λ u g l last v.
          part_node whole (both (same k (y.read Bool)) (same u t)) by.If 3 t (union e (union f g)) l ns last (λ h.
          let kb = exact k (y.read Bool) (both_left (same k (y.read Bool)) _ h) in
          let ut = exact u t (both_right (same k (y.read Bool)) _ h) in
          let st = step by.If q 3 (Some t) (union e (union f g)) in
          let one = value_steps y s owner a.derivation (Plain test) (y.read Bool) e in
          let two = block_steps y s owner b.derivation first t f in
          let three = block_steps y s owner v.derivation second t g in
          record {
            derivation = d.T-If q a.derivation e b.derivation f v.derivation g;
            derives = (refl, subst (λ w. Derives y s locals owner a.derivation (Plain test) w e) kb a.derives, b.derives, subst (λ w. DerivesBlock y s locals owner v.derivation second w g) ut v.derives, refl);
            before = one ++ (two ++ three);
            consumes = says_both c one (two ++ three) ns rest last (subst (λ w. SaySteps c ns (value_steps y s owner a.derivation (Plain test) w e) rest) kb a.consumes)
                (says_both c two three rest mid last b.consumes (subst (λ w. SaySteps c mid (block_steps y s owner v.derivation second w g) last) ut v.consumes));
            steps = append_assoc one (two ++ three) (st ∷ []) ∙ ap (λ w. one ++ w) (append_assoc two three (st ∷ []));
          }))))

      pub values_read : (xs : Values) (at : ℕ) (ns : List CertNode) → PartsHold xs ns (read_values y same c s locals owner xs at ns)
      values_read none at ns = record { derivations = no_derivations; derives = tt; effects = refl; consumes = refl }
      values_read (more x xs) at ns =
          more_after y same exact c (PartHas x ns) (PartsHave (more x xs) ns) (read_value y same c s locals owner x at ns) _ (value_read x at ns) (λ t e i rest a. joined_part x xs t e ns rest a (read_values y same c s locals owner xs i rest) (values_read xs i rest))

      pub block_read : (b : Block) (at : ℕ) (ns : List CertNode) → BlockPartHolds b ns (read_block y same c s locals owner b at ns)
      block_read (Last x) at ns = block_of x ns (read_value y same c s locals owner x at ns) (value_read x at ns)
      block_read (Then x rest) at ns =
          after y same exact c (PartHas x ns) (BlockPartHas (Then x rest) ns) (read_value y same c s locals owner x at ns) _ (value_read x at ns) (λ k e i mid a.
          after y same exact c (BlockPartHas rest mid) (BlockPartHas (Then x rest) ns) (read_block y same c s locals owner rest i mid) _ (block_read rest i mid) (λ t f j last b.
          block_node (Then x rest) (same k (y.read Nothing)) by.Seq 2 t (union e f) j ns last (λ h.
          let kn = exact k (y.read Nothing) h in
          let st = step by.Seq (mark x) 2 (Some t) (union e f) in
          let one = value_steps y s owner a.derivation x (y.read Nothing) e in
          let two = block_steps y s owner b.derivation rest t f in
          record {
            derivation = d.T-Seq (mark x) a.derivation e b.derivation f;
            derives = (refl, subst (λ w. Derives y s locals owner a.derivation x w e) kn a.derives, b.derives, refl);
            before = one ++ two;
            consumes = says_both c one two ns mid last (subst (λ w. SaySteps c ns (value_steps y s owner a.derivation x w e) mid) kn a.consumes) b.consumes;
            steps = append_assoc one two (st ∷ []);
          })))
      block_read (Val q n typ x rest) at ns =
          let whole = Val q n typ x rest in
          after y same exact c (PartHas x ns) (BlockPartHas whole ns) (read_value y same c s locals owner x at ns) _ (value_read x at ns) (λ k e i mid a.
          val_node y same exact c (BlockPartHas whole ns) (val_holds y same c (slice_get locals n) typ x k) q e i mid _ (λ h node others m is.
          after y same exact c (BlockPartHas rest others) (BlockPartHas whole ns) (read_block y same c s locals owner rest (i + 1) others) _ (block_read rest (i + 1) others) (λ t f j last b.
          block_node whole true by.Seq 2 t (union e f) j ns last (λ g.
          let r = val_is (slice_get locals n) typ x k h in
          let st = step by.Seq q 2 (Some t) (union e f) in
          let sv = step by.Val q 1 None e in
          let one = value_steps y s owner a.derivation x k e in
          let two = block_steps y s owner b.derivation rest t f in
          record {
            derivation = d.T-Val q a.derivation k e b.derivation f;
            derives = (refl, r.0, r.1, a.derives, b.derives, refl);
            before = one ++ (sv ∷ two);
            consumes = says_both c one (sv ∷ two) ns mid last a.consumes (subst (λ v. SaySteps c v (sv ∷ two) last) (sym m) (is, b.consumes));
            steps = append_assoc one (sv ∷ two) (st ∷ []);
          }))))
