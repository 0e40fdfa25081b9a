-- Of a derivation that stands no step has more parts than there are steps.
use Rattle.std.proofs.Common.{◌≡◌, ℕ, ◌+◌, ◌≤◌, List, [], ◌∷◌, ◌++◌, map, length, inl, inr, refl, sym, ap, subst, Option, Some, None, arith, length-append}
use Rattle.wy_text.specs.Members.{In}
use Rattle.wy_text.proofs.Lists.{In-cases}
use Rattle.wy_types.specs.declared.types.TypeRef.TheVariants.{Bool, Unit as Nothing}
use Rattle.wy_types.specs.Code.{Name, This, Call, New, Ascribe, Assign, Value, Plain, If, Values, none, more, Block, Last, Then, Val}
use Rattle.wy_types.specs.Program.{Scope, Body, Start, Init, Run}
use Rattle.wy_types.specs.Signature.{find_method}
use Rattle.wy_types.specs.Vals.{value_count}
use Rattle.wy_rules.specs.Readings.{Reading}
use Rattle.wy_rules.specs.Operators.{operation_of}
use Rattle.wy_rules.specs.Derivations.{Derivation, T-Lit, T-Var, T-This, T-Call, T-New, T-If, T-Set, T-Op, T-Asc, T-Sub, Derivations, none as no_derivations, more as one_more, BlockDerivation, Result, T-Seq, T-Val, Block-Sub, BodyDerivation, T-Body, T-Body-Init, ScopeDerivation}
use Rattle.wy_rules.specs.Typing.{field_types, Derives, DerivesAll, DerivesBlock, DerivesStart, DerivesBodies, DerivesScope}
use Rattle.wy_rules.specs.Canonical.{method_params, field_type}
use Rattle.wy_proving.specs.Steps.{Step, operands_of, value_steps, values_steps, block_steps, start_steps, body_steps, bodies_steps, scope_steps}

module _ {K : Type 0} where
  -- behind so many steps there are these, so many or more, and none has more parts than there are steps
  record AreFew (before n : ℕ) (sts : List (Step K)) : Type 0 where
    some : n ≤ length sts
    each : (st : Step K) → In st sts → st.parts ≤ before + length sts

  few_none : (b : ℕ) → AreFew b 0 []
  few_none b = record { some = omega arith; each = λ st i. absurd i }

  few_one : (b : ℕ) (st : Step K) → st.parts ≤ b + 1 → AreFew b 1 (st ∷ [])
  few_one b st le =
      let one : length (st ∷ []) ≡ 1 = refl in
      record {
        some = omega (arith, one);
        each = λ x i. elim i [ inl e ↦ (let same : st.parts ≡ x.parts = ap (λ (v : Step K). v.parts) e in omega (arith, same, le, one)) | inr z ↦ absurd z ];
      }

  -- steps behind steps
  few_both : (b m n : ℕ) (xs ys : List (Step K)) → AreFew b m xs → AreFew (b + m) n ys → AreFew b (m + n) (xs ++ ys)
  few_both b m n xs ys a c =
      let all = length-append xs ys in
      let x = a.some in
      let y = c.some in
      record {
        some = omega (arith, all, x, y);
        each = λ st i. elim (In-cases st xs ys i) [
          | inl j ↦ (let z = a.each st j in omega (arith, all, z))
          | inr j ↦ (let z = c.each st j in omega (arith, all, z, x))
        ];
      }

  -- .. and a step at the end
  few_last : (b n : ℕ) (xs : List (Step K)) (st : Step K) → AreFew b n xs → st.parts ≤ (b + n) + 1 → AreFew b (n + 1) (xs ++ st ∷ [])
  few_last b n xs st a le = few_both b n 1 xs (st ∷ []) a (few_one (b + n) st le)

  few_less : (b m n : ℕ) (xs : List (Step K)) → m ≤ n → AreFew b n xs → AreFew b m xs
  few_less b m n xs le a = record { some = (let x = a.some in omega (arith, x, le)); each = a.each }

  few_more : (b n : ℕ) (xs : List (Step K)) → AreFew 0 n xs → AreFew b n xs
  few_more b n xs a = record { some = a.some; each = λ st i. (let x = a.each st i in omega (arith, x)) }

module _ (y : Reading) (s : Scope) (locals : List y.Kind) where
  module _ (owner : Option ℕ) where
    mutual
      value_few : (d : Derivation y.Kind) (x : Value) (t : y.Kind) (f : List ℕ) → Derives y s locals owner d x t f → AreFew 0 1 (value_steps y s owner d x t f)
      value_few (T-Lit q) (Plain x) t f h = few_one 0 _ (omega arith)
      value_few (T-Var q) (Plain (Name i name)) t f h = few_one 0 _ (omega arith)
      value_few (T-This q) (Plain (This i)) t f h = few_one 0 _ (omega arith)
      value_few (T-Call q d k g ds) (Plain (Call i x name xs)) t f h =
          let n = value_count xs in
          let r = value_few d (Plain x) k g h.2 in
          let v = all_few ds xs h.0.params h.5 in
          let passed = subst (λ o. AreFew 0 n (values_steps y s owner ds xs (method_params y o))) (sym h.4) v in
          few_less 0 1 (1 + (n + 1)) _ (omega arith)
          (few_both 0 1 (n + 1) (value_steps y s owner d (Plain x) k g) _ r (few_last 1 n (values_steps y s owner ds xs (method_params y (find_method name (y.methods k)))) _ (few_more 1 n _ passed) (omega arith)))
      value_few (T-New q ds) (Plain (New i l xs)) t f h =
          few_less 0 1 (value_count xs + 1) _ (omega arith) (few_last 0 (value_count xs) _ _ (all_few ds xs (map y.read (field_types s l)) h.1) (omega arith))
      value_few (T-If q d g u i v j) (If o test first second) t f h =
          few_less 0 1 (1 + (1 + (1 + 1))) _ (omega arith)
          (few_both 0 1 (1 + (1 + 1)) (value_steps y s owner d (Plain test) (y.read Bool) g) _ (value_few d (Plain test) (y.read Bool) g h.1)
          (few_both 1 1 (1 + 1) (block_steps y s owner u first t i) _ (few_more 1 1 _ (block_few u first t i h.2))
          (few_last 2 1 (block_steps y s owner v second t j) _ (few_more 2 1 _ (block_few v second t j h.3)) (omega arith))))
      value_few (T-Set q d) (Plain (Assign i name x)) t f h =
          let r = value_few d x (y.read h.0.typ) f h.3 in
          let put = subst (λ o. AreFew 0 1 (value_steps y s owner d x (field_type y o) f)) (sym h.2) r in
          few_less 0 1 (1 + 1) _ (omega arith) (few_last 0 1 _ _ put (omega arith))
      value_few (T-Op q r ds) (Plain x) t f h =
          let v = all_few ds h.0.operands (map y.read r.operands) h.4 in
          let put = subst (λ o. AreFew 0 (value_count (operands_of o)) (values_steps y s owner ds (operands_of o) (map y.read r.operands))) (sym h.2) v in
          few_less 0 1 (value_count (operands_of (operation_of x)) + 1) _ (omega arith) (few_last 0 (value_count (operands_of (operation_of x))) _ _ put (omega arith))
      value_few (T-Asc q d) (Plain (Ascribe i x u)) t f h = few_less 0 1 (1 + 1) _ (omega arith) (few_last 0 1 _ _ (value_few d x (y.read u) f h.1) (omega arith))
      value_few (T-Sub q d k g) x t f h = few_less 0 1 (1 + 1) _ (omega arith) (few_last 0 1 _ _ (value_few d x k g h.1) (omega arith))
      value_few d x t f h = absurd h

      all_few : (ds : Derivations y.Kind) (xs : Values) (ts : List y.Kind) → DerivesAll y s locals owner ds xs ts → AreFew 0 (value_count xs) (values_steps y s owner ds xs ts)
      all_few no_derivations none [] h = few_none 0
      all_few (one_more d g ds) (more x xs) (t ∷ ts) h =
          let n = value_count xs in
          few_less 0 (n + 1) (1 + n) _ (omega arith) (few_both 0 1 n (value_steps y s owner d x t g) (values_steps y s owner ds xs ts) (value_few d x t g h.0) (few_more 1 n _ (all_few ds xs ts h.1)))
      all_few ds xs ts h = absurd h

      block_few : (d : BlockDerivation y.Kind) (x : Block) (t : y.Kind) (f : List ℕ) → DerivesBlock y s locals owner d x t f → AreFew 0 1 (block_steps y s owner d x t f)
      block_few (Result d) (Last x) t f h = value_few d x t f h
      block_few (T-Seq q d g ds i) (Then x rest) t f h =
          few_less 0 1 (1 + (1 + 1)) _ (omega arith)
          (few_both 0 1 (1 + 1) (value_steps y s owner d x (y.read Nothing) g) _ (value_few d x (y.read Nothing) g h.1)
          (few_last 1 1 (block_steps y s owner ds rest t i) _ (few_more 1 1 _ (block_few ds rest t i h.2)) (omega arith)))
      block_few (T-Val q d k g ds i) (Val j l typ x rest) t f h =
          few_less 0 1 (1 + (1 + (1 + 1))) _ (omega arith)
          (few_both 0 1 (1 + (1 + 1)) (value_steps y s owner d x k g) _ (value_few d x k g h.3)
          (few_both 1 1 (1 + 1) (_ ∷ []) _ (few_one 1 _ (omega arith)) (few_last 2 1 (block_steps y s owner ds rest t i) _ (few_more 2 1 _ (block_few ds rest t i h.4)) (omega arith))))
      block_few (Block-Sub q ds k g) x t f h = few_less 0 1 (1 + 1) _ (omega arith) (few_last 0 1 _ _ (block_few ds x k g h.1) (omega arith))
      block_few d x t f h = absurd h

  start_few : (st : Start) (d : BodyDerivation y.Kind) → DerivesStart y s locals d st → AreFew 0 1 (start_steps y s d st)
  start_few (Init values) (T-Body-Init q ds) h =
      let n = value_count values in
      few_less 0 1 (n + 1) _ (omega arith) (few_last 0 n _ _ (all_few None ds values (map y.read (field_types s 0)) h.1) (omega arith))
  start_few (Run block) (T-Body q d f) h = few_less 0 1 (1 + 1) _ (omega arith) (few_last 0 1 _ _ (block_few None d block (y.read Nothing) f h.1) (omega arith))
  start_few (Init values) (T-Body q d f) h = absurd h
  start_few (Run block) (T-Body-Init q ds) h = absurd h

  bodies_few : (ds : List (BodyDerivation y.Kind)) (bs : List Body) → DerivesBodies y s locals ds bs → AreFew 0 0 (bodies_steps y s ds bs)
  bodies_few [] [] h = few_none 0
  bodies_few (d ∷ ds) [] h = absurd h
  bodies_few [] (b ∷ bs) h = absurd h
  bodies_few (T-Body-Init q ds ∷ rest) (b ∷ bs) h = absurd h.0
  bodies_few (T-Body q d f ∷ ds) (b ∷ bs) h =
      let result = y.read b.signature.result in
      few_less 0 0 ((1 + 1) + 0) _ (omega arith)
      (few_both 0 (1 + 1) 0 (body_steps y s (T-Body q d f) b) (bodies_steps y s ds bs) (few_last 0 1 (block_steps y s (Some b.owner) d b.block result f) _ (block_few (Some b.owner) d b.block result f h.0.1) (omega arith))
      (few_more (0 + (1 + 1)) 0 _ (bodies_few ds bs h.1)))

-- of a derivation of a scope no step has more parts than there are steps
pub few_parts : (y : Reading) (s : Scope) (d : ScopeDerivation y.Kind) → DerivesScope y s d → (st : Step y.Kind) → In st (scope_steps y s d) → st.parts ≤ length (scope_steps y s d)
few_parts y s d h st i =
    let all = few_both 0 1 0 (start_steps y s d.start s.start) (bodies_steps y s d.bodies s.bodies) (start_few y s d.locals s.start d.start h.0) (few_more (0 + 1) 0 _ (bodies_few y s d.locals d.bodies s.bodies h.1)) in
    let le = all.each st i in
    omega (arith, le)
