-- The steps of a block are those of its statements, of its last value, and then T-Seq from the last statement to the first.
use Rattle.std.proofs.Common.{◌≡◌, ℕ, List, [], ◌∷◌, ◌++◌, Option, Some, None, refl, sym, ap, ◌∙◌, append_assoc}
use Rattle.std.proofs.lemmas.List.{append-nil}
use Rattle.wy_effects.specs.EffSet.{union}
use Rattle.wy_types.specs.declared.types.TypeRef.{TypeRef}
use Rattle.wy_text.specs.declared.fault.Place.{Place}
use Rattle.wy_types.specs.declared.types.TypeRef.TheVariants.{Unit as Nothing}
use Rattle.wy_types.specs.declared.code.Value as v
use Rattle.wy_types.specs.declared.code.Stmt as st
use Rattle.wy_types.specs.Code.{Value, Block, Last}
use Rattle.wy_types.specs.View.{value_of, stmt_block, stmts_block}
use Rattle.wy_cert.specs.declared.certificate.Rule.TheVariants as by
use Rattle.wy_proving.specs.Steps.{Step, step}
use Rattle.wy_certify.specs.Written.{Context, own_steps, own_typ, own_effect, at_steps, local_typ, run_steps, run_typ, run_effect, stmt_steps, stmt_effect, stmt_mark, front_steps, joined_effect, back_steps}

module _ (c : Context) where
  first_steps : (x : st.Stmt) (b : Block) (t : TypeRef) → run_steps c (stmt_block x b) t ≡ stmt_steps c x ++ (run_steps c b t ++ step by.Seq (stmt_mark x) 2 (Some (run_typ c b t)) (union (stmt_effect c x) (run_effect c b t)) ∷ [])
  unfolding run_steps run_typ run_effect stmt_steps stmt_effect at_steps own_effect local_typ
  first_steps (st.Val q n typ x) b t = sym (append_assoc _ (step by.Val q 1 None _ ∷ []) _)
  first_steps (st.Do x) b t = refl

  first_typ : (x : st.Stmt) (b : Block) (t : TypeRef) → run_typ c (stmt_block x b) t ≡ run_typ c b t
  unfolding run_typ
  first_typ (st.Val q n typ x) b t = refl
  first_typ (st.Do x) b t = refl

  first_effect : (x : st.Stmt) (b : Block) (t : TypeRef) → run_effect c (stmt_block x b) t ≡ union (stmt_effect c x) (run_effect c b t)
  unfolding run_effect stmt_effect own_effect local_typ
  first_effect (st.Val q n typ x) b t = refl
  first_effect (st.Do x) b t = refl

  pub block_typ : (xs : List st.Stmt) (z : Value) (t : TypeRef) → run_typ c (stmts_block xs (Last z)) t ≡ own_typ c z t
  unfolding run_typ own_typ
  block_typ [] z t = refl
  block_typ (x ∷ xs) z t = first_typ x (stmts_block xs (Last z)) t ∙ block_typ xs z t

  pub block_effect : (xs : List st.Stmt) (z : Value) (t : TypeRef) → run_effect c (stmts_block xs (Last z)) t ≡ joined_effect c xs (own_effect c z t)
  unfolding run_effect own_effect joined_effect
  block_effect [] z t = refl
  block_effect (x ∷ xs) z t = first_effect x (stmts_block xs (Last z)) t ∙ ap (union (stmt_effect c x)) (block_effect xs z t)

  regrouped : (a b d e g : List (Step TypeRef)) → a ++ ((b ++ (d ++ e)) ++ g) ≡ (a ++ b) ++ (d ++ (e ++ g))
  regrouped a b d e g = simp append_assoc

  last_steps : (z : Value) (t : TypeRef) → run_steps c (Last z) t ≡ own_steps c z t
  unfolding run_steps own_steps
  last_steps z t = refl

  pub all_block_steps : (xs : List st.Stmt) (z : Value) (t : TypeRef) → run_steps c (stmts_block xs (Last z)) t ≡ front_steps c xs ++ (own_steps c z t ++ back_steps c xs (own_typ c z t) (own_effect c z t))
  unfolding front_steps back_steps joined_effect
  all_block_steps [] z t = last_steps z t ∙ sym (append-nil (own_steps c z t))
  all_block_steps (x ∷ xs) z t =
      let b = stmts_block xs (Last z) in
      let own : TypeRef → List ℕ → List (Step TypeRef) = λ (u : TypeRef) (f : List ℕ). step by.Seq (stmt_mark x) 2 (Some u) (union (stmt_effect c x) f) ∷ [] in
      first_steps x b t ∙ ap (λ (l : List (Step TypeRef)). stmt_steps c x ++ (l ++ own (run_typ c b t) (run_effect c b t))) (all_block_steps xs z t) ∙
      ap (λ (u : TypeRef). stmt_steps c x ++ ((front_steps c xs ++ (own_steps c z t ++ back_steps c xs (own_typ c z t) (own_effect c z t))) ++ own u (run_effect c b t))) (block_typ xs z t) ∙
      ap (λ (f : List ℕ). stmt_steps c x ++ ((front_steps c xs ++ (own_steps c z t ++ back_steps c xs (own_typ c z t) (own_effect c z t))) ++ own (own_typ c z t) f)) (block_effect xs z t) ∙
      regrouped (stmt_steps c x) (front_steps c xs) (own_steps c z t) (back_steps c xs (own_typ c z t) (own_effect c z t)) (own (own_typ c z t) (joined_effect c xs (own_effect c z t)))

  -- .. and what is written before the rest of a block and after it
  pub val_steps : (q : Place) (n : ℕ) (typ : Option TypeRef) (x : v.Value) → stmt_steps c (st.Val q n typ x) ≡ at_steps c (value_of x) (local_typ c n) ++ step by.Val q 1 None (own_effect c (value_of x) (local_typ c n)) ∷ []
  unfolding stmt_steps
  val_steps q n typ x = refl

  pub do_steps : (x : v.Value) → stmt_steps c (st.Do x) ≡ at_steps c (value_of x) Nothing
  unfolding stmt_steps
  do_steps x = refl

  pub val_effect : (q : Place) (n : ℕ) (typ : Option TypeRef) (x : v.Value) → stmt_effect c (st.Val q n typ x) ≡ own_effect c (value_of x) (local_typ c n)
  unfolding stmt_effect
  val_effect q n typ x = refl

  pub do_effect : (x : v.Value) → stmt_effect c (st.Do x) ≡ own_effect c (value_of x) Nothing
  unfolding stmt_effect
  do_effect x = refl
