-- The types that a scope's bodies write are written as the scope asks.
use Rattle.std.proofs.Common.{◌≡◌, ℕ, List, [], ◌∷◌, ◌++◌, inl, inr, refl, subst, Some, None, Option}
use Rattle.wy_text.specs.Members.{In}
use Rattle.wy_text.proofs.Lists.{In-cases}
use Rattle.wy_types.specs.declared.types.TypeRef.{TypeRef}
use Rattle.wy_types.specs.declared.code.Variable.{Variable}
use Rattle.wy_types.specs.declared.code.Variable.TheVariants.{Local}
use Rattle.wy_types.specs.Code.{Expr, Number, Quoted, Truth, Nothing, This, Name, Unary, Binary, TextCall, Call, New, Ascribe, Assign, Value, Plain, If, Values, none, more, Block, Last, Then, Val}
use Rattle.wy_types.specs.Program.{Program, Scope, Start, Init, Run}
use Rattle.wy_types.specs.Core.{StartFits, IsWritten, ExprFits, ValueFits, ValuesFit, BlockFits}
use Rattle.wy_types.specs.Written.{written_types, expr_types, value_types, values_types, block_types}
use Rattle.wy_types.specs.Reached.{start_types}

module _ (p : Program) (s : Scope) where
  abbrev AreWritten : List TypeRef → Type 0
  AreWritten ts = (t : TypeRef) → In t ts → IsWritten p s t

  both_written : (ts us : List TypeRef) → AreWritten ts → AreWritten us → AreWritten (ts ++ us)
  both_written ts us h g t i = elim (In-cases t ts us i) [ inl j ↦ h t j | inr j ↦ g t j ]

  one_written : (u : TypeRef) → IsWritten p s u → AreWritten (u ∷ [])
  one_written u h t i = elim i [ inl e ↦ subst (IsWritten p s) e h | inr z ↦ absurd z ]

  val_written : (typ : Option TypeRef) → ((t : TypeRef) → typ ≡ Some t → IsWritten p s t) → AreWritten (written_types typ)
  val_written None h = λ t i. absurd i
  val_written (Some u) h = one_written u (h u refl)

  module _ (owner : Option ℕ) where
    mutual
      expr_written : (x : Expr) (seen : List Variable) → ExprFits p s owner seen x → AreWritten (expr_types x)
      expr_written (Number q n) seen fit = λ t i. absurd i
      expr_written (Quoted q bytes) seen fit = λ t i. absurd i
      expr_written (Truth q b) seen fit = λ t i. absurd i
      expr_written (Nothing q) seen fit = λ t i. absurd i
      expr_written (This q) seen fit = λ t i. absurd i
      expr_written (Name q name) seen fit = λ t i. absurd i
      expr_written (Unary q op x) seen fit = expr_written x seen fit
      expr_written (Binary q op x y) seen fit = both_written (expr_types x) (expr_types y) (expr_written x seen fit.0) (expr_written y seen fit.1)
      expr_written (TextCall q op xs) seen fit = values_written xs seen fit.1
      expr_written (Call q x name xs) seen fit = both_written (expr_types x) (values_types xs) (expr_written x seen fit.0) (values_written xs seen fit.1)
      expr_written (New q l xs) seen fit = values_written xs seen fit.4
      expr_written (Ascribe q x u) seen fit = both_written (value_types x) (u ∷ []) (value_written x seen fit.0) (one_written u fit.1)
      expr_written (Assign q name x) seen fit = value_written x seen fit.1

      value_written : (x : Value) (seen : List Variable) → ValueFits p s owner seen x → AreWritten (value_types x)
      value_written (Plain x) seen fit = expr_written x seen fit
      value_written (If q test first second) seen fit =
          both_written (expr_types test) (block_types first ++ block_types second) (expr_written test seen fit.0)
          (both_written (block_types first) (block_types second) (block_written first seen fit.1) (block_written second seen fit.2))

      values_written : (xs : Values) (seen : List Variable) → ValuesFit p s owner seen xs → AreWritten (values_types xs)
      values_written none seen fit = λ t i. absurd i
      values_written (more x xs) seen fit = both_written (value_types x) (values_types xs) (value_written x seen fit.0) (values_written xs seen fit.1)

      -- .. of a block
      pub block_written : (b : Block) (seen : List Variable) → BlockFits p s owner seen b → AreWritten (block_types b)
      block_written (Last x) seen fit = value_written x seen fit
      block_written (Then x b) seen fit = both_written (value_types x) (block_types b) (value_written x seen fit.0) (block_written b seen fit.1)
      block_written (Val q n typ x b) seen fit =
          both_written (written_types typ) (value_types x ++ block_types b) (val_written typ fit.0)
          (both_written (value_types x) (block_types b) (value_written x seen fit.1) (block_written b (Local n ∷ seen) fit.2))

  -- .. of what a scope does at its start
  pub start_written : (st : Start) → StartFits p s st → AreWritten (start_types st)
  start_written (Init values) fit = values_written None values [] fit.1
  start_written (Run block) fit = block_written None block [] fit
