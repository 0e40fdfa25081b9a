-- Steps that are gathered: what is written one behind the other, said in other words.
use Rattle.std.proofs.Common.{◌≡◌, ℕ, List, ◌++◌, false, sym, ap, ◌∙◌, append_assoc}
use Rattle.wy_types.specs.declared.types.TypeRef.{TypeRef}
use Rattle.wy_types.specs.Code.{Expr, Value}
use Rattle.wy_proving.specs.Steps.{Step}
use Rattle.wy_certify.specs.Gathered.{Gathered, Writes, Gives, WritesExpr, WritesOwn}
use Rattle.wy_certify.specs.Written.{Context, expr_steps, expr_typ, expr_effect, own_steps, own_typ, own_effect}
use Rattle.wy_certify.specs.declared.typed.Typed.{Typed}

-- one part behind another, where the second rests on what is known of the first
pub behind : {a b : List (Step TypeRef)} {P Q : Type 0} {old mid new : Gathered} → Writes a P old mid → (new.wanting ≡ false → mid.wanting ≡ false) → (P → Writes b Q mid new) → Writes (a ++ b) (P × Q) old new
behind {a} {b} {old = old} h enough k = record {
  enough = λ w. h.enough (enough w);
  added = λ w. (k (h.holds (enough w))).added w ∙ ap (λ (l : List (Step TypeRef)). l ++ b) (h.added (enough w)) ∙ append_assoc old.list a b;
  holds = λ w. (h.holds (enough w), (k (h.holds (enough w))).holds w);
}

pub two : {a b : List (Step TypeRef)} {P Q : Type 0} {old mid new : Gathered} → Writes a P old mid → Writes b Q mid new → Writes (a ++ b) (P × Q) old new
two h k = behind h k.enough (λ p. k)

-- the same in other words
pub so : {a b : List (Step TypeRef)} {P Q : Type 0} {old new : Gathered} → Writes a P old new → (P → (a ≡ b) × Q) → Writes b Q old new
so {old = old} h f = record {
  enough = h.enough;
  added = λ w. h.added w ∙ ap (λ (l : List (Step TypeRef)). old.list ++ l) (f (h.holds w)).0;
  holds = λ w. (f (h.holds w)).1;
}

-- an expression, and a value, by their form
pub by_form : (c : Context) {x y : Expr} {m : Typed} {a : List (Step TypeRef)} {t : TypeRef} {e : List ℕ} {old new : Gathered} →
    x ≡ y → expr_steps c y ≡ a → expr_typ c y ≡ t → expr_effect c y ≡ e → Writes a (Gives t e m) old new → WritesExpr c x m old new
by_form c is steps typ effect h =
    so h (λ g. (sym (ap (expr_steps c) is ∙ steps), (g.0 ∙ sym (ap (expr_typ c) is ∙ typ), g.1 ∙ sym (ap (expr_effect c) is ∙ effect))))

pub by_own_form : (c : Context) (u : TypeRef) {x y : Value} {m : Typed} {a : List (Step TypeRef)} {t : TypeRef} {e : List ℕ} {old new : Gathered} →
    x ≡ y → own_steps c y u ≡ a → own_typ c y u ≡ t → own_effect c y u ≡ e → Writes a (Gives t e m) old new → WritesOwn c x u m old new
by_own_form c u is steps typ effect h =
    so h (λ g. (sym (ap (λ (v : Value). own_steps c v u) is ∙ steps), (g.0 ∙ sym (ap (λ (v : Value). own_typ c v u) is ∙ typ), g.1 ∙ sym (ap (λ (v : Value). own_effect c v u) is ∙ effect))))
