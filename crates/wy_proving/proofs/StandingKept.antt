-- That a type can stand is kept by methods and holds of all that a scope writes: so what is written over types that stand names such types.
use Rattle.std.proofs.Common.{◌≡◌, ℕ, List, [], ◌∷◌, map, length, inl, inr, refl, Some}
use Rattle.std.specs.Prelude.{slice_get}
use Rattle.wy_text.specs.Members.{In}
use Rattle.wy_types.specs.declared.types.TypeRef.{TypeRef}
use Rattle.wy_types.specs.declared.types.TypeRef.TheVariants.{Own}
use Rattle.wy_types.specs.declared.code.Variable.{Variable}
use Rattle.wy_types.specs.Program.{Program, Scope, Body}
use Rattle.wy_types.specs.Types.{methods_of}
use Rattle.wy_types.specs.Core.{IsCore, ScopeFits, BlockFits}
use Rattle.wy_types.specs.Reached.{own_types, start_types}
use Rattle.wy_types.specs.Written.{block_types}
use Rattle.wy_rules.specs.Readings.{Reading}
use Rattle.wy_rules.specs.Typing.{field_types}
use Rattle.wy_rules.specs.Canonical.{canonical_scope, same_type}
use Rattle.wy_rules.specs.Reached.{IsReached, Each, NamesScope}
use Rattle.wy_rules.proofs.Reaching.{IsKept, reached_closed, reached_in_start, bodies_reached, scope_names}
use Rattle.wy_rules.proofs.Transferring.{Tests}
use Rattle.wy_proving.specs.Proving.{TypeStands}
use Rattle.wy_proving.proofs.ReachedStand.{method_stands, reached_stands}
use Rattle.wy_proving.proofs.StepsListed.{over}

-- what each element of a list has
pub each_of : {X : Type 0} (P : X → Type 0) (xs : List X) → ((x : X) → In x xs → P x) → Each P xs
each_of P [] h = tt
each_of P (x ∷ xs) h = (h x (inl refl), each_of P xs (λ v i. h v (inr i)))

-- .. and a property that follows
pub each_so : {X : Type 0} (P Q : X → Type 0) → ((x : X) → P x → Q x) → (xs : List X) → Each P xs → Each Q xs
each_so P Q f [] h = tt
each_so P Q f (x ∷ xs) h = (f x h.0, each_so P Q f xs h.1)

module _ (p : Program) (core : IsCore p) (k : ℕ) (s : Scope) (at : slice_get p.scopes k ≡ Some s) (fits : ScopeFits p s) (tests : Tests) where
  abbrev y : Reading
  y = over (methods_of p k) tests

  stands : (t : TypeRef) → IsReached y s t → TypeStands p s t
  stands = reached_stands p core k s at fits tests.Includes tests.Allows tests.Under

  -- what a scope reaches stands
  pub all_stand : (ts : List TypeRef) → Each (IsReached y s) ts → Each (TypeStands p s) ts
  all_stand ts h = each_so (IsReached y s) (TypeStands p s) stands ts h

  -- it holds of all that the scope writes, and is kept by methods
  pub stands_kept : IsKept y s (TypeStands p s)
  stands_kept =
      let r = reached_closed y s in
      record {
        number = tt;
        truth = tt;
        text = tt;
        nothing = tt;
        own = λ t i. stands t (r.own t i);
        fields = λ l. all_stand (map (λ t. t) (field_types s l)) (r.fields l);
        field = λ o i f e. stands f.typ (r.field o i f e);
        parameter = λ j i t e. stands t (r.parameter j i t e);
        name = λ j n e. stands n.typ (r.name j n e);
        params = λ t h m i. each_of (TypeStands p s) m.params (method_stands p core k s at fits t h m i).0;
        result = λ t h m i. (method_stands p core k s at fits t h m i).1;
      }

  body_stands : (b : Body) → In b s.bodies →
      (seen : List Variable) × In (Own b.owner) (own_types s.kind (length s.literals)) × BlockFits p s (Some b.owner) seen b.block × TypeStands p s b.signature.result × Each (TypeStands p s) (map (λ t. t) (block_types b.block))
  body_stands b i = (let r = bodies_reached y s p fits b i in (r.0, r.1, r.2, stands b.signature.result r.3, all_stand (map (λ t. t) (block_types b.block)) r.4))

  -- the result of a body
  pub answer_stands : (b : Body) → In b s.bodies → TypeStands p s b.signature.result
  answer_stands b i = (body_stands b i).3

  -- .. over types of `val`s that stand
  pub names_stand : (us : List TypeRef) → Each (TypeStands p s) us → NamesScope (TypeStands p s) (canonical_scope y same_type s us)
  names_stand us h = scope_names y same_type p s (TypeStands p s) stands_kept fits.starts.1 (all_stand (map (λ t. t) (start_types s.start)) (reached_in_start y s)) body_stands us h
