-- The instances of a run with their scopes: found among the start list, as `main` after it, and with derivations over the types of the run.
use Rattle.std.proofs.Common.{◌≡◌, codes, ℕ, ◌-◌, ◌≤◌, [], ◌∷◌, ◌++◌, length, map, sym, ap, ◌∙◌, subst, Some, None, arith}
use Rattle.std.specs.Prelude.{slice_get}
use Rattle.wy_text.proofs.Lists.{In-slice_get}
use Rattle.wy_types.specs.declared.linked.Instance.{Instance}
use Rattle.wy_types.specs.declared.resolved.ScopeKind.TheVariants as kind
use Rattle.wy_types.specs.Program.{Program, Scope}
use Rattle.wy_types.specs.Core.{ScopeFits}
use Rattle.wy_types.specs.Ground.{instance_of, program_number, program_visited, program_sets, start_list}
use Rattle.wy_rules.specs.GroundTypes.{type_at, read_by, run_instances}
use Rattle.wy_rules.specs.Typing.{field_types}
use Rattle.wy_rules.proofs.Grounding.{ground_typing}
use Rattle.wy_meaning.specs.Starts.{Started, all_started, started_of, scope_started, scope_of_instance}
use Rattle.wy_meaning.specs.Eval.{instance_name, started_name}
use Rattle.wy_sound.specs.Programs.{program_starts}
use Rattle.wy_sound.proofs.Linked.{IsLinked}
use Rattle.wy_sound.proofs.LinkingLists.{read_there}
use Rattle.wy_sound.proofs.Lists.{length_more, some_same, get_mapped, map_append}
use Rattle.wy_sound.proofs.Performing.{last_number}
use Rattle.wy_sound.specs.TypedHeaps.{Placed, fields_at, instance_count}

-- two instances of one number are the same, with the same scope
pub instance_same : (p : Program) (x : ℕ) (a b : Placed p x) → a.instance ≡ b.instance
instance_same p x a b = some_same (sym a.is.there ∙ b.is.there)

pub scope_same : (p : Program) (x : ℕ) (a b : Placed p x) → a.scope ≡ b.scope
scope_same p x a b = some_same (sym a.is.scope ∙ ap (λ (i : Instance). slice_get p.scopes i.scope) (instance_same p x a b) ∙ b.is.scope)

fields_of_number : (p : Program) (x : ℕ) (a b : Placed p x) (l : ℕ) → fields_at p x a l ≡ fields_at p x b l
fields_of_number p x a b l =
    ap (λ (i : Instance). map (λ t. type_at x (read_by i.bound i.ground t)) (field_types a.scope l)) (instance_same p x a b) ∙
    ap (λ s. map (λ t. type_at x (read_by b.instance.bound b.instance.ground t)) (field_types s l)) (scope_same p x a b)

pub fields_same : (p : Program) (x y : ℕ) (a : Placed p x) (b : Placed p y) (l m : ℕ) → x ≡ y → l ≡ m → fields_at p x a l ≡ fields_at p y b m
fields_same p x y a b l m e f =
    let P : ℕ → Type 0 = λ y. (b : Placed p y) → fields_at p x a l ≡ fields_at p y b m in
    subst P e (λ b. fields_of_number p x a b l ∙ ap (fields_at p x b) f) b

module _ (p : Program) (linked : IsLinked p) where
  abbrev main_instance : Instance
  main_instance = instance_of (codes "main") (program_number p) (program_visited p).actuals None (program_sets p)

  main_started : (program_starts p).main ≡ started_of main_instance
  main_started =
      ap (λ n. let v : Started = record { name = codes "main"; scope = n; actuals = (program_starts p).main.actuals } in v) (last_number p.scopes) ∙
      ap (λ l. let v : Started = record { name = codes "main"; scope = length p.scopes - 1; actuals = l } in v) linked.main

  pub started_at : (x : ℕ) (i : Instance) → slice_get (run_instances p) x ≡ Some i →
      slice_get (all_started (program_starts p)) x ≡ Some (started_of i)
  started_at x i e =
      ap (λ m. slice_get (map started_of (start_list p) ++ m ∷ []) x) main_started ∙
      ap (λ l. slice_get l x) (sym (map_append started_of (start_list p) (main_instance ∷ []))) ∙ get_mapped started_of (run_instances p) x i e

  pub scope_there : (x : ℕ) (pl : Placed p x) → scope_of_instance p (program_starts p) x ≡ Some pl.scope
  scope_there x pl = ap (scope_started p) (started_at x pl.instance pl.is.there) ∙ pl.is.scope

  pub name_there : (x : ℕ) (pl : Placed p x) → instance_name (program_starts p) x ≡ pl.instance.name
  name_there x pl = ap started_name (started_at x pl.instance pl.is.there)

  pub scope_fits : (x : ℕ) (pl : Placed p x) → ScopeFits p pl.scope
  scope_fits x pl = linked.core.scopes pl.scope (In-slice_get p.scopes pl.instance.scope pl.scope pl.is.scope)

  place_of : (x : ℕ) (i : Instance) → slice_get (run_instances p) x ≡ Some i → Placed p x
  place_of x i e =
      let f = linked.instances.each x i e in
      record {
        instance = i;
        scope = f.scope;
        is = f.is;
        holds = ground_typing p linked.core x i f.scope f.is (linked.accepted.scopes i.scope f.scope f.is.scope).bodies;
      }

  -- each instance, and `main`, has its place
  pub place : (x : ℕ) → x ≤ instance_count p → Placed p x
  place x le =
      let r = read_there (run_instances p) x (omega (arith, le, length_more (start_list p) main_instance)) in
      place_of x r.0 r.1

  pub kind_main : (x : ℕ) (pl : Placed p x) → pl.scope.kind ≡ kind.Program → x ≡ instance_count p
  kind_main x pl e =
      let f = linked.instances.each x pl.instance pl.is.there in
      let same : pl.scope ≡ f.scope = some_same (sym pl.is.scope ∙ f.is.scope) in
      f.kind.0 (sym (ap (λ (s : Scope). s.kind) same) ∙ e)

  pub main_kind : (x : ℕ) (pl : Placed p x) → x ≡ instance_count p → pl.scope.kind ≡ kind.Program
  main_kind x pl e =
      let f = linked.instances.each x pl.instance pl.is.there in
      let same : pl.scope ≡ f.scope = some_same (sym pl.is.scope ∙ f.is.scope) in
      ap (λ (s : Scope). s.kind) same ∙ f.kind.1 e
