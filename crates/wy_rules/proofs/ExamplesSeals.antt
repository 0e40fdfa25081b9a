-- Modules that are refused for what they hold, for their fields' initialisers, or for the type that they are sealed at.
use Rattle.std.proofs.Common.{ℕ, pos, [], ◌∷◌, refl, inl, inr, true, Some, None}
use Rattle.std.specs.Prelude.{codes}
use Rattle.wy_text.specs.declared.fault.Fault.{Fault}
use Rattle.wy_text.specs.declared.fault.RuleName.{RuleName}
use Rattle.wy_text.specs.declared.fault.RuleName.TheVariants.{TBody, MPure, MAscribe}
use Rattle.wy_effects.specs.AtomTable.{atom_name}
use Rattle.wy_effects.specs.Bounds.{by_member}
use Rattle.wy_effects.proofs.Ordering.{under_onward}
use Rattle.wy_types.specs.declared.types.TypeRef.{TypeRef}
use Rattle.wy_types.specs.declared.types.TypeRef.TheVariants.{Int, Text, Unit as Nothing, Named, Own}
use Rattle.wy_types.specs.declared.resolved.Origin.TheVariants.{Parameter, Instance}
use Rattle.wy_types.specs.declared.resolved.ScopeKind.TheVariants as kind
use Rattle.wy_types.specs.Code as code
use Rattle.wy_types.specs.Program.{Program, Scope}
use Rattle.wy_types.specs.Types.{methods_of, signature}
use Rattle.wy_types.specs.Bounds.{bounds_of}
use Rattle.wy_effects.proofs.Ordering.{none_bounded, unbounded_under}
use Rattle.wy_rules.specs.Readings.{IsBelow, annotated_reading}
use Rattle.wy_rules.specs.Typing.{AllHaveAt}
use Rattle.wy_rules.specs.Failing.{IsLeast, AreLeastAt, IsScopeFault}
use Rattle.wy_rules.proofs.Closed.{annotated_subtype}
use Rattle.wy_rules.proofs.Lawfulness.{annotated_lawful, one_missing}
use Rattle.wy_rules.proofs.Least.{at_type, name_least, text_least, no_values, more_values, call_least, not_at}
use Rattle.wy_rules.proofs.Needs.{not_below, first_has}
use Rattle.wy_rules.proofs.Sources.{at, own_name, one, method, declaration, own, val_field, var_field, object, atoms_of, head, module_of, idle, program}

-- type E
-- type A
--   def a(): {} Unit
abbrev with_module : Scope → Program
with_module s = program (declaration (codes "E") [] [] ∷ declaration (codes "A") [] (method (codes "a") [] [] Nothing ∷ []) ∷ []) (s ∷ idle ∷ [])

abbrev fault : ℕ → ℕ → RuleName → ℕ → Fault
fault line column rule premise = record { place = at line column; rule = rule; premise = premise; atom = None }

------------------------------------------------------------
-- 1  module p: E
-- 2    var n: Int = 1

abbrev with_var : Scope
with_var = module_of (head kind.Pure (at 1 8) (codes "p") [] [] 5 []) (object (var_field (at 2 7) (codes "n") Int ∷ []) ∷ []) (at 1 1) [] (one (code.Number (at 2 16) (pos 1))) []

var_refused : IsScopeFault (with_module with_var) 0 with_var (fault 2 7 MPure 1)
var_refused = record {
  locals = [];
  first = inl (record { expected = None; atom = None; spot = refl; stands_not = λ h. h; premise = (refl, refl); place = refl; rule = refl; lacks = refl });
}

-- 1  module p: E
-- 2    instance i = m()

abbrev with_line : Scope
with_line = module_of (head kind.Pure (at 1 8) (codes "p") [] (own (at 2 12) (codes "i") (Named 5 []) (Instance 1 []) ∷ []) 5 []) (object [] ∷ []) (at 1 1) [] code.none []

line_refused : IsScopeFault (with_module with_line) 0 with_line (fault 2 12 MPure 2)
line_refused = record {
  locals = [];
  first = inl (record { expected = None; atom = None; spot = refl; stands_not = λ h. h; premise = (refl, refl); place = refl; rule = refl; lacks = refl });
}

------------------------------------------------------------
-- 1  resource module m(): A        it has no method `a`

abbrev without_method : Scope
without_method = module_of (head kind.Resource (at 1 17) (codes "m") [] [] 6 []) (object [] ∷ []) (at 1 1) [] code.none []

no_method : IsBelow (annotated_reading (with_module without_method) 0) (Own 0) (Named 6 []) → ⊥
no_method h =
    elim (h.closed (Own 0, Named 6 []) h.first) [
      | inl base ↦ base.1 tt
      | inr object ↦ object.2 (signature (method (codes "a") [] [] Nothing)) (inl refl)
    ]

seal_refused : IsScopeFault (with_module without_method) 0 without_method (fault 1 17 MAscribe 1)
seal_refused = record {
  locals = [];
  first =
      inr (
        record { expected = None; spot = refl; stands = ([], (no_values (annotated_reading (with_module without_method) 0) (annotated_lawful (with_module without_method) 0) without_method [] None).have, λ a i. by_member a i); settles = tt },
        inl (record { expected = None; atom = None; spot = refl; stands_not = λ h. no_method h.0; premise = inl (no_method, refl, refl); place = refl; rule = refl; lacks = refl }),
      );
}

------------------------------------------------------------
-- 1  resource module m(): E
-- 2    val n: Int = "t"            the fault of an `init` without a line of its own is at the module's first word

abbrev with_text : Scope
with_text = module_of (head kind.Resource (at 1 17) (codes "m") [] [] 5 []) (object (val_field (at 2 7) (codes "n") Int ∷ []) ∷ []) (at 1 1) [] (one (code.Quoted (at 2 16) (codes "t"))) []

initialiser_refused : IsScopeFault (with_module with_text) 0 with_text (fault 1 1 TBody 1)
initialiser_refused =
    let y = annotated_reading (with_module with_text) 0 in
    let w = annotated_lawful (with_module with_text) 0 in
    let least = text_least y w with_text [] None (at 2 16) (codes "t") (annotated_subtype (methods_of (with_module with_text) 0) ((Text, Text) ∷ []) Text Text refl refl) in
    let wrong : AllHaveAt (annotated_reading (with_module with_text) 0) with_text [] None (one (code.Quoted (at 2 16) (codes "t"))) (Int ∷ []) → ⊥ = λ h.
    not_at y w with_text [] None _ Text Int [] least (not_below y w Text Int (λ e. cc) (λ o. o)) (first_has y w with_text [] None _ _ Int [] h) in
    record {
      locals = [];
      first = inl (record {
        expected = None;
        atom = None;
        spot = refl;
        stands_not = λ h. wrong (record { effect = h.0; have = h.1 });
        premise = inl (inl (wrong, refl), refl);
        place = refl;
        rule = refl;
        lacks = refl;
      });
    }

------------------------------------------------------------
-- 1  resource module m(d: Clock): E
-- 2    val n: Int = d.now()        `init` declares no effect

abbrev clock : TypeRef
clock = Named 2 ((0 ∷ []) ∷ [])

abbrev now_call : code.Expr
now_call = code.Call (at 2 18) (own_name (at 2 16) 0) (codes "now") code.none

abbrev with_clock : Scope
with_clock =
    module_of (head kind.Resource (at 1 17) (codes "m") (atoms_of (codes "d") (codes "Tick" ∷ [])) (own (at 1 19) (codes "d") clock (Parameter true) ∷ []) 5 [])
    (object (val_field (at 2 7) (codes "n") Int ∷ []) ∷ []) (at 1 1) [] (one now_call) []

now_least : IsLeast (annotated_reading (with_module with_clock) 0) with_clock [] None (code.Plain now_call) Int (0 ∷ [])
now_least =
    let y = annotated_reading (with_module with_clock) 0 in
    let w = annotated_lawful (with_module with_clock) 0 in
    let itself : IsBelow y clock clock = annotated_subtype (methods_of (with_module with_clock) 0) ((clock, clock) ∷ (Int, Int) ∷ []) clock clock refl refl in
    call_least y w with_clock [] None _ _ _ _ clock [] _ [] (name_least y w with_clock [] None _ _ clock refl itself) tt refl (no_values y w with_clock [] None)
    (annotated_subtype (methods_of (with_module with_clock) 0) ((Int, Int) ∷ []) Int Int refl refl)

init_least : AreLeastAt (annotated_reading (with_module with_clock) 0) with_clock [] None (one now_call) (Int ∷ []) (0 ∷ [])
init_least =
    let y = annotated_reading (with_module with_clock) 0 in
    let w = annotated_lawful (with_module with_clock) 0 in
    more_values y w with_clock [] None _ _ Int [] (0 ∷ []) [] (at_type y w with_clock [] None _ Int Int (0 ∷ []) now_least (inl refl)) (no_values y w with_clock [] None)

init_refused : IsScopeFault (with_module with_clock) 0 with_clock (record { place = at 1 1; rule = TBody; premise = 2; atom = Some (atom_name (codes "d") (codes "Tick")) })
init_refused = record {
  locals = [];
  first =
      inr (
        record { expected = None; spot = refl; stands = record { typ = Int; effect = 0 ∷ []; has = now_least.has }; settles = tt },
        inl (record {
          expected = None;
          atom = Some 0;
          spot = refl;
          stands_not = λ h. unbounded_under (bounds_of (with_module with_clock) 0) (none_bounded 1) [] 0 (under_onward (bounds_of (with_module with_clock) 0) h.0 [] 0 (init_least.least h.0 h.1 0 (inl refl)) h.2);
          premise = inr (0 ∷ [], 0, init_least, one_missing (with_module with_clock) 0 (none_bounded 1) 0 [] (λ i. i), refl, refl);
          place = refl;
          rule = refl;
          lacks = refl;
        }),
      );
}
