-- Members with an upper bound:
--
-- 1  type Quiet
-- 2    effect E <= {}
-- 3    def f(): {E} Int
-- 4  resource module ask(q: Quiet): Quiet
-- 5    effect E = {}
-- 6    def f(): {E} Int = q.f()
use Rattle.std.proofs.Common.{◌≡◌, ℕ, zero, suc, ◌≤◌, List, [], ◌∷◌, ◌++◌, refl, sym, subst, inl, inr, true, Some, None, arith}
use Rattle.std.specs.Prelude.{codes, slice_get}
use Rattle.wy_text.specs.declared.fault.RuleName.TheVariants.{MAscribe, MInst}
use Rattle.wy_effects.specs.AtomTable.{atom_name}
use Rattle.wy_effects.specs.Bounds.{Bounds, IsUnder, by_member, by_bound}
use Rattle.wy_effects.proofs.Ordering.{none_bounded, unbounded_under}
use Rattle.wy_types.specs.declared.types.TypeRef.{TypeRef}
use Rattle.wy_types.specs.declared.types.TypeRef.TheVariants.{Int, Named, Own}
use Rattle.wy_types.specs.declared.types.Method.{Method}
use Rattle.wy_types.specs.declared.resolved.TypeDecl.{TypeDecl}
use Rattle.wy_types.specs.declared.resolved.Origin.TheVariants.{Parameter, Grant, Instance}
use Rattle.wy_types.specs.declared.resolved.ScopeKind.TheVariants as kind
use Rattle.wy_types.specs.Code as code
use Rattle.wy_types.specs.Program.{Program, Scope}
use Rattle.wy_types.specs.Types.{methods_of}
use Rattle.wy_types.specs.Bounds.{bounds_of, declared_bounds}
use Rattle.wy_rules.specs.Readings.{annotated_reading}
use Rattle.wy_rules.specs.Derivations.{T-Var, T-Call, none, Result, T-Body, T-Body-Init}
use Rattle.wy_rules.specs.Typing.{Has, ScopeHolds}
use Rattle.wy_rules.specs.Acceptance.{Handed, HasMembers, IsArgument, SealHolds, DefinitionsRespect, AscriptionHolds}
use Rattle.wy_rules.specs.Nodes.{line_nodes}
use Rattle.wy_rules.specs.Failing.{FirstOutside, FirstFailing, IsScopeFault}
use Rattle.wy_rules.proofs.Closed.{annotated_subtype}
use Rattle.wy_rules.proofs.Each.{arguments_hold, members_hold}
use Rattle.wy_rules.proofs.Outside.{outside_disrespects}
use Rattle.wy_rules.proofs.Sources.{at, own_name, last, method, own, object, body, atoms_of, head, module_of, main_of, idle, program}

abbrev f_method : Method
f_method = method (codes "f") [] (0 ∷ []) Int

-- a type of one member, with this bound
abbrev pub member_type : List ℕ → Bounds → TypeDecl
member_type name bounds = record { name = name; members = codes "E" ∷ []; bounds = bounds; defined = []; methods = f_method ∷ [] }

abbrev pub quiet_type : TypeDecl
quiet_type = member_type (codes "Quiet") (Some [] ∷ [])

-- a scope whose atoms have these bounds
abbrev pub with_bounds : Bounds → Scope → Scope
with_bounds bounds s = record {
  kind = s.kind;
  name = s.name;
  place = s.place;
  atoms = s.atoms;
  bounds = bounds;
  names = s.names;
  ascribed = s.ascribed;
  definitions = s.definitions;
  literals = s.literals;
  start_place = s.start_place;
  start_effect = s.start_effect;
  start = s.start;
  bodies = s.bodies;
}

abbrev quiet : List ℕ → TypeRef
quiet set = Named 5 (set ∷ [])

abbrev f_call : code.Expr
f_call = code.Call (at 6 24) (own_name (at 6 22) 0) (codes "f") code.none

abbrev ask : Scope
ask =
    with_bounds (Some [] ∷ [])
    (module_of (head kind.Resource (at 4 17) (codes "ask") (atoms_of (codes "q") (codes "E" ∷ [])) (own (at 4 21) (codes "q") (quiet (0 ∷ [])) (Parameter true) ∷ []) 5 ([] ∷ []))
    (object [] ∷ []) (at 4 1) [] code.none
    (body 0 (at 6 3) (method (codes "f") [] [] Int) (last f_call) ∷ []))

abbrev p : Program
p = program (quiet_type ∷ []) (ask ∷ idle ∷ [])

-- `q.E` is within the empty set by its bound
within_nothing : (a : ℕ) → a ≡ 0 → IsUnder (bounds_of p 0) [] a
within_nothing a e = subst (IsUnder (bounds_of p 0) []) (sym e) (by_bound 0 [] refl (λ c i. absurd i))

-- T-Body, premise 2: the effect of `q.f()` is within the declared one, which is empty
quiet_holds : ScopeHolds (annotated_reading p 0) ask
quiet_holds = record {
  derivation = record {
    locals = [];
    start = T-Body-Init (at 4 1) none;
    bodies = T-Body (at 6 3) (Result (T-Call (at 6 24) (T-Var (at 6 22)) (quiet (0 ∷ [])) [] none)) (0 ∷ []) ∷ [];
  };
  derives = (
    (refl, tt, λ a i. by_member a i),
    ((refl, (_, refl, (refl, refl, refl), tt, refl, tt, refl, refl), λ a i. elim i [ inl e ↦ within_nothing a (sym e) | inr z ↦ absurd z ]), tt),
  );
}

-- M-Ascribe: its own type is a Quiet whose member is empty, and the definition is within the bound
quiet_sealed : AscriptionHolds p 0 ask
quiet_sealed = (
  annotated_subtype (methods_of p 0) ((Own 0, quiet []) ∷ (Int, Int) ∷ []) (Own 0) (quiet []) refl refl,
  respected,
)
  where
    respected : DefinitionsRespect p 0 ask (Some 5)
    respected zero b e a i = absurd i
    respected (suc m) b e a i = absurd i

------------------------------------------------------------
-- 4  resource module bad(c: Clock): Quiet
-- 5    effect E = {c.Tick}
-- 6    def f(): {E} Int = c.now()

abbrev clock : TypeRef
clock = Named 2 ((0 ∷ []) ∷ [])

abbrev now_call : code.Expr
now_call = code.Call (at 6 24) (own_name (at 6 22) 0) (codes "now") code.none

abbrev bad : Scope
bad =
    module_of (head kind.Resource (at 4 17) (codes "bad") (atoms_of (codes "c") (codes "Tick" ∷ [])) (own (at 4 21) (codes "c") clock (Parameter true) ∷ []) 5 ((0 ∷ []) ∷ []))
    (object [] ∷ []) (at 4 1) [] code.none
    (body 0 (at 6 3) (method (codes "f") [] (0 ∷ []) Int) (last now_call) ∷ [])

abbrev r : Program
r = program (quiet_type ∷ []) (bad ∷ idle ∷ [])

now_has : Has (annotated_reading r 0) bad [] (Some 0) (code.Plain now_call) Int (0 ∷ [])
now_has = record { derivation = T-Call (at 6 24) (T-Var (at 6 22)) clock [] none; derives = (_, refl, (refl, refl, refl), tt, refl, tt, refl, refl) }

bad_sealed : SealHolds (annotated_reading r 0) bad (Some 5)
bad_sealed = annotated_subtype (methods_of r 0) ((Own 0, quiet (0 ∷ [])) ∷ (Int, Int) ∷ []) (Own 0) (quiet (0 ∷ [])) refl refl

-- the clock's atom has no bound
not_within : IsUnder (bounds_of r 0) [] 0 → ⊥
not_within h = unbounded_under (bounds_of r 0) (none_bounded 1) [] 0 h

-- the one member's definition has `c.Tick`, which is not within the empty bound
tick_outside : FirstOutside (declared_bounds r 5) (bounds_of r 0) bad.definitions 0
tick_outside = record {
  member = 0;
  bound = [];
  bounded = refl;
  lacks = (inl refl, not_within, λ b i n. elim i [ inl e ↦ subst (λ v. 0 ≤ v) e (omega arith) | inr z ↦ absurd z ]);
  first = λ j c l e. absurd (omega (arith, l));
}

-- line 4, column 17: M-Ascribe, premise 2, lacks c.Tick
bad_refused : IsScopeFault r 0 bad (record { place = at 4 17; rule = MAscribe; premise = 2; atom = Some (atom_name (codes "c") (codes "Tick")) })
bad_refused = record {
  locals = [];
  first =
      inr (
        record { expected = None; spot = refl; stands = ([], record { derivations = none; derives = tt; effects = refl }, λ a i. by_member a i); settles = tt },
        inr (
          record { expected = None; spot = refl; stands = record { typ = Int; effect = 0 ∷ []; has = now_has }; settles = tt },
          inr (
            record { expected = None; spot = refl; stands = (0 ∷ [], record { derivation = Result now_has.derivation; derives = now_has.derives }, λ a i. by_member a i); settles = tt },
            inl (record {
              expected = None;
              atom = Some 0;
              spot = refl;
              stands_not = λ h. outside_disrespects (declared_bounds r 5) (bounds_of r 0) bad.definitions 0 tick_outside h.1;
              premise = inr (bad_sealed, refl, refl, tick_outside);
              place = refl;
              rule = refl;
              lacks = refl;
            }),
          ),
        ),
      );
}

------------------------------------------------------------
-- 1  type Quiet .. as above, 4  type Loud, 5  effect E, 6  def f(): {E} Int
-- 7  resource module ask(q: Quiet): Quiet .. as above
-- 10 resource module loud(c: Clock): Loud
-- 13 program
-- 14   grant clock: Clock
-- 15   instance l = loud(clock)
-- 16   instance a = ask(l)

abbrev loud_type : TypeDecl
loud_type = member_type (codes "Loud") (None ∷ [])

abbrev loud : Scope
loud =
    module_of (head kind.Resource (at 10 17) (codes "loud") (atoms_of (codes "c") (codes "Tick" ∷ [])) (own (at 10 22) (codes "c") clock (Parameter true) ∷ []) 6 ((0 ∷ []) ∷ []))
    (object [] ∷ []) (at 10 1) [] code.none
    (body 0 (at 12 3) (method (codes "f") [] (0 ∷ []) Int) (last now_call) ∷ [])

abbrev main : Scope
main =
    with_bounds (None ∷ None ∷ Some [] ∷ [])
    (main_of (atoms_of (codes "clock") (codes "Tick" ∷ []) ++ (atoms_of (codes "l") (codes "E" ∷ []) ++ atoms_of (codes "a") (codes "E" ∷ [])))
    (own (at 14 9) (codes "clock") clock Grant ∷ own (at 15 12) (codes "l") (Named 6 ((1 ∷ []) ∷ [])) (Instance 1 (0 ∷ [])) ∷
    own (at 16 12) (codes "a") (quiet (2 ∷ [])) (Instance 0 (1 ∷ [])) ∷ [])
    [] (at 17 3) [] (last (code.Nothing (at 18 5))) [])

abbrev l : Program
l = program (quiet_type ∷ loud_type ∷ []) (ask ∷ loud ∷ main ∷ [])

abbrev handed_q : Handed
handed_q = record { parameter = own (at 4 21) (codes "q") (quiet (0 ∷ [])) (Parameter true); argument = 1 }

-- `l.E` has no bound; of the program's atoms the third one has
l_not_within : (a : ℕ) → a ≡ 1 → IsUnder (bounds_of l 2) [] a → ⊥
l_not_within _ e (by_member a i) = i
l_not_within _ e (by_bound a b g h) = absurd (let f : slice_get (bounds_of l 2) 1 ≡ Some (Some b) = subst (λ v. slice_get (bounds_of l 2) v ≡ Some (Some b)) e g in cc)

-- the argument's member is {l.E}, which is not within the empty bound of the parameter's
l_outside : FirstOutside (declared_bounds l 5) (bounds_of l 2) ((1 ∷ []) ∷ []) 1
l_outside = record {
  member = 0;
  bound = [];
  bounded = refl;
  lacks = (inl refl, l_not_within 1 refl, λ b i n. elim i [ inl e ↦ subst (λ v. 1 ≤ v) e (omega arith) | inr z ↦ absurd z ]);
  first = λ j c s e. absurd (omega (arith, s));
}

-- line 16, column 12: M-Inst, premise 5, lacks l.E
loud_refused : FirstFailing l 2 main [] (line_nodes (own (at 16 12) (codes "a") (quiet (2 ∷ [])) (Instance 0 (1 ∷ []))) (Instance 0 (1 ∷ []))) (record { place = at 16 12; rule = MInst; premise = 5; atom = Some (atom_name (codes "l") (codes "E")) })
loud_refused = inl (record {
  expected = None;
  atom = Some 1;
  spot = refl;
  stands_not = λ h. outside_disrespects (declared_bounds l 5) (bounds_of l 2) ((1 ∷ []) ∷ []) 1 l_outside (h.bounds handed_q (inl refl));
  premise = inr (
    record {
      resource = (ask, refl, refl);
      numbers = refl;
      members = arguments_hold l 2 main.names (HasMembers l 2 main.names) 0 (1 ∷ []) (members_hold l 2 main.names handed_q ((_, refl), tt), tt);
      types = arguments_hold l 2 main.names (IsArgument l 2 main.names ((1 ∷ []) ∷ [])) 0 (1 ∷ [])
          (annotated_subtype (methods_of l 2) ((Named 6 ((1 ∷ []) ∷ []), quiet (1 ∷ [])) ∷ (Int, Int) ∷ []) (Named 6 ((1 ∷ []) ∷ [])) (quiet (1 ∷ [])) refl refl, tt);
    },
    refl,
    inl ((λ h. outside_disrespects (declared_bounds l 5) (bounds_of l 2) ((1 ∷ []) ∷ []) 1 l_outside h), l_outside),
  );
  place = refl;
  rule = refl;
  lacks = refl;
})
